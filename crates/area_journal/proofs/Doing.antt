-- A write that is taken does what it must.
use Rattle.std.proofs.Common.{◌≡◌, ℕ, Bool, true, List, sym, ap, ◌∙◌, subst}
use Rattle.journal.specs.declared.writes.Write.{Write}
use Rattle.journal.specs.declared.writes.Write.TheVariants.{Promise, Put, Settle}
use Rattle.journal.specs.Meaning.{taken, after}
use Rattle.area_journal.specs.Opening.{is_sound}
use Rattle.area_journal.specs.Reading.{meaning_of}
use Rattle.area_journal.specs.Writing.{written, NumbersFit, Does}
use Rattle.area_journal.proofs.Checks.{Sound, sound_parts}
use Rattle.area_journal.proofs.Meanings.{does}
use Rattle.area_journal.proofs.Puts.{left_put}
use Rattle.area_journal.proofs.Settles.{left_settle}
use Rattle.area_journal.proofs.Writes.{Left, left_promise}

pub left_by : (w : Write) (area : List ℕ) → Sound area → NumbersFit w → taken w (meaning_of area) ≡ true
    → Left (written w area) (after w (meaning_of area))
left_by (Promise b) area s f t = left_promise area b s f t
left_by (Put n b c) area s f t = left_put area n b c s f.0 f.1 f.2 t
left_by (Settle c) area s f t = left_settle area c s f t

pub did : (w : Write) (area exit : List ℕ) (r : Bool) → is_sound area ≡ true → NumbersFit w
    → r ≡ taken w (meaning_of area)
    → r ≡ true
    → exit ≡ written w area
    → Does w area exit r
did w area exit r sound f t y e =
    let left = left_by w area (sound_parts area sound) f (sym t ∙ y) in
    does w area exit r t y e (subst Sound (sym e) left.sound) (ap meaning_of e ∙ left.means)
