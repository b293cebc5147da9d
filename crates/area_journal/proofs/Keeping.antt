-- A write of the bytes of a vector is a write of the journal.
use Rattle.std.proofs.Common.{◌≡◌, ℕ, Bool, true, List, length, None, Ok, Err, vec_items, Result, Vec, sym, ap, ◌∙◌}
use Rattle.std.specs.Vec.{with_items}
use Rattle.std.specs.declared.alloc.Global.{Global}
use Rattle.std.proofs.lemmas.List.{with_items_is}
use Rattle.journal.specs.declared.writes.Write.{Write}
use Rattle.journal.specs.Meaning.{Writes, taken}
use Rattle.area_journal.specs.declared.areas.AreaJournal.{AreaJournal}
use Rattle.area_journal.specs.declared.faults.NotOpened.{NotOpened}
use Rattle.area_journal.specs.Journals.{bytes_of, tells, may_lie_behind, Opens, Again}
use Rattle.area_journal.specs.Opening.{is_sound, fault}
use Rattle.area_journal.proofs.Checks.{some_none}
use Rattle.area_journal.specs.Reading.{meaning_of}
use Rattle.area_journal.specs.Writing.{written, NumbersFit, Does}
use Rattle.area_journal.proofs.Doing.{did}
use Rattle.area_journal.proofs.Histories.{behind_more}

-- a write that is taken, made in the bytes of a vector
pub did_in : (w : Write) (v : Vec ℕ Global) (area exit : List ℕ) (r : Bool) → area ≡ vec_items v
    → length exit ≡ v.len
    → is_sound (vec_items v) ≡ true
    → NumbersFit w
    → r ≡ taken w (meaning_of (vec_items v))
    → r ≡ true
    → exit ≡ written w area
    → Does w (vec_items v) (vec_items (with_items v exit)) r
did_in w v area exit r e l sound f t y x =
    did w (vec_items v) (vec_items (with_items v exit)) r sound f t y (with_items_is v exit l ∙ x ∙ ap (written w) e)

-- a write of the bytes of a journal is a write of the journal
pub writes_does : (w : Write) (old new : AreaJournal) (r : Bool) → Does w (bytes_of old) (bytes_of new) r
    → Writes tells may_lie_behind w old new r
writes_does w old new r d =
    record {
      answer = d.answer;
      after = d.after;
      behind = λ ws b. rw (d.after) (behind_more w (meaning_of (bytes_of old)) ws b);
    }

-- the bytes of a journal, opened again
pub opened_again : (area : List ℕ) → fault area ≡ None → (x : Result AreaJournal NotOpened)
    → Opens area x
    → Again (meaning_of area) x
opened_again area sound (Ok j) o = ap meaning_of o.1
opened_again area sound (Err e) o = some_none (sym o.0 ∙ sound)
