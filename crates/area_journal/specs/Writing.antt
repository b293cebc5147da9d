-- What the writes of a journal change in its area.
use Rattle.std.specs.Prelude.{◌≡◌, ℕ, ◌+◌, ◌^◌, ◌<◌, Bool, true, cond, List}
use Rattle.octets.specs.Areas.{over}
use Rattle.octets.specs.Numbers.{le}
use Rattle.command.specs.declared.Command.{Command}
use Rattle.command.specs.Commands.{Sized}
use Rattle.journal.specs.declared.writes.Write.{Write}
use Rattle.journal.specs.declared.writes.Write.TheVariants.{Promise, Put, Settle}
use Rattle.journal.specs.Meaning.{taken, step}
use Rattle.journal.specs.Windows.{place_of}
use Rattle.area_journal.specs.Layout.{promised_at, count_at, place_at, record_at, command_bytes, entry_bytes, blank_bytes}
use Rattle.area_journal.specs.Reading.{count_of, meaning_of}
use Rattle.area_journal.specs.Opening.{is_sound}

-- the area with a command in record p, p + 1 settled slots, and no entry in the place of slot p + 1
abbrev pub settled_area : List ℕ → ℕ → Command → List ℕ
settled_area area p c =
    over (over (over area (record_at p) (command_bytes c)) count_at (le 4 (p + 1))) (place_at (place_of (p + 1))) blank_bytes

-- the area after a write that is taken: all other bytes stay
unfoldable pub written : Write → List ℕ → List ℕ
written (Promise b) area = over area promised_at (le 4 b)
written (Put n b c) area = over area (place_at (place_of n)) (entry_bytes n b c)
written (Settle c) area = settled_area area (count_of area) c

-- the numbers of a write fit their widths
abbrev pub NumbersFit : Write → Type 0
NumbersFit (Promise b) = b < 256 ^ 4
NumbersFit (Put n b c) = (n < 256 ^ 4) × (b < 256 ^ 4) × Sized c
NumbersFit (Settle c) = Sized c

-- what a write does: it answers whether it is taken, writes exactly its bytes if it is, means what it must, and leaves
-- an area that can be opened again
pub record Does (w : Write) (area exit : List ℕ) (r : Bool) : Type 0 where
  pub answer : r ≡ taken w (meaning_of area)
  pub bytes : exit ≡ cond (taken w (meaning_of area)) (written w area) area
  pub after : meaning_of exit ≡ step w (meaning_of area)
  pub sound : is_sound exit ≡ true
