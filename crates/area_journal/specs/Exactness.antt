-- The areas that opening accepts are those that hold the layout of a meaning, and only of one.
use Rattle.std.specs.Prelude.{◌≡◌, ℕ, ◌+◌, ◌-◌, ◌%◌, ◌^◌, ◌<◌, ◌≤◌, true, cond, ◌⊎◌, List, length, None, ◌==◌, slice_index_or}
use Rattle.octets.specs.Areas.{part}
use Rattle.octets.specs.Numbers.{le}
use Rattle.command.specs.declared.Command.{Command}
use Rattle.command.specs.Commands.{well_formed, Sized}
use Rattle.journal.specs.declared.writes.Entry.{Entry}
use Rattle.journal.specs.Meaning.{Meaning, Within, settled_count, noop, blank}
use Rattle.area_journal.specs.Layout.{promised_at, count_at, command_bytes, entry_bytes, blank_bytes}
use Rattle.area_journal.specs.Reading.{shortest, capacity_of, place_in, record_in, meaning_of}
use Rattle.area_journal.specs.Opening.{fault}

-- the slot of place i in the window after p settled slots
abbrev pub slot_at : ℕ → ℕ → ℕ
slot_at p i = p + 1 + (i + 8 - (p + 1) % 8) % 8

-- the bytes of an entry in place i, all 00 for the blank one
abbrev pub place_laid : ℕ → ℕ → Entry → List ℕ
place_laid p i e = cond (e.ballot == 0) blank_bytes (entry_bytes (slot_at p i) e.ballot e.command)

-- the area holds the layout of a meaning; what stands past the settled records is not told
pub record Laid (area : List ℕ) (m : Meaning) : Type 0 where
  pub long : shortest ≤ length area
  pub capacity : capacity_of area ≡ m.capacity
  pub promised : part promised_at 4 area ≡ le 4 m.promised
  pub count : part count_at 4 area ≡ le 4 (settled_count m)
  pub places : (i : ℕ) → i < 8 → place_in area i ≡ place_laid (settled_count m) i (slice_index_or m.places i blank)
  pub records : (i : ℕ) → i < settled_count m → record_in area i ≡ command_bytes (slice_index_or m.settled i noop)

-- a command that may be stored
pub record Stored (c : Command) : Type 0 where
  pub formed : well_formed c ≡ true
  pub sized : Sized c

-- an entry of slot n that was put
pub record Entered (c promised n : ℕ) (e : Entry) : Type 0 where
  pub within : n ≤ c
  pub some : 1 ≤ e.ballot
  pub most : e.ballot ≤ promised
  pub command : Stored e.command

-- a meaning that a journal may come to
pub record Sensible (m : Meaning) : Type 0 where
  pub within : Within m
  pub promised : m.promised < 256 ^ 4
  pub entries : (i : ℕ) → i < 8 → (slice_index_or m.places i blank ≡ blank)
      ⊎ Entered m.capacity m.promised (slot_at (settled_count m) i) (slice_index_or m.places i blank)
  pub commands : (i : ℕ) → i < settled_count m → Stored (slice_index_or m.settled i noop)

-- an area is accepted exactly where it holds the layout of a meaning that a journal may come to, which is its own
pub record Exact (area : List ℕ) : Type 0 where
  pub only : fault area ≡ None → Laid area (meaning_of area) × Sensible (meaning_of area)
  pub all : (m : Meaning) → Laid area m → Sensible m → (fault area ≡ None) × (meaning_of area ≡ m)
