-- Which areas opening accepts, and the fault that it finds first in the others.
use Rattle.std.specs.Prelude.{ℕ, Bool, true, false, not, cond, ◌&&◌, ◌||◌, List, length, Some, None, Option, ◌==◌, nat_le, nat_lt, slice_index}
use Rattle.std.specs.List.{find, range_with_len}
use Rattle.std.specs.Str.{bytes_eq}
use Rattle.octets.specs.Areas.{part}
use Rattle.command.specs.Commands.{well_formed}
use Rattle.journal.specs.Windows.{in_window, place_of, span}
use Rattle.area_journal.specs.declared.faults.OpenFault.{OpenFault}
use Rattle.area_journal.specs.declared.faults.OpenFault.TheVariants.{NoRecord, Broken}
use Rattle.area_journal.specs.Layout.{count_at, record_bytes, place_at, record_at, blank_bytes, command_of, slot_of, entry_of}
use Rattle.area_journal.specs.Reading.{shortest, capacity_of, promised_of, count_of, place_in, record_in}

-- the numbers of the refusals
abbrev pub refusal_number : OpenFault → ℕ
refusal_number NoRecord = 12
refusal_number (Broken _) = 13

-- the bytes of a record are in order: its 00 byte is 00, and its command is well formed
abbrev pub record_good : List ℕ → Bool
record_good bs = slice_index bs 1 == 0 && well_formed (command_of bs)

-- the bytes of place i hold an entry of a slot of theirs in the window after p settled slots, of the c that there are,
-- with a ballot from 1 to the promised one
abbrev pub is_held : ℕ → ℕ → ℕ → ℕ → List ℕ → Bool
is_held c promised p i bs =
    (place_of (slot_of bs) == i) && in_window p (slot_of bs) && nat_le (slot_of bs) c && nat_le 1 (entry_of bs).ballot
    && nat_le (entry_of bs).ballot promised
    && record_good (part 8 record_bytes bs)

-- the bytes of place i are in order: all 00, or an entry that may stand there
abbrev pub place_good : ℕ → ℕ → ℕ → ℕ → List ℕ → Bool
place_good c promised p i bs = bytes_eq bs blank_bytes || is_held c promised p i bs

-- place i and record i of an area are in order
unfoldable pub place_is_good : List ℕ → ℕ → Bool
place_is_good area i = place_good (capacity_of area) (promised_of area) (count_of area) i (place_in area i)

unfoldable pub record_is_good : List ℕ → ℕ → Bool
record_is_good area i = record_good (record_in area i)

-- the first of the k numbers from i on that fails a test
abbrev pub first_bad : (ℕ → Bool) → ℕ → ℕ → Option ℕ
first_bad good i k = find (λ j. not (good j)) (range_with_len i k)

-- the fault of the part that was found bad, or else what later checks find
abbrev pub or_later : (ℕ → ℕ) → Option ℕ → Option OpenFault → Option OpenFault
or_later at None later = later
or_later at (Some i) later = Some (Broken (at i))

-- what opening finds: no space for a record, or the offset of the first part that is not in order: the count, the
-- places, the settled records
unfoldable pub fault : List ℕ → Option OpenFault
fault area =
    cond (nat_lt (length area) shortest) (Some NoRecord)
    (cond (nat_le (count_of area) (capacity_of area))
    (or_later place_at (first_bad (place_is_good area) 0 span)
    (or_later record_at (first_bad (record_is_good area) 0 (count_of area)) None))
    (Some (Broken count_at)))

abbrev pub is_none : Option OpenFault → Bool
is_none None = true
is_none (Some _) = false

-- opening accepts the area
unfoldable pub is_sound : List ℕ → Bool
is_sound area = is_none (fault area)
