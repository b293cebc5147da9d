-- What an area of bytes means as a journal.
use Rattle.std.specs.Prelude.{ℕ, ◌+◌, ◌-◌, ◌/◌, min, List, map, length}
use Rattle.std.specs.List.{range_with_len}
use Rattle.octets.specs.Areas.{part}
use Rattle.octets.specs.Numbers.{num}
use Rattle.command.specs.declared.Command.{Command}
use Rattle.journal.specs.declared.writes.Entry.{Entry}
use Rattle.journal.specs.Meaning.{Meaning}
use Rattle.journal.specs.Windows.{span}
use Rattle.area_journal.specs.Layout.{promised_at, count_at, record_bytes, place_bytes, place_at, records_at, record_at}
use Rattle.area_journal.specs.Layout.{command_of, entry_of}

-- the shortest area: it has space for one settled record
abbrev pub shortest : ℕ
shortest = records_at + record_bytes

-- as many slots as the area has whole records, at most 60,000
abbrev pub capacity_of : List ℕ → ℕ
capacity_of area = min ((length area - records_at) / record_bytes) 60000

abbrev pub promised_of : List ℕ → ℕ
promised_of area = num (part promised_at 4 area)

abbrev pub count_of : List ℕ → ℕ
count_of area = num (part count_at 4 area)

-- the bytes of place i and of settled record i
abbrev pub place_in : List ℕ → ℕ → List ℕ
place_in area i = part (place_at i) place_bytes area

abbrev pub record_in : List ℕ → ℕ → List ℕ
record_in area i = part (record_at i) record_bytes area

-- the command in settled record i, and the entry in place i
abbrev pub command_in : List ℕ → ℕ → Command
command_in area i = command_of (record_in area i)

abbrev pub entry_in : List ℕ → ℕ → Entry
entry_in area i = entry_of (place_in area i)

-- the settled commands are those of the first records, as many as are counted; each place holds its slot's open entry
unfoldable pub meaning_of : List ℕ → Meaning
meaning_of area =
    record {
      capacity = capacity_of area;
      promised = promised_of area;
      settled = map (command_in area) (range_with_len 0 (count_of area));
      places = map (entry_in area) (range_with_len 0 span);
    }
