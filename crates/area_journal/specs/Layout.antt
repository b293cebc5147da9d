-- The layout of a journal in an area of bytes: where each part stands, and the bytes of commands and open entries.
-- Numbers stand with their lowest byte first.
use Rattle.std.specs.Prelude.{ℕ, ◌+◌, ◌*◌, List, ◌∷◌, ◌++◌, replicate, slice_index}
use Rattle.octets.specs.Areas.{part}
use Rattle.octets.specs.Numbers.{le, num}
use Rattle.command.specs.declared.Command.{Command}
use Rattle.command.specs.Commands.{serial_bytes}
use Rattle.journal.specs.declared.writes.Entry.{Entry}
use Rattle.journal.specs.Windows.{span}

-- the promised ballot stands at offset 0, the settled count after it
abbrev pub promised_at : ℕ
promised_at = 0

abbrev pub count_at : ℕ
count_at = 4

-- the bytes of a command: verb, 00, origin, serial, a, b
abbrev pub record_bytes : ℕ
record_bytes = 8 + serial_bytes

-- the bytes of an open entry: slot, ballot, command
abbrev pub place_bytes : ℕ
place_bytes = 8 + record_bytes

-- where place i stands, i from 0 to 7
abbrev pub place_at : ℕ → ℕ
place_at i = 8 + place_bytes * i

-- where the settled records begin, after the eight places
abbrev pub records_at : ℕ
records_at = 8 + place_bytes * span

-- where settled record i stands, i from 0: that of slot i + 1
abbrev pub record_at : ℕ → ℕ
record_at i = records_at + record_bytes * i

-- the bytes of a command
abbrev pub command_bytes : Command → List ℕ
command_bytes c =
    c.verb ∷ 0 ∷ (le 2 c.origin ++ (le serial_bytes c.serial ++ (le 2 c.a ++ le 2 c.b)))

-- the bytes of the open entry of slot n
abbrev pub entry_bytes : ℕ → ℕ → Command → List ℕ
entry_bytes n ballot c = le 4 n ++ (le 4 ballot ++ command_bytes c)

-- the bytes of a place in which no entry stands
abbrev pub blank_bytes : List ℕ
blank_bytes = replicate place_bytes 0

-- the command that the bytes of a record tell
abbrev pub command_of : List ℕ → Command
command_of bs =
    record {
      verb = slice_index bs 0;
      origin = num (part 2 2 bs);
      serial = num (part 4 serial_bytes bs);
      a = num (part (4 + serial_bytes) 2 bs);
      b = num (part (6 + serial_bytes) 2 bs);
    }

-- the slot and the entry that the bytes of a place tell
abbrev pub slot_of : List ℕ → ℕ
slot_of bs = num (part 0 4 bs)

abbrev pub entry_of : List ℕ → Entry
entry_of bs = record { ballot = num (part 4 4 bs); command = command_of (part 8 record_bytes bs) }
