-- What a reader of the code holds and answers.
use Rattle.std.specs.Prelude.{◌≡◌, ℕ, List, Some, None, Ok, Err, Option, Result}
use Rattle.command.specs.declared.Command.{Command}
use Rattle.archive.specs.declared.entries.Entry.{Entry}
use Rattle.archive.specs.declared.entries.Entries.{Entries}
use Rattle.archive.specs.declared.reading.Reader.{Reader}
use Rattle.archive.specs.declared.reading.Broken.{Broken}
use Rattle.archive.specs.Layout.{Archive}
use Rattle.archive.specs.Reading.{members_of, scanned, fault, decoded, rest, first_entry, first_command}

-- an entry as its offset and its bytes
abbrev pub shown : Option Entry → Option (ℕ × List ℕ)
shown None = None
shown (Some e) = Some (e.offset, e.bytes.now)

-- the command that an entry tells
abbrev pub told : Option Entry → Option Command
told None = None
told (Some e) = decoded e.bytes.now

-- asking for the next entry gives the first of those that are left, whose command it tells, and leaves what follows it
pub record Gives (s : Entries) (r : Option Entry) (t : Entries) : Type 0 where
  pub answer : shown r ≡ first_entry s.end s.rest.now
  pub command : told r ≡ first_command s.rest.now
  pub after : t.rest.now ≡ rest s.rest.now
  pub same : t.end ≡ s.end

-- what opening answers: a reader of the file where no part is broken, else the first part that is
abbrev pub Opens : List ℕ → Result Reader Broken → Type 0
Opens f (Ok r) = (fault f ≡ None) × (r.file.now ≡ f)
Opens f (Err b) = fault f ≡ Some b

-- a file is whole exactly where it is the archive of some chain and list, which are then those that the reader tells
pub record Exact (f : List ℕ) : Type 0 where
  pub only : fault f ≡ None → Archive f (members_of f) (scanned f).commands
  pub all : (ms : List ℕ) (cs : List Command) → Archive f ms cs
      → (fault f ≡ None) × (members_of f ≡ ms) × ((scanned f).commands ≡ cs)
