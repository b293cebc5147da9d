-- What a journal of the code holds, and what opening answers.
use Rattle.std.specs.Prelude.{◌≡◌, ℕ, List, Some, None, Ok, Err, vec_items, Result}
use Rattle.journal.specs.declared.writes.Write.{Write}
use Rattle.journal.specs.Laws.{Leads}
use Rattle.journal.specs.Meaning.{Meaning}
use Rattle.area_journal.specs.declared.areas.AreaJournal.{AreaJournal}
use Rattle.area_journal.specs.declared.faults.NotOpened.{NotOpened}
use Rattle.area_journal.specs.Opening.{fault}
use Rattle.area_journal.specs.Reading.{meaning_of}

-- the bytes of a journal
abbrev pub bytes_of : AreaJournal → List ℕ
bytes_of j = vec_items j.area

-- what opening answers: a journal of the same bytes exactly where there is no fault, else the bytes back with the
-- first fault
abbrev pub Opens : List ℕ → Result AreaJournal NotOpened → Type 0
Opens area (Ok j) = (fault area ≡ None) × (bytes_of j ≡ area)
Opens area (Err e) = (fault area ≡ Some e.fault) × (vec_items e.area ≡ area)

-- what opening the bytes of a journal with this meaning must answer: a journal that means the same
abbrev pub Again : Meaning → Result AreaJournal NotOpened → Type 0
Again m (Ok j) = meaning_of (bytes_of j) ≡ m
Again m (Err e) = ⊥

-- a list of writes may lie behind a journal where some meaning takes them all and then is the journal's
pub record Behind (present : Meaning) (ws : List Write) : Type 0 where
  pub start : Meaning
  pub leads : Leads start ws present

-- what a journal of the code means, and which lists of writes may lie behind it
abbrev pub tells : AreaJournal → Meaning
tells j = meaning_of (bytes_of j)

abbrev pub may_lie_behind : AreaJournal → List Write → Type 0
may_lie_behind j ws = Behind (tells j) ws
