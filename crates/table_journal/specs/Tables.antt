-- What a journal in memory means, and what making one gives.
use Rattle.std.specs.Prelude.{◌≡◌, ℕ, ◌≤◌, cond, List, [], vec_items, ◌==◌, nat_le}
use Rattle.journal.specs.Laws.{Leads}
use Rattle.journal.specs.Meaning.{Meaning, fresh}
use Rattle.journal.specs.declared.writes.Write.{Write}
use Rattle.table_journal.specs.declared.tables.TableJournal.{TableJournal}
use Rattle.table_journal.specs.declared.refusals.TableRefusal.{TableRefusal}
use Rattle.table_journal.specs.declared.refusals.TableRefusal.TheVariants.{NoRecord, Memory}

-- the journal that a table stands for
abbrev pub table_meaning : TableJournal → Meaning
table_meaning t =
    record {
      capacity = t.capacity;
      promised = t.promised;
      settled = vec_items t.settled;
      places = t.places;
    }

-- the lists of writes, all taken, that lead from a new journal with as many slots to what the table stands for
abbrev pub table_behind : TableJournal → List Write → Type 0
table_behind t ws = Leads (fresh t.capacity) ws (table_meaning t)

-- how many slots so many records make
abbrev pub slots_of : ℕ → ℕ
slots_of records = cond (nat_le records 60000) records 60000

-- what a table made of so many records is: there is one, it is a new journal, and no write lies behind it
pub record Made (records : ℕ) (t : TableJournal) : Type 0 where
  pub some : 1 ≤ records
  pub new : table_meaning t ≡ fresh (slots_of records)
  pub behind : table_behind t []

-- why none was made of so many records
abbrev pub refusal_for : ℕ → TableRefusal
refusal_for records = cond (records == 0) NoRecord Memory
