-- Why no journal in memory was made.
use Rattle.std.specs.Prelude.{ℕ, Some, None, Option}
use Rattle.table_journal.specs.declared.refusals.TableRefusal.{TableRefusal}
use Rattle.table_journal.specs.declared.refusals.TableRefusal.TheVariants.{NoRecord, Memory}

-- the refusal's number; want of memory has none
abbrev pub refusal_number : TableRefusal → Option ℕ
refusal_number NoRecord = Some 12
refusal_number Memory = None
