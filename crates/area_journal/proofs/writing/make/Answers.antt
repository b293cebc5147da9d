use Rattle.std.proofs.Common.{rules}
use Rattle.area_journal.proofs.Meanings.{written_settle}
use Rattle.area_journal.proofs.writing.make.Goals as goal

pub returns-in-Settle-clause-wrote : goal.returns-in-Settle-clause-wrote
returns-in-Settle-clause-wrote c = search (rules, written_settle)
