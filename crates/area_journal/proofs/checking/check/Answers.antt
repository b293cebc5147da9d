use Rattle.octets.proofs.Parts.{area_bytes}
use Rattle.area_journal.proofs.Layouts.{exact}
use Rattle.area_journal.proofs.checking.check.Goals as goal

pub returns-in_err-of-clause-exact : goal.returns-in_err-of-clause-exact
returns-in_err-of-clause-exact c = let area = c.args.area.now in exact area (area_bytes area c.type_inv.area)

pub returns-clause-exact : goal.returns-clause-exact
returns-clause-exact c = let area = c.args.area.now in exact area (area_bytes area c.type_inv.area)
