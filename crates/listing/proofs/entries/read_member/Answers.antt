use Rattle.std.proofs.Common.{◌∙◌, arith}
use Rattle.listing.proofs.Fields.{field_stop, field_then}
use Rattle.listing.proofs.entries.read_member.Goals as goal

pub returns-in_err-a : goal.returns-in_err-a
returns-in_err-a c = c.from_residual.ensures ∙ field_stop 16 _ _ _ (omega arith) c.in_err-a.ensures

pub returns : goal.returns
returns c = field_then 16 _ _ _ _ _ (omega arith) c.in_ok-a.ensures c.end.ensures
