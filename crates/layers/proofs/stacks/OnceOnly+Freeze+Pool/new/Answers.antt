use Rattle.layers.proofs.Through.{stack_bounded}
use Rattle.layers.proofs.stacks.OnceOnly+Freeze+Pool.new.Goals as goal

pub returns-clause-bounded : goal.returns-clause-bounded
returns-clause-bounded c = stack_bounded
