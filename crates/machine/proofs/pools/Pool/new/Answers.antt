use Rattle.machine.proofs.Weighing.{weights_bounded}
use Rattle.machine.proofs.pools.Pool.new.Goals as goal

pub returns-clause-bounded : goal.returns-clause-bounded
returns-clause-bounded c = weights_bounded
