use Rattle.layers.proofs.Still.{frozen_below}
use Rattle.layers.proofs.freezing.Freeze.over.Goals as goal

pub returns-clause-still : goal.returns-clause-still
returns-clause-still g c = frozen_below g.M.Machine.rule
