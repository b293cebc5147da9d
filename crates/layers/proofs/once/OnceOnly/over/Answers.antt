use Rattle.layers.proofs.Again.{same_answer}
use Rattle.layers.proofs.Repeats.{acts_once}
use Rattle.layers.proofs.once.OnceOnly.over.Goals as goal

pub returns-clause-once : goal.returns-clause-once
returns-clause-once g c = acts_once g.M.Machine.rule

pub returns-clause-again : goal.returns-clause-again
returns-clause-again g c = same_answer g.M.Machine.rule
