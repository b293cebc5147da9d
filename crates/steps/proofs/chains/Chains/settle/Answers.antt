use Rattle.std.proofs.Common.{ℕ, set, ap, rules}
use Rattle.steps.proofs.ChainWindow.{tells_more}
use Rattle.steps.proofs.chains.Chains.settle.Goals as goal

pub returns : goal.returns
returns c = λ f cs tells.
    tells_more f cs c.args.command.now c.args.self.now.places _ c.args.self.now.settled c.get.result
    c.after-next.result (search rules) tells c.get.ensures c.after-next.ensures
    (ap (λ (i : ℕ). set c.args.self.now.places i c.after-next.result) c.place_of.ensures.place)
