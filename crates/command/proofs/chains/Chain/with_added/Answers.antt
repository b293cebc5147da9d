use Rattle.std.proofs.Common.{sym}
use Rattle.command.proofs.Places.{after_addition}
use Rattle.command.proofs.chains.Chain.with_added.Goals as goal

pub invariant_of-result-2 : goal.invariant_of-result-2
invariant_of-result-2 c =
    after_addition c.self.inside c.self.invariant c.args.a c.with.result c.if-self-ge7.false c.requires
    (sym c.if-contains.ensures) c.with.ensures
