use Rattle.std.proofs.Common.{◌≡◌, drop}
use Rattle.command.specs.Chains.{after_all}
use Rattle.command.proofs.chains.Chain.after_all.Given as goal

abbrev pub invariant-loop-command : goal.invariant-loop-command
invariant-loop-command l =
    after_all l.chain (drop l.command-index l.settled) ≡ after_all l.self l.settled
