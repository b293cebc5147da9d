use Rattle.std.proofs.Common.{◌≡◌, take}
use Rattle.machine.specs.Rules.{after}
use Rattle.machine.proofs.apply_all.Given as goal

abbrev pub invariant-loop-command : goal.invariant-loop-command
invariant-loop-command g l =
    g.M.Machine.state l.machine
    ≡ after g.M.Machine.rule (g.M.Machine.state l.initial.machine) (take l.command-index l.commands)
