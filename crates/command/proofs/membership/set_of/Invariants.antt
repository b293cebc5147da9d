use Rattle.std.proofs.Common.{◌≡◌, drop}
use Rattle.command.specs.Sets.{with_all, set_of}
use Rattle.command.proofs.membership.set_of.Given as goal

abbrev pub invariant-loop-m : goal.invariant-loop-m
invariant-loop-m l = with_all l.set.bits (drop l.m-index l.members) ≡ set_of l.members
