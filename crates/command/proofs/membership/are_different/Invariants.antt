use Rattle.std.proofs.Common.{◌≡◌, length}
use Rattle.command.specs.Members.{different_directors}
use Rattle.command.proofs.membership.are_different.Given as goal

abbrev pub invariant-loop-member : goal.invariant-loop-member
invariant-loop-member l = different_directors l.left ≡ different_directors l.members

abbrev pub decreases-loop-member : goal.decreases-loop-member
decreases-loop-member l = length l.left
