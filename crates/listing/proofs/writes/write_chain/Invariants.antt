use Rattle.std.proofs.Common.{◌≡◌, ◌++◌, take, string_bytes}
use Rattle.listing.specs.Writing.{spaced}
use Rattle.listing.proofs.writes.write_chain.Given as goal

abbrev pub invariant-loop-member : goal.invariant-loop-member
invariant-loop-member l =
    string_bytes l.out ≡ string_bytes l.initial.out ++ spaced (take l.member-index l.members)
