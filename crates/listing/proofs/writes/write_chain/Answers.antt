use Rattle.std.proofs.Common.{codes, arith}
use lib.Utf8.{encode}
use Rattle.listing.proofs.Written.{spaced_more, spaced_all}
use Rattle.listing.proofs.writes.write_chain.Goals as goal

pub loop-member-preserved : goal.loop-member-preserved
loop-member-preserved c = grind (arith, spaced_more, c.type_inv.members)

pub returns-clause-written : goal.returns-clause-written
unfolding encode
returns-clause-written c =
    spaced_all c.args.members.now _ _ _ _ (codes "chain") c.loop-member.member-index (omega arith)
    c.in_ok-push_str.ensures.bytes c.loop-member.invariant c.in_ok-push.ensures.bytes
