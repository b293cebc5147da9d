use Rattle.std.proofs.Common.{◌≡◌, ℕ, ◌*◌, ltb, true, length, take, sym, ap, ◌∙◌, ap₂}
use lib.Bits.{bit_and}
use lib.Count.{ones}
use Rattle.command.specs.Members.{Membership, valid_chain}
use Rattle.command.specs.Places.{counted}
use Rattle.command.specs.Quorums.{votes}
use Rattle.command.proofs.Lists.{valid_parts}
use Rattle.command.proofs.Count.{ones_votes, quorums_meet}
use Rattle.command.proofs.chains.Chain.is_enough.Goals as goal

pub returns-clause-answer : goal.returns-clause-answer
returns-clause-answer c =
    let me = c.self.inside in
    let s = c.args.set.bits in
    let ms = c.args.self.now.members in
    let e : take me.count me.places ≡ ms = ap (λ (m : Membership). m.members) c.self.view_is in
    let n : length ms ≡ me.count = ap length (sym e) ∙ counted me.count me.places c.self.invariant.few c.self.invariant.rest in
    let v : valid_chain ms ≡ true = ap valid_chain (sym e) ∙ c.self.invariant.valid in
    let counted : c.count.result ≡ votes ms s =
    c.count.ensures ∙ ap ones (c.common-masked.ensures ∙ ap (λ (t : ℕ). bit_and s t) c.set.ensures)
    ∙ ones_votes ms s (valid_parts ms v).different in
    ap₂ (λ (m k : ℕ). ltb m (2 * k)) (sym n) counted

pub returns-clause-meet : goal.returns-clause-meet
returns-clause-meet c = quorums_meet
