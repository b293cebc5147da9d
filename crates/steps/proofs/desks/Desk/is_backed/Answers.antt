use Rattle.std.proofs.Common.{ℕ, ◌+◌, get_or, ap, arith}
use Rattle.std.proofs.lemmas.Bool.{ne_eqb}
use Rattle.command.specs.Members.{Membership}
use Rattle.protocol.specs.Desks.{Desk, none}
use Rattle.steps.specs.Doing.{at}
use Rattle.steps.proofs.Backing.{backed_not, backed_so}
use Rattle.steps.proofs.desks.Desk.is_backed.Goals as goal

pub returns-then-open-acks : goal.returns-then-open-acks
returns-then-open-acks g c =
    let d : Desk = at c.args.self.now in
    let n : ℕ = c.settled_count-slot.result + 1 in
    let e = c.settled_count-slot.ensures in
    backed_so d n c.open.result (get_or c.args.self.now.memory.now.acks c.place_of.result none)
    (ap (λ (k : ℕ). k + 1) e) c.open.ensures
    (ap (λ (i : ℕ). get_or c.args.self.now.memory.now.acks i none) c.place_of.ensures.place)
    c.get.result c.is_enough.result c.if-open-acks.true
    (ap (λ (x : Membership). x.members)
    (c.get.ensures d.state.founding d.journal.settled c.args.self.now.ready (omega arith) (omega arith)))
    c.is_enough.ensures.answer

pub returns-else-open-acks : goal.returns-else-open-acks
returns-else-open-acks g c =
    let d : Desk = at c.args.self.now in
    let n : ℕ = c.settled_count-slot.result + 1 in
    rw (ne_eqb _ _ c.if-open-acks.false)
    (backed_not d n c.open.result (get_or c.args.self.now.memory.now.acks c.place_of.result none)
    (ap (λ (k : ℕ). k + 1) c.settled_count-slot.ensures) c.open.ensures
    (ap (λ (i : ℕ). get_or c.args.self.now.memory.now.acks i none) c.place_of.ensures.place)
    c.if-open-acks.false)
