use Rattle.std.proofs.Common.{sym, ap, refl, arith}
use Rattle.journal.specs.Meaning.{Meaning}
use Rattle.protocol.specs.Desks.{State}
use Rattle.steps.specs.Views.{view}
use Rattle.steps.proofs.ChainWindow.{tells_taken, tells_untaken}
use Rattle.steps.proofs.Composing.{settle_taken, settle_untaken, settle_low}
use Rattle.steps.proofs.desks.Desk.settle.Goals as goal

pub settle-requires : goal.settle-requires
settle-requires g c =
    let in-time = g.met.J.Journal.within c.args.self.now.journal.now in
    let m : Meaning = g.J.Journal.meaning c.args.self.now.journal.now in
    let low = settle_low m c.args.command.now (sym c.if-taken.ensures.answer) in
    let count = c.args.self.now.ready.count in
    let most = in-time.most in
    omega arith

pub invariant_of-self : goal.invariant_of-self
invariant_of-self g c =
    let m : Meaning = g.J.Journal.meaning c.args.self.now.journal.now in
    let s : State = view c.args.self.now.memory.now in
    record {
      ready =
          tells_taken s.founding _ m _ c.args.command.now _ (ap (λ (t : State). t.founding) c.forget.ensures)
          c.settle-taken.ensures.after (sym c.if-taken.ensures.answer)
          (c.settle.ensures s.founding m.settled c.args.self.now.ready);
    }

pub invariant_of-self-else-taken : goal.invariant_of-self-else-taken
invariant_of-self-else-taken g c =
    let m : Meaning = g.J.Journal.meaning c.args.self.now.journal.now in
    let s : State = view c.args.self.now.memory.now in
    record {
      ready =
          tells_untaken s.founding _ m _ c.args.command.now _ (ap (λ (t : State). t.founding) c.forget.ensures)
          c.settle-taken.ensures.after (sym c.if-taken.ensures.answer) c.args.self.now.ready;
    }

pub returns-then-taken : goal.returns-then-taken
returns-then-taken g c =
    let m : Meaning = g.J.Journal.meaning c.args.self.now.journal.now in
    let s : State = view c.args.self.now.memory.now in
    record {
      did =
          settle_taken g.M.Machine.rule m _ s _ c.args.command.now _ _ _ c.settled_count-slot.ensures
          c.settle-taken.ensures.after c.settle-taken.ensures.behind c.forget.ensures _ _
          (sym c.if-taken.ensures.answer) c.run-self.ensures;
      lenders = record { memory = refl; journal = refl; machine = refl };
    }

pub returns-else-taken : goal.returns-else-taken
returns-else-taken g c =
    let m : Meaning = g.J.Journal.meaning c.args.self.now.journal.now in
    let s : State = view c.args.self.now.memory.now in
    record {
      did =
          settle_untaken g.M.Machine.rule m _ s _ c.args.command.now _ _ _ c.settled_count-slot.ensures
          c.settle-taken.ensures.after c.settle-taken.ensures.behind c.forget.ensures _
          (sym c.if-taken.ensures.answer);
      lenders = record { memory = refl; journal = refl; machine = refl };
    }
