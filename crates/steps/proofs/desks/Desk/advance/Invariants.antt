use Rattle.std.proofs.Common.{count_by}
use Rattle.protocol.proofs.Turns.{some}
use Rattle.steps.specs.Doing.{at, SameLenders}
use Rattle.steps.proofs.Looping.{Advancing}
use Rattle.steps.proofs.desks.Desk.advance.Given as goal

abbrev pub invariant-loop-self : goal.invariant-loop-self
invariant-loop-self g l =
    record {
      going : Advancing g.M.Machine.rule (at l.initial.self) (at l.self)
          (g.J.Journal.behind l.initial.self.journal.now) (g.J.Journal.behind l.self.journal.now)
          (g.M.Machine.state l.initial.self.machine.now, l.initial.self.answer)
          (g.M.Machine.state l.self.machine.now, l.self.answer);
      lenders : SameLenders l.initial.self l.self;
    }

abbrev pub decreases-loop-self : goal.decreases-loop-self
decreases-loop-self g l = count_by some l.self.memory.now.acks
