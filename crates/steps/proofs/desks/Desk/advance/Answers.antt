use Rattle.std.proofs.Common.{sym, refl, ◌∙◌}
use Rattle.steps.specs.Doing.{at, SameLenders}
use Rattle.steps.proofs.Looping.{advancing_start, advancing_on, advancing_end}
use Rattle.steps.proofs.desks.Desk.advance.Goals as goal

pub loop-self-init : goal.loop-self-init
loop-self-init g c =
    record {
      going = advancing_start g.M.Machine.rule (at c.args.self.now) _ _
          c.args.self.now.memory.now.eight;
      lenders = record { memory = refl; journal = refl; machine = refl };
    }

pub loop-self-smaller : goal.loop-self-smaller
loop-self-smaller g c =
    (advancing_on g.M.Machine.rule (at c.args.self.now) (at c.loop-self.self) _ _ _ _ c.loop-self.invariant.going
    (at c.settle_open.new.self) _ _ c.loop-self.self.memory.now.eight
    (sym c.is_backed.ensures ∙ c.loop-self-test.true) c.settle_open.ensures.did).1

pub loop-self-preserved : goal.loop-self-preserved
loop-self-preserved g c =
    let lent : SameLenders c.args.self.now c.loop-self.self = c.loop-self.invariant.lenders in
    let more : SameLenders c.loop-self.self c.settle_open.new.self = c.settle_open.ensures.lenders in
    record {
      going =
          (advancing_on g.M.Machine.rule (at c.args.self.now) (at c.loop-self.self) _ _ _ _
          c.loop-self.invariant.going (at c.settle_open.new.self)
          (g.J.Journal.behind c.settle_open.new.self.journal.now)
          (g.M.Machine.state c.settle_open.new.self.machine.now, c.settle_open.new.self.answer)
          c.loop-self.self.memory.now.eight (sym c.is_backed.ensures ∙ c.loop-self-test.true)
          c.settle_open.ensures.did).0;
      lenders =
          record {
            memory = more.memory ∙ lent.memory;
            journal = more.journal ∙ lent.journal;
            machine = more.machine ∙ lent.machine;
          };
    }

pub returns : goal.returns
returns g c =
    record {
      did =
          advancing_end g.M.Machine.rule (at c.args.self.now)
          (at c.loop-self.self) _ _ _ _ c.loop-self.invariant.going
          (sym c.is_backed.ensures ∙ c.loop-self-test.false);
      lenders = c.loop-self.invariant.lenders;
    }
