use Rattle.steps.specs.Doing.{at}
use Rattle.steps.proofs.Backing.{did_open}
use Rattle.steps.proofs.desks.Desk.settle_open.Goals as goal

pub returns : goal.returns
returns g c =
    record {
      did =
          did_open g.M.Machine.rule (at c.args.self.now)
          (at c.settle.new.self) c.open-entry.result c.settled_count.result _ _ _ _
          c.settled_count.ensures c.open-entry.ensures c.settle.ensures.did;
      lenders =
          record {
            memory = c.settle.ensures.lenders.memory;
            journal = c.settle.ensures.lenders.journal;
            machine = c.settle.ensures.lenders.machine;
          };
    }
