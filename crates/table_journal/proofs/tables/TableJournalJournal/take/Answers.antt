use Rattle.std.proofs.Common.{refl, arith}
use Rattle.std.proofs.lemmas.Grind.{common_steps}
use Rattle.journal.specs.Meaning.{after}
use Rattle.table_journal.specs.Tables.{table_meaning}
use Rattle.table_journal.proofs.Writes.{settle_fits, writes_taken, writes_untaken}
use Rattle.table_journal.proofs.tables.TableJournalJournal.take.Goals as goal

pub push_reserved-requires : goal.push_reserved-requires
push_reserved-requires c =
    let m = table_meaning c.args.self.now in
    let fits = settle_fits c.in-Settle.command m _ _ c.takes-taken.ensures c.if-taken.true c.in-Settle.is in
    omega arith

pub invariant_of-self-in-Settle : goal.invariant_of-self-in-Settle
invariant_of-self-in-Settle c =
    let m = table_meaning c.args.self.now in
    let fits = settle_fits c.in-Settle.command m _ _ c.takes-taken.ensures c.if-taken.true c.in-Settle.is in
    let w = c.args.self.now.within in
    record {
      within =
          record {
            some = w.some;
            most = w.most;
            held = grind (arith, common_steps);
            eight = grind (arith, common_steps);
          };
      room = grind (arith, common_steps);
    }

pub returns-in-Promise : goal.returns-in-Promise
unfolding after
returns-in-Promise c =
    writes_taken c.args.self.now _ _ _ _ c.takes-taken.ensures c.if-taken.true c.in-Promise.is refl refl

pub returns-in-Put : goal.returns-in-Put
unfolding after
returns-in-Put c =
    writes_taken c.args.self.now _ _ _ _ c.takes-taken.ensures c.if-taken.true c.in-Put.is
    (rw c.place_of.ensures.place refl) refl

pub returns-in-Settle : goal.returns-in-Settle
unfolding after
returns-in-Settle c =
    writes_taken c.args.self.now _ _ _ _ c.takes-taken.ensures c.if-taken.true c.in-Settle.is
    (grind (arith, common_steps)) refl

pub returns-else-taken : goal.returns-else-taken
returns-else-taken c = writes_untaken c.args.self.now _ _ c.takes-taken.ensures c.if-taken.false
