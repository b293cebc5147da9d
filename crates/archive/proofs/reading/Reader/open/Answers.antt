use Rattle.std.proofs.Common.{Some, sym, ap, ◌∙◌}
use Rattle.std.proofs.lemmas.Result.{err_from_is_err_and}
use Rattle.archive.proofs.Opening.{fault_entry, fault_count, fault_none, count_is}
use Rattle.archive.proofs.reading.Reader.open.Goals as goal

pub returns-in_err-count-clause-opens : goal.returns-in_err-count-clause-opens
returns-in_err-count-clause-opens c =
    let p = err_from_is_err_and c.from_residual.result c.from_residual.ensures.1 in
    rw p.1
    (fault_entry c.args.file.now c.if-file-lt-SHORTEST.false (sym c.if-not-starts_with.ensures.value)
    c.if-start-end.false (sym c.if-not-is_chain.ensures) _ c.in_err-count.ensures ∙ ap Some (sym p.2))

pub returns-then-read_le-count-clause-opens : goal.returns-then-read_le-count-clause-opens
returns-then-read_le-count-clause-opens c =
    fault_count c.args.file.now c.if-file-lt-SHORTEST.false (sym c.if-not-starts_with.ensures.value)
    c.if-start-end.false (sym c.if-not-is_chain.ensures) c.in_ok-count.count c.in_ok-count.ensures
    c.read_le.result c.read_le.ensures c.if-read_le-count.true

pub invariant_of-result : goal.invariant_of-result
invariant_of-result c =
    record {
      whole = fault_none c.args.file.now c.if-file-lt-SHORTEST.false (sym c.if-not-starts_with.ensures.value)
          c.if-start-end.false (sym c.if-not-is_chain.ensures) c.in_ok-count.count c.in_ok-count.ensures
          c.read_le.result c.read_le.ensures c.if-read_le-count.false;
      counted = count_is c.args.file.now c.if-file-lt-SHORTEST.false (sym c.if-not-starts_with.ensures.value)
          c.if-start-end.false (sym c.if-not-is_chain.ensures) c.in_ok-count.count c.in_ok-count.ensures
          c.read_le.result c.read_le.ensures;
    }
