use Rattle.std.proofs.Common.{◌≡◌, Some, None, Ok, Err, length, sym, ap, arith, rules}
use Rattle.std.proofs.lemmas.Result.{err_from_is_err_and}
use Rattle.listing.specs.declared.faults.Fault.TheVariants.{Unreadable}
use Rattle.listing.specs.Answers.{Tells, list_of}
use Rattle.listing.specs.Reading.{read_chain, read_text}
use Rattle.listing.proofs.Cutting.{length_lines}
use Rattle.listing.proofs.ReadBack.{read_back}
use Rattle.listing.proofs.Whole.{text_none, text_from, chain_fault, entry_fault, text_list}
use Rattle.listing.proofs.lists.read_list.Goals as goal

pub returns-in_err-first : goal.returns-in_err-first
returns-in_err-first c =
    let fault : c.from_residual.result ≡ Err (Unreadable 1) = search rules in
    let none : c.next.result ≡ None = search rules in
    let answer : Tells list_of c.from_residual.result (read_text c.args.text.now) =
    rw fault (sym (text_none c.args.text.now _ c.lines-lines.ensures (rw none at c.next.ensures.steps).0)) in
    record { answer = answer; back = read_back _ _ answer }

pub returns-in_err-chain : goal.returns-in_err-chain
returns-in_err-chain c =
    let some : c.next.result ≡ Some c.in_ok-first.first = search rules in
    let f = c.from_residual-in_err-chain in
    let p = err_from_is_err_and f.result f.ensures.1 in
    let answer : Tells list_of f.result (read_text c.args.text.now) = rw (p.1, p.2)
    (chain_fault _ (read_chain c.in_ok-first.first.now) c.next.new.self _
    (text_from c.args.text.now _ _ _ c.lines-lines.ensures (rw some at c.next.ensures.steps)) c.in_err-chain.ensures) in
    record { answer = answer; back = read_back _ _ answer }

pub read_entries-requires : goal.read_entries-requires
read_entries-requires c =
    let some : c.next.result ≡ Some c.in_ok-first.first = search rules in
    omega (
      arith,
      length_lines c.args.text.now,
      ap length c.lines-lines.ensures,
      ap length (rw some at c.next.ensures.steps),
    )

pub returns-in_err-commands : goal.returns-in_err-commands
returns-in_err-commands c =
    let some : c.next.result ≡ Some c.in_ok-first.first = search rules in
    let f = c.from_residual-in_err-commands in
    let p = err_from_is_err_and f.result f.ensures.1 in
    let answer : Tells list_of f.result (read_text c.args.text.now) = rw (p.1, p.2)
    (entry_fault _ (read_chain c.in_ok-first.first.now) c.next.new.self _ _
    (text_from c.args.text.now _ _ _ c.lines-lines.ensures (rw some at c.next.ensures.steps))
    c.in_ok-chain.ensures c.in_err-commands.ensures) in
    record { answer = answer; back = read_back _ _ answer }

pub returns : goal.returns
returns c =
    let some : c.next.result ≡ Some c.in_ok-first.first = search rules in
    let answer =
    text_list _ (read_chain c.in_ok-first.first.now) c.next.new.self _ _
    (text_from c.args.text.now _ _ _ c.lines-lines.ensures (rw some at c.next.ensures.steps))
    c.in_ok-chain.ensures c.in_ok-commands.ensures in
    let list = Ok (record { chain = c.in_ok-chain.chain; commands = c.in_ok-commands.commands }) in
    record { answer = answer; back = read_back _ list answer }
