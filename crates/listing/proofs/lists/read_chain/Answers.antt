use Rattle.std.proofs.Common.{refl, sym, ap, ◌∙◌}
use Rattle.std.proofs.lemmas.Result.{err_from_is_err_and}
use Rattle.command.specs.Chains.{founding}
use Rattle.listing.proofs.Whole.{chain_word, chain_told_is, members_fault}
use Rattle.listing.proofs.lists.read_chain.Goals as goal

pub returns-then-ne : goal.returns-then-ne
returns-then-ne c =
    rw (chain_word c.args.line.now _ _ _ c.as_slice.result _ c.words-words.ensures c.next.ensures.steps
    c.as_slice.ensures c.if-ne.ensures) refl

pub returns-in_err-members : goal.returns-in_err-members
returns-in_err-members c =
    let w = chain_word c.args.line.now _ _ _ c.as_slice.result _ c.words-words.ensures c.next.ensures.steps
    c.as_slice.ensures c.if-ne.ensures in
    let p = err_from_is_err_and c.from_residual.result c.from_residual.ensures.1 in
    rw (p.1, p.2, w) (members_fault _ _ c.in_err-members.ensures)

pub returns-in_err-new : goal.returns-in_err-new
returns-in_err-new c =
    let w = chain_word c.args.line.now _ _ _ c.as_slice.result _ c.words-words.ensures c.next.ensures.steps
    c.as_slice.ensures c.if-ne.ensures in
    let p = err_from_is_err_and c.from_residual-in_err-new.result c.from_residual-in_err-new.ensures.1 in
    rw (p.1, p.2, w) (sym (chain_told_is _ _ _ c.in_ok-members.ensures
    (c.in_err-new.ensures ∙ ap founding c.deref.ensures.value)))

pub returns : goal.returns
returns c =
    let w = chain_word c.args.line.now _ _ _ c.as_slice.result _ c.words-words.ensures c.next.ensures.steps
    c.as_slice.ensures c.if-ne.ensures in
    rw w (sym (chain_told_is _ _ _ c.in_ok-members.ensures
    (c.in_ok-new.ensures ∙ ap founding c.deref.ensures.value)))
