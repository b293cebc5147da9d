use Rattle.std.proofs.Common.{ℕ, List, vec_items, sym, ap, ◌∙◌, subst₂}
use Rattle.std.proofs.lemmas.Result.{err_from_is_err_and}
use Rattle.command.specs.declared.Command.{Command}
use Rattle.command.specs.Members.{valid_chain}
use Rattle.command.specs.Chains.{after_all}
use Rattle.archive.specs.Layout.{Archive}
use Rattle.listing.specs.Answers.{list_of}
use Rattle.yearbook.proofs.Listing.{read_sound, unsealed}
use Rattle.yearbook.specs.Years.{Unfiled}
use Rattle.yearbook.proofs.seals.seal_text.Goals as goal

pub file_of-requires : goal.file_of-requires
file_of-requires c =
    let sound = read_sound c.args.text.now (list_of c.in_ok-list.list)
    (sym c.in_ok-list.ensures.answer) in
    record {
      chain = ap valid_chain c.members.ensures.members
          ∙ sound.chain;
      formed = rw c.as_slice.ensures.value sound.formed;
    }

pub returns : goal.returns
returns c =
    let l = list_of c.in_ok-list.list in
    let file = vec_items c.in_ok-file.file in
    record {
      list = l;
      told = sym c.in_ok-list.ensures.answer;
      file = subst₂ (λ (ms : List ℕ) (cs : List Command). Archive file ms cs) c.members.ensures.members
          c.as_slice.ensures.value
          c.in_ok-file.ensures;
      entries = c.len.ensures ∙ c.in_ok-list.list.commands.ok.0;
      chain = c.after_all-chain.ensures
          ∙ ap (after_all c.in_ok-list.list.chain) c.as_slice-2.ensures.value;
    }

pub returns-in_err-list : goal.returns-in_err-list
returns-in_err-list c =
    let p = err_from_is_err_and c.from_residual.result c.from_residual.ensures.1 in
    rw (p.1, p.2) c.in_err-list.ensures.answer

pub returns-in_err-file : goal.returns-in_err-file
returns-in_err-file c =
    let p = err_from_is_err_and c.from_residual-in_err-file.result c.from_residual-in_err-file.ensures.1 in
    let h : Unfiled (vec_items c.in_ok-list.list.commands) c.in_err-file.field-0.0 =
    rw c.as_slice.ensures.value at c.in_err-file.ensures in
    rw (p.1, p.2)
    (unsealed c.args.text.now (list_of c.in_ok-list.list)
    (sym c.in_ok-list.ensures.answer) _ h)
