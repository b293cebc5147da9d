use Rattle.std.proofs.Common.{◌≡◌, ℕ, ◌≤◌, Bool, true, false, cond, List, length, take, Some, None, Ok, Option, vec_items, sym, ◌∙◌, subst, ap₂, arith}
use Rattle.std.proofs.lemmas.Result.{err_from_is_err_and}
use Rattle.std.proofs.lemmas.List.{with_items_is}
use Rattle.std.specs.Option.{ok_or}
use Rattle.archive.specs.Layout.{Archive}
use Rattle.archive.specs.Lists.{space_for}
use Rattle.yearbook.proofs.Listing.{overfull}
use Rattle.yearbook.proofs.seals.file_of.Goals as goal

-- the space that was asked for
space-is : {E : Type 0} (n m : ℕ) (o : Option ℕ) (e : E) (b : Bool) → Ok n ≡ ok_or o e → o ≡ cond b (Some m) None
    → n ≡ m
space-is n m None e b p q = absurd (cc)
space-is n m (Some k) e true p q = cc
space-is n m (Some k) e false p q = absurd (cc)

pub returns : goal.returns
returns c =
    let ms = c.args.members.now in
    let cs = c.args.commands.now in
    let law = c.in_ok-sealed.ensures.wrote.1 in
    let same : take c.in_ok-sealed.sealed.length c.write_list.new.area ≡ vec_items
    c.truncate.new.self =
    sym (c.truncate.ensures.items
    ∙ ap₂ (λ (n : ℕ) (xs : List ℕ). take n xs) c.length.ensures
    (with_items_is c.in_ok-area.area c.write_list.new.area (omega arith))) in
    subst (λ (f : List ℕ). Archive f ms cs) same law

pub returns-in_err-sealed : goal.returns-in_err-sealed
returns-in_err-sealed c =
    let p = err_from_is_err_and c.from_residual-in_err-sealed.result c.from_residual-in_err-sealed.ensures.1 in
    let space : space_for (length c.args.members.now) (length c.args.commands.now) ≤ length
    c.as_mut_slice.result.now =
    let n = space-is c.in_ok-space.space _ _ _ _ c.in_ok-space.ensures.value c.space_for.ensures in
    let m = c.in_ok-area.ensures.len in
    omega arith in
    rw (p.1, p.2)
    (overfull c.args.commands.now _
    (sym c.in_err-sealed.ensures.wrote.0
    ∙ c.in_err-sealed.ensures.space _ c.args.members.now c.args.commands.now space c.requires.chain
    c.requires.formed))
