use Rattle.std.proofs.Common.{◌≡◌, ℕ, ◌+◌, List, length, take, drop, replicate, Some, sym, ap, ◌∙◌, ap₂, arith}
use Rattle.std.proofs.lemmas.List.{take_more, take_all}
use Rattle.archive.specs.declared.writing.OpenArchive.{OpenArchive}
use Rattle.archive.specs.declared.writing.Refusal.{Refusal}
use Rattle.archive.specs.declared.lists.ListRefusal.TheVariants.{Entry}
use Rattle.archive.specs.Lists.{adds_refusal}
use Rattle.archive.specs.Reading.{noop}
use Rattle.archive.proofs.Calls.{answer_ok, answer_err}
use Rattle.archive.proofs.WholeLists.{was_ok, begun_list, adds_more, adds_stop, adds_end, left_none}
use Rattle.archive.proofs.lists.write_list.Goals as goal

pub loop-i-init : goal.loop-i-init
loop-i-init c =
    let e = was_ok c.begin.result c.map_err.result _ c.map_err.ensures.cases c.in_ok-open.open c.in_ok-open.was in
    let b = begun_list c.args.area.now c.args.members.now c.begin.new.area c.args.commands.now c.begin.result
    c.in_ok-open.open c.begin.ensures e in
    (b.0, b.1, omega arith)

pub loop-i-preserved : goal.loop-i-preserved
loop-i-preserved c =
    let cs = c.args.commands.now in
    let i = c.loop-i.i in
    let area = c.loop-i.area in
    let o = c.loop-i.open in
    let ok = answer_ok _ _ c.in-Ok.open _ c.in-Ok.ensures.answer in
    let written = left_none _ area _ c.add.new.area c.in-Ok.ensures.writes ok.0 in
    let more = take_more cs i noop (omega arith) in (
      rw more (c.in-Ok.ensures.run c.args.members.now (take i cs) c.loop-i.invariant.0),
      ap₂ (λ (a : List ℕ) (b : OpenArchive). adds_refusal a b (i + 1 + 1) (drop (i + 1) cs)) written ok.1
          ∙ sym (adds_more area o (i + 1) cs i noop (omega arith) ok.0) ∙ c.loop-i.invariant.1,
      omega arith,
    )

pub returns-in-Err-clause-wrote : goal.returns-in-Err-clause-wrote
returns-in-Err-clause-wrote c =
    let i = c.loop-i.i in
    let e = answer_err _ _ (c.in-Err.open, c.in-Err.refusal) _ c.in-Err.ensures.answer in
    let same : e.0 ≡ c.in-Err.refusal = sym (ap (λ (p : OpenArchive × Refusal). p.1) e.2) in
    let long : length c.add.new.area ≡ length c.args.area.now = omega arith in (
      sym c.loop-i.invariant.1
          ∙ adds_stop c.loop-i.area c.loop-i.open (i + 1) c.args.commands.now i noop (omega arith) e.0 e.1
          ∙ ap (λ r. Some (Entry (i + 1) r)) same,
      c.strike.ensures ∙ ap (λ (n : ℕ). replicate n 0) long,
    )

pub returns-clause-wrote : goal.returns-clause-wrote
returns-clause-wrote c =
    let i = c.loop-i.i in
    let cs = c.args.commands.now in
    let all = take_all i cs (omega arith) in
    let end = answer_ok _ _ c.in-Ok-seal.sealed _ c.in-Ok-seal.ensures.answer in
    let law = c.in-Ok-seal.ensures.run c.args.members.now (take i cs) c.loop-i.invariant.0 in (
      sym c.loop-i.invariant.1 ∙ adds_end c.loop-i.area c.loop-i.open (i + 1) cs i (omega arith),
      rw (end.1, ← all) law.file,
    )
