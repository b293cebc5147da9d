use Rattle.std.proofs.Common.{Some, ap, refl, sym, ◌∙◌}
use Rattle.command.specs.declared.verbs.Verb.TheVariants.{Noop, Add, Remove, Change}
use Rattle.steps.proofs.Running.{change_told, ran_own, ran_other}
use Rattle.steps.proofs.settling.run.Goals as goal

pub returns-then-eq : goal.returns-then-eq
returns-then-eq g c =
    ran_own _ _ c.args.command.now _
    (change_told _ _ (elim [ Noop ↦ refl | Add ↦ refl | Remove ↦ refl | Change ↦ refl ]) c.args.command.now.verb
    c.try_from.result c.try_from.ensures ∙ sym c.eq.ensures ∙ c.if-eq.true)
    c.apply.ensures.next (ap Some c.apply.ensures.answer)

pub returns-else-eq : goal.returns-else-eq
returns-else-eq g c =
    ran_other _ _ c.args.command.now
    (change_told _ _ (elim [ Noop ↦ refl | Add ↦ refl | Remove ↦ refl | Change ↦ refl ]) c.args.command.now.verb
    c.try_from.result c.try_from.ensures ∙ sym c.eq.ensures ∙ c.if-eq.false)
