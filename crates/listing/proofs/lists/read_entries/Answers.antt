use Rattle.std.proofs.Common.{◌≡◌, ◌-◌, [], length, Some, ap, ◌∙◌, ⊎_elim, arith, rules}
use Rattle.std.proofs.lemmas.List.{nil_from_length}
use Rattle.std.specs.Iterator.Adapters.{zip_first, zip_second}
use Rattle.listing.proofs.Whole.{entries_more, entries_end}
use Rattle.listing.proofs.lists.read_entries.Goals as goal

pub returns : goal.returns
returns c =
    let i = c.loop-line.line-iterator in
    let l : zip_second i ≡ [] =
    ⊎_elim
    (λ p. let z : 18446744073709551615 - (zip_first i).start ≡ 0 = p.1.0 in nil_from_length _ (omega arith))
    (λ p. p.1.0) c.in-None.ensures.steps in
    entries_end _ _ _ _ l c.loop-line.invariant.1

pub loop-line-preserved : goal.loop-line-preserved
loop-line-preserved c =
    let s = c.in-Some.ensures.steps in
    let some : Some c.in_ok-command.command ≡ c.read_entry.result = search rules in (
      omega (arith, ap length s.1),
      rw (s.0.1, s.0.0)
          (entries_more _ c.in-Some.bytes.now _ _ _ _ _ _ (some ∙ c.read_entry.ensures) c.if-not-is_well_formed.ensures
          s.1 c.in_ok-push.ensures.items c.loop-line.invariant.1),
    )
