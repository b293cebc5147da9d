-- No weight of a pool exceeds 1,000.
use Rattle.std.proofs.Common.{ℕ, ◌≤◌, List, length, All, ⊎_elim, arith}
use Rattle.std.proofs.lemmas.List.{get_or_past}
use Rattle.std.proofs.lemmas.List.Elements.{All-get_or, All-set, All-replicate}
use Rattle.std.proofs.lemmas.Bool.{cond_both, cases_lt}
use Rattle.std.proofs.lemmas.Bool.Decides.{nat_tests}
use Rattle.command.specs.declared.Command.{Command}
use Rattle.machine.specs.Rules.{after}
use Rattle.machine.specs.Pools.{pool_start, pool_rule, sets, drains, weight, WeightsBounded}
use Rattle.machine.proofs.Runs.{lasts}

abbrev light : ℕ → Type 0
light w = w ≤ 1000

stays_light : (s : List ℕ) (c : Command) → All light s → All light (pool_rule s c).0
stays_light s c h =
    cond_both (sets c) _ _ (λ (r : List ℕ × ℕ). All light r.0)
    (λ e. All-set light s c.a c.b (grind (arith, nat_tests)) h)
    (λ _.
    cond_both (drains c) _ _ (λ (r : List ℕ × ℕ). All light r.0)
    (λ _. All-set light s c.a 0 (omega arith) h) (λ _. h))

-- a place past the end counts as 0
weight_light : (s : List ℕ) (k : ℕ) → All light s → weight s k ≤ 1000
weight_light s k h =
    ⊎_elim (λ l. All-get_or light s k 0 l h) (λ l. omega (arith, get_or_past s k 0 l)) (cases_lt k (length s))

pub weights_bounded : WeightsBounded
weights_bounded cs k =
    weight_light (after pool_rule pool_start cs) k
    (lasts pool_rule (All light) stays_light pool_start cs (All-replicate light 64 0 (omega arith)))
