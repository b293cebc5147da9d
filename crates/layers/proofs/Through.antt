-- What holds of the lower machine over any list holds of it below the layers.
use Rattle.std.proofs.Common.{◌≡◌, ℕ, ◌≤◌, Bool, true, false, cond, ◌⊎◌, List, [], ◌∷◌, sym, refl, ap, ◌∙◌, subst, inl, inr, ⊎_elim}
use Rattle.command.specs.declared.Command.{Command}
use Rattle.machine.specs.Rules.{Rule, after}
use Rattle.machine.specs.Pools.{pool_start, pool_rule, weight}
use Rattle.machine.proofs.Weighing.{weights_bounded}
use Rattle.layers.specs.Freezing.{is_frozen, below_freeze, freezes, thaws, freeze_start, freeze_rule}
use Rattle.layers.specs.Once.{once_start}
use Rattle.layers.specs.Passing.{passed}
use Rattle.layers.specs.Stacks.{StackBounded}
use Rattle.layers.proofs.Repeats.{acts_once}

-- one command leaves what is below freeze, or goes lower
abbrev picked : Bool → Bool → Bool → List ℕ → List ℕ → List ℕ × ℕ → ℕ → ℕ → ℕ → List ℕ × ℕ
picked f t z s u v x y w = cond f (1 ∷ u, x) (cond t (0 ∷ u, y) (cond z (s, w) (0 ∷ v.0, v.1)))

one : (f t z : Bool) (s u : List ℕ) (v : List ℕ × ℕ) (x y w : ℕ) → below_freeze s ≡ u
    → (below_freeze (picked f t z s u v x y w).0 ≡ u) ⊎ (below_freeze (picked f t z s u v x y w).0 ≡ v.0)
one true t z s u v x y w e = inl refl
one false true z s u v x y w e = inl refl
one false false true s u v x y w e = inl e
one false false false s u v x y w e = inr refl

-- over a list, the machine below got some list of commands
Got : Rule → List ℕ → List Command → Type 0
Got lower s cs = (ds : List Command) × (below_freeze (after (freeze_rule lower) s cs) ≡ after lower (below_freeze s) ds)

through : (lower : Rule) (s : List ℕ) (cs : List Command) → Got lower s cs
unfolding Got
through lower s [] = ([], refl)
through lower s (c ∷ cs) =
    let (ds, e) = through lower (freeze_rule lower s c).0 cs in
    let G : Type 0 = Got lower s (c ∷ cs) in
    ⊎_elim {C = G} (λ q. (ds, e ∙ ap (λ t. after lower t ds) q)) (λ q. (c ∷ ds, e ∙ ap (λ t. after lower t ds) q))
    (one (freezes c) (thaws c) (is_frozen s) s (below_freeze s) (lower (below_freeze s) c) _ _ _ refl)

pub stack_bounded : StackBounded
unfolding Got
stack_bounded cs k =
    let start = freeze_start pool_start in
    let (ds, e) = through pool_rule start (passed (freeze_rule pool_rule) (once_start start) cs) in
    let P : List ℕ → Type 0 = λ s. weight s k ≤ 1000 in
    subst P (sym (ap below_freeze (acts_once (freeze_rule pool_rule) start cs).acted ∙ e)) (weights_bounded ds k)
