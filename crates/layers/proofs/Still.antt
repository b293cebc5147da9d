-- While frozen nothing below changes.
use Rattle.std.proofs.Common.{◌≡◌, ℕ, Bool, true, false, cond, not, List, [], ◌∷◌, refl, ◌∙◌, arith}
use Rattle.std.proofs.lemmas.Bool.Decides.{nat_tests}
use Rattle.std.proofs.lemmas.Bool.{and_parts, not-true}
use Rattle.machine.specs.Rules.{Rule}
use Rattle.layers.specs.Freezing.{is_frozen, below_freeze, freezes, thaws, freeze_rule, no_thaw, Still, FrozenBelow}

-- a command that is no thaw, by whether it freezes
stays : (f t z : Bool) (s : List ℕ) (x y : List ℕ × ℕ) (a b : ℕ) → z ≡ is_frozen s → z ≡ true → t ≡ false
    → Still s (cond f (1 ∷ below_freeze s, a) (cond t x (cond z (s, b) y))).0
stays f t z s x y a b e h n = grind (arith, nat_tests)

pub frozen_below : (lower : Rule) → FrozenBelow lower
frozen_below lower s [] f n = record { frozen = f; below = refl }
frozen_below lower s (c ∷ cs) f n =
    let (h, k) = and_parts (not (thaws c)) (no_thaw cs) n in
    let one : Still s (freeze_rule lower s c).0 =
    stays (freezes c) (thaws c) (is_frozen s) s _ _ _ _ refl f (not-true (thaws c) h) in
    let rest = frozen_below lower (freeze_rule lower s c).0 cs one.frozen k in
    record { frozen = rest.frozen; below = rest.below ∙ one.below }
