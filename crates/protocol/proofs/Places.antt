-- The window rule: what a slot's place holds after another element was put into a slot of the same window.
use Rattle.std.proofs.Common.{◌≡◌, ℕ, ◌+◌, ◌%◌, ◌<◌, ◌≤◌, List, length, get_or, set, ap, ◌∙◌, arith}
use Rattle.std.proofs.lemmas.List.{get_or-set_same, get_or-set_other}
use Rattle.journal.specs.Windows.{element_at, put_at}

pub placed_same : {X : Type 0} (b e : X) (xs : List X) (n : ℕ) → length xs ≡ 8 → element_at b (put_at xs n e) n ≡ e
placed_same b e xs n l = get_or-set_same xs (n % 8) e b (omega arith)

pub placed_other : {X : Type 0} (b e : X) (xs : List X) (p n k : ℕ) → p < n → n ≤ p + 8 → p < k → k ≤ p + 8
    → (n ≡ k → ⊥) → element_at b (put_at xs k e) n ≡ element_at b xs n
placed_other b e xs p n k l h u v ne = get_or-set_other xs (k % 8) (n % 8) e b (λ s. ne (omega arith))

-- the slot eight further on has the same place
pub placed_next : {X : Type 0} (b e : X) (xs : List X) (n k : ℕ) → length xs ≡ 8 → n ≡ k + 8
    → element_at b (put_at xs k e) n ≡ e
placed_next b e xs n k l s =
    let same : n % 8 ≡ k % 8 = omega arith in
    ap (λ (i : ℕ). get_or (set xs (k % 8) e) i b) same ∙ placed_same b e xs k l
