-- Bits of a set of directors.
use Rattle.std.proofs.Common.{◌≡◌, ℕ, zero, suc, ◌+◌, ◌*◌, ◌/◌, ◌%◌, ◌^◌, ◌<◌, ◌≤◌, true, false, cond, ◌||◌, eqb, leb, sym, refl, ap, ◌∙◌, ap₂, one-mul, pow-suc, arith, pow_pos, pow_mono}
use native.Mathlib.Nat.{div_self, zero-div}
use lib.Bits.{bit_and, bit_or, or_shr, or_mod, and_shr, and_mod, or_zero_r, and_zero_r}
use lib.Count.{ones, ones_step}
use Rattle.std.proofs.lemmas.Nat.{div_below, shr-shr}
use Rattle.std.proofs.lemmas.Bool.{ne_eqb, eqb-false, cond-true, le-leb}
use Rattle.std.proofs.Math.Bool.{or-true, or-false}
use Rattle.command.specs.Sets.{has, with_director}

-- nobody above 31 is in a set of 32 bits
pub has_high : (s d : ℕ) → s < 2 ^ 32 → 32 ≤ d → has s d ≡ false
has_high s d h k =
    let p : 2 ^ 32 ≤ 2 ^ d = pow_mono k in
    let z : s / 2 ^ d < 1 = div_below s (2 ^ d) 1 (pow_pos d) (omega (arith, one-mul (2 ^ d))) in
    ne_eqb (s / 2 ^ d % 2) 1 (λ e. omega arith)

-- one digit of a union
or_digit : (a b : ℕ) → a < 2 → b < 2 → eqb (bit_or a b) 1 ≡ (eqb a 1 || eqb b 1)
or_digit zero zero h k = refl
or_digit zero (suc zero) h k = refl
or_digit zero (suc (suc b)) h k = absurd (omega arith)
or_digit (suc zero) zero h k = refl
or_digit (suc zero) (suc zero) h k = refl
or_digit (suc zero) (suc (suc b)) h k = absurd (omega arith)
or_digit (suc (suc a)) b h k = absurd (omega arith)

pub has_or : (s t d : ℕ) → has (bit_or s t) d ≡ (has s d || has t d)
has_or s t d =
    ap (λ (n : ℕ). eqb (n % 2) 1) (or_shr s t d)
    ∙ ap (λ (n : ℕ). eqb n 1) (or_mod (s / 2 ^ d) (t / 2 ^ d) 1)
    ∙ or_digit (s / 2 ^ d % 2) (t / 2 ^ d % 2) (omega arith) (omega arith)

-- who was in a set is in it with one more
pub has_more : (s d m : ℕ) → has s m ≡ true → has (with_director s d) m ≡ true
has_more s d m h =
    elim (leb d 31) as (λ b. has (cond b (bit_or s (2 ^ d)) s) m ≡ true)
    [ true ↦ has_or s (2 ^ d) m ∙ ap (λ b. b || has (2 ^ d) m) h | false ↦ h ]

has_power : (d : ℕ) → has (2 ^ d) d ≡ true
has_power d = ap (λ (n : ℕ). eqb (n % 2) 1) (div_self (pow_pos d))

-- a director that joins is in the set
pub has_joined : (s d : ℕ) → d ≤ 31 → has (with_director s d) d ≡ true
has_joined s d h =
    ap (λ (n : ℕ). has n d) (cond-true (leb d 31) (bit_or s (2 ^ d)) s (le-leb d 31 h))
    ∙ has_or s (2 ^ d) d ∙ ap (λ b. has s d || b) (has_power d) ∙ or-true (has s d)

-- the empty set has nobody
pub has_nothing : (d : ℕ) → has 0 d ≡ false
has_nothing d = ap (λ (n : ℕ). eqb (n % 2) 1) (zero-div (2 ^ d))

-- a number's digits one step up
has_half : (s d : ℕ) → has s (suc d) ≡ has (s / 2) d
has_half s d =
    let e : suc d ≡ 1 + d = omega arith in
    ap (λ (n : ℕ). eqb (n % 2) 1) (ap (λ (n : ℕ). s / 2 ^ n) e ∙ sym (shr-shr s 1 d))

-- a power of two has one digit
has_other_power : (m d : ℕ) → (m ≡ d → ⊥) → has (2 ^ m) d ≡ false
has_other_power zero zero ne = absurd (ne refl)
has_other_power zero (suc d) ne = has_half 1 d ∙ has_nothing d
has_other_power (suc m) zero ne =
    let p : 2 ^ suc m ≡ 2 ^ m * 2 = pow-suc 2 m in
    ne_eqb (2 ^ suc m / 1 % 2) 1 (λ e. omega arith)
has_other_power (suc m) (suc d) ne =
    let p : 2 ^ suc m ≡ 2 ^ m * 2 = pow-suc 2 m in
    let half : 2 ^ suc m / 2 ≡ 2 ^ m = omega arith in
    has_half (2 ^ suc m) d ∙ ap (λ (n : ℕ). has n d) half ∙ has_other_power m d (λ e. ne (ap suc e))

-- a director that joins changes nothing for another
pub has_other : (s m d : ℕ) → (m ≡ d → ⊥) → has (with_director s m) d ≡ has s d
has_other s m d ne =
    elim (leb m 31) as (λ b. has (cond b (bit_or s (2 ^ m)) s) d ≡ has s d)
    [ true ↦ has_or s (2 ^ m) d ∙ ap (λ b. has s d || b) (has_other_power m d ne) ∙ or-false (has s d) | false ↦ refl ]

-- a masked set, counted by its lowest digit and the rest
ones_and : (s t : ℕ) → ones (bit_and s t) ≡ bit_and (s % 2) (t % 2) + ones (bit_and (s / 2) (t / 2))
ones_and s t = ones_step (bit_and s t) ∙ ap₂ (λ (m n : ℕ). m + ones n) (and_mod s t 1) (and_shr s t 1)

and_digit : (a : ℕ) → a < 2 → bit_and a 1 ≡ cond (eqb a 1) 1 0
and_digit zero h = refl
and_digit (suc zero) h = refl
and_digit (suc (suc a)) h = absurd (omega arith)

even_digit : (a : ℕ) → a < 2 → eqb a 1 ≡ false → a ≡ 0
even_digit zero h e = refl
even_digit (suc zero) h e = absurd (eqb-false 1 1 e refl)
even_digit (suc (suc a)) h e = absurd (omega arith)

-- one digit more in a mask counts one more, where the masked set has it and the mask had not
pub ones_joined : (d s t : ℕ) → has t d ≡ false
    → ones (bit_and s (bit_or t (2 ^ d))) ≡ ones (bit_and s t) + cond (has s d) 1 0
ones_joined zero s t h =
    let e : t % 2 ≡ 0 = even_digit (t % 2) (omega arith) (ap (λ (n : ℕ). eqb (n % 2) 1) (omega arith) ∙ h) in
    let high : bit_or t 1 / 2 ≡ t / 2 = or_shr t 1 1 ∙ or_zero_r (t / 2) in
    let low : bit_or t 1 % 2 ≡ 1 = or_mod t 1 1 ∙ ap (λ (n : ℕ). bit_or n 1) e in
    let first : ones (bit_and s (bit_or t 1)) ≡ bit_and (s % 2) 1 + ones (bit_and (s / 2) (t / 2)) =
    ones_and s (bit_or t 1) ∙ ap₂ (λ (m n : ℕ). bit_and (s % 2) m + ones (bit_and (s / 2) n)) low high in
    let second : ones (bit_and s t) ≡ 0 + ones (bit_and (s / 2) (t / 2)) =
    ones_and s t ∙ ap (λ (n : ℕ). n + ones (bit_and (s / 2) (t / 2)))
    (ap (λ (n : ℕ). bit_and (s % 2) n) e ∙ and_zero_r (s % 2)) in
    let digit : bit_and (s % 2) 1 ≡ cond (has s 0) 1 0 =
    and_digit (s % 2) (omega arith) ∙ ap (λ (n : ℕ). cond (eqb (n % 2) 1) 1 0) (omega arith) in
    omega arith
ones_joined (suc d) s t h =
    let p : 2 ^ suc d ≡ 2 ^ d * 2 = pow-suc 2 d in
    let half : 2 ^ suc d / 2 ≡ 2 ^ d = omega arith in
    let even : 2 ^ suc d % 2 ≡ 0 = omega arith in
    let high : bit_or t (2 ^ suc d) / 2 ≡ bit_or (t / 2) (2 ^ d) =
    or_shr t (2 ^ suc d) 1 ∙ ap (λ (n : ℕ). bit_or (t / 2) n) half in
    let low : bit_or t (2 ^ suc d) % 2 ≡ t % 2 =
    or_mod t (2 ^ suc d) 1 ∙ ap (λ (n : ℕ). bit_or (t % 2) n) even ∙ or_zero_r (t % 2) in
    let both : ones (bit_and s (bit_or t (2 ^ suc d)))
    ≡ bit_and (s % 2) (t % 2) + ones (bit_and (s / 2) (bit_or (t / 2) (2 ^ d))) =
    ones_and s (bit_or t (2 ^ suc d)) ∙ ap₂ (λ (m n : ℕ). bit_and (s % 2) m + ones (bit_and (s / 2) n)) low high in
    let second = ones_and s t in
    let rest = ones_joined d (s / 2) (t / 2) (sym (has_half t d) ∙ h) in
    let digit : ◌≡◌ {A = ℕ} (cond (has (s / 2) d) 1 0) (cond (has s (suc d)) 1 0) =
    ap (λ b. cond {A = ℕ} b 1 0) (sym (has_half s d)) in
    omega arith
