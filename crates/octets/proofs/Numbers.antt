-- A number and its bytes determine each other.
use Rattle.std.proofs.Common.{◌≡◌, ℕ, zero, suc, ◌+◌, ◌*◌, ◌/◌, ◌%◌, ◌^◌, ◌<◌, List, [], ◌∷◌, length, refl, ap, ◌∙◌, ap₂, pow-suc, arith}
use Rattle.std.specs.List.{All}
use Rattle.std.proofs.lemmas.List.Elements.{All-cons, All-head, All-tail}
use Rattle.octets.specs.Numbers.{le, num}

-- each is a byte
abbrev pub Bytes : List ℕ → Type 0
Bytes bs = All (λ b. b < 256) bs

pub length_le : (k n : ℕ) → length (le k n) ≡ k
length_le zero n = refl
length_le (suc k) n = ap suc (length_le k (n / 256))

pub bytes_le : (k n : ℕ) → Bytes (le k n)
bytes_le zero n = λ k d l. absurd (omega arith)
bytes_le (suc k) n = All-cons (λ b. b < 256) (n % 256) (le k (n / 256)) (omega arith) (bytes_le k (n / 256))

-- a number that fits k bytes is read from them again
pub num_le : (k n : ℕ) → n < 256 ^ k → num (le k n) ≡ n
num_le zero n h = omega arith
num_le (suc k) n h =
    let p : 256 ^ suc k ≡ 256 ^ k * 256 = pow-suc 256 k in
    let r = num_le k (n / 256) (omega arith) in
    omega arith

pub num_fits : (bs : List ℕ) → Bytes bs → num bs < 256 ^ length bs
num_fits [] h = omega arith
num_fits (b ∷ bs) h =
    let p : 256 ^ suc (length bs) ≡ 256 ^ length bs * 256 = pow-suc 256 (length bs) in
    let r = num_fits bs (All-tail (λ b. b < 256) b bs h) in
    let l = All-head (λ b. b < 256) b bs h in
    omega arith

-- bytes are those of the number that they tell
pub le_num : (bs : List ℕ) → Bytes bs → le (length bs) (num bs) ≡ bs
le_num [] h = refl
le_num (b ∷ bs) h =
    let l = All-head (λ b. b < 256) b bs h in
    let low : (b + 256 * num bs) % 256 ≡ b = omega arith in
    let high : (b + 256 * num bs) / 256 ≡ num bs = omega arith in
    ap₂ (λ (x : ℕ) (xs : List ℕ). x ∷ xs) low (ap (le (length bs)) high ∙ le_num bs (All-tail (λ b. b < 256) b bs h))
