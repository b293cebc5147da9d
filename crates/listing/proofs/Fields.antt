-- A field that a type reads is the field of a line.
use Rattle.std.proofs.Common.{◌≡◌, ℕ, ◌-◌, ◌^◌, ◌<◌, ◌≤◌, leb, List, [], ◌∷◌, Some, None, Option, Result, sym, refl, ◌∙◌, ⊎_elim, arith}
use Rattle.std.specs.Prelude.{OkIff}
use Rattle.std.specs.declared.num.TryFromIntError.{TryFromIntError}
use Rattle.std.proofs.lemmas.Bool.Decides.{nat_tests}
use Rattle.std.proofs.lemmas.Bool.{cases_Bool, leb-true, cond-false}
use Rattle.std.proofs.Math.Pow.{le_ones, lt_of_le_ones}
use Rattle.listing.specs.Answers.{Reads, Field}
use Rattle.listing.specs.Numbers.{plain, numeral, read_on}
use Rattle.listing.specs.Reading.{then, field}

-- what a type of k bits makes of a number
abbrev pub unsigned : ℕ → ℕ → Result ℕ TryFromIntError → Type 0
unsigned k n r = OkIff r (n < 2 ^ k) n

-- what a type of k bits, at most 64, makes of a word is the number that the word writes
pub number_is : (k : ℕ) (w : List ℕ) (r : Option ℕ) → 2 ^ k ≤ 2 ^ 64 → Reads (unsigned k) w r → r ≡ numeral (2 ^ k - 1) w
number_is k w None l h =
    ⊎_elim (λ t. ⊎_elim (λ s.
    let b = leb-true (read_on 0 w) (2 ^ k - 1) s in
    absurd ((h t (omega arith)).1 (lt_of_le_ones k b)))
    (λ s. rw t (sym (cond-false _ _ _ s))) (cases_Bool (leb (read_on 0 w) (2 ^ k - 1))))
    (λ t. rw t refl) (cases_Bool (plain w))
number_is k w (Some n) l h = grind (arith, nat_tests, le_ones {a = read_on 0 w} k)

field_is : (k : ℕ) (ws ws' : List (List ℕ)) (r : Option ℕ) → 2 ^ k ≤ 2 ^ 64 → Field (unsigned k) ws r ws' →
    {B : Type 0} (f : ℕ → List (List ℕ) → Option B) → field (2 ^ k - 1) ws f ≡ then r (λ n. f n ws')
field_is k [] ws' r l h f = rw h refl
field_is k (w ∷ ws) ws' r l h f = rw (h.0, number_is k w r l h.1) refl

-- a field that was not read, and one that was, with what was made of it
pub field_stop : {B : Type 0} (k : ℕ) (ws ws' : List (List ℕ)) (f : ℕ → List (List ℕ) → Option B) →
    2 ^ k ≤ 2 ^ 64 → Field (unsigned k) ws None ws' → None ≡ field (2 ^ k - 1) ws f
field_stop k ws ws' f l h = sym (field_is k ws ws' None l h f)

pub field_then : {B : Type 0} (k : ℕ) (ws ws' : List (List ℕ)) (n : ℕ) (f : ℕ → List (List ℕ) → Option B)
    (o : Option B) → 2 ^ k ≤ 2 ^ 64 → Field (unsigned k) ws (Some n) ws' → o ≡ f n ws' → o ≡ field (2 ^ k - 1) ws f
field_then k ws ws' n f o l h e = e ∙ sym (field_is k ws ws' (Some n) l h f)
