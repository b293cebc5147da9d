-- Reading digits one after another gives the number that a word writes.
use Rattle.std.proofs.Common.{◌≡◌, ℕ, ◌+◌, ◌-◌, ◌*◌, ◌<◌, ◌≤◌, Bool, true, false, cond, ◌&&◌, eqb, leb, List, [], ◌∷◌, length, get_or, drop, Some, None, Option, sym, refl, ◌∙◌, ⊎_elim, arith, rules}
use Rattle.std.specs.Str.{all_ascii_digits}
use Rattle.std.specs.Char.{is_ascii_digit}
use Rattle.std.proofs.lemmas.Bool.{cases_Bool, cond-true, cond-false, lt-leb, le-leb, leb-true, leb-false, ne_eqb}
use Rattle.std.proofs.lemmas.List.{at_drop_more, at_drop_all}
use Rattle.std.proofs.lemmas.Str.Parse.{IsNumeralModel, numerals_by_fold}
use Rattle.listing.specs.Numbers.{read_on, numeral}

-- numbers in digits, as the library's lemmas know them
pub own : IsNumeralModel (λ ds. all_ascii_digits ds ≡ true) (read_on 0)
own = numerals_by_fold _ (search rules) read_on (search rules)

-- the digits from here on, after the number n; it stops at the first byte that is no digit or makes it too large
abbrev pub value_from : ℕ → ℕ → List ℕ → Option ℕ
value_from max n [] = Some n
value_from max n (c ∷ cs) =
    cond (is_ascii_digit c) (cond (leb (n * 10 + (c - 48)) max) (value_from max (n * 10 + (c - 48)) cs) None) None

read_on_ge : (n : ℕ) (cs : List ℕ) → n ≤ read_on n cs
read_on_ge n [] = omega arith
read_on_ge n (c ∷ cs) = let ih = read_on_ge (n * 10 + (c - 48)) cs in omega arith

value_from_is : (max n : ℕ) (cs : List ℕ) → n ≤ max →
    value_from max n cs ≡ cond (all_ascii_digits cs && leb (read_on n cs) max) (Some (read_on n cs)) None
value_from_is max n [] h = rw (le-leb n max h) refl
value_from_is max n (c ∷ cs) h =
    ⊎_elim (λ d. rw d (
    ⊎_elim (λ e. rw e (value_from_is max (n * 10 + (c - 48)) cs (leb-true _ _ e)))
    (λ e. rw e (
    let big = read_on_ge (n * 10 + (c - 48)) cs in
    let g = leb-false _ _ e in
    let f : leb (read_on (n * 10 + (c - 48)) cs) max ≡ false = lt-leb _ _ (omega arith) in
    rw f (none (all_ascii_digits cs) _)))
    (cases_Bool (leb (n * 10 + (c - 48)) max))))
    (λ d. rw d refl) (cases_Bool (is_ascii_digit c))
  where
    none : (b : Bool) (x : ℕ) → ◌≡◌ {A = Option ℕ} None (cond (b && false) (Some x) None)
    none true x = refl
    none false x = refl

-- a word that is not empty and has no needless zero
pub numeral_starts : (max : ℕ) (w : List ℕ) → 1 ≤ length w → (get_or w 0 0 ≡ 48 → length w ≤ 1) →
    numeral max w ≡ value_from max 0 w
numeral_starts max [] e h = absurd (omega arith)
numeral_starts max (c ∷ []) e h = sym (value_from_is max 0 (c ∷ []) (omega arith))
numeral_starts max (c ∷ d ∷ cs) e h =
    let n : eqb c 48 ≡ false = ne_eqb c 48 (λ z. omega (arith, h z)) in
    rw n (sym (value_from_is max 0 (c ∷ d ∷ cs) (omega arith)))

-- one byte on
step : (max n i : ℕ) (w : List ℕ) → i < length w → value_from max n (drop i w) ≡
    cond (is_ascii_digit (get_or w i 0))
    (cond (leb (n * 10 + (get_or w i 0 - 48)) max) (value_from max (n * 10 + (get_or w i 0 - 48)) (drop (i + 1) w)) None)
    None
step max n i w h = at_drop_more (value_from max n) w i 0 h

pub no_digit : (max n i : ℕ) (w : List ℕ) (o : Option ℕ) → i < length w → is_ascii_digit (get_or w i 0) ≡ false →
    o ≡ value_from max n (drop i w) → None ≡ o
no_digit max n i w o h d e = sym (e ∙ step max n i w h ∙ cond-false _ _ _ d)

pub too_large : (max n i : ℕ) (w : List ℕ) (o : Option ℕ) → i < length w → is_ascii_digit (get_or w i 0) ≡ true →
    max < n * 10 + (get_or w i 0 - 48) → o ≡ value_from max n (drop i w) → None ≡ o
too_large max n i w o h d g e =
    sym (e ∙ step max n i w h ∙ cond-true _ _ _ d ∙ cond-false _ _ _ (lt-leb _ _ g))

pub digit_more : (max n i : ℕ) (w : List ℕ) (o : Option ℕ) → i < length w → is_ascii_digit (get_or w i 0) ≡ true →
    n * 10 + (get_or w i 0 - 48) ≤ max → o ≡ value_from max n (drop i w) →
    o ≡ value_from max (n * 10 + (get_or w i 0 - 48)) (drop (i + 1) w)
digit_more max n i w o h d g e =
    e ∙ step max n i w h ∙ cond-true _ _ _ d ∙ cond-true _ _ _ (le-leb _ _ g)

pub digits_end : (max n i : ℕ) (w : List ℕ) (o : Option ℕ) → length w ≤ i → o ≡ value_from max n (drop i w) → Some n ≡ o
digits_end max n i w o h e = sym (e ∙ at_drop_all (value_from max n) w i h)
