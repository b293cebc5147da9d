-- Words, lines and numbers that were written are found again.
use Rattle.std.proofs.Common.{◌≡◌, ℕ, ◌^◌, ◌<◌, ◌≤◌, Bool, true, not, eqb, List, [], ◌∷◌, ◌++◌, map, length, get_or, Some, decimal, refl, ap, ◌∙◌, arith}
use Rattle.std.specs.Str.{all_ascii_digits}
use Rattle.std.specs.List.{list_all}
use Rattle.std.proofs.lemmas.List.Folds.{list_all-append}
use Rattle.listing.proofs.Figures.{own}
use Rattle.std.proofs.lemmas.Fmt.{digits_decimal, digits_value-decimal, decimal_nonempty, first_decimal, decimal_digit}
use Rattle.std.proofs.lemmas.Bool.Decides.{nat_tests}
use Rattle.std.proofs.lemmas.List.{append-nil}
use Rattle.listing.specs.Pieces.{lines, words}
use Rattle.listing.specs.Numbers.{decimal_of, plain, numeral}
use Rattle.listing.specs.Writing.{spaced}
use Rattle.listing.proofs.Written.{decimal_is}

-- b does not stand in the list
abbrev pub lacks : ℕ → List ℕ → Bool
lacks b bs = list_all (λ c. not (eqb c b)) bs

pub lacks_append : (b : ℕ) (xs ys : List ℕ) → lacks b xs ≡ true → lacks b ys ≡ true → lacks b (xs ++ ys) ≡ true
lacks_append b xs ys p q = grind (arith, list_all-append)

pub words_one : (w : List ℕ) → lacks 32 w ≡ true → words w ≡ w ∷ []
words_one [] h = refl
words_one (c ∷ cs) h = grind (arith, nat_tests, words_one cs)

pub words_first : (w rest : List ℕ) → lacks 32 w ≡ true → words (w ++ (32 ∷ rest)) ≡ w ∷ words rest
words_first [] rest h = refl
words_first (c ∷ cs) rest h = grind (arith, nat_tests, words_first cs rest)

pub lines_first : (l rest : List ℕ) → lacks 10 l ≡ true → lines (l ++ (10 ∷ rest)) ≡ l ∷ lines rest
lines_first [] rest h = refl
lines_first (c ∷ cs) rest h = grind (arith, nat_tests, lines_first cs rest)

digits_lack : (b : ℕ) (ds : List ℕ) → b < 48 → all_ascii_digits ds ≡ true → lacks b ds ≡ true
digits_lack b [] h p = refl
digits_lack b (d ∷ ds) h p = grind (arith, nat_tests, digits_lack b ds)

pub decimal_lacks : (b n : ℕ) → b < 48 → n < 2 ^ 64 → lacks b (decimal_of n) ≡ true
decimal_lacks b n h s = rw (decimal_is n s) (digits_lack b (decimal n) h (digits_decimal own n s))

plain_from : (ds : List ℕ) → all_ascii_digits ds ≡ true → 0 < length ds → (get_or ds 0 0 ≡ 48 → length ds ≡ 1) →
    plain ds ≡ true
plain_from [] p h z = absurd (omega arith)
plain_from (d ∷ []) p h z = p
plain_from (d ∷ e ∷ ds) p h z = grind (arith, nat_tests)

pub numeral_back : (max n : ℕ) → n ≤ max → n < 2 ^ 64 → numeral max (decimal_of n) ≡ Some n
numeral_back max n h s =
    grind (
      arith,
      nat_tests,
      plain_from,
      decimal_is,
      digits_decimal own,
      digits_value-decimal own,
      decimal_nonempty,
      first_decimal,
      decimal_digit,
    )

-- numbers that are small enough, and the words that they make
abbrev pub Small : List ℕ → Type 0
Small [] = Unit {0}
Small (n ∷ ns) = (n < 2 ^ 64) × Small ns

pub words_back : (w ns : List ℕ) → lacks 32 w ≡ true → Small ns → words (w ++ spaced ns) ≡ w ∷ map decimal_of ns
words_back w [] h s = rw (append-nil w) (words_one w h)
words_back w (n ∷ ns) h s =
    words_first w (decimal_of n ++ spaced ns) h ∙
    ap (λ x. w ∷ x) (words_back (decimal_of n) ns (decimal_lacks 32 n (omega arith) s.0) s.1)

pub spaced_lacks : (ns : List ℕ) → Small ns → lacks 10 (spaced ns) ≡ true
spaced_lacks [] s = refl
spaced_lacks (n ∷ ns) s =
    lacks_append 10 (decimal_of n) (spaced ns) (decimal_lacks 10 n (omega arith) s.0) (spaced_lacks ns s.1)
