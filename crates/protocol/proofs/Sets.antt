-- Who is in a set that was put together.
use Rattle.std.proofs.Common.{◌≡◌, ℕ, true, ◌⊎◌, sym, ◌∙◌, inl, inr}
use lib.Bits.{bit_or}
use Rattle.std.proofs.lemmas.Bool.{cases_eq, or_cases, both_ways}
use Rattle.command.specs.Sets.{has, with_director}
use Rattle.command.proofs.Bits.{has_or, has_other, has_nothing}

pub nobody_has : (e : ℕ) → has 0 e ≡ true → ⊥
nobody_has e h = both_ways (has 0 e) (has_nothing e) h

pub has_with : (s d e : ℕ) → has (with_director s d) e ≡ true → (d ≡ e) ⊎ (has s e ≡ true)
has_with s d e h = elim (cases_eq d e) [ inl same ↦ inl same | inr other ↦ inr (sym (has_other s d e other) ∙ h) ]

pub has_alone : (d e : ℕ) → has (with_director 0 d) e ≡ true → d ≡ e
has_alone d e h = elim (has_with 0 d e h) [ inl same ↦ same | inr more ↦ absurd (nobody_has e more) ]

pub has_union : (s t e : ℕ) → has (bit_or s t) e ≡ true → (has s e ≡ true) ⊎ (has t e ≡ true)
has_union s t e h = or_cases (has s e) (has t e) (sym (has_or s t e) ∙ h)
