-- Sets of directors: a number of 32 bits, in which bit d tells whether director d is in the set.
use Rattle.std.specs.Prelude.{ℕ, ◌/◌, ◌%◌, ◌^◌, Bool, cond, List, [], ◌∷◌, ◌==◌, bit_or, nat_le}

-- director d is in the set s
abbrev pub has : ℕ → ℕ → Bool
has s d = s / 2 ^ d % 2 == 1

-- s and director d; a number above 31 is no director's and adds nothing
abbrev pub with_director : ℕ → ℕ → ℕ
with_director s d = cond (nat_le d 31) (bit_or s (2 ^ d)) s

-- the set s and the directors of a list
abbrev pub with_all : ℕ → List ℕ → ℕ
with_all s [] = s
with_all s (d ∷ ds) = with_all (with_director s d) ds

-- the set of the directors of a list
abbrev pub set_of : List ℕ → ℕ
set_of ds = with_all 0 ds
