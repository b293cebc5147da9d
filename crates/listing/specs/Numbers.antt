-- Numbers in decimal digits: how they are written, and which words are read as numbers.
use Rattle.std.specs.Prelude.{ℕ, zero, suc, ◌+◌, ◌-◌, ◌*◌, ◌^◌, ◌/◌, ◌%◌, Bool, false, cond, not, ◌&&◌, List, [], ◌∷◌, ◌++◌, Some, None, Option, ◌==◌, nat_le, nat_lt}
use Rattle.std.specs.Str.{all_ascii_digits}

-- the digits of n as bytes, k of them at most: the front of the number, then its last digit
abbrev pub spelled : ℕ → ℕ → List ℕ
spelled zero n = []
spelled (suc k) n = cond (nat_lt n 10) ((48 + n) ∷ []) (spelled k (n / 10) ++ ((48 + n % 10) ∷ []))

-- n in decimal; it has no more than n + 1 digits
unfoldable pub decimal_of : ℕ → List ℕ
decimal_of n = spelled (n + 1) n

-- the number that digits write, after n
abbrev pub read_on : ℕ → List ℕ → ℕ
read_on n [] = n
read_on n (c ∷ cs) = read_on (n * 10 + (c - 48)) cs

-- some digits, and no needless zero before them: a first zero stands alone
abbrev pub plain : List ℕ → Bool
plain [] = false
plain (c ∷ []) = all_ascii_digits (c ∷ [])
plain (c ∷ d ∷ cs) = not (c == 48) && all_ascii_digits (c ∷ d ∷ cs)

-- the largest number of 64 bits
abbrev pub max64 : ℕ
max64 = 2 ^ 64 - 1

-- a word as a number of at most max
abbrev pub numeral : ℕ → List ℕ → Option ℕ
numeral max w = cond (plain w && nat_le (read_on 0 w) max) (Some (read_on 0 w)) None
