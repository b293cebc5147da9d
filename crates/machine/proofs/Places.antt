-- One place of a list of numbers is changed.
use Rattle.std.proofs.Common.{◌≡◌, ℕ, ◌<◌, cond, eqb, List, length, get_or, set, arith}
use Rattle.std.proofs.lemmas.Bool.Decides.{nat_tests}
use Rattle.std.proofs.lemmas.Grind.{get_or-set_at}
use Rattle.std.proofs.lemmas.List.{get_or-set_other}

-- what stands at place k once v stands at place i
pub get_d_set : (s : List ℕ) (i k v : ℕ) → i < length s → get_or (set s i v) k 0 ≡ cond (eqb i k) v (get_or s k 0)
get_d_set s i k v l = grind (arith, nat_tests, get_or-set_at, get_or-set_other)
