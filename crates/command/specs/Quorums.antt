-- When a set of directors is enough to decide for a chain.
use Rattle.std.specs.Prelude.{◌≡◌, ℕ, ◌+◌, ◌*◌, Bool, true, cond, List, [], ◌∷◌, length, nat_lt}
use Rattle.command.specs.Sets.{has}
use Rattle.command.specs.Members.{is_member}

-- how many members of a chain are in the set s; who is no member does not count
abbrev pub votes : List ℕ → ℕ → ℕ
votes [] s = 0
votes (m ∷ ms) s = cond (has s m) 1 0 + votes ms s

-- s is enough for a chain when more than half of its members are in it
abbrev pub enough : List ℕ → ℕ → Bool
enough ms s = nat_lt (length ms) (2 * votes ms s)

-- some member of the chain is in both sets
pub record Shared (ms : List ℕ) (s t : ℕ) : Type 0 where
  pub who : ℕ
  pub member : is_member who ms ≡ true
  pub in_first : has s who ≡ true
  pub in_second : has t who ≡ true

-- two sets that are enough for one chain share a member: all that agreement asks of quorums
abbrev pub QuorumsMeet : Type 0
QuorumsMeet = (ms : List ℕ) (s t : ℕ) → enough ms s ≡ true → enough ms t ≡ true → Shared ms s t
