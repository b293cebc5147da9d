-- Chains of directors, and what a settled command makes of them.
use Rattle.std.specs.Prelude.{ℕ, Option, Some, None, Bool, true, cond, not, ◌&&◌, List, [], ◌∷◌, ◌++◌, length, filter, ◌==◌, nat_le, nat_lt}
use Rattle.std.specs.List.{list_any, position_or_len}
use Rattle.command.specs.Sets.{has, with_director, set_of}

-- d stands in the list
abbrev pub is_member : ℕ → List ℕ → Bool
is_member d ms = list_any (λ m. m == d) ms

-- where d stands in the list, from 0
abbrev pub place_of : ℕ → List ℕ → Option ℕ
place_of d ms =
    let i = position_or_len (λ m. m == d) ms in
    cond (nat_lt i (length ms)) (Some i) None

-- each is a director's number, and no two are the same
abbrev pub different_directors : List ℕ → Bool
different_directors [] = true
different_directors (m ∷ ms) = nat_le m 31 && not (is_member m ms) && different_directors ms

-- a chain is a list of 1 to 7 different directors
abbrev pub valid_chain : List ℕ → Bool
valid_chain ms = nat_le 1 (length ms) && nat_le (length ms) 7 && different_directors ms

-- every one of the list is in the set
abbrev pub all_in : ℕ → List ℕ → Bool
all_in s [] = true
all_in s (m ∷ ms) = has s m && all_in s ms

-- a chain, and the set of all who were ever members
pub record Membership : Type 0 where
  pub members : List ℕ
  pub ever : ℕ

-- the beginning: who founds the chain has been a member
abbrev pub founded : List ℕ → Membership
founded ms = record { members = ms; ever = set_of ms }

-- the members but for a, in their order
abbrev pub without : ℕ → List ℕ → List ℕ
without a ms = filter (λ m. not (m == a)) ms

-- add puts a at the end if members are fewer than 7 and a was never one
abbrev pub added : ℕ → Membership → Membership
added a m =
    cond (nat_lt (length m.members) 7 && not (has m.ever a))
    (record { members = m.members ++ (a ∷ []); ever = with_director m.ever a })
    m

-- remove takes a out if it is a member and not the only one
abbrev pub removed : ℕ → Membership → Membership
removed a m =
    cond (nat_lt 1 (length m.members) && is_member a m.members)
    (record { members = without a m.members; ever = m.ever })
    m
