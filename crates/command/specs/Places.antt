-- How a chain stands in its seven places.
use Rattle.std.specs.Prelude.{◌≡◌, ℕ, ◌-◌, ◌+◌, ◌≤◌, min, true, List, ◌++◌, length, take, replicate}
use Rattle.std.proofs.Common.{sym, ap, ap₂, arith}
use Rattle.std.proofs.lemmas.List.{length-take, length-append, length-replicate}
use Rattle.command.specs.declared.chains.Chain.TheInside.{Inside}
use Rattle.command.specs.Members.{Membership, valid_chain, all_in}

-- the chain that stands in the places: as many of the first as it has members
abbrev pub membership : Inside → Membership
membership c = record { members = take c.count c.places; ever = c.ever.bits }

-- seven places with these members first, and 0 in those that are left
abbrev pub placed : List ℕ → List ℕ
placed ms = ms ++ replicate (7 - length ms) 0

-- where a chain stands
abbrev pub places_of : Membership → Inside
places_of m = record { places = placed m.members; count = length m.members; ever = record { bits = m.ever } }

-- the places hold a valid chain, whose members all are among those who were ever members, and 0 after them
pub record IsChain (c : Inside) : Type 0 where
  pub few : c.count ≤ 7
  pub valid : valid_chain (take c.count c.places) ≡ true
  pub known : all_in c.ever.bits (take c.count c.places) ≡ true
  pub rest : c.places ≡ placed (take c.count c.places)

-- the members are as many as are counted
pub counted : (n : ℕ) (ps : List ℕ) → n ≤ 7 → ps ≡ placed (take n ps) → length (take n ps) ≡ n
counted n ps few e =
    let t : length (take n ps) ≡ min n (length ps) = length-take n ps in
    let l : length ps ≡ length (take n ps) + (7 - length (take n ps)) =
    simp (length-append, length-replicate) at (ap length e) in
    omega arith

-- a chain tells where it stands
pub gives_back : (c : Inside) → IsChain c → places_of (membership c) ≡ c
gives_back c h =
    ap₂ (λ (ps : List ℕ) (n : ℕ). record { places = ps; count = n; ever = c.ever }) (sym h.rest)
    (counted c.count c.places h.few h.rest)
