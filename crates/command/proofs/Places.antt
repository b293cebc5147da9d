-- What stands in the places of a chain, and after an add or a remove that has an effect.
use Rattle.std.proofs.Common.{◌≡◌, ℕ, suc, ◌+◌, ◌-◌, ◌<◌, ◌≤◌, true, false, List, Some, ◌++◌, [], ◌∷◌, length, get_or, set, take, replicate, refl, sym, ap, ap₂, ◌∙◌, append_assoc, arith}
use Rattle.std.proofs.lemmas.List.{take_at, length_push}
use Rattle.std.proofs.lemmas.List.Edits.{length-remove}
use Rattle.std.proofs.Math.Seq.{set-append_seam}
use Rattle.std.specs.List.{remove}
use Rattle.command.specs.declared.chains.Chain.TheInside.{Inside}
use Rattle.command.specs.declared.sets.DirectorSet.{DirectorSet}
use Rattle.command.specs.Members.{valid_chain, all_in, place_of, removed, without}
use Rattle.command.specs.Sets.{has, with_director}
use Rattle.command.specs.Places.{placed, membership, counted, IsChain}
use Rattle.command.proofs.Lists.{valid_parts}
use Rattle.command.proofs.Changes.{added_valid, added_known, removed_is, removed_valid, removed_known}
use Rattle.command.proofs.Removal.{member_placed, without_placed, emptied, found}

-- the members are the first of the places
pub taken : (ms : List ℕ) → take (length ms) (placed ms) ≡ ms
taken ms = take_at ms (replicate (7 - length ms) 0) (length ms) refl

-- places of a valid chain, all of whose members are among those who were ever members, are a chain's
pub chain_from : (ms qs : List ℕ) (n : ℕ) (ever : DirectorSet) → qs ≡ placed ms → n ≡ length ms
    → valid_chain ms ≡ true → all_in ever.bits ms ≡ true → IsChain (record { places = qs; count = n; ever = ever })
chain_from ms qs n ever e l valid known =
    let t : take n qs ≡ ms = ap₂ (λ (k : ℕ) (xs : List ℕ). take k xs) l e ∙ taken ms in
    let v = valid_parts ms valid in
    record { few = omega arith; valid = rw t valid; known = rw t known; rest = e ∙ ap placed (sym t) }

-- the places after one is emptied and the others moved up
pub after_removal : (c : Inside) → IsChain c → (a i : ℕ) (qs : List ℕ) → 1 < c.count
    → place_of a (take c.count c.places) ≡ Some i
    → qs ≡ remove (set c.places i 0) i ++ (get_or (set c.places i 0) i 0 ∷ [])
    → IsChain (record { places = qs; count = c.count - 1; ever = c.ever })
    × (membership (record { places = qs; count = c.count - 1; ever = c.ever }) ≡ removed a (membership c))
after_removal c h a i qs some at e =
    let ms = take c.count c.places in
    let n : length ms ≡ c.count = counted c.count c.places h.few h.rest in
    let f = found a i ms at in
    let v = valid_parts ms h.valid in
    let w : without a ms ≡ remove ms i =
    without_placed a ms v.different f.0 ∙ ap (λ (k : ℕ). remove ms k) (sym f.1) in
    let within : i < length ms = omega (arith, f.0, f.1) in
    let one = length-remove ms i within in
    let p : qs ≡ placed (without a ms) =
    e ∙ ap (λ (ps : List ℕ). remove (set ps i 0) i ++ (get_or (set ps i 0) i 0 ∷ [])) h.rest
    ∙ emptied ms i within (omega arith) ∙ ap placed (sym w) in
    let l : c.count - 1 ≡ length (without a ms) = omega (arith, ap length w, one) in
    let t : take (c.count - 1) qs ≡ without a ms =
    ap₂ (λ (k : ℕ) (xs : List ℕ). take k xs) l p ∙ taken (without a ms) in (
      chain_from (without a ms) qs (c.count - 1) c.ever p l
          (removed_valid ms c.ever.bits a h.valid h.known (omega arith)) (removed_known ms c.ever.bits a h.valid h.known),
      ap (λ (xs : List ℕ). record { members = xs; ever = c.ever.bits }) t
          ∙ sym (removed_is (membership c) a (omega arith) (member_placed a ms f.0)),
    )

-- the places after one more is taken
pub after_addition : (c : Inside) → IsChain c → (a : ℕ) (ever : DirectorSet) → c.count < 7 → a ≤ 31
    → has c.ever.bits a ≡ false → ever.bits ≡ with_director c.ever.bits a
    → IsChain (record { places = set c.places c.count a; count = c.count + 1; ever = ever })
after_addition c h a ever room low new e =
    let ms = take c.count c.places in
    let n : length ms ≡ c.count = counted c.count c.places h.few h.rest in
    let more : 7 - length ms ≡ suc (7 - (c.count + 1)) = omega arith in
    let one : c.count + 1 ≡ length (ms ++ (a ∷ [])) = omega (arith, length_push ms a) in
    let zeros = replicate (7 - (c.count + 1)) 0 in
    let p : set c.places c.count a ≡ placed (ms ++ (a ∷ [])) =
    ap₂ (λ (ps : List ℕ) (k : ℕ). set ps k a) (h.rest ∙ ap (λ (k : ℕ). ms ++ replicate k 0) more) (sym n)
    ∙ set-append_seam ms 0 zeros a ∙ sym (append_assoc ms (a ∷ []) zeros)
    ∙ ap (λ (k : ℕ). (ms ++ (a ∷ [])) ++ replicate (7 - k) 0) one in
    chain_from (ms ++ (a ∷ [])) _ (c.count + 1) ever p one
    (added_valid ms c.ever.bits a h.valid h.known low (omega arith) new)
    (added_known ms c.ever.bits a h.valid h.known ever.bits e low)
