-- Taking a director out of a chain: it is found, and those after it move up.
use Rattle.std.proofs.Common.{◌≡◌, ℕ, suc, Some, None, ltb, ◌+◌, ◌<◌, ◌≤◌, Bool, true, false, cond, not, ◌||◌, eqb, List, [], ◌∷◌, ◌++◌, length, get_or, set, replicate, refl, sym, ap, ap₂, ◌∙◌, append_assoc, ◌-◌, arith}
use Rattle.std.proofs.lemmas.Bool.{or_parts, eqb-true, ltb-true, ltb-false, cond-false, and_right}
use Rattle.std.proofs.lemmas.List.{length-append, take-set, drop-set-lt, get_or-set_same, replicate_more}
use Rattle.std.proofs.lemmas.List.Edits.{length-remove, remove-append_left}
use Rattle.command.specs.Places.{placed}
use Rattle.std.specs.List.{remove, prefix_len}
use Rattle.command.specs.Members.{Membership, removed, is_member, different_directors, place_of, without}
use Rattle.command.proofs.Lists.{head_parts}

-- where a stands in a list, or the length where it does not
abbrev pub place_in : ℕ → List ℕ → ℕ
place_in a ms = prefix_len (λ m. not (eqb m a)) ms

-- who is no member is not missed
pub without_none : (a : ℕ) (ms : List ℕ) → is_member a ms ≡ false → without a ms ≡ ms
without_none a [] h = refl
without_none a (m ∷ ms) h =
    let p = or_parts (eqb m a) (is_member a ms) h in
    rw p.0 (ap (λ (xs : List ℕ). m ∷ xs) (without_none a ms p.1))

-- who has a place is a member, and who has none is not
pub member_placed : (a : ℕ) (ms : List ℕ) → place_in a ms < length ms → is_member a ms ≡ true
member_placed a [] h = absurd (omega arith)
member_placed a (m ∷ ms) h = go (eqb m a) h (member_placed a ms)
  where
    go : (b : Bool) → cond (not b) (1 + place_in a ms) 0 < suc (length ms)
        → (place_in a ms < length ms → is_member a ms ≡ true) → (b || is_member a ms) ≡ true
    go true h r = refl
    go false h r = r (omega arith)

pub member_missing : (a : ℕ) (ms : List ℕ) → length ms ≤ place_in a ms → is_member a ms ≡ false
member_missing a [] h = refl
member_missing a (m ∷ ms) h = go (eqb m a) h (member_missing a ms)
  where
    go : (b : Bool) → suc (length ms) ≤ cond (not b) (1 + place_in a ms) 0
        → (length ms ≤ place_in a ms → is_member a ms ≡ false) → (b || is_member a ms) ≡ false
    go true h r = absurd (omega arith)
    go false h r = r (omega arith)

remove_later : (m : ℕ) (ms : List ℕ) (i : ℕ) → remove (m ∷ ms) (1 + i) ≡ m ∷ remove ms i
remove_later m ms i = let e : 1 + i ≡ suc i = omega arith in rw e refl

-- of different directors only the one at a's place goes
pub without_placed : (a : ℕ) (ms : List ℕ) → different_directors ms ≡ true → place_in a ms < length ms
    → without a ms ≡ remove ms (place_in a ms)
without_placed a [] d h = absurd (omega arith)
without_placed a (m ∷ ms) d h = go (eqb m a) refl h (without_placed a ms (head_parts m ms d).rest)
  where
    go : (b : Bool) → eqb m a ≡ b → cond (not b) (1 + place_in a ms) 0 < suc (length ms)
        → (place_in a ms < length ms → without a ms ≡ remove ms (place_in a ms))
        → cond (not b) (m ∷ without a ms) (without a ms) ≡ remove (m ∷ ms) (cond (not b) (1 + place_in a ms) 0)
    go true e h r =
        without_none a ms (ap (λ (n : ℕ). is_member n ms) (sym (eqb-true m a e)) ∙ (head_parts m ms d).new)
    go false e h r = ap (λ (xs : List ℕ). m ∷ xs) (r (omega arith)) ∙ sym (remove_later m ms (place_in a ms))

-- the places after one of them is emptied and goes to the end
pub emptied : (ms : List ℕ) (i : ℕ) → i < length ms → length ms ≤ 7
    → remove (set (placed ms) i 0) i ++ (get_or (set (placed ms) i 0) i 0 ∷ []) ≡ placed (remove ms i)
emptied ms i l few =
    let all : i < length (placed ms) = omega (arith, length-append ms (replicate (7 - length ms) 0)) in
    let zero : get_or (set (placed ms) i 0) i 0 ≡ 0 = get_or-set_same (placed ms) i 0 0 all in
    let others : remove (set (placed ms) i 0) i ≡ remove ms i ++ replicate (7 - length ms) 0 =
    ap₂ (λ (xs ys : List ℕ). xs ++ ys) (take-set (placed ms) i 0) (drop-set-lt (suc i) (placed ms) i 0 (omega arith))
    ∙ remove-append_left ms (replicate (7 - length ms) 0) i l in
    let one = length-remove ms i l in
    let more : 7 - length ms + 1 ≡ 7 - length (remove ms i) = omega arith in
    ap₂ (λ (xs : List ℕ) (z : ℕ). xs ++ (z ∷ [])) others zero
    ∙ append_assoc (remove ms i) (replicate (7 - length ms) 0) (0 ∷ [])
    ∙ ap (λ (xs : List ℕ). remove ms i ++ xs)
    (replicate_more (7 - length ms) 0 ∙ ap (λ (n : ℕ). replicate n 0) more)

-- what finding a director tells
pub found : (a i : ℕ) (ms : List ℕ) → place_of a ms ≡ Some i → (place_in a ms < length ms) × (i ≡ place_in a ms)
found a i ms e = go (ltb (place_in a ms) (length ms)) refl e
  where
    go : (b : Bool) → ltb (place_in a ms) (length ms) ≡ b → cond b (Some (place_in a ms)) None ≡ Some i
        → (place_in a ms < length ms) × (i ≡ place_in a ms)
    go true l e = (ltb-true (place_in a ms) (length ms) l, cc)
    go false l e = cc

pub missed : (a : ℕ) (ms : List ℕ) → place_of a ms ≡ None → is_member a ms ≡ false
missed a ms e = member_missing a ms (go (ltb (place_in a ms) (length ms)) refl e)
  where
    go : (b : Bool) → ltb (place_in a ms) (length ms) ≡ b → cond b (Some (place_in a ms)) None ≡ None
        → length ms ≤ place_in a ms
    go true l e = cc
    go false l e = ltb-false (place_in a ms) (length ms) l

-- who is no member is not taken out
pub removed_not : (m : Membership) (a : ℕ) → is_member a m.members ≡ false → removed a m ≡ m
removed_not m a h = cond-false _ _ _ (and_right (ltb 1 (length m.members)) (is_member a m.members) h)
