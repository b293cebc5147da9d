-- Lists of directors: members, different ones, those in a set.
use Rattle.std.proofs.Common.{◌≡◌, ℕ, suc, ◌+◌, ◌≤◌, Bool, true, false, cond, not, ◌&&◌, ◌||◌, eqb, leb, List, [], ◌∷◌, ◌++◌, length, sym, refl, ap, ◌∙◌, ap₂, inl, inr, arith}
use Rattle.std.proofs.lemmas.Bool.{and_parts, and_from, not-true, not_from_false, eqb-true, or_cases, both_ways, leb-true, le-leb, or_parts, ne_eqb, eqb-false}
use Rattle.command.specs.Sets.{has, with_director, with_all, set_of}
use Rattle.command.specs.Members.{is_member, different_directors, valid_chain, all_in, without}
use Rattle.command.proofs.Bits.{has_more, has_joined}

-- the three parts of a valid chain
pub record Valid (ms : List ℕ) : Type 0 where
  pub some : 1 ≤ length ms
  pub few : length ms ≤ 7
  pub different : different_directors ms ≡ true

pub valid_parts : (ms : List ℕ) → valid_chain ms ≡ true → Valid ms
valid_parts ms h =
    let p = and_parts (leb 1 (length ms) && leb (length ms) 7) (different_directors ms) h in
    let q = and_parts (leb 1 (length ms)) (leb (length ms) 7) p.0 in
    record { some = leb-true 1 (length ms) q.0; few = leb-true (length ms) 7 q.1; different = p.1 }

pub valid_from : (ms : List ℕ) → Valid ms → valid_chain ms ≡ true
valid_from ms v =
    and_from (leb 1 (length ms) && leb (length ms) 7) (different_directors ms)
    (and_from (leb 1 (length ms)) (leb (length ms) 7) (le-leb 1 (length ms) v.some) (le-leb (length ms) 7 v.few))
    v.different

-- the three parts of a list of different directors
pub record Head (m : ℕ) (ms : List ℕ) : Type 0 where
  pub low : m ≤ 31
  pub new : is_member m ms ≡ false
  pub rest : different_directors ms ≡ true

pub head_parts : (m : ℕ) (ms : List ℕ) → different_directors (m ∷ ms) ≡ true → Head m ms
head_parts m ms h =
    let p = and_parts (leb m 31 && not (is_member m ms)) (different_directors ms) h in
    let q = and_parts (leb m 31) (not (is_member m ms)) p.0 in
    record { low = leb-true m 31 q.0; new = not-true (is_member m ms) q.1; rest = p.1 }

pub head_from : (m : ℕ) (ms : List ℕ) → Head m ms → different_directors (m ∷ ms) ≡ true
head_from m ms p =
    and_from (leb m 31 && not (is_member m ms)) (different_directors ms)
    (and_from (leb m 31) (not (is_member m ms)) (le-leb m 31 p.low) (not_from_false (is_member m ms) p.new))
    p.rest

-- members of a chain with one more at its end
member_push : (d a : ℕ) (ms : List ℕ) → is_member d ms ≡ false → eqb a d ≡ false → is_member d (ms ++ (a ∷ [])) ≡ false
member_push d a [] h k = ap (λ b. b || false) k
member_push d a (m ∷ ms) h k =
    let p = or_parts (eqb m d) (is_member d ms) h in
    ap₂ (λ x y. x || y) p.0 (member_push d a ms p.1 k)

pub different_push : (a : ℕ) (ms : List ℕ) → a ≤ 31 → is_member a ms ≡ false → different_directors ms ≡ true
    → different_directors (ms ++ (a ∷ [])) ≡ true
different_push a [] l h d = head_from a [] (record { low = l; new = refl; rest = refl })
different_push a (m ∷ ms) l h d =
    let p = head_parts m ms d in
    let q = or_parts (eqb m a) (is_member a ms) h in
    head_from m (ms ++ (a ∷ []))
    (record {
      low = p.low;
      new = member_push m a ms p.new (ne_eqb a m (λ e. eqb-false m a q.0 (sym e)));
      rest =
          different_push a ms l q.1 p.rest;
    })

-- in the set are all of a list, so each of them
pub all_in_has : (s d : ℕ) (ms : List ℕ) → all_in s ms ≡ true → is_member d ms ≡ true → has s d ≡ true
all_in_has s d (m ∷ ms) h k =
    let p = and_parts (has s m) (all_in s ms) h in
    elim (or_cases (eqb m d) (is_member d ms) k)
    [ inl e ↦ ap (λ (n : ℕ). has s n) (sym (eqb-true m d e)) ∙ p.0 | inr e ↦ all_in_has s d ms p.1 e ]
all_in_has s d [] h k = absurd (both_ways false refl k)

pub all_in_more : (s a : ℕ) (ms : List ℕ) → all_in s ms ≡ true → all_in (with_director s a) ms ≡ true
all_in_more s a [] h = refl
all_in_more s a (m ∷ ms) h =
    let p = and_parts (has s m) (all_in s ms) h in
    and_from (has (with_director s a) m) (all_in (with_director s a) ms) (has_more s a m p.0)
    (all_in_more s a ms p.1)

pub all_in_push : (s a : ℕ) (ms : List ℕ) → all_in s ms ≡ true → has s a ≡ true → all_in s (ms ++ (a ∷ [])) ≡ true
all_in_push s a [] h k = and_from (has s a) true k refl
all_in_push s a (m ∷ ms) h k =
    let p = and_parts (has s m) (all_in s ms) h in
    and_from (has s m) (all_in s (ms ++ (a ∷ []))) p.0 (all_in_push s a ms p.1 k)

has_all : (s d : ℕ) (ms : List ℕ) → has s d ≡ true → has (with_all s ms) d ≡ true
has_all s d [] h = h
has_all s d (m ∷ ms) h = has_all (with_director s m) d ms (has_more s m d h)

all_in_all : (s : ℕ) (ms : List ℕ) → different_directors ms ≡ true → all_in (with_all s ms) ms ≡ true
all_in_all s [] h = refl
all_in_all s (m ∷ ms) h =
    let p = head_parts m ms h in
    and_from (has (with_all (with_director s m) ms) m) (all_in (with_all (with_director s m) ms) ms)
    (has_all (with_director s m) m ms (has_joined s m p.low)) (all_in_all (with_director s m) ms p.rest)

-- the set of a list holds all of it
pub all_in_set : (ms : List ℕ) → different_directors ms ≡ true → all_in (set_of ms) ms ≡ true
all_in_set ms h = all_in_all 0 ms h

-- what taking a member out keeps
member_without : (d a : ℕ) (ms : List ℕ) → is_member d ms ≡ false → is_member d (without a ms) ≡ false
member_without d a [] h = refl
member_without d a (m ∷ ms) h =
    let p = or_parts (eqb m d) (is_member d ms) h in
    let r = member_without d a ms p.1 in
    elim (eqb m a) as (λ b. is_member d (cond (not b) (m ∷ without a ms) (without a ms)) ≡ false)
    [ true ↦ r | false ↦ ap₂ (λ x y. x || y) p.0 r ]

pub different_without : (a : ℕ) (ms : List ℕ) → different_directors ms ≡ true → different_directors (without a ms) ≡ true
different_without a [] h = refl
different_without a (m ∷ ms) h =
    let p = head_parts m ms h in
    let r = different_without a ms p.rest in
    elim (eqb m a) as (λ b. different_directors (cond (not b) (m ∷ without a ms) (without a ms)) ≡ true) [
      | true ↦ r
      | false ↦ head_from m (without a ms) (record { low = p.low; new = member_without m a ms p.new; rest = r })
    ]

pub all_in_without : (s a : ℕ) (ms : List ℕ) → all_in s ms ≡ true → all_in s (without a ms) ≡ true
all_in_without s a [] h = refl
all_in_without s a (m ∷ ms) h =
    let p = and_parts (has s m) (all_in s ms) h in
    let r = all_in_without s a ms p.1 in
    elim (eqb m a) as (λ b. all_in s (cond (not b) (m ∷ without a ms) (without a ms)) ≡ true)
    [ true ↦ r | false ↦ and_from (has s m) (all_in s (without a ms)) p.0 r ]

-- who is no member is not missed
without_none : (a : ℕ) (ms : List ℕ) → is_member a ms ≡ false → length (without a ms) ≡ length ms
without_none a [] h = refl
without_none a (m ∷ ms) h =
    let p = or_parts (eqb m a) (is_member a ms) h in
    rw p.0 (ap suc (without_none a ms p.1))

-- of different directors at most one is a
pub length_without : (a : ℕ) (ms : List ℕ) → different_directors ms ≡ true → length ms ≤ length (without a ms) + 1
length_without a [] h = omega arith
length_without a (m ∷ ms) h =
    let p = head_parts m ms h in
    let r = length_without a ms p.rest in
    go (eqb m a) refl r p
  where
    go : (b : Bool) → eqb m a ≡ b → length ms ≤ length (without a ms) + 1 → Head m ms
        → suc (length ms) ≤ length (cond (not b) (m ∷ without a ms) (without a ms)) + 1
    go true e r p =
        let same : length (without a ms) ≡ length ms = without_none a ms
        (ap (λ (n : ℕ). is_member n ms) (sym (eqb-true m a e)) ∙ p.new) in
        omega arith
    go false e r p = omega arith

pub length_without_le : (a : ℕ) (ms : List ℕ) → length (without a ms) ≤ length ms
length_without_le a [] = omega arith
length_without_le a (m ∷ ms) =
    let r = length_without_le a ms in
    elim (eqb m a) as (λ b. length (cond (not b) (m ∷ without a ms) (without a ms)) ≤ suc (length ms))
    [ true ↦ omega arith | false ↦ omega arith ]
