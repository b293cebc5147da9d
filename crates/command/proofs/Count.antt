-- The quorum test: what it counts, and that two enough sets meet.
use Rattle.std.proofs.Common.{◌≡◌, ℕ, suc, ◌+◌, ◌*◌, ◌^◌, ◌<◌, Bool, true, false, cond, eqb, leb, List, [], ◌∷◌, length, refl, ap, ◌∙◌, arith}
use lib.Bits.{bit_and, bit_or, and_zero_r}
use lib.Count.{ones}
use Rattle.std.proofs.lemmas.Bool.{ltb-true, or_left, or_right, eq-eqb, cond-true, le-leb, both_ways}
use Rattle.command.specs.Sets.{has, with_director, with_all, set_of}
use Rattle.command.specs.Members.{is_member, different_directors}
use Rattle.command.specs.Quorums.{votes, Shared, QuorumsMeet}
use Rattle.command.proofs.Bits.{ones_joined, has_other, has_nothing}
use Rattle.command.proofs.Lists.{head_parts}

-- where the votes of two sets together pass the members, one member is in both
shared : (ms : List ℕ) (s t : ℕ) → length ms < votes ms s + votes ms t → Shared ms s t
shared [] s t h = absurd (omega arith)
shared (m ∷ ms) s t h = go (has s m) refl (has t m) refl h (shared ms s t)
  where
    more : Shared ms s t → Shared (m ∷ ms) s t
    more w =
        record {
          who = w.who;
          member = or_right (eqb m w.who) (is_member w.who ms) w.member;
          in_first = w.in_first;
          in_second = w.in_second;
        }

    go : (a : Bool) → has s m ≡ a → (b : Bool) → has t m ≡ b
        → suc (length ms) < (cond a 1 0 + votes ms s) + (cond b 1 0 + votes ms t)
        → (length ms < votes ms s + votes ms t → Shared ms s t) → Shared (m ∷ ms) s t
    go true p true q h r =
        record { who = m; member = or_left (eqb m m) (is_member m ms) (eq-eqb m m refl); in_first = p; in_second = q }
    go true p false q h r = more (r (omega arith))
    go false p true q h r = more (r (omega arith))
    go false p false q h r = more (r (omega arith))

pub quorums_meet : QuorumsMeet
quorums_meet ms s t p q =
    let a = ltb-true (length ms) (2 * votes ms s) p in
    let b = ltb-true (length ms) (2 * votes ms t) q in
    shared ms s t (omega arith)

-- nobody of the list is in the set
abbrev none_in : ℕ → List ℕ → Type 0
none_in t ms = (d : ℕ) → is_member d ms ≡ true → has t d ≡ false

-- the ones of a set masked by the members are the votes of the members that are in it
masked : (ms : List ℕ) (s t : ℕ) → different_directors ms ≡ true → none_in t ms
    → ones (bit_and s (with_all t ms)) ≡ ones (bit_and s t) + votes ms s
masked [] s t h k = omega arith
masked (m ∷ ms) s t h k =
    let p = head_parts m ms h in
    let new = k m (or_left (eqb m m) (is_member m ms) (eq-eqb m m refl)) in
    let joined : with_director t m ≡ bit_or t (2 ^ m) = cond-true (leb m 31) (bit_or t (2 ^ m)) t (le-leb m 31 p.low) in
    let one : ones (bit_and s (with_director t m)) ≡ ones (bit_and s t) + cond (has s m) 1 0 =
    ap (λ (n : ℕ). ones (bit_and s n)) joined ∙ ones_joined m s t new in
    let others : none_in (with_director t m) ms = λ d e.
    has_other t m d (λ q. both_ways (is_member m ms) p.new (ap (λ (n : ℕ). is_member n ms) q ∙ e))
    ∙ k d (or_right (eqb m d) (is_member d ms) e) in
    let rest = masked ms s (with_director t m) p.rest others in
    omega arith

ones_none : ones 0 ≡ 0
unfolding ones
ones_none = refl

pub ones_votes : (ms : List ℕ) (s : ℕ) → different_directors ms ≡ true → ones (bit_and s (set_of ms)) ≡ votes ms s
ones_votes ms s h =
    let none : ones (bit_and s 0) ≡ 0 = ap ones (and_zero_r s) ∙ ones_none in
    let all = masked ms s 0 h (λ d e. has_nothing d) in
    omega arith
