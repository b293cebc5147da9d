-- What a director tells of its settled slots and open entries is true; and what it passes on again.
use Rattle.std.proofs.Common.{◌≡◌, ℕ, ◌+◌, ◌-◌, ◌<◌, ◌≤◌, min, Bool, true, false, cond, ◌&&◌, eqb, leb, List, [], ◌∷◌, get_or, sym, refl, ap, ◌∙◌, subst, arith}
use Rattle.std.specs.List.{flat_map, All, range_with_len}
use Rattle.std.proofs.lemmas.List.Elements.{All-nil, All-map, All-append, All-from_get_or}
use Rattle.std.proofs.lemmas.List.FromFn.{length-range_with_len, get_or-range_with_len}
use Rattle.std.proofs.lemmas.List.FromFn.{length-map-range_with_len, get_or-map-range_with_len}
use Rattle.std.proofs.lemmas.Bool.{and_parts, leb-true, eqb-true, cond-false, ne_eqb}
use Rattle.command.specs.declared.Command.{Command}
use Rattle.command.specs.Members.{Membership}
use Rattle.journal.specs.declared.writes.Entry.{Entry}
use Rattle.journal.specs.Meaning.{noop, blank, open_of, settled_of}
use Rattle.journal.specs.Windows.{span}
use Rattle.protocol.specs.Desks.{Role, following, standing, State, itself, ack_of, send}
use Rattle.protocol.specs.Messages.{owner, learn, promise as promiseOf}
use Rattle.protocol.specs.Rings.{open_at, window, passed}
use Rattle.protocol.specs.Calls.{asked_again, known_set, passed_again, ask_again, send_again, prodded}
use Rattle.protocol.specs.Hearing.{learns, entries_from}
use Rattle.protocol.proofs.Votes.{Past, Voted, VotedAt, Lawful, promise, count, vote_bounds, vote_top, open_vote, open_past}
use Rattle.protocol.proofs.Core.{Settled}
use Rattle.protocol.proofs.Writing.{upd, upd_here, lawful_here}
use Rattle.protocol.proofs.Knowing.{AllVoted, Told, Fact}
use Rattle.protocol.proofs.Going.{desk, Good, Went, went_still, went_then}
use Rattle.protocol.proofs.Sets.{has_alone}
use Rattle.protocol.proofs.Passes.{passed_facts}
use Rattle.protocol.proofs.Advances.{own_vote, entry_vote, entry_bounds}
use Rattle.protocol.proofs.Stands.{prepares_facts}

all_range : (Q : ℕ → Type 0) (a k : ℕ) → ((n : ℕ) → a ≤ n → n < a + k → Q n) → All Q (range_with_len a k)
all_range Q a k h =
    All-from_get_or Q (range_with_len a k) 0
    (λ i l.
    let low : i < k = omega (arith, length-range_with_len a k) in
    subst Q (sym (get_or-range_with_len a k i 0 low)) (h (a + i) (omega arith) (omega arith)))

all_joined : {X Y : Type 0} (Q : Y → Type 0) (g : X → List Y) → ((x : X) → All Q (g x)) → (xs : List X)
    → All Q (flat_map g xs)
all_joined Q g h [] = All-nil Q
all_joined Q g h (x ∷ xs) = All-append Q (g x) (flat_map g xs) (h x) (all_joined Q g h xs)

-- a slot that is settled
pub settled_at : (x : Past) (n : ℕ) → 1 ≤ n → n ≤ count x → Settled x n (settled_of x.journal n)
settled_at x n some within =
    record {
      index = n - 1;
      slot = omega arith;
      within = omega arith;
      is = sym (cond-false (eqb n 0) noop (get_or x.journal.settled (n - 1) noop) (ne_eqb n 0 (λ e. omega arith)));
    }

module _ (f : Membership) (S : Command → Type 0) (P : ℕ → Past) (d : ℕ) (x : Past) (s : State)
    (good : Good f S P d x s) where
  abbrev R : ℕ → Past
  R = upd P d x

  lawful : Lawful x
  lawful = lawful_here f S P d x good.core

  pub learn_fact : (to n : ℕ) → 1 ≤ n → n ≤ count x → Fact R (learn s.number to n (settled_of x.journal n))
  learn_fact to n some within = (
    d,
    subst (λ (y : Past). Settled y n (settled_of x.journal n)) (sym (upd_here P d x)) (settled_at x n some within),
  )

  pub learns_facts : (to n : ℕ) → 1 ≤ n → All (Fact R) (learns to n (desk x s))
  unfolding learns
  learns_facts to n some =
      let k : ℕ = min (count x) (n + 7) + 1 - n in
      All-map (Fact R) (λ j. learn s.number to j (settled_of x.journal j)) (range_with_len n k)
      (all_range (λ j. Fact R (learn s.number to j (settled_of x.journal j))) n k
      (λ j low high. learn_fact to j (omega arith) (omega arith)))

  entry_is : (n i : ℕ) → i < 8 → get_or (entries_from (desk x s) n) i blank ≡ open_of x.journal (n + i)
  entry_is n i h = get_or-map-range_with_len (open_of x.journal) n span i (n + i) blank h refl

  -- a promise, with the open entries from a slot on that is not settled
  pub promise_fact : (to b n : ℕ) → b ≤ promise x → count x < n
      → Fact R (promiseOf s.number to b n (entries_from (desk x s) n))
  promise_fact to b n low above =
      let here : R s.number ≡ x = ap R good.knows.number ∙ upd_here P d x in
      record {
        eight = length-map-range_with_len (open_at (desk x s)) n span;
        promised = subst (λ (y : Past). b ≤ promise y) (sym here) low;
        told = λ j a c from lower v.
            let mine : Voted x j a c = subst (λ (y : Past). Voted y j a c) here v in
            let near = (vote_bounds x lawful j a c mine).near in
            let top = vote_top x lawful j a c (omega arith) mine in
            let slot : n + (j - n) ≡ j = omega arith in
            let same = ap (λ (z : Entry). z.ballot)
            (entry_is n (j - n) (omega arith) ∙ ap (open_of x.journal) slot) in
            (omega arith, omega arith);
        voted = λ i h some.
            let same = entry_is n i h in (
              d,
              subst (λ (z : Entry). Voted (R d) (n + i) z.ballot z.command) (sym same)
                  (own_vote f S P d x s good (n + i) (open_of x.journal (n + i)).ballot
                  (open_of x.journal (n + i)).command
                  (open_vote x lawful (n + i) (subst (λ (z : Entry). 1 ≤ z.ballot) same some))),
            );
      }

  -- Prod.

  told_none : (b : ℕ) → Told R b 0
  told_none b =
      record {
        within = omega arith;
        settled = λ k c h v.
            let first = (vote_bounds (R (owner b)) (good.core.lawful (owner b)) k b c v).first in
            absurd (omega arith);
      }

  known_voted : (n : ℕ) (some : 1 ≤ (open_of x.journal n).ballot) → (open_of x.journal n).ballot ≡ promise x
      → AllVoted R n (open_of x.journal n).ballot (known_set (desk x s) n).bits
  known_voted n some is = go (eqb (ack_of s n).ballot (promise x)) refl
    where
      go : (t : Bool) → eqb (ack_of s n).ballot (promise x) ≡ t
          → AllVoted R n (open_of x.journal n).ballot (cond t (ack_of s n).set (itself (desk x s))).bits
      go true e =
          let same = eqb-true (ack_of s n).ballot (promise x) e ∙ sym is in
          subst (λ (b : ℕ). AllVoted R n b (ack_of s n).set.bits) same
          (good.knows.acks n (open_past x.journal n some) (entry_bounds f S P d x s good n some).near)
      go false e = λ u h.
          let same : d ≡ u = sym good.knows.number ∙ has_alone s.number u h in
          subst (λ (j : ℕ). VotedAt (R j) n (open_of x.journal n).ballot) same (
            (open_of x.journal n).command,
            own_vote f S P d x s good n (open_of x.journal n).ballot (open_of x.journal n).command
                (entry_vote f S P d x s good n some),
          )

  again_facts : (n : ℕ) → All (Fact R) (passed_again (desk x s) n)
  again_facts n = go (eqb (open_of x.journal n).ballot (promise x) && leb 1 (promise x)) refl
    where
      go : (t : Bool) → (eqb (open_of x.journal n).ballot (promise x) && leb 1 (promise x)) ≡ t
          → All (Fact R) (cond t (passed (desk x s) n (known_set (desk x s) n) 0) [])
      go true e =
          let p = and_parts (eqb (open_of x.journal n).ballot (promise x)) (leb 1 (promise x)) e in
          let is = eqb-true (open_of x.journal n).ballot (promise x) p.0 in
          let least = leb-true 1 (promise x) p.1 in
          let some : 1 ≤ (open_of x.journal n).ballot = omega arith in
          passed_facts f S P d x s good n some (known_set (desk x s) n) 0 (known_voted n some is)
          (told_none (open_of x.journal n).ballot)
      go false e = All-nil (Fact R)

  asked_facts : (r : Role) → All (Fact R) (asked_again r (desk x s))
  asked_facts following = All-nil (Fact R)
  asked_facts (standing q line reports) = prepares_facts R _ (desk x s)

  went_ask_again : Went f S P d x (ask_again (desk x s))
  unfolding ask_again send
  went_ask_again = went_still f S P d x s (asked_again s.role (desk x s)) good (asked_facts s.role)

  went_send_again : Went f S P d x (send_again (desk x s))
  unfolding send_again send
  went_send_again =
      went_still f S P d x s (flat_map (passed_again (desk x s)) (window (desk x s))) good
      (all_joined (Fact R) (passed_again (desk x s)) again_facts (window (desk x s)))

pub went_prod : (f : Membership) (S : Command → Type 0) (P : ℕ → Past) (d : ℕ) (x : Past) (s : State)
    → Good f S P d x s → Went f S P d x (prodded (desk x s))
unfolding prodded
went_prod f S P d x s good =
    went_then f S P d x s ask_again send_again (went_ask_again f S P d x s good)
    (λ h. went_send_again f S P d _ _ h)
