-- Promising a ballot, standing, and starting again keep what is known.
use Rattle.std.proofs.Common.{◌≡◌, ℕ, ◌+◌, ◌*◌, ◌/◌, ◌%◌, ◌<◌, ◌≤◌, Bool, true, false, cond, ltb, List, [], ◌∷◌, length, filter, sym, refl, ap, ◌∙◌, subst, ⊎_elim, arith}
use Rattle.std.specs.List.{All, range_with_len}
use Rattle.std.proofs.lemmas.List.Elements.{All-map, All-from_get_or, Contains-push_cases}
use Rattle.std.proofs.lemmas.List.{get_or-replicate}
use Rattle.std.proofs.lemmas.Bool.{le-leb, ltb-true, ltb-false}
use Rattle.command.specs.declared.Command.{Command}
use Rattle.command.specs.Members.{Membership}
use Rattle.command.specs.Sets.{has, with_director}
use Rattle.journal.specs.declared.writes.Entry.{Entry}
use Rattle.journal.specs.declared.writes.Write.{Write}
use Rattle.journal.specs.declared.writes.Write.TheVariants.{Promise, Put}
use Rattle.journal.specs.Meaning.{blank, taken, after}
use Rattle.journal.specs.Windows.{element_at, span}
use Rattle.protocol.specs.declared.messages.Acknowledged.{Acknowledged}
use Rattle.protocol.specs.Desks.{Role, following, State, Desk, Step, ◌▸◌, write, send, become, quiet}
use Rattle.protocol.specs.Desks.{promised, me, itself, none, ack_of, with_role, stopped, cleared}
use Rattle.protocol.specs.Messages.{owner, prepare}
use Rattle.protocol.specs.Calls.{next_ballot, LowestOwn, leading, addressed, prepares, stood}
use Rattle.protocol.specs.Hearing.{obey}
use Rattle.protocol.proofs.Votes.{Past, Voted, Lawful, promise, has_none, vote_bounds, vote_top, open_vote}
use Rattle.protocol.proofs.Votes.{open_near, lawful_eight}
use Rattle.protocol.proofs.Growing.{Grew, grew_by, grew_one, grew_same, lawful_one, one_is, plus, plus_one}
use Rattle.protocol.proofs.Growing.{plus_none, written}
use Rattle.protocol.proofs.Core.{Core}
use Rattle.protocol.proofs.Writing.{upd, upd_here, Grows, upd_grows, lawful_here, core_promise}
use Rattle.protocol.proofs.Knowing.{all_voted_grows, Fact, Leader, KnowsRole, Knows}
use Rattle.protocol.proofs.Going.{desk, Good, Went, write_is, went_one, went_after, went_still, went_silent}
use Rattle.protocol.proofs.Sets.{has_alone, nobody_has}

-- the next own ballot is higher, owned, and the lowest such one
pub lowest_own : (d b : ℕ) → d ≤ 31 → LowestOwn d b
lowest_own d b h =
    record {
      higher = higher (ltb b (b / 32 * 32 + d)) refl;
      own =
          elim (ltb b (b / 32 * 32 + d)) as (λ t. cond t (b / 32 * 32 + d) (b / 32 * 32 + 32 + d) % 32 ≡ d)
          [ true ↦ omega arith | false ↦ omega arith ];
      lowest = λ c above own. lowest c above own (ltb b (b / 32 * 32 + d)) refl;
    }
  where
    higher : (t : Bool) → ltb b (b / 32 * 32 + d) ≡ t → b < cond t (b / 32 * 32 + d) (b / 32 * 32 + 32 + d)
    higher true e = ltb-true b (b / 32 * 32 + d) e
    higher false e = omega arith

    lowest : (c : ℕ) → b < c → c % 32 ≡ d → (t : Bool) → ltb b (b / 32 * 32 + d) ≡ t
        → cond t (b / 32 * 32 + d) (b / 32 * 32 + 32 + d) ≤ c
    lowest c above own true e = omega arith
    lowest c above own false e = let l = ltb-false b (b / 32 * 32 + d) e in omega arith

-- PREPAREs tell nothing that could be false
pub prepares_facts : (R : ℕ → Past) (named : ℕ → Bool) (d : Desk) → All (Fact R) (prepares named d)
unfolding prepares
prepares_facts R named d =
    All-map (Fact R) (λ e. prepare (me d) e (promised d) (count_of d + 1)) (filter named (range_with_len 0 32))
    (All-from_get_or (λ e. Fact R (prepare (me d) e (promised d) (count_of d + 1)))
    (filter named (range_with_len 0 32)) 0 (λ i h. tt))
  where
    count_of : Desk → ℕ
    count_of d = length d.journal.settled

module _ (f : Membership) (S : Command → Type 0) (P : ℕ → Past) (d : ℕ) (x : Past) (s : State)
    (good : Good f S P d x s) (b : ℕ) (higher : promise x < b) where
  abbrev promised_past : Past
  promised_past = written x (Promise b)

  is_taken : taken (Promise b) x.journal ≡ true
  unfolding taken
  is_taken = le-leb (promise x) b (omega arith)

  grown : Grows (upd P d x) (upd P d promised_past)
  grown = upd_grows P d x promised_past (grew_by (Promise b) x is_taken)

  -- the memory with any role that fits
  knows_promised : (r : Role) → KnowsRole S (upd P d promised_past) d promised_past r
      → Good f S P d (plus_one x (Promise b)) (with_role r s)
  unfolding after
  knows_promised r role =
      let k = good.knows in
      record {
        core = core_promise f S P d x good.core b is_taken;
        knows =
            subst (λ (y : Past). Knows f S (upd P d y) d y (with_role r s)) (sym (one_is x (Promise b) is_taken))
            (record {
              number = k.number;
              founding = k.founding;
              eight = k.eight;
              acks = λ n above near.
                  all_voted_grows (upd P d x) (upd P d promised_past) grown n (ack_of s n).ballot
                  (ack_of s n).set.bits (k.acks n above near);
              role = role;
            });
      }

  lawful_promised : Lawful promised_past
  lawful_promised =
      subst Lawful (one_is x (Promise b) is_taken) (lawful_one x (Promise b) (lawful_here f S P d x good.core) is_taken)

  -- a promise is no vote
  old_vote : (n a : ℕ) (c : Command) → Voted promised_past n a c → Voted x n a c
  old_vote n a c v =
      ⊎_elim (λ o. o) (λ e. absurd (cc))
      (Contains-push_cases x.history (Promise b) (Put n a c) v)

  -- a director that begins to stand with a ballot of its own knows what a leader should
  leads : owner b ≡ d
      → Leader S (upd P d promised_past) d promised_past (itself (desk x s)) [] promised_past.journal.places
  unfolding after
  leads own =
      let lawful = lawful_promised in
      let y : Past = promised_past in
      let R : ℕ → Past = upd P d y in
      let alone : (e : ℕ) → has (with_director 0 s.number) e ≡ true → R e ≡ y = λ e h.
      ap R (sym (sym good.knows.number ∙ has_alone s.number e h)) ∙ upd_here P d y in
      record {
        own = own;
        some = omega arith;
        eight = lawful_eight y lawful;
        promisers = λ e h. subst (λ (z : Past). promise y ≤ promise z) (sym (alone e h)) (omega arith);
        told = λ e n a c h above lower v.
            let mine : Voted y n a c = subst (λ (z : Past). Voted z n a c) (alone e h) v in
            let near = (vote_bounds y lawful n a c mine).near in
            let top = vote_top y lawful n a c above mine in
            let same = ap (λ (z : Entry). z.ballot) (open_near y.journal n above near) in
            (near, omega arith);
        voted = λ n above near some.
            let same = open_near y.journal n above near in (
              d,
              subst (λ (z : Past). Voted z n (element_at blank y.journal.places n).ballot
                  (element_at blank y.journal.places n).command) (sym (upd_here P d y))
                  (subst (λ (z : Entry). Voted y n z.ballot z.command) same
                  (open_vote y lawful n (subst (λ (z : Entry). 1 ≤ z.ballot) (sym same) some))),
            );
        settled = λ k c h v.
            let low = (vote_bounds x (lawful_here f S P d x good.core) k b c (old_vote k b c v)).promised in
            absurd (omega arith);
        waiting = λ c h. absurd (has_none c h);
      }

promised_is : (x : Past) (b : ℕ) → promise (written x (Promise b)) ≡ b
unfolding after
promised_is x b = refl

module _ (f : Membership) (S : Command → Type 0) (P : ℕ → Past) (d : ℕ) (x : Past) (s : State)
    (good : Good f S P d x s) where
  pub went_stand : d ≤ 31 → Went f S P d x (stood (desk x s))
  unfolding stood become send
  went_stand number =
      let b : ℕ = next_ballot s.number (promise x) in
      let low : s.number ≤ 31 = omega (arith, good.knows.number) in
      let higher : promise x < b = (lowest_own s.number (promise x) low).higher in
      let own : owner b ≡ d = (lowest_own s.number (promise x) low).own ∙ good.knows.number in
      let w : Write = Promise b in
      let is_taken = Rattle.protocol.proofs.Stands.is_taken f S P d x s good b higher in
      let y : Past = plus_one x w in
      let t : State = with_role (leading (desk y s)) s in
      let same : promised_past f S P d x s good b higher ≡ y = sym (one_is x w is_taken) in
      let role : KnowsRole S (upd P d (promised_past f S P d x s good b higher)) d
      (promised_past f S P d x s good b higher)
      (leading (desk y s)) =
      subst (λ (places : List Entry).
      Leader S (upd P d (promised_past f S P d x s good b higher)) d (promised_past f S P d x s good b higher)
      (itself (desk x s)) [] places)
      (ap (λ (z : Past). z.journal.places) same) (leads f S P d x s good b higher own) in
      went_after f S P d x s
      ((λ e. write (Promise (next_ballot (me e) (promised e))) e) ▸ (λ e. become (with_role (leading e)) e))
      (λ e. send (prepares (addressed e) e) e) (record { state = t; writes = w ∷ []; messages = [] })
      (write_is x s t w (λ e. become (with_role (leading e)) e) is_taken refl)
      (went_one f S P d x t w is_taken good.core (knows_promised f S P d x s good b higher (leading (desk y s)) role))
      (λ h.
      went_still f S P d y t (prepares (addressed (desk y t)) (desk y t)) h
      (prepares_facts (upd P d y) (addressed (desk y t)) (desk y t)))

  -- a ballot that is not below the promised one is promised then, whatever comes next
  pub went_obey : (b : ℕ) (next : Step) → promise x ≤ b
      → ((y : Past) (t : State) → Good f S P d y t → Grew x y → promise y ≡ b → Went f S P d y (next (desk y t)))
      → Went f S P d x ((obey b ▸ next) (desk x s))
  unfolding obey become quiet
  went_obey b next low k = go (ltb (promise x) b) refl
    where
      go : (t : Bool) → ltb (promise x) b ≡ t
          → Went f S P d x ((cond t (write (Promise b) ▸ become stopped) quiet ▸ next) (desk x s))
      go true e =
          let higher = ltb-true (promise x) b e in
          let w : Write = Promise b in
          let is_taken = Rattle.protocol.proofs.Stands.is_taken f S P d x s good b higher in
          went_after f S P d x s (write w ▸ become stopped) next
          (record { state = stopped s; writes = w ∷ []; messages = [] })
          (write_is x s (stopped s) w (become stopped) is_taken refl)
          (went_one f S P d x (stopped s) w is_taken good.core
          (knows_promised f S P d x s good b higher following tt))
          (λ h.
          k (plus_one x w) (stopped s) h (grew_one x w is_taken)
          (subst (λ (y : Past). promise y ≡ b) (sym (one_is x w is_taken)) (promised_is x b)))
      go false e =
          let lower = ltb-false (promise x) b e in
          went_after f S P d x s quiet next (record { state = s; writes = []; messages = [] }) refl
          (went_silent f S P d x s good)
          (λ h.
          k (plus x []) s h (subst (Grew x) (sym (plus_none x)) (grew_same x)) (omega arith))

-- what a restart leaves, whatever was known before
pub good_cleared : (f : Membership) (S : Command → Type 0) (P : ℕ → Past) (d : ℕ) (x : Past) (s : State)
    → Core f S (upd P d x) → s.number ≡ d → s.founding ≡ f → Good f S P d x (cleared s)
good_cleared f S P d x s core number founding =
    record {
      core = core;
      knows =
          record {
            number = number;
            founding = founding;
            eight = refl;
            acks = λ n above near e h.
                absurd
                (nobody_has e
                (subst (λ (a : Acknowledged). has a.set.bits e ≡ true)
                (get_or-replicate span (n % 8) none none (omega arith)) h));
            role = tt;
          };
    }
