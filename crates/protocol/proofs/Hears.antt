-- Hearing a PREPARE, a LEARN or a FETCH keeps what is known; and so does every message that is not refused.
use Rattle.std.proofs.Common.{◌≡◌, ℕ, ◌+◌, ◌≤◌, Bool, true, false, cond, not, ◌&&◌, ◌||◌, eqb, ltb, leb, [], ◌∷◌, Some, None, Option, sym, refl, ap, ◌∙◌, subst, inl, inr, arith}
use Rattle.std.proofs.lemmas.Bool.{and_parts, and_cases, not-false, eqb-true, leb-true, leb-false, or_parts, eqb-false, ltb-false, both_ways}
use Rattle.command.specs.declared.Command.{Command}
use Rattle.command.specs.Commands.{well_formed}
use Rattle.command.specs.Members.{Membership}
use Rattle.journal.specs.declared.writes.Entry.{Entry}
use Rattle.journal.specs.declared.writes.Write.TheVariants.{Settle}
use Rattle.journal.specs.Meaning.{open_of, taken}
use Rattle.protocol.specs.declared.kinds.Kind.{Kind}
use Rattle.protocol.specs.declared.kinds.Kind.TheVariants.{Prepare, Promise, Accept, Acked, Learn, Fetch}
use Rattle.protocol.specs.declared.messages.Message.{Message}
use Rattle.protocol.specs.Desks.{Role, following, standing, State, Step, ◌▸◌, quiet, send, become, choose, stopped}
use Rattle.protocol.specs.Desks.{settled_by, me}
use Rattle.protocol.specs.Messages.{kind_of, owner, is_owner, odd_sender, odd_slot, odd_command, odd_as, malformed}
use Rattle.protocol.specs.Messages.{promise as promiseOf}
use Rattle.protocol.specs.Settling.{settle, advance}
use Rattle.protocol.specs.Hearing.{learns, entries_from, heard_prepare, same_command, put_another, heard_learn}
use Rattle.protocol.specs.Hearing.{heard_fetch, heard_as, heard}
use Rattle.protocol.specs.Refusing.{stands_at, stands, stale_as}
use Rattle.protocol.proofs.Votes.{Past, promise, count, vote_bounds}
use Rattle.protocol.proofs.Growing.{chain, plus, plus_none}
use Rattle.protocol.proofs.Core.{Chosen, one_chain}
use Rattle.protocol.proofs.Writing.{upd, upd_here, lawful_here}
use Rattle.protocol.proofs.Knowing.{Fact, FactAs, Learns}
use Rattle.protocol.proofs.Going.{good_role, desk, Good, Went, went_after, went_then, went_choose, went_quiet, went_still, went_silent, went_sent}
use Rattle.protocol.proofs.Settles.{settle_taken, Yields, went_settle}
use Rattle.protocol.proofs.Puts.{promised_open}
use Rattle.protocol.proofs.Advances.{entry_newest, went_advance}
use Rattle.protocol.proofs.Tells.{learns_facts, promise_fact}
use Rattle.protocol.proofs.Stands.{went_obey}
use Rattle.protocol.proofs.Promisers.{went_promise}
use Rattle.protocol.proofs.Accepting.{went_accept, went_acked}

module _ (f : Membership) (S : Command → Type 0) (P : ℕ → Past) (d : ℕ) (x : Past) (s : State)
    (good : Good f S P d x s) (m : Message) where
  went_prepare : promise x ≤ m.ballot → 1 ≤ m.slot → Went f S P d x (heard_prepare m (desk x s))
  unfolding heard_prepare send
  went_prepare low first =
      let o : ℕ = owner m.ballot in
      let tell : Step = λ e. send (learns o m.slot e) e in
      let give : Step = λ e. send (promiseOf (me e) o m.ballot m.slot (entries_from e m.slot) ∷ []) e in
      went_obey f S P d x s good m.ballot (choose (λ e. leb m.slot (settled_by e)) tell give) low
      (λ y t h g is.
      went_choose f S P d y t (λ e. leb m.slot (settled_by e)) tell give
      (λ e.
      went_still f S P d y t (learns o m.slot (desk y t)) h (learns_facts f S P d y t h o m.slot first))
      (λ e.
      went_sent f S P d y t (promiseOf t.number o m.ballot m.slot (entries_from (desk y t) m.slot)) h
      (promise_fact f S P d y t h o m.ballot m.slot (omega arith) (leb-false m.slot (count y) e))))

  went_fetch : 1 ≤ m.slot → Went f S P d x (heard_fetch m (desk x s))
  unfolding heard_fetch send
  went_fetch first =
      went_still f S P d x s (learns m.from m.slot (desk x s)) good
      (learns_facts f S P d x s good m.from m.slot first)

-- LEARN.

command_same_is : (c e : Command) → same_command c e ≡ true → c ≡ e
command_same_is c e h =
    let p = and_parts _ (eqb c.b e.b) h in
    let q = and_parts _ (eqb c.a e.a) p.0 in
    let r = and_parts _ (eqb c.serial e.serial) q.0 in
    let t = and_parts (eqb c.verb e.verb) (eqb c.origin e.origin) r.0 in
    let verb = eqb-true c.verb e.verb t.0 in
    let origin = eqb-true c.origin e.origin t.1 in
    let serial = eqb-true c.serial e.serial r.1 in
    let a = eqb-true c.a e.a q.1 in
    let b = eqb-true c.b e.b p.1 in
    λ i. record { verb = verb i; origin = origin i; serial = serial i; a = a i; b = b i }

module _ (f : Membership) (S : Command → Type 0) (P : ℕ → Past) (d : ℕ) (x : Past) (s : State)
    (good : Good f S P d x s) (m : Message) (is : m.slot ≡ count x + 1) (fits : m.slot ≤ x.journal.capacity)
    (formed : well_formed m.command ≡ true) (fact : Learns (upd P d x) m) where
  abbrev c : Command
  c = m.command

  -- a director that put no other command there yields to it
  yields : put_another m.slot c (desk x s) ≡ false → (r : Role) → Yields x c r
  unfolding put_another
  yields h following = tt
  yields h (standing q line reports) = λ i v.
      let n : ℕ = count x + 1 in
      let lawful = lawful_here f S P d x good.core in
      let open_is = promised_open x n i lawful (omega arith) v in
      let least = (vote_bounds x lawful n (promise x) i v).some in
      let some : 1 ≤ (open_of x.journal n).ballot = omega arith in
      let newest = entry_newest f S P d x s good n some i (omega arith) v in
      let slot : open_of x.journal m.slot ≡ open_of x.journal n = ap (open_of x.journal) is in
      elim (and_cases (eqb (open_of x.journal m.slot).ballot (promise x))
      (not (same_command (open_of x.journal m.slot).command c)) h) [
        | inl ne ↦
            absurd
            (eqb-false (open_of x.journal m.slot).ballot (promise x) ne
            (ap (λ (z : Entry). z.ballot) slot ∙ open_is))
        | inr same ↦
            sym (command_same_is (open_of x.journal m.slot).command c
            (not-false (same_command (open_of x.journal m.slot).command c) same))
            ∙ ap (λ (z : Entry). z.command) slot ∙ newest
      ]

  chosen : Chosen (upd P d x) (count x + 1) c (chain f x (count x + 1))
  chosen =
      let e : ℕ = fact.0 in
      let t = fact.1 in
      let slot = t.slot in
      let within = t.within in
      let here = ap (λ (y : Past). count y) (upd_here P d x) in
      subst (λ (n : ℕ). Chosen (upd P d x) n c (chain f x n)) is
      (subst (Chosen (upd P d x) m.slot c)
      (one_chain f S (upd P d x) good.core e d m.slot (omega arith) (omega arith)
      ∙ ap (λ (y : Past). chain f y m.slot) (upd_here P d x))
      (good.core.chosen e m.slot c t))

  learn_taken : taken (Settle c) x.journal ≡ true
  learn_taken = settle_taken x.journal c (omega arith) formed

  went_next : Went f S P d x
      ((choose (put_another m.slot c) (become stopped) quiet ▸ settle c ▸ advance) (desk x s))
  unfolding become quiet
  went_next =
      went_then f S P d x s (choose (put_another m.slot c) (become stopped) quiet ▸ settle c) advance
      (go (put_another m.slot c (desk x s)) refl) (λ h. went_advance f S P d _ _ h)
    where
      -- settle, with a memory that yields
      settling : (t : State) → Good f S P d x t → Yields x c t.role → Good f S P d (plus x []) t
          → Went f S P d (plus x []) (settle c (desk (plus x []) t))
      settling t h y g =
          subst (λ (z : Past). Went f S P d z (settle c (desk z t))) (sym (plus_none x))
          (went_settle f S P d x t h c learn_taken chosen y)

      go : (t : Bool) → put_another m.slot c (desk x s) ≡ t
          → Went f S P d x ((cond t (become stopped) quiet ▸ settle c) (desk x s))
      go true e =
          let stop : Good f S P d x (stopped s) = good_role f S P d x s following good tt in
          went_after f S P d x s (become stopped) (settle c)
          (record { state = stopped s; writes = []; messages = [] }) refl (went_silent f S P d x (stopped s) stop)
          (settling (stopped s) stop tt)
      go false e =
          went_after f S P d x s quiet (settle c) (record { state = s; writes = []; messages = [] }) refl
          (went_silent f S P d x s good) (settling s good (yields e s.role))

went_learn : (f : Membership) (S : Command → Type 0) (P : ℕ → Past) (d : ℕ) (x : Past) (s : State)
    → Good f S P d x s → (m : Message) → well_formed m.command ≡ true → Learns (upd P d x) m
    → Went f S P d x (heard_learn m (desk x s))
unfolding heard_learn
went_learn f S P d x s good m formed fact =
    went_choose f S P d x s (λ e. eqb m.slot (settled_by e + 1) && leb m.slot e.journal.capacity)
    (choose (put_another m.slot m.command) (become stopped) quiet ▸ settle m.command ▸ advance) quiet
    (λ e.
    let p = and_parts (eqb m.slot (count x + 1)) (leb m.slot x.journal.capacity) e in
    went_next f S P d x s good m (eqb-true m.slot (count x + 1) p.0)
    (leb-true m.slot x.journal.capacity p.1) formed fact)
    (λ e. went_quiet f S P d x s good)

-- a number that is not 0
least : (n : ℕ) → eqb n 0 ≡ false → 1 ≤ n
least n h = let ne = eqb-false n 0 h in omega arith

module _ (f : Membership) (S : Command → Type 0) (P : ℕ → Past) (d : ℕ) (x : Past) (s : State)
    (good : Good f S P d x s) (m : Message) (first : 1 ≤ m.slot) where
  -- a message of each kind that is not malformed and not stale
  went_as : (k : Option Kind) → odd_as k s.number m ≡ false → stale_as k m (desk x s) ≡ false
      → FactAs k (upd P d x) m → Went f S P d x (heard_as k m (desk x s))
  went_as None odd stale fact = absurd (both_ways true odd refl)
  went_as (Some Prepare) odd stale fact = went_prepare f S P d x s good m (ltb-false m.ballot (promise x) stale) first
  went_as (Some Promise) odd stale fact =
      let p = or_parts (not (stands_at (desk x s) m.ballot)) (ltb (count x + 1) m.slot) stale in
      let q = and_parts (stands s.role) (eqb m.ballot (promise x))
      (not-false (stands_at (desk x s) m.ballot) p.0) in
      went_promise f S P d x s good m (eqb-true m.ballot (promise x) q.1)
      (ltb-false (count x + 1) m.slot p.1) fact
  went_as (Some Accept) odd stale fact =
      let p = or_parts (eqb m.ballot 0 || odd_command m.command) (is_owner s.number m.ballot) odd in
      let q = or_parts (eqb m.ballot 0) (odd_command m.command) p.0 in
      went_accept f S P d x s good m (ltb-false m.ballot (promise x) stale) (least m.ballot q.0) first
      (not-false (well_formed m.command) q.1) fact
  went_as (Some Acked) odd stale fact =
      let p = or_parts (eqb m.ballot 0) (not (is_owner s.number m.ballot)) odd in
      let q = and_parts (stands s.role) (eqb m.ballot (promise x))
      (not-false (stands_at (desk x s) m.ballot) stale) in
      went_acked f S P d x s good m (eqb-true m.ballot (promise x) q.1) (least m.ballot p.0) fact
  went_as (Some Learn) odd stale fact =
      went_learn f S P d x s good m (not-false (well_formed m.command) odd) fact
  went_as (Some Fetch) odd stale fact = went_fetch f S P d x s good m first

pub went_hear : (f : Membership) (S : Command → Type 0) (P : ℕ → Past) (d : ℕ) (x : Past) (s : State)
    → Good f S P d x s → (m : Message) → malformed s.number m ≡ false → stale_as (kind_of m.kind) m (desk x s) ≡ false
    → Fact (upd P d x) m → Went f S P d x (heard m (desk x s))
unfolding heard malformed
went_hear f S P d x s good m odd stale fact =
    let p = or_parts (odd_sender s.number m || odd_slot m) (odd_as (kind_of m.kind) s.number m) odd in
    let q = or_parts (odd_sender s.number m) (odd_slot m) p.0 in
    let r = or_parts (eqb m.slot 0) (ltb 60000 m.slot) q.1 in
    went_as f S P d x s good m (least m.slot r.0) (kind_of m.kind) p.1 stale fact
