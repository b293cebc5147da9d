-- What a leader proposes is safe.
use Rattle.std.proofs.Common.{◌≡◌, ℕ, ◌+◌, ◌<◌, ◌≤◌, Bool, true, false, cond, not, ◌&&◌, eqb, leb, ◌⊎◌, List, [], ◌∷◌, Some, None, Option, sym, refl, ap, ◌∙◌, subst, inl, inr, ⊎_elim, arith, find, slice_get}
use Rattle.std.specs.List.{Contains, range_with_len}
use Rattle.std.proofs.lemmas.Bool.{and_parts, leb-true, eqb-true, eqb-false, not-true, cases_order}
use Rattle.std.proofs.lemmas.List.FromFn.{length-range_with_len, get_or-range_with_len}
use Rattle.command.specs.declared.Command.{Command}
use Rattle.command.specs.declared.sets.DirectorSet.{DirectorSet}
use Rattle.command.specs.Commands.{well_formed}
use Rattle.command.specs.Members.{Membership, is_member}
use Rattle.command.specs.Quorums.{enough}
use Rattle.command.specs.Sets.{has}
use Rattle.journal.specs.declared.writes.Entry.{Entry}
use Rattle.journal.specs.Meaning.{blank, open_of}
use Rattle.journal.specs.Windows.{element_at, span}
use Rattle.protocol.specs.Desks.{Role, following, standing, State, Desk, settled_by, promised, me}
use Rattle.protocol.specs.Messages.{owner}
use Rattle.protocol.specs.Rings.{chain_of, open_at, window}
use Rattle.protocol.specs.Calls.{lowest_free, promisers, may_put, is_unreported, command_for, Proposal, proposing}
use Rattle.protocol.specs.Calls.{proposal_for, proposal}
use Rattle.protocol.proofs.Votes.{Past, Voted, promise, count, has_first, has_rest}
use Rattle.protocol.proofs.Votes.{vote_bounds, voted_at}
use Rattle.protocol.proofs.Growing.{chain}
use Rattle.protocol.proofs.Core.{By, Settled, Passed, SafeAt, one_chain}
use Rattle.protocol.proofs.Writing.{upd, upd_here, lawful_here}
use Rattle.protocol.proofs.Knowing.{Told, Leader, KnowsRole}
use Rattle.protocol.proofs.Going.{Good}
use Rattle.protocol.proofs.Puts.{promised_open}

-- Reading a proposal off the definitions.

first_passes : {X : Type 0} (test : X → Bool) (xs : List X) (x : X) → find test xs ≡ Some x
    → (test x ≡ true) × Contains xs x
first_passes test [] x e = absurd (cc)
first_passes {X} test (y ∷ ys) x e = go (test y) refl e (first_passes test ys x)
  where
    go : (t : Bool) → test y ≡ t → cond t (Some y) (find test ys) ≡ Some x
        → (find test ys ≡ Some x → (test x ≡ true) × Contains ys x) → (test x ≡ true) × Contains (y ∷ ys) x
    go true h e more =
        let same : y ≡ x = cc in
        (ap test (sym same) ∙ h, subst (Contains (y ∷ ys)) same (has_first y ys))
    go false h e more = let m = more e in (m.0, has_rest y ys x m.1)

range_has : (a k n : ℕ) → Contains (range_with_len a k) n → (a ≤ n) × (n < a + k)
range_has a k n h =
    let low : h.0 < k = omega (arith, h.1, length-range_with_len a k) in
    let is = sym (get_or-range_with_len a k h.0 n low) ∙ h.2 in
    (omega arith, omega arith)

-- a slot of the window without an entry of the promised ballot, with promises that are enough, and its command
pub record Proposes (d : Desk) (n : ℕ) (c : Command) : Type 0 where
  pub above : settled_by d < n
  pub near : n ≤ settled_by d + 8
  pub free : (open_at d n).ballot ≡ promised d → ⊥
  pub fits : n ≤ d.journal.capacity
  pub quorum : enough (chain_of d n) (promisers d.state.role).bits ≡ true
  pub command : command_for n d.state.role ≡ Some c

proposed_at : (d : Desk) (o : Option ℕ) (x : Proposal) → lowest_free d ≡ o → proposal_for o d ≡ Some x
    → Proposes d x.slot x.command
unfolding lowest_free may_put
proposed_at d None x l e = absurd (cc)
proposed_at d (Some n) x l e = go (may_put d n) refl e
  where
    fits : (o : Option Command) → command_for n d.state.role ≡ o → may_put d n ≡ true → proposing n o ≡ Some x
        → Proposes d x.slot x.command
    fits None h may e = absurd (cc)
    fits (Some c) h may e =
        let same : record { slot = n; command = c } ≡ x = cc in
        let f = first_passes (λ k. not (eqb (open_at d k).ballot (promised d))) (window d) n l in
        let w = range_has (settled_by d + 1) span n f.1 in
        let low = w.0 in
        let high = w.1 in
        let a = and_parts (leb n d.journal.capacity && is_member (me d) (chain_of d n))
        (enough (chain_of d n) (promisers d.state.role).bits) may in
        let b = and_parts (leb n d.journal.capacity) (is_member (me d) (chain_of d n)) a.0 in
        let is : Proposes d n c =
        record {
          above = omega arith;
          near = omega arith;
          free = eqb-false (open_at d n).ballot (promised d) (not-true (eqb (open_at d n).ballot (promised d)) f.0);
          fits = leb-true n d.journal.capacity b.0;
          quorum = a.1;
          command = h;
        } in
        subst (λ (p : Proposal). Proposes d p.slot p.command) same is

    go : (t : Bool) → may_put d n ≡ t → cond t (proposing n (command_for n d.state.role)) None ≡ Some x
        → Proposes d x.slot x.command
    go true may e = fits (command_for n d.state.role) refl may e
    go false may e = absurd (cc)

pub proposes : (d : Desk) (x : Proposal) → proposal d ≡ Some x → Proposes d x.slot x.command
unfolding proposal
proposes d x e = proposed_at d (lowest_free d) x refl e

-- A leader's proposal for slot n.
module _ (f : Membership) (S : Command → Type 0) (P : ℕ → Past) (d : ℕ) (x : Past) (s : State)
    (good : Good f S P d x s) (n : ℕ) (above : count x < n) (near : n ≤ count x + 8) where
  abbrev R : ℕ → Past
  R = upd P d x

  near_here : n ≤ count (R d) + 8
  near_here = subst (λ (y : Past). n ≤ count y + 8) (sym (upd_here P d x)) near

  -- where the slot has no entry of the promised ballot, which the director owns, nobody voted there with it
  pub nobody_voted : owner (promise x) ≡ d → ((open_of x.journal n).ballot ≡ promise x → ⊥) → (e : ℕ) (i : Command)
      → Voted (R e) n (promise x) i → ⊥
  nobody_voted own free e i v =
      let o : Voted (R (owner (promise x))) n (promise x) i = good.core.owned e n (promise x) i v in
      let mine : Voted x n (promise x) i =
      subst (λ (y : Past). Voted y n (promise x) i) (upd_here P d x)
      (subst (λ (k : ℕ). Voted (R k) n (promise x) i) own o) in
      free (promised_open x n i (lawful_here f S P d x good.core) above mine)

  module _ (q : DirectorSet) (line : List Command) (reports : List Entry) (k : Leader S R d x q line reports)
      (quorum : enough (chain f x n) q.bits ≡ true) where
    abbrev report : Entry
    report = element_at blank reports n

    -- each promiser passed the ballots above the report's
    passed : (b : ℕ) → report.ballot < b → b < promise x → (e : ℕ) → has q.bits e ≡ true
        → Passed (R e) n b
    passed b high low e h =
        let p = k.promisers e h in
        (omega arith, λ i v. let t = (k.told e n b i h above low v).1 in omega arith)

    safe_free : (c : Command) → report.ballot ≡ 0 → SafeAt R n (promise x) c (chain f x n)
    safe_free c none b some low =
        record { set = q.bits; quorum = quorum; each = λ e h. inr (passed b (omega arith) low e h) }

    safe_reported : 1 ≤ report.ballot → SafeAt R n (promise x) report.command (chain f x n)
    safe_reported least b some low =
        let v = k.voted n above near least in
        elim (cases_order b report.ballot) [
          | inl same ↦
              record {
                set = q.bits;
                quorum = quorum;
                each = λ e h.
                    ⊎_elim
                    (λ w.
                    inl
                    (subst (Voted (R e) n b)
                    (good.core.unique e v.0 n b w.0 report.command w.1
                    (subst (λ (j : ℕ). Voted (R v.0) n j report.command) (sym same) v.1))
                    w.1))
                    (λ w. let p = k.promisers e h in inr (omega arith, w)) (voted_at (R e).history n b);
              }
          | inr (inl lower) ↦
              let near-there = (vote_bounds (R v.0) (good.core.lawful v.0) n report.ballot report.command
              v.1).near in
              subst (λ (ms : List ℕ). By ms (λ e. Voted (R e) n b report.command ⊎ Passed (R e) n b))
              (one_chain f S R good.core v.0 d n near-there near_here
              ∙ ap (λ (y : Past). chain f y n) (upd_here P d x))
              (good.core.safe v.0 n report.ballot report.command v.1 b some lower)
          | inr (inr higher) ↦
              record { set = q.bits; quorum = quorum; each = λ e h. inr (passed b higher low e h) }
        ]

  -- a command that may be put
  pub record Fit (c : Command) : Type 0 where
    pub own : owner (promise x) ≡ d
    pub some : 1 ≤ promise x
    pub known : S c
    pub formed : well_formed c ≡ true
    pub safe : SafeAt R n (promise x) c (chain f x n)
    pub told : Told R (promise x) (count x)

  -- what a leader tells of its settled slots
  leader_told : (q : DirectorSet) (line : List Command) (reports : List Entry) → Leader S R d x q line reports
      → Told R (promise x) (count x)
  leader_told q line reports k =
      let here : R (owner (promise x)) ≡ x = ap R k.own ∙ upd_here P d x in
      record {
        within = subst (λ (y : Past). count x ≤ count y) (sym here) (omega arith);
        settled = λ j i h v.
            subst (λ (y : Past). Settled y j i) (sym here)
            (k.settled j i h (subst (λ (y : Past). Voted y j (promise x) i) here v));
      }

  head_has : (line : List Command) (c : Command) → slice_get line 0 ≡ Some c → Contains line c
  head_has [] c e = absurd (cc)
  head_has (a ∷ line) c e = let same : a ≡ c = cc in subst (Contains (a ∷ line)) same (has_first a line)

  pub fit : (r : Role) (c : Command) → KnowsRole S R d x r → enough (chain f x n) (promisers r).bits ≡ true
      → command_for n r ≡ Some c → Fit c
  fit following c k quorum e = absurd (cc)
  fit (standing q line reports) c k quorum e = go (is_unreported n reports) refl e
    where
      go : (t : Bool) → is_unreported n reports ≡ t
          → cond t (slice_get line 0) (Some (element_at blank reports n).command) ≡ Some c → Fit c
      go true u e =
          let w = k.waiting c (head_has line c e) in
          record {
            own = k.own;
            some = k.some;
            known = w.0;
            formed = w.1;
            told = leader_told q line reports k;
            safe = safe_free q line reports k quorum c (eqb-true (element_at blank reports n).ballot 0 u);
          }
      go false u e =
          let ne = eqb-false (element_at blank reports n).ballot 0 u in
          let least : 1 ≤ (element_at blank reports n).ballot = omega arith in
          let same : (element_at blank reports n).command ≡ c = cc in
          let v = k.voted n above near least in
          let b = (element_at blank reports n).ballot in
          subst Fit same
          (record {
            own = k.own;
            some = k.some;
            known = good.core.known v.0 n b (element_at blank reports n).command v.1;
            formed =
                (vote_bounds (R v.0) (good.core.lawful v.0) n b (element_at blank reports n).command v.1
                ).formed;
            told = leader_told q line reports k;
            safe = safe_reported q line reports k quorum least;
          })
