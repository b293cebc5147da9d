-- One write of one director keeps the core.
use Rattle.std.proofs.Common.{◌≡◌, ℕ, ◌+◌, ◌≤◌, Bool, true, false, cond, eqb, ◌⊎◌, List, [], ◌∷◌, length, sym, refl, ap, ◌∙◌, subst, inl, inr, ⊎_elim, arith}
use Rattle.std.proofs.lemmas.List.Elements.{Contains-push, Contains-push_cases}
use Rattle.std.proofs.lemmas.List.{length-append, get_or_append_left, get_or_push}
use Rattle.std.proofs.lemmas.Bool.{cases_lt, eqb-true, eqb-false, eq-eqb}
use Rattle.command.specs.declared.Command.{Command}
use Rattle.command.specs.Members.{Membership}
use Rattle.journal.specs.declared.writes.Write.{Write}
use Rattle.journal.specs.declared.writes.Write.TheVariants.{Promise, Put, Settle}
use Rattle.journal.specs.Meaning.{noop, taken, after}
use Rattle.journal.proofs.Newest.{put_parts}
use Rattle.protocol.specs.Messages.{owner}
use Rattle.protocol.proofs.Votes.{Past, Voted, Lawful, count, vote_bounds}
use Rattle.protocol.proofs.Growing.{Grew, grew_same, grew_by, lawful_one, one_is, plus_one, written, chain}
use Rattle.protocol.proofs.Growing.{chain_grew}
use Rattle.protocol.proofs.Core.{by_more, Settled, Passed, SafeAt, Chosen, Core, one_chain}

-- the pasts, with x for that of director d
abbrev pub upd : (ℕ → Past) → ℕ → Past → ℕ → Past
upd P d x e = cond (eqb e d) x (P e)

-- what holds at d of x, and at any other of its past, holds at each
pub at_upd : (Q : ℕ → Past → Type 0) (P : ℕ → Past) (d : ℕ) (x : Past) → Q d x
    → ((e : ℕ) → (e ≡ d → ⊥) → Q e (P e)) → (e : ℕ) → Q e (upd P d x e)
at_upd Q P d x here there e = go (eqb e d) refl
  where
    go : (t : Bool) → eqb e d ≡ t → Q e (cond t x (P e))
    go true s = subst (λ (n : ℕ). Q n x) (sym (eqb-true e d s)) here
    go false s = there e (eqb-false e d s)

-- the same of two pasts of d
pub at_both : (Q : ℕ → Past → Past → Type 0) (P : ℕ → Past) (d : ℕ) (x y : Past) → Q d x y
    → ((e : ℕ) → Q e (P e) (P e)) → (e : ℕ) → Q e (upd P d x e) (upd P d y e)
at_both Q P d x y here there e = go (eqb e d) refl
  where
    go : (t : Bool) → eqb e d ≡ t → Q e (cond t x (P e)) (cond t y (P e))
    go true s = subst (λ (n : ℕ). Q n x y) (sym (eqb-true e d s)) here
    go false s = there e

pub upd_here : (P : ℕ → Past) (d : ℕ) (x : Past) → upd P d x d ≡ x
upd_here P d x = ap (λ b. cond b x (P d)) (eq-eqb d d refl)

abbrev pub Grows : (ℕ → Past) → (ℕ → Past) → Type 0
Grows P R = (d : ℕ) → Grew (P d) (R d)

pub upd_grows : (P : ℕ → Past) (d : ℕ) (x y : Past) → Grew x y → Grows (upd P d x) (upd P d y)
upd_grows P d x y g = at_both (λ e u v. Grew u v) P d x y g (λ e. grew_same (P e))

-- what can be put stays so, and what is chosen stays chosen
pub safe_grows : (P R : ℕ → Past) (n b : ℕ) (c : Command) (ms : List ℕ) → Grows P R → SafeAt P n b c ms
    → SafeAt R n b c ms
safe_grows P R n b c ms g s k some lower =
    by_more ms (λ e. Voted (P e) n k c ⊎ Passed (P e) n k) (λ e. Voted (R e) n k c ⊎ Passed (R e) n k)
    (λ e. ⊎_elim (λ v. inl ((g e).votes n k c v))
    (λ p.
    let l = p.0 in
    let r = (g e).promised in
    inr (
      omega arith,
      λ i v. ⊎_elim (p.1 i) (λ new. let h = new.0 in absurd (omega arith)) ((g e).newer n k i v),
    )))
    (s k some lower)

pub chosen_grows : (P R : ℕ → Past) (n : ℕ) (c : Command) (ms : List ℕ) → Grows P R → Chosen P n c ms → Chosen R n c ms
chosen_grows P R n c ms g h =
    record {
      ballot = h.ballot;
      by = by_more ms (λ e. Voted (P e) n h.ballot c) (λ e. Voted (R e) n h.ballot c)
          (λ e v. (g e).votes n h.ballot c v) h.by;
    }

-- why a new vote may be
pub record Just (f : Membership) (S : Command → Type 0) (R : ℕ → Past) (d n b : ℕ) (c : Command) : Type 0 where
  pub owned : Voted (R (owner b)) n b c
  pub unique : (e : ℕ) (i : Command) → Voted (R e) n b i → c ≡ i
  pub safe : SafeAt R n b c (chain f (R d) n)
  pub known : S c

-- pasts that grew keep the core, if each new vote is justified and each newly settled command is chosen
core_grows : (f : Membership) (S : Command → Type 0) (P R : ℕ → Past) → Core f S P → Grows P R
    → ((d : ℕ) → Lawful (R d))
    → ((d n b : ℕ) (c : Command) → Voted (R d) n b c → Voted (P d) n b c ⊎ Just f S R d n b c)
    → ((d n : ℕ) (c : Command) → Settled (R d) n c → Settled (P d) n c ⊎ Chosen R n c (chain f (R d) n))
    → Core f S R
core_grows f S P R core g lawful votes settles =
    record {
      lawful = lawful;
      owned = λ d n b c v.
          ⊎_elim (λ o. (g (owner b)).votes n b c (core.owned d n b c o)) (λ j. j.owned) (votes d n b c v);
      unique = λ d e n b c i v w.
          ⊎_elim
          (λ o. ⊎_elim (λ p. core.unique d e n b c i o p) (λ j. sym (j.unique d c v)) (votes e n b i w))
          (λ j. j.unique e i w) (votes d n b c v);
      safe = λ d n b c v.
          ⊎_elim
          (λ o.
          let near = (vote_bounds (P d) (core.lawful d) n b c o).near in
          subst (λ (ms : List ℕ). SafeAt R n b c ms) (sym (chain_grew f (P d) (R d) n (g d) near))
          (safe_grows P R n b c (chain f (P d) n) g (core.safe d n b c o)))
          (λ j. j.safe) (votes d n b c v);
      chosen = λ d n c s.
          ⊎_elim
          (λ o.
          let u = o.slot in
          let w = o.within in
          subst (λ (ms : List ℕ). Chosen R n c ms) (sym (chain_grew f (P d) (R d) n (g d) (omega arith)))
          (chosen_grows P R n c (chain f (P d) n) g (core.chosen d n c o)))
          (λ j. j) (settles d n c s);
      known = λ d n b c v. ⊎_elim (core.known d n b c) (λ j. j.known) (votes d n b c v);
    }

-- a write that is a vote is justified
abbrev JustVote : (f : Membership) (S : Command → Type 0) (R : ℕ → Past) (d : ℕ) → Write → Type 0
JustVote f S R d (Promise b) = Unit {0}
JustVote f S R d (Put n b c) = Just f S R d n b c
JustVote f S R d (Settle c) = Unit {0}

-- Below, director d makes one write.
module _ (f : Membership) (S : Command → Type 0) (P : ℕ → Past) (d : ℕ) (x : Past) (core : Core f S (upd P d x)) where
  pub lawful_here : Lawful x
  lawful_here = subst Lawful (upd_here P d x) (core.lawful d)

  lawful_upd : (w : Write) → taken w x.journal ≡ true → (e : ℕ) → Lawful (upd P d (written x w) e)
  lawful_upd w t e =
      at_both (λ e u v. Lawful u → Lawful v) P d x (written x w)
      (λ l. subst Lawful (one_is x w t) (lawful_one x w l t)) (λ e l. l) e (core.lawful e)

  core_by : (w : Write) → taken w x.journal ≡ true
      → JustVote f S (upd P d (written x w)) d w
      → ((n : ℕ) (c : Command) → Settled (written x w) n c
      → Settled x n c ⊎ Chosen (upd P d (written x w)) n c (chain f (written x w) n))
      → Core f S (upd P d (plus_one x w))
  core_by w t vote settles =
      let y : Past = written x w in
      let R : ℕ → Past = upd P d y in
      subst (λ (z : Past). Core f S (upd P d z)) (sym (one_is x w t))
      (core_grows f S (upd P d x) R core (upd_grows P d x y (grew_by w x t)) (lawful_upd w t)
      (at_both
      (λ e u v. (n b : ℕ) (c : Command) → Voted v n b c → Voted u n b c ⊎ Just f S R e n b c) P d x y
      (λ n b c v. ⊎_elim (λ o. inl o) (λ new. inr (subst (JustVote f S R d) new vote))
      (Contains-push_cases x.history w (Put n b c) v))
      (λ e n b c v. inl v))
      (at_both
      (λ e u v. (n : ℕ) (c : Command) → Settled v n c → Settled u n c ⊎ Chosen R n c (chain f v n)) P d x y
      settles (λ e n c s. inl s)))

  -- a promise is always safe
  pub core_promise : (b : ℕ) → taken (Promise b) x.journal ≡ true → Core f S (upd P d (plus_one x (Promise b)))
  unfolding after
  core_promise b t =
      core_by (Promise b) t tt
      (λ n c s. inl (record { index = s.index; slot = s.slot; within = s.within; is = s.is }))

  put_by : (n b : ℕ) (c : Command) → taken (Put n b c) x.journal ≡ true
      → Just f S (upd P d (written x (Put n b c))) d n b c → Core f S (upd P d (plus_one x (Put n b c)))
  unfolding after
  put_by n b c t j =
      core_by (Put n b c) t j
      (λ n c s. inl (record { index = s.index; slot = s.slot; within = s.within; is = s.is }))

  -- a vote of n, b, c is an old one, or the new one of director d
  old_or_new : (n b : ℕ) (c : Command) (e : ℕ) (i : Command) → Voted (upd P d (written x (Put n b c)) e) n b i
      → Voted (upd P d x e) n b i ⊎ (c ≡ i)
  old_or_new n b c e i =
      at_both (λ e u v. Voted v n b i → Voted u n b i ⊎ (c ≡ i)) P d x (written x (Put n b c))
      (λ v. ⊎_elim (λ o. inl o) (λ new. inr (cc)) (Contains-push_cases x.history (Put n b c) (Put n b i) v))
      (λ e v. inl v) e

  grows_put : (n b : ℕ) (c : Command) → taken (Put n b c) x.journal ≡ true
      → Grows (upd P d x) (upd P d (written x (Put n b c)))
  grows_put n b c t = upd_grows P d x (written x (Put n b c)) (grew_by (Put n b c) x t)

  -- the chain for a slot that can be put, by the pasts before and after
  chain_put : (n b : ℕ) (c : Command) → chain f (upd P d (written x (Put n b c)) d) n ≡ chain f (upd P d x d) n
  unfolding after
  chain_put n b c =
      at_both (λ e u v. chain f v n ≡ chain f u n) P d x (written x (Put n b c)) refl (λ e. refl) d

  near_here : (n b : ℕ) (c : Command) → taken (Put n b c) x.journal ≡ true → n ≤ count (upd P d x d) + 8
  near_here n b c t =
      subst (λ (y : Past). n ≤ count y + 8) (sym (upd_here P d x)) (put_parts n b c x.journal t).high

  -- a director may put what the ballot's owner put
  pub core_accept : (n b : ℕ) (c : Command) → taken (Put n b c) x.journal ≡ true
      → Voted (upd P d x (owner b)) n b c → Core f S (upd P d (plus_one x (Put n b c)))
  core_accept n b c t v =
      let g = grows_put n b c t in
      let near = (vote_bounds (upd P d x (owner b)) (core.lawful (owner b)) n b c v).near in
      let same = one_chain f S (upd P d x) core (owner b) d n near (near_here n b c t) ∙ sym (chain_put n b c) in
      put_by n b c t
      (record {
        owned = (g (owner b)).votes n b c v;
        unique = λ e i w.
            ⊎_elim (λ o. core.unique (owner b) e n b c i v o) (λ s. s) (old_or_new n b c e i w);
        safe =
            subst (SafeAt (upd P d (written x (Put n b c))) n b c) same
            (safe_grows (upd P d x) (upd P d (written x (Put n b c))) n b c (chain f (upd P d x (owner b)) n) g
            (core.safe (owner b) n b c v));
        known = core.known (owner b) n b c v;
      })

  -- the owner of a ballot may put what is safe, where nobody put anything with that ballot
  pub core_propose : (n b : ℕ) (c : Command) → taken (Put n b c) x.journal ≡ true → owner b ≡ d
      → ((e : ℕ) (i : Command) → Voted (upd P d x e) n b i → ⊥)
      → SafeAt (upd P d x) n b c (chain f (upd P d x d) n) → S c → Core f S (upd P d (plus_one x (Put n b c)))
  core_propose n b c t own nobody safe known =
      put_by n b c t
      (record {
        owned =
            subst (λ (e : ℕ). Voted (upd P d (written x (Put n b c)) e) n b c) (sym own)
            (subst (λ (y : Past). Voted y n b c) (sym (upd_here P d (written x (Put n b c))))
            (Contains-push x.history (Put n b c)));
        unique = λ e i w. ⊎_elim (λ o. absurd (nobody e i o)) (λ s. s) (old_or_new n b c e i w);
        safe =
            subst (SafeAt (upd P d (written x (Put n b c))) n b c) (sym (chain_put n b c))
            (safe_grows (upd P d x) (upd P d (written x (Put n b c))) n b c (chain f (upd P d x d) n)
            (grows_put n b c t) safe);
        known = known;
      })

  -- what is chosen for the next slot may be settled
  pub core_settle : (c : Command) → taken (Settle c) x.journal ≡ true
      → Chosen (upd P d x) (count x + 1) c (chain f x (count x + 1)) → Core f S (upd P d (plus_one x (Settle c)))
  unfolding after
  core_settle c t chosen =
      let xs : List Command = x.journal.settled in
      let y : Past = written x (Settle c) in
      let g : Grew x y = grew_by (Settle c) x t in
      core_by (Settle c) t tt
      (λ n i s.
      let l = length-append xs (c ∷ []) in
      let w = s.within in
      elim (cases_lt s.index (length xs)) [
        | inl old ↦
            inl (record {
              index = s.index;
              slot = s.slot;
              within = old;
              is = sym (get_or_append_left xs (c ∷ []) noop s.index old) ∙ s.is;
            })
        | inr new ↦
            let here : length xs ≡ s.index = omega arith in
            let slot : n ≡ count x + 1 = s.slot ∙ ap (λ (k : ℕ). k + 1) (sym here) in
            let same : c ≡ i = sym (get_or_push xs c noop s.index here) ∙ s.is in
            inr
            (subst (λ (k : ℕ). Chosen (upd P d y) k i (chain f y k)) (sym slot)
            (subst (λ (e : Command). Chosen (upd P d y) (count x + 1) e (chain f y (count x + 1))) same
            (subst (Chosen (upd P d y) (count x + 1) c) (sym (chain_grew f x y (count x + 1) g (omega arith)))
            (chosen_grows (upd P d x) (upd P d y) (count x + 1) c (chain f x (count x + 1))
            (upd_grows P d x y g) chosen))))
      ])
