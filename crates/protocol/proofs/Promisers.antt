-- Hearing a PROMISE keeps what a leader knows.
use Rattle.std.proofs.Common.{◌≡◌, ℕ, zero, suc, ◌+◌, ◌-◌, ◌<◌, ◌≤◌, Bool, true, false, cond, ◌&&◌, ltb, ◌⊎◌, List, [], ◌∷◌, length, get_or, sym, refl, ap, ◌∙◌, subst, inl, inr, ⊎_elim, arith, length-set}
use Rattle.std.proofs.lemmas.Bool.{and_parts, and_cases, ltb-true, ltb-false, cases_eq}
use Rattle.command.specs.declared.Command.{Command}
use Rattle.command.specs.declared.sets.DirectorSet.{DirectorSet}
use Rattle.command.specs.Members.{Membership}
use Rattle.journal.specs.declared.writes.Entry.{Entry}
use Rattle.journal.specs.Meaning.{blank}
use Rattle.journal.specs.Windows.{element_at, place_of, put_at}
use Rattle.protocol.specs.declared.messages.Message.{Message}
use Rattle.protocol.specs.Desks.{Role, following, standing, State, with_role, become}
use Rattle.protocol.specs.Hearing.{reported_in, reported, promised_by, heard_promise}
use Rattle.protocol.proofs.Votes.{Past, Voted, promise, count}
use Rattle.protocol.proofs.Writing.{upd}
use Rattle.protocol.proofs.Knowing.{SomeVoted, Promises, Leader, KnowsRole}
use Rattle.protocol.proofs.Going.{good_role, desk, Good, Went, went_silent}
use Rattle.protocol.proofs.Places.{placed_same, placed_other}
use Rattle.protocol.proofs.Sets.{has_with}

abbrev at : List Entry → ℕ → Entry
at reports n = element_at blank reports n

-- what reports are after one entry for slot n was heard
record One (p n : ℕ) (e : Entry) (old new : List Entry) : Type 0 where
  eight : length new ≡ 8
  more : (j : ℕ) → p < j → j ≤ p + 8 → (at old j).ballot ≤ (at new j).ballot
  told : p < n → e.ballot ≤ (at new n).ballot
  from : (j : ℕ) → p < j → j ≤ p + 8 → (at new j ≡ at old j) ⊎ ((j ≡ n) × (at new j ≡ e))

one : (p n : ℕ) (e : Entry) (old : List Entry) → length old ≡ 8 → n ≤ p + 8 → One p n e old (reported_in p n e old)
one p n e old eight near = go (ltb p n && ltb (at old n).ballot e.ballot) refl
  where
    go : (t : Bool) → (ltb p n && ltb (at old n).ballot e.ballot) ≡ t → One p n e old (cond t (put_at old n e) old)
    go true h =
        let q = and_parts (ltb p n) (ltb (at old n).ballot e.ballot) h in
        let above = ltb-true p n q.0 in
        let higher = ltb-true (at old n).ballot e.ballot q.1 in
        let same = placed_same blank e old n eight in
        let is = ap (λ (z : Entry). z.ballot) same in
        record {
          eight = length-set old (place_of n) e ∙ eight;
          more = λ j low high.
              elim (cases_eq j n) [
                | inl s ↦
                    subst (λ (i : ℕ). (at old i).ballot ≤ (at (put_at old n e) i).ballot) (sym s) (omega arith)
                | inr other ↦
                    let there = ap (λ (z : Entry). z.ballot)
                    (placed_other blank e old p j n low high above near other) in
                    omega arith
              ];
          told = λ l. omega arith;
          from = λ j low high.
              elim (cases_eq j n) [
                | inl s ↦ inr (s, ap (at (put_at old n e)) s ∙ same)
                | inr other ↦ inl (placed_other blank e old p j n low high above near other)
              ];
        }
    go false h =
        record {
          eight = eight;
          more = λ j low high. omega arith;
          told = λ above.
              elim (and_cases (ltb p n) (ltb (at old n).ballot e.ballot) h) [
                | inl l ↦ let r = ltb-false p n l in absurd (omega arith)
                | inr l ↦ ltb-false (at old n).ballot e.ballot l
              ];
          from = λ j low high. inl refl;
        }

-- what reports are after a list of entries was heard, the first of them for slot n
record Heard (p n : ℕ) (es old new : List Entry) : Type 0 where
  eight : length new ≡ 8
  more : (j : ℕ) → p < j → j ≤ p + 8 → (at old j).ballot ≤ (at new j).ballot
  told : (i : ℕ) → i < length es → p < n + i → (get_or es i blank).ballot ≤ (at new (n + i)).ballot
  from : (j : ℕ) → p < j → j ≤ p + 8
      → (at new j ≡ at old j) ⊎ ((i : ℕ) × (i < length es) × (j ≡ n + i) × (at new j ≡ get_or es i blank))

heard : (es : List Entry) (p n : ℕ) (old : List Entry) → length old ≡ 8 → n + length es ≤ p + 9
    → Heard p n es old (reported p n es old)
heard [] p n old eight near =
    record {
      eight = eight;
      more = λ j low high. omega arith;
      told = λ i h l. absurd (omega arith);
      from = λ j low high. inl refl;
    }
heard (e ∷ es) p n old eight near =
    let a = one p n e old eight (omega arith) in
    let b = heard es p (n + 1) (reported_in p n e old) a.eight (omega arith) in
    record {
      eight = b.eight;
      more = λ j low high. let u = a.more j low high in let v = b.more j low high in omega arith;
      told = told a b;
      from = λ j low high.
          ⊎_elim
          (λ same.
          ⊎_elim (λ s. inl (same ∙ s))
          (λ s.
          let is = s.0 in
          inr (0, omega arith, omega arith, same ∙ s.1))
          (a.from j low high))
          (λ s. let l = s.1 in let is = s.2 in inr (suc s.0, omega arith, omega arith, s.3)) (b.from j low high);
    }
  where
    told : One p n e old (reported_in p n e old)
        → Heard p (n + 1) es (reported_in p n e old) (reported p (n + 1) es (reported_in p n e old))
        → (i : ℕ) → i < length (e ∷ es) → p < n + i
        → (get_or (e ∷ es) i blank).ballot ≤ (at (reported p (n + 1) es (reported_in p n e old)) (n + i)).ballot
    told a b zero h l =
        let slot : n + 0 ≡ n = omega arith in
        let first = a.told (omega arith) in
        let kept = b.more n (omega arith) (omega arith) in
        subst (λ (j : ℕ). e.ballot ≤ (at (reported p (n + 1) es (reported_in p n e old)) j).ballot) (sym slot)
        (omega arith)
    told a b (suc i) h l =
        let slot : n + suc i ≡ n + 1 + i = omega arith in
        subst (λ (j : ℕ). (get_or es i blank).ballot ≤ (at (reported p (n + 1) es (reported_in p n e old)) j).ballot)
        (sym slot) (b.told i (omega arith) (omega arith))

module _ (S : Command → Type 0) (R : ℕ → Past) (d : ℕ) (x : Past) (m : Message)
    (ballot : m.ballot ≡ promise x) (next : m.slot ≤ count x + 1) (fact : Promises R m) where
  leader_promised : (q : DirectorSet) (line : List Command) (reports : List Entry) → Leader S R d x q line reports
      → KnowsRole S R d x (promised_by m (count x) (standing q line reports))
  leader_promised q line reports k =
      let p : ℕ = count x in
      let new : List Entry = reported p m.slot m.entries reports in
      let eight = fact.eight in
      let h = heard m.entries p m.slot reports k.eight (omega arith) in
      let low = fact.promised in
      record {
        own = k.own;
        some = k.some;
        eight = h.eight;
        promisers = λ e i.
            ⊎_elim (λ s. subst (λ (j : ℕ). promise x ≤ promise (R j)) s (omega arith)) (k.promisers e)
            (has_with q.bits m.from e i);
        told = λ e n b c i above lower v.
            ⊎_elim
            (λ s.
            let t = fact.told n b c (omega arith) (omega arith) (subst (λ (j : ℕ). Voted (R j) n b c) (sym s) v) in
            let near = t.0 in
            let below = t.1 in
            let slot : m.slot + (n - m.slot) ≡ n = omega arith in
            let u = subst (λ (j : ℕ). (get_or m.entries (n - m.slot) blank).ballot ≤ (at new j).ballot) slot
            (h.told (n - m.slot) (omega arith) (omega arith)) in
            (omega arith, omega arith))
            (λ s.
            let t = k.told e n b c s above lower v in
            let near = t.0 in
            let below = t.1 in
            let u = h.more n above near in
            (near, omega arith))
            (has_with q.bits m.from e i);
        voted = λ n above near some.
            ⊎_elim
            (λ s.
            subst (SomeVoted R n) (sym s)
            (k.voted n above near (subst (λ (z : Entry). 1 ≤ z.ballot) s some)))
            (λ s.
            subst (SomeVoted R n) (sym s.3)
            (subst (λ (j : ℕ). SomeVoted R j (get_or m.entries s.0 blank)) (sym s.2)
            (fact.voted s.0 (let l = s.1 in omega arith) (subst (λ (z : Entry). 1 ≤ z.ballot) s.3 some))))
            (h.from n above near);
        settled = k.settled;
        waiting = k.waiting;
      }

  role_promised : (r : Role) → KnowsRole S R d x r → KnowsRole S R d x (promised_by m (count x) r)
  role_promised following k = tt
  role_promised (standing q line reports) k = leader_promised q line reports k

pub went_promise : (f : Membership) (S : Command → Type 0) (P : ℕ → Past) (d : ℕ) (x : Past) (s : State)
    → Good f S P d x s → (m : Message) → m.ballot ≡ promise x → m.slot ≤ count x + 1
    → Promises (upd P d x) m → Went f S P d x (heard_promise m (desk x s))
unfolding heard_promise become
went_promise f S P d x s good m ballot next fact =
    let r : Role = promised_by m (count x) s.role in
    went_silent f S P d x (with_role r s)
    (good_role f S P d x s r good (role_promised S (upd P d x) d x m ballot next fact s.role good.knows.role))
