-- Eight turns are enough to advance and to catch up.
use Rattle.std.proofs.Common.{◌≡◌, ℕ, zero, suc, ◌+◌, ◌*◌, ◌%◌, ◌<◌, ◌≤◌, Bool, true, false, cond, not, eqb, ltb, leb, List, [], ◌∷◌, length, get_or, set, count_by, sym, refl, ap, ◌∙◌, subst, inl, inr, arith, length-set}
use Rattle.std.proofs.lemmas.List.Sums.{count_by-le-length, sum_by-set}
use Rattle.std.proofs.lemmas.Bool.{and_parts, cases_Bool, ltb-true, le-leb, ne_eqb, not_from_false, eqb-true}
use Rattle.command.specs.declared.Command.{Command}
use Rattle.command.specs.Quorums.{votes, enough}
use Rattle.command.specs.Sets.{has}
use Rattle.command.proofs.Bits.{has_nothing}
use Rattle.journal.specs.declared.writes.Entry.{Entry}
use Rattle.journal.specs.declared.writes.Write.TheVariants.{Settle}
use Rattle.journal.specs.Windows.{span, element_at}
use Rattle.journal.proofs.Histories.{step_taken}
use Rattle.journal.specs.Meaning.{Meaning, blank, settled_count, open_of, taken, after, step, replay}
use Rattle.protocol.specs.declared.messages.Acknowledged.{Acknowledged}
use Rattle.protocol.specs.Desks.{State, Desk, Outcome, Step, left, both, go_on, quiet, repeat, ◌▸◌, write, become, settled_by}
use Rattle.protocol.specs.Desks.{none, ack_of, forget}
use Rattle.protocol.specs.Rings.{chain_of, open_at}
use Rattle.protocol.specs.Settling.{settle, settle_open, backed, advance, told_settled, catch_up}
use Rattle.protocol.specs.Loops.{Sound}
use Rattle.protocol.proofs.Votes.{Past, Lawful, count, vote_bounds, open_vote, open_near, lawful_eight}
use Rattle.protocol.proofs.Going.{desk, write_is}
use Rattle.protocol.proofs.Settles.{settle_taken}
use Rattle.protocol.proofs.Growing.{replay_append, lawful_one, plus_one}

-- the desk after two steps
left_both : (d : Desk) (o p : Outcome) → left (left d o) p ≡ left d (both o p)
unfolding left both
left_both d o p =
    let e = sym (replay_append d.journal o.writes p.writes) in
    λ i. record { state = p.state; journal = e i }

-- a test that fails when a number has come to 0, where each turn makes it less
pub repeat_ends : (test : Desk → Bool) (turn : Step) (Q : Desk → Type 0) (measure : Desk → ℕ)
    → ((d : Desk) → Q d → test d ≡ true → Q (left d (turn d)) × (measure (left d (turn d)) < measure d))
    → (k : ℕ) (d : Desk) → Q d → measure d ≤ k → test (left d (repeat test turn k d)) ≡ false
unfolding repeat left go_on quiet
repeat_ends test turn Q measure falls zero d q low =
    elim (cases_Bool (test d)) [
      | inl h ↦ let less = (falls d q h).1 in absurd (omega arith)
      | inr h ↦ h
    ]
repeat_ends test turn Q measure falls (suc k) d q low =
    go (test d) refl (repeat_ends test turn Q measure falls k (left d (turn d)))
  where
    go : (t : Bool) → test d ≡ t
        → (Q (left d (turn d)) → measure (left d (turn d)) ≤ k
        → test (left (left d (turn d)) (repeat test turn k (left d (turn d)))) ≡ false)
        → test (left d (cond t (turn ▸ repeat test turn k) quiet d)) ≡ false
    go true h more =
        let f = falls d q h in
        let less = f.1 in
        ap test (sym (left_both d (turn d) (repeat test turn k (left d (turn d))))) ∙ more f.0 (omega arith)
    go false h more = h

-- one place fewer passes a test, where what stood there passed it and what is put there does not
pub fewer : {X : Type 0} (f : X → Bool) (xs : List X) (i : ℕ) (y z : X) → i < length xs → f (get_or xs i z) ≡ true
    → f y ≡ false → count_by f (set xs i y) < count_by f xs
fewer f xs i y z l old new =
    let s = sum_by-set (λ x. cond (f x) 1 0) xs i y z l in
    let a : ◌≡◌ {A = ℕ} (cond (f (get_or xs i z)) 1 0) 1 = ap (λ b. cond {A = ℕ} b 1 0) old in
    let b : ◌≡◌ {A = ℕ} (cond (f y) 1 0) 0 = ap (λ b. cond {A = ℕ} b 1 0) new in
    omega arith

-- Advance: each turn forgets acknowledgements that are not empty.

votes_none : (ms : List ℕ) → votes ms 0 ≡ 0
votes_none [] = refl
votes_none (m ∷ ms) =
    let z = votes_none ms in
    let a : ◌≡◌ {A = ℕ} (cond (has 0 m) 1 0) 0 = ap (λ b. cond {A = ℕ} b 1 0) (has_nothing m) in
    omega arith

enough_some : (ms : List ℕ) (s : ℕ) → enough ms s ≡ true → s ≡ 0 → ⊥
enough_some ms s h e =
    let l = ltb-true (length ms) (2 * votes ms s) h in
    let z = ap (votes ms) e ∙ votes_none ms in
    omega arith

abbrev pub some : Acknowledged → Bool
some a = not (eqb a.set.bits 0)

pub advance_falls : (d : Desk) → length d.state.acks ≡ 8 → backed d ≡ true
    → (length (left d (settle_open d)).state.acks ≡ 8)
    × (count_by some (left d (settle_open d)).state.acks < count_by some d.state.acks)
unfolding left settle_open settle go_on both write become backed
advance_falls d eight h =
    let n : ℕ = settled_by d + 1 in
    let a : Acknowledged = ack_of d.state n in
    let p = and_parts (eqb (open_at d n).ballot a.ballot) (enough (chain_of d n) a.set.bits) h in (
      length-set d.state.acks (n % 8) none ∙ eight,
      fewer some d.state.acks (n % 8) none none (omega arith)
          (not_from_false (eqb a.set.bits 0)
          (ne_eqb a.set.bits 0 (enough_some (chain_of d n) a.set.bits p.1)))
          refl,
    )

pub advances : (d : Desk) → Sound d → backed (left d (advance d)) ≡ false
unfolding advance
advances d s =
    repeat_ends backed settle_open (λ e. length e.state.acks ≡ 8) (λ e. count_by some e.state.acks) advance_falls
    span d s.eight (let l = count_by-le-length some d.state.acks in let e = s.eight in omega arith)

-- Catching up: each turn settles an open entry.

abbrev entered : Entry → Bool
entered e = leb 1 e.ballot

-- the journal has taken all its writes
abbrev pub Taken : Meaning → Type 0
Taken m = (x : Past) × Lawful x × (x.journal ≡ m)

settle_fewer : (m : Meaning) (c : Command) → entered (element_at blank m.places (settled_count m + 1)) ≡ true
    → length m.places ≡ 8 → count_by entered (after (Settle c) m).places < count_by entered m.places
unfolding after
settle_fewer m c h eight =
    fewer entered m.places ((settled_count m + 1) % 8) blank blank (omega arith) h refl

settled_turn : (x : Past) (s : State) → Lawful x → 1 ≤ (open_of x.journal (count x + 1)).ballot
    → Taken (left (desk x s) (settle_open (desk x s))).journal
    × (count_by entered (left (desk x s) (settle_open (desk x s))).journal.places < count_by entered x.journal.places)
unfolding left settle_open settle become
settled_turn x s lawful least =
    let n : ℕ = count x + 1 in
    let m : Meaning = x.journal in
    let c : Command = (open_of m n).command in
    let b = vote_bounds x lawful n (open_of m n).ballot c (open_vote x lawful n least) in
    let fits = b.fits in
    let t : taken (Settle c) m ≡ true =
    settle_taken m c (omega arith) b.formed in
    let is = write_is x s (forget n s) (Settle c) (become (forget n)) t refl in
    let journal : step (Settle c) m ≡ replay m (settle_open (desk x s)).writes =
    sym (ap (λ (o : Outcome). replay m o.writes) is) in
    let near = open_near m n (omega arith) (omega arith) in
    let eight = lawful_eight x lawful in (
      (plus_one x (Settle c), lawful_one x (Settle c) lawful t, journal),
      subst (λ (k : Meaning). count_by entered k.places < count_by entered m.places)
          (sym (step_taken (Settle c) m t) ∙ journal)
          (settle_fewer m c (subst (λ (e : Entry). entered e ≡ true) near (le-leb 1 (open_of m n).ballot least)) eight),
    )

-- a fact of the desk after one turn, by the journal's past
caught : (b u : ℕ) → 1 ≤ b → (d : Desk) → Taken d.journal → told_settled b u d ≡ true
    → Taken (left d (settle_open d)).journal
    × (count_by entered (left d (settle_open d)).journal.places < count_by entered d.journal.places)
unfolding told_settled
caught b u least d q h =
    let x : Past = q.0 in
    let p = and_parts (ltb (settled_by d) u) (eqb (open_at d (settled_by d + 1)).ballot b) h in
    let is = eqb-true (open_at d (settled_by d + 1)).ballot b p.1 in
    subst
    (λ (m : Meaning). 1 ≤ (open_of m (settled_count m + 1)).ballot
    → Taken (left (record { state = d.state; journal = m }) (settle_open (record { state = d.state; journal = m }))
    ).journal
    × (count_by entered
    (left (record { state = d.state; journal = m }) (settle_open (record { state = d.state; journal = m }))
    ).journal.places
    < count_by entered m.places))
    q.2 (settled_turn x d.state q.1) (omega arith)

-- a sound desk's journal
pub sound_past : (d : Desk) (s : Sound d) → Taken d.journal
sound_past d s =
    (record { history = s.history; journal = d.journal }, record { capacity = s.capacity; leads = s.journal }, refl)

pub sound_eight : (d : Desk) → Sound d → length d.journal.places ≡ 8
unfolding sound_past
sound_eight d s = let q = sound_past d s in lawful_eight q.0 q.1

pub catches_up : (b u : ℕ) (d : Desk) → Sound d → 1 ≤ b → told_settled b u (left d (catch_up b u d)) ≡ false
unfolding catch_up
catches_up b u d s least =
    repeat_ends (told_settled b u) settle_open (λ e. Taken e.journal) (λ e. count_by entered e.journal.places)
    (caught b u least) span d (sound_past d s)
    (let l = count_by-le-length entered d.journal.places in let e = sound_eight d s in omega arith)
