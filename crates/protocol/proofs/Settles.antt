-- Settling keeps what is known: by acknowledgements, by what the ballot's owner has settled, or by what is learned.
use Rattle.std.proofs.Common.{◌≡◌, ℕ, ◌+◌, ◌<◌, ◌≤◌, true, ltb, List, [], ◌∷◌, sym, refl, ap, ◌∙◌, subst, inl, inr, ⊎_elim, arith, length-set}
use Rattle.std.proofs.lemmas.List.Elements.{Contains-push_cases}
use Rattle.std.proofs.lemmas.List.{length-append, get_or_push}
use Rattle.std.proofs.lemmas.Bool.{and_from, lt-ltb, cases_lt}
use Rattle.command.specs.declared.Command.{Command}
use Rattle.command.specs.declared.sets.DirectorSet.{DirectorSet}
use Rattle.command.specs.Commands.{well_formed}
use Rattle.command.specs.Members.{Membership}
use Rattle.command.specs.Sets.{has}
use Rattle.journal.specs.declared.writes.Entry.{Entry}
use Rattle.journal.specs.declared.writes.Write.{Write}
use Rattle.journal.specs.declared.writes.Write.TheVariants.{Put, Settle}
use Rattle.journal.specs.Meaning.{Meaning, noop, blank, settled_count, taken, after}
use Rattle.journal.specs.Windows.{element_at, put_at, place_of}
use Rattle.protocol.specs.declared.messages.Acknowledged.{Acknowledged}
use Rattle.protocol.specs.Desks.{Role, following, standing, State, none, ack_of, reports_without, forget, become}
use Rattle.protocol.specs.Settling.{settle}
use Rattle.protocol.proofs.Votes.{Past, Voted, promise, count}
use Rattle.protocol.proofs.Growing.{Grew, grew_by, one_is, written, chain}
use Rattle.protocol.proofs.Core.{settled_grew, Chosen}
use Rattle.protocol.proofs.Writing.{upd, Grows, upd_grows, core_settle}
use Rattle.protocol.proofs.Knowing.{AllVoted, all_voted_grows, SomeVoted, some_voted_grows, Leader, KnowsRole, Knows}
use Rattle.protocol.proofs.Going.{desk, Good, Went, write_is, went_one}
use Rattle.protocol.proofs.Places.{placed_other, placed_next}
use Rattle.protocol.proofs.Sets.{nobody_has}

-- a leader that voted in the next slot with its ballot voted for c
abbrev pub Yields : Past → Command → Role → Type 0
Yields x c following = Unit {0}
Yields x c (standing q line reports) = (i : Command) → Voted x (count x + 1) (promise x) i → c ≡ i

-- a well-formed command can be settled while there is a slot
pub settle_taken : (m : Meaning) (c : Command) → settled_count m < m.capacity → well_formed c ≡ true
    → taken (Settle c) m ≡ true
unfolding taken
settle_taken m c fits formed =
    and_from (ltb (settled_count m) m.capacity) (well_formed c) (lt-ltb (settled_count m) m.capacity fits) formed

module _ (f : Membership) (S : Command → Type 0) (P : ℕ → Past) (d : ℕ) (x : Past) (s : State) (good : Good f S P d x s)
    (c : Command) (is_taken : taken (Settle c) x.journal ≡ true) where
  abbrev settled_past : Past
  settled_past = written x (Settle c)

  grown : Grows (upd P d x) (upd P d settled_past)
  grown = upd_grows P d x settled_past (grew_by (Settle c) x is_taken)

  count_more : count settled_past ≡ count x + 1
  unfolding after
  count_more = length-append x.journal.settled (c ∷ [])

  leader_settled : (q : DirectorSet) (line : List Command) (reports : List Entry)
      → Leader S (upd P d x) d x q line reports
      → ((i : Command) → Voted x (count x + 1) (promise x) i → c ≡ i)
      → Leader S (upd P d settled_past) d settled_past q line (put_at reports (count x + 1) blank)
  unfolding after
  leader_settled q line reports k yields =
      let more = count_more in
      let R : ℕ → Past = upd P d x in
      let g : Grew x settled_past = grew_by (Settle c) x is_taken in
      record {
        own = k.own;
        some = k.some;
        eight = length-set reports (place_of (count x + 1)) blank ∙ k.eight;
        promisers = λ e h. let l = k.promisers e h in let r = (grown e).promised in omega arith;
        told = λ e n b i h above lower v.
            ⊎_elim
            (λ o.
            let t = k.told e n b i h (omega arith) lower o in
            let u = t.0 in
            let w = t.1 in
            let same = ap (λ (z : Entry). z.ballot)
            (placed_other blank blank reports (count x) n (count x + 1) (omega arith) u (omega arith) (omega arith)
            (λ z. omega arith)) in
            (omega arith, omega arith))
            (λ new. let u = new.0 in let l = k.promisers e h in absurd (omega arith)) ((grown e).newer n b i v);
        voted = λ n above near some.
            elim (cases_lt n (count x + 9)) [
              | inl inside ↦
                  let same = placed_other blank blank reports (count x) n (count x + 1) (omega arith) (omega arith)
                  (omega arith) (omega arith) (λ z. omega arith) in
                  subst (SomeVoted (upd P d settled_past) n) (sym same)
                  (some_voted_grows R (upd P d settled_past) grown n (element_at blank reports n)
                  (k.voted n (omega arith) (omega arith) (subst (λ (z : Entry). 1 ≤ z.ballot) same some)))
              | inr past ↦
                  let e = ap (λ (z : Entry). z.ballot)
                  (placed_next blank blank reports n (count x + 1) k.eight (omega arith)) in
                  absurd (omega arith)
            ];
        settled = λ j i h v.
            let old : Voted x j (promise x) i =
            ⊎_elim (λ o. o) (λ e. absurd (cc))
            (Contains-push_cases x.history (Settle c) (Put j (promise x) i) v) in
            elim (cases_lt (count x) j) [
              | inl new ↦
                  let here : j ≡ count x + 1 = omega arith in
                  record {
                    index = count x;
                    slot = here;
                    within = omega arith;
                    is = get_or_push x.journal.settled c noop (count x) refl
                        ∙ yields i (subst (λ (n : ℕ). Voted x n (promise x) i) here old);
                  }
              | inr past ↦ settled_grew x settled_past j i g (k.settled j i past old)
            ];
        waiting = k.waiting;
      }

  role_settled : (r : Role) → KnowsRole S (upd P d x) d x r → Yields x c r
      → KnowsRole S (upd P d settled_past) d settled_past (reports_without (count x + 1) r)
  role_settled following k yields = tt
  role_settled (standing q line reports) k yields = leader_settled q line reports k yields

  knows_settled : Yields x c s.role → Knows f S (upd P d settled_past) d settled_past (forget (count x + 1) s)
  knows_settled yields =
      let k = good.knows in
      let more = count_more in
      let R : ℕ → Past = upd P d x in
      record {
        number = k.number;
        founding = k.founding;
        eight = length-set s.acks (place_of (count x + 1)) none ∙ k.eight;
        acks = λ n above near e h.
            elim (cases_lt n (count x + 9)) [
              | inl inside ↦
                  let same = placed_other none none s.acks (count x) n (count x + 1) (omega arith) (omega arith)
                  (omega arith) (omega arith) (λ z. omega arith) in
                  subst (λ (a : Acknowledged). AllVoted (upd P d settled_past) n a.ballot a.set.bits) (sym same)
                  (all_voted_grows R (upd P d settled_past) grown n (ack_of s n).ballot (ack_of s n).set.bits
                  (k.acks n (omega arith) (omega arith)))
                  e h
              | inr past ↦
                  let same = placed_next none none s.acks n (count x + 1) k.eight (omega arith) in
                  absurd (nobody_has e (subst (λ (a : Acknowledged). has a.set.bits e ≡ true) same h))
            ];
        role = role_settled s.role k.role yields;
      }

  -- settling what is chosen
  pub went_settle : Chosen (upd P d x) (count x + 1) c (chain f x (count x + 1)) → Yields x c s.role
      → Went f S P d x (settle c (desk x s))
  unfolding settle become
  went_settle chosen yields =
      let w : Write = Settle c in
      let t : State = forget (count x + 1) s in
      subst (Went f S P d x) (sym (write_is x s t w (become (forget (count x + 1))) is_taken refl))
      (went_one f S P d x t w is_taken good.core
      (record {
        core = core_settle f S P d x good.core c is_taken chosen;
        knows =
            subst (λ (y : Past). Knows f S (upd P d y) d y t) (sym (one_is x w is_taken)) (knows_settled yields);
      }))
