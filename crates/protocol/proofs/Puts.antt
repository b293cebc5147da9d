-- Putting an entry keeps what is known.
use Rattle.std.proofs.Common.{◌≡◌, ℕ, ◌+◌, ◌<◌, ◌≤◌, true, List, length, sym, ap, ◌∙◌, subst, inl, inr, ⊎_elim, arith, length-set}
use Rattle.std.proofs.lemmas.List.Elements.{Contains-push, Contains-push_cases}
use Rattle.std.proofs.lemmas.Bool.{cases_eq}
use Rattle.command.specs.declared.Command.{Command}
use Rattle.command.specs.declared.sets.DirectorSet.{DirectorSet}
use Rattle.command.specs.Members.{Membership}
use Rattle.journal.specs.declared.writes.Entry.{Entry}
use Rattle.journal.specs.declared.writes.Write.TheVariants.{Put}
use Rattle.journal.specs.Meaning.{blank, open_of, taken, after}
use Rattle.journal.specs.Windows.{element_at, place_of}
use Rattle.journal.proofs.Newest.{put_parts}
use Rattle.protocol.specs.declared.messages.Acknowledged.{Acknowledged}
use Rattle.protocol.specs.Desks.{Role, following, standing, State, none, ack_of, with_role, with_ack}
use Rattle.protocol.proofs.Votes.{Past, Voted, Lawful, promise, count, vote_bounds, vote_top, open_vote}
use Rattle.protocol.proofs.Growing.{grew_by, written}
use Rattle.protocol.proofs.Core.{settled_grew}
use Rattle.protocol.proofs.Writing.{upd, upd_here, Grows, upd_grows}
use Rattle.protocol.proofs.Knowing.{AllVoted, all_voted_grows, some_voted_grows, Leader, KnowsRole, Knows}
use Rattle.protocol.proofs.Going.{Good}
use Rattle.protocol.proofs.Places.{placed_same, placed_other}

-- the open entry of a slot that was voted with the promised ballot has that ballot
pub promised_open : (x : Past) (n : ℕ) (c : Command) → Lawful x → count x < n → Voted x n (promise x) c
    → (open_of x.journal n).ballot ≡ promise x
promised_open x n c lawful above v =
    let top = vote_top x lawful n (promise x) c above v in
    let least = (vote_bounds x lawful n (promise x) c v).some in
    let some : 1 ≤ (open_of x.journal n).ballot = omega arith in
    let low = (vote_bounds x lawful n (open_of x.journal n).ballot (open_of x.journal n).command
    (open_vote x lawful n some)).promised in
    omega arith

-- acknowledgements, with other ones for one slot
pub acks_with : (R : ℕ → Past) (s : State) (p n : ℕ) (a : Acknowledged) → length s.acks ≡ 8 → p < n → n ≤ p + 8
    → AllVoted R n a.ballot a.set.bits
    → ((j : ℕ) → p < j → j ≤ p + 8 → AllVoted R j (ack_of s j).ballot (ack_of s j).set.bits)
    → (j : ℕ) → p < j → j ≤ p + 8
    → AllVoted R j (ack_of (with_ack n a s) j).ballot (ack_of (with_ack n a s) j).set.bits
acks_with R s p n a eight low high new old j above near =
    elim (cases_eq j n) [
      | inl same ↦
          let here : ack_of (with_ack n a s) j ≡ a =
          ap (λ (i : ℕ). ack_of (with_ack n a s) i) same ∙ placed_same none a s.acks n eight in
          subst (λ (z : Acknowledged). AllVoted R j z.ballot z.set.bits) (sym here)
          (subst (λ (i : ℕ). AllVoted R i a.ballot a.set.bits) (sym same) new)
      | inr other ↦
          let there = placed_other none a s.acks p j n above near low high other in
          subst (λ (z : Acknowledged). AllVoted R j z.ballot z.set.bits) (sym there) (old j above near)
    ]

module _ (f : Membership) (S : Command → Type 0) (P : ℕ → Past) (d : ℕ) (x : Past) (s : State)
    (good : Good f S P d x s) (n b : ℕ) (c : Command) (is_taken : taken (Put n b c) x.journal ≡ true) where
  abbrev put_past : Past
  put_past = written x (Put n b c)

  pub put_grows : Grows (upd P d x) (upd P d put_past)
  put_grows = upd_grows P d x put_past (grew_by (Put n b c) x is_taken)

  pub put_vote : Voted (upd P d put_past d) n b c
  put_vote =
      subst (λ (y : Past). Voted y n b c) (sym (upd_here P d put_past)) (Contains-push x.history (Put n b c))

  leader_put : (q : DirectorSet) (line : List Command) (reports : List Entry)
      → Leader S (upd P d x) d x q line reports → Leader S (upd P d put_past) d put_past q line reports
  unfolding after
  leader_put q line reports k =
      let low = (put_parts n b c x.journal is_taken).low in
      record {
        own = k.own;
        some = k.some;
        eight = k.eight;
        promisers = λ e h. let l = k.promisers e h in let r = (put_grows e).promised in omega arith;
        told = λ e j i a h above lower v.
            ⊎_elim (λ o. k.told e j i a h above lower o)
            (λ new. let u = new.0 in let l = k.promisers e h in absurd (omega arith)) ((put_grows e).newer j i a v);
        voted = λ j above near some.
            some_voted_grows (upd P d x) (upd P d put_past) put_grows j (element_at blank reports j)
            (k.voted j above near some);
        settled = λ j i h v.
            ⊎_elim
            (λ o. settled_grew x put_past j i (grew_by (Put n b c) x is_taken) (k.settled j i h o))
            (λ new. let slot : n ≡ j = cc in absurd (omega arith))
            (Contains-push_cases x.history (Put n b c) (Put j (promise x) i) v);
        waiting = k.waiting;
      }

  role_put : (r : Role) → KnowsRole S (upd P d x) d x r → KnowsRole S (upd P d put_past) d put_past r
  role_put following k = tt
  role_put (standing q line reports) k = leader_put q line reports k

  -- the director's memory with new acknowledgements for the slot, and a role that fits
  pub knows_put : (a : Acknowledged) (r : Role) → AllVoted (upd P d put_past) n a.ballot a.set.bits
      → (KnowsRole S (upd P d put_past) d put_past s.role → KnowsRole S (upd P d put_past) d put_past r)
      → Knows f S (upd P d put_past) d put_past (with_role r (with_ack n a s))
  unfolding after
  knows_put a r acks fits =
      let k = good.knows in
      let q = put_parts n b c x.journal is_taken in
      let low = q.low in
      let high = q.high in
      record {
        number = k.number;
        founding = k.founding;
        eight = length-set s.acks (place_of n) a ∙ k.eight;
        acks =
            acks_with (upd P d put_past) s (count x) n a k.eight low high acks
            (λ j above near.
            all_voted_grows (upd P d x) (upd P d put_past) put_grows j (ack_of s j).ballot (ack_of s j).set.bits
            (k.acks j above near));
        role = fits (role_put s.role k.role);
      }
