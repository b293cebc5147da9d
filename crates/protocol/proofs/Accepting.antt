-- Hearing an ACCEPT or an ACKED keeps what is known.
use Rattle.std.proofs.Common.{◌≡◌, ℕ, zero, suc, ◌+◌, ◌<◌, ◌≤◌, Bool, true, false, cond, not, ◌||◌, eqb, ltb, leb, List, [], ◌∷◌, ◌++◌, sym, refl, ◌∙◌, subst, ⊎_elim, arith, length-set}
use lib.Bits.{bit_or}
use Rattle.std.proofs.lemmas.List.Elements.{Contains-push}
use Rattle.std.proofs.lemmas.Bool.{eqb-true, leb-true, leb-false, ltb-false, or_parts}
use Rattle.command.specs.declared.Command.{Command}
use Rattle.command.specs.Commands.{well_formed}
use Rattle.command.specs.Members.{Membership, is_member}
use Rattle.command.specs.Sets.{with_director}
use Rattle.journal.specs.declared.writes.Write.{Write}
use Rattle.journal.specs.declared.writes.Write.TheVariants.{Put, Settle}
use Rattle.journal.specs.Meaning.{Meaning, open_of, settled_of, taken, after, step, wrote, replay}
use Rattle.journal.specs.Windows.{span, place_of}
use Rattle.protocol.specs.declared.messages.Acknowledged.{Acknowledged}
use Rattle.protocol.specs.declared.messages.Message.{Message}
use Rattle.protocol.specs.Desks.{State, Desk, Step, none, ack_of, with_ack, write, become, send}
use Rattle.protocol.specs.Desks.{quiet, choose, repeat, ◌▸◌, go_on, left, both, settled_by, me, promised}
use Rattle.protocol.specs.Messages.{owner, learn}
use Rattle.protocol.specs.Rings.{pass_on, chain_of, open_at}
use Rattle.protocol.specs.Settling.{settle, settle_open, advance, told_settled, catch_up}
use Rattle.protocol.specs.Hearing.{obey, acknowledging, outside, vote, heard_accept, heard_acked}
use Rattle.protocol.proofs.Votes.{Past, Voted, VotedAt, promise, count, open_past}
use Rattle.protocol.proofs.Growing.{one_is, plus, plus_one, written, replay_append}
use Rattle.protocol.proofs.Writing.{upd, Grows, upd_grows, core_accept}
use Rattle.protocol.proofs.Knowing.{AllVoted, all_voted_grows, Told, told_grows, Accepts, accepts_grow, Knows}
use Rattle.protocol.proofs.Going.{desk, Good, Went, write_is, went_one, went_after, went_then, went_choose, went_quiet}
use Rattle.protocol.proofs.Going.{went_silent, went_sent, through_grew, steps_assoc}
use Rattle.protocol.proofs.Places.{placed_same}
use Rattle.protocol.proofs.Sets.{has_with, has_union}
use Rattle.protocol.proofs.Puts.{knows_put, put_grows, put_vote, acks_with}
use Rattle.protocol.proofs.Advances.{entry_bounds, went_advance, went_catch_up}
use Rattle.protocol.proofs.Pumps.{put_taken, Passable, went_passable}
use Rattle.protocol.proofs.Tells.{learn_fact}
use Rattle.protocol.proofs.Stands.{went_obey}

-- Catching up only settles, so the promised ballot stays.

settle_promised : (c : Command) (m : Meaning) → (replay m (wrote (Settle c) m ++ [])).promised ≡ m.promised
unfolding wrote step after
settle_promised c m =
    elim (taken (Settle c) m) as (λ t. (replay m (cond t (Settle c ∷ []) [] ++ [])).promised ≡ m.promised) [
      | true ↦ elim (taken (Settle c) m) as (λ t. (cond t (after (Settle c) m) m).promised ≡ m.promised)
          [ true ↦ refl | false ↦ refl ]
      | false ↦ refl
    ]

-- what every turn keeps of the journal, all turns keep
repeat_keeps : (Q : Meaning → Type 0) (test : Desk → Bool) (turn : Step)
    → ((d : Desk) → Q d.journal → Q (replay d.journal (turn d).writes))
    → (k : ℕ) (d : Desk) → Q d.journal → Q (replay d.journal (repeat test turn k d).writes)
unfolding repeat go_on left both quiet
repeat_keeps Q test turn kept zero d q = q
repeat_keeps Q test turn kept (suc k) d q =
    elim (test d) as (λ t. Q (replay d.journal (cond t (turn ▸ repeat test turn k) quiet d).writes)) [
      | true ↦
          subst Q
          (sym (replay_append d.journal (turn d).writes (repeat test turn k (left d (turn d))).writes))
          (repeat_keeps Q test turn kept k (left d (turn d)) (kept d q))
      | false ↦ q
    ]

catch_up_promised : (b u : ℕ) (d : Desk) → (replay d.journal (catch_up b u d).writes).promised ≡ d.journal.promised
unfolding catch_up settle_open settle go_on left both write become
catch_up_promised b u d =
    repeat_keeps (λ m. m.promised ≡ d.journal.promised) (told_settled b u) settle_open
    (λ e q. settle_promised (open_at e (settled_by e + 1)).command e.journal ∙ q) span d refl

-- a set that joins acknowledgements, of voters all
join_voted : (R : ℕ → Past) (n b set : ℕ) (a : Acknowledged) → AllVoted R n a.ballot a.set.bits
    → AllVoted R n b set → AllVoted R n b (acknowledging b set a).set.bits
join_voted R n b set a old new = go (eqb a.ballot b) refl
  where
    go : (t : Bool) → eqb a.ballot b ≡ t → AllVoted R n b (cond t (bit_or a.set.bits set) set)
    go true e = λ u h.
        ⊎_elim (λ i. subst (VotedAt (R u) n) (eqb-true a.ballot b e) (old u i)) (new u)
        (has_union a.set.bits set u h)
    go false e = new

module _ (f : Membership) (S : Command → Type 0) (P : ℕ → Past) (d : ℕ) (x : Past) (s : State)
    (good : Good f S P d x s) (m : Message) where
  abbrev n : ℕ
  n = m.slot

  abbrev b : ℕ
  b = m.ballot

  abbrev c : Command
  c = m.command

  -- the director puts the command and passes it on
  module _ (is : promise x ≡ b) (some : 1 ≤ b) (formed : well_formed c ≡ true) (above : count x < n)
      (near : n ≤ count x + 8) (fits : n ≤ x.journal.capacity) (fact : Accepts (upd P d x) m) where
    abbrev put_past : Past
    put_past = written x (Put n b c)

    is_taken : taken (Put n b c) x.journal ≡ true
    is_taken =
        subst (λ (a : ℕ). taken (Put n a c) x.journal ≡ true) is
        (put_taken x.journal n c (omega arith) above near fits formed)

    abbrev ack : Acknowledged
    ack = acknowledging b (with_director m.set.bits s.number) (ack_of s n)

    abbrev voted_state : State
    voted_state = with_ack n ack s

    grown : Grows (upd P d x) (upd P d put_past)
    grown = put_grows f S P d x s good n b c is_taken

    ack_voted : AllVoted (upd P d put_past) n ack.ballot ack.set.bits
    ack_voted =
        join_voted (upd P d put_past) n b (with_director m.set.bits s.number) (ack_of s n)
        (all_voted_grows (upd P d x) (upd P d put_past) grown n (ack_of s n).ballot (ack_of s n).set.bits
        (good.knows.acks n above near))
        (λ u h.
        ⊎_elim
        (λ same.
        subst (λ (e : ℕ). VotedAt (upd P d put_past e) n b) (sym good.knows.number ∙ same)
        (c, put_vote f S P d x s good n b c is_taken))
        (λ i.
        all_voted_grows (upd P d x) (upd P d put_past) grown n b m.set.bits fact.acks u i)
        (has_with m.set.bits s.number u h))

    good_voted : Good f S P d (plus_one x (Put n b c)) voted_state
    good_voted =
        record {
          core = core_accept f S P d x good.core n b c is_taken fact.owned;
          knows =
              subst (λ (y : Past). Knows f S (upd P d y) d y voted_state) (sym (one_is x (Put n b c) is_taken))
              (knows_put f S P d x s good n b c is_taken ack s.role ack_voted (λ k. k));
        }

    passable : Passable P d (plus_one x (Put n b c)) n (ack_of voted_state n).set m.upto
    unfolding after
    passable =
        let same : ack_of voted_state n ≡ ack = placed_same none ack s.acks n good.knows.eight in
        let here : Passable P d put_past n (ack_of voted_state n).set m.upto =
        record {
          above = above;
          command = c;
          voted = subst (λ (a : ℕ). Voted put_past n a c) (sym is) (Contains-push x.history (Put n b c));
          acks =
              subst (λ (a : ℕ). AllVoted (upd P d put_past) n a (ack_of voted_state n).set.bits) (sym is)
              (subst (λ (z : Acknowledged). AllVoted (upd P d put_past) n b z.set.bits) (sym same) ack_voted);
          told =
              subst (λ (a : ℕ). Told (upd P d put_past) a m.upto) (sym is)
              (told_grows (upd P d x) (upd P d put_past) grown b m.upto fact.told);
        } in
        subst (λ (y : Past). Passable P d y n (ack_of voted_state n).set m.upto) (sym (one_is x (Put n b c) is_taken))
        here

    went_vote : Went f S P d x (vote m (desk x s))
    unfolding vote become
    went_vote =
        let w : Write = Put n b c in
        let change : State → State = λ t.
        with_ack n (acknowledging b (with_director m.set.bits t.number) (ack_of t n)) t in
        went_then f S P d x s
        (write w ▸ become change ▸ (λ e. pass_on n (ack_of e.state n).set m.upto e)) advance
        (went_after f S P d x s (write w ▸ become change) (λ e. pass_on n (ack_of e.state n).set m.upto e)
        (record { state = voted_state; writes = w ∷ []; messages = [] })
        (write_is x s voted_state w (become change) is_taken refl)
        (went_one f S P d x voted_state w is_taken good.core good_voted)
        (λ h. went_passable f S P d (plus_one x w) voted_state h n (ack_of voted_state n).set m.upto passable))
        (λ h. went_advance f S P d _ _ h)

  -- after the promise and what was told settled
  went_caught : promise x ≡ b → 1 ≤ b → 1 ≤ n → well_formed c ≡ true → Accepts (upd P d x) m
      → Went f S P d x
      (choose (λ e. leb n (settled_by e))
      (λ e. send (learn (me e) (owner b) n (settled_of e.journal n) ∷ []) e) (choose (outside n) quiet (vote m))
      (desk x s))
  unfolding send outside
  went_caught is some first formed fact =
      went_choose f S P d x s (λ e. leb n (settled_by e))
      (λ e. send (learn (me e) (owner b) n (settled_of e.journal n) ∷ []) e) (choose (outside n) quiet (vote m))
      (λ e.
      went_sent f S P d x s (learn s.number (owner b) n (settled_of x.journal n)) good
      (learn_fact f S P d x s good (owner b) n first (leb-true n (count x) e)))
      (λ e.
      went_choose f S P d x s (outside n) quiet (vote m) (λ o. went_quiet f S P d x s good)
      (λ o.
      let p = or_parts (ltb (count x + 8) n || ltb x.journal.capacity n)
      (not (is_member s.number (chain_of (desk x s) n))) o in
      let q = or_parts (ltb (count x + 8) n) (ltb x.journal.capacity n) p.0 in
      went_vote is some formed (leb-false n (count x) e) (ltb-false (count x + 8) n q.0)
      (ltb-false x.journal.capacity n q.1) fact))

pub went_accept : (f : Membership) (S : Command → Type 0) (P : ℕ → Past) (d : ℕ) (x : Past) (s : State)
    → Good f S P d x s → (m : Message) → promise x ≤ m.ballot → 1 ≤ m.ballot → 1 ≤ m.slot
    → well_formed m.command ≡ true → Accepts (upd P d x) m → Went f S P d x (heard_accept m (desk x s))
unfolding heard_accept
went_accept f S P d x s good m low some first formed fact =
    let rest : Step =
    choose (λ e. leb m.slot (settled_by e))
    (λ e. send (learn (me e) (owner m.ballot) m.slot (settled_of e.journal m.slot) ∷ []) e)
    (choose (outside m.slot) quiet (vote m)) in
    let catch : Step = catch_up m.ballot m.upto in
    subst (Went f S P d x) (sym (steps_assoc (obey m.ballot) catch rest (desk x s)))
    (went_obey f S P d x s good m.ballot (catch ▸ rest) low
    (λ y t h g is.
    let told : Accepts (upd P d y) m = accepts_grow (upd P d x) (upd P d y) (upd_grows P d x y g) m fact in
    let caught = went_catch_up f S P d m some y t h told in
    let ws : List Write = (catch (desk y t)).writes in
    went_then f S P d y t catch rest caught
    (λ k.
    went_caught f S P d (plus y ws) (catch (desk y t)).state k m
    (catch_up_promised m.ballot m.upto (desk y t) ∙ is) some first formed
    (accepts_grow (upd P d y) (upd P d (plus y ws))
    (upd_grows P d y (plus y ws) (through_grew f S P d ws y caught.through)) m told))))

-- ACKED.
pub went_acked : (f : Membership) (S : Command → Type 0) (P : ℕ → Past) (d : ℕ) (x : Past) (s : State)
    → Good f S P d x s → (m : Message) → m.ballot ≡ promise x → 1 ≤ m.ballot
    → AllVoted (upd P d x) m.slot m.ballot m.set.bits → Went f S P d x (heard_acked m (desk x s))
unfolding heard_acked become
went_acked f S P d x s good m is some fact =
    let change : State → State = λ t.
    with_ack m.slot (acknowledging m.ballot m.set.bits (ack_of t m.slot)) t in
    let first : Step = choose (λ e. eqb (open_at e m.slot).ballot (promised e)) (become change) quiet in
    went_then f S P d x s first advance
    (went_choose f S P d x s (λ e. eqb (open_at e m.slot).ballot (promised e)) (become change) quiet
    (λ e.
    let k = good.knows in
    let open_is = eqb-true (open_of x.journal m.slot).ballot (promise x) e in
    let least : 1 ≤ (open_of x.journal m.slot).ballot = omega arith in
    let above = open_past x.journal m.slot least in
    let near = (entry_bounds f S P d x s good m.slot least).near in
    went_silent f S P d x (change s)
    (record {
      core = good.core;
      knows =
          record {
            number = k.number;
            founding = k.founding;
            eight = length-set s.acks (place_of m.slot) (acknowledging m.ballot m.set.bits (ack_of s m.slot))
                ∙ k.eight;
            acks =
                acks_with (upd P d x) s (count x) m.slot
                (acknowledging m.ballot m.set.bits (ack_of s m.slot)) k.eight above near
                (join_voted (upd P d x) m.slot m.ballot m.set.bits (ack_of s m.slot)
                (k.acks m.slot above near) fact)
                k.acks;
            role = k.role;
          };
    }))
    (λ e. went_quiet f S P d x s good))
    (λ h. went_advance f S P d _ _ h)
