-- A director settles what is open in its next slot: because enough acknowledged it, or because the ballot's owner has
-- settled it.
use Rattle.std.proofs.Common.{◌≡◌, ℕ, ◌+◌, ◌<◌, ◌≤◌, true, eqb, ltb, List, sym, ap, ◌∙◌, subst, arith}
use Rattle.std.proofs.lemmas.Bool.{and_parts, ltb-true, eqb-true}
use Rattle.command.specs.declared.Command.{Command}
use Rattle.command.specs.Members.{Membership}
use Rattle.command.specs.Quorums.{enough}
use Rattle.journal.specs.declared.writes.Entry.{Entry}
use Rattle.journal.specs.Meaning.{open_of}
use Rattle.journal.specs.Windows.{span}
use Rattle.protocol.specs.declared.messages.Message.{Message}
use Rattle.protocol.specs.Desks.{Role, following, standing, State, ack_of}
use Rattle.protocol.specs.Messages.{owner}
use Rattle.protocol.specs.Rings.{chain_of}
use Rattle.protocol.specs.Settling.{settle_open, backed, advance, told_settled, catch_up}
use Rattle.protocol.proofs.Votes.{Past, Voted, Bounds, Lawful, promise, count, vote_bounds, vote_top, open_vote}
use Rattle.protocol.proofs.Growing.{chain}
use Rattle.protocol.proofs.Core.{By, by_some, Settled, Chosen, one_chain}
use Rattle.protocol.proofs.Writing.{upd, upd_here, upd_grows, lawful_here}
use Rattle.protocol.proofs.Knowing.{AllVoted, Accepts, accepts_grow}
use Rattle.protocol.proofs.Going.{desk, Good, Went, went_repeat}
use Rattle.protocol.proofs.Settles.{settle_taken, Yields, went_settle}

module _ (f : Membership) (S : Command → Type 0) (P : ℕ → Past) (d : ℕ) (x : Past) (s : State)
    (good : Good f S P d x s) where
  lawful : Lawful x
  lawful = lawful_here f S P d x good.core

  -- a vote of this director, among all pasts
  pub own_vote : (n b : ℕ) (c : Command) → Voted x n b c → Voted (upd P d x d) n b c
  own_vote n b c v = subst (λ (y : Past). Voted y n b c) (sym (upd_here P d x)) v

  -- an open entry that is not blank
  module _ (n : ℕ) (some : 1 ≤ (open_of x.journal n).ballot) where
    abbrev entry : Entry
    entry = open_of x.journal n

    pub entry_vote : Voted x n entry.ballot entry.command
    entry_vote = open_vote x lawful n some

    pub entry_bounds : Bounds x.journal n entry.ballot entry.command
    entry_bounds = vote_bounds x lawful n entry.ballot entry.command entry_vote

    -- a vote of the slot with the promised ballot is the entry
    pub entry_newest : (i : Command) → count x < n → Voted x n (promise x) i → entry.command ≡ i
    entry_newest i above v =
        let top = vote_top x lawful n (promise x) i above v in
        let low = entry_bounds.promised in
        let same : promise x ≡ entry.ballot = omega arith in
        good.core.unique d d n entry.ballot entry.command i
        (own_vote n entry.ballot entry.command entry_vote)
        (own_vote n entry.ballot i (subst (λ (b : ℕ). Voted x n b i) same v))

  next_yields : 1 ≤ (open_of x.journal (count x + 1)).ballot → (r : Role)
      → Yields x (open_of x.journal (count x + 1)).command r
  next_yields some following = tt
  next_yields some (standing q line reports) = λ i v. entry_newest (count x + 1) some i (omega arith) v

  -- what is open in the next slot may be settled, where it is chosen
  pub went_settle_open : 1 ≤ (open_of x.journal (count x + 1)).ballot
      → Chosen (upd P d x) (count x + 1) (open_of x.journal (count x + 1)).command (chain f x (count x + 1))
      → Went f S P d x (settle_open (desk x s))
  unfolding settle_open
  went_settle_open some chosen =
      let n : ℕ = count x + 1 in
      let c : Command = (open_of x.journal n).command in
      let b = entry_bounds n some in
      let fits = b.fits in
      went_settle f S P d x s good c (settle_taken x.journal c (omega arith) b.formed) chosen (next_yields some s.role)

  -- enough acknowledged it
  went_backed : backed (desk x s) ≡ true → Went f S P d x (settle_open (desk x s))
  unfolding backed
  went_backed h =
      let n : ℕ = count x + 1 in
      let e : Entry = open_of x.journal n in
      let p = and_parts (eqb e.ballot (ack_of s n).ballot) (enough (chain_of (desk x s) n) (ack_of s n).set.bits) h in
      let same = eqb-true e.ballot (ack_of s n).ballot p.0 in
      let founded = ap (λ (g : Membership). chain g x n) good.knows.founding in
      let acks : AllVoted (upd P d x) n (ack_of s n).ballot (ack_of s n).set.bits =
      good.knows.acks n (omega arith) (omega arith) in
      let by : By (chain f x n) (λ v. (c : Command) × Voted (upd P d x v) n (ack_of s n).ballot c) =
      record {
        set = (ack_of s n).set.bits;
        quorum = ap (λ (ms : List ℕ). enough ms (ack_of s n).set.bits) (sym founded) ∙ p.1;
        each = acks;
      } in
      let v = by_some (chain f x n) (λ v. (c : Command) × Voted (upd P d x v) n (ack_of s n).ballot c) by in
      let least = (vote_bounds (upd P d x v.0) (good.core.lawful v.0) n (ack_of s n).ballot v.1.0 v.1.1
      ).some in
      let some : 1 ≤ e.ballot = omega arith in
      let mine = own_vote n e.ballot e.command (entry_vote n some) in
      went_settle_open some
      (record {
        ballot = e.ballot;
        by =
            record {
              set = by.set;
              quorum = by.quorum;
              each = λ u k.
                  let w = acks u k in
                  let voted = subst (λ (b : ℕ). Voted (upd P d x u) n b w.0) (sym same) w.1 in
                  subst (Voted (upd P d x u) n e.ballot)
                  (good.core.unique u d n e.ballot w.0 e.command voted mine) voted;
            };
      })

  -- the owner of the ballot has settled it
  went_told : (m : Message) → 1 ≤ m.ballot → Accepts (upd P d x) m
      → told_settled m.ballot m.upto (desk x s) ≡ true → Went f S P d x (settle_open (desk x s))
  unfolding told_settled
  went_told m least k h =
      let n : ℕ = count x + 1 in
      let e : Entry = open_of x.journal n in
      let R : ℕ → Past = upd P d x in
      let o : ℕ = owner m.ballot in
      let p = and_parts (ltb (count x) m.upto) (eqb e.ballot m.ballot) h in
      let low = ltb-true (count x) m.upto p.0 in
      let same = eqb-true e.ballot m.ballot p.1 in
      let some : 1 ≤ e.ballot = omega arith in
      let mine : Voted (R d) n m.ballot e.command =
      subst (λ (b : ℕ). Voted (R d) n b e.command) same (own_vote n e.ballot e.command (entry_vote n some)) in
      let told : Settled (R o) n e.command =
      k.told.settled n e.command (omega arith) (good.core.owned d n m.ballot e.command mine) in
      let slot = told.slot in
      let within = told.within in
      let here = ap (λ (y : Past). count y) (upd_here P d x) in
      went_settle_open some
      (subst (Chosen R n e.command)
      (one_chain f S R good.core o d n (omega arith) (omega arith) ∙ ap (λ (y : Past). chain f y n) (upd_here P d x))
      (good.core.chosen o n e.command told))

module _ (f : Membership) (S : Command → Type 0) (P : ℕ → Past) (d : ℕ) where
  pub went_advance : (x : Past) (s : State) → Good f S P d x s → Went f S P d x (advance (desk x s))
  unfolding advance
  went_advance x s g =
      went_repeat f S P d backed settle_open (λ y. Unit {0}) (λ y z h q. tt)
      (λ y t h q e. went_backed f S P d y t h e) span x s g tt

  pub went_catch_up : (m : Message) → 1 ≤ m.ballot → (x : Past) (s : State) → Good f S P d x s
      → Accepts (upd P d x) m → Went f S P d x (catch_up m.ballot m.upto (desk x s))
  unfolding catch_up
  went_catch_up m least x s g k =
      went_repeat f S P d (told_settled m.ballot m.upto) settle_open (λ y. Accepts (upd P d y) m)
      (λ y z h q. accepts_grow (upd P d y) (upd P d z) (upd_grows P d y z h) m q)
      (λ y t h q e. went_told f S P d y t h m least q e) span x s g k
