-- Pumping keeps what is known.
use Rattle.std.proofs.Common.{◌≡◌, ℕ, ◌+◌, ◌<◌, ◌≤◌, Bool, true, false, cond, ◌&&◌, eqb, ltb, leb, List, [], ◌∷◌, drop, Some, None, Option, sym, refl, ap, ◌∙◌, subst, arith, is_some}
use Rattle.std.specs.List.{Contains}
use Rattle.std.proofs.lemmas.Bool.{and_from, eq-eqb, le-leb, lt-ltb}
use Rattle.std.proofs.lemmas.List.Elements.{Contains-push}
use Rattle.command.specs.declared.Command.{Command}
use Rattle.command.specs.declared.sets.DirectorSet.{DirectorSet}
use Rattle.command.specs.Commands.{well_formed}
use Rattle.command.specs.Members.{Membership}
use Rattle.command.specs.Quorums.{enough}
use Rattle.command.specs.Sets.{with_director}
use Rattle.journal.specs.declared.writes.Write.{Write}
use Rattle.journal.specs.declared.writes.Write.TheVariants.{Put}
use Rattle.journal.specs.Meaning.{Meaning, settled_count, taken, after}
use Rattle.journal.specs.Windows.{in_window, span}
use Rattle.protocol.specs.declared.messages.Acknowledged.{Acknowledged}
use Rattle.protocol.specs.Desks.{Role, following, standing, State, itself, with_role, with_ack, write, become}
use Rattle.protocol.specs.Desks.{◌▸◌}
use Rattle.protocol.specs.Rings.{pass_on}
use Rattle.protocol.specs.Settling.{advance}
use Rattle.protocol.specs.Calls.{promisers, is_unreported, fed, Proposal, proposal, propose, propose_any, propose_all, pumped}
use Rattle.protocol.proofs.Votes.{Past, Voted, VotedAt, promise, count, has_rest, has_none, vote_bounds}
use Rattle.protocol.proofs.Growing.{one_is, plus_one, written, chain}
use Rattle.protocol.proofs.Core.{SafeAt}
use Rattle.protocol.proofs.Writing.{upd, upd_here, lawful_here, core_propose}
use Rattle.protocol.proofs.Knowing.{leader_waits, AllVoted, Told, told_grows, KnowsRole, Knows}
use Rattle.protocol.proofs.Going.{desk, Good, Went, write_is, went_one, went_after, went_then, went_repeat, went_quiet}
use Rattle.protocol.proofs.Sets.{has_alone}
use Rattle.protocol.proofs.Puts.{promised_open, knows_put, put_grows, put_vote}
use Rattle.protocol.proofs.Passes.{went_pass}
use Rattle.protocol.proofs.Advances.{went_advance}
use Rattle.protocol.proofs.Proposals.{Proposes, proposes, nobody_voted, Fit, fit}

-- a vote of a slot in the window, with the promised ballot, can be put
pub put_taken : (m : Meaning) (n : ℕ) (c : Command) → 1 ≤ m.promised → settled_count m < n → n ≤ settled_count m + 8
    → n ≤ m.capacity → well_formed c ≡ true → taken (Put n m.promised c) m ≡ true
unfolding taken
put_taken m n c some above near fits formed =
    let b = m.promised in
    let p = settled_count m in
    and_from (eqb b b && leb 1 b && in_window p n && leb n m.capacity) (well_formed c)
    (and_from (eqb b b && leb 1 b && in_window p n) (leb n m.capacity)
    (and_from (eqb b b && leb 1 b) (in_window p n)
    (and_from (eqb b b) (leb 1 b) (eq-eqb b b refl) (le-leb 1 b some))
    (and_from (ltb p n) (leb n (p + 8)) (lt-ltb p n above) (le-leb n (p + 8) near)))
    (le-leb n m.capacity fits))
    formed

-- what a director may pass on of a slot that it voted with the promised ballot
pub record Passable (P : ℕ → Past) (d : ℕ) (x : Past) (n : ℕ) (set : DirectorSet) (u : ℕ) : Type 0 where
  pub above : count x < n
  pub command : Command
  pub voted : Voted x n (promise x) command
  pub acks : AllVoted (upd P d x) n (promise x) set.bits
  pub told : Told (upd P d x) (promise x) u

pub went_passable : (f : Membership) (S : Command → Type 0) (P : ℕ → Past) (d : ℕ) (x : Past) (s : State)
    → Good f S P d x s → (n : ℕ) (set : DirectorSet) (u : ℕ) → Passable P d x n set u
    → Went f S P d x (pass_on n set u (desk x s))
went_passable f S P d x s good n set u k =
    let lawful = lawful_here f S P d x good.core in
    let is = promised_open x n k.command lawful k.above k.voted in
    let least = (vote_bounds x lawful n (promise x) k.command k.voted).some in
    went_pass f S P d x s good n (omega arith) set u
    (subst (λ (b : ℕ). AllVoted (upd P d x) n b set.bits) (sym is) k.acks)
    (subst (λ (b : ℕ). Told (upd P d x) b u) (sym is) k.told)

-- the line without its first command waits for nothing new
fewer_wait : (t : Bool) (line : List Command) (c : Command) → Contains (cond t (drop 1 line) line) c → Contains line c
fewer_wait true [] c h = absurd (has_none c h)
fewer_wait true (a ∷ line) c h = has_rest a line c h
fewer_wait false line c h = h

fed_knows : (S : Command → Type 0) (R : ℕ → Past) (d : ℕ) (x : Past) (n : ℕ) (r : Role) → KnowsRole S R d x r
    → KnowsRole S R d x (fed n r)
fed_knows S R d x n following k = tt
fed_knows S R d x n (standing q line reports) k =
    leader_waits S R d x q line _ reports k (λ c h. k.waiting c (fewer_wait (is_unreported n reports) line c h))

module _ (f : Membership) (S : Command → Type 0) (P : ℕ → Past) (d : ℕ) (x : Past) (s : State)
    (good : Good f S P d x s) (n : ℕ) (c : Command) (is : Proposes (desk x s) n c) where
  abbrev b : ℕ
  b = promise x

  founded : chain s.founding x n ≡ chain f x n
  founded = ap (λ (g : Membership). chain g x n) good.knows.founding

  fits : Fit f S P d x s good n is.above is.near c
  fits =
      fit f S P d x s good n is.above is.near s.role c good.knows.role
      (ap (λ (ms : List ℕ). enough ms (promisers s.role).bits) (sym founded) ∙ is.quorum) is.command

  is_taken : taken (Put n b c) x.journal ≡ true
  is_taken = put_taken x.journal n c fits.some is.above is.near is.fits fits.formed

  abbrev ack : Acknowledged
  ack = record { ballot = b; set = itself (desk x s) }

  abbrev fed_state : State
  fed_state = with_role (fed n s.role) (with_ack n ack s)

  abbrev put_past : Past
  put_past = written x (Put n b c)

  -- this director alone voted
  alone : AllVoted (upd P d put_past) n b (with_director 0 s.number)
  alone u h =
      let same : d ≡ u = sym good.knows.number ∙ has_alone s.number u h in
      subst (λ (e : ℕ). VotedAt (upd P d put_past e) n b) same (c, put_vote f S P d x s good n b c is_taken)

  good_put : Good f S P d (plus_one x (Put n b c)) fed_state
  good_put =
      record {
        core =
            core_propose f S P d x good.core n b c is_taken fits.own
            (nobody_voted f S P d x s good n is.above is.near fits.own is.free)
            (subst (λ (y : Past). SafeAt (upd P d x) n b c (chain f y n)) (sym (upd_here P d x)) fits.safe)
            fits.known;
        knows =
            subst (λ (y : Past). Knows f S (upd P d y) d y fed_state) (sym (one_is x (Put n b c) is_taken))
            (knows_put f S P d x s good n b c is_taken ack (fed n s.role) alone
            (fed_knows S (upd P d put_past) d put_past n s.role));
      }

  passable : Passable P d (plus_one x (Put n b c)) n (itself (desk x s)) (count x)
  unfolding after
  passable =
      let here : Passable P d put_past n (itself (desk x s)) (count x) =
      record {
        above = is.above;
        command = c;
        voted = Contains-push x.history (Put n b c);
        acks = alone;
        told =
            told_grows (upd P d x) (upd P d put_past) (put_grows f S P d x s good n b c is_taken) b (count x)
            fits.told;
      } in
      subst (λ (y : Past). Passable P d y n (itself (desk x s)) (count x)) (sym (one_is x (Put n b c) is_taken)) here

  went_proposes : Went f S P d x (propose (record { slot = n; command = c }) (desk x s))
  unfolding propose become
  went_proposes =
      let w : Write = Put n b c in
      went_after f S P d x s
      (write w ▸ become (λ t. with_role (fed n t.role) (with_ack n ack t)))
      (pass_on n (itself (desk x s)) (count x)) (record { state = fed_state; writes = w ∷ []; messages = [] })
      (write_is x s fed_state w (become (λ t. with_role (fed n t.role) (with_ack n ack t))) is_taken refl)
      (went_one f S P d x fed_state w is_taken good.core good_put)
      (λ h. went_passable f S P d (plus_one x w) fed_state h n (itself (desk x s)) (count x) passable)

module _ (f : Membership) (S : Command → Type 0) (P : ℕ → Past) (d : ℕ) where
  went_any : (x : Past) (s : State) → Good f S P d x s → (o : Option Proposal) → proposal (desk x s) ≡ o
      → Went f S P d x (propose_any o (desk x s))
  went_any x s good None e = went_quiet f S P d x s good
  went_any x s good (Some p) e =
      went_proposes f S P d x s good p.slot p.command (proposes (desk x s) p e)

  pub went_pump : (x : Past) (s : State) → Good f S P d x s → Went f S P d x (pumped (desk x s))
  unfolding pumped propose_all
  went_pump x s good =
      went_then f S P d x s propose_all advance
      (went_repeat f S P d (λ t. is_some (proposal t)) (λ t. propose_any (proposal t) t) (λ y. Unit {0})
      (λ y z h q. tt)
      (λ y t h q e. went_any y t h (proposal (desk y t)) refl) span x s good tt)
      (λ h. went_advance f S P d _ _ h)
