-- What a call that can be made does to a seat, whole or cut.
use Rattle.std.proofs.Common.{◌≡◌, ℕ, Bool, true, false, cond, List, [], ◌++◌, take, Some, None, Ok, sym, refl, ap, ◌∙◌, subst, append-nil}
use Rattle.std.proofs.lemmas.List.Elements.{All-contains}
use Rattle.std.proofs.lemmas.Bool.{both_ways}
use Rattle.command.specs.declared.Command.{Command}
use Rattle.command.specs.Members.{Membership, founded}
use Rattle.journal.specs.declared.writes.Write.{Write}
use Rattle.journal.specs.Meaning.{fresh, replay}
use Rattle.machine.specs.Rules.{after}
use Rattle.protocol.specs.Desks.{State, Desk, Outcome, become}
use Rattle.protocol.specs.Calls.{restarted, submitted}
use Rattle.protocol.specs.Refusing.{Call, submit, stand, pump, prod, fetch, hear, restart, is_restart, done, refusal}
use Rattle.protocol.specs.Refusing.{unless, outcome}
use Rattle.protocol.specs.Replies.{for_machine, ran, settled_in}
use Rattle.protocol.specs.Runs.{Seat, journal_of, desk_of, Cluster, World}
use Rattle.protocol.specs.Runs.{Event, seat_after, writes_of, seat_cut, Recalls, Possible}
use Rattle.protocol.specs.Agreement.{settled_list}
use Rattle.protocol.proofs.Votes.{Past, has_none}
use Rattle.protocol.proofs.Growing.{plus, replay_append}
use Rattle.protocol.proofs.Core.{Core}
use Rattle.protocol.proofs.Writing.{upd}
use Rattle.protocol.proofs.Knowing.{Fact, Knows}
use Rattle.protocol.proofs.Going.{Throughout, through_cut, Went}
use Rattle.protocol.proofs.Called.{Before, accepted_is, went_call, through_call}
use Rattle.protocol.proofs.Machines.{ran_state, ran_more, by_settled}
use Rattle.protocol.proofs.Worlds.{past_of, pasts, Known, Inv, pasts_here, Seated}

-- the past of a seat with more writes
more_past : (s : Seat) (ws : List Write) (t : Seat) → t.history ≡ s.history ++ ws → t.capacity ≡ s.capacity
    → past_of t ≡ plus (past_of s) ws
more_past s ws t h c =
    (λ j. record { history = h j; journal = replay (fresh (c j)) (h j) })
    ∙ (λ j. record { history = s.history ++ ws; journal = replay_append (fresh s.capacity) s.history ws j })

-- a restart writes nothing, nor does a submit
restart_writes : (call : Call) (d : Desk) → is_restart call ≡ true → (done call d).writes ≡ []
unfolding restarted become
restart_writes (submit c) d h = absurd (both_ways false refl h)
restart_writes stand d h = absurd (both_ways false refl h)
restart_writes pump d h = absurd (both_ways false refl h)
restart_writes prod d h = absurd (both_ways false refl h)
restart_writes (fetch peer) d h = absurd (both_ways false refl h)
restart_writes (hear m) d h = absurd (both_ways false refl h)
restart_writes restart d h = refl

submit_writes : (c : Command) (places : ℕ) (d : Desk) → writes_of (outcome (submit c) places d) ≡ []
unfolding outcome submitted become
submit_writes c places d =
    elim (refusal (submit c) places d) as (λ r. writes_of (unless r (done (submit c) d)) ≡ [])
    [ None ↦ refl | Some r ↦ refl ]

-- What is known before a call that can be made.
module _ (k : Cluster) (es : List Event) (w : World) (i : Inv k es w) (d : ℕ) (call : Call)
    (possible : Possible w d call) (submits : (c : Command) → call ≡ submit c → Known es c) where
  abbrev f : Membership
  f = founded k.founding

  up : is_restart call ≡ false → (w.seats d).outstanding ≡ false
  up other = go (w.seats d).outstanding refl
    where
      go : (t : Bool) → (w.seats d).outstanding ≡ t → (w.seats d).outstanding ≡ false
      go true h = absurd (both_ways (is_restart call) other (possible.reaches h))
      go false h = h

  before : Before f (Known es) (pasts w) d (pasts w d) (w.seats d).state call
  before =
      let here = pasts_here (pasts w) d in
      record {
        director = possible.director;
        core = subst (Core f (Known es)) here i.core;
        number = i.number d;
        founding = i.founding d;
        knows = λ other.
            subst (λ (Q : ℕ → Past). Knows f (Known es) Q d (pasts w d) (w.seats d).state) here
            (i.knows d (up other));
        known = submits;
        fact = λ m e. subst (λ (Q : ℕ → Past). Fact Q m) here (i.sent m (possible.comes m e));
      }

  -- An accepted call.
  module _ (places : ℕ) (o : Outcome) (e : outcome call places (desk_of (w.seats d)) ≡ Ok o) where
    abbrev x : Past
    x = pasts w d

    abbrev seat : Seat
    seat = seat_after k.make call (w.seats d) o

    went : Went f (Known es) (pasts w) d x o
    went = went_call f (Known es) (pasts w) d x (w.seats d).state call places o before e

    past : past_of seat ≡ plus x o.writes
    past = more_past (w.seats d) o.writes seat refl refl

    settled_is : (journal_of seat).settled ≡ settled_list w d ++ settled_in o.writes
    settled_is =
        ap (λ (y : Past). y.journal.settled) past
        ∙ by_settled f (Known es) (pasts w) d o.writes x went.through

    machine_is : seat.machine ≡ after k.make.rule k.make.start (for_machine (journal_of seat).settled)
    machine_is = go (is_restart call) refl
      where
        go : (t : Bool) → is_restart call ≡ t
            → (cond t (ran k.make.rule (k.make.start, None) (settled_list w d))
            (ran k.make.rule ((w.seats d).machine, None) (settled_in o.writes))).0
            ≡ after k.make.rule k.make.start (for_machine (journal_of seat).settled)
        go true h =
            let none : o.writes ≡ [] =
            ap (λ (p : Outcome). p.writes) (sym (accepted_is call places (desk_of (w.seats d)) o e).is)
            ∙ restart_writes call (desk_of (w.seats d)) h in
            ran_state k.make.rule k.make.start None (settled_list w d)
            ∙ ap (λ (cs : List Command). after k.make.rule k.make.start (for_machine cs))
            (sym (settled_is ∙ ap (λ (ws : List Write). settled_list w d ++ settled_in ws) none
            ∙ append-nil (settled_list w d)))
        go false h =
            ran_more k.make.rule k.make.start (w.seats d).machine (settled_list w d) (settled_in o.writes)
            (i.machine d (up h))
            ∙ ap (λ (cs : List Command). after k.make.rule k.make.start (for_machine cs)) (sym settled_is)

    pub seated : Seated k es w i d seat o.writes o.messages
    seated =
        record {
          through = went.through;
          past = past;
          number = went.knows.number;
          founding = went.knows.founding;
          knows = λ u. went.knows;
          machine = λ u. machine_is;
          facts = λ m h. All-contains (Fact (upd (pasts w) d (plus x o.writes))) o.messages m went.facts h;
        }

through_other : (k : Cluster) (es : List Event) (w : World) → Inv k es w → (d : ℕ) (call : Call) (places : ℕ)
    → Possible w d call → ((c : Command) → call ≡ submit c → Known es c)
    → Throughout (founded k.founding) (Known es) (pasts w) d (pasts w d)
    (writes_of (outcome call places (desk_of (w.seats d))))
through_other k es w i d call places possible submits =
    through_call (founded k.founding) (Known es) (pasts w) d (pasts w d) (w.seats d).state call places
    (before k es w i d call possible submits)

-- the writes of any call that can be made
through_any : (k : Cluster) (es : List Event) (w : World) → Inv k es w → (d : ℕ) (call : Call) (places : ℕ)
    → Possible w d call
    → Throughout (founded k.founding) (Known es) (pasts w) d (pasts w d)
    (writes_of (outcome call places (desk_of (w.seats d))))
through_any k es w i d (submit c) places possible =
    subst (Throughout (founded k.founding) (Known es) (pasts w) d (pasts w d))
    (sym (submit_writes c places (desk_of (w.seats d))))
    (subst (Core (founded k.founding) (Known es)) (pasts_here (pasts w) d) i.core)
through_any k es w i d stand places possible = through_other k es w i d stand places possible (λ c e. absurd (cc))
through_any k es w i d pump places possible = through_other k es w i d pump places possible (λ c e. absurd (cc))
through_any k es w i d prod places possible = through_other k es w i d prod places possible (λ c e. absurd (cc))
through_any k es w i d (fetch peer) places possible =
    through_other k es w i d (fetch peer) places possible (λ c e. absurd (cc))
through_any k es w i d (hear m) places possible =
    through_other k es w i d (hear m) places possible (λ c e. absurd (cc))
through_any k es w i d restart places possible = through_other k es w i d restart places possible (λ c e. absurd (cc))

pub seated_cut : (k : Cluster) (es : List Event) (w : World) (i : Inv k es w) (d : ℕ) (call : Call) (places n : ℕ)
    (memory : State) (machine : List ℕ) → Possible w d call → Recalls (w.seats d).state memory
    → Seated k es w i d
    (seat_cut (w.seats d) (take n (writes_of (outcome call places (desk_of (w.seats d))))) memory machine)
    (take n (writes_of (outcome call places (desk_of (w.seats d))))) []
seated_cut k es w i d call places n memory machine possible recalls =
    let ws : List Write = writes_of (outcome call places (desk_of (w.seats d))) in
    record {
      through =
          through_cut (founded k.founding) (Known es) (pasts w) d n ws (pasts w d)
          (through_any k es w i d call places possible);
      past = more_past (w.seats d) (take n ws) (seat_cut (w.seats d) (take n ws) memory machine) refl refl;
      number = recalls.number ∙ i.number d;
      founding = recalls.founding ∙ i.founding d;
      knows = λ u. absurd (both_ways true u refl);
      machine = λ u. absurd (both_ways true u refl);
      facts = λ m h. absurd (has_none m h);
    }
