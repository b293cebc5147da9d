-- What holds of every world of a run, and what another seat with more writes must have for it to go on holding.
use Rattle.std.proofs.Common.{◌≡◌, ℕ, Bool, true, false, cond, eqb, List, [], ◌∷◌, ◌++◌, sym, refl, ap, ◌∙◌, subst, ⊎_elim}
use mathlib.Core.Path.{fun_ext}
use Rattle.std.specs.List.{Contains}
use Rattle.std.proofs.lemmas.List.Elements.{Contains-append_left, Contains-append_cases}
use Rattle.std.proofs.lemmas.Bool.{eqb-true}
use Rattle.command.specs.declared.Command.{Command}
use Rattle.command.specs.Members.{Membership, founded}
use Rattle.journal.specs.declared.writes.Write.{Write}
use Rattle.machine.specs.Rules.{after}
use Rattle.protocol.specs.declared.messages.Message.{Message}
use Rattle.protocol.specs.Lists.{Begins}
use Rattle.protocol.specs.Refusing.{submit}
use Rattle.protocol.specs.Replies.{for_machine}
use Rattle.protocol.specs.Runs.{Seat, journal_of, Cluster, World, accepted}
use Rattle.protocol.specs.Runs.{Event, with_seat}
use Rattle.protocol.specs.Agreement.{settled_list, led_to, Submitted}
use Rattle.protocol.proofs.Votes.{Past}
use Rattle.protocol.proofs.Growing.{grew_same, begins_same, plus}
use Rattle.protocol.proofs.Core.{Core}
use Rattle.protocol.proofs.Writing.{upd, Grows, upd_grows}
use Rattle.protocol.proofs.Knowing.{Fact, fact_grows, Knows, knows_grows}
use Rattle.protocol.proofs.Going.{Throughout, through_end, through_grew}

-- the past of a seat, and of all
abbrev pub past_of : Seat → Past
past_of s = record { history = s.history; journal = journal_of s }

abbrev pub pasts : World → ℕ → Past
pasts w d = past_of (w.seats d)

abbrev pub Known : List Event → Command → Type 0
Known es c = Submitted c es

-- What holds of every world of a run.
pub record Inv (k : Cluster) (es : List Event) (w : World) : Type 0 where
  pub core : Core (founded k.founding) (Known es) (pasts w)
  pub sent : (m : Message) → Contains w.sent m → Fact (pasts w) m
  pub number : (d : ℕ) → (w.seats d).state.number ≡ d
  pub founding : (d : ℕ) → (w.seats d).state.founding ≡ founded k.founding
  pub knows : (d : ℕ) → (w.seats d).outstanding ≡ false
      → Knows (founded k.founding) (Known es) (pasts w) d (pasts w d) (w.seats d).state
  pub machine : (d : ℕ) → (w.seats d).outstanding ≡ false → (w.seats d).machine ≡ led_to k w d

-- More events, in which nothing changed.

pub submitted_more : (c : Command) (es : List Event) (e : Event) → Submitted c es → Submitted c (es ++ (e ∷ []))
submitted_more c es e s =
    record {
      director = s.director;
      places = s.places;
      among =
          Contains-append_left es (e ∷ [])
          (record { director = s.director; call = submit c; places = s.places; ending = accepted })
          s.among;
    }

core_more : (f : Membership) (S T : Command → Type 0) (P : ℕ → Past) → ((c : Command) → S c → T c) → Core f S P
    → Core f T P
core_more f S T P more core =
    record {
      lawful = core.lawful;
      owned = core.owned;
      unique = core.unique;
      safe = core.safe;
      chosen = core.chosen;
      known = λ d n b c v. more c (core.known d n b c v);
    }

grows_same : (P : ℕ → Past) → Grows P P
grows_same P d = grew_same (P d)

pub inv_more : (k : Cluster) (es : List Event) (e : Event) (w : World) → Inv k es w → Inv k (es ++ (e ∷ [])) w
inv_more k es e w i =
    let f : Membership = founded k.founding in
    let more : (c : Command) → Known es c → Known (es ++ (e ∷ [])) c = λ c. submitted_more c es e in
    record {
      core = core_more f (Known es) (Known (es ++ (e ∷ []))) (pasts w) more i.core;
      sent = i.sent;
      number = i.number;
      founding = i.founding;
      knows = λ d up.
          knows_grows (pasts w) (pasts w) (grows_same (pasts w)) f (Known es) (Known (es ++ (e ∷ []))) d (pasts w d)
          (w.seats d).state more (i.knows d up);
      machine = i.machine;
    }

-- Another seat for director d, with more writes.

at_seat : (Q : ℕ → Seat → Type 0) (w : World) (d : ℕ) (s : Seat) (ms : List Message) → Q d s
    → ((e : ℕ) → Q e (w.seats e)) → (e : ℕ) → Q e ((with_seat w d s ms).seats e)
at_seat Q w d s ms here there e = go (eqb e d) refl
  where
    go : (t : Bool) → eqb e d ≡ t → Q e (cond t s (w.seats e))
    go true h = subst (λ (n : ℕ). Q n s) (sym (eqb-true e d h)) here
    go false h = there e

pasts_with : (w : World) (d : ℕ) (s : Seat) (ms : List Message)
    → pasts (with_seat w d s ms) ≡ upd (pasts w) d (past_of s)
pasts_with w d s ms =
    fun_ext (λ e.
    elim (eqb e d) as (λ t. past_of (cond t s (w.seats e)) ≡ cond t (past_of s) (pasts w e))
    [ true ↦ refl | false ↦ refl ])

pub pasts_here : (P : ℕ → Past) (d : ℕ) → P ≡ upd P d (P d)
pasts_here P d = fun_ext (λ e. go e (eqb e d) refl)
  where
    go : (e : ℕ) (t : Bool) → eqb e d ≡ t → P e ≡ cond t (P d) (P e)
    go e true h = ap P (eqb-true e d h)
    go e false h = refl

module _ (k : Cluster) (es : List Event) (w : World) (i : Inv k es w) (d : ℕ) where
  abbrev f : Membership
  f = founded k.founding

  abbrev S : Command → Type 0
  S = Known es

  abbrev P : ℕ → Past
  P = pasts w

  abbrev x : Past
  x = pasts w d

  -- what the new seat must have
  pub record Seated (s : Seat) (ws : List Write) (ms : List Message) : Type 0 where
    pub through : Throughout f S P d x ws
    pub past : past_of s ≡ plus x ws
    pub number : s.state.number ≡ d
    pub founding : s.state.founding ≡ f
    pub knows : s.outstanding ≡ false → Knows f S (upd P d (plus x ws)) d (plus x ws) s.state
    pub machine : s.outstanding ≡ false
        → s.machine ≡ after k.make.rule k.make.start (for_machine (journal_of s).settled)
    pub facts : (m : Message) → Contains ms m → Fact (upd P d (plus x ws)) m

  module _ (s : Seat) (ws : List Write) (ms : List Message) (n : Seated s ws ms) where
    abbrev v : World
    v = with_seat w d s ms

    abbrev R : ℕ → Past
    R = upd P d (plus x ws)

    are : pasts v ≡ R
    are = pasts_with w d s ms ∙ ap (upd P d) n.past

    grown : Grows P R
    grown =
        subst (λ (Q : ℕ → Past). Grows Q R) (sym (pasts_here P d))
        (upd_grows P d x (plus x ws) (through_grew f S P d ws x n.through))

    pub inv_with : Inv k es v
    inv_with =
        record {
          core = subst (Core f S) (sym are) (through_end f S P d ws x n.through);
          sent = λ m h.
              subst (λ (Q : ℕ → Past). Fact Q m) (sym are)
              (⊎_elim (λ o. fact_grows P R grown m (i.sent m o)) (n.facts m) (Contains-append_cases w.sent ms m h));
          number = at_seat (λ e t. t.state.number ≡ e) w d s ms n.number i.number;
          founding = at_seat (λ e t. t.state.founding ≡ f) w d s ms n.founding i.founding;
          knows =
              subst
              (λ (Q : ℕ → Past). (e : ℕ) → (v.seats e).outstanding ≡ false
              → Knows f S Q e (past_of (v.seats e)) (v.seats e).state)
              (sym are)
              (at_seat (λ e t. t.outstanding ≡ false → Knows f S R e (past_of t) t.state) w d s ms
              (λ up. subst (λ (y : Past). Knows f S R d y s.state) (sym n.past) (n.knows up))
              (λ e up. knows_grows P R grown f S S e (P e) (w.seats e).state (λ c h. h) (i.knows e up)));
          machine =
              at_seat
              (λ e t. t.outstanding ≡ false
              → t.machine ≡ after k.make.rule k.make.start (for_machine (journal_of t).settled))
              w d s ms n.machine i.machine;
        }

    pub lists_grow : (e : ℕ) → Begins (settled_list w e) (settled_list v e)
    lists_grow =
        at_seat (λ e t. Begins (settled_list w e) (journal_of t).settled) w d s ms
        (subst (λ (y : Past). Begins (settled_list w d) y.journal.settled) (sym n.past)
        (through_grew f S P d ws x n.through).settled)
        (λ e. begins_same (settled_list w e))
