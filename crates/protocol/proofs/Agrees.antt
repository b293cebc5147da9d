-- Directors agree in every run.
use Rattle.std.proofs.Common.{◌≡◌, ℕ, ◌+◌, ◌≤◌, List, [], ◌∷◌, ◌++◌, length, take, sym, refl, ap, ◌∙◌, subst, inl, inr, ⊎_elim, append_assoc, append-nil, arith}
use Rattle.std.specs.List.{Contains}
use Rattle.std.proofs.lemmas.List.Elements.{Contains-push}
use Rattle.std.proofs.lemmas.List.{length-append, nil_from_length, get_or_default}
use Rattle.std.proofs.lemmas.Bool.{cases_lt}
use Rattle.archive.specs.Layout.{layout}
use Rattle.command.specs.declared.Command.{Command}
use Rattle.command.specs.Chains.{chain_for}
use Rattle.command.specs.Members.{Membership, founded}
use Rattle.journal.specs.declared.writes.Write.{Write}
use Rattle.journal.specs.Meaning.{noop}
use Rattle.machine.specs.Rules.{after}
use Rattle.protocol.specs.Lists.{Begins}
use Rattle.protocol.specs.Refusing.{Call, submit}
use Rattle.protocol.specs.Refusing.{outcome}
use Rattle.protocol.specs.Replies.{for_machine}
use Rattle.protocol.specs.Runs.{Seat, desk_of, Cluster, World, new_seat, beginning, Ending, accepted, refused, cut}
use Rattle.protocol.specs.Runs.{Event, seat_after, writes_of, seat_cut, Possible, Next, accepts, refuses}
use Rattle.protocol.specs.Runs.{cuts, Goes, stays, goes, Run}
use Rattle.protocol.specs.Agreement.{settled_list, Level, Agree, DirectorsAgree}
use Rattle.protocol.proofs.Votes.{Past, Voted, has_none}
use Rattle.protocol.proofs.Growing.{begins_same, begins_trans}
use Rattle.protocol.proofs.Core.{Core, Settled, by_some, list_begins}
use Rattle.protocol.proofs.Knowing.{Knows}
use Rattle.protocol.proofs.Stands.{good_cleared}
use Rattle.protocol.proofs.Worlds.{pasts, Known, Inv, inv_more, pasts_here, inv_with, lists_grow}
use Rattle.protocol.proofs.Seats.{seated, seated_cut}

-- the events with one more
abbrev pub with : List Event → ℕ → Call → ℕ → Ending → List Event
with es d call places ending =
    es ++ (record { director = d; call = call; places = places; ending = ending } ∷ [])

-- one event
record Stepped (k : Cluster) (es : List Event) (w v : World) : Type 0 where
  inv : Inv k es v
  grown : (d : ℕ) → Begins (settled_list w d) (settled_list v d)

step : (k : Cluster) (es : List Event) (w : World) → Inv k es w → (d : ℕ) (call : Call) (places : ℕ) → Possible w d call
    → {ending : Ending} {v : World} → Next k.make w d call places ending v
    → Stepped k (with es d call places ending) w v
step k es w i d call places possible (accepts o e) =
    let fs : List Event = with es d call places accepted in
    let j : Inv k fs w = inv_more k es (record { director = d; call = call; places = places; ending = accepted }) w i in
    let submits : (c : Command) → call ≡ submit c → Known fs c = λ c s.
    record {
      director = d;
      places = places;
      among =
          subst (λ (a : Call). Contains fs (record { director = d; call = a; places = places; ending = accepted })) s
          (Contains-push es (record { director = d; call = call; places = places; ending = accepted }));
    } in
    let n = seated k fs w j d call possible submits places o e in
    let t : Seat = seat_after k.make call (w.seats d) o in
    record {
      inv = inv_with k fs w j d t o.writes o.messages n;
      grown = lists_grow k fs w j d t o.writes o.messages n;
    }
step k es w i d call places possible (refuses r e) =
    record {
      inv = inv_more k es (record { director = d; call = call; places = places; ending = refused }) w i;
      grown = λ d. begins_same (settled_list w d);
    }
step k es w i d call places possible (cuts n memory machine recalls) =
    let fs : List Event = with es d call places (cut n) in
    let j : Inv k fs w = inv_more k es (record { director = d; call = call; places = places; ending = cut n }) w i in
    let ws : List Write = take n (writes_of (outcome call places (desk_of (w.seats d)))) in
    let t : Seat = seat_cut (w.seats d) ws memory machine in
    let s = seated_cut k fs w j d call places n memory machine possible recalls in
    record { inv = inv_with k fs w j d t ws [] s; grown = lists_grow k fs w j d t ws [] s }

-- a run from a world of a run
onward : (k : Cluster) (es : List Event) (v : World) → Inv k es v → {fs : List Event} {w : World} → Goes k.make v fs w
    → Stepped k (es ++ fs) v w
onward k es v i stays =
    record {
      inv = subst (λ (l : List Event). Inv k l v) (sym (append-nil es)) i;
      grown = λ d. begins_same (settled_list v d);
    }
onward k es v i (goes {es = fs} {w = u} {v = w} e g h) =
    let before = onward k es v i g in
    let n = step k (es ++ fs) u before.inv e.director e.call e.places h.0 h.1 in
    record {
      inv = subst (λ (l : List Event). Inv k l w) (append_assoc es fs (e ∷ [])) n.inv;
      grown = λ d.
          begins_trans (settled_list v d) (settled_list u d) (settled_list w d) (before.grown d) (n.grown d);
    }

-- New directors have put and settled nothing.
begin : (k : Cluster) → Inv k [] (beginning k)
begin k =
    let f : Membership = founded k.founding in
    let core : Core f (Known []) (pasts (beginning k)) =
    record {
      lawful = λ d. record { capacity = k.capacity d; leads = record { all = refl; end = refl } };
      owned = λ d n b c v. absurd (has_none _ v);
      unique = λ d e n b c i v w. absurd (has_none _ v);
      safe = λ d n b c v. absurd (has_none _ v);
      chosen = λ d n c s. let l = s.within in absurd (omega arith);
      known = λ d n b c v. absurd (has_none _ v);
    } in
    record {
      core = core;
      sent = λ m h. absurd (has_none m h);
      number = λ d. refl;
      founding = λ d. refl;
      knows = λ d up.
          let here = pasts_here (pasts (beginning k)) d in
          subst (λ (Q : ℕ → Past). Knows f (Known []) Q d (pasts (beginning k) d) (new_seat k d).state) (sym here)
          (good_cleared f (Known []) (pasts (beginning k)) d (pasts (beginning k) d) (new_seat k d).state
          (subst (Core f (Known [])) here core) refl refl).knows;
      machine = λ d up. refl;
    }

-- What the invariant says of the lists.
module _ (k : Cluster) (es : List Event) (v w : World) (i : Inv k es w)
    (grown : (d : ℕ) → Begins (settled_list v d) (settled_list w d)) where
  begins : (d e : ℕ) → length (settled_list w d) ≤ length (settled_list w e)
      → Begins (settled_list w d) (settled_list w e)
  begins = list_begins (founded k.founding) (Known es) (pasts w) i.core

  same : (d e : ℕ) → Level w d e → settled_list w d ≡ settled_list w e
  same d e level =
      let b = begins d e (omega arith) in
      let l = ap length b.whole ∙ length-append (settled_list w d) b.rest in
      let none : b.rest ≡ [] = nil_from_length b.rest (omega arith) in
      sym (b.whole ∙ ap (λ (r : List Command). settled_list w d ++ r) none ∙ append-nil (settled_list w d))

  agree : Agree k es v w
  agree =
      record {
        lists = λ d e.
            ⊎_elim (λ l. inl (begins d e (omega arith))) (λ l. inr (begins e d l))
            (cases_lt (length (settled_list w d)) (length (settled_list w e)));
        grown = grown;
        same = same;
        chains = λ d e n level near.
            ap (λ (cs : List Command). chain_for (founded k.founding) cs n) (same d e level);
        files = λ d e level. ap (layout k.founding) (same d e level);
        machine = i.machine;
        machines = λ d e level up there.
            i.machine d up
            ∙ ap (λ (cs : List Command). after k.make.rule k.make.start (for_machine cs)) (same d e level)
            ∙ sym (i.machine e there);
        submitted = λ d c h.
            let s : Settled (pasts w d) (h.0 + 1) c =
            record {
              index = h.0;
              slot = refl;
              within = h.1;
              is = get_or_default (settled_list w d) h.0 noop c h.1 ∙ h.2;
            } in
            let chosen = i.core.chosen d (h.0 + 1) c s in
            let vote = by_some _ (λ e. Voted (pasts w e) (h.0 + 1) chosen.ballot c) chosen.by in
            i.core.known vote.0 (h.0 + 1) chosen.ballot c vote.1;
      }

pub run_inv : (k : Cluster) (es : List Event) (w : World) → Run k es w → Inv k es w
run_inv k es w run = (onward k [] (beginning k) (begin k) run).inv

pub directors_agree : DirectorsAgree
directors_agree k es fs v w run more =
    let last = onward k es v (run_inv k es v run) more in
    agree k (es ++ fs) v w last.inv last.grown
