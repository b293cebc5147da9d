-- The concrete runs, by computation.
use Rattle.std.proofs.Common.{◌≡◌, ℕ, ◌-◌, Bool, true, false, not, ◌&&◌, leb, List, [], ◌∷◌, ◌++◌, length, get_or, Ok, Err, Result, sym, refl, ap, subst, append_assoc, append-nil, arith}
use Rattle.std.specs.List.{Contains}
use Rattle.std.proofs.lemmas.List.Elements.{Contains-get_or}
use Rattle.std.proofs.lemmas.Bool.{and_parts, leb-true, not-true, both_ways}
use Rattle.journal.specs.Meaning.{taken, after, step, wrote}
use Rattle.protocol.specs.declared.messages.Message.{Message}
use Rattle.protocol.specs.declared.refusals.Refusal.{Refusal}
use Rattle.protocol.specs.Messages.{malformed, fetch as nothing}
use Rattle.protocol.specs.Desks.{Outcome, left, both, go_on, quiet, write, send, become, repeat}
use Rattle.protocol.specs.Rings.{marked, next, passed, pass_on}
use Rattle.protocol.specs.Settling.{settle, settle_open, backed, advance, told_settled, catch_up}
use Rattle.protocol.specs.Calls.{submitted, addressed, prepares, stood, lowest_free, may_put, proposal, propose, propose_all}
use Rattle.protocol.specs.Calls.{pumped}
use Rattle.protocol.specs.Hearing.{obey, learns, heard_prepare, heard_promise, outside, vote, heard_accept, heard_acked, heard}
use Rattle.protocol.specs.Refusing.{Call, submit, stand, pump, prod, fetch, hear, restart, refusal, outcome, table_places}
use Rattle.protocol.specs.Replies.{ran}
use Rattle.protocol.specs.Runs.{World, Cluster, Event, accepted, beginning, desk_of, Next, accepts, Happens, Goes}
use Rattle.protocol.specs.Runs.{stays, goes}
use Rattle.protocol.specs.Examples.{Act, calls, hears, director_of, call_in, leads, result, world_after, events_of, three}
use Rattle.protocol.specs.Examples.{settling, changing, removing, Reached, Changed, Removed, RunsThereAre}

is_hear : Call → Bool
is_hear (submit c) = false
is_hear stand = false
is_hear pump = false
is_hear prod = false
is_hear (fetch peer) = false
is_hear (hear m) = true
is_hear restart = false

-- what is heard is a message of a number that was sent
numbered : World → Act → Bool
numbered w (calls d call) = not (is_hear call)
numbered w (hears d n) = leb 1 n && leb n (length w.sent)

is_accepted : Result Outcome Refusal → Bool
is_accepted (Ok o) = true
is_accepted (Err r) = false

-- an act that can be done, and is accepted
may_do : World → Act → Bool
may_do w a =
    leb (director_of a) 31 && not (w.seats (director_of a)).outstanding && numbered w a && is_accepted (result w a)

may_do_all : Cluster → World → List Act → Bool
may_do_all k w [] = true
may_do_all k w (a ∷ rest) = may_do w a && may_do_all k (leads k w (director_of a) (call_in w a) (result w a)) rest

heard_sent : (w : World) (a : Act) → numbered w a ≡ true → (m : Message) → call_in w a ≡ hear m → Contains w.sent m
unfolding numbered is_hear
heard_sent w (calls d call) h m e =
    absurd (both_ways (is_hear call) (not-true (is_hear call) h) (ap is_hear e))
heard_sent w (hears d n) h m e =
    let p = and_parts (leb 1 n) (leb n (length w.sent)) h in
    let low = leb-true 1 n p.0 in
    let high = leb-true n (length w.sent) p.1 in
    let same : get_or w.sent (n - 1) (nothing 0 0 0) ≡ m = cc in
    subst (Contains w.sent) same (Contains-get_or w.sent (n - 1) (nothing 0 0 0) (omega arith))

next_is : (k : Cluster) (w : World) (d : ℕ) (call : Call) (r : Result Outcome Refusal)
    → outcome call table_places (desk_of (w.seats d)) ≡ r → is_accepted r ≡ true
    → Next k.make w d call table_places accepted (leads k w d call r)
unfolding is_accepted
next_is k w d call (Ok o) e h = accepts o e
next_is k w d call (Err r) e h = absurd (both_ways false refl h)

does : (k : Cluster) (w : World) (a : Act) → may_do w a ≡ true
    → Happens k.make w
    (record { director = director_of a; call = call_in w a; places = table_places; ending = accepted })
    (leads k w (director_of a) (call_in w a) (result w a))
unfolding may_do
does k w a h =
    let d : ℕ = director_of a in
    let p = and_parts (leb d 31 && not (w.seats d).outstanding && numbered w a) (is_accepted (result w a)) h in
    let q = and_parts (leb d 31 && not (w.seats d).outstanding) (numbered w a) p.0 in
    let r = and_parts (leb d 31) (not (w.seats d).outstanding) q.0 in (
      record {
        director = leb-true d 31 r.0;
        reaches = λ e. absurd (both_ways (w.seats d).outstanding (not-true (w.seats d).outstanding r.1) e);
        comes = heard_sent w a q.1;
      },
      next_is k w d (call_in w a) (result w a) refl p.1,
    )

does_all : (k : Cluster) (from : World) (acts : List Act) (es : List Event) (w : World) → Goes k.make from es w
    → may_do_all k w acts ≡ true → Goes k.make from (es ++ events_of k w acts) (world_after k w acts)
unfolding may_do_all
does_all k from [] es w g h = subst (λ (l : List Event). Goes k.make from l w) (sym (append-nil es)) g
does_all k from (a ∷ rest) es w g h =
    let v : World = leads k w (director_of a) (call_in w a) (result w a) in
    let e : Event = record { director = director_of a; call = call_in w a; places = table_places; ending = accepted } in
    let p = and_parts (may_do w a) (may_do_all k v rest) h in
    subst (λ (l : List Event). Goes k.make from l (world_after k v rest))
    (append_assoc es (e ∷ []) (events_of k v rest))
    (does_all k from rest (es ++ (e ∷ [])) v (goes e g (does k w a p.0)) p.1)

reached : (acts : List Act) (Q : World → Type 0) → may_do_all three (beginning three) acts ≡ true
    → Q (world_after three (beginning three) acts) → Reached acts Q
reached acts Q may holds =
    record { run = does_all three (beginning three) acts [] (beginning three) stays may; holds = holds }

pub runs_there_are : RunsThereAre
unfolding may_do_all may_do numbered is_hear is_accepted outcome refusal malformed left both go_on quiet write send
    become repeat taken after step wrote marked next passed pass_on settle settle_open backed advance told_settled
    catch_up submitted addressed prepares stood lowest_free may_put proposal propose propose_all pumped obey learns
    heard_prepare heard_promise outside vote heard_accept heard_acked heard ran
runs_there_are =
    record {
      settles = reached settling Changed refl (record { lists = (refl, refl, refl); pools = (refl, refl, refl) });
      changes = reached changing Changed refl (record { lists = (refl, refl, refl); pools = (refl, refl, refl) });
      removes = reached removing Removed refl (record { settled = (refl, refl); eighth = refl; ninth = refl });
    }
