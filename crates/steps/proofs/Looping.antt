-- A loop of the code, by what is done and what is left of it.
use Rattle.std.proofs.Common.{◌≡◌, ℕ, zero, suc, ◌<◌, ◌≤◌, Bool, true, false, cond, List, [], length, count_by, sym, refl, ap, ◌∙◌, subst, append_assoc, append-nil, arith}
use Rattle.std.proofs.lemmas.List.Sums.{count_by-le-length}
use Rattle.journal.specs.declared.writes.Write.{Write}
use Rattle.machine.specs.Rules.{Rule}
use Rattle.protocol.specs.Desks.{Desk, Outcome, Step, left, both, go_on, quiet, repeat, ◌▸◌}
use Rattle.protocol.specs.Replies.{ran, Ran}
use Rattle.protocol.specs.Settling.{advance, backed, settle_open}
use Rattle.protocol.proofs.Turns.{some, advance_falls}
use Rattle.steps.specs.Doing.{Did}
use Rattle.steps.proofs.Composing.{did_both, did_still}

both_assoc : (o p q : Outcome) → both (both o p) q ≡ both o (both p q)
unfolding both
both_assoc o p q i =
    record {
      state = q.state;
      writes = append_assoc o.writes p.writes q.writes i;
      messages = append_assoc o.messages p.messages q.messages i;
    }

-- from desk d on, what is done with what is left makes up the whole
pub record Going
    (rule : Rule)
    (d : Desk)
    (whole : Outcome)
    (rest : Step)
    (now : Desk)
    (B C : List Write → Type 0)
    (u v : Ran)
    : Type 0 where
  pub done : Outcome
  pub did : Did rule d done now B C u v
  pub all : both done (rest now) ≡ whole

-- nothing is done yet
pub going_start : (rule : Rule) (d : Desk) (rest : Step) (B : List Write → Type 0) (u : Ran)
    → Going rule d (rest d) rest d B B u u
unfolding both left ran
going_start rule d rest B u =
    record {
      done = record { state = d.state; writes = []; messages = [] };
      did = record { desk = refl; history = λ ws b. subst B (sym (append-nil ws)) b; machine = refl };
      all = refl;
    }

module _ (rule : Rule) (d : Desk) (whole : Outcome) (now : Desk) (B C : List Write → Type 0) (u v : Ran) where
  -- nothing is left
  pub going_end : (rest : Step) → rest now ≡ quiet now → Going rule d whole rest now B C u v
      → Did rule d whole now B C u v
  unfolding quiet
  going_end rest none g =
      subst (λ (o : Outcome). Did rule d o now B C u v) (ap (both g.done) (sym none) ∙ g.all)
      (did_both rule d now now g.done (quiet now) B C C u v v g.did (did_still rule now now.state [] C v))

  -- the test of a repeated step holds, and one turn was taken
  pub going_on : (test : Desk → Bool) (turn : Step) (k : ℕ) (next : Desk) (D : List Write → Type 0) (w : Ran)
      → test now ≡ true → Going rule d whole (repeat test turn (suc k)) now B C u v
      → Did rule now (turn now) next C D v w → Going rule d whole (repeat test turn k) next B D u w
  unfolding repeat go_on
  going_on test turn k next D w e g one =
      record {
        done = both g.done (turn now);
        did = did_both rule d now next g.done (turn now) B C D u v w g.did one;
        all =
            both_assoc g.done (turn now) (repeat test turn k next)
            ∙ ap (λ (x : Desk). both g.done (both (turn now) (repeat test turn k x))) one.desk
            ∙ ap (λ (t : Bool). both g.done (cond t (turn ▸ repeat test turn k) quiet now)) (sym e)
            ∙ g.all;
      }

-- a repeated step whose test fails is quiet
pub repeat_stops : (test : Desk → Bool) (turn : Step) (k : ℕ) (d : Desk) → test d ≡ false
    → repeat test turn k d ≡ quiet d
unfolding repeat
repeat_stops test turn zero d e = refl
repeat_stops test turn (suc k) d e = ap (λ (t : Bool). cond t (turn ▸ repeat test turn k) quiet d) e

-- Advancing from desk d: so many turns are left at most, as many as there are slots of which something is known.
pub record Advancing (rule : Rule) (d now : Desk) (B C : List Write → Type 0) (u v : Ran) : Type 0 where
  pub turns : ℕ
  pub going : Going rule d (advance d) (repeat backed settle_open turns) now B C u v
  pub enough : count_by some now.state.acks ≤ turns

pub advancing_start : (rule : Rule) (d : Desk) (B : List Write → Type 0) (u : Ran) → length d.state.acks ≡ 8
    → Advancing rule d d B B u u
unfolding advance
advancing_start rule d B u eight =
    record {
      turns = 8;
      going = going_start rule d (repeat backed settle_open 8) B u;
      enough = let l = count_by-le-length some d.state.acks in omega arith;
    }

module _ (rule : Rule) (d now : Desk) (B C : List Write → Type 0) (u v : Ran)
    (a : Advancing rule d now B C u v) where
  pub advancing_on : (next : Desk) (D : List Write → Type 0) (w : Ran) → length now.state.acks ≡ 8
      → backed now ≡ true → Did rule now (settle_open now) next C D v w
      → Advancing rule d next B D u w × (count_by some next.state.acks < count_by some now.state.acks)
  advancing_on next D w eight e one = go a.turns a.going a.enough
    where
      less : count_by some next.state.acks < count_by some now.state.acks
      less =
          subst (λ (x : Desk). count_by some x.state.acks < count_by some now.state.acks) (sym one.desk)
          (advance_falls now eight e).1

      go : (k : ℕ) → Going rule d (advance d) (repeat backed settle_open k) now B C u v
          → count_by some now.state.acks ≤ k
          → Advancing rule d next B D u w × (count_by some next.state.acks < count_by some now.state.acks)
      go zero going enough = absurd (omega (arith, less))
      go (suc k) going enough = (
        record {
          turns = k;
          going = going_on rule d (advance d) now B C u v backed settle_open k next D w e going one;
          enough = omega (arith, less);
        },
        less,
      )

  pub advancing_end : backed now ≡ false → Did rule d (advance d) now B C u v
  advancing_end e =
      going_end rule d (advance d) now B C u v (repeat backed settle_open a.turns)
      (repeat_stops backed settle_open a.turns now e) a.going
