-- Every call that is not refused keeps what is known.
use Rattle.std.proofs.Common.{◌≡◌, ℕ, ◌+◌, ◌≤◌, Bool, true, false, cond, List, [], ◌∷◌, ◌++◌, Some, None, Ok, Err, Option, Result, sym, refl, ap, ◌∙◌, subst, ⊎_elim, arith}
use Rattle.std.specs.List.{All}
use Rattle.std.proofs.lemmas.List.Elements.{All-nil, All-cons, Contains-push_cases}
use Rattle.std.proofs.lemmas.Bool.{not-false}
use Rattle.command.specs.declared.Command.{Command}
use Rattle.command.specs.Commands.{well_formed}
use Rattle.command.specs.Members.{Membership}
use Rattle.protocol.specs.declared.messages.Message.{Message}
use Rattle.protocol.specs.declared.refusals.Refusal.{Refusal}
use Rattle.protocol.specs.declared.refusals.Refusal.TheVariants.{Malformed, Stale, IllFormed}
use Rattle.protocol.specs.Desks.{Role, following, standing, State, Desk, Outcome, send, become, with_role, cleared}
use Rattle.protocol.specs.Messages.{fetch as fetchOf}
use Rattle.protocol.specs.Calls.{lengthened, submitted, fetched, restarted}
use Rattle.protocol.specs.Refusing.{Call, submit, stand, pump, prod, fetch, hear, restart, done, is_restart}
use Rattle.protocol.specs.Refusing.{reasons, topmost, refusal, unless, outcome}
use Rattle.protocol.specs.Runs.{writes_of}
use Rattle.protocol.proofs.Votes.{Past, count}
use Rattle.protocol.proofs.Core.{Core}
use Rattle.protocol.proofs.Writing.{upd}
use Rattle.protocol.proofs.Knowing.{leader_waits, Fact, KnowsRole, Knows}
use Rattle.protocol.proofs.Going.{good_role, desk, Good, Went, went_silent, went_sent, Throughout}
use Rattle.protocol.proofs.Stands.{went_stand, good_cleared}
use Rattle.protocol.proofs.Pumps.{went_pump}
use Rattle.protocol.proofs.Tells.{went_prod}
use Rattle.protocol.proofs.Hears.{went_hear}

-- where no reason is told, none holds
none_holds : (rs : List (Bool × Refusal)) → topmost rs ≡ None → All (λ r. r.0 ≡ false) rs
none_holds [] e = All-nil (λ r. r.0 ≡ false)
none_holds (r ∷ rs) e = go r.0 refl e (none_holds rs)
  where
    go : (t : Bool) → r.0 ≡ t → cond t (Some r.1) (topmost rs) ≡ None
        → (topmost rs ≡ None → All (λ r. r.0 ≡ false) rs)
        → All (λ r. r.0 ≡ false) (r ∷ rs)
    go true h e more = absurd (cc)
    go false h e more = All-cons (λ r. r.0 ≡ false) r rs h (more e)

-- an accepted call had no reason to be refused, and did what it should
pub record Accepted (call : Call) (places : ℕ) (d : Desk) (o : Outcome) : Type 0 where
  pub sound : All (λ r. r.0 ≡ false) (reasons call places d)
  pub is : done call d ≡ o

pub accepted_is : (call : Call) (places : ℕ) (d : Desk) (o : Outcome) → outcome call places d ≡ Ok o
    → Accepted call places d o
unfolding outcome refusal
accepted_is call places d o e = go (topmost (reasons call places d)) refl e
  where
    go : (r : Option Refusal) → topmost (reasons call places d) ≡ r → unless r (done call d) ≡ Ok o
        → Accepted call places d o
    go None h e = record { sound = none_holds (reasons call places d) h; is = cc }
    go (Some r) h e = absurd (cc)

module _ (f : Membership) (S : Command → Type 0) (P : ℕ → Past) (d : ℕ) (x : Past) (s : State) where
  role_submitted : (c : Command) → S c → well_formed c ≡ true → (r : Role) → KnowsRole S (upd P d x) d x r
      → KnowsRole S (upd P d x) d x (lengthened c r)
  role_submitted c known formed following k = tt
  role_submitted c known formed (standing q line reports) k =
      leader_waits S (upd P d x) d x q line (line ++ (c ∷ [])) reports k
      (λ i h.
      ⊎_elim (k.waiting i) (λ e. (subst S e known, ap well_formed (sym e) ∙ formed)) (Contains-push_cases line c i h))

  went_submit : Good f S P d x s → (c : Command) → S c → well_formed c ≡ true
      → Went f S P d x (submitted c (desk x s))
  unfolding submitted become
  went_submit good c known formed =
      let r : Role = lengthened c s.role in
      went_silent f S P d x (with_role r s)
      (good_role f S P d x s r good (role_submitted c known formed s.role good.knows.role))

  went_fetch : Good f S P d x s → (peer : ℕ) → Went f S P d x (fetched peer (desk x s))
  unfolding fetched send
  went_fetch good peer =
      went_sent f S P d x s (fetchOf s.number peer (count x + 1)) good tt

  went_restart : Core f S (upd P d x) → s.number ≡ d → s.founding ≡ f → Went f S P d x (restarted (desk x s))
  unfolding restarted become
  went_restart core number founding =
      went_silent f S P d x (cleared s) (good_cleared f S P d x s core number founding)

  -- what must be known before a call: of a restart only the journals
  pub record Before (call : Call) : Type 0 where
    pub director : d ≤ 31
    pub core : Core f S (upd P d x)
    pub number : s.number ≡ d
    pub founding : s.founding ≡ f
    pub knows : is_restart call ≡ false → Knows f S (upd P d x) d x s
    pub known : (c : Command) → call ≡ submit c → S c
    pub fact : (m : Message) → call ≡ hear m → Fact (upd P d x) m

  went_done : (call : Call) (places : ℕ) → Before call
      → All (λ r. r.0 ≡ false) (reasons call places (desk x s))
      → Went f S P d x (done call (desk x s))
  went_done (submit c) places b sound =
      went_submit (record { core = b.core; knows = b.knows refl }) c (b.known c refl)
      (not-false (well_formed c) (sound 1 (false, IllFormed) (omega arith)))
  went_done stand places b sound =
      went_stand f S P d x s (record { core = b.core; knows = b.knows refl }) b.director
  went_done pump places b sound = went_pump f S P d x s (record { core = b.core; knows = b.knows refl })
  went_done prod places b sound = went_prod f S P d x s (record { core = b.core; knows = b.knows refl })
  went_done (fetch peer) places b sound = went_fetch (record { core = b.core; knows = b.knows refl }) peer
  went_done (hear m) places b sound =
      went_hear f S P d x s (record { core = b.core; knows = b.knows refl }) m
      (sound 2 (false, Malformed) (omega arith)) (sound 3 (false, Stale) (omega arith))
      (b.fact m refl)
  went_done restart places b sound = went_restart b.core b.number b.founding

  -- an accepted call
  pub went_call : (call : Call) (places : ℕ) (o : Outcome) → Before call → outcome call places (desk x s) ≡ Ok o
      → Went f S P d x o
  went_call call places o b e =
      let a = accepted_is call places (desk x s) o e in
      subst (Went f S P d x) a.is (went_done call places b a.sound)

  -- the writes of any call; a refused one has none
  pub through_call : (call : Call) (places : ℕ) → Before call
      → Throughout f S P d x (writes_of (outcome call places (desk x s)))
  through_call call places b = go (outcome call places (desk x s)) refl
    where
      go : (r : Result Outcome Refusal) → outcome call places (desk x s) ≡ r → Throughout f S P d x (writes_of r)
      go (Ok o) e = (went_call call places o b e).through
      go (Err r) e = b.core
