-- Eight turns are enough for each loop.
use Rattle.std.proofs.Common.{◌≡◌, ℕ, ◌+◌, ◌%◌, ◌<◌, ◌≤◌, Bool, true, false, cond, not, eqb, List, [], ◌∷◌, ◌++◌, length, drop, Some, None, count_by, Option, sym, refl, ap, ◌∙◌, subst, arith, is_some, slice_get}
use Rattle.std.specs.List.{Contains, All}
use Rattle.std.proofs.lemmas.List.Elements.{All-drop, All-weaker, All-contains_itself}
use Rattle.std.proofs.lemmas.List.Sums.{count_by-le-length}
use Rattle.std.proofs.lemmas.Bool.{both_ways, ne_eqb, not_from_false, not_from_true, eqb-false, eq-eqb}
use Rattle.command.specs.declared.Command.{Command}
use Rattle.command.specs.Commands.{well_formed}
use Rattle.journal.specs.declared.writes.Entry.{Entry}
use Rattle.journal.specs.declared.writes.Write.{Write}
use Rattle.journal.specs.declared.writes.Write.TheVariants.{Put}
use Rattle.journal.specs.Windows.{span, element_at}
use Rattle.journal.proofs.Histories.{step_taken}
use Rattle.journal.specs.Meaning.{Meaning, blank, settled_count, open_of, taken, after, step, replay}
use Rattle.protocol.specs.Desks.{State, Desk, Outcome, left, both, go_on, write, become, settled_by}
use Rattle.protocol.specs.Desks.{Role, following, standing, promised, itself, with_role, with_ack, send}
use Rattle.protocol.specs.Rings.{pass_on}
use Rattle.protocol.specs.Calls.{is_unreported, command_for, fed, Proposal, proposal, propose, propose_any, propose_all}
use Rattle.protocol.specs.Loops.{Sound, SoundRole, LoopsEnd}
use Rattle.protocol.proofs.Votes.{Past, Voted, Lawful, promise, count, vote_bounds, open_near, lawful_eight}
use Rattle.protocol.proofs.Going.{desk, write_is}
use Rattle.protocol.proofs.Proposals.{Proposes, proposes as proposes-is}
use Rattle.protocol.proofs.Pumps.{put_taken}
use Rattle.protocol.proofs.Knowing.{KnowsRole}
use Rattle.protocol.proofs.Worlds.{Known, pasts}
use Rattle.protocol.proofs.Agrees.{run_inv}
use Rattle.protocol.specs.Runs.{World, Cluster, Event, Run, desk_of}
use Rattle.protocol.proofs.Growing.{lawful_one, plus_one}
use Rattle.protocol.proofs.Turns.{repeat_ends, fewer, advances, catches_up, Taken, sound_past, sound_eight}

-- Proposing: each turn puts an entry of the promised ballot where there was none.

abbrev other : ℕ → Entry → Bool
other b e = not (eqb e.ballot b)

-- what holds of the desk of a leader that proposes
record LeadsOn (b : ℕ) (d : Desk) : Type 0 where
  past : Taken d.journal
  ballot : promised d ≡ b
  role : SoundRole d d.state.role

command_formed : (d : Desk) (n : ℕ) (c : Command) (r : Role) → settled_by d < n → n ≤ settled_by d + 8 → SoundRole d r
    → command_for n r ≡ Some c → (1 ≤ promised d) × (well_formed c ≡ true)
command_formed d n c following above near s e = absurd (cc)
command_formed d n c (standing q line reports) above near s e = go (is_unreported n reports) refl e
  where
    head : (line : List Command) → All (λ c. well_formed c ≡ true) line → slice_get line 0 ≡ Some c
        → well_formed c ≡ true
    head [] a e = absurd (cc)
    head (i ∷ line) a e = let same : i ≡ c = cc in ap well_formed (sym same) ∙ a 0 i (omega arith)

    go : (t : Bool) → is_unreported n reports ≡ t
        → cond t (slice_get line 0) (Some (element_at blank reports n).command) ≡ Some c
        → (1 ≤ promised d) × (well_formed c ≡ true)
    go true u e = (s.0, head line s.1 e)
    go false u e =
        let ne = eqb-false (element_at blank reports n).ballot 0 u in
        let same : (element_at blank reports n).command ≡ c = cc in
        (s.0, ap well_formed (sym same) ∙ s.2 n above near (omega arith))

role_fed : (d e : Desk) (n : ℕ) (r : Role) → promised d ≡ promised e → settled_by d ≡ settled_by e → SoundRole d r
    → SoundRole e (fed n r)
role_fed d e n following is at s = tt
role_fed d e n (standing q line reports) is at s = (
  subst (λ (b : ℕ). 1 ≤ b) is s.0,
  elim (is_unreported n reports) as (λ t. All (λ c. well_formed c ≡ true) (cond t (drop 1 line) line))
      [ true ↦ All-drop (λ c. well_formed c ≡ true) 1 line s.1 | false ↦ s.1 ],
  λ j above near. s.2 j (omega arith) (omega arith),
)

put_fewer : (m : Meaning) (n : ℕ) (c : Command) → other m.promised (element_at blank m.places n) ≡ true
    → length m.places ≡ 8
    → count_by (other m.promised) (after (Put n m.promised c) m).places < count_by (other m.promised) m.places
unfolding after
put_fewer m n c h eight =
    fewer (other m.promised) m.places (n % 8) (record { ballot = m.promised; command = c }) blank (omega arith) h
    (not_from_true (eqb m.promised m.promised) (eq-eqb m.promised m.promised refl))

put_kept : (m : Meaning) (n b : ℕ) (c : Command)
    → ((after (Put n b c) m).promised ≡ m.promised) × (settled_count (after (Put n b c) m) ≡ settled_count m)
unfolding after
put_kept m n b c = (refl, refl)

-- one proposal, at a desk with this past
module _ (x : Past) (s : State) (lawful : Lawful x) (role : SoundRole (desk x s) s.role) (n : ℕ) (c : Command)
    (is : Proposes (desk x s) n c) where
  abbrev m : Meaning
  m = x.journal

  abbrev w : Write
  w = Put n (promise x) c

  abbrev p : Proposal
  p = record { slot = n; command = c }

  formed : (1 ≤ promise x) × (well_formed c ≡ true)
  formed = command_formed (desk x s) n c s.role is.above is.near role is.command

  is_taken : taken w m ≡ true
  is_taken = put_taken m n c formed.0 is.above is.near is.fits formed.1

  abbrev change : State → State
  change t = with_role (fed n t.role) (with_ack n (record { ballot = promise x; set = itself (desk x s) }) t)

  journal_is : step w m ≡ replay m (propose p (desk x s)).writes
  unfolding propose become pass_on send go_on left both
  journal_is =
      sym (ap (λ (o : Outcome). replay m (o.writes ++ [])) (write_is x s (change s) w (become change) is_taken refl))

  state_is : (propose p (desk x s)).state ≡ change s
  unfolding propose become pass_on send go_on left both write
  state_is = refl

  proposed_turn : LeadsOn (promise x) (left (desk x s) (propose p (desk x s)))
      × (count_by (other (promise x)) (left (desk x s) (propose p (desk x s))).journal.places
      < count_by (other (promise x)) m.places)
  unfolding left
  proposed_turn =
      let e = sym (step_taken w m is_taken) ∙ journal_is in
      let promised_is : (replay m (propose p (desk x s)).writes).promised ≡ promise x =
      ap (λ (k : Meaning). k.promised) (sym e) ∙ (put_kept m n (promise x) c).0 in
      let count_is : settled_count (replay m (propose p (desk x s)).writes) ≡ count x =
      ap settled_count (sym e) ∙ (put_kept m n (promise x) c).1 in
      let free = is.free in
      let near = open_near m n is.above is.near in (
        record {
          past = (plus_one x w, lawful_one x w lawful is_taken, journal_is);
          ballot = promised_is;
          role =
              subst (λ (t : State). SoundRole (left (desk x s) (propose p (desk x s))) t.role) (sym state_is)
              (role_fed (desk x s) (left (desk x s) (propose p (desk x s))) n s.role (sym promised_is)
              (sym count_is) role);
        },
        subst (λ (k : Meaning). count_by (other (promise x)) k.places < count_by (other (promise x)) m.places) e
            (put_fewer m n c
            (subst (λ (z : Entry). other (promise x) z ≡ true) near
            (not_from_false (eqb (open_of m n).ballot (promise x)) (ne_eqb (open_of m n).ballot (promise x) free)))
            (lawful_eight x lawful)),
      )

proposed_any : (b : ℕ) (d : Desk) → LeadsOn b d → is_some (proposal d) ≡ true
    → LeadsOn b (left d (propose_any (proposal d) d))
    × (count_by (other b) (left d (propose_any (proposal d) d)).journal.places < count_by (other b) d.journal.places)
proposed_any b d q h = go (proposal d) refl h
  where
    at : Meaning → Desk
    at m = record { state = d.state; journal = m }

    go : (o : Option Proposal) → proposal d ≡ o → is_some o ≡ true
        → LeadsOn b (left d (propose_any o d))
        × (count_by (other b) (left d (propose_any o d)).journal.places < count_by (other b) d.journal.places)
    go None e h = absurd (both_ways false refl h)
    go (Some p) e h =
        let turned =
        subst
        (λ (m : Meaning). SoundRole (at m) d.state.role → Proposes (at m) p.slot p.command
        → LeadsOn m.promised (left (at m) (propose p (at m)))
        × (count_by (other m.promised) (left (at m) (propose p (at m))).journal.places
        < count_by (other m.promised) m.places))
        q.past.2 (λ role is. proposed_turn q.past.0 d.state q.past.1 role p.slot p.command is)
        q.role (proposes-is d p e) in
        subst
        (λ (c : ℕ). LeadsOn c (left d (propose p d))
        × (count_by (other c) (left d (propose p d)).journal.places < count_by (other c) d.journal.places))
        q.ballot turned

proposes : (d : Desk) → Sound d → is_some (proposal (left d (propose_all d))) ≡ false
unfolding propose_all
proposes d s =
    repeat_ends (λ e. is_some (proposal e)) (λ e. propose_any (proposal e) e) (LeadsOn (promised d))
    (λ e. count_by (other (promised d)) e.journal.places) (proposed_any (promised d)) span d
    (record { past = sound_past d s; ballot = refl; role = s.role })
    (let l = count_by-le-length (other (promised d)) d.journal.places in let e = sound_eight d s in omega arith)

-- In a run every desk is sound.

sound_role : (S : Command → Type 0) (R : ℕ → Past) (n : ℕ) (x : Past) (s : State) (r : Role)
    → ((e j b : ℕ) (c : Command) → Voted (R e) j b c → well_formed c ≡ true)
    → KnowsRole S R n x r → SoundRole (desk x s) r
sound_role S R n x s following bounds k = tt
sound_role S R n x s (standing q line reports) bounds k = (
  k.some,
  All-weaker (Contains line) (λ c. well_formed c ≡ true) (λ c h. (k.waiting c h).1) line (All-contains_itself line),
  λ j above near least.
      let v = k.voted j above near least in
      bounds v.0 j (element_at blank reports j).ballot (element_at blank reports j).command v.1,
)

sound : (k : Cluster) (es : List Event) (w : World) (d : ℕ) → Run k es w → (w.seats d).outstanding ≡ false
    → Sound (desk_of (w.seats d))
sound k es w d run up =
    let i = run_inv k es w run in
    let l = i.core.lawful d in
    let known = i.knows d up in
    record {
      capacity = l.capacity;
      history = (w.seats d).history;
      journal = l.leads;
      eight = known.eight;
      role =
          sound_role (Known es) (pasts w) d (pasts w d) (w.seats d).state (w.seats d).state.role
          (λ e j b c v. (vote_bounds (pasts w e) (i.core.lawful e) j b c v).formed) known.role;
    }

pub loops_end : LoopsEnd
loops_end = record { sound = sound; advances = advances; catches_up = catches_up; proposes = proposes }
