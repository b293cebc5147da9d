-- What a step of the code leaves: the contracts of the building blocks.
use Rattle.std.specs.Prelude.{◌≡◌, ℕ, ◌+◌, List, [], ◌∷◌, ◌++◌, length, slice_set}
use Rattle.journal.specs.declared.writes.Write.{Write}
use Rattle.machine.specs.Rules.{Rule}
use Rattle.protocol.specs.declared.messages.Message.{Message}
use Rattle.protocol.specs.Desks.{Outcome, Step, left}
use Rattle.protocol.specs.Desks as desks
use Rattle.protocol.specs.Replies.{ran, settled_in, Ran}
use Rattle.journal.specs.declared.Journal.{Ghosts}
use Rattle.steps.specs.declared.desks.Desk.{Desk}
use Rattle.steps.specs.Views.{view}

-- a director at work as the definitions have it: its memory and the meaning of its journal
abbrev pub at : {J M : Type 0} {G : Ghosts J} → Desk J M G → desks.Desk
at {G = g} d = record { state = view d.memory.now; journal = g.meaning d.journal.now }

-- from desk d a step with this outcome was taken: the desk after it, the list behind the journal with the writes at its
-- end, and the machine's state and last answer after what was settled
pub record Did
    (rule : Rule)
    (d : desks.Desk)
    (o : Outcome)
    (after : desks.Desk)
    (behind behind' : List Write → Type 0)
    (ran-before ran-after : Ran)
    : Type 0 where
  pub desk : after ≡ left d o
  pub history : (ws : List Write) → behind ws → behind' (ws ++ o.writes)
  pub machine : ran-after ≡ ran rule ran-before (settled_in o.writes)

-- memory, journal and machine are still the ones that were lent
pub record SameLenders {J M : Type 0} {G : Ghosts J} (before after : Desk J M G) : Type 0 where
  pub memory : after.memory.ghost_name ≡ before.memory.ghost_name
  pub journal : after.journal.ghost_name ≡ before.journal.ghost_name
  pub machine : after.machine.ghost_name ≡ before.machine.ghost_name

-- the code took this step, with a machine of this state and rule
pub record Took
    {J M : Type 0}
    {G : Ghosts J}
    (state : M → List ℕ)
    (rule : Rule)
    (step : Step)
    (before after : Desk J M G)
    : Type 0 where
  pub did : Did rule (at before) (step (at before)) (at after)
      (G.behind before.journal.now) (G.behind after.journal.now)
      (state before.machine.now, before.answer) (state after.machine.now, after.answer)
  pub lenders : SameLenders before after

-- the table with messages from place k on
abbrev pub laid : List Message → ℕ → List Message → List Message
laid table k [] = table
laid table k (m ∷ ms) = laid (slice_set table k m) (k + 1) ms

-- these messages were written behind the first k
pub record Sent (ms before : List Message) (k : ℕ) (after : List Message) (next : ℕ) : Type 0 where
  pub count : next ≡ k + length ms
  pub table : after ≡ laid before k ms
