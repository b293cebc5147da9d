-- Concrete runs, so that what is said of every run is said of something.
use Rattle.std.specs.Prelude.{◌≡◌, ℕ, zero, suc, ◌+◌, ◌-◌, List, [], ◌∷◌, ◌++◌, length, Ok, Err, Result, slice_index_or}
use Rattle.command.specs.declared.Command.{Command}
use Rattle.journal.specs.Meaning.{noop}
use Rattle.machine.specs.Pools.{pool_rule, pool_start, weight}
use Rattle.protocol.specs.declared.refusals.Refusal.{Refusal}
use Rattle.protocol.specs.Desks.{Outcome}
use Rattle.protocol.specs.Messages.{fetch as nothing}
use Rattle.protocol.specs.Refusing.{Call, submit, stand, pump, hear, outcome, table_places}
use Rattle.protocol.specs.Runs.{World, Cluster, Event, accepted, beginning, desk_of, seat_after, with_seat, Run}
use Rattle.protocol.specs.Agreement.{settled_list, chain_at}

-- What is done: a director is called, or hears the message of this number, from 1 in the order of sending.
pub data Act : Type 0 where
  calls : (director : ℕ) (call : Call) → Act
  hears : (director number : ℕ) → Act

abbrev pub director_of : Act → ℕ
director_of (calls d call) = d
director_of (hears d n) = d

abbrev pub call_in : World → Act → Call
call_in w (calls d call) = call
call_in w (hears d n) = hear (slice_index_or w.sent (n - 1) (nothing 0 0 0))

-- the world after an accepted call
abbrev pub leads : Cluster → World → ℕ → Call → Result Outcome Refusal → World
leads k w d call (Ok o) = with_seat w d (seat_after k.make call (w.seats d) o) o.messages
leads k w d call (Err r) = w

abbrev pub result : World → Act → Result Outcome Refusal
result w a = outcome (call_in w a) table_places (desk_of (w.seats (director_of a)))

abbrev pub world_after : Cluster → World → List Act → World
world_after k w [] = w
world_after k w (a ∷ rest) = world_after k (leads k w (director_of a) (call_in w a) (result w a)) rest

abbrev pub events_of : Cluster → World → List Act → List Event
events_of k w [] = []
events_of k w (a ∷ rest) =
    record { director = director_of a; call = call_in w a; places = table_places; ending = accepted }
    ∷ events_of k (leads k w (director_of a) (call_in w a) (result w a)) rest

-- three directors in a chain, with journals of 100 slots and pools
abbrev pub three : Cluster
three =
    record {
      founding = 0 ∷ 1 ∷ 2 ∷ [];
      capacity = λ d. 100;
      make = record { start = pool_start; rule = pool_rule };
    }

abbrev pub change : Command
change = record { verb = 16; origin = 3; serial = 1; a = 5; b = 100 }

abbrev pub remove : ℕ → Command
remove d = record { verb = 2; origin = 0; serial = 0; a = d; b = 0 }

-- Director 0 stands, director 1 promises, and a command goes round the chain.
abbrev pub settling : List Act
settling =
    calls 0 stand ∷ hears 1 1 ∷ hears 0 3 ∷ calls 0 (submit change) ∷ calls 0 pump ∷ hears 1 4 ∷ hears 2 5 ∷ hears 0 6
    ∷ []

-- Director 0 puts a command and its ACCEPT is lost. Director 1 stands, is told of the command, and settles it.
abbrev pub changing : List Act
changing =
    calls 0 stand ∷ hears 1 1 ∷ hears 0 3 ∷ calls 0 (submit change) ∷ calls 0 pump ∷ calls 1 stand ∷ hears 0 5
    ∷ hears 1 7 ∷ calls 1 pump ∷ hears 2 8 ∷ hears 0 9 ∷ hears 1 10 ∷ []

abbrev pub times : ℕ → Act → List Act
times zero a = []
times (suc n) a = a ∷ times n a

-- director d hears so many messages, from this number on
abbrev pub hears_from : ℕ → ℕ → ℕ → List Act
hears_from d n zero = []
hears_from d n (suc k) = hears d n ∷ hears_from d (n + 1) k

-- Slot 1 removes director 1. It is passed over from then on, and from slot 9 on two members count.
abbrev pub removing : List Act
removing =
    calls 0 stand ∷ hears 2 2 ∷ hears 0 3 ∷ calls 0 (submit (remove 1))
    ∷ (times 7 (calls 0 (submit noop)) ++ (calls 0 pump
    ∷ (hears_from 2 4 8 ++ (hears_from 0 12 8
    ++ (calls 0 (submit noop) ∷ calls 0 pump ∷ hears 2 20 ∷ hears 0 21 ∷ [])))))

-- the acts are a run of the three directors, each of them accepted, and lead to a world of which this holds
pub record Reached (acts : List Act) (Q : World → Type 0) : Type 0 where
  pub run : Run three (events_of three (beginning three) acts) (world_after three (beginning three) acts)
  pub holds : Q (world_after three (beginning three) acts)

-- directors 0, 1 and 2 have settled just the change, and their pools have it
pub record Changed (w : World) : Type 0 where
  pub lists : (settled_list w 0 ≡ change ∷ []) × (settled_list w 1 ≡ change ∷ []) × (settled_list w 2 ≡ change ∷ [])
  pub pools : (weight (w.seats 0).machine 5 ≡ 100) × (weight (w.seats 1).machine 5 ≡ 100)
      × (weight (w.seats 2).machine 5 ≡ 100)

-- directors 0 and 2 have settled nine slots; for slot 8 three members count, for slot 9 two
pub record Removed (w : World) : Type 0 where
  pub settled : (length (settled_list w 0) ≡ 9) × (length (settled_list w 2) ≡ 9)
  pub eighth : (chain_at three w 0 8).members ≡ 0 ∷ 1 ∷ 2 ∷ []
  pub ninth : (chain_at three w 0 9).members ≡ 0 ∷ 2 ∷ []

pub record RunsThereAre : Type 0 where
  pub settles : Reached settling Changed
  pub changes : Reached changing Changed
  pub removes : Reached removing Removed
