-- Runs: directors with their journals and machines, called in any order, with messages lost, repeated and late, and
-- power that fails inside calls. A message that is lost is one that is never heard.
use Rattle.std.specs.Prelude.{◌≡◌, ℕ, ◌≤◌, Bool, true, false, cond, List, [], ◌∷◌, ◌++◌, take, Ok, Err, Result, ◌==◌}
use Rattle.std.specs.List.{Contains}
use Rattle.command.specs.Members.{founded}
use Rattle.journal.specs.declared.writes.Write.{Write}
use Rattle.journal.specs.Meaning.{Meaning, fresh, replay}
use Rattle.protocol.specs.declared.messages.Message.{Message}
use Rattle.protocol.specs.declared.refusals.Refusal.{Refusal}
use Rattle.protocol.specs.Desks.{following, State, Desk, Outcome, cleared}
use Rattle.protocol.specs.Refusing.{Call, hear, is_restart, outcome}
use Rattle.protocol.specs.Replies.{Make, machine_after}

-- A seat: a director with its journal and machine. The journal is told by its capacity and by the list of all writes
-- that it took, the oldest first. From a power cut on, until a restart is accepted, a restart is outstanding.
pub record Seat : Type 0 where
  pub state : State
  pub capacity : ℕ
  pub history : List Write
  pub machine : List ℕ
  pub outstanding : Bool

abbrev pub journal_of : Seat → Meaning
journal_of s = replay (fresh s.capacity) s.history

abbrev pub desk_of : Seat → Desk
desk_of s = record { state = s.state; journal = journal_of s }

-- What a run begins with: a founding chain, a capacity for the journal of each number, and one make of machine.
pub record Cluster : Type 0 where
  pub founding : List ℕ
  pub capacity : ℕ → ℕ
  pub make : Make

-- A world: a seat for each director's number, and all messages that were sent so far. A number that no director has is
-- a seat that is never called.
pub record World : Type 0 where
  pub seats : ℕ → Seat
  pub sent : List Message

-- a director that was just made, with a new journal and a machine at its start
abbrev pub new_seat : Cluster → ℕ → Seat
new_seat k d =
    record {
      state = cleared (record { number = d; founding = founded k.founding; role = following; acks = [] });
      capacity = k.capacity d;
      history = [];
      machine = k.make.start;
      outstanding = false;
    }

abbrev pub beginning : Cluster → World
beginning k = record { seats = new_seat k; sent = [] }

-- How a call ended: with its outcome, with a refusal, or cut by a power failure after the first so many of its writes.
pub data Ending : Type 0 where
  accepted : Ending
  refused : Ending
  cut : (writes : ℕ) → Ending

-- a call on a director, with a message table of so many places
pub record Event : Type 0 where
  pub director : ℕ
  pub call : Call
  pub places : ℕ
  pub ending : Ending

-- the seat after an accepted call
abbrev pub seat_after : Make → Call → Seat → Outcome → Seat
seat_after make call s o =
    record s {
      state = o.state;
      history = s.history ++ o.writes;
      machine = (machine_after make call (desk_of s) s.machine o).0;
      outstanding = false;
    }

-- the writes of a call; a refused one has none
abbrev pub writes_of : Result Outcome Refusal → List Write
writes_of (Ok o) = o.writes
writes_of (Err r) = []

-- The seat after a cut: the first so many writes of the call stand. Of memory and machine nothing is known.
abbrev pub seat_cut : Seat → List Write → State → List ℕ → Seat
seat_cut s ws memory machine =
    record s {
      state = memory;
      history = s.history ++ ws;
      machine = machine;
      outstanding = true;
    }

-- but that the director still has its number and the founding chain
pub record Recalls (before after : State) : Type 0 where
  pub number : after.number ≡ before.number
  pub founding : after.founding ≡ before.founding

abbrev pub with_seat : World → ℕ → Seat → List Message → World
with_seat w d s ms = record { seats = λ e. cond (e == d) s (w.seats e); sent = w.sent ++ ms }

-- The call can be made in this world: while a restart is outstanding, only that reaches the director, and what is heard
-- is a copy of a message that was sent.
pub record Possible (w : World) (d : ℕ) (call : Call) : Type 0 where
  pub director : d ≤ 31
  pub reaches : (w.seats d).outstanding ≡ true → is_restart call ≡ true
  pub comes : (m : Message) → call ≡ hear m → Contains w.sent m

-- one call, from one world to the next
pub data Next (make : Make) (w : World) (d : ℕ) (call : Call) (places : ℕ) : Ending → World → Type 0 where
  accepts : (o : Outcome)
      → outcome call places (desk_of (w.seats d)) ≡ Ok o
      → Next make w d call places accepted (with_seat w d (seat_after make call (w.seats d) o) o.messages)
  refuses : (r : Refusal)
      → outcome call places (desk_of (w.seats d)) ≡ Err r
      → Next make w d call places refused w
  cuts : (k : ℕ) (memory : State) (machine : List ℕ)
      → Recalls (w.seats d).state memory
      → Next make w d call places (cut k)
      (with_seat w d
      (seat_cut (w.seats d) (take k (writes_of (outcome call places (desk_of (w.seats d))))) memory machine)
      [])

abbrev pub Happens : Make → World → Event → World → Type 0
Happens make w e v = Possible w e.director e.call × Next make w e.director e.call e.places e.ending v

-- a run from one world to another by these events, in their order
pub data Goes (make : Make) (from : World) : List Event → World → Type 0 where
  stays : Goes make from [] from
  goes : {es : List Event} {w v : World} (e : Event)
      → Goes make from es w
      → Happens make w e v
      → Goes make from (es ++ (e ∷ [])) v

-- a run of a cluster: it begins with new directors
abbrev pub Run : Cluster → List Event → World → Type 0
Run k es w = Goes k.make (beginning k) es w
