-- When a call is refused, and what a call answers. Of several reasons the topmost is told.
use Rattle.std.specs.Prelude.{ℕ, ◌+◌, ◌^◌, Bool, true, false, cond, not, ◌&&◌, ◌||◌, List, [], ◌∷◌, length, Some, None, Ok, Err, Option, Result, ◌==◌, nat_le, nat_lt}
use Rattle.command.specs.declared.Command.{Command}
use Rattle.command.specs.Commands.{well_formed}
use Rattle.command.specs.Members.{is_member}
use Rattle.protocol.specs.declared.kinds.Kind.{Kind}
use Rattle.protocol.specs.declared.kinds.Kind.TheVariants.{Prepare, Promise, Accept, Acked, Learn, Fetch}
use Rattle.protocol.specs.declared.messages.Message.{Message}
use Rattle.protocol.specs.declared.refusals.Refusal.{Refusal}
use Rattle.protocol.specs.declared.refusals.Refusal.TheVariants.{ShortTable, NotAddressee, Malformed, Stale, IllFormed}
use Rattle.protocol.specs.declared.refusals.Refusal.TheVariants.{NotStanding, LineFull, JournalFull, NotMember, NoBallot}
use Rattle.protocol.specs.Messages.{kind_of, malformed}
use Rattle.protocol.specs.Desks.{Role, following, standing, Desk, Outcome, Step, settled_by, promised, me}
use Rattle.protocol.specs.Rings.{chain_of}
use Rattle.protocol.specs.Calls.{submitted, stood, pumped, prodded, fetched, restarted, next_ballot}
use Rattle.protocol.specs.Hearing.{heard}

pub data Call : Type 0 where
  submit : (command : Command) → Call
  stand : Call
  pump : Call
  prod : Call
  fetch : (peer : ℕ) → Call
  hear : (message : Message) → Call
  restart : Call

-- what a call does where it is not refused
abbrev pub done : Call → Step
done (submit c) = submitted c
done stand = stood
done pump = pumped
done prod = prodded
done (fetch peer) = fetched peer
done (hear m) = heard m
done restart = restarted

abbrev pub is_restart : Call → Bool
is_restart (submit c) = false
is_restart stand = false
is_restart pump = false
is_restart prod = false
is_restart (fetch peer) = false
is_restart (hear m) = false
is_restart restart = true

-- the places that a message table must have
abbrev pub table_places : ℕ
table_places = 24

-- the most commands that a line holds
abbrev pub line_room : ℕ
line_room = 16

abbrev pub stands : Role → Bool
stands following = false
stands (standing q line reports) = true

abbrev pub line_of : Role → List Command
line_of following = []
line_of (standing q line reports) = line

abbrev pub stands_at : Desk → ℕ → Bool
stands_at d b = stands d.state.role && b == promised d

-- every slot of the journal is settled
abbrev pub is_full : Desk → Bool
is_full d = nat_le d.journal.capacity (settled_by d)

-- a message that came too late: PREPARE and ACCEPT below the promised ballot, PROMISE and ACKED unless the director
-- stands at their ballot, PROMISE for a slot past the next
abbrev pub stale_as : Option Kind → Message → Desk → Bool
stale_as None m d = false
stale_as (Some Prepare) m d = nat_lt m.ballot (promised d)
stale_as (Some Promise) m d = not (stands_at d m.ballot) || nat_lt (settled_by d + 1) m.slot
stale_as (Some Accept) m d = nat_lt m.ballot (promised d)
stale_as (Some Acked) m d = not (stands_at d m.ballot)
stale_as (Some Learn) m d = false
stale_as (Some Fetch) m d = false

-- the reasons to refuse a call on a table of so many places, the topmost first
abbrev pub reasons : Call → ℕ → Desk → List (Bool × Refusal)
reasons (submit c) places d =
    (nat_lt places table_places, ShortTable)
    ∷ (not (well_formed c), IllFormed)
    ∷ (not (stands d.state.role), NotStanding)
    ∷ (nat_le line_room (length (line_of d.state.role)), LineFull)
    ∷ []
reasons stand places d =
    (nat_lt places table_places, ShortTable)
    ∷ (is_full d, JournalFull)
    ∷ (not (is_member (me d) (chain_of d (settled_by d + 1))), NotMember)
    ∷ (nat_le (2 ^ 32) (next_ballot (me d) (promised d)), NoBallot)
    ∷ []
reasons pump places d =
    (nat_lt places table_places, ShortTable)
    ∷ (not (stands d.state.role), NotStanding)
    ∷ (is_full d, JournalFull)
    ∷ []
reasons prod places d = (nat_lt places table_places, ShortTable) ∷ (is_full d, JournalFull) ∷ []
reasons (fetch peer) places d =
    (nat_lt places table_places, ShortTable)
    ∷ (nat_lt 31 peer || (peer == me d), Malformed)
    ∷ (is_full d, JournalFull)
    ∷ []
reasons (hear m) places d =
    (nat_lt places table_places, ShortTable)
    ∷ (not (m.to == me d), NotAddressee)
    ∷ (malformed (me d) m, Malformed)
    ∷ (stale_as (kind_of m.kind) m d, Stale)
    ∷ []
reasons restart places d = (nat_lt places table_places, ShortTable) ∷ []

abbrev pub topmost : List (Bool × Refusal) → Option Refusal
topmost [] = None
topmost (r ∷ rs) = cond r.0 (Some r.1) (topmost rs)

unfoldable pub refusal : Call → ℕ → Desk → Option Refusal
refusal call places d = topmost (reasons call places d)

abbrev pub unless : Option Refusal → Outcome → Result Outcome Refusal
unless None o = Ok o
unless (Some r) o = Err r

-- a call on a table of so many places: what it leaves and brings about, or its refusal
unfoldable pub outcome : Call → ℕ → Desk → Result Outcome Refusal
outcome call places d = unless (refusal call places d) (done call d)
