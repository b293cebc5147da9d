-- What a director holds, and how what it does is put together from steps.
use Rattle.std.specs.Prelude.{ℕ, zero, suc, Bool, cond, List, [], ◌++◌, replicate}
use Rattle.command.specs.declared.Command.{Command}
use Rattle.command.specs.declared.sets.DirectorSet.{DirectorSet}
use Rattle.command.specs.Members.{Membership}
use Rattle.command.specs.Sets.{with_director}
use Rattle.journal.specs.declared.writes.Entry.{Entry}
use Rattle.journal.specs.declared.writes.Write.{Write}
use Rattle.journal.specs.Windows.{span, element_at, put_at}
use Rattle.journal.specs.Meaning.{Meaning, settled_count, blank, wrote, replay}
use Rattle.protocol.specs.declared.messages.Acknowledged.{Acknowledged}
use Rattle.protocol.specs.declared.messages.Message.{Message}
use Rattle.protocol.specs.Messages.{nobody}

-- A director follows, or it stands as a leader. Standing it has the set of those that promised its ballot, a line of
-- waiting commands, and a window of reports: the entry with the highest ballot that a promise told for each slot.
pub data Role : Type 0 where
  following : Role
  standing : (promisers : DirectorSet) (line : List Command) (reports : List Entry) → Role

-- the memory of a director: its number, the founding chain, its role, and the window of acknowledgements
pub record State : Type 0 where
  pub number : ℕ
  pub founding : Membership
  pub role : Role
  pub acks : List Acknowledged

-- a director at work, with its journal
pub record Desk : Type 0 where
  pub state : State
  pub journal : Meaning

-- what a step leaves and brings about: the director's memory, the writes to the journal in their order, the messages in
-- theirs
pub record Outcome : Type 0 where
  pub state : State
  pub writes : List Write
  pub messages : List Message

abbrev pub Step : Type 0
Step = Desk → Outcome

-- the desk after a step: the journal is what the writes make of it
unfoldable pub left : Desk → Outcome → Desk
left d o = record { state = o.state; journal = replay d.journal o.writes }

-- one step after another; both write and send in their order
unfoldable pub both : Outcome → Outcome → Outcome
both o p = record { state = p.state; writes = o.writes ++ p.writes; messages = o.messages ++ p.messages }

unfoldable pub go_on : Desk → Outcome → Step → Outcome
go_on d o next = both o (next (left d o))

infixl 20 ◌▸◌
abbrev pub ◌▸◌ : Step → Step → Step
(first ▸ next) d = go_on d (first d) next

-- The single steps.

unfoldable pub quiet : Step
quiet d = record { state = d.state; writes = []; messages = [] }

unfoldable pub write : Write → Step
write w d = record { state = d.state; writes = wrote w d.journal; messages = [] }

unfoldable pub send : List Message → Step
send ms d = record { state = d.state; writes = []; messages = ms }

unfoldable pub become : (State → State) → Step
become change d = record { state = change d.state; writes = []; messages = [] }

-- a step if the test holds, else another
abbrev pub choose : (Desk → Bool) → Step → Step → Step
choose test one other d = cond (test d) one other d

-- a step for as long as the test holds, at most so many times
unfoldable pub repeat : (Desk → Bool) → Step → ℕ → Step
repeat test turn zero = quiet
repeat test turn (suc k) = choose test (turn ▸ repeat test turn k) quiet

-- What is read off a desk, and changed in a director's memory.

-- how many slots are settled
abbrev pub settled_by : Desk → ℕ
settled_by d = settled_count d.journal

abbrev pub me : Desk → ℕ
me d = d.state.number

-- the ballot that is promised
abbrev pub promised : Desk → ℕ
promised d = d.journal.promised

-- the set of this director alone
abbrev pub itself : Desk → DirectorSet
itself d = record { bits = with_director 0 (me d) }

-- the acknowledgements of a slot of which nothing is known
abbrev pub none : Acknowledged
none = record { ballot = 0; set = nobody }

-- the acknowledgements of slot n
abbrev pub ack_of : State → ℕ → Acknowledged
ack_of s n = element_at none s.acks n

abbrev pub with_role : Role → State → State
with_role r s = record s { role = r }

abbrev pub with_ack : ℕ → Acknowledged → State → State
with_ack n a s = record s { acks = put_at s.acks n a }

-- a director that stops standing has no promisers, line and reports any more
abbrev pub stopped : State → State
stopped s = with_role following s

-- without what was known of slot n: a settled slot leaves both windows
abbrev pub reports_without : ℕ → Role → Role
reports_without n following = following
reports_without n (standing q line reports) = standing q line (put_at reports n blank)

abbrev pub forget : ℕ → State → State
forget n s = with_ack n none (with_role (reports_without n s.role) s)

-- all that a director knows but for its journal is gone, save its number and the founding chain
abbrev pub cleared : State → State
cleared s = record s { role = following; acks = replicate span none }
