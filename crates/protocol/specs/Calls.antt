-- The seven calls of a director, and what each of them does where it is not refused. What hearing a message does is in
-- Hearing.antt, and when a call is refused in Refusing.antt.
use Rattle.std.specs.Prelude.{◌≡◌, ℕ, ◌+◌, ◌*◌, ◌/◌, ◌<◌, ◌≤◌, Bool, cond, not, ◌&&◌, List, [], ◌∷◌, ◌++◌, map, drop, Some, None, filter, Option, ◌==◌, nat_le, nat_lt, find, is_some, slice_get}
use Rattle.std.specs.List.{flat_map, range_with_len, list_any}
use Rattle.command.specs.declared.Command.{Command}
use Rattle.command.specs.declared.sets.DirectorSet.{DirectorSet}
use Rattle.command.specs.Members.{is_member}
use Rattle.command.specs.Quorums.{enough}
use Rattle.command.specs.Sets.{has}
use Rattle.journal.specs.declared.writes.Entry.{Entry}
use Rattle.journal.specs.declared.writes.Write.TheVariants.{Promise, Put}
use Rattle.journal.specs.Windows.{span, element_at}
use Rattle.journal.specs.Meaning.{blank}
use Rattle.protocol.specs.declared.messages.Message.{Message}
use Rattle.protocol.specs.Messages.{owner, prepare, fetch}
use Rattle.protocol.specs.Desks.{Role, following, standing, Desk, Step, ◌▸◌, quiet, write, send, become, repeat}
use Rattle.protocol.specs.Desks.{settled_by, promised, me, itself, ack_of, with_role, with_ack, cleared}
use Rattle.protocol.specs.Rings.{chain_of, open_at, window, passed, pass_on}
use Rattle.protocol.specs.Settling.{advance}

-- Submit: the command goes to the end of the line.

abbrev pub lengthened : Command → Role → Role
lengthened c following = following
lengthened c (standing q line reports) = standing q (line ++ (c ∷ [])) reports

unfoldable pub submitted : Command → Step
submitted c = become (λ s. with_role (lengthened c s.role) s)

-- Stand: the lowest own ballot above the promised one is promised; the director stands, with itself as the only
-- promiser, an empty line, and its own open entries as reports; and it asks for promises.

-- the lowest ballot above b that director d owns
abbrev pub next_ballot : ℕ → ℕ → ℕ
next_ballot d b = cond (nat_lt b (b / 32 * 32 + d)) (b / 32 * 32 + d) (b / 32 * 32 + 32 + d)

-- it is such a ballot, and no lower one is
pub record LowestOwn (d b : ℕ) : Type 0 where
  pub higher : b < next_ballot d b
  pub own : owner (next_ballot d b) ≡ d
  pub lowest : (c : ℕ) → b < c → owner c ≡ d → next_ballot d b ≤ c

abbrev pub leading : Desk → Role
leading d = standing (itself d) [] d.journal.places

-- e is another director and a member for any slot of the window
unfoldable pub addressed : Desk → ℕ → Bool
addressed d e = not (e == me d) && list_any (λ n. is_member e (chain_of d n)) (window d)

-- PREPARE for the next slot to those whom the test names, ascending
unfoldable pub prepares : (ℕ → Bool) → Desk → List Message
prepares named d = map (λ e. prepare (me d) e (promised d) (settled_by d + 1)) (filter named (range_with_len 0 32))

unfoldable pub stood : Step
stood =
    (λ d. write (Promise (next_ballot (me d) (promised d))) d)
    ▸ (λ d. become (with_role (leading d)) d)
    ▸ (λ d. send (prepares (addressed d) d) d)

-- Pump: as long as there is a proposal, it is put and passed on. Then the director advances.

-- the lowest slot of the window without an entry of the promised ballot
unfoldable pub lowest_free : Desk → Option ℕ
lowest_free d = find (λ n. not ((open_at d n).ballot == promised d)) (window d)

abbrev pub promisers : Role → DirectorSet
promisers following = record { bits = 0 }
promisers (standing q line reports) = q

-- slot n is within the capacity, this director is a member for it, and those that promised are enough for it
unfoldable pub may_put : Desk → ℕ → Bool
may_put d n =
    nat_le n d.journal.capacity && is_member (me d) (chain_of d n)
    && enough (chain_of d n) (promisers d.state.role).bits

-- nothing is reported for slot n
abbrev pub is_unreported : ℕ → List Entry → Bool
is_unreported n reports = (element_at blank reports n).ballot == 0

-- the command for slot n: the reported one, else the first of the line
abbrev pub command_for : ℕ → Role → Option Command
command_for n following = None
command_for n (standing q line reports) =
    cond (is_unreported n reports) (slice_get line 0) (Some (element_at blank reports n).command)

-- which leaves the line if it stood there
abbrev pub fed : ℕ → Role → Role
fed n following = following
fed n (standing q line reports) = standing q (cond (is_unreported n reports) (drop 1 line) line) reports

-- a slot and the command that is to be put there
pub record Proposal : Type 0 where
  pub slot : ℕ
  pub command : Command

abbrev pub proposing : ℕ → Option Command → Option Proposal
proposing n None = None
proposing n (Some c) = Some (record { slot = n; command = c })

abbrev pub proposal_for : Option ℕ → Desk → Option Proposal
proposal_for None d = None
proposal_for (Some n) d = cond (may_put d n) (proposing n (command_for n d.state.role)) None

unfoldable pub proposal : Desk → Option Proposal
proposal d = proposal_for (lowest_free d) d

-- put the command with the promised ballot, with itself as the one that acknowledges it, and pass it on
unfoldable pub propose : Proposal → Step
propose x d =
    (write (Put x.slot (promised d) x.command)
    ▸ become (λ s. with_role (fed x.slot s.role)
    (with_ack x.slot (record { ballot = promised d; set = itself d }) s))
    ▸ pass_on x.slot (itself d) (settled_by d))
    d

abbrev pub propose_any : Option Proposal → Step
propose_any None = quiet
propose_any (Some x) = propose x

unfoldable pub propose_all : Step
propose_all = repeat (λ d. is_some (proposal d)) (λ d. propose_any (proposal d) d) span

unfoldable pub pumped : Step
pumped = propose_all ▸ advance

-- Prod: a director that stands asks again for the promises that it lacks, and any director passes its open entries of
-- the promised ballot on again.

abbrev pub asked_again : Role → Desk → List Message
asked_again following d = []
asked_again (standing q line reports) d = prepares (λ e. addressed d e && not (has q.bits e)) d

-- the acknowledgements of the promised ballot for slot n, else itself alone
abbrev pub known_set : Desk → ℕ → DirectorSet
known_set d n = cond ((ack_of d.state n).ballot == promised d) (ack_of d.state n).set (itself d)

abbrev pub passed_again : Desk → ℕ → List Message
passed_again d n =
    cond ((open_at d n).ballot == promised d && nat_le 1 (promised d)) (passed d n (known_set d n) 0) []

unfoldable pub ask_again : Step
ask_again d = send (asked_again d.state.role d) d

unfoldable pub send_again : Step
send_again d = send (flat_map (passed_again d) (window d)) d

unfoldable pub prodded : Step
prodded = ask_again ▸ send_again

-- Fetch: ask a director for what is settled from the next slot on.

unfoldable pub fetched : ℕ → Step
fetched peer d = send (fetch (me d) peer (settled_by d + 1) ∷ []) d

-- Restart: only the number, the founding chain and the journal are left.

unfoldable pub restarted : Step
restarted = become cleared
