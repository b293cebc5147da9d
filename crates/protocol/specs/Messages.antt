-- Messages: their kinds, who owns a ballot, what each kind carries, and which messages are malformed.
use Rattle.std.specs.Prelude.{◌≡◌, ℕ, ◌%◌, Bool, true, false, cond, not, ◌||◌, List, replicate, Some, None, Option, Result, MatchResult, ◌==◌, nat_lt}
use Rattle.std.specs.List.{list_any}
use Rattle.command.specs.declared.Command.{Command}
use Rattle.command.specs.declared.sets.DirectorSet.{DirectorSet}
use Rattle.command.specs.Commands.{well_formed}
use Rattle.journal.specs.declared.writes.Entry.{Entry}
use Rattle.journal.specs.Meaning.{noop, blank}
use Rattle.protocol.specs.declared.kinds.Kind.{Kind}
use Rattle.protocol.specs.declared.kinds.Kind.TheVariants.{Prepare, Promise, Accept, Acked, Learn, Fetch}
use Rattle.protocol.specs.declared.kinds.UnknownKind.{UnknownKind}
use Rattle.protocol.specs.declared.messages.Message.{Message}

-- the number of each kind
abbrev pub kind_number : Kind → ℕ
kind_number Prepare = 1
kind_number Promise = 2
kind_number Accept = 3
kind_number Acked = 4
kind_number Learn = 5
kind_number Fetch = 6

-- the kind of a number
abbrev pub kind_of : ℕ → Option Kind
kind_of n =
    cond (n == 1) (Some Prepare)
    (cond (n == 2) (Some Promise)
    (cond (n == 3) (Some Accept)
    (cond (n == 4) (Some Acked) (cond (n == 5) (Some Learn) (cond (n == 6) (Some Fetch) None)))))

-- the result is the kind of this number, or an error with a number that is no kind's
abbrev pub Decodes : ℕ → Result Kind UnknownKind → Type 0
Decodes n r = MatchResult r (λ kind. kind_of n ≡ Some kind) (λ e. (e.0 ≡ n) × (kind_of n ≡ None))

-- the director that owns a ballot
abbrev pub owner : ℕ → ℕ
owner b = b % 32

abbrev pub nobody : DirectorSet
nobody = record { bits = 0 }

abbrev pub blanks : List Entry
blanks = replicate 8 blank

-- What each kind carries. Fields that a kind does not use are 0 or blank.

-- with no more than a ballot and a slot
abbrev pub plain : Kind → ℕ → ℕ → ℕ → ℕ → Message
plain kind from to b n =
    record {
      kind = kind_number kind;
      from = from;
      to = to;
      ballot = b;
      slot = n;
      command = noop;
      set = nobody;
      upto = 0;
      entries = blanks;
    }

-- asks to promise the ballot, and to tell of the slots from s on
abbrev pub prepare : ℕ → ℕ → ℕ → ℕ → Message
prepare from to b s = plain Prepare from to b s

-- promises the ballot, with the open entries of the slots s to s + 7
abbrev pub promise : ℕ → ℕ → ℕ → ℕ → List Entry → Message
promise from to b s es = record (plain Promise from to b s) { entries = es }

-- asks to put the command into slot n; those of the set did, and the owner of the ballot has settled the slots up to u
abbrev pub accept : ℕ → ℕ → ℕ → ℕ → Command → DirectorSet → ℕ → Message
accept from to b n c set u = record (plain Accept from to b n) { command = c; set = set; upto = u }

-- tells the ballot's owner that those of the set put slot n
abbrev pub acked : ℕ → ℕ → ℕ → ℕ → DirectorSet → Message
acked from to b n set = record (plain Acked from to b n) { set = set }

-- tells the command that is settled in slot n
abbrev pub learn : ℕ → ℕ → ℕ → Command → Message
learn from to n c = record (plain Learn from to 0 n) { command = c }

-- asks for the settled commands from slot n on
abbrev pub fetch : ℕ → ℕ → ℕ → Message
fetch from to n = plain Fetch from to 0 n

-- Malformed messages.

-- the sender is no director, or the hearer itself
abbrev pub odd_sender : ℕ → Message → Bool
odd_sender hearer m = nat_lt 31 m.from || m.from == hearer

-- no journal has such a slot
abbrev pub odd_slot : Message → Bool
odd_slot m = m.slot == 0 || nat_lt 60000 m.slot

abbrev pub odd_command : Command → Bool
odd_command c = not (well_formed c)

-- an entry of a PROMISE with an ill-formed command, or with a ballot above the promised one
abbrev pub odd_entry : ℕ → Entry → Bool
odd_entry b e = odd_command e.command || nat_lt b e.ballot

abbrev pub is_owner : ℕ → ℕ → Bool
is_owner d b = owner b == d

-- what is wrong in a message of this kind: a ballot of 0 where it has one, an ill-formed command, a PREPARE that its
-- owner did not send, an ACCEPT that the hearer owns, a PROMISE or an ACKED that the hearer does not own
abbrev pub odd_as : Option Kind → ℕ → Message → Bool
odd_as None hearer m = true
odd_as (Some Prepare) hearer m = m.ballot == 0 || not (is_owner m.from m.ballot)
odd_as (Some Promise) hearer m =
    (m.ballot == 0) || list_any (odd_entry m.ballot) m.entries || not (is_owner hearer m.ballot)
odd_as (Some Accept) hearer m = m.ballot == 0 || odd_command m.command || is_owner hearer m.ballot
odd_as (Some Acked) hearer m = m.ballot == 0 || not (is_owner hearer m.ballot)
odd_as (Some Learn) hearer m = odd_command m.command
odd_as (Some Fetch) hearer m = false

unfoldable pub malformed : ℕ → Message → Bool
malformed hearer m = odd_sender hearer m || odd_slot m || odd_as (kind_of m.kind) hearer m
