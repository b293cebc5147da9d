-- What a director does with a message that it does not refuse.
use Rattle.std.specs.Prelude.{ℕ, ◌+◌, ◌-◌, min, Bool, cond, not, ◌&&◌, ◌||◌, ltb, leb, List, [], ◌∷◌, map, Some, None, Option, ◌==◌, bit_or, nat_eq, nat_le, nat_lt}
use Rattle.std.specs.List.{range_with_len}
use Rattle.command.specs.declared.Command.{Command}
use Rattle.command.specs.Members.{is_member}
use Rattle.command.specs.Sets.{with_director}
use Rattle.journal.specs.declared.writes.Entry.{Entry}
use Rattle.journal.specs.declared.writes.Write.TheVariants.{Put, Promise as Promised}
use Rattle.journal.specs.Windows.{span, element_at, put_at}
use Rattle.journal.specs.Meaning.{blank, settled_of}
use Rattle.protocol.specs.declared.kinds.Kind.{Kind}
use Rattle.protocol.specs.declared.kinds.Kind.TheVariants.{Prepare, Promise, Accept, Acked, Learn, Fetch}
use Rattle.protocol.specs.declared.messages.Acknowledged.{Acknowledged}
use Rattle.protocol.specs.declared.messages.Message.{Message}
use Rattle.protocol.specs.Messages.{kind_of, owner, promise, learn}
use Rattle.protocol.specs.Desks.{Role, following, standing, Desk, Step, ◌▸◌, quiet, write, send, become, choose}
use Rattle.protocol.specs.Desks.{settled_by, promised, me, ack_of, with_role, with_ack, stopped}
use Rattle.protocol.specs.Rings.{chain_of, open_at, pass_on}
use Rattle.protocol.specs.Settling.{settle, advance, catch_up}

-- a ballot above the promised one is promised, and standing stops
unfoldable pub obey : ℕ → Step
obey b = choose (λ d. ltb (promised d) b) (write (Promised b) ▸ become stopped) quiet

-- LEARN for the settled slots from s on, at most 8, ascending; none if s is not settled
unfoldable pub learns : ℕ → ℕ → Desk → List Message
learns to s d =
    map (λ n. learn (me d) to n (settled_of d.journal n)) (range_with_len s (min (settled_by d) (s + 7) + 1 - s))

-- PREPARE: obey; then tell the owner what is settled from the slot on, or promise and tell the open entries.

-- the open entries of the slots s to s + 7
abbrev pub entries_from : Desk → ℕ → List Entry
entries_from d s = map (open_at d) (range_with_len s span)

unfoldable pub heard_prepare : Message → Step
heard_prepare m =
    obey m.ballot
    ▸ choose (λ d. leb m.slot (settled_by d))
    (λ d. send (learns (owner m.ballot) m.slot d) d)
    (λ d. send (promise (me d) (owner m.ballot) m.ballot m.slot (entries_from d m.slot) ∷ []) d)

-- PROMISE: its sender is one more promiser; an entry of a slot above p with a higher ballot than the report replaces
-- it.

abbrev pub reported_in : ℕ → ℕ → Entry → List Entry → List Entry
reported_in p n e reports =
    cond (nat_lt p n && nat_lt (element_at blank reports n).ballot e.ballot) (put_at reports n e) reports

-- the entries are those of slot n and the slots after it
abbrev pub reported : ℕ → ℕ → List Entry → List Entry → List Entry
reported p n [] reports = reports
reported p n (e ∷ es) reports = reported p (n + 1) es (reported_in p n e reports)

abbrev pub promised_by : Message → ℕ → Role → Role
promised_by m p following = following
promised_by m p (standing q line reports) =
    standing (record { bits = with_director q.bits m.from }) line (reported p m.slot m.entries reports)

unfoldable pub heard_promise : Message → Step
heard_promise m d = become (λ s. with_role (promised_by m (settled_by d) s.role) s) d

-- ACCEPT: obey; settle what the owner has settled; then tell the owner if the slot is settled, do no more where the
-- director cannot put it, else put it and pass it on with itself among those that acknowledge it.

-- acknowledgements of another ballot are replaced, those of this one joined
abbrev pub acknowledging : ℕ → ℕ → Acknowledged → Acknowledged
acknowledging b set a =
    record { ballot = b; set = record { bits = cond (a.ballot == b) (bit_or a.set.bits set) set } }

-- past the window, past the journal's capacity, or the director is no member for the slot
unfoldable pub outside : ℕ → Desk → Bool
outside n d = nat_lt (settled_by d + span) n || nat_lt d.journal.capacity n || not (is_member (me d) (chain_of d n))

unfoldable pub vote : Message → Step
vote m =
    write (Put m.slot m.ballot m.command)
    ▸ become (λ s. with_ack m.slot
    (acknowledging m.ballot (with_director m.set.bits s.number) (ack_of s m.slot)) s)
    ▸ (λ d. pass_on m.slot (ack_of d.state m.slot).set m.upto d)
    ▸ advance

unfoldable pub heard_accept : Message → Step
heard_accept m =
    obey m.ballot ▸ catch_up m.ballot m.upto
    ▸ choose (λ d. leb m.slot (settled_by d))
    (λ d. send (learn (me d) (owner m.ballot) m.slot (settled_of d.journal m.slot) ∷ []) d)
    (choose (outside m.slot) quiet (vote m))

-- ACKED: where the slot's entry has the promised ballot, the set joins its acknowledgements. Then advance.

unfoldable pub heard_acked : Message → Step
heard_acked m =
    choose (λ d. nat_eq (open_at d m.slot).ballot (promised d))
    (become (λ s. with_ack m.slot (acknowledging m.ballot m.set.bits (ack_of s m.slot)) s))
    quiet
    ▸ advance

-- LEARN: of the next slot. A director that stands and put another command there stops standing. Then settle, and
-- advance.

abbrev pub same_command : Command → Command → Bool
same_command c e =
    (c.verb == e.verb) && c.origin == e.origin && c.serial == e.serial && c.a == e.a
    && c.b == e.b

-- the entry of slot n has the promised ballot and another command
unfoldable pub put_another : ℕ → Command → Desk → Bool
put_another n c d = (open_at d n).ballot == promised d && not (same_command (open_at d n).command c)

unfoldable pub heard_learn : Message → Step
heard_learn m =
    choose (λ d. (m.slot == settled_by d + 1) && nat_le m.slot d.journal.capacity)
    (choose (put_another m.slot m.command) (become stopped) quiet ▸ settle m.command ▸ advance)
    quiet

-- FETCH: tell its sender what is settled from the slot on.

unfoldable pub heard_fetch : Message → Step
heard_fetch m d = send (learns m.from m.slot d) d

abbrev pub heard_as : Option Kind → Message → Step
heard_as None m = quiet
heard_as (Some Prepare) m = heard_prepare m
heard_as (Some Promise) m = heard_promise m
heard_as (Some Accept) m = heard_accept m
heard_as (Some Acked) m = heard_acked m
heard_as (Some Learn) m = heard_learn m
heard_as (Some Fetch) m = heard_fetch m

unfoldable pub heard : Message → Step
heard m = heard_as (kind_of m.kind) m
