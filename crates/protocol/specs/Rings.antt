-- Whom a director passes a slot on to.
use Rattle.std.specs.Prelude.{ℕ, ◌+◌, ◌-◌, Bool, cond, not, ◌&&◌, ◌||◌, List, [], ◌∷◌, ◌++◌, drop, Some, None, Option, ◌==◌, find}
use Rattle.std.specs.List.{range_with_len, list_any, before_first, after_first}
use Rattle.command.specs.declared.Command.{Command}
use Rattle.command.specs.declared.sets.DirectorSet.{DirectorSet}
use Rattle.command.specs.Chains.{chain_for}
use Rattle.command.specs.Members.{is_member}
use Rattle.journal.specs.declared.writes.Entry.{Entry}
use Rattle.journal.specs.Windows.{span}
use Rattle.journal.specs.Meaning.{open_of}
use Rattle.protocol.specs.declared.messages.Message.{Message}
use Rattle.protocol.specs.Messages.{is_owner, accept, acked}
use Rattle.protocol.specs.Desks.{Desk, Step, settled_by, me, send}

-- the members of the chain for slot n, as far as this director has settled
abbrev pub chain_of : Desk → ℕ → List ℕ
chain_of d n = (chain_for d.state.founding d.journal.settled n).members

abbrev pub open_at : Desk → ℕ → Entry
open_at d n = open_of d.journal n

-- the slots that are not settled and can have an entry
abbrev pub window : Desk → List ℕ
window d = range_with_len (settled_by d + 1) span

-- the command removes director e
abbrev pub removes : ℕ → Command → Bool
removes e c = c.verb == 2 && c.a == e

-- e is about to leave the chain: an open entry, or one of the last 8 settled commands, removes it
unfoldable pub marked : Desk → ℕ → Bool
marked d e =
    list_any (λ n. removes e (open_at d n).command) (window d)
    || list_any (removes e) (drop (settled_by d - span) d.journal.settled)

-- the other members in the order of the ring, from the one after director d on; none if d is no member
abbrev pub others : ℕ → List ℕ → List ℕ
others d ms = cond (is_member d ms) (after_first (λ m. m == d) ms ++ before_first (λ m. m == d) ms) []

-- next for slot n: the first other in the ring that owns the entry's ballot or is not marked
unfoldable pub next : Desk → ℕ → Option ℕ
next d n = find (λ e. is_owner e (open_at d n).ballot || not (marked d e)) (others (me d) (chain_of d n))

-- what goes to the next one: the set, to the ballot's owner as ACKED, to any other with command and upto as ACCEPT
abbrev pub passed_to : Option ℕ → Desk → ℕ → DirectorSet → ℕ → List Message
passed_to None d n set upto = []
passed_to (Some to) d n set upto =
    cond (is_owner to (open_at d n).ballot) (acked (me d) to (open_at d n).ballot n set)
    (accept (me d) to (open_at d n).ballot n (open_at d n).command set upto)
    ∷ []

unfoldable pub passed : Desk → ℕ → DirectorSet → ℕ → List Message
passed d n set upto = passed_to (next d n) d n set upto

-- pass slot n on
unfoldable pub pass_on : ℕ → DirectorSet → ℕ → Step
pass_on n set upto d = send (passed d n set upto) d
