-- What follows from a step: what the machine does, and what the call answers.
use Rattle.std.specs.Prelude.{ℕ, cond, List, [], ◌∷◌, ◌++◌, length, drop, fold, filter, nat_le, Option, Some, None, unwrap_or}
use Rattle.command.specs.declared.Command.{Command}
use Rattle.journal.specs.declared.writes.Write.{Write}
use Rattle.journal.specs.declared.writes.Write.TheVariants.{Promise, Put, Settle}
use Rattle.machine.specs.Rules.{Rule}
use Rattle.protocol.specs.declared.messages.Message.{Message}
use Rattle.protocol.specs.declared.messages.Reply.{Reply}
use Rattle.protocol.specs.Desks.{Desk, Outcome, left, settled_by}
use Rattle.protocol.specs.Refusing.{Call, is_restart}

-- a make of machine: where it starts, and its rule
pub record Make : Type 0 where
  pub start : List ℕ
  pub rule : Rule

-- the commands that are for the machine, from verb 16 on
abbrev pub for_machine : List Command → List Command
for_machine cs = filter (λ c. nat_le 16 c.verb) cs

-- what a machine came to: its state, and its last answer, if there was one
abbrev pub Ran : Type 0
Ran = List ℕ × Option ℕ

-- after one command that is for it
abbrev pub ran_one : Rule → Ran → Command → Ran
ran_one rule now c = ((rule now.0 c).0, Some (rule now.0 c).1)

-- and after those of a list that are for it
unfoldable pub ran : Rule → Ran → List Command → Ran
ran rule now cs = fold (ran_one rule) now (for_machine cs)

-- the commands that the writes settle
abbrev pub settled_in : List Write → List Command
settled_in [] = []
settled_in (Promise b ∷ ws) = settled_in ws
settled_in (Put n b c ∷ ws) = settled_in ws
settled_in (Settle c ∷ ws) = c ∷ settled_in ws

-- the machine after a call: it runs what the call settles; after a restart, from its start, what is settled in all
abbrev pub machine_after : Make → Call → Desk → List ℕ → Outcome → Ran
machine_after make call d s o =
    cond (is_restart call) (ran make.rule (make.start, None) d.journal.settled)
    (ran make.rule (s, None) (settled_in o.writes))

-- the answer: the messages written, the slots settled now, and the machine's last answer in this call, or 0
abbrev pub reply_of : Make → Call → Desk → List ℕ → Outcome → Reply
reply_of make call d s o =
    record {
      messages = length o.messages;
      settled = settled_by (left d o);
      answer = unwrap_or (machine_after make call d s o).1 0;
    }

-- the table with the messages at its front; the other places stay
abbrev pub filled : List Message → List Message → List Message
filled ms table = ms ++ drop (length ms) table
