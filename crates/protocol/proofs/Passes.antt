-- What a director passes on is true.
use Rattle.std.proofs.Common.{ℕ, ◌≤◌, Bool, true, false, cond, [], Some, None, Option}
use Rattle.std.specs.List.{All}
use Rattle.std.proofs.lemmas.List.Elements.{All-nil, All-cons}
use Rattle.command.specs.declared.Command.{Command}
use Rattle.command.specs.declared.sets.DirectorSet.{DirectorSet}
use Rattle.command.specs.Members.{Membership}
use Rattle.journal.specs.declared.writes.Entry.{Entry}
use Rattle.journal.specs.Meaning.{open_of}
use Rattle.protocol.specs.Desks.{State, send}
use Rattle.protocol.specs.Messages.{is_owner, accept, acked}
use Rattle.protocol.specs.Rings.{next, passed_to, passed, pass_on}
use Rattle.protocol.proofs.Votes.{Past}
use Rattle.protocol.proofs.Writing.{upd}
use Rattle.protocol.proofs.Knowing.{AllVoted, Told, Fact}
use Rattle.protocol.proofs.Going.{desk, Good, Went, went_still}
use Rattle.protocol.proofs.Advances.{own_vote, entry_vote}

module _ (f : Membership) (S : Command → Type 0) (P : ℕ → Past) (d : ℕ) (x : Past) (s : State)
    (good : Good f S P d x s) (n : ℕ) (some : 1 ≤ (open_of x.journal n).ballot) (set : DirectorSet) (u : ℕ)
    (acks : AllVoted (upd P d x) n (open_of x.journal n).ballot set.bits)
    (told : Told (upd P d x) (open_of x.journal n).ballot u) where
  abbrev entry : Entry
  entry = open_of x.journal n

  fact_to : (to : ℕ) (t : Bool)
      → Fact (upd P d x)
      (cond t (acked s.number to entry.ballot n set)
      (accept s.number to entry.ballot n entry.command set u))
  fact_to to true = acks
  fact_to to false =
      record {
        owned =
            good.core.owned d n entry.ballot entry.command
            (own_vote f S P d x s good n entry.ballot entry.command (entry_vote f S P d x s good n some));
        acks = acks;
        told = told;
      }

  facts_to : (o : Option ℕ) → All (Fact (upd P d x)) (passed_to o (desk x s) n set u)
  facts_to None = All-nil (Fact (upd P d x))
  facts_to (Some to) =
      All-cons (Fact (upd P d x)) _ [] (fact_to to (is_owner to entry.ballot)) (All-nil (Fact (upd P d x)))

  pub passed_facts : All (Fact (upd P d x)) (passed (desk x s) n set u)
  unfolding passed
  passed_facts = facts_to (next (desk x s) n)

  pub went_pass : Went f S P d x (pass_on n set u (desk x s))
  unfolding pass_on send
  went_pass = went_still f S P d x s (passed (desk x s) n set u) good passed_facts
