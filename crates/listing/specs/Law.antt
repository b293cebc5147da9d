-- What is written is read back.
use Rattle.std.specs.Prelude.{◌≡◌, ℕ, true, List, Ok, Result}
use Rattle.std.specs.List.{All}
use Rattle.command.specs.declared.Command.{Command}
use Rattle.command.specs.Commands.{well_formed, Sized}
use Rattle.command.specs.Members.{valid_chain, founded}
use Rattle.listing.specs.declared.faults.Fault.{Fault}
use Rattle.listing.specs.declared.lists.YearList.{YearList}
use Rattle.listing.specs.Answers.{Tells, list_of}
use Rattle.listing.specs.Writing.{text_of}

-- a command that may stand in a list: well formed, and each field within its width
pub record Listable (c : Command) : Type 0 where
  pub well : well_formed c ≡ true
  pub sized : Sized c

-- where the text is the written form of a valid chain and of commands that may stand in a list, just these are read
abbrev pub ReadsBack : List ℕ → Result YearList Fault → Type 0
ReadsBack text r =
    (ms : List ℕ) (cs : List Command) → valid_chain ms ≡ true → All Listable cs → text ≡ text_of ms cs →
    Tells list_of r (Ok (record { chain = founded ms; commands = cs }))
