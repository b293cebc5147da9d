-- Lists of commands one after another.
use Rattle.std.proofs.Common.{ℕ, List, [], ◌∷◌}
use Rattle.std.proofs.lemmas.List.Sums.{fold-append}
use Rattle.command.specs.declared.Command.{Command}
use Rattle.machine.specs.Rules.{Rule, after, Appended}

pub after_append : (rule : Rule) → Appended rule
after_append rule = fold-append (λ s c. (rule s c).0)

-- what each command keeps, every list of commands keeps
pub lasts : (rule : Rule) (P : List ℕ → Type 0)
    → ((s : List ℕ) (c : Command) → P s → P (rule s c).0)
    → (s : List ℕ) (cs : List Command) → P s → P (after rule s cs)
lasts rule P step s [] h = h
lasts rule P step s (c ∷ cs) h = lasts rule P step (rule s c).0 cs (step s c h)
