-- What holds for every machine.
use Rattle.std.specs.Prelude.{◌≡◌, ℕ, List, ◌++◌, fold}
use Rattle.command.specs.declared.Command.{Command}

-- a rule fixes, from the state and a command alone, the next state and the answer
abbrev pub Rule : Type 0
Rule = List ℕ → Command → List ℕ × ℕ

-- the state after a list of commands: a fold of the rule over the list
abbrev pub after : Rule → List ℕ → List Command → List ℕ
after rule s cs = fold (λ t c. (rule t c).0) s cs

-- one list after another leads where both as one list lead
abbrev pub Appended : Rule → Type 0
Appended rule = (s : List ℕ) (xs ys : List Command) → after rule s (xs ++ ys) ≡ after rule (after rule s xs) ys
