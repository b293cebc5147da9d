-- What a verb's number tells.
use Rattle.std.specs.Prelude.{◌≡◌, ℕ, Some, None, Result, MatchResult}
use Rattle.command.specs.declared.verbs.Verb.{Verb}
use Rattle.command.specs.declared.verbs.UnknownVerb.{UnknownVerb}
use Rattle.command.specs.Commands.{verb_of}

-- the answer is the kind of change that the number stands for, or an error with the number where it stands for none
abbrev pub TellsVerb : ℕ → Result Verb UnknownVerb → Type 0
TellsVerb n r = MatchResult r (λ v. verb_of n ≡ Some v) (λ e. (e.0 ≡ n) × (verb_of n ≡ None))
