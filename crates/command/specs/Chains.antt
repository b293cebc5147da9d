-- The chain that counts for each slot, from the founding chain and the settled commands.
use Rattle.std.specs.Prelude.{ℕ, ◌-◌, cond, List, [], ◌∷◌, take, Some, None, Ok, Err, Option, Result}
use Rattle.command.specs.declared.Command.{Command}
use Rattle.command.specs.declared.verbs.Verb.{Verb}
use Rattle.command.specs.declared.verbs.Verb.TheVariants.{Noop, Add, Remove, Change}
use Rattle.command.specs.declared.chains.Chain.{Chain}
use Rattle.command.specs.declared.chains.InvalidChain.{InvalidChain}
use Rattle.command.specs.Commands.{verb_of, well_formed}
use Rattle.command.specs.Members.{Membership, valid_chain, founded, added, removed}

-- the refusal's number
abbrev pub refusal_number : InvalidChain → ℕ
refusal_number _ = 11

-- what making a chain answers, by its meaning and its refusal's number
abbrev pub answered : Result Chain InvalidChain → Result Membership ℕ
answered (Ok c) = Ok c
answered (Err e) = Err (refusal_number e)

-- the answer that making a chain of these members owes: the founded chain, or refusal 11 where they are no valid chain
abbrev pub founding : List ℕ → Result Membership ℕ
founding ms = cond (valid_chain ms) (Ok (founded ms)) (Err 11)

-- what a command of this kind makes of the chain
abbrev pub changed : Option Verb → Command → Membership → Membership
changed None c m = m
changed (Some Noop) c m = m
changed (Some Add) c m = added c.a m
changed (Some Remove) c m = removed c.a m
changed (Some Change) c m = m

-- the chain after a settled command; one that is not well formed is never settled, and changes nothing
abbrev pub after : Membership → Command → Membership
after m c = cond (well_formed c) (changed (verb_of c.verb) c m) m

-- the chain after a list of settled commands
abbrev pub after_all : Membership → List Command → Membership
after_all m [] = m
after_all m (c ∷ cs) = after_all (after m c) cs

-- a settled command counts for the slots from 8 after its own on
abbrev pub lag : ℕ
lag = 8

-- the chain for slot n: the founding one after the settled commands 1 to n − 8, none for n ≤ 8
abbrev pub chain_for : Membership → List Command → ℕ → Membership
chain_for start settled n = after_all start (take (n - lag) settled)
