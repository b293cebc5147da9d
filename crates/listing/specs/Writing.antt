-- How a list is written.
use Rattle.std.specs.Prelude.{ℕ, List, [], ◌∷◌, ◌++◌, Some, None, Option, codes}
use Rattle.command.specs.declared.Command.{Command}
use Rattle.command.specs.declared.verbs.Verb.{Verb}
use Rattle.command.specs.declared.verbs.Verb.TheVariants.{Noop, Add, Remove, Change}
use Rattle.command.specs.Commands.{verb_of}
use Rattle.listing.specs.Numbers.{decimal_of}

-- each number after a space
abbrev pub spaced : List ℕ → List ℕ
spaced [] = []
spaced (n ∷ ns) = 32 ∷ decimal_of n ++ spaced ns

-- the first line, without its end
abbrev pub chain_line : List ℕ → List ℕ
chain_line ms = codes "chain" ++ spaced ms

-- the line of a command of this kind, without its end; where the kind uses no other field, none is written
abbrev pub line_for : Option Verb → Command → List ℕ
line_for (Some Noop) c = codes "noop"
line_for (Some Add) c = codes "add" ++ spaced (c.a ∷ [])
line_for (Some Remove) c = codes "remove" ++ spaced (c.a ∷ [])
line_for (Some Change) c = codes "change" ++ spaced (c.verb ∷ c.origin ∷ c.serial ∷ c.a ∷ c.b ∷ [])
line_for None c = codes "change" ++ spaced (c.verb ∷ c.origin ∷ c.serial ∷ c.a ∷ c.b ∷ [])

-- the line of a command, by the kind that its verb stands for; one that stands for none is written as a change is
abbrev pub line_of : Command → List ℕ
line_of c = line_for (verb_of c.verb) c

-- a line with its end
abbrev pub ending : List ℕ → List ℕ
ending line = line ++ (10 ∷ [])

-- the lines of commands
abbrev pub entries_text : List Command → List ℕ
entries_text [] = []
entries_text (c ∷ cs) = ending (line_of c) ++ entries_text cs

-- a whole list
abbrev pub text_of : List ℕ → List Command → List ℕ
text_of ms cs = ending (chain_line ms) ++ entries_text cs
