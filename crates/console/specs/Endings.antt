-- How a program ends.
use Rattle.std.specs.Prelude.{ℕ, List, ◌++◌, Option, option_map, Result, Ok, Err, codes}
use Rattle.console.specs.declared.Named.{Named}

-- the status: 0 where all went well, else 1
abbrev pub status_of : {T E : Type 0} → Result T E → ℕ
status_of (Ok _) = 0
status_of (Err _) = 1

-- the text of something said under a name, `name: words`, where `words` gives the text of what is said
abbrev pub named_text : {E : Type 0} → (E → Option (List ℕ)) → Named E → Option (List ℕ)
named_text words n = option_map (λ ws. n.name.now ++ codes ": " ++ ws) (words n.said)
