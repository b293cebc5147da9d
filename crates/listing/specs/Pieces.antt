-- How a text falls into lines and a line into words.
use Rattle.std.specs.Prelude.{ℕ, cond, List, [], ◌∷◌, Some, None, Option, ◌==◌}
use Rattle.std.specs.List.{slice_split, onto_first}
use Rattle.std.specs.Borrow.{Bor}

-- the lines of a text: a byte 0A ends a line, and the last line may lack it
abbrev pub lines : List ℕ → List (List ℕ)
lines [] = []
lines (c ∷ cs) = cond (c == 10) ([] ∷ lines cs) (onto_first c (lines cs))

-- the pieces of some bytes: each mark parts two of them, so two marks together have an empty piece between them
abbrev pub pieces : ℕ → List ℕ → List (List ℕ)
pieces mark bs = slice_split (λ b. b == mark) bs

-- the words of a line: each space parts two of them
abbrev pub words : List ℕ → List (List ℕ)
words line = pieces 32 line

-- the pieces that are still to come, where these bytes are left, or none
abbrev pub pieces_left : ℕ → Option (Bor (List ℕ)) → List (List ℕ)
pieces_left mark None = []
pieces_left mark (Some bs) = pieces mark bs.now
