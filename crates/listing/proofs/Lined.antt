-- The words of a line, and its command.
use Rattle.std.proofs.Common.{◌≡◌, ℕ, List, [], ◌∷◌, None, sym, ap, ◌∙◌}
use Rattle.listing.specs.Pieces.{words}
use Rattle.listing.specs.Reading.{read_entry, entry_of}

pub entry_none : (line : List ℕ) (all : List (List ℕ)) → all ≡ words line → all ≡ [] → read_entry line ≡ None
unfolding read_entry
entry_none line all p q = ap entry_of (sym p ∙ q)

pub entry_from : (line w : List ℕ) (all ws : List (List ℕ)) → all ≡ words line → all ≡ w ∷ ws →
    read_entry line ≡ entry_of (w ∷ ws)
unfolding read_entry
entry_from line w all ws p q = ap entry_of (sym p ∙ q)
