-- What a line is read as, by the bytes of its first word.
use Rattle.std.proofs.Common.{◌≡◌, ℕ, Bool, true, false, List, ◌∷◌, None, codes, sym, ap, ◌∙◌}
use Rattle.std.specs.Str.{bytes_eq}
use Rattle.listing.specs.Pieces.{words}
use Rattle.listing.specs.Reading.{read_chain, entry_of, chain_of, ended, member_of, change_of, command, some_directors}

-- where q is p, what comparing w with q answered is what comparing w with p answers
pub word_told : (w p q : List ℕ) (t : Bool) → q ≡ p → t ≡ bytes_eq w q → bytes_eq w p ≡ t
word_told w p q t e h = ap (bytes_eq w) (sym e) ∙ sym h

-- the first word is noop: a no-op, and no word may follow
pub entry_noop : (w : List ℕ) (ws : List (List ℕ)) → bytes_eq w (codes "noop") ≡ true →
    entry_of (w ∷ ws) ≡ ended ws (command 0 0 0 0 0)
entry_noop w ws p = rw p

-- the first word is add: verb 1, and the words that follow name its director
pub entry_add : (w : List ℕ) (ws : List (List ℕ)) → bytes_eq w (codes "noop") ≡ false →
    bytes_eq w (codes "add") ≡ true → entry_of (w ∷ ws) ≡ member_of 1 ws
entry_add w ws p q = rw (p, q)

-- the first word is remove: verb 2, and the words that follow name its director
pub entry_remove : (w : List ℕ) (ws : List (List ℕ)) → bytes_eq w (codes "noop") ≡ false →
    bytes_eq w (codes "add") ≡ false → bytes_eq w (codes "remove") ≡ true → entry_of (w ∷ ws) ≡ member_of 2 ws
entry_remove w ws p q s = rw (p, q, s)

-- the first word is change: the words that follow give the fields of the change
pub entry_change : (w : List ℕ) (ws : List (List ℕ)) → bytes_eq w (codes "noop") ≡ false →
    bytes_eq w (codes "add") ≡ false → bytes_eq w (codes "remove") ≡ false → bytes_eq w (codes "change") ≡ true →
    entry_of (w ∷ ws) ≡ change_of ws
entry_change w ws p q s t = rw (p, q, s, t)

-- the first word is none of the four: these words are no entry
pub entry_other : (w : List ℕ) (ws : List (List ℕ)) → bytes_eq w (codes "noop") ≡ false →
    bytes_eq w (codes "add") ≡ false → bytes_eq w (codes "remove") ≡ false → bytes_eq w (codes "change") ≡ false →
    entry_of (w ∷ ws) ≡ None
entry_other w ws p q s t = rw (p, q, s, t)

-- the first word is chain: the words that follow name the directors, one at least
pub chain_from : (line w : List ℕ) (all ws : List (List ℕ)) → all ≡ words line → all ≡ w ∷ ws →
    bytes_eq w (codes "chain") ≡ true → read_chain line ≡ some_directors ws
unfolding read_chain
chain_from line w all ws p q t = ap chain_of (sym p ∙ q) ∙ rw t

-- the first word is not chain: the line is no chain
pub chain_other : (line w : List ℕ) (all ws : List (List ℕ)) → all ≡ words line → all ≡ w ∷ ws →
    bytes_eq w (codes "chain") ≡ false → read_chain line ≡ None
unfolding read_chain
chain_other line w all ws p q t = ap chain_of (sym p ∙ q) ∙ rw t
