-- Cutting bytes at the first mark gives their first piece, and the rest gives the others.
use Rattle.std.proofs.Common.{◌≡◌, ◌≢◌, MatchOption, ℕ, get_or, ◌+◌, ◌-◌, ◌<◌, ◌≤◌, false, eqb, List, [], ◌∷◌, ◌++◌, length, take, drop, Some, None, Option, sym, refl, ap, ◌∙◌, arith}
use Rattle.std.specs.List.{position, position_or_len}
use Rattle.std.proofs.lemmas.List.Splits.{slice_split_first}
use Rattle.std.proofs.lemmas.Bool.Decides.{nat_tests}
use Rattle.std.proofs.lemmas.Bool.{ne_eqb}
use Rattle.std.proofs.lemmas.List.{take_rest, take_more, take_all}
use Rattle.std.specs.Borrow.{Bor}
use Rattle.std.specs.Option.{unwrap_or}
use Rattle.listing.specs.Pieces.{lines, pieces}

-- the first mark is at place k, or there is none
pub piece_some : (m k : ℕ) (bs : List ℕ) → Some k ≡ position (λ b. eqb b m) bs →
    pieces m bs ≡ take k bs ∷ pieces m (take (length bs - (k + 1)) (drop (k + 1) bs))
piece_some m k bs e = grind (arith, nat_tests, slice_split_first, take_rest)

one_piece : (m : ℕ) (bs : List ℕ) → length bs ≤ position_or_len (λ b. eqb b m) bs → pieces m bs ≡ bs ∷ []
one_piece m [] h = refl
one_piece m (b ∷ bs) h = grind (arith, nat_tests, one_piece m bs)

pub piece_none : (m : ℕ) (bs : List ℕ) → None ≡ position (λ b. eqb b m) bs → pieces m bs ≡ bs ∷ []
piece_none m bs e = grind (arith, nat_tests, one_piece)

-- the lines of a text are the pieces of it without its last end
pub lines_none : (bs : List ℕ) → length bs < 1 → lines bs ≡ []
lines_none [] h = refl
lines_none (b ∷ bs) h = absurd (omega arith)

lines_ended : (bs : List ℕ) → lines (bs ++ 10 ∷ []) ≡ pieces 10 bs
lines_ended [] = refl
lines_ended (b ∷ bs) = grind (arith, lines_ended bs)

lines_open : (bs : List ℕ) (b : ℕ) → eqb b 10 ≡ false → lines (bs ++ b ∷ []) ≡ pieces 10 (bs ++ b ∷ [])
lines_open [] b h = grind (arith, nat_tests)
lines_open (c ∷ bs) b h = grind (arith, nat_tests, lines_open bs b)

front_last : (bs : List ℕ) → 1 ≤ length bs →
    bs ≡ take (length bs - 1) bs ++ get_or bs (length bs - 1) 0 ∷ []
front_last bs h =
    let k : length bs - 1 + 1 ≡ length bs = omega arith in
    sym (take_all (length bs - 1 + 1) bs (omega arith)) ∙ take_more bs (length bs - 1) 0 (omega arith)

pub lines_stripped : (text : Bor (List ℕ)) (r : Option (Bor (List ℕ))) → 1 ≤ length text.now →
    MatchOption r ((front : List ℕ) → text.now ≢ front ++ 10 ∷ []) (λ x. text.now ≡ x.now ++ 10 ∷ []) →
    lines text.now ≡ pieces 10 (unwrap_or r text).now
lines_stripped text (Some x) h e = ap lines e ∙ lines_ended x.now
lines_stripped text None h n =
    let k = length text.now - 1 in
    let s = front_last text.now h in
    ap lines s ∙ lines_open (take k text.now) _ (ne_eqb _ _ (λ e. n (take k text.now)
    (s ∙ ap (λ b. take k text.now ++ b ∷ []) e))) ∙ ap (pieces 10) (sym s)

-- a text has no more lines than bytes
pub length_lines : (bs : List ℕ) → length (lines bs) ≤ length bs
length_lines [] = omega arith
length_lines (b ∷ bs) = grind (arith, nat_tests, length_lines bs)
