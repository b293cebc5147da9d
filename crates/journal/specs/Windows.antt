-- The window rule: an element for each of the eight slots p + 1 to p + 8, where p slots are settled, kept in eight
-- places by slot mod 8. It is the same for every kind of element.
use Rattle.std.specs.Prelude.{ℕ, ◌+◌, ◌%◌, Bool, ◌&&◌, List, nat_le, nat_lt, slice_index_or, slice_set}

-- how many slots a window has
abbrev pub span : ℕ
span = 8

-- slot n is in the window after p settled slots
abbrev pub in_window : ℕ → ℕ → Bool
in_window p n = nat_lt p n && nat_le n (p + span)

-- the place of slot n
abbrev pub place_of : ℕ → ℕ
place_of n = n % span

-- the element of slot n
abbrev pub element_at : {X : Type 0} → X → List X → ℕ → X
element_at blank places n = slice_index_or places (place_of n) blank

-- the places with another element for slot n; a slot that is settled is forgotten by the blank one
abbrev pub put_at : {X : Type 0} → List X → ℕ → X → List X
put_at places n x = slice_set places (place_of n) x
