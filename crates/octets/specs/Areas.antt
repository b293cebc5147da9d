-- Parts of an area of bytes.
use Rattle.std.specs.Prelude.{ℕ, ◌+◌, List, ◌++◌, length, take, drop}

-- the n bytes from offset i on
abbrev pub part : ℕ → ℕ → List ℕ → List ℕ
part i n bs = take n (drop i bs)

-- the area with these bytes written over it from offset i on; all others stay
abbrev pub over : List ℕ → ℕ → List ℕ → List ℕ
over area i bs = take i area ++ (bs ++ drop (i + length bs) area)
