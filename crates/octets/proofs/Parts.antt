-- Parts of an area: what a write leaves in them, and the numbers that are read from them.
use Rattle.std.proofs.Common.{◌≡◌, ℕ, ◌+◌, ◌^◌, ◌<◌, ◌≤◌, List, ◌++◌, length, get_or, take, drop, sym, ap, ◌∙◌, ap₂, arith, w8, Fits}
use Rattle.std.proofs.lemmas.List.Elements.{All-from_get_or, All-take, All-drop}
use Rattle.std.proofs.lemmas.List.{length-take-le, length-drop, take_at, take-take, drop_at, drop-drop, drop-take, take-append-drop}
use Rattle.octets.specs.Areas.{part, over}
use Rattle.octets.specs.Numbers.{le, num}
use Rattle.octets.proofs.Areas.{take_below, drop_over, over_over}
use Rattle.octets.proofs.Numbers.{Bytes, le_num, num_fits}

module _ (area : List ℕ) (i : ℕ) (bs : List ℕ) (fits : i + length bs ≤ length area) where
  -- the part that was written
  pub part_over : (n : ℕ) → length bs ≡ n → part i n (over area i bs) ≡ bs
  part_over n e =
      let rest = drop (i + length bs) area in
      ap (take n) (drop_at (take i area) (bs ++ rest) i (length-take-le i area (omega arith))) ∙ take_at bs rest n e

  -- a part before it and a part after it stay
  pub part_below : (j n : ℕ) → j + n ≤ i → part j n (over area i bs) ≡ part j n area
  part_below j n h =
      sym (drop-take j n (over area i bs)) ∙ ap (drop j) (take_below area i bs fits (j + n) h) ∙ drop-take j n area

  pub part_above : (j n : ℕ) → i + length bs ≤ j → part j n (over area i bs) ≡ part j n area
  part_above j n h = ap (take n) (drop_over area i bs fits j h)

-- an area that holds bs from i on, after cs were written where they end
pub then_over : (area once twice : List ℕ) (i j : ℕ) (bs cs : List ℕ) → i + length bs ≤ length area
    → once ≡ over area i bs → i + length bs ≡ j → twice ≡ over once j cs → twice ≡ over area i (bs ++ cs)
then_over area once twice i j bs cs fits e at f =
    f ∙ ap₂ (λ (a : List ℕ) (k : ℕ). over a k cs) e (sym at) ∙ over_over area i bs fits cs

-- two parts that follow each other
pub part_join : (i n m : ℕ) (bs : List ℕ) → part i n bs ++ part (i + n) m bs ≡ part i (n + m) bs
part_join i n m bs =
    let l = drop i bs in
    ap₂ (λ (xs ys : List ℕ). xs ++ ys) (sym (take-take n (n + m) l (omega arith)))
    (ap (take m) (sym (drop-drop n i bs)) ∙ sym (drop-take n m l))
    ∙ take-append-drop n (take (n + m) l)

module _ (bs : List ℕ) (h : Bytes bs) (i n : ℕ) (l : i + n ≤ length bs) where
  pub part_length : length (part i n bs) ≡ n
  part_length = length-take-le n (drop i bs) (let d = length-drop i bs in omega arith)

  pub part_bytes : Bytes (part i n bs)
  part_bytes = All-take (λ b. b < 256) n (drop i bs) (All-drop (λ b. b < 256) i bs h)

  -- the bytes of a number that was read are those that it was read from
  pub le_part : le n (num (part i n bs)) ≡ part i n bs
  le_part = ap (λ (k : ℕ). le k (num (part i n bs))) (sym part_length) ∙ le_num (part i n bs) part_bytes

  pub num_part : num (part i n bs) < 256 ^ n
  num_part = let f = num_fits (part i n bs) part_bytes in rw part_length at f

-- the bytes of an area of the code are bytes
pub area_bytes : (area : List ℕ) → ((i : ℕ) → Fits w8 (get_or area i 0)) → Bytes area
area_bytes area h = All-from_get_or (λ b. b < 256) area 0 (λ i _. (h i).fits)
