-- What a write leaves in an area, part by part.
use Rattle.std.proofs.Common.{◌≡◌, ℕ, suc, ◌+◌, ◌-◌, ◌<◌, ◌≤◌, List, [], ◌∷◌, ◌++◌, length, get_or, take, drop, sym, ap, ◌∙◌, ap₂, append_assoc, arith}
use Rattle.std.proofs.lemmas.List.{length-append, length-take-le, length-drop, drop_more, drop-drop, take_at, drop_at, take-append-le, take-take}
use Rattle.octets.specs.Areas.{part, over}

-- a part by its first byte
pub part_more : (i n : ℕ) (bs : List ℕ) → i < length bs → part i (suc n) bs ≡ get_or bs i 0 ∷ part (i + 1) n bs
part_more i n bs h = ap (take (suc n)) (drop_more bs i 0 h)

module _ (area : List ℕ) (i : ℕ) (bs : List ℕ) (fits : i + length bs ≤ length area) where
  front : length (take i area) ≡ i
  front = length-take-le i area (omega arith)

  regrouped : over area i bs ≡ (take i area ++ bs) ++ drop (i + length bs) area
  regrouped = sym (append_assoc (take i area) bs (drop (i + length bs) area))

  written : length (take i area ++ bs) ≡ i + length bs
  written = length-append (take i area) bs ∙ ap (λ (n : ℕ). n + length bs) front

  pub length_over : length (over area i bs) ≡ length area
  length_over =
      simp (length-append, length-drop) (let f = front in omega arith)

  -- up to the end of what was written
  pub take_over : take (i + length bs) (over area i bs) ≡ take i area ++ bs
  take_over =
      ap (take (i + length bs)) regrouped
      ∙ take_at (take i area ++ bs) (drop (i + length bs) area) (i + length bs) written

  -- below it, all stays
  pub take_below : (n : ℕ) → n ≤ i → take n (over area i bs) ≡ take n area
  take_below n h =
      let f = front in
      take-append-le n (take i area) (bs ++ drop (i + length bs) area) (omega arith) ∙ take-take n i area h

  -- past it, all stays
  pub drop_over : (m : ℕ) → i + length bs ≤ m → drop m (over area i bs) ≡ drop m area
  drop_over m h =
      let n = i + length bs in
      let e : n + (m - n) ≡ m = omega arith in
      ap (λ (k : ℕ). drop k (over area i bs)) (sym e) ∙ sym (drop-drop (m - n) n (over area i bs))
      ∙ ap (drop (m - n)) (ap (drop n) regrouped ∙ drop_at (take i area ++ bs) (drop n area) n written)
      ∙ drop-drop (m - n) n area ∙ ap (λ (k : ℕ). drop k area) e

  -- one write right after another is one write
  pub over_over : (cs : List ℕ) → over (over area i bs) (i + length bs) cs ≡ over area i (bs ++ cs)
  over_over cs =
      let n = i + length bs in
      let e : n + length cs ≡ i + length (bs ++ cs) = simp length-append (omega arith) in
      ap₂ (λ (xs ys : List ℕ). xs ++ (cs ++ ys)) take_over (drop_over (n + length cs) (omega arith))
      ∙ append_assoc (take i area) bs (cs ++ drop (n + length cs) area)
      ∙ ap (λ (xs : List ℕ). take i area ++ xs) (sym (append_assoc bs cs (drop (n + length cs) area)))
      ∙ ap (λ (k : ℕ). take i area ++ ((bs ++ cs) ++ drop k area)) e

pub part_two : (i : ℕ) (bs : List ℕ) → i + 2 ≤ length bs → part i 2 bs ≡ get_or bs i 0 ∷ get_or bs (i + 1) 0 ∷ []
part_two i bs h = part_more i 1 bs (omega arith)
    ∙ ap (λ (xs : List ℕ). get_or bs i 0 ∷ xs) (part_more (i + 1) 0 bs (omega arith))
