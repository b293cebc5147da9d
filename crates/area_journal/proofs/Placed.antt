-- An area with other bytes in one of its places: all else stays.
use Rattle.std.proofs.Common.{◌≡◌, ℕ, ◌+◌, ◌<◌, ◌≤◌, List, length, ap, inl, inr, arith}
use Rattle.std.proofs.lemmas.Bool.{cases_lt}
use Rattle.octets.specs.Areas.{over}
use Rattle.octets.specs.Numbers.{num}
use Rattle.octets.proofs.Areas.{length_over}
use Rattle.octets.proofs.Parts.{part_over, part_below, part_above}
use Rattle.area_journal.specs.Layout.{place_at, record_at, place_bytes, record_bytes}
use Rattle.area_journal.specs.Reading.{shortest, promised_of, count_of, place_in, record_in}

module _ (area : List ℕ) (k : ℕ) (bs : List ℕ) (long : shortest ≤ length area) (low : k < 8)
    (size : length bs ≡ place_bytes) where
  abbrev placed : List ℕ
  placed = over area (place_at k) bs

  fits : place_at k + length bs ≤ length area
  fits = omega arith

  pub placed_length : length placed ≡ length area
  placed_length = length_over area (place_at k) bs fits

  pub placed_promised : promised_of placed ≡ promised_of area
  placed_promised = ap num (part_below area (place_at k) bs fits 0 4 (omega arith))

  pub placed_count : count_of placed ≡ count_of area
  placed_count = ap num (part_below area (place_at k) bs fits 4 4 (omega arith))

  pub placed_here : place_in placed k ≡ bs
  placed_here = part_over area (place_at k) bs fits place_bytes size

  pub placed_other : (i : ℕ) → (i ≡ k → ⊥) → place_in placed i ≡ place_in area i
  placed_other i other =
      elim (cases_lt i k) [
        | inl l ↦ part_below area (place_at k) bs fits (place_at i) place_bytes (omega arith)
        | inr l ↦
            let m : k < i = let q : (i ≡ k → ⊥) = other in omega arith in
            part_above area (place_at k) bs fits (place_at i) place_bytes (omega arith)
      ]

  pub placed_record : (i : ℕ) → record_in placed i ≡ record_in area i
  placed_record i = part_above area (place_at k) bs fits (record_at i) record_bytes (omega arith)
