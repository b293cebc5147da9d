-- What each write that is taken leaves: an area that is in order, with the meaning that it must have.
use Rattle.std.proofs.Common.{◌≡◌, ℕ, ◌+◌, ◌^◌, ◌<◌, ◌≤◌, true, List, length, refl, ap, ◌∙◌, arith}
use Rattle.std.proofs.lemmas.Bool.{leb-true}
use Rattle.octets.specs.Areas.{over}
use Rattle.octets.specs.Numbers.{le, num}
use Rattle.octets.proofs.Areas.{length_over}
use Rattle.octets.proofs.Numbers.{num_le}
use Rattle.journal.specs.declared.writes.Write.TheVariants.{Promise}
use Rattle.journal.specs.Meaning.{Meaning, taken, after}
use Rattle.area_journal.specs.Layout.{place_at, record_at, place_bytes, record_bytes}
use Rattle.area_journal.specs.Layout.{entry_of}
use Rattle.area_journal.specs.Reading.{capacity_of, promised_of, count_of, place_in, record_in, entry_in}
use Rattle.area_journal.specs.Reading.{meaning_of}
use Rattle.area_journal.specs.Opening.{place_good, record_good, place_is_good, record_is_good}
use Rattle.area_journal.specs.Writing.{written}
use Rattle.area_journal.proofs.Checks.{Sound}
use Rattle.octets.proofs.Parts.{part_over, part_above}
use Rattle.area_journal.proofs.Places.{place_kept}
use Rattle.area_journal.proofs.Meanings.{same_counted, settled_same, capacity_same}

-- what a write leaves
pub record Left (new : List ℕ) (m : Meaning) : Type 0 where
  pub sound : Sound new
  pub means : meaning_of new ≡ m

-- a place of an area is in order by its parts
pub good_place : (area : List ℕ) (c l p i : ℕ) (bs : List ℕ) → capacity_of area ≡ c → promised_of area ≡ l
    → count_of area ≡ p
    → place_in area i ≡ bs
    → place_good c l p i bs ≡ true
    → place_is_good area i ≡ true
unfolding place_is_good
good_place area c l p i bs e f g h t = (λ j. place_good (e j) (f j) (g j) i (h j)) ∙ t

pub good_place_is : (area : List ℕ) (i : ℕ) → place_is_good area i ≡ true
    → place_good (capacity_of area) (promised_of area) (count_of area) i (place_in area i) ≡ true
unfolding place_is_good
good_place_is area i h = h

pub good_record : (area : List ℕ) (i : ℕ) (bs : List ℕ) → record_in area i ≡ bs → record_good bs ≡ true
    → record_is_good area i ≡ true
unfolding record_is_good
good_record area i bs e h = ap record_good e ∙ h

pub record_same : (area new : List ℕ) (i : ℕ) → record_in new i ≡ record_in area i → record_is_good area i ≡ true
    → record_is_good new i ≡ true
unfolding record_is_good
record_same area new i e h = ap record_good e ∙ h

module _ (area : List ℕ) (s : Sound area) where
  module _ (b : ℕ) (less : promised_of area ≤ b) (small : b < 256 ^ 4) where
    promised_fits : 0 + length (le 4 b) ≤ length area
    promised_fits = let l = s.long in omega arith

    abbrev new : List ℕ
    new = over area 0 (le 4 b)

    same_place : (i : ℕ) → place_in new i ≡ place_in area i
    same_place i = part_above area 0 (le 4 b) promised_fits (place_at i) place_bytes (omega arith)

    same_record : (i : ℕ) → record_in new i ≡ record_in area i
    same_record i = part_above area 0 (le 4 b) promised_fits (record_at i) record_bytes (omega arith)

    pub promised : Left (written (Promise b) area) (after (Promise b) (meaning_of area))
    unfolding written after meaning_of
    promised =
        let long = length_over area 0 (le 4 b) promised_fits in
        let most = s.long in
        let held = s.held in
        let cap : capacity_of new ≡ capacity_of area = capacity_same area new long in
        let ballot : promised_of new ≡ b = ap num (part_over area 0 (le 4 b) promised_fits 4 refl) ∙ num_le 4 b small in
        let count : count_of new ≡ count_of area = ap num (part_above area 0 (le 4 b) promised_fits 4 4 (omega arith)) in
        record {
          sound =
              record {
                long = omega arith;
                held = omega arith;
                places = λ i h.
                    good_place new _ _ _ i _ cap ballot count (same_place i)
                    (place_kept (capacity_of area) (promised_of area) b (count_of area) (count_of area) i (place_in area i)
                    (good_place_is area i (s.places i h)) less (omega arith) (λ n l e. l));
                records = λ i h. record_same area new i (same_record i) (s.records i (omega arith));
              };
          means = λ j.
              record {
                capacity = cap j;
                promised = ballot j;
                settled = settled_same area new count (λ i h. same_record i) j;
                places = same_counted (entry_in new) (entry_in area) 8 (λ i h. ap entry_of (same_place i)) j;
              };
        }

pub left_promise : (area : List ℕ) (b : ℕ) → Sound area → b < 256 ^ 4 → taken (Promise b) (meaning_of area) ≡ true
    → Left (written (Promise b) area) (after (Promise b) (meaning_of area))
unfolding taken meaning_of
left_promise area b sound small t = promised area sound b (leb-true (promised_of area) b t) small
