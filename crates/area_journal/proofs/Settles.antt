-- What a settle that is taken leaves.
use Rattle.std.proofs.Common.{◌≡◌, ℕ, ◌+◌, ◌%◌, ◌^◌, ◌<◌, ◌≤◌, true, List, map, length, set, sym, refl, ap, ◌∙◌, inl, inr, arith}
use Rattle.std.specs.List.{range_with_len}
use Rattle.std.proofs.lemmas.List.FromFn.{length-map-range_with_len}
use Rattle.std.proofs.lemmas.Bool.{cases_eq, cases_lt}
use Rattle.std.proofs.lemmas.Bool.Decides.{nat_tests}
use Rattle.octets.specs.Areas.{over}
use Rattle.octets.specs.Numbers.{le, num}
use Rattle.octets.proofs.Areas.{length_over}
use Rattle.octets.proofs.Numbers.{num_le}
use Rattle.command.specs.declared.Command.{Command}
use Rattle.command.specs.Commands.{well_formed, Sized}
use Rattle.journal.specs.declared.writes.Write.TheVariants.{Settle}
use Rattle.journal.specs.Meaning.{taken, after, blank}
use Rattle.area_journal.specs.Layout.{place_at, record_at, place_bytes, record_bytes, command_bytes, blank_bytes}
use Rattle.area_journal.specs.Layout.{command_of, entry_of}
use Rattle.area_journal.specs.Reading.{shortest, capacity_of, promised_of, count_of, place_in, record_in, command_in, entry_in}
use Rattle.area_journal.specs.Reading.{meaning_of}
use Rattle.area_journal.specs.Opening.{place_is_good, record_is_good}
use Rattle.area_journal.specs.Writing.{written, settled_area}
use Rattle.area_journal.proofs.Checks.{Sound}
use Rattle.octets.proofs.Parts.{part_over, part_below, part_above}
use Rattle.area_journal.proofs.Placed.{placed_length, placed_promised, placed_count, placed_here, placed_other, placed_record}
use Rattle.area_journal.proofs.Places.{place_kept, blank_good, good_record_is, command_read}
use Rattle.area_journal.proofs.Meanings.{set_counted, more_counted, capacity_same, count_is}
use Rattle.area_journal.proofs.Writes.{Left, good_place, good_place_is, good_record, record_same}

-- an area with the record of slot p + 1, and the count that tells it
module _ (area : List ℕ) (p : ℕ) (d : Command) (room : record_at p + record_bytes ≤ length area) where
  abbrev one : List ℕ
  one = over area (record_at p) (command_bytes d)

  abbrev two : List ℕ
  two = over one 4 (le 4 (p + 1))

  fits : record_at p + length (command_bytes d) ≤ length area
  fits = omega arith

  one_length : length one ≡ length area
  one_length = length_over area (record_at p) (command_bytes d) fits

  count_fits : 4 + length (le 4 (p + 1)) ≤ length one
  count_fits = let l = one_length in omega arith

  pub two_length : length two ≡ length area
  two_length = length_over one 4 (le 4 (p + 1)) count_fits ∙ one_length

  pub two_promised : promised_of two ≡ promised_of area
  two_promised =
      ap num (part_below one 4 (le 4 (p + 1)) count_fits 0 4 (omega arith)
      ∙ part_below area (record_at p) (command_bytes d) fits 0 4 (omega arith))

  pub two_count : p + 1 < 256 ^ 4 → count_of two ≡ p + 1
  two_count small = ap num (part_over one 4 (le 4 (p + 1)) count_fits 4 refl) ∙ num_le 4 (p + 1) small

  pub two_place : (i : ℕ) → i < 8 → place_in two i ≡ place_in area i
  two_place i small =
      part_above one 4 (le 4 (p + 1)) count_fits (place_at i) place_bytes (omega arith)
      ∙ part_below area (record_at p) (command_bytes d) fits (place_at i) place_bytes (omega arith)

  late : (i : ℕ) → record_in two i ≡ record_in one i
  late i = part_above one 4 (le 4 (p + 1)) count_fits (record_at i) record_bytes (omega arith)

  pub two_here : record_in two p ≡ command_bytes d
  two_here = late p ∙ part_over area (record_at p) (command_bytes d) fits record_bytes refl

  pub two_other : (i : ℕ) → i < p → record_in two i ≡ record_in area i
  two_other i l =
      late i ∙ part_below area (record_at p) (command_bytes d) fits (record_at i) record_bytes (omega arith)

module _ (area : List ℕ) (s : Sound area) (d : Command) (sized : Sized d) (formed : well_formed d ≡ true)
    (less : count_of area < capacity_of area) where
  abbrev p : ℕ
  p = count_of area

  abbrev place : ℕ
  place = (p + 1) % 8

  room : record_at p + record_bytes ≤ length area
  room = let l = s.long in omega arith

  abbrev recorded : List ℕ
  recorded = two area p d room

  abbrev left : List ℕ
  left = settled_area area p d

  long : shortest ≤ length recorded
  long = let l = s.long in let e = two_length area p d room in omega arith

  same_length : length left ≡ length area
  same_length = placed_length recorded place blank_bytes long (omega arith) refl ∙ two_length area p d room

  cap : capacity_of left ≡ capacity_of area
  cap = capacity_same area left same_length

  promised : promised_of left ≡ promised_of area
  promised = placed_promised recorded place blank_bytes long (omega arith) refl ∙ two_promised area p d room

  count : count_of left ≡ p + 1
  count = placed_count recorded place blank_bytes long (omega arith) refl ∙ two_count area p d room (omega arith)

  here : place_in left place ≡ blank_bytes
  here = placed_here recorded place blank_bytes long (omega arith) refl

  other : (i : ℕ) → i < 8 → (i ≡ place → ⊥) → place_in left i ≡ place_in area i
  other i l e = placed_other recorded place blank_bytes long (omega arith) refl i e ∙ two_place area p d room i l

  kept : (i : ℕ) → record_in left i ≡ record_in recorded i
  kept = placed_record recorded place blank_bytes long (omega arith) refl

  good : (i : ℕ) → i < 8 → place_is_good left i ≡ true
  good i l =
      elim (cases_eq i place) [
        | inl e ↦
            good_place left (capacity_of area) (promised_of area) (p + 1) i blank_bytes cap promised count
            (ap (place_in left) e ∙ here)
            (blank_good (capacity_of area) (promised_of area) (p + 1) i)
        | inr e ↦
            good_place left (capacity_of area) (promised_of area) (p + 1) i (place_in area i) cap promised count
            (other i l e)
            (place_kept (capacity_of area) (promised_of area) (promised_of area) p (p + 1) i (place_in area i)
            (good_place_is area i (s.places i l)) (omega arith) (omega arith)
            (λ n above at. let q : (i ≡ place → ⊥) = e in omega arith))
      ]

  good_records : (i : ℕ) → i < p + 1 → record_is_good left i ≡ true
  good_records i l =
      elim (cases_lt i p) [
        | inl m ↦ record_same area left i (kept i ∙ two_other area p d room i m) (s.records i m)
        | inr m ↦
            let e : i ≡ p = omega arith in
            good_record left i (command_bytes d) (ap (record_in left) e ∙ kept p ∙ two_here area p d room)
            (good_record_is d sized formed)
      ]

  pub settled : Left (written (Settle d) area) (after (Settle d) (meaning_of area))
  unfolding written after meaning_of
  settled =
      let same = same_length in
      let most = s.long in
      let c = cap in
      let e = count in
      let q = length-map-range_with_len (command_in area) 0 p in
      record {
        sound =
            record {
              long = omega arith;
              held = omega arith;
              places = good;
              records = λ i l. good_records i (omega arith);
            };
        means = λ j.
            record {
              capacity = cap j;
              promised = promised j;
              settled =
                  (ap (λ (k : ℕ). map (command_in left) (range_with_len 0 k)) count
                  ∙ more_counted (command_in area) (command_in left) p d
                  (ap command_of (kept p ∙ two_here area p d room) ∙ command_read d sized)
                  (λ i l. ap command_of (kept i ∙ two_other area p d room i l)))
                  j;
              places =
                  (set_counted (entry_in area) (entry_in left) 8 place blank (omega arith) (ap entry_of here)
                  (λ i l q. ap entry_of (other i l q))
                  ∙ ap (λ (k : ℕ). set (map (entry_in area) (range_with_len 0 8)) ((k + 1) % 8) blank) (sym q))
                  j;
            };
      }

pub left_settle : (area : List ℕ) (d : Command) → Sound area → Sized d
    → taken (Settle d) (meaning_of area) ≡ true
    → Left (written (Settle d) area) (after (Settle d) (meaning_of area))
unfolding taken meaning_of
left_settle area d sound sized t =
    let h : (well_formed d ≡ true) × (count_of area < capacity_of area) = grind (arith, nat_tests, count_is area) in
    settled area sound d sized h.0 h.1
