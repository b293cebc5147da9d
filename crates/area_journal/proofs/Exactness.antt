-- An area is accepted exactly where it holds the layout of a meaning.
use Rattle.std.proofs.Common.{◌≡◌, ℕ, ◌+◌, ◌<◌, ◌≤◌, true, eqb, ◌⊎◌, List, [], ◌∷◌, ◌++◌, length, get_or, sym, refl, ap, ◌∙◌, ap₂, inl, inr, arith}
use Rattle.std.specs.Str.{bytes_eq}
use Rattle.std.proofs.lemmas.List.FromFn.{get_or-map-range_with_len}
use Rattle.std.proofs.lemmas.List.Elements.{All-get_or}
use Rattle.std.proofs.lemmas.Slice.Eq.{bytes_eq-Decides}
use Rattle.std.proofs.lemmas.List.{take_all, append_assoc}
use Rattle.std.proofs.lemmas.Bool.{and_parts, eqb-true, ne_eqb, or_cases}
use Rattle.octets.specs.Areas.{part}
use Rattle.octets.specs.Numbers.{le, num}
use Rattle.octets.proofs.Areas.{part_two}
use Rattle.octets.proofs.Parts.{part_join, part_length, part_bytes, le_part, num_part}
use Rattle.octets.proofs.Numbers.{Bytes}
use Rattle.command.specs.Commands.{well_formed, serial_bytes, Sized}
use Rattle.journal.specs.Meaning.{noop, blank}
use Rattle.area_journal.specs.Layout.{place_at, record_at, place_bytes, record_bytes, command_bytes, entry_bytes, blank_bytes}
use Rattle.area_journal.specs.Layout.{command_of, slot_of, entry_of}
use Rattle.area_journal.specs.Reading.{capacity_of, promised_of, count_of, place_in, record_in, command_in, entry_in}
use Rattle.area_journal.specs.Reading.{meaning_of}
use Rattle.area_journal.specs.Opening.{record_good, is_held, place_good, record_is_good}
use Rattle.area_journal.specs.Exactness.{slot_at, place_laid, Laid, Stored, Entered, Sensible}
use Rattle.area_journal.proofs.Checks.{Sound}
use Rattle.area_journal.proofs.Meanings.{count_is}
use Rattle.area_journal.proofs.Places.{held_parts}
use Rattle.area_journal.specs.Within.{within_of}
use Rattle.area_journal.proofs.Writes.{good_place_is}

-- a command that was read from a record in order is written again the same
module _ (bs : List ℕ) (h : Bytes bs) (l : length bs ≡ record_bytes) where
  pub command_sized : Sized (command_of bs)
  command_sized =
      record {
        verb = All-get_or (λ b. b < 256) bs 0 0 (omega arith) h;
        origin = num_part bs h 2 2 (omega arith);
        serial = num_part bs h 4 serial_bytes (omega arith);
        a = num_part bs h (4 + serial_bytes) 2 (omega arith);
        b = num_part bs h (6 + serial_bytes) 2 (omega arith);
      }

  pub command_same : get_or bs 1 0 ≡ 0 → bs ≡ command_bytes (command_of bs)
  command_same z =
      let tail : part 2 2 bs ++ (part 4 4 bs ++ (part 8 2 bs ++ part 10 2 bs)) ≡ part 2 10 bs =
      ap (λ (xs : List ℕ). part 2 2 bs ++ (part 4 4 bs ++ xs)) (part_join 8 2 2 bs)
      ∙ ap (λ (xs : List ℕ). part 2 2 bs ++ xs) (part_join 4 4 4 bs) ∙ part_join 2 2 8 bs in
      let same : le 2 (num (part 2 2 bs)) ++ (le serial_bytes (num (part 4 serial_bytes bs))
      ++ (le 2 (num (part 8 2 bs)) ++ le 2 (num (part 10 2 bs))))
      ≡ part 2 2 bs ++ (part 4 4 bs ++ (part 8 2 bs ++ part 10 2 bs)) =
      λ j. le_part bs h 2 2 (omega arith) j ++ (le_part bs h 4 serial_bytes (omega arith) j
      ++ (le_part bs h 8 2 (omega arith) j ++ le_part bs h 10 2 (omega arith) j)) in
      let front : part 0 2 bs ≡ get_or bs 0 0 ∷ 0 ∷ [] =
      part_two 0 bs (omega arith) ∙ ap (λ (x : ℕ). get_or bs 0 0 ∷ x ∷ []) z in
      sym (take_all 12 bs (omega arith)) ∙ sym (part_join 0 2 10 bs)
      ∙ ap₂ (λ (xs ys : List ℕ). xs ++ ys) front (sym (same ∙ tail))

pub record_stored : (bs : List ℕ) → Bytes bs → length bs ≡ record_bytes → record_good bs ≡ true
    → Stored (command_of bs) × (bs ≡ command_bytes (command_of bs))
record_stored bs h l g =
    let p = and_parts (eqb (get_or bs 1 0) 0) (well_formed (command_of bs)) g in
    (record { formed = p.1; sized = command_sized bs h l }, command_same bs h l (eqb-true (get_or bs 1 0) 0 p.0))

-- a place in order holds the bytes of its entry
module _ (c l p i : ℕ) (bs : List ℕ) (h : Bytes bs) (size : length bs ≡ place_bytes) (low : i < 8) where
  entry_same : record_good (part 8 record_bytes bs) ≡ true
      → Stored (entry_of bs).command × (bs ≡ entry_bytes (slot_of bs) (entry_of bs).ballot (entry_of bs).command)
  entry_same g =
      let r = part 8 record_bytes bs in
      let q = record_stored r (part_bytes bs h 8 record_bytes (omega arith))
      (part_length bs h 8 record_bytes (omega arith)) g in (
        q.0,
        sym (take_all 20 bs (omega arith)) ∙ sym (part_join 0 8 12 bs)
            ∙ ap (λ (xs : List ℕ). xs ++ r) (sym (part_join 0 4 4 bs)) ∙ append_assoc (part 0 4 bs) (part 4 4 bs) r
            ∙ (λ j. sym (le_part bs h 0 4 (omega arith)) j ++ (sym (le_part bs h 4 4 (omega arith)) j ++ q.1 j)),
      )

  pub laid_place_is : place_good c l p i bs ≡ true
      → (bs ≡ place_laid p i (entry_of bs)) × ((entry_of bs ≡ blank) ⊎ Entered c l (slot_at p i) (entry_of bs))
  laid_place_is g =
      elim (or_cases (bytes_eq bs blank_bytes) (is_held c l p i bs) g) [
        | inl e ↦
            rw ((bytes_eq-Decides bs blank_bytes).0 e) (refl, inl refl)
        | inr e ↦
            let n = slot_of bs in
            let b = (entry_of bs).ballot in
            let d = (entry_of bs).command in
            let k = held_parts c l p i n b (record_good (part 8 record_bytes bs)) e in
            let slot : n ≡ slot_at p i = omega arith in
            let q = entry_same k.good in (
              rw (ne_eqb b 0 (λ z. omega arith), ← slot) q.1,
              inr (record { within = omega arith; some = k.some; most = k.most; command = q.0 }),
            )
      ]

-- what is accepted is a layout
module _ (area : List ℕ) (h : Bytes area) (s : Sound area) where
  abbrev p : ℕ
  p = count_of area

  settled_is : (i : ℕ) → i < p → get_or (meaning_of area).settled i noop ≡ command_in area i
  unfolding meaning_of
  settled_is i l = get_or-map-range_with_len (command_in area) 0 p i i noop l (omega arith)

  places_is : (i : ℕ) → i < 8 → get_or (meaning_of area).places i blank ≡ entry_in area i
  unfolding meaning_of
  places_is i l = get_or-map-range_with_len (entry_in area) 0 8 i i blank l (omega arith)

  good_bytes : (i : ℕ) → record_is_good area i ≡ true → record_good (record_in area i) ≡ true
  unfolding record_is_good
  good_bytes i g = g

  stored : (i : ℕ) → i < p → Stored (command_in area i) × (record_in area i ≡ command_bytes (command_in area i))
  stored i l =
      let long = s.long in
      let held = s.held in
      let room : record_at i + record_bytes ≤ length area = omega arith in
      record_stored (record_in area i) (part_bytes area h (record_at i) record_bytes room)
      (part_length area h (record_at i) record_bytes room) (good_bytes i (s.records i l))

  placed : (i : ℕ) → i < 8 → (place_in area i ≡ place_laid p i (entry_in area i)) × ((entry_in area i ≡ blank)
      ⊎ Entered (capacity_of area) (promised_of area) (slot_at p i) (entry_in area i))
  placed i l =
      let long = s.long in
      let room : place_at i + place_bytes ≤ length area = omega arith in
      laid_place_is (capacity_of area) (promised_of area) p i (place_in area i)
      (part_bytes area h (place_at i) place_bytes room)
      (part_length area h (place_at i) place_bytes room) l (good_place_is area i (s.places i l))

  pub laid : Laid area (meaning_of area)
  unfolding meaning_of
  laid =
      let long = s.long in
      let count = count_is area in
      record {
        long = s.long;
        capacity = refl;
        promised = sym (le_part area h 0 4 (omega arith));
        count = sym (le_part area h 4 4 (omega arith)) ∙ ap (le 4) (sym count);
        places = λ i l. rw (count, places_is i l) (placed i l).0;
        records = λ i l. rw (settled_is i (omega arith)) (stored i (omega arith)).1;
      }

  pub sensible : Sensible (meaning_of area)
  unfolding meaning_of
  sensible =
      let long = s.long in
      let count = count_is area in
      record {
        within = within_of area s.long s.held;
        promised = num_part area h 0 4 (omega arith);
        entries = λ i l. rw (count, places_is i l) (placed i l).1;
        commands = λ i l. rw (settled_is i (omega arith)) (stored i (omega arith)).0;
      }
