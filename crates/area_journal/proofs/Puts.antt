-- What a put that is taken leaves.
use Rattle.std.proofs.Common.{◌≡◌, ℕ, ◌%◌, ◌^◌, ◌<◌, true, List, refl, ap, ◌∙◌, inl, inr, arith}
use Rattle.std.proofs.lemmas.Bool.{cases_eq}
use Rattle.std.proofs.lemmas.Bool.Decides.{nat_tests}
use Rattle.octets.specs.Areas.{over}
use Rattle.command.specs.declared.Command.{Command}
use Rattle.command.specs.Commands.{well_formed, Sized}
use Rattle.journal.specs.declared.writes.Write.TheVariants.{Put}
use Rattle.journal.specs.Meaning.{taken, after}
use Rattle.area_journal.specs.Layout.{place_at, entry_bytes, entry_of}
use Rattle.area_journal.specs.Reading.{capacity_of, promised_of, count_of, place_in, record_in, entry_in}
use Rattle.area_journal.specs.Reading.{meaning_of}
use Rattle.area_journal.specs.Opening.{place_is_good}
use Rattle.area_journal.specs.Writing.{written}
use Rattle.area_journal.proofs.Checks.{Sound}
use Rattle.area_journal.proofs.Placed.{placed_length, placed_promised, placed_count, placed_here, placed_other, placed_record}
use Rattle.area_journal.proofs.Places.{Held, entry_read, entry_good}
use Rattle.area_journal.proofs.Meanings.{settled_same, set_counted, capacity_same, count_is}
use Rattle.area_journal.proofs.Writes.{Left, good_place, good_place_is, record_same}

module _ (area : List ℕ) (s : Sound area) (n b : ℕ) (d : Command) (slot : n < 256 ^ 4) (ballot : b < 256 ^ 4)
    (sized : Sized d)
    (h : Held (capacity_of area) (promised_of area) (count_of area) (n % 8) n b (well_formed d)) where
  abbrev new : List ℕ
  new = over area (place_at (n % 8)) (entry_bytes n b d)

  promised : promised_of new ≡ promised_of area
  promised = placed_promised area (n % 8) (entry_bytes n b d) s.long (omega arith) refl

  count : count_of new ≡ count_of area
  count = placed_count area (n % 8) (entry_bytes n b d) s.long (omega arith) refl

  cap : capacity_of new ≡ capacity_of area
  cap = capacity_same area new (placed_length area (n % 8) (entry_bytes n b d) s.long (omega arith) refl)

  here : place_in new (n % 8) ≡ entry_bytes n b d
  here = placed_here area (n % 8) (entry_bytes n b d) s.long (omega arith) refl

  other : (i : ℕ) → (i ≡ n % 8 → ⊥) → place_in new i ≡ place_in area i
  other = placed_other area (n % 8) (entry_bytes n b d) s.long (omega arith) refl

  record_kept : (i : ℕ) → record_in new i ≡ record_in area i
  record_kept = placed_record area (n % 8) (entry_bytes n b d) s.long (omega arith) refl

  good : (i : ℕ) → i < 8 → place_is_good new i ≡ true
  good i l =
      elim (cases_eq i (n % 8)) [
        | inl e ↦
            good_place new (capacity_of area) (promised_of area) (count_of area) i (entry_bytes n b d) cap promised count
            (ap (place_in new) e ∙ here)
            (rw e (entry_good n b d slot ballot sized (capacity_of area) (promised_of area) (count_of area) (n % 8) h))
        | inr e ↦ good_place new _ _ _ i _ cap promised count (other i e) (good_place_is area i (s.places i l))
      ]

  pub put : Left (written (Put n b d) area) (after (Put n b d) (meaning_of area))
  unfolding written after meaning_of
  put =
      let long = placed_length area (n % 8) (entry_bytes n b d) s.long (omega arith) refl in
      let most = s.long in
      let held = s.held in
      let c = cap in
      let e = count in
      record {
        sound =
            record {
              long = omega arith;
              held = omega arith;
              places = good;
              records = λ i l. record_same area new i (record_kept i) (s.records i (omega arith));
            };
        means = λ j.
            record {
              capacity = cap j;
              promised = promised j;
              settled = settled_same area new count (λ i l. record_kept i) j;
              places =
                  set_counted (entry_in area) (entry_in new) 8 (n % 8) (record { ballot = b; command = d }) (omega arith)
                  (ap entry_of here ∙ entry_read n b d slot ballot sized)
                  (λ i l q. ap entry_of (other i q))
                  j;
            };
      }

-- what is known where a put is taken
held : (area : List ℕ) (n b : ℕ) (d : Command) → taken (Put n b d) (meaning_of area) ≡ true
    → Held (capacity_of area) (promised_of area) (count_of area) (n % 8) n b (well_formed d)
unfolding taken meaning_of
held area n b d h = grind (arith, nat_tests, count_is area)

pub left_put : (area : List ℕ) (n b : ℕ) (d : Command) → Sound area → n < 256 ^ 4 → b < 256 ^ 4 → Sized d
    → taken (Put n b d) (meaning_of area) ≡ true
    → Left (written (Put n b d) area) (after (Put n b d) (meaning_of area))
left_put area n b d sound slot ballot sized t = put area sound n b d slot ballot sized (held area n b d t)
