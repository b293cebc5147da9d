-- The meaning of an area, part by part.
use Rattle.std.proofs.Common.{◌≡◌, ℕ, ◌+◌, ◌-◌, ◌/◌, ◌<◌, min, Bool, true, false, List, [], ◌∷◌, ◌++◌, map, length, get_or, set, refl, sym, ap, ◌∙◌, ap₂, inl, inr, arith}
use Rattle.std.specs.List.{range_with_len}
use Rattle.std.proofs.lemmas.List.FromFn.{length-map-range_with_len, get_or-map-range_with_len, map-range_with_len_more, fill_by_all}
use Rattle.std.proofs.lemmas.List.{length-set, get_or-set_same, get_or-set_other}
use Rattle.std.proofs.lemmas.Bool.{cases_eq, cond-true, cond-false}
use Rattle.command.specs.declared.Command.{Command}
use Rattle.journal.specs.declared.writes.Write.{Write}
use Rattle.journal.specs.declared.writes.Write.TheVariants.{Settle}
use Rattle.journal.specs.Meaning.{taken, after, step, settled_count}
use Rattle.std.proofs.lemmas.Bool.Decides.{nat_tests}
use Rattle.octets.specs.Areas.{over}
use Rattle.octets.specs.Numbers.{le}
use Rattle.journal.specs.declared.bounds.Bounds.{Bounds}
use Rattle.journal.specs.Bounding.{Decides}
use Rattle.journal.specs.Windows.{place_of}
use Rattle.area_journal.specs.Layout.{command_of, record_bytes, records_at, record_at, place_at, count_at, command_bytes, blank_bytes}
use Rattle.area_journal.specs.Reading.{capacity_of, promised_of, count_of, record_in, command_in, meaning_of}
use Rattle.area_journal.specs.Opening.{is_sound}
use Rattle.area_journal.specs.Writing.{written, Does}
use Rattle.area_journal.proofs.Checks.{Sound, sound_from}

-- lists that are made by index
pub same_counted : {X : Type 0} (f g : ℕ → X) (k : ℕ) → ((i : ℕ) → i < k → f i ≡ g i)
    → map f (range_with_len 0 k) ≡ map g (range_with_len 0 k)
same_counted f g k h =
    fill_by_all g (map f (range_with_len 0 k)) k (f 0) (length-map-range_with_len f 0 k)
    (λ i l. get_or-map-range_with_len f 0 k i i (f 0) l (omega arith) ∙ h i l)

-- the settled commands of an area with the same count and records
pub settled_same : (area new : List ℕ) → count_of new ≡ count_of area
    → ((i : ℕ) → i < count_of area → record_in new i ≡ record_in area i)
    → map (command_in new) (range_with_len 0 (count_of new)) ≡ map (command_in area) (range_with_len 0 (count_of area))
settled_same area new e h =
    ap (λ (k : ℕ). map (command_in new) (range_with_len 0 k)) e
    ∙ same_counted (command_in new) (command_in area) (count_of area) (λ i l. ap command_of (h i l))

pub set_counted : {X : Type 0} (f g : ℕ → X) (k j : ℕ) (x : X) → j < k → g j ≡ x
    → ((i : ℕ) → i < k → (i ≡ j → ⊥) → g i ≡ f i)
    → map g (range_with_len 0 k) ≡ set (map f (range_with_len 0 k)) j x
set_counted f g k j x l e h =
    let xs = map f (range_with_len 0 k) in
    let long = length-map-range_with_len f 0 k in
    sym (fill_by_all g (set xs j x) k x (length-set xs j x ∙ long)
    (λ i m. elim (cases_eq i j) [
      | inl q ↦ ap (λ (n : ℕ). get_or (set xs j x) n x) q ∙ get_or-set_same xs j x x (omega arith) ∙ sym e ∙ ap g (sym q)
      | inr q ↦ get_or-set_other xs j i x x q ∙ get_or-map-range_with_len f 0 k i i x m (omega arith) ∙ sym (h i m q)
    ]))

pub more_counted : {X : Type 0} (f g : ℕ → X) (k : ℕ) (x : X) → g k ≡ x → ((i : ℕ) → i < k → g i ≡ f i)
    → map g (range_with_len 0 (k + 1)) ≡ map f (range_with_len 0 k) ++ (x ∷ [])
more_counted f g k x e h =
    map-range_with_len_more g 0 k k (omega arith)
    ∙ ap₂ (λ xs y. xs ++ (y ∷ [])) (same_counted g f k h) e

pub capacity_same : (area new : List ℕ) → length new ≡ length area → capacity_of new ≡ capacity_of area
capacity_same area new e = ap (λ (n : ℕ). min ((n - records_at) / record_bytes) 60000) e

pub count_is : (area : List ℕ) → settled_count (meaning_of area) ≡ count_of area
unfolding meaning_of
count_is area = length-map-range_with_len (command_in area) 0 (count_of area)

pub promised_is : (area : List ℕ) → (meaning_of area).promised ≡ promised_of area
unfolding meaning_of
promised_is area = refl

-- a settle is taken only where a slot is left
pub less_settle : (area : List ℕ) (c : Command) → taken (Settle c) (meaning_of area) ≡ true
    → count_of area < capacity_of area
unfolding taken meaning_of
less_settle area c t = grind (arith, nat_tests, count_is area)

-- the three parts of a settle, written one after another
pub written_settle : (w : Write) (area once twice exit : List ℕ) (p i q k : ℕ) (d : Command) → w ≡ Settle d
    → p ≡ count_of area
    → i ≡ record_at p
    → q ≡ place_of (p + 1)
    → k ≡ place_at q
    → once ≡ over area i (command_bytes d)
    → twice ≡ over once count_at (le 4 (p + 1))
    → exit ≡ over twice k blank_bytes
    → exit ≡ written w area
unfolding written
written_settle w area once twice exit p i q k d is count at slot place e f g =
    simp (is, g, f, e, place, slot, at, count)

-- a write that is taken, and one that is not
pub does : (w : Write) (area exit : List ℕ) (r : Bool) → r ≡ taken w (meaning_of area) → r ≡ true
    → exit ≡ written w area
    → Sound exit
    → meaning_of exit ≡ after w (meaning_of area)
    → Does w area exit r
unfolding step
does w area exit r t y e s m =
    let h = sym t ∙ y in
    record {
      answer = t;
      bytes = e ∙ sym (cond-true (taken w (meaning_of area)) (written w area) area h);
      after = m ∙ sym (cond-true (taken w (meaning_of area)) (after w (meaning_of area)) (meaning_of area) h);
      sound = sound_from exit s;
    }

pub does_not : (w : Write) (area : List ℕ) (r : Bool) → r ≡ taken w (meaning_of area) → r ≡ false
    → is_sound area ≡ true
    → Does w area area r
unfolding step
does_not w area r t n s =
    let h = sym t ∙ n in
    record {
      answer = t;
      bytes = sym (cond-false (taken w (meaning_of area)) (written w area) area h);
      after = sym (cond-false (taken w (meaning_of area)) (after w (meaning_of area)) (meaning_of area) h);
      sound = s;
    }

-- the numbers of an area decide whether its journal takes a write
pub decided : (b : Bounds) (w : Write) (r : Bool) (area : List ℕ) → Decides b w r → b.capacity ≡ capacity_of area
    → b.promised ≡ promised_of area
    → b.settled ≡ count_of area
    → r ≡ taken w (meaning_of area)
unfolding meaning_of
decided b w r area d c p n = d.tells (meaning_of area) c p (n ∙ sym (count_is area))

-- what tells whether a write is taken, from the numbers of its area
pub ruleset decisions = (decided, promised_is)
