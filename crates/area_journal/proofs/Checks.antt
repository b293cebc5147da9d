-- The checks of opening, one after another.
use Rattle.std.specs.Prelude.{◌≡◌, ℕ, zero, suc, ◌+◌, ◌-◌, ◌<◌, ◌≤◌, Bool, true, false, not, cond, List, length, Some, None, Option, refl}
use Rattle.std.proofs.Common.{sym, ◌∙◌, inl, inr}
use Rattle.std.proofs.Math.Path.{ap}
use native.Mathlib.Omega.{arith}
use Rattle.std.proofs.lemmas.Bool.{cases_lt}
use Rattle.std.proofs.lemmas.Bool.Decides.{nat_tests}
use Rattle.area_journal.specs.declared.faults.OpenFault.{OpenFault}
use Rattle.area_journal.specs.declared.faults.OpenFault.TheVariants.{NoRecord, Broken}
use Rattle.area_journal.specs.Layout.{count_at, place_at, record_at}
use Rattle.area_journal.specs.Reading.{shortest, capacity_of, count_of}
use Rattle.area_journal.specs.Opening.{place_is_good, record_is_good, first_bad, or_later, fault, is_none, is_sound}

pub some_none : {X : Type 0} {x : X} → ◌≡◌ {A = Option X} (Some x) None → ⊥
some_none e = let z : ◌≡◌ {A = ℕ} 0 1 = cc in omega arith

-- going through the numbers below n from i on
module _ (f : ℕ → Bool) (i n : ℕ) where
  -- where i fails the test, it is the first bad one
  pub bad_here : i < n → f i ≡ false → first_bad f i (n - i) ≡ Some i
  bad_here l e = let k : n - i ≡ suc (n - (i + 1)) = omega arith in rw (k, e)

  -- where i passes the test, the first bad one is that of the numbers after it
  pub bad_later : i < n → f i ≡ true → first_bad f i (n - i) ≡ first_bad f (i + 1) (n - (i + 1))
  bad_later l e = let k : n - i ≡ suc (n - (i + 1)) = omega arith in rw (k, e)

  -- where no number is left, none is bad
  pub bad_none : n ≤ i → first_bad f i (n - i) ≡ None
  bad_none l = let k : n - i ≡ 0 = omega arith in rw k

-- none is bad exactly where all are good
pub all_good : (f : ℕ → Bool) (k i : ℕ) → first_bad f i k ≡ None → (j : ℕ) → i ≤ j → j < i + k → f j ≡ true
all_good f zero i e j l h = absurd (omega arith)
all_good f (suc k) i e j l h = go (f i) refl e (λ e m. all_good f k (i + 1) e j (omega arith) (omega arith))
  where
    go : (b : Bool) → f i ≡ b → cond (not b) (Some i) (first_bad f (i + 1) k) ≡ None
        → (first_bad f (i + 1) k ≡ None → i < j → f j ≡ true)
        → f j ≡ true
    go false q e r = cc
    go true q e r =
        elim (cases_lt i j) [ inl m ↦ r e m | inr m ↦ let s : j ≡ i = omega arith in ap f s ∙ q ]

pub good_all : (f : ℕ → Bool) (k i : ℕ) → ((j : ℕ) → i ≤ j → j < i + k → f j ≡ true) → first_bad f i k ≡ None
good_all f zero i h = refl
good_all f (suc k) i h =
    rw (h i (omega arith) (omega arith)) (good_all f k (i + 1) (λ j l m. h j (omega arith) (omega arith)))

module _ (area : List ℕ) where
  pub fault_short : length area < shortest → fault area ≡ Some NoRecord
  unfolding fault
  fault_short l = grind (arith, nat_tests)

  pub fault_count : shortest ≤ length area → capacity_of area < count_of area → fault area ≡ Some (Broken count_at)
  unfolding fault
  fault_count l h = grind (arith, nat_tests)

  module _ (long : shortest ≤ length area) (held : count_of area ≤ capacity_of area) where
    pub fault_later : fault area
        ≡ or_later place_at (first_bad (place_is_good area) 0 8)
        (or_later record_at (first_bad (record_is_good area) 0 (count_of area)) None)
    unfolding fault
    fault_later = grind (arith, nat_tests)

    -- a bad place is the fault
    pub fault_place : (i : ℕ) → Some i ≡ first_bad (place_is_good area) 0 8 → fault area ≡ Some (Broken (place_at i))
    fault_place i e = rw (fault_later, ← e)

    -- where no place is bad, a bad record is the fault
    pub fault_record : (i : ℕ) → None ≡ first_bad (place_is_good area) 0 8
        → Some i ≡ first_bad (record_is_good area) 0 (count_of area)
        → fault area ≡ Some (Broken (record_at i))
    fault_record i e h = rw (fault_later, ← e, ← h)

    pub fault_none : None ≡ first_bad (place_is_good area) 0 8 → None ≡ first_bad (record_is_good area) 0 (count_of area)
        → fault area ≡ None
    fault_none e h = rw (fault_later, ← e, ← h)

  pub none_sound : fault area ≡ None → is_sound area ≡ true
  unfolding is_sound
  none_sound e = rw e

  pub sound_none : is_sound area ≡ true → fault area ≡ None
  unfolding is_sound
  sound_none e = none_is (fault area) e
    where
      none_is : (o : Option OpenFault) → is_none o ≡ true → o ≡ None
      none_is None e = refl
      none_is (Some x) e = cc

-- what an area that opening accepts keeps to
pub record Sound (area : List ℕ) : Type 0 where
  pub long : shortest ≤ length area
  pub held : count_of area ≤ capacity_of area
  pub places : (i : ℕ) → i < 8 → place_is_good area i ≡ true
  pub records : (i : ℕ) → i < count_of area → record_is_good area i ≡ true

pub sound_from : (area : List ℕ) → Sound area → is_sound area ≡ true
sound_from area s =
    none_sound area (fault_none area s.long s.held
    (sym (good_all (place_is_good area) 8 0 (λ j l h. s.places j (omega arith))))
    (sym (good_all (record_is_good area) (count_of area) 0 (λ j l h. s.records j (omega arith)))))

-- a bad part is a fault
or_none : (at : ℕ → ℕ) (o : Option ℕ) (x : Option OpenFault) → or_later at o x ≡ None → (o ≡ None) × (x ≡ None)
or_none at None x e = (refl, e)
or_none at (Some i) x e = cc

pub sound_parts : (area : List ℕ) → is_sound area ≡ true → Sound area
sound_parts area e =
    let none = sound_none area e in
    let long : shortest ≤ length area = grind (arith, fault_short area) in
    let held : count_of area ≤ capacity_of area = grind (arith, fault_count area long) in
    let p = or_none place_at (first_bad (place_is_good area) 0 8)
    (or_later record_at (first_bad (record_is_good area) 0 (count_of area)) None)
    (sym (fault_later area long held) ∙ none) in
    let q = or_none record_at (first_bad (record_is_good area) 0 (count_of area)) None p.1 in
    record {
      long = long;
      held = held;
      places = λ i m. all_good (place_is_good area) 8 0 p.0 i (omega arith) (omega arith);
      records = λ i m. all_good (record_is_good area) (count_of area) 0 q.0 i (omega arith) (omega arith);
    }
