-- What a journal tells, by its bytes.
use Rattle.std.specs.Prelude.{◌≡◌, ℕ, ◌+◌, ◌-◌, ◌%◌, ◌<◌, ◌≤◌, true, false, cond, List, map}
use Rattle.std.proofs.Math.Path.{sym, ap₂}
use Rattle.std.proofs.Common.{arith}
use Rattle.std.specs.List.{range_with_len}
use Rattle.std.proofs.lemmas.List.FromFn.{length-map-range_with_len, get_or-map-range_with_len}
use Rattle.std.proofs.lemmas.List.{get_or_past}
use Rattle.std.proofs.lemmas.Bool.Decides.{nat_tests}
use Rattle.journal.specs.declared.writes.Entry.{Entry}
use Rattle.journal.specs.Meaning.{Within, settled_of, open_of, noop, blank}
use Rattle.journal.specs.Windows.{in_window}
use Rattle.area_journal.specs.Opening.{is_sound}
use Rattle.area_journal.specs.Reading.{count_of, command_in, entry_in, meaning_of}
use Rattle.area_journal.specs.Within.{within_of}
use Rattle.area_journal.proofs.Checks.{sound_parts}

-- the meaning of an area that opening accepts keeps to the bounds of every journal
pub within : (area : List ℕ) → is_sound area ≡ true → Within (meaning_of area)
within area h = let s = sound_parts area h in within_of area s.long s.held

module _ (area : List ℕ) (n : ℕ) where
  abbrev p : ℕ
  p = count_of area

  pub past_settled : p < n → settled_of (meaning_of area) n ≡ noop
  unfolding meaning_of
  past_settled h =
      let count = length-map-range_with_len (command_in area) 0 p in
      grind (arith, nat_tests, get_or_past (map (command_in area) (range_with_len 0 p)) (n - 1) noop)

  pub settled_here : 1 ≤ n → n ≤ p → settled_of (meaning_of area) n ≡ command_in area (n - 1)
  unfolding meaning_of
  settled_here l h =
      grind (arith, nat_tests, get_or-map-range_with_len (command_in area) 0 p (n - 1) (n - 1) noop)

  -- the window of the meaning is that of the count
  open_is : open_of (meaning_of area) n ≡ cond (in_window p n) (entry_in area (n % 8)) blank
  unfolding meaning_of
  open_is =
      ap₂ (λ (k : ℕ) (e : Entry). cond (in_window k n) e blank) (length-map-range_with_len (command_in area) 0 p)
      (get_or-map-range_with_len (entry_in area) 0 8 (n % 8) (n % 8) blank (omega arith) (omega arith))

  pub open_here : in_window p n ≡ true → open_of (meaning_of area) n ≡ entry_in area (n % 8)
  open_here h = rw (open_is, h)

  pub open_else : in_window p n ≡ false → open_of (meaning_of area) n ≡ blank
  open_else h = rw (open_is, h)

  -- the open entry of a settled slot is blank
  pub open_before : n ≤ p → blank ≡ open_of (meaning_of area) n
  open_before h = sym (open_else (grind (arith, nat_tests)))

  -- the open entry of a slot past the window is blank
  pub open_past : p + 8 < n → blank ≡ open_of (meaning_of area) n
  open_past h = sym (open_else (grind (arith, nat_tests)))
