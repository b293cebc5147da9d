-- The meaning of an area keeps to the bounds of every journal.
use Rattle.std.specs.Prelude.{◌≤◌, List, ℕ, length}
use Rattle.std.proofs.Common.{arith}
use Rattle.std.proofs.lemmas.List.FromFn.{length-map-range_with_len}
use Rattle.journal.specs.Meaning.{Within}
use Rattle.area_journal.specs.Reading.{shortest, capacity_of, count_of, command_in, entry_in, meaning_of}

pub within_of : (area : List ℕ) → shortest ≤ length area → count_of area ≤ capacity_of area → Within (meaning_of area)
unfolding meaning_of
within_of area long held =
    let count = length-map-range_with_len (command_in area) 0 (count_of area) in
    record {
      some = omega arith;
      most = omega arith;
      held = omega arith;
      eight = length-map-range_with_len (entry_in area) 0 8;
    }
