use Rattle.std.proofs.Common.{◌≡◌, ◌+◌, ◌≤◌, length}
use Rattle.archive.specs.Reading.{scan_all, counted, counted_as}
use Rattle.archive.proofs.reading.count_entries.Given as goal

-- those counted so far and those that are left are all
abbrev pub invariant-loop-count : goal.invariant-loop-count
invariant-loop-count l =
    let left = scan_all l.left.end l.left.rest.now in
    (goal.iterator-loop-count).can_next l.left
    × (goal.iterator-loop-count).is_finite l.left
    × (l.count + length l.left.rest.now ≤ length l.initial.left.rest.now)
    × (counted_as (l.count + length left.commands) left.broken ≡ counted (scan_all l.initial.left.end
    l.initial.left.rest.now))
