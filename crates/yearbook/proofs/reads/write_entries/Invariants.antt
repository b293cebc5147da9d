use Rattle.std.proofs.Common.{◌≡◌, ◌++◌, string_bytes}
use Rattle.yearbook.specs.Years.{lines_left}
use Rattle.yearbook.proofs.reads.write_entries.Given as goal

-- what is written so far and the lines of the entries that are left are all
abbrev pub invariant-loop-entry : goal.invariant-loop-entry
invariant-loop-entry l =
    (goal.iterator-loop-entry).can_next l.entry-iterator
    × (goal.iterator-loop-entry).is_finite l.entry-iterator
    × (string_bytes l.text ++ lines_left l.entry-iterator ≡ string_bytes l.initial.text
    ++ lines_left l.initial.entry-iterator)
