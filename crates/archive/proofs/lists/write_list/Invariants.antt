use Rattle.std.proofs.Common.{◌≡◌, ◌+◌, length, take, drop}
use Rattle.archive.specs.Lists.{adds_refusal, list_refusal}
use Rattle.archive.specs.Writing.{Run}
use Rattle.archive.proofs.lists.write_list.Given as goal

-- the commands so far went in, and those that are left are refused as the list was to be
abbrev pub invariant-loop-i : goal.invariant-loop-i
invariant-loop-i l =
    Run l.area l.open l.members (take l.i l.commands)
    × (adds_refusal l.area l.open (l.i + 1) (drop l.i l.commands) ≡ list_refusal l.fn.area l.members l.commands)
    × (length l.area ≡ length l.fn.area)
