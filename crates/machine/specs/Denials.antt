-- The answers that say why a machine did nothing.
use Rattle.std.specs.Prelude.{ℕ, Result, Ok, Err}
use Rattle.machine.specs.declared.denials.Denial.{Denial}
use Rattle.machine.specs.declared.denials.Denial.TheVariants.{Frozen, UnknownOrigin, OldSerial, NoEffect}

-- the number of each: the last four of the answers, which go from 0 to 65,535
abbrev pub number : Denial → ℕ
number Frozen = 65532
number UnknownOrigin = 65533
number OldSerial = 65534
number NoEffect = 65535

-- what a machine answers: what a change gave, or why there was none
abbrev pub told : Result ℕ Denial → ℕ
told (Ok answer) = answer
told (Err denial) = number denial
