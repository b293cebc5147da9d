-- Once-only over any machine.
use Rattle.std.specs.Prelude.{ℕ, ◌+◌, Bool, cond, ◌||◌, Option, None, Some, List, ◌++◌, map, take, drop, replicate, ◌==◌, nat_lt, slice_index, slice_set}
use Rattle.command.specs.declared.Command.{Command}
use Rattle.layers.specs.declared.once.Kept.{Kept}
use Rattle.layers.specs.declared.once.OnceOnly.{OnceOnly}
use Rattle.machine.specs.declared.denials.Denial.TheVariants.{UnknownOrigin, OldSerial}
use Rattle.machine.specs.Denials.{number}
use Rattle.machine.specs.Rules.{Rule}

-- the serial that is kept of an origin, and what it was answered; 0 stands for none
abbrev pub kept_serial : Option Kept → ℕ
kept_serial None = 0
kept_serial (Some k) = k.serial

abbrev pub kept_answer : Option Kept → ℕ
kept_answer None = 0
kept_answer (Some k) = k.answer

-- the highest serials of the origins 0 to 31, then what they were answered, in front of the state below
abbrev pub memory : List (Option Kept) → List ℕ → List ℕ
memory ks s = map kept_serial ks ++ (map kept_answer ks ++ s)

-- the state: what is kept, and then the state of the machine below
abbrev pub once_state : {M : Type 0} → (M → List ℕ) → OnceOnly M → List ℕ
once_state state o = memory o.kept (state o.lower)

-- at first nothing is kept
abbrev pub once_start : List ℕ → List ℕ
once_start s = replicate 64 0 ++ s

-- an origin's highest serial, and what that was answered
abbrev pub serial_of : List ℕ → ℕ → ℕ
serial_of s origin = slice_index s origin

abbrev pub answer_of : List ℕ → ℕ → ℕ
answer_of s origin = slice_index s (32 + origin)

abbrev pub below_once : List ℕ → List ℕ
below_once s = drop 64 s

-- the command's serial and its answer are kept now, and the machine below has this state
abbrev pub keeps : List ℕ → Command → List ℕ × ℕ → List ℕ × ℕ
keeps s c r = (slice_set (slice_set (take 64 s) c.origin c.serial) (32 + c.origin) r.1 ++ r.0, r.1)

-- the serial is 0, or lower than the kept one
abbrev pub is_old : List ℕ → Command → Bool
is_old s c = c.serial == 0 || nat_lt c.serial (serial_of s c.origin)

-- the serial is the kept one
abbrev pub is_repeat : List ℕ → Command → Bool
is_repeat s c = c.serial == serial_of s c.origin

-- an origin above 31 is unknown; an old serial is denied; a repeated one is answered as it was; only a higher one goes
-- lower, and is kept with whatever the machine below answered
abbrev pub once_rule : Rule → Rule
once_rule lower s c =
    cond (nat_lt 31 c.origin) (s, number UnknownOrigin)
    (cond (is_old s c) (s, number OldSerial)
    (cond (is_repeat s c) (s, answer_of s c.origin) (keeps s c (lower (below_once s) c))))
