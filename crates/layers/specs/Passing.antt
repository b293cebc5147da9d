-- What once-only is for: over a whole list of commands each of them acts once at most.
use Rattle.std.specs.Prelude.{◌≡◌, ℕ, Bool, true, false, cond, not, ◌&&◌, ◌||◌, List, [], ◌∷◌, ◌++◌, ◌==◌, nat_le, nat_lt}
use Rattle.command.specs.declared.Command.{Command}
use Rattle.machine.specs.Rules.{Rule, after}
use Rattle.layers.specs.Once.{once_start, once_rule, serial_of, below_once}

-- the command is of an origin from 0 to 31, and its serial is higher than each that this origin has used
abbrev pub goes_lower : List ℕ → Command → Bool
goes_lower s c = nat_le c.origin 31 && nat_lt (serial_of s c.origin) c.serial

-- the commands of a list that went lower, in their order
abbrev pub passed : Rule → List ℕ → List Command → List Command
passed lower s [] = []
passed lower s (c ∷ cs) =
    cond (goes_lower s c) (c ∷ passed lower (once_rule lower s c).0 cs) (passed lower (once_rule lower s c).0 cs)

-- one origin and one serial
abbrev pub is_same : Command → Command → Bool
is_same c d = c.origin == d.origin && c.serial == d.serial

abbrev pub occurs : Command → List Command → Bool
occurs c [] = false
occurs c (d ∷ ds) = is_same c d || occurs c ds

-- no two commands of the list have one origin and one serial
abbrev pub none_twice : List Command → Bool
none_twice [] = true
none_twice (c ∷ cs) = not (occurs c cs) && none_twice cs

-- over a list of commands from the start, the machine below did what the passed commands tell it and nothing else, and
-- among those no origin and serial occurs twice
pub record ActedOnce (lower : Rule) (start : List ℕ) (cs : List Command) : Type 0 where
  pub acted :
      below_once (after (once_rule lower) (once_start start) cs) ≡ after lower start (passed lower (once_start start) cs)
  pub once : none_twice (passed lower (once_start start) cs) ≡ true

abbrev pub ActsOnce : Rule → Type 0
ActsOnce lower = (start : List ℕ) (cs : List Command) → ActedOnce lower start cs

-- none of the list has c's origin and a higher serial
abbrev pub still_highest : Command → List Command → Bool
still_highest c [] = true
still_highest c (d ∷ ds) = not (d.origin == c.origin && nat_lt c.serial d.serial) && still_highest c ds

-- over a list of commands from the start: where c went lower and its serial is still its origin's highest, the same
-- origin and serial again changes nothing and gets the answer that c got
abbrev pub SameAnswer : Rule → Type 0
SameAnswer lower =
    (start : List ℕ) (cs ds : List Command) (c d : Command)
    → goes_lower (after (once_rule lower) (once_start start) cs) c ≡ true
    → still_highest c ds ≡ true
    → is_same c d ≡ true
    → once_rule lower (after (once_rule lower) (once_start start) (cs ++ (c ∷ ds))) d
    ≡ (
      after (once_rule lower) (once_start start) (cs ++ (c ∷ ds)),
      (once_rule lower (after (once_rule lower) (once_start start) cs) c).1,
    )
