-- What a command's verb means, and which commands may stand in a list.
use Rattle.std.specs.Prelude.{ℕ, ◌^◌, ◌<◌, Bool, true, false, cond, ◌&&◌, Some, None, Option, ◌==◌, nat_le}
use Rattle.command.specs.declared.Command.{Command}
use Rattle.command.specs.declared.verbs.Verb.{Verb}
use Rattle.command.specs.declared.verbs.Verb.TheVariants.{Noop, Add, Remove, Change}

-- a serial's width in bytes
abbrev pub serial_bytes : ℕ
serial_bytes = 4

-- each field lies within its width: verb 8 bits, origin, a and b 16, serial its own
pub record Sized (c : Command) : Type 0 where
  pub verb : c.verb < 256
  pub origin : c.origin < 256 ^ 2
  pub serial : c.serial < 256 ^ serial_bytes
  pub a : c.a < 256 ^ 2
  pub b : c.b < 256 ^ 2

-- the kind of change that a verb's number stands for: 0 the no-op, 1 add, 2 remove, 16 and above a change for the
-- machine
abbrev pub verb_of : ℕ → Option Verb
verb_of n =
    cond (n == 0) (Some Noop)
    (cond (n == 1) (Some Add) (cond (n == 2) (Some Remove) (cond (nat_le 16 n) (Some Change) None)))

-- origin, serial and b are 0, as they must be where the verb does not use them
abbrev pub untold : Command → Bool
untold c = c.origin == 0 && c.serial == 0 && c.b == 0

-- the fields fit the kind: a no-op uses none, add and remove name a director from 0 to 31 in a, the machine's use all
abbrev pub fits : Option Verb → Command → Bool
fits None c = false
fits (Some Noop) c = untold c && c.a == 0
fits (Some Add) c = untold c && nat_le c.a 31
fits (Some Remove) c = untold c && nat_le c.a 31
fits (Some Change) c = true

abbrev pub well_formed : Command → Bool
well_formed c = fits (verb_of c.verb) c
