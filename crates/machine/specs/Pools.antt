-- The pool: weights of 64 backends, of which none exceeds 1,000.
use Rattle.std.specs.Prelude.{ℕ, ◌≤◌, Bool, cond, ◌&&◌, List, replicate, ◌==◌, nat_le, slice_index, slice_set}
use Rattle.command.specs.declared.Command.{Command}
use Rattle.machine.specs.declared.denials.Denial.TheVariants.{NoEffect}
use Rattle.machine.specs.Denials.{number}
use Rattle.machine.specs.Rules.{after}

-- the state is the list of the 64 weights, all 0 at first
abbrev pub pool_start : List ℕ
pool_start = replicate 64 0

-- a backend's weight; 0 where there is no such backend
abbrev pub weight : List ℕ → ℕ → ℕ
weight s k = slice_index s k

-- verb 16 sets backend a, from 0 to 63, to the weight b, at most 1,000
abbrev pub sets : Command → Bool
sets c = c.verb == 16 && nat_le c.a 63 && nat_le c.b 1000

-- verb 17 with b = 0 drains backend a, from 0 to 63: its weight becomes 0
abbrev pub drains : Command → Bool
drains c = c.verb == 17 && nat_le c.a 63 && c.b == 0

-- both answer the old weight; any other command does nothing
abbrev pub pool_rule : List ℕ → Command → List ℕ × ℕ
pool_rule s c =
    cond (sets c) (slice_set s c.a c.b, weight s c.a)
    (cond (drains c) (slice_set s c.a 0, weight s c.a) (s, number NoEffect))

-- whatever commands came since the start, no weight exceeds 1,000
abbrev pub WeightsBounded : Type 0
WeightsBounded = (cs : List Command) (k : ℕ) → weight (after pool_rule pool_start cs) k ≤ 1000
