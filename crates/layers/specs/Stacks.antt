-- The stack: once-only over freeze over the pool.
use Rattle.std.specs.Prelude.{ℕ, ◌≤◌, List}
use Rattle.command.specs.declared.Command.{Command}
use Rattle.layers.specs.declared.freezing.Freeze.{Freeze}
use Rattle.layers.specs.declared.once.OnceOnly.{OnceOnly}
use Rattle.machine.specs.Rules.{Rule, after}
use Rattle.machine.specs.Pools.{pool_start, pool_rule, weight}
use Rattle.layers.specs.Freezing.{freeze_state, freeze_start, freeze_rule, below_freeze}
use Rattle.layers.specs.Once.{once_state, once_start, once_rule, below_once}

-- the pool at the bottom is seen as its state
abbrev pub stack_state : OnceOnly (Freeze (List ℕ)) → List ℕ
stack_state s = once_state (freeze_state (λ t. t)) s

-- the pool below both layers
abbrev pub stack_pool : OnceOnly (Freeze (List ℕ)) → List ℕ
stack_pool s = s.lower.lower

abbrev pub stack_start : List ℕ
stack_start = once_start (freeze_start pool_start)

abbrev pub stack_rule : Rule
stack_rule = once_rule (freeze_rule pool_rule)

-- a backend's weight, below both layers
abbrev pub stack_weight : List ℕ → ℕ → ℕ
stack_weight s k = weight (below_freeze (below_once s)) k

-- whatever commands came since the start, no weight exceeds 1,000
abbrev pub StackBounded : Type 0
StackBounded = (cs : List Command) (k : ℕ) → stack_weight (after stack_rule stack_start cs) k ≤ 1000
