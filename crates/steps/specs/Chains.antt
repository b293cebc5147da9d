-- What the chains of the window tell.
use Rattle.std.specs.Prelude.{◌≡◌, ℕ, ◌+◌, ◌<◌, ◌≤◌, List, [], ◌∷◌, ◌++◌, length}
use Rattle.command.specs.declared.Command.{Command}
use Rattle.command.specs.Chains.{chain_for}
use Rattle.command.specs.Members.{Membership}
use Rattle.journal.specs.Windows.{span, element_at}
use Rattle.steps.specs.declared.chains.Chains.{Chains}

-- after the settled commands cs, from founding chain f: the chain for each slot of the window
pub record Tells (f : Membership) (cs : List Command) (chains : Chains) : Type 0 where
  pub count : chains.settled ≡ length cs
  pub each : (n : ℕ) (other : Membership) → length cs < n → n ≤ length cs + span
      → element_at other chains.places n ≡ chain_for f cs n

-- the chain r is the one for slot n
abbrev pub Told : Chains → ℕ → Membership → Type 0
Told chains n r =
    (f : Membership) (cs : List Command) → Tells f cs chains → length cs < n → n ≤ length cs + span
    → r ≡ chain_for f cs n

-- one more command is settled
abbrev pub Follows : Chains → Command → Chains → Type 0
Follows before c chains =
    (f : Membership) (cs : List Command) → Tells f cs before → Tells f (cs ++ (c ∷ [])) chains
