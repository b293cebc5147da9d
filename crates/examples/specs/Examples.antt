-- Worked examples of the rules.
use Rattle.std.specs.Prelude.{◌≡◌, ℕ, true, false, List, [], ◌∷◌, length, Some}
use Rattle.command.specs.declared.Command.{Command}
use Rattle.command.specs.Chains.{chain_for}
use Rattle.command.specs.Members.{founded}
use Rattle.command.specs.Quorums.{enough}
use Rattle.command.specs.Sets.{set_of}
use Rattle.archive.specs.Layout.{layout}
use Rattle.archive.specs.Reading.{entry_of}
use Rattle.machine.specs.Ledgers.{ledger_rule, ledger_start}
use Rattle.machine.specs.Pools.{pool_rule, pool_start}
use Rattle.machine.specs.Rules.{Rule}
use Rattle.layers.specs.Stacks.{stack_rule, stack_start}

abbrev pub noop : Command
noop = record { verb = 0; origin = 0; serial = 0; a = 0; b = 0 }

abbrev pub remove : ℕ → Command
remove d = record { verb = 2; origin = 0; serial = 0; a = d; b = 0 }

-- a change by origin 3
abbrev pub change : ℕ → ℕ → ℕ → ℕ → Command
change verb serial a b = record { verb = verb; origin = 3; serial = serial; a = a; b = b }

-- what a machine answers to a list of commands, one after another
abbrev pub answers : Rule → List ℕ → List Command → List ℕ
answers rule s [] = []
answers rule s (c ∷ cs) = (rule s c).1 ∷ answers rule (rule s c).0 cs

abbrev pub three : List ℕ
three = 0 ∷ 1 ∷ 2 ∷ []

-- two no-ops, and slot 3 removes director 1
abbrev pub third : List Command
third = noop ∷ noop ∷ remove 1 ∷ []

pub record Examples : Type 0 where
  -- {0, 5} is not enough for chain 0, 1, 2, and {0, 2} is
  pub no_quorum : enough three (set_of (0 ∷ 5 ∷ [])) ≡ false
  pub quorum : enough three (set_of (0 ∷ 2 ∷ [])) ≡ true
  -- slot 3 removes 1: slot 10 counts three members, slot 11 two
  pub slot_10 : length (chain_for (founded three) third 10).members ≡ 3
  pub slot_11 : length (chain_for (founded three) third 11).members ≡ 2
  -- backend 5 is set to 100, to 40, and drained; weight 1,001 and backend 64 are denied
  pub pool : answers pool_rule pool_start (change 16 1 5 100 ∷ change 16 2 5 40 ∷ change 17 3 5 0 ∷ [])
      ≡ 0 ∷ 100 ∷ 40 ∷ []
  pub pool_denied : answers pool_rule pool_start (change 16 1 5 1001 ∷ change 16 2 64 1 ∷ []) ≡ 65535 ∷ 65535 ∷ []
  -- host 1 takes 512 addresses, host 2 is denied one, host 1 gives 12 back and holds 500
  pub ledger : answers ledger_rule ledger_start (change 16 1 1 512 ∷ change 16 2 2 1 ∷ change 17 3 1 12 ∷ [])
      ≡ 512 ∷ 65535 ∷ 500 ∷ []
  -- frozen, serial 8 is held back; after the thaw as serial 9 it is an old one
  pub frozen : answers stack_rule stack_start
      (change 48 7 0 0 ∷ change 16 8 5 100 ∷ change 49 9 0 0 ∷ change 16 8 5 100 ∷ [])
      ≡ 0 ∷ 65532 ∷ 0 ∷ 65534 ∷ []
  -- chain 0 and no entries
  pub empty_file : layout (0 ∷ []) [] ≡ 0x48 ∷ 0x50 ∷ 0x41 ∷ 0x31 ∷ 1 ∷ 0 ∷ 0 ∷ 0 ∷ []
  -- chain 0, 1, 2, a no-op and remove 1: 13 bytes, the entries at 8 and 9
  pub small_file : layout three (noop ∷ remove 1 ∷ [])
      ≡ 0x48 ∷ 0x50 ∷ 0x41 ∷ 0x31 ∷ 3 ∷ 0 ∷ 1 ∷ 2 ∷ 0 ∷ 2 ∷ 1 ∷ 2 ∷ 0 ∷ []
  pub first_entry : entry_of three (noop ∷ remove 1 ∷ []) 1 ≡ Some (8, 0 ∷ [])
  pub second_entry : entry_of three (noop ∷ remove 1 ∷ []) 2 ≡ Some (9, 2 ∷ 1 ∷ [])
