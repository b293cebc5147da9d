-- The ledger: 64 hosts share 512 addresses.
use Rattle.std.specs.Prelude.{◌≡◌, ℕ, ◌+◌, ◌-◌, Bool, cond, ◌&&◌, List, [], ◌∷◌, replicate, sum, ◌==◌, nat_le, slice_index, slice_set}
use Rattle.command.specs.declared.Command.{Command}
use Rattle.machine.specs.declared.denials.Denial.TheVariants.{NoEffect}
use Rattle.machine.specs.Denials.{number}
use Rattle.machine.specs.Rules.{after}

-- the state is the list of what the 64 hosts hold, nothing at first
abbrev pub ledger_start : List ℕ
ledger_start = replicate 64 0

-- how many addresses a host holds; 0 where there is no such host
abbrev pub holding_of : List ℕ → ℕ → ℕ
holding_of s h = slice_index s h

-- how many addresses no host holds
abbrev pub free_of : List ℕ → ℕ
free_of s = 512 - sum s

-- verb 16 gives host a, from 0 to 63, b free addresses, at least 1: all of them or none
abbrev pub gives : List ℕ → Command → Bool
gives s c = c.verb == 16 && nat_le c.a 63 && nat_le 1 c.b && nat_le c.b (free_of s)

-- verb 17 takes back b of the addresses that host a, from 0 to 63, holds, at least 1
abbrev pub takes_back : List ℕ → Command → Bool
takes_back s c = c.verb == 17 && nat_le c.a 63 && nat_le 1 c.b && nat_le c.b (holding_of s c.a)

-- host h holds n now, which is the answer
abbrev pub now_holds : List ℕ → ℕ → ℕ → List ℕ × ℕ
now_holds s h n = (slice_set s h n, n)

-- both answer the new holding; any other command does nothing
abbrev pub ledger_rule : List ℕ → Command → List ℕ × ℕ
ledger_rule s c =
    cond (gives s c) (now_holds s c.a (holding_of s c.a + c.b))
    (cond (takes_back s c) (now_holds s c.a (holding_of s c.a - c.b)) (s, number NoEffect))

-- how many addresses host h got over a list of commands, and how many it gave back
abbrev pub given : List ℕ → List Command → ℕ → ℕ
given s [] h = 0
given s (c ∷ cs) h = cond (gives s c && c.a == h) c.b 0 + given (ledger_rule s c).0 cs h

abbrev pub returned : List ℕ → List Command → ℕ → ℕ
returned s [] h = 0
returned s (c ∷ cs) h = cond (takes_back s c && c.a == h) c.b 0 + returned (ledger_rule s c).0 cs h

-- whatever commands came since the start, the holdings of all hosts and the free addresses are 512 together
abbrev pub AddressesShared : Type 0
AddressesShared =
    (cs : List Command) → sum (after ledger_rule ledger_start cs) + free_of (after ledger_rule ledger_start cs) ≡ 512

-- whatever commands came since the start, what a host gave back and what it still holds is what it got
abbrev pub HoldingsBalanced : Type 0
HoldingsBalanced =
    (cs : List Command) (h : ℕ)
    → returned ledger_start cs h + holding_of (after ledger_rule ledger_start cs) h ≡ given ledger_start cs h
