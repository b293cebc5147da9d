-- The ledger's 512 addresses: what one host gets or gives back leaves the sum as it is.
use Rattle.std.proofs.Common.{◌≡◌, ℕ, ◌+◌, ◌-◌, ◌<◌, ◌≤◌, Bool, true, false, cond, ◌&&◌, eqb, List, [], ◌∷◌, length, get_or, set, replicate, sum, refl, arith}
use Rattle.std.proofs.lemmas.List.{length-set, length-replicate, get_or_past, get_or-replicate}
use Rattle.std.proofs.lemmas.List.Sums.{sum_by-set}
use Rattle.std.proofs.lemmas.Bool.{cond_both}
use Rattle.std.proofs.lemmas.Bool.Decides.{nat_tests}
use Rattle.command.specs.declared.Command.{Command}
use Rattle.machine.specs.Rules.{after}
use Rattle.machine.specs.Ledgers.{ledger_start, ledger_rule, holding_of, free_of, gives, takes_back, now_holds}
use Rattle.machine.specs.Ledgers.{given, returned, AddressesShared, HoldingsBalanced}
use Rattle.machine.proofs.Places.{get_d_set}
use Rattle.machine.proofs.Runs.{lasts}

-- what the hosts hold in all, once one of them holds more or less
pub sum_more : (xs : List ℕ) (i n : ℕ) → i < length xs → sum (set xs i (get_or xs i 0 + n)) ≡ sum xs + n
sum_more xs i n l = omega (arith, sum_by-set (λ x. x) xs i (get_or xs i 0 + n) 0 l)

pub sum_less : (xs : List ℕ) (i n : ℕ) → i < length xs → n ≤ get_or xs i 0
    → sum (set xs i (get_or xs i 0 - n)) + n ≡ sum xs
sum_less xs i n l h = omega (arith, sum_by-set (λ x. x) xs i (get_or xs i 0 - n) 0 l)

-- 64 hosts hold at most 512
pub record Sound (s : List ℕ) : Type 0 where
  pub long : length s ≡ 64
  pub within : sum s ≤ 512

-- what a command that gives or takes back tells
gives_tells : (s : List ℕ) (c : Command) → Sound s → gives s c ≡ true → (c.a < length s) × (c.b ≤ free_of s)
gives_tells s c h e = (grind (arith, nat_tests), grind (arith, nat_tests))

takes_tells : (s : List ℕ) (c : Command) → Sound s → takes_back s c ≡ true
    → (c.a < length s) × (c.b ≤ holding_of s c.a)
takes_tells s c h e = (grind (arith, nat_tests), grind (arith, nat_tests))

not_both : (s : List ℕ) (c : Command) → gives s c ≡ true → takes_back s c ≡ true → ⊥
not_both s c g t = grind (arith, nat_tests)

stays_sound : (s : List ℕ) (c : Command) → Sound s → Sound (ledger_rule s c).0
stays_sound s c h =
    cond_both (gives s c) _ _ (λ (r : List ℕ × ℕ). Sound r.0)
    (λ g.
    let (l, f) = gives_tells s c h g in
    record {
      long = simp length-set h.long;
      within = omega (arith, h.within, sum_more s c.a c.b l);
    })
    (λ _.
    cond_both (takes_back s c) _ _ (λ (r : List ℕ × ℕ). Sound r.0)
    (λ t.
    let (l, f) = takes_tells s c h t in
    record {
      long = simp length-set h.long;
      within = omega (arith, h.within, sum_less s c.a c.b l f);
    })
    (λ _. h))

zeros_hold : (n k : ℕ) → holding_of (replicate n 0) k ≡ 0
zeros_hold n k = grind (arith, get_or-replicate, get_or_past, length-replicate)

start_sound : Sound ledger_start
start_sound = record { long = refl; within = omega arith }

pub addresses_shared : AddressesShared
addresses_shared cs = omega (arith, (lasts ledger_rule Sound stays_sound ledger_start cs start_sound).within)

-- what one command moves to or from host h
moved : (g t : Bool) (s : List ℕ) (a b h : ℕ)
    → (g ≡ true → a < length s)
    → (t ≡ true → (a < length s) × (b ≤ get_or s a 0))
    → (g ≡ true → t ≡ true → ⊥)
    → cond (t && eqb a h) b 0
    + holding_of (cond g (now_holds s a (get_or s a 0 + b)) (cond t (now_holds s a (get_or s a 0 - b)) (s, 65535))).0 h
    ≡ cond (g && eqb a h) b 0 + holding_of s h
moved true true s a b h p q r = absurd (r refl refl)
moved true false s a b h p q r = grind (arith, nat_tests, get_d_set s a h (get_or s a 0 + b) (p refl))
moved false true s a b h p q r = grind (arith, nat_tests, (q refl).1, get_d_set s a h (get_or s a 0 - b) (q refl).0)
moved false false s a b h p q r = omega arith

balance : (s : List ℕ) (cs : List Command) (h : ℕ) → Sound s
    → returned s cs h + holding_of (after ledger_rule s cs) h ≡ given s cs h + holding_of s h
balance s [] h k = refl
balance s (c ∷ cs) h k =
    let rest = balance (ledger_rule s c).0 cs h (stays_sound s c k) in
    let step =
    moved (gives s c) (takes_back s c) s c.a c.b h (λ g. (gives_tells s c k g).0) (takes_tells s c k)
    (not_both s c) in
    omega arith

pub holdings_balanced : HoldingsBalanced
holdings_balanced cs k = omega (arith, balance ledger_start cs k start_sound, zeros_hold 64 k)
