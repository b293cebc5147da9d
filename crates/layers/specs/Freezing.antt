-- Freeze over any machine.
use Rattle.std.specs.Prelude.{◌≡◌, ℕ, Bool, true, cond, not, ◌&&◌, List, [], ◌∷◌, drop, ◌==◌, slice_index}
use Rattle.command.specs.declared.Command.{Command}
use Rattle.layers.specs.declared.freezing.Freeze.{Freeze}
use Rattle.machine.specs.declared.denials.Denial.TheVariants.{Frozen}
use Rattle.machine.specs.Denials.{number}
use Rattle.machine.specs.Rules.{Rule, after}

-- the state: 1 while frozen, else 0, and then the state of the machine below
abbrev pub freeze_state : {M : Type 0} → (M → List ℕ) → Freeze M → List ℕ
freeze_state state f = cond f.frozen 1 0 ∷ state f.lower

-- not frozen at first
abbrev pub freeze_start : List ℕ → List ℕ
freeze_start s = 0 ∷ s

abbrev pub is_frozen : List ℕ → Bool
is_frozen s = slice_index s 0 == 1

abbrev pub below_freeze : List ℕ → List ℕ
below_freeze s = drop 1 s

-- verb 48 freezes, verb 49 thaws, whatever the other fields are
abbrev pub freezes : Command → Bool
freezes c = c.verb == 48

abbrev pub thaws : Command → Bool
thaws c = c.verb == 49

-- both answer 0; while frozen any other command is denied, else it goes lower
abbrev pub freeze_rule : Rule → Rule
freeze_rule lower s c =
    cond (freezes c) (1 ∷ below_freeze s, 0)
    (cond (thaws c) (0 ∷ below_freeze s, 0)
    (cond (is_frozen s) (s, number Frozen) (0 ∷ (lower (below_freeze s) c).0, (lower (below_freeze s) c).1)))

-- no command of the list thaws
abbrev pub no_thaw : List Command → Bool
no_thaw [] = true
no_thaw (c ∷ cs) = not (thaws c) && no_thaw cs

-- t is frozen, and below it is what was below s
pub record Still (s t : List ℕ) : Type 0 where
  pub frozen : is_frozen t ≡ true
  pub below : below_freeze t ≡ below_freeze s

-- while frozen nothing below changes: a frozen state stays so, with the same below, over any list without a thaw
abbrev pub FrozenBelow : Rule → Type 0
FrozenBelow lower =
    (s : List ℕ) (cs : List Command) → is_frozen s ≡ true → no_thaw cs ≡ true → Still s (after (freeze_rule lower) s cs)
