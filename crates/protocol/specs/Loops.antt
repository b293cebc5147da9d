-- "As long as" means as long as: eight turns are enough for each loop, so that its test fails after them.
use Rattle.std.specs.Prelude.{◌≡◌, ℕ, ◌+◌, ◌<◌, ◌≤◌, true, false, List, length, is_some}
use Rattle.std.specs.List.{All}
use Rattle.command.specs.Commands.{well_formed}
use Rattle.journal.specs.declared.writes.Write.{Write}
use Rattle.journal.specs.Laws.{Leads}
use Rattle.journal.specs.Meaning.{blank, fresh}
use Rattle.journal.specs.Windows.{span, element_at}
use Rattle.protocol.specs.Desks.{Role, following, standing, Desk, left, promised, settled_by}
use Rattle.protocol.specs.Settling.{backed, advance, told_settled, catch_up}
use Rattle.protocol.specs.Calls.{proposal, propose_all}
use Rattle.protocol.specs.Runs.{World, Cluster, Event, Run, desk_of}

-- a leader has promised a ballot, and what waits or is reported is well formed
abbrev pub SoundRole : Desk → Role → Type 0
SoundRole d following = Unit {0}
SoundRole d (standing q line reports) =
    (1 ≤ promised d) × All (λ c. well_formed c ≡ true) line
    × ((n : ℕ) → settled_by d < n → n ≤ settled_by d + span → 1 ≤ (element_at blank reports n).ballot
    → well_formed (element_at blank reports n).command ≡ true)

-- a desk as it can be: the journal took all its writes, from a new one on, and there are eight acknowledgements
pub record Sound (d : Desk) : Type 0 where
  pub capacity : ℕ
  pub history : List Write
  pub journal : Leads (fresh capacity) history d.journal
  pub eight : length d.state.acks ≡ span
  pub role : SoundRole d d.state.role

pub record LoopsEnd : Type 0 where
  -- in a run every desk is sound, unless a restart is outstanding
  pub sound : (k : Cluster) (es : List Event) (w : World) (d : ℕ) → Run k es w → (w.seats d).outstanding ≡ false
      → Sound (desk_of (w.seats d))
  pub advances : (d : Desk) → Sound d → backed (left d (advance d)) ≡ false
  pub catches_up : (b u : ℕ) (d : Desk) → Sound d → 1 ≤ b → told_settled b u (left d (catch_up b u d)) ≡ false
  pub proposes : (d : Desk) → Sound d → is_some (proposal (left d (propose_all d))) ≡ false
