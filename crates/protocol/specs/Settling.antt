-- How slots are settled.
use Rattle.std.specs.Prelude.{ℕ, ◌+◌, Bool, ◌&&◌, ◌==◌, nat_lt}
use Rattle.command.specs.declared.Command.{Command}
use Rattle.command.specs.Quorums.{enough}
use Rattle.journal.specs.declared.writes.Write.TheVariants.{Settle}
use Rattle.journal.specs.Windows.{span}
use Rattle.protocol.specs.Desks.{Desk, Step, settled_by, ack_of, forget, write, become, repeat, ◌▸◌}
use Rattle.protocol.specs.Rings.{chain_of, open_at}

-- settle a command in the next slot: the journal first (and the machine, for its commands), then both windows move
unfoldable pub settle : Command → Step
settle c d = (write (Settle c) ▸ become (forget (settled_by d + 1))) d

-- settle what is open in the next slot
unfoldable pub settle_open : Step
settle_open d = settle (open_at d (settled_by d + 1)).command d

-- the next slot's entry has the ballot of its acknowledgements, and their set is enough
unfoldable pub backed : Desk → Bool
backed d =
    ((open_at d (settled_by d + 1)).ballot == (ack_of d.state (settled_by d + 1)).ballot)
    && enough (chain_of d (settled_by d + 1)) (ack_of d.state (settled_by d + 1)).set.bits

-- advance: settle for as long as the next slot is backed
unfoldable pub advance : Step
advance = repeat backed settle_open span

-- a slot up to u is next, and its entry has this ballot
unfoldable pub told_settled : ℕ → ℕ → Desk → Bool
told_settled b u d = nat_lt (settled_by d) u && (open_at d (settled_by d + 1)).ballot == b

-- settle what the owner of the ballot has settled, as far as it is open here with that ballot
unfoldable pub catch_up : ℕ → ℕ → Step
catch_up b u = repeat (told_settled b u) settle_open span
