use Rattle.std.proofs.Common.{sym, ◌∙◌}
use Rattle.std.proofs.lemmas.Bool.{le-ltb}
use Rattle.command.proofs.Bits.{has_high}
use Rattle.command.proofs.sets.bit_is_set.Goals as goal

pub returns-else-place-lt32 : goal.returns-else-place-lt32
returns-else-place-lt32 c =
    le-ltb c.args.place 32 c.if-place-lt32.false
    ∙ sym (has_high c.args.bits c.args.place c.ranges.bits.fits c.if-place-lt32.false)
