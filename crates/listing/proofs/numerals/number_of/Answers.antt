use Rattle.std.proofs.Common.{arith}
use Rattle.listing.proofs.Figures.{numeral_starts}
use Rattle.listing.proofs.numerals.number_of.Goals as goal

pub loop-b-init : goal.loop-b-init
loop-b-init c = numeral_starts _ c.args.word.now (grind arith) (λ z. grind arith)
