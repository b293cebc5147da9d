use Rattle.std.proofs.Common.{◌≡◌, drop}
use Rattle.listing.specs.Numbers.{numeral, max64}
use Rattle.listing.proofs.Figures.{value_from}
use Rattle.listing.proofs.numerals.number_of.Given as goal

abbrev pub invariant-loop-b : goal.invariant-loop-b
invariant-loop-b l = numeral max64 l.word ≡ value_from max64 l.number (drop l.b-index l.word)
