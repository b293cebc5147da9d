use Rattle.std.proofs.Common.{◌≡◌, ◌+◌, length, vec_items}
use Rattle.std.specs.Iterator.Adapters.{zip_first, zip_second}
use Rattle.listing.specs.Reading.{entries_from}
use Rattle.listing.proofs.Whole.{after}
use Rattle.listing.proofs.lists.read_entries.Given as goal

abbrev pub invariant-loop-line : goal.invariant-loop-line
invariant-loop-line l =
    ((zip_first l.line-iterator).start + length (zip_second l.line-iterator) ≡ 2 + length l.fn.lines) ×
    (entries_from 2 l.fn.lines ≡
    after (vec_items l.commands) (entries_from (zip_first l.line-iterator).start (zip_second l.line-iterator)))
