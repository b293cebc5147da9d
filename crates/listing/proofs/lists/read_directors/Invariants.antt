use Rattle.std.proofs.Common.{◌≡◌, ◌+◌, length, vec_items}
use Rattle.listing.specs.Reading.{directors}
use Rattle.listing.proofs.Whole.{bytes, after_bytes}
use Rattle.listing.proofs.lists.read_directors.Given as goal

abbrev pub invariant-loop-word : goal.invariant-loop-word
invariant-loop-word l =
    (length (vec_items l.members) + length l.word-iterator ≡ length l.fn.words) ×
    (bytes (directors l.fn.words) ≡ after_bytes (vec_items l.members) (bytes (directors l.word-iterator)))
