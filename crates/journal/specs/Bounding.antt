-- The numbers of a journal that decide whether it takes a write.
use Rattle.std.specs.Prelude.{◌≡◌, Bool}
use Rattle.journal.specs.declared.bounds.Bounds.{Bounds}
use Rattle.journal.specs.declared.writes.Write.{Write}
use Rattle.journal.specs.Meaning.{Meaning, settled_count, taken}

-- the answer for a write is that of each journal that has these numbers
pub record Decides (b : Bounds) (w : Write) (r : Bool) : Type 0 where
  pub tells : (m : Meaning) → b.capacity ≡ m.capacity → b.promised ≡ m.promised → b.settled ≡ settled_count m
      → r ≡ taken w m
