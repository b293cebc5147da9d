-- The meaning of a journal: what it tells, which writes it takes, and what they change.
use Rattle.std.specs.Prelude.{◌≡◌, ℕ, ◌+◌, ◌-◌, ◌≤◌, Bool, cond, ◌&&◌, List, [], ◌∷◌, ◌++◌, length, replicate, ◌==◌, nat_le, nat_lt, slice_index_or}
use Rattle.command.specs.declared.Command.{Command}
use Rattle.command.specs.Commands.{well_formed}
use Rattle.journal.specs.declared.writes.Entry.{Entry}
use Rattle.journal.specs.declared.writes.Write.{Write}
use Rattle.journal.specs.declared.writes.Write.TheVariants.{Promise, Put, Settle}
use Rattle.journal.specs.Windows.{span, in_window, element_at, put_at}

-- what a journal holds: how many slots it has, the promised ballot, the commands of the settled slots in order, and the
-- open entries of the slots after them, by the window rule
pub record Meaning : Type 0 where
  pub capacity : ℕ
  pub promised : ℕ
  pub settled : List Command
  pub places : List Entry

abbrev pub noop : Command
noop = record { verb = 0; origin = 0; serial = 0; a = 0; b = 0 }

-- the entry of a slot in which nothing was put
abbrev pub blank : Entry
blank = record { ballot = 0; command = noop }

-- how many slots are settled
abbrev pub settled_count : Meaning → ℕ
settled_count m = length m.settled

-- a new journal
abbrev pub fresh : ℕ → Meaning
fresh c = record { capacity = c; promised = 0; settled = []; places = replicate span blank }

-- the command settled in slot n, elsewhere the no-op
abbrev pub settled_of : Meaning → ℕ → Command
settled_of m n = cond (n == 0) noop (slice_index_or m.settled (n - 1) noop)

-- the open entry of slot n, elsewhere the blank one
abbrev pub open_of : Meaning → ℕ → Entry
open_of m n = cond (in_window (settled_count m) n) (element_at blank m.places n) blank

-- when a write is taken
unfoldable pub taken : Write → Meaning → Bool
taken (Promise b) m = nat_le m.promised b
taken (Put n b c) m =
    (b == m.promised) && nat_le 1 b && in_window (settled_count m) n && nat_le n m.capacity && well_formed c
taken (Settle c) m = nat_lt (settled_count m) m.capacity && well_formed c

-- what a write that is taken leaves
unfoldable pub after : Write → Meaning → Meaning
after (Promise b) m =
    record { capacity = m.capacity; promised = b; settled = m.settled; places = m.places }
after (Put n b c) m =
    record {
      capacity = m.capacity;
      promised = m.promised;
      settled = m.settled;
      places = put_at m.places n (record { ballot = b; command = c });
    }
after (Settle c) m =
    record {
      capacity = m.capacity;
      promised = m.promised;
      settled = m.settled ++ (c ∷ []);
      places = put_at m.places (settled_count m + 1) blank;
    }

-- a write that is not taken changes nothing
unfoldable pub step : Write → Meaning → Meaning
step w m = cond (taken w m) (after w m) m

-- the write, if it is taken
unfoldable pub wrote : Write → Meaning → List Write
wrote w m = cond (taken w m) (w ∷ []) []

-- what a list of writes leaves, one after another
abbrev pub replay : Meaning → List Write → Meaning
replay m [] = m
replay m (w ∷ ws) = replay (step w m) ws

-- what is known of the meaning of every journal
pub record Within (m : Meaning) : Type 0 where
  pub some : 1 ≤ m.capacity
  pub most : m.capacity ≤ 60000
  pub held : settled_count m ≤ m.capacity
  pub eight : length m.places ≡ span

-- what a write does to a journal, by its meaning and the lists of taken writes that may lie behind it: it answers
-- whether it was taken and leaves what a step leaves, and behind what it leaves may lie each list that did before it,
-- with the write at its end if it was taken
pub record Writes {J : Type 0} (meaning : J → Meaning) (lies : J → List Write → Type 0) (w : Write) (old new : J)
    (r : Bool) : Type 0 where
  pub answer : r ≡ taken w (meaning old)
  pub after : meaning new ≡ step w (meaning old)
  pub behind : (ws : List Write) → lies old ws → lies new (ws ++ wrote w (meaning old))
