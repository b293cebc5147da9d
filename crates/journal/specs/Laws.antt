-- What holds of every journal, over any list of its writes.
use Rattle.std.specs.Prelude.{◌≡◌, ℕ, ◌<◌, ◌≤◌, max, Bool, true, false, cond, ◌&&◌, ◌||◌, List, [], ◌∷◌, take, ◌==◌, nat_lt}
use Rattle.journal.specs.declared.writes.Entry.{Entry}
use Rattle.journal.specs.declared.writes.Write.{Write}
use Rattle.journal.specs.declared.writes.Write.TheVariants.{Promise, Put, Settle}
use Rattle.journal.specs.Meaning.{Meaning, settled_count, fresh, blank, open_of, taken, after, replay}

-- each write of the list was taken, over what those before it left
abbrev pub all_taken : Meaning → List Write → Bool
all_taken m [] = true
all_taken m (w ∷ ws) = taken w m && all_taken (after w m) ws

-- a list of writes, all taken, leads from one meaning to another
pub record Leads (from : Meaning) (ws : List Write) (m : Meaning) : Type 0 where
  pub all : all_taken from ws ≡ true
  pub end : replay from ws ≡ m

-- what the newest put into slot n left, or e where there was none
abbrev pub newest : ℕ → Entry → List Write → Entry
newest n e [] = e
newest n e (Promise b ∷ ws) = newest n e ws
newest n e (Put k b c ∷ ws) = newest n (cond (k == n) (record { ballot = b; command = c }) e) ws
newest n e (Settle c ∷ ws) = newest n e ws

-- the highest ballot that was put into slot n, 0 where nothing was
abbrev pub highest : ℕ → List Write → ℕ
highest n [] = 0
highest n (Promise b ∷ ws) = highest n ws
highest n (Put k b c ∷ ws) = max (cond (k == n) b 0) (highest n ws)
highest n (Settle c ∷ ws) = highest n ws

-- something was put into slot n
abbrev pub was_put : ℕ → List Write → Bool
was_put n [] = false
was_put n (Promise b ∷ ws) = was_put n ws
was_put n (Put k b c ∷ ws) = k == n || was_put n ws
was_put n (Settle c ∷ ws) = was_put n ws

pub record JournalLaws : Type 0 where
  -- whatever is written, the promised ballot never falls
  pub promised_rises : (m : Meaning) (ws : List Write) → m.promised ≤ (replay m ws).promised
  -- and the settled list only grows
  pub settled_grows : (m : Meaning) (ws : List Write) → take (settled_count m) (replay m ws).settled ≡ m.settled
  -- the open entry of a slot that is not settled is what the newest put into it left
  pub newest_open : (c : ℕ) (ws : List Write) (n : ℕ) → all_taken (fresh c) ws ≡ true
      → settled_count (replay (fresh c) ws) < n
      → open_of (replay (fresh c) ws) n ≡ newest n blank ws
  -- no put into a slot has a higher ballot than the newest
  pub newest_highest : (c : ℕ) (ws : List Write) (n : ℕ) → all_taken (fresh c) ws ≡ true
      → highest n ws ≤ (newest n blank ws).ballot
  -- a blank entry is one into which nothing was put
  pub blank_none : (c : ℕ) (ws : List Write) (n : ℕ) → all_taken (fresh c) ws ≡ true
      → nat_lt 0 (newest n blank ws).ballot ≡ was_put n ws
