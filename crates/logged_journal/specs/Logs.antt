-- What a log shows of a list of writes.
use Rattle.std.specs.Prelude.{◌≡◌, ℕ, List, [], ◌∷◌, ◌++◌, length, take, vec_items, nat_le}
use Rattle.journal.specs.declared.writes.Write.{Write}
use Rattle.logged_journal.specs.declared.logs.Log.{Log}

-- the log shows the list: it holds as many of the first writes as there is room for, and tells whether these are all
pub record Shows (log : Log) (ws : List Write) : Type 0 where
  pub first : vec_items log.writes ≡ take log.room ws
  pub all : log.complete ≡ nat_le (length ws) log.room

-- a new log, with room for so many writes
pub record Started (room : ℕ) (log : Log) : Type 0 where
  pub spacious : log.room ≡ room
  pub none : Shows log []

-- what shows a list before a write is kept, shows it after with the write at its end
abbrev pub Keeps : Log → Write → Log → Type 0
Keeps before w log = (ws : List Write) → Shows before ws → Shows log (ws ++ (w ∷ []))
