-- What lies behind a journal with a log.
use Rattle.std.specs.Prelude.{◌≡◌, ℕ, Bool, true, List, [], vec_items}
use Rattle.journal.specs.declared.writes.Write.{Write}
use Rattle.logged_journal.specs.declared.logged.LoggedJournal.{LoggedJournal}
use Rattle.logged_journal.specs.Logs.{Shows}

-- the writes that the log holds
abbrev pub log_of : {J : Type 0} → LoggedJournal J → List Write
log_of j = vec_items j.log.writes

-- whether these are all that were taken
abbrev pub is_complete : {J : Type 0} → LoggedJournal J → Bool
is_complete j = j.log.complete

-- the lists that the log shows: one alone, the log itself, while it is complete; then all those that begin with it and
-- are longer than its room
abbrev pub log_behind : {J : Type 0} → LoggedJournal J → List Write → Type 0
log_behind j ws = Shows j.log ws

-- a journal with a log laid over it, with room for so many writes: nothing lies behind it yet
pub record Over {J : Type 0} (lower : J) (room : ℕ) (j : LoggedJournal J) : Type 0 where
  pub below : j.lower ≡ lower
  pub spacious : j.log.room ≡ room
  pub behind : log_behind j []

-- if the answer is yes, only the log lies behind the journal
abbrev pub Exact : {J : Type 0} → LoggedJournal J → Bool → Type 0
Exact j answer = answer ≡ true → (ws : List Write) → log_behind j ws → ws ≡ log_of j
