-- The writes that may lie behind a journal.
use Rattle.std.proofs.Common.{List, ◌++◌, refl}
use Rattle.journal.proofs.Histories.{leads_more}
use Rattle.journal.specs.declared.writes.Write.{Write}
use Rattle.journal.specs.Meaning.{Meaning, step, wrote}
use Rattle.area_journal.specs.Journals.{Behind}

-- a write that is taken comes to the end of the list
pub behind_more : (w : Write) (m : Meaning) (ws : List Write) → Behind m ws → Behind (step w m) (ws ++ wrote w m)
behind_more w m ws b = record { start = b.start; leads = leads_more b.start m (step w m) w ws refl b.leads }
