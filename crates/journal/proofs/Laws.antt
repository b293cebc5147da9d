-- The laws together.
use Rattle.journal.specs.Laws.{JournalLaws}
use Rattle.journal.proofs.Grows.{leads}
use Rattle.journal.proofs.Newest.{open_newest}
use Rattle.journal.proofs.Ballots as ballots

pub journal_laws : JournalLaws
journal_laws =
    record {
      promised_rises = λ m ws. (leads ws m).promised;
      settled_grows = λ m ws. (leads ws m).settled;
      newest_open = open_newest;
      newest_highest = ballots.newest_highest;
      blank_none = ballots.blank_none;
    }
