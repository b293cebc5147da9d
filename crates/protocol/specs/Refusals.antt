-- The numbers of the refusals.
use Rattle.std.specs.Prelude.{ℕ}
use Rattle.protocol.specs.declared.refusals.Refusal.{Refusal}
use Rattle.protocol.specs.declared.refusals.Refusal.TheVariants.{ShortTable, NotAddressee, Malformed, Stale, IllFormed}
use Rattle.protocol.specs.declared.refusals.Refusal.TheVariants.{NotStanding, LineFull, JournalFull, NotMember}
use Rattle.protocol.specs.declared.refusals.Refusal.TheVariants.{NoBallot, InvalidDirector}

abbrev pub refusal_number : Refusal → ℕ
refusal_number ShortTable = 1
refusal_number NotAddressee = 2
refusal_number Malformed = 3
refusal_number Stale = 4
refusal_number IllFormed = 5
refusal_number NotStanding = 6
refusal_number LineFull = 7
refusal_number JournalFull = 8
refusal_number NotMember = 9
refusal_number NoBallot = 10
refusal_number InvalidDirector = 11
