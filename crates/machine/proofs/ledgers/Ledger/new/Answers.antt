use Rattle.machine.proofs.Sharing.{addresses_shared, holdings_balanced}
use Rattle.machine.proofs.ledgers.Ledger.new.Goals as goal

pub returns-clause-shared : goal.returns-clause-shared
returns-clause-shared c = addresses_shared

pub returns-clause-balanced : goal.returns-clause-balanced
returns-clause-balanced c = holdings_balanced
