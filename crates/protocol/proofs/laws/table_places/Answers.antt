use Rattle.std.proofs.Common.{refl}
use Rattle.protocol.proofs.Agrees.{directors_agree}
use Rattle.protocol.proofs.Examples.{runs_there_are}
use Rattle.protocol.proofs.Loops.{loops_end}
use Rattle.protocol.proofs.Stands.{lowest_own}
use Rattle.protocol.proofs.laws.table_places.Goals as goal

pub returns : goal.returns
returns c =
    record {
      places = refl;
      agree = directors_agree;
      loops = loops_end;
      ballots = lowest_own;
      runs = runs_there_are;
    }
