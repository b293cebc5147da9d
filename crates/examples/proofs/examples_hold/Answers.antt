use Rattle.std.proofs.Common.{refl}
use Rattle.archive.specs.Layout.{layout}
use Rattle.examples.proofs.examples_hold.Goals as goal

pub returns : goal.returns
unfolding layout
returns c =
    record {
      count = refl;
      hold = record {
        no_quorum = refl;
        quorum = refl;
        slot_10 = refl;
        slot_11 = refl;
        pool = refl;
        pool_denied = refl;
        ledger = refl;
        frozen = refl;
        empty_file = refl;
        small_file = refl;
        first_entry = refl;
        second_entry = refl;
      };
    }
