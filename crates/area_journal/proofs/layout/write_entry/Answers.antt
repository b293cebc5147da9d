use Rattle.std.proofs.Common.{◌++◌, arith}
use Rattle.octets.specs.Numbers.{le}
use Rattle.area_journal.specs.Layout.{command_bytes}
use Rattle.octets.proofs.Parts.{then_over}
use Rattle.area_journal.proofs.layout.write_entry.Goals as goal

pub returns : goal.returns
returns c =
    let area = c.args.area.now in
    let i = c.args.at in
    let n = le 4 c.args.slot in
    let b = le 4 c.args.ballot in
    let p = then_over area _ c.write_le-2.new.area i _ n b (omega arith) c.write_le.ensures (omega arith)
    c.write_le-2.ensures in
    then_over area _ c.write_command.new.area i _ (n ++ b) (command_bytes c.args.command.now) (omega arith) p
    (omega arith) c.write_command.ensures
