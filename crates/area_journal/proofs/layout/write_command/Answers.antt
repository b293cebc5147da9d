use Rattle.std.proofs.Common.{[], ◌∷◌, ◌++◌, arith}
use Rattle.octets.specs.Numbers.{le}
use Rattle.command.specs.Commands.{serial_bytes}
use Rattle.octets.proofs.Parts.{then_over}
use Rattle.area_journal.proofs.layout.write_command.Goals as goal

pub returns : goal.returns
returns c =
    let area = c.args.area.now in
    let i = c.args.at in
    let d = c.args.command.now in
    let one = d.verb ∷ 0 ∷ [] in
    let two = one ++ le 2 d.origin in
    let three = two ++ le serial_bytes d.serial in
    let four = three ++ le 2 d.a in
    let p = then_over area _ c.write_le.new.area i _ one (le 2 d.origin) (omega arith)
    c.write_bytes.ensures (omega arith) c.write_le.ensures in
    let q = then_over area _ c.write_le-2.new.area i _ two (le serial_bytes d.serial) (omega arith) p
    (omega arith) c.write_le-2.ensures in
    let r = then_over area _ c.write_le-3.new.area i _ three (le 2 d.a) (omega arith) q
    (omega arith) c.write_le-3.ensures in
    then_over area _ c.write_le-4.new.area i _ four (le 2 d.b) (omega arith) r
    (omega arith) c.write_le-4.ensures
