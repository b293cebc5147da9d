use Rattle.std.proofs.Common.{sym, arith}
use Rattle.archive.proofs.Writes.{add_done}
use Rattle.archive.proofs.writing.OpenArchive.add.Goals as goal

pub returns : goal.returns
returns c =
    add_done c.args.area.now c.args.self c.args.command.now c.in-Some.size _ c.in-Some.ensures (omega arith)
    (sym c.if-not-has_room.ensures) c.write_entry.ensures.written c.write_entry.ensures.sized
