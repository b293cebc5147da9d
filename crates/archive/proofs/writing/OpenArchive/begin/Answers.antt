use Rattle.std.proofs.Common.{sym, arith}
use Rattle.archive.proofs.Writes.{begin_done}
use Rattle.archive.proofs.writing.OpenArchive.begin.Goals as goal

pub returns : goal.returns
returns c =
    begin_done c.args.area.now c.args.members.now _ _ (sym c.if-not-is_chain.ensures) (omega arith)
    (sym c.if-not-has_room.ensures) c.write_header.ensures
