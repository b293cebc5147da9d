use Rattle.std.proofs.Common.{sym}
use Rattle.archive.proofs.Writes.{seal_done, seal_stopped}
use Rattle.archive.proofs.writing.OpenArchive.seal.Goals as goal

pub returns-then-not-has_room : goal.returns-then-not-has_room
returns-then-not-has_room c = seal_stopped c.args.area.now c.args.self (sym c.if-not-has_room.ensures)

pub returns : goal.returns
returns c = seal_done c.args.area.now c.args.self _ (sym c.if-not-has_room.ensures) c.write_le.ensures
