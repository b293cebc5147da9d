use Rattle.std.proofs.Common.{[], Some, sym, ap, ◌∙◌, append-nil}
use Rattle.archive.specs.Reading.{command_of}
use Rattle.archive.specs.Layout.{entry}
use Rattle.archive.proofs.OneEntry.{reread}
use Rattle.archive.proofs.entries.Entry.command.Goals as goal

pub returns-clause-back : goal.returns-clause-back
returns-clause-back c =
    λ d w s e. ap Some (c.command_of.ensures ∙ ap command_of (e ∙ sym (append-nil (entry d))) ∙ (reread d [] w s).same)
