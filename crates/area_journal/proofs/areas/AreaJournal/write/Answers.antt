use Rattle.std.proofs.Common.{rules, vec_items}
use Rattle.std.specs.Vec.{with_items}
use Rattle.area_journal.specs.Journals.{bytes_of}
use Rattle.area_journal.specs.Writing.{Does}
use Rattle.area_journal.proofs.Checks.{sound_parts}
use Rattle.area_journal.proofs.Keeping.{did_in, writes_does}
use Rattle.area_journal.proofs.Meanings.{does_not}
use Rattle.area_journal.proofs.areas.AreaJournal.write.Goals as goal

pub invariant_of-self : goal.invariant_of-self
invariant_of-self c =
    let left = vec_items (with_items c.args.self.now.area c.make.new.area) in
    let d : Does c.args.write (bytes_of c.args.self.now) left c.takes-taken.result = search (rules, did_in) in
    let s = sound_parts left d.sound in
    record { long = s.long; held = s.held; sound = d.sound }

pub returns-then-taken-clause-writes : goal.returns-then-taken-clause-writes
returns-then-taken-clause-writes c =
    let left = vec_items (with_items c.args.self.now.area c.make.new.area) in
    let d : Does c.args.write (bytes_of c.args.self.now) left c.takes-taken.result = search (rules, did_in) in
    writes_does _ _ _ _ d

pub returns-else-taken-clause-writes : goal.returns-else-taken-clause-writes
returns-else-taken-clause-writes c = search (rules, writes_does, does_not)
