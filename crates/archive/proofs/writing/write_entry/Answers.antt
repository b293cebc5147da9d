use Rattle.std.proofs.Common.{◌≡◌, ℕ, ◌+◌, ◌∷◌, ◌++◌, [], length, Some, sym, ap, ◌∙◌, arith, rules}
use Rattle.octets.specs.Areas.{over}
use Rattle.octets.specs.Numbers.{le}
use Rattle.octets.proofs.Parts.{then_over}
use Rattle.command.specs.declared.verbs.Verb.TheVariants.{Change}
use Rattle.command.specs.Commands.{verb_of, serial_bytes}
use Rattle.archive.specs.Layout.{entry, entry_as}
use Rattle.archive.proofs.writing.write_entry.Goals as goal

pub returns-in-Ok-Change-clause-written : goal.returns-in-Ok-Change-clause-written
returns-in-Ok-Change-clause-written c =
    let d = c.args.command.now in
    let area = c.args.area.now in
    let i = c.args.at in
    let kind : verb_of d.verb ≡ Some Change = search rules in
    let all : entry d ≡ entry_as (Some Change) d = ap (λ v. entry_as v d) kind in
    let long = ap length all in
    let within = c.requires.within in
    let one = d.verb ∷ [] in
    let two = one ++ le 2 d.origin in
    let three = two ++ le serial_bytes d.serial in
    let p = then_over area _ c.write_le.new.area i _ one (le 2 d.origin) (omega arith)
    (c.write_bytes-in-Ok-Change.ensures ∙ ap (λ (n : ℕ). over area i (n ∷ [])) (omega arith))
    (omega arith) c.write_le.ensures in
    let q = then_over area _ c.write_le-in-Ok-Change.new.area i _ two (le serial_bytes d.serial) (omega arith) p
    (omega arith) (c.write_le-in-Ok-Change.ensures ∙ ap (λ (n : ℕ). over c.write_le.new.area (i + 3) (le serial_bytes n))
    (omega arith)) in
    let r = then_over area _ c.write_le-in-Ok-Change-2.new.area i _ three (le 2 d.a) (omega arith) q (omega arith)
    c.write_le-in-Ok-Change-2.ensures in
    then_over area _ c.write_le-in-Ok-Change-3.new.area i _ (three ++ le 2 d.a) (le 2 d.b) (omega arith) r
    (omega arith) c.write_le-in-Ok-Change-3.ensures
    ∙ ap (over area i) (sym all)
