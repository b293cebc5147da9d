use Rattle.std.proofs.Common.{◌≡◌, ◌++◌, ℕ, List, Some, None, codes, refl, ap, arith, rules}
use Rattle.command.specs.declared.verbs.Verb.TheVariants.{Add, Remove, Change}
use Rattle.command.specs.Commands.{verb_of}
use Rattle.listing.proofs.Written.{shown_one, line_written, change_written}
use Rattle.listing.proofs.writes.write_entry.Goals.{in-Ok+in-Change-1, in-Err-1}
use Rattle.listing.proofs.writes.write_entry.Goals as goal

pub returns-in_ok-writeln-in-Ok-Add-clause-written : goal.returns-in_ok-writeln-in-Ok-Add-clause-written
returns-in_ok-writeln-in-Ok-Add-clause-written c =
    let n = c.args.command.now in
    line_written n (Some Add) _ _ _ (rw c.in-Ok-Add.field-0-is at c.in-Ok-Add.ensures)
    c.in_ok-writeln-in-Ok-Add.ensures.bytes (ap (λ (x : List ℕ). codes "add" ++ x) (shown_one n.a (omega arith)))

pub returns-in_ok-writeln-in-Ok-Remove-clause-written : goal.returns-in_ok-writeln-in-Ok-Remove-clause-written
returns-in_ok-writeln-in-Ok-Remove-clause-written c =
    let n = c.args.command.now in
    line_written n (Some Remove) _ _ _ (rw c.in-Ok-Remove.field-0-is at c.in-Ok-Remove.ensures)
    c.in_ok-writeln-in-Ok-Remove.ensures.bytes (ap (λ (x : List ℕ). codes "remove" ++ x) (shown_one n.a (omega arith)))

pub returns-in_ok-writeln-in-Ok-Change-clause-written : goal.returns-in_ok-writeln-in-Ok-Change-clause-written
returns-in_ok-writeln-in-Ok-Change-clause-written c =
    let n = c.args.command.now in
    elim c.in-Ok-Change-1.branch [
      | in-Ok+in-Change-1 w ↦
          let v : verb_of n.verb ≡ Some Change = search rules in
          change_written n (Some Change) _ _ v refl c.in_ok-writeln-in-Ok-Change.ensures.bytes
          (omega arith) (omega arith) (omega arith) (omega arith) (omega arith)
      | in-Err-1 w ↦
          let v : verb_of n.verb ≡ None = search rules in
          change_written n None _ _ v refl c.in_ok-writeln-in-Ok-Change.ensures.bytes
          (omega arith) (omega arith) (omega arith) (omega arith) (omega arith)
    ]
