use Rattle.std.proofs.Common.{◌≡◌, ◌<◌, ◌≤◌, None, length, get_or, sym, ap, arith, rules}
use Rattle.std.proofs.lemmas.Grind.{common_steps}
use Rattle.layers.specs.Once.{kept_serial}
use Rattle.layers.proofs.Memory.{higher_is}
use Rattle.layers.proofs.once.OnceOnly.pass.Goals as goal

pub returns-in_default-2 : goal.returns-in_default-2
returns-in_default-2 g c =
    let ks = c.args.self.now.kept in
    let o = c.args.command.now.origin in
    let l : length ks ≡ 32 = search rules in
    let k : o ≤ 31 = grind (arith, common_steps) in
    let h : kept_serial (get_or ks o None) < c.args.command.now.serial = grind (arith, common_steps) in
    let e = higher_is g.M.Machine.rule ks (g.M.Machine.state c.args.self.now.lower) c.args.command.now
    (g.M.Machine.state c.apply-answer.new.self) c.apply-answer.result l k
    h c.apply-answer.ensures.next c.apply-answer.ensures.answer in
    record { next = sym (ap (λ r. r.0) e); answer = sym (ap (λ r. r.1) e) }
