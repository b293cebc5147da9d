use Rattle.std.proofs.Common.{◌≡◌, true, take, length, sym, ap, ◌∙◌, ap₂}
use Rattle.command.specs.Members.{valid_chain, all_in}
use Rattle.command.specs.Places.{placed}
use Rattle.command.proofs.Lists.{valid_parts, all_in_set}
use Rattle.command.proofs.Places.{taken}
use Rattle.command.proofs.chains.Chain.new.Goals as goal

pub invariant_of-result : goal.invariant_of-result
invariant_of-result c =
    let ms = c.args.members.now in
    let valid : valid_chain ms ≡ true = sym c.if-not-is_valid.ensures in
    let v = valid_parts ms valid in
    let t : take (length ms) c.placed.result ≡ ms = ap (take (length ms)) c.placed.ensures ∙ taken ms in
    record {
      few = v.few;
      valid = rw t valid;
      known = ap₂ all_in c.set_of.ensures t ∙ all_in_set ms v.different;
      rest = c.placed.ensures ∙ ap placed (sym t);
    }
