use Rattle.std.proofs.Common.{[], ◌∷◌, sym, arith}
use Rattle.std.proofs.lemmas.Bool.Decides.{Decides-eqb}
use Rattle.std.proofs.lemmas.Slice.Eq.{strip_suffix_is}
use Rattle.listing.proofs.Cutting.{lines_none, lines_stripped}
use Rattle.listing.proofs.cuts.Pieces.lines.Goals.{in-empty, in_default}
use Rattle.listing.proofs.cuts.Pieces.lines.Goals as goal

pub returns : goal.returns
returns c =
    elim c.if-text-lt1.branch [
      | in-empty w ↦ rw w.rest-is (sym (lines_none c.args.text.now (omega arith)))
      | in_default w ↦
          let s = strip_suffix_is Decides-eqb c.args.text.now (10 ∷ []) w.strip_suffix.result
          w.strip_suffix.ensures.cases in
          rw (w.rest-is, w.unwrap_or.ensures) (sym (lines_stripped c.args.text w.strip_suffix.result (omega arith) s))
    ]
