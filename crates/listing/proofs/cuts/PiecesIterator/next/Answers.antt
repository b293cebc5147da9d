use Rattle.std.proofs.Common.{◌≡◌, eqb, rules, sym, ap, ◌∙◌}
use borrow.Author.Tests.{tests}
use Rattle.std.specs.List.{position}
use Rattle.std.proofs.lemmas.Iterator.{YieldsList-from_slice}
use Rattle.std.proofs.lemmas.Iterator.Search.{position_from_yields_List}
use Rattle.listing.specs.Pieces.{pieces_left}
use Rattle.listing.proofs.Cutting.{piece_some, piece_none}
use Rattle.listing.proofs.cuts.PiecesIterator.next.Goals as goal

pub returns-in_default-clause-steps : goal.returns-in_default-clause-steps
returns-in_default-clause-steps c =
    let e : c.position.result ≡ position (λ b. eqb b c.self.inside.mark) c.in_ok-rest.rest.now =
    position_from_yields_List (λ b. eqb b c.self.inside.mark) _ _ c.position.result c.position.ensures.ran
    (YieldsList-from_slice c.in_ok-rest.rest.now c.iter.ensures.rest) (λ x b q k. search (rules, tests)) in
    rw c.take.ensures.after
    (sym c.self.view_is ∙ ap (pieces_left c.self.inside.mark) (sym c.in_ok-rest.ensures.value) ∙
    piece_none _ _ (sym c.in_default.is ∙ e))

pub returns-in_default-clause-goes : goal.returns-in_default-clause-goes
returns-in_default-clause-goes c = let s = returns-in_default-clause-steps c in search rules

pub returns-clause-steps : goal.returns-clause-steps
returns-clause-steps c =
    let e : c.position.result ≡ position (λ b. eqb b c.self.inside.mark) c.in_ok-rest.rest.now =
    position_from_yields_List (λ b. eqb b c.self.inside.mark) _ _ c.position.result c.position.ensures.ran
    (YieldsList-from_slice c.in_ok-rest.rest.now c.iter.ensures.rest) (λ x b q k. search (rules, tests)) in
    sym c.self.view_is ∙ ap (pieces_left c.self.inside.mark) (sym c.in_ok-rest.ensures.value) ∙
    piece_some _ _ _ (sym c.in-Some.is ∙ e)

pub returns-clause-goes : goal.returns-clause-goes
returns-clause-goes c = let s = returns-clause-steps c in search rules
