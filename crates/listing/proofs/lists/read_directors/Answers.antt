use Rattle.std.proofs.Common.{◌≡◌, ◌<◌, length, Some, None, Err, vec_items, sym, ap, ◌∙◌, arith, rules, length-append}
use Rattle.listing.specs.declared.faults.Fault.TheVariants.{Unreadable}
use Rattle.listing.specs.Answers.{as_byte}
use Rattle.listing.specs.Reading.{directors}
use Rattle.listing.proofs.Fields.{number_is}
use Rattle.listing.proofs.Whole as whole
use Rattle.listing.proofs.lists.read_directors.Goals as goal

pub returns-in_err-number : goal.returns-in_err-number
returns-in_err-number c =
    let s = c.in-Some.ensures.steps in
    let n : 0 < length c.args.words = omega (arith, ap length s) in
    let none : c.read_number.result ≡ None = search rules in
    let fault : c.from_residual.result ≡ Err (Unreadable 1) = search rules in
    rw (fault, whole.some_directors_is _ n)
    (whole.directors_stop c.in-Some.word.now _ _ (vec_items c.loop-word.members) (directors c.args.words)
    (sym none ∙ number_is 16 c.in-Some.word.now _ (omega arith) c.read_number.ensures) s c.loop-word.invariant.1)

pub loop-word-preserved : goal.loop-word-preserved
loop-word-preserved c =
    let s = c.in-Some.ensures.steps in
    let some : Some c.in_ok-number.number ≡ c.read_number.result = search rules in
    let b : c.unwrap_or.result ≡ as_byte c.in_ok-number.number = search rules in (
      omega (arith, ap length s, simp length-append at (ap length c.in_ok-push.ensures.items)),
      whole.directors_more c.in-Some.word.now _ _ _ _ _ _ _
          (some ∙ number_is 16 c.in-Some.word.now _ (omega arith) c.read_number.ensures) s b c.in_ok-push.ensures.items
          c.loop-word.invariant.1,
    )
