use Rattle.std.proofs.Common.{ℕ, List, ◌++◌, string_bytes, sym, ap, ◌∙◌, append_assoc, append-nil}
use Rattle.listing.specs.Writing.{ending, line_of}
use Rattle.yearbook.specs.Years.{lines_left}
use Rattle.yearbook.proofs.Lines.{lines_end, lines_more}
use Rattle.yearbook.proofs.reads.write_entries.Goals as goal

pub loop-entry-preserved-in-Continue-1 : goal.loop-entry-preserved-in-Continue-1
loop-entry-preserved-in-Continue-1 c =
    let s = c.loop-entry.entry-iterator in
    let t = c.next.new.self in
    let out = string_bytes c.loop-entry.text in
    let more = lines_more s t c.in-Some.entry c.in-Some-command.command c.in-Some.ensures.steps
    (sym c.in-Some-command.ensures.answer) in (
      tt,
      tt,
      ap (λ (xs : List ℕ). xs ++ lines_left t) c.in_ok-write_entry.ensures.written
          ∙ append_assoc out (ending (line_of c.in-Some-command.command)) (lines_left t)
          ∙ ap (λ (xs : List ℕ). out ++ xs) (sym more) ∙ c.loop-entry.invariant.2,
    )

pub returns : goal.returns
returns c =
    let out = string_bytes c.loop-entry.text in
    let none = lines_end c.loop-entry.entry-iterator c.next.new.self c.in-None.ensures.steps in
    sym (append-nil out) ∙ ap (λ (xs : List ℕ). out ++ xs) (sym none)
    ∙ c.loop-entry.invariant.2
    ∙ ap (λ e. string_bytes c.args.text.now ++ lines_left e) c.into_iter-entry-iterator.ensures.into_iter_gives
