use Rattle.std.proofs.Common.{◌≡◌, Err, List, ℕ, ◌+◌, ◌≤◌, true, false, is_some, length, Some, None, Option, sym, ap, ap₂, ◌∙◌, arith}
use Rattle.std.proofs.lemmas.Bool.{eqb-true, eqb-false}
use Rattle.std.proofs.lemmas.Bool.Decides.{nat_tests}
use Rattle.archive.specs.declared.reading.Broken.TheVariants.{Entry as BrokenEntry}
use Rattle.archive.specs.declared.entries.Entry.{Entry}
use Rattle.archive.specs.declared.entries.Entries.{Entries}
use Rattle.archive.specs.Readers.{Gives}
use Rattle.archive.specs.Reading.{size_of, scan_all, counted_as}
use Rattle.archive.proofs.Scans.{counted_more, counted_stop, counted_end, given_shorter}
use Rattle.archive.proofs.reading.count_entries.Goals as goal

-- one entry more was counted
more : (n : ℕ) (s t : Entries) (r : Option Entry) → Gives s r t → is_some r ≡ true
    → (length t.rest.now + 1 ≤ length s.rest.now)
    × (counted_as (n + 1 + length (scan_all t.end t.rest.now).commands) (scan_all t.end t.rest.now).broken
    ≡ counted_as (n + length (scan_all s.end s.rest.now).commands) (scan_all s.end s.rest.now).broken)
more n s t None g h = absurd (cc)
more n s t (Some x) g h = (given_shorter s t x g, counted_more n s t x g)

-- none was left
stopped : (s t : Entries) (r : Option Entry) → Gives s r t → is_some r ≡ false
    → (size_of t.rest.now ≡ None) × (t.rest.now ≡ s.rest.now)
stopped s t r g h = grind (arith, nat_tests)

pub loop-count-preserved : goal.loop-count-preserved
loop-count-preserved c =
    let m = more c.loop-count.count c.loop-count.left c.next.new.self c.next.result c.next.ensures.steps
    (sym c.is_some.ensures ∙ c.loop-count-test.true) in
    let before = c.loop-count.invariant.2 in
    (tt, tt, omega (arith, m.0), m.1 ∙ c.loop-count.invariant.3)

pub returns-then-not-is_empty : goal.returns-then-not-is_empty
returns-then-not-is_empty c =
    let s = c.loop-count.left in
    let t = c.next.new.self in
    let p = stopped s t c.next.result c.next.ensures.steps (sym c.is_some.ensures ∙ c.loop-count-test.false) in
    let ne = eqb-false (length t.rest.now) 0 (sym c.if-not-is_empty.ensures) in
    ap (λ (n : ℕ). Err (BrokenEntry n)) c.offset.ensures
    ∙ sym (counted_stop c.loop-count.count t.end t.rest.now (omega arith) p.0)
    ∙ ap₂ (λ (e : ℕ) (xs : List ℕ). counted_as (c.loop-count.count + length (scan_all e xs).commands)
    (scan_all e xs).broken) c.next.ensures.steps.same p.1
    ∙ c.loop-count.invariant.3

pub returns : goal.returns
returns c =
    let s = c.loop-count.left in
    let t = c.next.new.self in
    let p = stopped s t c.next.result c.next.ensures.steps (sym c.is_some.ensures ∙ c.loop-count-test.false) in
    let end = eqb-true (length t.rest.now) 0 (sym c.if-not-is_empty.ensures) in
    sym (counted_end c.loop-count.count s.end s.rest.now (ap length (sym p.1) ∙ end)) ∙ c.loop-count.invariant.3
