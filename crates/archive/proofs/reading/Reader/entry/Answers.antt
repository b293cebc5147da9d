use Rattle.std.proofs.Common.{◌≡◌, ℕ, suc, List, Option, ap, ◌∙◌, arith, ap₂, ◌≤◌, length}
use Rattle.std.specs.Iterator.{Yields}
use Rattle.std.specs.Option.{MatchOption}
use Rattle.archive.specs.declared.entries.Entry.{Entry}
use Rattle.archive.specs.declared.entries.Entries.{Entries}
use Rattle.archive.specs.Readers.{Gives, shown}
use Rattle.archive.specs.Reading.{entry_at}
use Rattle.archive.proofs.Walks.{skipped, entry_of_part}
use Rattle.archive.proofs.reading.Reader.entry.Goals as goal

-- after m others the entry of the next number is given
given : (xs : List Entry) (m n : ℕ) (s t u : Entries) (r : Option Entry) → Yields Gives s xs t → Gives t r u
    → MatchOption r (length xs ≤ m) (λ _. length xs ≡ m) → suc m ≡ n → shown r ≡ entry_at n s.end s.rest.now
given xs m n s t u r y g h e = skipped xs m s t u r y g h ∙ ap (λ (k : ℕ). entry_at k s.end s.rest.now) e

pub returns-clause-answer : goal.returns-clause-answer
returns-clause-answer c =
    let p = c.in_ok-checked_sub.ensures in
    let ran = c.nth.ensures.ran in
    given ran.0 _ c.args.n c.entries.result ran.1.0 c.nth.new.self c.nth.result ran.1.1 ran.1.2 ran.2 (omega arith)
    ∙ ap₂ (entry_at c.args.n) c.entries.ensures.end c.entries.ensures.rest

pub returns-clause-meaning : goal.returns-clause-meaning
returns-clause-meaning c =
    λ ms cs a. returns-clause-answer c ∙ entry_of_part c.args.self.now.file.now ms cs c.args.n a
