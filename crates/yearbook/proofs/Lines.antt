-- The lines of the entries that are left, one by one.
use Rattle.std.proofs.Common.{◌≡◌, ℕ, List, [], ◌∷◌, ◌++◌, Some, None, sym, ap, ◌∙◌, ap₂, arith}
use Rattle.command.specs.declared.Command.{Command}
use Rattle.archive.specs.declared.entries.Entry.{Entry}
use Rattle.archive.specs.declared.entries.Entries.{Entries}
use Rattle.archive.specs.Readers.{Gives}
use Rattle.archive.specs.Reading.{size_of, command_of, decoded, scan_all}
use Rattle.archive.proofs.Scans.{gave, gave_none, scan_more, scan_stop, scan_end}
use Rattle.archive.proofs.Parts.{part_told}
use Rattle.listing.specs.Writing.{entries_text, ending, line_of}
use Rattle.yearbook.specs.Years.{lines_left}

-- no entry is left
pub lines_end : (s t : Entries) → Gives s None t → lines_left s ≡ []
lines_end s t g = go s.rest.now (gave_none s t g).0
  where
    go : (bs : List ℕ) → size_of bs ≡ None → entries_text (scan_all s.end bs).commands ≡ []
    go [] e = ap (λ f. entries_text f.commands) (scan_end s.end)
    go (b ∷ bs) e = ap (λ f. entries_text f.commands) (scan_stop s.end (b ∷ bs) (omega arith) e)

-- an entry is left: its command has a line, and then come those after it
pub lines_more : (s t : Entries) (x : Entry) (c : Command) → Gives s (Some x) t → decoded x.bytes.now ≡ Some c
    → lines_left s ≡ ending (line_of c) ++ lines_left t
lines_more s t x c g e =
    let k = gave s t x g in
    let same = sym (part_told s.rest.now k.0 k.1.size) ∙ ap decoded (sym k.1.bytes) ∙ e in
    ap (λ f. entries_text f.commands) (scan_more s.end s.rest.now k.0 k.1.size)
    ∙ (let p : command_of s.rest.now ≡ c = cc in
    ap₂ (λ (d : Command) (xs : List ℕ). ending (line_of d) ++ xs) p
    (ap₂ (λ (e : ℕ) (xs : List ℕ). entries_text (scan_all e xs).commands) (sym g.same) (sym k.1.left)))
