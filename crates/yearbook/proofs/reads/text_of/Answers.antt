use Rattle.std.proofs.Common.{ℕ, List, ◌++◌, ap, ◌∙◌, ap₂}
use Rattle.archive.specs.Reading.{scan_all, members_of, count_at, body_of}
use Rattle.listing.specs.Writing.{entries_text, ending, chain_line}
use Rattle.yearbook.proofs.Listing.{told}
use Rattle.yearbook.proofs.reads.text_of.Goals as goal

pub returns : goal.returns
returns c =
    let f = c.args.file.now in
    let opens = c.in_ok-reader.ensures.opens in
    let chain = c.in_ok-write_chain.ensures.written
    ∙ ap₂ (λ (xs ms : List ℕ). xs ++ ending (chain_line ms)) c.new-text.ensures.bytes
    (c.members.ensures ∙ ap members_of opens.1) in
    let lines = ap₂ (λ (n : ℕ) (xs : List ℕ). entries_text (scan_all n xs).commands)
    (c.entries.ensures.end ∙ ap count_at opens.1)
    (c.entries.ensures.rest ∙ ap body_of opens.1) in
    told f _ c.in_ok-reader.ensures.exact opens.0
    (c.in_ok-write_entries.ensures ∙ ap₂ (λ (xs ys : List ℕ). xs ++ ys) chain lines)
