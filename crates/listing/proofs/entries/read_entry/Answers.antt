use Rattle.std.proofs.Common.{◌∙◌, codes, sym, arith}
use Rattle.listing.proofs.Lined.{entry_none, entry_from}
use Rattle.listing.proofs.FirstWords.{word_told, entry_noop, entry_add, entry_remove, entry_change, entry_other}
use Rattle.listing.proofs.entries.read_entry.Goals as goal

pub returns-in_err-word : goal.returns-in_err-word
returns-in_err-word c = grind (arith, entry_none)

pub returns-then-eq : goal.returns-then-eq
returns-then-eq c =
    c.end.ensures ∙
    sym (entry_from _ _ _ _ c.words-words.ensures c.in_ok-word.ensures.steps ∙
    entry_noop c.in_ok-word.word.now c.next.new.self (word_told c.in_ok-word.word.now (codes "noop") _ _ c.as_slice.ensures c.if-eq.ensures))

pub returns-then-eq-2 : goal.returns-then-eq-2
returns-then-eq-2 c =
    c.read_member.ensures ∙
    sym (entry_from _ _ _ _ c.words-words.ensures c.in_ok-word.ensures.steps ∙
    entry_add c.in_ok-word.word.now c.next.new.self (word_told c.in_ok-word.word.now (codes "noop") _ _ c.as_slice.ensures c.if-eq.ensures)
    (word_told c.in_ok-word.word.now (codes "add") _ _ c.as_slice-2.ensures c.if-eq-2.ensures))

pub returns-then-eq-3 : goal.returns-then-eq-3
returns-then-eq-3 c =
    c.read_member-then-eq-3.ensures ∙
    sym (entry_from _ _ _ _ c.words-words.ensures c.in_ok-word.ensures.steps ∙
    entry_remove c.in_ok-word.word.now c.next.new.self (word_told c.in_ok-word.word.now (codes "noop") _ _ c.as_slice.ensures c.if-eq.ensures)
    (word_told c.in_ok-word.word.now (codes "add") _ _ c.as_slice-2.ensures c.if-eq-2.ensures)
    (word_told c.in_ok-word.word.now (codes "remove") _ _ c.as_slice-3.ensures c.if-eq-3.ensures))

pub returns-then-eq-4 : goal.returns-then-eq-4
returns-then-eq-4 c =
    c.read_change.ensures ∙
    sym (entry_from _ _ _ _ c.words-words.ensures c.in_ok-word.ensures.steps ∙
    entry_change c.in_ok-word.word.now c.next.new.self (word_told c.in_ok-word.word.now (codes "noop") _ _ c.as_slice.ensures c.if-eq.ensures)
    (word_told c.in_ok-word.word.now (codes "add") _ _ c.as_slice-2.ensures c.if-eq-2.ensures)
    (word_told c.in_ok-word.word.now (codes "remove") _ _ c.as_slice-3.ensures c.if-eq-3.ensures)
    (word_told c.in_ok-word.word.now (codes "change") _ _ c.as_slice-4.ensures c.if-eq-4.ensures))

pub returns-else-eq-4 : goal.returns-else-eq-4
returns-else-eq-4 c =
    sym (entry_from _ _ _ _ c.words-words.ensures c.in_ok-word.ensures.steps ∙
    entry_other c.in_ok-word.word.now c.next.new.self (word_told c.in_ok-word.word.now (codes "noop") _ _ c.as_slice.ensures c.if-eq.ensures)
    (word_told c.in_ok-word.word.now (codes "add") _ _ c.as_slice-2.ensures c.if-eq-2.ensures)
    (word_told c.in_ok-word.word.now (codes "remove") _ _ c.as_slice-3.ensures c.if-eq-3.ensures)
    (word_told c.in_ok-word.word.now (codes "change") _ _ c.as_slice-4.ensures c.if-eq-4.ensures))
