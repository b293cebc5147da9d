-- A list that was written is read back.
use Rattle.std.proofs.Common.{◌≡◌, ℕ, ◌+◌, ◌≤◌, true, ◌&&◌, leb, List, [], ◌∷◌, ◌++◌, map, length, Some, None, Ok, Err, cond, Option, Result, codes, refl, ap, ◌∙◌, arith}
use Rattle.std.specs.List.{All}
use Rattle.std.proofs.lemmas.List.Elements.{All-head, All-tail}
use Rattle.std.proofs.lemmas.Grind.{common_steps}
use Rattle.std.proofs.lemmas.Bool.Decides.{nat_tests}
use Rattle.std.proofs.lemmas.Bool.{and_parts, cond-true, leb-true}
use Rattle.command.specs.declared.Command.{Command}
use Rattle.command.specs.declared.verbs.Verb.{Verb}
use Rattle.command.specs.declared.verbs.Verb.TheVariants.{Noop, Add, Remove, Change}
use Rattle.command.specs.Commands.{Sized, verb_of, well_formed, fits}
use Rattle.command.specs.Members.{valid_chain, founded, different_directors}
use Rattle.listing.specs.Pieces.{lines}
use Rattle.listing.specs.Numbers.{decimal_of}
use Rattle.listing.specs.Reading.{max8, max16, max_serial, then, command, ended, member_of, entry_of, read_entry}
use Rattle.listing.specs.Reading.{directors, some_directors, chain_of, read_chain, before, entries_from}
use Rattle.listing.specs.Reading.{listed, chained, read_lines, read_text}
use Rattle.listing.specs.Writing.{spaced, chain_line, line_for, line_of, ending, entries_text, text_of}
use Rattle.listing.specs.Law.{Listable, ReadsBack}
use Rattle.listing.proofs.Back.{lacks, lacks_append, lines_first, numeral_back, Small, words_back, spaced_lacks}
use Rattle.listing.proofs.Whole.{director_first}
use Rattle.listing.specs.Answers.{Tells, list_of, spent}
use Rattle.listing.specs.declared.faults.Fault.{Fault}
use Rattle.listing.specs.declared.faults.Fault.TheVariants.{Memory}
use Rattle.listing.specs.declared.lists.YearList.{YearList}

-- a line of one word, of a word and a director, and of a change
noop_back : read_entry (codes "noop") ≡ Some (command 0 0 0 0 0)
unfolding read_entry
noop_back = refl

member_back : (v a : ℕ) → a ≤ max16 → member_of v (decimal_of a ∷ []) ≡ Some (command v 0 0 a 0)
member_back v a h =
    ap (λ x. then x (λ d. ended [] (command v 0 0 d 0))) (numeral_back max16 a h (omega arith))

add_back : (a : ℕ) → a ≤ max16 → read_entry (codes "add" ++ spaced (a ∷ [])) ≡ Some (command 1 0 0 a 0)
unfolding read_entry
add_back a h = ap entry_of (words_back (codes "add") (a ∷ []) refl (omega arith, tt)) ∙ member_back 1 a h

remove_back : (a : ℕ) → a ≤ max16 → read_entry (codes "remove" ++ spaced (a ∷ [])) ≡ Some (command 2 0 0 a 0)
unfolding read_entry
remove_back a h = ap entry_of (words_back (codes "remove") (a ∷ []) refl (omega arith, tt)) ∙ member_back 2 a h

change_back : (v o s a b : ℕ) → v ≤ max8 → o ≤ max16 → s ≤ max_serial → a ≤ max16 → b ≤ max16 →
    read_entry (codes "change" ++ spaced (v ∷ o ∷ s ∷ a ∷ b ∷ [])) ≡ Some (command v o s a b)
unfolding read_entry
change_back v o s a b hv ho hs ha hb =
    ap entry_of (words_back (codes "change") (v ∷ o ∷ s ∷ a ∷ b ∷ []) refl
    (omega arith)) ∙
    simp (
      numeral_back max8 v hv (omega arith),
      numeral_back max16 o ho (omega arith),
      numeral_back max_serial s hs (omega arith),
      numeral_back max16 a ha (omega arith),
      numeral_back max16 b hb (omega arith),
    )

line_lacks : (w ns : List ℕ) → lacks 10 w ≡ true → Small ns → lacks 10 (w ++ spaced ns) ≡ true
line_lacks w ns h s = grind (arith, lacks_append, spaced_lacks)

-- the line of a command is one line, and tells the command
pub record IsLineOf (l : List ℕ) (c : Command) : Type 0 where
  pub one : lacks 10 l ≡ true
  pub read : read_entry l ≡ Some c

told : (c : Command) → Sized c → (k : Option Verb) → verb_of c.verb ≡ k → fits k c ≡ true → IsLineOf (line_for k c) c
told c z None e h = cc
told c z (Some Noop) e h = record { one = refl; read = noop_back ∙ grind (arith, nat_tests) }
told c z (Some Add) e h = record {
  one = line_lacks (codes "add") (c.a ∷ []) refl (omega arith, tt);
  read = add_back c.a (omega arith) ∙ grind (arith, nat_tests);
}
told c z (Some Remove) e h = record {
  one = line_lacks (codes "remove") (c.a ∷ []) refl (omega arith, tt);
  read = remove_back c.a (omega arith) ∙ grind (arith, nat_tests);
}
told c z (Some Change) e h = record {
  one = line_lacks (codes "change") (c.verb ∷ c.origin ∷ c.serial ∷ c.a ∷ c.b ∷ []) refl (omega arith);
  read = change_back c.verb c.origin c.serial c.a c.b (omega arith) (omega arith) (omega arith) (omega arith)
      (omega arith);
}

entry_told : (c : Command) → Listable c → IsLineOf (line_of c) c
entry_told c h = told c h.sized (verb_of c.verb) refl h.well

-- the chain
small : (ms : List ℕ) → different_directors ms ≡ true → Small ms
small [] h = tt
small (m ∷ ms) h = grind (arith, director_first, small ms)

directors_back : (ms : List ℕ) → different_directors ms ≡ true → directors (map decimal_of ms) ≡ Some ms
directors_back [] h = refl
directors_back (m ∷ ms) h = grind (arith, director_first, numeral_back max16 m, directors_back ms)

some_back : (ms : List ℕ) → 1 ≤ length ms → different_directors ms ≡ true → some_directors (map decimal_of ms) ≡ Some ms
some_back [] l h = absurd (omega arith)
some_back (m ∷ ms) l h = directors_back (m ∷ ms) h

chain_back : (ms : List ℕ) → 1 ≤ length ms → different_directors ms ≡ true → read_chain (chain_line ms) ≡ Some ms
unfolding read_chain
chain_back ms l h = ap chain_of (words_back (codes "chain") ms refl (small ms h)) ∙ some_back ms l h

chain_lacks : (ms : List ℕ) → different_directors ms ≡ true → lacks 10 (chain_line ms) ≡ true
chain_lacks ms h = line_lacks (codes "chain") ms refl (small ms h)

-- the lines, and the whole
lines_back : (l rest : List ℕ) → lacks 10 l ≡ true → lines (ending l ++ rest) ≡ l ∷ lines rest
lines_back l rest h = grind (arith, common_steps, lines_first)

entries_back : (n : ℕ) (cs : List Command) → All Listable cs → entries_from n (lines (entries_text cs)) ≡ Ok cs
entries_back n [] h = refl
entries_back n (c ∷ cs) h =
    let l = All-head Listable c cs h in
    let t = entry_told c l in
    rw (lines_back (line_of c) (entries_text cs) t.one, t.read)
    (cond-true (well_formed c) _ _ l.well ∙ ap (before c) (entries_back (n + 1) cs (All-tail Listable c cs h)))

pub text_back : (ms : List ℕ) (cs : List Command) → valid_chain ms ≡ true → All Listable cs →
    read_text (text_of ms cs) ≡ Ok (record { chain = founded ms; commands = cs })
unfolding read_text
text_back ms cs v h =
    let p = and_parts (leb 1 (length ms) && leb (length ms) 7) (different_directors ms) v in
    let q = and_parts (leb 1 (length ms)) (leb (length ms) 7) p.0 in
    ap read_lines (lines_back (chain_line ms) (entries_text cs) (chain_lacks ms p.1)) ∙
    ap (λ x. chained x (lines (entries_text cs))) (chain_back ms (leb-true _ _ q.0) p.1) ∙
    cond-true (valid_chain ms) _ _ v ∙ ap (listed (founded ms)) (entries_back 2 cs h)

pub read_back : (text : List ℕ) (r : Result YearList Fault) → Tells list_of r (read_text text) → ReadsBack text r
read_back text r h ms cs v l e =
    h ∙ ap (λ x. cond (spent r) (Err Memory) x) (ap read_text e ∙ text_back ms cs v l)
