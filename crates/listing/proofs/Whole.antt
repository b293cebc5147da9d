-- A whole list, line by line.
use Rattle.std.proofs.Common.{◌≡◌, ℕ, ◌+◌, ◌<◌, ◌≤◌, Bool, true, cond, not, List, [], ◌∷◌, ◌++◌, map, length, Some, None, Ok, Err, codes, Option, Result, sym, refl, ap, ◌∙◌, arith}
use Rattle.command.specs.declared.Command.{Command}
use Rattle.command.specs.Commands.{well_formed}
use Rattle.command.specs.Chains.{founding}
use Rattle.command.specs.Members.{Membership, valid_chain, different_directors, is_member}
use Rattle.listing.specs.declared.faults.Fault.{Fault}
use Rattle.listing.specs.declared.faults.Fault.TheVariants.{InvalidChain, IllFormed, Unreadable, Memory}
use Rattle.listing.specs.Answers.{is_memory, as_byte, members_told, chain_told}
use Rattle.std.proofs.lemmas.Grind.{common_steps}
use Rattle.std.proofs.lemmas.Bool.Decides.{nat_tests}
use Rattle.std.proofs.lemmas.List.{append-nil, length-map}
use Rattle.listing.specs.Reading.{max16, then, entries_from, before, directors, some_directors}
use Rattle.listing.specs.Reading.{read_entry, read_chain, read_text, listed, chained, read_lines}
use Rattle.listing.specs.Pieces.{words, lines}
use Rattle.std.specs.Str.{bytes_eq}
use Rattle.std.specs.Option.{option_eq}
use Rattle.std.specs.Iterator.{YieldsFirstRef}
use Rattle.std.specs.Borrow.{Bor}
use Rattle.listing.specs.Numbers.{numeral}

-- the commands read so far, and then the others
abbrev pub after : List Command → Result (List Command) Fault → Result (List Command) Fault
after cs (Ok ds) = Ok (cs ++ ds)
after cs (Err f) = Err f

-- the bytes read so far, and then the others
abbrev pub bytes : Option (List ℕ) → Option (List ℕ)
bytes None = None
bytes (Some ds) = Some (map as_byte ds)

abbrev pub after_bytes : List ℕ → Option (List ℕ) → Option (List ℕ)
after_bytes bs None = None
after_bytes bs (Some cs) = Some (bs ++ cs)

after_push : (cs : List Command) (c : Command) (r : Result (List Command) Fault) →
    after cs (before c r) ≡ after (cs ++ (c ∷ [])) r
after_push cs c (Ok ds) = grind (arith, common_steps)
after_push cs c (Err f) = refl

pub entries_more : (n : ℕ) (l : List ℕ) (all ls : List (List ℕ)) (c : Command) (cs es : List Command)
    (o : Result (List Command) Fault) → Some c ≡ read_entry l → true ≡ well_formed c → all ≡ l ∷ ls →
    es ≡ cs ++ (c ∷ []) → o ≡ after cs (entries_from n all) → o ≡ after es (entries_from (n + 1) ls)
entries_more n l all ls c cs es o p q s t e = grind (arith, after_push)

pub entries_end : (n : ℕ) (all left : List (List ℕ)) (cs : List Command) → left ≡ [] →
    entries_from 2 all ≡ after cs (entries_from n left) → Ok cs ≡ entries_from 2 all
entries_end n all left cs e h = grind (arith, append-nil {A = Command})

after_bytes_push : (bs : List ℕ) (d : ℕ) (o : Option (List ℕ)) →
    after_bytes bs (bytes (then o (λ ds. Some (d ∷ ds)))) ≡ after_bytes (bs ++ (as_byte d ∷ [])) (bytes o)
after_bytes_push bs d None = refl
after_bytes_push bs d (Some ds) = grind (arith, common_steps)

pub directors_more : (w : List ℕ) (all ws : List (List ℕ)) (d b : ℕ) (bs cs : List ℕ) (o : Option (List ℕ)) →
    Some d ≡ numeral max16 w → all ≡ w ∷ ws → b ≡ as_byte d → cs ≡ bs ++ (b ∷ []) →
    o ≡ after_bytes bs (bytes (directors all)) → o ≡ after_bytes cs (bytes (directors ws))
directors_more w all ws d b bs cs o p q s t e = grind (arith, after_bytes_push)

pub directors_stop : (w : List ℕ) (all ws : List (List ℕ)) (bs : List ℕ) (o : Option (List ℕ)) →
    None ≡ numeral max16 w → all ≡ w ∷ ws → bytes o ≡ after_bytes bs (bytes (directors all)) →
    Err (Unreadable 1) ≡ members_told o
directors_stop w all ws bs None p s e = refl
directors_stop w all ws bs (Some ds) p s e = grind arith

-- a chain as it was made, with the fault for its refusal
abbrev pub from_number : Result Membership ℕ → Result Membership Fault
from_number (Ok m) = Ok m
from_number (Err n) = Err InvalidChain

pub director_first : (m : ℕ) (ms : List ℕ) → different_directors (m ∷ ms) ≡ true →
    (m ≤ 31) × (different_directors ms ≡ true)
director_first m ms h = grind (arith, nat_tests)

-- the first line: its first word, and whether any follows
pub chain_word : (line : List ℕ) (all ws : List (List ℕ)) (r : Option (Bor (List ℕ))) (chain : Bor (List ℕ))
    (b : Bool) → all ≡ words line → YieldsFirstRef (λ ps. ps) all r ws → chain.now ≡ codes "chain" →
    b ≡ not (option_eq (λ x y. bytes_eq x.now y.now) r (Some chain)) → read_chain line ≡ cond b None (some_directors ws)
unfolding read_chain
chain_word line all ws None chain b p s q h = rw (h, ← p, s.0) refl
chain_word line all ws (Some w) chain b p s q h = rw (← p, s, h, q) (grind arith)

pub some_directors_is : (ws : List (List ℕ)) → 0 < length ws → some_directors ws ≡ directors ws
some_directors_is [] h = absurd (omega arith)
some_directors_is (w ∷ ws) h = refl

-- bytes make a chain where the directors do, and the same one
bytes_same : (ms : List ℕ) → different_directors ms ≡ true → map as_byte ms ≡ ms
bytes_same [] h = refl
bytes_same (m ∷ ms) h = grind (arith, nat_tests, bytes_same ms)

byte_among : (d : ℕ) → d ≤ 31 → (ms : List ℕ) → is_member d (map as_byte ms) ≡ is_member d ms
byte_among d h [] = refl
byte_among d h (m ∷ ms) = grind (arith, nat_tests, byte_among d h ms)

bytes_differ : (ms : List ℕ) → different_directors (map as_byte ms) ≡ different_directors ms
bytes_differ [] = refl
bytes_differ (m ∷ ms) = grind (arith, nat_tests, bytes_differ ms, byte_among)

bytes_valid : (ms : List ℕ) → valid_chain (map as_byte ms) ≡ valid_chain ms
bytes_valid ms = grind (arith, bytes_differ, length-map)

pub chain_told_is : (o : Option (List ℕ)) (bs : List ℕ) (r : Result Membership ℕ) → Ok bs ≡ members_told o →
    r ≡ founding bs → chain_told o ≡ from_number r
chain_told_is None bs r p q = cc
chain_told_is (Some ms) bs r p q = grind (arith, nat_tests, bytes_valid, bytes_same)

-- a fault is passed on, and want of memory excuses all
pass : {A B : Type 0} (f : Fault) (p : Result A Fault) (q : Result B Fault) → ((f : Fault) → Err f ≡ p → Err f ≡ q) →
    Err f ≡ cond (is_memory f) (Err Memory) p → Err f ≡ cond (is_memory f) (Err Memory) q
pass InvalidChain p q k e = k InvalidChain e
pass (IllFormed n) p q k e = k (IllFormed n) e
pass (Unreadable n) p q k e = k (Unreadable n) e
pass Memory p q k e = refl

members_err : (o : Option (List ℕ)) (f : Fault) → Err f ≡ members_told o → Err f ≡ chain_told o
members_err None f e = cc
members_err (Some ms) f e = cc

pub members_fault : (o : Option (List ℕ)) (f : Fault) → Err f ≡ cond (is_memory f) (Err Memory) (members_told o) →
    Err f ≡ cond (is_memory f) (Err Memory) (chain_told o)
members_fault o f e = pass f _ _ (members_err o) e

-- the whole text: no line, a first line at fault, a later line at fault, and a list
pub text_none : (text : List ℕ) (all : List (List ℕ)) → all ≡ lines text → all ≡ [] →
    read_text text ≡ Err (Unreadable 1)
unfolding read_text
text_none text all p q = ap read_lines (sym p ∙ q)

pub text_from : (text l : List ℕ) (all ls : List (List ℕ)) → all ≡ lines text → all ≡ l ∷ ls →
    read_text text ≡ chained (read_chain l) ls
unfolding read_text
text_from text l all ls p q = ap read_lines (sym p ∙ q)

chained_err : (o : Option (List ℕ)) (ls : List (List ℕ)) (f : Fault) → Err f ≡ chain_told o → Err f ≡ chained o ls
chained_err None ls f e = cc
chained_err (Some ms) ls f e = grind (arith, nat_tests)

chained_ok : (o : Option (List ℕ)) (ls : List (List ℕ)) (m : Membership) → Ok m ≡ chain_told o →
    chained o ls ≡ listed m (entries_from 2 ls)
chained_ok None ls m e = cc
chained_ok (Some ms) ls m e = grind (arith, nat_tests)

pub chain_fault : (text : List ℕ) (o : Option (List ℕ)) (ls : List (List ℕ)) (f : Fault) →
    read_text text ≡ chained o ls → Err f ≡ cond (is_memory f) (Err Memory) (chain_told o) →
    Err f ≡ cond (is_memory f) (Err Memory) (read_text text)
chain_fault text o ls f t e = rw t (pass f _ _ (chained_err o ls) e)

pub entry_fault : (text : List ℕ) (o : Option (List ℕ)) (ls : List (List ℕ)) (m : Membership) (f : Fault) →
    read_text text ≡ chained o ls → Ok m ≡ chain_told o → Err f ≡ cond (is_memory f) (Err Memory) (entries_from 2 ls) →
    Err f ≡ cond (is_memory f) (Err Memory) (read_text text)
entry_fault text o ls m f t k e = rw (t, chained_ok o ls m k) (pass f _ _ (λ x p. ap (listed m) p) e)

pub text_list : (text : List ℕ) (o : Option (List ℕ)) (ls : List (List ℕ)) (m : Membership) (cs : List Command) →
    read_text text ≡ chained o ls → Ok m ≡ chain_told o → Ok cs ≡ entries_from 2 ls →
    Ok (record { chain = m; commands = cs }) ≡ read_text text
text_list text o ls m cs t k e = rw (t, chained_ok o ls m k) (ap (listed m) e)
