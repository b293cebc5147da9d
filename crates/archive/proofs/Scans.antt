-- Going through the entries: it finds just the commands whose entries the bytes are.
use Rattle.std.proofs.Common.{◌≡◌, ℕ, zero, suc, ◌+◌, ◌-◌, ◌<◌, ◌≤◌, true, List, [], ◌∷◌, ◌++◌, length, take, drop, Some, None, Ok, Err, Option, sym, refl, ap, ◌∙◌, ap₂, arith}
use Rattle.std.specs.List.{All, AllPass}
use Rattle.std.proofs.lemmas.List.Elements.{All-drop}
use Rattle.std.proofs.lemmas.List.Elements.{All-nil, All-cons, All-tail}
use Rattle.std.proofs.lemmas.List.{nil_from_length, length-drop, drop_at, take-append-drop}
use Rattle.std.proofs.lemmas.Bool.Decides.{nat_tests}
use Rattle.octets.proofs.Numbers.{Bytes}
use Rattle.command.specs.declared.Command.{Command}
use Rattle.command.specs.Commands.{well_formed, Sized}
use Rattle.archive.specs.Layout.{entry, entries}
use Rattle.archive.specs.Reading.{size_of, command_of, Found, found, and_then, found_from, scan, scan_all, counted_as}
use Rattle.archive.specs.Readers.{Gives}
use Rattle.archive.specs.declared.reading.Broken.TheVariants.{Entry as BrokenEntry}
use Rattle.archive.specs.declared.entries.Entry.{Entry}
use Rattle.archive.specs.declared.entries.Entries.{Entries}
use Rattle.archive.proofs.OneEntry.{Reread, reread, rewritten, within_left}

-- the same function of the bytes after an entry is found from each of two
found_same : (o : Option ℕ) (e : ℕ) (bs : List ℕ) (f g : List ℕ → Found)
    → ((s : ℕ) → o ≡ Some s → f (drop s bs) ≡ g (drop s bs)) → found_from o e bs f ≡ found_from o e bs g
found_same None e bs f g h = refl
found_same (Some s) e bs f g h = ap (and_then (command_of bs)) (h s refl)

-- more steps than there are bytes find nothing more
scan_enough : (k m i : ℕ) (bs : List ℕ) → length bs ≤ k → length bs ≤ m → scan k i bs ≡ scan m i bs
unfolding scan
scan_enough k m i [] h g = refl
scan_enough zero m i (b ∷ bs) h g = absurd (omega arith)
scan_enough (suc k) zero i (b ∷ bs) h g = absurd (omega arith)
scan_enough (suc k) (suc m) i (b ∷ bs) h g =
    found_same (size_of (b ∷ bs)) i (b ∷ bs) (scan k i) (scan m i)
    (λ s e.
    let w = within_left (b ∷ bs) s e in
    let l = length-drop s (b ∷ bs) in
    scan_enough k m i (drop s (b ∷ bs)) (omega arith) (omega arith))

-- the first entry is whole
pub scan_more : (i : ℕ) (bs : List ℕ) (s : ℕ) → size_of bs ≡ Some s
    → scan_all i bs ≡ and_then (command_of bs) (scan_all i (drop s bs))
unfolding scan
scan_more i [] s e = absurd (cc)
scan_more i (b ∷ bs) s e =
    let w = within_left (b ∷ bs) s e in
    let l = length-drop s (b ∷ bs) in
    ap (λ o. found_from o i (b ∷ bs) (scan (length bs) i)) e
    ∙ ap (and_then (command_of (b ∷ bs)))
    (scan_enough (length bs) (length (drop s (b ∷ bs))) i (drop s (b ∷ bs)) (omega arith) (omega arith))

-- the first entry is broken
pub scan_stop : (i : ℕ) (bs : List ℕ) → 0 < length bs → size_of bs ≡ None
    → scan_all i bs ≡ found [] (Some (i - length bs))
unfolding scan
scan_stop i [] l e = absurd (omega arith)
scan_stop i (b ∷ bs) l e = ap (λ o. found_from o i (b ∷ bs) (scan (length bs) i)) e

pub scan_end : (i : ℕ) → scan_all i [] ≡ found [] None
unfolding scan
scan_end i = refl

-- what it means that an entry was given, of this many bytes
pub record Gave (s : Entries) (x : Entry) (t : Entries) (k : ℕ) : Type 0 where
  pub size : size_of s.rest.now ≡ Some k
  pub bytes : x.bytes.now ≡ take k s.rest.now
  pub left : t.rest.now ≡ drop k s.rest.now

gave_size : (s t : Entries) (x : Entry) → Gives s (Some x) t → size_of s.rest.now ≡ None → ⊥
gave_size s t x g e = grind (arith, nat_tests)

gave_bytes : (s t : Entries) (x : Entry) (k : ℕ) → Gives s (Some x) t → size_of s.rest.now ≡ Some k
    → x.bytes.now ≡ take k s.rest.now
gave_bytes s t x k g e = grind (arith, nat_tests)

gave_left : (s t : Entries) (x : Entry) (k : ℕ) → Gives s (Some x) t → size_of s.rest.now ≡ Some k
    → t.rest.now ≡ drop k s.rest.now
gave_left s t x k g e = grind (arith, nat_tests)

pub gave : (s t : Entries) (x : Entry) → Gives s (Some x) t → (k : ℕ) × Gave s x t k
gave s t x g = go (size_of s.rest.now) refl
  where
    go : (o : Option ℕ) → size_of s.rest.now ≡ o → (k : ℕ) × Gave s x t k
    go None q = absurd (gave_size s t x g q)
    go (Some k) q = (k, record { size = q; bytes = gave_bytes s t x k g q; left = gave_left s t x k g q })

-- and that none was
pub gave_none : (s t : Entries) → Gives s None t → (size_of s.rest.now ≡ None) × (t.rest.now ≡ s.rest.now)
gave_none s t g = grind (arith, nat_tests)

-- one entry more was counted
pub counted_more : (n : ℕ) (s t : Entries) (x : Entry) → Gives s (Some x) t
    → counted_as (n + 1 + length (scan_all t.end t.rest.now).commands) (scan_all t.end t.rest.now).broken
    ≡ counted_as (n + length (scan_all s.end s.rest.now).commands) (scan_all s.end s.rest.now).broken
counted_more n s t x g =
    let k = gave s t x g in
    let more = scan_more s.end s.rest.now k.0 k.1.size in
    let left : scan_all t.end t.rest.now ≡ scan_all s.end (drop k.0 s.rest.now) = ap₂ scan_all g.same k.1.left in
    let count : n + 1 + length (scan_all t.end t.rest.now).commands
    ≡ n + length (scan_all s.end s.rest.now).commands =
    omega (arith, ap (λ f. length f.commands) more, ap (λ f. length f.commands) left) in
    ap₂ counted_as count (ap (λ f. f.broken) left ∙ ap (λ f. f.broken) (sym more))

-- none is left: the first is broken, or there are no more bytes
pub counted_stop : (n e : ℕ) (bs : List ℕ) → 0 < length bs → size_of bs ≡ None
    → counted_as (n + length (scan_all e bs).commands) (scan_all e bs).broken ≡ Err (BrokenEntry (e - length bs))
counted_stop n e bs l q = ap (λ f. counted_as (n + length f.commands) f.broken) (scan_stop e bs l q)

pub counted_end : (n e : ℕ) (bs : List ℕ) → length bs ≡ 0
    → counted_as (n + length (scan_all e bs).commands) (scan_all e bs).broken ≡ Ok n
counted_end n e bs l =
    let none : scan_all e bs ≡ found [] None = ap (scan_all e) (nil_from_length bs l) ∙ scan_end e in
    let zero : n + 0 ≡ n = omega arith in
    ap (λ f. counted_as (n + length f.commands) f.broken) none ∙ ap Ok zero

-- after an entry fewer bytes are left
pub given_shorter : (s t : Entries) (x : Entry) → Gives s (Some x) t → length t.rest.now + 1 ≤ length s.rest.now
given_shorter s t x g =
    let k = gave s t x g in
    let w = within_left s.rest.now k.0 k.1.size in
    omega (arith, ap length k.1.left, length-drop k.0 s.rest.now)

-- the commands after the first
pub formed_rest : (c : Command) (cs : List Command) → AllPass well_formed (c ∷ cs) → AllPass well_formed cs
formed_rest c cs h = All-tail (λ d. well_formed d ≡ true) c cs h

pub sized_rest : (c : Command) (cs : List Command) → All Sized (c ∷ cs) → All Sized cs
sized_rest c cs s = All-tail Sized c cs s

-- the first of a list's entries, read again with the others after it
pub reread_first : (c : Command) (cs : List Command) → AllPass well_formed (c ∷ cs) → All Sized (c ∷ cs)
    → Reread (entry c) c (entries cs)
reread_first c cs h s = reread c (entries cs) (h 0 c (omega arith)) (s 0 c (omega arith))

-- what was written of a list is found again
pub scan_entries : (cs : List Command) (i : ℕ) → AllPass well_formed cs → All Sized cs
    → scan_all i (entries cs) ≡ found cs None
scan_entries [] i h s = scan_end i
scan_entries (c ∷ cs) i h s =
    let r = reread_first c cs h s in
    let left = drop_at (entry c) (entries cs) (length (entry c)) refl in
    scan_more i (entry c ++ entries cs) (length (entry c)) r.size
    ∙ ap₂ (λ (d : Command) (xs : List ℕ). and_then d (scan_all i xs)) r.same left
    ∙ ap (and_then c) (scan_entries cs i (formed_rest c cs h) (sized_rest c cs s))

-- bytes whose entries are all whole are what is written of the commands that were found
pub record Whole (bs : List ℕ) (cs : List Command) : Type 0 where
  pub bytes : entries cs ≡ bs
  pub formed : AllPass well_formed cs
  pub sized : All Sized cs

-- one step of that, whether or not the first entry is whole
entries_step : (i : ℕ) (bs : List ℕ) (o : Option ℕ) → size_of bs ≡ o → Bytes bs → (f : List ℕ → Found)
    → ((s : ℕ) → o ≡ Some s → (f (drop s bs)).broken ≡ None → Whole (drop s bs) (f (drop s bs)).commands)
    → (found_from o i bs f).broken ≡ None → Whole bs (found_from o i bs f).commands
entries_step i bs None q b f next e = absurd (cc)
entries_step i bs (Some s) q b f next e =
    let r = rewritten bs s b q in
    let w = next s refl e in
    record {
      bytes = ap₂ (λ (xs ys : List ℕ). xs ++ ys) r.bytes w.bytes ∙ take-append-drop s bs;
      formed = All-cons (λ d. well_formed d ≡ true) _ _ r.formed w.formed;
      sized = All-cons Sized _ _ r.sized w.sized;
    }

entries_scan : (k i : ℕ) (bs : List ℕ) → length bs ≤ k → Bytes bs → (scan k i bs).broken ≡ None
    → Whole bs (scan k i bs).commands
unfolding scan
entries_scan k i [] h b e =
    record { bytes = refl; formed = All-nil (λ d. well_formed d ≡ true); sized = All-nil Sized }
entries_scan zero i (x ∷ bs) h b e = absurd (cc)
entries_scan (suc k) i (x ∷ bs) h b e =
    entries_step i (x ∷ bs) (size_of (x ∷ bs)) refl b (scan k i)
    (λ s q none.
    let w = within_left (x ∷ bs) s q in
    let l = length-drop s (x ∷ bs) in
    entries_scan k i (drop s (x ∷ bs)) (omega arith) (All-drop (λ y. y < 256) s (x ∷ bs) b) none)
    e

pub whole : (i : ℕ) (bs : List ℕ) → Bytes bs → (scan_all i bs).broken ≡ None → Whole bs (scan_all i bs).commands
whole i bs b e = entries_scan (length bs) i bs (omega arith) b e
