-- The whole file: it is found whole exactly where it is the layout of what the reader tells.
use Rattle.std.proofs.Common.{◌≡◌, ℕ, ◌+◌, ◌^◌, ◌<◌, ◌≤◌, Bool, true, false, cond, ltb, leb, List, [], ◌∷◌, ◌++◌, length, get_or, take, drop, Some, None, Option, Fits, w8, sym, refl, ap, ◌∙◌, ap₂, append_assoc, arith}
use Rattle.std.proofs.lemmas.Bool.{and_parts, leb-true, eqb-true, eq-eqb, ltb-false, cond-true}
use Rattle.std.proofs.lemmas.List.Elements.{All-drop, All-take}
use Rattle.std.proofs.lemmas.List.{length-append, length-drop, length-take-le, take_at, drop_at, take-append-drop, take-take}
use Rattle.std.proofs.lemmas.Slice.Eq.{starts_is}
use Rattle.std.proofs.lemmas.Bool.Decides.{Decides-eqb, nat_tests}
use Rattle.octets.specs.Numbers.{le, num}
use Rattle.octets.proofs.Areas.{part_more}
use Rattle.octets.proofs.Numbers.{Bytes, num_le, le_num, num_fits}
use Rattle.command.specs.declared.Command.{Command}
use Rattle.command.specs.Members.{valid_chain}
use Rattle.command.proofs.Lists.{valid_parts}
use Rattle.archive.specs.Layout.{mark, header, entries, layout, Archive}
use Rattle.archive.specs.Reading.{has_mark, has_chain, has_count, or_count, fault, scanned, scan_all, found, members_of}
use Rattle.archive.specs.Reading.{start_of, count_at, body_of}
use Rattle.archive.specs.Readers.{Exact}
use Rattle.octets.proofs.Parts.{part_join, area_bytes}
use Rattle.archive.proofs.Scans.{scan_entries, whole}
use Rattle.archive.specs.declared.reading.Broken.{Broken}
use Rattle.archive.specs.declared.reading.Broken.TheVariants.{Mark, Chain, Count}

-- where nothing is broken, each test passed
passed : (a b c : Bool) (d : Option Broken) → cond a (Some Mark) (cond b (cond c d (Some Chain)) (Some Mark)) ≡ None
    → (a ≡ false) × (b ≡ true) × (c ≡ true) × (d ≡ None)
passed a b c d h = grind (arith, nat_tests)

counted : (f : List ℕ) (cs : List Command) (o : Option ℕ) → or_count f cs o ≡ None
    → (o ≡ None) × (has_count f cs ≡ true)
counted f cs o e = grind (arith, nat_tests)

pub chained : (f : List ℕ) → start_of f ≤ count_at f → valid_chain (members_of f) ≡ true → has_chain f ≡ true
chained f fits valid = grind (arith, nat_tests)

-- where mark and chain are whole, the first broken part is among entries and count
pub fault_after : (f : List ℕ) → 8 ≤ length f → has_mark f ≡ true → has_chain f ≡ true
    → fault f ≡ or_count f (scanned f).commands (scanned f).broken
fault_after f long marked chain = grind (arith, nat_tests)

-- ---- what is written is found whole

abbrev laid : List ℕ → List ℕ → List ℕ → List ℕ
laid ms body tail = header ms ++ (body ++ tail)

module _ (ms body tail : List ℕ) (two : length tail ≡ 2) where
  shape : laid ms body tail ≡ (header ms ++ body) ++ tail
  shape = sym (append_assoc (header ms) body tail)

  front_length : length (header ms ++ body) ≡ 5 + length ms + length body
  front_length = length-append (header ms) body ∙ ap (λ (n : ℕ). n + length body) (omega arith)

  laid_length : length (laid ms body tail) ≡ 5 + length ms + length body + 2
  laid_length = ap length shape ∙ length-append (header ms ++ body) tail ∙ ap₂ (λ (m n : ℕ). m + n) front_length two

  laid_count : count_at (laid ms body tail) ≡ length (header ms ++ body)
  laid_count = let a = laid_length in let b = front_length in omega arith

  laid_members : members_of (laid ms body tail) ≡ ms
  laid_members = take_at ms (body ++ tail) (length ms) refl

  laid_body : body_of (laid ms body tail) ≡ body
  laid_body =
      let file = laid ms body tail in
      let front : take (count_at file) file ≡ header ms ++ body =
      ap (take (count_at file)) shape ∙ take_at (header ms ++ body) tail (count_at file) (sym laid_count) in
      ap (drop (start_of file)) front ∙ drop_at (header ms) body (start_of file) (omega arith)

  laid_tail : drop (count_at (laid ms body tail)) (laid ms body tail) ≡ tail
  laid_tail =
      let file = laid ms body tail in
      ap (drop (count_at file)) shape ∙ drop_at (header ms ++ body) tail (count_at file) (sym laid_count)

-- where the count and the entries of a written file are
pub file_count : (f ms : List ℕ) (cs : List Command) → Archive f ms cs
    → count_at f ≡ length (header ms) + length (entries cs)
unfolding layout
file_count f ms cs a =
    ap count_at a.laid ∙ laid_count ms (entries cs) (le 2 (length cs)) refl ∙ length-append (header ms) (entries cs)

pub file_body : (f ms : List ℕ) (cs : List Command) → Archive f ms cs → body_of f ≡ entries cs
unfolding layout
file_body f ms cs a = ap body_of a.laid ∙ laid_body ms (entries cs) (le 2 (length cs)) refl

-- the tests that a written file passes
written : (f ms : List ℕ) (cs : List Command) → Archive f ms cs
    → (fault f ≡ None) × (members_of f ≡ ms) × ((scanned f).commands ≡ cs)
unfolding layout
written f ms cs a =
    let file = laid ms (entries cs) (le 2 (length cs)) in
    let same : f ≡ file = a.laid in
    let v = valid_parts ms a.chain in
    let length-is = laid_length ms (entries cs) (le 2 (length cs)) refl in
    let members = laid_members ms (entries cs) (le 2 (length cs)) refl in
    let scan : scanned file ≡ found cs None =
    ap (scan_all (count_at file)) (laid_body ms (entries cs) (le 2 (length cs)) refl)
    ∙ scan_entries cs (count_at file) a.formed a.sized in
    let chain = chained file (omega arith) (ap valid_chain members ∙ a.chain) in
    let count : has_count file cs ≡ true =
    eq-eqb (num (drop (count_at file) file)) (length cs)
    (ap num (laid_tail ms (entries cs) (le 2 (length cs)) refl) ∙ num_le 2 (length cs) (omega (arith, a.few))) in
    let all = fault_after file (omega arith) refl chain ∙ ap (λ s. or_count file s.commands s.broken) scan
    ∙ cond-true (has_count file cs) None (Some (Count (count_at file))) count in
    rw same (all, members, ap (λ s. s.commands) scan)

-- ---- what is found whole was written

-- the file by its three parts: up to the entries, the entries, the count
module _ (f : List ℕ) (fits : start_of f ≤ count_at f) (long : 8 ≤ length f) where
  three_parts : take (start_of f) f ++ (body_of f ++ drop (count_at f) f) ≡ f
  three_parts =
      let n = count_at f in
      let front : take (start_of f) f ≡ take (start_of f) (take n f) = sym (take-take (start_of f) n f fits) in
      sym (append_assoc (take (start_of f) f) (body_of f) (drop n f))
      ∙ ap (λ (xs : List ℕ). (xs ++ body_of f) ++ drop n f) front
      ∙ ap (λ (xs : List ℕ). xs ++ drop n f) (take-append-drop (start_of f) (take n f))
      ∙ take-append-drop n f

  members_length : length (members_of f) ≡ get_or f 4 0
  members_length = length-take-le (get_or f 4 0) (drop 5 f) (let d = length-drop 5 f in omega arith)

  -- the front is mark, length and members
  front_header : take 4 f ≡ mark → take (start_of f) f ≡ header (members_of f)
  front_header marked =
      let five : take 5 f ≡ mark ++ (get_or f 4 0 ∷ []) =
      sym (part_join 0 4 1 f) ∙ ap₂ (λ (xs ys : List ℕ). xs ++ ys) marked (part_more 4 0 f (omega arith)) in
      sym (part_join 0 5 (get_or f 4 0) f) ∙ ap (λ (xs : List ℕ). xs ++ members_of f) five
      ∙ ap (λ (n : ℕ). mark ++ (n ∷ members_of f)) (sym members_length)

  count_length : length (drop (count_at f) f) ≡ 2
  count_length = let d = length-drop (count_at f) f in omega arith

read_back : (f : List ℕ) → Bytes f → fault f ≡ None → Archive f (members_of f) (scanned f).commands
unfolding layout
read_back f b e =
    let cs = (scanned f).commands in
    let p = passed (ltb (length f) 8) (has_mark f) (has_chain f) _ e in
    let q = counted f cs (scanned f).broken p.3 in
    let c = and_parts (leb (start_of f) (count_at f)) (valid_chain (members_of f)) p.2 in
    let fits = leb-true (start_of f) (count_at f) c.0 in
    let long = ltb-false (length f) 8 p.0 in
    let bytes-body = All-drop (λ x. x < 256) (start_of f) (take (count_at f) f)
    (All-take (λ x. x < 256) (count_at f) f b) in
    let w = whole (count_at f) (body_of f) bytes-body q.0 in
    let tail = drop (count_at f) f in
    let two = count_length f fits long in
    let bytes-tail = All-drop (λ x. x < 256) (count_at f) f b in
    let number = eqb-true (num tail) (length cs) q.1 in
    let count : le 2 (length cs) ≡ tail =
    ap₂ le (sym two) (sym number) ∙ le_num tail bytes-tail in
    let small : num tail < 256 ^ 2 = let n = num_fits tail bytes-tail in rw two at n in
    record {
      laid = sym (three_parts f fits long)
          ∙ ap₂ (λ (xs ys : List ℕ). xs ++ (ys ++ tail))
          (front_header f fits long (ap (take 4) ((starts_is Decides-eqb f mark (has_mark f) refl).0 p.1)))
          (sym w.bytes)
          ∙ ap (λ (xs : List ℕ). header (members_of f) ++ (entries cs ++ xs)) (sym count);
      chain = c.1;
      formed = w.formed;
      sized = w.sized;
      few = omega arith;
    }

pub exact : (f : List ℕ) → Bytes f → Exact f
exact f b = record { only = read_back f b; all = written f }

-- the same, as the code knows a file: each of its bytes fits
pub exact_file : (f : List ℕ) → ((i : ℕ) → Fits w8 (get_or f i 0)) → Exact f
exact_file f fits = exact f (area_bytes f fits)
