-- The open entry of a slot that is not settled is what the newest put into it left.
use Rattle.std.proofs.Common.{◌≡◌, ℕ, ◌+◌, ◌%◌, ◌<◌, ◌≤◌, true, eqb, List, [], ◌∷◌, length, get_or, set, sym, refl, ap, ◌∙◌, subst, inl, inr, arith, length-set}
use Rattle.std.proofs.lemmas.Bool.{and_parts, cond-true, cond-false, eq-eqb, ne_eqb, cases_lt, cases_eq}
use Rattle.std.proofs.lemmas.List.{get_or-set_same, get_or-set_other, get_or-replicate, length-append}
use Rattle.std.proofs.lemmas.Bool.Decides.{nat_tests}
use Rattle.command.specs.declared.Command.{Command}
use Rattle.command.specs.Commands.{well_formed}
use Rattle.journal.specs.declared.writes.Entry.{Entry}
use Rattle.journal.specs.declared.writes.Write.{Write}
use Rattle.journal.specs.declared.writes.Write.TheVariants.{Promise, Put, Settle}
use Rattle.journal.specs.Windows.{element_at, place_of}
use Rattle.journal.specs.Meaning.{Meaning, settled_count, fresh, blank, open_of, taken, after, replay}
use Rattle.journal.specs.Laws.{all_taken, newest}
use Rattle.journal.proofs.Histories.{step_taken}

-- what was told of each slot so far: it stands in the open entries, and past the window nothing was
record Holds (m : Meaning) (e : ℕ → Entry) : Type 0 where
  eight : length m.places ≡ 8
  told : (n : ℕ) → settled_count m < n → n ≤ settled_count m + 8 → element_at blank m.places n ≡ e n
  past : (n : ℕ) → settled_count m + 8 < n → e n ≡ blank

-- what one more write tells of slot n
abbrev tells : Write → (ℕ → Entry) → ℕ → Entry
tells w e n = newest n (e n) (w ∷ [])

pub record PutParts (k b : ℕ) (m : Meaning) : Type 0 where
  pub ballot : b ≡ m.promised
  pub some : 1 ≤ b
  pub low : settled_count m < k
  pub high : k ≤ settled_count m + 8

pub put_parts : (k b : ℕ) (c : Command) (m : Meaning) → taken (Put k b c) m ≡ true → PutParts k b m
unfolding taken
put_parts k b c m t = grind (arith, nat_tests)

-- a put that is taken fits the capacity, with a well-formed command
pub record PutFits (k : ℕ) (c : Command) (m : Meaning) : Type 0 where
  pub fits : k ≤ m.capacity
  pub formed : well_formed c ≡ true

pub put_fits : (k b : ℕ) (c : Command) (m : Meaning) → taken (Put k b c) m ≡ true → PutFits k c m
unfolding taken
put_fits k b c m t = grind (arith, nat_tests)

-- two slots of one window have two places
apart : (n k p : ℕ) → p < n → n ≤ p + 8 → p < k → k ≤ p + 8 → (k ≡ n → ⊥) → (n % 8 ≡ k % 8 → ⊥)
apart n k p a b c d ne e = ne (omega arith)

kept : (w : Write) (m : Meaning) (e : ℕ → Entry) → taken w m ≡ true → Holds m e → Holds (after w m) (tells w e)
unfolding taken after
kept (Promise b) m e t h = record { eight = h.eight; told = h.told; past = h.past }
kept (Put k b c) m e t h =
    let q = put_parts k b c m t in
    let low = q.low in
    let high = q.high in
    let eight = h.eight in
    record {
      eight = length-set m.places (place_of k) (record { ballot = b; command = c }) ∙ h.eight;
      told = λ n l u.
          elim (cases_eq k n) [
            | inl same ↦
                ap (λ (i : ℕ). get_or (set m.places (k % 8) (record { ballot = b; command = c })) (i % 8) blank)
                (sym same)
                ∙ get_or-set_same m.places (k % 8) (record { ballot = b; command = c }) blank (omega arith)
                ∙ sym (cond-true (eqb k n) (record { ballot = b; command = c }) (e n) (eq-eqb k n same))
            | inr other ↦
                get_or-set_other m.places (k % 8) (n % 8) (record { ballot = b; command = c }) blank
                (apart n k (settled_count m) l u low high other)
                ∙ h.told n l u
                ∙ sym (cond-false (eqb k n) (record { ballot = b; command = c }) (e n) (ne_eqb k n other))
          ];
      past = λ n u.
          cond-false (eqb k n) (record { ballot = b; command = c }) (e n) (ne_eqb k n (λ z. omega arith)) ∙ h.past n u;
    }
kept (Settle c) m e t h =
    let p = settled_count m in
    let l1 = length-append m.settled (c ∷ []) in
    let eight = h.eight in
    record {
      eight = length-set m.places (place_of (p + 1)) blank ∙ h.eight;
      told = λ n l u.
          elim (cases_lt n (p + 9)) [
            | inl inside ↦
                get_or-set_other m.places ((p + 1) % 8) (n % 8) blank blank
                (apart n (p + 1) p (omega arith) (omega arith) (omega arith) (omega arith) (λ z. omega arith))
                ∙ h.told n (omega arith) (omega arith)
            | inr next ↦
                let same : n % 8 ≡ (p + 1) % 8 = omega arith in
                ap (λ (i : ℕ). get_or (set m.places ((p + 1) % 8) blank) i blank) same
                ∙ get_or-set_same m.places ((p + 1) % 8) blank blank (omega arith)
                ∙ sym (h.past n (omega arith))
          ];
      past = λ n u. h.past n (omega arith);
    }

-- the entry that is told, by the open one
opened : (m : Meaning) (e : ℕ → Entry) (n : ℕ) → Holds m e → settled_count m < n → open_of m n ≡ e n
opened m e n h l =
    let p = settled_count m in
    let inside : n < p + 9 → element_at blank m.places n ≡ e n = λ u. h.told n l (omega arith) in
    let past : p + 9 ≤ n → e n ≡ blank = λ u. h.past n (omega arith) in
    grind (arith, nat_tests)

newest_step : (w : Write) (ws : List Write) (n : ℕ) (x : Entry)
    → newest n x (w ∷ ws) ≡ newest n (newest n x (w ∷ [])) ws
newest_step (Promise b) ws n x = refl
newest_step (Put k b c) ws n x = refl
newest_step (Settle c) ws n x = refl

replayed : (ws : List Write) (m : Meaning) (e : ℕ → Entry) (n : ℕ) → all_taken m ws ≡ true → Holds m e
    → settled_count (replay m ws) < n → open_of (replay m ws) n ≡ newest n (e n) ws
replayed [] m e n t h l = opened m e n h l
replayed (w ∷ ws) m e n t h l =
    let q = and_parts (taken w m) (all_taken (after w m) ws) t in
    let s = step_taken w m q.0 in
    let l2 = subst (λ (x : Meaning). settled_count (replay x ws) < n) s l in
    ap (λ (x : Meaning). open_of (replay x ws) n) s
    ∙ replayed ws (after w m) (tells w e) n q.1 (kept w m e q.0 h) l2
    ∙ sym (newest_step w ws n (e n))

new_holds : (c : ℕ) → Holds (fresh c) (λ _. blank)
new_holds c =
    record { eight = refl; told = λ n l u. get_or-replicate 8 (n % 8) blank blank (omega arith); past = λ n u. refl }

pub open_newest : (c : ℕ) (ws : List Write) (n : ℕ) → all_taken (fresh c) ws ≡ true
    → settled_count (replay (fresh c) ws) < n
    → open_of (replay (fresh c) ws) n ≡ newest n blank ws
open_newest c ws n t l = replayed ws (fresh c) (λ _. blank) n t (new_holds c) l
