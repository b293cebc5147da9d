-- Ballots that were put into one slot, by their order in time.
use Rattle.std.proofs.Common.{◌≡◌, ℕ, ◌≤◌, max, Bool, true, cond, ◌||◌, eqb, ltb, List, [], ◌∷◌, sym, arith}
use Rattle.std.proofs.Math.Bool.{or-false}
use Rattle.std.proofs.lemmas.Bool.{and_parts, leb-true}
use Rattle.std.proofs.lemmas.Bool.Decides.{nat_tests}
use Rattle.command.specs.declared.Command.{Command}
use Rattle.journal.specs.declared.writes.Entry.{Entry}
use Rattle.journal.specs.declared.writes.Write.{Write}
use Rattle.journal.specs.declared.writes.Write.TheVariants.{Promise, Put, Settle}
use Rattle.journal.specs.Meaning.{Meaning, fresh, blank, taken, after}
use Rattle.journal.specs.Laws.{all_taken, newest, highest, was_put}
use Rattle.journal.proofs.Newest.{put_parts}

-- the newest entry of slot n after e has the highest ballot
record High (n : ℕ) (e : Entry) (ws : List Write) : Type 0 where
  puts : highest n ws ≤ (newest n e ws).ballot
  first : e.ballot ≤ (newest n e ws).ballot

put_high : (t : Bool) (n b : ℕ) (c : Command) (e : Entry) (ws : List Write) → e.ballot ≤ b
    → High n (cond t (record { ballot = b; command = c }) e) ws
    → (max (cond t b 0) (highest n ws) ≤ (newest n (cond t (record { ballot = b; command = c }) e) ws).ballot)
    × (e.ballot ≤ (newest n (cond t (record { ballot = b; command = c }) e) ws).ballot)
put_high t n b c e ws l h = grind (arith, nat_tests, h.puts, h.first)

put_below : (t : Bool) (b : ℕ) (c : Command) (e : Entry) → e.ballot ≤ b
    → (cond t (record { ballot = b; command = c }) e).ballot ≤ b
put_below t b c e l = grind (arith, nat_tests)

high : (ws : List Write) (m : Meaning) (n : ℕ) (e : Entry) → all_taken m ws ≡ true → e.ballot ≤ m.promised
    → High n e ws
unfolding taken after
high [] m n e t l = record { puts = omega arith; first = omega arith }
high (Promise b ∷ ws) m n e t l =
    let q = and_parts (taken (Promise b) m) (all_taken (after (Promise b) m) ws) t in
    let r = leb-true m.promised b q.0 in
    let h = high ws (after (Promise b) m) n e q.1 (omega arith) in
    record { puts = h.puts; first = h.first }
high (Put k b c ∷ ws) m n e t l =
    let q = and_parts (taken (Put k b c) m) (all_taken (after (Put k b c) m) ws) t in
    let p = put_parts k b c m q.0 in
    let b-is = p.ballot in
    let below = put_below (eqb k n) b c e (omega arith) in
    let h = high ws (after (Put k b c) m) n (cond (eqb k n) (record { ballot = b; command = c }) e) q.1
    (omega arith) in
    let r = put_high (eqb k n) n b c e ws (omega arith) h in
    record { puts = r.0; first = r.1 }
high (Settle c ∷ ws) m n e t l =
    let q = and_parts (taken (Settle c) m) (all_taken (after (Settle c) m) ws) t in
    let h = high ws (after (Settle c) m) n e q.1 l in
    record { puts = h.puts; first = h.first }

put_told : (t : Bool) (n b : ℕ) (c : Command) (e : Entry) (ws : List Write) → 1 ≤ b
    → ltb 0 (newest n (cond t (record { ballot = b; command = c }) e) ws).ballot
    ≡ (ltb 0 (cond t (record { ballot = b; command = c }) e).ballot || was_put n ws)
    → ltb 0 (newest n (cond t (record { ballot = b; command = c }) e) ws).ballot
    ≡ (ltb 0 e.ballot || (t || was_put n ws))
put_told t n b c e ws l h = grind (arith, nat_tests)

told : (ws : List Write) (m : Meaning) (n : ℕ) (e : Entry) → all_taken m ws ≡ true
    → ltb 0 (newest n e ws).ballot ≡ (ltb 0 e.ballot || was_put n ws)
told [] m n e t = sym (or-false (ltb 0 e.ballot))
told (Promise b ∷ ws) m n e t =
    told ws (after (Promise b) m) n e (and_parts (taken (Promise b) m) (all_taken (after (Promise b) m) ws) t).1
told (Put k b c ∷ ws) m n e t =
    let q = and_parts (taken (Put k b c) m) (all_taken (after (Put k b c) m) ws) t in
    let p = put_parts k b c m q.0 in
    put_told (eqb k n) n b c e ws p.some
    (told ws (after (Put k b c) m) n (cond (eqb k n) (record { ballot = b; command = c }) e) q.1)
told (Settle c ∷ ws) m n e t =
    told ws (after (Settle c) m) n e (and_parts (taken (Settle c) m) (all_taken (after (Settle c) m) ws) t).1

-- over the writes of a journal that began as a new one
pub newest_highest : (c : ℕ) (ws : List Write) (n : ℕ) → all_taken (fresh c) ws ≡ true
    → highest n ws ≤ (newest n blank ws).ballot
newest_highest c ws n t = (high ws (fresh c) n blank t (omega arith)).puts

pub blank_none : (c : ℕ) (ws : List Write) (n : ℕ) → all_taken (fresh c) ws ≡ true
    → ltb 0 (newest n blank ws).ballot ≡ was_put n ws
blank_none c ws n t = told ws (fresh c) n blank t
