-- Below once-only each origin and serial acts at most once, and a repeated highest serial gets the same answer.
use Rattle.std.proofs.Common.{◌≡◌, ℕ, ◌+◌, ◌<◌, ◌≤◌, Bool, true, false, cond, not, eqb, ltb, ◌⊎◌, List, [], ◌∷◌, length, get_or, take, set, replicate, sym, refl, ap, ◌∙◌, inl, inr, ⊎_elim, arith}
use Rattle.std.proofs.lemmas.List.{length-append, length-set, length-take-le, drop_at, get_or_append_left, get_or-set_other, get_or-take}
use Rattle.std.proofs.lemmas.Bool.{cases_Bool, cond-true, cond-false, eq-eqb, or_cases, not_from_false, and_from, false≢true}
use Rattle.std.proofs.lemmas.Bool.Decides.{nat_tests}
use Rattle.command.specs.declared.Command.{Command}
use Rattle.machine.specs.Rules.{Rule, after}
use Rattle.layers.specs.Once.{once_start, once_rule, serial_of, answer_of, below_once, keeps, is_old, is_repeat}
use Rattle.layers.specs.Passing.{goes_lower, passed, is_same, occurs, none_twice, ActsOnce}
use Rattle.machine.proofs.Places.{get_d_set}
use Rattle.layers.proofs.Memory.{rule_higher}

-- what a command that went lower leaves in the front
front : (s : List ℕ) (c : Command) (a : ℕ) → List ℕ
front s c a = set (set (take 64 s) c.origin c.serial) (32 + c.origin) a

front_long : (s : List ℕ) (c : Command) (a : ℕ) → 64 ≤ length s → length (front s c a) ≡ 64
unfolding front
front_long s c a l = simp (length-set) (length-take-le 64 s l)

pub keeps_long : (s : List ℕ) (c : Command) (r : List ℕ × ℕ) → 64 ≤ length s → 64 ≤ length (keeps s c r).0
unfolding front
keeps_long s c r l = omega (arith, length-append (front s c r.1) r.0, front_long s c r.1 l)

keeps_below : (s : List ℕ) (c : Command) (r : List ℕ × ℕ) → 64 ≤ length s → below_once (keeps s c r).0 ≡ r.0
unfolding front
keeps_below s c r l = drop_at (front s c r.1) r.0 64 (front_long s c r.1 l)

keeps_serial : (s : List ℕ) (c : Command) (r : List ℕ × ℕ) (o : ℕ) → 64 ≤ length s → c.origin ≤ 31 → o ≤ 31
    → serial_of (keeps s c r).0 o ≡ cond (eqb c.origin o) c.serial (serial_of s o)
unfolding front
keeps_serial s c r o l h k =
    let m = front_long s c r.1 l in
    let n = length-take-le 64 s l in
    get_or_append_left (front s c r.1) r.0 0 o (omega arith)
    ∙ (get_or-set_other (set (take 64 s) c.origin c.serial) (32 + c.origin) o r.1 0 (omega arith)
    ∙ (get_d_set (take 64 s) c.origin o c.serial (omega arith)
    ∙ ap (cond (eqb c.origin o) c.serial) (get_or-take 64 s o 0 (omega arith))))

keeps_answer : (s : List ℕ) (c : Command) (r : List ℕ × ℕ) (o : ℕ) → 64 ≤ length s → c.origin ≤ 31 → o ≤ 31
    → answer_of (keeps s c r).0 o ≡ cond (eqb c.origin o) r.1 (answer_of s o)
unfolding front
keeps_answer s c r o l h k =
    let m = front_long s c r.1 l in
    let n = length-take-le 64 s l in
    let e : eqb (32 + c.origin) (32 + o) ≡ eqb c.origin o = grind (arith, nat_tests) in
    get_or_append_left (front s c r.1) r.0 0 (32 + o) (omega arith)
    ∙ (get_d_set (set (take 64 s) c.origin c.serial) (32 + c.origin) (32 + o) r.1
    (omega (arith, length-set (take 64 s) c.origin c.serial))
    ∙ (ap (λ b. cond b r.1 (get_or (set (take 64 s) c.origin c.serial) (32 + o) 0)) e
    ∙ ap (cond (eqb c.origin o) r.1)
    (get_or-set_other (take 64 s) c.origin (32 + o) c.serial 0 (omega arith)
    ∙ get_or-take 64 s (32 + o) 0 (omega arith))))

-- a command goes lower or changes nothing
pub record Went (lower : Rule) (s : List ℕ) (c : Command) : Type 0 where
  pub goes : goes_lower s c ≡ true
  pub known : c.origin ≤ 31
  pub higher : serial_of s c.origin < c.serial
  pub kept : once_rule lower s c ≡ keeps s c (lower (below_once s) c)

pub record Stayed (lower : Rule) (s : List ℕ) (c : Command) : Type 0 where
  pub stops : goes_lower s c ≡ false
  pub same : (once_rule lower s c).0 ≡ s

pub went : (lower : Rule) (s : List ℕ) (c : Command) → goes_lower s c ≡ true → Went lower s c
went lower s c e =
    let k : c.origin ≤ 31 = grind (arith, nat_tests) in
    let h : serial_of s c.origin < c.serial = grind (arith, nat_tests) in
    record { goes = e; known = k; higher = h; kept = rule_higher lower s c k h }

first_three : (u o r : Bool) (s : List ℕ) (x y z : ℕ) (w : List ℕ × ℕ) → (u ≡ false → o ≡ false → r ≡ false → ⊥)
    → (cond u (s, x) (cond o (s, y) (cond r (s, z) w))).0 ≡ s
first_three u o r s x y z w h = grind (arith, nat_tests)

stayed : (lower : Rule) (s : List ℕ) (c : Command) → goes_lower s c ≡ false → Stayed lower s c
stayed lower s c e =
    record {
      stops = e;
      same =
          first_three (ltb 31 c.origin) (is_old s c) (is_repeat s c) s _ _ _ _ (λ u o r. grind (arith, nat_tests));
    }

pub either : (lower : Rule) (s : List ℕ) (c : Command) → Went lower s c ⊎ Stayed lower s c
either lower s c = ⊎_elim (λ e. inl (went lower s c e)) (λ e. inr (stayed lower s c e)) (cases_Bool (goes_lower s c))

went_long : (lower : Rule) (s : List ℕ) (c : Command) → Went lower s c → 64 ≤ length s
    → 64 ≤ length (once_rule lower s c).0
went_long lower s c w l = rw w.kept (keeps_long s c (lower (below_once s) c) l)

pub stays_long : (lower : Rule) (s : List ℕ) (c : Command) → 64 ≤ length s → 64 ≤ length (once_rule lower s c).0
stays_long lower s c l =
    ⊎_elim (λ w. went_long lower s c w l) (λ t. omega (arith, ap length t.same)) (either lower s c)

-- the machine below did what the passed commands tell it
ran : (lower : Rule) (s : List ℕ) (cs : List Command) → 64 ≤ length s
    → below_once (after (once_rule lower) s cs) ≡ after lower (below_once s) (passed lower s cs)
ran lower s [] l = refl
ran lower s (c ∷ cs) l =
    let rest = ran lower (once_rule lower s c).0 cs (stays_long lower s c l) in
    let tail = passed lower (once_rule lower s c).0 cs in
    ⊎_elim
    (λ w.
    rest
    ∙ (ap (λ t. after lower t tail)
    (ap (λ r. below_once r.0) w.kept ∙ keeps_below s c (lower (below_once s) c) l)
    ∙ ap (after lower (below_once s)) (sym (cond-true (goes_lower s c) (c ∷ tail) tail w.goes))))
    (λ t.
    rest
    ∙ (ap (λ u. after lower (below_once u) tail) t.same
    ∙ ap (after lower (below_once s)) (sym (cond-false (goes_lower s c) (c ∷ tail) tail t.stops))))
    (either lower s c)

-- what is kept of an origin after a command that went lower
pub went_serial : (lower : Rule) (s : List ℕ) (c : Command) (o : ℕ) → Went lower s c → 64 ≤ length s → o ≤ 31
    → serial_of (once_rule lower s c).0 o ≡ cond (eqb c.origin o) c.serial (serial_of s o)
went_serial lower s c o w l k =
    ap (λ r. serial_of r.0 o) w.kept ∙ keeps_serial s c (lower (below_once s) c) o l w.known k

pub went_answer : (lower : Rule) (s : List ℕ) (c : Command) (o : ℕ) → Went lower s c → 64 ≤ length s → o ≤ 31
    → answer_of (once_rule lower s c).0 o ≡ cond (eqb c.origin o) (lower (below_once s) c).1 (answer_of s o)
went_answer lower s c o w l k =
    ap (λ r. answer_of r.0 o) w.kept ∙ keeps_answer s c (lower (below_once s) c) o l w.known k

-- what passes has a higher serial than the kept one
record High (s : List ℕ) (d : Command) : Type 0 where
  known : d.origin ≤ 31
  higher : serial_of s d.origin < d.serial

high_same : (s : List ℕ) (c d : Command) → is_same d c ≡ true → c.origin ≤ 31
    → serial_of s c.origin < c.serial → High s d
high_same s c d e k h = grind (arith, nat_tests)

-- no kept serial falls
rises : (kept : ℕ → ℕ) (i j n m : ℕ) → kept i < n → m ≡ cond (eqb i j) n (kept j) → kept j ≤ m
rises kept i j n m h e = grind (arith, nat_tests)

high_later : (lower : Rule) (s : List ℕ) (c d : Command) → Went lower s c → 64 ≤ length s
    → High (once_rule lower s c).0 d → High s d
high_later lower s c d w l h =
    let q =
    rises (serial_of s) c.origin d.origin c.serial (serial_of (once_rule lower s c).0 d.origin) w.higher
    (went_serial lower s c d.origin w l h.known) in
    record { known = h.known; higher = omega (arith, h.higher) }

highs : (lower : Rule) (s : List ℕ) (cs : List Command) (d : Command) → 64 ≤ length s
    → occurs d (passed lower s cs) ≡ true → High s d
highs lower s [] d l e = absurd (false≢true e)
highs lower s (c ∷ cs) d l e =
    let tail = passed lower (once_rule lower s c).0 cs in
    let rest = highs lower (once_rule lower s c).0 cs d (stays_long lower s c l) in
    ⊎_elim
    (λ w.
    ⊎_elim (λ m. high_same s c d m w.known w.higher) (λ m. high_later lower s c d w l (rest m))
    (or_cases (is_same d c) (occurs d tail)
    (ap (occurs d) (sym (cond-true (goes_lower s c) (c ∷ tail) tail w.goes)) ∙ e)))
    (λ t.
    let h = rest (ap (occurs d) (sym (cond-false (goes_lower s c) (c ∷ tail) tail t.stops)) ∙ e) in
    record { known = h.known; higher = omega (arith, h.higher, ap (λ u. serial_of u d.origin) t.same) })
    (either lower s c)

-- so it does not pass again
passes_once : (lower : Rule) (s : List ℕ) (cs : List Command) (c : Command) → Went lower s c → 64 ≤ length s
    → occurs c (passed lower (once_rule lower s c).0 cs) ≡ false
passes_once lower s cs c w l =
    ⊎_elim
    (λ e.
    let h = highs lower (once_rule lower s c).0 cs c (stays_long lower s c l) e in
    let q =
    went_serial lower s c c.origin w l w.known
    ∙ cond-true (eqb c.origin c.origin) _ _ (eq-eqb _ _ refl) in
    absurd (omega (arith, h.higher, q)))
    (λ e. e)
    (cases_Bool (occurs c (passed lower (once_rule lower s c).0 cs)))

none_twice_acts : (lower : Rule) (s : List ℕ) (cs : List Command) → 64 ≤ length s
    → none_twice (passed lower s cs) ≡ true
none_twice_acts lower s [] l = refl
none_twice_acts lower s (c ∷ cs) l =
    let tail = passed lower (once_rule lower s c).0 cs in
    let rest = none_twice_acts lower (once_rule lower s c).0 cs (stays_long lower s c l) in
    ⊎_elim
    (λ w.
    ap none_twice (cond-true (goes_lower s c) (c ∷ tail) tail w.goes)
    ∙ and_from (not (occurs c tail)) (none_twice tail)
    (not_from_false (occurs c tail) (passes_once lower s cs c w l)) rest)
    (λ t. ap none_twice (cond-false (goes_lower s c) (c ∷ tail) tail t.stops) ∙ rest)
    (either lower s c)

pub start_long : (t : List ℕ) → 64 ≤ length (once_start t)
start_long t = omega (arith, length-append (replicate 64 0) t)

pub acts_once : (lower : Rule) → ActsOnce lower
acts_once lower t cs =
    record {
      acted = ran lower (once_start t) cs (start_long t);
      once = none_twice_acts lower (once_start t) cs (start_long t);
    }
