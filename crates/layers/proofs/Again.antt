-- A repeated highest serial gets the same answer.
use Rattle.std.proofs.Common.{◌≡◌, ℕ, ◌<◌, ◌≤◌, true, false, not, ◌&&◌, eqb, ltb, List, [], ◌∷◌, length, sym, refl, ap, ◌∙◌, subst, ⊎_elim, arith}
use Rattle.std.proofs.lemmas.Bool.{cond-true, cond-false, eq-eqb, and_parts}
use Rattle.std.proofs.lemmas.Bool.Decides.{nat_tests}
use Rattle.command.specs.declared.Command.{Command}
use Rattle.machine.specs.Rules.{Rule, after}
use Rattle.machine.proofs.Runs.{after_append, lasts}
use Rattle.layers.specs.Once.{once_start, once_rule, serial_of, answer_of}
use Rattle.layers.specs.Passing.{is_same, still_highest, SameAnswer}
use Rattle.layers.proofs.Memory.{rule_again}
use Rattle.layers.proofs.Repeats.{Went, went, either, stays_long, went_serial, went_answer, start_long}

-- of origin o the serial n is kept, with the answer a
record Keeps (s : List ℕ) (o n a : ℕ) : Type 0 where
  long : 64 ≤ length s
  serial : serial_of s o ≡ n
  answer : answer_of s o ≡ a

begins : (lower : Rule) (s : List ℕ) (c : Command) → 64 ≤ length s → Went lower s c
    → Keeps (once_rule lower s c).0 c.origin c.serial (once_rule lower s c).1
begins lower s c l w =
    let e = eq-eqb c.origin c.origin refl in
    record {
      long = stays_long lower s c l;
      serial = went_serial lower s c c.origin w l w.known ∙ cond-true (eqb c.origin c.origin) _ _ e;
      answer =
          went_answer lower s c c.origin w l w.known
          ∙ (cond-true (eqb c.origin c.origin) _ _ e ∙ sym (ap (λ r. r.1) w.kept));
    }

-- a command of another origin, or with no higher serial, leaves it so
other : (s : List ℕ) (d : Command) (o n : ℕ) → serial_of s o ≡ n → not (eqb d.origin o && ltb n d.serial) ≡ true
    → serial_of s d.origin < d.serial → eqb d.origin o ≡ false
other s d o n k h m = grind (arith, nat_tests)

goes_on : (lower : Rule) (s : List ℕ) (d : Command) (o n a : ℕ) → o ≤ 31 → Keeps s o n a
    → not (eqb d.origin o && ltb n d.serial) ≡ true → Keeps (once_rule lower s d).0 o n a
goes_on lower s d o n a b k h =
    ⊎_elim
    (λ w.
    let e = other s d o n k.serial h w.higher in
    record {
      long = stays_long lower s d k.long;
      serial = went_serial lower s d o w k.long b ∙ (cond-false (eqb d.origin o) _ _ e ∙ k.serial);
      answer = went_answer lower s d o w k.long b ∙ (cond-false (eqb d.origin o) _ _ e ∙ k.answer);
    })
    (λ t. let P : List ℕ → Type 0 = λ u. Keeps u o n a in subst P (sym t.same) k)
    (either lower s d)

all_along : (lower : Rule) (s : List ℕ) (c : Command) (ds : List Command) (a : ℕ) → c.origin ≤ 31
    → Keeps s c.origin c.serial a → still_highest c ds ≡ true
    → Keeps (after (once_rule lower) s ds) c.origin c.serial a
all_along lower s c [] a b k h = k
all_along lower s c (d ∷ ds) a b k h =
    let (g, r) = and_parts (not (eqb d.origin c.origin && ltb c.serial d.serial)) (still_highest c ds) h in
    all_along lower (once_rule lower s d).0 c ds a b (goes_on lower s d c.origin c.serial a b k g) r

again : (lower : Rule) (s : List ℕ) (c d : Command) (a : ℕ) → c.origin ≤ 31 → 0 < c.serial
    → Keeps s c.origin c.serial a → is_same c d ≡ true → once_rule lower s d ≡ (s, a)
again lower s c d a b p k e =
    let o : c.origin ≡ d.origin = grind (arith, nat_tests) in
    let n : c.serial ≡ d.serial = grind (arith, nat_tests) in
    rule_again lower s d (omega arith) (λ z. omega arith) (sym n ∙ (sym k.serial ∙ ap (serial_of s) o))
    ∙ ap (λ x. (s, x)) (sym (ap (answer_of s) o) ∙ k.answer)

pub same_answer : (lower : Rule) → SameAnswer lower
same_answer lower t cs ds c d g h e =
    let R = once_rule lower in
    let s = after R (once_start t) cs in
    let P : List ℕ → Type 0 = λ u. 64 ≤ length u in
    let l = lasts R P (stays_long lower) (once_start t) cs (start_long t) in
    let w = went lower s c g in
    let k = all_along lower (R s c).0 c ds (R s c).1 w.known (begins lower s c l w) h in
    let Q : List ℕ → Type 0 = λ u. R u d ≡ (u, (R s c).1) in
    subst Q (sym (after_append R (once_start t) cs (c ∷ ds)))
    (again lower (after R (R s c).0 ds) c d (R s c).1 w.known (omega (arith, w.higher)) k e)
