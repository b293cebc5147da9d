-- What once-only keeps, read and written in its state.
use Rattle.std.proofs.Common.{◌≡◌, ℕ, ◌+◌, ◌-◌, ◌<◌, ◌≤◌, Option, None, Some, List, ◌++◌, map, length, get_or, take, drop, set, sym, ap, ◌∙◌, arith}
use Rattle.std.proofs.lemmas.List.{append_assoc, length-append, length-set, length-map, take_at, drop_at, get_or_append_left, get_or-map, set-append_left, set-append_right, map-set}
use Rattle.std.proofs.lemmas.Bool.Decides.{nat_tests}
use Rattle.command.specs.declared.Command.{Command}
use Rattle.layers.specs.declared.once.Kept.{Kept}
use Rattle.machine.specs.Rules.{Rule}
use Rattle.layers.specs.Once.{memory, kept_serial, kept_answer, once_rule, serial_of, answer_of, below_once, keeps}

-- the rule, case by case
pub rule_again : (lower : Rule) (s : List ℕ) (c : Command) → c.origin ≤ 31
    → (c.serial ≡ 0 → ⊥) → c.serial ≡ serial_of s c.origin
    → once_rule lower s c ≡ (s, answer_of s c.origin)
rule_again lower s c k n e = grind (arith, nat_tests)

pub rule_higher : (lower : Rule) (s : List ℕ) (c : Command) → c.origin ≤ 31 → serial_of s c.origin < c.serial
    → once_rule lower s c ≡ keeps s c (lower (below_once s) c)
rule_higher lower s c k h = grind (arith, nat_tests)

-- 32 serials, then 32 answers, then what is below
front : (xs ys t : List ℕ) → length xs ≡ 32 → length ys ≡ 32 → length (xs ++ ys) ≡ 64
front xs ys t l m = omega (arith, length-append xs ys)

take_front : (xs ys t : List ℕ) → length xs ≡ 32 → length ys ≡ 32 → take 64 (xs ++ (ys ++ t)) ≡ xs ++ ys
take_front xs ys t l m = ap (take 64) (sym (append_assoc xs ys t)) ∙ take_at (xs ++ ys) t 64 (front xs ys t l m)

drop_front : (xs ys t : List ℕ) → length xs ≡ 32 → length ys ≡ 32 → drop 64 (xs ++ (ys ++ t)) ≡ t
drop_front xs ys t l m = ap (drop 64) (sym (append_assoc xs ys t)) ∙ drop_at (xs ++ ys) t 64 (front xs ys t l m)

set_second : (xs ys : List ℕ) (o a : ℕ) → length xs ≡ 32 → set (xs ++ ys) (32 + o) a ≡ xs ++ set ys o a
set_second xs ys o a l =
    let k : 32 ≤ 32 + o = omega arith in
    let e : 32 + o - 32 ≡ o = omega arith in
    set-append_right xs ys 32 (32 + o) a l k ∙ ap (λ j. xs ++ set ys j a) e

put : (xs ys t u : List ℕ) (o n a : ℕ) → length xs ≡ 32 → length ys ≡ 32 → o ≤ 31
    → set (set (take 64 (xs ++ (ys ++ t))) o n) (32 + o) a ++ u ≡ set xs o n ++ (set ys o a ++ u)
put xs ys t u o n a l m h =
    let e : set (take 64 (xs ++ (ys ++ t))) o n ≡ set xs o n ++ ys =
    ap (λ z. set z o n) (take_front xs ys t l m) ∙ set-append_left xs ys o n (omega arith) in
    ap (λ z. set z (32 + o) a ++ u) e
    ∙ (ap (λ z. z ++ u) (set_second (set xs o n) ys o a (length-set xs o n ∙ l))
    ∙ append_assoc (set xs o n) (set ys o a) u)

-- the memory of the code, in the state that it stands for
serial_read : (ks : List (Option Kept)) (t : List ℕ) (o : ℕ) → length ks ≡ 32 → o ≤ 31
    → serial_of (memory ks t) o ≡ kept_serial (get_or ks o None)
serial_read ks t o l h =
    get_or_append_left (map kept_serial ks) (map kept_answer ks ++ t) 0 o (omega (arith, length-map ks kept_serial))
    ∙ get_or-map kept_serial ks o None 0 (omega arith)

below_read : (ks : List (Option Kept)) (t : List ℕ) → length ks ≡ 32 → below_once (memory ks t) ≡ t
below_read ks t l =
    drop_front (map kept_serial ks) (map kept_answer ks) t (length-map ks kept_serial ∙ l)
    (length-map ks kept_answer ∙ l)

keeps_is : (ks : List (Option Kept)) (t : List ℕ) (c : Command) (r : List ℕ × ℕ) → length ks ≡ 32 → c.origin ≤ 31
    → keeps (memory ks t) c r
    ≡ (memory (set ks c.origin (Some (record { serial = c.serial; answer = r.1 }))) r.0, r.1)
keeps_is ks t c r l h =
    let k : Option Kept = Some (record { serial = c.serial; answer = r.1 }) in
    ap (λ z. (z, r.1))
    (put (map kept_serial ks) (map kept_answer ks) t r.0 c.origin c.serial r.1 (length-map ks kept_serial ∙ l)
    (length-map ks kept_answer ∙ l) h
    ∙ (ap (λ z. z ++ (set (map kept_answer ks) c.origin r.1 ++ r.0)) (sym (map-set kept_serial ks c.origin k))
    ∙ ap (λ z. map kept_serial (set ks c.origin k) ++ (z ++ r.0)) (sym (map-set kept_answer ks c.origin k))))

-- the rule at the state of the code, where a command goes lower
pub higher_is : (lower : Rule) (ks : List (Option Kept)) (t : List ℕ) (c : Command) (u : List ℕ) (a : ℕ)
    → length ks ≡ 32 → c.origin ≤ 31 → kept_serial (get_or ks c.origin None) < c.serial
    → u ≡ (lower t c).0 → a ≡ (lower t c).1
    → once_rule lower (memory ks t) c
    ≡ (memory (set ks c.origin (Some (record { serial = c.serial; answer = a }))) u, a)
higher_is lower ks t c u a l h e eu ea =
    rule_higher lower (memory ks t) c h (rw (serial_read ks t c.origin l h) e)
    ∙ (ap (λ z. keeps (memory ks t) c (lower z c)) (below_read ks t l)
    ∙ (keeps_is ks t c (lower t c) l h
    ∙ (ap (λ x. (memory (set ks c.origin (Some (record { serial = c.serial; answer = x }))) (lower t c).0, x))
    (sym ea)
    ∙ ap (λ v. (memory (set ks c.origin (Some (record { serial = c.serial; answer = a }))) v, a)) (sym eu))))
