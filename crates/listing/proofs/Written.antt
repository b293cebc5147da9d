-- Numbers as they are written, one after another.
use Rattle.std.proofs.Common.{◌≡◌, ℕ, ◌+◌, ◌^◌, ◌<◌, ◌≤◌, List, [], ◌∷◌, ◌++◌, length, get_or, take, Some, codes, Option, decimal, sym, refl, ap, ◌∙◌, arith, rules}
use Rattle.std.proofs.lemmas.Grind.{common_steps}
use Rattle.std.proofs.lemmas.Fmt.{decimal_from_appends, length-decimal-le_succ}
use Rattle.std.proofs.lemmas.List.{take_more, take_all}
use Rattle.command.specs.declared.Command.{Command}
use Rattle.command.specs.declared.verbs.Verb.{Verb}
use Rattle.command.specs.declared.verbs.Verb.TheVariants.{Change}
use Rattle.command.specs.Commands.{verb_of}
use Rattle.listing.specs.Numbers.{spelled, decimal_of}
use Rattle.listing.specs.Writing.{spaced, ending, line_for, line_of}

pub decimal_is : (n : ℕ) → n < 2 ^ 64 → decimal_of n ≡ decimal n
unfolding decimal_of
decimal_is n h = decimal_from_appends spelled (search rules) (n + 1) n h (length-decimal-le_succ n h)

-- a space and a number, and then what is written of the others
spaced_first : (n : ℕ) (ns rest : List ℕ) → n < 2 ^ 64 → rest ≡ ending (spaced ns) →
    32 ∷ decimal n ++ rest ≡ ending (spaced (n ∷ ns))
spaced_first n ns rest h e = grind (arith, common_steps, decimal_is)

pub shown_one : (n : ℕ) → n < 2 ^ 64 → 32 ∷ decimal n ++ (10 ∷ []) ≡ ending (spaced (n ∷ []))
shown_one n h = spaced_first n [] (10 ∷ []) h refl

pub shown_five : (v o s a b : ℕ) → v < 2 ^ 64 → o < 2 ^ 64 → s < 2 ^ 64 → a < 2 ^ 64 → b < 2 ^ 64 →
    32 ∷ decimal v ++ (32 ∷ decimal o ++ (32 ∷ decimal s ++ (32 ∷ decimal a ++ (32 ∷ decimal b ++ (10 ∷ []))))) ≡
    ending (spaced (v ∷ o ∷ s ∷ a ∷ b ∷ []))
shown_five v o s a b hv ho hs ha hb =
    spaced_first v (o ∷ s ∷ a ∷ b ∷ []) _ hv (spaced_first o (s ∷ a ∷ b ∷ []) _ ho
    (spaced_first s (a ∷ b ∷ []) _ hs (spaced_first a (b ∷ []) _ ha (shown_one b hb))))

spaced_push : (ns : List ℕ) (n : ℕ) → spaced (ns ++ (n ∷ [])) ≡ spaced ns ++ (32 ∷ decimal_of n)
spaced_push [] n = grind (arith, common_steps)
spaced_push (m ∷ ns) n = grind (arith, common_steps, spaced_push ns)

-- one more number was written after the first i
pub spaced_more : (ns was now out : List ℕ) (i : ℕ) → i < length ns → get_or ns i 0 < 2 ^ 64 →
    was ≡ out ++ spaced (take i ns) → now ≡ was ++ (32 ∷ decimal (get_or ns i 0)) →
    now ≡ out ++ spaced (take (i + 1) ns)
spaced_more ns was now out i h s p q =
    let t = take_more ns i 0 h in grind (arith, common_steps, decimal_is, spaced_push)

-- after the first word all numbers were written, and then the line's end
pub spaced_all : (ns was now out start word : List ℕ) (i : ℕ) → length ns ≤ i → out ≡ start ++ word →
    was ≡ out ++ spaced (take i ns) → now ≡ was ++ (10 ∷ []) → now ≡ start ++ ((word ++ spaced ns) ++ (10 ∷ []))
spaced_all ns was now out start word i h w p q = let t = take_all i ns h in grind (arith, common_steps)

-- the line of a command of this kind was written
pub line_written : (c : Command) (k : Option Verb) (out new text : List ℕ) → verb_of c.verb ≡ k → new ≡ out ++ text →
    text ≡ ending (line_for k c) → new ≡ out ++ ending (line_of c)
line_written c k out new text v e t = grind arith

pub change_written : (c : Command) (k : Option Verb) (out new : List ℕ) → verb_of c.verb ≡ k →
    line_for k c ≡ line_for (Some Change) c →
    new ≡ out ++ (codes "change" ++ (32 ∷ decimal c.verb ++ (32 ∷ decimal c.origin ++ (32 ∷ decimal c.serial ++
    (32 ∷ decimal c.a ++ (32 ∷ decimal c.b ++ (10 ∷ []))))))) → c.verb < 2 ^ 64 → c.origin < 2 ^ 64 →
    c.serial < 2 ^ 64 → c.a < 2 ^ 64 → c.b < 2 ^ 64 → new ≡ out ++ ending (line_of c)
change_written c k out new v l e hv ho hs ha hb =
    line_written c k out new _ v e (ap (λ (x : List ℕ). codes "change" ++ x)
    (shown_five c.verb c.origin c.serial c.a c.b hv ho hs ha hb) ∙ ap ending (sym l))
