-- The part of an entry alone tells what the bytes tell that begin with it.
use Rattle.std.proofs.Common.{◌≡◌, ℕ, ◌+◌, ◌≤◌, List, length, get_or, take, drop, Some, None, Option, sym, refl, ap, ◌∙◌, arith}
use Rattle.std.proofs.lemmas.List.{length-take-le, take-take, drop-take, get_or-take}
use Rattle.std.proofs.lemmas.Bool.Decides.{nat_tests}
use Rattle.octets.specs.Areas.{part}
use Rattle.octets.proofs.Areas.{part_more, part_two}
use Rattle.command.specs.declared.verbs.Verb.{Verb}
use Rattle.command.specs.declared.verbs.Verb.TheVariants.{Noop, Add, Remove, Change}
use Rattle.command.specs.Commands.{verb_of, serial_bytes}
use Rattle.archive.specs.Reading.{size_as, within, size_of, command_of, decoded}
use Rattle.archive.proofs.OneEntry.{within_some}

part_take : (i n m : ℕ) (bs : List ℕ) → i + n ≤ m → part i n (take m bs) ≡ part i n bs
part_take i n m bs h =
    sym (drop-take i n (take m bs)) ∙ ap (drop i) (take-take (i + n) m bs h) ∙ drop-take i n bs

told_change : (bs : List ℕ) (k : ℕ) → size_of bs ≡ Some k → verb_of (get_or bs 0 0) ≡ Some Change
    → decoded (take k bs) ≡ Some (command_of bs)
told_change bs k h e =
    let w = within_some (7 + serial_bytes) (length bs) k
    (ap (λ v. within (length bs) (size_as v (get_or bs 1 0))) (sym e) ∙ h) in
    let long = length-take-le k bs (omega arith) in
    let verb = get_or-take k bs 0 0 (omega arith) in
    let origin = part_take 1 2 k bs (omega arith) in
    let serial = part_take 3 serial_bytes k bs (omega arith) in
    let first = part_take 7 2 k bs (omega arith) in
    let second = part_take 9 2 k bs (omega arith) in
    grind (arith, nat_tests)

told_other : (bs : List ℕ) (k : ℕ) → size_of bs ≡ Some k → (verb_of (get_or bs 0 0) ≡ Some Change → ⊥)
    → decoded (take k bs) ≡ Some (command_of bs)
told_other bs k h n = grind (arith, nat_tests, part_more, part_two)

told_as : (v : Option Verb) (bs : List ℕ) (k : ℕ) → verb_of (get_or bs 0 0) ≡ v → size_of bs ≡ Some k
    → decoded (take k bs) ≡ Some (command_of bs)
told_as (Some Change) bs k e h = told_change bs k h e
told_as (Some Noop) bs k e h = told_other bs k h (λ z. cc)
told_as (Some Add) bs k e h = told_other bs k h (λ z. cc)
told_as (Some Remove) bs k e h = told_other bs k h (λ z. cc)
told_as None bs k e h = told_other bs k h (λ z. cc)

-- the entry at the front of these bytes, alone
pub part_told : (bs : List ℕ) (k : ℕ) → size_of bs ≡ Some k → decoded (take k bs) ≡ Some (command_of bs)
part_told bs k e = told_as (verb_of (get_or bs 0 0)) bs k refl e
