-- One entry: what is written of a command is read again as that command, and what is read is written again the same.
use Rattle.std.proofs.Common.{◌≡◌, ℕ, ◌+◌, ◌<◌, ◌≤◌, true, List, ◌∷◌, ◌++◌, length, get_or, take, Some, None, Option, sym, refl, ap, ◌∙◌, arith}
use Rattle.std.proofs.lemmas.Bool.Decides.{nat_tests}
use Rattle.std.proofs.lemmas.List.Elements.{All-get_or}
use Rattle.octets.specs.Areas.{part}
use Rattle.octets.specs.Numbers.{le, num}
use Rattle.octets.proofs.Numbers.{Bytes, num_le}
use Rattle.octets.proofs.Areas.{part_more, part_two}
use Rattle.octets.proofs.Parts.{part_join, le_part, num_part}
use Rattle.command.specs.declared.Command.{Command}
use Rattle.command.specs.declared.verbs.Verb.{Verb}
use Rattle.command.specs.declared.verbs.Verb.TheVariants.{Noop, Add, Remove, Change}
use Rattle.command.specs.Commands.{verb_of, well_formed, serial_bytes, Sized}
use Rattle.archive.specs.Layout.{entry_as, entry}
use Rattle.archive.specs.Reading.{size_as, within, size_of, command_as, command_of}

-- which numbers a kind of verb has
abbrev pub Is : Option Verb → ℕ → Type 0
Is None n = Unit {0}
Is (Some Noop) n = n ≡ 0
Is (Some Add) n = n ≡ 1
Is (Some Remove) n = n ≡ 2
Is (Some Change) n = 16 ≤ n

-- a number has the kind of verb that it is read as
pub kind_of_verb : (n : ℕ) (v : Option Verb) → verb_of n ≡ v → Is v n
kind_of_verb n None e = tt
kind_of_verb n (Some Noop) e = grind (arith, nat_tests)
kind_of_verb n (Some Add) e = grind (arith, nat_tests)
kind_of_verb n (Some Remove) e = grind (arith, nat_tests)
kind_of_verb n (Some Change) e = grind (arith, nat_tests)

-- commands are the same where their fields are
pub command_same_is : (c d : Command) → c.verb ≡ d.verb → c.origin ≡ d.origin → c.serial ≡ d.serial → c.a ≡ d.a
    → c.b ≡ d.b → c ≡ d
command_same_is c d p q r s t = λ i. record { verb = p i; origin = q i; serial = r i; a = s i; b = t i }

-- an entry, read again with anything after it
pub record Reread (es : List ℕ) (c : Command) (t : List ℕ) : Type 0 where
  pub size : size_of (es ++ t) ≡ Some (length es)
  pub same : command_of (es ++ t) ≡ c
  pub some : 1 ≤ length es

reread_size : (c : Command) (t : List ℕ) → well_formed c ≡ true → size_of (entry c ++ t) ≡ Some (length (entry c))
reread_size c t h = grind (arith, nat_tests)

reread_some : (c : Command) → well_formed c ≡ true → 1 ≤ length (entry c)
reread_some c h = grind (arith, nat_tests)

-- a change tells its numbers again, and of the others only the director is told
same_change : (c : Command) (t : List ℕ) → verb_of c.verb ≡ Some Change → Sized c → command_of (entry c ++ t) ≡ c
same_change c t e s =
    let origin = num_le 2 c.origin s.origin in
    let serial = num_le serial_bytes c.serial s.serial in
    let a = num_le 2 c.a s.a in
    let b = num_le 2 c.b s.b in
    grind (arith, nat_tests)

same_other : (c : Command) (t : List ℕ) → well_formed c ≡ true → (verb_of c.verb ≡ Some Change → ⊥)
    → command_of (entry c ++ t) ≡ c
same_other c t h n = grind (arith, nat_tests)

reread_same : (v : Option Verb) (c : Command) (t : List ℕ) → verb_of c.verb ≡ v → well_formed c ≡ true → Sized c
    → command_of (entry c ++ t) ≡ c
reread_same (Some Change) c t e h s = same_change c t e s
reread_same (Some Noop) c t e h s = same_other c t h (λ z. cc)
reread_same (Some Add) c t e h s = same_other c t h (λ z. cc)
reread_same (Some Remove) c t e h s = same_other c t h (λ z. cc)
reread_same None c t e h s = same_other c t h (λ z. cc)

pub reread : (c : Command) (t : List ℕ) → well_formed c ≡ true → Sized c → Reread (entry c) c t
reread c t h s =
    record { size = reread_size c t h; same = reread_same (verb_of c.verb) c t refl h s; some = reread_some c h }

-- what an entry's size tells where there is one
pub within_some : (s left n : ℕ) → within left (Some s) ≡ Some n → (n ≡ s) × (s ≤ left)
within_some s left n h = grind (arith, nat_tests)

-- an entry has at least one byte, and lies within those that are left
pub within_left : (bs : List ℕ) (s : ℕ) → size_of bs ≡ Some s → (1 ≤ s) × (s ≤ length bs)
within_left bs s h = grind (arith, nat_tests)

-- a command as it was read is such as a list may hold, and is written as it was read
pub record Rewritten (c : Command) (bs : List ℕ) (size : ℕ) : Type 0 where
  pub formed : well_formed c ≡ true
  pub sized : Sized c
  pub bytes : entry c ≡ take size bs

rewritten_formed : (bs : List ℕ) (size : ℕ) → size_of bs ≡ Some size → well_formed (command_of bs) ≡ true
rewritten_formed bs size h = grind (arith, nat_tests)

sized_other : (bs : List ℕ) (size : ℕ) → size_of bs ≡ Some size → (verb_of (get_or bs 0 0) ≡ Some Change → ⊥)
    → Sized (command_of bs)
sized_other bs size h n = grind (arith, nat_tests)

bytes_other : (bs : List ℕ) (size : ℕ) → size_of bs ≡ Some size → (verb_of (get_or bs 0 0) ≡ Some Change → ⊥)
    → entry (command_of bs) ≡ take size bs
bytes_other bs size h n = grind (arith, nat_tests, part_more, part_two)

other : (bs : List ℕ) (size : ℕ) → size_of bs ≡ Some size → (verb_of (get_or bs 0 0) ≡ Some Change → ⊥)
    → Rewritten (command_of bs) bs size
other bs size h n =
    record { formed = rewritten_formed bs size h; sized = sized_other bs size h n; bytes = bytes_other bs size h n }

-- a change
module _ (bs : List ℕ) (b : Bytes bs) (l : 7 + serial_bytes ≤ length bs) where
  sized_change : Sized (command_as (Some Change) bs)
  sized_change =
      let verb = All-get_or (λ x. x < 256) bs 0 0 (omega arith) b in
      let origin = num_part bs b 1 2 (omega arith) in
      let serial = num_part bs b 3 serial_bytes (omega arith) in
      let first = num_part bs b 7 2 (omega arith) in
      let second = num_part bs b 9 2 (omega arith) in
      grind (arith, nat_tests)

  bytes_change : entry_as (Some Change) (command_as (Some Change) bs) ≡ take (7 + serial_bytes) bs
  bytes_change =
      let tail : part 1 2 bs ++ (part 3 serial_bytes bs ++ (part 7 2 bs ++ part 9 2 bs)) ≡ part 1 10 bs =
      ap (λ (xs : List ℕ). part 1 2 bs ++ (part 3 serial_bytes bs ++ xs)) (part_join 7 2 2 bs)
      ∙ ap (λ (xs : List ℕ). part 1 2 bs ++ xs) (part_join 3 4 4 bs) ∙ part_join 1 2 8 bs in
      let same : le 2 (num (part 1 2 bs)) ++ (le serial_bytes (num (part 3 serial_bytes bs))
      ++ (le 2 (num (part 7 2 bs)) ++ le 2 (num (part 9 2 bs))))
      ≡ part 1 2 bs ++ (part 3 serial_bytes bs ++ (part 7 2 bs ++ part 9 2 bs)) =
      λ j. le_part bs b 1 2 (omega arith) j ++ (le_part bs b 3 serial_bytes (omega arith) j
      ++ (le_part bs b 7 2 (omega arith) j ++ le_part bs b 9 2 (omega arith) j)) in
      ap (λ (xs : List ℕ). get_or bs 0 0 ∷ xs) (same ∙ tail) ∙ sym (part_more 0 10 bs (omega arith))

rewritten_as : (v : Option Verb) (bs : List ℕ) (size : ℕ) → Bytes bs → verb_of (get_or bs 0 0) ≡ v
    → size_of bs ≡ Some size → Rewritten (command_of bs) bs size
rewritten_as (Some Change) bs size b e h =
    let w = within_some (7 + serial_bytes) (length bs) size
    (ap (λ v. within (length bs) (size_as v (get_or bs 1 0))) (sym e) ∙ h) in
    let c = ap (λ v. command_as v bs) e in
    record {
      formed = rewritten_formed bs size h;
      sized = rw c (sized_change bs b w.1);
      bytes = ap entry c ∙ ap (λ v. entry_as v (command_as (Some Change) bs)) e ∙ bytes_change bs b w.1
          ∙ ap (λ (n : ℕ). take n bs) (sym w.0);
    }
rewritten_as (Some Noop) bs size b e h = other bs size h (λ z. cc)
rewritten_as (Some Add) bs size b e h = other bs size h (λ z. cc)
rewritten_as (Some Remove) bs size b e h = other bs size h (λ z. cc)
rewritten_as None bs size b e h = other bs size h (λ z. cc)

pub rewritten : (bs : List ℕ) (size : ℕ) → Bytes bs → size_of bs ≡ Some size → Rewritten (command_of bs) bs size
rewritten bs size b h = rewritten_as (verb_of (get_or bs 0 0)) bs size b refl h
