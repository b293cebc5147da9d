-- What the bytes of records and places hold, and when they are in order.
use Rattle.std.proofs.Common.{◌≡◌, ℕ, ◌+◌, ◌%◌, ◌^◌, ◌<◌, ◌≤◌, Bool, true, ◌&&◌, eqb, ltb, leb, List, refl, arith}
use Rattle.std.proofs.lemmas.Bool.Decides.{nat_tests}
use Rattle.octets.proofs.Numbers.{num_le}
use Rattle.command.specs.declared.Command.{Command}
use Rattle.command.specs.Commands.{well_formed, serial_bytes, Sized}
use Rattle.area_journal.specs.Layout.{command_bytes, entry_bytes, blank_bytes, command_of, slot_of, entry_of}
use Rattle.area_journal.specs.Opening.{record_good, place_good}

-- a command is read again from its bytes
pub command_read : (c : Command) → Sized c → command_of (command_bytes c) ≡ c
command_read c s = λ i.
    record {
      verb = c.verb;
      origin = num_le 2 c.origin s.origin i;
      serial = num_le serial_bytes c.serial s.serial i;
      a = num_le 2 c.a s.a i;
      b = num_le 2 c.b s.b i;
    }

pub good_record_is : (c : Command) → Sized c → well_formed c ≡ true → record_good (command_bytes c) ≡ true
good_record_is c s h = grind (arith, nat_tests, command_read c s)

-- an entry that may stand in place i, by its slot, its ballot and whether its record is in order
pub record Held (c promised p i n b : ℕ) (g : Bool) : Type 0 where
  pub place : n % 8 ≡ i
  pub above : p < n
  pub window : n ≤ p + 8
  pub within : n ≤ c
  pub some : 1 ≤ b
  pub most : b ≤ promised
  pub good : g ≡ true

module _ (c promised p i n b : ℕ) (g : Bool) where
  abbrev tests : Bool
  tests = eqb (n % 8) i && (ltb p n && leb n (p + 8)) && leb n c && leb 1 b && leb b promised && g

  pub held_parts : tests ≡ true → Held c promised p i n b g
  held_parts h = grind (arith, nat_tests)

  pub held_from : Held c promised p i n b g → tests ≡ true
  held_from h = grind (arith, nat_tests)

-- a place stays in order under a higher promise, and with more settled slots where its own is not one of them
pub place_kept : (c l m p q i : ℕ) (bs : List ℕ) → place_good c l p i bs ≡ true → l ≤ m → p ≤ q
    → ((n : ℕ) → p < n → n % 8 ≡ i → q < n) → place_good c m q i bs ≡ true
place_kept c l m p q i bs h less more later = grind (arith, nat_tests, later (slot_of bs))

-- a blank place is in order
pub blank_good : (c l p i : ℕ) → place_good c l p i blank_bytes ≡ true
blank_good c l p i = refl

-- an entry that was written, read again
module _ (n b : ℕ) (d : Command) (slot : n < 256 ^ 4) (ballot : b < 256 ^ 4) (sized : Sized d) where
  pub slot_read : slot_of (entry_bytes n b d) ≡ n
  slot_read = num_le 4 n slot

  pub entry_read : entry_of (entry_bytes n b d) ≡ record { ballot = b; command = d }
  entry_read = λ i. record { ballot = num_le 4 b ballot i; command = command_read d sized i }

  pub entry_good : (c l p i : ℕ) → Held c l p i n b (well_formed d) → place_good c l p i (entry_bytes n b d) ≡ true
  entry_good c l p i h =
      let s = slot_read in
      let e = num_le 4 b ballot in
      grind (arith, nat_tests, good_record_is d sized h.good)
