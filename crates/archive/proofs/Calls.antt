-- The writer's calls, by what its tests found.
use Rattle.std.proofs.Common.{◌≡◌, ℕ, ◌<◌, ◌≤◌, true, List, length, Some, None, Ok, Err, Option, refl, arith}
use Rattle.std.proofs.lemmas.Bool.Decides.{nat_tests}
use Rattle.command.specs.declared.Command.{Command}
use Rattle.command.specs.Commands.{well_formed}
use Rattle.command.specs.Members.{valid_chain}
use Rattle.archive.specs.declared.writing.OpenArchive.{OpenArchive}
use Rattle.archive.specs.declared.writing.Refusal.{Refusal}
use Rattle.archive.specs.declared.writing.Refusal.TheVariants.{Full}
use Rattle.archive.specs.Layout.{header, entry, most}
use Rattle.archive.specs.Writing.{answer, has_room, entry_size, begin_refusal, add_refusal}

pub begin_taken : (area ms : List ℕ) (n : ℕ) → valid_chain ms ≡ true → n ≡ length (header ms)
    → has_room area 0 n ≡ true → begin_refusal area ms ≡ None
begin_taken area ms n p e q = grind (arith, nat_tests)

pub add_taken : (area : List ℕ) (o : OpenArchive) (c : Command) (n : ℕ) → well_formed c ≡ true → o.count < most
    → n ≡ length (entry c) → has_room area o.at n ≡ true → add_refusal area o c ≡ None
add_taken area o c n p l e q = grind (arith, nat_tests)

pub add_full : (area : List ℕ) (o : OpenArchive) (c : Command) → well_formed c ≡ true → most ≤ o.count
    → add_refusal area o c ≡ Some Full
add_full area o c w l = grind (arith, nat_tests)

-- a command whose entry has a size may stand in a list
pub size_told : (c : Command) (n : ℕ) → Some n ≡ entry_size c → (well_formed c ≡ true) × (n ≡ length (entry c))
size_told c n e = grind (arith, nat_tests)

-- what an answer tells of the refusal
pub answer_ok : {X E : Type 0} (back : Refusal → E) (x : Option Refusal) (y z : X) → Ok y ≡ answer back x z
    → (x ≡ None) × (y ≡ z)
answer_ok back None y z h = (refl, cc)
answer_ok back (Some e) y z h = absurd (cc)

pub answer_err : {X E : Type 0} (back : Refusal → E) (x : Option Refusal) (e : E) (z : X) → Err e ≡ answer back x z
    → (r : Refusal) × (x ≡ Some r) × (e ≡ back r)
answer_err back None e z h = absurd (cc)
answer_err back (Some r) e z h = (r, refl, cc)
