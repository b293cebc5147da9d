-- What writing a whole list comes to.
use Rattle.std.specs.Prelude.{◌≡◌, ℕ, ◌+◌, ◌*◌, ◌^◌, ◌≤◌, true, cond, if◌then◌else◌, List, [], ◌∷◌, length, take, replicate, Some, None, Ok, Err, Option, Result, nat_le, nat_lt}
use Rattle.std.specs.List.{AllPass}
use Rattle.octets.specs.Areas.{over}
use Rattle.command.specs.declared.Command.{Command}
use Rattle.command.specs.Commands.{well_formed, serial_bytes}
use Rattle.command.specs.Members.{valid_chain}
use Rattle.archive.specs.declared.lists.ListRefusal.{ListRefusal}
use Rattle.archive.specs.declared.lists.ListRefusal.TheVariants.{Begin, Entry}
use Rattle.archive.specs.declared.writing.OpenArchive.{OpenArchive}
use Rattle.archive.specs.declared.writing.Refusal.{Refusal}
use Rattle.archive.specs.declared.writing.SealedArchive.{SealedArchive}
use Rattle.archive.specs.declared.writing.Refusal.TheVariants.{Full}
use Rattle.archive.specs.Layout.{header, entry, most, Archive}
use Rattle.archive.specs.Writing.{begin_refusal, begun, add_refusal, grown}

-- a call's refusal as that of the list, or else what comes after it
abbrev pub refused_or : (Refusal → ListRefusal) → Option Refusal → Option ListRefusal → Option ListRefusal
refused_or at (Some e) later = Some (at e)
refused_or at None later = later

-- the first of the commands that is refused, the first of them being entry n
unfoldable pub adds_refusal : List ℕ → OpenArchive → ℕ → List Command → Option ListRefusal
adds_refusal area o n [] = None
adds_refusal area o n (c ∷ cs) =
    refused_or (Entry n) (add_refusal area o c) (adds_refusal (over area o.at (entry c)) (grown o c) (n + 1) cs)

-- the first call that is refused: begin, then the adds
abbrev pub list_refusal : List ℕ → List ℕ → List Command → Option ListRefusal
list_refusal area ms cs =
    refused_or Begin (begin_refusal area ms) (adds_refusal (over area 0 (header ms)) (begun ms) 1 cs)

-- the area where a list was refused: as it was where nothing was begun, else struck
abbrev pub unwritten : ListRefusal → List ℕ → List ℕ
unwritten (Begin e) area = area
unwritten (Entry n e) area = replicate (length area) 0

-- where no call is refused, the area begins with the archive of the list; else the answer is the first that was
abbrev pub Wrote : List ℕ → List Command → List ℕ → List ℕ → Result SealedArchive ListRefusal → Type 0
Wrote ms cs area exit (Ok s) = (list_refusal area ms cs ≡ None) × Archive (take s.length exit) ms cs
Wrote ms cs area exit (Err e) = (list_refusal area ms cs ≡ Some e) × (exit ≡ unwritten e area)

-- as many bytes as the header, so many entries at their longest, and the count
abbrev pub space_for : ℕ → ℕ → ℕ
space_for members commands = commands * (7 + serial_bytes) + (members + 7)

-- a number of bytes, if an area can have so many
abbrev pub addressable : ℕ → Option ℕ
addressable n = if nat_lt n (2 ^ 64) then Some n else None

-- With that much space a valid chain and well-formed commands are refused only for their number: the 65,536th entry.
abbrev pub EnoughSpace : Type 0
EnoughSpace =
    (area ms : List ℕ) (cs : List Command) → space_for (length ms) (length cs) ≤ length area → valid_chain ms ≡ true
    → AllPass well_formed cs
    → list_refusal area ms cs ≡ cond (nat_le (length cs) most) None (Some (Entry (most + 1) Full))
