-- What the calls of the writer answer and what they leave in the area.
use Rattle.std.specs.Prelude.{◌≡◌, ℕ, ◌+◌, Bool, cond, List, [], ◌∷◌, ◌++◌, length, take, IfOk, Some, None, Ok, Err, Option, Result, nat_le, nat_lt}
use Rattle.octets.specs.Areas.{over}
use Rattle.octets.specs.Numbers.{le}
use Rattle.command.specs.declared.Command.{Command}
use Rattle.command.specs.Commands.{well_formed, Sized}
use Rattle.command.specs.Members.{valid_chain}
use Rattle.archive.specs.declared.writing.OpenArchive.{OpenArchive}
use Rattle.archive.specs.declared.writing.SealedArchive.{SealedArchive}
use Rattle.archive.specs.declared.writing.Refusal.{Refusal}
use Rattle.archive.specs.declared.writing.Refusal.TheVariants.{IllFormed, InvalidChain, NoSpace, Full}
use Rattle.archive.specs.Layout.{header, entry, count_bytes, most, Archive}

-- the refusals' numbers
abbrev pub refusal_number : Refusal → ℕ
refusal_number IllFormed = 5
refusal_number InvalidChain = 11
refusal_number NoSpace = 14
refusal_number Full = 16

-- n more bytes from offset i on, and the count after them, lie within the area
abbrev pub has_room : List ℕ → ℕ → ℕ → Bool
has_room area i n = nat_le (i + n + count_bytes) (length area)

-- a call that is refused answers the refusal, with the archive handed back where there was one
abbrev pub answer : {X E : Type 0} → (Refusal → E) → Option Refusal → X → Result X E
answer back None x = Ok x
answer back (Some e) x = Err (back e)

-- and leaves the area as it was
abbrev pub left : Option Refusal → List ℕ → List ℕ → List ℕ
left None area written = written
left (Some e) area written = area

-- how many bytes the entry of a command takes, if it may stand in a list
abbrev pub entry_size : Command → Option ℕ
entry_size c = cond (well_formed c) (Some (length (entry c))) None

-- begin
abbrev pub begin_refusal : List ℕ → List ℕ → Option Refusal
begin_refusal area ms =
    cond (valid_chain ms) (cond (has_room area 0 (length (header ms))) None (Some NoSpace)) (Some InvalidChain)

abbrev pub begun : List ℕ → OpenArchive
begun ms = record { at = length (header ms); count = 0 }

-- add
abbrev pub add_refusal : List ℕ → OpenArchive → Command → Option Refusal
add_refusal area o c =
    cond (well_formed c)
    (cond (nat_lt o.count most) (cond (has_room area o.at (length (entry c))) None (Some NoSpace)) (Some Full))
    (Some IllFormed)

abbrev pub grown : OpenArchive → Command → OpenArchive
grown o c = record { at = o.at + length (entry c); count = o.count + 1 }

-- seal
abbrev pub seal_refusal : List ℕ → OpenArchive → Option Refusal
seal_refusal area o = cond (has_room area o.at 0) None (Some NoSpace)

abbrev pub sealed : OpenArchive → SealedArchive
sealed o = record { length = o.at + count_bytes }

-- An open archive and its area after calls of begin and add, each of which got the area as the last left it, and what
-- went in: the chain and the commands of the adds that were taken. (A refused call changes neither, and adds nothing.)
pub data Run : List ℕ → OpenArchive → List ℕ → List Command → Type 0 where
  began : {area : List ℕ} {o : OpenArchive} {ms : List ℕ} (old : List ℕ) → begin_refusal old ms ≡ None
      → area ≡ over old 0 (header ms) → o ≡ begun ms → Run area o ms []
  added : {area : List ℕ} {o : OpenArchive} {ms : List ℕ} {cs : List Command} (old : List ℕ) (was : OpenArchive)
      (before : List Command) (c : Command) → Run old was ms before → Sized c → add_refusal old was c ≡ None
      → area ≡ over old was.at (entry c) → o ≡ grown was c → cs ≡ before ++ (c ∷ []) → Run area o ms cs

-- what sealing comes to after such calls: it is not refused, and the area begins with the archive of what went in
pub record Sealed (area exit : List ℕ) (o : OpenArchive) (ms : List ℕ) (cs : List Command) : Type 0 where
  pub accepted : seal_refusal area o ≡ None
  pub file : Archive (take (sealed o).length exit) ms cs

-- the calls, by their answer, what they write, and what they make of a run

pub record Begins (area ms exit : List ℕ) (r : Result OpenArchive Refusal) : Type 0 where
  pub answer : r ≡ answer (λ e. e) (begin_refusal area ms) (begun ms)
  pub writes : exit ≡ left (begin_refusal area ms) area (over area 0 (header ms))
  pub run : IfOk r (λ o. Run exit o ms [])

pub record Adds (area : List ℕ) (o : OpenArchive) (c : Command) (exit : List ℕ)
    (r : Result OpenArchive (OpenArchive × Refusal)) : Type 0 where
  pub answer : r ≡ answer (λ e. (o, e)) (add_refusal area o c) (grown o c)
  pub writes : exit ≡ left (add_refusal area o c) area (over area o.at (entry c))
  pub run : (ms : List ℕ) (cs : List Command) → Run area o ms cs → IfOk r (λ p. Run exit p ms (cs ++ (c ∷ [])))

pub record Seals (area : List ℕ) (o : OpenArchive) (exit : List ℕ)
    (r : Result SealedArchive (OpenArchive × Refusal)) : Type 0 where
  pub answer : r ≡ answer (λ e. (o, e)) (seal_refusal area o) (sealed o)
  pub writes : exit ≡ left (seal_refusal area o) area (over area o.at (le count_bytes o.count))
  pub run : (ms : List ℕ) (cs : List Command) → Run area o ms cs → Sealed area exit o ms cs
