-- What the values of the code stand for.
use Rattle.std.specs.Prelude.{◌≡◌, ℕ, ◌≤◌, min, Bool, true, false, cond, List, [], ◌∷◌, ◌++◌, map, codes, decimal, Some, None, Ok, Err, vec_items, Option, Result}
use Rattle.command.specs.Members.{Membership, valid_chain, founded}
use Rattle.listing.specs.declared.faults.Fault.{Fault}
use Rattle.listing.specs.declared.faults.Fault.TheVariants.{InvalidChain, IllFormed, Unreadable, Memory}
use Rattle.listing.specs.declared.lists.YearList.{YearList}
use Rattle.listing.specs.Numbers.{plain, read_on, max64}
use Rattle.listing.specs.Reading.{Listed}

-- the number of the refusal; a line that cannot be read and want of memory have none
abbrev pub fault_number : Fault → Option ℕ
fault_number InvalidChain = Some 11
fault_number (IllFormed line) = Some 5
fault_number (Unreadable line) = None
fault_number Memory = None

-- the words for a fault
abbrev pub fault_text : Fault → List ℕ
fault_text InvalidChain = codes "refused 11 at line 1: a chain is 1 to 7 different directors from 0 to 31"
fault_text (IllFormed line) = codes "refused 5 at line " ++ decimal line ++ codes ": the command is not well formed"
fault_text (Unreadable line) =
    codes "line " ++ decimal line ++ codes " cannot be read: see docs/list-format.md for the form of a list"
fault_text Memory = codes "no memory is left"

-- a word as a number, where `gives` tells what the number's type makes of a number: it is written plainly, fits 64 bits,
-- and is made so
abbrev pub Reads : {A E : Type 0} → (ℕ → Result A E → Type 0) → List ℕ → Option A → Type 0
Reads {E = E} gives w None = plain w ≡ true → read_on 0 w ≤ max64 → (e : E) × gives (read_on 0 w) (Err e)
Reads gives w (Some n) = (plain w ≡ true) × gives (read_on 0 w) (Ok n)

-- the next word is read as a number, and the words after it are left
abbrev pub Field : {A E : Type 0} → (ℕ → Result A E → Type 0) → List (List ℕ) → Option A → List (List ℕ) → Type 0
Field gives [] r ws' = (r ≡ None)
Field gives (w ∷ ws) r ws' = (ws' ≡ ws) × Reads gives w r

-- whether a fault is want of memory
abbrev pub is_memory : Fault → Bool
is_memory InvalidChain = false
is_memory (IllFormed line) = false
is_memory (Unreadable line) = false
is_memory Memory = true

-- whether an answer tells that memory ran out
abbrev pub spent : {A : Type 0} → Result A Fault → Bool
spent (Ok x) = false
spent (Err f) = is_memory f

-- an answer of the code by what its value stands for
abbrev pub seen : {A B : Type 0} → (A → B) → Result A Fault → Result B Fault
seen view (Ok x) = Ok (view x)
seen view (Err f) = Err f

-- the answer stands for what was to be told, unless memory ran out
abbrev pub Tells : {A B : Type 0} → (A → B) → Result A Fault → Result B Fault → Type 0
Tells view r o = seen view r ≡ cond (spent r) (Err Memory) o

-- what a list of the code stands for
abbrev pub list_of : YearList → Listed
list_of l = record { chain = l.chain; commands = vec_items l.commands }

-- a number as a byte, and the largest byte for all larger numbers: none of those is a director's
abbrev pub as_byte : ℕ → ℕ
as_byte n = min n 255

-- the directors that the first line names, as bytes
abbrev pub members_told : Option (List ℕ) → Result (List ℕ) Fault
members_told None = Err (Unreadable 1)
members_told (Some ms) = Ok (map as_byte ms)

-- the chain that the first line names
abbrev pub chain_told : Option (List ℕ) → Result Membership Fault
chain_told None = Err (Unreadable 1)
chain_told (Some ms) = cond (valid_chain ms) (Ok (founded ms)) (Err InvalidChain)
