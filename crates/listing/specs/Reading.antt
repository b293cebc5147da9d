-- What a line, and a whole text, is read as.
use Rattle.std.specs.Prelude.{ℕ, ◌+◌, ◌-◌, ◌*◌, ◌^◌, cond, List, [], ◌∷◌, Some, None, Ok, Err, codes, Option, Result}
use Rattle.std.specs.Str.{bytes_eq}
use Rattle.command.specs.declared.Command.{Command}
use Rattle.command.specs.Commands.{well_formed, serial_bytes}
use Rattle.command.specs.Members.{Membership, valid_chain, founded}
use Rattle.listing.specs.declared.faults.Fault.{Fault}
use Rattle.listing.specs.declared.faults.Fault.TheVariants.{InvalidChain, IllFormed, Unreadable}
use Rattle.listing.specs.Pieces.{lines, words}
use Rattle.listing.specs.Numbers.{numeral}

-- the largest numbers of 8 bits, of 16 bits and of a serial
abbrev pub max8 : ℕ
max8 = 255

abbrev pub max16 : ℕ
max16 = 65535

abbrev pub max_serial : ℕ
max_serial = 2 ^ (8 * serial_bytes) - 1

-- a step of reading, and then the rest of it
abbrev pub then : {A B : Type 0} → Option A → (A → Option B) → Option B
then None f = None
then (Some x) f = f x

-- the next word is a number of at most max, and then what follows is read
abbrev pub field : {B : Type 0} → ℕ → List (List ℕ) → (ℕ → List (List ℕ) → Option B) → Option B
field max [] f = None
field max (w ∷ ws) f = then (numeral max w) (λ n. f n ws)

-- no word is left
abbrev pub ended : List (List ℕ) → Command → Option Command
ended [] c = Some c
ended (w ∷ ws) c = None

-- the command with these fields
abbrev pub command : ℕ → ℕ → ℕ → ℕ → ℕ → Command
command v o s a b = record { verb = v; origin = o; serial = s; a = a; b = b }

-- what follows the word add or remove: a director, for that verb
abbrev pub member_of : ℕ → List (List ℕ) → Option Command
member_of v ws = field max16 ws (λ d ws₁. ended ws₁ (command v 0 0 d 0))

-- what follows the word change: verb, origin, serial, a and b
abbrev pub change_of : List (List ℕ) → Option Command
change_of ws =
    field max8 ws (λ v ws₁. field max16 ws₁ (λ o ws₂. field max_serial ws₂ (λ s ws₃.
    field max16 ws₃ (λ a ws₄. field max16 ws₄ (λ b ws₅. ended ws₅ (command v o s a b))))))

-- the command of a line's words, by the first of them
abbrev pub entry_of : List (List ℕ) → Option Command
entry_of [] = None
entry_of (w ∷ ws) =
    cond (bytes_eq w (codes "noop")) (ended ws (command 0 0 0 0 0))
    (cond (bytes_eq w (codes "add")) (member_of 1 ws)
    (cond (bytes_eq w (codes "remove")) (member_of 2 ws)
    (cond (bytes_eq w (codes "change")) (change_of ws) None)))

-- a line as a command
unfoldable pub read_entry : List ℕ → Option Command
read_entry line = entry_of (words line)

-- each word a number of 16 bits
abbrev pub directors : List (List ℕ) → Option (List ℕ)
directors [] = Some []
directors (w ∷ ws) = then (numeral max16 w) (λ d. then (directors ws) (λ ds. Some (d ∷ ds)))

-- at least one of them
abbrev pub some_directors : List (List ℕ) → Option (List ℕ)
some_directors [] = None
some_directors (w ∷ ws) = directors (w ∷ ws)

-- the directors of the first line's words
abbrev pub chain_of : List (List ℕ) → Option (List ℕ)
chain_of [] = None
chain_of (w ∷ ws) = cond (bytes_eq w (codes "chain")) (some_directors ws) None

-- the first line, as the directors that it names
unfoldable pub read_chain : List ℕ → Option (List ℕ)
read_chain line = chain_of (words line)

-- a list as it was read: its chain and its commands
pub record Listed : Type 0 where
  pub chain : Membership
  pub commands : List Command

-- c before the others, unless one of them is at fault
abbrev pub before : Command → Result (List Command) Fault → Result (List Command) Fault
before c (Ok cs) = Ok (c ∷ cs)
before c (Err f) = Err f

-- line n, and the lines after it: it must be readable, and its command well formed
abbrev pub judged : ℕ → Option Command → Result (List Command) Fault → Result (List Command) Fault
judged n None rest = Err (Unreadable n)
judged n (Some c) rest = cond (well_formed c) (before c rest) (Err (IllFormed n))

-- the lines from line n on; the first that is at fault is told
abbrev pub entries_from : ℕ → List (List ℕ) → Result (List Command) Fault
entries_from n [] = Ok []
entries_from n (l ∷ ls) = judged n (read_entry l) (entries_from (n + 1) ls)

-- a chain with the commands after it, unless one of their lines is at fault
abbrev pub listed : Membership → Result (List Command) Fault → Result Listed Fault
listed m (Ok cs) = Ok (record { chain = m; commands = cs })
listed m (Err f) = Err f

-- the first line is a chain, then come the entries
abbrev pub chained : Option (List ℕ) → List (List ℕ) → Result Listed Fault
chained None ls = Err (Unreadable 1)
chained (Some ms) ls = cond (valid_chain ms) (listed (founded ms) (entries_from 2 ls)) (Err InvalidChain)

-- the lines of a text as a list; with no line at all, line 1 cannot be read
abbrev pub read_lines : List (List ℕ) → Result Listed Fault
read_lines [] = Err (Unreadable 1)
read_lines (l ∷ ls) = chained (read_chain l) ls

-- a text as a list
unfoldable pub read_text : List ℕ → Result Listed Fault
read_text text = read_lines (lines text)
