-- What a reader finds in a file of any bytes.
use Rattle.std.specs.Prelude.{ℕ, zero, suc, ◌+◌, ◌-◌, Bool, cond, ◌&&◌, List, [], ◌∷◌, length, take, drop, Some, None, Ok, Err, Option, Result, ◌==◌, nat_le, nat_lt, slice_index, slice_index_or, option_map}
use Rattle.std.specs.List.{starts_with}
use Rattle.octets.specs.Areas.{part}
use Rattle.octets.specs.Numbers.{num}
use Rattle.command.specs.declared.Command.{Command}
use Rattle.command.specs.declared.verbs.Verb.{Verb}
use Rattle.command.specs.declared.verbs.Verb.TheVariants.{Noop, Add, Remove, Change}
use Rattle.command.specs.Commands.{verb_of, serial_bytes}
use Rattle.command.specs.Members.{valid_chain}
use Rattle.archive.specs.declared.reading.Broken.{Broken}
use Rattle.archive.specs.declared.reading.Broken.TheVariants.{Mark, Chain, Entry, Count}
use Rattle.archive.specs.Layout.{mark, count_bytes, header, entry, entries}

-- how long an entry of this kind is, where a is the byte after its verb, if there is such an entry
abbrev pub size_as : Option Verb → ℕ → Option ℕ
size_as None a = None
size_as (Some Noop) a = Some 1
size_as (Some Add) a = cond (nat_le a 31) (Some 2) None
size_as (Some Remove) a = cond (nat_le a 31) (Some 2) None
size_as (Some Change) a = Some (7 + serial_bytes)

-- a size, if that many bytes are left
abbrev pub within : ℕ → Option ℕ → Option ℕ
within left None = None
within left (Some s) = cond (nat_le s left) (Some s) None

-- the size of the entry that these bytes begin with, if they begin with one
abbrev pub size_of : List ℕ → Option ℕ
size_of bs = within (length bs) (size_as (verb_of (slice_index bs 0)) (slice_index bs 1))

-- the command that changes nothing
abbrev pub noop : Command
noop = record { verb = 0; origin = 0; serial = 0; a = 0; b = 0 }

-- an add or a remove, with the director that it names
abbrev pub directed : ℕ → ℕ → Command
directed verb a = record { verb = verb; origin = 0; serial = 0; a = a; b = 0 }

-- the command that an entry of this kind tells
abbrev pub command_as : Option Verb → List ℕ → Command
command_as None bs = noop
command_as (Some Noop) bs = noop
command_as (Some Add) bs = directed (slice_index bs 0) (slice_index bs 1)
command_as (Some Remove) bs = directed (slice_index bs 0) (slice_index bs 1)
command_as (Some Change) bs =
    record {
      verb = slice_index bs 0;
      origin = num (part 1 2 bs);
      serial = num (part 3 serial_bytes bs);
      a = num (part (3 + serial_bytes) 2 bs);
      b = num (part (5 + serial_bytes) 2 bs);
    }

-- the command that these bytes begin with
abbrev pub command_of : List ℕ → Command
command_of bs = command_as (verb_of (slice_index bs 0)) bs

-- the command of the first entry, if these bytes begin with one
abbrev pub first_command : List ℕ → Option Command
first_command bs = option_map (λ s. command_of bs) (size_of bs)

-- the command of bytes that begin with an entry of this size, if they are that entry and no more
abbrev pub decoded_as : Option ℕ → List ℕ → Option Command
decoded_as None bs = None
decoded_as (Some s) bs = cond (s == length bs) (Some (command_of bs)) None

-- the command that these bytes tell, if they are one whole entry and no more
abbrev pub decoded : List ℕ → Option Command
decoded bs = decoded_as (size_of bs) bs

-- what follows an entry of this size; where there is none, nothing is passed over
abbrev pub after : Option ℕ → List ℕ → List ℕ
after None bs = bs
after (Some s) bs = drop s bs

-- what follows the entry that these bytes begin with
abbrev pub rest : List ℕ → List ℕ
rest bs = after (size_of bs) bs

-- what going through the entries finds: the commands of those that are whole, and where the first that is not begins
pub record Found : Type 0 where
  pub commands : List Command
  pub broken : Option ℕ

abbrev pub found : List Command → Option ℕ → Found
found cs o = record { commands = cs; broken = o }

-- the first entry is whole, and the others were gone through
abbrev pub and_then : Command → Found → Found
and_then c f = found (c ∷ f.commands) f.broken

-- bytes that end at offset e begin with an entry of this size, and others are to be gone through; or they are broken
abbrev pub found_from : Option ℕ → ℕ → List ℕ → (List ℕ → Found) → Found
found_from None e bs others = found [] (Some (e - length bs))
found_from (Some s) e bs others = and_then (command_of bs) (others (drop s bs))

-- through the entries in these bytes, which end at offset e, in k steps: as many as there are bytes are enough
unfoldable pub scan : ℕ → ℕ → List ℕ → Found
scan k e [] = found [] None
scan zero e (b ∷ bs) = found [] (Some (e - length (b ∷ bs)))
scan (suc k) e (b ∷ bs) = found_from (size_of (b ∷ bs)) e (b ∷ bs) (scan k e)

abbrev pub scan_all : ℕ → List ℕ → Found
scan_all e bs = scan (length bs) e bs

-- what counting entries answers: their number where all are whole, else the first that is not
abbrev pub counted_as : ℕ → Option ℕ → Result ℕ Broken
counted_as n None = Ok n
counted_as n (Some i) = Err (Entry i)

abbrev pub counted : Found → Result ℕ Broken
counted s = counted_as (length s.commands) s.broken

-- where the count stands
abbrev pub count_at : List ℕ → ℕ
count_at f = length f - count_bytes

-- the members of the chain, as many as the byte before them tells
abbrev pub members_of : List ℕ → List ℕ
members_of f = part 5 (slice_index f 4) f

-- where the entries begin
abbrev pub start_of : List ℕ → ℕ
start_of f = 5 + slice_index f 4

-- the bytes of the entries, between chain and count
abbrev pub body_of : List ℕ → List ℕ
body_of f = drop (start_of f) (take (count_at f) f)

-- the file begins with the mark
abbrev pub has_mark : List ℕ → Bool
has_mark f = starts_with (λ a b. a == b) f mark

-- the chain ends before the count and is valid
abbrev pub has_chain : List ℕ → Bool
has_chain f = nat_le (start_of f) (count_at f) && valid_chain (members_of f)

-- through all entries of the file
abbrev pub scanned : List ℕ → Found
scanned f = scan_all (count_at f) (body_of f)

-- the count tells how many entries there are
abbrev pub has_count : List ℕ → List Command → Bool
has_count f cs = num (drop (count_at f) f) == length cs

-- the first broken entry; where there is none, the count if it is wrong
abbrev pub or_count : List ℕ → List Command → Option ℕ → Option Broken
or_count f cs (Some i) = Some (Entry i)
or_count f cs None = cond (has_count f cs) None (Some (Count (count_at f)))

-- the first broken part in the order mark, chain, entries, count; none where the file is whole.
-- The shortest file has 8 bytes: one that is shorter is broken from its beginning.
abbrev pub fault : List ℕ → Option Broken
fault f =
    cond (nat_lt (length f) 8) (Some Mark)
    (cond (has_mark f)
    (cond (has_chain f) (or_count f (scanned f).commands (scanned f).broken) (Some Chain))
    (Some Mark))

-- the number of the refusal
abbrev pub refusal_number : Broken → ℕ
refusal_number _ = 15

-- where a broken part begins
abbrev pub offset_of : Broken → ℕ
offset_of Mark = 0
offset_of Chain = 4
offset_of (Entry i) = i
offset_of (Count i) = i

-- an entry of this size at the front of these bytes, as its offset and its bytes; the bytes end at offset e
abbrev pub first_of : ℕ → List ℕ → Option ℕ → Option (ℕ × List ℕ)
first_of e bs None = None
first_of e bs (Some s) = Some (e - length bs, take s bs)

-- the entry that these bytes begin with, if there is one
abbrev pub first_entry : ℕ → List ℕ → Option (ℕ × List ℕ)
first_entry e bs = first_of e bs (size_of bs)

-- entry n of these bytes, n from 1
abbrev pub entry_at : ℕ → ℕ → List ℕ → Option (ℕ × List ℕ)
entry_at zero e bs = None
entry_at (suc zero) e bs = first_entry e bs
entry_at (suc (suc n)) e bs = entry_at (suc n) e (rest bs)

-- entry n of a list: the bytes of its n-th command, where the header and the entries before it end
abbrev pub entry_of : List ℕ → List Command → ℕ → Option (ℕ × List ℕ)
entry_of ms cs n =
    cond (nat_lt 0 n && nat_le n (length cs))
    (Some (length (header ms) + length (entries (take (n - 1) cs)), entry (slice_index_or cs (n - 1) noop)))
    None
