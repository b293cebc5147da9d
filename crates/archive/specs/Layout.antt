-- The layout of an archive file: what it holds, byte by byte, for a founding chain and a list of commands.
use Rattle.std.specs.Prelude.{◌≡◌, ℕ, ◌≤◌, true, List, [], ◌∷◌, ◌++◌, length, Some, None, Option}
use Rattle.std.specs.List.{flat_map, All, AllPass}
use Rattle.octets.specs.Numbers.{le}
use Rattle.command.specs.declared.Command.{Command}
use Rattle.command.specs.declared.verbs.Verb.{Verb}
use Rattle.command.specs.declared.verbs.Verb.TheVariants.{Noop, Add, Remove, Change}
use Rattle.command.specs.Commands.{verb_of, well_formed, serial_bytes, Sized}
use Rattle.command.specs.Members.{valid_chain}

-- the mark that every file begins with
abbrev pub mark : List ℕ
mark = 0x48 ∷ 0x50 ∷ 0x41 ∷ 0x31 ∷ []

-- the count at the end takes two bytes
abbrev pub count_bytes : ℕ
count_bytes = 2

-- the most entries that the count can tell
abbrev pub most : ℕ
most = 65535

-- the bytes of an entry of this kind: a no-op its verb alone, add and remove also the director, a change all its fields
abbrev pub entry_as : Option Verb → Command → List ℕ
entry_as None c = []
entry_as (Some Noop) c = c.verb ∷ []
entry_as (Some Add) c = c.verb ∷ c.a ∷ []
entry_as (Some Remove) c = c.verb ∷ c.a ∷ []
entry_as (Some Change) c =
    c.verb ∷ (le 2 c.origin ++ (le serial_bytes c.serial ++ (le 2 c.a ++ le 2 c.b)))

abbrev pub entry : Command → List ℕ
entry c = entry_as (verb_of c.verb) c

abbrev pub entries : List Command → List ℕ
entries cs = flat_map entry cs

-- mark, length of the chain and its members
abbrev pub header : List ℕ → List ℕ
header ms = mark ++ (length ms ∷ ms)

-- the whole file: header, entries, and their count
unfoldable pub layout : List ℕ → List Command → List ℕ
layout ms cs = header ms ++ (entries cs ++ le count_bytes (length cs))

-- the file is the archive of this founding chain and these commands, and they are such as a list may hold
pub record Archive (file ms : List ℕ) (cs : List Command) : Type 0 where
  pub laid : file ≡ layout ms cs
  pub chain : valid_chain ms ≡ true
  pub formed : AllPass well_formed cs
  pub sized : All Sized cs
  pub few : length cs ≤ most
