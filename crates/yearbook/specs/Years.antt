-- A year's list, sealed and read back.
use Rattle.std.specs.Prelude.{◌≡◌, ℕ, ◌+◌, ◌<◌, cond, List, length, Some, None, Ok, Err, vec_items}
use Rattle.command.specs.Chains.{after_all}
use Rattle.archive.specs.declared.writing.Refusal.TheVariants.{Full}
use Rattle.command.specs.declared.Command.{Command}
use Rattle.archive.specs.Layout.{Archive, layout, most}
use Rattle.archive.specs.declared.lists.ListRefusal.TheVariants.{Entry as Refused}
use Rattle.archive.specs.declared.entries.Entries.{Entries}
use Rattle.archive.specs.Reading.{fault, members_of, scanned, scan_all}
use Rattle.listing.specs.declared.faults.Fault.TheVariants.{Memory}
use Rattle.listing.specs.Answers.{is_memory}
use Rattle.listing.specs.Reading.{read_text, Listed}
use Rattle.listing.specs.Writing.{text_of, entries_text}
use Rattle.yearbook.specs.declared.faults.ReadFault.{ReadFault}
use Rattle.yearbook.specs.declared.faults.ReadFault.TheVariants.{File, Memory as NoText}
use Rattle.yearbook.specs.declared.faults.SealFault.{SealFault}
use Rattle.yearbook.specs.declared.faults.SealFault.TheVariants.{List as NoList, Entry, Memory as NoMemory}
use Rattle.yearbook.specs.declared.seals.SealedYear.{SealedYear}

-- the file is the archive of the list that the text tells, with its number of entries and the chain after all of them
pub record Year (text : List ℕ) (y : SealedYear) : Type 0 where
  pub list : Listed
  pub told : read_text text ≡ Ok list
  pub file : Archive (vec_items y.file) list.chain.members list.commands
  pub entries : y.entries ≡ length list.commands
  pub chain : y.chain ≡ after_all list.chain list.commands

-- why commands make no file: only their number can be refused, at the 65,536th entry; else memory ran out
abbrev pub Unfiled : List Command → SealFault → Type 0
Unfiled cs (NoList e) = ⊥
Unfiled cs (Entry e) = (most < length cs) × (e ≡ Refused (most + 1) Full)
Unfiled cs NoMemory = Unit {0}

-- why a text was not sealed: it is no list, for this fault; or its list has too many entries; or memory ran out
abbrev pub Unsealed : List ℕ → SealFault → Type 0
Unsealed text (NoList e) = Err e ≡ cond (is_memory e) (Err Memory) (read_text text)
Unsealed text (Entry e) = (l : Listed) × (read_text text ≡ Ok l) × Unfiled l.commands (Entry e)
Unsealed text NoMemory = Unit {0}

-- the text of a file: that of the chain and the commands which the file holds; it tells a list whose archive is the
-- file
pub record Told (file text : List ℕ) : Type 0 where
  pub whole : fault file ≡ None
  pub text_is : text ≡ text_of (members_of file) (scanned file).commands
  pub list : Listed
  pub read : read_text text ≡ Ok list
  pub again : layout list.chain.members list.commands ≡ file

-- why a file was not read: its first broken part; or memory ran out
abbrev pub Unread : List ℕ → ReadFault → Type 0
Unread file (File b) = fault file ≡ Some b
Unread file NoText = fault file ≡ None

-- the lines of the entries that are to come
abbrev pub lines_left : Entries → List ℕ
lines_left e = entries_text (scan_all e.end e.rest.now).commands
