-- What is known of a list that was read from a text, and of the text that is written of a file.
use Rattle.std.proofs.Common.{◌≡◌, ℕ, ◌+◌, Bool, true, false, cond, leb, List, [], ◌∷◌, length, Some, None, Ok, Err, Option, Result, sym, refl, ap, ◌∙◌, subst}
use Rattle.std.specs.List.{All, AllPass}
use Rattle.command.specs.declared.Command.{Command}
use Rattle.command.specs.Commands.{well_formed, Sized}
use Rattle.command.specs.Members.{Membership, valid_chain, founded}
use Rattle.archive.specs.Layout.{most}
use Rattle.archive.specs.Reading.{fault, members_of, scanned}
use Rattle.archive.specs.Readers.{Exact}
use Rattle.listing.specs.declared.faults.Fault.{Fault}
use Rattle.listing.specs.declared.faults.Fault.TheVariants.{InvalidChain, IllFormed}
use Rattle.listing.specs.Law.{Listable}
use Rattle.listing.specs.Reading.{read_entry, read_chain, before, judged, entries_from, listed, chained, read_lines}
use Rattle.listing.specs.Reading.{read_text, Listed}
use Rattle.listing.specs.Writing.{text_of}
use Rattle.listing.specs.Pieces.{lines}
use Rattle.listing.proofs.ReadBack.{text_back}
use Rattle.archive.specs.declared.lists.ListRefusal.{ListRefusal}
use Rattle.archive.specs.declared.writing.Refusal.TheVariants.{Full}
use Rattle.archive.specs.declared.lists.ListRefusal.TheVariants.{Entry as Refused}
use Rattle.std.proofs.lemmas.Bool.{leb-false}
use Rattle.std.proofs.lemmas.List.Elements.{All-nil, All-cons}
use Rattle.yearbook.specs.declared.faults.SealFault.{SealFault}
use Rattle.yearbook.specs.declared.faults.SealFault.TheVariants.{List as NoList, Entry, Memory as NoMemory}
use Rattle.yearbook.specs.Years.{Told, Unfiled, Unsealed}

-- every command of a list that was read is well formed
judged_formed : (n : ℕ) (o : Option Command) (rest : Result (List Command) Fault) (cs : List Command)
    → ((ds : List Command) → rest ≡ Ok ds → AllPass well_formed ds) → judged n o rest ≡ Ok cs
    → AllPass well_formed cs
judged_formed n None rest cs h e = absurd (cc)
judged_formed n (Some c) rest cs h e = go (well_formed c) refl rest h e
  where
    go : (b : Bool) → well_formed c ≡ b → (r : Result (List Command) Fault)
        → ((ds : List Command) → r ≡ Ok ds → AllPass well_formed ds)
        → cond b (before c r) (Err (IllFormed n)) ≡ Ok cs → AllPass well_formed cs
    go true w (Ok ds) h e = let same : c ∷ ds ≡ cs = cc in subst
        (AllPass well_formed) same (All-cons (λ d. well_formed d ≡ true) c ds w (h ds refl))
    go true w (Err f) h e = absurd (cc)
    go false w r h e = absurd (cc)

entries_formed : (ls : List (List ℕ)) (n : ℕ) (cs : List Command) → entries_from n ls ≡ Ok cs
    → AllPass well_formed cs
entries_formed [] n cs e =
    let same : [] ≡ cs = cc in subst (AllPass well_formed) same (All-nil (λ d. well_formed d ≡ true))
entries_formed (l ∷ ls) n cs e =
    judged_formed n (read_entry l) (entries_from (n + 1) ls) cs (λ ds q. entries_formed ls (n + 1) ds q) e

-- a list as it was read: a founded chain, and well-formed commands
pub record Sound (l : Listed) : Type 0 where
  pub chain : valid_chain l.chain.members ≡ true
  pub formed : AllPass well_formed l.commands

listed_sound : (m : Membership) (r : Result (List Command) Fault) (l : Listed) → valid_chain m.members ≡ true
    → ((ds : List Command) → r ≡ Ok ds → AllPass well_formed ds) → listed m r ≡ Ok l → Sound l
listed_sound m (Err f) l v h e = absurd (cc)
listed_sound m (Ok cs) l v h e =
    let same : record { chain = m; commands = cs } ≡ l = cc in
    subst Sound same (record { chain = v; formed = h cs refl })

chained_sound : (o : Option (List ℕ)) (ls : List (List ℕ)) (l : Listed) → chained o ls ≡ Ok l → Sound l
chained_sound None ls l e = absurd (cc)
chained_sound (Some ms) ls l e = go (valid_chain ms) refl e
  where
    go : (b : Bool) → valid_chain ms ≡ b → cond b (listed (founded ms) (entries_from 2 ls)) (Err InvalidChain) ≡ Ok l
        → Sound l
    go true v e = listed_sound (founded ms) (entries_from 2 ls) l v (λ ds q. entries_formed ls 2 ds q) e
    go false v e = absurd (cc)

lines_sound : (ls : List (List ℕ)) (l : Listed) → read_lines ls ≡ Ok l → Sound l
lines_sound [] l e = absurd (cc)
lines_sound (x ∷ ls) l e = chained_sound (read_chain x) ls l e

pub read_sound : (text : List ℕ) (l : Listed) → read_text text ≡ Ok l → Sound l
unfolding read_text
read_sound text l e = lines_sound (lines text) l e

-- commands of an archive can be written as text
listables : (cs : List Command) → AllPass well_formed cs → All Sized cs → All Listable cs
listables cs w s = λ k d l. record { well = w k d l; sized = s k d l }

-- the text of a whole file tells a list whose archive is the file
pub told : (f text : List ℕ) → Exact f → fault f ≡ None → text ≡ text_of (members_of f) (scanned f).commands
    → Told f text
told f text x whole e =
    let a = x.only whole in
    record {
      whole = whole;
      text_is = e;
      list = record { chain = founded (members_of f); commands = (scanned f).commands };
      read = ap read_text e ∙ text_back (members_of f) (scanned f).commands a.chain
          (listables (scanned f).commands a.formed a.sized);
      again = sym a.laid;
    }

-- why commands made no file is why their list was not sealed
pub unsealed : (text : List ℕ) (l : Listed) → read_text text ≡ Ok l → (x : SealFault) → Unfiled l.commands x
    → Unsealed text x
unsealed text l e (NoList f) h = absurd h
unsealed text l e (Entry r) h = (l, e, h)
unsealed text l e NoMemory h = tt

-- a refusal where there was space enough is that of the 65,536th entry
pub overfull : (cs : List Command) (e : ListRefusal)
    → Some e ≡ cond (leb (length cs) most) None (Some (Refused (most + 1) Full))
    → Unfiled cs (Entry e)
overfull cs e h = go (leb (length cs) most) refl h
  where
    go : (b : Bool) → leb (length cs) most ≡ b → Some e ≡ cond b None (Some (Refused (most + 1) Full))
        → Unfiled cs (Entry e)
    go true q h = absurd (cc)
    go false q h = (leb-false (length cs) most q, cc)
