-- Directors agree: what is proved of every run.
use Rattle.std.specs.Prelude.{◌≡◌, ℕ, ◌+◌, ◌≤◌, false, ◌⊎◌, List, ◌++◌, length}
use Rattle.std.specs.List.{Contains}
use Rattle.archive.specs.Layout.{layout}
use Rattle.command.specs.declared.Command.{Command}
use Rattle.command.specs.Chains.{chain_for}
use Rattle.command.specs.Members.{Membership, founded}
use Rattle.machine.specs.Rules.{after}
use Rattle.protocol.specs.Lists.{Begins}
use Rattle.protocol.specs.Refusing.{submit}
use Rattle.protocol.specs.Replies.{for_machine}
use Rattle.protocol.specs.Runs.{World, Cluster, Event, accepted, journal_of, Goes, Run}

-- the settled list of director d
abbrev pub settled_list : World → ℕ → List Command
settled_list w d = (journal_of (w.seats d)).settled

-- its chain for slot n
abbrev pub chain_at : Cluster → World → ℕ → ℕ → Membership
chain_at k w d n = chain_for (founded k.founding) (settled_list w d) n

-- its archive file
abbrev pub file_of : Cluster → World → ℕ → List ℕ
file_of k w d = layout k.founding (settled_list w d)

-- the machine state that its list leads to: what the commands for the machine make of the start, in order
abbrev pub led_to : Cluster → World → ℕ → List ℕ
led_to k w d = after k.make.rule k.make.start (for_machine (settled_list w d))

-- an accepted submit of this command is among the events
pub record Submitted (c : Command) (es : List Event) : Type 0 where
  pub director : ℕ
  pub places : ℕ
  pub among : Contains es (record { director = director; call = submit c; places = places; ending = accepted })

-- two directors of equally long lists
abbrev pub Level : World → ℕ → ℕ → Type 0
Level w d e = length (settled_list w d) ≡ length (settled_list w e)

-- a world v of a run, and a later one, w, in which these are the events so far
pub record Agree (k : Cluster) (es : List Event) (v w : World) : Type 0 where
  -- of any two settled lists one is the beginning of the other
  pub lists : (d e : ℕ) → Begins (settled_list w d) (settled_list w e) ⊎ Begins (settled_list w e) (settled_list w d)
  -- and each begins with what it was
  pub grown : (d : ℕ) → Begins (settled_list v d) (settled_list w d)
  -- equally long lists are equal, have equal chains as far as they can be told, and equal archive files
  pub same : (d e : ℕ) → Level w d e → settled_list w d ≡ settled_list w e
  pub chains : (d e n : ℕ) → Level w d e → n ≤ length (settled_list w d) + 8 → chain_at k w d n ≡ chain_at k w e n
  pub files : (d e : ℕ) → Level w d e → file_of k w d ≡ file_of k w e
  -- where no restart is outstanding, the machine's state is the one that the list leads to; so equal lists have equal
  -- ones
  pub machine : (d : ℕ) → (w.seats d).outstanding ≡ false → (w.seats d).machine ≡ led_to k w d
  pub machines : (d e : ℕ) → Level w d e → (w.seats d).outstanding ≡ false → (w.seats e).outstanding ≡ false
      → (w.seats d).machine ≡ (w.seats e).machine
  -- every settled command was submitted, and the submit was accepted
  pub submitted : (d : ℕ) (c : Command) → Contains (settled_list w d) c → Submitted c es

-- directors agree in every run, over any first part of it
abbrev pub DirectorsAgree : Type 0
DirectorsAgree =
    (k : Cluster) (es fs : List Event) (v w : World)
    → Run k es v
    → Goes k.make v fs w
    → Agree k (es ++ fs) v w
