-- What a sent message tells for good, and what a director knows.
use Rattle.std.proofs.Common.{◌≡◌, ℕ, ◌+◌, ◌-◌, ◌<◌, ◌≤◌, true, List, length, get_or, Some, None, Option, ⊎_elim, arith}
use Rattle.std.specs.List.{Contains}
use Rattle.command.specs.declared.Command.{Command}
use Rattle.command.specs.declared.sets.DirectorSet.{DirectorSet}
use Rattle.command.specs.Commands.{well_formed}
use Rattle.command.specs.Members.{Membership}
use Rattle.command.specs.Sets.{has}
use Rattle.journal.specs.declared.writes.Entry.{Entry}
use Rattle.journal.specs.Meaning.{blank}
use Rattle.journal.specs.Windows.{element_at}
use Rattle.protocol.specs.declared.kinds.Kind.{Kind}
use Rattle.protocol.specs.declared.kinds.Kind.TheVariants.{Prepare, Promise, Accept, Acked, Learn, Fetch}
use Rattle.protocol.specs.declared.messages.Message.{Message}
use Rattle.protocol.specs.Messages.{kind_of, owner}
use Rattle.protocol.specs.Desks.{Role, following, standing, State, ack_of}
use Rattle.protocol.proofs.Votes.{Past, Voted, VotedAt, promise, count}
use Rattle.protocol.proofs.Growing.{begins_count}
use Rattle.protocol.proofs.Core.{Settled, settled_grew}
use Rattle.protocol.proofs.Writing.{Grows}

-- somebody voted so
abbrev pub SomeVoted : (ℕ → Past) → ℕ → Entry → Type 0
SomeVoted R n x = (e : ℕ) × Voted (R e) n x.ballot x.command

-- each of the set voted in slot n with ballot b
abbrev pub AllVoted : (ℕ → Past) → ℕ → ℕ → ℕ → Type 0
AllVoted R n b set = (e : ℕ) → has set e ≡ true → VotedAt (R e) n b

-- what a PROMISE tells
pub record Promises (R : ℕ → Past) (m : Message) : Type 0 where
  pub eight : length m.entries ≡ 8
  pub promised : m.ballot ≤ promise (R m.from)
  -- whatever the sender voted from the slot on with a lower ballot, is among the entries or below one
  pub told : (n b : ℕ) (c : Command) → m.slot ≤ n → b < m.ballot → Voted (R m.from) n b c
      → (n < m.slot + 8) × (b ≤ (get_or m.entries (n - m.slot) blank).ballot)
  -- an entry that is not blank was voted by somebody
  pub voted : (i : ℕ) → i < 8 → 1 ≤ (get_or m.entries i blank).ballot
      → SomeVoted R (m.slot + i) (get_or m.entries i blank)

-- what the owner of the ballot voted with it up to slot u, it has settled
pub record Told (R : ℕ → Past) (b u : ℕ) : Type 0 where
  pub within : u ≤ count (R (owner b))
  pub settled : (k : ℕ) (c : Command) → k ≤ u → Voted (R (owner b)) k b c → Settled (R (owner b)) k c

-- what an ACCEPT tells
pub record Accepts (R : ℕ → Past) (m : Message) : Type 0 where
  pub owned : Voted (R (owner m.ballot)) m.slot m.ballot m.command
  pub acks : AllVoted R m.slot m.ballot m.set.bits
  pub told : Told R m.ballot m.upto

-- the sender has settled the command
abbrev pub Learns : (ℕ → Past) → Message → Type 0
Learns R m = (e : ℕ) × Settled (R e) m.slot m.command

abbrev pub FactAs : Option Kind → (ℕ → Past) → Message → Type 0
FactAs None R m = Unit {0}
FactAs (Some Prepare) R m = Unit {0}
FactAs (Some Promise) R m = Promises R m
FactAs (Some Accept) R m = Accepts R m
FactAs (Some Acked) R m = AllVoted R m.slot m.ballot m.set.bits
FactAs (Some Learn) R m = Learns R m
FactAs (Some Fetch) R m = Unit {0}

abbrev pub Fact : (ℕ → Past) → Message → Type 0
Fact R m = FactAs (kind_of m.kind) R m

-- what a leader knows; x is its past
pub record Leader
    (S : Command → Type 0)
    (R : ℕ → Past)
    (d : ℕ)
    (x : Past)
    (q : DirectorSet)
    (line : List Command)
    (reports : List Entry)
    : Type 0 where
  pub own : owner (promise x) ≡ d
  pub some : 1 ≤ promise x
  pub eight : length reports ≡ 8
  -- who promised, promised its ballot; and what it voted with a lower one for a slot that is not settled, is reported
  pub promisers : (e : ℕ) → has q.bits e ≡ true → promise x ≤ promise (R e)
  pub told : (e n b : ℕ) (c : Command) → has q.bits e ≡ true → count x < n → b < promise x → Voted (R e) n b c
      → (n ≤ count x + 8) × (b ≤ (element_at blank reports n).ballot)
  -- a report that is not blank was voted by somebody
  pub voted : (n : ℕ) → count x < n → n ≤ count x + 8 → 1 ≤ (element_at blank reports n).ballot
      → SomeVoted R n (element_at blank reports n)
  -- what it voted with its ballot in a settled slot, it has settled
  pub settled : (k : ℕ) (c : Command) → k ≤ count x → Voted x k (promise x) c → Settled x k c
  -- the commands that wait were submitted, and are well formed
  pub waiting : (c : Command) → Contains line c → S c × (well_formed c ≡ true)

abbrev pub KnowsRole : (Command → Type 0) → (ℕ → Past) → ℕ → Past → Role → Type 0
KnowsRole S R d x following = Unit {0}
KnowsRole S R d x (standing q line reports) = Leader S R d x q line reports

-- a leader with another line, in which only such commands wait
pub leader_waits : (S : Command → Type 0) (R : ℕ → Past) (d : ℕ) (x : Past) (q : DirectorSet)
    (line lines : List Command) (reports : List Entry) → Leader S R d x q line reports
    → ((c : Command) → Contains lines c → S c × (well_formed c ≡ true)) → Leader S R d x q lines reports
leader_waits S R d x q line lines reports k waiting =
    record {
      own = k.own;
      some = k.some;
      eight = k.eight;
      promisers = k.promisers;
      told = k.told;
      voted = k.voted;
      settled = k.settled;
      waiting = waiting;
    }

pub record Knows (f : Membership) (S : Command → Type 0) (R : ℕ → Past) (d : ℕ) (x : Past) (s : State) : Type 0 where
  pub number : s.number ≡ d
  pub founding : s.founding ≡ f
  pub eight : length s.acks ≡ 8
  pub acks : (n : ℕ) → count x < n → n ≤ count x + 8 → AllVoted R n (ack_of s n).ballot (ack_of s n).set.bits
  pub role : KnowsRole S R d x s.role

-- All this stays as pasts grow.

module _ (P R : ℕ → Past) (g : Grows P R) where
  pub all_voted_grows : (n b set : ℕ) → AllVoted P n b set → AllVoted R n b set
  all_voted_grows n b set a e h = let v = a e h in (v.0, (g e).votes n b v.0 v.1)

  pub some_voted_grows : (n : ℕ) (x : Entry) → SomeVoted P n x → SomeVoted R n x
  some_voted_grows n x v = (v.0, (g v.0).votes n x.ballot x.command v.1)

  promises_grow : (m : Message) → Promises P m → Promises R m
  promises_grow m k =
      let l = k.promised in
      let r = (g m.from).promised in
      record {
        eight = k.eight;
        promised = omega arith;
        told = λ n b c from lower v.
            ⊎_elim (λ o. k.told n b c from lower o) (λ new. let h = new.0 in absurd (omega arith))
            ((g m.from).newer n b c v);
        voted = λ i h some. some_voted_grows (m.slot + i) (get_or m.entries i blank) (k.voted i h some);
      }

  pub told_grows : (b u : ℕ) → Told P b u → Told R b u
  told_grows b u k =
      let o : ℕ = owner b in
      let l = k.within in
      let r = begins_count (P o).journal.settled (R o).journal.settled (g o).settled in
      record {
        within = omega arith;
        settled = λ j c h v.
            ⊎_elim (λ old. settled_grew (P o) (R o) j c (g o) (k.settled j c h old))
            (λ new. let w = new.1 in absurd (omega arith)) ((g o).newer j b c v);
      }

  pub accepts_grow : (m : Message) → Accepts P m → Accepts R m
  accepts_grow m k =
      record {
        owned = (g (owner m.ballot)).votes m.slot m.ballot m.command k.owned;
        acks = all_voted_grows m.slot m.ballot m.set.bits k.acks;
        told = told_grows m.ballot m.upto k.told;
      }

  fact_as_grows : (k : Option Kind) (m : Message) → FactAs k P m → FactAs k R m
  fact_as_grows None m h = tt
  fact_as_grows (Some Prepare) m h = tt
  fact_as_grows (Some Promise) m h = promises_grow m h
  fact_as_grows (Some Accept) m h = accepts_grow m h
  fact_as_grows (Some Acked) m h = all_voted_grows m.slot m.ballot m.set.bits h
  fact_as_grows (Some Learn) m h =
      (h.0, settled_grew (P h.0) (R h.0) m.slot m.command (g h.0) h.1)
  fact_as_grows (Some Fetch) m h = tt

  pub fact_grows : (m : Message) → Fact P m → Fact R m
  fact_grows m = fact_as_grows (kind_of m.kind) m

  -- what a director knows stays as others write
  leader_grows : (S T : Command → Type 0) (d : ℕ) (x : Past) (q : DirectorSet) (line : List Command)
      (reports : List Entry)
      → ((c : Command) → S c → T c) → Leader S P d x q line reports → Leader T R d x q line reports
  leader_grows S T d x q line reports more k =
      record {
        own = k.own;
        some = k.some;
        eight = k.eight;
        promisers = λ e h. let l = k.promisers e h in let r = (g e).promised in omega arith;
        told = λ e n b c h above lower v.
            ⊎_elim (λ o. k.told e n b c h above lower o)
            (λ new. let u = new.0 in let l = k.promisers e h in absurd (omega arith)) ((g e).newer n b c v);
        voted = λ n above near some. some_voted_grows n (element_at blank reports n) (k.voted n above near some);
        settled = k.settled;
        waiting = λ c h. let w = k.waiting c h in (more c w.0, w.1);
      }

  knows_role_grows : (S T : Command → Type 0) (d : ℕ) (x : Past) → ((c : Command) → S c → T c) → (r : Role)
      → KnowsRole S P d x r → KnowsRole T R d x r
  knows_role_grows S T d x more following k = tt
  knows_role_grows S T d x more (standing q line reports) k = leader_grows S T d x q line reports more k

  pub knows_grows : (f : Membership) (S T : Command → Type 0) (d : ℕ) (x : Past) (s : State)
      → ((c : Command) → S c → T c) → Knows f S P d x s → Knows f T R d x s
  knows_grows f S T d x s more k =
      record {
        number = k.number;
        founding = k.founding;
        eight = k.eight;
        acks = λ n above near.
            all_voted_grows n (ack_of s n).ballot (ack_of s n).set.bits (k.acks n above near);
        role = knows_role_grows S T d x more s.role k.role;
      }
