-- What holds of all journals together, and that settled lists agree by it. Of quorums only one fact is used: two sets
-- that are enough for one chain share a member.
use Rattle.std.proofs.Common.{◌≡◌, ℕ, zero, suc, ◌+◌, ◌-◌, ◌<◌, ◌≤◌, true, ◌⊎◌, List, length, get_or, take, sym, refl, ap, ◌∙◌, subst, inl, inr, arith}
use Rattle.std.proofs.lemmas.List.Prefix.{front_from_reads}
use Rattle.std.proofs.lemmas.List.{ext_get_or, length-take-le, get_or-take, get_or_append_left}
use Rattle.std.proofs.lemmas.Bool.{cases_order}
use Rattle.command.specs.declared.Command.{Command}
use Rattle.command.specs.Chains.{after_all}
use Rattle.command.specs.Members.{Membership}
use Rattle.command.specs.Quorums.{enough}
use Rattle.command.specs.Sets.{has}
use Rattle.command.proofs.Count.{quorums_meet}
use Rattle.journal.specs.Meaning.{noop}
use Rattle.protocol.specs.Lists.{Begins}
use Rattle.protocol.specs.Messages.{owner}
use Rattle.protocol.proofs.Votes.{Past, Voted, Lawful, promise, count, vote_bounds}
use Rattle.protocol.proofs.Growing.{Grew, chain}

-- enough members of a chain for each of which something holds
pub record By (ms : List ℕ) (Q : ℕ → Type 0) : Type 0 where
  pub set : ℕ
  pub quorum : enough ms set ≡ true
  pub each : (e : ℕ) → has set e ≡ true → Q e

pub by_more : (ms : List ℕ) (Q R : ℕ → Type 0) → ((e : ℕ) → Q e → R e) → By ms Q → By ms R
by_more ms Q R f b = record { set = b.set; quorum = b.quorum; each = λ e h. f e (b.each e h) }

pub by_meet : (ms : List ℕ) (Q R : ℕ → Type 0) → By ms Q → By ms R → (e : ℕ) × Q e × R e
by_meet ms Q R b c =
    let s = quorums_meet ms b.set c.set b.quorum c.quorum in
    (s.who, b.each s.who s.in_first, c.each s.who s.in_second)

pub by_some : (ms : List ℕ) (Q : ℕ → Type 0) → By ms Q → (e : ℕ) × Q e
by_some ms Q b = let m = by_meet ms Q Q b b in (m.0, m.1)

-- command c is settled in slot n
pub record Settled (x : Past) (n : ℕ) (c : Command) : Type 0 where
  pub index : ℕ
  pub slot : n ≡ index + 1
  pub within : index < count x
  pub is : get_or x.journal.settled index noop ≡ c

pub settled_grew : (x y : Past) (n : ℕ) (c : Command) → Grew x y → Settled x n c → Settled y n c
settled_grew x y n c g s =
    let b = g.settled in
    let l = ap length b.whole in
    let k = Rattle.std.proofs.lemmas.List.length-append x.journal.settled b.rest in
    let w = s.within in
    record {
      index = s.index;
      slot = s.slot;
      within = omega arith;
      is = ap (λ (cs : List Command). get_or cs s.index noop) b.whole
          ∙ get_or_append_left x.journal.settled b.rest noop s.index w ∙ s.is;
    }

-- with this ballot nothing was put into slot n, and nothing will be
abbrev pub Passed : Past → ℕ → ℕ → Type 0
Passed x n b = (b < promise x) × ((c : Command) → Voted x n b c → ⊥)

-- c can be put into slot n with ballot b: with each lower ballot, enough members voted for c or passed
abbrev pub SafeAt : (ℕ → Past) → ℕ → ℕ → Command → List ℕ → Type 0
SafeAt P n b c ms = (k : ℕ) → 1 ≤ k → k < b → By ms (λ e. Voted (P e) n k c ⊎ Passed (P e) n k)

-- enough members voted for c in slot n with one ballot
pub record Chosen (P : ℕ → Past) (n : ℕ) (c : Command) (ms : List ℕ) : Type 0 where
  pub ballot : ℕ
  pub by : By ms (λ e. Voted (P e) n ballot c)

-- The core of the invariant, over the pasts of all directors, with founding chain f; S holds of the commands that were
-- submitted.
pub record Core (f : Membership) (S : Command → Type 0) (P : ℕ → Past) : Type 0 where
  pub lawful : (d : ℕ) → Lawful (P d)
  -- a vote is also one of the ballot's owner
  pub owned : (d n b : ℕ) (c : Command) → Voted (P d) n b c → Voted (P (owner b)) n b c
  -- votes of one slot and ballot have one command
  pub unique : (d e n b : ℕ) (c i : Command) → Voted (P d) n b c → Voted (P e) n b i → c ≡ i
  pub safe : (d n b : ℕ) (c : Command) → Voted (P d) n b c → SafeAt P n b c (chain f (P d) n)
  pub chosen : (d n : ℕ) (c : Command) → Settled (P d) n c → Chosen P n c (chain f (P d) n)
  pub known : (d n b : ℕ) (c : Command) → Voted (P d) n b c → S c

module _ (f : Membership) (S : Command → Type 0) (P : ℕ → Past) (core : Core f S P) where
  -- what is chosen with a ballot is what can be put with a higher one
  chosen_safe : (n b k : ℕ) (c i : Command) (ms : List ℕ) → 1 ≤ b → b < k → By ms (λ e. Voted (P e) n b c)
      → SafeAt P n k i ms → c ≡ i
  chosen_safe n b k c i ms some lower chosen safe =
      let m = by_meet ms (λ e. Voted (P e) n b c) (λ e. Voted (P e) n b i ⊎ Passed (P e) n b) chosen
      (safe b some lower) in
      elim m.2 [
        | inl v ↦ core.unique m.0 m.0 n b c i m.1 v
        | inr p ↦ absurd (p.1 c m.1)
      ]

  -- lists that agree below slot n lead to one chain for it
  chain_below : (n : ℕ)
      → ((j d e : ℕ) (c i : Command) → j < n → Settled (P d) j c → Settled (P e) j i → c ≡ i)
      → (d e : ℕ) → n ≤ count (P d) + 8 → n ≤ count (P e) + 8 → chain f (P d) n ≡ chain f (P e) n
  chain_below n below d e l k =
      let xs : List Command = (P d).journal.settled in
      let ys : List Command = (P e).journal.settled in
      let lx = length-take-le (n - 8) xs (omega arith) in
      let ly = length-take-le (n - 8) ys (omega arith) in
      ap (λ (cs : List Command). (after_all f cs).members)
      (ext_get_or noop (take (n - 8) xs) (take (n - 8) ys) (lx ∙ sym ly)
      (λ i h.
      let low : i < n - 8 = omega arith in
      get_or-take (n - 8) xs i noop low
      ∙ below (i + 1) d e (get_or xs i noop) (get_or ys i noop) (omega arith)
      (record { index = i; slot = refl; within = omega arith; is = refl })
      (record { index = i; slot = refl; within = omega arith; is = refl })
      ∙ sym (get_or-take (n - 8) ys i noop low)))

  -- two settled slots, the first chosen with the lower ballot
  agreed_lower : (n : ℕ)
      → ((j d e : ℕ) (c i : Command) → j < n → Settled (P d) j c → Settled (P e) j i → c ≡ i)
      → (d e b k : ℕ) (c i : Command) → n ≤ count (P d) + 8 → n ≤ count (P e) + 8 → b < k
      → By (chain f (P d) n) (λ v. Voted (P v) n b c) → By (chain f (P e) n) (λ v. Voted (P v) n k i) → c ≡ i
  agreed_lower n below d e b k c i l r lower first second =
      let u = by_some (chain f (P d) n) (λ v. Voted (P v) n b c) first in
      let v = by_some (chain f (P e) n) (λ v. Voted (P v) n k i) second in
      let some = (vote_bounds (P u.0) (core.lawful u.0) n b c u.1).some in
      let near = (vote_bounds (P v.0) (core.lawful v.0) n k i v.1).near in
      let same = chain_below n below d v.0 l near in
      chosen_safe n b k c i (chain f (P v.0) n) some lower
      (subst (λ (ms : List ℕ). By ms (λ x. Voted (P x) n b c)) same first)
      (core.safe v.0 n k i v.1)

  agreed_under : (m n : ℕ) → n < m → (d e : ℕ) (c i : Command) → Settled (P d) n c → Settled (P e) n i → c ≡ i
  agreed_under zero n h d e c i s t = absurd (omega arith)
  agreed_under (suc m) n h d e c i s t =
      let below : (j x y : ℕ) (a o : Command) → j < n → Settled (P x) j a → Settled (P y) j o → a ≡ o =
      (λ j x y a o l. agreed_under m j (omega arith) x y a o) in
      let first = core.chosen d n c s in
      let second = core.chosen e n i t in
      let u = s.slot in
      let v = s.within in
      let w = t.slot in
      let z = t.within in
      elim (cases_order first.ballot second.ballot) [
        | inl same ↦
            let x = by_meet (chain f (P e) n) (λ a. Voted (P a) n first.ballot c)
            (λ a. Voted (P a) n second.ballot i)
            (subst (λ (ms : List ℕ). By ms (λ a. Voted (P a) n first.ballot c))
            (chain_below n below d e (omega arith) (omega arith)) first.by)
            second.by in
            core.unique x.0 x.0 n second.ballot c i
            (subst (λ (b : ℕ). Voted (P x.0) n b c) same x.1) x.2
        | inr (inl lower) ↦
            agreed_lower n below d e first.ballot second.ballot c i (omega arith) (omega arith) lower
            first.by second.by
        | inr (inr higher) ↦
            sym (agreed_lower n below e d second.ballot first.ballot i c (omega arith) (omega arith) higher
            second.by first.by)
      ]

  -- two directors have settled the same command in a slot
  pub agreed : (d e n : ℕ) (c i : Command) → Settled (P d) n c → Settled (P e) n i → c ≡ i
  agreed d e n c i s t = agreed_under (suc n) n (omega arith) d e c i s t

  -- and have one chain for it
  pub one_chain : (d e n : ℕ) → n ≤ count (P d) + 8 → n ≤ count (P e) + 8 → chain f (P d) n ≡ chain f (P e) n
  one_chain d e n l k = chain_below n (λ j x y c i h. agreed x y j c i) d e l k

  -- the shorter list is the beginning of the longer
  pub list_begins : (d e : ℕ) → count (P d) ≤ count (P e) → Begins (P d).journal.settled (P e).journal.settled
  list_begins d e l =
      let xs : List Command = (P d).journal.settled in
      let ys : List Command = (P e).journal.settled in
      record {
        rest = lib.ListN.drop (length xs) ys;
        whole =
            front_from_reads noop ys xs l
            (λ i h.
            agreed e d (i + 1) (get_or ys i noop) (get_or xs i noop)
            (record { index = i; slot = refl; within = omega arith; is = refl })
            (record { index = i; slot = refl; within = h; is = refl }));
      }
