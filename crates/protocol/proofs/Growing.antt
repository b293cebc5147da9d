-- How pasts grow: one write at a time.
use Rattle.std.proofs.Common.{◌≡◌, ℕ, ◌+◌, ◌-◌, ◌<◌, ◌≤◌, true, cond, ◌⊎◌, List, [], ◌∷◌, ◌++◌, length, take, sym, refl, ap, ◌∙◌, subst, inl, inr, ⊎_elim, append_assoc, append-nil, arith}
use Rattle.std.proofs.lemmas.List.Elements.{Contains-push_cases, Contains-append_left}
use Rattle.std.proofs.lemmas.List.{length-append, take-append-le}
use Rattle.std.proofs.lemmas.Bool.{leb-true}
use Rattle.command.specs.declared.Command.{Command}
use Rattle.command.specs.Chains.{chain_for, after_all}
use Rattle.command.specs.Members.{Membership}
use Rattle.journal.specs.declared.writes.Write.{Write}
use Rattle.journal.specs.declared.writes.Write.TheVariants.{Promise, Put, Settle}
use Rattle.journal.specs.Laws.{Leads}
use Rattle.journal.specs.Meaning.{Meaning, fresh, taken, after, step, wrote, replay}
use Rattle.journal.proofs.Histories.{step_taken, leads_more}
use Rattle.journal.proofs.Newest.{put_parts}
use Rattle.protocol.specs.Lists.{Begins}
use Rattle.protocol.proofs.Votes.{Past, Voted, Lawful, promise, count}

-- a past with more writes
abbrev pub plus : Past → List Write → Past
plus x ws = record { history = x.history ++ ws; journal = replay x.journal ws }

pub plus_none : (x : Past) → plus x [] ≡ x
plus_none x i = record { history = append-nil x.history i; journal = x.journal }

pub replay_append : (m : Meaning) (ws vs : List Write) → replay m (ws ++ vs) ≡ replay (replay m ws) vs
replay_append m [] vs = refl
replay_append m (w ∷ ws) vs = replay_append (step w m) ws vs

pub plus_append : (x : Past) (ws vs : List Write) → plus x (ws ++ vs) ≡ plus (plus x ws) vs
plus_append x ws vs =
    let h = sym (append_assoc x.history ws vs) in
    λ i. record { history = h i; journal = replay_append x.journal ws vs i }

-- y is x with more: votes and settled slots stay, the promise does not fall, and what is new was voted with at least
-- the ballot that was promised, for a slot that was not settled
pub record Grew (x y : Past) : Type 0 where
  pub votes : (n b : ℕ) (c : Command) → Voted x n b c → Voted y n b c
  pub newer : (n b : ℕ) (c : Command) → Voted y n b c → Voted x n b c ⊎ ((promise x ≤ b) × (count x < n))
  pub promised : promise x ≤ promise y
  pub settled : Begins x.journal.settled y.journal.settled

pub begins_count : {X : Type 0} (xs ys : List X) → Begins xs ys → length xs ≤ length ys
begins_count xs ys b =
    let e = ap length b.whole in
    let l = length-append xs b.rest in
    omega arith

pub begins_same : {X : Type 0} (xs : List X) → Begins xs xs
begins_same xs = record { rest = []; whole = sym (append-nil xs) }

pub begins_trans : {X : Type 0} (xs ys zs : List X) → Begins xs ys → Begins ys zs → Begins xs zs
begins_trans xs ys zs b c =
    record {
      rest = b.rest ++ c.rest;
      whole = c.whole ∙ ap (λ (l : List _). l ++ c.rest) b.whole ∙ append_assoc xs b.rest c.rest;
    }

pub grew_same : (x : Past) → Grew x x
grew_same x =
    record {
      votes = λ n b c v. v;
      newer = λ n b c v. inl v;
      promised = omega arith;
      settled = begins_same x.journal.settled;
    }

pub grew_trans : (x y z : Past) → Grew x y → Grew y z → Grew x z
grew_trans x y z g h =
    let p = g.promised in
    let q = h.promised in
    let l = begins_count x.journal.settled y.journal.settled g.settled in
    record {
      votes = λ n b c v. h.votes n b c (g.votes n b c v);
      newer = λ n b c v.
          ⊎_elim (g.newer n b c)
          (λ new. let s = new.0 in let t = new.1 in inr (omega arith, omega arith)) (h.newer n b c v);
      promised = omega arith;
      settled = begins_trans x.journal.settled y.journal.settled z.journal.settled g.settled
          h.settled;
    }

-- one write that is taken
abbrev pub plus_one : Past → Write → Past
plus_one x w = plus x (w ∷ [])

pub lawful_one : (x : Past) (w : Write) → Lawful x → taken w x.journal ≡ true → Lawful (plus_one x w)
unfolding wrote
lawful_one x w l t =
    record {
      capacity = l.capacity;
      leads =
          subst (λ (ws : List Write). Leads (fresh l.capacity) (x.history ++ ws) (step w x.journal))
          (ap (λ b. cond b (w ∷ []) []) t)
          (leads_more (fresh l.capacity) x.journal (step w x.journal) w x.history refl l.leads);
    }

-- the same, by what the write leaves
abbrev pub written : Past → Write → Past
written x w = record { history = x.history ++ (w ∷ []); journal = after w x.journal }

pub one_is : (x : Past) (w : Write) → taken w x.journal ≡ true → plus_one x w ≡ written x w
one_is x w t i = record { history = x.history ++ (w ∷ []); journal = step_taken w x.journal t i }

pub grew_by : (w : Write) (x : Past) → taken w x.journal ≡ true → Grew x (written x w)
unfolding taken after
grew_by (Promise b) x t =
    record {
      votes = λ n k c v. Contains-append_left x.history (Promise b ∷ []) (Put n k c) v;
      newer = λ n k c v. ⊎_elim (λ h. inl h) (λ e. absurd (cc))
          (Contains-push_cases x.history (Promise b) (Put n k c) v);
      promised = leb-true (promise x) b t;
      settled = begins_same x.journal.settled;
    }
grew_by (Put n b c) x t =
    let q = put_parts n b c x.journal t in
    record {
      votes = λ k e f v. Contains-append_left x.history (Put n b c ∷ []) (Put k e f) v;
      newer = λ k e f v.
          ⊎_elim (λ h. inl h)
          (λ s. let slot : n ≡ k = cc in let ballot : b ≡ e = cc in inr (omega (arith, q.ballot), omega (arith, q.low)))
          (Contains-push_cases x.history (Put n b c) (Put k e f) v);
      promised = omega arith;
      settled = begins_same x.journal.settled;
    }
grew_by (Settle c) x t =
    record {
      votes = λ n k f v. Contains-append_left x.history (Settle c ∷ []) (Put n k f) v;
      newer = λ n k f v. ⊎_elim (λ h. inl h) (λ e. absurd (cc))
          (Contains-push_cases x.history (Settle c) (Put n k f) v);
      promised = omega arith;
      settled = record { rest = c ∷ []; whole = refl };
    }

pub grew_one : (x : Past) (w : Write) → taken w x.journal ≡ true → Grew x (plus_one x w)
grew_one x w t = subst (Grew x) (sym (one_is x w t)) (grew_by w x t)

-- the members of the chain for slot n, by what is settled
abbrev pub chain : Membership → Past → ℕ → List ℕ
chain f x n = (chain_for f x.journal.settled n).members

-- a chain that can be told stays
pub chain_grew : (f : Membership) (x y : Past) (n : ℕ) → Grew x y → n ≤ count x + 8 → chain f y n ≡ chain f x n
chain_grew f x y n g l =
    let b = g.settled in
    ap (λ (cs : List Command). (after_all f cs).members)
    (ap (take (n - 8)) b.whole ∙ take-append-le (n - 8) x.journal.settled b.rest (omega arith))
