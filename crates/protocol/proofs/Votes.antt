-- What the history of one journal tells: the votes that it put, and how its open entries follow from them.
use Rattle.std.proofs.Common.{◌≡◌, ℕ, zero, suc, ◌+◌, ◌<◌, ◌≤◌, Bool, true, false, cond, eqb, ltb, leb, ◌⊎◌, List, [], ◌∷◌, length, get_or, sym, refl, ap, ◌∙◌, subst, inl, inr, ⊎_elim, arith, length-set}
use Rattle.std.specs.List.{Contains}
use Rattle.std.proofs.lemmas.Bool.{and_parts, cases_eq, cond-true, eq-eqb, eqb-true, ltb-true, and_from, lt-ltb, le-leb}
use Rattle.command.specs.declared.Command.{Command}
use Rattle.command.specs.Commands.{well_formed}
use Rattle.journal.specs.declared.writes.Entry.{Entry}
use Rattle.journal.specs.declared.writes.Write.{Write}
use Rattle.journal.specs.declared.writes.Write.TheVariants.{Promise, Put, Settle}
use Rattle.journal.specs.Windows.{in_window, element_at, place_of}
use Rattle.journal.specs.Meaning.{Meaning, settled_count, fresh, blank, open_of, taken, after, step, replay}
use Rattle.journal.specs.Laws.{all_taken, Leads, newest, highest}
use Rattle.journal.proofs.Histories.{step_taken}
use Rattle.journal.proofs.Newest.{put_parts, put_fits, open_newest}
use Rattle.journal.proofs.Ballots.{newest_highest}
use Rattle.journal.proofs.Grows.{leads}

-- a journal, with all writes that it took, the oldest first
pub record Past : Type 0 where
  pub history : List Write
  pub journal : Meaning

-- it put command c into slot n with ballot b
abbrev pub Voted : Past → ℕ → ℕ → Command → Type 0
Voted x n b c = Contains x.history (Put n b c)

abbrev pub VotedAt : Past → ℕ → ℕ → Type 0
VotedAt x n b = (c : Command) × Voted x n b c

abbrev pub promise : Past → ℕ
promise x = x.journal.promised

abbrev pub count : Past → ℕ
count x = settled_count x.journal

-- the writes were all taken, from a new journal on
pub record Lawful (x : Past) : Type 0 where
  pub capacity : ℕ
  pub leads : Leads (fresh capacity) x.history x.journal

-- what a vote tells of the journal
pub record Bounds (m : Meaning) (n b : ℕ) (c : Command) : Type 0 where
  pub some : 1 ≤ b
  pub promised : b ≤ m.promised
  pub first : 1 ≤ n
  pub near : n ≤ settled_count m + 8
  pub fits : n ≤ m.capacity
  pub formed : well_formed c ≡ true

-- in a list is its first or what is in the rest
pub has_cons : {X : Type 0} (x : X) (xs : List X) (y : X) → Contains (x ∷ xs) y → (x ≡ y) ⊎ Contains xs y
has_cons {X} x xs y h = go h.0 h.1 h.2
  where
    go : (k : ℕ) → k < length (x ∷ xs) → get_or (x ∷ xs) k y ≡ y → (x ≡ y) ⊎ Contains xs y
    go zero l a = inl a
    go (suc k) l a = inr (k, omega arith, a)

pub has_first : {X : Type 0} (x : X) (xs : List X) → Contains (x ∷ xs) x
has_first x xs = (0, omega arith, refl)

pub has_rest : {X : Type 0} (x : X) (xs : List X) (y : X) → Contains xs y → Contains (x ∷ xs) y
has_rest x xs y h = (suc h.0, let l = h.1 in omega arith, h.2)

pub has_none : {X : Type 0} (y : X) → Contains {X = X} [] y → ⊥
has_none y h = let l = h.1 in omega arith

same_capacity : (w : Write) (m : Meaning) → (after w m).capacity ≡ m.capacity
unfolding after
same_capacity (Promise b) m = refl
same_capacity (Put n b c) m = refl
same_capacity (Settle c) m = refl

step_capacity : (w : Write) (m : Meaning) → (step w m).capacity ≡ m.capacity
unfolding step
step_capacity w m =
    elim (taken w m) as (λ t. (cond t (after w m) m).capacity ≡ m.capacity) [ true ↦ same_capacity w m | false ↦ refl ]

pub replay_capacity : (ws : List Write) (m : Meaning) → (replay m ws).capacity ≡ m.capacity
replay_capacity [] m = refl
replay_capacity (w ∷ ws) m = replay_capacity ws (step w m) ∙ step_capacity w m

step_eight : (w : Write) (m : Meaning) → length (step w m).places ≡ length m.places
unfolding step after
step_eight w m =
    elim (taken w m) as (λ t. length (cond t (after w m) m).places ≡ length m.places)
    [ true ↦ written w m | false ↦ refl ]
  where
    written : (w : Write) (m : Meaning) → length (after w m).places ≡ length m.places
    written (Promise b) m = refl
    written (Put n b c) m = length-set m.places (place_of n) (record { ballot = b; command = c })
    written (Settle c) m = length-set m.places (place_of (settled_count m + 1)) blank

replay_eight : (ws : List Write) (m : Meaning) → length (replay m ws).places ≡ length m.places
replay_eight [] m = refl
replay_eight (w ∷ ws) m = replay_eight ws (step w m) ∙ step_eight w m

bounds_head : (n b : ℕ) (c : Command) (ws : List Write) (m : Meaning) → taken (Put n b c) m ≡ true
    → Bounds (replay (after (Put n b c) m) ws) n b c
unfolding after
bounds_head n b c ws m t =
    let q = put_parts n b c m t in
    let f = put_fits n b c m t in
    let g = leads ws (after (Put n b c) m) in
    let k = replay_capacity ws (after (Put n b c) m) in
    let r : m.promised ≤ (replay (after (Put n b c) m) ws).promised = g.promised in
    let s : settled_count m ≤ settled_count (replay (after (Put n b c) m) ws) = g.count in
    record {
      some = q.some;
      promised = omega (arith, q.ballot);
      first = omega (arith, q.low);
      near = omega (arith, q.high);
      fits = omega (arith, f.fits);
      formed = f.formed;
    }

bounds_in : (ws : List Write) (m : Meaning) (n b : ℕ) (c : Command) → all_taken m ws ≡ true → Contains ws (Put n b c)
    → Bounds (replay m ws) n b c
bounds_in [] m n b c t h = absurd (has_none (Put n b c) h)
bounds_in (w ∷ ws) m n b c t h =
    let p = and_parts (taken w m) (all_taken (after w m) ws) t in
    let s = step_taken w m p.0 in
    elim (has_cons w ws (Put n b c) h) [
      | inl e ↦
          let here = bounds_head n b c ws m (ap (λ (v : Write). taken v m) (sym e) ∙ p.0) in
          subst (λ (x : Meaning). Bounds (replay x ws) n b c)
          (ap (λ (v : Write). after v m) (sym e) ∙ sym s) here
      | inr r ↦
          subst (λ (x : Meaning). Bounds (replay x ws) n b c) (sym s) (bounds_in ws (after w m) n b c p.1 r)
    ]

-- a vote's ballot is at most the highest of its slot
below_highest : (ws : List Write) (n b : ℕ) (c : Command) → Contains ws (Put n b c) → b ≤ highest n ws
below_highest [] n b c h = absurd (has_none (Put n b c) h)
below_highest (Promise d ∷ ws) n b c h =
    elim (has_cons (Promise d) ws (Put n b c) h)
    [ inl e ↦ absurd (cc) | inr r ↦ below_highest ws n b c r ]
below_highest (Put k d f ∷ ws) n b c h =
    elim (has_cons (Put k d f) ws (Put n b c) h) [
      | inl e ↦
          let same : k ≡ n = cc in
          let high : d ≡ b = cc in
          let top = cond-true (eqb k n) d 0 (eq-eqb k n same) in
          omega arith
      | inr r ↦ let l = below_highest ws n b c r in omega arith
    ]
below_highest (Settle f ∷ ws) n b c h =
    elim (has_cons (Settle f) ws (Put n b c) h)
    [ inl e ↦ absurd (cc) | inr r ↦ below_highest ws n b c r ]

-- the newest entry is the first one, or was put
newest_put : (ws : List Write) (n : ℕ) (e : Entry)
    → (newest n e ws ≡ e) ⊎ Contains ws (Put n (newest n e ws).ballot (newest n e ws).command)
newest_put [] n e = inl refl
newest_put (Promise b ∷ ws) n e =
    ⊎_elim (λ s. inl s) (λ h. inr (has_rest (Promise b) ws (Put n (newest n e ws).ballot (newest n e ws).command) h))
    (newest_put ws n e)
newest_put (Put k b c ∷ ws) n e =
    let x : Entry = cond (eqb k n) (record { ballot = b; command = c }) e in
    let z : Entry = newest n x ws in
    ⊎_elim (λ s. first (eqb k n) refl s) (λ h. inr (has_rest (Put k b c) ws (Put n z.ballot z.command) h))
    (newest_put ws n x)
  where
    first : (t : Bool) → eqb k n ≡ t
        → newest n (cond t (record { ballot = b; command = c }) e) ws ≡ cond t (record { ballot = b; command = c }) e
        → (newest n (cond t (record { ballot = b; command = c }) e) ws ≡ e)
        ⊎ Contains (Put k b c ∷ ws)
        (Put n (newest n (cond t (record { ballot = b; command = c }) e) ws).ballot
        (newest n (cond t (record { ballot = b; command = c }) e) ws).command)
    first true t s =
        let k-is = eqb-true k n t in
        let z = sym s in
        inr (subst (λ (v : Write). Contains (Put k b c ∷ ws) v) (λ i. Put (k-is i) (z i).ballot (z i).command)
        (has_first (Put k b c) ws))
    first false t s = inl s
newest_put (Settle c ∷ ws) n e =
    ⊎_elim (λ s. inl s) (λ h. inr (has_rest (Settle c) ws (Put n (newest n e ws).ballot (newest n e ws).command) h))
    (newest_put ws n e)

-- a journal that has an entry for a slot has not settled it
pub open_past : (m : Meaning) (n : ℕ) → 1 ≤ (open_of m n).ballot → settled_count m < n
open_past m n h = go (in_window (settled_count m) n) refl h
  where
    go : (t : Bool) → in_window (settled_count m) n ≡ t → 1 ≤ (cond t (element_at blank m.places n) blank).ballot
        → settled_count m < n
    go true e l =
        ltb-true (settled_count m) n (and_parts (ltb (settled_count m) n) (leb n (settled_count m + 8)) e).0
    go false e l = absurd (omega arith)

-- one more write that is no such vote
other : (w : Write) (ws : List Write) (n b : ℕ) → ((c : Command) → w ≡ Put n b c → ⊥)
    → ((c : Command) × Contains ws (Put n b c)) ⊎ ((c : Command) → Contains ws (Put n b c) → ⊥)
    → ((c : Command) × Contains (w ∷ ws) (Put n b c)) ⊎ ((c : Command) → Contains (w ∷ ws) (Put n b c) → ⊥)
other w ws n b ne (inl v) = inl (v.0, has_rest w ws (Put n b v.0) v.1)
other w ws n b ne (inr v) = inr (λ c h. ⊎_elim (ne c) (v c) (has_cons w ws (Put n b c) h))

-- the entry of a slot in the window
pub open_near : (m : Meaning) (n : ℕ) → settled_count m < n → n ≤ settled_count m + 8
    → open_of m n ≡ element_at blank m.places n
open_near m n above near =
    cond-true (in_window (settled_count m) n) (element_at blank m.places n) blank
    (and_from (ltb (settled_count m) n) (leb n (settled_count m + 8)) (lt-ltb (settled_count m) n above)
    (le-leb n (settled_count m + 8) near))

module _ (x : Past) (lawful : Lawful x) where
  -- a journal has eight places
  pub lawful_eight : length x.journal.places ≡ 8
  lawful_eight = rw lawful.leads.end at (replay_eight x.history (fresh lawful.capacity))

  pub vote_bounds : (n b : ℕ) (c : Command) → Voted x n b c → Bounds x.journal n b c
  vote_bounds n b c v =
      rw lawful.leads.end at (bounds_in x.history (fresh lawful.capacity) n b c lawful.leads.all v)

  open_is : (n : ℕ) → count x < n → open_of x.journal n ≡ newest n blank x.history
  open_is n l =
      rw lawful.leads.end at (open_newest lawful.capacity x.history n lawful.leads.all)
      l

  -- the open entry of a slot that is not settled has the highest ballot of its votes
  pub vote_top : (n b : ℕ) (c : Command) → count x < n → Voted x n b c → b ≤ (open_of x.journal n).ballot
  vote_top n b c l v =
      let e = ap (λ (y : Entry). y.ballot) (open_is n l) in
      let h = newest_highest lawful.capacity x.history n lawful.leads.all in
      let k = below_highest x.history n b c v in
      omega arith

  -- and is a vote, unless it is blank
  pub open_vote : (n : ℕ) → 1 ≤ (open_of x.journal n).ballot
      → Voted x n (open_of x.journal n).ballot (open_of x.journal n).command
  open_vote n h =
      let e = open_is n (open_past x.journal n h) in
      elim (newest_put x.history n blank) [
        | inl s ↦ let zero_is = ap (λ (y : Entry). y.ballot) (e ∙ s) in absurd (omega arith)
        | inr v ↦ subst (λ (y : Entry). Voted x n y.ballot y.command) (sym e) v
      ]

-- whether something was put into a slot with a ballot can be told
pub voted_at : (ws : List Write) (n b : ℕ)
    → ((c : Command) × Contains ws (Put n b c)) ⊎ ((c : Command) → Contains ws (Put n b c) → ⊥)
voted_at [] n b = inr (λ c h. has_none (Put n b c) h)
voted_at (Promise d ∷ ws) n b = other (Promise d) ws n b (λ c e. absurd (cc))
    (voted_at ws n b)
voted_at (Put k d f ∷ ws) n b =
    elim (cases_eq k n) [
      | inl e ↦
          elim (cases_eq d b) [
            | inl g ↦
                inl (
                  f,
                  subst (λ (v : Write). Contains (Put k d f ∷ ws) v) (λ i. Put (e i) (g i) f)
                      (has_first (Put k d f) ws),
                )
            | inr g ↦ other (Put k d f) ws n b (λ c h. g (cc)) (voted_at ws n b)
          ]
      | inr e ↦ other (Put k d f) ws n b (λ c h. e (cc)) (voted_at ws n b)
    ]
voted_at (Settle f ∷ ws) n b = other (Settle f) ws n b (λ c e. absurd (cc))
    (voted_at ws n b)
