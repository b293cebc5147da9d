-- What a step keeps, and that one step after another keeps it.
use Rattle.std.proofs.Common.{◌≡◌, ℕ, zero, suc, Bool, true, false, cond, List, [], ◌∷◌, ◌++◌, take, sym, refl, ap, ◌∙◌, subst, append_assoc}
use Rattle.std.specs.List.{All}
use Rattle.std.proofs.lemmas.List.Elements.{All-nil, All-cons, All-append, All-weaker}
use Rattle.command.specs.declared.Command.{Command}
use Rattle.command.specs.Members.{Membership}
use Rattle.journal.specs.declared.writes.Write.{Write}
use Rattle.journal.specs.Meaning.{Meaning, taken, wrote, replay}
use Rattle.protocol.specs.declared.messages.Message.{Message}
use Rattle.protocol.specs.Desks.{Role, State, Desk, Outcome, Step, left, both, go_on, quiet, write, choose}
use Rattle.protocol.specs.Desks.{with_role, repeat, ◌▸◌}
use Rattle.protocol.proofs.Votes.{Past}
use Rattle.protocol.proofs.Growing.{Grew, grew_same, grew_trans, grew_one, plus, plus_one, plus_none, plus_append}
use Rattle.protocol.proofs.Growing.{replay_append}
use Rattle.protocol.proofs.Core.{Core}
use Rattle.protocol.proofs.Writing.{upd, Grows, upd_grows}
use Rattle.protocol.proofs.Knowing.{Fact, fact_grows, KnowsRole, Knows}

-- the desk of a director with this past and memory
abbrev pub desk : Past → State → Desk
desk x s = record { state = s; journal = x.journal }

-- steps can be grouped either way
pub steps_assoc : (first second third : Step) (d : Desk)
    → (first ▸ second ▸ third) d ≡ (first ▸ (second ▸ third)) d
unfolding go_on left both
steps_assoc first second third d =
    let o : Outcome = first d in
    let p : Outcome = second (left d o) in
    let q : Outcome = third (left (left d o) p) in
    ap (λ (m : Meaning). both (both o p) (third (record { state = p.state; journal = m })))
    (replay_append d.journal o.writes p.writes)
    ∙ (λ i.
    record {
      state = q.state;
      writes = append_assoc o.writes p.writes q.writes i;
      messages = append_assoc o.messages p.messages q.messages i;
    })

-- what a write that is taken and then a change of the memory come to
pub write_is : (x : Past) (s t : State) (w : Write) (next : Step) → taken w x.journal ≡ true
    → next (desk (plus_one x w) s) ≡ record { state = t; writes = []; messages = [] }
    → (write w ▸ next) (desk x s) ≡ record { state = t; writes = w ∷ []; messages = [] }
unfolding go_on left both write wrote
write_is x s t w next is_taken is =
    let m : Meaning = x.journal in
    let took : wrote w m ≡ w ∷ [] = ap (λ b. cond b (w ∷ []) []) is_taken in
    ap
    (λ (ws : List Write).
    both (record { state = s; writes = ws; messages = [] }) (next (record { state = s; journal = replay m ws })))
    took
    ∙ ap (both (record { state = s; writes = w ∷ []; messages = [] })) is

module _ (f : Membership) (S : Command → Type 0) (P : ℕ → Past) (d : ℕ) where
  -- each of the writes of director d is taken, and before, between and after them the core holds
  abbrev pub Throughout : Past → List Write → Type 0
  Throughout x [] = Core f S (upd P d x)
  Throughout x (w ∷ ws) = Core f S (upd P d x) × (taken w x.journal ≡ true) × Throughout (plus_one x w) ws

  through_start : (ws : List Write) (x : Past) → Throughout x ws → Core f S (upd P d x)
  through_start [] x t = t
  through_start (w ∷ ws) x t = t.0

  -- so it does with any first part of them
  pub through_cut : (k : ℕ) (ws : List Write) (x : Past) → Throughout x ws → Throughout x (take k ws)
  through_cut zero ws x t = through_start ws x t
  through_cut (suc k) [] x t = t
  through_cut (suc k) (w ∷ ws) x t = (t.0, t.1, through_cut k ws (plus_one x w) t.2)

  pub through_end : (ws : List Write) (x : Past) → Throughout x ws → Core f S (upd P d (plus x ws))
  through_end [] x t = subst (λ (y : Past). Core f S (upd P d y)) (sym (plus_none x)) t
  through_end (w ∷ ws) x t =
      subst (λ (y : Past). Core f S (upd P d y)) (sym (plus_append x (w ∷ []) ws)) (through_end ws (plus_one x w) t.2)

  pub through_grew : (ws : List Write) (x : Past) → Throughout x ws → Grew x (plus x ws)
  through_grew [] x t = subst (Grew x) (sym (plus_none x)) (grew_same x)
  through_grew (w ∷ ws) x t =
      subst (Grew x) (sym (plus_append x (w ∷ []) ws))
      (grew_trans x (plus_one x w) (plus (plus_one x w) ws) (grew_one x w t.1) (through_grew ws (plus_one x w) t.2))

  through_append : (ws vs : List Write) (x : Past) → Throughout x ws → Throughout (plus x ws) vs
      → Throughout x (ws ++ vs)
  through_append [] vs x t u = subst (λ (y : Past). Throughout y vs) (plus_none x) u
  through_append (w ∷ ws) vs x t u = (
    t.0,
    t.1,
    through_append ws vs (plus_one x w) t.2
        (subst (λ (y : Past). Throughout y vs) (plus_append x (w ∷ []) ws) u),
  )

  -- a director with this past and memory
  pub record Good (x : Past) (s : State) : Type 0 where
    pub core : Core f S (upd P d x)
    pub knows : Knows f S (upd P d x) d x s

  -- the same with another role that fits
  pub good_role : (x : Past) (s : State) (r : Role) → Good x s → KnowsRole S (upd P d x) d x r
      → Good x (with_role r s)
  good_role x s r g role =
      let k = g.knows in
      record {
        core = g.core;
        knows =
            record { number = k.number; founding = k.founding; eight = k.eight; acks = k.acks; role = role };
      }

  -- what it did kept the core, it knows what it should, and what it sent is true
  pub record Went (x : Past) (o : Outcome) : Type 0 where
    pub through : Throughout x o.writes
    pub knows : Knows f S (upd P d (plus x o.writes)) d (plus x o.writes) o.state
    pub facts : All (Fact (upd P d (plus x o.writes))) o.messages

  pub went_good : (x : Past) (o : Outcome) → Went x o → Good (plus x o.writes) o.state
  went_good x o w = record { core = through_end o.writes x w.through; knows = w.knows }

  -- where nothing is written
  pub went_still : (x : Past) (s : State) (ms : List Message) → Good x s → All (Fact (upd P d x)) ms
      → Went x (record { state = s; writes = []; messages = ms })
  went_still x s ms g fs =
      record {
        through = g.core;
        knows = subst (λ (y : Past). Knows f S (upd P d y) d y s) (sym (plus_none x)) g.knows;
        facts = subst (λ (y : Past). All (Fact (upd P d y)) ms) (sym (plus_none x)) fs;
      }

  -- nor sent
  pub went_silent : (x : Past) (s : State) → Good x s → Went x (record { state = s; writes = []; messages = [] })
  went_silent x s g = went_still x s [] g (All-nil (Fact (upd P d x)))

  -- where one message is all
  pub went_sent : (x : Past) (s : State) (m : Message) → Good x s → Fact (upd P d x) m
      → Went x (record { state = s; writes = []; messages = m ∷ [] })
  went_sent x s m g f =
      went_still x s (m ∷ []) g (All-cons (Fact (upd P d x)) m [] f (All-nil (Fact (upd P d x))))

  went_both : (x : Past) (o p : Outcome) → Went x o → Went (plus x o.writes) p → Went x (both o p)
  unfolding both
  went_both x o p u v =
      let y : Past = plus x o.writes in
      let z : Past = plus y p.writes in
      let grown : Grows (upd P d y) (upd P d z) =
      upd_grows P d y z (through_grew p.writes y v.through) in
      let same = sym (plus_append x o.writes p.writes) in
      record {
        through = through_append o.writes p.writes x u.through v.through;
        knows = subst (λ (y : Past). Knows f S (upd P d y) d y p.state) same v.knows;
        facts =
            subst (λ (y : Past). All (Fact (upd P d y)) (o.messages ++ p.messages)) same
            (All-append (Fact (upd P d z)) o.messages p.messages
            (All-weaker (Fact (upd P d y)) (Fact (upd P d z)) (fact_grows (upd P d y) (upd P d z) grown) o.messages
            u.facts)
            v.facts);
      }

  -- one step after another
  pub went_then : (x : Past) (s : State) (first next : Step) → Went x (first (desk x s))
      → (Good (plus x (first (desk x s)).writes) (first (desk x s)).state
      → Went (plus x (first (desk x s)).writes)
      (next (desk (plus x (first (desk x s)).writes) (first (desk x s)).state)))
      → Went x ((first ▸ next) (desk x s))
  unfolding go_on left
  went_then x s first next u v =
      let o : Outcome = first (desk x s) in
      went_both x o (next (desk (plus x o.writes) o.state)) u (v (went_good x o u))

  -- the same, where it is known what the first step did
  pub went_after : (x : Past) (s : State) (first next : Step) (o : Outcome) → first (desk x s) ≡ o → Went x o
      → (Good (plus x o.writes) o.state → Went (plus x o.writes) (next (desk (plus x o.writes) o.state)))
      → Went x ((first ▸ next) (desk x s))
  unfolding go_on left
  went_after x s first next o is u v =
      subst (λ (p : Outcome). Went x (go_on (desk x s) p next)) (sym is)
      (went_both x o (next (desk (plus x o.writes) o.state)) u (v (went_good x o u)))

  -- one write that is taken, and a change of the memory
  pub went_one : (x : Past) (t : State) (w : Write) → taken w x.journal ≡ true → Core f S (upd P d x)
      → Good (plus_one x w) t → Went x (record { state = t; writes = w ∷ []; messages = [] })
  went_one x t w is_taken before g =
      record { through = (before, is_taken, g.core); knows = g.knows; facts = All-nil (Fact (upd P d (plus_one x w))) }

  -- a step that is chosen by a test
  pub went_choose : (x : Past) (s : State) (test : Desk → Bool) (one other : Step)
      → (test (desk x s) ≡ true → Went x (one (desk x s))) → (test (desk x s) ≡ false → Went x (other (desk x s)))
      → Went x (choose test one other (desk x s))
  went_choose x s test one other u v = go (test (desk x s)) refl
    where
      go : (t : Bool) → test (desk x s) ≡ t → Went x (cond t one other (desk x s))
      go true e = u e
      go false e = v e

  pub went_quiet : (x : Past) (s : State) → Good x s → Went x (quiet (desk x s))
  unfolding quiet
  went_quiet = went_silent

  -- a step that is repeated while a test holds, where something holds of each past that grew from the first
  pub went_repeat : (test : Desk → Bool) (turn : Step) (Q : Past → Type 0) → ((x y : Past) → Grew x y → Q x → Q y)
      → ((x : Past) (s : State) → Good x s → Q x → test (desk x s) ≡ true → Went x (turn (desk x s)))
      → (k : ℕ) (x : Past) (s : State) → Good x s → Q x → Went x (repeat test turn k (desk x s))
  unfolding repeat
  went_repeat test turn Q stable kept zero x s g q = went_quiet x s g
  went_repeat test turn Q stable kept (suc k) x s g q =
      went_choose x s test (turn ▸ repeat test turn k) quiet
      (λ e.
      let u : Went x (turn (desk x s)) = kept x s g q e in
      let ws : List Write = (turn (desk x s)).writes in
      went_then x s turn (repeat test turn k) u
      (λ h.
      went_repeat test turn Q stable kept k (plus x ws) (turn (desk x s)).state h
      (stable x (plus x ws) (through_grew ws x u.through) q)))
      (λ e. went_quiet x s g)
