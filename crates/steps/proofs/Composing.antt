-- One step after another, by what they leave.
use Rattle.std.proofs.Common.{◌≡◌, ℕ, ◌+◌, ◌<◌, Bool, true, false, cond, ltb, List, [], ◌∷◌, ◌++◌, sym, refl, ap, ◌∙◌, subst, append_assoc, append-nil}
use Rattle.std.proofs.lemmas.Bool.{and_parts, ltb-true}
use Rattle.command.specs.declared.Command.{Command}
use Rattle.command.specs.Commands.{well_formed}
use Rattle.journal.specs.declared.writes.Write.{Write}
use Rattle.journal.specs.declared.writes.Write.TheVariants.{Settle}
use Rattle.journal.specs.Meaning.{Meaning, settled_count, taken, after, step, wrote, replay}
use Rattle.journal.proofs.Histories.{step_taken}
use Rattle.machine.specs.Rules.{Rule}
use Rattle.protocol.specs.declared.messages.Message.{Message}
use Rattle.protocol.specs.Desks.{State, Desk, Outcome, Step, left, both, go_on, write, become, forget, ◌▸◌}
use Rattle.protocol.specs.Replies.{ran, settled_in, Ran}
use Rattle.protocol.specs.Settling.{settle}
use Rattle.protocol.proofs.Growing.{replay_append}
use Rattle.steps.specs.Doing.{Did}
use Rattle.steps.proofs.Running.{ran_append, settled_append}

-- what a write leaves
wrote_step : (w : Write) (m : Meaning) → replay m (wrote w m) ≡ step w m
unfolding wrote step
wrote_step w m = go (taken w m) refl
  where
    go : (t : Bool) → taken w m ≡ t → replay m (cond t (w ∷ []) []) ≡ cond t (after w m) m
    go true e = step_taken w m e
    go false e = refl

wrote_taken : (w : Write) (m : Meaning) → taken w m ≡ true → wrote w m ≡ w ∷ []
unfolding wrote
wrote_taken w m e = ap (λ b. cond b (w ∷ []) []) e

wrote_untaken : (w : Write) (m : Meaning) → taken w m ≡ false → wrote w m ≡ []
unfolding wrote
wrote_untaken w m e = ap (λ b. cond b (w ∷ []) []) e

-- One step after another.

module _ (rule : Rule) (d e k : Desk) (o p : Outcome) (B C D : List Write → Type 0) (u v w : Ran) where
  pub did_both : Did rule d o e B C u v → Did rule e p k C D v w → Did rule d (both o p) k B D u w
  unfolding both left
  did_both first second =
      record {
        desk =
            second.desk
            ∙ (λ i. record { state = p.state; journal = replay (first.desk i).journal p.writes })
            ∙ (λ i. record { state = p.state; journal = sym (replay_append d.journal o.writes p.writes) i });
        history = λ ws b.
            subst D (append_assoc ws o.writes p.writes) (second.history (ws ++ o.writes) (first.history ws b));
        machine =
            second.machine
            ∙ ap (λ (x : Ran). ran rule x (settled_in p.writes)) first.machine
            ∙ sym (ran_append rule u (settled_in o.writes) (settled_in p.writes))
            ∙ ap (ran rule u) (sym (settled_append o.writes p.writes));
      }

-- a step, then the next one at the desk that the first left
pub did_then : (rule : Rule) (d e k : Desk) (first next : Step) (B C D : List Write → Type 0) (u v w : Ran)
    → Did rule d (first d) e B C u v → Did rule e (next e) k C D v w → Did rule d ((first ▸ next) d) k B D u w
unfolding go_on
did_then rule d e k first next B C D u v w one two =
    did_both rule d (left d (first d)) k (first d) (next (left d (first d))) B C D u v w
    (record { desk = refl; history = one.history; machine = one.machine })
    (subst (λ (x : Desk). Did rule x (next x) k C D v w) one.desk two)

-- a step that writes nothing
pub did_still : (rule : Rule) (d : Desk) (s : State) (ms : List Message) (B : List Write → Type 0) (u : Ran)
    → Did rule d (record { state = s; writes = []; messages = ms }) (record { state = s; journal = d.journal }) B B u u
unfolding left ran
did_still rule d s ms B u =
    record { desk = refl; history = λ ws b. subst B (sym (append-nil ws)) b; machine = refl }

-- settling a command in the slot after k, from m and s to n and t
module _ (rule : Rule) (m n : Meaning) (s t : State) (c : Command) (k : ℕ) (B C : List Write → Type 0)
    (count : k ≡ settled_count m) (journal : n ≡ step (Settle c) m)
    (history : (ws : List Write) → B ws → C (ws ++ wrote (Settle c) m)) (state : t ≡ forget (k + 1) s) where
  settled : (u v : Ran) (ws : List Write) → wrote (Settle c) m ≡ ws → v ≡ ran rule u (settled_in ws)
      → Did rule (record { state = s; journal = m }) (settle c (record { state = s; journal = m }))
      (record { state = t; journal = n }) B C u v
  unfolding settle go_on left both write become
  settled u v ws is machine =
      let all = append-nil (wrote (Settle c) m) in
      let next = state ∙ ap (λ (j : ℕ). forget (j + 1) s) count in
      let after = journal ∙ sym (wrote_step (Settle c) m) ∙ ap (replay m) (sym all) in
      record {
        desk = λ i. record { state = next i; journal = after i };
        history = λ vs b. subst (λ (l : List Write). C (vs ++ l)) (sym all) (history vs b);
        machine = machine ∙ ap (λ (l : List Write). ran rule u (settled_in l)) (sym is ∙ sym all);
      }

  -- where the settle was taken
  pub settle_taken : (u v : Ran) → taken (Settle c) m ≡ true → v ≡ ran rule u (c ∷ [])
      → Did rule (record { state = s; journal = m }) (settle c (record { state = s; journal = m }))
      (record { state = t; journal = n }) B C u v
  settle_taken u v is = settled u v (Settle c ∷ []) (wrote_taken (Settle c) m is)

  -- and where it was not
  pub settle_untaken : (u : Ran) → taken (Settle c) m ≡ false
      → Did rule (record { state = s; journal = m }) (settle c (record { state = s; journal = m }))
      (record { state = t; journal = n }) B C u u
  unfolding ran
  settle_untaken u is = settled u u [] (wrote_untaken (Settle c) m is) refl

-- a settle that is taken has a slot
pub settle_low : (m : Meaning) (c : Command) → taken (Settle c) m ≡ true → settled_count m < m.capacity
unfolding taken
settle_low m c t =
    ltb-true (settled_count m) m.capacity (and_parts (ltb (settled_count m) m.capacity) (well_formed c) t).0
