-- What a write leaves, and how the list of the writes behind a journal grows.
use Rattle.std.proofs.Common.{◌≡◌, Bool, true, false, cond, List, [], ◌∷◌, ◌++◌, sym, refl, ap, ◌∙◌, append-nil}
use Rattle.std.proofs.lemmas.Bool.{and_parts, and_from}
use Rattle.journal.specs.Laws.{all_taken, Leads}
use Rattle.journal.specs.Meaning.{Meaning, taken, after, step, wrote, replay}
use Rattle.journal.specs.declared.writes.Write.{Write}

pub step_taken : (w : Write) (m : Meaning) → taken w m ≡ true → step w m ≡ after w m
unfolding step
step_taken w m t = ap (λ b. cond b (after w m) m) t

pub step_untaken : (w : Write) (m : Meaning) → taken w m ≡ false → step w m ≡ m
unfolding step
step_untaken w m t = ap (λ b. cond b (after w m) m) t

replay_more : (m : Meaning) (ws : List Write) (w : Write) → replay m (ws ++ (w ∷ [])) ≡ step w (replay m ws)
replay_more m [] w = refl
replay_more m (v ∷ ws) w = replay_more (step v m) ws w

taken_more : (m : Meaning) (ws : List Write) (w : Write) → all_taken m ws ≡ true → taken w (replay m ws) ≡ true
    → all_taken m (ws ++ (w ∷ [])) ≡ true
taken_more m [] w h t = and_from (taken w m) true t refl
taken_more m (v ∷ ws) w h t =
    let p = and_parts (taken v m) (all_taken (after v m) ws) h in
    let moved : taken w (replay (after v m) ws) ≡ true =
    ap (λ x. taken w (replay x ws)) (sym (step_taken v m p.0)) ∙ t in
    and_from (taken v m) (all_taken (after v m) (ws ++ (w ∷ []))) p.0 (taken_more (after v m) ws w p.1 moved)

-- a list that leads to m leads with the write, if it is taken, to what a step from m does
pub leads_more : (from m next : Meaning) (w : Write) (ws : List Write) → next ≡ step w m → Leads from ws m
    → Leads from (ws ++ wrote w m) next
unfolding wrote
leads_more from m next w ws s h = go (taken w m) refl
  where
    go : (b : Bool) → taken w m ≡ b → Leads from (ws ++ cond b (w ∷ []) []) next
    go true e =
        record {
          all = taken_more from ws w h.all (ap (taken w) h.end ∙ e);
          end = replay_more from ws w ∙ ap (step w) h.end ∙ sym s;
        }
    go false e =
        record {
          all = ap (all_taken from) (append-nil ws) ∙ h.all;
          end = ap (replay from) (append-nil ws) ∙ h.end ∙ sym (step_untaken w m e) ∙ sym s;
        }
