-- The chains of the window, one settled command on.
use Rattle.std.proofs.Common.{◌≡◌, ℕ, ◌+◌, ◌-◌, ◌≤◌, true, false, List, [], ◌∷◌, ◌++◌, length, sym, refl, ap, ◌∙◌, subst, inl, inr, arith}
use Rattle.std.proofs.lemmas.List.{length-append, take-append-le, take_all}
use Rattle.std.proofs.lemmas.Bool.{cases_lt}
use Rattle.command.specs.declared.Command.{Command}
use Rattle.command.specs.Chains.{after, after_all, chain_for}
use Rattle.command.specs.Members.{Membership}
use Rattle.journal.specs.Windows.{put_at}
use Rattle.journal.specs.declared.writes.Write.TheVariants.{Settle}
use Rattle.journal.specs.Meaning.{Meaning, taken, step, after as written}
use Rattle.journal.proofs.Histories.{step_taken, step_untaken}
use Rattle.protocol.proofs.Places.{placed_other, placed_next}
use Rattle.steps.specs.declared.chains.Chains.{Chains}
use Rattle.steps.specs.Chains.{Tells, Told}

after_push : (f : Membership) (cs : List Command) (c : Command)
    → after_all f (cs ++ (c ∷ [])) ≡ after (after_all f cs) c
after_push f [] c = refl
after_push f (e ∷ cs) c = after_push (after f e) cs c

-- a slot that could be told before has the same chain
same_chain : (f : Membership) (cs : List Command) (c : Command) (n : ℕ) → n ≤ length cs + 8
    → chain_for f cs n ≡ chain_for f (cs ++ (c ∷ [])) n
same_chain f cs c n h = ap (after_all f) (sym (take-append-le (n - 8) cs (c ∷ []) (omega arith)))

-- the slot that comes into range has the chain after all commands
new_chain : (f : Membership) (cs : List Command) (c : Command) (n : ℕ) → n ≡ length cs + 9
    → after (after_all f cs) c ≡ chain_for f (cs ++ (c ∷ [])) n
new_chain f cs c n h =
    let l = length-append cs (c ∷ []) in
    sym (ap (after_all f) (take_all (n - 8) (cs ++ (c ∷ [])) (omega arith)) ∙ after_push f cs c)

-- where ps are the places with the chain of the slot that comes into range
pub tells_more : (f : Membership) (cs : List Command) (c : Command) (places ps : List Membership) (p : ℕ)
    (last next : Membership) → length places ≡ 8 → Tells f cs (record { places = places; settled = p })
    → Told (record { places = places; settled = p }) (p + 8) last → next ≡ after last c
    → ps ≡ put_at places (p + 1) next → Tells f (cs ++ (c ∷ [])) (record { places = ps; settled = p + 1 })
tells_more f cs c places ps p last next eight tells told is put =
    let count = tells.count in
    let l = length-append cs (c ∷ []) in
    let before : last ≡ after_all f cs =
    told f cs tells (omega arith) (omega arith)
    ∙ ap (after_all f) (take_all (p + 8 - 8) cs (omega arith)) in
    subst (λ (qs : List Membership). Tells f (cs ++ (c ∷ [])) (record { places = qs; settled = p + 1 })) (sym put)
    (record {
      count = omega arith;
      each = λ n other above near.
          elim (cases_lt n (length cs + 9)) [
            | inl inside ↦
                placed_other other next places (length cs) n (p + 1) (omega arith) (omega arith) (omega arith)
                (omega arith) (λ e. omega arith)
                ∙ tells.each n other (omega arith) (omega arith) ∙ same_chain f cs c n (omega arith)
            | inr past ↦
                placed_next other next places n (p + 1) eight (omega arith)
                ∙ is ∙ ap (λ (m : Membership). after m c) before ∙ new_chain f cs c n (omega arith)
          ];
    })

settled_taken : (m : Meaning) (c : Command) → taken (Settle c) m ≡ true
    → (step (Settle c) m).settled ≡ m.settled ++ (c ∷ [])
unfolding written
settled_taken m c t = ap (λ (k : Meaning). k.settled) (step_taken (Settle c) m t)

-- the chains after a settle, where it was taken and where it was not
pub tells_taken : (f g : Membership) (m n : Meaning) (c : Command) (chains : Chains) → g ≡ f → n ≡ step (Settle c) m
    → taken (Settle c) m ≡ true → Tells f (m.settled ++ (c ∷ [])) chains → Tells g n.settled chains
tells_taken f g m n c chains same is t tells =
    subst (λ (x : Membership). Tells x n.settled chains) (sym same)
    (subst (λ (cs : List Command). Tells f cs chains)
    (sym (ap (λ (k : Meaning). k.settled) is ∙ settled_taken m c t)) tells)

pub tells_untaken : (f g : Membership) (m n : Meaning) (c : Command) (chains : Chains) → g ≡ f → n ≡ step (Settle c) m
    → taken (Settle c) m ≡ false → Tells f m.settled chains → Tells g n.settled chains
tells_untaken f g m n c chains same is t tells =
    subst (λ (x : Membership). Tells x n.settled chains) (sym same)
    (subst (λ (cs : List Command). Tells f cs chains)
    (sym (ap (λ (k : Meaning). k.settled) (is ∙ step_untaken (Settle c) m t))) tells)
