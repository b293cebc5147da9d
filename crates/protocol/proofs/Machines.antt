-- The machine's state follows the settled list.
use Rattle.std.proofs.Common.{◌≡◌, ℕ, leb, List, [], ◌∷◌, ◌++◌, Option, None, fold, sym, refl, ap, ◌∙◌, append_assoc, append-nil}
use Rattle.std.proofs.lemmas.List.Elements.{filter-append}
use Rattle.command.specs.declared.Command.{Command}
use Rattle.command.specs.Members.{Membership}
use Rattle.journal.specs.declared.writes.Write.{Write}
use Rattle.journal.specs.declared.writes.Write.TheVariants.{Promise, Put, Settle}
use Rattle.journal.specs.Meaning.{Meaning, after, replay}
use Rattle.journal.proofs.Histories.{step_taken}
use Rattle.machine.specs.Rules.{Rule, after as ranAfter}
use Rattle.machine.proofs.Runs.{after_append}
use Rattle.protocol.specs.Replies.{for_machine, Ran, ran_one, ran, settled_in}
use Rattle.protocol.proofs.Votes.{Past}
use Rattle.protocol.proofs.Growing.{plus_one}
use Rattle.protocol.proofs.Going.{Throughout}

folded_state : (rule : Rule) (now : Ran) (cs : List Command) → (fold (ran_one rule) now cs).0 ≡ ranAfter rule now.0 cs
folded_state rule now [] = refl
folded_state rule now (c ∷ cs) = folded_state rule (ran_one rule now c) cs

pub ran_state : (rule : Rule) (s : List ℕ) (a : Option ℕ) (cs : List Command)
    → (ran rule (s, a) cs).0 ≡ ranAfter rule s (for_machine cs)
unfolding ran
ran_state rule s a cs = folded_state rule (s, a) (for_machine cs)

-- a state that a list leads to, and more commands
pub ran_more : (rule : Rule) (start s : List ℕ) (cs es : List Command) → s ≡ ranAfter rule start (for_machine cs)
    → (ran rule (s, None) es).0 ≡ ranAfter rule start (for_machine (cs ++ es))
ran_more rule start s cs es is =
    ran_state rule s None es ∙ ap (λ (t : List ℕ). ranAfter rule t (for_machine es)) is
    ∙ sym (after_append rule start (for_machine cs) (for_machine es))
    ∙ ap (ranAfter rule start) (sym (filter-append (λ c. leb 16 c.verb) cs es))

-- what a write that is taken settles
settled_one : (w : Write) (m : Meaning) → (after w m).settled ≡ m.settled ++ settled_in (w ∷ [])
unfolding after
settled_one (Promise b) m = sym (append-nil m.settled)
settled_one (Put n b c) m = sym (append-nil m.settled)
settled_one (Settle c) m = refl

settled_cons : (w : Write) (ws : List Write) → settled_in (w ∷ ws) ≡ settled_in (w ∷ []) ++ settled_in ws
settled_cons (Promise b) ws = refl
settled_cons (Put n b c) ws = refl
settled_cons (Settle c) ws = refl

pub by_settled : (f : Membership) (S : Command → Type 0) (P : ℕ → Past) (d : ℕ) (ws : List Write) (x : Past)
    → Throughout f S P d x ws → (replay x.journal ws).settled ≡ x.journal.settled ++ settled_in ws
by_settled f S P d [] x t = sym (append-nil x.journal.settled)
by_settled f S P d (w ∷ ws) x t =
    by_settled f S P d ws (plus_one x w) t.2
    ∙ ap (λ (cs : List Command). cs ++ settled_in ws)
    (ap (λ (m : Meaning). m.settled) (step_taken w x.journal t.1) ∙ settled_one w x.journal)
    ∙ append_assoc x.journal.settled (settled_in (w ∷ [])) (settled_in ws)
    ∙ ap (λ (cs : List Command). x.journal.settled ++ cs) (sym (settled_cons w ws))
