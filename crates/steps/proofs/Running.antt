-- What a machine runs, command by command.
use Rattle.std.proofs.Common.{◌≡◌, ℕ, Bool, true, false, cond, leb, List, [], ◌∷◌, ◌++◌, Option, Some, None, Result, Ok, Err, fold, sym, refl, ap, ◌∙◌, arith}
use Rattle.std.specs.Result.{result_eq}
use Rattle.std.proofs.lemmas.List.Elements.{filter-append}
use Rattle.std.proofs.lemmas.List.Sums.{fold-append}
use Rattle.std.proofs.lemmas.Bool.Decides.{nat_tests}
use Rattle.command.specs.declared.Command.{Command}
use Rattle.command.specs.declared.verbs.Verb.{Verb}
use Rattle.command.specs.declared.verbs.Verb.TheVariants.{Noop, Add, Remove, Change}
use Rattle.command.specs.declared.verbs.UnknownVerb.{UnknownVerb}
use Rattle.command.specs.Commands.{verb_of}
use Rattle.command.specs.Verbs.{TellsVerb}
use Rattle.journal.specs.declared.writes.Write.{Write}
use Rattle.journal.specs.declared.writes.Write.TheVariants.{Promise, Put, Settle}
use Rattle.machine.specs.Rules.{Rule}
use Rattle.protocol.specs.Replies.{for_machine, ran, settled_in, Ran, ran_one}

abbrev is_change : Option Verb → Bool
is_change None = false
is_change (Some Noop) = false
is_change (Some Add) = false
is_change (Some Remove) = false
is_change (Some Change) = true

-- a command is for the machine where its verb stands for a change
change_from_16 : (n : ℕ) → leb 16 n ≡ is_change (verb_of n)
change_from_16 n = grind (arith, nat_tests)

-- what a verb tells is a change where the number is 16 or more
pub change_told : (E : Verb → Verb → Bool) (F : UnknownVerb → UnknownVerb → Bool)
    → ((v : Verb) → E v Change ≡ is_change (Some v)) → (n : ℕ) (r : Result Verb UnknownVerb) → TellsVerb n r
    → leb 16 n ≡ result_eq E F r (Ok Change)
change_told E F same n (Ok v) tells = change_from_16 n ∙ ap is_change tells ∙ sym (same v)
change_told E F same n (Err e) tells = change_from_16 n ∙ ap is_change tells.1

-- what a command does that is for the machine, and that is not
module _ (rule : Rule) (now : Ran) (c : Command) where
  pub ran_own : (next : Ran) → leb 16 c.verb ≡ true → next.0 ≡ (rule now.0 c).0 → next.1 ≡ Some (rule now.0 c).1
      → next ≡ ran rule now (c ∷ [])
  unfolding ran
  ran_own next h e f =
      (λ i. (e i, f i))
      ∙ ap (λ t. fold (ran_one rule) now (cond t (c ∷ []) [])) (sym h)

  pub ran_other : leb 16 c.verb ≡ false → now ≡ ran rule now (c ∷ [])
  unfolding ran
  ran_other h = ap (λ t. fold (ran_one rule) now (cond t (c ∷ []) [])) (sym h)

pub ran_append : (rule : Rule) (now : Ran) (cs es : List Command)
    → ran rule now (cs ++ es) ≡ ran rule (ran rule now cs) es
unfolding ran
ran_append rule now cs es =
    ap (fold (ran_one rule) now) (filter-append (λ c. leb 16 c.verb) cs es)
    ∙ fold-append (ran_one rule) now (for_machine cs) (for_machine es)

pub settled_append : (ws vs : List Write) → settled_in (ws ++ vs) ≡ settled_in ws ++ settled_in vs
settled_append [] vs = refl
settled_append (Promise b ∷ ws) vs = settled_append ws vs
settled_append (Put n b c ∷ ws) vs = settled_append ws vs
settled_append (Settle c ∷ ws) vs = ap (λ (cs : List Command). c ∷ cs) (settled_append ws vs)
