-- Whether the next slot is backed, and what is settled there, as the code finds it.
use Rattle.std.proofs.Common.{◌≡◌, ℕ, ◌+◌, Bool, false, ◌&&◌, eqb, List, sym, ap, ◌∙◌, subst}
use Rattle.std.proofs.lemmas.Bool.{ne_eqb, eq-eqb}
use Rattle.command.specs.Members.{Membership}
use Rattle.command.specs.Quorums.{enough}
use Rattle.journal.specs.declared.writes.Entry.{Entry}
use Rattle.journal.specs.declared.writes.Write.{Write}
use Rattle.machine.specs.Rules.{Rule}
use Rattle.protocol.specs.declared.messages.Acknowledged.{Acknowledged}
use Rattle.protocol.specs.Desks.{Desk, settled_by, ack_of}
use Rattle.protocol.specs.Replies.{Ran}
use Rattle.protocol.specs.Rings.{chain_of, open_at}
use Rattle.protocol.specs.Settling.{backed, settle, settle_open}
use Rattle.steps.specs.Doing.{Did}

abbrev ack : Desk → ℕ → Acknowledged
ack d n = ack_of d.state n

-- n is the next slot, e is open there, and a is who acknowledged it
module _ (d : Desk) (n : ℕ) (e : Entry) (a : Acknowledged) (next : n ≡ settled_by d + 1) (entered : e ≡ open_at d n)
    (acked : a ≡ ack d n) where
  ballots : eqb e.ballot a.ballot ≡ eqb (open_at d (settled_by d + 1)).ballot (ack d (settled_by d + 1)).ballot
  ballots =
      (λ i. eqb (entered i).ballot (acked i).ballot)
      ∙ ap (λ (k : ℕ). eqb (open_at d k).ballot (ack d k).ballot) next

  pub backed_not : (e.ballot ≡ a.ballot → ⊥) → false ≡ backed d
  unfolding backed
  backed_not other =
      sym (ap (λ t. t && enough (chain_of d (settled_by d + 1)) (ack d (settled_by d + 1)).set.bits)
      (sym ballots ∙ ne_eqb e.ballot a.ballot other))

  pub backed_so : (chain : Membership) (t : Bool) → e.ballot ≡ a.ballot → chain.members ≡ chain_of d n
      → t ≡ enough chain.members a.set.bits → t ≡ backed d
  unfolding backed
  backed_so chain t same is answer =
      answer
      ∙ (λ i. enough (is i) (acked i).set.bits)
      ∙ ap (λ (k : ℕ). enough (chain_of d k) (ack d k).set.bits) next
      ∙ sym (ap (λ t. t && enough (chain_of d (settled_by d + 1)) (ack d (settled_by d + 1)).set.bits)
      (sym ballots ∙ eq-eqb e.ballot a.ballot same))

-- what is open in the next slot was settled
pub did_open : (rule : Rule) (d k : Desk) (e : Entry) (n : ℕ) (B C : List Write → Type 0) (u v : Ran)
    → n ≡ settled_by d → e ≡ open_at d (n + 1) → Did rule d (settle e.command d) k B C u v
    → Did rule d (settle_open d) k B C u v
unfolding settle_open
did_open rule d k e n B C u v count entered did =
    subst (λ (x : Entry). Did rule d (settle x.command d) k B C u v)
    (entered ∙ ap (λ (j : ℕ). open_at d (j + 1)) count) did
