-- What a table owes of a write.
use Rattle.std.proofs.Common.{◌≡◌, ℕ, ◌<◌, Bool, true, false, ◌++◌, sym, refl, ap, ◌∙◌, subst, arith}
use Rattle.std.proofs.lemmas.Bool.Decides.{nat_tests}
use Rattle.command.specs.declared.Command.{Command}
use Rattle.journal.proofs.Histories.{step_taken, step_untaken, leads_more}
use Rattle.journal.specs.Laws.{Leads}
use Rattle.journal.specs.Meaning.{Meaning, fresh, settled_count, taken, after, step, wrote, Writes}
use Rattle.journal.specs.declared.writes.Write.{Write}
use Rattle.journal.specs.declared.writes.Write.TheVariants.{Put, Settle}
use Rattle.table_journal.specs.Tables.{table_meaning, table_behind}
use Rattle.table_journal.specs.declared.tables.TableJournal.{TableJournal}

-- where a settle is taken, a slot is left
slot_left : (c : Command) (m : Meaning) → taken (Settle c) m ≡ true → settled_count m < m.capacity
unfolding taken
slot_left c m t = grind (arith, nat_tests)

pub settle_fits : (c : Command) (m : Meaning) (w : Write) (r : Bool) → r ≡ taken w m → r ≡ true → w ≡ Settle c
    → settled_count m < m.capacity
settle_fits c m w r t y e = slot_left c m (ap (λ x. taken x m) (sym e) ∙ sym t ∙ y)

-- a put past the capacity is not taken
pub past_put : (n b : ℕ) (c : Command) (m : Meaning) → m.capacity < n → taken (Put n b c) m ≡ false
unfolding taken
past_put n b c m h = grind (arith, nat_tests)

-- a write owes its answer and what a step leaves; then the lists that lead to the one lead to the other
stepped : (old new : TableJournal) (w : Write) (r : Bool) → r ≡ taken w (table_meaning old)
    → table_meaning new ≡ step w (table_meaning old) → new.capacity ≡ old.capacity
    → Writes table_meaning table_behind w old new r
stepped old new w r t s c =
    record {
      answer = t;
      after = s;
      behind = λ ws h.
          subst (λ n. Leads (fresh n) (ws ++ wrote w (table_meaning old)) (table_meaning new)) (sym c)
          (leads_more (fresh old.capacity) (table_meaning old) (table_meaning new) w ws s h);
    }

pub writes_taken : (old new : TableJournal) (w v : Write) (r : Bool) → r ≡ taken w (table_meaning old) → r ≡ true
    → w ≡ v → table_meaning new ≡ after v (table_meaning old) → new.capacity ≡ old.capacity
    → Writes table_meaning table_behind w old new r
writes_taken old new w v r t y e a c =
    let m = table_meaning old in
    stepped old new w r t (a ∙ ap (λ x. after x m) (sym e) ∙ sym (step_taken w m (sym t ∙ y))) c

pub writes_untaken : (old : TableJournal) (w : Write) (r : Bool) → r ≡ taken w (table_meaning old) → r ≡ false
    → Writes table_meaning table_behind w old old r
writes_untaken old w r t n = stepped old old w r t (sym (step_untaken w (table_meaning old) (sym t ∙ n))) refl
