-- The writer's calls, whole.
use Rattle.std.proofs.Common.{◌≡◌, ℕ, ◌+◌, ◌<◌, true, false, List, length, Some, None, Ok, Err, sym, refl, ap, ◌∙◌}
use Rattle.std.proofs.lemmas.Bool.{cond-true, cond-false}
use Rattle.octets.specs.Areas.{over}
use Rattle.octets.specs.Numbers.{le}
use Rattle.command.specs.declared.Command.{Command}
use Rattle.command.specs.Commands.{Sized}
use Rattle.command.specs.Members.{valid_chain}
use Rattle.archive.specs.declared.writing.OpenArchive.{OpenArchive}
use Rattle.archive.specs.declared.writing.Refusal.TheVariants.{NoSpace}
use Rattle.archive.specs.Layout.{header, entry}
use Rattle.archive.specs.Writing.{answer, left, has_room, entry_size, begun, grown, seal_refusal, sealed, began, added, Begins, Adds, Seals}
use Rattle.archive.proofs.Calls.{begin_taken, add_taken, size_told}
use Rattle.archive.proofs.Runs.{sealing}

-- a call that was taken, by its answer and what it wrote
pub begin_done : (area ms : List ℕ) (n : ℕ) (exit : List ℕ) → valid_chain ms ≡ true → n ≡ length (header ms)
    → has_room area 0 n ≡ true → exit ≡ over area 0 (header ms)
    → Begins area ms exit (Ok (record { at = n; count = 0 }))
begin_done area ms n exit v e r w =
    let taken = begin_taken area ms n v e r in
    let now : record { at = n; count = 0 } ≡ begun ms = ap (λ (k : ℕ). record { at = k; count = 0 }) e in
    record {
      answer = ap Ok now ∙ ap (λ x. answer (λ e. e) x (begun ms)) (sym taken);
      writes = w ∙ ap (λ x. left x area (over area 0 (header ms))) (sym taken);
      run = began area taken w now;
    }

pub add_done : (area : List ℕ) (o : OpenArchive) (c : Command) (n : ℕ) (exit : List ℕ) → Some n ≡ entry_size c
    → o.count < 65535 → has_room area o.at n ≡ true → exit ≡ over area o.at (entry c) → Sized c
    → Adds area o c exit (Ok (record { at = o.at + n; count = o.count + 1 }))
add_done area o c n exit e l r w s =
    let size = size_told c n e in
    let taken = add_taken area o c n size.0 l size.1 r in
    let now : record { at = o.at + n; count = o.count + 1 } ≡ grown o c =
    ap (λ (k : ℕ). record { at = o.at + k; count = o.count + 1 }) size.1 in
    record {
      answer = ap Ok now ∙ ap (λ x. answer (λ e. (o, e)) x (grown o c)) (sym taken);
      writes = w ∙ ap (λ x. left x area (over area o.at (entry c))) (sym taken);
      run = λ ms cs h. added area o cs c h s taken w now refl;
    }

pub seal_done : (area : List ℕ) (o : OpenArchive) (exit : List ℕ) → has_room area o.at 0 ≡ true
    → exit ≡ over area o.at (le 2 o.count) → Seals area o exit (Ok (sealed o))
seal_done area o exit r w =
    let taken : seal_refusal area o ≡ None = cond-true _ None (Some NoSpace) r in
    let written = w ∙ ap (λ x. left x area (over area o.at (le 2 o.count))) (sym taken) in
    record {
      answer = ap (λ x. answer (λ e. (o, e)) x (sealed o)) (sym taken);
      writes = written;
      run = λ ms cs h. sealing area exit o ms cs written h;
    }

pub seal_stopped : (area : List ℕ) (o : OpenArchive) → has_room area o.at 0 ≡ false
    → Seals area o area (Err (o, NoSpace))
seal_stopped area o r =
    let refused : seal_refusal area o ≡ Some NoSpace = cond-false _ None (Some NoSpace) r in
    let written = ap (λ x. left x area (over area o.at (le 2 o.count))) (sym refused) in
    record {
      answer = ap (λ x. answer (λ e. (o, e)) x (sealed o)) (sym refused);
      writes = written;
      run = λ ms cs h. sealing area area o ms cs written h;
    }
