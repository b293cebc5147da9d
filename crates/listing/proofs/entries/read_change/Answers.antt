use Rattle.std.proofs.Common.{◌∙◌, arith}
use Rattle.listing.proofs.Fields.{field_stop, field_then}
use Rattle.listing.proofs.entries.read_change.Goals as goal

pub returns-in_err-read_field : goal.returns-in_err-read_field
returns-in_err-read_field c = c.from_residual.ensures ∙ field_stop 8 _ _ _ (omega arith) c.in_err-read_field.ensures

pub returns-in_err-read_field-2 : goal.returns-in_err-read_field-2
returns-in_err-read_field-2 c =
    c.from_residual-in_err-read_field-2.ensures ∙
    field_then 8 _ _ _ _ _ (omega arith) c.in_ok-read_field.ensures
    (field_stop 16 _ _ _ (omega arith) c.in_err-read_field-2.ensures)

pub returns-in_err-read_field-3 : goal.returns-in_err-read_field-3
returns-in_err-read_field-3 c =
    c.from_residual-in_err-read_field-3.ensures ∙
    field_then 8 _ _ _ _ _ (omega arith) c.in_ok-read_field.ensures
    (field_then 16 _ _ _ _ _ (omega arith) c.in_ok-read_field-2.ensures
    (field_stop 32 _ _ _ (omega arith) c.in_err-read_field-3.ensures))

pub returns-in_err-read_field-4 : goal.returns-in_err-read_field-4
returns-in_err-read_field-4 c =
    c.from_residual-in_err-read_field-4.ensures ∙
    field_then 8 _ _ _ _ _ (omega arith) c.in_ok-read_field.ensures
    (field_then 16 _ _ _ _ _ (omega arith) c.in_ok-read_field-2.ensures
    (field_then 32 _ _ _ _ _ (omega arith) c.in_ok-read_field-3.ensures
    (field_stop 16 _ _ _ (omega arith) c.in_err-read_field-4.ensures)))

pub returns-in_err-read_field-5 : goal.returns-in_err-read_field-5
returns-in_err-read_field-5 c =
    c.from_residual-in_err-read_field-5.ensures ∙
    field_then 8 _ _ _ _ _ (omega arith) c.in_ok-read_field.ensures
    (field_then 16 _ _ _ _ _ (omega arith) c.in_ok-read_field-2.ensures
    (field_then 32 _ _ _ _ _ (omega arith) c.in_ok-read_field-3.ensures
    (field_then 16 _ _ _ _ _ (omega arith) c.in_ok-read_field-4.ensures
    (field_stop 16 _ _ _ (omega arith) c.in_err-read_field-5.ensures))))

pub returns : goal.returns
returns c =
    field_then 8 _ _ _ _ _ (omega arith) c.in_ok-read_field.ensures
    (field_then 16 _ _ _ _ _ (omega arith) c.in_ok-read_field-2.ensures
    (field_then 32 _ _ _ _ _ (omega arith) c.in_ok-read_field-3.ensures
    (field_then 16 _ _ _ _ _ (omega arith) c.in_ok-read_field-4.ensures
    (field_then 16 _ _ _ _ _ (omega arith) c.in_ok-read_field-5.ensures c.end.ensures))))
