use Rattle.std.proofs.Common.{[], ◌∷◌, ◌++◌, refl, inl, inr, arith}
use Rattle.std.proofs.lemmas.Result.{err_from_is_err_and}
use Rattle.std.proofs.lemmas.List.{length_push}
use Rattle.record.specs.Form.{none, more}
use Rattle.record.proofs.tabled.read_tables.Goals as goal

pub loop-table-init : goal.loop-table-init
loop-table-init c = ([], none refl refl, refl, c.requires)

pub returns-in_err-part : goal.returns-in_err-part
returns-in_err-part c =
    let p = err_from_is_err_and c.from_residual.result c.from_residual.ensures.1 in
    let v = c.loop-table.invariant in
    rw (p.1, p.2) (record {
      front = v.0;
      at = c.loop-table.next;
      stand = v.1;
      going = λ e. omega (arith, v.2);
      stuck = inl c.in_err-part.ensures;
    })

pub returns-in_err-read_table : goal.returns-in_err-read_table
returns-in_err-read_table c =
    let p = err_from_is_err_and c.from_residual-in_err-read_table.result c.from_residual-in_err-read_table.ensures.1 in
    let v = c.loop-table.invariant in
    rw (p.1, p.2) (record {
      front = v.0;
      at = c.loop-table.next;
      stand = v.1;
      going = λ e. omega (arith, v.2);
      stuck = inr ((c.in_ok-part.part.bytes.now, c.in_ok-part.part.start), c.in_ok-part.after, c.in_ok-part.ensures, c.in_err-read_table.ensures);
    })

pub loop-table-preserved : goal.loop-table-preserved
loop-table-preserved c =
    let v = c.loop-table.invariant in
    let t = c.in_ok-read_table.ensures in
    let n = length_push v.0 t.items in (
      v.0 ++ t.items ∷ [],
      more v.1 (λ e. omega (arith, v.2))
          ((c.in_ok-part.part.bytes.now, c.in_ok-part.part.start), c.in_ok-part.after, c.in_ok-part.ensures, (t.is, refl)) refl,
      omega (arith, v.2),
      t.kept v.0 v.2 v.3,
    )
