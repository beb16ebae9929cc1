use Rattle.std.proofs.Common.{length, vec_items, sym, ap, subst, arith}
use Rattle.std.proofs.lemmas.List.{length_push}
use Rattle.tables.specs.declared.line.Line.{Line}
use Rattle.tables.specs.Lines.{CellsFit, CopiesFit, BarriersWithin, BarriersRise}
use Rattle.tables.proofs.Pushes.{cells_push, copies_push, within_push, rising_push}
use Rattle.tables.proofs.table.Table.add_line.Goals as goal

pub invariant_of-self : goal.invariant_of-self
invariant_of-self c =
    let t = c.args.self.now in
    let ls = vec_items t.lines in
    let x : Line = record { access = c.args.access; cell = c.args.cell; barrier = t.barriers } in
    let e = sym c.push_reserved.ensures.items in
    let q = length_push ls x in
    let r = ap length c.push_reserved.ensures.items in
    record {
      room = omega (arith, t.room, c.push_reserved.ensures.capacity);
      few = omega (arith, q, r);
      bounded = t.bounded;
      cells = subst CellsFit e (cells_push ls x t.cells (omega arith));
      copies = subst CopiesFit e (copies_push ls x t.copies (sym c.if-not-names.ensures));
      within = subst (λ l. BarriersWithin l t.barriers) e (within_push ls x t.within (omega arith));
      rising = subst BarriersRise e (rising_push ls x t.rising t.within);
    }
