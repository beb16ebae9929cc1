use Rattle.std.proofs.Common.{length, vec_items, sym, ap, subst, arith}
use Rattle.tables.specs.Lines.{CellsFit, CopiesFit, BarriersWithin, BarriersRise}
use Rattle.tables.proofs.Shorts.{first_few, cells_first, copies_first, within_first, rising_first}
use Rattle.tables.proofs.table.Table.shorten.Goals as goal

pub invariant_of-self : goal.invariant_of-self
invariant_of-self c =
    let t = c.args.self.now in
    let ls = vec_items t.lines in
    let k = c.args.count in
    let e = sym c.truncate.ensures.items in
    let q = first_few ls k in
    let r = ap length c.truncate.ensures.items in
    record {
      room = omega (arith, t.room, c.truncate.ensures.capacity);
      few = omega (arith, q, r, t.few);
      bounded = t.bounded;
      cells = subst CellsFit e (cells_first ls k t.cells);
      copies = subst CopiesFit e (copies_first ls k t.copies);
      within = subst (λ l. BarriersWithin l t.barriers) e (within_first ls k t.within);
      rising = subst BarriersRise e (rising_first ls k t.rising);
    }
