use Rattle.std.proofs.Common.{◌≡◌, ℕ, [], ◌∷◌, ◌++◌, length, get_or, sym, refl, ap, ◌∙◌, arith}
use Rattle.std.proofs.lemmas.Result.{err_from_is_err_and}
use Rattle.tables.specs.declared.tables.Tables.{Tables}
use Rattle.tables.specs.Rows.{empty}
use Rattle.tables.specs.Contents.{contents}
use Rattle.tables.proofs.Goods.{good}
use Rattle.record.specs.Form.{none, more}
use Rattle.record.proofs.Runs.{run_to}
use Rattle.record.proofs.Parts.{entry_after, amiss_after, entry_on}
use Rattle.record.proofs.Fits.{item_fits, refused_at, room}
use Rattle.record.proofs.Keeping.{kept_new, kept_more, row_added}
use Rattle.record.proofs.tabled.Reading.read_table.Goals as goal

pub loop-at-init : goal.loop-at-init
loop-at-init c = ([], none refl refl, omega arith, c.requires.1, λ ts l k. kept_new ts _ _ k)

pub returns-in_err-item : goal.returns-in_err-item
returns-in_err-item c =
    let p = err_from_is_err_and c.from_residual.result c.from_residual.ensures.1 in
    let v = c.loop-at.invariant in
    let t = rw c.unwrap-rows.ensures at c.table.ensures in
    let same = t.1 ∙ ap (λ (u : Tables). get_or (contents u) c.args.table empty) c.tables.ensures.same ∙ v.3 in
    rw (p.1, p.2) (record {
      front = v.0;
      at = c.loop-at.at;
      stand = v.1;
      going = λ e. omega arith;
      stuck = amiss_after c.args.part.bytes.now c.args.part.start _ _ c.loop-at.at _ same c.in_err-item.ensures;
    })

-- what was read is never refused
pub returns-in_err-enter : goal.returns-in_err-enter
returns-in_err-enter c =
    let t = rw c.unwrap-rows.ensures at c.table.ensures in
    let same = t.1 ∙ ap (λ (u : Tables). get_or (contents u) c.args.table empty) c.tables.ensures.same in
    let rs = contents c.loop-at.self.draft.tables in
    let x = c.in_ok-item.item in
    let f = item_fits c.args.part.bytes.now c.args.part.start (get_or rs c.args.table empty) c.loop-at.at x c.item.new.at
    (entry_after c.args.part.bytes.now c.args.part.start _ _ c.loop-at.at x c.item.new.at same c.in_ok-item.ensures) in
    let e = c.in_err-enter.ensures in
    let r = refused_at rs c.args.table x.entry c.requires.0 in
    let z : ◌≡◌ {A = ℕ} 0 1 = cc (e, r, f) in
    absurd (omega arith)

pub loop-at-preserved : goal.loop-at-preserved
loop-at-preserved c =
    let v = c.loop-at.invariant in
    let rs = contents c.loop-at.self.draft.tables in
    let rs' = contents c.enter.new.self.draft.tables in
    let x = c.in_ok-item.item in
    let t = rw c.unwrap-rows.ensures at c.table.ensures in
    let same = t.1 ∙ ap (λ (u : Tables). get_or (contents u) c.args.table empty) c.tables.ensures.same ∙ v.3 in
    let i = entry_after c.args.part.bytes.now c.args.part.start _ _ c.loop-at.at x c.item.new.at same c.in_ok-item.ensures in
    let on = entry_on c.args.part.bytes.now c.args.part.start _ c.loop-at.at x c.item.new.at i in
    let w = c.in_ok-enter.ensures in
    let l = (good c.loop-at.self.draft.tables).tables in
    let free = room (get_or rs c.args.table empty) x.entry (sym (refused_at rs c.args.table x.entry c.requires.0) ∙ w.0) in (
      v.0 ++ x ∷ [],
      more v.1 (λ e. omega arith) i refl,
      on.1,
      row_added rs rs' c.args.table v.0 x (omega (arith, c.requires.0, l)) w.1 v.3,
      λ ts n k. kept_more ts c.args.table n c.requires.0 v.0 x rs rs' c.loop-at.self.claims c.enter.new.self.claims free w.1 w.2 (v.4 ts n k),
    )

pub returns : goal.returns
returns c =
    let v = c.loop-at.invariant in
    let e : c.loop-at.at ≡ length c.args.part.bytes.now = omega (arith, v.2) in
    record {
      items = v.0;
      is = (run_to _ _ 0 v.0 c.loop-at.at (length c.args.part.bytes.now) e v.1, refl);
      kept = v.4;
    }
