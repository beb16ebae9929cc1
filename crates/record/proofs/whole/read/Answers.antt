use Rattle.std.proofs.Common.{◌≡◌, ℕ, List, ◌++◌, length, get_or, drop, Option, sym, refl, ap, ◌∙◌, subst, arith}
use Rattle.std.proofs.lemmas.Result.{err_from_is_err_and}
use Rattle.faults.specs.declared.Fault.TheVariants.{SheetShort, OutputShort}
use Rattle.record.specs.Record.{read_form, or_else}
use Rattle.record.proofs.Keeping.{kept_tables}
use Rattle.record.proofs.Pieces.{no_sheet, no_record, no_output, read_all, four_tables}
use Rattle.record.proofs.Says.{says_one}
use Rattle.record.proofs.whole.read.Goals as goal

pub returns-then-size-lt-PLACES : goal.returns-then-size-lt-PLACES
returns-then-size-lt-PLACES c =
    let n = length c.args.sheet.now.places.now in
    let m = length c.args.output.now in
    record {
      read = record {
        amiss = subst (λ (k : ℕ). (read_form c.args.bytes.now n m).amiss 0 (SheetShort k)) (sym c.size-then-size-lt-PLACES.ensures)
            (no_sheet c.args.bytes.now n m (omega (arith, c.size.ensures, c.if-size-lt-PLACES.true)));
        sheet_kept = refl;
        output_kept = refl;
      };
      sole = says_one c.args.bytes.now (length c.args.sheet.now.places.now) (length c.args.output.now);
      named = refl;
    }

pub returns-in_err-rule : goal.returns-in_err-rule
returns-in_err-rule c =
    let p = err_from_is_err_and c.from_residual.result c.from_residual.ensures.1 in
    rw (p.1, p.2) (record {
      read = record {
        amiss = no_record c.args.bytes.now (length c.args.sheet.now.places.now) (length c.args.output.now) (omega (arith, c.size.ensures)) c.in_err-rule.ensures;
        sheet_kept = refl;
        output_kept = refl;
      };
      sole = says_one c.args.bytes.now (length c.args.sheet.now.places.now) (length c.args.output.now);
      named = refl;
    })

pub returns-then-output-count : goal.returns-then-output-count
returns-then-output-count c =
    let g = c.in_ok-rule.ensures in
    let n = length c.args.sheet.now.places.now in
    let m = length c.args.output.now in
    let l : length g.said.order ≡ c.len-count.result = ap length (sym g.order_is) ∙ sym c.len-count.ensures.value in
    record {
      read = record {
        amiss = subst (λ (k : ℕ). (read_form c.args.bytes.now n m).amiss 0 (OutputShort k)) l
            (no_output c.args.bytes.now n m (omega (arith, c.size.ensures)) g.said g.is (omega (arith, l)));
        sheet_kept = refl;
        output_kept = refl;
      };
      sole = says_one c.args.bytes.now (length c.args.sheet.now.places.now) (length c.args.output.now);
      named = refl;
    }

pub returns : goal.returns
returns c =
    let g = c.in_ok-rule.ensures in
    let n = length c.args.sheet.now.places.now in
    let m = length c.args.output.now in
    let l : length g.said.order ≡ c.len-count.result = ap length (sym g.order_is) ∙ sym c.len-count.ensures.value in
    record {
      read = record {
        said = g.said;
        says = read_all c.args.bytes.now n m (omega (arith, c.size.ensures)) g.said g.is (omega (arith, l));
        rule_is = g.rule_is;
        tables_are = kept_tables g.said.tables _ _ (four_tables c.args.bytes.now g.said _ g.is) g.kept;
        claimed = record {
          size = c.put_claims.ensures.size;
          words = λ k. c.put_claims.ensures.words k ∙ ap (λ (o : Option ℕ). or_else o (get_or c.args.sheet.now.places.now k 0)) (g.kept.claims k);
        };
        counted = sym l;
        fits = omega arith;
        ordered = c.put_codes.ensures
            ∙ ap (λ (x : List ℕ). x ++ drop (length x) c.args.output.now) (c.deref.ensures.0 ∙ g.order_is)
            ∙ ap (λ (k : ℕ). g.said.order ++ drop k c.args.output.now) l;
      };
      sole = says_one c.args.bytes.now (length c.args.sheet.now.places.now) (length c.args.output.now);
      named = c.put_claims.ensures.named;
    }
