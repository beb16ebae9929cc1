-- What the tests of an entry's numbers say.
use Rattle.std.proofs.Common.{◌≡◌, ℕ, ◌<◌, ◌≤◌, Bool, true, false, cond, Some, None, sym, refl, ap, ◌∙◌, inl, inr, arith}
use Rattle.std.proofs.lemmas.Bool.Decides.{nat_tests}
use Rattle.std.proofs.lemmas.Bool.{cases_lt}
use Rattle.faults.specs.declared.Fault.TheVariants.{EntryUnknown, TableFull, CopyAmiss}
use Rattle.tables.specs.declared.table.Table.{Table}
use Rattle.tables.specs.Lines.{reading}
use Rattle.tables.specs.Rows.{Rows, rows_of}
use Rattle.tables.proofs.Pushes.{reading_past}
use Rattle.record.specs.declared.entries.EntryCode.{EntryCode}
use Rattle.record.specs.declared.entries.EntryCode.TheVariants.{Load, Store, Swap, Barrier}
use Rattle.record.specs.declared.entries.Source.TheVariants.{Number as FromNumber, Copy}
use Rattle.record.specs.Entries.{code_of}
use Rattle.record.specs.Table.{full, code_test, copied_test}

module _ (s : Rows) where
  pub code_unknown : (v : ℕ) → code_of Barrier < v → code_test s v ≡ Some EntryUnknown
  code_unknown v h = grind (arith, nat_tests)

  code_by : (k : EntryCode) → code_test s (code_of k) ≡ cond (full s (code_of k)) (Some TableFull) None
  code_by Load = refl
  code_by (Store FromNumber) = refl
  code_by (Store Copy) = refl
  code_by (Swap FromNumber) = refl
  code_by (Swap Copy) = refl
  code_by Barrier = refl

  pub code_full : (k : EntryCode) (v : ℕ) → code_of k ≡ v → full s (code_of k) ≡ true → code_test s v ≡ Some TableFull
  code_full k v e f = ap (code_test s) (sym e) ∙ code_by k ∙ ap (λ (b : Bool). cond b (Some TableFull) None) f

  pub copy_fails : (v : ℕ) → reading s.lines v ≡ false → copied_test s v ≡ Some CopyAmiss
  copy_fails v f = ap (λ (b : Bool). cond b None (Some CopyAmiss)) f

-- a number of a line that reads is small
pub reading_within : (t : Table) (k : ℕ) → reading (rows_of t).lines k ≡ true → k ≤ 32
reading_within t k e =
    elim (cases_lt 32 k) [
      | inl h ↦ (let f = reading_past (rows_of t).lines k (omega (arith, t.few)) in let z : ◌≡◌ {A = Bool} true false = sym e ∙ f in let y : ◌≡◌ {A = ℕ} 0 1 = cc in omega arith)
      | inr h ↦ h
    ]
