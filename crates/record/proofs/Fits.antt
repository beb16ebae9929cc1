-- An entry that is read may be added to its table.
use Rattle.std.proofs.Common.{◌≡◌, ℕ, ◌+◌, ◌-◌, ◌<◌, Bool, true, false, cond, ltb, leb, List, [], ◌∷◌, length, get_or, Some, None, Option, sym, refl, ap, ◌∙◌, inl, inr, arith, le-leb}
use Rattle.std.proofs.lemmas.Bool.{cases_lt}
use Rattle.std.proofs.lemmas.Bool.Decides.{nat_tests}
use Rattle.faults.specs.declared.Fault.TheVariants.{TableFull, CellBeyond, CopyAmiss}
use Rattle.tables.specs.declared.line.Operand.TheVariants.{Written, Copied}
use Rattle.tables.specs.declared.line.Access.{Access}
use Rattle.tables.specs.declared.line.Access.TheVariants.{Load, Store, Swap}
use Rattle.tables.specs.declared.line.Entry.{Entry}
use Rattle.tables.specs.declared.line.Entry.TheVariants.{Operation, Barrier}
use Rattle.tables.specs.Size.{unit, last_cell}
use Rattle.tables.specs.Lines.{names, reading}
use Rattle.tables.specs.Rows.{Rows, empty, refusal}
use Rattle.tables.specs.Contents.{refused}
use Rattle.record.specs.declared.entries.Item.{Item}
use Rattle.record.specs.Entries.{entry_numbers, claim_numbers}
use Rattle.record.specs.Table.{Role, cell, number, copied, claim, roles, test, code_test, cell_test, copied_test, parts, entry_form}
use Rattle.record.proofs.Keeping.{Room}

none_false : {X : Type 0} (b : Bool) (x : X) → cond b (Some x) None ≡ None → b ≡ false
none_false true x e = let z : ◌≡◌ {A = ℕ} 0 1 = cc in absurd (omega arith)
none_false false x e = refl

none_true : {X : Type 0} (b : Bool) (x : X) → cond b None (Some x) ≡ None → b ≡ true
none_true true x e = refl
none_true false x e = let z : ◌≡◌ {A = ℕ} 0 1 = cc in absurd (omega arith)

module _ (part : List ℕ) (base : ℕ) (s : Rows) where
  -- no refusal of a line with room, a cell and a copy that pass
  line_fits :
      (a : Access) (c : ℕ) → leb unit.lines (length s.lines) ≡ false → ltb last_cell c ≡ false → names s.lines a ≡ true
      → refusal s (Operation a c) ≡ None
  line_fits a c f g h = rw (f, g, h)

  at_code :
      (c d mid : ℕ) (ns : List ℕ) (n : ℕ) → c ≡ d → code_test s d ≡ None → (parts part base s (roles d)).is mid ns n
      → (code_test s c ≡ None) × (parts part base s (roles c)).is mid ns n
  at_code c d mid ns n e t p = (rw e t, rw e p)

  first_passes : (r : Role) (rs : List Role) (mid v : ℕ) (vs ns : List ℕ) (n : ℕ) → v ∷ vs ≡ ns → (parts part base s (r ∷ rs)).is mid ns n → test s r v ≡ None
  first_passes r rs mid v vs ns n e (w, after, t, (ws, m, p, (i, j))) = let q : v ≡ w = cc in ap (test s r) q ∙ t.1

  second_passes :
      (q r : Role) (rs : List Role) (mid u v : ℕ) (vs ns : List ℕ) (n : ℕ) → u ∷ v ∷ vs ≡ ns → (parts part base s (q ∷ r ∷ rs)).is mid ns n → test s r v ≡ None
  second_passes q r rs mid u v vs ns n e (w, after, t, (ws, m, p, (i, j))) =
      let k : v ∷ vs ≡ ws = cc in first_passes r rs after v vs ws m k p

  cell_fits : (c : ℕ) → cell_test c ≡ None → ltb last_cell c ≡ false
  cell_fits c e = none_false (ltb last_cell c) _ e

  copy_fits : (l : ℕ) → copied_test s l ≡ None → reading s.lines l ≡ true
  copy_fits l e = none_true (reading s.lines l) _ e

  fits :
      (e : Entry) (k : Option ℕ) (code mid : ℕ) (ns : List ℕ) (n : ℕ)
      → code_test s code ≡ None → (parts part base s (roles code)).is mid ns n → entry_numbers e k ≡ code ∷ ns → refusal s e ≡ None
  fits (Operation Load c) k code mid ns n t p i =
      let u = at_code 0 code mid ns n (cc) t p in
      line_fits Load c (none_false _ _ u.0) (cell_fits c (first_passes cell (claim ∷ []) mid c (claim_numbers k) ns n (cc) u.1)) refl
  fits (Operation (Store (Written v)) c) k code mid ns n t p i =
      let u = at_code 1 code mid ns n (cc) t p in
      line_fits (Store (Written v)) c (none_false _ _ u.0) (cell_fits c (first_passes cell (number ∷ []) mid c (v ∷ claim_numbers k) ns n (cc) u.1)) refl
  fits (Operation (Store (Copied l)) c) k code mid ns n t p i =
      let u = at_code 2 code mid ns n (cc) t p in
      line_fits (Store (Copied l)) c (none_false _ _ u.0) (cell_fits c (first_passes cell (copied ∷ []) mid c (l ∷ claim_numbers k) ns n (cc) u.1))
      (copy_fits l (second_passes cell copied [] mid c l (claim_numbers k) ns n (cc) u.1))
  fits (Operation (Swap (Written v)) c) k code mid ns n t p i =
      let u = at_code 3 code mid ns n (cc) t p in
      line_fits (Swap (Written v)) c (none_false _ _ u.0) (cell_fits c (first_passes cell (number ∷ claim ∷ []) mid c (v ∷ claim_numbers k) ns n (cc) u.1)) refl
  fits (Operation (Swap (Copied l)) c) k code mid ns n t p i =
      let u = at_code 4 code mid ns n (cc) t p in
      line_fits (Swap (Copied l)) c (none_false _ _ u.0) (cell_fits c (first_passes cell (copied ∷ claim ∷ []) mid c (l ∷ claim_numbers k) ns n (cc) u.1))
      (copy_fits l (second_passes cell copied (claim ∷ []) mid c l (claim_numbers k) ns n (cc) u.1))
  fits Barrier k code mid ns n t p i =
      let u = at_code 5 code mid ns n (cc) t p in
      ap (λ (b : Bool). cond b (Some (TableFull (s.barriers + 1))) None) (none_false _ _ u.0)

  pub item_fits : (at : ℕ) (x : Item) (next : ℕ) → (entry_form part base s).is at x next → refusal s x.entry ≡ None
  item_fits at x next (code, mid, t, (ns, n, p, (i, j))) = fits x.entry x.claim code mid ns n t.1 p i

-- a line that is not refused has room
pub room : (s : Rows) (e : Entry) → refusal s e ≡ None → Room e (length s.lines)
room s (Operation a c) e =
    elim (cases_lt (length s.lines) 32) [
      | inl h ↦ h
      | inr h ↦ let t = le-leb 32 (length s.lines) h in
          let z : Some _ ≡ None = ap (λ (b : Bool). cond b (Some (TableFull (length s.lines + 1)))
          (cond (ltb last_cell c) (Some (CellBeyond (length s.lines + 1))) (cond (names s.lines a) None (Some (CopyAmiss (length s.lines + 1)))))) (sym t) ∙ e in
          let y : ◌≡◌ {A = ℕ} 0 1 = cc in absurd (omega arith)
    ]
room s Barrier e = tt

-- what processor p + 1 refuses, table p refuses
pub refused_at : (rs : List Rows) (p : ℕ) (e : Entry) → p < 4 → refused rs (p + 1) e ≡ refusal (get_or rs p empty) e
refused_at rs p e h =
    let q : p + 1 - 1 ≡ p = omega arith in
    let r : refusal (get_or rs (p + 1 - 1) empty) e ≡ refusal (get_or rs p empty) e = ap (λ (i : ℕ). refusal (get_or rs i empty) e) q in
    grind (arith, nat_tests, r)
