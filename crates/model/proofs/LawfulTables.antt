-- Good tables are lawful under a rule with its law, and their lines write what the proofs ask of a line.
use Rattle.std.proofs.Common.{◌≡◌, ℕ, zero, suc, ◌<◌, Bool, true, false, ◌⊎◌, List, [], ◌∷◌, get_or, Some, None, Option, sym, refl, ap, subst, inl, inr, arith}
use lib.ListN.{get_or-eq_default}
use Rattle.std.proofs.lemmas.Option.{none-some}
use Rattle.std.proofs.lemmas.Bool.{both_ways, cases_lt}
use Rattle.tables.specs.declared.line.Kind.{Kind}
use Rattle.tables.specs.declared.line.Kind.TheVariants.{Load, Store, Swap}
use Rattle.tables.specs.declared.line.Line.{Line}
use Rattle.tables.specs.Lines.{kind_of, reads, writes, line_reads, line_writes, nth}
use Rattle.tables.specs.Rows.{Rows, empty}
use Rattle.tables.specs.Size.{Earlier, Size, row, table, places}
use Rattle.tables.specs.View.{line_at, of_line, reads_at, copy_at, Good}
use Rattle.tables.proofs.Numbering.{earlier_row, number_below, row_below, number_table_row}
use Rattle.rules.specs.Waits.{Waits, mark_of, KeepsWrites, waits_at}
use Rattle.model.specs.Program.{program, Words, written_at, written_or_copied, stored_at}
use Rattle.model.proofs.Extremes.{some≢none}
use Rattle.model.proofs.Lawful.{Lawful, Local}
use Rattle.model.proofs.Traces.{Copies}

nth_above : {A : Type 0} (xs : List A) (i j : ℕ) (x : A) → i < j → nth xs j ≡ Some x → (y : A) × (nth xs i ≡ Some y)
nth_above [] i j x l e = absurd (none-some x e)
nth_above (a ∷ xs) zero j x l e = (a, refl)
nth_above (a ∷ xs) (suc i) zero x l e = let y : ⊥ = omega arith in absurd y
nth_above (a ∷ xs) (suc i) (suc j) x l e = nth_above xs i j x (omega arith) e

-- where a test that fails without a line passes, there is one
line_from : (f : Line → Bool) (x : Option Line) → of_line false f x ≡ true → (l : Line) × (x ≡ Some l)
line_from f None e = absurd (both_ways false refl e)
line_from f (Some l) e = (l, refl)

line_there : (x : Option Line) → (of_line false line_reads x ≡ true) ⊎ (of_line false line_writes x ≡ true) → (l : Line) × (x ≡ Some l)
line_there x (inl r) = line_from line_reads x r
line_there x (inr r) = line_from line_writes x r

reads_or_writes : (k : Kind) → (reads k ≡ true) ⊎ (writes k ≡ true)
reads_or_writes Load = inl refl
reads_or_writes Store = inr refl
reads_or_writes Swap = inl refl

line_acts : (x : Option Line) (l : Line) → x ≡ Some l → (of_line false line_reads x ≡ true) ⊎ (of_line false line_writes x ≡ true)
line_acts None l e = absurd (none-some l e)
line_acts (Some m) l e = reads_or_writes (kind_of m.access)

waits_by_law :
    (w : Waits) → KeepsWrites w → (x y : Option Line) → of_line false line_writes x ≡ true → of_line false line_writes y ≡ true
    → of_line 0 (λ l. l.cell) x ≡ of_line 0 (λ l. l.cell) y → waits_at w x y ≡ true
waits_by_law w k None y u v c = absurd (both_ways false refl u)
waits_by_law w k (Some a) None u v c = absurd (both_ways false refl v)
waits_by_law w k (Some a) (Some b) u v c = k (mark_of a) (mark_of b) u v c

module _ (z : Size) (ts : List Rows) (g : Good z ts) where
  line_below : (n : ℕ) → (l : Line) × (line_at z ts n ≡ Some l) → n < places z
  line_below n t = elim (cases_lt (table z n) z.tables) [
    | inl k ↦ let a = number_table_row z n in let b = number_below z (table z n) (row z n) k (row_below z n) in omega arith
    | inr k ↦ let f = g.tables in
        let d : get_or ts (table z n) empty ≡ empty = get_or-eq_default ts empty (omega arith) in
        absurd (some≢none t.0 (sym (subst (λ (r : Rows). nth r.lines (row z n) ≡ Some t.0) d t.1)))
  ]

  pub lawful : (w : Waits) → KeepsWrites w → Lawful (program z w ts)
  lawful w k = record {
    dense = λ m n e x.
        let t = line_there (line_at z ts n) x in
        let h = subst (λ (p : ℕ). nth (get_or ts p empty).lines (row z n) ≡ Some t.0) (sym e.0) t.1 in
        let y = nth_above (get_or ts (table z m) empty).lines (row z m) (row z n) t.0 (earlier_row z m n e) h in
        line_acts (line_at z ts m) y.0 y.1;
    reads_in = λ n r. line_below n (line_there (line_at z ts n) (inl r));
    writes_in = λ n r. line_below n (line_there (line_at z ts n) (inr r));
    wait_law = λ m n _. waits_by_law w k (line_at z ts m) (line_at z ts n);
  }

  copy_reads : (m k : ℕ) → copy_at z ts m ≡ Some k → reads_at z ts k ≡ true
  copy_reads m k e = (g.copies m k e).2

  copy_earlier : (m k : ℕ) → copy_at z ts m ≡ Some k → Earlier z k m
  copy_earlier m k e = let c = g.copies m k e in (c.0, c.1)

  pub stored_local : {M : Type 0} (w : Waits) (K : Words M) → Local (program z w ts) (stored_at K z ts)
  stored_local {M} w K sheet sheet' m h = go (copy_at z ts m) refl
    where
      go : (c : Option ℕ) → copy_at z ts m ≡ c → written_or_copied (written_at K z ts) sheet m c ≡ written_or_copied (written_at K z ts) sheet' m c
      go None e = refl
      go (Some k) e = h k (copy_reads m k e) (inl (copy_earlier m k e))

  pub copies : {M : Type 0} (w : Waits) (K : Words M) (words : ℕ → M) → Copies (program z w ts) (stored_at K z ts) words (copy_at z ts) (written_at K z ts)
  copies w K words = record {
    reads = copy_reads;
    up_to = λ m k e. inl (copy_earlier m k e);
    handed = λ m k e. ap (written_or_copied (written_at K z ts) words m) e;
    kept = λ m e. ap (written_or_copied (written_at K z ts) words m) e;
  }
