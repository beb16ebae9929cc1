-- The lines issued are the lines of tables cut short, and meet the axioms as these.
use Rattle.std.proofs.Common.{◌≡◌, ℕ, zero, suc, ◌≤◌, Bool, true, false, cond, ◌&&◌, ltb, ◌⊎◌, List, [], ◌∷◌, length, get_or, take, Some, None, Option, sym, refl, ap, ◌∙◌, subst, inl, inr, arith}
use Rattle.std.proofs.lemmas.Bool.{and_parts, cond-true, cond-false, cases_Bool, ltb-true, lt-ltb}
use Rattle.std.proofs.lemmas.Bool.Decides.{nat_tests}
use Rattle.tables.specs.declared.line.Line.{Line}
use Rattle.tables.specs.Lines.{nth, line_reads, line_writes}
use Rattle.tables.specs.Rows.{Rows, empty}
use Rattle.tables.specs.Size.{Earlier, rd, wr, row, Size, table}
use Rattle.tables.specs.View.{line_at, of_line, reads_at, writes_at, copied_by, operand_of, written_number, Good}
use Rattle.tables.proofs.Numbering.{earlier_row}
use Rattle.rules.specs.Waits.{Waits, waits_at}
use Rattle.model.specs.Program.{Program, program, Words, written_or_copied, stored_at}
use Rattle.model.specs.Orders.{Listed, read, write}
use Rattle.model.specs.Machine.{shortened, cut}
use Rattle.model.proofs.Extremes.{some≢none}
use Rattle.model.proofs.Lawful.{LineIn}
use Rattle.model.proofs.OrderMeets.{is_issued, issued_part}
use Rattle.model.proofs.PlacedAxioms.{Concerns, Placed}
use Rattle.model.proofs.Positions.{Before}

nth_take : {A : Type 0} (xs : List A) (k i : ℕ) → nth (take k xs) i ≡ cond (ltb i k) (nth xs i) None
nth_take [] zero i = grind (arith, nat_tests)
nth_take [] (suc k) i = grind (arith, nat_tests)
nth_take (x ∷ xs) zero i = grind (arith, nat_tests)
nth_take (x ∷ xs) (suc k) zero = grind (arith, nat_tests)
nth_take (x ∷ xs) (suc k) (suc i) = let r = nth_take xs k i in grind (arith, nat_tests)

length_short : {A : Type 0} (k : ℕ) (xs : List A) → length (take k xs) ≤ length xs
length_short zero xs = omega arith
length_short (suc k) [] = omega arith
length_short (suc k) (x ∷ xs) = let r = length_short k xs in omega arith

take_nil : (k : ℕ) → take {A = Line} k [] ≡ []
take_nil zero = refl
take_nil (suc k) = refl

-- each table is cut on its own
pub cut_row : (f : ℕ → ℕ) (ts : List Rows) (p : ℕ) → get_or (cut f ts) p empty ≡ shortened (f p) (get_or ts p empty)
cut_row f [] p = ap (λ (ls : List Line). record { lines = ls; barriers = 0 }) (sym (take_nil (f p)))
cut_row f (t ∷ ts) zero = refl
cut_row f (t ∷ ts) (suc p) = cut_row (λ q. f (suc q)) ts p

pub length_cut : (f : ℕ → ℕ) (ts : List Rows) → length (cut f ts) ≡ length ts
length_cut f [] = refl
length_cut f (t ∷ ts) = ap suc (length_cut (λ q. f (suc q)) ts)

pub cut_line :
    (z : Size) (f : ℕ → ℕ) (ts : List Rows) (n : ℕ) → line_at z (cut f ts) n ≡ cond (ltb (row z n) (f (table z n))) (line_at z ts n) None
cut_line z f ts n =
    let p = table z n in
    ap (λ (t : Rows). nth t.lines (row z n)) (cut_row f ts p) ∙ nth_take (get_or ts p empty).lines (f p) (row z n)

-- two descriptions of the same lines
record Agree {M : Type 0} (P Q : Program) (stored stored' : (ℕ → M) → ℕ → M) : Type 0 where
  size : Q.size ≡ P.size
  reads : (n : ℕ) → Q.reads n ≡ P.reads n
  writes : (n : ℕ) → Q.writes n ≡ P.writes n
  cell : (n : ℕ) → LineIn P n → Q.cell n ≡ P.cell n
  wait : (m n : ℕ) → LineIn P m → LineIn P n → Q.wait m n ≡ P.wait m n
  same : (words : ℕ → M) (n : ℕ) → LineIn P n → stored words n ≡ stored' words n

module _ {M : Type 0} (P Q : Program) (stored stored' : (ℕ → M) → ℕ → M) (start : ℕ → M) (g : Agree P Q stored stored') (o : List ℕ) (words : ℕ → M) where
  r : (n : ℕ) → Q.reads n ≡ true → P.reads n ≡ true
  r n e = sym (g.reads n) ∙ e

  w : (n : ℕ) → Q.writes n ≡ true → P.writes n ≡ true
  w n e = sym (g.writes n) ∙ e

  to_P : (n m : ℕ) → P.reads n ≡ true → Concerns Q o n m → Concerns P o n m
  to_P n m x c = record {
    writes = w m c.writes;
    cell = sym (g.cell m (inr (w m c.writes))) ∙ (c.cell ∙ g.cell n (inl x));
    near = subst (λ (z : Size). Before o (wr m) (rd n) ⊎ Earlier z m n) g.size c.near;
  }

  to_Q : (n m : ℕ) → P.reads n ≡ true → Concerns P o n m → Concerns Q o n m
  to_Q n m x c = record {
    writes = g.writes m ∙ c.writes;
    cell = g.cell m (inr c.writes) ∙ (c.cell ∙ sym (g.cell n (inl x)));
    near = subst (λ (z : Size). Before o (wr m) (rd n) ⊎ Earlier z m n) (sym g.size) c.near;
  }

  earlier_P : (m n : ℕ) → Earlier Q.size m n → Earlier P.size m n
  earlier_P m n e = subst (λ (z : Size). Earlier z m n) g.size e

  agree_placed : Placed P stored start o words → Placed Q stored' start o words
  agree_placed A = record {
    order_read = λ n a. A.order_read n (r n a);
    order_write = λ n a. A.order_write n (w n a);
    termination = λ n a. A.termination n (w n a);
    load_read = λ m n a b e. A.load_read m n (r m a) (r n b) (earlier_P m n e);
    load_write = λ m n a b e. A.load_write m n (r m a) (w n b) (subst (λ (z : Size). Earlier z m n ⊎ (m ≡ n)) g.size e);
    wait_write = λ m n a b e x.
        A.wait_write m n (w m a) (w n b) (earlier_P m n e) (sym (g.wait m n (inr (w m a)) (inr (w n b))) ∙ x);
    wait_load = λ m n a b d e x.
        A.wait_load m n (w m a) (r n b) (sym (g.writes n) ∙ d) (earlier_P m n e) (sym (g.wait m n (inr (w m a)) (inl (r n b))) ∙ x);
    atomicity = λ n m a b c. A.atomicity n m (r n a) (w n b) (w m c);
    value = λ n m a l. let h = w m l.concerns.writes in
        A.value n m (r n a) (record { concerns = to_P n m (r n a) l.concerns; last = λ j c. l.last j (to_Q n j (r n a) c) })
        ∙ g.same words m (inr h);
    value_start = λ n a h. A.value_start n (r n a) (λ m c. h m (to_Q n m (r n a) c)) ∙ ap start (sym (g.cell n (inl (r n a))));
  }

and_yes : (b : Bool) → b ≡ (b && true)
and_yes true = refl
and_yes false = refl

and_no : (b : Bool) → false ≡ (b && false)
and_no true = refl
and_no false = refl

of_cut : (f : Line → Bool) (b : Bool) (x : Option Line) → of_line false f (cond b x None) ≡ (of_line false f x && b)
of_cut f true None = refl
of_cut f true (Some l) = and_yes (f l)
of_cut f false None = refl
of_cut f false (Some l) = and_no (f l)

module _ (z : Size) (w : Waits) (ts : List Rows) (f : ℕ → ℕ) where
  abbrev P : Program
  P = issued_part (program z w ts) f

  abbrev short : List Rows
  short = cut f ts

  line_kept : (n : ℕ) → is_issued P f n ≡ true → line_at z short n ≡ line_at z ts n
  line_kept n i = cut_line z f ts n ∙ cond-true (is_issued P f n) (line_at z ts n) None i

  line_same : (n : ℕ) → LineIn P n → line_at z short n ≡ line_at z ts n
  line_same n x = line_kept n (go x)
    where
      go : LineIn P n → is_issued P f n ≡ true
      go (inl e) = (and_parts ((program z w ts).reads n) (is_issued P f n) e).1
      go (inr e) = (and_parts ((program z w ts).writes n) (is_issued P f n) e).1

  pub cut_reads : (n : ℕ) → reads_at z short n ≡ P.reads n
  cut_reads n = ap (of_line false line_reads) (cut_line z f ts n) ∙ of_cut line_reads (is_issued P f n) (line_at z ts n)

  pub cut_writes : (n : ℕ) → writes_at z short n ≡ P.writes n
  cut_writes n = ap (of_line false line_writes) (cut_line z f ts n) ∙ of_cut line_writes (is_issued P f n) (line_at z ts n)

  -- what line n copies if it is x
  abbrev copies : ℕ → Option Line → Option ℕ
  copies n x = of_line None (λ l. copied_by z n (operand_of l.access)) x

  -- what line n writes if it is x
  abbrev stores : {M : Type 0} → Words M → ℕ → (ℕ → M) → Option Line → M
  stores K n words x =
      written_or_copied (λ m. K.written (of_line 0 (λ l. written_number (operand_of l.access)) x) (suc (table z m)) (suc (row z m))) words n (copies n x)

  agree : {M : Type 0} (K : Words M) → Agree P (program z w short) (stored_at K z ts) (stored_at K z short)
  agree K = record {
    size = refl;
    reads = cut_reads;
    writes = cut_writes;
    cell = λ n x. ap (of_line 0 (λ l. l.cell)) (line_same n x);
    wait = λ m n x y. ap (λ (a : Option Line). waits_at w a (line_at z short n)) (line_same m x) ∙ ap (waits_at w (line_at z ts m)) (line_same n y);
    same = λ words n x. ap (λ (a : Option Line). stores K n words a) (sym (line_same n x));
  }

  pub placed_cut :
      {M : Type 0} (K : Words M) (o : List ℕ) (words : ℕ → M) → Placed P (stored_at K z ts) K.start o words
      → Placed (program z w short) (stored_at K z short) K.start o words
  placed_cut K o words = agree_placed P (program z w short) (stored_at K z ts) (stored_at K z short) K.start (agree K) o words

  pub listed_cut : (o : List ℕ) → Listed P o → Listed (program z w short) o
  listed_cut o l i e a = elim (l i e a) [ read n x h ↦ read n (cut_reads n ∙ x) h | write n x h ↦ write n (cut_writes n ∙ x) h ]

  pub good_cut : Good z ts → Good z short
  good_cut g = record {
    tables = length_cut f ts ∙ g.tables;
    rows = λ p.
        let a = ap (λ (t : Rows). length t.lines) (cut_row f ts p) in
        let b = length_short (f p) (get_or ts p empty).lines in
        let c = g.rows p in omega arith;
    copies = λ m k e. elim (cases_Bool (is_issued P f m)) [
      | inl i ↦
          let c = g.copies m k (sym (ap (copies m) (line_kept m i)) ∙ e) in
          let l = ltb-true (row z m) (f (table z m)) i in
          let d = earlier_row z k m (c.0, c.1) in
          let q : f (table z k) ≡ f (table z m) = ap f c.0 in
          let j = lt-ltb (row z k) (f (table z k)) (omega arith) in
          (c.0, c.1, ap (of_line false line_reads) (line_kept k j) ∙ c.2)
      | inr i ↦ absurd (some≢none k (sym e ∙ ap (copies m) (cut_line z f ts m ∙ cond-false (is_issued P f m) (line_at z ts m) None i)))
    ];
  }
