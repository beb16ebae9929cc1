-- A machine is completed only with an order that meets the axioms.
use Rattle.std.proofs.Common.{◌≡◌, ℕ, ◌≤◌, Bool, true, false, ◌&&◌, List, sym, ◌∙◌, subst, inl, inr, arith}
use Rattle.std.proofs.lemmas.Bool.{cases_Bool, cases_eq, both_ways, cases_lt, and_left}
use Rattle.tables.specs.Size.{row, number, Size, table}
use Rattle.tables.proofs.Numbering.{number_earlier, row_below, number_table_row}
use Rattle.model.specs.Program.{Program}
use Rattle.model.specs.Orders.{Listed}
use Rattle.model.specs.Machine.{Run, words_on, Completed, State, has_next, next}
use Rattle.model.proofs.Invariant.{Issued}
use Rattle.model.proofs.Lawful.{Lawful, LineIn, Local}
use Rattle.model.proofs.OrderMeets.{meets, issued_in_part, order_listed, is_issued, issued_part}
use Rattle.model.proofs.PlacedAxioms.{Placed}
use Rattle.model.proofs.Refusals.{in_line}
use Rattle.model.proofs.Runs.{Holds}

pub all_issued : (P : Program) (L : Lawful P) (s : State) → ((p : ℕ) → has_next P s p ≡ false) → (n : ℕ) → LineIn P n → Issued P s n
all_issued P L s h n x = elim (cases_lt (row z n) (s.issued p)) [
  | inl l ↦ l
  | inr l ↦ let b = row_below z n in
      absurd (both_ways (has_next P s p) (h p) (in_line P p (s.issued p) (omega arith) (there l)))
]
  where
    z : Size
    z = P.size

    p : ℕ
    p = table z n

    there : s.issued p ≤ row z n → LineIn P (next P s p)
    there l = elim (cases_eq (s.issued p) (row z n)) [
      | inl e ↦ subst (λ (k : ℕ). LineIn P (number z p k)) (sym e) (subst (LineIn P) (sym (number_table_row z n)) x)
      | inr e ↦ L.dense (next P s p) n (number_earlier z n (s.issued p) (omega arith)) x
    ]

-- a machine with no line left has issued all
all_part : (P : Program) (L : Lawful P) (s : State) → ((p : ℕ) → has_next P s p ≡ false) → issued_part P s.issued ≡ P
all_part P L s h = λ i. record {
  size = P.size;
  reads = λ n. drop P.reads (λ n e. inl e) n i;
  writes = λ n. drop P.writes (λ n e. inr e) n i;
  cell = P.cell;
  wait = P.wait;
}
  where
    drop : (f : ℕ → Bool) → ((n : ℕ) → f n ≡ true → LineIn P n) → (n : ℕ) → (f n && is_issued P s.issued n) ≡ f n
    drop f g n = elim (cases_Bool (f n)) [
      | inl e ↦ issued_in_part P s (f n) n e (all_issued P L s h n (g n e)) ∙ sym e
      | inr e ↦ and_left (f n) (is_issued P s.issued n) e ∙ sym e
    ]

same_words :
    {M : Type 0} (P : Program) (stored : (ℕ → M) → ℕ → M) (start : ℕ → M) → Local P stored → (o : List ℕ) (sheet words : ℕ → M)
    → ((n : ℕ) → P.reads n ≡ true → sheet n ≡ words n) → Placed P stored start o sheet → Placed P stored start o words
same_words P stored start N o sheet words h A = record {
  order_read = A.order_read;
  order_write = A.order_write;
  termination = A.termination;
  load_read = A.load_read;
  load_write = A.load_write;
  wait_write = A.wait_write;
  wait_load = A.wait_load;
  atomicity = A.atomicity;
  value = λ n m r l. sym (h n r) ∙ (A.value n m r l ∙ N sheet words m (λ k y _. h k y));
  value_start = λ n r k. sym (h n r) ∙ A.value_start n r k;
}

module _ {M : Type 0} (P : Program) (L : Lawful P) (stored : (ℕ → M) → ℕ → M) (start : ℕ → M) (N : Local P stored) (sheet₀ : List M)
    (r : Run M) (H : Holds P L stored start N sheet₀ r) (o : List ℕ) (words : ℕ → M) (c : Completed P stored start o words r) where
  pub completed_meets : Placed P stored start o words
  completed_meets =
      same_words P stored start N o (words_on start r.sheet) words c.same
      (subst (λ (x : List ℕ). Placed P stored start x (words_on start r.sheet)) c.written
      (subst (λ (Q : Program). Placed Q stored start r.state.order (words_on start r.sheet)) (all_part P L r.state c.none_left)
      (meets P L stored start (words_on start r.sheet) r.state H.inv H.values c.none_held)))

  pub completed_listed : Listed P o
  completed_listed =
      subst (λ (x : List ℕ). Listed P x) c.written
      (subst (λ (Q : Program). Listed Q r.state.order) (all_part P L r.state c.none_left) (order_listed P r.state H.inv))
