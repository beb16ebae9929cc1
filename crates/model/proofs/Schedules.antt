-- The schedule of an order that meets the axioms is accepted, and completes a new machine with it.
use Rattle.std.proofs.Common.{◌≡◌, ℕ, zero, suc, ◌+◌, ◌-◌, ◌/◌, ◌%◌, ◌<◌, ◌≤◌, Bool, true, false, cond, eqb, List, [], ◌∷◌, ◌++◌, length, Some, None, Option, sym, refl, ap, ◌∙◌, subst, inl, inr, append_assoc, append-nil, arith}
use Rattle.std.proofs.lemmas.Bool.{cases_Bool, cases_eq, both_ways, eq-eqb, ne_eqb, cases_lt, cases_order}
use Rattle.std.proofs.lemmas.Bool.Decides.{nat_tests}
use Rattle.faults.specs.declared.Fault.{Fault}
use Rattle.tables.specs.Size.{places, rd, number, table, wr, row, Size, Earlier}
use Rattle.tables.proofs.Numbering.{number_earlier, row_number, table_below, number_table_row, row_below, table_number}
use Rattle.model.specs.declared.call.Call.{Call}
use Rattle.model.specs.declared.call.Call.TheVariants.{Issue}
use Rattle.model.specs.Program.{Program}
use Rattle.model.specs.Orders.{snoc, Event, Listed, read, write}
use Rattle.model.specs.Axioms.{worth}
use Rattle.model.specs.Machine.{State, first, has_next, next, issue_tests, drain_tests, issue_refusal, drain_refusal, source, after_issue, Run, new, words_on, issued_line, drained_line, done, unless, step, run, Accepted, Completed}
use Rattle.model.specs.Schedule.{schedule, lacking, more, drain_of, up_to, fill, drains}
use Rattle.model.proofs.Invariant.{issued_up_to, CanIssue, Inv, Source, CanDrain, Issued, source_grow}
use Rattle.model.proofs.IssueKeeps.{issued_other, issued_new, issue_grows}
use Rattle.model.proofs.Lawful.{LineIn, Local, Lawful}
use Rattle.model.proofs.PlacedAxioms.{at_place, Placed}
use Rattle.model.proofs.Positions.{stands_from, keeps_append, place_same, place, stands_next, Inside, place_next, times, Keeps}
use Rattle.model.proofs.Refusals.{drain_free, in_line, line_in, issue_free, next_row}
use Rattle.model.proofs.Runs.{run_append, accepted_append, Holds, issue_holds, drain_holds, new_holds}
use Rattle.model.proofs.Sheets.{words_issue}
use Rattle.model.proofs.SourceWords.{source_word}
use Rattle.model.proofs.WordsRead.{issue_words, sheet_old, named, issue_values}

pub more_self : (f : ℕ → ℕ) (p k : ℕ) → more f p k p ≡ f p + k
more_self f p k = grind (arith, nat_tests)

one_more : (f : ℕ → ℕ) (p k l : ℕ) → l ≡ suc k → (q : ℕ) → more (more f p k) p 1 q ≡ more f p l q
one_more f p k l e q = grind (arith, nat_tests)

module _ {M : Type 0} (P : Program) (L : Lawful P) (stored : (ℕ → M) → ℕ → M) (start : ℕ → M) (N : Local P stored) (sheet₀ : List M)
    (wide : places P.size ≤ length sheet₀) (o : List ℕ) (words : ℕ → M) (Li : Listed P o) (A : Placed P stored start o words) where
  abbrev sz : Size
  sz = P.size

  abbrev runs : List Call → Run M → Run M
  runs = run P stored start

  -- the machine after Some of the order: the rest of the order, and how many lines are issued
  record Stage (rest : List ℕ) (f : ℕ → ℕ) (r : Run M) : Type 0 where
    split : r.state.order ++ rest ≡ o
    holds : Holds P L stored start N sheet₀ r
    count : (p : ℕ) → r.state.issued p ≡ f p
    same : (n : ℕ) → P.reads n ≡ true → Issued P r.state n → words_on start r.sheet n ≡ words n

  -- calls that are accepted and lead there
  record Go (calls : List Call) (r : Run M) (rest : List ℕ) (f : ℕ → ℕ) : Type 0 where
    accepted : Accepted P stored start calls r
    at : Stage rest f (runs calls r)

  go_on : (xs ys : List Call) (r : Run M) (o₁ o₂ : List ℕ) (f g : ℕ → ℕ) → Go xs r o₁ f → Go ys (runs xs r) o₂ g → Go (xs ++ ys) r o₂ g
  go_on xs ys r o₁ o₂ f g a b = record {
    accepted = accepted_append P stored start xs ys r a.accepted b.accepted;
    at = subst (Stage o₂ g) (sym (run_append P stored start xs ys r)) b.at;
  }

  recount : (rest : List ℕ) (f g : ℕ → ℕ) (r : Run M) → ((q : ℕ) → f q ≡ g q) → Stage rest f r → Stage rest g r
  recount rest f g r h a = record { split = a.split; holds = a.holds; count = λ p. a.count p ∙ h p; same = a.same }

  -- a line that only stores
  abbrev Stores : ℕ → Type 0
  Stores n = (P.reads n ≡ false) × (P.writes n ≡ true)

  -- what holds at a stage
  module _ (rest : List ℕ) (f : ℕ → ℕ) (r : Run M) (a : Stage rest f r) where
    keeps : Keeps r.state.order o
    keeps = subst (λ (x : List ℕ). Keeps r.state.order x) a.split (keeps_append r.state.order rest)

    -- the write of a held line stands later in the order, and what stands earlier is not held
    not_held : (m : ℕ) → r.state.held m ≡ true → place o (wr m) < length r.state.order → ⊥
    not_held m h l =
        let k = keeps (wr m) in
        both_ways (r.state.held m) (a.holds.inv.wr_of m (omega arith)).2 h

    held_later : (m : ℕ) → r.state.held m ≡ true → length r.state.order ≤ place o (wr m)
    held_later m h = elim (cases_lt (place o (wr m)) (length r.state.order)) [ inl l ↦ absurd (not_held m h l) | inr l ↦ l ]

    read_sooner : (m : ℕ) → P.reads m ≡ true → Issued P r.state m → place o (rd m) < length r.state.order
    read_sooner m y i =
        let s = a.holds.inv.rd_in m y i in
        let k = keeps (rd m) in omega arith

    -- a swap that is half done at a write is the write's own
    half_own :
        (n j : ℕ) → P.writes n ≡ true → place o (wr n) ≡ length r.state.order
        → r.state.half ≡ Some j → j ≡ n
    half_own n j w pl h =
        let I = a.holds.inv in
        let x = I.half_of j h in
        let y = I.held_of j x.1 in
        let u = held_later j x.1 in
        let v = read_sooner j x.0 y.1 in
        elim (cases_order (place o (wr n)) (place o (wr j))) [
          | inl e ↦ let q = place_same o (wr n) (wr j) (A.termination n w) e in omega arith
          | inr e ↦ elim e [
            | inl l ↦ absurd (A.atomicity j n x.0 y.0 w (omega arith) l)
            | inr l ↦ omega arith
          ]
        ]

    few_at : (p : ℕ) → f p ≤ sz.lines
    few_at p = let c = a.count p in let l = a.holds.inv.few p in omega arith

    store_line :
        (m : ℕ) → LineIn P m → f (table sz m) ≤ row sz m
        → (P.reads m ≡ true → place o (rd m) < length r.state.order) → Stores m
    store_line m x u h = elim (cases_Bool (P.reads m)) [
      | inl y ↦ let l = h y in let k = keeps (rd m) in let i = (a.holds.inv.rd_of m (omega arith)).1 in let c = a.count (table sz m) in
          let z : ⊥ = omega arith in absurd z
      | inr y ↦ (y, elim x [ inl q ↦ absurd (both_ways (P.reads m) y q) | inr q ↦ q ])
    ]

    -- the lines above n that are not issued only store, if the reads above n have been
    earlier_store :
        (n : ℕ) → LineIn P n
        → ((m : ℕ) → P.reads m ≡ true → Earlier sz m n → place o (rd m) < length r.state.order)
        → (i : ℕ) → f (table sz n) ≤ i → i < row sz n → Stores (number sz (table sz n) i)
    earlier_store n x h i u v =
        let m = number sz (table sz n) i in
        let e = number_earlier sz n i v in
        let t : f (table sz m) ≡ f (table sz n) = ap f e.0 in
        let b = row_below sz n in
        let k = row_number sz (table sz n) i (omega arith) in
        store_line m (L.dense m n e x) (omega arith) (λ y. h m y e)

  -- the next event stands behind those written
  here : (e : ℕ) (rest : List ℕ) (f : ℕ → ℕ) (r : Run M) → Stage (e ∷ rest) f r → times o e ≤ 1 → place o e ≡ length r.state.order
  here e rest f r a h =
      subst (λ (x : List ℕ). place x e ≡ length r.state.order) a.split
      (place_next r.state.order rest e (subst (λ (x : List ℕ). times x e ≤ 1) (sym a.split) h))

  -- the issue of a line leads on
  issue_at :
      (rest rest' : List ℕ) (f : ℕ → ℕ) (r : Run M) (p : ℕ) → Stage rest f r → f p < sz.lines → LineIn P (next P r.state p)
      → CanIssue P r.state (next P r.state p) → (after_issue P.size r.state (next P r.state p) (P.reads (next P r.state p)) (P.writes (next P r.state p))).order ++ rest' ≡ o
      → (P.reads (next P r.state p) ≡ true
      → issue_words P stored start r.state (words_on start r.sheet) (next P r.state p) (next P r.state p) ≡ words (next P r.state p))
      → Go (Issue (p + 1) ∷ []) r rest' (more f p 1)
  issue_at rest rest' f r p a l x C sp w = record { accepted = (ok, tt); at = subst (Stage rest' g) (sym made) at' }
    where
      s : State
      s = r.state

      n : ℕ
      n = next P s p

      g : ℕ → ℕ
      g = more f p 1

      fits : s.issued p < sz.lines
      fits = let c = a.count p in omega arith

      here_p : table sz n ≡ p
      here_p = table_number sz p (s.issued p) fits

      below : n < places sz
      below = elim x [ inl y ↦ L.reads_in n y | inr y ↦ L.writes_in n y ]

      room : places sz ≤ length r.sheet
      room = let h = a.holds.size in omega (arith, wide)

      from_one : p + 1 - 1 ≡ p
      from_one = omega arith

      ok : issue_refusal P s (length r.sheet) (p + 1) ≡ None
      ok =
          subst (λ (q : ℕ). first (issue_tests P s (length r.sheet) (p + 1) q) ≡ None) (sym from_one)
          (issue_free P L s (length r.sheet) (p + 1) p refl (let b = table_below sz n below in let e = here_p in omega arith) room (in_line P p (s.issued p) fits x) C)

      I : Inv P s
      I = a.holds.inv

      r' : Run M
      r' = issued_line P stored start r n

      made : step P stored start (Issue (p + 1)) r ≡ r'
      made =
          ap (λ (z : Option Fault). unless z r (done P stored start (Issue (p + 1)) r)) ok
          ∙ ap (λ (q : ℕ). issued_line P stored start r (next P s q)) from_one

      inside : P.reads n ≡ true → n < length r.sheet
      inside _ = let h = room in let b = below in omega arith

      sheet_is : words_on start r'.sheet ≡ issue_words P stored start s (words_on start r.sheet) n
      sheet_is = words_issue P stored start s r.sheet n inside

      same' : (m : ℕ) → P.reads m ≡ true → Issued P r'.state m → issue_words P stored start s (words_on start r.sheet) n m ≡ words m
      same' m y i = elim (issued_new P s n I C m i) [
        | inl j ↦ sheet_old P L stored start N s (words_on start r.sheet) I a.holds.values n C (P.reads n)
            (worth stored start (words_on start r.sheet) (P.cell n) (source P.size P.cell s n)) m (issued_other P s n I C m j) ∙ a.same m y j
        | inr e ↦ subst (λ z. issue_words P stored start s (words_on start r.sheet) n z ≡ words z) (sym e) (w (subst (λ z. P.reads z ≡ true) e y))
      ]

      at' : Stage rest' g r'
      at' = record {
        split = sp;
        holds = issue_holds P L stored start N sheet₀ r n a.holds C inside;
        count = λ q. let c = a.count q in let d = here_p in cc;
        same = λ m y i. ap (λ (h : ℕ → M). h m) sheet_is ∙ same' m y i;
      }

  -- of a line that only stores, at any stage
  store_at :
      (rest : List ℕ) (f : ℕ → ℕ) (r : Run M) (p : ℕ) → Stage rest f r → f p < sz.lines → Stores (number sz p (f p))
      → Go (Issue (p + 1) ∷ []) r rest (more f p 1)
  store_at rest f r p a l w =
      issue_at rest rest f r p a l (inr st.1)
      (record {
        next = next_row P r.state p (let c = a.count p in omega arith);
        free = λ y. absurd (both_ways (P.reads n) st.0 y);
        whole = λ y. absurd (both_ways (P.reads n) st.0 y);
      })
      (subst (λ (b : Bool). cond b (snoc r.state.order (rd n)) r.state.order ++ rest ≡ o) (sym st.0) a.split)
      (λ y. absurd (both_ways (P.reads n) st.0 y))
    where
      n : ℕ
      n = next P r.state p

      st : Stores n
      st = subst (λ (x : ℕ). Stores (number sz p x)) (sym (a.count p)) w

  -- of Some lines that only store
  fill_at :
      (k : ℕ) (rest : List ℕ) (f : ℕ → ℕ) (r : Run M) (p : ℕ) → Stage rest f r → f p + k ≤ sz.lines
      → ((i : ℕ) → f p ≤ i → i < f p + k → Stores (number sz p i)) → Go (fill k p) r rest (more f p k)
  unfolding fill
  fill_at zero rest f r p a l h = record { accepted = tt; at = recount rest f (more f p 0) r (λ q. grind (arith, nat_tests)) a }
  fill_at (suc k) rest f r p a l h = next_one (fill_at k rest f r p a (omega arith) (λ i u v. h i u (omega arith)))
    where
      next_one : Go (fill k p) r rest (more f p k) → Go (fill k p ++ (Issue (p + 1) ∷ [])) r rest (more f p (suc k))
      next_one G =
          let e = more_self f p k in
          let b = store_at rest (more f p k) (runs (fill k p) r) p G.at (omega arith) (subst (λ (x : ℕ). Stores (number sz p x)) (sym e) (h (f p + k) (omega arith) (omega arith))) in
          let c = go_on (fill k p) (Issue (p + 1) ∷ []) r rest rest (more f p k) (more (more f p k) p 1) G b in
          record { accepted = c.accepted; at = recount rest (more (more f p k) p 1) (more f p (suc k)) (runs (fill k p ++ (Issue (p + 1) ∷ [])) r) (one_more f p k (suc k) refl) c.at }

  -- a drain leads on where its write is next
  drain_at :
      (n : ℕ) (rest : List ℕ) (f : ℕ → ℕ) (r : Run M) → Stage (wr n ∷ rest) f r → P.writes n ≡ true → Issued P r.state n → Go (drain_of sz n ∷ []) r rest f
  drain_at n rest f r a w i = record { accepted = (ok, tt); at = subst (Stage rest f) (sym made) at' }
    where
      I : Inv P r.state
      I = a.holds.inv

      pl : place o (wr n) ≡ length r.state.order
      pl = here (wr n) rest f r a (A.order_write n w)

      C : CanDrain P r.state n
      C = record {
        is_held = elim (cases_Bool (r.state.held n)) [
          | inl h ↦ h
          | inr h ↦ let s = I.wr_in n w i h in let k = keeps (wr n ∷ rest) f r a (wr n) in let z : ⊥ = omega (arith, pl) in absurd z
        ];
        free = λ m h e x. let b = A.wait_write m n (I.held_of m h).0 w e x in not_held (wr n ∷ rest) f r a m h (omega (arith, pl));
        whole = λ j h. half_own (wr n ∷ rest) f r a n j w pl h;
      }

      q : ℕ
      q = table sz n

      k : ℕ
      k = row sz n

      table_one : q + 1 - 1 ≡ q
      table_one = omega arith

      row_one : k + 1 - 1 ≡ k
      row_one = omega arith

      ok : drain_refusal P r.state (q + 1) (k + 1) ≡ None
      ok =
          subst (λ (x : ℕ). first (drain_tests P r.state (q + 1) (k + 1) x (k + 1 - 1)) ≡ None) (sym table_one)
          (subst (λ (x : ℕ). first (drain_tests P r.state (q + 1) (k + 1) q x) ≡ None) (sym row_one) (drain_free P L r.state n (inr w) C))

      r' : Run M
      r' = drained_line P stored start r n

      made : step P stored start (drain_of sz n) r ≡ r'
      made =
          ap (λ (z : Option Fault). unless z r (done P stored start (drain_of sz n) r)) ok
          ∙ (ap (λ (x : ℕ). drained_line P stored start r (number sz x (k + 1 - 1))) table_one
          ∙ (ap (λ (x : ℕ). drained_line P stored start r (number sz q x)) row_one
          ∙ ap (drained_line P stored start r) (number_table_row sz n)))

      at' : Stage rest f r'
      at' = record {
        split = append_assoc r.state.order (wr n ∷ []) rest ∙ a.split;
        holds = drain_holds P L stored start N sheet₀ r n a.holds C;
        count = a.count;
        same = a.same;
      }

  -- of a line that reads, where its read is next
  read_issue :
      (p : ℕ) (rest : List ℕ) (f : ℕ → ℕ) (r : Run M) → Stage (rd (next P r.state p) ∷ rest) f r → f p < sz.lines → P.reads (next P r.state p) ≡ true
      → Go (Issue (p + 1) ∷ []) r rest (more f p 1)
  read_issue p rest f r a l y = issue_at (rd n ∷ rest) rest f r p a l (inl y) C sp (λ _. word_is)
    where
      n : ℕ
      n = next P r.state p

      I : Inv P r.state
      I = a.holds.inv

      pl : place o (rd n) ≡ length r.state.order
      pl = here (rd n) rest f r a (let t = A.order_read n y in omega arith)

      unissued : row sz n ≡ r.state.issued (table sz n)
      unissued = next_row P r.state p (let c = a.count p in omega arith)

      C : CanIssue P r.state n
      C = record { next = unissued; free = free; whole = λ _ w. whole w r.state.half refl }
        where
          sooner : (m : ℕ) → P.writes m ≡ true → Earlier sz m n → P.wait m n ≡ true → place o (wr m) < place o (rd n)
          sooner m v e x = elim (cases_Bool (P.writes n)) [
            | inr w ↦ A.wait_load m n v y w e x
            | inl w ↦ let b = A.wait_write m n v w e x in elim (cases_order (place o (wr m)) (place o (rd n))) [
              | inl q ↦ let t = place_same o (wr m) (rd n) (A.termination m v) q in let z : ⊥ = omega arith in absurd z
              | inr q ↦ elim q [ inl k ↦ k | inr k ↦ absurd (A.atomicity n m y w v k b) ]
            ]
          ]

          free : P.reads n ≡ true → (m : ℕ) → r.state.held m ≡ true → Earlier sz m n → P.wait m n ≡ true → ⊥
          free _ m h e x = let b = sooner m (I.held_of m h).0 e x in not_held (rd n ∷ rest) f r a m h (omega (arith, pl))

          whole : P.writes n ≡ true → (h : Option ℕ) → r.state.half ≡ h → h ≡ None
          whole w None q = refl
          whole w (Some j) q =
              let x = I.half_of j q in
              let v = I.held_of j x.1 in
              let u = held_later (rd n ∷ rest) f r a j x.1 in
              let t = read_sooner (rd n ∷ rest) f r a j x.0 v.1 in
              let k = A.load_write n n y w (inr refl) in
              elim (cases_order (place o (wr n)) (place o (wr j))) [
                | inl e ↦ let d = place_same o (wr n) (wr j) (A.termination n w) e in let i : Issued P r.state n = subst (Issued P r.state) (omega arith) v.1 in
                    let z : ⊥ = omega (arith, pl, unissued) in absurd z
                | inr e ↦ elim e [
                  | inl b ↦ absurd (A.atomicity j n x.0 v.0 w (omega (arith, pl)) b)
                  | inr b ↦ elim (cases_eq (place o (wr j)) (place o (rd n))) [
                    | inl d ↦ let g = place_same o (wr j) (rd n) (A.termination j v.0) d in let z : ⊥ = omega (arith, pl, unissued) in absurd z
                    | inr d ↦ absurd (A.atomicity n j y w v.0 (omega (arith, pl)) b)
                  ]
                ]
              ]

      o' : List ℕ
      o' = (after_issue P.size r.state n (P.reads n) (P.writes n)).order

      sp : o' ++ rest ≡ o
      sp = subst (λ (b : Bool). cond b (snoc r.state.order (rd n)) r.state.order ++ rest ≡ o) (sym y) (append_assoc r.state.order (rd n ∷ []) rest ∙ a.split)

      sheet' : ℕ → M
      sheet' = issue_words P stored start r.state (words_on start r.sheet) n

      st : Inside o' (rd n)
      st = ((issue_grows P r.state n I C).added (rd n) (y, refl)).0

      v : (w : Option ℕ) × Source P o' n w × (sheet' n ≡ worth stored start sheet' (P.cell n) w)
      v = issue_values P L stored start N r.state (words_on start r.sheet) I a.holds.values n C n st

      stored_is : (m : ℕ) → Issued P r.state m → stored sheet' m ≡ stored words m
      stored_is m i = N sheet' words m (λ k y e.
          let j = issued_up_to P r.state k m e i in
          sheet_old P L stored start N r.state (words_on start r.sheet) I a.holds.values n C (P.reads n)
          (worth stored start (words_on start r.sheet) (P.cell n) (source P.size P.cell r.state n)) k (issued_other P r.state n I C k j)
          ∙ a.same k y j)

      worth_is : (w : Option ℕ) → Source P o' n w → worth stored start sheet' (P.cell n) w ≡ worth stored start words (P.cell n) w
      worth_is None z = refl
      worth_is (Some m) z = stored_is m (named P L stored start N r.state (words_on start r.sheet) I a.holds.values n C y m z)

      word_is : sheet' n ≡ words n
      word_is =
          v.2 ∙ (worth_is v.0 v.1
          ∙ sym (source_word P L stored start o words A n y (source_grow (subst (λ (x : List ℕ). Keeps o' x) sp (keeps_append o' rest)) P n st v.1)))

  -- the calls for a write, and for a read, lead on
  write_at :
      (n : ℕ) (rest : List ℕ) (f : ℕ → ℕ) (r : Run M) → Stage (wr n ∷ rest) f r → P.writes n ≡ true
      → Go (fill (lacking sz f n) (table sz n) ++ (drain_of sz n ∷ [])) r rest (up_to sz f n)
  write_at n rest f r a w = end first_part
    where
      p : ℕ
      p = table sz n

      k : ℕ
      k = lacking sz f n

      d : List Call
      d = drain_of sz n ∷ []

      pl : place o (wr n) ≡ length r.state.order
      pl = here (wr n) rest f r a (A.order_write n w)

      stores : (i : ℕ) → f p ≤ i → i < f p + k → Stores (number sz p i)
      stores i u v = elim (cases_eq i (row sz n)) [
        | inl e ↦ subst (λ (x : ℕ). Stores (number sz p x)) (sym e) (subst Stores (sym (number_table_row sz n))
            (store_line (wr n ∷ rest) f r a n (inr w) (omega arith) (λ y. let b = A.load_write n n y w (inr refl) in omega (arith, pl))))
        | inr e ↦ earlier_store (wr n ∷ rest) f r a n (inr w) (λ m y x. let b = A.load_write m n y w (inl x) in omega (arith, pl)) i u (omega arith)
      ]

      first_part : Go (fill k p) r (wr n ∷ rest) (more f p k)
      first_part = fill_at k (wr n ∷ rest) f r p a (let h = few_at (wr n ∷ rest) f r a p in let b = row_below sz n in omega arith) stores

      end : Go (fill k p) r (wr n ∷ rest) (more f p k) → Go (fill k p ++ d) r rest (up_to sz f n)
      end G =
          let r₁ = runs (fill k p) r in
          let e = more_self f p k in
          let c = G.at.count p in
          let D = drain_at n rest (more f p k) r₁ G.at w (omega arith) in
          go_on (fill k p) d r (wr n ∷ rest) rest (more f p k) (more f p k) G D

  read_at :
      (n : ℕ) (rest : List ℕ) (f : ℕ → ℕ) (r : Run M) → Stage (rd n ∷ rest) f r → P.reads n ≡ true
      → Go (fill (lacking sz f n) (table sz n)) r rest (up_to sz f n)
  unfolding fill
  read_at n rest f r a y = subst (λ (x : ℕ). Go (fill x p) r rest (up_to sz f n)) (sym counted) (end first_part)
    where
      p : ℕ
      p = table sz n

      k : ℕ
      k = row sz n - f p

      pl : place o (rd n) ≡ length r.state.order
      pl = here (rd n) rest f r a (let t = A.order_read n y in omega arith)

      unissued : f p ≤ row sz n
      unissued = elim (cases_lt (row sz n) (f p)) [
        | inl l ↦ let c = a.count p in let b = read_sooner (rd n ∷ rest) f r a n y (omega arith) in let z : ⊥ = omega (arith, pl) in absurd z
        | inr l ↦ l
      ]

      counted : lacking sz f n ≡ suc k
      counted = let u = unissued in omega arith

      below : row sz n < sz.lines
      below = row_below sz n

      first_part : Go (fill k p) r (rd n ∷ rest) (more f p k)
      first_part = fill_at k (rd n ∷ rest) f r p a (let u = unissued in let b = below in omega arith)
          (λ i u v. earlier_store (rd n ∷ rest) f r a n (inl y) (λ m x e. let b = A.load_read m n x y e in omega (arith, pl)) i u (omega arith))

      then : ℕ → ℕ
      then = more (more f p k) p 1

      end : Go (fill k p) r (rd n ∷ rest) (more f p k) → Go (fill k p ++ (Issue (p + 1) ∷ [])) r rest (up_to sz f n)
      end G =
          let r₁ = runs (fill k p) r in
          let e = more_self f p k in
          let c = G.at.count p in
          let u = unissued in
          let b = below in
          let i : row sz n ≡ r₁.state.issued p = omega arith in
          let q = sym (number_table_row sz n) ∙ ap (number sz p) i in
          let B = read_issue p rest (more f p k) r₁ (subst (λ (x : ℕ). Stage (rd x ∷ rest) (more f p k) r₁) q G.at) (omega arith) (subst (λ (x : ℕ). P.reads x ≡ true) q y) in
          let H = go_on (fill k p) (Issue (p + 1) ∷ []) r (rd n ∷ rest) rest (more f p k) then G B in
          record {
            accepted = H.accepted;
            at = recount rest then (up_to sz f n) (runs (fill k p ++ (Issue (p + 1) ∷ [])) r) (one_more f p k (lacking sz f n) counted) H.at;
          }

  abbrev fills : (ℕ → ℕ) → ℕ → List Call
  fills f e = fill (lacking sz f (e / 2)) (table sz (e / 2))

  abbrev event_calls : (ℕ → ℕ) → ℕ → List Call
  event_calls f e = fills f e ++ drains sz (e / 2) (e % 2)

  event_at : (e : ℕ) (rest : List ℕ) (f : ℕ → ℕ) (r : Run M) → Stage (e ∷ rest) f r → Go (event_calls f e) r rest (up_to sz f (e / 2))
  event_at e rest f r a = go (Li (place o e) e (at_place o e (subst (λ (x : List ℕ). Inside x e) a.split (stands_next r.state.order rest e))))
    where
      last_call : List Call
      last_call = drain_of sz (e / 2) ∷ []

      go : Event P e → Go (event_calls f e) r rest (up_to sz f (e / 2))
      go (read n y h) =
          let q : n ≡ e / 2 = omega arith in
          let k : e ≡ rd (e / 2) = omega arith in
          let G = read_at (e / 2) rest f r (subst (λ (z : ℕ). Stage (z ∷ rest) f r) k a) (subst (λ (z : ℕ). P.reads z ≡ true) q y) in
          let b : eqb (e % 2) 1 ≡ false = ne_eqb (e % 2) 1 (omega arith) in
          subst (λ (t : Bool). Go (fills f e ++ cond t last_call []) r rest (up_to sz f (e / 2))) (sym b)
          (subst (λ (z : List Call). Go z r rest (up_to sz f (e / 2))) (sym (append-nil (fills f e))) G)
      go (write n w h) =
          let q : n ≡ e / 2 = omega arith in
          let k : e ≡ wr (e / 2) = omega arith in
          let G = write_at (e / 2) rest f r (subst (λ (z : ℕ). Stage (z ∷ rest) f r) k a) (subst (λ (z : ℕ). P.writes z ≡ true) q w) in
          let b : eqb (e % 2) 1 ≡ true = eq-eqb (e % 2) 1 (omega arith) in
          subst (λ (t : Bool). Go (fills f e ++ cond t last_call []) r rest (up_to sz f (e / 2))) (sym b) G

  -- so does the schedule, to the end
  all_at : (rest : List ℕ) (f : ℕ → ℕ) (r : Run M) → Stage rest f r → (g : ℕ → ℕ) × Go (schedule sz f rest) r [] g
  all_at [] f r a = (f, record { accepted = tt; at = a })
  all_at (e ∷ rest) f r a = end (event_at e rest f r a) (λ b. all_at rest (up_to sz f (e / 2)) (runs (event_calls f e) r) b)
    where
      f' : ℕ → ℕ
      f' = up_to sz f (e / 2)

      r' : Run M
      r' = runs (event_calls f e) r

      end : Go (event_calls f e) r rest f' → (Stage rest f' r' → (g : ℕ → ℕ) × Go (schedule sz f' rest) r' [] g) → (g : ℕ → ℕ) × Go (schedule sz f (e ∷ rest)) r [] g
      end G below =
          let B = below G.at in (
            B.0,
            subst (λ (z : List Call). Go z r [] B.0)
                (append_assoc (fills f e) (drains sz (e / 2) (e % 2)) (schedule sz f' rest))
                (go_on (event_calls f e) (schedule sz f' rest) r rest [] f' B.0 G B.1),
          )

  completed : (g : ℕ → ℕ) (r : Run M) → Stage [] g r → Completed P stored start o words r
  completed g r a = record {
    none_left = λ p. elim (cases_Bool (has_next P r.state p)) [ inr h ↦ h | inl h ↦ absurd (left p h) ];
    none_held = λ n. elim (cases_Bool (r.state.held n)) [
      | inr h ↦ h
      | inl h ↦ let x = I.held_of n h in absurd (both_ways (r.state.held n) (I.wr_of n (on (wr n) (A.termination n x.0))).2 h)
    ];
    written = ord;
    same = λ n y. a.same n y (line_issued n (inl y));
  }
    where
      I : Inv P r.state
      I = a.holds.inv

      ord : r.state.order ≡ o
      ord = sym (append-nil r.state.order) ∙ a.split

      on : (e : ℕ) → Inside o e → Inside r.state.order e
      on e s = subst (λ (x : List ℕ). Inside x e) (sym ord) s

      line_issued : (n : ℕ) → LineIn P n → Issued P r.state n
      line_issued n (inl y) = (I.rd_of n (on (rd n) (stands_from o (rd n) (let t = A.order_read n y in omega arith)))).1
      line_issued n (inr w) = (I.wr_of n (on (wr n) (A.termination n w))).1

      left : (p : ℕ) → has_next P r.state p ≡ true → ⊥
      left p h =
          let b = line_in P p (r.state.issued p) h in
          let i = line_issued (next P r.state p) b.1 in
          let e = next_row P r.state p b.0 in
          omega arith

  pub schedule_completes :
      Accepted P stored start (schedule sz (λ _. 0) o) (new sheet₀)
      × Completed P stored start o words (runs (schedule sz (λ _. 0) o) (new sheet₀))
  schedule_completes = (G.1.accepted, completed G.0 (runs (schedule sz (λ _. 0) o) (new sheet₀)) G.1.at)
    where
      G : (g : ℕ → ℕ) × Go (schedule sz (λ _. 0) o) (new sheet₀) [] g
      G = all_at o (λ _. 0) (new sheet₀) (record {
        split = refl;
        holds = new_holds P L stored start N sheet₀;
        count = λ _. refl;
        same = λ n y i. let z : ⊥ = omega arith in absurd z;
      })
