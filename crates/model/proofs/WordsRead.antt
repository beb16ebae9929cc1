-- The words on the sheet came from the sources of their reads, after each call.
use Rattle.std.proofs.Common.{◌≡◌, ℕ, Bool, true, false, cond, ◌&&◌, eqb, ltb, List, length, Some, None, Option, sym, refl, ◌∙◌, subst, inl, inr, arith}
use Rattle.std.proofs.lemmas.Bool.{cases_Bool, both_ways, eq-eqb, ne_eqb, and_parts, and_from, eqb-true, ltb-true, cond-true, cond-false, cases_lt, lt-ltb}
use Rattle.tables.specs.Size.{Earlier, rd, places, wr, Size, table}
use Rattle.model.specs.Program.{Program}
use Rattle.model.specs.Axioms.{worth}
use Rattle.model.specs.Machine.{source, highest, after_issue, State, after_drain, earlier, or_else}
use Rattle.model.proofs.DrainKeeps.{drain_grows}
use Rattle.model.proofs.Extremes.{highest_is, Highest}
use Rattle.model.proofs.Invariant.{old, Issued, own, Source, Drained, nil, Own, CanDrain, issued_earlier, Old, Values, source_grow, issued_up_to, CanIssue, Inv, LastIs}
use Rattle.model.proofs.IssueKeeps.{issued_other, above_issued, issue_grows}
use Rattle.model.proofs.Lawful.{Lawful, Local}
use Rattle.model.proofs.Positions.{grow_place, place, Grow, place_le}

module _ (z : Size) where
  pub earlier_true : (m n : ℕ) → earlier z m n ≡ true → Earlier z m n
  earlier_true m n e =
      let p = and_parts (eqb (table z m) (table z n)) (ltb m n) e in (eqb-true (table z m) (table z n) p.0, ltb-true m n p.1)

  pub true_earlier : (m n : ℕ) → Earlier z m n → earlier z m n ≡ true
  true_earlier m n e = and_from (eqb (table z m) (table z n)) (ltb m n) (eq-eqb (table z m) (table z n) e.0) (lt-ltb m n e.1)

-- what line n puts on a sheet of meanings
module _ {M : Type 0} where
  abbrev pub put : (ℕ → M) → ℕ → M → ℕ → M
  put sheet n v m = cond (eqb m n) v (sheet m)

  abbrev pub issue_words : Program → ((ℕ → M) → ℕ → M) → (ℕ → M) → State → (ℕ → M) → ℕ → ℕ → M
  issue_words P stored start s sheet n =
      cond (P.reads n) (put sheet n (worth stored start sheet (P.cell n) (source P.size P.cell s n))) sheet

-- the lines that a source names were issued
source_issued : (P : Program) (s : State) → Inv P s → (n m : ℕ) → Issued P s n → Source P s.order n (Some m) → Issued P s m
source_issued P s I n m i (own c h) = issued_earlier P s m n c.earlier i
source_issued P s I n m i (old k c h) = let b = c.before in let p = place_le s.order (rd n) in (I.wr_of m (omega arith)).1

module _ {M : Type 0} (P : Program) (L : Lawful P) (stored : (ℕ → M) → ℕ → M) (start : ℕ → M) (N : Local P stored) (s : State) (sheet : ℕ → M) (I : Inv P s) (V : Values P stored start s.order sheet) where
  pub drain_values : (n : ℕ) → CanDrain P s n → Values P stored start (after_drain s n (P.cell n)).order sheet
  drain_values n C k st =
      let G = drain_grows P s n I C in
      elim (G.new (rd k) st) [
        | inl o ↦ let v = V k o in (v.0, source_grow (grow_place G) P k o v.1, v.2)
        | inr a ↦ let z : ⊥ = omega arith in absurd z
      ]

  module _ (n : ℕ) (C : CanIssue P s n) where
    abbrev G : Grow (λ e. (P.reads n ≡ true) × (e ≡ rd n)) s.order (after_issue P.size s n (P.reads n) (P.writes n)).order
    G = issue_grows P s n I C

    abbrev o' : List ℕ
    o' = (after_issue P.size s n (P.reads n) (P.writes n)).order

    abbrev sheet' : ℕ → M
    sheet' = issue_words P stored start s sheet n

    pub sheet_old : (b : Bool) (v : M) (k : ℕ) → (k ≡ n → ⊥) → cond b (put sheet n v) sheet k ≡ sheet k
    sheet_old true v k e = cond-false (eqb k n) v (sheet k) (ne_eqb k n e)
    sheet_old false v k e = refl

    sheet_self : (b : Bool) (v : M) → b ≡ true → cond b (put sheet n v) sheet n ≡ v
    sheet_self true v e = cond-true (eqb n n) v (sheet n) (eq-eqb n n refl)
    sheet_self false v e = absurd (both_ways false refl e)

    word_old : (m : ℕ) → Issued P s m → stored sheet' m ≡ stored sheet m
    word_old m i = N sheet' sheet m (λ k y e.
        sheet_old (P.reads n) (worth stored start sheet (P.cell n) (source P.size P.cell s n)) k (issued_other P s n I C k (issued_up_to P s k m e i)))

    worth_old : (c : ℕ) (w : Option ℕ) → ((m : ℕ) → w ≡ Some m → Issued P s m) → worth stored start sheet' c w ≡ worth stored start sheet c w
    worth_old c None h = refl
    worth_old c (Some m) h = word_old m (h m refl)

    abbrev held_f : ℕ → Bool
    held_f m = s.held m && (earlier P.size m n && eqb (P.cell m) (P.cell n))

    module _ (r : P.reads n ≡ true) where
      at_end : place o' (rd n) ≡ length s.order
      at_end = (G.added (rd n) (r, refl)).2

      own_of : (j : ℕ) → held_f j ≡ true → Own P o' n j
      own_of j h =
          let a = and_parts (s.held j) (earlier P.size j n && eqb (P.cell j) (P.cell n)) h in
          let b = and_parts (earlier P.size j n) (eqb (P.cell j) (P.cell n)) a.1 in
          record {
            writes = (I.held_of j a.0).0;
            cell = eqb-true (P.cell j) (P.cell n) b.1;
            earlier = earlier_true P.size j n b.0;
            late = elim (cases_lt (place s.order (wr j)) (length s.order)) [
              | inl l ↦ absurd (both_ways (s.held j) (I.wr_of j l).2 a.0)
              | inr l ↦ let p = place_le s.order (wr j) in let q = G.late (wr j) (omega arith) in let e = at_end in omega arith
            ];
          }

      of_own : (j : ℕ) → Own P o' n j → held_f j ≡ true
      of_own j c = elim (cases_Bool (s.held j)) [
        | inl h ↦ and_from (s.held j) (earlier P.size j n && eqb (P.cell j) (P.cell n)) h
            (and_from (earlier P.size j n) (eqb (P.cell j) (P.cell n)) (true_earlier P.size j n c.earlier) (eq-eqb (P.cell j) (P.cell n) c.cell))
        | inr h ↦ let q = I.wr_in j c.writes (above_issued P s n I C j c.earlier) h in let t = G.old (wr j) q in
            let e = at_end in let k = c.late in let z : ⊥ = omega arith in absurd z
      ]

      drained_of : (j : ℕ) → Old P o' n j → Drained P s.order (P.cell n) j
      drained_of j d = record {
        writes = d.writes;
        cell = d.cell;
        stands = let b = d.before in let e = at_end in let g = grow_place G (wr j) in omega arith;
      }

      old_of : (j : ℕ) → Drained P s.order (P.cell n) j → Old P o' n j
      old_of j d = record {
        writes = d.writes;
        cell = d.cell;
        before = let b = G.old (wr j) d.stands in let t = d.stands in let e = at_end in omega arith;
      }

      -- the write that the machine takes is the source
      chosen : Source P o' n (source P.size P.cell s n)
      chosen = go (highest held_f (places P.size)) (highest_is held_f (places P.size))
        where
          then : ((j : ℕ) → Own P o' n j → ⊥) → (v : Option ℕ) → LastIs P s.order (P.cell n) v → Source P o' n v
          then k None h = nil k (λ j d. h j (drained_of j d))
          then k (Some m) h =
              old k (old_of m h.0)
              (λ j d. let e = drained_of j d in let q = h.1 j e in let a = G.old (wr j) e.stands in let b = G.old (wr m) h.0.stands in omega arith)

          go : (w : Option ℕ) → Highest held_f (places P.size) w → Source P o' n (or_else w (s.last (P.cell n)))
          go (Some m) h = own (own_of m h.0) (λ j c. h.2 j (L.writes_in j c.writes) (of_own j c))
          go None h = then (λ j c. h j (L.writes_in j c.writes) (of_own j c)) (s.last (P.cell n)) (I.last_is (P.cell n))

      pub named : (m : ℕ) → Source P o' n (Some m) → Issued P s m
      named m (own c h) = above_issued P s n I C m c.earlier
      named m (old k c h) = (I.wr_of m (drained_of m c).stands).1

    abbrev Valued : ℕ → Type 0
    Valued k = (w : Option ℕ) × Source P o' k w × (sheet' k ≡ worth stored start sheet' (P.cell k) w)

    new_value : P.reads n ≡ true → Valued n
    new_value r = (
      source P.size P.cell s n,
      chosen r,
      sheet_self (P.reads n) (worth stored start sheet (P.cell n) (source P.size P.cell s n)) r
          ∙ sym (worth_old (P.cell n) (source P.size P.cell s n) (λ m e. named r m (subst (Source P o' n) e (chosen r)))),
    )

    pub issue_values : Values P stored start o' sheet'
    issue_values k st = elim (G.new (rd k) st) [
      | inl x ↦ let v = V k x in let i = (I.rd_of k x).1 in (
        v.0,
        source_grow (grow_place G) P k x v.1,
        sheet_old (P.reads n) (worth stored start sheet (P.cell n) (source P.size P.cell s n)) k (issued_other P s n I C k i)
            ∙ (v.2 ∙ sym (worth_old (P.cell k) v.0 (λ m e. source_issued P s I k m i (subst (Source P s.order k) e v.1)))),
      )
      | inr a ↦ let e : n ≡ k = omega arith in subst Valued e (new_value a.0)
    ]
