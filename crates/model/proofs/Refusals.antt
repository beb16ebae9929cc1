-- A call is refused exactly if the machine may not make it.
use Rattle.std.proofs.Common.{◌≡◌, ℕ, ◌+◌, ◌<◌, ◌≤◌, Bool, true, false, not, ◌&&◌, ◌||◌, eqb, ltb, leb, List, [], ◌∷◌, Some, None, Option, sym, refl, ap, ◌∙◌, subst, inl, inr, arith}
use Rattle.std.proofs.lemmas.Option.{none-some}
use Rattle.std.proofs.lemmas.Bool.{cases_eq, both_ways, eq-eqb, ne_eqb, and_parts, and_from, ltb-true, not_from_false, lt-ltb, or_left, or_right, le-leb, leb-true, not_from_true, or_cases}
use Rattle.faults.specs.declared.Fault.{Fault}
use Rattle.faults.specs.declared.Fault.TheVariants.{ProcessorUnknown, LineUnknown, SheetShort, NoLineLeft, IssueWaits, SwapHalfDone, NotHeld, DrainWaits}
use Rattle.tables.specs.Size.{Size, Earlier, rd, row, places, number, table}
use Rattle.tables.proofs.Numbering.{table_below, row_number, table_number, row_below, number_table_row}
use Rattle.model.specs.Program.{Program}
use Rattle.model.specs.Machine.{State, ask, bar, first, other_half, is_processor, has_line, told, earlier, stops, blocker, has_next, next, issue_tests, drain_tests}
use Rattle.model.proofs.Extremes.{some≢none, lowest_none, none_lowest}
use Rattle.model.proofs.Invariant.{CanDrain, CanIssue, Inv}
use Rattle.model.proofs.Lawful.{Lawful, LineIn}
use Rattle.model.proofs.WordsRead.{earlier_true, true_earlier}

-- none of some refusals comes
abbrev pub NoneCome : List (Option Fault) → Type 0
NoneCome [] = Unit {0}
NoneCome (f ∷ fs) = (f ≡ None) × NoneCome fs

pub first_none : (fs : List (Option Fault)) → first fs ≡ None → NoneCome fs
first_none [] e = tt
first_none (None ∷ fs) e = (refl, first_none fs e)
first_none (Some f ∷ fs) e = absurd (some≢none f e)

pub none_first : (fs : List (Option Fault)) → NoneCome fs → first fs ≡ None
none_first [] h = refl
none_first (None ∷ fs) h = none_first fs h.1
none_first (Some f ∷ fs) h = h.0

pub ask_none : (f : Fault) (b : Bool) → ask f b ≡ None → b ≡ true
ask_none f true e = refl
ask_none f false e = absurd (some≢none f e)

pub none_ask : (f : Fault) (b : Bool) → b ≡ true → ask f b ≡ None
none_ask f true e = refl
none_ask f false e = absurd (both_ways false refl e)

pub bar_none : (f : ℕ → Fault) (b : Bool) (o : Option ℕ) → bar f b o ≡ None → b ≡ true → o ≡ None
bar_none f false o e t = absurd (both_ways false refl t)
bar_none f true None e t = refl
bar_none f true (Some m) e t = absurd (some≢none (f m) e)

pub none_bar : (f : ℕ → Fault) (b : Bool) (o : Option ℕ) → (b ≡ true → o ≡ None) → bar f b o ≡ None
none_bar f false o h = refl
none_bar f true None h = refl
none_bar f true (Some m) h = absurd (some≢none m (h refl))

pub processor_is : (z : Size) (p : ℕ) → 0 < p → p ≤ z.tables → is_processor z p ≡ true
processor_is z p l h = and_from (ltb 0 p) (leb p z.tables) (lt-ltb 0 p l) (le-leb p z.tables h)

pub line_in : (P : Program) (q k : ℕ) → has_line P q k ≡ true → (k < P.size.lines) × LineIn P (number P.size q k)
line_in P q k h =
    let n = number P.size q k in
    let a = and_parts (ltb k P.size.lines) (P.reads n || P.writes n) h in
    (ltb-true k P.size.lines a.0, or_cases (P.reads n) (P.writes n) a.1)

pub in_line : (P : Program) (q k : ℕ) → k < P.size.lines → LineIn P (number P.size q k) → has_line P q k ≡ true
in_line P q k l x =
    let n = number P.size q k in
    and_from (ltb k P.size.lines) (P.reads n || P.writes n) (lt-ltb k P.size.lines l)
    (elim x [ inl r ↦ or_left (P.reads n) (P.writes n) r | inr w ↦ or_right (P.reads n) (P.writes n) w ])

-- the next line of a table is the first that is not issued
pub next_row : (P : Program) (s : State) (q : ℕ) → s.issued q < P.size.lines → row P.size (next P s q) ≡ s.issued (table P.size (next P s q))
next_row P s q l = row_number P.size q (s.issued q) l ∙ ap s.issued (sym (table_number P.size q (s.issued q) l))

module _ (P : Program) (L : Lawful P) (s : State) where
  no_blocker : (n : ℕ) → blocker P s n ≡ None → (m : ℕ) → m < places P.size → s.held m ≡ true → Earlier P.size m n → P.wait m n ≡ true → ⊥
  no_blocker n b m l h e w =
      lowest_none (stops P s n) (places P.size) b m l
      (and_from (s.held m) (earlier P.size m n && P.wait m n) h
      (and_from (earlier P.size m n) (P.wait m n) (true_earlier P.size m n e) w))

  blocker_none : (n : ℕ) → ((m : ℕ) → s.held m ≡ true → Earlier P.size m n → P.wait m n ≡ true → ⊥) → blocker P s n ≡ None
  blocker_none n h = none_lowest (stops P s n) (places P.size)
      (λ m l e. let a = and_parts (s.held m) (earlier P.size m n && P.wait m n) e in
      let b = and_parts (earlier P.size m n) (P.wait m n) a.1 in
      h m a.0 (earlier_true P.size m n b.0) b.1)

  -- the faults that a wait and a half-done swap give
  abbrev waits_at_issue : ℕ → Fault
  waits_at_issue m = IssueWaits (told P.size m)

  abbrev waits_at_drain : ℕ → Fault
  waits_at_drain m = DrainWaits (told P.size m)

  abbrev half_done : ℕ → Fault
  half_done j = SwapHalfDone (rd j)

  module _ (I : Inv P s) where
    pub can_issue : (room p q : ℕ) → first (issue_tests P s room p q) ≡ None → CanIssue P s (next P s q) × (next P s q < room)
    can_issue room p q e =
        let n = next P s q in
        let a = first_none (issue_tests P s room p q) e in
        let h = line_in P q (s.issued q) (ask_none (NoLineLeft p) (has_next P s q) a.1.1.0) in
        let l = leb-true (places P.size) room (ask_none (SheetShort room) (leb (places P.size) room) a.1.0) in
        let b = bar_none waits_at_issue (P.reads n) (blocker P s n) a.1.1.1.0 in
        let c = bar_none half_done (P.reads n && P.writes n) s.half a.1.1.1.1.0 in (
          record {
            next = next_row P s q h.0;
            free = λ r m k. no_blocker n (b r) m (L.writes_in m (I.held_of m k).0) k;
            whole = λ r w. c (and_from (P.reads n) (P.writes n) r w);
          },
          let k : n < places P.size = elim h.1 [ inl r ↦ L.reads_in n r | inr w ↦ L.writes_in n w ] in omega arith,
        )

    pub can_drain : (p l q k : ℕ) → first (drain_tests P s p l q k) ≡ None → CanDrain P s (number P.size q k)
    can_drain p l q k e =
        let a = first_none (drain_tests P s p l q k) e in
        record {
          is_held = ask_none (NotHeld l) (s.held n) a.1.1.0;
          free = λ m h. no_blocker n (bar_none waits_at_drain true (blocker P s n) a.1.1.1.0 refl) m (L.writes_in m (I.held_of m h).0) h;
          whole = whole s.half a.1.1.1.1.0;
        }
      where
        n : ℕ
        n = number P.size q k

        whole : (h : Option ℕ) → bar half_done (other_half h n) h ≡ None → (j : ℕ) → h ≡ Some j → j ≡ n
        whole None r j x = absurd (none-some j x)
        whole (Some i) r j x = elim (cases_eq i n) [
          | inl y ↦ let d : i ≡ j = cc in cc
          | inr y ↦ absurd (some≢none i (bar_none half_done (other_half (Some i) n) (Some i) r (not_from_false (eqb i n) (ne_eqb i n y))))
        ]

  pub issue_free :
      (room p q : ℕ) → p ≡ q + 1 → q < P.size.tables → places P.size ≤ room → has_next P s q ≡ true → CanIssue P s (next P s q)
      → first (issue_tests P s room p q) ≡ None
  issue_free room p q e t l h C =
      let n = next P s q in
      none_first (issue_tests P s room p q) (
        none_ask ProcessorUnknown (is_processor P.size p) (processor_is P.size p (omega arith) (omega arith)),
        (
          none_ask (SheetShort room) (leb (places P.size) room) (le-leb (places P.size) room l),
          (
            none_ask (NoLineLeft p) (has_next P s q) h,
            (
              none_bar waits_at_issue (P.reads n) (blocker P s n) (λ r. blocker_none n (C.free r)),
              (
                none_bar half_done (P.reads n && P.writes n) s.half (λ x. let a = and_parts (P.reads n) (P.writes n) x in C.whole a.0 a.1),
                tt,
              ),
            ),
          ),
        ),
      )

  pub drain_free :
      (n : ℕ) → LineIn P n → CanDrain P s n
      → first (drain_tests P s (table P.size n + 1) (row P.size n + 1) (table P.size n) (row P.size n)) ≡ None
  drain_free n x C =
      none_first (drain_tests P s (q + 1) (k + 1) q k) (
        none_ask ProcessorUnknown (is_processor P.size (q + 1)) (processor_is P.size (q + 1) (omega arith) there),
        (
          none_ask (LineUnknown (k + 1)) (ltb 0 (k + 1) && has_line P q k)
              (and_from (ltb 0 (k + 1)) (has_line P q k) (lt-ltb 0 (k + 1) (omega arith)) (in_line P q k (row_below P.size n) (subst (LineIn P) (sym e) x))),
          (
            none_ask (NotHeld (k + 1)) (s.held m) D.is_held,
            (
              none_bar waits_at_drain true (blocker P s m) (λ _. blocker_none m D.free),
              (none_bar half_done (other_half s.half m) s.half (half s.half D.whole), tt),
            ),
          ),
        ),
      )
    where
      q : ℕ
      q = table P.size n

      k : ℕ
      k = row P.size n

      m : ℕ
      m = number P.size q k

      e : m ≡ n
      e = number_table_row P.size n

      there : q + 1 ≤ P.size.tables
      there = let a = table_below P.size n (elim x [ inl r ↦ L.reads_in n r | inr w ↦ L.writes_in n w ]) in omega arith

      D : CanDrain P s m
      D = subst (CanDrain P s) (sym e) C

      half : (h : Option ℕ) → ((j : ℕ) → h ≡ Some j → j ≡ m) → other_half h m ≡ true → h ≡ None
      half None w y = refl
      half (Some j) w y = absurd (both_ways (not (eqb j m)) (not_from_true (eqb j m) (eq-eqb j m (w j refl))) y)
