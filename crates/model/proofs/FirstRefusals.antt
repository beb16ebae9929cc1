-- Which test of a call is the first that refuses it.
use Rattle.std.proofs.Common.{◌≡◌, ℕ, ◌-◌, ◌<◌, ◌≤◌, Bool, true, false, ◌&&◌, ◌||◌, eqb, ltb, leb, ◌⊎◌, List, [], ◌∷◌, Some, None, Option, sym, refl, ◌∙◌, subst, inl, inr, arith}
use Rattle.std.proofs.lemmas.Bool.{and_left, and_right, and_from, lt-ltb, le-ltb, le-leb, lt-leb, not_from_false, not_from_true, eq-eqb, ne_eqb}
use Rattle.faults.specs.declared.Fault.{Fault}
use Rattle.faults.specs.declared.Fault.TheVariants.{ProcessorUnknown, LineUnknown, SheetShort, NoLineLeft, IssueWaits, SwapHalfDone, NotHeld, DrainWaits}
use Rattle.tables.specs.declared.line.Kind.{Kind}
use Rattle.tables.specs.declared.line.Kind.TheVariants.{Load, Store, Swap}
use Rattle.tables.specs.declared.line.Line.{Line}
use Rattle.tables.specs.Lines.{kind_of, reads, writes}
use Rattle.tables.specs.Rows.{Rows}
use Rattle.tables.specs.Size.{Size, rd, number, places}
use Rattle.tables.specs.View.{line_at, reads_at, writes_at}
use Rattle.rules.specs.Waits.{Waits}
use Rattle.model.specs.Program.{Program, program}
use Rattle.model.specs.Machine.{State, ask, bar, first, is_processor, has_line, has_next, next, told, blocker, other_half, issue_refusal, drain_refusal}
use Rattle.model.proofs.Refusals.{processor_is}

-- three tests and two bars, and the first of them that refuses
module _ (f₁ f₂ f₃ : Fault) (b₁ b₂ b₃ : Bool) (f₄ : ℕ → Fault) (b₄ : Bool) (o₄ : Option ℕ) (f₅ : ℕ → Fault) (b₅ : Bool) (o₅ : Option ℕ) where
  abbrev five : Option Fault
  five = first (ask f₁ b₁ ∷ ask f₂ b₂ ∷ ask f₃ b₃ ∷ bar f₄ b₄ o₄ ∷ bar f₅ b₅ o₅ ∷ [])

  at_1 : b₁ ≡ false → five ≡ Some f₁
  at_1 p = rw p

  at_2 : b₁ ≡ true → b₂ ≡ false → five ≡ Some f₂
  at_2 p q = rw (p, q)

  at_3 : b₁ ≡ true → b₂ ≡ true → b₃ ≡ false → five ≡ Some f₃
  at_3 p q r = rw (p, q, r)

  at_4 : (m : ℕ) → b₁ ≡ true → b₂ ≡ true → b₃ ≡ true → b₄ ≡ true → o₄ ≡ Some m → five ≡ Some (f₄ m)
  at_4 m p q r t e = rw (p, q, r, t, e)

  at_5 : (j : ℕ) → b₁ ≡ true → b₂ ≡ true → b₃ ≡ true → bar f₄ b₄ o₄ ≡ None → b₅ ≡ true → o₅ ≡ Some j → five ≡ Some (f₅ j)
  at_5 j p q r t u e = rw (p, q, r, t, u, e)

  at_none : b₁ ≡ true → b₂ ≡ true → b₃ ≡ true → bar f₄ b₄ o₄ ≡ None → bar f₅ b₅ o₅ ≡ None → five ≡ None
  at_none p q r t u = rw (p, q, r, t, u)

bar_off : (f : ℕ → Fault) (b : Bool) (o : Option ℕ) → b ≡ false → bar f b o ≡ None
bar_off f b o e = rw e

bar_open : (f : ℕ → Fault) (b : Bool) (o : Option ℕ) → o ≡ None → bar f b o ≡ None
bar_open f true o e = rw e
bar_open f false o e = refl

no_processor : (z : Size) (p : ℕ) → (p ≡ 0) ⊎ (z.tables < p) → is_processor z p ≡ false
no_processor z p (inl e) = and_left (ltb 0 p) (leb p z.tables) (le-ltb 0 p (omega arith))
no_processor z p (inr e) = and_right (ltb 0 p) (leb p z.tables) (lt-leb p z.tables e)

some_kind : (k : Kind) → (reads k || writes k) ≡ true
some_kind Load = refl
some_kind Store = refl
some_kind Swap = refl

-- whether a table has a line in a row, from the line that is there
module _ (z : Size) (w : Waits) (ts : List Rows) (q k : ℕ) where
  abbrev x : Option Line
  x = line_at z ts (number z q k)

  abbrev acts : Bool
  acts = reads_at z ts (number z q k) || writes_at z ts (number z q k)

  pub line_far : z.lines ≤ k → has_line (program z w ts) q k ≡ false
  line_far l = and_left (ltb k z.lines) acts (le-ltb k z.lines l)

  pub line_no : x ≡ None → has_line (program z w ts) q k ≡ false
  line_no e = and_right (ltb k z.lines) acts (rw e)

  pub line_yes : (l : Line) → k < z.lines → x ≡ Some l → has_line (program z w ts) q k ≡ true
  line_yes l h e = and_from (ltb k z.lines) acts (lt-ltb k z.lines h) (rw e (some_kind (kind_of l.access)))

module _ (P : Program) (s : State) (room p : ℕ) where
  abbrev it : ℕ
  it = next P s (p - 1)

  abbrev waiting : ℕ → Fault
  waiting m = IssueWaits (told P.size m)

  abbrev halved : ℕ → Fault
  halved j = SwapHalfDone (rd j)

  abbrev swaps : Bool
  swaps = P.reads it && P.writes it

  pub issue_unknown : (p ≡ 0) ⊎ (P.size.tables < p) → issue_refusal P s room p ≡ Some ProcessorUnknown
  issue_unknown h =
      at_1 ProcessorUnknown (SheetShort room) (NoLineLeft p) (is_processor P.size p) (leb (places P.size) room) (has_next P s (p - 1))
      waiting (P.reads it) (blocker P s it) halved swaps s.half (no_processor P.size p h)

  module _ (some : 0 < p) (few : p ≤ P.size.tables) where
    known : is_processor P.size p ≡ true
    known = processor_is P.size p some few

    pub issue_short : room < places P.size → issue_refusal P s room p ≡ Some (SheetShort room)
    issue_short l =
        at_2 ProcessorUnknown (SheetShort room) (NoLineLeft p) (is_processor P.size p) (leb (places P.size) room) (has_next P s (p - 1))
        waiting (P.reads it) (blocker P s it) halved swaps s.half known (lt-leb (places P.size) room l)

    module _ (wide : places P.size ≤ room) where
      roomy : leb (places P.size) room ≡ true
      roomy = le-leb (places P.size) room wide

      pub issue_none_left : has_next P s (p - 1) ≡ false → issue_refusal P s room p ≡ Some (NoLineLeft p)
      issue_none_left h =
          at_3 ProcessorUnknown (SheetShort room) (NoLineLeft p) (is_processor P.size p) (leb (places P.size) room) (has_next P s (p - 1))
          waiting (P.reads it) (blocker P s it) halved swaps s.half known roomy h

      -- line n is the next
      module _ (there : has_next P s (p - 1) ≡ true) (n : ℕ) (e : n ≡ it) where
        reads_it : (b : Bool) → P.reads n ≡ b → P.reads it ≡ b
        reads_it b = subst (λ (k : ℕ). P.reads k ≡ b) e

        writes_it : (b : Bool) → P.writes n ≡ b → P.writes it ≡ b
        writes_it b = subst (λ (k : ℕ). P.writes k ≡ b) e

        stopped : (o : Option ℕ) → blocker P s n ≡ o → blocker P s it ≡ o
        stopped o = subst (λ (k : ℕ). blocker P s k ≡ o) e

        open_to : bar waiting (P.reads it) (blocker P s it) ≡ None → bar halved swaps s.half ≡ None → issue_refusal P s room p ≡ None
        open_to =
            at_none ProcessorUnknown (SheetShort room) (NoLineLeft p) (is_processor P.size p) (leb (places P.size) room) (has_next P s (p - 1))
            waiting (P.reads it) (blocker P s it) halved swaps s.half known roomy there

        pub issue_waits : (m : ℕ) → P.reads n ≡ true → blocker P s n ≡ Some m → issue_refusal P s room p ≡ Some (IssueWaits (told P.size m))
        issue_waits m r b =
            at_4 ProcessorUnknown (SheetShort room) (NoLineLeft p) (is_processor P.size p) (leb (places P.size) room) (has_next P s (p - 1))
            waiting (P.reads it) (blocker P s it) halved swaps s.half m known roomy there (reads_it true r) (stopped (Some m) b)

        -- a line that only stores waits for nothing here
        pub issue_store : P.reads n ≡ false → issue_refusal P s room p ≡ None
        issue_store r =
            let r' = reads_it false r in
            open_to (bar_off waiting (P.reads it) (blocker P s it) r') (bar_off halved swaps s.half (and_left (P.reads it) (P.writes it) r'))

        module _ (free : blocker P s n ≡ None) where
          unstopped : bar waiting (P.reads it) (blocker P s it) ≡ None
          unstopped = bar_open waiting (P.reads it) (blocker P s it) (stopped None free)

          pub issue_load : P.writes n ≡ false → issue_refusal P s room p ≡ None
          issue_load v = open_to unstopped (bar_off halved swaps s.half (and_right (P.reads it) (P.writes it) (writes_it false v)))

          pub issue_half : (j : ℕ) → P.reads n ≡ true → P.writes n ≡ true → s.half ≡ Some j → issue_refusal P s room p ≡ Some (SwapHalfDone (rd j))
          issue_half j r v h =
              at_5 ProcessorUnknown (SheetShort room) (NoLineLeft p) (is_processor P.size p) (leb (places P.size) room) (has_next P s (p - 1))
              waiting (P.reads it) (blocker P s it) halved swaps s.half j known roomy there unstopped
              (and_from (P.reads it) (P.writes it) (reads_it true r) (writes_it true v)) h

          pub issue_swap : s.half ≡ None → issue_refusal P s room p ≡ None
          issue_swap h = open_to unstopped (bar_open halved swaps s.half h)

own_half : (h : Option ℕ) (n : ℕ) → ((j : ℕ) → h ≡ Some j → j ≡ n) → bar (λ j. SwapHalfDone (rd j)) (other_half h n) h ≡ None
own_half None n e = refl
own_half (Some j) n e = let q = not_from_true (eqb j n) (eq-eqb j n (e j refl)) in rw q

is_other : (h : Option ℕ) (n j : ℕ) → h ≡ Some j → (j ≡ n → ⊥) → other_half h n ≡ true
is_other h n j e q = rw e (not_from_false (eqb j n) (ne_eqb j n q))

module _ (P : Program) (s : State) (p l : ℕ) where
  abbrev m : ℕ
  m = number P.size (p - 1) (l - 1)

  abbrev stalled : ℕ → Fault
  stalled k = DrainWaits (told P.size k)

  abbrev half_done : ℕ → Fault
  half_done j = SwapHalfDone (rd j)

  abbrev line_known : Bool
  line_known = ltb 0 l && has_line P (p - 1) (l - 1)

  pub drain_unknown : (p ≡ 0) ⊎ (P.size.tables < p) → drain_refusal P s p l ≡ Some ProcessorUnknown
  drain_unknown h =
      at_1 ProcessorUnknown (LineUnknown l) (NotHeld l) (is_processor P.size p) line_known (s.held m)
      stalled true (blocker P s m) half_done (other_half s.half m) s.half (no_processor P.size p h)

  module _ (some : 0 < p) (few : p ≤ P.size.tables) where
    is_known : is_processor P.size p ≡ true
    is_known = processor_is P.size p some few

    pub drain_no_line : (l ≡ 0) ⊎ (has_line P (p - 1) (l - 1) ≡ false) → drain_refusal P s p l ≡ Some (LineUnknown l)
    drain_no_line h =
        at_2 ProcessorUnknown (LineUnknown l) (NotHeld l) (is_processor P.size p) line_known (s.held m)
        stalled true (blocker P s m) half_done (other_half s.half m) s.half is_known (elim h [
          | inl e ↦ and_left (ltb 0 l) (has_line P (p - 1) (l - 1)) (le-ltb 0 l (omega arith))
          | inr e ↦ and_right (ltb 0 l) (has_line P (p - 1) (l - 1)) e
        ])

    module _ (above : 0 < l) (there : has_line P (p - 1) (l - 1) ≡ true) (n : ℕ) (e : n ≡ m) where
      line_is : line_known ≡ true
      line_is = and_from (ltb 0 l) (has_line P (p - 1) (l - 1)) (lt-ltb 0 l above) there

      holds : (b : Bool) → s.held n ≡ b → s.held m ≡ b
      holds b = subst (λ (k : ℕ). s.held k ≡ b) e

      pub drain_not_held : s.held n ≡ false → drain_refusal P s p l ≡ Some (NotHeld l)
      drain_not_held h =
          at_3 ProcessorUnknown (LineUnknown l) (NotHeld l) (is_processor P.size p) line_known (s.held m)
          stalled true (blocker P s m) half_done (other_half s.half m) s.half is_known line_is (holds false h)

      module _ (held : s.held n ≡ true) where
        pub drain_waits : (k : ℕ) → blocker P s n ≡ Some k → drain_refusal P s p l ≡ Some (DrainWaits (told P.size k))
        drain_waits k b =
            at_4 ProcessorUnknown (LineUnknown l) (NotHeld l) (is_processor P.size p) line_known (s.held m)
            stalled true (blocker P s m) half_done (other_half s.half m) s.half k is_known line_is (holds true held) refl
            (subst (λ (i : ℕ). blocker P s i ≡ Some k) e b)

        module _ (free : blocker P s n ≡ None) where
          unbarred : bar stalled true (blocker P s m) ≡ None
          unbarred = bar_open stalled true (blocker P s m) (subst (λ (i : ℕ). blocker P s i ≡ None) e free)

          pub drain_half_done : (j : ℕ) → s.half ≡ Some j → (j ≡ n → ⊥) → drain_refusal P s p l ≡ Some (SwapHalfDone (rd j))
          drain_half_done j h d =
              at_5 ProcessorUnknown (LineUnknown l) (NotHeld l) (is_processor P.size p) line_known (s.held m)
              stalled true (blocker P s m) half_done (other_half s.half m) s.half j is_known line_is (holds true held) unbarred
              (is_other s.half m j h (λ x. d (x ∙ sym e))) h

          pub drain_goes : ((j : ℕ) → s.half ≡ Some j → j ≡ n) → drain_refusal P s p l ≡ None
          drain_goes h =
              at_none ProcessorUnknown (LineUnknown l) (NotHeld l) (is_processor P.size p) line_known (s.held m)
              stalled true (blocker P s m) half_done (other_half s.half m) s.half is_known line_is (holds true held) unbarred
              (own_half s.half m (λ j x. h j x ∙ e))
