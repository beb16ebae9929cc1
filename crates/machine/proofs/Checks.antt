-- A line that is asked for by its processor and its number there, and a drain where there is none.
use Rattle.std.proofs.Common.{◌≡◌, ℕ, ◌-◌, ◌<◌, ◌≤◌, true, false, cond, ltb, List, length, get_or, Some, None, Option, sym, refl, ◌∙◌, inl, inr, arith}
use Rattle.std.proofs.lemmas.Option.{none-some}
use Rattle.std.proofs.lemmas.Bool.{cases_lt, cond-true, cond-false, lt-ltb, le-ltb}
use Rattle.faults.specs.declared.Fault.{Fault}
use Rattle.faults.specs.declared.Fault.TheVariants.{ProcessorUnknown, LineUnknown}
use Rattle.tables.specs.declared.line.Line.{Line}
use Rattle.tables.specs.Size.{unit, number}
use Rattle.tables.specs.Lines.{nth}
use Rattle.tables.specs.Rows.{Rows, empty}
use Rattle.tables.specs.View.{line_at}
use Rattle.tables.specs.Places.{no_line, line_refused}
use Rattle.tables.proofs.Numbering.{line_of_row}
use Rattle.tables.proofs.Pushes.{nth_inside}
use Rattle.rules.specs.Waits.{Waits}
use Rattle.model.specs.Program.{Program, program}
use Rattle.model.specs.Machine.{State, has_line, drain_refusal}
use Rattle.model.proofs.Extremes.{some≢none}
use Rattle.model.proofs.FirstRefusals.{line_far, line_no, line_yes, drain_unknown, drain_no_line}

-- line l of processor p is a line
module _ (ts : List Rows) (p l : ℕ) where
  pub record There : Type 0 where
    pub processor : 0 < p
    pub known : p ≤ 4
    pub counted : 0 < l
    pub fits : l ≤ 32
    pub line : Line
    pub is : Some line ≡ line_at unit ts (number unit (p - 1) (l - 1))

  abbrev after_1 : Option Fault
  after_1 = cond (ltb 4 p) (Some ProcessorUnknown) (cond (ltb l 1) (Some (LineUnknown l)) (no_line l (nth (get_or ts (p - 1) empty).lines (l - 1))))

  abbrev after_2 : Option Fault
  after_2 = cond (ltb l 1) (Some (LineUnknown l)) (no_line l (nth (get_or ts (p - 1) empty).lines (l - 1)))

  abbrev after_3 : Option Fault
  after_3 = no_line l (nth (get_or ts (p - 1) empty).lines (l - 1))

  r_1 : p < 1 → line_refused ts p l ≡ Some ProcessorUnknown
  r_1 a = cond-true (ltb p 1) (Some ProcessorUnknown) after_1 (lt-ltb p 1 a)

  r_2 : 1 ≤ p → 4 < p → line_refused ts p l ≡ Some ProcessorUnknown
  r_2 a b = cond-false (ltb p 1) (Some ProcessorUnknown) after_1 (le-ltb p 1 a) ∙ cond-true (ltb 4 p) (Some ProcessorUnknown) after_2 (lt-ltb 4 p b)

  r_3 : 1 ≤ p → p ≤ 4 → l < 1 → line_refused ts p l ≡ Some (LineUnknown l)
  r_3 a b c =
      cond-false (ltb p 1) (Some ProcessorUnknown) after_1 (le-ltb p 1 a) ∙ cond-false (ltb 4 p) (Some ProcessorUnknown) after_2 (le-ltb 4 p b)
      ∙ cond-true (ltb l 1) (Some (LineUnknown l)) after_3 (lt-ltb l 1 c)

  r_4 : 1 ≤ p → p ≤ 4 → 1 ≤ l → line_refused ts p l ≡ after_3
  r_4 a b c =
      cond-false (ltb p 1) (Some ProcessorUnknown) after_1 (le-ltb p 1 a) ∙ cond-false (ltb 4 p) (Some ProcessorUnknown) after_2 (le-ltb 4 p b)
      ∙ cond-false (ltb l 1) (Some (LineUnknown l)) after_3 (le-ltb l 1 c)

  pub there : ((q : ℕ) → length (get_or ts q empty).lines ≤ 32) → line_refused ts p l ≡ None → There
  there few e = elim (cases_lt p 1) [
    | inl a ↦ absurd (some≢none ProcessorUnknown (sym (r_1 a) ∙ e))
    | inr a ↦ elim (cases_lt 4 p) [
      | inl b ↦ absurd (some≢none ProcessorUnknown (sym (r_2 a b) ∙ e))
      | inr b ↦ elim (cases_lt l 1) [
        | inl c ↦ absurd (some≢none (LineUnknown l) (sym (r_3 a b c) ∙ e))
        | inr c ↦ go a b c (nth (get_or ts (p - 1) empty).lines (l - 1)) refl (sym (r_4 a b c) ∙ e)
      ]
    ]
  ]
    where
      go : 1 ≤ p → p ≤ 4 → 1 ≤ l → (x : Option Line) → nth (get_or ts (p - 1) empty).lines (l - 1) ≡ x → no_line l x ≡ None → There
      go a b c None q r = absurd (some≢none (LineUnknown l) r)
      go a b c (Some k) q r =
          let h = nth_inside (get_or ts (p - 1) empty).lines (l - 1) k q in let f = few (p - 1) in
          record { processor = a; known = b; counted = c; fits = omega arith; line = k; is = sym (line_of_row unit ts (p - 1) (l - 1) (omega arith) ∙ q) }

  -- the program has it
  pub here : (w : Waits) → There → has_line (program unit w ts) (p - 1) (l - 1) ≡ true
  here w t = let h = t.fits in let c = t.counted in line_yes unit w ts (p - 1) (l - 1) t.line (omega arith) (sym t.is)

-- a drain of line l of processor p
module _ (w : Waits) (ts : List Rows) (s : State) (p l : ℕ) where
  abbrev P : Program
  P = program unit w ts

  -- where the tables know no such line
  pub drain_absent : (f : Fault) → line_refused ts p l ≡ Some f → drain_refusal P s p l ≡ Some f
  drain_absent f e = elim (cases_lt p 1) [
    | inl a ↦ drain_unknown P s p l (inl (omega arith)) ∙ sym (r_1 ts p l a) ∙ e
    | inr a ↦ elim (cases_lt 4 p) [
      | inl b ↦ drain_unknown P s p l (inr b) ∙ sym (r_2 ts p l a b) ∙ e
      | inr b ↦ elim (cases_lt l 1) [
        | inl c ↦ drain_no_line P s p l a b (inl (omega arith)) ∙ sym (r_3 ts p l a b c) ∙ e
        | inr c ↦ go a b (nth (get_or ts (p - 1) empty).lines (l - 1)) refl (sym (r_4 ts p l a b c) ∙ e)
      ]
    ]
  ]
    where
      none : nth (get_or ts (p - 1) empty).lines (l - 1) ≡ None → has_line P (p - 1) (l - 1) ≡ false
      none q = elim (cases_lt (l - 1) 32) [
        | inl h ↦ line_no unit w ts (p - 1) (l - 1) (line_of_row unit ts (p - 1) (l - 1) h ∙ q)
        | inr h ↦ line_far unit w ts (p - 1) (l - 1) h
      ]

      go : 1 ≤ p → p ≤ 4 → (x : Option Line) → nth (get_or ts (p - 1) empty).lines (l - 1) ≡ x → no_line l x ≡ Some f → drain_refusal P s p l ≡ Some f
      go a b None q r = drain_no_line P s p l a b (inr (none q)) ∙ r
      go a b (Some k) q r = absurd (none-some f r)
