-- Events and codes name each other.
use Rattle.std.proofs.Common.{◌≡◌, ℕ, ◌+◌, ◌-◌, ◌/◌, ◌%◌, ◌<◌, Bool, true, false, cond, eqb, Some, None, refl, ap, ap₂, ◌∙◌, arith, lt-ltb}
use Rattle.tables.specs.declared.event.Side.{Side}
use Rattle.tables.specs.declared.event.Side.TheVariants.{Read, Write}
use Rattle.tables.specs.declared.event.Event.{Event}
use Rattle.tables.specs.declared.line_id.LineId.{LineId}
use Rattle.tables.specs.Size.{Size, number, table, row}
use Rattle.tables.specs.LineIds.{line_id, place_of}
use Rattle.tables.specs.Events.{codes, bit_of, side_of, code_of, event_of, OfUnit}
use Rattle.tables.proofs.Numbering.{number_table_row, row_below, table_number, row_number, number_below, table_below}

pub bit_below : (s : Side) → bit_of s < 2
bit_below Read = omega arith
bit_below Write = omega arith

side_bit : (c : ℕ) (s : Side) → c % 2 ≡ bit_of s → side_of c ≡ s
side_bit c Read h = grind (arith, h)
side_bit c Write h = grind (arith, h)

pub bit_side : (c : ℕ) → bit_of (side_of c) ≡ c % 2
bit_side c = by (eqb (c % 2) 0) refl where
  by : (b : Bool) → eqb (c % 2) 0 ≡ b → bit_of (side_of c) ≡ c % 2
  by true e = grind (arith, e)
  by false e = grind (arith, e)

abbrev named : ℕ → ℕ → LineId
named p l = record { processor = p; line = l }

-- lines are the same by their processors and their numbers there
same_line : (l m : LineId) → l.processor ≡ m.processor → l.line ≡ m.line → l ≡ m
same_line l m p q = ap₂ named p q

abbrev pub made : LineId → Side → Event
made l s = record { at = l; side = s }

-- events are the same by their lines and sides
pub made_same : (l m : LineId) (s t : Side) → l ≡ m → s ≡ t → made l s ≡ made m t
made_same l m s t a b = cc

event_of_lem : (z : Size) (c : ℕ) → c < codes z → event_of z c ≡ Some (made (line_id z (c / 2)) (side_of c))
event_of_lem z c h = ap (λ (b : Bool). cond b (Some (made (line_id z (c / 2)) (side_of c))) None) (lt-ltb c (codes z) h)

module _ (z : Size) where
  pub code_back : (e : Event) → OfUnit z e → event_of z (code_of z e) ≡ Some e
  code_back e u =
      let p = e.at.processor - 1 in
      let k = e.at.line - 1 in
      let n = number z p k in
      let b = bit_below e.side in
      let below = number_below z p k (omega (arith, u)) (omega (arith, u)) in
      let c = code_of z e in
      let half : c / 2 ≡ n = omega (arith, b) in
      let bit : c % 2 ≡ bit_of e.side = omega (arith, b) in
      let t : table z (c / 2) ≡ p = ap (table z) half ∙ table_number z p k (omega (arith, u)) in
      let r : row z (c / 2) ≡ k = ap (row z) half ∙ row_number z p k (omega (arith, u)) in
      let q : table z (c / 2) + 1 ≡ e.at.processor = omega (arith, t, u) in
      let l : row z (c / 2) + 1 ≡ e.at.line = omega (arith, r, u) in
      let a = same_line (line_id z (c / 2)) e.at q l in
      event_of_lem z c (omega (arith, b, below)) ∙ ap (λ (x : Event). Some x) (made_same _ e.at _ e.side a (side_bit c e.side bit))

  pub code_named : (c : ℕ) → c < codes z → OfUnit z (made (line_id z (c / 2)) (side_of c))
  code_named c h =
      let t = table_below z (c / 2) (omega arith) in
      let r = row_below z (c / 2) in
      record { processor_low = omega arith; processor_high = omega (arith, t); line_low = omega arith; line_high = omega (arith, r) }

  pub event_is : (c : ℕ) → c < codes z → event_of z c ≡ Some (made (line_id z (c / 2)) (side_of c))
  event_is = event_of_lem z

  -- a place is that of its line
  pub place_id : (n : ℕ) → place_of z (line_id z n) ≡ n
  place_id n =
      let t : table z n + 1 - 1 ≡ table z n = omega arith in
      let r : row z n + 1 - 1 ≡ row z n = omega arith in
      ap (λ (x : ℕ). number z x (row z n + 1 - 1)) t ∙ ap (number z (table z n)) r ∙ number_table_row z n

  pub code_of_named : (c : ℕ) → code_of z (made (line_id z (c / 2)) (side_of c)) ≡ c
  code_of_named c = let n = place_id (c / 2) in let b = bit_side c in omega (arith, n, b)
