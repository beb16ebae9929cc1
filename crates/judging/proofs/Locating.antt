-- Places in an order by position, and the table of the events' stands, filled from the order's start.
use Rattle.std.proofs.Common.{◌≡◌, ℕ, ◌+◌, ◌<◌, ◌≤◌, min, cond, eqb, ltb, List, [], ◌∷◌, length, get_or, take, set, sym, ap, ◌∙◌, subst, inl, inr, arith, get_or-set_other, get_or-set_same}
use Rattle.std.proofs.lemmas.List.{take_more}
use Rattle.std.proofs.lemmas.Bool.{cases_eq, cond-true, cond-false, eq-eqb, ne_eqb}
use Rattle.std.proofs.lemmas.Bool.Decides.{nat_tests}
use Rattle.model.proofs.PlacedAxioms.{at_place as place_at, at_one as one_at, at_after}
use Rattle.model.proofs.Positions.{place, place_le, times, times_snoc, Inside}
use Rattle.judging.specs.Standings.{nowhere}
use Rattle.judging.proofs.Listing.{get_at, at_get}
use Rattle.judging.specs.declared.standing.Stand.{Stand}

-- the first position below n where an event stands, or the order's length where there is none
abbrev pub place_below : List ℕ → ℕ → ℕ → ℕ
place_below o n e = cond (ltb (place o e) n) (place o e) (length o)

pub times_le : (o : List ℕ) (e : ℕ) → times o e ≤ length o
times_le [] e = omega arith
times_le (x ∷ o) e = let r = times_le o e in grind (arith, nat_tests)

-- what stands at a position of the order
pub at_place : (o : List ℕ) (e d : ℕ) → Inside o e → get_or o (place o e) d ≡ e
at_place o e d h = (at_get o (place o e) e d (place_at o e h)).1

pub at_one : (o : List ℕ) (i d : ℕ) → i < length o → times o (get_or o i d) ≤ 1 → place o (get_or o i d) ≡ i
at_one o i d h t = sym (one_at o i (get_or o i d) t (get_at o i d h))

-- how the first place so far, or the order's length, goes on with the event at position i
place_there : (o : List ℕ) (i e : ℕ) → i < length o → get_or o i 0 ≡ e → min (place_below o i e) i ≡ place_below o (i + 1) e
place_there o i e h q =
    let a : place o e ≤ i = rw (← q) (at_after o i (get_or o i 0) (get_at o i 0 h)).0 in
    grind (arith, nat_tests)

place_elsewhere : (o : List ℕ) (i e : ℕ) → i < length o → (get_or o i 0 ≡ e → ⊥) → place_below o i e ≡ place_below o (i + 1) e
place_elsewhere o i e h q =
    let a : place o e ≡ i → ⊥ = λ p. q (subst (λ (k : ℕ). get_or o k 0 ≡ e) p (at_place o e 0 (omega arith))) in
    grind (arith, nat_tests)

pub place_all : (o : List ℕ) (e : ℕ) → place_below o (length o) e ≡ place o e
place_all o e = let a = place_le o e in grind (arith, nat_tests)

-- a stand written over for the event at position i
module _ (o : List ℕ) (ss : List Stand) (i : ℕ) (new : Stand) (h : i < length o) (long : length ss ≡ 256) (code : get_or o i 0 < 256) where
  pub place_step :
      new.place ≡ min (get_or ss (get_or o i 0) nowhere).place i
      → ((e : ℕ) → e < 256 → (get_or ss e nowhere).place ≡ place_below o i e)
      → (e : ℕ) → e < 256 → (get_or (set ss (get_or o i 0) new) e nowhere).place ≡ place_below o (i + 1) e
  place_step is inv e l = elim (cases_eq (get_or o i 0) e) [
    | inl q ↦
        let a : get_or (set ss (get_or o i 0) new) e nowhere ≡ new = rw (← q) (get_or-set_same ss (get_or o i 0) new nowhere (omega arith)) in
        let b : min (get_or ss (get_or o i 0) nowhere).place i ≡ min (place_below o i e) i = rw q (ap (λ (k : ℕ). min k i) (inv e l)) in
        ap (λ (s : Stand). s.place) a ∙ is ∙ b ∙ place_there o i e h q
    | inr q ↦
        ap (λ (s : Stand). s.place) (get_or-set_other ss (get_or o i 0) e new nowhere (λ z. q (sym z))) ∙ inv e l ∙ place_elsewhere o i e h q
  ]

  pub times_step :
      new.times ≡ (get_or ss (get_or o i 0) nowhere).times + 1
      → ((e : ℕ) → e < 256 → (get_or ss e nowhere).times ≡ times (take i o) e)
      → (e : ℕ) → e < 256 → (get_or (set ss (get_or o i 0) new) e nowhere).times ≡ times (take (i + 1) o) e
  times_step is inv e l =
      let t : times (take (i + 1) o) e ≡ times (take i o) e + cond {A = ℕ} (eqb (get_or o i 0) e) 1 0 =
      ap (λ (p : List ℕ). times p e) (take_more o i 0 h) ∙ times_snoc (take i o) (get_or o i 0) e in
      elim (cases_eq (get_or o i 0) e) [
        | inl q ↦
            let a : get_or (set ss (get_or o i 0) new) e nowhere ≡ new = rw (← q) (get_or-set_same ss (get_or o i 0) new nowhere (omega arith)) in
            let b : (get_or ss (get_or o i 0) nowhere).times ≡ times (take i o) e = rw q (inv e l) in
            let d : cond {A = ℕ} (eqb (get_or o i 0) e) 1 0 ≡ 1 = cond-true (eqb (get_or o i 0) e) 1 0 (eq-eqb (get_or o i 0) e q) in
            ap (λ (s : Stand). s.times) a ∙ is ∙ omega arith
        | inr q ↦
            let d : cond {A = ℕ} (eqb (get_or o i 0) e) 1 0 ≡ 0 = cond-false (eqb (get_or o i 0) e) 1 0 (ne_eqb (get_or o i 0) e q) in
            ap (λ (s : Stand). s.times) (get_or-set_other ss (get_or o i 0) e new nowhere (λ z. q (sym z))) ∙ inv e l ∙ omega arith
      ]
