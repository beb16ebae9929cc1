-- Arrays of the code as functions of the model.
use Rattle.std.proofs.Common.{◌≡◌, ℕ, ◌+◌, ◌<◌, ◌≤◌, Bool, true, cond, eqb, List, [], ◌∷◌, length, get_or, set, sum, count_by, Option, sym, ap, ◌∙◌, subst, inl, inr, arith}
use mathlib.Core.Path.{fun_ext}
use Rattle.std.proofs.lemmas.List.{get_or-set_same, get_or-set_other}
use Rattle.std.proofs.lemmas.List.Sums.{sum_by-set, get_or-le-sum_by}
use Rattle.std.proofs.lemmas.Bool.{cases_eq, eq-eqb, ne_eqb, cond-true, cond-false}
use Rattle.model.specs.Machine.{State}
use Rattle.machine.specs.declared.mark.Mark.{Mark}
use Rattle.machine.specs.declared.mark.Mark.TheVariants.{Waiting, Held, Done}
use Rattle.machine.specs.States.{is_held}

-- a written array, read through f
pub set_is : {A B : Type 0} (f : A → B) (xs : List A) (i : ℕ) (v d : A) → i < length xs
    → ◌≡◌ {A = ℕ → B} (λ j. f (get_or (set xs i v) j d)) (λ j. cond (eqb j i) (f v) (f (get_or xs j d)))
set_is f xs i v d l = fun_ext (λ j. elim (cases_eq j i) [
  | inl e ↦ ap f (subst (λ (k : ℕ). get_or (set xs i v) k d ≡ v) (sym e) (get_or-set_same xs i v d l)) ∙ sym (cond-true (eqb j i) (f v) (f (get_or xs j d)) (eq-eqb j i e))
  | inr e ↦ ap f (get_or-set_other xs i j v d e) ∙ sym (cond-false (eqb j i) (f v) (f (get_or xs j d)) (ne_eqb j i e))
])

abbrev mk : (ℕ → ℕ) → (ℕ → Bool) → (ℕ → Option ℕ) → List ℕ → Option ℕ → State
mk a b c d e = record { issued = a; held = b; last = c; order = d; half = e }

pub same_state : {s t : State} → s.issued ≡ t.issued → s.held ≡ t.held → s.last ≡ t.last → s.order ≡ t.order → s.half ≡ t.half → s ≡ t
same_state {s} {t} p q r u v =
    ap (λ x. mk x s.held s.last s.order s.half) p
    ∙ ap (λ x. mk t.issued x s.last s.order s.half) q
    ∙ ap (λ x. mk t.issued t.held x s.order s.half) r
    ∙ ap (λ x. mk t.issued t.held t.last x s.half) u
    ∙ ap (λ x. mk t.issued t.held t.last t.order x) v

-- at most 128 lines are issued
pub sum_few : (xs : List ℕ) → length xs ≡ 4 → ((p : ℕ) → get_or xs p 0 ≤ 32) → sum xs ≤ 128
sum_few [] e h = let z : ⊥ = omega arith in absurd z
sum_few (a ∷ []) e h = let z : ⊥ = omega arith in absurd z
sum_few (a ∷ b ∷ []) e h = let z : ⊥ = omega arith in absurd z
sum_few (a ∷ b ∷ c ∷ []) e h = let z : ⊥ = omega arith in absurd z
sum_few (a ∷ b ∷ c ∷ d ∷ []) e h = omega (arith, h 0, h 1, h 2, h 3)
sum_few (a ∷ b ∷ c ∷ d ∷ x ∷ xs) e h = let z : ⊥ = omega arith in absurd z

-- how many lines are held after one mark is changed
module _ (ms : List Mark) (n : ℕ) (l : n < length ms) where
  abbrev one : Mark → ℕ
  one m = cond (is_held m) 1 0

  pub count_held : is_held (get_or ms n Waiting) ≡ true → 1 ≤ count_by is_held ms
  count_held h = let a = get_or-le-sum_by one ms n Waiting l in let b : one (get_or ms n Waiting) ≡ 1 = cond-true (is_held (get_or ms n Waiting)) 1 0 h in omega arith

  pub count_drained : is_held (get_or ms n Waiting) ≡ true → count_by is_held (set ms n Done) + 1 ≡ count_by is_held ms
  count_drained h = let a = sum_by-set one ms n Done Waiting l in let b : one (get_or ms n Waiting) ≡ 1 = cond-true (is_held (get_or ms n Waiting)) 1 0 h in omega arith

  pub count_done : count_by is_held (set ms n Done) ≤ count_by is_held ms
  count_done = let a = sum_by-set one ms n Done Waiting l in omega arith

  pub count_more : count_by is_held (set ms n Held) ≤ count_by is_held ms + 1
  count_more = let a = sum_by-set one ms n Held Waiting l in omega arith

-- a number of an array that is one more
module _ (xs : List ℕ) (q : ℕ) (l : q < length xs) where
  pub sum_bump : sum (set xs q (get_or xs q 0 + 1)) ≡ sum xs + 1
  sum_bump = let a = sum_by-set (λ x. x) xs q (get_or xs q 0 + 1) 0 l in omega arith

  pub bump_same : get_or (set xs q (get_or xs q 0 + 1)) q 0 ≡ get_or xs q 0 + 1
  bump_same = get_or-set_same xs q (get_or xs q 0 + 1) 0 l

  pub bump_below : (b : ℕ) → ((p : ℕ) → get_or xs p 0 ≤ b) → get_or xs q 0 < b → (p : ℕ) → get_or (set xs q (get_or xs q 0 + 1)) p 0 ≤ b
  bump_below b h k p = elim (cases_eq p q) [
    | inl e ↦ subst (λ (x : ℕ). get_or (set xs q (get_or xs q 0 + 1)) x 0 ≤ b) (sym e) (let a = bump_same in omega arith)
    | inr e ↦ let a = get_or-set_other xs q p (get_or xs q 0 + 1) 0 e in let c = h p in omega arith
  ]

  pub bump_least : (p : ℕ) → get_or xs p 0 ≤ get_or (set xs q (get_or xs q 0 + 1)) p 0
  bump_least p = elim (cases_eq p q) [
    | inl e ↦ subst (λ (x : ℕ). get_or xs x 0 ≤ get_or (set xs q (get_or xs q 0 + 1)) x 0) (sym e) (let a = bump_same in omega arith)
    | inr e ↦ let a = get_or-set_other xs q p (get_or xs q 0 + 1) 0 e in omega arith
  ]

  pub bump_is : ◌≡◌ {A = ℕ → ℕ} (λ p. get_or (set xs q (get_or xs q 0 + 1)) p 0) (λ p. cond (eqb p q) (get_or xs p 0 + 1) (get_or xs p 0))
  bump_is = fun_ext (λ p. elim (cases_eq p q) [
    | inl e ↦ subst (λ (x : ℕ). get_or (set xs q (get_or xs q 0 + 1)) x 0 ≡ get_or xs x 0 + 1) (sym e) bump_same
        ∙ sym (cond-true (eqb p q) (get_or xs p 0 + 1) (get_or xs p 0) (eq-eqb p q e))
    | inr e ↦ get_or-set_other xs q p (get_or xs q 0 + 1) 0 e ∙ sym (cond-false (eqb p q) (get_or xs p 0 + 1) (get_or xs p 0) (ne_eqb p q e))
  ])
