-- The least and the greatest number that pass a test.
use Rattle.std.proofs.Common.{◌≡◌, ℕ, zero, suc, ◌+◌, ◌<◌, ◌≤◌, Bool, true, false, cond, Some, None, Option, sym, refl, ap, ◌∙◌, subst, inl, inr, arith}
use Rattle.std.proofs.lemmas.Option.{none-some}
use Rattle.std.proofs.lemmas.Bool.{cases_eq, cases_lt, both_ways, cond-true, cond-false}
use Rattle.model.specs.Machine.{highest, lowest, or_else}

pub some≢none : {A : Type 0} (a : A) → Some a ≡ None → ⊥
some≢none a e = none-some a (sym e)

-- what `highest` answers
abbrev pub Highest : (ℕ → Bool) → ℕ → Option ℕ → Type 0
Highest f n None = (j : ℕ) → j < n → f j ≡ true → ⊥
Highest f n (Some m) = (f m ≡ true) × (m < n) × ((j : ℕ) → j < n → f j ≡ true → j ≤ m)

pub highest_is : (f : ℕ → Bool) (n : ℕ) → Highest f n (highest f n)
unfolding highest
highest_is f zero = λ j l h. omega arith
highest_is f (suc n) = go (f n) refl (highest f n) (highest_is f n)
  where
    up : (j : ℕ) → f n ≡ false → f j ≡ true → j < suc n → j < n
    up j e h l = elim (cases_eq j n) [
      | inl q ↦ let z : ⊥ = both_ways (f n) e (subst (λ x. f x ≡ true) q h) in absurd z
      | inr q ↦ omega arith
    ]

    go : (b : Bool) → f n ≡ b → (o : Option ℕ) → Highest f n o → Highest f (suc n) (cond b (Some n) o)
    go true e o h = (e, omega arith, λ j l k. omega arith)
    go false e None h = λ j l k. h j (up j e k l) k
    go false e (Some m) h = (h.0, let q = h.1 in omega arith, λ j l k. h.2 j (up j e k l) k)

pub lowest_none : (f : ℕ → Bool) (n : ℕ) → lowest f n ≡ None → (j : ℕ) → j < n → f j ≡ true → ⊥
unfolding lowest
lowest_none f zero e j l h = omega arith
lowest_none f (suc n) e j l h = go (lowest f n) refl (f n) refl e (lowest_none f n)
  where
    go :
        (o : Option ℕ) → lowest f n ≡ o → (b : Bool) → f n ≡ b → or_else o (cond b (Some n) None) ≡ None
        → (lowest f n ≡ None → (i : ℕ) → i < n → f i ≡ true → ⊥) → ⊥
    go (Some m) p b q r i = let z : ◌≡◌ {A = ℕ} 0 1 = cc in omega arith
    go None p true q r i = let z : ◌≡◌ {A = ℕ} 0 1 = cc in omega arith
    go None p false q r i = elim (cases_eq j n) [
      | inl x ↦ both_ways (f n) q (subst (λ y. f y ≡ true) x h)
      | inr x ↦ i p j (omega arith) h
    ]

pub none_lowest : (f : ℕ → Bool) (n : ℕ) → ((j : ℕ) → j < n → f j ≡ true → ⊥) → lowest f n ≡ None
unfolding lowest
none_lowest f zero h = refl
none_lowest f (suc n) h = go (f n) refl (lowest f n) (none_lowest f n (λ j l k. h j (omega arith) k))
  where
    go : (b : Bool) → f n ≡ b → (o : Option ℕ) → o ≡ None → or_else o (cond b (Some n) None) ≡ None
    go true e o q = absurd (h n (omega arith) e)
    go false e None q = refl
    go false e (Some m) q = q

-- a search upwards: nothing below the place it has come to, until it finds one or is past all that can pass
module _ (f : ℕ → Bool) where
  pub none_below : (n : ℕ) → ((j : ℕ) → j < n → f j ≡ false) → lowest f n ≡ None
  none_below n h = none_lowest f n (λ j l e. both_ways (f j) (h j l) e)

  pub none_more : (m : ℕ) → lowest f m ≡ None → f m ≡ false → lowest f (m + 1) ≡ None
  none_more m h e = none_lowest f (m + 1) (λ j l k. elim (cases_eq j m) [
    | inl q ↦ both_ways (f m) e (subst (λ (x : ℕ). f x ≡ true) q k)
    | inr q ↦ lowest_none f m h j (omega arith) k
  ])

  pub none_all : (n N : ℕ) → lowest f n ≡ None → ((j : ℕ) → n ≤ j → f j ≡ false) → lowest f N ≡ None
  none_all n N h k = none_lowest f N (λ j l e. elim (cases_lt j n) [
    | inl q ↦ lowest_none f n h j q e
    | inr q ↦ both_ways (f j) (k j q) e
  ])

  pub some_here : (m N : ℕ) → lowest f m ≡ None → f m ≡ true → m < N → lowest f N ≡ Some m
  unfolding lowest
  some_here m zero h e l = let z : ⊥ = omega arith in absurd z
  some_here m (suc N) h e l = elim (cases_eq m N) [
    | inl q ↦ subst (λ (x : ℕ). or_else (lowest f x) (cond (f x) (Some x) None) ≡ Some m) q
        (ap (λ o. or_else o (cond (f m) (Some m) None)) h ∙ cond-true (f m) (Some m) None e)
    | inr q ↦ ap (λ o. or_else o (cond (f N) (Some N) None)) (some_here m N h e (omega arith))
  ]

  -- and what it found passes, with nothing below it
  pub lowest_some : (n m : ℕ) → lowest f n ≡ Some m → (f m ≡ true) × (m < n) × ((j : ℕ) → j < m → f j ≡ true → ⊥)
  unfolding lowest
  lowest_some zero m e = absurd (some≢none m (sym e))
  lowest_some (suc n) m e = go (lowest f n) refl (f n) refl e (lowest_some n m)
    where
      Is : ℕ → Type 0
      Is N = (f m ≡ true) × (m < N) × ((j : ℕ) → j < m → f j ≡ true → ⊥)

      go :
          (o : Option ℕ) → lowest f n ≡ o → (b : Bool) → f n ≡ b → or_else o (cond b (Some n) None) ≡ Some m
          → (lowest f n ≡ Some m → Is n) → Is (suc n)
      go (Some k) p b q r i = let h = i (p ∙ r) in (h.0, let l = h.1 in omega arith, h.2)
      go None p true q r i =
          let x : n ≡ m = cc in
          (subst (λ (y : ℕ). f y ≡ true) x q, omega arith, λ j l k. lowest_none f n p j (omega arith) k)
      go None p false q r i = absurd (some≢none m (sym r))

  -- a search upwards for the greatest keeps the last that passed
  pub high_none : (n : ℕ) → ((j : ℕ) → j < n → f j ≡ false) → highest f n ≡ None
  unfolding highest
  high_none zero h = refl
  high_none (suc n) h = cond-false (f n) (Some n) (highest f n) (h n (omega arith)) ∙ high_none n (λ j l. h j (omega arith))

  pub high_yes : (m : ℕ) → f m ≡ true → highest f (m + 1) ≡ Some m
  unfolding highest
  high_yes m e = let q : suc m ≡ m + 1 = omega arith in subst (λ (x : ℕ). highest f x ≡ Some m) q (cond-true (f m) (Some m) (highest f m) e)

  pub high_no : (m : ℕ) → f m ≡ false → highest f (m + 1) ≡ highest f m
  unfolding highest
  high_no m e = let q : suc m ≡ m + 1 = omega arith in subst (λ (x : ℕ). highest f x ≡ highest f m) q (cond-false (f m) (Some m) (highest f m) e)

  pub high_all : (n N : ℕ) → n ≤ N → ((j : ℕ) → n ≤ j → f j ≡ false) → highest f N ≡ highest f n
  unfolding highest
  high_all n zero l h = let q : n ≡ 0 = omega arith in ap (highest f) (sym q)
  high_all n (suc N) l h = elim (cases_eq n (suc N)) [
    | inl q ↦ ap (highest f) (sym q)
    | inr q ↦ cond-false (f N) (Some N) (highest f N) (h N (omega arith)) ∙ high_all n N (omega arith) h
  ]
