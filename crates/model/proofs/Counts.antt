-- Counting and choosing below a bound.
use Rattle.std.proofs.Common.{◌≡◌, ℕ, zero, suc, ◌<◌, ◌≤◌, Bool, true, false, ◌⊎◌, sym, refl, subst, inl, inr, arith}
use Rattle.std.proofs.lemmas.Bool.{cases_eq, cases_lt}
use Rattle.model.specs.Trace.{tally}

pub tally_le : (f g : ℕ → Bool) (n : ℕ) → ((m : ℕ) → f m ≡ true → g m ≡ true) → tally f n ≤ tally g n
unfolding tally
tally_le f g zero h = omega arith
tally_le f g (suc n) h = let r = tally_le f g n h in let t = h n in grind arith

pub tally_lt : (f g : ℕ → Bool) (n k : ℕ) → ((m : ℕ) → f m ≡ true → g m ≡ true) → k < n → f k ≡ false → g k ≡ true → tally f n < tally g n
unfolding tally
tally_lt f g zero k h l p q = omega arith
tally_lt f g (suc n) k h l p q = go (cases_eq k n) (λ x. tally_lt f g n k h x p q)
  where
    go : (k ≡ n) ⊎ (k ≡ n → ⊥) → (k < n → tally f n < tally g n) → tally f (suc n) < tally g (suc n)
    go (inl e) i = let r = tally_le f g n h in let a : f n ≡ false = cc in let b : g n ≡ true = cc in grind arith
    go (inr e) i = let r = i (omega arith) in let t = h n in grind arith

pub tally_same : (f g : ℕ → Bool) (n : ℕ) → ((m : ℕ) → f m ≡ g m) → tally f n ≡ tally g n
unfolding tally
tally_same f g zero h = refl
tally_same f g (suc n) h = let r = tally_same f g n h in let t = h n in cc

-- one number more passes
pub tally_more :
    (f g : ℕ → Bool) (n k : ℕ) → k < n → f k ≡ false → g k ≡ true → ((m : ℕ) → (m ≡ k → ⊥) → f m ≡ g m) → tally g n ≡ suc (tally f n)
unfolding tally
tally_more f g zero k l p q h = omega arith
tally_more f g (suc n) k l p q h = go (cases_eq k n) (λ x. tally_more f g n k x p q h)
  where
    below : (i : ℕ) → i ≤ k → tally f i ≡ tally g i
    below zero x = refl
    below (suc i) x = let r = below i (omega arith) in let t = h i (λ e. omega arith) in cc

    go : (k ≡ n) ⊎ (k ≡ n → ⊥) → (k < n → tally g n ≡ suc (tally f n)) → tally g (suc n) ≡ suc (tally f (suc n))
    go (inl e) i = let r = below n (omega arith) in let a : f n ≡ false = cc in let b : g n ≡ true = cc in grind arith
    go (inr e) i = let r = i (omega arith) in let t = h n (λ x. e (sym x)) in grind arith

pub tally_none : (f : ℕ → Bool) (n : ℕ) → ((m : ℕ) → f m ≡ false) → tally f n ≡ 0
unfolding tally
tally_none f zero h = refl
tally_none f (suc n) h = let r = tally_none f n h in let t = h n in grind arith

-- of the numbers below a bound that have C, one with the greatest f, or none
pub best :
    (C : ℕ → Type 0) (dec : (m : ℕ) → Dec (C m)) (f : ℕ → ℕ) (n : ℕ)
    → ((m : ℕ) → m < n → C m → ⊥) ⊎ ((m : ℕ) × C m × ((j : ℕ) → j < n → C j → f j ≤ f m))
best C dec f zero = inl (λ m l c. omega arith)
best C dec f (suc n) = go (best C dec f n) (dec n)
  where
    Out : Type 0
    Out = ((m : ℕ) → m < suc n → C m → ⊥) ⊎ ((m : ℕ) × C m × ((j : ℕ) → j < suc n → C j → f j ≤ f m))

    below : (P : ℕ → Type 0) → ((j : ℕ) → j < n → C j → P j) → (C n → P n) → (j : ℕ) → j < suc n → C j → P j
    below P h k j l c = elim (cases_eq j n) [ inl e ↦ subst P (sym e) (k (subst C e c)) | inr e ↦ h j (omega arith) c ]

    go : ((m : ℕ) → m < n → C m → ⊥) ⊎ ((m : ℕ) × C m × ((j : ℕ) → j < n → C j → f j ≤ f m)) → Dec (C n) → Out
    go (inl h) (yes c) = inr (n, c, below (λ j. f j ≤ f n) (λ j l d. absurd (h j l d)) (λ _. omega arith))
    go (inl h) (no c) = inl (below (λ _. ⊥) h c)
    go (inr (m, d, h)) (yes c) = elim (cases_lt (f n) (f m)) [
      | inl l ↦ inr (m, d, below (λ j. f j ≤ f m) h (λ _. omega arith))
      | inr l ↦ inr (n, c, below (λ j. f j ≤ f n) (λ j k e. let r = h j k e in omega arith) (λ _. omega arith))
    ]
    go (inr (m, d, h)) (no c) = inr (m, d, below (λ j. f j ≤ f m) h (λ x. absurd (c x)))
