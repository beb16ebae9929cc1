-- One group of a number: as it is written, and how much the groups after it hold.
use Rattle.std.proofs.Common.{◌≡◌, ℕ, zero, suc, ◌+◌, ◌-◌, ◌*◌, ◌/◌, ◌%◌, ◌^◌, ◌<◌, ◌≤◌, [], ◌∷◌, length, refl, ap, ◌∙◌, inl, inr, sub-one, arith, le-ltb, lt-ltb}
use Rattle.std.proofs.lemmas.Bool.{cases_lt}
use Rattle.numbers.specs.Number.{encoded_by, bound}

pub last : (g n : ℕ) → 0 < g → n < 128 → encoded_by g n ≡ n ∷ []
unfolding encoded_by
last zero n p h = absurd (omega arith)
last (suc f) n p h = rw (lt-ltb n 128 h)

pub more : (g n : ℕ) → 0 < g → 128 ≤ n → encoded_by g n ≡ (128 + n % 128) ∷ encoded_by (g - 1) (n / 128)
unfolding encoded_by
more zero n p h = absurd (omega arith)
more (suc f) n p h = rw (le-ltb n 128 h, sub-one)

pub size_more : (g v : ℕ) → 0 < g → 128 ≤ v → length (encoded_by g v) ≡ 1 + length (encoded_by (g - 1) (v / 128))
size_more g v p h = ap length (more g v p h) ∙ omega arith

pub size_last : (g v : ℕ) → 0 < g → v < 128 → length (encoded_by g v) ≡ 1
size_last g v p h = ap length (last g v p h)

pub bound_more : (g : ℕ) → 1 < g → bound g ≡ 128 * bound (g - 1)
unfolding bound
bound_more zero p = absurd (omega arith)
bound_more (suc zero) p = absurd (omega arith)
bound_more (suc (suc f)) p = rw sub-one

pub bound_one : (g : ℕ) → g ≡ 1 → bound g ≡ 16
unfolding bound
bound_one g e = rw e

pub bound_five : bound 5 ≡ 2 ^ 32
unfolding bound
bound_five = refl

pub bound_top : (g : ℕ) → g ≤ 5 → bound g ≤ 2 ^ 32
unfolding bound
bound_top zero h = omega arith
bound_top (suc zero) h = omega arith
bound_top (suc (suc zero)) h = omega arith
bound_top (suc (suc (suc zero))) h = omega arith
bound_top (suc (suc (suc (suc zero)))) h = omega arith
bound_top (suc (suc (suc (suc (suc zero))))) h = omega arith
bound_top (suc (suc (suc (suc (suc (suc f)))))) h = absurd (omega arith)

pub bound_above : (g : ℕ) → 0 < g → 16 ≤ bound g
unfolding bound
bound_above zero p = absurd (omega arith)
bound_above (suc zero) p = omega arith
bound_above (suc (suc f)) p = omega (arith, bound_above (suc f) (omega arith))

-- a number of more than one group leaves a smaller one for the groups after
pub room : (g v : ℕ) → 0 < g → 128 ≤ v → v < bound g → (1 < g) × (v / 128 < bound (g - 1))
room g v p h small =
    elim (cases_lt 1 g)
    [ inl q ↦ (q, omega (arith, bound_more g q)) | inr q ↦ absurd (omega (arith, bound_one g (omega arith))) ]
