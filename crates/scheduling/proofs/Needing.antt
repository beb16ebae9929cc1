-- Counting the calls that the lines of all tables take.
use Rattle.std.proofs.Common.{◌≡◌, ℕ, suc, ◌+◌, Bool, true, false, cond, ◌||◌, List, refl, ap, ◌∙◌, arith}
use Rattle.tables.specs.Size.{unit}
use Rattle.tables.specs.Rows.{Rows}
use Rattle.tables.specs.View.{reads_at, writes_at}
use Rattle.model.specs.Trace.{tally}
use Rattle.scheduling.specs.Calls.{calls_at}

-- the calls of the lines below place n
abbrev pub calls_below : List Rows → ℕ → ℕ
calls_below ts n = tally (λ m. reads_at unit ts m || writes_at unit ts m) n + tally (writes_at unit ts) n

pub below_none : (ts : List Rows) → calls_below ts 0 ≡ 0
unfolding tally
below_none ts = refl

counted : (r w : Bool) (a b : ℕ) → cond (r || w) (suc a) a + cond w (suc b) b ≡ (a + b) + calls_at r w
counted true true a b = omega arith
counted true false a b = omega arith
counted false true a b = omega arith
counted false false a b = omega arith

pub below_more : (ts : List Rows) (n : ℕ) → calls_below ts (n + 1) ≡ calls_below ts n + calls_at (reads_at unit ts n) (writes_at unit ts n)
unfolding tally
below_more ts n =
    let on : n + 1 ≡ suc n = omega arith in
    ap (calls_below ts) on
    ∙ counted (reads_at unit ts n) (writes_at unit ts n) (tally (λ m. reads_at unit ts m || writes_at unit ts m) n) (tally (writes_at unit ts) n)
