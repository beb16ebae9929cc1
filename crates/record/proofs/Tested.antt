-- A number that fails its test.
use Rattle.std.proofs.Common.{◌≡◌, ℕ, ◌+◌, List, Some, ap, inr}
use Rattle.faults.specs.declared.Fault.{Fault}
use Rattle.numbers.specs.Number.{Number}
use Rattle.numbers.specs.Amiss.{capped}
use Rattle.record.specs.Form.{Test, tested}

pub fails_test :
    (bytes : List ℕ) (base : ℕ) (t : Test) (at value next place : ℕ) (cause : ℕ → Fault)
    → Number bytes at value next → t value ≡ Some cause → place ≡ capped (base + at) → (tested bytes base t).amiss at (cause place)
fails_test bytes base t at value next place cause n f e =
    inr (record { value = value; next = next; stands = n; cause = cause; fails = f; fault = ap cause e })
