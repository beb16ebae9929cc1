-- A run by the place that it comes to.
use Rattle.std.proofs.Common.{◌≡◌, ℕ, List, sym}
use Rattle.record.specs.Form.{Form, Run}

pub run_to :
    {X : Type 0} (Item : List X → Form X) (Done : List X → ℕ → Type 0) (start : ℕ) (front : List X) (p q : ℕ)
    → p ≡ q → Run Item Done start front p → Run Item Done start front q
run_to Item Done start front p q e r = rw (sym e) r
