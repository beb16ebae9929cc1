use Rattle.std.proofs.Common.{ℕ, ◌≤◌, vec_items, vec_len, vec_capacity, Vec}
use Rattle.std.specs.declared.alloc.Global.{Global}
use Rattle.tables.specs.Size.{unit}
use Rattle.tables.specs.View.{copy_at}
use Rattle.rules.specs.Waits.{Waits}
use Rattle.model.specs.Program.{program}
use Rattle.judging.specs.declared.passing.Passing.{Passing}
use Rattle.judging.specs.Outcomes.{rows_of, order_of}
use Rattle.answers.specs.declared.text.Account.{Account}
use Rattle.answers.specs.Accounts.{Accounts}
use Rattle.answers.proofs.telling.told.Given as goal

-- the reads below n are told, and the list has room for those that follow
abbrev pub Told : Passing → ℕ → Vec Account Global → Type 0
Told p n v =
    (128 ≤ vec_capacity v) × (vec_len v ≤ n)
    × ((w : Waits) → Accounts (program unit w (rows_of p)) (copy_at unit (rows_of p)) (order_of p) n (vec_items v))

abbrev pub invariant-loop-place : goal.invariant-loop-place
invariant-loop-place l = Told l.passing l.place l.accounts
