-- A section: its length, and then so many bytes.
use Rattle.std.specs.Prelude.{◌≡◌, ℕ, ◌+◌, ◌<◌, ◌≤◌, ◌⊎◌, List, length, take, drop}
use Rattle.numbers.specs.Number.{Number}
use Rattle.numbers.specs.Amiss.{NoNumber}
use Rattle.faults.specs.declared.Fault.{Fault}
use Rattle.faults.specs.declared.Fault.TheVariants.{LengthBeyond}
use Rattle.record.specs.Form.{Form, ◌then◌, inside}

-- the length at `at` is that of the bytes `part`, which stand from `start` up to `next`
pub record SectionAt (bytes : List ℕ) (at : ℕ) (part : List ℕ) (start next : ℕ) : Type 0 where
  pub stands : Number bytes at (length part) start
  pub is : part ≡ take (length part) (drop start bytes)
  pub ends : next ≡ start + length part
  pub within : next ≤ length bytes

-- a length stands at `at` that goes beyond the bytes
pub record TooLong (bytes : List ℕ) (at : ℕ) : Type 0 where
  pub size : ℕ
  pub start : ℕ
  pub stands : Number bytes at size start
  pub beyond : length bytes < start + size

-- no section stands at `at`, and e says why
abbrev pub NoSection : List ℕ → ℕ → Fault → Type 0
NoSection bytes at e = NoNumber bytes 0 at e ⊎ ((e ≡ LengthBeyond at) × TooLong bytes at)

-- a section: its bytes, and the place where they begin
abbrev pub section_form : List ℕ → Form (List ℕ × ℕ)
section_form bytes = record { is = λ at s next. SectionAt bytes at s.0 s.1 next; amiss = λ at e. NoSection bytes at e }

-- a section and all that its bytes say; F is told the bytes and where they begin
abbrev pub held : {X : Type 0} → List ℕ → (List ℕ → ℕ → Form X) → Form X
held bytes F = section_form bytes then λ s. inside s.0 (F s.0 s.1)
