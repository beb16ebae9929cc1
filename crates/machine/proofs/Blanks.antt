-- A machine on which nothing has run.
use Rattle.std.proofs.Common.{◌≡◌, ℕ, zero, suc, true, length, get_or, replicate, [], None, count_by, Option, refl, ap, arith}
use mathlib.Core.Path.{fun_ext}
use Rattle.std.proofs.lemmas.Bool.{both_ways}
use Rattle.tables.specs.declared.event.Event.{Event}
use Rattle.tables.specs.declared.tables.Tables.{Tables}
use Rattle.model.specs.Machine.{fresh}
use Rattle.arrayvec.specs.ArrayVec.{ArrayVec}
use Rattle.machine.specs.declared.mark.Mark.TheVariants.{Waiting}
use Rattle.machine.specs.declared.inner.Inner.{Inner}
use Rattle.machine.specs.States.{is_held, line_of, inside}
use Rattle.machine.specs.Sound.{Sound}
use Rattle.machine.proofs.Arrays.{same_state}

abbrev pub blank : Tables → ArrayVec ℕ → Inner
blank t o = record {
  tables = t;
  marks = replicate 128 Waiting;
  issued = replicate 4 0;
  last = replicate 64 None;
  half = None;
  order = o;
}

-- an array of one value has it everywhere
all_same : {A : Type 0} (n : ℕ) (a : A) (i : ℕ) → get_or (replicate n a) i a ≡ a
all_same zero a i = refl
all_same (suc n) a zero = refl
all_same (suc n) a (suc i) = all_same n a i

none_held : (n : ℕ) → count_by is_held (replicate n Waiting) ≡ 0
none_held zero = refl
none_held (suc n) = none_held n

not_held : (n : ℕ) → is_held (get_or (replicate 128 Waiting) n Waiting) ≡ true → ⊥
not_held n h = both_ways (is_held (get_or (replicate 128 Waiting) n Waiting)) (ap is_held (all_same 128 Waiting n)) h

pub blank_sound : (t : Tables) (o : ArrayVec ℕ) → o.items ≡ [] → Sound (blank t o)
blank_sound t o p = record {
  few = λ q. let a = all_same {A = ℕ} 4 0 q in omega arith;
  room = let a = none_held 128 in let b = ap length p in omega arith;
  fits = let b = ap length p in omega arith;
  issued = λ n h. absurd (not_held n h);
  half = λ e q. let x : ◌≡◌ {A = ℕ} 0 1 = cc in let y : ⊥ = omega arith in absurd y;
  halfway = λ e q. let x : ◌≡◌ {A = ℕ} 0 1 = cc in let y : ⊥ = omega arith in absurd y;
  reading = λ e q. let x : ◌≡◌ {A = ℕ} 0 1 = cc in let y : ⊥ = omega arith in absurd y;
  drained = λ c e q. let a = all_same {A = Option Event} 64 None c in let x : ◌≡◌ {A = ℕ} 0 1 = cc in let y : ⊥ = omega arith in absurd y;
}

pub blank_state : (t : Tables) (o : ArrayVec ℕ) → o.items ≡ [] → inside (blank t o) ≡ fresh
blank_state t o p = same_state (fun_ext (λ q. all_same 4 0 q)) (fun_ext (λ n. ap is_held (all_same 128 Waiting n)))
    (fun_ext (λ c. ap line_of (all_same {A = Option Event} 64 None c))) p refl
