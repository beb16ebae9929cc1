-- A word put on a sheet, by meanings.
use Rattle.std.proofs.Common.{◌≡◌, ℕ, Bool, true, cond, List, map, set, sym, ap, ◌∙◌}
use Rattle.std.proofs.lemmas.List.{map-set}
use Rattle.std.proofs.lemmas.Bool.{cond-true}

pub put_is : {W M : Type 0} (f : W → M) (xs : List W) (n : ℕ) (w : W) (v : M) (b : Bool) → b ≡ true → f w ≡ v → map f (set xs n w) ≡ cond b (set (map f xs) n v) (map f xs)
put_is f xs n w v b t e = map-set f xs n w ∙ ap (set (map f xs) n) e ∙ sym (cond-true b (set (map f xs) n v) (map f xs) t)
