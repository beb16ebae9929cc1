-- Bytes written into a list: one, several after one another, a number's.
use Rattle.std.proofs.Common.{◌≡◌, ℕ, ◌+◌, ◌-◌, ◌/◌, ◌%◌, ◌^◌, ◌<◌, ◌≤◌, List, [], ◌∷◌, ◌++◌, length, take, drop, set, sym, refl, ap, ◌∙◌, add-one, arith}
use Rattle.std.proofs.lemmas.List.{append_assoc, set_split, drop-drop, drop_at, take_at, length-append, length-take-le, length-drop}
use Rattle.numbers.specs.Number.{encoded, encoded_by, Number}
use Rattle.numbers.specs.Put.{Put}
use Rattle.numbers.proofs.Codes.{last, more}
use Rattle.numbers.proofs.Standing.{number_here}

pub put_one : (xs : List ℕ) (at v : ℕ) → at < length xs → Put (v ∷ []) xs at (at + 1) (set xs at v)
put_one xs at v h = record {
  after = rw add-one (set_split xs at v h);
  ends = refl;
  within = omega arith;
}

pub put_length : (bs xs : List ℕ) (at next : ℕ) (ys : List ℕ) → Put bs xs at next ys → length ys ≡ length xs
put_length bs xs at next ys p =
    let a : length (take at xs) ≡ at = length-take-le at xs (omega (arith, p.ends, p.within)) in
    let e : length ys ≡ length (take at xs) + (length bs + length (drop next xs)) =
    ap length p.after ∙ (length-append (take at xs) (bs ++ drop next xs) ∙ ap (λ (n : ℕ). length (take at xs) + n) (length-append bs (drop next xs))) in
    omega (arith, length-drop next xs, p.ends, p.within)

-- one after the other
pub put_both :
    (us bs xs ys zs : List ℕ) (at mid next : ℕ) → Put us xs at mid ys → Put bs ys mid next zs → Put (us ++ bs) xs at next zs
put_both us bs xs ys zs at mid next p q =
    let len = put_length us xs at mid ys p in
    let low : at ≤ length xs = omega (arith, p.ends, p.within) in
    let a : length (take at xs) ≡ at = length-take-le at xs low in
    let y : ys ≡ (take at xs ++ us) ++ drop mid xs = p.after ∙ sym (append_assoc (take at xs) us (drop mid xs)) in
    let n : length (take at xs ++ us) ≡ mid = length-append (take at xs) us ∙ omega (arith, p.ends) in
    let t : take mid ys ≡ take at xs ++ us = ap (take mid) y ∙ take_at (take at xs ++ us) (drop mid xs) mid n in
    let m : drop mid ys ≡ drop mid xs = ap (drop mid) y ∙ drop_at (take at xs ++ us) (drop mid xs) mid n in
    let k : mid + (next - mid) ≡ next = omega (arith, q.ends) in
    let d : drop next ys ≡ drop next xs =
    ap (λ (i : ℕ). drop i ys) (sym k) ∙ (sym (drop-drop (next - mid) mid ys) ∙ (ap (drop (next - mid)) m ∙ (drop-drop (next - mid) mid xs ∙ ap (λ (i : ℕ). drop i xs) k))) in
    record {
      after = q.after ∙ rw (t, d) (append_assoc (take at xs) us (bs ++ drop next xs) ∙ ap (λ (z : List ℕ). take at xs ++ z) (sym (append_assoc us bs (drop next xs))));
      ends = omega (arith, p.ends, q.ends, length-append us bs);
      within = omega (arith, q.within);
    }

pub put_last : (g : ℕ) (xs : List ℕ) (at v : ℕ) → 0 < g → at < length xs → v < 128 → Put (encoded_by g v) xs at (at + 1) (set xs at v)
put_last g xs at v p h low = rw (last g v p low) (put_one xs at v h)

pub put_more :
    (g : ℕ) (xs : List ℕ) (at v next : ℕ) (ys : List ℕ)
    → 0 < g → at < length xs → 128 ≤ v
    → Put (encoded_by (g - 1) (v / 128)) (set xs at (128 + v % 128)) (at + 1) next ys → Put (encoded_by g v) xs at next ys
put_more g xs at v next ys p h high s =
    rw (more g v p high) (put_both ((128 + v % 128) ∷ []) (encoded_by (g - 1) (v / 128)) xs (set xs at (128 + v % 128)) ys at (at + 1) next (put_one xs at (128 + v % 128) h) s)

-- a number that was written stands there
pub put_stands : (xs : List ℕ) (at v next : ℕ) (ys : List ℕ) → v < 2 ^ 32 → Put (encoded v) xs at next ys → Number ys at v next
put_stands xs at v next ys small p =
    let a : length (take at xs) ≡ at = length-take-le at xs (omega (arith, p.ends, p.within)) in
    let e : drop at ys ≡ encoded v ++ drop next xs = ap (drop at) p.after ∙ drop_at (take at xs) (encoded v ++ drop next xs) at a in
    rw p.ends (number_here ys at v (drop next xs) small e)
