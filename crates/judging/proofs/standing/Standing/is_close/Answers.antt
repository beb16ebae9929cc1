use Rattle.std.proofs.Common.{◌≡◌, ℕ, suc, ◌+◌, ◌-◌, ◌%◌, ◌<◌, ◌≤◌, ◌∙◌, subst, length, get_or, refl, ap, arith, rules}
use Rattle.std.proofs.lemmas.Iterator.{cases_from_all, serves_from_Range, YieldsList-from_range}
use Rattle.std.proofs.lemmas.List.FromFn.{length-range_with_len, get_or-range_with_len}
use Rattle.std.specs.List.{AllWithin, range_with_len}
use borrow.Author.Tests.{tests}
use Rattle.tables.specs.Contents.{contents}
use Rattle.judging.specs.Standings.{nowhere}
use Rattle.model.proofs.Positions.{place, place_le}
use Rattle.judging.proofs.Scans.{swap_close}
use Rattle.judging.proofs.standing.Standing.is_close.Goals as goal

-- what `all` says of the items of a range, said of the numbers in it
range_all :
    (P : ℕ → Type 0) (low high : ℕ)
    → AllWithin P (range_with_len low (high - low)) 0 (length (range_with_len low (high - low)))
    → (j : ℕ) → low ≤ j → j < high → P j
range_all P low high h j l u =
    let n = length-range_with_len low (high - low) in
    let at : get_or (range_with_len low (high - low)) (j - low) 0 ≡ j =
    get_or-range_with_len low (high - low) (j - low) 0 (omega arith) ∙ omega arith in
    subst P at (h (j - low) 0 (omega arith) (omega arith))

pub all-requires-clause-callable : goal.all-requires-clause-callable
all-requires-clause-callable c =
    let a = (c.args.self.now.stood (c.args.e + 1) c.requires).0 in
    let b = place_le c.args.self.now.order.now (c.args.e + 1) in
    serves_from_Range (λ i q k. search rules)
    (λ i l u. let h : i < length c.args.self.now.order.now = omega arith in search (rules, h))

pub returns : goal.returns
returns c = λ all.
    let s = c.args.self.now in
    let o = s.order.now in
    let e = c.args.e in
    let a = (s.stood (e + 1) c.requires).0 in
    let b = (s.stood e (omega arith)).0 in
    let q : e + 1 ≡ suc e = omega arith in
    let d = ap (place o) q in
    let at : ℕ → ℕ = λ f. (get_or s.stands f nowhere).place in
    let even : ℕ → Type 0 = λ i. get_or o i 0 % 2 ≡ 0 in
    let r = cases_from_all _ _ c.all.result even (λ i. get_or o i 0 % 2 ≡ 1) c.all.ensures.ran
    (YieldsList-from_range (at e) (at (e + 1)) _ refl refl) (λ x q k. search (rules, tests)) (λ x q k. search (rules, tests)) in
    let p = rw all at r in
    swap_close (contents s.tables.now) o e
    (λ j l u k. let z = range_all even (at e) (at (e + 1)) p j (omega arith) (omega arith) in omega arith)
