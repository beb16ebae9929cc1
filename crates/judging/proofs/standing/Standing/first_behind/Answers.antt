use Rattle.std.proofs.Common.{◌≡◌, ℕ, ◌+◌, ◌<◌, ◌≤◌, get_or, Some, None, Option, MatchOption, subst, arith, rules}
use Rattle.std.proofs.lemmas.Iterator.{first_from_Range}
use borrow.Author.Tests.{tests}
use Rattle.judging.specs.declared.standing.Standing.{Standing}
use Rattle.judging.specs.Standings.{nowhere}
use Rattle.judging.proofs.standing.Standing.first_behind.Goals as goal

-- what the search by places finds between two codes
abbrev Behind : Standing → ℕ → ℕ → ℕ → Option ℕ → Type 0
Behind s e low high r =
    MatchOption r ((j : ℕ) → low ≤ j → j < high → (get_or s.stands e nowhere).place < (get_or s.stands j nowhere).place)
    (λ i. (low ≤ i) × (i < high) × ((get_or s.stands i nowhere).place ≤ (get_or s.stands e nowhere).place)
    × ((j : ℕ) → low ≤ j → j < i → (get_or s.stands e nowhere).place < (get_or s.stands j nowhere).place))

pub returns-in-Some-clause-ahead : goal.returns-in-Some-clause-ahead
returns-in-Some-clause-ahead c = λ j l u.
    let s = c.args.self.now in
    let e = c.args.e in
    let at : ℕ → ℕ = λ f. (get_or s.stands f nowhere).place in
    let all : Behind s e (e + 1) c.past_table-past.result c.find.result =
    first_from_Range _ _ _ _ (λ f. at f ≤ at e) (λ f. at e < at f) c.find.ensures.ran (λ f q k. search (rules, tests)) (λ f q k. search (rules, tests)) in
    let r = subst (Behind s e (e + 1) c.past_table-past.result) c.in-Some.is all in
    let h = r.3 j (omega arith) (omega arith) in
    let a = (s.stood e c.requires).0 in
    let b = (s.stood j (let v = r.1 in omega arith)).0 in
    omega arith

pub returns-in-None-clause-ahead : goal.returns-in-None-clause-ahead
returns-in-None-clause-ahead c = λ j l u.
    let s = c.args.self.now in
    let e = c.args.e in
    let at : ℕ → ℕ = λ f. (get_or s.stands f nowhere).place in
    let all : Behind s e (e + 1) c.past_table-past.result c.find.result =
    first_from_Range _ _ _ _ (λ f. at f ≤ at e) (λ f. at e < at f) c.find.ensures.ran (λ f q k. search (rules, tests)) (λ f q k. search (rules, tests)) in
    let h = subst (Behind s e (e + 1) c.past_table-past.result) c.in-None.is all j (omega arith) (omega arith) in
    let a = (s.stood e c.requires).0 in
    let b = (s.stood j (omega arith)).0 in
    omega arith
