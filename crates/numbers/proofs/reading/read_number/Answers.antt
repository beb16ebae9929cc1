use Rattle.std.proofs.Common.{ℕ, ◌+◌, ◌<◌, get_or, Ok, Err, inl, inr, arith}
use Rattle.std.proofs.lemmas.Result.{err_from_is_err_and}
use Rattle.faults.specs.declared.Fault.TheVariants.{NumberMalformed}
use Rattle.numbers.specs.Amiss.{Reads}
use Rattle.numbers.specs.Number.{Shortest}
use Rattle.numbers.proofs.Standing.{number_made, told}
use Rattle.numbers.proofs.reading.read_number.Goals as goal
use Rattle.numbers.proofs.reading.read_number.Goals.{else-last-at-via-then-last-at+else-top-eq0, else-last-at-via-else-last-at}

pub returns-in_err-value : goal.returns-in_err-value
returns-in_err-value c =
    let xs = c.args.bytes.now in
    let base = c.args.base in
    let at = c.args.at in
    let r = c.from_residual.result in
    let p = err_from_is_err_and r c.from_residual.ensures.1 in
    let place = c.saturating_add-place.ensures in
    let reads : Reads xs base at r =
    rw (p.1, p.2) (elim c.in_err-value.ensures [
      | inl w ↦ inl (rw place at w.0, w.1)
      | inr w ↦ inr (rw place at w.0, inl w.1)
    ]) in
    told xs base at r reads

pub returns-then-top-eq0 : goal.returns-then-top-eq0
returns-then-top-eq0 c =
    let xs = c.args.bytes.now in
    let base = c.args.base in
    let at = c.args.at in
    let r = Err (NumberMalformed c.saturating_add-place.result) in
    let s = c.in_ok-value.ensures in
    let reads : Reads xs base at r =
    inr (
      rw c.saturating_add-place.ensures,
      inr (record {
        p = c.in_ok-value.last;
        reaches = s.reaches;
        several = omega arith;
        idle = omega arith;
      }),
    ) in
    told xs base at r reads

pub returns : goal.returns
returns c =
    let xs = c.args.bytes.now in
    let base = c.args.base in
    let at = c.args.at in
    let v = c.in_ok-value.value in
    let p = c.in_ok-value.last in
    let bytes : (i : ℕ) → get_or xs i 0 < 256 = λ i. omega (arith, c.type_inv.bytes i) in
    let least : Shortest xs at p =
    λ several. elim c.else-last-at.branch [
      | else-last-at-via-then-last-at+else-top-eq0 w ↦ omega arith
      | else-last-at-via-else-last-at w ↦ absurd (omega arith)
    ] in
    let r = Ok (v, p + 1) in
    let reads : Reads xs base at r = number_made xs at v p bytes c.in_ok-value.ensures least in
    told xs base at r reads
