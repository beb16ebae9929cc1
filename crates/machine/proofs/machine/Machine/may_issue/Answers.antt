use Rattle.std.proofs.Common.{◌≡◌, ℕ, ◌+◌, ◌-◌, ◌*◌, ◌/◌, ◌%◌, ◌<◌, ◌≤◌, Bool, true, false, get_or, Some, None, sym, ap, ◌∙◌, arith}
use Rattle.faults.specs.declared.Fault.TheVariants.{SwapHalfDone}
use Rattle.tables.specs.declared.line.Line.{Line}
use Rattle.tables.specs.Size.{unit, number, row, places}
use Rattle.tables.specs.Lines.{reads, writes, kind_of, line_reads, line_writes}
use Rattle.tables.specs.View.{line_at, of_line, reads_at, writes_at}
use Rattle.rules.specs.Waits.{Waits}
use Rattle.model.specs.Machine.{next, has_next, issue_refusal}
use Rattle.model.proofs.FirstRefusals.{line_far, line_no, line_yes, issue_short, issue_none_left, issue_store, issue_waits, issue_load, issue_half, issue_swap}
use Rattle.machine.specs.declared.machine.Machine.{Machine}
use Rattle.machine.specs.States.{place_of, line_of}
use Rattle.machine.specs.Machines.{state_of, lines_of, program_of}
use Rattle.machine.specs.Tests.{Issuable}
use Rattle.machine.proofs.machine.Machine.may_issue.Goals as goal

-- the next line of processor p, whose table is q
module _ (w : Waits) (m : Machine) (p q : ℕ) (e : p ≡ q + 1) where
  abbrev n : ℕ
  n = 32 * q + get_or m.inner.issued q 0

  next_is : n ≡ next (program_of w m) (state_of m) (p - 1)
  unfolding number
  next_is = let x : q ≡ p - 1 = omega arith in ap (λ (k : ℕ). next (program_of w m) (state_of m) k) x

  -- the lines of the table that are issued, by the processor
  few_is : get_or m.inner.issued q 0 ≡ get_or m.inner.issued (p - 1) 0
  few_is = let x : q ≡ p - 1 = omega arith in ap (λ (k : ℕ). get_or m.inner.issued k 0) x

  module _ (l : Line) (h : Some l ≡ line_at unit (lines_of m) n) where
    reads_is : (b : Bool) → b ≡ reads (kind_of l.access) → reads_at unit (lines_of m) n ≡ b
    reads_is b r = ap (of_line false line_reads) (sym h) ∙ sym r

    writes_is : (b : Bool) → b ≡ writes (kind_of l.access) → writes_at unit (lines_of m) n ≡ b
    writes_is b r = ap (of_line false line_writes) (sym h) ∙ sym r

    there : get_or m.inner.issued q 0 < 32 → has_next (program_of w m) (state_of m) (p - 1) ≡ true
    there k = let few = few_is in
        line_yes unit w (lines_of m) (p - 1) (get_or m.inner.issued (p - 1) 0) l (omega arith) (ap (line_at unit (lines_of m)) (sym next_is) ∙ sym h)

    issuable : (room : ℕ) → q < 4 → get_or m.inner.issued q 0 < 32 → 128 ≤ room → issue_refusal (program_of w m) (state_of m) room p ≡ None → Issuable w m room p n l
    issuable room h4 k r f =
        let u : n / 32 ≡ q = omega arith in
        let v : n % 32 ≡ get_or m.inner.issued q 0 = omega arith in
        record { allowed = f; is = next_is; within = omega arith; row = v ∙ ap (λ (x : ℕ). get_or m.inner.issued x 0) (sym u); line = h; wide = r }

pub returns-then-room-lt-PLACES : goal.returns-then-room-lt-PLACES
unfolding places
returns-then-room-lt-PLACES g c =
    let m = c.args.self.now in let o = c.in_ok-table.ensures in
    issue_short (program_of g.R.WaitRule.waits m) (state_of m) c.args.room c.args.processor (omega arith) (omega arith) (omega arith)

pub returns-then-row-ge-LINES : goal.returns-then-row-ge-LINES
unfolding places
returns-then-row-ge-LINES g c =
    let w = g.R.WaitRule.waits in let m = c.args.self.now in let p = c.args.processor in let o = c.in_ok-table.ensures in let few = few_is w m p c.in_ok-table.table o.0 in
    issue_none_left (program_of w m) (state_of m) c.args.room p (omega arith) (omega arith) (omega arith)
    (line_far unit w (lines_of m) (p - 1) (get_or m.inner.issued (p - 1) 0) (omega arith))

pub returns-in_default : goal.returns-in_default
unfolding places
returns-in_default g c =
    let w = g.R.WaitRule.waits in let m = c.args.self.now in let p = c.args.processor in let o = c.in_ok-table.ensures in
    issue_none_left (program_of w m) (state_of m) c.args.room p (omega arith) (omega arith) (omega arith)
    (line_no unit w (lines_of m) (p - 1) (get_or m.inner.issued (p - 1) 0)
    (ap (line_at unit (lines_of m)) (sym (next_is w m p c.in_ok-table.table o.0)) ∙ sym c.in_default.ensures))

pub returns-then-not-reads : goal.returns-then-not-reads
unfolding places
returns-then-not-reads g c =
    let w = g.R.WaitRule.waits in let m = c.args.self.now in let p = c.args.processor in let q = c.in_ok-table.table in let l = c.in-Some.line in let o = c.in_ok-table.ensures in
    let wide : 128 ≤ c.args.room = omega arith in let inside : get_or m.inner.issued q 0 < 32 = omega arith in
    issuable w m p q o.0 l c.in-Some.ensures c.args.room o.1 inside wide
    (issue_store (program_of w m) (state_of m) c.args.room p (omega arith) (omega arith) wide (there w m p q o.0 l c.in-Some.ensures inside)
    (n w m p q o.0) (next_is w m p q o.0) (reads_is w m p q o.0 l c.in-Some.ensures false (c.if-not-reads.ensures ∙ ap reads c.kind-kind.ensures)))

pub returns-in-Some-lowest_stop : goal.returns-in-Some-lowest_stop
unfolding row places
returns-in-Some-lowest_stop g c =
    let w = g.R.WaitRule.waits in let m = c.args.self.now in let p = c.args.processor in let q = c.in_ok-table.table in let l = c.in-Some.line in let o = c.in_ok-table.ensures in
    issue_waits (program_of w m) (state_of m) c.args.room p (omega arith) (omega arith) (omega arith) (there w m p q o.0 l c.in-Some.ensures (omega arith))
    (n w m p q o.0) (next_is w m p q o.0) c.in-Some-lowest_stop.m
    (reads_is w m p q o.0 l c.in-Some.ensures true (let kind = ap reads c.kind-kind.ensures in cc)) (sym c.in-Some-lowest_stop.ensures)

pub returns-then-not-writes : goal.returns-then-not-writes
unfolding places
returns-then-not-writes g c =
    let w = g.R.WaitRule.waits in let m = c.args.self.now in let p = c.args.processor in let q = c.in_ok-table.table in let l = c.in-Some.line in let o = c.in_ok-table.ensures in
    let wide : 128 ≤ c.args.room = omega arith in let inside : get_or m.inner.issued q 0 < 32 = omega arith in
    issuable w m p q o.0 l c.in-Some.ensures c.args.room o.1 inside wide
    (issue_load (program_of w m) (state_of m) c.args.room p (omega arith) (omega arith) wide (there w m p q o.0 l c.in-Some.ensures inside)
    (n w m p q o.0) (next_is w m p q o.0) (sym c.in_default-lowest_stop.ensures)
    (writes_is w m p q o.0 l c.in-Some.ensures false (c.if-not-writes.ensures ∙ ap writes c.kind-kind.ensures)))

pub returns-in-Some-half : goal.returns-in-Some-half
unfolding number places
returns-in-Some-half g c =
    let w = g.R.WaitRule.waits in let m = c.args.self.now in let p = c.args.processor in let q = c.in_ok-table.table in let l = c.in-Some.line in let o = c.in_ok-table.ensures in
    let j = c.in-Some-half.swap in
    let r : 2 * place_of j ≡ c.from.result = omega (arith, c.from.ensures.value, m.sound.reading j c.in-Some-half.is) in
    issue_half (program_of w m) (state_of m) c.args.room p (omega arith) (omega arith) (omega arith) (there w m p q o.0 l c.in-Some.ensures (omega arith))
    (n w m p q o.0) (next_is w m p q o.0) (sym c.in_default-lowest_stop.ensures) (place_of j)
    (reads_is w m p q o.0 l c.in-Some.ensures true (c.if-not-reads.ensures ∙ ap reads c.kind-kind.ensures))
    (writes_is w m p q o.0 l c.in-Some.ensures true (c.if-not-writes.ensures ∙ ap writes c.kind-kind.ensures))
    (ap line_of c.in-Some-half.is)
    ∙ ap (λ (x : ℕ). Some (SwapHalfDone x)) r

pub returns-in-None : goal.returns-in-None
unfolding places
returns-in-None g c =
    let w = g.R.WaitRule.waits in let m = c.args.self.now in let p = c.args.processor in let q = c.in_ok-table.table in let l = c.in-Some.line in let o = c.in_ok-table.ensures in
    let wide : 128 ≤ c.args.room = omega arith in let inside : get_or m.inner.issued q 0 < 32 = omega arith in
    issuable w m p q o.0 l c.in-Some.ensures c.args.room o.1 inside wide
    (issue_swap (program_of w m) (state_of m) c.args.room p (omega arith) (omega arith) wide (there w m p q o.0 l c.in-Some.ensures inside)
    (n w m p q o.0) (next_is w m p q o.0) (sym c.in_default-lowest_stop.ensures) (ap line_of c.in-None.is))
