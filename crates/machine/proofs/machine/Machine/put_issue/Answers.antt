use Rattle.std.proofs.Common.{◌≡◌, sym, ap, ◌∙◌, subst, arith}
use Rattle.tables.specs.Size.{unit}
use Rattle.tables.specs.Lines.{reads, writes}
use Rattle.model.specs.Machine.{after_issue}
use Rattle.machine.specs.declared.mark.Mark.TheVariants.{Done, Held}
use Rattle.machine.specs.declared.inner.Inner.{Inner}
use Rattle.machine.specs.States.{inside, marked}
use Rattle.machine.specs.Machines.{state_of}
use Rattle.machine.specs.Sound.{Sound}
use Rattle.machine.proofs.Writes.{Sized, issue_room, after_put_load, after_put_store, after_put_swap, load_sound, store_sound, swap_sound, load_state, store_state, swap_state}
use Rattle.machine.proofs.machine.Machine.put_issue.Goals as goal

pub append-requires : goal.append-requires
append-requires c =
    let m = c.args.self.now in let n = c.args.n in
    let z : Sized m.inner = record { marks = omega arith; issued = omega arith; last = omega arith } in
    issue_room m.inner z m.sound n (omega arith) c.requires.next

pub append-requires-in-Swap : goal.append-requires-in-Swap
append-requires-in-Swap c =
    let m = c.args.self.now in let n = c.args.n in
    let z : Sized m.inner = record { marks = omega arith; issued = omega arith; last = omega arith } in
    issue_room m.inner z m.sound n (omega arith) c.requires.next

pub invariant_of-self : goal.invariant_of-self
invariant_of-self c =
    let m = c.args.self.now in let n = c.args.n in
    let z : Sized m.inner = record { marks = omega arith; issued = omega arith; last = omega arith } in
    let e : c.set_mark.new.self ≡ after_put_load m.inner z m.sound n (omega arith) c.requires.next c.into.result = c.set_mark.ensures ∙ ap (λ (i : Inner). marked i n Done) c.append.ensures in
    record { sound = subst Sound (sym e) (load_sound m.inner z m.sound n (omega arith) c.requires.next c.into.result) }

pub invariant_of-self-in-Store : goal.invariant_of-self-in-Store
invariant_of-self-in-Store c =
    let m = c.args.self.now in let n = c.args.n in
    let z : Sized m.inner = record { marks = omega arith; issued = omega arith; last = omega arith } in
    let e : c.set_mark-in-Store.new.self ≡ after_put_store m.inner z m.sound n (omega arith) c.requires.next = c.set_mark-in-Store.ensures in
    record { sound = subst Sound (sym e) (store_sound m.inner z m.sound n (omega arith) c.requires.next) }

pub invariant_of-self-in-Swap : goal.invariant_of-self-in-Swap
invariant_of-self-in-Swap c =
    let m = c.args.self.now in let n = c.args.n in
    let z : Sized m.inner = record { marks = omega arith; issued = omega arith; last = omega arith } in
    let e : c.set_mark-in-Swap.new.self ≡ after_put_swap m.inner z m.sound n (omega arith) c.requires.next c.into-in-Swap.result c.event_of-read.result = c.set_mark-in-Swap.ensures ∙ ap (λ (i : Inner). marked i n Held) c.append-in-Swap.ensures in
    record { sound = subst Sound (sym e) (swap_sound m.inner z m.sound n (omega arith) c.requires.next c.into-in-Swap.result c.event_of-read.result c.event_of-read.ensures.spot c.event_of-read.ensures.sided) }

pub returns-in-Load-clause-state : goal.returns-in-Load-clause-state
returns-in-Load-clause-state c =
    let m = c.args.self.now in let n = c.args.n in
    let z : Sized m.inner = record { marks = omega arith; issued = omega arith; last = omega arith } in
    let e : c.set_mark.new.self ≡ after_put_load m.inner z m.sound n (omega arith) c.requires.next c.into.result = c.set_mark.ensures ∙ ap (λ (i : Inner). marked i n Done) c.append.ensures in
    ap inside e ∙ load_state m.inner z m.sound n (omega arith) c.requires.next c.into.result (omega (arith, c.into.ensures.value, c.event_of-read.ensures.coded)) ∙ ap (λ k. after_issue unit (state_of m) n (reads k) (writes k)) (sym c.in-Load.is)

pub returns-in-Store-clause-state : goal.returns-in-Store-clause-state
returns-in-Store-clause-state c =
    let m = c.args.self.now in let n = c.args.n in
    let z : Sized m.inner = record { marks = omega arith; issued = omega arith; last = omega arith } in
    let e : c.set_mark-in-Store.new.self ≡ after_put_store m.inner z m.sound n (omega arith) c.requires.next = c.set_mark-in-Store.ensures in
    ap inside e ∙ store_state m.inner z m.sound n (omega arith) c.requires.next ∙ ap (λ k. after_issue unit (state_of m) n (reads k) (writes k)) (sym c.in-Store.is)

pub returns-in-Swap-clause-state : goal.returns-in-Swap-clause-state
returns-in-Swap-clause-state c =
    let m = c.args.self.now in let n = c.args.n in
    let z : Sized m.inner = record { marks = omega arith; issued = omega arith; last = omega arith } in
    let e : c.set_mark-in-Swap.new.self ≡ after_put_swap m.inner z m.sound n (omega arith) c.requires.next c.into-in-Swap.result c.event_of-read.result = c.set_mark-in-Swap.ensures ∙ ap (λ (i : Inner). marked i n Held) c.append-in-Swap.ensures in
    ap inside e ∙ swap_state m.inner z m.sound n (omega arith) c.requires.next c.into-in-Swap.result c.event_of-read.result c.event_of-read.ensures.spot (omega (arith, c.into-in-Swap.ensures.value, c.event_of-read.ensures.coded)) ∙ ap (λ k. after_issue unit (state_of m) n (reads k) (writes k)) (sym c.in-Swap.is)
