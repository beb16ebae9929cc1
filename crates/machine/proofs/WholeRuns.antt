-- Whole runs: calls one after the other on a new machine, and finishing.
use Rattle.std.proofs.Common.{◌≡◌, ℕ, ◌+◌, ◌<◌, ◌≤◌, List, length, get_or, take, sym, ap, ◌∙◌, subst}
use Rattle.std.proofs.lemmas.List.{take_more, take_all}
use Rattle.tables.specs.Size.{unit}
use Rattle.tables.specs.Rows.{Rows}
use Rattle.tables.specs.Contents.{contents}
use Rattle.tables.specs.View.{cell_at, Good}
use Rattle.rules.specs.Waits.{Waits, KeepsWrites}
use Rattle.model.specs.declared.call.Call.{Call}
use Rattle.model.specs.Program.{program, Words, stored_at}
use Rattle.model.specs.Machine.{State, fresh, Run, step, run, finish, cut}
use Rattle.model.specs.Theorems.{ran, EndsWell}
use Rattle.model.proofs.Promises.{machine_meets_axioms_lem}
use Rattle.machine.specs.declared.machine.Machine.{Machine}
use Rattle.machine.specs.declared.ended.Ended.{Ended}
use Rattle.machine.specs.Machines.{state_of, lines_of}
use Rattle.machine.specs.Calls.{run_of}
use Rattle.machine.specs.Endings.{order_of}
use Rattle.machine.specs.Plays.{Played}
use Rattle.machine.proofs.Steps.{run_more}

module _ {M : Type 0} (w : Waits) (K : Words M) (calls : List Call) where
  -- some calls with these tables
  abbrev after : List Rows → List Call → Run M → Run M
  after ts cs r = run (program unit w ts) (stored_at K unit ts) K.start cs r

  pub one_more :
      (ts us : List Rows) (i : ℕ) (d : Call) (r₀ r r' : Run M) → i < length calls → us ≡ ts → r ≡ after ts (take i calls) r₀
      → r' ≡ step (program unit w us) (stored_at K unit us) K.start (get_or calls i d) r → r' ≡ after ts (take (i + 1) calls) r₀
  one_more ts us i d r₀ r r' l t e f =
      let c = get_or calls i d in
      f ∙ ap (λ (vs : List Rows). step (program unit w vs) (stored_at K unit vs) K.start c r) t
      ∙ ap (step (program unit w ts) (stored_at K unit ts) K.start c) e
      ∙ sym (ap (λ (cs : List Call). after ts cs r₀) (take_more calls i d l)
      ∙ run_more (program unit w ts) (stored_at K unit ts) K.start (take i calls) c r₀)

  module _ (law : KeepsWrites w) (ts : List Rows) (g : Good unit ts) (sheet sheet' : List M) (m₀ m : Machine) (e : Ended) where
    pub played :
        state_of m₀ ≡ fresh → lines_of m₀ ≡ ts → (i : ℕ) → length calls ≤ i → run_of m sheet' ≡ after (lines_of m₀) (take i calls) (run_of m₀ sheet)
        → lines_of m ≡ lines_of m₀ → order_of e ≡ (finish unit (cell_at unit (lines_of m)) (state_of m)).order
        → contents e.tables ≡ cut (state_of m).issued (lines_of m) → Played w K ts calls sheet e sheet'
    played new lines₀ i l h same order lines = record {
      well = subst (λ (us : List Rows). EndsWell w K unit us (order_of e) sheet sheet') (sym lines')
          (subst (λ (o : List ℕ). EndsWell w K unit (cut R.state.issued ts) o sheet sheet') (sym order')
          (subst (λ (x : List M). EndsWell w K unit (cut R.state.issued ts) (finish unit (cell_at unit ts) R.state).order sheet x) (sym words)
          (machine_meets_axioms_lem w law K unit ts g calls sheet)));
      order = order';
      lines = lines';
      words = words;
    }
      where
        R : Run M
        R = ran w K unit ts calls sheet

        here : run_of m sheet' ≡ R
        here = h ∙ ap (λ (us : List Rows). after us (take i calls) (run_of m₀ sheet)) lines₀
            ∙ ap (λ (s : State). after ts (take i calls) (record { state = s; sheet = sheet })) new
            ∙ ap (λ (cs : List Call). after ts cs (record { state = fresh; sheet = sheet })) (take_all i calls l)

        state : state_of m ≡ R.state
        state = ap (λ (r : Run M). r.state) here

        words : sheet' ≡ R.sheet
        words = ap (λ (r : Run M). r.sheet) here

        tables : lines_of m ≡ ts
        tables = same ∙ lines₀

        order' : order_of e ≡ (finish unit (cell_at unit ts) R.state).order
        order' = order ∙ ap (λ (us : List Rows). (finish unit (cell_at unit us) (state_of m)).order) tables
            ∙ ap (λ (s : State). (finish unit (cell_at unit ts) s).order) state

        lines' : contents e.tables ≡ cut R.state.issued ts
        lines' = lines ∙ ap (cut (state_of m).issued) tables ∙ ap (λ (s : State). cut s.issued ts) state
