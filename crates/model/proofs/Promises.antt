-- What is promised holds under every rule with its law and for every kind of word.
use Rattle.std.proofs.Common.{◌≡◌, ℕ, ◌+◌, List, length, replicate, ◌∙◌, arith}
use lib.ListN.{length-replicate}
use Rattle.std.proofs.lemmas.Bool.{both_ways}
use Rattle.tables.specs.Rows.{Rows}
use Rattle.tables.specs.Size.{Size, places}
use Rattle.tables.specs.View.{reads_at, cell_at, copy_at, Good}
use Rattle.rules.specs.Waits.{Waits, KeepsWrites}
use Rattle.model.specs.declared.call.Call.{Call}
use Rattle.model.specs.Program.{Program, program, Words, written_at, stored_at}
use Rattle.model.specs.Machine.{Run, new, words_on, finish, cut}
use Rattle.model.specs.Schedule.{schedule, lines_in, writes_in}
use Rattle.model.specs.Theorems.{Allowed, ran, MachineMeetsAxioms, CompletedMeetsAxioms, AxiomsReachedBySchedule, CallsToComplete, ReachedExactlyIfAxioms, TraceFindsTheWord}
use Rattle.model.proofs.CallCounts.{completed_calls}
use Rattle.model.proofs.CompletedMeets.{completed_listed, completed_meets}
use Rattle.model.proofs.CutTables.{cut_reads, placed_cut, listed_cut, good_cut}
use Rattle.model.proofs.FinishMeets.{finish_meets, finish_listed}
use Rattle.model.proofs.Lawful.{Lawful, Local}
use Rattle.model.proofs.LawfulTables.{lawful, stored_local, copies}
use Rattle.model.proofs.OrderMeets.{issued_in_part}
use Rattle.model.proofs.PlacedAxioms.{to_places, to_relations}
use Rattle.model.proofs.Runs.{run_holds, Holds, new_holds}
use Rattle.model.proofs.Schedules.{schedule_completes}
use Rattle.model.proofs.Traces.{traced}

module _ {M : Type 0} (w : Waits) (law : KeepsWrites w) (K : Words M) where
  holds_ran :
      (z : Size) (ts : List Rows) (g : Good z ts) (calls : List Call) (sheet : List M)
      → Holds (program z w ts) (lawful z ts g w law) (stored_at K z ts) K.start (stored_local z ts g w K) sheet (ran w K z ts calls sheet)
  holds_ran z ts g calls sheet =
      let P = program z w ts in
      let L = lawful z ts g w law in
      let N = stored_local z ts g w K in
      run_holds P L (stored_at K z ts) K.start N sheet calls (new sheet) (new_holds P L (stored_at K z ts) K.start N sheet)

  pub machine_meets_axioms_lem : MachineMeetsAxioms w K
  machine_meets_axioms_lem z ts g calls sheet = record {
    good = good_cut z w ts f g;
    listed = listed_cut z w ts f o (finish_listed P L (stored_at K z ts) K.start N sheet r H);
    meets = to_relations (program z w lines) (stored_at K z lines) K.start o words
        (placed_cut z w ts f K o words (finish_meets P L (stored_at K z ts) K.start N sheet r H));
    size = H.size;
    others = λ i e. H.others i (λ y j. both_ways (reads_at z lines i) e (cut_reads z w ts f i ∙ issued_in_part P r.state (P.reads i) i y j));
  }
    where
      P : Program
      P = program z w ts

      L : Lawful P
      L = lawful z ts g w law

      N : Local P (stored_at K z ts)
      N = stored_local z ts g w K

      r : Run M
      r = ran w K z ts calls sheet

      f : ℕ → ℕ
      f = r.state.issued

      lines : List Rows
      lines = cut f ts

      o : List ℕ
      o = (finish z (cell_at z ts) r.state).order

      words : ℕ → M
      words = words_on K.start r.sheet

      H : Holds P L (stored_at K z ts) K.start N sheet r
      H = holds_ran z ts g calls sheet

  pub completed_meets_axioms_lem : CompletedMeetsAxioms w K
  completed_meets_axioms_lem z ts g calls sheet o words c =
      let P = program z w ts in
      let L = lawful z ts g w law in
      let N = stored_local z ts g w K in
      let r = ran w K z ts calls sheet in
      let H = holds_ran z ts g calls sheet in (
        completed_listed P L (stored_at K z ts) K.start N sheet r H o words c,
        to_relations P (stored_at K z ts) K.start o words (completed_meets P L (stored_at K z ts) K.start N sheet r H o words c),
      )

  pub axioms_reached_by_schedule_lem : AxiomsReachedBySchedule w K
  axioms_reached_by_schedule_lem z ts g sheet wide o words A =
      let P = program z w ts in
      schedule_completes P (lawful z ts g w law) (stored_at K z ts) K.start (stored_local z ts g w K) sheet wide o words A.0
      (to_places P (stored_at K z ts) K.start o words A.1)

  pub calls_to_complete_lem : CallsToComplete w K
  calls_to_complete_lem z ts g calls sheet o words a c =
      completed_calls (program z w ts) (lawful z ts g w law) (stored_at K z ts) K.start (stored_local z ts g w K) sheet calls o words a c

  -- so long is the schedule of an order that meets the axioms
  pub schedule_length :
      (z : Size) (ts : List Rows) → Good z ts → (o : List ℕ) (words : ℕ → M) → Allowed w K z ts o words
      → length (schedule z (λ _. 0) o) ≡ lines_in (program z w ts) + writes_in (program z w ts)
  schedule_length z ts g o words A =
      let sheet = replicate (places z) (K.start 0) in
      let y = axioms_reached_by_schedule_lem z ts g sheet (let l = length-replicate (places z) (K.start 0) in omega arith) o words A in
      calls_to_complete_lem z ts g (schedule z (λ _. 0) o) sheet o words y.0 y.1

  pub reached_exactly_if_axioms_lem : ReachedExactlyIfAxioms w K
  reached_exactly_if_axioms_lem z ts g sheet wide o words = (
    (λ x. completed_meets_axioms_lem z ts g x.0 sheet o words x.2),
    (λ A. let y = axioms_reached_by_schedule_lem z ts g sheet wide o words A in (schedule z (λ _. 0) o, y.0, y.1)),
  )

  pub trace_finds_the_word_lem : TraceFindsTheWord w K
  trace_finds_the_word_lem z ts g o words S =
      traced (program z w ts) (stored_at K z ts) K.start o words (lawful z ts g w law)
      (to_places (program z w ts) (stored_at K z ts) K.start o words S)
      (copy_at z ts) (written_at K z ts) (copies z ts g w K words)
