-- What is promised for every size, all good tables of that size, every waiting rule with the law and every kind of word. Words
-- and sheets are taken by meaning: the sheet of a run is the list of the meanings of the words at its places.
use Rattle.std.specs.Prelude.{◌≡◌, ℕ, ◌+◌, ◌≤◌, true, false, ◌↔◌, List, length}
use Rattle.tables.specs.Size.{Size, places}
use Rattle.tables.specs.Lines.{nth}
use Rattle.tables.specs.Rows.{Rows}
use Rattle.tables.specs.View.{reads_at, cell_at, copy_at, Good}
use Rattle.rules.specs.Waits.{Waits}
use Rattle.model.specs.declared.call.Call.{Call}
use Rattle.model.specs.Program.{program, Words, written_at, stored_at}
use Rattle.model.specs.Orders.{Listed}
use Rattle.model.specs.Axioms.{Meets}
use Rattle.model.specs.Machine.{Run, new, words_on, run, finish, cut, Accepted, Completed}
use Rattle.model.specs.Schedule.{schedule, lines_in, writes_in}
use Rattle.model.specs.Trace.{Traced}

module _ {M : Type 0} (w : Waits) (K : Words M) where
  -- an order and its words meet the six axioms for these tables
  abbrev pub MeetsFor : Size → List Rows → List ℕ → (ℕ → M) → Type 0
  MeetsFor z ts o words = Meets (program z w ts) (stored_at K z ts) K.start o words

  -- and the order lists events of the tables
  abbrev pub Allowed : Size → List Rows → List ℕ → (ℕ → M) → Type 0
  Allowed z ts o words = Listed (program z w ts) o × MeetsFor z ts o words

  -- a new machine with these tables and this sheet, after some calls; refused ones alter nothing
  abbrev pub ran : Size → List Rows → List Call → List M → Run M
  ran z ts calls sheet = run (program z w ts) (stored_at K z ts) K.start calls (new sheet)

  -- none of the calls is refused
  abbrev pub AllAccepted : Size → List Rows → List Call → List M → Type 0
  AllAccepted z ts calls sheet = Accepted (program z w ts) (stored_at K z ts) K.start calls (new sheet)

  -- the calls complete a new machine with the order and its words
  abbrev pub Completes : Size → List Rows → List Call → List M → List ℕ → (ℕ → M) → Type 0
  Completes z ts calls sheet o words = Completed (program z w ts) (stored_at K z ts) K.start o words (ran z ts calls sheet)

  -- what a machine leaves, that had one sheet and has the other at its end: these lines, which are good tables, an order of
  -- their events that meets the axioms with the words now on the sheet, and all other places as they were
  pub record EndsWell (z : Size) (lines : List Rows) (o : List ℕ) (sheet sheet' : List M) : Type 0 where
    pub good : Good z lines
    pub listed : Listed (program z w lines) o
    pub meets : MeetsFor z lines o (words_on K.start sheet')
    pub size : length sheet' ≡ length sheet
    pub others : (i : ℕ) → reads_at z lines i ≡ false → nth sheet' i ≡ nth sheet i

  -- whatever calls are made, refused ones included, and whatever the sheet held: finishing gives an order that meets the axioms
  -- for the lines issued and the words on the sheet
  abbrev pub MachineMeetsAxioms : Type 0
  MachineMeetsAxioms =
      (z : Size) (ts : List Rows) → Good z ts → (calls : List Call) (sheet : List M)
      → (let r = ran z ts calls sheet in
      EndsWell z (cut r.state.issued ts) (finish z (cell_at z ts) r.state).order sheet r.sheet)

  -- whatever calls are made, a machine is completed only with an order that meets the axioms
  abbrev pub CompletedMeetsAxioms : Type 0
  CompletedMeetsAxioms =
      (z : Size) (ts : List Rows) → Good z ts → (calls : List Call) (sheet : List M) (o : List ℕ) (words : ℕ → M)
      → Completes z ts calls sheet o words → Allowed z ts o words

  -- with every such order a new machine is completed by the calls of its schedule, none of which is refused, whatever the
  -- sheet held, if it has its places
  abbrev pub AxiomsReachedBySchedule : Type 0
  AxiomsReachedBySchedule =
      (z : Size) (ts : List Rows) → Good z ts → (sheet : List M) → places z ≤ length sheet → (o : List ℕ) (words : ℕ → M)
      → Allowed z ts o words → AllAccepted z ts (schedule z (λ _. 0) o) sheet × Completes z ts (schedule z (λ _. 0) o) sheet o words

  -- so an order with its words meets the axioms exactly if some calls, none refused, complete a new machine with it
  abbrev pub ReachedExactlyIfAxioms : Type 0
  ReachedExactlyIfAxioms =
      (z : Size) (ts : List Rows) → Good z ts → (sheet : List M) → places z ≤ length sheet → (o : List ℕ) (words : ℕ → M)
      → ((calls : List Call) × AllAccepted z ts calls sheet × Completes z ts calls sheet o words) ↔ Allowed z ts o words

  -- accepted calls that complete a machine are as many as the tables have lines and writes, and so many are a schedule's
  abbrev pub CallsToComplete : Type 0
  CallsToComplete =
      (z : Size) (ts : List Rows) → Good z ts → (calls : List Call) (sheet : List M) (o : List ℕ) (words : ℕ → M)
      → AllAccepted z ts calls sheet → Completes z ts calls sheet o words
      → length calls ≡ lines_in (program z w ts) + writes_in (program z w ts)

  -- in an order that meets the axioms each read has one trace, of at most as many reads as the tables have, and it finds the
  -- word read
  abbrev pub TraceFindsTheWord : Type 0
  TraceFindsTheWord =
      (z : Size) (ts : List Rows) → Good z ts → (o : List ℕ) (words : ℕ → M) → MeetsFor z ts o words
      → (n : ℕ) → reads_at z ts n ≡ true → Traced (program z w ts) (copy_at z ts) (written_at K z ts) K.start o words n
