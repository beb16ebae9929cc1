-- What is told of the reads of an order that passes, what an answer says of a case, and which case a record puts.
use Rattle.std.specs.Prelude.{◌≡◌, ℕ, ◌+◌, true, false, List, [], ◌∷◌, ◌++◌, map, length, replicate, Ok, Err, vec_items, Option}
use Rattle.tables.specs.Size.{unit}
use Rattle.tables.specs.LineIds.{line_id}
use Rattle.tables.specs.Rows.{Rows}
use Rattle.tables.specs.View.{copy_at}
use Rattle.rules.specs.Waits.{Waits}
use Rattle.rules.specs.declared.words.WordKind as word_kind
use Rattle.rules.specs.declared.words.NumberWords.{NumberWords}
use Rattle.model.specs.Program.{Program, program}
use Rattle.model.specs.Trace.{ReadTrace}
use Rattle.judging.specs.Case.{Case, case, Answered}
use Rattle.judging.specs.Outcomes.{ReadsFrom}
use Rattle.faults.specs.declared.Fault.{Fault}
use Rattle.record.specs.Entries.{rows}
use Rattle.record.specs.Record.{Said, read_form, Claimed}
use Rattle.answers.specs.Ruling.{waits_of}
use Rattle.answers.specs.declared.text.Account.{Account}
use Rattle.answers.specs.declared.text.Answer.{Answer}
use Rattle.answers.specs.declared.text.Answer.TheVariants.{Refused, Broken, Passes}

-- the account of the read of line n: its line, the write that it should have, and the end of its trace
pub record AccountOf (P : Program) (copy : ℕ → Option ℕ) (o : List ℕ) (n : ℕ) (a : Account) : Type 0 where
  pub at : a.at ≡ line_id P.size n
  pub source : ReadsFrom P o n a.source
  pub reads : ℕ
  pub trace : ReadTrace P copy o n a.end reads

-- an account of each read below a number, in table order, and of nothing else
pub data Accounts (P : Program) (copy : ℕ → Option ℕ) (o : List ℕ) : ℕ → List Account → Type 0 where
  none : {n : ℕ} {xs : List Account} → n ≡ 0 → xs ≡ [] → Accounts P copy o n xs
  read :
      {n : ℕ} {xs : List Account} (m : ℕ) (ys : List Account) (a : Account)
      → Accounts P copy o m ys → P.reads m ≡ true → AccountOf P copy o m a → n ≡ m + 1 → xs ≡ ys ++ a ∷ [] → Accounts P copy o n xs
  other : {n : ℕ} {xs : List Account} (m : ℕ) → Accounts P copy o m xs → P.reads m ≡ false → n ≡ m + 1 → Accounts P copy o n xs

-- all reads of tables under a rule
abbrev pub AllAccounts : Waits → List Rows → List ℕ → List Account → Type 0
AllAccounts w ts o xs = Accounts (program unit w ts) (copy_at unit ts) o 128 xs

-- an answer says what the judge answers to a case with a sheet of so many places; where it passes, with an account of each read
abbrev pub Answers : {M : Type 0} → Case M → ℕ → Waits → List Rows → List ℕ → Answer → Type 0
Answers c size w ts o (Refused e) = Answered c {T = Unit {0}} size (Err e)
Answers c size w ts o (Broken b) = Answered c {T = Unit {0}} size (Ok (Err b))
Answers c size w ts o (Passes xs) = Answered c {T = Unit {0}} size (Ok (Ok tt)) × AllAccounts w ts o (vec_items xs)

-- number words: each means itself, every cell starts with 0, and a written number is the word
abbrev pub number_words : word_kind.Ghosts NumberWords ℕ
number_words = record { Meaning = ℕ; meaning = λ n. n; starts = λ _. 0; writtens = λ n _ _. n }

-- the same of tables, an order and number words
abbrev pub AnswersTo : Waits → List Rows → List ℕ → List ℕ → Answer → Type 0
AnswersTo w ts o words = Answers (case w number_words ts o words) (length words) w ts o

-- an answer to bytes: what is amiss with them as a record, or what the judge answers to the case that the record puts under its
-- rule, with its claims as the words at the places of its lines
pub data AnswersBytes (bytes : List ℕ) (a : Answer) : Type 0 where
  refused : (e : Fault) → (read_form bytes 128 256).amiss 0 e → a ≡ Refused e → AnswersBytes bytes a
  judged :
      (said : Said) (words : List ℕ) → (read_form bytes 128 256).is 0 said (length bytes) → Claimed said.tables (replicate 128 0) words
      → AnswersTo (waits_of said.rule) (map rows said.tables) said.order words a → AnswersBytes bytes a
