-- What is read of a record is what the judge is asked.
use Rattle.std.proofs.Common.{◌≡◌, ℕ, List, ◌++◌, map, length, take, drop, replicate, Result, Ok, IfOk, refl, ap, ◌∙◌, subst, arith}
use Rattle.std.proofs.lemmas.List.{take-append-le, take_all}
use Rattle.faults.specs.declared.Fault.{Fault}
use Rattle.tables.specs.Rows.{Rows}
use Rattle.rules.specs.declared.rule.Rule.{Rule}
use Rattle.rules.specs.Waits.{Waits}
use Rattle.model.specs.declared.verdict.Breach.{Breach}
use Rattle.judging.specs.declared.passing.Passing.{Passing}
use Rattle.judging.specs.Outcomes.{rows_of, order_of}
use Rattle.record.specs.Entries.{rows}
use Rattle.record.specs.Record.{read_form, Claimed, Read, NotRead}
use Rattle.answers.specs.declared.text.Account.{Account}
use Rattle.answers.specs.declared.text.Answer.{Answer}
use Rattle.answers.specs.declared.text.Answer.TheVariants.{Refused}
use Rattle.answers.specs.Ruling.{waits_of}
use Rattle.answers.specs.Accounts.{AllAccounts, AnswersTo, AnswersBytes, refused, judged}

front : (o rest : List ℕ) (count : ℕ) → count ≡ length o → take count (o ++ rest) ≡ o
front o rest count e = take-append-le count o rest (omega arith) ∙ take_all count o (omega arith)

module _ {bytes sheet sheet' output output' : List ℕ} (sheet_is : sheet ≡ replicate 128 0) (output_is : output ≡ replicate 256 0) where
  pub not_read : {e : Fault} → NotRead bytes sheet sheet' output output' e → AnswersBytes bytes (Refused e)
  not_read {e} n =
      refused e
      (subst (λ (k : ℕ). (read_form bytes k 256).amiss 0 e) (ap length sheet_is) (subst (λ (k : ℕ). (read_form bytes (length sheet) k).amiss 0 e) (ap length output_is) n.amiss))
      refl

  pub was_read :
      {rule : Rule} {ts ts' : List Rows} {count : ℕ} {a : Answer} → Read bytes sheet sheet' output output' rule ts count → ts' ≡ ts
      → AnswersTo (waits_of rule) ts' (take count output') sheet' a → AnswersBytes bytes a
  was_read {rule} {ts} {ts'} {count} {a} r e h =
      let s = r.said in
      let o : take count output' ≡ s.order = ap (take count) r.ordered ∙ front s.order (drop count output) count r.counted in
      judged s sheet'
      (subst (λ (k : ℕ). (read_form bytes k 256).is 0 s (length bytes)) (ap length sheet_is)
      (subst (λ (k : ℕ). (read_form bytes (length sheet) k).is 0 s (length bytes)) (ap length output_is) r.says))
      (subst (λ (x : List ℕ). Claimed s.tables x sheet') sheet_is r.claimed)
      (subst (λ (x : List ℕ). AnswersTo (waits_of s.rule) (map rows s.tables) x sheet' a) o
      (subst (λ (x : List Rows). AnswersTo (waits_of s.rule) x (take count output') sheet' a) (e ∙ r.tables_are)
      (subst (λ (x : Rule). AnswersTo (waits_of x) ts' (take count output') sheet' a) r.rule_is h)))

-- the accounts are those of the tables and the order that passed
pub all_accounts :
    (w : Waits) (ts : List Rows) (o : List ℕ) {v : Result Passing Breach} {p : Passing} {xs : List Account} → v ≡ Ok p
    → IfOk v (λ p. (rows_of p ≡ ts) × (order_of p ≡ o)) → AllAccounts w (rows_of p) (order_of p) xs → AllAccounts w ts o xs
all_accounts w ts o {v} {p} {xs} is passed h =
    let same = subst (λ (v : Result Passing Breach). IfOk v (λ p. (rows_of p ≡ ts) × (order_of p ≡ o))) is passed in
    subst (λ (y : List ℕ). AllAccounts w ts y xs) same.1 (subst (λ (y : List Rows). AllAccounts w y (order_of p) xs) same.0 h)
