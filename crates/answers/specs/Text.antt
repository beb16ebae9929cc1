-- How an answer is printed: each line with a newline at its end.
use Rattle.std.specs.Prelude.{ℕ, List, [], ◌∷◌, ◌++◌, Some, None, Ok, Err, vec_items, codes, Option}
use Rattle.std.specs.List.{flat_map}
use Rattle.faults.specs.Text.{fault_text}
use Rattle.tables.specs.declared.event.Event.{Event}
use Rattle.tables.specs.LineIds.{line_id_text}
use Rattle.tables.specs.Events.{event_text}
use Rattle.rules.specs.Text.{origin_text}
use Rattle.model.specs.Text.{verdict_text}
use Rattle.answers.specs.declared.text.Account.{Account}
use Rattle.answers.specs.declared.text.Answer.{Answer}
use Rattle.answers.specs.declared.text.Answer.TheVariants.{Refused, Broken, Passes}

abbrev pub source_text : Option Event → List ℕ
source_text None = codes "start"
source_text (Some e) = event_text e

-- as: 2.2 from 1.1w by 1.1
abbrev pub account_text : Account → List ℕ
account_text a =
    line_id_text a.at ++ (codes " from " ++ (source_text a.source ++ (codes " by " ++ origin_text a.end)))

abbrev pub newline : List ℕ
newline = 10 ∷ []

abbrev pub line_text : Account → List ℕ
line_text a = account_text a ++ newline

abbrev pub answer_text : Answer → List ℕ
answer_text (Refused e) = codes "refused " ++ (fault_text e ++ newline)
answer_text (Broken b) = verdict_text {T = Unit {0}} (Err b) ++ newline
answer_text (Passes xs) = verdict_text {T = Unit {0}} (Ok tt) ++ (newline ++ flat_map line_text (vec_items xs))
