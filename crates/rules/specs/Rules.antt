-- The numbers of the waiting rules.
use Rattle.std.specs.Prelude.{◌≡◌, ℕ, ◌≢◌, Ok, Result, MatchResult}
use Rattle.rules.specs.declared.rule.Rule.{Rule}
use Rattle.rules.specs.declared.rule.Rule.TheVariants.{Strong, TotalStoreOrder}
use Rattle.rules.specs.declared.rule.UnknownRule.{UnknownRule}

-- the number by which a record names a rule
abbrev pub number_of : Rule → ℕ
number_of Strong = 1
number_of TotalStoreOrder = 2

-- the result is the rule that carries this number, or the number, which no rule carries
pub record NamesRule (number : ℕ) (result : Result Rule UnknownRule) : Type 0 where
  pub found : MatchResult result (λ w. number_of w ≡ number) (λ e. (e.0 ≡ number) × ((w : Rule) → number_of w ≢ number))
  pub back : (w : Rule) → number ≡ number_of w → result ≡ Ok w
