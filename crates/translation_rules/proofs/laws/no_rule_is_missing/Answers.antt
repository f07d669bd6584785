use Rattle.go_translation.specs.Mentions.{Read}
use Rattle.translation_rules.specs.Rules.{Standing, HasRule, AsksNothing}
use Rattle.translation_rules.proofs.ExprRules.{expr_ruled}
use Rattle.translation_rules.proofs.Carried.{has_rules, standing_kept}
use Rattle.translation_rules.proofs.RuledParts.{ruled_stmts}
use Rattle.translation_rules.proofs.RuledPackages.{packages_ruled}
use Rattle.translation_rules.proofs.laws.no_rule_is_missing.Goals as goal

pub returns-clause-expressions : goal.returns-clause-expressions
returns-clause-expressions c = λ h t e o. expr_ruled Read h t e o

pub returns-clause-statements : goal.returns-clause-statements
returns-clause-statements c = λ h x before b ends s. ruled_stmts HasRule AsksNothing Standing ⊥ standing_kept has_rules (λ c h es s j r i. tt) (λ n h ts es s r q. tt) h x before b ends s (λ z. absurd z)

pub returns-clause-packages : goal.returns-clause-packages
returns-clause-packages c = packages_ruled
