use Rattle.std.specs.Prelude.{[], refl}
use Rattle.order_runs.proofs.SameCodes.MentionsSame.{mentions_stmts-same}
use Rattle.order_runs.proofs.SameCodes.TranslationSame.{expr_term-same, stmts_term-same}
use Rattle.order_runs.proofs.SameCodes.HeadersSame.{package_code-same}
use Rattle.order_runs.proofs.same_codes.translation_finds_the_same.Goals as goal

pub returns-clause-mentions : goal.returns-clause-mentions
returns-clause-mentions c = λ left right same env b. mentions_stmts-same left right same [] [] (λ p. refl) env b

pub returns-clause-terms : goal.returns-clause-terms
returns-clause-terms c = λ left right same pl pr alike h t e. expr_term-same left right same pl pr alike h t e

pub returns-clause-bodies : goal.returns-clause-bodies
returns-clause-bodies c = λ left right same pl pr alike h b. stmts_term-same left right same pl pr alike h b

pub returns-clause-packages : goal.returns-clause-packages
returns-clause-packages c = λ left right same pl pr alike p. package_code-same left right same pl pr alike p
