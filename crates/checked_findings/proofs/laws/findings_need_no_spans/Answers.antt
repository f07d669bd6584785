use mathlib.Core.Path.{ap, sym, ◌∙◌}
use Rattle.checked_findings.specs.Found.{found_stmts}
use Rattle.checked_findings.specs.Laws.{nowhere}
use Rattle.checked_findings.proofs.FoundBare.{found-bare, found_stmts-bare}
use Rattle.checked_findings.proofs.laws.findings_need_no_spans.Goals as goal

pub returns-clause-expressions : goal.returns-clause-expressions
returns-clause-expressions c = λ a x e. found-bare a x e

pub returns-clause-statements : goal.returns-clause-statements
returns-clause-statements c = λ rs a b. found_stmts-bare rs a b

pub returns-clause-moved : goal.returns-clause-moved
returns-clause-moved c =
    λ rs a b d q. sym (found_stmts-bare rs a b) ∙ ap (λ z. found_stmts nowhere rs a z) q ∙ found_stmts-bare rs a d
