use Rattle.std.specs.Prelude.{◌≡◌, ℕ, ◌+◌, ◌-◌}
use mathlib.Core.Path.{◌∙◌}
use Rattle.std.proofs.Common.{arith}
use Rattle.go_tree.specs.declared.spans.Span.{Span}
use Rattle.checked_findings.specs.Packages.{declaration_found}
use Rattle.checked_findings.specs.LookUp.{from_start, moved_by, moved}
use Rattle.checked_findings.proofs.FoundMoved.{found-with, found_stmts-with}
use Rattle.checked_findings.proofs.DeclarationsMoved.{declaration_found-with}
use Rattle.checked_findings.proofs.laws.findings_move_with_their_trees.Goals as goal

pub returns-clause-expressions : goal.returns-clause-expressions
returns-clause-expressions c = λ at to a x e. found-with at to a x e

pub returns-clause-statements : goal.returns-clause-statements
returns-clause-statements c = λ at to rs a b. found_stmts-with at to rs a b

pub returns-clause-declarations : goal.returns-clause-declarations
returns-clause-declarations c = λ at to w home imports d. declaration_found-with at to w home imports d

-- a place counted from the start of a declaration stays where both move on
counted : (x start by : ℕ) → (x + by) - (start + by) ≡ x - start
counted x start by = omega arith

from_start_moved : (start by : ℕ) → moved (from_start (start + by)) (moved_by by) ≡ from_start start
from_start_moved start by =
    λ z s. record { start = counted s.start start by z; end = counted s.end start by z }

pub returns-clause-counted : goal.returns-clause-counted
returns-clause-counted c =
    λ start by w home imports d. declaration_found-with (from_start (start + by)) (moved_by by) w home imports d
    ∙ (λ z. declaration_found (from_start_moved start by z) w home imports d)
