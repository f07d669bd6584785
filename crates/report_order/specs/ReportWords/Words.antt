-- What a report tells behind a place (golang.org/x/tools, analyzer inline, for what is reported; the words are this
-- project's own).
use Rattle.std.specs.Prelude.{ℕ, List, ◌++◌, codes}
use Rattle.directive_scan.specs.declared.mark_types.BadReason.{BadReason}
use Rattle.run_rules.specs.FormTrees.{FormKind}
use Rattle.run_rules.specs.Marks.{full_name}
use Rattle.run_rules.specs.Obstacles.{Obstacle}
use Rattle.run_rules.specs.Report.{form_text, obstacle_text, reason_text}

-- of a use that was replaced, by the import path and the name of its declaration, and its form
abbrev pub inlined_text : List ℕ → List ℕ → FormKind → List ℕ
inlined_text home name form = codes ": inlined " ++ (full_name home name ++ (codes " as " ++ form_text form))

-- of a use that is kept, and by what
abbrev pub kept_text : List ℕ → List ℕ → Obstacle → List ℕ
kept_text home name obstacle = codes ": kept " ++ (full_name home name ++ (codes ": " ++ obstacle_text obstacle))

-- of a mark that means nothing
abbrev pub bad_text : BadReason → List ℕ
bad_text reason = codes ": bad mark: " ++ reason_text reason
