-- The laws of the imports of a file that is read again. Each is the contract of a function of this crate (Go
-- specification, Import declarations).
use Rattle.std.specs.Prelude.{◌≡◌, not, List, [], map, filter}
use Rattle.pkg_graph.specs.Package.{import_specs}
use Rattle.run_rules.specs.ImportRules.Removed.{goes}
use Rattle.run_rules.specs.Sites.{MarkRef}
use Rattle.run_rules.specs.Naming.{imports_added}
use Rattle.run_rules.specs.Run.{Standing, Logged, Next}
use Rattle.order_runs.specs.CycleRuns.StepCycles.PackagesAlike.{import_key}
use Rattle.order_runs.specs.CycleRuns.StepCycles.Steps.{SameImports}
use Rattle.order_runs.specs.CycleRuns.ImportCycles.ImportSteps.{KeepsNames}
use Rattle.put_names.specs.ReadImports.PutInText.{file_before, unused_spans, PutInText}
use Rattle.put_names.specs.ReadImports.RemovedNames.{RemovesNoNames}

-- A step that adds no imports leaves those that it doesn't remove, with the same names and paths.
abbrev pub OtherImportsStay : Type 0
OtherImportsStay =
    (marks : List MarkRef) (st : Standing) (l : Logged) (after : Standing) (n : Next marks st l after) → PutInText n
    → imports_added n.found.named ≡ []
    → map import_key (import_specs n.tree)
    ≡ map import_key
    (filter (λ s. not (goes n.old.text n.old.tokens n.old.comments (unused_spans n) s)) (import_specs (file_before n)))

-- Where it removes none either, the file keeps its imports.
abbrev pub ImportsAreKept : Type 0
ImportsAreKept =
    (marks : List MarkRef) (st : Standing) (l : Logged) (after : Standing) (n : Next marks st l after) → PutInText n
    → imports_added n.found.named ≡ [] → unused_spans n ≡ [] → SameImports n.found.site.at.source.tree n.tree

-- Where none that it removes has the name of an identifier, each identifier of the file as it is read again is the name
-- of the same import as before, or of none.
abbrev pub NamesAreKept : Type 0
NamesAreKept =
    (marks : List MarkRef) (st : Standing) (l : Logged) (after : Standing) (n : Next marks st l after) → PutInText n
    → imports_added n.found.named ≡ [] → RemovesNoNames n → KeepsNames n
