-- The laws of the imports of a file as a step leaves it. Each is the contract of a function of this crate (Go
-- specification, Import declarations; Declarations and scope).
use Rattle.std.specs.Prelude.{List}
use Rattle.splice_laws.specs.ImportSplices.AddedFile.{AreWritable}
use Rattle.run_rules.specs.Sites.{MarkRef}
use Rattle.run_rules.specs.Naming.{imports_added}
use Rattle.run_rules.specs.Run.{Standing, Logged, Next}
use Rattle.order_runs.specs.CycleRuns.ImportCycles.ImportSteps.{KeepsNames, KeepsLookUps}
use Rattle.order_runs.specs.CycleRuns.OrderCycles.NewNames.{NamesByPath, AvoidsFew}
use Rattle.order_runs.specs.CycleRuns.OrderedSteps.Ranks.{ImportsNoMore}
use Rattle.order_runs.specs.CycleRuns.KeptImports.Files.{PutsNode, IsSettled, RemovesNoNames, RemovesNoLookUps}

-- Where the form is laid out in the place of a node, the file as it is read again has the imports that stay, and those
-- that came.
abbrev pub FilesAreSettled : Type 0
FilesAreSettled =
    (marks : List MarkRef) (st : Standing) (l : Logged) (after : Standing) (n : Next marks st l after) → PutsNode n
    → AreWritable (imports_added n.found.named) → IsSettled n

-- It imports no path that it didn't import with the step's imports added.
abbrev pub FilesImportNoMore : Type 0
FilesImportNoMore =
    (marks : List MarkRef) (st : Standing) (l : Logged) (after : Standing) (n : Next marks st l after) → IsSettled n
    → ImportsNoMore n

-- Each identifier of its declarations is the name of the same import as with the step's imports added, or of none, if
-- none that goes has the name of such an identifier.
abbrev pub NamesAreKept : Type 0
NamesAreKept =
    (marks : List MarkRef) (st : Standing) (l : Logged) (after : Standing) (n : Next marks st l after) → IsSettled n
    → AvoidsFew st.packages n.found → NamesByPath st.packages → RemovesNoNames n → KeepsNames n

-- Each name that its declarations look up is that of the same import, or of none, if none that goes has such a name.
abbrev pub LookUpsAreKept : Type 0
LookUpsAreKept =
    (marks : List MarkRef) (st : Standing) (l : Logged) (after : Standing) (n : Next marks st l after) → IsSettled n
    → AvoidsFew st.packages n.found → NamesByPath st.packages → RemovesNoLookUps n → KeepsLookUps n
