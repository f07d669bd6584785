-- The laws of the names that a step writes for packages. Each is the contract of a function of this crate (Go
-- specification, Import declarations; Identifiers).
use Rattle.std.specs.Prelude.{ℕ, List}
use Rattle.go_tree.specs.declared.spans.Span.{Span}
use Rattle.pkg_graph.specs.Package.{Package}
use Rattle.pkg_graph.specs.Reads.{Source}
use Rattle.run_rules.specs.Inlining.{ModuleReads, standing_as_read}
use Rattle.run_rules.specs.Texts.{FileText}
use Rattle.splice_laws.specs.ImportSplices.AddedFile.{AreWritable}
use Rattle.order_runs.specs.CycleRuns.OrderCycles.NewNames.{NamesByPath, AvoidsFew}
use Rattle.splice_laws.specs.RunLaws.Reading.{ProgramReads}
use Rattle.run_rules.specs.Naming.{imports_added}
use Rattle.run_rules.specs.Run.{Standing, Logged, Next}
use Rattle.run_rules.specs.Sites.{MarkRef}
use Rattle.put_nodes.specs.SpelledNames.{AreNames}
use Rattle.put_names.specs.WrittenNames.NamedPackages.{PackagesAreNamed, PathsAreOctets, AreOfPackages}

-- Where each package has an identifier for its name, so has each that a step's form names, also one whose import is
-- added under a new name; if the names to avoid are fewer than 2^64, and the package of each number has the name that
-- its path has.
abbrev pub NamesAreIdentifiers : Type 0
NamesAreIdentifiers =
    (marks : List MarkRef) (st : Standing) (l : Logged) (after : Standing) (n : Next marks st l after) → ProgramReads st
    → PackagesAreNamed st.packages → NamesByPath st.packages → AvoidsFew st.packages n.found
    → AreOfPackages st.packages n.found.named → AreNames n.found.named

-- So the imports that it adds can be written, if the paths of packages are octets.
abbrev pub AddedImportsAreWritable : Type 0
AddedImportsAreWritable =
    (marks : List MarkRef) (st : Standing) (l : Logged) (after : Standing) (n : Next marks st l after)
    → PathsAreOctets st.packages → AreOfPackages st.packages n.found.named → AreNames n.found.named
    → AreWritable (imports_added n.found.named)

-- A step keeps the names and the paths of packages.
abbrev pub StepsKeepNames : Type 0
StepsKeepNames =
    (marks : List MarkRef) (st : Standing) (l : Logged) (after : Standing) → Next marks st l after
    → PackagesAreNamed st.packages → PathsAreOctets st.packages
    → PackagesAreNamed after.packages × PathsAreOctets after.packages

-- The packages of a module that reads have identifiers for their names.
abbrev pub ReadModulesAreNamed : Type 0
ReadModulesAreNamed =
    (files : List Source) (ps : List (Package Span)) (texts : List (List ℕ × FileText)) → ModuleReads files ps texts
    → PackagesAreNamed (standing_as_read ps texts).packages
