-- The laws of the order in which a run looks at uses. Each is the contract of a function of this crate (Go
-- specification, Packages; Source file organization; Function types; Struct types).
use Rattle.std.specs.Prelude.{ℕ, List, []}
use Rattle.go_tree.specs.declared.spans.Span.{Span}
use Rattle.pkg_graph.specs.Package.{Package}
use Rattle.pkg_graph.specs.Reads.{Source}
use Rattle.run_rules.specs.Inlining.{ModuleReads, standing_as_read}
use Rattle.run_rules.specs.Texts.{FileText}
use Rattle.run_rules.specs.Programs.{dependency_order}
use Rattle.run_rules.specs.Run.{Standing, Logged, Next, Run}
use Rattle.run_rules.specs.Sites.{MarkRef, sites}
use Rattle.splice_laws.specs.RunLaws.Reading.{ProgramReads}
use Rattle.run_order.specs.Order.{UsesAscend, IsFirstFree, FilesByPath}

-- The uses of a program whose files read from their texts are listed in their order: packages in dependency order,
-- files by their numbers, uses by their ends; but where parameters or fields share a type, those in it are listed
-- again.
abbrev pub UsesAreInOrder : Type 0
UsesAreInOrder =
    (marks : List MarkRef) (st : Standing) → ProgramReads st
    → UsesAscend (dependency_order st.packages) [] (sites st.packages marks)

-- So the use that a step replaces is the first that becomes a form: of all uses that do, it stands before each other.
abbrev pub StepsTakeTheFirst : Type 0
StepsTakeTheFirst =
    (marks : List MarkRef) (st : Standing) (l : Logged) (after : Standing) (n : Next marks st l after)
    → ProgramReads st
    → IsFirstFree marks st n.found.site

-- The numbers of files are in the order of their paths: in a module that reads, and after each run from it.
abbrev pub RunsKeepFilesByPath : Type 0
RunsKeepFilesByPath =
    (files : List Source) (ps : List (Package Span)) (texts : List (List ℕ × FileText)) (marks : List MarkRef)
    (last : Standing) (log : List Logged) → ModuleReads files ps texts
    → Run marks (standing_as_read ps texts) log last → FilesByPath last.packages
