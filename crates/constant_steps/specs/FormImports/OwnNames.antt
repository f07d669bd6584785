-- Each package of a program has a name of its own (Go specification, Package clause).
use Rattle.std.specs.Prelude.{◌≡◌, true, ℕ, List, [], ◌∷◌, is_some, slice_get}
use Rattle.go_tree.specs.declared.spans.Span.{Span}
use Rattle.run_rules.specs.ImportRules.SettledNames.{IsOwnName}
use Rattle.pkg_graph.specs.Package.{Package}
use Rattle.pkg_graph.specs.Reads.{Source}
use Rattle.run_rules.specs.Sites.{MarkRef}
use Rattle.run_rules.specs.Naming.{Named}
use Rattle.run_rules.specs.Steps.{At}
use Rattle.run_rules.specs.Texts.{FileText}
use Rattle.run_rules.specs.Run.{Standing, Logged, Run}
use Rattle.run_rules.specs.Inlining.{ModuleReads, standing_as_read}
use Rattle.constant_steps.specs.FormImports.ImportLaws.Steps.{HaveOwnNames}

-- each of the packages has a name that may be written
abbrev pub AllOwn : {S : Type 0} → List (Package S) → Type 0
AllOwn [] = Unit {0}
AllOwn (p ∷ ps) = IsOwnName p.name × AllOwn ps

-- each name stands for a package of the program
abbrev pub AreInProgram : List (Package At) → List Named → Type 0
AreInProgram ps [] = Unit {0}
AreInProgram ps (n ∷ ns) = (is_some (slice_get ps n.of) ≡ true) × AreInProgram ps ns

-- So it is in a module that reads.
abbrev pub ReadPackagesAreNamed : Type 0
ReadPackagesAreNamed =
    (files : List Source) (ps : List (Package Span)) (texts : List (List ℕ × FileText)) → ModuleReads files ps texts
    → AllOwn (standing_as_read ps texts).packages

-- So it is after each run.
abbrev pub RunsKeepNames : Type 0
RunsKeepNames =
    (marks : List MarkRef) (st : Standing) (log : List Logged) (last : Standing) → Run marks st log last
    → AllOwn st.packages → AllOwn last.packages

-- So the packages for which a form's names stand have names of their own.
abbrev pub PackagesInUseAreNamed : Type 0
PackagesInUseAreNamed =
    (ps : List (Package At)) (ns : List Named) → AllOwn ps → AreInProgram ps ns → HaveOwnNames ps ns
