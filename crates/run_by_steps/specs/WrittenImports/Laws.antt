-- The laws of the imports that steps add. Each is the contract of a function of this crate (Go specification, Package
-- clause; Import declarations; Identifiers).
use Rattle.std.specs.Prelude.{◌≡◌, true, ℕ, List, [], ◌∷◌, Some}
use Rattle.std.specs.List.{list_all}
use Rattle.go_tree.specs.declared.spans.Span.{Span}
use Rattle.go_tree.specs.GoWords.Tokens.Characters.{each}
use Rattle.splice_laws.specs.ImportSplices.AddedFile.{is_byte, IsName, AreWritable}
use Rattle.pkg_graph.specs.Package.{Package}
use Rattle.pkg_graph.specs.Reads.{Source}
use Rattle.run_rules.specs.Sites.{MarkRef}
use Rattle.run_rules.specs.Naming.{imports_added}
use Rattle.run_rules.specs.Steps.{At, Found}
use Rattle.run_rules.specs.Texts.{FileText}
use Rattle.run_rules.specs.Run.{Standing, Logged, step_in, Run}
use Rattle.run_rules.specs.Inlining.{ModuleReads, standing_as_read}
use Rattle.constant_steps.specs.FormImports.OwnNames.{AreInProgram}

-- each of the packages has an identifier as its name, and a path of octets
abbrev pub AreNamed : {S : Type 0} → List (Package S) → Type 0
AreNamed [] = Unit {0}
AreNamed (p ∷ ps) = IsName p.name × (each is_byte p.path ≡ true) × AreNamed ps

-- So it is in a module that reads.
abbrev pub ReadPackagesAreNamed : Type 0
ReadPackagesAreNamed =
    (files : List Source) (ps : List (Package Span)) (texts : List (List ℕ × FileText)) → ModuleReads files ps texts
    → list_all (λ f. each is_byte f.path) files ≡ true → AreNamed (standing_as_read ps texts).packages

-- So it is after each run.
abbrev pub RunsKeepPackagesNamed : Type 0
RunsKeepPackagesNamed =
    (marks : List MarkRef) (st : Standing) (log : List Logged) (last : Standing) → Run marks st log last
    → AreNamed st.packages → AreNamed last.packages

-- So the imports that a step adds can be written, where its form's names stand for packages of the program.
abbrev pub ImportsAreWritten : Type 0
ImportsAreWritten =
    (marks : List MarkRef) (st : Standing) (f : Found At) → step_in marks st ≡ Some f → AreNamed st.packages
    → AreInProgram st.packages f.named → AreWritable (imports_added f.named)
