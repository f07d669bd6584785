-- The laws of constants and of functions that print them. Each is the contract of a function of this crate (Go
-- specification, Constant declarations; Function declarations; Operands; Selectors).
use Rattle.std.specs.Prelude.{◌≡◌, ℕ, List, Some, map, slice_get}
use Rattle.go_tree.specs.declared.spans.Span.{Span}
use Rattle.go_tree.specs.Tree.{Expr}
use Rattle.go_tree.specs.File.{Decl, File}
use Rattle.pkg_graph.specs.Package.{Package}
use Rattle.constant_steps.specs.PlaceMeanings.Parts.{AllScoped}
use Rattle.member_uses.specs.PossibleUses.Among.{Keyed}
use Rattle.constant_steps.specs.Alone.{PlainFiles}
use Rattle.constant_steps.specs.PlainUse.{AllSimple}
use Rattle.order_runs.specs.CycleRuns.ImportCycles.ImportSteps.{packages_added}
use Rattle.run_rules.specs.FormTrees.{as_expr}
use Rattle.run_rules.specs.Programs.{linked_file, decl_seen}
use Rattle.run_rules.specs.Run.{Standing, Logged, Next}
use Rattle.run_rules.specs.Inlining.{standing_as_read}
use Rattle.run_rules.specs.Sites.{MarkRef, Where}
use Rattle.run_rules.specs.Steps.{At}
use Rattle.run_rules.specs.Texts.{FileText}
use Rattle.constant_steps.specs.WrittenLiteral.UnspreadForms.UnspreadForms.{UnspreadPackages}
use Rattle.run_rules.specs.Printed.{IsFlat, IsPrinted, ArePrinted}

-- The parts of such a declaration are scoped, in whatever file.
abbrev pub PrintedPartsAreScoped : Type 0
PrintedPartsAreScoped =
    (ps : List (Package At)) (k : ℕ) (p : Package At) (file : File At) (d : Decl At) → IsPrinted d
    → AllScoped (decl_seen ps k p file d)

-- They hold no composite literals, whose keys would be looked at.
abbrev pub PrintedPartsAreKeyed : Type 0
PrintedPartsAreKeyed =
    (ps : List (Package At)) (k : ℕ) (p : Package At) (file : File At) (d : Decl At) → IsPrinted d
    → Keyed (decl_seen ps k p file d)

-- They hold no literals and no groups of constants, as constant_steps asks.
abbrev pub PrintedPartsAreSimple : Type 0
PrintedPartsAreSimple =
    (ps : List (Package At)) (k : ℕ) (p : Package At) (file : File At) (d : Decl At) → IsPrinted d
    → AllSimple (decl_seen ps k p file d)

-- All declarations of packages of such declarations are plain, as constant_steps asks.
abbrev pub PrintedPackagesArePlain : Type 0
PrintedPackagesArePlain =
    (rs ps : List (Package At)) → ArePrinted ps → (w : Where At) → slice_get ps w.number ≡ Some w.of
    → PlainFiles (map (linked_file rs) w.of.files)

-- No call in them hands on a slice.
abbrev pub PrintedPackagesAreUnspread : Type 0
PrintedPackagesAreUnspread = (ps : List (Package Span)) → ArePrinted ps → UnspreadPackages ps

-- ---- programs as they stand

-- Packages of such declarations are such with the places of a run.
abbrev pub ReadModulesArePrinted : Type 0
ReadModulesArePrinted =
    (ps : List (Package Span)) (texts : List (List ℕ × FileText)) → ArePrinted ps
    → ArePrinted (standing_as_read ps texts).packages

-- They stay such where a step puts a name.
abbrev pub StepsStayPrinted : Type 0
StepsStayPrinted =
    (marks : List MarkRef) (st : Standing) (l : Logged) (after : Standing) (n : Next marks st l after) (e : Expr At)
    → n.found.form ≡ as_expr e → IsFlat e → ArePrinted st.packages → ArePrinted after.packages

-- So do they with the imports of the step's form added.
abbrev pub AddedStayPrinted : Type 0
AddedStayPrinted =
    (marks : List MarkRef) (st : Standing) (l : Logged) (after : Standing) (n : Next marks st l after)
    → ArePrinted st.packages → ArePrinted (packages_added st.packages n.found)
