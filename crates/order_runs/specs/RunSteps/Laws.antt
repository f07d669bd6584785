-- The laws of steps and runs over constants. Each is the contract of a function of this crate (Go specification,
-- Constant declarations; Declarations and scope; Packages; Program execution).
use Rattle.std.specs.Prelude.{◌≡◌, ℕ, List, Some, slice_get}
use Rattle.go_tree.specs.declared.spans.Span.{Span}
use Rattle.go_tree.specs.Tree.{Expr}
use Rattle.go_tree.specs.File.{Decl}
use Rattle.pkg_graph.specs.Package as run
use Rattle.pkg_graph.specs.Reads.{Source}
use Rattle.go_kernel.specs.Kernel.{FuncName}
use Rattle.go_translation.specs.Packages.{Package, sources, codes_of, are_well_typed}
use Rattle.go_translation.specs.SameMeaning.{Packages, SameMeaning}
use Rattle.run_rules.specs.Programs.{linked, decl_seen}
use Rattle.run_rules.specs.Sites.{MarkRef, an_expr}
use Rattle.run_rules.specs.Steps.{At, same_here}
use Rattle.run_rules.specs.Texts.{FileText}
use Rattle.run_rules.specs.Respanned.{packages_with}
use Rattle.run_rules.specs.Run.{Standing, Logged, here_of, Next, Run}
use Rattle.run_rules.specs.Inlining.{ModuleReads, standing_as_read}
use Rattle.splice_laws.specs.RunLaws.Reading.{ProgramReads}
use Rattle.constant_steps.specs.PlainUse.{AllTheUse}
use Rattle.order_runs.specs.RunSteps.Bared.{bare_members}
use Rattle.order_runs.specs.RunSteps.RunPackages.{members_of, packages_of}
use Rattle.order_runs.specs.RunSteps.SameCode.{SameCode}
use Rattle.order_runs.specs.RunSteps.PlainNext.{IsPlain, AllPlain}

-- ---- spans

-- Packages that are equal but for spans are well typed alike.
abbrev pub TypedWithoutSpans : Type 0
TypedWithoutSpans =
    (ps qs : List (Package Span)) → bare_members ps ≡ bare_members qs → are_well_typed ps ≡ are_well_typed qs

-- They make the same kernel program.
abbrev pub CodesWithoutSpans : Type 0
CodesWithoutSpans = (ps qs : List (Package Span)) → bare_members ps ≡ bare_members qs → codes_of ps ≡ codes_of qs

-- So they mean the same.
abbrev pub MeantWithoutSpans : Type 0
MeantWithoutSpans =
    (P P' : Packages Span) → bare_members P.members ≡ bare_members P'.members → P.marked ≡ P'.marked → SameMeaning P P'

-- ---- packages that keep their kernel program

-- Packages that keep their kernel program beside all further packages mean the same.
abbrev pub SameCodeMeansTheSame : Type 0
SameCodeMeansTheSame = (P P' : Packages Span) → SameCode P P' → SameMeaning P P'

-- The packages of a run are the linked ones, in their order.
abbrev pub RunPackagesAreLinked : Type 0
RunPackagesAreLinked = (ps : List (run.Package Span)) → sources (members_of ps) ≡ linked ps

-- ---- steps and runs

-- Where the files of a program read from their texts, nothing else stands at the span of a use that a step finds, which
-- is an expression: of the parts of its declaration it alone is an expression with that span.
abbrev pub UsesStandAlone : Type 0
UsesStandAlone =
    (marks : List MarkRef) (st : Standing) (l : Logged) (after : Standing) (n : Next marks st l after) → ProgramReads st
    → (e : Expr At) → n.found.site.part ≡ an_expr e → (d : Decl At)
    → slice_get n.found.site.at.source.tree.decls n.found.site.decl ≡ Some d
    → AllTheUse same_here n.found.site e
    (decl_seen st.packages n.found.site.at.number n.found.site.at.of n.found.site.at.source.tree d)

-- A step of a run over a plain use of a constant keeps the kernel program beside all further packages.
abbrev pub PlainNextsKeepTheCode : Type 0
PlainNextsKeepTheCode =
    (marks : List MarkRef) (st : Standing) (l : Logged) (after : Standing) (n : Next marks st l after) → ProgramReads st
    → IsPlain n → (marked : List FuncName)
    → SameCode (packages_of st.packages marked) (packages_of after.packages marked)

-- So the program after it, whose file is read again, means what the one before does.
abbrev pub PlainNextsMeanTheSame : Type 0
PlainNextsMeanTheSame =
    (marks : List MarkRef) (st : Standing) (l : Logged) (after : Standing) (n : Next marks st l after) → ProgramReads st
    → IsPlain n → (marked : List FuncName)
    → SameMeaning (packages_of st.packages marked) (packages_of after.packages marked)

-- So does the last program of a run of such steps, from files that read as a module: its trees as they stand in the
-- new texts mean what those of the module do.
abbrev pub PlainRunsMeanTheSame : Type 0
PlainRunsMeanTheSame =
    (files : List Source) (ps : List (run.Package Span)) (texts : List (List ℕ × FileText)) (marks : List MarkRef)
    (last : Standing) (log : List Logged) → ModuleReads files ps texts
    → (run : Run marks (standing_as_read ps texts) log last) → AllPlain run → (marked : List FuncName)
    → SameMeaning (packages_of ps marked) (packages_of (packages_with here_of last.packages) marked)
