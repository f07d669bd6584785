-- A run on its way (golang.org/x/tools, internal/refactor/inline, for what a run is).
use Rattle.std.specs.Prelude.{◌≡◌, true, ℕ, List, [], ◌∷◌, Some}
use Rattle.std.specs.List.{list_all}
use Rattle.go_tree.specs.declared.spans.Span.{Span}
use Rattle.go_tree.specs.GoWords.Tokens.Characters.{each}
use Rattle.go_nesting.specs.Sources.{IsSupported}
use Rattle.text_edits.specs.Applied.{applied}
use Rattle.splice_laws.specs.ImportSplices.AddedFile.{is_byte}
use Rattle.pkg_graph.specs.Package.{Package}
use Rattle.pkg_graph.specs.Reads.{Source}
use Rattle.run_rules.specs.Sites.{MarkRef}
use Rattle.run_rules.specs.Marks.{text_at, marks_of}
use Rattle.run_rules.specs.Texts.{FileText}
use Rattle.run_rules.specs.Steps.{At, Found}
use Rattle.run_rules.specs.Run.{Standing, Logged, step_in, edits_in, logged, the_limits}
use Rattle.run_rules.specs.Inlining.{ModuleReads, standing_as_read, Reaches}
use Rattle.constant_steps.specs.FormImports.OwnNames.{AreInProgram}
use Rattle.run_by_steps.specs.NextPrograms.Made.{PutsForm}

-- each text has supported words alone
abbrev pub AllSupported : List (List ℕ × FileText) → Type 0
AllSupported [] = Unit {0}
AllSupported (t ∷ ts) = IsSupported t.1.text t.1.tokens t.1.comments × AllSupported ts

-- From files that read as a module of these packages, where the paths are octets and all words are supported, these
-- steps lead to a program, and none of them passes a limit.
pub record HasReached (files : List Source) (ps : List (Package Span)) (texts : List (List ℕ × FileText))
    (only : List ℕ) (done : List Logged) (st : Standing) : Type 0 where
  pub read : ModuleReads files ps texts
  pub octets : list_all (λ f. each is_byte f.path) files ≡ true
  pub supported : AllSupported texts
  pub steps : Reaches (marks_of ps texts only) the_limits files [] (standing_as_read ps texts) done st

-- The first free use of a program, in the file with this text: its form is laid out in the place of a node of the file,
-- and its names stand for packages of the program.
pub record IsNextUse (marks : List MarkRef) (st : Standing) (f : Found At) (old : FileText) : Type 0 where
  pub is_first : step_in marks st ≡ Some f
  pub there : text_at f.site.at.source.path st.texts ≡ Some old
  pub put : PutsForm st f old
  pub in_program : AreInProgram st.packages f.named

-- the text that the step's edits make of its file
abbrev pub text_made : List MarkRef → Standing → Found At → FileText → List ℕ
text_made marks st f old = applied old.text (edits_in marks st old f)

-- what is told of the step
abbrev pub row_of : List MarkRef → Standing → Found At → FileText → Logged
row_of marks st f old = logged marks st f (edits_in marks st old f)
