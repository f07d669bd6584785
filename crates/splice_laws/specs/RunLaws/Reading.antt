-- Programs whose files are read from their texts (Go specification, Source code representation; Source file
-- organization).
use Rattle.std.specs.Prelude.{◌≡◌, ℕ, List, Some, slice_get}
use Rattle.pkg_graph.specs.Package.{SourceTree, Package}
use Rattle.run_rules.specs.Marks.{text_at}
use Rattle.run_rules.specs.Texts.{FileText}
use Rattle.run_rules.specs.Respanned.{file_with}
use Rattle.run_rules.specs.Steps.{At}
use Rattle.run_rules.specs.Run.{Standing, here_of}
use Rattle.run_rules.specs.Inlining.{ReadsAs}

-- The file has a text, whose tokens spell it as its nodes stand.
pub record FileReads (texts : List (List ℕ × FileText)) (f : SourceTree At) : Type 0 where
  pub text : FileText
  pub there : text_at f.path texts ≡ Some text
  pub reads : ReadsAs text (file_with here_of f.tree)

-- the file with this number of the package with this number
pub record FileAt {S : Type 0} (ps : List (Package S)) (k i : ℕ) (f : SourceTree S) : Type 0 where
  pub of : Package S
  pub package_is : slice_get ps k ≡ Some of
  pub file_is : slice_get of.files i ≡ Some f

-- Each file of a program as it stands reads from its text.
abbrev pub ProgramReads : Standing → Type 0
ProgramReads st = (k i : ℕ) (f : SourceTree At) → FileAt st.packages k i f → FileReads st.texts f

-- No two files have one path.
abbrev pub OnePathEach : {S : Type 0} → List (Package S) → Type 0
OnePathEach {S = S} ps =
    (k i l j : ℕ) (f g : SourceTree S) → FileAt ps k i f → FileAt ps l j g → f.path ≡ g.path → (k ≡ l) × (i ≡ j)
