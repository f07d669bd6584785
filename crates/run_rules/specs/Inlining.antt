-- What a run makes of the files of a module (golang.org/x/tools, analyzer inline; Go specification, Source file
-- organization; Packages).
use Rattle.std.specs.Prelude.{◌≡◌, ℕ, Bool, true, ◌&&◌, List, [], ◌∷◌, ◌++◌, Some, None}
use Rattle.std.specs.List.{list_all}
use Rattle.go_tree.specs.declared.spans.Span.{Span}
use Rattle.go_tree.specs.declared.tokens.Token.{Token}
use Rattle.go_tree.specs.declared.tokens.Comment.{Comment}
use Rattle.go_tree.specs.File.{File}
use Rattle.go_layout.specs.SpellsFiles.{SpellsFile}
use Rattle.pkg_graph.specs.ModuleFiles.Pieces.{comes_before}
use Rattle.pkg_graph.specs.Package.{Package}
use Rattle.pkg_graph.specs.Reads.{Source, go_files, Reads}
use Rattle.run_rules.specs.Sites.{MarkRef}
use Rattle.run_rules.specs.Texts.{FileText}
use Rattle.run_rules.specs.Respanned.{packages_with}
use Rattle.run_rules.specs.Marks.{marks_of, bad_of}
use Rattle.run_rules.specs.Run.{Standing, Logged, as_read, Run, Next, uses_kept, FilesKeep, bytes_of, Limits, TooLarge}
use Rattle.run_rules.specs.Run.{passed}
use Rattle.run_rules.specs.Report.{report_of}
use Rattle.go_tree.specs.GoWords.Tokens.{TokensOf}

-- the packages as read: each node comes from itself
abbrev pub standing_as_read : List (Package Span) → List (List ℕ × FileText) → Standing
standing_as_read ps texts = record { packages = packages_with as_read ps; texts = texts }

-- the text's tokens spell the tree
pub record ReadsAs (t : FileText) (tree : File Span) : Type 0 where
  pub scans : TokensOf t.text t.tokens t.comments
  pub spells : SpellsFile t.tokens tree

-- the text is a source file with this tree
pub record IsSourceFile (text : List ℕ) (tree : File Span) : Type 0 where
  pub tokens : List Token
  pub comments : List Comment
  pub reads : ReadsAs (record { text = text; tokens = tokens; comments = comments }) tree

-- each file's path comes before those of the files behind it
abbrev pub are_by_path : List Source → Bool
are_by_path [] = true
are_by_path (f ∷ fs) = list_all (λ g. comes_before f.path g.path) fs && are_by_path fs

-- each file with its tokens and comments
pub data AreScanned : List Source → List (List ℕ × FileText) → Type 0 where
  none : AreScanned [] []
  file : (f : Source) (t : FileText) (fs : List Source) (ts : List (List ℕ × FileText)) → t.text ≡ f.text
      → TokensOf t.text t.tokens t.comments → AreScanned fs ts → AreScanned (f ∷ fs) ((f.path, t) ∷ ts)

-- The files of a folder, in the order of their paths, read as a module of these packages; its Go files have these
-- texts.
pub record ModuleReads (files : List Source) (ps : List (Package Span)) (texts : List (List ℕ × FileText)) : Type 0
  where
    pub by_path : are_by_path files ≡ true
    pub reads : Reads IsSourceFile files ps
    pub scanned : AreScanned (go_files files) texts

-- Steps after others, none of which passes a limit.
pub data Reaches (marks : List MarkRef) (m : Limits) (files : List Source) : List Logged → Standing → List Logged
    → Standing → Type 0 where
  begins : (done : List Logged) (st : Standing) → Reaches marks m files done st [] st
  steps_on : (done log : List Logged) (l : Logged) (st st' last : Standing) (n : Next marks st l st')
      → passed m files done l n.new st'.texts ≡ None
      → Reaches marks m files (done ++ l ∷ []) st' log last → Reaches marks m files done st (l ∷ log) last

-- From files that read as a module of these packages, where declarations count as marked whose full names begin with
-- `only`, a run leads to a last program, and no step of it passes a limit; its files keep their bytes outside the run's
-- ranges, and this is the report.
pub record IsInlining (m : Limits) (files : List Source) (ps : List (Package Span)) (texts : List (List ℕ × FileText))
    (only : List ℕ) (after : List (List ℕ × FileText)) (report : List ℕ) : Type 0 where
  pub last : Standing
  pub log : List Logged
  pub read : ModuleReads files ps texts
  pub run : Run (marks_of ps texts only) (standing_as_read ps texts) log last
  pub within : Reaches (marks_of ps texts only) m files [] (standing_as_read ps texts) log last
  pub after_is : after ≡ last.texts
  pub keeps : FilesKeep log (bytes_of texts) (bytes_of after)
  pub reported : report ≡ report_of texts log (uses_kept (marks_of ps texts only) last) (bad_of ps texts ps)

-- From files that read as a module of these packages, the run reaches a step that passes a limit; none before it does.
pub record IsTooLarge (m : Limits) (files : List Source) (ps : List (Package Span)) (texts : List (List ℕ × FileText))
    (only : List ℕ) (r : TooLarge) : Type 0 where
  pub before : Standing
  pub after : Standing
  pub log : List Logged
  pub last : Logged
  pub read : ModuleReads files ps texts
  pub reached : Reaches (marks_of ps texts only) m files [] (standing_as_read ps texts) log before
  pub next : Next (marks_of ps texts only) before last after
  pub passes : passed m files log last next.new after.texts ≡ Some r
