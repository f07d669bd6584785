-- What is kept of a file of a program as it stands (Go specification, Source file organization; Declarations and
-- scope).
use Rattle.std.specs.Prelude.{◌≡◌, ℕ, ◌≤◌, List, length, Some, slice_get}
use Rattle.go_tree.specs.declared.limits.TheConstants.{MAX_FILE_BYTES}
use Rattle.go_scan.specs.TokenLists.{TokenLists}
use Rattle.pkg_graph.specs.Package.{SourceTree}
use Rattle.run_rules.specs.Marks.{text_at}
use Rattle.run_rules.specs.Texts.{FileText}
use Rattle.run_rules.specs.Respanned.{file_with}
use Rattle.run_rules.specs.Steps.{At}
use Rattle.run_rules.specs.Run.{Standing, here_of}
use Rattle.run_rules.specs.Inlining.{ReadsAs}
use Rattle.programs.specs.declared.part_origins.origins.Origins.{Origins}
use Rattle.programs.specs.declared.part_origins.origins.PackageOrigins.{PackageOrigins}
use Rattle.programs.specs.PartOrigins.Laws.{decls_origins}
use Rattle.programs.specs.PartOrigins.Views.{origins_of}
use Rattle.programs.specs.declared.state.PackageFiles.{PackageFiles}

-- a text with its tokens and comments
abbrev pub text_with : List ℕ → TokenLists → FileText
text_with text tokens = record { text = text; tokens = tokens.items; comments = tokens.comments }

-- Of the file with this number the text is kept, from which it reads.
pub record IsKeptFile (st : Standing) (files : PackageFiles) (i : ℕ) (f : SourceTree At) : Type 0 where
  pub text : List ℕ
  pub text_is : slice_get files.texts.items i ≡ Some text
  pub tokens : TokenLists
  pub tokens_are : slice_get files.tokens.items i ≡ Some tokens
  pub stands : text_at f.path st.texts ≡ Some (text_with text tokens)
  pub reads : ReadsAs (text_with text tokens) (file_with here_of f.tree)
  pub small : length text ≤ MAX_FILE_BYTES

-- Where its parts come from.
pub record AreKeptOrigins (os : PackageOrigins) (i : ℕ) (f : SourceTree At) : Type 0 where
  pub origins : Origins
  pub there : slice_get os.files.items i ≡ Some origins
  pub are : origins_of origins ≡ decls_origins f.tree.decls

-- So many files are kept.
pub record AreCounted (n : ℕ) (files : PackageFiles) : Type 0 where
  pub texts : length files.texts.items ≡ n
  pub tokens : length files.tokens.items ≡ n
  pub flags : length files.settled.items ≡ n
