-- The law of looks at files of a program as it stands (Go specification, Declarations and scope; Import declarations).
use Rattle.std.specs.Prelude.{◌≡◌, ℕ, List, [], map, Some, slice_get}
use Rattle.go_tree.specs.FileView.{file_of}
use Rattle.go_scan.specs.TokenLists.{TokenLists}
use Rattle.fresh_names.specs.Laws.{TakesFew}
use Rattle.run_rules.specs.ImportRules.Needs.{avoided}
use Rattle.pkg_graph.specs.Views.{package_view}
use Rattle.pkg_graph.specs.declared.packages.SourceTree.{SourceTree}
use Rattle.run_rules.specs.Sites.{MarkRef, Where}
use Rattle.run_rules.specs.Marks.{text_at}
use Rattle.run_rules.specs.Texts.{FileText}
use Rattle.run_rules.specs.Respanned.{file_with, package_with, packages_with}
use Rattle.run_rules.specs.Steps.{At}
use Rattle.run_rules.specs.Run.{Standing, here_of}
use Rattle.run_rules.specs.Inlining.{ReadsAs}
use Rattle.constant_steps.specs.FormImports.ImportLaws.Steps.{names_standing}
use Rattle.member_uses.specs.Uses.{Names}
use Rattle.member_uses.specs.Laws.{Knows}
use Rattle.file_names.specs.Members.{IsBlockOf}
use Rattle.repeated_parts.specs.declared.literal_types.table.LiteralTypes.{LiteralTypes}
use Rattle.repeated_parts.specs.UseSearch.UsesOfMarks.Laws.{EachSound, EachTold}
use Rattle.stepped_programs.specs.declared.package_search.looks.FileLook.{FileLook}
use Rattle.stepped_programs.specs.declared.package_search.looks.ProgramSources.{ProgramSources}
use Rattle.stepped_programs.specs.PackageSearch.Looks.{IsLook}
use Rattle.stepped_programs.specs.SearchedSites.Told.{IsFile}

-- The file stands there in a program of these packages, and reads from its text, of which these are the comments; its
-- package's block has these names; its identifiers, with the names to avoid, are fewer than 2^64; and its declarations
-- are as marked_uses asks, by whatever table of its scopes, and whatever table tells which keys of composite literals
-- name fields.
pub record StandsAs
    (marks : List MarkRef) (st : Standing) (w : Where At) (s : ProgramSources) (source : SourceTree)
    (tokens : TokenLists) (block : List (List ℕ)) : Type 0 where
  pub packages_are : map package_view s.packages.now ≡ packages_with here_of st.packages
  pub there : slice_get st.packages w.number ≡ Some w.of
  pub in_package : slice_get w.of.files w.file_number ≡ Some w.source
  pub text : FileText
  pub stands : text_at w.source.path st.texts ≡ Some text
  pub reads : ReadsAs text (file_with here_of w.source.tree)
  pub source_is : file_of source.tree ≡ file_with here_of w.source.tree
  pub comments_are : tokens.comments ≡ text.comments
  pub block_is : IsBlockOf block (package_with here_of w.of)
  pub few_words : TakesFew w.source.tree (avoided (names_standing st.packages w) [])
  pub sound : EachSound st.packages w w.source.tree.decls

-- A look at such a file tells of it what searches ask.
abbrev pub LooksTellFiles : Type 0
LooksTellFiles =
    (marks : List MarkRef) (st : Standing) (w : Where At) (s : ProgramSources) (source : SourceTree)
    (tokens : TokenLists) (block : List (List ℕ)) (l : FileLook) → StandsAs marks st w s source tokens block
    → (k : IsLook s w.number source tokens block l) → IsFile marks st w k.view
