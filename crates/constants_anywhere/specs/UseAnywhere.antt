-- A use of a constant in its own package, in a declaration of any form (Go specification, Constant declarations;
-- Declarations and scope).
use Rattle.std.specs.Prelude.{◌≡◌, ℕ, Bool, false, ◌&&◌, List, map, Some, nat_eq, slice_get}
use Rattle.go_tree.specs.Tree.{ident}
use Rattle.go_tree.specs.File.{Decl}
use Rattle.pkg_graph.specs.Package.{Package}
use Rattle.run_rules.specs.Programs.{linked_file, decl_seen}
use Rattle.run_rules.specs.Sites.{MarkRef, Site}
use Rattle.constant_steps.specs.Alone.{PlainFiles}
use Rattle.constant_steps.specs.PlainUse.{AllTheUse, PlainUse}

-- The use stands in a declaration of the file's package, in which nothing else stands at its span, and which isn't
-- that of the constant. All declarations of the package are plain; of this one's parts nothing is asked.
pub record UseAnywhere {S : Type 0} (same : S → S → Bool) (commented : ℕ → ℕ → S → Bool)
    (rs : List (Package S))
    (marks : List MarkRef) (x : Site S) (u : PlainUse same commented rs marks x) : Type 0 where
  pub package_there : slice_get rs x.at.number ≡ Some x.at.of
  pub file_there : slice_get x.at.of.files x.at.file_number ≡ Some x.at.source
  pub decl : Decl S
  pub decl_there : slice_get x.at.source.tree.decls x.decl ≡ Some decl
  pub elsewhere : (nat_eq x.mark.file x.at.file_number && nat_eq x.mark.decl x.decl) ≡ false
  pub plain : PlainFiles (map (linked_file rs) x.at.of.files)
  pub alone : AllTheUse same x (ident u.span u.name) (decl_seen rs x.at.number x.at.of x.at.source.tree decl)
