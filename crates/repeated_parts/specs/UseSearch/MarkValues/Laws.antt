-- What a table tells of marked constants (Go specification, Constant declarations; Qualified identifiers).
use Rattle.std.specs.Prelude.{◌≡◌, true, List, Option, Some, None, map, slice_get}
use Rattle.go_tree.specs.Tree.{NameAt, Expr}
use Rattle.go_tree.specs.File.{Decl}
use Rattle.pkg_graph.specs.Package.{Package}
use Rattle.pkg_graph.specs.Views.{package_view}
use Rattle.pkg_graph.specs.declared.packages.Package as code
use Rattle.run_rules.specs.Programs.{decl_seen}
use Rattle.run_rules.specs.Sites.{MarkRef, Where, a_constant, is_among_marks, where_is, inlinable}
use Rattle.run_rules.specs.Respanned.{file_with, packages_with}
use Rattle.run_rules.specs.Steps.{At}
use Rattle.run_rules.specs.Run.{here_of}
use Rattle.member_uses.specs.Steps.{names_standing}
use Rattle.member_uses.specs.Parts.{AllScoped}
use Rattle.member_uses.specs.declared.names.FileScopes.{FileScopes}
use Rattle.member_uses.specs.Laws.{Knows}
use Rattle.member_uses.specs.Views.{names_in}
use Rattle.constant_forms.specs.declared.uses.ConstantValue.{ConstantValue}
use Rattle.constant_forms.specs.Uses.{IsValue}
use Rattle.repeated_parts.specs.declared.use_search.mark_values.values.DeclaredValue.{DeclaredValue}
use Rattle.repeated_parts.specs.declared.use_search.mark_values.marked.PackageScopes.{PackageScopes}
use Rattle.repeated_parts.specs.UseSearch.MarkValues.Values.{value_of}
use Rattle.repeated_parts.specs.UseSearch.MarkValues.Tables.{key_of, Known, value_in, file_at, AreValuesOf}

module _ (ps : List (Package At)) (home : Where At) where
  -- This is what a constant with the expression is declared as, or it is neither a name nor a name of another package.
  abbrev pub Tells : Expr At → Option DeclaredValue → Type 0
  Tells e None = (v : ConstantValue) → IsValue ps home v e → ⊥
  Tells e (Some x) = (v : ConstantValue) → value_of v ≡ x → IsValue ps home v e

-- The mark is that of a constant of a program as it stands, which is declared there by this name and as this
-- expression; of the names of its file the code is told.
pub record IsDeclared (ps : List (Package At)) (fs : List PackageScopes) (m : MarkRef) (home : Where At) (n : NameAt At)
    (e : Expr At) : Type 0 where
  pub declared_there : where_is ps m ≡ Some home
  pub declared_as : inlinable ps m ≡ Some (a_constant n e)
  pub decl : Decl At
  pub nth : slice_get home.source.tree.decls m.decl ≡ Some decl
  pub scoped : AllScoped (decl_seen ps home.number home.of home.source.tree decl)
  pub file : FileScopes
  pub told : file_at fs (key_of m) ≡ Some file
  pub knows : Knows here_of (file_with here_of) ps home (names_in file)
  pub named : knows.names ≡ names_standing ps home

-- Where a table was made of packages as they stand, it tells of each marked constant what it is declared as.
abbrev pub TablesTellValues : Type 0
TablesTellValues =
    (ps : List (Package At)) (cs : List code.Package) (fs : List PackageScopes) (marks : List MarkRef) (t : Known)
    (m : MarkRef) (home : Where At) (n : NameAt At) (e : Expr At)
    → map package_view cs ≡ packages_with here_of ps → AreValuesOf cs fs marks t → is_among_marks marks m ≡ true
    → IsDeclared ps fs m home n e → Tells ps home e (value_in t m)
