-- The spans of the parts of declarations that may be uses (Go specification, Operands; Qualified identifiers; Calls;
-- Types).
use Rattle.std.specs.Prelude.{List, map}
use Rattle.go_tree.specs.File.{Decl}
use Rattle.pkg_graph.specs.Package.{SourceTree, Package}
use Rattle.member_uses.specs.PossibleUses.Parts.{parts_of}
use Rattle.run_rules.specs.Sites.{part_span}

module _ {S : Type 0} where
  -- the spans of the parts of a declaration that may be uses, in their order
  abbrev pub part_spans : Decl S → List S
  part_spans d = map (λ c. part_span c.part) (parts_of d)

  -- those of declarations
  abbrev pub decls_spans : List (Decl S) → List (List S)
  decls_spans ds = map part_spans ds

  -- those of files
  abbrev pub files_spans : List (SourceTree S) → List (List (List S))
  files_spans fs = map (λ f. decls_spans f.tree.decls) fs

  -- those of packages
  abbrev pub packages_spans : List (Package S) → List (List (List (List S)))
  packages_spans ps = map (λ p. files_spans p.files) ps
