-- The laws of written types as nodes of files. Each is the contract of a function of this crate (Go specification,
-- Types; Source file organization).
use Rattle.std.specs.Prelude.{◌≡◌, ℕ, Bool, Option, Some, slice_get}
use Rattle.go_tree.specs.declared.spans.Span.{Span}
use Rattle.go_tree.specs.Tree.{NameAt, TypeExpr, named}
use Rattle.go_tree.specs.File.{Decl, File}
use Rattle.go_tree.specs.FileBare.{bare_file}
use Rattle.run_rules.specs.FormTrees.{as_type}
use Rattle.run_rules.specs.Inlining.{ReadsAs}
use Rattle.run_rules.specs.Respanned.{file_with}
use Rattle.run_rules.specs.Steps.{At}
use Rattle.run_rules.specs.Surroundings.{Slot}
use Rattle.run_rules.specs.Texts.{FileText}
use Rattle.splice_laws.specs.Dots.{UndottedFile}
use Rattle.splice_laws.specs.Swaps.{FileIn}
use Rattle.put_nodes.specs.Put.{FormIsPut}
use Rattle.put_nodes.specs.TypeNodes.Names.{type_names, IsTypeName}
use Rattle.put_nodes.specs.TypeNodes.Swapped.{TypeSwapped, AllTypesSwapped}

-- Where a file reads from its text as its nodes stand, each name of a type that a declaration of it writes is a node of
-- the file, which may be swapped for each type: once for all names that share it. Of the types of receivers, and of
-- names that are the whole type of a composite literal in a header, nothing is said.
abbrev pub TypeNamesAreNodes : (At → Span) → Type 0
TypeNamesAreNodes to =
    (text : FileText) (tree : File At) → ReadsAs text (file_with to tree) → (i : ℕ) (d : Decl At)
    → slice_get tree.decls i ≡ Some d
    → AllTypesSwapped to (λ w. (g : File Span) × FileIn w (file_with to tree) g) (type_names d)

-- A name of a type is put in the place of a name of a type that is a node of such a file: the edit that writes it there
-- lays it out in the place of the old name's node. Asked of the file: that no selector stands on an integer literal.
abbrev pub TypeNamesArePut : (At → Span) → Type 0
TypeNamesArePut to =
    (text : FileText) (tree : File At) → ReadsAs text (file_with to tree) → UndottedFile (bare_file (file_with to tree))
    → (z s : At) (p : Slot) (literal : Bool) (q : Option (NameAt At)) (n : NameAt At) (new : TypeExpr At)
    → TypeSwapped to (λ w. (g : File Span) × FileIn w (file_with to tree) g) literal (named s q n)
    → IsTypeName new
    → FormIsPut text (file_with to tree) z (to s) p (as_type new)
