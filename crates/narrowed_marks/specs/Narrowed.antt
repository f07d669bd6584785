-- Marks of declarations whose full names begin with a prefix (Go specification, Qualified identifiers; Method
-- declarations).
use Rattle.std.specs.Prelude.{◌≡◌, ℕ, Bool, List, Some, None, nat_eq}
use Rattle.std.specs.List.{starts_with}
use Rattle.go_tree.specs.declared.spans.Span.{Span}
use Rattle.go_tree.specs.File.{Func}
use Rattle.pkg_graph.specs.Package.{Package}
use Rattle.run_rules.specs.Marks.{full_name, home_path, marked_name}
use Rattle.run_rules.specs.Sites.{MarkRef, a_function, inlinable}

-- the full name of the declaration that a mark holds for begins with these bytes
abbrev pub begins_with : List (Package Span) → List ℕ → MarkRef → Bool
begins_with ps only m = starts_with nat_eq (full_name (home_path ps m) (marked_name ps m)) only

-- the mark holds for no method
abbrev pub HasNoReceiver : List (Package Span) → MarkRef → Type 0
HasNoReceiver ps m = (f : Func Span) → inlinable ps m ≡ Some (a_function f) → f.receiver ≡ None
