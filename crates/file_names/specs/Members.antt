-- The names of a package block by the numbers of their declarations (Go specification, Blocks; Method declarations).
use Rattle.std.specs.Prelude.{◌≡◌, ℕ, Bool, false, List, map, is_some}
use Rattle.go_tree.specs.declared.spans.Span.{Span}
use Rattle.go_tree.specs.File.{Decl, func}
use Rattle.pkg_graph.specs.Package.{Package}
use Rattle.pkg_graph.specs.Members.{Target, member, package_block}
use Rattle.file_names.specs.declared.members.MarkRef.{MarkRef}
use Rattle.file_names.specs.declared.members.Member.{Member}

-- what a declared name means
abbrev pub target_of : MarkRef → Target
target_of m = member m.«package» m.file m.decl m.item

-- a name of a package block with what it means
abbrev pub member_of : Member → List ℕ × Target
member_of m = (m.name, target_of m.at)

-- the declaration of a method
abbrev pub is_method : {S : Type 0} → Decl S → Bool
is_method (func f) = is_some f.receiver
is_method d = false

-- they are the names of the package's block, in its order
abbrev pub IsBlockOf : List (List ℕ) → Package Span → Type 0
IsBlockOf names p = names ≡ map (λ x. x.0) (package_block 0 p)
