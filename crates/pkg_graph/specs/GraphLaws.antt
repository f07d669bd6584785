-- Laws of the packages of a module (Go specification, Packages; Import declarations; Program initialization and
-- execution).
use Rattle.std.specs.Prelude.{◌≡◌, ◌<◌, ℕ, true, List, length, None}
use Rattle.go_tree.specs.declared.spans.Span.{Span}
use Rattle.go_tree.specs.File.{File}
use Rattle.pkg_graph.specs.Package.{SourceTree, Package, packages_of}
use Rattle.pkg_graph.specs.Graph.{GraphFault, IsFault, HasNoCycle, Links, first_unnamed}
use Rattle.pkg_graph.specs.Order.{IsDependencyOrder}
use Rattle.pkg_graph.specs.ImportOrder.Numbers.{is_among}
use Rattle.pkg_graph.specs.Reads.{Source, IsProgram, Reads}

-- ---- faults

-- Files have one fault at most.
abbrev pub FaultsAreUnique : Type 0
FaultsAreUnique =
    (home : List ℕ) (files : List (SourceTree Span)) (a b : GraphFault)
    → IsFault home files a → IsFault home files b → a ≡ b

-- Files that link have none.
abbrev pub LinkedHaveNoFault : Type 0
LinkedHaveNoFault =
    (home : List ℕ) (files : List (SourceTree Span)) (fault : GraphFault)
    → Links home files → IsFault home files fault → ⊥

-- ---- the order

-- it holds of each order of a module's packages
abbrev pub OfOrders : (List ℕ → List (SourceTree Span) → List ℕ → Type 0) → Type 0
OfOrders Law =
    (home : List ℕ) (files : List (SourceTree Span)) (order : List ℕ)
    → IsDependencyOrder (packages_of home files) order → Law home files order

-- the packages with these numbers are all
abbrev pub AreAll : List ℕ → List (SourceTree Span) → List ℕ → Type 0
AreAll home files order = (k : ℕ) → k < length (packages_of home files) → is_among order k ≡ true

-- There is one order.
abbrev pub OrdersAreUnique : Type 0
OrdersAreUnique =
    OfOrders (λ home files order.
    (other : List ℕ) → IsDependencyOrder (packages_of home files) other → order ≡ other)

-- It holds numbers of packages.
abbrev pub OrdersHoldPackages : Type 0
OrdersHoldPackages =
    OfOrders (λ home files order. (k : ℕ) → is_among order k ≡ true → k < length (packages_of home files))

-- Where each import names a package and no package lies on a cycle, it holds them all.
abbrev pub OrdersHoldAll : Type 0
OrdersHoldAll =
    OfOrders (λ home files order.
    first_unnamed home files ≡ None → HasNoCycle home files → AreAll home files order)

-- Where it holds them all, no package lies on a cycle.
abbrev pub AllHaveNoCycle : Type 0
AllHaveNoCycle =
    OfOrders (λ home files order.
    first_unnamed home files ≡ None → AreAll home files order → HasNoCycle home files)

-- ---- files

-- Files with their trees are one program at most.
abbrev pub ProgramsAreUnique : Type 0
ProgramsAreUnique =
    (files : List Source) (trees : List (SourceTree Span)) (a b : List (Package Span))
    → IsProgram files trees a → IsProgram files trees b → a ≡ b

-- So files are one program at most, where a text has one tree at most.
abbrev pub ReadsAreUnique : Type 1
ReadsAreUnique =
    (Spells : List ℕ → File Span → Type 0)
    → ((text : List ℕ) (a b : File Span) → Spells text a → Spells text b → a ≡ b)
    → (files : List Source) (a b : List (Package Span))
    → Reads Spells files a → Reads Spells files b → a ≡ b
