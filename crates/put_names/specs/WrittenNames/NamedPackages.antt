-- Packages whose names are identifiers (Go specification, Package clause; Identifiers; Import declarations).
use Rattle.std.specs.Prelude.{◌≡◌, ℕ, true, List, [], ◌∷◌, Some, slice_get}
use Rattle.go_tree.specs.GoWords.Tokens.Characters.{each}
use Rattle.splice_laws.specs.ImportSplices.AddedFile.{is_byte}
use Rattle.go_layout.specs.LayoutLaws.Formed.{IsName}
use Rattle.pkg_graph.specs.Package.{Package}
use Rattle.run_rules.specs.Naming.{Named}

module _ {S : Type 0} where
  -- each package has an identifier for its name
  abbrev pub PackagesAreNamed : List (Package S) → Type 0
  PackagesAreNamed ps = (k : ℕ) (p : Package S) → slice_get ps k ≡ Some p → IsName p.name

  -- each has octets for its path
  abbrev pub PathsAreOctets : List (Package S) → Type 0
  PathsAreOctets ps = (k : ℕ) (p : Package S) → slice_get ps k ≡ Some p → each is_byte p.path ≡ true

  -- the names of packages that a form is told are those of packages of the program
  abbrev pub AreOfPackages : List (Package S) → List Named → Type 0
  AreOfPackages ps [] = Unit {0}
  AreOfPackages ps (n ∷ ns) = ((p : Package S) × (slice_get ps n.of ≡ Some p)) × AreOfPackages ps ns
