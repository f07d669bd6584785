-- Searches over the packages of a program, one after another (Go specification, Packages; Constant declarations).
use Rattle.std.specs.Prelude.{◌≡◌, ◌⊎◌, ℕ, ◌<◌, Bool, true, List, [], ◌∷◌, ◌++◌, length}
use Rattle.std.specs.Prelude.{Option, Some, None, slice_get}
use Rattle.go_scan.specs.TokenLists.{TokenLists}
use Rattle.pkg_graph.specs.declared.packages.Package.{Package}
use Rattle.stepped_programs.specs.declared.package_search.looks.FileLook.{FileLook}
use Rattle.stepped_programs.specs.declared.package_search.looks.ProgramSources.{ProgramSources}
use Rattle.stepped_programs.specs.declared.package_search.search.FoundInPackage.{FoundInPackage}
use Rattle.stepped_programs.specs.PackageSearch.Search.{is_settled, LookAt, IsFirstIn}
use Rattle.stepped_programs.specs.SearchedSites.OrderedSearches.Held.{Users, AreUsed}

-- it holds for each number
abbrev pub EachNumber : (ℕ → Type 0) → List ℕ → Type 0
EachNumber P [] = Unit {0}
EachNumber P (k ∷ ks) = P k × EachNumber P ks

-- The flags of the files of each package, and their tokens, by its number.
module _ (s : ProgramSources) (tokens : ℕ → List TokenLists) where
  -- No use in the file with this number is free, as a look at it shows, and it is known to use the constants of its
  -- uses.
  pub record HasNoneOf (users : Users) (k : ℕ) (home : Package) (i : ℕ) : Type 0 where
    pub seen : FileLook
    pub look : LookAt s k home (tokens k) i seen
    pub none_free : seen.free ≡ None
    pub used : AreUsed users k i seen.kept.items

  -- In each package, each file that comes to those that are settled has no free use.
  abbrev pub ComeSettled : Users → (ℕ → List Bool) → (ℕ → List Bool) → Type 0
  ComeSettled users old new =
      (k : ℕ) (home : Package) → slice_get s.packages.now k ≡ Some home → (i : ℕ) → is_settled (new k) i ≡ true
      → (is_settled (old k) i ≡ true) ⊎ HasNoneOf users k home i

  module _ (flags : ℕ → List Bool) where
    -- all files of the package are settled
    abbrev pub IsAllSettled : ℕ → Type 0
    IsAllSettled k =
        (home : Package) → slice_get s.packages.now k ≡ Some home → (i : ℕ) → i < length home.files
        → is_settled (flags k) i ≡ true

    -- In this order of packages this one is the first that has a free use, which is this one.
    pub record IsFirstPackage (order : List ℕ) (k : ℕ) (r : FoundInPackage) : Type 0 where
      pub before : List ℕ
      pub after : List ℕ
      pub order_is : order ≡ before ++ k ∷ after
      pub settled : EachNumber IsAllSettled before
      pub home : Package
      pub there : slice_get s.packages.now k ≡ Some home
      pub first : IsFirstIn s k home (tokens k) (flags k) r

    -- The first free use in this order of packages, with the number of its package; or all files are settled.
    abbrev pub IsFirstFree : List ℕ → Option (ℕ × FoundInPackage) → Type 0
    IsFirstFree order None = EachNumber IsAllSettled order
    IsFirstFree order (Some q) = IsFirstPackage order q.0 q.1
