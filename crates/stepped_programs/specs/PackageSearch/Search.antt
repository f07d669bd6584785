-- Searches over the files of a package, of which some are settled: none of their uses is free (Go specification,
-- Constant declarations; Packages).
use Rattle.std.specs.Prelude.{◌≡◌, ℕ, ◌<◌, Bool, true, false, List, length, Option, Some, None}
use Rattle.std.specs.Prelude.{slice_get, slice_index_or, map}
use Rattle.go_scan.specs.TokenLists.{TokenLists}
use Rattle.pkg_graph.specs.Members.{package_block}
use Rattle.pkg_graph.specs.Views.{package_view}
use Rattle.pkg_graph.specs.declared.packages.Package.{Package}
use Rattle.pkg_graph.specs.declared.packages.SourceTree.{SourceTree}
use Rattle.stepped_programs.specs.declared.package_search.looks.FileLook.{FileLook}
use Rattle.stepped_programs.specs.declared.package_search.looks.ProgramSources.{ProgramSources}
use Rattle.stepped_programs.specs.declared.package_search.search.FoundInPackage.{FoundInPackage}
use Rattle.stepped_programs.specs.PackageSearch.Looks.{IsLook}

-- the file with this number is settled
abbrev pub is_settled : List Bool → ℕ → Bool
is_settled flags i = slice_index_or flags i false

module _ (s : ProgramSources) (number : ℕ) (home : Package) (tokens : List TokenLists) where
  -- the names of the package's block
  abbrev pub block_of : List (List ℕ)
  block_of = map (λ m. m.0) (package_block 0 (package_view home))

  -- A look at the file with this number, of which this is found.
  pub record LookAt (i : ℕ) (l : FileLook) : Type 0 where
    pub source : SourceTree
    pub is_source : slice_get home.files i ≡ Some source
    pub list : TokenLists
    pub is_list : slice_get tokens i ≡ Some list
    pub look : IsLook s number source list block_of l

  -- The first file that isn't settled has this free use, and all before it are settled; or all files are.
  pub record IsFirstIn (new : List Bool) (r : FoundInPackage) : Type 0 where
    pub seen : FileLook
    pub look : LookAt r.file seen
    pub is_free : seen.free ≡ Some r.found
    pub tables_are : r.tables ≡ seen.tables
    pub before : (i : ℕ) → i < r.file → is_settled new i ≡ true

  -- what is answered
  abbrev pub IsFirst : List Bool → Option FoundInPackage → Type 0
  IsFirst new (Some r) = IsFirstIn new r
  IsFirst new None = (i : ℕ) → i < length home.files → is_settled new i ≡ true
