-- Searches over a package of a program (Go specification, Constant declarations; Packages).
use Rattle.std.specs.Prelude.{◌≡◌, ℕ, List, All, length, Option, Some, slice_get, slice_set}
use Rattle.run_rules.specs.ImportRules.Laid.{CommentsAscend}
use Rattle.pkg_graph.specs.declared.packages.Package.{Package}
use Rattle.file_names.specs.Imports.{FindsPackages}
use Rattle.stepped_programs.specs.declared.package_search.looks.ProgramSources.{ProgramSources}
use Rattle.stepped_programs.specs.declared.package_search.search.FoundInPackage.{FoundInPackage}
use Rattle.programs.specs.declared.state.PackageFiles.{PackageFiles}
use Rattle.programs.specs.declared.state.Program.{Program}
use Rattle.programs.specs.Users.{Known}
use Rattle.stepped_programs.specs.PackageSearch.SearchedPrograms.Search.{Keeps, IsUserSearch}

-- There is such a package, of whose files the tokens and the flags are kept, and the comments of each in their order.
pub record HasPackage (packages : List Package) (files : List PackageFiles) (k : ℕ) : Type 0 where
  pub home : Package
  pub home_is : slice_get packages k ≡ Some home
  pub kept : PackageFiles
  pub kept_is : slice_get files k ≡ Some kept
  pub tokens : length kept.tokens.items ≡ length home.files
  pub settled : length kept.settled.items ≡ length home.files
  pub ascend : All (λ t. CommentsAscend 0 t.comments) kept.tokens.items

-- and each package is found by its path
pub record IsOpen (s : ProgramSources) (files : List PackageFiles) (k : ℕ) : Type 0 where
  pub places : FindsPackages s.places.now s.packages.now
  pub there : HasPackage s.packages.now files k

-- the same of a program
pub record IsOpenProgram (p : Program) (k : ℕ) : Type 0 where
  pub places : FindsPackages p.places p.packages.items
  pub there : HasPackage p.packages.items p.files.items k

-- The files of this package are searched: of what is kept of them the flags alone change, and of other packages
-- nothing.
pub record IsPackagesSearch
    (s : ProgramSources) (k : ℕ) (old new : List PackageFiles) (users after : Known) (r : Option FoundInPackage)
    : Type 0 where
  pub home : Package
  pub home_is : slice_get s.packages.now k ≡ Some home
  pub was : PackageFiles
  pub was_is : slice_get old k ≡ Some was
  pub now : PackageFiles
  pub only_flags : now ≡ record was { settled = now.settled }
  pub put : new ≡ slice_set old k now
  pub search : IsUserSearch s k home was.tokens.items after was.settled.items now.settled.items r
  pub keeps : Keeps users after

-- So it is in a program, of which nothing else changes.
pub record IsProgramSearch (old new : Program) (k : ℕ) (r : Option FoundInPackage) : Type 0 where
  pub sources : ProgramSources
  pub packages_told : sources.packages.now ≡ old.packages.items
  pub places_told : sources.places.now ≡ old.places
  pub marks_told : sources.marks.now ≡ old.marks
  pub values_told : sources.values.now ≡ old.values
  pub types_told : sources.types.now ≡ old.types
  pub rest : new ≡ record old { files = new.files; users = new.users }
  pub search : IsPackagesSearch sources k old.files.items new.files.items old.users new.users r
