-- Searches over the files of a package, after which those without a free use are known to use what their kept uses
-- are of (Go specification, Constant declarations; Packages).
use Rattle.std.specs.Prelude.{◌≡◌, ◌⊎◌, ℕ, true, Bool, List, length, Option, None}
use Rattle.go_scan.specs.TokenLists.{TokenLists}
use Rattle.pkg_graph.specs.declared.packages.Package.{Package}
use Rattle.repeated_parts.specs.UseSearch.MarkValues.Tables.{DeclKey}
use Rattle.stepped_programs.specs.declared.package_search.looks.FileLook.{FileLook}
use Rattle.stepped_programs.specs.declared.package_search.looks.ProgramSources.{ProgramSources}
use Rattle.stepped_programs.specs.declared.package_search.search.FoundInPackage.{FoundInPackage}
use Rattle.stepped_programs.specs.PackageSearch.Search.{is_settled, LookAt, IsFirst}
use Rattle.programs.specs.Users.{Known, FileKey, is_user, AreItsUses}

-- who used the constants of a declaration still does
abbrev pub Keeps : Known → Known → Type 0
Keeps old new = (k : DeclKey) (f : FileKey) → is_user old k f ≡ true → is_user new k f ≡ true

module _ (s : ProgramSources) (number : ℕ) (home : Package) (tokens : List TokenLists) where
  -- No use in the file is free, as a look at it shows, and the file uses the constants of which it keeps uses.
  pub record HasNoneOf (users : Known) (i : ℕ) : Type 0 where
    pub seen : FileLook
    pub look : LookAt s number home tokens i seen
    pub none_free : seen.free ≡ None
    pub used : AreItsUses users (number, i) seen.kept.items

  -- Files that are settled stay so, and each that comes to them has no free use.
  pub record AreSettledFor (users : Known) (old new : List Bool) : Type 0 where
    pub size : length new ≡ length old
    pub stay : (i : ℕ) → is_settled old i ≡ true → is_settled new i ≡ true
    pub come : (i : ℕ) → is_settled new i ≡ true → (is_settled old i ≡ true) ⊎ HasNoneOf users i

  -- So the package is searched, and this is its first free use.
  pub record IsUserSearch (users : Known) (old new : List Bool) (r : Option FoundInPackage) : Type 0 where
    pub settled : AreSettledFor users old new
    pub first : IsFirst s number home tokens new r
