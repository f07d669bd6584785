-- A program as it stands, and what a run keeps of it (Go specification, Packages; Source file organization; Constant
-- declarations; Program initialization).
use Rattle.std.specs.Prelude.{◌≡◌, ℕ, ◌<◌, ◌^◌, ◌+◌, true, false, List, map, length, Some}
use Rattle.std.specs.Prelude.{slice_get, slice_index_or}
use Rattle.go_tree.specs.File.{Decl}
use Rattle.pkg_graph.specs.Package.{SourceTree, Package}
use Rattle.pkg_graph.specs.Reads.{Source}
use Rattle.pkg_graph.specs.Views.{package_view}
use Rattle.run_rules.specs.Programs.{dependency_order}
use Rattle.run_rules.specs.Sites.{MarkRef, Where, is_among_marks, where_is}
use Rattle.run_rules.specs.Respanned.{decl_with, file_with, packages_with}
use Rattle.run_rules.specs.Steps.{At}
use Rattle.run_rules.specs.Run.{Standing, here_of, module_file_size, texts_size}
use Rattle.splice_laws.specs.RunLaws.Reading.{OnePathEach}
use Rattle.member_uses.specs.Steps.{names_standing}
use Rattle.member_uses.specs.Uses.{Names}
use Rattle.member_uses.specs.Laws.{AllConstants, Knows}
use Rattle.file_names.specs.Imports.{FindsPackages}
use Rattle.module_marks.specs.Tables.{IsTableOf}
use Rattle.repeated_parts.specs.UseSearch.MarkValues.Values.{decl_values}
use Rattle.repeated_parts.specs.UseSearch.MarkValues.Tables as values
use Rattle.repeated_parts.specs.UseSearch.MarkValues.Tables.{key_of, values_at}
use Rattle.programs.specs.declared.part_origins.origins.PackageOrigins.{PackageOrigins}
use Rattle.programs.specs.declared.state.PackageFiles.{PackageFiles}
use Rattle.programs.specs.declared.state.Program.{Program}
use Rattle.programs.specs.Kept.{IsKeptFile, AreKeptOrigins, AreCounted}

-- The table has what the constants of the declaration are declared as, by the names of its file.
pub record HasValues (ps : List (Package At)) (t : values.Known) (m : MarkRef) (home : Where At) (d : Decl At) : Type 0
  where
    pub names : Names
    pub knows : Knows here_of (file_with here_of) ps home names
    pub named : knows.names ≡ names_standing ps home
    pub are : values_at (key_of m) t ≡ Some (decl_values (λ s. s) names (decl_with here_of d))

-- so it is of each marked declaration
abbrev pub TellsValues : List MarkRef → List (Package At) → values.Known → Type 0
TellsValues marks ps t =
    (m : MarkRef) (home : Where At) (d : Decl At) → is_among_marks marks m ≡ true → where_is ps m ≡ Some home
    → slice_get home.source.tree.decls m.decl ≡ Some d → HasValues ps t m home d

-- What is kept of the files of a package.
pub record AreKeptFiles (st : Standing) (h : Package At) (files : PackageFiles) : Type 0 where
  pub counted : AreCounted (length h.files) files
  pub each : (i : ℕ) (f : SourceTree At) → slice_get h.files i ≡ Some f → IsKeptFile st files i f

-- Where the parts of the file come from is kept.
pub record HasOrigins (p : Program) (k i : ℕ) (f : SourceTree At) : Type 0 where
  pub home : PackageOrigins
  pub there : slice_get p.origins.items k ≡ Some home
  pub kept : AreKeptOrigins home i f

-- All that is kept is that of this program, in which these declarations are marked, from the files of this folder.
pub record IsProgramOf (files : List Source) (marks : List MarkRef) (st : Standing) (p : Program) : Type 0 where
  pub packages_are : map package_view p.packages.items ≡ packages_with here_of st.packages
  pub few : length st.packages < 2 ^ 32
  pub paths : OnePathEach st.packages
  pub places_are : FindsPackages p.places p.packages.items
  pub order_is : p.order.items ≡ dependency_order st.packages
  pub marks_are : IsTableOf (packages_with here_of st.packages) marks p.marks
  pub constants : AllConstants st.packages marks
  pub values : TellsValues marks st.packages p.values
  pub count : length p.files.items ≡ length st.packages
  pub kept :
      (k : ℕ) (h : Package At) (fs : PackageFiles) → slice_get st.packages k ≡ Some h
      → slice_get p.files.items k ≡ Some fs → AreKeptFiles st h fs
  pub origins :
      (k i : ℕ) (h : Package At) (f : SourceTree At) → slice_get st.packages k ≡ Some h → slice_get h.files i ≡ Some f
      → HasOrigins p k i f
  pub bytes_are : p.bytes ≡ module_file_size files + texts_size st.texts

-- No file is settled.
abbrev pub NoneAreSettled : Program → Type 0
NoneAreSettled p =
    (k : ℕ) (fs : PackageFiles) → slice_get p.files.items k ≡ Some fs → (i : ℕ)
    → slice_index_or fs.settled.items i false ≡ false
