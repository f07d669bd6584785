-- What a step makes of all that is kept of a program (Go specification, Packages; Source file organization; Constant
-- declarations; Program initialization).
use Rattle.std.specs.Prelude.{◌≡◌, ℕ, ◌<◌, ◌≤◌, ◌^◌, ◌+◌, Bool, false, ◌&&◌, nat_eq, List}
use Rattle.std.specs.Prelude.{map, length, Option, Some, slice_get}
use Rattle.go_tree.specs.declared.files.Decl.{Decl}
use Rattle.go_tree.specs.declared.spans.Span.{Span}
use Rattle.go_tree.specs.FileView.{decl_of, file_of}
use Rattle.pkg_graph.specs.ModuleFiles.PathLists.{AreDistinct}
use Rattle.pkg_graph.specs.Views.{package_view}
use Rattle.pkg_graph.specs.declared.packages.Package.{Package}
use Rattle.pkg_graph.specs.declared.packages.SourceTree.{SourceTree}
use Rattle.go_tree.specs.GoTypes.Answers.{given}
use Rattle.run_rules.specs.Programs.{dependency_order}
use Rattle.run_rules.specs.Steps.{change_nth}
use Rattle.file_names.specs.Imports.{FindsPackages}
use Rattle.file_names.specs.Members.{IsBlockOf}
use Rattle.file_tables.specs.DependencyOrder.Links.{AreNamed}
use Rattle.file_tables.specs.ReplacedFiles.Replaced.{with_tree_of}
use Rattle.repeated_parts.specs.UseSearch.MarkValues.Tables.{DeclKey, Known, decl_at, values_at}
use Rattle.step_files.specs.declared.file.NewFile.{NewFile}
use Rattle.member_uses.specs.PossibleUses.Parts.{parts_of}
use Rattle.programs.specs.FileValues.Filled.{HasFileValues}
use Rattle.programs.specs.PartOrigins.Views.{origins_of}
use Rattle.programs.specs.declared.part_origins.origins.Origins.{Origins}
use Rattle.programs.specs.declared.part_origins.origins.PackageOrigins.{PackageOrigins}
use Rattle.programs.specs.declared.state.PackageFiles.{PackageFiles}
use Rattle.programs.specs.declared.state.Program.{Program}
use Rattle.stepped_programs.specs.declared.place.StepPlace.{StepPlace}
use Rattle.stepped_programs.specs.Texts.{HoldsFile, ArePut}
use Rattle.stepped_programs.specs.Flags.{AreUnsettled}
use Rattle.stepped_programs.specs.SwappedOrigins.{swapped, IsOriginPut}

-- the declaration in which a step is made
abbrev pub key_at : StepPlace → DeclKey
key_at at = (at.home, (at.file, at.decl))

-- where the parts of the declaration with this number come from, in a file
abbrev pub own_spans : Origins → ℕ → Option (List Span)
own_spans own d = slice_get (origins_of own) d

-- in a package
abbrev pub file_spans : PackageOrigins → ℕ → ℕ → Option (List Span)
file_spans home i d = given (slice_get home.files.items i) (λ own. own_spans own d)

-- in a program
abbrev pub spans_at : List PackageOrigins → DeclKey → Option (List Span)
spans_at os k = given (slice_get os k.0) (λ home. file_spans home k.1.0 k.1.1)

-- These are the origins of the declaration's parts, once the use in it that stands there became a name, qualified or
-- not.
abbrev pub AreSwapped : Program → StepPlace → Bool → Span → List Span → Type 0
AreSwapped p at qualified z os =
    (decl : Decl) (spans : List Span) → decl_at p.packages.items (key_at at) ≡ Some decl
    → spans_at p.origins.items (key_at at) ≡ Some spans → os ≡ swapped qualified z (parts_of (decl_of decl)) spans

-- There is such a declaration among the origins of a program.
pub record HasDecl (at : StepPlace) (origins : List PackageOrigins) : Type 0 where
  pub home : PackageOrigins
  pub home_is : slice_get origins at.home ≡ Some home
  pub file : Origins
  pub file_is : slice_get home.files.items at.file ≡ Some file
  pub decl : at.decl < length file.decls.items

-- There is such a file in the packages of a program.
pub record HoldsSource (at : StepPlace) (packages : List Package) : Type 0 where
  pub home : Package
  pub home_is : slice_get packages at.home ≡ Some home
  pub file : at.file < length home.files

-- What a step at this place asks, which makes this file: the file is there with all that is kept of it, each package
-- has a path of its own by which it is found, and each import after the step names one. The bytes of the module and of
-- the new text are fewer than 2^32 together.
pub record MayBePut (p : Program) (at : StepPlace) (f : NewFile) : Type 0 where
  pub source : HoldsSource at p.packages.items
  pub text : HoldsFile at.home at.file p.files.items
  pub origins : HasDecl at p.origins.items
  pub places : FindsPackages p.places p.packages.items
  pub few : length p.packages.items < 2 ^ 32
  pub distinct : AreDistinct (map (λ q. q.path) p.packages.items)
  pub named :
      AreNamed (change_nth at.home (with_tree_of at.file (file_of f.tree)) (map package_view p.packages.items))
  pub fits :
      (body : List ℕ) → slice_get text.kept.texts.items at.file ≡ Some body → length body ≤ p.bytes
  pub small : p.bytes + length f.text < 2 ^ 32

-- The table has what the constants of the file at the place are declared as, where its package's block has these names;
abbrev pub AreFileValues : StepPlace → List (List ℕ) → List Package → Known → Type 0
AreFileValues at block packages t =
    (home : Package) (source : SourceTree) → slice_get packages at.home ≡ Some home
    → slice_get home.files at.file ≡ Some source → IsBlockOf block (package_view home)
    → HasFileValues packages at.home home at.file source t

-- and of other files what it had.
abbrev pub AreOtherValues : StepPlace → Known → Known → Type 0
AreOtherValues at old new =
    (q : DeclKey) → (nat_eq at.home q.0 && nat_eq at.file q.1.0) ≡ false → values_at q new ≡ values_at q old

-- The file of the place is this one now: its tree, its text with tokens and comments, where the parts of the
-- declaration come from, and what its constants are declared as, by the names of its package's block. Packages are in
-- dependency order; files that use the declaration aren't settled any more; all else stays.
pub record IsStepPut (at : StepPlace) (os : List Span) (block : List (List ℕ)) (f : NewFile) (old new : Program)
    : Type 0 where
  pub packages_are :
      map package_view new.packages.items
      ≡ change_nth at.home (with_tree_of at.file (file_of f.tree)) (map package_view old.packages.items)
  pub between : List PackageFiles
  pub texts_are : ArePut at.home at.file f.text f.tokens old.files.items between
  pub flags_are : AreUnsettled old.users (key_at at) between new.files.items
  pub origins_are : IsOriginPut at.home at.file at.decl os old.origins.items new.origins.items
  pub order_is : new.order.items ≡ dependency_order (map package_view new.packages.items)
  pub values_are : AreFileValues at block new.packages.items new.values
  pub other_values : AreOtherValues at old.values new.values
  pub bytes_are :
      (kept : PackageFiles) (body : List ℕ) → slice_get old.files.items at.home ≡ Some kept
      → slice_get kept.texts.items at.file ≡ Some body → new.bytes + length body ≡ old.bytes + length f.text
  pub places_stay : new.places ≡ old.places
  pub marks_stay : new.marks ≡ old.marks
  pub types_stay : new.types ≡ old.types
  pub bad_stay : new.bad ≡ old.bad
  pub users_stay : new.users ≡ old.users
