-- What a table has of the constants of a step's file, among the packages after the step.
use Rattle.std.proofs.Common.{◌≡◌, ◌∙◌, sym, ap, subst, ℕ, false, ◌&&◌, nat_eq, List, map, Some}
use Rattle.std.specs.Prelude.{slice_get}
use Rattle.std.proofs.lemmas.Option.{same_Some}
use Rattle.go_tree.specs.declared.spans.Span.{Span}
use Rattle.pkg_graph.specs.Package.{Package}
use Rattle.pkg_graph.specs.Members.{Target, package_block}
use Rattle.pkg_graph.specs.Reads.{Source}
use Rattle.pkg_graph.specs.Views.{package_view, source_of}
use Rattle.pkg_graph.specs.declared.packages.Package as code
use Rattle.pkg_graph.specs.declared.packages.SourceTree as code_tree
use Rattle.file_names.specs.Members.{IsBlockOf}
use Rattle.file_tables.specs.ReplacedFiles.Replaced.{with_tree_of}
use Rattle.stepped_programs.proofs.LoadedPrograms.Images.{image_at, at_image}
use Rattle.repeated_parts.specs.UseSearch.MarkValues.Tables.{DeclKey, values_at}
use Rattle.step_files.specs.declared.file.NewFile.{NewFile}
use Rattle.programs.specs.FileValues.Filled.{HasFileValues}
use Rattle.programs.specs.Programs.{IsProgramOf}
use Rattle.programs.specs.declared.state.Program.{Program}
use Rattle.run_rules.specs.Respanned.{source_with, package_with, packages_with}
use Rattle.run_rules.specs.Run.{Standing, Logged, Next, here_of}
use Rattle.run_rules.specs.Sites.{MarkRef, Site}
use Rattle.run_rules.specs.Steps.{At, change_nth}
use Rattle.stepped_programs.proofs.SearchedSites.SettledFiles.Packages.{block_now, placed}
use Rattle.repeated_parts.proofs.UseSearch.UsesOfMarks.BlocksStay.{block_stays}
use Rattle.stepped_programs.specs.SteppedValues.Filled.{IsFilledAnew}
use Rattle.stepped_programs.specs.declared.place.StepPlace.{StepPlace}
use Rattle.stepped_programs.specs.Steps.{IsStepPut}
use Rattle.stepped_programs.specs.Laws.{IsOfStep, StepsFillValues}
use Rattle.stepped_programs.proofs.Lists.{change_here}
use Rattle.stepped_programs.proofs.Packages.{file_put, home_put, packages_now}

module _ (files : List Source) (marks : List MarkRef) (st : Standing) (l : Logged) (after : Standing) (n : Next marks st l after) (at : StepPlace) (os : List Span) (block : List (List ℕ)) (f : NewFile) (old new : Program)
    (is : IsProgramOf files marks st old) (o : IsOfStep n at os block f) (put : IsStepPut at os block f old new) where
  abbrev x : Site At
  x = n.found.site

  abbrev codes : List code.Package
  codes = new.packages.items

  pub packages_put : map package_view codes ≡ packages_with here_of after.packages
  packages_put =
      put.packages_are ∙ (λ v. change_nth (o.place.home v) (with_tree_of (o.place.file v) (o.tree_is v)) (is.packages_are v))
      ∙ sym (packages_now marks st l after n)

  abbrev names_in : Package Span → List (List ℕ)
  names_in p = map (λ (m : List ℕ × Target). m.0) (package_block 0 p)

  abbrev now : Package At
  now = home_put marks st l after n x.at.of

  now_there : slice_get after.packages x.at.number ≡ Some now
  now_there =
      ap (λ (ps : List (Package At)). slice_get ps x.at.number) n.packages_are
      ∙ change_here (home_put marks st l after n) st.packages x.at.number x.at.of (placed marks st l after n).package_is

  own : (c : code.Package) × (slice_get codes x.at.number ≡ Some c) × (package_view c ≡ package_with here_of now)
  own =
      image_at package_view codes x.at.number (package_with here_of now)
      (ap (λ (ps : List (Package Span)). slice_get ps x.at.number) packages_put ∙ at_image (package_with here_of) after.packages x.at.number now now_there)

  source : (s : code_tree.SourceTree) × (slice_get own.0.files x.at.file_number ≡ Some s) × (source_of s ≡ source_with here_of (file_put marks st l after n x.at.source))
  source =
      image_at source_of own.0.files x.at.file_number (source_with here_of (file_put marks st l after n x.at.source))
      (ap (λ (p : Package Span). slice_get p.files x.at.file_number) own.2
      ∙ at_image (source_with here_of) now.files x.at.file_number (file_put marks st l after n x.at.source)
      (change_here (file_put marks st l after n) x.at.of.files x.at.file_number x.at.source (placed marks st l after n).file_is))

  -- the names of the package's block are those that were given
  block_told : IsBlockOf block (package_view own.0)
  block_told =
      o.block_is
      ∙ ap (map (λ (m : List ℕ × Target). m.0))
      (sym (block_stays here_of 0 now ∙ block_now marks st l after n x.at.number 0 x.at.of now (placed marks st l after n).package_is now_there))
      ∙ ap names_in (sym own.2)

  has_values : HasFileValues codes x.at.number own.0 x.at.file_number source.0 new.values
  has_values =
      subst (λ (j : ℕ). HasFileValues codes j own.0 x.at.file_number source.0 new.values) o.place.home
      (subst (λ (j : ℕ). HasFileValues codes at.home own.0 j source.0 new.values) o.place.file
      (put.values_are own.0 source.0 (ap (slice_get codes) o.place.home ∙ own.1) (ap (slice_get own.0.files) o.place.file ∙ source.1) block_told))

  others : (q : DeclKey) → (nat_eq x.at.number q.0 && nat_eq x.at.file_number q.1.0) ≡ false → values_at q new.values ≡ values_at q old.values
  others q h = put.other_values q ((λ v. nat_eq (o.place.home v) q.0 && nat_eq (o.place.file v) q.1.0) ∙ h)

  pub filled : IsFilledAnew codes n.found old.values new.values
  filled = record { home = own.0; home_is = own.1; source = source.0; source_is = source.1; here = has_values; others = others }

-- the names that were given are those of the block of the package at the place
pub block_put : (files : List Source) (marks : List MarkRef) (st : Standing) (l : Logged) (after : Standing) (n : Next marks st l after) (at : StepPlace) (os : List Span) (block : List (List ℕ)) (f : NewFile) (old new : Program)
    → IsProgramOf files marks st old → IsOfStep n at os block f → IsStepPut at os block f old new
    → (home : code.Package) → slice_get new.packages.items at.home ≡ Some home → IsBlockOf block (package_view home)
block_put files marks st l after n at os block f old new is o put home there =
    let own = own files marks st l after n at os block f old new is o put in
    subst (λ (p : code.Package). IsBlockOf block (package_view p))
    (same_Some own.0 home (sym own.1 ∙ sym (ap (λ (j : ℕ). slice_get new.packages.items j) o.place.home) ∙ there))
    (block_told files marks st l after n at os block f old new is o put)

pub fill_values : StepsFillValues
fill_values files marks st l after n at os block f old new is o put = (packages_put files marks st l after n at os block f old new is o put, filled files marks st l after n at os block f old new is o put)
