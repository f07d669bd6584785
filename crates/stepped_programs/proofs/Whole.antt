-- All that is kept of a program in which the file of a step is put.
use Rattle.std.proofs.Common.{◌≡◌, ◌∙◌, sym, ap, subst, ℕ, ◌<◌, ◌≤◌, List, map, length, Some, Vec}
use Rattle.std.specs.Prelude.{slice_get}
use Rattle.std.specs.Vec.{with_items}
use Rattle.std.proofs.lemmas.List.{length-map, with_items_is}
use Rattle.go_tree.specs.declared.spans.Span.{Span}
use Rattle.go_tree.specs.FileView.{file_of}
use Rattle.pkg_graph.specs.ModuleFiles.PathLists.{AreDistinct}
use Rattle.pkg_graph.specs.Package.{Package}
use Rattle.pkg_graph.specs.Views.{package_view, source_of}
use Rattle.pkg_graph.specs.declared.packages.Package as code
use Rattle.file_names.specs.Imports.{FindsPackages}
use Rattle.file_tables.specs.DependencyOrder.Links.{AreNamed}
use Rattle.file_tables.specs.ReplacedFiles.Replaced.{with_tree, with_tree_of}
use Rattle.stepped_programs.proofs.LoadedPrograms.Images.{image_at, at_image}
use Rattle.step_files.specs.declared.file.NewFile.{NewFile}
use Rattle.programs.specs.declared.state.PackageFiles.{PackageFiles}
use Rattle.programs.specs.declared.state.Program.{Program}
use Rattle.run_rules.specs.Steps.{change_nth}
use Rattle.stepped_programs.specs.declared.place.StepPlace.{StepPlace}
use Rattle.stepped_programs.specs.Steps.{HoldsSource, MayBePut}
use Rattle.stepped_programs.proofs.SearchedSites.KeptPrograms.Kept.{There, there}
use Rattle.stepped_programs.proofs.Lists.{as_many, change_here}
use Rattle.stepped_programs.proofs.Packages.{paths_same, found_same}

pub items_put : {A Z : Type 0} (v : Vec A Z) (xs : List A) → length xs ≡ length v.items → (with_items v xs).items ≡ xs
items_put v xs e = with_items_is v xs (e ∙ sym v.ok.0)

module _ (old : Program) (at : StepPlace) (f : NewFile) (may : MayBePut old at f) where
  abbrev changed_to : Package Span → Package Span
  changed_to p = with_tree_of at.file (file_of f.tree) p

  -- ---- its packages

  module _ (before new : List code.Package) (same : before ≡ old.packages.items) (put : map package_view new ≡ change_nth at.home changed_to (map package_view before)) where
    as_many_packages : length new ≡ length old.packages.items
    as_many_packages =
        sym (length-map new package_view) ∙ ap length put ∙ as_many changed_to at.home (map package_view before) ∙ length-map before package_view ∙ ap length same

    packages_kept : (with_items old.packages new).items ≡ new
    packages_kept = items_put old.packages new as_many_packages

    pub packages_are : map package_view (with_items old.packages new).items ≡ change_nth at.home changed_to (map package_view old.packages.items)
    packages_are =
        ap (map package_view) packages_kept ∙ put ∙ ap (λ (ps : List code.Package). change_nth at.home changed_to (map package_view ps)) same

    module _ (seen : List code.Package) (is : seen ≡ (with_items old.packages new).items) where
      viewed : map package_view seen ≡ change_nth at.home changed_to (map package_view old.packages.items)
      viewed = ap (map package_view) is ∙ packages_are

      pub distinct : AreDistinct (map (λ c. c.path) seen)
      distinct = subst (λ (qs : List (List ℕ)). AreDistinct qs) (sym (paths_same at.home at.file (file_of f.tree) old.packages.items seen viewed)) may.distinct

      pub named : AreNamed (map package_view seen)
      named = subst (λ (ps : List (Package Span)). AreNamed ps) (sym viewed) may.named

      pub found : FindsPackages old.places seen
      found = found_same at.home at.file (file_of f.tree) old.packages.items seen viewed old.places may.places

      pub holds : HoldsSource at seen
      holds =
          let o = may.source in
          let c = image_at package_view seen at.home (changed_to (package_view o.home))
          (ap (λ (ps : List (Package Span)). slice_get ps at.home) viewed
          ∙ change_here changed_to (map package_view old.packages.items) at.home (package_view o.home) (at_image package_view old.packages.items at.home o.home o.home_is)) in
          let many : length c.0.files ≡ length o.home.files =
          sym (length-map c.0.files source_of) ∙ ap (λ (p : Package Span). length p.files) c.2
          ∙ as_many (with_tree (file_of f.tree)) at.file (map source_of o.home.files) ∙ length-map o.home.files source_of in
          record { home = c.0; home_is = c.1; file = subst (λ (m : ℕ). at.file < m) (sym many) o.file }

  -- ---- its bytes

  -- the text that gives way
  body : There may.text.kept.texts.items at.file
  body = there may.text.kept.texts.items at.file may.text.texts

  pub room : (files : List PackageFiles) (size : ℕ) → files ≡ old.files.items
      → ((kept : PackageFiles) (text : List ℕ) → slice_get files at.home ≡ Some kept → slice_get kept.texts.items at.file ≡ Some text → size ≡ length text) → size ≤ old.bytes
  room files size same is =
      subst (λ (m : ℕ). m ≤ old.bytes)
      (sym (is may.text.kept body.entry (ap (λ (fs : List PackageFiles). slice_get fs at.home) same ∙ may.text.kept_is) body.is)) (may.fits body.entry body.is)
