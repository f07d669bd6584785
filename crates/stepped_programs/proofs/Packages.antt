-- The packages of a program after a step.
use Rattle.std.proofs.Common.{◌≡◌, ◌∙◌, refl, sym, ap, subst, ℕ, List, map, length, Some}
use Rattle.std.specs.Prelude.{slice_get}
use Rattle.std.proofs.lemmas.Option.{same_Some}
use Rattle.go_tree.specs.declared.spans.Span.{Span}
use Rattle.go_tree.specs.File.{File}
use Rattle.pkg_graph.specs.Package.{SourceTree, Package}
use Rattle.pkg_graph.specs.Views.{package_view}
use Rattle.pkg_graph.specs.declared.packages.Package as code
use Rattle.file_names.specs.Imports.{FindsPackages}
use Rattle.file_names.specs.Places.{Finds}
use Rattle.file_tables.specs.ReplacedFiles.Replaced as replaced
use Rattle.file_tables.specs.ReplacedFiles.Replaced.{with_tree_of}
use Rattle.file_tables.proofs.DependencyOrder.Paths.{viewed_paths}
use Rattle.run_rules.specs.Respanned.{source_with, file_with, package_with, packages_with}
use Rattle.run_rules.specs.Run.{Standing, Logged, Next, here_of}
use Rattle.run_rules.specs.Sites.{MarkRef, Site}
use Rattle.run_rules.specs.Steps.{At, change_nth}
use Rattle.stepped_programs.proofs.SearchedSites.SettledFiles.Packages.{map_same, placed, with_tree, in_package}
use Rattle.stepped_programs.proofs.Lists.{with_images, as_many, change_here}

module _ (marks : List MarkRef) (st : Standing) (l : Logged) (after : Standing) (n : Next marks st l after) where
  abbrev pub x : Site At
  x = n.found.site

  abbrev pub file_put : SourceTree At → SourceTree At
  file_put s = with_tree marks st l after n s

  abbrev pub home_put : Package At → Package At
  home_put p = in_package marks st l after n p

  -- as their nodes stand
  abbrev told_put : Package Span → Package Span
  told_put p = with_tree_of x.at.file_number (file_with here_of n.tree) p

  one_put : (p : Package At) → package_with here_of (home_put p) ≡ told_put (package_with here_of p)
  one_put p =
      let files : map (source_with here_of) (change_nth x.at.file_number file_put p.files) ≡ change_nth x.at.file_number (replaced.with_tree (file_with here_of n.tree)) (map (source_with here_of) p.files) =
      with_images (source_with here_of) file_put (replaced.with_tree (file_with here_of n.tree)) (λ s. refl) x.at.file_number p.files in
      λ v. record { path = p.path; name = p.name; files = files v }

  pub packages_now : packages_with here_of after.packages ≡ change_nth x.at.number told_put (packages_with here_of st.packages)
  packages_now =
      ap (λ (ps : List (Package At)). packages_with here_of ps) n.packages_are
      ∙ with_images (package_with here_of) home_put told_put one_put x.at.number st.packages

  pub count_now : length after.packages ≡ length st.packages
  count_now = ap (λ (ps : List (Package At)). length ps) n.packages_are ∙ as_many home_put x.at.number st.packages

  -- the package of the step
  pub own_package : (k : ℕ) (h : Package At) → k ≡ x.at.number → slice_get after.packages k ≡ Some h → h ≡ home_put x.at.of
  own_package k h e package_is =
      same_Some h (home_put x.at.of)
      (sym package_is ∙ ap (λ (ps : List (Package At)). slice_get ps k) n.packages_are
      ∙ ap (λ (j : ℕ). slice_get (change_nth x.at.number home_put st.packages) j) e
      ∙ change_here home_put st.packages x.at.number x.at.of (placed marks st l after n).package_is)

  -- and its file
  pub own_file : (k i : ℕ) (h : Package At) (f : SourceTree At) → k ≡ x.at.number → i ≡ x.at.file_number → slice_get after.packages k ≡ Some h → slice_get h.files i ≡ Some f
      → f ≡ file_put x.at.source
  own_file k i h f e g package_is file_is =
      same_Some f (file_put x.at.source)
      (sym file_is ∙ ap (λ (p : Package At). slice_get p.files i) (own_package k h e package_is)
      ∙ ap (λ (j : ℕ). slice_get (change_nth x.at.file_number file_put x.at.of.files) j) g
      ∙ change_here file_put x.at.of.files x.at.file_number x.at.source (placed marks st l after n).file_is)

-- ---- in the code

module _ (k i : ℕ) (tree : File Span) (old new : List code.Package) (are : map package_view new ≡ change_nth k (with_tree_of i tree) (map package_view old)) where
  -- packages keep their paths
  pub paths_same : map (λ c. c.path) new ≡ map (λ c. c.path) old
  paths_same =
      viewed_paths new ∙ ap (map (λ (p : Package Span). p.path)) are
      ∙ map_same (with_tree_of i tree) (λ (p : Package Span). p.path) (λ p. refl) k (map package_view old) ∙ sym (viewed_paths old)

  pub found_same : (places : List (List ℕ × ℕ)) → FindsPackages places old → FindsPackages places new
  found_same places h = subst (λ (qs : List (List ℕ)). Finds places qs) (sym paths_same) h
