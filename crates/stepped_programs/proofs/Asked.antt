-- What is asked of a program in which a step's file is put.
use Rattle.std.proofs.Common.{◌≡◌, ◌∙◌, refl, sym, ap, subst, ℕ, zero, suc, ◌<◌, ◌≤◌, ◌^◌, ◌==◌, Bool, true, false, ◌||◌, if◌then◌else◌, bytes_eq, List, [], ◌∷◌, map, length, get_or, Some, arith}
use Rattle.std.specs.Prelude.{slice_get}
use Rattle.std.specs.List.{list_any}
use Rattle.std.specs.Option.{option_map}
use Rattle.std.proofs.lemmas.List.{length-map}
use Rattle.std.proofs.lemmas.Option.{same_Some, slice_get_within}
use Rattle.std.proofs.lemmas.Slice.Eq.{bytes_eq-Decides}
use Rattle.go_tree.specs.declared.spans.Span.{Span}
use Rattle.go_tree.specs.FileView.{file_of}
use Rattle.pkg_graph.specs.ModuleFiles.PathLists.{number_of, has_path, AreDistinct}
use Rattle.pkg_graph.specs.Package.{Package}
use Rattle.pkg_graph.specs.Graph.{imports_of}
use Rattle.pkg_graph.specs.Reads.{Source}
use Rattle.pkg_graph.specs.Views.{package_view}
use Rattle.order_runs.specs.CycleRuns.Linked.{Linked}
use Rattle.order_runs.specs.CycleRuns.OrderCycles.Orders.{AllOrdered}
use Rattle.order_runs.specs.CycleRuns.OrderedSteps.Ranks.{OwnPaths}
use Rattle.order_runs.proofs.CycleRuns.OrderedSteps.Ranked.{orders-ranked}
use Rattle.file_tables.specs.DependencyOrder.Links.{AreNamed}
use Rattle.file_tables.specs.ReplacedFiles.Replaced.{with_tree_of}
use Rattle.file_tables.proofs.DependencyOrder.Paths.{viewed_paths}
use Rattle.go_tree.specs.GoTypes.Agreement.{In, head, tail}
use Rattle.stepped_programs.proofs.LoadedPrograms.AsRead.{order_with}
use Rattle.stepped_programs.proofs.LoadedPrograms.Images.{image_at, at_image}
use Rattle.step_files.specs.declared.file.NewFile.{NewFile}
use Rattle.programs.specs.Kept.{IsKeptFile}
use Rattle.programs.specs.Programs.{AreKeptFiles, IsProgramOf}
use Rattle.programs.specs.declared.state.Program.{Program}
use Rattle.run_rules.specs.Respanned.{file_with, package_with, packages_with}
use Rattle.run_rules.specs.Run.{Standing, Logged, Next, here_of, texts_size}
use Rattle.run_rules.specs.Sites.{MarkRef, Site}
use Rattle.run_rules.specs.Steps.{At, change_nth}
use Rattle.stepped_programs.proofs.SearchedSites.KeptPrograms.Kept.{There, there, got}
use Rattle.stepped_programs.proofs.SearchedSites.SettledFiles.Packages.{paths_now}
use Rattle.run_by_steps.proofs.StepCounts.Steps.{texts_within}
use Rattle.stepped_programs.specs.declared.place.StepPlace.{StepPlace}
use Rattle.stepped_programs.specs.Texts.{HoldsFile}
use Rattle.stepped_programs.specs.Steps.{HasDecl, HoldsSource}
use Rattle.stepped_programs.specs.Laws.{IsPlaceOf, StepsMayBePut}
use Rattle.stepped_programs.proofs.Packages.{packages_now}
use Rattle.stepped_programs.proofs.Held as held

-- ---- paths

-- no two of the paths are the same
abbrev Own : List (List ℕ) → Type 0
Own xs = (j k : ℕ) (a : List ℕ) → slice_get xs j ≡ Some a → slice_get xs k ≡ Some a → j ≡ k

number_there : (xs : List (List ℕ)) → Own xs → (k : ℕ) (a : List ℕ) → slice_get xs k ≡ Some a → number_of xs a ≡ Some k
number_there [] own k a h = absurd cc
number_there (x ∷ xs) own zero a h =
    ap (λ (b : Bool). if b then Some 0 else option_map suc (number_of xs a)) ((bytes_eq-Decides a x).1 (sym (same_Some x a h)))
number_there (x ∷ xs) own (suc k) a h = by (bytes_eq a x) refl (number_there xs (λ i j b e f. let s : suc i ≡ suc j = own (suc i) (suc j) b e f in omega (arith, s)) k a h)
  where
    by : (t : Bool) → bytes_eq a x ≡ t → number_of xs a ≡ Some k → (if t then Some 0 else option_map suc (number_of xs a)) ≡ Some (suc k)
    by true e r = let s : 0 ≡ suc k = own 0 (suc k) a (ap (λ (y : List ℕ). Some y) (sym ((bytes_eq-Decides a x).0 e))) h in absurd (omega (arith, s))
    by false e r = ap (option_map suc) r

own_distinct : (xs : List (List ℕ)) → Own xs → AreDistinct xs
own_distinct xs own k h = number_there xs own k (get_or xs k []) (got xs k [] h)

paths_stand : (ps : List (Package At)) → map (λ p. p.path) (packages_with here_of ps) ≡ map (λ p. p.path) ps
paths_stand [] = refl
paths_stand (p ∷ ps) = ap (λ (qs : List (List ℕ)). p.path ∷ qs) (paths_stand ps)

own_of : {S : Type 0} (ps : List (Package S)) → OwnPaths ps → Own (map (λ p. p.path) ps)
own_of {S = S} ps own j k a h g =
    let p = image_at (λ (y : Package S). y.path) ps j a h in
    let q = image_at (λ (y : Package S). y.path) ps k a g in
    own j k p.0 q.0 p.1 q.1 (p.2 ∙ sym q.2)

-- ---- imports

in_so : (q : List ℕ) (xs : List (List ℕ)) → has_path xs q ≡ true → In q xs
in_so q [] h = absurd cc
in_so q (x ∷ xs) h = by (bytes_eq q x) refl h (in_so q xs)
  where
    by : (b : Bool) → bytes_eq q x ≡ b → (b || has_path xs q) ≡ true → (has_path xs q ≡ true → In q xs) → In q (x ∷ xs)
    by true e h f = subst (λ (y : List ℕ). In q (y ∷ xs)) ((bytes_eq-Decides q x).0 e) head
    by false e h f = tail (f h)

path_there : (xs : List (List ℕ)) (k : ℕ) (q : List ℕ) → slice_get xs k ≡ Some q → has_path xs q ≡ true
path_there [] k q h = absurd cc
path_there (x ∷ xs) zero q h = ap (λ (b : Bool). b || has_path xs q) ((bytes_eq-Decides q x).1 (sym (same_Some x q h)))
path_there (x ∷ xs) (suc k) q h = by (bytes_eq q x) (path_there xs k q h)
  where
    by : (b : Bool) → has_path xs q ≡ true → (b || has_path xs q) ≡ true
    by true f = refl
    by false f = f

ordered_named : (ps : List (Package Span)) → AllOrdered ps → AreNamed ps
ordered_named ps all k p there q h =
    let r = orders-ranked ps all in
    let b = r.1 k p there q (in_so q (imports_of p) h) in
    path_there (map (λ (y : Package Span). y.path) ps) b.number q
    (at_image (λ (y : Package Span). y.path) ps b.number b.of b.is ∙ ap (λ (y : List ℕ). Some y) b.path_is)

ordered_told : (ps : List (Package At)) → AllOrdered ps → AllOrdered (packages_with here_of ps)
ordered_told ps all k p h =
    let o = image_at (package_with here_of) ps k p h in
    ap (λ (ks : List ℕ). list_any (λ j. j == k) ks) (order_with here_of ps) ∙ all k o.0 o.1

-- ---- a program

module _ (files : List Source) (marks : List MarkRef) (st : Standing) (l : Logged) (after : Standing) (n : Next marks st l after) (at : StepPlace) (f : NewFile) (p : Program) (is : IsProgramOf files marks st p)
    (place : IsPlaceOf n at) (tree : file_of f.tree ≡ file_with here_of n.tree) (links : Linked after.packages) where
  abbrev x : Site At
  x = n.found.site

  home_there : slice_get st.packages at.home ≡ Some x.at.of
  home_there = held.home_there files marks st l after n at p is place

  file_there : slice_get x.at.of.files at.file ≡ Some x.at.source
  file_there = held.file_there files marks st l after n at p is place

  source : HoldsSource at p.packages.items
  source =
      let own = held.own files marks st l after n at p is place in
      let s = held.source files marks st l after n at p is place in
      record { home = own.0; home_is = own.1; file = slice_get_within own.0.files at.file s.0 s.1 }

  kept : There p.files.items at.home
  kept = there p.files.items at.home (subst (λ (m : ℕ). at.home < m) (sym is.count) (slice_get_within st.packages at.home x.at.of home_there))

  are_kept : AreKeptFiles st x.at.of kept.entry
  are_kept = is.kept at.home x.at.of kept.entry home_there kept.is

  inside : at.file < length x.at.of.files
  inside = slice_get_within x.at.of.files at.file x.at.source file_there

  text : HoldsFile at.home at.file p.files.items
  text =
      record {
        kept = kept.entry;
        kept_is = kept.is;
        texts = subst (λ (m : ℕ). at.file < m) (sym are_kept.counted.texts) inside;
        tokens = subst (λ (m : ℕ). at.file < m) (sym are_kept.counted.tokens) inside;
        flags = subst (λ (m : ℕ). at.file < m) (sym are_kept.counted.flags) inside;
      }

  decl : HasDecl at p.origins.items
  decl =
      let o = held.origins files marks st l after n at p is place in
      let d = held.spans_within files marks st l after n at p is place in
      record { home = o.home; home_is = o.there; file = o.kept.origins; file_is = o.kept.there; decl = d }

  codes_paths : map (λ c. c.path) p.packages.items ≡ map (λ q. q.path) after.packages
  codes_paths =
      viewed_paths p.packages.items ∙ ap (map (λ (q : Package Span). q.path)) is.packages_are ∙ paths_stand st.packages
      ∙ sym (paths_now marks st l after n)

  distinct : AreDistinct (map (λ c. c.path) p.packages.items)
  distinct = subst (λ (xs : List (List ℕ)). AreDistinct xs) (sym codes_paths) (own_distinct (map (λ q. q.path) after.packages) (own_of after.packages links.own))

  named : AreNamed (change_nth at.home (with_tree_of at.file (file_of f.tree)) (map package_view p.packages.items))
  named =
      subst (λ (ps : List (Package Span)). AreNamed ps)
      (packages_now marks st l after n ∙ sym (λ v. change_nth (place.home v) (with_tree_of (place.file v) (tree v)) (is.packages_are v)))
      (ordered_named (packages_with here_of after.packages) (ordered_told after.packages links.ordered))

  fits : (body : List ℕ) → slice_get kept.entry.texts.items at.file ≡ Some body → length body ≤ p.bytes
  fits body h =
      let y : IsKeptFile st kept.entry at.file x.at.source = are_kept.each at.file x.at.source file_there in
      let same : length body ≡ length y.text = ap length (same_Some body y.text (sym h ∙ y.text_is)) in
      let within : length y.text ≤ texts_size st.texts = texts_within x.at.source.path _ st.texts y.stands in
      omega (arith, same, within, is.bytes_are)

pub may_be_put : StepsMayBePut
unfolding text kept
may_be_put files marks st l after n at f p is place tree links small =
    record {
      source = source files marks st l after n at f p is place tree links;
      text = text files marks st l after n at f p is place tree links;
      origins = decl files marks st l after n at f p is place tree links;
      places = is.places_are;
      few = subst (λ (m : ℕ). m < 2 ^ 32) (sym (length-map st.packages (package_with here_of)) ∙ ap length (sym is.packages_are) ∙ length-map p.packages.items package_view) is.few;
      distinct = distinct files marks st l after n at f p is place tree links;
      named = named files marks st l after n at f p is place tree links;
      fits = fits files marks st l after n at f p is place tree links;
      small = small;
    }
