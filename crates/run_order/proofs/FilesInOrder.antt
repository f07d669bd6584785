-- The files of packages stand in the order of their paths.
use Rattle.std.proofs.Common.{◌≡◌, refl, sym, ◌∙◌, subst, ℕ, zero, suc, Bool, true, false, ◌&&◌, List, [], ◌∷◌, map, filter, not, if◌then◌else◌}
use Rattle.std.specs.List.{list_all}
use Rattle.go_tree.specs.declared.spans.Span.{Span}
use Rattle.go_tree.specs.File.{File}
use Rattle.pkg_graph.specs.ModuleFiles.Pieces.{comes_before}
use Rattle.pkg_graph.specs.ModuleFiles.Selected.{is_selected, module_file}
use Rattle.pkg_graph.specs.Package.{SourceTree, Package, home_of, package_of, first_seen}
use Rattle.pkg_graph.specs.Reads.{Source, is_at, selected_files, go_files, AreTrees, none, file}
use Rattle.std.specs.Prelude.{bytes_eq}
use Rattle.run_rules.specs.Inlining.{IsSourceFile, are_by_path, ModuleReads, standing_as_read}
use Rattle.run_rules.specs.Respanned.{source_with, packages_with}
use Rattle.run_rules.specs.Run.{Standing, Logged, Next, Run, ends, goes_on, as_read}
use Rattle.run_rules.specs.Sites.{MarkRef}
use Rattle.run_rules.specs.Steps.{At, change_nth}
use Rattle.run_rules.specs.Texts.{FileText}
use Rattle.run_order.specs.Order.{PathsAscend, FilesByPath}

both-true : (a b : Bool) → (a && b) ≡ true → (a ≡ true) × (b ≡ true)
both-true true true h = (refl, refl)
both-true true false h = cc
both-true false b h = cc

-- ---- paths

module _ {A : Type 0} (path : A → List ℕ) where
  abbrev paths : List A → List (List ℕ)
  paths xs = map path xs

  all-kept : (p : List ℕ → Bool) (q : A → Bool) (xs : List A) → list_all p (paths xs) ≡ true
      → list_all p (paths (filter q xs)) ≡ true
  all-kept p q [] h = refl
  all-kept p q (x ∷ xs) h = by (q x) (both-true (p (path x)) (list_all p (paths xs)) h) (all-kept p q xs)
    where
      by : (b : Bool) → (p (path x) ≡ true) × (list_all p (paths xs) ≡ true)
          → (list_all p (paths xs) ≡ true → list_all p (paths (filter q xs)) ≡ true)
          → list_all p (paths (if b then x ∷ filter q xs else filter q xs)) ≡ true
      by true k f = (λ v. k.0 v && list_all p (paths (filter q xs))) ∙ f k.1
      by false k f = f k.1

  some-ascend : (q : A → Bool) (xs : List A) → PathsAscend (paths xs) → PathsAscend (paths (filter q xs))
  some-ascend q [] h = tt
  some-ascend q (x ∷ xs) h = by (q x) (all-kept (comes_before (path x)) q xs h.0) (some-ascend q xs h.1)
    where
      by : (b : Bool) → list_all (comes_before (path x)) (paths (filter q xs)) ≡ true
          → PathsAscend (paths (filter q xs)) → PathsAscend (paths (if b then x ∷ filter q xs else filter q xs))
      by true a k = (a, k)
      by false a k = k

-- ---- files of a module

all-source : (p : List ℕ → Bool) (fs : List Source) → list_all (λ g. p g.path) fs ≡ true
    → list_all p (map (λ g. g.path) fs) ≡ true
all-source p [] h = refl
all-source p (f ∷ fs) h = let k = both-true (p f.path) (list_all (λ g. p g.path) fs) h in (λ v. k.0 v && list_all p (map (λ g. g.path) fs)) ∙ all-source p fs k.1

sources-ascend : (fs : List Source) → are_by_path fs ≡ true → PathsAscend (map (λ g. g.path) fs)
sources-ascend [] h = tt
sources-ascend (f ∷ fs) h =
    let k = both-true (list_all (λ g. comes_before f.path g.path) fs) (are_by_path fs) h in
    (all-source (comes_before f.path) fs k.0, sources-ascend fs k.1)

same-paths : {fs : List Source} {trees : List (SourceTree Span)} → AreTrees IsSourceFile fs trees
    → map (λ g. g.path) fs ≡ map (λ t. t.path) trees
same-paths none = refl
same-paths (file f tree fs trees s r) = λ v. f.path ∷ same-paths r v

each-package : (home : List ℕ) (trees : List (SourceTree Span)) (xs : List (List ℕ))
    → PathsAscend (map (λ t. t.path) trees) → FilesByPath (map (package_of home trees) xs)
each-package home trees [] h = tt
each-package home trees (x ∷ xs) h = (some-ascend (λ (t : SourceTree Span). t.path) (λ f. bytes_eq x (home_of home f)) trees h, each-package home trees xs h)

module-by-path : (files : List Source) (ps : List (Package Span)) (texts : List (List ℕ × FileText))
    → ModuleReads files ps texts → FilesByPath ps
module-by-path files ps texts m =
    let all : PathsAscend (map (λ g. g.path) files) = sources-ascend files m.by_path in
    let chosen : PathsAscend (map (λ g. g.path) (selected_files files)) = some-ascend (λ (g : Source). g.path) (λ f. is_selected (map (λ g. g.path) files) f.path) files all in
    let code : PathsAscend (map (λ g. g.path) (go_files files)) = some-ascend (λ (g : Source). g.path) (λ f. not (is_at module_file f)) (selected_files files) chosen in
    let trees : PathsAscend (map (λ t. t.path) m.reads.trees) = subst PathsAscend (same-paths m.reads.trees_are) code in
    subst (λ (qs : List (Package Span)). FilesByPath qs) (sym m.reads.program.packages_are)
    (each-package m.reads.program.path m.reads.trees (first_seen (map (home_of m.reads.program.path) m.reads.trees)) trees)

-- ---- as they stand

module _ {S T : Type 0} (to : S → T) where
  files-with : (fs : List (SourceTree S)) → map (λ f. f.path) (map (source_with to) fs) ≡ map (λ f. f.path) fs
  files-with [] = refl
  files-with (f ∷ fs) = λ v. f.path ∷ files-with fs v

  packages-by-path : (ps : List (Package S)) → FilesByPath ps → FilesByPath (packages_with to ps)
  packages-by-path [] h = tt
  packages-by-path (p ∷ ps) h = (subst PathsAscend (sym (files-with p.files)) h.0, packages-by-path ps h.1)

-- ---- steps

module _ (tree : File At) where
  abbrev put : SourceTree At → SourceTree At
  put s = record s { tree = tree }

  files-put : (n : ℕ) (fs : List (SourceTree At)) → map (λ f. f.path) (change_nth n put fs) ≡ map (λ f. f.path) fs
  files-put n [] = refl
  files-put zero (f ∷ fs) = refl
  files-put (suc n) (f ∷ fs) = λ v. f.path ∷ files-put n fs v

  packages-put : (k n : ℕ) (ps : List (Package At)) → FilesByPath ps → FilesByPath (change_nth k (λ p. record p { files = change_nth n put p.files }) ps)
  packages-put k n [] h = tt
  packages-put zero n (p ∷ ps) h = (subst PathsAscend (sym (files-put n p.files)) h.0, h.1)
  packages-put (suc k) n (p ∷ ps) h = (h.0, packages-put k n ps h.1)

step-by-path : (marks : List MarkRef) (st : Standing) (l : Logged) (after : Standing) → Next marks st l after
    → FilesByPath st.packages → FilesByPath after.packages
step-by-path marks st l after n h = subst (λ (ps : List (Package At)). FilesByPath ps) (sym n.packages_are) (packages-put n.tree n.found.site.at.number n.found.site.at.file_number st.packages h)

run-by-path : (marks : List MarkRef) (st last : Standing) (log : List Logged) → Run marks st log last
    → FilesByPath st.packages → FilesByPath last.packages
run-by-path marks st _ _ (ends _ over) h = h
run-by-path marks st last _ (goes_on _ next _ l log n run) h = run-by-path marks next last log run (step-by-path marks st l next n h)

pub runs-by-path : (files : List Source) (ps : List (Package Span)) (texts : List (List ℕ × FileText)) (marks : List MarkRef) (last : Standing) (log : List Logged)
    → ModuleReads files ps texts → Run marks (standing_as_read ps texts) log last → FilesByPath last.packages
runs-by-path files ps texts marks last log m run = run-by-path marks (standing_as_read ps texts) last log run (packages-by-path as_read ps (module-by-path files ps texts m))
