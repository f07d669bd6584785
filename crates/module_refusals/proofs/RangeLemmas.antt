-- Each fault names a file that is there.
use Rattle.std.proofs.Common.{◌≡◌, ◌∙◌, ◌<◌, ◌+◌, ℕ, suc, Bool, true, false, cond, List, [], ◌∷◌, find, length, map, refl, sym, ap, subst, arith, length-append, All, Some}
use Rattle.std.proofs.lemmas.List.{length-map}
use Rattle.std.proofs.lemmas.List.Elements.{All-append, All-cons}
use Rattle.go_tree.specs.declared.spans.Span.{Span}
use Rattle.go_tree.specs.File.{ImportSpec}
use Rattle.pkg_graph.specs.declared.module_files.faults.GraphError.TheVariants.{MixedPackage, NoPackage, Internal}
use Rattle.pkg_graph.specs.Package.{SourceTree, home_of, import_specs}
use Rattle.pkg_graph.specs.Graph.{ImportAt, IsFault, is_mixed_package, is_no_package, is_internal, mixed_package, no_package, internal_package, imports_from, numbered_files}
use Rattle.pkg_graph.specs.Reads.{Source, AreTrees, none, file}
use Rattle.run_rules.specs.Inlining.{IsSourceFile}
use Rattle.source_files.specs.declared.files.SourceFile.{SourceFile}
use Rattle.module_texts.specs.declared.faults.TextFault.{TextFault}
use Rattle.module_texts.specs.declared.faults.ReadFault.TheVariants.{Text}
use Rattle.module_texts.specs.Files.{go_files, source_of, sources_of}
use Rattle.module_texts.specs.Modules.{Refuses, RefusesModule, go_sources}
use Rattle.module_texts.proofs.RefusedLemmas.{go_alike}

count_alike : (files : List SourceFile) → length (go_sources (sources_of files)) ≡ length (go_files files)
count_alike files = ap length (sym (go_alike files)) ∙ length-map (go_files files) source_of

-- a fault of a text
pub text_within : (files : List SourceFile) (k : ℕ) (fault : TextFault) → Refuses (sources_of files) (Text k fault) → k < length (go_files files)
text_within files k fault r =
    let first = r.1.first in
    let size = ap length first.is ∙ length-append first.before (first.of ∷ first.behind) in
    omega (arith, size, count_alike files, first.count)

trees_count : (fs : List Source) (trees : List (SourceTree Span)) → AreTrees IsSourceFile fs trees → length trees ≡ length fs
trees_count _ _ none = refl
trees_count _ _ (file f tree fs trees is rest) = ap suc (trees_count fs trees rest)

-- what is found is one of those that all pass
found_holds : {A : Type 0} (P : A → Type 0) (p : A → Bool) (xs : List A) (x : A) → All P xs → find p xs ≡ Some x → P x
found_holds P p [] x all e = absurd cc
found_holds P p (y ∷ ys) x all e = by (p y) (λ f. found_holds P p ys x (λ j d l. all (suc j) d (omega (arith, l))) f) e
  where
    by : (b : Bool) → (find p ys ≡ Some x → P x) → cond b (Some y) (find p ys) ≡ Some x → P x
    by true rest e = let same : y ≡ x = cc in subst P same (all 0 y (omega arith))
    by false rest e = rest e

numbers_within : (n : ℕ) (fs : List (SourceTree Span)) → All (λ x. x.0 < n + length fs) (numbered_files n fs)
numbers_within n [] = λ j d l. absurd (omega (arith, l))
numbers_within n (f ∷ fs) = All-cons (λ (x : ℕ × SourceTree Span). x.0 < n + suc (length fs)) (n, f) (numbered_files (suc n) fs) (omega arith)
    (λ j d l. let rest = numbers_within (suc n) fs j d l in omega (arith, rest))

specs_within : (n m : ℕ) (from : List ℕ) → n < m → (specs : List (ImportSpec Span)) → All (λ i. i.file < m) (map (λ s. let i : ImportAt Span = record { file = n; from = from; spec = s } in i) specs)
specs_within n m from h [] = λ j d l. absurd (omega (arith, l))
specs_within n m from h (s ∷ ss) = All-cons (λ (i : ImportAt Span). i.file < m) (record { file = n; from = from; spec = s }) _ h (specs_within n m from h ss)

imports_within : (n : ℕ) (home : List ℕ) (fs : List (SourceTree Span)) → All (λ i. i.file < n + length fs) (imports_from n home fs)
imports_within n home [] = λ j d l. absurd (omega (arith, l))
imports_within n home (f ∷ fs) =
    All-append (λ (i : ImportAt Span). i.file < n + suc (length fs)) _ (imports_from (suc n) home fs) (specs_within n (n + suc (length fs)) (home_of home f) (omega arith) (import_specs f.tree))
    (λ j d l. let rest = imports_within (suc n) home fs j d l in omega (arith, rest))

module _ (files : List SourceFile) where
  within_files : (k : ℕ) (trees : List (SourceTree Span)) → AreTrees IsSourceFile (go_sources (sources_of files)) trees → k < 0 + length trees → k < length (go_files files)
  within_files k trees are l = let same = trees_count (go_sources (sources_of files)) trees are in omega (arith, same, count_alike files, l)

  mixed_in : (path : List ℕ) (trees : List (SourceTree Span)) (k at : ℕ) → IsFault path trees (mixed_package k at) → k < 0 + length trees
  mixed_in path trees k _ (is_mixed_package _ f e) = found_holds (λ (x : ℕ × SourceTree Span). x.0 < 0 + length trees) _ (numbered_files 0 trees) (k, f) (numbers_within 0 trees) e

  unnamed_in : (path : List ℕ) (trees : List (SourceTree Span)) (k at : ℕ) (p : List ℕ) → IsFault path trees (no_package k at p) → k < 0 + length trees
  unnamed_in path trees _ _ _ (is_no_package i m e) = found_holds (λ (x : ImportAt Span). x.file < 0 + length trees) _ (imports_from 0 path trees) i (imports_within 0 path trees) e

  internal_in : (path : List ℕ) (trees : List (SourceTree Span)) (k at : ℕ) (p : List ℕ) → IsFault path trees (internal_package k at p) → k < 0 + length trees
  internal_in path trees _ _ _ (is_internal i m u c e) = found_holds (λ (x : ImportAt Span). x.file < 0 + length trees) _ (imports_from 0 path trees) i (imports_within 0 path trees) e

  -- faults of packages
  pub mixed_within : (k at : ℕ) → RefusesModule (sources_of files) (MixedPackage k at) → k < length (go_files files)
  mixed_within k at r = within_files k r.trees r.trees_are (mixed_in r.path r.trees k at r.fault)

  pub unnamed_within : (k at : ℕ) (p : List ℕ) → RefusesModule (sources_of files) (NoPackage k at p) → k < length (go_files files)
  unnamed_within k at p r = within_files k r.trees r.trees_are (unnamed_in r.path r.trees k at p r.fault)

  pub internal_within : (k at : ℕ) (p : List ℕ) → RefusesModule (sources_of files) (Internal k at p) → k < length (go_files files)
  internal_within k at p r = within_files k r.trees r.trees_are (internal_in r.path r.trees k at p r.fault)
