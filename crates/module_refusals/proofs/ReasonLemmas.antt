-- How reasons are told.
use Rattle.std.proofs.Common.{◌≡◌, ◌∙◌, ◌<◌, ◌≤◌, length, ℕ, zero, suc, Bool, true, false, cond, List, [], ◌∷◌, filter, sym, ap, subst, arith, All, Some}
use Rattle.std.specs.List.{slice_get}
use Rattle.std.specs.Option.{option_map}
use Rattle.std.proofs.lemmas.Option.{slice_get-map}
use Rattle.go_tree.specs.declared.spans.Span.{Span}
use Rattle.go_tree.specs.File.{File}
use Rattle.go_tree.specs.declared.limits.TheConstants.{MAX_FILE_BYTES}
use Rattle.pkg_graph.specs.declared.module_files.faults.GraphError.TheVariants.{NoModuleLine, OldGo, MixedPackage, NoPackage, Cycle, Internal, NoMemory}
use Rattle.pkg_graph.specs.Package.{SourceTree}
use Rattle.pkg_graph.specs.Reads.{Source, AreTrees, none, file}
use Rattle.run_rules.specs.Inlining.{IsSourceFile}
use Rattle.refusals.specs.declared.refusal.Refusal.{Refusal}
use Rattle.source_files.specs.declared.files.SourceFile.{SourceFile}
use Rattle.module_texts.specs.declared.faults.ReadFault.{ReadFault}
use Rattle.module_texts.specs.declared.faults.ReadFault.TheVariants.{Text, Module}
use Rattle.module_texts.specs.declared.modules.ReadModule.{ReadModule}
use Rattle.module_texts.specs.Files.{go_files, is_go_file, source_of, sources_of}
use Rattle.module_texts.specs.Modules.{IsReadFrom, RefusesModule, go_sources}
use Rattle.module_texts.proofs.RefusedLemmas.{go_alike, shallow_are, words_are}
use Rattle.module_refusals.specs.Refused.{AreModule, IsBelow, IsRefusal}
use Rattle.module_refusals.specs.Told.{Tells, OfFile}

-- each file of the module is a source file
tree_at : (fs : List Source) (trees : List (SourceTree Span)) (k : ℕ) (s : Source) → AreTrees IsSourceFile fs trees → slice_get fs k ≡ Some s → (tree : File Span) × IsSourceFile s.text tree
tree_at _ _ k s none e = absurd cc
tree_at _ _ zero s (file f tree fs trees is rest) e = let same : f ≡ s = cc in (tree, subst (λ x. IsSourceFile x.text tree) same is)
tree_at _ _ (suc k) s (file f tree fs trees is rest) e = tree_at fs trees k s rest e

-- so is the file in which a fault of the packages is
pub fault_source : (files : List SourceFile) (k at : ℕ) (f : SourceFile) → RefusesModule (sources_of files) (MixedPackage k at) → slice_get (go_files files) k ≡ Some f
    → (tree : File Span) × IsSourceFile f.bytes tree
fault_source files k at f r e =
    let got : slice_get (go_sources (sources_of files)) k ≡ Some (source_of f) =
    ap (λ fs. slice_get fs k) (sym (go_alike files)) ∙ slice_get-map source_of (go_files files) k ∙ ap (option_map source_of) e in
    tree_at (go_sources (sources_of files)) r.trees k (source_of f) r.trees_are got

pub read_is_module : (files : List SourceFile) (m : ReadModule) → IsReadFrom files m → AreModule files
read_is_module files m r = record {
  path = m.home.path;
  path_is = r.path_is;
  trees = r.trees;
  trees_are = r.trees_are;
  links = r.links;
  words = words_are files m.home.path r.path_is m.files.items r.scanned r.words;
  shallow = shallow_are files m.home.path r.path_is m.files.items r.scanned r.shallow;
}

-- ---- the numbers of files

kept_in : {A : Type 0} (P : A → Type 0) (p : A → Bool) (xs : List A) (k : ℕ) (x : A) → All P xs → slice_get (filter p xs) k ≡ Some x → P x
kept_in P p [] k x all e = absurd cc
kept_in P p (y ∷ ys) k x all e = by (p y) k (λ j f. kept_in P p ys j x (λ i d l. all (suc i) d (omega (arith, l))) f) e
  where
    by : (b : Bool) (j : ℕ) → ((i : ℕ) → slice_get (filter p ys) i ≡ Some x → P x) → slice_get (cond b (y ∷ filter p ys) (filter p ys)) j ≡ Some x → P x
    by true zero rest e = let same : y ≡ x = cc in subst P same (all 0 y (omega arith))
    by true (suc j) rest e = rest j e
    by false j rest e = rest j e

-- a file of Go source is as short as all are
pub small_file : (files : List SourceFile) (k : ℕ) (f : SourceFile) → All (λ f. length f.bytes ≤ MAX_FILE_BYTES) files → slice_get (go_files files) k ≡ Some f → length f.bytes ≤ MAX_FILE_BYTES
small_file files k f small e = kept_in (λ (g : SourceFile). length g.bytes ≤ MAX_FILE_BYTES) is_go_file files k f small e

module _ (files : List SourceFile) (n : ℕ) (all : All (λ f. f.index < n) files) where
  in_file : (k : ℕ) (P : SourceFile → Type 0) (r : Refusal) → ((f : SourceFile) → P f → r.file ≡ Some f.index) → OfFile files k P → IsBelow n r.file
  in_file k P r is h = subst (IsBelow n) (sym (is h.0 h.2)) (kept_in (λ f. f.index < n) is_go_file files k h.0 all h.1)

  told_below : (fault : ReadFault) (r : Refusal) → Tells files fault r → IsBelow n r.file
  told_below (Text k fault) r h = in_file k _ r (λ f e. ap (λ x. x.file) e) h
  told_below (Module NoModuleLine) r h = subst (IsBelow n) (sym (ap (λ x. x.file) h)) tt
  told_below (Module (OldGo v)) r h = subst (IsBelow n) (sym (ap (λ x. x.file) h)) tt
  told_below (Module (MixedPackage k at)) r h = in_file k _ r (λ f e. ap (λ x. x.file) e.2) h
  told_below (Module (NoPackage k at p)) r h = in_file k _ r (λ f e. ap (λ x. x.file) e) h
  told_below (Module (Cycle p)) r h = subst (IsBelow n) (sym (ap (λ x. x.file) h)) tt
  told_below (Module (Internal k at p)) r h = in_file k _ r (λ f e. ap (λ x. x.file) e) h
  told_below (Module NoMemory) r h = absurd h

  -- a refusal names one of the files
  pub refusal_below : (r : Refusal) → IsRefusal files r → IsBelow n r.file
  refusal_below r h = told_below h.fault r h.tells
