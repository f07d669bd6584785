-- Identifiers keep their imports, where none is the name of an import that goes.
use Rattle.std.proofs.Common.{◌≡◌, refl, sym, ◌∙◌, ℕ, Bool, true, false, not, List, [], ◌∷◌, ◌++◌, map, Some, None, Option, if◌then◌else◌, bytes_eq}
use Rattle.std.specs.Prelude.{filter}
use Rattle.go_tree.specs.declared.spans.Span.{Span}
use Rattle.go_tree.specs.Tree.{NameAt}
use Rattle.go_tree.specs.File.{ImportSpec}
use Rattle.pkg_graph.specs.Package.{Package, specs_in, import_specs}
use Rattle.pkg_graph.specs.Members.{name_or, package_name, import_name}
use Rattle.run_rules.specs.ImportRules.Removed.{goes}
use Rattle.run_rules.specs.Sites.{MarkRef}
use Rattle.run_rules.specs.Naming.{imports_added}
use Rattle.run_rules.specs.Respanned.{import_spec_with}
use Rattle.run_rules.specs.Steps.{At, added_decls}
use Rattle.run_rules.specs.Run.{Standing, Logged, Next, here_of}
use Rattle.order_runs.specs.CycleRuns.StepCycles.PackagesAlike.{import_key}
use Rattle.order_runs.specs.CycleRuns.ImportCycles.OtherImports.{import_path}
use Rattle.order_runs.specs.CycleRuns.ImportCycles.ImportSteps.{packages_added, KeepsNames}
use Rattle.put_names.specs.ReadImports.PutInText.{unused_spans, PutInText}
use Rattle.put_names.specs.ReadImports.RemovedNames.{RemovesNoNames}
use Rattle.put_names.proofs.ReadImports.Specs.{nothing-behind, with-specs}
use Rattle.put_names.proofs.ReadImports.ReadAgain.{others-stay}

abbrev or_own : Option (List ℕ) → List ℕ → List ℕ
or_own None own = own
or_own (Some n) own = n

module _ {S : Type 0} (ps : List (Package S)) (m : List ℕ) where
  -- the path of the first import with this name, by the names and paths of imports
  abbrev key_path : List (Option (List ℕ) × List ℕ) → Option (List ℕ)
  key_path [] = None
  key_path (k ∷ ks) = if bytes_eq (or_own k.0 (package_name ps k.1)) m then Some k.1 else key_path ks

  name-key : (s : ImportSpec S) → import_name ps s ≡ or_own (import_key s).0 (package_name ps s.path)
  name-key s = by s.name
    where
      by : (n : Option (NameAt S)) → name_or n (package_name ps s.path) ≡ or_own (import_key (record { span = s.span; name = n; path = s.path })).0 (package_name ps s.path)
      by None = refl
      by (Some n) = refl

  by-key : (ss : List (ImportSpec S)) → import_path ps ss m ≡ key_path (map import_key ss)
  by-key [] = refl
  by-key (s ∷ ss) = λ v. if bytes_eq (name-key s v) m then Some s.path else by-key ss v

  module _ {T : Type 0} (to : S → T) (go : ImportSpec T → Bool) where
    there-key : (s : ImportSpec S) → or_own (import_key (import_spec_with to s)).0 (package_name ps s.path) ≡ import_name ps s
    there-key s = by s.name
      where
        by : (n : Option (NameAt S)) → or_own (import_key (import_spec_with to (record { span = s.span; name = n; path = s.path }))).0 (package_name ps s.path) ≡ name_or n (package_name ps s.path)
        by None = refl
        by (Some n) = refl

    abbrev gone : List (ImportSpec S) → List (ImportSpec S)
    gone ss = filter (λ s. go (import_spec_with to s)) ss

    abbrev left : List (ImportSpec S) → List (ImportSpec T)
    left ss = filter (λ s. not (go s)) (map (import_spec_with to) ss)

    left-path : (ss : List (ImportSpec S)) → import_path ps (gone ss) m ≡ None → key_path (map import_key (left ss)) ≡ import_path ps ss m
    left-path [] e = refl
    left-path (s ∷ ss) e = by (go (import_spec_with to s)) (left-path ss) e
      where
        found : (t : Bool) → (import_path ps (gone ss) m ≡ None → key_path (map import_key (left ss)) ≡ import_path ps ss m) → (if t then Some s.path else import_path ps (gone ss) m) ≡ None
            → key_path (map import_key (left ss)) ≡ (if t then Some s.path else import_path ps ss m)
        found true r x = cc
        found false r x = r x

        by : (b : Bool) → (import_path ps (gone ss) m ≡ None → key_path (map import_key (left ss)) ≡ import_path ps ss m) → import_path ps (if b then s ∷ gone ss else gone ss) m ≡ None
            → key_path (map import_key (if not b then import_spec_with to s ∷ left ss else left ss)) ≡ (if bytes_eq (import_name ps s) m then Some s.path else import_path ps ss m)
        by true r x = found (bytes_eq (import_name ps s) m) r x
        by false r x = λ v. if bytes_eq (there-key s v) m then Some s.path else r x v

module _ (marks : List MarkRef) (st : Standing) (l : Logged) (after : Standing) (n : Next marks st l after) (h : PutInText n) (none : imports_added n.found.named ≡ []) where
  abbrev ps : List (Package At)
  ps = packages_added st.packages n.found

  abbrev goes_here : ImportSpec Span → Bool
  goes_here s = goes n.old.text n.old.tokens n.old.comments (unused_spans n) s

  none-added : n.found.site.at.source.tree.imports ++ added_decls n.found.range (imports_added n.found.named) ≡ n.found.site.at.source.tree.imports
  none-added = (λ v. n.found.site.at.source.tree.imports ++ added_decls n.found.range (none v)) ∙ nothing-behind n.found.site.at.source.tree.imports

  pub names-kept : RemovesNoNames n → KeepsNames n
  names-kept out k d s m i =
      by-key ps m (import_specs n.tree)
      ∙ (λ v. key_path ps m (others-stay marks st l after n h none v))
      ∙ (λ v. key_path ps m (map import_key (filter (λ x. not (goes_here x)) (with-specs here_of n.found.site.at.source.tree.imports v))))
      ∙ left-path ps m here_of goes_here (import_specs n.found.site.at.source.tree) (out k d s m i)
      ∙ (λ v. import_path ps (specs_in (sym none-added v)) m)
