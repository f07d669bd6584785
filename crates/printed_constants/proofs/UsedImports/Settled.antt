-- What holds of each import that stays, and of each that comes, holds of each of a settled file.
use Rattle.std.proofs.Common.{◌≡◌, ◌∙◌, refl, sym, subst, ℕ, Bool, true, false, if◌then◌else◌, List, [], ◌∷◌, ◌++◌, map}
use Rattle.go_tree.specs.declared.spans.Span.{Span}
use Rattle.go_tree.specs.declared.tokens.Token.{Token}
use Rattle.go_tree.specs.declared.tokens.Comment.{Comment}
use Rattle.go_tree.specs.File.{ImportSpec, ImportDecl}
use Rattle.go_tree.specs.FileBare.{bare_import_spec}
use Rattle.run_rules.specs.declared.import_rules.new_import.NewImport.{NewImport}
use Rattle.run_rules.specs.ImportRules.SpecText.{is_before, put, in_order}
use Rattle.run_rules.specs.ImportRules.Removed.{goes, goes_whole}
use Rattle.run_rules.specs.ImportRules.Added.{adds_to_group}
use Rattle.splice_laws.specs.ImportSplices.AddedFile.{added_spec, added_decls}
use Rattle.splice_laws.specs.ImportSplices.SettledFile.{left_specs, left_single, left_decl, left_decls, grown_decls, with_added, settled_decls}
use Rattle.pkg_graph.specs.Package.{specs_in}
use Rattle.order_runs.specs.CycleRuns.StepCycles.PackagesAlike.{import_key}
use Rattle.order_runs.proofs.CycleRuns.KeptImports.Keys.{Key, new_key, key-bare, key-added}

append_none : {A : Type 0} (xs : List A) → xs ++ [] ≡ xs
append_none [] = refl
append_none (x ∷ xs) = λ v. x ∷ append_none xs v

specs_both : {S : Type 0} (xs ys : List (ImportDecl S)) → specs_in (xs ++ ys) ≡ specs_in xs ++ specs_in ys
specs_both [] ys = refl
specs_both (d ∷ xs) ys = (λ z. d.specs ++ specs_both xs ys z) ∙ sym (turns d.specs (specs_in xs) (specs_in ys))
  where
    turns : {A : Type 0} (as_ bs cs : List A) → (as_ ++ bs) ++ cs ≡ as_ ++ (bs ++ cs)
    turns [] bs cs = refl
    turns (x ∷ as_) bs cs = λ v. x ∷ turns as_ bs cs v

module _ (P : Key → Type 0) (text : List ℕ) (tokens : List Token) (comments : List Comment) (unused : List Span) where
  -- so is each of these specs
  abbrev pub EachSpec : {S : Type 0} → List (ImportSpec S) → Type 0
  EachSpec [] = Unit {0}
  EachSpec (s ∷ ss) = P (import_key s) × EachSpec ss

  -- so is each of these that stays
  abbrev pub EachLeft : List (ImportSpec Span) → Type 0
  EachLeft [] = Unit {0}
  EachLeft (s ∷ ss) = (goes text tokens comments unused s ≡ false → P (import_key s)) × EachLeft ss

  -- so is each import that comes
  abbrev pub EachNew : List NewImport → Type 0
  EachNew [] = Unit {0}
  EachNew (i ∷ is) = P (new_key i) × EachNew is

  both_specs : {S : Type 0} (xs ys : List (ImportSpec S)) → EachSpec xs → EachSpec ys → EachSpec (xs ++ ys)
  both_specs [] ys h k = k
  both_specs (x ∷ xs) ys h k = (h.0, both_specs xs ys h.1 k)

  both_decls : {S : Type 0} (xs ys : List (ImportDecl S)) → EachSpec (specs_in xs) → EachSpec (specs_in ys) → EachSpec (specs_in (xs ++ ys))
  both_decls {S = S} xs ys h k = subst (λ (ss : List (ImportSpec S)). EachSpec ss) (sym (specs_both xs ys)) (both_specs (specs_in xs) (specs_in ys) h k)

  left_front : (xs ys : List (ImportSpec Span)) → EachLeft (xs ++ ys) → EachLeft xs
  left_front [] ys h = tt
  left_front (x ∷ xs) ys h = (h.0, left_front xs ys h.1)

  left_back : (xs ys : List (ImportSpec Span)) → EachLeft (xs ++ ys) → EachLeft ys
  left_back [] ys h = h
  left_back (x ∷ xs) ys h = left_back xs ys h.1

  of_specs : (ss : List (ImportSpec Span)) → EachLeft ss → EachSpec (left_specs text tokens comments unused ss)
  of_specs [] h = tt
  of_specs (s ∷ ss) h = by (goes text tokens comments unused s) h.0 (of_specs ss h.1)
    where
      by : (b : Bool) → (b ≡ false → P (import_key s)) → EachSpec (left_specs text tokens comments unused ss) → EachSpec (if b then left_specs text tokens comments unused ss else bare_import_spec s ∷ left_specs text tokens comments unused ss)
      by true k r = r
      by false k r = (subst P (sym (key-bare s)) (k refl), r)

  of_single : (ss : List (ImportSpec (Unit {0}))) → EachSpec ss → EachSpec (specs_in (left_single text tokens comments unused ss))
  of_single [] h = tt
  of_single (s ∷ ss) h = subst (λ (xs : List (ImportSpec (Unit {0}))). EachSpec xs) (sym (append_none (s ∷ ss))) h

  of_decl : (d : ImportDecl Span) → EachLeft d.specs → EachSpec (specs_in (left_decl text tokens comments unused d))
  of_decl d h = by (goes_whole text tokens comments unused false d) d.grouped
    where
      by : (b g : Bool)
          → EachSpec (specs_in (if b then [] else (if g then record { span = tt; grouped = true; specs = left_specs text tokens comments unused d.specs } ∷ [] else left_single text tokens comments unused (left_specs text tokens comments unused d.specs))))
      by true g = tt
      by false true = subst (λ (xs : List (ImportSpec (Unit {0}))). EachSpec xs) (sym (append_none (left_specs text tokens comments unused d.specs))) (of_specs d.specs h)
      by false false = of_single (left_specs text tokens comments unused d.specs) (of_specs d.specs h)

  of_decls : (ds : List (ImportDecl Span)) → EachLeft (specs_in ds) → EachSpec (specs_in (left_decls text tokens comments unused ds))
  of_decls [] h = tt
  of_decls (d ∷ ds) h = both_decls (left_decl text tokens comments unused d) (left_decls text tokens comments unused ds) (of_decl d (left_front d.specs (specs_in ds) h)) (of_decls ds (left_back d.specs (specs_in ds) h))

  of_added : (is : List NewImport) → EachNew is → EachSpec (map added_spec is)
  of_added [] h = tt
  of_added (i ∷ is) h = (subst P (sym (key-added i)) h.0, of_added is h.1)

  of_added_decls : (is : List NewImport) → EachNew is → EachSpec (specs_in (added_decls is))
  of_added_decls [] h = tt
  of_added_decls (i ∷ is) h = (subst P (sym (key-added i)) h.0, of_added_decls is h.1)

  of_grown : (is : List NewImport) (ds : List (ImportDecl Span)) → EachLeft (specs_in ds) → EachNew is → EachSpec (specs_in (grown_decls text tokens comments unused is ds))
  of_grown is [] h k = tt
  of_grown is (d ∷ []) h k =
      subst (λ (xs : List (ImportSpec (Unit {0}))). EachSpec xs) (sym (append_none (left_specs text tokens comments unused d.specs ++ map added_spec is)))
      (both_specs (left_specs text tokens comments unused d.specs) (map added_spec is) (of_specs d.specs (left_front d.specs [] h)) (of_added is k))
  of_grown is (d ∷ e ∷ ds) h k = both_decls (left_decl text tokens comments unused d) (grown_decls text tokens comments unused is (e ∷ ds)) (of_decl d (left_front d.specs (specs_in (e ∷ ds)) h)) (of_grown is (e ∷ ds) (left_back d.specs (specs_in (e ∷ ds)) h) k)

  of_both : (is : List NewImport) (ds : List (ImportDecl Span)) → EachLeft (specs_in ds) → EachNew is → EachSpec (specs_in (with_added text tokens comments unused is ds))
  of_both is ds h k = by (adds_to_group text ds)
    where
      by : (b : Bool) → EachSpec (specs_in (if b then grown_decls text tokens comments unused is ds else added_decls is ++ left_decls text tokens comments unused ds))
      by true = of_grown is ds h k
      by false = both_decls (added_decls is) (left_decls text tokens comments unused ds) (of_added_decls is k) (of_decls ds h)

  of_put : (j : NewImport) (is : List NewImport) → P (new_key j) → EachNew is → EachNew (put j is)
  of_put j [] h k = (h, tt)
  of_put j (i ∷ is) h k = by (is_before j i) (of_put j is h k.1)
    where
      by : (b : Bool) → EachNew (put j is) → EachNew (if b then j ∷ i ∷ is else i ∷ put j is)
      by true r = (h, k)
      by false r = (k.0, r)

  of_order : (is : List NewImport) → EachNew is → EachNew (in_order is)
  of_order [] k = tt
  of_order (i ∷ is) k = of_put i (in_order is) k.0 (of_order is k.1)

  pub of_settled : (is : List NewImport) (ds : List (ImportDecl Span)) → EachLeft (specs_in ds) → EachNew is → EachSpec (specs_in (settled_decls text tokens comments unused is ds))
  of_settled [] ds h k = of_decls ds h
  of_settled (i ∷ is) ds h k = of_both (in_order (i ∷ is)) ds h (of_order (i ∷ is) k)
