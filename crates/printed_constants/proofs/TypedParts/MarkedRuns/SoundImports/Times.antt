-- How often a name is that of an import of a settled file: no more than of those that were there and those that came.
use Rattle.std.proofs.Common.{◌≡◌, refl, sym, ◌∙◌, ap, ℕ, ◌+◌, ◌≤◌, Bool, true, false, List, [], ◌∷◌, ◌++◌, map, if◌then◌else◌, arith}
use Rattle.std.specs.Prelude.{bytes_eq}
use Rattle.go_tree.specs.declared.spans.Span.{Span}
use Rattle.go_tree.specs.declared.tokens.Token.{Token}
use Rattle.go_tree.specs.declared.tokens.Comment.{Comment}
use Rattle.go_tree.specs.File.{ImportSpec, ImportDecl}
use Rattle.go_tree.specs.FileBare.{bare_import_spec}
use Rattle.run_rules.specs.declared.import_rules.new_import.NewImport.{NewImport}
use Rattle.run_rules.specs.ImportRules.SpecText.{is_before, put, in_order}
use Rattle.run_rules.specs.ImportRules.Removed.{goes, goes_whole}
use Rattle.run_rules.specs.ImportRules.Added.{adds_to_group}
use Rattle.splice_laws.specs.ImportSplices.AddedFile.{added_spec, added_decls}
use Rattle.splice_laws.specs.ImportSplices.SettledFile.{left_specs, left_single, left_decl, left_decls, grown_decls, with_added, settled_decls}
use Rattle.pkg_graph.specs.Package.{Package, specs_in}
use Rattle.order_runs.specs.CycleRuns.StepCycles.PackagesAlike.{import_key}
use Rattle.order_runs.proofs.CycleRuns.KeptImports.Keys.{Key, new_key, key-bare, keys-both, key-added, key_name}

append-none : {A : Type 0} (xs : List A) → xs ++ [] ≡ xs
append-none [] = refl
append-none (x ∷ xs) = λ v. x ∷ append-none xs v

pub specs-both : {S : Type 0} (xs ys : List (ImportDecl S)) → specs_in (xs ++ ys) ≡ specs_in xs ++ specs_in ys
specs-both [] ys = refl
specs-both (d ∷ xs) ys = (λ z. d.specs ++ specs-both xs ys z) ∙ sym (turns d.specs (specs_in xs) (specs_in ys))
  where
    turns : {A : Type 0} (as_ bs cs : List A) → (as_ ++ bs) ++ cs ≡ as_ ++ (bs ++ cs)
    turns [] bs cs = refl
    turns (x ∷ as_) bs cs = λ v. x ∷ turns as_ bs cs v

keys-added : (is : List NewImport) → map import_key (map added_spec is) ≡ map new_key is
keys-added [] = refl
keys-added (i ∷ is) = λ z. key-added i z ∷ keys-added is z

specs-added : (is : List NewImport) → specs_in (added_decls is) ≡ map added_spec is
specs-added [] = refl
specs-added (i ∷ is) = λ z. added_spec i ∷ specs-added is z

module _ {S : Type 0} (ps : List (Package S)) (m : List ℕ) where
  abbrev pub once : Key → ℕ
  once k = if bytes_eq m (key_name ps k) then 1 else 0

  abbrev pub times : List Key → ℕ
  times [] = 0
  times (k ∷ ks) = once k + times ks

  pub times-both : (xs ys : List Key) → times (xs ++ ys) ≡ times xs + times ys
  times-both [] ys = omega arith
  times-both (x ∷ xs) ys = let r = times-both xs ys in omega (arith, r)

  pub times-specs : {T : Type 0} (xs ys : List (ImportDecl T)) → times (map import_key (specs_in (xs ++ ys))) ≡ times (map import_key (specs_in xs)) + times (map import_key (specs_in ys))
  times-specs xs ys =
      (λ z. times (map import_key (specs-both xs ys z))) ∙ (λ z. times (keys-both (specs_in xs) (specs_in ys) z))
      ∙ times-both (map import_key (specs_in xs)) (map import_key (specs_in ys))

  module _ (text : List ℕ) (tokens : List Token) (comments : List Comment) (unused : List Span) where
    abbrev Left : List (ImportSpec Span) → Type 0
    Left ss = times (map import_key (left_specs text tokens comments unused ss)) ≤ times (map import_key ss)

    specs-left : (ss : List (ImportSpec Span)) → Left ss
    specs-left [] = omega arith
    specs-left (s ∷ ss) = by (goes text tokens comments unused s) (specs-left ss)
      where
        by : (b : Bool) → Left ss → times (map import_key (if b then left_specs text tokens comments unused ss else bare_import_spec s ∷ left_specs text tokens comments unused ss)) ≤ once (import_key s) + times (map import_key ss)
        by true r = omega (arith, r)
        by false r = let e : once (import_key (bare_import_spec s)) ≡ once (import_key s) = λ z. once (key-bare s z) in omega (arith, r, e)

    single-left : (ss : List (ImportSpec (Unit {0}))) → specs_in (left_single text tokens comments unused ss) ≡ ss
    single-left [] = refl
    single-left (s ∷ ss) = append-none (s ∷ ss)

    decl-left : (d : ImportDecl Span) → times (map import_key (specs_in (left_decl text tokens comments unused d))) ≤ times (map import_key d.specs)
    decl-left d = by (goes_whole text tokens comments unused false d)
      where
        of : (g : Bool) → specs_in (if g then record { span = tt; grouped = true; specs = left_specs text tokens comments unused d.specs } ∷ [] else left_single text tokens comments unused (left_specs text tokens comments unused d.specs))
            ≡ left_specs text tokens comments unused d.specs
        of true = append-none (left_specs text tokens comments unused d.specs)
        of false = single-left (left_specs text tokens comments unused d.specs)

        by : (b : Bool)
            → times (map import_key (specs_in (if b then [] else (if d.grouped then record { span = tt; grouped = true; specs = left_specs text tokens comments unused d.specs } ∷ [] else left_single text tokens comments unused (left_specs text tokens comments unused d.specs)))))
            ≤ times (map import_key d.specs)
        by true = omega arith
        by false = let e = ap (λ (ss : List (ImportSpec (Unit {0}))). times (map import_key ss)) (of d.grouped) in let r = specs-left d.specs in omega (arith, e, r)

    whole : (d : ImportDecl Span) (ds : List (ImportDecl Span)) → times (map import_key (specs_in (d ∷ ds))) ≡ times (map import_key d.specs) + times (map import_key (specs_in ds))
    whole d ds = (λ z. times (keys-both d.specs (specs_in ds) z)) ∙ times-both (map import_key d.specs) (map import_key (specs_in ds))

    decls-left : (ds : List (ImportDecl Span)) → times (map import_key (specs_in (left_decls text tokens comments unused ds))) ≤ times (map import_key (specs_in ds))
    decls-left [] = omega arith
    decls-left (d ∷ ds) =
        let a = times-specs (left_decl text tokens comments unused d) (left_decls text tokens comments unused ds) in
        let b = whole d ds in
        let r = decls-left ds in
        let s = decl-left d in omega (arith, a, b, r, s)

    decls-grown : (added : List NewImport) (ds : List (ImportDecl Span)) → times (map import_key (specs_in (grown_decls text tokens comments unused added ds))) ≤ times (map import_key (specs_in ds)) + times (map new_key added)
    decls-grown added [] = omega arith
    decls-grown added (d ∷ []) =
        let a = ap (λ (ss : List (ImportSpec (Unit {0}))). times (map import_key ss)) (append-none (left_specs text tokens comments unused d.specs ++ map added_spec added)) in
        let b = (λ z. times (keys-both (left_specs text tokens comments unused d.specs) (map added_spec added) z)) ∙ times-both (map import_key (left_specs text tokens comments unused d.specs)) (map import_key (map added_spec added)) in
        let c = ap times (keys-added added) in
        let e = whole d [] in
        let r = specs-left d.specs in omega (arith, a, b, c, e, r)
    decls-grown added (d ∷ e ∷ ds) =
        let a = times-specs (left_decl text tokens comments unused d) (grown_decls text tokens comments unused added (e ∷ ds)) in
        let b = whole d (e ∷ ds) in
        let r = decls-grown added (e ∷ ds) in
        let s = decl-left d in omega (arith, a, b, r, s)

    decls-with : (added : List NewImport) (ds : List (ImportDecl Span)) → times (map import_key (specs_in (with_added text tokens comments unused added ds))) ≤ times (map import_key (specs_in ds)) + times (map new_key added)
    decls-with added ds = by (adds_to_group text ds)
      where
        by : (b : Bool) → times (map import_key (specs_in (if b then grown_decls text tokens comments unused added ds else added_decls added ++ left_decls text tokens comments unused ds))) ≤ times (map import_key (specs_in ds)) + times (map new_key added)
        by true = decls-grown added ds
        by false =
            let a = times-specs (added_decls added) (left_decls text tokens comments unused ds) in
            let b = ap times (ap (map import_key) (specs-added added) ∙ keys-added added) in
            let r = decls-left ds in omega (arith, a, b, r)

    put-times : (j : NewImport) (is : List NewImport) → times (map new_key (put j is)) ≡ once (new_key j) + times (map new_key is)
    put-times j [] = refl
    put-times j (k ∷ ks) = by (is_before j k) (put-times j ks)
      where
        by : (b : Bool) → times (map new_key (put j ks)) ≡ once (new_key j) + times (map new_key ks) → times (map new_key (if b then j ∷ k ∷ ks else k ∷ put j ks)) ≡ once (new_key j) + (once (new_key k) + times (map new_key ks))
        by true r = refl
        by false r = omega (arith, r)

    order-times : (is : List NewImport) → times (map new_key (in_order is)) ≡ times (map new_key is)
    order-times [] = refl
    order-times (i ∷ is) = let a = put-times i (in_order is) in let r = order-times is in omega (arith, a, r)

    pub settled-times : (added : List NewImport) (ds : List (ImportDecl Span)) → times (map import_key (specs_in (settled_decls text tokens comments unused added ds))) ≤ times (map import_key (specs_in ds)) + times (map new_key added)
    settled-times [] ds = let r = decls-left ds in omega (arith, r)
    settled-times (i ∷ is) ds = let a = decls-with (in_order (i ∷ is)) ds in let b = order-times (i ∷ is) in omega (arith, a, b)
