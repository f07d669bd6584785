-- With a literal in the place of its call, the packages without the imports that the step removes declare the same, are typed alike, and have the same code: no import that goes has the name of what the file uses.
use Rattle.std.proofs.Common.{◌≡◌, ◌∙◌, refl, sym, subst, ◌⊎◌, inl, inr, ℕ, zero, suc, ◌+◌, Bool, true, false, not, List, [], ◌∷◌, map, Some, arith}
use Rattle.std.specs.Prelude.{slice_get}
use Rattle.std.proofs.lemmas.Option.{same_Some}
use Rattle.go_tree.specs.declared.spans.Span.{Span}
use Rattle.go_tree.specs.File.{ImportSpec, Decl}
use Rattle.go_tree.specs.ScopeNames.Means.{is_blank}
use Rattle.go_tree.specs.Tree.{Expr}
use Rattle.go_tree.specs.GoTypes.Programs.{Import, SourceFile, block_names}
use Rattle.go_translation.specs.Packages as translated
use Rattle.go_translation.specs.Packages.{are_well_typed}
use Rattle.typed_in_place.specs.ImportRule.{imports_sound}
use Rattle.typed_in_place.specs.ProgramsAlike.{OneByOne, no_more, and_more}
use Rattle.typed_in_place.proofs.OneByOne.{each_one}
use Rattle.typed_in_place.proofs.Rising.{and_first, and_second}
use Rattle.pkg_graph.specs.Members.{import_name}
use Rattle.pkg_graph.specs.Package.{import_specs}
use Rattle.order_runs.specs.ImportCodes.PackagesMoved.{imported_as}
use Rattle.put_nodes.specs.Swapped.{FormedDecl}
use Rattle.run_rules.specs.Programs.{linked_import, linked_file}
use Rattle.run_rules.specs.Respanned.{decl_with}
use Rattle.run_rules.specs.Sites.{part_span}
use Rattle.run_rules.specs.Steps.{change_nth, is_import_used}
use Rattle.constant_steps.specs.StepLaws.DeclStands.{decl_changed}
use Rattle.constant_steps.specs.StepLaws.SwapPrograms.{put_decl, package_put}
use Rattle.constant_steps.proofs.AfterStep.{nth_changed}
use Rattle.constant_steps.proofs.MarksFound.{nth_mapped}
use Rattle.constant_modules.specs.KeyedImports.Keyed.{IsFree, FileKeyed, PackageKeyed, PackagesKeyed, decl_marked}
use Rattle.constant_modules.specs.NamesAndKeys.Marked.{used_name, Within}
use Rattle.literals_in_place.specs.TypedSteps.Uses.{UseInBody, with_literal}
use Rattle.literal_imports.specs.Steps.{goes, imports_left, with_imports, settled, SettlingStep}
use Rattle.literal_imports.proofs.Between.{file_is, now, there, file_there, used_now, stands_now, itself_now, means_still}
use Rattle.literal_imports.proofs.Counted.{marked_used, used_means}
use Rattle.literal_imports.proofs.ImportsLeft.{Gone, same_or_gone}
use Rattle.literal_imports.proofs.ImportsNamed.{Means, is_spelled}
use Rattle.literal_imports.proofs.ImportsRight.{sound_member}
use Rattle.literal_imports.proofs.Kept.{declared_now, own_before}

clash : (b : Bool) → b ≡ true → b ≡ false → ⊥
clash true p q = cc
clash false p q = cc

negated : (b : Bool) → not b ≡ true → b ≡ false
negated true e = let no : false ≡ true = e in absurd cc
negated false e = refl

-- ---- packages of which one changes

module _ {S : Type 0} where
  file_itself : (held : List (List ℕ)) (f : SourceFile S) → FileKeyed held f f
  file_itself held f = record { decls = refl; used = λ k d e n i. refl; keys = λ k d e n i. inl refl }

  package_itself : (p : translated.Package S) → PackageKeyed p p
  package_itself p = record { path = refl; number = refl; name = refl; files = each_one (file_itself (block_names p.source.files)) p.source.files }

  pub file_keyed : (held : List (List ℕ)) (is : List (Import S)) (m : ℕ) (fs : List (SourceFile S)) (f : SourceFile S) → slice_get fs m ≡ Some f → FileKeyed held f (record f { imports = is }) → OneByOne (FileKeyed held) fs (change_nth m (λ (f : SourceFile S). record f { imports = is }) fs)
  file_keyed held is m [] f e k = no_more
  file_keyed held is zero (g ∷ fs) f e k = and_more (subst (λ (v : SourceFile S). FileKeyed held v (record v { imports = is })) (sym (same_Some g f e)) k) (each_one (file_itself held) fs)
  file_keyed held is (suc m) (g ∷ fs) f e k = and_more (file_itself held g) (file_keyed held is m fs f e k)

  pub package_keyed : (m : ℕ) (is : List (Import S)) (k : ℕ) (ps : List (translated.Package S)) (p : translated.Package S) → slice_get ps k ≡ Some p → PackageKeyed p (with_imports m is p) → PackagesKeyed ps (change_nth k (with_imports m is) ps)
  package_keyed m is k [] p e h = no_more
  package_keyed m is zero (q ∷ ps) p e h = and_more (subst (λ (v : translated.Package S). PackageKeyed v (with_imports m is v)) (sym (same_Some q p e)) h) (each_one package_itself ps)
  package_keyed m is (suc k) (q ∷ ps) p e h = and_more (package_itself q) (package_keyed m is k ps p e h)

module _ (x : UseInBody Span) (e : Expr Span) (s : SettlingStep x e) (t : are_well_typed x.members ≡ true) where
  abbrev specs : List (ImportSpec Span)
  specs = import_specs x.site.at.source.tree

  abbrev pub put : Decl Span → Decl Span
  put = put_decl x.same x.packages (part_span x.site.part) e x.site.at.number x.site.at.of x.site.at.source.tree

  -- each declaration of the file is formed
  pub formed_now : (i : ℕ) (d : Decl Span) → slice_get (there x e s.form_is).source.tree.decls i ≡ Some d → FormedDecl (decl_with (λ (z : Span). z) d)
  formed_now i d q = s.formed i d ((λ v. slice_get (file_is x e s.form_is v).decls i) ∙ q)

  -- ---- an import that goes

  module _ (j : ℕ) (y : ImportSpec Span) (g : slice_get specs j ≡ Some y) (h : goes x (j, y) ≡ true) where
    was_used : is_import_used x.packages x.site.at x.site.at.source.tree.decls j ≡ true
    was_used = and_first (is_import_used x.packages x.site.at x.site.at.source.tree.decls j) _ h

    not_used : is_import_used (now x e s.form_is) (there x e s.form_is) (there x e s.form_is).source.tree.decls j ≡ false
    not_used = sym (used_now x e s.form_is j) ∙ negated _ (and_second (is_import_used x.packages x.site.at x.site.at.source.tree.decls j) _ h)

    it_meant : Means x.packages x.site.at j (import_name x.packages y)
    it_meant = used_means x.packages x.site.at j was_used y g

    spelled : is_blank (import_name x.packages y) ≡ false
    spelled = is_spelled x.packages x.site.at j (import_name x.packages y) it_meant

    -- no declaration uses its name
    none_uses : (k : ℕ) (d : Decl Span) → slice_get (there x e s.form_is).source.tree.decls k ≡ Some d → Within (used_name (import_name x.packages y)) (decl_marked d) → ⊥
    none_uses k d q i =
        clash (is_import_used (now x e s.form_is) (there x e s.form_is) (there x e s.form_is).source.tree.decls j)
        (marked_used (now x e s.form_is) (there x e s.form_is) x.stands.named_at x.stands.nth (stands_now x e s.form_is) (itself_now x e s.form_is (own_before x e s.form_is t)) (declared_now x e s.form_is) (file_there x e s.form_is) (λ (z : Span). z) k d q
        (formed_now k d q) (import_name x.packages y) j (means_still x e s.form_is j (import_name x.packages y) it_meant) i)
        not_used

  -- ---- the file

  abbrev file_put : SourceFile Span
  file_put = decl_changed put x.site.decl (linked_file x.packages x.site.at.source)

  plain : (a b : ℕ) → b ≡ 0 + a → b ≡ a
  plain a b i = omega (arith, i)

  at_its : (n : List ℕ) → Gone x.packages (goes x) 0 specs n → (j : ℕ) × ((y : ImportSpec Span) × ((slice_get specs j ≡ Some y) × ((goes x (j, y) ≡ true) × (import_name x.packages y ≡ n))))
  at_its n g = (g.nth, (g.spec, (g.there, (subst (λ (i : ℕ). goes x (i, g.spec) ≡ true) (plain g.nth g.number g.number_is) g.goes, g.named))))

  module _ (members : List (List ℕ)) (sound : imports_sound members [] (map (linked_import x.packages) specs) ≡ true) where
    used_same : (k : ℕ) (d : Decl Span) → slice_get file_put.decls k ≡ Some d → (n : List ℕ) → Within (used_name n) (decl_marked d) → imported_as (imports_left x) n ≡ imported_as (map (linked_import x.packages) specs) n
    used_same k d q n i = by (same_or_gone x.packages (goes x) 0 specs n)
      where
        by : (imported_as (imports_left x) n ≡ imported_as (map (linked_import x.packages) specs) n) ⊎ Gone x.packages (goes x) 0 specs n → imported_as (imports_left x) n ≡ imported_as (map (linked_import x.packages) specs) n
        by (inl r) = r
        by (inr g) =
            let a = at_its n g in
            absurd (none_uses a.0 a.1.0 a.1.1.0 a.1.1.1.0 k d q (subst (λ (m : List ℕ). Within (used_name m) (decl_marked d)) (sym a.1.1.1.1) i))

    keys_same : (n : List ℕ) → (imported_as (imports_left x) n ≡ imported_as (map (linked_import x.packages) specs) n) ⊎ IsFree members n
    keys_same n = by (same_or_gone x.packages (goes x) 0 specs n)
      where
        by : (imported_as (imports_left x) n ≡ imported_as (map (linked_import x.packages) specs) n) ⊎ Gone x.packages (goes x) 0 specs n → (imported_as (imports_left x) n ≡ imported_as (map (linked_import x.packages) specs) n) ⊎ IsFree members n
        by (inl r) = inl r
        by (inr g) =
            let a = at_its n g in
            inr
            (subst (λ (m : List ℕ). IsFree members m) a.1.1.1.1
            (sound_member members [] (map (linked_import x.packages) specs) sound a.0 (linked_import x.packages a.1.0) (nth_mapped (linked_import x.packages) specs a.0 a.1.0 a.1.1.0) (spelled a.0 a.1.0 a.1.1.0 a.1.1.1.0), s.no_value_goes a.0 a.1.0 a.1.1.0 a.1.1.1.0))

    left_keyed : FileKeyed members file_put (record file_put { imports = imports_left x })
    left_keyed = record { decls = refl; used = used_same; keys = λ k d q n i. keys_same n }

  -- ---- the packages

  pub file_before : slice_get x.stands.of.source.files x.site.at.file_number ≡ Some (linked_file x.packages x.site.at.source)
  file_before = (λ v. slice_get (x.stands.source_is v).files x.site.at.file_number) ∙ nth_mapped (linked_file x.packages) x.site.at.of.files x.site.at.file_number x.site.at.source x.stands.file_there

  abbrev pub package_after : translated.Package Span
  package_after = package_put x.same x.packages (part_span x.site.part) e x.site.at.number x.site.at.of x.site.at.source.tree x.site.at.file_number x.site.decl x.stands.of

  pub file_after : slice_get package_after.source.files x.site.at.file_number ≡ Some file_put
  file_after = nth_changed (decl_changed put x.site.decl) x.site.at.file_number x.stands.of.source.files (linked_file x.packages x.site.at.source) file_before

  pub is_after : slice_get (with_literal x e) x.stands.nth ≡ Some package_after
  is_after = nth_changed (package_put x.same x.packages (part_span x.site.part) e x.site.at.number x.site.at.of x.site.at.source.tree x.site.at.file_number x.site.decl) x.stands.nth x.members x.stands.of x.stands.is_nth

  pub left_packages : imports_sound (block_names package_after.source.files) [] (map (linked_import x.packages) specs) ≡ true → PackagesKeyed (with_literal x e) (settled x e)
  left_packages sound =
      package_keyed x.site.at.file_number (imports_left x) x.stands.nth (with_literal x e) package_after is_after
      (record {
        path = refl;
        number = refl;
        name = refl;
        files = file_keyed (block_names package_after.source.files) (imports_left x) x.site.at.file_number package_after.source.files file_put file_after (left_keyed (block_names package_after.source.files) sound);
      })
