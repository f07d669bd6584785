-- A step over a constant keeps what names and keys mean in the file as it is read again: an import that goes is used no more,
-- and a name that is used would use it.
use Rattle.std.proofs.Common.{◌≡◌, ◌∙◌, refl, sym, ap, subst, ◌⊎◌, inl, inr, ℕ, zero, suc, Bool, true, false, not, ◌||◌, List, [], ◌∷◌, ◌++◌, map, Option, Some, None}
use Rattle.std.specs.Prelude.{bytes_eq, slice_get}
use Rattle.std.specs.List.{list_any}
use Rattle.std.proofs.lemmas.Option.{same_Some}
use Rattle.std.proofs.lemmas.Slice.Eq.{bytes_eq-Decides}
use Rattle.go_tree.specs.declared.spans.Span.{Span}
use Rattle.go_tree.specs.File.{ImportSpec, ImportDecl, Decl, File}
use Rattle.go_tree.specs.GoTypes.Answers.{given, is_among}
use Rattle.go_tree.specs.GoTypes.Entities.{universe}
use Rattle.go_tree.specs.GoTypes.Programs.{import_sound, is_init}
use Rattle.go_tree.specs.ScopeNames.Means.{means, is_blank}
use Rattle.go_translation.specs.Packages.{are_well_typed}
use Rattle.pkg_graph.specs.Package.{Package, specs_in, import_specs}
use Rattle.pkg_graph.specs.Members.{import_name}
use Rattle.constant_steps.specs.FormImports.ImportLaws.Steps.{used_after, removed_specs}
use Rattle.order_runs.specs.CycleRuns.ImportCycles.ImportSteps.{file_added, packages_added}
use Rattle.order_runs.specs.CycleRuns.ImportCycles.OtherImports.{import_path}
use Rattle.order_runs.specs.CycleRuns.KeptImports.Files.{IsSettled, RemovesNoneNamed}
use Rattle.order_runs.specs.CycleRuns.OrderCycles.NewNames.{NamesByPath, AvoidsFew}
use Rattle.order_runs.specs.CycleRuns.StepCycles.PackagesAlike.{import_key}
use Rattle.order_runs.specs.RunSteps.RunPackages.{members_of}
use Rattle.order_runs.proofs.CycleRuns.KeptImports.Fresh.{step-apart, step-differ}
use Rattle.order_runs.proofs.CycleRuns.KeptImports.Keys.{Key, new_key, keys-both, keys-bare, key-with, keys-with, key-for, key_name, path_by, name-by, path-by, Apart}
use Rattle.order_runs.proofs.CycleRuns.KeptImports.Settled.{NoneGoes, path-settled}
use Rattle.order_runs.proofs.CycleRuns.Runs.{linked-names, written-so}
use Rattle.order_runs.proofs.RunSteps.SeatedUses.{Among}
use Rattle.printed_constants.proofs.RemovedImports.Imports.{any_true, nth_among}
use Rattle.printed_constants.proofs.RemovedImports.Removed.{specs-of-both}
use Rattle.printed_constants.proofs.Steps.{mapped_nth, nth_mapped}
use Rattle.put_nodes.specs.Swapped.{FormedDecl}
use Rattle.put_nodes.proofs.ReadFiles.{decl_formed}
use Rattle.run_rules.specs.declared.import_rules.new_import.NewImport.{NewImport}
use Rattle.run_rules.specs.ImportRules.Removed.{same_span}
use Rattle.run_rules.specs.Laws.{file_found}
use Rattle.run_rules.specs.Naming.{imports_added}
use Rattle.run_rules.specs.Programs.{linked_import, top_env, decl_seen}
use Rattle.run_rules.specs.Respanned.{import_spec_with, import_decl_with, decl_with, decls_with}
use Rattle.run_rules.specs.Run.{Standing, Logged, Next, here_of, origin_of}
use Rattle.run_rules.specs.Sites.{MarkRef, Where, imported_by, outer}
use Rattle.run_rules.specs.Steps.{At, same_here, means_import, uses_import, added_decls, spec_for, new_decls}
use Rattle.run_rules.specs.Surroundings.{Seen}
use Rattle.splice_laws.specs.ImportSplices.SettledFile.{settled_decls}
use Rattle.splice_laws.specs.RunLaws.Reading.{ProgramReads}
use Rattle.typed_in_place.specs.ImportRule.{imports_sound}
use Rattle.typed_in_place.proofs.Rising.{and_first, and_second}
use Rattle.constant_modules.specs.KeyedImports.Keyed.{decl_marked, means_value, IsFree}
use Rattle.constant_modules.specs.KeyedImports.StepLaws.{StepsKeepUses}
use Rattle.constant_modules.specs.KeyedImports.Steps.{members_added, KeepsUses, RemovesNoValueKey}
use Rattle.constant_modules.specs.NamedAnywhere.Puts.{PutsNameThere}
use Rattle.constant_modules.specs.NamesAndKeys.Marked as marked
use Rattle.constant_modules.specs.NamesAndKeys.Marked.{used_name, Within}
use Rattle.constant_modules.specs.NamesAndKeys.UsedStand.{Counted}
use Rattle.constant_modules.proofs.ApartKeys.Formed.{formed_on}
use Rattle.constant_modules.proofs.CountedUses.Between.{qs, v, declared_between, distinct_between, ordered_between, file_there}
use Rattle.constant_modules.proofs.CountedUses.Imports.{linked_distinct}
use Rattle.constant_modules.proofs.CountedUses.Literals.{each_named}
use Rattle.constant_modules.proofs.CountedUses.Named.{is_spelled}
use Rattle.constant_modules.proofs.CountedUses.Programs.{file_is_typed, file_parts_typed}
use Rattle.constant_modules.proofs.KeptUses.Specs.{nth_front}
use Rattle.constant_modules.proofs.KeyedImports.Bare.{marked-with}
use Rattle.constant_modules.proofs.KeyedImports.StandDecls.{marked-stands}
use Rattle.constant_modules.proofs.LookUps.Removed.{name_added, unused, it_means, meant_it, stands_uses}
use Rattle.constant_modules.proofs.NamesAndKeys.NotAlone.{one_known, not_alone}
use Rattle.constant_modules.proofs.TypedUses.Decls.{typed_known}

clash : (b : Bool) → b ≡ false → b ≡ true → ⊥
clash true p q = cc
clash false p q = cc

append-none : {A : Type 0} (xs : List A) → xs ++ [] ≡ xs
append-none [] = refl
append-none (x ∷ xs) = λ v. x ∷ append-none xs v

keys-for : (z : At) (is : List NewImport) → map import_key (specs_in (added_decls z is)) ≡ map new_key is
keys-for z [] = refl
keys-for z (i ∷ is) = ap (map import_key) (append-none (map (spec_for z) (i ∷ is))) ∙ each (i ∷ is)
  where
    each : (js : List NewImport) → map import_key (map (spec_for z) js) ≡ map new_key js
    each [] = refl
    each (j ∷ js) = λ v. key-for z j v ∷ each js v

-- an import that may be declared has no name of the package block
module _ (ps : List (Package At)) (members : List (List ℕ)) where
  sound_member : (x : List ℕ) (before : List (List ℕ)) → (is_blank x || not (is_among x before || (is_among x members || is_init x))) ≡ true → is_blank x ≡ false → is_among x members ≡ false
  sound_member x before h b = by (is_blank x) (is_among x before) (is_among x members) h b
    where
      by : (c t u : Bool) → (c || not (t || (u || is_init x))) ≡ true → c ≡ false → u ≡ false
      by true t u h b = absurd cc
      by false true u h b = absurd cc
      by false false true h b = absurd cc
      by false false false h b = refl

  no_member : (before : List (List ℕ)) (ss : List (ImportSpec At)) → imports_sound members before (map (linked_import ps) ss) ≡ true → (j : ℕ) (s : ImportSpec At) → slice_get ss j ≡ Some s → is_blank (import_name ps s) ≡ false → is_among (import_name ps s) members ≡ false
  no_member before [] h j s e b = absurd cc
  no_member before (y ∷ ss) h zero s e b =
      subst (λ (z : ImportSpec At). is_blank (import_name ps z) ≡ false → is_among (import_name ps z) members ≡ false) (same_Some y s e)
      (sound_member (import_name ps y) before (and_first (import_sound members before (linked_import ps y)) (imports_sound members (import_name ps y ∷ before) (map (linked_import ps) ss)) h)) b
  no_member before (y ∷ ss) h (suc j) s e b =
      no_member (import_name ps y ∷ before) ss (and_second (import_sound members before (linked_import ps y)) (imports_sound members (import_name ps y ∷ before) (map (linked_import ps) ss)) h) j s e b

-- ---- a name that no import which goes has is that of the same import, or of none

module _ (marks : List MarkRef) (st : Standing) (l : Logged) (after : Standing) (n : Next marks st l after) (settled_so : IsSettled n) (few : AvoidsFew st.packages n.found) (paths : NamesByPath st.packages) where
  abbrev tree : File At
  tree = n.found.site.at.source.tree

  abbrev gone : List Span
  gone = removed_specs marks st n.found

  abbrev added : List NewImport
  added = imports_added n.found.named

  abbrev old-decls : List (ImportDecl Span)
  old-decls = (file_found n.found).imports

  abbrev mid : List (Package At)
  mid = packages_added st.packages n.found

  keys-after : map import_key (import_specs n.tree) ≡ map import_key (specs_in (settled_decls n.old.text n.old.tokens n.old.comments gone added old-decls))
  keys-after = sym (keys-bare n.tree.imports) ∙ ap (λ (ds : List (ImportDecl (Unit {0}))). map import_key (specs_in ds)) settled_so

  keys-old : map import_key (specs_in old-decls) ≡ map import_key (import_specs tree)
  keys-old = keys-with here_of tree.imports

  keys-between : map import_key (import_specs (file_added n.found)) ≡ map import_key (import_specs tree) ++ map new_key added
  keys-between =
      ap (map import_key) (specs-of-both tree.imports (added_decls n.found.range added))
      ∙ keys-both (import_specs tree) (specs_in (added_decls n.found.range added))
      ∙ ap (λ (ks : List Key). map import_key (import_specs tree) ++ ks) (keys-for n.found.range added)

  none-goes : (m : List ℕ) → RemovesNoneNamed n m → NoneGoes n.old.text n.old.tokens n.old.comments gone mid m (specs_in old-decls)
  none-goes m removes = subst (λ (ss : List (ImportSpec Span)). NoneGoes n.old.text n.old.tokens n.old.comments gone mid m ss) (sym (specs-with tree.imports)) (each (import_specs tree) removes)
    where
      map-both : (xs ys : List (ImportSpec At)) → map (import_spec_with here_of) (xs ++ ys) ≡ map (import_spec_with here_of) xs ++ map (import_spec_with here_of) ys
      map-both [] ys = refl
      map-both (x ∷ xs) ys = λ z. import_spec_with here_of x ∷ map-both xs ys z

      specs-with : (ds : List (ImportDecl At)) → specs_in (map (import_decl_with here_of) ds) ≡ map (import_spec_with here_of) (specs_in ds)
      specs-with [] = refl
      specs-with (d ∷ ds) = (λ z. map (import_spec_with here_of) d.specs ++ specs-with ds z) ∙ sym (map-both d.specs (specs_in ds))

      each : (ss : List (ImportSpec At))
          → ((j : ℕ) (s : ImportSpec At) → slice_get ss j ≡ Some s → list_any (same_span (here_of s.span)) gone ≡ true → import_name mid s ≡ m → ⊥)
          → NoneGoes n.old.text n.old.tokens n.old.comments gone mid m (map (import_spec_with here_of) ss)
      each [] h = tt
      each (s ∷ ss) h = (λ g. by g (bytes_eq (key_name mid (import_key (import_spec_with here_of s))) m) refl, each ss (λ j t f. h (suc j) t f))
        where
          by : list_any (same_span (here_of s.span)) gone ≡ true → (b : Bool) → bytes_eq (key_name mid (import_key (import_spec_with here_of s))) m ≡ b → bytes_eq (key_name mid (import_key (import_spec_with here_of s))) m ≡ false
          by g false f = f
          by g true f =
              absurd (h zero s refl g (name-by mid s ∙ ap (key_name mid) (sym (key-with here_of s)) ∙ (bytes_eq-Decides (key_name mid (import_key (import_spec_with here_of s))) m).0 f))

  name-kept : (m : List ℕ) → RemovesNoneNamed n m → import_path mid (import_specs n.tree) m ≡ import_path mid (import_specs (file_added n.found)) m
  name-kept m removes =
      path-by mid (import_specs n.tree) m
      ∙ ap (λ (ks : List Key). path_by mid ks m) keys-after
      ∙ path-settled n.old.text n.old.tokens n.old.comments gone mid m added old-decls (step-differ marks st l after n few paths)
      (subst (λ (ks : List Key). Apart mid (map new_key added) ks) (sym keys-old) (step-apart marks st l after n few paths))
      (none-goes m removes)
      ∙ ap (λ (ks : List Key). path_by mid (ks ++ map new_key added) m) keys-old
      ∙ ap (λ (ks : List Key). path_by mid ks m) (sym keys-between)
      ∙ sym (path-by mid (import_specs (file_added n.found)) m)

-- ---- names that are used, and keys

module _ (marks : List MarkRef) (st : Standing) (l : Logged) (after : Standing) (n : Next marks st l after) (reads : ProgramReads st) (typed : are_well_typed (members_of st.packages) ≡ true) (h : PutsNameThere n) where
  abbrev w : Where At
  w = n.found.site.at

  abbrev ds : List (Decl At)
  ds = new_decls same_here st.packages n.found.site n.found.form

  abbrev now : List (Package At)
  now = qs marks st l after n h typed

  abbrev u : Where At
  u = v marks st l after n h typed

  decls_are : decls_with origin_of n.tree.decls ≡ decls_with origin_of ds
  decls_are = λ z. (n.origins_are z).decls

  -- a declaration with the form in place is formed as it is read again
  formed_between : (i : ℕ) (d : Decl At) → slice_get ds i ≡ Some d → FormedDecl (decl_with origin_of d)
  formed_between i d e = subst (λ (y : Decl Span). FormedDecl y) r.2 (formed_on here_of origin_of r.0 (decl_formed here_of n.new n.tree (record { scans = n.scans; spells = n.spells }) i r.0 r.1))
    where
      r : (x : Decl At) × (slice_get n.tree.decls i ≡ Some x) × (decl_with origin_of x ≡ decl_with origin_of d)
      r = mapped_nth (decl_with origin_of) n.tree.decls i (decl_with origin_of d) ((λ z. slice_get (decls_are z) i) ∙ nth_mapped (decl_with origin_of) ds i d e)

  module _ (k : ℕ) (d : Decl At) (e : slice_get n.tree.decls k ≡ Some d) where
    twin : (x : Decl At) × (slice_get ds k ≡ Some x) × (decl_with origin_of x ≡ decl_with origin_of d)
    twin = mapped_nth (decl_with origin_of) ds k (decl_with origin_of d) (sym (λ z. slice_get (decls_are z) k) ∙ nth_mapped (decl_with origin_of) n.tree.decls k d e)

    abbrev parts_there : List (Seen At)
    parts_there = decl_seen now u.number u.of u.source.tree twin.0

    -- a name that is used stands at a part
    module _ (m : List ℕ) (i : Within (used_name m) (decl_marked d)) where
      its : (y : Seen At) × Among y parts_there × Counted m y
      its =
          marked-stands m now u.number u.of u.source.tree twin.0
          (each_named parts_there (file_parts_typed now (ordered_between marks st l after n h typed) (declared_between marks st l after n h typed) (linked_distinct now (distinct_between marks st l after n h typed)) u (file_there marks st l after n h typed).0 (file_there marks st l after n h typed).1 k twin.0 twin.1))
          (subst (λ ms. Within (used_name m) ms) (sym (marked-with origin_of d) ∙ (λ z. decl_marked (sym twin.2 z)) ∙ marked-with origin_of twin.0) i)

      used_removes : RemovesNoneNamed n m
      used_removes j s there listed its_name = by its.2
        where
          before : means_import j (given (means (outer st.packages w) m) imported_by) ≡ true
          before = subst (λ (q : List ℕ). means_import j (given (means (outer st.packages w) q) imported_by) ≡ true) (sym (name_added marks st l after n reads s) ∙ its_name) (meant_it marks st l after n reads j s there listed)

          means_it : means_import j (given (means (outer now u) m) imported_by) ≡ true
          means_it = it_means marks st l after n reads m j before

          by : Counted m its.0 → ⊥
          by (inl stands) =
              clash (used_after marks st n.found j) (unused marks st l after n reads j s there listed).1
              (any_true (λ (c : Decl At). list_any (uses_import now u j) (decl_seen now u.number u.of u.source.tree c)) (nth_among ds k twin.0 twin.1)
              (any_true (uses_import now u j) its.1 (stands_uses now u j m means_it its.0 stands)))
          by (inr alone) =
              not_alone now (ordered_between marks st l after n h typed) (declared_between marks st l after n h typed) (linked_distinct now (distinct_between marks st l after n h typed)) u (file_there marks st l after n h typed) m j means_it its.0
              (one_known (top_env now u.number u.of u.source.tree) parts_there
              (typed_known origin_of now u twin.0 (formed_between k twin.0 twin.1)
              (file_is_typed now (ordered_between marks st l after n h typed) (declared_between marks st l after n h typed) (linked_distinct now (distinct_between marks st l after n h typed)) u (file_there marks st l after n h typed).0 (file_there marks st l after n h typed).1 k twin.0 twin.1))
              its.0 its.1)
              alone

  module _ (few : AvoidsFew st.packages n.found) (paths : NamesByPath st.packages) (settled_so : IsSettled n) (none : RemovesNoValueKey n) where
    abbrev added_packages : List (Package At)
    added_packages = packages_added st.packages n.found

    abbrev members : List (List ℕ)
    members = members_added st.packages n.found

    abbrev came : List (ImportSpec At)
    came = specs_in (added_decls n.found.range (imports_added n.found.named))

    -- the import has no name of the package block
    apart_member : (j : ℕ) (s : ImportSpec At) → slice_get (import_specs w.source.tree) j ≡ Some s → is_blank (import_name added_packages s) ≡ false → is_among (import_name added_packages s) members ≡ false
    apart_member j s there b =
        no_member added_packages members [] (import_specs (file_added n.found)) h.file_sound j s
        ((λ z. slice_get (specs-of-both w.source.tree.imports (added_decls n.found.range (imports_added n.found.named)) z) j) ∙ nth_front (import_specs w.source.tree) came j s there) b

    abbrev Kept : List ℕ → Type 0
    Kept m = import_path added_packages (import_specs n.tree) m ≡ import_path added_packages (import_specs (file_added n.found)) m

    key_kept : (k : ℕ) (d : Decl At) → slice_get n.tree.decls k ≡ Some d → (m : List ℕ) → Within (marked.key_name m) (decl_marked d) → Kept m ⊎ IsFree members m
    key_kept k d e m i = by (is_among m members) refl (means_value (means universe m)) refl
      where
        spelled : (j : ℕ) (s : ImportSpec At) → slice_get (import_specs w.source.tree) j ≡ Some s → list_any (same_span (here_of s.span)) (removed_specs marks st n.found) ≡ true → import_name added_packages s ≡ m → is_blank m ≡ false
        spelled j s there listed its_name =
            is_spelled st.packages w j m
            (subst (λ (q : List ℕ). means_import j (given (means (outer st.packages w) q) imported_by) ≡ true) (sym (name_added marks st l after n reads s) ∙ its_name) (meant_it marks st l after n reads j s there listed))

        declared : is_among m members ≡ true → RemovesNoneNamed n m
        declared q j s there listed its_name =
            clash (is_among m members) (subst (λ (y : List ℕ). is_among y members ≡ false) its_name (apart_member j s there ((λ z. is_blank (its_name z)) ∙ spelled j s there listed its_name))) q

        predeclared : means_value (means universe m) ≡ true → RemovesNoneNamed n m
        predeclared q j s there listed its_name =
            let same : import_name st.packages s ≡ m = sym (name_added marks st l after n reads s) ∙ its_name in
            clash (means_value (means universe m))
            (subst (λ (y : List ℕ). means_value (means universe y) ≡ false) same (none j s there listed k d e (subst (λ (y : List ℕ). Within (marked.key_name y) (decl_marked d)) (sym same) i))) q

        by : (b : Bool) → is_among m members ≡ b → (v : Bool) → means_value (means universe m) ≡ v → Kept m ⊎ IsFree members m
        by true q v r = inl (name-kept marks st l after n settled_so few paths m (declared q))
        by false q false r = inr (q, r)
        by false q true r = inl (name-kept marks st l after n settled_so few paths m (predeclared r))

    pub keeps_uses : KeepsUses n
    keeps_uses = record {
      used = λ k d e m i. name-kept marks st l after n settled_so few paths m (used_removes k d e m i);
      keys = key_kept;
    }

-- ---- law

pub keep_uses : StepsKeepUses
keep_uses marks st l after n ready typed h few write none = keeps_uses marks st l after n ready.reads typed h few (linked-names st.packages ready.links) (written-so marks st l after n ready.links write) none
