-- With the form of a step over a constant in its place a declaration has the keys that it had: the name that is put, where
-- it becomes a key, isn't that of an import. So keys are apart from imports after the step.
use Rattle.std.proofs.Common.{◌≡◌, ◌∙◌, refl, sym, subst, ◌⊎◌, inl, inr, ℕ, zero, suc, ◌+◌, Bool, true, false, if◌then◌else◌, bytes_eq, List, [], ◌∷◌, ◌++◌, length, Option, Some, None}
use Rattle.std.specs.Prelude.{slice_get}
use Rattle.std.specs.List.{list_any}
use Rattle.std.proofs.lemmas.Option.{same_Some}
use Rattle.std.proofs.lemmas.Slice.Eq.{bytes_eq-Decides}
use Rattle.go_tree.specs.declared.spans.Span.{Span}
use Rattle.go_tree.specs.Tree.{Expr, plain}
use Rattle.go_tree.specs.File.{ImportSpec, Decl, File}
use Rattle.go_tree.specs.GoTypes.Agreement.{In}
use Rattle.go_tree.specs.GoTypes.Answers.{given}
use Rattle.go_tree.specs.GoTypes.Literals.{field_key}
use Rattle.go_tree.specs.ScopeNames.Means.{means, is_blank}
use Rattle.pkg_graph.specs.Package.{SourceTree, Package, import_specs, specs_in}
use Rattle.pkg_graph.specs.Members.{Target, imported, import_name, name_or}
use Rattle.constant_steps.specs.FormImports.ImportLaws.Steps.{removed_specs}
use Rattle.constant_steps.specs.QualifiedSteps.MemberNames.{NamesMember, own_member, imported_member}
use Rattle.constant_steps.proofs.MarksFound.{nth_mapped}
use Rattle.order_runs.specs.CycleRuns.ImportCycles.ImportSteps.{file_added, packages_added, where_added}
use Rattle.order_runs.specs.CycleRuns.ImportCycles.OtherImports.{import_path}
use Rattle.order_runs.specs.CycleRuns.KeptImports.Files.{IsSettled}
use Rattle.order_runs.specs.CycleRuns.StepCycles.PackagesAlike.{import_key}
use Rattle.order_runs.proofs.CycleRuns.ImportCycles.ImportStep.{placed}
use Rattle.order_runs.proofs.CycleRuns.KeptImports.Keys.{Key, new_key, key-with, key-for, key_name, name-by}
use Rattle.printed_constants.proofs.RemovedImports.Removed.{specs-of-both}
use Rattle.printed_constants.proofs.Steps.{changed_nth, mapped_nth}
use Rattle.printed_constants.proofs.Steps as printed
use Rattle.printed_constants.proofs.TypedParts.MarkedRuns.KeptMarks.Changed.{name-stays}
use Rattle.run_rules.specs.declared.import_rules.new_import.NewImport.{NewImport}
use Rattle.run_rules.specs.FormTrees.{Form}
use Rattle.run_rules.specs.ImportRules.Removed.{same_span}
use Rattle.run_rules.specs.Naming.{imports_added}
use Rattle.run_rules.specs.Respanned.{import_spec_with, decl_with, decls_with}
use Rattle.run_rules.specs.Run.{Standing, Logged, Next, here_of, origin_of, is_commented}
use Rattle.run_rules.specs.Sites.{MarkRef, Where, mark_of, name_mark, outer, part_span}
use Rattle.run_rules.specs.Steps.{At, same_here, change_nth, changes_for, spec_for, added_decls, new_decl, new_decls, with_file}
use Rattle.run_rules.specs.Surroundings.{Place, is_local}
use Rattle.splice_laws.specs.RunLaws.Reading.{ProgramReads}
use Rattle.splice_laws.proofs.RunLaws.FoundSpans.{Placed}
use Rattle.constant_modules.specs.ApartKeys.Files.{is_value_name, KeysApart}
use Rattle.constant_modules.specs.ApartKeys.Keys.{named_key, expr_keys, decl_keys}
use Rattle.constant_modules.specs.ApartKeys.Laws.{FormsAddOneKey}
use Rattle.constant_modules.specs.CountedUses.Typed.{IsFileOf}
use Rattle.constant_modules.specs.NamedAnywhere.Puts.{PutsNameThere}
use Rattle.constant_modules.specs.NamedAnywhere.Taken.{site_there}
use Rattle.constant_modules.proofs.ApartKeys.Names.{key-named}
use Rattle.constant_modules.proofs.ApartKeys.Put.{key-put}
use Rattle.constant_modules.proofs.ApartKeys.Spans.{decl-with}
use Rattle.constant_modules.proofs.CountedUses.After.{with_other}
use Rattle.constant_modules.proofs.CountedUses.Named.{meant}
use Rattle.constant_modules.proofs.KeptUses.InPlace.{specs_added}
use Rattle.constant_modules.proofs.KeptUses.Specs.{nth_front, nth_behind, of_read}
use Rattle.constant_modules.proofs.LookUps.Removed.{name_added}
use Rattle.constant_modules.proofs.LookUps.Uses.{its_meaning}
use Rattle.constant_modules.proofs.LookUps.Walk.{the_one}
use Rattle.constant_modules.proofs.NamedAnywhere.FormsNamed.{new_named}

-- ---- the name of a member

module _ {S : Type 0} (rs : List (Package S)) (w : Where S) (p : Place S) where
  -- it has no keys
  pub name_quiet : {e : Expr S} {k : MarkRef} → NamesMember rs w p e k → expr_keys e ≡ []
  name_quiet (own_member e) = refl
  name_quiet (imported_member e x) = refl

  unmarked : (b : Bool) (o : Option Target) (j : ℕ) (k : MarkRef) → o ≡ Some (imported j) → given (if b then None else o) mark_of ≡ Some k → ⊥
  unmarked true o j k e q = cc
  unmarked false o j k e q = let no : None ≡ Some k = (λ v. given (sym e v) mark_of) ∙ q in cc

  -- it is no key that is the name of an import
  pub name_apart : (m : List ℕ) {e : Expr S} {k : MarkRef} → NamesMember rs w p e k → (j : ℕ) → means (outer rs w) m ≡ Some (imported j) → In m (named_key (field_key (plain e))) → ⊥
  name_apart m (own_member {n = n} {m = k} e) j g i = unmarked (is_local p m) (means (outer rs w) m) j k g ((λ v. name_mark rs w p (the_one m n i v)) ∙ e)
  name_apart m (imported_member e x) j g i = elim i [ ]

-- ---- the path of an import

path_some : (ps : List (Package At)) (ss : List (ImportSpec At)) (j : ℕ) (s : ImportSpec At) → slice_get ss j ≡ Some s → import_path ps ss (import_name ps s) ≡ None → ⊥
path_some ps [] j s e h = cc
path_some ps (y ∷ ss) zero s e h =
    let itself : bytes_eq (import_name ps y) (import_name ps s) ≡ true = (bytes_eq-Decides (import_name ps y) (import_name ps s)).1 (λ v. import_name ps (same_Some y s e v)) in
    let no : Some y.path ≡ None = (λ v. if sym itself v then Some y.path else import_path ps ss (import_name ps s)) ∙ h in cc
path_some ps (y ∷ ss) (suc j) s e h = by (bytes_eq (import_name ps y) (import_name ps s)) (path_some ps ss j s e) h
  where
    by : (b : Bool) → (import_path ps ss (import_name ps s) ≡ None → ⊥) → (if b then Some y.path else import_path ps ss (import_name ps s)) ≡ None → ⊥
    by true r q = cc
    by false r q = r q

-- ---- a step

module _ (marks : List MarkRef) (st : Standing) (l : Logged) (after : Standing) (n : Next marks st l after) (h : PutsNameThere n) (reads : ProgramReads st) where
  abbrev w : Where At
  w = n.found.site.at

  abbrev mid : List (Package At)
  mid = packages_added st.packages n.found

  abbrev ds : List (Decl At)
  ds = new_decls same_here st.packages n.found.site n.found.form

  abbrev came : List (ImportSpec At)
  came = specs_in (added_decls n.found.range (imports_added n.found.named))

  -- a declaration with a form in the place of the use
  abbrev make : Form At → Decl At → Decl At
  make f = new_decl same_here st.packages (changes_for same_here (part_span n.found.site.part) f) w.number w.of w.source.tree

  here : Placed here_of (λ (s : Span). Unit {0}) st.packages marks n.found.site
  here = placed marks st l after n

  pub file_then : IsFileOf st.packages w
  file_then = (here.package_is, here.file_is)

  put_named : NamesMember mid (where_added n.found) h.place h.use_.new h.use_.new_mark
  put_named = (new_named same_here (is_commented st) mid marks (site_there n.found h.place) h.use_).names

  pub both_specs : import_specs (file_added n.found) ≡ import_specs w.source.tree ++ came
  both_specs = specs-of-both w.source.tree.imports (added_decls n.found.range (imports_added n.found.named))

  -- a key of a declaration with the form in place that is the name of an import was a key of it
  pub key_old : (i : ℕ) (d : Decl At) → slice_get ds i ≡ Some d → (m : List ℕ) (j : ℕ) (s : ImportSpec At) → slice_get (import_specs (file_added n.found)) j ≡ Some s → import_name mid s ≡ m → is_blank m ≡ false → In m (decl_keys d)
      → (x : Decl At) × ((slice_get w.source.tree.decls i ≡ Some x) × In m (decl_keys x))
  key_old i d e m j s g named spelled q = by c.2
    where
      c : (x : Decl At) × (slice_get w.source.tree.decls i ≡ Some x) × ((d ≡ x) ⊎ (d ≡ make n.found.form x))
      c = changed_nth (make n.found.form) n.found.site.decl i w.source.tree.decls d e

      means_so : (k : ℕ) × (means (outer mid (where_added n.found)) m ≡ Some (imported k))
      means_so =
          subst (λ (y : List ℕ). (k : ℕ) × (means (outer mid (where_added n.found)) y ≡ Some (imported k))) named
          (meant mid (where_added n.found) j (means (outer mid (where_added n.found)) (import_name mid s)) (its_meaning mid (where_added n.found) h.file_sound j s g ((λ z. is_blank (named z)) ∙ spelled)))

      of_put : In m (decl_keys c.0) ⊎ In m (named_key (field_key (plain h.use_.new))) → (x : Decl At) × ((slice_get w.source.tree.decls i ≡ Some x) × In m (decl_keys x))
      of_put (inl k) = (c.0, (c.1, k))
      of_put (inr k) = absurd (name_apart mid (where_added n.found) h.place m put_named means_so.0 means_so.1 k)

      by : (d ≡ c.0) ⊎ (d ≡ make n.found.form c.0) → (x : Decl At) × ((slice_get w.source.tree.decls i ≡ Some x) × In m (decl_keys x))
      by (inl f) = (c.0, (c.1, subst (λ (y : Decl At). In m (decl_keys y)) f q))
      by (inr f) =
          of_put (key-put same_here (part_span n.found.site.part) h.use_.new (name_quiet mid (where_added n.found) h.place put_named) m st.packages w.number w.of w.source.tree c.0
          (subst (λ (y : Decl At). In m (decl_keys y)) (f ∙ (λ z. make (h.form z) c.0)) q))

  -- ---- the file as it is read again

  -- an import of it is one that stays or one that came, written in the same way
  record Comes (k : Key) : Type 0 where
    spec : ImportSpec At
    alike : import_key spec ≡ k
    where_ : ((j : ℕ) × (slice_get (import_specs w.source.tree) j ≡ Some spec)) ⊎ ((j : ℕ) × (slice_get came j ≡ Some spec))

  stays_one : (j : ℕ) (s : ImportSpec At) → slice_get (import_specs w.source.tree) j ≡ Some s → list_any (same_span (here_of s.span)) (removed_specs marks st n.found) ≡ false → Comes (import_key (import_spec_with here_of s))
  stays_one j s there left = record { spec = s; alike = sym (key-with here_of s); where_ = inl (j, there) }

  comes_one : (j : ℕ) (i : NewImport) → slice_get (imports_added n.found.named) j ≡ Some i → Comes (new_key i)
  comes_one j i there = record {
    spec = spec_for n.found.range i;
    alike = key-for n.found.range i;
    where_ = inr (j, (λ v. slice_get (specs_added n.found.range (imports_added n.found.named) v) j) ∙ nth_mapped (spec_for n.found.range) (imports_added n.found.named) j i there);
  }

  -- no import of this tree whose name is predeclared as a value has that of a key in it
  abbrev Apart : File At → Type 0
  Apart t =
      (k : ℕ) (s : ImportSpec At) → slice_get (import_specs t) k ≡ Some s → is_blank (import_name st.packages s) ≡ false → is_value_name (import_name st.packages s) ≡ true
      → (i : ℕ) (d : Decl At) → slice_get t.decls i ≡ Some d → In (import_name st.packages s) (decl_keys d) → ⊥

  module _ (apart : KeysApart st.packages) (settled_so : IsSettled n) where
    new_apart : Apart n.tree
    new_apart k s g b pre i d e q = by c.where_
      where
        c : Comes (import_key s)
        c = of_read marks st l after n Comes stays_one comes_one settled_so k s g

        named : import_name st.packages c.spec ≡ import_name st.packages s
        named = name-by st.packages c.spec ∙ (λ z. key_name st.packages (c.alike z)) ∙ sym (name-by st.packages s)

        decls_are : decls_with origin_of n.tree.decls ≡ decls_with origin_of ds
        decls_are = λ z. (n.origins_are z).decls

        r : (x : Decl At) × (slice_get ds i ≡ Some x) × (decl_with origin_of x ≡ decl_with origin_of d)
        r = mapped_nth (decl_with origin_of) ds i (decl_with origin_of d) (sym (λ z. slice_get (decls_are z) i) ∙ printed.nth_mapped (decl_with origin_of) n.tree.decls i d e)

        keyed : In (import_name st.packages s) (decl_keys r.0)
        keyed = subst (λ (ks : List (List ℕ)). In (import_name st.packages s) ks) (sym (decl-with origin_of d) ∙ (λ z. decl_keys (sym r.2 z)) ∙ decl-with origin_of r.0) q

        old_key : (j : ℕ) → slice_get (import_specs (file_added n.found)) j ≡ Some c.spec → (x : Decl At) × ((slice_get w.source.tree.decls i ≡ Some x) × In (import_name st.packages s) (decl_keys x))
        old_key j there = key_old i r.0 r.1 (import_name st.packages s) j c.spec there (name_added marks st l after n reads c.spec ∙ named) b keyed

        by : ((j : ℕ) × (slice_get (import_specs w.source.tree) j ≡ Some c.spec)) ⊎ ((j : ℕ) × (slice_get came j ≡ Some c.spec)) → ⊥
        by (inl t) =
            let x = old_key t.0 ((λ z. slice_get (both_specs z) t.0) ∙ nth_front (import_specs w.source.tree) came t.0 c.spec t.1) in
            apart w file_then t.0 c.spec t.1 ((λ z. is_blank (named z)) ∙ b) ((λ z. is_value_name (named z)) ∙ pre) i x.0 x.1.0 (subst (λ (y : List ℕ). In y (decl_keys x.0)) (sym named) x.1.1)
        by (inr t) =
            let x = old_key (length (import_specs w.source.tree) + t.0) ((λ z. slice_get (both_specs z) (length (import_specs w.source.tree) + t.0)) ∙ nth_behind (import_specs w.source.tree) came t.0 c.spec t.1) in
            path_some mid came t.0 c.spec t.1 ((λ z. import_path mid came ((name_added marks st l after n reads c.spec ∙ named) z)) ∙ h.names.new_names i x.0 x.1.0 (import_name st.packages s) (key-named (import_name st.packages s) x.0 x.1.1))

    abbrev last : List (Package At)
    last = with_file same_here st.packages w n.tree

    name_last : (s : ImportSpec At) → import_name last s ≡ import_name st.packages s
    name_last s = λ z. name_or s.name (name-stays (λ (p : Package At). record p { files = change_nth w.file_number (λ (f : SourceTree At). record f { tree = n.tree }) p.files }) (λ p. refl) (λ p. refl) w.number st.packages s.path z)

    last_apart : KeysApart last
    last_apart v there k s g b pre i d e q =
        with_other Apart st.packages w n.tree (λ u t. apart u t) new_apart v there k s g ((λ z. is_blank (sym (name_last s) z)) ∙ b) ((λ z. is_value_name (sym (name_last s) z)) ∙ pre) i d e (subst (λ (m : List ℕ). In m (decl_keys d)) (name_last s) q)

    pub apart_after : KeysApart after.packages
    apart_after = subst KeysApart (sym n.packages_are) last_apart

pub form_adds : FormsAddOneKey
form_adds z e quiet ps k p file d m i = key-put same_here z e quiet m ps k p file d i
