-- In a program whose keys are apart from imports whose names are predeclared as values, no import that a step removes has the name of
-- such a key; and keys are apart after the step.
use Rattle.std.proofs.Common.{◌≡◌, ◌∙◌, refl, sym, subst, ℕ, Bool, true, false, List, Some}
use Rattle.std.specs.Prelude.{slice_get}
use Rattle.std.specs.List.{list_any}
use Rattle.go_tree.specs.File.{ImportSpec, Decl}
use Rattle.go_tree.specs.GoTypes.Agreement.{In}
use Rattle.go_tree.specs.GoTypes.Answers.{given}
use Rattle.go_tree.specs.ScopeNames.Means.{means, is_blank}
use Rattle.pkg_graph.specs.Package.{import_specs, specs_in}
use Rattle.pkg_graph.specs.Members.{import_name}
use Rattle.constant_steps.specs.FormImports.ImportLaws.Steps.{removed_specs}
use Rattle.order_runs.proofs.CycleRuns.KeptImports.Kept.{is-settled}
use Rattle.printed_constants.specs.TypedParts.MarkedRuns.SettledConstants.Programs.{IsReady}
use Rattle.printed_constants.specs.TypedParts.MarkedRuns.SoundImports.Laws.{AddedImportsMayBeDeclared}
use Rattle.printed_constants.proofs.Steps.{mapped_nth, nth_mapped}
use Rattle.run_rules.specs.ImportRules.Removed.{same_span}
use Rattle.run_rules.specs.Naming.{imports_added}
use Rattle.run_rules.specs.Respanned.{decl_with, decls_with}
use Rattle.run_rules.specs.Run.{Standing, Logged, Next, here_of, origin_of}
use Rattle.run_rules.specs.Sites.{MarkRef, Where, imported_by, outer}
use Rattle.run_rules.specs.Steps.{At, same_here, means_import, added_decls, new_decls}
use Rattle.constant_modules.specs.ApartKeys.Files.{is_value_name, KeysApart}
use Rattle.constant_modules.specs.ApartKeys.Keys.{decl_keys}
use Rattle.constant_modules.specs.ApartKeys.Laws.{StepsPutNames, StepsRemoveNoValueKeys, StepsKeepKeysApart}
use Rattle.constant_modules.specs.KeyedImports.Keyed.{decl_marked}
use Rattle.constant_modules.specs.KeyedImports.Steps.{RemovesNoValueKey}
use Rattle.constant_modules.specs.NamedAnywhere.Puts.{PutsNameThere}
use Rattle.constant_modules.specs.NamesAndKeys.Marked.{key_name, Within}
use Rattle.constant_modules.proofs.ApartKeys.Keys.{file_then, both_specs, key_old, apart_after}
use Rattle.constant_modules.proofs.ApartKeys.Spans.{decl-with}
use Rattle.constant_modules.proofs.CountedUses.Named.{is_spelled}
use Rattle.constant_modules.proofs.KeptUses.Specs.{nth_front}
use Rattle.constant_modules.proofs.KeyedImports.KeysOf.{marked-key}
use Rattle.constant_modules.proofs.LookUps.Removed.{name_added, meant_it}
use Rattle.constant_modules.proofs.NamedAnywhere.TakenMarks.{puts-there}

module _ (marks : List MarkRef) (st : Standing) (l : Logged) (after : Standing) (n : Next marks st l after) (ready : IsReady st) (h : PutsNameThere n) (apart : KeysApart st.packages) where
  abbrev w : Where At
  w = n.found.site.at

  abbrev ds : List (Decl At)
  ds = new_decls same_here st.packages n.found.site n.found.form

  abbrev came : List (ImportSpec At)
  came = specs_in (added_decls n.found.range (imports_added n.found.named))

  -- an import that goes, and a key of its name in the file as it is read again
  module _ (i : ℕ) (s : ImportSpec At) (there : slice_get (import_specs w.source.tree) i ≡ Some s) (listed : list_any (same_span (here_of s.span)) (removed_specs marks st n.found) ≡ true) (k : ℕ) (d : Decl At) (e : slice_get n.tree.decls k ≡ Some d) (q : Within (key_name (import_name st.packages s)) (decl_marked d)) where
    abbrev m : List ℕ
    m = import_name st.packages s

    before : means_import i (given (means (outer st.packages w) m) imported_by) ≡ true
    before = meant_it marks st l after n ready.reads i s there listed

    spelled : is_blank m ≡ false
    spelled = is_spelled st.packages w i m before

    decls_are : decls_with origin_of n.tree.decls ≡ decls_with origin_of ds
    decls_are = λ z. (n.origins_are z).decls

    r : (x : Decl At) × (slice_get ds k ≡ Some x) × (decl_with origin_of x ≡ decl_with origin_of d)
    r = mapped_nth (decl_with origin_of) ds k (decl_with origin_of d) (sym (λ z. slice_get (decls_are z) k) ∙ nth_mapped (decl_with origin_of) n.tree.decls k d e)

    keyed : In m (decl_keys r.0)
    keyed = subst (λ (ks : List (List ℕ)). In m ks) (sym (decl-with origin_of d) ∙ (λ z. decl_keys (sym r.2 z)) ∙ decl-with origin_of r.0) (marked-key m d q)

    was : (x : Decl At) × ((slice_get w.source.tree.decls k ≡ Some x) × In m (decl_keys x))
    was =
        key_old marks st l after n h ready.reads k r.0 r.1 m i s
        ((λ z. slice_get (both_specs marks st l after n h ready.reads z) i) ∙ nth_front (import_specs w.source.tree) came i s there)
        (name_added marks st l after n ready.reads s) spelled keyed

    no_value : is_value_name m ≡ false
    no_value = by (is_value_name m) refl
      where
        by : (b : Bool) → is_value_name m ≡ b → is_value_name m ≡ false
        by false p = p
        by true p = absurd (apart w (file_then marks st l after n h ready.reads) i s there spelled p k was.0 was.1.0 was.1.1)

  removes : RemovesNoValueKey n
  removes i s there listed k d e q = no_value i s there listed k d e q

-- ---- laws

pub steps_put : AddedImportsMayBeDeclared → StepsPutNames
steps_put sound marks st l after n ready files typed few names stands = puts-there sound marks st l after n ready files typed few names stands

pub remove_none : StepsRemoveNoValueKeys
remove_none marks st l after n ready h apart = removes marks st l after n ready h apart

pub keep_apart : StepsKeepKeysApart
keep_apart marks st l after n ready h write apart = apart_after marks st l after n h ready.reads apart (is-settled marks st l after n write.puts write.writable)
