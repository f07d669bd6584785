-- After a step that puts a literal in the place of its call and removes no import, the file of a call that names its function by an import uses that import, as typing counts uses.
use Rattle.std.proofs.Common.{◌≡◌, ◌∙◌, refl, sym, ap, subst, ℕ, zero, suc, Bool, true, false, not, ◌&&◌, List, [], ◌∷◌, ◌++◌, Some, arith}
use Rattle.std.specs.Prelude.{slice_get}
use Rattle.std.proofs.lemmas.Option.{same_Some}
use Rattle.go_tree.specs.declared.spans.Span.{Span}
use Rattle.go_tree.specs.File.{ImportSpec, Decl, func}
use Rattle.go_tree.specs.Tree.{Expr}
use Rattle.go_tree.specs.GoTypes.Collect.{collected}
use Rattle.go_tree.specs.GoTypes.Programs.{Program, headed}
use Rattle.go_tree.specs.GoTypes.WellTyped.{is_used_in, well_typed}
use Rattle.go_kernel.specs.Kernel.{FuncName}
use Rattle.go_translation.specs.Packages.{sources, paths_in, are_distinct, are_linked, are_well_typed}
use Rattle.imported_typing.specs.Further.{imports_itself, in_order}
use Rattle.imported_typing.proofs.InOrder.{first_import_themselves}
use Rattle.pkg_graph.specs.Package.{import_specs}
use Rattle.pkg_graph.specs.Members.{import_name}
use Rattle.run_rules.specs.FormTrees.{as_expr}
use Rattle.run_rules.specs.Programs.{linked, numbered}
use Rattle.run_rules.specs.Sites.{part_span}
use Rattle.run_rules.specs.Steps.{change_nth, is_new_unused, is_import_used}
use Rattle.typed_in_place.specs.ImportRule.{declarations_ok, imports_ok}
use Rattle.typed_in_place.specs.ProgramsAlike.{BodiesAlike}
use Rattle.typed_in_place.proofs.ImportRule.{well_typed_apart}
use Rattle.typed_in_place.proofs.Rising.{and_first, and_second}
use Rattle.constant_steps.specs.StepLaws.SwapPrograms.{put_decl}
use Rattle.constants_anywhere.proofs.Ordered.{linked_order}
use Rattle.constant_modules.specs.CountedUses.Typed.{TypesHaveValues}
use Rattle.literals_in_place.specs.Steps.{BodyPut, ranks_of, function_called}
use Rattle.literals_in_place.specs.StepsInBodies.Functions.{use_here, BlankAlike, LedFrom, PutInPackages, StandsInFunction, ImportStaysUsed}
use Rattle.literals_in_place.specs.TypedSteps.Uses.{UseInBody, with_literal, LiteralStep}
use Rattle.literals_in_place.proofs.StepsInBodies.Around as around
use Rattle.literals_in_place.proofs.StepsInBodies.BlankUses as blanks
use Rattle.literals_in_place.proofs.StepsInBodies.Packages.{in_packages}
use Rattle.literals_in_place.proofs.StepsInBodies.Shows as steps
use Rattle.literals_in_place.proofs.StepsInBodies.Shows.{packages_same}
use Rattle.literals_in_place.proofs.StepsInBodies.TypedPackages.{bodies_alike}
use Rattle.literals_in_place.proofs.TypedSteps.Shows.{called, serve}
use Rattle.literals_in_place.proofs.TypedSteps.Uses as uses
use Rattle.literal_steps.proofs.AddedImports.FilesBeside.{called_beside}
use Rattle.literal_steps.specs.AddedImports.Beside.{CalledBeside}
use Rattle.literal_imports.specs.Steps.{step_at, KeepingStep}
use Rattle.literal_imports.proofs.Between.{now, there, file_there, used_now, linked_now, stands_now, itself_now, name_kept}
use Rattle.literal_imports.proofs.Counted.{counts}
use Rattle.literal_imports.proofs.Declared.{declared_still}
use Rattle.literal_imports.proofs.ImportsNamed.{spec_there}
use Rattle.literal_imports.proofs.UsedBefore.{among_numbered, none_passes, its, used_before}

nothing_behind : {A : Type 0} (xs : List A) → xs ++ [] ≡ xs
nothing_behind [] = refl
nothing_behind (x ∷ xs) = λ v. x ∷ nothing_behind xs v

-- where what is put for a function is one, each declaration is as texts write it still
put_have : {S : Type 0} (g : Decl S → Decl S) (d : Decl S) → TypesHaveValues (g d) → (n : ℕ) (ds : List (Decl S)) → slice_get ds n ≡ Some d → ((i : ℕ) (d : Decl S) → slice_get ds i ≡ Some d → TypesHaveValues d) → (i : ℕ) (y : Decl S) → slice_get (change_nth n g ds) i ≡ Some y
    → TypesHaveValues y
put_have g d h n [] e all i y q = absurd cc
put_have g d h zero (x ∷ ds) e all zero y q = subst (λ v. TypesHaveValues v) (same_Some (g x) y q) (subst (λ v. TypesHaveValues (g v)) (sym (same_Some x d e)) h)
put_have g d h zero (x ∷ ds) e all (suc i) y q = all (suc i) y q
put_have g d h (suc n) (x ∷ ds) e all zero y q = all zero y q
put_have g d h (suc n) (x ∷ ds) e all (suc i) y q = put_have g d h n ds e (λ i d. all (suc i) d) i y q

used_still : (b a : Bool) → b ≡ true → (b && not a) ≡ false → a ≡ true
used_still true true e f = refl
used_still true false e f = let no : true ≡ false = f in absurd cc
used_still false a e f = let no : false ≡ true = e in absurd cc

module _ (x : UseInBody Span) (e : Expr Span) (form_is : x.becomes.form ≡ as_expr e) where
  abbrev pub callee : FuncName
  callee = function_called x.same x.commented x.packages x.marks x.site x.becomes x.by_name x.members

  abbrev pub beside : CalledBeside x.packages x.members x.site [] (use_here x.members x.site)
  beside = called_beside (called x)

  abbrev pub in_function : StandsInFunction x.same x.packages x.site x.becomes.tree e (LedFrom x.packages x.marks x.members callee) x.members
  in_function =
      around.around x.same x.commented x.packages x.marks x.site x.becomes x.by_name x.members x.linked_so e
      (uses.in_function x.same x.itself x.commented x.packages x.marks x.site x.becomes x.by_name x.members x.linked_so x.no_import x.stands e)

  abbrev pub blank : BlankAlike x.site.place.env x.becomes.tree e
  blank = blanks.blank_alike x.same x.commented x.packages x.marks x.site x.becomes x.by_name x.members x.linked_so [] (use_here x.members x.site) beside (serve x) e form_is

  -- ---- the declarations are typed

  pub put : PutInPackages x.site x.becomes.tree e (ranks_of x.packages x.marks x.members) callee x.members (with_literal x e)
  put =
      in_packages x.same x.site x.becomes.tree e
      (steps.here x.same x.itself x.commented x.packages x.marks x.site x.becomes x.by_name x.members x.linked_so [] beside (serve x) e form_is in_function blank)
      (steps.calls x.same x.itself x.commented x.packages x.marks x.site x.becomes x.by_name x.members x.linked_so [] beside (serve x) e form_is in_function blank)
      (steps.form x.same x.itself x.commented x.packages x.marks x.site x.becomes x.by_name x.members x.linked_so [] beside (serve x) e form_is in_function blank)
      (steps.facts x.same x.itself x.commented x.packages x.marks x.site x.becomes x.by_name x.members x.linked_so [] beside (serve x) e form_is in_function blank)
      blank (ranks_of x.packages x.marks x.members) callee x.packages x.members
      (steps.ranked x.same x.itself x.commented x.packages x.marks x.site x.becomes x.by_name x.members x.linked_so [] beside (serve x) e form_is in_function blank) x.linked_so.sources_are

  pub bodies : BodiesAlike (collected (sources x.members)) (headed (sources x.members)) (headed (sources (with_literal x e)))
  bodies =
      bodies_alike x.same x.site x.becomes.tree e
      (steps.here x.same x.itself x.commented x.packages x.marks x.site x.becomes x.by_name x.members x.linked_so [] beside (serve x) e form_is in_function blank)
      (steps.calls x.same x.itself x.commented x.packages x.marks x.site x.becomes x.by_name x.members x.linked_so [] beside (serve x) e form_is in_function blank)
      (steps.form x.same x.itself x.commented x.packages x.marks x.site x.becomes x.by_name x.members x.linked_so [] beside (serve x) e form_is in_function blank)
      (steps.facts x.same x.itself x.commented x.packages x.marks x.site x.becomes x.by_name x.members x.linked_so [] beside (serve x) e form_is in_function blank)
      blank (ranks_of x.packages x.marks x.members) callee x.packages x.members
      (steps.ranked x.same x.itself x.commented x.packages x.marks x.site x.becomes x.by_name x.members x.linked_so [] beside (serve x) e form_is in_function blank) x.linked_so.sources_are

  declared_before : declarations_ok (sources x.members) ≡ true
  declared_before =
      ap declarations_ok x.linked_so.sources_are
      ∙ and_first (declarations_ok (linked x.packages)) (imports_ok (linked x.packages)) (sym (well_typed_apart (linked x.packages)) ∙ x.linked_so.typed)

  pub declared_after : declarations_ok (sources (with_literal x e)) ≡ true
  declared_after =
      sym
      (declared_still (BodyPut put.place x.becomes.tree e (ranks_of x.packages x.marks x.members) callee x.site) (paths_in x.members) (collected (sources x.members)) x.members (with_literal x e) put.put
      (packages_same (put_decl x.same x.packages (part_span x.site.part) e x.site.at.number x.site.at.of x.site.at.source.tree) x.site.at.file_number x.site.decl x.stands.nth x.members) bodies)
      ∙ declared_before

  pub declared_now : declarations_ok (linked (now x e form_is)) ≡ true
  declared_now = ap declarations_ok (sym (linked_now x e form_is)) ∙ declared_after

  -- ---- a program that is well typed imports packages of its own

  pub linked_before : are_well_typed x.members ≡ true → are_linked [] x.members ≡ true
  linked_before t = and_first (are_linked [] x.members) (well_typed (sources x.members)) (and_second (are_distinct x.members) (are_linked [] x.members && well_typed (sources x.members)) t)

  pub own_before : are_well_typed x.members ≡ true → imports_itself (linked x.packages) ≡ true
  own_before t =
      first_import_themselves (linked x.packages) []
      (ap (λ (p : Program Span). in_order p) (nothing_behind (linked x.packages)) ∙ ap (λ (p : Program Span). in_order p) (sym x.linked_so.sources_are) ∙ linked_order x.members x.linked_so.distinct (linked_before t))

  -- ---- what is used with the literal in place is counted

  module _ (t : are_well_typed x.members ≡ true) (values_now : (i : ℕ) (d : Decl Span) → slice_get (there x e form_is).source.tree.decls i ≡ Some d → TypesHaveValues d) where
    -- an import that the file uses, as run_rules has it
    pub counted_after : (k : ℕ) (s : ImportSpec Span) → slice_get (import_specs x.site.at.source.tree) k ≡ Some s → is_import_used (now x e form_is) (there x e form_is) (there x e form_is).source.tree.decls k ≡ true
        → is_used_in (collected (sources (with_literal x e))) x.site.at.number x.site.at.file_number (import_name x.packages s) (headed (sources (with_literal x e))) ≡ true
    counted_after k s g u =
        subst (λ (p : Program Span). is_used_in (collected p) x.site.at.number x.site.at.file_number (import_name x.packages s) (headed p) ≡ true) (sym (linked_now x e form_is))
        (subst (λ (n : List ℕ). is_used_in (collected (linked (now x e form_is))) x.site.at.number x.site.at.file_number n (headed (linked (now x e form_is))) ≡ true)
        (name_kept x.site.at.file_number x.site.decl (put_decl x.same x.packages (part_span x.site.part) e x.site.at.number x.site.at.of x.site.at.source.tree) x.site.at.number x.packages s)
        (counts (now x e form_is) (there x e form_is) x.stands.named_at x.stands.nth (stands_now x e form_is) (itself_now x e form_is (own_before t)) declared_now (file_there x e form_is) values_now k u s g))

  -- one that it used before, and that the step doesn't remove
  pub still_used : (k : ℕ) → is_import_used x.packages x.site.at x.site.at.source.tree.decls k ≡ true → (s : ImportSpec Span) → is_new_unused x.same x.commented x.packages x.marks (step_at x) (k, s) ≡ false
      → is_import_used (now x e form_is) (there x e form_is) (there x e form_is).source.tree.decls k ≡ true
  still_used k u s r =
      sym (used_now x e form_is k)
      ∙ used_still (is_import_used x.packages x.site.at x.site.at.source.tree.decls k) _ u r

-- ---- a step that removes none

module _ (x : UseInBody Span) (e : Expr Span) (k : KeepingStep x e) (t : are_well_typed x.members ≡ true) where
  values_now : (i : ℕ) (d : Decl Span) → slice_get (there x e k.form_is).source.tree.decls i ≡ Some d → TypesHaveValues d
  values_now = put_have (put_decl x.same x.packages (part_span x.site.part) e x.site.at.number x.site.at.of x.site.at.source.tree) (func x.stands.function) tt x.site.decl x.site.at.source.tree.decls x.stands.decl_there k.values_written

  stays_used : ImportStaysUsed x.site x.by_name.called (with_literal x e)
  stays_used s z q n called_so =
      let i = its x s z q n called_so in
      let y = spec_there x.packages x.site.at i.0 q i.1.1 in
      let kept : is_new_unused x.same x.commented x.packages x.marks (step_at x) (i.0, y.0) ≡ false =
      none_passes (is_new_unused x.same x.commented x.packages x.marks (step_at x)) (λ (v : ℕ × ImportSpec Span). v.1) (i.0, y.0) (numbered (import_specs x.site.at.source.tree)) k.none_removed (among_numbered 0 i.0 i.0 (import_specs x.site.at.source.tree) y.0 y.1.0 (omega arith)) in
      subst (λ (m : List ℕ). is_used_in (collected (sources (with_literal x e))) x.site.at.number x.site.at.file_number m (headed (sources (with_literal x e))) ≡ true) y.1.1
      (counted_after x e k.form_is t values_now i.0 y.0 y.1.0 (still_used x e k.form_is i.0 (used_before x s z q n called_so) y.0 kept))

  pub literal_step : LiteralStep x e
  literal_step = record { form_is = k.form_is; translated = k.translated; no_constants = k.no_constants; import_used = stays_used }
