-- A step of a run that puts a literal in the place of its call, in the body of a function of well-typed packages, leaves packages that show the same.
use Rattle.std.proofs.Common.{◌≡◌, sym, ◌∙◌, subst, ℕ, List, [], ◌++◌, length}
use Rattle.std.specs.Prelude.{IsTrue}
use Rattle.go_tree.specs.declared.spans.Span.{Span}
use Rattle.go_tree.specs.Tree.{Expr}
use Rattle.go_kernel.specs.Kernel.{ImportPath}
use Rattle.go_translation.specs.Packages as translated
use Rattle.go_translation.specs.Packages.{paths_in, are_well_typed, freely_shown_by}
use Rattle.run_rules.specs.FormTrees.{as_expr}
use Rattle.run_rules.specs.Places.{stmts_seen}
use Rattle.run_rules.specs.Programs.{body_place}
use Rattle.literal_steps.proofs.AddedImports.FilesBeside.{called_beside}
use Rattle.literal_steps.specs.CalledAt.{CalledAt, PackagesServe}
use Rattle.literal_steps.specs.RankedMarks.Free.{is_free, Translated, NoConstantGroups}
use Rattle.literal_steps.specs.RankedMarks.Ranks.{marked_functions}
use Rattle.literal_cycles.proofs.LiteralLed.{append_none}
use Rattle.meaning_in_place.specs.Runs.{ShowTheSame}
use Rattle.literals_in_place.specs.StepsInBodies.Functions.{use_here, ImportStaysUsed}
use Rattle.literals_in_place.specs.StepsInBodies.Once.{AllClear}
use Rattle.literals_in_place.specs.TypedSteps.Uses.{UseInBody, with_literal, free_in, marked_in, LiteralStep}
use Rattle.literals_in_place.proofs.StepsInBodies.Around as around
use Rattle.literals_in_place.proofs.TypedSteps.Uses as uses

module _ (x : UseInBody Span) where
  pub called : CalledAt x.packages x.members x.site (use_here x.members x.site)
  called = uses.called_there x.same x.itself x.commented x.packages x.marks x.site x.becomes x.by_name x.members x.linked_so x.no_import x.stands

  pub serve : PackagesServe x.packages x.members x.site x.same x.commented x.marks x.becomes (use_here x.members x.site)
  serve = uses.serve_there x.same x.itself x.commented x.packages x.marks x.site x.becomes x.by_name x.members x.linked_so x.no_import x.stands

  pub stands_clear : AllClear x.same x.site (Unit {0}) (stmts_seen (body_place x.packages x.site.at.number x.site.at.of x.site.at.source.tree x.stands.function) x.stands.function.body)
  stands_clear = uses.clear_there x.same x.itself x.commented x.packages x.marks x.site x.becomes x.by_name x.members x.linked_so x.no_import x.stands (Unit {0}) tt

  pub step_shows : (e : Expr Span) → x.becomes.form ≡ as_expr e → Translated x.packages x.marks x.members → NoConstantGroups x.packages x.marks → ImportStaysUsed x.site x.by_name.called (with_literal x e)
      → ShowTheSame (is_free x.packages x.marks (paths_in x.members)) (length (marked_functions x.packages x.marks)) x.members (with_literal x e)
  step_shows e q all plain stays =
      around.step_shows x.same x.itself x.commented x.packages x.marks x.site x.becomes x.by_name x.members x.linked_so [] (called_beside called) serve e q
      (uses.in_function x.same x.itself x.commented x.packages x.marks x.site x.becomes x.by_name x.members x.linked_so x.no_import x.stands e) stays all plain

  -- ---- alone

  module _ (e : Expr Span) (s : LiteralStep x e) (t : IsTrue (are_well_typed x.members)) where
    step_same : ShowTheSame (free_in x) (marked_in x) x.members (with_literal x e)
    step_same = step_shows e s.form_is s.translated s.no_constants s.import_used

    with_none : IsTrue (are_well_typed (x.members ++ []))
    with_none = subst (λ (ms : List (translated.Package Span)). IsTrue (are_well_typed ms)) (sym (append_none x.members)) t

    pub well_typed_after : IsTrue (are_well_typed (with_literal x e))
    well_typed_after = subst (λ (ms : List (translated.Package Span)). IsTrue (are_well_typed ms)) (append_none (with_literal x e)) (step_same.typed [] with_none)

    pub shows_after : (main : ImportPath) (choices : List ℕ) (n : ℕ) → freely_shown_by x.members (free_in x) (marked_in x) main choices n ≡ freely_shown_by (with_literal x e) (free_in x) (marked_in x) main choices n
    shows_after main choices n =
        (λ i. freely_shown_by (sym (append_none x.members) i) (free_in x) (marked_in x) main choices n)
        ∙ step_same.shows [] with_none main choices n
        ∙ (λ i. freely_shown_by (append_none (with_literal x e) i) (free_in x) (marked_in x) main choices n)
