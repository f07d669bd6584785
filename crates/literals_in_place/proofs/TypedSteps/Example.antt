-- The step of a run over the call `add(2)` in `main`, as Example has it: what steps_in_bodies asks is so by typing, and by the law alone the packages show the same. In a group of variables the call doesn't stand as the law asks.
--   var (y = add(2); z = 1)
use Rattle.std.proofs.Common.{◌≡◌, refl, ap, inl, inr, ℕ, true, List, None, [], ◌∷◌, arith}
use Rattle.std.specs.Prelude.{codes, IsTrue}
use Rattle.go_tree.specs.declared.spans.Span.{Span}
use Rattle.go_tree.specs.Tree.{Expr, ident, selector, int_lit, no_exprs, expr_and, Stmt, var_decl, no_specs, spec}
use Rattle.go_translation.specs.Packages as translated
use Rattle.go_translation.specs.Packages.{paths_in, are_well_typed}
use Rattle.run_rules.specs.ImportRules.Removed.{same_span}
use Rattle.run_rules.specs.Surroundings.{seen_stmt}
use Rattle.constant_steps.specs.PlainUse.{linked_at}
use Rattle.literal_steps.specs.CalledAt.{CalledAt}
use Rattle.literal_steps.specs.RankedMarks.Free.{is_free}
use Rattle.literal_steps.specs.ServedPackages.ServedFunctions.{NeedsNoImport}
use Rattle.meaning_in_place.specs.Runs.{ShowTheSame}
use Rattle.literals_in_place.specs.StepsInBodies.Functions.{use_here, ImportStaysUsed}
use Rattle.literals_in_place.specs.TypedSteps.Uses.{OutsideGroup, StandsInBody, UseInBody, with_literal, LiteralStep}
use Rattle.literals_in_place.proofs.Example.{at, adding, main, literal, rs, use_of_add, no_comments, marks, packages, packages_after, is_literal_use, is_plain_call, is_linked, is_translated, no_groups}
use Rattle.literals_in_place.proofs.StepsInBodies.Example.{itself}
use Rattle.literals_in_place.proofs.TypedSteps.Shows.{called, step_shows, well_typed_after}

in_body : StandsInBody same_span use_of_add rs adding packages
in_body =
    record {
      nth = 0;
      of = record { path = codes "m"; source = linked_at rs use_of_add.at (at 1) };
      is_nth = refl;
      named_at = at 1;
      source_is = refl;
      file_there = refl;
      function = main;
      decl_there = refl;
      once = inr (refl, inr (refl, inr (refl, inl ((refl, refl), (refl, (tt, tt))))));
      outside = (tt, (tt, (tt, (tt, (tt, (tt, tt))))));
    }

no_import : NeedsNoImport same_span no_comments rs marks use_of_add is_literal_use
unfolding is_literal_use
no_import = record { none_added = refl; imports_there = refl; no_constants = (tt, (tt, (tt, (tt, (tt, (tt, (tt, tt))))))) }

use_in_main : UseInBody Span
unfolding is_literal_use
use_in_main =
    record {
      packages = rs;
      marks = marks;
      same = same_span;
      itself = itself;
      commented = no_comments;
      site = use_of_add;
      becomes = is_literal_use;
      by_name = is_plain_call;
      members = packages;
      linked_so = is_linked;
      no_import = no_import;
      stands = in_body;
    }

called_there : CalledAt rs packages use_of_add (use_here packages use_of_add)
unfolding use_in_main
called_there = called use_in_main

packages_are : with_literal use_in_main literal ≡ packages_after
unfolding use_in_main in_body
packages_are = refl

abbrev is_dotted : Expr Span → ℕ
is_dotted (selector s e n) = 1
is_dotted e = 0

-- the call names its function plainly
plainly_named : (qs : List (translated.Package Span)) → ImportStaysUsed use_of_add (ident (at 44) (codes "add")) qs
plainly_named qs s t q f e = absurd (grind (arith, ap is_dotted e))

shows : ShowTheSame (is_free rs marks (paths_in packages)) 1 packages (with_literal use_in_main literal)
unfolding use_in_main in_body is_literal_use is_plain_call
shows = step_shows use_in_main literal refl is_translated no_groups (plainly_named (with_literal use_in_main literal))

literal_step : LiteralStep use_in_main literal
unfolding use_in_main in_body is_literal_use is_plain_call
literal_step = record { form_is = refl; translated = is_translated; no_constants = no_groups; import_used = plainly_named (with_literal use_in_main literal) }

-- so it is of the whole program
typed_after : IsTrue (are_well_typed packages) → IsTrue (are_well_typed (with_literal use_in_main literal))
unfolding use_in_main
typed_after t = well_typed_after use_in_main literal literal_step t

-- ---- in a group of variables

grouped : Stmt Span
grouped =
    var_decl (at 70) true
    (spec (at 71) (record { span = at 72; name = codes "y" } ∷ []) None (expr_and adding no_exprs)
    (spec (at 73) (record { span = at 74; name = codes "z" } ∷ []) None (expr_and (int_lit (at 75) (codes "1")) no_exprs) no_specs))

not_outside : OutsideGroup same_span use_of_add (seen_stmt use_of_add.place grouped) → ⊥
unfolding grouped
not_outside q = absurd (grind (arith, (q refl).1.1.0))
