-- The step of a run over the call `add(2)` in `main`, as literals_in_place has it: the file has no imports, so none goes, and by the law alone the program stays well typed.
use Rattle.std.proofs.Common.{◌≡◌, refl, subst, inl, inr, ℕ, zero, suc, [], ◌∷◌, Some}
use Rattle.std.specs.Prelude.{codes, IsTrue, slice_get}
use Rattle.std.proofs.lemmas.Option.{same_Some}
use Rattle.go_tree.specs.declared.spans.Span.{Span}
use Rattle.go_tree.specs.File.{Func, Decl, func}
use Rattle.go_translation.specs.Packages.{are_well_typed}
use Rattle.run_rules.specs.ImportRules.Removed.{same_span}
use Rattle.constant_steps.specs.PlainUse.{linked_at}
use Rattle.literal_steps.specs.ServedPackages.ServedFunctions.{NeedsNoImport}
use Rattle.constant_modules.specs.CountedUses.Typed.{TypesHaveValues}
use Rattle.literals_in_place.specs.TypedSteps.Uses.{StandsInBody, UseInBody, with_literal}
use Rattle.literals_in_place.proofs.Example.{at, adding, main, literal, rs, use_of_add, no_comments, marks, packages, is_literal_use, is_plain_call, is_linked, is_translated, no_groups}
use Rattle.literals_in_place.proofs.StepsInBodies.Example.{itself}
use Rattle.literals_in_place.proofs.TypedSteps.Shows.{well_typed_after}
use Rattle.literal_imports.specs.Steps.{KeepingStep, ValuesAreWritten}
use Rattle.literal_imports.proofs.Kept.{literal_step}

in_body : StandsInBody same_span use_of_add rs adding packages
in_body =
    record {
      nth = 0;
      of = record { path = codes "m"; source = linked_at rs use_of_add.at (at 1) };
      is_nth = refl;
      named_at = at 1;
      source_is = refl;
      file_there = refl;
      function = main;
      decl_there = refl;
      once = inr (refl, inr (refl, inr (refl, inl ((refl, refl), (refl, (tt, tt))))));
      outside = (tt, (tt, (tt, (tt, (tt, (tt, tt))))));
    }

no_import : NeedsNoImport same_span no_comments rs marks use_of_add is_literal_use
unfolding is_literal_use
no_import = record { none_added = refl; imports_there = refl; no_constants = (tt, (tt, (tt, (tt, (tt, (tt, (tt, tt))))))) }

use_in_main : UseInBody Span
unfolding is_literal_use
use_in_main =
    record {
      packages = rs;
      marks = marks;
      same = same_span;
      itself = itself;
      commented = no_comments;
      site = use_of_add;
      becomes = is_literal_use;
      by_name = is_plain_call;
      members = packages;
      linked_so = is_linked;
      no_import = no_import;
      stands = in_body;
    }

functions_alone : (f g : Func Span) (i : ℕ) (d : Decl Span) → slice_get (func f ∷ func g ∷ []) i ≡ Some d → TypesHaveValues d
functions_alone f g zero d e = subst (λ (v : Decl Span). TypesHaveValues v) (same_Some (func f) d e) tt
functions_alone f g (suc zero) d e = subst (λ (v : Decl Span). TypesHaveValues v) (same_Some (func g) d e) tt
functions_alone f g (suc (suc i)) d e = absurd cc

values : ValuesAreWritten use_in_main
unfolding use_in_main
values = λ i d e. functions_alone _ main i d e

keeping : KeepingStep use_in_main literal
unfolding use_in_main in_body is_literal_use is_plain_call
keeping = record { form_is = refl; translated = is_translated; no_constants = no_groups; values_written = values; none_removed = refl }

-- so the program stays well typed
typed_after : IsTrue (are_well_typed packages) → IsTrue (are_well_typed (with_literal use_in_main literal))
unfolding use_in_main
typed_after t = well_typed_after use_in_main literal (literal_step use_in_main literal keeping t) t
