-- A whole program with a literal in the place of its call shows the same, whether its imports are right or not.
use Rattle.std.proofs.Common.{◌≡◌, ◌∙◌, sym, ap, subst, ℕ, true, List, [], ◌∷◌, ◌++◌}
use Rattle.go_tree.specs.declared.spans.Span.{Span}
use Rattle.go_tree.specs.ScopeNames.FreeNames.{names_of}
use Rattle.go_tree.specs.Tree.{Expr}
use Rattle.go_tree.specs.GoTypes.Entities.{Env, meaning}
use Rattle.go_kernel.specs.Kernel.{ImportPath}
use Rattle.go_translation.specs.Packages as translated
use Rattle.go_translation.specs.Packages.{paths_in, are_well_typed, freely_shown_by}
use Rattle.run_rules.specs.Calls.{body_seen}
use Rattle.run_rules.specs.FormTrees.{as_expr, top}
use Rattle.run_rules.specs.Places.{sig_seen}
use Rattle.run_rules.specs.Sites.{part_span}
use Rattle.constant_steps.specs.StepLaws.SwapPrograms.{put_decl}
use Rattle.literal_steps.specs.AddedImports.Beside.{CalledBeside}
use Rattle.literal_steps.specs.CalledAt.{PackagesServe}
use Rattle.literal_steps.specs.LiteralUse.{call_of, names_of_form}
use Rattle.literal_steps.specs.RankedMarks.Free.{Translated, NoConstantGroups}
use Rattle.literal_steps.specs.ServedParts.{AllServed, AllAway}
use Rattle.meaning_in_place.proofs.Packages.{packages_same}
use Rattle.meaning_in_place.specs.Runs.{StandBeside}
use Rattle.literals_in_place.specs.TypedSteps.Uses.{UseInBody, with_literal, free_in, marked_in}
use Rattle.literals_in_place.proofs.FurtherLiterals.{stand_beside}
use Rattle.literals_in_place.proofs.StepsInBodies.Shows.{paths_same}
use Rattle.literals_in_place.proofs.TypedSteps.Shows.{serve}
use Rattle.literal_imports.proofs.Kept as kept

append_none : {A : Type 0} (xs : List A) → xs ++ [] ≡ xs
append_none [] = λ v. []
append_none (x ∷ xs) = λ v. x ∷ append_none xs v

module _ (x : UseInBody Span) (e : Expr Span) (form_is : x.becomes.form ≡ as_expr e) (all : Translated x.packages x.marks x.members) (plain : NoConstantGroups x.packages x.marks) (t : are_well_typed x.members ≡ true) where
  -- at the place of the use all is as literal_steps asks
  beside_there : CalledBeside x.packages x.members x.site [] (kept.put x e form_is).place
  beside_there =
      record {
        world_is = ap (λ (w : Env). w.world) (kept.put x e form_is).there.names ∙ (kept.beside x e form_is).world_is;
        home_is = ap (λ (w : Env). w.home) (kept.put x e form_is).there.names ∙ (kept.beside x e form_is).home_is;
        no_constant = ap (λ (w : Env). w.iota) (kept.put x e form_is).there.names ∙ (kept.beside x e form_is).no_constant;
        paths_are = (kept.put x e form_is).there.imports;
        outer = λ n i. ap (λ (w : Env). meaning w n) (kept.put x e form_is).there.names ∙ (kept.beside x e form_is).outer n i;
        blank = (kept.beside x e form_is).blank;
        locals = (kept.put x e form_is).there.locals;
        besides = (kept.beside x e form_is).besides;
      }

  serve_there : PackagesServe x.packages x.members x.site x.same x.commented x.marks x.becomes (kept.put x e form_is).place
  serve_there =
      record {
        types =
            subst (λ (w : Env). AllServed x.packages x.becomes.home (names_of_form x.same x.commented x.packages x.marks x.site x.becomes) w.names (names_of x.site.place.bound) (sig_seen (top x.packages (call_of x.same x.commented x.packages x.marks x.site x.becomes)) x.becomes.callee.sig)) (sym (kept.put x e form_is).there.names)
            (serve x).types;
        body =
            subst (λ (w : Env). AllServed x.packages x.becomes.home (names_of_form x.same x.commented x.packages x.marks x.site x.becomes) w.names (names_of x.site.place.bound) (body_seen x.same x.packages (call_of x.same x.commented x.packages x.marks x.site x.becomes))) (sym (kept.put x e form_is).there.names)
            (serve x).body;
        types_away =
            subst (λ (w : Env). AllAway x.packages x.becomes.home x.site.at.number (names_of_form x.same x.commented x.packages x.marks x.site x.becomes) w.names (names_of x.site.place.bound) (sig_seen (top x.packages (call_of x.same x.commented x.packages x.marks x.site x.becomes)) x.becomes.callee.sig))
            (sym (kept.put x e form_is).there.names) (serve x).types_away;
        body_away =
            subst (λ (w : Env). AllAway x.packages x.becomes.home x.site.at.number (names_of_form x.same x.commented x.packages x.marks x.site x.becomes) w.names (names_of x.site.place.bound) (body_seen x.same x.packages (call_of x.same x.commented x.packages x.marks x.site x.becomes)))
            (sym (kept.put x e form_is).there.names) (serve x).body_away;
      }

  with_none : are_well_typed (x.members ++ []) ≡ true
  with_none = ap (λ (ms : List (translated.Package Span)). are_well_typed ms) (append_none x.members) ∙ t

  stands : StandBeside (free_in x) (marked_in x) x.members (with_literal x e) []
  stands =
      stand_beside x.same x.commented x.packages x.marks x.site x.becomes x.by_name x.members x.linked_so [] (kept.put x e form_is).place beside_there serve_there e form_is all plain [] with_none (with_literal x e)
      (paths_same (put_decl x.same x.packages (part_span x.site.part) e x.site.at.number x.site.at.of x.site.at.source.tree) x.site.at.file_number x.site.decl x.stands.nth x.members) (kept.put x e form_is).put

  pub shown : (main : ImportPath) (choices : List ℕ) (n : ℕ) → freely_shown_by x.members (free_in x) (marked_in x) main choices n ≡ freely_shown_by (with_literal x e) (free_in x) (marked_in x) main choices n
  shown main choices n =
      (λ i. freely_shown_by (sym (append_none x.members) i) (free_in x) (marked_in x) main choices n)
      ∙ packages_same (free_in x) (marked_in x) stands.rank stands.bounded stands.below (x.members ++ []) (with_literal x e ++ []) stands.each stands.parts main choices n
      ∙ (λ i. freely_shown_by (append_none (with_literal x e) i) (free_in x) (marked_in x) main choices n)
