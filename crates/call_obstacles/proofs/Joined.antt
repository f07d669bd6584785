-- What the code is told of a call says what keeps it.
use Rattle.std.proofs.Common.{◌≡◌, ◌∙◌, ℕ, zero, suc, Bool, List, [], ◌∷◌, map, Option, Some, None, refl, ap}
use Rattle.std.specs.Prelude.{if◌then◌else◌, slice_get}
use Rattle.go_tree.specs.declared.spans.Span.{Span}
use Rattle.go_tree.specs.GoTypes.Answers.{given, one_of}
use Rattle.pkg_graph.specs.ModuleFiles.Internal.{may_import}
use Rattle.pkg_graph.specs.Package.{Package}
use Rattle.pkg_graph.specs.declared.packages.Package as code
use Rattle.pkg_graph.specs.Views.{package_view}
use Rattle.constant_forms.specs.Told.{path_at}
use Rattle.run_rules.specs.Calls.{Call}
use Rattle.run_rules.specs.FormTrees.{FormKind}
use Rattle.run_rules.specs.Naming.{package_path}
use Rattle.run_rules.specs.Obstacles.{Internal, Recursive, CommentInside, Spread, Repeated, first_answer, obstacle_if, refused_import}
use Rattle.run_rules.specs.Reduced.{call_obstacle}
use Rattle.run_rules.specs.Respanned.{packages_with}
use Rattle.run_rules.specs.Run.{Standing, here_of, is_commented}
use Rattle.run_rules.specs.Sites.{MarkRef, Site}
use Rattle.run_rules.specs.Steps.{At, same_here}
use Rattle.call_obstacles.specs.Calls.{IsToldUse}
use Rattle.call_obstacles.specs.Told.{refused_path, obstacle_told}
use Rattle.call_obstacles.specs.declared.uses.CallUse.{CallUse}

-- ---- paths

abbrev path_in : Option (Package Span) → List ℕ
path_in o = elim o [ None ↦ [] | Some p ↦ p.path ]

viewed : (cs : List code.Package) (q : ℕ) → path_at cs q ≡ path_in (slice_get (map package_view cs) q)
viewed [] q = refl
viewed (c ∷ cs) zero = refl
viewed (c ∷ cs) (suc q) = viewed cs q

standing : (ps : List (Package At)) (q : ℕ) → path_in (slice_get (packages_with here_of ps) q) ≡ package_path ps q
standing [] q = refl
standing (p ∷ ps) zero = refl
standing (p ∷ ps) (suc q) = standing ps q

path_is : (cs : List code.Package) (ps : List (Package At)) (q : ℕ) → map package_view cs ≡ packages_with here_of ps → path_at cs q ≡ package_path ps q
path_is cs ps q e = viewed cs q ∙ ap (λ (xs : List (Package Span)). path_in (slice_get xs q)) e ∙ standing ps q

module _ (marks : List MarkRef) (st : Standing) (x : Site At) (c : Call At) (kept : List Bool) (k : FormKind) (u : CallUse) (t : IsToldUse marks st x c kept k u) where
  own_path : path_at u.packages.now u.there ≡ x.at.of.path
  own_path =
      path_is u.packages.now st.packages u.there t.packages_are ∙ ap (package_path st.packages) t.there_is
      ∙ ap (λ (o : Option (Package At)). elim o [ None ↦ [] | Some p ↦ p.path ]) t.package_is

  refused_is : (q : ℕ) → refused_path u q ≡ refused_import st.packages c.home x.at x.place q
  refused_is q =
      let e : path_at u.packages.now q ≡ package_path st.packages q = path_is u.packages.now st.packages q t.packages_are in
      λ v. if may_import (own_path v) (e v) then None else Some (e v)

  first_is : (qs : List ℕ) → first_answer (refused_path u) qs ≡ first_answer (refused_import st.packages c.home x.at x.place) qs
  first_is [] = refl
  first_is (q ∷ qs) = λ v. one_of (refused_is q v) (first_is qs v)

  pub told_is : obstacle_told u ≡ call_obstacle same_here (is_commented st) st.packages marks x c kept k
  told_is = λ v.
      one_of (t.hidden_is v)
      (one_of (given (first_is (t.needed_are v) v) (λ path. Some (Internal path)))
      (one_of (t.shadowed_is v)
      (one_of (obstacle_if (t.recursive_is v) Recursive)
      (one_of (obstacle_if (t.commented_is v) CommentInside)
      (one_of (obstacle_if (t.spread_is v) Spread)
      (obstacle_if (t.repeated_is v) Repeated))))))
