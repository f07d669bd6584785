-- A chain of two packages is linked; two packages with one path aren't.
use Rattle.std.proofs.Common.{◌≡◌, refl, sym, ◌∙◌, ap, ℕ, zero, suc, true, false, List, [], ◌∷◌, None, Some, codes, arith}
use Rattle.std.specs.Prelude.{bytes_eq, slice_get}
use Rattle.std.proofs.lemmas.Option.{same_Some}
use Rattle.std.proofs.lemmas.Slice.Eq.{bytes_eq-Decides}
use Rattle.go_tree.specs.File.{ImportDecl}
use Rattle.pkg_graph.specs.Package.{Package}
use Rattle.run_rules.specs.Steps.{At}
use Rattle.order_runs.specs.CycleRuns.OrderCycles.Orders.{AllOrdered}
use Rattle.order_runs.specs.CycleRuns.OrderedSteps.Ranks.{OwnPaths}
use Rattle.order_runs.specs.CycleRuns.Linked.{Linked}

abbrev z : At
z = record { here = record { start = 0; end = 0 }; origin = record { start = 0; end = 0 } }

abbrev of_path : List ℕ → List (ImportDecl At) → Package At
of_path path is = record {
  path = path;
  name = path;
  files = record { path = path; tree = record { package_name = record { span = z; name = path }; imports = is; decls = [] } } ∷ [];
}

abbrev first : Package At
first = of_path (codes "d") []

-- it imports the first
abbrev second : Package At
second = of_path (codes "h") (record { span = z; grouped = false; specs = record { span = z; name = None; path = codes "d" } ∷ [] } ∷ [])

abbrev chain : List (Package At)
chain = first ∷ second ∷ []

apart : (x y : List ℕ) → bytes_eq x y ≡ false → x ≡ y → ⊥
apart x y f e = let c : true ≡ false = sym ((bytes_eq-Decides x y).1 e) ∙ f in cc

chain-own : OwnPaths chain
chain-own zero zero p q e f s = refl
chain-own (suc zero) (suc zero) p q e f s = refl
chain-own zero (suc zero) p q e f s =
    absurd (apart (codes "d") (codes "h") refl (ap (λ (x : Package At). x.path) (same_Some first p e) ∙ s ∙ sym (ap (λ (x : Package At). x.path) (same_Some second q f))))
chain-own (suc zero) zero p q e f s =
    absurd (apart (codes "h") (codes "d") refl (ap (λ (x : Package At). x.path) (same_Some second p e) ∙ s ∙ sym (ap (λ (x : Package At). x.path) (same_Some first q f))))
chain-own (suc (suc j)) k p q e f s = cc
chain-own zero (suc (suc k)) p q e f s = cc
chain-own (suc zero) (suc (suc k)) p q e f s = cc

chain-some : (k : ℕ) (p : Package At) → slice_get chain k ≡ Some p → p.path ≡ [] → ⊥
chain-some zero p e s = apart (codes "d") [] refl (ap (λ (x : Package At). x.path) (same_Some first p e) ∙ s)
chain-some (suc zero) p e s = apart (codes "h") [] refl (ap (λ (x : Package At). x.path) (same_Some second p e) ∙ s)
chain-some (suc (suc k)) p e s = cc

chain-ordered : AllOrdered chain
chain-ordered zero p e = refl
chain-ordered (suc zero) p e = refl
chain-ordered (suc (suc k)) p e = cc

chain-linked : Linked chain
chain-linked = record { own = chain-own; paths = chain-some; ordered = chain-ordered }

-- one path twice
never-own : OwnPaths (first ∷ first ∷ []) → ⊥
never-own h = let e : 0 ≡ 1 = h 0 1 first first refl refl refl in absurd (omega (arith, e))
