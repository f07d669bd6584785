-- The packages of a run in dependency order, and by their numbers.
use Rattle.std.proofs.Common.{◌≡◌, refl, sym, ◌∙◌, ℕ, Bool, true, false, not, ◌&&◌, ◌||◌, List, [], ◌∷◌, ◌++◌}
use Rattle.std.specs.Prelude.{nat_eq}
use Rattle.std.specs.List.{list_any}
use Rattle.std.proofs.lemmas.Slice.Eq.{bytes_eq-Decides}
use Rattle.pkg_graph.specs.Package as run
use Rattle.pkg_graph.specs.Package.{SourceTree}
use Rattle.go_kernel.specs.Kernel.{same_text}
use Rattle.go_translation.specs.Packages.{Package, has_path, has_number, are_distinct}
use Rattle.typed_in_place.proofs.Rising.{and_first, and_second}
use Rattle.run_rules.specs.Programs.{linked_package, numbered}
use Rattle.order_runs.specs.RunSteps.RunPackages.{with_path, members_among, members_of}
use Rattle.order_runs.specs.CycleRuns.OrderCycles.Orders.{AllOrdered}
use Rattle.order_runs.proofs.CycleRuns.OrderCycles.Swaps.{Swaps, no_items, later_items, first_two, and_then, swaps-back}
use Rattle.order_runs.proofs.CycleRuns.OrderCycles.Orders.{order-swaps}
use Rattle.order_runs.specs.SameCodes.Orders.{PackagesReordered, no_packages, same_first, swapped, one_after_another}
use Rattle.order_runs.proofs.Likened.{distinct-reordered}

either-false : (a b : Bool) → not (a || b) ≡ true → a ≡ false
either-false true b e = cc
either-false false b e = refl

first-false : (a b : Bool) → (a || b) ≡ false → a ≡ false
first-false true b e = cc
first-false false b e = refl

text-back : (a b : List ℕ) → same_text a b ≡ false → same_text b a ≡ false
text-back a b e = by (same_text b a) refl
  where
    by : (t : Bool) → same_text b a ≡ t → t ≡ false
    by false g = refl
    by true g = sym ((bytes_eq-Decides a b).1 (sym ((bytes_eq-Decides b a).0 g))) ∙ e

module _ {S : Type 0} where
  reordered-itself : (xs : List (Package S)) → PackagesReordered xs xs
  reordered-itself [] = no_packages
  reordered-itself (x ∷ xs) = same_first x (reordered-itself xs)

  module _ (ps : List (run.Package S)) (Q : List (Package S)) where
    one-first : (a : ℕ × run.Package S) (fs : List (SourceTree S)) (xs ys : List (Package S)) → (are_distinct (xs ++ Q) ≡ true → PackagesReordered (xs ++ Q) (ys ++ Q)) → are_distinct ((with_path a.1.path (linked_package ps a fs) ++ xs) ++ Q) ≡ true
        → PackagesReordered ((with_path a.1.path (linked_package ps a fs) ++ xs) ++ Q) ((with_path a.1.path (linked_package ps a fs) ++ ys) ++ Q)
    one-first a [] xs ys r d = r d
    one-first a (f ∷ fs) xs ys r d = same_first _ (r (and_second (not (list_any (has_path a.1.path) (xs ++ Q) || list_any (has_number a.0) (xs ++ Q))) (are_distinct (xs ++ Q)) d))

    two-first : (a b : ℕ × run.Package S) (fs gs : List (SourceTree S)) (xs : List (Package S)) → nat_eq a.0 b.0 ≡ false
        → are_distinct ((with_path a.1.path (linked_package ps a fs) ++ (with_path b.1.path (linked_package ps b gs) ++ xs)) ++ Q) ≡ true
        → PackagesReordered ((with_path a.1.path (linked_package ps a fs) ++ (with_path b.1.path (linked_package ps b gs) ++ xs)) ++ Q) ((with_path b.1.path (linked_package ps b gs) ++ (with_path a.1.path (linked_package ps a fs) ++ xs)) ++ Q)
    two-first a b [] gs xs e d = reordered-itself ((with_path b.1.path (linked_package ps b gs) ++ xs) ++ Q)
    two-first a b (f ∷ fs) [] xs e d = reordered-itself ((with_path a.1.path (linked_package ps a (f ∷ fs)) ++ xs) ++ Q)
    two-first a b (f ∷ fs) (g ∷ gs) xs e d =
        let later : Bool = list_any (has_path a.1.path) (xs ++ Q) in
        let path : Bool = same_text b.1.path a.1.path in
        let numbers : Bool = nat_eq b.0 a.0 || list_any (has_number a.0) (xs ++ Q) in
        let rest : Bool = not ((list_any (has_path b.1.path) (xs ++ Q)) || list_any (has_number b.0) (xs ++ Q)) && are_distinct (xs ++ Q) in
        swapped _ _ (xs ++ Q) e (text-back b.1.path a.1.path (first-false path later (either-false (path || later) numbers (and_first (not ((path || later) || numbers)) rest d))))

    swaps-members : {xs ys : List (ℕ × run.Package S)} → Swaps xs ys → are_distinct (members_among ps xs ++ Q) ≡ true → PackagesReordered (members_among ps xs ++ Q) (members_among ps ys ++ Q)
    swaps-members no_items d = reordered-itself Q
    swaps-members (later_items x {xs = xs} {ys = ys} s) d = one-first x x.1.files (members_among ps xs) (members_among ps ys) (swaps-members s) d
    swaps-members (first_two x y xs e) d = two-first x y x.1.files y.1.files (members_among ps xs) e d
    swaps-members (and_then s t) d = let r = swaps-members s d in one_after_another r (swaps-members t (sym (distinct-reordered r) ∙ d))

    module _ (all : AllOrdered ps) where
      pub to-numbers : are_distinct (members_of ps ++ Q) ≡ true → PackagesReordered (members_of ps ++ Q) (members_among ps (numbered ps) ++ Q)
      to-numbers d = swaps-members (order-swaps ps all) d

      pub from-numbers : are_distinct (members_among ps (numbered ps) ++ Q) ≡ true → PackagesReordered (members_among ps (numbered ps) ++ Q) (members_of ps ++ Q)
      from-numbers d = swaps-members (swaps-back (order-swaps ps all)) d
