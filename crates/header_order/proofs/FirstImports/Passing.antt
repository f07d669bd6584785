-- The first imports that are refused are found file by file.
use Rattle.std.proofs.Common.{◌≡◌, ◌∙◌, ◌++◌, ℕ, zero, suc, List, [], ◌∷◌, Option, Some, None, refl, sym, subst, ap, drop, length, append_assoc}
use Rattle.std.specs.Prelude.{slice_get}
use Rattle.go_tree.specs.declared.spans.Span.{Span}
use Rattle.go_tree.specs.declared.files.FileTree.{FileTree}
use Rattle.pkg_graph.specs.declared.packages.Package.{Package}
use Rattle.typed_names.specs.Meanings.{Names}
use Rattle.header_order.specs.FirstImports.Firsts.{AreFirsts, FirstWith, Passed}

append_none : {A : Type 0} (xs : List A) → xs ++ [] ≡ xs
append_none [] = refl
append_none (x ∷ xs) = ap (λ ys. x ∷ ys) (append_none xs)

one_more : {A : Type 0} (xs : List A) (x : A) → length (xs ++ x ∷ []) ≡ suc (length xs)
one_more [] x = refl
one_more (y ∷ ys) x = ap suc (one_more ys x)

get_drop : {A : Type 0} (n : ℕ) (us : List A) → slice_get us n ≡ slice_get (drop n us) 0
get_drop zero us = refl
get_drop (suc n) [] = refl
get_drop (suc n) (u ∷ us) = get_drop n us

drop_one : {A : Type 0} (n : ℕ) (us : List A) → drop (suc n) us ≡ drop 1 (drop n us)
drop_one zero us = refl
drop_one (suc n) [] = refl
drop_one (suc n) (u ∷ us) = drop_one n us

module _ (packages : List Package) (blocks : List Names) (used : List (List (List ℕ))) where
  -- none is passed
  pub passed_none : (all : List (ℕ × FileTree)) → Passed packages blocks used all all []
  passed_none all more a = a

  -- one more is
  pub passed_one :
      (all left : List (ℕ × FileTree)) (home : ℕ) (tree : FileTree) (old new : List (Option Span)) (o : Option Span) →
      Passed packages blocks used all ((home, tree) ∷ left) old →
      FirstWith packages blocks home tree (slice_get used (length old)) o → new ≡ old ++ o ∷ [] →
      Passed packages blocks used all left new
  passed_one all left home tree old new o p f e more a =
      subst (AreFirsts packages blocks all used)
      (sym (append_assoc old (o ∷ []) more) ∙ ap (λ os. os ++ more) (sym e))
      (p (o ∷ more) (
        subst (λ u. FirstWith packages blocks home tree u o) (get_drop (length old) used) f,
        subst (λ us. AreFirsts packages blocks left us more)
            (ap (λ n. drop n used) (ap length e ∙ one_more old o) ∙ drop_one (length old) used)
            a,
      ))

  -- all are
  pub passed_all :
      (all : List (ℕ × FileTree)) (os : List (Option Span)) → Passed packages blocks used all [] os →
      AreFirsts packages blocks all used os
  passed_all all os p = subst (AreFirsts packages blocks all used) (append_none os) (p [] refl)
