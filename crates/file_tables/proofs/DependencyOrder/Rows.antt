-- Rows that grow.
use Rattle.std.proofs.Common.{◌≡◌, ◌∙◌, refl, sym, ap, subst, ℕ, zero, suc, ◌+◌, ◌<◌, ◌≤◌, List, [], ◌∷◌, ◌++◌, length, take, get_or, Some, append_assoc, append-nil, arith, replicate, slice_set, ◌⊎◌, inl, inr, Bool, true, false, nat_eq}
use Rattle.std.specs.Prelude.{slice_get}
use Rattle.std.proofs.lemmas.List.{take_more, take_all, length-set, length-replicate, get_or-set_same, get_or-set_other}
use Rattle.std.proofs.lemmas.Option.{same_Some, slice_get_within}
use Rattle.std.proofs.lemmas.Bool.{eqb-true, eqb-false}
use Rattle.go_tree.specs.declared.spans.Span.{Span}
use Rattle.pkg_graph.specs.ImportOrder.Numbers.{row}
use Rattle.pkg_graph.specs.Package.{Package}
use Rattle.pkg_graph.specs.Graph.{imports_of}
use Rattle.file_tables.specs.DependencyOrder.Links.{numbers_of, AddsTo, AreLinksOf}

-- nothing comes
pub adds_nothing : (k : ℕ) (rows : List (List ℕ)) → AddsTo k [] rows rows
adds_nothing k rows = record { size = refl; here = sym (append-nil (row rows k)); others = λ j h. refl }

-- one more comes
pub adds_one : (k n : ℕ) (ns : List ℕ) (old was now : List (List ℕ)) → k < length old → AddsTo k ns old was → now ≡ slice_set was k (row was k ++ n ∷ []) → AddsTo k (ns ++ n ∷ []) old now
adds_one k n ns old was now h a e =
    let l : k < length was = omega (arith, h, a.size) in
    record {
      size = ap length e ∙ length-set was k (row was k ++ n ∷ []) ∙ a.size;
      here =
          ap (λ (rows : List (List ℕ)). row rows k) e ∙ get_or-set_same was k (row was k ++ n ∷ []) [] l
          ∙ ap (λ (ms : List ℕ). ms ++ n ∷ []) a.here ∙ append_assoc (row old k) ns (n ∷ []);
      others = λ j g. ap (λ (rows : List (List ℕ)). row rows j) e ∙ get_or-set_other was k j (row was k ++ n ∷ []) [] g ∙ a.others j g;
    }

-- the numbers of a list, one by one
pub one_taken : (k : ℕ) (ns : List ℕ) (i d : ℕ) (old was now : List (List ℕ)) → i < length ns → k < length old → AddsTo k (take i ns) old was
    → now ≡ slice_set was k (row was k ++ get_or ns i d ∷ []) → AddsTo k (take (i + 1) ns) old now
one_taken k ns i d old was now h l a e = subst (λ (ms : List ℕ). AddsTo k ms old now) (sym (take_more ns i d h)) (adds_one k (get_or ns i d) (take i ns) old was now l a e)

pub all_taken : (k : ℕ) (ns : List ℕ) (i : ℕ) (old now : List (List ℕ)) → length ns ≤ i → AddsTo k (take i ns) old now → AddsTo k ns old now
all_taken k ns i old now h a = subst (λ (ms : List ℕ). AddsTo k ms old now) (take_all i ns h) a

-- ---- the rows of packages, one after another

nat_cases : (j k : ℕ) → (j ≡ k) ⊎ (j ≡ k → ⊥)
nat_cases j k = by (nat_eq j k) refl
  where
    by : (b : Bool) → nat_eq j k ≡ b → (j ≡ k) ⊎ (j ≡ k → ⊥)
    by true e = inl (eqb-true j k e)
    by false e = inr (eqb-false j k e)

module _ (ps : List (Package Span)) (paths : List (List ℕ)) where
  -- The rows of the first packages are done, the others are empty.
  pub record AreDone (i : ℕ) (rows : List (List ℕ)) : Type 0 where
    pub size : length rows ≡ length ps
    pub done : (k : ℕ) (p : Package Span) → k < i → slice_get ps k ≡ Some p → row rows k ≡ numbers_of paths (imports_of p)
    pub rest : (k : ℕ) → i ≤ k → row rows k ≡ []

  empty_row : (n k : ℕ) → row (replicate n []) k ≡ []
  empty_row zero k = refl
  empty_row (suc n) zero = refl
  empty_row (suc n) (suc k) = empty_row n k

  pub none_done : (rows : List (List ℕ)) → rows ≡ replicate (length ps) [] → AreDone 0 rows
  none_done rows e =
      record {
        size = ap length e ∙ length-replicate (length ps) [];
        done = λ k p h g. absurd (omega (arith, h));
        rest = λ k h. ap (λ (rs : List (List ℕ)). row rs k) e ∙ empty_row (length ps) k;
      }

  pub one_done : (i : ℕ) (p : Package Span) (ns : List ℕ) (was now : List (List ℕ)) → slice_get ps i ≡ Some p → ns ≡ numbers_of paths (imports_of p) → AreDone i was → AddsTo i ns was now → AreDone (i + 1) now
  one_done i p ns was now g e a t =
      record {
        size = t.size ∙ a.size;
        done = λ k q h f. by k q h f (nat_cases k i);
        rest = λ k h. let other : k ≡ i → ⊥ = λ z. absurd (omega (arith, h, z)) in let l : i ≤ k = omega (arith, h) in t.others k other ∙ a.rest k l;
      }
    where
      by : (k : ℕ) (q : Package Span) → k < i + 1 → slice_get ps k ≡ Some q → (k ≡ i) ⊎ (k ≡ i → ⊥) → row now k ≡ numbers_of paths (imports_of q)
      by k q h f (inl z) =
          let l : i ≤ i = omega arith in
          ap (row now) z ∙ t.here ∙ ap (λ (ms : List ℕ). ms ++ ns) (a.rest i l) ∙ e
          ∙ ap (λ (r : Package Span). numbers_of paths (imports_of r)) (same_Some p q (sym g ∙ ap (slice_get ps) (sym z) ∙ f))
      by k q h f (inr z) = let l : k < i = omega (arith, h, z) in t.others k z ∙ a.done k q l f

  pub all_done : (i : ℕ) (rows : List (List ℕ)) → length ps ≤ i → AreDone i rows → AreLinksOf ps paths rows
  all_done i rows h a =
      record {
        size = a.size;
        each = λ k p g. let w : k < length ps = slice_get_within ps k p g in let l : k < i = omega (arith, h, w) in a.done k p l g;
      }
