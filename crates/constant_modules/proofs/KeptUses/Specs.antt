-- What holds of each import that stays, and of each that comes, holds of each of the file as it is read again after a
-- step.
use Rattle.std.proofs.Common.{◌≡◌, ◌∙◌, refl, sym, ap, subst, ℕ, zero, suc, ◌+◌, false, List, [], ◌∷◌, ◌++◌, map, length, Some, arith}
use Rattle.std.specs.Prelude.{slice_get}
use Rattle.std.specs.List.{list_any}
use Rattle.std.proofs.lemmas.Option.{same_Some}
use Rattle.go_tree.specs.declared.spans.Span.{Span}
use Rattle.go_tree.specs.File.{ImportSpec, ImportDecl}
use Rattle.pkg_graph.specs.Package.{import_specs, specs_in}
use Rattle.constant_steps.specs.FormImports.ImportLaws.Steps.{removed_specs}
use Rattle.order_runs.specs.CycleRuns.KeptImports.Files.{IsSettled}
use Rattle.order_runs.specs.CycleRuns.StepCycles.PackagesAlike.{import_key}
use Rattle.order_runs.proofs.CycleRuns.KeptImports.Keys.{Key, new_key, keys-bare}
use Rattle.printed_constants.proofs.UsedImports.Settled.{EachSpec, EachLeft, EachNew, of_settled}
use Rattle.run_rules.specs.declared.import_rules.new_import.NewImport.{NewImport}
use Rattle.run_rules.specs.ImportRules.Removed.{same_span}
use Rattle.run_rules.specs.Laws.{file_found}
use Rattle.run_rules.specs.Naming.{imports_added}
use Rattle.run_rules.specs.Respanned.{import_spec_with, import_decl_with}
use Rattle.run_rules.specs.Run.{Standing, Logged, Next, here_of}
use Rattle.run_rules.specs.Sites.{MarkRef, Where}
use Rattle.run_rules.specs.Steps.{At}
use Rattle.splice_laws.specs.ImportSplices.SettledFile.{settled_decls}

plain : (a : ℕ) → 0 + a ≡ a
plain a = omega arith

onward : (a b : ℕ) → suc a + b ≡ a + suc b
onward a b = omega arith

one_more : (a b : ℕ) → suc a + b ≡ suc (a + b)
one_more a b = omega arith

pub nth_front : {A : Type 0} (xs ys : List A) (j : ℕ) (x : A) → slice_get xs j ≡ Some x → slice_get (xs ++ ys) j ≡ Some x
nth_front [] ys j x e = absurd cc
nth_front (y ∷ xs) ys zero x e = e
nth_front (y ∷ xs) ys (suc j) x e = nth_front xs ys j x e

pub nth_behind : {A : Type 0} (xs ys : List A) (j : ℕ) (x : A) → slice_get ys j ≡ Some x → slice_get (xs ++ ys) (length xs + j) ≡ Some x
nth_behind [] ys j x e = (λ v. slice_get ys (plain j v)) ∙ e
nth_behind (y ∷ xs) ys j x e = (λ v. slice_get (y ∷ (xs ++ ys)) (one_more (length xs) j v)) ∙ nth_behind xs ys j x e

specs_with : (ds : List (ImportDecl At)) → specs_in (map (import_decl_with here_of) ds) ≡ map (import_spec_with here_of) (specs_in ds)
specs_with [] = refl
specs_with (d ∷ ds) = (λ z. map (import_spec_with here_of) d.specs ++ specs_with ds z) ∙ sym (map_both d.specs (specs_in ds))
  where
    map_both : (xs ys : List (ImportSpec At)) → map (import_spec_with here_of) (xs ++ ys) ≡ map (import_spec_with here_of) xs ++ map (import_spec_with here_of) ys
    map_both [] ys = refl
    map_both (x ∷ xs) ys = λ z. import_spec_with here_of x ∷ map_both xs ys z

module _ (marks : List MarkRef) (st : Standing) (l : Logged) (after : Standing) (n : Next marks st l after) (P : Key → Type 0) where
  abbrev w : Where At
  w = n.found.site.at

  module _ (stays : (j : ℕ) (s : ImportSpec At) → slice_get (import_specs w.source.tree) j ≡ Some s → list_any (same_span (here_of s.span)) (removed_specs marks st n.found) ≡ false → P (import_key (import_spec_with here_of s)))
      (comes : (j : ℕ) (i : NewImport) → slice_get (imports_added n.found.named) j ≡ Some i → P (new_key i)) where
    each_left : (k : ℕ) (ss : List (ImportSpec At)) → ((j : ℕ) (s : ImportSpec At) → slice_get ss j ≡ Some s → slice_get (import_specs w.source.tree) (k + j) ≡ Some s) → EachLeft P n.old.text n.old.tokens n.old.comments (removed_specs marks st n.found) (map (import_spec_with here_of) ss)
    each_left k [] h = tt
    each_left k (s ∷ ss) h = ((λ left. stays (k + 0) s (h 0 s refl) left), each_left (suc k) ss (λ j y e. (λ z. slice_get (import_specs w.source.tree) (onward k j z)) ∙ h (suc j) y e))

    all_left : EachLeft P n.old.text n.old.tokens n.old.comments (removed_specs marks st n.found) (specs_in (file_found n.found).imports)
    all_left = subst (λ (ss : List (ImportSpec Span)). EachLeft P n.old.text n.old.tokens n.old.comments (removed_specs marks st n.found) ss) (sym (specs_with w.source.tree.imports)) (each_left 0 (import_specs w.source.tree) (λ j s e. (λ z. slice_get (import_specs w.source.tree) (plain j z)) ∙ e))

    each_new : (k : ℕ) (is : List NewImport) → ((j : ℕ) (i : NewImport) → slice_get is j ≡ Some i → slice_get (imports_added n.found.named) (k + j) ≡ Some i) → EachNew P n.old.text n.old.tokens n.old.comments (removed_specs marks st n.found) is
    each_new k [] h = tt
    each_new k (i ∷ is) h = (comes (k + 0) i (h 0 i refl), each_new (suc k) is (λ j y e. (λ z. slice_get (imports_added n.found.named) (onward k j z)) ∙ h (suc j) y e))

    all_new : EachNew P n.old.text n.old.tokens n.old.comments (removed_specs marks st n.found) (imports_added n.found.named)
    all_new = each_new 0 (imports_added n.found.named) (λ j i e. (λ z. slice_get (imports_added n.found.named) (plain j z)) ∙ e)

    each_key : {S T : Type 0} (ss : List (ImportSpec S)) (ts : List (ImportSpec T)) → map import_key ss ≡ map import_key ts → EachSpec P n.old.text n.old.tokens n.old.comments (removed_specs marks st n.found) ts → (i : ℕ) (s : ImportSpec S) → slice_get ss i ≡ Some s → P (import_key s)
    each_key [] ts e h i s g = absurd cc
    each_key (y ∷ ss) [] e h i s g = absurd cc
    each_key (y ∷ ss) (t ∷ ts) e h zero s g = subst P (sym (heads e) ∙ ap import_key (same_Some y s g)) h.0
      where
        heads : import_key y ∷ map import_key ss ≡ import_key t ∷ map import_key ts → import_key y ≡ import_key t
        heads f = cc
    each_key (y ∷ ss) (t ∷ ts) e h (suc i) s g = each_key ss ts (tails e) h.1 i s g
      where
        tails : import_key y ∷ map import_key ss ≡ import_key t ∷ map import_key ts → map import_key ss ≡ map import_key ts
        tails f = cc

    pub of_read : IsSettled n → (i : ℕ) (s : ImportSpec At) → slice_get (import_specs n.tree) i ≡ Some s → P (import_key s)
    of_read settled_so i s e =
        each_key (import_specs n.tree) (specs_in (settled_decls n.old.text n.old.tokens n.old.comments (removed_specs marks st n.found) (imports_added n.found.named) (file_found n.found).imports))
        (sym (keys-bare n.tree.imports) ∙ (λ z. map import_key (specs_in (settled_so z))))
        (of_settled P n.old.text n.old.tokens n.old.comments (removed_specs marks st n.found) (imports_added n.found.named) (file_found n.found).imports all_left all_new) i s e
