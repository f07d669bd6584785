-- Lists of lines with a newline after the last.
use Rattle.std.proofs.Common.{◌≡◌, ◌++◌, ℕ, false, List, [], ◌∷◌, Some, None, refl, sym, ap, ◌∙◌, append_assoc, append-nil}
use Rattle.go_tree.specs.Tree.{Stmts, no_stmts, stmt_and, ValueSpecs, no_specs, spec}
use Rattle.go_layout.specs.Layouts.{text_of}
use Rattle.go_layout.specs.TreeLayout.{stmts_layout, specs_layout, spec_type_layout, equals_before, exprs_layout}
use Rattle.go_layout.specs.TypeLayout.{names_layout}
use Rattle.go_print.specs.Parts.{text_if, has_stmts, has_specs}

last_line : (a e : List ℕ) → a ++ (e ++ []) ≡ (a ++ []) ++ e
last_line a e = ap (λ ys. a ++ ys) (append-nil e) ∙ sym (ap (λ ys. ys ++ e) (append-nil a))

further : (a b r r' e : List ℕ) → r' ≡ r ++ e → a ++ (b ++ r') ≡ (a ++ (b ++ r)) ++ e
further a b r r' e h = ap (λ ys. a ++ (b ++ ys)) h ∙ sym (append_assoc a (b ++ r) e ∙ ap (λ ys. a ++ ys) (append_assoc b r e))

last_spec : (a b c d e : List ℕ) → a ++ (b ++ (c ++ (d ++ (e ++ [])))) ≡ (a ++ (b ++ (c ++ (d ++ [])))) ++ e
last_spec a b c d e = simp (append_assoc, append-nil)

further_spec : (a b c d f r r' e : List ℕ) → r' ≡ r ++ e → a ++ (b ++ (c ++ (d ++ (f ++ r')))) ≡ (a ++ (b ++ (c ++ (d ++ (f ++ r))))) ++ e
further_spec a b c d f r r' e h = ap (λ ys. a ++ (b ++ (c ++ (d ++ (f ++ ys))))) h ∙ simp append_assoc

module _ {S : Type 0} where
  pub stmts_ended : (i j : List ℕ) (l : Stmts S) → text_of (stmts_layout i (Some j) l) ≡ text_of (stmts_layout i None l) ++ text_if (has_stmts l) (10 ∷ j)
  stmts_ended i j no_stmts = refl
  stmts_ended i j (stmt_and x no_stmts) = last_line _ (10 ∷ j)
  stmts_ended i j (stmt_and x (stmt_and y ys)) = further _ (10 ∷ i) _ _ (10 ∷ j) (stmts_ended i j (stmt_and y ys))

  pub specs_ended : (i j : List ℕ) (l : ValueSpecs S) → text_of (specs_layout i (Some j) l) ≡ text_of (specs_layout i None l) ++ text_if (has_specs l) (10 ∷ j)
  specs_ended i j no_specs = refl
  specs_ended i j (spec s ns t xs no_specs) =
      last_spec (text_of (names_layout ns)) (text_of (spec_type_layout t)) (text_of (equals_before xs)) (text_of (exprs_layout i false false xs)) (10 ∷ j)
  specs_ended i j (spec s ns t xs (spec s' ns' t' xs' ss)) =
      further_spec (text_of (names_layout ns)) (text_of (spec_type_layout t)) (text_of (equals_before xs)) (text_of (exprs_layout i false false xs)) (10 ∷ i) _ _ (10 ∷ j) (specs_ended i j (spec s' ns' t' xs' ss))
