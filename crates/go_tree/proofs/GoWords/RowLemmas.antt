-- A word stands in no row of a table but the one that its hash names.
use Rattle.std.proofs.Common.{◌≡◌, ℕ, zero, suc, ◌+◌, ◌<◌, ◌%◌, Bool, true, false, cond, ◌&&◌, nat_eq, List, [], ◌∷◌, slice_index, slice_index_or, length, nat_lt, map, Some, None, refl, sym, ap, ◌∙◌, arith, bytes_eq}
use Rattle.std.proofs.lemmas.Bool.Decides.{nat_tests}
use Rattle.std.proofs.lemmas.Slice.Eq.{bytes_eq-Decides}
use Rattle.go_tree.specs.GoWords.Terminals.{Terminal, keywords, operators, found_in}
use Rattle.go_tree.specs.GoWords.Codes.{row_of, row_at, hash_of, foreign_or}
use Rattle.go_tree.specs.declared.go_words.terminals.TheConstants.{KEYWORD_ROWS, OPERATOR_ROWS}

-- from `at` on each row is the one that `place` names for its word
abbrev placed : (List ℕ → ℕ) → ℕ → List (List ℕ × Terminal) → Bool
placed place at [] = true
placed place at (row ∷ rows) = nat_eq (place row.0) at && placed place (at + 1) rows

both : (a b : Bool) → a && b ≡ true → (a ≡ true) × (b ≡ true)
both true true h = (refl, refl)
both true false h = absurd cc
both false b h = absurd cc

same_words : (u w : List ℕ) → bytes_eq u w ≡ true → u ≡ w
same_words u w h = (bytes_eq-Decides u w).0 h

module _ (place : List ℕ → ℕ) (word : List ℕ) where
  here : (at : ℕ) (u : List ℕ) → nat_eq (place u) at ≡ true → bytes_eq u word ≡ true → place word ≡ at
  here at u p e = ap place (sym (same_words u word e)) ∙ is (place u) at p
    where
      is : (a b : ℕ) → nat_eq a b ≡ true → a ≡ b
      is a b h = grind (arith, nat_tests, h)

  none_after : (at : ℕ) (rows : List (List ℕ × Terminal)) → placed place at rows ≡ true → place word < at → row_of rows word ≡ None
  none_after at [] p lt = refl
  none_after at (row ∷ rows) p lt =
      let parts = both (nat_eq (place row.0) at) (placed place (at + 1) rows) p in
      by_test (bytes_eq row.0 word) (λ e. let same = here at row.0 parts.0 e in omega (arith, same, lt)) (none_after (at + 1) rows parts.1 (omega (arith, lt)))
    where
      by_test : (b : Bool) → (b ≡ true → ⊥) → row_of rows word ≡ None → cond b (Some row.1) (row_of rows word) ≡ None
      by_test true never ih = absurd (never refl)
      by_test false never ih = ih

  pub one_row : (at : ℕ) (rows : List (List ℕ × Terminal)) → placed place at rows ≡ true → (k : ℕ) → place word ≡ at + k → row_of rows word ≡ row_at rows k word
  one_row at [] p k e = refl
  one_row at (row ∷ rows) p zero e =
      let parts = both (nat_eq (place row.0) at) (placed place (at + 1) rows) p in
      by_test (bytes_eq row.0 word) (none_after (at + 1) rows parts.1 (omega (arith, e)))
    where
      by_test : (b : Bool) → row_of rows word ≡ None → cond b (Some row.1) (row_of rows word) ≡ cond b (Some row.1) None
      by_test true ih = refl
      by_test false ih = ih
  one_row at (row ∷ rows) p (suc k) e =
      let parts = both (nat_eq (place row.0) at) (placed place (at + 1) rows) p in
      by_test (bytes_eq row.0 word) (λ t. let same = here at row.0 parts.0 t in omega (arith, same, e)) (one_row (at + 1) rows parts.1 k (omega (arith, e)))
    where
      by_test : (b : Bool) → (b ≡ true → ⊥) → row_of rows word ≡ row_at rows k word → cond b (Some row.1) (row_of rows word) ≡ row_at rows k word
      by_test true never ih = absurd (never refl)
      by_test false never ih = ih

keyword_place : List ℕ → ℕ
keyword_place word = slice_index KEYWORD_ROWS (hash_of 4 6 word % 64)

keywords_placed : placed keyword_place 0 keywords ≡ true
unfolding keyword_place
keywords_placed = refl

pub keyword_row : (word : List ℕ) (hash at : ℕ) → hash ≡ hash_of 4 6 word → at ≡ slice_index KEYWORD_ROWS (hash % 64) → row_at keywords at word ≡ row_of keywords word
unfolding keyword_place
keyword_row word hash at h e =
    ap (λ (k : ℕ). row_at keywords k word) (e ∙ ap (λ (k : ℕ). slice_index KEYWORD_ROWS (k % 64)) h)
    ∙ sym (one_row keyword_place word 0 keywords keywords_placed (keyword_place word) (omega arith))

operator_place : List ℕ → ℕ
operator_place word = slice_index OPERATOR_ROWS (hash_of 26 19 word % 128)

operators_placed : placed operator_place 0 operators ≡ true
unfolding operator_place
operators_placed = refl

pub operator_row : (word : List ℕ) (hash at : ℕ) → hash ≡ hash_of 26 19 word → at ≡ slice_index OPERATOR_ROWS (hash % 128) → row_at operators at word ≡ row_of operators word
unfolding operator_place
operator_row word hash at h e =
    ap (λ (k : ℕ). row_at operators k word) (e ∙ ap (λ (k : ℕ). slice_index OPERATOR_ROWS (k % 128)) h)
    ∙ sym (one_row operator_place word 0 operators operators_placed (operator_place word) (omega arith))

-- ---- a row as code finds it

module _ {X : Type 0} (f : X → List ℕ × Terminal) (word : List ℕ) where
  pub row_some : (xs : List X) (at : ℕ) (d x : X) → true ≡ nat_lt at (length xs) → x ≡ slice_index_or xs at d → row_at (map f xs) at word ≡ cond (bytes_eq (f x).0 word) (Some (f x).1) None
  row_some [] at d x lt e = absurd (grind (arith, nat_tests, lt))
  row_some (y ∷ xs) zero d x lt e = ap (λ (z : X). cond (bytes_eq (f z).0 word) (Some (f z).1) None) (sym e)
  row_some (y ∷ xs) (suc at) d x lt e = row_some xs at d x (grind (arith, nat_tests, lt)) e

  pub row_none : (xs : List X) (at : ℕ) → false ≡ nat_lt at (length xs) → row_at (map f xs) at word ≡ None
  row_none [] at lt = refl
  row_none (y ∷ xs) zero lt = absurd (grind (arith, nat_tests, lt))
  row_none (y ∷ xs) (suc at) lt = row_none xs at (grind (arith, nat_tests, lt))

-- ---- what the first row of a word says

pub found_row : (rows : List (List ℕ × Terminal)) (word : List ℕ) → foreign_or (row_of rows word) ≡ found_in rows word
found_row [] word = refl
found_row (row ∷ rows) word = by_test (bytes_eq row.0 word) (found_row rows word)
  where
    by_test : (b : Bool) → foreign_or (row_of rows word) ≡ found_in rows word → foreign_or (cond b (Some row.1) (row_of rows word)) ≡ cond b row.1 (found_in rows word)
    by_test true ih = refl
    by_test false ih = ih
