-- An identifier stands for no package that has no name yet.
use Rattle.std.proofs.Common.{◌≡◌, ℕ, zero, suc, ◌<◌, Bool, true, false, List, [], ◌∷◌, Option, Some, None, get_or, refl, sym, ap, subst, ◌∙◌, arith}
use Rattle.std.specs.Prelude.{encode_utf8_all}
use Rattle.std.specs.Str.{chars}
use Rattle.std.proofs.lemmas.Str.{chars-encodes, inside_one, length-encode, len_utf8_bounds}
use Rattle.ucd_category.specs.GeneralCategory.{general_category}
use Rattle.ucd_category.specs.GeneralCategoryRows.{general_category_rows}
use Rattle.ucd_table.specs.Rows.{value_in}
use Rattle.go_tree.specs.GoWords.Tokens.Characters.{is_letter, is_word, each}
use Rattle.go_tree.specs.GoWords.Tokens.Pieces.{is_identifier}
use Rattle.go_scan.proofs.Derivatives.{and_parts}
use Rattle.go_layout.specs.LayoutLaws.Formed.{IsName}
use Rattle.run_rules.specs.Naming.{unnamed_package, new_first, unnamed_in}

zero_letter : is_letter 0 ≡ false
unfolding is_letter general_category general_category_rows value_in
zero_letter = refl

clash : (b : Bool) → b ≡ true → b ≡ false → ⊥
clash b p q = cc

-- no identifier begins with the byte 0
no_zero : (m : List ℕ) → IsName m → get_or m 0 1 ≡ 0 → ⊥
no_zero m name e = by_word name.0.0 name.0.1.1 (subst (λ (v : List ℕ). is_identifier v ≡ true) (sym (ap chars name.0.1.1) ∙ chars-encodes name.0.0 name.0.1.0) name.1.0)
  where
    by_word : (w : List ℕ) → encode_utf8_all w ≡ m → is_identifier w ≡ true → ⊥
    by_word [] enc h = absurd cc
    by_word (c ∷ cs) enc h =
        let first : get_or (encode_utf8_all (c ∷ cs)) 0 1 ≡ 0 = ap (λ (l : List ℕ). get_or l 0 1) enc ∙ e in
        let there : 0 < 1 = omega arith in
        let is : c ≡ get_or (encode_utf8_all (c ∷ cs)) 0 0 = inside_one c (encode_utf8_all cs) (encode_utf8_all (c ∷ cs)) 0 refl (omega (arith, length-encode c, (len_utf8_bounds c).0)) (small (encode_utf8_all (c ∷ cs)) first) in
        clash (is_letter c) (and_parts (is_letter c) (each is_word cs) h).0 (ap is_letter (is ∙ same (encode_utf8_all (c ∷ cs)) first) ∙ zero_letter)
      where
        same : (l : List ℕ) → get_or l 0 1 ≡ 0 → get_or l 0 0 ≡ 0
        same [] q = refl
        same (b ∷ bs) q = q

        small : (l : List ℕ) → get_or l 0 1 ≡ 0 → get_or l 0 0 < 128
        small l q = let s = same l q in omega (arith, s)

pub is_named : (m : List ℕ) → IsName m → unnamed_package m ≡ None
is_named [] name = refl
is_named (suc b ∷ bs) name = refl
is_named (zero ∷ []) name = refl
is_named (zero ∷ q ∷ []) name = absurd (no_zero (zero ∷ q ∷ []) name refl)
is_named (zero ∷ q ∷ r ∷ rs) name = refl

pub none_unnamed : (m : List ℕ) → IsName m → unnamed_in (m ∷ []) ≡ []
none_unnamed m name = ap (λ (o : Option ℕ). elim o as (λ r. List ℕ) [ None ↦ [] | Some q ↦ q ∷ [] ]) (is_named m name)

pub none_unnamed_two : (q m : List ℕ) → IsName q → IsName m → unnamed_in (q ∷ m ∷ []) ≡ []
none_unnamed_two q m first name =
    ap (λ (o : Option ℕ). elim o as (λ r. List ℕ) [ None ↦ unnamed_in (m ∷ []) | Some k ↦ k ∷ new_first k (unnamed_in (m ∷ [])) ]) (is_named q first) ∙ none_unnamed m name
