-- What the scanner has looked at when it answers.
use Rattle.std.proofs.Common.{◌≡◌, ℕ, ◌+◌, ◌≤◌, Bool, true, false, cond, List, [], ◌∷◌, length, take, drop, Option, Some, None, refl, sym, ap, ◌∙◌, arith}
use Rattle.std.specs.List.{prefix_len}
use Rattle.go_tree.specs.GoWords.Tokens.Characters.{is_letter, is_word, is_blank}
use Rattle.go_tree.specs.GoWords.Tokens.Pieces.{PieceKind, blanks, may_precede}
use Rattle.go_scan.specs.declared.automaton.TheConstants.{START}
use Rattle.go_scan.specs.Automaton.{kind_in, longest_from}
use Rattle.go_scan.specs.Pieces.{word_kind, checked, lexeme_checked, lexeme_of, piece_of}
use Rattle.go_scan.proofs.Best.{Best, keeps, gives, best}

len_in : Option (ℕ × ℕ) → ℕ
len_in None = 0
len_in (Some x) = x.1

module _ (text : List ℕ) (answer : Option (ℕ × ℕ)) (answered : answer ≡ longest_from START 0 None text) where
  pub lexeme_none : answer ≡ None → None ≡ lexeme_of text
  unfolding lexeme_of
  lexeme_none e = ap (λ (a : Option (ℕ × ℕ)). lexeme_checked a text) (sym e ∙ answered)

  module _ (state len : ℕ) (found : answer ≡ Some (state, len)) where
    pub lexeme_within : len ≤ length text
    unfolding len_in
    lexeme_within = by_best (longest_from START 0 None text) (best START 0 None text) (sym answered ∙ found)
      where
        by_best : (a : Option (ℕ × ℕ)) → Best START 0 None text a → a ≡ Some (state, len) → len ≤ length text
        by_best a (keeps e none) f = absurd (clash (state, len) (sym e ∙ f))
          where
            clash : (x : ℕ × ℕ) → None ≡ Some x → ⊥
            clash x g = cc
        by_best a (gives n small e w most) f = let same : 0 + n ≡ len = ap len_in (sym e ∙ f) in omega (arith, small, same)

    lexeme_is : checked (kind_in state) len text ≡ lexeme_of text
    unfolding lexeme_of
    lexeme_is = ap (λ (a : Option (ℕ × ℕ)). lexeme_checked a text) (sym found ∙ answered)

    module _ (kind : PieceKind) (word rest : List ℕ) (test : Bool) (of_kind : kind ≡ kind_in state) (of_word : word ≡ take len text) (of_rest : rest ≡ drop len text) (tested : test ≡ may_precede kind word rest) where
      test_is : may_precede (kind_in state) (take len text) (drop len text) ≡ test
      test_is = sym (tested ∙ ap (λ (k : PieceKind). may_precede k word rest) of_kind ∙ ap (λ (w : List ℕ). may_precede (kind_in state) w rest) of_word ∙ ap (λ (r : List ℕ). may_precede (kind_in state) (take len text) r) of_rest)

      pub lexeme_some : test ≡ true → Some (kind, len) ≡ lexeme_of text
      lexeme_some e = ap (λ (k : PieceKind). Some (k, len)) of_kind ∙ sym (ap (λ (b : Bool). cond b (Some (kind_in state, len)) None) (test_is ∙ e)) ∙ lexeme_is

      pub lexeme_refused : test ≡ false → None ≡ lexeme_of text
      lexeme_refused e = sym (ap (λ (b : Bool). cond b (Some (kind_in state, len)) None) (test_is ∙ e)) ∙ lexeme_is

pub piece_end : (text : List ℕ) → length text ≡ 0 → None ≡ piece_of text
unfolding piece_of
piece_end [] e = refl
piece_end (c ∷ cs) e = absurd (omega (arith, e))

module _ (text : List ℕ) (c : ℕ) (cs : List ℕ) (split : text ≡ c ∷ cs) where
  pub piece_blanks : (len : ℕ) → is_blank c ≡ true → len ≡ prefix_len is_blank text → Some (blanks, len) ≡ piece_of text
  unfolding piece_of
  piece_blanks len b e = ap (λ (n : ℕ). Some (blanks, n)) e ∙ sym (rw (split, b) refl)

  pub piece_word : (kind : PieceKind) (len : ℕ) → is_blank c ≡ false → is_letter c ≡ true → len ≡ prefix_len is_word text → kind ≡ word_kind (take len text) → Some (kind, len) ≡ piece_of text
  unfolding piece_of
  piece_word kind len b l e k = ap (λ (j : PieceKind). Some (j, len)) k ∙ ap (λ (n : ℕ). Some (word_kind (take n text), n)) e ∙ sym (rw (split, b, l) refl)

  pub piece_lexeme : is_blank c ≡ false → is_letter c ≡ false → lexeme_of text ≡ piece_of text
  unfolding piece_of
  piece_lexeme b l = sym (rw (split, b, l) refl)
