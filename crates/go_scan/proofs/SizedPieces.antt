-- What the scanner has looked at when it answers, with sizes in bytes.
use Rattle.std.proofs.Common.{◌≡◌, ℕ, Bool, true, false, List, [], ◌∷◌, take, drop, chars, Option, Some, None, refl, sym, ap, ◌∙◌, IsUtf8, slice_get}
use Rattle.std.specs.List.{prefix_len}
use Rattle.std.specs.Str.{IsCharBoundary}
use Rattle.std.specs.Char.{len_utf8}
use Rattle.go_tree.specs.GoWords.Tokens.{size_of, after_mark}
use Rattle.go_tree.specs.GoWords.Tokens.Characters.{byte_order_mark, is_letter, is_word, is_blank}
use Rattle.go_tree.specs.GoWords.Tokens.Pieces.{PieceKind, blanks, may_precede}
use Rattle.go_scan.specs.declared.automaton.TheConstants.{START}
use Rattle.go_scan.specs.Automaton.{kind_in, longest_from}
use Rattle.go_scan.specs.Pieces.{word_kind, lexeme_of, piece_of}
use Rattle.go_scan.specs.Sizes.{size_while, longest_by_size, sized}
use Rattle.go_scan.proofs.PieceSteps.{lexeme_none, lexeme_some, lexeme_refused, piece_end, piece_blanks, piece_word, piece_lexeme}
use Rattle.go_scan.proofs.SizeLemmas.{longest_sized, sized_none, sized_some, cut_boundary, cut_front, cut_back, while_size}

module _ (text : List ℕ) (answer : Option (ℕ × ℕ)) (answered : answer ≡ longest_by_size START 0 None text) where
  pub sized_lexeme_none : answer ≡ None → None ≡ sized text (lexeme_of text)
  sized_lexeme_none e =
      let none = sized_none ℕ text (longest_from START 0 None text) (sym e ∙ answered ∙ longest_sized text START) in
      ap (sized text) (lexeme_none text (longest_from START 0 None text) refl none)

module _ (text : List ℕ) (utf8 : IsUtf8 text) (answer : Option (ℕ × ℕ)) (answered : answer ≡ longest_by_size START 0 None (chars text))
    (state size : ℕ) (found : answer ≡ Some (state, size)) where
  known : (len : ℕ) × (longest_from START 0 None (chars text) ≡ Some (state, len)) × (size ≡ size_of (take len (chars text)))
  known = sized_some ℕ (chars text) (longest_from START 0 None (chars text)) state size (sym found ∙ answered ∙ longest_sized (chars text) START)

  pub sized_boundary : IsCharBoundary text size
  sized_boundary = cut_boundary text utf8 known.0 size known.2

  module _ (kind : PieceKind) (word rest : List ℕ) (test : Bool) (of_kind : kind ≡ kind_in state) (of_word : word ≡ take size text) (of_rest : rest ≡ drop size text)
      (tested : test ≡ may_precede kind (chars word) (chars rest)) where
    word_chars : chars word ≡ take known.0 (chars text)
    word_chars = ap chars of_word ∙ cut_front text utf8 known.0 size known.2

    rest_chars : chars rest ≡ drop known.0 (chars text)
    rest_chars = ap chars of_rest ∙ cut_back text utf8 known.0 size known.2

    pub sized_lexeme : test ≡ true → Some (kind, size) ≡ sized (chars text) (lexeme_of (chars text))
    sized_lexeme e =
        ap (λ (n : ℕ). Some (kind, n)) known.2
        ∙ ap (sized (chars text)) (lexeme_some (chars text) (longest_from START 0 None (chars text)) refl state known.0 known.1 kind (chars word) (chars rest) test of_kind word_chars rest_chars tested e)

    pub sized_refused : test ≡ false → None ≡ sized (chars text) (lexeme_of (chars text))
    sized_refused e =
        ap (sized (chars text)) (lexeme_refused (chars text) (longest_from START 0 None (chars text)) refl state known.0 known.1 kind (chars word) (chars rest) test of_kind word_chars rest_chars tested e)

-- ---- by the first character

pub starts_with : (cs : List ℕ) (c : ℕ) → Some c ≡ slice_get cs 0 → cs ≡ c ∷ drop 1 cs
starts_with [] c e = absurd cc
starts_with (d ∷ cs) c e = let same : c ≡ d = cc in ap (λ (x : ℕ). x ∷ cs) (sym same)

pub sized_end : (text : List ℕ) → None ≡ slice_get text 0 → None ≡ sized text (piece_of text)
sized_end [] e = ap (sized []) (piece_end [] refl)
sized_end (c ∷ cs) e = absurd cc

module _ (text : List ℕ) (c : ℕ) (first : Some c ≡ slice_get text 0) where
  pub sized_blanks : (size : ℕ) → is_blank c ≡ true → size ≡ size_while is_blank text → Some (blanks, size) ≡ sized text (piece_of text)
  sized_blanks size b e =
      ap (λ (n : ℕ). Some (blanks, n)) (e ∙ while_size is_blank text)
      ∙ ap (sized text) (piece_blanks text c (drop 1 text) (starts_with text c first) (prefix_len is_blank text) b refl)

  pub sized_word : (kind : PieceKind) (size : ℕ) → is_blank c ≡ false → is_letter c ≡ true → size ≡ size_while is_word text → kind ≡ word_kind (take (prefix_len is_word text) text)
      → Some (kind, size) ≡ sized text (piece_of text)
  sized_word kind size b l e k =
      ap (λ (n : ℕ). Some (kind, n)) (e ∙ while_size is_word text)
      ∙ ap (sized text) (piece_word text c (drop 1 text) (starts_with text c first) kind (prefix_len is_word text) b l refl k)

  pub sized_other : is_blank c ≡ false → is_letter c ≡ false → sized text (lexeme_of text) ≡ sized text (piece_of text)
  sized_other b l = ap (sized text) (piece_lexeme text c (drop 1 text) (starts_with text c first) b l)

-- the word at the front
module _ (text : List ℕ) (utf8 : IsUtf8 text) (size : ℕ) (e : size ≡ size_while is_word (chars text)) where
  word_size : size ≡ size_of (take (prefix_len is_word (chars text)) (chars text))
  word_size = e ∙ while_size is_word (chars text)

  pub word_boundary : IsCharBoundary text size
  word_boundary = cut_boundary text utf8 (prefix_len is_word (chars text)) size word_size

  pub word_kind_at : (kind : PieceKind) (word : List ℕ) → word ≡ take size text → kind ≡ word_kind (chars word) → kind ≡ word_kind (take (prefix_len is_word (chars text)) (chars text))
  word_kind_at kind word w k = k ∙ ap word_kind (ap chars w ∙ cut_front text utf8 (prefix_len is_word (chars text)) size word_size)

-- ---- a byte order mark at the start

module _ (text : List ℕ) (utf8 : IsUtf8 text) (size : ℕ) (marked : Some byte_order_mark ≡ slice_get (chars text) 0) (is : size ≡ len_utf8 byte_order_mark) where
  mark_taken : size ≡ size_of (take 1 (chars text))
  unfolding lib.Utf8.encode
  mark_taken = is ∙ ap (λ (cs : List ℕ). size_of (take 1 cs)) (sym (starts_with (chars text) byte_order_mark marked))

  pub mark_boundary : IsCharBoundary text size
  mark_boundary = cut_boundary text utf8 1 size mark_taken

  pub mark_rest : (rest : List ℕ) → rest ≡ drop size text → chars rest ≡ after_mark (chars text)
  mark_rest rest r = ap chars r ∙ cut_back text utf8 1 size mark_taken ∙ sym after
    where
      after : after_mark (chars text) ≡ drop 1 (chars text)
      after =
          ap after_mark (starts_with (chars text) byte_order_mark marked)
