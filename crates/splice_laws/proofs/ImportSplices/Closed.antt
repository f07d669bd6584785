-- Tokens that end whatever stands behind them: strings, brackets and semicolons.
use Rattle.std.proofs.Common.{◌≡◌, inl, inr, ◌⊎◌, ℕ, Bool, true, false, bytes_eq, List, [], ◌∷◌, ◌++◌, codes, refl, sym, ap, subst, ◌∙◌}
use Rattle.std.specs.Prelude.{encode_utf8_all}
use Rattle.std.proofs.lemmas.Str.{encodes_same}
use Rattle.ucd_category.specs.GeneralCategory.{general_category}
use Rattle.ucd_category.specs.GeneralCategoryRows.{general_category_rows}
use Rattle.ucd_table.specs.Rows.{value_in}
use Rattle.go_tree.specs.declared.tokens.TokenKind.{TokenKind}
use Rattle.go_tree.specs.declared.tokens.TokenKind.TheVariants.{Ident, Keyword, Operator, Integer, Float, Imaginary, Rune, Str, Inserted}
use Rattle.go_tree.specs.GoWords.Terminals.{Terminal, str_lit, end_paren, terminal_of, keywords, operators}
use Rattle.go_tree.specs.GoWords.Tokens.Characters.{is_letter, is_digit}
use Rattle.go_tree.specs.GoWords.Tokens.Pieces.{token, Piece, IsPiece, IsNext}
use Rattle.go_scan.specs.Automaton.{next_of}
use Rattle.go_scan.proofs.AutomatonLemmas.{below, run}
use Rattle.go_layout.proofs.LayoutLaws.NextTokens.{START, stops, next_lexeme}
use Rattle.splice_laws.specs.Joints.{EndsBefore}
use Rattle.splice_laws.proofs.AddImports.{none_found, bytes_same}
use Rattle.splice_laws.proofs.ImportLists.{is_opening}
use Rattle.splice_laws.proofs.OneToken.{ends_all, all_end, text_ends}
use Rattle.splice_laws.proofs.ImportSplices.Nexts.{found_among, opening_token, open_word}

abbrev pub is_close : Terminal → Bool
is_close (str_lit _) = true
is_close end_paren = true
is_close _ = false

-- ---- brackets and semicolons

dead : (t : ℕ) → ends_all t ≡ true → (xs : List ℕ) → stops t xs ≡ true
dead t h [] = refl
dead t h (x ∷ xs) = all_end t x h

semi_all : ends_all (run START (59 ∷ [])) ≡ true
unfolding below next_of
semi_all = refl

open_all : ends_all (run START (40 ∷ [])) ≡ true
unfolding below next_of
open_all = refl

close_all : ends_all (run START (41 ∷ [])) ≡ true
unfolding below next_of
close_all = refl

no_letters : (is_letter 59 ≡ false) × (is_letter 40 ≡ false) × (is_letter 41 ≡ false)
unfolding is_letter is_digit general_category general_category_rows value_in
no_letters = (refl, refl, refl)

pub semi_next : (more : List ℕ) → IsPiece (token Operator) (codes ";") → IsNext (59 ∷ more) (token Operator) (codes ";") more
semi_next more piece = next_lexeme (token Operator) 59 [] more refl no_letters.0 piece (dead (run START (59 ∷ [])) semi_all more) refl

pub open_next : (more : List ℕ) → IsPiece (token Operator) (codes "(") → IsNext (40 ∷ more) (token Operator) (codes "(") more
open_next more piece = next_lexeme (token Operator) 40 [] more refl no_letters.1 piece (dead (run START (40 ∷ [])) open_all more) refl

pub close_next : (more : List ℕ) → IsPiece (token Operator) (codes ")") → IsNext (41 ∷ more) (token Operator) (codes ")") more
close_next more piece = next_lexeme (token Operator) 41 [] more refl no_letters.2 piece (dead (run START (41 ∷ [])) close_all more) refl

-- ---- by their terminals

close_bytes : encode_utf8_all (codes ")") ≡ codes ")"
unfolding lib.Utf8.encode
close_bytes = refl

pub close_token : (k : TokenKind) (w : List ℕ) → is_close (terminal_of k w) ≡ true → (k ≡ Str) ⊎ ((k ≡ Operator) × (w ≡ codes ")"))
close_token Ident w h = absurd cc
close_token Keyword w h = absurd (none_found is_close keywords w refl refl h)
close_token Operator w h = inr (refl, bytes_same w (codes ")") (found_among is_close (λ v. bytes_eq v (codes ")")) operators w refl refl h))
close_token Integer w h = absurd cc
close_token Float w h = absurd cc
close_token Imaginary w h = absurd cc
close_token Rune w h = absurd cc
close_token Str w h = inl refl
close_token Inserted w h = absurd cc

pub closes_next : (k : TokenKind) (w more : List ℕ) → IsPiece (token k) w → is_close (terminal_of k (encode_utf8_all w)) ≡ true → IsNext (w ++ more) (token k) w more
closes_next k w more piece h = by (close_token k (encode_utf8_all w) h)
  where
    by : (k ≡ Str) ⊎ ((k ≡ Operator) × (encode_utf8_all w ≡ codes ")")) → IsNext (w ++ more) (token k) w more
    by (inl e) = subst (λ (j : TokenKind). IsNext (w ++ more) (token j) w more) (sym e) (text_ends w more (subst (λ (j : TokenKind). IsPiece (token j) w) e piece))
    by (inr e) =
        let v : w ≡ codes ")" = encodes_same w (codes ")") (e.1 ∙ sym close_bytes) in
        subst (λ (j : TokenKind). IsNext (w ++ more) (token j) w more) (sym e.0) (subst (λ (u : List ℕ). IsNext (u ++ more) (token Operator) u more) (sym v)
        (close_next more (subst (λ (u : List ℕ). IsPiece (token Operator) u) v (subst (λ (j : TokenKind). IsPiece (token j) w) e.0 piece))))

pub opens_next : (k : TokenKind) (w more : List ℕ) → (k ≡ Inserted → ⊥) → IsPiece (token k) w → is_opening (terminal_of k (encode_utf8_all w)) ≡ true → IsNext (w ++ more) (token k) w more
opens_next k w more n piece h =
    let o = opening_token k (encode_utf8_all w) n h in
    subst (λ (j : TokenKind). IsNext (w ++ more) (token j) w more) (sym o.0) (by (open_word w o.1) (subst (λ (j : TokenKind). IsPiece (token j) w) o.0 piece))
  where
    by : (w ≡ codes ";") ⊎ (w ≡ codes "(") → IsPiece (token Operator) w → IsNext (w ++ more) (token Operator) w more
    by (inl e) p = subst (λ (u : List ℕ). IsNext (u ++ more) (token Operator) u more) (sym e) (semi_next more (subst (λ (u : List ℕ). IsPiece (token Operator) u) e p))
    by (inr e) p = subst (λ (u : List ℕ). IsNext (u ++ more) (token Operator) u more) (sym e) (open_next more (subst (λ (u : List ℕ). IsPiece (token Operator) u) e p))

pub before_any : (p : Piece) (k : TokenKind) → p.kind ≡ token k → ((more : List ℕ) → IsNext (p.word ++ more) (token k) p.word more) → (next : List ℕ) → EndsBefore p next
before_any p k e h next = subst (λ (q : Piece). EndsBefore q next) (sym same) (by next)
  where
    same : p ≡ record { kind = token k; word = p.word }
    same = ap (λ j. record { kind = j; word = p.word }) e

    by : (next : List ℕ) → EndsBefore (record { kind = token k; word = p.word }) next
    by [] = h []
    by (c ∷ cs) = λ more. h (c ∷ more)
