-- Each string literal among the tokens of a text has the form of one.
use Rattle.std.proofs.Common.{◌≡◌, ℕ, Bool, true, false, List, [], ◌∷◌, refl, bytes_eq, if◌then◌else◌}
use Rattle.std.specs.Prelude.{All}
use Rattle.std.proofs.lemmas.List.Elements.{All-head, All-tail}
use Rattle.go_tree.specs.declared.tokens.Token.{Token}
use Rattle.go_tree.specs.declared.tokens.Comment.{Comment}
use Rattle.go_tree.specs.declared.tokens.TokenKind.{TokenKind}
use Rattle.go_tree.specs.declared.tokens.TokenKind.TheVariants.{Ident, Keyword, Operator, Integer, Float, Imaginary, Rune, Str, Inserted}
use Rattle.go_tree.specs.GoWords.Tokens.{TokensOf}
use Rattle.go_tree.specs.GoWords.Terminals.{Terminal, str_lit, found_in, keywords, operators, terminal_of, lexemes}
use Rattle.go_tree.specs.GoLiterals.Strings.{IsString}
use Rattle.go_tree.proofs.GoLiterals.TokenForms.{tokens_are_strings}
use Rattle.go_parse.specs.Texts.{IsSound, HasTexts}

is_plain : Terminal → Bool
is_plain (str_lit _) = false
is_plain _ = true

plain_sound : (t : Terminal) → is_plain t ≡ true → IsSound t
unfolding is_plain
plain_sound (str_lit p) e = absurd (cc)
plain_sound _ e = tt

are_plain : List (List ℕ × Terminal) → Bool
are_plain [] = true
are_plain (row ∷ rows) = if is_plain row.1 then are_plain rows else false

found_plain : (rows : List (List ℕ × Terminal)) (s : List ℕ) → are_plain rows ≡ true → is_plain (found_in rows s) ≡ true
unfolding is_plain are_plain
found_plain [] s e = refl
found_plain (row ∷ rows) s e = let h = split (is_plain row.1) (are_plain rows) e in by_test (bytes_eq row.0 s) h.0 (found_plain rows s h.1)
  where
    split : (b c : Bool) → (if b then c else false) ≡ true → (b ≡ true) × (c ≡ true)
    split true c e = (refl, e)
    split false c e = absurd (cc)

    by_test : (b : Bool) → is_plain row.1 ≡ true → is_plain (found_in rows s) ≡ true → is_plain (if b then row.1 else found_in rows s) ≡ true
    by_test true p q = p
    by_test false p q = q

kind_sound : (k : TokenKind) (s : List ℕ) → (k ≡ Str → IsString s) → IsSound (terminal_of k s)
unfolding are_plain is_plain
kind_sound Ident s h = tt
kind_sound Keyword s h = plain_sound (found_in keywords s) (found_plain keywords s refl)
kind_sound Operator s h = plain_sound (found_in operators s) (found_plain operators s refl)
kind_sound Integer s h = tt
kind_sound Float s h = tt
kind_sound Imaginary s h = tt
kind_sound Rune s h = tt
kind_sound Str s h = h refl
kind_sound Inserted s h = tt

texts_of_strings : (tokens : List Token) → All (λ t. t.kind ≡ Str → IsString t.spelling) tokens → HasTexts (lexemes tokens)
unfolding HasTexts
texts_of_strings [] h = tt
texts_of_strings (t ∷ ts) h =
    (kind_sound t.kind t.spelling (All-head (λ (t : Token). t.kind ≡ Str → IsString t.spelling) t ts h), texts_of_strings ts (All-tail (λ (t : Token). t.kind ≡ Str → IsString t.spelling) t ts h))

pub texts_of_tokens : (text : List ℕ) (tokens : List Token) (comments : List Comment) → TokensOf text tokens comments → HasTexts (lexemes tokens)
texts_of_tokens text tokens comments words = texts_of_strings tokens (tokens_are_strings text tokens comments words)
