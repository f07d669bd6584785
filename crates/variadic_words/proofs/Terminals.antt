-- Where no token is the word `...`, none of the terminals is that of `...`.
use Rattle.std.proofs.Common.{◌≡◌, refl, ap, subst, ℕ, Bool, true, false, cond, ◌&&◌, ◌||◌, List, [], ◌∷◌, bytes_eq, codes}
use Rattle.std.specs.List.{list_any}
use Rattle.std.proofs.lemmas.Slice.Eq.{bytes_eq-Decides}
use Rattle.go_tree.specs.declared.tokens.Token.{Token}
use Rattle.go_tree.specs.declared.tokens.TokenKind.{TokenKind}
use Rattle.go_tree.specs.declared.tokens.TokenKind.TheVariants.{Ident, Keyword, Operator, Integer, Float, Imaginary, Rune, Str, Inserted}
use Rattle.go_tree.specs.GoWords.Terminals.{Terminal, ellipsis, lex, lexemes, found_in, operators, keywords, terminal_of}
use Rattle.go_read.specs.SpellsTypes.{Lexemes}
use Rattle.go_read.specs.SpellsSpans.{span_to}
use Rattle.splice_laws.proofs.ImportSplices.SupportedWords.Spelled.{Passed, here, later}
use Rattle.variadic_words.specs.Dots.{is_operator, is_dots}
use Rattle.variadic_words.specs.Laws.{FilesWithoutDots}
use Rattle.variadic_words.proofs.Unspread.{front_plain}

abbrev is_ellipsis : Terminal → Bool
is_ellipsis ellipsis = true
is_ellipsis t = false

-- ---- the terminal by its word

-- a row of `...` with this spelling
abbrev is_row : List ℕ → List ℕ × Terminal → Bool
is_row s row = is_ellipsis row.1 && bytes_eq row.0 s

behind : (x y : Bool) → y ≡ true → ((x && false) || y) ≡ true
behind true y e = e
behind false y e = e

first : (t u : Terminal) (b y : Bool) → (is_ellipsis u ≡ true → y ≡ true) → is_ellipsis (cond b t u) ≡ true → ((is_ellipsis t && b) || y) ≡ true
first t u true y k e = ap (λ (x : Bool). (x && true) || y) e
first t u false y k e = behind (is_ellipsis t) y (k e)

found : (rows : List (List ℕ × Terminal)) (s : List ℕ) → is_ellipsis (found_in rows s) ≡ true → list_any (is_row s) rows ≡ true
found [] s e = absurd cc
found (row ∷ rows) s e = first row.1 (found_in rows s) (bytes_eq row.0 s) (list_any (is_row s) rows) (found rows s) e

alone : (b : Bool) → (b || false) ≡ true → b ≡ true
alone true e = refl
alone false e = e

dots : (k : TokenKind) (s : List ℕ) → is_ellipsis (terminal_of k s) ≡ true → (is_operator k && bytes_eq s (codes "...")) ≡ true
dots Ident s e = absurd cc
dots Keyword s e = let f : false ≡ true = found keywords s e in absurd cc
dots Operator s e =
    let f : bytes_eq (codes "...") s ≡ true = alone (bytes_eq (codes "...") s) (found operators s e) in
    subst (λ (w : List ℕ). bytes_eq w (codes "...") ≡ true) ((bytes_eq-Decides (codes "...") s).0 f) refl
dots Integer s e = absurd cc
dots Float s e = absurd cc
dots Imaginary s e = absurd cc
dots Rune s e = absurd cc
dots Str s e = absurd cc
dots Inserted s e = absurd cc

-- ---- terminals of tokens

abbrev AllPlain : Lexemes → Type 0
AllPlain [] = Unit {0}
AllPlain (lex s t ∷ ls) = (is_ellipsis t ≡ false) × AllPlain ls

passed_plain : {us ls : Lexemes} → Passed us ls → AllPlain ls → AllPlain us
passed_plain here h = h
passed_plain (later e p) h = passed_plain p h.1

neither : (a b : Bool) → (a || b) ≡ false → (a ≡ false) × (b ≡ false)
neither true b e = absurd cc
neither false b e = (refl, e)

plain_one : (k : TokenKind) (s : List ℕ) → (is_operator k && bytes_eq s (codes "...")) ≡ false → is_ellipsis (terminal_of k s) ≡ false
plain_one k s e = by (is_ellipsis (terminal_of k s)) refl
  where
    by : (b : Bool) → is_ellipsis (terminal_of k s) ≡ b → b ≡ false
    by true q = let t : (is_operator k && bytes_eq s (codes "...")) ≡ true = dots k s q in absurd cc
    by false q = refl

plain : (ts : List Token) → list_any is_dots ts ≡ false → AllPlain (lexemes ts)
plain [] e = tt
plain (t ∷ ts) e =
    let h : (is_dots t ≡ false) × (list_any is_dots ts ≡ false) = neither (is_dots t) (list_any is_dots ts) e in
    (plain_one t.kind t.spelling h.0, plain ts h.1)

no_ellipsis : is_ellipsis ellipsis ≡ false → ⊥
no_ellipsis e = cc

pub files_without_dots : FilesWithoutDots
files_without_dots tokens tree r e =
    let all : AllPlain (lexemes tokens) = plain tokens e in
    front_plain span_to (lexemes tokens) (λ s us p. no_ellipsis (passed_plain p all).0) r here
