-- The terminals that parts give, whatever stands before them.
use Rattle.std.proofs.Common.{◌≡◌, ℕ, ◌+◌, Bool, true, false, cond, ◌&&◌, ◌||◌, List, [], ◌∷◌, ◌++◌, Option, Some, None, refl, sym, ap, ◌∙◌, arith}
use Rattle.std.specs.Prelude.{encode_utf8_all}
use Rattle.std.proofs.lemmas.List.{append_assoc}
use Rattle.go_tree.specs.declared.tokens.Token.{Token}
use Rattle.go_tree.specs.declared.tokens.TokenKind.{TokenKind}
use Rattle.go_tree.specs.GoWords.Terminals.{Terminal, semicolon, terminal_of, lexemes}
use Rattle.go_tree.specs.GoWords.Tokens.Characters.{is_listed}
use Rattle.go_tree.specs.GoWords.Tokens.{size_of, span_of, ends_line, inserted, tokens_at, due_after, tokens_from, pieces_size}
use Rattle.go_tree.specs.GoWords.Tokens.Pieces.{PieceKind, blanks, remark, token, Piece}
use Rattle.go_layout.proofs.LayoutLaws.LaidCuts.{is_due}
use Rattle.splice_laws.specs.Joints.{given, due_behind}
use Rattle.splice_laws.specs.Edited.{terminals}
use Rattle.splice_laws.proofs.AddImports.{terminals_both, lexemes_both}

-- a semicolon, where one is due
abbrev pub due_terms : Bool → List Terminal
due_terms true = semicolon ∷ []
due_terms false = []

abbrev pub at_piece : Bool → PieceKind → List ℕ → List Terminal
at_piece b (token k) w = terminal_of k (encode_utf8_all w) ∷ []
at_piece b _ w = cond (is_listed w 10) (due_terms b) []

abbrev pub after_piece : Bool → PieceKind → List ℕ → Bool
after_piece b (token k) w = ends_line k w
after_piece b _ w = cond (is_listed w 10) false b

-- those of parts at the end of a text, where a semicolon is due before them or not
unfoldable pub terms : Bool → List Piece → List Terminal
terms b [] = due_terms b
terms b (p ∷ ps) = at_piece b p.kind p.word ++ terms (after_piece b p.kind p.word) ps

-- those of parts before others, and whether a semicolon is due behind them
unfoldable pub own : Bool → List Piece → List Terminal
own b [] = []
own b (p ∷ ps) = at_piece b p.kind p.word ++ own (after_piece b p.kind p.word) ps

unfoldable pub due : Bool → List Piece → Bool
due b [] = b
due b (p ∷ ps) = due (after_piece b p.kind p.word) ps

pub terms_then : (us qs : List Piece) (b : Bool) → terms b (us ++ qs) ≡ own b us ++ terms (due b us) qs
unfolding terms own due
terms_then [] qs b = refl
terms_then (p ∷ us) qs b =
    ap (λ (ts : List Terminal). at_piece b p.kind p.word ++ ts) (terms_then us qs (after_piece b p.kind p.word))
    ∙ sym (append_assoc (at_piece b p.kind p.word) (own (after_piece b p.kind p.word) us) (terms (due (after_piece b p.kind p.word) us) qs))

pub own_then : (us vs : List Piece) (b : Bool) → own b (us ++ vs) ≡ own b us ++ own (due b us) vs
unfolding own due
own_then [] vs b = refl
own_then (p ∷ us) vs b =
    ap (λ (ts : List Terminal). at_piece b p.kind p.word ++ ts) (own_then us vs (after_piece b p.kind p.word))
    ∙ sym (append_assoc (at_piece b p.kind p.word) (own (after_piece b p.kind p.word) us) (own (due (after_piece b p.kind p.word) us) vs))

pub due_then : (us vs : List Piece) (b : Bool) → due b (us ++ vs) ≡ due (due b us) vs
unfolding due
due_then [] vs b = refl
due_then (p ∷ us) vs b = due_then us vs (after_piece b p.kind p.word)

-- ---- they are those of the tokens

inserted_is : (d : Option ℕ) → terminals (lexemes (inserted d)) ≡ due_terms (is_due d)
inserted_is None = refl
inserted_is (Some n) = refl

piece_is : (k : PieceKind) (w : List ℕ) (at : ℕ) (d : Option ℕ) → (terminals (lexemes (tokens_at at d k w)) ≡ at_piece (is_due d) k w) × (is_due (due_after at d k w) ≡ after_piece (is_due d) k w)
piece_is k w at d = by_kind k
  where
    by_newline : (b : Bool) → (terminals (lexemes (cond b (inserted d) [])) ≡ cond b (due_terms (is_due d)) []) × (is_due (cond b None d) ≡ cond b false (is_due d))
    by_newline true = (inserted_is d, refl)
    by_newline false = (refl, refl)

    by_end : (b : Bool) → is_due (cond b (Some (at + size_of w)) None) ≡ b
    by_end true = refl
    by_end false = refl

    by_kind : (k : PieceKind) → (terminals (lexemes (tokens_at at d k w)) ≡ at_piece (is_due d) k w) × (is_due (due_after at d k w) ≡ after_piece (is_due d) k w)
    by_kind blanks = by_newline (is_listed w 10)
    by_kind remark = by_newline (is_listed w 10)
    by_kind (token j) = (refl, by_end (ends_line j w))

pub terms_are : (ps : List Piece) (at : ℕ) (d : Option ℕ) → terminals (lexemes (tokens_from at d ps)) ≡ terms (is_due d) ps
unfolding tokens_from terms
terms_are [] at d = inserted_is d
terms_are (p ∷ ps) at d =
    let x = piece_is p.kind p.word at d in
    ap terminals (lexemes_both (tokens_at at d p.kind p.word) (tokens_from (at + size_of p.word) (due_after at d p.kind p.word) ps))
    ∙ terminals_both (lexemes (tokens_at at d p.kind p.word)) (lexemes (tokens_from (at + size_of p.word) (due_after at d p.kind p.word) ps))
    ∙ ap (λ (ts : List Terminal). ts ++ terminals (lexemes (tokens_from (at + size_of p.word) (due_after at d p.kind p.word) ps))) x.0
    ∙ ap (λ (ts : List Terminal). at_piece (is_due d) p.kind p.word ++ ts) (terms_are ps (at + size_of p.word) (due_after at d p.kind p.word))
    ∙ ap (λ (b : Bool). at_piece (is_due d) p.kind p.word ++ terms b ps) x.1

pub own_is : (ps : List Piece) (at : ℕ) (d : Option ℕ) → terminals (lexemes (given at d ps)) ≡ own (is_due d) ps
unfolding given own
own_is [] at d = refl
own_is (p ∷ ps) at d =
    let x = piece_is p.kind p.word at d in
    ap terminals (lexemes_both (tokens_at at d p.kind p.word) (given (at + size_of p.word) (due_after at d p.kind p.word) ps))
    ∙ terminals_both (lexemes (tokens_at at d p.kind p.word)) (lexemes (given (at + size_of p.word) (due_after at d p.kind p.word) ps))
    ∙ ap (λ (ts : List Terminal). ts ++ terminals (lexemes (given (at + size_of p.word) (due_after at d p.kind p.word) ps))) x.0
    ∙ ap (λ (ts : List Terminal). at_piece (is_due d) p.kind p.word ++ ts) (own_is ps (at + size_of p.word) (due_after at d p.kind p.word))
    ∙ ap (λ (b : Bool). at_piece (is_due d) p.kind p.word ++ own b ps) x.1

pub due_is : (ps : List Piece) (at : ℕ) (d : Option ℕ) → is_due (due_behind at d ps) ≡ due (is_due d) ps
unfolding due_behind due
due_is [] at d = refl
due_is (p ∷ ps) at d = due_is ps (at + size_of p.word) (due_after at d p.kind p.word) ∙ ap (λ (b : Bool). due b ps) (piece_is p.kind p.word at d).1

-- ---- blanks and comments alone

abbrev pub is_silent : PieceKind → Bool
is_silent (token k) = false
is_silent _ = true

abbrev pub silent : List Piece → Bool
silent [] = true
silent (p ∷ ps) = is_silent p.kind && silent ps

abbrev pub newline_in : List Piece → Bool
newline_in [] = false
newline_in (p ∷ ps) = is_listed p.word 10 || newline_in ps

-- a newline stands before the next token, or no token is left
abbrev pub breaks_at : PieceKind → List ℕ → Bool → Bool
breaks_at (token k) w later = false
breaks_at _ w later = is_listed w 10 || later

unfoldable pub breaks : List Piece → Bool
breaks [] = true
breaks (p ∷ ps) = breaks_at p.kind p.word (breaks ps)

pub both_parts : (a b : Bool) → a && b ≡ true → (a ≡ true) × (b ≡ true)
both_parts true true e = (refl, refl)
both_parts true false e = absurd cc
both_parts false b e = absurd cc

pub silent_then : (g h : List Piece) → silent g ≡ true → silent h ≡ true → silent (g ++ h) ≡ true
silent_then [] h x y = y
silent_then (p ∷ g) h x y = let q = both_parts (is_silent p.kind) (silent g) x in both_true (is_silent p.kind) (silent (g ++ h)) q.0 (silent_then g h q.1 y)
  where
    both_true : (a b : Bool) → a ≡ true → b ≡ true → a && b ≡ true
    both_true true true e f = refl
    both_true true false e f = absurd cc
    both_true false b e f = absurd cc

silent_piece : (k : PieceKind) (w : List ℕ) (b : Bool) → is_silent k ≡ true → (at_piece b k w ≡ cond (is_listed w 10) (due_terms b) []) × (after_piece b k w ≡ cond (is_listed w 10) false b)
silent_piece blanks w b s = (refl, refl)
silent_piece remark w b s = (refl, refl)
silent_piece (token k) w b s = absurd cc

-- where no semicolon is due, they give none
pub silent_none : (g : List Piece) → silent g ≡ true → (own false g ≡ []) × (due false g ≡ false)
unfolding own due
silent_none [] s = (refl, refl)
silent_none (p ∷ g) s =
    let q = both_parts (is_silent p.kind) (silent g) s in
    let x = silent_piece p.kind p.word false q.0 in
    let later = silent_none g q.1 in
    let no : (b : Bool) → (cond b (due_terms false) [] ≡ []) × (cond b false false ≡ false) = none in (
      ap (λ (ts : List Terminal). ts ++ own (after_piece false p.kind p.word) g) (x.0 ∙ (no (is_listed p.word 10)).0) ∙ ap (λ (b : Bool). own b g) (x.1 ∙ (no (is_listed p.word 10)).1) ∙ later.0,
      ap (λ (b : Bool). due b g) (x.1 ∙ (no (is_listed p.word 10)).1) ∙ later.1,
    )
  where
    none : (b : Bool) → (cond b (due_terms false) [] ≡ []) × (cond b false false ≡ false)
    none true = (refl, refl)
    none false = (refl, refl)

pub silent_terms : (g qs : List Piece) → silent g ≡ true → terms false (g ++ qs) ≡ terms false qs
silent_terms g qs s = let x = silent_none g s in terms_then g qs false ∙ ap (λ (ts : List Terminal). ts ++ terms (due false g) qs) x.0 ∙ ap (λ (b : Bool). terms b qs) x.1

-- with a newline among them they give the semicolon that is due
pub silent_newline : (g : List Piece) → silent g ≡ true → newline_in g ≡ true → (own true g ≡ semicolon ∷ []) × (due true g ≡ false)
unfolding own due
silent_newline [] s n = absurd cc
silent_newline (p ∷ g) s n =
    let q = both_parts (is_silent p.kind) (silent g) s in
    let x = silent_piece p.kind p.word true q.0 in
    by_newline (is_listed p.word 10) x.0 x.1 n (silent_none g q.1) (λ m. silent_newline g q.1 m)
  where
    by_newline : (b : Bool) → at_piece true p.kind p.word ≡ cond b (due_terms true) [] → after_piece true p.kind p.word ≡ cond b false true → b || newline_in g ≡ true → (own false g ≡ []) × (due false g ≡ false)
        → (newline_in g ≡ true → (own true g ≡ semicolon ∷ []) × (due true g ≡ false))
        → (at_piece true p.kind p.word ++ own (after_piece true p.kind p.word) g ≡ semicolon ∷ []) × (due (after_piece true p.kind p.word) g ≡ false)
    by_newline true x y n none later = (ap (λ (ts : List Terminal). ts ++ own (after_piece true p.kind p.word) g) x ∙ ap (λ (b : Bool). semicolon ∷ own b g) y ∙ ap (λ (ts : List Terminal). semicolon ∷ ts) none.0, ap (λ (b : Bool). due b g) y ∙ none.1)
    by_newline false x y n none later = (ap (λ (ts : List Terminal). ts ++ own (after_piece true p.kind p.word) g) x ∙ ap (λ (b : Bool). own b g) y ∙ (later n).0, ap (λ (b : Bool). due b g) y ∙ (later n).1)

-- without one, it stays due
pub silent_on : (g : List Piece) (b : Bool) → silent g ≡ true → newline_in g ≡ false → (own b g ≡ []) × (due b g ≡ b)
unfolding own due
silent_on [] b s n = (refl, refl)
silent_on (p ∷ g) b s n =
    let q = both_parts (is_silent p.kind) (silent g) s in
    let x = silent_piece p.kind p.word b q.0 in
    by_newline (is_listed p.word 10) x.0 x.1 n (λ m. silent_on g b q.1 m)
  where
    by_newline : (c : Bool) → at_piece b p.kind p.word ≡ cond c (due_terms b) [] → after_piece b p.kind p.word ≡ cond c false b → c || newline_in g ≡ false → (newline_in g ≡ false → (own b g ≡ []) × (due b g ≡ b))
        → (at_piece b p.kind p.word ++ own (after_piece b p.kind p.word) g ≡ []) × (due (after_piece b p.kind p.word) g ≡ b)
    by_newline true x y n later = absurd cc
    by_newline false x y n later = (ap (λ (ts : List Terminal). ts ++ own (after_piece b p.kind p.word) g) x ∙ ap (λ (d : Bool). own d g) y ∙ (later n).0, ap (λ (d : Bool). due d g) y ∙ (later n).1)

pub breaks_silent : (g qs : List Piece) → silent g ≡ true → breaks (g ++ qs) ≡ newline_in g || breaks qs
unfolding breaks
breaks_silent [] qs s = refl
breaks_silent (p ∷ g) qs s =
    let q = both_parts (is_silent p.kind) (silent g) s in
    by_kind p.kind p.word (breaks (g ++ qs)) q.0 ∙ ap (λ (b : Bool). is_listed p.word 10 || b) (breaks_silent g qs q.1) ∙ assoc (is_listed p.word 10) (newline_in g) (breaks qs)
  where
    by_kind : (k : PieceKind) (w : List ℕ) (later : Bool) → is_silent k ≡ true → breaks_at k w later ≡ is_listed w 10 || later
    by_kind blanks w later s = refl
    by_kind remark w later s = refl
    by_kind (token k) w later s = absurd cc

    assoc : (x y z : Bool) → x || (y || z) ≡ (x || y) || z
    assoc true y z = refl
    assoc false y z = refl

pub breaks_terms : (qs : List Piece) → breaks qs ≡ true → terms true qs ≡ semicolon ∷ terms false qs
unfolding breaks terms
breaks_terms [] h = refl
breaks_terms (p ∷ qs) h = by_kind p.kind h (λ e. breaks_terms qs e)
  where
    Later : Type 0
    Later = breaks qs ≡ true → terms true qs ≡ semicolon ∷ terms false qs

    by_newline : (b : Bool) → b || breaks qs ≡ true → Later → cond b (due_terms true) [] ++ terms (cond b false true) qs ≡ semicolon ∷ (cond b (due_terms false) [] ++ terms (cond b false false) qs)
    by_newline true e later = refl
    by_newline false e later = later e

    by_kind : (k : PieceKind) → breaks_at k p.word (breaks qs) ≡ true → Later → at_piece true k p.word ++ terms (after_piece true k p.word) qs ≡ semicolon ∷ (at_piece false k p.word ++ terms (after_piece false k p.word) qs)
    by_kind blanks e later = by_newline (is_listed p.word 10) e later
    by_kind remark e later = by_newline (is_listed p.word 10) e later
    by_kind (token k) e later = absurd cc

-- ---- the first token

abbrev no_due : Option ℕ
no_due = None

none_on : (k : PieceKind) (w : List ℕ) (at : ℕ) → is_silent k ≡ true → (tokens_at at None k w ≡ []) × (due_after at None k w ≡ None)
none_on k w at s = by_kind k s
  where
    by_newline : (b : Bool) → (cond b (inserted None) [] ≡ []) × (cond b None no_due ≡ None)
    by_newline true = (refl, refl)
    by_newline false = (refl, refl)

    by_kind : (k : PieceKind) → is_silent k ≡ true → (tokens_at at None k w ≡ []) × (due_after at None k w ≡ None)
    by_kind blanks s = by_newline (is_listed w 10)
    by_kind remark s = by_newline (is_listed w 10)
    by_kind (token k) s = absurd cc

-- where no semicolon is due, blanks and comments give no token
pub none_silent : (g qs : List Piece) (at : ℕ) → silent g ≡ true → tokens_from at None (g ++ qs) ≡ tokens_from (at + pieces_size g) None qs
unfolding tokens_from
none_silent [] qs at s = let e : at ≡ at + 0 = omega arith in ap (λ (n : ℕ). tokens_from n None qs) e
none_silent (p ∷ g) qs at s =
    let q = both_parts (is_silent p.kind) (silent g) s in
    let x = none_on p.kind p.word at q.0 in
    let e : at + size_of p.word + pieces_size g ≡ at + (size_of p.word + pieces_size g) = omega arith in
    ap (λ (ts : List Token). ts ++ tokens_from (at + size_of p.word) (due_after at None p.kind p.word) (g ++ qs)) x.0
    ∙ ap (λ (d : Option ℕ). tokens_from (at + size_of p.word) d (g ++ qs)) x.1
    ∙ none_silent g qs (at + size_of p.word) q.1 ∙ ap (λ (n : ℕ). tokens_from n None qs) e

-- where no semicolon is due, the first token stands behind blanks and comments
pub record Gap (at : ℕ) (ps : List Piece) (x : Token) (back : List Token) : Type 0 where
  pub gap : List Piece
  pub kind : TokenKind
  pub word : List ℕ
  pub behind : List Piece
  pub is : ps ≡ gap ++ (record { kind = token kind; word = word } ∷ behind)
  pub none : silent gap ≡ true
  pub token_is : x ≡ record { span = span_of (at + pieces_size gap) word; kind = kind; spelling = encode_utf8_all word }
  pub back_is : back ≡ tokens_from (at + pieces_size gap + size_of word) (due_after (at + pieces_size gap) None (token kind) word) behind

pub gap_of : (ps : List Piece) (at : ℕ) (x : Token) (back : List Token) → tokens_from at None ps ≡ x ∷ back → Gap at ps x back
unfolding tokens_from
gap_of [] at x back e = absurd cc
gap_of (p ∷ ps) at x back e = by_kind p.kind p.word refl refl e (λ q. gap_of ps (at + size_of p.word) x back q)
  where
    Later : Type 0
    Later = tokens_from (at + size_of p.word) None ps ≡ x ∷ back → Gap (at + size_of p.word) ps x back

    on : (k : PieceKind) (w : List ℕ) → p.kind ≡ k → p.word ≡ w → is_silent k ≡ true → Gap (at + size_of p.word) ps x back → Gap at (p ∷ ps) x back
    on k w ek ew s g =
        let e : at + size_of p.word + pieces_size g.gap ≡ at + (size_of p.word + pieces_size g.gap) = omega arith in
        record {
          gap = p ∷ g.gap;
          kind = g.kind;
          word = g.word;
          behind = g.behind;
          is = ap (λ (qs : List Piece). p ∷ qs) g.is;
          none = ap (λ (b : Bool). b && silent g.gap) (ap is_silent ek ∙ s) ∙ g.none;
          token_is = g.token_is ∙ ap (λ (n : ℕ). record { span = span_of n g.word; kind = g.kind; spelling = encode_utf8_all g.word }) e;
          back_is = g.back_is ∙ ap (λ (n : ℕ). tokens_from (n + size_of g.word) (due_after n None (token g.kind) g.word) g.behind) e;
        }

    past : (k : PieceKind) (w : List ℕ) → p.kind ≡ k → p.word ≡ w → is_silent k ≡ true → tokens_at at None k w ++ tokens_from (at + size_of w) (due_after at None k w) ps ≡ x ∷ back → Later → Gap at (p ∷ ps) x back
    past k w ek ew s q later =
        let n = none_on k w at s in
        on k w ek ew s (later (ap (λ (v : List ℕ). tokens_from (at + size_of v) None ps) ew ∙ ap (λ (d : Option ℕ). tokens_from (at + size_of w) d ps) (sym n.1) ∙ ap (λ (ts : List Token). ts ++ tokens_from (at + size_of w) (due_after at None k w) ps) (sym n.0) ∙ q))

    by_kind : (k : PieceKind) (w : List ℕ) → p.kind ≡ k → p.word ≡ w → tokens_at at None k w ++ tokens_from (at + size_of w) (due_after at None k w) ps ≡ x ∷ back → Later → Gap at (p ∷ ps) x back
    by_kind blanks w ek ew q later = past blanks w ek ew refl q later
    by_kind remark w ek ew q later = past remark w ek ew refl q later
    by_kind (token k) w ek ew q later =
        let t : Token = record { span = span_of at w; kind = k; spelling = encode_utf8_all w } in
        let head : t ≡ x = cc in
        let rest : tokens_from (at + size_of w) (due_after at None (token k) w) ps ≡ back = cc in
        let e : at ≡ at + 0 = omega arith in
        record {
          gap = [];
          kind = k;
          word = w;
          behind = ps;
          is = ap (λ (j : PieceKind). record { kind = j; word = p.word } ∷ ps) ek ∙ ap (λ (v : List ℕ). record { kind = token k; word = v } ∷ ps) ew;
          none = refl;
          token_is = sym head ∙ ap (λ (n : ℕ). record { span = span_of n w; kind = k; spelling = encode_utf8_all w }) e;
          back_is = sym rest ∙ ap (λ (n : ℕ). tokens_from (n + size_of w) (due_after n None (token k) w) ps) e;
        }
