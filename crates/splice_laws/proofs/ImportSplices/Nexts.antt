-- The token that stands next behind a node.
use Rattle.std.proofs.Common.{◌≡◌, inl, inr, ◌⊎◌, ℕ, suc, ◌+◌, ◌≤◌, ◌<◌, Bool, true, false, cond, ◌&&◌, ◌||◌, nat_le, bytes_eq, List, [], ◌∷◌, ◌++◌, length, codes, Option, Some, None, refl, sym, ap, ◌∙◌, arith}
use Rattle.std.specs.Prelude.{encode_utf8_all, encode_utf8}
use Rattle.std.proofs.lemmas.Bool.Decides.{nat_tests}
use Rattle.std.proofs.lemmas.List.{append_assoc}
use Rattle.std.proofs.lemmas.Str.{encodes_same}
use Rattle.go_tree.specs.declared.tokens.Token.{Token}
use Rattle.go_tree.specs.declared.tokens.TokenKind.{TokenKind}
use Rattle.go_tree.specs.declared.tokens.TokenKind.TheVariants.{Ident, Keyword, Operator, Integer, Float, Imaginary, Rune, Str, Inserted}
use Rattle.go_tree.specs.GoWords.Terminals.{Terminal, semicolon, terminal_of, found_in, keywords, operators}
use Rattle.go_tree.specs.GoWords.Tokens.Characters.{is_listed}
use Rattle.go_tree.specs.GoWords.Tokens.{size_of, span_of, ends_line, inserted, tokens_at, due_after, tokens_from, pieces_size}
use Rattle.go_tree.specs.GoWords.Tokens.Pieces.{PieceKind, blanks, remark, token, Piece, IsPiece}
use Rattle.go_scan.proofs.PieceKinds.{never_empty}
use Rattle.run_rules.specs.ImportRules.Removed.{is_semicolon, through_semicolon}
use Rattle.splice_laws.specs.Joints.{PartsTo, given}
use Rattle.splice_laws.proofs.AddImports.{none_found, bytes_same}
use Rattle.splice_laws.proofs.ImportLists.{is_opening}
use Rattle.splice_laws.proofs.Over.{is_piece}
use Rattle.splice_laws.proofs.ImportSplices.Terms.{is_silent, silent, newline_in, breaks, breaks_at, both_parts, none_silent}
use Rattle.splice_laws.proofs.ImportSplices.Gaps.{first_byte}

-- ---- which spelling a terminal has

module _ (f : Terminal → Bool) where
  -- each row of the table whose terminal passes is among these spellings
  abbrev pub among : (List ℕ → Bool) → List (List ℕ × Terminal) → Bool
  among g [] = true
  among g (row ∷ rows) = cond (f row.1) (g row.0) true && among g rows

  pub found_among : (g : List ℕ → Bool) (rows : List (List ℕ × Terminal)) (w : List ℕ) → among g rows ≡ true → f (found_in [] w) ≡ false → f (found_in rows w) ≡ true → g w ≡ true
  found_among g [] w all none h = absurd (nope (sym h ∙ none))
    where
      nope : true ≡ false → ⊥
      nope e = cc
  found_among g (row ∷ rows) w all none h = by (bytes_eq row.0 w) refl h (λ q. found_among g rows w (both_parts (cond (f row.1) (g row.0) true) (among g rows) all).1 none q)
    where
      this : (b : Bool) → b ≡ true → cond b (g row.0) true ≡ true → g row.0 ≡ true
      this true e q = q
      this false e q = absurd cc

      by : (b : Bool) → bytes_eq row.0 w ≡ b → f (cond b row.1 (found_in rows w)) ≡ true → (f (found_in rows w) ≡ true → g w ≡ true) → g w ≡ true
      by true e q later = ap g (sym (bytes_same row.0 w e)) ∙ this (f row.1) q (both_parts (cond (f row.1) (g row.0) true) (among g rows) all).0
      by false e q later = later q

abbrev pub is_semi : Terminal → Bool
is_semi semicolon = true
is_semi _ = false

abbrev pub is_open_word : List ℕ → Bool
is_open_word w = bytes_eq w (codes ";") || bytes_eq w (codes "(")

-- a written `(` or semicolon
pub opening_token : (k : TokenKind) (w : List ℕ) → (k ≡ Inserted → ⊥) → is_opening (terminal_of k w) ≡ true → (k ≡ Operator) × (is_open_word w ≡ true)
opening_token Ident w n h = absurd cc
opening_token Keyword w n h = absurd (none_found is_opening keywords w refl refl h)
opening_token Operator w n h = (refl, found_among is_opening is_open_word operators w refl refl h)
opening_token Integer w n h = absurd cc
opening_token Float w n h = absurd cc
opening_token Imaginary w n h = absurd cc
opening_token Rune w n h = absurd cc
opening_token Str w n h = absurd cc
opening_token Inserted w n h = absurd (n refl)

pub semi_token : (k : TokenKind) (w : List ℕ) → (k ≡ Inserted → ⊥) → is_semi (terminal_of k w) ≡ true → (k ≡ Operator) × (w ≡ codes ";")
semi_token Ident w n h = absurd cc
semi_token Keyword w n h = absurd (none_found is_semi keywords w refl refl h)
semi_token Operator w n h = (refl, bytes_same w (codes ";") (found_among is_semi (λ v. bytes_eq v (codes ";")) operators w refl refl h))
semi_token Integer w n h = absurd cc
semi_token Float w n h = absurd cc
semi_token Imaginary w n h = absurd cc
semi_token Rune w n h = absurd cc
semi_token Str w n h = absurd cc
semi_token Inserted w n h = absurd (n refl)

pub semicolon_is : (k : TokenKind) (w : List ℕ) → is_semicolon k w ≡ true → terminal_of k w ≡ semicolon
semicolon_is Ident w h = absurd cc
semicolon_is Keyword w h = absurd cc
semicolon_is Operator w h = ap (found_in operators) (bytes_same w (codes ";") h)
semicolon_is Integer w h = absurd cc
semicolon_is Float w h = absurd cc
semicolon_is Imaginary w h = absurd cc
semicolon_is Rune w h = absurd cc
semicolon_is Str w h = absurd cc
semicolon_is Inserted w h = absurd cc

semi_bytes : encode_utf8_all (codes ";") ≡ codes ";"
unfolding lib.Utf8.encode
semi_bytes = refl

paren_bytes : encode_utf8_all (codes "(") ≡ codes "("
unfolding lib.Utf8.encode
paren_bytes = refl

-- in characters as in bytes
pub semi_word : (w : List ℕ) → encode_utf8_all w ≡ codes ";" → w ≡ codes ";"
semi_word w e = encodes_same w (codes ";") (e ∙ sym semi_bytes)

pub open_word : (w : List ℕ) → is_open_word (encode_utf8_all w) ≡ true → (w ≡ codes ";") ⊎ (w ≡ codes "(")
open_word w h = by (bytes_eq (encode_utf8_all w) (codes ";")) refl h
  where
    by : (b : Bool) → bytes_eq (encode_utf8_all w) (codes ";") ≡ b → b || bytes_eq (encode_utf8_all w) (codes "(") ≡ true → (w ≡ codes ";") ⊎ (w ≡ codes "(")
    by true e q = inl (semi_word w (bytes_same (encode_utf8_all w) (codes ";") e))
    by false e q = inr (encodes_same w (codes "(") (bytes_same (encode_utf8_all w) (codes "(") q ∙ sym paren_bytes))

-- a newline behind it gives none
pub opening_ends : (k : TokenKind) (w : List ℕ) → (k ≡ Inserted → ⊥) → is_opening (terminal_of k (encode_utf8_all w)) ≡ true → ends_line k w ≡ false
opening_ends k w n h =
    let o = opening_token k (encode_utf8_all w) n h in
    ap (λ (j : TokenKind). ends_line j w) o.0 ∙ by (open_word w o.1)
  where
    by : (w ≡ codes ";") ⊎ (w ≡ codes "(") → ends_line Operator w ≡ false
    by (inl e) = ap (λ (v : List ℕ). ends_line Operator v) e
    by (inr e) = ap (λ (v : List ℕ). ends_line Operator v) e

-- ---- the next token

pub record Written (at : ℕ) (ps : List Piece) (x : Token) (back : List Token) : Type 0 where
  pub gap : List Piece
  pub kind : TokenKind
  pub word : List ℕ
  pub behind : List Piece
  pub is : ps ≡ gap ++ (record { kind = token kind; word = word } ∷ behind)
  pub none : silent gap ≡ true
  pub token_is : x ≡ record { span = span_of (at + pieces_size gap) word; kind = kind; spelling = encode_utf8_all word }
  pub back_is : back ≡ tokens_from (at + pieces_size gap + size_of word) (due_after (at + pieces_size gap) None (token kind) word) behind
  pub alike : tokens_from at None ps ≡ x ∷ back
  pub flat : newline_in gap ≡ false

abbrev pub inserted_at : ℕ → Token
inserted_at d = record { span = record { start = d; end = d }; kind = Inserted; spelling = 59 ∷ [] }

-- the semicolon that is due, or a token
pub data Next (at d : ℕ) (ps : List Piece) (x : Token) (back : List Token) : Type 0 where
  is_inserted : x ≡ inserted_at d → back ≡ tokens_from at None ps → breaks ps ≡ true → Next at d ps x back
  is_written : Written at ps x back → Next at d ps x back

pub next_of : (ps : List Piece) (at d : ℕ) (x : Token) (back : List Token) → tokens_from at (Some d) ps ≡ x ∷ back → Next at d ps x back
unfolding tokens_from breaks
next_of [] at d x back e = let h : inserted_at d ≡ x = first e in let r : [] ≡ back = rest e in is_inserted (sym h) (sym r) refl
  where
    first : inserted (Some d) ≡ x ∷ back → inserted_at d ≡ x
    first e = cc

    rest : inserted (Some d) ≡ x ∷ back → [] ≡ back
    rest e = cc
next_of (p ∷ ps) at d x back e = by_kind p.kind p.word refl e (λ q. next_of ps (at + size_of p.word) d x back q)
  where
    Later : Type 0
    Later = tokens_from (at + size_of p.word) (Some d) ps ≡ x ∷ back → Next (at + size_of p.word) d ps x back

    one : (k : PieceKind) (w : List ℕ) → p ≡ record { kind = k; word = w } → is_silent k ≡ true → silent (p ∷ []) ≡ true
    one k w e s = ap (λ (q : Piece). is_silent q.kind && true) e ∙ ap (λ (b : Bool). b && true) s

    zero : (n : ℕ) → n + 0 ≡ n
    zero n = omega arith

    alone : (k : PieceKind) (w : List ℕ) → p ≡ record { kind = k; word = w } → is_silent k ≡ true → tokens_from at None (p ∷ ps) ≡ tokens_from (at + size_of p.word) None ps
    alone k w e s = none_silent (p ∷ []) ps at (one k w e s) ∙ ap (λ (n : ℕ). tokens_from (at + n) None ps) (zero (size_of p.word))

    breaks_by : (k : PieceKind) (w : List ℕ) (b : Bool) → is_silent k ≡ true → breaks_at k w b ≡ is_listed w 10 || b
    breaks_by blanks w b s = refl
    breaks_by remark w b s = refl
    breaks_by (token k) w b s = absurd cc

    breaks_on : (k : PieceKind) (w : List ℕ) (c : Bool) → p ≡ record { kind = k; word = w } → is_silent k ≡ true → is_listed w 10 ≡ c → c || breaks ps ≡ true → breaks_at p.kind p.word (breaks ps) ≡ true
    breaks_on k w c e s n q = ap (λ (v : Piece). breaks_at v.kind v.word (breaks ps)) e ∙ breaks_by k w (breaks ps) s ∙ ap (λ (b : Bool). b || breaks ps) n ∙ q

    on : (k : PieceKind) (w : List ℕ) → p ≡ record { kind = k; word = w } → is_silent k ≡ true → is_listed w 10 ≡ false → Next (at + size_of p.word) d ps x back → Next at d (p ∷ ps) x back
    on k w e s f (is_inserted h r q) = is_inserted h (r ∙ sym (alone k w e s)) (breaks_on k w false e s f q)
    on k w e s f (is_written v) =
        let n : at + size_of p.word + pieces_size v.gap ≡ at + (size_of p.word + pieces_size v.gap) = omega arith in
        is_written (record {
          gap = p ∷ v.gap;
          kind = v.kind;
          word = v.word;
          behind = v.behind;
          is = ap (λ (qs : List Piece). p ∷ qs) v.is;
          none = ap (λ (q : Piece). is_silent q.kind && silent v.gap) e ∙ ap (λ (b : Bool). b && silent v.gap) s ∙ v.none;
          token_is = v.token_is ∙ ap (λ (n : ℕ). record { span = span_of n v.word; kind = v.kind; spelling = encode_utf8_all v.word }) n;
          back_is = v.back_is ∙ ap (λ (n : ℕ). tokens_from (n + size_of v.word) (due_after n None (token v.kind) v.word) v.behind) n;
          alike = alone k w e s ∙ v.alike;
          flat = ap (λ (q : Piece). is_listed q.word 10 || newline_in v.gap) e ∙ ap (λ (b : Bool). b || newline_in v.gap) f ∙ v.flat;
        })

    by_newline : (k : PieceKind) (w : List ℕ) → p ≡ record { kind = k; word = w } → is_silent k ≡ true → (b : Bool) → is_listed w 10 ≡ b → cond b (inserted (Some d)) [] ++ tokens_from (at + size_of w) (cond b None (Some d)) ps ≡ x ∷ back → Later → Next at d (p ∷ ps) x back
    by_newline k w e s true f q later =
        let h : inserted_at d ≡ x = cc in
        let r : tokens_from (at + size_of w) None ps ≡ back = cc in
        is_inserted (sym h) (sym r ∙ ap (λ (v : Piece). tokens_from (at + size_of v.word) None ps) (sym e) ∙ sym (alone k w e s)) (breaks_on k w true e s f refl)
    by_newline k w e s false f q later = on k w e s f (later (ap (λ (v : Piece). tokens_from (at + size_of v.word) (Some d) ps) e ∙ q))

    by_kind : (k : PieceKind) (w : List ℕ) → p ≡ record { kind = k; word = w } → tokens_at at (Some d) k w ++ tokens_from (at + size_of w) (due_after at (Some d) k w) ps ≡ x ∷ back → Later → Next at d (p ∷ ps) x back
    by_kind blanks w e q later = by_newline blanks w e refl (is_listed w 10) refl q later
    by_kind remark w e q later = by_newline remark w e refl (is_listed w 10) refl q later
    by_kind (token k) w e q later =
        let t : Token = record { span = span_of at w; kind = k; spelling = encode_utf8_all w } in
        let h : t ≡ x = cc in
        let r : tokens_from (at + size_of w) (due_after at (Some d) (token k) w) ps ≡ back = cc in
        let n : at ≡ at + 0 = omega arith in
        is_written (record {
          gap = [];
          kind = k;
          word = w;
          behind = ps;
          is = ap (λ (q : Piece). q ∷ ps) e;
          none = refl;
          token_is = sym h ∙ ap (λ (n : ℕ). record { span = span_of n w; kind = k; spelling = encode_utf8_all w }) n;
          back_is = sym r ∙ ap (λ (n : ℕ). tokens_from (n + size_of w) (due_after n None (token k) w) ps) n;
          alike = ap (λ (q : Piece). tokens_from at None (q ∷ ps)) e ∙ q;
          flat = refl;
        })

-- ---- the semicolon behind an offset

-- the tokens of parts start before the end of the last
abbrev DueBy : ℕ → Option ℕ → Type 0
DueBy at None = Unit {0}
DueBy at (Some d) = d ≤ at

pub word_size : (w : List ℕ) (k : PieceKind) → IsPiece k w → 0 < size_of w
word_size [] k piece = absurd (never_empty k piece)
word_size (c ∷ cs) k piece =
    let f = first_byte c in
    let n : size_of (c ∷ cs) ≡ length (f.0 ∷ (f.1 ++ encode_utf8_all cs)) = ap (λ (bs : List ℕ). length (bs ++ encode_utf8_all cs)) f.2 in
    more (size_of (c ∷ cs)) (length (f.1 ++ encode_utf8_all cs)) n
  where
    more : (n m : ℕ) → n ≡ suc m → 0 < n
    more n m e = omega (arith, e)

pub not_from : (n m : ℕ) → m < n → nat_le n m ≡ false
not_from n m h = grind (arith, nat_tests, h)

past_piece : (k : PieceKind) (w : List ℕ) (at : ℕ) (d : Option ℕ) (n : ℕ) (us : List Token) → DueBy at d → 0 < size_of w → at + size_of w ≤ n → through_semicolon (tokens_at at d k w ++ us) n ≡ through_semicolon us n
past_piece k w at d n us by pos le = by_kind k
  where
    skip : (t : Token) → t.span.start < n → through_semicolon (t ∷ us) n ≡ through_semicolon us n
    skip t h = ap (λ (b : Bool). cond b (cond (is_semicolon t.kind t.spelling) t.span.end n) (through_semicolon us n)) (not_from n t.span.start h)

    by_due : (d : Option ℕ) → DueBy at d → through_semicolon (inserted d ++ us) n ≡ through_semicolon us n
    by_due None h = refl
    by_due (Some m) h = skip (inserted_at m) (omega (arith, h, pos, le))

    by_newline : (b : Bool) → through_semicolon (cond b (inserted d) [] ++ us) n ≡ through_semicolon us n
    by_newline true = by_due d by
    by_newline false = refl

    by_kind : (k : PieceKind) → through_semicolon (tokens_at at d k w ++ us) n ≡ through_semicolon us n
    by_kind blanks = by_newline (is_listed w 10)
    by_kind remark = by_newline (is_listed w 10)
    by_kind (token j) = skip (record { span = span_of at w; kind = j; spelling = encode_utf8_all w }) (omega (arith, pos, le))

due_by : (k : PieceKind) (w : List ℕ) (at : ℕ) (d : Option ℕ) → DueBy at d → DueBy (at + size_of w) (due_after at d k w)
due_by k w at d by = by_kind k
  where
    on : (d : Option ℕ) → DueBy at d → DueBy (at + size_of w) d
    on None h = tt
    on (Some m) h = omega (arith, h)

    by_newline : (b : Bool) → DueBy (at + size_of w) (cond b None d)
    by_newline true = tt
    by_newline false = on d by

    by_end : (b : Bool) → DueBy (at + size_of w) (cond b (Some (at + size_of w)) None)
    by_end true = omega arith
    by_end false = tt

    by_kind : (k : PieceKind) → DueBy (at + size_of w) (due_after at d k w)
    by_kind blanks = by_newline (is_listed w 10)
    by_kind remark = by_newline (is_listed w 10)
    by_kind (token j) = by_end (ends_line j w)

pub past_given : (ps others : List Piece) (txt rest : List ℕ) (at : ℕ) (d : Option ℕ) (n : ℕ) (us : List Token) → PartsTo txt (ps ++ others) rest → DueBy at d → at + pieces_size ps ≤ n → through_semicolon (given at d ps ++ us) n ≡ through_semicolon us n
unfolding given
past_given [] others txt rest at d n us parts by le = refl
past_given (p ∷ ps) others txt rest at d n us parts by le =
    ap (λ (ts : List Token). through_semicolon ts n) (append_assoc (tokens_at at d p.kind p.word) (given (at + size_of p.word) (due_after at d p.kind p.word) ps) us)
    ∙ past_piece p.kind p.word at d n (given (at + size_of p.word) (due_after at d p.kind p.word) ps ++ us) by positive (omega (arith, le))
    ∙ past_given ps others parts.0 rest (at + size_of p.word) (due_after at d p.kind p.word) n us parts.3 (due_by p.kind p.word at d by) (omega (arith, le))
  where
    positive : 0 < size_of p.word
    positive = word_size p.word p.kind (is_piece p.kind p.word parts.0 parts.2)
