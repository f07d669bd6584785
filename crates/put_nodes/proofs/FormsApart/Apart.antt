-- A form that needs no blank stands apart from the token before it.
use Rattle.std.proofs.Common.{◌≡◌, ℕ, ◌+◌, ◌<◌, ◌≤◌, Bool, true, false, ◌&&◌, ◌||◌, nat_eq, nat_lt, ◌==◌, List, [], ◌∷◌, ◌++◌, Option, Some, None, refl, sym, ap, subst, ◌∙◌, arith}
use Rattle.std.specs.Prelude.{encode_utf8_all, codes, if◌then◌else◌}
use Rattle.std.specs.Str.{all_scalars, chars}
use Rattle.std.proofs.lemmas.Bool.Decides.{nat_tests}
use Rattle.std.proofs.lemmas.Str.{chars-encodes, encodes-chars}
use Rattle.go_tree.specs.declared.spans.Span.{Span}
use Rattle.go_tree.specs.declared.tokens.Token.{Token}
use Rattle.go_tree.specs.declared.tokens.Comment.{Comment}
use Rattle.go_tree.specs.declared.tokens.TokenKind.{TokenKind}
use Rattle.go_tree.specs.File.{File}
use Rattle.go_tree.specs.GoWords.Tokens.Characters.{is_letter, is_listed}
use Rattle.go_tree.specs.GoWords.Tokens.{TokensOf, size_of, span_of, inserted, tokens_at, due_after, tokens_from, after_mark, mark_size}
use Rattle.go_tree.specs.GoWords.Tokens.Pieces.{PieceKind, blanks, remark, token, Piece, IsPiece, CutsTo}
use Rattle.go_read.specs.SpellsFiles.{SpellsFile}
use Rattle.go_scan.specs.Unsupported.{is_unsupported, word_spans}
use Rattle.go_scan.proofs.Derivatives.{and_true}
use Rattle.go_scan.proofs.PieceKinds.{never_empty}
use Rattle.go_layout.specs.LayoutLaws.Formed.{IsName}
use Rattle.run_rules.specs.Texts.{run_together, needs_blank, spelling_before}
use Rattle.splice_laws.specs.Joints.{is_open}
use Rattle.splice_laws.specs.Splice.{are_two, is_inserted, stays_apart, are_apart}
use Rattle.splice_laws.proofs.Ends.{or_cases}
use Rattle.splice_laws.proofs.ImportSplices.SupportedWords.Words.{words_supported}
use Rattle.put_nodes.proofs.NamesApart.NamesApart.{first_letter, scalars_parts, next_two, dot_letter, no_letter, token_elsewhere, here_apart, with_line, at_the_end, behind, has_bytes, unmarked_scalars}
use Rattle.put_nodes.specs.FormsApart.Begins.{first_signs, may_begin}
use Rattle.put_nodes.proofs.FormsApart.Beginnings.{sign_no_dot}
use Rattle.put_nodes.proofs.FormsApart.Behind.{before_letter, before_sign}

same_place : (a b : ℕ) → nat_eq a b ≡ true → a ≡ b
same_place a b e = grind (arith, nat_tests, e)

under : (a b : ℕ) → a < b → nat_lt a b ≡ true
under a b h = grind (arith, nat_tests, h)

past : (a b : ℕ) → b < a → nat_eq a b ≡ false
past a b h = grind (arith, nat_tests, h)

-- ---- unsupported words

known_first : (t : Token) (ts : List Token) → word_spans (t ∷ ts) ≡ [] → (is_unsupported t.kind t.spelling ≡ false) × (word_spans ts ≡ [])
unfolding word_spans
known_first t ts h = by_test (is_unsupported t.kind t.spelling) h
  where
    by_test : (b : Bool) → (if b then t.span ∷ word_spans ts else word_spans ts) ≡ [] → (b ≡ false) × (word_spans ts ≡ [])
    by_test true e = absurd cc
    by_test false e = (refl, e)

known_behind : (due : Option ℕ) (ts : List Token) → word_spans (inserted due ++ ts) ≡ [] → word_spans ts ≡ []
unfolding word_spans
known_behind None ts h = h
known_behind (Some n) ts h = h

known_line : (b : Bool) (due : Option ℕ) (ts : List Token) → word_spans ((if b then inserted due else []) ++ ts) ≡ [] → word_spans ts ≡ []
known_line true due ts h = known_behind due ts h
known_line false due ts h = h

-- ---- the token that ends at a place

-- an inserted semicolon has no byte
spelled_behind : (place : ℕ) (due : Option ℕ) (ts : List Token) → spelling_before place (inserted due ++ ts) ≡ spelling_before place ts
spelled_behind place None ts = refl
spelled_behind place (Some n) ts = by_end (nat_eq n place) (nat_lt n place) refl refl
  where
    apart : nat_eq n place ≡ true → nat_lt n place ≡ true → ⊥
    apart e f = absurd (grind (arith, nat_tests, e, f))

    by_end : (a b : Bool) → nat_eq n place ≡ a → nat_lt n place ≡ b → (if a && b then Some (codes ";") else spelling_before place ts) ≡ spelling_before place ts
    by_end true true e f = absurd (apart e f)
    by_end true false e f = refl
    by_end false b e f = refl

spelled_line : (place : ℕ) (b : Bool) (due : Option ℕ) (ts : List Token) → spelling_before place ((if b then inserted due else []) ++ ts) ≡ spelling_before place ts
spelled_line place true due ts = spelled_behind place due ts
spelled_line place false due ts = refl

or_true : (a b : Bool) → a ≡ true → a || b ≡ true
or_true true b e = refl
or_true false b e = absurd cc

-- ---- a form at a place

module _ (c : ℕ) (cs : List ℕ) (begins : may_begin c ≡ true) where
  abbrev first : List ℕ
  first = encode_utf8_all (c ∷ cs)

  no_dot : c == 46 ≡ false
  no_dot = or_cases (is_letter c) (is_listed first_signs c) begins (λ l. no_letter c 46 dot_letter l) (λ h. sign_no_dot c h)

  two : (k : TokenKind) (w : List ℕ) → IsPiece (token k) w → is_unsupported k (encode_utf8_all w) ≡ false → run_together (encode_utf8_all w) first ≡ false → are_two w (c ∷ cs) ≡ true
  two k [] piece known apart = absurd (never_empty (token k) piece)
  two k (x ∷ xs) piece known apart =
      next_two (x ∷ xs) (c ∷ cs) (token k)
      (or_cases (is_letter c) (is_listed first_signs c) begins (λ l. before_letter k x xs c cs piece known apart l) (λ h. before_sign k x xs c cs piece known apart h))

  token_apart : (k : TokenKind) (w : List ℕ) (at place : ℕ) → all_scalars w ≡ true → are_two w (c ∷ cs) ≡ true → stays_apart place (c ∷ cs) (record { span = span_of at w; kind = k; spelling = encode_utf8_all w }) ≡ true
  unfolding stays_apart
  token_apart k w at place scalars two =
      here_apart (is_inserted k) (nat_eq (at + size_of w) place) (are_two (chars (encode_utf8_all w)) (c ∷ cs)) (is_open k (encode_utf8_all w)) (c == 46)
      (subst (λ (v : List ℕ). are_two v (c ∷ cs) ≡ true) (sym (chars-encodes w scalars)) two) no_dot

  -- tokens that begin at the place or behind it
  from_place : (ps : List Piece) (text : List ℕ) (at : ℕ) (due : Option ℕ) (place : ℕ) → CutsTo text ps [] → place ≤ at → are_apart (tokens_from at due ps) place (c ∷ cs) ≡ true
  unfolding tokens_from
  from_place [] text at due place cut le = at_the_end due place (c ∷ cs)
  from_place (p ∷ ps) text at due place cut le = by_kind p.kind p.word (has_bytes p.kind p.word cut.1.spelled) (behind ps (at + size_of p.word) (due_after at due p.kind p.word) place (c ∷ cs) (further (size_of p.word) (has_bytes p.kind p.word cut.1.spelled)))
    where
      further : (n : ℕ) → 0 < n → place < at + n
      further n h = omega (arith, le, h)

      others : List Token
      others = tokens_from (at + size_of p.word) (due_after at due p.kind p.word) ps

      by_kind : (k : PieceKind) (w : List ℕ) → 0 < size_of w → are_apart others place (c ∷ cs) ≡ true → are_apart (tokens_at at due k w ++ others) place (c ∷ cs) ≡ true
      by_kind blanks w some h = with_line (is_listed w 10) due others place (c ∷ cs) h
      by_kind remark w some h = with_line (is_listed w 10) due others place (c ∷ cs) h
      by_kind (token k) w some h =
          and_true (stays_apart place (c ∷ cs) (record { span = span_of at w; kind = k; spelling = encode_utf8_all w })) (are_apart others place (c ∷ cs))
          (token_elsewhere k w at place (c ∷ cs) (past (at + size_of w) place (further (size_of w) some))) h

  pieces_apart : (ps : List Piece) (text : List ℕ) (at : ℕ) (due : Option ℕ) (place : ℕ) → CutsTo text ps [] → all_scalars text ≡ true → word_spans (tokens_from at due ps) ≡ []
      → needs_blank (spelling_before place (tokens_from at due ps)) (Some first) ≡ false → are_apart (tokens_from at due ps) place (c ∷ cs) ≡ true
  unfolding tokens_from
  pieces_apart [] text at due place cut scalars known none = at_the_end due place (c ∷ cs)
  pieces_apart (p ∷ ps) text at due place cut scalars known none =
      let parts = scalars_parts p.word cut.0 (subst (λ (x : List ℕ). all_scalars x ≡ true) cut.1.parts scalars) in
      by_kind p.kind p.word cut.1.spelled parts.0 (λ k n. pieces_apart ps cut.0 (at + size_of p.word) (due_after at due p.kind p.word) place cut.2 parts.1 k n)
      (λ le. from_place ps cut.0 (at + size_of p.word) (due_after at due p.kind p.word) place cut.2 le) refl known none
    where
      others : List Token
      others = tokens_from (at + size_of p.word) (due_after at due p.kind p.word) ps

      -- the token ends at the place, or elsewhere
      by_end : (k : TokenKind) (w : List ℕ) → IsPiece (token k) w → all_scalars w ≡ true → is_unsupported k (encode_utf8_all w) ≡ false → (place ≤ at + size_of w → are_apart others place (c ∷ cs) ≡ true)
          → (needs_blank (spelling_before place others) (Some first) ≡ false → are_apart others place (c ∷ cs) ≡ true) → (b : Bool) → nat_eq (at + size_of w) place ≡ b
          → needs_blank (if b && nat_lt at place then Some (encode_utf8_all w) else spelling_before place others) (Some first) ≡ false
          → are_apart (record { span = span_of at w; kind = k; spelling = encode_utf8_all w } ∷ others) place (c ∷ cs) ≡ true
      by_end k w piece scalar known behind_it on true e none =
          let size = has_bytes (token k) w piece in
          let q = same_place (at + size_of w) place e in
          let here : nat_lt at place ≡ true = under at place (omega (arith, size, q)) in
          let together : run_together (encode_utf8_all w) first ≡ false = subst (λ (b : Bool). needs_blank (if b then Some (encode_utf8_all w) else spelling_before place others) (Some first) ≡ false) here none in
          and_true (stays_apart place (c ∷ cs) (record { span = span_of at w; kind = k; spelling = encode_utf8_all w })) (are_apart others place (c ∷ cs))
          (token_apart k w at place scalar (two k w piece known together)) (behind_it (omega (arith, q)))
      by_end k w piece scalar known behind_it on false e none =
          and_true (stays_apart place (c ∷ cs) (record { span = span_of at w; kind = k; spelling = encode_utf8_all w })) (are_apart others place (c ∷ cs))
          (token_elsewhere k w at place (c ∷ cs) e) (on none)

      by_kind : (k : PieceKind) (w : List ℕ) → IsPiece k w → all_scalars w ≡ true → (word_spans others ≡ [] → needs_blank (spelling_before place others) (Some first) ≡ false → are_apart others place (c ∷ cs) ≡ true)
          → (place ≤ at + size_of p.word → are_apart others place (c ∷ cs) ≡ true) → size_of p.word ≡ size_of w → word_spans (tokens_at at due k w ++ others) ≡ []
          → needs_blank (spelling_before place (tokens_at at due k w ++ others)) (Some first) ≡ false → are_apart (tokens_at at due k w ++ others) place (c ∷ cs) ≡ true
      by_kind blanks w piece scalar on later size known none =
          with_line (is_listed w 10) due others place (c ∷ cs)
          (on (known_line (is_listed w 10) due others known) (subst (λ (o : Option (List ℕ)). needs_blank o (Some first) ≡ false) (spelled_line place (is_listed w 10) due others) none))
      by_kind remark w piece scalar on later size known none =
          with_line (is_listed w 10) due others place (c ∷ cs)
          (on (known_line (is_listed w 10) due others known) (subst (λ (o : Option (List ℕ)). needs_blank o (Some first) ≡ false) (spelled_line place (is_listed w 10) due others) none))
      by_kind (token k) w piece scalar on later size known none =
          let u = known_first (record { span = span_of at w; kind = k; spelling = encode_utf8_all w }) others known in
          by_end k w piece scalar u.0 (λ le. later (omega (arith, le, size))) (λ n. on u.1 n) (nat_eq (at + size_of w) place) refl none

pub forms_apart : (text : List ℕ) (tokens : List Token) (comments : List Comment) (file : File Span) → TokensOf text tokens comments → SpellsFile tokens file → (at c : ℕ) (cs : List ℕ) → may_begin c ≡ true
    → needs_blank (spelling_before at tokens) (Some (encode_utf8_all (c ∷ cs))) ≡ false → are_apart tokens at (c ∷ cs) ≡ true
forms_apart text tokens comments file of_text spells at c cs begins none =
    subst (λ (ts : List Token). are_apart ts at (c ∷ cs) ≡ true) (sym of_text.tokens_are)
    (pieces_apart c cs begins of_text.pieces (after_mark of_text.characters) (mark_size of_text.characters) None at of_text.cut (unmarked_scalars of_text.characters of_text.scalars)
    (subst (λ (ts : List Token). word_spans ts ≡ []) of_text.tokens_are (words_supported tokens file spells))
    (subst (λ (ts : List Token). needs_blank (spelling_before at ts) (Some (encode_utf8_all (c ∷ cs))) ≡ false) of_text.tokens_are none))

pub name_apart : (text : List ℕ) (tokens : List Token) (comments : List Comment) (file : File Span) → TokensOf text tokens comments → SpellsFile tokens file → (at : ℕ) (name : List ℕ) → IsName name
    → needs_blank (spelling_before at tokens) (Some name) ≡ false → are_apart tokens at (chars name) ≡ true
name_apart text tokens comments file of_text spells at name is none =
    let f = first_letter (chars name) is.1 in
    let bytes : name ≡ encode_utf8_all (f.0 ∷ f.1) = sym (encodes-chars name is.0) ∙ ap encode_utf8_all f.2 in
    subst (λ (v : List ℕ). are_apart tokens at v ≡ true) (sym f.2)
    (forms_apart text tokens comments file of_text spells at f.0 f.1 (or_true (is_letter f.0) (is_listed first_signs f.0) f.3) (subst (λ (v : List ℕ). needs_blank (spelling_before at tokens) (Some v) ≡ false) bytes none))
