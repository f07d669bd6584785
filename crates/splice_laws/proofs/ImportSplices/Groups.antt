-- The `)` of a group, and what stands before it on its line (Go specification, Import declarations).
use Rattle.std.proofs.Common.{◌≡◌, inl, inr, ◌⊎◌, ℕ, ◌+◌, Bool, true, false, ◌||◌, List, [], ◌∷◌, ◌++◌, length, codes, Some, None, cond, refl, sym, ap, subst, ◌∙◌, arith, length-append}
use Rattle.std.specs.Prelude.{encode_utf8_all}
use Rattle.std.specs.Str.{all_scalars}
use Rattle.std.specs.List.{list_all}
use Rattle.std.proofs.lemmas.List.{append_assoc, append-nil}
use Rattle.std.proofs.lemmas.Str.{encodes-append, chars-encodes}
use Rattle.go_tree.specs.declared.spans.Span.{Span}
use Rattle.go_tree.specs.declared.tokens.Token.{Token}
use Rattle.go_tree.specs.declared.tokens.TokenKind.{TokenKind}
use Rattle.go_tree.specs.declared.tokens.TokenKind.TheVariants.{Operator, Str}
use Rattle.go_tree.specs.GoWords.Terminals.{Lexeme, lex, str_lit, semicolon, end_paren, ends_statement, terminal_of, lexeme_of, lexemes}
use Rattle.go_tree.specs.GoWords.Tokens.Characters.{is_blank, is_listed}
use Rattle.go_tree.specs.GoWords.Tokens.Forms.{HasForm}
use Rattle.go_tree.specs.GoWords.Tokens.Literals.{string_lit}
use Rattle.go_tree.specs.GoWords.Tokens.{ends_line, tokens_from, pieces_size}
use Rattle.go_tree.specs.GoWords.Tokens.Pieces.{token, Piece, IsPiece}
use Rattle.go_read.specs.SpellsTypes.{Lexemes}
use Rattle.go_scan.proofs.BytesLemmas.{newline_same}
use Rattle.run_rules.specs.ImportRules.Removed.{begins_line}
use Rattle.splice_laws.specs.Joints.{words_of}
use Rattle.splice_laws.proofs.AddImports.{words_both}
use Rattle.splice_laws.proofs.Ends.{View, view, first_is}
use Rattle.splice_laws.proofs.Splices.{size_pieces, scalars_parts}
use Rattle.splice_laws.proofs.TokenLists.{asks_ends}
use Rattle.splice_laws.proofs.ImportSplices.Terms.{newline_in}
use Rattle.splice_laws.proofs.ImportSplices.Bytes.{bytes_of, bytes_then, bytes_size, line_starts, listed_then}
use Rattle.splice_laws.proofs.ImportSplices.Gaps.{at_last, all_later}
use Rattle.splice_laws.proofs.ImportSplices.Nexts.{Written, Next, is_inserted, is_written, next_of}
use Rattle.splice_laws.proofs.ImportSplices.Nodes.{token_piece, span_in, terminal_in, State, Node, node}
use Rattle.splice_laws.proofs.ImportSplices.Closed.{is_close, close_token}
use Rattle.splice_laws.proofs.ImportSplices.Quotes.{low_all}
use Rattle.splice_laws.proofs.ImportSplices.LineStarts.{ends_ink, ink_last}

-- ---- `)` is one byte

paren_word : (k : TokenKind) (w : List ℕ) → terminal_of k (encode_utf8_all w) ≡ end_paren → encode_utf8_all w ≡ codes ")"
paren_word k w e = by (close_token k (encode_utf8_all w) (closes e))
  where
    closes : terminal_of k (encode_utf8_all w) ≡ end_paren → is_close (terminal_of k (encode_utf8_all w)) ≡ true
    closes e = ap is_close e

    no_text : str_lit (encode_utf8_all w) ≡ end_paren → ⊥
    no_text q = cc

    by : (k ≡ Str) ⊎ ((k ≡ Operator) × (encode_utf8_all w ≡ codes ")")) → encode_utf8_all w ≡ codes ")"
    by (inl q) = absurd (no_text (ap (λ (j : TokenKind). terminal_of j (encode_utf8_all w)) (sym q) ∙ e))
    by (inr q) = q.1

pub paren_wide : (text : List ℕ) (tokens : List Token) (at : ℕ) (b : Bool) (ps : List Piece) (m : Lexemes) (e : Span) (r : Lexemes) → State text tokens at b ps (m ++ lex e end_paren ∷ r) → e.end ≡ e.start + 1
paren_wide text tokens at b ps m e r st =
    let n = node text tokens at b ps m e end_paren r st refl in
    n.wide ∙ ap (λ (w : List ℕ). e.start + length w) (paren_word n.kind n.word n.x_is)

-- ---- a string ends with a byte that is no blank

text_ink : (w : List ℕ) → HasForm string_lit w → (m : List ℕ) × (c : ℕ) × (encode_utf8_all w ≡ m ++ c ∷ []) × (is_blank c ≡ false)
unfolding string_lit
text_ink w h = by (view h)
  where
    ends : (c : ℕ) (a0 a1 b0 b1 : List ℕ) → encode_utf8_all (c ∷ []) ≡ c ∷ [] → w ≡ a0 ++ a1 → a1 ≡ b0 ++ b1 → b1 ≡ c ∷ [] → encode_utf8_all w ≡ encode_utf8_all (a0 ++ b0) ++ c ∷ []
    ends c a0 a1 b0 b1 one e f g =
        ap encode_utf8_all (e ∙ ap (λ (v : List ℕ). a0 ++ v) (f ∙ ap (λ (v : List ℕ). b0 ++ v) g) ∙ sym (append_assoc a0 b0 (c ∷ []))) ∙ encodes-append (a0 ++ b0) (c ∷ []) ∙ ap (λ (v : List ℕ). encode_utf8_all (a0 ++ b0) ++ v) one

    by : View string_lit w → (m : List ℕ) × (c : ℕ) × (encode_utf8_all w ≡ m ++ c ∷ []) × (is_blank c ≡ false)
    by (inl x) = let a = view x in let b = view a.4 in (encode_utf8_all (a.0 ++ b.0), 34, ends 34 a.0 a.1 b.0 b.1 (low_all (34 ∷ []) refl) a.2 b.2 (first_is 34 b.1 (view b.4)), refl)
    by (inr x) = let a = view x in let b = view a.4 in (encode_utf8_all (a.0 ++ b.0), 96, ends 96 a.0 a.1 b.0 b.1 (low_all (96 ∷ []) refl) a.2 b.2 (first_is 96 b.1 (view b.4)), refl)

text_kind : (k : TokenKind) (w p : List ℕ) → terminal_of k w ≡ str_lit p → k ≡ Str
text_kind k w p e = by (close_token k w (ap is_close e))
  where
    no_paren : end_paren ≡ str_lit p → ⊥
    no_paren q = cc

    by : (k ≡ Str) ⊎ ((k ≡ Operator) × (w ≡ codes ")")) → k ≡ Str
    by (inl q) = q
    by (inr q) = absurd (no_paren (ap (λ (v : List ℕ). terminal_of Operator v) (sym q.1) ∙ ap (λ (j : TokenKind). terminal_of j w) (sym q.0) ∙ e))

-- ---- parts without a newline

flat_bytes : (g : List Piece) → all_scalars (words_of g) ≡ true → newline_in g ≡ false → is_listed (bytes_of g) 10 ≡ false
flat_bytes [] sc n = refl
flat_bytes (p ∷ g) sc n = ap (λ (v : List ℕ). is_listed v 10) (encodes-append p.word (words_of g)) ∙ by (is_listed p.word 10) refl n (λ q. flat_bytes g both.1 q)
  where
    both : (all_scalars p.word ≡ true) × (all_scalars (words_of g) ≡ true)
    both = scalars_parts p.word (words_of g) sc

    by : (b : Bool) → is_listed p.word 10 ≡ b → b || newline_in g ≡ false → (newline_in g ≡ false → is_listed (bytes_of g) 10 ≡ false) → is_listed (encode_utf8_all p.word ++ bytes_of g) 10 ≡ false
    by true e q later = absurd cc
    by false e q later = listed_then (encode_utf8_all p.word) (bytes_of g) false false (newline_same (encode_utf8_all p.word) (p.word, (both.0, refl)) ∙ ap (λ (v : List ℕ). is_listed v 10) (chars-encodes p.word both.0) ∙ e) (later q)

-- ---- what shares its line with a string

-- bytes that end with a byte that is no blank, and others without a newline
inked_line : (text f m g more : List ℕ) (c at : ℕ) → f ≡ m ++ c ∷ [] → is_blank c ≡ false → is_listed g 10 ≡ false → text ≡ (f ++ g) ++ more → length (f ++ g) ≡ at → begins_line text at ≡ false
inked_line text f m g more c at e ink bare whole size = by (is_listed f 10) refl
  where
    by : (d : Bool) → is_listed f 10 ≡ d → begins_line text at ≡ false
    by true n =
        let l = at_last f n in
        let split : f ++ g ≡ (l.before ++ 10 ∷ []) ++ (l.behind ++ g) = ap (λ (v : List ℕ). v ++ g) (l.is ∙ sym (append_assoc l.before (10 ∷ []) l.behind)) ∙ append_assoc (l.before ++ 10 ∷ []) l.behind g in
        (line_starts text (l.before ++ 10 ∷ []) (l.behind ++ g) more at (whole ∙ ap (λ (v : List ℕ). v ++ more) split) (ap length (sym split) ∙ size) (inr (l.before, refl)) (listed_then l.behind g false false l.none bare)).1
        ∙ all_later l.behind g (ink_last m c l.before l.behind ink (sym e ∙ l.is))
    by false n = (line_starts text [] (f ++ g) more at whole size (inl refl) (listed_then f g false false n bare)).1 ∙ all_later f g (ap (list_all is_blank) e ∙ ends_ink m c ink)

module _ (text : List ℕ) (tokens : List Token) (at : ℕ) (b : Bool) (ps : List Piece) (n0 : Lexemes) (s : Span) (p : List ℕ) (e : Span) (r : Lexemes) (st : State text tokens at b ps (n0 ++ lex s (str_lit p) ∷ lex e end_paren ∷ r)) where
  shut : (n : Node at ps n0 s (str_lit p) (lex e end_paren ∷ r)) (x : Token) (back : List Token) → lexeme_of x ≡ lex e end_paren → Written (at + (pieces_size n.gap + pieces_size n.core)) n.behind x back → begins_line text e.start ≡ false
  shut n x back one v =
      let front : List Piece = n.gap ++ n.core in
      let rest : List Piece = token_piece v.kind v.word ∷ v.behind in
      let k : n.kind ≡ Str = text_kind n.kind (encode_utf8_all n.word) p n.x_is in
      let t = text_ink n.word (subst (λ (j : TokenKind). IsPiece (token j) n.word) k n.piece) in
      let split : ps ≡ front ++ (v.gap ++ rest) = n.is ∙ sym (append_assoc n.gap n.core n.behind) ∙ ap (λ (us : List Piece). (n.gap ++ n.core) ++ us) v.is in
      let core_bytes : bytes_of n.core ≡ (bytes_of n.last.0 ++ t.0) ++ t.1 ∷ [] =
      ap bytes_of n.last.1 ∙ bytes_then n.last.0 (token_piece n.kind n.word ∷ []) ∙ ap (λ (u : List ℕ). bytes_of n.last.0 ++ u) (one_bytes n.word ∙ t.2) ∙ sym (append_assoc (bytes_of n.last.0) t.0 (t.1 ∷ [])) in
      let f_is : st.before ++ bytes_of front ≡ (st.before ++ (bytes_of n.gap ++ (bytes_of n.last.0 ++ t.0))) ++ t.1 ∷ [] =
      ap (λ (u : List ℕ). st.before ++ u) (bytes_then n.gap n.core ∙ ap (λ (u : List ℕ). bytes_of n.gap ++ u) core_bytes ∙ sym (append_assoc (bytes_of n.gap) (bytes_of n.last.0 ++ t.0) (t.1 ∷ [])))
      ∙ sym (append_assoc st.before (bytes_of n.gap ++ (bytes_of n.last.0 ++ t.0)) (t.1 ∷ [])) in
      let whole : text ≡ ((st.before ++ bytes_of front) ++ bytes_of v.gap) ++ bytes_of rest =
      st.text_is ∙ ap (λ (us : List Piece). st.before ++ bytes_of us) split ∙ ap (λ (u : List ℕ). st.before ++ u) (bytes_then front (v.gap ++ rest) ∙ ap (λ (u : List ℕ). bytes_of front ++ u) (bytes_then v.gap rest))
      ∙ sym (append_assoc st.before (bytes_of front) (bytes_of v.gap ++ bytes_of rest)) ∙ sym (append_assoc (st.before ++ bytes_of front) (bytes_of v.gap) (bytes_of rest)) in
      let scalars = scalars_parts (words_of front) (words_of (v.gap ++ rest)) (subst (λ (u : List ℕ). all_scalars u ≡ true) (ap words_of split ∙ words_both front (v.gap ++ rest)) st.scalars) in
      let gap_scalars : all_scalars (words_of v.gap) ≡ true = (scalars_parts (words_of v.gap) (words_of rest) (subst (λ (u : List ℕ). all_scalars u ≡ true) (words_both v.gap rest) scalars.1)).0 in
      let start : e.start ≡ at + (pieces_size n.gap + pieces_size n.core) + pieces_size v.gap = ap (λ (l : Lexeme). (span_in l).start) (sym one) ∙ ap (λ (y : Token). y.span.start) v.token_is in
      let size : length ((st.before ++ bytes_of front) ++ bytes_of v.gap) ≡ e.start =
      length-append (st.before ++ bytes_of front) (bytes_of v.gap)
      ∙ sizes (length (st.before ++ bytes_of front)) (length (bytes_of v.gap)) (length st.before) (length (bytes_of front)) (pieces_size n.gap) (pieces_size n.core) (pieces_size v.gap) e.start (length-append st.before (bytes_of front)) st.size
      (bytes_size front ∙ size_pieces n.gap n.core) (bytes_size v.gap) start in
      inked_line text (st.before ++ bytes_of front) (st.before ++ (bytes_of n.gap ++ (bytes_of n.last.0 ++ t.0))) (bytes_of v.gap) (bytes_of rest) t.1 e.start f_is t.3 (flat_bytes v.gap gap_scalars v.flat) whole size
    where
      one_bytes : (w : List ℕ) → bytes_of (token_piece n.kind w ∷ []) ≡ encode_utf8_all w
      one_bytes w = ap encode_utf8_all (append-nil w)

      sizes : (f g a c x y z k : ℕ) → f ≡ a + c → a ≡ at → c ≡ x + y → g ≡ z → k ≡ at + (x + y) + z → f + g ≡ k
      sizes f g a c x y z k p q u v w = omega (arith, p, q, u, v, w)

  -- where a `)` stands directly behind the last spec, that stands on its line
  pub closing_not_open : begins_line text e.start ≡ false
  closing_not_open =
      let n = node text tokens at b ps n0 s (str_lit p) (lex e end_paren ∷ r) st refl in
      let to : ℕ = at + (pieces_size n.gap + pieces_size n.core) in
      let line : ends_line n.kind n.word ≡ true = asks_ends n.kind n.word (ap ends_statement n.x_is) in
      by_list n (tokens_from to (Some to) n.behind) refl (ap (λ (c : Bool). lexemes (tokens_from to (cond c (Some to) None) n.behind)) (sym line) ∙ n.back)
    where
      by_next : (n : Node at ps n0 s (str_lit p) (lex e end_paren ∷ r)) (x : Token) (back : List Token) → lexeme_of x ≡ lex e end_paren
          → Next (at + (pieces_size n.gap + pieces_size n.core)) (at + (pieces_size n.gap + pieces_size n.core)) n.behind x back → begins_line text e.start ≡ false
      by_next n x back one (is_inserted h q k) = absurd (nope (ap terminal_in (ap lexeme_of (sym h) ∙ one)))
        where
          nope : semicolon ≡ end_paren → ⊥
          nope q = cc
      by_next n x back one (is_written v) = shut n x back one v

      by_list : (n : Node at ps n0 s (str_lit p) (lex e end_paren ∷ r)) (ts : List Token) → tokens_from (at + (pieces_size n.gap + pieces_size n.core)) (Some (at + (pieces_size n.gap + pieces_size n.core))) n.behind ≡ ts
          → lexemes ts ≡ lex e end_paren ∷ r → begins_line text e.start ≡ false
      by_list n [] q l = absurd cc
      by_list n (x ∷ back) q l =
          let one : lexeme_of x ≡ lex e end_paren = cc in
          by_next n x back one (next_of n.behind (at + (pieces_size n.gap + pieces_size n.core)) (at + (pieces_size n.gap + pieces_size n.core)) x back q)
