-- What goes behind an import: its semicolon, where that is written.
use Rattle.std.proofs.Common.{◌≡◌, inl, inr, ℕ, ◌+◌, ◌<◌, Bool, true, false, cond, nat_le, List, [], ◌∷◌, ◌++◌, codes, Option, Some, None, refl, sym, ap, subst, ◌∙◌, arith}
use Rattle.std.specs.Prelude.{encode_utf8_all}
use Rattle.std.proofs.lemmas.Bool.Decides.{nat_tests}
use Rattle.std.proofs.lemmas.List.{append_assoc}
use Rattle.go_tree.specs.declared.spans.Span.{Span}
use Rattle.go_tree.specs.declared.tokens.Token.{Token}
use Rattle.go_tree.specs.declared.tokens.TokenKind.{TokenKind}
use Rattle.go_tree.specs.declared.tokens.TokenKind.TheVariants.{Operator, Inserted}
use Rattle.go_tree.specs.GoWords.Terminals.{Terminal, Lexeme, lex, semicolon, terminal_of, lexeme_of, lexemes}
use Rattle.go_tree.specs.GoWords.Tokens.{size_of, due_after, tokens_from, pieces_size}
use Rattle.go_tree.specs.GoWords.Tokens.Pieces.{token, Piece, IsPiece}
use Rattle.go_read.specs.SpellsTypes.{Lexemes}
use Rattle.run_rules.specs.ImportRules.Removed.{is_semicolon, through_semicolon}
use Rattle.splice_laws.specs.Joints.{PartsTo}
use Rattle.splice_laws.specs.Imports.{IsEnd}
use Rattle.splice_laws.proofs.ImportLists.{begins_end_paren}
use Rattle.splice_laws.proofs.Over.{is_piece}
use Rattle.splice_laws.proofs.Places.{parts_split}
use Rattle.splice_laws.proofs.Splices.{size_pieces}
use Rattle.splice_laws.proofs.ImportSplices.Terms.{silent, newline_in, breaks}
use Rattle.splice_laws.proofs.ImportSplices.Nexts.{not_from, is_semi, semi_token, semicolon_is, semi_word, Written, inserted_at, Next, is_inserted, is_written, next_of}

-- a semicolon that is due, one that is written, or none
pub data Sort (more left : List Piece) (end : Lexemes) : Type 0 where
  due_sort : more ≡ [] → breaks left ≡ true → (s : Span) → end ≡ lex s semicolon ∷ [] → Sort more left end
  word_sort : (g : List Piece) → more ≡ g ++ record { kind = token Operator; word = codes ";" } ∷ [] → silent g ≡ true → newline_in g ≡ false → (s : Span) → end ≡ lex s semicolon ∷ [] → Sort more left end
  no_sort : more ≡ [] → end ≡ [] → Sort more left end

-- the parts behind an offset through the semicolon that is written next, and those left
pub record Right (tokens : List Token) (at : ℕ) (behind : List Piece) (end rest : Lexemes) : Type 0 where
  pub more : List Piece
  pub left : List Piece
  pub is : behind ≡ more ++ left
  pub through : through_semicolon tokens at ≡ at + pieces_size more
  pub left_is : lexemes (tokens_from (at + pieces_size more) None left) ≡ rest
  pub sort : Sort more left end
  pub skipped : List Token
  pub skipped_is : tokens_from at (Some at) behind ≡ skipped ++ tokens_from (at + pieces_size more) None left
  pub past : (n : ℕ) → at + pieces_size more < n → (us : List Token) → through_semicolon (skipped ++ us) n ≡ through_semicolon us n

abbrev terminal_in : Lexeme → Terminal
terminal_in (lex s x) = x

from_own : (n m : ℕ) → nat_le n (n + m) ≡ true
from_own n m = grind (arith, nat_tests)

own : (n : ℕ) → nat_le n n ≡ true
own n = grind (arith, nat_tests)

one_past : (x : Token) (n : ℕ) (us : List Token) → x.span.start < n → through_semicolon (x ∷ us) n ≡ through_semicolon us n
one_past x n us h = ap (λ (b : Bool). cond b (cond (is_semicolon x.kind x.spelling) x.span.end n) (through_semicolon us n)) (not_from n x.span.start h)

zero : (n : ℕ) → n ≡ n + 0
zero n = omega arith

module _ (tokens done : List Token) (at : ℕ) (behind : List Piece) (tail : List ℕ) (parts : PartsTo tail behind [])
    (whole : tokens ≡ done ++ tokens_from at (Some at) behind) (past : (us : List Token) → through_semicolon (done ++ us) at ≡ through_semicolon us at) where
  through_is : (ts : List Token) → tokens_from at (Some at) behind ≡ ts → through_semicolon tokens at ≡ through_semicolon ts at
  through_is ts e = ap (λ (us : List Token). through_semicolon us at) (whole ∙ ap (λ (us : List Token). done ++ us) e) ∙ past ts

  -- none is written there
  bare_right : (x : Token) (back : List Token) (end rest : Lexemes) → tokens_from at (Some at) behind ≡ x ∷ back → nat_le at x.span.start ≡ true → is_semicolon x.kind x.spelling ≡ false
      → lexemes (tokens_from at None behind) ≡ rest → Sort [] behind end → (skip : List Token) → tokens_from at (Some at) behind ≡ skip ++ tokens_from at None behind → ((n : ℕ) → at < n → (us : List Token) → through_semicolon (skip ++ us) n ≡ through_semicolon us n)
      → Right tokens at behind end rest
  bare_right x back end rest e le none is sort skip skip_is skip_past = record {
    more = [];
    left = behind;
    is = refl;
    through = through_is (x ∷ back) e ∙ ap (λ (b : Bool). cond b (cond (is_semicolon x.kind x.spelling) x.span.end at) (through_semicolon back at)) le ∙ ap (λ (b : Bool). cond b x.span.end at) none ∙ zero at;
    left_is = ap (λ (n : ℕ). lexemes (tokens_from n None behind)) (sym (zero at)) ∙ is;
    sort = sort;
    skipped = skip;
    skipped_is = skip_is ∙ ap (λ (n : ℕ). skip ++ tokens_from n None behind) (zero at);
    past = λ n h us. skip_past n (subst (λ (m : ℕ). m < n) (sym (zero at)) h) us;
  }

  off : (b : Bool) → (b ≡ true → ⊥) → b ≡ false
  off true h = absurd (h refl)
  off false h = refl

  starts : (x : Token) (back : List Token) (v : Written at behind x back) → nat_le at x.span.start ≡ true
  starts x back v = ap (λ (t : Token). nat_le at t.span.start) v.token_is ∙ from_own at (pieces_size v.gap)

  kind_is : (x : Token) (back : List Token) (v : Written at behind x back) → v.kind ≡ Inserted → ⊥
  kind_is x back v e =
      let s = parts_split v.gap (record { kind = token v.kind; word = v.word } ∷ v.behind) tail [] (subst (λ (ps : List Piece). PartsTo tail ps []) v.is parts) in
      subst (λ (k : TokenKind). IsPiece (token k) v.word) e (is_piece (token v.kind) v.word s.2.0 s.2.2)

  -- a `)` stands there
  at_paren : (x : Token) (back : List Token) (end rest : Lexemes) → end ≡ [] → tokens_from at (Some at) behind ≡ x ∷ back → lexemes (x ∷ back) ≡ rest → begins_end_paren rest ≡ true → Next at at behind x back → Right tokens at behind end rest
  at_paren x back end rest z e r b (is_inserted h q k) = absurd (nope (sym (ap begins_end_paren r) ∙ ap (λ (t : Token). begins_end_paren (lexeme_of t ∷ lexemes back)) (sym (sym h)) ∙ refl))
    where
      nope : begins_end_paren rest ≡ false → ⊥
      nope q = cc
  at_paren x back end rest z e r b (is_written v) =
      bare_right x back end rest e (starts x back v) (off (is_semicolon x.kind x.spelling) (λ q. clash (semicolon_is x.kind x.spelling q))) (ap lexemes v.alike ∙ r) (no_sort refl z) [] (e ∙ sym v.alike) (λ n h us. refl)
    where
      clash : terminal_of x.kind x.spelling ≡ semicolon → ⊥
      clash q = nope (sym b ∙ ap begins_end_paren (sym r) ∙ ap (λ (y : Terminal). begins_end_paren (lex x.span y ∷ lexemes back)) q)
        where
          nope : true ≡ false → ⊥
          nope q = cc

  -- a semicolon stands there
  at_semicolon : (x : Token) (back : List Token) (end rest : Lexemes) (z : Span) → end ≡ lex z semicolon ∷ [] → tokens_from at (Some at) behind ≡ x ∷ back → terminal_of x.kind x.spelling ≡ semicolon → lexemes back ≡ rest → Next at at behind x back → Right tokens at behind end rest
  at_semicolon x back end rest z ez e s r (is_inserted h q k) =
      bare_right x back end rest e (ap (λ (t : Token). nat_le at t.span.start) h ∙ own at) (ap (λ (t : Token). is_semicolon t.kind t.spelling) h) (ap lexemes (sym q) ∙ r)
      (due_sort refl k z ez) (inserted_at at ∷ []) (e ∙ ap (λ (t : Token). t ∷ back) h ∙ ap (λ (ts : List Token). inserted_at at ∷ ts) q) (λ n h us. one_past (inserted_at at) n us h)
  at_semicolon x back end rest z ez e s r (is_written v) =
      let kind : x.kind ≡ v.kind = ap (λ (t : Token). t.kind) v.token_is in
      let word : x.spelling ≡ encode_utf8_all v.word = ap (λ (t : Token). t.spelling) v.token_is in
      let same : terminal_of v.kind (encode_utf8_all v.word) ≡ semicolon = ap (λ (k : TokenKind). terminal_of k (encode_utf8_all v.word)) (sym kind) ∙ ap (λ (w : List ℕ). terminal_of x.kind w) (sym word) ∙ s in
      let f = semi_token v.kind (encode_utf8_all v.word) (kind_is x back v) (ap is_semi same) in
      let w : v.word ≡ codes ";" = semi_word v.word f.1 in
      let written : is_semicolon x.kind x.spelling ≡ true = ap (λ (k : TokenKind). is_semicolon k x.spelling) (kind ∙ f.0) ∙ ap (λ (u : List ℕ). is_semicolon Operator u) (word ∙ f.1) in
      let one : Piece = record { kind = token v.kind; word = v.word } in
      let size : at + pieces_size v.gap + size_of v.word ≡ at + pieces_size (v.gap ++ one ∷ []) = sizes (pieces_size v.gap) (size_of v.word) (pieces_size (v.gap ++ one ∷ [])) (size_pieces v.gap (one ∷ [])) in
      record {
        more = v.gap ++ one ∷ [];
        left = v.behind;
        is = v.is ∙ sym (append_assoc v.gap (one ∷ []) v.behind);
        through = through_is (x ∷ back) e ∙ ap (λ (b : Bool). cond b (cond (is_semicolon x.kind x.spelling) x.span.end at) (through_semicolon back at)) (starts x back v) ∙ ap (λ (b : Bool). cond b x.span.end at) written
            ∙ ap (λ (t : Token). t.span.end) v.token_is ∙ size;
        left_is = ap (λ (n : ℕ). lexemes (tokens_from n None v.behind)) (sym size) ∙ ap lexemes (sym (v.back_is ∙ ap (λ (d : Option ℕ). tokens_from (at + pieces_size v.gap + size_of v.word) d v.behind) (none_due (at + pieces_size v.gap) v.kind v.word f.0 w))) ∙ r;
        sort = word_sort v.gap (ap (λ (k : TokenKind). v.gap ++ record { kind = token k; word = v.word } ∷ []) f.0 ∙ ap (λ (u : List ℕ). v.gap ++ record { kind = token Operator; word = u } ∷ []) w) v.none v.flat z ez;
        skipped = x ∷ [];
        skipped_is = e ∙ ap (λ (ts : List Token). x ∷ ts) (v.back_is ∙ ap (λ (d : Option ℕ). tokens_from (at + pieces_size v.gap + size_of v.word) d v.behind) (none_due (at + pieces_size v.gap) v.kind v.word f.0 w) ∙ ap (λ (n : ℕ). tokens_from n None v.behind) size);
        past = λ n h us. one_past x n us (subst (λ (t : Token). t.span.start < n) (sym v.token_is) (before (pieces_size v.gap) (size_of v.word) n (subst (λ (m : ℕ). m < n) (sym size) h)));
      }
    where
      before : (g w n : ℕ) → at + g + w < n → at + g < n
      before g w n h = omega (arith, h)

      sizes : (g w m : ℕ) → m ≡ g + (w + 0) → at + g + w ≡ at + m
      sizes g w m e = omega (arith, e)

      none_due : (n : ℕ) (k : TokenKind) (w : List ℕ) → k ≡ Operator → w ≡ codes ";" → due_after n None (token k) w ≡ None
      none_due n k w e f = ap (λ (j : TokenKind). due_after n None (token j) w) e ∙ ap (λ (v : List ℕ). due_after n None (token Operator) v) f

  pub right : (end rest : Lexemes) → lexemes (tokens_from at (Some at) behind) ≡ end ++ rest → IsEnd end → (end ≡ [] → begins_end_paren rest ≡ true) → Right tokens at behind end rest
  right end rest e is ends = by_list (tokens_from at (Some at) behind) refl is
    where
      by_list : (ts : List Token) → tokens_from at (Some at) behind ≡ ts → IsEnd end → Right tokens at behind end rest
      by_list [] q (inl z) = absurd (nope (sym (ends z) ∙ ap begins_end_paren (sym (sym (ap lexemes q) ∙ e ∙ ap (λ (us : Lexemes). us ++ rest) z))))
        where
          nope : true ≡ false → ⊥
          nope q = cc
      by_list [] q (inr z) = absurd (nope (sym (ap lexemes q) ∙ e ∙ ap (λ (us : Lexemes). us ++ rest) z.1))
        where
          nope : [] ≡ lex z.0 semicolon ∷ rest → ⊥
          nope q = cc
      by_list (x ∷ back) q (inl z) = at_paren x back end rest z q (sym (ap lexemes q) ∙ e ∙ ap (λ (us : Lexemes). us ++ rest) z) (ends z) (next_of behind at at x back q)
      by_list (x ∷ back) q (inr z) =
          let both : lexeme_of x ∷ lexemes back ≡ lex z.0 semicolon ∷ rest = sym (ap lexemes q) ∙ e ∙ ap (λ (us : Lexemes). us ++ rest) z.1 in
          let first : lexeme_of x ≡ lex z.0 semicolon = cc in
          let later : lexemes back ≡ rest = cc in
          at_semicolon x back end rest z.0 z.1 q (ap terminal_in first) later (next_of behind at at x back q)
