-- Parts of a text from an offset on, and those of the node that stands next.
use Rattle.std.proofs.Common.{◌≡◌, ℕ, ◌+◌, ◌≤◌, ◌<◌, Bool, true, false, cond, List, [], ◌∷◌, ◌++◌, length, Option, Some, None, refl, sym, ap, subst, ◌∙◌, arith}
use Rattle.std.specs.Prelude.{encode_utf8_all}
use Rattle.std.specs.Str.{all_scalars}
use Rattle.std.proofs.lemmas.List.{append_assoc}
use Rattle.go_tree.specs.declared.spans.Span.{Span}
use Rattle.go_tree.specs.declared.tokens.Token.{Token}
use Rattle.go_tree.specs.declared.tokens.TokenKind.{TokenKind}
use Rattle.go_tree.specs.GoWords.Terminals.{Terminal, Lexeme, lex, terminal_of, lexeme_of, lexemes}
use Rattle.go_tree.specs.GoWords.Tokens.{size_of, span_of, ends_line, tokens_from, pieces_size}
use Rattle.go_tree.specs.GoWords.Tokens.Pieces.{token, Piece, IsPiece}
use Rattle.go_read.specs.SpellsTypes.{Lexemes}
use Rattle.go_read.specs.SpellsSpans.{start_of}
use Rattle.run_rules.specs.ImportRules.Removed.{through_semicolon}
use Rattle.splice_laws.specs.Joints.{words_of, PartsTo, InnerEnd, given, IsWritten}
use Rattle.splice_laws.specs.Edited.{terminals}
use Rattle.splice_laws.proofs.AddImports.{terminals_both}
use Rattle.splice_laws.proofs.Founds.{Found, find}
use Rattle.splice_laws.proofs.Over.{is_piece}
use Rattle.splice_laws.proofs.Places.{parts_split, given_then}
use Rattle.splice_laws.proofs.Splices.{size_pieces}
use Rattle.splice_laws.proofs.TokenLists.{Cut, cut_tokens}
use Rattle.splice_laws.proofs.ImportSplices.Terms.{own, own_then, own_is, due, due_then, is_silent, silent, silent_none, breaks, both_parts, Gap, gap_of}
use Rattle.splice_laws.proofs.ImportSplices.Bytes.{bytes_of}
use Rattle.splice_laws.proofs.ImportSplices.Nexts.{is_semi, past_given}

abbrev pub token_piece : TokenKind → List ℕ → Piece
token_piece k w = record { kind = token k; word = w }

-- From an offset on a text has these parts, and they give these lexemes; with `b` a semicolon is due behind a token
-- that ends there, and a newline stands before the next.
pub record State (text : List ℕ) (tokens : List Token) (at : ℕ) (b : Bool) (ps : List Piece) (ts : Lexemes) : Type 0 where
  pub before : List ℕ
  pub text_is : text ≡ before ++ bytes_of ps
  pub size : length before ≡ at
  pub done : List Token
  pub tokens_are : tokens ≡ done ++ tokens_from at None ps
  pub past : (n : ℕ) → at < n → (us : List Token) → through_semicolon (done ++ us) n ≡ through_semicolon us n
  pub lexed : lexemes (tokens_from at None ps) ≡ ts
  pub parts : PartsTo (words_of ps) ps []
  pub inner : InnerEnd ps
  pub scalars : all_scalars (words_of ps) ≡ true
  pub due : b ≡ true → breaks ps ≡ true

-- ---- the node that stands next

pub record Node (at : ℕ) (ps : List Piece) (n0 : Lexemes) (s : Span) (x : Terminal) (r : Lexemes) : Type 0 where
  pub gap : List Piece
  pub core : List Piece
  pub behind : List Piece
  pub kind : TokenKind
  pub word : List ℕ
  pub is : ps ≡ gap ++ (core ++ behind)
  pub none : silent gap ≡ true
  pub first : (k : TokenKind) × (w : List ℕ) × (h : List Piece) × (core ≡ token_piece k w ∷ h)
  pub last : (h : List Piece) × (core ≡ h ++ token_piece kind word ∷ [])
  pub start_is : start_of (n0 ++ lex s x ∷ r) ≡ at + pieces_size gap
  pub end_is : s.end ≡ at + (pieces_size gap + pieces_size core)
  pub wide : s.end ≡ s.start + size_of word
  pub x_is : terminal_of kind (encode_utf8_all word) ≡ x
  pub piece : IsPiece (token kind) word
  pub own_is : own false core ≡ terminals (n0 ++ lex s x ∷ [])
  pub due_is : due false core ≡ ends_line kind word
  pub done : List Token
  pub whole : tokens_from at None ps ≡ done ++ tokens_from (at + (pieces_size gap + pieces_size core)) (cond (ends_line kind word) (Some (at + (pieces_size gap + pieces_size core))) None) behind
  pub past : (n : ℕ) → at + (pieces_size gap + pieces_size core) ≤ n → (us : List Token) → through_semicolon (done ++ us) n ≡ through_semicolon us n
  pub back : lexemes (tokens_from (at + (pieces_size gap + pieces_size core)) (cond (ends_line kind word) (Some (at + (pieces_size gap + pieces_size core))) None) behind) ≡ r

-- blanks and comments before a token that stands among the parts through another
record Prefix (gap : List Piece) (k0 : TokenKind) (w0 : List ℕ) (before : List Piece) (k : TokenKind) (w : List ℕ) : Type 0 where
  inside : List Piece
  before_is : before ≡ gap ++ inside
  later : List Piece
  core_is : inside ++ token_piece k w ∷ [] ≡ token_piece k0 w0 ∷ later

prefix : (gap : List Piece) (k0 : TokenKind) (w0 : List ℕ) (b0 before : List Piece) (k : TokenKind) (w : List ℕ) (b : List Piece) → silent gap ≡ true → gap ++ (token_piece k0 w0 ∷ b0) ≡ before ++ (token_piece k w ∷ b) → Prefix gap k0 w0 before k w
prefix [] k0 w0 b0 [] k w b s e = let h : token_piece k0 w0 ≡ token_piece k w = cc in record { inside = []; before_is = refl; later = []; core_is = ap (λ (p : Piece). p ∷ []) (sym h) }
prefix [] k0 w0 b0 (p ∷ before) k w b s e = let h : token_piece k0 w0 ≡ p = cc in record { inside = p ∷ before; before_is = refl; later = before ++ token_piece k w ∷ []; core_is = ap (λ (q : Piece). q ∷ (before ++ token_piece k w ∷ [])) (sym h) }
prefix (g ∷ gap) k0 w0 b0 [] k w b s e =
    let h : g ≡ token_piece k w = cc in
    absurd (nope (sym (both_parts (is_silent g.kind) (silent gap) s).0 ∙ ap (λ (p : Piece). is_silent p.kind) h))
  where
    nope : true ≡ false → ⊥
    nope e = cc
prefix (g ∷ gap) k0 w0 b0 (p ∷ before) k w b s e =
    let h : g ≡ p = cc in
    let r : gap ++ (token_piece k0 w0 ∷ b0) ≡ before ++ (token_piece k w ∷ b) = cc in
    let x = prefix gap k0 w0 b0 before k w b (both_parts (is_silent g.kind) (silent gap) s).1 r in
    record { inside = x.inside; before_is = ap (λ (ps : List Piece). p ∷ ps) x.before_is ∙ ap (λ (q : Piece). q ∷ (gap ++ x.inside)) (sym h); later = x.later; core_is = x.core_is }

abbrev pub span_in : Lexeme → Span
span_in (lex s x) = s

abbrev pub terminal_in : Lexeme → Terminal
terminal_in (lex s x) = x

own_one : (k : TokenKind) (w : List ℕ) (b : Bool) → own b (token_piece k w ∷ []) ≡ terminal_of k (encode_utf8_all w) ∷ []
unfolding own
own_one k w b = refl

due_one : (k : TokenKind) (w : List ℕ) (b : Bool) → due b (token_piece k w ∷ []) ≡ ends_line k w
unfolding due
due_one k w b = refl

given_one : (k : TokenKind) (word : List ℕ) (at : ℕ) (d : Option ℕ) → given at d (token_piece k word ∷ []) ≡ record { span = span_of at word; kind = k; spelling = encode_utf8_all word } ∷ []
unfolding given
given_one k word at d = refl

module _ (text : List ℕ) (tokens : List Token) (at : ℕ) (b : Bool) (ps : List Piece) (n0 : Lexemes) (s : Span) (x : Terminal) (r : Lexemes) (st : State text tokens at b ps (n0 ++ lex s x ∷ r)) (written : is_semi x ≡ false) where
  node_at : (first : List Token) (y : Token) (back : List Token) → tokens_from at None ps ≡ first ++ y ∷ back → lexemes first ≡ n0 → lexeme_of y ≡ lex s x → lexemes back ≡ r
      → (f : Found at None ps first y back) → (x0 : Token) (back0 : List Token) → tokens_from at None ps ≡ x0 ∷ back0 → (g : Gap at ps x0 back0) → Node at ps n0 s x r
  node_at first y back e en ey er f x0 back0 e0 g =
      let pre = prefix g.gap g.kind g.word g.behind f.before y.kind f.word f.behind g.none (sym g.is ∙ f.is) in
      let core : List Piece = token_piece g.kind g.word ∷ pre.later in
      let tok : Piece = token_piece y.kind f.word in
      let list : f.before ++ tok ∷ [] ≡ g.gap ++ core = ap (λ (qs : List Piece). qs ++ tok ∷ []) pre.before_is ∙ append_assoc g.gap pre.inside (tok ∷ []) ∙ ap (λ (qs : List Piece). g.gap ++ qs) pre.core_is in
      let size : pieces_size f.before + size_of f.word ≡ pieces_size g.gap + pieces_size core =
      sizes (pieces_size f.before) (size_of f.word) (pieces_size (f.before ++ tok ∷ [])) (pieces_size g.gap) (pieces_size core) (size_pieces f.before (tok ∷ [])) (ap pieces_size list ∙ size_pieces g.gap core) in
      let place : at + pieces_size f.before + size_of f.word ≡ at + (pieces_size g.gap + pieces_size core) = sums (pieces_size f.before) (size_of f.word) (pieces_size g.gap + pieces_size core) size in
      let s1 = parts_split f.before (tok ∷ f.behind) (words_of ps) [] (subst (λ (qs : List Piece). PartsTo (words_of ps) qs []) f.is st.parts) in
      let terminal : terminal_of y.kind (encode_utf8_all f.word) ≡ x = ap (λ (w : List ℕ). terminal_of y.kind w) (sym (ap (λ (t : Token). t.spelling) f.token_is)) ∙ ap terminal_in ey in
      let through : List Piece = f.before ++ tok ∷ [] in
      let owns : own false through ≡ terminals (n0 ++ lex s x ∷ []) =
      own_then f.before (tok ∷ []) false ∙ ap (λ (ts : List Terminal). ts ++ own (due false f.before) (tok ∷ [])) (sym (own_is f.before at None) ∙ ap (λ (ts : List Token). terminals (lexemes ts)) (sym f.front_is) ∙ ap terminals en)
      ∙ ap (λ (ts : List Terminal). terminals n0 ++ ts) (own_one y.kind f.word (due false f.before) ∙ ap (λ (t : Terminal). t ∷ []) terminal) ∙ sym (terminals_both n0 (lex s x ∷ [])) in
      let none = silent_none g.gap g.none in
      let mine : first ++ y ∷ [] ≡ given at None through =
      ap (λ (ts : List Token). ts ++ y ∷ []) f.front_is ∙ ap (λ (t : Token). given at None f.before ++ t ∷ []) f.token_is
      ∙ ap (λ (ts : List Token). given at None f.before ++ ts) (sym (given_one y.kind f.word (at + pieces_size f.before) _)) ∙ sym (given_then f.before (tok ∷ []) at None) in
      let back_is : back ≡ tokens_from (at + (pieces_size g.gap + pieces_size core)) (cond (ends_line y.kind f.word) (Some (at + (pieces_size g.gap + pieces_size core))) None) f.behind =
      f.back_is ∙ ap (λ (n : ℕ). tokens_from n (cond (ends_line y.kind f.word) (Some n) None) f.behind) place in
      record {
        gap = g.gap;
        core = core;
        behind = f.behind;
        kind = y.kind;
        word = f.word;
        is = f.is ∙ sym (append_assoc f.before (tok ∷ []) f.behind) ∙ ap (λ (qs : List Piece). qs ++ f.behind) list ∙ append_assoc g.gap core f.behind;
        none = g.none;
        first = (g.kind, g.word, pre.later, refl);
        last = (pre.inside, sym pre.core_is);
        start_is = ap start_of (sym st.lexed ∙ ap lexemes e0) ∙ ap (λ (t : Token). t.span.start) g.token_is;
        end_is = ap (λ (l : Lexeme). (span_in l).end) (sym ey) ∙ ap (λ (t : Token). t.span.end) f.token_is ∙ place;
        wide = ap (λ (l : Lexeme). (span_in l).end) (sym ey) ∙ ap (λ (t : Token). t.span.end) f.token_is ∙ ap (λ (n : ℕ). n + size_of f.word) (sym (ap (λ (l : Lexeme). (span_in l).start) (sym ey) ∙ ap (λ (t : Token). t.span.start) f.token_is));
        x_is = terminal;
        piece = is_piece (token y.kind) f.word s1.2.0 s1.2.2;
        own_is = sym (own_then g.gap core false ∙ ap (λ (ts : List Terminal). ts ++ own (due false g.gap) core) none.0 ∙ ap (λ (c : Bool). own c core) none.1) ∙ ap (own false) (sym list) ∙ owns;
        due_is = sym (due_then g.gap core false ∙ ap (λ (c : Bool). due c core) none.1) ∙ ap (due false) (sym list) ∙ due_then f.before (tok ∷ []) false ∙ due_one y.kind f.word (due false f.before);
        done = first ++ y ∷ [];
        whole = e ∙ ap (λ (ts : List Token). first ++ y ∷ ts) back_is ∙ sym (append_assoc first (y ∷ []) (tokens_from (at + (pieces_size g.gap + pieces_size core)) (cond (ends_line y.kind f.word) (Some (at + (pieces_size g.gap + pieces_size core))) None) f.behind));
        past = λ n le us. ap (λ (ts : List Token). through_semicolon (ts ++ us) n) mine
            ∙ past_given through f.behind (words_of ps) [] at None n us (subst (λ (qs : List Piece). PartsTo (words_of ps) qs []) (f.is ∙ sym (append_assoc f.before (tok ∷ []) f.behind)) st.parts) tt (subst (λ (m : ℕ). at + m ≤ n) (sym (ap pieces_size list ∙ size_pieces g.gap core)) le);
        back = ap lexemes (sym back_is) ∙ er;
      }
    where
      sizes : (f w t g c : ℕ) → t ≡ f + (w + 0) → t ≡ g + c → f + w ≡ g + c
      sizes f w t g c e h = omega (arith, e, h)

      sums : (f w n : ℕ) → f + w ≡ n → at + f + w ≡ at + n
      sums f w n e = omega (arith, e)

  pub node : Node at ps n0 s x r
  node = by_cut (cut_tokens (tokens_from at None ps) n0 (lex s x ∷ r) st.lexed)
    where
      wrote : (y : Token) → lexeme_of y ≡ lex s x → IsWritten y
      wrote y e q = nope (sym written ∙ ap (λ (l : Lexeme). is_semi (terminal_in l)) (sym e) ∙ ap (λ (k : TokenKind). is_semi (terminal_of k y.spelling)) q)
        where
          nope : false ≡ true → ⊥
          nope e = cc

      head_of : (first : List Token) (y : Token) (back : List Token) → (x0 : Token) × (back0 : List Token) × (first ++ y ∷ back ≡ x0 ∷ back0)
      head_of [] y back = (y, back, refl)
      head_of (z ∷ zs) y back = (z, zs ++ y ∷ back, refl)

      by_cut : Cut (tokens_from at None ps) n0 (lex s x ∷ r) → Node at ps n0 s x r
      by_cut c = by_second c.second c.whole c.second_is
        where
          by_second : (ys : List Token) → tokens_from at None ps ≡ c.first ++ ys → lexemes ys ≡ lex s x ∷ r → Node at ps n0 s x r
          by_second [] e q = absurd cc
          by_second (y ∷ back) e q =
              let one : lexeme_of y ≡ lex s x = cc in
              let rest : lexemes back ≡ r = cc in
              let h = head_of c.first y back in
              node_at c.first y back e c.first_is one rest (find ps at None c.first y back e (wrote y one)) h.0 h.1 (e ∙ h.2) (gap_of ps at h.0 h.1 (e ∙ h.2))
