-- Tokens and lexemes of a node.
use Rattle.std.proofs.Common.{◌≡◌, ℕ, ◌+◌, ◌-◌, ◌<◌, Bool, true, false, cond, not, ◌&&◌, nat_eq, List, [], ◌∷◌, ◌++◌, length, take, map, Option, Some, None, refl, sym, ap, subst, ◌∙◌, arith, length-append, bytes_eq}
use Rattle.std.specs.Prelude.{codes, encode_utf8_all, if◌then◌else◌}
use Rattle.std.proofs.lemmas.Bool.Decides.{nat_tests}
use Rattle.std.proofs.lemmas.List.{append_assoc}
use Rattle.std.proofs.lemmas.Str.{encodes_same}
use Rattle.std.specs.List.{list_all}
use Rattle.go_tree.specs.declared.spans.Span.{Span}
use Rattle.go_tree.specs.declared.tokens.Token.{Token}
use Rattle.go_tree.specs.declared.tokens.TokenKind.{TokenKind}
use Rattle.go_tree.specs.declared.tokens.TokenKind.TheVariants.{Ident, Keyword, Operator, Integer, Float, Imaginary, Rune, Str, Inserted}
use Rattle.go_tree.specs.GoWords.Tokens.{ends_line, inserted, tokens_at, due_after, tokens_from, size_of}
use Rattle.go_tree.specs.GoWords.Tokens.Characters.{is_listed}
use Rattle.go_tree.specs.GoWords.Tokens.Pieces.{PieceKind, blanks, remark, token, Piece, is_among}
use Rattle.go_tree.specs.GoWords.Terminals.{ends_statement, Terminal, Lexeme, lex, semicolon, terminal_of, lexeme_of, lexemes, found_in, keywords, operators}
use Rattle.go_read.specs.SpellsTypes.{Lexemes}
use Rattle.go_read.specs.SpellsSpans.{start_of, end_after, span_to}
use Rattle.go_scan.proofs.Derivatives.{and_parts, or_left, or_right}
use Rattle.go_layout.proofs.LayoutLaws.LaidCuts.{is_due}
use Rattle.go_layout.specs.LayoutLaws.LayoutTokens.{HasTokens, of_nothing, of_token, of_gap, of_line, of_end, of_both}
use Rattle.go_layout.specs.Layouts.{Layout, ◌⊕◌}
use Rattle.splice_laws.specs.Joints.{IsWritten, Spans, of_one, of_more, dots_apart, runs_on}
use Rattle.splice_laws.specs.Edited.{terminals}
use Rattle.splice_laws.specs.Ends.{begins_semicolon}
use Rattle.splice_laws.proofs.Ends.{or_cases}
use Rattle.splice_laws.specs.Replaced.{respan}

-- ---- a list in parts

pub record Cut (tokens : List Token) (front back : Lexemes) : Type 0 where
  pub first : List Token
  pub second : List Token
  pub whole : tokens ≡ first ++ second
  pub first_is : lexemes first ≡ front
  pub second_is : lexemes second ≡ back

pub cut_tokens : (tokens : List Token) (front back : Lexemes) → lexemes tokens ≡ front ++ back → Cut tokens front back
cut_tokens tokens [] back e = record { first = []; second = tokens; whole = refl; first_is = refl; second_is = e }
cut_tokens [] (x ∷ front) back e = absurd cc
cut_tokens (t ∷ tokens) (x ∷ front) back e =
    let h : lexeme_of t ≡ x = cc in
    let r : lexemes tokens ≡ front ++ back = cc in
    let c = cut_tokens tokens front back r in
    record {
      first = t ∷ c.first;
      second = c.second;
      whole = ap (λ (ts : List Token). t ∷ ts) c.whole;
      first_is = ap (λ (y : Lexeme). y ∷ lexemes c.first) h ∙ ap (λ (ys : Lexemes). x ∷ ys) c.first_is;
      second_is = c.second_is;
    }

pub earlier_apart : (xs ys : List Token) → dots_apart (xs ++ ys) ≡ true → dots_apart xs ≡ true
earlier_apart [] ys h = refl
earlier_apart (x ∷ []) ys h = refl
earlier_apart (x ∷ z ∷ xs) ys h =
    let p = and_parts (not (runs_on x z)) (dots_apart ((z ∷ xs) ++ ys)) h in
    both (not (runs_on x z)) (dots_apart (z ∷ xs)) p.0 (earlier_apart (z ∷ xs) ys p.1)
  where
    both : (a b : Bool) → a ≡ true → b ≡ true → a && b ≡ true
    both true true p q = refl
    both true false p q = absurd cc
    both false b p q = absurd cc

-- ---- a token that ends_statement for a semicolon

same_number : (a b : ℕ) → nat_eq a b ≡ true → a ≡ b
same_number a b e = grind (arith, nat_tests, e)

bytes_same : (xs ys : List ℕ) → bytes_eq xs ys ≡ true → xs ≡ ys
bytes_same [] [] h = refl
bytes_same [] (y ∷ ys) h = absurd cc
bytes_same (x ∷ xs) [] h = absurd cc
bytes_same (x ∷ xs) (y ∷ ys) h =
    let p = and_parts (nat_eq x y) (bytes_eq xs ys) h in
    ap (λ (z : ℕ). z ∷ xs) (same_number x y p.0) ∙ ap (λ (zs : List ℕ). y ∷ zs) (bytes_same xs ys p.1)

-- each row whose terminal ends_statement passes
abbrev rows_pass : (List ℕ → Bool) → List (List ℕ × Terminal) → Bool
rows_pass test [] = true
rows_pass test (row ∷ rows) = cond (ends_statement row.1) (test row.0) true && rows_pass test rows

found_passes : (test : List ℕ → Bool) (rows : List (List ℕ × Terminal)) (w : List ℕ) → rows_pass test rows ≡ true → ends_statement (found_in rows w) ≡ true → test w ≡ true
found_passes test [] w pass h = absurd cc
found_passes test (row ∷ rows) w pass h = by_row (bytes_eq row.0 w) refl h (λ q. found_passes test rows w p.1 q)
  where
    p : (cond (ends_statement row.1) (test row.0) true ≡ true) × (rows_pass test rows ≡ true)
    p = and_parts (cond (ends_statement row.1) (test row.0) true) (rows_pass test rows) pass

    by_asks : (b : Bool) → b ≡ true → cond b (test row.0) true ≡ true → test row.0 ≡ true
    by_asks true q x = x
    by_asks false q x = absurd cc

    by_row : (b : Bool) → bytes_eq row.0 w ≡ b → ends_statement (if b then row.1 else found_in rows w) ≡ true → (ends_statement (found_in rows w) ≡ true → test w ≡ true) → test w ≡ true
    by_row true e q later = subst (λ (v : List ℕ). test v ≡ true) (bytes_same row.0 w e) (by_asks (ends_statement row.1) q p.0)
    by_row false e q later = later q

-- written in bytes as in characters
plain_word : (word : List ℕ) (w : List ℕ) → encode_utf8_all w ≡ w → encode_utf8_all word ≡ w → word ≡ w
plain_word word w own e = encodes_same word w (e ∙ sym own)

abbrev closing_words : List (List ℕ)
closing_words = map codes ("break" ∷ "continue" ∷ "fallthrough" ∷ "return" ∷ [])

abbrev closing_signs : List (List ℕ)
closing_signs = map codes ("++" ∷ "--" ∷ ")" ∷ "]" ∷ "}" ∷ [])

key_rows : rows_pass (is_among closing_words) keywords ≡ true
key_rows = refl

sign_rows : rows_pass (is_among closing_signs) operators ≡ true
sign_rows = refl

-- each of the words is written in bytes as in characters
abbrev are_plain : List (List ℕ) → Type 0
are_plain [] = Unit {0}
are_plain (w ∷ ws) = (encode_utf8_all w ≡ w) × are_plain ws

plain_words : are_plain closing_words
unfolding lib.Utf8.encode
plain_words = (refl, (refl, (refl, (refl, tt))))

plain_signs : are_plain closing_signs
unfolding lib.Utf8.encode
plain_signs = (refl, (refl, (refl, (refl, (refl, tt)))))

own_bytes : (w : List ℕ) → bytes_eq w w ≡ true
own_bytes [] = refl
own_bytes (c ∷ cs) = both (nat_eq c c) (bytes_eq cs cs) (own_number c) (own_bytes cs)
  where
    own_number : (c : ℕ) → nat_eq c c ≡ true
    own_number c = grind (arith, nat_tests)

    both : (a b : Bool) → a ≡ true → b ≡ true → a && b ≡ true
    both true true p q = refl
    both true false p q = absurd cc
    both false b p q = absurd cc

among_plain : (ws : List (List ℕ)) (word : List ℕ) → are_plain ws → is_among ws (encode_utf8_all word) ≡ true → is_among ws word ≡ true
among_plain [] word plain h = absurd cc
among_plain (w ∷ ws) word plain h =
    or_cases (bytes_eq (encode_utf8_all word) w) (is_among ws (encode_utf8_all word)) h
    (λ e. or_left (bytes_eq word w) (is_among ws word) (subst (λ (v : List ℕ). bytes_eq v w ≡ true) (sym (plain_word word w plain.0 (bytes_same (encode_utf8_all word) w e))) (own_bytes w)))
    (λ e. or_right (bytes_eq word w) (is_among ws word) (among_plain ws word plain.1 e))

among_ends : (test : List ℕ → Bool) (ws : List (List ℕ)) (word : List ℕ) → list_all test ws ≡ true → is_among ws word ≡ true → test word ≡ true
among_ends test [] word all h = absurd cc
among_ends test (w ∷ ws) word all h =
    let p = and_parts (test w) (list_all test ws) all in
    or_cases (bytes_eq word w) (is_among ws word) h (λ e. subst (λ (v : List ℕ). test v ≡ true) (sym (bytes_same word w e)) p.0) (λ e. among_ends test ws word p.1 e)

-- a newline after such a token gives a semicolon
pub asks_ends : (k : TokenKind) (word : List ℕ) → ends_statement (terminal_of k (encode_utf8_all word)) ≡ true → ends_line k word ≡ true
asks_ends Ident word q = refl
asks_ends Keyword word q = among_ends (ends_line Keyword) closing_words word refl (among_plain closing_words word plain_words (found_passes (is_among closing_words) keywords (encode_utf8_all word) key_rows q))
asks_ends Operator word q = among_ends (ends_line Operator) closing_signs word refl (among_plain closing_signs word plain_signs (found_passes (is_among closing_signs) operators (encode_utf8_all word) sign_rows q))
asks_ends Integer word q = refl
asks_ends Float word q = refl
asks_ends Imaginary word q = refl
asks_ends Rune word q = refl
asks_ends Str word q = refl
asks_ends Inserted word q = absurd cc

asks_written : (t : Token) → ends_statement (terminal_of t.kind t.spelling) ≡ true → IsWritten t
asks_written t q e = nope (subst (λ (k : TokenKind). ends_statement (terminal_of k t.spelling) ≡ true) e q)
  where
    nope : false ≡ true → ⊥
    nope e = cc

-- ---- the tokens of a node

pub record Own (tokens : List Token) (ls : Lexemes) (span : Span) : Type 0 where
  pub last : Token
  pub spans : Spans tokens last span
  pub closes : ends_statement (terminal_of last.kind last.spelling) ≡ true

-- where the lexemes of a node stand
abbrev pub own_span : Lexemes → Span
own_span ls = record { start = start_of ls; end = end_after (start_of ls) ls }

pub same_lexeme : (t : Token) (s : Span) (x : Terminal) → lexeme_of t ≡ lex s x → (t.span ≡ s) × (terminal_of t.kind t.spelling ≡ x)
same_lexeme t s x e = (ap span_in e, ap terminal_in e)
  where
    span_in : Lexeme → Span
    span_in (lex s x) = s

    terminal_in : Lexeme → Terminal
    terminal_in (lex s x) = x

pub end_last : (n : ℕ) (ls : Lexemes) (s : Span) (x : Terminal) → end_after n (ls ++ lex s x ∷ []) ≡ s.end
end_last n [] s x = refl
end_last n (lex s0 x0 ∷ ls) s x = end_last s0.end ls s x

written_first : (t : Token) (ts : Lexemes) → begins_semicolon (lexeme_of t ∷ ts) ≡ false → IsWritten t
written_first t ts q e = nope (subst (λ (k : TokenKind). begins_semicolon (lex t.span (terminal_of k t.spelling) ∷ ts) ≡ false) e q)
  where
    nope : true ≡ false → ⊥
    nope e = cc

pub own_tokens : (tokens : List Token) (front : Lexemes) (s : Span) (x : Terminal) → lexemes tokens ≡ front ++ lex s x ∷ [] → ends_statement x ≡ true → begins_semicolon (front ++ lex s x ∷ []) ≡ false → Own tokens (front ++ lex s x ∷ []) (own_span (front ++ lex s x ∷ []))
own_tokens tokens front s x e q b = by_cut (cut_tokens tokens front (lex s x ∷ []) e)
  where
    by_cut : Cut tokens front (lex s x ∷ []) → Own tokens (front ++ lex s x ∷ []) (own_span (front ++ lex s x ∷ []))
    by_cut c = by_lists c.first c.second c.whole c.first_is c.second_is
      where
        one : (t : Token) → tokens ≡ t ∷ [] → front ≡ [] → lexeme_of t ≡ lex s x → Own tokens (front ++ lex s x ∷ []) (own_span (front ++ lex s x ∷ []))
        one t w f l =
            let same = same_lexeme t s x l in
            let closes : ends_statement (terminal_of t.kind t.spelling) ≡ true = ap ends_statement same.1 ∙ q in
            subst (λ (us : Lexemes). Own tokens (us ++ lex s x ∷ []) (own_span (us ++ lex s x ∷ []))) (sym f)
            (subst (λ (ts : List Token). Own ts (lex s x ∷ []) s) (sym w) (record { last = t; spans = subst (λ (sp : Span). Spans (t ∷ []) t sp) same.0 (of_one (asks_written t closes)); closes = closes }))

        more : (t l : Token) (middle : List Token) → tokens ≡ t ∷ (middle ++ l ∷ []) → lexemes (t ∷ middle) ≡ front → lexeme_of l ≡ lex s x → Own tokens (front ++ lex s x ∷ []) (own_span (front ++ lex s x ∷ []))
        more t l middle w f e2 =
            let same = same_lexeme l s x e2 in
            let closes : ends_statement (terminal_of l.kind l.spelling) ≡ true = ap ends_statement same.1 ∙ q in
            let first : IsWritten t = written_first t (lexemes middle ++ lex s x ∷ []) (subst (λ (us : Lexemes). begins_semicolon (us ++ lex s x ∷ []) ≡ false) (sym f) b) in
            let ends : l.span.end ≡ end_after (start_of (lexemes (t ∷ middle) ++ lex s x ∷ [])) (lexemes (t ∷ middle) ++ lex s x ∷ []) = ap (λ (sp : Span). sp.end) same.0 ∙ sym (end_last (start_of (lexemes (t ∷ middle) ++ lex s x ∷ [])) (lexemes (t ∷ middle)) s x) in
            subst (λ (us : Lexemes). Own tokens (us ++ lex s x ∷ []) (own_span (us ++ lex s x ∷ []))) f
            (subst (λ (ts : List Token). Own ts (lexemes (t ∷ middle) ++ lex s x ∷ []) (own_span (lexemes (t ∷ middle) ++ lex s x ∷ []))) (sym w)
            (record { last = l; spans = subst (λ (n : ℕ). Spans (t ∷ (middle ++ l ∷ [])) l (record { start = t.span.start; end = n })) ends (of_more middle first (asks_written l closes)); closes = closes }))

        by_lists : (fs ls : List Token) → tokens ≡ fs ++ ls → lexemes fs ≡ front → lexemes ls ≡ lex s x ∷ [] → Own tokens (front ++ lex s x ∷ []) (own_span (front ++ lex s x ∷ []))
        by_lists fs [] w f g = absurd cc
        by_lists [] (l ∷ []) w f g = one l w (sym f) (head_is g)
          where
            head_is : lexeme_of l ∷ [] ≡ lex s x ∷ [] → lexeme_of l ≡ lex s x
            head_is e = cc
        by_lists (t ∷ middle) (l ∷ []) w f g = more t l middle w f (head_is g)
          where
            head_is : lexeme_of l ∷ [] ≡ lex s x ∷ [] → lexeme_of l ≡ lex s x
            head_is e = cc
        by_lists fs (l ∷ m ∷ ls) w f g = absurd (nope g)
          where
            nope : lexeme_of l ∷ lexeme_of m ∷ lexemes ls ≡ lex s x ∷ [] → ⊥
            nope e = cc

-- the span of a node is that of its own tokens
take_front : (xs ys : Lexemes) → take (length (xs ++ ys) - length ys) (xs ++ ys) ≡ xs
take_front xs ys = let n = length-append xs ys in let m : length (xs ++ ys) - length ys ≡ length xs = omega (arith, n) in ap (λ (k : ℕ). take k (xs ++ ys)) m ∙ take_own xs ys
  where
    take_own : (xs ys : Lexemes) → take (length xs) (xs ++ ys) ≡ xs
    take_own [] ys = refl
    take_own (x ∷ xs) ys = ap (λ (zs : Lexemes). x ∷ zs) (take_own xs ys)

pub span_own : (xs ys : Lexemes) (x : Lexeme) → span_to ((x ∷ xs) ++ ys) ys ≡ own_span (x ∷ xs)
span_own xs ys (lex s x) = ap (λ (us : Lexemes). record { start = s.start; end = end_after s.start us }) (take_front (lex s x ∷ xs) ys)

-- ---- what follows is alike

tokens_like : (k : PieceKind) (w : List ℕ) (m n : ℕ) (d e : Option ℕ) → is_due d ≡ is_due e → (terminals (lexemes (tokens_at m d k w)) ≡ terminals (lexemes (tokens_at n e k w))) × (is_due (due_after m d k w) ≡ is_due (due_after n e k w))
tokens_like k w m n d e q = by_kind k
  where
    same_inserted : (d e : Option ℕ) → is_due d ≡ is_due e → terminals (lexemes (inserted d)) ≡ terminals (lexemes (inserted e))
    same_inserted None None q = refl
    same_inserted None (Some b) q = absurd cc
    same_inserted (Some a) None q = absurd cc
    same_inserted (Some a) (Some b) q = refl

    by_newline : (b : Bool) → (terminals (lexemes (cond b (inserted d) [])) ≡ terminals (lexemes (cond b (inserted e) []))) × (is_due (cond b None d) ≡ is_due (cond b None e))
    by_newline true = (same_inserted d e q, refl)
    by_newline false = (refl, q)

    by_end : (b : Bool) (x y : ℕ) → is_due (cond b (Some x) None) ≡ is_due (cond b (Some y) None)
    by_end true x y = refl
    by_end false x y = refl

    by_kind : (k : PieceKind) → (terminals (lexemes (tokens_at m d k w)) ≡ terminals (lexemes (tokens_at n e k w))) × (is_due (due_after m d k w) ≡ is_due (due_after n e k w))
    by_kind blanks = by_newline (is_listed w 10)
    by_kind remark = by_newline (is_listed w 10)
    by_kind (token j) = (refl, by_end (ends_line j w) (m + size_of w) (n + size_of w))

terminals_on : (xs ys : List Token) → terminals (lexemes (xs ++ ys)) ≡ terminals (lexemes xs) ++ terminals (lexemes ys)
terminals_on [] ys = refl
terminals_on (x ∷ xs) ys = ap (λ (zs : List Terminal). terminal_of x.kind x.spelling ∷ zs) (terminals_on xs ys)

pub behind_alike : (ps : List Piece) (m n : ℕ) (d e : Option ℕ) → is_due d ≡ is_due e → terminals (lexemes (tokens_from m d ps)) ≡ terminals (lexemes (tokens_from n e ps))
unfolding tokens_from
behind_alike [] m n None None q = refl
behind_alike [] m n None (Some b) q = absurd cc
behind_alike [] m n (Some a) None q = absurd cc
behind_alike [] m n (Some a) (Some b) q = refl
behind_alike (p ∷ ps) m n d e q =
    let x = tokens_like p.kind p.word m n d e q in
    terminals_on (tokens_at m d p.kind p.word) (tokens_from (m + size_of p.word) (due_after m d p.kind p.word) ps)
    ∙ ap (λ (ts : List Terminal). ts ++ terminals (lexemes (tokens_from (m + size_of p.word) (due_after m d p.kind p.word) ps))) x.0
    ∙ ap (λ (ts : List Terminal). terminals (lexemes (tokens_at n e p.kind p.word)) ++ ts) (behind_alike ps (m + size_of p.word) (n + size_of p.word) (due_after m d p.kind p.word) (due_after n e p.kind p.word) x.1)
    ∙ sym (terminals_on (tokens_at n e p.kind p.word) (tokens_from (n + size_of p.word) (due_after n e p.kind p.word) ps))

-- tokens with the same terminals are the first ones with other spans
abbrev pub spans_at : Lexemes → ℕ → Span
spans_at [] n = record { start = 0; end = 0 }
spans_at (lex s x ∷ us) n = if nat_eq n (length us) then s else spans_at us n

terminals_count : (ts us : Lexemes) → terminals ts ≡ terminals us → length ts ≡ length us
terminals_count [] [] q = refl
terminals_count [] (lex s x ∷ us) q = absurd cc
terminals_count (lex s x ∷ ts) [] q = absurd cc
terminals_count (lex s x ∷ ts) (lex z y ∷ us) q = let t : terminals ts ≡ terminals us = cc in let n = terminals_count ts us t in omega (arith, n)

respan_is : (at : ℕ → Span) (ts us : Lexemes) → terminals ts ≡ terminals us → ((n : ℕ) → n < length us → at n ≡ spans_at us n) → respan at ts ≡ us
respan_is at [] [] q h = refl
respan_is at [] (lex z y ∷ us) q h = absurd cc
respan_is at (lex s x ∷ ts) [] q h = absurd cc
respan_is at (lex s x ∷ ts) (lex z y ∷ us) q h =
    let head : x ≡ y = cc in
    let tail : terminals ts ≡ terminals us = cc in
    let count = terminals_count ts us tail in
    let here : at (length ts) ≡ z = h (length ts) (omega (arith, count)) ∙ at_end (length ts) count in
    ap (λ (sp : Span). lex sp x ∷ respan at ts) here ∙ ap (λ (v : Terminal). lex z v ∷ respan at ts) head
    ∙ ap (λ (vs : Lexemes). lex z y ∷ vs) (respan_is at ts us tail (λ n lt. h n (omega (arith, lt)) ∙ not_end n lt))
  where
    at_end : (n : ℕ) → n ≡ length us → (if nat_eq n (length us) then z else spans_at us n) ≡ z
    at_end n e = let same : nat_eq n (length us) ≡ true = grind (arith, nat_tests, e) in rw same refl

    not_end : (n : ℕ) → n < length us → (if nat_eq n (length us) then z else spans_at us n) ≡ spans_at us n
    not_end n lt = let other : nat_eq n (length us) ≡ false = grind (arith, nat_tests, lt) in rw other refl

pub with_spans : (ts us : Lexemes) → terminals ts ≡ terminals us → respan (spans_at us) ts ≡ us
with_spans ts us q = respan_is (spans_at us) ts us q (λ n lt. refl)

pub terminals_joined : (xs ys zs : Lexemes) → terminals ys ≡ terminals zs → terminals (xs ++ ys) ≡ terminals (xs ++ zs)
terminals_joined [] ys zs q = q
terminals_joined (lex s x ∷ xs) ys zs q = ap (λ (ts : List Terminal). x ∷ ts) (terminals_joined xs ys zs q)

-- ---- the tokens of a layout before other tokens

pub layout_front : {a : Layout} {ts r : Lexemes} → HasTokens a ts r → (own : Lexemes) × (ts ≡ own ++ r) × ((q : Lexemes) → HasTokens a (own ++ q) q)
layout_front of_nothing = ([], refl, λ q. of_nothing)
layout_front (of_token {s = s} {kind = k} {spelling = w}) = (lex s (terminal_of k w) ∷ [], refl, λ q. of_token)
layout_front of_gap = ([], refl, λ q. of_gap)
layout_front of_line = ([], refl, λ q. of_line)
layout_front (of_end {s = s}) = (lex s semicolon ∷ [], refl, λ q. of_end)
layout_front (of_both {a = a} {b = b} {r = r} x y) =
    let f = layout_front x in
    let g = layout_front y in
    (f.0 ++ g.0, f.1 ∙ ap (λ (us : Lexemes). f.0 ++ us) g.1 ∙ sym (append_assoc f.0 g.0 r), λ q. subst (λ (us : Lexemes). HasTokens (a ⊕ b) us q) (sym (append_assoc f.0 g.0 q)) (of_both (f.2 (g.0 ++ q)) (g.2 q)))
