-- An import written before the first, or behind the package name.
use Rattle.std.proofs.Common.{◌≡◌, ℕ, suc, ◌+◌, ◌-◌, Bool, true, false, cond, not, ◌&&◌, nat_eq, bytes_eq, List, [], ◌∷◌, ◌++◌, length, take, Option, Some, None, refl, sym, ap, subst, ◌∙◌, arith}
use Rattle.std.specs.Prelude.{encode_utf8_all, codes, if◌then◌else◌}
use Rattle.std.specs.Str.{all_scalars}
use Rattle.std.proofs.lemmas.Bool.Decides.{nat_tests}
use Rattle.std.proofs.lemmas.List.{append_assoc}
use Rattle.std.proofs.lemmas.Str.{encodes_same}
use Rattle.go_tree.specs.declared.spans.Span.{Span}
use Rattle.go_tree.specs.declared.tokens.Token.{Token}
use Rattle.go_tree.specs.declared.tokens.Comment.{Comment}
use Rattle.go_tree.specs.declared.tokens.TokenKind.{TokenKind}
use Rattle.go_tree.specs.declared.tokens.TokenKind.TheVariants.{Ident, Keyword, Operator, Integer, Float, Imaginary, Rune, Str, Inserted}
use Rattle.go_tree.specs.File.{ImportDecl, File}
use Rattle.go_tree.specs.FileBare.{bare_file}
use Rattle.go_tree.specs.GoWords.Tokens.{TokensOf, size_of, span_of, due_after, tokens_from, comments_from, pieces_size}
use Rattle.go_tree.specs.GoWords.Tokens.Pieces.{token, Piece, keyword_spellings, is_blanks, IsPiece, IsNext}
use Rattle.go_scan.proofs.Derivatives.{and_parts}
use Rattle.go_tree.specs.GoWords.Terminals.{Terminal, Lexeme, lex, ident, str_lit, semicolon, key_import, key_package, terminal_of, lexeme_of, lexemes, found_in, keywords as key_rows, operators, paren}
use Rattle.go_read.specs.SpellsTypes.{Lexemes}
use Rattle.go_read.specs.SpellsSpans.{span_to, end_after}
use Rattle.go_read.specs.SpellsFiles.{SpellsImport, SpellsFront, SpellsFile, path_rule, named_path_rule, import_rule, import_group_rule, no_imports_rule, more_imports_rule, front_rule}
use Rattle.go_read.specs.Bareness.{nowhere}
use Rattle.go_read.proofs.SpansAside as aside
use Rattle.go_layout.proofs.LayoutLaws.LaidCuts.{is_due}
use Rattle.text_edits.specs.declared.edit.Edit.{Edit}
use Rattle.text_edits.specs.Applied.{applied}
use Rattle.splice_laws.specs.Joints.{words_of, PartsTo, EndsBefore, InnerEnd, LastEnds, Parted, Fitting, begin_of, given, due_behind, dots_apart}
use Rattle.splice_laws.specs.Splice.{ReadsAs}
use Rattle.splice_laws.specs.ImportTexts.{NewSpec, IsNewName, IsNewSpec, a_piece, spec_pieces, import_pieces, new_import, imports_first}
use Rattle.splice_laws.proofs.Grafts.{U}
use Rattle.splice_laws.proofs.Respans.{front_respan}
use Rattle.splice_laws.proofs.Marks.{front_marked}
use Rattle.splice_laws.proofs.Over.{parts_over, is_piece}
use Rattle.splice_laws.proofs.Splices.{tokens_then, parted_tokens, spliced, scalars_on, size_pieces}
use Rattle.splice_laws.proofs.Places.{given_then, due_then}
use Rattle.splice_laws.specs.Edited.{terminals}
use Rattle.splice_laws.proofs.TokenLists.{Cut, cut_tokens, earlier_apart, behind_alike, spans_at, with_spans}
use Rattle.splice_laws.proofs.Joins.{token_before_blank}
use Rattle.splice_laws.proofs.OneToken.{One, one_token, before_last, last_of, name_before_newline, text_ends}

-- ---- a text whose tokens are those of a file, but for spans

pub reads_alike : (txt : List ℕ) (tokens : List Token) (comments : List Comment) (f : File U) (us : Lexemes) → TokensOf txt tokens comments → SpellsFront nowhere f us [] → terminals us ≡ terminals (lexemes tokens) → ReadsAs txt f
reads_alike txt tokens comments f us t d e =
    let marked = front_marked span_to (subst (λ (vs : Lexemes). SpellsFront nowhere f vs []) (with_spans us (lexemes tokens) e) (front_respan (spans_at (lexemes tokens)) d)) in
    record { tokens = tokens; comments = comments; of_text = t; file = marked.0; spelled = marked.2; same = marked.1 }

-- ---- something put in between two parts

inserted_text : (txt mark : List ℕ) (before behind : List Piece) (tail : List ℕ) → Parted txt mark before [] behind tail → (ns : List Piece) → all_scalars (words_of ns) ≡ true → InnerEnd before → LastEnds before (words_of ns ++ tail)
    → InnerEnd ns → LastEnds ns tail → (at : ℕ) → at ≡ begin_of mark before
    → TokensOf (applied txt (record { span = record { start = at; end = at }; text = encode_utf8_all (words_of ns) } ∷ [])) (tokens_from (size_of mark) None (before ++ (ns ++ behind))) (comments_from (size_of mark) (before ++ (ns ++ behind)))
inserted_text txt mark before behind tail p ns scalars inner last own own_last at e =
    let fit : Fitting (words_of ns) ns tail behind (encode_utf8_all (words_of ns)) = record { scalars = scalars; encoded = refl; words = refl; parts = parts_over ns tail behind [] own own_last p.parts_behind } in
    let there = spliced txt mark before [] behind tail p (words_of ns) (encode_utf8_all (words_of ns)) ns fit inner last in
    let edit : ℕ → ℕ → List Edit = λ a b. record { span = record { start = a; end = b }; text = encode_utf8_all (words_of ns) } ∷ [] in
    let none : begin_of mark before + 0 ≡ at = zero_end at (begin_of mark before) e in
    subst (λ (n : ℕ). TokensOf (applied txt (edit n at)) (tokens_from (size_of mark) None (before ++ (ns ++ behind))) (comments_from (size_of mark) (before ++ (ns ++ behind)))) (sym e)
    (subst (λ (n : ℕ). TokensOf (applied txt (edit (begin_of mark before) n)) (tokens_from (size_of mark) None (before ++ (ns ++ behind))) (comments_from (size_of mark) (before ++ (ns ++ behind)))) none
    (parted_tokens (applied txt (edit (begin_of mark before) (begin_of mark before + 0))) mark before ns behind tail there))
  where
    zero_end : (at b : ℕ) → at ≡ b → b + 0 ≡ at
    zero_end at b e = omega (arith, e)

-- ---- the pieces of an import

pub blank_ends : (w next : List ℕ) → is_blanks w ≡ true → EndsBefore (a_piece w) next
blank_ends w [] h = h
blank_ends w (c ∷ cs) h = λ more. h

pub text_before : (l next : List ℕ) → IsPiece (token Str) l → EndsBefore (record { kind = token Str; word = l }) next
text_before l [] h = text_ends l [] h
text_before l (c ∷ cs) h = λ more. text_ends l (c ∷ more) h

pub import_is : IsPiece (token Keyword) (codes "import")
unfolding keyword_spellings
import_is = refl

newline : List ℕ
newline = 10 ∷ []

module _ (l : List ℕ) (is_text : IsPiece (token Str) l) where
  import_inner : (n : Option (List ℕ)) → IsNewName n → InnerEnd (record { kind = token Keyword; word = codes "import" } ∷ a_piece (codes " ") ∷ spec_pieces n l)
  import_inner None h = (λ more. token_before_blank Keyword (codes "import") more import_is, (blank_ends (codes " ") l refl, tt))
  import_inner (Some n) h = (λ more. token_before_blank Keyword (codes "import") more import_is, (blank_ends (codes " ") n refl, ((λ more. token_before_blank Ident n more h.0), (blank_ends (codes " ") l refl, tt))))

  import_last : (n : Option (List ℕ)) (next : List ℕ) → LastEnds (record { kind = token Keyword; word = codes "import" } ∷ a_piece (codes " ") ∷ spec_pieces n l) next
  import_last None next = text_before l next is_text
  import_last (Some n) next = text_before l next is_text

  with_newline_inner : (n : Option (List ℕ)) → IsNewName n → InnerEnd ((record { kind = token Keyword; word = codes "import" } ∷ a_piece (codes " ") ∷ spec_pieces n l) ++ a_piece (codes "\n") ∷ [])
  with_newline_inner None h = (λ more. token_before_blank Keyword (codes "import") more import_is, (blank_ends (codes " ") l refl, ((λ more. text_ends l (10 ∷ more) is_text), tt)))
  with_newline_inner (Some n) h =
      (λ more. token_before_blank Keyword (codes "import") more import_is, (blank_ends (codes " ") n refl, ((λ more. token_before_blank Ident n more h.0), (blank_ends (codes " ") l refl, ((λ more. text_ends l (10 ∷ more) is_text), tt)))))

  with_newline_last : (n : Option (List ℕ)) (next : List ℕ) → LastEnds ((record { kind = token Keyword; word = codes "import" } ∷ a_piece (codes " ") ∷ spec_pieces n l) ++ a_piece (codes "\n") ∷ []) next
  with_newline_last None next = blank_ends (codes "\n") next refl
  with_newline_last (Some n) next = blank_ends (codes "\n") next refl

-- ---- their tokens

abbrev name_terminals : Option (List ℕ) → List Terminal
name_terminals None = []
name_terminals (Some n) = ident (encode_utf8_all n) ∷ []

abbrev import_terminals : Option (List ℕ) → List ℕ → List Terminal
import_terminals n l = key_import ∷ (name_terminals n ++ str_lit (encode_utf8_all l) ∷ [])

first_given : (n : Option (List ℕ)) (l : List ℕ) (at : ℕ) (due : Option ℕ) → terminals (lexemes (given at due ((record { kind = token Keyword; word = codes "import" } ∷ a_piece (codes " ") ∷ spec_pieces n l) ++ a_piece (codes "\n") ∷ []))) ≡ import_terminals n l ++ semicolon ∷ []
unfolding given lib.Utf8.encode
first_given None l at due = refl
first_given (Some n) l at due = refl

behind_given : (n : Option (List ℕ)) (l : List ℕ) (at d : ℕ) → terminals (lexemes (given at (Some d) (a_piece (codes "\n\n") ∷ record { kind = token Keyword; word = codes "import" } ∷ a_piece (codes " ") ∷ spec_pieces n l))) ≡ semicolon ∷ import_terminals n l
unfolding given lib.Utf8.encode
behind_given None l at d = refl
behind_given (Some n) l at d = refl

behind_due : (n : Option (List ℕ)) (l : List ℕ) (at : ℕ) (due : Option ℕ) → is_due (due_behind at due (a_piece (codes "\n\n") ∷ record { kind = token Keyword; word = codes "import" } ∷ a_piece (codes " ") ∷ spec_pieces n l)) ≡ true
unfolding due_behind
behind_due None l at due = refl
behind_due (Some n) l at due = refl

any_due : (k : TokenKind) (w : List ℕ) (ps : List Piece) (at : ℕ) (d e : Option ℕ) → tokens_from at d (record { kind = token k; word = w } ∷ ps) ≡ tokens_from at e (record { kind = token k; word = w } ∷ ps)
unfolding tokens_from
any_due k w ps at d e = refl

token_on : (k : TokenKind) (w : List ℕ) (ps : List Piece) (at : ℕ) (d : Option ℕ) → tokens_from at d (record { kind = token k; word = w } ∷ ps) ≡ record { span = span_of at w; kind = k; spelling = encode_utf8_all w } ∷ tokens_from (at + size_of w) (due_after at d (token k) w) ps
unfolding tokens_from
token_on k w ps at d = refl

-- ---- what spells it

pub z : Span
z = record { start = 0; end = 0 }

abbrev name_lexemes : Option (List ℕ) → Lexemes
name_lexemes None = []
name_lexemes (Some n) = lex z (ident (encode_utf8_all n)) ∷ []

spells_new : (n : Option (List ℕ)) (l : List ℕ) (r : Lexemes) → SpellsImport nowhere (new_import (record { name = n; literal = l })) (lex z key_import ∷ (name_lexemes n ++ (lex z (str_lit (encode_utf8_all l)) ∷ r))) r
spells_new None l r = import_rule path_rule
spells_new (Some n) l r = import_rule named_path_rule

new_terminals : (n : Option (List ℕ)) (l : List ℕ) (r : Lexemes) → terminals (lex z key_import ∷ (name_lexemes n ++ (lex z (str_lit (encode_utf8_all l)) ∷ r))) ≡ import_terminals n l ++ terminals r
new_terminals None l r = refl
new_terminals (Some n) l r = refl

pub terminals_both : (xs ys : Lexemes) → terminals (xs ++ ys) ≡ terminals xs ++ terminals ys
terminals_both [] ys = refl
terminals_both (lex s x ∷ xs) ys = ap (λ (ts : List Terminal). x ∷ ts) (terminals_both xs ys)

pub lexemes_both : (xs ys : List Token) → lexemes (xs ++ ys) ≡ lexemes xs ++ lexemes ys
lexemes_both [] ys = refl
lexemes_both (x ∷ xs) ys = ap (λ (zs : Lexemes). lex x.span (terminal_of x.kind x.spelling) ∷ zs) (lexemes_both xs ys)

new_scalars : (x : NewSpec) → IsNewSpec x → all_scalars (words_of (import_pieces x)) ≡ true
new_scalars x h = by_name x.name h.0
  where
    by_name : (n : Option (List ℕ)) → IsNewName n → all_scalars (words_of (record { kind = token Keyword; word = codes "import" } ∷ a_piece (codes " ") ∷ spec_pieces n x.literal)) ≡ true
    by_name None y = scalars_on (codes "import ") (x.literal ++ []) refl (scalars_on x.literal [] h.2 refl)
    by_name (Some n) y = scalars_on (codes "import ") (n ++ (32 ∷ (x.literal ++ []))) refl (scalars_on n (32 ∷ (x.literal ++ [])) y.1 (scalars_on (32 ∷ []) (x.literal ++ []) refl (scalars_on x.literal [] h.2 refl)))

-- ---- which token a terminal is

abbrev is_import : Terminal → Bool
is_import key_import = true
is_import _ = false

abbrev is_name : Terminal → Bool
is_name (ident _) = true
is_name _ = false

abbrev none_is : (Terminal → Bool) → List (List ℕ × Terminal) → Bool
none_is f [] = true
none_is f (row ∷ rows) = not (f row.1) && none_is f rows

off : (b : Bool) → not b ≡ true → b ≡ true → ⊥
off true x y = cc
off false x y = cc

pub none_found : (f : Terminal → Bool) (rows : List (List ℕ × Terminal)) (w : List ℕ) → none_is f rows ≡ true → f (found_in [] w) ≡ false → f (found_in rows w) ≡ true → ⊥
none_found f [] w all none h = clash_bool (f (found_in [] w)) h none
  where
    clash_bool : (b : Bool) → b ≡ true → b ≡ false → ⊥
    clash_bool b x y = cc
none_found f (row ∷ rows) w all none h = by_row (bytes_eq row.0 w) h (λ q. none_found f rows w (and_parts (not (f row.1)) (none_is f rows) all).1 none q)
  where
    by_row : (b : Bool) → f (if b then row.1 else found_in rows w) ≡ true → (f (found_in rows w) ≡ true → ⊥) → ⊥
    by_row true q later = off (f row.1) (and_parts (not (f row.1)) (none_is f rows) all).0 q
    by_row false q later = later q

abbrev says_import : List (List ℕ × Terminal) → Bool
says_import [] = true
says_import (row ∷ rows) = cond (is_import row.1) (bytes_eq row.0 (codes "import")) true && says_import rows

same_number : (a b : ℕ) → nat_eq a b ≡ true → a ≡ b
same_number a b e = grind (arith, nat_tests, e)

pub bytes_same : (xs ys : List ℕ) → bytes_eq xs ys ≡ true → xs ≡ ys
bytes_same [] [] h = refl
bytes_same [] (y ∷ ys) h = absurd cc
bytes_same (x ∷ xs) [] h = absurd cc
bytes_same (x ∷ xs) (y ∷ ys) h =
    let p = and_parts (nat_eq x y) (bytes_eq xs ys) h in
    ap (λ (v : ℕ). v ∷ xs) (same_number x y p.0) ∙ ap (λ (vs : List ℕ). y ∷ vs) (bytes_same xs ys p.1)

import_found : (rows : List (List ℕ × Terminal)) (w : List ℕ) → says_import rows ≡ true → is_import (found_in rows w) ≡ true → w ≡ codes "import"
import_found [] w all h = absurd cc
import_found (row ∷ rows) w all h = by_row (bytes_eq row.0 w) refl h (λ q. import_found rows w (and_parts (cond (is_import row.1) (bytes_eq row.0 (codes "import")) true) (says_import rows) all).1 q)
  where
    by_flag : (b : Bool) → b ≡ true → cond b (bytes_eq row.0 (codes "import")) true ≡ true → bytes_eq row.0 (codes "import") ≡ true
    by_flag true q x = x
    by_flag false q x = absurd cc

    by_row : (b : Bool) → bytes_eq row.0 w ≡ b → is_import (if b then row.1 else found_in rows w) ≡ true → (is_import (found_in rows w) ≡ true → w ≡ codes "import") → w ≡ codes "import"
    by_row true e q later = sym (bytes_same row.0 w e) ∙ bytes_same row.0 (codes "import") (by_flag (is_import row.1) q (and_parts (cond (is_import row.1) (bytes_eq row.0 (codes "import")) true) (says_import rows) all).0)
    by_row false e q later = later q

import_token : (k : TokenKind) (w : List ℕ) → is_import (terminal_of k w) ≡ true → (k ≡ Keyword) × (w ≡ codes "import")
import_token Ident w h = absurd cc
import_token Keyword w h = (refl, import_found key_rows w refl h)
import_token Operator w h = absurd (none_found is_import operators w refl refl h)
import_token Integer w h = absurd cc
import_token Float w h = absurd cc
import_token Imaginary w h = absurd cc
import_token Rune w h = absurd cc
import_token Str w h = absurd cc
import_token Inserted w h = absurd cc

name_token : (k : TokenKind) (w : List ℕ) → is_name (terminal_of k w) ≡ true → k ≡ Ident
name_token Ident w h = refl
name_token Keyword w h = absurd (none_found is_name key_rows w refl refl h)
name_token Operator w h = absurd (none_found is_name operators w refl refl h)
name_token Integer w h = absurd cc
name_token Float w h = absurd cc
name_token Imaginary w h = absurd cc
name_token Rune w h = absurd cc
name_token Str w h = absurd cc
name_token Inserted w h = absurd cc

terminal_in : Lexeme → Terminal
terminal_in (lex s x) = x

span_in : Lexeme → Span
span_in (lex s x) = s

not_inserted : (k : TokenKind) (w : List ℕ) (f : Terminal → Bool) → f semicolon ≡ false → f (terminal_of k w) ≡ true → k ≡ Inserted → ⊥
not_inserted k w f none h e = clash_bool (f (terminal_of Inserted w)) (subst (λ (j : TokenKind). f (terminal_of j w) ≡ true) e h) none
  where
    clash_bool : (b : Bool) → b ≡ true → b ≡ false → ⊥
    clash_bool b x y = cc

-- the one token of one lexeme
pub one_of : (ts : List Token) (l : Lexeme) → lexemes ts ≡ l ∷ [] → (t : Token) × (ts ≡ t ∷ []) × (lexeme_of t ≡ l)
one_of [] l e = absurd cc
one_of (t ∷ []) l e = let h : lexeme_of t ≡ l = cc in (t, refl, h)
one_of (t ∷ u ∷ ts) l e = absurd cc

pub left_cancel : (xs a b : List ℕ) → xs ++ a ≡ xs ++ b → a ≡ b
left_cancel [] a b e = e
left_cancel (x ∷ xs) a b e = let t : xs ++ a ≡ xs ++ b = cc in left_cancel xs a b t

pub parts_from : (ps qs : List Piece) (txt : List ℕ) (rest : List ℕ) → PartsTo txt (ps ++ qs) rest → (more : List ℕ) × (txt ≡ words_of ps ++ more) × PartsTo more qs rest
parts_from [] qs txt rest parts = (txt, refl, parts)
parts_from (p ∷ ps) qs txt rest parts =
    let later = parts_from ps qs parts.0 rest parts.3 in
    (later.0, parts.1 ∙ ap (λ (m : List ℕ). p.word ++ m) later.1 ∙ sym (append_assoc p.word (words_of ps) later.0), later.2)

last_first : (ps : List Piece) (c : ℕ) (cs ds : List ℕ) → LastEnds ps (c ∷ cs) → LastEnds ps (c ∷ ds)
last_first [] c cs ds h = tt
last_first (p ∷ []) c cs ds h = h
last_first (p ∷ q ∷ ps) c cs ds h = last_first (q ∷ ps) c cs ds h

-- ---- before the first import

-- the tokens before the imports, and the first import's keyword
pub record First (f : File Span) (start : ℕ) (ts : Lexemes) : Type 0 where
  pub front : Lexemes
  pub at : Span
  pub rest : Lexemes
  pub tokens : ts ≡ front ++ (lex at key_import ∷ rest)
  pub starts : start ≡ at.start
  pub takes : (x : NewSpec) (others : Lexemes) (s : Span) → SpellsImport nowhere (new_import x) others (lex s semicolon ∷ (lex at key_import ∷ rest)) → SpellsFront nowhere (imports_first x (bare_file f)) (front ++ others) []

pub first_import : {f : File Span} {ts : Lexemes} (d : ImportDecl Span) (ds : List (ImportDecl Span)) → SpellsFront span_to f ts [] → f.imports ≡ d ∷ ds → First f d.span.start ts
first_import d ds (front_rule q no_imports_rule b) e = absurd cc
first_import d ds (front_rule {s = s} {c = c} {d = e0} {n = n} q (more_imports_rule {c = c2} {d = d2} {ds = ds2} (import_rule {s = k} {ts = ts} {r = r} a) as2) b) e =
    let same : d2 ≡ d = cc in
    record {
      front = lex s key_package ∷ lex c (ident n) ∷ lex e0 semicolon ∷ [];
      at = k;
      rest = ts;
      tokens = refl;
      starts = ap (λ (y : ImportDecl Span). y.span.start) (sym same);
      takes = λ x others s2 i. front_rule q (more_imports_rule i (more_imports_rule (aside.import_bare span_to (import_rule a)) (aside.imports_bare span_to as2))) (aside.tops_bare span_to b);
    }
first_import d ds (front_rule {s = s} {c = c} {d = e0} {n = n} q (more_imports_rule {c = c2} {d = d2} {ds = ds2} (import_group_rule {s = k} {b = p} {ts = ts} a) as2) b) e =
    let same : d2 ≡ d = cc in
    record {
      front = lex s key_package ∷ lex c (ident n) ∷ lex e0 semicolon ∷ [];
      at = k;
      rest = lex p paren ∷ ts;
      tokens = refl;
      starts = ap (λ (y : ImportDecl Span). y.span.start) (sym same);
      takes = λ x others s2 i. front_rule q (more_imports_rule i (more_imports_rule (aside.import_bare span_to (import_group_rule a)) (aside.imports_bare span_to as2))) (aside.tops_bare span_to b);
    }

import_word : (w : List ℕ) → encode_utf8_all w ≡ codes "import" → w ≡ codes "import"
unfolding lib.Utf8.encode
import_word w e = encodes_same w (codes "import") e

with_newline : NewSpec → List Piece
with_newline x = import_pieces x ++ a_piece (codes "\n") ∷ []

newline_scalars : (x : NewSpec) → IsNewSpec x → all_scalars (words_of (with_newline x)) ≡ true
unfolding with_newline
newline_scalars x h = by_name x.name h.0
  where
    by_name : (n : Option (List ℕ)) → IsNewName n → all_scalars (words_of ((record { kind = token Keyword; word = codes "import" } ∷ a_piece (codes " ") ∷ spec_pieces n x.literal) ++ a_piece (codes "\n") ∷ [])) ≡ true
    by_name None y = scalars_on (codes "import ") (x.literal ++ (10 ∷ [])) refl (scalars_on x.literal (10 ∷ []) h.2 refl)
    by_name (Some n) y = scalars_on (codes "import ") (n ++ (32 ∷ (x.literal ++ (10 ∷ [])))) refl (scalars_on n (32 ∷ (x.literal ++ (10 ∷ []))) y.1 (scalars_on (32 ∷ []) (x.literal ++ (10 ∷ [])) refl (scalars_on x.literal (10 ∷ []) h.2 refl)))

pub add_first : (txt : List ℕ) (tokens : List Token) (comments : List Comment) (f : File Span) (d : ImportDecl Span) (ds : List (ImportDecl Span)) (x : NewSpec) → TokensOf txt tokens comments → SpellsFile tokens f → dots_apart tokens ≡ true
    → f.imports ≡ d ∷ ds → IsNewSpec x → ReadsAs (applied txt (record { span = record { start = d.span.start; end = d.span.start }; text = encode_utf8_all (words_of (import_pieces x ++ a_piece (codes "\n") ∷ [])) } ∷ [])) (imports_first x (bare_file f))
unfolding with_newline terminal_in span_in
add_first txt tokens comments f d ds x t spelled apart e new =
    let v = first_import d ds spelled e in
    let c1 = cut_tokens tokens v.front (lex v.at key_import ∷ v.rest) v.tokens in
    let c2 = cut_tokens c1.second (lex v.at key_import ∷ []) v.rest c1.second_is in
    let o = one_of c2.first (lex v.at key_import) c2.first_is in
    put v c1 c2 o.0 o.1 o.2
  where
    ns : List Piece
    ns = import_pieces x ++ a_piece (codes "\n") ∷ []

    put : (v : First f d.span.start (lexemes tokens)) (c1 : Cut tokens v.front (lex v.at key_import ∷ v.rest)) (c2 : Cut c1.second (lex v.at key_import ∷ []) v.rest) (t1 : Token) → c2.first ≡ t1 ∷ [] → lexeme_of t1 ≡ lex v.at key_import
        → ReadsAs (applied txt (record { span = record { start = d.span.start; end = d.span.start }; text = encode_utf8_all (words_of (import_pieces x ++ a_piece (codes "\n") ∷ [])) } ∷ [])) (imports_first x (bare_file f))
    put v c1 c2 t1 is_one is_lexeme =
        let whole : tokens ≡ c1.first ++ t1 ∷ c2.second = c1.whole ∙ ap (λ (ts : List Token). c1.first ++ ts) (c2.whole ∙ ap (λ (ts : List Token). ts ++ c2.second) is_one) in
        let flag : is_import (terminal_of t1.kind t1.spelling) ≡ true = ap (λ (l : Lexeme). is_import (terminal_in l)) is_lexeme in
        let near : dots_apart (c1.first ++ t1 ∷ []) ≡ true = earlier_apart (c1.first ++ t1 ∷ []) c2.second (subst (λ (ts : List Token). dots_apart ts ≡ true) (whole ∙ sym (append_assoc c1.first (t1 ∷ []) c2.second)) apart) in
        let one = one_token txt tokens comments c1.first t1 c2.second t whole (not_inserted t1.kind t1.spelling is_import refl flag) near in
        let k = import_token t1.kind t1.spelling flag in
        let the_word : one.word ≡ codes "import" = import_word one.word (sym one.spelling_is ∙ k.1) in
        let p : Piece = record { kind = token t1.kind; word = one.word } in
        let b = before_last one.before p one.inner in
        let body : List ℕ = (one.word ++ []) ++ one.tail in
        let split = parts_from one.before (p ∷ one.behind) (words_of one.before ++ body) [] one.parted.parts in
        let rest_parts : PartsTo body (p ∷ one.behind) [] = subst (λ (m : List ℕ). PartsTo m (p ∷ one.behind) []) (sym (left_cancel (words_of one.before) body split.0 split.1)) split.2 in
        let parted : Parted txt one.mark one.before [] (p ∷ one.behind) body = record { is_mark = one.parted.is_mark; scalars = one.parted.scalars; encoded = one.parted.encoded; parts = one.parted.parts; parts_behind = rest_parts } in
        let last : LastEnds one.before (words_of ns ++ body) = last_first one.before 105 (codes "mport") _ (subst (λ (w : List ℕ). LastEnds one.before w) the_word b.1) in
        let at_is : d.span.start ≡ begin_of one.mark one.before = v.starts ∙ ap (λ (l : Lexeme). (span_in l).start) (sym is_lexeme) ∙ one.starts in
        let done = inserted_text txt one.mark one.before (p ∷ one.behind) body parted ns (newline_scalars x new) b.0 last (with_newline_inner x.literal new.1 x.name new.0) (with_newline_last x.literal new.1 x.name body) d.span.start at_is in
        reads_alike _ (tokens_from (size_of one.mark) None (one.before ++ (ns ++ (p ∷ one.behind)))) _ (imports_first x (bare_file f)) (v.front ++ others v) done (v.takes x (others v) z (spells_new x.name x.literal (lex z semicolon ∷ (lex v.at key_import ∷ v.rest))))
        (sym (terminals_are v c1 c2 t1 is_lexeme one))
      where
        others : (v : First f d.span.start (lexemes tokens)) → Lexemes
        others v = lex z key_import ∷ (name_lexemes x.name ++ (lex z (str_lit (encode_utf8_all x.literal)) ∷ (lex z semicolon ∷ (lex v.at key_import ∷ v.rest))))

        terminals_are : (v : First f d.span.start (lexemes tokens)) (c1 : Cut tokens v.front (lex v.at key_import ∷ v.rest)) (c2 : Cut c1.second (lex v.at key_import ∷ []) v.rest) (t1 : Token) → lexeme_of t1 ≡ lex v.at key_import → (one : One txt c1.first t1 c2.second)
            → terminals (lexemes (tokens_from (size_of one.mark) None (one.before ++ (ns ++ (record { kind = token t1.kind; word = one.word } ∷ one.behind))))) ≡ terminals (v.front ++ others v)
        terminals_are v c1 c2 t1 is_lexeme one =
            let p : Piece = record { kind = token t1.kind; word = one.word } in
            let m : ℕ = size_of one.mark in
            let a1 : ℕ = begin_of one.mark one.before in
            let d1 : Option ℕ = due_behind m None one.before in
            let a2 : ℕ = a1 + pieces_size ns in
            let d2 : Option ℕ = due_behind a1 d1 ns in
            let back : terminals (lexemes (tokens_from a2 d2 (p ∷ one.behind))) ≡ key_import ∷ terminals v.rest =
            behind_alike (p ∷ one.behind) a2 a1 d2 d2 refl ∙ ap (λ (ts : List Token). terminals (lexemes ts)) (any_due t1.kind one.word one.behind a1 d2 d1 ∙ token_on t1.kind one.word one.behind a1 d1)
            ∙ ap (λ (ts : List Token). terminal_of t1.kind (encode_utf8_all one.word) ∷ terminals (lexemes ts)) (sym one.back_is)
            ∙ ap (λ (us : Lexemes). terminal_of t1.kind (encode_utf8_all one.word) ∷ terminals us) c2.second_is
            ∙ ap (λ (y : Terminal). y ∷ terminals v.rest) (ap (λ (w : List ℕ). terminal_of t1.kind w) (sym one.spelling_is) ∙ ap terminal_in is_lexeme) in
            let two : terminals (lexemes (tokens_from a1 d1 (ns ++ (p ∷ one.behind)))) ≡ (import_terminals x.name x.literal ++ semicolon ∷ []) ++ (key_import ∷ terminals v.rest) =
            ap (λ (ts : List Token). terminals (lexemes ts)) (tokens_then ns (p ∷ one.behind) a1 d1) ∙ ap terminals (lexemes_both (given a1 d1 ns) (tokens_from a2 d2 (p ∷ one.behind))) ∙ terminals_both (lexemes (given a1 d1 ns)) (lexemes (tokens_from a2 d2 (p ∷ one.behind)))
            ∙ ap (λ (ts : List Terminal). ts ++ terminals (lexemes (tokens_from a2 d2 (p ∷ one.behind)))) (first_given x.name x.literal a1 d1) ∙ ap (λ (ts : List Terminal). (import_terminals x.name x.literal ++ semicolon ∷ []) ++ ts) back in
            ap (λ (ts : List Token). terminals (lexemes ts)) (tokens_then one.before (ns ++ (p ∷ one.behind)) m None) ∙ ap terminals (lexemes_both (given m None one.before) (tokens_from a1 d1 (ns ++ (p ∷ one.behind))))
            ∙ terminals_both (lexemes (given m None one.before)) (lexemes (tokens_from a1 d1 (ns ++ (p ∷ one.behind))))
            ∙ ap (λ (ts : List Token). terminals (lexemes ts) ++ terminals (lexemes (tokens_from a1 d1 (ns ++ (p ∷ one.behind))))) (sym one.front_is) ∙ ap (λ (us : Lexemes). terminals us ++ terminals (lexemes (tokens_from a1 d1 (ns ++ (p ∷ one.behind))))) c1.first_is
            ∙ ap (λ (ts : List Terminal). terminals v.front ++ ts) (two ∙ append_assoc (import_terminals x.name x.literal) (semicolon ∷ []) (key_import ∷ terminals v.rest) ∙ sym (new_terminals x.name x.literal (lex z semicolon ∷ (lex v.at key_import ∷ v.rest))))
            ∙ sym (terminals_both v.front (others v))

-- ---- behind the package name

-- the package name, and the semicolon behind it
pub record Name (f : File Span) (end : ℕ) (ts : Lexemes) : Type 0 where
  pub front : Lexemes
  pub at : Span
  pub name : List ℕ
  pub semi : Span
  pub rest : Lexemes
  pub tokens : ts ≡ front ++ (lex at (ident name) ∷ (lex semi semicolon ∷ rest))
  pub ends : end ≡ at.end
  pub takes : (x : NewSpec) (others : Lexemes) (s : Span) → SpellsImport nowhere (new_import x) others (lex s semicolon ∷ rest) → SpellsFront nowhere (imports_first x (bare_file f)) (front ++ (lex at (ident name) ∷ (lex semi semicolon ∷ others))) []

-- the span of one token
name_end : (c : Span) (n : List ℕ) (r : Lexemes) → (span_to (lex c (ident n) ∷ r) r).end ≡ c.end
name_end c n r = ap (λ (k : ℕ). end_after c.start (take k (lex c (ident n) ∷ r))) (one_left (length r))
  where
    one_left : (k : ℕ) → suc k - k ≡ 1
    one_left k = omega arith

pub package_name : {f : File Span} {ts : Lexemes} → SpellsFront span_to f ts [] → Name f f.package_name.span.end ts
package_name (front_rule {s = s} {c = c} {d = d} {n = n} {ts = ts} q a b) = record {
  front = lex s key_package ∷ [];
  at = c;
  name = n;
  semi = d;
  rest = ts;
  tokens = refl;
  ends = name_end c n (lex d semicolon ∷ ts);
  takes = λ x others s2 i. front_rule q (more_imports_rule i (aside.imports_bare span_to a)) (aside.tops_bare span_to b);
}

pub words_both : (ps qs : List Piece) → words_of (ps ++ qs) ≡ words_of ps ++ words_of qs
words_both [] qs = refl
words_both (p ∷ ps) qs = ap (λ (w : List ℕ). p.word ++ w) (words_both ps qs) ∙ sym (append_assoc p.word (words_of ps) (words_of qs))

one_due : (k : TokenKind) (w : List ℕ) (at : ℕ) (due : Option ℕ) → due_behind at due (record { kind = token k; word = w } ∷ []) ≡ due_after at due (token k) w
unfolding due_behind
one_due k w at due = refl

name_due : (k : TokenKind) (w : List ℕ) (at : ℕ) (due : Option ℕ) → k ≡ Ident → due_behind at due (record { kind = token k; word = w } ∷ []) ≡ Some (at + size_of w)
unfolding due_behind
name_due k w at due e = ap (λ (j : TokenKind). due_after at due (token j) w) e

one_terminal : (k : TokenKind) (w : List ℕ) (at : ℕ) (due : Option ℕ) → terminals (lexemes (given at due (record { kind = token k; word = w } ∷ []))) ≡ terminal_of k (encode_utf8_all w) ∷ []
unfolding given
one_terminal k w at due = refl

behind_pieces : NewSpec → List Piece
behind_pieces x = a_piece (codes "\n\n") ∷ import_pieces x

pub add_behind : (txt : List ℕ) (tokens : List Token) (comments : List Comment) (f : File Span) (x : NewSpec) → TokensOf txt tokens comments → SpellsFile tokens f → dots_apart tokens ≡ true → IsNewSpec x
    → ReadsAs (applied txt (record { span = record { start = f.package_name.span.end; end = f.package_name.span.end }; text = encode_utf8_all (words_of (a_piece (codes "\n\n") ∷ import_pieces x)) } ∷ [])) (imports_first x (bare_file f))
unfolding terminal_in span_in
add_behind txt tokens comments f x t spelled apart new =
    let v = package_name spelled in
    let c1 = cut_tokens tokens v.front (lex v.at (ident v.name) ∷ (lex v.semi semicolon ∷ v.rest)) v.tokens in
    let c2 = cut_tokens c1.second (lex v.at (ident v.name) ∷ []) (lex v.semi semicolon ∷ v.rest) c1.second_is in
    let o = one_of c2.first (lex v.at (ident v.name)) c2.first_is in
    put v c1 c2 o.0 o.1 o.2
  where
    ns : List Piece
    ns = a_piece (codes "\n\n") ∷ import_pieces x

    inner_ns : InnerEnd ns
    inner_ns = (blank_ends (codes "\n\n") (codes "import") refl, import_inner x.literal new.1 x.name new.0)

    scalars_ns : all_scalars (words_of ns) ≡ true
    scalars_ns = scalars_on (10 ∷ 10 ∷ []) (words_of (import_pieces x)) refl (new_scalars x new)

    last_blank : (ps : List Piece) (p : Piece) (next : List ℕ) → EndsBefore p next → LastEnds (ps ++ p ∷ []) next
    last_blank ps p next h = last_of ps p next h

    put : (v : Name f f.package_name.span.end (lexemes tokens)) (c1 : Cut tokens v.front (lex v.at (ident v.name) ∷ (lex v.semi semicolon ∷ v.rest))) (c2 : Cut c1.second (lex v.at (ident v.name) ∷ []) (lex v.semi semicolon ∷ v.rest)) (t1 : Token) → c2.first ≡ t1 ∷ [] → lexeme_of t1 ≡ lex v.at (ident v.name)
        → ReadsAs (applied txt (record { span = record { start = f.package_name.span.end; end = f.package_name.span.end }; text = encode_utf8_all (words_of (a_piece (codes "\n\n") ∷ import_pieces x)) } ∷ [])) (imports_first x (bare_file f))
    put v c1 c2 t1 is_one is_lexeme =
        let whole : tokens ≡ c1.first ++ t1 ∷ c2.second = c1.whole ∙ ap (λ (ts : List Token). c1.first ++ ts) (c2.whole ∙ ap (λ (ts : List Token). ts ++ c2.second) is_one) in
        let flag : is_name (terminal_of t1.kind t1.spelling) ≡ true = ap (λ (l : Lexeme). is_name (terminal_in l)) is_lexeme in
        let near : dots_apart (c1.first ++ t1 ∷ []) ≡ true = earlier_apart (c1.first ++ t1 ∷ []) c2.second (subst (λ (ts : List Token). dots_apart ts ≡ true) (whole ∙ sym (append_assoc c1.first (t1 ∷ []) c2.second)) apart) in
        let one = one_token txt tokens comments c1.first t1 c2.second t whole (not_inserted t1.kind t1.spelling is_name refl flag) near in
        let k : t1.kind ≡ Ident = name_token t1.kind t1.spelling flag in
        let p : Piece = record { kind = token t1.kind; word = one.word } in
        let before : List Piece = one.before ++ p ∷ [] in
        let words : words_of one.before ++ ((one.word ++ []) ++ one.tail) ≡ words_of before ++ one.tail = sym (append_assoc (words_of one.before) (one.word ++ []) one.tail) ∙ ap (λ (w : List ℕ). w ++ one.tail) (sym (words_both one.before (p ∷ []))) in
        let parts : PartsTo (words_of before ++ one.tail) (before ++ one.behind) [] = subst (λ (w : List ℕ). PartsTo w (before ++ one.behind) []) words (subst (λ (ps : List Piece). PartsTo (words_of one.before ++ ((one.word ++ []) ++ one.tail)) ps []) (sym (append_assoc one.before (p ∷ []) one.behind)) one.parted.parts) in
        let parted : Parted txt one.mark before [] one.behind one.tail = record {
          is_mark = one.parted.is_mark;
          scalars = subst (λ (w : List ℕ). all_scalars (one.mark ++ w) ≡ true) words one.parted.scalars;
          encoded = ap (λ (w : List ℕ). encode_utf8_all (one.mark ++ w)) (sym words) ∙ one.parted.encoded;
          parts = parts;
          parts_behind = one.parted.parts_behind;
        } in
        let piece : IsPiece (token Ident) one.word = subst (λ (j : TokenKind). IsPiece (token j) one.word) k (own_piece one.before p one.behind (words_of one.before ++ ((one.word ++ []) ++ one.tail)) one.parted.parts) in
        let ends : EndsBefore p (words_of ns ++ one.tail) = λ more. subst (λ (j : TokenKind). IsNext (one.word ++ 10 ∷ more) (token j) one.word (10 ∷ more)) (sym k) (name_before_newline one.word more piece) in
        let at_is : f.package_name.span.end ≡ begin_of one.mark before = v.ends ∙ ap (λ (l : Lexeme). (span_in l).end) (sym is_lexeme) ∙ one.ends ∙ place_on (size_of one.mark) one.before p in
        let done = inserted_text txt one.mark before one.behind one.tail parted ns scalars_ns one.inner (last_blank one.before p (words_of ns ++ one.tail) ends) inner_ns (import_last x.literal new.1 x.name one.tail) f.package_name.span.end at_is in
        reads_alike _ (tokens_from (size_of one.mark) None (before ++ (ns ++ one.behind))) _ (imports_first x (bare_file f)) _ done (v.takes x (others v) z (spells_new x.name x.literal (lex z semicolon ∷ v.rest)))
        (sym (terminals_are v c1 c2 t1 is_lexeme one k))
      where
        others : (v : Name f f.package_name.span.end (lexemes tokens)) → Lexemes
        others v = lex z key_import ∷ (name_lexemes x.name ++ (lex z (str_lit (encode_utf8_all x.literal)) ∷ (lex z semicolon ∷ v.rest)))

        own_piece : (ps : List Piece) (p : Piece) (qs : List Piece) (w : List ℕ) → PartsTo w (ps ++ (p ∷ [] ++ qs)) [] → IsPiece p.kind p.word
        own_piece [] p qs w parts = is_piece p.kind p.word parts.0 parts.2
        own_piece (q ∷ ps) p qs w parts = own_piece ps p qs parts.0 parts.3

        place_on : (m : ℕ) (ps : List Piece) (p : Piece) → m + pieces_size ps + size_of p.word ≡ m + pieces_size (ps ++ p ∷ [])
        place_on m ps p = let s = size_pieces ps (p ∷ []) in omega (arith, s)

        terminals_are : (v : Name f f.package_name.span.end (lexemes tokens)) (c1 : Cut tokens v.front (lex v.at (ident v.name) ∷ (lex v.semi semicolon ∷ v.rest))) (c2 : Cut c1.second (lex v.at (ident v.name) ∷ []) (lex v.semi semicolon ∷ v.rest)) (t1 : Token) → lexeme_of t1 ≡ lex v.at (ident v.name) → (one : One txt c1.first t1 c2.second) → t1.kind ≡ Ident
            → terminals (lexemes (tokens_from (size_of one.mark) None ((one.before ++ record { kind = token t1.kind; word = one.word } ∷ []) ++ (ns ++ one.behind)))) ≡ terminals (v.front ++ (lex v.at (ident v.name) ∷ (lex v.semi semicolon ∷ others v)))
        terminals_are v c1 c2 t1 is_lexeme one k =
            let p : Piece = record { kind = token t1.kind; word = one.word } in
            let m : ℕ = size_of one.mark in
            let a1 : ℕ = begin_of one.mark one.before in
            let d1 : Option ℕ = due_behind m None one.before in
            let before : List Piece = one.before ++ p ∷ [] in
            let a : ℕ = m + pieces_size before in
            let d : Option ℕ = due_behind m None before in
            let some : d ≡ Some (a1 + size_of one.word) = due_then one.before (p ∷ []) m None ∙ name_due t1.kind one.word a1 d1 k in
            let a2 : ℕ = a + pieces_size ns in
            let d2 : Option ℕ = due_behind a d ns in
            let old_due : is_due (due_after a1 d1 (token t1.kind) one.word) ≡ true = ap is_due (sym (one_due t1.kind one.word a1 d1) ∙ name_due t1.kind one.word a1 d1 k) in
            let tail : terminals (lexemes (tokens_from a2 d2 one.behind)) ≡ semicolon ∷ terminals v.rest =
            behind_alike one.behind a2 (a1 + size_of one.word) d2 (due_after a1 d1 (token t1.kind) one.word) (behind_due x.name x.literal a d ∙ sym old_due) ∙ ap (λ (ts : List Token). terminals (lexemes ts)) (sym one.back_is) ∙ ap terminals c2.second_is in
            let own : terminals (lexemes (given a d ns)) ≡ semicolon ∷ import_terminals x.name x.literal = ap (λ (o : Option ℕ). terminals (lexemes (given a o ns))) some ∙ behind_given x.name x.literal a (a1 + size_of one.word) in
            let two : terminals (lexemes (tokens_from a d (ns ++ one.behind))) ≡ semicolon ∷ (import_terminals x.name x.literal ++ (semicolon ∷ terminals v.rest)) =
            ap (λ (ts : List Token). terminals (lexemes ts)) (tokens_then ns one.behind a d) ∙ ap terminals (lexemes_both (given a d ns) (tokens_from a2 d2 one.behind)) ∙ terminals_both (lexemes (given a d ns)) (lexemes (tokens_from a2 d2 one.behind))
            ∙ ap (λ (ts : List Terminal). ts ++ terminals (lexemes (tokens_from a2 d2 one.behind))) own ∙ ap (λ (ts : List Terminal). semicolon ∷ (import_terminals x.name x.literal ++ ts)) tail in
            let first : terminals (lexemes (given m None before)) ≡ terminals v.front ++ ident v.name ∷ [] =
            ap (λ (ts : List Token). terminals (lexemes ts)) (given_then one.before (p ∷ []) m None) ∙ ap terminals (lexemes_both (given m None one.before) (given a1 d1 (p ∷ []))) ∙ terminals_both (lexemes (given m None one.before)) (lexemes (given a1 d1 (p ∷ [])))
            ∙ ap (λ (ts : List Terminal). terminals (lexemes (given m None one.before)) ++ ts) (one_terminal t1.kind one.word a1 d1 ∙ ap (λ (y : Terminal). y ∷ []) (ap (λ (w : List ℕ). terminal_of t1.kind w) (sym one.spelling_is) ∙ ap terminal_in is_lexeme))
            ∙ ap (λ (ts : List Token). terminals (lexemes ts) ++ ident v.name ∷ []) (sym one.front_is) ∙ ap (λ (us : Lexemes). terminals us ++ ident v.name ∷ []) c1.first_is in
            ap (λ (ts : List Token). terminals (lexemes ts)) (tokens_then before (ns ++ one.behind) m None) ∙ ap terminals (lexemes_both (given m None before) (tokens_from a d (ns ++ one.behind)))
            ∙ terminals_both (lexemes (given m None before)) (lexemes (tokens_from a d (ns ++ one.behind)))
            ∙ ap (λ (ts : List Terminal). ts ++ terminals (lexemes (tokens_from a d (ns ++ one.behind)))) first ∙ ap (λ (ts : List Terminal). (terminals v.front ++ ident v.name ∷ []) ++ ts) two
            ∙ append_assoc (terminals v.front) (ident v.name ∷ []) (semicolon ∷ (import_terminals x.name x.literal ++ (semicolon ∷ terminals v.rest)))
            ∙ ap (λ (ts : List Terminal). terminals v.front ++ (ident v.name ∷ semicolon ∷ ts)) (sym (new_terminals x.name x.literal (lex z semicolon ∷ v.rest)))
            ∙ sym (terminals_both v.front (lex v.at (ident v.name) ∷ (lex v.semi semicolon ∷ others v)))
