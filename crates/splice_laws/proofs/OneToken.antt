-- A text parted at one of its tokens, and something put in before or behind it.
use Rattle.std.proofs.Common.{◌≡◌, ℕ, ◌+◌, ◌<◌, Bool, true, false, cond, not, ◌&&◌, ◌||◌, nat_eq, nat_lt, nat_le, ◌==◌, List, [], ◌∷◌, ◌++◌, Option, None, refl, sym, ap, subst, ◌∙◌, arith}
use Rattle.std.specs.Prelude.{encode_utf8_all}
use Rattle.std.specs.Str.{all_scalars}
use Rattle.std.proofs.lemmas.Bool.Decides.{nat_tests}
use Rattle.std.proofs.lemmas.List.{append_assoc, append-nil}
use Rattle.ucd_category.specs.GeneralCategory.{general_category}
use Rattle.ucd_category.specs.GeneralCategoryRows.{general_category_rows}
use Rattle.ucd_table.specs.Rows.{value_in}
use Rattle.go_tree.specs.declared.tokens.Token.{Token}
use Rattle.go_tree.specs.declared.tokens.Comment.{Comment}
use Rattle.go_tree.specs.declared.tokens.TokenKind.{TokenKind}
use Rattle.go_tree.specs.declared.tokens.TokenKind.TheVariants.{Ident, Keyword, Str}
use Rattle.go_tree.specs.GoWords.Tokens.Characters.{is_letter, is_digit, is_word, byte_order_mark}
use Rattle.go_tree.specs.GoWords.Tokens.{TokensOf, size_of, span_of, due_after, tokens_from, pieces_size, after_mark}
use Rattle.go_tree.specs.GoWords.Tokens.Pieces.{PieceKind, blanks, token, Piece, keyword_spellings, is_among, IsPiece, IsNext, CutsTo}
use Rattle.go_scan.specs.Automaton.{next_of, is_whole, kind_in}
use Rattle.go_scan.proofs.Derivatives.{and_parts}
use Rattle.go_scan.proofs.AutomatonLemmas.{below, below_at, run}
use Rattle.go_scan.proofs.LexemeLemmas.{form_runs}
use Rattle.go_scan.proofs.PieceKinds.{Sort, a_blank, a_letter, a_lexeme, sort_of, never_empty}
use Rattle.go_layout.proofs.LayoutLaws.NextTokens.{START, DEAD, stops, next_lexeme, next_name}
use Rattle.splice_laws.specs.Joints.{words_of, PartsTo, EndsBefore, InnerEnd, LastEnds, Parted, begin_of, given, due_behind, IsWritten, dots_apart}
use Rattle.splice_laws.proofs.Ends.{clash, or_cases}
use Rattle.splice_laws.proofs.Parts.{in_parts}
use Rattle.splice_laws.proofs.Over.{the_mark, inner_end}
use Rattle.splice_laws.proofs.Founds.{find}
use Rattle.splice_laws.proofs.Places.{given_then}
use Rattle.splice_laws.proofs.Moves.{parts_apart}

lt_is : (a b : ℕ) → nat_lt a b ≡ true → a < b
lt_is a b e = grind (arith, nat_tests, e)

whole_state : (s : ℕ) → is_whole s ≡ true → (s < 28) × (nat_lt s 2 ≡ false)
whole_state s h = let p = and_parts (nat_le 2 s) (nat_lt s 28) h in (lt_is s 28 p.1, under s p.0)
  where
    under : (s : ℕ) → nat_le 2 s ≡ true → nat_lt s 2 ≡ false
    under s e = grind (arith, nat_tests, e)

-- ---- names, keywords and strings before what follows

newline_word : is_word 10 ≡ false
unfolding is_letter is_digit general_category general_category_rows value_in
newline_word = refl

-- a name before a newline
pub name_before_newline : (w more : List ℕ) → IsPiece (token Ident) w → IsNext (w ++ 10 ∷ more) (token Ident) w (10 ∷ more)
name_before_newline w more piece = next_name w (10 ∷ more) piece (rw newline_word refl)

abbrev is_text_kind : PieceKind → Bool
is_text_kind (token Str) = true
is_text_kind _ = false

abbrev pub ends_all : ℕ → Bool
ends_all s = below 128 (λ c. nat_eq (next_of s c) DEAD) && (nat_eq (next_of s 128) DEAD && nat_eq (next_of s byte_order_mark) DEAD)

texts_checked : below 28 (λ s. nat_lt s 2 || (not (is_text_kind (kind_in s)) || ends_all s)) ≡ true
unfolding below next_of
texts_checked = refl

past_ascii : (s c : ℕ) (b : Bool) → nat_lt c 128 ≡ false → (c == byte_order_mark) ≡ b → next_of s c ≡ cond b (next_of s byte_order_mark) (next_of s 128)
unfolding next_of
past_ascii s c true far mark = rw (far, mark) refl
past_ascii s c false far mark = rw (far, mark) refl

pub all_end : (s c : ℕ) → ends_all s ≡ true → nat_eq (next_of s c) DEAD ≡ true
all_end s c h = by_ascii (nat_lt c 128) refl
  where
    p : (below 128 (λ c. nat_eq (next_of s c) DEAD) ≡ true) × (nat_eq (next_of s 128) DEAD && nat_eq (next_of s byte_order_mark) DEAD ≡ true)
    p = and_parts (below 128 (λ c. nat_eq (next_of s c) DEAD)) (nat_eq (next_of s 128) DEAD && nat_eq (next_of s byte_order_mark) DEAD) h

    q : (nat_eq (next_of s 128) DEAD ≡ true) × (nat_eq (next_of s byte_order_mark) DEAD ≡ true)
    q = and_parts (nat_eq (next_of s 128) DEAD) (nat_eq (next_of s byte_order_mark) DEAD) p.1

    either_way : (b : Bool) → nat_eq (cond b (next_of s byte_order_mark) (next_of s 128)) DEAD ≡ true
    either_way true = q.1
    either_way false = q.0

    by_ascii : (b : Bool) → nat_lt c 128 ≡ b → nat_eq (next_of s c) DEAD ≡ true
    by_ascii true e = below_at 128 (λ c. nat_eq (next_of s c) DEAD) c p.0 (lt_is c 128 e)
    by_ascii false e = subst (λ (n : ℕ). nat_eq n DEAD ≡ true) (sym (past_ascii s c (c == byte_order_mark) e refl)) (either_way (c == byte_order_mark))

-- a string literal ends before whatever follows
pub text_ends : (w more : List ℕ) → IsPiece (token Str) w → IsNext (w ++ more) (token Str) w more
text_ends [] more piece = absurd (never_empty (token Str) piece)
text_ends (c ∷ cs) more piece = by_sort (sort_of (token Str) c cs piece)
  where
    nope : (b : Bool) → not b ≡ true → b ≡ true → ⊥
    nope true a b = cc
    nope false a b = cc

    no_blanks : token Str ≡ blanks → ⊥
    no_blanks e = cc

    no_word : (b : Bool) → token Str ≡ cond b (token Keyword) (token Ident) → ⊥
    no_word true e = cc
    no_word false e = cc

    dead : (t : ℕ) → ends_all t ≡ true → (xs : List ℕ) → stops t xs ≡ true
    dead t h [] = refl
    dead t h (x ∷ xs) = all_end t x h

    by_sort : Sort (token Str) c cs → IsNext (c ∷ cs ++ more) (token Str) (c ∷ cs) more
    by_sort (a_blank e _ _) = absurd (no_blanks e)
    by_sort (a_letter e _ _) = absurd (no_word (is_among keyword_spellings (c ∷ cs)) e)
    by_sort (a_lexeme b l form) =
        let facts = form_runs (token Str) (c ∷ cs) form in
        let at = whole_state (run START (c ∷ cs)) facts.0 in
        let all : ends_all (run START (c ∷ cs)) ≡ true =
        or_cases (nat_lt (run START (c ∷ cs)) 2) _ (below_at 28 (λ s. nat_lt s 2 || (not (is_text_kind (kind_in s)) || ends_all s)) (run START (c ∷ cs)) texts_checked at.0) (λ q. clash (nat_lt (run START (c ∷ cs)) 2) q at.1)
        (λ q. or_cases (not (is_text_kind (kind_in (run START (c ∷ cs))))) _ q (λ r. absurd (nope (is_text_kind (kind_in (run START (c ∷ cs)))) r (ap is_text_kind (sym facts.1)))) (λ r. r)) in
        next_lexeme (token Str) c cs more b l piece (dead (run START (c ∷ cs)) all more) refl

-- ---- one token of a text

cut_split : (ps qs : List Piece) (text rest : List ℕ) → CutsTo text (ps ++ qs) rest → (more : List ℕ) × (text ≡ words_of ps ++ more) × CutsTo more qs rest
cut_split [] qs text rest cut = (text, refl, cut)
cut_split (p ∷ ps) qs text rest cut =
    let later = cut_split ps qs cut.0 rest cut.2 in
    (later.0, cut.1.parts ∙ ap (λ (m : List ℕ). p.word ++ m) later.1 ∙ sym (append_assoc p.word (words_of ps) later.0), later.2)

-- the parts of a text before a token, its own, and those behind it
pub record One (text : List ℕ) (front : List Token) (x : Token) (back : List Token) : Type 0 where
  pub mark : List ℕ
  pub before : List Piece
  pub word : List ℕ
  pub behind : List Piece
  pub tail : List ℕ
  pub parted : Parted text mark before (record { kind = token x.kind; word = word } ∷ []) behind tail
  pub inner : InnerEnd (before ++ record { kind = token x.kind; word = word } ∷ [])
  pub starts : x.span.start ≡ begin_of mark before
  pub ends : x.span.end ≡ begin_of mark before + size_of word
  pub spelling_is : x.spelling ≡ encode_utf8_all word
  pub front_is : front ≡ given (size_of mark) None before
  pub back_is : back ≡ tokens_from (begin_of mark before + size_of word) (due_after (begin_of mark before) (due_behind (size_of mark) None before) (token x.kind) word) behind

one_given : (k : TokenKind) (word : List ℕ) (at : ℕ) (due : Option ℕ) → given at due (record { kind = token k; word = word } ∷ []) ≡ record { span = span_of at word; kind = k; spelling = encode_utf8_all word } ∷ []
unfolding given
one_given k word at due = refl

pub one_token : (text : List ℕ) (tokens : List Token) (comments : List Comment) (front : List Token) (x : Token) (back : List Token) → TokensOf text tokens comments → tokens ≡ front ++ x ∷ back → IsWritten x
    → dots_apart (front ++ x ∷ []) ≡ true → One text front x back
one_token text tokens comments front x back t e w apart =
    let m = the_mark t.characters in
    let start : ℕ = size_of m.0 in
    let f = find t.pieces start None front x back (sym (t.tokens_are ∙ ap (λ (n : ℕ). tokens_from n None t.pieces) m.3) ∙ e) w in
    let p : Piece = record { kind = token x.kind; word = f.word } in
    let cut : CutsTo (after_mark t.characters) (f.before ++ (p ∷ f.behind)) [] = subst (λ (ps : List Piece). CutsTo (after_mark t.characters) ps []) f.is t.cut in
    let first = cut_split f.before (p ∷ f.behind) (after_mark t.characters) [] cut in
    let body : after_mark t.characters ≡ words_of f.before ++ ((f.word ++ []) ++ first.2.0) =
    first.1 ∙ ap (λ (v : List ℕ). words_of f.before ++ v) (first.2.1.parts ∙ ap (λ (v : List ℕ). v ++ first.2.0) (sym (append-nil f.word))) in
    let whole : t.characters ≡ m.0 ++ (words_of f.before ++ ((f.word ++ []) ++ first.2.0)) = m.2 ∙ ap (λ (v : List ℕ). m.0 ++ v) body in
    let parts = in_parts (f.before ++ (p ∷ f.behind)) (after_mark t.characters) [] cut in
    let again : PartsTo (after_mark t.characters) ((f.before ++ p ∷ []) ++ f.behind) [] = subst (λ (ps : List Piece). PartsTo (after_mark t.characters) ps []) (sym (append_assoc f.before (p ∷ []) f.behind)) parts in
    let both : front ++ x ∷ [] ≡ given start None (f.before ++ p ∷ []) =
    ap (λ (ts : List Token). ts ++ x ∷ []) f.front_is ∙ ap (λ (y : Token). given start None f.before ++ y ∷ []) f.token_is
    ∙ ap (λ (ts : List Token). given start None f.before ++ ts) (sym (one_given x.kind f.word (start + pieces_size f.before) (due_behind start None f.before))) ∙ sym (given_then f.before (p ∷ []) start None) in
    record {
      mark = m.0;
      before = f.before;
      word = f.word;
      behind = f.behind;
      tail = first.2.0;
      parted = record {
        is_mark = m.1;
        scalars = subst (λ (v : List ℕ). all_scalars v ≡ true) whole t.scalars;
        encoded = ap encode_utf8_all (sym whole) ∙ t.encoded;
        parts = subst (λ (v : List ℕ). PartsTo v (f.before ++ (p ∷ f.behind)) []) body parts;
        parts_behind = in_parts f.behind first.2.0 [] first.2.2;
      };
      inner = inner_end (f.before ++ p ∷ []) f.behind (after_mark t.characters) [] again (parts_apart (f.before ++ p ∷ []) f.behind (after_mark t.characters) [] start None again (subst (λ (ts : List Token). dots_apart ts ≡ true) both apart));
      starts = ap (λ (y : Token). y.span.start) f.token_is;
      ends = ap (λ (y : Token). y.span.end) f.token_is;
      spelling_is = ap (λ (y : Token). y.spelling) f.token_is;
      front_is = f.front_is;
      back_is = f.back_is;
    }

-- the parts before the last end before it
pub before_last : (ps : List Piece) (p : Piece) → InnerEnd (ps ++ p ∷ []) → InnerEnd ps × LastEnds ps p.word
before_last [] p h = (tt, tt)
before_last (q ∷ []) p h = (tt, h.0)
before_last (q ∷ r ∷ ps) p h = let x = before_last (r ∷ ps) p h.1 in ((h.0, x.0), x.1)

pub last_of : (ps : List Piece) (p : Piece) (next : List ℕ) → EndsBefore p next → LastEnds (ps ++ p ∷ []) next
last_of [] p next h = h
last_of (q ∷ []) p next h = h
last_of (q ∷ r ∷ ps) p next h = last_of (r ∷ ps) p next h
