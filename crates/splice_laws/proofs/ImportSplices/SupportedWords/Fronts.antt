-- The front of a text up to the name of its package: its pieces stay where the text behind it is another.
use Rattle.std.proofs.Common.{◌≡◌, ◌∙◌, ◌⊎◌, inl, inr, refl, sym, ap, subst, ℕ, ◌+◌, ◌==◌, Bool, true, false, ◌&&◌, ◌||◌, not, if◌then◌else◌, List, [], ◌∷◌, ◌++◌, None, arith, codes, bytes_eq}
use Rattle.std.specs.Prelude.{encode_utf8, encode_utf8_all}
use Rattle.std.specs.List.{list_all}
use Rattle.std.proofs.lemmas.Bool.Decides.{nat_tests}
use Rattle.std.proofs.lemmas.List.{append_assoc}
use Rattle.std.proofs.lemmas.Str.{cons_from_encodes, encodes_same}
use Rattle.std.proofs.lemmas.Slice.Eq.{bytes_eq-Decides}
use Rattle.go_tree.specs.declared.tokens.Token.{Token}
use Rattle.go_tree.specs.declared.tokens.TokenKind.{TokenKind}
use Rattle.go_tree.specs.declared.tokens.TokenKind.TheVariants.{Ident, Keyword, Operator, Integer, Float, Imaginary, Rune, Str, Inserted}
use Rattle.go_tree.specs.GoWords.Terminals.{Terminal, key_package, keywords, operators, found_in, terminal_of}
use Rattle.go_tree.specs.GoWords.Tokens.Characters.{byte_order_mark, is_listed}
use Rattle.go_tree.specs.GoWords.Tokens.{size_of, ends_line, span_of, due_after, tokens_from, after_mark, mark_size, pieces_size}
use Rattle.go_tree.specs.GoWords.Tokens.Pieces.{PieceKind, blanks, remark, token, Piece, IsPiece, IsNext, CutsTo}
use Rattle.go_scan.proofs.Cuts.{same_front}
use Rattle.go_scan.proofs.PieceKinds.{never_empty}
use Rattle.splice_laws.specs.Joints.{words_of, IsMark}
use Rattle.splice_laws.proofs.Ends.{ends}
use Rattle.splice_laws.proofs.Over.{mark_begins_none}

-- ---- cuts

pub cut_front : (ps qs : List Piece) (text : List ℕ) → CutsTo text (ps ++ qs) [] → (more : List ℕ) × CutsTo text ps more × CutsTo more qs []
cut_front [] qs text cut = (text, refl, cut)
cut_front (p ∷ ps) qs text cut = let later = cut_front ps qs cut.0 cut.2 in (later.0, (cut.0, cut.1, later.1), later.2)

pub words_are : (ps : List Piece) (text rest : List ℕ) → CutsTo text ps rest → text ≡ words_of ps ++ rest
words_are [] text rest cut = cut
words_are (p ∷ ps) text rest cut = cut.1.parts ∙ ap (λ (m : List ℕ). p.word ++ m) (words_are ps cut.0 rest cut.2) ∙ sym (append_assoc p.word (words_of ps) rest)

-- a run of blanks, a comment or a keyword: whatever follows, it goes on no further than up to the next piece
abbrev pub is_quiet : PieceKind → Bool
is_quiet (token Keyword) = true
is_quiet (token k) = false
is_quiet k = true

abbrev pub AllQuiet : List Piece → Type 0
AllQuiet [] = Unit {0}
AllQuiet (p ∷ ps) = (is_quiet p.kind ≡ true) × AllQuiet ps

loud : (k : PieceKind) → k ≡ token Integer → is_quiet k ≡ true → ⊥
loud k e q = let no : is_quiet (token Integer) ≡ true = subst (λ (j : PieceKind). is_quiet j ≡ true) e q in cc

loud_sign : (k : PieceKind) → k ≡ token Operator → is_quiet k ≡ true → ⊥
loud_sign k e q = let no : is_quiet (token Operator) ≡ true = subst (λ (j : PieceKind). is_quiet j ≡ true) e q in cc

not_open : (k : PieceKind) (w : List ℕ) → is_quiet k ≡ true → (k ≡ token Integer) ⊎ ((k ≡ token Operator) × (w ≡ codes ".")) → ⊥
not_open k w q (inl e) = loud k e q
not_open k w q (inr e) = loud_sign k e.0 q

step_over : (p : Piece) → is_quiet p.kind ≡ true → (ps : List Piece) (c : ℕ) (more others : List ℕ) → CutsTo (words_of ps ++ c ∷ more) ps (c ∷ more)
    → IsNext (p.word ++ (words_of ps ++ c ∷ more)) p.kind p.word (words_of ps ++ c ∷ more) → IsNext (p.word ++ (words_of ps ++ c ∷ others)) p.kind p.word (words_of ps ++ c ∷ others)
step_over p q [] c more others cut next = ends p.kind p.word c more next (λ dot. not_open p.kind p.word q) next.spelled others
step_over p q (r ∷ rs) c more others cut next = by_word r.word cut.1.spelled next
  where
    by_word : (w : List ℕ) → IsPiece r.kind w → IsNext (p.word ++ ((w ++ words_of rs) ++ c ∷ more)) p.kind p.word ((w ++ words_of rs) ++ c ∷ more)
        → IsNext (p.word ++ ((w ++ words_of rs) ++ c ∷ others)) p.kind p.word ((w ++ words_of rs) ++ c ∷ others)
    by_word [] piece h = absurd (never_empty r.kind piece)
    by_word (d ∷ ds) piece h = ends p.kind p.word d ((ds ++ words_of rs) ++ c ∷ more) h (λ dot. not_open p.kind p.word q) h.spelled ((ds ++ words_of rs) ++ c ∷ others)

pub cut_over : (ps : List Piece) (c : ℕ) (more others : List ℕ) → AllQuiet ps → CutsTo (words_of ps ++ c ∷ more) ps (c ∷ more) → CutsTo (words_of ps ++ c ∷ others) ps (c ∷ others)
cut_over [] c more others q cut = refl
cut_over (p ∷ ps) c more others q cut =
    let same : p.word ++ (words_of ps ++ c ∷ more) ≡ p.word ++ cut.0 = sym (append_assoc p.word (words_of ps) (c ∷ more)) ∙ cut.1.parts in
    let rest : words_of ps ++ c ∷ more ≡ cut.0 = (same_front p.word p.word (words_of ps ++ c ∷ more) cut.0 same refl).1 in
    let later : CutsTo (words_of ps ++ c ∷ more) ps (c ∷ more) = subst (λ (t : List ℕ). CutsTo t ps (c ∷ more)) (sym rest) cut.2 in
    let next : IsNext (p.word ++ (words_of ps ++ c ∷ more)) p.kind p.word (words_of ps ++ c ∷ more) =
    subst (λ (t : List ℕ). IsNext t p.kind p.word (words_of ps ++ c ∷ more)) (append_assoc p.word (words_of ps) (c ∷ more))
    (subst (λ (m : List ℕ). IsNext ((p.word ++ words_of ps) ++ c ∷ more) p.kind p.word m) (sym rest) cut.1) in (
      words_of ps ++ c ∷ others,
      subst (λ (t : List ℕ). IsNext t p.kind p.word (words_of ps ++ c ∷ others)) (sym (append_assoc p.word (words_of ps) (c ∷ others))) (step_over p q.0 ps c more others later next),
      cut_over ps c more others q.1 later,
    )

-- ---- characters

pub front_decoded : (front characters : List ℕ) (more : List ℕ) → encode_utf8_all characters ≡ encode_utf8_all front ++ more → (rest : List ℕ) × (characters ≡ front ++ rest)
front_decoded [] characters more e = (characters, refl)
front_decoded (c ∷ front) characters more e =
    let first = cons_from_encodes characters (encode_utf8_all front ++ more) c (e ∙ append_assoc (encode_utf8 c) (encode_utf8_all front) more) in
    let later = front_decoded front first.0 more first.2 in
    (later.0, first.1 ∙ ap (λ (cs : List ℕ). c ∷ cs) later.1)

-- a text that begins with a piece begins with no byte order mark
unmarked : (p : Piece) (text rest : List ℕ) → IsNext text p.kind p.word rest → (after_mark text ≡ text) × (mark_size text ≡ 0)
unmarked p text rest next = subst (λ (t : List ℕ). (after_mark t ≡ t) × (mark_size t ≡ 0)) (sym next.parts) (by_word p.word next.spelled)
  where
    same_number : (a b : ℕ) → (a == b) ≡ true → a ≡ b
    same_number a b e = grind (arith, nat_tests, e)

    by_word : (w : List ℕ) → IsPiece p.kind w → (after_mark (w ++ rest) ≡ w ++ rest) × (mark_size (w ++ rest) ≡ 0)
    by_word [] piece = absurd (never_empty p.kind piece)
    by_word (c ∷ cs) piece = by_mark (c == byte_order_mark) refl
      where
        by_mark : (b : Bool) → (c == byte_order_mark) ≡ b → ((if b then cs ++ rest else c ∷ cs ++ rest) ≡ c ∷ cs ++ rest) × ((if b then size_of (c ∷ []) else 0) ≡ 0)
        by_mark true e = absurd (mark_begins_none p.kind cs (subst (λ (n : ℕ). IsPiece p.kind (n ∷ cs)) (same_number c byte_order_mark e) piece))
        by_mark false e = (refl, refl)

pub marked_front : (mark : List ℕ) (p : Piece) (text rest : List ℕ) → IsMark mark → IsNext text p.kind p.word rest → (after_mark (mark ++ text) ≡ text) × (mark_size (mark ++ text) ≡ size_of mark)
marked_front mark p text rest (inl e) next = subst (λ (m : List ℕ). (after_mark (m ++ text) ≡ text) × (mark_size (m ++ text) ≡ size_of m)) (sym e) (unmarked p text rest next)
marked_front mark p text rest (inr e) next = subst (λ (m : List ℕ). (after_mark (m ++ text) ≡ text) × (mark_size (m ++ text) ≡ size_of m)) (sym e) (refl, refl)

-- ---- the first token

-- no token
abbrev pub is_silent : PieceKind → Bool
is_silent (token k) = false
is_silent k = true

abbrev pub AllSilent : List Piece → Type 0
AllSilent [] = Unit {0}
AllSilent (p ∷ ps) = (is_silent p.kind ≡ true) × AllSilent ps

silent_quiet : (k : PieceKind) → is_silent k ≡ true → is_quiet k ≡ true
silent_quiet blanks h = refl
silent_quiet remark h = refl
silent_quiet (token k) h = cc

pub quiets : (ps : List Piece) → AllSilent ps → AllQuiet ps
quiets [] s = tt
quiets (p ∷ ps) s = (silent_quiet p.kind s.0, quiets ps s.1)

pub all_quiet : (ps qs : List Piece) → AllSilent ps → AllQuiet qs → AllQuiet (ps ++ qs)
all_quiet [] qs s q = q
all_quiet (p ∷ ps) qs s q = (silent_quiet p.kind s.0, all_quiet ps qs s.1 q)

-- a token of a kind and a word at a byte
abbrev pub token_there : ℕ → TokenKind → List ℕ → Token
token_there at k w = record { span = span_of at w; kind = k; spelling = encode_utf8_all w }

-- the pieces before the first token, its own, and those behind it
pub record First (ps : List Piece) (at : ℕ) (t : Token) (ts : List Token) : Type 0 where
  pub before : List Piece
  pub kind : TokenKind
  pub word : List ℕ
  pub behind : List Piece
  pub begin : ℕ
  pub is : ps ≡ before ++ record { kind = token kind; word = word } ∷ behind
  pub silent : AllSilent before
  pub begins : begin ≡ at + pieces_size before
  pub token_is : t ≡ token_there begin kind word
  pub rest_is : ts ≡ tokens_from (begin + size_of word) (due_after begin None (token kind) word) behind

no_newline : (b : Bool) (at : ℕ) (ps : List Piece) → (if b then [] else []) ++ tokens_from at (if b then None else None) ps ≡ tokens_from at None ps
no_newline true at ps = refl
no_newline false at ps = refl

one_before : (k : PieceKind) (w : List ℕ) (ps : List Piece) (at : ℕ) (t : Token) (ts : List Token) → is_silent k ≡ true → First ps (at + size_of w) t ts → First (record { kind = k; word = w } ∷ ps) at t ts
one_before k w ps at t ts s f =
    record {
      before = record { kind = k; word = w } ∷ f.before;
      kind = f.kind;
      word = f.word;
      behind = f.behind;
      begin = f.begin;
      is = ap (λ (qs : List Piece). record { kind = k; word = w } ∷ qs) f.is;
      silent = (s, f.silent);
      begins = let b = f.begins in omega (arith, b);
      token_is = f.token_is;
      rest_is = f.rest_is;
    }

by_kind : (k : PieceKind) (w : List ℕ) (ps : List Piece) (at : ℕ) (t : Token) (ts : List Token) → (tokens_from (at + size_of w) None ps ≡ t ∷ ts → First ps (at + size_of w) t ts)
    → tokens_from at None (record { kind = k; word = w } ∷ ps) ≡ t ∷ ts → First (record { kind = k; word = w } ∷ ps) at t ts
unfolding tokens_from
by_kind blanks w ps at t ts ih e = one_before blanks w ps at t ts refl (ih (sym (no_newline (is_listed w 10) (at + size_of w) ps) ∙ e))
by_kind remark w ps at t ts ih e = one_before remark w ps at t ts refl (ih (sym (no_newline (is_listed w 10) (at + size_of w) ps) ∙ e))
by_kind (token k) w ps at t ts ih e =
    let head : t ≡ token_there at k w = cc in
    let tail : ts ≡ tokens_from (at + size_of w) (due_after at None (token k) w) ps = cc in
    record {
      before = [];
      kind = k;
      word = w;
      behind = ps;
      begin = at;
      is = refl;
      silent = tt;
      begins = omega arith;
      token_is = head;
      rest_is = tail;
    }

pub first : (ps : List Piece) (at : ℕ) (t : Token) (ts : List Token) → tokens_from at None ps ≡ t ∷ ts → First ps at t ts
unfolding tokens_from
first [] at t ts e = absurd cc
first (p ∷ ps) at t ts e = by_kind p.kind p.word ps at t ts (λ r. first ps (at + size_of p.word) t ts r) e

-- pieces without tokens give none
silent_at : (k : PieceKind) (w : List ℕ) (ps : List Piece) (at : ℕ) → is_silent k ≡ true → tokens_from at None (record { kind = k; word = w } ∷ ps) ≡ tokens_from (at + size_of w) None ps
unfolding tokens_from
silent_at blanks w ps at s = no_newline (is_listed w 10) (at + size_of w) ps
silent_at remark w ps at s = no_newline (is_listed w 10) (at + size_of w) ps
silent_at (token k) w ps at s = cc

pub first_there : (before : List Piece) (k : TokenKind) (w : List ℕ) (behind : List Piece) (at begin : ℕ) → AllSilent before → begin ≡ at + pieces_size before
    → (more : List Token) × (tokens_from at None (before ++ record { kind = token k; word = w } ∷ behind) ≡ token_there begin k w ∷ more)
unfolding tokens_from
first_there [] k w behind at begin s e = let same : at ≡ begin = omega (arith, e) in (tokens_from (at + size_of w) (due_after at None (token k) w) behind, ap (λ (n : ℕ). token_there n k w ∷ tokens_from (at + size_of w) (due_after at None (token k) w) behind) same)
first_there (p ∷ ps) k w behind at begin s e =
    let later = first_there ps k w behind (at + size_of p.word) begin s.1 (omega (arith, e)) in
    (later.0, silent_at p.kind p.word (ps ++ record { kind = token k; word = w } ∷ behind) at s.0 ∙ later.1)

-- ---- the keyword

abbrev is_package_key : Terminal → Bool
is_package_key key_package = true
is_package_key t = false

abbrev only_package : List ℕ × Terminal → Bool
only_package row = not (is_package_key row.1) || bytes_eq row.0 (codes "package")

both : (a b : Bool) → (a && b) ≡ true → (a ≡ true) × (b ≡ true)
both true b h = (refl, h)
both false b h = absurd cc

other_of : (a b : Bool) → (not a || b) ≡ true → a ≡ true → b ≡ true
other_of true b h e = h
other_of false b h e = absurd cc

same_bytes : (a b : List ℕ) → bytes_eq a b ≡ true → a ≡ b
same_bytes a b e = (bytes_eq-Decides a b).0 e

spelled_in : (rows : List (List ℕ × Terminal)) (s : List ℕ) → list_all only_package rows ≡ true → is_package_key (found_in rows s) ≡ true → s ≡ codes "package"
spelled_in [] s all e = absurd cc
spelled_in (row ∷ rows) s all e = by (bytes_eq row.0 s) refl (both (only_package row) (list_all only_package rows) all) (spelled_in rows s) e
  where
    by : (b : Bool) → bytes_eq row.0 s ≡ b → (only_package row ≡ true) × (list_all only_package rows ≡ true) → (list_all only_package rows ≡ true → is_package_key (found_in rows s) ≡ true → s ≡ codes "package")
        → is_package_key (if b then row.1 else found_in rows s) ≡ true → s ≡ codes "package"
    by true is h ih e = sym (same_bytes row.0 s is) ∙ same_bytes row.0 (codes "package") (other_of (is_package_key row.1) (bytes_eq row.0 (codes "package")) h.0 e)
    by false is h ih e = ih h.1 e

abbrev no_package : List ℕ × Terminal → Bool
no_package row = not (is_package_key row.1)

not_in : (rows : List (List ℕ × Terminal)) (s : List ℕ) → list_all no_package rows ≡ true → is_package_key (found_in rows s) ≡ true → ⊥
not_in [] s all e = cc
not_in (row ∷ rows) s all e = by (bytes_eq row.0 s) (both (no_package row) (list_all no_package rows) all) (not_in rows s) e
  where
    nope : (b : Bool) → not b ≡ true → b ≡ true → ⊥
    nope true n e = cc
    nope false n e = cc

    by : (b : Bool) → (no_package row ≡ true) × (list_all no_package rows ≡ true) → (list_all no_package rows ≡ true → is_package_key (found_in rows s) ≡ true → ⊥)
        → is_package_key (if b then row.1 else found_in rows s) ≡ true → ⊥
    by true h ih e = nope (is_package_key row.1) h.0 e
    by false h ih e = ih h.1 e

-- the keyword `package` is spelled so
pub package_spelled : (k : TokenKind) (s : List ℕ) → terminal_of k s ≡ key_package → (k ≡ Keyword) × (s ≡ codes "package")
package_spelled Ident s e = let clash = ap is_package_key e in absurd cc
package_spelled Keyword s e = (refl, spelled_in keywords s refl (ap is_package_key e))
package_spelled Operator s e = absurd (not_in operators s refl (ap is_package_key e))
package_spelled Integer s e = let clash = ap is_package_key e in absurd cc
package_spelled Float s e = let clash = ap is_package_key e in absurd cc
package_spelled Imaginary s e = let clash = ap is_package_key e in absurd cc
package_spelled Rune s e = let clash = ap is_package_key e in absurd cc
package_spelled Str s e = let clash = ap is_package_key e in absurd cc
package_spelled Inserted s e = let clash = ap is_package_key e in absurd cc

-- no semicolon comes behind it
pub ends_no_line : (w : List ℕ) → encode_utf8_all w ≡ codes "package" → ends_line Keyword w ≡ false
unfolding lib.Utf8.encode
ends_no_line w e = subst (λ (v : List ℕ). ends_line Keyword v ≡ false) (sym (encodes_same w (codes "package") e)) refl
