-- The build constraints of a text stay where another text stands behind the name of its package.
use Rattle.std.proofs.Common.{◌≡◌, ◌∙◌, refl, sym, ap, subst, ℕ, zero, suc, ◌+◌, ◌-◌, ◌≤◌, Bool, true, false, ◌&&◌, if◌then◌else◌, List, [], ◌∷◌, ◌++◌, length, take, drop, Option, Some, None, arith, codes}
use Rattle.std.specs.Prelude.{encode_utf8_all}
use Rattle.std.proofs.lemmas.Bool.{le-ltb}
use Rattle.std.proofs.lemmas.List.{append_assoc, take-take, take-append-le, take-append-drop, take_all}
use Rattle.std.proofs.lemmas.Str.{encodes-append}
use Rattle.go_tree.specs.declared.spans.Span.{Span}
use Rattle.go_tree.specs.declared.tokens.Token.{Token}
use Rattle.go_tree.specs.declared.tokens.Comment.{Comment}
use Rattle.go_tree.specs.declared.tokens.TokenKind.{TokenKind}
use Rattle.go_tree.specs.declared.tokens.TokenKind.TheVariants.{Keyword}
use Rattle.go_tree.specs.File.{File}
use Rattle.go_tree.specs.GoWords.Terminals.{lex, ident, semicolon, key_package, terminal_of, lexemes}
use Rattle.go_tree.specs.GoWords.Tokens.{TokensOf, size_of, span_of, due_after, tokens_from, comments_from, after_mark, mark_size, pieces_size}
use Rattle.go_tree.specs.GoWords.Tokens.Pieces.{PieceKind, blanks, remark, token, Piece, IsPiece, IsNext, CutsTo}
use Rattle.go_scan.specs.Unsupported.{package_start, is_constraint, constraint_spans, bytes_in}
use Rattle.go_scan.proofs.Cuts.{cut_along}
use Rattle.go_scan.proofs.PieceKinds.{never_empty}
use Rattle.go_read.specs.SpellsSpans.{span_to, end_after}
use Rattle.go_read.specs.SpellsTypes.{Lexemes}
use Rattle.go_read.specs.SpellsFiles.{SpellsFile, SpellsFront, front_rule}
use Rattle.splice_laws.specs.Joints.{words_of, IsMark}
use Rattle.splice_laws.proofs.Over.{the_mark}
use Rattle.splice_laws.proofs.Splices.{words_size, size_pieces, comments_then}
use Rattle.splice_laws.proofs.Parts.{size_on}
use Rattle.splice_laws.specs.ImportSplices.SupportedWords.Laws.{ConstraintsStay}
use Rattle.splice_laws.proofs.ImportSplices.SupportedWords.Fronts.{AllQuiet, AllSilent, First, all_quiet, cut_front, cut_over, ends_no_line, first, first_there, front_decoded, is_quiet, marked_front, package_spelled, quiets, token_there, words_are}

-- ---- the bytes of a span

bytes_within : (m n k : ℕ) (xs : List ℕ) → m + n ≤ k → take n (drop m (take k xs)) ≡ take n (drop m xs)
bytes_within zero n k xs h = take-take n k xs (omega (arith, h))
bytes_within (suc m) n zero xs h = absurd (omega (arith, h))
bytes_within (suc m) n (suc k) [] h = refl
bytes_within (suc m) n (suc k) (x ∷ xs) h = bytes_within m n k xs (omega (arith, h))

same_bytes_in : (text new : List ℕ) (k : ℕ) (s : Span) → take k new ≡ take k text → s.start ≤ s.end → s.end ≤ k → bytes_in new s ≡ bytes_in text s
same_bytes_in text new k s e a b =
    sym (bytes_within s.start (s.end - s.start) k new (omega (arith, a, b))) ∙ ap (λ (xs : List ℕ). take (s.end - s.start) (drop s.start xs)) e
    ∙ bytes_within s.start (s.end - s.start) k text (omega (arith, a, b))

-- ---- constraints among comments

spans_on : (text : List ℕ) (place : Option ℕ) (xs ys : List Comment) → constraint_spans text place (xs ++ ys) ≡ constraint_spans text place xs ++ constraint_spans text place ys
unfolding constraint_spans
spans_on text place [] ys = refl
spans_on text place (c ∷ xs) ys = by (is_constraint text place c) (spans_on text place xs ys)
  where
    by : (b : Bool) → constraint_spans text place (xs ++ ys) ≡ constraint_spans text place xs ++ constraint_spans text place ys
        → (if b then c.span ∷ constraint_spans text place (xs ++ ys) else constraint_spans text place (xs ++ ys))
        ≡ (if b then c.span ∷ constraint_spans text place xs else constraint_spans text place xs) ++ constraint_spans text place ys
    by true ih = ap (λ (ss : List Span). c.span ∷ ss) ih
    by false ih = ih

and_none : (b : Bool) → (false && b) ≡ false
and_none b = refl

-- those behind a place are none before it
none_behind : (text : List ℕ) (place : ℕ) (ps : List Piece) (at : ℕ) → place ≤ at → constraint_spans text (Some place) (comments_from at ps) ≡ []
unfolding constraint_spans comments_from
none_behind text place [] at h = refl
none_behind text place (p ∷ ps) at h = by p.kind p.word (none_behind text place ps (at + size_of p.word) (omega (arith, h)))
  where
    by : (k : PieceKind) (w : List ℕ) → constraint_spans text (Some place) (comments_from (at + size_of w) ps) ≡ [] → constraint_spans text (Some place) (comments_from at (record { kind = k; word = w } ∷ ps)) ≡ []
    by blanks w r = r
    by (token k) w r = r
    by remark w r = rw (le-ltb at place h) r

-- those of one front are the same
same_before : (text new : List ℕ) (k : ℕ) (place : Option ℕ) → take k new ≡ take k text → (ps : List Piece) (at : ℕ) → at + pieces_size ps ≤ k
    → constraint_spans new place (comments_from at ps) ≡ constraint_spans text place (comments_from at ps)
unfolding constraint_spans comments_from
same_before text new k place e [] at h = refl
same_before text new k place e (p ∷ ps) at h = by p.kind p.word (omega (arith, h)) (same_before text new k place e ps (at + size_of p.word) (omega (arith, h)))
  where
    by : (j : PieceKind) (w : List ℕ) → at + size_of w ≤ k → constraint_spans new place (comments_from (at + size_of w) ps) ≡ constraint_spans text place (comments_from (at + size_of w) ps)
        → constraint_spans new place (comments_from at (record { kind = j; word = w } ∷ ps)) ≡ constraint_spans text place (comments_from at (record { kind = j; word = w } ∷ ps))
    by blanks w fits r = r
    by (token t) w fits r = r
    by remark w fits r =
        rw (same_bytes_in text new k (span_of at w) e (omega arith) fits)
        (ap (λ (ss : List Span). if is_constraint text place (record { span = span_of at w }) then span_of at w ∷ ss else ss) r)

first_none : (xs ys : List Span) → xs ++ ys ≡ [] → xs ≡ []
first_none [] ys e = refl
first_none (x ∷ xs) ys e = absurd cc

-- ---- the first two tokens of a file

pub record Heads (ls : Lexemes) (f : File Span) : Type 0 where
  pub key : Span
  pub at : Span
  pub name : List ℕ
  pub rest : Lexemes
  pub is : ls ≡ lex key key_package ∷ lex at (ident name) ∷ rest
  pub ends_at : f.package_name.span.end ≡ at.end

one_less : (n : ℕ) → suc n - n ≡ 1
one_less n = omega arith

heads : (f : File Span) (ls : Lexemes) → SpellsFront span_to f ls [] → Heads ls f
heads _ _ (front_rule {s = s} {c = c} {d = d} {n = n} {ts = ts} d1 d2 d3) =
    record {
      key = s;
      at = c;
      name = n;
      rest = lex d semicolon ∷ ts;
      is = refl;
      ends_at = ap (λ (k : ℕ). end_after c.start (take k (lex c (ident n) ∷ lex d semicolon ∷ ts))) (one_less (length (lex d semicolon ∷ ts)));
    }

record Two (tokens : List Token) (at : Span) : Type 0 where
  key : Token
  name : Token
  rest : List Token
  is : tokens ≡ key ∷ name ∷ rest
  terminal : terminal_of key.kind key.spelling ≡ key_package
  name_at : name.span ≡ at

two : (tokens : List Token) (key at : Span) (n : List ℕ) (ls : Lexemes) → lexemes tokens ≡ lex key key_package ∷ lex at (ident n) ∷ ls → Two tokens at
two [] key at n ls e = absurd cc
two (t ∷ []) key at n ls e = absurd cc
two (t ∷ u ∷ ts) key at n ls e = record { key = t; name = u; rest = ts; is = refl; terminal = cc; name_at = cc }

-- ---- the front of a text up to the name

package_first : (t : Token) (ts : List Token) → t.kind ≡ Keyword → t.spelling ≡ codes "package" → package_start (t ∷ ts) ≡ Some t.span.start
package_first t ts k s = rw (k, s) refl

no_due : (k : TokenKind) (w : List ℕ) (at : ℕ) → k ≡ Keyword → encode_utf8_all w ≡ codes "package" → due_after at None (token k) w ≡ None
no_due k w at e spelled =
    subst (λ (j : TokenKind). due_after at None (token j) w ≡ None) (sym e) (ap (λ (b : Bool). if b then Some (at + size_of w) else None) (ends_no_line w spelled))

nonempty : (k : PieceKind) (w : List ℕ) → IsPiece k w → (d : ℕ) × (ds : List ℕ) × (w ≡ d ∷ ds)
nonempty k [] piece = absurd (never_empty k piece)
nonempty k (d ∷ ds) piece = (d, ds, refl)

starts : (xs : List Piece) (p : Piece) (ys : List Piece) (text rest : List ℕ) → CutsTo text (xs ++ p ∷ ys) rest → (q : Piece) × (more : List ℕ) × IsNext text q.kind q.word more
starts [] p ys text rest cut = (p, cut.0, cut.1)
starts (x ∷ xs) p ys text rest cut = (x, cut.0, cut.1)

-- ---- sizes

name_fits : (end begin name at size start key between before : ℕ) → end ≡ begin + name → begin ≡ start + key + between → start ≡ at + before → size ≡ before + (key + between) → end ≡ at + size + name
name_fits end begin name at size start key between before a b c d = omega (arith, a, b, c, d)

front_ends : (whole mark rest words pieces name end at last : ℕ) → whole ≡ mark + rest → rest ≡ words + name → words ≡ pieces → end ≡ mark + pieces + name → end ≡ at → last ≡ at → whole ≡ last
front_ends whole mark rest words pieces name end at last a b c d e f = omega (arith, a, b, c, d, e, f)

below : (a b k : ℕ) → a ≡ b → b ≤ k → a ≤ k
below a b k e h = omega (arith, e, h)

itself : (n : ℕ) → n ≤ n
itself n = omega arith

pieces_fit : (whole mark rest words pieces name k : ℕ) → whole ≡ mark + rest → rest ≡ words + name → words ≡ pieces → whole ≤ k → mark + pieces ≤ k
pieces_fit whole mark rest words pieces name k a b c h = omega (arith, a, b, c, h)

key_before : (begin mark before pieces rest : ℕ) → begin ≡ mark + before → pieces ≡ before + rest → begin ≤ mark + pieces
key_before begin mark before pieces rest a b = omega (arith, a, b)

-- ---- the pieces up to the name

abbrev a_token : TokenKind → List ℕ → Piece
a_token k w = record { kind = token k; word = w }

-- The pieces are those up to the name of the package, the name's own, and those behind it; only the keyword among the
-- first is a token.
record Split (pieces : List Piece) (at : ℕ) (key name : Token) : Type 0 where
  before : List Piece
  kind : TokenKind
  word : List ℕ
  between : List Piece
  name_kind : TokenKind
  name_word : List ℕ
  behind : List Piece
  begin : ℕ
  is : pieces ≡ (before ++ a_token kind word ∷ between) ++ a_token name_kind name_word ∷ behind
  silent : AllSilent before
  quiet : AllQuiet (before ++ a_token kind word ∷ between)
  begins : begin ≡ at + pieces_size before
  keyword : kind ≡ Keyword
  spelled : encode_utf8_all word ≡ codes "package"
  key_is : key ≡ token_there begin kind word
  name_ends : name.span.end ≡ at + pieces_size (before ++ a_token kind word ∷ between) + size_of name_word

split : (pieces : List Piece) (at : ℕ) (key name : Token) (rest : List Token) → tokens_from at None pieces ≡ key ∷ name ∷ rest → terminal_of key.kind key.spelling ≡ key_package → Split pieces at key name
split pieces at key name rest all terminal =
    let f : First pieces at key (name ∷ rest) = first pieces at key (name ∷ rest) all in
    let spelling = package_spelled key.kind key.spelling terminal in
    let kind : f.kind ≡ Keyword = sym (ap (λ (x : Token). x.kind) f.token_is) ∙ spelling.0 in
    let word : encode_utf8_all f.word ≡ codes "package" = sym (ap (λ (x : Token). x.spelling) f.token_is) ∙ spelling.1 in
    let due : due_after f.begin None (token f.kind) f.word ≡ None = no_due f.kind f.word f.begin kind word in
    let then_name : tokens_from (f.begin + size_of f.word) None f.behind ≡ name ∷ rest =
    sym (f.rest_is ∙ ap (λ (o : Option ℕ). tokens_from (f.begin + size_of f.word) o f.behind) due) in
    let g : First f.behind (f.begin + size_of f.word) name rest = first f.behind (f.begin + size_of f.word) name rest then_name in
    record {
      before = f.before;
      kind = f.kind;
      word = f.word;
      between = g.before;
      name_kind = g.kind;
      name_word = g.word;
      behind = g.behind;
      begin = f.begin;
      is = f.is ∙ ap (λ (qs : List Piece). f.before ++ a_token f.kind f.word ∷ qs) g.is ∙ sym (append_assoc f.before (a_token f.kind f.word ∷ g.before) (a_token g.kind g.word ∷ g.behind));
      silent = f.silent;
      quiet = all_quiet f.before (a_token f.kind f.word ∷ g.before) f.silent (subst (λ (j : TokenKind). is_quiet (token j) ≡ true) (sym kind) refl, quiets g.before g.silent);
      begins = f.begins;
      keyword = kind;
      spelled = word;
      key_is = f.token_is;
      name_ends =
          name_fits name.span.end g.begin (size_of g.word) at (pieces_size (f.before ++ a_token f.kind f.word ∷ g.before)) f.begin (size_of f.word) (pieces_size g.before) (pieces_size f.before)
          (ap (λ (x : Token). x.span.end) g.token_is) g.begins f.begins (size_pieces f.before (a_token f.kind f.word ∷ g.before));
    }

-- ---- the front of a text

-- The characters up to the end of the name, which are cut into these pieces and the name, whatever follows.
record Front (text : List ℕ) (tokens : List Token) (comments : List Comment) (ends_at : ℕ) : Type 0 where
  mark : List ℕ
  is_mark : IsMark mark
  before : List Piece
  kind : TokenKind
  word : List ℕ
  between : List Piece
  letter : ℕ
  letters : List ℕ
  back : List ℕ
  begin : ℕ
  others : List Comment
  silent : AllSilent before
  quiet : AllQuiet (before ++ a_token kind word ∷ between)
  begins : begin ≡ size_of mark + pieces_size before
  keyword : kind ≡ Keyword
  spelled : encode_utf8_all word ≡ codes "package"
  cut : CutsTo (words_of (before ++ a_token kind word ∷ between) ++ letter ∷ (letters ++ back)) (before ++ a_token kind word ∷ between) (letter ∷ (letters ++ back))
  bytes : text ≡ encode_utf8_all (mark ++ (words_of (before ++ a_token kind word ∷ between) ++ letter ∷ letters)) ++ encode_utf8_all back
  ends : size_of (mark ++ (words_of (before ++ a_token kind word ∷ between) ++ letter ∷ letters)) ≡ ends_at
  start_is : package_start tokens ≡ Some begin
  comments_are : comments ≡ comments_from (size_of mark) (before ++ a_token kind word ∷ between) ++ others

-- the name's own piece and what stands behind it
record Named (ps : List Piece) (name : PieceKind) (word : List ℕ) (body : List ℕ) : Type 0 where
  letter : ℕ
  letters : List ℕ
  back : List ℕ
  word_is : word ≡ letter ∷ letters
  body_is : body ≡ words_of ps ++ letter ∷ (letters ++ back)
  cut : CutsTo (words_of ps ++ letter ∷ (letters ++ back)) ps (letter ∷ (letters ++ back))

named : (ps : List Piece) (n : Piece) (behind : List Piece) (body : List ℕ) → CutsTo body (ps ++ n ∷ behind) [] → Named ps n.kind n.word body
named ps n behind body whole =
    let c = cut_front ps (n ∷ behind) body whole in
    let d = nonempty n.kind n.word c.2.1.spelled in
    let more : c.0 ≡ d.0 ∷ (d.1 ++ c.2.0) = c.2.1.parts ∙ ap (λ (v : List ℕ). v ++ c.2.0) d.2 in
    let is : body ≡ words_of ps ++ c.0 = words_are ps body c.0 c.1 in
    record {
      letter = d.0;
      letters = d.1;
      back = c.2.0;
      word_is = d.2;
      body_is = is ∙ ap (λ (v : List ℕ). words_of ps ++ v) more;
      cut = subst (λ (v : List ℕ). CutsTo (words_of ps ++ v) ps v) more (subst (λ (v : List ℕ). CutsTo v ps c.0) is c.1);
    }

module _ (text : List ℕ) (tokens : List Token) (comments : List Comment) (file : File Span) (t : TokensOf text tokens comments) (spells : SpellsFile tokens file) where
  front : Front text tokens comments file.package_name.span.end
  front =
      let m = the_mark t.characters in
      let h : Heads (lexemes tokens) file = heads file (lexemes tokens) spells in
      let w : Two tokens h.at = two tokens h.key h.at h.name h.rest h.is in
      let all : tokens_from (size_of m.0) None t.pieces ≡ w.key ∷ w.name ∷ w.rest = ap (λ (n : ℕ). tokens_from n None t.pieces) (sym m.3) ∙ sym t.tokens_are ∙ w.is in
      let p : Split t.pieces (size_of m.0) w.key w.name = split t.pieces (size_of m.0) w.key w.name w.rest all w.terminal in
      let ps : List Piece = p.before ++ a_token p.kind p.word ∷ p.between in
      let n : Named ps (token p.name_kind) p.name_word (after_mark t.characters) =
      named ps (a_token p.name_kind p.name_word) p.behind (after_mark t.characters) (subst (λ (qs : List Piece). CutsTo (after_mark t.characters) qs []) p.is t.cut) in
      let characters : t.characters ≡ (m.0 ++ (words_of ps ++ n.letter ∷ n.letters)) ++ n.back =
      m.2 ∙ ap (λ (v : List ℕ). m.0 ++ v) (n.body_is ∙ sym (append_assoc (words_of ps) (n.letter ∷ n.letters) n.back)) ∙ sym (append_assoc m.0 (words_of ps ++ n.letter ∷ n.letters) n.back) in
      let name_ends : w.name.span.end ≡ size_of m.0 + pieces_size ps + size_of (n.letter ∷ n.letters) = p.name_ends ∙ ap (λ (v : List ℕ). size_of m.0 + pieces_size ps + size_of v) n.word_is in
      record {
        mark = m.0;
        is_mark = m.1;
        before = p.before;
        kind = p.kind;
        word = p.word;
        between = p.between;
        letter = n.letter;
        letters = n.letters;
        back = n.back;
        begin = p.begin;
        others = comments_from (size_of m.0 + pieces_size ps) (a_token p.name_kind p.name_word ∷ p.behind);
        silent = p.silent;
        quiet = p.quiet;
        begins = p.begins;
        keyword = p.keyword;
        spelled = p.spelled;
        cut = n.cut;
        bytes = sym t.encoded ∙ ap encode_utf8_all characters ∙ encodes-append (m.0 ++ (words_of ps ++ n.letter ∷ n.letters)) n.back;
        ends =
            front_ends (size_of (m.0 ++ (words_of ps ++ n.letter ∷ n.letters))) (size_of m.0) (size_of (words_of ps ++ n.letter ∷ n.letters)) (size_of (words_of ps)) (pieces_size ps) (size_of (n.letter ∷ n.letters)) w.name.span.end h.at.end
            file.package_name.span.end (size_on m.0 (words_of ps ++ n.letter ∷ n.letters)) (size_on (words_of ps) (n.letter ∷ n.letters)) (words_size ps) name_ends (ap (λ (s : Span). s.end) w.name_at) h.ends_at;
        start_is =
            ap package_start w.is ∙ package_first w.key (w.name ∷ w.rest) (ap (λ (x : Token). x.kind) p.key_is ∙ p.keyword) (ap (λ (x : Token). x.spelling) p.key_is ∙ p.spelled)
            ∙ ap (λ (x : Token). Some x.span.start) p.key_is;
        comments_are =
            t.comments_are ∙ ap (λ (i : ℕ). comments_from i t.pieces) m.3 ∙ ap (λ (qs : List Piece). comments_from (size_of m.0) qs) p.is
            ∙ comments_then ps (a_token p.name_kind p.name_word ∷ p.behind) (size_of m.0);
      }

-- ---- another text with the same front

module _ (text new : List ℕ) (tokens new_tokens : List Token) (comments new_comments : List Comment) (ends_at k : ℕ) (f : Front text tokens comments ends_at) (u : TokensOf new new_tokens new_comments) (fits : ends_at ≤ k)
    (agree : take k new ≡ take k text) where
  abbrev ps : List Piece
  ps = f.before ++ a_token f.kind f.word ∷ f.between

  abbrev chars : List ℕ
  chars = f.mark ++ (words_of ps ++ f.letter ∷ f.letters)

  size_fits : size_of chars ≤ k
  size_fits = below (size_of chars) ends_at k f.ends fits

  same_taken : take (size_of chars) new ≡ encode_utf8_all chars
  same_taken =
      sym (take-take (size_of chars) k new size_fits) ∙ ap (λ (xs : List ℕ). take (size_of chars) xs) agree ∙ take-take (size_of chars) k text size_fits
      ∙ ap (λ (xs : List ℕ). take (size_of chars) xs) f.bytes
      ∙ take-append-le (size_of chars) (encode_utf8_all chars) (encode_utf8_all f.back) (itself (size_of chars)) ∙ take_all (size_of chars) (encode_utf8_all chars) (itself (size_of chars))

  decoded : (rest : List ℕ) × (u.characters ≡ chars ++ rest)
  decoded =
      front_decoded chars u.characters (drop (size_of chars) new)
      (u.encoded ∙ sym (take-append-drop (size_of chars) new) ∙ ap (λ (xs : List ℕ). xs ++ drop (size_of chars) new) same_taken)

  -- the pieces of the new text
  record Again : Type 0 where
    behind : List Piece
    start : mark_size u.characters ≡ size_of f.mark
    pieces : u.pieces ≡ ps ++ behind

  again : Again
  again =
      let rest : List ℕ = decoded.0 in
      let body : List ℕ = words_of ps ++ f.letter ∷ (f.letters ++ rest) in
      let cut : CutsTo body ps (f.letter ∷ (f.letters ++ rest)) = cut_over ps f.letter (f.letters ++ f.back) (f.letters ++ rest) f.quiet f.cut in
      let characters : u.characters ≡ f.mark ++ body =
      decoded.1 ∙ append_assoc f.mark (words_of ps ++ f.letter ∷ f.letters) rest ∙ ap (λ (v : List ℕ). f.mark ++ v) (append_assoc (words_of ps) (f.letter ∷ f.letters) rest) in
      let s = starts f.before (a_token f.kind f.word) f.between body (f.letter ∷ (f.letters ++ rest)) cut in
      let mk = marked_front f.mark s.0 body s.1 f.is_mark s.2 in
      let along = cut_along ps u.pieces body (f.letter ∷ (f.letters ++ rest)) cut (subst (λ (v : List ℕ). CutsTo v u.pieces []) (ap after_mark characters ∙ mk.0) u.cut) in
      record { behind = along.0; start = ap mark_size characters ∙ mk.1; pieces = along.1 }

  new_start : (a : Again) → package_start new_tokens ≡ Some f.begin
  new_start a =
      let there = first_there f.before f.kind f.word (f.between ++ a.behind) (size_of f.mark) f.begin f.silent f.begins in
      let all : new_tokens ≡ token_there f.begin f.kind f.word ∷ there.0 =
      u.tokens_are ∙ ap (λ (i : ℕ). tokens_from i None u.pieces) a.start
      ∙ ap (λ (qs : List Piece). tokens_from (size_of f.mark) None qs) (a.pieces ∙ append_assoc f.before (a_token f.kind f.word ∷ f.between) a.behind) ∙ there.1 in
      ap package_start all ∙ package_first (token_there f.begin f.kind f.word) there.0 f.keyword f.spelled

  comments_now : (a : Again) → new_comments ≡ comments_from (size_of f.mark) ps ++ comments_from (size_of f.mark + pieces_size ps) a.behind
  comments_now a =
      u.comments_are ∙ ap (λ (i : ℕ). comments_from i u.pieces) a.start ∙ ap (λ (qs : List Piece). comments_from (size_of f.mark) qs) a.pieces ∙ comments_then ps a.behind (size_of f.mark)

  old_none : constraint_spans text (package_start tokens) comments ≡ [] → constraint_spans text (Some f.begin) (comments_from (size_of f.mark) ps) ≡ []
  old_none none =
      first_none (constraint_spans text (Some f.begin) (comments_from (size_of f.mark) ps)) (constraint_spans text (Some f.begin) f.others)
      (sym (spans_on text (Some f.begin) (comments_from (size_of f.mark) ps) f.others) ∙ (λ v. constraint_spans text (sym f.start_is v) (sym f.comments_are v)) ∙ none)

  new_none : constraint_spans text (package_start tokens) comments ≡ [] → constraint_spans new (Some f.begin) (comments_from (size_of f.mark) ps) ≡ []
  new_none none =
      same_before text new k (Some f.begin) agree ps (size_of f.mark)
      (pieces_fit (size_of chars) (size_of f.mark) (size_of (words_of ps ++ f.letter ∷ f.letters)) (size_of (words_of ps)) (pieces_size ps) (size_of (f.letter ∷ f.letters)) k
      (size_on f.mark (words_of ps ++ f.letter ∷ f.letters)) (size_on (words_of ps) (f.letter ∷ f.letters)) (words_size ps) size_fits)
      ∙ old_none none

  behind_none : (a : Again) → constraint_spans new (Some f.begin) (comments_from (size_of f.mark + pieces_size ps) a.behind) ≡ []
  behind_none a =
      none_behind new f.begin a.behind (size_of f.mark + pieces_size ps)
      (key_before f.begin (size_of f.mark) (pieces_size f.before) (pieces_size ps) (pieces_size (a_token f.kind f.word ∷ f.between)) f.begins (size_pieces f.before (a_token f.kind f.word ∷ f.between)))

  stay : constraint_spans text (package_start tokens) comments ≡ [] → constraint_spans new (package_start new_tokens) new_comments ≡ []
  stay none =
      (λ v. constraint_spans new (new_start again v) (comments_now again v))
      ∙ spans_on new (Some f.begin) (comments_from (size_of f.mark) ps) (comments_from (size_of f.mark + pieces_size ps) again.behind)
      ∙ (λ v. new_none none v ++ behind_none again v)

pub constraints_stay : ConstraintsStay
constraints_stay text new tokens new_tokens comments new_comments file k t spells none u fits agree =
    stay text new tokens new_tokens comments new_comments file.package_name.span.end k (front text tokens comments file t spells) u fits agree none
