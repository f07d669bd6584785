-- A text without its unused imports.
use Rattle.std.proofs.Common.{◌≡◌, inr, ℕ, ◌+◌, Bool, true, false, not, ◌&&◌, List, [], ◌∷◌, ◌++◌, map, None, refl, sym, ap, subst, ◌∙◌, arith}
use Rattle.std.specs.Prelude.{encode_utf8_all, slice_range}
use Rattle.std.specs.Str.{all_scalars}
use Rattle.std.proofs.lemmas.List.{append_assoc, append-nil}
use Rattle.std.proofs.lemmas.Str.{encodes-append}
use Rattle.go_tree.specs.declared.spans.Span.{Span}
use Rattle.go_tree.specs.declared.tokens.Token.{Token}
use Rattle.go_tree.specs.declared.tokens.Comment.{Comment}
use Rattle.go_tree.specs.declared.tokens.TokenKind.{TokenKind}
use Rattle.go_tree.specs.declared.tokens.TokenKind.TheVariants.{Ident, Keyword, Operator, Integer, Float, Imaginary, Rune, Str, Inserted}
use Rattle.go_tree.specs.File.{ImportDecl, Decl, File}
use Rattle.go_tree.specs.FileBare.{bare_file}
use Rattle.go_tree.specs.GoWords.Terminals.{Terminal, lex, ident, semicolon, key_package, terminal_of, lexemes, keywords, operators}
use Rattle.go_tree.specs.GoWords.Tokens.Characters.{is_blank}
use Rattle.go_tree.specs.GoWords.Tokens.{TokensOf, size_of, tokens_from, comments_from, pieces_size, after_mark}
use Rattle.go_tree.specs.GoWords.Tokens.Pieces.{PieceKind, blanks, remark, token, Piece, no_word_first, IsPiece}
use Rattle.go_read.specs.SpellsTypes.{Lexemes}
use Rattle.go_read.specs.SpellsSpans.{span_to}
use Rattle.go_read.specs.SpellsFiles.{SpellsImports, SpellsTops, SpellsFront, SpellsFile, front_rule}
use Rattle.go_read.specs.Bareness.{nowhere}
use Rattle.go_read.proofs.SpansAside as aside
use Rattle.go_scan.proofs.PieceKinds.{never_empty}
use Rattle.go_layout.proofs.LayoutLaws.NextTokens.{next_name}
use Rattle.text_edits.specs.declared.edit.Edit.{Edit}
use Rattle.text_edits.specs.Applied.{applied, replaced_from}
use Rattle.run_rules.specs.ImportRules.Removed.{ranges}
use Rattle.run_rules.specs.ImportRules.Settled.{removal}
use Rattle.splice_laws.specs.Joints.{words_of, PartsTo, EndsBefore, LastEnds, IsMark, given, dots_apart}
use Rattle.splice_laws.specs.Dots.{UndottedFile}
use Rattle.splice_laws.specs.Splice.{ReadsAs}
use Rattle.splice_laws.specs.Edited.{terminals}
use Rattle.splice_laws.proofs.AddImports.{reads_alike, none_found}
use Rattle.splice_laws.proofs.Behinds.{blank_word, comment_first}
use Rattle.splice_laws.proofs.Moves.{parts_apart}
use Rattle.splice_laws.proofs.OneToken.{last_of}
use Rattle.splice_laws.proofs.Over.{is_piece, inner_end, the_mark, tokens_of_parts}
use Rattle.splice_laws.proofs.Parts.{in_parts}
use Rattle.splice_laws.proofs.Splices.{tokens_then, scalars_parts, scalars_on}
use Rattle.splice_laws.proofs.TokenDots.{tokens_apart}
use Rattle.splice_laws.proofs.TokenLists.{earlier_apart}
use Rattle.splice_laws.specs.ImportSplices.SettledFile.{left_decls, without_unused}
use Rattle.splice_laws.specs.ImportSplices.SettledReads.{UnusedGo, UnusedGoAgain, UnusedStayUndotted}
use Rattle.splice_laws.proofs.ImportSplices.Terms.{terms_are, breaks, breaks_at}
use Rattle.splice_laws.proofs.ImportSplices.Bytes.{bytes_of, slice_at, drop_at, replaced_on}
use Rattle.splice_laws.proofs.ImportSplices.Nodes.{token_piece, State, Node, node}
use Rattle.splice_laws.proofs.ImportSplices.Steps.{step_by}
use Rattle.splice_laws.proofs.ImportSplices.Outs.{Out, out_map, whole, kept}
use Rattle.splice_laws.proofs.ImportSplices.Walks.{Follows, ImportsThen, imports_front, imports_walk}

-- ---- names

abbrev is_name : Terminal → Bool
is_name (ident _) = true
is_name _ = false

name_kind : (k : TokenKind) (w : List ℕ) → is_name (terminal_of k w) ≡ true → k ≡ Ident
name_kind Ident w h = refl
name_kind Keyword w h = absurd (none_found is_name keywords w refl refl h)
name_kind Operator w h = absurd (none_found is_name operators w refl refl h)
name_kind Integer w h = absurd cc
name_kind Float w h = absurd cc
name_kind Imaginary w h = absurd cc
name_kind Rune w h = absurd cc
name_kind Str w h = absurd cc
name_kind Inserted w h = absurd cc

-- where a newline stands before the next token, no letter or digit comes first
breaks_word : (ps : List Piece) (txt : List ℕ) → PartsTo txt ps [] → breaks ps ≡ true → no_word_first (words_of ps) ≡ true
unfolding breaks
breaks_word [] txt parts h = refl
breaks_word (p ∷ ps) txt parts h = by_kind p.kind p.word refl (is_piece p.kind p.word parts.0 parts.2) h
  where
    first : (w : List ℕ) (k : PieceKind) → IsPiece k w → no_word_first w ≡ true → no_word_first (w ++ words_of ps) ≡ true
    first [] k piece q = absurd (never_empty k piece)
    first (c ∷ cs) k piece q = q

    blank : (w : List ℕ) → IsPiece blanks w → no_word_first w ≡ true
    blank [] piece = refl
    blank (c ∷ cs) piece = ap not (blank_word c (and_first (is_blank c) _ piece))
      where
        and_first : (a b : Bool) → a && b ≡ true → a ≡ true
        and_first true b e = refl
        and_first false b e = absurd cc

    by_kind : (k : PieceKind) (w : List ℕ) → p.word ≡ w → IsPiece k w → breaks_at k p.word (breaks ps) ≡ true → no_word_first (p.word ++ words_of ps) ≡ true
    by_kind blanks w e piece h = ap (λ (v : List ℕ). no_word_first (v ++ words_of ps)) e ∙ first w blanks piece (blank w piece)
    by_kind remark w e piece h = ap (λ (v : List ℕ). no_word_first (v ++ words_of ps)) e ∙ first w remark piece (comment_first w piece)
    by_kind (token k) w e piece h = absurd cc

-- ---- the whole text

words_are : (ps : List Piece) (t : List ℕ) → PartsTo t ps [] → t ≡ words_of ps
words_are [] t parts = parts
words_are (p ∷ ps) t parts = parts.1 ∙ ap (λ (v : List ℕ). p.word ++ v) (words_are ps parts.0 parts.3)

-- A text is a byte order mark or none, and then parts.
pub record Start (text : List ℕ) (tokens : List Token) : Type 0 where
  pub mark : List ℕ
  pub is_mark : IsMark mark
  pub mark_scalars : all_scalars mark ≡ true
  pub pieces : List Piece
  pub state : State text tokens (size_of mark) false pieces (lexemes tokens)
  pub before_is : state.before ≡ encode_utf8_all mark

pub start : (text : List ℕ) (tokens : List Token) (comments : List Comment) → TokensOf text tokens comments → dots_apart tokens ≡ true → Start text tokens
start text tokens comments t apart =
    let m = the_mark t.characters in
    let parts : PartsTo (after_mark t.characters) t.pieces [] = in_parts t.pieces (after_mark t.characters) [] t.cut in
    let body : after_mark t.characters ≡ words_of t.pieces = words_are t.pieces (after_mark t.characters) parts in
    let toks : tokens ≡ tokens_from (size_of m.0) None t.pieces = t.tokens_are ∙ ap (λ (n : ℕ). tokens_from n None t.pieces) m.3 in
    let sc = scalars_parts m.0 (after_mark t.characters) (subst (λ (v : List ℕ). all_scalars v ≡ true) m.2 t.scalars) in
    let own_parts : PartsTo (words_of t.pieces) (t.pieces ++ []) [] = subst (λ (us : List Piece). PartsTo (words_of t.pieces) us []) (sym (append-nil t.pieces)) (subst (λ (v : List ℕ). PartsTo v t.pieces []) body parts) in
    let front_apart : dots_apart (given (size_of m.0) None t.pieces) ≡ true =
    earlier_apart (given (size_of m.0) None t.pieces) _ (subst (λ (ts : List Token). dots_apart ts ≡ true) (toks ∙ ap (λ (us : List Piece). tokens_from (size_of m.0) None us) (sym (append-nil t.pieces)) ∙ tokens_then t.pieces [] (size_of m.0) None) apart) in
    record {
      mark = m.0;
      is_mark = m.1;
      mark_scalars = sc.0;
      pieces = t.pieces;
      state = record {
        before = encode_utf8_all m.0;
        text_is = sym t.encoded ∙ ap encode_utf8_all (m.2 ∙ ap (λ (v : List ℕ). m.0 ++ v) body) ∙ encodes-append m.0 (words_of t.pieces);
        size = refl;
        done = [];
        tokens_are = toks;
        past = λ n h us. refl;
        lexed = ap lexemes (sym toks);
        parts = subst (λ (v : List ℕ). PartsTo v t.pieces []) body parts;
        inner = inner_end t.pieces [] (words_of t.pieces) [] own_parts (parts_apart t.pieces [] (words_of t.pieces) [] (size_of m.0) None own_parts front_apart);
        scalars = subst (λ (v : List ℕ). all_scalars v ≡ true) body sc.1;
        due = λ q. absurd (nope q);
      };
      before_is = refl;
    }
  where
    nope : false ≡ true → ⊥
    nope e = cc

-- what the parts become is read
pub assembled : (text : List ℕ) (tokens : List Token) (z : Start text tokens) (es : List Edit) (f : File (Unit {0})) → Out text (size_of z.mark) false z.pieces es (λ us. SpellsFront nowhere f us []) → ReadsAs (applied text es) f
assembled text tokens z es f o =
    let w = whole text tokens (size_of z.mark) false z.pieces (lexemes tokens) z.state es (λ us. SpellsFront nowhere f us []) o in
    let qs : List Piece = o.front ++ o.new in
    let marked : slice_range text 0 (size_of z.mark) ≡ encode_utf8_all z.mark =
    slice_at text [] (encode_utf8_all z.mark) (bytes_of z.pieces) 0 (size_of z.mark) (z.state.text_is ∙ ap (λ (v : List ℕ). v ++ bytes_of z.pieces) z.before_is) refl (zero (size_of z.mark)) in
    let encoded : encode_utf8_all (z.mark ++ words_of qs) ≡ applied text es =
    encodes-append z.mark (words_of qs) ∙ ap (λ (v : List ℕ). v ++ bytes_of qs) (sym marked) ∙ ap (λ (v : List ℕ). slice_range text 0 (size_of z.mark) ++ v) w.bytes ∙ sym (replaced_on text 0 (size_of z.mark) es (omega arith) w.heads) in
    let read = tokens_of_parts (applied text es) z.mark (words_of qs) qs z.is_mark (scalars_on z.mark (words_of qs) z.mark_scalars w.scalars) encoded w.parts in
    reads_alike (applied text es) (tokens_from (size_of z.mark) None qs) (comments_from (size_of z.mark) qs) f o.us read o.spelled (sym (terms_are qs (size_of z.mark) None ∙ w.terms_are))
  where
    zero : (n : ℕ) → 0 + n ≡ n
    zero n = omega arith

-- what stands behind the imports stays
pub stays_all : (text : List ℕ) (tokens : List Token) (comments : List Comment) (unused : List Span) (M : Lexemes) → Follows text tokens comments unused M [] (λ us. us ≡ M)
stays_all text tokens comments unused M at b ps st stop = record {
  front = [];
  words = (words_of ps, refl);
  none = refl;
  inner = tt;
  closed = λ next. tt;
  new = ps;
  parts = st.parts;
  scalars = st.scalars;
  bytes = sym (ap (λ (n : ℕ). replaced_from text n []) (zero at) ∙ drop_at text st.before (bytes_of ps) at st.text_is st.size);
  heads = tt;
  us = M;
  spelled = refl;
  terms_are = sym (terms_are ps at None) ∙ ap terminals st.lexed;
  due = st.due;
}
  where
    zero : (n : ℕ) → n + 0 ≡ n
    zero n = omega arith

-- a name ends before what begins with no letter and no digit
pub named : (at : ℕ) (ps : List Piece) (n0 : Lexemes) (c : Span) (n : List ℕ) (r : Lexemes) (x : Node at ps n0 c (ident n) r) (next : List ℕ) → no_word_first next ≡ true → LastEnds x.core next
named at ps n0 c n r x next h =
    let k : x.kind ≡ Ident = name_kind x.kind (encode_utf8_all x.word) (ap is_name x.x_is) in
    subst (λ (us : List Piece). LastEnds us next) (sym x.last.1) (last_of x.last.0 (token_piece x.kind x.word) next (ends k))
  where
    ends : x.kind ≡ Ident → EndsBefore (token_piece x.kind x.word) next
    ends k = subst (λ (j : TokenKind). EndsBefore (token_piece j x.word) next) (sym k) (by next h)
      where
        piece : IsPiece (token Ident) x.word
        piece = subst (λ (j : TokenKind). IsPiece (token j) x.word) k x.piece

        by : (next : List ℕ) → no_word_first next ≡ true → EndsBefore (token_piece Ident x.word) next
        by [] h = next_name x.word [] piece refl
        by (c ∷ cs) h = λ more. next_name x.word (c ∷ more) piece h

-- a name and what goes with it end before what follows
pub by_due : (at : ℕ) (ps : List Piece) (n0 : Lexemes) (c : Span) (n : List ℕ) (r : Lexemes) (x : Node at ps n0 c (ident n) r) (b2 : Bool) (body : List Piece) → (b2 ≡ false → (next : List ℕ) → LastEnds body next) → ((next : List ℕ) → LastEnds x.core next → LastEnds body next)
    → (qs : List Piece) → PartsTo (words_of qs) qs [] → (b2 ≡ true → breaks qs ≡ true) → LastEnds body (words_of qs)
by_due at ps n0 c n r x true body shut closed qs parts due = closed (words_of qs) (named at ps n0 c n r x (words_of qs) (breaks_word qs (words_of qs) parts (due refl)))
by_due at ps n0 c n r x false body shut closed qs parts due = shut refl (words_of qs)

-- what stands behind the imports stays, or becomes what spells these declarations
abbrev pub Tail : (text : List ℕ) (tokens : List Token) (comments : List Comment) (unused : List Span) → File Span → List Edit → List (Decl (Unit {0})) → Type 0
Tail text tokens comments unused file es cs =
    (front mid : Lexemes) → lexemes tokens ≡ front ++ mid → SpellsTops span_to file.decls mid [] → Follows text tokens comments unused mid es (λ us. SpellsTops nowhere cs us [])

pub tail_stays : (text : List ℕ) (tokens : List Token) (comments : List Comment) (unused : List Span) (file : File Span) → Tail text tokens comments unused file [] (bare_file file).decls
tail_stays text tokens comments unused file front mid e d at b ps st stop =
    out_map text at b ps [] _ _ (λ us o. subst (λ (vs : Lexemes). SpellsTops nowhere (bare_file file).decls vs []) (sym o) (aside.tops_bare span_to d)) (stays_all text tokens comments unused mid at b ps st stop)

-- where the imports become others, from the package clause on, and the declarations too, the file becomes one with these
pub file_from : (text : List ℕ) (tokens : List Token) (comments : List Comment) (file : File Span) (unused : List Span) (js : List (ImportDecl (Unit {0}))) (cs : List (Decl (Unit {0}))) (es : List Edit) (z : Start text tokens) (ts : Lexemes) → lexemes tokens ≡ ts → SpellsFront span_to file ts []
    → ((front us mid : Lexemes) → lexemes tokens ≡ front ++ us → SpellsImports span_to file.imports us mid → SpellsTops span_to file.decls mid [] → Follows text tokens comments unused us es (ImportsThen (λ vs. SpellsTops nowhere cs vs []) js))
    → ReadsAs (applied text es) (record (bare_file file) { imports = js; decls = cs })
file_from text tokens comments file unused js cs es z _ e (front_rule {s = s} {c = c} {d = d} {n = n} {is = is} {ds = ds} {ts = ts} {mid = mid} q a b) walk =
    let at : ℕ = size_of z.mark in
    let all : Lexemes = lex s key_package ∷ lex c (ident n) ∷ lex d semicolon ∷ ts in
    let st : State text tokens at false z.pieces all = subst (λ (us : Lexemes). State text tokens at false z.pieces us) e z.state in
    let x = node text tokens at false z.pieces (lex s key_package ∷ []) c (ident n) (lex d semicolon ∷ ts) st refl in
    let w = step_by text tokens at false z.pieces (lex s key_package ∷ []) c (ident n) (lex d semicolon ∷ []) ts st (refl, refl) x (λ next. LastEnds x.core next) (λ next ok. ok) (inr (d, refl)) (λ r. absurd (nope r)) in
    let o = walk (lex s key_package ∷ lex c (ident n) ∷ lex d semicolon ∷ []) ts mid e a b (at + (pieces_size w.of.gap + pieces_size w.of.body)) w.of.b2 w.of.left w.of.next (w.of.stops nope) in
    let wh = whole text tokens (at + (pieces_size w.of.gap + pieces_size w.of.body)) w.of.b2 w.of.left ts w.of.next es _ o in
    let k = kept text tokens at false z.pieces all st (lex s key_package ∷ lex c (ident n) ∷ []) s.start (lex d semicolon ∷ []) ts (lex d semicolon ∷ [] ≡ [] → ⊥) (λ next. LastEnds x.core next) w.of nope es
    (λ us. SpellsFront nowhere (record (bare_file file) { imports = js; decls = cs }) us []) _ o
    (by_due at z.pieces (lex s key_package ∷ []) c n (lex d semicolon ∷ ts) x w.of.b2 w.of.body (λ r next. w.of.shut r nope next) (λ next ok. w.of.closed next ok) (o.front ++ o.new) wh.parts o.due)
    (λ us h. front_rule q h.1 h.2) in
    assembled text tokens z es (record (bare_file file) { imports = js; decls = cs }) k.0
  where
    nope : lex d semicolon ∷ [] ≡ [] → ⊥
    nope e = cc

-- the imports that go, and what becomes of the declarations
pub left_go : (text : List ℕ) (tokens : List Token) (comments : List Comment) (file : File Span) (unused : List Span) → TokensOf text tokens comments → SpellsFile tokens file → UndottedFile (bare_file file) → (es : List Edit) (cs : List (Decl (Unit {0}))) → Tail text tokens comments unused file es cs
    → ReadsAs (applied text (map removal (ranges text tokens comments unused false file.imports) ++ es)) (record (bare_file file) { imports = left_decls text tokens comments unused file.imports; decls = cs })
left_go text tokens comments file unused t d u es cs tail =
    file_from text tokens comments file unused (left_decls text tokens comments unused file.imports) cs (map removal (ranges text tokens comments unused false file.imports) ++ es) (start text tokens comments t (tokens_apart text tokens comments file t d u)) (lexemes tokens) refl d
    (λ front us mid q a b. imports_walk text tokens comments unused (λ vs. SpellsTops nowhere cs vs []) a es (tail (front ++ (imports_front a).0) mid (q ∙ ap (λ (vs : Lexemes). front ++ vs) (imports_front a).1 ∙ sym (append_assoc front (imports_front a).0 mid)) b))

pub unused_go : UnusedGo
unused_go text tokens comments file unused t d u =
    subst (λ (es : List Edit). ReadsAs (applied text es) (without_unused text tokens comments unused file)) (append-nil (map removal (ranges text tokens comments unused false file.imports)))
    (left_go text tokens comments file unused t d u [] (bare_file file).decls (tail_stays text tokens comments unused file))

pub unused_go_again : UnusedGoAgain
unused_go_again text f r unused u = unused_go text r.tokens r.comments r.file unused r.of_text r.spelled (subst (λ (g : File (Unit {0})). UndottedFile g) (sym r.same) u)

pub unused_stay_undotted : UnusedStayUndotted
unused_stay_undotted text tokens comments file unused u = u
