-- A layout put into a text in place of a node's tokens: the text reads as the file with the node replaced.
use Rattle.std.proofs.Common.{◌≡◌, ℕ, ◌+◌, Bool, true, false, cond, List, [], ◌∷◌, ◌++◌, Option, Some, None, refl, sym, ap, subst, ◌∙◌}
use Rattle.std.specs.Prelude.{encode_utf8_all}
use Rattle.std.specs.Str.{all_scalars}
use Rattle.std.proofs.lemmas.List.{append_assoc, append-nil}
use Rattle.std.proofs.lemmas.Str.{encodes-append}
use Rattle.go_tree.specs.declared.spans.Span.{Span}
use Rattle.go_tree.specs.declared.tokens.Token.{Token}
use Rattle.go_tree.specs.declared.tokens.TokenKind.{TokenKind}
use Rattle.go_tree.specs.declared.tokens.Comment.{Comment}
use Rattle.go_tree.specs.Tree.{Stmt, empty}
use Rattle.go_tree.specs.File.{File}
use Rattle.go_tree.specs.GoWords.Tokens.{TokensOf, size_of, ends_line, tokens_from, comments_from, pieces_size}
use Rattle.go_tree.specs.GoWords.Tokens.Pieces.{blanks, Piece}
use Rattle.go_tree.specs.GoWords.Terminals.{ends_statement, Terminal, lex, semicolon, terminal_of, lexemes}
use Rattle.go_read.specs.SpellsTypes.{Lexemes}
use Rattle.go_read.specs.Spells.{is_empty}
use Rattle.go_read.specs.SpellsSpans.{span_to}
use Rattle.go_read.specs.SpellsFiles.{SpellsFront}
use Rattle.go_read.specs.Bareness.{nowhere}
use Rattle.go_layout.specs.Layouts.{Layout, no_text, a_token, gap, line, ◌⊕◌, text_of}
use Rattle.go_layout.specs.TreeLayout.{gives_semicolon}
use Rattle.go_layout.specs.LayoutLaws.LayoutTokens.{HasTokens}
use Rattle.go_layout.specs.LayoutLaws.LayoutPieces.{word_of, letters_of, pieces_of, due_of}
use Rattle.go_layout.specs.LayoutLaws.Laid.{Laid}
use Rattle.go_layout.proofs.LayoutLaws.LaidCuts.{bytes_of, scalars_of, is_due, after, no_comments}
use Rattle.text_edits.specs.Applied.{applied}
use Rattle.splice_laws.specs.Joints.{words_of, PartsTo, LastEnds, begin_of, due_behind, left_comments, Spans, dots_apart}
use Rattle.splice_laws.specs.Swaps.{Swap, an_operand, a_callee, a_type, a_literal_type, a_stmt, a_deferred}
use Rattle.splice_laws.specs.Fits.{swap_mark, SpellsOld, SpellsNew}
use Rattle.splice_laws.specs.Ends.{begins_semicolon}
use Rattle.splice_laws.specs.Forms.{AsksOld}
use Rattle.splice_laws.specs.Splice.{lead, splice, ReadsWith}
use Rattle.splice_laws.specs.Joints.{Fitting}
use Rattle.splice_laws.proofs.Splices.{scalars_on}
use Rattle.splice_laws.specs.Spots.{Spot}
use Rattle.splice_laws.proofs.Spots.{spot, put}
use Rattle.splice_laws.proofs.Left.{comments_left}
use Rattle.splice_laws.proofs.Grafts.{U, one_front}
use Rattle.splice_laws.proofs.Respans.{front_respan}
use Rattle.splice_laws.proofs.Marks.{front_marked}
use Rattle.splice_laws.proofs.Closes.{Closing, closed_front, type_closes, literal_closes, bare_closes, stmt_closes, type_opens, literal_opens, bare_opens, stmt_opens}
use Rattle.splice_laws.specs.Edited.{terminals}
use Rattle.splice_laws.proofs.TokenLists.{cut_tokens, earlier_apart, asks_ends, own_span, own_tokens, span_own, behind_alike, spans_at, with_spans, terminals_joined, layout_front}

-- ---- the old node

module _ {S : Type 0} (mark : Lexemes → Lexemes → S) where
  old_closes : (w : Swap S) (ts r : Lexemes) → AsksOld w → SpellsOld mark w ts r → Closing r ts
  old_closes (an_operand l h e f) ts r q d = bare_closes mark d.4
  old_closes (a_callee h e f) ts r q d = bare_closes mark d.4
  old_closes (a_type t u) ts r q d = type_closes mark d
  old_closes (a_literal_type h t u) ts r q d = literal_closes mark d.2
  old_closes (a_stmt x y) ts r q d = stmt_closes mark d q
  old_closes (a_deferred e f) ts r q d = bare_closes mark d

  empty_gives : (y : Stmt S) → is_empty y ≡ true → gives_semicolon y ≡ true → ⊥
  empty_gives (empty s) e g = cc
  empty_gives _ e g = cc

  full : (x : Stmt S) → gives_semicolon x ≡ true → is_empty x ≡ false
  full x q = by_empty (is_empty x) refl
    where
      by_empty : (b : Bool) → is_empty x ≡ b → is_empty x ≡ false
      by_empty true e = absurd (empty_gives x e q)
      by_empty false e = e

  old_opens : (w : Swap S) (ts r : Lexemes) → AsksOld w → SpellsOld mark w ts r → begins_semicolon ts ≡ false
  old_opens (an_operand l h e f) ts r q d = bare_opens mark d.4
  old_opens (a_callee h e f) ts r q d = bare_opens mark d.4
  old_opens (a_type t u) ts r q d = type_opens mark d
  old_opens (a_literal_type h t u) ts r q d = literal_opens mark d.2
  old_opens (a_stmt x y) ts r q d = stmt_opens mark d (full x q)
  old_opens (a_deferred e f) ts r q d = bare_opens mark d

-- ---- where it stands in the text

-- the tokens before the node, its own, and those behind it
pub record Where (text : List ℕ) (tokens : List Token) (comments : List Comment) (w : Swap Span) (front rest : Lexemes) : Type 0 where
  pub before : List Token
  pub node : List Token
  pub behind : List Token
  pub last : Token
  pub whole : tokens ≡ before ++ (node ++ behind)
  pub spot : Spot text tokens comments before node behind last (swap_mark w)
  pub closes : ends_statement (terminal_of last.kind last.spelling) ≡ true
  pub before_is : lexemes before ≡ front
  pub behind_is : lexemes behind ≡ rest

pub begins_same : (ls rest : Lexemes) (s : Span) (x : Terminal) → begins_semicolon ((ls ++ lex s x ∷ []) ++ rest) ≡ begins_semicolon (ls ++ lex s x ∷ [])
begins_same [] rest s x = begins_one x s rest
  where
    begins_one : (x : Terminal) (s : Span) (rest : Lexemes) → begins_semicolon (lex s x ∷ rest) ≡ begins_semicolon (lex s x ∷ [])
    begins_one semicolon s rest = refl
    begins_one _ s rest = refl
begins_same (lex s0 x0 ∷ ls) rest s x = begins_two x0
  where
    begins_two : (x0 : Terminal) → begins_semicolon (lex s0 x0 ∷ ((ls ++ lex s x ∷ []) ++ rest)) ≡ begins_semicolon (lex s0 x0 ∷ (ls ++ lex s x ∷ []))
    begins_two semicolon = refl
    begins_two _ = refl

pub span_of_node : (ls rest : Lexemes) (s : Span) (x : Terminal) → span_to ((ls ++ lex s x ∷ []) ++ rest) rest ≡ own_span (ls ++ lex s x ∷ [])
span_of_node [] rest s x = span_own [] rest (lex s x)
span_of_node (l ∷ ls) rest s x = span_own (ls ++ lex s x ∷ []) rest l

-- the tokens before a node, its own, and those behind it
pub record Among (tokens : List Token) (w : Swap Span) (front rest : Lexemes) : Type 0 where
  pub before : List Token
  pub node : List Token
  pub behind : List Token
  pub last : Token
  pub whole : tokens ≡ before ++ (node ++ behind)
  pub spans : Spans node last (swap_mark w)
  pub closes : ends_statement (terminal_of last.kind last.spelling) ≡ true
  pub before_is : lexemes before ≡ front
  pub behind_is : lexemes behind ≡ rest

pub stands_among : (tokens : List Token) (w : Swap Span) → AsksOld w → (front node rest : Lexemes) → lexemes tokens ≡ front ++ (node ++ rest) → swap_mark w ≡ span_to (node ++ rest) rest → SpellsOld span_to w (node ++ rest) rest → Among tokens w front rest
stands_among tokens w q front node rest e m old =
    let c = closed_front (old_closes span_to w (node ++ rest) rest q old) in
    let own : node ≡ c.0 ++ lex c.1 c.2 ∷ [] = one_front node (c.0 ++ lex c.1 c.2 ∷ []) rest (c.4 ∙ sym (append_assoc c.0 (lex c.1 c.2 ∷ []) rest)) in
    let one = cut_tokens tokens front (node ++ rest) e in
    let two = cut_tokens one.second node rest one.second_is in
    let opens : begins_semicolon (c.0 ++ lex c.1 c.2 ∷ []) ≡ false = sym (begins_same c.0 rest c.1 c.2) ∙ ap (λ (us : Lexemes). begins_semicolon (us ++ rest)) (sym own) ∙ old_opens span_to w (node ++ rest) rest q old in
    let mine = own_tokens two.first c.0 c.1 c.2 (two.first_is ∙ own) c.3 opens in
    let span : own_span (c.0 ++ lex c.1 c.2 ∷ []) ≡ swap_mark w = sym (m ∙ ap (λ (us : Lexemes). span_to (us ++ rest) rest) own ∙ span_of_node c.0 rest c.1 c.2) in
    record {
      before = one.first;
      node = two.first;
      behind = two.second;
      last = mine.last;
      whole = one.whole ∙ ap (λ (ts : List Token). one.first ++ ts) two.whole;
      spans = subst (λ (s : Span). Spans two.first mine.last s) span mine.spans;
      closes = mine.closes;
      before_is = one.first_is;
      behind_is = two.second_is;
    }

pub stands_where : (text : List ℕ) (tokens : List Token) (comments : List Comment) → TokensOf text tokens comments → dots_apart tokens ≡ true → (w : Swap Span) → AsksOld w → (front node rest : Lexemes) → lexemes tokens ≡ front ++ (node ++ rest)
    → swap_mark w ≡ span_to (node ++ rest) rest → SpellsOld span_to w (node ++ rest) rest → Where text tokens comments w front rest
stands_where text tokens comments t apart w q front node rest e m old =
    let x = stands_among tokens w q front node rest e m old in
    record {
      before = x.before;
      node = x.node;
      behind = x.behind;
      last = x.last;
      whole = x.whole;
      spot = spot text tokens comments x.before x.node x.behind x.last (swap_mark w) t x.whole x.spans (earlier_apart x.before (x.node ++ x.behind) (subst (λ (ts : List Token). dots_apart ts ≡ true) x.whole apart));
      closes = x.closes;
      before_is = x.before_is;
      behind_is = x.behind_is;
    }

pub lexemes_on : (xs ys : List Token) → lexemes (xs ++ ys) ≡ lexemes xs ++ lexemes ys
lexemes_on [] ys = refl
lexemes_on (x ∷ xs) ys = ap (λ (zs : Lexemes). lex x.span (terminal_of x.kind x.spelling) ∷ zs) (lexemes_on xs ys)

blank_bytes : (xs : List ℕ) → encode_utf8_all (32 ∷ []) ++ xs ≡ 32 ∷ xs
unfolding lib.Utf8.encode
blank_bytes xs = refl

-- ---- the layout's characters and pieces, and then more

letters_on : (a : Layout) (more : List ℕ) → letters_of a more ≡ letters_of a [] ++ more
letters_on no_text more = refl
letters_on (a_token k w) more = ap (λ (x : List ℕ). x ++ more) (sym (append-nil (word_of k w)))
letters_on gap more = refl
letters_on (line ends i) more = ap (λ (x : List ℕ). 10 ∷ (x ++ more)) (sym (append-nil i))
letters_on (a ⊕ b) more =
    letters_on a (letters_of b more) ∙ ap (λ (x : List ℕ). letters_of a [] ++ x) (letters_on b more) ∙ sym (append_assoc (letters_of a []) (letters_of b []) more)
    ∙ ap (λ (x : List ℕ). x ++ more) (sym (letters_on a (letters_of b [])))

pieces_on : (a : Layout) (more : List Piece) → pieces_of a more ≡ pieces_of a [] ++ more
pieces_on no_text more = refl
pieces_on (a_token k w) more = refl
pieces_on gap more = refl
pieces_on (line ends i) more = refl
pieces_on (a ⊕ b) more =
    pieces_on a (pieces_of b more) ∙ ap (λ (x : List Piece). pieces_of a [] ++ x) (pieces_on b more) ∙ sym (append_assoc (pieces_of a []) (pieces_of b []) more)
    ∙ ap (λ (x : List Piece). x ++ more) (sym (pieces_on a (pieces_of b [])))

pub words_on : (a : Layout) (ps : List Piece) → words_of (pieces_of a ps) ≡ letters_of a (words_of ps)
words_on no_text ps = refl
words_on (a_token k w) ps = refl
words_on gap ps = refl
words_on (line ends i) ps = refl
words_on (a ⊕ b) ps = words_on a (pieces_of b ps) ∙ ap (λ (x : List ℕ). letters_of a x) (words_on b ps)

abbrev pub lead_pieces : Bool → List Piece
lead_pieces true = record { kind = blanks; word = 32 ∷ [] } ∷ []
lead_pieces false = []

-- ---- the text with the layout in place of the node

blank_step : (at : ℕ) (due : Option ℕ) (ps : List Piece) → tokens_from at due (record { kind = blanks; word = 32 ∷ [] } ∷ ps) ≡ tokens_from (at + size_of (32 ∷ [])) due ps
unfolding tokens_from
blank_step at due ps = refl

blank_comments : (at : ℕ) (ps : List Piece) → comments_from at (record { kind = blanks; word = 32 ∷ [] } ∷ ps) ≡ comments_from (at + size_of (32 ∷ [])) ps
unfolding comments_from
blank_comments at ps = refl

-- a layout has none
layout_comments : (a : Layout) (at : ℕ) → comments_from at (pieces_of a []) ≡ []
unfolding comments_from
layout_comments a at = (no_comments a at []).1

-- before parts come those of the layout
parts_to : (a : Layout) (d : Bool) (more : List ℕ) (ps : List Piece) (rest : List ℕ) → Laid a d more → PartsTo more ps rest → PartsTo (letters_of a more) (pieces_of a ps) rest
parts_to no_text d more ps rest laid parts = parts
parts_to (a_token k w) d more ps rest laid parts = (more, laid.next.parts, laid.next, parts)
parts_to gap d more ps rest laid parts = (more, laid.parts, laid.spelled, parts)
parts_to (line ends i) d more ps rest laid parts = (more, laid.1.next.parts, laid.1.next.spelled, parts)
parts_to (a ⊕ b) d more ps rest laid parts = parts_to a d (letters_of b more) (pieces_of b ps) rest laid.0 (parts_to b (due_of a d) more ps rest laid.1 parts)

-- what is given from the place on
pub record Given (a : Layout) (behind : List Piece) (ts : List Token) : Type 0 where
  pub place : ℕ
  pub then_due : Option ℕ
  pub due_is : is_due then_due ≡ true
  pub has : HasTokens a (lexemes ts) (lexemes (tokens_from place then_due behind))

module _ (a : Layout) (tail : List ℕ) (behind : List Piece) (laid : (d : Bool) → Laid a d tail) (blank : Bool) where
  pub fits : PartsTo tail behind [] → Laid a false [] → Fitting (lead blank ++ letters_of a []) (lead_pieces blank ++ pieces_of a []) tail behind (lead blank ++ text_of a)
  fits parts laid_alone = by_blank blank
    where
      own : PartsTo (letters_of a [] ++ tail) (pieces_of a [] ++ behind) []
      own = subst (λ (xs : List ℕ). PartsTo xs (pieces_of a [] ++ behind) []) (letters_on a tail) (subst (λ (ps : List Piece). PartsTo (letters_of a tail) ps []) (pieces_on a behind) (parts_to a false tail behind [] (laid false) parts))

      scalars : all_scalars (letters_of a []) ≡ true
      scalars = scalars_of a false [] laid_alone refl

      encoded : encode_utf8_all (letters_of a []) ≡ text_of a
      encoded = bytes_of a false [] laid_alone ∙ append-nil (text_of a)

      by_blank : (b : Bool) → Fitting (lead b ++ letters_of a []) (lead_pieces b ++ pieces_of a []) tail behind (lead b ++ text_of a)
      by_blank true = record {
        scalars = scalars_on (32 ∷ []) (letters_of a []) refl scalars;
        encoded = encodes-append (32 ∷ []) (letters_of a []) ∙ blank_bytes (encode_utf8_all (letters_of a [])) ∙ ap (λ (x : List ℕ). 32 ∷ x) encoded;
        words = ap (λ (x : List ℕ). 32 ∷ x) (words_on a []);
        parts = (letters_of a [] ++ tail, refl, refl, own);
      }
      by_blank false = record { scalars = scalars; encoded = encoded; words = words_on a []; parts = own }

  given_layout : ((d : Bool) → due_of a d ≡ true) → (at : ℕ) (d : Option ℕ) → Given a behind (tokens_from at d (pieces_of a [] ++ behind))
  given_layout ends at d =
      let x = after a (is_due d) tail (laid (is_due d)) at d refl behind in
      record { place = x.place; then_due = x.then_due; due_is = x.due_is ∙ ends (is_due d); has = subst (λ (ps : List Piece). HasTokens a (lexemes (tokens_from at d ps)) (lexemes (tokens_from x.place x.then_due behind))) (pieces_on a behind) x.has }

  pub given_led : ((d : Bool) → due_of a d ≡ true) → (at : ℕ) (d : Option ℕ) → Given a behind (tokens_from at d ((lead_pieces blank ++ pieces_of a []) ++ behind))
  given_led ends at d = by_blank blank
    where
      by_blank : (b : Bool) → Given a behind (tokens_from at d ((lead_pieces b ++ pieces_of a []) ++ behind))
      by_blank true = subst (λ (ts : List Token). Given a behind ts) (sym (blank_step at d (pieces_of a [] ++ behind))) (given_layout ends (at + size_of (32 ∷ [])) d)
      by_blank false = given_layout ends at d

-- behind a token that closes a statement a semicolon is due
pub closed_due : (k : TokenKind) (spelling word : List ℕ) (end : ℕ) (d : Option ℕ) → d ≡ cond (ends_line k word) (Some end) None → spelling ≡ encode_utf8_all word → ends_statement (terminal_of k spelling) ≡ true → is_due d ≡ true
closed_due k spelling word end d e s closes = ap is_due e ∙ by_end (ends_line k word) (asks_ends k word (subst (λ (v : List ℕ). ends_statement (terminal_of k v) ≡ true) s closes))
  where
    by_end : (b : Bool) → b ≡ true → is_due (cond b (Some end) None) ≡ true
    by_end true e = refl
    by_end false e = absurd cc

module _ (text : List ℕ) (tokens : List Token) (comments : List Comment) (f : File U) (w : Swap Span) (front rest : Lexemes) (new : (others : Lexemes) → SpellsNew w others rest → SpellsFront nowhere f (front ++ others) [])
    (here : Where text tokens comments w front rest) (a : Layout) (reads : (ts : Lexemes) → HasTokens a ts rest → SpellsNew w ts rest) (ends : (d : Bool) → due_of a d ≡ true)
    (laid : (d : Bool) → Laid a d here.spot.tail) (laid_alone : Laid a false []) (blank : Bool) (joint : LastEnds here.spot.before ((lead blank ++ letters_of a []) ++ here.spot.tail)) where
  fit : Fitting (lead blank ++ letters_of a []) (lead_pieces blank ++ pieces_of a []) here.spot.tail here.spot.behind (lead blank ++ text_of a)
  fit = fits a here.spot.tail here.spot.behind laid blank here.spot.parted.parts_behind laid_alone

  begin : ℕ
  begin = begin_of here.spot.mark here.spot.before

  due : Option ℕ
  due = due_behind (size_of here.spot.mark) None here.spot.before

  old_due : is_due (due_behind begin due here.spot.inside) ≡ true
  unfolding begin due
  old_due = closed_due here.last.kind here.last.spelling here.spot.word (swap_mark w).end (due_behind begin due here.spot.inside) here.spot.due_is here.spot.word_is here.closes

  no_new_comments : comments_from begin (lead_pieces blank ++ pieces_of a []) ≡ []
  no_new_comments = by_blank blank
    where
      by_blank : (b : Bool) → comments_from begin (lead_pieces b ++ pieces_of a []) ≡ []
      by_blank true = blank_comments begin (pieces_of a []) ∙ layout_comments a (begin + size_of (32 ∷ []))
      by_blank false = layout_comments a begin

  pub reads_as : ReadsWith (applied text (splice (swap_mark w) blank a ∷ [])) f (left_comments (splice (swap_mark w) blank a) comments)
  unfolding begin due
  reads_as =
      let x = given_led a here.spot.tail here.spot.behind laid blank ends begin due in
      let o = layout_front x.has in
      let placed = put text tokens comments here.before here.node here.behind here.last (swap_mark w) here.spot (lead blank ++ letters_of a []) (lead blank ++ text_of a) (lead_pieces blank ++ pieces_of a []) fit joint in
      let same : terminals rest ≡ terminals (lexemes (tokens_from x.place x.then_due here.spot.behind)) =
      ap terminals (sym here.behind_is ∙ ap lexemes here.spot.back_is) ∙ behind_alike here.spot.behind (swap_mark w).end x.place (due_behind begin due here.spot.inside) x.then_due (old_due ∙ sym x.due_is) in
      let given_now : Lexemes = lexemes (tokens_from begin due ((lead_pieces blank ++ pieces_of a []) ++ here.spot.behind)) in
      let before = new (o.0 ++ rest) (reads (o.0 ++ rest) (o.2 rest)) in
      let all : lexemes (here.before ++ tokens_from begin due ((lead_pieces blank ++ pieces_of a []) ++ here.spot.behind)) ≡ front ++ (o.0 ++ lexemes (tokens_from x.place x.then_due here.spot.behind)) =
      lexemes_on here.before (tokens_from begin due ((lead_pieces blank ++ pieces_of a []) ++ here.spot.behind)) ∙ ap (λ (us : Lexemes). us ++ given_now) here.before_is ∙ ap (λ (us : Lexemes). front ++ us) o.1 in
      let alike : terminals (front ++ (o.0 ++ rest)) ≡ terminals (front ++ (o.0 ++ lexemes (tokens_from x.place x.then_due here.spot.behind))) =
      terminals_joined front (o.0 ++ rest) (o.0 ++ lexemes (tokens_from x.place x.then_due here.spot.behind)) (terminals_joined o.0 rest (lexemes (tokens_from x.place x.then_due here.spot.behind)) same) in
      let target : Lexemes = front ++ (o.0 ++ lexemes (tokens_from x.place x.then_due here.spot.behind)) in
      let spelled : SpellsFront nowhere f (lexemes (here.before ++ tokens_from begin due ((lead_pieces blank ++ pieces_of a []) ++ here.spot.behind))) [] =
      subst (λ (us : Lexemes). SpellsFront nowhere f us []) (with_spans (front ++ (o.0 ++ rest)) target alike ∙ sym all) (front_respan (spans_at target) before) in
      let marked = front_marked span_to spelled in
      record {
        read = record {
          tokens = here.before ++ tokens_from begin due ((lead_pieces blank ++ pieces_of a []) ++ here.spot.behind);
          comments = comments_from (size_of here.spot.mark) here.spot.before ++ (comments_from begin (lead_pieces blank ++ pieces_of a []) ++ comments_from (begin + pieces_size (lead_pieces blank ++ pieces_of a [])) here.spot.behind);
          of_text = placed;
          file = marked.0;
          spelled = marked.2;
          same = marked.1;
        };
        comments_are = comments_left text tokens comments here.before here.node here.behind here.last (swap_mark w) here.spot (lead blank ++ letters_of a []) (lead blank ++ text_of a) (lead_pieces blank ++ pieces_of a []) fit no_new_comments;
      }
