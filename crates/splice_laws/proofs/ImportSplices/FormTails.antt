-- A form that is put behind the imports of a text: what becomes of the parts from there on.
use Rattle.std.proofs.Common.{◌≡◌, ℕ, ◌+◌, ◌≤◌, Bool, true, false, ◌||◌, List, [], ◌∷◌, ◌++◌, length, drop, None, refl, sym, ap, subst, ◌∙◌, arith, length-append}
use Rattle.std.specs.Prelude.{encode_utf8_all, slice_range}
use Rattle.std.specs.Str.{all_scalars}
use Rattle.std.proofs.lemmas.List.{append_assoc}
use Rattle.go_tree.specs.declared.spans.Span.{Span}
use Rattle.go_tree.specs.declared.tokens.Token.{Token}
use Rattle.go_tree.specs.declared.tokens.TokenKind.{TokenKind}
use Rattle.go_tree.specs.GoWords.Terminals.{lexemes}
use Rattle.go_tree.specs.GoWords.Tokens.Characters.{is_listed}
use Rattle.go_tree.specs.GoWords.Tokens.{tokens_from, pieces_size}
use Rattle.go_tree.specs.GoWords.Tokens.Pieces.{PieceKind, blanks, remark, token, Piece}
use Rattle.go_read.specs.SpellsTypes.{Lexemes}
use Rattle.go_read.specs.SpellsSpans.{span_to}
use Rattle.go_layout.specs.Layouts.{Layout}
use Rattle.go_layout.specs.LayoutLaws.Laid.{Laid, is_indent}
use Rattle.go_layout.specs.LayoutLaws.LayoutPieces.{letters_of, pieces_of}
use Rattle.go_layout.proofs.LayoutLaws.LaidCuts.{cuts_to}
use Rattle.go_layout.proofs.LayoutLaws.LaidTypes.{ends_ok}
use Rattle.text_edits.specs.Applied.{replaced_from}
use Rattle.splice_laws.specs.Joints.{words_of, PartsTo, InnerEnd, LastEnds, due_behind, given, begins_with_dot}
use Rattle.splice_laws.specs.Swaps.{Swap}
use Rattle.splice_laws.specs.Fits.{swap_mark}
use Rattle.splice_laws.specs.Replaced.{Replaced}
use Rattle.splice_laws.specs.Ends.{ends_node}
use Rattle.splice_laws.specs.Forms.{new_layout, FormedNew, AsksOld}
use Rattle.splice_laws.specs.Splice.{are_apart, first_word, lead, splice}
use Rattle.splice_laws.specs.Edited.{terminals}
use Rattle.splice_laws.proofs.AddImports.{words_both}
use Rattle.splice_laws.proofs.Begins.{new_begins}
use Rattle.splice_laws.proofs.Behinds.{behind_first}
use Rattle.splice_laws.proofs.Joins.{last_ends, earlier_tokens_apart, later_tokens_apart}
use Rattle.splice_laws.proofs.Laws.{rest_of, letters_begin, no_dot, ends_well, all_on}
use Rattle.splice_laws.proofs.News.{new_reads, new_laid, new_ends}
use Rattle.splice_laws.proofs.Over.{parts_over}
use Rattle.splice_laws.proofs.Places.{Given, given_at}
use Rattle.splice_laws.proofs.Splices.{tokens_then, size_pieces, scalars_parts, scalars_on}
use Rattle.splice_laws.proofs.TokenLists.{behind_alike, layout_front, terminals_joined}
use Rattle.splice_laws.proofs.Wholes.{Among, stands_among, lexemes_on, lead_pieces, words_on, fits, given_led, closed_due}
use Rattle.splice_laws.proofs.ImportSplices.Terms.{terms_are, breaks, breaks_at}
use Rattle.splice_laws.proofs.ImportSplices.Bytes.{bytes_of, bytes_then, bytes_size, drop_at}
use Rattle.splice_laws.proofs.ImportSplices.Nodes.{token_piece, State}
use Rattle.splice_laws.proofs.ImportSplices.Steps.{inner_before, parts_left}
use Rattle.splice_laws.proofs.ImportSplices.Outs.{Out, slice_is}

-- what stands before a token says alone whether a newline does
breaks_before : (g : List Piece) (k : TokenKind) (w : List ℕ) (xs ys : List Piece) → breaks (g ++ (token_piece k w ∷ xs)) ≡ true → breaks (g ++ ys) ≡ true
unfolding breaks
breaks_before [] k w xs ys h = absurd (nope h)
  where
    nope : false ≡ true → ⊥
    nope e = cc
breaks_before (p ∷ g) k w xs ys h = by_kind p.kind h (λ q. breaks_before g k w xs ys q)
  where
    Later : Type 0
    Later = breaks (g ++ (token_piece k w ∷ xs)) ≡ true → breaks (g ++ ys) ≡ true

    by_newline : (b : Bool) → b || breaks (g ++ (token_piece k w ∷ xs)) ≡ true → (breaks (g ++ (token_piece k w ∷ xs)) ≡ true → breaks (g ++ ys) ≡ true) → b || breaks (g ++ ys) ≡ true
    by_newline true e later = refl
    by_newline false e later = later e

    by_kind : (j : PieceKind) → breaks_at j p.word (breaks (g ++ (token_piece k w ∷ xs))) ≡ true → (breaks (g ++ (token_piece k w ∷ xs)) ≡ true → breaks (g ++ ys) ≡ true) → breaks_at j p.word (breaks (g ++ ys)) ≡ true
    by_kind blanks e later = by_newline (is_listed p.word 10) e later
    by_kind remark e later = by_newline (is_listed p.word 10) e later
    by_kind (token j) e later = absurd cc

module _ (text : List ℕ) (tokens : List Token) (w : Swap Span) (i : List ℕ) (dotted wrapped blank : Bool) (asks : AsksOld w) (form : FormedNew dotted w) (sp : is_indent i ≡ true)
    (undotted : dotted ≡ false → begins_with_dot (drop (swap_mark w).end text) ≡ false) (joint : blank ≡ false → are_apart tokens (swap_mark w).start (first_word (new_layout i dotted wrapped w)) ≡ true)
    (at : ℕ) (b : Bool) (ps : List Piece) (ts : Lexemes) (st : State text tokens at b ps ts) (A : Lexemes → Type 0) (r : Replaced span_to w ts A) where
  abbrev form_layout : Layout
  form_layout = new_layout i dotted wrapped w

  abbrev form_pieces : List Piece
  form_pieces = lead_pieces blank ++ pieces_of (new_layout i dotted wrapped w) []

  module _ (m : Among (tokens_from at None ps) w r.front r.rest) (g : Given at None ps m.before m.node m.behind m.last (swap_mark w)) where
    whole_text : text ≡ (st.before ++ bytes_of (g.before ++ g.inside)) ++ bytes_of g.behind
    whole_text =
        st.text_is ∙ ap (λ (us : List Piece). st.before ++ bytes_of us) (g.is ∙ sym (append_assoc g.before g.inside g.behind)) ∙ ap (λ (v : List ℕ). st.before ++ v) (bytes_then (g.before ++ g.inside) g.behind)
        ∙ sym (append_assoc st.before (bytes_of (g.before ++ g.inside)) (bytes_of g.behind))

    tail_bytes : drop (swap_mark w).end text ≡ bytes_of g.behind
    tail_bytes = drop_at text (st.before ++ bytes_of (g.before ++ g.inside)) (bytes_of g.behind) (swap_mark w).end whole_text
        (length-append st.before (bytes_of (g.before ++ g.inside)) ∙ sums (length st.before) (length (bytes_of (g.before ++ g.inside))) (pieces_size (g.before ++ g.inside)) (pieces_size g.before) (pieces_size g.inside) (swap_mark w).end st.size (bytes_size (g.before ++ g.inside)) (size_pieces g.before g.inside) g.ends)
      where
        sums : (x y z p q e : ℕ) → x ≡ at → y ≡ z → z ≡ p + q → e ≡ at + p + q → x + y ≡ e
        sums x y z p q e a c d f = omega (arith, a, c, d, f)

    behind_parts : PartsTo (words_of g.behind) g.behind []
    behind_parts = parts_left (g.before ++ g.inside) g.behind (subst (λ (us : List Piece). PartsTo (words_of us) us []) (g.is ∙ sym (append_assoc g.before g.inside g.behind)) st.parts)

    may_follow : ends_ok dotted (words_of g.behind) ≡ true
    may_follow =
        ends_well dotted (words_of g.behind)
        (behind_first g.behind (words_of g.behind) _ _ behind_parts (subst (λ (us : List Token). ends_node (lexemes us) ≡ true) g.back_is (ap ends_node m.behind_is ∙ r.follows)))
        (λ q. no_dot (words_of g.behind) (subst (λ (v : List ℕ). begins_with_dot v ≡ false) tail_bytes (undotted q)))

    laid : (d : Bool) → Laid form_layout d (words_of g.behind)
    laid d = new_laid w i dotted wrapped form sp d (words_of g.behind) may_follow

    scalars_are : (all_scalars (words_of g.before) ≡ true) × (all_scalars (words_of g.behind) ≡ true)
    scalars_are =
        let x = scalars_parts (words_of g.before) (words_of (g.inside ++ g.behind)) (subst (λ (v : List ℕ). all_scalars v ≡ true) (ap words_of g.is ∙ words_both g.before (g.inside ++ g.behind)) st.scalars) in
        (x.0, (scalars_parts (words_of g.inside) (words_of g.behind) (subst (λ (v : List ℕ). all_scalars v ≡ true) (words_both g.inside g.behind) x.1)).1)

    -- a token that ends where the form begins is read as it was
    stays_apart : blank ≡ false → are_apart (given at None g.before) (at + pieces_size g.before) (first_word form_layout) ≡ true
    stays_apart q =
        subst (λ (n : ℕ). are_apart (given at None g.before) n (first_word form_layout) ≡ true) g.starts
        (subst (λ (us : List Token). are_apart us (swap_mark w).start (first_word form_layout) ≡ true) g.front_is
        (earlier_tokens_apart m.before (m.node ++ m.behind) (swap_mark w).start (first_word form_layout)
        (later_tokens_apart st.done (m.before ++ (m.node ++ m.behind)) (swap_mark w).start (first_word form_layout)
        (subst (λ (us : List Token). are_apart us (swap_mark w).start (first_word form_layout) ≡ true) (st.tokens_are ∙ ap (λ (us : List Token). st.done ++ us) m.whole) (joint q)))))

    closed : LastEnds g.before ((lead blank ++ letters_of form_layout []) ++ words_of g.behind)
    closed = by (letters_begin (pieces_of form_layout []) (letters_of form_layout []) (words_on form_layout []) (cuts_to form_layout false [] [] [] (new_laid w i dotted wrapped form sp false [] refl) refl) (new_begins w i dotted wrapped form))
      where
        by : (c : ℕ) × (cs : List ℕ) × (more : List ℕ) × (first_word form_layout ≡ c ∷ cs) × (letters_of form_layout [] ≡ c ∷ cs ++ more) → LastEnds g.before ((lead blank ++ letters_of form_layout []) ++ words_of g.behind)
        by x =
            subst (λ (v : List ℕ). LastEnds g.before v) (sym (all_on blank x.0 x.1 x.2 (words_of g.behind)) ∙ ap (λ (v : List ℕ). (lead blank ++ v) ++ words_of g.behind) (sym x.4))
            (last_ends g.before g.first.0 g.first.1 (g.first.2 ++ g.behind) (words_of ps) at None blank x.0 x.1 (x.2 ++ words_of g.behind) scalars_are.0
            (subst (λ (us : List Piece). PartsTo (words_of ps) us []) (g.is ∙ ap (λ (us : List Piece). g.before ++ (us ++ g.behind)) g.first.3) st.parts)
            (λ q. subst (λ (v : List ℕ). are_apart (given at None g.before) (at + pieces_size g.before) v ≡ true) x.3 (stays_apart q)))

    out : Out text at b ps (splice (swap_mark w) blank form_layout ∷ []) A
    out =
        let f = fits form_layout (words_of g.behind) g.behind laid blank behind_parts (new_laid w i dotted wrapped form sp false [] refl) in
        let Q : List Piece = form_pieces ++ g.behind in
        let begin : ℕ = at + pieces_size g.before in
        let d0 = due_behind at None g.before in
        let words : words_of Q ≡ (lead blank ++ letters_of form_layout []) ++ words_of g.behind = words_both form_pieces g.behind ∙ ap (λ (v : List ℕ). v ++ words_of g.behind) f.words in
        let parts : PartsTo (words_of Q) Q [] = subst (λ (v : List ℕ). PartsTo v Q []) (sym words) f.parts in
        let x = given_led form_layout (words_of g.behind) g.behind laid blank (λ d. new_ends w i dotted wrapped form d) begin d0 in
        let o = layout_front x.has in
        let us : Lexemes = r.front ++ (o.0 ++ r.rest) in
        let same : terminals r.rest ≡ terminals (lexemes (tokens_from x.place x.then_due g.behind)) =
        ap terminals (sym m.behind_is ∙ ap lexemes g.back_is) ∙ behind_alike g.behind (begin + pieces_size g.inside) x.place (due_behind begin d0 g.inside) x.then_due
        (closed_due m.last.kind m.last.spelling g.word (swap_mark w).end (due_behind begin d0 g.inside) g.due_is g.word_is m.closes ∙ sym x.due_is) in
        let given_now : Lexemes = lexemes (tokens_from begin d0 Q) in
        let all : lexemes (tokens_from at None (g.before ++ Q)) ≡ r.front ++ (o.0 ++ lexemes (tokens_from x.place x.then_due g.behind)) =
        ap lexemes (tokens_then g.before Q at None ∙ ap (λ (vs : List Token). vs ++ tokens_from begin d0 Q) (sym g.front_is)) ∙ lexemes_on m.before (tokens_from begin d0 Q) ∙ ap (λ (vs : Lexemes). vs ++ given_now) m.before_is ∙ ap (λ (vs : Lexemes). r.front ++ vs) o.1 in
        let front : slice_range text at (at + pieces_size g.before) ≡ bytes_of g.before = slice_is text tokens at b ps ts st g.before (words_of (g.inside ++ g.behind)) (ap words_of g.is ∙ words_both g.before (g.inside ++ g.behind)) in
        let new_bytes : bytes_of form_pieces ≡ (splice (swap_mark w) blank form_layout).text = ap encode_utf8_all f.words ∙ f.encoded in
        record {
          front = [];
          words = (words_of ps, refl);
          none = refl;
          inner = tt;
          closed = λ next. tt;
          new = g.before ++ Q;
          parts = subst (λ (v : List ℕ). PartsTo v (g.before ++ Q) []) (sym (words_both g.before Q))
              (parts_over g.before (words_of Q) Q [] (inner_before g.before (g.inside ++ g.behind) (subst (λ (vs : List Piece). InnerEnd vs) g.is st.inner)) (subst (λ (v : List ℕ). LastEnds g.before v) (sym words) closed) parts);
          scalars = subst (λ (v : List ℕ). all_scalars v ≡ true) (sym (words_both g.before Q)) (scalars_on (words_of g.before) (words_of Q) scalars_are.0
              (subst (λ (v : List ℕ). all_scalars v ≡ true) (sym words) (scalars_on (lead blank ++ letters_of form_layout []) (words_of g.behind) f.scalars scalars_are.1)));
          bytes = bytes_then g.before Q ∙ ap (λ (v : List ℕ). bytes_of g.before ++ v) (bytes_then form_pieces g.behind ∙ ap (λ (v : List ℕ). v ++ bytes_of g.behind) new_bytes)
              ∙ ap (λ (v : List ℕ). v ++ ((splice (swap_mark w) blank form_layout).text ++ bytes_of g.behind)) (sym front) ∙ ap (λ (v : List ℕ). slice_range text at (at + pieces_size g.before) ++ ((splice (swap_mark w) blank form_layout).text ++ v)) (sym tail_bytes)
              ∙ ap (λ (n : ℕ). slice_range text at n ++ ((splice (swap_mark w) blank form_layout).text ++ drop (swap_mark w).end text)) (sym g.starts)
              ∙ ap (λ (n : ℕ). replaced_from text n (splice (swap_mark w) blank form_layout ∷ [])) zero;
          heads = subst (λ (n : ℕ). at + 0 ≤ n) (sym g.starts) (within (pieces_size g.before));
          us = us;
          spelled = r.new (o.0 ++ r.rest) (new_reads w i dotted wrapped form (o.0 ++ r.rest) r.rest (rest_of w (r.node ++ r.rest) r.rest r.old) (o.2 r.rest));
          terms_are = sym (terms_are (g.before ++ Q) at None) ∙ ap terminals all ∙ sym (terminals_joined r.front (o.0 ++ r.rest) (o.0 ++ lexemes (tokens_from x.place x.then_due g.behind)) (terminals_joined o.0 r.rest (lexemes (tokens_from x.place x.then_due g.behind)) same));
          due = λ q. breaks_before g.before g.first.0 g.first.1 (g.first.2 ++ g.behind) Q (sym (ap breaks (g.is ∙ ap (λ (vs : List Piece). g.before ++ (vs ++ g.behind)) g.first.3)) ∙ st.due q);
        }
      where
        zero : at ≡ at + 0
        zero = omega arith

        within : (k : ℕ) → at + 0 ≤ at + k
        within k = omega arith

  -- the form's edit makes of the parts what spells the tree with the node replaced
  pub form_out : Out text at b ps (splice (swap_mark w) blank form_layout ∷ []) A
  form_out =
      let m = stands_among (tokens_from at None ps) w asks r.front r.node r.rest (st.lexed ∙ r.tokens) r.marked r.old in
      out m (given_at at None ps m.before m.node m.behind m.last (swap_mark w) m.whole m.spans)
