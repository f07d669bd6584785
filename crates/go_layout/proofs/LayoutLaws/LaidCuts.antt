-- The text of a layout is cut into its pieces, and they are its tokens.
use Rattle.std.proofs.Common.{◌≡◌, ℕ, ◌+◌, Bool, true, false, ◌||◌, ◌==◌, List, [], ◌∷◌, ◌++◌, Option, Some, None, refl, sym, ap, subst, ◌∙◌}
use Rattle.std.specs.Prelude.{encode_utf8_all, if◌then◌else◌}
use Rattle.std.proofs.Common.{arith}
use Rattle.std.proofs.lemmas.Bool.Decides.{nat_tests}
use Rattle.ucd_category.specs.GeneralCategory.{general_category}
use Rattle.ucd_category.specs.GeneralCategoryRows.{general_category_rows}
use Rattle.ucd_table.specs.Rows.{value_in}
use Rattle.std.specs.Str.{all_scalars}
use Rattle.std.proofs.lemmas.Str.{encodes-append}
use Rattle.std.proofs.lemmas.List.{append_assoc, append-nil}
use Rattle.go_tree.specs.GoWords.Tokens.Characters.{is_letter, is_blank, byte_order_mark}
use Rattle.go_tree.specs.GoWords.Tokens.{TokensOf, after_mark, mark_size, size_of, ends_line, span_of, due_after, tokens_from, comments_from, pieces_size}
use Rattle.go_tree.specs.GoWords.Tokens.Pieces.{PieceKind, blanks, token, Piece, IsPiece, IsNext, CutsTo}
use Rattle.go_scan.specs.Automaton.{next_of, is_whole}
use Rattle.go_scan.proofs.Derivatives.{and_parts, and_true}
use Rattle.go_scan.proofs.AutomatonLemmas.{run}
use Rattle.go_scan.proofs.LexemeLemmas.{form_runs, run_dead}
use Rattle.go_scan.proofs.PieceKinds.{Sort, a_blank, a_letter, a_lexeme, sort_of, never_empty}
use Rattle.go_tree.specs.GoWords.Terminals.{lex, terminal_of, lexemes}
use Rattle.go_read.specs.SpellsTypes.{Lexemes}
use Rattle.go_layout.specs.Layouts.{Layout, no_text, a_token, gap, line, ◌⊕◌, text_of}
use Rattle.go_layout.specs.LayoutLaws.LayoutTokens.{HasTokens, of_nothing, of_token, of_gap, of_line, of_end, of_both}
use Rattle.go_layout.specs.LayoutLaws.LayoutPieces.{word_of, letters_of, pieces_of, due_of, due_behind}
use Rattle.go_layout.specs.LayoutLaws.Laid.{is_indent, Laid}
use Rattle.go_layout.proofs.LayoutLaws.NextTokens.{START, DEAD}

-- ---- the cut

pub cuts_to : (a : Layout) (d : Bool) (more : List ℕ) (ps : List Piece) (rest : List ℕ) → Laid a d more → CutsTo more ps rest → CutsTo (letters_of a more) (pieces_of a ps) rest
cuts_to no_text d more ps rest laid cut = cut
cuts_to (a_token k w) d more ps rest laid cut = (more, laid.next, cut)
cuts_to gap d more ps rest laid cut = (more, laid, cut)
cuts_to (line ends i) d more ps rest laid cut = (more, laid.1.next, cut)
cuts_to (a ⊕ b) d more ps rest laid cut = cuts_to a d (letters_of b more) (pieces_of b ps) rest laid.0 (cuts_to b (due_of a d) more ps rest laid.1 cut)

-- ---- the bytes

scalars_on : (xs ys : List ℕ) → all_scalars xs ≡ true → all_scalars ys ≡ true → all_scalars (xs ++ ys) ≡ true
scalars_on [] ys x y = y
scalars_on (c ∷ xs) ys x y = let p = and_parts (lib.Utf8.scalar c) (all_scalars xs) x in and_true (lib.Utf8.scalar c) (all_scalars (xs ++ ys)) p.0 (scalars_on xs ys p.1 y)

same_number : (a b : ℕ) → a == b ≡ true → a ≡ b
same_number a b e = grind (arith, nat_tests, e)

-- a space or a tab is one byte
space_byte : (c : ℕ) → c == 32 || c == 9 ≡ true → (lib.Utf8.scalar c ≡ true) × (encode_utf8_all (c ∷ []) ≡ c ∷ [])
unfolding lib.Utf8.encode
space_byte c h = by_space (c == 32) refl h
  where
    as_space : c ≡ 32 → (lib.Utf8.scalar c ≡ true) × (encode_utf8_all (c ∷ []) ≡ c ∷ [])
    as_space e = subst (λ (n : ℕ). (lib.Utf8.scalar n ≡ true) × (encode_utf8_all (n ∷ []) ≡ n ∷ [])) (sym e) (refl, refl)

    as_tab : c ≡ 9 → (lib.Utf8.scalar c ≡ true) × (encode_utf8_all (c ∷ []) ≡ c ∷ [])
    as_tab e = subst (λ (n : ℕ). (lib.Utf8.scalar n ≡ true) × (encode_utf8_all (n ∷ []) ≡ n ∷ [])) (sym e) (refl, refl)

    by_space : (b : Bool) → (c == 32) ≡ b → b || c == 9 ≡ true → (lib.Utf8.scalar c ≡ true) × (encode_utf8_all (c ∷ []) ≡ c ∷ [])
    by_space true e q = as_space (same_number c 32 e)
    by_space false e q = as_tab (same_number c 9 q)

indent_bytes : (i : List ℕ) → is_indent i ≡ true → (all_scalars i ≡ true) × (encode_utf8_all i ≡ i)
indent_bytes [] h = (refl, refl)
indent_bytes (c ∷ cs) h =
    let p = and_parts (c == 32 || c == 9) (is_indent cs) h in
    let first = space_byte c p.0 in
    let others = indent_bytes cs p.1 in
    (and_true (lib.Utf8.scalar c) (all_scalars cs) first.0 others.0, encodes-append (c ∷ []) cs ∙ ap (λ (x : List ℕ). x ++ encode_utf8_all cs) first.1 ∙ ap (λ (x : List ℕ). c ∷ x) others.1)

pub bytes_of : (a : Layout) (d : Bool) (more : List ℕ) → Laid a d more → encode_utf8_all (letters_of a more) ≡ text_of a ++ encode_utf8_all more
unfolding lib.Utf8.encode
bytes_of no_text d more laid = refl
bytes_of (a_token k w) d more laid = encodes-append (word_of k w) more ∙ ap (λ (x : List ℕ). x ++ encode_utf8_all more) laid.encoded
bytes_of gap d more laid = refl
bytes_of (line ends i) d more laid =
    ap (λ (x : List ℕ). 10 ∷ x) (encodes-append i more ∙ ap (λ (x : List ℕ). x ++ encode_utf8_all more) (indent_bytes i laid.1.spaces).1)
bytes_of (a ⊕ b) d more laid =
    bytes_of a d (letters_of b more) laid.0 ∙ ap (λ (x : List ℕ). text_of a ++ x) (bytes_of b (due_of a d) more laid.1) ∙ sym (append_assoc (text_of a) (text_of b) (encode_utf8_all more))

pub scalars_of : (a : Layout) (d : Bool) (more : List ℕ) → Laid a d more → all_scalars more ≡ true → all_scalars (letters_of a more) ≡ true
scalars_of no_text d more laid h = h
scalars_of (a_token k w) d more laid h = scalars_on (word_of k w) more laid.scalars h
scalars_of gap d more laid h = h
scalars_of (line ends i) d more laid h = scalars_on i more (indent_bytes i laid.1.spaces).0 h
scalars_of (a ⊕ b) d more laid h = scalars_of a d (letters_of b more) laid.0 (scalars_of b (due_of a d) more laid.1 h)

-- ---- the tokens

-- a newline would give a semicolon
abbrev pub is_due : Option ℕ → Bool
is_due None = false
is_due (Some at) = true

-- ---- the pieces of a layout, and then others

pub size_over : (a : Layout) (ps : List Piece) → pieces_size (pieces_of a ps) ≡ pieces_size (pieces_of a []) + pieces_size ps
size_over no_text ps = omega arith
size_over (a_token k w) ps = omega arith
size_over gap ps = omega arith
size_over (line ends i) ps = omega arith
size_over (a ⊕ b) ps =
    let x = size_over a (pieces_of b ps) in let y = size_over b ps in let z = size_over a (pieces_of b []) in omega (arith, x, y, z)

none_more : (n : ℕ) → n ≡ n + 0
none_more n = omega arith

one_size : (at n : ℕ) → at + n ≡ at + (n + 0)
one_size at n = omega arith

pub due_over : (a : Layout) (at : ℕ) (due : Option ℕ) (ps : List Piece)
    → due_behind at due (pieces_of a ps) ≡ due_behind (at + pieces_size (pieces_of a [])) (due_behind at due (pieces_of a [])) ps
unfolding due_behind
due_over no_text at due ps = ap (λ (n : ℕ). due_behind n due ps) (none_more at)
due_over (a_token k w) at due ps = ap (λ (n : ℕ). due_behind n (due_after at due (token k) (word_of k w)) ps) (one_size at (size_of (word_of k w)))
due_over gap at due ps = ap (λ (n : ℕ). due_behind n (due_after at due blanks (32 ∷ [])) ps) (one_size at (size_of (32 ∷ [])))
due_over (line ends i) at due ps = ap (λ (n : ℕ). due_behind n (due_after at due blanks (10 ∷ i)) ps) (one_size at (size_of (10 ∷ i)))
due_over (a ⊕ b) at due ps =
    let m : ℕ = at + pieces_size (pieces_of a []) in
    let d : Option ℕ = due_behind at due (pieces_of a []) in
    let z = size_over a (pieces_of b []) in
    let place : m + pieces_size (pieces_of b []) ≡ at + pieces_size (pieces_of a (pieces_of b [])) = omega (arith, z) in
    due_over a at due (pieces_of b ps) ∙ due_over b m d ps
    ∙ ap (λ (n : ℕ). due_behind n (due_behind m d (pieces_of b [])) ps) place
    ∙ ap (λ (o : Option ℕ). due_behind (at + pieces_size (pieces_of a (pieces_of b []))) o ps) (sym (due_over a at due (pieces_of b [])))

-- the tokens of the pieces are those of the layout, and then those of the pieces after it
pub record After (a : Layout) (d : Bool) (at : ℕ) (due : Option ℕ) (ps : List Piece) : Type 0 where
  pub place : ℕ
  pub then_due : Option ℕ
  pub due_is : is_due then_due ≡ due_of a d
  pub place_is : place ≡ at + pieces_size (pieces_of a [])
  pub then_is : then_due ≡ due_behind at due (pieces_of a [])
  pub has : HasTokens a (lexemes (tokens_from at due (pieces_of a ps))) (lexemes (tokens_from place then_due ps))

pub after : (a : Layout) (d : Bool) (more : List ℕ) → Laid a d more → (at : ℕ) (due : Option ℕ) → is_due due ≡ d → (ps : List Piece) → After a d at due ps
unfolding tokens_from due_behind
after no_text d more laid at due q ps = record { place = at; then_due = due; due_is = q; place_is = none_more at; then_is = refl; has = of_nothing }
after (a_token k w) d more laid at due q ps = record {
  place = at + size_of (word_of k w);
  then_due = due_after at due (token k) (word_of k w);
  due_is = by_end (ends_line k (word_of k w));
  place_is = one_size at (size_of (word_of k w));
  then_is = refl;
  has = subst (λ (x : List ℕ). HasTokens (a_token k w) (lex (span_of at (word_of k w)) (terminal_of k x) ∷ rest) rest) (sym laid.encoded) of_token;
}
  where
    rest : Lexemes
    rest = lexemes (tokens_from (at + size_of (word_of k w)) (due_after at due (token k) (word_of k w)) ps)

    by_end : (b : Bool) → is_due (if b then Some (at + size_of (word_of k w)) else None) ≡ b
    by_end true = refl
    by_end false = refl
after gap d more laid at due q ps = record { place = at + size_of (32 ∷ []); then_due = due; due_is = q; place_is = one_size at (size_of (32 ∷ [])); then_is = refl; has = of_gap }
after (line true i) d more laid at None q ps = absurd (nope (laid.0 ∙ sym q))
  where
    nope : true ≡ false → ⊥
    nope e = cc
after (line true i) d more laid at (Some due) q ps = record { place = at + size_of (10 ∷ i); then_due = None; due_is = refl; place_is = one_size at (size_of (10 ∷ i)); then_is = refl; has = of_end }
after (line false i) d more laid at None q ps = record { place = at + size_of (10 ∷ i); then_due = None; due_is = refl; place_is = one_size at (size_of (10 ∷ i)); then_is = refl; has = of_line }
after (line false i) d more laid at (Some due) q ps = absurd (nope (laid.0 ∙ sym q))
  where
    nope : false ≡ true → ⊥
    nope e = cc
after (a ⊕ b) d more laid at due q ps =
    let x = after a d (letters_of b more) laid.0 at due q (pieces_of b ps) in
    let y = after b (due_of a d) more laid.1 x.place x.then_due x.due_is ps in
    record {
      place = y.place;
      then_due = y.then_due;
      due_is = y.due_is;
      place_is = places at x.place y.place (pieces_size (pieces_of a [])) (pieces_size (pieces_of b [])) (pieces_size (pieces_of a (pieces_of b []))) x.place_is y.place_is (size_over a (pieces_of b []));
      then_is = y.then_is ∙ ap (λ (n : ℕ). due_behind n x.then_due (pieces_of b [])) x.place_is ∙ ap (λ (o : Option ℕ). due_behind (at + pieces_size (pieces_of a [])) o (pieces_of b [])) x.then_is ∙ sym (due_over a at due (pieces_of b []));
      has = of_both x.has y.has;
    }
  where
    places : (at p q m n s : ℕ) → p ≡ at + m → q ≡ p + n → s ≡ m + n → q ≡ at + s
    places at p q m n s e f g = omega (arith, e, f, g)

pub no_comments : (a : Layout) (at : ℕ) (ps : List Piece) → (place : ℕ) × (comments_from at (pieces_of a ps) ≡ comments_from place ps)
unfolding comments_from
no_comments no_text at ps = (at, refl)
no_comments (a_token k w) at ps = (at + size_of (word_of k w), refl)
no_comments gap at ps = (at + size_of (32 ∷ []), refl)
no_comments (line ends i) at ps = (at + size_of (10 ∷ i), refl)
no_comments (a ⊕ b) at ps = let x = no_comments a at (pieces_of b ps) in let y = no_comments b x.0 ps in (y.0, x.1 ∙ y.1)

-- ---- a text by itself

-- no piece begins with a byte order mark
mark_letter : is_letter byte_order_mark ≡ false
unfolding is_letter general_category general_category_rows value_in
mark_letter = refl

mark_dead : next_of START byte_order_mark ≡ DEAD
unfolding next_of
mark_dead = refl

mark_begins_none : (k : PieceKind) (cs : List ℕ) → IsPiece k (byte_order_mark ∷ cs) → ⊥
mark_begins_none k cs piece = by_sort (sort_of k byte_order_mark cs piece)
  where
    clash : (b : Bool) → b ≡ true → b ≡ false → ⊥
    clash b p q = cc

    nope : is_whole DEAD ≡ true → ⊥
    nope e = cc

    by_sort : Sort k byte_order_mark cs → ⊥
    by_sort (a_blank _ b _) = clash (is_blank byte_order_mark) b refl
    by_sort (a_letter _ l _) = clash (is_letter byte_order_mark) l mark_letter
    by_sort (a_lexeme _ _ form) = nope (subst (λ (s : ℕ). is_whole s ≡ true) (ap (λ (s : ℕ). run s cs) mark_dead ∙ run_dead cs) (form_runs k (byte_order_mark ∷ cs) form).0)

first_of_next : (text : List ℕ) (k : PieceKind) (word rest : List ℕ) → IsNext text k word rest → (c : ℕ) (cs : List ℕ) → text ≡ c ∷ cs → c == byte_order_mark ≡ true → ⊥
first_of_next text k [] rest next c cs e m = never_empty k next.spelled
first_of_next text k (d ∷ ds) rest next c cs e m =
    let heads : d ∷ ds ++ rest ≡ c ∷ cs = sym next.parts ∙ e in
    let head : d ≡ c = cc in
    mark_begins_none k ds (subst (λ (n : ℕ). IsPiece k (n ∷ ds)) (head ∙ same_number c byte_order_mark m) next.spelled)

unmarked : (text : List ℕ) (ps : List Piece) → CutsTo text ps [] → (after_mark text ≡ text) × (mark_size text ≡ 0)
unmarked [] ps cut = (refl, refl)
unmarked (c ∷ cs) [] cut = absurd cc
unmarked (c ∷ cs) (p ∷ ps) cut = by_mark (c == byte_order_mark) refl
  where
    by_mark : (b : Bool) → (c == byte_order_mark) ≡ b → ((if b then cs else c ∷ cs) ≡ c ∷ cs) × ((if b then size_of (c ∷ []) else 0) ≡ 0)
    by_mark true e = absurd (first_of_next (c ∷ cs) p.kind p.word cut.0 cut.1 c cs refl e)
    by_mark false e = (refl, refl)

pub tokens_alone : (a : Layout) → Laid a false [] → TokensOf (text_of a) (tokens_from 0 None (pieces_of a [])) []
unfolding comments_from
tokens_alone a laid =
    let cut = cuts_to a false [] [] [] laid refl in
    let mark = unmarked (letters_of a []) (pieces_of a []) cut in
    record {
      characters = letters_of a [];
      scalars = scalars_of a false [] laid refl;
      encoded = bytes_of a false [] laid ∙ append-nil (text_of a);
      pieces = pieces_of a [];
      cut = subst (λ (t : List ℕ). CutsTo t (pieces_of a []) []) (sym mark.0) cut;
      tokens_are = ap (λ (n : ℕ). tokens_from n None (pieces_of a [])) (sym mark.1);
      comments_are = sym (no_comments a (mark_size (letters_of a [])) []).1;
    }
