-- A form put into a text reads as the form put into its tree.
use Rattle.std.proofs.Common.{◌≡◌, ℕ, ◌+◌, Bool, true, false, not, ◌||◌, ◌==◌, List, [], ◌∷◌, ◌++◌, drop, None, refl, sym, ap, subst, ◌∙◌}
use Rattle.std.specs.Prelude.{encode_utf8_all}
use Rattle.std.proofs.lemmas.List.{append_assoc}
use Rattle.go_tree.specs.declared.spans.Span.{Span}
use Rattle.go_tree.specs.declared.tokens.Token.{Token}
use Rattle.go_tree.specs.declared.tokens.Comment.{Comment}
use Rattle.go_tree.specs.File.{File}
use Rattle.go_tree.specs.FileBare.{bare_file}
use Rattle.go_tree.specs.GoWords.Tokens.{TokensOf, size_of, pieces_size}
use Rattle.go_tree.specs.GoWords.Tokens.Characters.{is_word}
use Rattle.go_tree.specs.GoWords.Tokens.Pieces.{token, Piece, no_word_first, IsPiece, CutsTo}
use Rattle.go_scan.proofs.Derivatives.{and_true}
use Rattle.go_scan.proofs.PieceKinds.{never_empty}
use Rattle.go_layout.proofs.LayoutLaws.LaidCuts.{cuts_to}
use Rattle.go_tree.specs.GoWords.Terminals.{lexemes}
use Rattle.go_read.specs.SpellsTypes.{Lexemes}
use Rattle.go_read.specs.SpellsSpans.{span_to}
use Rattle.go_read.specs.SpellsFiles.{SpellsFile, SpellsFront}
use Rattle.go_read.specs.Bareness.{nowhere}
use Rattle.go_layout.specs.Layouts.{Layout}
use Rattle.go_layout.specs.LayoutLaws.LayoutPieces.{letters_of, pieces_of}
use Rattle.go_layout.specs.LayoutLaws.Laid.{is_indent}
use Rattle.go_layout.proofs.LayoutLaws.LaidTypes.{ends_ok}
use Rattle.splice_laws.specs.Joints.{words_of, PartsTo, LastEnds, begin_of, given, begins_with_dot, dots_apart, left_comments}
use Rattle.splice_laws.specs.Swaps.{Swap, an_operand, a_callee, a_type, a_literal_type, a_stmt, a_deferred, FileIn}
use Rattle.splice_laws.specs.Fits.{swap_mark, SpellsOld}
use Rattle.splice_laws.specs.Replaced.{Replaced}
use Rattle.splice_laws.specs.Forms.{new_layout, FormedNew, AsksOld}
use Rattle.splice_laws.specs.Splice.{are_apart, first_of, first_word, lead, splice, spliced_text, ReadsAs, ReadsWith, IsPut}
use Rattle.splice_laws.proofs.Splices.{tail_bytes, parted_scalars}
use Rattle.splice_laws.proofs.Files.{replaced}
use Rattle.splice_laws.proofs.Rises.{tokens_rise}
use Rattle.splice_laws.proofs.Wholes.{Where, stands_where, words_on, reads_as}
use Rattle.splice_laws.proofs.News.{RestOf, new_reads, new_laid, new_ends}
use Rattle.splice_laws.specs.Ends.{ends_node}
use Rattle.splice_laws.proofs.Ends.{clash}
use Rattle.splice_laws.proofs.Moves.{dot_bytes}
use Rattle.splice_laws.specs.Dots.{UndottedFile}
use Rattle.splice_laws.proofs.TokenDots.{tokens_apart}
use Rattle.splice_laws.proofs.Begins.{has_any, new_begins}
use Rattle.splice_laws.proofs.Behinds.{behind_first}
use Rattle.splice_laws.proofs.Joins.{earlier_tokens_apart, last_ends}

pub rest_of : (w : Swap Span) (ts r : Lexemes) → SpellsOld span_to w ts r → RestOf w r
rest_of (an_operand _ _ _ _) ts r d = tt
rest_of (a_callee _ _ _) ts r d = d.3
rest_of (a_type _ _) ts r d = tt
rest_of (a_literal_type _ _ _) ts r d = tt
rest_of (a_stmt _ _) ts r d = tt
rest_of (a_deferred _ _) ts r d = tt

-- the first word of a layout, and its letters
pub letters_begin : (ps : List Piece) (letters : List ℕ) → words_of ps ≡ letters → CutsTo letters ps [] → has_any ps ≡ true
    → (c : ℕ) × (cs : List ℕ) × (more : List ℕ) × (first_of ps ≡ c ∷ cs) × (letters ≡ c ∷ cs ++ more)
letters_begin [] letters e cut q = absurd cc
letters_begin (p ∷ ps) letters e cut q = by_word p.word refl cut.1.spelled
  where
    by_word : (v : List ℕ) → p.word ≡ v → IsPiece p.kind v → (c : ℕ) × (cs : List ℕ) × (more : List ℕ) × (p.word ≡ c ∷ cs) × (letters ≡ c ∷ cs ++ more)
    by_word [] x y = absurd (never_empty p.kind y)
    by_word (c ∷ cs) x y = (c, cs, words_of ps, x, sym e ∙ ap (λ (v : List ℕ). v ++ words_of ps) x)

-- ---- what stands behind

pub no_dot : (tail : List ℕ) → begins_with_dot (encode_utf8_all tail) ≡ false → begins_with_dot tail ≡ false
no_dot tail q = by_test (begins_with_dot tail) refl
  where
    by_test : (b : Bool) → begins_with_dot tail ≡ b → begins_with_dot tail ≡ false
    by_test true e = clash (begins_with_dot (encode_utf8_all tail)) (dot_bytes tail e) q
    by_test false e = e

pub ends_well : (dotted : Bool) (tail : List ℕ) → no_word_first tail ≡ true → (dotted ≡ false → begins_with_dot tail ≡ false) → ends_ok dotted tail ≡ true
ends_well dotted [] x y = refl
ends_well dotted (c ∷ cs) x y = and_true (not (is_word c)) (dotted || not (c == 46)) x (by_dot dotted refl)
  where
    not_dot : (b : Bool) → b ≡ false → not b ≡ true
    not_dot true e = absurd cc
    not_dot false e = refl

    by_dot : (b : Bool) → dotted ≡ b → b || not (c == 46) ≡ true
    by_dot true e = refl
    by_dot false e = not_dot (c == 46) (y e)

pub all_on : (b : Bool) (c : ℕ) (cs more tail : List ℕ) → (lead b ++ (c ∷ cs ++ more)) ++ tail ≡ (lead b ++ c ∷ cs) ++ (more ++ tail)
all_on true c cs more tail = ap (λ (v : List ℕ). 32 ∷ c ∷ v) (append_assoc cs more tail)
all_on false c cs more tail = ap (λ (v : List ℕ). c ∷ v) (append_assoc cs more tail)

form_put : (text : List ℕ) (tokens : List Token) (comments : List Comment) (f g : File Span) (w : Swap Span) (i : List ℕ) (dotted wrapped blank : Bool)
    → TokensOf text tokens comments → SpellsFile tokens f → dots_apart tokens ≡ true → FileIn w f g → AsksOld w → FormedNew dotted w → is_indent i ≡ true
    → (dotted ≡ false → begins_with_dot (drop (swap_mark w).end text) ≡ false)
    → (blank ≡ false → are_apart tokens (swap_mark w).start (first_word (new_layout i dotted wrapped w)) ≡ true)
    → ReadsWith (spliced_text text (swap_mark w) blank (new_layout i dotted wrapped w)) (bare_file g) (left_comments (splice (swap_mark w) blank (new_layout i dotted wrapped w)) comments)
form_put text tokens comments f g w i dotted wrapped blank t d apart p asks form sp undotted joint =
    let r = replaced w f g (lexemes tokens) d (tokens_rise text tokens comments t) p in
    let here = stands_where text tokens comments t apart w asks r.front r.node r.rest r.tokens r.marked r.old in
    by_first r here (letters_begin (pieces_of a []) (letters_of a []) (words_on a []) (cuts_to a false [] [] [] (new_laid w i dotted wrapped form sp false [] refl) refl) (new_begins w i dotted wrapped form))
  where
    a : Layout
    a = new_layout i dotted wrapped w

    by_first : (r : Replaced span_to w (lexemes tokens) (λ us. SpellsFront nowhere (bare_file g) us [])) (here : Where text tokens comments w r.front r.rest)
        → (c : ℕ) × (cs : List ℕ) × (more : List ℕ) × (first_word a ≡ c ∷ cs) × (letters_of a [] ≡ c ∷ cs ++ more) → ReadsWith (spliced_text text (swap_mark w) blank a) (bare_file g) (left_comments (splice (swap_mark w) blank a) comments)
    by_first r here x =
        let s = here.spot in
        let tail_is = tail_bytes text s.mark s.before s.inside s.behind s.tail s.parted in
        let end_is : (swap_mark w).end ≡ begin_of s.mark s.before + pieces_size s.inside = ap (λ (z : Span). z.end) s.span_is in
        let start_is : (swap_mark w).start ≡ begin_of s.mark s.before = ap (λ (z : Span). z.start) s.span_is in
        let sc = parted_scalars text s.mark s.before s.inside s.behind s.tail s.parted in
        let bytes : encode_utf8_all s.tail ≡ drop (swap_mark w).end text = tail_is ∙ ap (λ (n : ℕ). drop n text) (sym end_is) in
        let follows : ends_node (lexemes here.behind) ≡ true = ap ends_node here.behind_is ∙ r.follows in
        let word_off : no_word_first s.tail ≡ true = behind_first s.behind s.tail (swap_mark w).end _ s.parted.parts_behind (subst (λ (ts : List Token). ends_node (lexemes ts) ≡ true) s.back_is follows) in
        let off : ends_ok dotted s.tail ≡ true = ends_well dotted s.tail word_off (λ q. no_dot s.tail (subst (λ (v : List ℕ). begins_with_dot v ≡ false) (sym bytes) (undotted q))) in
        let parts : PartsTo (words_of s.before ++ (words_of s.inside ++ s.tail)) (s.before ++ (record { kind = token s.first.0; word = s.first.1 } ∷ (s.first.2 ++ s.behind))) [] =
        subst (λ (ps : List Piece). PartsTo (words_of s.before ++ (words_of s.inside ++ s.tail)) (s.before ++ (ps ++ s.behind)) []) s.first.3 s.parted.parts in
        let ends = last_ends s.before s.first.0 s.first.1 (s.first.2 ++ s.behind) (words_of s.before ++ (words_of s.inside ++ s.tail)) (size_of s.mark) None blank x.0 x.1 (x.2 ++ s.tail) sc.0 parts
        (λ q. subst (λ (v : List ℕ). are_apart (given (size_of s.mark) None s.before) (begin_of s.mark s.before) v ≡ true) x.3
        (subst (λ (n : ℕ). are_apart (given (size_of s.mark) None s.before) n (first_word a) ≡ true) start_is
        (subst (λ (ts : List Token). are_apart ts (swap_mark w).start (first_word a) ≡ true) s.front_is
        (earlier_tokens_apart here.before (here.node ++ here.behind) (swap_mark w).start (first_word a) (subst (λ (ts : List Token). are_apart ts (swap_mark w).start (first_word a) ≡ true) here.whole (joint q)))))) in
        reads_as text tokens comments (bare_file g) w r.front r.rest r.new here a (λ ts has. new_reads w i dotted wrapped form ts r.rest (rest_of w (r.node ++ r.rest) r.rest r.old) has) (λ d2. new_ends w i dotted wrapped form d2)
        (λ d2. new_laid w i dotted wrapped form sp d2 s.tail off) (new_laid w i dotted wrapped form sp false [] refl) blank
        (subst (λ (v : List ℕ). LastEnds s.before v) (sym (all_on blank x.0 x.1 x.2 s.tail) ∙ ap (λ (v : List ℕ). (lead blank ++ v) ++ s.tail) (sym x.4)) ends)

pub forms_put : (text : List ℕ) (tokens : List Token) (comments : List Comment) (f g : File Span) (w : Swap Span) (indent : List ℕ) (dotted wrapped blank : Bool) → IsPut text tokens comments f g w indent dotted wrapped blank
    → ReadsWith (spliced_text text (swap_mark w) blank (new_layout indent dotted wrapped w)) (bare_file g) (left_comments (splice (swap_mark w) blank (new_layout indent dotted wrapped w)) comments)
forms_put text tokens comments f g w indent dotted wrapped blank x =
    form_put text tokens comments f g w indent dotted wrapped blank x.of_text x.spelled (tokens_apart text tokens comments f x.of_text x.spelled x.undotted_file) x.swapped x.asks x.formed x.spaces x.undotted x.apart

pub dots_again : (text : List ℕ) (f : File (Unit {0})) (r : ReadsAs text f) → UndottedFile f → UndottedFile (bare_file r.file) × (dots_apart r.tokens ≡ true)
dots_again text f r u =
    let v : UndottedFile (bare_file r.file) = subst (λ (g : File (Unit {0})). UndottedFile g) (sym r.same) u in
    (v, tokens_apart text r.tokens r.comments r.file r.of_text r.spelled v)

pub forms_put_again : (text : List ℕ) (f : File (Unit {0})) (r : ReadsAs text f) → UndottedFile f → (g : File Span) (w : Swap Span) (indent : List ℕ) (dotted wrapped blank : Bool)
    → FileIn w r.file g → AsksOld w → FormedNew dotted w → is_indent indent ≡ true → (dotted ≡ false → begins_with_dot (drop (swap_mark w).end text) ≡ false)
    → (blank ≡ false → are_apart r.tokens (swap_mark w).start (first_word (new_layout indent dotted wrapped w)) ≡ true)
    → ReadsWith (spliced_text text (swap_mark w) blank (new_layout indent dotted wrapped w)) (bare_file g) (left_comments (splice (swap_mark w) blank (new_layout indent dotted wrapped w)) r.comments)
forms_put_again text f r u g w indent dotted wrapped blank swapped asks formed spaces undotted apart =
    form_put text r.tokens r.comments r.file g w indent dotted wrapped blank r.of_text r.spelled (dots_again text f r u).1 swapped asks formed spaces undotted apart
