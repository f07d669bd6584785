-- The first unsupported word.
use Rattle.std.proofs.Common.{◌≡◌, ℕ, zero, suc, ◌+◌, ◌<◌, ◌≤◌, map, drop, get_or, add-one, drop-cons, Bool, true, false, cond, nat_le, List, [], ◌∷◌, ◌++◌, length, Option, Some, None, refl, sym, ap, subst, ◌∙◌, arith, append_assoc, length-append, All, encode_utf8_all}
use Rattle.std.proofs.lemmas.Bool.Decides.{nat_tests}
use Rattle.std.proofs.lemmas.Str.{encodes-append}
use Rattle.std.proofs.lemmas.List.Elements.{All-nil, All-append, All-push, All-weaker, All-cons, Contains-push, Contains-append_left}
use Rattle.go_tree.specs.declared.spans.Span.{Span}
use Rattle.go_tree.specs.declared.tokens.Token.{Token}
use Rattle.go_tree.specs.declared.tokens.Comment.{Comment}
use Rattle.go_tree.specs.declared.go_words.terminals.Terminal.{Terminal}
use Rattle.go_tree.specs.GoWords.Terminals.{terminal_of, is_foreign}
use Rattle.go_tree.specs.GoWords.Codes.{spelled, terminal_at}
use Rattle.go_tree.proofs.GoWords.CodeLemmas.{foreign_code, terminal_beside}
use Rattle.go_tree.specs.GoWords.Tokens.{TokensOf, comments_at, comments_from, after_mark, mark_size, pieces_size, size_of}
use Rattle.go_tree.specs.GoWords.Tokens.Pieces.{PieceKind, blanks, remark, token, Piece, CutsTo}
use Rattle.go_scan.specs.Unsupported.{is_unsupported, is_constraint, constraint_spans, word_spans, package_start, unsupported_spans, IsFirst, earlier, first_word, first_constraint}
use Rattle.go_scan.proofs.ScanLemmas.{marked_total}

-- ---- the first of the spans, with one more

first_push : (xs : List Span) (known : Option Span) (span : Span) → IsFirst xs known → IsFirst (xs ++ span ∷ []) (Some (earlier known span))
first_push xs None span none = (
  Contains-push xs span,
  subst (λ (ys : List Span). All (λ other. span.start ≤ other.start) (ys ++ span ∷ [])) (sym none)
      (All-cons (λ (other : Span). span.start ≤ other.start) span [] (omega arith) (All-nil (λ (other : Span). span.start ≤ other.start))),
)
first_push xs (Some known) span is = by_test (nat_le known.start span.start) refl
  where
    by_test : (b : Bool) → nat_le known.start span.start ≡ b → IsFirst (xs ++ span ∷ []) (Some (cond b known span))
    by_test true e = (
      Contains-append_left xs (span ∷ []) known is.0,
      All-push (λ (other : Span). known.start ≤ other.start) xs span is.1 (le_is known.start span.start e),
    )
      where
        le_is : (a b : ℕ) → nat_le a b ≡ true → a ≤ b
        le_is a b e = grind (arith, nat_tests, e)
    by_test false e = (
      Contains-push xs span,
      All-push (λ (other : Span). span.start ≤ other.start) xs span
          (All-weaker (λ (other : Span). known.start ≤ other.start) (λ (other : Span). span.start ≤ other.start) (λ other h. down known.start span.start other.start e h) xs is.1) (omega arith),
    )
      where
        down : (a b c : ℕ) → nat_le a b ≡ false → a ≤ c → b ≤ c
        down a b c e h = grind (arith, nat_tests, e, h)

on : (xs : List Span) (span : Span) (ys : List Span) (known : Option Span) → IsFirst ((xs ++ span ∷ []) ++ ys) known → IsFirst (xs ++ span ∷ ys) known
on xs span ys known h = subst (λ (zs : List Span). IsFirst zs known) (append_assoc xs (span ∷ []) ys) h

words_first : (done : List Span) (known : Option Span) (tokens : List Token) → IsFirst done known → IsFirst (done ++ word_spans tokens) (first_word known tokens)
unfolding word_spans
words_first done known [] h = subst (λ (xs : List Span). IsFirst xs known) (sym (append_nil done)) h
  where
    append_nil : (xs : List Span) → xs ++ [] ≡ xs
    append_nil [] = refl
    append_nil (x ∷ xs) = ap (λ (ys : List Span). x ∷ ys) (append_nil xs)
words_first done known (t ∷ ts) h =
    by_test (is_unsupported t.kind t.spelling) (words_first (done ++ t.span ∷ []) (Some (earlier known t.span)) ts (first_push done known t.span h)) (words_first done known ts h)
  where
    by_test : (b : Bool) → IsFirst ((done ++ t.span ∷ []) ++ word_spans ts) (first_word (Some (earlier known t.span)) ts) → IsFirst (done ++ word_spans ts) (first_word known ts)
        → IsFirst (done ++ cond b (t.span ∷ word_spans ts) (word_spans ts)) (first_word (cond b (Some (earlier known t.span)) known) ts)
    by_test true x y = on done t.span (word_spans ts) (first_word (Some (earlier known t.span)) ts) x
    by_test false x y = y

constraints_first : (text : List ℕ) (place : Option ℕ) (done : List Span) (known : Option Span) (comments : List Comment) → IsFirst done known → IsFirst (done ++ constraint_spans text place comments) (first_constraint text place known comments)
unfolding constraint_spans
constraints_first text place done known [] h = subst (λ (xs : List Span). IsFirst xs known) (sym (append_nil done)) h
  where
    append_nil : (xs : List Span) → xs ++ [] ≡ xs
    append_nil [] = refl
    append_nil (x ∷ xs) = ap (λ (ys : List Span). x ∷ ys) (append_nil xs)
constraints_first text place done known (c ∷ cs) h =
    by_test (is_constraint text place c) (constraints_first text place (done ++ c.span ∷ []) (Some (earlier known c.span)) cs (first_push done known c.span h)) (constraints_first text place done known cs h)
  where
    by_test : (b : Bool) → IsFirst ((done ++ c.span ∷ []) ++ constraint_spans text place cs) (first_constraint text place (Some (earlier known c.span)) cs)
        → IsFirst (done ++ constraint_spans text place cs) (first_constraint text place known cs)
        → IsFirst (done ++ cond b (c.span ∷ constraint_spans text place cs) (constraint_spans text place cs)) (first_constraint text place (cond b (Some (earlier known c.span)) known) cs)
    by_test true x y = on done c.span (constraint_spans text place cs) (first_constraint text place (Some (earlier known c.span)) cs) x
    by_test false x y = y

pub unsupported_first : (text : List ℕ) (tokens : List Token) (comments : List Comment)
    → IsFirst (unsupported_spans text tokens comments) (first_word (first_constraint text (package_start tokens) None comments) tokens)
unsupported_first text tokens comments =
    words_first (constraint_spans text (package_start tokens) comments) (first_constraint text (package_start tokens) None comments) tokens
    (constraints_first text (package_start tokens) [] None comments refl)

-- ---- comments stand within the text

abbrev pub Within : ℕ → Comment → Type 0
Within size c = (c.span.start ≤ c.span.end) × (c.span.end ≤ size)

one_within : (at size : ℕ) (kind : PieceKind) (word : List ℕ) → at + size_of word ≤ size → All (Within size) (comments_at at kind word)
one_within at size remark word small =
    All-cons (Within size) (record { span = record { start = at; end = at + size_of word } }) [] (omega arith, small) (All-nil (Within size))
one_within at size blanks word small = All-nil (Within size)
one_within at size (token k) word small = All-nil (Within size)

all_within : (at size : ℕ) (ps : List Piece) → at + pieces_size ps ≤ size → All (Within size) (comments_from at ps)
unfolding comments_from
all_within at size [] small = All-nil (Within size)
all_within at size (p ∷ ps) small =
    All-append (Within size) (comments_at at p.kind p.word) (comments_from (at + size_of p.word) ps)
    (one_within at size p.kind p.word (omega (arith, small))) (all_within (at + size_of p.word) size ps (omega (arith, small)))

cut_size : (cs : List ℕ) (ps : List Piece) → CutsTo cs ps [] → size_of cs ≡ pieces_size ps
cut_size cs [] cut = ap size_of cut
cut_size cs (p ∷ ps) cut =
    let parts = ap encode_utf8_all cut.1.parts ∙ encodes-append p.word cut.0 in
    let sizes = ap length parts ∙ length-append (encode_utf8_all p.word) (encode_utf8_all cut.0) in
    let ih = cut_size cut.0 ps cut.2 in
    omega (arith, sizes, ih)

pub comments_within : (text : List ℕ) (tokens : List Token) (comments : List Comment) → TokensOf text tokens comments → All (λ c. (c.span.start ≤ c.span.end) × (c.span.end ≤ length text)) comments
comments_within text tokens comments of_text =
    let sizes = cut_size (after_mark of_text.characters) of_text.pieces of_text.cut in
    let total = marked_total of_text.characters in
    let encoded = ap length of_text.encoded in
    subst (λ (cs : List Comment). All (Within (length text)) cs) (sym of_text.comments_are)
    (all_within (mark_size of_text.characters) (length text) of_text.pieces (omega (arith, sizes, total, encoded)))

-- ---- one token after another

mapped_length : (tokens : List Token) → length (map terminal_at tokens) ≡ length tokens
mapped_length [] = refl
mapped_length (t ∷ ts) = let ih = mapped_length ts in omega (arith, ih)

same_at : (xs : List Terminal) (i : ℕ) (d e : Terminal) → i < length xs → get_or xs i d ≡ get_or xs i e
same_at [] i d e lt = absurd (omega (arith, lt))
same_at (x ∷ xs) zero d e lt = refl
same_at (x ∷ xs) (suc i) d e lt = same_at xs i d e (omega (arith, lt))

pub word_step : (tokens : List Token) (terminals : List Terminal) (known now whole : Option Span) (i : ℕ) (t : Token) (d : Terminal) → terminals ≡ map terminal_at tokens → i < length terminals
    → t ≡ get_or tokens i t → ((w : List ℕ) → now ≡ cond (is_foreign (spelled (get_or terminals i d) w)) (Some (earlier known (get_or tokens i t).span)) known)
    → first_word known (drop i tokens) ≡ whole → first_word now (drop (i + 1) tokens) ≡ whole
word_step tokens terminals known now whole i t d same lt here by so_far =
    ap (λ (o : Option Span). first_word o (drop (i + 1) tokens)) taken ∙ sym step ∙ so_far
  where
    within : i < length tokens
    within = let sizes = ap length same ∙ mapped_length tokens in omega (arith, lt, sizes)

    beside : get_or terminals i d ≡ terminal_at t
    beside = terminal_beside tokens i t (get_or terminals i d) within here
        (same_at terminals i d (get_or terminals i d) lt ∙ ap (λ (xs : List Terminal). get_or xs i (get_or terminals i d)) same)

    taken : now ≡ cond (is_unsupported t.kind t.spelling) (Some (earlier known t.span)) known
    taken = by [] ∙ ap (λ (u : Token). cond (is_foreign (spelled (get_or terminals i d) [])) (Some (earlier known u.span)) known) (sym here)
        ∙ ap (λ (x : Terminal). cond (is_foreign (spelled x [])) (Some (earlier known t.span)) known) beside
        ∙ ap (λ (b : Bool). cond b (Some (earlier known t.span)) known) (foreign_code (terminal_of t.kind t.spelling) [])

    split : drop i tokens ≡ t ∷ drop (i + 1) tokens
    split = drop-cons tokens i t within ∙ ap (λ (x : Token). x ∷ drop (suc i) tokens) (sym here) ∙ ap (λ (k : ℕ). t ∷ drop k tokens) (sym (add-one i))

    step : first_word known (drop i tokens) ≡ first_word (cond (is_unsupported t.kind t.spelling) (Some (earlier known t.span)) known) (drop (i + 1) tokens)
    step = ap (first_word known) split
