-- Where the tokens of a text stand: in their order, within the text; each but an inserted semicolon starts and ends with
-- a byte that isn't a blank.
use Rattle.std.proofs.Common.{◌≡◌, ◌+◌, ◌-◌, ◌/◌, ◌<◌, ◌≤◌, ℕ, zero, suc, Bool, true, false, cond, not, ◌&&◌, ◌||◌, nat_lt, ◌==◌, List, [], ◌∷◌, ◌++◌, length, Option, Some, None, refl, sym, ap, subst, ◌∙◌, arith, length-append, append_assoc, append-nil}
use Rattle.std.specs.Prelude.{if◌then◌else◌, encode_utf8_all}
use Rattle.std.proofs.lemmas.Bool.Decides.{nat_tests}
use Rattle.std.proofs.lemmas.Str.{encodes-append, length-encode, len_utf8_bounds}
use lib.Utf8.{encode, next}
use Rattle.ucd_category.specs.GeneralCategory.{general_category}
use Rattle.ucd_category.specs.GeneralCategoryRows.{general_category_rows}
use Rattle.ucd_table.specs.Rows.{value_in}
use Rattle.go_tree.specs.declared.tokens.Token.{Token}
use Rattle.go_tree.specs.declared.tokens.Comment.{Comment}
use Rattle.go_tree.specs.declared.tokens.TokenKind.{TokenKind}
use Rattle.go_tree.specs.declared.tokens.TokenKind.TheVariants.{Inserted}
use Rattle.go_tree.specs.GoWords.Tokens.{TokensOf, after_mark, mark_size, tokens_at, tokens_from, size_of, span_of, inserted, due_after, ends_line}
use Rattle.go_tree.specs.GoWords.Tokens.Characters.{is_letter, is_digit, is_word, is_blank, each, byte_order_mark, is_listed}
use Rattle.go_tree.specs.GoWords.Tokens.Pieces.{PieceKind, blanks, remark, token, Piece, IsPiece, CutsTo}
use Rattle.go_scan.specs.Automaton.{next_of, is_whole, kind_in}
use Rattle.go_scan.proofs.Derivatives.{and_parts}
use Rattle.go_scan.proofs.AutomatonLemmas.{below, below_at, run, run_small}
use Rattle.go_scan.proofs.LexemeLemmas.{form_runs}
use Rattle.go_layout.proofs.LayoutLaws.NextTokens.{START}
use Rattle.go_scan.proofs.PieceKinds.{blank_no_letter, a_blank, a_letter, a_lexeme, sort_of, never_empty}
use Rattle.splice_laws.proofs.Rises.{piece_size}
use Rattle.run_rules.specs.ImportRules.Laid.{IsInk, IsInked}

-- ---- characters

clash : {X : Type 0} → (b : Bool) → b ≡ true → b ≡ false → X
clash b p q = absurd cc

blank_small : (c : ℕ) → is_blank c ≡ true → c < 128
blank_small c h = grind (arith, nat_tests, h)

high : (c : ℕ) → 128 ≤ c → is_blank c ≡ false
high c le = by (is_blank c) refl
  where
    by : (b : Bool) → is_blank c ≡ b → is_blank c ≡ false
    by true e = absurd (omega (arith, le, blank_small c e))
    by false e = e

taken : (a b : Bool) → a ≡ true → not a || b ≡ true → b ≡ true
taken true b p h = h
taken false b p h = absurd cc

not_true : (b : Bool) → not b ≡ true → b ≡ false
not_true true h = absurd cc
not_true false h = refl

small_start : (a b : ℕ) → nat_lt a b ≡ true → a < b
small_start a b e = grind (arith, nat_tests, e)

-- how many states the automaton has
abbrev STATES : ℕ
STATES = 79

-- a word that ends in this state is a comment
abbrev is_comment : PieceKind → Bool
is_comment remark = true
is_comment _ = false

abbrev no_token : ℕ → ℕ → Bool
no_token c state = not (is_whole (next_of state c)) || is_comment (kind_in (next_of state c))

-- no token ends in a blank
abbrev ends_none : ℕ → Bool
ends_none c = not (is_blank c) || (not (is_word c) && below STATES (no_token c))

blanks_end_none : below 128 ends_none ≡ true
unfolding below next_of is_letter is_digit general_category general_category_rows value_in
blanks_end_none = refl

each_last : (p : ℕ → Bool) (w : List ℕ) (c : ℕ) → each p (w ++ c ∷ []) ≡ true → p c ≡ true
each_last p [] c h = (and_parts (p c) true h).0
each_last p (d ∷ w) c h = each_last p w c (and_parts (p d) (each p (w ++ c ∷ [])) h).1

run_last : (state : ℕ) (w : List ℕ) (c : ℕ) → run state (w ++ c ∷ []) ≡ next_of (run state w) c
run_last state [] c = refl
run_last state (d ∷ w) c = run_last (next_of state d) w c

first_ink : (k : TokenKind) (c : ℕ) (cs : List ℕ) → IsPiece (token k) (c ∷ cs) → is_blank c ≡ false
first_ink k c cs h = by (is_blank c) refl
  where
    by : (b : Bool) → is_blank c ≡ b → is_blank c ≡ false
    by true e = go (sort_of (token k) c cs h)
      where
        go : Rattle.go_scan.proofs.PieceKinds.Sort (token k) c cs → is_blank c ≡ false
        go (a_blank z _ _) = absurd cc
        go (a_letter _ l _) = clash (is_letter c) l (blank_no_letter c e)
        go (a_lexeme b _ _) = b
    by false e = e

last_ink : (k : TokenKind) (w : List ℕ) (c : ℕ) → IsPiece (token k) (w ++ c ∷ []) → is_blank c ≡ false
last_ink k [] c h = first_ink k c [] h
last_ink k (d ∷ w) c h = by (is_blank c) refl
  where
    by : (b : Bool) → is_blank c ≡ b → is_blank c ≡ false
    by false e = e
    by true e = go (sort_of (token k) d (w ++ c ∷ []) h)
      where
        facts : (not (is_word c) ≡ true) × (below STATES (no_token c) ≡ true)
        facts = and_parts (not (is_word c)) (below STATES (no_token c)) (taken (is_blank c) (not (is_word c) && below STATES (no_token c)) e (below_at 128 ends_none c blanks_end_none (blank_small c e)))

        state : ℕ
        state = run START (d ∷ w)

        none : no_token c (run START (d ∷ w)) ≡ true
        none = below_at STATES (no_token c) (run START (d ∷ w)) facts.1 (run_small START (d ∷ w) (small_start START STATES refl))

        no_comment : token k ≡ kind_in (next_of (run START (d ∷ w)) c) → is_comment (kind_in (next_of (run START (d ∷ w)) c)) ≡ true → is_blank c ≡ false
        no_comment f g = absurd (nope (subst (λ (j : PieceKind). is_comment j ≡ true) (sym f) g))
          where
            nope : is_comment (token k) ≡ true → ⊥
            nope q = cc

        go : Rattle.go_scan.proofs.PieceKinds.Sort (token k) d (w ++ c ∷ []) → is_blank c ≡ false
        go (a_blank z _ _) = absurd cc
        go (a_letter _ l all) = clash (is_word c) (each_last is_word w c all) (not_true (is_word c) facts.0)
        go (a_lexeme _ _ form) =
            let runs = form_runs (token k) (d ∷ (w ++ c ∷ [])) form in
            let whole : is_whole (next_of (run START (d ∷ w)) c) ≡ true = subst (λ (s : ℕ). is_whole s ≡ true) (run_last START (d ∷ w) c) runs.0 in
            let kind : token k ≡ kind_in (next_of (run START (d ∷ w)) c) = subst (λ (s : ℕ). token k ≡ kind_in s) (run_last START (d ∷ w) c) runs.1 in
            no_comment kind (taken (is_whole (next_of (run START (d ∷ w)) c)) (is_comment (kind_in (next_of (run START (d ∷ w)) c))) whole none)

-- ---- bytes

-- no byte is a blank
abbrev Inks : List ℕ → Type 0
Inks [] = Unit {0}
Inks (b ∷ bs) = (is_blank b ≡ false) × Inks bs

encode_inks : (c : ℕ) → is_blank c ≡ false → Inks (encode c)
unfolding encode
encode_inks c e = by (nat_lt c 128) (nat_lt c 2048) (nat_lt c 65536)
  where
    by : (x y z : Bool) → Inks (cond x (c ∷ []) (cond y ((192 + c / 64) ∷ next c ∷ []) (cond z ((224 + c / 4096) ∷ next (c / 64) ∷ next c ∷ []) ((240 + c / 262144) ∷ next (c / 4096) ∷ next (c / 64) ∷ next c ∷ []))))
    by true y z = (e, tt)
    by false true z = (high (192 + c / 64) (omega arith), (high (next c) (omega arith), tt))
    by false false true = (high (224 + c / 4096) (omega arith), (high (next (c / 64)) (omega arith), (high (next c) (omega arith), tt)))
    by false false false = (high (240 + c / 262144) (omega arith), (high (next (c / 4096)) (omega arith), (high (next (c / 64)) (omega arith), (high (next c) (omega arith), tt))))

ink_at : (bs tail : List ℕ) (i : ℕ) → Inks bs → i < length bs → IsInk (bs ++ tail) i
ink_at [] tail i h lt = absurd (omega (arith, lt))
ink_at (b ∷ bs) tail zero h lt = h.0
ink_at (b ∷ bs) tail (suc i) h lt = ink_at bs tail i h.1 (omega (arith, lt))

ink_behind : (front bs tail : List ℕ) (i n : ℕ) → n ≡ length front + i → Inks bs → i < length bs → IsInk (front ++ (bs ++ tail)) n
ink_behind [] bs tail i n e h lt = subst (λ (m : ℕ). IsInk (bs ++ tail) m) (sym (omega (arith, e))) (ink_at bs tail i h lt)
ink_behind (x ∷ front) bs tail i zero e h lt = absurd (omega (arith, e))
ink_behind (x ∷ front) bs tail i (suc n) e h lt = ink_behind front bs tail i n (omega (arith, e)) h lt

-- ---- words

-- a word with its last character
record Last (w : List ℕ) : Type 0 where
  front : List ℕ
  last : ℕ
  whole : w ≡ front ++ last ∷ []

last_of : (c : ℕ) (cs : List ℕ) → Last (c ∷ cs)
last_of c [] = record { front = []; last = c; whole = refl }
last_of c (d ∷ cs) = let l : Last (d ∷ cs) = last_of d cs in record { front = c ∷ l.front; last = l.last; whole = ap (λ (xs : List ℕ). c ∷ xs) l.whole }

-- a piece of the text
module _ (text front : List ℕ) (at : ℕ) (at_is : length front ≡ at) (k : TokenKind) where
  word_starts : (w tail : List ℕ) → IsPiece (token k) w → text ≡ front ++ (encode_utf8_all w ++ tail) → IsInk text at
  word_starts [] tail piece e = absurd (never_empty (token k) piece)
  word_starts (c ∷ cs) tail piece e =
      let parts : text ≡ front ++ (encode c ++ (encode_utf8_all cs ++ tail)) = e ∙ ap (λ (xs : List ℕ). front ++ xs) (append_assoc (encode c) (encode_utf8_all cs) tail) in
      subst (λ (xs : List ℕ). IsInk xs at) (sym parts)
      (ink_behind front (encode c) (encode_utf8_all cs ++ tail) 0 at (omega (arith, at_is)) (encode_inks c (first_ink k c cs piece)) (omega (arith, length-encode c, (len_utf8_bounds c).0)))

  last_ends : (ws : List ℕ) (c : ℕ) (tail : List ℕ) (n : ℕ) → n ≡ at + size_of (ws ++ c ∷ []) → IsPiece (token k) (ws ++ c ∷ []) → text ≡ front ++ (encode_utf8_all (ws ++ c ∷ []) ++ tail) → IsInk text (n - 1)
  last_ends ws c tail n n_is piece e =
      let one : encode_utf8_all (ws ++ c ∷ []) ≡ encode_utf8_all ws ++ encode c = encodes-append ws (c ∷ []) ∙ ap (λ (xs : List ℕ). encode_utf8_all ws ++ xs) (append-nil (encode c)) in
      let parts : text ≡ (front ++ encode_utf8_all ws) ++ (encode c ++ tail) =
      e ∙ ap (λ (xs : List ℕ). front ++ (xs ++ tail)) one ∙ ap (λ (xs : List ℕ). front ++ xs) (append_assoc (encode_utf8_all ws) (encode c) tail) ∙ sym (append_assoc front (encode_utf8_all ws) (encode c ++ tail)) in
      let size : size_of (ws ++ c ∷ []) ≡ length (encode_utf8_all ws) + length (encode c) = ap length one ∙ length-append (encode_utf8_all ws) (encode c) in
      let some : 1 ≤ length (encode c) = omega (arith, length-encode c, (len_utf8_bounds c).0) in
      let before : length (front ++ encode_utf8_all ws) ≡ length front + length (encode_utf8_all ws) = length-append front (encode_utf8_all ws) in
      subst (λ (xs : List ℕ). IsInk xs (n - 1)) (sym parts)
      (ink_behind (front ++ encode_utf8_all ws) (encode c) tail (length (encode c) - 1) (n - 1) (omega (arith, n_is, size, some, before, at_is)) (encode_inks c (last_ink k ws c piece)) (omega (arith, some)))

  word_ends : (w tail : List ℕ) → IsPiece (token k) w → text ≡ front ++ (encode_utf8_all w ++ tail) → IsInk text ((at + size_of w) - 1)
  word_ends [] tail piece e = absurd (never_empty (token k) piece)
  word_ends (c ∷ cs) tail piece e =
      let l : Last (c ∷ cs) = last_of c cs in
      last_ends l.front l.last tail (at + size_of (c ∷ cs)) (ap (λ (xs : List ℕ). at + size_of xs) l.whole)
      (subst (λ (xs : List ℕ). IsPiece (token k) xs) l.whole piece) (e ∙ ap (λ (xs : List ℕ). front ++ (encode_utf8_all xs ++ tail)) l.whole)

  word_inked : (w tail : List ℕ) → IsPiece (token k) w → text ≡ front ++ (encode_utf8_all w ++ tail) → IsInked text (span_of at w)
  word_inked w tail piece e = (omega (arith, piece_size (token k) w piece), word_starts w tail piece e, word_ends w tail piece e)

-- ---- tokens

-- they stand in their order from an offset on, within the text; each that isn't inserted starts and ends with ink, and
-- is as long as its spelling
abbrev pub Stand : List ℕ → ℕ → List Token → Type 0
Stand text from [] = Unit {0}
Stand text from (t ∷ ts) =
    (from ≤ t.span.start) × (t.span.start ≤ t.span.end) × (t.span.end ≤ length text) × ((t.kind ≡ Inserted → ⊥) → IsInked text t.span × (t.span.end ≡ t.span.start + length t.spelling)) × Stand text t.span.end ts

-- from where the tokens may start, where a semicolon may be due
abbrev from_due : ℕ → Option ℕ → ℕ
from_due at None = at
from_due at (Some d) = d

abbrev DueFits : ℕ → Option ℕ → Type 0
DueFits at None = Unit {0}
DueFits at (Some d) = d ≤ at

module _ (text : List ℕ) where
  stand_lower : (m n : ℕ) (ts : List Token) → m ≤ n → Stand text n ts → Stand text m ts
  stand_lower m n [] le h = tt
  stand_lower m n (t ∷ ts) le h = (omega (arith, le, h.0), h.1, h.2, h.3, h.4)

  due_low : (at : ℕ) (due : Option ℕ) → DueFits at due → from_due at due ≤ at
  due_low at None fits = omega arith
  due_low at (Some d) fits = fits

  semicolon_stands : (d m : ℕ) (ts : List Token) → d ≤ m → m ≤ length text → Stand text m ts → Stand text d (inserted (Some d) ++ ts)
  semicolon_stands d m ts le in_text h = (omega arith, omega arith, omega (arith, le, in_text), (λ no. absurd (no refl)), stand_lower d m ts le h)

  newline_stands : (at : ℕ) (due : Option ℕ) (size : ℕ) (b : Bool) (ts : List Token) → DueFits at due → at + size ≤ length text
      → Stand text (from_due (at + size) (if b then None else due)) ts → Stand text (from_due at due) ((if b then inserted due else []) ++ ts)
  newline_stands at None size true ts fits le h = stand_lower at (at + size) ts (omega arith) h
  newline_stands at None size false ts fits le h = stand_lower at (at + size) ts (omega arith) h
  newline_stands at (Some d) size true ts fits le h = semicolon_stands d (at + size) ts (omega (arith, fits)) le h
  newline_stands at (Some d) size false ts fits le h = h

  due_newline : (at : ℕ) (due : Option ℕ) (size : ℕ) (b : Bool) → DueFits at due → DueFits (at + size) (if b then None else due)
  due_newline at None size true fits = tt
  due_newline at None size false fits = tt
  due_newline at (Some d) size true fits = tt
  due_newline at (Some d) size false fits = omega (arith, fits)

  due_token : (at size : ℕ) (b : Bool) → DueFits (at + size) (if b then Some (at + size) else None)
  due_token at size true = omega arith
  due_token at size false = tt

  from_token : (at size : ℕ) (b : Bool) (ts : List Token) → Stand text (from_due (at + size) (if b then Some (at + size) else None)) ts → Stand text (at + size) ts
  from_token at size true ts h = h
  from_token at size false ts h = h

  last_stands : (at : ℕ) (due : Option ℕ) → DueFits at due → at ≤ length text → Stand text (from_due at due) (inserted due)
  last_stands at None fits le = tt
  last_stands at (Some d) fits le = semicolon_stands d at [] fits le tt

  pieces_stand : (ps : List Piece) (front rest : List ℕ) (at : ℕ) (due : Option ℕ) → length front ≡ at → text ≡ front ++ encode_utf8_all rest → CutsTo rest ps [] → DueFits at due
      → Stand text (from_due at due) (tokens_from at due ps)
  unfolding tokens_from
  pieces_stand [] front rest at due at_is e cut fits = last_stands at due fits (omega (arith, ap length e, length-append front (encode_utf8_all rest), at_is))
  pieces_stand (p ∷ ps) front rest at due at_is e cut fits =
      by_kind p.kind cut.1.spelled
      (λ d f. pieces_stand ps (front ++ encode_utf8_all p.word) cut.0 (at + size_of p.word) d (length-append front (encode_utf8_all p.word) ∙ ap (λ (n : ℕ). n + size_of p.word) at_is) behind cut.2 f)
    where
      both : encode_utf8_all rest ≡ encode_utf8_all p.word ++ encode_utf8_all cut.0
      both = ap encode_utf8_all cut.1.parts ∙ encodes-append p.word cut.0

      parts : text ≡ front ++ (encode_utf8_all p.word ++ encode_utf8_all cut.0)
      parts = e ∙ ap (λ (xs : List ℕ). front ++ xs) both

      behind : text ≡ (front ++ encode_utf8_all p.word) ++ encode_utf8_all cut.0
      behind = parts ∙ sym (append_assoc front (encode_utf8_all p.word) (encode_utf8_all cut.0))

      in_text : at + size_of p.word ≤ length text
      in_text = omega (arith, ap length parts, length-append front (encode_utf8_all p.word ++ encode_utf8_all cut.0), length-append (encode_utf8_all p.word) (encode_utf8_all cut.0), at_is)

      by_kind : (k : PieceKind) → IsPiece k p.word
          → ((d : Option ℕ) → DueFits (at + size_of p.word) d → Stand text (from_due (at + size_of p.word) d) (tokens_from (at + size_of p.word) d ps))
          → Stand text (from_due at due) (tokens_at at due k p.word ++ tokens_from (at + size_of p.word) (due_after at due k p.word) ps)
      by_kind blanks piece ih =
          let b = is_listed p.word 10 in
          newline_stands at due (size_of p.word) b _ fits in_text (ih (if b then None else due) (due_newline at due (size_of p.word) b fits))
      by_kind remark piece ih =
          let b = is_listed p.word 10 in
          newline_stands at due (size_of p.word) b _ fits in_text (ih (if b then None else due) (due_newline at due (size_of p.word) b fits))
      by_kind (token k) piece ih =
          let b = ends_line k p.word in
          let d : Option ℕ = if b then Some (at + size_of p.word) else None in (
            due_low at due fits,
            omega arith,
            in_text,
            (λ no. (word_inked text front at at_is k p.word (encode_utf8_all cut.0) piece parts, refl)),
            from_token at (size_of p.word) b (tokens_from (at + size_of p.word) d ps) (ih d (due_token at (size_of p.word) b)),
          )

mark_stands : (text : List ℕ) (cs : List ℕ) (ps : List Piece) → encode_utf8_all cs ≡ text → CutsTo (after_mark cs) ps [] → Stand text 0 (tokens_from (mark_size cs) None ps)
mark_stands text [] ps e cut = pieces_stand text ps [] [] 0 None refl (sym e) cut tt
mark_stands text (c ∷ cs) ps e cut = by (c == byte_order_mark) cut
  where
    by : (b : Bool) → CutsTo (if b then cs else c ∷ cs) ps [] → Stand text 0 (tokens_from (if b then size_of (c ∷ []) else 0) None ps)
    by true cut = stand_lower text 0 (size_of (c ∷ [])) _ (omega arith) (pieces_stand text ps (encode_utf8_all (c ∷ [])) cs (size_of (c ∷ [])) None refl (sym e ∙ encodes-append (c ∷ []) cs) cut tt)
    by false cut = pieces_stand text ps [] (c ∷ cs) 0 None refl (sym e) cut tt

pub tokens_stand : (text : List ℕ) (tokens : List Token) (comments : List Comment) → TokensOf text tokens comments → Stand text 0 tokens
tokens_stand text tokens comments t = subst (λ (ts : List Token). Stand text 0 ts) (sym t.tokens_are) (mark_stands text t.characters t.pieces t.encoded t.cut)
