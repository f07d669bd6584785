-- A piece is the next one of a text, where what follows doesn't go on with it.
use Rattle.std.proofs.Common.{◌≡◌, ℕ, ◌≤◌, Bool, true, false, cond, not, nat_eq, List, [], ◌∷◌, ◌++◌, length, refl, sym, ap, subst, ◌∙◌, arith}
use Rattle.std.proofs.lemmas.Bool.Decides.{nat_tests}
use Rattle.go_tree.specs.declared.tokens.TokenKind.TheVariants.{Ident, Keyword, Operator, Integer, Rune, Str}
use Rattle.go_tree.specs.GoWords.Tokens.Characters.{is_letter, is_word, is_blank, each}
use Rattle.go_tree.specs.GoWords.Tokens.Pieces.{PieceKind, blanks, token, keyword_spellings, is_among, no_word_first, may_precede, IsPiece, IsNext}
use Rattle.go_scan.specs.Automaton.{next_of, is_whole}
use Rattle.go_scan.proofs.Derivatives.{and_parts}
use Rattle.go_scan.proofs.AutomatonLemmas.{run}
use Rattle.go_scan.proofs.LexemeLemmas.{form_runs, run_dead}
use Rattle.go_scan.proofs.PieceKinds.{Sort, a_blank, a_letter, a_lexeme, sort_of, never_empty, blank_no_letter, keyword_identifier}

-- a front of a text that begins with a word is within the word, or goes on with what follows it
-- the automaton's first state, and the one from which no word is read
abbrev pub START : ℕ
START = 1

abbrev pub DEAD : ℕ
DEAD = 0

data Front (w more front : List ℕ) : Type 0 where
  within_word : length front ≤ length w → Front w more front
  goes_on : (d : ℕ) (fs ms : List ℕ) → more ≡ d ∷ ms → front ≡ w ++ d ∷ fs → Front w more front

front_of : (w more front rest : List ℕ) → w ++ more ≡ front ++ rest → Front w more front
front_of [] more [] rest e = within_word (omega arith)
front_of [] more (d ∷ fs) rest e = goes_on d fs (fs ++ rest) e refl
front_of (c ∷ w) more [] rest e = within_word (omega arith)
front_of (c ∷ w) more (d ∷ fs) rest e =
    let head : c ≡ d = cc in
    let tail : w ++ more ≡ fs ++ rest = cc in
    wider (front_of w more fs rest tail) head
  where
    wider : Front w more fs → c ≡ d → Front (c ∷ w) more (d ∷ fs)
    wider (within_word h) e = within_word (omega (arith, h))
    wider (goes_on x xs ms p q) e = goes_on x xs ms p (ap (λ (t : List ℕ). d ∷ t) q ∙ ap (λ (n : ℕ). n ∷ (w ++ x ∷ xs)) (sym e))

clash : {X : Type 0} (b : Bool) → b ≡ true → b ≡ false → X
clash b p q = absurd cc

run_on : (s : ℕ) (w v : List ℕ) → run s (w ++ v) ≡ run (run s w) v
run_on s [] v = refl
run_on s (c ∷ w) v = run_on (next_of s c) w v

-- nothing comes first that would lead on from this state
abbrev pub stops : ℕ → List ℕ → Bool
stops s [] = true
stops s (d ∷ ds) = nat_eq (next_of s d) DEAD

same_number : (a b : ℕ) → nat_eq a b ≡ true → a ≡ b
same_number a b e = grind (arith, nat_tests, e)

abbrev pub no_blank_first : List ℕ → Bool
no_blank_first [] = true
no_blank_first (c ∷ cs) = not (is_blank c)

not_true : (b : Bool) → not b ≡ true → b ≡ false
not_true true h = absurd cc
not_true false h = refl

-- ---- operators and literals

lexeme_ends : (k : PieceKind) (c d : ℕ) (cs fs : List ℕ) → is_blank c ≡ false → is_letter c ≡ false → next_of (run START (c ∷ cs)) d ≡ DEAD → IsPiece k (c ∷ cs ++ d ∷ fs) → ⊥
lexeme_ends k c d cs fs blank letter dead piece = by_sort (sort_of k c (cs ++ d ∷ fs) piece)
  where
    nope : is_whole DEAD ≡ true → ⊥
    nope e = cc

    by_sort : Sort k c (cs ++ d ∷ fs) → ⊥
    by_sort (a_blank _ b _) = clash (is_blank c) b blank
    by_sort (a_letter _ l _) = clash (is_letter c) l letter
    by_sort (a_lexeme _ _ form) =
        let whole = (form_runs k (c ∷ cs ++ d ∷ fs) form).0 in
        let ends : run START (c ∷ cs ++ d ∷ fs) ≡ DEAD = run_on START (c ∷ cs) (d ∷ fs) ∙ ap (λ (s : ℕ). run s fs) dead ∙ run_dead fs in
        nope (subst (λ (s : ℕ). is_whole s ≡ true) ends whole)

pub next_lexeme : (k : PieceKind) (c : ℕ) (cs more : List ℕ) → is_blank c ≡ false → is_letter c ≡ false → IsPiece k (c ∷ cs) → stops (run START (c ∷ cs)) more ≡ true
    → may_precede k (c ∷ cs) more ≡ true → IsNext (c ∷ cs ++ more) k (c ∷ cs) more
next_lexeme k c cs more blank letter piece dead follows = record {
  parts = refl;
  spelled = piece;
  longest = λ j front rest e p. short j front (front_of (c ∷ cs) more front rest e) p;
  follows = follows;
}
  where
    short : (j : PieceKind) (front : List ℕ) → Front (c ∷ cs) more front → IsPiece j front → length front ≤ length (c ∷ cs)
    short j front (within_word h) p = h
    short j front (goes_on d fs ms x y) p =
        let stop : nat_eq (next_of (run START (c ∷ cs)) d) DEAD ≡ true = subst (λ (m : List ℕ). stops (run START (c ∷ cs)) m ≡ true) x dead in
        absurd (lexeme_ends j c d cs fs blank letter (same_number (next_of (run START (c ∷ cs)) d) DEAD stop) (subst (λ (t : List ℕ). IsPiece j t) y p))

-- ---- identifiers and keywords

each_last : (p : ℕ → Bool) (cs fs : List ℕ) (d : ℕ) → each p (cs ++ d ∷ fs) ≡ true → p d ≡ true
each_last p [] fs d h = (and_parts (p d) (each p fs) h).0
each_last p (c ∷ cs) fs d h = each_last p cs fs d (and_parts (p c) (each p (cs ++ d ∷ fs)) h).1

word_ends : (k : PieceKind) (c d : ℕ) (cs fs : List ℕ) → is_letter c ≡ true → is_word d ≡ false → IsPiece k (c ∷ cs ++ d ∷ fs) → ⊥
word_ends k c d cs fs letter off piece = by_sort (sort_of k c (cs ++ d ∷ fs) piece)
  where
    by_sort : Sort k c (cs ++ d ∷ fs) → ⊥
    by_sort (a_blank _ b _) = clash (is_letter c) letter (blank_no_letter c b)
    by_sort (a_letter _ _ h) = clash (is_word d) (each_last is_word cs fs d h) off
    by_sort (a_lexeme _ l _) = clash (is_letter c) letter l

next_word : (k : PieceKind) (c : ℕ) (cs more : List ℕ) → is_letter c ≡ true → IsPiece k (c ∷ cs) → no_word_first more ≡ true → may_precede k (c ∷ cs) more ≡ true → IsNext (c ∷ cs ++ more) k (c ∷ cs) more
next_word k c cs more letter piece off follows = record {
  parts = refl;
  spelled = piece;
  longest = λ j front rest e p. short j front (front_of (c ∷ cs) more front rest e) p;
  follows = follows;
}
  where
    short : (j : PieceKind) (front : List ℕ) → Front (c ∷ cs) more front → IsPiece j front → length front ≤ length (c ∷ cs)
    short j front (within_word h) p = h
    short j front (goes_on d fs ms x y) p =
        let stop : not (is_word d) ≡ true = subst (λ (m : List ℕ). no_word_first m ≡ true) x off in
        absurd (word_ends j c d cs fs letter (not_true (is_word d) stop) (subst (λ (t : List ℕ). IsPiece j t) y p))

pub next_name : (w more : List ℕ) → IsPiece (token Ident) w → no_word_first more ≡ true → IsNext (w ++ more) (token Ident) w more
next_name [] more piece off = absurd (never_empty (token Ident) piece)
next_name (c ∷ cs) more piece off = next_word (token Ident) c cs more (and_parts (is_letter c) (each is_word cs) piece.0).0 piece off refl

pub next_keyword : (w more : List ℕ) → is_among keyword_spellings w ≡ true → no_word_first more ≡ true → IsNext (w ++ more) (token Keyword) w more
next_keyword [] more piece off = absurd (never_empty (token Keyword) piece)
next_keyword (c ∷ cs) more piece off = next_word (token Keyword) c cs more (and_parts (is_letter c) (each is_word cs) (keyword_identifier (c ∷ cs) piece)).0 piece off refl

-- ---- blanks

blanks_end : (k : PieceKind) (c d : ℕ) (cs fs : List ℕ) → is_blank c ≡ true → is_blank d ≡ false → IsPiece k (c ∷ cs ++ d ∷ fs) → ⊥
blanks_end k c d cs fs blank off piece = by_sort (sort_of k c (cs ++ d ∷ fs) piece)
  where
    by_sort : Sort k c (cs ++ d ∷ fs) → ⊥
    by_sort (a_blank _ _ h) = clash (is_blank d) (each_last is_blank cs fs d h) off
    by_sort (a_letter _ l _) = clash (is_letter c) l (blank_no_letter c blank)
    by_sort (a_lexeme b _ _) = clash (is_blank c) blank b

pub next_blanks : (c : ℕ) (cs more : List ℕ) → is_blank c ≡ true → each is_blank cs ≡ true → no_blank_first more ≡ true → IsNext (c ∷ cs ++ more) blanks (c ∷ cs) more
next_blanks c cs more blank others off = record {
  parts = refl;
  spelled = rw (blank, others) refl;
  longest = λ j front rest e p. short j front (front_of (c ∷ cs) more front rest e) p;
  follows = refl;
}
  where
    short : (j : PieceKind) (front : List ℕ) → Front (c ∷ cs) more front → IsPiece j front → length front ≤ length (c ∷ cs)
    short j front (within_word h) p = h
    short j front (goes_on d fs ms x y) p =
        let stop : not (is_blank d) ≡ true = subst (λ (m : List ℕ). no_blank_first m ≡ true) x off in
        absurd (blanks_end j c d cs fs blank (not_true (is_blank d) stop) (subst (λ (t : List ℕ). IsPiece j t) y p))

-- ---- the first character of a token

abbrev pub is_lexeme : PieceKind → Bool
is_lexeme (token Operator) = true
is_lexeme (token Integer) = true
is_lexeme (token Rune) = true
is_lexeme (token Str) = true
is_lexeme _ = false

pub lexeme_first : (k : PieceKind) (c : ℕ) (cs : List ℕ) → is_lexeme k ≡ true → IsPiece k (c ∷ cs) → (is_blank c ≡ false) × (is_letter c ≡ false)
lexeme_first k c cs q piece = by_sort (sort_of k c cs piece)
  where
    nope : is_lexeme blanks ≡ true → ⊥
    nope e = cc

    no_word : (b : Bool) → is_lexeme (cond b (token Keyword) (token Ident)) ≡ true → ⊥
    no_word true e = cc
    no_word false e = cc

    by_sort : Sort k c cs → (is_blank c ≡ false) × (is_letter c ≡ false)
    by_sort (a_blank e _ _) = absurd (nope (subst (λ (j : PieceKind). is_lexeme j ≡ true) e q))
    by_sort (a_letter e _ _) = absurd (no_word (is_among keyword_spellings (c ∷ cs)) (subst (λ (j : PieceKind). is_lexeme j ≡ true) e q))
    by_sort (a_lexeme b l _) = (b, l)
