-- Comments, operators, numbers, runes and strings are the words that the automaton knows.
use Rattle.std.proofs.Common.{◌≡◌, ℕ, Bool, true, ◌&&◌, nat_eq, List, [], ◌∷◌, get_or, refl, sym, ap, ◌∙◌, arith}
use Rattle.std.proofs.lemmas.Bool.Decides.{nat_tests}
use Rattle.go_tree.specs.declared.tokens.TokenKind.TheVariants.{Ident, Keyword, Operator, Integer, Float, Imaginary, Rune, Str, Inserted}
use Rattle.go_tree.specs.GoWords.Tokens.Forms.{Form, nothing, HasForm}
use Rattle.go_tree.specs.GoWords.Tokens.Literals.{int_lit, float_lit, imaginary_lit, rune_lit, string_lit, comment}
use Rattle.go_tree.specs.GoWords.Tokens.Pieces.{PieceKind, blanks, remark, token, operator, operator_spellings, IsPiece}
use Rattle.go_scan.specs.declared.automaton.TheConstants.{NEXT, START, DEAD, CLASSES}
use Rattle.go_scan.specs.Automaton.{class_of, next_of, is_whole, kind_in}
use Rattle.go_scan.proofs.Derivatives.{has_form, form_matches, has_nothing, and_parts, and_true}
use Rattle.go_scan.proofs.AutomatonLemmas.{below, below_at, follows, sorts, accepts, run, matches_run, class_small}

-- the form of the pieces of a kind that the automaton knows
abbrev pub form_of : PieceKind → Form
form_of remark = comment
form_of (token Operator) = operator
form_of (token Integer) = int_lit
form_of (token Float) = float_lit
form_of (token Imaginary) = imaginary_lit
form_of (token Rune) = rune_lit
form_of (token Str) = string_lit
form_of _ = nothing

abbrev number_of : PieceKind → ℕ
number_of blanks = 0
number_of remark = 1
number_of (token Ident) = 2
number_of (token Keyword) = 3
number_of (token Operator) = 4
number_of (token Integer) = 5
number_of (token Float) = 6
number_of (token Imaginary) = 7
number_of (token Rune) = 8
number_of (token Str) = 9
number_of (token Inserted) = 10

abbrev numbered : ℕ → PieceKind
numbered n = get_or (blanks ∷ remark ∷ token Ident ∷ token Keyword ∷ token Operator ∷ token Integer ∷ token Float ∷ token Imaginary ∷ token Rune ∷ token Str ∷ token Inserted ∷ []) n blanks

numbered_number : (k : PieceKind) → numbered (number_of k) ≡ k
numbered_number blanks = refl
numbered_number remark = refl
numbered_number (token Ident) = refl
numbered_number (token Keyword) = refl
numbered_number (token Operator) = refl
numbered_number (token Integer) = refl
numbered_number (token Float) = refl
numbered_number (token Imaginary) = refl
numbered_number (token Rune) = refl
numbered_number (token Str) = refl
numbered_number (token Inserted) = refl

same_kind : (j k : PieceKind) → nat_eq (number_of j) (number_of k) ≡ true → j ≡ k
same_kind j k e =
    let numbers = same_number (number_of j) (number_of k) e in
    sym (numbered_number j) ∙ ap numbered numbers ∙ numbered_number k
  where
    same_number : (a b : ℕ) → nat_eq a b ≡ true → a ≡ b
    same_number a b e = grind (arith, nat_tests, e)

-- the state stands after whole words of the kind
abbrev passes : PieceKind → ℕ → Bool
passes k state = is_whole state && nat_eq (number_of (kind_in state)) (number_of k)

record IsKnown (k : PieceKind) : Type 0 where
  kept : follows (form_of k) ≡ true
  sorted : sorts (form_of k) ≡ true
  accepted : accepts (form_of k) (passes k) ≡ true

known_remark : IsKnown (remark)
unfolding follows sorts accepts comment
known_remark = record { kept = refl; sorted = refl; accepted = refl }

known_operator : IsKnown (token Operator)
unfolding follows sorts accepts operator operator_spellings
known_operator = record { kept = refl; sorted = refl; accepted = refl }

known_integer : IsKnown (token Integer)
unfolding follows sorts accepts int_lit
known_integer = record { kept = refl; sorted = refl; accepted = refl }

known_float : IsKnown (token Float)
unfolding follows sorts accepts float_lit
known_float = record { kept = refl; sorted = refl; accepted = refl }

known_imaginary : IsKnown (token Imaginary)
unfolding follows sorts accepts imaginary_lit int_lit float_lit
known_imaginary = record { kept = refl; sorted = refl; accepted = refl }

known_rune : IsKnown (token Rune)
unfolding follows sorts accepts rune_lit
known_rune = record { kept = refl; sorted = refl; accepted = refl }

known_string : IsKnown (token Str)
unfolding follows sorts accepts string_lit
known_string = record { kept = refl; sorted = refl; accepted = refl }

known_blanks : IsKnown (blanks)
unfolding follows sorts accepts
known_blanks = record { kept = refl; sorted = refl; accepted = refl }

known_ident : IsKnown (token Ident)
unfolding follows sorts accepts
known_ident = record { kept = refl; sorted = refl; accepted = refl }

known_keyword : IsKnown (token Keyword)
unfolding follows sorts accepts
known_keyword = record { kept = refl; sorted = refl; accepted = refl }

known_inserted : IsKnown (token Inserted)
unfolding follows sorts accepts
known_inserted = record { kept = refl; sorted = refl; accepted = refl }

known : (k : PieceKind) → IsKnown k
known blanks = known_blanks
known remark = known_remark
known (token Ident) = known_ident
known (token Keyword) = known_keyword
known (token Operator) = known_operator
known (token Integer) = known_integer
known (token Float) = known_float
known (token Imaginary) = known_imaginary
known (token Rune) = known_rune
known (token Str) = known_string
known (token Inserted) = known_inserted

-- a word of a kind's form takes the automaton to a state of that kind
pub form_runs : (k : PieceKind) (w : List ℕ) → HasForm (form_of k) w → (is_whole (run START w) ≡ true) × (k ≡ kind_in (run START w))
form_runs k w h =
    let known_k = known k in
    let whole = sym (matches_run (form_of k) (passes k) w known_k.kept known_k.sorted known_k.accepted) ∙ form_matches (form_of k) w h in
    let parts = and_parts (is_whole (run START w)) (nat_eq (number_of (kind_in (run START w))) (number_of k)) whole in
    (parts.0, sym (same_kind (kind_in (run START w)) k parts.1))

-- and a word that takes it to such a state has the form
pub runs_form : (w : List ℕ) → is_whole (run START w) ≡ true → HasForm (form_of (kind_in (run START w))) w
runs_form w whole =
    let k : PieceKind = kind_in (run START w) in
    let known_k = known k in
    has_form (form_of k) w (matches_run (form_of k) (passes k) w known_k.kept known_k.sorted known_k.accepted
    ∙ and_true (is_whole (run START w)) (nat_eq (number_of k) (number_of k)) whole (same_self (number_of k)))
  where
    same_self : (a : ℕ) → nat_eq a a ≡ true
    same_self a = grind (arith, nat_tests)

-- ---- the dead state

dead_stays : below CLASSES (λ class. nat_eq (get_or (get_or NEXT DEAD []) class 0) DEAD) ≡ true
unfolding below
dead_stays = refl

pub next_dead : (c : ℕ) → next_of DEAD c ≡ DEAD
unfolding next_of
next_dead c = same_number (next_of DEAD c) DEAD (below_at CLASSES (λ class. nat_eq (get_or (get_or NEXT DEAD []) class 0) DEAD) (class_of c) dead_stays (class_small c))
  where
    same_number : (a b : ℕ) → nat_eq a b ≡ true → a ≡ b
    same_number a b e = grind (arith, nat_tests, e)

pub run_dead : (w : List ℕ) → run DEAD w ≡ DEAD
run_dead [] = refl
run_dead (c ∷ w) = ap (λ (s : ℕ). run s w) (next_dead c) ∙ run_dead w

-- a piece is spelled by the form of its kind, where the automaton knows that
pub to_piece : (k : PieceKind) (w : List ℕ) → HasForm (form_of k) w → IsPiece k w
to_piece blanks w h = absurd (has_nothing w h)
to_piece remark w h = h
to_piece (token Ident) w h = absurd (has_nothing w h)
to_piece (token Keyword) w h = absurd (has_nothing w h)
to_piece (token Operator) w h = h
to_piece (token Integer) w h = h
to_piece (token Float) w h = h
to_piece (token Imaginary) w h = h
to_piece (token Rune) w h = h
to_piece (token Str) w h = h
to_piece (token Inserted) w h = absurd (has_nothing w h)
