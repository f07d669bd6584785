-- What a token is before a letter or a sign with which it doesn't run together.
use Rattle.std.proofs.Common.{◌≡◌, ℕ, Bool, true, false, not, ◌&&◌, ◌||◌, nat_eq, nat_lt, ◌==◌, bytes_eq, List, [], ◌∷◌, ◌++◌, length, take, refl, sym, ap, subst, ◌∙◌, arith}
use Rattle.std.specs.Prelude.{encode_utf8_all, codes, if◌then◌else◌}
use Rattle.std.specs.Cmp.Lexicographic.{pointwise}
use Rattle.std.specs.List.{list_all, list_any, starts_with}
use Rattle.std.proofs.lemmas.Bool.Decides.{nat_tests}
use Rattle.std.proofs.lemmas.List.{append_assoc}
use Rattle.std.proofs.lemmas.Str.{encode_ascii}
use Rattle.go_tree.specs.declared.tokens.TokenKind.{TokenKind}
use Rattle.go_tree.specs.declared.tokens.TokenKind.TheVariants.{Ident, Keyword, Operator, Integer, Float, Imaginary, Rune, Str, Inserted}
use Rattle.go_tree.specs.GoWords.Tokens.Characters.{is_letter, is_listed, each}
use Rattle.go_tree.specs.GoWords.Tokens.Pieces.{PieceKind, blanks, token, operator_spellings, operator, may_precede, IsPiece, IsNext}
use Rattle.go_scan.specs.Automaton.{next_of, kind_in}
use Rattle.go_scan.specs.Unsupported.{is_unsupported}
use Rattle.go_scan.proofs.Derivatives.{and_parts, and_true}
use Rattle.go_scan.proofs.AutomatonLemmas.{below, below_at, run}
use Rattle.go_scan.proofs.LexemeLemmas.{form_runs}
use Rattle.go_scan.proofs.PieceKinds.{Sort, a_blank, a_letter, a_lexeme, sort_of}
use Rattle.go_layout.proofs.LayoutLaws.NextTokens.{START, DEAD, next_lexeme, next_name, next_keyword, lexeme_first}
use Rattle.run_rules.specs.Texts.{begins_word, is_longer_front, long_operators, run_together}
use Rattle.splice_laws.proofs.Ends.{or_cases, each_word, operator_passes}
use Rattle.splice_laws.proofs.Joins.{is_remark_kind, whole_state}
use Rattle.put_nodes.proofs.NamesApart.NamesApart.{is_number, letter_stops, letters_dead, letters_checked, dead_letter, letter_follows}
use Rattle.put_nodes.specs.FormsApart.Begins.{first_signs}
use Rattle.put_nodes.proofs.FormsApart.Beginnings.{letter_first, number_first, listed_passes, sign_no_word, sign_small}

clash : {X : Type 0} → (b : Bool) → b ≡ true → b ≡ false → X
clash b p q = absurd cc

nope : (b : Bool) → not b ≡ true → b ≡ true → ⊥
nope true p q = cc
nope false p q = cc

same_text : (xs ys : List ℕ) → bytes_eq xs ys ≡ true → xs ≡ ys
same_text [] [] h = refl
same_text [] (y ∷ ys) h = absurd cc
same_text (x ∷ xs) [] h = absurd cc
same_text (x ∷ xs) (y ∷ ys) h =
    let p = and_parts (nat_eq x y) (bytes_eq xs ys) h in
    ap (λ (z : ℕ). z ∷ xs) (same_number x y p.0) ∙ ap (λ (zs : List ℕ). y ∷ zs) (same_text xs ys p.1)
  where
    same_number : (a b : ℕ) → nat_eq a b ≡ true → a ≡ b
    same_number a b e = grind (arith, nat_tests, e)

-- ---- what runs together

-- words do
words_together : (a b : List ℕ) → begins_word a ≡ true → begins_word b ≡ true → run_together a b ≡ false → ⊥
words_together a b x y h = by_words (begins_word a) (begins_word b) (not (begins_word a) && list_any (is_longer_front a (a ++ b)) long_operators) x y h
  where
    by_words : (p q r : Bool) → p ≡ true → q ≡ true → (p && q) || r ≡ false → ⊥
    by_words true true r x y h = cc
    by_words true false r x y h = cc
    by_words false q r x y h = cc

-- what begins a text begins each longer one
front_stays : (o xs ys : List ℕ) → pointwise nat_eq o (take (length o) xs) ≡ true → pointwise nat_eq o (take (length o) (xs ++ ys)) ≡ true
front_stays [] xs ys h = refl
front_stays (c ∷ o) [] ys h = absurd cc
front_stays (c ∷ o) (x ∷ xs) ys h =
    let p = and_parts (nat_eq c x) (pointwise nat_eq o (take (length o) xs)) h in
    and_true (nat_eq c x) (pointwise nat_eq o (take (length o) (xs ++ ys))) p.0 (front_stays o xs ys p.1)

longer_stays : (a b more : List ℕ) (os : List (List ℕ)) → list_any (is_longer_front a (a ++ b)) os ≡ true → list_any (is_longer_front a (a ++ (b ++ more))) os ≡ true
longer_stays a b more [] h = h
longer_stays a b more (o ∷ os) h =
    by_first (is_longer_front a (a ++ b) o) (is_longer_front a (a ++ (b ++ more)) o) one (λ q. longer_stays a b more os q) h
  where
    one : is_longer_front a (a ++ b) o ≡ true → is_longer_front a (a ++ (b ++ more)) o ≡ true
    one q =
        let p = and_parts (nat_lt (length a) (length o)) (starts_with nat_eq (a ++ b) o) q in
        and_true (nat_lt (length a) (length o)) (starts_with nat_eq (a ++ (b ++ more)) o) p.0
        (subst (λ (v : List ℕ). starts_with nat_eq v o ≡ true) (append_assoc a b more) (front_stays o (a ++ b) more p.1))

    by_first : (p q : Bool) → (p ≡ true → q ≡ true) → (list_any (is_longer_front a (a ++ b)) os ≡ true → list_any (is_longer_front a (a ++ (b ++ more))) os ≡ true)
        → p || list_any (is_longer_front a (a ++ b)) os ≡ true → q || list_any (is_longer_front a (a ++ (b ++ more))) os ≡ true
    by_first true q f later h = rw (f refl) refl
    by_first false true f later h = refl
    by_first false false f later h = later h

-- with more behind them
more_together : (a : List ℕ) (c : ℕ) (cs : List ℕ) → run_together a (c ∷ []) ≡ true → run_together a (c ∷ cs) ≡ true
more_together a c cs h =
    by_parts (begins_word a) (begins_word (c ∷ [])) (list_any (is_longer_front a (a ++ c ∷ [])) long_operators) (list_any (is_longer_front a (a ++ c ∷ cs)) long_operators)
    (λ q. longer_stays a (c ∷ []) cs long_operators q) h
  where
    by_parts : (p q r s : Bool) → (r ≡ true → s ≡ true) → (p && q) || (not p && r) ≡ true → (p && q) || (not p && s) ≡ true
    by_parts true true r s f h = refl
    by_parts true false r s f h = absurd cc
    by_parts false q r s f h = f h

-- ---- before a letter

no_number : (k : TokenKind) (x : ℕ) (xs : List ℕ) → IsPiece (token k) (x ∷ xs) → is_unsupported k (encode_utf8_all (x ∷ xs)) ≡ false → (begins_word (encode_utf8_all (x ∷ xs)) ≡ true → ⊥) → is_number (token k) ≡ true → ⊥
no_number Integer x xs piece known off q = off (number_first x xs piece)
no_number Float x xs piece known off q = cc
no_number Imaginary x xs piece known off q = cc
no_number Ident x xs piece known off q = cc
no_number Keyword x xs piece known off q = cc
no_number Operator x xs piece known off q = cc
no_number Rune x xs piece known off q = cc
no_number Str x xs piece known off q = cc
no_number Inserted x xs piece known off q = cc

pub before_letter : (k : TokenKind) (x : ℕ) (xs : List ℕ) (d : ℕ) (others : List ℕ) → IsPiece (token k) (x ∷ xs) → is_unsupported k (encode_utf8_all (x ∷ xs)) ≡ false
    → run_together (encode_utf8_all (x ∷ xs)) (encode_utf8_all (d ∷ others)) ≡ false → is_letter d ≡ true → IsNext (x ∷ xs ++ d ∷ others) (token k) (x ∷ xs) (d ∷ others)
before_letter k x xs d others piece known apart l = by_sort (sort_of (token k) x xs piece)
  where
    no_word : begins_word (encode_utf8_all (x ∷ xs)) ≡ true → ⊥
    no_word h = words_together (encode_utf8_all (x ∷ xs)) (encode_utf8_all (d ∷ others)) h (letter_first d others l) apart

    no_blanks : token k ≡ blanks → ⊥
    no_blanks e = cc

    no_remark : is_remark_kind (token k) ≡ true → ⊥
    no_remark e = cc

    none : is_number (token k) ≡ true → ⊥
    none q = no_number k x xs piece known no_word q

    by_sort : Sort (token k) x xs → IsNext (x ∷ xs ++ d ∷ others) (token k) (x ∷ xs) (d ∷ others)
    by_sort (a_blank e _ _) = absurd (no_blanks e)
    by_sort (a_letter _ y h) = absurd (no_word (letter_first x xs y))
    by_sort (a_lexeme b y form) =
        let facts = form_runs (token k) (x ∷ xs) form in
        let at = whole_state (run START (x ∷ xs)) facts.0 in
        let dead : nat_eq (next_of (run START (x ∷ xs)) d) DEAD ≡ true =
        or_cases (nat_lt (run START (x ∷ xs)) 2) (letter_stops (run START (x ∷ xs))) (below_at 28 (λ s. nat_lt s 2 || letter_stops s) (run START (x ∷ xs)) letters_checked at.0)
        (λ q. clash (nat_lt (run START (x ∷ xs)) 2) q at.1)
        (λ q. or_cases (is_number (kind_in (run START (x ∷ xs)))) (is_remark_kind (kind_in (run START (x ∷ xs))) || letters_dead (run START (x ∷ xs))) q
        (λ r. absurd (none (subst (λ (j : PieceKind). is_number j ≡ true) (sym facts.1) r)))
        (λ r. or_cases (is_remark_kind (kind_in (run START (x ∷ xs)))) (letters_dead (run START (x ∷ xs))) r
        (λ t. absurd (no_remark (subst (λ (j : PieceKind). is_remark_kind j ≡ true) (sym facts.1) t)))
        (λ t. dead_letter (run START (x ∷ xs)) d t l))) in
        next_lexeme (token k) x xs (d ∷ others) b y piece dead (letter_follows k (x ∷ xs) d others none l)

-- ---- before a sign

abbrev is_operator : PieceKind → Bool
is_operator (token Operator) = true
is_operator _ = false

-- the automaton reads no sign behind a whole number, rune or string
abbrev signs_dead : ℕ → Bool
signs_dead s = list_all (λ c. nat_eq (next_of s c) DEAD) first_signs

abbrev sign_stops : ℕ → Bool
sign_stops s = is_operator (kind_in s) || (is_remark_kind (kind_in s) || signs_dead s)

signs_checked : below 28 (λ s. nat_lt s 2 || sign_stops s) ≡ true
unfolding below next_of
signs_checked = refl

-- an operator ends before a sign, or runs together with it
abbrev settles : List ℕ → ℕ → Bool
settles o c = run_together o (c ∷ []) || (nat_eq (next_of (run START o) c) DEAD && may_precede (token Operator) o (c ∷ []))

abbrev parts_sign : List ℕ → Bool
parts_sign o = bytes_eq (encode_utf8_all o) o && list_all (settles o) first_signs

operators_part : each_word parts_sign operator_spellings ≡ true
unfolding operator_spellings next_of lib.Utf8.encode
operators_part = refl

sign_word : (c : ℕ) (cs : List ℕ) → is_listed first_signs c ≡ true → encode_utf8_all (c ∷ cs) ≡ c ∷ encode_utf8_all cs
sign_word c cs h = ap (λ (v : List ℕ). v ++ encode_utf8_all cs) (encode_ascii c (sign_small c h))

star_stays : (c : ℕ) (cs w : List ℕ) → may_precede (token Operator) w (c ∷ []) ≡ true → may_precede (token Operator) w (c ∷ cs) ≡ true
star_stays c cs w h = by_slash (bytes_eq w (codes "/")) h
  where
    by_slash : (b : Bool) → (if b then not (c == 42) else true) ≡ true → (if b then not (c == 42) else true) ≡ true
    by_slash b h = h

operator_before : (x : ℕ) (xs : List ℕ) (c : ℕ) (cs : List ℕ) → IsPiece (token Operator) (x ∷ xs)
    → run_together (encode_utf8_all (x ∷ xs)) (encode_utf8_all (c ∷ cs)) ≡ false → is_listed first_signs c ≡ true → IsNext (x ∷ xs ++ c ∷ cs) (token Operator) (x ∷ xs) (c ∷ cs)
unfolding operator
operator_before x xs c cs piece apart h =
    let passed = operator_passes parts_sign operator_spellings (x ∷ xs) operators_part piece in
    let p = and_parts (bytes_eq (encode_utf8_all (x ∷ xs)) (x ∷ xs)) (list_all (settles (x ∷ xs)) first_signs) passed in
    let settled = listed_passes (settles (x ∷ xs)) first_signs c p.1 h in
    let first = lexeme_first (token Operator) x xs refl piece in
    or_cases (run_together (x ∷ xs) (c ∷ [])) (nat_eq (next_of (run START (x ∷ xs)) c) DEAD && may_precede (token Operator) (x ∷ xs) (c ∷ [])) settled
    (λ q. clash (run_together (x ∷ xs) (c ∷ encode_utf8_all cs)) (more_together (x ∷ xs) c (encode_utf8_all cs) q)
    (subst (λ (v : List ℕ). run_together v (c ∷ encode_utf8_all cs) ≡ false) (same_text (encode_utf8_all (x ∷ xs)) (x ∷ xs) p.0)
    (subst (λ (v : List ℕ). run_together (encode_utf8_all (x ∷ xs)) v ≡ false) (sign_word c cs h) apart)))
    (λ q. let r = and_parts (nat_eq (next_of (run START (x ∷ xs)) c) DEAD) (may_precede (token Operator) (x ∷ xs) (c ∷ [])) q in
    next_lexeme (token Operator) x xs (c ∷ cs) first.0 first.1 piece r.0 (star_stays c cs (x ∷ xs) r.1))

literal_before : (k : TokenKind) (x : ℕ) (xs : List ℕ) (c : ℕ) (cs : List ℕ) → is_operator (token k) ≡ false → IsPiece (token k) (x ∷ xs) → is_letter x ≡ false
    → is_listed first_signs c ≡ true → may_precede (token k) (x ∷ xs) (c ∷ cs) ≡ true → IsNext (x ∷ xs ++ c ∷ cs) (token k) (x ∷ xs) (c ∷ cs)
literal_before k x xs c cs off piece no_letter h follows = by_sort (sort_of (token k) x xs piece)
  where
    no_blanks : token k ≡ blanks → ⊥
    no_blanks e = cc

    no_remark : is_remark_kind (token k) ≡ true → ⊥
    no_remark e = cc

    by_sort : Sort (token k) x xs → IsNext (x ∷ xs ++ c ∷ cs) (token k) (x ∷ xs) (c ∷ cs)
    by_sort (a_blank e _ _) = absurd (no_blanks e)
    by_sort (a_letter _ y _) = clash (is_letter x) y no_letter
    by_sort (a_lexeme b y form) =
        let facts = form_runs (token k) (x ∷ xs) form in
        let at = whole_state (run START (x ∷ xs)) facts.0 in
        let dead : nat_eq (next_of (run START (x ∷ xs)) c) DEAD ≡ true =
        or_cases (nat_lt (run START (x ∷ xs)) 2) (sign_stops (run START (x ∷ xs))) (below_at 28 (λ s. nat_lt s 2 || sign_stops s) (run START (x ∷ xs)) signs_checked at.0)
        (λ q. clash (nat_lt (run START (x ∷ xs)) 2) q at.1)
        (λ q. or_cases (is_operator (kind_in (run START (x ∷ xs)))) (is_remark_kind (kind_in (run START (x ∷ xs))) || signs_dead (run START (x ∷ xs))) q
        (λ r. clash (is_operator (token k)) (subst (λ (j : PieceKind). is_operator j ≡ true) (sym facts.1) r) off)
        (λ r. or_cases (is_remark_kind (kind_in (run START (x ∷ xs)))) (signs_dead (run START (x ∷ xs))) r
        (λ t. absurd (no_remark (subst (λ (j : PieceKind). is_remark_kind j ≡ true) (sym facts.1) t)))
        (λ t. listed_passes (λ c. nat_eq (next_of (run START (x ∷ xs)) c) DEAD) first_signs c t h))) in
        next_lexeme (token k) x xs (c ∷ cs) b y piece dead follows

pub before_sign : (k : TokenKind) (x : ℕ) (xs : List ℕ) (c : ℕ) (cs : List ℕ) → IsPiece (token k) (x ∷ xs) → is_unsupported k (encode_utf8_all (x ∷ xs)) ≡ false
    → run_together (encode_utf8_all (x ∷ xs)) (encode_utf8_all (c ∷ cs)) ≡ false → is_listed first_signs c ≡ true → IsNext (x ∷ xs ++ c ∷ cs) (token k) (x ∷ xs) (c ∷ cs)
before_sign Ident x xs c cs piece known apart h = next_name (x ∷ xs) (c ∷ cs) piece (sign_no_word c h)
before_sign Keyword x xs c cs piece known apart h = next_keyword (x ∷ xs) (c ∷ cs) piece (sign_no_word c h)
before_sign Operator x xs c cs piece known apart h = operator_before x xs c cs piece apart h
before_sign Integer x xs c cs piece known apart h = literal_before Integer x xs c cs refl piece (lexeme_first (token Integer) x xs refl piece).1 h (sign_no_word c h)
before_sign Rune x xs c cs piece known apart h = literal_before Rune x xs c cs refl piece (lexeme_first (token Rune) x xs refl piece).1 h refl
before_sign Str x xs c cs piece known apart h = literal_before Str x xs c cs refl piece (lexeme_first (token Str) x xs refl piece).1 h refl
before_sign Float x xs c cs piece known apart h = absurd cc
before_sign Imaginary x xs c cs piece known apart h = absurd cc
before_sign Inserted x xs c cs piece known apart h = absurd piece
