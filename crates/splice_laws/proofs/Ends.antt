-- A piece ends where it does whatever stands behind the next character, but for an integer or a dot before a dot.
use Rattle.std.proofs.Common.{◌≡◌, ◌⊎◌, inl, inr, ℕ, ◌<◌, ◌≤◌, Bool, true, false, cond, not, ◌&&◌, ◌||◌, nat_eq, nat_lt, nat_le, ◌==◌, List, [], ◌∷◌, ◌++◌, length, map, refl, sym, ap, subst, ◌∙◌, arith, bytes_eq}
use Rattle.std.specs.Prelude.{codes}
use Rattle.std.proofs.lemmas.Bool.Decides.{nat_tests}
use Rattle.std.proofs.lemmas.List.{append_assoc}
use Rattle.go_tree.specs.declared.tokens.TokenKind.TheVariants.{Ident, Keyword, Operator, Integer, Float, Imaginary, Rune, Str, Inserted}
use Rattle.go_tree.specs.GoWords.Tokens.Characters.{is_letter, is_word, is_blank, each, is_listed, byte_order_mark}
use Rattle.go_tree.specs.GoWords.Tokens.Forms.{Form, empty, one_of, both, either, any_of, HasForm, without, listed, unlisted, joined, the_one, the_other, no_more, once_more}
use Rattle.go_tree.specs.GoWords.Tokens.Pieces.{PieceKind, blanks, remark, token, keyword_spellings, operator_spellings, operator, exactly, is_among, is_identifier, is_blanks, no_word_first, may_precede, IsPiece, IsNext}
use Rattle.go_scan.specs.Automaton.{next_of, is_whole, kind_in}
use Rattle.go_scan.proofs.Derivatives.{and_parts, and_true, has_nothing, has_empty}
use Rattle.go_scan.proofs.AutomatonLemmas.{below, below_at, run}
use Rattle.go_scan.proofs.LexemeLemmas.{form_of, form_runs, runs_form, to_piece}
use Rattle.go_scan.proofs.LetterLemmas.{letter_ascii, digit_ascii}
use Rattle.go_scan.proofs.PieceKinds.{Sort, a_blank, a_letter, a_lexeme, sort_of, never_empty}
use Rattle.go_layout.proofs.LayoutLaws.NextTokens.{START, DEAD, next_lexeme, next_name, next_keyword, next_blanks}

-- ---- small things

pub clash : {X : Type 0} → (b : Bool) → b ≡ true → b ≡ false → X
clash b p q = absurd cc

not_false : (b : Bool) → b ≡ false → not b ≡ true
not_false true e = absurd cc
not_false false e = refl

not_true : (b : Bool) → not b ≡ true → b ≡ false
not_true true h = absurd cc
not_true false h = refl

lt_is : (a b : ℕ) → nat_lt a b ≡ true → a < b
lt_is a b e = grind (arith, nat_tests, e)

same_number : (a b : ℕ) → nat_eq a b ≡ true → a ≡ b
same_number a b e = grind (arith, nat_tests, e)

-- the character after a piece and the first of what follows
too_long : (w : List ℕ) (c : ℕ) → length (w ++ c ∷ []) ≤ length w → ⊥
too_long [] c h = absurd (omega (arith, h))
too_long (d ∷ w) c h = too_long w c (omega (arith, h))

one_more : (w more : List ℕ) (c : ℕ) → w ++ c ∷ more ≡ (w ++ c ∷ []) ++ more
one_more w more c = sym (append_assoc w (c ∷ []) more)

-- no piece is the piece with one character more
no_longer : (w more : List ℕ) (c : ℕ) (k j : PieceKind) → IsNext (w ++ c ∷ more) k w (c ∷ more) → IsPiece j (w ++ c ∷ []) → ⊥
no_longer w more c k j next piece = too_long w c (next.longest j (w ++ c ∷ []) more (one_more w more c) piece)

-- what may follow depends on the first character alone
follows_same : (k : PieceKind) (w : List ℕ) (c : ℕ) (more others : List ℕ) → may_precede k w (c ∷ more) ≡ true → may_precede k w (c ∷ others) ≡ true
follows_same blanks w c more others h = h
follows_same remark w c more others h = h
follows_same (token Ident) w c more others h = h
follows_same (token Keyword) w c more others h = h
follows_same (token Operator) w c more others h = h
follows_same (token Integer) w c more others h = h
follows_same (token Float) w c more others h = h
follows_same (token Imaginary) w c more others h = h
follows_same (token Rune) w c more others h = h
follows_same (token Str) w c more others h = h
follows_same (token Inserted) w c more others h = h

pub each_on : (p : ℕ → Bool) (cs : List ℕ) (d : ℕ) → each p cs ≡ true → p d ≡ true → each p (cs ++ d ∷ []) ≡ true
each_on p [] d h q = and_true (p d) true q refl
each_on p (c ∷ cs) d h q = let x = and_parts (p c) (each p cs) h in and_true (p c) (each p (cs ++ d ∷ [])) x.0 (each_on p cs d x.1 q)

pub run_on : (s : ℕ) (w v : List ℕ) → run s (w ++ v) ≡ run (run s w) v
run_on s [] v = refl
run_on s (c ∷ w) v = run_on (next_of s c) w v

-- ---- what the automaton says of a whole word and one character more

abbrev ascii_letter : ℕ → Bool
ascii_letter c = nat_le 97 c && nat_le c 122 || nat_le 65 c && nat_le c 90 || c == 95

abbrev ascii_digit : ℕ → Bool
ascii_digit c = nat_le 48 c && nat_le c 57

abbrev is_number : PieceKind → Bool
is_number (token Integer) = true
is_number (token Float) = true
is_number (token Imaginary) = true
is_number _ = false

abbrev is_integer_kind : PieceKind → Bool
is_integer_kind (token Integer) = true
is_integer_kind _ = false

abbrev is_operator_kind : PieceKind → Bool
is_operator_kind (token Operator) = true
is_operator_kind _ = false

-- The word ends, or is a whole word with the character, or may not stand before it, or is an integer before a dot; operators apart.
abbrev settled : ℕ → ℕ → Bool
settled s c =
    nat_eq (next_of s c) DEAD || (is_whole (next_of s c) || (is_number (kind_in s) && (ascii_letter c || ascii_digit c) || (is_integer_kind (kind_in s) && c == 46 || is_operator_kind (kind_in s))))

all_settled : below 28 (λ s. below 128 (λ c. nat_lt s 2 || settled s c)) ≡ true
unfolding below next_of
all_settled = refl

past_settled : below 28 (λ s. nat_lt s 2 || ((nat_eq (next_of s 128) DEAD || is_whole (next_of s 128)) && (nat_eq (next_of s byte_order_mark) DEAD || is_whole (next_of s byte_order_mark)))) ≡ true
unfolding below next_of
past_settled = refl

pub or_cases : {X : Type 0} → (a b : Bool) → a || b ≡ true → (a ≡ true → X) → (b ≡ true → X) → X
or_cases true b h f g = f refl
or_cases false b h f g = g h

word_ascii : (c : ℕ) → c < 128 → ascii_letter c || ascii_digit c ≡ true → is_word c ≡ true
word_ascii c small h = rw (letter_ascii c small, digit_ascii c small) h

-- the state after a whole word is one of these
whole_state : (s : ℕ) → is_whole s ≡ true → (s < 28) × (nat_lt s 2 ≡ false)
whole_state s h = let p = and_parts (nat_le 2 s) (nat_lt s 28) h in (lt_is s 28 p.1, under s p.0)
  where
    under : (s : ℕ) → nat_le 2 s ≡ true → nat_lt s 2 ≡ false
    under s e = grind (arith, nat_tests, e)

ascii_settled : (s c : ℕ) → is_whole s ≡ true → c < 128 → settled s c ≡ true
ascii_settled s c whole small =
    let at = whole_state s whole in
    let row = below_at 28 (λ s. below 128 (λ c. nat_lt s 2 || settled s c)) s all_settled at.0 in
    or_cases (nat_lt s 2) (settled s c) (below_at 128 (λ c. nat_lt s 2 || settled s c) c row small) (λ q. clash (nat_lt s 2) q at.1) (λ q. q)

past_ascii : (s c : ℕ) (b : Bool) → nat_lt c 128 ≡ false → (c == byte_order_mark) ≡ b → next_of s c ≡ cond b (next_of s byte_order_mark) (next_of s 128)
unfolding next_of
past_ascii s c true far mark = rw (far, mark) refl
past_ascii s c false far mark = rw (far, mark) refl

far_settled : (s c : ℕ) → is_whole s ≡ true → nat_lt c 128 ≡ false → nat_eq (next_of s c) DEAD || is_whole (next_of s c) ≡ true
far_settled s c whole far =
    let at = whole_state s whole in
    or_cases (nat_lt s 2) _ (below_at 28 (λ s. nat_lt s 2 || ((nat_eq (next_of s 128) DEAD || is_whole (next_of s 128)) && (nat_eq (next_of s byte_order_mark) DEAD || is_whole (next_of s byte_order_mark)))) s past_settled at.0)
    (λ q. clash (nat_lt s 2) q at.1)
    (λ q. let p = and_parts (nat_eq (next_of s 128) DEAD || is_whole (next_of s 128)) (nat_eq (next_of s byte_order_mark) DEAD || is_whole (next_of s byte_order_mark)) q in
    subst (λ (n : ℕ). nat_eq n DEAD || is_whole n ≡ true) (sym (past_ascii s c (c == byte_order_mark) far refl)) (either_way (c == byte_order_mark) p.0 p.1))
  where
    either_way : (b : Bool) → nat_eq (next_of s 128) DEAD || is_whole (next_of s 128) ≡ true → nat_eq (next_of s byte_order_mark) DEAD || is_whole (next_of s byte_order_mark) ≡ true
        → nat_eq (cond b (next_of s byte_order_mark) (next_of s 128)) DEAD || is_whole (cond b (next_of s byte_order_mark) (next_of s 128)) ≡ true
    either_way true p q = q
    either_way false p q = p

-- ---- operators, one by one

abbrev pub View : Form → List ℕ → Type 0
View (one_of cs) w = (c : ℕ) × (w ≡ c ∷ []) × (is_listed cs c ≡ true)
View (both f g) w = (front : List ℕ) × (back : List ℕ) × (w ≡ front ++ back) × HasForm f front × HasForm g back
View (either f g) w = HasForm f w ⊎ HasForm g w
View _ w = Unit {0}

pub view : {f : Form} {w : List ℕ} → HasForm f w → View f w
view without = tt
view (listed cs c h) = (c, refl, h)
view (unlisted cs c h) = tt
view (joined f g front back word e h k) = (front, back, e, h, k)
view (the_one f g word h) = inl h
view (the_other f g word h) = inr h
view (no_more f) = tt
view (once_more f front back word e h k) = tt

no_characters : (w : List ℕ) → HasForm empty w → w ≡ []
no_characters w h = has_empty w h

pub first_is : (c : ℕ) (w : List ℕ) → View (one_of (c ∷ [])) w → w ≡ c ∷ []
first_is c w v = v.1 ∙ ap (λ (n : ℕ). n ∷ []) (same_number v.0 c (or_cases (v.0 == c) false v.2 (λ q. q) (λ q. absurd (nope q))))
  where
    nope : false ≡ true → ⊥
    nope e = cc

exactly_is : (o w : List ℕ) → HasForm (exactly o) w → w ≡ o
exactly_is [] w h = no_characters w h
exactly_is (c ∷ []) w h = first_is c w (view h)
exactly_is (c ∷ d ∷ o) w h = let v = view h in v.2 ∙ ap (λ (x : List ℕ). x ++ v.1) (first_is c v.0 (view v.3)) ∙ ap (λ (x : List ℕ). c ∷ x) (exactly_is (d ∷ o) v.1 v.4)

pub bytes_refl : (w : List ℕ) → bytes_eq w w ≡ true
bytes_refl [] = refl
bytes_refl (c ∷ w) = and_true (nat_eq c c) (bytes_eq w w) (own c) (bytes_refl w)
  where
    own : (c : ℕ) → nat_eq c c ≡ true
    own c = grind (arith, nat_tests)

-- each of the words passes
abbrev pub each_word : (List ℕ → Bool) → List (List ℕ) → Bool
each_word test [] = true
each_word test (w ∷ ws) = test w && each_word test ws

pub operator_passes : (test : List ℕ → Bool) (os : List (List ℕ)) (w : List ℕ) → each_word test os ≡ true → HasForm (any_of (map exactly os)) w → test w ≡ true
operator_passes test [] w all h = absurd (has_nothing w h)
operator_passes test (o ∷ []) w all h = subst (λ (x : List ℕ). test x ≡ true) (sym (exactly_is o w h)) (and_parts (test o) true all).0
operator_passes test (o ∷ p ∷ os) w all h = by_either (view h) (λ x. operator_passes test (p ∷ os) w parts.1 x)
  where
    parts : (test o ≡ true) × (each_word test (p ∷ os) ≡ true)
    parts = and_parts (test o) (each_word test (p ∷ os)) all

    by_either : HasForm (exactly o) w ⊎ HasForm (any_of (map exactly (p ∷ os))) w → (HasForm (any_of (map exactly (p ∷ os))) w → test w ≡ true) → test w ≡ true
    by_either (inl x) later = subst (λ (x : List ℕ). test x ≡ true) (sym (exactly_is o w x)) parts.0
    by_either (inr x) later = later x

-- The operator ends, or is one with the character, or is `/` before a star, or a dot before a dot.
abbrev sign_settled : List ℕ → Bool
sign_settled o = below 128 (λ c. nat_eq (next_of (run START o) c) DEAD || (is_whole (next_of (run START o) c) || (bytes_eq o (codes "/") && c == 42 || bytes_eq o (codes ".") && c == 46)))

all_signs_settled : each_word sign_settled operator_spellings ≡ true
unfolding below next_of operator_spellings
all_signs_settled = refl

signs_settled : (w : List ℕ) (c : ℕ) → IsPiece (token Operator) w → c < 128
    → nat_eq (next_of (run START w) c) DEAD || (is_whole (next_of (run START w) c) || (bytes_eq w (codes "/") && c == 42 || bytes_eq w (codes ".") && c == 46)) ≡ true
unfolding operator
signs_settled w c piece small = below_at 128 (λ c. nat_eq (next_of (run START w) c) DEAD || (is_whole (next_of (run START w) c) || (bytes_eq w (codes "/") && c == 42 || bytes_eq w (codes ".") && c == 46))) c (operator_passes sign_settled operator_spellings w all_signs_settled piece) small

bytes_same : (xs ys : List ℕ) → bytes_eq xs ys ≡ true → xs ≡ ys
bytes_same [] [] h = refl
bytes_same [] (y ∷ ys) h = absurd cc
bytes_same (x ∷ xs) [] h = absurd cc
bytes_same (x ∷ xs) (y ∷ ys) h =
    let p = and_parts (nat_eq x y) (bytes_eq xs ys) h in
    ap (λ (z : ℕ). z ∷ xs) (same_number x y p.0) ∙ ap (λ (zs : List ℕ). y ∷ zs) (bytes_same xs ys p.1)

-- ---- one piece

module _ (k : PieceKind) (w : List ℕ) (c : ℕ) (more : List ℕ) (next : IsNext (w ++ c ∷ more) k w (c ∷ more)) where
  -- with the character it is no whole word of the automaton
  pub not_whole : is_whole (next_of (run START w) c) ≡ true → ⊥
  not_whole h =
      let on : run START (w ++ c ∷ []) ≡ next_of (run START w) c = run_on START w (c ∷ []) in
      let whole : is_whole (run START (w ++ c ∷ [])) ≡ true = subst (λ (s : ℕ). is_whole s ≡ true) (sym on) h in
      no_longer w more c k (kind_in (run START (w ++ c ∷ []))) next (to_piece (kind_in (run START (w ++ c ∷ []))) (w ++ c ∷ []) (runs_form (w ++ c ∷ []) whole))

  -- a number has no letter or digit behind it
  number_alone : is_number k ≡ true → is_word c ≡ true → ⊥
  number_alone q v = by_kind k q next.follows
    where
      none : not (is_word c) ≡ true → ⊥
      none h = clash (is_word c) v (not_true (is_word c) h)

      by_kind : (j : PieceKind) → is_number j ≡ true → may_precede j w (c ∷ more) ≡ true → ⊥
      by_kind blanks q h = absurd cc
      by_kind remark q h = absurd cc
      by_kind (token Ident) q h = absurd cc
      by_kind (token Keyword) q h = absurd cc
      by_kind (token Operator) q h = absurd cc
      by_kind (token Integer) q h = none h
      by_kind (token Float) q h = none h
      by_kind (token Imaginary) q h = none h
      by_kind (token Rune) q h = absurd cc
      by_kind (token Str) q h = absurd cc
      by_kind (token Inserted) q h = absurd cc

  -- the token `/` has no star behind it
  slash_alone : k ≡ token Operator → bytes_eq w (codes "/") ≡ true → c == 42 ≡ true → ⊥
  slash_alone e q v =
      let h : may_precede (token Operator) w (c ∷ more) ≡ true = subst (λ (j : PieceKind). may_precede j w (c ∷ more) ≡ true) e next.follows in
      by_slash (bytes_eq w (codes "/")) q h
    where
      by_slash : (b : Bool) → b ≡ true → cond b (not (c == 42)) true ≡ true → ⊥
      by_slash true q h = clash (c == 42) v (not_true (c == 42) h)
      by_slash false q h = absurd cc

  integer_kind : (j : PieceKind) → is_integer_kind j ≡ true → j ≡ token Integer
  integer_kind blanks q = absurd cc
  integer_kind remark q = absurd cc
  integer_kind (token Ident) q = absurd cc
  integer_kind (token Keyword) q = absurd cc
  integer_kind (token Operator) q = absurd cc
  integer_kind (token Integer) q = refl
  integer_kind (token Float) q = absurd cc
  integer_kind (token Imaginary) q = absurd cc
  integer_kind (token Rune) q = absurd cc
  integer_kind (token Str) q = absurd cc
  integer_kind (token Inserted) q = absurd cc

  operator_kind : (j : PieceKind) → is_operator_kind j ≡ true → j ≡ token Operator
  operator_kind blanks q = absurd cc
  operator_kind remark q = absurd cc
  operator_kind (token Ident) q = absurd cc
  operator_kind (token Keyword) q = absurd cc
  operator_kind (token Operator) q = refl
  operator_kind (token Integer) q = absurd cc
  operator_kind (token Float) q = absurd cc
  operator_kind (token Imaginary) q = absurd cc
  operator_kind (token Rune) q = absurd cc
  operator_kind (token Str) q = absurd cc
  operator_kind (token Inserted) q = absurd cc

  module _ (dotless : c == 46 ≡ true → (k ≡ token Integer) ⊎ ((k ≡ token Operator) × (w ≡ codes ".")) → ⊥) where
    -- the automaton reads no further
    lexeme_ends : HasForm (form_of k) w → nat_eq (next_of (run START w) c) DEAD ≡ true
    lexeme_ends form = by_ascii (nat_lt c 128) refl
      where
        s : ℕ
        s = run START w

        facts : (is_whole (run START w) ≡ true) × (k ≡ kind_in (run START w))
        facts = form_runs k w form

        dead : {X : Type 0} → (is_whole (next_of (run START w) c) ≡ true) → X
        dead h = absurd (not_whole h)

        kinds : (X : PieceKind → Bool) → X (kind_in (run START w)) ≡ true → X k ≡ true
        kinds X h = subst (λ (j : PieceKind). X j ≡ true) (sym facts.1) h

        sign : k ≡ token Operator → c < 128 → nat_eq (next_of (run START w) c) DEAD ≡ true
        sign e small =
            or_cases (nat_eq (next_of (run START w) c) DEAD) _ (signs_settled w c (subst (λ (j : PieceKind). IsPiece j w) e next.spelled) small) (λ q. q)
            (λ q. or_cases (is_whole (next_of (run START w) c)) _ q (λ h. dead h)
            (λ r. or_cases (bytes_eq w (codes "/") && c == 42) _ r (λ h. let x = and_parts (bytes_eq w (codes "/")) (c == 42) h in absurd (slash_alone e x.0 x.1))
            (λ h. let x = and_parts (bytes_eq w (codes ".")) (c == 46) h in absurd (dotless x.1 (inr (e, bytes_same w (codes ".") x.0))))))

        by_ascii : (b : Bool) → nat_lt c 128 ≡ b → nat_eq (next_of (run START w) c) DEAD ≡ true
        by_ascii true e =
            let small = lt_is c 128 e in
            or_cases (nat_eq (next_of (run START w) c) DEAD) _ (ascii_settled (run START w) c facts.0 small) (λ q. q)
            (λ q. or_cases (is_whole (next_of (run START w) c)) _ q (λ h. dead h)
            (λ r. or_cases (is_number (kind_in (run START w)) && (ascii_letter c || ascii_digit c)) _ r
            (λ h. let x = and_parts (is_number (kind_in (run START w))) (ascii_letter c || ascii_digit c) h in absurd (number_alone (kinds is_number x.0) (word_ascii c small x.1)))
            (λ t. or_cases (is_integer_kind (kind_in (run START w)) && c == 46) _ t
            (λ h. let x = and_parts (is_integer_kind (kind_in (run START w))) (c == 46) h in absurd (dotless x.1 (inl (integer_kind k (kinds is_integer_kind x.0)))))
            (λ h. sign (operator_kind k (kinds is_operator_kind h)) small))))
        by_ascii false e = or_cases (nat_eq (next_of (run START w) c) DEAD) _ (far_settled (run START w) c facts.0 e) (λ q. q) (λ h. dead h)

    -- whatever stands behind the character
    pub ends : IsPiece k w → (others : List ℕ) → IsNext (w ++ c ∷ others) k w (c ∷ others)
    ends piece others = by_word w refl piece
      where
        blank_on : (d : ℕ) (ds : List ℕ) → w ≡ d ∷ ds → is_blank d ≡ true → each is_blank ds ≡ true → is_blank c ≡ true → ⊥
        blank_on d ds e b h q = no_longer w more c k blanks next (subst (λ (v : List ℕ). is_blanks (v ++ c ∷ []) ≡ true) (sym e) (and_true (is_blank d) (each is_blank (ds ++ c ∷ [])) b (each_on is_blank ds c h q)))

        -- a name with one letter or digit more
        word_on : (d : ℕ) (ds : List ℕ) → w ≡ d ∷ ds → is_letter d ≡ true → each is_word ds ≡ true → is_word c ≡ true → ⊥
        word_on d ds e l h q = by_key (is_among keyword_spellings (w ++ c ∷ [])) refl
          where
            name : is_identifier (w ++ c ∷ []) ≡ true
            name = subst (λ (v : List ℕ). is_identifier (v ++ c ∷ []) ≡ true) (sym e) (and_true (is_letter d) (each is_word (ds ++ c ∷ [])) l (each_on is_word ds c h q))

            by_key : (b : Bool) → is_among keyword_spellings (w ++ c ∷ []) ≡ b → ⊥
            by_key true x = no_longer w more c k (token Keyword) next x
            by_key false x = no_longer w more c k (token Ident) next (name, x)

        plain : (p : ℕ → Bool) → (p c ≡ true → ⊥) → p c ≡ false
        plain p h = by_test (p c) h
          where
            by_test : (b : Bool) → (b ≡ true → ⊥) → b ≡ false
            by_test true h = absurd (h refl)
            by_test false h = refl

        letters : (b : Bool) → is_among keyword_spellings w ≡ b → k ≡ cond b (token Keyword) (token Ident) → no_word_first (c ∷ others) ≡ true → IsNext (w ++ c ∷ others) k w (c ∷ others)
        letters true x e off = subst (λ (j : PieceKind). IsNext (w ++ c ∷ others) j w (c ∷ others)) (sym e) (next_keyword w (c ∷ others) x off)
        letters false x e off = subst (λ (j : PieceKind). IsNext (w ++ c ∷ others) j w (c ∷ others)) (sym e) (next_name w (c ∷ others) (subst (λ (j : PieceKind). IsPiece j w) e piece) off)

        by_sort : (d : ℕ) (ds : List ℕ) → w ≡ d ∷ ds → Sort k d ds → IsNext (w ++ c ∷ others) k w (c ∷ others)
        by_sort d ds e (a_blank kind b h) =
            subst (λ (v : List ℕ). IsNext (v ++ c ∷ others) k v (c ∷ others)) (sym e)
            (subst (λ (j : PieceKind). IsNext (d ∷ ds ++ c ∷ others) j (d ∷ ds) (c ∷ others)) (sym kind) (next_blanks d ds (c ∷ others) b h (not_false (is_blank c) (plain is_blank (blank_on d ds e b h)))))
        by_sort d ds e (a_letter kind l h) =
            letters (is_among keyword_spellings w) refl (kind ∙ ap (λ (v : List ℕ). cond (is_among keyword_spellings v) (token Keyword) (token Ident)) (sym e)) (not_false (is_word c) (plain is_word (word_on d ds e l h)))
        by_sort d ds e (a_lexeme b l form) =
            let dead = lexeme_ends (subst (λ (v : List ℕ). HasForm (form_of k) v) (sym e) form) in
            let there : may_precede k (d ∷ ds) (c ∷ others) ≡ true = subst (λ (v : List ℕ). may_precede k v (c ∷ others) ≡ true) e (follows_same k w c more others next.follows) in
            subst (λ (v : List ℕ). IsNext (v ++ c ∷ others) k v (c ∷ others)) (sym e)
            (next_lexeme k d ds (c ∷ others) b l (subst (λ (v : List ℕ). IsPiece k v) e piece) (subst (λ (v : List ℕ). nat_eq (next_of (run START v) c) DEAD ≡ true) e dead) there)

        by_word : (v : List ℕ) → w ≡ v → IsPiece k v → IsNext (w ++ c ∷ others) k w (c ∷ others)
        by_word [] e p = absurd (never_empty k p)
        by_word (d ∷ ds) e p = by_sort d ds e (sort_of k d ds p)
