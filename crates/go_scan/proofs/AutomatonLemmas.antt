-- The automaton knows the words that have a form.
use Rattle.std.proofs.Common.{◌≡◌, ℕ, zero, suc, ◌<◌, ◌≤◌, Bool, true, false, cond, not, ◌&&◌, ◌||◌, nat_eq, nat_lt, ◌==◌, List, [], ◌∷◌, map, get_or, refl, sym, ap, subst, ◌∙◌, arith}
use Rattle.std.proofs.lemmas.Bool.Decides.{nat_tests}
use Rattle.go_tree.specs.GoWords.Tokens.Characters.{is_listed, byte_order_mark}
use Rattle.go_tree.specs.GoWords.Tokens.Forms.{Form, nothing, empty, one_of, other_than, both, either, many}
use Rattle.go_scan.specs.declared.automaton.TheConstants.{CLASS, NEXT, START, FOREIGN, OTHER, STATES, CLASSES}
use Rattle.go_scan.specs.Automaton.{class_of, next_of}
use Rattle.go_scan.proofs.Derivatives.{nullable, both_of, either_of, empty_if, with_second, after, along, matches, and_parts, and_true}

-- ---- tests of everything below a number

unfoldable pub below : ℕ → (ℕ → Bool) → Bool
below zero p = true
below (suc n) p = p n && below n p

pub below_at : (n : ℕ) (p : ℕ → Bool) (k : ℕ) → below n p ≡ true → k < n → p k ≡ true
unfolding below
below_at zero p k h lt = absurd (omega (arith, lt))
below_at (suc n) p k h lt = let parts = and_parts (p n) (below n p) h in by_last (nat_eq k n) refl parts.0 (λ l. below_at n p k parts.1 l)
  where
    by_last : (b : Bool) → nat_eq k n ≡ b → p n ≡ true → (k < n → p k ≡ true) → p k ≡ true
    by_last true e last before = let same : k ≡ n = grind (arith, nat_tests, e) in subst (λ (i : ℕ). p i ≡ true) (sym same) last
    by_last false e last before = before (grind (arith, nat_tests, e, lt))

abbrev same_bool : Bool → Bool → Bool
same_bool true b = b
same_bool false b = not b

bool_is : (a b : Bool) → same_bool a b ≡ true → a ≡ b
bool_is true true h = refl
bool_is true false h = absurd cc
bool_is false true h = absurd cc
bool_is false false h = refl

-- ---- equality of forms

abbrev same_list : List ℕ → List ℕ → Bool
same_list [] [] = true
same_list (c ∷ cs) (d ∷ ds) = nat_eq c d && same_list cs ds
same_list _ _ = false

list_is : (cs ds : List ℕ) → same_list cs ds ≡ true → cs ≡ ds
list_is [] [] h = refl
list_is [] (d ∷ ds) h = absurd cc
list_is (c ∷ cs) [] h = absurd cc
list_is (c ∷ cs) (d ∷ ds) h =
    let p = and_parts (nat_eq c d) (same_list cs ds) h in
    let head : c ≡ d = number_is c d p.0 in
    ap (λ (x : ℕ). x ∷ cs) head ∙ ap (λ (xs : List ℕ). d ∷ xs) (list_is cs ds p.1)
  where
    number_is : (c d : ℕ) → nat_eq c d ≡ true → c ≡ d
    number_is c d e = grind (arith, nat_tests, e)

abbrev same_form : Form → Form → Bool
same_form nothing nothing = true
same_form empty empty = true
same_form (one_of cs) (one_of ds) = same_list cs ds
same_form (other_than cs) (other_than ds) = same_list cs ds
same_form (both f g) (both h i) = same_form f h && same_form g i
same_form (either f g) (either h i) = same_form f h && same_form g i
same_form (many f) (many g) = same_form f g
same_form _ _ = false

form_is : (f g : Form) → same_form f g ≡ true → f ≡ g
form_is nothing nothing h = refl
form_is empty empty h = refl
form_is (one_of cs) (one_of ds) h = ap one_of (list_is cs ds h)
form_is (other_than cs) (other_than ds) h = ap other_than (list_is cs ds h)
form_is (both f g) (both i j) h = let p = and_parts (same_form f i) (same_form g j) h in
    ap (λ (x : Form). both x g) (form_is f i p.0) ∙ ap (λ (x : Form). both i x) (form_is g j p.1)
form_is (either f g) (either i j) h = let p = and_parts (same_form f i) (same_form g j) h in
    ap (λ (x : Form). either x g) (form_is f i p.0) ∙ ap (λ (x : Form). either i x) (form_is g j p.1)
form_is (many f) (many g) h = ap many (form_is f g h)
form_is _ _ h = absurd cc

-- ---- characters that a form treats alike

abbrev agrees : ℕ → ℕ → Form → Bool
agrees c d nothing = true
agrees c d empty = true
agrees c d (one_of cs) = same_bool (is_listed cs c) (is_listed cs d)
agrees c d (other_than cs) = same_bool (is_listed cs c) (is_listed cs d)
agrees c d (both f g) = agrees c d f && agrees c d g
agrees c d (either f g) = agrees c d f && agrees c d g
agrees c d (many f) = agrees c d f

after_same : (c d : ℕ) (f : Form) → agrees c d f ≡ true → after c f ≡ after d f
after_same c d nothing h = refl
after_same c d empty h = refl
after_same c d (one_of cs) h = ap empty_if (bool_is (is_listed cs c) (is_listed cs d) h)
after_same c d (other_than cs) h = ap (λ (b : Bool). empty_if (not b)) (bool_is (is_listed cs c) (is_listed cs d) h)
after_same c d (both f g) h = let p = and_parts (agrees c d f) (agrees c d g) h in
    ap (λ (x : Form). with_second (nullable f) (both_of x g) (after c g)) (after_same c d f p.0)
    ∙ ap (λ (x : Form). with_second (nullable f) (both_of (after d f) g) x) (after_same c d g p.1)
after_same c d (either f g) h = let p = and_parts (agrees c d f) (agrees c d g) h in
    ap (λ (x : Form). either_of x (after c g)) (after_same c d f p.0) ∙ ap (λ (x : Form). either_of (after d f) x) (after_same c d g p.1)
after_same c d (many f) h = ap (λ (x : Form). both_of x (many f)) (after_same c d f h)

agrees_both_of : (c d : ℕ) (f g : Form) → agrees c d f ≡ true → agrees c d g ≡ true → agrees c d (both_of f g) ≡ true
agrees_both_of c d nothing g x y = refl
agrees_both_of c d empty g x y = y
agrees_both_of c d (one_of cs) g x y = and_true (agrees c d (one_of cs)) (agrees c d g) x y
agrees_both_of c d (other_than cs) g x y = and_true (agrees c d (other_than cs)) (agrees c d g) x y
agrees_both_of c d (both f i) g x y = and_true (agrees c d (both f i)) (agrees c d g) x y
agrees_both_of c d (either f i) g x y = and_true (agrees c d (either f i)) (agrees c d g) x y
agrees_both_of c d (many f) g x y = and_true (agrees c d f) (agrees c d g) x y

agrees_either_of : (c d : ℕ) (f g : Form) → agrees c d f ≡ true → agrees c d g ≡ true → agrees c d (either_of f g) ≡ true
agrees_either_of c d nothing g x y = y
agrees_either_of c d f nothing x y = x
agrees_either_of c d f g x y = and_true (agrees c d f) (agrees c d g) x y

agrees_empty_if : (c d : ℕ) (b : Bool) → agrees c d (empty_if b) ≡ true
agrees_empty_if c d true = refl
agrees_empty_if c d false = refl

agrees_with_second : (c d : ℕ) (b : Bool) (f g : Form) → agrees c d f ≡ true → agrees c d g ≡ true → agrees c d (with_second b f g) ≡ true
agrees_with_second c d true f g x y = agrees_either_of c d f g x y
agrees_with_second c d false f g x y = x

agrees_after : (c d x : ℕ) (f : Form) → agrees c d f ≡ true → agrees c d (after x f) ≡ true
agrees_after c d x nothing h = refl
agrees_after c d x empty h = refl
agrees_after c d x (one_of cs) h = agrees_empty_if c d (is_listed cs x)
agrees_after c d x (other_than cs) h = agrees_empty_if c d (not (is_listed cs x))
agrees_after c d x (both f g) h = let p = and_parts (agrees c d f) (agrees c d g) h in
    agrees_with_second c d (nullable f) (both_of (after x f) g) (after x g) (agrees_both_of c d (after x f) g (agrees_after c d x f p.0) p.1) (agrees_after c d x g p.1)
agrees_after c d x (either f g) h = let p = and_parts (agrees c d f) (agrees c d g) h in
    agrees_either_of c d (after x f) (after x g) (agrees_after c d x f p.0) (agrees_after c d x g p.1)
agrees_after c d x (many f) h = agrees_both_of c d (after x f) (many f) (agrees_after c d x f h) h

agrees_along : (c d : ℕ) (w : List ℕ) (f : Form) → agrees c d f ≡ true → agrees c d (along w f) ≡ true
agrees_along c d [] f h = h
agrees_along c d (x ∷ w) f h = agrees_along c d w (after x f) (agrees_after c d x f h)

-- the form names no character past ASCII but the byte order mark
abbrev within_ascii : List ℕ → Bool
within_ascii [] = true
within_ascii (c ∷ cs) = (nat_lt c 128 || nat_eq c byte_order_mark) && within_ascii cs

abbrev names_ascii : Form → Bool
names_ascii nothing = true
names_ascii empty = true
names_ascii (one_of cs) = within_ascii cs
names_ascii (other_than cs) = within_ascii cs
names_ascii (both f g) = names_ascii f && names_ascii g
names_ascii (either f g) = names_ascii f && names_ascii g
names_ascii (many f) = names_ascii f

unlisted_past : (c : ℕ) (cs : List ℕ) → 128 ≤ c → nat_eq c byte_order_mark ≡ false → within_ascii cs ≡ true → is_listed cs c ≡ false
unlisted_past c [] far unlike h = refl
unlisted_past c (d ∷ ds) far unlike h =
    let p = and_parts (nat_lt d 128 || nat_eq d byte_order_mark) (within_ascii ds) h in
    rw (differs c d far unlike p.0) (unlisted_past c ds far unlike p.1)
  where
    differs : (c d : ℕ) → 128 ≤ c → nat_eq c byte_order_mark ≡ false → nat_lt d 128 || nat_eq d byte_order_mark ≡ true → c == d ≡ false
    differs c d far unlike h = grind (arith, nat_tests, far, unlike, h)

both_false : (a b : Bool) → a ≡ false → b ≡ false → same_bool a b ≡ true
both_false false false p q = refl
both_false true b p q = absurd cc
both_false false true p q = absurd cc

agrees_past : (c d : ℕ) (f : Form) → 128 ≤ c → nat_eq c byte_order_mark ≡ false → 128 ≤ d → nat_eq d byte_order_mark ≡ false → names_ascii f ≡ true → agrees c d f ≡ true
agrees_past c d nothing a b x y h = refl
agrees_past c d empty a b x y h = refl
agrees_past c d (one_of cs) a b x y h = both_false (is_listed cs c) (is_listed cs d) (unlisted_past c cs a b h) (unlisted_past d cs x y h)
agrees_past c d (other_than cs) a b x y h = both_false (is_listed cs c) (is_listed cs d) (unlisted_past c cs a b h) (unlisted_past d cs x y h)
agrees_past c d (both f g) a b x y h = let p = and_parts (names_ascii f) (names_ascii g) h in
    and_true (agrees c d f) (agrees c d g) (agrees_past c d f a b x y p.0) (agrees_past c d g a b x y p.1)
agrees_past c d (either f g) a b x y h = let p = and_parts (names_ascii f) (names_ascii g) h in
    and_true (agrees c d f) (agrees c d g) (agrees_past c d f a b x y p.0) (agrees_past c d g a b x y p.1)
agrees_past c d (many f) a b x y h = agrees_past c d f a b x y h

-- ---- the states

-- a word after which each state stands
unfoldable examples : List (List ℕ)
examples =
    (128 ∷ []) ∷
    [] ∷
    (33 ∷ []) ∷
    (38 ∷ []) ∷
    (40 ∷ []) ∷
    (43 ∷ []) ∷
    (45 ∷ []) ∷
    (46 ∷ []) ∷
    (47 ∷ []) ∷
    (58 ∷ []) ∷
    (60 ∷ []) ∷
    (62 ∷ []) ∷
    (124 ∷ []) ∷
    (48 ∷ []) ∷
    (49 ∷ []) ∷
    (48 ∷ 48 ∷ []) ∷
    (49 ∷ 48 ∷ []) ∷
    (48 ∷ 66 ∷ 48 ∷ []) ∷
    (48 ∷ 79 ∷ 48 ∷ []) ∷
    (48 ∷ 88 ∷ 48 ∷ []) ∷
    (46 ∷ 48 ∷ []) ∷
    (48 ∷ 46 ∷ []) ∷
    (48 ∷ 69 ∷ 48 ∷ []) ∷
    (48 ∷ 105 ∷ []) ∷
    (39 ∷ 128 ∷ 39 ∷ []) ∷
    (34 ∷ 34 ∷ []) ∷
    (47 ∷ 47 ∷ []) ∷
    (47 ∷ 42 ∷ 42 ∷ 47 ∷ []) ∷
    (34 ∷ []) ∷
    (39 ∷ []) ∷
    (96 ∷ []) ∷
    (34 ∷ 92 ∷ []) ∷
    (39 ∷ 128 ∷ []) ∷
    (39 ∷ 92 ∷ []) ∷
    (46 ∷ 46 ∷ []) ∷
    (47 ∷ 42 ∷ []) ∷
    (48 ∷ 56 ∷ []) ∷
    (48 ∷ 66 ∷ []) ∷
    (48 ∷ 69 ∷ []) ∷
    (48 ∷ 79 ∷ []) ∷
    (48 ∷ 88 ∷ []) ∷
    (48 ∷ 95 ∷ []) ∷
    (49 ∷ 95 ∷ []) ∷
    (34 ∷ 92 ∷ 48 ∷ []) ∷
    (34 ∷ 92 ∷ 85 ∷ []) ∷
    (34 ∷ 92 ∷ 117 ∷ []) ∷
    (34 ∷ 92 ∷ 120 ∷ []) ∷
    (39 ∷ 92 ∷ 48 ∷ []) ∷
    (39 ∷ 92 ∷ 85 ∷ []) ∷
    (39 ∷ 92 ∷ 117 ∷ []) ∷
    (39 ∷ 92 ∷ 120 ∷ []) ∷
    (46 ∷ 48 ∷ 95 ∷ []) ∷
    (47 ∷ 42 ∷ 42 ∷ []) ∷
    (48 ∷ 56 ∷ 95 ∷ []) ∷
    (48 ∷ 66 ∷ 95 ∷ []) ∷
    (48 ∷ 69 ∷ 43 ∷ []) ∷
    (48 ∷ 79 ∷ 95 ∷ []) ∷
    (48 ∷ 88 ∷ 46 ∷ []) ∷
    (48 ∷ 88 ∷ 95 ∷ []) ∷
    (34 ∷ 92 ∷ 48 ∷ 48 ∷ []) ∷
    (34 ∷ 92 ∷ 85 ∷ 48 ∷ []) ∷
    (34 ∷ 92 ∷ 117 ∷ 48 ∷ []) ∷
    (34 ∷ 92 ∷ 117 ∷ 68 ∷ []) ∷
    (34 ∷ 92 ∷ 120 ∷ 48 ∷ []) ∷
    (39 ∷ 92 ∷ 48 ∷ 48 ∷ []) ∷
    (39 ∷ 92 ∷ 85 ∷ 48 ∷ []) ∷
    (39 ∷ 92 ∷ 117 ∷ 48 ∷ []) ∷
    (39 ∷ 92 ∷ 117 ∷ 68 ∷ []) ∷
    (39 ∷ 92 ∷ 120 ∷ 48 ∷ []) ∷
    (48 ∷ 88 ∷ 46 ∷ 48 ∷ []) ∷
    (48 ∷ 88 ∷ 48 ∷ 46 ∷ []) ∷
    (34 ∷ 92 ∷ 85 ∷ 48 ∷ 48 ∷ []) ∷
    (39 ∷ 92 ∷ 85 ∷ 48 ∷ 48 ∷ []) ∷
    (34 ∷ 92 ∷ 85 ∷ 48 ∷ 48 ∷ 48 ∷ []) ∷
    (34 ∷ 92 ∷ 85 ∷ 48 ∷ 48 ∷ 49 ∷ []) ∷
    (39 ∷ 92 ∷ 85 ∷ 48 ∷ 48 ∷ 48 ∷ []) ∷
    (39 ∷ 92 ∷ 85 ∷ 48 ∷ 48 ∷ 49 ∷ []) ∷
    (34 ∷ 92 ∷ 85 ∷ 48 ∷ 48 ∷ 48 ∷ 49 ∷ []) ∷
    (39 ∷ 92 ∷ 85 ∷ 48 ∷ 48 ∷ 48 ∷ 49 ∷ []) ∷ []

-- a character of each class
unfoldable samples : List ℕ
samples = 128 ∷ 0 ∷ 10 ∷ 33 ∷ 34 ∷ 37 ∷ 38 ∷ 39 ∷ 40 ∷ 41 ∷ 42 ∷ 43 ∷ 44 ∷ 45 ∷ 46 ∷ 47 ∷ 48 ∷ 49 ∷ 50 ∷ 52 ∷ 56 ∷ 58 ∷ 59 ∷ 60 ∷ 61 ∷ 62 ∷ 65 ∷ 66 ∷ 68 ∷ 69 ∷ 79 ∷ 80 ∷ 85 ∷ 88 ∷ 91 ∷ 92 ∷ 93 ∷ 94 ∷ 95 ∷ 96 ∷ 97 ∷ 98 ∷ 105 ∷ 110 ∷ 117 ∷ 120 ∷ 123 ∷ 124 ∷ 125 ∷ 126 ∷ []

-- what a word of the form still lacks in each state
abbrev lacked : Form → List Form
lacked f = map (λ w. along w f) examples

abbrev lacks : Form → ℕ → Form
lacks f state = get_or (lacked f) state nothing

-- the state after a state and a class
abbrev moved : ℕ → ℕ → ℕ
moved state class = get_or (get_or NEXT state []) class 0

abbrev follows_in : List Form → Bool
follows_in lacking = below STATES (λ state. below CLASSES (λ class. same_form (after (get_or samples class 0) (get_or lacking state nothing)) (get_or lacking (moved state class) nothing)))

-- the automaton keeps what a word of the form lacks
unfoldable pub follows : Form → Bool
unfolding below examples samples
follows f = follows_in (lacked f)

-- the classes are finer than what the form tells apart
unfoldable pub sorts : Form → Bool
unfolding below samples
sorts f = below 128 (λ c. agrees c (get_or samples (class_of c) 0) f) && (agrees byte_order_mark (get_or samples FOREIGN 0) f && names_ascii f)

abbrev accepts_in : List Form → (ℕ → Bool) → Bool
accepts_in lacking passes = below STATES (λ state. same_bool (nullable (get_or lacking state nothing)) (passes state))

-- the states after whole words of the form are those that pass
unfoldable pub accepts : Form → (ℕ → Bool) → Bool
unfolding below examples
accepts f passes = accepts_in (lacked f) passes

states_close : below STATES (λ state. below CLASSES (λ class. nat_lt (moved state class) STATES)) ≡ true
unfolding below
states_close = refl

classes_close : below 128 (λ c. nat_lt (class_of c) CLASSES) ≡ true
unfolding below
classes_close = refl

lt_is : (a b : ℕ) → nat_lt a b ≡ true → a < b
lt_is a b e = grind (arith, nat_tests, e)

pub class_small : (c : ℕ) → class_of c < CLASSES
class_small c = by_ascii (nat_lt c 128) refl
  where
    by_mark : (b : Bool) → cond b FOREIGN OTHER < CLASSES
    by_mark true = lt_is FOREIGN CLASSES refl
    by_mark false = lt_is OTHER CLASSES refl

    by_ascii : (b : Bool) → nat_lt c 128 ≡ b → class_of c < CLASSES
    by_ascii true e = lt_is (class_of c) CLASSES (below_at 128 (λ c. nat_lt (class_of c) CLASSES) c classes_close (lt_is c 128 e))
    by_ascii false e = rw e (by_mark (c == byte_order_mark))

pub next_small : (state c : ℕ) → state < STATES → next_of state c < STATES
unfolding next_of
next_small state c small =
    let row = below_at STATES (λ state. below CLASSES (λ class. nat_lt (moved state class) STATES)) state states_close small in
    lt_is (next_of state c) STATES (below_at CLASSES (λ class. nat_lt (moved state class) STATES) (class_of c) row (class_small c))

agrees_sample : (f : Form) (c : ℕ) → sorts f ≡ true → agrees c (get_or samples (class_of c) 0) f ≡ true
unfolding sorts samples
agrees_sample f c h = by_ascii (nat_lt c 128) refl
  where
    ascii : ℕ → Bool
    ascii = λ c. agrees c (get_or samples (class_of c) 0) f

    outer : (below 128 ascii ≡ true) × (agrees byte_order_mark (get_or samples FOREIGN 0) f && names_ascii f ≡ true)
    outer = and_parts (below 128 ascii) (agrees byte_order_mark (get_or samples FOREIGN 0) f && names_ascii f) h

    inner : (agrees byte_order_mark (get_or samples FOREIGN 0) f ≡ true) × (names_ascii f ≡ true)
    inner = and_parts (agrees byte_order_mark (get_or samples FOREIGN 0) f) (names_ascii f) outer.1

    by_mark : (b : Bool) → nat_eq c byte_order_mark ≡ b → nat_lt c 128 ≡ false → agrees c (get_or samples (cond b FOREIGN OTHER) 0) f ≡ true
    by_mark true e far = let same : c ≡ byte_order_mark = grind (arith, nat_tests, e) in subst (λ (x : ℕ). agrees x (get_or samples FOREIGN 0) f ≡ true) (sym same) inner.0
    by_mark false e far = agrees_past c 128 f (grind (arith, nat_tests, far)) e (omega arith) refl inner.1

    by_ascii : (b : Bool) → nat_lt c 128 ≡ b → agrees c (get_or samples (cond b (get_or CLASS c 0) (cond (nat_eq c byte_order_mark) FOREIGN OTHER)) 0) f ≡ true
    by_ascii true e = let at = below_at 128 ascii c outer.0 (lt_is c 128 e) in
        subst (λ (b : Bool). agrees c (get_or samples (cond b (get_or CLASS c 0) (cond (nat_eq c byte_order_mark) FOREIGN OTHER)) 0) f ≡ true) e at
    by_ascii false e = by_mark (nat_eq c byte_order_mark) refl e

agrees_lacking : (c d state : ℕ) (f : Form) (words : List (List ℕ)) → agrees c d f ≡ true → agrees c d (get_or (map (λ w. along w f) words) state nothing) ≡ true
agrees_lacking c d state f [] h = refl
agrees_lacking c d zero f (w ∷ words) h = agrees_along c d w f h
agrees_lacking c d (suc state) f (w ∷ words) h = agrees_lacking c d state f words h

lacks_next : (f : Form) (state c : ℕ) → follows f ≡ true → sorts f ≡ true → state < STATES → after c (lacks f state) ≡ lacks f (next_of state c)
unfolding follows next_of
lacks_next f state c x y small =
    let alike = agrees_lacking c (get_or samples (class_of c) 0) state f examples (agrees_sample f c y) in
    let row = below_at STATES (λ state. below CLASSES (λ class. same_form (after (get_or samples class 0) (lacks f state)) (lacks f (moved state class)))) state x small in
    let cell = below_at CLASSES (λ class. same_form (after (get_or samples class 0) (lacks f state)) (lacks f (moved state class))) (class_of c) row (class_small c) in
    after_same c (get_or samples (class_of c) 0) (lacks f state) alike ∙ form_is (after (get_or samples (class_of c) 0) (lacks f state)) (lacks f (moved state (class_of c))) cell

-- ---- runs

-- the state after the characters
abbrev pub run : ℕ → List ℕ → ℕ
run state [] = state
run state (c ∷ cs) = run (next_of state c) cs

pub run_small : (state : ℕ) (w : List ℕ) → state < STATES → run state w < STATES
run_small state [] small = small
run_small state (c ∷ w) small = run_small (next_of state c) w (next_small state c small)

along_run : (f : Form) (state : ℕ) (w : List ℕ) → follows f ≡ true → sorts f ≡ true → state < STATES → along w (lacks f state) ≡ lacks f (run state w)
along_run f state [] x y small = refl
along_run f state (c ∷ w) x y small =
    ap (along w) (lacks_next f state c x y small) ∙ along_run f (next_of state c) w x y (next_small state c small)

starts_whole : (f : Form) → lacks f START ≡ f
unfolding examples
starts_whole f = refl

-- a word has the form where the automaton, from its start, comes to a state that passes
pub matches_run : (f : Form) (passes : ℕ → Bool) (w : List ℕ) → follows f ≡ true → sorts f ≡ true → accepts f passes ≡ true → matches f w ≡ passes (run START w)
unfolding accepts
matches_run f passes w x y z =
    let small : START < STATES = lt_is START STATES refl in
    ap (λ (g : Form). nullable (along w g)) (sym (starts_whole f)) ∙ ap nullable (along_run f START w x y small)
    ∙ bool_is (nullable (lacks f (run START w))) (passes (run START w))
    (below_at STATES (λ state. same_bool (nullable (lacks f state)) (passes state)) (run START w) z (run_small START w small))
