-- What the first token says, and where the last one ends.
use Rattle.std.proofs.Common.{◌≡◌, ◌<◌, ◌≤◌, ℕ, zero, suc, false, if◌then◌else◌, bytes_eq, ◌+◌, ◌-◌, Bool, true, List, [], ◌∷◌, length, map, get_or, slice_index_or, take, drop, ltb, Some, None, refl, sym, ap, ◌∙◌, arith}
use Rattle.std.proofs.lemmas.List.{length-drop, length-map, drop-drop}
use Rattle.std.proofs.Math.ListN.{drop_of_length-le}
use Rattle.std.proofs.lemmas.Bool.{ltb-true, ltb-false}
use Rattle.go_tree.specs.declared.tokens.Token.{Token}
use Rattle.go_tree.specs.declared.tokens.TokenKind.{TokenKind}
use Rattle.go_tree.specs.declared.tokens.TokenKind.TheVariants.{Ident, Keyword, Operator, Integer, Float, Imaginary, Rune, Str, Inserted}
use Rattle.go_tree.specs.GoWords.Terminals as pure
use Rattle.go_tree.specs.GoWords.Terminals.{lexeme_of, lexemes, terminal_of, found_in, keywords, operators}
use Rattle.go_read.specs.SpellsSpans.{end_after, span_to, start_of}
use Rattle.go_read.specs.SpellsTypes.{Lexemes}
use Rattle.go_tree.specs.declared.go_words.terminals.Terminal.{Terminal}
use Rattle.go_tree.specs.declared.go_words.terminals.Terminal.TheVariants as code
use Rattle.go_tree.specs.GoWords.Codes.{code_of, terminal_at}
use Rattle.go_productions.specs.declared.cursor.Cursor.{Cursor}
use Rattle.go_productions.specs.Cursors.{ahead}
use Rattle.go_productions.specs.Terminals.{first_of, rest_of, taken, start_at, letters_of, spelling_of, has_letters}

split : (b c : Bool) → (if b then false else c) ≡ true → (b ≡ false) × (c ≡ true)
split true c e = absurd cc
split false c e = (refl, e)

pub is_head : (ts : List Token) (t : Token) → true ≡ ltb 0 (length ts) → t ≡ get_or ts 0 t → (r : List Token) × (ts ≡ t ∷ r)
is_head [] t p e = absurd cc
is_head (x ∷ r) t p e = (r, ap (λ (y : Token). y ∷ r) (sym e))

pub length_lexemes : (xs : List Token) → length (lexemes xs) ≡ length xs
length_lexemes [] = refl
length_lexemes (x ∷ xs) = ap suc (length_lexemes xs)

-- ---- ahead of a cursor

nth_first : (ts : List Token) (n : ℕ) (d : Terminal) → n < length ts → first_of (lexemes (drop n ts)) ≡ slice_index_or (map terminal_at ts) n d
nth_first [] n d p = absurd (omega (arith, p))
nth_first (t ∷ ts) zero d p = refl
nth_first (t ∷ ts) (suc n) d p = nth_first ts n d (omega (arith, p))

-- as many terminals as tokens
same_many : (ts : List Token) (xs : List Terminal) → xs ≡ map terminal_at ts → length xs ≡ length ts
same_many ts xs x = ap (λ (ys : List Terminal). length ys) x ∙ length-map ts terminal_at

pub first_at : (c : Cursor) (xs : List Terminal) (d : Terminal) → xs ≡ map terminal_at c.tokens.now.items → c.at < length xs → first_of (ahead c) ≡ slice_index_or xs c.at d
unfolding ahead
first_at c xs d x p =
    let size = same_many c.tokens.now.items xs x in
    nth_first c.tokens.now.items c.at d (omega (arith, size, p)) ∙ ap (λ (ys : List Terminal). slice_index_or ys c.at d) (sym x)

pub none_at : (c : Cursor) (xs : List Terminal) → xs ≡ map terminal_at c.tokens.now.items → length xs ≤ c.at → first_of (ahead c) ≡ code.Foreign
unfolding ahead
none_at c xs x p = let size = same_many c.tokens.now.items xs x in ap (λ (ts : List Token). first_of (lexemes ts)) (drop_of_length-le c.tokens.now.items (omega (arith, size, p)))

taken_most : (k : Terminal) → taken k ≤ 1
taken_most code.Foreign = omega arith
taken_most _ = omega arith

stands_first : (ts : Lexemes) (k : Terminal) → first_of ts ≡ k → taken k ≤ length ts
stands_first [] k e = let none : taken k ≡ 0 = ap taken (sym e) in omega arith
stands_first (x ∷ ts) k e = let most = taken_most k in omega arith

pub stands_at : (c : Cursor) (xs : List Terminal) (d : Terminal) → xs ≡ map terminal_at c.tokens.now.items → c.at < length xs → taken (slice_index_or xs c.at d) ≤ length (ahead c)
stands_at c xs d x p = stands_first (ahead c) (slice_index_or xs c.at d) (first_at c xs d x p)

take_all : (ts : List Token) → take (length ts) ts ≡ ts
take_all [] = refl
take_all (t ∷ ts) = ap (λ (us : List Token). t ∷ us) (take_all ts)

drop_all : (ts : List Token) (n : ℕ) → length ts ≤ n → drop n ts ≡ []
drop_all ts n w = drop_of_length-le ts w

rest_drop : (ts : List Token) (n : ℕ) → lexemes (drop (suc n) ts) ≡ rest_of (lexemes (drop n ts))
rest_drop [] zero = refl
rest_drop [] (suc n) = refl
rest_drop (t ∷ ts) zero = refl
rest_drop (t ∷ ts) (suc n) = rest_drop ts n

pub rest_at : (c d : Cursor) → d.tokens.now.items ≡ c.tokens.now.items → d.at ≡ c.at + 1 → ahead d ≡ rest_of (ahead c)
unfolding ahead
rest_at c d p q = ap (λ (ts : List Token). lexemes (drop d.at ts)) p ∙ ap (λ (n : ℕ). lexemes (drop n c.tokens.now.items)) (let next : d.at ≡ suc c.at = omega arith in next) ∙ rest_drop c.tokens.now.items c.at

pub new_at : (c : Cursor) → c.at ≡ 0 → ahead c ≡ lexemes c.tokens.now.items
unfolding ahead
new_at c z = ap (λ (n : ℕ). lexemes (drop n c.tokens.now.items)) z

pub tokens_at : (c : Cursor) (ts : List Token) → ts ≡ c.tokens.now.items → lexemes (take (length ts - c.at) (drop c.at ts)) ≡ ahead c
unfolding ahead
tokens_at c ts e =
    ap (λ (n : ℕ). lexemes (take n (drop c.at ts))) (sym (length-drop c.at ts)) ∙ ap (λ (us : List Token). lexemes us) (take_all (drop c.at ts)) ∙ ap (λ (us : List Token). lexemes (drop c.at us)) e

nth_start : (ts : List Token) (n : ℕ) (d : Token) → n < length ts → start_at (lexemes (drop n ts)) ≡ Some (slice_index_or ts n d).span.start
nth_start [] n d p = absurd (omega (arith, p))
nth_start (x ∷ ts) zero d p = refl
nth_start (x ∷ ts) (suc n) d p = nth_start ts n d (omega (arith, p))

pub starts_at : (c : Cursor) (ts : List Token) (d : Token) → ts ≡ c.tokens.now.items → c.at < length ts → Some (slice_index_or ts c.at d).span.start ≡ start_at (ahead c)
unfolding ahead
starts_at c ts d e p = sym (ap (λ (us : List Token). start_at (lexemes (drop c.at us))) (sym e) ∙ nth_start ts c.at d p)

pub no_start_at : (c : Cursor) (ts : List Token) → ts ≡ c.tokens.now.items → length ts ≤ c.at → None ≡ start_at (ahead c)
unfolding ahead
no_start_at c ts e p = sym (ap (λ (us : List Token). start_at (lexemes (drop c.at us))) (sym e) ∙ ap (λ (us : List Token). start_at (lexemes us)) (drop_of_length-le ts p))

rest_length : (ts : Lexemes) → 0 < length ts → length (rest_of ts) + 1 ≡ length ts
rest_length [] p = absurd (omega (arith, p))
rest_length (x ∷ ts) p = omega arith

pub shorter_at : (c d : Cursor) → ahead d ≡ rest_of (ahead c) → 0 < length (ahead c) → length (ahead d) + 1 ≡ length (ahead c)
shorter_at c d e p = ap (λ (ts : Lexemes). length ts + 1) e ∙ rest_length (ahead c) p

pub length_at : (c : Cursor) → length (ahead c) ≡ length c.tokens.now.items - c.at
unfolding ahead
length_at c = length_lexemes (drop c.at c.tokens.now.items) ∙ length-drop c.at c.tokens.now.items

pub empty_at : (c : Cursor) → length c.tokens.now.items ≤ c.at → ahead c ≡ []
unfolding ahead
empty_at c w = ap (λ (ts : List Token). lexemes ts) (drop_all c.tokens.now.items c.at w)

drop_lexemes : (n : ℕ) (ts : List Token) → lexemes (drop n ts) ≡ drop n (lexemes ts)
drop_lexemes zero ts = refl
drop_lexemes (suc n) [] = refl
drop_lexemes (suc n) (t ∷ ts) = drop_lexemes n ts

skip_past : (ts : List Token) (at n d left : ℕ) → left ≡ length ts - at → n ≤ left → d ≡ length ts - (left - n) → length ts ≤ at → drop d ts ≡ drop n (drop at ts)
skip_past ts at n d left l w q past =
    let none : n ≡ 0 = omega arith in
    let whole : d ≡ length ts = omega arith in
    drop_all ts d (omega arith) ∙ sym (ap (λ (k : ℕ). drop k (drop at ts)) none ∙ drop_all ts at past)

skip_to : (ts : List Token) (at n d left : ℕ) (within : Bool) → within ≡ ltb at (length ts) → left ≡ length ts - at → n ≤ left → d ≡ length ts - (left - n) → drop d ts ≡ drop n (drop at ts)
skip_to ts at n d left true i l w q =
    let here : at < length ts = ltb-true at (length ts) (sym i) in
    let sum : d ≡ at + n = omega arith in
    ap (λ (k : ℕ). drop k ts) sum ∙ sym (drop-drop n at ts)
skip_to ts at n d left false i l w q =
    let past : length ts ≤ at = ltb-false at (length ts) (sym i) in
    skip_past ts at n d left l w q past

pub skip_at : (c d : Cursor) (n left : ℕ) → left ≡ length (ahead c) → n ≤ left → d.tokens.now.items ≡ c.tokens.now.items → d.at ≡ length c.tokens.now.items - (left - n) → ahead d ≡ drop n (ahead c)
unfolding ahead
skip_at c d n left l w p q =
    ap (λ (ts : List Token). lexemes (drop d.at ts)) p
    ∙ ap (λ (ts : List Token). lexemes ts) (skip_to c.tokens.now.items c.at n d.at left (ltb c.at (length c.tokens.now.items)) refl (l ∙ length_at c) w q)
    ∙ drop_lexemes n (drop c.at c.tokens.now.items)

-- where the last of these tokens ends
last_end : (place : ℕ) (xs : List Token) (t : Token) (n : ℕ) → length xs ≡ n + 1 → t ≡ get_or xs n t → end_after place (lexemes xs) ≡ t.span.end
last_end place [] t n h e = absurd (omega (arith, h))
last_end place (x ∷ []) t zero h e = ap (λ (y : Token). y.span.end) (sym e)
last_end place (x ∷ []) t (suc n) h e = absurd (omega (arith, h))
last_end place (x ∷ (y ∷ zs)) t zero h e = absurd (omega (arith, h))
last_end place (x ∷ (y ∷ zs)) t (suc n) h e = last_end x.span.end (y ∷ zs) t n (omega (arith, h)) e

take_lexemes : (n : ℕ) (xs : List Token) → lexemes (take n xs) ≡ take n (lexemes xs)
take_lexemes zero xs = refl
take_lexemes (suc n) [] = refl
take_lexemes (suc n) (x ∷ xs) = ap (λ (us : Lexemes). lexeme_of x ∷ us) (take_lexemes n xs)

start_is : (ts : List Token) (t : Token) → true ≡ ltb 0 (length ts) → t ≡ get_or ts 0 t → start_of (lexemes ts) ≡ t.span.start
start_is ts t p e = let q = is_head ts t p e in ap (λ (us : List Token). start_of (lexemes us)) q.1

pub span_is : (ts : List Token) (us rs : Lexemes) (n : ℕ) (a b : Token) (k : ℕ) → lexemes ts ≡ us → true ≡ ltb 0 (length ts) → a ≡ get_or ts 0 a → n ≡ length us - length rs
    → length (take n ts) ≡ k + 1 → b ≡ get_or (take n ts) k b → record { start = a.span.start; end = b.span.end } ≡ span_to us rs
span_is ts us rs n a b k same p e en h l =
    let s = start_is ts a p e in
    let f = last_end (start_of (lexemes ts)) (take n ts) b k h l in
    let g : take n (lexemes ts) ≡ take (length (lexemes ts) - length rs) (lexemes ts) = ap (λ (m : ℕ). take m (lexemes ts)) (en ∙ ap (λ (vs : Lexemes). length vs - length rs) (sym same)) in
    ap (λ (m : ℕ). record { start = m; end = b.span.end }) (sym s)
    ∙ ap (λ (m : ℕ). record { start = start_of (lexemes ts); end = m }) (sym f ∙ ap (end_after (start_of (lexemes ts))) (take_lexemes n ts ∙ g))
    ∙ ap (λ (vs : Lexemes). span_to vs rs) same

-- a table of terminals without letters
plain : List (List ℕ × pure.Terminal) → Bool
plain [] = true
plain (x ∷ xs) = if has_letters (code_of x.1) then false else plain xs

either : (b : Bool) (x y : pure.Terminal) → has_letters (code_of x) ≡ false → has_letters (code_of y) ≡ false → has_letters (code_of (if b then x else y)) ≡ false
either true x y p q = p
either false x y p q = q

not_found : (rows : List (List ℕ × pure.Terminal)) (w : List ℕ) → plain rows ≡ true → has_letters (code_of (found_in rows w)) ≡ false
unfolding plain
not_found [] w p = refl
not_found (x ∷ xs) w p = let q = split (has_letters (code_of x.1)) (plain xs) p in either (bytes_eq x.0 w) x.1 (found_in xs w) q.0 (not_found xs w q.1)

letters_of_kind : (k : TokenKind) (w : List ℕ) → has_letters (code_of (terminal_of k w)) ≡ true → w ≡ letters_of (terminal_of k w)
unfolding plain
letters_of_kind Ident w h = refl
letters_of_kind Keyword w h = let no = not_found keywords w refl in absurd cc
letters_of_kind Operator w h = let no = not_found operators w refl in absurd cc
letters_of_kind Integer w h = refl
letters_of_kind Float w h = absurd cc
letters_of_kind Imaginary w h = absurd cc
letters_of_kind Rune w h = refl
letters_of_kind Str w h = refl
letters_of_kind Inserted w h = absurd cc

pub letters_are : (ts : List Token) (us : Lexemes) (t : Token) → lexemes ts ≡ us → true ≡ ltb 0 (length ts) → t ≡ get_or ts 0 t → has_letters (first_of us) ≡ true → t.spelling ≡ spelling_of us
letters_are ts us t same p e h =
    let q = is_head ts t p e in
    let all : lexemes (t ∷ q.0) ≡ us = ap (λ (xs : List Token). lexemes xs) (sym q.1) ∙ same in
    let k : has_letters (code_of (terminal_of t.kind t.spelling)) ≡ true = ap (λ (vs : Lexemes). has_letters (first_of vs)) all ∙ h in
    letters_of_kind t.kind t.spelling k ∙ ap (λ (vs : Lexemes). spelling_of vs) all
