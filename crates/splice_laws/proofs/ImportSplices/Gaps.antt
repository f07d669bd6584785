-- Blanks and comments before a token, and behind one, by lines.
use Rattle.std.proofs.Common.{◌≡◌, inl, inr, ◌⊎◌, ℕ, ◌+◌, ◌≤◌, ◌<◌, ◌/◌, ◌%◌, nat_lt, Bool, true, false, cond, not, ◌&&◌, ◌||◌, ◌==◌, List, [], ◌∷◌, ◌++◌, length, None, refl, sym, ap, subst, ◌∙◌, arith, length-append}
use Rattle.std.specs.Prelude.{encode_utf8_all, encode_utf8}
use Rattle.std.specs.List.{list_all}
use Rattle.std.proofs.lemmas.Bool.Decides.{nat_tests}
use Rattle.std.proofs.lemmas.List.{append_assoc}
use Rattle.std.proofs.lemmas.Str.{encodes-append, chars-encodes}
use Rattle.std.specs.Str.{all_scalars}
use Rattle.go_tree.specs.GoWords.Tokens.Characters.{is_blank, is_listed, each, byte_order_mark}
use Rattle.go_tree.specs.GoWords.Tokens.Forms.{HasForm, many, other_than, no_more, once_more, unlisted}
use Rattle.go_tree.specs.GoWords.Tokens.Literals.{comment}
use Rattle.go_tree.specs.GoWords.Tokens.{size_of, tokens_from}
use Rattle.go_tree.specs.GoWords.Tokens.Pieces.{PieceKind, blanks, remark, token, Piece, is_blanks, IsPiece}
use Rattle.go_scan.proofs.BytesLemmas.{newline_same}
use Rattle.go_scan.proofs.PieceKinds.{never_empty}
use Rattle.splice_laws.specs.Joints.{words_of, PartsTo, EndsBefore, InnerEnd}
use Rattle.splice_laws.specs.ImportTexts.{a_piece}
use Rattle.splice_laws.proofs.Ends.{View, view, first_is}
use Rattle.splice_laws.proofs.Over.{is_piece}
use Rattle.splice_laws.proofs.Splices.{scalars_parts}
use Rattle.splice_laws.proofs.Parts.{is_blanks_kind, no_blank_begins}
use Rattle.splice_laws.proofs.ImportSplices.Terms.{is_silent, silent, both_parts, none_silent}
use Rattle.splice_laws.proofs.ImportSplices.Bytes.{bytes_of, listed_then, blank_bytes, blank_each, blanks_all, each_then}

-- ---- newlines in a list

pub record AtLast (xs : List ℕ) : Type 0 where
  pub before : List ℕ
  pub behind : List ℕ
  pub is : xs ≡ before ++ 10 ∷ behind
  pub none : is_listed behind 10 ≡ false

same_number : (a b : ℕ) → a == b ≡ true → a ≡ b
same_number a b e = grind (arith, nat_tests, e)

pub at_last : (xs : List ℕ) → is_listed xs 10 ≡ true → AtLast xs
at_last [] h = absurd cc
at_last (x ∷ xs) h = by (is_listed xs 10) refl (λ e. at_last xs e)
  where
    this : (b : Bool) → is_listed xs 10 ≡ false → (10 == x) || is_listed xs 10 ≡ true → (10 == x) ≡ true
    this b e q = or_left (10 == x) (is_listed xs 10) e q
      where
        or_left : (a c : Bool) → c ≡ false → a || c ≡ true → a ≡ true
        or_left true c e q = refl
        or_left false c e q = absurd cc

    by : (b : Bool) → is_listed xs 10 ≡ b → (is_listed xs 10 ≡ true → AtLast xs) → AtLast (x ∷ xs)
    by true e later = let l = later e in record { before = x ∷ l.before; behind = l.behind; is = ap (λ (ys : List ℕ). x ∷ ys) l.is; none = l.none }
    by false e later = record { before = []; behind = xs; is = ap (λ (n : ℕ). n ∷ xs) (sym (same_number 10 x (this true e h))); none = e }

pub record AtFirst (xs : List ℕ) : Type 0 where
  pub before : List ℕ
  pub behind : List ℕ
  pub is : xs ≡ before ++ 10 ∷ behind
  pub none : is_listed before 10 ≡ false

pub at_first : (xs : List ℕ) → is_listed xs 10 ≡ true → AtFirst xs
at_first [] h = absurd cc
at_first (x ∷ xs) h = by (10 == x) refl h (λ e. at_first xs e)
  where
    by : (b : Bool) → (10 == x) ≡ b → b || is_listed xs 10 ≡ true → (is_listed xs 10 ≡ true → AtFirst xs) → AtFirst (x ∷ xs)
    by true e h later = record { before = []; behind = xs; is = ap (λ (n : ℕ). n ∷ xs) (sym (same_number 10 x e)); none = refl }
    by false e h later = let l = later h in record { before = x ∷ l.before; behind = l.behind; is = ap (λ (ys : List ℕ). x ∷ ys) l.is; none = ap (λ (b : Bool). b || is_listed l.before 10) e ∙ l.none }

-- ---- comments

line_flat : (w : List ℕ) → HasForm (many (other_than (0 ∷ byte_order_mark ∷ 10 ∷ []))) w → is_listed w 10 ≡ false
line_flat w (no_more f) = refl
line_flat w (once_more f front back word e h k) = ap (λ (v : List ℕ). is_listed v 10) e ∙ listed_then front back false false (one front h) (line_flat back k)
  where
    third : (c : ℕ) → is_listed (0 ∷ byte_order_mark ∷ 10 ∷ []) c ≡ false → (10 == c) ≡ false
    third c h = by (c == 0) (c == byte_order_mark) (c == 10) refl h
      where
        turned : (c == 10) ≡ false → (10 == c) ≡ false
        turned h = grind (arith, nat_tests, h)

        by : (x y z : Bool) → (c == 10) ≡ z → x || (y || (z || false)) ≡ false → (10 == c) ≡ false
        by true y z e h = absurd cc
        by false true z e h = absurd cc
        by false false true e h = absurd cc
        by false false false e h = turned e

    one : (v : List ℕ) → HasForm (other_than (0 ∷ byte_order_mark ∷ 10 ∷ [])) v → is_listed v 10 ≡ false
    one v (unlisted cs c q) = ap (λ (b : Bool). b || false) (third c q)

-- a comment with a newline in it ends with a slash
pub closed_remark : (w : List ℕ) → HasForm comment w → is_listed w 10 ≡ true → (m : List ℕ) × (w ≡ m ++ 47 ∷ [])
unfolding comment
closed_remark w h n = by (view h)
  where
    flat : (a b c d : List ℕ) → a ≡ 47 ∷ [] → c ≡ 47 ∷ [] → w ≡ a ++ b → b ≡ c ++ d → is_listed d 10 ≡ false → is_listed w 10 ≡ false
    flat a b c d x y e f q = ap (λ (v : List ℕ). is_listed v 10) (e ∙ ap (λ (v : List ℕ). v ++ b) x ∙ ap (λ (v : List ℕ). 47 ∷ v) (f ∙ ap (λ (v : List ℕ). v ++ d) y)) ∙ q

    clash : is_listed w 10 ≡ false → ⊥
    clash e = nope (sym n ∙ e)
      where
        nope : true ≡ false → ⊥
        nope e = cc

    longer : (a b c : List ℕ) (m : List ℕ) → a ≡ b ++ c → c ≡ m ++ 47 ∷ [] → a ≡ (b ++ m) ++ 47 ∷ []
    longer a b c m e f = e ∙ ap (λ (v : List ℕ). b ++ v) f ∙ sym (append_assoc b m (47 ∷ []))

    by : View comment w → (m : List ℕ) × (w ≡ m ++ 47 ∷ [])
    by (inl x) =
        let a = view x in
        let b = view a.4 in
        absurd (clash (flat a.0 a.1 b.0 b.1 (first_is 47 a.0 (view a.3)) (first_is 47 b.0 (view b.3)) a.2 b.2 (line_flat b.1 b.4)))
    by (inr x) =
        let a = view x in
        let b = view a.4 in
        let c = view b.4 in
        let d = view c.4 in
        let z : d.1 ≡ [] ++ 47 ∷ [] = first_is 47 d.1 (view d.4) in
        (a.0 ++ (b.0 ++ (c.0 ++ (d.0 ++ []))), longer w a.0 a.1 (b.0 ++ (c.0 ++ (d.0 ++ []))) a.2 (longer a.1 b.0 b.1 (c.0 ++ (d.0 ++ [])) b.2 (longer b.1 c.0 c.1 (d.0 ++ []) c.2 (longer c.1 d.0 d.1 [] d.2 z))))

all_ends : (m : List ℕ) → list_all is_blank (m ++ 47 ∷ []) ≡ false
all_ends [] = refl
all_ends (c ∷ m) = ap (λ (b : Bool). is_blank c && b) (all_ends m) ∙ none (is_blank c)
  where
    none : (b : Bool) → b && false ≡ false
    none true = refl
    none false = refl

ink_behind : (m b y : List ℕ) → m ++ 47 ∷ [] ≡ b ++ 10 ∷ y → list_all is_blank y ≡ false
ink_behind [] [] y e = absurd (nope e)
  where
    first : List ℕ → ℕ
    first [] = 0
    first (c ∷ cs) = c

    nope : 47 ∷ [] ≡ 10 ∷ y → ⊥
    nope e = let f : 47 ≡ 10 = ap first e in omega (arith, f)
ink_behind (c ∷ m) [] y e = let f : m ++ 47 ∷ [] ≡ y = cc in ap (λ (v : List ℕ). list_all is_blank v) (sym f) ∙ all_ends m
ink_behind [] (d ∷ []) y e = absurd cc
ink_behind [] (d ∷ b ∷ bs) y e = absurd cc
ink_behind (c ∷ m) (d ∷ b) y e = let f : m ++ 47 ∷ [] ≡ b ++ 10 ∷ y = cc in ink_behind m b y f

pub all_later : (xs ys : List ℕ) → list_all is_blank xs ≡ false → list_all is_blank (xs ++ ys) ≡ false
all_later [] ys h = absurd cc
all_later (x ∷ xs) ys h = by (is_blank x) h (λ q. all_later xs ys q)
  where
    by : (b : Bool) → b && list_all is_blank xs ≡ false → (list_all is_blank xs ≡ false → list_all is_blank (xs ++ ys) ≡ false) → b && list_all is_blank (xs ++ ys) ≡ false
    by true h later = later h
    by false h later = refl

pub all_earlier : (xs ys : List ℕ) → list_all is_blank ys ≡ false → list_all is_blank (xs ++ ys) ≡ false
all_earlier [] ys h = h
all_earlier (x ∷ xs) ys h = ap (λ (b : Bool). is_blank x && b) (all_earlier xs ys h) ∙ none (is_blank x)
  where
    none : (b : Bool) → b && false ≡ false
    none true = refl
    none false = refl

slash : encode_utf8_all (47 ∷ []) ≡ 47 ∷ []
unfolding lib.Utf8.encode
slash = refl

-- characters with a newline in their bytes have one
newline_in_word : (w : List ℕ) → all_scalars w ≡ true → is_listed (encode_utf8_all w) 10 ≡ true → is_listed w 10 ≡ true
newline_in_word w sc n = ap (λ (v : List ℕ). is_listed v 10) (sym (chars-encodes w sc)) ∙ sym (newline_same (encode_utf8_all w) (w, (sc, refl))) ∙ n

-- ---- the last line of blanks and comments

pub data Lined (g : List Piece) : Type 0 where
  flat : is_listed (bytes_of g) 10 ≡ false → Lined g
  cut : (pre : List Piece) (w0 w2 : List ℕ) (later : List Piece) → g ≡ pre ++ (record { kind = blanks; word = w0 ++ 10 ∷ w2 } ∷ later) → each is_blank (w0 ++ 10 ∷ w2) ≡ true
      → is_listed (w2 ++ bytes_of later) 10 ≡ false → Lined g
  inked : (b y : List ℕ) → bytes_of g ≡ (b ++ 10 ∷ []) ++ y → is_listed y 10 ≡ false → list_all is_blank y ≡ false → Lined g

pub lined : (g others : List Piece) (txt rest : List ℕ) → silent g ≡ true → all_scalars (words_of g) ≡ true → PartsTo txt (g ++ others) rest → Lined g
lined [] others txt rest s sc parts = flat refl
lined (p ∷ g) others txt rest s sc parts = on (lined g others parts.0 rest q.1 both.1 parts.3)
  where
    q : (is_silent p.kind ≡ true) × (silent g ≡ true)
    q = both_parts (is_silent p.kind) (silent g) s

    both : (all_scalars p.word ≡ true) × (all_scalars (words_of g) ≡ true)
    both = scalars_parts p.word (words_of g) sc

    one : bytes_of (p ∷ g) ≡ encode_utf8_all p.word ++ bytes_of g
    one = encodes-append p.word (words_of g)

    remarks : (w : List ℕ) → p.word ≡ w → HasForm comment w → is_listed (bytes_of g) 10 ≡ false → (b : Bool) → is_listed (encode_utf8_all w) 10 ≡ b → Lined (p ∷ g)
    remarks w e h none false n = flat (ap (λ (v : List ℕ). is_listed v 10) (one ∙ ap (λ (v : List ℕ). encode_utf8_all v ++ bytes_of g) e) ∙ listed_then (encode_utf8_all w) (bytes_of g) false false n none)
    remarks w e h none true n =
        let m = closed_remark w h (newline_in_word w (subst (λ (v : List ℕ). all_scalars v ≡ true) e both.0) n) in
        let l = at_last (encode_utf8_all w) n in
        let ends : encode_utf8_all m.0 ++ 47 ∷ [] ≡ l.before ++ 10 ∷ l.behind = sym (ap encode_utf8_all m.1 ∙ encodes-append m.0 (47 ∷ []) ∙ ap (λ (v : List ℕ). encode_utf8_all m.0 ++ v) slash) ∙ l.is in
        inked l.before (l.behind ++ bytes_of g)
        (one ∙ ap (λ (v : List ℕ). encode_utf8_all v ++ bytes_of g) e ∙ ap (λ (v : List ℕ). v ++ bytes_of g) l.is ∙ append_assoc l.before (10 ∷ l.behind) (bytes_of g) ∙ sym (append_assoc l.before (10 ∷ []) (l.behind ++ bytes_of g)))
        (listed_then l.behind (bytes_of g) false false l.none none)
        (all_later l.behind (bytes_of g) (ink_behind (encode_utf8_all m.0) l.before l.behind ends))

    runs : (w : List ℕ) → p ≡ record { kind = blanks; word = w } → each is_blank w ≡ true → is_listed (bytes_of g) 10 ≡ false → (b : Bool) → is_listed w 10 ≡ b → Lined (p ∷ g)
    runs w e h none false n = flat (ap (λ (v : List ℕ). is_listed v 10) (one ∙ ap (λ (v : Piece). encode_utf8_all v.word ++ bytes_of g) e ∙ ap (λ (v : List ℕ). v ++ bytes_of g) (blank_bytes w h)) ∙ listed_then w (bytes_of g) false false n none)
    runs w e h none true n =
        let l = at_last w n in
        cut [] l.before l.behind g (ap (λ (v : Piece). v ∷ g) (e ∙ ap (λ (v : List ℕ). record { kind = blanks; word = v }) l.is)) (ap (each is_blank) (sym l.is) ∙ h) (listed_then l.behind (bytes_of g) false false l.none none)

    by_kind : (k : PieceKind) (w : List ℕ) → p ≡ record { kind = k; word = w } → is_silent k ≡ true → IsPiece k w → is_listed (bytes_of g) 10 ≡ false → Lined (p ∷ g)
    by_kind blanks w e x piece none = runs w e (blank_each w piece) none (is_listed w 10) refl
    by_kind remark w e x piece none = remarks w (ap (λ (v : Piece). v.word) e) piece none (is_listed (encode_utf8_all w) 10) refl
    by_kind (token k) w e x piece none = absurd cc

    on : Lined g → Lined (p ∷ g)
    on (flat none) = by_kind p.kind p.word refl q.0 (is_piece p.kind p.word parts.0 parts.2) none
    on (cut pre w0 w2 later e h none) = cut (p ∷ pre) w0 w2 later (ap (λ (ps : List Piece). p ∷ ps) e) h none
    on (inked b y e none ink) =
        inked (encode_utf8_all p.word ++ b) y
        (one ∙ ap (λ (v : List ℕ). encode_utf8_all p.word ++ v) e ∙ sym (append_assoc (encode_utf8_all p.word) (b ++ 10 ∷ []) y) ∙ ap (λ (v : List ℕ). v ++ y) (sym (append_assoc (encode_utf8_all p.word) b (10 ∷ []))))
        none ink

-- ---- the first byte of a token or a comment

not_blank : (d : ℕ) → 128 ≤ d → is_blank d ≡ false
not_blank d h =
    ap (λ (b : Bool). ((b || d == 9) || d == 13) || d == 10) (other 32 (omega arith)) ∙ ap (λ (b : Bool). (b || d == 13) || d == 10) (other 9 (omega arith)) ∙ ap (λ (b : Bool). b || d == 10) (other 13 (omega arith)) ∙ other 10 (omega arith)
  where
    other : (k : ℕ) → k < 128 → (d == k) ≡ false
    other k l = grind (arith, nat_tests, h, l)

pub first_ink : (c : ℕ) → is_blank c ≡ false → (d : ℕ) × (ds : List ℕ) × (encode_utf8 c ≡ d ∷ ds) × (is_blank d ≡ false)
unfolding lib.Utf8.encode
first_ink c h = by (nat_lt c 128) (nat_lt c 2048) (nat_lt c 65536)
  where
    two : ℕ
    two = 192 + c / 64

    over : (n k : ℕ) → 128 ≤ n → 128 ≤ n + k
    over n k l = omega (arith, l)

    by : (x y z : Bool) → (d : ℕ) × (ds : List ℕ) × (cond x (c ∷ []) (cond y ((192 + c / 64) ∷ (128 + c % 64) ∷ []) (cond z ((224 + c / 4096) ∷ (128 + (c / 64) % 64) ∷ (128 + c % 64) ∷ []) ((240 + c / 262144) ∷ (128 + (c / 4096) % 64) ∷ (128 + (c / 64) % 64) ∷ (128 + c % 64) ∷ []))) ≡ d ∷ ds) × (is_blank d ≡ false)
    by true y z = (c, [], refl, h)
    by false true z = (192 + c / 64, (128 + c % 64) ∷ [], refl, not_blank (192 + c / 64) (over 192 (c / 64) (omega arith)))
    by false false true = (224 + c / 4096, (128 + (c / 64) % 64) ∷ (128 + c % 64) ∷ [], refl, not_blank (224 + c / 4096) (over 224 (c / 4096) (omega arith)))
    by false false false = (240 + c / 262144, (128 + (c / 4096) % 64) ∷ (128 + (c / 64) % 64) ∷ (128 + c % 64) ∷ [], refl, not_blank (240 + c / 262144) (over 240 (c / 262144) (omega arith)))

pub first_byte : (c : ℕ) → (d : ℕ) × (ds : List ℕ) × (encode_utf8 c ≡ d ∷ ds)
unfolding lib.Utf8.encode
first_byte c = by (nat_lt c 128) (nat_lt c 2048) (nat_lt c 65536)
  where
    by : (x y z : Bool) → (d : ℕ) × (ds : List ℕ) × (cond x (c ∷ []) (cond y ((192 + c / 64) ∷ (128 + c % 64) ∷ []) (cond z ((224 + c / 4096) ∷ (128 + (c / 64) % 64) ∷ (128 + c % 64) ∷ []) ((240 + c / 262144) ∷ (128 + (c / 4096) % 64) ∷ (128 + (c / 64) % 64) ∷ (128 + c % 64) ∷ []))) ≡ d ∷ ds)
    by true y z = (c, [], refl)
    by false true z = (192 + c / 64, (128 + c % 64) ∷ [], refl)
    by false false true = (224 + c / 4096, (128 + (c / 64) % 64) ∷ (128 + c % 64) ∷ [], refl)
    by false false false = (240 + c / 262144, (128 + (c / 4096) % 64) ∷ (128 + (c / 64) % 64) ∷ (128 + c % 64) ∷ [], refl)

-- ---- the line behind a token

pub data Landing (at : ℕ) (ps : List Piece) : Type 0 where
  lands : (v : List ℕ) (qs : List Piece) → bytes_of ps ≡ v ++ bytes_of qs → words_of ps ≡ v ++ words_of qs → list_all is_blank v ≡ true
      → ((qs ≡ []) × (is_listed v 10 ≡ false)) ⊎ ((u : List ℕ) × (v ≡ u ++ 10 ∷ []) × (is_listed u 10 ≡ false))
      → tokens_from at None ps ≡ tokens_from (at + length v) None qs → PartsTo (words_of qs) qs [] → InnerEnd qs → Landing at ps
  inked : (v : List ℕ) (c : ℕ) (more : List ℕ) → bytes_of ps ≡ v ++ c ∷ more → is_listed v 10 ≡ false → is_blank c ≡ false → Landing at ps

later_inner : (p : Piece) (ps : List Piece) → InnerEnd (p ∷ ps) → InnerEnd ps
later_inner p [] h = tt
later_inner p (q ∷ ps) h = h.1

all_both : (xs ys : List ℕ) → list_all is_blank xs ≡ true → list_all is_blank ys ≡ true → list_all is_blank (xs ++ ys) ≡ true
all_both [] ys h k = k
all_both (x ∷ xs) ys h k = let q = both_parts (is_blank x) (list_all is_blank xs) h in ap (λ (b : Bool). b && list_all is_blank (xs ++ ys)) q.0 ∙ all_both xs ys q.1 k

blank_before : (w next : List ℕ) → is_blanks w ≡ true → EndsBefore (a_piece w) next
blank_before w [] h = h
blank_before w (c ∷ cs) h = λ more. h

blank_inner : (ps : List Piece) (w : List ℕ) → is_blanks w ≡ true → InnerEnd ps → InnerEnd (a_piece w ∷ ps)
blank_inner [] w h inner = tt
blank_inner (q ∷ ps) w h inner = (blank_before w q.word h, inner)

begins_ink : (k : PieceKind) (w : List ℕ) (ps : List Piece) (at : ℕ) → is_blanks_kind k ≡ false → IsPiece k w → Landing at (record { kind = k; word = w } ∷ ps)
begins_ink k [] ps at q piece = absurd (never_empty k piece)
begins_ink k (c ∷ cs) ps at q piece =
    let f = first_ink c (off (is_blank c) (no_blank_begins k (c ∷ cs) [] q piece)) in
    inked [] f.0 (f.1 ++ encode_utf8_all (cs ++ words_of ps)) (ap (λ (v : List ℕ). v ++ encode_utf8_all (cs ++ words_of ps)) f.2) refl f.3
  where
    off : (b : Bool) → not b ≡ true → b ≡ false
    off true e = absurd cc
    off false e = refl

pub landing : (ps : List Piece) (at : ℕ) → PartsTo (words_of ps) ps [] → InnerEnd ps → Landing at ps
unfolding tokens_from
landing [] at parts inner = lands [] [] refl refl refl (inl (refl, refl)) (let e : at ≡ at + 0 = omega arith in ap (λ (n : ℕ). tokens_from n None []) e) refl tt
landing (p ∷ ps) at parts inner = by_kind p.kind p.word refl (is_piece p.kind p.word parts.0 parts.2) (λ n. landing ps n (subst (λ (t : List ℕ). PartsTo t ps []) (sym rest) parts.3) (later_inner p ps inner))
  where
    rest : words_of ps ≡ parts.0
    rest = cancel p.word (words_of ps) parts.0 parts.1
      where
        cancel : (x a b : List ℕ) → x ++ a ≡ x ++ b → a ≡ b
        cancel [] a b e = e
        cancel (c ∷ x) a b e = let f : x ++ a ≡ x ++ b = cc in cancel x a b f

    after : PartsTo (words_of ps) ps []
    after = subst (λ (t : List ℕ). PartsTo t ps []) (sym rest) parts.3

    sums : (n a b : ℕ) → n + (a + b) ≡ n + a + b
    sums n a b = omega arith

    words : (w : List ℕ) → p ≡ record { kind = blanks; word = w } → words_of (p ∷ ps) ≡ w ++ words_of ps
    words w e = ap (λ (v : Piece). v.word ++ words_of ps) e

    bytes : (w : List ℕ) → p ≡ record { kind = blanks; word = w } → each is_blank w ≡ true → bytes_of (p ∷ ps) ≡ w ++ bytes_of ps
    bytes w e h = ap encode_utf8_all (words w e) ∙ encodes-append w (words_of ps) ∙ ap (λ (v : List ℕ). v ++ bytes_of ps) (blank_bytes w h)

    size : (w : List ℕ) → each is_blank w ≡ true → size_of w ≡ length w
    size w h = ap length (blank_bytes w h)

    first : (w : List ℕ) → p ≡ record { kind = blanks; word = w } → each is_blank w ≡ true → tokens_from at None (p ∷ ps) ≡ tokens_from (at + length w) None ps
    first w e h =
        none_silent (p ∷ []) ps at (ap (λ (v : Piece). is_silent v.kind && true) e) ∙ ap (λ (n : ℕ). tokens_from (at + n) None ps) (ap (λ (v : Piece). size_of v.word + 0) e ∙ zero (size_of w) ∙ size w h)
      where
        zero : (n : ℕ) → n + 0 ≡ n
        zero n = omega arith

    broken : (w u w2 : List ℕ) → p ≡ record { kind = blanks; word = w } → each is_blank w ≡ true → w ≡ u ++ 10 ∷ w2 → is_listed u 10 ≡ false → Landing at (p ∷ ps)
    broken w u [] e h f none =
        lands w ps (bytes w e h) (words w e) (blanks_all w h) (inr (u, f, none)) (first w e h) after (later_inner p ps inner)
    broken w u (c ∷ cs) e h f none =
        let v : List ℕ = u ++ 10 ∷ [] in
        let two : w ≡ v ++ c ∷ cs = f ∙ sym (append_assoc u (10 ∷ []) (c ∷ cs)) in
        let parts2 = each_then v (c ∷ cs) (ap (each is_blank) (sym two) ∙ h) in
        let qs : List Piece = a_piece (c ∷ cs) ∷ ps in
        let sizes : length w ≡ length v + size_of (c ∷ cs) = ap length two ∙ length-append v (c ∷ cs) ∙ ap (λ (n : ℕ). length v + n) (sym (size (c ∷ cs) parts2.1)) in
        lands v qs
        (bytes w e h ∙ ap (λ (x : List ℕ). x ++ bytes_of ps) two ∙ append_assoc v (c ∷ cs) (bytes_of ps) ∙ ap (λ (x : List ℕ). v ++ (x ++ bytes_of ps)) (sym (blank_bytes (c ∷ cs) parts2.1)) ∙ ap (λ (x : List ℕ). v ++ x) (sym (encodes-append (c ∷ cs) (words_of ps))))
        (words w e ∙ ap (λ (x : List ℕ). x ++ words_of ps) two ∙ append_assoc v (c ∷ cs) (words_of ps))
        (blanks_all v parts2.0) (inr (u, refl, none))
        (first w e h ∙ ap (λ (n : ℕ). tokens_from (at + n) None ps) sizes ∙ ap (λ (n : ℕ). tokens_from n None ps) (sums at (length v) (size_of (c ∷ cs))) ∙ ap (λ (n : ℕ). tokens_from (at + length v + n) None ps) (zero (size_of (c ∷ cs))) ∙ sym (none_silent (a_piece (c ∷ cs) ∷ []) ps (at + length v) refl))
        (words_of ps, refl, parts2.1, after)
        (blank_inner ps (c ∷ cs) parts2.1 (later_inner p ps inner))
      where
        zero : (n : ℕ) → n ≡ n + 0
        zero n = omega arith

    run_on : (w : List ℕ) → p ≡ record { kind = blanks; word = w } → each is_blank w ≡ true → is_listed w 10 ≡ false → Landing (at + length w) ps → Landing at (p ∷ ps)
    run_on w e h none (lands v qs b ws all ends ts parts inner) =
        lands (w ++ v) qs
        (bytes w e h ∙ ap (λ (x : List ℕ). w ++ x) b ∙ sym (append_assoc w v (bytes_of qs)))
        (words w e ∙ ap (λ (x : List ℕ). w ++ x) ws ∙ sym (append_assoc w v (words_of qs)))
        (all_both w v (blanks_all w h) all)
        (ends_on ends)
        (first w e h ∙ ts ∙ ap (λ (n : ℕ). tokens_from n None qs) (sym (sums at (length w) (length v)) ∙ ap (λ (n : ℕ). at + n) (sym (length-append w v)))) parts inner
      where
        ends_on : ((qs ≡ []) × (is_listed v 10 ≡ false)) ⊎ ((u : List ℕ) × (v ≡ u ++ 10 ∷ []) × (is_listed u 10 ≡ false)) → ((qs ≡ []) × (is_listed (w ++ v) 10 ≡ false)) ⊎ ((u : List ℕ) × (w ++ v ≡ u ++ 10 ∷ []) × (is_listed u 10 ≡ false))
        ends_on (inl x) = inl (x.0, listed_then w v false false none x.1)
        ends_on (inr x) = inr (w ++ x.0, ap (λ (y : List ℕ). w ++ y) x.1 ∙ sym (append_assoc w x.0 (10 ∷ [])), listed_then w x.0 false false none x.2)
    run_on w e h none (inked v c more b n ink) = inked (w ++ v) c more (bytes w e h ∙ ap (λ (x : List ℕ). w ++ x) b ∙ sym (append_assoc w v (c ∷ more))) (listed_then w v false false none n) ink

    blank_run : (w : List ℕ) → p ≡ record { kind = blanks; word = w } → each is_blank w ≡ true → ((n : ℕ) → Landing n ps) → (b : Bool) → is_listed w 10 ≡ b → Landing at (p ∷ ps)
    blank_run w e h later true n = let l = at_first w n in broken w l.before l.behind e h l.is l.none
    blank_run w e h later false n = run_on w e h n (later (at + length w))

    by_kind : (k : PieceKind) (w : List ℕ) → p ≡ record { kind = k; word = w } → IsPiece k w → ((n : ℕ) → Landing n ps) → Landing at (p ∷ ps)
    by_kind blanks w e piece later = blank_run w e (blank_each w piece) later (is_listed w 10) refl
    by_kind remark w e piece later = subst (λ (v : Piece). Landing at (v ∷ ps)) (sym e) (begins_ink remark w ps at refl piece)
    by_kind (token k) w e piece later = subst (λ (v : Piece). Landing at (v ∷ ps)) (sym e) (begins_ink (token k) w ps at refl piece)
