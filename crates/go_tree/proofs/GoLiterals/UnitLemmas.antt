-- What stands between the quotes of a string literal, one character or escape after another.
use Rattle.std.proofs.Common.{◌≡◌, ℕ, zero, suc, ◌+◌, ◌-◌, ◌<◌, ◌≤◌, Bool, true, false, ◌||◌, List, [], ◌∷◌, ◌++◌, length, take, drop, get_or, refl, sym, ap, subst, ◌∙◌, arith, append_assoc, length-drop, length-take, eq-eqb, if◌then◌else◌}
use Rattle.std.specs.Prelude.{nat_eq, encode_utf8}
use Rattle.std.proofs.Math.Seq.{drop-cons}
use Rattle.std.proofs.lemmas.List.{drop-drop}
use Rattle.std.proofs.lemmas.Bool.{ne_eqb}
use Rattle.std.proofs.lemmas.Bool.Decides.{nat_tests}
use Rattle.go_tree.specs.GoWords.Texts.{digits_in, is_octal, letter_escape, between_quotes, escape_value, interpreted_value, raw_value, text_value}
use Rattle.go_tree.specs.GoLiterals.Units.{BeginsEscape, IsUnits, plain, escaped, escape_size, escape_size_by, escaped_bytes}

-- ---- the first unit

pub units_first : (c : ℕ) (cs : List ℕ) → IsUnits (c ∷ cs) → (nat_eq c 92 ≡ true → BeginsEscape cs × IsUnits (drop (escape_size cs) cs)) × (nat_eq c 92 ≡ false → IsUnits cs)
units_first _ _ (plain c cs e u) = (λ h. absurd cc, λ h. u)
units_first _ _ (escaped c cs e b u) = (λ h. (b, u), λ h. absurd cc)

-- ---- what an escape stands for, and then the rest

abbrev value_by : Bool → Bool → Bool → Bool → (List ℕ → List ℕ) → ℕ → List ℕ → List ℕ
value_by o x u w value c cs =
    if o then digits_in 8 0 (take 3 (c ∷ cs)) ∷ value (drop 2 cs)
    else (if x then digits_in 16 0 (take 2 cs) ∷ value (drop 2 cs)
    else (if u then encode_utf8 (digits_in 16 0 (take 4 cs)) ++ value (drop 4 cs)
    else (if w then encode_utf8 (digits_in 16 0 (take 8 cs)) ++ value (drop 8 cs)
    else letter_escape c ∷ value cs)))

abbrev code_by : Bool → Bool → Bool → Bool → ℕ → List ℕ → ℕ
code_by o x u w c cs =
    if o then digits_in 8 0 (take 3 (c ∷ cs))
    else (if x then digits_in 16 0 (take 2 cs)
    else (if u then digits_in 16 0 (take 4 cs)
    else (if w then digits_in 16 0 (take 8 cs)
    else letter_escape c)))

abbrev size_by : Bool → Bool → Bool → Bool → ℕ
size_by o x u w = if o then 3 else (if x then 3 else (if u then 5 else (if w then 9 else 1)))

abbrev bytes_by : Bool → Bool → Bool → Bool → ℕ → List ℕ → List ℕ
bytes_by o x u w c cs = if u || w then encode_utf8 (code_by o x u w c cs) else code_by o x u w c cs ∷ []

parts_by : (o x u w : Bool) (value : List ℕ → List ℕ) (c : ℕ) (cs : List ℕ) → (o ≡ true → u || w ≡ false) → (x ≡ true → u || w ≡ false)
    → value_by o x u w value c cs ≡ bytes_by o x u w c cs ++ value (drop (size_by o x u w) (c ∷ cs))
parts_by true x u w value c cs p q =
    let f : Bool → List ℕ = λ b. (if b then encode_utf8 (digits_in 8 0 (take 3 (c ∷ cs))) else digits_in 8 0 (take 3 (c ∷ cs)) ∷ []) ++ value (drop 2 cs) in
    sym (ap f (p refl))
parts_by false true u w value c cs p q =
    let f : Bool → List ℕ = λ b. (if b then encode_utf8 (digits_in 16 0 (take 2 cs)) else digits_in 16 0 (take 2 cs) ∷ []) ++ value (drop 2 cs) in
    sym (ap f (q refl))
parts_by false false true w value c cs p q = refl
parts_by false false false true value c cs p q = refl
parts_by false false false false value c cs p q = refl

octal_names_byte : (c : ℕ) → is_octal c ≡ true → nat_eq c 117 || nat_eq c 85 ≡ false
octal_names_byte c h = grind (arith, nat_tests)

x_names_byte : (c : ℕ) → nat_eq c 120 ≡ true → nat_eq c 117 || nat_eq c 85 ≡ false
x_names_byte c h = grind (arith, nat_tests)

pub escape_parts : (value : List ℕ → List ℕ) (cs : List ℕ) → 0 < length cs → escape_value value cs ≡ escaped_bytes cs ++ value (drop (escape_size cs) cs)
escape_parts value [] h = absurd (omega arith)
escape_parts value (c ∷ cs) h = parts_by (is_octal c) (nat_eq c 120) (nat_eq c 117) (nat_eq c 85) value c cs (octal_names_byte c) (x_names_byte c)

size_pos : (c : ℕ) → 1 ≤ escape_size_by c
size_pos c = grind (arith, nat_tests)

-- ---- more steps than needed change nothing

drop_le : (k : ℕ) (cs : List ℕ) → length (drop k cs) ≤ length cs
drop_le k cs = omega (arith, length-drop k cs)

escapes_alike : (f g : List ℕ → List ℕ) (cs : List ℕ) → ((ds : List ℕ) → length ds ≤ length cs → f ds ≡ g ds) → escape_value f cs ≡ escape_value g cs
escapes_alike f g [] h = refl
escapes_alike f g (c ∷ cs) h =
    let some : 0 < length (c ∷ cs) = omega arith in
    escape_parts f (c ∷ cs) some
    ∙ ap (λ ds. escaped_bytes (c ∷ cs) ++ ds) (h (drop (escape_size (c ∷ cs)) (c ∷ cs)) (drop_le (escape_size (c ∷ cs)) (c ∷ cs)))
    ∙ sym (escape_parts g (c ∷ cs) some)

either_alike : (b : Bool) (x y v w : List ℕ) → x ≡ v → y ≡ w → (if b then x else y) ≡ (if b then v else w)
either_alike true x y v w p q = p
either_alike false x y v w p q = q

enough : (m n : ℕ) (cs : List ℕ) → length cs ≤ m → length cs ≤ n → interpreted_value m cs ≡ interpreted_value n cs
enough zero zero cs h k = refl
enough zero (suc n) [] h k = refl
enough zero (suc n) (c ∷ cs) h k = absurd (omega arith)
enough (suc m) zero [] h k = refl
enough (suc m) zero (c ∷ cs) h k = absurd (omega arith)
enough (suc m) (suc n) [] h k = refl
enough (suc m) (suc n) (c ∷ cs) h k =
    either_alike (nat_eq c 92) _ _ _ _
    (escapes_alike (interpreted_value m) (interpreted_value n) cs (λ ds l. enough m n ds (omega arith) (omega arith)))
    (ap (λ ds. c ∷ ds) (enough m n cs (omega arith) (omega arith)))

plain_step : (n c : ℕ) (cs : List ℕ) → length (c ∷ cs) ≤ n → nat_eq c 92 ≡ false → interpreted_value n (c ∷ cs) ≡ c ∷ interpreted_value n cs
plain_step zero c cs h e = absurd (omega arith)
plain_step (suc m) c cs h e =
    ap (λ (b : Bool). if b then escape_value (interpreted_value m) cs else c ∷ interpreted_value m cs) e
    ∙ ap (λ ds. c ∷ ds) (enough m (suc m) cs (omega arith) (omega arith))

escape_step : (n c : ℕ) (cs : List ℕ) → length (c ∷ cs) ≤ n → 0 < length cs → nat_eq c 92 ≡ true
    → interpreted_value n (c ∷ cs) ≡ escaped_bytes cs ++ interpreted_value n (drop (escape_size cs) cs)
escape_step zero c cs h s e = absurd (omega arith)
escape_step (suc m) c cs h s e =
    let l : length (drop (escape_size cs) cs) ≤ length cs = drop_le (escape_size cs) cs in
    ap (λ (b : Bool). if b then escape_value (interpreted_value m) cs else c ∷ interpreted_value m cs) e
    ∙ escape_parts (interpreted_value m) cs s
    ∙ ap (λ ds. escaped_bytes cs ++ ds) (enough m (suc m) (drop (escape_size cs) cs) (omega arith) (omega arith))

-- ---- at a place within the text

abbrev rest : List ℕ → ℕ → List ℕ
rest xs at = drop (at + 1) xs

cons_at : (xs : List ℕ) (at : ℕ) → at < length xs → drop at xs ≡ get_or xs at 0 ∷ rest xs at
cons_at xs at h =
    let e : suc at ≡ at + 1 = omega arith in
    drop-cons xs at 0 h ∙ ap (λ k. get_or xs at 0 ∷ drop k xs) e

past_escape : (xs : List ℕ) (at : ℕ) → drop (at + (1 + escape_size (rest xs at))) xs ≡ drop (escape_size (rest xs at)) (rest xs at)
past_escape xs at =
    let e : at + (1 + escape_size (rest xs at)) ≡ at + 1 + escape_size (rest xs at) = omega arith in
    ap (λ k. drop k xs) e ∙ sym (drop-drop (escape_size (rest xs at)) (at + 1) xs)

pub plain_at : (xs value whole : List ℕ) (at : ℕ) → at < length xs → (get_or xs at 0 ≡ 92 → ⊥)
    → value ++ interpreted_value (length xs) (drop at xs) ≡ whole → (value ++ get_or xs at 0 ∷ []) ++ interpreted_value (length xs) (rest xs at) ≡ whole
plain_at xs value whole at h d e =
    let l : length (get_or xs at 0 ∷ rest xs at) ≤ length xs = omega (arith, length-drop (at + 1) xs) in
    append_assoc value (get_or xs at 0 ∷ []) (interpreted_value (length xs) (rest xs at))
    ∙ ap (λ ds. value ++ ds) (sym (ap (interpreted_value (length xs)) (cons_at xs at h) ∙ plain_step (length xs) (get_or xs at 0) (rest xs at) l (ne_eqb (get_or xs at 0) 92 d)))
    ∙ e

pub escape_at : (xs value whole : List ℕ) (at : ℕ) → at < length xs → get_or xs at 0 ≡ 92 → 0 < length (rest xs at)
    → value ++ interpreted_value (length xs) (drop at xs) ≡ whole
    → (value ++ escaped_bytes (rest xs at)) ++ interpreted_value (length xs) (drop (at + (1 + escape_size (rest xs at))) xs) ≡ whole
escape_at xs value whole at h d s e =
    let l : length (get_or xs at 0 ∷ rest xs at) ≤ length xs = omega (arith, length-drop (at + 1) xs) in
    ap (λ ds. (value ++ escaped_bytes (rest xs at)) ++ interpreted_value (length xs) ds) (past_escape xs at)
    ∙ append_assoc value (escaped_bytes (rest xs at)) (interpreted_value (length xs) (drop (escape_size (rest xs at)) (rest xs at)))
    ∙ ap (λ ds. value ++ ds) (sym (ap (interpreted_value (length xs)) (cons_at xs at h) ∙ escape_step (length xs) (get_or xs at 0) (rest xs at) l s (eq-eqb (get_or xs at 0) 92 d)))
    ∙ e

pub units_after_plain : (xs : List ℕ) (at : ℕ) → at < length xs → (get_or xs at 0 ≡ 92 → ⊥) → IsUnits (drop at xs) → IsUnits (rest xs at)
units_after_plain xs at h d u = (units_first (get_or xs at 0) (rest xs at) (subst IsUnits (cons_at xs at h) u)).1 (ne_eqb (get_or xs at 0) 92 d)

pub escape_begins : (xs : List ℕ) (at : ℕ) → at < length xs → get_or xs at 0 ≡ 92 → IsUnits (drop at xs) → BeginsEscape (rest xs at)
escape_begins xs at h d u = ((units_first (get_or xs at 0) (rest xs at) (subst IsUnits (cons_at xs at h) u)).0 (eq-eqb (get_or xs at 0) 92 d)).0

pub units_after_escape : (xs : List ℕ) (at : ℕ) → at < length xs → get_or xs at 0 ≡ 92 → IsUnits (drop at xs) → IsUnits (drop (at + (1 + escape_size (rest xs at))) xs)
units_after_escape xs at h d u =
    subst IsUnits (sym (past_escape xs at)) (((units_first (get_or xs at 0) (rest xs at) (subst IsUnits (cons_at xs at h) u)).0 (eq-eqb (get_or xs at 0) 92 d)).1)

-- ---- a turn of the loop over the units

pub plain_turn : (xs value new whole : List ℕ) (at : ℕ) → at < length xs → (get_or xs at 0 ≡ 92 → ⊥) → new ≡ value ++ get_or xs at 0 ∷ [] → IsUnits (drop at xs)
    → value ++ interpreted_value (length xs) (drop at xs) ≡ whole
    → (at + 1 ≤ length xs) × IsUnits (drop (at + 1) xs) × (new ++ interpreted_value (length xs) (drop (at + 1) xs) ≡ whole)
plain_turn xs value new whole at h d n u e =
    (omega arith, units_after_plain xs at h d u, ap (λ ds. ds ++ interpreted_value (length xs) (drop (at + 1) xs)) n ∙ plain_at xs value whole at h d e)

pub escape_turn : (xs value new whole after : List ℕ) (at size : ℕ) → at < length xs → get_or xs at 0 ≡ 92 → after ≡ rest xs at → size ≡ escape_size after
    → new ≡ value ++ escaped_bytes after → IsUnits (drop at xs) → value ++ interpreted_value (length xs) (drop at xs) ≡ whole
    → (at + (1 + size) ≤ length xs) × IsUnits (drop (at + (1 + size)) xs) × (new ++ interpreted_value (length xs) (drop (at + (1 + size)) xs) ≡ whole)
escape_turn xs value new whole after at size h d a s n u e =
    let b : BeginsEscape (rest xs at) = escape_begins xs at h d u in
    let l : length (rest xs at) ≡ length xs - (at + 1) = length-drop (at + 1) xs in
    let w : escape_size (rest xs at) ≤ length (rest xs at) = b.whole in
    let p : 1 ≤ escape_size (rest xs at) = size_pos (get_or (rest xs at) 0 0) in
    let z : escape_size (rest xs at) ≡ size = sym (s ∙ ap escape_size a) in
    let m : new ≡ value ++ escaped_bytes (rest xs at) = n ∙ ap (λ ds. value ++ escaped_bytes ds) a in
    let some : 0 < length (rest xs at) = omega (arith, w, p) in
    let fits : at + (1 + escape_size (rest xs at)) ≤ length xs = omega (arith, w, p, l) in
    let same : new ++ interpreted_value (length xs) (drop (at + (1 + escape_size (rest xs at))) xs) ≡ whole =
    ap (λ ds. ds ++ interpreted_value (length xs) (drop (at + (1 + escape_size (rest xs at))) xs)) m ∙ escape_at xs value whole at h d some e in
    subst (λ (k : ℕ). (at + (1 + k) ≤ length xs) × IsUnits (drop (at + (1 + k)) xs) × (new ++ interpreted_value (length xs) (drop (at + (1 + k)) xs) ≡ whole)) z
    (fits, units_after_escape xs at h d u, same)

-- ---- what stands between double quotes

pub text_is : (cs : List ℕ) → 2 ≤ length cs → (get_or cs 0 0 ≡ 96 → ⊥) → text_value cs ≡ interpreted_value (length (between_quotes cs)) (between_quotes cs)
text_is [] h d = absurd (omega arith)
text_is (c ∷ cs) h d =
    let l : length (between_quotes (c ∷ cs)) ≤ length cs = omega (arith, length-take (length (c ∷ cs) - 2) cs) in
    ap (λ (b : Bool). if b then raw_value (between_quotes (c ∷ cs)) else interpreted_value (length cs) (between_quotes (c ∷ cs))) (ne_eqb c 96 d)
    ∙ enough (length cs) (length (between_quotes (c ∷ cs))) (between_quotes (c ∷ cs)) l (omega arith)
