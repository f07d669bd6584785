-- Marks as the keys of a set.
use Rattle.std.proofs.Common.{◌≡◌, ◌∙◌, ◌<◌, ◌+◌, ℕ, Bool, true, false, ◌||◌, cond, List, [], ◌∷◌, ◌++◌, length, drop, get_or, map, refl, ap, arith}
use Rattle.std.specs.List.{list_any}
use Rattle.std.proofs.lemmas.List.{get_or_default}
use Rattle.std.proofs.lemmas.List.Folds.{list_any-append}
use Rattle.std.proofs.lemmas.Bool.Decides.{nat_tests}
use Rattle.run_rules.specs.Sites.{MarkRef, same_mark, is_among_marks}
use Rattle.file_names.specs.declared.members.MarkRef as code
use Rattle.file_names.proofs.Walks.{one_gathered}
use Rattle.module_marks.specs.Views.{mark_ref_of}
use Rattle.module_marks.specs.Keys.{key_mark}

pub any_key :
    (p : MarkRef → Bool) (ks : List (ℕ × (ℕ × (ℕ × ℕ))))
    → list_any p (map key_mark ks) ≡ list_any (λ k. p (key_mark k)) ks
any_key p [] = refl
any_key p (k ∷ ks) = ap (λ b. p (key_mark k) || b) (any_key p ks)

is_same : (a b : MarkRef) → same_mark a b ≡ true → a ≡ b
is_same a b e = grind (arith, nat_tests, e)

last_key : (ks : List (ℕ × (ℕ × (ℕ × ℕ)))) (k : ℕ × (ℕ × (ℕ × ℕ))) → map key_mark (ks ++ k ∷ []) ≡ map key_mark ks ++ key_mark k ∷ []
last_key [] k = refl
last_key (x ∷ xs) k = ap (λ r. key_mark x ∷ r) (last_key xs k)

or_turned : (a b : Bool) → (a || (b || false)) ≡ (b || a)
or_turned true true = refl
or_turned true false = refl
or_turned false true = refl
or_turned false false = refl

there :
    (q m : MarkRef) (ms : List MarkRef) (t : Bool) → same_mark q m ≡ t → is_among_marks ms m ≡ true
    → is_among_marks ms q ≡ (t || is_among_marks ms q)
there q m ms true e h = ap (is_among_marks ms) (is_same q m e) ∙ h
there q m ms false e h = refl

-- the marks after one more key
pub key_added :
    (q : MarkRef) (ks : List (ℕ × (ℕ × (ℕ × ℕ)))) (k : ℕ × (ℕ × (ℕ × ℕ))) (b : Bool)
    → is_among_marks (map key_mark ks) (key_mark k) ≡ b
    → is_among_marks (map key_mark (cond b ks (ks ++ k ∷ []))) q ≡ (same_mark q (key_mark k) || is_among_marks (map key_mark ks) q)
key_added q ks k true h = there q (key_mark k) (map key_mark ks) (same_mark q (key_mark k)) refl h
key_added q ks k false h =
    ap (λ r. is_among_marks r q) (last_key ks k) ∙ list_any-append (same_mark q) (map key_mark ks) (key_mark k ∷ [])
    ∙ or_turned (is_among_marks (map key_mark ks) q) (same_mark q (key_mark k))

-- ---- marks that are added one by one

abbrev behind : Bool → Bool → Bool
behind a b = b || a

joined : (a b c : Bool) → behind (behind a b) c ≡ behind a (behind b c)
joined a b true = refl
joined a true false = refl
joined a false false = refl

either : (a b : Bool) → (a || b) ≡ (b || a)
either true true = refl
either true false = refl
either false true = refl
either false false = refl

pub one_added :
    (q : MarkRef) (ms : List code.MarkRef) (i : ℕ) (x : code.MarkRef) (old new : List MarkRef) (all : Bool) → i < length ms → x ≡ get_or ms i x
    → is_among_marks new q ≡ (same_mark q (mark_ref_of x) || is_among_marks old q)
    → (is_among_marks (map mark_ref_of (drop i ms)) q || is_among_marks old q) ≡ all
    → (is_among_marks (map mark_ref_of (drop (i + 1) ms)) q || is_among_marks new q) ≡ all
one_added q ms i x old new all h e n w =
    one_gathered behind joined (λ i xs. is_among_marks (map mark_ref_of xs) q) (λ i x. same_mark q (mark_ref_of x))
    (λ i x xs. either (same_mark q (mark_ref_of x)) (is_among_marks (map mark_ref_of xs) q))
    ms i x (is_among_marks old q) (is_among_marks new q) all h e n w

-- so where the mark is read at a number
pub one_read :
    (q : MarkRef) (ms : List code.MarkRef) (i : ℕ) (d : code.MarkRef) (old new : List MarkRef) (all : Bool) → i < length ms
    → is_among_marks new q ≡ (same_mark q (mark_ref_of (get_or ms i d)) || is_among_marks old q)
    → (is_among_marks (map mark_ref_of (drop i ms)) q || is_among_marks old q) ≡ all
    → (is_among_marks (map mark_ref_of (drop (i + 1) ms)) q || is_among_marks new q) ≡ all
one_read q ms i d old new all h n w =
    one_added q ms i (get_or ms i d) old new all h (get_or_default ms i d (get_or ms i d) h) n w
