-- What is behind the last of a list.
use Rattle.std.proofs.Common.{◌≡◌, ◌∙◌, refl, sym, ap, ℕ, zero, suc, ◌+◌, ◌-◌, ◌≤◌, Bool, List, [], ◌∷◌, ◌++◌, length, take, drop, append-nil, Option, None, arith}
use Rattle.std.specs.Prelude.{slice_get}
use Rattle.std.proofs.lemmas.List.{drop_all, length-drop, take_all}
use Rattle.go_tree.specs.declared.spans.Span.{Span}
use Rattle.stepped_programs.specs.SwappedOrigins.{from_use}

none_there : {A : Type 0} (xs : List A) (i : ℕ) → length xs ≤ i → slice_get xs i ≡ None
none_there [] i h = refl
none_there (x ∷ xs) zero h = absurd (omega (arith, h))
none_there (x ∷ xs) (suc i) h = none_there xs i (omega (arith, h))

pub no_rest : (q : Bool) (xs os : List Span) (i : ℕ) → length os ≤ i → xs ≡ xs ++ (from_use q (slice_get os i) ++ drop (i + 1) os)
no_rest q xs os i h =
    sym (append-nil xs)
    ∙ sym
    (ap (λ (r : Option Span). xs ++ (from_use q r ++ drop (i + 1) os)) (none_there os i h)
    ∙ ap (λ (ys : List Span). xs ++ ys) (drop_all (i + 1) os (omega (arith, h))))

-- as many as there are
pub whole_rest : {A : Type 0} (xs : List A) (k : ℕ) → take (length xs - k) (drop k xs) ≡ drop k xs
whole_rest xs k = take_all (length xs - k) (drop k xs) (let many : length (drop k xs) ≡ length xs - k = length-drop k xs in omega (arith, many))
