-- Function literals that are found, behind others.
use Rattle.std.proofs.Common.{◌≡◌, ◌∙◌, ◌++◌, List, [], Result, Ok, Err, OnOk, sym, ap, append_assoc, append-nil}

-- none is found
pub none_found : {A : Type 0} (xs : List A) → xs ≡ xs ++ []
none_found xs = sym (append-nil xs)

-- some are found, and then others
pub found_on :
    {A T E : Type 0} (r : Result T E) (a b xs ys zs : List A) → ys ≡ xs ++ a → OnOk r (zs ≡ ys ++ b) →
    OnOk r (zs ≡ xs ++ (a ++ b))
found_on (Ok v) a b xs ys zs h g = g ∙ ap (λ l. l ++ b) h ∙ append_assoc xs a b
found_on (Err e) a b xs ys zs h g = tt
