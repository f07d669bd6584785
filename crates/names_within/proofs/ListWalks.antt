-- Walks over lists, entry by entry, and over blocks.
use Rattle.std.proofs.Common.{◌≡◌, ℕ, ◌<◌, ◌≤◌, ◌+◌, suc, List, [], ◌∷◌, length, drop, get_or, refl, sym, ap, ◌∙◌, add-one}
use Rattle.std.proofs.Math.Seq.{drop-cons}
use Rattle.std.proofs.lemmas.List.{drop_all}
use Rattle.go_tree.specs.declared.spans.Span.{Span}
use Rattle.go_tree.specs.Tree.{Stmts, no_stmts, stmt_and}
use Rattle.name_walks.specs.Walk.{Walk, enter, nesting, leave}
use Rattle.names_within.specs.TreeWalk.{after_stmts, after_block}

pub block_left : (to : ℕ) (b : Stmts Span) (s : Walk) → leave (nesting s) (after_stmts b (enter to s)) ≡ after_block to b s
block_left to no_stmts s = refl
block_left to (stmt_and x xs) s = refl

-- one more entry of a list
pub each_step : {A : Type 0} {W : Type 0} (walk : List A → W → W) (one : A → W → W) → ((x : A) (xs : List A) (s : W) → walk (x ∷ xs) s ≡ walk xs (one x s))
    → (xs : List A) (i : ℕ) (x : A) (s t whole : W) → i < length xs → x ≡ get_or xs i x → walk (drop i xs) s ≡ whole → t ≡ one x s → walk (drop (i + 1) xs) t ≡ whole
each_step walk one law xs i x s t whole h at inv e =
    let cut : drop i xs ≡ x ∷ drop (i + 1) xs = rw (add-one) (drop-cons xs i x h ∙ ap (λ y. y ∷ drop (suc i) xs) (sym at)) in
    ap (walk (drop (i + 1) xs)) e ∙ sym (law x (drop (i + 1) xs) s) ∙ ap (λ ys. walk ys s) (sym cut) ∙ inv

-- the end of a list
pub each_done : {A : Type 0} {W : Type 0} (walk : List A → W → W) → ((s : W) → walk [] s ≡ s) → (xs : List A) (n : ℕ) (s whole : W) → length xs ≤ n → walk (drop n xs) s ≡ whole → s ≡ whole
each_done walk law xs n s whole h inv = sym (law s) ∙ ap (λ ys. walk ys s) (sym (drop_all n xs h)) ∙ inv
