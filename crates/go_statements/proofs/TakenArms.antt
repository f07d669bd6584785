-- How many tokens the statements take that are read.
use Rattle.std.proofs.Common.{◌≡◌, ◌≤◌, ◌-◌, ◌+◌, ℕ, [], ◌∷◌, ◌++◌, length, Some, sym, ap, ◌∙◌, arith}
use Rattle.std.specs.Prelude.{drop}
use Rattle.std.proofs.lemmas.List.{length-append}
use Rattle.go_tree.specs.declared.spans.Span.{Span}
use Rattle.go_tree.specs.Tree.{Stmts}
use Rattle.go_read.specs.SpellsSpans.{span_to}
use Rattle.go_read.specs.SpellsTypes.{Lexemes}
use Rattle.go_read.specs.Goals.{read_stmts}
use Rattle.go_read.specs.Reading.{at}
use Rattle.go_read.proofs.Sound.{at_sound}
use Rattle.go_read.proofs.Suffixes.{front_of, stmts_suffix}

abbrev tail_of : Lexemes → Lexemes
tail_of [] = []
tail_of (x ∷ ts) = ts

-- what is left behind a front
behind : (front r ts : Lexemes) → ts ≡ front ++ r → r ≡ drop (length front) ts
behind [] r ts e = sym e
behind (x ∷ front) r (t ∷ ts) e = behind front r ts (ap tail_of e)
behind (x ∷ front) r [] e = absurd cc

pub stmts_are_taken : (ts left : Lexemes) (n : ℕ) (b : Stmts Span) → at span_to read_stmts ts ≡ Some (b, left) → n ≡ length ts - length left → (n ≤ length ts) × (at span_to read_stmts ts ≡ Some (b, drop n ts))
stmts_are_taken ts left n b e d =
    let f = front_of (stmts_suffix span_to (at_sound span_to read_stmts ts (b, left) e).1) in
    let whole : length ts ≡ length f.0 + length left = ap (λ (us : Lexemes). length us) f.1 ∙ length-append f.0 left in
    let size : length f.0 ≡ n = omega arith in
    (omega arith, e ∙ ap (λ (r : Lexemes). Some (b, r)) (behind f.0 left ts f.1 ∙ ap (λ (k : ℕ). drop k ts) size))
