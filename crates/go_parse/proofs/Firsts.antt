-- Tokens by the first of them, and answers of functions that pass on what another gives.
use Rattle.std.proofs.Common.{◌≡◌, ◌≢◌, ℕ, true, false, List, [], ◌∷◌, Some, None, refl, sym, ap, subst, ◌∙◌, arith}
use Rattle.go_tree.specs.declared.operators.BinOp.TheVariants.{Mul}
use Rattle.go_tree.specs.declared.spans.Span.{Span}
use Rattle.go_tree.specs.GoWords.Terminals as pure
use Rattle.go_read.specs.SpellsTypes.{Lexemes}
use Rattle.go_tree.specs.declared.go_words.terminals.Terminal.{Terminal}
use Rattle.go_tree.specs.declared.go_words.terminals.Terminal.TheVariants as code
use Rattle.go_tree.specs.GoWords.Codes.{spelled, code_of}
use Rattle.go_productions.specs.Terminals.{letters_of, taken, first_of}
use Rattle.go_parse.specs.Parts.{is_equals, is_star}

spelled_is : (t : pure.Terminal) → spelled (code_of t) (letters_of t) ≡ t
spelled_is (pure.ident w) = refl
spelled_is (pure.int_lit w) = refl
spelled_is (pure.rune_lit w) = refl
spelled_is (pure.str_lit w) = refl
spelled_is (pure.binary_op op) = refl
spelled_is (pure.assign op) = refl
spelled_is _ = refl

clash : (a : ℕ) → a ≡ 1 → 0 ≡ a → ⊥
clash a e f = omega (arith, e, f)

-- what holds of tokens that begin with this terminal
pub by_first : (P : Lexemes → Type 0) (k : Terminal) (ts : Lexemes) → first_of ts ≡ k → taken k ≡ 1 → ((s : Span) (w : List ℕ) (r : Lexemes) → P (pure.lex s (spelled k w) ∷ r)) → P ts
by_first P k [] e one h = absurd (clash (taken k) one (ap taken e))
by_first P k (pure.lex s t ∷ r) e one h =
    subst (λ (u : pure.Terminal). P (pure.lex s u ∷ r)) (ap (λ (k : Terminal). spelled k (letters_of t)) (sym e) ∙ spelled_is t) (h s (letters_of t) r)

pub apart : (ts : Lexemes) (k j : Terminal) → first_of ts ≡ k → (k ≡ j → ⊥) → first_of ts ≢ j
apart ts k j e f g = f (sym e ∙ g)

pub equals_yes : (k : Terminal) → is_equals k ≡ true → k ≡ code.Assign None
equals_yes (code.Assign None) e = refl
equals_yes (code.Assign (Some op)) e = absurd (cc)
equals_yes _ e = absurd (cc)

pub equals_off : (k : Terminal) → is_equals k ≡ false → k ≡ code.Assign None → ⊥
equals_off k e h = let yes : is_equals k ≡ true = ap is_equals h in absurd (cc)

pub star_yes : (k : Terminal) → is_star k ≡ true → k ≡ code.Binary Mul
star_yes (code.Binary Mul) e = refl
star_yes (code.Binary _) e = absurd (cc)
star_yes _ e = absurd (cc)

pub star_off : (k : Terminal) → is_star k ≡ false → k ≡ code.Binary Mul → ⊥
star_off k e h = let yes : is_star k ≡ true = ap is_star h in absurd (cc)
