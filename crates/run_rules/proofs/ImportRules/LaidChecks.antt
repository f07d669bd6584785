-- Imports that lie in a text.
use Rattle.std.proofs.Common.{◌≡◌, ◌≤◌, ◌<◌, ℕ, ◌+◌, ◌-◌, get_or, true, false, List, [], ◌∷◌, None, refl, inl, inr, arith, codes}
use Rattle.go_tree.specs.declared.spans.Span.{Span}
use Rattle.go_tree.specs.declared.tokens.Token.{Token}
use Rattle.go_tree.specs.declared.tokens.TokenKind.TheVariants.{Ident, Operator}
use Rattle.go_tree.specs.File.{ImportSpec, File}
use Rattle.go_tree.specs.GoWords.Tokens.Characters.{is_blank}
use Rattle.run_rules.specs.ImportRules.Laid.{IsInked, StandInOrder, IsStart, SpecsLie, DeclLies, Laid}

abbrev at : ℕ → ℕ → Span
at a b = record { start = a; end = b }

abbrev word : ℕ → ℕ → Token
word a b = record { span = at a b; kind = Ident; spelling = [] }

abbrev semi : ℕ → Token
semi a = record { span = at a (a + 1); kind = Operator; spelling = codes ";" }

-- `import ("a"; "b")` and one import without a group
abbrev text : List ℕ
text = codes "package p\nimport (\"a\"; \"b\")\nimport \"c\"\n"

abbrev tokens : List Token
tokens = word 0 7 ∷ word 8 9 ∷ word 9 9 ∷ word 10 16 ∷ word 17 18 ∷ word 18 21 ∷ semi 21 ∷ word 23 26 ∷ word 26 27 ∷ word 27 27 ∷ word 28 34 ∷ word 35 38 ∷ word 38 38 ∷ []

abbrev spec_at : ℕ → ℕ → List ℕ → ImportSpec Span
spec_at a b p = record { span = at a b; name = None; path = p }

abbrev file : File Span
file = record {
  package_name = record { span = at 8 9; name = codes "p" };
  imports = record { span = at 10 27; grouped = true; specs = spec_at 18 21 (codes "a") ∷ spec_at 23 26 (codes "b") ∷ [] } ∷ record { span = at 28 38; grouped = false; specs = spec_at 35 38 (codes "c") ∷ [] } ∷ [];
  decls = [];
}

no_semi : (P : Type 0) → false ≡ true → P
no_semi P e = absurd (grind (arith, e))

ink : (a b : ℕ) → a < b → is_blank (get_or text a 32) ≡ false → is_blank (get_or text (b - 1) 32) ≡ false → IsInked text (at a b)
ink a b lt e f = (lt, e, f)

starts : IsStart text tokens 10
starts = (refl, inr (inr (inr (inl (refl, refl)))))

starts_a : IsStart text tokens 18
starts_a = (refl, inr (inr (inr (inr (inr (inl (refl, refl)))))))

starts_b : IsStart text tokens 23
starts_b = (refl, inr (inr (inr (inr (inr (inr (inr (inl (refl, refl)))))))))

ends : IsStart text tokens 26
ends = (refl, inr (inr (inr (inr (inr (inr (inr (inr (inl (refl, refl))))))))))

starts_c : IsStart text tokens 28
starts_c = (refl, inr (inr (inr (inr (inr (inr (inr (inr (inr (inr (inl (refl, refl))))))))))))

specs_lie : SpecsLie text tokens 11 26 (spec_at 18 21 (codes "a") ∷ spec_at 23 26 (codes "b") ∷ [])
specs_lie = (omega arith, ink 18 21 (omega arith) refl refl, starts_a, (omega arith, ink 23 26 (omega arith) refl refl, starts_b, omega arith))

group_lies : DeclLies text tokens (record { span = at 10 27; grouped = true; specs = spec_at 18 21 (codes "a") ∷ spec_at 23 26 (codes "b") ∷ [] })
group_lies = (ink 10 27 (omega arith) refl refl, starts, (specs_lie, ends))

single_lies : DeclLies text tokens (record { span = at 28 38; grouped = false; specs = spec_at 35 38 (codes "c") ∷ [] })
single_lies = (ink 28 38 (omega arith) refl refl, starts_c, (omega arith, ink 35 38 (omega arith) refl refl, refl))

word_in : (from a b : ℕ) (ts : List Token) → from ≤ a → a ≤ b → b ≤ 39 → StandInOrder text b ts → StandInOrder text from (word a b ∷ ts)
word_in from a b ts p q r h = (p, q, r, no_semi (IsInked text (at a b)), h)

semi_in : (from a : ℕ) (ts : List Token) → from ≤ a → a + 1 ≤ 39 → IsInked text (at a (a + 1)) → StandInOrder text (a + 1) ts → StandInOrder text from (semi a ∷ ts)
semi_in from a ts p r i h = (p, omega arith, r, λ e. i, h)

order : StandInOrder text 0 tokens
order = word_in 0 0 7 (word 8 9 ∷ word 9 9 ∷ word 10 16 ∷ word 17 18 ∷ word 18 21 ∷ semi 21 ∷ word 23 26 ∷ word 26 27 ∷ word 27 27 ∷ word 28 34 ∷ word 35 38 ∷ word 38 38 ∷ []) (omega arith) (omega arith) (omega arith) (word_in 7 8 9 (word 9 9 ∷ word 10 16 ∷ word 17 18 ∷ word 18 21 ∷ semi 21 ∷ word 23 26 ∷ word 26 27 ∷ word 27 27 ∷ word 28 34 ∷ word 35 38 ∷ word 38 38 ∷ []) (omega arith) (omega arith) (omega arith) (word_in 9 9 9 (word 10 16 ∷ word 17 18 ∷ word 18 21 ∷ semi 21 ∷ word 23 26 ∷ word 26 27 ∷ word 27 27 ∷ word 28 34 ∷ word 35 38 ∷ word 38 38 ∷ []) (omega arith) (omega arith) (omega arith) (word_in 9 10 16 (word 17 18 ∷ word 18 21 ∷ semi 21 ∷ word 23 26 ∷ word 26 27 ∷ word 27 27 ∷ word 28 34 ∷ word 35 38 ∷ word 38 38 ∷ []) (omega arith) (omega arith) (omega arith) (word_in 16 17 18 (word 18 21 ∷ semi 21 ∷ word 23 26 ∷ word 26 27 ∷ word 27 27 ∷ word 28 34 ∷ word 35 38 ∷ word 38 38 ∷ []) (omega arith) (omega arith) (omega arith) (word_in 18 18 21 (semi 21 ∷ word 23 26 ∷ word 26 27 ∷ word 27 27 ∷ word 28 34 ∷ word 35 38 ∷ word 38 38 ∷ []) (omega arith) (omega arith) (omega arith) (semi_in 21 21 (word 23 26 ∷ word 26 27 ∷ word 27 27 ∷ word 28 34 ∷ word 35 38 ∷ word 38 38 ∷ []) (omega arith) (omega arith) (ink 21 22 (omega arith) refl refl) (word_in 22 23 26 (word 26 27 ∷ word 27 27 ∷ word 28 34 ∷ word 35 38 ∷ word 38 38 ∷ []) (omega arith) (omega arith) (omega arith) (word_in 26 26 27 (word 27 27 ∷ word 28 34 ∷ word 35 38 ∷ word 38 38 ∷ []) (omega arith) (omega arith) (omega arith) (word_in 27 27 27 (word 28 34 ∷ word 35 38 ∷ word 38 38 ∷ []) (omega arith) (omega arith) (omega arith) (word_in 27 28 34 (word 35 38 ∷ word 38 38 ∷ []) (omega arith) (omega arith) (omega arith) (word_in 34 35 38 (word 38 38 ∷ []) (omega arith) (omega arith) (omega arith) (word_in 38 38 38 ([]) (omega arith) (omega arith) (omega arith) (tt)))))))))))))

lies : Laid text tokens file
lies = record { order = order; name_within = omega arith; name_ends = refl; imports = (omega arith, group_lies, (omega arith, single_lies, tt)) }
