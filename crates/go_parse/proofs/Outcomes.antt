-- What the reading of a file says of the file.
use Rattle.std.proofs.Common.{◌≡◌, ℕ, List, [], ◌∷◌, Option, Some, None, refl, sym, ap, ◌∙◌, inl, inr}
use Rattle.go_tree.specs.declared.spans.Span.{Span}
use Rattle.go_tree.specs.declared.tokens.Token.{Token}
use Rattle.go_tree.specs.File.{File}
use Rattle.go_tree.specs.GoWords.Terminals.{lex, lexemes}
use Rattle.go_read.specs.SpellsSpans.{span_to, start_of}
use Rattle.go_read.specs.SpellsTypes.{Lexemes}
use Rattle.go_read.specs.SpellsFiles.{SpellsFile}
use Rattle.go_read.specs.Fronts.{first_or_end, IsRefusedAt}
use Rattle.go_read.specs.Goals.{read_front}
use Rattle.go_read.specs.Reading.{at}
use Rattle.go_read.proofs.Whole.{file_read, file_spelled, no_front, front_is_longest}
use Rattle.go_productions.specs.Terminals.{start_at}

-- where the first token starts, or the end of the text
pub start_is : (size : ℕ) (ts : Lexemes) (place : ℕ) → Some place ≡ start_at ts → place ≡ first_or_end size ts
start_is size [] place e = absurd (cc)
start_is size (lex s t ∷ ts) place e = cc

pub end_is : (size : ℕ) (ts : Lexemes) → None ≡ start_at ts → size ≡ first_or_end size ts
end_is size [] e = refl
end_is size (lex s t ∷ ts) e = absurd (cc)

-- the tokens that a function was handed, and those that it read
reads_same : (items : List Token) (ts : Lexemes) (o : Option (File Span × Lexemes)) → ts ≡ lexemes items → at span_to read_front ts ≡ o → at span_to read_front (lexemes items) ≡ o
reads_same items ts o same e = ap (at span_to read_front) (sym same) ∙ e

pub none_only : (items : List Token) (ts : Lexemes) → ts ≡ lexemes items → at span_to read_front ts ≡ None → (f : File Span) → SpellsFile items f → ⊥
none_only items ts same e f d = never (sym (reads_same items ts None same e) ∙ file_read items f d)
  where
    never : {p : File Span × Lexemes} → None ≡ Some p → ⊥
    never e = absurd (cc)

pub none_refused : (size place : ℕ) (items : List Token) (ts : Lexemes) → ts ≡ lexemes items → at span_to read_front ts ≡ None → place ≡ first_or_end size ts → IsRefusedAt size (lexemes items) place
none_refused size place items ts same e p = inr (no_front (lexemes items) (reads_same items ts None same e), p ∙ ap (first_or_end size) same)

begins : (after : Lexemes) (place : ℕ) → Some place ≡ start_at after → place ≡ start_of after
begins [] place e = absurd (cc)
begins (lex s t ∷ r) place e = cc

none_left : (after : Lexemes) → None ≡ start_at after → after ≡ []
none_left [] e = refl
none_left (lex s t ∷ r) e = absurd (cc)

not_empty : (after : Lexemes) (place : ℕ) → Some place ≡ start_at after → after ≡ [] → ⊥
not_empty [] place e z = absurd (cc)
not_empty (x ∷ r) place e z = absurd (cc)

left_is : (p q : File Span × Lexemes) → Some p ≡ Some q → p.1 ≡ q.1
left_is p q e = let same : p ≡ q = cc in ap (λ (z : File Span × Lexemes). z.1) same

tree_is : (p q : File Span × Lexemes) → Some p ≡ Some q → p.0 ≡ q.0
tree_is p q e = let same : p ≡ q = cc in ap (λ (z : File Span × Lexemes). z.0) same

pub left_only : (items : List Token) (ts after : Lexemes) (g : File Span) (place : ℕ) → ts ≡ lexemes items → at span_to read_front ts ≡ Some (g, after) → Some place ≡ start_at after → (f : File Span) → SpellsFile items f → ⊥
left_only items ts after g place same e head f d = not_empty after place head (left_is (g, after) (f, []) (sym (reads_same items ts (Some (g, after)) same e) ∙ file_read items f d))

pub left_refused : (size : ℕ) (items : List Token) (ts after : Lexemes) (g : File Span) (place : ℕ) → ts ≡ lexemes items → at span_to read_front ts ≡ Some (g, after) → Some place ≡ start_at after → IsRefusedAt size (lexemes items) place
left_refused size items ts after g place same e head =
    inl (after, front_is_longest g (lexemes items) after (reads_same items ts (Some (g, after)) same e), not_empty after place head, begins after place head)

pub whole_found : (items : List Token) (ts after : Lexemes) (g : File Span) → ts ≡ lexemes items → at span_to read_front ts ≡ Some (g, after) → None ≡ start_at after → SpellsFile items g
whole_found items ts after g same e none = file_spelled items g (reads_same items ts (Some (g, after)) same e ∙ ap (λ (us : Lexemes). Some (g, us)) (none_left after none))

pub whole_only : (items : List Token) (ts after : Lexemes) (g : File Span) → ts ≡ lexemes items → at span_to read_front ts ≡ Some (g, after) → (f : File Span) → SpellsFile items f → g ≡ f
whole_only items ts after g same e f d = tree_is (g, after) (f, []) (sym (reads_same items ts (Some (g, after)) same e) ∙ file_read items f d)
