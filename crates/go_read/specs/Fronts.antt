-- The longest front of a file that is spelled, and the place of a refusal.
use Rattle.std.specs.Prelude.{◌≡◌, ◌≢◌, ◌⊎◌, ℕ, ◌≤◌, [], ◌∷◌, length}
use Rattle.go_tree.specs.declared.spans.Span.{Span}
use Rattle.go_tree.specs.File.{File}
use Rattle.go_tree.specs.GoWords.Terminals.{lex}
use Rattle.go_read.specs.SpellsSpans.{span_to, start_of}
use Rattle.go_read.specs.SpellsTypes.{Lexemes}
use Rattle.go_read.specs.SpellsFiles.{SpellsFront}

-- the tokens before `rest` are a package clause, whole imports and whole declarations, and no more of them are
abbrev pub IsLongestFront : Lexemes → Lexemes → Type 0
IsLongestFront tokens rest = ((f : File Span) × SpellsFront span_to f tokens rest)
    × ((f : File Span) (other : Lexemes) → SpellsFront span_to f tokens other → length rest ≤ length other)

-- No file spells any front of the tokens, so the package clause isn't read.
abbrev pub HasNoFront : Lexemes → Type 0
HasNoFront tokens = (f : File Span) (rest : Lexemes) → SpellsFront span_to f tokens rest → ⊥

-- the start of the first token, or the end of the text where there is none
abbrev pub first_or_end : ℕ → Lexemes → ℕ
first_or_end size [] = size
first_or_end size (lex s t ∷ _) = s.start

-- no tree spells the tokens of a text of this size, and this is where the first part stands that isn't read
abbrev pub IsRefusedAt : ℕ → Lexemes → ℕ → Type 0
IsRefusedAt size tokens place =
    ((rest : Lexemes) × IsLongestFront tokens rest × (rest ≢ []) × (place ≡ start_of rest))
    ⊎ (HasNoFront tokens × (place ≡ first_or_end size tokens))
