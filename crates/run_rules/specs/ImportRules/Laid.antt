-- How the imports of a file lie in its text (Go specification, Source file organization; Import declarations; Tokens;
-- Semicolons).
use Rattle.std.specs.Prelude.{◌≡◌, ℕ, ◌+◌, ◌-◌, ◌≤◌, ◌<◌, ◌⊎◌, Bool, true, false, List}
use Rattle.std.specs.Prelude.{[], ◌∷◌, length, get_or}
use Rattle.go_tree.specs.declared.spans.Span.{Span}
use Rattle.go_tree.specs.declared.tokens.Token.{Token}
use Rattle.go_tree.specs.declared.tokens.Comment.{Comment}
use Rattle.go_tree.specs.File.{ImportSpec, ImportDecl, File}
use Rattle.go_tree.specs.GoWords.Tokens.Characters.{is_blank}
use Rattle.run_rules.specs.ImportRules.Removed.{is_semicolon}

-- a byte that isn't a blank stands at an offset of the text
abbrev pub IsInk : List ℕ → ℕ → Type 0
IsInk text at = is_blank (get_or text at 32) ≡ false

-- it starts and ends with such a byte
abbrev pub IsInked : List ℕ → Span → Type 0
IsInked text s = (s.start < s.end) × IsInk text s.start × IsInk text (s.end - 1)

-- The tokens stand in their order from an offset on, within the text; a written semicolon isn't empty.
abbrev pub StandInOrder : List ℕ → ℕ → List Token → Type 0
StandInOrder text from [] = Unit {0}
StandInOrder text from (t ∷ ts) =
    (from ≤ t.span.start) × (t.span.start ≤ t.span.end) × (t.span.end ≤ length text)
    × (is_semicolon t.kind t.spelling ≡ true → IsInked text t.span) × StandInOrder text t.span.end ts

-- Comments start in their order, at an offset or behind it.
abbrev pub CommentsAscend : ℕ → List Comment → Type 0
CommentsAscend from [] = Unit {0}
CommentsAscend from (c ∷ cs) = (from ≤ c.span.start) × CommentsAscend c.span.start cs

-- one of the tokens starts at the offset and is no semicolon
abbrev pub StartsAt : ℕ → List Token → Type 0
StartsAt at [] = ⊥
StartsAt at (t ∷ ts) = ((t.span.start ≡ at) × (is_semicolon t.kind t.spelling ≡ false)) ⊎ StartsAt at ts

module _ (text : List ℕ) (tokens : List Token) where
  -- a token starts with a byte at the offset
  abbrev pub IsStart : ℕ → Type 0
  IsStart at = IsInk text at × StartsAt at tokens

  -- Specs stand in their order from an offset on, before another.
  abbrev pub SpecsLie : ℕ → ℕ → List (ImportSpec Span) → Type 0
  SpecsLie from to [] = from ≤ to
  SpecsLie from to (s ∷ ss) =
      (from ≤ s.span.start) × IsInked text s.span × IsStart s.span.start × SpecsLie s.span.end to ss

  -- A group ends with its `)`; what isn't grouped is one spec behind `import`.
  abbrev pub BodyLies : Span → Bool → List (ImportSpec Span) → Type 0
  BodyLies d true ss = SpecsLie (d.start + 1) (d.end - 1) ss × IsStart (d.end - 1)
  BodyLies d false [] = ⊥
  BodyLies d false (s ∷ []) = (d.start < s.span.start) × IsInked text s.span × (s.span.end ≡ d.end)
  BodyLies d false (s ∷ s' ∷ ss) = ⊥

  -- A declaration starts and ends with a byte of its tokens, and its specs lie in it.
  abbrev pub DeclLies : ImportDecl Span → Type 0
  DeclLies d = IsInked text d.span × IsStart d.span.start × BodyLies d.span d.grouped d.specs

  -- Import declarations stand in their order from an offset on.
  abbrev pub DeclsLie : ℕ → List (ImportDecl Span) → Type 0
  DeclsLie from [] = Unit {0}
  DeclsLie from (d ∷ ds) = (from ≤ d.span.start) × DeclLies d × DeclsLie d.span.end ds

  -- The tokens are those of the text, and the package name and the imports of the file stand where their spans say.
  pub record Laid (file : File Span) : Type 0 where
    pub order : StandInOrder text 0 tokens
    pub name_within : file.package_name.span.end ≤ length text
    pub name_ends : IsInk text (file.package_name.span.end - 1)
    pub imports : DeclsLie file.package_name.span.end file.imports
