-- How a walk goes through the imports of a file.
use Rattle.std.specs.Prelude.{ℕ, ◌≤◌, Bool, not, ◌&&◌, if◌then◌else◌, List, [], ◌∷◌, length}
use Rattle.std.specs.List.{list_all}
use Rattle.go_tree.specs.declared.spans.Span.{Span}
use Rattle.go_tree.specs.File.{ImportSpec, ImportDecl}
use Rattle.run_rules.specs.ImportRules.Removed.{through_semicolon, has_specs, goes, spec_range}
use Rattle.import_edit.specs.declared.removed.Source.{Source}
use Rattle.import_edit.specs.declared.removed.Cursor.{Cursor}
use Rattle.import_edit.specs.Cursors.{TokensServe, CommentsServe}

-- From an offset on, what stands behind the cursor serves as well as all of it.
pub record Serves (source : Source) (cursor : Cursor) (from : ℕ) : Type 0 where
  pub tokens : TokensServe source.tokens.now cursor.token from
  pub comments : CommentsServe source.comments.now cursor.comment from

module _ (source : Source) where
  -- the semicolon behind an offset ends in the text
  abbrev pub EndsWithin : ℕ → Type 0
  EndsWithin at = through_semicolon source.tokens.now at ≤ length source.text.now

  -- Specs end in their order from an offset on, up to another, within the text.
  abbrev pub SpecsFit : ℕ → ℕ → List (ImportSpec Span) → Type 0
  SpecsFit from to [] = from ≤ to
  SpecsFit from to (s ∷ ss) =
      (from ≤ s.span.end) × (s.span.start ≤ length source.text.now) × EndsWithin s.span.end × SpecsFit s.span.end to ss

  -- A declaration stands in the text, and its specs in it.
  pub record DeclFits (d : ImportDecl Span) : Type 0 where
    pub start : d.span.start ≤ length source.text.now
    pub end : EndsWithin d.span.end
    pub specs : SpecsFit d.span.start d.span.end d.specs

  -- Declarations stand in their order from an offset on.
  abbrev pub DeclsFit : ℕ → List (ImportDecl Span) → Type 0
  DeclsFit from [] = Unit {0}
  DeclsFit from (d ∷ ds) =
      (from ≤ d.span.start) × (d.span.start ≤ d.span.end) × DeclFits d × DeclsFit d.span.end ds

  -- the range of a spec, where it goes
  abbrev pub spec_ranges : ImportDecl Span → ImportSpec Span → List Span
  spec_ranges d s =
      if goes source.text.now source.tokens.now source.comments.now source.unused.now s
      then spec_range source.text.now source.tokens.now source.comments.now source.unused.now d s ∷ [] else []

  -- a group whose specs all go, and to which none is added
  abbrev pub is_unused : ImportDecl Span → Bool → Bool
  is_unused d grows =
      d.grouped
      && (not grows
      && (has_specs source.text.now source.tokens.now source.comments.now source.unused.now d.specs
      && list_all (goes source.text.now source.tokens.now source.comments.now source.unused.now) d.specs))

-- What is left of a walk through the specs of a declaration.
pub record SpecsLeft (source : Source) (cursor : Cursor) (start to : ℕ) (specs : List (ImportSpec Span)) : Type 0 where
  pub from : ℕ
  pub behind : start ≤ from
  pub serves : TokensServe source.tokens.now cursor.token from
  pub fit : SpecsFit source from to specs

-- What is left of a walk through import declarations.
pub record DeclsLeft (source : Source) (cursor : Cursor) (decls : List (ImportDecl Span)) : Type 0 where
  pub from : ℕ
  pub serves : Serves source cursor from
  pub fit : DeclsFit source from decls
