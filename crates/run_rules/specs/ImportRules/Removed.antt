-- Which bytes go with an import spec or declaration (Go specification, Import declarations; Semicolons).
use Rattle.std.specs.Prelude.{ℕ, ◌+◌, ◌-◌, ◌==◌, Bool, true, false, not, ◌&&◌, nat_le, nat_lt, nat_eq}
use Rattle.std.specs.Prelude.{bytes_eq, if◌then◌else◌, List, [], ◌∷◌, ◌++◌, take, drop, reverse, codes}
use Rattle.std.specs.List.{list_any, list_all, prefix_len}
use Rattle.go_tree.specs.declared.spans.Span.{Span}
use Rattle.go_tree.specs.declared.tokens.Token.{Token}
use Rattle.go_tree.specs.declared.tokens.Comment.{Comment}
use Rattle.go_tree.specs.declared.tokens.TokenKind.{TokenKind}
use Rattle.go_tree.specs.declared.tokens.TokenKind.TheVariants.{Operator}
use Rattle.go_tree.specs.File.{ImportSpec, ImportDecl}
use Rattle.go_tree.specs.GoWords.Tokens.Characters.{is_blank}

-- the span from the one offset to the other
abbrev pub span_at : ℕ → ℕ → Span
span_at start end = record { start = start; end = end }

-- the spans are equal
abbrev pub same_span : Span → Span → Bool
same_span a b = nat_eq a.start b.start && nat_eq a.end b.end

-- a semicolon that is written in the text
abbrev pub is_semicolon : TokenKind → List ℕ → Bool
is_semicolon Operator spelling = bytes_eq spelling (codes ";")
is_semicolon _ spelling = false

-- the end of the first token from an offset on, where it is a written semicolon, else the offset
abbrev pub through_semicolon : List Token → ℕ → ℕ
through_semicolon [] at = at
through_semicolon (t ∷ ts) at =
    if nat_le at t.span.start
    then (if is_semicolon t.kind t.spelling then t.span.end else at) else through_semicolon ts at

-- ---- whole lines

-- a line feed
abbrev pub is_newline : ℕ → Bool
is_newline b = b == 10

-- the number of bytes before the first newline
abbrev pub bytes_to_newline : List ℕ → ℕ
bytes_to_newline bytes = prefix_len (λ b. not (is_newline b)) bytes

-- the start of the line on which an offset stands
abbrev pub line_start : List ℕ → ℕ → ℕ
line_start text at = at - bytes_to_newline (reverse (take at text))

-- 1 where a newline stands at the front
abbrev pub newline_size : List ℕ → ℕ
newline_size [] = 0
newline_size (b ∷ bs) = 1

-- the end of the line on which an offset stands, through its newline
abbrev pub line_end : List ℕ → ℕ → ℕ
line_end text at =
    at + bytes_to_newline (drop at text) + newline_size (drop (bytes_to_newline (drop at text)) (drop at text))

-- only blanks stand before an offset on its line
abbrev pub begins_line : List ℕ → ℕ → Bool
begins_line text at = list_all is_blank (drop (line_start text at) (take at text))

-- only blanks share the lines of a span
abbrev pub stands_alone : List ℕ → Span → Bool
stands_alone text s =
    begins_line text s.start && list_all is_blank (take (line_end text s.end - s.end) (drop s.end text))

-- widened to whole lines, where only blanks share them
abbrev pub widened : List ℕ → Span → Span
widened text s =
    if stands_alone text s then record { start = line_start text s.start; end = line_end text s.end } else s

-- ---- what goes

-- a comment starts in the span
abbrev pub comment_within : List Comment → Span → Bool
comment_within comments s = list_any (λ c. nat_le s.start c.span.start && nat_lt c.span.start s.end) comments

module _ (text : List ℕ) (tokens : List Token) (comments : List Comment) (unused : List Span) where
  -- a spec is removed
  abbrev pub goes : ImportSpec Span → Bool
  goes s = list_any (same_span s.span) unused

  -- a spec, or from `import` on where it isn't grouped
  abbrev pub spec_range : ImportDecl Span → ImportSpec Span → Span
  spec_range d s =
      widened text
      (record { start = if d.grouped then s.span.start else d.span.start; end = through_semicolon tokens s.span.end })

  -- a declaration
  abbrev pub decl_range : ImportDecl Span → Span
  decl_range d = widened text (record { start = d.span.start; end = through_semicolon tokens d.span.end })

  -- a comment starts in the declaration
  abbrev pub holds_comment : ImportDecl Span → Bool
  holds_comment d = comment_within comments d.span

  -- there is a spec
  abbrev pub has_specs : List (ImportSpec Span) → Bool
  has_specs [] = false
  has_specs (s ∷ ss) = true

  -- A group is removed as a whole; `grows` says that specs are added to it.
  abbrev pub goes_whole : Bool → ImportDecl Span → Bool
  goes_whole grows d =
      d.grouped && (not grows && (has_specs d.specs && (list_all goes d.specs && not (holds_comment d))))

  -- the ranges of the specs that are removed
  abbrev pub specs_ranges : ImportDecl Span → List (ImportSpec Span) → List Span
  specs_ranges d [] = []
  specs_ranges d (s ∷ ss) = if goes s then spec_range d s ∷ specs_ranges d ss else specs_ranges d ss

  -- the ranges that are removed of a declaration
  abbrev pub decl_ranges : Bool → ImportDecl Span → List Span
  decl_ranges grows d = if goes_whole grows d then decl_range d ∷ [] else specs_ranges d d.specs

  -- of all declarations; specs are added to the last one, where `grows` says so
  abbrev pub ranges : Bool → List (ImportDecl Span) → List Span
  ranges grows [] = []
  ranges grows (d ∷ []) = decl_ranges grows d
  ranges grows (d ∷ e ∷ ds) = decl_ranges false d ++ ranges grows (e ∷ ds)
