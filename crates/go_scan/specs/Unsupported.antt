-- Words of Go that lie outside the part that is supported: those that no production holds, which are the keywords
-- `chan`,
-- `fallthrough`, `go`, `goto`, `interface` and `select`, the operators `<-` and `~`, floating-point and imaginary
-- literals (Go specification, Keywords, Operators and punctuation), and a build constraint before the package clause
-- (go/build/constraint).
use Rattle.std.specs.Prelude.{◌≡◌, ℕ, ◌-◌, ◌≤◌, Bool, true, false, ◌&&◌, nat_eq, nat_lt, nat_le}
use Rattle.std.specs.Prelude.{List, [], ◌∷◌, ◌++◌, take, drop, Option, Some, None, codes, bytes_eq}
use Rattle.std.specs.Prelude.{if◌then◌else◌, Contains, All}
use Rattle.std.specs.List.{starts_with}
use Rattle.go_tree.specs.declared.spans.Span.{Span}
use Rattle.go_tree.specs.declared.tokens.Token.{Token}
use Rattle.go_tree.specs.declared.tokens.Comment.{Comment}
use Rattle.go_tree.specs.declared.tokens.TokenKind.{TokenKind}
use Rattle.go_tree.specs.declared.tokens.TokenKind.TheVariants.{Keyword}
use Rattle.go_tree.specs.GoWords.Terminals.{terminal_of, is_foreign}
use Rattle.go_tree.specs.GoWords.Tokens.Characters.{is_blank}

-- no production holds the token
abbrev pub is_unsupported : TokenKind → List ℕ → Bool
is_unsupported kind spelling = is_foreign (terminal_of kind spelling)

-- the keyword `package`
abbrev pub is_package : TokenKind → List ℕ → Bool
is_package Keyword spelling = bytes_eq spelling (codes "package")
is_package _ spelling = false

-- where the first `package` begins
abbrev pub package_start : List Token → Option ℕ
package_start [] = None
package_start (t ∷ ts) = if is_package t.kind t.spelling then Some t.span.start else package_start ts

-- the offset is before the first `package`
abbrev pub stands_before : ℕ → Option ℕ → Bool
stands_before start None = false
stands_before start (Some place) = nat_lt start place

-- a blank is next, or nothing
abbrev pub blank_or_end : List ℕ → Bool
blank_or_end [] = true
blank_or_end (b ∷ bs) = is_blank b

-- `//go:build` alone or followed by a blank
abbrev pub is_build_line : List ℕ → Bool
is_build_line bytes = starts_with nat_eq bytes (codes "//go:build") && blank_or_end (drop 10 bytes)

-- the bytes of a text within a span
abbrev pub bytes_in : List ℕ → Span → List ℕ
bytes_in text span = take (span.end - span.start) (drop span.start text)

-- a build constraint, which stands before the package clause
abbrev pub is_constraint : List ℕ → Option ℕ → Comment → Bool
is_constraint text place comment = stands_before comment.span.start place && is_build_line (bytes_in text comment.span)

-- the spans of build constraints
unfoldable pub constraint_spans : List ℕ → Option ℕ → List Comment → List Span
constraint_spans text place [] = []
constraint_spans text place (c ∷ cs) =
    if is_constraint text place c then c.span ∷ constraint_spans text place cs else constraint_spans text place cs

-- the spans of tokens that no production holds
unfoldable pub word_spans : List Token → List Span
word_spans [] = []
word_spans (t ∷ ts) = if is_unsupported t.kind t.spelling then t.span ∷ word_spans ts else word_spans ts

-- where the unsupported words stand
abbrev pub unsupported_spans : List ℕ → List Token → List Comment → List Span
unsupported_spans text tokens comments = constraint_spans text (package_start tokens) comments ++ word_spans tokens

-- the first of the spans, or nothing where there are none
abbrev pub IsFirst : List Span → Option Span → Type 0
IsFirst spans None = spans ≡ []
IsFirst spans (Some span) = Contains spans span × All (λ other. span.start ≤ other.start) spans

-- ---- as it is looked for

-- the span that begins first
abbrev pub earlier : Option Span → Span → Span
earlier None span = span
earlier (Some known) span = if nat_le known.start span.start then known else span

-- the first of a known span, if any, and those of tokens that no production holds
abbrev pub first_word : Option Span → List Token → Option Span
first_word known [] = known
first_word known (t ∷ ts) =
    first_word (if is_unsupported t.kind t.spelling then Some (earlier known t.span) else known) ts

-- the first of a known span, if any, and those of build constraints
abbrev pub first_constraint : List ℕ → Option ℕ → Option Span → List Comment → Option Span
first_constraint text place known [] = known
first_constraint text place known (c ∷ cs) =
    first_constraint text place (if is_constraint text place c then Some (earlier known c.span) else known) cs
