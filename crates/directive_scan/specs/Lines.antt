-- The lines of a text that comments and tokens stand on (Go specification, Comments), and the lines that mark what
-- follows them (golang.org/x/tools, analyzer inline: `//go:fix inline`).
-- Lines count from 0. Byte 10 ends a line, and belongs to the line that it ends.
use Rattle.std.specs.Prelude.{◌≡◌, ℕ, zero, suc, ◌-◌, ◌≤◌, ◌<◌, ◌==◌, Bool, true, false, not}
use Rattle.std.specs.Prelude.{◌&&◌, ◌||◌, nat_eq, nat_le, nat_lt, if◌then◌else◌, List, [], ◌∷◌}
use Rattle.std.specs.Prelude.{take, drop, reverse, take_while, codes}
use Rattle.std.specs.List.{list_any, list_all, starts_with, prefix_len}
use Rattle.go_tree.specs.declared.spans.Span.{Span}
use Rattle.go_tree.specs.declared.tokens.Token.{Token}
use Rattle.go_tree.specs.declared.tokens.Comment.{Comment}
use Rattle.text_places.specs.Lines.{lines_before}
use Rattle.go_tree.specs.GoWords.Tokens.Characters.{is_blank}
use Rattle.go_scan.specs.Unsupported.{bytes_in}

-- the line on which the byte at an offset stands, counted from 0
abbrev pub line_of : List ℕ → ℕ → ℕ
line_of text at = lines_before (take at text)

-- the span has a byte on the line
abbrev pub stands_on : List ℕ → ℕ → Span → Bool
stands_on text line s =
    nat_lt s.start s.end && (nat_le (line_of text s.start) line && nat_le line (line_of text (s.end - 1)))

-- ---- lead lines

-- the line holds a byte of a comment, and of no token
abbrev pub is_comment_line : List ℕ → List Token → List Comment → ℕ → Bool
is_comment_line text tokens comments line =
    list_any (λ c. stands_on text line c.span) comments && not (list_any (λ t. stands_on text line t.span) tokens)

-- The line is among the longest run of such lines directly before the other one.
pub record IsLead (is_lead : ℕ → Bool) (line before : ℕ) : Type 0 where
  pub above : line < before
  pub all : (k : ℕ) → line ≤ k → k < before → is_lead k ≡ true

-- ---- mark lines

-- what is before an offset on its line; the byte order mark at the start of a text is skipped
abbrev pub line_front : List ℕ → ℕ → List ℕ
line_front text at = reverse (take_while (λ b. not (b == 10)) (reverse (take at text)))

-- the byte order mark in UTF-8
abbrev pub without_mark : List ℕ → List ℕ
without_mark bytes = if starts_with nat_eq bytes (239 ∷ 187 ∷ 191 ∷ []) then drop 3 bytes else bytes

-- nothing is left
abbrev pub is_nothing : List ℕ → Bool
is_nothing [] = true
is_nothing (b ∷ bs) = false

-- after blanks, nothing or a further `//`
abbrev pub is_remark : List ℕ → Bool
is_remark rest = is_nothing rest || starts_with nat_eq rest (codes "//")

-- nothing, or blanks and then nothing or a further `//`
unfoldable pub may_follow : List ℕ → Bool
may_follow [] = true
may_follow (b ∷ bs) = is_blank b && is_remark (drop (prefix_len is_blank bs) bs)

-- the directive's word, alone or followed so
unfoldable pub is_inline : List ℕ → Bool
unfolding may_follow
is_inline bytes = starts_with nat_eq bytes (codes "inline") && may_follow (drop 6 bytes)

-- a line comment that is `//go:fix inline`, alone, or followed by blanks, or by blanks and a further `//`
abbrev pub is_directive : List ℕ → Bool
is_directive comment = starts_with nat_eq comment (codes "//go:fix ") && is_inline (drop 9 comment)

-- the comment makes its line a mark line: only blanks stand before it
abbrev pub is_mark : List ℕ → Comment → Bool
is_mark text c = is_directive (bytes_in text c.span) && list_all is_blank (without_mark (line_front text c.span.start))

-- a comment makes the line a mark line
abbrev pub is_mark_line : List ℕ → List Comment → ℕ → Bool
is_mark_line text comments line = list_any (λ c. is_mark text c && (line_of text c.span.start == line)) comments

-- ---- marked lines

-- A mark line is among the lead lines of the line: the line directly before it is a lead line, and is a mark line or
-- has one among its own.
abbrev pub is_led : (ℕ → Bool) → (ℕ → Bool) → ℕ → Bool
is_led is_lead marks zero = false
is_led is_lead marks (suc line) = is_lead line && (marks line || is_led is_lead marks line)

-- some line that passes is led by this one: the next line, or one that lies below further lead lines
abbrev pub leads_one : (ℕ → Bool) → (ℕ → Bool) → ℕ → ℕ → Bool
leads_one is_lead passes zero line = false
leads_one is_lead passes (suc more) line =
    is_lead line && (passes (suc line) || leads_one is_lead passes more (suc line))
