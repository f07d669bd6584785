-- Lines by tables: for each offset the number of its line, and for each line whether something holds of it.
use Rattle.std.specs.Prelude.{ℕ, zero, suc, ◌==◌, ◌+◌, ◌-◌, nat_lt, Bool, false, true, not, ◌&&◌}
use Rattle.std.specs.Prelude.{◌||◌, if◌then◌else◌, List, [], ◌∷◌, set, filter, map, length, replicate}
use Rattle.std.specs.List.{list_any}
use Rattle.go_tree.specs.declared.spans.Span.{Span}
use Rattle.go_tree.specs.declared.tokens.Token.{Token}
use Rattle.go_tree.specs.declared.tokens.Comment.{Comment}
use Rattle.directive_scan.specs.Lines.{line_of, is_mark}
use Rattle.directive_scan.specs.Items.{Item}

-- the line of the next byte
abbrev pub next_line : ℕ → ℕ → ℕ
next_line line byte = if byte == 10 then suc line else line

-- for each offset of the bytes, their end included, the number of its line
abbrev pub line_numbers : ℕ → List ℕ → List ℕ
line_numbers line [] = line ∷ []
line_numbers line (b ∷ bs) = line ∷ line_numbers (next_line line b) bs

-- the entry of a line, and `false` behind the last one
abbrev pub entry : List Bool → ℕ → Bool
entry [] line = false
entry (f ∷ fs) zero = f
entry (f ∷ fs) (suc line) = entry fs line

-- for each line, and the one behind the last, whether a mark is among its lead lines; `led` says so of the first
abbrev pub led_list : Bool → List Bool → List Bool → List Bool
led_list led [] marks = led ∷ []
led_list led (lead ∷ leads) [] = led ∷ []
led_list led (lead ∷ leads) (mark ∷ marks) = led ∷ led_list (lead && (mark || led)) leads marks

-- For each line whether something starts on one that it leads to, which is the next line, or one below further lead
-- lines. `starts` says on which lines something starts.
abbrev pub leads_list : List Bool → List Bool → List Bool
leads_list [] starts = []
leads_list (lead ∷ leads) [] = []
leads_list (lead ∷ leads) (start ∷ starts) =
    (lead && (entry starts 0 || entry (leads_list leads starts) 0)) ∷ leads_list leads starts

-- ---- flags of lines

-- the flags of so many lines from the first one on set to the value
abbrev pub filled : Bool → ℕ → ℕ → List Bool → List Bool
filled value first zero flags = flags
filled value first (suc count) flags = filled value (suc first) count (set flags first value)

-- the flags of the lines on which the span has a byte
abbrev pub span_flags : List ℕ → Bool → Span → List Bool → List Bool
span_flags text value s flags =
    if nat_lt s.start s.end
    then filled value (line_of text s.start) (line_of text (s.end - 1) + 1 - line_of text s.start) flags
    else flags

-- the same for each span
abbrev pub spans_flags : List ℕ → Bool → List Span → List Bool → List Bool
spans_flags text value [] flags = flags
spans_flags text value (s ∷ ss) flags = spans_flags text value ss (span_flags text value s flags)

-- the flags of the lines of the offsets
abbrev pub line_flags : List ℕ → List ℕ → List Bool → List Bool
line_flags text [] flags = flags
line_flags text (at ∷ ats) flags = line_flags text ats (set flags (line_of text at) true)

-- the flags of the lines on which the items start
abbrev pub start_flags : List ℕ → List Item → List Bool → List Bool
start_flags text [] flags = flags
start_flags text (i ∷ items) flags = start_flags text items (line_flags text i.starts flags)

-- the flags of the mark lines
abbrev pub mark_flags : List ℕ → List Comment → List Bool → List Bool
mark_flags text [] flags = flags
mark_flags text (c ∷ cs) flags =
    mark_flags text cs (if is_mark text c then set flags (line_of text c.span.start) true else flags)

-- the items that start on a line whose flag is set
abbrev pub flagged : List ℕ → List Bool → List Item → List Item
flagged text flags items = filter (λ i. list_any (λ at. entry flags (line_of text at)) i.starts) items

-- a cleared flag for each line
abbrev pub cleared : List ℕ → List Bool
cleared text = replicate (line_of text (length text) + 1) false

-- which lines hold a byte of a comment, and of no token
abbrev pub lead_table : List ℕ → List Token → List Comment → List Bool
lead_table text tokens comments =
    spans_flags text false (map (λ t. t.span) tokens)
    (spans_flags text true (map (λ c. c.span) comments) (cleared text))

-- for each line, and the one behind the last, whether a mark is among its lead lines
abbrev pub led_table : List ℕ → List Token → List Comment → List Bool
led_table text tokens comments =
    led_list false (lead_table text tokens comments) (mark_flags text comments (cleared text))

-- for each line whether an item starts on one that it leads to
abbrev pub leading_table : List ℕ → List Token → List Comment → List Item → List Bool
leading_table text tokens comments items =
    leads_list (lead_table text tokens comments) (start_flags text items (cleared text))

-- the mark lines whose flag is not set
abbrev pub unflagged : List ℕ → List Bool → List Comment → List Comment
unflagged text flags comments = filter (λ c. is_mark text c && not (entry flags (line_of text c.span.start))) comments
