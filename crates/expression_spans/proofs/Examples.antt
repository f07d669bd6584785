-- The spans of the expressions of a block, counted by hand.
use Rattle.std.specs.Prelude.{◌≡◌, refl, ℕ, List, [], ◌∷◌, Option, Some, None, true, codes}
use Rattle.go_tree.specs.declared.spans.Span.{Span}
use Rattle.go_tree.specs.Tree.{Stmts}
use Rattle.go_read.specs.SpellsSpans.{span_to}
use Rattle.go_read.specs.Goals.{read_block}
use Rattle.go_read.specs.Reading.{at}
use Rattle.go_read.proofs.Texts.{reading, lexed, whole_of}
use Rattle.expression_spans.specs.Spans.{stmts_spans}
use Rattle.expression_spans.specs.Order.{ascends}

abbrev from_to : ℕ → ℕ → Span
from_to m n = record { start = m; end = n }

abbrev spans_in : Option (Span × Stmts Span) → List Span
spans_in None = []
spans_in (Some b) = stmts_spans b.1

unfoldable spans_of : List ℕ → List Span
unfolding reading
spans_of text = spans_in (whole_of (at span_to read_block (lexed text)))

abbrev block : List ℕ
block =
    codes "{ x , y := ( a . b ) ( - c , T { k : { 1 } , 2 : d [ i : ] } ) , func ( ) { p = q [ 0 ] + r * s } ( ) ; for i := n ; i < m ; i ++ { u ( i ) } }"

abbrev counted : List Span
counted =
    from_to 13 14 ∷ from_to 13 18 ∷ from_to 25 26 ∷ from_to 23 26 ∷ from_to 33 34 ∷ from_to 39 40 ∷ from_to 37 42
    ∷ from_to 45 46 ∷ from_to 49 50 ∷ from_to 53 54 ∷ from_to 49 58 ∷ from_to 29 60 ∷ from_to 11 62 ∷ from_to 76 77
    ∷ from_to 80 81 ∷ from_to 84 85 ∷ from_to 80 87 ∷ from_to 90 91 ∷ from_to 94 95 ∷ from_to 90 95 ∷ from_to 80 95
    ∷ from_to 65 97 ∷ from_to 65 101 ∷ from_to 113 114 ∷ from_to 117 118 ∷ from_to 121 122 ∷ from_to 117 122 ∷ from_to 125 126
    ∷ from_to 132 133 ∷ from_to 136 137 ∷ from_to 132 139 ∷ []

in_a_block : spans_of block ≡ counted
unfolding spans_of
in_a_block = refl

they_ascend : ascends counted ≡ true
they_ascend = refl
