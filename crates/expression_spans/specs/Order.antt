-- The order in which parts of a text end, the shorter first of those that end at the same byte: a part of an expression
-- comes before the whole (Go specification, Expressions; Tokens).
use Rattle.std.specs.Prelude.{Bool, true, ◌&&◌, ◌||◌, List, [], ◌∷◌, nat_le, nat_lt, nat_eq}
use Rattle.std.specs.List.{list_all}
use Rattle.go_tree.specs.declared.spans.Span.{Span}
use Rattle.go_tree.specs.GoTypes.Answers.{meets, answers_of}
use Rattle.go_tree.specs.File.{Decl}
use Rattle.expression_spans.specs.Spans.{decl_spans, decl_span}

-- a span ends before another, or at the same byte and is the shorter
abbrev pub is_before : Span → Span → Bool
is_before s t = nat_lt s.end t.end || (nat_eq s.end t.end && nat_lt t.start s.start)

-- each is before all behind it
abbrev pub ascends : List Span → Bool
ascends [] = true
ascends (s ∷ ss) = list_all (is_before s) ss && ascends ss

-- a span with a byte at least lies in another
abbrev pub lies_in : Span → Span → Bool
lies_in whole s = nat_le whole.start s.start && (nat_lt s.start s.end && nat_le s.end whole.end)

-- the expressions of a declaration lie in it
abbrev pub holds_its_own : Decl Span → Bool
holds_its_own d = meets (decl_span d) (λ w. list_all (lies_in w) (decl_spans d))

-- each ends where those behind it begin, or before
abbrev pub stand_apart : List Span → Bool
stand_apart [] = true
stand_apart (s ∷ ss) = list_all (λ t. nat_le s.end t.start) ss && stand_apart ss

-- declarations stand one behind the other
abbrev pub decls_stand_apart : List (Decl Span) → Bool
decls_stand_apart ds = meets (answers_of decl_span ds) stand_apart
