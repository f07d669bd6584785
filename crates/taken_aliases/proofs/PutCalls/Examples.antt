-- What is written for an alias that is an expression, by its slot: in parentheses where `*T` is called; and a type that
-- begins with `[` before `,`, which no operand's swap lays out.
use Rattle.std.specs.Prelude.{◌≡◌, refl, [], false, true, None, codes}
use Rattle.go_tree.specs.Tree.{TypeExpr, named, pointer, slice_type, ident}
use Rattle.go_layout.specs.Layouts.{text_of}
use Rattle.go_tree.specs.declared.spans.Span.{Span}
use Rattle.run_rules.specs.FormTrees.{as_expr, type_expr}
use Rattle.run_rules.specs.Surroundings.{a_slot}
use Rattle.run_rules.specs.Texts.{form_layout}
use Rattle.splice_laws.specs.Forms.{new_layout}
use Rattle.splice_laws.specs.Swaps.{an_operand, a_callee}

abbrev place : Span
place = record { start = 0; end = 1 }

abbrev a-name : TypeExpr Span
a-name = named place None (record { span = place; name = codes "T" })

-- `P(x)` with `type P = *T` becomes `(*T)(x)`
called-pointer : text_of (form_layout place [] (a_slot 7 false true) (as_expr (type_expr place (pointer place a-name)))) ≡ codes "(*T)"
called-pointer = refl

-- `S(x)` with `type S = []T` becomes `[]T(x)`
called-slice : text_of (form_layout place [] (a_slot 7 false true) (as_expr (type_expr place (slice_type place a-name)))) ≡ codes "[]T"
called-slice = refl

-- `new(P)` becomes `new(*T)`
passed-pointer : text_of (form_layout place [] (a_slot 1 false true) (as_expr (type_expr place (pointer place a-name)))) ≡ codes "*T"
passed-pointer = refl

-- `make(S, n)` becomes `make([]T, n)`
passed-slice : text_of (form_layout place [] (a_slot 1 false true) (as_expr (type_expr place (slice_type place a-name)))) ≡ codes "[]T"
passed-slice = refl

-- but the operand that the laws of splices swap there stands in parentheses
swapped-slice : text_of (new_layout [] false false (an_operand 1 false (ident place (codes "S")) (type_expr place (slice_type place a-name)))) ≡ codes "([]T)"
swapped-slice = refl

-- as what is called it doesn't
swapped-callee : text_of (new_layout [] false false (a_callee false (ident place (codes "S")) (type_expr place (slice_type place a-name)))) ≡ codes "[]T"
swapped-callee = refl
