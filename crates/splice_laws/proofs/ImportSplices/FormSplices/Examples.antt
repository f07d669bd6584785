-- What is written for two forms, by the law; and that a type at the end is written otherwise before a comma.
use Rattle.std.specs.Prelude.{◌≡◌, refl, true, false, [], ◌∷◌, None, codes}
use Rattle.go_tree.specs.declared.spans.Span.{Span}
use Rattle.go_tree.specs.declared.tokens.TokenKind.TheVariants.{Ident, Operator}
use Rattle.go_tree.specs.declared.operators.UnOp.TheVariants.{Minus}
use Rattle.go_tree.specs.Tree.{named, slice_type, Expr, ident, type_operand, unary}
use Rattle.run_rules.specs.Surroundings.{a_slot}
use Rattle.run_rules.specs.FormTrees.{as_expr}
use Rattle.run_rules.specs.Texts.{FileText, form_edit}
use Rattle.run_rules.specs.Steps.{At}
use Rattle.run_rules.proofs.CaseTools.{at, tok, from}
use Rattle.splice_laws.specs.Swaps.{an_operand}
use Rattle.splice_laws.specs.ImportSplices.FormSplices.Laws.{swap_edit}

-- `a-x`, where `-b` is written for x
abbrev difference : FileText
difference = record { text = codes "a-x"; tokens = tok Ident 0 1 (codes "a") ∷ tok Operator 1 2 (codes "-") ∷ tok Ident 2 3 (codes "x") ∷ []; comments = [] }

abbrev negative : Expr At
negative = unary (from 2 3 2 3) Minus (ident (from 2 3 2 3) (codes "b"))

abbrev negative_there : Expr Span
negative_there = unary (at 3 5) Minus (ident (at 4 5) (codes "b"))

signs_apart : (swap_edit difference (from 2 3 2 3) (at 2 3) (a_slot 6 false false) (as_expr negative) false false (an_operand 6 false (ident (at 2 3) (codes "x")) negative_there)).text ≡ codes " -b"
signs_apart = refl

-- `f(A, 1)`, where `[]int` is written for A: before a comma it takes no parentheses, as an operand elsewhere it does
abbrev called_with_type : FileText
called_with_type = record { text = codes "f(A, 1)"; tokens = []; comments = [] }

abbrev a_slice : Expr At
a_slice = type_operand (from 2 3 2 3) (slice_type (from 2 3 2 3) (named (from 2 3 2 3) None (record { span = from 2 3 2 3; name = codes "int" })))

abbrev slice_there : Expr Span
slice_there = type_operand (at 2 7) (slice_type (at 2 7) (named (at 4 7) None (record { span = at 4 7; name = codes "int" })))

before_a_comma : (form_edit called_with_type (from 2 3 2 3) (at 2 3) (a_slot 1 false true) (as_expr a_slice)).text ≡ codes "[]int"
before_a_comma = refl

as_an_operand : (swap_edit called_with_type (from 2 3 2 3) (at 2 3) (a_slot 1 false true) (as_expr a_slice) false false (an_operand 1 false (ident (at 2 3) (codes "A")) slice_there)).text ≡ codes "([]int)"
as_an_operand = refl
