-- Where nodes stand: from the start of their first token to the end of their last, parentheses around them left out.
use Rattle.std.proofs.Common.{◌≡◌, ℕ, true, false, List, [], ◌∷◌, Option, Some, None, refl}
use Rattle.std.specs.Prelude.{codes}
use Rattle.go_tree.specs.declared.exprs.Rest.TheVariants.{Plain}
use Rattle.go_tree.specs.declared.spans.Span.{Span}
use Rattle.go_tree.specs.declared.operators.BinOp.TheVariants.{Add}
use Rattle.go_tree.specs.Tree.{named, ident, binary, call, no_exprs, expr_and, no_stmts, stmt_and, empty, eval, label}
use Rattle.go_read.specs.SpellsSpans.{span_to}
use Rattle.go_read.specs.Goals.{Goal, Answer, read_params, read_operand, read_block}
use Rattle.go_read.specs.Reading.{at}
use Rattle.go_read.proofs.Texts.{reading, lexed, whole_of}

unfoldable placed : (g : Goal Span) → List ℕ → Option (Answer g)
unfolding reading
placed g text = whole_of (at span_to g (lexed text))

abbrev from_to : ℕ → ℕ → Span
from_to m n = record { start = m; end = n }

-- the left operand has no parentheses, and the sum begins with them
sum_of_parens : placed (read_operand false) (codes "( a ) + b") ≡ Some (binary (from_to 0 9) Add (ident (from_to 2 3) (codes "a")) (ident (from_to 8 9) (codes "b")))
unfolding placed
sum_of_parens = refl

sum_in_parens : placed (read_operand false) (codes "( a + b )") ≡ Some (binary (from_to 2 7) Add (ident (from_to 2 3) (codes "a")) (ident (from_to 6 7) (codes "b")))
unfolding placed
sum_in_parens = refl

-- the statement has the parentheses, and the call has not
call_in_parens : placed read_block (codes "{ ( f ( x ) ) }") ≡ Some (from_to 0 15, stmt_and (eval (from_to 2 13) (call (from_to 4 11) (ident (from_to 4 5) (codes "f")) (expr_and (ident (from_to 8 9) (codes "x")) no_exprs) Plain)) no_stmts)
unfolding placed
call_in_parens = refl

-- an empty statement stands at the start of the token after it
empty_at_brace : placed read_block (codes "{ L : }") ≡ Some (from_to 0 7, stmt_and (label (from_to 2 5) (record { span = from_to 2 3; name = codes "L" }) (empty (from_to 6 6))) no_stmts)
unfolding placed
empty_at_brace = refl

-- each name of a group has the type, and reaches to its end
shared_type : placed (read_params false) (codes "( x , y int )")
    ≡ Some (record { span = from_to 2 11; name = Some (record { span = from_to 2 3; name = codes "x" }); rest = false; of = named (from_to 8 11) None (record { span = from_to 8 11; name = codes "int" }) }
    ∷ record { span = from_to 6 11; name = Some (record { span = from_to 6 7; name = codes "y" }); rest = false; of = named (from_to 8 11) None (record { span = from_to 8 11; name = codes "int" }) } ∷ [])
unfolding placed
shared_type = refl

-- a variadic parameter reaches from its name, or from the dots, to the end of its type
variadic_name : placed (read_params true) (codes "( xs ... int )")
    ≡ Some (record { span = from_to 2 12; name = Some (record { span = from_to 2 4; name = codes "xs" }); rest = true; of = named (from_to 9 12) None (record { span = from_to 9 12; name = codes "int" }) } ∷ [])
unfolding placed
variadic_name = refl

variadic_dots : placed (read_params true) (codes "( ... int )")
    ≡ Some (record { span = from_to 2 9; name = None; rest = true; of = named (from_to 6 9) None (record { span = from_to 6 9; name = codes "int" }) } ∷ [])
unfolding placed
variadic_dots = refl
