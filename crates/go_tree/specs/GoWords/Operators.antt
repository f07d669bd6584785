-- How operators are spelled (Go specification, Operators and punctuation).
use Rattle.std.specs.Prelude.{ℕ, List, ◌++◌, Option, Some, None, codes}
use Rattle.go_tree.specs.declared.operators.UnOp.{UnOp}
use Rattle.go_tree.specs.declared.operators.UnOp.TheVariants.{Plus, Minus, Not, Flip, Address}
use Rattle.go_tree.specs.declared.operators.BinOp.{BinOp}
use Rattle.go_tree.specs.declared.operators.BinOp.TheVariants.{Mul, Div, Rem, Shl, Shr, And, AndNot, Add, Sub, Or, Xor}
use Rattle.go_tree.specs.declared.operators.BinOp.TheVariants.{Eq, Ne, Lt, Le, Gt, Ge, LogAnd, LogOr}

-- an operator between two operands
abbrev pub binary_spelling : BinOp → List ℕ
binary_spelling Mul = codes "*"
binary_spelling Div = codes "/"
binary_spelling Rem = codes "%"
binary_spelling Shl = codes "<<"
binary_spelling Shr = codes ">>"
binary_spelling And = codes "&"
binary_spelling AndNot = codes "&^"
binary_spelling Add = codes "+"
binary_spelling Sub = codes "-"
binary_spelling Or = codes "|"
binary_spelling Xor = codes "^"
binary_spelling Eq = codes "=="
binary_spelling Ne = codes "!="
binary_spelling Lt = codes "<"
binary_spelling Le = codes "<="
binary_spelling Gt = codes ">"
binary_spelling Ge = codes ">="
binary_spelling LogAnd = codes "&&"
binary_spelling LogOr = codes "||"

-- an operator in front of its operand; all but `!` stand between two operands too
abbrev pub unary_spelling : UnOp → List ℕ
unary_spelling Plus = binary_spelling Add
unary_spelling Minus = binary_spelling Sub
unary_spelling Not = codes "!"
unary_spelling Flip = binary_spelling Xor
unary_spelling Address = binary_spelling And

-- `=`, or an operator and `=`
abbrev pub assign_spelling : Option BinOp → List ℕ
assign_spelling None = codes "="
assign_spelling (Some op) = binary_spelling op ++ codes "="
