-- Short ways to write trees, whose spans are all 0.
use Rattle.std.specs.Prelude.{ℕ, Bool, true, false, List, [], ◌∷◌, ◌++◌, Some, None, codes}
use Rattle.go_tree.specs.declared.operators.UnOp.{UnOp}
use Rattle.go_tree.specs.declared.operators.BinOp.{BinOp}
use Rattle.go_tree.specs.declared.exprs.Rest.TheVariants.{Plain}
use Rattle.go_tree.specs.Tree.{NameAt, TypeExpr, named, pointer, slice_type, struct_type, Fields, no_fields, field}
use Rattle.go_tree.specs.Tree.{Expr, ident, int_lit, rune_lit, str_lit, composite, selector, call, type_operand, unary}
use Rattle.go_tree.specs.Tree.{binary, star, Exprs, no_exprs, expr_and, Elems, no_elems, elem, plain, no_value}
use Rattle.go_tree.specs.Tree.{no_stmts}
use Rattle.go_tree.specs.File.{Decl, types, func}

-- a name
abbrev pub at : List ℕ → NameAt ℕ
at n = record { span = 0; name = n }

-- ---- types

-- the type of a name
abbrev pub type_of : List ℕ → TypeExpr ℕ
type_of n = named 0 None (at n)

-- a pointer to one
abbrev pub pointer_type : TypeExpr ℕ → TypeExpr ℕ
pointer_type t = pointer 0 t

-- a slice of one
abbrev pub slice_of_type : TypeExpr ℕ → TypeExpr ℕ
slice_of_type t = slice_type 0 t

-- fields of one type
abbrev pub fields_of : TypeExpr ℕ → List (List ℕ) → Fields ℕ
fields_of t [] = no_fields
fields_of t (n ∷ ns) = field 0 (at n) t (fields_of t ns)

-- a struct of them
abbrev pub struct_with : List (List ℕ) → TypeExpr ℕ → TypeExpr ℕ
struct_with ns t = struct_type 0 (fields_of t ns)

-- ---- expressions

-- a name
abbrev pub name : List ℕ → Expr ℕ
name n = ident 0 n

-- a whole number
abbrev pub number : List ℕ → Expr ℕ
number s = int_lit 0 s

-- a rune, whose number is written by two hexadecimal digits
abbrev pub rune : List ℕ → Expr ℕ
rune s = rune_lit 0 (codes "'\\x" ++ (s ++ codes "'"))

-- a string
abbrev pub text : List ℕ → Expr ℕ
text s = str_lit 0 s

-- an operand with an operator before it
abbrev pub with : UnOp → Expr ℕ → Expr ℕ
with o e = unary 0 o e

-- two operands with an operator between them
abbrev pub between : Expr ℕ → BinOp → Expr ℕ → Expr ℕ
between a o b = binary 0 o a b

-- a pointer's target, or the pointer type of a name
abbrev pub starred : Expr ℕ → Expr ℕ
starred e = star 0 e

-- a type where an expression stands
abbrev pub operand : TypeExpr ℕ → Expr ℕ
operand t = type_operand 0 t

-- a call or a conversion of one operand
abbrev pub of : Expr ℕ → Expr ℕ → Expr ℕ
of f e = call 0 f (expr_and e no_exprs) Plain

-- a call of a method without arguments
abbrev pub called : Expr ℕ → List ℕ → Expr ℕ
called e n = call 0 (selector 0 e (at n)) no_exprs Plain

-- elements without keys
abbrev pub elements : List (Expr ℕ) → Elems ℕ
elements [] = no_elems
elements (e ∷ es) = elem 0 no_value (plain e) (elements es)

-- a composite literal of them
abbrev pub literal : TypeExpr ℕ → List (Expr ℕ) → Expr ℕ
literal t es = composite 0 t (elements es)

-- ---- declarations

-- a type
abbrev pub defines : List ℕ → TypeExpr ℕ → Decl ℕ
defines n t = types 0 false (record { span = 0; name = at n; alias = false; of = t } ∷ [])

-- an alias
abbrev pub renames : List ℕ → TypeExpr ℕ → Decl ℕ
renames n t = types 0 false (record { span = 0; name = at n; alias = true; of = t } ∷ [])

-- a method without parameters and results, whose receiver has no name and is a pointer or not
abbrev pub method : List ℕ → Bool → List ℕ → Decl ℕ
method t is_pointer n =
    func
    (record {
      span = 0;
      receiver = Some (record { span = 0; name = None; pointer = is_pointer; of = at t });
      name = at n;
      sig = record { params = []; results = [] };
      body_span = 0;
      body = no_stmts;
    })
