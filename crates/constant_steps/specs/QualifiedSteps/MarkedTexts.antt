-- What a constant is declared as that a mark can hold for: a name, or a name with an import's name before it (Go
-- specification, Constant declarations; Qualified identifiers).
use Rattle.std.specs.Prelude.{◌≡◌, ℕ, List, Option, None}
use Rattle.go_tree.specs.declared.spans.Span.{Span}
use Rattle.go_tree.specs.Tree.{NameAt, TypeExpr, Expr, ident, selector, Exprs, expr_and}

-- a name, qualified or not
pub data IsName : Expr Span → Type 0 where
  a_name : {s : Span} {n : List ℕ} → IsName (ident s n)
  a_qualified_name : {s t : Span} {q : List ℕ} {n : NameAt Span} → IsName (selector s (ident t q) n)

-- the first of these expressions, without a type, is a name
pub record NamesFirst (t : Option (TypeExpr Span)) (es : Exprs Span) : Type 0 where
  pub text : Expr Span
  pub rest : Exprs Span
  pub no_type : t ≡ None
  pub is : es ≡ expr_and text rest
  pub name : IsName text
