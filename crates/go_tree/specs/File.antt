-- Files of Go source as values without places in memory.
use Rattle.std.specs.Prelude.{ℕ, Bool, List, Option}
use Rattle.go_tree.specs.Tree.{NameAt, TypeExpr, Sig, Stmt, Stmts}

-- one import: the name that it is given, if any, and the path as its literal says it
pub record ImportSpec (S : Type 0) : Type 0 where
  pub span : S
  pub name : Option (NameAt S)
  pub path : List ℕ

-- an import declaration; `grouped` says that its specs stand in parentheses
pub record ImportDecl (S : Type 0) : Type 0 where
  pub span : S
  pub grouped : Bool
  pub specs : List (ImportSpec S)

-- the declaration of a type, or of an alias
pub record TypeSpec (S : Type 0) : Type 0 where
  pub span : S
  pub name : NameAt S
  pub alias : Bool
  pub of : TypeExpr S

-- the receiver of a method: its name, if any, and its type, whether it is a pointer to that
pub record Receiver (S : Type 0) : Type 0 where
  pub span : S
  pub name : Option (NameAt S)
  pub pointer : Bool
  pub of : NameAt S

-- a function or a method, with the span of its body
pub record Func (S : Type 0) : Type 0 where
  pub span : S
  pub receiver : Option (Receiver S)
  pub name : NameAt S
  pub sig : Sig S
  pub body_span : S
  pub body : Stmts S

-- `values` is the declaration of constants or variables that the statement is
pub data Decl (S : Type 0) : Type 0 where
  values : Stmt S → Decl S
  types : S → Bool → List (TypeSpec S) → Decl S
  func : Func S → Decl S

-- a source file: its package clause, its imports, and its declarations in their order
pub record File (S : Type 0) : Type 0 where
  pub package_name : NameAt S
  pub imports : List (ImportDecl S)
  pub decls : List (Decl S)
