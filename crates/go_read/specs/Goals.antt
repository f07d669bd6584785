-- What a reader of tokens can be asked for, and what it answers.
use Rattle.std.specs.Prelude.{ℕ, ◌+◌, ◌*◌, Bool, List, length, Option}
use Rattle.go_tree.specs.declared.exprs.Rest.{Rest}
use Rattle.go_tree.specs.Tree.{NameAt, TypeExpr, Fields, Param, Sig, Expr, Exprs, Elems, Value, ValueOption, Stmt}
use Rattle.go_tree.specs.Tree.{Stmts, StmtOption, BlockOption, RangeLeft, Arms, Cases, ValueSpecs}
use Rattle.go_tree.specs.File.{ImportSpec, ImportDecl, TypeSpec, Receiver, Decl, File}
use Rattle.go_read.specs.SpellsTypes.{Lexemes}

-- the header of a `for` statement up to its first semicolon or brace, or through `range`
pub data Clause (S : Type 0) : Type 0 where
  plain_clause : Stmt S → Clause S
  range_clause : RangeLeft S → Clause S

-- A level is the least one of a binary operator. A truth value says whether a header is read, of parameters whether
-- they may
-- be variadic, and of an expression whether it stands without parentheses around it. `whole` holds the tokens from the
-- start of what is read already.
pub data Goal (S : Type 0) : Type 0 where
  read_type : Goal S
  read_fields : Goal S
  read_entries : Goal S
  read_named : Bool → Goal S
  read_unnamed : Bool → Goal S
  read_params : Bool → Goal S
  read_sig : Bool → Goal S
  read_names : Goal S
  read_expr : ℕ → Bool → Goal S
  read_more : ℕ → Bool → Lexemes → Expr S → Bool → Goal S
  read_unary : Bool → Goal S
  read_postfix : Bool → Lexemes → Expr S → Bool → Goal S
  read_operand : Bool → Goal S
  read_exprs : Bool → Goal S
  read_args : Goal S
  read_elems : Goal S
  read_elem : Goal S
  read_value : Goal S
  read_simple : Bool → Goal S
  read_simple_after : Bool → Lexemes → Exprs S → Goal S
  read_clause : Goal S
  read_stmt : Goal S
  read_stmts : Goal S
  read_block : Goal S
  read_arm : Goal S
  read_if : Goal S
  read_cases : Goal S
  read_decl : Bool → Goal S
  read_specs : Bool → Goal S
  read_spec : Bool → Goal S
  read_import_spec : Goal S
  read_import_specs : Goal S
  read_import : Goal S
  read_type_spec : Goal S
  read_type_specs : Goal S
  read_receiver : Goal S
  read_top : Goal S
  read_imports : Goal S
  read_tops : Goal S
  read_front : Goal S

-- what is answered to each goal; the truth value beside an expression says that no parentheses stand around it
abbrev pub Answer : {S : Type 0} → Goal S → Type 0
Answer {S} read_type = TypeExpr S
Answer {S} read_fields = Fields S
Answer {S} read_entries = TypeExpr S × List (S × NameAt S)
Answer {S} (read_named _) = List (Param S)
Answer {S} (read_unnamed _) = List (Param S)
Answer {S} (read_params _) = List (Param S)
Answer {S} (read_sig _) = Sig S
Answer {S} read_names = List (NameAt S)
Answer {S} (read_expr _ _) = Expr S × Bool
Answer {S} (read_more _ _ _ _ _) = Expr S × Bool
Answer {S} (read_unary _) = Expr S × Bool
Answer {S} (read_postfix _ _ _ _) = Expr S × Bool
Answer {S} (read_operand _) = Expr S
Answer {S} (read_exprs _) = Exprs S
Answer {S} read_args = Exprs S × Rest
Answer {S} read_elems = Elems S
Answer {S} read_elem = ValueOption S × Value S
Answer {S} read_value = Value S
Answer {S} (read_simple _) = Stmt S
Answer {S} (read_simple_after _ _ _) = Stmt S
Answer {S} read_clause = Clause S
Answer {S} read_stmt = Stmt S
Answer {S} read_stmts = Stmts S
Answer {S} read_block = S × Stmts S
Answer {S} read_arm = StmtOption S × Expr S × S × Stmts S
Answer {S} read_if = Arms S × BlockOption S
Answer {S} read_cases = Cases S
Answer {S} (read_decl _) = Bool × ValueSpecs S
Answer {S} (read_specs _) = ValueSpecs S
Answer {S} (read_spec _) = List (NameAt S) × Option (TypeExpr S) × Exprs S
Answer {S} read_import_spec = ImportSpec S
Answer {S} read_import_specs = List (ImportSpec S)
Answer {S} read_import = ImportDecl S
Answer {S} read_type_spec = TypeSpec S
Answer {S} read_type_specs = List (TypeSpec S)
Answer {S} read_receiver = Receiver S
Answer {S} read_top = Decl S
Answer {S} read_imports = List (ImportDecl S)
Answer {S} read_tops = List (Decl S)
Answer {S} read_front = File S

-- what is read at the front of these tokens, and the tokens after it
abbrev pub Reader : Type 0 → Type 0
Reader S = (g : Goal S) → Lexemes → Option (Answer g × Lexemes)

-- how many tokens an answer takes at least
abbrev pub least : {S : Type 0} → Goal S → ℕ
least read_type = 1
least read_fields = 0
least read_entries = 1
least (read_named _) = 1
least (read_unnamed _) = 1
least (read_params _) = 1
least (read_sig _) = 1
least read_names = 1
least (read_expr _ _) = 1
least (read_more _ _ _ _ _) = 0
least (read_unary _) = 1
least (read_postfix _ _ _ _) = 0
least (read_operand _) = 1
least (read_exprs _) = 1
least read_args = 1
least read_elems = 0
least read_elem = 1
least read_value = 1
least (read_simple _) = 1
least (read_simple_after _ _ _) = 0
least read_clause = 1
least read_stmt = 0
least read_stmts = 0
least read_block = 1
least read_arm = 1
least read_if = 1
least read_cases = 0
least (read_decl _) = 1
least (read_specs _) = 0
least (read_spec _) = 1
least read_import_spec = 1
least read_import_specs = 0
least read_import = 1
least read_type_spec = 1
least read_type_specs = 0
least read_receiver = 1
least read_top = 1
least read_imports = 0
least read_tops = 0
least read_front = 1

-- a goal asks for goals of lower rank at the same tokens
abbrev pub rank_of : {S : Type 0} → Goal S → ℕ
rank_of read_type = 0
rank_of read_fields = 1
rank_of read_entries = 0
rank_of (read_named _) = 1
rank_of (read_unnamed _) = 1
rank_of (read_params _) = 0
rank_of (read_sig _) = 1
rank_of read_names = 0
rank_of (read_expr _ _) = 2
rank_of (read_more _ _ _ _ _) = 0
rank_of (read_unary _) = 1
rank_of (read_postfix _ _ _ _) = 0
rank_of (read_operand _) = 3
rank_of (read_exprs _) = 4
rank_of read_args = 4
rank_of read_elems = 6
rank_of read_elem = 5
rank_of read_value = 4
rank_of (read_simple _) = 5
rank_of (read_simple_after _ _ _) = 0
rank_of read_clause = 5
rank_of read_stmt = 6
rank_of read_stmts = 7
rank_of read_block = 0
rank_of read_arm = 0
rank_of read_if = 1
rank_of read_cases = 0
rank_of (read_decl _) = 2
rank_of (read_specs _) = 2
rank_of (read_spec _) = 1
rank_of read_import_spec = 0
rank_of read_import_specs = 1
rank_of read_import = 0
rank_of read_type_spec = 0
rank_of read_type_specs = 1
rank_of read_receiver = 0
rank_of read_top = 0
rank_of read_imports = 1
rank_of read_tops = 1
rank_of read_front = 0

-- more than the steps that reading takes
abbrev pub weight : {S : Type 0} → Goal S → Lexemes → ℕ
weight g tokens = 8 * length tokens + rank_of g
