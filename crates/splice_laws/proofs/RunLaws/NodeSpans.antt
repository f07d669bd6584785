-- What holds of the spans of a tree's expressions, of its named types, of the names that `:=` declares, and of the
-- statements that a form may replace.
use Rattle.std.proofs.Common.{List, [], ◌∷◌, Option, Some, None}
use Rattle.go_tree.specs.Tree.{NameAt, TypeExpr, Fields, named, pointer, slice_type, map_type, struct_type, no_fields, field, Param, Sig, Expr, Exprs, ExprOption, Elems, Value, ValueOption, Stmt, Stmts, StmtOption, BlockOption, RangeLeft, Arms, Cases, ValueSpecs, ident, int_lit, rune_lit, str_lit, composite, selector, index, slice, call, func_lit, type_operand, unary, binary, star, no_exprs, expr_and, no_expr, some_expr, no_elems, elem, plain, braced, no_value, some_value, const_decl, var_decl, empty, eval, step, assign, define, return_, break_, continue_, inner, if_, for_, range_, switch, defer, label, no_stmts, stmt_and, no_stmt, some_stmt, no_block, some_block, nothing, assigns, defines, no_arms, arm, no_cases, case, no_specs, spec}
use Rattle.go_tree.specs.File.{TypeSpec, Receiver, Decl, values, types, func}

module _ {S : Type 0} (P : S → Type 0) where
  abbrev mutual
    pub AllType : TypeExpr S → Type 0
    AllType (named s q n) = P s
    AllType (pointer s t) = AllType t
    AllType (slice_type s t) = AllType t
    AllType (map_type s k t) = AllType k × AllType t
    AllType (struct_type s fs) = AllFields fs

    pub AllFields : Fields S → Type 0
    AllFields no_fields = Unit {0}
    AllFields (field s n t fs) = AllType t × AllFields fs

  abbrev pub AllTypeOption : Option (TypeExpr S) → Type 0
  AllTypeOption None = Unit {0}
  AllTypeOption (Some t) = AllType t

  abbrev pub AllParams : List (Param S) → Type 0
  AllParams [] = Unit {0}
  AllParams (x ∷ xs) = AllType x.of × AllParams xs

  abbrev pub AllSig : Sig S → Type 0
  AllSig g = AllParams g.params × AllParams g.results

  abbrev pub AllNames : List (NameAt S) → Type 0
  AllNames [] = Unit {0}
  AllNames (n ∷ ns) = P n.span × AllNames ns

  abbrev mutual
    pub AllExpr : Expr S → Type 0
    AllExpr (ident s n) = P s
    AllExpr (int_lit s n) = P s
    AllExpr (rune_lit s n) = P s
    AllExpr (str_lit s n) = P s
    AllExpr (composite s t es) = P s × AllType t × AllElems es
    AllExpr (selector s b n) = P s × AllExpr b
    AllExpr (index s b i) = P s × AllExpr b × AllExpr i
    AllExpr (slice s b i j) = P s × AllExpr b × AllExprOption i × AllExprOption j
    AllExpr (call s f xs r) = P s × AllExpr f × AllExprs xs
    AllExpr (func_lit s g z b) = P s × AllSig g × AllStmts b
    AllExpr (type_operand s t) = P s × AllType t
    AllExpr (unary s o e) = P s × AllExpr e
    AllExpr (binary s o a b) = P s × AllExpr a × AllExpr b
    AllExpr (star s e) = P s × AllExpr e

    pub AllExprs : Exprs S → Type 0
    AllExprs no_exprs = Unit {0}
    AllExprs (expr_and e es) = AllExpr e × AllExprs es

    pub AllExprOption : ExprOption S → Type 0
    AllExprOption no_expr = Unit {0}
    AllExprOption (some_expr e) = AllExpr e

    pub AllElems : Elems S → Type 0
    AllElems no_elems = Unit {0}
    AllElems (elem s k v es) = AllValueOption k × AllValue v × AllElems es

    pub AllValue : Value S → Type 0
    AllValue (plain e) = AllExpr e
    AllValue (braced s es) = AllElems es

    pub AllValueOption : ValueOption S → Type 0
    AllValueOption no_value = Unit {0}
    AllValueOption (some_value v) = AllValue v

    pub AllStmt : Stmt S → Type 0
    AllStmt (const_decl s g ss) = AllSpecs ss
    AllStmt (var_decl s g ss) = AllSpecs ss
    AllStmt (empty s) = Unit {0}
    AllStmt (eval s e) = P s × AllExpr e
    AllStmt (step s e b) = AllExpr e
    AllStmt (assign s xs o ys) = AllExprs xs × AllExprs ys
    AllStmt (define s ns ys) = AllNames ns × AllExprs ys
    AllStmt (return_ s xs) = P s × AllExprs xs
    AllStmt (break_ s n) = Unit {0}
    AllStmt (continue_ s n) = Unit {0}
    AllStmt (inner s b) = AllStmts b
    AllStmt (if_ s bs z) = AllArms bs × AllBlockOption z
    AllStmt (for_ s i t q z b) = AllStmtOption i × AllExprOption t × AllStmtOption q × AllStmts b
    AllStmt (range_ s x e z b) = AllLeft x × AllExpr e × AllStmts b
    AllStmt (switch s i t cs) = AllStmtOption i × AllExprOption t × AllCases cs
    AllStmt (defer s e) = AllExpr e
    AllStmt (label s n x) = AllStmt x

    pub AllStmts : Stmts S → Type 0
    AllStmts no_stmts = Unit {0}
    AllStmts (stmt_and s ss) = AllStmt s × AllStmts ss

    pub AllStmtOption : StmtOption S → Type 0
    AllStmtOption no_stmt = Unit {0}
    AllStmtOption (some_stmt s) = AllStmt s

    pub AllBlockOption : BlockOption S → Type 0
    AllBlockOption no_block = Unit {0}
    AllBlockOption (some_block s b) = AllStmts b

    pub AllLeft : RangeLeft S → Type 0
    AllLeft nothing = Unit {0}
    AllLeft (assigns es) = AllExprs es
    AllLeft (defines ns) = Unit {0}

    pub AllArms : Arms S → Type 0
    AllArms no_arms = Unit {0}
    AllArms (arm s i t z b r) = (AllStmtOption i × AllExpr t × AllStmts b) × AllArms r

    pub AllCases : Cases S → Type 0
    AllCases no_cases = Unit {0}
    AllCases (case s es b cs) = AllExprs es × AllStmts b × AllCases cs

    pub AllSpecs : ValueSpecs S → Type 0
    AllSpecs no_specs = Unit {0}
    AllSpecs (spec s ns t es ss) = AllTypeOption t × AllExprs es × AllSpecs ss

  abbrev pub AllTypeSpecs : List (TypeSpec S) → Type 0
  AllTypeSpecs [] = Unit {0}
  AllTypeSpecs (t ∷ ts) = AllType t.of × AllTypeSpecs ts

  abbrev pub AllReceiver : Option (Receiver S) → Type 0
  AllReceiver None = Unit {0}
  AllReceiver (Some r) = P r.of.span

  abbrev pub AllDecl : Decl S → Type 0
  AllDecl (values s) = AllStmt s
  AllDecl (types s g ts) = AllTypeSpecs ts
  AllDecl (func f) = AllReceiver f.receiver × AllSig f.sig × AllStmts f.body
