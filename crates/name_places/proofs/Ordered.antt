-- The names of a tree that stand in their order: each behind those before it in the text (Go specification, Expressions;
-- Statements; Types). Parameters and fields that share a type share its names.
use Rattle.std.proofs.Common.{◌≡◌, ◌≤◌, ◌<◌, ◌⊎◌, ℕ, List, [], ◌∷◌, Option, Some, None}
use Rattle.go_tree.specs.declared.spans.Span.{Span}
use Rattle.go_tree.specs.Tree.{TypeExpr, named, pointer, slice_type, map_type, struct_type, Fields, no_fields, field, Param, Sig, Expr, Exprs, ExprOption, Elems, Value, ValueOption, Stmt, Stmts, StmtOption, BlockOption, RangeLeft, Arms, Cases, ValueSpecs, ident, int_lit, rune_lit, str_lit, composite, selector, index, slice, call, func_lit, type_operand, unary, binary, star, no_exprs, expr_and, no_expr, some_expr, no_elems, elem, plain, braced, no_value, some_value, const_decl, var_decl, empty, eval, step, assign, define, return_, break_, continue_, inner, if_, for_, range_, switch, defer, label, no_stmts, stmt_and, no_stmt, some_stmt, no_block, some_block, nothing, assigns, defines, no_arms, arm, no_cases, case, no_specs, spec, NameAt}
use Rattle.go_tree.specs.File.{TypeSpec, Receiver, Decl, values, types, func}
use Rattle.constant_steps.proofs.PlaceMeanings.Nested.{Lies, Split}

-- a part that ends before a span does, which lies between two bytes
pub record Short (lo hi : ℕ) (s : Span) (A : ℕ → Type 0) : Type 0 where
  pub lies : Lies lo hi s
  pub upto : ℕ
  pub from : lo ≤ upto
  pub before : upto < s.end
  pub part : A upto

-- ---- types

-- the next field has this type
abbrev pub Shares : TypeExpr Span → Fields Span → Type 0
Shares t no_fields = ⊥
Shares t (field s n u fs) = t ≡ u

-- the next parameter has it
abbrev pub SharesNext : TypeExpr Span → List (Param Span) → Type 0
SharesNext t [] = ⊥
SharesNext t (p ∷ ps) = t ≡ p.of

abbrev mutual
  pub TypeIn : TypeExpr Span → ℕ → ℕ → Type 0
  TypeIn (named s q n) lo hi = Lies lo hi s
  TypeIn (pointer s t) lo hi = TypeIn t lo hi
  TypeIn (slice_type s t) lo hi = TypeIn t lo hi
  TypeIn (map_type s k t) lo hi = Split lo hi (λ m. TypeIn k lo m) (λ m. TypeIn t m hi)
  TypeIn (struct_type s fs) lo hi = FieldsIn fs lo hi

  pub FieldsIn : Fields Span → ℕ → ℕ → Type 0
  FieldsIn no_fields lo hi = lo ≤ hi
  FieldsIn (field s n t fs) lo hi = Split lo hi (λ m. TypeIn t lo m) (λ m. FieldsIn fs m hi) ⊎ (Shares t fs × FieldsIn fs lo hi)

abbrev pub TypeOptionIn : Option (TypeExpr Span) → ℕ → ℕ → Type 0
TypeOptionIn None lo hi = lo ≤ hi
TypeOptionIn (Some t) lo hi = TypeIn t lo hi

abbrev pub ParamsIn : List (Param Span) → ℕ → ℕ → Type 0
ParamsIn [] lo hi = lo ≤ hi
ParamsIn (p ∷ ps) lo hi = Split lo hi (λ m. TypeIn p.of lo m) (λ m. ParamsIn ps m hi) ⊎ (SharesNext p.of ps × ParamsIn ps lo hi)

abbrev pub SigIn : Sig Span → ℕ → ℕ → Type 0
SigIn g lo hi = Split lo hi (λ m. ParamsIn g.params lo m) (λ m. ParamsIn g.results m hi)

abbrev pub NamesIn : List (NameAt Span) → ℕ → ℕ → Type 0
NamesIn [] lo hi = lo ≤ hi
NamesIn (n ∷ ns) lo hi = Split lo hi (λ m. Lies lo m n.span) (λ m. NamesIn ns m hi)

-- ---- expressions and statements

abbrev mutual
  pub ExprIn : Expr Span → ℕ → ℕ → Type 0
  ExprIn (ident s n) lo hi = Lies lo hi s
  ExprIn (int_lit s n) lo hi = lo ≤ hi
  ExprIn (rune_lit s n) lo hi = lo ≤ hi
  ExprIn (str_lit s n) lo hi = lo ≤ hi
  ExprIn (composite s t es) lo hi = Split lo hi (λ m. TypeIn t lo m) (λ m. ElemsIn es m hi)
  ExprIn (selector s b n) lo hi = Short lo hi s (λ m. ExprIn b lo m)
  ExprIn (index s b i) lo hi = Split lo hi (λ m. ExprIn b lo m) (λ m. ExprIn i m hi)
  ExprIn (slice s b i j) lo hi = Split lo hi (λ m. Split lo m (λ n. ExprIn b lo n) (λ n. ExprOptionIn i n m)) (λ m. ExprOptionIn j m hi)
  ExprIn (call s f xs r) lo hi = Split lo hi (λ m. ExprIn f lo m) (λ m. ExprsIn xs m hi)
  ExprIn (func_lit s g z b) lo hi = Split lo hi (λ m. SigIn g lo m) (λ m. StmtsIn b m hi)
  ExprIn (type_operand s t) lo hi = TypeIn t lo hi
  ExprIn (unary s o e) lo hi = ExprIn e lo hi
  ExprIn (binary s o a b) lo hi = Split lo hi (λ m. ExprIn a lo m) (λ m. ExprIn b m hi)
  ExprIn (star s e) lo hi = ExprIn e lo hi

  pub ExprsIn : Exprs Span → ℕ → ℕ → Type 0
  ExprsIn no_exprs lo hi = lo ≤ hi
  ExprsIn (expr_and e es) lo hi = Split lo hi (λ m. ExprIn e lo m) (λ m. ExprsIn es m hi)

  pub ExprOptionIn : ExprOption Span → ℕ → ℕ → Type 0
  ExprOptionIn no_expr lo hi = lo ≤ hi
  ExprOptionIn (some_expr e) lo hi = ExprIn e lo hi

  pub ElemsIn : Elems Span → ℕ → ℕ → Type 0
  ElemsIn no_elems lo hi = lo ≤ hi
  ElemsIn (elem s k v es) lo hi = Split lo hi (λ m. ValueOptionIn k lo m) (λ m. Split m hi (λ n. ValueIn v m n) (λ n. ElemsIn es n hi))

  pub ValueIn : Value Span → ℕ → ℕ → Type 0
  ValueIn (plain e) lo hi = ExprIn e lo hi
  ValueIn (braced s es) lo hi = ElemsIn es lo hi

  pub ValueOptionIn : ValueOption Span → ℕ → ℕ → Type 0
  ValueOptionIn no_value lo hi = lo ≤ hi
  ValueOptionIn (some_value v) lo hi = ValueIn v lo hi

  pub StmtIn : Stmt Span → ℕ → ℕ → Type 0
  StmtIn (const_decl s g ss) lo hi = SpecsIn ss lo hi
  StmtIn (var_decl s g ss) lo hi = SpecsIn ss lo hi
  StmtIn (empty s) lo hi = lo ≤ hi
  StmtIn (eval s e) lo hi = ExprIn e lo hi
  StmtIn (step s e b) lo hi = ExprIn e lo hi
  StmtIn (assign s xs o ys) lo hi = Split lo hi (λ m. ExprsIn xs lo m) (λ m. ExprsIn ys m hi)
  StmtIn (define s ns ys) lo hi = Split lo hi (λ m. NamesIn ns lo m) (λ m. ExprsIn ys m hi)
  StmtIn (return_ s xs) lo hi = ExprsIn xs lo hi
  StmtIn (break_ s n) lo hi = lo ≤ hi
  StmtIn (continue_ s n) lo hi = lo ≤ hi
  StmtIn (inner s b) lo hi = StmtsIn b lo hi
  StmtIn (if_ s bs z) lo hi = Split lo hi (λ m. ArmsIn bs lo m) (λ m. BlockOptionIn z m hi)
  StmtIn (for_ s i t q z b) lo hi =
      Split lo hi (λ m. Split lo m (λ n. Split lo n (λ k. StmtOptionIn i lo k) (λ k. ExprOptionIn t k n)) (λ n. StmtOptionIn q n m)) (λ m. StmtsIn b m hi)
  StmtIn (range_ s x e z b) lo hi = Split lo hi (λ m. Split lo m (λ n. LeftIn x lo n) (λ n. ExprIn e n m)) (λ m. StmtsIn b m hi)
  StmtIn (switch s i t cs) lo hi = Split lo hi (λ m. Split lo m (λ n. StmtOptionIn i lo n) (λ n. ExprOptionIn t n m)) (λ m. CasesIn cs m hi)
  StmtIn (defer s e) lo hi = ExprIn e lo hi
  StmtIn (label s n x) lo hi = StmtIn x lo hi

  pub StmtsIn : Stmts Span → ℕ → ℕ → Type 0
  StmtsIn no_stmts lo hi = lo ≤ hi
  StmtsIn (stmt_and s ss) lo hi = Split lo hi (λ m. StmtIn s lo m) (λ m. StmtsIn ss m hi)

  pub StmtOptionIn : StmtOption Span → ℕ → ℕ → Type 0
  StmtOptionIn no_stmt lo hi = lo ≤ hi
  StmtOptionIn (some_stmt s) lo hi = StmtIn s lo hi

  pub BlockOptionIn : BlockOption Span → ℕ → ℕ → Type 0
  BlockOptionIn no_block lo hi = lo ≤ hi
  BlockOptionIn (some_block s b) lo hi = StmtsIn b lo hi

  pub LeftIn : RangeLeft Span → ℕ → ℕ → Type 0
  LeftIn nothing lo hi = lo ≤ hi
  LeftIn (assigns es) lo hi = ExprsIn es lo hi
  LeftIn (defines ns) lo hi = lo ≤ hi

  pub ArmsIn : Arms Span → ℕ → ℕ → Type 0
  ArmsIn no_arms lo hi = lo ≤ hi
  ArmsIn (arm s i t z b r) lo hi =
      Split lo hi (λ m. Split lo m (λ n. Split lo n (λ k. StmtOptionIn i lo k) (λ k. ExprIn t k n)) (λ n. StmtsIn b n m)) (λ m. ArmsIn r m hi)

  pub CasesIn : Cases Span → ℕ → ℕ → Type 0
  CasesIn no_cases lo hi = lo ≤ hi
  CasesIn (case s es b cs) lo hi = Split lo hi (λ m. Split lo m (λ n. ExprsIn es lo n) (λ n. StmtsIn b n m)) (λ m. CasesIn cs m hi)

  pub SpecsIn : ValueSpecs Span → ℕ → ℕ → Type 0
  SpecsIn no_specs lo hi = lo ≤ hi
  SpecsIn (spec s ns t es ss) lo hi = Split lo hi (λ m. Split lo m (λ n. TypeOptionIn t lo n) (λ n. ExprsIn es n m)) (λ m. SpecsIn ss m hi)

-- ---- declarations

abbrev pub TypeSpecsIn : List (TypeSpec Span) → ℕ → ℕ → Type 0
TypeSpecsIn [] lo hi = lo ≤ hi
TypeSpecsIn (t ∷ ts) lo hi = Split lo hi (λ m. TypeIn t.of lo m) (λ m. TypeSpecsIn ts m hi)

abbrev pub ReceiverIn : Option (Receiver Span) → ℕ → ℕ → Type 0
ReceiverIn None lo hi = lo ≤ hi
ReceiverIn (Some r) lo hi = Lies lo hi r.of.span

abbrev pub DeclIn : Decl Span → ℕ → ℕ → Type 0
DeclIn (values s) lo hi = StmtIn s lo hi
DeclIn (types s g ts) lo hi = TypeSpecsIn ts lo hi
DeclIn (func f) lo hi = Split lo hi (λ m. Split lo m (λ n. ReceiverIn f.receiver lo n) (λ n. SigIn f.sig n m)) (λ m. StmtsIn f.body m hi)

-- each of a file lies somewhere
abbrev pub DeclsIn : List (Decl Span) → Type 0
DeclsIn [] = Unit {0}
DeclsIn (d ∷ ds) = ((lo : ℕ) × (hi : ℕ) × DeclIn d lo hi) × DeclsIn ds
