-- Parts of a tree that stand one behind the other, and where they end: what may be a use ends behind one place, and by
-- another.
use Rattle.std.proofs.Common.{◌≡◌, ℕ, ◌<◌, ◌≤◌, ◌⊎◌, List, [], ◌∷◌, Option, Some, None}
use Rattle.go_tree.specs.declared.spans.Span.{Span}
use Rattle.go_tree.specs.Tree.{NameAt, TypeExpr, named, pointer, slice_type, map_type, struct_type, Fields, no_fields, field, Param, Sig, Expr, ident, int_lit, rune_lit, str_lit, composite, selector, index, slice, call, func_lit, type_operand, unary, binary, star, Exprs, no_exprs, expr_and, ExprOption, no_expr, some_expr, Elems, no_elems, elem, Value, plain, braced, ValueOption, no_value, some_value, Stmt, const_decl, var_decl, empty, eval, step, assign, define, return_, break_, continue_, inner, if_, for_, range_, switch, defer, label, Stmts, no_stmts, stmt_and, StmtOption, no_stmt, some_stmt, BlockOption, no_block, some_block, RangeLeft, nothing, assigns, defines, Arms, no_arms, arm, Cases, no_cases, case, ValueSpecs, no_specs, spec}
use Rattle.go_tree.specs.File.{TypeSpec, Receiver, Decl, values, types, func}
use Rattle.order_runs.proofs.RunSteps.SpanPlaces.{One, Two}

-- a span ends behind the one place and by the other
abbrev pub Ends : ℕ → ℕ → Span → Type 0
Ends lo hi s = (lo < s.end) × (s.end ≤ hi)

-- a part that ends before the span does, which is the last between the places
pub record Closed (s : Span) (lo hi : ℕ) (Q : ℕ → ℕ → Type 0) : Type 0 where
  pub upto : ℕ
  pub before : upto < s.end
  pub ends : Ends lo hi s
  pub it : Q lo upto

-- ---- types

-- the next field has this type too
abbrev pub FieldRepeats : TypeExpr Span → Fields Span → Type 0
FieldRepeats t no_fields = ⊥
FieldRepeats t (field s n u fs) = t ≡ u

abbrev mutual
  pub TypeIn : ℕ → ℕ → TypeExpr Span → Type 0
  TypeIn lo hi (named s q n) = Ends lo hi s
  TypeIn lo hi (pointer s t) = One lo hi (λ v w. TypeIn v w t)
  TypeIn lo hi (slice_type s t) = One lo hi (λ v w. TypeIn v w t)
  TypeIn lo hi (map_type s k t) = Two lo hi (λ a b. One a b (λ v w. TypeIn v w k)) (λ a b. One a b (λ v w. TypeIn v w t))
  TypeIn lo hi (struct_type s fs) = One lo hi (λ v w. FieldsIn v w fs)

  -- fields that share a type stand where their type does
  pub FieldsIn : ℕ → ℕ → Fields Span → Type 0
  FieldsIn lo hi no_fields = Unit {0}
  FieldsIn lo hi (field s n t fs) = (FieldRepeats t fs × FieldsIn lo hi fs) ⊎ Two lo hi (λ a b. One a b (λ v w. TypeIn v w t)) (λ a b. FieldsIn a b fs)

-- a type, perhaps in parentheses
abbrev pub OneType : ℕ → ℕ → TypeExpr Span → Type 0
OneType lo hi t = One lo hi (λ v w. TypeIn v w t)

abbrev pub TypeOptionIn : ℕ → ℕ → Option (TypeExpr Span) → Type 0
TypeOptionIn lo hi None = Unit {0}
TypeOptionIn lo hi (Some t) = OneType lo hi t

-- the next parameter has this type too
abbrev pub ParamRepeats : TypeExpr Span → List (Param Span) → Type 0
ParamRepeats t [] = ⊥
ParamRepeats t (x ∷ xs) = t ≡ x.of

-- parameters that share a type stand where their type does
abbrev pub ParamsIn : ℕ → ℕ → List (Param Span) → Type 0
ParamsIn lo hi [] = Unit {0}
ParamsIn lo hi (x ∷ xs) = (ParamRepeats x.of xs × ParamsIn lo hi xs) ⊎ Two lo hi (λ a b. OneType a b x.of) (λ a b. ParamsIn a b xs)

abbrev pub SigIn : ℕ → ℕ → Sig Span → Type 0
SigIn lo hi g = Two lo hi (λ a b. One a b (λ v w. ParamsIn v w g.params)) (λ a b. One a b (λ v w. ParamsIn v w g.results))

-- ---- names

abbrev pub NamesIn : ℕ → ℕ → List (NameAt Span) → Type 0
NamesIn lo hi [] = Unit {0}
NamesIn lo hi (n ∷ ns) = Two lo hi (λ a b. Ends a b n.span) (λ a b. NamesIn a b ns)

-- ---- expressions and statements

abbrev mutual
  pub ExprIn : ℕ → ℕ → Expr Span → Type 0
  ExprIn lo hi (ident s n) = Ends lo hi s
  ExprIn lo hi (int_lit s n) = Unit {0}
  ExprIn lo hi (rune_lit s n) = Unit {0}
  ExprIn lo hi (str_lit s n) = Unit {0}
  ExprIn lo hi (composite s t es) = Two lo hi (λ a b. OneType a b t) (λ a b. One a b (λ v w. ElemsIn v w es))
  ExprIn lo hi (selector s b n) = Closed s lo hi (λ a c. One a c (λ v w. ExprIn v w b))
  ExprIn lo hi (index s b i) = Two lo hi (λ a c. One a c (λ v w. ExprIn v w b)) (λ a c. One a c (λ v w. ExprIn v w i))
  ExprIn lo hi (slice s b i j) = Two lo hi (λ x y. Two x y (λ a c. One a c (λ v w. ExprIn v w b)) (λ d e. OptionIn d e i)) (λ d e. OptionIn d e j)
  ExprIn lo hi (call s f xs r) = Closed s lo hi (λ x y. Two x y (λ a c. One a c (λ v w. ExprIn v w f)) (λ d e. One d e (λ v w. ExprsIn v w xs)))
  ExprIn lo hi (func_lit s g z b) = One lo hi (λ x y. Two x y (λ a c. SigIn a c g) (λ a c. One a c (λ v w. StmtsIn v w b)))
  ExprIn lo hi (type_operand s t) = OneType lo hi t
  ExprIn lo hi (unary s o e) = One lo hi (λ v w. ExprIn v w e)
  ExprIn lo hi (binary s o x y) = Two lo hi (λ a c. One a c (λ v w. ExprIn v w x)) (λ a c. One a c (λ v w. ExprIn v w y))
  ExprIn lo hi (star s e) = One lo hi (λ v w. ExprIn v w e)

  pub ExprsIn : ℕ → ℕ → Exprs Span → Type 0
  ExprsIn lo hi no_exprs = Unit {0}
  ExprsIn lo hi (expr_and e es) = Two lo hi (λ a b. One a b (λ v w. ExprIn v w e)) (λ a b. ExprsIn a b es)

  pub OptionIn : ℕ → ℕ → ExprOption Span → Type 0
  OptionIn lo hi no_expr = Unit {0}
  OptionIn lo hi (some_expr e) = One lo hi (λ v w. ExprIn v w e)

  pub ElemsIn : ℕ → ℕ → Elems Span → Type 0
  ElemsIn lo hi no_elems = Unit {0}
  ElemsIn lo hi (elem s k v es) = Two lo hi (λ a b. Two a b (λ c d. KeyIn c d k) (λ c d. ValueIn c d v)) (λ a b. ElemsIn a b es)

  pub KeyIn : ℕ → ℕ → ValueOption Span → Type 0
  KeyIn lo hi no_value = Unit {0}
  KeyIn lo hi (some_value v) = ValueIn lo hi v

  pub ValueIn : ℕ → ℕ → Value Span → Type 0
  ValueIn lo hi (plain e) = One lo hi (λ v w. ExprIn v w e)
  ValueIn lo hi (braced s es) = One lo hi (λ a b. ElemsIn a b es)

  pub StmtIn : ℕ → ℕ → Stmt Span → Type 0
  StmtIn lo hi (const_decl s g ss) = One lo hi (λ a b. SpecsIn a b ss)
  StmtIn lo hi (var_decl s g ss) = One lo hi (λ a b. SpecsIn a b ss)
  StmtIn lo hi (empty s) = Unit {0}
  StmtIn lo hi (eval s e) = One lo hi (λ v w. ExprIn v w e)
  StmtIn lo hi (step s e b) = One lo hi (λ v w. ExprIn v w e)
  StmtIn lo hi (assign s xs o ys) = Two lo hi (λ a b. ExprsIn a b xs) (λ a b. ExprsIn a b ys)
  StmtIn lo hi (define s ns ys) = Two lo hi (λ a b. NamesIn a b ns) (λ a b. ExprsIn a b ys)
  StmtIn lo hi (return_ s xs) = One lo hi (λ a b. ExprsIn a b xs)
  StmtIn lo hi (break_ s n) = Unit {0}
  StmtIn lo hi (continue_ s n) = Unit {0}
  StmtIn lo hi (inner s b) = One lo hi (λ v w. StmtsIn v w b)
  StmtIn lo hi (if_ s bs z) = Two lo hi (λ a b. ArmsIn a b bs) (λ a b. BlockIn a b z)
  StmtIn lo hi (for_ s i t q z b) = One lo hi (λ x y. Two x y (λ c d. Two c d (λ e f. Two e f (λ g h. FirstIn g h i) (λ g h. OptionIn g h t)) (λ e f. FirstIn e f q)) (λ c d. One c d (λ v w. StmtsIn v w b)))
  StmtIn lo hi (range_ s x e z b) = One lo hi (λ y w. Two y w (λ c d. Two c d (λ f g. LeftIn f g x) (λ f g. One f g (λ v w. ExprIn v w e))) (λ c d. One c d (λ v w. StmtsIn v w b)))
  StmtIn lo hi (switch s i t cs) = One lo hi (λ y w. Two y w (λ c d. Two c d (λ f g. FirstIn f g i) (λ f g. OptionIn f g t)) (λ c d. CasesIn c d cs))
  StmtIn lo hi (defer s e) = One lo hi (λ v w. ExprIn v w e)
  StmtIn lo hi (label s n x) = One lo hi (λ a b. StmtIn a b x)

  pub StmtsIn : ℕ → ℕ → Stmts Span → Type 0
  StmtsIn lo hi no_stmts = Unit {0}
  StmtsIn lo hi (stmt_and s ss) = Two lo hi (λ a b. StmtIn a b s) (λ a b. StmtsIn a b ss)

  pub FirstIn : ℕ → ℕ → StmtOption Span → Type 0
  FirstIn lo hi no_stmt = Unit {0}
  FirstIn lo hi (some_stmt s) = One lo hi (λ a b. StmtIn a b s)

  pub BlockIn : ℕ → ℕ → BlockOption Span → Type 0
  BlockIn lo hi no_block = Unit {0}
  BlockIn lo hi (some_block s b) = One lo hi (λ v w. StmtsIn v w b)

  pub LeftIn : ℕ → ℕ → RangeLeft Span → Type 0
  LeftIn lo hi nothing = Unit {0}
  LeftIn lo hi (assigns es) = One lo hi (λ a b. ExprsIn a b es)
  LeftIn lo hi (defines ns) = Unit {0}

  pub ArmsIn : ℕ → ℕ → Arms Span → Type 0
  ArmsIn lo hi no_arms = Unit {0}
  ArmsIn lo hi (arm s i t z b r) = Two lo hi (λ m n. One m n (λ x y. Two x y (λ c d. Two c d (λ e f. FirstIn e f i) (λ e f. One e f (λ v w. ExprIn v w t))) (λ c d. One c d (λ v w. StmtsIn v w b)))) (λ x y. ArmsIn x y r)

  pub CasesIn : ℕ → ℕ → Cases Span → Type 0
  CasesIn lo hi no_cases = Unit {0}
  CasesIn lo hi (case s es b cs) = Two lo hi (λ x y. One x y (λ a c. Two a c (λ d e. ExprsIn d e es) (λ d e. StmtsIn d e b))) (λ x y. CasesIn x y cs)

  pub SpecsIn : ℕ → ℕ → ValueSpecs Span → Type 0
  SpecsIn lo hi no_specs = Unit {0}
  SpecsIn lo hi (spec s ns t es ss) = Two lo hi (λ a b. One a b (λ c d. Two c d (λ e f. TypeOptionIn e f t) (λ e f. ExprsIn e f es))) (λ a b. SpecsIn a b ss)

-- an expression, perhaps in parentheses
abbrev pub OpIn : ℕ → ℕ → Expr Span → Type 0
OpIn lo hi e = One lo hi (λ v w. ExprIn v w e)

-- statements in braces
abbrev pub BodyIn : ℕ → ℕ → Stmts Span → Type 0
BodyIn lo hi b = One lo hi (λ v w. StmtsIn v w b)

-- a type and values, either left out
abbrev pub ValuesIn : ℕ → ℕ → Option (TypeExpr Span) → Exprs Span → Type 0
ValuesIn lo hi t es = One lo hi (λ c d. Two c d (λ e f. TypeOptionIn e f t) (λ e f. ExprsIn e f es))

-- a test with what stands before it, and its block
abbrev pub ArmIn : ℕ → ℕ → StmtOption Span → Expr Span → Stmts Span → Type 0
ArmIn m n i t b = One m n (λ x y. Two x y (λ c d. Two c d (λ e f. FirstIn e f i) (λ e f. OpIn e f t)) (λ c d. BodyIn c d b))

-- ---- declarations

abbrev pub TypesIn : ℕ → ℕ → List (TypeSpec Span) → Type 0
TypesIn lo hi [] = Unit {0}
TypesIn lo hi (t ∷ ts) = Two lo hi (λ a b. OneType a b t.of) (λ a b. TypesIn a b ts)

abbrev pub ReceiverIn : ℕ → ℕ → Option (Receiver Span) → Type 0
ReceiverIn lo hi None = Unit {0}
ReceiverIn lo hi (Some r) = Ends lo hi r.of.span

-- a declaration of the package block
abbrev pub DeclIn : ℕ → ℕ → Decl Span → Type 0
DeclIn lo hi (values (const_decl s g ss)) = One lo hi (λ a b. SpecsIn a b ss)
DeclIn lo hi (values (var_decl s g ss)) = One lo hi (λ a b. SpecsIn a b ss)
DeclIn lo hi (values s) = Unit {0}
DeclIn lo hi (types s g ts) = One lo hi (λ a b. TypesIn a b ts)
DeclIn lo hi (func f) = One lo hi (λ v w. Two v w (λ x y. Two x y (λ a b. ReceiverIn a b f.receiver) (λ a b. One a b (λ c d. SigIn c d f.sig))) (λ a b. BodyIn a b f.body))

-- declarations, one behind the other
abbrev pub DeclsIn : ℕ → ℕ → List (Decl Span) → Type 0
DeclsIn lo hi [] = Unit {0}
DeclsIn lo hi (d ∷ ds) = Two lo hi (λ a b. DeclIn a b d) (λ a b. DeclsIn a b ds)
