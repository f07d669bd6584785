-- The productions of expressions and statements, over the layouts of their parts.
use Rattle.std.proofs.Common.{◌≡◌, ℕ, ◌≤◌, Bool, true, false, List, ◌∷◌, Option, Some, None, refl}
use Rattle.std.specs.Prelude.{codes}
use Rattle.go_tree.specs.declared.spans.Span.{Span}
use Rattle.go_tree.specs.declared.exprs.Rest.{Rest}
use Rattle.go_tree.specs.Tree.{NameAt, TypeExpr, Sig, Expr, Exprs, ExprOption, Elems, Value, ValueOption, Stmt, Stmts, StmtOption, BlockOption, RangeLeft, Arms, Cases, ValueSpecs, composite, selector, index, slice, call, func_lit, star, no_exprs, expr_and, no_elems, elem, no_value, some_value, braced, const_decl, var_decl, step, define, return_, break_, continue_, for_, range_, switch, no_stmt, some_stmt, some_block, assigns, defines, no_arms, arm, no_cases, case, no_specs, spec, label, defer, stmt_and}
use Rattle.go_tree.specs.GoWords.Terminals.{lex, end_paren}
use Rattle.go_read.specs.SpellsTypes.{Lexemes, SpellsSig, SpellsNames}
use Rattle.go_read.specs.Spells.{SpellsLiteralType, SpellsBare, SpellsExpr, SpellsOperand, SpellsOption, SpellsExprs, SpellsArgs, SpellsElems, SpellsElem, SpellsValue, SpellsSimple, SpellsPart, SpellsFirst, SpellsStmt, SpellsStmts, SpellsBlock, SpellsIf, SpellsArm, SpellsLeft, SpellsCases, SpellsDecl, SpellsSpec, SpellsSpecs, single_rule, more_specs_rule, more_stmts_rule, composite_rule, func_rule, selector_rule, index_rule, slice_rule, call_rule, star_rule, last_expr_rule, more_exprs_rule, last_elem_rule, more_elems_rule, value_rule, keyed_rule, braced_rule, increment_rule, decrement_rule, define_rule, part_rule, first_rule, const_rule, var_rule, break_rule, break_label_rule, continue_rule, continue_label_rule, while_rule, for_rule, range_rule, switch_rule, only_arm_rule, else_rule, else_if_rule, arm_rule, assigns_rule, defines_rule, case_rule, default_rule, group_rule, return_values_rule}
use Rattle.go_read.specs.Bareness.{nowhere}
use Rattle.go_layout.specs.Layouts.{Layout, no_text, gap, line, ◌⊕◌, op, key, name_layout}
use Rattle.go_layout.specs.TreeLayout.{spaced, step_spelling, label_layout, clauses_start, in_group}
use Rattle.go_layout.specs.LayoutLaws.Formed.{is_call}
use Rattle.go_layout.specs.LayoutLaws.LayoutTokens.{HasTokens, of_nothing, of_token, of_gap, of_line, of_end, of_both}
use Rattle.go_layout.proofs.LayoutLaws.SpelledTypes.{U}
use Rattle.go_layout.proofs.LayoutLaws.Places.{Closes}
use Rattle.go_layout.proofs.LayoutLaws.SpelledParts.{Says, ended, labelled, deferred, LastSpelled, without_last, with_last}

-- what the tokens of a layout are
abbrev pub Yields : Layout → (Lexemes → Lexemes → Type 0) → Type 0
Yields a is = (ts r : Lexemes) → HasTokens a ts r → is ts r

abbrev pub AsOperand : ℕ → Bool → Bool → Expr U → Lexemes → Lexemes → Type 0
AsOperand l h c e ts r = Closes c r → SpellsOperand nowhere l h e ts r

-- ---- expressions

pub composite_made : (a b : Layout) (l : ℕ) (h : Bool) (t : TypeExpr U) (es : Elems U) (ts r : Lexemes) → Yields a (SpellsLiteralType nowhere h t) → Yields b (SpellsElems nowhere es)
    → HasTokens (a ⊕ op (codes "{") ⊕ b ⊕ op (codes "}")) ts r → SpellsBare nowhere l h (composite tt t es) ts r
composite_made a b l h t es ts r x y (of_both u (of_both of_token (of_both v of_token))) = composite_rule (x _ _ u) (y _ _ v)

pub selector_made : (a : Layout) (l : ℕ) (h : Bool) (e : Expr U) (n : NameAt U) (ts r : Lexemes) → Yields a (AsOperand 7 h false e)
    → HasTokens (a ⊕ op (codes ".") ⊕ name_layout n) ts r → SpellsBare nowhere l h (selector tt e n) ts r
selector_made a l h e n ts r x (of_both u (of_both of_token of_token)) = selector_rule (x _ _ u tt)

pub index_made : (a b : Layout) (l : ℕ) (h : Bool) (e at : Expr U) (ts r : Lexemes) → Yields a (AsOperand 7 h false e) → Yields b (AsOperand 1 false false at)
    → HasTokens (a ⊕ op (codes "[") ⊕ b ⊕ op (codes "]")) ts r → SpellsBare nowhere l h (index tt e at) ts r
index_made a b l h e at ts r x y (of_both u (of_both of_token (of_both v of_token))) = index_rule (x _ _ u tt) (y _ _ v tt)

pub slice_made : (a b c : Layout) (l : ℕ) (h : Bool) (e : Expr U) (from to : ExprOption U) (ts r : Lexemes) → Yields a (AsOperand 7 h false e) → Yields b (SpellsOption nowhere false from) → Yields c (SpellsOption nowhere false to)
    → HasTokens (a ⊕ op (codes "[") ⊕ b ⊕ op (codes ":") ⊕ c ⊕ op (codes "]")) ts r → SpellsBare nowhere l h (slice tt e from to) ts r
slice_made a b c l h e from to ts r x y z (of_both u (of_both of_token (of_both v (of_both of_token (of_both w of_token))))) = slice_rule (x _ _ u tt) (y _ _ v) (z _ _ w)

pub call_made : (a b c : Layout) (l : ℕ) (h : Bool) (e : Expr U) (xs : Exprs U) (rest : Rest) (ts r : Lexemes) → ((ts2 r2 : Lexemes) → HasTokens a ts2 r2 → Closes true r2 → SpellsExpr nowhere 7 h e ts2 r2)
    → ((ts2 mid r2 : Lexemes) (s : Span) → HasTokens b ts2 mid → HasTokens c mid (lex s end_paren ∷ r2) → SpellsArgs nowhere xs rest ts2 r2)
    → HasTokens (a ⊕ op (codes "(") ⊕ b ⊕ c ⊕ op (codes ")")) ts r → SpellsBare nowhere l h (call tt e xs rest) ts r
call_made a b c l h e xs rest ts r x y (of_both u (of_both of_token (of_both v (of_both w of_token)))) = call_rule (x _ _ u refl) (y _ _ _ _ v w)

pub func_made : (a b : Layout) (l : ℕ) (h : Bool) (g : Sig U) (body : Stmts U) (ts r : Lexemes) → Yields a (SpellsSig nowhere false g) → Yields b (SpellsBlock nowhere tt body)
    → HasTokens (key (codes "func") ⊕ a ⊕ gap ⊕ b) ts r → SpellsBare nowhere l h (func_lit tt g tt body) ts r
func_made a b l h g body ts r x y (of_both of_token (of_both u (of_both of_gap v))) = func_rule (x _ _ u) (y _ _ v)

pub star_made : (a : Layout) (l : ℕ) (h c : Bool) (e : Expr U) (ts r : Lexemes) → l ≤ 6 → Yields a (AsOperand 6 h c e) → Closes c r → HasTokens (op (codes "*") ⊕ a) ts r → SpellsBare nowhere l h (star tt e) ts r
star_made a l h c e ts r le x k (of_both of_token u) = star_rule le (x _ r u k)

pub last_expr_made : (a : Layout) (h c : Bool) (e : Expr U) (ts r : Lexemes) → Yields a (AsOperand 1 h c e) → Closes c r → HasTokens (a ⊕ no_text ⊕ no_text) ts r → SpellsExprs nowhere h (expr_and e no_exprs) ts r
last_expr_made a h c e ts r x k (of_both u (of_both of_nothing of_nothing)) = last_expr_rule (x ts r u k)

pub more_exprs_made : (a b : Layout) (h c : Bool) (e : Expr U) (es : Exprs U) (ts r : Lexemes) → Yields a (AsOperand 1 h true e) → ((ts2 r2 : Lexemes) → HasTokens b ts2 r2 → Closes c r2 → SpellsExprs nowhere h es ts2 r2) → Closes c r
    → HasTokens (a ⊕ (op (codes ",") ⊕ gap) ⊕ b) ts r → SpellsExprs nowhere h (expr_and e es) ts r
more_exprs_made a b h c e es ts r x y k (of_both u (of_both (of_both of_token of_gap) v)) = more_exprs_rule (x _ _ u refl) (y _ r v k)

pub value_made : (a : Layout) (c : Bool) (v : Value U) (ts r : Lexemes) → ((ts2 r2 : Lexemes) → HasTokens a ts2 r2 → Closes c r2 → SpellsValue nowhere v ts2 r2) → (m : Lexemes)
    → HasTokens no_text ts m → HasTokens a m r → Closes c r → SpellsElem nowhere no_value v ts r
value_made a c v ts r x m of_nothing u k = value_rule (x ts r u k)

pub keyed_made : (a b : Layout) (c : Bool) (k v : Value U) (ts r : Lexemes) → ((ts2 r2 : Lexemes) → HasTokens a ts2 r2 → SpellsValue nowhere k ts2 r2) → ((ts2 r2 : Lexemes) → HasTokens b ts2 r2 → Closes c r2 → SpellsValue nowhere v ts2 r2) → (m : Lexemes)
    → HasTokens (a ⊕ op (codes ":") ⊕ gap) ts m → HasTokens b m r → Closes c r → SpellsElem nowhere (some_value k) v ts r
keyed_made a b c k v ts r x y m (of_both u (of_both of_token of_gap)) w q = keyed_rule (x _ _ u) (y _ r w q)

pub last_elem_made : (a b : Layout) (k : ValueOption U) (v : Value U) (ts r : Lexemes) → ((ts2 m r2 : Lexemes) → HasTokens a ts2 m → HasTokens b m r2 → Closes false r2 → SpellsElem nowhere k v ts2 r2)
    → HasTokens (a ⊕ b ⊕ no_text ⊕ no_text) ts r → SpellsElems nowhere (elem tt k v no_elems) ts r
last_elem_made a b k v ts r x (of_both u (of_both w (of_both of_nothing of_nothing))) = last_elem_rule (x _ _ _ u w tt)

pub more_elems_made : (a b c : Layout) (k : ValueOption U) (v : Value U) (es : Elems U) (ts r : Lexemes) → ((ts2 m r2 : Lexemes) → HasTokens a ts2 m → HasTokens b m r2 → Closes true r2 → SpellsElem nowhere k v ts2 r2)
    → Yields c (SpellsElems nowhere es) → HasTokens (a ⊕ b ⊕ (op (codes ",") ⊕ gap) ⊕ c) ts r → SpellsElems nowhere (elem tt k v es) ts r
more_elems_made a b c k v es ts r x y (of_both u (of_both w (of_both (of_both of_token of_gap) z))) = more_elems_rule (x _ _ _ u w refl) (y _ r z)

pub braced_made : (a : Layout) (es : Elems U) (ts r : Lexemes) → Yields a (SpellsElems nowhere es) → HasTokens (op (codes "{") ⊕ a ⊕ op (codes "}")) ts r → SpellsValue nowhere (braced tt es) ts r
braced_made a es ts r x (of_both of_token (of_both u of_token)) = braced_rule (x _ _ u)

pub test_made : (a : Layout) (e : Expr U) (ts r : Lexemes) → Yields a (AsOperand 1 true false e) → HasTokens (a ⊕ gap) ts r → SpellsOperand nowhere 1 true e ts r
test_made a e ts r x (of_both u of_gap) = x _ _ u tt

-- ---- simple statements

pub step_made : (a : Layout) (h : Bool) (e : Expr U) (up : Bool) (ts r : Lexemes) → Yields a (AsOperand 1 h false e) → HasTokens (a ⊕ op (step_spelling up)) ts r → SpellsSimple nowhere h (step tt e up) ts r
step_made a h e true ts r x (of_both u of_token) = increment_rule (x _ _ u tt)
step_made a h e false ts r x (of_both u of_token) = decrement_rule (x _ _ u tt)

pub define_made : (a b : Layout) (h : Bool) (ns : List (NameAt U)) (ys : Exprs U) (ts r : Lexemes) → Yields a (SpellsNames nowhere ns) → ((ts2 r2 : Lexemes) → HasTokens b ts2 r2 → Closes false r2 → SpellsExprs nowhere h ys ts2 r2)
    → HasTokens (a ⊕ spaced (codes ":=") ⊕ b) ts r → SpellsSimple nowhere h (define tt ns ys) ts r
define_made a b h ns ys ts r x y (of_both u (of_both (of_both of_gap (of_both of_token of_gap)) v)) = define_rule (x _ _ u) (y _ r v tt)

-- the parts around an operator
pub record Around (a b : Layout) (o : List ℕ) (ts r : Lexemes) : Type 0 where
  pub before : Lexemes
  pub after : Lexemes
  pub first : HasTokens a ts before
  pub sign : HasTokens (op o) before after
  pub second : HasTokens b after r

pub around : (a b : Layout) (o : List ℕ) (ts r : Lexemes) → HasTokens (a ⊕ spaced o ⊕ b) ts r → Around a b o ts r
around a b o ts r (of_both u (of_both (of_both of_gap (of_both w of_gap)) v)) = record { before = _; after = _; first = u; sign = w; second = v }

pub record Both (a b : Layout) (ts r : Lexemes) : Type 0 where
  pub between : Lexemes
  pub first : HasTokens a ts between
  pub second : HasTokens b between r

pub both : (a b : Layout) (ts r : Lexemes) → HasTokens (a ⊕ b) ts r → Both a b ts r
both a b ts r (of_both u v) = record { between = _; first = u; second = v }

pub part_made : (h : Bool) (x : Stmt U) (ts r : Lexemes) → SpellsSimple nowhere true x ts r → SpellsPart nowhere (some_stmt x) ts r
part_made h x ts r d = part_rule d

pub gapped : (a : Layout) (is : Lexemes → Lexemes → Type 0) (ts r : Lexemes) → Yields a is → HasTokens (a ⊕ gap) ts r → is ts r
gapped a is ts r x (of_both u of_gap) = x _ _ u

pub first_made : (a : Layout) (o : StmtOption U) (ts r : Lexemes) → Yields a (SpellsPart nowhere o) → HasTokens (a ⊕ op (codes ";") ⊕ gap) ts r → SpellsFirst nowhere o ts r
first_made a o ts r x (of_both u (of_both of_token of_gap)) = first_rule (x _ _ u)

-- ---- statements

pub return_made : (a : Layout) (xs : Exprs U) (ts r : Lexemes) → ((ts2 r2 : Lexemes) → HasTokens a ts2 r2 → Closes false r2 → SpellsExprs nowhere false xs ts2 r2)
    → HasTokens (key (codes "return") ⊕ gap ⊕ a) ts r → SpellsStmt nowhere (return_ tt xs) ts r
return_made a xs ts r x (of_both of_token (of_both of_gap u)) = return_values_rule (x _ r u tt)

pub break_made : (n : Option (NameAt U)) (ts r : Lexemes) → HasTokens (key (codes "break") ⊕ label_layout n) ts r → SpellsStmt nowhere (break_ tt n) ts r
break_made None ts r (of_both of_token of_nothing) = break_rule
break_made (Some n) ts r (of_both of_token (of_both of_gap of_token)) = break_label_rule

pub continue_made : (n : Option (NameAt U)) (ts r : Lexemes) → HasTokens (key (codes "continue") ⊕ label_layout n) ts r → SpellsStmt nowhere (continue_ tt n) ts r
continue_made None ts r (of_both of_token of_nothing) = continue_rule
continue_made (Some n) ts r (of_both of_token (of_both of_gap of_token)) = continue_label_rule

pub while_made : (a b : Layout) (t : ExprOption U) (body : Stmts U) (ts r : Lexemes) → Yields a (SpellsOption nowhere true t) → Yields b (SpellsBlock nowhere tt body)
    → HasTokens (key (codes "for") ⊕ gap ⊕ a ⊕ b) ts r → SpellsStmt nowhere (for_ tt no_stmt t no_stmt tt body) ts r
while_made a b t body ts r x y (of_both of_token (of_both of_gap (of_both u v))) = while_rule (x _ _ u) (y _ r v)

pub for_made : (a b c d : Layout) (i : StmtOption U) (t : ExprOption U) (p : StmtOption U) (body : Stmts U) (ts r : Lexemes) → Yields a (SpellsPart nowhere i) → Yields b (SpellsOption nowhere true t) → Yields c (SpellsPart nowhere p) → Yields d (SpellsBlock nowhere tt body)
    → HasTokens (key (codes "for") ⊕ gap ⊕ a ⊕ op (codes ";") ⊕ gap ⊕ b ⊕ op (codes ";") ⊕ gap ⊕ c ⊕ d) ts r → SpellsStmt nowhere (for_ tt i t p tt body) ts r
for_made a b c d i t p body ts r x y z w (of_both of_token (of_both of_gap (of_both u (of_both of_token (of_both of_gap (of_both v (of_both of_token (of_both of_gap (of_both m n))))))))) = for_rule (x _ _ u) (y _ _ v) (z _ _ m) (w _ r n)

pub range_made : (a b c : Layout) (left : RangeLeft U) (e : Expr U) (body : Stmts U) (ts r : Lexemes) → Yields a (SpellsLeft nowhere left) → Yields b (AsOperand 1 true false e) → Yields c (SpellsBlock nowhere tt body)
    → HasTokens (key (codes "for") ⊕ gap ⊕ a ⊕ key (codes "range") ⊕ gap ⊕ b ⊕ gap ⊕ c) ts r → SpellsStmt nowhere (range_ tt left e tt body) ts r
range_made a b c left e body ts r x y z (of_both of_token (of_both of_gap (of_both u (of_both of_token (of_both of_gap (of_both v (of_both of_gap w))))))) = range_rule (x _ _ u) (y _ _ v tt) (z _ r w)

pub switch_made : (a b c : Layout) (first : StmtOption U) (t : ExprOption U) (cs : Cases U) (i : List ℕ) (ts r : Lexemes) → Yields a (SpellsFirst nowhere first) → Yields b (SpellsOption nowhere true t) → Yields c (SpellsCases nowhere cs)
    → HasTokens (key (codes "switch") ⊕ gap ⊕ a ⊕ b ⊕ op (codes "{") ⊕ clauses_start i cs ⊕ c ⊕ op (codes "}")) ts r → SpellsStmt nowhere (switch tt first t cs) ts r
switch_made a b c first t no_cases i ts r x y z (of_both of_token (of_both of_gap (of_both u (of_both v (of_both of_token (of_both of_nothing (of_both w of_token))))))) = switch_rule (x _ _ u) (y _ _ v) (z _ _ w)
switch_made a b c first t (case _ _ _ _) i ts r x y z (of_both of_token (of_both of_gap (of_both u (of_both v (of_both of_token (of_both of_line (of_both w of_token))))))) = switch_rule (x _ _ u) (y _ _ v) (z _ _ w)

pub left_assigns_made : (a : Layout) (xs : Exprs U) (ts r : Lexemes) → ((ts2 r2 : Lexemes) → HasTokens a ts2 r2 → Closes false r2 → SpellsExprs nowhere true xs ts2 r2) → HasTokens (a ⊕ spaced (codes "=")) ts r → SpellsLeft nowhere (assigns xs) ts r
left_assigns_made a xs ts r x (of_both u (of_both of_gap (of_both of_token of_gap))) = assigns_rule (x _ _ u tt)

pub left_defines_made : (a : Layout) (ns : List (NameAt U)) (ts r : Lexemes) → Yields a (SpellsNames nowhere ns) → HasTokens (a ⊕ spaced (codes ":=")) ts r → SpellsLeft nowhere (defines ns) ts r
left_defines_made a ns ts r x (of_both u (of_both of_gap (of_both of_token of_gap))) = defines_rule (x _ _ u)

pub last_made : (a : Layout) (body : Stmts U) (ts r : Lexemes) → Yields a (SpellsBlock nowhere tt body) → HasTokens (gap ⊕ key (codes "else") ⊕ gap ⊕ a) ts r → LastSpelled (some_block tt body) ts r
last_made a body ts r x (of_both of_gap (of_both of_token (of_both of_gap u))) = with_last (x _ r u)

last_arm : (first : StmtOption U) (t : Expr U) (body : Stmts U) (last : BlockOption U) (ts m r : Lexemes) → SpellsArm nowhere first t tt body ts m → LastSpelled last m r → SpellsIf nowhere (arm tt first t tt body no_arms) last ts r
last_arm first t body last ts m r d without_last = only_arm_rule d
last_arm first t body last ts m r d (with_last k) = else_rule d k

pub last_arm_made : (a b c : Layout) (first : StmtOption U) (t : Expr U) (body : Stmts U) (last : BlockOption U) (ts m r : Lexemes) → Yields a (SpellsFirst nowhere first) → Yields b (AsOperand 1 true false t) → Yields c (SpellsBlock nowhere tt body)
    → HasTokens (key (codes "if") ⊕ gap ⊕ a ⊕ b ⊕ gap ⊕ c ⊕ no_text ⊕ no_text) ts m → LastSpelled last m r → SpellsIf nowhere (arm tt first t tt body no_arms) last ts r
last_arm_made a b c first t body last ts m r x y z (of_both of_token (of_both of_gap (of_both u (of_both v (of_both of_gap (of_both w (of_both of_nothing of_nothing))))))) k =
    last_arm first t body last _ m r (arm_rule (x _ _ u) (y _ _ v tt) (z _ _ w)) k

pub more_arms_made : (a b c d : Layout) (first : StmtOption U) (t : Expr U) (body : Stmts U) (arms : Arms U) (last : BlockOption U) (ts m r : Lexemes) → Yields a (SpellsFirst nowhere first) → Yields b (AsOperand 1 true false t) → Yields c (SpellsBlock nowhere tt body)
    → ((ts2 : Lexemes) → HasTokens d ts2 m → SpellsIf nowhere arms last ts2 r) → HasTokens (key (codes "if") ⊕ gap ⊕ a ⊕ b ⊕ gap ⊕ c ⊕ (gap ⊕ key (codes "else") ⊕ gap) ⊕ d) ts m → SpellsIf nowhere (arm tt first t tt body arms) last ts r
more_arms_made a b c d first t body arms last ts m r x y z k (of_both of_token (of_both of_gap (of_both u (of_both v (of_both of_gap (of_both w (of_both (of_both of_gap (of_both of_token of_gap)) n))))))) =
    else_if_rule (arm_rule (x _ _ u) (y _ _ v tt) (z _ _ w)) (k _ n)

pub default_made : (a b : Layout) (i : List ℕ) (body : Stmts U) (cs : Cases U) (ts r : Lexemes) → Yields a (SpellsStmts nowhere body) → Yields b (SpellsCases nowhere cs)
    → HasTokens (key (codes "default") ⊕ no_text ⊕ op (codes ":") ⊕ line false i ⊕ a ⊕ b) ts r → SpellsCases nowhere (case tt no_exprs body cs) ts r
default_made a b i body cs ts r x y (of_both of_token (of_both of_nothing (of_both of_token (of_both of_line (of_both u v))))) = default_rule (x _ _ u) (y _ r v)

pub case_made : (a b c : Layout) (i : List ℕ) (xs : Exprs U) (body : Stmts U) (cs : Cases U) (ts r : Lexemes) → ((ts2 r2 : Lexemes) → HasTokens a ts2 r2 → Closes false r2 → SpellsExprs nowhere false xs ts2 r2)
    → Yields b (SpellsStmts nowhere body) → Yields c (SpellsCases nowhere cs)
    → HasTokens ((key (codes "case") ⊕ gap) ⊕ a ⊕ op (codes ":") ⊕ line false i ⊕ b ⊕ c) ts r → SpellsCases nowhere (case tt xs body cs) ts r
case_made a b c i xs body cs ts r x y z (of_both (of_both of_token of_gap) (of_both w (of_both of_token (of_both of_line (of_both u v))))) = case_rule (x _ _ w tt) (y _ _ u) (z _ r v)

-- ---- declarations

pub group_made : (a : Layout) (i : List ℕ) (constant : Bool) (ss : ValueSpecs U) (ts r : Lexemes) → Yields a (SpellsSpecs nowhere constant ss) → HasTokens (in_group i true ss a) ts r → SpellsDecl nowhere constant true ss ts r
group_made a i constant no_specs ts r x (of_both of_token (of_both of_nothing (of_both u of_token))) = group_rule (x _ _ u)
group_made a i constant (spec _ _ _ _ _) ts r x (of_both of_token (of_both of_line (of_both u of_token))) = group_rule (x _ _ u)

pub const_made : (a : Layout) (grouped : Bool) (ss : ValueSpecs U) (ts r : Lexemes) → Yields a (SpellsDecl nowhere true grouped ss) → HasTokens (key (codes "const") ⊕ gap ⊕ a) ts r → SpellsStmt nowhere (const_decl tt grouped ss) ts r
const_made a grouped ss ts r x (of_both of_token (of_both of_gap u)) = const_rule (x _ r u)

pub var_made : (a : Layout) (grouped : Bool) (ss : ValueSpecs U) (ts r : Lexemes) → Yields a (SpellsDecl nowhere false grouped ss) → HasTokens (key (codes "var") ⊕ gap ⊕ a) ts r → SpellsStmt nowhere (var_decl tt grouped ss) ts r
var_made a grouped ss ts r x (of_both of_token (of_both of_gap u)) = var_rule (x _ r u)

pub one_spec_made : (a b c d : Layout) (constant : Bool) (ns : List (NameAt U)) (t : Option (TypeExpr U)) (xs : Exprs U) (ts r : Lexemes)
    → ((ts2 m1 m2 m3 r2 : Lexemes) → HasTokens a ts2 m1 → HasTokens b m1 m2 → HasTokens c m2 m3 → HasTokens d m3 r2 → SpellsSpec nowhere constant ns t xs ts2 r2)
    → HasTokens (a ⊕ b ⊕ c ⊕ d ⊕ no_text ⊕ no_text) ts r → SpellsDecl nowhere constant false (spec tt ns t xs no_specs) ts r
one_spec_made a b c d constant ns t xs ts r x (of_both u (of_both v (of_both w (of_both z (of_both of_nothing of_nothing))))) = single_rule (x _ _ _ _ _ u v w z)

pub more_specs_made : (a b c d e : Layout) (i : List ℕ) (constant : Bool) (ns : List (NameAt U)) (t : Option (TypeExpr U)) (xs : Exprs U) (ss : ValueSpecs U) (ts r : Lexemes)
    → ((ts2 m1 m2 m3 r2 : Lexemes) → HasTokens a ts2 m1 → HasTokens b m1 m2 → HasTokens c m2 m3 → HasTokens d m3 r2 → SpellsSpec nowhere constant ns t xs ts2 r2)
    → Yields e (SpellsSpecs nowhere constant ss) → HasTokens (a ⊕ b ⊕ c ⊕ d ⊕ line true i ⊕ e) ts r → SpellsSpecs nowhere constant (spec tt ns t xs ss) ts r
more_specs_made a b c d e i constant ns t xs ss ts r x y (of_both u (of_both v (of_both w (of_both z (of_both of_end n))))) = more_specs_rule (x _ _ _ _ _ u v w z) (y _ r n)

-- ---- statement lists

pub label_made : (a : Layout) (n : NameAt U) (i : List ℕ) (x : Stmt U) (b gives h : Bool) (ts r : Lexemes) → (b ≡ true → gives ≡ true) → Yields a (Says b gives false x)
    → HasTokens (name_layout n ⊕ op (codes ":") ⊕ line false i ⊕ a) ts r → Says false gives h (label tt n x) ts r
label_made a n i x b gives h ts r q y (of_both of_token (of_both of_token (of_both of_line u))) = labelled b gives n x _ _ _ r q (y _ r u) h

pub defer_made : (a : Layout) (e : Expr U) (ts r : Lexemes) → is_call e ≡ true → Yields a (SpellsBare nowhere 1 false e) → HasTokens (key (codes "defer") ⊕ gap ⊕ a) ts r → SpellsStmt nowhere (defer tt e) ts r
defer_made a e ts r q x (of_both of_token (of_both of_gap u)) = deferred e _ r _ q (x _ r u)

pub stmts_made : (a b : Layout) (i : List ℕ) (x : Stmt U) (xs : Stmts U) (simple gives : Bool) (ts r : Lexemes) → (simple ≡ true → gives ≡ true) → Yields a (Says simple gives false x) → Yields b (SpellsStmts nowhere xs)
    → HasTokens (a ⊕ line gives i ⊕ b) ts r → SpellsStmts nowhere (stmt_and x xs) ts r
stmts_made a b i x xs simple gives ts r q y z (of_both u (of_both v w)) = more_stmts_rule (ended simple gives x i ts _ _ q (y ts _ u) v).1 (z _ r w)
