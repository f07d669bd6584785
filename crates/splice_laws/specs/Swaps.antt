-- Places in a tree, and a tree with the node in a place replaced (Go specification, Types, Expressions, Statements,
-- Source file organization).
--
-- A place of an operand has a level, the least precedence that needs no parentheses there, and says whether it stands
-- in the header of an `if`, `for` or `switch` outside brackets. The families below have a rule for each part of each
-- node: where the part may be swapped, the node may.
use Rattle.std.specs.Prelude.{◌≡◌, ℕ, ◌+◌, Bool, true, false, List, [], ◌∷◌, Option, Some, None}
use Rattle.go_tree.specs.declared.operators.UnOp.{UnOp}
use Rattle.go_tree.specs.declared.operators.BinOp.{BinOp}
use Rattle.go_tree.specs.declared.exprs.Rest.{Rest}
use Rattle.go_tree.specs.Tree.{NameAt, TypeExpr, pointer, slice_type, map_type, struct_type, Fields, no_fields, field}
use Rattle.go_tree.specs.Tree.{Param, Sig, Expr, Exprs, ExprOption, Elems, Value, ValueOption, Stmt, Stmts, StmtOption}
use Rattle.go_tree.specs.Tree.{BlockOption, RangeLeft, Arms, Cases, ValueSpecs, composite, selector, index, slice, call}
use Rattle.go_tree.specs.Tree.{func_lit, type_operand, unary, binary, star, expr_and, some_expr, elem, plain, braced}
use Rattle.go_tree.specs.Tree.{some_value, const_decl, var_decl, eval, step, assign, define, return_, inner, if_, for_}
use Rattle.go_tree.specs.Tree.{range_, switch, defer, label, stmt_and, some_stmt, some_block, assigns, arm, case, spec}
use Rattle.go_tree.specs.File.{ImportDecl, TypeSpec, Receiver, Decl, values, types, func, File}
use Rattle.go_tree.specs.GoWords.Terminals.{level_of}

-- What is replaced in which place, and by what.
pub data Swap (S : Type 0) : Type 0 where
  -- an operand in a place of this level and header rule
  an_operand : ℕ → Bool → Expr S → Expr S → Swap S
  -- what is called
  a_callee : Bool → Expr S → Expr S → Swap S
  a_type : TypeExpr S → TypeExpr S → Swap S
  -- the type of a composite literal
  a_literal_type : Bool → TypeExpr S → TypeExpr S → Swap S
  -- a statement of a list, also a whole `return`
  a_stmt : Stmt S → Stmt S → Swap S
  -- the call of a `defer`
  a_deferred : Expr S → Expr S → Swap S

module _ {S : Type 0} where
  -- the first of the parameters has another type, each with its span
  abbrev pub OtherFirst : TypeExpr S → List (Param S) → Type 0
  OtherFirst t [] = Unit {0}
  OtherFirst t (p ∷ ps) = p.of ≡ t → ⊥

  -- the first of the fields, if there is one, has another type
  abbrev pub OtherField : TypeExpr S → Fields S → Type 0
  OtherField t no_fields = Unit {0}
  OtherField t (field _ _ b _) = b ≡ t → ⊥

  -- the type before, if there is one, is another
  abbrev pub OtherBefore : Option (TypeExpr S) → TypeExpr S → Type 0
  OtherBefore None t = Unit {0}
  OtherBefore (Some b) t = b ≡ t → ⊥

  -- the first fields that have the one type have the other type; the field behind them, if there is one, has another
  pub data FieldsAlike (t u : TypeExpr S) : Fields S → Fields S → Type 0 where
    no_more_alike : {fs : Fields S} → OtherField t fs → FieldsAlike t u fs fs
    one_more_alike : {s : S} {n : NameAt S} {fs gs : Fields S}
        → FieldsAlike t u fs gs → FieldsAlike t u (field s n t fs) (field s n u gs)

  -- the same of parameters
  pub data ParamsAlike (t u : TypeExpr S) : List (Param S) → List (Param S) → Type 0 where
    no_more_params : {ps : List (Param S)} → OtherFirst t ps → ParamsAlike t u ps ps
    one_more_param : {s : S} {n : NameAt S} {ps qs : List (Param S)}
        → ParamsAlike t u ps qs
        → ParamsAlike t u (record { span = s; name = Some n; rest = false; of = t } ∷ ps)
        (record { span = s; name = Some n; rest = false; of = u } ∷ qs)

module _ {S : Type 0} (w : Swap S) where
  mutual
    -- the type itself is swapped, or a part of it
    pub data TypeIn : TypeExpr S → TypeExpr S → Type 0 where
      this_type : {t u : TypeExpr S} → w ≡ a_type t u → TypeIn t u
      inside_type : {t u : TypeExpr S} → PartOfType t u → TypeIn t u

    -- a part of the type is swapped: what it points to, an element, a key, or the type of fields
    pub data PartOfType : TypeExpr S → TypeExpr S → Type 0 where
      in_pointer : {s : S} {t u : TypeExpr S} → TypeIn t u → PartOfType (pointer s t) (pointer s u)
      in_slice_type : {s : S} {t u : TypeExpr S} → TypeIn t u → PartOfType (slice_type s t) (slice_type s u)
      in_map_key : {s : S} {k j t : TypeExpr S} → TypeIn k j → PartOfType (map_type s k t) (map_type s j t)
      in_map_value : {s : S} {k t u : TypeExpr S} → TypeIn t u → PartOfType (map_type s k t) (map_type s k u)
      in_struct : {s : S} {fs gs : Fields S} → FieldsIn None fs gs → PartOfType (struct_type s fs) (struct_type s gs)

    -- The type of fields: names that share a type, as in `a, b T`, have the same node, and it is swapped for each of
    -- them.
    -- The fields before and behind them have another type, each with its span. The first index is the type before,
    -- where there is one.
    pub data FieldsIn : Option (TypeExpr S) → Fields S → Fields S → Type 0 where
      in_field : {before : Option (TypeExpr S)} {s : S} {n : NameAt S} {t u : TypeExpr S} {fs gs : Fields S}
          → OtherBefore before t → TypeIn t u → FieldsAlike t u fs gs
          → FieldsIn before (field s n t fs) (field s n u gs)
      in_later_fields : {before : Option (TypeExpr S)} {s : S} {n : NameAt S} {t : TypeExpr S} {fs gs : Fields S}
          → FieldsIn (Some t) fs gs → FieldsIn before (field s n t fs) (field s n t gs)

  -- the type of a composite literal, in a header or not
  pub data LiteralTypeIn : Bool → TypeExpr S → TypeExpr S → Type 0 where
    this_literal_type : {h : Bool} {t u : TypeExpr S} → w ≡ a_literal_type h t u → LiteralTypeIn h t u
    inside_literal_type : {h : Bool} {t u : TypeExpr S} → PartOfType t u → LiteralTypeIn h t u

  -- a type in a list of parameters or results without names
  pub data ParamsIn : List (Param S) → List (Param S) → Type 0 where
    in_unnamed : {s : S} {variadic : Bool} {t u : TypeExpr S} {ps : List (Param S)} → TypeIn t u
        → ParamsIn (record { span = s; name = None; rest = variadic; of = t } ∷ ps)
        (record { span = s; name = None; rest = variadic; of = u } ∷ ps)
    in_later_params : {p : Param S} {ps qs : List (Param S)} → ParamsIn ps qs → ParamsIn (p ∷ ps) (p ∷ qs)

  -- A type in a list of parameters or results with names: for each of the names that share it, as in `a, b T`. The
  -- parameters before and behind them have another type. The first index is the type before, where there is one.
  pub data NamedIn : Option (TypeExpr S) → List (Param S) → List (Param S) → Type 0 where
    in_named : {before : Option (TypeExpr S)} {s : S} {n : NameAt S} {t u : TypeExpr S} {ps qs : List (Param S)}
        → OtherBefore before t → TypeIn t u → ParamsAlike t u ps qs
        → NamedIn before (record { span = s; name = Some n; rest = false; of = t } ∷ ps)
        (record { span = s; name = Some n; rest = false; of = u } ∷ qs)
    in_named_rest : {before : Option (TypeExpr S)} {s : S} {n : NameAt S} {t u : TypeExpr S} {ps : List (Param S)}
        → TypeIn t u
        → NamedIn before (record { span = s; name = Some n; rest = true; of = t } ∷ ps)
        (record { span = s; name = Some n; rest = true; of = u } ∷ ps)
    in_later_named : {before : Option (TypeExpr S)} {p : Param S} {ps qs : List (Param S)}
        → NamedIn (Some p.of) ps qs → NamedIn before (p ∷ ps) (p ∷ qs)

  -- a type of a signature is swapped: of parameters or of results, with names or without
  pub data SigIn : Sig S → Sig S → Type 0 where
    in_named_params : {ps qs rs : List (Param S)} → NamedIn None ps qs
        → SigIn (record { params = ps; results = rs }) (record { params = qs; results = rs })
    in_named_results : {ps rs qs : List (Param S)} → NamedIn None rs qs
        → SigIn (record { params = ps; results = rs }) (record { params = ps; results = qs })
    in_params : {ps qs rs : List (Param S)} → ParamsIn ps qs
        → SigIn (record { params = ps; results = rs }) (record { params = qs; results = rs })
    in_results : {ps rs qs : List (Param S)} → ParamsIn rs qs
        → SigIn (record { params = ps; results = rs }) (record { params = ps; results = qs })

  mutual
    -- an operand of a place
    pub data OperandIn : ℕ → Bool → Expr S → Expr S → Type 0 where
      this_operand : {l : ℕ} {h : Bool} {e f : Expr S} → w ≡ an_operand l h e f → OperandIn l h e f
      inside_operand : {l : ℕ} {h : Bool} {e f : Expr S} → PartOfExpr h e f → OperandIn l h e f

    -- what is called is swapped, or a part of it
    pub data CalleeIn : Bool → Expr S → Expr S → Type 0 where
      this_callee : {h : Bool} {e f : Expr S} → w ≡ a_callee h e f → CalleeIn h e f
      inside_callee : {h : Bool} {e f : Expr S} → PartOfExpr h e f → CalleeIn h e f

    -- a part of an expression that stands in a header or not
    pub data PartOfExpr : Bool → Expr S → Expr S → Type 0 where
      in_literal_type : {h : Bool} {s : S} {t u : TypeExpr S} {es : Elems S} → LiteralTypeIn h t u
          → PartOfExpr h (composite s t es) (composite s u es)
      in_elems : {h : Bool} {s : S} {t : TypeExpr S} {es fs : Elems S} → ElemsIn es fs
          → PartOfExpr h (composite s t es) (composite s t fs)
      in_func_body : {h : Bool} {s b : S} {g : Sig S} {xs ys : Stmts S} → StmtsIn xs ys
          → PartOfExpr h (func_lit s g b xs) (func_lit s g b ys)
      in_signature : {h : Bool} {s b : S} {g k : Sig S} {xs : Stmts S} → SigIn g k
          → PartOfExpr h (func_lit s g b xs) (func_lit s k b xs)
      in_type_operand : {h : Bool} {s : S} {t u : TypeExpr S} → PartOfType t u
          → PartOfExpr h (type_operand s t) (type_operand s u)
      in_selected : {h : Bool} {s : S} {e f : Expr S} {n : NameAt S} → OperandIn 7 h e f
          → PartOfExpr h (selector s e n) (selector s f n)
      in_indexed : {h : Bool} {s : S} {e f i : Expr S} → OperandIn 7 h e f → PartOfExpr h (index s e i) (index s f i)
      in_index : {h : Bool} {s : S} {e i j : Expr S} → OperandIn 1 false i j → PartOfExpr h (index s e i) (index s e j)
      in_sliced : {h : Bool} {s : S} {e f : Expr S} {i j : ExprOption S} → OperandIn 7 h e f
          → PartOfExpr h (slice s e i j) (slice s f i j)
      in_low : {h : Bool} {s : S} {e : Expr S} {i j k : ExprOption S} → OptionIn false i k
          → PartOfExpr h (slice s e i j) (slice s e k j)
      in_high : {h : Bool} {s : S} {e : Expr S} {i j k : ExprOption S} → OptionIn false j k
          → PartOfExpr h (slice s e i j) (slice s e i k)
      in_called : {h : Bool} {s : S} {e f : Expr S} {xs : Exprs S} {rest : Rest} → CalleeIn h e f
          → PartOfExpr h (call s e xs rest) (call s f xs rest)
      in_args : {h : Bool} {s : S} {e : Expr S} {xs ys : Exprs S} {rest : Rest} → ExprsIn false xs ys
          → PartOfExpr h (call s e xs rest) (call s e ys rest)
      in_unary : {h : Bool} {s : S} {o : UnOp} {e f : Expr S} → OperandIn 6 h e f
          → PartOfExpr h (unary s o e) (unary s o f)
      in_star : {h : Bool} {s : S} {e f : Expr S} → OperandIn 6 h e f → PartOfExpr h (star s e) (star s f)
      in_left : {h : Bool} {s : S} {o : BinOp} {a b c : Expr S} → OperandIn (level_of o) h a c
          → PartOfExpr h (binary s o a b) (binary s o c b)
      in_right : {h : Bool} {s : S} {o : BinOp} {a b c : Expr S} → OperandIn (level_of o + 1) h b c
          → PartOfExpr h (binary s o a b) (binary s o a c)

    -- a bound or a condition
    pub data OptionIn : Bool → ExprOption S → ExprOption S → Type 0 where
      in_option : {h : Bool} {e f : Expr S} → OperandIn 1 h e f → OptionIn h (some_expr e) (some_expr f)

    -- one of a list of expressions, or a part of it
    pub data ExprsIn : Bool → Exprs S → Exprs S → Type 0 where
      in_first_expr : {h : Bool} {e f : Expr S} {es : Exprs S} → OperandIn 1 h e f
          → ExprsIn h (expr_and e es) (expr_and f es)
      in_later_exprs : {h : Bool} {e : Expr S} {es fs : Exprs S} → ExprsIn h es fs
          → ExprsIn h (expr_and e es) (expr_and e fs)

    -- the key or the value of one of the elements, or a part of it
    pub data ElemsIn : Elems S → Elems S → Type 0 where
      in_key : {s : S} {k j v : Value S} {es : Elems S} → ValueIn k j
          → ElemsIn (elem s (some_value k) v es) (elem s (some_value j) v es)
      in_value : {s : S} {k : ValueOption S} {v u : Value S} {es : Elems S} → ValueIn v u
          → ElemsIn (elem s k v es) (elem s k u es)
      in_later_elems : {s : S} {k : ValueOption S} {v : Value S} {es fs : Elems S} → ElemsIn es fs
          → ElemsIn (elem s k v es) (elem s k v fs)

    -- an element's value, or one of the elements in its braces
    pub data ValueIn : Value S → Value S → Type 0 where
      in_plain : {e f : Expr S} → OperandIn 1 false e f → ValueIn (plain e) (plain f)
      in_braced : {s : S} {es fs : Elems S} → ElemsIn es fs → ValueIn (braced s es) (braced s fs)

    -- a statement that may stand in a header
    pub data SimpleIn : Bool → Stmt S → Stmt S → Type 0 where
      in_eval : {h : Bool} {s : S} {e f : Expr S} → OperandIn 1 h e f → SimpleIn h (eval s e) (eval s f)
      in_step : {h : Bool} {s : S} {e f : Expr S} {up : Bool} → OperandIn 1 h e f
          → SimpleIn h (step s e up) (step s f up)
      in_assigned : {h : Bool} {s : S} {xs ys zs : Exprs S} {o : Option BinOp} → ExprsIn h xs zs
          → SimpleIn h (assign s xs o ys) (assign s zs o ys)
      in_assign : {h : Bool} {s : S} {xs ys zs : Exprs S} {o : Option BinOp} → ExprsIn h ys zs
          → SimpleIn h (assign s xs o ys) (assign s xs o zs)
      in_define : {h : Bool} {s : S} {ns : List (NameAt S)} {ys zs : Exprs S} → ExprsIn h ys zs
          → SimpleIn h (define s ns ys) (define s ns zs)

    -- a part of a statement in a header
    pub data PartIn : StmtOption S → StmtOption S → Type 0 where
      in_part : {x y : Stmt S} → SimpleIn true x y → PartIn (some_stmt x) (some_stmt y)

    -- a part of a statement is swapped: an operand, a statement in its header, or one in a block of it
    pub data PartOfStmt : Stmt S → Stmt S → Type 0 where
      in_simple : {x y : Stmt S} → SimpleIn false x y → PartOfStmt x y
      in_const : {s : S} {g : Bool} {ss us : ValueSpecs S} → SpecsIn ss us
          → PartOfStmt (const_decl s g ss) (const_decl s g us)
      in_var : {s : S} {g : Bool} {ss us : ValueSpecs S} → SpecsIn ss us
          → PartOfStmt (var_decl s g ss) (var_decl s g us)
      in_return : {s : S} {xs ys : Exprs S} → ExprsIn false xs ys → PartOfStmt (return_ s xs) (return_ s ys)
      in_block : {s : S} {xs ys : Stmts S} → StmtsIn xs ys → PartOfStmt (inner s xs) (inner s ys)
      in_arms : {s : S} {ars brs : Arms S} {last : BlockOption S} → ArmsIn ars brs
          → PartOfStmt (if_ s ars last) (if_ s brs last)
      in_else : {s b : S} {ars : Arms S} {xs ys : Stmts S} → StmtsIn xs ys
          → PartOfStmt (if_ s ars (some_block b xs)) (if_ s ars (some_block b ys))
      in_for_first : {s b : S} {i j p : StmtOption S} {t : ExprOption S} {xs : Stmts S} → PartIn i j
          → PartOfStmt (for_ s i t p b xs) (for_ s j t p b xs)
      in_for_test : {s b : S} {i p : StmtOption S} {t u : ExprOption S} {xs : Stmts S} → OptionIn true t u
          → PartOfStmt (for_ s i t p b xs) (for_ s i u p b xs)
      in_for_post : {s b : S} {i p q : StmtOption S} {t : ExprOption S} {xs : Stmts S} → PartIn p q
          → PartOfStmt (for_ s i t p b xs) (for_ s i t q b xs)
      in_for_body : {s b : S} {i p : StmtOption S} {t : ExprOption S} {xs ys : Stmts S} → StmtsIn xs ys
          → PartOfStmt (for_ s i t p b xs) (for_ s i t p b ys)
      in_range_left : {s b : S} {ls ks : Exprs S} {e : Expr S} {xs : Stmts S} → ExprsIn true ls ks
          → PartOfStmt (range_ s (assigns ls) e b xs) (range_ s (assigns ks) e b xs)
      in_range : {s b : S} {left : RangeLeft S} {e f : Expr S} {xs : Stmts S} → OperandIn 1 true e f
          → PartOfStmt (range_ s left e b xs) (range_ s left f b xs)
      in_range_body : {s b : S} {left : RangeLeft S} {e : Expr S} {xs ys : Stmts S} → StmtsIn xs ys
          → PartOfStmt (range_ s left e b xs) (range_ s left e b ys)
      in_switch_first : {s : S} {i j : StmtOption S} {t : ExprOption S} {cs : Cases S} → PartIn i j
          → PartOfStmt (switch s i t cs) (switch s j t cs)
      in_tag : {s : S} {i : StmtOption S} {t u : ExprOption S} {cs : Cases S} → OptionIn true t u
          → PartOfStmt (switch s i t cs) (switch s i u cs)
      in_cases : {s : S} {i : StmtOption S} {t : ExprOption S} {cs ds : Cases S} → CasesIn cs ds
          → PartOfStmt (switch s i t cs) (switch s i t ds)
      in_deferred : {s c : S} {e f : Expr S} {xs : Exprs S} {rest : Rest} → CalleeIn false e f
          → PartOfStmt (defer s (call c e xs rest)) (defer s (call c f xs rest))
      in_deferred_args : {s c : S} {e : Expr S} {xs ys : Exprs S} {rest : Rest} → ExprsIn false xs ys
          → PartOfStmt (defer s (call c e xs rest)) (defer s (call c e ys rest))
      this_deferred : {s c : S} {e f : Expr S} {xs : Exprs S} {rest : Rest} → w ≡ a_deferred (call c e xs rest) f
          → PartOfStmt (defer s (call c e xs rest)) (defer s f)
      in_label : {s : S} {n : NameAt S} {x y : Stmt S} → PartOfStmt x y → PartOfStmt (label s n x) (label s n y)

    -- each statement of a list is in a place
    pub data StmtsIn : Stmts S → Stmts S → Type 0 where
      this_stmt : {x y : Stmt S} {xs : Stmts S} → w ≡ a_stmt x y → StmtsIn (stmt_and x xs) (stmt_and y xs)
      inside_stmt : {x y : Stmt S} {xs : Stmts S} → PartOfStmt x y → StmtsIn (stmt_and x xs) (stmt_and y xs)
      in_later_stmts : {x : Stmt S} {xs ys : Stmts S} → StmtsIn xs ys → StmtsIn (stmt_and x xs) (stmt_and x ys)

    -- a part of one of an `if`'s arms
    pub data ArmsIn : Arms S → Arms S → Type 0 where
      in_arm_first : {s b : S} {i j : StmtOption S} {t : Expr S} {xs : Stmts S} {ars : Arms S} → PartIn i j
          → ArmsIn (arm s i t b xs ars) (arm s j t b xs ars)
      in_arm_test : {s b : S} {i : StmtOption S} {t u : Expr S} {xs : Stmts S} {ars : Arms S} → OperandIn 1 true t u
          → ArmsIn (arm s i t b xs ars) (arm s i u b xs ars)
      in_arm_body : {s b : S} {i : StmtOption S} {t : Expr S} {xs ys : Stmts S} {ars : Arms S} → StmtsIn xs ys
          → ArmsIn (arm s i t b xs ars) (arm s i t b ys ars)
      in_later_arms : {s b : S} {i : StmtOption S} {t : Expr S} {xs : Stmts S} {ars brs : Arms S} → ArmsIn ars brs
          → ArmsIn (arm s i t b xs ars) (arm s i t b xs brs)

    -- a part of one of a switch's clauses
    pub data CasesIn : Cases S → Cases S → Type 0 where
      in_case : {s : S} {es fs : Exprs S} {xs : Stmts S} {cs : Cases S} → ExprsIn false es fs
          → CasesIn (case s es xs cs) (case s fs xs cs)
      in_case_body : {s : S} {es : Exprs S} {xs ys : Stmts S} {cs : Cases S} → StmtsIn xs ys
          → CasesIn (case s es xs cs) (case s es ys cs)
      in_later_cases : {s : S} {es : Exprs S} {xs : Stmts S} {cs ds : Cases S} → CasesIn cs ds
          → CasesIn (case s es xs cs) (case s es xs ds)

    -- the type or a value of one of the specs, or a part of it
    pub data SpecsIn : ValueSpecs S → ValueSpecs S → Type 0 where
      in_spec_type : {s : S} {ns : List (NameAt S)} {t u : TypeExpr S} {xs : Exprs S} {ss : ValueSpecs S}
          → TypeIn t u → SpecsIn (spec s ns (Some t) xs ss) (spec s ns (Some u) xs ss)
      in_spec_values : {s : S} {ns : List (NameAt S)} {t : Option (TypeExpr S)} {xs ys : Exprs S} {ss : ValueSpecs S}
          → ExprsIn false xs ys → SpecsIn (spec s ns t xs ss) (spec s ns t ys ss)
      in_later_specs : {s : S} {ns : List (NameAt S)} {t : Option (TypeExpr S)} {xs : Exprs S} {ss us : ValueSpecs S}
          → SpecsIn ss us → SpecsIn (spec s ns t xs ss) (spec s ns t xs us)

  -- the type of a type declaration or of an alias
  pub data TypeSpecIn : TypeSpec S → TypeSpec S → Type 0 where
    in_type_spec : {s : S} {n : NameAt S} {alias : Bool} {t u : TypeExpr S} → TypeIn t u
        → TypeSpecIn (record { span = s; name = n; alias = alias; of = t })
        (record { span = s; name = n; alias = alias; of = u })

  -- the type of one of the declared types, or a part of it
  pub data TypeSpecsIn : List (TypeSpec S) → List (TypeSpec S) → Type 0 where
    in_this_spec : {x y : TypeSpec S} {xs : List (TypeSpec S)} → TypeSpecIn x y → TypeSpecsIn (x ∷ xs) (y ∷ xs)
    in_further_specs : {x : TypeSpec S} {xs ys : List (TypeSpec S)} → TypeSpecsIn xs ys → TypeSpecsIn (x ∷ xs) (x ∷ ys)

  -- a part of a declaration
  pub data DeclIn : Decl S → Decl S → Type 0 where
    in_constants : {s : S} {g : Bool} {ss us : ValueSpecs S} → SpecsIn ss us
        → DeclIn (values (const_decl s g ss)) (values (const_decl s g us))
    in_variables : {s : S} {g : Bool} {ss us : ValueSpecs S} → SpecsIn ss us
        → DeclIn (values (var_decl s g ss)) (values (var_decl s g us))
    in_types : {s : S} {g : Bool} {xs ys : List (TypeSpec S)} → TypeSpecsIn xs ys → DeclIn (types s g xs) (types s g ys)
    in_function : {s b : S} {v : Option (Receiver S)} {n : NameAt S} {g : Sig S} {xs ys : Stmts S} → StmtsIn xs ys
        → DeclIn (func (record { span = s; receiver = v; name = n; sig = g; body_span = b; body = xs }))
        (func (record { span = s; receiver = v; name = n; sig = g; body_span = b; body = ys }))
    in_func_signature : {s b : S} {v : Option (Receiver S)} {n : NameAt S} {g k : Sig S} {xs : Stmts S} → SigIn g k
        → DeclIn (func (record { span = s; receiver = v; name = n; sig = g; body_span = b; body = xs }))
        (func (record { span = s; receiver = v; name = n; sig = k; body_span = b; body = xs }))

  -- a part of one of the declarations
  pub data DeclsIn : List (Decl S) → List (Decl S) → Type 0 where
    in_this_decl : {d c : Decl S} {ds : List (Decl S)} → DeclIn d c → DeclsIn (d ∷ ds) (c ∷ ds)
    in_later_decls : {d : Decl S} {ds cs : List (Decl S)} → DeclsIn ds cs → DeclsIn (d ∷ ds) (d ∷ cs)

  -- the second file is the first with the swap made once
  pub data FileIn : File S → File S → Type 0 where
    in_decls : {n : NameAt S} {is : List (ImportDecl S)} {ds cs : List (Decl S)} → DeclsIn ds cs
        → FileIn (record { package_name = n; imports = is; decls = ds })
        (record { package_name = n; imports = is; decls = cs })
