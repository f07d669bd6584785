-- What spells an expression, a statement and a declaration of constants or variables (Go specification, Expressions,
-- Statements, Constant declarations, Variable declarations).
--
-- A relation that ends in `tokens rest` holds where the tokens before `rest` are spelled by one of the productions; the
-- rules
-- below are the productions, one each. `mark tokens rest` is what a node has for its span.
use Rattle.std.specs.Prelude.{◌≡◌, ℕ, ◌+◌, ◌≤◌, Bool, true, false, List, ◌∷◌, Option, Some}
use Rattle.std.specs.Prelude.{None}
use Rattle.go_tree.specs.declared.spans.Span.{Span}
use Rattle.go_tree.specs.declared.operators.UnOp.{UnOp}
use Rattle.go_tree.specs.declared.operators.BinOp.{BinOp}
use Rattle.go_tree.specs.declared.operators.BinOp.TheVariants.{Mul}
use Rattle.go_tree.specs.declared.exprs.Rest.{Rest}
use Rattle.go_tree.specs.declared.exprs.Rest.TheVariants.{Plain, Whole}
use Rattle.go_tree.specs.Tree.{NameAt, TypeExpr, named, Sig, Expr, Exprs, ExprOption, Elems, Value, ValueOption, Stmt}
use Rattle.go_tree.specs.Tree.{Stmts, StmtOption, BlockOption, RangeLeft, Arms, Cases, ValueSpecs, ident, int_lit}
use Rattle.go_tree.specs.Tree.{rune_lit, str_lit, composite, selector, index, slice, call, func_lit, type_operand}
use Rattle.go_tree.specs.Tree.{unary, binary, star, no_exprs, expr_and, no_expr, some_expr, no_elems, elem, plain}
use Rattle.go_tree.specs.Tree.{braced, no_value, some_value, const_decl, var_decl, empty, eval, step, assign, define}
use Rattle.go_tree.specs.Tree.{return_, break_, continue_, inner, if_, for_, range_, switch, defer, label, no_stmts}
use Rattle.go_tree.specs.Tree.{stmt_and, no_stmt, some_stmt, no_block, some_block, nothing, assigns, defines, no_arms}
use Rattle.go_tree.specs.Tree.{arm, no_cases, case, no_specs, spec}
use Rattle.go_tree.specs.GoWords.Terminals as terminal
use Rattle.go_tree.specs.GoWords.Terminals.{lex, binary_op, increment, decrement, comma, semicolon, colon, dot}
use Rattle.go_tree.specs.GoWords.Terminals.{ellipsis, paren, end_paren, bracket, end_bracket, brace, end_brace}
use Rattle.go_tree.specs.GoWords.Terminals.{key_break, key_case, key_const, key_continue, key_default, key_defer}
use Rattle.go_tree.specs.GoWords.Terminals.{key_else, key_for, key_func, key_if, key_map, key_range, key_return}
use Rattle.go_tree.specs.GoWords.Terminals.{key_struct, key_switch, key_var, level_of, unary_sign}
use Rattle.go_read.specs.SpellsTypes.{Lexemes, name_here, SpellsType, SpellsSig, SpellsNames}

-- whether a type that begins with `[`, `map` or `struct` may begin here
abbrev pub starts_type : Lexemes → Bool
starts_type (lex _ bracket ∷ _) = true
starts_type (lex _ key_map ∷ _) = true
starts_type (lex _ key_struct ∷ _) = true
starts_type _ = false

-- whether what follows lets such a type be an operand
abbrev pub follows_type : Lexemes → Bool
follows_type (lex _ paren ∷ _) = true
follows_type (lex _ comma ∷ _) = true
follows_type (lex _ end_paren ∷ _) = true
follows_type _ = false

-- a literal of a function
abbrev pub is_func_lit : {S : Type 0} → Expr S → Bool
is_func_lit (func_lit _ _ _ _) = true
is_func_lit _ = false

-- an empty statement
abbrev pub is_empty : {S : Type 0} → Stmt S → Bool
is_empty (empty _) = true
is_empty _ = false

module _ {S : Type 0} (mark : Lexemes → Lexemes → S) where
  -- the type in front of a composite literal's brace: a name or a qualified name outside a header; or a slice, map or
  -- struct type
  pub data SpellsLiteralType : Bool → TypeExpr S → Lexemes → Lexemes → Type 0 where
    named_literal_rule : {s : Span} {n : List ℕ} {r : Lexemes}
        → SpellsLiteralType false (named (mark (lex s (terminal.ident n) ∷ r) r) None (name_here mark s n r))
        (lex s (terminal.ident n) ∷ r) r
    qualified_literal_rule : {s d s2 : Span} {p n : List ℕ} {r : Lexemes}
        → SpellsLiteralType false
        (named (mark (lex s (terminal.ident p) ∷ lex d dot ∷ lex s2 (terminal.ident n) ∷ r) r)
        (Some (name_here mark s p (lex d dot ∷ lex s2 (terminal.ident n) ∷ r))) (name_here mark s2 n r))
        (lex s (terminal.ident p) ∷ lex d dot ∷ lex s2 (terminal.ident n) ∷ r) r
    type_literal_rule : {header : Bool} {t : TypeExpr S} {ts r : Lexemes}
        → starts_type ts ≡ true → SpellsType mark t ts r
        → SpellsLiteralType header t ts r

  mutual
    -- an expression of at least a level, in a header or not, with no parentheses around it
    pub data SpellsBare : ℕ → Bool → Expr S → Lexemes → Lexemes → Type 0 where
      ident_rule : {l : ℕ} {h : Bool} {s : Span} {n : List ℕ} {r : Lexemes}
          → SpellsBare l h (ident (mark (lex s (terminal.ident n) ∷ r) r) n) (lex s (terminal.ident n) ∷ r) r
      int_rule : {l : ℕ} {h : Bool} {s : Span} {n : List ℕ} {r : Lexemes}
          → SpellsBare l h (int_lit (mark (lex s (terminal.int_lit n) ∷ r) r) n) (lex s (terminal.int_lit n) ∷ r) r
      rune_rule : {l : ℕ} {h : Bool} {s : Span} {n : List ℕ} {r : Lexemes}
          → SpellsBare l h (rune_lit (mark (lex s (terminal.rune_lit n) ∷ r) r) n) (lex s (terminal.rune_lit n) ∷ r) r
      text_rule : {l : ℕ} {h : Bool} {s : Span} {n : List ℕ} {r : Lexemes}
          → SpellsBare l h (str_lit (mark (lex s (terminal.str_lit n) ∷ r) r) n) (lex s (terminal.str_lit n) ∷ r) r
      -- ( name | name "." name | Type ) "{" [ Elem { "," Elem } [ "," ] ] "}"
      composite_rule : {l : ℕ} {h : Bool} {b e : Span} {t : TypeExpr S} {es : Elems S} {ts mid r : Lexemes}
          → SpellsLiteralType h t ts (lex b brace ∷ mid) → SpellsElems es mid (lex e end_brace ∷ r)
          → SpellsBare l h (composite (mark ts r) t es) ts r
      -- "func" Sig Block
      func_rule : {l : ℕ} {h : Bool} {s : Span} {g : Sig S} {sb : S} {body : Stmts S} {ts mid r : Lexemes}
          → SpellsSig mark false g ts mid → SpellsBlock sb body mid r
          → SpellsBare l h (func_lit (mark (lex s key_func ∷ ts) r) g sb body) (lex s key_func ∷ ts) r
      type_rule : {l : ℕ} {h : Bool} {t : TypeExpr S} {ts r : Lexemes}
          → starts_type ts ≡ true → SpellsType mark t ts r → follows_type r ≡ true
          → SpellsBare l h (type_operand (mark ts r) t) ts r
      -- Primary "." name
      selector_rule : {l : ℕ} {h : Bool} {d s : Span} {n : List ℕ} {e : Expr S} {ts r : Lexemes}
          → SpellsOperand 7 h e ts (lex d dot ∷ lex s (terminal.ident n) ∷ r) →
          SpellsBare l h (selector (mark ts r) e (name_here mark s n r)) ts r
      -- Primary "[" Expr "]"
      index_rule : {l : ℕ} {h : Bool} {b c : Span} {e i : Expr S} {ts mid r : Lexemes}
          → SpellsOperand 7 h e ts (lex b bracket ∷ mid) → SpellsOperand 1 false i mid (lex c end_bracket ∷ r)
          → SpellsBare l h (index (mark ts r) e i) ts r
      -- Primary "[" [ Expr ] ":" [ Expr ] "]"
      slice_rule : {l : ℕ} {h : Bool} {b c d : Span} {e : Expr S} {i j : ExprOption S} {ts a mid r : Lexemes}
          → SpellsOperand 7 h e ts (lex b bracket ∷ a) → SpellsOption false i a (lex c colon ∷ mid)
          → SpellsOption false j mid (lex d end_bracket ∷ r)
          → SpellsBare l h (slice (mark ts r) e i j) ts r
      -- Primary "(" [ Exprs [ "..." ] [ "," ] ] ")"; only here may the operand be a literal of a function
      call_rule : {l : ℕ} {h : Bool} {b : Span} {f : Expr S} {xs : Exprs S} {rest : Rest} {ts mid r : Lexemes}
          → SpellsExpr 7 h f ts (lex b paren ∷ mid) → SpellsArgs xs rest mid r
          → SpellsBare l h (call (mark ts r) f xs rest) ts r
      -- ( "+" | "-" | "!" | "^" | "*" | "&" ) Unary
      unary_rule : {l : ℕ} {h : Bool} {s : Span} {op : UnOp} {e : Expr S} {ts r : Lexemes}
          → l ≤ 6 → SpellsOperand 6 h e ts r
          → SpellsBare l h (unary (mark (lex s (unary_sign op) ∷ ts) r) op e) (lex s (unary_sign op) ∷ ts) r
      star_rule : {l : ℕ} {h : Bool} {s : Span} {e : Expr S} {ts r : Lexemes}
          → l ≤ 6 → SpellsOperand 6 h e ts r
          → SpellsBare l h (star (mark (lex s (binary_op Mul) ∷ ts) r) e) (lex s (binary_op Mul) ∷ ts) r
      -- Expr binary Expr, where equal levels associate to the left
      binary_rule : {l : ℕ} {h : Bool} {s : Span} {op : BinOp} {a b : Expr S} {ts mid r : Lexemes}
          → l ≤ level_of op → SpellsOperand (level_of op) h a ts (lex s (binary_op op) ∷ mid) →
          SpellsOperand (level_of op + 1) h b mid r
          → SpellsBare l h (binary (mark ts r) op a b) ts r

    -- the same within any number of parentheses, which make no node
    pub data SpellsExpr : ℕ → Bool → Expr S → Lexemes → Lexemes → Type 0 where
      bare_rule : {l : ℕ} {h : Bool} {e : Expr S} {ts r : Lexemes} → SpellsBare l h e ts r → SpellsExpr l h e ts r
      parens_rule : {l : ℕ} {h : Bool} {s c : Span} {e : Expr S} {ts r : Lexemes}
          → SpellsExpr 1 false e ts (lex c end_paren ∷ r) → SpellsExpr l h e (lex s paren ∷ ts) r

    -- an expression other than a literal of a function
    pub data SpellsOperand : ℕ → Bool → Expr S → Lexemes → Lexemes → Type 0 where
      operand_rule : {l : ℕ} {h : Bool} {e : Expr S} {ts r : Lexemes}
          → is_func_lit e ≡ false → SpellsExpr l h e ts r
          → SpellsOperand l h e ts r

    -- [ Expr ]
    pub data SpellsOption : Bool → ExprOption S → Lexemes → Lexemes → Type 0 where
      no_expr_rule : {h : Bool} {r : Lexemes} → SpellsOption h no_expr r r
      some_expr_rule : {h : Bool} {e : Expr S} {ts r : Lexemes} → SpellsOperand 1 h e ts r →
          SpellsOption h (some_expr e) ts r

    -- Exprs = Expr { "," Expr }
    pub data SpellsExprs : Bool → Exprs S → Lexemes → Lexemes → Type 0 where
      last_expr_rule : {h : Bool} {e : Expr S} {ts r : Lexemes} → SpellsOperand 1 h e ts r →
          SpellsExprs h (expr_and e no_exprs) ts r
      more_exprs_rule : {h : Bool} {c : Span} {e : Expr S} {es : Exprs S} {ts mid r : Lexemes}
          → SpellsOperand 1 h e ts (lex c comma ∷ mid) → SpellsExprs h es mid r
          → SpellsExprs h (expr_and e es) ts r

    -- [ Exprs [ "..." ] [ "," ] ] ")"
    pub data SpellsArgs : Exprs S → Rest → Lexemes → Lexemes → Type 0 where
      no_args_rule : {e : Span} {r : Lexemes} → SpellsArgs no_exprs Plain (lex e end_paren ∷ r) r
      args_rule : {e : Span} {xs : Exprs S} {ts r : Lexemes} → SpellsExprs false xs ts (lex e end_paren ∷ r) →
          SpellsArgs xs Plain ts r
      comma_args_rule : {c e : Span} {xs : Exprs S} {ts r : Lexemes}
          → SpellsExprs false xs ts (lex c comma ∷ lex e end_paren ∷ r) → SpellsArgs xs Plain ts r
      rest_args_rule : {d e : Span} {xs : Exprs S} {ts r : Lexemes}
          → SpellsExprs false xs ts (lex d ellipsis ∷ lex e end_paren ∷ r) → SpellsArgs xs Whole ts r
      comma_rest_args_rule : {d c e : Span} {xs : Exprs S} {ts r : Lexemes}
          → SpellsExprs false xs ts (lex d ellipsis ∷ lex c comma ∷ lex e end_paren ∷ r) → SpellsArgs xs Whole ts r

    -- [ Elem { "," Elem } [ "," ] ] before "}"
    pub data SpellsElems : Elems S → Lexemes → Lexemes → Type 0 where
      no_elems_rule : {r : Lexemes} → SpellsElems no_elems r r
      last_elem_rule : {k : ValueOption S} {v : Value S} {ts r : Lexemes}
          → SpellsElem k v ts r → SpellsElems (elem (mark ts r) k v no_elems) ts r
      more_elems_rule : {c : Span} {k : ValueOption S} {v : Value S} {es : Elems S} {ts mid r : Lexemes}
          → SpellsElem k v ts (lex c comma ∷ mid) → SpellsElems es mid r
          → SpellsElems (elem (mark ts (lex c comma ∷ mid)) k v es) ts r

    -- Elem = [ Value ":" ] Value
    pub data SpellsElem : ValueOption S → Value S → Lexemes → Lexemes → Type 0 where
      value_rule : {v : Value S} {ts r : Lexemes} → SpellsValue v ts r → SpellsElem no_value v ts r
      keyed_rule : {c : Span} {k v : Value S} {ts mid r : Lexemes}
          → SpellsValue k ts (lex c colon ∷ mid) → SpellsValue v mid r
          → SpellsElem (some_value k) v ts r

    -- Value = Expr | "{" [ Elem { "," Elem } [ "," ] ] "}"
    pub data SpellsValue : Value S → Lexemes → Lexemes → Type 0 where
      plain_rule : {e : Expr S} {ts r : Lexemes} → SpellsOperand 1 false e ts r → SpellsValue (plain e) ts r
      braced_rule : {s c : Span} {es : Elems S} {ts r : Lexemes}
          → SpellsElems es ts (lex c end_brace ∷ r) →
          SpellsValue (braced (mark (lex s brace ∷ ts) r) es) (lex s brace ∷ ts) r

    -- Simple = [ Expr | Expr "++" | Expr "--" | Exprs assign Exprs | Names ":=" Exprs ], where it is not empty
    pub data SpellsSimple : Bool → Stmt S → Lexemes → Lexemes → Type 0 where
      eval_rule : {h : Bool} {e : Expr S} {ts r : Lexemes} → SpellsOperand 1 h e ts r →
          SpellsSimple h (eval (mark ts r) e) ts r
      increment_rule : {h : Bool} {s : Span} {e : Expr S} {ts r : Lexemes}
          → SpellsOperand 1 h e ts (lex s increment ∷ r) → SpellsSimple h (step (mark ts r) e true) ts r
      decrement_rule : {h : Bool} {s : Span} {e : Expr S} {ts r : Lexemes}
          → SpellsOperand 1 h e ts (lex s decrement ∷ r) → SpellsSimple h (step (mark ts r) e false) ts r
      assign_rule : {h : Bool} {s : Span} {op : Option BinOp} {xs ys : Exprs S} {ts mid r : Lexemes}
          → SpellsExprs h xs ts (lex s (terminal.assign op) ∷ mid) → SpellsExprs h ys mid r
          → SpellsSimple h (assign (mark ts r) xs op ys) ts r
      define_rule : {h : Bool} {s : Span} {ns : List (NameAt S)} {ys : Exprs S} {ts mid r : Lexemes}
          → SpellsNames mark ns ts (lex s terminal.define ∷ mid) → SpellsExprs h ys mid r
          → SpellsSimple h (define (mark ts r) ns ys) ts r

    -- Simple in a header, where an empty one is none
    pub data SpellsPart : StmtOption S → Lexemes → Lexemes → Type 0 where
      no_part_rule : {r : Lexemes} → SpellsPart no_stmt r r
      part_rule : {i : Stmt S} {ts r : Lexemes} → SpellsSimple true i ts r → SpellsPart (some_stmt i) ts r

    -- [ Simple ";" ]
    pub data SpellsFirst : StmtOption S → Lexemes → Lexemes → Type 0 where
      no_first_rule : {r : Lexemes} → SpellsFirst no_stmt r r
      first_rule : {s : Span} {i : StmtOption S} {ts r : Lexemes} → SpellsPart i ts (lex s semicolon ∷ r) →
          SpellsFirst i ts r

    -- Stmt = [ Simple | ( "const" | "var" ) Decl | "return" [ Exprs ] | ( "break" | "continue" ) [ name ] | Block | If
    -- | For | Switch | "defer" call | name ":" Stmt ]
    pub data SpellsStmt : Stmt S → Lexemes → Lexemes → Type 0 where
      empty_rule : {r : Lexemes} → SpellsStmt (empty (mark r r)) r r
      simple_rule : {x : Stmt S} {ts r : Lexemes} → SpellsSimple false x ts r → SpellsStmt x ts r
      const_rule : {s : Span} {grouped : Bool} {ss : ValueSpecs S} {ts r : Lexemes}
          → SpellsDecl true grouped ss ts r →
          SpellsStmt (const_decl (mark (lex s key_const ∷ ts) r) grouped ss) (lex s key_const ∷ ts) r
      var_rule : {s : Span} {grouped : Bool} {ss : ValueSpecs S} {ts r : Lexemes}
          → SpellsDecl false grouped ss ts r →
          SpellsStmt (var_decl (mark (lex s key_var ∷ ts) r) grouped ss) (lex s key_var ∷ ts) r
      -- "return" [ Exprs ]
      return_rule : {s : Span} {r : Lexemes} →
          SpellsStmt (return_ (mark (lex s key_return ∷ r) r) no_exprs) (lex s key_return ∷ r) r
      return_values_rule : {s : Span} {xs : Exprs S} {ts r : Lexemes}
          → SpellsExprs false xs ts r →
          SpellsStmt (return_ (mark (lex s key_return ∷ ts) r) xs) (lex s key_return ∷ ts) r
      -- "break" [ name ]
      break_rule : {s : Span} {r : Lexemes} →
          SpellsStmt (break_ (mark (lex s key_break ∷ r) r) None) (lex s key_break ∷ r) r
      break_label_rule : {s c : Span} {n : List ℕ} {r : Lexemes}
          → SpellsStmt (break_ (mark (lex s key_break ∷ lex c (terminal.ident n) ∷ r) r) (Some (name_here mark c n r)))
          (lex s key_break ∷ lex c (terminal.ident n) ∷ r) r
      -- "continue" [ name ]
      continue_rule : {s : Span} {r : Lexemes} →
          SpellsStmt (continue_ (mark (lex s key_continue ∷ r) r) None) (lex s key_continue ∷ r) r
      continue_label_rule : {s c : Span} {n : List ℕ} {r : Lexemes}
          → SpellsStmt
          (continue_ (mark (lex s key_continue ∷ lex c (terminal.ident n) ∷ r) r) (Some (name_here mark c n r)))
          (lex s key_continue ∷ lex c (terminal.ident n) ∷ r) r
      block_rule : {sb : S} {body : Stmts S} {ts r : Lexemes} → SpellsBlock sb body ts r →
          SpellsStmt (inner sb body) ts r
      if_rule : {arms : Arms S} {last : BlockOption S} {ts r : Lexemes}
          → SpellsIf arms last ts r → SpellsStmt (if_ (mark ts r) arms last) ts r
      -- "for" [ Expr ] Block
      while_rule : {s : Span} {t : ExprOption S} {sb : S} {body : Stmts S} {ts mid r : Lexemes}
          → SpellsOption true t ts mid → SpellsBlock sb body mid r
          → SpellsStmt (for_ (mark (lex s key_for ∷ ts) r) no_stmt t no_stmt sb body) (lex s key_for ∷ ts) r
      -- "for" Simple ";" [ Expr ] ";" Simple Block
      for_rule : {s c d : Span} {i p : StmtOption S} {t : ExprOption S} {sb : S} {body : Stmts S}
          {ts ts2 ts3 ts4 r : Lexemes}
          → SpellsPart i ts (lex c semicolon ∷ ts2) → SpellsOption true t ts2 (lex d semicolon ∷ ts3) →
          SpellsPart p ts3 ts4
          → SpellsBlock sb body ts4 r
          → SpellsStmt (for_ (mark (lex s key_for ∷ ts) r) i t p sb body) (lex s key_for ∷ ts) r
      -- "for" [ Exprs "=" | Names ":=" ] "range" Expr Block
      range_rule : {s c : Span} {left : RangeLeft S} {e : Expr S} {sb : S} {body : Stmts S} {ts ts2 ts3 r : Lexemes}
          → SpellsLeft left ts (lex c key_range ∷ ts2) → SpellsOperand 1 true e ts2 ts3 → SpellsBlock sb body ts3 r
          → SpellsStmt (range_ (mark (lex s key_for ∷ ts) r) left e sb body) (lex s key_for ∷ ts) r
      -- "switch" [ Simple ";" ] [ Expr ] "{" Cases "}"
      switch_rule : {s b e : Span} {i : StmtOption S} {t : ExprOption S} {cs : Cases S} {ts ts2 ts3 r : Lexemes}
          → SpellsFirst i ts ts2 → SpellsOption true t ts2 (lex b brace ∷ ts3) →
          SpellsCases cs ts3 (lex e end_brace ∷ r)
          → SpellsStmt (switch (mark (lex s key_switch ∷ ts) r) i t cs) (lex s key_switch ∷ ts) r
      -- "defer" and a call with no parentheses around it
      defer_rule : {s : Span} {c : S} {f : Expr S} {xs : Exprs S} {rest : Rest} {ts r : Lexemes}
          → SpellsBare 1 false (call c f xs rest) ts r
          → SpellsStmt (defer (mark (lex s key_defer ∷ ts) r) (call c f xs rest)) (lex s key_defer ∷ ts) r
      -- name ":" Stmt
      label_rule : {s c : Span} {n : List ℕ} {x : Stmt S} {ts r : Lexemes}
          → SpellsStmt x ts r
          → SpellsStmt
          (label (mark (lex s (terminal.ident n) ∷ lex c colon ∷ ts) r) (name_here mark s n (lex c colon ∷ ts)) x)
          (lex s (terminal.ident n) ∷ lex c colon ∷ ts) r

    -- Block = "{" { Stmt ";" } "}"
    pub data SpellsBlock : S → Stmts S → Lexemes → Lexemes → Type 0 where
      braces_rule : {s e : Span} {body : Stmts S} {ts r : Lexemes}
          → SpellsStmts body ts (lex e end_brace ∷ r) →
          SpellsBlock (mark (lex s brace ∷ ts) r) body (lex s brace ∷ ts) r

    -- { Stmt ";" }: the last semicolon may be left out before "}", and then an empty statement makes no node
    pub data SpellsStmts : Stmts S → Lexemes → Lexemes → Type 0 where
      no_stmts_rule : {r : Lexemes} → SpellsStmts no_stmts r r
      last_stmt_rule : {e : Span} {x : Stmt S} {ts r : Lexemes}
          → is_empty x ≡ false → SpellsStmt x ts (lex e end_brace ∷ r)
          → SpellsStmts (stmt_and x no_stmts) ts (lex e end_brace ∷ r)
      more_stmts_rule : {c : Span} {x : Stmt S} {xs : Stmts S} {ts mid r : Lexemes}
          → SpellsStmt x ts (lex c semicolon ∷ mid) → SpellsStmts xs mid r
          → SpellsStmts (stmt_and x xs) ts r

    -- If = "if" [ Simple ";" ] Expr Block [ "else" ( If | Block ) ]: its arms, each without the `else` after it, and
    -- the last block
    pub data SpellsIf : Arms S → BlockOption S → Lexemes → Lexemes → Type 0 where
      only_arm_rule : {i : StmtOption S} {t : Expr S} {sb : S} {body : Stmts S} {ts r : Lexemes}
          → SpellsArm i t sb body ts r → SpellsIf (arm (mark ts r) i t sb body no_arms) no_block ts r
      else_rule : {c : Span} {i : StmtOption S} {t : Expr S} {sb sl : S} {body last : Stmts S} {ts mid r : Lexemes}
          → SpellsArm i t sb body ts (lex c key_else ∷ mid) → SpellsBlock sl last mid r
          → SpellsIf (arm (mark ts (lex c key_else ∷ mid)) i t sb body no_arms) (some_block sl last) ts r
      else_if_rule : {c : Span} {i : StmtOption S} {t : Expr S} {sb : S} {body : Stmts S} {arms : Arms S}
          {last : BlockOption S} {ts mid r : Lexemes}
          → SpellsArm i t sb body ts (lex c key_else ∷ mid) → SpellsIf arms last mid r
          → SpellsIf (arm (mark ts (lex c key_else ∷ mid)) i t sb body arms) last ts r

    -- "if" [ Simple ";" ] Expr Block
    pub data SpellsArm : StmtOption S → Expr S → S → Stmts S → Lexemes → Lexemes → Type 0 where
      arm_rule : {s : Span} {i : StmtOption S} {t : Expr S} {sb : S} {body : Stmts S} {ts ts2 ts3 r : Lexemes}
          → SpellsFirst i ts ts2 → SpellsOperand 1 true t ts2 ts3 → SpellsBlock sb body ts3 r
          → SpellsArm i t sb body (lex s key_if ∷ ts) r

    -- [ Exprs "=" | Names ":=" ] before "range"
    pub data SpellsLeft : RangeLeft S → Lexemes → Lexemes → Type 0 where
      no_left_rule : {r : Lexemes} → SpellsLeft nothing r r
      assigns_rule : {s : Span} {xs : Exprs S} {ts r : Lexemes}
          → SpellsExprs true xs ts (lex s (terminal.assign None) ∷ r) → SpellsLeft (assigns xs) ts r
      defines_rule : {s : Span} {ns : List (NameAt S)} {ts r : Lexemes}
          → SpellsNames mark ns ts (lex s terminal.define ∷ r) → SpellsLeft (defines ns) ts r

    -- { ( "case" Exprs | "default" ) ":" { Stmt ";" } } before "}"
    pub data SpellsCases : Cases S → Lexemes → Lexemes → Type 0 where
      no_cases_rule : {r : Lexemes} → SpellsCases no_cases r r
      case_rule : {s c : Span} {xs : Exprs S} {body : Stmts S} {cs : Cases S} {ts ts2 mid r : Lexemes}
          → SpellsExprs false xs ts (lex c colon ∷ ts2) → SpellsStmts body ts2 mid → SpellsCases cs mid r
          → SpellsCases (case (mark (lex s key_case ∷ ts) mid) xs body cs) (lex s key_case ∷ ts) r
      default_rule : {s c : Span} {body : Stmts S} {cs : Cases S} {ts mid r : Lexemes}
          → SpellsStmts body ts mid → SpellsCases cs mid r
          → SpellsCases (case (mark (lex s key_default ∷ lex c colon ∷ ts) mid) no_exprs body cs)
          (lex s key_default ∷ lex c colon ∷ ts) r

    -- what stands after "const" (true) or "var" (false): a spec, or "(" { Spec ";" } ")"
    pub data SpellsDecl : Bool → Bool → ValueSpecs S → Lexemes → Lexemes → Type 0 where
      single_rule : {constant : Bool} {ns : List (NameAt S)} {t : Option (TypeExpr S)} {xs : Exprs S} {ts r : Lexemes}
          → SpellsSpec constant ns t xs ts r → SpellsDecl constant false (spec (mark ts r) ns t xs no_specs) ts r
      group_rule : {s e : Span} {constant : Bool} {ss : ValueSpecs S} {ts r : Lexemes}
          → SpellsSpecs constant ss ts (lex e end_paren ∷ r) → SpellsDecl constant true ss (lex s paren ∷ ts) r

    -- { Spec ";" } before ")", where the last semicolon may be left out
    pub data SpellsSpecs : Bool → ValueSpecs S → Lexemes → Lexemes → Type 0 where
      no_specs_rule : {constant : Bool} {r : Lexemes} → SpellsSpecs constant no_specs r r
      last_spec_rule : {e : Span} {constant : Bool} {ns : List (NameAt S)} {t : Option (TypeExpr S)} {xs : Exprs S}
          {ts r : Lexemes}
          → SpellsSpec constant ns t xs ts (lex e end_paren ∷ r)
          → SpellsSpecs constant (spec (mark ts (lex e end_paren ∷ r)) ns t xs no_specs) ts (lex e end_paren ∷ r)
      more_specs_rule : {c : Span} {constant : Bool} {ns : List (NameAt S)} {t : Option (TypeExpr S)} {xs : Exprs S}
          {ss : ValueSpecs S} {ts mid r : Lexemes}
          → SpellsSpec constant ns t xs ts (lex c semicolon ∷ mid) → SpellsSpecs constant ss mid r
          → SpellsSpecs constant (spec (mark ts (lex c semicolon ∷ mid)) ns t xs ss) ts r

    -- CSpec = Names [ [ Type ] "=" Exprs ] and VSpec = Names ( Type [ "=" Exprs ] | "=" Exprs )
    pub data SpellsSpec : Bool → List (NameAt S) → Option (TypeExpr S) → Exprs S → Lexemes → Lexemes → Type 0 where
      repeated_rule : {ns : List (NameAt S)} {ts r : Lexemes} → SpellsNames mark ns ts r →
          SpellsSpec true ns None no_exprs ts r
      typed_var_rule : {ns : List (NameAt S)} {t : TypeExpr S} {ts mid r : Lexemes}
          → SpellsNames mark ns ts mid → SpellsType mark t mid r
          → SpellsSpec false ns (Some t) no_exprs ts r
      values_rule : {s : Span} {constant : Bool} {ns : List (NameAt S)} {xs : Exprs S} {ts mid r : Lexemes}
          → SpellsNames mark ns ts (lex s (terminal.assign None) ∷ mid) → SpellsExprs false xs mid r
          → SpellsSpec constant ns None xs ts r
      typed_values_rule : {s : Span} {constant : Bool} {ns : List (NameAt S)} {t : TypeExpr S} {xs : Exprs S}
          {ts mid mid2 r : Lexemes}
          → SpellsNames mark ns ts mid → SpellsType mark t mid (lex s (terminal.assign None) ∷ mid2) →
          SpellsExprs false xs mid2 r
          → SpellsSpec constant ns (Some t) xs ts r
