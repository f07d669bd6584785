-- What spells an expression, a statement or a declaration of constants or variables is read as it.
use Rattle.std.proofs.Common.{◌≡◌, ℕ, Bool, true, false, List, Option, Some, refl}
use Rattle.go_tree.specs.declared.exprs.Rest.{Rest}
use Rattle.go_tree.specs.Tree.{NameAt, TypeExpr, Expr, Exprs, ExprOption, Elems, Value, ValueOption, Stmt, Stmts, StmtOption, BlockOption, Arms, Cases, ValueSpecs}
use Rattle.go_read.specs.SpellsTypes.{Lexemes}
use Rattle.go_read.specs.Spells.{SpellsBare, SpellsExpr, SpellsOperand, SpellsOption, SpellsExprs, SpellsArgs, SpellsElems, SpellsElem, SpellsValue, SpellsSimple, SpellsPart, SpellsFirst, SpellsStmt, SpellsStmts, SpellsIf, SpellsArm, SpellsCases, SpellsDecl, SpellsSpecs, SpellsSpec, ident_rule, int_rule, rune_rule, text_rule, composite_rule, func_rule, type_rule, selector_rule, index_rule, slice_rule, call_rule, unary_rule, star_rule, binary_rule, bare_rule, parens_rule, operand_rule, no_expr_rule, some_expr_rule, last_expr_rule, more_exprs_rule, no_args_rule, args_rule, comma_args_rule, rest_args_rule, comma_rest_args_rule, no_elems_rule, last_elem_rule, more_elems_rule, value_rule, keyed_rule, plain_rule, braced_rule, eval_rule, increment_rule, decrement_rule, assign_rule, define_rule, no_part_rule, part_rule, no_first_rule, first_rule, empty_rule, simple_rule, const_rule, var_rule, return_rule, return_values_rule, break_rule, break_label_rule, continue_rule, continue_label_rule, block_rule, if_rule, while_rule, for_rule, range_rule, switch_rule, defer_rule, label_rule, braces_rule, no_stmts_rule, last_stmt_rule, more_stmts_rule, only_arm_rule, else_rule, else_if_rule, arm_rule, no_left_rule, assigns_rule, defines_rule, no_cases_rule, case_rule, default_rule, single_rule, group_rule, no_specs_rule, last_spec_rule, more_specs_rule, repeated_rule, typed_var_rule, values_rule, typed_values_rule}
use Rattle.go_read.specs.Goals.{read_args}
use Rattle.go_read.specs.Reading.{at}
use Rattle.go_read.proofs.CompleteExprs.{Full, Held, Operand, Maybe, absent, present, List_of, closed, closed_after_comma, closed_rest, closed_rest_after_comma, ident_full, int_full, rune_full, text_full, parens_full, func_full, type_full, composite_full, selector_full, call_full, index_full, slice_full, unary_full, star_full, binary_full, no_args_reads, last_list, more_list}
use Rattle.go_read.proofs.CompleteElems.{Val, Element, Elements, plain_value, braced_value, value_elem, keyed_elem, no_elements, last_element, more_elements}
use Rattle.go_read.proofs.CompleteSimple.{Simple, eval_simple, increment_simple, decrement_simple, assign_simple, define_simple, names_begin_expr, no_left_clause, assigns_clause, defines_clause}
use Rattle.go_read.proofs.CompleteStmts.{Part, no_part, some_part, First, no_first, some_first, Stmts_of, block_reads, Stmt_of, no_stmts_reads, last_stmt_reads, more_stmts_reads, empty_reads, simple_reads, return_reads, return_values_reads, break_reads, break_label_reads, continue_reads, continue_label_reads, inner_reads, defer_reads, label_reads, const_reads, var_reads, Arm_of, arm_reads, If_of, only_arm_reads, else_reads, else_if_reads, if_reads, while_reads, for_reads, range_alone_reads, range_left_reads, Cases_of, switch_reads, no_cases_reads, case_reads, default_reads}
use Rattle.go_read.proofs.CompleteDecls.{Spec_of, repeated_reads, typed_var_reads, values_reads, typed_values_reads, Specs_of, no_specs_reads, last_spec_reads, more_specs_reads, Decl_of, single_reads, group_reads}

module _ {S : Type 0} (mark : Lexemes → Lexemes → S) where
  mutual
    pub bare : {l : ℕ} {h : Bool} {e : Expr S} {ts r : Lexemes} → SpellsBare mark l h e ts r → Full mark l h e true ts r
    bare (ident_rule {l = l} {h = h} {s = s} {n = n} {r = r}) = ident_full mark l h s n r
    bare (int_rule {l = l} {h = h} {s = s} {n = n} {r = r}) = int_full mark l h s n r
    bare (rune_rule {l = l} {h = h} {s = s} {n = n} {r = r}) = rune_full mark l h s n r
    bare (text_rule {l = l} {h = h} {s = s} {n = n} {r = r}) = text_full mark l h s n r
    bare (composite_rule {l = l} {h = h} {b = b} {e = e} {t = t} {es = es} {ts = ts} {mid = mid} {r = r} d k) = composite_full mark l h t es b e ts mid r d (elems k refl)
    bare (func_rule {l = l} {h = h} {s = s} {g = g} {ts = ts} {r = r} d (braces_rule {s = b} {e = e} {body = body} {ts = mid} k)) =
        func_full mark l h s b g _ body ts mid r d (block_reads mark b e body mid r (stmts k))
    bare (type_rule {l = l} {h = h} {t = t} {ts = ts} {r = r} p d q) = type_full mark l h t ts r p d q
    bare (selector_rule {l = l} {h = h} {d = d} {s = s} {n = n} {e = e} {ts = ts} {r = r} k) = selector_full mark l h d s n e ts r (operand k)
    bare (index_rule {l = l} {h = h} {b = b} {c = c} {e = e} {i = i} {ts = ts} {mid = mid} {r = r} k j) = index_full mark l h b c e i ts mid r (operand k) (operand j)
    bare (slice_rule {l = l} {h = h} {b = b} {c = c} {d = d} {e = e} {i = i} {j = j} {ts = ts} {a = a} {mid = mid} {r = r} k x y) = slice_full mark l h b c d e i j ts a mid r (operand k) (option x) (option y)
    bare (call_rule {l = l} {h = h} {b = b} {f = f} {xs = xs} {rest = rest} {ts = ts} {mid = mid} {r = r} k x) = call_full mark l h b f xs rest ts mid r (expr k) (args x)
    bare (unary_rule {l = l} {h = h} {s = s} {op = op} {e = e} {ts = ts} {r = r} p k) = unary_full mark l h s op e ts r p (operand k)
    bare (star_rule {l = l} {h = h} {s = s} {e = e} {ts = ts} {r = r} p k) = star_full mark l h s e ts r p (operand k)
    bare (binary_rule {l = l} {h = h} {s = s} {op = op} {a = a} {b = b} {ts = ts} {mid = mid} {r = r} p x y) = binary_full mark l h s op a b ts mid r p (operand x) (operand y)

    pub expr : {l : ℕ} {h : Bool} {e : Expr S} {ts r : Lexemes} → SpellsExpr mark l h e ts r → Held mark l h e ts r
    expr (bare_rule k) = record { bare = true; full = bare k }
    expr (parens_rule {l = l} {h = h} {s = s} {c = c} {e = e} {ts = ts} {r = r} k) = record { bare = false; full = parens_full mark l h s c e ts r (expr k) }

    pub operand : {l : ℕ} {h : Bool} {e : Expr S} {ts r : Lexemes} → SpellsOperand mark l h e ts r → Operand mark l h e ts r
    operand (operand_rule p k) = let x = expr k in record { bare = x.bare; full = x.full; free = p }

    pub option : {h : Bool} {o : ExprOption S} {ts r : Lexemes} → SpellsOption mark h o ts r → Maybe mark h o ts r
    option no_expr_rule = absent
    option (some_expr_rule k) = present (operand k)

    pub exprs : {h : Bool} {xs : Exprs S} {ts r : Lexemes} → SpellsExprs mark h xs ts r → List_of mark h xs ts r
    exprs (last_expr_rule {h = h} {e = e} {ts = ts} {r = r} k) = last_list mark h e ts r (operand k)
    exprs (more_exprs_rule {h = h} {c = c} {e = e} {es = es} {ts = ts} {mid = mid} {r = r} k j) = more_list mark h c e es ts mid r (operand k) (exprs j)

    pub args : {xs : Exprs S} {rest : Rest} {ts r : Lexemes} → SpellsArgs mark xs rest ts r → at mark read_args ts ≡ Some ((xs, rest), r)
    args (no_args_rule {e = e} {r = r}) = no_args_reads mark e r
    args (args_rule {r = r} k) = (exprs k).args _ r closed
    args (comma_args_rule {r = r} k) = (exprs k).args _ r closed_after_comma
    args (rest_args_rule {r = r} k) = (exprs k).args _ r closed_rest
    args (comma_rest_args_rule {r = r} k) = (exprs k).args _ r closed_rest_after_comma

    pub elems : {es : Elems S} {ts r : Lexemes} → SpellsElems mark es ts r → Elements mark es ts r
    elems (no_elems_rule {r = r}) = no_elements mark r
    elems (last_elem_rule {k = k} {v = v} {ts = ts} {r = r} d) = last_element mark k v ts r (element d)
    elems (more_elems_rule {c = c} {k = k} {v = v} {es = es} {ts = ts} {mid = mid} {r = r} d j) = more_elements mark c k v es ts mid r (element d) (elems j)

    pub element : {k : ValueOption S} {v : Value S} {ts r : Lexemes} → SpellsElem mark k v ts r → Element mark k v ts r
    element (value_rule {v = v} {ts = ts} {r = r} d) = value_elem mark v ts r (value d)
    element (keyed_rule {c = c} {k = k} {v = v} {ts = ts} {mid = mid} {r = r} d j) = keyed_elem mark c k v ts mid r (value d) (value j)

    pub value : {v : Value S} {ts r : Lexemes} → SpellsValue mark v ts r → Val mark v ts r
    value (plain_rule {e = e} {ts = ts} {r = r} k) = plain_value mark e ts r (operand k)
    value (braced_rule {s = s} {c = c} {es = es} {ts = ts} {r = r} k) = braced_value mark s c es ts r (elems k)

    pub simple : {h : Bool} {x : Stmt S} {ts r : Lexemes} → SpellsSimple mark h x ts r → Simple mark h x ts r
    simple (eval_rule {h = h} {e = e} {ts = ts} {r = r} k) = eval_simple mark h e ts r (operand k)
    simple (increment_rule {h = h} {s = s} {e = e} {ts = ts} {r = r} k) = increment_simple mark h s e ts r (operand k)
    simple (decrement_rule {h = h} {s = s} {e = e} {ts = ts} {r = r} k) = decrement_simple mark h s e ts r (operand k)
    simple (assign_rule {h = h} {s = s} {op = op} {xs = xs} {ys = ys} {ts = ts} {mid = mid} {r = r} k j) = assign_simple mark h s op xs ys ts mid r (exprs k) (exprs j)
    simple (define_rule {h = h} {s = s} {ns = ns} {ys = ys} {ts = ts} {mid = mid} {r = r} d j) = define_simple mark h s ns ys ts mid r d (exprs j)

    pub part : {i : StmtOption S} {ts r : Lexemes} → SpellsPart mark i ts r → Part mark i ts r
    part no_part_rule = no_part
    part (part_rule k) = some_part (simple k)

    pub first : {i : StmtOption S} {ts r : Lexemes} → SpellsFirst mark i ts r → First mark i ts r
    first no_first_rule = no_first
    first (first_rule k) = some_first (part k)

    pub stmt : {x : Stmt S} {ts r : Lexemes} → SpellsStmt mark x ts r → Stmt_of mark x ts r
    stmt (empty_rule {r = r}) = empty_reads mark r
    stmt (simple_rule {x = x} {ts = ts} {r = r} k) = simple_reads mark x ts r (simple k)
    stmt (const_rule {s = s} {grouped = g} {ss = ss} {ts = ts} {r = r} k) = const_reads mark s g ss ts r (decl k)
    stmt (var_rule {s = s} {grouped = g} {ss = ss} {ts = ts} {r = r} k) = var_reads mark s g ss ts r (decl k)
    stmt (return_rule {s = s} {r = r}) = return_reads mark s r
    stmt (return_values_rule {s = s} {xs = xs} {ts = ts} {r = r} k) = return_values_reads mark s xs ts r (exprs k)
    stmt (break_rule {s = s} {r = r}) = break_reads mark s r
    stmt (break_label_rule {s = s} {c = c} {n = n} {r = r}) = break_label_reads mark s c n r
    stmt (continue_rule {s = s} {r = r}) = continue_reads mark s r
    stmt (continue_label_rule {s = s} {c = c} {n = n} {r = r}) = continue_label_reads mark s c n r
    stmt (block_rule (braces_rule {s = s} {e = e} {body = body} {ts = ts} {r = r} k)) = inner_reads mark s _ body ts r (block_reads mark s e body ts r (stmts k))
    stmt (if_rule k) = if_reads mark k (branches k)
    stmt (while_rule {s = s} {t = t} {ts = ts} x (braces_rule {s = b} {e = e} {body = body} {ts = mid} {r = r} k)) = while_reads mark s b t _ body ts mid r (option x) (block_reads mark b e body mid r (stmts k))
    stmt (for_rule {s = s} {c = c} {d = d} {i = i} {p = p} {t = t} {ts = ts} {ts2 = ts2} {ts3 = ts3} x y z (braces_rule {s = b} {e = e} {body = body} {ts = mid} {r = r} k)) =
        for_reads mark s c d b i p t _ body ts ts2 ts3 mid r (part x) (option y) (part z) (block_reads mark b e body mid r (stmts k))
    stmt (range_rule {s = s} {c = c} {left = left} {e = x} {ts2 = ts2} no_left_rule k (braces_rule {s = b} {e = e} {body = body} {ts = mid} {r = r} j)) =
        range_alone_reads mark s c b left x _ body ts2 mid r (no_left_clause mark c ts2) (operand k) (block_reads mark b e body mid r (stmts j))
    stmt (range_rule {s = s} {c = c} {left = left} {e = x} {ts = ts} {ts2 = ts2} (assigns_rule {s = d} {xs = xs} l) k (braces_rule {s = b} {e = e} {body = body} {ts = mid} {r = r} j)) =
        let y = exprs l in
        range_left_reads mark s b left x _ body ts ts2 mid r y.begins (assigns_clause mark xs d c ts ts2 y) (operand k) (block_reads mark b e body mid r (stmts j))
    stmt (range_rule {s = s} {c = c} {left = left} {e = x} {ts = ts} {ts2 = ts2} (defines_rule {s = d} {ns = ns} l) k (braces_rule {s = b} {e = e} {body = body} {ts = mid} {r = r} j)) =
        range_left_reads mark s b left x _ body ts ts2 mid r (names_begin_expr mark l) (defines_clause mark ns d c ts ts2 l) (operand k) (block_reads mark b e body mid r (stmts j))
    stmt (switch_rule {s = s} {b = b} {e = e} {i = i} {t = t} {cs = cs} {ts = ts} {ts2 = ts2} {ts3 = ts3} {r = r} x y k) = switch_reads mark s b e i t cs ts ts2 ts3 r (first x) (option y) (cases k)
    stmt (defer_rule {s = s} {c = c} {f = f} {xs = xs} {rest = rest} {ts = ts} {r = r} k) = defer_reads mark s c f xs rest ts r (bare k)
    stmt (label_rule {s = s} {c = c} {n = n} {x = x} {ts = ts} {r = r} k) = label_reads mark s c n x ts r (stmt k)

    pub stmts : {body : Stmts S} {ts r : Lexemes} → SpellsStmts mark body ts r → Stmts_of mark body ts r
    stmts (no_stmts_rule {r = r}) = no_stmts_reads mark r
    stmts (last_stmt_rule {e = e} {x = x} {ts = ts} {r = r} p k) = last_stmt_reads mark e x ts r p (stmt k)
    stmts (more_stmts_rule {c = c} {x = x} {xs = xs} {ts = ts} {mid = mid} {r = r} k j) = more_stmts_reads mark c x xs ts mid r (stmt k) (stmts j)

    pub branches : {arms : Arms S} {last : BlockOption S} {ts r : Lexemes} → SpellsIf mark arms last ts r → If_of mark arms last ts r
    branches (only_arm_rule {i = i} {t = t} {sb = sb} {body = body} {ts = ts} {r = r} a) = only_arm_reads mark i t sb body ts r (branch a)
    branches (else_rule {c = c} {i = i} {t = t} {sb = sb} {body = body} {ts = ts} a (braces_rule {s = b} {e = e} {body = last} {ts = mid} {r = r} k)) =
        else_reads mark c b i t sb _ body last ts mid r (branch a) (block_reads mark b e last mid r (stmts k))
    branches (else_if_rule {c = c} {i = i} {t = t} {sb = sb} {body = body} {arms = arms} {last = last} {ts = ts} {mid = mid} {r = r} a k) = else_if_reads mark c i t sb body arms last ts mid r k (branch a) (branches k)

    pub branch : {i : StmtOption S} {t : Expr S} {sb : S} {body : Stmts S} {ts r : Lexemes} → SpellsArm mark i t sb body ts r → Arm_of mark i t sb body ts r
    branch (arm_rule {s = s} {t = t} x k (braces_rule {s = b} {e = e} {body = body} {ts = mid} {r = r} j)) = arm_reads mark s t b mid _ body r (first x) (operand k) (block_reads mark b e body mid r (stmts j))

    pub cases : {cs : Cases S} {ts r : Lexemes} → SpellsCases mark cs ts r → Cases_of mark cs ts r
    cases (no_cases_rule {r = r}) = no_cases_reads mark r
    cases (case_rule {s = s} {c = c} {xs = xs} {body = body} {cs = cs} {ts = ts} {ts2 = ts2} {mid = mid} {r = r} l k j) = case_reads mark s c xs body cs ts ts2 mid r (exprs l) (stmts k) (cases j)
    cases (default_rule {s = s} {c = c} {body = body} {cs = cs} {ts = ts} {mid = mid} {r = r} k j) = default_reads mark s c body cs ts mid r (stmts k) (cases j)

    pub decl : {constant grouped : Bool} {ss : ValueSpecs S} {ts r : Lexemes} → SpellsDecl mark constant grouped ss ts r → Decl_of mark constant grouped ss ts r
    decl (single_rule {constant = k} {ns = ns} {t = t} {xs = xs} {ts = ts} {r = r} d) = single_reads mark k ns t xs ts r (one_spec d)
    decl (group_rule {s = s} {e = e} {constant = k} {ss = ss} {ts = ts} {r = r} d) = group_reads mark k s e ss ts r (specs d)

    pub specs : {constant : Bool} {ss : ValueSpecs S} {ts r : Lexemes} → SpellsSpecs mark constant ss ts r → Specs_of mark constant ss ts r
    specs (no_specs_rule {constant = k} {r = r}) = no_specs_reads mark k r
    specs (last_spec_rule {e = e} {constant = k} {ns = ns} {t = t} {xs = xs} {ts = ts} {r = r} d) = last_spec_reads mark k e ns t xs ts r (one_spec d)
    specs (more_specs_rule {c = c} {constant = k} {ns = ns} {t = t} {xs = xs} {ss = ss} {ts = ts} {mid = mid} {r = r} d j) = more_specs_reads mark k c ns t xs ss ts mid r (one_spec d) (specs j)

    pub one_spec : {constant : Bool} {ns : List (NameAt S)} {t : Option (TypeExpr S)} {xs : Exprs S} {ts r : Lexemes} → SpellsSpec mark constant ns t xs ts r → Spec_of mark constant ns t xs ts r
    one_spec (repeated_rule {ns = ns} {ts = ts} {r = r} d) = repeated_reads mark ns ts r d
    one_spec (typed_var_rule {ns = ns} {t = t} {ts = ts} {mid = mid} {r = r} d k) = typed_var_reads mark ns t ts mid r d k
    one_spec (values_rule {s = s} {constant = c} {ns = ns} {xs = xs} {ts = ts} {mid = mid} {r = r} d l) = values_reads mark s c ns xs ts mid r d (exprs l)
    one_spec (typed_values_rule {s = s} {constant = c} {ns = ns} {t = t} {xs = xs} {ts = ts} {mid = mid} {mid2 = mid2} {r = r} d k l) = typed_values_reads mark s c ns t xs ts mid mid2 r d k (exprs l)
