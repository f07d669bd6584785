-- The names in what tokens spell stand in their order.
use Rattle.std.proofs.Common.{ℕ, Bool, List, Option, arith}
use Rattle.go_tree.specs.declared.spans.Span.{Span}
use Rattle.go_tree.specs.declared.exprs.Rest.{Rest}
use Rattle.go_tree.specs.Tree.{NameAt, TypeExpr, Expr, Exprs, ExprOption, Elems, Value, ValueOption, Stmt, Stmts, StmtOption, BlockOption, RangeLeft, Arms, Cases, ValueSpecs}
use Rattle.go_tree.specs.File.{TypeSpec, Receiver, Decl, File}
use Rattle.go_tree.specs.GoWords.Terminals.{lexemes}
use Rattle.go_read.specs.SpellsTypes.{Lexemes}
use Rattle.go_read.specs.SpellsSpans.{span_to}
use Rattle.go_read.specs.Spells.{SpellsBare, SpellsExpr, SpellsOperand, SpellsOption, SpellsExprs, SpellsArgs, SpellsElems, SpellsElem, SpellsValue, SpellsSimple, SpellsPart, SpellsFirst, SpellsStmt, SpellsBlock, SpellsStmts, SpellsIf, SpellsArm, SpellsLeft, SpellsCases, SpellsDecl, SpellsSpecs, SpellsSpec, ident_rule, int_rule, rune_rule, text_rule, composite_rule, func_rule, type_rule, selector_rule, index_rule, slice_rule, call_rule, unary_rule, star_rule, binary_rule, bare_rule, parens_rule, operand_rule, no_expr_rule, some_expr_rule, last_expr_rule, more_exprs_rule, no_args_rule, args_rule, comma_args_rule, rest_args_rule, comma_rest_args_rule, no_elems_rule, last_elem_rule, more_elems_rule, value_rule, keyed_rule, plain_rule, braced_rule, eval_rule, increment_rule, decrement_rule, assign_rule, define_rule, no_part_rule, part_rule, no_first_rule, first_rule, empty_rule, simple_rule, const_rule, var_rule, return_rule, return_values_rule, break_rule, break_label_rule, continue_rule, continue_label_rule, block_rule, if_rule, while_rule, for_rule, range_rule, switch_rule, defer_rule, label_rule, braces_rule, no_stmts_rule, last_stmt_rule, more_stmts_rule, only_arm_rule, else_rule, else_if_rule, arm_rule, no_left_rule, assigns_rule, defines_rule, no_cases_rule, case_rule, default_rule, single_rule, group_rule, no_specs_rule, last_spec_rule, more_specs_rule, repeated_rule, typed_var_rule, values_rule, typed_values_rule}
use Rattle.go_read.specs.SpellsFiles.{SpellsTypeSpec, SpellsTypeSpecs, SpellsReceiver, SpellsTop, SpellsTops, SpellsFront, type_spec_rule, alias_spec_rule, no_type_specs_rule, last_type_spec_rule, more_type_specs_rule, receiver_rule, pointer_receiver_rule, named_receiver_rule, named_pointer_receiver_rule, top_const_rule, top_var_rule, top_type_rule, top_type_group_rule, top_func_rule, top_method_rule, no_tops_rule, more_tops_rule, front_rule}
use Rattle.splice_laws.proofs.Grafts.{Within, here, drop}
use Rattle.splice_laws.proofs.Pasts.{imports_past}
use Rattle.splice_laws.proofs.ImportSplices.ImportPlaces.TokensStand.{tokens_stand}
use Rattle.splice_laws.proofs.ImportSplices.ImportPlaces.ImportsStand.{all_lie}
use Rattle.run_rules.specs.Texts.{FileText}
use Rattle.run_rules.specs.Inlining.{ReadsAs}
use Rattle.constant_steps.proofs.PlaceMeanings.Behinds.{type_by, sig_by, names_by, literal_by, bare_by, expr_by, operand_by, option_by, exprs_by, args_by, elems_by, elem_by, value_by, part_by, first_by, stmt_by, block_by, stmts_by, if_by, arm_by, left_by, cases_by, decl_by, specs_by, spec_by, type_spec_by, type_specs_by, receiver_by, top_by, tops_by}
use Rattle.constant_steps.proofs.PlaceMeanings.Beginnings.{operand_begins}
use Rattle.constant_steps.proofs.PlaceMeanings.Nested.{Lies, Split}
use Rattle.constant_steps.proofs.PlaceMeanings.Rooms.{Rises, rises_of, Room, room_of, cut, lowered, before, behind, skip, high, begins, begins_past, raise}
use Rattle.name_places.proofs.Ordered.{ExprIn, ExprsIn, ExprOptionIn, ElemsIn, ValueIn, ValueOptionIn, StmtIn, StmtsIn, StmtOptionIn, BlockOptionIn, LeftIn, ArmsIn, CasesIn, SpecsIn, TypeIn, TypeOptionIn, TypeSpecsIn, DeclIn, DeclsIn}
use Rattle.name_places.proofs.TypesSpelled.{type_in, sig_in, names_in, literal_in}

-- the test of an `if` with the statement before it and the block behind it
abbrev ArmIn : StmtOption Span → Expr Span → Stmts Span → ℕ → ℕ → Type 0
ArmIn i t b lo hi = Split lo hi (λ m. Split lo m (λ n. StmtOptionIn i lo n) (λ n. ExprIn t n m)) (λ m. StmtsIn b m hi)

mutual
  bare_in : {a0 : ℕ} {a1 : Bool} {a2 : Expr Span} {ts r : Lexemes} → SpellsBare span_to a0 a1 a2 ts r → (lo hi : ℕ) → Room lo hi ts r → ExprIn a2 lo hi
  bare_in ident_rule lo hi a = let n = raise a (begins (λ e. cc) here) in n.lies
  bare_in int_rule lo hi a = high a
  bare_in rune_rule lo hi a = high a
  bare_in text_rule lo hi a = high a
  bare_in (composite_rule d1 d2) lo hi a = let c0 = cut a (literal_by d1 here) (drop (elems_by d2 (drop here))) in record { mid = c0.at; from = c0.from; to = c0.to; first = literal_in d1 _ _ c0.left; second = elems_in d2 _ _ (before (skip c0.right (drop (elems_by d2 here))) (elems_by d2 here) (drop here)) }
  bare_in (func_rule d1 d2) lo hi a = let c = cut (skip a (block_by d2 (sig_by d1 here))) (sig_by d1 here) (block_by d2 here) in record { mid = c.at; from = c.from; to = c.to; first = sig_in d1 _ _ c.left; second = block_in d2 _ _ c.right }
  bare_in (type_rule d1 d2 d3) lo hi a = type_in d2 _ _ a
  bare_in (selector_rule d1) lo hi a =
      let n = raise a (begins_past (operand_begins d1) (drop (drop here))) in
      let c = cut (lowered lo n.room n.lies.from) (operand_by d1 here) (drop (drop here)) in
      let k = raise c.right (begins (λ e. cc) (drop here)) in
      record { lies = n.lies; upto = c.at; from = c.from; before = omega (arith, k.lies.from, k.lies.filled, k.lies.to); part = operand_in d1 _ _ c.left }
  bare_in (index_rule d1 d2) lo hi a = let c0 = cut a (operand_by d1 here) (drop (operand_by d2 (drop here))) in record { mid = c0.at; from = c0.from; to = c0.to; first = operand_in d1 _ _ c0.left; second = operand_in d2 _ _ (before (skip c0.right (drop (operand_by d2 here))) (operand_by d2 here) (drop here)) }
  bare_in (slice_rule d1 d2 d3) lo hi a =
      let c0 = cut a (operand_by d1 here) (drop (option_by d3 (drop (option_by d2 (drop here))))) in
      let c1 = cut (skip c0.right (drop (option_by d3 (drop (option_by d2 here))))) (option_by d2 here) (drop (option_by d3 (drop here))) in
      record {
        mid = c1.at;
        from = omega (arith, c0.from, c1.from);
        to = c1.to;
        first = record { mid = c0.at; from = c0.from; to = c1.from; first = operand_in d1 _ _ c0.left; second = option_in d2 _ _ c1.left };
        second = option_in d3 _ _ (before (skip c1.right (drop (option_by d3 here))) (option_by d3 here) (drop here));
      }
  bare_in (call_rule d1 d2) lo hi a = let c0 = cut a (expr_by d1 here) (args_by d2 (drop here)) in record { mid = c0.at; from = c0.from; to = c0.to; first = expr_in d1 _ _ c0.left; second = args_in d2 _ _ (skip c0.right (args_by d2 here)) }
  bare_in (unary_rule d1 d2) lo hi a = operand_in d2 _ _ (skip a (operand_by d2 here))
  bare_in (star_rule d1 d2) lo hi a = operand_in d2 _ _ (skip a (operand_by d2 here))
  bare_in (binary_rule d1 d2 d3) lo hi a = let c0 = cut a (operand_by d2 here) (operand_by d3 (drop here)) in record { mid = c0.at; from = c0.from; to = c0.to; first = operand_in d2 _ _ c0.left; second = operand_in d3 _ _ (skip c0.right (operand_by d3 here)) }

  expr_in : {a0 : ℕ} {a1 : Bool} {a2 : Expr Span} {ts r : Lexemes} → SpellsExpr span_to a0 a1 a2 ts r → (lo hi : ℕ) → Room lo hi ts r → ExprIn a2 lo hi
  expr_in (bare_rule d1) lo hi a = bare_in d1 _ _ a
  expr_in (parens_rule d1) lo hi a = expr_in d1 _ _ (before (skip a (drop (expr_by d1 here))) (expr_by d1 here) (drop here))

  operand_in : {a0 : ℕ} {a1 : Bool} {a2 : Expr Span} {ts r : Lexemes} → SpellsOperand span_to a0 a1 a2 ts r → (lo hi : ℕ) → Room lo hi ts r → ExprIn a2 lo hi
  operand_in (operand_rule d1 d2) lo hi a = expr_in d2 _ _ a

  option_in : {a0 : Bool} {a1 : ExprOption Span} {ts r : Lexemes} → SpellsOption span_to a0 a1 ts r → (lo hi : ℕ) → Room lo hi ts r → ExprOptionIn a1 lo hi
  option_in no_expr_rule lo hi a = high a
  option_in (some_expr_rule d1) lo hi a = operand_in d1 _ _ a

  exprs_in : {a0 : Bool} {a1 : Exprs Span} {ts r : Lexemes} → SpellsExprs span_to a0 a1 ts r → (lo hi : ℕ) → Room lo hi ts r → ExprsIn a1 lo hi
  exprs_in (last_expr_rule d1) lo hi a = record { mid = hi; from = high a; to = omega arith; first = operand_in d1 _ _ a; second = omega arith }
  exprs_in (more_exprs_rule d1 d2) lo hi a = let c0 = cut a (operand_by d1 here) (exprs_by d2 (drop here)) in record { mid = c0.at; from = c0.from; to = c0.to; first = operand_in d1 _ _ c0.left; second = exprs_in d2 _ _ (skip c0.right (exprs_by d2 here)) }

  args_in : {a0 : Exprs Span} {a1 : Rest} {ts r : Lexemes} → SpellsArgs span_to a0 a1 ts r → (lo hi : ℕ) → Room lo hi ts r → ExprsIn a0 lo hi
  args_in no_args_rule lo hi a = high a
  args_in (args_rule d1) lo hi a = exprs_in d1 _ _ (before a (exprs_by d1 here) (drop here))
  args_in (comma_args_rule d1) lo hi a = exprs_in d1 _ _ (before a (exprs_by d1 here) (drop (drop here)))
  args_in (rest_args_rule d1) lo hi a = exprs_in d1 _ _ (before a (exprs_by d1 here) (drop (drop here)))
  args_in (comma_rest_args_rule d1) lo hi a = exprs_in d1 _ _ (before a (exprs_by d1 here) (drop (drop (drop here))))

  elems_in : {a0 : Elems Span} {ts r : Lexemes} → SpellsElems span_to a0 ts r → (lo hi : ℕ) → Room lo hi ts r → ElemsIn a0 lo hi
  elems_in no_elems_rule lo hi a = high a
  elems_in (last_elem_rule d1) lo hi a = let e = elem_in d1 _ _ a in record { mid = e.mid; from = e.from; to = e.to; first = e.first; second = record { mid = hi; from = e.to; to = omega arith; first = e.second; second = omega arith } }
  elems_in (more_elems_rule d1 d2) lo hi a = let c = cut a (elem_by d1 here) (elems_by d2 (drop here)) in let e = elem_in d1 _ _ c.left in record { mid = e.mid; from = e.from; to = omega (arith, e.to, c.to); first = e.first; second = record { mid = c.at; from = e.to; to = c.to; first = e.second; second = elems_in d2 _ _ (skip c.right (elems_by d2 here)) } }

  elem_in : {a0 : ValueOption Span} {a1 : Value Span} {ts r : Lexemes} → SpellsElem span_to a0 a1 ts r → (lo hi : ℕ) → Room lo hi ts r → Split lo hi (λ m. ValueOptionIn a0 lo m) (λ m. ValueIn a1 m hi)
  elem_in (value_rule d1) lo hi a = record { mid = lo; from = omega arith; to = high a; first = omega arith; second = value_in d1 _ _ a }
  elem_in (keyed_rule d1 d2) lo hi a = let c0 = cut a (value_by d1 here) (value_by d2 (drop here)) in record { mid = c0.at; from = c0.from; to = c0.to; first = value_in d1 _ _ c0.left; second = value_in d2 _ _ (skip c0.right (value_by d2 here)) }

  value_in : {a0 : Value Span} {ts r : Lexemes} → SpellsValue span_to a0 ts r → (lo hi : ℕ) → Room lo hi ts r → ValueIn a0 lo hi
  value_in (plain_rule d1) lo hi a = operand_in d1 _ _ a
  value_in (braced_rule d1) lo hi a = elems_in d1 _ _ (before (skip a (drop (elems_by d1 here))) (elems_by d1 here) (drop here))

  simple_in : {a0 : Bool} {a1 : Stmt Span} {ts r : Lexemes} → SpellsSimple span_to a0 a1 ts r → (lo hi : ℕ) → Room lo hi ts r → StmtIn a1 lo hi
  simple_in (eval_rule d1) lo hi a = operand_in d1 _ _ a
  simple_in (increment_rule d1) lo hi a = operand_in d1 _ _ (before a (operand_by d1 here) (drop here))
  simple_in (decrement_rule d1) lo hi a = operand_in d1 _ _ (before a (operand_by d1 here) (drop here))
  simple_in (assign_rule d1 d2) lo hi a = let c0 = cut a (exprs_by d1 here) (exprs_by d2 (drop here)) in record { mid = c0.at; from = c0.from; to = c0.to; first = exprs_in d1 _ _ c0.left; second = exprs_in d2 _ _ (skip c0.right (exprs_by d2 here)) }
  simple_in (define_rule d1 d2) lo hi a = let c0 = cut a (names_by d1 here) (exprs_by d2 (drop here)) in record { mid = c0.at; from = c0.from; to = c0.to; first = names_in d1 _ _ c0.left; second = exprs_in d2 _ _ (skip c0.right (exprs_by d2 here)) }

  part_in : {a0 : StmtOption Span} {ts r : Lexemes} → SpellsPart span_to a0 ts r → (lo hi : ℕ) → Room lo hi ts r → StmtOptionIn a0 lo hi
  part_in no_part_rule lo hi a = high a
  part_in (part_rule d1) lo hi a = simple_in d1 _ _ a

  first_in : {a0 : StmtOption Span} {ts r : Lexemes} → SpellsFirst span_to a0 ts r → (lo hi : ℕ) → Room lo hi ts r → StmtOptionIn a0 lo hi
  first_in no_first_rule lo hi a = high a
  first_in (first_rule d1) lo hi a = part_in d1 _ _ (before a (part_by d1 here) (drop here))

  stmt_in : {a0 : Stmt Span} {ts r : Lexemes} → SpellsStmt span_to a0 ts r → (lo hi : ℕ) → Room lo hi ts r → StmtIn a0 lo hi
  stmt_in empty_rule lo hi a = high a
  stmt_in (simple_rule d1) lo hi a = simple_in d1 _ _ a
  stmt_in (const_rule d1) lo hi a = decl_in d1 _ _ (skip a (decl_by d1 here))
  stmt_in (var_rule d1) lo hi a = decl_in d1 _ _ (skip a (decl_by d1 here))
  stmt_in return_rule lo hi a = high a
  stmt_in (return_values_rule d1) lo hi a = exprs_in d1 _ _ (skip a (exprs_by d1 here))
  stmt_in break_rule lo hi a = high a
  stmt_in break_label_rule lo hi a = high a
  stmt_in continue_rule lo hi a = high a
  stmt_in continue_label_rule lo hi a = high a
  stmt_in (block_rule d1) lo hi a = block_in d1 _ _ a
  stmt_in (if_rule d1) lo hi a = if_in d1 _ _ a
  stmt_in (while_rule d1 d2) lo hi a =
      let k = skip a (block_by d2 (option_by d1 here)) in
      let c = cut k (option_by d1 here) (block_by d2 here) in
      record {
        mid = c.at;
        from = c.from;
        to = c.to;
        first = record { mid = c.at; from = c.from; to = omega arith; first = record { mid = lo; from = omega arith; to = c.from; first = omega arith; second = option_in d1 _ _ c.left }; second = omega arith };
        second = block_in d2 _ _ c.right;
      }
  stmt_in (for_rule d1 d2 d3 d4) lo hi a =
      let c0 = cut (skip a (block_by d4 (part_by d3 (drop (option_by d2 (drop (part_by d1 here))))))) (part_by d1 here) (block_by d4 (part_by d3 (drop (option_by d2 (drop here))))) in
      let c1 = cut (skip c0.right (block_by d4 (part_by d3 (drop (option_by d2 here))))) (option_by d2 here) (block_by d4 (part_by d3 (drop here))) in
      let c2 = cut (skip c1.right (block_by d4 (part_by d3 here))) (part_by d3 here) (block_by d4 here) in
      record {
        mid = c2.at;
        from = omega (arith, c0.from, c1.from, c2.from);
        to = c2.to;
        first = record {
          mid = c1.at;
          from = omega (arith, c0.from, c1.from);
          to = c2.from;
          first = record { mid = c0.at; from = c0.from; to = c1.from; first = part_in d1 _ _ c0.left; second = option_in d2 _ _ c1.left };
          second = part_in d3 _ _ c2.left;
        };
        second = block_in d4 _ _ c2.right;
      }
  stmt_in (range_rule d1 d2 d3) lo hi a =
      let k = skip a (block_by d3 (operand_by d2 (drop (left_by d1 here)))) in
      let c = cut k (left_by d1 here) (block_by d3 (operand_by d2 (drop here))) in
      let f = cut (skip c.right (block_by d3 (operand_by d2 here))) (operand_by d2 here) (block_by d3 here) in
      record {
        mid = f.at;
        from = omega (arith, c.from, f.from);
        to = f.to;
        first = record { mid = c.at; from = c.from; to = f.from; first = left_in d1 _ _ c.left; second = operand_in d2 _ _ f.left };
        second = block_in d3 _ _ f.right;
      }
  stmt_in (switch_rule d1 d2 d3) lo hi a =
      let c0 = cut (skip a (drop (cases_by d3 (drop (option_by d2 (first_by d1 here)))))) (first_by d1 here) (drop (cases_by d3 (drop (option_by d2 here)))) in
      let c1 = cut c0.right (option_by d2 here) (drop (cases_by d3 (drop here))) in
      record {
        mid = c1.at;
        from = omega (arith, c0.from, c1.from);
        to = c1.to;
        first = record { mid = c0.at; from = c0.from; to = c1.from; first = first_in d1 _ _ c0.left; second = option_in d2 _ _ c1.left };
        second = cases_in d3 _ _ (before (skip c1.right (drop (cases_by d3 here))) (cases_by d3 here) (drop here));
      }
  stmt_in (defer_rule d1) lo hi a = bare_in d1 _ _ (skip a (bare_by d1 here))
  stmt_in (label_rule d1) lo hi a = stmt_in d1 _ _ (skip (skip a (stmt_by d1 (drop here))) (stmt_by d1 here))

  block_in : {a0 : Span} {a1 : Stmts Span} {ts r : Lexemes} → SpellsBlock span_to a0 a1 ts r → (lo hi : ℕ) → Room lo hi ts r → StmtsIn a1 lo hi
  block_in (braces_rule d1) lo hi a = stmts_in d1 _ _ (before (skip a (drop (stmts_by d1 here))) (stmts_by d1 here) (drop here))

  stmts_in : {a0 : Stmts Span} {ts r : Lexemes} → SpellsStmts span_to a0 ts r → (lo hi : ℕ) → Room lo hi ts r → StmtsIn a0 lo hi
  stmts_in no_stmts_rule lo hi a = high a
  stmts_in (last_stmt_rule d1 d2) lo hi a = record { mid = hi; from = high a; to = omega arith; first = stmt_in d2 _ _ a; second = omega arith }
  stmts_in (more_stmts_rule d1 d2) lo hi a = let c0 = cut a (stmt_by d1 here) (stmts_by d2 (drop here)) in record { mid = c0.at; from = c0.from; to = c0.to; first = stmt_in d1 _ _ c0.left; second = stmts_in d2 _ _ (skip c0.right (stmts_by d2 here)) }

  if_in : {a0 : Arms Span} {a1 : BlockOption Span} {ts r : Lexemes} → SpellsIf span_to a0 a1 ts r → (lo hi : ℕ) → Room lo hi ts r → Split lo hi (λ m. ArmsIn a0 lo m) (λ m. BlockOptionIn a1 m hi)
  if_in (only_arm_rule d1) lo hi a = record { mid = hi; from = high a; to = omega arith; first = record { mid = hi; from = high a; to = omega arith; first = arm_in d1 _ _ a; second = omega arith }; second = omega arith }
  if_in (else_rule d1 d2) lo hi a = let c = cut a (arm_by d1 here) (block_by d2 (drop here)) in record { mid = c.at; from = c.from; to = c.to; first = record { mid = c.at; from = c.from; to = omega arith; first = arm_in d1 _ _ c.left; second = omega arith }; second = block_in d2 _ _ (skip c.right (block_by d2 here)) }
  if_in (else_if_rule d1 d2) lo hi a = let c = cut a (arm_by d1 here) (if_by d2 (drop here)) in let e = if_in d2 _ _ (skip c.right (if_by d2 here)) in record { mid = e.mid; from = omega (arith, c.from, e.from); to = e.to; first = record { mid = c.at; from = c.from; to = e.from; first = arm_in d1 _ _ c.left; second = e.first }; second = e.second }

  arm_in : {a0 : StmtOption Span} {a1 : Expr Span} {a2 : Span} {a3 : Stmts Span} {ts r : Lexemes} → SpellsArm span_to a0 a1 a2 a3 ts r → (lo hi : ℕ) → Room lo hi ts r → ArmIn a0 a1 a3 lo hi
  arm_in (arm_rule d1 d2 d3) lo hi a =
      let c0 = cut (skip a (block_by d3 (operand_by d2 (first_by d1 here)))) (first_by d1 here) (block_by d3 (operand_by d2 here)) in
      let c1 = cut c0.right (operand_by d2 here) (block_by d3 here) in
      record { mid = c1.at; from = omega (arith, c0.from, c1.from); to = c1.to; first = record { mid = c0.at; from = c0.from; to = c1.from; first = first_in d1 _ _ c0.left; second = operand_in d2 _ _ c1.left }; second = block_in d3 _ _ c1.right }

  left_in : {a0 : RangeLeft Span} {ts r : Lexemes} → SpellsLeft span_to a0 ts r → (lo hi : ℕ) → Room lo hi ts r → LeftIn a0 lo hi
  left_in no_left_rule lo hi a = high a
  left_in (assigns_rule d1) lo hi a = exprs_in d1 _ _ (before a (exprs_by d1 here) (drop here))
  left_in (defines_rule d1) lo hi a = high a

  cases_in : {a0 : Cases Span} {ts r : Lexemes} → SpellsCases span_to a0 ts r → (lo hi : ℕ) → Room lo hi ts r → CasesIn a0 lo hi
  cases_in no_cases_rule lo hi a = high a
  cases_in (case_rule d1 d2 d3) lo hi a =
      let c = cut a (stmts_by d2 (drop (exprs_by d1 (drop here)))) (cases_by d3 here) in
      let c0 = cut (skip c.left (stmts_by d2 (drop (exprs_by d1 here)))) (exprs_by d1 here) (stmts_by d2 (drop here)) in
      record { mid = c.at; from = c.from; to = c.to; first = record { mid = c0.at; from = c0.from; to = c0.to; first = exprs_in d1 _ _ c0.left; second = stmts_in d2 _ _ (skip c0.right (stmts_by d2 here)) }; second = cases_in d3 _ _ c.right }
  cases_in (default_rule d1 d2) lo hi a =
      let c = cut a (stmts_by d1 (drop (drop here))) (cases_by d2 here) in
      let k = skip (skip c.left (stmts_by d1 (drop here))) (stmts_by d1 here) in
      record { mid = c.at; from = c.from; to = c.to; first = record { mid = lo; from = omega arith; to = high k; first = omega arith; second = stmts_in d1 _ _ k }; second = cases_in d2 _ _ c.right }

  decl_in : {a0 : Bool} {a1 : Bool} {a2 : ValueSpecs Span} {ts r : Lexemes} → SpellsDecl span_to a0 a1 a2 ts r → (lo hi : ℕ) → Room lo hi ts r → SpecsIn a2 lo hi
  decl_in (single_rule d1) lo hi a = record { mid = hi; from = high a; to = omega arith; first = spec_in d1 _ _ a; second = omega arith }
  decl_in (group_rule d1) lo hi a = specs_in d1 _ _ (before (skip a (drop (specs_by d1 here))) (specs_by d1 here) (drop here))

  specs_in : {a0 : Bool} {a1 : ValueSpecs Span} {ts r : Lexemes} → SpellsSpecs span_to a0 a1 ts r → (lo hi : ℕ) → Room lo hi ts r → SpecsIn a1 lo hi
  specs_in no_specs_rule lo hi a = high a
  specs_in (last_spec_rule d1) lo hi a = record { mid = hi; from = high a; to = omega arith; first = spec_in d1 _ _ a; second = omega arith }
  specs_in (more_specs_rule d1 d2) lo hi a = let c = cut a (spec_by d1 here) (specs_by d2 (drop here)) in record { mid = c.at; from = c.from; to = c.to; first = spec_in d1 _ _ c.left; second = specs_in d2 _ _ (skip c.right (specs_by d2 here)) }

  spec_in : {a0 : Bool} {a1 : List (NameAt Span)} {a2 : Option (TypeExpr Span)} {a3 : Exprs Span} {ts r : Lexemes} → SpellsSpec span_to a0 a1 a2 a3 ts r → (lo hi : ℕ) → Room lo hi ts r → Split lo hi (λ m. TypeOptionIn a2 lo m) (λ m. ExprsIn a3 m hi)
  spec_in (repeated_rule d1) lo hi a = record { mid = hi; from = high a; to = omega arith; first = high a; second = omega arith }
  spec_in (typed_var_rule d1 d2) lo hi a = record { mid = hi; from = high a; to = omega arith; first = type_in d2 _ _ (behind a (names_by d1 here) (type_by d2 here)); second = omega arith }
  spec_in (values_rule d1 d2) lo hi a = record { mid = lo; from = omega arith; to = high a; first = omega arith; second = exprs_in d2 _ _ (skip (behind a (names_by d1 here) (exprs_by d2 (drop here))) (exprs_by d2 here)) }
  spec_in (typed_values_rule d1 d2 d3) lo hi a = let c0 = cut (behind a (names_by d1 here) (exprs_by d3 (drop (type_by d2 here)))) (type_by d2 here) (exprs_by d3 (drop here)) in record { mid = c0.at; from = c0.from; to = c0.to; first = type_in d2 _ _ c0.left; second = exprs_in d3 _ _ (skip c0.right (exprs_by d3 here)) }

-- ---- declarations

type_spec_in : {a0 : TypeSpec Span} {ts r : Lexemes} → SpellsTypeSpec span_to a0 ts r → (lo hi : ℕ) → Room lo hi ts r → TypeIn a0.of lo hi
type_spec_in (type_spec_rule d1) lo hi a = type_in d1 _ _ (skip a (type_by d1 here))
type_spec_in (alias_spec_rule d1) lo hi a = type_in d1 _ _ (skip (skip a (type_by d1 (drop here))) (type_by d1 here))

type_specs_in : {a0 : List (TypeSpec Span)} {ts r : Lexemes} → SpellsTypeSpecs span_to a0 ts r → (lo hi : ℕ) → Room lo hi ts r → TypeSpecsIn a0 lo hi
type_specs_in no_type_specs_rule lo hi a = high a
type_specs_in (last_type_spec_rule d1) lo hi a = record { mid = hi; from = high a; to = omega arith; first = type_spec_in d1 _ _ a; second = omega arith }
type_specs_in (more_type_specs_rule d1 d2) lo hi a = let c = cut a (type_spec_by d1 here) (type_specs_by d2 (drop here)) in record { mid = c.at; from = c.from; to = c.to; first = type_spec_in d1 _ _ c.left; second = type_specs_in d2 _ _ (skip c.right (type_specs_by d2 here)) }

receiver_in : {a0 : Receiver Span} {ts r : Lexemes} → SpellsReceiver span_to a0 ts r → (lo hi : ℕ) → Room lo hi ts r → Lies lo hi a0.of.span
receiver_in receiver_rule lo hi a = let n = raise a (begins (λ e. cc) here) in n.lies
receiver_in pointer_receiver_rule lo hi a = let n = raise (skip a (drop here)) (begins (λ e. cc) here) in n.lies
receiver_in named_receiver_rule lo hi a = let n = raise (skip a (drop here)) (begins (λ e. cc) here) in n.lies
receiver_in named_pointer_receiver_rule lo hi a = let n = raise (skip (skip a (drop (drop here))) (drop here)) (begins (λ e. cc) here) in n.lies

top_in : {a0 : Decl Span} {ts r : Lexemes} → SpellsTop span_to a0 ts r → (lo hi : ℕ) → Room lo hi ts r → DeclIn a0 lo hi
top_in (top_const_rule d1) lo hi a = decl_in d1 _ _ (skip a (decl_by d1 here))
top_in (top_var_rule d1) lo hi a = decl_in d1 _ _ (skip a (decl_by d1 here))
top_in (top_type_rule d1) lo hi a = record { mid = hi; from = high a; to = omega arith; first = type_spec_in d1 _ _ (skip a (type_spec_by d1 here)); second = omega arith }
top_in (top_type_group_rule d1) lo hi a = type_specs_in d1 _ _ (before (skip (skip a (drop (type_specs_by d1 (drop here)))) (drop (type_specs_by d1 here))) (type_specs_by d1 here) (drop here))
top_in (top_func_rule d1 d2) lo hi a =
    let c = cut (skip (skip a (block_by d2 (sig_by d1 (drop here)))) (block_by d2 (sig_by d1 here))) (sig_by d1 here) (block_by d2 here) in
    record { mid = c.at; from = c.from; to = c.to; first = record { mid = lo; from = omega arith; to = c.from; first = omega arith; second = sig_in d1 _ _ c.left }; second = block_in d2 _ _ c.right }
top_in (top_method_rule d1 d2 d3) lo hi a =
    let c = cut (skip (skip a (block_by d3 (sig_by d2 (drop (drop (receiver_by d1 (drop here))))))) (block_by d3 (sig_by d2 (drop (drop (receiver_by d1 here)))))) (sig_by d2 (drop (drop (receiver_by d1 here)))) (block_by d3 here) in
    let e = cut c.left (receiver_by d1 here) (sig_by d2 (drop (drop here))) in
    record { mid = c.at; from = c.from; to = c.to; first = record { mid = e.at; from = e.from; to = e.to; first = receiver_in d1 _ _ e.left; second = sig_in d2 _ _ (skip (skip e.right (sig_by d2 (drop here))) (sig_by d2 here)) }; second = block_in d3 _ _ c.right }

tops_in : {a0 : List (Decl Span)} {ts r : Lexemes} → SpellsTops span_to a0 ts r → (lo hi : ℕ) → Room lo hi ts r → DeclsIn a0
tops_in no_tops_rule lo hi a = tt
tops_in (more_tops_rule d1 d2) lo hi a = let c0 = cut a (top_by d1 here) (tops_by d2 (drop here)) in ((lo, c0.at, top_in d1 _ _ c0.left), tops_in d2 c0.at hi (skip c0.right (tops_by d2 here)))

front_in : {f : File Span} {ts r : Lexemes} → SpellsFront span_to f ts r → Rises 0 ts → DeclsIn f.decls
front_in (front_rule {ts = ts} {r = r} d1 d2 d3) h =
    let w : Within r ts = tops_by d3 (imports_past span_to ts d2 here) in
    let n = room_of (h.3.3.3) w in
    let m = behind n.room (imports_past span_to ts d2 here) (tops_by d3 here) in
    tops_in d3 _ _ m

-- The names in the declarations of a file that reads from its text stand in their order.
pub decls_in : (text : FileText) (file : File Span) → ReadsAs text file → DeclsIn file.decls
decls_in text file reads = front_in reads.spells (rises_of text.text text.tokens 0 (lexemes text.tokens) (all_lie text.text text.tokens (tokens_stand text.text text.tokens text.comments reads.scans)))
