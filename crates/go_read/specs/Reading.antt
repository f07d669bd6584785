-- Reading from left to right: what stands at the front of these tokens.
use Rattle.std.specs.Prelude.{ℕ, zero, suc, None}
use Rattle.go_read.specs.SpellsTypes.{Lexemes}
use Rattle.go_read.specs.Goals.{Goal, Reader, Answer, weight, read_type, read_fields, read_entries, read_named}
use Rattle.go_read.specs.Goals.{read_unnamed, read_params, read_sig, read_names, read_expr, read_more, read_unary}
use Rattle.go_read.specs.Goals.{read_postfix, read_operand, read_exprs, read_args, read_elems, read_elem, read_value}
use Rattle.go_read.specs.Goals.{read_simple, read_simple_after, read_clause, read_stmt, read_stmts, read_block}
use Rattle.go_read.specs.Goals.{read_arm, read_if, read_cases, read_decl, read_specs, read_spec, read_import_spec}
use Rattle.go_read.specs.Goals.{read_import_specs, read_import, read_type_spec, read_type_specs, read_receiver}
use Rattle.go_read.specs.Goals.{read_top, read_imports, read_tops, read_front}
use Rattle.go_read.specs.Programs.{Program, run}
use Rattle.go_read.specs.ReadTypes.{type_step, fields_step, entries_step, named_step, unnamed_step, params_step}
use Rattle.go_read.specs.ReadTypes.{sig_step, names_step}
use Rattle.go_read.specs.ReadExprs.{expr_step, more_step, unary_step, postfix_step, operand_step, exprs_step, args_step}
use Rattle.go_read.specs.ReadExprs.{elems_step, elem_step, value_step}
use Rattle.go_read.specs.ReadStmts.{simple_step, simple_after_step, clause_step, stmt_step, stmts_step, block_step}
use Rattle.go_read.specs.ReadStmts.{arm_step, if_step, cases_step, decl_step, specs_step, spec_step}
use Rattle.go_read.specs.ReadFiles.{import_spec_step, import_specs_step, import_step, type_spec_step, type_specs_step}
use Rattle.go_read.specs.ReadFiles.{receiver_step, top_step, imports_step, tops_step, front_step}

module _ {S : Type 0} (mark : Lexemes → Lexemes → S) where
  -- the step of each goal
  abbrev pub step : (g : Goal S) → Lexemes → Program S (Answer g)
  step read_type ts = type_step mark ts
  step read_fields ts = fields_step mark ts
  step read_entries ts = entries_step mark ts
  step (read_named v) ts = named_step mark v ts
  step (read_unnamed v) ts = unnamed_step mark v ts
  step (read_params v) ts = params_step mark v ts
  step (read_sig v) ts = sig_step mark v ts
  step read_names ts = names_step mark ts
  step (read_expr level header) ts = expr_step mark level header ts
  step (read_more level header whole left bare) ts = more_step mark level header whole left bare ts
  step (read_unary header) ts = unary_step mark header ts
  step (read_postfix header whole base bare) ts = postfix_step mark header whole base bare ts
  step (read_operand header) ts = operand_step mark header ts
  step (read_exprs header) ts = exprs_step mark header ts
  step read_args ts = args_step mark ts
  step read_elems ts = elems_step mark ts
  step read_elem ts = elem_step mark ts
  step read_value ts = value_step mark ts
  step (read_simple header) ts = simple_step mark header ts
  step (read_simple_after header whole xs) ts = simple_after_step mark header whole xs ts
  step read_clause ts = clause_step mark ts
  step read_stmt ts = stmt_step mark ts
  step read_stmts ts = stmts_step mark ts
  step read_block ts = block_step mark ts
  step read_arm ts = arm_step mark ts
  step read_if ts = if_step mark ts
  step read_cases ts = cases_step mark ts
  step (read_decl constant) ts = decl_step mark constant ts
  step (read_specs constant) ts = specs_step mark constant ts
  step (read_spec constant) ts = spec_step mark constant ts
  step read_import_spec ts = import_spec_step mark ts
  step read_import_specs ts = import_specs_step mark ts
  step read_import ts = import_step mark ts
  step read_type_spec ts = type_spec_step mark ts
  step read_type_specs ts = type_specs_step mark ts
  step read_receiver ts = receiver_step mark ts
  step read_top ts = top_step mark ts
  step read_imports ts = imports_step mark ts
  step read_tops ts = tops_step mark ts
  step read_front ts = front_step mark ts

  -- with at most this many steps one in another
  unfoldable pub reads : ℕ → Reader S
  reads zero g ts = None
  reads (suc n) g ts = run (reads n) (step g ts)

  -- what is read at the front of these tokens
  unfoldable pub at : Reader S
  at g ts = reads (suc (weight g ts)) g ts
