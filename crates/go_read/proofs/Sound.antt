-- Reading is its own step, and what is read is spelled.
use Rattle.std.proofs.Common.{◌≡◌, Some}
use Rattle.go_read.specs.SpellsTypes.{Lexemes}
use Rattle.go_read.specs.Goals.{Goal, Answer, read_type, read_fields, read_entries, read_named, read_unnamed, read_params, read_sig, read_names, read_expr, read_more, read_unary, read_postfix, read_operand, read_exprs, read_args, read_elems, read_elem, read_value, read_simple, read_simple_after, read_clause, read_stmt, read_stmts, read_block, read_arm, read_if, read_cases, read_decl, read_specs, read_spec, read_import_spec, read_import_specs, read_import, read_type_spec, read_type_specs, read_receiver, read_top, read_imports, read_tops, read_front}
use Rattle.go_read.specs.Programs.{run}
use Rattle.go_read.specs.Reading.{step, at}
use Rattle.go_read.proofs.Runs.{at_is_by, at_good_by}
use Rattle.go_read.proofs.Means.{Means, Good, Step}
use Rattle.go_read.proofs.SoundTypes.{type_fine, fields_fine, entries_fine, named_fine, unnamed_fine, params_fine, sig_fine, names_fine}
use Rattle.go_read.proofs.SoundExprs.{expr_fine, more_fine, unary_fine, postfix_fine, operand_fine, exprs_fine, args_fine, elems_fine, elem_fine, value_fine}
use Rattle.go_read.proofs.SoundStmts.{simple_fine, simple_after_fine, clause_fine, stmt_fine, stmts_fine, block_fine, arm_fine, if_fine, cases_fine, decl_fine, specs_fine, spec_fine}
use Rattle.go_read.proofs.SoundFiles.{import_spec_fine, import_specs_fine, import_fine, type_spec_fine, type_specs_fine, receiver_fine, top_fine, imports_fine, tops_fine, front_fine}

module _ {S : Type 0} (mark : Lexemes → Lexemes → S) where
  each : (g : Goal S) (ts : Lexemes) → Step mark g ts (step mark g ts)
  each read_type ts = type_fine mark ts
  each read_fields ts = fields_fine mark ts
  each read_entries ts = entries_fine mark ts
  each (read_named v) ts = named_fine mark v ts
  each (read_unnamed v) ts = unnamed_fine mark v ts
  each (read_params v) ts = params_fine mark v ts
  each (read_sig v) ts = sig_fine mark v ts
  each read_names ts = names_fine mark ts
  each (read_expr l h) ts = expr_fine mark l h ts
  each (read_more l h whole left bare) ts = more_fine mark l h whole left bare ts
  each (read_unary h) ts = unary_fine mark h ts
  each (read_postfix h whole base bare) ts = postfix_fine mark h whole base bare ts
  each (read_operand h) ts = operand_fine mark h ts
  each (read_exprs h) ts = exprs_fine mark h ts
  each read_args ts = args_fine mark ts
  each read_elems ts = elems_fine mark ts
  each read_elem ts = elem_fine mark ts
  each read_value ts = value_fine mark ts
  each (read_simple h) ts = simple_fine mark h ts
  each (read_simple_after h whole xs) ts = simple_after_fine mark h whole xs ts
  each read_clause ts = clause_fine mark ts
  each read_stmt ts = stmt_fine mark ts
  each read_stmts ts = stmts_fine mark ts
  each read_block ts = block_fine mark ts
  each read_arm ts = arm_fine mark ts
  each read_if ts = if_fine mark ts
  each read_cases ts = cases_fine mark ts
  each (read_decl c) ts = decl_fine mark c ts
  each (read_specs c) ts = specs_fine mark c ts
  each (read_spec c) ts = spec_fine mark c ts
  each read_import_spec ts = import_spec_fine mark ts
  each read_import_specs ts = import_specs_fine mark ts
  each read_import ts = import_fine mark ts
  each read_type_spec ts = type_spec_fine mark ts
  each read_type_specs ts = type_specs_fine mark ts
  each read_receiver ts = receiver_fine mark ts
  each read_top ts = top_fine mark ts
  each read_imports ts = imports_fine mark ts
  each read_tops ts = tops_fine mark ts
  each read_front ts = front_fine mark ts

  -- what is read is what one step reads
  pub at_is : (g : Goal S) (ts : Lexemes) → at mark g ts ≡ run (at mark) (step mark g ts)
  at_is g ts = at_is_by (Means mark) mark each g ts

  -- what is read takes its tokens, and is spelled by them
  pub at_sound : (g : Goal S) (ts : Lexemes) (y : Answer g × Lexemes) → at mark g ts ≡ Some y → Good mark g ts y.0 y.1
  at_sound g ts y e = at_good_by (Means mark) mark each g ts y e
