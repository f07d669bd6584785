-- What is evaluated where: text before and after.
use Rattle.std.proofs.Common.{◌≡◌, refl}
use Rattle.std.specs.Prelude.{true, false, [], ◌∷◌, Some, None, codes}
use Rattle.go_tree.specs.declared.exprs.Rest.TheVariants.{Plain}
use Rattle.go_tree.specs.declared.spans.Span.{Span}
use Rattle.go_tree.specs.declared.tokens.TokenKind.TheVariants.{Ident, Keyword, Operator, Integer, Str, Inserted}
use Rattle.go_tree.specs.declared.operators.BinOp.TheVariants.{Add, Eq, LogOr}
use Rattle.go_tree.specs.declared.operators.UnOp.TheVariants.{Address}
use Rattle.go_tree.specs.Tree.{named, struct_type, no_fields, field, ident, int_lit, str_lit, composite, selector, call, func_lit, unary, binary, star, no_exprs, expr_and, some_expr, no_elems, elem, plain, no_value, const_decl, var_decl, eval, define, return_, inner, switch, no_stmts, stmt_and, no_stmt, no_cases, case, no_specs, spec}
use Rattle.go_tree.specs.File.{File, values, types}
use Rattle.run_rules.specs.FormTrees.{ConstForm, ExprForm, BlockForm, LiteralForm}
use Rattle.run_rules.proofs.CaseTools.{at, nm, tok, note, param, sig, tspec, fn, pack, source, mark, Module, is_typed, first_change, step_of, kept_uses}
use Rattle.go_layout.specs.SpellsSpans.{span_to}
use Rattle.go_tree.specs.GoWords.Terminals.{lexemes}
use Rattle.go_layout.specs.Goals.{read_front}
use Rattle.go_layout.proofs.Texts.{reading}
use Rattle.run_rules.proofs.CaseTools.{read_at}

-- A constant in a case.
abbrev case_of_switch_0_f0 : File Span
case_of_switch_0_f0 = record { package_name = (nm 8 12 (codes "main")); imports = []; decls = ((values (const_decl (at 14 28) false (spec (at 20 28) ((nm 20 24 (codes "Base")) ∷ []) None (expr_and (int_lit (at 27 28) (codes "2")) no_exprs) no_specs))) ∷ (values (const_decl (at 46 62) false (spec (at 52 62) ((nm 52 55 (codes "Two")) ∷ []) None (expr_and (ident (at 58 62) (codes "Base")) no_exprs) no_specs))) ∷ (fn (at 64 130) None (nm 69 73 (codes "main")) (sig [] []) (at 76 130) (stmt_and (define (at 79 85) ((nm 79 80 (codes "a")) ∷ []) (expr_and (int_lit (at 84 85) (codes "1")) no_exprs)) (stmt_and (switch (at 87 128) no_stmt (some_expr (ident (at 94 95) (codes "a"))) (case (at 99 125) (expr_and (ident (at 104 107) (codes "Two")) no_exprs) (stmt_and (eval (at 111 125) (call (at 111 125) (ident (at 111 118) (codes "println")) (expr_and (str_lit (at 119 124) (codes "\"two\"")) no_exprs) Plain)) no_stmts) no_cases)) no_stmts))) ∷ []) }

case_of_switch_0_f0_read : read_at span_to read_front (lexemes ((tok Keyword 0 7 (codes "package")) ∷ (tok Ident 8 12 (codes "main")) ∷ (tok Inserted 12 12 (codes ";")) ∷ (tok Keyword 14 19 (codes "const")) ∷ (tok Ident 20 24 (codes "Base")) ∷ (tok Operator 25 26 (codes "=")) ∷ (tok Integer 27 28 (codes "2")) ∷ (tok Inserted 28 28 (codes ";")) ∷ (tok Keyword 46 51 (codes "const")) ∷ (tok Ident 52 55 (codes "Two")) ∷ (tok Operator 56 57 (codes "=")) ∷ (tok Ident 58 62 (codes "Base")) ∷ (tok Inserted 62 62 (codes ";")) ∷ (tok Keyword 64 68 (codes "func")) ∷ (tok Ident 69 73 (codes "main")) ∷ (tok Operator 73 74 (codes "(")) ∷ (tok Operator 74 75 (codes ")")) ∷ (tok Operator 76 77 (codes "{")) ∷ (tok Ident 79 80 (codes "a")) ∷ (tok Operator 81 83 (codes ":=")) ∷ (tok Integer 84 85 (codes "1")) ∷ (tok Inserted 85 85 (codes ";")) ∷ (tok Keyword 87 93 (codes "switch")) ∷ (tok Ident 94 95 (codes "a")) ∷ (tok Operator 96 97 (codes "{")) ∷ (tok Keyword 99 103 (codes "case")) ∷ (tok Ident 104 107 (codes "Two")) ∷ (tok Operator 107 108 (codes ":")) ∷ (tok Ident 111 118 (codes "println")) ∷ (tok Operator 118 119 (codes "(")) ∷ (tok Str 119 124 (codes "\"two\"")) ∷ (tok Operator 124 125 (codes ")")) ∷ (tok Inserted 125 125 (codes ";")) ∷ (tok Operator 127 128 (codes "}")) ∷ (tok Inserted 128 128 (codes ";")) ∷ (tok Operator 129 130 (codes "}")) ∷ (tok Inserted 130 130 (codes ";")) ∷ [])) ≡ Some (case_of_switch_0_f0, [])
unfolding reading
case_of_switch_0_f0_read = refl

abbrev case_of_switch_0 : Module
case_of_switch_0 = record { packages = (pack (codes "example.com/m") (codes "main") (source (codes "main.go") case_of_switch_0_f0 ∷ []) ∷ []); marks = (mark 0 0 1 0 ∷ []); texts = (((codes "main.go"), record { text = (codes "package main\n\nconst Base = 2\n\n//go:fix inline\nconst Two = Base\n\nfunc main() {\n\ta := 1\n\tswitch a {\n\tcase Two:\n\t\tprintln(\"two\")\n\t}\n}\n"); tokens = ((tok Keyword 0 7 (codes "package")) ∷ (tok Ident 8 12 (codes "main")) ∷ (tok Inserted 12 12 (codes ";")) ∷ (tok Keyword 14 19 (codes "const")) ∷ (tok Ident 20 24 (codes "Base")) ∷ (tok Operator 25 26 (codes "=")) ∷ (tok Integer 27 28 (codes "2")) ∷ (tok Inserted 28 28 (codes ";")) ∷ (tok Keyword 46 51 (codes "const")) ∷ (tok Ident 52 55 (codes "Two")) ∷ (tok Operator 56 57 (codes "=")) ∷ (tok Ident 58 62 (codes "Base")) ∷ (tok Inserted 62 62 (codes ";")) ∷ (tok Keyword 64 68 (codes "func")) ∷ (tok Ident 69 73 (codes "main")) ∷ (tok Operator 73 74 (codes "(")) ∷ (tok Operator 74 75 (codes ")")) ∷ (tok Operator 76 77 (codes "{")) ∷ (tok Ident 79 80 (codes "a")) ∷ (tok Operator 81 83 (codes ":=")) ∷ (tok Integer 84 85 (codes "1")) ∷ (tok Inserted 85 85 (codes ";")) ∷ (tok Keyword 87 93 (codes "switch")) ∷ (tok Ident 94 95 (codes "a")) ∷ (tok Operator 96 97 (codes "{")) ∷ (tok Keyword 99 103 (codes "case")) ∷ (tok Ident 104 107 (codes "Two")) ∷ (tok Operator 107 108 (codes ":")) ∷ (tok Ident 111 118 (codes "println")) ∷ (tok Operator 118 119 (codes "(")) ∷ (tok Str 119 124 (codes "\"two\"")) ∷ (tok Operator 124 125 (codes ")")) ∷ (tok Inserted 125 125 (codes ";")) ∷ (tok Operator 127 128 (codes "}")) ∷ (tok Inserted 128 128 (codes ";")) ∷ (tok Operator 129 130 (codes "}")) ∷ (tok Inserted 130 130 (codes ";")) ∷ []); comments = ((note 30 45) ∷ []) }) ∷ []) }

case_of_switch_0_typed : is_typed case_of_switch_0 ≡ true
case_of_switch_0_typed = refl

case_of_switch_0_step : first_change case_of_switch_0 ≡ Some ((codes "main.go"), ConstForm, (codes "package main\n\nconst Base = 2\n\n//go:fix inline\nconst Two = Base\n\nfunc main() {\n\ta := 1\n\tswitch a {\n\tcase Base:\n\t\tprintln(\"two\")\n\t}\n}\n"))
case_of_switch_0_step = refl

abbrev case_of_switch_1_f0 : File Span
case_of_switch_1_f0 = record { package_name = (nm 8 12 (codes "main")); imports = []; decls = ((values (const_decl (at 14 28) false (spec (at 20 28) ((nm 20 24 (codes "Base")) ∷ []) None (expr_and (int_lit (at 27 28) (codes "2")) no_exprs) no_specs))) ∷ (values (const_decl (at 46 62) false (spec (at 52 62) ((nm 52 55 (codes "Two")) ∷ []) None (expr_and (ident (at 58 62) (codes "Base")) no_exprs) no_specs))) ∷ (fn (at 64 131) None (nm 69 73 (codes "main")) (sig [] []) (at 76 131) (stmt_and (define (at 79 85) ((nm 79 80 (codes "a")) ∷ []) (expr_and (int_lit (at 84 85) (codes "1")) no_exprs)) (stmt_and (switch (at 87 129) no_stmt (some_expr (ident (at 94 95) (codes "a"))) (case (at 99 126) (expr_and (ident (at 104 108) (codes "Base")) no_exprs) (stmt_and (eval (at 112 126) (call (at 112 126) (ident (at 112 119) (codes "println")) (expr_and (str_lit (at 120 125) (codes "\"two\"")) no_exprs) Plain)) no_stmts) no_cases)) no_stmts))) ∷ []) }

case_of_switch_1_f0_read : read_at span_to read_front (lexemes ((tok Keyword 0 7 (codes "package")) ∷ (tok Ident 8 12 (codes "main")) ∷ (tok Inserted 12 12 (codes ";")) ∷ (tok Keyword 14 19 (codes "const")) ∷ (tok Ident 20 24 (codes "Base")) ∷ (tok Operator 25 26 (codes "=")) ∷ (tok Integer 27 28 (codes "2")) ∷ (tok Inserted 28 28 (codes ";")) ∷ (tok Keyword 46 51 (codes "const")) ∷ (tok Ident 52 55 (codes "Two")) ∷ (tok Operator 56 57 (codes "=")) ∷ (tok Ident 58 62 (codes "Base")) ∷ (tok Inserted 62 62 (codes ";")) ∷ (tok Keyword 64 68 (codes "func")) ∷ (tok Ident 69 73 (codes "main")) ∷ (tok Operator 73 74 (codes "(")) ∷ (tok Operator 74 75 (codes ")")) ∷ (tok Operator 76 77 (codes "{")) ∷ (tok Ident 79 80 (codes "a")) ∷ (tok Operator 81 83 (codes ":=")) ∷ (tok Integer 84 85 (codes "1")) ∷ (tok Inserted 85 85 (codes ";")) ∷ (tok Keyword 87 93 (codes "switch")) ∷ (tok Ident 94 95 (codes "a")) ∷ (tok Operator 96 97 (codes "{")) ∷ (tok Keyword 99 103 (codes "case")) ∷ (tok Ident 104 108 (codes "Base")) ∷ (tok Operator 108 109 (codes ":")) ∷ (tok Ident 112 119 (codes "println")) ∷ (tok Operator 119 120 (codes "(")) ∷ (tok Str 120 125 (codes "\"two\"")) ∷ (tok Operator 125 126 (codes ")")) ∷ (tok Inserted 126 126 (codes ";")) ∷ (tok Operator 128 129 (codes "}")) ∷ (tok Inserted 129 129 (codes ";")) ∷ (tok Operator 130 131 (codes "}")) ∷ (tok Inserted 131 131 (codes ";")) ∷ [])) ≡ Some (case_of_switch_1_f0, [])
unfolding reading
case_of_switch_1_f0_read = refl

abbrev case_of_switch_1 : Module
case_of_switch_1 = record { packages = (pack (codes "example.com/m") (codes "main") (source (codes "main.go") case_of_switch_1_f0 ∷ []) ∷ []); marks = (mark 0 0 1 0 ∷ []); texts = (((codes "main.go"), record { text = (codes "package main\n\nconst Base = 2\n\n//go:fix inline\nconst Two = Base\n\nfunc main() {\n\ta := 1\n\tswitch a {\n\tcase Base:\n\t\tprintln(\"two\")\n\t}\n}\n"); tokens = ((tok Keyword 0 7 (codes "package")) ∷ (tok Ident 8 12 (codes "main")) ∷ (tok Inserted 12 12 (codes ";")) ∷ (tok Keyword 14 19 (codes "const")) ∷ (tok Ident 20 24 (codes "Base")) ∷ (tok Operator 25 26 (codes "=")) ∷ (tok Integer 27 28 (codes "2")) ∷ (tok Inserted 28 28 (codes ";")) ∷ (tok Keyword 46 51 (codes "const")) ∷ (tok Ident 52 55 (codes "Two")) ∷ (tok Operator 56 57 (codes "=")) ∷ (tok Ident 58 62 (codes "Base")) ∷ (tok Inserted 62 62 (codes ";")) ∷ (tok Keyword 64 68 (codes "func")) ∷ (tok Ident 69 73 (codes "main")) ∷ (tok Operator 73 74 (codes "(")) ∷ (tok Operator 74 75 (codes ")")) ∷ (tok Operator 76 77 (codes "{")) ∷ (tok Ident 79 80 (codes "a")) ∷ (tok Operator 81 83 (codes ":=")) ∷ (tok Integer 84 85 (codes "1")) ∷ (tok Inserted 85 85 (codes ";")) ∷ (tok Keyword 87 93 (codes "switch")) ∷ (tok Ident 94 95 (codes "a")) ∷ (tok Operator 96 97 (codes "{")) ∷ (tok Keyword 99 103 (codes "case")) ∷ (tok Ident 104 108 (codes "Base")) ∷ (tok Operator 108 109 (codes ":")) ∷ (tok Ident 112 119 (codes "println")) ∷ (tok Operator 119 120 (codes "(")) ∷ (tok Str 120 125 (codes "\"two\"")) ∷ (tok Operator 125 126 (codes ")")) ∷ (tok Inserted 126 126 (codes ";")) ∷ (tok Operator 128 129 (codes "}")) ∷ (tok Inserted 129 129 (codes ";")) ∷ (tok Operator 130 131 (codes "}")) ∷ (tok Inserted 131 131 (codes ";")) ∷ []); comments = ((note 30 45) ∷ []) }) ∷ []) }

case_of_switch_1_typed : is_typed case_of_switch_1 ≡ true
case_of_switch_1_typed = refl

case_of_switch_1_ends : step_of case_of_switch_1 ≡ None
case_of_switch_1_ends = refl

case_of_switch_1_kept : kept_uses case_of_switch_1 ≡ []
case_of_switch_1_kept = refl

-- A constant case that stands twice is a fault.
abbrev case_call_0_f0 : File Span
case_call_0_f0 = record { package_name = (nm 8 12 (codes "main")); imports = []; decls = ((fn (at 30 57) None (nm 35 38 (codes "One")) (sig [] ((param (at 41 44) None (named (at 41 44) None (nm 41 44 (codes "int")))) ∷ [])) (at 45 57) (stmt_and (return_ (at 47 55) (expr_and (int_lit (at 54 55) (codes "1")) no_exprs)) no_stmts)) ∷ (fn (at 59 149) None (nm 64 68 (codes "main")) (sig [] []) (at 71 149) (stmt_and (define (at 74 80) ((nm 74 75 (codes "a")) ∷ []) (expr_and (int_lit (at 79 80) (codes "1")) no_exprs)) (stmt_and (switch (at 82 147) no_stmt (some_expr (ident (at 89 90) (codes "a"))) (case (at 94 116) (expr_and (int_lit (at 99 100) (codes "1")) no_exprs) (stmt_and (eval (at 104 116) (call (at 104 116) (ident (at 104 111) (codes "println")) (expr_and (str_lit (at 112 115) (codes "\"a\"")) no_exprs) Plain)) no_stmts) (case (at 118 144) (expr_and (call (at 123 128) (ident (at 123 126) (codes "One")) no_exprs Plain) no_exprs) (stmt_and (eval (at 132 144) (call (at 132 144) (ident (at 132 139) (codes "println")) (expr_and (str_lit (at 140 143) (codes "\"b\"")) no_exprs) Plain)) no_stmts) no_cases))) no_stmts))) ∷ []) }

case_call_0_f0_read : read_at span_to read_front (lexemes ((tok Keyword 0 7 (codes "package")) ∷ (tok Ident 8 12 (codes "main")) ∷ (tok Inserted 12 12 (codes ";")) ∷ (tok Keyword 30 34 (codes "func")) ∷ (tok Ident 35 38 (codes "One")) ∷ (tok Operator 38 39 (codes "(")) ∷ (tok Operator 39 40 (codes ")")) ∷ (tok Ident 41 44 (codes "int")) ∷ (tok Operator 45 46 (codes "{")) ∷ (tok Keyword 47 53 (codes "return")) ∷ (tok Integer 54 55 (codes "1")) ∷ (tok Operator 56 57 (codes "}")) ∷ (tok Inserted 57 57 (codes ";")) ∷ (tok Keyword 59 63 (codes "func")) ∷ (tok Ident 64 68 (codes "main")) ∷ (tok Operator 68 69 (codes "(")) ∷ (tok Operator 69 70 (codes ")")) ∷ (tok Operator 71 72 (codes "{")) ∷ (tok Ident 74 75 (codes "a")) ∷ (tok Operator 76 78 (codes ":=")) ∷ (tok Integer 79 80 (codes "1")) ∷ (tok Inserted 80 80 (codes ";")) ∷ (tok Keyword 82 88 (codes "switch")) ∷ (tok Ident 89 90 (codes "a")) ∷ (tok Operator 91 92 (codes "{")) ∷ (tok Keyword 94 98 (codes "case")) ∷ (tok Integer 99 100 (codes "1")) ∷ (tok Operator 100 101 (codes ":")) ∷ (tok Ident 104 111 (codes "println")) ∷ (tok Operator 111 112 (codes "(")) ∷ (tok Str 112 115 (codes "\"a\"")) ∷ (tok Operator 115 116 (codes ")")) ∷ (tok Inserted 116 116 (codes ";")) ∷ (tok Keyword 118 122 (codes "case")) ∷ (tok Ident 123 126 (codes "One")) ∷ (tok Operator 126 127 (codes "(")) ∷ (tok Operator 127 128 (codes ")")) ∷ (tok Operator 128 129 (codes ":")) ∷ (tok Ident 132 139 (codes "println")) ∷ (tok Operator 139 140 (codes "(")) ∷ (tok Str 140 143 (codes "\"b\"")) ∷ (tok Operator 143 144 (codes ")")) ∷ (tok Inserted 144 144 (codes ";")) ∷ (tok Operator 146 147 (codes "}")) ∷ (tok Inserted 147 147 (codes ";")) ∷ (tok Operator 148 149 (codes "}")) ∷ (tok Inserted 149 149 (codes ";")) ∷ [])) ≡ Some (case_call_0_f0, [])
unfolding reading
case_call_0_f0_read = refl

abbrev case_call_0 : Module
case_call_0 = record { packages = (pack (codes "example.com/m") (codes "main") (source (codes "main.go") case_call_0_f0 ∷ []) ∷ []); marks = (mark 0 0 0 0 ∷ []); texts = (((codes "main.go"), record { text = (codes "package main\n\n//go:fix inline\nfunc One() int { return 1 }\n\nfunc main() {\n\ta := 1\n\tswitch a {\n\tcase 1:\n\t\tprintln(\"a\")\n\tcase One():\n\t\tprintln(\"b\")\n\t}\n}\n"); tokens = ((tok Keyword 0 7 (codes "package")) ∷ (tok Ident 8 12 (codes "main")) ∷ (tok Inserted 12 12 (codes ";")) ∷ (tok Keyword 30 34 (codes "func")) ∷ (tok Ident 35 38 (codes "One")) ∷ (tok Operator 38 39 (codes "(")) ∷ (tok Operator 39 40 (codes ")")) ∷ (tok Ident 41 44 (codes "int")) ∷ (tok Operator 45 46 (codes "{")) ∷ (tok Keyword 47 53 (codes "return")) ∷ (tok Integer 54 55 (codes "1")) ∷ (tok Operator 56 57 (codes "}")) ∷ (tok Inserted 57 57 (codes ";")) ∷ (tok Keyword 59 63 (codes "func")) ∷ (tok Ident 64 68 (codes "main")) ∷ (tok Operator 68 69 (codes "(")) ∷ (tok Operator 69 70 (codes ")")) ∷ (tok Operator 71 72 (codes "{")) ∷ (tok Ident 74 75 (codes "a")) ∷ (tok Operator 76 78 (codes ":=")) ∷ (tok Integer 79 80 (codes "1")) ∷ (tok Inserted 80 80 (codes ";")) ∷ (tok Keyword 82 88 (codes "switch")) ∷ (tok Ident 89 90 (codes "a")) ∷ (tok Operator 91 92 (codes "{")) ∷ (tok Keyword 94 98 (codes "case")) ∷ (tok Integer 99 100 (codes "1")) ∷ (tok Operator 100 101 (codes ":")) ∷ (tok Ident 104 111 (codes "println")) ∷ (tok Operator 111 112 (codes "(")) ∷ (tok Str 112 115 (codes "\"a\"")) ∷ (tok Operator 115 116 (codes ")")) ∷ (tok Inserted 116 116 (codes ";")) ∷ (tok Keyword 118 122 (codes "case")) ∷ (tok Ident 123 126 (codes "One")) ∷ (tok Operator 126 127 (codes "(")) ∷ (tok Operator 127 128 (codes ")")) ∷ (tok Operator 128 129 (codes ":")) ∷ (tok Ident 132 139 (codes "println")) ∷ (tok Operator 139 140 (codes "(")) ∷ (tok Str 140 143 (codes "\"b\"")) ∷ (tok Operator 143 144 (codes ")")) ∷ (tok Inserted 144 144 (codes ";")) ∷ (tok Operator 146 147 (codes "}")) ∷ (tok Inserted 147 147 (codes ";")) ∷ (tok Operator 148 149 (codes "}")) ∷ (tok Inserted 149 149 (codes ";")) ∷ []); comments = ((note 14 29) ∷ []) }) ∷ []) }

case_call_0_typed : is_typed case_call_0 ≡ true
case_call_0_typed = refl

case_call_0_step : first_change case_call_0 ≡ Some ((codes "main.go"), LiteralForm, (codes "package main\n\n//go:fix inline\nfunc One() int { return 1 }\n\nfunc main() {\n\ta := 1\n\tswitch a {\n\tcase 1:\n\t\tprintln(\"a\")\n\tcase func() int {\n\t\treturn 1\n\t}():\n\t\tprintln(\"b\")\n\t}\n}\n"))
case_call_0_step = refl

abbrev case_call_1_f0 : File Span
case_call_1_f0 = record { package_name = (nm 8 12 (codes "main")); imports = []; decls = ((fn (at 30 57) None (nm 35 38 (codes "One")) (sig [] ((param (at 41 44) None (named (at 41 44) None (nm 41 44 (codes "int")))) ∷ [])) (at 45 57) (stmt_and (return_ (at 47 55) (expr_and (int_lit (at 54 55) (codes "1")) no_exprs)) no_stmts)) ∷ (fn (at 59 172) None (nm 64 68 (codes "main")) (sig [] []) (at 71 172) (stmt_and (define (at 74 80) ((nm 74 75 (codes "a")) ∷ []) (expr_and (int_lit (at 79 80) (codes "1")) no_exprs)) (stmt_and (switch (at 82 170) no_stmt (some_expr (ident (at 89 90) (codes "a"))) (case (at 94 116) (expr_and (int_lit (at 99 100) (codes "1")) no_exprs) (stmt_and (eval (at 104 116) (call (at 104 116) (ident (at 104 111) (codes "println")) (expr_and (str_lit (at 112 115) (codes "\"a\"")) no_exprs) Plain)) no_stmts) (case (at 118 167) (expr_and (call (at 123 151) (func_lit (at 123 149) (sig [] ((param (at 130 133) None (named (at 130 133) None (nm 130 133 (codes "int")))) ∷ [])) (at 134 149) (stmt_and (return_ (at 138 146) (expr_and (int_lit (at 145 146) (codes "1")) no_exprs)) no_stmts)) no_exprs Plain) no_exprs) (stmt_and (eval (at 155 167) (call (at 155 167) (ident (at 155 162) (codes "println")) (expr_and (str_lit (at 163 166) (codes "\"b\"")) no_exprs) Plain)) no_stmts) no_cases))) no_stmts))) ∷ []) }

case_call_1_f0_read : read_at span_to read_front (lexemes ((tok Keyword 0 7 (codes "package")) ∷ (tok Ident 8 12 (codes "main")) ∷ (tok Inserted 12 12 (codes ";")) ∷ (tok Keyword 30 34 (codes "func")) ∷ (tok Ident 35 38 (codes "One")) ∷ (tok Operator 38 39 (codes "(")) ∷ (tok Operator 39 40 (codes ")")) ∷ (tok Ident 41 44 (codes "int")) ∷ (tok Operator 45 46 (codes "{")) ∷ (tok Keyword 47 53 (codes "return")) ∷ (tok Integer 54 55 (codes "1")) ∷ (tok Operator 56 57 (codes "}")) ∷ (tok Inserted 57 57 (codes ";")) ∷ (tok Keyword 59 63 (codes "func")) ∷ (tok Ident 64 68 (codes "main")) ∷ (tok Operator 68 69 (codes "(")) ∷ (tok Operator 69 70 (codes ")")) ∷ (tok Operator 71 72 (codes "{")) ∷ (tok Ident 74 75 (codes "a")) ∷ (tok Operator 76 78 (codes ":=")) ∷ (tok Integer 79 80 (codes "1")) ∷ (tok Inserted 80 80 (codes ";")) ∷ (tok Keyword 82 88 (codes "switch")) ∷ (tok Ident 89 90 (codes "a")) ∷ (tok Operator 91 92 (codes "{")) ∷ (tok Keyword 94 98 (codes "case")) ∷ (tok Integer 99 100 (codes "1")) ∷ (tok Operator 100 101 (codes ":")) ∷ (tok Ident 104 111 (codes "println")) ∷ (tok Operator 111 112 (codes "(")) ∷ (tok Str 112 115 (codes "\"a\"")) ∷ (tok Operator 115 116 (codes ")")) ∷ (tok Inserted 116 116 (codes ";")) ∷ (tok Keyword 118 122 (codes "case")) ∷ (tok Keyword 123 127 (codes "func")) ∷ (tok Operator 127 128 (codes "(")) ∷ (tok Operator 128 129 (codes ")")) ∷ (tok Ident 130 133 (codes "int")) ∷ (tok Operator 134 135 (codes "{")) ∷ (tok Keyword 138 144 (codes "return")) ∷ (tok Integer 145 146 (codes "1")) ∷ (tok Inserted 146 146 (codes ";")) ∷ (tok Operator 148 149 (codes "}")) ∷ (tok Operator 149 150 (codes "(")) ∷ (tok Operator 150 151 (codes ")")) ∷ (tok Operator 151 152 (codes ":")) ∷ (tok Ident 155 162 (codes "println")) ∷ (tok Operator 162 163 (codes "(")) ∷ (tok Str 163 166 (codes "\"b\"")) ∷ (tok Operator 166 167 (codes ")")) ∷ (tok Inserted 167 167 (codes ";")) ∷ (tok Operator 169 170 (codes "}")) ∷ (tok Inserted 170 170 (codes ";")) ∷ (tok Operator 171 172 (codes "}")) ∷ (tok Inserted 172 172 (codes ";")) ∷ [])) ≡ Some (case_call_1_f0, [])
unfolding reading
case_call_1_f0_read = refl

abbrev case_call_1 : Module
case_call_1 = record { packages = (pack (codes "example.com/m") (codes "main") (source (codes "main.go") case_call_1_f0 ∷ []) ∷ []); marks = (mark 0 0 0 0 ∷ []); texts = (((codes "main.go"), record { text = (codes "package main\n\n//go:fix inline\nfunc One() int { return 1 }\n\nfunc main() {\n\ta := 1\n\tswitch a {\n\tcase 1:\n\t\tprintln(\"a\")\n\tcase func() int {\n\t\treturn 1\n\t}():\n\t\tprintln(\"b\")\n\t}\n}\n"); tokens = ((tok Keyword 0 7 (codes "package")) ∷ (tok Ident 8 12 (codes "main")) ∷ (tok Inserted 12 12 (codes ";")) ∷ (tok Keyword 30 34 (codes "func")) ∷ (tok Ident 35 38 (codes "One")) ∷ (tok Operator 38 39 (codes "(")) ∷ (tok Operator 39 40 (codes ")")) ∷ (tok Ident 41 44 (codes "int")) ∷ (tok Operator 45 46 (codes "{")) ∷ (tok Keyword 47 53 (codes "return")) ∷ (tok Integer 54 55 (codes "1")) ∷ (tok Operator 56 57 (codes "}")) ∷ (tok Inserted 57 57 (codes ";")) ∷ (tok Keyword 59 63 (codes "func")) ∷ (tok Ident 64 68 (codes "main")) ∷ (tok Operator 68 69 (codes "(")) ∷ (tok Operator 69 70 (codes ")")) ∷ (tok Operator 71 72 (codes "{")) ∷ (tok Ident 74 75 (codes "a")) ∷ (tok Operator 76 78 (codes ":=")) ∷ (tok Integer 79 80 (codes "1")) ∷ (tok Inserted 80 80 (codes ";")) ∷ (tok Keyword 82 88 (codes "switch")) ∷ (tok Ident 89 90 (codes "a")) ∷ (tok Operator 91 92 (codes "{")) ∷ (tok Keyword 94 98 (codes "case")) ∷ (tok Integer 99 100 (codes "1")) ∷ (tok Operator 100 101 (codes ":")) ∷ (tok Ident 104 111 (codes "println")) ∷ (tok Operator 111 112 (codes "(")) ∷ (tok Str 112 115 (codes "\"a\"")) ∷ (tok Operator 115 116 (codes ")")) ∷ (tok Inserted 116 116 (codes ";")) ∷ (tok Keyword 118 122 (codes "case")) ∷ (tok Keyword 123 127 (codes "func")) ∷ (tok Operator 127 128 (codes "(")) ∷ (tok Operator 128 129 (codes ")")) ∷ (tok Ident 130 133 (codes "int")) ∷ (tok Operator 134 135 (codes "{")) ∷ (tok Keyword 138 144 (codes "return")) ∷ (tok Integer 145 146 (codes "1")) ∷ (tok Inserted 146 146 (codes ";")) ∷ (tok Operator 148 149 (codes "}")) ∷ (tok Operator 149 150 (codes "(")) ∷ (tok Operator 150 151 (codes ")")) ∷ (tok Operator 151 152 (codes ":")) ∷ (tok Ident 155 162 (codes "println")) ∷ (tok Operator 162 163 (codes "(")) ∷ (tok Str 163 166 (codes "\"b\"")) ∷ (tok Operator 166 167 (codes ")")) ∷ (tok Inserted 167 167 (codes ";")) ∷ (tok Operator 169 170 (codes "}")) ∷ (tok Inserted 170 170 (codes ";")) ∷ (tok Operator 171 172 (codes "}")) ∷ (tok Inserted 172 172 (codes ";")) ∷ []); comments = ((note 14 29) ∷ []) }) ∷ []) }

case_call_1_typed : is_typed case_call_1 ≡ true
case_call_1_typed = refl

case_call_1_ends : step_of case_call_1 ≡ None
case_call_1_ends = refl

case_call_1_kept : kept_uses case_call_1 ≡ []
case_call_1_kept = refl

-- Both act, and keep their order.
abbrev argument_order_0_f0 : File Span
argument_order_0_f0 = record { package_name = (nm 8 12 (codes "main")); imports = []; decls = ((fn (at 30 67) None (nm 35 39 (codes "Show")) (sig ((param (at 40 48) (Some (nm 40 41 (codes "a"))) (named (at 45 48) None (nm 45 48 (codes "int")))) ∷ (param (at 43 48) (Some (nm 43 44 (codes "b"))) (named (at 45 48) None (nm 45 48 (codes "int")))) ∷ []) []) (at 50 67) (stmt_and (eval (at 52 65) (call (at 52 65) (ident (at 52 59) (codes "println")) (expr_and (ident (at 60 61) (codes "a")) (expr_and (ident (at 63 64) (codes "b")) no_exprs)) Plain)) no_stmts)) ∷ (fn (at 69 111) None (nm 74 78 (codes "next")) (sig [] ((param (at 81 84) None (named (at 81 84) None (nm 81 84 (codes "int")))) ∷ [])) (at 85 111) (stmt_and (eval (at 87 99) (call (at 87 99) (ident (at 87 94) (codes "println")) (expr_and (str_lit (at 95 98) (codes "\"n\"")) no_exprs) Plain)) (stmt_and (return_ (at 101 109) (expr_and (int_lit (at 108 109) (codes "1")) no_exprs)) no_stmts))) ∷ (fn (at 113 152) None (nm 118 119 (codes "g")) (sig [] ((param (at 122 125) None (named (at 122 125) None (nm 122 125 (codes "int")))) ∷ [])) (at 126 152) (stmt_and (eval (at 128 140) (call (at 128 140) (ident (at 128 135) (codes "println")) (expr_and (str_lit (at 136 139) (codes "\"g\"")) no_exprs) Plain)) (stmt_and (return_ (at 142 150) (expr_and (int_lit (at 149 150) (codes "1")) no_exprs)) no_stmts))) ∷ (fn (at 154 193) None (nm 159 160 (codes "h")) (sig [] ((param (at 163 166) None (named (at 163 166) None (nm 163 166 (codes "int")))) ∷ [])) (at 167 193) (stmt_and (eval (at 169 181) (call (at 169 181) (ident (at 169 176) (codes "println")) (expr_and (str_lit (at 177 180) (codes "\"h\"")) no_exprs) Plain)) (stmt_and (return_ (at 183 191) (expr_and (int_lit (at 190 191) (codes "1")) no_exprs)) no_stmts))) ∷ (fn (at 195 226) None (nm 200 204 (codes "main")) (sig [] []) (at 207 226) (stmt_and (eval (at 210 224) (call (at 210 224) (ident (at 210 214) (codes "Show")) (expr_and (call (at 215 218) (ident (at 215 216) (codes "g")) no_exprs Plain) (expr_and (call (at 220 223) (ident (at 220 221) (codes "h")) no_exprs Plain) no_exprs)) Plain)) no_stmts)) ∷ []) }

argument_order_0_f0_read : read_at span_to read_front (lexemes ((tok Keyword 0 7 (codes "package")) ∷ (tok Ident 8 12 (codes "main")) ∷ (tok Inserted 12 12 (codes ";")) ∷ (tok Keyword 30 34 (codes "func")) ∷ (tok Ident 35 39 (codes "Show")) ∷ (tok Operator 39 40 (codes "(")) ∷ (tok Ident 40 41 (codes "a")) ∷ (tok Operator 41 42 (codes ",")) ∷ (tok Ident 43 44 (codes "b")) ∷ (tok Ident 45 48 (codes "int")) ∷ (tok Operator 48 49 (codes ")")) ∷ (tok Operator 50 51 (codes "{")) ∷ (tok Ident 52 59 (codes "println")) ∷ (tok Operator 59 60 (codes "(")) ∷ (tok Ident 60 61 (codes "a")) ∷ (tok Operator 61 62 (codes ",")) ∷ (tok Ident 63 64 (codes "b")) ∷ (tok Operator 64 65 (codes ")")) ∷ (tok Operator 66 67 (codes "}")) ∷ (tok Inserted 67 67 (codes ";")) ∷ (tok Keyword 69 73 (codes "func")) ∷ (tok Ident 74 78 (codes "next")) ∷ (tok Operator 78 79 (codes "(")) ∷ (tok Operator 79 80 (codes ")")) ∷ (tok Ident 81 84 (codes "int")) ∷ (tok Operator 85 86 (codes "{")) ∷ (tok Ident 87 94 (codes "println")) ∷ (tok Operator 94 95 (codes "(")) ∷ (tok Str 95 98 (codes "\"n\"")) ∷ (tok Operator 98 99 (codes ")")) ∷ (tok Operator 99 100 (codes ";")) ∷ (tok Keyword 101 107 (codes "return")) ∷ (tok Integer 108 109 (codes "1")) ∷ (tok Operator 110 111 (codes "}")) ∷ (tok Inserted 111 111 (codes ";")) ∷ (tok Keyword 113 117 (codes "func")) ∷ (tok Ident 118 119 (codes "g")) ∷ (tok Operator 119 120 (codes "(")) ∷ (tok Operator 120 121 (codes ")")) ∷ (tok Ident 122 125 (codes "int")) ∷ (tok Operator 126 127 (codes "{")) ∷ (tok Ident 128 135 (codes "println")) ∷ (tok Operator 135 136 (codes "(")) ∷ (tok Str 136 139 (codes "\"g\"")) ∷ (tok Operator 139 140 (codes ")")) ∷ (tok Operator 140 141 (codes ";")) ∷ (tok Keyword 142 148 (codes "return")) ∷ (tok Integer 149 150 (codes "1")) ∷ (tok Operator 151 152 (codes "}")) ∷ (tok Inserted 152 152 (codes ";")) ∷ (tok Keyword 154 158 (codes "func")) ∷ (tok Ident 159 160 (codes "h")) ∷ (tok Operator 160 161 (codes "(")) ∷ (tok Operator 161 162 (codes ")")) ∷ (tok Ident 163 166 (codes "int")) ∷ (tok Operator 167 168 (codes "{")) ∷ (tok Ident 169 176 (codes "println")) ∷ (tok Operator 176 177 (codes "(")) ∷ (tok Str 177 180 (codes "\"h\"")) ∷ (tok Operator 180 181 (codes ")")) ∷ (tok Operator 181 182 (codes ";")) ∷ (tok Keyword 183 189 (codes "return")) ∷ (tok Integer 190 191 (codes "1")) ∷ (tok Operator 192 193 (codes "}")) ∷ (tok Inserted 193 193 (codes ";")) ∷ (tok Keyword 195 199 (codes "func")) ∷ (tok Ident 200 204 (codes "main")) ∷ (tok Operator 204 205 (codes "(")) ∷ (tok Operator 205 206 (codes ")")) ∷ (tok Operator 207 208 (codes "{")) ∷ (tok Ident 210 214 (codes "Show")) ∷ (tok Operator 214 215 (codes "(")) ∷ (tok Ident 215 216 (codes "g")) ∷ (tok Operator 216 217 (codes "(")) ∷ (tok Operator 217 218 (codes ")")) ∷ (tok Operator 218 219 (codes ",")) ∷ (tok Ident 220 221 (codes "h")) ∷ (tok Operator 221 222 (codes "(")) ∷ (tok Operator 222 223 (codes ")")) ∷ (tok Operator 223 224 (codes ")")) ∷ (tok Inserted 224 224 (codes ";")) ∷ (tok Operator 225 226 (codes "}")) ∷ (tok Inserted 226 226 (codes ";")) ∷ [])) ≡ Some (argument_order_0_f0, [])
unfolding reading
argument_order_0_f0_read = refl

abbrev argument_order_0 : Module
argument_order_0 = record { packages = (pack (codes "example.com/m") (codes "main") (source (codes "main.go") argument_order_0_f0 ∷ []) ∷ []); marks = (mark 0 0 0 0 ∷ []); texts = (((codes "main.go"), record { text = (codes "package main\n\n//go:fix inline\nfunc Show(a, b int) { println(a, b) }\n\nfunc next() int { println(\"n\"); return 1 }\n\nfunc g() int { println(\"g\"); return 1 }\n\nfunc h() int { println(\"h\"); return 1 }\n\nfunc main() {\n\tShow(g(), h())\n}\n"); tokens = ((tok Keyword 0 7 (codes "package")) ∷ (tok Ident 8 12 (codes "main")) ∷ (tok Inserted 12 12 (codes ";")) ∷ (tok Keyword 30 34 (codes "func")) ∷ (tok Ident 35 39 (codes "Show")) ∷ (tok Operator 39 40 (codes "(")) ∷ (tok Ident 40 41 (codes "a")) ∷ (tok Operator 41 42 (codes ",")) ∷ (tok Ident 43 44 (codes "b")) ∷ (tok Ident 45 48 (codes "int")) ∷ (tok Operator 48 49 (codes ")")) ∷ (tok Operator 50 51 (codes "{")) ∷ (tok Ident 52 59 (codes "println")) ∷ (tok Operator 59 60 (codes "(")) ∷ (tok Ident 60 61 (codes "a")) ∷ (tok Operator 61 62 (codes ",")) ∷ (tok Ident 63 64 (codes "b")) ∷ (tok Operator 64 65 (codes ")")) ∷ (tok Operator 66 67 (codes "}")) ∷ (tok Inserted 67 67 (codes ";")) ∷ (tok Keyword 69 73 (codes "func")) ∷ (tok Ident 74 78 (codes "next")) ∷ (tok Operator 78 79 (codes "(")) ∷ (tok Operator 79 80 (codes ")")) ∷ (tok Ident 81 84 (codes "int")) ∷ (tok Operator 85 86 (codes "{")) ∷ (tok Ident 87 94 (codes "println")) ∷ (tok Operator 94 95 (codes "(")) ∷ (tok Str 95 98 (codes "\"n\"")) ∷ (tok Operator 98 99 (codes ")")) ∷ (tok Operator 99 100 (codes ";")) ∷ (tok Keyword 101 107 (codes "return")) ∷ (tok Integer 108 109 (codes "1")) ∷ (tok Operator 110 111 (codes "}")) ∷ (tok Inserted 111 111 (codes ";")) ∷ (tok Keyword 113 117 (codes "func")) ∷ (tok Ident 118 119 (codes "g")) ∷ (tok Operator 119 120 (codes "(")) ∷ (tok Operator 120 121 (codes ")")) ∷ (tok Ident 122 125 (codes "int")) ∷ (tok Operator 126 127 (codes "{")) ∷ (tok Ident 128 135 (codes "println")) ∷ (tok Operator 135 136 (codes "(")) ∷ (tok Str 136 139 (codes "\"g\"")) ∷ (tok Operator 139 140 (codes ")")) ∷ (tok Operator 140 141 (codes ";")) ∷ (tok Keyword 142 148 (codes "return")) ∷ (tok Integer 149 150 (codes "1")) ∷ (tok Operator 151 152 (codes "}")) ∷ (tok Inserted 152 152 (codes ";")) ∷ (tok Keyword 154 158 (codes "func")) ∷ (tok Ident 159 160 (codes "h")) ∷ (tok Operator 160 161 (codes "(")) ∷ (tok Operator 161 162 (codes ")")) ∷ (tok Ident 163 166 (codes "int")) ∷ (tok Operator 167 168 (codes "{")) ∷ (tok Ident 169 176 (codes "println")) ∷ (tok Operator 176 177 (codes "(")) ∷ (tok Str 177 180 (codes "\"h\"")) ∷ (tok Operator 180 181 (codes ")")) ∷ (tok Operator 181 182 (codes ";")) ∷ (tok Keyword 183 189 (codes "return")) ∷ (tok Integer 190 191 (codes "1")) ∷ (tok Operator 192 193 (codes "}")) ∷ (tok Inserted 193 193 (codes ";")) ∷ (tok Keyword 195 199 (codes "func")) ∷ (tok Ident 200 204 (codes "main")) ∷ (tok Operator 204 205 (codes "(")) ∷ (tok Operator 205 206 (codes ")")) ∷ (tok Operator 207 208 (codes "{")) ∷ (tok Ident 210 214 (codes "Show")) ∷ (tok Operator 214 215 (codes "(")) ∷ (tok Ident 215 216 (codes "g")) ∷ (tok Operator 216 217 (codes "(")) ∷ (tok Operator 217 218 (codes ")")) ∷ (tok Operator 218 219 (codes ",")) ∷ (tok Ident 220 221 (codes "h")) ∷ (tok Operator 221 222 (codes "(")) ∷ (tok Operator 222 223 (codes ")")) ∷ (tok Operator 223 224 (codes ")")) ∷ (tok Inserted 224 224 (codes ";")) ∷ (tok Operator 225 226 (codes "}")) ∷ (tok Inserted 226 226 (codes ";")) ∷ []); comments = ((note 14 29) ∷ []) }) ∷ []) }

argument_order_0_typed : is_typed argument_order_0 ≡ true
argument_order_0_typed = refl

argument_order_0_step : first_change argument_order_0 ≡ Some ((codes "main.go"), ExprForm, (codes "package main\n\n//go:fix inline\nfunc Show(a, b int) { println(a, b) }\n\nfunc next() int { println(\"n\"); return 1 }\n\nfunc g() int { println(\"g\"); return 1 }\n\nfunc h() int { println(\"h\"); return 1 }\n\nfunc main() {\n\tprintln(g(), h())\n}\n"))
argument_order_0_step = refl

abbrev argument_order_1_f0 : File Span
argument_order_1_f0 = record { package_name = (nm 8 12 (codes "main")); imports = []; decls = ((fn (at 30 67) None (nm 35 39 (codes "Show")) (sig ((param (at 40 48) (Some (nm 40 41 (codes "a"))) (named (at 45 48) None (nm 45 48 (codes "int")))) ∷ (param (at 43 48) (Some (nm 43 44 (codes "b"))) (named (at 45 48) None (nm 45 48 (codes "int")))) ∷ []) []) (at 50 67) (stmt_and (eval (at 52 65) (call (at 52 65) (ident (at 52 59) (codes "println")) (expr_and (ident (at 60 61) (codes "a")) (expr_and (ident (at 63 64) (codes "b")) no_exprs)) Plain)) no_stmts)) ∷ (fn (at 69 111) None (nm 74 78 (codes "next")) (sig [] ((param (at 81 84) None (named (at 81 84) None (nm 81 84 (codes "int")))) ∷ [])) (at 85 111) (stmt_and (eval (at 87 99) (call (at 87 99) (ident (at 87 94) (codes "println")) (expr_and (str_lit (at 95 98) (codes "\"n\"")) no_exprs) Plain)) (stmt_and (return_ (at 101 109) (expr_and (int_lit (at 108 109) (codes "1")) no_exprs)) no_stmts))) ∷ (fn (at 113 152) None (nm 118 119 (codes "g")) (sig [] ((param (at 122 125) None (named (at 122 125) None (nm 122 125 (codes "int")))) ∷ [])) (at 126 152) (stmt_and (eval (at 128 140) (call (at 128 140) (ident (at 128 135) (codes "println")) (expr_and (str_lit (at 136 139) (codes "\"g\"")) no_exprs) Plain)) (stmt_and (return_ (at 142 150) (expr_and (int_lit (at 149 150) (codes "1")) no_exprs)) no_stmts))) ∷ (fn (at 154 193) None (nm 159 160 (codes "h")) (sig [] ((param (at 163 166) None (named (at 163 166) None (nm 163 166 (codes "int")))) ∷ [])) (at 167 193) (stmt_and (eval (at 169 181) (call (at 169 181) (ident (at 169 176) (codes "println")) (expr_and (str_lit (at 177 180) (codes "\"h\"")) no_exprs) Plain)) (stmt_and (return_ (at 183 191) (expr_and (int_lit (at 190 191) (codes "1")) no_exprs)) no_stmts))) ∷ (fn (at 195 229) None (nm 200 204 (codes "main")) (sig [] []) (at 207 229) (stmt_and (eval (at 210 227) (call (at 210 227) (ident (at 210 217) (codes "println")) (expr_and (call (at 218 221) (ident (at 218 219) (codes "g")) no_exprs Plain) (expr_and (call (at 223 226) (ident (at 223 224) (codes "h")) no_exprs Plain) no_exprs)) Plain)) no_stmts)) ∷ []) }

argument_order_1_f0_read : read_at span_to read_front (lexemes ((tok Keyword 0 7 (codes "package")) ∷ (tok Ident 8 12 (codes "main")) ∷ (tok Inserted 12 12 (codes ";")) ∷ (tok Keyword 30 34 (codes "func")) ∷ (tok Ident 35 39 (codes "Show")) ∷ (tok Operator 39 40 (codes "(")) ∷ (tok Ident 40 41 (codes "a")) ∷ (tok Operator 41 42 (codes ",")) ∷ (tok Ident 43 44 (codes "b")) ∷ (tok Ident 45 48 (codes "int")) ∷ (tok Operator 48 49 (codes ")")) ∷ (tok Operator 50 51 (codes "{")) ∷ (tok Ident 52 59 (codes "println")) ∷ (tok Operator 59 60 (codes "(")) ∷ (tok Ident 60 61 (codes "a")) ∷ (tok Operator 61 62 (codes ",")) ∷ (tok Ident 63 64 (codes "b")) ∷ (tok Operator 64 65 (codes ")")) ∷ (tok Operator 66 67 (codes "}")) ∷ (tok Inserted 67 67 (codes ";")) ∷ (tok Keyword 69 73 (codes "func")) ∷ (tok Ident 74 78 (codes "next")) ∷ (tok Operator 78 79 (codes "(")) ∷ (tok Operator 79 80 (codes ")")) ∷ (tok Ident 81 84 (codes "int")) ∷ (tok Operator 85 86 (codes "{")) ∷ (tok Ident 87 94 (codes "println")) ∷ (tok Operator 94 95 (codes "(")) ∷ (tok Str 95 98 (codes "\"n\"")) ∷ (tok Operator 98 99 (codes ")")) ∷ (tok Operator 99 100 (codes ";")) ∷ (tok Keyword 101 107 (codes "return")) ∷ (tok Integer 108 109 (codes "1")) ∷ (tok Operator 110 111 (codes "}")) ∷ (tok Inserted 111 111 (codes ";")) ∷ (tok Keyword 113 117 (codes "func")) ∷ (tok Ident 118 119 (codes "g")) ∷ (tok Operator 119 120 (codes "(")) ∷ (tok Operator 120 121 (codes ")")) ∷ (tok Ident 122 125 (codes "int")) ∷ (tok Operator 126 127 (codes "{")) ∷ (tok Ident 128 135 (codes "println")) ∷ (tok Operator 135 136 (codes "(")) ∷ (tok Str 136 139 (codes "\"g\"")) ∷ (tok Operator 139 140 (codes ")")) ∷ (tok Operator 140 141 (codes ";")) ∷ (tok Keyword 142 148 (codes "return")) ∷ (tok Integer 149 150 (codes "1")) ∷ (tok Operator 151 152 (codes "}")) ∷ (tok Inserted 152 152 (codes ";")) ∷ (tok Keyword 154 158 (codes "func")) ∷ (tok Ident 159 160 (codes "h")) ∷ (tok Operator 160 161 (codes "(")) ∷ (tok Operator 161 162 (codes ")")) ∷ (tok Ident 163 166 (codes "int")) ∷ (tok Operator 167 168 (codes "{")) ∷ (tok Ident 169 176 (codes "println")) ∷ (tok Operator 176 177 (codes "(")) ∷ (tok Str 177 180 (codes "\"h\"")) ∷ (tok Operator 180 181 (codes ")")) ∷ (tok Operator 181 182 (codes ";")) ∷ (tok Keyword 183 189 (codes "return")) ∷ (tok Integer 190 191 (codes "1")) ∷ (tok Operator 192 193 (codes "}")) ∷ (tok Inserted 193 193 (codes ";")) ∷ (tok Keyword 195 199 (codes "func")) ∷ (tok Ident 200 204 (codes "main")) ∷ (tok Operator 204 205 (codes "(")) ∷ (tok Operator 205 206 (codes ")")) ∷ (tok Operator 207 208 (codes "{")) ∷ (tok Ident 210 217 (codes "println")) ∷ (tok Operator 217 218 (codes "(")) ∷ (tok Ident 218 219 (codes "g")) ∷ (tok Operator 219 220 (codes "(")) ∷ (tok Operator 220 221 (codes ")")) ∷ (tok Operator 221 222 (codes ",")) ∷ (tok Ident 223 224 (codes "h")) ∷ (tok Operator 224 225 (codes "(")) ∷ (tok Operator 225 226 (codes ")")) ∷ (tok Operator 226 227 (codes ")")) ∷ (tok Inserted 227 227 (codes ";")) ∷ (tok Operator 228 229 (codes "}")) ∷ (tok Inserted 229 229 (codes ";")) ∷ [])) ≡ Some (argument_order_1_f0, [])
unfolding reading
argument_order_1_f0_read = refl

abbrev argument_order_1 : Module
argument_order_1 = record { packages = (pack (codes "example.com/m") (codes "main") (source (codes "main.go") argument_order_1_f0 ∷ []) ∷ []); marks = (mark 0 0 0 0 ∷ []); texts = (((codes "main.go"), record { text = (codes "package main\n\n//go:fix inline\nfunc Show(a, b int) { println(a, b) }\n\nfunc next() int { println(\"n\"); return 1 }\n\nfunc g() int { println(\"g\"); return 1 }\n\nfunc h() int { println(\"h\"); return 1 }\n\nfunc main() {\n\tprintln(g(), h())\n}\n"); tokens = ((tok Keyword 0 7 (codes "package")) ∷ (tok Ident 8 12 (codes "main")) ∷ (tok Inserted 12 12 (codes ";")) ∷ (tok Keyword 30 34 (codes "func")) ∷ (tok Ident 35 39 (codes "Show")) ∷ (tok Operator 39 40 (codes "(")) ∷ (tok Ident 40 41 (codes "a")) ∷ (tok Operator 41 42 (codes ",")) ∷ (tok Ident 43 44 (codes "b")) ∷ (tok Ident 45 48 (codes "int")) ∷ (tok Operator 48 49 (codes ")")) ∷ (tok Operator 50 51 (codes "{")) ∷ (tok Ident 52 59 (codes "println")) ∷ (tok Operator 59 60 (codes "(")) ∷ (tok Ident 60 61 (codes "a")) ∷ (tok Operator 61 62 (codes ",")) ∷ (tok Ident 63 64 (codes "b")) ∷ (tok Operator 64 65 (codes ")")) ∷ (tok Operator 66 67 (codes "}")) ∷ (tok Inserted 67 67 (codes ";")) ∷ (tok Keyword 69 73 (codes "func")) ∷ (tok Ident 74 78 (codes "next")) ∷ (tok Operator 78 79 (codes "(")) ∷ (tok Operator 79 80 (codes ")")) ∷ (tok Ident 81 84 (codes "int")) ∷ (tok Operator 85 86 (codes "{")) ∷ (tok Ident 87 94 (codes "println")) ∷ (tok Operator 94 95 (codes "(")) ∷ (tok Str 95 98 (codes "\"n\"")) ∷ (tok Operator 98 99 (codes ")")) ∷ (tok Operator 99 100 (codes ";")) ∷ (tok Keyword 101 107 (codes "return")) ∷ (tok Integer 108 109 (codes "1")) ∷ (tok Operator 110 111 (codes "}")) ∷ (tok Inserted 111 111 (codes ";")) ∷ (tok Keyword 113 117 (codes "func")) ∷ (tok Ident 118 119 (codes "g")) ∷ (tok Operator 119 120 (codes "(")) ∷ (tok Operator 120 121 (codes ")")) ∷ (tok Ident 122 125 (codes "int")) ∷ (tok Operator 126 127 (codes "{")) ∷ (tok Ident 128 135 (codes "println")) ∷ (tok Operator 135 136 (codes "(")) ∷ (tok Str 136 139 (codes "\"g\"")) ∷ (tok Operator 139 140 (codes ")")) ∷ (tok Operator 140 141 (codes ";")) ∷ (tok Keyword 142 148 (codes "return")) ∷ (tok Integer 149 150 (codes "1")) ∷ (tok Operator 151 152 (codes "}")) ∷ (tok Inserted 152 152 (codes ";")) ∷ (tok Keyword 154 158 (codes "func")) ∷ (tok Ident 159 160 (codes "h")) ∷ (tok Operator 160 161 (codes "(")) ∷ (tok Operator 161 162 (codes ")")) ∷ (tok Ident 163 166 (codes "int")) ∷ (tok Operator 167 168 (codes "{")) ∷ (tok Ident 169 176 (codes "println")) ∷ (tok Operator 176 177 (codes "(")) ∷ (tok Str 177 180 (codes "\"h\"")) ∷ (tok Operator 180 181 (codes ")")) ∷ (tok Operator 181 182 (codes ";")) ∷ (tok Keyword 183 189 (codes "return")) ∷ (tok Integer 190 191 (codes "1")) ∷ (tok Operator 192 193 (codes "}")) ∷ (tok Inserted 193 193 (codes ";")) ∷ (tok Keyword 195 199 (codes "func")) ∷ (tok Ident 200 204 (codes "main")) ∷ (tok Operator 204 205 (codes "(")) ∷ (tok Operator 205 206 (codes ")")) ∷ (tok Operator 207 208 (codes "{")) ∷ (tok Ident 210 217 (codes "println")) ∷ (tok Operator 217 218 (codes "(")) ∷ (tok Ident 218 219 (codes "g")) ∷ (tok Operator 219 220 (codes "(")) ∷ (tok Operator 220 221 (codes ")")) ∷ (tok Operator 221 222 (codes ",")) ∷ (tok Ident 223 224 (codes "h")) ∷ (tok Operator 224 225 (codes "(")) ∷ (tok Operator 225 226 (codes ")")) ∷ (tok Operator 226 227 (codes ")")) ∷ (tok Inserted 227 227 (codes ";")) ∷ (tok Operator 228 229 (codes "}")) ∷ (tok Inserted 229 229 (codes ";")) ∷ []); comments = ((note 14 29) ∷ []) }) ∷ []) }

argument_order_1_typed : is_typed argument_order_1 ≡ true
argument_order_1_typed = refl

argument_order_1_ends : step_of argument_order_1 ≡ None
argument_order_1_ends = refl

argument_order_1_kept : kept_uses argument_order_1 ≡ []
argument_order_1_kept = refl

-- What looks comes before what acts.
abbrev looks_and_acts_0_f0 : File Span
looks_and_acts_0_f0 = record { package_name = (nm 8 12 (codes "main")); imports = []; decls = ((values (var_decl (at 14 23) false (spec (at 18 23) ((nm 18 19 (codes "v")) ∷ []) None (expr_and (int_lit (at 22 23) (codes "1")) no_exprs) no_specs))) ∷ (fn (at 41 78) None (nm 46 50 (codes "Show")) (sig ((param (at 51 59) (Some (nm 51 52 (codes "a"))) (named (at 56 59) None (nm 56 59 (codes "int")))) ∷ (param (at 54 59) (Some (nm 54 55 (codes "b"))) (named (at 56 59) None (nm 56 59 (codes "int")))) ∷ []) []) (at 61 78) (stmt_and (eval (at 63 76) (call (at 63 76) (ident (at 63 70) (codes "println")) (expr_and (ident (at 71 72) (codes "a")) (expr_and (ident (at 74 75) (codes "b")) no_exprs)) Plain)) no_stmts)) ∷ (fn (at 80 122) None (nm 85 89 (codes "next")) (sig [] ((param (at 92 95) None (named (at 92 95) None (nm 92 95 (codes "int")))) ∷ [])) (at 96 122) (stmt_and (eval (at 98 110) (call (at 98 110) (ident (at 98 105) (codes "println")) (expr_and (str_lit (at 106 109) (codes "\"n\"")) no_exprs) Plain)) (stmt_and (return_ (at 112 120) (expr_and (int_lit (at 119 120) (codes "1")) no_exprs)) no_stmts))) ∷ (fn (at 124 163) None (nm 129 130 (codes "g")) (sig [] ((param (at 133 136) None (named (at 133 136) None (nm 133 136 (codes "int")))) ∷ [])) (at 137 163) (stmt_and (eval (at 139 151) (call (at 139 151) (ident (at 139 146) (codes "println")) (expr_and (str_lit (at 147 150) (codes "\"g\"")) no_exprs) Plain)) (stmt_and (return_ (at 153 161) (expr_and (int_lit (at 160 161) (codes "1")) no_exprs)) no_stmts))) ∷ (fn (at 165 204) None (nm 170 171 (codes "h")) (sig [] ((param (at 174 177) None (named (at 174 177) None (nm 174 177 (codes "int")))) ∷ [])) (at 178 204) (stmt_and (eval (at 180 192) (call (at 180 192) (ident (at 180 187) (codes "println")) (expr_and (str_lit (at 188 191) (codes "\"h\"")) no_exprs) Plain)) (stmt_and (return_ (at 194 202) (expr_and (int_lit (at 201 202) (codes "1")) no_exprs)) no_stmts))) ∷ (fn (at 206 235) None (nm 211 215 (codes "main")) (sig [] []) (at 218 235) (stmt_and (eval (at 221 233) (call (at 221 233) (ident (at 221 225) (codes "Show")) (expr_and (ident (at 226 227) (codes "v")) (expr_and (call (at 229 232) (ident (at 229 230) (codes "h")) no_exprs Plain) no_exprs)) Plain)) no_stmts)) ∷ []) }

looks_and_acts_0_f0_read : read_at span_to read_front (lexemes ((tok Keyword 0 7 (codes "package")) ∷ (tok Ident 8 12 (codes "main")) ∷ (tok Inserted 12 12 (codes ";")) ∷ (tok Keyword 14 17 (codes "var")) ∷ (tok Ident 18 19 (codes "v")) ∷ (tok Operator 20 21 (codes "=")) ∷ (tok Integer 22 23 (codes "1")) ∷ (tok Inserted 23 23 (codes ";")) ∷ (tok Keyword 41 45 (codes "func")) ∷ (tok Ident 46 50 (codes "Show")) ∷ (tok Operator 50 51 (codes "(")) ∷ (tok Ident 51 52 (codes "a")) ∷ (tok Operator 52 53 (codes ",")) ∷ (tok Ident 54 55 (codes "b")) ∷ (tok Ident 56 59 (codes "int")) ∷ (tok Operator 59 60 (codes ")")) ∷ (tok Operator 61 62 (codes "{")) ∷ (tok Ident 63 70 (codes "println")) ∷ (tok Operator 70 71 (codes "(")) ∷ (tok Ident 71 72 (codes "a")) ∷ (tok Operator 72 73 (codes ",")) ∷ (tok Ident 74 75 (codes "b")) ∷ (tok Operator 75 76 (codes ")")) ∷ (tok Operator 77 78 (codes "}")) ∷ (tok Inserted 78 78 (codes ";")) ∷ (tok Keyword 80 84 (codes "func")) ∷ (tok Ident 85 89 (codes "next")) ∷ (tok Operator 89 90 (codes "(")) ∷ (tok Operator 90 91 (codes ")")) ∷ (tok Ident 92 95 (codes "int")) ∷ (tok Operator 96 97 (codes "{")) ∷ (tok Ident 98 105 (codes "println")) ∷ (tok Operator 105 106 (codes "(")) ∷ (tok Str 106 109 (codes "\"n\"")) ∷ (tok Operator 109 110 (codes ")")) ∷ (tok Operator 110 111 (codes ";")) ∷ (tok Keyword 112 118 (codes "return")) ∷ (tok Integer 119 120 (codes "1")) ∷ (tok Operator 121 122 (codes "}")) ∷ (tok Inserted 122 122 (codes ";")) ∷ (tok Keyword 124 128 (codes "func")) ∷ (tok Ident 129 130 (codes "g")) ∷ (tok Operator 130 131 (codes "(")) ∷ (tok Operator 131 132 (codes ")")) ∷ (tok Ident 133 136 (codes "int")) ∷ (tok Operator 137 138 (codes "{")) ∷ (tok Ident 139 146 (codes "println")) ∷ (tok Operator 146 147 (codes "(")) ∷ (tok Str 147 150 (codes "\"g\"")) ∷ (tok Operator 150 151 (codes ")")) ∷ (tok Operator 151 152 (codes ";")) ∷ (tok Keyword 153 159 (codes "return")) ∷ (tok Integer 160 161 (codes "1")) ∷ (tok Operator 162 163 (codes "}")) ∷ (tok Inserted 163 163 (codes ";")) ∷ (tok Keyword 165 169 (codes "func")) ∷ (tok Ident 170 171 (codes "h")) ∷ (tok Operator 171 172 (codes "(")) ∷ (tok Operator 172 173 (codes ")")) ∷ (tok Ident 174 177 (codes "int")) ∷ (tok Operator 178 179 (codes "{")) ∷ (tok Ident 180 187 (codes "println")) ∷ (tok Operator 187 188 (codes "(")) ∷ (tok Str 188 191 (codes "\"h\"")) ∷ (tok Operator 191 192 (codes ")")) ∷ (tok Operator 192 193 (codes ";")) ∷ (tok Keyword 194 200 (codes "return")) ∷ (tok Integer 201 202 (codes "1")) ∷ (tok Operator 203 204 (codes "}")) ∷ (tok Inserted 204 204 (codes ";")) ∷ (tok Keyword 206 210 (codes "func")) ∷ (tok Ident 211 215 (codes "main")) ∷ (tok Operator 215 216 (codes "(")) ∷ (tok Operator 216 217 (codes ")")) ∷ (tok Operator 218 219 (codes "{")) ∷ (tok Ident 221 225 (codes "Show")) ∷ (tok Operator 225 226 (codes "(")) ∷ (tok Ident 226 227 (codes "v")) ∷ (tok Operator 227 228 (codes ",")) ∷ (tok Ident 229 230 (codes "h")) ∷ (tok Operator 230 231 (codes "(")) ∷ (tok Operator 231 232 (codes ")")) ∷ (tok Operator 232 233 (codes ")")) ∷ (tok Inserted 233 233 (codes ";")) ∷ (tok Operator 234 235 (codes "}")) ∷ (tok Inserted 235 235 (codes ";")) ∷ [])) ≡ Some (looks_and_acts_0_f0, [])
unfolding reading
looks_and_acts_0_f0_read = refl

abbrev looks_and_acts_0 : Module
looks_and_acts_0 = record { packages = (pack (codes "example.com/m") (codes "main") (source (codes "main.go") looks_and_acts_0_f0 ∷ []) ∷ []); marks = (mark 0 0 1 0 ∷ []); texts = (((codes "main.go"), record { text = (codes "package main\n\nvar v = 1\n\n//go:fix inline\nfunc Show(a, b int) { println(a, b) }\n\nfunc next() int { println(\"n\"); return 1 }\n\nfunc g() int { println(\"g\"); return 1 }\n\nfunc h() int { println(\"h\"); return 1 }\n\nfunc main() {\n\tShow(v, h())\n}\n"); tokens = ((tok Keyword 0 7 (codes "package")) ∷ (tok Ident 8 12 (codes "main")) ∷ (tok Inserted 12 12 (codes ";")) ∷ (tok Keyword 14 17 (codes "var")) ∷ (tok Ident 18 19 (codes "v")) ∷ (tok Operator 20 21 (codes "=")) ∷ (tok Integer 22 23 (codes "1")) ∷ (tok Inserted 23 23 (codes ";")) ∷ (tok Keyword 41 45 (codes "func")) ∷ (tok Ident 46 50 (codes "Show")) ∷ (tok Operator 50 51 (codes "(")) ∷ (tok Ident 51 52 (codes "a")) ∷ (tok Operator 52 53 (codes ",")) ∷ (tok Ident 54 55 (codes "b")) ∷ (tok Ident 56 59 (codes "int")) ∷ (tok Operator 59 60 (codes ")")) ∷ (tok Operator 61 62 (codes "{")) ∷ (tok Ident 63 70 (codes "println")) ∷ (tok Operator 70 71 (codes "(")) ∷ (tok Ident 71 72 (codes "a")) ∷ (tok Operator 72 73 (codes ",")) ∷ (tok Ident 74 75 (codes "b")) ∷ (tok Operator 75 76 (codes ")")) ∷ (tok Operator 77 78 (codes "}")) ∷ (tok Inserted 78 78 (codes ";")) ∷ (tok Keyword 80 84 (codes "func")) ∷ (tok Ident 85 89 (codes "next")) ∷ (tok Operator 89 90 (codes "(")) ∷ (tok Operator 90 91 (codes ")")) ∷ (tok Ident 92 95 (codes "int")) ∷ (tok Operator 96 97 (codes "{")) ∷ (tok Ident 98 105 (codes "println")) ∷ (tok Operator 105 106 (codes "(")) ∷ (tok Str 106 109 (codes "\"n\"")) ∷ (tok Operator 109 110 (codes ")")) ∷ (tok Operator 110 111 (codes ";")) ∷ (tok Keyword 112 118 (codes "return")) ∷ (tok Integer 119 120 (codes "1")) ∷ (tok Operator 121 122 (codes "}")) ∷ (tok Inserted 122 122 (codes ";")) ∷ (tok Keyword 124 128 (codes "func")) ∷ (tok Ident 129 130 (codes "g")) ∷ (tok Operator 130 131 (codes "(")) ∷ (tok Operator 131 132 (codes ")")) ∷ (tok Ident 133 136 (codes "int")) ∷ (tok Operator 137 138 (codes "{")) ∷ (tok Ident 139 146 (codes "println")) ∷ (tok Operator 146 147 (codes "(")) ∷ (tok Str 147 150 (codes "\"g\"")) ∷ (tok Operator 150 151 (codes ")")) ∷ (tok Operator 151 152 (codes ";")) ∷ (tok Keyword 153 159 (codes "return")) ∷ (tok Integer 160 161 (codes "1")) ∷ (tok Operator 162 163 (codes "}")) ∷ (tok Inserted 163 163 (codes ";")) ∷ (tok Keyword 165 169 (codes "func")) ∷ (tok Ident 170 171 (codes "h")) ∷ (tok Operator 171 172 (codes "(")) ∷ (tok Operator 172 173 (codes ")")) ∷ (tok Ident 174 177 (codes "int")) ∷ (tok Operator 178 179 (codes "{")) ∷ (tok Ident 180 187 (codes "println")) ∷ (tok Operator 187 188 (codes "(")) ∷ (tok Str 188 191 (codes "\"h\"")) ∷ (tok Operator 191 192 (codes ")")) ∷ (tok Operator 192 193 (codes ";")) ∷ (tok Keyword 194 200 (codes "return")) ∷ (tok Integer 201 202 (codes "1")) ∷ (tok Operator 203 204 (codes "}")) ∷ (tok Inserted 204 204 (codes ";")) ∷ (tok Keyword 206 210 (codes "func")) ∷ (tok Ident 211 215 (codes "main")) ∷ (tok Operator 215 216 (codes "(")) ∷ (tok Operator 216 217 (codes ")")) ∷ (tok Operator 218 219 (codes "{")) ∷ (tok Ident 221 225 (codes "Show")) ∷ (tok Operator 225 226 (codes "(")) ∷ (tok Ident 226 227 (codes "v")) ∷ (tok Operator 227 228 (codes ",")) ∷ (tok Ident 229 230 (codes "h")) ∷ (tok Operator 230 231 (codes "(")) ∷ (tok Operator 231 232 (codes ")")) ∷ (tok Operator 232 233 (codes ")")) ∷ (tok Inserted 233 233 (codes ";")) ∷ (tok Operator 234 235 (codes "}")) ∷ (tok Inserted 235 235 (codes ";")) ∷ []); comments = ((note 25 40) ∷ []) }) ∷ []) }

looks_and_acts_0_typed : is_typed looks_and_acts_0 ≡ true
looks_and_acts_0_typed = refl

looks_and_acts_0_step : first_change looks_and_acts_0 ≡ Some ((codes "main.go"), ExprForm, (codes "package main\n\nvar v = 1\n\n//go:fix inline\nfunc Show(a, b int) { println(a, b) }\n\nfunc next() int { println(\"n\"); return 1 }\n\nfunc g() int { println(\"g\"); return 1 }\n\nfunc h() int { println(\"h\"); return 1 }\n\nfunc main() {\n\tprintln(v, h())\n}\n"))
looks_and_acts_0_step = refl

abbrev looks_and_acts_1_f0 : File Span
looks_and_acts_1_f0 = record { package_name = (nm 8 12 (codes "main")); imports = []; decls = ((values (var_decl (at 14 23) false (spec (at 18 23) ((nm 18 19 (codes "v")) ∷ []) None (expr_and (int_lit (at 22 23) (codes "1")) no_exprs) no_specs))) ∷ (fn (at 41 78) None (nm 46 50 (codes "Show")) (sig ((param (at 51 59) (Some (nm 51 52 (codes "a"))) (named (at 56 59) None (nm 56 59 (codes "int")))) ∷ (param (at 54 59) (Some (nm 54 55 (codes "b"))) (named (at 56 59) None (nm 56 59 (codes "int")))) ∷ []) []) (at 61 78) (stmt_and (eval (at 63 76) (call (at 63 76) (ident (at 63 70) (codes "println")) (expr_and (ident (at 71 72) (codes "a")) (expr_and (ident (at 74 75) (codes "b")) no_exprs)) Plain)) no_stmts)) ∷ (fn (at 80 122) None (nm 85 89 (codes "next")) (sig [] ((param (at 92 95) None (named (at 92 95) None (nm 92 95 (codes "int")))) ∷ [])) (at 96 122) (stmt_and (eval (at 98 110) (call (at 98 110) (ident (at 98 105) (codes "println")) (expr_and (str_lit (at 106 109) (codes "\"n\"")) no_exprs) Plain)) (stmt_and (return_ (at 112 120) (expr_and (int_lit (at 119 120) (codes "1")) no_exprs)) no_stmts))) ∷ (fn (at 124 163) None (nm 129 130 (codes "g")) (sig [] ((param (at 133 136) None (named (at 133 136) None (nm 133 136 (codes "int")))) ∷ [])) (at 137 163) (stmt_and (eval (at 139 151) (call (at 139 151) (ident (at 139 146) (codes "println")) (expr_and (str_lit (at 147 150) (codes "\"g\"")) no_exprs) Plain)) (stmt_and (return_ (at 153 161) (expr_and (int_lit (at 160 161) (codes "1")) no_exprs)) no_stmts))) ∷ (fn (at 165 204) None (nm 170 171 (codes "h")) (sig [] ((param (at 174 177) None (named (at 174 177) None (nm 174 177 (codes "int")))) ∷ [])) (at 178 204) (stmt_and (eval (at 180 192) (call (at 180 192) (ident (at 180 187) (codes "println")) (expr_and (str_lit (at 188 191) (codes "\"h\"")) no_exprs) Plain)) (stmt_and (return_ (at 194 202) (expr_and (int_lit (at 201 202) (codes "1")) no_exprs)) no_stmts))) ∷ (fn (at 206 238) None (nm 211 215 (codes "main")) (sig [] []) (at 218 238) (stmt_and (eval (at 221 236) (call (at 221 236) (ident (at 221 228) (codes "println")) (expr_and (ident (at 229 230) (codes "v")) (expr_and (call (at 232 235) (ident (at 232 233) (codes "h")) no_exprs Plain) no_exprs)) Plain)) no_stmts)) ∷ []) }

looks_and_acts_1_f0_read : read_at span_to read_front (lexemes ((tok Keyword 0 7 (codes "package")) ∷ (tok Ident 8 12 (codes "main")) ∷ (tok Inserted 12 12 (codes ";")) ∷ (tok Keyword 14 17 (codes "var")) ∷ (tok Ident 18 19 (codes "v")) ∷ (tok Operator 20 21 (codes "=")) ∷ (tok Integer 22 23 (codes "1")) ∷ (tok Inserted 23 23 (codes ";")) ∷ (tok Keyword 41 45 (codes "func")) ∷ (tok Ident 46 50 (codes "Show")) ∷ (tok Operator 50 51 (codes "(")) ∷ (tok Ident 51 52 (codes "a")) ∷ (tok Operator 52 53 (codes ",")) ∷ (tok Ident 54 55 (codes "b")) ∷ (tok Ident 56 59 (codes "int")) ∷ (tok Operator 59 60 (codes ")")) ∷ (tok Operator 61 62 (codes "{")) ∷ (tok Ident 63 70 (codes "println")) ∷ (tok Operator 70 71 (codes "(")) ∷ (tok Ident 71 72 (codes "a")) ∷ (tok Operator 72 73 (codes ",")) ∷ (tok Ident 74 75 (codes "b")) ∷ (tok Operator 75 76 (codes ")")) ∷ (tok Operator 77 78 (codes "}")) ∷ (tok Inserted 78 78 (codes ";")) ∷ (tok Keyword 80 84 (codes "func")) ∷ (tok Ident 85 89 (codes "next")) ∷ (tok Operator 89 90 (codes "(")) ∷ (tok Operator 90 91 (codes ")")) ∷ (tok Ident 92 95 (codes "int")) ∷ (tok Operator 96 97 (codes "{")) ∷ (tok Ident 98 105 (codes "println")) ∷ (tok Operator 105 106 (codes "(")) ∷ (tok Str 106 109 (codes "\"n\"")) ∷ (tok Operator 109 110 (codes ")")) ∷ (tok Operator 110 111 (codes ";")) ∷ (tok Keyword 112 118 (codes "return")) ∷ (tok Integer 119 120 (codes "1")) ∷ (tok Operator 121 122 (codes "}")) ∷ (tok Inserted 122 122 (codes ";")) ∷ (tok Keyword 124 128 (codes "func")) ∷ (tok Ident 129 130 (codes "g")) ∷ (tok Operator 130 131 (codes "(")) ∷ (tok Operator 131 132 (codes ")")) ∷ (tok Ident 133 136 (codes "int")) ∷ (tok Operator 137 138 (codes "{")) ∷ (tok Ident 139 146 (codes "println")) ∷ (tok Operator 146 147 (codes "(")) ∷ (tok Str 147 150 (codes "\"g\"")) ∷ (tok Operator 150 151 (codes ")")) ∷ (tok Operator 151 152 (codes ";")) ∷ (tok Keyword 153 159 (codes "return")) ∷ (tok Integer 160 161 (codes "1")) ∷ (tok Operator 162 163 (codes "}")) ∷ (tok Inserted 163 163 (codes ";")) ∷ (tok Keyword 165 169 (codes "func")) ∷ (tok Ident 170 171 (codes "h")) ∷ (tok Operator 171 172 (codes "(")) ∷ (tok Operator 172 173 (codes ")")) ∷ (tok Ident 174 177 (codes "int")) ∷ (tok Operator 178 179 (codes "{")) ∷ (tok Ident 180 187 (codes "println")) ∷ (tok Operator 187 188 (codes "(")) ∷ (tok Str 188 191 (codes "\"h\"")) ∷ (tok Operator 191 192 (codes ")")) ∷ (tok Operator 192 193 (codes ";")) ∷ (tok Keyword 194 200 (codes "return")) ∷ (tok Integer 201 202 (codes "1")) ∷ (tok Operator 203 204 (codes "}")) ∷ (tok Inserted 204 204 (codes ";")) ∷ (tok Keyword 206 210 (codes "func")) ∷ (tok Ident 211 215 (codes "main")) ∷ (tok Operator 215 216 (codes "(")) ∷ (tok Operator 216 217 (codes ")")) ∷ (tok Operator 218 219 (codes "{")) ∷ (tok Ident 221 228 (codes "println")) ∷ (tok Operator 228 229 (codes "(")) ∷ (tok Ident 229 230 (codes "v")) ∷ (tok Operator 230 231 (codes ",")) ∷ (tok Ident 232 233 (codes "h")) ∷ (tok Operator 233 234 (codes "(")) ∷ (tok Operator 234 235 (codes ")")) ∷ (tok Operator 235 236 (codes ")")) ∷ (tok Inserted 236 236 (codes ";")) ∷ (tok Operator 237 238 (codes "}")) ∷ (tok Inserted 238 238 (codes ";")) ∷ [])) ≡ Some (looks_and_acts_1_f0, [])
unfolding reading
looks_and_acts_1_f0_read = refl

abbrev looks_and_acts_1 : Module
looks_and_acts_1 = record { packages = (pack (codes "example.com/m") (codes "main") (source (codes "main.go") looks_and_acts_1_f0 ∷ []) ∷ []); marks = (mark 0 0 1 0 ∷ []); texts = (((codes "main.go"), record { text = (codes "package main\n\nvar v = 1\n\n//go:fix inline\nfunc Show(a, b int) { println(a, b) }\n\nfunc next() int { println(\"n\"); return 1 }\n\nfunc g() int { println(\"g\"); return 1 }\n\nfunc h() int { println(\"h\"); return 1 }\n\nfunc main() {\n\tprintln(v, h())\n}\n"); tokens = ((tok Keyword 0 7 (codes "package")) ∷ (tok Ident 8 12 (codes "main")) ∷ (tok Inserted 12 12 (codes ";")) ∷ (tok Keyword 14 17 (codes "var")) ∷ (tok Ident 18 19 (codes "v")) ∷ (tok Operator 20 21 (codes "=")) ∷ (tok Integer 22 23 (codes "1")) ∷ (tok Inserted 23 23 (codes ";")) ∷ (tok Keyword 41 45 (codes "func")) ∷ (tok Ident 46 50 (codes "Show")) ∷ (tok Operator 50 51 (codes "(")) ∷ (tok Ident 51 52 (codes "a")) ∷ (tok Operator 52 53 (codes ",")) ∷ (tok Ident 54 55 (codes "b")) ∷ (tok Ident 56 59 (codes "int")) ∷ (tok Operator 59 60 (codes ")")) ∷ (tok Operator 61 62 (codes "{")) ∷ (tok Ident 63 70 (codes "println")) ∷ (tok Operator 70 71 (codes "(")) ∷ (tok Ident 71 72 (codes "a")) ∷ (tok Operator 72 73 (codes ",")) ∷ (tok Ident 74 75 (codes "b")) ∷ (tok Operator 75 76 (codes ")")) ∷ (tok Operator 77 78 (codes "}")) ∷ (tok Inserted 78 78 (codes ";")) ∷ (tok Keyword 80 84 (codes "func")) ∷ (tok Ident 85 89 (codes "next")) ∷ (tok Operator 89 90 (codes "(")) ∷ (tok Operator 90 91 (codes ")")) ∷ (tok Ident 92 95 (codes "int")) ∷ (tok Operator 96 97 (codes "{")) ∷ (tok Ident 98 105 (codes "println")) ∷ (tok Operator 105 106 (codes "(")) ∷ (tok Str 106 109 (codes "\"n\"")) ∷ (tok Operator 109 110 (codes ")")) ∷ (tok Operator 110 111 (codes ";")) ∷ (tok Keyword 112 118 (codes "return")) ∷ (tok Integer 119 120 (codes "1")) ∷ (tok Operator 121 122 (codes "}")) ∷ (tok Inserted 122 122 (codes ";")) ∷ (tok Keyword 124 128 (codes "func")) ∷ (tok Ident 129 130 (codes "g")) ∷ (tok Operator 130 131 (codes "(")) ∷ (tok Operator 131 132 (codes ")")) ∷ (tok Ident 133 136 (codes "int")) ∷ (tok Operator 137 138 (codes "{")) ∷ (tok Ident 139 146 (codes "println")) ∷ (tok Operator 146 147 (codes "(")) ∷ (tok Str 147 150 (codes "\"g\"")) ∷ (tok Operator 150 151 (codes ")")) ∷ (tok Operator 151 152 (codes ";")) ∷ (tok Keyword 153 159 (codes "return")) ∷ (tok Integer 160 161 (codes "1")) ∷ (tok Operator 162 163 (codes "}")) ∷ (tok Inserted 163 163 (codes ";")) ∷ (tok Keyword 165 169 (codes "func")) ∷ (tok Ident 170 171 (codes "h")) ∷ (tok Operator 171 172 (codes "(")) ∷ (tok Operator 172 173 (codes ")")) ∷ (tok Ident 174 177 (codes "int")) ∷ (tok Operator 178 179 (codes "{")) ∷ (tok Ident 180 187 (codes "println")) ∷ (tok Operator 187 188 (codes "(")) ∷ (tok Str 188 191 (codes "\"h\"")) ∷ (tok Operator 191 192 (codes ")")) ∷ (tok Operator 192 193 (codes ";")) ∷ (tok Keyword 194 200 (codes "return")) ∷ (tok Integer 201 202 (codes "1")) ∷ (tok Operator 203 204 (codes "}")) ∷ (tok Inserted 204 204 (codes ";")) ∷ (tok Keyword 206 210 (codes "func")) ∷ (tok Ident 211 215 (codes "main")) ∷ (tok Operator 215 216 (codes "(")) ∷ (tok Operator 216 217 (codes ")")) ∷ (tok Operator 218 219 (codes "{")) ∷ (tok Ident 221 228 (codes "println")) ∷ (tok Operator 228 229 (codes "(")) ∷ (tok Ident 229 230 (codes "v")) ∷ (tok Operator 230 231 (codes ",")) ∷ (tok Ident 232 233 (codes "h")) ∷ (tok Operator 233 234 (codes "(")) ∷ (tok Operator 234 235 (codes ")")) ∷ (tok Operator 235 236 (codes ")")) ∷ (tok Inserted 236 236 (codes ";")) ∷ (tok Operator 237 238 (codes "}")) ∷ (tok Inserted 238 238 (codes ";")) ∷ []); comments = ((note 25 40) ∷ []) }) ∷ []) }

looks_and_acts_1_typed : is_typed looks_and_acts_1 ≡ true
looks_and_acts_1_typed = refl

looks_and_acts_1_ends : step_of looks_and_acts_1 ≡ None
looks_and_acts_1_ends = refl

looks_and_acts_1_kept : kept_uses looks_and_acts_1 ≡ []
looks_and_acts_1_kept = refl

-- What acts would come after what looks: it is bound.
abbrev acts_then_looks_0_f0 : File Span
acts_then_looks_0_f0 = record { package_name = (nm 8 12 (codes "main")); imports = []; decls = ((values (var_decl (at 14 23) false (spec (at 18 23) ((nm 18 19 (codes "v")) ∷ []) None (expr_and (int_lit (at 22 23) (codes "1")) no_exprs) no_specs))) ∷ (fn (at 41 78) None (nm 46 50 (codes "Show")) (sig ((param (at 51 59) (Some (nm 51 52 (codes "a"))) (named (at 56 59) None (nm 56 59 (codes "int")))) ∷ (param (at 54 59) (Some (nm 54 55 (codes "b"))) (named (at 56 59) None (nm 56 59 (codes "int")))) ∷ []) []) (at 61 78) (stmt_and (eval (at 63 76) (call (at 63 76) (ident (at 63 70) (codes "println")) (expr_and (ident (at 71 72) (codes "b")) (expr_and (ident (at 74 75) (codes "a")) no_exprs)) Plain)) no_stmts)) ∷ (fn (at 80 122) None (nm 85 89 (codes "next")) (sig [] ((param (at 92 95) None (named (at 92 95) None (nm 92 95 (codes "int")))) ∷ [])) (at 96 122) (stmt_and (eval (at 98 110) (call (at 98 110) (ident (at 98 105) (codes "println")) (expr_and (str_lit (at 106 109) (codes "\"n\"")) no_exprs) Plain)) (stmt_and (return_ (at 112 120) (expr_and (int_lit (at 119 120) (codes "1")) no_exprs)) no_stmts))) ∷ (fn (at 124 163) None (nm 129 130 (codes "g")) (sig [] ((param (at 133 136) None (named (at 133 136) None (nm 133 136 (codes "int")))) ∷ [])) (at 137 163) (stmt_and (eval (at 139 151) (call (at 139 151) (ident (at 139 146) (codes "println")) (expr_and (str_lit (at 147 150) (codes "\"g\"")) no_exprs) Plain)) (stmt_and (return_ (at 153 161) (expr_and (int_lit (at 160 161) (codes "1")) no_exprs)) no_stmts))) ∷ (fn (at 165 204) None (nm 170 171 (codes "h")) (sig [] ((param (at 174 177) None (named (at 174 177) None (nm 174 177 (codes "int")))) ∷ [])) (at 178 204) (stmt_and (eval (at 180 192) (call (at 180 192) (ident (at 180 187) (codes "println")) (expr_and (str_lit (at 188 191) (codes "\"h\"")) no_exprs) Plain)) (stmt_and (return_ (at 194 202) (expr_and (int_lit (at 201 202) (codes "1")) no_exprs)) no_stmts))) ∷ (fn (at 206 235) None (nm 211 215 (codes "main")) (sig [] []) (at 218 235) (stmt_and (eval (at 221 233) (call (at 221 233) (ident (at 221 225) (codes "Show")) (expr_and (call (at 226 229) (ident (at 226 227) (codes "h")) no_exprs Plain) (expr_and (ident (at 231 232) (codes "v")) no_exprs)) Plain)) no_stmts)) ∷ []) }

acts_then_looks_0_f0_read : read_at span_to read_front (lexemes ((tok Keyword 0 7 (codes "package")) ∷ (tok Ident 8 12 (codes "main")) ∷ (tok Inserted 12 12 (codes ";")) ∷ (tok Keyword 14 17 (codes "var")) ∷ (tok Ident 18 19 (codes "v")) ∷ (tok Operator 20 21 (codes "=")) ∷ (tok Integer 22 23 (codes "1")) ∷ (tok Inserted 23 23 (codes ";")) ∷ (tok Keyword 41 45 (codes "func")) ∷ (tok Ident 46 50 (codes "Show")) ∷ (tok Operator 50 51 (codes "(")) ∷ (tok Ident 51 52 (codes "a")) ∷ (tok Operator 52 53 (codes ",")) ∷ (tok Ident 54 55 (codes "b")) ∷ (tok Ident 56 59 (codes "int")) ∷ (tok Operator 59 60 (codes ")")) ∷ (tok Operator 61 62 (codes "{")) ∷ (tok Ident 63 70 (codes "println")) ∷ (tok Operator 70 71 (codes "(")) ∷ (tok Ident 71 72 (codes "b")) ∷ (tok Operator 72 73 (codes ",")) ∷ (tok Ident 74 75 (codes "a")) ∷ (tok Operator 75 76 (codes ")")) ∷ (tok Operator 77 78 (codes "}")) ∷ (tok Inserted 78 78 (codes ";")) ∷ (tok Keyword 80 84 (codes "func")) ∷ (tok Ident 85 89 (codes "next")) ∷ (tok Operator 89 90 (codes "(")) ∷ (tok Operator 90 91 (codes ")")) ∷ (tok Ident 92 95 (codes "int")) ∷ (tok Operator 96 97 (codes "{")) ∷ (tok Ident 98 105 (codes "println")) ∷ (tok Operator 105 106 (codes "(")) ∷ (tok Str 106 109 (codes "\"n\"")) ∷ (tok Operator 109 110 (codes ")")) ∷ (tok Operator 110 111 (codes ";")) ∷ (tok Keyword 112 118 (codes "return")) ∷ (tok Integer 119 120 (codes "1")) ∷ (tok Operator 121 122 (codes "}")) ∷ (tok Inserted 122 122 (codes ";")) ∷ (tok Keyword 124 128 (codes "func")) ∷ (tok Ident 129 130 (codes "g")) ∷ (tok Operator 130 131 (codes "(")) ∷ (tok Operator 131 132 (codes ")")) ∷ (tok Ident 133 136 (codes "int")) ∷ (tok Operator 137 138 (codes "{")) ∷ (tok Ident 139 146 (codes "println")) ∷ (tok Operator 146 147 (codes "(")) ∷ (tok Str 147 150 (codes "\"g\"")) ∷ (tok Operator 150 151 (codes ")")) ∷ (tok Operator 151 152 (codes ";")) ∷ (tok Keyword 153 159 (codes "return")) ∷ (tok Integer 160 161 (codes "1")) ∷ (tok Operator 162 163 (codes "}")) ∷ (tok Inserted 163 163 (codes ";")) ∷ (tok Keyword 165 169 (codes "func")) ∷ (tok Ident 170 171 (codes "h")) ∷ (tok Operator 171 172 (codes "(")) ∷ (tok Operator 172 173 (codes ")")) ∷ (tok Ident 174 177 (codes "int")) ∷ (tok Operator 178 179 (codes "{")) ∷ (tok Ident 180 187 (codes "println")) ∷ (tok Operator 187 188 (codes "(")) ∷ (tok Str 188 191 (codes "\"h\"")) ∷ (tok Operator 191 192 (codes ")")) ∷ (tok Operator 192 193 (codes ";")) ∷ (tok Keyword 194 200 (codes "return")) ∷ (tok Integer 201 202 (codes "1")) ∷ (tok Operator 203 204 (codes "}")) ∷ (tok Inserted 204 204 (codes ";")) ∷ (tok Keyword 206 210 (codes "func")) ∷ (tok Ident 211 215 (codes "main")) ∷ (tok Operator 215 216 (codes "(")) ∷ (tok Operator 216 217 (codes ")")) ∷ (tok Operator 218 219 (codes "{")) ∷ (tok Ident 221 225 (codes "Show")) ∷ (tok Operator 225 226 (codes "(")) ∷ (tok Ident 226 227 (codes "h")) ∷ (tok Operator 227 228 (codes "(")) ∷ (tok Operator 228 229 (codes ")")) ∷ (tok Operator 229 230 (codes ",")) ∷ (tok Ident 231 232 (codes "v")) ∷ (tok Operator 232 233 (codes ")")) ∷ (tok Inserted 233 233 (codes ";")) ∷ (tok Operator 234 235 (codes "}")) ∷ (tok Inserted 235 235 (codes ";")) ∷ [])) ≡ Some (acts_then_looks_0_f0, [])
unfolding reading
acts_then_looks_0_f0_read = refl

abbrev acts_then_looks_0 : Module
acts_then_looks_0 = record { packages = (pack (codes "example.com/m") (codes "main") (source (codes "main.go") acts_then_looks_0_f0 ∷ []) ∷ []); marks = (mark 0 0 1 0 ∷ []); texts = (((codes "main.go"), record { text = (codes "package main\n\nvar v = 1\n\n//go:fix inline\nfunc Show(a, b int) { println(b, a) }\n\nfunc next() int { println(\"n\"); return 1 }\n\nfunc g() int { println(\"g\"); return 1 }\n\nfunc h() int { println(\"h\"); return 1 }\n\nfunc main() {\n\tShow(h(), v)\n}\n"); tokens = ((tok Keyword 0 7 (codes "package")) ∷ (tok Ident 8 12 (codes "main")) ∷ (tok Inserted 12 12 (codes ";")) ∷ (tok Keyword 14 17 (codes "var")) ∷ (tok Ident 18 19 (codes "v")) ∷ (tok Operator 20 21 (codes "=")) ∷ (tok Integer 22 23 (codes "1")) ∷ (tok Inserted 23 23 (codes ";")) ∷ (tok Keyword 41 45 (codes "func")) ∷ (tok Ident 46 50 (codes "Show")) ∷ (tok Operator 50 51 (codes "(")) ∷ (tok Ident 51 52 (codes "a")) ∷ (tok Operator 52 53 (codes ",")) ∷ (tok Ident 54 55 (codes "b")) ∷ (tok Ident 56 59 (codes "int")) ∷ (tok Operator 59 60 (codes ")")) ∷ (tok Operator 61 62 (codes "{")) ∷ (tok Ident 63 70 (codes "println")) ∷ (tok Operator 70 71 (codes "(")) ∷ (tok Ident 71 72 (codes "b")) ∷ (tok Operator 72 73 (codes ",")) ∷ (tok Ident 74 75 (codes "a")) ∷ (tok Operator 75 76 (codes ")")) ∷ (tok Operator 77 78 (codes "}")) ∷ (tok Inserted 78 78 (codes ";")) ∷ (tok Keyword 80 84 (codes "func")) ∷ (tok Ident 85 89 (codes "next")) ∷ (tok Operator 89 90 (codes "(")) ∷ (tok Operator 90 91 (codes ")")) ∷ (tok Ident 92 95 (codes "int")) ∷ (tok Operator 96 97 (codes "{")) ∷ (tok Ident 98 105 (codes "println")) ∷ (tok Operator 105 106 (codes "(")) ∷ (tok Str 106 109 (codes "\"n\"")) ∷ (tok Operator 109 110 (codes ")")) ∷ (tok Operator 110 111 (codes ";")) ∷ (tok Keyword 112 118 (codes "return")) ∷ (tok Integer 119 120 (codes "1")) ∷ (tok Operator 121 122 (codes "}")) ∷ (tok Inserted 122 122 (codes ";")) ∷ (tok Keyword 124 128 (codes "func")) ∷ (tok Ident 129 130 (codes "g")) ∷ (tok Operator 130 131 (codes "(")) ∷ (tok Operator 131 132 (codes ")")) ∷ (tok Ident 133 136 (codes "int")) ∷ (tok Operator 137 138 (codes "{")) ∷ (tok Ident 139 146 (codes "println")) ∷ (tok Operator 146 147 (codes "(")) ∷ (tok Str 147 150 (codes "\"g\"")) ∷ (tok Operator 150 151 (codes ")")) ∷ (tok Operator 151 152 (codes ";")) ∷ (tok Keyword 153 159 (codes "return")) ∷ (tok Integer 160 161 (codes "1")) ∷ (tok Operator 162 163 (codes "}")) ∷ (tok Inserted 163 163 (codes ";")) ∷ (tok Keyword 165 169 (codes "func")) ∷ (tok Ident 170 171 (codes "h")) ∷ (tok Operator 171 172 (codes "(")) ∷ (tok Operator 172 173 (codes ")")) ∷ (tok Ident 174 177 (codes "int")) ∷ (tok Operator 178 179 (codes "{")) ∷ (tok Ident 180 187 (codes "println")) ∷ (tok Operator 187 188 (codes "(")) ∷ (tok Str 188 191 (codes "\"h\"")) ∷ (tok Operator 191 192 (codes ")")) ∷ (tok Operator 192 193 (codes ";")) ∷ (tok Keyword 194 200 (codes "return")) ∷ (tok Integer 201 202 (codes "1")) ∷ (tok Operator 203 204 (codes "}")) ∷ (tok Inserted 204 204 (codes ";")) ∷ (tok Keyword 206 210 (codes "func")) ∷ (tok Ident 211 215 (codes "main")) ∷ (tok Operator 215 216 (codes "(")) ∷ (tok Operator 216 217 (codes ")")) ∷ (tok Operator 218 219 (codes "{")) ∷ (tok Ident 221 225 (codes "Show")) ∷ (tok Operator 225 226 (codes "(")) ∷ (tok Ident 226 227 (codes "h")) ∷ (tok Operator 227 228 (codes "(")) ∷ (tok Operator 228 229 (codes ")")) ∷ (tok Operator 229 230 (codes ",")) ∷ (tok Ident 231 232 (codes "v")) ∷ (tok Operator 232 233 (codes ")")) ∷ (tok Inserted 233 233 (codes ";")) ∷ (tok Operator 234 235 (codes "}")) ∷ (tok Inserted 235 235 (codes ";")) ∷ []); comments = ((note 25 40) ∷ []) }) ∷ []) }

acts_then_looks_0_typed : is_typed acts_then_looks_0 ≡ true
acts_then_looks_0_typed = refl

acts_then_looks_0_step : first_change acts_then_looks_0 ≡ Some ((codes "main.go"), BlockForm, (codes "package main\n\nvar v = 1\n\n//go:fix inline\nfunc Show(a, b int) { println(b, a) }\n\nfunc next() int { println(\"n\"); return 1 }\n\nfunc g() int { println(\"g\"); return 1 }\n\nfunc h() int { println(\"h\"); return 1 }\n\nfunc main() {\n\t{\n\t\ta := h()\n\t\tprintln(v, a)\n\t}\n}\n"))
acts_then_looks_0_step = refl

abbrev acts_then_looks_1_f0 : File Span
acts_then_looks_1_f0 = record { package_name = (nm 8 12 (codes "main")); imports = []; decls = ((values (var_decl (at 14 23) false (spec (at 18 23) ((nm 18 19 (codes "v")) ∷ []) None (expr_and (int_lit (at 22 23) (codes "1")) no_exprs) no_specs))) ∷ (fn (at 41 78) None (nm 46 50 (codes "Show")) (sig ((param (at 51 59) (Some (nm 51 52 (codes "a"))) (named (at 56 59) None (nm 56 59 (codes "int")))) ∷ (param (at 54 59) (Some (nm 54 55 (codes "b"))) (named (at 56 59) None (nm 56 59 (codes "int")))) ∷ []) []) (at 61 78) (stmt_and (eval (at 63 76) (call (at 63 76) (ident (at 63 70) (codes "println")) (expr_and (ident (at 71 72) (codes "b")) (expr_and (ident (at 74 75) (codes "a")) no_exprs)) Plain)) no_stmts)) ∷ (fn (at 80 122) None (nm 85 89 (codes "next")) (sig [] ((param (at 92 95) None (named (at 92 95) None (nm 92 95 (codes "int")))) ∷ [])) (at 96 122) (stmt_and (eval (at 98 110) (call (at 98 110) (ident (at 98 105) (codes "println")) (expr_and (str_lit (at 106 109) (codes "\"n\"")) no_exprs) Plain)) (stmt_and (return_ (at 112 120) (expr_and (int_lit (at 119 120) (codes "1")) no_exprs)) no_stmts))) ∷ (fn (at 124 163) None (nm 129 130 (codes "g")) (sig [] ((param (at 133 136) None (named (at 133 136) None (nm 133 136 (codes "int")))) ∷ [])) (at 137 163) (stmt_and (eval (at 139 151) (call (at 139 151) (ident (at 139 146) (codes "println")) (expr_and (str_lit (at 147 150) (codes "\"g\"")) no_exprs) Plain)) (stmt_and (return_ (at 153 161) (expr_and (int_lit (at 160 161) (codes "1")) no_exprs)) no_stmts))) ∷ (fn (at 165 204) None (nm 170 171 (codes "h")) (sig [] ((param (at 174 177) None (named (at 174 177) None (nm 174 177 (codes "int")))) ∷ [])) (at 178 204) (stmt_and (eval (at 180 192) (call (at 180 192) (ident (at 180 187) (codes "println")) (expr_and (str_lit (at 188 191) (codes "\"h\"")) no_exprs) Plain)) (stmt_and (return_ (at 194 202) (expr_and (int_lit (at 201 202) (codes "1")) no_exprs)) no_stmts))) ∷ (fn (at 206 254) None (nm 211 215 (codes "main")) (sig [] []) (at 218 254) (stmt_and (inner (at 221 252) (stmt_and (define (at 225 233) ((nm 225 226 (codes "a")) ∷ []) (expr_and (call (at 230 233) (ident (at 230 231) (codes "h")) no_exprs Plain) no_exprs)) (stmt_and (eval (at 236 249) (call (at 236 249) (ident (at 236 243) (codes "println")) (expr_and (ident (at 244 245) (codes "v")) (expr_and (ident (at 247 248) (codes "a")) no_exprs)) Plain)) no_stmts))) no_stmts)) ∷ []) }

acts_then_looks_1_f0_read : read_at span_to read_front (lexemes ((tok Keyword 0 7 (codes "package")) ∷ (tok Ident 8 12 (codes "main")) ∷ (tok Inserted 12 12 (codes ";")) ∷ (tok Keyword 14 17 (codes "var")) ∷ (tok Ident 18 19 (codes "v")) ∷ (tok Operator 20 21 (codes "=")) ∷ (tok Integer 22 23 (codes "1")) ∷ (tok Inserted 23 23 (codes ";")) ∷ (tok Keyword 41 45 (codes "func")) ∷ (tok Ident 46 50 (codes "Show")) ∷ (tok Operator 50 51 (codes "(")) ∷ (tok Ident 51 52 (codes "a")) ∷ (tok Operator 52 53 (codes ",")) ∷ (tok Ident 54 55 (codes "b")) ∷ (tok Ident 56 59 (codes "int")) ∷ (tok Operator 59 60 (codes ")")) ∷ (tok Operator 61 62 (codes "{")) ∷ (tok Ident 63 70 (codes "println")) ∷ (tok Operator 70 71 (codes "(")) ∷ (tok Ident 71 72 (codes "b")) ∷ (tok Operator 72 73 (codes ",")) ∷ (tok Ident 74 75 (codes "a")) ∷ (tok Operator 75 76 (codes ")")) ∷ (tok Operator 77 78 (codes "}")) ∷ (tok Inserted 78 78 (codes ";")) ∷ (tok Keyword 80 84 (codes "func")) ∷ (tok Ident 85 89 (codes "next")) ∷ (tok Operator 89 90 (codes "(")) ∷ (tok Operator 90 91 (codes ")")) ∷ (tok Ident 92 95 (codes "int")) ∷ (tok Operator 96 97 (codes "{")) ∷ (tok Ident 98 105 (codes "println")) ∷ (tok Operator 105 106 (codes "(")) ∷ (tok Str 106 109 (codes "\"n\"")) ∷ (tok Operator 109 110 (codes ")")) ∷ (tok Operator 110 111 (codes ";")) ∷ (tok Keyword 112 118 (codes "return")) ∷ (tok Integer 119 120 (codes "1")) ∷ (tok Operator 121 122 (codes "}")) ∷ (tok Inserted 122 122 (codes ";")) ∷ (tok Keyword 124 128 (codes "func")) ∷ (tok Ident 129 130 (codes "g")) ∷ (tok Operator 130 131 (codes "(")) ∷ (tok Operator 131 132 (codes ")")) ∷ (tok Ident 133 136 (codes "int")) ∷ (tok Operator 137 138 (codes "{")) ∷ (tok Ident 139 146 (codes "println")) ∷ (tok Operator 146 147 (codes "(")) ∷ (tok Str 147 150 (codes "\"g\"")) ∷ (tok Operator 150 151 (codes ")")) ∷ (tok Operator 151 152 (codes ";")) ∷ (tok Keyword 153 159 (codes "return")) ∷ (tok Integer 160 161 (codes "1")) ∷ (tok Operator 162 163 (codes "}")) ∷ (tok Inserted 163 163 (codes ";")) ∷ (tok Keyword 165 169 (codes "func")) ∷ (tok Ident 170 171 (codes "h")) ∷ (tok Operator 171 172 (codes "(")) ∷ (tok Operator 172 173 (codes ")")) ∷ (tok Ident 174 177 (codes "int")) ∷ (tok Operator 178 179 (codes "{")) ∷ (tok Ident 180 187 (codes "println")) ∷ (tok Operator 187 188 (codes "(")) ∷ (tok Str 188 191 (codes "\"h\"")) ∷ (tok Operator 191 192 (codes ")")) ∷ (tok Operator 192 193 (codes ";")) ∷ (tok Keyword 194 200 (codes "return")) ∷ (tok Integer 201 202 (codes "1")) ∷ (tok Operator 203 204 (codes "}")) ∷ (tok Inserted 204 204 (codes ";")) ∷ (tok Keyword 206 210 (codes "func")) ∷ (tok Ident 211 215 (codes "main")) ∷ (tok Operator 215 216 (codes "(")) ∷ (tok Operator 216 217 (codes ")")) ∷ (tok Operator 218 219 (codes "{")) ∷ (tok Operator 221 222 (codes "{")) ∷ (tok Ident 225 226 (codes "a")) ∷ (tok Operator 227 229 (codes ":=")) ∷ (tok Ident 230 231 (codes "h")) ∷ (tok Operator 231 232 (codes "(")) ∷ (tok Operator 232 233 (codes ")")) ∷ (tok Inserted 233 233 (codes ";")) ∷ (tok Ident 236 243 (codes "println")) ∷ (tok Operator 243 244 (codes "(")) ∷ (tok Ident 244 245 (codes "v")) ∷ (tok Operator 245 246 (codes ",")) ∷ (tok Ident 247 248 (codes "a")) ∷ (tok Operator 248 249 (codes ")")) ∷ (tok Inserted 249 249 (codes ";")) ∷ (tok Operator 251 252 (codes "}")) ∷ (tok Inserted 252 252 (codes ";")) ∷ (tok Operator 253 254 (codes "}")) ∷ (tok Inserted 254 254 (codes ";")) ∷ [])) ≡ Some (acts_then_looks_1_f0, [])
unfolding reading
acts_then_looks_1_f0_read = refl

abbrev acts_then_looks_1 : Module
acts_then_looks_1 = record { packages = (pack (codes "example.com/m") (codes "main") (source (codes "main.go") acts_then_looks_1_f0 ∷ []) ∷ []); marks = (mark 0 0 1 0 ∷ []); texts = (((codes "main.go"), record { text = (codes "package main\n\nvar v = 1\n\n//go:fix inline\nfunc Show(a, b int) { println(b, a) }\n\nfunc next() int { println(\"n\"); return 1 }\n\nfunc g() int { println(\"g\"); return 1 }\n\nfunc h() int { println(\"h\"); return 1 }\n\nfunc main() {\n\t{\n\t\ta := h()\n\t\tprintln(v, a)\n\t}\n}\n"); tokens = ((tok Keyword 0 7 (codes "package")) ∷ (tok Ident 8 12 (codes "main")) ∷ (tok Inserted 12 12 (codes ";")) ∷ (tok Keyword 14 17 (codes "var")) ∷ (tok Ident 18 19 (codes "v")) ∷ (tok Operator 20 21 (codes "=")) ∷ (tok Integer 22 23 (codes "1")) ∷ (tok Inserted 23 23 (codes ";")) ∷ (tok Keyword 41 45 (codes "func")) ∷ (tok Ident 46 50 (codes "Show")) ∷ (tok Operator 50 51 (codes "(")) ∷ (tok Ident 51 52 (codes "a")) ∷ (tok Operator 52 53 (codes ",")) ∷ (tok Ident 54 55 (codes "b")) ∷ (tok Ident 56 59 (codes "int")) ∷ (tok Operator 59 60 (codes ")")) ∷ (tok Operator 61 62 (codes "{")) ∷ (tok Ident 63 70 (codes "println")) ∷ (tok Operator 70 71 (codes "(")) ∷ (tok Ident 71 72 (codes "b")) ∷ (tok Operator 72 73 (codes ",")) ∷ (tok Ident 74 75 (codes "a")) ∷ (tok Operator 75 76 (codes ")")) ∷ (tok Operator 77 78 (codes "}")) ∷ (tok Inserted 78 78 (codes ";")) ∷ (tok Keyword 80 84 (codes "func")) ∷ (tok Ident 85 89 (codes "next")) ∷ (tok Operator 89 90 (codes "(")) ∷ (tok Operator 90 91 (codes ")")) ∷ (tok Ident 92 95 (codes "int")) ∷ (tok Operator 96 97 (codes "{")) ∷ (tok Ident 98 105 (codes "println")) ∷ (tok Operator 105 106 (codes "(")) ∷ (tok Str 106 109 (codes "\"n\"")) ∷ (tok Operator 109 110 (codes ")")) ∷ (tok Operator 110 111 (codes ";")) ∷ (tok Keyword 112 118 (codes "return")) ∷ (tok Integer 119 120 (codes "1")) ∷ (tok Operator 121 122 (codes "}")) ∷ (tok Inserted 122 122 (codes ";")) ∷ (tok Keyword 124 128 (codes "func")) ∷ (tok Ident 129 130 (codes "g")) ∷ (tok Operator 130 131 (codes "(")) ∷ (tok Operator 131 132 (codes ")")) ∷ (tok Ident 133 136 (codes "int")) ∷ (tok Operator 137 138 (codes "{")) ∷ (tok Ident 139 146 (codes "println")) ∷ (tok Operator 146 147 (codes "(")) ∷ (tok Str 147 150 (codes "\"g\"")) ∷ (tok Operator 150 151 (codes ")")) ∷ (tok Operator 151 152 (codes ";")) ∷ (tok Keyword 153 159 (codes "return")) ∷ (tok Integer 160 161 (codes "1")) ∷ (tok Operator 162 163 (codes "}")) ∷ (tok Inserted 163 163 (codes ";")) ∷ (tok Keyword 165 169 (codes "func")) ∷ (tok Ident 170 171 (codes "h")) ∷ (tok Operator 171 172 (codes "(")) ∷ (tok Operator 172 173 (codes ")")) ∷ (tok Ident 174 177 (codes "int")) ∷ (tok Operator 178 179 (codes "{")) ∷ (tok Ident 180 187 (codes "println")) ∷ (tok Operator 187 188 (codes "(")) ∷ (tok Str 188 191 (codes "\"h\"")) ∷ (tok Operator 191 192 (codes ")")) ∷ (tok Operator 192 193 (codes ";")) ∷ (tok Keyword 194 200 (codes "return")) ∷ (tok Integer 201 202 (codes "1")) ∷ (tok Operator 203 204 (codes "}")) ∷ (tok Inserted 204 204 (codes ";")) ∷ (tok Keyword 206 210 (codes "func")) ∷ (tok Ident 211 215 (codes "main")) ∷ (tok Operator 215 216 (codes "(")) ∷ (tok Operator 216 217 (codes ")")) ∷ (tok Operator 218 219 (codes "{")) ∷ (tok Operator 221 222 (codes "{")) ∷ (tok Ident 225 226 (codes "a")) ∷ (tok Operator 227 229 (codes ":=")) ∷ (tok Ident 230 231 (codes "h")) ∷ (tok Operator 231 232 (codes "(")) ∷ (tok Operator 232 233 (codes ")")) ∷ (tok Inserted 233 233 (codes ";")) ∷ (tok Ident 236 243 (codes "println")) ∷ (tok Operator 243 244 (codes "(")) ∷ (tok Ident 244 245 (codes "v")) ∷ (tok Operator 245 246 (codes ",")) ∷ (tok Ident 247 248 (codes "a")) ∷ (tok Operator 248 249 (codes ")")) ∷ (tok Inserted 249 249 (codes ";")) ∷ (tok Operator 251 252 (codes "}")) ∷ (tok Inserted 252 252 (codes ";")) ∷ (tok Operator 253 254 (codes "}")) ∷ (tok Inserted 254 254 (codes ";")) ∷ []); comments = ((note 25 40) ∷ []) }) ∷ []) }

acts_then_looks_1_typed : is_typed acts_then_looks_1 ≡ true
acts_then_looks_1_typed = refl

acts_then_looks_1_ends : step_of acts_then_looks_1 ≡ None
acts_then_looks_1_ends = refl

acts_then_looks_1_kept : kept_uses acts_then_looks_1 ≡ []
acts_then_looks_1_kept = refl

-- What may panic is evaluated where it stood.
abbrev pointer_target_0_f0 : File Span
pointer_target_0_f0 = record { package_name = (nm 8 12 (codes "main")); imports = []; decls = ((fn (at 30 62) None (nm 35 38 (codes "Get")) (sig ((param (at 39 44) (Some (nm 39 40 (codes "p"))) (named (at 41 44) None (nm 41 44 (codes "int")))) ∷ []) ((param (at 46 49) None (named (at 46 49) None (nm 46 49 (codes "int")))) ∷ [])) (at 50 62) (stmt_and (return_ (at 52 60) (expr_and (ident (at 59 60) (codes "p")) no_exprs)) no_stmts)) ∷ (fn (at 64 114) None (nm 69 73 (codes "main")) (sig [] []) (at 76 114) (stmt_and (define (at 79 85) ((nm 79 80 (codes "x")) ∷ []) (expr_and (int_lit (at 84 85) (codes "1")) no_exprs)) (stmt_and (define (at 87 94) ((nm 87 88 (codes "p")) ∷ []) (expr_and (unary (at 92 94) Address (ident (at 93 94) (codes "x"))) no_exprs)) (stmt_and (eval (at 96 112) (call (at 96 112) (ident (at 96 103) (codes "println")) (expr_and (call (at 104 111) (ident (at 104 107) (codes "Get")) (expr_and (star (at 108 110) (ident (at 109 110) (codes "p"))) no_exprs) Plain) no_exprs) Plain)) no_stmts)))) ∷ []) }

pointer_target_0_f0_read : read_at span_to read_front (lexemes ((tok Keyword 0 7 (codes "package")) ∷ (tok Ident 8 12 (codes "main")) ∷ (tok Inserted 12 12 (codes ";")) ∷ (tok Keyword 30 34 (codes "func")) ∷ (tok Ident 35 38 (codes "Get")) ∷ (tok Operator 38 39 (codes "(")) ∷ (tok Ident 39 40 (codes "p")) ∷ (tok Ident 41 44 (codes "int")) ∷ (tok Operator 44 45 (codes ")")) ∷ (tok Ident 46 49 (codes "int")) ∷ (tok Operator 50 51 (codes "{")) ∷ (tok Keyword 52 58 (codes "return")) ∷ (tok Ident 59 60 (codes "p")) ∷ (tok Operator 61 62 (codes "}")) ∷ (tok Inserted 62 62 (codes ";")) ∷ (tok Keyword 64 68 (codes "func")) ∷ (tok Ident 69 73 (codes "main")) ∷ (tok Operator 73 74 (codes "(")) ∷ (tok Operator 74 75 (codes ")")) ∷ (tok Operator 76 77 (codes "{")) ∷ (tok Ident 79 80 (codes "x")) ∷ (tok Operator 81 83 (codes ":=")) ∷ (tok Integer 84 85 (codes "1")) ∷ (tok Inserted 85 85 (codes ";")) ∷ (tok Ident 87 88 (codes "p")) ∷ (tok Operator 89 91 (codes ":=")) ∷ (tok Operator 92 93 (codes "&")) ∷ (tok Ident 93 94 (codes "x")) ∷ (tok Inserted 94 94 (codes ";")) ∷ (tok Ident 96 103 (codes "println")) ∷ (tok Operator 103 104 (codes "(")) ∷ (tok Ident 104 107 (codes "Get")) ∷ (tok Operator 107 108 (codes "(")) ∷ (tok Operator 108 109 (codes "*")) ∷ (tok Ident 109 110 (codes "p")) ∷ (tok Operator 110 111 (codes ")")) ∷ (tok Operator 111 112 (codes ")")) ∷ (tok Inserted 112 112 (codes ";")) ∷ (tok Operator 113 114 (codes "}")) ∷ (tok Inserted 114 114 (codes ";")) ∷ [])) ≡ Some (pointer_target_0_f0, [])
unfolding reading
pointer_target_0_f0_read = refl

abbrev pointer_target_0 : Module
pointer_target_0 = record { packages = (pack (codes "example.com/m") (codes "main") (source (codes "main.go") pointer_target_0_f0 ∷ []) ∷ []); marks = (mark 0 0 0 0 ∷ []); texts = (((codes "main.go"), record { text = (codes "package main\n\n//go:fix inline\nfunc Get(p int) int { return p }\n\nfunc main() {\n\tx := 1\n\tp := &x\n\tprintln(Get(*p))\n}\n"); tokens = ((tok Keyword 0 7 (codes "package")) ∷ (tok Ident 8 12 (codes "main")) ∷ (tok Inserted 12 12 (codes ";")) ∷ (tok Keyword 30 34 (codes "func")) ∷ (tok Ident 35 38 (codes "Get")) ∷ (tok Operator 38 39 (codes "(")) ∷ (tok Ident 39 40 (codes "p")) ∷ (tok Ident 41 44 (codes "int")) ∷ (tok Operator 44 45 (codes ")")) ∷ (tok Ident 46 49 (codes "int")) ∷ (tok Operator 50 51 (codes "{")) ∷ (tok Keyword 52 58 (codes "return")) ∷ (tok Ident 59 60 (codes "p")) ∷ (tok Operator 61 62 (codes "}")) ∷ (tok Inserted 62 62 (codes ";")) ∷ (tok Keyword 64 68 (codes "func")) ∷ (tok Ident 69 73 (codes "main")) ∷ (tok Operator 73 74 (codes "(")) ∷ (tok Operator 74 75 (codes ")")) ∷ (tok Operator 76 77 (codes "{")) ∷ (tok Ident 79 80 (codes "x")) ∷ (tok Operator 81 83 (codes ":=")) ∷ (tok Integer 84 85 (codes "1")) ∷ (tok Inserted 85 85 (codes ";")) ∷ (tok Ident 87 88 (codes "p")) ∷ (tok Operator 89 91 (codes ":=")) ∷ (tok Operator 92 93 (codes "&")) ∷ (tok Ident 93 94 (codes "x")) ∷ (tok Inserted 94 94 (codes ";")) ∷ (tok Ident 96 103 (codes "println")) ∷ (tok Operator 103 104 (codes "(")) ∷ (tok Ident 104 107 (codes "Get")) ∷ (tok Operator 107 108 (codes "(")) ∷ (tok Operator 108 109 (codes "*")) ∷ (tok Ident 109 110 (codes "p")) ∷ (tok Operator 110 111 (codes ")")) ∷ (tok Operator 111 112 (codes ")")) ∷ (tok Inserted 112 112 (codes ";")) ∷ (tok Operator 113 114 (codes "}")) ∷ (tok Inserted 114 114 (codes ";")) ∷ []); comments = ((note 14 29) ∷ []) }) ∷ []) }

pointer_target_0_typed : is_typed pointer_target_0 ≡ true
pointer_target_0_typed = refl

pointer_target_0_step : first_change pointer_target_0 ≡ Some ((codes "main.go"), ExprForm, (codes "package main\n\n//go:fix inline\nfunc Get(p int) int { return p }\n\nfunc main() {\n\tx := 1\n\tp := &x\n\tprintln(*p)\n}\n"))
pointer_target_0_step = refl

abbrev pointer_target_1_f0 : File Span
pointer_target_1_f0 = record { package_name = (nm 8 12 (codes "main")); imports = []; decls = ((fn (at 30 62) None (nm 35 38 (codes "Get")) (sig ((param (at 39 44) (Some (nm 39 40 (codes "p"))) (named (at 41 44) None (nm 41 44 (codes "int")))) ∷ []) ((param (at 46 49) None (named (at 46 49) None (nm 46 49 (codes "int")))) ∷ [])) (at 50 62) (stmt_and (return_ (at 52 60) (expr_and (ident (at 59 60) (codes "p")) no_exprs)) no_stmts)) ∷ (fn (at 64 109) None (nm 69 73 (codes "main")) (sig [] []) (at 76 109) (stmt_and (define (at 79 85) ((nm 79 80 (codes "x")) ∷ []) (expr_and (int_lit (at 84 85) (codes "1")) no_exprs)) (stmt_and (define (at 87 94) ((nm 87 88 (codes "p")) ∷ []) (expr_and (unary (at 92 94) Address (ident (at 93 94) (codes "x"))) no_exprs)) (stmt_and (eval (at 96 107) (call (at 96 107) (ident (at 96 103) (codes "println")) (expr_and (star (at 104 106) (ident (at 105 106) (codes "p"))) no_exprs) Plain)) no_stmts)))) ∷ []) }

pointer_target_1_f0_read : read_at span_to read_front (lexemes ((tok Keyword 0 7 (codes "package")) ∷ (tok Ident 8 12 (codes "main")) ∷ (tok Inserted 12 12 (codes ";")) ∷ (tok Keyword 30 34 (codes "func")) ∷ (tok Ident 35 38 (codes "Get")) ∷ (tok Operator 38 39 (codes "(")) ∷ (tok Ident 39 40 (codes "p")) ∷ (tok Ident 41 44 (codes "int")) ∷ (tok Operator 44 45 (codes ")")) ∷ (tok Ident 46 49 (codes "int")) ∷ (tok Operator 50 51 (codes "{")) ∷ (tok Keyword 52 58 (codes "return")) ∷ (tok Ident 59 60 (codes "p")) ∷ (tok Operator 61 62 (codes "}")) ∷ (tok Inserted 62 62 (codes ";")) ∷ (tok Keyword 64 68 (codes "func")) ∷ (tok Ident 69 73 (codes "main")) ∷ (tok Operator 73 74 (codes "(")) ∷ (tok Operator 74 75 (codes ")")) ∷ (tok Operator 76 77 (codes "{")) ∷ (tok Ident 79 80 (codes "x")) ∷ (tok Operator 81 83 (codes ":=")) ∷ (tok Integer 84 85 (codes "1")) ∷ (tok Inserted 85 85 (codes ";")) ∷ (tok Ident 87 88 (codes "p")) ∷ (tok Operator 89 91 (codes ":=")) ∷ (tok Operator 92 93 (codes "&")) ∷ (tok Ident 93 94 (codes "x")) ∷ (tok Inserted 94 94 (codes ";")) ∷ (tok Ident 96 103 (codes "println")) ∷ (tok Operator 103 104 (codes "(")) ∷ (tok Operator 104 105 (codes "*")) ∷ (tok Ident 105 106 (codes "p")) ∷ (tok Operator 106 107 (codes ")")) ∷ (tok Inserted 107 107 (codes ";")) ∷ (tok Operator 108 109 (codes "}")) ∷ (tok Inserted 109 109 (codes ";")) ∷ [])) ≡ Some (pointer_target_1_f0, [])
unfolding reading
pointer_target_1_f0_read = refl

abbrev pointer_target_1 : Module
pointer_target_1 = record { packages = (pack (codes "example.com/m") (codes "main") (source (codes "main.go") pointer_target_1_f0 ∷ []) ∷ []); marks = (mark 0 0 0 0 ∷ []); texts = (((codes "main.go"), record { text = (codes "package main\n\n//go:fix inline\nfunc Get(p int) int { return p }\n\nfunc main() {\n\tx := 1\n\tp := &x\n\tprintln(*p)\n}\n"); tokens = ((tok Keyword 0 7 (codes "package")) ∷ (tok Ident 8 12 (codes "main")) ∷ (tok Inserted 12 12 (codes ";")) ∷ (tok Keyword 30 34 (codes "func")) ∷ (tok Ident 35 38 (codes "Get")) ∷ (tok Operator 38 39 (codes "(")) ∷ (tok Ident 39 40 (codes "p")) ∷ (tok Ident 41 44 (codes "int")) ∷ (tok Operator 44 45 (codes ")")) ∷ (tok Ident 46 49 (codes "int")) ∷ (tok Operator 50 51 (codes "{")) ∷ (tok Keyword 52 58 (codes "return")) ∷ (tok Ident 59 60 (codes "p")) ∷ (tok Operator 61 62 (codes "}")) ∷ (tok Inserted 62 62 (codes ";")) ∷ (tok Keyword 64 68 (codes "func")) ∷ (tok Ident 69 73 (codes "main")) ∷ (tok Operator 73 74 (codes "(")) ∷ (tok Operator 74 75 (codes ")")) ∷ (tok Operator 76 77 (codes "{")) ∷ (tok Ident 79 80 (codes "x")) ∷ (tok Operator 81 83 (codes ":=")) ∷ (tok Integer 84 85 (codes "1")) ∷ (tok Inserted 85 85 (codes ";")) ∷ (tok Ident 87 88 (codes "p")) ∷ (tok Operator 89 91 (codes ":=")) ∷ (tok Operator 92 93 (codes "&")) ∷ (tok Ident 93 94 (codes "x")) ∷ (tok Inserted 94 94 (codes ";")) ∷ (tok Ident 96 103 (codes "println")) ∷ (tok Operator 103 104 (codes "(")) ∷ (tok Operator 104 105 (codes "*")) ∷ (tok Ident 105 106 (codes "p")) ∷ (tok Operator 106 107 (codes ")")) ∷ (tok Inserted 107 107 (codes ";")) ∷ (tok Operator 108 109 (codes "}")) ∷ (tok Inserted 109 109 (codes ";")) ∷ []); comments = ((note 14 29) ∷ []) }) ∷ []) }

pointer_target_1_typed : is_typed pointer_target_1 ≡ true
pointer_target_1_typed = refl

pointer_target_1_ends : step_of pointer_target_1 ≡ None
pointer_target_1_ends = refl

pointer_target_1_kept : kept_uses pointer_target_1 ≡ []
pointer_target_1_kept = refl

-- A field of a name may be written twice.
abbrev twice_field_0_f0 : File Span
twice_field_0_f0 = record { package_name = (nm 8 12 (codes "main")); imports = []; decls = ((types (at 14 36) false ((tspec (at 19 36) (nm 19 20 (codes "P")) false (struct_type (at 21 36) (field (at 29 34) (nm 29 30 (codes "x")) (named (at 31 34) None (nm 31 34 (codes "int"))) no_fields))) ∷ [])) ∷ (fn (at 54 92) None (nm 59 64 (codes "Twice")) (sig ((param (at 65 70) (Some (nm 65 66 (codes "x"))) (named (at 67 70) None (nm 67 70 (codes "int")))) ∷ []) ((param (at 72 75) None (named (at 72 75) None (nm 72 75 (codes "int")))) ∷ [])) (at 76 92) (stmt_and (return_ (at 78 90) (expr_and (binary (at 85 90) Add (ident (at 85 86) (codes "x")) (ident (at 89 90) (codes "x"))) no_exprs)) no_stmts)) ∷ (fn (at 94 141) None (nm 99 103 (codes "main")) (sig [] []) (at 106 141) (stmt_and (define (at 109 118) ((nm 109 110 (codes "p")) ∷ []) (expr_and (composite (at 114 118) (named (at 114 115) None (nm 114 115 (codes "P"))) (elem (at 116 117) no_value (plain (int_lit (at 116 117) (codes "1"))) no_elems)) no_exprs)) (stmt_and (eval (at 120 139) (call (at 120 139) (ident (at 120 127) (codes "println")) (expr_and (call (at 128 138) (ident (at 128 133) (codes "Twice")) (expr_and (selector (at 134 137) (ident (at 134 135) (codes "p")) (nm 136 137 (codes "x"))) no_exprs) Plain) no_exprs) Plain)) no_stmts))) ∷ []) }

twice_field_0_f0_read : read_at span_to read_front (lexemes ((tok Keyword 0 7 (codes "package")) ∷ (tok Ident 8 12 (codes "main")) ∷ (tok Inserted 12 12 (codes ";")) ∷ (tok Keyword 14 18 (codes "type")) ∷ (tok Ident 19 20 (codes "P")) ∷ (tok Keyword 21 27 (codes "struct")) ∷ (tok Operator 27 28 (codes "{")) ∷ (tok Ident 29 30 (codes "x")) ∷ (tok Ident 31 34 (codes "int")) ∷ (tok Operator 35 36 (codes "}")) ∷ (tok Inserted 36 36 (codes ";")) ∷ (tok Keyword 54 58 (codes "func")) ∷ (tok Ident 59 64 (codes "Twice")) ∷ (tok Operator 64 65 (codes "(")) ∷ (tok Ident 65 66 (codes "x")) ∷ (tok Ident 67 70 (codes "int")) ∷ (tok Operator 70 71 (codes ")")) ∷ (tok Ident 72 75 (codes "int")) ∷ (tok Operator 76 77 (codes "{")) ∷ (tok Keyword 78 84 (codes "return")) ∷ (tok Ident 85 86 (codes "x")) ∷ (tok Operator 87 88 (codes "+")) ∷ (tok Ident 89 90 (codes "x")) ∷ (tok Operator 91 92 (codes "}")) ∷ (tok Inserted 92 92 (codes ";")) ∷ (tok Keyword 94 98 (codes "func")) ∷ (tok Ident 99 103 (codes "main")) ∷ (tok Operator 103 104 (codes "(")) ∷ (tok Operator 104 105 (codes ")")) ∷ (tok Operator 106 107 (codes "{")) ∷ (tok Ident 109 110 (codes "p")) ∷ (tok Operator 111 113 (codes ":=")) ∷ (tok Ident 114 115 (codes "P")) ∷ (tok Operator 115 116 (codes "{")) ∷ (tok Integer 116 117 (codes "1")) ∷ (tok Operator 117 118 (codes "}")) ∷ (tok Inserted 118 118 (codes ";")) ∷ (tok Ident 120 127 (codes "println")) ∷ (tok Operator 127 128 (codes "(")) ∷ (tok Ident 128 133 (codes "Twice")) ∷ (tok Operator 133 134 (codes "(")) ∷ (tok Ident 134 135 (codes "p")) ∷ (tok Operator 135 136 (codes ".")) ∷ (tok Ident 136 137 (codes "x")) ∷ (tok Operator 137 138 (codes ")")) ∷ (tok Operator 138 139 (codes ")")) ∷ (tok Inserted 139 139 (codes ";")) ∷ (tok Operator 140 141 (codes "}")) ∷ (tok Inserted 141 141 (codes ";")) ∷ [])) ≡ Some (twice_field_0_f0, [])
unfolding reading
twice_field_0_f0_read = refl

abbrev twice_field_0 : Module
twice_field_0 = record { packages = (pack (codes "example.com/m") (codes "main") (source (codes "main.go") twice_field_0_f0 ∷ []) ∷ []); marks = (mark 0 0 1 0 ∷ []); texts = (((codes "main.go"), record { text = (codes "package main\n\ntype P struct{ x int }\n\n//go:fix inline\nfunc Twice(x int) int { return x + x }\n\nfunc main() {\n\tp := P{1}\n\tprintln(Twice(p.x))\n}\n"); tokens = ((tok Keyword 0 7 (codes "package")) ∷ (tok Ident 8 12 (codes "main")) ∷ (tok Inserted 12 12 (codes ";")) ∷ (tok Keyword 14 18 (codes "type")) ∷ (tok Ident 19 20 (codes "P")) ∷ (tok Keyword 21 27 (codes "struct")) ∷ (tok Operator 27 28 (codes "{")) ∷ (tok Ident 29 30 (codes "x")) ∷ (tok Ident 31 34 (codes "int")) ∷ (tok Operator 35 36 (codes "}")) ∷ (tok Inserted 36 36 (codes ";")) ∷ (tok Keyword 54 58 (codes "func")) ∷ (tok Ident 59 64 (codes "Twice")) ∷ (tok Operator 64 65 (codes "(")) ∷ (tok Ident 65 66 (codes "x")) ∷ (tok Ident 67 70 (codes "int")) ∷ (tok Operator 70 71 (codes ")")) ∷ (tok Ident 72 75 (codes "int")) ∷ (tok Operator 76 77 (codes "{")) ∷ (tok Keyword 78 84 (codes "return")) ∷ (tok Ident 85 86 (codes "x")) ∷ (tok Operator 87 88 (codes "+")) ∷ (tok Ident 89 90 (codes "x")) ∷ (tok Operator 91 92 (codes "}")) ∷ (tok Inserted 92 92 (codes ";")) ∷ (tok Keyword 94 98 (codes "func")) ∷ (tok Ident 99 103 (codes "main")) ∷ (tok Operator 103 104 (codes "(")) ∷ (tok Operator 104 105 (codes ")")) ∷ (tok Operator 106 107 (codes "{")) ∷ (tok Ident 109 110 (codes "p")) ∷ (tok Operator 111 113 (codes ":=")) ∷ (tok Ident 114 115 (codes "P")) ∷ (tok Operator 115 116 (codes "{")) ∷ (tok Integer 116 117 (codes "1")) ∷ (tok Operator 117 118 (codes "}")) ∷ (tok Inserted 118 118 (codes ";")) ∷ (tok Ident 120 127 (codes "println")) ∷ (tok Operator 127 128 (codes "(")) ∷ (tok Ident 128 133 (codes "Twice")) ∷ (tok Operator 133 134 (codes "(")) ∷ (tok Ident 134 135 (codes "p")) ∷ (tok Operator 135 136 (codes ".")) ∷ (tok Ident 136 137 (codes "x")) ∷ (tok Operator 137 138 (codes ")")) ∷ (tok Operator 138 139 (codes ")")) ∷ (tok Inserted 139 139 (codes ";")) ∷ (tok Operator 140 141 (codes "}")) ∷ (tok Inserted 141 141 (codes ";")) ∷ []); comments = ((note 38 53) ∷ []) }) ∷ []) }

twice_field_0_typed : is_typed twice_field_0 ≡ true
twice_field_0_typed = refl

twice_field_0_step : first_change twice_field_0 ≡ Some ((codes "main.go"), ExprForm, (codes "package main\n\ntype P struct{ x int }\n\n//go:fix inline\nfunc Twice(x int) int { return x + x }\n\nfunc main() {\n\tp := P{1}\n\tprintln(p.x + p.x)\n}\n"))
twice_field_0_step = refl

abbrev twice_field_1_f0 : File Span
twice_field_1_f0 = record { package_name = (nm 8 12 (codes "main")); imports = []; decls = ((types (at 14 36) false ((tspec (at 19 36) (nm 19 20 (codes "P")) false (struct_type (at 21 36) (field (at 29 34) (nm 29 30 (codes "x")) (named (at 31 34) None (nm 31 34 (codes "int"))) no_fields))) ∷ [])) ∷ (fn (at 54 92) None (nm 59 64 (codes "Twice")) (sig ((param (at 65 70) (Some (nm 65 66 (codes "x"))) (named (at 67 70) None (nm 67 70 (codes "int")))) ∷ []) ((param (at 72 75) None (named (at 72 75) None (nm 72 75 (codes "int")))) ∷ [])) (at 76 92) (stmt_and (return_ (at 78 90) (expr_and (binary (at 85 90) Add (ident (at 85 86) (codes "x")) (ident (at 89 90) (codes "x"))) no_exprs)) no_stmts)) ∷ (fn (at 94 140) None (nm 99 103 (codes "main")) (sig [] []) (at 106 140) (stmt_and (define (at 109 118) ((nm 109 110 (codes "p")) ∷ []) (expr_and (composite (at 114 118) (named (at 114 115) None (nm 114 115 (codes "P"))) (elem (at 116 117) no_value (plain (int_lit (at 116 117) (codes "1"))) no_elems)) no_exprs)) (stmt_and (eval (at 120 138) (call (at 120 138) (ident (at 120 127) (codes "println")) (expr_and (binary (at 128 137) Add (selector (at 128 131) (ident (at 128 129) (codes "p")) (nm 130 131 (codes "x"))) (selector (at 134 137) (ident (at 134 135) (codes "p")) (nm 136 137 (codes "x")))) no_exprs) Plain)) no_stmts))) ∷ []) }

twice_field_1_f0_read : read_at span_to read_front (lexemes ((tok Keyword 0 7 (codes "package")) ∷ (tok Ident 8 12 (codes "main")) ∷ (tok Inserted 12 12 (codes ";")) ∷ (tok Keyword 14 18 (codes "type")) ∷ (tok Ident 19 20 (codes "P")) ∷ (tok Keyword 21 27 (codes "struct")) ∷ (tok Operator 27 28 (codes "{")) ∷ (tok Ident 29 30 (codes "x")) ∷ (tok Ident 31 34 (codes "int")) ∷ (tok Operator 35 36 (codes "}")) ∷ (tok Inserted 36 36 (codes ";")) ∷ (tok Keyword 54 58 (codes "func")) ∷ (tok Ident 59 64 (codes "Twice")) ∷ (tok Operator 64 65 (codes "(")) ∷ (tok Ident 65 66 (codes "x")) ∷ (tok Ident 67 70 (codes "int")) ∷ (tok Operator 70 71 (codes ")")) ∷ (tok Ident 72 75 (codes "int")) ∷ (tok Operator 76 77 (codes "{")) ∷ (tok Keyword 78 84 (codes "return")) ∷ (tok Ident 85 86 (codes "x")) ∷ (tok Operator 87 88 (codes "+")) ∷ (tok Ident 89 90 (codes "x")) ∷ (tok Operator 91 92 (codes "}")) ∷ (tok Inserted 92 92 (codes ";")) ∷ (tok Keyword 94 98 (codes "func")) ∷ (tok Ident 99 103 (codes "main")) ∷ (tok Operator 103 104 (codes "(")) ∷ (tok Operator 104 105 (codes ")")) ∷ (tok Operator 106 107 (codes "{")) ∷ (tok Ident 109 110 (codes "p")) ∷ (tok Operator 111 113 (codes ":=")) ∷ (tok Ident 114 115 (codes "P")) ∷ (tok Operator 115 116 (codes "{")) ∷ (tok Integer 116 117 (codes "1")) ∷ (tok Operator 117 118 (codes "}")) ∷ (tok Inserted 118 118 (codes ";")) ∷ (tok Ident 120 127 (codes "println")) ∷ (tok Operator 127 128 (codes "(")) ∷ (tok Ident 128 129 (codes "p")) ∷ (tok Operator 129 130 (codes ".")) ∷ (tok Ident 130 131 (codes "x")) ∷ (tok Operator 132 133 (codes "+")) ∷ (tok Ident 134 135 (codes "p")) ∷ (tok Operator 135 136 (codes ".")) ∷ (tok Ident 136 137 (codes "x")) ∷ (tok Operator 137 138 (codes ")")) ∷ (tok Inserted 138 138 (codes ";")) ∷ (tok Operator 139 140 (codes "}")) ∷ (tok Inserted 140 140 (codes ";")) ∷ [])) ≡ Some (twice_field_1_f0, [])
unfolding reading
twice_field_1_f0_read = refl

abbrev twice_field_1 : Module
twice_field_1 = record { packages = (pack (codes "example.com/m") (codes "main") (source (codes "main.go") twice_field_1_f0 ∷ []) ∷ []); marks = (mark 0 0 1 0 ∷ []); texts = (((codes "main.go"), record { text = (codes "package main\n\ntype P struct{ x int }\n\n//go:fix inline\nfunc Twice(x int) int { return x + x }\n\nfunc main() {\n\tp := P{1}\n\tprintln(p.x + p.x)\n}\n"); tokens = ((tok Keyword 0 7 (codes "package")) ∷ (tok Ident 8 12 (codes "main")) ∷ (tok Inserted 12 12 (codes ";")) ∷ (tok Keyword 14 18 (codes "type")) ∷ (tok Ident 19 20 (codes "P")) ∷ (tok Keyword 21 27 (codes "struct")) ∷ (tok Operator 27 28 (codes "{")) ∷ (tok Ident 29 30 (codes "x")) ∷ (tok Ident 31 34 (codes "int")) ∷ (tok Operator 35 36 (codes "}")) ∷ (tok Inserted 36 36 (codes ";")) ∷ (tok Keyword 54 58 (codes "func")) ∷ (tok Ident 59 64 (codes "Twice")) ∷ (tok Operator 64 65 (codes "(")) ∷ (tok Ident 65 66 (codes "x")) ∷ (tok Ident 67 70 (codes "int")) ∷ (tok Operator 70 71 (codes ")")) ∷ (tok Ident 72 75 (codes "int")) ∷ (tok Operator 76 77 (codes "{")) ∷ (tok Keyword 78 84 (codes "return")) ∷ (tok Ident 85 86 (codes "x")) ∷ (tok Operator 87 88 (codes "+")) ∷ (tok Ident 89 90 (codes "x")) ∷ (tok Operator 91 92 (codes "}")) ∷ (tok Inserted 92 92 (codes ";")) ∷ (tok Keyword 94 98 (codes "func")) ∷ (tok Ident 99 103 (codes "main")) ∷ (tok Operator 103 104 (codes "(")) ∷ (tok Operator 104 105 (codes ")")) ∷ (tok Operator 106 107 (codes "{")) ∷ (tok Ident 109 110 (codes "p")) ∷ (tok Operator 111 113 (codes ":=")) ∷ (tok Ident 114 115 (codes "P")) ∷ (tok Operator 115 116 (codes "{")) ∷ (tok Integer 116 117 (codes "1")) ∷ (tok Operator 117 118 (codes "}")) ∷ (tok Inserted 118 118 (codes ";")) ∷ (tok Ident 120 127 (codes "println")) ∷ (tok Operator 127 128 (codes "(")) ∷ (tok Ident 128 129 (codes "p")) ∷ (tok Operator 129 130 (codes ".")) ∷ (tok Ident 130 131 (codes "x")) ∷ (tok Operator 132 133 (codes "+")) ∷ (tok Ident 134 135 (codes "p")) ∷ (tok Operator 135 136 (codes ".")) ∷ (tok Ident 136 137 (codes "x")) ∷ (tok Operator 137 138 (codes ")")) ∷ (tok Inserted 138 138 (codes ";")) ∷ (tok Operator 139 140 (codes "}")) ∷ (tok Inserted 140 140 (codes ";")) ∷ []); comments = ((note 38 53) ∷ []) }) ∷ []) }

twice_field_1_typed : is_typed twice_field_1 ≡ true
twice_field_1_typed = refl

twice_field_1_ends : step_of twice_field_1 ≡ None
twice_field_1_ends = refl

twice_field_1_kept : kept_uses twice_field_1 ≡ []
twice_field_1_kept = refl

-- A field of a field is not written twice.
abbrev nested_selector_0_f0 : File Span
nested_selector_0_f0 = record { package_name = (nm 8 12 (codes "main")); imports = []; decls = ((types (at 14 48) false ((tspec (at 19 48) (nm 19 20 (codes "P")) false (struct_type (at 21 48) (field (at 29 46) (nm 29 30 (codes "q")) (struct_type (at 31 46) (field (at 39 44) (nm 39 40 (codes "x")) (named (at 41 44) None (nm 41 44 (codes "int"))) no_fields)) no_fields))) ∷ [])) ∷ (fn (at 66 104) None (nm 71 76 (codes "Twice")) (sig ((param (at 77 82) (Some (nm 77 78 (codes "x"))) (named (at 79 82) None (nm 79 82 (codes "int")))) ∷ []) ((param (at 84 87) None (named (at 84 87) None (nm 84 87 (codes "int")))) ∷ [])) (at 88 104) (stmt_and (return_ (at 90 102) (expr_and (binary (at 97 102) Add (ident (at 97 98) (codes "x")) (ident (at 101 102) (codes "x"))) no_exprs)) no_stmts)) ∷ (fn (at 106 153) None (nm 111 115 (codes "main")) (sig [] []) (at 118 153) (stmt_and (var_decl (at 121 128) false (spec (at 125 128) ((nm 125 126 (codes "p")) ∷ []) (Some (named (at 127 128) None (nm 127 128 (codes "P")))) no_exprs no_specs)) (stmt_and (eval (at 130 151) (call (at 130 151) (ident (at 130 137) (codes "println")) (expr_and (call (at 138 150) (ident (at 138 143) (codes "Twice")) (expr_and (selector (at 144 149) (selector (at 144 147) (ident (at 144 145) (codes "p")) (nm 146 147 (codes "q"))) (nm 148 149 (codes "x"))) no_exprs) Plain) no_exprs) Plain)) no_stmts))) ∷ []) }

nested_selector_0_f0_read : read_at span_to read_front (lexemes ((tok Keyword 0 7 (codes "package")) ∷ (tok Ident 8 12 (codes "main")) ∷ (tok Inserted 12 12 (codes ";")) ∷ (tok Keyword 14 18 (codes "type")) ∷ (tok Ident 19 20 (codes "P")) ∷ (tok Keyword 21 27 (codes "struct")) ∷ (tok Operator 27 28 (codes "{")) ∷ (tok Ident 29 30 (codes "q")) ∷ (tok Keyword 31 37 (codes "struct")) ∷ (tok Operator 37 38 (codes "{")) ∷ (tok Ident 39 40 (codes "x")) ∷ (tok Ident 41 44 (codes "int")) ∷ (tok Operator 45 46 (codes "}")) ∷ (tok Operator 47 48 (codes "}")) ∷ (tok Inserted 48 48 (codes ";")) ∷ (tok Keyword 66 70 (codes "func")) ∷ (tok Ident 71 76 (codes "Twice")) ∷ (tok Operator 76 77 (codes "(")) ∷ (tok Ident 77 78 (codes "x")) ∷ (tok Ident 79 82 (codes "int")) ∷ (tok Operator 82 83 (codes ")")) ∷ (tok Ident 84 87 (codes "int")) ∷ (tok Operator 88 89 (codes "{")) ∷ (tok Keyword 90 96 (codes "return")) ∷ (tok Ident 97 98 (codes "x")) ∷ (tok Operator 99 100 (codes "+")) ∷ (tok Ident 101 102 (codes "x")) ∷ (tok Operator 103 104 (codes "}")) ∷ (tok Inserted 104 104 (codes ";")) ∷ (tok Keyword 106 110 (codes "func")) ∷ (tok Ident 111 115 (codes "main")) ∷ (tok Operator 115 116 (codes "(")) ∷ (tok Operator 116 117 (codes ")")) ∷ (tok Operator 118 119 (codes "{")) ∷ (tok Keyword 121 124 (codes "var")) ∷ (tok Ident 125 126 (codes "p")) ∷ (tok Ident 127 128 (codes "P")) ∷ (tok Inserted 128 128 (codes ";")) ∷ (tok Ident 130 137 (codes "println")) ∷ (tok Operator 137 138 (codes "(")) ∷ (tok Ident 138 143 (codes "Twice")) ∷ (tok Operator 143 144 (codes "(")) ∷ (tok Ident 144 145 (codes "p")) ∷ (tok Operator 145 146 (codes ".")) ∷ (tok Ident 146 147 (codes "q")) ∷ (tok Operator 147 148 (codes ".")) ∷ (tok Ident 148 149 (codes "x")) ∷ (tok Operator 149 150 (codes ")")) ∷ (tok Operator 150 151 (codes ")")) ∷ (tok Inserted 151 151 (codes ";")) ∷ (tok Operator 152 153 (codes "}")) ∷ (tok Inserted 153 153 (codes ";")) ∷ [])) ≡ Some (nested_selector_0_f0, [])
unfolding reading
nested_selector_0_f0_read = refl

abbrev nested_selector_0 : Module
nested_selector_0 = record { packages = (pack (codes "example.com/m") (codes "main") (source (codes "main.go") nested_selector_0_f0 ∷ []) ∷ []); marks = (mark 0 0 1 0 ∷ []); texts = (((codes "main.go"), record { text = (codes "package main\n\ntype P struct{ q struct{ x int } }\n\n//go:fix inline\nfunc Twice(x int) int { return x + x }\n\nfunc main() {\n\tvar p P\n\tprintln(Twice(p.q.x))\n}\n"); tokens = ((tok Keyword 0 7 (codes "package")) ∷ (tok Ident 8 12 (codes "main")) ∷ (tok Inserted 12 12 (codes ";")) ∷ (tok Keyword 14 18 (codes "type")) ∷ (tok Ident 19 20 (codes "P")) ∷ (tok Keyword 21 27 (codes "struct")) ∷ (tok Operator 27 28 (codes "{")) ∷ (tok Ident 29 30 (codes "q")) ∷ (tok Keyword 31 37 (codes "struct")) ∷ (tok Operator 37 38 (codes "{")) ∷ (tok Ident 39 40 (codes "x")) ∷ (tok Ident 41 44 (codes "int")) ∷ (tok Operator 45 46 (codes "}")) ∷ (tok Operator 47 48 (codes "}")) ∷ (tok Inserted 48 48 (codes ";")) ∷ (tok Keyword 66 70 (codes "func")) ∷ (tok Ident 71 76 (codes "Twice")) ∷ (tok Operator 76 77 (codes "(")) ∷ (tok Ident 77 78 (codes "x")) ∷ (tok Ident 79 82 (codes "int")) ∷ (tok Operator 82 83 (codes ")")) ∷ (tok Ident 84 87 (codes "int")) ∷ (tok Operator 88 89 (codes "{")) ∷ (tok Keyword 90 96 (codes "return")) ∷ (tok Ident 97 98 (codes "x")) ∷ (tok Operator 99 100 (codes "+")) ∷ (tok Ident 101 102 (codes "x")) ∷ (tok Operator 103 104 (codes "}")) ∷ (tok Inserted 104 104 (codes ";")) ∷ (tok Keyword 106 110 (codes "func")) ∷ (tok Ident 111 115 (codes "main")) ∷ (tok Operator 115 116 (codes "(")) ∷ (tok Operator 116 117 (codes ")")) ∷ (tok Operator 118 119 (codes "{")) ∷ (tok Keyword 121 124 (codes "var")) ∷ (tok Ident 125 126 (codes "p")) ∷ (tok Ident 127 128 (codes "P")) ∷ (tok Inserted 128 128 (codes ";")) ∷ (tok Ident 130 137 (codes "println")) ∷ (tok Operator 137 138 (codes "(")) ∷ (tok Ident 138 143 (codes "Twice")) ∷ (tok Operator 143 144 (codes "(")) ∷ (tok Ident 144 145 (codes "p")) ∷ (tok Operator 145 146 (codes ".")) ∷ (tok Ident 146 147 (codes "q")) ∷ (tok Operator 147 148 (codes ".")) ∷ (tok Ident 148 149 (codes "x")) ∷ (tok Operator 149 150 (codes ")")) ∷ (tok Operator 150 151 (codes ")")) ∷ (tok Inserted 151 151 (codes ";")) ∷ (tok Operator 152 153 (codes "}")) ∷ (tok Inserted 153 153 (codes ";")) ∷ []); comments = ((note 50 65) ∷ []) }) ∷ []) }

nested_selector_0_typed : is_typed nested_selector_0 ≡ true
nested_selector_0_typed = refl

nested_selector_0_step : first_change nested_selector_0 ≡ Some ((codes "main.go"), LiteralForm, (codes "package main\n\ntype P struct{ q struct{ x int } }\n\n//go:fix inline\nfunc Twice(x int) int { return x + x }\n\nfunc main() {\n\tvar p P\n\tprintln(func(x int) int {\n\t\treturn x + x\n\t}(p.q.x))\n}\n"))
nested_selector_0_step = refl

abbrev nested_selector_1_f0 : File Span
nested_selector_1_f0 = record { package_name = (nm 8 12 (codes "main")); imports = []; decls = ((types (at 14 48) false ((tspec (at 19 48) (nm 19 20 (codes "P")) false (struct_type (at 21 48) (field (at 29 46) (nm 29 30 (codes "q")) (struct_type (at 31 46) (field (at 39 44) (nm 39 40 (codes "x")) (named (at 41 44) None (nm 41 44 (codes "int"))) no_fields)) no_fields))) ∷ [])) ∷ (fn (at 66 104) None (nm 71 76 (codes "Twice")) (sig ((param (at 77 82) (Some (nm 77 78 (codes "x"))) (named (at 79 82) None (nm 79 82 (codes "int")))) ∷ []) ((param (at 84 87) None (named (at 84 87) None (nm 84 87 (codes "int")))) ∷ [])) (at 88 104) (stmt_and (return_ (at 90 102) (expr_and (binary (at 97 102) Add (ident (at 97 98) (codes "x")) (ident (at 101 102) (codes "x"))) no_exprs)) no_stmts)) ∷ (fn (at 106 183) None (nm 111 115 (codes "main")) (sig [] []) (at 118 183) (stmt_and (var_decl (at 121 128) false (spec (at 125 128) ((nm 125 126 (codes "p")) ∷ []) (Some (named (at 127 128) None (nm 127 128 (codes "P")))) no_exprs no_specs)) (stmt_and (eval (at 130 181) (call (at 130 181) (ident (at 130 137) (codes "println")) (expr_and (call (at 138 180) (func_lit (at 138 173) (sig ((param (at 143 148) (Some (nm 143 144 (codes "x"))) (named (at 145 148) None (nm 145 148 (codes "int")))) ∷ []) ((param (at 150 153) None (named (at 150 153) None (nm 150 153 (codes "int")))) ∷ [])) (at 154 173) (stmt_and (return_ (at 158 170) (expr_and (binary (at 165 170) Add (ident (at 165 166) (codes "x")) (ident (at 169 170) (codes "x"))) no_exprs)) no_stmts)) (expr_and (selector (at 174 179) (selector (at 174 177) (ident (at 174 175) (codes "p")) (nm 176 177 (codes "q"))) (nm 178 179 (codes "x"))) no_exprs) Plain) no_exprs) Plain)) no_stmts))) ∷ []) }

nested_selector_1_f0_read : read_at span_to read_front (lexemes ((tok Keyword 0 7 (codes "package")) ∷ (tok Ident 8 12 (codes "main")) ∷ (tok Inserted 12 12 (codes ";")) ∷ (tok Keyword 14 18 (codes "type")) ∷ (tok Ident 19 20 (codes "P")) ∷ (tok Keyword 21 27 (codes "struct")) ∷ (tok Operator 27 28 (codes "{")) ∷ (tok Ident 29 30 (codes "q")) ∷ (tok Keyword 31 37 (codes "struct")) ∷ (tok Operator 37 38 (codes "{")) ∷ (tok Ident 39 40 (codes "x")) ∷ (tok Ident 41 44 (codes "int")) ∷ (tok Operator 45 46 (codes "}")) ∷ (tok Operator 47 48 (codes "}")) ∷ (tok Inserted 48 48 (codes ";")) ∷ (tok Keyword 66 70 (codes "func")) ∷ (tok Ident 71 76 (codes "Twice")) ∷ (tok Operator 76 77 (codes "(")) ∷ (tok Ident 77 78 (codes "x")) ∷ (tok Ident 79 82 (codes "int")) ∷ (tok Operator 82 83 (codes ")")) ∷ (tok Ident 84 87 (codes "int")) ∷ (tok Operator 88 89 (codes "{")) ∷ (tok Keyword 90 96 (codes "return")) ∷ (tok Ident 97 98 (codes "x")) ∷ (tok Operator 99 100 (codes "+")) ∷ (tok Ident 101 102 (codes "x")) ∷ (tok Operator 103 104 (codes "}")) ∷ (tok Inserted 104 104 (codes ";")) ∷ (tok Keyword 106 110 (codes "func")) ∷ (tok Ident 111 115 (codes "main")) ∷ (tok Operator 115 116 (codes "(")) ∷ (tok Operator 116 117 (codes ")")) ∷ (tok Operator 118 119 (codes "{")) ∷ (tok Keyword 121 124 (codes "var")) ∷ (tok Ident 125 126 (codes "p")) ∷ (tok Ident 127 128 (codes "P")) ∷ (tok Inserted 128 128 (codes ";")) ∷ (tok Ident 130 137 (codes "println")) ∷ (tok Operator 137 138 (codes "(")) ∷ (tok Keyword 138 142 (codes "func")) ∷ (tok Operator 142 143 (codes "(")) ∷ (tok Ident 143 144 (codes "x")) ∷ (tok Ident 145 148 (codes "int")) ∷ (tok Operator 148 149 (codes ")")) ∷ (tok Ident 150 153 (codes "int")) ∷ (tok Operator 154 155 (codes "{")) ∷ (tok Keyword 158 164 (codes "return")) ∷ (tok Ident 165 166 (codes "x")) ∷ (tok Operator 167 168 (codes "+")) ∷ (tok Ident 169 170 (codes "x")) ∷ (tok Inserted 170 170 (codes ";")) ∷ (tok Operator 172 173 (codes "}")) ∷ (tok Operator 173 174 (codes "(")) ∷ (tok Ident 174 175 (codes "p")) ∷ (tok Operator 175 176 (codes ".")) ∷ (tok Ident 176 177 (codes "q")) ∷ (tok Operator 177 178 (codes ".")) ∷ (tok Ident 178 179 (codes "x")) ∷ (tok Operator 179 180 (codes ")")) ∷ (tok Operator 180 181 (codes ")")) ∷ (tok Inserted 181 181 (codes ";")) ∷ (tok Operator 182 183 (codes "}")) ∷ (tok Inserted 183 183 (codes ";")) ∷ [])) ≡ Some (nested_selector_1_f0, [])
unfolding reading
nested_selector_1_f0_read = refl

abbrev nested_selector_1 : Module
nested_selector_1 = record { packages = (pack (codes "example.com/m") (codes "main") (source (codes "main.go") nested_selector_1_f0 ∷ []) ∷ []); marks = (mark 0 0 1 0 ∷ []); texts = (((codes "main.go"), record { text = (codes "package main\n\ntype P struct{ q struct{ x int } }\n\n//go:fix inline\nfunc Twice(x int) int { return x + x }\n\nfunc main() {\n\tvar p P\n\tprintln(func(x int) int {\n\t\treturn x + x\n\t}(p.q.x))\n}\n"); tokens = ((tok Keyword 0 7 (codes "package")) ∷ (tok Ident 8 12 (codes "main")) ∷ (tok Inserted 12 12 (codes ";")) ∷ (tok Keyword 14 18 (codes "type")) ∷ (tok Ident 19 20 (codes "P")) ∷ (tok Keyword 21 27 (codes "struct")) ∷ (tok Operator 27 28 (codes "{")) ∷ (tok Ident 29 30 (codes "q")) ∷ (tok Keyword 31 37 (codes "struct")) ∷ (tok Operator 37 38 (codes "{")) ∷ (tok Ident 39 40 (codes "x")) ∷ (tok Ident 41 44 (codes "int")) ∷ (tok Operator 45 46 (codes "}")) ∷ (tok Operator 47 48 (codes "}")) ∷ (tok Inserted 48 48 (codes ";")) ∷ (tok Keyword 66 70 (codes "func")) ∷ (tok Ident 71 76 (codes "Twice")) ∷ (tok Operator 76 77 (codes "(")) ∷ (tok Ident 77 78 (codes "x")) ∷ (tok Ident 79 82 (codes "int")) ∷ (tok Operator 82 83 (codes ")")) ∷ (tok Ident 84 87 (codes "int")) ∷ (tok Operator 88 89 (codes "{")) ∷ (tok Keyword 90 96 (codes "return")) ∷ (tok Ident 97 98 (codes "x")) ∷ (tok Operator 99 100 (codes "+")) ∷ (tok Ident 101 102 (codes "x")) ∷ (tok Operator 103 104 (codes "}")) ∷ (tok Inserted 104 104 (codes ";")) ∷ (tok Keyword 106 110 (codes "func")) ∷ (tok Ident 111 115 (codes "main")) ∷ (tok Operator 115 116 (codes "(")) ∷ (tok Operator 116 117 (codes ")")) ∷ (tok Operator 118 119 (codes "{")) ∷ (tok Keyword 121 124 (codes "var")) ∷ (tok Ident 125 126 (codes "p")) ∷ (tok Ident 127 128 (codes "P")) ∷ (tok Inserted 128 128 (codes ";")) ∷ (tok Ident 130 137 (codes "println")) ∷ (tok Operator 137 138 (codes "(")) ∷ (tok Keyword 138 142 (codes "func")) ∷ (tok Operator 142 143 (codes "(")) ∷ (tok Ident 143 144 (codes "x")) ∷ (tok Ident 145 148 (codes "int")) ∷ (tok Operator 148 149 (codes ")")) ∷ (tok Ident 150 153 (codes "int")) ∷ (tok Operator 154 155 (codes "{")) ∷ (tok Keyword 158 164 (codes "return")) ∷ (tok Ident 165 166 (codes "x")) ∷ (tok Operator 167 168 (codes "+")) ∷ (tok Ident 169 170 (codes "x")) ∷ (tok Inserted 170 170 (codes ";")) ∷ (tok Operator 172 173 (codes "}")) ∷ (tok Operator 173 174 (codes "(")) ∷ (tok Ident 174 175 (codes "p")) ∷ (tok Operator 175 176 (codes ".")) ∷ (tok Ident 176 177 (codes "q")) ∷ (tok Operator 177 178 (codes ".")) ∷ (tok Ident 178 179 (codes "x")) ∷ (tok Operator 179 180 (codes ")")) ∷ (tok Operator 180 181 (codes ")")) ∷ (tok Inserted 181 181 (codes ";")) ∷ (tok Operator 182 183 (codes "}")) ∷ (tok Inserted 183 183 (codes ";")) ∷ []); comments = ((note 50 65) ∷ []) }) ∷ []) }

nested_selector_1_typed : is_typed nested_selector_1 ≡ true
nested_selector_1_typed = refl

nested_selector_1_ends : step_of nested_selector_1 ≡ None
nested_selector_1_ends = refl

nested_selector_1_kept : kept_uses nested_selector_1 ≡ []
nested_selector_1_kept = refl

-- The right operand may not be evaluated, and the left one may not pass it.
abbrev logic_0_f0 : File Span
logic_0_f0 = record { package_name = (nm 8 12 (codes "main")); imports = []; decls = ((fn (at 30 71) None (nm 35 37 (codes "Or")) (sig ((param (at 38 47) (Some (nm 38 39 (codes "a"))) (named (at 43 47) None (nm 43 47 (codes "bool")))) ∷ (param (at 41 47) (Some (nm 41 42 (codes "b"))) (named (at 43 47) None (nm 43 47 (codes "bool")))) ∷ []) ((param (at 49 53) None (named (at 49 53) None (nm 49 53 (codes "bool")))) ∷ [])) (at 54 71) (stmt_and (return_ (at 56 69) (expr_and (binary (at 63 69) LogOr (ident (at 63 64) (codes "a")) (ident (at 68 69) (codes "b"))) no_exprs)) no_stmts)) ∷ (fn (at 73 115) None (nm 78 82 (codes "next")) (sig [] ((param (at 85 88) None (named (at 85 88) None (nm 85 88 (codes "int")))) ∷ [])) (at 89 115) (stmt_and (eval (at 91 103) (call (at 91 103) (ident (at 91 98) (codes "println")) (expr_and (str_lit (at 99 102) (codes "\"n\"")) no_exprs) Plain)) (stmt_and (return_ (at 105 113) (expr_and (int_lit (at 112 113) (codes "1")) no_exprs)) no_stmts))) ∷ (fn (at 117 156) None (nm 122 123 (codes "g")) (sig [] ((param (at 126 129) None (named (at 126 129) None (nm 126 129 (codes "int")))) ∷ [])) (at 130 156) (stmt_and (eval (at 132 144) (call (at 132 144) (ident (at 132 139) (codes "println")) (expr_and (str_lit (at 140 143) (codes "\"g\"")) no_exprs) Plain)) (stmt_and (return_ (at 146 154) (expr_and (int_lit (at 153 154) (codes "1")) no_exprs)) no_stmts))) ∷ (fn (at 158 197) None (nm 163 164 (codes "h")) (sig [] ((param (at 167 170) None (named (at 167 170) None (nm 167 170 (codes "int")))) ∷ [])) (at 171 197) (stmt_and (eval (at 173 185) (call (at 173 185) (ident (at 173 180) (codes "println")) (expr_and (str_lit (at 181 184) (codes "\"h\"")) no_exprs) Plain)) (stmt_and (return_ (at 187 195) (expr_and (int_lit (at 194 195) (codes "1")) no_exprs)) no_stmts))) ∷ (fn (at 199 253) None (nm 204 208 (codes "main")) (sig [] []) (at 211 253) (stmt_and (eval (at 214 251) (call (at 214 251) (ident (at 214 221) (codes "println")) (expr_and (call (at 222 250) (ident (at 222 224) (codes "Or")) (expr_and (binary (at 225 236) Eq (call (at 225 231) (ident (at 225 229) (codes "next")) no_exprs Plain) (int_lit (at 235 236) (codes "1"))) (expr_and (binary (at 238 249) Eq (call (at 238 244) (ident (at 238 242) (codes "next")) no_exprs Plain) (int_lit (at 248 249) (codes "2"))) no_exprs)) Plain) no_exprs) Plain)) no_stmts)) ∷ []) }

logic_0_f0_read : read_at span_to read_front (lexemes ((tok Keyword 0 7 (codes "package")) ∷ (tok Ident 8 12 (codes "main")) ∷ (tok Inserted 12 12 (codes ";")) ∷ (tok Keyword 30 34 (codes "func")) ∷ (tok Ident 35 37 (codes "Or")) ∷ (tok Operator 37 38 (codes "(")) ∷ (tok Ident 38 39 (codes "a")) ∷ (tok Operator 39 40 (codes ",")) ∷ (tok Ident 41 42 (codes "b")) ∷ (tok Ident 43 47 (codes "bool")) ∷ (tok Operator 47 48 (codes ")")) ∷ (tok Ident 49 53 (codes "bool")) ∷ (tok Operator 54 55 (codes "{")) ∷ (tok Keyword 56 62 (codes "return")) ∷ (tok Ident 63 64 (codes "a")) ∷ (tok Operator 65 67 (codes "||")) ∷ (tok Ident 68 69 (codes "b")) ∷ (tok Operator 70 71 (codes "}")) ∷ (tok Inserted 71 71 (codes ";")) ∷ (tok Keyword 73 77 (codes "func")) ∷ (tok Ident 78 82 (codes "next")) ∷ (tok Operator 82 83 (codes "(")) ∷ (tok Operator 83 84 (codes ")")) ∷ (tok Ident 85 88 (codes "int")) ∷ (tok Operator 89 90 (codes "{")) ∷ (tok Ident 91 98 (codes "println")) ∷ (tok Operator 98 99 (codes "(")) ∷ (tok Str 99 102 (codes "\"n\"")) ∷ (tok Operator 102 103 (codes ")")) ∷ (tok Operator 103 104 (codes ";")) ∷ (tok Keyword 105 111 (codes "return")) ∷ (tok Integer 112 113 (codes "1")) ∷ (tok Operator 114 115 (codes "}")) ∷ (tok Inserted 115 115 (codes ";")) ∷ (tok Keyword 117 121 (codes "func")) ∷ (tok Ident 122 123 (codes "g")) ∷ (tok Operator 123 124 (codes "(")) ∷ (tok Operator 124 125 (codes ")")) ∷ (tok Ident 126 129 (codes "int")) ∷ (tok Operator 130 131 (codes "{")) ∷ (tok Ident 132 139 (codes "println")) ∷ (tok Operator 139 140 (codes "(")) ∷ (tok Str 140 143 (codes "\"g\"")) ∷ (tok Operator 143 144 (codes ")")) ∷ (tok Operator 144 145 (codes ";")) ∷ (tok Keyword 146 152 (codes "return")) ∷ (tok Integer 153 154 (codes "1")) ∷ (tok Operator 155 156 (codes "}")) ∷ (tok Inserted 156 156 (codes ";")) ∷ (tok Keyword 158 162 (codes "func")) ∷ (tok Ident 163 164 (codes "h")) ∷ (tok Operator 164 165 (codes "(")) ∷ (tok Operator 165 166 (codes ")")) ∷ (tok Ident 167 170 (codes "int")) ∷ (tok Operator 171 172 (codes "{")) ∷ (tok Ident 173 180 (codes "println")) ∷ (tok Operator 180 181 (codes "(")) ∷ (tok Str 181 184 (codes "\"h\"")) ∷ (tok Operator 184 185 (codes ")")) ∷ (tok Operator 185 186 (codes ";")) ∷ (tok Keyword 187 193 (codes "return")) ∷ (tok Integer 194 195 (codes "1")) ∷ (tok Operator 196 197 (codes "}")) ∷ (tok Inserted 197 197 (codes ";")) ∷ (tok Keyword 199 203 (codes "func")) ∷ (tok Ident 204 208 (codes "main")) ∷ (tok Operator 208 209 (codes "(")) ∷ (tok Operator 209 210 (codes ")")) ∷ (tok Operator 211 212 (codes "{")) ∷ (tok Ident 214 221 (codes "println")) ∷ (tok Operator 221 222 (codes "(")) ∷ (tok Ident 222 224 (codes "Or")) ∷ (tok Operator 224 225 (codes "(")) ∷ (tok Ident 225 229 (codes "next")) ∷ (tok Operator 229 230 (codes "(")) ∷ (tok Operator 230 231 (codes ")")) ∷ (tok Operator 232 234 (codes "==")) ∷ (tok Integer 235 236 (codes "1")) ∷ (tok Operator 236 237 (codes ",")) ∷ (tok Ident 238 242 (codes "next")) ∷ (tok Operator 242 243 (codes "(")) ∷ (tok Operator 243 244 (codes ")")) ∷ (tok Operator 245 247 (codes "==")) ∷ (tok Integer 248 249 (codes "2")) ∷ (tok Operator 249 250 (codes ")")) ∷ (tok Operator 250 251 (codes ")")) ∷ (tok Inserted 251 251 (codes ";")) ∷ (tok Operator 252 253 (codes "}")) ∷ (tok Inserted 253 253 (codes ";")) ∷ [])) ≡ Some (logic_0_f0, [])
unfolding reading
logic_0_f0_read = refl

abbrev logic_0 : Module
logic_0 = record { packages = (pack (codes "example.com/m") (codes "main") (source (codes "main.go") logic_0_f0 ∷ []) ∷ []); marks = (mark 0 0 0 0 ∷ []); texts = (((codes "main.go"), record { text = (codes "package main\n\n//go:fix inline\nfunc Or(a, b bool) bool { return a || b }\n\nfunc next() int { println(\"n\"); return 1 }\n\nfunc g() int { println(\"g\"); return 1 }\n\nfunc h() int { println(\"h\"); return 1 }\n\nfunc main() {\n\tprintln(Or(next() == 1, next() == 2))\n}\n"); tokens = ((tok Keyword 0 7 (codes "package")) ∷ (tok Ident 8 12 (codes "main")) ∷ (tok Inserted 12 12 (codes ";")) ∷ (tok Keyword 30 34 (codes "func")) ∷ (tok Ident 35 37 (codes "Or")) ∷ (tok Operator 37 38 (codes "(")) ∷ (tok Ident 38 39 (codes "a")) ∷ (tok Operator 39 40 (codes ",")) ∷ (tok Ident 41 42 (codes "b")) ∷ (tok Ident 43 47 (codes "bool")) ∷ (tok Operator 47 48 (codes ")")) ∷ (tok Ident 49 53 (codes "bool")) ∷ (tok Operator 54 55 (codes "{")) ∷ (tok Keyword 56 62 (codes "return")) ∷ (tok Ident 63 64 (codes "a")) ∷ (tok Operator 65 67 (codes "||")) ∷ (tok Ident 68 69 (codes "b")) ∷ (tok Operator 70 71 (codes "}")) ∷ (tok Inserted 71 71 (codes ";")) ∷ (tok Keyword 73 77 (codes "func")) ∷ (tok Ident 78 82 (codes "next")) ∷ (tok Operator 82 83 (codes "(")) ∷ (tok Operator 83 84 (codes ")")) ∷ (tok Ident 85 88 (codes "int")) ∷ (tok Operator 89 90 (codes "{")) ∷ (tok Ident 91 98 (codes "println")) ∷ (tok Operator 98 99 (codes "(")) ∷ (tok Str 99 102 (codes "\"n\"")) ∷ (tok Operator 102 103 (codes ")")) ∷ (tok Operator 103 104 (codes ";")) ∷ (tok Keyword 105 111 (codes "return")) ∷ (tok Integer 112 113 (codes "1")) ∷ (tok Operator 114 115 (codes "}")) ∷ (tok Inserted 115 115 (codes ";")) ∷ (tok Keyword 117 121 (codes "func")) ∷ (tok Ident 122 123 (codes "g")) ∷ (tok Operator 123 124 (codes "(")) ∷ (tok Operator 124 125 (codes ")")) ∷ (tok Ident 126 129 (codes "int")) ∷ (tok Operator 130 131 (codes "{")) ∷ (tok Ident 132 139 (codes "println")) ∷ (tok Operator 139 140 (codes "(")) ∷ (tok Str 140 143 (codes "\"g\"")) ∷ (tok Operator 143 144 (codes ")")) ∷ (tok Operator 144 145 (codes ";")) ∷ (tok Keyword 146 152 (codes "return")) ∷ (tok Integer 153 154 (codes "1")) ∷ (tok Operator 155 156 (codes "}")) ∷ (tok Inserted 156 156 (codes ";")) ∷ (tok Keyword 158 162 (codes "func")) ∷ (tok Ident 163 164 (codes "h")) ∷ (tok Operator 164 165 (codes "(")) ∷ (tok Operator 165 166 (codes ")")) ∷ (tok Ident 167 170 (codes "int")) ∷ (tok Operator 171 172 (codes "{")) ∷ (tok Ident 173 180 (codes "println")) ∷ (tok Operator 180 181 (codes "(")) ∷ (tok Str 181 184 (codes "\"h\"")) ∷ (tok Operator 184 185 (codes ")")) ∷ (tok Operator 185 186 (codes ";")) ∷ (tok Keyword 187 193 (codes "return")) ∷ (tok Integer 194 195 (codes "1")) ∷ (tok Operator 196 197 (codes "}")) ∷ (tok Inserted 197 197 (codes ";")) ∷ (tok Keyword 199 203 (codes "func")) ∷ (tok Ident 204 208 (codes "main")) ∷ (tok Operator 208 209 (codes "(")) ∷ (tok Operator 209 210 (codes ")")) ∷ (tok Operator 211 212 (codes "{")) ∷ (tok Ident 214 221 (codes "println")) ∷ (tok Operator 221 222 (codes "(")) ∷ (tok Ident 222 224 (codes "Or")) ∷ (tok Operator 224 225 (codes "(")) ∷ (tok Ident 225 229 (codes "next")) ∷ (tok Operator 229 230 (codes "(")) ∷ (tok Operator 230 231 (codes ")")) ∷ (tok Operator 232 234 (codes "==")) ∷ (tok Integer 235 236 (codes "1")) ∷ (tok Operator 236 237 (codes ",")) ∷ (tok Ident 238 242 (codes "next")) ∷ (tok Operator 242 243 (codes "(")) ∷ (tok Operator 243 244 (codes ")")) ∷ (tok Operator 245 247 (codes "==")) ∷ (tok Integer 248 249 (codes "2")) ∷ (tok Operator 249 250 (codes ")")) ∷ (tok Operator 250 251 (codes ")")) ∷ (tok Inserted 251 251 (codes ";")) ∷ (tok Operator 252 253 (codes "}")) ∷ (tok Inserted 253 253 (codes ";")) ∷ []); comments = ((note 14 29) ∷ []) }) ∷ []) }

logic_0_typed : is_typed logic_0 ≡ true
logic_0_typed = refl

logic_0_step : first_change logic_0 ≡ Some ((codes "main.go"), LiteralForm, (codes "package main\n\n//go:fix inline\nfunc Or(a, b bool) bool { return a || b }\n\nfunc next() int { println(\"n\"); return 1 }\n\nfunc g() int { println(\"g\"); return 1 }\n\nfunc h() int { println(\"h\"); return 1 }\n\nfunc main() {\n\tprintln(func(a bool, b bool) bool {\n\t\treturn a || b\n\t}(next() == 1, next() == 2))\n}\n"))
logic_0_step = refl

abbrev logic_1_f0 : File Span
logic_1_f0 = record { package_name = (nm 8 12 (codes "main")); imports = []; decls = ((fn (at 30 71) None (nm 35 37 (codes "Or")) (sig ((param (at 38 47) (Some (nm 38 39 (codes "a"))) (named (at 43 47) None (nm 43 47 (codes "bool")))) ∷ (param (at 41 47) (Some (nm 41 42 (codes "b"))) (named (at 43 47) None (nm 43 47 (codes "bool")))) ∷ []) ((param (at 49 53) None (named (at 49 53) None (nm 49 53 (codes "bool")))) ∷ [])) (at 54 71) (stmt_and (return_ (at 56 69) (expr_and (binary (at 63 69) LogOr (ident (at 63 64) (codes "a")) (ident (at 68 69) (codes "b"))) no_exprs)) no_stmts)) ∷ (fn (at 73 115) None (nm 78 82 (codes "next")) (sig [] ((param (at 85 88) None (named (at 85 88) None (nm 85 88 (codes "int")))) ∷ [])) (at 89 115) (stmt_and (eval (at 91 103) (call (at 91 103) (ident (at 91 98) (codes "println")) (expr_and (str_lit (at 99 102) (codes "\"n\"")) no_exprs) Plain)) (stmt_and (return_ (at 105 113) (expr_and (int_lit (at 112 113) (codes "1")) no_exprs)) no_stmts))) ∷ (fn (at 117 156) None (nm 122 123 (codes "g")) (sig [] ((param (at 126 129) None (named (at 126 129) None (nm 126 129 (codes "int")))) ∷ [])) (at 130 156) (stmt_and (eval (at 132 144) (call (at 132 144) (ident (at 132 139) (codes "println")) (expr_and (str_lit (at 140 143) (codes "\"g\"")) no_exprs) Plain)) (stmt_and (return_ (at 146 154) (expr_and (int_lit (at 153 154) (codes "1")) no_exprs)) no_stmts))) ∷ (fn (at 158 197) None (nm 163 164 (codes "h")) (sig [] ((param (at 167 170) None (named (at 167 170) None (nm 167 170 (codes "int")))) ∷ [])) (at 171 197) (stmt_and (eval (at 173 185) (call (at 173 185) (ident (at 173 180) (codes "println")) (expr_and (str_lit (at 181 184) (codes "\"h\"")) no_exprs) Plain)) (stmt_and (return_ (at 187 195) (expr_and (int_lit (at 194 195) (codes "1")) no_exprs)) no_stmts))) ∷ (fn (at 199 297) None (nm 204 208 (codes "main")) (sig [] []) (at 211 297) (stmt_and (eval (at 214 295) (call (at 214 295) (ident (at 214 221) (codes "println")) (expr_and (call (at 222 294) (func_lit (at 222 268) (sig ((param (at 227 233) (Some (nm 227 228 (codes "a"))) (named (at 229 233) None (nm 229 233 (codes "bool")))) ∷ (param (at 235 241) (Some (nm 235 236 (codes "b"))) (named (at 237 241) None (nm 237 241 (codes "bool")))) ∷ []) ((param (at 243 247) None (named (at 243 247) None (nm 243 247 (codes "bool")))) ∷ [])) (at 248 268) (stmt_and (return_ (at 252 265) (expr_and (binary (at 259 265) LogOr (ident (at 259 260) (codes "a")) (ident (at 264 265) (codes "b"))) no_exprs)) no_stmts)) (expr_and (binary (at 269 280) Eq (call (at 269 275) (ident (at 269 273) (codes "next")) no_exprs Plain) (int_lit (at 279 280) (codes "1"))) (expr_and (binary (at 282 293) Eq (call (at 282 288) (ident (at 282 286) (codes "next")) no_exprs Plain) (int_lit (at 292 293) (codes "2"))) no_exprs)) Plain) no_exprs) Plain)) no_stmts)) ∷ []) }

logic_1_f0_read : read_at span_to read_front (lexemes ((tok Keyword 0 7 (codes "package")) ∷ (tok Ident 8 12 (codes "main")) ∷ (tok Inserted 12 12 (codes ";")) ∷ (tok Keyword 30 34 (codes "func")) ∷ (tok Ident 35 37 (codes "Or")) ∷ (tok Operator 37 38 (codes "(")) ∷ (tok Ident 38 39 (codes "a")) ∷ (tok Operator 39 40 (codes ",")) ∷ (tok Ident 41 42 (codes "b")) ∷ (tok Ident 43 47 (codes "bool")) ∷ (tok Operator 47 48 (codes ")")) ∷ (tok Ident 49 53 (codes "bool")) ∷ (tok Operator 54 55 (codes "{")) ∷ (tok Keyword 56 62 (codes "return")) ∷ (tok Ident 63 64 (codes "a")) ∷ (tok Operator 65 67 (codes "||")) ∷ (tok Ident 68 69 (codes "b")) ∷ (tok Operator 70 71 (codes "}")) ∷ (tok Inserted 71 71 (codes ";")) ∷ (tok Keyword 73 77 (codes "func")) ∷ (tok Ident 78 82 (codes "next")) ∷ (tok Operator 82 83 (codes "(")) ∷ (tok Operator 83 84 (codes ")")) ∷ (tok Ident 85 88 (codes "int")) ∷ (tok Operator 89 90 (codes "{")) ∷ (tok Ident 91 98 (codes "println")) ∷ (tok Operator 98 99 (codes "(")) ∷ (tok Str 99 102 (codes "\"n\"")) ∷ (tok Operator 102 103 (codes ")")) ∷ (tok Operator 103 104 (codes ";")) ∷ (tok Keyword 105 111 (codes "return")) ∷ (tok Integer 112 113 (codes "1")) ∷ (tok Operator 114 115 (codes "}")) ∷ (tok Inserted 115 115 (codes ";")) ∷ (tok Keyword 117 121 (codes "func")) ∷ (tok Ident 122 123 (codes "g")) ∷ (tok Operator 123 124 (codes "(")) ∷ (tok Operator 124 125 (codes ")")) ∷ (tok Ident 126 129 (codes "int")) ∷ (tok Operator 130 131 (codes "{")) ∷ (tok Ident 132 139 (codes "println")) ∷ (tok Operator 139 140 (codes "(")) ∷ (tok Str 140 143 (codes "\"g\"")) ∷ (tok Operator 143 144 (codes ")")) ∷ (tok Operator 144 145 (codes ";")) ∷ (tok Keyword 146 152 (codes "return")) ∷ (tok Integer 153 154 (codes "1")) ∷ (tok Operator 155 156 (codes "}")) ∷ (tok Inserted 156 156 (codes ";")) ∷ (tok Keyword 158 162 (codes "func")) ∷ (tok Ident 163 164 (codes "h")) ∷ (tok Operator 164 165 (codes "(")) ∷ (tok Operator 165 166 (codes ")")) ∷ (tok Ident 167 170 (codes "int")) ∷ (tok Operator 171 172 (codes "{")) ∷ (tok Ident 173 180 (codes "println")) ∷ (tok Operator 180 181 (codes "(")) ∷ (tok Str 181 184 (codes "\"h\"")) ∷ (tok Operator 184 185 (codes ")")) ∷ (tok Operator 185 186 (codes ";")) ∷ (tok Keyword 187 193 (codes "return")) ∷ (tok Integer 194 195 (codes "1")) ∷ (tok Operator 196 197 (codes "}")) ∷ (tok Inserted 197 197 (codes ";")) ∷ (tok Keyword 199 203 (codes "func")) ∷ (tok Ident 204 208 (codes "main")) ∷ (tok Operator 208 209 (codes "(")) ∷ (tok Operator 209 210 (codes ")")) ∷ (tok Operator 211 212 (codes "{")) ∷ (tok Ident 214 221 (codes "println")) ∷ (tok Operator 221 222 (codes "(")) ∷ (tok Keyword 222 226 (codes "func")) ∷ (tok Operator 226 227 (codes "(")) ∷ (tok Ident 227 228 (codes "a")) ∷ (tok Ident 229 233 (codes "bool")) ∷ (tok Operator 233 234 (codes ",")) ∷ (tok Ident 235 236 (codes "b")) ∷ (tok Ident 237 241 (codes "bool")) ∷ (tok Operator 241 242 (codes ")")) ∷ (tok Ident 243 247 (codes "bool")) ∷ (tok Operator 248 249 (codes "{")) ∷ (tok Keyword 252 258 (codes "return")) ∷ (tok Ident 259 260 (codes "a")) ∷ (tok Operator 261 263 (codes "||")) ∷ (tok Ident 264 265 (codes "b")) ∷ (tok Inserted 265 265 (codes ";")) ∷ (tok Operator 267 268 (codes "}")) ∷ (tok Operator 268 269 (codes "(")) ∷ (tok Ident 269 273 (codes "next")) ∷ (tok Operator 273 274 (codes "(")) ∷ (tok Operator 274 275 (codes ")")) ∷ (tok Operator 276 278 (codes "==")) ∷ (tok Integer 279 280 (codes "1")) ∷ (tok Operator 280 281 (codes ",")) ∷ (tok Ident 282 286 (codes "next")) ∷ (tok Operator 286 287 (codes "(")) ∷ (tok Operator 287 288 (codes ")")) ∷ (tok Operator 289 291 (codes "==")) ∷ (tok Integer 292 293 (codes "2")) ∷ (tok Operator 293 294 (codes ")")) ∷ (tok Operator 294 295 (codes ")")) ∷ (tok Inserted 295 295 (codes ";")) ∷ (tok Operator 296 297 (codes "}")) ∷ (tok Inserted 297 297 (codes ";")) ∷ [])) ≡ Some (logic_1_f0, [])
unfolding reading
logic_1_f0_read = refl

abbrev logic_1 : Module
logic_1 = record { packages = (pack (codes "example.com/m") (codes "main") (source (codes "main.go") logic_1_f0 ∷ []) ∷ []); marks = (mark 0 0 0 0 ∷ []); texts = (((codes "main.go"), record { text = (codes "package main\n\n//go:fix inline\nfunc Or(a, b bool) bool { return a || b }\n\nfunc next() int { println(\"n\"); return 1 }\n\nfunc g() int { println(\"g\"); return 1 }\n\nfunc h() int { println(\"h\"); return 1 }\n\nfunc main() {\n\tprintln(func(a bool, b bool) bool {\n\t\treturn a || b\n\t}(next() == 1, next() == 2))\n}\n"); tokens = ((tok Keyword 0 7 (codes "package")) ∷ (tok Ident 8 12 (codes "main")) ∷ (tok Inserted 12 12 (codes ";")) ∷ (tok Keyword 30 34 (codes "func")) ∷ (tok Ident 35 37 (codes "Or")) ∷ (tok Operator 37 38 (codes "(")) ∷ (tok Ident 38 39 (codes "a")) ∷ (tok Operator 39 40 (codes ",")) ∷ (tok Ident 41 42 (codes "b")) ∷ (tok Ident 43 47 (codes "bool")) ∷ (tok Operator 47 48 (codes ")")) ∷ (tok Ident 49 53 (codes "bool")) ∷ (tok Operator 54 55 (codes "{")) ∷ (tok Keyword 56 62 (codes "return")) ∷ (tok Ident 63 64 (codes "a")) ∷ (tok Operator 65 67 (codes "||")) ∷ (tok Ident 68 69 (codes "b")) ∷ (tok Operator 70 71 (codes "}")) ∷ (tok Inserted 71 71 (codes ";")) ∷ (tok Keyword 73 77 (codes "func")) ∷ (tok Ident 78 82 (codes "next")) ∷ (tok Operator 82 83 (codes "(")) ∷ (tok Operator 83 84 (codes ")")) ∷ (tok Ident 85 88 (codes "int")) ∷ (tok Operator 89 90 (codes "{")) ∷ (tok Ident 91 98 (codes "println")) ∷ (tok Operator 98 99 (codes "(")) ∷ (tok Str 99 102 (codes "\"n\"")) ∷ (tok Operator 102 103 (codes ")")) ∷ (tok Operator 103 104 (codes ";")) ∷ (tok Keyword 105 111 (codes "return")) ∷ (tok Integer 112 113 (codes "1")) ∷ (tok Operator 114 115 (codes "}")) ∷ (tok Inserted 115 115 (codes ";")) ∷ (tok Keyword 117 121 (codes "func")) ∷ (tok Ident 122 123 (codes "g")) ∷ (tok Operator 123 124 (codes "(")) ∷ (tok Operator 124 125 (codes ")")) ∷ (tok Ident 126 129 (codes "int")) ∷ (tok Operator 130 131 (codes "{")) ∷ (tok Ident 132 139 (codes "println")) ∷ (tok Operator 139 140 (codes "(")) ∷ (tok Str 140 143 (codes "\"g\"")) ∷ (tok Operator 143 144 (codes ")")) ∷ (tok Operator 144 145 (codes ";")) ∷ (tok Keyword 146 152 (codes "return")) ∷ (tok Integer 153 154 (codes "1")) ∷ (tok Operator 155 156 (codes "}")) ∷ (tok Inserted 156 156 (codes ";")) ∷ (tok Keyword 158 162 (codes "func")) ∷ (tok Ident 163 164 (codes "h")) ∷ (tok Operator 164 165 (codes "(")) ∷ (tok Operator 165 166 (codes ")")) ∷ (tok Ident 167 170 (codes "int")) ∷ (tok Operator 171 172 (codes "{")) ∷ (tok Ident 173 180 (codes "println")) ∷ (tok Operator 180 181 (codes "(")) ∷ (tok Str 181 184 (codes "\"h\"")) ∷ (tok Operator 184 185 (codes ")")) ∷ (tok Operator 185 186 (codes ";")) ∷ (tok Keyword 187 193 (codes "return")) ∷ (tok Integer 194 195 (codes "1")) ∷ (tok Operator 196 197 (codes "}")) ∷ (tok Inserted 197 197 (codes ";")) ∷ (tok Keyword 199 203 (codes "func")) ∷ (tok Ident 204 208 (codes "main")) ∷ (tok Operator 208 209 (codes "(")) ∷ (tok Operator 209 210 (codes ")")) ∷ (tok Operator 211 212 (codes "{")) ∷ (tok Ident 214 221 (codes "println")) ∷ (tok Operator 221 222 (codes "(")) ∷ (tok Keyword 222 226 (codes "func")) ∷ (tok Operator 226 227 (codes "(")) ∷ (tok Ident 227 228 (codes "a")) ∷ (tok Ident 229 233 (codes "bool")) ∷ (tok Operator 233 234 (codes ",")) ∷ (tok Ident 235 236 (codes "b")) ∷ (tok Ident 237 241 (codes "bool")) ∷ (tok Operator 241 242 (codes ")")) ∷ (tok Ident 243 247 (codes "bool")) ∷ (tok Operator 248 249 (codes "{")) ∷ (tok Keyword 252 258 (codes "return")) ∷ (tok Ident 259 260 (codes "a")) ∷ (tok Operator 261 263 (codes "||")) ∷ (tok Ident 264 265 (codes "b")) ∷ (tok Inserted 265 265 (codes ";")) ∷ (tok Operator 267 268 (codes "}")) ∷ (tok Operator 268 269 (codes "(")) ∷ (tok Ident 269 273 (codes "next")) ∷ (tok Operator 273 274 (codes "(")) ∷ (tok Operator 274 275 (codes ")")) ∷ (tok Operator 276 278 (codes "==")) ∷ (tok Integer 279 280 (codes "1")) ∷ (tok Operator 280 281 (codes ",")) ∷ (tok Ident 282 286 (codes "next")) ∷ (tok Operator 286 287 (codes "(")) ∷ (tok Operator 287 288 (codes ")")) ∷ (tok Operator 289 291 (codes "==")) ∷ (tok Integer 292 293 (codes "2")) ∷ (tok Operator 293 294 (codes ")")) ∷ (tok Operator 294 295 (codes ")")) ∷ (tok Inserted 295 295 (codes ";")) ∷ (tok Operator 296 297 (codes "}")) ∷ (tok Inserted 297 297 (codes ";")) ∷ []); comments = ((note 14 29) ∷ []) }) ∷ []) }

logic_1_typed : is_typed logic_1 ≡ true
logic_1_typed = refl

logic_1_ends : step_of logic_1 ≡ None
logic_1_ends = refl

logic_1_kept : kept_uses logic_1 ≡ []
logic_1_kept = refl
