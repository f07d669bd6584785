-- Order, unused arguments, methods and recover.
use Rattle.std.proofs.Common.{◌≡◌, refl}
use Rattle.std.specs.Prelude.{true, false, [], ◌∷◌, Some, None, codes}
use Rattle.go_tree.specs.declared.exprs.Rest.TheVariants.{Plain}
use Rattle.go_tree.specs.declared.spans.Span.{Span}
use Rattle.go_tree.specs.declared.tokens.TokenKind.TheVariants.{Ident, Keyword, Operator, Integer, Str, Inserted}
use Rattle.go_tree.specs.declared.operators.BinOp.TheVariants.{Add}
use Rattle.go_tree.specs.Tree.{named, struct_type, no_fields, field, ident, int_lit, str_lit, composite, selector, call, func_lit, binary, no_exprs, expr_and, no_elems, elem, plain, no_value, var_decl, eval, assign, define, return_, inner, defer, no_stmts, stmt_and, no_specs, spec}
use Rattle.go_tree.specs.File.{File, values, types}
use Rattle.run_rules.specs.FormTrees.{BlockForm, LiteralForm}
use Rattle.run_rules.specs.Obstacles.{Spread}
use Rattle.run_rules.proofs.CaseTools.{at, nm, tok, note, param, sig, tspec, recv, fn, pack, source, mark, Module, is_typed, first_change, step_of, kept_uses}
use Rattle.go_layout.specs.SpellsSpans.{span_to}
use Rattle.go_tree.specs.GoWords.Terminals.{lexemes}
use Rattle.go_layout.specs.Goals.{read_front}
use Rattle.go_layout.proofs.Texts.{reading}
use Rattle.run_rules.proofs.CaseTools.{read_at}

-- A print stands before the use of a package variable.
abbrev write_before_look_0_f0 : File Span
write_before_look_0_f0 = record { package_name = (nm 8 12 (codes "main")); imports = []; decls = ((values (var_decl (at 14 27) false (spec (at 18 27) ((nm 18 23 (codes "count")) ∷ []) None (expr_and (int_lit (at 26 27) (codes "1")) no_exprs) no_specs))) ∷ (fn (at 45 93) None (nm 50 54 (codes "Seen")) (sig ((param (at 55 60) (Some (nm 55 56 (codes "a"))) (named (at 57 60) None (nm 57 60 (codes "int")))) ∷ []) ((param (at 62 65) None (named (at 62 65) None (nm 62 65 (codes "int")))) ∷ [])) (at 66 93) (stmt_and (eval (at 69 81) (call (at 69 81) (ident (at 69 76) (codes "println")) (expr_and (str_lit (at 77 80) (codes "\"x\"")) no_exprs) Plain)) (stmt_and (return_ (at 83 91) (expr_and (ident (at 90 91) (codes "a")) no_exprs)) no_stmts))) ∷ (fn (at 95 132) None (nm 100 104 (codes "main")) (sig [] []) (at 107 132) (stmt_and (eval (at 110 130) (call (at 110 130) (ident (at 110 117) (codes "println")) (expr_and (call (at 118 129) (ident (at 118 122) (codes "Seen")) (expr_and (ident (at 123 128) (codes "count")) no_exprs) Plain) no_exprs) Plain)) no_stmts)) ∷ []) }

write_before_look_0_f0_read : read_at span_to read_front (lexemes ((tok Keyword 0 7 (codes "package")) ∷ (tok Ident 8 12 (codes "main")) ∷ (tok Inserted 12 12 (codes ";")) ∷ (tok Keyword 14 17 (codes "var")) ∷ (tok Ident 18 23 (codes "count")) ∷ (tok Operator 24 25 (codes "=")) ∷ (tok Integer 26 27 (codes "1")) ∷ (tok Inserted 27 27 (codes ";")) ∷ (tok Keyword 45 49 (codes "func")) ∷ (tok Ident 50 54 (codes "Seen")) ∷ (tok Operator 54 55 (codes "(")) ∷ (tok Ident 55 56 (codes "a")) ∷ (tok Ident 57 60 (codes "int")) ∷ (tok Operator 60 61 (codes ")")) ∷ (tok Ident 62 65 (codes "int")) ∷ (tok Operator 66 67 (codes "{")) ∷ (tok Ident 69 76 (codes "println")) ∷ (tok Operator 76 77 (codes "(")) ∷ (tok Str 77 80 (codes "\"x\"")) ∷ (tok Operator 80 81 (codes ")")) ∷ (tok Inserted 81 81 (codes ";")) ∷ (tok Keyword 83 89 (codes "return")) ∷ (tok Ident 90 91 (codes "a")) ∷ (tok Inserted 91 91 (codes ";")) ∷ (tok Operator 92 93 (codes "}")) ∷ (tok Inserted 93 93 (codes ";")) ∷ (tok Keyword 95 99 (codes "func")) ∷ (tok Ident 100 104 (codes "main")) ∷ (tok Operator 104 105 (codes "(")) ∷ (tok Operator 105 106 (codes ")")) ∷ (tok Operator 107 108 (codes "{")) ∷ (tok Ident 110 117 (codes "println")) ∷ (tok Operator 117 118 (codes "(")) ∷ (tok Ident 118 122 (codes "Seen")) ∷ (tok Operator 122 123 (codes "(")) ∷ (tok Ident 123 128 (codes "count")) ∷ (tok Operator 128 129 (codes ")")) ∷ (tok Operator 129 130 (codes ")")) ∷ (tok Inserted 130 130 (codes ";")) ∷ (tok Operator 131 132 (codes "}")) ∷ (tok Inserted 132 132 (codes ";")) ∷ [])) ≡ Some (write_before_look_0_f0, [])
unfolding reading
write_before_look_0_f0_read = refl

abbrev write_before_look_0 : Module
write_before_look_0 = record { packages = (pack (codes "example.com/m") (codes "main") (source (codes "main.go") write_before_look_0_f0 ∷ []) ∷ []); marks = (mark 0 0 1 0 ∷ []); texts = (((codes "main.go"), record { text = (codes "package main\n\nvar count = 1\n\n//go:fix inline\nfunc Seen(a int) int {\n\tprintln(\"x\")\n\treturn a\n}\n\nfunc main() {\n\tprintln(Seen(count))\n}\n"); tokens = ((tok Keyword 0 7 (codes "package")) ∷ (tok Ident 8 12 (codes "main")) ∷ (tok Inserted 12 12 (codes ";")) ∷ (tok Keyword 14 17 (codes "var")) ∷ (tok Ident 18 23 (codes "count")) ∷ (tok Operator 24 25 (codes "=")) ∷ (tok Integer 26 27 (codes "1")) ∷ (tok Inserted 27 27 (codes ";")) ∷ (tok Keyword 45 49 (codes "func")) ∷ (tok Ident 50 54 (codes "Seen")) ∷ (tok Operator 54 55 (codes "(")) ∷ (tok Ident 55 56 (codes "a")) ∷ (tok Ident 57 60 (codes "int")) ∷ (tok Operator 60 61 (codes ")")) ∷ (tok Ident 62 65 (codes "int")) ∷ (tok Operator 66 67 (codes "{")) ∷ (tok Ident 69 76 (codes "println")) ∷ (tok Operator 76 77 (codes "(")) ∷ (tok Str 77 80 (codes "\"x\"")) ∷ (tok Operator 80 81 (codes ")")) ∷ (tok Inserted 81 81 (codes ";")) ∷ (tok Keyword 83 89 (codes "return")) ∷ (tok Ident 90 91 (codes "a")) ∷ (tok Inserted 91 91 (codes ";")) ∷ (tok Operator 92 93 (codes "}")) ∷ (tok Inserted 93 93 (codes ";")) ∷ (tok Keyword 95 99 (codes "func")) ∷ (tok Ident 100 104 (codes "main")) ∷ (tok Operator 104 105 (codes "(")) ∷ (tok Operator 105 106 (codes ")")) ∷ (tok Operator 107 108 (codes "{")) ∷ (tok Ident 110 117 (codes "println")) ∷ (tok Operator 117 118 (codes "(")) ∷ (tok Ident 118 122 (codes "Seen")) ∷ (tok Operator 122 123 (codes "(")) ∷ (tok Ident 123 128 (codes "count")) ∷ (tok Operator 128 129 (codes ")")) ∷ (tok Operator 129 130 (codes ")")) ∷ (tok Inserted 130 130 (codes ";")) ∷ (tok Operator 131 132 (codes "}")) ∷ (tok Inserted 132 132 (codes ";")) ∷ []); comments = ((note 29 44) ∷ []) }) ∷ []) }

write_before_look_0_typed : is_typed write_before_look_0 ≡ true
write_before_look_0_typed = refl

write_before_look_0_step : first_change write_before_look_0 ≡ Some ((codes "main.go"), LiteralForm, (codes "package main\n\nvar count = 1\n\n//go:fix inline\nfunc Seen(a int) int {\n\tprintln(\"x\")\n\treturn a\n}\n\nfunc main() {\n\tprintln(func(a int) int {\n\t\tprintln(\"x\")\n\t\treturn a\n\t}(count))\n}\n"))
write_before_look_0_step = refl

abbrev write_before_look_1_f0 : File Span
write_before_look_1_f0 = record { package_name = (nm 8 12 (codes "main")); imports = []; decls = ((values (var_decl (at 14 27) false (spec (at 18 27) ((nm 18 23 (codes "count")) ∷ []) None (expr_and (int_lit (at 26 27) (codes "1")) no_exprs) no_specs))) ∷ (fn (at 45 93) None (nm 50 54 (codes "Seen")) (sig ((param (at 55 60) (Some (nm 55 56 (codes "a"))) (named (at 57 60) None (nm 57 60 (codes "int")))) ∷ []) ((param (at 62 65) None (named (at 62 65) None (nm 62 65 (codes "int")))) ∷ [])) (at 66 93) (stmt_and (eval (at 69 81) (call (at 69 81) (ident (at 69 76) (codes "println")) (expr_and (str_lit (at 77 80) (codes "\"x\"")) no_exprs) Plain)) (stmt_and (return_ (at 83 91) (expr_and (ident (at 90 91) (codes "a")) no_exprs)) no_stmts))) ∷ (fn (at 95 174) None (nm 100 104 (codes "main")) (sig [] []) (at 107 174) (stmt_and (eval (at 110 172) (call (at 110 172) (ident (at 110 117) (codes "println")) (expr_and (call (at 118 171) (func_lit (at 118 164) (sig ((param (at 123 128) (Some (nm 123 124 (codes "a"))) (named (at 125 128) None (nm 125 128 (codes "int")))) ∷ []) ((param (at 130 133) None (named (at 130 133) None (nm 130 133 (codes "int")))) ∷ [])) (at 134 164) (stmt_and (eval (at 138 150) (call (at 138 150) (ident (at 138 145) (codes "println")) (expr_and (str_lit (at 146 149) (codes "\"x\"")) no_exprs) Plain)) (stmt_and (return_ (at 153 161) (expr_and (ident (at 160 161) (codes "a")) no_exprs)) no_stmts))) (expr_and (ident (at 165 170) (codes "count")) no_exprs) Plain) no_exprs) Plain)) no_stmts)) ∷ []) }

write_before_look_1_f0_read : read_at span_to read_front (lexemes ((tok Keyword 0 7 (codes "package")) ∷ (tok Ident 8 12 (codes "main")) ∷ (tok Inserted 12 12 (codes ";")) ∷ (tok Keyword 14 17 (codes "var")) ∷ (tok Ident 18 23 (codes "count")) ∷ (tok Operator 24 25 (codes "=")) ∷ (tok Integer 26 27 (codes "1")) ∷ (tok Inserted 27 27 (codes ";")) ∷ (tok Keyword 45 49 (codes "func")) ∷ (tok Ident 50 54 (codes "Seen")) ∷ (tok Operator 54 55 (codes "(")) ∷ (tok Ident 55 56 (codes "a")) ∷ (tok Ident 57 60 (codes "int")) ∷ (tok Operator 60 61 (codes ")")) ∷ (tok Ident 62 65 (codes "int")) ∷ (tok Operator 66 67 (codes "{")) ∷ (tok Ident 69 76 (codes "println")) ∷ (tok Operator 76 77 (codes "(")) ∷ (tok Str 77 80 (codes "\"x\"")) ∷ (tok Operator 80 81 (codes ")")) ∷ (tok Inserted 81 81 (codes ";")) ∷ (tok Keyword 83 89 (codes "return")) ∷ (tok Ident 90 91 (codes "a")) ∷ (tok Inserted 91 91 (codes ";")) ∷ (tok Operator 92 93 (codes "}")) ∷ (tok Inserted 93 93 (codes ";")) ∷ (tok Keyword 95 99 (codes "func")) ∷ (tok Ident 100 104 (codes "main")) ∷ (tok Operator 104 105 (codes "(")) ∷ (tok Operator 105 106 (codes ")")) ∷ (tok Operator 107 108 (codes "{")) ∷ (tok Ident 110 117 (codes "println")) ∷ (tok Operator 117 118 (codes "(")) ∷ (tok Keyword 118 122 (codes "func")) ∷ (tok Operator 122 123 (codes "(")) ∷ (tok Ident 123 124 (codes "a")) ∷ (tok Ident 125 128 (codes "int")) ∷ (tok Operator 128 129 (codes ")")) ∷ (tok Ident 130 133 (codes "int")) ∷ (tok Operator 134 135 (codes "{")) ∷ (tok Ident 138 145 (codes "println")) ∷ (tok Operator 145 146 (codes "(")) ∷ (tok Str 146 149 (codes "\"x\"")) ∷ (tok Operator 149 150 (codes ")")) ∷ (tok Inserted 150 150 (codes ";")) ∷ (tok Keyword 153 159 (codes "return")) ∷ (tok Ident 160 161 (codes "a")) ∷ (tok Inserted 161 161 (codes ";")) ∷ (tok Operator 163 164 (codes "}")) ∷ (tok Operator 164 165 (codes "(")) ∷ (tok Ident 165 170 (codes "count")) ∷ (tok Operator 170 171 (codes ")")) ∷ (tok Operator 171 172 (codes ")")) ∷ (tok Inserted 172 172 (codes ";")) ∷ (tok Operator 173 174 (codes "}")) ∷ (tok Inserted 174 174 (codes ";")) ∷ [])) ≡ Some (write_before_look_1_f0, [])
unfolding reading
write_before_look_1_f0_read = refl

abbrev write_before_look_1 : Module
write_before_look_1 = record { packages = (pack (codes "example.com/m") (codes "main") (source (codes "main.go") write_before_look_1_f0 ∷ []) ∷ []); marks = (mark 0 0 1 0 ∷ []); texts = (((codes "main.go"), record { text = (codes "package main\n\nvar count = 1\n\n//go:fix inline\nfunc Seen(a int) int {\n\tprintln(\"x\")\n\treturn a\n}\n\nfunc main() {\n\tprintln(func(a int) int {\n\t\tprintln(\"x\")\n\t\treturn a\n\t}(count))\n}\n"); tokens = ((tok Keyword 0 7 (codes "package")) ∷ (tok Ident 8 12 (codes "main")) ∷ (tok Inserted 12 12 (codes ";")) ∷ (tok Keyword 14 17 (codes "var")) ∷ (tok Ident 18 23 (codes "count")) ∷ (tok Operator 24 25 (codes "=")) ∷ (tok Integer 26 27 (codes "1")) ∷ (tok Inserted 27 27 (codes ";")) ∷ (tok Keyword 45 49 (codes "func")) ∷ (tok Ident 50 54 (codes "Seen")) ∷ (tok Operator 54 55 (codes "(")) ∷ (tok Ident 55 56 (codes "a")) ∷ (tok Ident 57 60 (codes "int")) ∷ (tok Operator 60 61 (codes ")")) ∷ (tok Ident 62 65 (codes "int")) ∷ (tok Operator 66 67 (codes "{")) ∷ (tok Ident 69 76 (codes "println")) ∷ (tok Operator 76 77 (codes "(")) ∷ (tok Str 77 80 (codes "\"x\"")) ∷ (tok Operator 80 81 (codes ")")) ∷ (tok Inserted 81 81 (codes ";")) ∷ (tok Keyword 83 89 (codes "return")) ∷ (tok Ident 90 91 (codes "a")) ∷ (tok Inserted 91 91 (codes ";")) ∷ (tok Operator 92 93 (codes "}")) ∷ (tok Inserted 93 93 (codes ";")) ∷ (tok Keyword 95 99 (codes "func")) ∷ (tok Ident 100 104 (codes "main")) ∷ (tok Operator 104 105 (codes "(")) ∷ (tok Operator 105 106 (codes ")")) ∷ (tok Operator 107 108 (codes "{")) ∷ (tok Ident 110 117 (codes "println")) ∷ (tok Operator 117 118 (codes "(")) ∷ (tok Keyword 118 122 (codes "func")) ∷ (tok Operator 122 123 (codes "(")) ∷ (tok Ident 123 124 (codes "a")) ∷ (tok Ident 125 128 (codes "int")) ∷ (tok Operator 128 129 (codes ")")) ∷ (tok Ident 130 133 (codes "int")) ∷ (tok Operator 134 135 (codes "{")) ∷ (tok Ident 138 145 (codes "println")) ∷ (tok Operator 145 146 (codes "(")) ∷ (tok Str 146 149 (codes "\"x\"")) ∷ (tok Operator 149 150 (codes ")")) ∷ (tok Inserted 150 150 (codes ";")) ∷ (tok Keyword 153 159 (codes "return")) ∷ (tok Ident 160 161 (codes "a")) ∷ (tok Inserted 161 161 (codes ";")) ∷ (tok Operator 163 164 (codes "}")) ∷ (tok Operator 164 165 (codes "(")) ∷ (tok Ident 165 170 (codes "count")) ∷ (tok Operator 170 171 (codes ")")) ∷ (tok Operator 171 172 (codes ")")) ∷ (tok Inserted 172 172 (codes ";")) ∷ (tok Operator 173 174 (codes "}")) ∷ (tok Inserted 174 174 (codes ";")) ∷ []); comments = ((note 29 44) ∷ []) }) ∷ []) }

write_before_look_1_typed : is_typed write_before_look_1 ≡ true
write_before_look_1_typed = refl

write_before_look_1_ends : step_of write_before_look_1 ≡ None
write_before_look_1_ends = refl

write_before_look_1_kept : kept_uses write_before_look_1 ≡ []
write_before_look_1_kept = refl

-- A local variable may be read later.
abbrev write_before_steady_0_f0 : File Span
write_before_steady_0_f0 = record { package_name = (nm 8 12 (codes "main")); imports = []; decls = ((values (var_decl (at 14 27) false (spec (at 18 27) ((nm 18 23 (codes "count")) ∷ []) None (expr_and (int_lit (at 26 27) (codes "1")) no_exprs) no_specs))) ∷ (fn (at 45 93) None (nm 50 54 (codes "Seen")) (sig ((param (at 55 60) (Some (nm 55 56 (codes "a"))) (named (at 57 60) None (nm 57 60 (codes "int")))) ∷ []) ((param (at 62 65) None (named (at 62 65) None (nm 62 65 (codes "int")))) ∷ [])) (at 66 93) (stmt_and (eval (at 69 81) (call (at 69 81) (ident (at 69 76) (codes "println")) (expr_and (str_lit (at 77 80) (codes "\"x\"")) no_exprs) Plain)) (stmt_and (return_ (at 83 91) (expr_and (ident (at 90 91) (codes "a")) no_exprs)) no_stmts))) ∷ (fn (at 95 136) None (nm 100 104 (codes "main")) (sig [] []) (at 107 136) (stmt_and (define (at 110 116) ((nm 110 111 (codes "c")) ∷ []) (expr_and (int_lit (at 115 116) (codes "1")) no_exprs)) (stmt_and (eval (at 118 134) (call (at 118 134) (ident (at 118 125) (codes "println")) (expr_and (call (at 126 133) (ident (at 126 130) (codes "Seen")) (expr_and (ident (at 131 132) (codes "c")) no_exprs) Plain) no_exprs) Plain)) no_stmts))) ∷ []) }

write_before_steady_0_f0_read : read_at span_to read_front (lexemes ((tok Keyword 0 7 (codes "package")) ∷ (tok Ident 8 12 (codes "main")) ∷ (tok Inserted 12 12 (codes ";")) ∷ (tok Keyword 14 17 (codes "var")) ∷ (tok Ident 18 23 (codes "count")) ∷ (tok Operator 24 25 (codes "=")) ∷ (tok Integer 26 27 (codes "1")) ∷ (tok Inserted 27 27 (codes ";")) ∷ (tok Keyword 45 49 (codes "func")) ∷ (tok Ident 50 54 (codes "Seen")) ∷ (tok Operator 54 55 (codes "(")) ∷ (tok Ident 55 56 (codes "a")) ∷ (tok Ident 57 60 (codes "int")) ∷ (tok Operator 60 61 (codes ")")) ∷ (tok Ident 62 65 (codes "int")) ∷ (tok Operator 66 67 (codes "{")) ∷ (tok Ident 69 76 (codes "println")) ∷ (tok Operator 76 77 (codes "(")) ∷ (tok Str 77 80 (codes "\"x\"")) ∷ (tok Operator 80 81 (codes ")")) ∷ (tok Inserted 81 81 (codes ";")) ∷ (tok Keyword 83 89 (codes "return")) ∷ (tok Ident 90 91 (codes "a")) ∷ (tok Inserted 91 91 (codes ";")) ∷ (tok Operator 92 93 (codes "}")) ∷ (tok Inserted 93 93 (codes ";")) ∷ (tok Keyword 95 99 (codes "func")) ∷ (tok Ident 100 104 (codes "main")) ∷ (tok Operator 104 105 (codes "(")) ∷ (tok Operator 105 106 (codes ")")) ∷ (tok Operator 107 108 (codes "{")) ∷ (tok Ident 110 111 (codes "c")) ∷ (tok Operator 112 114 (codes ":=")) ∷ (tok Integer 115 116 (codes "1")) ∷ (tok Inserted 116 116 (codes ";")) ∷ (tok Ident 118 125 (codes "println")) ∷ (tok Operator 125 126 (codes "(")) ∷ (tok Ident 126 130 (codes "Seen")) ∷ (tok Operator 130 131 (codes "(")) ∷ (tok Ident 131 132 (codes "c")) ∷ (tok Operator 132 133 (codes ")")) ∷ (tok Operator 133 134 (codes ")")) ∷ (tok Inserted 134 134 (codes ";")) ∷ (tok Operator 135 136 (codes "}")) ∷ (tok Inserted 136 136 (codes ";")) ∷ [])) ≡ Some (write_before_steady_0_f0, [])
unfolding reading
write_before_steady_0_f0_read = refl

abbrev write_before_steady_0 : Module
write_before_steady_0 = record { packages = (pack (codes "example.com/m") (codes "main") (source (codes "main.go") write_before_steady_0_f0 ∷ []) ∷ []); marks = (mark 0 0 1 0 ∷ []); texts = (((codes "main.go"), record { text = (codes "package main\n\nvar count = 1\n\n//go:fix inline\nfunc Seen(a int) int {\n\tprintln(\"x\")\n\treturn a\n}\n\nfunc main() {\n\tc := 1\n\tprintln(Seen(c))\n}\n"); tokens = ((tok Keyword 0 7 (codes "package")) ∷ (tok Ident 8 12 (codes "main")) ∷ (tok Inserted 12 12 (codes ";")) ∷ (tok Keyword 14 17 (codes "var")) ∷ (tok Ident 18 23 (codes "count")) ∷ (tok Operator 24 25 (codes "=")) ∷ (tok Integer 26 27 (codes "1")) ∷ (tok Inserted 27 27 (codes ";")) ∷ (tok Keyword 45 49 (codes "func")) ∷ (tok Ident 50 54 (codes "Seen")) ∷ (tok Operator 54 55 (codes "(")) ∷ (tok Ident 55 56 (codes "a")) ∷ (tok Ident 57 60 (codes "int")) ∷ (tok Operator 60 61 (codes ")")) ∷ (tok Ident 62 65 (codes "int")) ∷ (tok Operator 66 67 (codes "{")) ∷ (tok Ident 69 76 (codes "println")) ∷ (tok Operator 76 77 (codes "(")) ∷ (tok Str 77 80 (codes "\"x\"")) ∷ (tok Operator 80 81 (codes ")")) ∷ (tok Inserted 81 81 (codes ";")) ∷ (tok Keyword 83 89 (codes "return")) ∷ (tok Ident 90 91 (codes "a")) ∷ (tok Inserted 91 91 (codes ";")) ∷ (tok Operator 92 93 (codes "}")) ∷ (tok Inserted 93 93 (codes ";")) ∷ (tok Keyword 95 99 (codes "func")) ∷ (tok Ident 100 104 (codes "main")) ∷ (tok Operator 104 105 (codes "(")) ∷ (tok Operator 105 106 (codes ")")) ∷ (tok Operator 107 108 (codes "{")) ∷ (tok Ident 110 111 (codes "c")) ∷ (tok Operator 112 114 (codes ":=")) ∷ (tok Integer 115 116 (codes "1")) ∷ (tok Inserted 116 116 (codes ";")) ∷ (tok Ident 118 125 (codes "println")) ∷ (tok Operator 125 126 (codes "(")) ∷ (tok Ident 126 130 (codes "Seen")) ∷ (tok Operator 130 131 (codes "(")) ∷ (tok Ident 131 132 (codes "c")) ∷ (tok Operator 132 133 (codes ")")) ∷ (tok Operator 133 134 (codes ")")) ∷ (tok Inserted 134 134 (codes ";")) ∷ (tok Operator 135 136 (codes "}")) ∷ (tok Inserted 136 136 (codes ";")) ∷ []); comments = ((note 29 44) ∷ []) }) ∷ []) }

write_before_steady_0_typed : is_typed write_before_steady_0 ≡ true
write_before_steady_0_typed = refl

write_before_steady_0_step : first_change write_before_steady_0 ≡ Some ((codes "main.go"), LiteralForm, (codes "package main\n\nvar count = 1\n\n//go:fix inline\nfunc Seen(a int) int {\n\tprintln(\"x\")\n\treturn a\n}\n\nfunc main() {\n\tc := 1\n\tprintln(func() int {\n\t\tprintln(\"x\")\n\t\treturn c\n\t}())\n}\n"))
write_before_steady_0_step = refl

abbrev write_before_steady_1_f0 : File Span
write_before_steady_1_f0 = record { package_name = (nm 8 12 (codes "main")); imports = []; decls = ((values (var_decl (at 14 27) false (spec (at 18 27) ((nm 18 23 (codes "count")) ∷ []) None (expr_and (int_lit (at 26 27) (codes "1")) no_exprs) no_specs))) ∷ (fn (at 45 93) None (nm 50 54 (codes "Seen")) (sig ((param (at 55 60) (Some (nm 55 56 (codes "a"))) (named (at 57 60) None (nm 57 60 (codes "int")))) ∷ []) ((param (at 62 65) None (named (at 62 65) None (nm 62 65 (codes "int")))) ∷ [])) (at 66 93) (stmt_and (eval (at 69 81) (call (at 69 81) (ident (at 69 76) (codes "println")) (expr_and (str_lit (at 77 80) (codes "\"x\"")) no_exprs) Plain)) (stmt_and (return_ (at 83 91) (expr_and (ident (at 90 91) (codes "a")) no_exprs)) no_stmts))) ∷ (fn (at 95 172) None (nm 100 104 (codes "main")) (sig [] []) (at 107 172) (stmt_and (define (at 110 116) ((nm 110 111 (codes "c")) ∷ []) (expr_and (int_lit (at 115 116) (codes "1")) no_exprs)) (stmt_and (eval (at 118 170) (call (at 118 170) (ident (at 118 125) (codes "println")) (expr_and (call (at 126 169) (func_lit (at 126 167) (sig [] ((param (at 133 136) None (named (at 133 136) None (nm 133 136 (codes "int")))) ∷ [])) (at 137 167) (stmt_and (eval (at 141 153) (call (at 141 153) (ident (at 141 148) (codes "println")) (expr_and (str_lit (at 149 152) (codes "\"x\"")) no_exprs) Plain)) (stmt_and (return_ (at 156 164) (expr_and (ident (at 163 164) (codes "c")) no_exprs)) no_stmts))) no_exprs Plain) no_exprs) Plain)) no_stmts))) ∷ []) }

write_before_steady_1_f0_read : read_at span_to read_front (lexemes ((tok Keyword 0 7 (codes "package")) ∷ (tok Ident 8 12 (codes "main")) ∷ (tok Inserted 12 12 (codes ";")) ∷ (tok Keyword 14 17 (codes "var")) ∷ (tok Ident 18 23 (codes "count")) ∷ (tok Operator 24 25 (codes "=")) ∷ (tok Integer 26 27 (codes "1")) ∷ (tok Inserted 27 27 (codes ";")) ∷ (tok Keyword 45 49 (codes "func")) ∷ (tok Ident 50 54 (codes "Seen")) ∷ (tok Operator 54 55 (codes "(")) ∷ (tok Ident 55 56 (codes "a")) ∷ (tok Ident 57 60 (codes "int")) ∷ (tok Operator 60 61 (codes ")")) ∷ (tok Ident 62 65 (codes "int")) ∷ (tok Operator 66 67 (codes "{")) ∷ (tok Ident 69 76 (codes "println")) ∷ (tok Operator 76 77 (codes "(")) ∷ (tok Str 77 80 (codes "\"x\"")) ∷ (tok Operator 80 81 (codes ")")) ∷ (tok Inserted 81 81 (codes ";")) ∷ (tok Keyword 83 89 (codes "return")) ∷ (tok Ident 90 91 (codes "a")) ∷ (tok Inserted 91 91 (codes ";")) ∷ (tok Operator 92 93 (codes "}")) ∷ (tok Inserted 93 93 (codes ";")) ∷ (tok Keyword 95 99 (codes "func")) ∷ (tok Ident 100 104 (codes "main")) ∷ (tok Operator 104 105 (codes "(")) ∷ (tok Operator 105 106 (codes ")")) ∷ (tok Operator 107 108 (codes "{")) ∷ (tok Ident 110 111 (codes "c")) ∷ (tok Operator 112 114 (codes ":=")) ∷ (tok Integer 115 116 (codes "1")) ∷ (tok Inserted 116 116 (codes ";")) ∷ (tok Ident 118 125 (codes "println")) ∷ (tok Operator 125 126 (codes "(")) ∷ (tok Keyword 126 130 (codes "func")) ∷ (tok Operator 130 131 (codes "(")) ∷ (tok Operator 131 132 (codes ")")) ∷ (tok Ident 133 136 (codes "int")) ∷ (tok Operator 137 138 (codes "{")) ∷ (tok Ident 141 148 (codes "println")) ∷ (tok Operator 148 149 (codes "(")) ∷ (tok Str 149 152 (codes "\"x\"")) ∷ (tok Operator 152 153 (codes ")")) ∷ (tok Inserted 153 153 (codes ";")) ∷ (tok Keyword 156 162 (codes "return")) ∷ (tok Ident 163 164 (codes "c")) ∷ (tok Inserted 164 164 (codes ";")) ∷ (tok Operator 166 167 (codes "}")) ∷ (tok Operator 167 168 (codes "(")) ∷ (tok Operator 168 169 (codes ")")) ∷ (tok Operator 169 170 (codes ")")) ∷ (tok Inserted 170 170 (codes ";")) ∷ (tok Operator 171 172 (codes "}")) ∷ (tok Inserted 172 172 (codes ";")) ∷ [])) ≡ Some (write_before_steady_1_f0, [])
unfolding reading
write_before_steady_1_f0_read = refl

abbrev write_before_steady_1 : Module
write_before_steady_1 = record { packages = (pack (codes "example.com/m") (codes "main") (source (codes "main.go") write_before_steady_1_f0 ∷ []) ∷ []); marks = (mark 0 0 1 0 ∷ []); texts = (((codes "main.go"), record { text = (codes "package main\n\nvar count = 1\n\n//go:fix inline\nfunc Seen(a int) int {\n\tprintln(\"x\")\n\treturn a\n}\n\nfunc main() {\n\tc := 1\n\tprintln(func() int {\n\t\tprintln(\"x\")\n\t\treturn c\n\t}())\n}\n"); tokens = ((tok Keyword 0 7 (codes "package")) ∷ (tok Ident 8 12 (codes "main")) ∷ (tok Inserted 12 12 (codes ";")) ∷ (tok Keyword 14 17 (codes "var")) ∷ (tok Ident 18 23 (codes "count")) ∷ (tok Operator 24 25 (codes "=")) ∷ (tok Integer 26 27 (codes "1")) ∷ (tok Inserted 27 27 (codes ";")) ∷ (tok Keyword 45 49 (codes "func")) ∷ (tok Ident 50 54 (codes "Seen")) ∷ (tok Operator 54 55 (codes "(")) ∷ (tok Ident 55 56 (codes "a")) ∷ (tok Ident 57 60 (codes "int")) ∷ (tok Operator 60 61 (codes ")")) ∷ (tok Ident 62 65 (codes "int")) ∷ (tok Operator 66 67 (codes "{")) ∷ (tok Ident 69 76 (codes "println")) ∷ (tok Operator 76 77 (codes "(")) ∷ (tok Str 77 80 (codes "\"x\"")) ∷ (tok Operator 80 81 (codes ")")) ∷ (tok Inserted 81 81 (codes ";")) ∷ (tok Keyword 83 89 (codes "return")) ∷ (tok Ident 90 91 (codes "a")) ∷ (tok Inserted 91 91 (codes ";")) ∷ (tok Operator 92 93 (codes "}")) ∷ (tok Inserted 93 93 (codes ";")) ∷ (tok Keyword 95 99 (codes "func")) ∷ (tok Ident 100 104 (codes "main")) ∷ (tok Operator 104 105 (codes "(")) ∷ (tok Operator 105 106 (codes ")")) ∷ (tok Operator 107 108 (codes "{")) ∷ (tok Ident 110 111 (codes "c")) ∷ (tok Operator 112 114 (codes ":=")) ∷ (tok Integer 115 116 (codes "1")) ∷ (tok Inserted 116 116 (codes ";")) ∷ (tok Ident 118 125 (codes "println")) ∷ (tok Operator 125 126 (codes "(")) ∷ (tok Keyword 126 130 (codes "func")) ∷ (tok Operator 130 131 (codes "(")) ∷ (tok Operator 131 132 (codes ")")) ∷ (tok Ident 133 136 (codes "int")) ∷ (tok Operator 137 138 (codes "{")) ∷ (tok Ident 141 148 (codes "println")) ∷ (tok Operator 148 149 (codes "(")) ∷ (tok Str 149 152 (codes "\"x\"")) ∷ (tok Operator 152 153 (codes ")")) ∷ (tok Inserted 153 153 (codes ";")) ∷ (tok Keyword 156 162 (codes "return")) ∷ (tok Ident 163 164 (codes "c")) ∷ (tok Inserted 164 164 (codes ";")) ∷ (tok Operator 166 167 (codes "}")) ∷ (tok Operator 167 168 (codes "(")) ∷ (tok Operator 168 169 (codes ")")) ∷ (tok Operator 169 170 (codes ")")) ∷ (tok Inserted 170 170 (codes ";")) ∷ (tok Operator 171 172 (codes "}")) ∷ (tok Inserted 172 172 (codes ";")) ∷ []); comments = ((note 29 44) ∷ []) }) ∷ []) }

write_before_steady_1_typed : is_typed write_before_steady_1 ≡ true
write_before_steady_1_typed = refl

write_before_steady_1_ends : step_of write_before_steady_1 ≡ None
write_before_steady_1_ends = refl

write_before_steady_1_kept : kept_uses write_before_steady_1 ≡ []
write_before_steady_1_kept = refl

-- A bound parameter without a use.
abbrev unused_block_0_f0 : File Span
unused_block_0_f0 = record { package_name = (nm 8 12 (codes "main")); imports = []; decls = ((fn (at 30 69) None (nm 35 39 (codes "Note")) (sig ((param (at 40 48) (Some (nm 40 41 (codes "a"))) (named (at 45 48) None (nm 45 48 (codes "int")))) ∷ (param (at 43 48) (Some (nm 43 44 (codes "b"))) (named (at 45 48) None (nm 45 48 (codes "int")))) ∷ []) []) (at 50 69) (stmt_and (eval (at 52 67) (call (at 52 67) (ident (at 52 59) (codes "println")) (expr_and (str_lit (at 60 66) (codes "\"note\"")) no_exprs) Plain)) no_stmts)) ∷ (fn (at 71 113) None (nm 76 80 (codes "next")) (sig [] ((param (at 83 86) None (named (at 83 86) None (nm 83 86 (codes "int")))) ∷ [])) (at 87 113) (stmt_and (eval (at 89 101) (call (at 89 101) (ident (at 89 96) (codes "println")) (expr_and (str_lit (at 97 100) (codes "\"n\"")) no_exprs) Plain)) (stmt_and (return_ (at 103 111) (expr_and (int_lit (at 110 111) (codes "1")) no_exprs)) no_stmts))) ∷ (fn (at 115 154) None (nm 120 121 (codes "g")) (sig [] ((param (at 124 127) None (named (at 124 127) None (nm 124 127 (codes "int")))) ∷ [])) (at 128 154) (stmt_and (eval (at 130 142) (call (at 130 142) (ident (at 130 137) (codes "println")) (expr_and (str_lit (at 138 141) (codes "\"g\"")) no_exprs) Plain)) (stmt_and (return_ (at 144 152) (expr_and (int_lit (at 151 152) (codes "1")) no_exprs)) no_stmts))) ∷ (fn (at 156 195) None (nm 161 162 (codes "h")) (sig [] ((param (at 165 168) None (named (at 165 168) None (nm 165 168 (codes "int")))) ∷ [])) (at 169 195) (stmt_and (eval (at 171 183) (call (at 171 183) (ident (at 171 178) (codes "println")) (expr_and (str_lit (at 179 182) (codes "\"h\"")) no_exprs) Plain)) (stmt_and (return_ (at 185 193) (expr_and (int_lit (at 192 193) (codes "1")) no_exprs)) no_stmts))) ∷ (fn (at 197 229) None (nm 202 206 (codes "main")) (sig [] []) (at 209 229) (stmt_and (eval (at 212 227) (call (at 212 227) (ident (at 212 216) (codes "Note")) (expr_and (call (at 217 223) (ident (at 217 221) (codes "next")) no_exprs Plain) (expr_and (int_lit (at 225 226) (codes "2")) no_exprs)) Plain)) no_stmts)) ∷ []) }

unused_block_0_f0_read : read_at span_to read_front (lexemes ((tok Keyword 0 7 (codes "package")) ∷ (tok Ident 8 12 (codes "main")) ∷ (tok Inserted 12 12 (codes ";")) ∷ (tok Keyword 30 34 (codes "func")) ∷ (tok Ident 35 39 (codes "Note")) ∷ (tok Operator 39 40 (codes "(")) ∷ (tok Ident 40 41 (codes "a")) ∷ (tok Operator 41 42 (codes ",")) ∷ (tok Ident 43 44 (codes "b")) ∷ (tok Ident 45 48 (codes "int")) ∷ (tok Operator 48 49 (codes ")")) ∷ (tok Operator 50 51 (codes "{")) ∷ (tok Ident 52 59 (codes "println")) ∷ (tok Operator 59 60 (codes "(")) ∷ (tok Str 60 66 (codes "\"note\"")) ∷ (tok Operator 66 67 (codes ")")) ∷ (tok Operator 68 69 (codes "}")) ∷ (tok Inserted 69 69 (codes ";")) ∷ (tok Keyword 71 75 (codes "func")) ∷ (tok Ident 76 80 (codes "next")) ∷ (tok Operator 80 81 (codes "(")) ∷ (tok Operator 81 82 (codes ")")) ∷ (tok Ident 83 86 (codes "int")) ∷ (tok Operator 87 88 (codes "{")) ∷ (tok Ident 89 96 (codes "println")) ∷ (tok Operator 96 97 (codes "(")) ∷ (tok Str 97 100 (codes "\"n\"")) ∷ (tok Operator 100 101 (codes ")")) ∷ (tok Operator 101 102 (codes ";")) ∷ (tok Keyword 103 109 (codes "return")) ∷ (tok Integer 110 111 (codes "1")) ∷ (tok Operator 112 113 (codes "}")) ∷ (tok Inserted 113 113 (codes ";")) ∷ (tok Keyword 115 119 (codes "func")) ∷ (tok Ident 120 121 (codes "g")) ∷ (tok Operator 121 122 (codes "(")) ∷ (tok Operator 122 123 (codes ")")) ∷ (tok Ident 124 127 (codes "int")) ∷ (tok Operator 128 129 (codes "{")) ∷ (tok Ident 130 137 (codes "println")) ∷ (tok Operator 137 138 (codes "(")) ∷ (tok Str 138 141 (codes "\"g\"")) ∷ (tok Operator 141 142 (codes ")")) ∷ (tok Operator 142 143 (codes ";")) ∷ (tok Keyword 144 150 (codes "return")) ∷ (tok Integer 151 152 (codes "1")) ∷ (tok Operator 153 154 (codes "}")) ∷ (tok Inserted 154 154 (codes ";")) ∷ (tok Keyword 156 160 (codes "func")) ∷ (tok Ident 161 162 (codes "h")) ∷ (tok Operator 162 163 (codes "(")) ∷ (tok Operator 163 164 (codes ")")) ∷ (tok Ident 165 168 (codes "int")) ∷ (tok Operator 169 170 (codes "{")) ∷ (tok Ident 171 178 (codes "println")) ∷ (tok Operator 178 179 (codes "(")) ∷ (tok Str 179 182 (codes "\"h\"")) ∷ (tok Operator 182 183 (codes ")")) ∷ (tok Operator 183 184 (codes ";")) ∷ (tok Keyword 185 191 (codes "return")) ∷ (tok Integer 192 193 (codes "1")) ∷ (tok Operator 194 195 (codes "}")) ∷ (tok Inserted 195 195 (codes ";")) ∷ (tok Keyword 197 201 (codes "func")) ∷ (tok Ident 202 206 (codes "main")) ∷ (tok Operator 206 207 (codes "(")) ∷ (tok Operator 207 208 (codes ")")) ∷ (tok Operator 209 210 (codes "{")) ∷ (tok Ident 212 216 (codes "Note")) ∷ (tok Operator 216 217 (codes "(")) ∷ (tok Ident 217 221 (codes "next")) ∷ (tok Operator 221 222 (codes "(")) ∷ (tok Operator 222 223 (codes ")")) ∷ (tok Operator 223 224 (codes ",")) ∷ (tok Integer 225 226 (codes "2")) ∷ (tok Operator 226 227 (codes ")")) ∷ (tok Inserted 227 227 (codes ";")) ∷ (tok Operator 228 229 (codes "}")) ∷ (tok Inserted 229 229 (codes ";")) ∷ [])) ≡ Some (unused_block_0_f0, [])
unfolding reading
unused_block_0_f0_read = refl

abbrev unused_block_0 : Module
unused_block_0 = record { packages = (pack (codes "example.com/m") (codes "main") (source (codes "main.go") unused_block_0_f0 ∷ []) ∷ []); marks = (mark 0 0 0 0 ∷ []); texts = (((codes "main.go"), record { text = (codes "package main\n\n//go:fix inline\nfunc Note(a, b int) { println(\"note\") }\n\nfunc next() int { println(\"n\"); return 1 }\n\nfunc g() int { println(\"g\"); return 1 }\n\nfunc h() int { println(\"h\"); return 1 }\n\nfunc main() {\n\tNote(next(), 2)\n}\n"); tokens = ((tok Keyword 0 7 (codes "package")) ∷ (tok Ident 8 12 (codes "main")) ∷ (tok Inserted 12 12 (codes ";")) ∷ (tok Keyword 30 34 (codes "func")) ∷ (tok Ident 35 39 (codes "Note")) ∷ (tok Operator 39 40 (codes "(")) ∷ (tok Ident 40 41 (codes "a")) ∷ (tok Operator 41 42 (codes ",")) ∷ (tok Ident 43 44 (codes "b")) ∷ (tok Ident 45 48 (codes "int")) ∷ (tok Operator 48 49 (codes ")")) ∷ (tok Operator 50 51 (codes "{")) ∷ (tok Ident 52 59 (codes "println")) ∷ (tok Operator 59 60 (codes "(")) ∷ (tok Str 60 66 (codes "\"note\"")) ∷ (tok Operator 66 67 (codes ")")) ∷ (tok Operator 68 69 (codes "}")) ∷ (tok Inserted 69 69 (codes ";")) ∷ (tok Keyword 71 75 (codes "func")) ∷ (tok Ident 76 80 (codes "next")) ∷ (tok Operator 80 81 (codes "(")) ∷ (tok Operator 81 82 (codes ")")) ∷ (tok Ident 83 86 (codes "int")) ∷ (tok Operator 87 88 (codes "{")) ∷ (tok Ident 89 96 (codes "println")) ∷ (tok Operator 96 97 (codes "(")) ∷ (tok Str 97 100 (codes "\"n\"")) ∷ (tok Operator 100 101 (codes ")")) ∷ (tok Operator 101 102 (codes ";")) ∷ (tok Keyword 103 109 (codes "return")) ∷ (tok Integer 110 111 (codes "1")) ∷ (tok Operator 112 113 (codes "}")) ∷ (tok Inserted 113 113 (codes ";")) ∷ (tok Keyword 115 119 (codes "func")) ∷ (tok Ident 120 121 (codes "g")) ∷ (tok Operator 121 122 (codes "(")) ∷ (tok Operator 122 123 (codes ")")) ∷ (tok Ident 124 127 (codes "int")) ∷ (tok Operator 128 129 (codes "{")) ∷ (tok Ident 130 137 (codes "println")) ∷ (tok Operator 137 138 (codes "(")) ∷ (tok Str 138 141 (codes "\"g\"")) ∷ (tok Operator 141 142 (codes ")")) ∷ (tok Operator 142 143 (codes ";")) ∷ (tok Keyword 144 150 (codes "return")) ∷ (tok Integer 151 152 (codes "1")) ∷ (tok Operator 153 154 (codes "}")) ∷ (tok Inserted 154 154 (codes ";")) ∷ (tok Keyword 156 160 (codes "func")) ∷ (tok Ident 161 162 (codes "h")) ∷ (tok Operator 162 163 (codes "(")) ∷ (tok Operator 163 164 (codes ")")) ∷ (tok Ident 165 168 (codes "int")) ∷ (tok Operator 169 170 (codes "{")) ∷ (tok Ident 171 178 (codes "println")) ∷ (tok Operator 178 179 (codes "(")) ∷ (tok Str 179 182 (codes "\"h\"")) ∷ (tok Operator 182 183 (codes ")")) ∷ (tok Operator 183 184 (codes ";")) ∷ (tok Keyword 185 191 (codes "return")) ∷ (tok Integer 192 193 (codes "1")) ∷ (tok Operator 194 195 (codes "}")) ∷ (tok Inserted 195 195 (codes ";")) ∷ (tok Keyword 197 201 (codes "func")) ∷ (tok Ident 202 206 (codes "main")) ∷ (tok Operator 206 207 (codes "(")) ∷ (tok Operator 207 208 (codes ")")) ∷ (tok Operator 209 210 (codes "{")) ∷ (tok Ident 212 216 (codes "Note")) ∷ (tok Operator 216 217 (codes "(")) ∷ (tok Ident 217 221 (codes "next")) ∷ (tok Operator 221 222 (codes "(")) ∷ (tok Operator 222 223 (codes ")")) ∷ (tok Operator 223 224 (codes ",")) ∷ (tok Integer 225 226 (codes "2")) ∷ (tok Operator 226 227 (codes ")")) ∷ (tok Inserted 227 227 (codes ";")) ∷ (tok Operator 228 229 (codes "}")) ∷ (tok Inserted 229 229 (codes ";")) ∷ []); comments = ((note 14 29) ∷ []) }) ∷ []) }

unused_block_0_typed : is_typed unused_block_0 ≡ true
unused_block_0_typed = refl

unused_block_0_step : first_change unused_block_0 ≡ Some ((codes "main.go"), BlockForm, (codes "package main\n\n//go:fix inline\nfunc Note(a, b int) { println(\"note\") }\n\nfunc next() int { println(\"n\"); return 1 }\n\nfunc g() int { println(\"g\"); return 1 }\n\nfunc h() int { println(\"h\"); return 1 }\n\nfunc main() {\n\t{\n\t\t_ = next()\n\t\tprintln(\"note\")\n\t}\n}\n"))
unused_block_0_step = refl

abbrev unused_block_1_f0 : File Span
unused_block_1_f0 = record { package_name = (nm 8 12 (codes "main")); imports = []; decls = ((fn (at 30 69) None (nm 35 39 (codes "Note")) (sig ((param (at 40 48) (Some (nm 40 41 (codes "a"))) (named (at 45 48) None (nm 45 48 (codes "int")))) ∷ (param (at 43 48) (Some (nm 43 44 (codes "b"))) (named (at 45 48) None (nm 45 48 (codes "int")))) ∷ []) []) (at 50 69) (stmt_and (eval (at 52 67) (call (at 52 67) (ident (at 52 59) (codes "println")) (expr_and (str_lit (at 60 66) (codes "\"note\"")) no_exprs) Plain)) no_stmts)) ∷ (fn (at 71 113) None (nm 76 80 (codes "next")) (sig [] ((param (at 83 86) None (named (at 83 86) None (nm 83 86 (codes "int")))) ∷ [])) (at 87 113) (stmt_and (eval (at 89 101) (call (at 89 101) (ident (at 89 96) (codes "println")) (expr_and (str_lit (at 97 100) (codes "\"n\"")) no_exprs) Plain)) (stmt_and (return_ (at 103 111) (expr_and (int_lit (at 110 111) (codes "1")) no_exprs)) no_stmts))) ∷ (fn (at 115 154) None (nm 120 121 (codes "g")) (sig [] ((param (at 124 127) None (named (at 124 127) None (nm 124 127 (codes "int")))) ∷ [])) (at 128 154) (stmt_and (eval (at 130 142) (call (at 130 142) (ident (at 130 137) (codes "println")) (expr_and (str_lit (at 138 141) (codes "\"g\"")) no_exprs) Plain)) (stmt_and (return_ (at 144 152) (expr_and (int_lit (at 151 152) (codes "1")) no_exprs)) no_stmts))) ∷ (fn (at 156 195) None (nm 161 162 (codes "h")) (sig [] ((param (at 165 168) None (named (at 165 168) None (nm 165 168 (codes "int")))) ∷ [])) (at 169 195) (stmt_and (eval (at 171 183) (call (at 171 183) (ident (at 171 178) (codes "println")) (expr_and (str_lit (at 179 182) (codes "\"h\"")) no_exprs) Plain)) (stmt_and (return_ (at 185 193) (expr_and (int_lit (at 192 193) (codes "1")) no_exprs)) no_stmts))) ∷ (fn (at 197 249) None (nm 202 206 (codes "main")) (sig [] []) (at 209 249) (stmt_and (inner (at 212 247) (stmt_and (assign (at 216 226) (expr_and (ident (at 216 217) (codes "_")) no_exprs) None (expr_and (call (at 220 226) (ident (at 220 224) (codes "next")) no_exprs Plain) no_exprs)) (stmt_and (eval (at 229 244) (call (at 229 244) (ident (at 229 236) (codes "println")) (expr_and (str_lit (at 237 243) (codes "\"note\"")) no_exprs) Plain)) no_stmts))) no_stmts)) ∷ []) }

unused_block_1_f0_read : read_at span_to read_front (lexemes ((tok Keyword 0 7 (codes "package")) ∷ (tok Ident 8 12 (codes "main")) ∷ (tok Inserted 12 12 (codes ";")) ∷ (tok Keyword 30 34 (codes "func")) ∷ (tok Ident 35 39 (codes "Note")) ∷ (tok Operator 39 40 (codes "(")) ∷ (tok Ident 40 41 (codes "a")) ∷ (tok Operator 41 42 (codes ",")) ∷ (tok Ident 43 44 (codes "b")) ∷ (tok Ident 45 48 (codes "int")) ∷ (tok Operator 48 49 (codes ")")) ∷ (tok Operator 50 51 (codes "{")) ∷ (tok Ident 52 59 (codes "println")) ∷ (tok Operator 59 60 (codes "(")) ∷ (tok Str 60 66 (codes "\"note\"")) ∷ (tok Operator 66 67 (codes ")")) ∷ (tok Operator 68 69 (codes "}")) ∷ (tok Inserted 69 69 (codes ";")) ∷ (tok Keyword 71 75 (codes "func")) ∷ (tok Ident 76 80 (codes "next")) ∷ (tok Operator 80 81 (codes "(")) ∷ (tok Operator 81 82 (codes ")")) ∷ (tok Ident 83 86 (codes "int")) ∷ (tok Operator 87 88 (codes "{")) ∷ (tok Ident 89 96 (codes "println")) ∷ (tok Operator 96 97 (codes "(")) ∷ (tok Str 97 100 (codes "\"n\"")) ∷ (tok Operator 100 101 (codes ")")) ∷ (tok Operator 101 102 (codes ";")) ∷ (tok Keyword 103 109 (codes "return")) ∷ (tok Integer 110 111 (codes "1")) ∷ (tok Operator 112 113 (codes "}")) ∷ (tok Inserted 113 113 (codes ";")) ∷ (tok Keyword 115 119 (codes "func")) ∷ (tok Ident 120 121 (codes "g")) ∷ (tok Operator 121 122 (codes "(")) ∷ (tok Operator 122 123 (codes ")")) ∷ (tok Ident 124 127 (codes "int")) ∷ (tok Operator 128 129 (codes "{")) ∷ (tok Ident 130 137 (codes "println")) ∷ (tok Operator 137 138 (codes "(")) ∷ (tok Str 138 141 (codes "\"g\"")) ∷ (tok Operator 141 142 (codes ")")) ∷ (tok Operator 142 143 (codes ";")) ∷ (tok Keyword 144 150 (codes "return")) ∷ (tok Integer 151 152 (codes "1")) ∷ (tok Operator 153 154 (codes "}")) ∷ (tok Inserted 154 154 (codes ";")) ∷ (tok Keyword 156 160 (codes "func")) ∷ (tok Ident 161 162 (codes "h")) ∷ (tok Operator 162 163 (codes "(")) ∷ (tok Operator 163 164 (codes ")")) ∷ (tok Ident 165 168 (codes "int")) ∷ (tok Operator 169 170 (codes "{")) ∷ (tok Ident 171 178 (codes "println")) ∷ (tok Operator 178 179 (codes "(")) ∷ (tok Str 179 182 (codes "\"h\"")) ∷ (tok Operator 182 183 (codes ")")) ∷ (tok Operator 183 184 (codes ";")) ∷ (tok Keyword 185 191 (codes "return")) ∷ (tok Integer 192 193 (codes "1")) ∷ (tok Operator 194 195 (codes "}")) ∷ (tok Inserted 195 195 (codes ";")) ∷ (tok Keyword 197 201 (codes "func")) ∷ (tok Ident 202 206 (codes "main")) ∷ (tok Operator 206 207 (codes "(")) ∷ (tok Operator 207 208 (codes ")")) ∷ (tok Operator 209 210 (codes "{")) ∷ (tok Operator 212 213 (codes "{")) ∷ (tok Ident 216 217 (codes "_")) ∷ (tok Operator 218 219 (codes "=")) ∷ (tok Ident 220 224 (codes "next")) ∷ (tok Operator 224 225 (codes "(")) ∷ (tok Operator 225 226 (codes ")")) ∷ (tok Inserted 226 226 (codes ";")) ∷ (tok Ident 229 236 (codes "println")) ∷ (tok Operator 236 237 (codes "(")) ∷ (tok Str 237 243 (codes "\"note\"")) ∷ (tok Operator 243 244 (codes ")")) ∷ (tok Inserted 244 244 (codes ";")) ∷ (tok Operator 246 247 (codes "}")) ∷ (tok Inserted 247 247 (codes ";")) ∷ (tok Operator 248 249 (codes "}")) ∷ (tok Inserted 249 249 (codes ";")) ∷ [])) ≡ Some (unused_block_1_f0, [])
unfolding reading
unused_block_1_f0_read = refl

abbrev unused_block_1 : Module
unused_block_1 = record { packages = (pack (codes "example.com/m") (codes "main") (source (codes "main.go") unused_block_1_f0 ∷ []) ∷ []); marks = (mark 0 0 0 0 ∷ []); texts = (((codes "main.go"), record { text = (codes "package main\n\n//go:fix inline\nfunc Note(a, b int) { println(\"note\") }\n\nfunc next() int { println(\"n\"); return 1 }\n\nfunc g() int { println(\"g\"); return 1 }\n\nfunc h() int { println(\"h\"); return 1 }\n\nfunc main() {\n\t{\n\t\t_ = next()\n\t\tprintln(\"note\")\n\t}\n}\n"); tokens = ((tok Keyword 0 7 (codes "package")) ∷ (tok Ident 8 12 (codes "main")) ∷ (tok Inserted 12 12 (codes ";")) ∷ (tok Keyword 30 34 (codes "func")) ∷ (tok Ident 35 39 (codes "Note")) ∷ (tok Operator 39 40 (codes "(")) ∷ (tok Ident 40 41 (codes "a")) ∷ (tok Operator 41 42 (codes ",")) ∷ (tok Ident 43 44 (codes "b")) ∷ (tok Ident 45 48 (codes "int")) ∷ (tok Operator 48 49 (codes ")")) ∷ (tok Operator 50 51 (codes "{")) ∷ (tok Ident 52 59 (codes "println")) ∷ (tok Operator 59 60 (codes "(")) ∷ (tok Str 60 66 (codes "\"note\"")) ∷ (tok Operator 66 67 (codes ")")) ∷ (tok Operator 68 69 (codes "}")) ∷ (tok Inserted 69 69 (codes ";")) ∷ (tok Keyword 71 75 (codes "func")) ∷ (tok Ident 76 80 (codes "next")) ∷ (tok Operator 80 81 (codes "(")) ∷ (tok Operator 81 82 (codes ")")) ∷ (tok Ident 83 86 (codes "int")) ∷ (tok Operator 87 88 (codes "{")) ∷ (tok Ident 89 96 (codes "println")) ∷ (tok Operator 96 97 (codes "(")) ∷ (tok Str 97 100 (codes "\"n\"")) ∷ (tok Operator 100 101 (codes ")")) ∷ (tok Operator 101 102 (codes ";")) ∷ (tok Keyword 103 109 (codes "return")) ∷ (tok Integer 110 111 (codes "1")) ∷ (tok Operator 112 113 (codes "}")) ∷ (tok Inserted 113 113 (codes ";")) ∷ (tok Keyword 115 119 (codes "func")) ∷ (tok Ident 120 121 (codes "g")) ∷ (tok Operator 121 122 (codes "(")) ∷ (tok Operator 122 123 (codes ")")) ∷ (tok Ident 124 127 (codes "int")) ∷ (tok Operator 128 129 (codes "{")) ∷ (tok Ident 130 137 (codes "println")) ∷ (tok Operator 137 138 (codes "(")) ∷ (tok Str 138 141 (codes "\"g\"")) ∷ (tok Operator 141 142 (codes ")")) ∷ (tok Operator 142 143 (codes ";")) ∷ (tok Keyword 144 150 (codes "return")) ∷ (tok Integer 151 152 (codes "1")) ∷ (tok Operator 153 154 (codes "}")) ∷ (tok Inserted 154 154 (codes ";")) ∷ (tok Keyword 156 160 (codes "func")) ∷ (tok Ident 161 162 (codes "h")) ∷ (tok Operator 162 163 (codes "(")) ∷ (tok Operator 163 164 (codes ")")) ∷ (tok Ident 165 168 (codes "int")) ∷ (tok Operator 169 170 (codes "{")) ∷ (tok Ident 171 178 (codes "println")) ∷ (tok Operator 178 179 (codes "(")) ∷ (tok Str 179 182 (codes "\"h\"")) ∷ (tok Operator 182 183 (codes ")")) ∷ (tok Operator 183 184 (codes ";")) ∷ (tok Keyword 185 191 (codes "return")) ∷ (tok Integer 192 193 (codes "1")) ∷ (tok Operator 194 195 (codes "}")) ∷ (tok Inserted 195 195 (codes ";")) ∷ (tok Keyword 197 201 (codes "func")) ∷ (tok Ident 202 206 (codes "main")) ∷ (tok Operator 206 207 (codes "(")) ∷ (tok Operator 207 208 (codes ")")) ∷ (tok Operator 209 210 (codes "{")) ∷ (tok Operator 212 213 (codes "{")) ∷ (tok Ident 216 217 (codes "_")) ∷ (tok Operator 218 219 (codes "=")) ∷ (tok Ident 220 224 (codes "next")) ∷ (tok Operator 224 225 (codes "(")) ∷ (tok Operator 225 226 (codes ")")) ∷ (tok Inserted 226 226 (codes ";")) ∷ (tok Ident 229 236 (codes "println")) ∷ (tok Operator 236 237 (codes "(")) ∷ (tok Str 237 243 (codes "\"note\"")) ∷ (tok Operator 243 244 (codes ")")) ∷ (tok Inserted 244 244 (codes ";")) ∷ (tok Operator 246 247 (codes "}")) ∷ (tok Inserted 247 247 (codes ";")) ∷ (tok Operator 248 249 (codes "}")) ∷ (tok Inserted 249 249 (codes ";")) ∷ []); comments = ((note 14 29) ∷ []) }) ∷ []) }

unused_block_1_typed : is_typed unused_block_1 ≡ true
unused_block_1_typed = refl

unused_block_1_ends : step_of unused_block_1 ≡ None
unused_block_1_ends = refl

unused_block_1_kept : kept_uses unused_block_1 ≡ []
unused_block_1_kept = refl

-- A receiver beside a call with several results.
abbrev spread_receiver_f0 : File Span
spread_receiver_f0 = record { package_name = (nm 8 12 (codes "main")); imports = []; decls = ((types (at 14 36) false ((tspec (at 19 36) (nm 19 20 (codes "C")) false (struct_type (at 21 36) (field (at 29 34) (nm 29 30 (codes "n")) (named (at 31 34) None (nm 31 34 (codes "int"))) no_fields))) ∷ [])) ∷ (fn (at 54 105) (Some (recv (at 60 63) (Some (nm 60 61 (codes "c"))) false (nm 62 63 (codes "C")))) (nm 65 68 (codes "Add")) (sig ((param (at 69 77) (Some (nm 69 70 (codes "a"))) (named (at 74 77) None (nm 74 77 (codes "int")))) ∷ (param (at 72 77) (Some (nm 72 73 (codes "b"))) (named (at 74 77) None (nm 74 77 (codes "int")))) ∷ []) ((param (at 79 82) None (named (at 79 82) None (nm 79 82 (codes "int")))) ∷ [])) (at 83 105) (stmt_and (return_ (at 85 103) (expr_and (binary (at 92 103) Add (binary (at 92 99) Add (selector (at 92 95) (ident (at 92 93) (codes "c")) (nm 94 95 (codes "n"))) (ident (at 98 99) (codes "a"))) (ident (at 102 103) (codes "b"))) no_exprs)) no_stmts)) ∷ (fn (at 107 144) None (nm 112 115 (codes "two")) (sig [] ((param (at 119 122) None (named (at 119 122) None (nm 119 122 (codes "int")))) ∷ (param (at 124 127) None (named (at 124 127) None (nm 124 127 (codes "int")))) ∷ [])) (at 129 144) (stmt_and (return_ (at 131 142) (expr_and (int_lit (at 138 139) (codes "1")) (expr_and (int_lit (at 141 142) (codes "2")) no_exprs))) no_stmts)) ∷ (fn (at 146 195) None (nm 151 155 (codes "main")) (sig [] []) (at 158 195) (stmt_and (define (at 161 170) ((nm 161 162 (codes "v")) ∷ []) (expr_and (composite (at 166 170) (named (at 166 167) None (nm 166 167 (codes "C"))) (elem (at 168 169) no_value (plain (int_lit (at 168 169) (codes "1"))) no_elems)) no_exprs)) (stmt_and (eval (at 172 193) (call (at 172 193) (ident (at 172 179) (codes "println")) (expr_and (call (at 180 192) (selector (at 180 185) (ident (at 180 181) (codes "v")) (nm 182 185 (codes "Add"))) (expr_and (call (at 186 191) (ident (at 186 189) (codes "two")) no_exprs Plain) no_exprs) Plain) no_exprs) Plain)) no_stmts))) ∷ []) }

spread_receiver_f0_read : read_at span_to read_front (lexemes ((tok Keyword 0 7 (codes "package")) ∷ (tok Ident 8 12 (codes "main")) ∷ (tok Inserted 12 12 (codes ";")) ∷ (tok Keyword 14 18 (codes "type")) ∷ (tok Ident 19 20 (codes "C")) ∷ (tok Keyword 21 27 (codes "struct")) ∷ (tok Operator 27 28 (codes "{")) ∷ (tok Ident 29 30 (codes "n")) ∷ (tok Ident 31 34 (codes "int")) ∷ (tok Operator 35 36 (codes "}")) ∷ (tok Inserted 36 36 (codes ";")) ∷ (tok Keyword 54 58 (codes "func")) ∷ (tok Operator 59 60 (codes "(")) ∷ (tok Ident 60 61 (codes "c")) ∷ (tok Ident 62 63 (codes "C")) ∷ (tok Operator 63 64 (codes ")")) ∷ (tok Ident 65 68 (codes "Add")) ∷ (tok Operator 68 69 (codes "(")) ∷ (tok Ident 69 70 (codes "a")) ∷ (tok Operator 70 71 (codes ",")) ∷ (tok Ident 72 73 (codes "b")) ∷ (tok Ident 74 77 (codes "int")) ∷ (tok Operator 77 78 (codes ")")) ∷ (tok Ident 79 82 (codes "int")) ∷ (tok Operator 83 84 (codes "{")) ∷ (tok Keyword 85 91 (codes "return")) ∷ (tok Ident 92 93 (codes "c")) ∷ (tok Operator 93 94 (codes ".")) ∷ (tok Ident 94 95 (codes "n")) ∷ (tok Operator 96 97 (codes "+")) ∷ (tok Ident 98 99 (codes "a")) ∷ (tok Operator 100 101 (codes "+")) ∷ (tok Ident 102 103 (codes "b")) ∷ (tok Operator 104 105 (codes "}")) ∷ (tok Inserted 105 105 (codes ";")) ∷ (tok Keyword 107 111 (codes "func")) ∷ (tok Ident 112 115 (codes "two")) ∷ (tok Operator 115 116 (codes "(")) ∷ (tok Operator 116 117 (codes ")")) ∷ (tok Operator 118 119 (codes "(")) ∷ (tok Ident 119 122 (codes "int")) ∷ (tok Operator 122 123 (codes ",")) ∷ (tok Ident 124 127 (codes "int")) ∷ (tok Operator 127 128 (codes ")")) ∷ (tok Operator 129 130 (codes "{")) ∷ (tok Keyword 131 137 (codes "return")) ∷ (tok Integer 138 139 (codes "1")) ∷ (tok Operator 139 140 (codes ",")) ∷ (tok Integer 141 142 (codes "2")) ∷ (tok Operator 143 144 (codes "}")) ∷ (tok Inserted 144 144 (codes ";")) ∷ (tok Keyword 146 150 (codes "func")) ∷ (tok Ident 151 155 (codes "main")) ∷ (tok Operator 155 156 (codes "(")) ∷ (tok Operator 156 157 (codes ")")) ∷ (tok Operator 158 159 (codes "{")) ∷ (tok Ident 161 162 (codes "v")) ∷ (tok Operator 163 165 (codes ":=")) ∷ (tok Ident 166 167 (codes "C")) ∷ (tok Operator 167 168 (codes "{")) ∷ (tok Integer 168 169 (codes "1")) ∷ (tok Operator 169 170 (codes "}")) ∷ (tok Inserted 170 170 (codes ";")) ∷ (tok Ident 172 179 (codes "println")) ∷ (tok Operator 179 180 (codes "(")) ∷ (tok Ident 180 181 (codes "v")) ∷ (tok Operator 181 182 (codes ".")) ∷ (tok Ident 182 185 (codes "Add")) ∷ (tok Operator 185 186 (codes "(")) ∷ (tok Ident 186 189 (codes "two")) ∷ (tok Operator 189 190 (codes "(")) ∷ (tok Operator 190 191 (codes ")")) ∷ (tok Operator 191 192 (codes ")")) ∷ (tok Operator 192 193 (codes ")")) ∷ (tok Inserted 193 193 (codes ";")) ∷ (tok Operator 194 195 (codes "}")) ∷ (tok Inserted 195 195 (codes ";")) ∷ [])) ≡ Some (spread_receiver_f0, [])
unfolding reading
spread_receiver_f0_read = refl

abbrev spread_receiver : Module
spread_receiver = record { packages = (pack (codes "example.com/m") (codes "main") (source (codes "main.go") spread_receiver_f0 ∷ []) ∷ []); marks = (mark 0 0 1 0 ∷ []); texts = (((codes "main.go"), record { text = (codes "package main\n\ntype C struct{ n int }\n\n//go:fix inline\nfunc (c C) Add(a, b int) int { return c.n + a + b }\n\nfunc two() (int, int) { return 1, 2 }\n\nfunc main() {\n\tv := C{1}\n\tprintln(v.Add(two()))\n}\n"); tokens = ((tok Keyword 0 7 (codes "package")) ∷ (tok Ident 8 12 (codes "main")) ∷ (tok Inserted 12 12 (codes ";")) ∷ (tok Keyword 14 18 (codes "type")) ∷ (tok Ident 19 20 (codes "C")) ∷ (tok Keyword 21 27 (codes "struct")) ∷ (tok Operator 27 28 (codes "{")) ∷ (tok Ident 29 30 (codes "n")) ∷ (tok Ident 31 34 (codes "int")) ∷ (tok Operator 35 36 (codes "}")) ∷ (tok Inserted 36 36 (codes ";")) ∷ (tok Keyword 54 58 (codes "func")) ∷ (tok Operator 59 60 (codes "(")) ∷ (tok Ident 60 61 (codes "c")) ∷ (tok Ident 62 63 (codes "C")) ∷ (tok Operator 63 64 (codes ")")) ∷ (tok Ident 65 68 (codes "Add")) ∷ (tok Operator 68 69 (codes "(")) ∷ (tok Ident 69 70 (codes "a")) ∷ (tok Operator 70 71 (codes ",")) ∷ (tok Ident 72 73 (codes "b")) ∷ (tok Ident 74 77 (codes "int")) ∷ (tok Operator 77 78 (codes ")")) ∷ (tok Ident 79 82 (codes "int")) ∷ (tok Operator 83 84 (codes "{")) ∷ (tok Keyword 85 91 (codes "return")) ∷ (tok Ident 92 93 (codes "c")) ∷ (tok Operator 93 94 (codes ".")) ∷ (tok Ident 94 95 (codes "n")) ∷ (tok Operator 96 97 (codes "+")) ∷ (tok Ident 98 99 (codes "a")) ∷ (tok Operator 100 101 (codes "+")) ∷ (tok Ident 102 103 (codes "b")) ∷ (tok Operator 104 105 (codes "}")) ∷ (tok Inserted 105 105 (codes ";")) ∷ (tok Keyword 107 111 (codes "func")) ∷ (tok Ident 112 115 (codes "two")) ∷ (tok Operator 115 116 (codes "(")) ∷ (tok Operator 116 117 (codes ")")) ∷ (tok Operator 118 119 (codes "(")) ∷ (tok Ident 119 122 (codes "int")) ∷ (tok Operator 122 123 (codes ",")) ∷ (tok Ident 124 127 (codes "int")) ∷ (tok Operator 127 128 (codes ")")) ∷ (tok Operator 129 130 (codes "{")) ∷ (tok Keyword 131 137 (codes "return")) ∷ (tok Integer 138 139 (codes "1")) ∷ (tok Operator 139 140 (codes ",")) ∷ (tok Integer 141 142 (codes "2")) ∷ (tok Operator 143 144 (codes "}")) ∷ (tok Inserted 144 144 (codes ";")) ∷ (tok Keyword 146 150 (codes "func")) ∷ (tok Ident 151 155 (codes "main")) ∷ (tok Operator 155 156 (codes "(")) ∷ (tok Operator 156 157 (codes ")")) ∷ (tok Operator 158 159 (codes "{")) ∷ (tok Ident 161 162 (codes "v")) ∷ (tok Operator 163 165 (codes ":=")) ∷ (tok Ident 166 167 (codes "C")) ∷ (tok Operator 167 168 (codes "{")) ∷ (tok Integer 168 169 (codes "1")) ∷ (tok Operator 169 170 (codes "}")) ∷ (tok Inserted 170 170 (codes ";")) ∷ (tok Ident 172 179 (codes "println")) ∷ (tok Operator 179 180 (codes "(")) ∷ (tok Ident 180 181 (codes "v")) ∷ (tok Operator 181 182 (codes ".")) ∷ (tok Ident 182 185 (codes "Add")) ∷ (tok Operator 185 186 (codes "(")) ∷ (tok Ident 186 189 (codes "two")) ∷ (tok Operator 189 190 (codes "(")) ∷ (tok Operator 190 191 (codes ")")) ∷ (tok Operator 191 192 (codes ")")) ∷ (tok Operator 192 193 (codes ")")) ∷ (tok Inserted 193 193 (codes ";")) ∷ (tok Operator 194 195 (codes "}")) ∷ (tok Inserted 195 195 (codes ";")) ∷ []); comments = ((note 38 53) ∷ []) }) ∷ []) }

spread_receiver_typed : is_typed spread_receiver ≡ true
spread_receiver_typed = refl

spread_receiver_ends : step_of spread_receiver ≡ None
spread_receiver_ends = refl

spread_receiver_kept : kept_uses spread_receiver ≡ (((codes "main.go"), 180, Some Spread) ∷ [])
spread_receiver_kept = refl

-- A deferred call of a function that recovers.
abbrev guard_deferred_0_f0 : File Span
guard_deferred_0_f0 = record { package_name = (nm 8 12 (codes "main")); imports = []; decls = ((fn (at 30 56) None (nm 35 40 (codes "Guard")) (sig [] []) (at 43 56) (stmt_and (eval (at 45 54) (call (at 45 54) (ident (at 45 52) (codes "recover")) no_exprs Plain)) no_stmts)) ∷ (fn (at 58 100) None (nm 63 67 (codes "main")) (sig [] []) (at 70 100) (stmt_and (defer (at 73 86) (call (at 79 86) (ident (at 79 84) (codes "Guard")) no_exprs Plain)) (stmt_and (eval (at 88 98) (call (at 88 98) (ident (at 88 93) (codes "panic")) (expr_and (str_lit (at 94 97) (codes "\"x\"")) no_exprs) Plain)) no_stmts))) ∷ []) }

guard_deferred_0_f0_read : read_at span_to read_front (lexemes ((tok Keyword 0 7 (codes "package")) ∷ (tok Ident 8 12 (codes "main")) ∷ (tok Inserted 12 12 (codes ";")) ∷ (tok Keyword 30 34 (codes "func")) ∷ (tok Ident 35 40 (codes "Guard")) ∷ (tok Operator 40 41 (codes "(")) ∷ (tok Operator 41 42 (codes ")")) ∷ (tok Operator 43 44 (codes "{")) ∷ (tok Ident 45 52 (codes "recover")) ∷ (tok Operator 52 53 (codes "(")) ∷ (tok Operator 53 54 (codes ")")) ∷ (tok Operator 55 56 (codes "}")) ∷ (tok Inserted 56 56 (codes ";")) ∷ (tok Keyword 58 62 (codes "func")) ∷ (tok Ident 63 67 (codes "main")) ∷ (tok Operator 67 68 (codes "(")) ∷ (tok Operator 68 69 (codes ")")) ∷ (tok Operator 70 71 (codes "{")) ∷ (tok Keyword 73 78 (codes "defer")) ∷ (tok Ident 79 84 (codes "Guard")) ∷ (tok Operator 84 85 (codes "(")) ∷ (tok Operator 85 86 (codes ")")) ∷ (tok Inserted 86 86 (codes ";")) ∷ (tok Ident 88 93 (codes "panic")) ∷ (tok Operator 93 94 (codes "(")) ∷ (tok Str 94 97 (codes "\"x\"")) ∷ (tok Operator 97 98 (codes ")")) ∷ (tok Inserted 98 98 (codes ";")) ∷ (tok Operator 99 100 (codes "}")) ∷ (tok Inserted 100 100 (codes ";")) ∷ [])) ≡ Some (guard_deferred_0_f0, [])
unfolding reading
guard_deferred_0_f0_read = refl

abbrev guard_deferred_0 : Module
guard_deferred_0 = record { packages = (pack (codes "example.com/m") (codes "main") (source (codes "main.go") guard_deferred_0_f0 ∷ []) ∷ []); marks = (mark 0 0 0 0 ∷ []); texts = (((codes "main.go"), record { text = (codes "package main\n\n//go:fix inline\nfunc Guard() { recover() }\n\nfunc main() {\n\tdefer Guard()\n\tpanic(\"x\")\n}\n"); tokens = ((tok Keyword 0 7 (codes "package")) ∷ (tok Ident 8 12 (codes "main")) ∷ (tok Inserted 12 12 (codes ";")) ∷ (tok Keyword 30 34 (codes "func")) ∷ (tok Ident 35 40 (codes "Guard")) ∷ (tok Operator 40 41 (codes "(")) ∷ (tok Operator 41 42 (codes ")")) ∷ (tok Operator 43 44 (codes "{")) ∷ (tok Ident 45 52 (codes "recover")) ∷ (tok Operator 52 53 (codes "(")) ∷ (tok Operator 53 54 (codes ")")) ∷ (tok Operator 55 56 (codes "}")) ∷ (tok Inserted 56 56 (codes ";")) ∷ (tok Keyword 58 62 (codes "func")) ∷ (tok Ident 63 67 (codes "main")) ∷ (tok Operator 67 68 (codes "(")) ∷ (tok Operator 68 69 (codes ")")) ∷ (tok Operator 70 71 (codes "{")) ∷ (tok Keyword 73 78 (codes "defer")) ∷ (tok Ident 79 84 (codes "Guard")) ∷ (tok Operator 84 85 (codes "(")) ∷ (tok Operator 85 86 (codes ")")) ∷ (tok Inserted 86 86 (codes ";")) ∷ (tok Ident 88 93 (codes "panic")) ∷ (tok Operator 93 94 (codes "(")) ∷ (tok Str 94 97 (codes "\"x\"")) ∷ (tok Operator 97 98 (codes ")")) ∷ (tok Inserted 98 98 (codes ";")) ∷ (tok Operator 99 100 (codes "}")) ∷ (tok Inserted 100 100 (codes ";")) ∷ []); comments = ((note 14 29) ∷ []) }) ∷ []) }

guard_deferred_0_typed : is_typed guard_deferred_0 ≡ true
guard_deferred_0_typed = refl

guard_deferred_0_step : first_change guard_deferred_0 ≡ Some ((codes "main.go"), LiteralForm, (codes "package main\n\n//go:fix inline\nfunc Guard() { recover() }\n\nfunc main() {\n\tdefer func() {\n\t\trecover()\n\t}()\n\tpanic(\"x\")\n}\n"))
guard_deferred_0_step = refl

abbrev guard_deferred_1_f0 : File Span
guard_deferred_1_f0 = record { package_name = (nm 8 12 (codes "main")); imports = []; decls = ((fn (at 30 56) None (nm 35 40 (codes "Guard")) (sig [] []) (at 43 56) (stmt_and (eval (at 45 54) (call (at 45 54) (ident (at 45 52) (codes "recover")) no_exprs Plain)) no_stmts)) ∷ (fn (at 58 118) None (nm 63 67 (codes "main")) (sig [] []) (at 70 118) (stmt_and (defer (at 73 104) (call (at 79 104) (func_lit (at 79 102) (sig [] []) (at 86 102) (stmt_and (eval (at 90 99) (call (at 90 99) (ident (at 90 97) (codes "recover")) no_exprs Plain)) no_stmts)) no_exprs Plain)) (stmt_and (eval (at 106 116) (call (at 106 116) (ident (at 106 111) (codes "panic")) (expr_and (str_lit (at 112 115) (codes "\"x\"")) no_exprs) Plain)) no_stmts))) ∷ []) }

guard_deferred_1_f0_read : read_at span_to read_front (lexemes ((tok Keyword 0 7 (codes "package")) ∷ (tok Ident 8 12 (codes "main")) ∷ (tok Inserted 12 12 (codes ";")) ∷ (tok Keyword 30 34 (codes "func")) ∷ (tok Ident 35 40 (codes "Guard")) ∷ (tok Operator 40 41 (codes "(")) ∷ (tok Operator 41 42 (codes ")")) ∷ (tok Operator 43 44 (codes "{")) ∷ (tok Ident 45 52 (codes "recover")) ∷ (tok Operator 52 53 (codes "(")) ∷ (tok Operator 53 54 (codes ")")) ∷ (tok Operator 55 56 (codes "}")) ∷ (tok Inserted 56 56 (codes ";")) ∷ (tok Keyword 58 62 (codes "func")) ∷ (tok Ident 63 67 (codes "main")) ∷ (tok Operator 67 68 (codes "(")) ∷ (tok Operator 68 69 (codes ")")) ∷ (tok Operator 70 71 (codes "{")) ∷ (tok Keyword 73 78 (codes "defer")) ∷ (tok Keyword 79 83 (codes "func")) ∷ (tok Operator 83 84 (codes "(")) ∷ (tok Operator 84 85 (codes ")")) ∷ (tok Operator 86 87 (codes "{")) ∷ (tok Ident 90 97 (codes "recover")) ∷ (tok Operator 97 98 (codes "(")) ∷ (tok Operator 98 99 (codes ")")) ∷ (tok Inserted 99 99 (codes ";")) ∷ (tok Operator 101 102 (codes "}")) ∷ (tok Operator 102 103 (codes "(")) ∷ (tok Operator 103 104 (codes ")")) ∷ (tok Inserted 104 104 (codes ";")) ∷ (tok Ident 106 111 (codes "panic")) ∷ (tok Operator 111 112 (codes "(")) ∷ (tok Str 112 115 (codes "\"x\"")) ∷ (tok Operator 115 116 (codes ")")) ∷ (tok Inserted 116 116 (codes ";")) ∷ (tok Operator 117 118 (codes "}")) ∷ (tok Inserted 118 118 (codes ";")) ∷ [])) ≡ Some (guard_deferred_1_f0, [])
unfolding reading
guard_deferred_1_f0_read = refl

abbrev guard_deferred_1 : Module
guard_deferred_1 = record { packages = (pack (codes "example.com/m") (codes "main") (source (codes "main.go") guard_deferred_1_f0 ∷ []) ∷ []); marks = (mark 0 0 0 0 ∷ []); texts = (((codes "main.go"), record { text = (codes "package main\n\n//go:fix inline\nfunc Guard() { recover() }\n\nfunc main() {\n\tdefer func() {\n\t\trecover()\n\t}()\n\tpanic(\"x\")\n}\n"); tokens = ((tok Keyword 0 7 (codes "package")) ∷ (tok Ident 8 12 (codes "main")) ∷ (tok Inserted 12 12 (codes ";")) ∷ (tok Keyword 30 34 (codes "func")) ∷ (tok Ident 35 40 (codes "Guard")) ∷ (tok Operator 40 41 (codes "(")) ∷ (tok Operator 41 42 (codes ")")) ∷ (tok Operator 43 44 (codes "{")) ∷ (tok Ident 45 52 (codes "recover")) ∷ (tok Operator 52 53 (codes "(")) ∷ (tok Operator 53 54 (codes ")")) ∷ (tok Operator 55 56 (codes "}")) ∷ (tok Inserted 56 56 (codes ";")) ∷ (tok Keyword 58 62 (codes "func")) ∷ (tok Ident 63 67 (codes "main")) ∷ (tok Operator 67 68 (codes "(")) ∷ (tok Operator 68 69 (codes ")")) ∷ (tok Operator 70 71 (codes "{")) ∷ (tok Keyword 73 78 (codes "defer")) ∷ (tok Keyword 79 83 (codes "func")) ∷ (tok Operator 83 84 (codes "(")) ∷ (tok Operator 84 85 (codes ")")) ∷ (tok Operator 86 87 (codes "{")) ∷ (tok Ident 90 97 (codes "recover")) ∷ (tok Operator 97 98 (codes "(")) ∷ (tok Operator 98 99 (codes ")")) ∷ (tok Inserted 99 99 (codes ";")) ∷ (tok Operator 101 102 (codes "}")) ∷ (tok Operator 102 103 (codes "(")) ∷ (tok Operator 103 104 (codes ")")) ∷ (tok Inserted 104 104 (codes ";")) ∷ (tok Ident 106 111 (codes "panic")) ∷ (tok Operator 111 112 (codes "(")) ∷ (tok Str 112 115 (codes "\"x\"")) ∷ (tok Operator 115 116 (codes ")")) ∷ (tok Inserted 116 116 (codes ";")) ∷ (tok Operator 117 118 (codes "}")) ∷ (tok Inserted 118 118 (codes ";")) ∷ []); comments = ((note 14 29) ∷ []) }) ∷ []) }

guard_deferred_1_typed : is_typed guard_deferred_1 ≡ true
guard_deferred_1_typed = refl

guard_deferred_1_ends : step_of guard_deferred_1 ≡ None
guard_deferred_1_ends = refl

guard_deferred_1_kept : kept_uses guard_deferred_1 ≡ []
guard_deferred_1_kept = refl

-- A call of a function that recovers stays a call.
abbrev guard_inside_0_f0 : File Span
guard_inside_0_f0 = record { package_name = (nm 8 12 (codes "main")); imports = []; decls = ((fn (at 30 56) None (nm 35 40 (codes "Guard")) (sig [] []) (at 43 56) (stmt_and (eval (at 45 54) (call (at 45 54) (ident (at 45 52) (codes "recover")) no_exprs Plain)) no_stmts)) ∷ (fn (at 58 116) None (nm 63 67 (codes "main")) (sig [] []) (at 70 116) (stmt_and (defer (at 73 102) (call (at 79 102) (func_lit (at 79 100) (sig [] []) (at 86 100) (stmt_and (eval (at 90 97) (call (at 90 97) (ident (at 90 95) (codes "Guard")) no_exprs Plain)) no_stmts)) no_exprs Plain)) (stmt_and (eval (at 104 114) (call (at 104 114) (ident (at 104 109) (codes "panic")) (expr_and (str_lit (at 110 113) (codes "\"x\"")) no_exprs) Plain)) no_stmts))) ∷ []) }

guard_inside_0_f0_read : read_at span_to read_front (lexemes ((tok Keyword 0 7 (codes "package")) ∷ (tok Ident 8 12 (codes "main")) ∷ (tok Inserted 12 12 (codes ";")) ∷ (tok Keyword 30 34 (codes "func")) ∷ (tok Ident 35 40 (codes "Guard")) ∷ (tok Operator 40 41 (codes "(")) ∷ (tok Operator 41 42 (codes ")")) ∷ (tok Operator 43 44 (codes "{")) ∷ (tok Ident 45 52 (codes "recover")) ∷ (tok Operator 52 53 (codes "(")) ∷ (tok Operator 53 54 (codes ")")) ∷ (tok Operator 55 56 (codes "}")) ∷ (tok Inserted 56 56 (codes ";")) ∷ (tok Keyword 58 62 (codes "func")) ∷ (tok Ident 63 67 (codes "main")) ∷ (tok Operator 67 68 (codes "(")) ∷ (tok Operator 68 69 (codes ")")) ∷ (tok Operator 70 71 (codes "{")) ∷ (tok Keyword 73 78 (codes "defer")) ∷ (tok Keyword 79 83 (codes "func")) ∷ (tok Operator 83 84 (codes "(")) ∷ (tok Operator 84 85 (codes ")")) ∷ (tok Operator 86 87 (codes "{")) ∷ (tok Ident 90 95 (codes "Guard")) ∷ (tok Operator 95 96 (codes "(")) ∷ (tok Operator 96 97 (codes ")")) ∷ (tok Inserted 97 97 (codes ";")) ∷ (tok Operator 99 100 (codes "}")) ∷ (tok Operator 100 101 (codes "(")) ∷ (tok Operator 101 102 (codes ")")) ∷ (tok Inserted 102 102 (codes ";")) ∷ (tok Ident 104 109 (codes "panic")) ∷ (tok Operator 109 110 (codes "(")) ∷ (tok Str 110 113 (codes "\"x\"")) ∷ (tok Operator 113 114 (codes ")")) ∷ (tok Inserted 114 114 (codes ";")) ∷ (tok Operator 115 116 (codes "}")) ∷ (tok Inserted 116 116 (codes ";")) ∷ [])) ≡ Some (guard_inside_0_f0, [])
unfolding reading
guard_inside_0_f0_read = refl

abbrev guard_inside_0 : Module
guard_inside_0 = record { packages = (pack (codes "example.com/m") (codes "main") (source (codes "main.go") guard_inside_0_f0 ∷ []) ∷ []); marks = (mark 0 0 0 0 ∷ []); texts = (((codes "main.go"), record { text = (codes "package main\n\n//go:fix inline\nfunc Guard() { recover() }\n\nfunc main() {\n\tdefer func() {\n\t\tGuard()\n\t}()\n\tpanic(\"x\")\n}\n"); tokens = ((tok Keyword 0 7 (codes "package")) ∷ (tok Ident 8 12 (codes "main")) ∷ (tok Inserted 12 12 (codes ";")) ∷ (tok Keyword 30 34 (codes "func")) ∷ (tok Ident 35 40 (codes "Guard")) ∷ (tok Operator 40 41 (codes "(")) ∷ (tok Operator 41 42 (codes ")")) ∷ (tok Operator 43 44 (codes "{")) ∷ (tok Ident 45 52 (codes "recover")) ∷ (tok Operator 52 53 (codes "(")) ∷ (tok Operator 53 54 (codes ")")) ∷ (tok Operator 55 56 (codes "}")) ∷ (tok Inserted 56 56 (codes ";")) ∷ (tok Keyword 58 62 (codes "func")) ∷ (tok Ident 63 67 (codes "main")) ∷ (tok Operator 67 68 (codes "(")) ∷ (tok Operator 68 69 (codes ")")) ∷ (tok Operator 70 71 (codes "{")) ∷ (tok Keyword 73 78 (codes "defer")) ∷ (tok Keyword 79 83 (codes "func")) ∷ (tok Operator 83 84 (codes "(")) ∷ (tok Operator 84 85 (codes ")")) ∷ (tok Operator 86 87 (codes "{")) ∷ (tok Ident 90 95 (codes "Guard")) ∷ (tok Operator 95 96 (codes "(")) ∷ (tok Operator 96 97 (codes ")")) ∷ (tok Inserted 97 97 (codes ";")) ∷ (tok Operator 99 100 (codes "}")) ∷ (tok Operator 100 101 (codes "(")) ∷ (tok Operator 101 102 (codes ")")) ∷ (tok Inserted 102 102 (codes ";")) ∷ (tok Ident 104 109 (codes "panic")) ∷ (tok Operator 109 110 (codes "(")) ∷ (tok Str 110 113 (codes "\"x\"")) ∷ (tok Operator 113 114 (codes ")")) ∷ (tok Inserted 114 114 (codes ";")) ∷ (tok Operator 115 116 (codes "}")) ∷ (tok Inserted 116 116 (codes ";")) ∷ []); comments = ((note 14 29) ∷ []) }) ∷ []) }

guard_inside_0_typed : is_typed guard_inside_0 ≡ true
guard_inside_0_typed = refl

guard_inside_0_step : first_change guard_inside_0 ≡ Some ((codes "main.go"), LiteralForm, (codes "package main\n\n//go:fix inline\nfunc Guard() { recover() }\n\nfunc main() {\n\tdefer func() {\n\t\tfunc() {\n\t\t\trecover()\n\t\t}()\n\t}()\n\tpanic(\"x\")\n}\n"))
guard_inside_0_step = refl

abbrev guard_inside_1_f0 : File Span
guard_inside_1_f0 = record { package_name = (nm 8 12 (codes "main")); imports = []; decls = ((fn (at 30 56) None (nm 35 40 (codes "Guard")) (sig [] []) (at 43 56) (stmt_and (eval (at 45 54) (call (at 45 54) (ident (at 45 52) (codes "recover")) no_exprs Plain)) no_stmts)) ∷ (fn (at 58 136) None (nm 63 67 (codes "main")) (sig [] []) (at 70 136) (stmt_and (defer (at 73 122) (call (at 79 122) (func_lit (at 79 120) (sig [] []) (at 86 120) (stmt_and (eval (at 90 117) (call (at 90 117) (func_lit (at 90 115) (sig [] []) (at 97 115) (stmt_and (eval (at 102 111) (call (at 102 111) (ident (at 102 109) (codes "recover")) no_exprs Plain)) no_stmts)) no_exprs Plain)) no_stmts)) no_exprs Plain)) (stmt_and (eval (at 124 134) (call (at 124 134) (ident (at 124 129) (codes "panic")) (expr_and (str_lit (at 130 133) (codes "\"x\"")) no_exprs) Plain)) no_stmts))) ∷ []) }

guard_inside_1_f0_read : read_at span_to read_front (lexemes ((tok Keyword 0 7 (codes "package")) ∷ (tok Ident 8 12 (codes "main")) ∷ (tok Inserted 12 12 (codes ";")) ∷ (tok Keyword 30 34 (codes "func")) ∷ (tok Ident 35 40 (codes "Guard")) ∷ (tok Operator 40 41 (codes "(")) ∷ (tok Operator 41 42 (codes ")")) ∷ (tok Operator 43 44 (codes "{")) ∷ (tok Ident 45 52 (codes "recover")) ∷ (tok Operator 52 53 (codes "(")) ∷ (tok Operator 53 54 (codes ")")) ∷ (tok Operator 55 56 (codes "}")) ∷ (tok Inserted 56 56 (codes ";")) ∷ (tok Keyword 58 62 (codes "func")) ∷ (tok Ident 63 67 (codes "main")) ∷ (tok Operator 67 68 (codes "(")) ∷ (tok Operator 68 69 (codes ")")) ∷ (tok Operator 70 71 (codes "{")) ∷ (tok Keyword 73 78 (codes "defer")) ∷ (tok Keyword 79 83 (codes "func")) ∷ (tok Operator 83 84 (codes "(")) ∷ (tok Operator 84 85 (codes ")")) ∷ (tok Operator 86 87 (codes "{")) ∷ (tok Keyword 90 94 (codes "func")) ∷ (tok Operator 94 95 (codes "(")) ∷ (tok Operator 95 96 (codes ")")) ∷ (tok Operator 97 98 (codes "{")) ∷ (tok Ident 102 109 (codes "recover")) ∷ (tok Operator 109 110 (codes "(")) ∷ (tok Operator 110 111 (codes ")")) ∷ (tok Inserted 111 111 (codes ";")) ∷ (tok Operator 114 115 (codes "}")) ∷ (tok Operator 115 116 (codes "(")) ∷ (tok Operator 116 117 (codes ")")) ∷ (tok Inserted 117 117 (codes ";")) ∷ (tok Operator 119 120 (codes "}")) ∷ (tok Operator 120 121 (codes "(")) ∷ (tok Operator 121 122 (codes ")")) ∷ (tok Inserted 122 122 (codes ";")) ∷ (tok Ident 124 129 (codes "panic")) ∷ (tok Operator 129 130 (codes "(")) ∷ (tok Str 130 133 (codes "\"x\"")) ∷ (tok Operator 133 134 (codes ")")) ∷ (tok Inserted 134 134 (codes ";")) ∷ (tok Operator 135 136 (codes "}")) ∷ (tok Inserted 136 136 (codes ";")) ∷ [])) ≡ Some (guard_inside_1_f0, [])
unfolding reading
guard_inside_1_f0_read = refl

abbrev guard_inside_1 : Module
guard_inside_1 = record { packages = (pack (codes "example.com/m") (codes "main") (source (codes "main.go") guard_inside_1_f0 ∷ []) ∷ []); marks = (mark 0 0 0 0 ∷ []); texts = (((codes "main.go"), record { text = (codes "package main\n\n//go:fix inline\nfunc Guard() { recover() }\n\nfunc main() {\n\tdefer func() {\n\t\tfunc() {\n\t\t\trecover()\n\t\t}()\n\t}()\n\tpanic(\"x\")\n}\n"); tokens = ((tok Keyword 0 7 (codes "package")) ∷ (tok Ident 8 12 (codes "main")) ∷ (tok Inserted 12 12 (codes ";")) ∷ (tok Keyword 30 34 (codes "func")) ∷ (tok Ident 35 40 (codes "Guard")) ∷ (tok Operator 40 41 (codes "(")) ∷ (tok Operator 41 42 (codes ")")) ∷ (tok Operator 43 44 (codes "{")) ∷ (tok Ident 45 52 (codes "recover")) ∷ (tok Operator 52 53 (codes "(")) ∷ (tok Operator 53 54 (codes ")")) ∷ (tok Operator 55 56 (codes "}")) ∷ (tok Inserted 56 56 (codes ";")) ∷ (tok Keyword 58 62 (codes "func")) ∷ (tok Ident 63 67 (codes "main")) ∷ (tok Operator 67 68 (codes "(")) ∷ (tok Operator 68 69 (codes ")")) ∷ (tok Operator 70 71 (codes "{")) ∷ (tok Keyword 73 78 (codes "defer")) ∷ (tok Keyword 79 83 (codes "func")) ∷ (tok Operator 83 84 (codes "(")) ∷ (tok Operator 84 85 (codes ")")) ∷ (tok Operator 86 87 (codes "{")) ∷ (tok Keyword 90 94 (codes "func")) ∷ (tok Operator 94 95 (codes "(")) ∷ (tok Operator 95 96 (codes ")")) ∷ (tok Operator 97 98 (codes "{")) ∷ (tok Ident 102 109 (codes "recover")) ∷ (tok Operator 109 110 (codes "(")) ∷ (tok Operator 110 111 (codes ")")) ∷ (tok Inserted 111 111 (codes ";")) ∷ (tok Operator 114 115 (codes "}")) ∷ (tok Operator 115 116 (codes "(")) ∷ (tok Operator 116 117 (codes ")")) ∷ (tok Inserted 117 117 (codes ";")) ∷ (tok Operator 119 120 (codes "}")) ∷ (tok Operator 120 121 (codes "(")) ∷ (tok Operator 121 122 (codes ")")) ∷ (tok Inserted 122 122 (codes ";")) ∷ (tok Ident 124 129 (codes "panic")) ∷ (tok Operator 129 130 (codes "(")) ∷ (tok Str 130 133 (codes "\"x\"")) ∷ (tok Operator 133 134 (codes ")")) ∷ (tok Inserted 134 134 (codes ";")) ∷ (tok Operator 135 136 (codes "}")) ∷ (tok Inserted 136 136 (codes ";")) ∷ []); comments = ((note 14 29) ∷ []) }) ∷ []) }

guard_inside_1_typed : is_typed guard_inside_1 ≡ true
guard_inside_1_typed = refl

guard_inside_1_ends : step_of guard_inside_1 ≡ None
guard_inside_1_ends = refl

guard_inside_1_kept : kept_uses guard_inside_1 ≡ []
guard_inside_1_kept = refl
