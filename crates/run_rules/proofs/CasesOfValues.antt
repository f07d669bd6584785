-- Values and conversions: text before and after.
use Rattle.std.proofs.Common.{◌≡◌, refl}
use Rattle.std.specs.Prelude.{true, false, [], ◌∷◌, Some, None, codes}
use Rattle.go_tree.specs.declared.exprs.Rest.TheVariants.{Plain}
use Rattle.go_tree.specs.declared.spans.Span.{Span}
use Rattle.go_tree.specs.declared.tokens.TokenKind.TheVariants.{Ident, Keyword, Operator, Integer, Str, Inserted}
use Rattle.go_tree.specs.declared.operators.BinOp.TheVariants.{Mul, Add}
use Rattle.go_tree.specs.Tree.{named, ident, int_lit, str_lit, call, func_lit, binary, no_exprs, expr_and, eval, step, assign, define, return_, no_stmts, stmt_and}
use Rattle.go_tree.specs.File.{File, types}
use Rattle.run_rules.specs.FormTrees.{ExprForm, LiteralForm}
use Rattle.run_rules.proofs.CaseTools.{at, nm, tok, note, param, sig, tspec, fn, pack, source, mark, Module, is_typed, first_change, step_of, kept_uses}
use Rattle.go_layout.specs.SpellsSpans.{span_to}
use Rattle.go_tree.specs.GoWords.Terminals.{lexemes}
use Rattle.go_layout.specs.Goals.{read_front}
use Rattle.go_layout.proofs.Texts.{reading}
use Rattle.run_rules.proofs.CaseTools.{read_at}

-- A statement that is no call is assigned to `_`.
abbrev dropped_value_0_f0 : File Span
dropped_value_0_f0 = record { package_name = (nm 8 12 (codes "main")); imports = []; decls = ((fn (at 30 61) None (nm 35 37 (codes "Id")) (sig ((param (at 38 43) (Some (nm 38 39 (codes "x"))) (named (at 40 43) None (nm 40 43 (codes "int")))) ∷ []) ((param (at 45 48) None (named (at 45 48) None (nm 45 48 (codes "int")))) ∷ [])) (at 49 61) (stmt_and (return_ (at 51 59) (expr_and (ident (at 58 59) (codes "x")) no_exprs)) no_stmts)) ∷ (fn (at 63 105) None (nm 68 72 (codes "main")) (sig [] []) (at 75 105) (stmt_and (define (at 78 84) ((nm 78 79 (codes "a")) ∷ []) (expr_and (int_lit (at 83 84) (codes "1")) no_exprs)) (stmt_and (eval (at 86 91) (call (at 86 91) (ident (at 86 88) (codes "Id")) (expr_and (ident (at 89 90) (codes "a")) no_exprs) Plain)) (stmt_and (eval (at 93 103) (call (at 93 103) (ident (at 93 100) (codes "println")) (expr_and (ident (at 101 102) (codes "a")) no_exprs) Plain)) no_stmts)))) ∷ []) }

dropped_value_0_f0_read : read_at span_to read_front (lexemes ((tok Keyword 0 7 (codes "package")) ∷ (tok Ident 8 12 (codes "main")) ∷ (tok Inserted 12 12 (codes ";")) ∷ (tok Keyword 30 34 (codes "func")) ∷ (tok Ident 35 37 (codes "Id")) ∷ (tok Operator 37 38 (codes "(")) ∷ (tok Ident 38 39 (codes "x")) ∷ (tok Ident 40 43 (codes "int")) ∷ (tok Operator 43 44 (codes ")")) ∷ (tok Ident 45 48 (codes "int")) ∷ (tok Operator 49 50 (codes "{")) ∷ (tok Keyword 51 57 (codes "return")) ∷ (tok Ident 58 59 (codes "x")) ∷ (tok Operator 60 61 (codes "}")) ∷ (tok Inserted 61 61 (codes ";")) ∷ (tok Keyword 63 67 (codes "func")) ∷ (tok Ident 68 72 (codes "main")) ∷ (tok Operator 72 73 (codes "(")) ∷ (tok Operator 73 74 (codes ")")) ∷ (tok Operator 75 76 (codes "{")) ∷ (tok Ident 78 79 (codes "a")) ∷ (tok Operator 80 82 (codes ":=")) ∷ (tok Integer 83 84 (codes "1")) ∷ (tok Inserted 84 84 (codes ";")) ∷ (tok Ident 86 88 (codes "Id")) ∷ (tok Operator 88 89 (codes "(")) ∷ (tok Ident 89 90 (codes "a")) ∷ (tok Operator 90 91 (codes ")")) ∷ (tok Inserted 91 91 (codes ";")) ∷ (tok Ident 93 100 (codes "println")) ∷ (tok Operator 100 101 (codes "(")) ∷ (tok Ident 101 102 (codes "a")) ∷ (tok Operator 102 103 (codes ")")) ∷ (tok Inserted 103 103 (codes ";")) ∷ (tok Operator 104 105 (codes "}")) ∷ (tok Inserted 105 105 (codes ";")) ∷ [])) ≡ Some (dropped_value_0_f0, [])
unfolding reading
dropped_value_0_f0_read = refl

abbrev dropped_value_0 : Module
dropped_value_0 = record { packages = (pack (codes "example.com/m") (codes "main") (source (codes "main.go") dropped_value_0_f0 ∷ []) ∷ []); marks = (mark 0 0 0 0 ∷ []); texts = (((codes "main.go"), record { text = (codes "package main\n\n//go:fix inline\nfunc Id(x int) int { return x }\n\nfunc main() {\n\ta := 1\n\tId(a)\n\tprintln(a)\n}\n"); tokens = ((tok Keyword 0 7 (codes "package")) ∷ (tok Ident 8 12 (codes "main")) ∷ (tok Inserted 12 12 (codes ";")) ∷ (tok Keyword 30 34 (codes "func")) ∷ (tok Ident 35 37 (codes "Id")) ∷ (tok Operator 37 38 (codes "(")) ∷ (tok Ident 38 39 (codes "x")) ∷ (tok Ident 40 43 (codes "int")) ∷ (tok Operator 43 44 (codes ")")) ∷ (tok Ident 45 48 (codes "int")) ∷ (tok Operator 49 50 (codes "{")) ∷ (tok Keyword 51 57 (codes "return")) ∷ (tok Ident 58 59 (codes "x")) ∷ (tok Operator 60 61 (codes "}")) ∷ (tok Inserted 61 61 (codes ";")) ∷ (tok Keyword 63 67 (codes "func")) ∷ (tok Ident 68 72 (codes "main")) ∷ (tok Operator 72 73 (codes "(")) ∷ (tok Operator 73 74 (codes ")")) ∷ (tok Operator 75 76 (codes "{")) ∷ (tok Ident 78 79 (codes "a")) ∷ (tok Operator 80 82 (codes ":=")) ∷ (tok Integer 83 84 (codes "1")) ∷ (tok Inserted 84 84 (codes ";")) ∷ (tok Ident 86 88 (codes "Id")) ∷ (tok Operator 88 89 (codes "(")) ∷ (tok Ident 89 90 (codes "a")) ∷ (tok Operator 90 91 (codes ")")) ∷ (tok Inserted 91 91 (codes ";")) ∷ (tok Ident 93 100 (codes "println")) ∷ (tok Operator 100 101 (codes "(")) ∷ (tok Ident 101 102 (codes "a")) ∷ (tok Operator 102 103 (codes ")")) ∷ (tok Inserted 103 103 (codes ";")) ∷ (tok Operator 104 105 (codes "}")) ∷ (tok Inserted 105 105 (codes ";")) ∷ []); comments = ((note 14 29) ∷ []) }) ∷ []) }

dropped_value_0_typed : is_typed dropped_value_0 ≡ true
dropped_value_0_typed = refl

dropped_value_0_step : first_change dropped_value_0 ≡ Some ((codes "main.go"), ExprForm, (codes "package main\n\n//go:fix inline\nfunc Id(x int) int { return x }\n\nfunc main() {\n\ta := 1\n\t_ = a\n\tprintln(a)\n}\n"))
dropped_value_0_step = refl

abbrev dropped_value_1_f0 : File Span
dropped_value_1_f0 = record { package_name = (nm 8 12 (codes "main")); imports = []; decls = ((fn (at 30 61) None (nm 35 37 (codes "Id")) (sig ((param (at 38 43) (Some (nm 38 39 (codes "x"))) (named (at 40 43) None (nm 40 43 (codes "int")))) ∷ []) ((param (at 45 48) None (named (at 45 48) None (nm 45 48 (codes "int")))) ∷ [])) (at 49 61) (stmt_and (return_ (at 51 59) (expr_and (ident (at 58 59) (codes "x")) no_exprs)) no_stmts)) ∷ (fn (at 63 105) None (nm 68 72 (codes "main")) (sig [] []) (at 75 105) (stmt_and (define (at 78 84) ((nm 78 79 (codes "a")) ∷ []) (expr_and (int_lit (at 83 84) (codes "1")) no_exprs)) (stmt_and (assign (at 86 91) (expr_and (ident (at 86 87) (codes "_")) no_exprs) None (expr_and (ident (at 90 91) (codes "a")) no_exprs)) (stmt_and (eval (at 93 103) (call (at 93 103) (ident (at 93 100) (codes "println")) (expr_and (ident (at 101 102) (codes "a")) no_exprs) Plain)) no_stmts)))) ∷ []) }

dropped_value_1_f0_read : read_at span_to read_front (lexemes ((tok Keyword 0 7 (codes "package")) ∷ (tok Ident 8 12 (codes "main")) ∷ (tok Inserted 12 12 (codes ";")) ∷ (tok Keyword 30 34 (codes "func")) ∷ (tok Ident 35 37 (codes "Id")) ∷ (tok Operator 37 38 (codes "(")) ∷ (tok Ident 38 39 (codes "x")) ∷ (tok Ident 40 43 (codes "int")) ∷ (tok Operator 43 44 (codes ")")) ∷ (tok Ident 45 48 (codes "int")) ∷ (tok Operator 49 50 (codes "{")) ∷ (tok Keyword 51 57 (codes "return")) ∷ (tok Ident 58 59 (codes "x")) ∷ (tok Operator 60 61 (codes "}")) ∷ (tok Inserted 61 61 (codes ";")) ∷ (tok Keyword 63 67 (codes "func")) ∷ (tok Ident 68 72 (codes "main")) ∷ (tok Operator 72 73 (codes "(")) ∷ (tok Operator 73 74 (codes ")")) ∷ (tok Operator 75 76 (codes "{")) ∷ (tok Ident 78 79 (codes "a")) ∷ (tok Operator 80 82 (codes ":=")) ∷ (tok Integer 83 84 (codes "1")) ∷ (tok Inserted 84 84 (codes ";")) ∷ (tok Ident 86 87 (codes "_")) ∷ (tok Operator 88 89 (codes "=")) ∷ (tok Ident 90 91 (codes "a")) ∷ (tok Inserted 91 91 (codes ";")) ∷ (tok Ident 93 100 (codes "println")) ∷ (tok Operator 100 101 (codes "(")) ∷ (tok Ident 101 102 (codes "a")) ∷ (tok Operator 102 103 (codes ")")) ∷ (tok Inserted 103 103 (codes ";")) ∷ (tok Operator 104 105 (codes "}")) ∷ (tok Inserted 105 105 (codes ";")) ∷ [])) ≡ Some (dropped_value_1_f0, [])
unfolding reading
dropped_value_1_f0_read = refl

abbrev dropped_value_1 : Module
dropped_value_1 = record { packages = (pack (codes "example.com/m") (codes "main") (source (codes "main.go") dropped_value_1_f0 ∷ []) ∷ []); marks = (mark 0 0 0 0 ∷ []); texts = (((codes "main.go"), record { text = (codes "package main\n\n//go:fix inline\nfunc Id(x int) int { return x }\n\nfunc main() {\n\ta := 1\n\t_ = a\n\tprintln(a)\n}\n"); tokens = ((tok Keyword 0 7 (codes "package")) ∷ (tok Ident 8 12 (codes "main")) ∷ (tok Inserted 12 12 (codes ";")) ∷ (tok Keyword 30 34 (codes "func")) ∷ (tok Ident 35 37 (codes "Id")) ∷ (tok Operator 37 38 (codes "(")) ∷ (tok Ident 38 39 (codes "x")) ∷ (tok Ident 40 43 (codes "int")) ∷ (tok Operator 43 44 (codes ")")) ∷ (tok Ident 45 48 (codes "int")) ∷ (tok Operator 49 50 (codes "{")) ∷ (tok Keyword 51 57 (codes "return")) ∷ (tok Ident 58 59 (codes "x")) ∷ (tok Operator 60 61 (codes "}")) ∷ (tok Inserted 61 61 (codes ";")) ∷ (tok Keyword 63 67 (codes "func")) ∷ (tok Ident 68 72 (codes "main")) ∷ (tok Operator 72 73 (codes "(")) ∷ (tok Operator 73 74 (codes ")")) ∷ (tok Operator 75 76 (codes "{")) ∷ (tok Ident 78 79 (codes "a")) ∷ (tok Operator 80 82 (codes ":=")) ∷ (tok Integer 83 84 (codes "1")) ∷ (tok Inserted 84 84 (codes ";")) ∷ (tok Ident 86 87 (codes "_")) ∷ (tok Operator 88 89 (codes "=")) ∷ (tok Ident 90 91 (codes "a")) ∷ (tok Inserted 91 91 (codes ";")) ∷ (tok Ident 93 100 (codes "println")) ∷ (tok Operator 100 101 (codes "(")) ∷ (tok Ident 101 102 (codes "a")) ∷ (tok Operator 102 103 (codes ")")) ∷ (tok Inserted 103 103 (codes ";")) ∷ (tok Operator 104 105 (codes "}")) ∷ (tok Inserted 105 105 (codes ";")) ∷ []); comments = ((note 14 29) ∷ []) }) ∷ []) }

dropped_value_1_typed : is_typed dropped_value_1 ≡ true
dropped_value_1_typed = refl

dropped_value_1_ends : step_of dropped_value_1 ≡ None
dropped_value_1_ends = refl

dropped_value_1_kept : kept_uses dropped_value_1 ≡ []
dropped_value_1_kept = refl

-- A call is a statement by itself.
abbrev call_statement_0_f0 : File Span
call_statement_0_f0 = record { package_name = (nm 8 12 (codes "main")); imports = []; decls = ((fn (at 14 59) None (nm 19 20 (codes "f")) (sig ((param (at 21 26) (Some (nm 21 22 (codes "x"))) (named (at 23 26) None (nm 23 26 (codes "int")))) ∷ []) ((param (at 28 31) None (named (at 28 31) None (nm 28 31 (codes "int")))) ∷ [])) (at 32 59) (stmt_and (eval (at 35 47) (call (at 35 47) (ident (at 35 42) (codes "println")) (expr_and (str_lit (at 43 46) (codes "\"f\"")) no_exprs) Plain)) (stmt_and (return_ (at 49 57) (expr_and (ident (at 56 57) (codes "x")) no_exprs)) no_stmts))) ∷ (fn (at 77 111) None (nm 82 84 (codes "Do")) (sig ((param (at 85 90) (Some (nm 85 86 (codes "x"))) (named (at 87 90) None (nm 87 90 (codes "int")))) ∷ []) ((param (at 92 95) None (named (at 92 95) None (nm 92 95 (codes "int")))) ∷ [])) (at 96 111) (stmt_and (return_ (at 98 109) (expr_and (call (at 105 109) (ident (at 105 106) (codes "f")) (expr_and (ident (at 107 108) (codes "x")) no_exprs) Plain) no_exprs)) no_stmts)) ∷ (fn (at 113 155) None (nm 118 122 (codes "next")) (sig [] ((param (at 125 128) None (named (at 125 128) None (nm 125 128 (codes "int")))) ∷ [])) (at 129 155) (stmt_and (eval (at 131 143) (call (at 131 143) (ident (at 131 138) (codes "println")) (expr_and (str_lit (at 139 142) (codes "\"n\"")) no_exprs) Plain)) (stmt_and (return_ (at 145 153) (expr_and (int_lit (at 152 153) (codes "1")) no_exprs)) no_stmts))) ∷ (fn (at 157 196) None (nm 162 163 (codes "g")) (sig [] ((param (at 166 169) None (named (at 166 169) None (nm 166 169 (codes "int")))) ∷ [])) (at 170 196) (stmt_and (eval (at 172 184) (call (at 172 184) (ident (at 172 179) (codes "println")) (expr_and (str_lit (at 180 183) (codes "\"g\"")) no_exprs) Plain)) (stmt_and (return_ (at 186 194) (expr_and (int_lit (at 193 194) (codes "1")) no_exprs)) no_stmts))) ∷ (fn (at 198 237) None (nm 203 204 (codes "h")) (sig [] ((param (at 207 210) None (named (at 207 210) None (nm 207 210 (codes "int")))) ∷ [])) (at 211 237) (stmt_and (eval (at 213 225) (call (at 213 225) (ident (at 213 220) (codes "println")) (expr_and (str_lit (at 221 224) (codes "\"h\"")) no_exprs) Plain)) (stmt_and (return_ (at 227 235) (expr_and (int_lit (at 234 235) (codes "1")) no_exprs)) no_stmts))) ∷ (fn (at 239 266) None (nm 244 248 (codes "main")) (sig [] []) (at 251 266) (stmt_and (eval (at 254 264) (call (at 254 264) (ident (at 254 256) (codes "Do")) (expr_and (call (at 257 263) (ident (at 257 261) (codes "next")) no_exprs Plain) no_exprs) Plain)) no_stmts)) ∷ []) }

call_statement_0_f0_read : read_at span_to read_front (lexemes ((tok Keyword 0 7 (codes "package")) ∷ (tok Ident 8 12 (codes "main")) ∷ (tok Inserted 12 12 (codes ";")) ∷ (tok Keyword 14 18 (codes "func")) ∷ (tok Ident 19 20 (codes "f")) ∷ (tok Operator 20 21 (codes "(")) ∷ (tok Ident 21 22 (codes "x")) ∷ (tok Ident 23 26 (codes "int")) ∷ (tok Operator 26 27 (codes ")")) ∷ (tok Ident 28 31 (codes "int")) ∷ (tok Operator 32 33 (codes "{")) ∷ (tok Ident 35 42 (codes "println")) ∷ (tok Operator 42 43 (codes "(")) ∷ (tok Str 43 46 (codes "\"f\"")) ∷ (tok Operator 46 47 (codes ")")) ∷ (tok Inserted 47 47 (codes ";")) ∷ (tok Keyword 49 55 (codes "return")) ∷ (tok Ident 56 57 (codes "x")) ∷ (tok Inserted 57 57 (codes ";")) ∷ (tok Operator 58 59 (codes "}")) ∷ (tok Inserted 59 59 (codes ";")) ∷ (tok Keyword 77 81 (codes "func")) ∷ (tok Ident 82 84 (codes "Do")) ∷ (tok Operator 84 85 (codes "(")) ∷ (tok Ident 85 86 (codes "x")) ∷ (tok Ident 87 90 (codes "int")) ∷ (tok Operator 90 91 (codes ")")) ∷ (tok Ident 92 95 (codes "int")) ∷ (tok Operator 96 97 (codes "{")) ∷ (tok Keyword 98 104 (codes "return")) ∷ (tok Ident 105 106 (codes "f")) ∷ (tok Operator 106 107 (codes "(")) ∷ (tok Ident 107 108 (codes "x")) ∷ (tok Operator 108 109 (codes ")")) ∷ (tok Operator 110 111 (codes "}")) ∷ (tok Inserted 111 111 (codes ";")) ∷ (tok Keyword 113 117 (codes "func")) ∷ (tok Ident 118 122 (codes "next")) ∷ (tok Operator 122 123 (codes "(")) ∷ (tok Operator 123 124 (codes ")")) ∷ (tok Ident 125 128 (codes "int")) ∷ (tok Operator 129 130 (codes "{")) ∷ (tok Ident 131 138 (codes "println")) ∷ (tok Operator 138 139 (codes "(")) ∷ (tok Str 139 142 (codes "\"n\"")) ∷ (tok Operator 142 143 (codes ")")) ∷ (tok Operator 143 144 (codes ";")) ∷ (tok Keyword 145 151 (codes "return")) ∷ (tok Integer 152 153 (codes "1")) ∷ (tok Operator 154 155 (codes "}")) ∷ (tok Inserted 155 155 (codes ";")) ∷ (tok Keyword 157 161 (codes "func")) ∷ (tok Ident 162 163 (codes "g")) ∷ (tok Operator 163 164 (codes "(")) ∷ (tok Operator 164 165 (codes ")")) ∷ (tok Ident 166 169 (codes "int")) ∷ (tok Operator 170 171 (codes "{")) ∷ (tok Ident 172 179 (codes "println")) ∷ (tok Operator 179 180 (codes "(")) ∷ (tok Str 180 183 (codes "\"g\"")) ∷ (tok Operator 183 184 (codes ")")) ∷ (tok Operator 184 185 (codes ";")) ∷ (tok Keyword 186 192 (codes "return")) ∷ (tok Integer 193 194 (codes "1")) ∷ (tok Operator 195 196 (codes "}")) ∷ (tok Inserted 196 196 (codes ";")) ∷ (tok Keyword 198 202 (codes "func")) ∷ (tok Ident 203 204 (codes "h")) ∷ (tok Operator 204 205 (codes "(")) ∷ (tok Operator 205 206 (codes ")")) ∷ (tok Ident 207 210 (codes "int")) ∷ (tok Operator 211 212 (codes "{")) ∷ (tok Ident 213 220 (codes "println")) ∷ (tok Operator 220 221 (codes "(")) ∷ (tok Str 221 224 (codes "\"h\"")) ∷ (tok Operator 224 225 (codes ")")) ∷ (tok Operator 225 226 (codes ";")) ∷ (tok Keyword 227 233 (codes "return")) ∷ (tok Integer 234 235 (codes "1")) ∷ (tok Operator 236 237 (codes "}")) ∷ (tok Inserted 237 237 (codes ";")) ∷ (tok Keyword 239 243 (codes "func")) ∷ (tok Ident 244 248 (codes "main")) ∷ (tok Operator 248 249 (codes "(")) ∷ (tok Operator 249 250 (codes ")")) ∷ (tok Operator 251 252 (codes "{")) ∷ (tok Ident 254 256 (codes "Do")) ∷ (tok Operator 256 257 (codes "(")) ∷ (tok Ident 257 261 (codes "next")) ∷ (tok Operator 261 262 (codes "(")) ∷ (tok Operator 262 263 (codes ")")) ∷ (tok Operator 263 264 (codes ")")) ∷ (tok Inserted 264 264 (codes ";")) ∷ (tok Operator 265 266 (codes "}")) ∷ (tok Inserted 266 266 (codes ";")) ∷ [])) ≡ Some (call_statement_0_f0, [])
unfolding reading
call_statement_0_f0_read = refl

abbrev call_statement_0 : Module
call_statement_0 = record { packages = (pack (codes "example.com/m") (codes "main") (source (codes "main.go") call_statement_0_f0 ∷ []) ∷ []); marks = (mark 0 0 1 0 ∷ []); texts = (((codes "main.go"), record { text = (codes "package main\n\nfunc f(x int) int {\n\tprintln(\"f\")\n\treturn x\n}\n\n//go:fix inline\nfunc Do(x int) int { return f(x) }\n\nfunc next() int { println(\"n\"); return 1 }\n\nfunc g() int { println(\"g\"); return 1 }\n\nfunc h() int { println(\"h\"); return 1 }\n\nfunc main() {\n\tDo(next())\n}\n"); tokens = ((tok Keyword 0 7 (codes "package")) ∷ (tok Ident 8 12 (codes "main")) ∷ (tok Inserted 12 12 (codes ";")) ∷ (tok Keyword 14 18 (codes "func")) ∷ (tok Ident 19 20 (codes "f")) ∷ (tok Operator 20 21 (codes "(")) ∷ (tok Ident 21 22 (codes "x")) ∷ (tok Ident 23 26 (codes "int")) ∷ (tok Operator 26 27 (codes ")")) ∷ (tok Ident 28 31 (codes "int")) ∷ (tok Operator 32 33 (codes "{")) ∷ (tok Ident 35 42 (codes "println")) ∷ (tok Operator 42 43 (codes "(")) ∷ (tok Str 43 46 (codes "\"f\"")) ∷ (tok Operator 46 47 (codes ")")) ∷ (tok Inserted 47 47 (codes ";")) ∷ (tok Keyword 49 55 (codes "return")) ∷ (tok Ident 56 57 (codes "x")) ∷ (tok Inserted 57 57 (codes ";")) ∷ (tok Operator 58 59 (codes "}")) ∷ (tok Inserted 59 59 (codes ";")) ∷ (tok Keyword 77 81 (codes "func")) ∷ (tok Ident 82 84 (codes "Do")) ∷ (tok Operator 84 85 (codes "(")) ∷ (tok Ident 85 86 (codes "x")) ∷ (tok Ident 87 90 (codes "int")) ∷ (tok Operator 90 91 (codes ")")) ∷ (tok Ident 92 95 (codes "int")) ∷ (tok Operator 96 97 (codes "{")) ∷ (tok Keyword 98 104 (codes "return")) ∷ (tok Ident 105 106 (codes "f")) ∷ (tok Operator 106 107 (codes "(")) ∷ (tok Ident 107 108 (codes "x")) ∷ (tok Operator 108 109 (codes ")")) ∷ (tok Operator 110 111 (codes "}")) ∷ (tok Inserted 111 111 (codes ";")) ∷ (tok Keyword 113 117 (codes "func")) ∷ (tok Ident 118 122 (codes "next")) ∷ (tok Operator 122 123 (codes "(")) ∷ (tok Operator 123 124 (codes ")")) ∷ (tok Ident 125 128 (codes "int")) ∷ (tok Operator 129 130 (codes "{")) ∷ (tok Ident 131 138 (codes "println")) ∷ (tok Operator 138 139 (codes "(")) ∷ (tok Str 139 142 (codes "\"n\"")) ∷ (tok Operator 142 143 (codes ")")) ∷ (tok Operator 143 144 (codes ";")) ∷ (tok Keyword 145 151 (codes "return")) ∷ (tok Integer 152 153 (codes "1")) ∷ (tok Operator 154 155 (codes "}")) ∷ (tok Inserted 155 155 (codes ";")) ∷ (tok Keyword 157 161 (codes "func")) ∷ (tok Ident 162 163 (codes "g")) ∷ (tok Operator 163 164 (codes "(")) ∷ (tok Operator 164 165 (codes ")")) ∷ (tok Ident 166 169 (codes "int")) ∷ (tok Operator 170 171 (codes "{")) ∷ (tok Ident 172 179 (codes "println")) ∷ (tok Operator 179 180 (codes "(")) ∷ (tok Str 180 183 (codes "\"g\"")) ∷ (tok Operator 183 184 (codes ")")) ∷ (tok Operator 184 185 (codes ";")) ∷ (tok Keyword 186 192 (codes "return")) ∷ (tok Integer 193 194 (codes "1")) ∷ (tok Operator 195 196 (codes "}")) ∷ (tok Inserted 196 196 (codes ";")) ∷ (tok Keyword 198 202 (codes "func")) ∷ (tok Ident 203 204 (codes "h")) ∷ (tok Operator 204 205 (codes "(")) ∷ (tok Operator 205 206 (codes ")")) ∷ (tok Ident 207 210 (codes "int")) ∷ (tok Operator 211 212 (codes "{")) ∷ (tok Ident 213 220 (codes "println")) ∷ (tok Operator 220 221 (codes "(")) ∷ (tok Str 221 224 (codes "\"h\"")) ∷ (tok Operator 224 225 (codes ")")) ∷ (tok Operator 225 226 (codes ";")) ∷ (tok Keyword 227 233 (codes "return")) ∷ (tok Integer 234 235 (codes "1")) ∷ (tok Operator 236 237 (codes "}")) ∷ (tok Inserted 237 237 (codes ";")) ∷ (tok Keyword 239 243 (codes "func")) ∷ (tok Ident 244 248 (codes "main")) ∷ (tok Operator 248 249 (codes "(")) ∷ (tok Operator 249 250 (codes ")")) ∷ (tok Operator 251 252 (codes "{")) ∷ (tok Ident 254 256 (codes "Do")) ∷ (tok Operator 256 257 (codes "(")) ∷ (tok Ident 257 261 (codes "next")) ∷ (tok Operator 261 262 (codes "(")) ∷ (tok Operator 262 263 (codes ")")) ∷ (tok Operator 263 264 (codes ")")) ∷ (tok Inserted 264 264 (codes ";")) ∷ (tok Operator 265 266 (codes "}")) ∷ (tok Inserted 266 266 (codes ";")) ∷ []); comments = ((note 61 76) ∷ []) }) ∷ []) }

call_statement_0_typed : is_typed call_statement_0 ≡ true
call_statement_0_typed = refl

call_statement_0_step : first_change call_statement_0 ≡ Some ((codes "main.go"), ExprForm, (codes "package main\n\nfunc f(x int) int {\n\tprintln(\"f\")\n\treturn x\n}\n\n//go:fix inline\nfunc Do(x int) int { return f(x) }\n\nfunc next() int { println(\"n\"); return 1 }\n\nfunc g() int { println(\"g\"); return 1 }\n\nfunc h() int { println(\"h\"); return 1 }\n\nfunc main() {\n\tf(next())\n}\n"))
call_statement_0_step = refl

abbrev call_statement_1_f0 : File Span
call_statement_1_f0 = record { package_name = (nm 8 12 (codes "main")); imports = []; decls = ((fn (at 14 59) None (nm 19 20 (codes "f")) (sig ((param (at 21 26) (Some (nm 21 22 (codes "x"))) (named (at 23 26) None (nm 23 26 (codes "int")))) ∷ []) ((param (at 28 31) None (named (at 28 31) None (nm 28 31 (codes "int")))) ∷ [])) (at 32 59) (stmt_and (eval (at 35 47) (call (at 35 47) (ident (at 35 42) (codes "println")) (expr_and (str_lit (at 43 46) (codes "\"f\"")) no_exprs) Plain)) (stmt_and (return_ (at 49 57) (expr_and (ident (at 56 57) (codes "x")) no_exprs)) no_stmts))) ∷ (fn (at 77 111) None (nm 82 84 (codes "Do")) (sig ((param (at 85 90) (Some (nm 85 86 (codes "x"))) (named (at 87 90) None (nm 87 90 (codes "int")))) ∷ []) ((param (at 92 95) None (named (at 92 95) None (nm 92 95 (codes "int")))) ∷ [])) (at 96 111) (stmt_and (return_ (at 98 109) (expr_and (call (at 105 109) (ident (at 105 106) (codes "f")) (expr_and (ident (at 107 108) (codes "x")) no_exprs) Plain) no_exprs)) no_stmts)) ∷ (fn (at 113 155) None (nm 118 122 (codes "next")) (sig [] ((param (at 125 128) None (named (at 125 128) None (nm 125 128 (codes "int")))) ∷ [])) (at 129 155) (stmt_and (eval (at 131 143) (call (at 131 143) (ident (at 131 138) (codes "println")) (expr_and (str_lit (at 139 142) (codes "\"n\"")) no_exprs) Plain)) (stmt_and (return_ (at 145 153) (expr_and (int_lit (at 152 153) (codes "1")) no_exprs)) no_stmts))) ∷ (fn (at 157 196) None (nm 162 163 (codes "g")) (sig [] ((param (at 166 169) None (named (at 166 169) None (nm 166 169 (codes "int")))) ∷ [])) (at 170 196) (stmt_and (eval (at 172 184) (call (at 172 184) (ident (at 172 179) (codes "println")) (expr_and (str_lit (at 180 183) (codes "\"g\"")) no_exprs) Plain)) (stmt_and (return_ (at 186 194) (expr_and (int_lit (at 193 194) (codes "1")) no_exprs)) no_stmts))) ∷ (fn (at 198 237) None (nm 203 204 (codes "h")) (sig [] ((param (at 207 210) None (named (at 207 210) None (nm 207 210 (codes "int")))) ∷ [])) (at 211 237) (stmt_and (eval (at 213 225) (call (at 213 225) (ident (at 213 220) (codes "println")) (expr_and (str_lit (at 221 224) (codes "\"h\"")) no_exprs) Plain)) (stmt_and (return_ (at 227 235) (expr_and (int_lit (at 234 235) (codes "1")) no_exprs)) no_stmts))) ∷ (fn (at 239 265) None (nm 244 248 (codes "main")) (sig [] []) (at 251 265) (stmt_and (eval (at 254 263) (call (at 254 263) (ident (at 254 255) (codes "f")) (expr_and (call (at 256 262) (ident (at 256 260) (codes "next")) no_exprs Plain) no_exprs) Plain)) no_stmts)) ∷ []) }

call_statement_1_f0_read : read_at span_to read_front (lexemes ((tok Keyword 0 7 (codes "package")) ∷ (tok Ident 8 12 (codes "main")) ∷ (tok Inserted 12 12 (codes ";")) ∷ (tok Keyword 14 18 (codes "func")) ∷ (tok Ident 19 20 (codes "f")) ∷ (tok Operator 20 21 (codes "(")) ∷ (tok Ident 21 22 (codes "x")) ∷ (tok Ident 23 26 (codes "int")) ∷ (tok Operator 26 27 (codes ")")) ∷ (tok Ident 28 31 (codes "int")) ∷ (tok Operator 32 33 (codes "{")) ∷ (tok Ident 35 42 (codes "println")) ∷ (tok Operator 42 43 (codes "(")) ∷ (tok Str 43 46 (codes "\"f\"")) ∷ (tok Operator 46 47 (codes ")")) ∷ (tok Inserted 47 47 (codes ";")) ∷ (tok Keyword 49 55 (codes "return")) ∷ (tok Ident 56 57 (codes "x")) ∷ (tok Inserted 57 57 (codes ";")) ∷ (tok Operator 58 59 (codes "}")) ∷ (tok Inserted 59 59 (codes ";")) ∷ (tok Keyword 77 81 (codes "func")) ∷ (tok Ident 82 84 (codes "Do")) ∷ (tok Operator 84 85 (codes "(")) ∷ (tok Ident 85 86 (codes "x")) ∷ (tok Ident 87 90 (codes "int")) ∷ (tok Operator 90 91 (codes ")")) ∷ (tok Ident 92 95 (codes "int")) ∷ (tok Operator 96 97 (codes "{")) ∷ (tok Keyword 98 104 (codes "return")) ∷ (tok Ident 105 106 (codes "f")) ∷ (tok Operator 106 107 (codes "(")) ∷ (tok Ident 107 108 (codes "x")) ∷ (tok Operator 108 109 (codes ")")) ∷ (tok Operator 110 111 (codes "}")) ∷ (tok Inserted 111 111 (codes ";")) ∷ (tok Keyword 113 117 (codes "func")) ∷ (tok Ident 118 122 (codes "next")) ∷ (tok Operator 122 123 (codes "(")) ∷ (tok Operator 123 124 (codes ")")) ∷ (tok Ident 125 128 (codes "int")) ∷ (tok Operator 129 130 (codes "{")) ∷ (tok Ident 131 138 (codes "println")) ∷ (tok Operator 138 139 (codes "(")) ∷ (tok Str 139 142 (codes "\"n\"")) ∷ (tok Operator 142 143 (codes ")")) ∷ (tok Operator 143 144 (codes ";")) ∷ (tok Keyword 145 151 (codes "return")) ∷ (tok Integer 152 153 (codes "1")) ∷ (tok Operator 154 155 (codes "}")) ∷ (tok Inserted 155 155 (codes ";")) ∷ (tok Keyword 157 161 (codes "func")) ∷ (tok Ident 162 163 (codes "g")) ∷ (tok Operator 163 164 (codes "(")) ∷ (tok Operator 164 165 (codes ")")) ∷ (tok Ident 166 169 (codes "int")) ∷ (tok Operator 170 171 (codes "{")) ∷ (tok Ident 172 179 (codes "println")) ∷ (tok Operator 179 180 (codes "(")) ∷ (tok Str 180 183 (codes "\"g\"")) ∷ (tok Operator 183 184 (codes ")")) ∷ (tok Operator 184 185 (codes ";")) ∷ (tok Keyword 186 192 (codes "return")) ∷ (tok Integer 193 194 (codes "1")) ∷ (tok Operator 195 196 (codes "}")) ∷ (tok Inserted 196 196 (codes ";")) ∷ (tok Keyword 198 202 (codes "func")) ∷ (tok Ident 203 204 (codes "h")) ∷ (tok Operator 204 205 (codes "(")) ∷ (tok Operator 205 206 (codes ")")) ∷ (tok Ident 207 210 (codes "int")) ∷ (tok Operator 211 212 (codes "{")) ∷ (tok Ident 213 220 (codes "println")) ∷ (tok Operator 220 221 (codes "(")) ∷ (tok Str 221 224 (codes "\"h\"")) ∷ (tok Operator 224 225 (codes ")")) ∷ (tok Operator 225 226 (codes ";")) ∷ (tok Keyword 227 233 (codes "return")) ∷ (tok Integer 234 235 (codes "1")) ∷ (tok Operator 236 237 (codes "}")) ∷ (tok Inserted 237 237 (codes ";")) ∷ (tok Keyword 239 243 (codes "func")) ∷ (tok Ident 244 248 (codes "main")) ∷ (tok Operator 248 249 (codes "(")) ∷ (tok Operator 249 250 (codes ")")) ∷ (tok Operator 251 252 (codes "{")) ∷ (tok Ident 254 255 (codes "f")) ∷ (tok Operator 255 256 (codes "(")) ∷ (tok Ident 256 260 (codes "next")) ∷ (tok Operator 260 261 (codes "(")) ∷ (tok Operator 261 262 (codes ")")) ∷ (tok Operator 262 263 (codes ")")) ∷ (tok Inserted 263 263 (codes ";")) ∷ (tok Operator 264 265 (codes "}")) ∷ (tok Inserted 265 265 (codes ";")) ∷ [])) ≡ Some (call_statement_1_f0, [])
unfolding reading
call_statement_1_f0_read = refl

abbrev call_statement_1 : Module
call_statement_1 = record { packages = (pack (codes "example.com/m") (codes "main") (source (codes "main.go") call_statement_1_f0 ∷ []) ∷ []); marks = (mark 0 0 1 0 ∷ []); texts = (((codes "main.go"), record { text = (codes "package main\n\nfunc f(x int) int {\n\tprintln(\"f\")\n\treturn x\n}\n\n//go:fix inline\nfunc Do(x int) int { return f(x) }\n\nfunc next() int { println(\"n\"); return 1 }\n\nfunc g() int { println(\"g\"); return 1 }\n\nfunc h() int { println(\"h\"); return 1 }\n\nfunc main() {\n\tf(next())\n}\n"); tokens = ((tok Keyword 0 7 (codes "package")) ∷ (tok Ident 8 12 (codes "main")) ∷ (tok Inserted 12 12 (codes ";")) ∷ (tok Keyword 14 18 (codes "func")) ∷ (tok Ident 19 20 (codes "f")) ∷ (tok Operator 20 21 (codes "(")) ∷ (tok Ident 21 22 (codes "x")) ∷ (tok Ident 23 26 (codes "int")) ∷ (tok Operator 26 27 (codes ")")) ∷ (tok Ident 28 31 (codes "int")) ∷ (tok Operator 32 33 (codes "{")) ∷ (tok Ident 35 42 (codes "println")) ∷ (tok Operator 42 43 (codes "(")) ∷ (tok Str 43 46 (codes "\"f\"")) ∷ (tok Operator 46 47 (codes ")")) ∷ (tok Inserted 47 47 (codes ";")) ∷ (tok Keyword 49 55 (codes "return")) ∷ (tok Ident 56 57 (codes "x")) ∷ (tok Inserted 57 57 (codes ";")) ∷ (tok Operator 58 59 (codes "}")) ∷ (tok Inserted 59 59 (codes ";")) ∷ (tok Keyword 77 81 (codes "func")) ∷ (tok Ident 82 84 (codes "Do")) ∷ (tok Operator 84 85 (codes "(")) ∷ (tok Ident 85 86 (codes "x")) ∷ (tok Ident 87 90 (codes "int")) ∷ (tok Operator 90 91 (codes ")")) ∷ (tok Ident 92 95 (codes "int")) ∷ (tok Operator 96 97 (codes "{")) ∷ (tok Keyword 98 104 (codes "return")) ∷ (tok Ident 105 106 (codes "f")) ∷ (tok Operator 106 107 (codes "(")) ∷ (tok Ident 107 108 (codes "x")) ∷ (tok Operator 108 109 (codes ")")) ∷ (tok Operator 110 111 (codes "}")) ∷ (tok Inserted 111 111 (codes ";")) ∷ (tok Keyword 113 117 (codes "func")) ∷ (tok Ident 118 122 (codes "next")) ∷ (tok Operator 122 123 (codes "(")) ∷ (tok Operator 123 124 (codes ")")) ∷ (tok Ident 125 128 (codes "int")) ∷ (tok Operator 129 130 (codes "{")) ∷ (tok Ident 131 138 (codes "println")) ∷ (tok Operator 138 139 (codes "(")) ∷ (tok Str 139 142 (codes "\"n\"")) ∷ (tok Operator 142 143 (codes ")")) ∷ (tok Operator 143 144 (codes ";")) ∷ (tok Keyword 145 151 (codes "return")) ∷ (tok Integer 152 153 (codes "1")) ∷ (tok Operator 154 155 (codes "}")) ∷ (tok Inserted 155 155 (codes ";")) ∷ (tok Keyword 157 161 (codes "func")) ∷ (tok Ident 162 163 (codes "g")) ∷ (tok Operator 163 164 (codes "(")) ∷ (tok Operator 164 165 (codes ")")) ∷ (tok Ident 166 169 (codes "int")) ∷ (tok Operator 170 171 (codes "{")) ∷ (tok Ident 172 179 (codes "println")) ∷ (tok Operator 179 180 (codes "(")) ∷ (tok Str 180 183 (codes "\"g\"")) ∷ (tok Operator 183 184 (codes ")")) ∷ (tok Operator 184 185 (codes ";")) ∷ (tok Keyword 186 192 (codes "return")) ∷ (tok Integer 193 194 (codes "1")) ∷ (tok Operator 195 196 (codes "}")) ∷ (tok Inserted 196 196 (codes ";")) ∷ (tok Keyword 198 202 (codes "func")) ∷ (tok Ident 203 204 (codes "h")) ∷ (tok Operator 204 205 (codes "(")) ∷ (tok Operator 205 206 (codes ")")) ∷ (tok Ident 207 210 (codes "int")) ∷ (tok Operator 211 212 (codes "{")) ∷ (tok Ident 213 220 (codes "println")) ∷ (tok Operator 220 221 (codes "(")) ∷ (tok Str 221 224 (codes "\"h\"")) ∷ (tok Operator 224 225 (codes ")")) ∷ (tok Operator 225 226 (codes ";")) ∷ (tok Keyword 227 233 (codes "return")) ∷ (tok Integer 234 235 (codes "1")) ∷ (tok Operator 236 237 (codes "}")) ∷ (tok Inserted 237 237 (codes ";")) ∷ (tok Keyword 239 243 (codes "func")) ∷ (tok Ident 244 248 (codes "main")) ∷ (tok Operator 248 249 (codes "(")) ∷ (tok Operator 249 250 (codes ")")) ∷ (tok Operator 251 252 (codes "{")) ∷ (tok Ident 254 255 (codes "f")) ∷ (tok Operator 255 256 (codes "(")) ∷ (tok Ident 256 260 (codes "next")) ∷ (tok Operator 260 261 (codes "(")) ∷ (tok Operator 261 262 (codes ")")) ∷ (tok Operator 262 263 (codes ")")) ∷ (tok Inserted 263 263 (codes ";")) ∷ (tok Operator 264 265 (codes "}")) ∷ (tok Inserted 265 265 (codes ";")) ∷ []); comments = ((note 61 76) ∷ []) }) ∷ []) }

call_statement_1_typed : is_typed call_statement_1 ≡ true
call_statement_1_typed = refl

call_statement_1_ends : step_of call_statement_1 ≡ None
call_statement_1_ends = refl

call_statement_1_kept : kept_uses call_statement_1 ≡ []
call_statement_1_kept = refl

-- Named results stay.
abbrev named_result_0_f0 : File Span
named_result_0_f0 = record { package_name = (nm 8 12 (codes "main")); imports = []; decls = ((fn (at 30 69) None (nm 35 38 (codes "One")) (sig [] ((param (at 42 47) (Some (nm 42 43 (codes "r"))) (named (at 44 47) None (nm 44 47 (codes "int")))) ∷ [])) (at 49 69) (stmt_and (assign (at 52 57) (expr_and (ident (at 52 53) (codes "r")) no_exprs) None (expr_and (int_lit (at 56 57) (codes "1")) no_exprs)) (stmt_and (return_ (at 59 67) (expr_and (ident (at 66 67) (codes "r")) no_exprs)) no_stmts))) ∷ (fn (at 71 102) None (nm 76 80 (codes "main")) (sig [] []) (at 83 102) (stmt_and (eval (at 86 100) (call (at 86 100) (ident (at 86 93) (codes "println")) (expr_and (call (at 94 99) (ident (at 94 97) (codes "One")) no_exprs Plain) no_exprs) Plain)) no_stmts)) ∷ []) }

named_result_0_f0_read : read_at span_to read_front (lexemes ((tok Keyword 0 7 (codes "package")) ∷ (tok Ident 8 12 (codes "main")) ∷ (tok Inserted 12 12 (codes ";")) ∷ (tok Keyword 30 34 (codes "func")) ∷ (tok Ident 35 38 (codes "One")) ∷ (tok Operator 38 39 (codes "(")) ∷ (tok Operator 39 40 (codes ")")) ∷ (tok Operator 41 42 (codes "(")) ∷ (tok Ident 42 43 (codes "r")) ∷ (tok Ident 44 47 (codes "int")) ∷ (tok Operator 47 48 (codes ")")) ∷ (tok Operator 49 50 (codes "{")) ∷ (tok Ident 52 53 (codes "r")) ∷ (tok Operator 54 55 (codes "=")) ∷ (tok Integer 56 57 (codes "1")) ∷ (tok Inserted 57 57 (codes ";")) ∷ (tok Keyword 59 65 (codes "return")) ∷ (tok Ident 66 67 (codes "r")) ∷ (tok Inserted 67 67 (codes ";")) ∷ (tok Operator 68 69 (codes "}")) ∷ (tok Inserted 69 69 (codes ";")) ∷ (tok Keyword 71 75 (codes "func")) ∷ (tok Ident 76 80 (codes "main")) ∷ (tok Operator 80 81 (codes "(")) ∷ (tok Operator 81 82 (codes ")")) ∷ (tok Operator 83 84 (codes "{")) ∷ (tok Ident 86 93 (codes "println")) ∷ (tok Operator 93 94 (codes "(")) ∷ (tok Ident 94 97 (codes "One")) ∷ (tok Operator 97 98 (codes "(")) ∷ (tok Operator 98 99 (codes ")")) ∷ (tok Operator 99 100 (codes ")")) ∷ (tok Inserted 100 100 (codes ";")) ∷ (tok Operator 101 102 (codes "}")) ∷ (tok Inserted 102 102 (codes ";")) ∷ [])) ≡ Some (named_result_0_f0, [])
unfolding reading
named_result_0_f0_read = refl

abbrev named_result_0 : Module
named_result_0 = record { packages = (pack (codes "example.com/m") (codes "main") (source (codes "main.go") named_result_0_f0 ∷ []) ∷ []); marks = (mark 0 0 0 0 ∷ []); texts = (((codes "main.go"), record { text = (codes "package main\n\n//go:fix inline\nfunc One() (r int) {\n\tr = 1\n\treturn r\n}\n\nfunc main() {\n\tprintln(One())\n}\n"); tokens = ((tok Keyword 0 7 (codes "package")) ∷ (tok Ident 8 12 (codes "main")) ∷ (tok Inserted 12 12 (codes ";")) ∷ (tok Keyword 30 34 (codes "func")) ∷ (tok Ident 35 38 (codes "One")) ∷ (tok Operator 38 39 (codes "(")) ∷ (tok Operator 39 40 (codes ")")) ∷ (tok Operator 41 42 (codes "(")) ∷ (tok Ident 42 43 (codes "r")) ∷ (tok Ident 44 47 (codes "int")) ∷ (tok Operator 47 48 (codes ")")) ∷ (tok Operator 49 50 (codes "{")) ∷ (tok Ident 52 53 (codes "r")) ∷ (tok Operator 54 55 (codes "=")) ∷ (tok Integer 56 57 (codes "1")) ∷ (tok Inserted 57 57 (codes ";")) ∷ (tok Keyword 59 65 (codes "return")) ∷ (tok Ident 66 67 (codes "r")) ∷ (tok Inserted 67 67 (codes ";")) ∷ (tok Operator 68 69 (codes "}")) ∷ (tok Inserted 69 69 (codes ";")) ∷ (tok Keyword 71 75 (codes "func")) ∷ (tok Ident 76 80 (codes "main")) ∷ (tok Operator 80 81 (codes "(")) ∷ (tok Operator 81 82 (codes ")")) ∷ (tok Operator 83 84 (codes "{")) ∷ (tok Ident 86 93 (codes "println")) ∷ (tok Operator 93 94 (codes "(")) ∷ (tok Ident 94 97 (codes "One")) ∷ (tok Operator 97 98 (codes "(")) ∷ (tok Operator 98 99 (codes ")")) ∷ (tok Operator 99 100 (codes ")")) ∷ (tok Inserted 100 100 (codes ";")) ∷ (tok Operator 101 102 (codes "}")) ∷ (tok Inserted 102 102 (codes ";")) ∷ []); comments = ((note 14 29) ∷ []) }) ∷ []) }

named_result_0_typed : is_typed named_result_0 ≡ true
named_result_0_typed = refl

named_result_0_step : first_change named_result_0 ≡ Some ((codes "main.go"), LiteralForm, (codes "package main\n\n//go:fix inline\nfunc One() (r int) {\n\tr = 1\n\treturn r\n}\n\nfunc main() {\n\tprintln(func() (r int) {\n\t\tr = 1\n\t\treturn r\n\t}())\n}\n"))
named_result_0_step = refl

abbrev named_result_1_f0 : File Span
named_result_1_f0 = record { package_name = (nm 8 12 (codes "main")); imports = []; decls = ((fn (at 30 69) None (nm 35 38 (codes "One")) (sig [] ((param (at 42 47) (Some (nm 42 43 (codes "r"))) (named (at 44 47) None (nm 44 47 (codes "int")))) ∷ [])) (at 49 69) (stmt_and (assign (at 52 57) (expr_and (ident (at 52 53) (codes "r")) no_exprs) None (expr_and (int_lit (at 56 57) (codes "1")) no_exprs)) (stmt_and (return_ (at 59 67) (expr_and (ident (at 66 67) (codes "r")) no_exprs)) no_stmts))) ∷ (fn (at 71 137) None (nm 76 80 (codes "main")) (sig [] []) (at 83 137) (stmt_and (eval (at 86 135) (call (at 86 135) (ident (at 86 93) (codes "println")) (expr_and (call (at 94 134) (func_lit (at 94 132) (sig [] ((param (at 102 107) (Some (nm 102 103 (codes "r"))) (named (at 104 107) None (nm 104 107 (codes "int")))) ∷ [])) (at 109 132) (stmt_and (assign (at 113 118) (expr_and (ident (at 113 114) (codes "r")) no_exprs) None (expr_and (int_lit (at 117 118) (codes "1")) no_exprs)) (stmt_and (return_ (at 121 129) (expr_and (ident (at 128 129) (codes "r")) no_exprs)) no_stmts))) no_exprs Plain) no_exprs) Plain)) no_stmts)) ∷ []) }

named_result_1_f0_read : read_at span_to read_front (lexemes ((tok Keyword 0 7 (codes "package")) ∷ (tok Ident 8 12 (codes "main")) ∷ (tok Inserted 12 12 (codes ";")) ∷ (tok Keyword 30 34 (codes "func")) ∷ (tok Ident 35 38 (codes "One")) ∷ (tok Operator 38 39 (codes "(")) ∷ (tok Operator 39 40 (codes ")")) ∷ (tok Operator 41 42 (codes "(")) ∷ (tok Ident 42 43 (codes "r")) ∷ (tok Ident 44 47 (codes "int")) ∷ (tok Operator 47 48 (codes ")")) ∷ (tok Operator 49 50 (codes "{")) ∷ (tok Ident 52 53 (codes "r")) ∷ (tok Operator 54 55 (codes "=")) ∷ (tok Integer 56 57 (codes "1")) ∷ (tok Inserted 57 57 (codes ";")) ∷ (tok Keyword 59 65 (codes "return")) ∷ (tok Ident 66 67 (codes "r")) ∷ (tok Inserted 67 67 (codes ";")) ∷ (tok Operator 68 69 (codes "}")) ∷ (tok Inserted 69 69 (codes ";")) ∷ (tok Keyword 71 75 (codes "func")) ∷ (tok Ident 76 80 (codes "main")) ∷ (tok Operator 80 81 (codes "(")) ∷ (tok Operator 81 82 (codes ")")) ∷ (tok Operator 83 84 (codes "{")) ∷ (tok Ident 86 93 (codes "println")) ∷ (tok Operator 93 94 (codes "(")) ∷ (tok Keyword 94 98 (codes "func")) ∷ (tok Operator 98 99 (codes "(")) ∷ (tok Operator 99 100 (codes ")")) ∷ (tok Operator 101 102 (codes "(")) ∷ (tok Ident 102 103 (codes "r")) ∷ (tok Ident 104 107 (codes "int")) ∷ (tok Operator 107 108 (codes ")")) ∷ (tok Operator 109 110 (codes "{")) ∷ (tok Ident 113 114 (codes "r")) ∷ (tok Operator 115 116 (codes "=")) ∷ (tok Integer 117 118 (codes "1")) ∷ (tok Inserted 118 118 (codes ";")) ∷ (tok Keyword 121 127 (codes "return")) ∷ (tok Ident 128 129 (codes "r")) ∷ (tok Inserted 129 129 (codes ";")) ∷ (tok Operator 131 132 (codes "}")) ∷ (tok Operator 132 133 (codes "(")) ∷ (tok Operator 133 134 (codes ")")) ∷ (tok Operator 134 135 (codes ")")) ∷ (tok Inserted 135 135 (codes ";")) ∷ (tok Operator 136 137 (codes "}")) ∷ (tok Inserted 137 137 (codes ";")) ∷ [])) ≡ Some (named_result_1_f0, [])
unfolding reading
named_result_1_f0_read = refl

abbrev named_result_1 : Module
named_result_1 = record { packages = (pack (codes "example.com/m") (codes "main") (source (codes "main.go") named_result_1_f0 ∷ []) ∷ []); marks = (mark 0 0 0 0 ∷ []); texts = (((codes "main.go"), record { text = (codes "package main\n\n//go:fix inline\nfunc One() (r int) {\n\tr = 1\n\treturn r\n}\n\nfunc main() {\n\tprintln(func() (r int) {\n\t\tr = 1\n\t\treturn r\n\t}())\n}\n"); tokens = ((tok Keyword 0 7 (codes "package")) ∷ (tok Ident 8 12 (codes "main")) ∷ (tok Inserted 12 12 (codes ";")) ∷ (tok Keyword 30 34 (codes "func")) ∷ (tok Ident 35 38 (codes "One")) ∷ (tok Operator 38 39 (codes "(")) ∷ (tok Operator 39 40 (codes ")")) ∷ (tok Operator 41 42 (codes "(")) ∷ (tok Ident 42 43 (codes "r")) ∷ (tok Ident 44 47 (codes "int")) ∷ (tok Operator 47 48 (codes ")")) ∷ (tok Operator 49 50 (codes "{")) ∷ (tok Ident 52 53 (codes "r")) ∷ (tok Operator 54 55 (codes "=")) ∷ (tok Integer 56 57 (codes "1")) ∷ (tok Inserted 57 57 (codes ";")) ∷ (tok Keyword 59 65 (codes "return")) ∷ (tok Ident 66 67 (codes "r")) ∷ (tok Inserted 67 67 (codes ";")) ∷ (tok Operator 68 69 (codes "}")) ∷ (tok Inserted 69 69 (codes ";")) ∷ (tok Keyword 71 75 (codes "func")) ∷ (tok Ident 76 80 (codes "main")) ∷ (tok Operator 80 81 (codes "(")) ∷ (tok Operator 81 82 (codes ")")) ∷ (tok Operator 83 84 (codes "{")) ∷ (tok Ident 86 93 (codes "println")) ∷ (tok Operator 93 94 (codes "(")) ∷ (tok Keyword 94 98 (codes "func")) ∷ (tok Operator 98 99 (codes "(")) ∷ (tok Operator 99 100 (codes ")")) ∷ (tok Operator 101 102 (codes "(")) ∷ (tok Ident 102 103 (codes "r")) ∷ (tok Ident 104 107 (codes "int")) ∷ (tok Operator 107 108 (codes ")")) ∷ (tok Operator 109 110 (codes "{")) ∷ (tok Ident 113 114 (codes "r")) ∷ (tok Operator 115 116 (codes "=")) ∷ (tok Integer 117 118 (codes "1")) ∷ (tok Inserted 118 118 (codes ";")) ∷ (tok Keyword 121 127 (codes "return")) ∷ (tok Ident 128 129 (codes "r")) ∷ (tok Inserted 129 129 (codes ";")) ∷ (tok Operator 131 132 (codes "}")) ∷ (tok Operator 132 133 (codes "(")) ∷ (tok Operator 133 134 (codes ")")) ∷ (tok Operator 134 135 (codes ")")) ∷ (tok Inserted 135 135 (codes ";")) ∷ (tok Operator 136 137 (codes "}")) ∷ (tok Inserted 137 137 (codes ";")) ∷ []); comments = ((note 14 29) ∷ []) }) ∷ []) }

named_result_1_typed : is_typed named_result_1 ≡ true
named_result_1_typed = refl

named_result_1_ends : step_of named_result_1 ≡ None
named_result_1_ends = refl

named_result_1_kept : kept_uses named_result_1 ≡ []
named_result_1_kept = refl

-- The value names a result.
abbrev result_in_value_0_f0 : File Span
result_in_value_0_f0 = record { package_name = (nm 8 12 (codes "main")); imports = []; decls = ((fn (at 30 62) None (nm 35 39 (codes "Same")) (sig [] ((param (at 43 48) (Some (nm 43 44 (codes "r"))) (named (at 45 48) None (nm 45 48 (codes "int")))) ∷ [])) (at 50 62) (stmt_and (return_ (at 52 60) (expr_and (ident (at 59 60) (codes "r")) no_exprs)) no_stmts)) ∷ (fn (at 64 96) None (nm 69 73 (codes "main")) (sig [] []) (at 76 96) (stmt_and (eval (at 79 94) (call (at 79 94) (ident (at 79 86) (codes "println")) (expr_and (call (at 87 93) (ident (at 87 91) (codes "Same")) no_exprs Plain) no_exprs) Plain)) no_stmts)) ∷ []) }

result_in_value_0_f0_read : read_at span_to read_front (lexemes ((tok Keyword 0 7 (codes "package")) ∷ (tok Ident 8 12 (codes "main")) ∷ (tok Inserted 12 12 (codes ";")) ∷ (tok Keyword 30 34 (codes "func")) ∷ (tok Ident 35 39 (codes "Same")) ∷ (tok Operator 39 40 (codes "(")) ∷ (tok Operator 40 41 (codes ")")) ∷ (tok Operator 42 43 (codes "(")) ∷ (tok Ident 43 44 (codes "r")) ∷ (tok Ident 45 48 (codes "int")) ∷ (tok Operator 48 49 (codes ")")) ∷ (tok Operator 50 51 (codes "{")) ∷ (tok Keyword 52 58 (codes "return")) ∷ (tok Ident 59 60 (codes "r")) ∷ (tok Operator 61 62 (codes "}")) ∷ (tok Inserted 62 62 (codes ";")) ∷ (tok Keyword 64 68 (codes "func")) ∷ (tok Ident 69 73 (codes "main")) ∷ (tok Operator 73 74 (codes "(")) ∷ (tok Operator 74 75 (codes ")")) ∷ (tok Operator 76 77 (codes "{")) ∷ (tok Ident 79 86 (codes "println")) ∷ (tok Operator 86 87 (codes "(")) ∷ (tok Ident 87 91 (codes "Same")) ∷ (tok Operator 91 92 (codes "(")) ∷ (tok Operator 92 93 (codes ")")) ∷ (tok Operator 93 94 (codes ")")) ∷ (tok Inserted 94 94 (codes ";")) ∷ (tok Operator 95 96 (codes "}")) ∷ (tok Inserted 96 96 (codes ";")) ∷ [])) ≡ Some (result_in_value_0_f0, [])
unfolding reading
result_in_value_0_f0_read = refl

abbrev result_in_value_0 : Module
result_in_value_0 = record { packages = (pack (codes "example.com/m") (codes "main") (source (codes "main.go") result_in_value_0_f0 ∷ []) ∷ []); marks = (mark 0 0 0 0 ∷ []); texts = (((codes "main.go"), record { text = (codes "package main\n\n//go:fix inline\nfunc Same() (r int) { return r }\n\nfunc main() {\n\tprintln(Same())\n}\n"); tokens = ((tok Keyword 0 7 (codes "package")) ∷ (tok Ident 8 12 (codes "main")) ∷ (tok Inserted 12 12 (codes ";")) ∷ (tok Keyword 30 34 (codes "func")) ∷ (tok Ident 35 39 (codes "Same")) ∷ (tok Operator 39 40 (codes "(")) ∷ (tok Operator 40 41 (codes ")")) ∷ (tok Operator 42 43 (codes "(")) ∷ (tok Ident 43 44 (codes "r")) ∷ (tok Ident 45 48 (codes "int")) ∷ (tok Operator 48 49 (codes ")")) ∷ (tok Operator 50 51 (codes "{")) ∷ (tok Keyword 52 58 (codes "return")) ∷ (tok Ident 59 60 (codes "r")) ∷ (tok Operator 61 62 (codes "}")) ∷ (tok Inserted 62 62 (codes ";")) ∷ (tok Keyword 64 68 (codes "func")) ∷ (tok Ident 69 73 (codes "main")) ∷ (tok Operator 73 74 (codes "(")) ∷ (tok Operator 74 75 (codes ")")) ∷ (tok Operator 76 77 (codes "{")) ∷ (tok Ident 79 86 (codes "println")) ∷ (tok Operator 86 87 (codes "(")) ∷ (tok Ident 87 91 (codes "Same")) ∷ (tok Operator 91 92 (codes "(")) ∷ (tok Operator 92 93 (codes ")")) ∷ (tok Operator 93 94 (codes ")")) ∷ (tok Inserted 94 94 (codes ";")) ∷ (tok Operator 95 96 (codes "}")) ∷ (tok Inserted 96 96 (codes ";")) ∷ []); comments = ((note 14 29) ∷ []) }) ∷ []) }

result_in_value_0_typed : is_typed result_in_value_0 ≡ true
result_in_value_0_typed = refl

result_in_value_0_step : first_change result_in_value_0 ≡ Some ((codes "main.go"), LiteralForm, (codes "package main\n\n//go:fix inline\nfunc Same() (r int) { return r }\n\nfunc main() {\n\tprintln(func() (r int) {\n\t\treturn r\n\t}())\n}\n"))
result_in_value_0_step = refl

abbrev result_in_value_1_f0 : File Span
result_in_value_1_f0 = record { package_name = (nm 8 12 (codes "main")); imports = []; decls = ((fn (at 30 62) None (nm 35 39 (codes "Same")) (sig [] ((param (at 43 48) (Some (nm 43 44 (codes "r"))) (named (at 45 48) None (nm 45 48 (codes "int")))) ∷ [])) (at 50 62) (stmt_and (return_ (at 52 60) (expr_and (ident (at 59 60) (codes "r")) no_exprs)) no_stmts)) ∷ (fn (at 64 122) None (nm 69 73 (codes "main")) (sig [] []) (at 76 122) (stmt_and (eval (at 79 120) (call (at 79 120) (ident (at 79 86) (codes "println")) (expr_and (call (at 87 119) (func_lit (at 87 117) (sig [] ((param (at 95 100) (Some (nm 95 96 (codes "r"))) (named (at 97 100) None (nm 97 100 (codes "int")))) ∷ [])) (at 102 117) (stmt_and (return_ (at 106 114) (expr_and (ident (at 113 114) (codes "r")) no_exprs)) no_stmts)) no_exprs Plain) no_exprs) Plain)) no_stmts)) ∷ []) }

result_in_value_1_f0_read : read_at span_to read_front (lexemes ((tok Keyword 0 7 (codes "package")) ∷ (tok Ident 8 12 (codes "main")) ∷ (tok Inserted 12 12 (codes ";")) ∷ (tok Keyword 30 34 (codes "func")) ∷ (tok Ident 35 39 (codes "Same")) ∷ (tok Operator 39 40 (codes "(")) ∷ (tok Operator 40 41 (codes ")")) ∷ (tok Operator 42 43 (codes "(")) ∷ (tok Ident 43 44 (codes "r")) ∷ (tok Ident 45 48 (codes "int")) ∷ (tok Operator 48 49 (codes ")")) ∷ (tok Operator 50 51 (codes "{")) ∷ (tok Keyword 52 58 (codes "return")) ∷ (tok Ident 59 60 (codes "r")) ∷ (tok Operator 61 62 (codes "}")) ∷ (tok Inserted 62 62 (codes ";")) ∷ (tok Keyword 64 68 (codes "func")) ∷ (tok Ident 69 73 (codes "main")) ∷ (tok Operator 73 74 (codes "(")) ∷ (tok Operator 74 75 (codes ")")) ∷ (tok Operator 76 77 (codes "{")) ∷ (tok Ident 79 86 (codes "println")) ∷ (tok Operator 86 87 (codes "(")) ∷ (tok Keyword 87 91 (codes "func")) ∷ (tok Operator 91 92 (codes "(")) ∷ (tok Operator 92 93 (codes ")")) ∷ (tok Operator 94 95 (codes "(")) ∷ (tok Ident 95 96 (codes "r")) ∷ (tok Ident 97 100 (codes "int")) ∷ (tok Operator 100 101 (codes ")")) ∷ (tok Operator 102 103 (codes "{")) ∷ (tok Keyword 106 112 (codes "return")) ∷ (tok Ident 113 114 (codes "r")) ∷ (tok Inserted 114 114 (codes ";")) ∷ (tok Operator 116 117 (codes "}")) ∷ (tok Operator 117 118 (codes "(")) ∷ (tok Operator 118 119 (codes ")")) ∷ (tok Operator 119 120 (codes ")")) ∷ (tok Inserted 120 120 (codes ";")) ∷ (tok Operator 121 122 (codes "}")) ∷ (tok Inserted 122 122 (codes ";")) ∷ [])) ≡ Some (result_in_value_1_f0, [])
unfolding reading
result_in_value_1_f0_read = refl

abbrev result_in_value_1 : Module
result_in_value_1 = record { packages = (pack (codes "example.com/m") (codes "main") (source (codes "main.go") result_in_value_1_f0 ∷ []) ∷ []); marks = (mark 0 0 0 0 ∷ []); texts = (((codes "main.go"), record { text = (codes "package main\n\n//go:fix inline\nfunc Same() (r int) { return r }\n\nfunc main() {\n\tprintln(func() (r int) {\n\t\treturn r\n\t}())\n}\n"); tokens = ((tok Keyword 0 7 (codes "package")) ∷ (tok Ident 8 12 (codes "main")) ∷ (tok Inserted 12 12 (codes ";")) ∷ (tok Keyword 30 34 (codes "func")) ∷ (tok Ident 35 39 (codes "Same")) ∷ (tok Operator 39 40 (codes "(")) ∷ (tok Operator 40 41 (codes ")")) ∷ (tok Operator 42 43 (codes "(")) ∷ (tok Ident 43 44 (codes "r")) ∷ (tok Ident 45 48 (codes "int")) ∷ (tok Operator 48 49 (codes ")")) ∷ (tok Operator 50 51 (codes "{")) ∷ (tok Keyword 52 58 (codes "return")) ∷ (tok Ident 59 60 (codes "r")) ∷ (tok Operator 61 62 (codes "}")) ∷ (tok Inserted 62 62 (codes ";")) ∷ (tok Keyword 64 68 (codes "func")) ∷ (tok Ident 69 73 (codes "main")) ∷ (tok Operator 73 74 (codes "(")) ∷ (tok Operator 74 75 (codes ")")) ∷ (tok Operator 76 77 (codes "{")) ∷ (tok Ident 79 86 (codes "println")) ∷ (tok Operator 86 87 (codes "(")) ∷ (tok Keyword 87 91 (codes "func")) ∷ (tok Operator 91 92 (codes "(")) ∷ (tok Operator 92 93 (codes ")")) ∷ (tok Operator 94 95 (codes "(")) ∷ (tok Ident 95 96 (codes "r")) ∷ (tok Ident 97 100 (codes "int")) ∷ (tok Operator 100 101 (codes ")")) ∷ (tok Operator 102 103 (codes "{")) ∷ (tok Keyword 106 112 (codes "return")) ∷ (tok Ident 113 114 (codes "r")) ∷ (tok Inserted 114 114 (codes ";")) ∷ (tok Operator 116 117 (codes "}")) ∷ (tok Operator 117 118 (codes "(")) ∷ (tok Operator 118 119 (codes ")")) ∷ (tok Operator 119 120 (codes ")")) ∷ (tok Inserted 120 120 (codes ";")) ∷ (tok Operator 121 122 (codes "}")) ∷ (tok Inserted 122 122 (codes ";")) ∷ []); comments = ((note 14 29) ∷ []) }) ∷ []) }

result_in_value_1_typed : is_typed result_in_value_1 ≡ true
result_in_value_1_typed = refl

result_in_value_1_ends : step_of result_in_value_1 ≡ None
result_in_value_1_ends = refl

result_in_value_1_kept : kept_uses result_in_value_1 ≡ []
result_in_value_1_kept = refl

-- The last use of a variable is not dropped.
abbrev last_use_0_f0 : File Span
last_use_0_f0 = record { package_name = (nm 8 12 (codes "main")); imports = []; decls = ((fn (at 30 63) None (nm 35 39 (codes "Zero")) (sig ((param (at 40 45) (Some (nm 40 41 (codes "x"))) (named (at 42 45) None (nm 42 45 (codes "int")))) ∷ []) ((param (at 47 50) None (named (at 47 50) None (nm 47 50 (codes "int")))) ∷ [])) (at 51 63) (stmt_and (return_ (at 53 61) (expr_and (int_lit (at 60 61) (codes "0")) no_exprs)) no_stmts)) ∷ (fn (at 65 106) None (nm 70 74 (codes "main")) (sig [] []) (at 77 106) (stmt_and (define (at 80 86) ((nm 80 81 (codes "a")) ∷ []) (expr_and (int_lit (at 85 86) (codes "1")) no_exprs)) (stmt_and (eval (at 88 104) (call (at 88 104) (ident (at 88 95) (codes "println")) (expr_and (call (at 96 103) (ident (at 96 100) (codes "Zero")) (expr_and (ident (at 101 102) (codes "a")) no_exprs) Plain) no_exprs) Plain)) no_stmts))) ∷ []) }

last_use_0_f0_read : read_at span_to read_front (lexemes ((tok Keyword 0 7 (codes "package")) ∷ (tok Ident 8 12 (codes "main")) ∷ (tok Inserted 12 12 (codes ";")) ∷ (tok Keyword 30 34 (codes "func")) ∷ (tok Ident 35 39 (codes "Zero")) ∷ (tok Operator 39 40 (codes "(")) ∷ (tok Ident 40 41 (codes "x")) ∷ (tok Ident 42 45 (codes "int")) ∷ (tok Operator 45 46 (codes ")")) ∷ (tok Ident 47 50 (codes "int")) ∷ (tok Operator 51 52 (codes "{")) ∷ (tok Keyword 53 59 (codes "return")) ∷ (tok Integer 60 61 (codes "0")) ∷ (tok Operator 62 63 (codes "}")) ∷ (tok Inserted 63 63 (codes ";")) ∷ (tok Keyword 65 69 (codes "func")) ∷ (tok Ident 70 74 (codes "main")) ∷ (tok Operator 74 75 (codes "(")) ∷ (tok Operator 75 76 (codes ")")) ∷ (tok Operator 77 78 (codes "{")) ∷ (tok Ident 80 81 (codes "a")) ∷ (tok Operator 82 84 (codes ":=")) ∷ (tok Integer 85 86 (codes "1")) ∷ (tok Inserted 86 86 (codes ";")) ∷ (tok Ident 88 95 (codes "println")) ∷ (tok Operator 95 96 (codes "(")) ∷ (tok Ident 96 100 (codes "Zero")) ∷ (tok Operator 100 101 (codes "(")) ∷ (tok Ident 101 102 (codes "a")) ∷ (tok Operator 102 103 (codes ")")) ∷ (tok Operator 103 104 (codes ")")) ∷ (tok Inserted 104 104 (codes ";")) ∷ (tok Operator 105 106 (codes "}")) ∷ (tok Inserted 106 106 (codes ";")) ∷ [])) ≡ Some (last_use_0_f0, [])
unfolding reading
last_use_0_f0_read = refl

abbrev last_use_0 : Module
last_use_0 = record { packages = (pack (codes "example.com/m") (codes "main") (source (codes "main.go") last_use_0_f0 ∷ []) ∷ []); marks = (mark 0 0 0 0 ∷ []); texts = (((codes "main.go"), record { text = (codes "package main\n\n//go:fix inline\nfunc Zero(x int) int { return 0 }\n\nfunc main() {\n\ta := 1\n\tprintln(Zero(a))\n}\n"); tokens = ((tok Keyword 0 7 (codes "package")) ∷ (tok Ident 8 12 (codes "main")) ∷ (tok Inserted 12 12 (codes ";")) ∷ (tok Keyword 30 34 (codes "func")) ∷ (tok Ident 35 39 (codes "Zero")) ∷ (tok Operator 39 40 (codes "(")) ∷ (tok Ident 40 41 (codes "x")) ∷ (tok Ident 42 45 (codes "int")) ∷ (tok Operator 45 46 (codes ")")) ∷ (tok Ident 47 50 (codes "int")) ∷ (tok Operator 51 52 (codes "{")) ∷ (tok Keyword 53 59 (codes "return")) ∷ (tok Integer 60 61 (codes "0")) ∷ (tok Operator 62 63 (codes "}")) ∷ (tok Inserted 63 63 (codes ";")) ∷ (tok Keyword 65 69 (codes "func")) ∷ (tok Ident 70 74 (codes "main")) ∷ (tok Operator 74 75 (codes "(")) ∷ (tok Operator 75 76 (codes ")")) ∷ (tok Operator 77 78 (codes "{")) ∷ (tok Ident 80 81 (codes "a")) ∷ (tok Operator 82 84 (codes ":=")) ∷ (tok Integer 85 86 (codes "1")) ∷ (tok Inserted 86 86 (codes ";")) ∷ (tok Ident 88 95 (codes "println")) ∷ (tok Operator 95 96 (codes "(")) ∷ (tok Ident 96 100 (codes "Zero")) ∷ (tok Operator 100 101 (codes "(")) ∷ (tok Ident 101 102 (codes "a")) ∷ (tok Operator 102 103 (codes ")")) ∷ (tok Operator 103 104 (codes ")")) ∷ (tok Inserted 104 104 (codes ";")) ∷ (tok Operator 105 106 (codes "}")) ∷ (tok Inserted 106 106 (codes ";")) ∷ []); comments = ((note 14 29) ∷ []) }) ∷ []) }

last_use_0_typed : is_typed last_use_0 ≡ true
last_use_0_typed = refl

last_use_0_step : first_change last_use_0 ≡ Some ((codes "main.go"), LiteralForm, (codes "package main\n\n//go:fix inline\nfunc Zero(x int) int { return 0 }\n\nfunc main() {\n\ta := 1\n\tprintln(func(x int) int {\n\t\treturn 0\n\t}(a))\n}\n"))
last_use_0_step = refl

abbrev last_use_1_f0 : File Span
last_use_1_f0 = record { package_name = (nm 8 12 (codes "main")); imports = []; decls = ((fn (at 30 63) None (nm 35 39 (codes "Zero")) (sig ((param (at 40 45) (Some (nm 40 41 (codes "x"))) (named (at 42 45) None (nm 42 45 (codes "int")))) ∷ []) ((param (at 47 50) None (named (at 47 50) None (nm 47 50 (codes "int")))) ∷ [])) (at 51 63) (stmt_and (return_ (at 53 61) (expr_and (int_lit (at 60 61) (codes "0")) no_exprs)) no_stmts)) ∷ (fn (at 65 133) None (nm 70 74 (codes "main")) (sig [] []) (at 77 133) (stmt_and (define (at 80 86) ((nm 80 81 (codes "a")) ∷ []) (expr_and (int_lit (at 85 86) (codes "1")) no_exprs)) (stmt_and (eval (at 88 131) (call (at 88 131) (ident (at 88 95) (codes "println")) (expr_and (call (at 96 130) (func_lit (at 96 127) (sig ((param (at 101 106) (Some (nm 101 102 (codes "x"))) (named (at 103 106) None (nm 103 106 (codes "int")))) ∷ []) ((param (at 108 111) None (named (at 108 111) None (nm 108 111 (codes "int")))) ∷ [])) (at 112 127) (stmt_and (return_ (at 116 124) (expr_and (int_lit (at 123 124) (codes "0")) no_exprs)) no_stmts)) (expr_and (ident (at 128 129) (codes "a")) no_exprs) Plain) no_exprs) Plain)) no_stmts))) ∷ []) }

last_use_1_f0_read : read_at span_to read_front (lexemes ((tok Keyword 0 7 (codes "package")) ∷ (tok Ident 8 12 (codes "main")) ∷ (tok Inserted 12 12 (codes ";")) ∷ (tok Keyword 30 34 (codes "func")) ∷ (tok Ident 35 39 (codes "Zero")) ∷ (tok Operator 39 40 (codes "(")) ∷ (tok Ident 40 41 (codes "x")) ∷ (tok Ident 42 45 (codes "int")) ∷ (tok Operator 45 46 (codes ")")) ∷ (tok Ident 47 50 (codes "int")) ∷ (tok Operator 51 52 (codes "{")) ∷ (tok Keyword 53 59 (codes "return")) ∷ (tok Integer 60 61 (codes "0")) ∷ (tok Operator 62 63 (codes "}")) ∷ (tok Inserted 63 63 (codes ";")) ∷ (tok Keyword 65 69 (codes "func")) ∷ (tok Ident 70 74 (codes "main")) ∷ (tok Operator 74 75 (codes "(")) ∷ (tok Operator 75 76 (codes ")")) ∷ (tok Operator 77 78 (codes "{")) ∷ (tok Ident 80 81 (codes "a")) ∷ (tok Operator 82 84 (codes ":=")) ∷ (tok Integer 85 86 (codes "1")) ∷ (tok Inserted 86 86 (codes ";")) ∷ (tok Ident 88 95 (codes "println")) ∷ (tok Operator 95 96 (codes "(")) ∷ (tok Keyword 96 100 (codes "func")) ∷ (tok Operator 100 101 (codes "(")) ∷ (tok Ident 101 102 (codes "x")) ∷ (tok Ident 103 106 (codes "int")) ∷ (tok Operator 106 107 (codes ")")) ∷ (tok Ident 108 111 (codes "int")) ∷ (tok Operator 112 113 (codes "{")) ∷ (tok Keyword 116 122 (codes "return")) ∷ (tok Integer 123 124 (codes "0")) ∷ (tok Inserted 124 124 (codes ";")) ∷ (tok Operator 126 127 (codes "}")) ∷ (tok Operator 127 128 (codes "(")) ∷ (tok Ident 128 129 (codes "a")) ∷ (tok Operator 129 130 (codes ")")) ∷ (tok Operator 130 131 (codes ")")) ∷ (tok Inserted 131 131 (codes ";")) ∷ (tok Operator 132 133 (codes "}")) ∷ (tok Inserted 133 133 (codes ";")) ∷ [])) ≡ Some (last_use_1_f0, [])
unfolding reading
last_use_1_f0_read = refl

abbrev last_use_1 : Module
last_use_1 = record { packages = (pack (codes "example.com/m") (codes "main") (source (codes "main.go") last_use_1_f0 ∷ []) ∷ []); marks = (mark 0 0 0 0 ∷ []); texts = (((codes "main.go"), record { text = (codes "package main\n\n//go:fix inline\nfunc Zero(x int) int { return 0 }\n\nfunc main() {\n\ta := 1\n\tprintln(func(x int) int {\n\t\treturn 0\n\t}(a))\n}\n"); tokens = ((tok Keyword 0 7 (codes "package")) ∷ (tok Ident 8 12 (codes "main")) ∷ (tok Inserted 12 12 (codes ";")) ∷ (tok Keyword 30 34 (codes "func")) ∷ (tok Ident 35 39 (codes "Zero")) ∷ (tok Operator 39 40 (codes "(")) ∷ (tok Ident 40 41 (codes "x")) ∷ (tok Ident 42 45 (codes "int")) ∷ (tok Operator 45 46 (codes ")")) ∷ (tok Ident 47 50 (codes "int")) ∷ (tok Operator 51 52 (codes "{")) ∷ (tok Keyword 53 59 (codes "return")) ∷ (tok Integer 60 61 (codes "0")) ∷ (tok Operator 62 63 (codes "}")) ∷ (tok Inserted 63 63 (codes ";")) ∷ (tok Keyword 65 69 (codes "func")) ∷ (tok Ident 70 74 (codes "main")) ∷ (tok Operator 74 75 (codes "(")) ∷ (tok Operator 75 76 (codes ")")) ∷ (tok Operator 77 78 (codes "{")) ∷ (tok Ident 80 81 (codes "a")) ∷ (tok Operator 82 84 (codes ":=")) ∷ (tok Integer 85 86 (codes "1")) ∷ (tok Inserted 86 86 (codes ";")) ∷ (tok Ident 88 95 (codes "println")) ∷ (tok Operator 95 96 (codes "(")) ∷ (tok Keyword 96 100 (codes "func")) ∷ (tok Operator 100 101 (codes "(")) ∷ (tok Ident 101 102 (codes "x")) ∷ (tok Ident 103 106 (codes "int")) ∷ (tok Operator 106 107 (codes ")")) ∷ (tok Ident 108 111 (codes "int")) ∷ (tok Operator 112 113 (codes "{")) ∷ (tok Keyword 116 122 (codes "return")) ∷ (tok Integer 123 124 (codes "0")) ∷ (tok Inserted 124 124 (codes ";")) ∷ (tok Operator 126 127 (codes "}")) ∷ (tok Operator 127 128 (codes "(")) ∷ (tok Ident 128 129 (codes "a")) ∷ (tok Operator 129 130 (codes ")")) ∷ (tok Operator 130 131 (codes ")")) ∷ (tok Inserted 131 131 (codes ";")) ∷ (tok Operator 132 133 (codes "}")) ∷ (tok Inserted 133 133 (codes ";")) ∷ []); comments = ((note 14 29) ∷ []) }) ∷ []) }

last_use_1_typed : is_typed last_use_1 ≡ true
last_use_1_typed = refl

last_use_1_ends : step_of last_use_1 ≡ None
last_use_1_ends = refl

last_use_1_kept : kept_uses last_use_1 ≡ []
last_use_1_kept = refl

-- A variable that is used elsewhere is dropped.
abbrev dropped_variable_0_f0 : File Span
dropped_variable_0_f0 = record { package_name = (nm 8 12 (codes "main")); imports = []; decls = ((fn (at 30 63) None (nm 35 39 (codes "Zero")) (sig ((param (at 40 45) (Some (nm 40 41 (codes "x"))) (named (at 42 45) None (nm 42 45 (codes "int")))) ∷ []) ((param (at 47 50) None (named (at 47 50) None (nm 47 50 (codes "int")))) ∷ [])) (at 51 63) (stmt_and (return_ (at 53 61) (expr_and (int_lit (at 60 61) (codes "0")) no_exprs)) no_stmts)) ∷ (fn (at 65 109) None (nm 70 74 (codes "main")) (sig [] []) (at 77 109) (stmt_and (define (at 80 86) ((nm 80 81 (codes "a")) ∷ []) (expr_and (int_lit (at 85 86) (codes "1")) no_exprs)) (stmt_and (eval (at 88 107) (call (at 88 107) (ident (at 88 95) (codes "println")) (expr_and (call (at 96 103) (ident (at 96 100) (codes "Zero")) (expr_and (ident (at 101 102) (codes "a")) no_exprs) Plain) (expr_and (ident (at 105 106) (codes "a")) no_exprs)) Plain)) no_stmts))) ∷ []) }

dropped_variable_0_f0_read : read_at span_to read_front (lexemes ((tok Keyword 0 7 (codes "package")) ∷ (tok Ident 8 12 (codes "main")) ∷ (tok Inserted 12 12 (codes ";")) ∷ (tok Keyword 30 34 (codes "func")) ∷ (tok Ident 35 39 (codes "Zero")) ∷ (tok Operator 39 40 (codes "(")) ∷ (tok Ident 40 41 (codes "x")) ∷ (tok Ident 42 45 (codes "int")) ∷ (tok Operator 45 46 (codes ")")) ∷ (tok Ident 47 50 (codes "int")) ∷ (tok Operator 51 52 (codes "{")) ∷ (tok Keyword 53 59 (codes "return")) ∷ (tok Integer 60 61 (codes "0")) ∷ (tok Operator 62 63 (codes "}")) ∷ (tok Inserted 63 63 (codes ";")) ∷ (tok Keyword 65 69 (codes "func")) ∷ (tok Ident 70 74 (codes "main")) ∷ (tok Operator 74 75 (codes "(")) ∷ (tok Operator 75 76 (codes ")")) ∷ (tok Operator 77 78 (codes "{")) ∷ (tok Ident 80 81 (codes "a")) ∷ (tok Operator 82 84 (codes ":=")) ∷ (tok Integer 85 86 (codes "1")) ∷ (tok Inserted 86 86 (codes ";")) ∷ (tok Ident 88 95 (codes "println")) ∷ (tok Operator 95 96 (codes "(")) ∷ (tok Ident 96 100 (codes "Zero")) ∷ (tok Operator 100 101 (codes "(")) ∷ (tok Ident 101 102 (codes "a")) ∷ (tok Operator 102 103 (codes ")")) ∷ (tok Operator 103 104 (codes ",")) ∷ (tok Ident 105 106 (codes "a")) ∷ (tok Operator 106 107 (codes ")")) ∷ (tok Inserted 107 107 (codes ";")) ∷ (tok Operator 108 109 (codes "}")) ∷ (tok Inserted 109 109 (codes ";")) ∷ [])) ≡ Some (dropped_variable_0_f0, [])
unfolding reading
dropped_variable_0_f0_read = refl

abbrev dropped_variable_0 : Module
dropped_variable_0 = record { packages = (pack (codes "example.com/m") (codes "main") (source (codes "main.go") dropped_variable_0_f0 ∷ []) ∷ []); marks = (mark 0 0 0 0 ∷ []); texts = (((codes "main.go"), record { text = (codes "package main\n\n//go:fix inline\nfunc Zero(x int) int { return 0 }\n\nfunc main() {\n\ta := 1\n\tprintln(Zero(a), a)\n}\n"); tokens = ((tok Keyword 0 7 (codes "package")) ∷ (tok Ident 8 12 (codes "main")) ∷ (tok Inserted 12 12 (codes ";")) ∷ (tok Keyword 30 34 (codes "func")) ∷ (tok Ident 35 39 (codes "Zero")) ∷ (tok Operator 39 40 (codes "(")) ∷ (tok Ident 40 41 (codes "x")) ∷ (tok Ident 42 45 (codes "int")) ∷ (tok Operator 45 46 (codes ")")) ∷ (tok Ident 47 50 (codes "int")) ∷ (tok Operator 51 52 (codes "{")) ∷ (tok Keyword 53 59 (codes "return")) ∷ (tok Integer 60 61 (codes "0")) ∷ (tok Operator 62 63 (codes "}")) ∷ (tok Inserted 63 63 (codes ";")) ∷ (tok Keyword 65 69 (codes "func")) ∷ (tok Ident 70 74 (codes "main")) ∷ (tok Operator 74 75 (codes "(")) ∷ (tok Operator 75 76 (codes ")")) ∷ (tok Operator 77 78 (codes "{")) ∷ (tok Ident 80 81 (codes "a")) ∷ (tok Operator 82 84 (codes ":=")) ∷ (tok Integer 85 86 (codes "1")) ∷ (tok Inserted 86 86 (codes ";")) ∷ (tok Ident 88 95 (codes "println")) ∷ (tok Operator 95 96 (codes "(")) ∷ (tok Ident 96 100 (codes "Zero")) ∷ (tok Operator 100 101 (codes "(")) ∷ (tok Ident 101 102 (codes "a")) ∷ (tok Operator 102 103 (codes ")")) ∷ (tok Operator 103 104 (codes ",")) ∷ (tok Ident 105 106 (codes "a")) ∷ (tok Operator 106 107 (codes ")")) ∷ (tok Inserted 107 107 (codes ";")) ∷ (tok Operator 108 109 (codes "}")) ∷ (tok Inserted 109 109 (codes ";")) ∷ []); comments = ((note 14 29) ∷ []) }) ∷ []) }

dropped_variable_0_typed : is_typed dropped_variable_0 ≡ true
dropped_variable_0_typed = refl

dropped_variable_0_step : first_change dropped_variable_0 ≡ Some ((codes "main.go"), ExprForm, (codes "package main\n\n//go:fix inline\nfunc Zero(x int) int { return 0 }\n\nfunc main() {\n\ta := 1\n\tprintln(0, a)\n}\n"))
dropped_variable_0_step = refl

abbrev dropped_variable_1_f0 : File Span
dropped_variable_1_f0 = record { package_name = (nm 8 12 (codes "main")); imports = []; decls = ((fn (at 30 63) None (nm 35 39 (codes "Zero")) (sig ((param (at 40 45) (Some (nm 40 41 (codes "x"))) (named (at 42 45) None (nm 42 45 (codes "int")))) ∷ []) ((param (at 47 50) None (named (at 47 50) None (nm 47 50 (codes "int")))) ∷ [])) (at 51 63) (stmt_and (return_ (at 53 61) (expr_and (int_lit (at 60 61) (codes "0")) no_exprs)) no_stmts)) ∷ (fn (at 65 103) None (nm 70 74 (codes "main")) (sig [] []) (at 77 103) (stmt_and (define (at 80 86) ((nm 80 81 (codes "a")) ∷ []) (expr_and (int_lit (at 85 86) (codes "1")) no_exprs)) (stmt_and (eval (at 88 101) (call (at 88 101) (ident (at 88 95) (codes "println")) (expr_and (int_lit (at 96 97) (codes "0")) (expr_and (ident (at 99 100) (codes "a")) no_exprs)) Plain)) no_stmts))) ∷ []) }

dropped_variable_1_f0_read : read_at span_to read_front (lexemes ((tok Keyword 0 7 (codes "package")) ∷ (tok Ident 8 12 (codes "main")) ∷ (tok Inserted 12 12 (codes ";")) ∷ (tok Keyword 30 34 (codes "func")) ∷ (tok Ident 35 39 (codes "Zero")) ∷ (tok Operator 39 40 (codes "(")) ∷ (tok Ident 40 41 (codes "x")) ∷ (tok Ident 42 45 (codes "int")) ∷ (tok Operator 45 46 (codes ")")) ∷ (tok Ident 47 50 (codes "int")) ∷ (tok Operator 51 52 (codes "{")) ∷ (tok Keyword 53 59 (codes "return")) ∷ (tok Integer 60 61 (codes "0")) ∷ (tok Operator 62 63 (codes "}")) ∷ (tok Inserted 63 63 (codes ";")) ∷ (tok Keyword 65 69 (codes "func")) ∷ (tok Ident 70 74 (codes "main")) ∷ (tok Operator 74 75 (codes "(")) ∷ (tok Operator 75 76 (codes ")")) ∷ (tok Operator 77 78 (codes "{")) ∷ (tok Ident 80 81 (codes "a")) ∷ (tok Operator 82 84 (codes ":=")) ∷ (tok Integer 85 86 (codes "1")) ∷ (tok Inserted 86 86 (codes ";")) ∷ (tok Ident 88 95 (codes "println")) ∷ (tok Operator 95 96 (codes "(")) ∷ (tok Integer 96 97 (codes "0")) ∷ (tok Operator 97 98 (codes ",")) ∷ (tok Ident 99 100 (codes "a")) ∷ (tok Operator 100 101 (codes ")")) ∷ (tok Inserted 101 101 (codes ";")) ∷ (tok Operator 102 103 (codes "}")) ∷ (tok Inserted 103 103 (codes ";")) ∷ [])) ≡ Some (dropped_variable_1_f0, [])
unfolding reading
dropped_variable_1_f0_read = refl

abbrev dropped_variable_1 : Module
dropped_variable_1 = record { packages = (pack (codes "example.com/m") (codes "main") (source (codes "main.go") dropped_variable_1_f0 ∷ []) ∷ []); marks = (mark 0 0 0 0 ∷ []); texts = (((codes "main.go"), record { text = (codes "package main\n\n//go:fix inline\nfunc Zero(x int) int { return 0 }\n\nfunc main() {\n\ta := 1\n\tprintln(0, a)\n}\n"); tokens = ((tok Keyword 0 7 (codes "package")) ∷ (tok Ident 8 12 (codes "main")) ∷ (tok Inserted 12 12 (codes ";")) ∷ (tok Keyword 30 34 (codes "func")) ∷ (tok Ident 35 39 (codes "Zero")) ∷ (tok Operator 39 40 (codes "(")) ∷ (tok Ident 40 41 (codes "x")) ∷ (tok Ident 42 45 (codes "int")) ∷ (tok Operator 45 46 (codes ")")) ∷ (tok Ident 47 50 (codes "int")) ∷ (tok Operator 51 52 (codes "{")) ∷ (tok Keyword 53 59 (codes "return")) ∷ (tok Integer 60 61 (codes "0")) ∷ (tok Operator 62 63 (codes "}")) ∷ (tok Inserted 63 63 (codes ";")) ∷ (tok Keyword 65 69 (codes "func")) ∷ (tok Ident 70 74 (codes "main")) ∷ (tok Operator 74 75 (codes "(")) ∷ (tok Operator 75 76 (codes ")")) ∷ (tok Operator 77 78 (codes "{")) ∷ (tok Ident 80 81 (codes "a")) ∷ (tok Operator 82 84 (codes ":=")) ∷ (tok Integer 85 86 (codes "1")) ∷ (tok Inserted 86 86 (codes ";")) ∷ (tok Ident 88 95 (codes "println")) ∷ (tok Operator 95 96 (codes "(")) ∷ (tok Integer 96 97 (codes "0")) ∷ (tok Operator 97 98 (codes ",")) ∷ (tok Ident 99 100 (codes "a")) ∷ (tok Operator 100 101 (codes ")")) ∷ (tok Inserted 101 101 (codes ";")) ∷ (tok Operator 102 103 (codes "}")) ∷ (tok Inserted 103 103 (codes ";")) ∷ []); comments = ((note 14 29) ∷ []) }) ∷ []) }

dropped_variable_1_typed : is_typed dropped_variable_1 ≡ true
dropped_variable_1_typed = refl

dropped_variable_1_ends : step_of dropped_variable_1 ≡ None
dropped_variable_1_ends = refl

dropped_variable_1_kept : kept_uses dropped_variable_1 ≡ []
dropped_variable_1_kept = refl

-- A parameter that is assigned is bound.
abbrev assigned_parameter_0_f0 : File Span
assigned_parameter_0_f0 = record { package_name = (nm 8 12 (codes "main")); imports = []; decls = ((fn (at 30 68) None (nm 35 38 (codes "Inc")) (sig ((param (at 39 44) (Some (nm 39 40 (codes "x"))) (named (at 41 44) None (nm 41 44 (codes "int")))) ∷ []) ((param (at 46 49) None (named (at 46 49) None (nm 46 49 (codes "int")))) ∷ [])) (at 50 68) (stmt_and (step (at 53 56) (ident (at 53 54) (codes "x")) true) (stmt_and (return_ (at 58 66) (expr_and (ident (at 65 66) (codes "x")) no_exprs)) no_stmts))) ∷ (fn (at 70 110) None (nm 75 79 (codes "main")) (sig [] []) (at 82 110) (stmt_and (define (at 85 91) ((nm 85 86 (codes "a")) ∷ []) (expr_and (int_lit (at 90 91) (codes "1")) no_exprs)) (stmt_and (eval (at 93 108) (call (at 93 108) (ident (at 93 100) (codes "println")) (expr_and (call (at 101 107) (ident (at 101 104) (codes "Inc")) (expr_and (ident (at 105 106) (codes "a")) no_exprs) Plain) no_exprs) Plain)) no_stmts))) ∷ []) }

assigned_parameter_0_f0_read : read_at span_to read_front (lexemes ((tok Keyword 0 7 (codes "package")) ∷ (tok Ident 8 12 (codes "main")) ∷ (tok Inserted 12 12 (codes ";")) ∷ (tok Keyword 30 34 (codes "func")) ∷ (tok Ident 35 38 (codes "Inc")) ∷ (tok Operator 38 39 (codes "(")) ∷ (tok Ident 39 40 (codes "x")) ∷ (tok Ident 41 44 (codes "int")) ∷ (tok Operator 44 45 (codes ")")) ∷ (tok Ident 46 49 (codes "int")) ∷ (tok Operator 50 51 (codes "{")) ∷ (tok Ident 53 54 (codes "x")) ∷ (tok Operator 54 56 (codes "++")) ∷ (tok Inserted 56 56 (codes ";")) ∷ (tok Keyword 58 64 (codes "return")) ∷ (tok Ident 65 66 (codes "x")) ∷ (tok Inserted 66 66 (codes ";")) ∷ (tok Operator 67 68 (codes "}")) ∷ (tok Inserted 68 68 (codes ";")) ∷ (tok Keyword 70 74 (codes "func")) ∷ (tok Ident 75 79 (codes "main")) ∷ (tok Operator 79 80 (codes "(")) ∷ (tok Operator 80 81 (codes ")")) ∷ (tok Operator 82 83 (codes "{")) ∷ (tok Ident 85 86 (codes "a")) ∷ (tok Operator 87 89 (codes ":=")) ∷ (tok Integer 90 91 (codes "1")) ∷ (tok Inserted 91 91 (codes ";")) ∷ (tok Ident 93 100 (codes "println")) ∷ (tok Operator 100 101 (codes "(")) ∷ (tok Ident 101 104 (codes "Inc")) ∷ (tok Operator 104 105 (codes "(")) ∷ (tok Ident 105 106 (codes "a")) ∷ (tok Operator 106 107 (codes ")")) ∷ (tok Operator 107 108 (codes ")")) ∷ (tok Inserted 108 108 (codes ";")) ∷ (tok Operator 109 110 (codes "}")) ∷ (tok Inserted 110 110 (codes ";")) ∷ [])) ≡ Some (assigned_parameter_0_f0, [])
unfolding reading
assigned_parameter_0_f0_read = refl

abbrev assigned_parameter_0 : Module
assigned_parameter_0 = record { packages = (pack (codes "example.com/m") (codes "main") (source (codes "main.go") assigned_parameter_0_f0 ∷ []) ∷ []); marks = (mark 0 0 0 0 ∷ []); texts = (((codes "main.go"), record { text = (codes "package main\n\n//go:fix inline\nfunc Inc(x int) int {\n\tx++\n\treturn x\n}\n\nfunc main() {\n\ta := 1\n\tprintln(Inc(a))\n}\n"); tokens = ((tok Keyword 0 7 (codes "package")) ∷ (tok Ident 8 12 (codes "main")) ∷ (tok Inserted 12 12 (codes ";")) ∷ (tok Keyword 30 34 (codes "func")) ∷ (tok Ident 35 38 (codes "Inc")) ∷ (tok Operator 38 39 (codes "(")) ∷ (tok Ident 39 40 (codes "x")) ∷ (tok Ident 41 44 (codes "int")) ∷ (tok Operator 44 45 (codes ")")) ∷ (tok Ident 46 49 (codes "int")) ∷ (tok Operator 50 51 (codes "{")) ∷ (tok Ident 53 54 (codes "x")) ∷ (tok Operator 54 56 (codes "++")) ∷ (tok Inserted 56 56 (codes ";")) ∷ (tok Keyword 58 64 (codes "return")) ∷ (tok Ident 65 66 (codes "x")) ∷ (tok Inserted 66 66 (codes ";")) ∷ (tok Operator 67 68 (codes "}")) ∷ (tok Inserted 68 68 (codes ";")) ∷ (tok Keyword 70 74 (codes "func")) ∷ (tok Ident 75 79 (codes "main")) ∷ (tok Operator 79 80 (codes "(")) ∷ (tok Operator 80 81 (codes ")")) ∷ (tok Operator 82 83 (codes "{")) ∷ (tok Ident 85 86 (codes "a")) ∷ (tok Operator 87 89 (codes ":=")) ∷ (tok Integer 90 91 (codes "1")) ∷ (tok Inserted 91 91 (codes ";")) ∷ (tok Ident 93 100 (codes "println")) ∷ (tok Operator 100 101 (codes "(")) ∷ (tok Ident 101 104 (codes "Inc")) ∷ (tok Operator 104 105 (codes "(")) ∷ (tok Ident 105 106 (codes "a")) ∷ (tok Operator 106 107 (codes ")")) ∷ (tok Operator 107 108 (codes ")")) ∷ (tok Inserted 108 108 (codes ";")) ∷ (tok Operator 109 110 (codes "}")) ∷ (tok Inserted 110 110 (codes ";")) ∷ []); comments = ((note 14 29) ∷ []) }) ∷ []) }

assigned_parameter_0_typed : is_typed assigned_parameter_0 ≡ true
assigned_parameter_0_typed = refl

assigned_parameter_0_step : first_change assigned_parameter_0 ≡ Some ((codes "main.go"), LiteralForm, (codes "package main\n\n//go:fix inline\nfunc Inc(x int) int {\n\tx++\n\treturn x\n}\n\nfunc main() {\n\ta := 1\n\tprintln(func(x int) int {\n\t\tx++\n\t\treturn x\n\t}(a))\n}\n"))
assigned_parameter_0_step = refl

abbrev assigned_parameter_1_f0 : File Span
assigned_parameter_1_f0 = record { package_name = (nm 8 12 (codes "main")); imports = []; decls = ((fn (at 30 68) None (nm 35 38 (codes "Inc")) (sig ((param (at 39 44) (Some (nm 39 40 (codes "x"))) (named (at 41 44) None (nm 41 44 (codes "int")))) ∷ []) ((param (at 46 49) None (named (at 46 49) None (nm 46 49 (codes "int")))) ∷ [])) (at 50 68) (stmt_and (step (at 53 56) (ident (at 53 54) (codes "x")) true) (stmt_and (return_ (at 58 66) (expr_and (ident (at 65 66) (codes "x")) no_exprs)) no_stmts))) ∷ (fn (at 70 144) None (nm 75 79 (codes "main")) (sig [] []) (at 82 144) (stmt_and (define (at 85 91) ((nm 85 86 (codes "a")) ∷ []) (expr_and (int_lit (at 90 91) (codes "1")) no_exprs)) (stmt_and (eval (at 93 142) (call (at 93 142) (ident (at 93 100) (codes "println")) (expr_and (call (at 101 141) (func_lit (at 101 138) (sig ((param (at 106 111) (Some (nm 106 107 (codes "x"))) (named (at 108 111) None (nm 108 111 (codes "int")))) ∷ []) ((param (at 113 116) None (named (at 113 116) None (nm 113 116 (codes "int")))) ∷ [])) (at 117 138) (stmt_and (step (at 121 124) (ident (at 121 122) (codes "x")) true) (stmt_and (return_ (at 127 135) (expr_and (ident (at 134 135) (codes "x")) no_exprs)) no_stmts))) (expr_and (ident (at 139 140) (codes "a")) no_exprs) Plain) no_exprs) Plain)) no_stmts))) ∷ []) }

assigned_parameter_1_f0_read : read_at span_to read_front (lexemes ((tok Keyword 0 7 (codes "package")) ∷ (tok Ident 8 12 (codes "main")) ∷ (tok Inserted 12 12 (codes ";")) ∷ (tok Keyword 30 34 (codes "func")) ∷ (tok Ident 35 38 (codes "Inc")) ∷ (tok Operator 38 39 (codes "(")) ∷ (tok Ident 39 40 (codes "x")) ∷ (tok Ident 41 44 (codes "int")) ∷ (tok Operator 44 45 (codes ")")) ∷ (tok Ident 46 49 (codes "int")) ∷ (tok Operator 50 51 (codes "{")) ∷ (tok Ident 53 54 (codes "x")) ∷ (tok Operator 54 56 (codes "++")) ∷ (tok Inserted 56 56 (codes ";")) ∷ (tok Keyword 58 64 (codes "return")) ∷ (tok Ident 65 66 (codes "x")) ∷ (tok Inserted 66 66 (codes ";")) ∷ (tok Operator 67 68 (codes "}")) ∷ (tok Inserted 68 68 (codes ";")) ∷ (tok Keyword 70 74 (codes "func")) ∷ (tok Ident 75 79 (codes "main")) ∷ (tok Operator 79 80 (codes "(")) ∷ (tok Operator 80 81 (codes ")")) ∷ (tok Operator 82 83 (codes "{")) ∷ (tok Ident 85 86 (codes "a")) ∷ (tok Operator 87 89 (codes ":=")) ∷ (tok Integer 90 91 (codes "1")) ∷ (tok Inserted 91 91 (codes ";")) ∷ (tok Ident 93 100 (codes "println")) ∷ (tok Operator 100 101 (codes "(")) ∷ (tok Keyword 101 105 (codes "func")) ∷ (tok Operator 105 106 (codes "(")) ∷ (tok Ident 106 107 (codes "x")) ∷ (tok Ident 108 111 (codes "int")) ∷ (tok Operator 111 112 (codes ")")) ∷ (tok Ident 113 116 (codes "int")) ∷ (tok Operator 117 118 (codes "{")) ∷ (tok Ident 121 122 (codes "x")) ∷ (tok Operator 122 124 (codes "++")) ∷ (tok Inserted 124 124 (codes ";")) ∷ (tok Keyword 127 133 (codes "return")) ∷ (tok Ident 134 135 (codes "x")) ∷ (tok Inserted 135 135 (codes ";")) ∷ (tok Operator 137 138 (codes "}")) ∷ (tok Operator 138 139 (codes "(")) ∷ (tok Ident 139 140 (codes "a")) ∷ (tok Operator 140 141 (codes ")")) ∷ (tok Operator 141 142 (codes ")")) ∷ (tok Inserted 142 142 (codes ";")) ∷ (tok Operator 143 144 (codes "}")) ∷ (tok Inserted 144 144 (codes ";")) ∷ [])) ≡ Some (assigned_parameter_1_f0, [])
unfolding reading
assigned_parameter_1_f0_read = refl

abbrev assigned_parameter_1 : Module
assigned_parameter_1 = record { packages = (pack (codes "example.com/m") (codes "main") (source (codes "main.go") assigned_parameter_1_f0 ∷ []) ∷ []); marks = (mark 0 0 0 0 ∷ []); texts = (((codes "main.go"), record { text = (codes "package main\n\n//go:fix inline\nfunc Inc(x int) int {\n\tx++\n\treturn x\n}\n\nfunc main() {\n\ta := 1\n\tprintln(func(x int) int {\n\t\tx++\n\t\treturn x\n\t}(a))\n}\n"); tokens = ((tok Keyword 0 7 (codes "package")) ∷ (tok Ident 8 12 (codes "main")) ∷ (tok Inserted 12 12 (codes ";")) ∷ (tok Keyword 30 34 (codes "func")) ∷ (tok Ident 35 38 (codes "Inc")) ∷ (tok Operator 38 39 (codes "(")) ∷ (tok Ident 39 40 (codes "x")) ∷ (tok Ident 41 44 (codes "int")) ∷ (tok Operator 44 45 (codes ")")) ∷ (tok Ident 46 49 (codes "int")) ∷ (tok Operator 50 51 (codes "{")) ∷ (tok Ident 53 54 (codes "x")) ∷ (tok Operator 54 56 (codes "++")) ∷ (tok Inserted 56 56 (codes ";")) ∷ (tok Keyword 58 64 (codes "return")) ∷ (tok Ident 65 66 (codes "x")) ∷ (tok Inserted 66 66 (codes ";")) ∷ (tok Operator 67 68 (codes "}")) ∷ (tok Inserted 68 68 (codes ";")) ∷ (tok Keyword 70 74 (codes "func")) ∷ (tok Ident 75 79 (codes "main")) ∷ (tok Operator 79 80 (codes "(")) ∷ (tok Operator 80 81 (codes ")")) ∷ (tok Operator 82 83 (codes "{")) ∷ (tok Ident 85 86 (codes "a")) ∷ (tok Operator 87 89 (codes ":=")) ∷ (tok Integer 90 91 (codes "1")) ∷ (tok Inserted 91 91 (codes ";")) ∷ (tok Ident 93 100 (codes "println")) ∷ (tok Operator 100 101 (codes "(")) ∷ (tok Keyword 101 105 (codes "func")) ∷ (tok Operator 105 106 (codes "(")) ∷ (tok Ident 106 107 (codes "x")) ∷ (tok Ident 108 111 (codes "int")) ∷ (tok Operator 111 112 (codes ")")) ∷ (tok Ident 113 116 (codes "int")) ∷ (tok Operator 117 118 (codes "{")) ∷ (tok Ident 121 122 (codes "x")) ∷ (tok Operator 122 124 (codes "++")) ∷ (tok Inserted 124 124 (codes ";")) ∷ (tok Keyword 127 133 (codes "return")) ∷ (tok Ident 134 135 (codes "x")) ∷ (tok Inserted 135 135 (codes ";")) ∷ (tok Operator 137 138 (codes "}")) ∷ (tok Operator 138 139 (codes "(")) ∷ (tok Ident 139 140 (codes "a")) ∷ (tok Operator 140 141 (codes ")")) ∷ (tok Operator 141 142 (codes ")")) ∷ (tok Inserted 142 142 (codes ";")) ∷ (tok Operator 143 144 (codes "}")) ∷ (tok Inserted 144 144 (codes ";")) ∷ []); comments = ((note 14 29) ∷ []) }) ∷ []) }

assigned_parameter_1_typed : is_typed assigned_parameter_1 ≡ true
assigned_parameter_1_typed = refl

assigned_parameter_1_ends : step_of assigned_parameter_1 ≡ None
assigned_parameter_1_ends = refl

assigned_parameter_1_kept : kept_uses assigned_parameter_1 ≡ []
assigned_parameter_1_kept = refl

-- A binder of the body would capture the name.
abbrev captured_name_0_f0 : File Span
captured_name_0_f0 = record { package_name = (nm 8 12 (codes "main")); imports = []; decls = ((fn (at 30 77) None (nm 35 40 (codes "Twice")) (sig ((param (at 41 46) (Some (nm 41 42 (codes "x"))) (named (at 43 46) None (nm 43 46 (codes "int")))) ∷ []) ((param (at 48 51) None (named (at 48 51) None (nm 48 51 (codes "int")))) ∷ [])) (at 52 77) (stmt_and (define (at 55 61) ((nm 55 56 (codes "a")) ∷ []) (expr_and (int_lit (at 60 61) (codes "2")) no_exprs)) (stmt_and (return_ (at 63 75) (expr_and (binary (at 70 75) Mul (ident (at 70 71) (codes "a")) (ident (at 74 75) (codes "x"))) no_exprs)) no_stmts))) ∷ (fn (at 79 121) None (nm 84 88 (codes "main")) (sig [] []) (at 91 121) (stmt_and (define (at 94 100) ((nm 94 95 (codes "a")) ∷ []) (expr_and (int_lit (at 99 100) (codes "5")) no_exprs)) (stmt_and (eval (at 102 119) (call (at 102 119) (ident (at 102 109) (codes "println")) (expr_and (call (at 110 118) (ident (at 110 115) (codes "Twice")) (expr_and (ident (at 116 117) (codes "a")) no_exprs) Plain) no_exprs) Plain)) no_stmts))) ∷ []) }

captured_name_0_f0_read : read_at span_to read_front (lexemes ((tok Keyword 0 7 (codes "package")) ∷ (tok Ident 8 12 (codes "main")) ∷ (tok Inserted 12 12 (codes ";")) ∷ (tok Keyword 30 34 (codes "func")) ∷ (tok Ident 35 40 (codes "Twice")) ∷ (tok Operator 40 41 (codes "(")) ∷ (tok Ident 41 42 (codes "x")) ∷ (tok Ident 43 46 (codes "int")) ∷ (tok Operator 46 47 (codes ")")) ∷ (tok Ident 48 51 (codes "int")) ∷ (tok Operator 52 53 (codes "{")) ∷ (tok Ident 55 56 (codes "a")) ∷ (tok Operator 57 59 (codes ":=")) ∷ (tok Integer 60 61 (codes "2")) ∷ (tok Inserted 61 61 (codes ";")) ∷ (tok Keyword 63 69 (codes "return")) ∷ (tok Ident 70 71 (codes "a")) ∷ (tok Operator 72 73 (codes "*")) ∷ (tok Ident 74 75 (codes "x")) ∷ (tok Inserted 75 75 (codes ";")) ∷ (tok Operator 76 77 (codes "}")) ∷ (tok Inserted 77 77 (codes ";")) ∷ (tok Keyword 79 83 (codes "func")) ∷ (tok Ident 84 88 (codes "main")) ∷ (tok Operator 88 89 (codes "(")) ∷ (tok Operator 89 90 (codes ")")) ∷ (tok Operator 91 92 (codes "{")) ∷ (tok Ident 94 95 (codes "a")) ∷ (tok Operator 96 98 (codes ":=")) ∷ (tok Integer 99 100 (codes "5")) ∷ (tok Inserted 100 100 (codes ";")) ∷ (tok Ident 102 109 (codes "println")) ∷ (tok Operator 109 110 (codes "(")) ∷ (tok Ident 110 115 (codes "Twice")) ∷ (tok Operator 115 116 (codes "(")) ∷ (tok Ident 116 117 (codes "a")) ∷ (tok Operator 117 118 (codes ")")) ∷ (tok Operator 118 119 (codes ")")) ∷ (tok Inserted 119 119 (codes ";")) ∷ (tok Operator 120 121 (codes "}")) ∷ (tok Inserted 121 121 (codes ";")) ∷ [])) ≡ Some (captured_name_0_f0, [])
unfolding reading
captured_name_0_f0_read = refl

abbrev captured_name_0 : Module
captured_name_0 = record { packages = (pack (codes "example.com/m") (codes "main") (source (codes "main.go") captured_name_0_f0 ∷ []) ∷ []); marks = (mark 0 0 0 0 ∷ []); texts = (((codes "main.go"), record { text = (codes "package main\n\n//go:fix inline\nfunc Twice(x int) int {\n\ta := 2\n\treturn a * x\n}\n\nfunc main() {\n\ta := 5\n\tprintln(Twice(a))\n}\n"); tokens = ((tok Keyword 0 7 (codes "package")) ∷ (tok Ident 8 12 (codes "main")) ∷ (tok Inserted 12 12 (codes ";")) ∷ (tok Keyword 30 34 (codes "func")) ∷ (tok Ident 35 40 (codes "Twice")) ∷ (tok Operator 40 41 (codes "(")) ∷ (tok Ident 41 42 (codes "x")) ∷ (tok Ident 43 46 (codes "int")) ∷ (tok Operator 46 47 (codes ")")) ∷ (tok Ident 48 51 (codes "int")) ∷ (tok Operator 52 53 (codes "{")) ∷ (tok Ident 55 56 (codes "a")) ∷ (tok Operator 57 59 (codes ":=")) ∷ (tok Integer 60 61 (codes "2")) ∷ (tok Inserted 61 61 (codes ";")) ∷ (tok Keyword 63 69 (codes "return")) ∷ (tok Ident 70 71 (codes "a")) ∷ (tok Operator 72 73 (codes "*")) ∷ (tok Ident 74 75 (codes "x")) ∷ (tok Inserted 75 75 (codes ";")) ∷ (tok Operator 76 77 (codes "}")) ∷ (tok Inserted 77 77 (codes ";")) ∷ (tok Keyword 79 83 (codes "func")) ∷ (tok Ident 84 88 (codes "main")) ∷ (tok Operator 88 89 (codes "(")) ∷ (tok Operator 89 90 (codes ")")) ∷ (tok Operator 91 92 (codes "{")) ∷ (tok Ident 94 95 (codes "a")) ∷ (tok Operator 96 98 (codes ":=")) ∷ (tok Integer 99 100 (codes "5")) ∷ (tok Inserted 100 100 (codes ";")) ∷ (tok Ident 102 109 (codes "println")) ∷ (tok Operator 109 110 (codes "(")) ∷ (tok Ident 110 115 (codes "Twice")) ∷ (tok Operator 115 116 (codes "(")) ∷ (tok Ident 116 117 (codes "a")) ∷ (tok Operator 117 118 (codes ")")) ∷ (tok Operator 118 119 (codes ")")) ∷ (tok Inserted 119 119 (codes ";")) ∷ (tok Operator 120 121 (codes "}")) ∷ (tok Inserted 121 121 (codes ";")) ∷ []); comments = ((note 14 29) ∷ []) }) ∷ []) }

captured_name_0_typed : is_typed captured_name_0 ≡ true
captured_name_0_typed = refl

captured_name_0_step : first_change captured_name_0 ≡ Some ((codes "main.go"), LiteralForm, (codes "package main\n\n//go:fix inline\nfunc Twice(x int) int {\n\ta := 2\n\treturn a * x\n}\n\nfunc main() {\n\ta := 5\n\tprintln(func(x int) int {\n\t\ta := 2\n\t\treturn a * x\n\t}(a))\n}\n"))
captured_name_0_step = refl

abbrev captured_name_1_f0 : File Span
captured_name_1_f0 = record { package_name = (nm 8 12 (codes "main")); imports = []; decls = ((fn (at 30 77) None (nm 35 40 (codes "Twice")) (sig ((param (at 41 46) (Some (nm 41 42 (codes "x"))) (named (at 43 46) None (nm 43 46 (codes "int")))) ∷ []) ((param (at 48 51) None (named (at 48 51) None (nm 48 51 (codes "int")))) ∷ [])) (at 52 77) (stmt_and (define (at 55 61) ((nm 55 56 (codes "a")) ∷ []) (expr_and (int_lit (at 60 61) (codes "2")) no_exprs)) (stmt_and (return_ (at 63 75) (expr_and (binary (at 70 75) Mul (ident (at 70 71) (codes "a")) (ident (at 74 75) (codes "x"))) no_exprs)) no_stmts))) ∷ (fn (at 79 160) None (nm 84 88 (codes "main")) (sig [] []) (at 91 160) (stmt_and (define (at 94 100) ((nm 94 95 (codes "a")) ∷ []) (expr_and (int_lit (at 99 100) (codes "5")) no_exprs)) (stmt_and (eval (at 102 158) (call (at 102 158) (ident (at 102 109) (codes "println")) (expr_and (call (at 110 157) (func_lit (at 110 154) (sig ((param (at 115 120) (Some (nm 115 116 (codes "x"))) (named (at 117 120) None (nm 117 120 (codes "int")))) ∷ []) ((param (at 122 125) None (named (at 122 125) None (nm 122 125 (codes "int")))) ∷ [])) (at 126 154) (stmt_and (define (at 130 136) ((nm 130 131 (codes "a")) ∷ []) (expr_and (int_lit (at 135 136) (codes "2")) no_exprs)) (stmt_and (return_ (at 139 151) (expr_and (binary (at 146 151) Mul (ident (at 146 147) (codes "a")) (ident (at 150 151) (codes "x"))) no_exprs)) no_stmts))) (expr_and (ident (at 155 156) (codes "a")) no_exprs) Plain) no_exprs) Plain)) no_stmts))) ∷ []) }

captured_name_1_f0_read : read_at span_to read_front (lexemes ((tok Keyword 0 7 (codes "package")) ∷ (tok Ident 8 12 (codes "main")) ∷ (tok Inserted 12 12 (codes ";")) ∷ (tok Keyword 30 34 (codes "func")) ∷ (tok Ident 35 40 (codes "Twice")) ∷ (tok Operator 40 41 (codes "(")) ∷ (tok Ident 41 42 (codes "x")) ∷ (tok Ident 43 46 (codes "int")) ∷ (tok Operator 46 47 (codes ")")) ∷ (tok Ident 48 51 (codes "int")) ∷ (tok Operator 52 53 (codes "{")) ∷ (tok Ident 55 56 (codes "a")) ∷ (tok Operator 57 59 (codes ":=")) ∷ (tok Integer 60 61 (codes "2")) ∷ (tok Inserted 61 61 (codes ";")) ∷ (tok Keyword 63 69 (codes "return")) ∷ (tok Ident 70 71 (codes "a")) ∷ (tok Operator 72 73 (codes "*")) ∷ (tok Ident 74 75 (codes "x")) ∷ (tok Inserted 75 75 (codes ";")) ∷ (tok Operator 76 77 (codes "}")) ∷ (tok Inserted 77 77 (codes ";")) ∷ (tok Keyword 79 83 (codes "func")) ∷ (tok Ident 84 88 (codes "main")) ∷ (tok Operator 88 89 (codes "(")) ∷ (tok Operator 89 90 (codes ")")) ∷ (tok Operator 91 92 (codes "{")) ∷ (tok Ident 94 95 (codes "a")) ∷ (tok Operator 96 98 (codes ":=")) ∷ (tok Integer 99 100 (codes "5")) ∷ (tok Inserted 100 100 (codes ";")) ∷ (tok Ident 102 109 (codes "println")) ∷ (tok Operator 109 110 (codes "(")) ∷ (tok Keyword 110 114 (codes "func")) ∷ (tok Operator 114 115 (codes "(")) ∷ (tok Ident 115 116 (codes "x")) ∷ (tok Ident 117 120 (codes "int")) ∷ (tok Operator 120 121 (codes ")")) ∷ (tok Ident 122 125 (codes "int")) ∷ (tok Operator 126 127 (codes "{")) ∷ (tok Ident 130 131 (codes "a")) ∷ (tok Operator 132 134 (codes ":=")) ∷ (tok Integer 135 136 (codes "2")) ∷ (tok Inserted 136 136 (codes ";")) ∷ (tok Keyword 139 145 (codes "return")) ∷ (tok Ident 146 147 (codes "a")) ∷ (tok Operator 148 149 (codes "*")) ∷ (tok Ident 150 151 (codes "x")) ∷ (tok Inserted 151 151 (codes ";")) ∷ (tok Operator 153 154 (codes "}")) ∷ (tok Operator 154 155 (codes "(")) ∷ (tok Ident 155 156 (codes "a")) ∷ (tok Operator 156 157 (codes ")")) ∷ (tok Operator 157 158 (codes ")")) ∷ (tok Inserted 158 158 (codes ";")) ∷ (tok Operator 159 160 (codes "}")) ∷ (tok Inserted 160 160 (codes ";")) ∷ [])) ≡ Some (captured_name_1_f0, [])
unfolding reading
captured_name_1_f0_read = refl

abbrev captured_name_1 : Module
captured_name_1 = record { packages = (pack (codes "example.com/m") (codes "main") (source (codes "main.go") captured_name_1_f0 ∷ []) ∷ []); marks = (mark 0 0 0 0 ∷ []); texts = (((codes "main.go"), record { text = (codes "package main\n\n//go:fix inline\nfunc Twice(x int) int {\n\ta := 2\n\treturn a * x\n}\n\nfunc main() {\n\ta := 5\n\tprintln(func(x int) int {\n\t\ta := 2\n\t\treturn a * x\n\t}(a))\n}\n"); tokens = ((tok Keyword 0 7 (codes "package")) ∷ (tok Ident 8 12 (codes "main")) ∷ (tok Inserted 12 12 (codes ";")) ∷ (tok Keyword 30 34 (codes "func")) ∷ (tok Ident 35 40 (codes "Twice")) ∷ (tok Operator 40 41 (codes "(")) ∷ (tok Ident 41 42 (codes "x")) ∷ (tok Ident 43 46 (codes "int")) ∷ (tok Operator 46 47 (codes ")")) ∷ (tok Ident 48 51 (codes "int")) ∷ (tok Operator 52 53 (codes "{")) ∷ (tok Ident 55 56 (codes "a")) ∷ (tok Operator 57 59 (codes ":=")) ∷ (tok Integer 60 61 (codes "2")) ∷ (tok Inserted 61 61 (codes ";")) ∷ (tok Keyword 63 69 (codes "return")) ∷ (tok Ident 70 71 (codes "a")) ∷ (tok Operator 72 73 (codes "*")) ∷ (tok Ident 74 75 (codes "x")) ∷ (tok Inserted 75 75 (codes ";")) ∷ (tok Operator 76 77 (codes "}")) ∷ (tok Inserted 77 77 (codes ";")) ∷ (tok Keyword 79 83 (codes "func")) ∷ (tok Ident 84 88 (codes "main")) ∷ (tok Operator 88 89 (codes "(")) ∷ (tok Operator 89 90 (codes ")")) ∷ (tok Operator 91 92 (codes "{")) ∷ (tok Ident 94 95 (codes "a")) ∷ (tok Operator 96 98 (codes ":=")) ∷ (tok Integer 99 100 (codes "5")) ∷ (tok Inserted 100 100 (codes ";")) ∷ (tok Ident 102 109 (codes "println")) ∷ (tok Operator 109 110 (codes "(")) ∷ (tok Keyword 110 114 (codes "func")) ∷ (tok Operator 114 115 (codes "(")) ∷ (tok Ident 115 116 (codes "x")) ∷ (tok Ident 117 120 (codes "int")) ∷ (tok Operator 120 121 (codes ")")) ∷ (tok Ident 122 125 (codes "int")) ∷ (tok Operator 126 127 (codes "{")) ∷ (tok Ident 130 131 (codes "a")) ∷ (tok Operator 132 134 (codes ":=")) ∷ (tok Integer 135 136 (codes "2")) ∷ (tok Inserted 136 136 (codes ";")) ∷ (tok Keyword 139 145 (codes "return")) ∷ (tok Ident 146 147 (codes "a")) ∷ (tok Operator 148 149 (codes "*")) ∷ (tok Ident 150 151 (codes "x")) ∷ (tok Inserted 151 151 (codes ";")) ∷ (tok Operator 153 154 (codes "}")) ∷ (tok Operator 154 155 (codes "(")) ∷ (tok Ident 155 156 (codes "a")) ∷ (tok Operator 156 157 (codes ")")) ∷ (tok Operator 157 158 (codes ")")) ∷ (tok Inserted 158 158 (codes ";")) ∷ (tok Operator 159 160 (codes "}")) ∷ (tok Inserted 160 160 (codes ";")) ∷ []); comments = ((note 14 29) ∷ []) }) ∷ []) }

captured_name_1_typed : is_typed captured_name_1 ≡ true
captured_name_1_typed = refl

captured_name_1_ends : step_of captured_name_1 ≡ None
captured_name_1_ends = refl

captured_name_1_kept : kept_uses captured_name_1 ≡ []
captured_name_1_kept = refl

-- A conversion may not be repeated.
abbrev converted_argument_0_f0 : File Span
converted_argument_0_f0 = record { package_name = (nm 8 12 (codes "main")); imports = []; decls = ((types (at 14 24) false ((tspec (at 19 24) (nm 19 20 (codes "K")) false (named (at 21 24) None (nm 21 24 (codes "int")))) ∷ [])) ∷ (fn (at 42 84) None (nm 47 52 (codes "Twice")) (sig ((param (at 53 60) (Some (nm 53 54 (codes "x"))) (named (at 55 60) None (nm 55 60 (codes "int64")))) ∷ []) ((param (at 62 67) None (named (at 62 67) None (nm 62 67 (codes "int64")))) ∷ [])) (at 68 84) (stmt_and (return_ (at 70 82) (expr_and (binary (at 77 82) Add (ident (at 77 78) (codes "x")) (ident (at 81 82) (codes "x"))) no_exprs)) no_stmts)) ∷ (fn (at 86 142) None (nm 91 95 (codes "main")) (sig [] []) (at 98 142) (stmt_and (define (at 101 114) ((nm 101 102 (codes "a")) ∷ []) (expr_and (call (at 106 114) (ident (at 106 111) (codes "int32")) (expr_and (int_lit (at 112 113) (codes "5")) no_exprs) Plain) no_exprs)) (stmt_and (eval (at 116 140) (call (at 116 140) (ident (at 116 123) (codes "println")) (expr_and (call (at 124 139) (ident (at 124 129) (codes "Twice")) (expr_and (call (at 130 138) (ident (at 130 135) (codes "int64")) (expr_and (ident (at 136 137) (codes "a")) no_exprs) Plain) no_exprs) Plain) no_exprs) Plain)) no_stmts))) ∷ []) }

converted_argument_0_f0_read : read_at span_to read_front (lexemes ((tok Keyword 0 7 (codes "package")) ∷ (tok Ident 8 12 (codes "main")) ∷ (tok Inserted 12 12 (codes ";")) ∷ (tok Keyword 14 18 (codes "type")) ∷ (tok Ident 19 20 (codes "K")) ∷ (tok Ident 21 24 (codes "int")) ∷ (tok Inserted 24 24 (codes ";")) ∷ (tok Keyword 42 46 (codes "func")) ∷ (tok Ident 47 52 (codes "Twice")) ∷ (tok Operator 52 53 (codes "(")) ∷ (tok Ident 53 54 (codes "x")) ∷ (tok Ident 55 60 (codes "int64")) ∷ (tok Operator 60 61 (codes ")")) ∷ (tok Ident 62 67 (codes "int64")) ∷ (tok Operator 68 69 (codes "{")) ∷ (tok Keyword 70 76 (codes "return")) ∷ (tok Ident 77 78 (codes "x")) ∷ (tok Operator 79 80 (codes "+")) ∷ (tok Ident 81 82 (codes "x")) ∷ (tok Operator 83 84 (codes "}")) ∷ (tok Inserted 84 84 (codes ";")) ∷ (tok Keyword 86 90 (codes "func")) ∷ (tok Ident 91 95 (codes "main")) ∷ (tok Operator 95 96 (codes "(")) ∷ (tok Operator 96 97 (codes ")")) ∷ (tok Operator 98 99 (codes "{")) ∷ (tok Ident 101 102 (codes "a")) ∷ (tok Operator 103 105 (codes ":=")) ∷ (tok Ident 106 111 (codes "int32")) ∷ (tok Operator 111 112 (codes "(")) ∷ (tok Integer 112 113 (codes "5")) ∷ (tok Operator 113 114 (codes ")")) ∷ (tok Inserted 114 114 (codes ";")) ∷ (tok Ident 116 123 (codes "println")) ∷ (tok Operator 123 124 (codes "(")) ∷ (tok Ident 124 129 (codes "Twice")) ∷ (tok Operator 129 130 (codes "(")) ∷ (tok Ident 130 135 (codes "int64")) ∷ (tok Operator 135 136 (codes "(")) ∷ (tok Ident 136 137 (codes "a")) ∷ (tok Operator 137 138 (codes ")")) ∷ (tok Operator 138 139 (codes ")")) ∷ (tok Operator 139 140 (codes ")")) ∷ (tok Inserted 140 140 (codes ";")) ∷ (tok Operator 141 142 (codes "}")) ∷ (tok Inserted 142 142 (codes ";")) ∷ [])) ≡ Some (converted_argument_0_f0, [])
unfolding reading
converted_argument_0_f0_read = refl

abbrev converted_argument_0 : Module
converted_argument_0 = record { packages = (pack (codes "example.com/m") (codes "main") (source (codes "main.go") converted_argument_0_f0 ∷ []) ∷ []); marks = (mark 0 0 1 0 ∷ []); texts = (((codes "main.go"), record { text = (codes "package main\n\ntype K int\n\n//go:fix inline\nfunc Twice(x int64) int64 { return x + x }\n\nfunc main() {\n\ta := int32(5)\n\tprintln(Twice(int64(a)))\n}\n"); tokens = ((tok Keyword 0 7 (codes "package")) ∷ (tok Ident 8 12 (codes "main")) ∷ (tok Inserted 12 12 (codes ";")) ∷ (tok Keyword 14 18 (codes "type")) ∷ (tok Ident 19 20 (codes "K")) ∷ (tok Ident 21 24 (codes "int")) ∷ (tok Inserted 24 24 (codes ";")) ∷ (tok Keyword 42 46 (codes "func")) ∷ (tok Ident 47 52 (codes "Twice")) ∷ (tok Operator 52 53 (codes "(")) ∷ (tok Ident 53 54 (codes "x")) ∷ (tok Ident 55 60 (codes "int64")) ∷ (tok Operator 60 61 (codes ")")) ∷ (tok Ident 62 67 (codes "int64")) ∷ (tok Operator 68 69 (codes "{")) ∷ (tok Keyword 70 76 (codes "return")) ∷ (tok Ident 77 78 (codes "x")) ∷ (tok Operator 79 80 (codes "+")) ∷ (tok Ident 81 82 (codes "x")) ∷ (tok Operator 83 84 (codes "}")) ∷ (tok Inserted 84 84 (codes ";")) ∷ (tok Keyword 86 90 (codes "func")) ∷ (tok Ident 91 95 (codes "main")) ∷ (tok Operator 95 96 (codes "(")) ∷ (tok Operator 96 97 (codes ")")) ∷ (tok Operator 98 99 (codes "{")) ∷ (tok Ident 101 102 (codes "a")) ∷ (tok Operator 103 105 (codes ":=")) ∷ (tok Ident 106 111 (codes "int32")) ∷ (tok Operator 111 112 (codes "(")) ∷ (tok Integer 112 113 (codes "5")) ∷ (tok Operator 113 114 (codes ")")) ∷ (tok Inserted 114 114 (codes ";")) ∷ (tok Ident 116 123 (codes "println")) ∷ (tok Operator 123 124 (codes "(")) ∷ (tok Ident 124 129 (codes "Twice")) ∷ (tok Operator 129 130 (codes "(")) ∷ (tok Ident 130 135 (codes "int64")) ∷ (tok Operator 135 136 (codes "(")) ∷ (tok Ident 136 137 (codes "a")) ∷ (tok Operator 137 138 (codes ")")) ∷ (tok Operator 138 139 (codes ")")) ∷ (tok Operator 139 140 (codes ")")) ∷ (tok Inserted 140 140 (codes ";")) ∷ (tok Operator 141 142 (codes "}")) ∷ (tok Inserted 142 142 (codes ";")) ∷ []); comments = ((note 26 41) ∷ []) }) ∷ []) }

converted_argument_0_typed : is_typed converted_argument_0 ≡ true
converted_argument_0_typed = refl

converted_argument_0_step : first_change converted_argument_0 ≡ Some ((codes "main.go"), LiteralForm, (codes "package main\n\ntype K int\n\n//go:fix inline\nfunc Twice(x int64) int64 { return x + x }\n\nfunc main() {\n\ta := int32(5)\n\tprintln(func(x int64) int64 {\n\t\treturn x + x\n\t}(int64(a)))\n}\n"))
converted_argument_0_step = refl

abbrev converted_argument_1_f0 : File Span
converted_argument_1_f0 = record { package_name = (nm 8 12 (codes "main")); imports = []; decls = ((types (at 14 24) false ((tspec (at 19 24) (nm 19 20 (codes "K")) false (named (at 21 24) None (nm 21 24 (codes "int")))) ∷ [])) ∷ (fn (at 42 84) None (nm 47 52 (codes "Twice")) (sig ((param (at 53 60) (Some (nm 53 54 (codes "x"))) (named (at 55 60) None (nm 55 60 (codes "int64")))) ∷ []) ((param (at 62 67) None (named (at 62 67) None (nm 62 67 (codes "int64")))) ∷ [])) (at 68 84) (stmt_and (return_ (at 70 82) (expr_and (binary (at 77 82) Add (ident (at 77 78) (codes "x")) (ident (at 81 82) (codes "x"))) no_exprs)) no_stmts)) ∷ (fn (at 86 176) None (nm 91 95 (codes "main")) (sig [] []) (at 98 176) (stmt_and (define (at 101 114) ((nm 101 102 (codes "a")) ∷ []) (expr_and (call (at 106 114) (ident (at 106 111) (codes "int32")) (expr_and (int_lit (at 112 113) (codes "5")) no_exprs) Plain) no_exprs)) (stmt_and (eval (at 116 174) (call (at 116 174) (ident (at 116 123) (codes "println")) (expr_and (call (at 124 173) (func_lit (at 124 163) (sig ((param (at 129 136) (Some (nm 129 130 (codes "x"))) (named (at 131 136) None (nm 131 136 (codes "int64")))) ∷ []) ((param (at 138 143) None (named (at 138 143) None (nm 138 143 (codes "int64")))) ∷ [])) (at 144 163) (stmt_and (return_ (at 148 160) (expr_and (binary (at 155 160) Add (ident (at 155 156) (codes "x")) (ident (at 159 160) (codes "x"))) no_exprs)) no_stmts)) (expr_and (call (at 164 172) (ident (at 164 169) (codes "int64")) (expr_and (ident (at 170 171) (codes "a")) no_exprs) Plain) no_exprs) Plain) no_exprs) Plain)) no_stmts))) ∷ []) }

converted_argument_1_f0_read : read_at span_to read_front (lexemes ((tok Keyword 0 7 (codes "package")) ∷ (tok Ident 8 12 (codes "main")) ∷ (tok Inserted 12 12 (codes ";")) ∷ (tok Keyword 14 18 (codes "type")) ∷ (tok Ident 19 20 (codes "K")) ∷ (tok Ident 21 24 (codes "int")) ∷ (tok Inserted 24 24 (codes ";")) ∷ (tok Keyword 42 46 (codes "func")) ∷ (tok Ident 47 52 (codes "Twice")) ∷ (tok Operator 52 53 (codes "(")) ∷ (tok Ident 53 54 (codes "x")) ∷ (tok Ident 55 60 (codes "int64")) ∷ (tok Operator 60 61 (codes ")")) ∷ (tok Ident 62 67 (codes "int64")) ∷ (tok Operator 68 69 (codes "{")) ∷ (tok Keyword 70 76 (codes "return")) ∷ (tok Ident 77 78 (codes "x")) ∷ (tok Operator 79 80 (codes "+")) ∷ (tok Ident 81 82 (codes "x")) ∷ (tok Operator 83 84 (codes "}")) ∷ (tok Inserted 84 84 (codes ";")) ∷ (tok Keyword 86 90 (codes "func")) ∷ (tok Ident 91 95 (codes "main")) ∷ (tok Operator 95 96 (codes "(")) ∷ (tok Operator 96 97 (codes ")")) ∷ (tok Operator 98 99 (codes "{")) ∷ (tok Ident 101 102 (codes "a")) ∷ (tok Operator 103 105 (codes ":=")) ∷ (tok Ident 106 111 (codes "int32")) ∷ (tok Operator 111 112 (codes "(")) ∷ (tok Integer 112 113 (codes "5")) ∷ (tok Operator 113 114 (codes ")")) ∷ (tok Inserted 114 114 (codes ";")) ∷ (tok Ident 116 123 (codes "println")) ∷ (tok Operator 123 124 (codes "(")) ∷ (tok Keyword 124 128 (codes "func")) ∷ (tok Operator 128 129 (codes "(")) ∷ (tok Ident 129 130 (codes "x")) ∷ (tok Ident 131 136 (codes "int64")) ∷ (tok Operator 136 137 (codes ")")) ∷ (tok Ident 138 143 (codes "int64")) ∷ (tok Operator 144 145 (codes "{")) ∷ (tok Keyword 148 154 (codes "return")) ∷ (tok Ident 155 156 (codes "x")) ∷ (tok Operator 157 158 (codes "+")) ∷ (tok Ident 159 160 (codes "x")) ∷ (tok Inserted 160 160 (codes ";")) ∷ (tok Operator 162 163 (codes "}")) ∷ (tok Operator 163 164 (codes "(")) ∷ (tok Ident 164 169 (codes "int64")) ∷ (tok Operator 169 170 (codes "(")) ∷ (tok Ident 170 171 (codes "a")) ∷ (tok Operator 171 172 (codes ")")) ∷ (tok Operator 172 173 (codes ")")) ∷ (tok Operator 173 174 (codes ")")) ∷ (tok Inserted 174 174 (codes ";")) ∷ (tok Operator 175 176 (codes "}")) ∷ (tok Inserted 176 176 (codes ";")) ∷ [])) ≡ Some (converted_argument_1_f0, [])
unfolding reading
converted_argument_1_f0_read = refl

abbrev converted_argument_1 : Module
converted_argument_1 = record { packages = (pack (codes "example.com/m") (codes "main") (source (codes "main.go") converted_argument_1_f0 ∷ []) ∷ []); marks = (mark 0 0 1 0 ∷ []); texts = (((codes "main.go"), record { text = (codes "package main\n\ntype K int\n\n//go:fix inline\nfunc Twice(x int64) int64 { return x + x }\n\nfunc main() {\n\ta := int32(5)\n\tprintln(func(x int64) int64 {\n\t\treturn x + x\n\t}(int64(a)))\n}\n"); tokens = ((tok Keyword 0 7 (codes "package")) ∷ (tok Ident 8 12 (codes "main")) ∷ (tok Inserted 12 12 (codes ";")) ∷ (tok Keyword 14 18 (codes "type")) ∷ (tok Ident 19 20 (codes "K")) ∷ (tok Ident 21 24 (codes "int")) ∷ (tok Inserted 24 24 (codes ";")) ∷ (tok Keyword 42 46 (codes "func")) ∷ (tok Ident 47 52 (codes "Twice")) ∷ (tok Operator 52 53 (codes "(")) ∷ (tok Ident 53 54 (codes "x")) ∷ (tok Ident 55 60 (codes "int64")) ∷ (tok Operator 60 61 (codes ")")) ∷ (tok Ident 62 67 (codes "int64")) ∷ (tok Operator 68 69 (codes "{")) ∷ (tok Keyword 70 76 (codes "return")) ∷ (tok Ident 77 78 (codes "x")) ∷ (tok Operator 79 80 (codes "+")) ∷ (tok Ident 81 82 (codes "x")) ∷ (tok Operator 83 84 (codes "}")) ∷ (tok Inserted 84 84 (codes ";")) ∷ (tok Keyword 86 90 (codes "func")) ∷ (tok Ident 91 95 (codes "main")) ∷ (tok Operator 95 96 (codes "(")) ∷ (tok Operator 96 97 (codes ")")) ∷ (tok Operator 98 99 (codes "{")) ∷ (tok Ident 101 102 (codes "a")) ∷ (tok Operator 103 105 (codes ":=")) ∷ (tok Ident 106 111 (codes "int32")) ∷ (tok Operator 111 112 (codes "(")) ∷ (tok Integer 112 113 (codes "5")) ∷ (tok Operator 113 114 (codes ")")) ∷ (tok Inserted 114 114 (codes ";")) ∷ (tok Ident 116 123 (codes "println")) ∷ (tok Operator 123 124 (codes "(")) ∷ (tok Keyword 124 128 (codes "func")) ∷ (tok Operator 128 129 (codes "(")) ∷ (tok Ident 129 130 (codes "x")) ∷ (tok Ident 131 136 (codes "int64")) ∷ (tok Operator 136 137 (codes ")")) ∷ (tok Ident 138 143 (codes "int64")) ∷ (tok Operator 144 145 (codes "{")) ∷ (tok Keyword 148 154 (codes "return")) ∷ (tok Ident 155 156 (codes "x")) ∷ (tok Operator 157 158 (codes "+")) ∷ (tok Ident 159 160 (codes "x")) ∷ (tok Inserted 160 160 (codes ";")) ∷ (tok Operator 162 163 (codes "}")) ∷ (tok Operator 163 164 (codes "(")) ∷ (tok Ident 164 169 (codes "int64")) ∷ (tok Operator 169 170 (codes "(")) ∷ (tok Ident 170 171 (codes "a")) ∷ (tok Operator 171 172 (codes ")")) ∷ (tok Operator 172 173 (codes ")")) ∷ (tok Operator 173 174 (codes ")")) ∷ (tok Inserted 174 174 (codes ";")) ∷ (tok Operator 175 176 (codes "}")) ∷ (tok Inserted 176 176 (codes ";")) ∷ []); comments = ((note 26 41) ∷ []) }) ∷ []) }

converted_argument_1_typed : is_typed converted_argument_1 ≡ true
converted_argument_1_typed = refl

converted_argument_1_ends : step_of converted_argument_1 ≡ None
converted_argument_1_ends = refl

converted_argument_1_kept : kept_uses converted_argument_1 ≡ []
converted_argument_1_kept = refl
