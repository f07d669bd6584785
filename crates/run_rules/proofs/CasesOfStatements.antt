-- Blocks, tails and several results.
use Rattle.std.proofs.Common.{◌≡◌, refl}
use Rattle.std.specs.Prelude.{true, false, [], ◌∷◌, Some, None, codes}
use Rattle.go_tree.specs.declared.exprs.Rest.TheVariants.{Plain}
use Rattle.go_tree.specs.declared.spans.Span.{Span}
use Rattle.go_tree.specs.declared.tokens.TokenKind.TheVariants.{Ident, Keyword, Operator, Integer, Str, Inserted}
use Rattle.go_tree.specs.declared.operators.BinOp.TheVariants.{Add}
use Rattle.go_tree.specs.Tree.{named, ident, int_lit, str_lit, call, func_lit, binary, no_exprs, expr_and, no_expr, eval, assign, define, return_, break_, inner, if_, for_, no_stmts, stmt_and, no_stmt, some_stmt, no_block, no_arms, arm}
use Rattle.go_tree.specs.File.{File, types}
use Rattle.run_rules.specs.FormTrees.{ExprForm, BlockForm, LiteralForm}
use Rattle.run_rules.proofs.CaseTools.{at, nm, tok, note, param, sig, tspec, fn, pack, source, mark, Module, is_typed, first_change, step_of, kept_uses}
use Rattle.go_layout.specs.SpellsSpans.{span_to}
use Rattle.go_tree.specs.GoWords.Terminals.{lexemes}
use Rattle.go_layout.specs.Goals.{read_front}
use Rattle.go_layout.proofs.Texts.{reading}
use Rattle.run_rules.proofs.CaseTools.{read_at}

-- A bound parameter that is only written needs a literal.
abbrev only_written_0_f0 : File Span
only_written_0_f0 = record { package_name = (nm 8 12 (codes "main")); imports = []; decls = ((fn (at 30 70) None (nm 35 38 (codes "Set")) (sig ((param (at 39 44) (Some (nm 39 40 (codes "x"))) (named (at 41 44) None (nm 41 44 (codes "int")))) ∷ []) []) (at 46 70) (stmt_and (eval (at 49 61) (call (at 49 61) (ident (at 49 56) (codes "println")) (expr_and (str_lit (at 57 60) (codes "\"a\"")) no_exprs) Plain)) (stmt_and (assign (at 63 68) (expr_and (ident (at 63 64) (codes "x")) no_exprs) None (expr_and (int_lit (at 67 68) (codes "2")) no_exprs)) no_stmts))) ∷ (fn (at 72 114) None (nm 77 81 (codes "next")) (sig [] ((param (at 84 87) None (named (at 84 87) None (nm 84 87 (codes "int")))) ∷ [])) (at 88 114) (stmt_and (eval (at 90 102) (call (at 90 102) (ident (at 90 97) (codes "println")) (expr_and (str_lit (at 98 101) (codes "\"n\"")) no_exprs) Plain)) (stmt_and (return_ (at 104 112) (expr_and (int_lit (at 111 112) (codes "1")) no_exprs)) no_stmts))) ∷ (fn (at 116 155) None (nm 121 122 (codes "g")) (sig [] ((param (at 125 128) None (named (at 125 128) None (nm 125 128 (codes "int")))) ∷ [])) (at 129 155) (stmt_and (eval (at 131 143) (call (at 131 143) (ident (at 131 138) (codes "println")) (expr_and (str_lit (at 139 142) (codes "\"g\"")) no_exprs) Plain)) (stmt_and (return_ (at 145 153) (expr_and (int_lit (at 152 153) (codes "1")) no_exprs)) no_stmts))) ∷ (fn (at 157 196) None (nm 162 163 (codes "h")) (sig [] ((param (at 166 169) None (named (at 166 169) None (nm 166 169 (codes "int")))) ∷ [])) (at 170 196) (stmt_and (eval (at 172 184) (call (at 172 184) (ident (at 172 179) (codes "println")) (expr_and (str_lit (at 180 183) (codes "\"h\"")) no_exprs) Plain)) (stmt_and (return_ (at 186 194) (expr_and (int_lit (at 193 194) (codes "1")) no_exprs)) no_stmts))) ∷ (fn (at 198 226) None (nm 203 207 (codes "main")) (sig [] []) (at 210 226) (stmt_and (eval (at 213 224) (call (at 213 224) (ident (at 213 216) (codes "Set")) (expr_and (call (at 217 223) (ident (at 217 221) (codes "next")) no_exprs Plain) no_exprs) Plain)) no_stmts)) ∷ []) }

only_written_0_f0_read : read_at span_to read_front (lexemes ((tok Keyword 0 7 (codes "package")) ∷ (tok Ident 8 12 (codes "main")) ∷ (tok Inserted 12 12 (codes ";")) ∷ (tok Keyword 30 34 (codes "func")) ∷ (tok Ident 35 38 (codes "Set")) ∷ (tok Operator 38 39 (codes "(")) ∷ (tok Ident 39 40 (codes "x")) ∷ (tok Ident 41 44 (codes "int")) ∷ (tok Operator 44 45 (codes ")")) ∷ (tok Operator 46 47 (codes "{")) ∷ (tok Ident 49 56 (codes "println")) ∷ (tok Operator 56 57 (codes "(")) ∷ (tok Str 57 60 (codes "\"a\"")) ∷ (tok Operator 60 61 (codes ")")) ∷ (tok Inserted 61 61 (codes ";")) ∷ (tok Ident 63 64 (codes "x")) ∷ (tok Operator 65 66 (codes "=")) ∷ (tok Integer 67 68 (codes "2")) ∷ (tok Inserted 68 68 (codes ";")) ∷ (tok Operator 69 70 (codes "}")) ∷ (tok Inserted 70 70 (codes ";")) ∷ (tok Keyword 72 76 (codes "func")) ∷ (tok Ident 77 81 (codes "next")) ∷ (tok Operator 81 82 (codes "(")) ∷ (tok Operator 82 83 (codes ")")) ∷ (tok Ident 84 87 (codes "int")) ∷ (tok Operator 88 89 (codes "{")) ∷ (tok Ident 90 97 (codes "println")) ∷ (tok Operator 97 98 (codes "(")) ∷ (tok Str 98 101 (codes "\"n\"")) ∷ (tok Operator 101 102 (codes ")")) ∷ (tok Operator 102 103 (codes ";")) ∷ (tok Keyword 104 110 (codes "return")) ∷ (tok Integer 111 112 (codes "1")) ∷ (tok Operator 113 114 (codes "}")) ∷ (tok Inserted 114 114 (codes ";")) ∷ (tok Keyword 116 120 (codes "func")) ∷ (tok Ident 121 122 (codes "g")) ∷ (tok Operator 122 123 (codes "(")) ∷ (tok Operator 123 124 (codes ")")) ∷ (tok Ident 125 128 (codes "int")) ∷ (tok Operator 129 130 (codes "{")) ∷ (tok Ident 131 138 (codes "println")) ∷ (tok Operator 138 139 (codes "(")) ∷ (tok Str 139 142 (codes "\"g\"")) ∷ (tok Operator 142 143 (codes ")")) ∷ (tok Operator 143 144 (codes ";")) ∷ (tok Keyword 145 151 (codes "return")) ∷ (tok Integer 152 153 (codes "1")) ∷ (tok Operator 154 155 (codes "}")) ∷ (tok Inserted 155 155 (codes ";")) ∷ (tok Keyword 157 161 (codes "func")) ∷ (tok Ident 162 163 (codes "h")) ∷ (tok Operator 163 164 (codes "(")) ∷ (tok Operator 164 165 (codes ")")) ∷ (tok Ident 166 169 (codes "int")) ∷ (tok Operator 170 171 (codes "{")) ∷ (tok Ident 172 179 (codes "println")) ∷ (tok Operator 179 180 (codes "(")) ∷ (tok Str 180 183 (codes "\"h\"")) ∷ (tok Operator 183 184 (codes ")")) ∷ (tok Operator 184 185 (codes ";")) ∷ (tok Keyword 186 192 (codes "return")) ∷ (tok Integer 193 194 (codes "1")) ∷ (tok Operator 195 196 (codes "}")) ∷ (tok Inserted 196 196 (codes ";")) ∷ (tok Keyword 198 202 (codes "func")) ∷ (tok Ident 203 207 (codes "main")) ∷ (tok Operator 207 208 (codes "(")) ∷ (tok Operator 208 209 (codes ")")) ∷ (tok Operator 210 211 (codes "{")) ∷ (tok Ident 213 216 (codes "Set")) ∷ (tok Operator 216 217 (codes "(")) ∷ (tok Ident 217 221 (codes "next")) ∷ (tok Operator 221 222 (codes "(")) ∷ (tok Operator 222 223 (codes ")")) ∷ (tok Operator 223 224 (codes ")")) ∷ (tok Inserted 224 224 (codes ";")) ∷ (tok Operator 225 226 (codes "}")) ∷ (tok Inserted 226 226 (codes ";")) ∷ [])) ≡ Some (only_written_0_f0, [])
unfolding reading
only_written_0_f0_read = refl

abbrev only_written_0 : Module
only_written_0 = record { packages = (pack (codes "example.com/m") (codes "main") (source (codes "main.go") only_written_0_f0 ∷ []) ∷ []); marks = (mark 0 0 0 0 ∷ []); texts = (((codes "main.go"), record { text = (codes "package main\n\n//go:fix inline\nfunc Set(x int) {\n\tprintln(\"a\")\n\tx = 2\n}\n\nfunc next() int { println(\"n\"); return 1 }\n\nfunc g() int { println(\"g\"); return 1 }\n\nfunc h() int { println(\"h\"); return 1 }\n\nfunc main() {\n\tSet(next())\n}\n"); tokens = ((tok Keyword 0 7 (codes "package")) ∷ (tok Ident 8 12 (codes "main")) ∷ (tok Inserted 12 12 (codes ";")) ∷ (tok Keyword 30 34 (codes "func")) ∷ (tok Ident 35 38 (codes "Set")) ∷ (tok Operator 38 39 (codes "(")) ∷ (tok Ident 39 40 (codes "x")) ∷ (tok Ident 41 44 (codes "int")) ∷ (tok Operator 44 45 (codes ")")) ∷ (tok Operator 46 47 (codes "{")) ∷ (tok Ident 49 56 (codes "println")) ∷ (tok Operator 56 57 (codes "(")) ∷ (tok Str 57 60 (codes "\"a\"")) ∷ (tok Operator 60 61 (codes ")")) ∷ (tok Inserted 61 61 (codes ";")) ∷ (tok Ident 63 64 (codes "x")) ∷ (tok Operator 65 66 (codes "=")) ∷ (tok Integer 67 68 (codes "2")) ∷ (tok Inserted 68 68 (codes ";")) ∷ (tok Operator 69 70 (codes "}")) ∷ (tok Inserted 70 70 (codes ";")) ∷ (tok Keyword 72 76 (codes "func")) ∷ (tok Ident 77 81 (codes "next")) ∷ (tok Operator 81 82 (codes "(")) ∷ (tok Operator 82 83 (codes ")")) ∷ (tok Ident 84 87 (codes "int")) ∷ (tok Operator 88 89 (codes "{")) ∷ (tok Ident 90 97 (codes "println")) ∷ (tok Operator 97 98 (codes "(")) ∷ (tok Str 98 101 (codes "\"n\"")) ∷ (tok Operator 101 102 (codes ")")) ∷ (tok Operator 102 103 (codes ";")) ∷ (tok Keyword 104 110 (codes "return")) ∷ (tok Integer 111 112 (codes "1")) ∷ (tok Operator 113 114 (codes "}")) ∷ (tok Inserted 114 114 (codes ";")) ∷ (tok Keyword 116 120 (codes "func")) ∷ (tok Ident 121 122 (codes "g")) ∷ (tok Operator 122 123 (codes "(")) ∷ (tok Operator 123 124 (codes ")")) ∷ (tok Ident 125 128 (codes "int")) ∷ (tok Operator 129 130 (codes "{")) ∷ (tok Ident 131 138 (codes "println")) ∷ (tok Operator 138 139 (codes "(")) ∷ (tok Str 139 142 (codes "\"g\"")) ∷ (tok Operator 142 143 (codes ")")) ∷ (tok Operator 143 144 (codes ";")) ∷ (tok Keyword 145 151 (codes "return")) ∷ (tok Integer 152 153 (codes "1")) ∷ (tok Operator 154 155 (codes "}")) ∷ (tok Inserted 155 155 (codes ";")) ∷ (tok Keyword 157 161 (codes "func")) ∷ (tok Ident 162 163 (codes "h")) ∷ (tok Operator 163 164 (codes "(")) ∷ (tok Operator 164 165 (codes ")")) ∷ (tok Ident 166 169 (codes "int")) ∷ (tok Operator 170 171 (codes "{")) ∷ (tok Ident 172 179 (codes "println")) ∷ (tok Operator 179 180 (codes "(")) ∷ (tok Str 180 183 (codes "\"h\"")) ∷ (tok Operator 183 184 (codes ")")) ∷ (tok Operator 184 185 (codes ";")) ∷ (tok Keyword 186 192 (codes "return")) ∷ (tok Integer 193 194 (codes "1")) ∷ (tok Operator 195 196 (codes "}")) ∷ (tok Inserted 196 196 (codes ";")) ∷ (tok Keyword 198 202 (codes "func")) ∷ (tok Ident 203 207 (codes "main")) ∷ (tok Operator 207 208 (codes "(")) ∷ (tok Operator 208 209 (codes ")")) ∷ (tok Operator 210 211 (codes "{")) ∷ (tok Ident 213 216 (codes "Set")) ∷ (tok Operator 216 217 (codes "(")) ∷ (tok Ident 217 221 (codes "next")) ∷ (tok Operator 221 222 (codes "(")) ∷ (tok Operator 222 223 (codes ")")) ∷ (tok Operator 223 224 (codes ")")) ∷ (tok Inserted 224 224 (codes ";")) ∷ (tok Operator 225 226 (codes "}")) ∷ (tok Inserted 226 226 (codes ";")) ∷ []); comments = ((note 14 29) ∷ []) }) ∷ []) }

only_written_0_typed : is_typed only_written_0 ≡ true
only_written_0_typed = refl

only_written_0_step : first_change only_written_0 ≡ Some ((codes "main.go"), LiteralForm, (codes "package main\n\n//go:fix inline\nfunc Set(x int) {\n\tprintln(\"a\")\n\tx = 2\n}\n\nfunc next() int { println(\"n\"); return 1 }\n\nfunc g() int { println(\"g\"); return 1 }\n\nfunc h() int { println(\"h\"); return 1 }\n\nfunc main() {\n\tfunc(x int) {\n\t\tprintln(\"a\")\n\t\tx = 2\n\t}(next())\n}\n"))
only_written_0_step = refl

abbrev only_written_1_f0 : File Span
only_written_1_f0 = record { package_name = (nm 8 12 (codes "main")); imports = []; decls = ((fn (at 30 70) None (nm 35 38 (codes "Set")) (sig ((param (at 39 44) (Some (nm 39 40 (codes "x"))) (named (at 41 44) None (nm 41 44 (codes "int")))) ∷ []) []) (at 46 70) (stmt_and (eval (at 49 61) (call (at 49 61) (ident (at 49 56) (codes "println")) (expr_and (str_lit (at 57 60) (codes "\"a\"")) no_exprs) Plain)) (stmt_and (assign (at 63 68) (expr_and (ident (at 63 64) (codes "x")) no_exprs) None (expr_and (int_lit (at 67 68) (codes "2")) no_exprs)) no_stmts))) ∷ (fn (at 72 114) None (nm 77 81 (codes "next")) (sig [] ((param (at 84 87) None (named (at 84 87) None (nm 84 87 (codes "int")))) ∷ [])) (at 88 114) (stmt_and (eval (at 90 102) (call (at 90 102) (ident (at 90 97) (codes "println")) (expr_and (str_lit (at 98 101) (codes "\"n\"")) no_exprs) Plain)) (stmt_and (return_ (at 104 112) (expr_and (int_lit (at 111 112) (codes "1")) no_exprs)) no_stmts))) ∷ (fn (at 116 155) None (nm 121 122 (codes "g")) (sig [] ((param (at 125 128) None (named (at 125 128) None (nm 125 128 (codes "int")))) ∷ [])) (at 129 155) (stmt_and (eval (at 131 143) (call (at 131 143) (ident (at 131 138) (codes "println")) (expr_and (str_lit (at 139 142) (codes "\"g\"")) no_exprs) Plain)) (stmt_and (return_ (at 145 153) (expr_and (int_lit (at 152 153) (codes "1")) no_exprs)) no_stmts))) ∷ (fn (at 157 196) None (nm 162 163 (codes "h")) (sig [] ((param (at 166 169) None (named (at 166 169) None (nm 166 169 (codes "int")))) ∷ [])) (at 170 196) (stmt_and (eval (at 172 184) (call (at 172 184) (ident (at 172 179) (codes "println")) (expr_and (str_lit (at 180 183) (codes "\"h\"")) no_exprs) Plain)) (stmt_and (return_ (at 186 194) (expr_and (int_lit (at 193 194) (codes "1")) no_exprs)) no_stmts))) ∷ (fn (at 198 262) None (nm 203 207 (codes "main")) (sig [] []) (at 210 262) (stmt_and (eval (at 213 260) (call (at 213 260) (func_lit (at 213 252) (sig ((param (at 218 223) (Some (nm 218 219 (codes "x"))) (named (at 220 223) None (nm 220 223 (codes "int")))) ∷ []) []) (at 225 252) (stmt_and (eval (at 229 241) (call (at 229 241) (ident (at 229 236) (codes "println")) (expr_and (str_lit (at 237 240) (codes "\"a\"")) no_exprs) Plain)) (stmt_and (assign (at 244 249) (expr_and (ident (at 244 245) (codes "x")) no_exprs) None (expr_and (int_lit (at 248 249) (codes "2")) no_exprs)) no_stmts))) (expr_and (call (at 253 259) (ident (at 253 257) (codes "next")) no_exprs Plain) no_exprs) Plain)) no_stmts)) ∷ []) }

only_written_1_f0_read : read_at span_to read_front (lexemes ((tok Keyword 0 7 (codes "package")) ∷ (tok Ident 8 12 (codes "main")) ∷ (tok Inserted 12 12 (codes ";")) ∷ (tok Keyword 30 34 (codes "func")) ∷ (tok Ident 35 38 (codes "Set")) ∷ (tok Operator 38 39 (codes "(")) ∷ (tok Ident 39 40 (codes "x")) ∷ (tok Ident 41 44 (codes "int")) ∷ (tok Operator 44 45 (codes ")")) ∷ (tok Operator 46 47 (codes "{")) ∷ (tok Ident 49 56 (codes "println")) ∷ (tok Operator 56 57 (codes "(")) ∷ (tok Str 57 60 (codes "\"a\"")) ∷ (tok Operator 60 61 (codes ")")) ∷ (tok Inserted 61 61 (codes ";")) ∷ (tok Ident 63 64 (codes "x")) ∷ (tok Operator 65 66 (codes "=")) ∷ (tok Integer 67 68 (codes "2")) ∷ (tok Inserted 68 68 (codes ";")) ∷ (tok Operator 69 70 (codes "}")) ∷ (tok Inserted 70 70 (codes ";")) ∷ (tok Keyword 72 76 (codes "func")) ∷ (tok Ident 77 81 (codes "next")) ∷ (tok Operator 81 82 (codes "(")) ∷ (tok Operator 82 83 (codes ")")) ∷ (tok Ident 84 87 (codes "int")) ∷ (tok Operator 88 89 (codes "{")) ∷ (tok Ident 90 97 (codes "println")) ∷ (tok Operator 97 98 (codes "(")) ∷ (tok Str 98 101 (codes "\"n\"")) ∷ (tok Operator 101 102 (codes ")")) ∷ (tok Operator 102 103 (codes ";")) ∷ (tok Keyword 104 110 (codes "return")) ∷ (tok Integer 111 112 (codes "1")) ∷ (tok Operator 113 114 (codes "}")) ∷ (tok Inserted 114 114 (codes ";")) ∷ (tok Keyword 116 120 (codes "func")) ∷ (tok Ident 121 122 (codes "g")) ∷ (tok Operator 122 123 (codes "(")) ∷ (tok Operator 123 124 (codes ")")) ∷ (tok Ident 125 128 (codes "int")) ∷ (tok Operator 129 130 (codes "{")) ∷ (tok Ident 131 138 (codes "println")) ∷ (tok Operator 138 139 (codes "(")) ∷ (tok Str 139 142 (codes "\"g\"")) ∷ (tok Operator 142 143 (codes ")")) ∷ (tok Operator 143 144 (codes ";")) ∷ (tok Keyword 145 151 (codes "return")) ∷ (tok Integer 152 153 (codes "1")) ∷ (tok Operator 154 155 (codes "}")) ∷ (tok Inserted 155 155 (codes ";")) ∷ (tok Keyword 157 161 (codes "func")) ∷ (tok Ident 162 163 (codes "h")) ∷ (tok Operator 163 164 (codes "(")) ∷ (tok Operator 164 165 (codes ")")) ∷ (tok Ident 166 169 (codes "int")) ∷ (tok Operator 170 171 (codes "{")) ∷ (tok Ident 172 179 (codes "println")) ∷ (tok Operator 179 180 (codes "(")) ∷ (tok Str 180 183 (codes "\"h\"")) ∷ (tok Operator 183 184 (codes ")")) ∷ (tok Operator 184 185 (codes ";")) ∷ (tok Keyword 186 192 (codes "return")) ∷ (tok Integer 193 194 (codes "1")) ∷ (tok Operator 195 196 (codes "}")) ∷ (tok Inserted 196 196 (codes ";")) ∷ (tok Keyword 198 202 (codes "func")) ∷ (tok Ident 203 207 (codes "main")) ∷ (tok Operator 207 208 (codes "(")) ∷ (tok Operator 208 209 (codes ")")) ∷ (tok Operator 210 211 (codes "{")) ∷ (tok Keyword 213 217 (codes "func")) ∷ (tok Operator 217 218 (codes "(")) ∷ (tok Ident 218 219 (codes "x")) ∷ (tok Ident 220 223 (codes "int")) ∷ (tok Operator 223 224 (codes ")")) ∷ (tok Operator 225 226 (codes "{")) ∷ (tok Ident 229 236 (codes "println")) ∷ (tok Operator 236 237 (codes "(")) ∷ (tok Str 237 240 (codes "\"a\"")) ∷ (tok Operator 240 241 (codes ")")) ∷ (tok Inserted 241 241 (codes ";")) ∷ (tok Ident 244 245 (codes "x")) ∷ (tok Operator 246 247 (codes "=")) ∷ (tok Integer 248 249 (codes "2")) ∷ (tok Inserted 249 249 (codes ";")) ∷ (tok Operator 251 252 (codes "}")) ∷ (tok Operator 252 253 (codes "(")) ∷ (tok Ident 253 257 (codes "next")) ∷ (tok Operator 257 258 (codes "(")) ∷ (tok Operator 258 259 (codes ")")) ∷ (tok Operator 259 260 (codes ")")) ∷ (tok Inserted 260 260 (codes ";")) ∷ (tok Operator 261 262 (codes "}")) ∷ (tok Inserted 262 262 (codes ";")) ∷ [])) ≡ Some (only_written_1_f0, [])
unfolding reading
only_written_1_f0_read = refl

abbrev only_written_1 : Module
only_written_1 = record { packages = (pack (codes "example.com/m") (codes "main") (source (codes "main.go") only_written_1_f0 ∷ []) ∷ []); marks = (mark 0 0 0 0 ∷ []); texts = (((codes "main.go"), record { text = (codes "package main\n\n//go:fix inline\nfunc Set(x int) {\n\tprintln(\"a\")\n\tx = 2\n}\n\nfunc next() int { println(\"n\"); return 1 }\n\nfunc g() int { println(\"g\"); return 1 }\n\nfunc h() int { println(\"h\"); return 1 }\n\nfunc main() {\n\tfunc(x int) {\n\t\tprintln(\"a\")\n\t\tx = 2\n\t}(next())\n}\n"); tokens = ((tok Keyword 0 7 (codes "package")) ∷ (tok Ident 8 12 (codes "main")) ∷ (tok Inserted 12 12 (codes ";")) ∷ (tok Keyword 30 34 (codes "func")) ∷ (tok Ident 35 38 (codes "Set")) ∷ (tok Operator 38 39 (codes "(")) ∷ (tok Ident 39 40 (codes "x")) ∷ (tok Ident 41 44 (codes "int")) ∷ (tok Operator 44 45 (codes ")")) ∷ (tok Operator 46 47 (codes "{")) ∷ (tok Ident 49 56 (codes "println")) ∷ (tok Operator 56 57 (codes "(")) ∷ (tok Str 57 60 (codes "\"a\"")) ∷ (tok Operator 60 61 (codes ")")) ∷ (tok Inserted 61 61 (codes ";")) ∷ (tok Ident 63 64 (codes "x")) ∷ (tok Operator 65 66 (codes "=")) ∷ (tok Integer 67 68 (codes "2")) ∷ (tok Inserted 68 68 (codes ";")) ∷ (tok Operator 69 70 (codes "}")) ∷ (tok Inserted 70 70 (codes ";")) ∷ (tok Keyword 72 76 (codes "func")) ∷ (tok Ident 77 81 (codes "next")) ∷ (tok Operator 81 82 (codes "(")) ∷ (tok Operator 82 83 (codes ")")) ∷ (tok Ident 84 87 (codes "int")) ∷ (tok Operator 88 89 (codes "{")) ∷ (tok Ident 90 97 (codes "println")) ∷ (tok Operator 97 98 (codes "(")) ∷ (tok Str 98 101 (codes "\"n\"")) ∷ (tok Operator 101 102 (codes ")")) ∷ (tok Operator 102 103 (codes ";")) ∷ (tok Keyword 104 110 (codes "return")) ∷ (tok Integer 111 112 (codes "1")) ∷ (tok Operator 113 114 (codes "}")) ∷ (tok Inserted 114 114 (codes ";")) ∷ (tok Keyword 116 120 (codes "func")) ∷ (tok Ident 121 122 (codes "g")) ∷ (tok Operator 122 123 (codes "(")) ∷ (tok Operator 123 124 (codes ")")) ∷ (tok Ident 125 128 (codes "int")) ∷ (tok Operator 129 130 (codes "{")) ∷ (tok Ident 131 138 (codes "println")) ∷ (tok Operator 138 139 (codes "(")) ∷ (tok Str 139 142 (codes "\"g\"")) ∷ (tok Operator 142 143 (codes ")")) ∷ (tok Operator 143 144 (codes ";")) ∷ (tok Keyword 145 151 (codes "return")) ∷ (tok Integer 152 153 (codes "1")) ∷ (tok Operator 154 155 (codes "}")) ∷ (tok Inserted 155 155 (codes ";")) ∷ (tok Keyword 157 161 (codes "func")) ∷ (tok Ident 162 163 (codes "h")) ∷ (tok Operator 163 164 (codes "(")) ∷ (tok Operator 164 165 (codes ")")) ∷ (tok Ident 166 169 (codes "int")) ∷ (tok Operator 170 171 (codes "{")) ∷ (tok Ident 172 179 (codes "println")) ∷ (tok Operator 179 180 (codes "(")) ∷ (tok Str 180 183 (codes "\"h\"")) ∷ (tok Operator 183 184 (codes ")")) ∷ (tok Operator 184 185 (codes ";")) ∷ (tok Keyword 186 192 (codes "return")) ∷ (tok Integer 193 194 (codes "1")) ∷ (tok Operator 195 196 (codes "}")) ∷ (tok Inserted 196 196 (codes ";")) ∷ (tok Keyword 198 202 (codes "func")) ∷ (tok Ident 203 207 (codes "main")) ∷ (tok Operator 207 208 (codes "(")) ∷ (tok Operator 208 209 (codes ")")) ∷ (tok Operator 210 211 (codes "{")) ∷ (tok Keyword 213 217 (codes "func")) ∷ (tok Operator 217 218 (codes "(")) ∷ (tok Ident 218 219 (codes "x")) ∷ (tok Ident 220 223 (codes "int")) ∷ (tok Operator 223 224 (codes ")")) ∷ (tok Operator 225 226 (codes "{")) ∷ (tok Ident 229 236 (codes "println")) ∷ (tok Operator 236 237 (codes "(")) ∷ (tok Str 237 240 (codes "\"a\"")) ∷ (tok Operator 240 241 (codes ")")) ∷ (tok Inserted 241 241 (codes ";")) ∷ (tok Ident 244 245 (codes "x")) ∷ (tok Operator 246 247 (codes "=")) ∷ (tok Integer 248 249 (codes "2")) ∷ (tok Inserted 249 249 (codes ";")) ∷ (tok Operator 251 252 (codes "}")) ∷ (tok Operator 252 253 (codes "(")) ∷ (tok Ident 253 257 (codes "next")) ∷ (tok Operator 257 258 (codes "(")) ∷ (tok Operator 258 259 (codes ")")) ∷ (tok Operator 259 260 (codes ")")) ∷ (tok Inserted 260 260 (codes ";")) ∷ (tok Operator 261 262 (codes "}")) ∷ (tok Inserted 262 262 (codes ";")) ∷ []); comments = ((note 14 29) ∷ []) }) ∷ []) }

only_written_1_typed : is_typed only_written_1 ≡ true
only_written_1_typed = refl

only_written_1_ends : step_of only_written_1 ≡ None
only_written_1_ends = refl

only_written_1_kept : kept_uses only_written_1 ≡ []
only_written_1_kept = refl

-- A `return` keeps the literal.
abbrev block_with_return_0_f0 : File Span
block_with_return_0_f0 = record { package_name = (nm 8 12 (codes "main")); imports = []; decls = ((fn (at 30 85) None (nm 35 39 (codes "Stop")) (sig ((param (at 40 46) (Some (nm 40 41 (codes "b"))) (named (at 42 46) None (nm 42 46 (codes "bool")))) ∷ []) []) (at 48 85) (stmt_and (if_ (at 51 69) (arm (at 51 69) no_stmt (ident (at 54 55) (codes "b")) (at 56 69) (stmt_and (return_ (at 60 66) no_exprs) no_stmts) no_arms) no_block) (stmt_and (eval (at 71 83) (call (at 71 83) (ident (at 71 78) (codes "println")) (expr_and (str_lit (at 79 82) (codes "\"a\"")) no_exprs) Plain)) no_stmts))) ∷ (fn (at 87 134) None (nm 92 96 (codes "main")) (sig [] []) (at 99 134) (stmt_and (define (at 102 111) ((nm 102 103 (codes "c")) ∷ []) (expr_and (ident (at 107 111) (codes "true")) no_exprs)) (stmt_and (eval (at 113 120) (call (at 113 120) (ident (at 113 117) (codes "Stop")) (expr_and (ident (at 118 119) (codes "c")) no_exprs) Plain)) (stmt_and (eval (at 122 132) (call (at 122 132) (ident (at 122 129) (codes "println")) (expr_and (ident (at 130 131) (codes "c")) no_exprs) Plain)) no_stmts)))) ∷ []) }

block_with_return_0_f0_read : read_at span_to read_front (lexemes ((tok Keyword 0 7 (codes "package")) ∷ (tok Ident 8 12 (codes "main")) ∷ (tok Inserted 12 12 (codes ";")) ∷ (tok Keyword 30 34 (codes "func")) ∷ (tok Ident 35 39 (codes "Stop")) ∷ (tok Operator 39 40 (codes "(")) ∷ (tok Ident 40 41 (codes "b")) ∷ (tok Ident 42 46 (codes "bool")) ∷ (tok Operator 46 47 (codes ")")) ∷ (tok Operator 48 49 (codes "{")) ∷ (tok Keyword 51 53 (codes "if")) ∷ (tok Ident 54 55 (codes "b")) ∷ (tok Operator 56 57 (codes "{")) ∷ (tok Keyword 60 66 (codes "return")) ∷ (tok Inserted 66 66 (codes ";")) ∷ (tok Operator 68 69 (codes "}")) ∷ (tok Inserted 69 69 (codes ";")) ∷ (tok Ident 71 78 (codes "println")) ∷ (tok Operator 78 79 (codes "(")) ∷ (tok Str 79 82 (codes "\"a\"")) ∷ (tok Operator 82 83 (codes ")")) ∷ (tok Inserted 83 83 (codes ";")) ∷ (tok Operator 84 85 (codes "}")) ∷ (tok Inserted 85 85 (codes ";")) ∷ (tok Keyword 87 91 (codes "func")) ∷ (tok Ident 92 96 (codes "main")) ∷ (tok Operator 96 97 (codes "(")) ∷ (tok Operator 97 98 (codes ")")) ∷ (tok Operator 99 100 (codes "{")) ∷ (tok Ident 102 103 (codes "c")) ∷ (tok Operator 104 106 (codes ":=")) ∷ (tok Ident 107 111 (codes "true")) ∷ (tok Inserted 111 111 (codes ";")) ∷ (tok Ident 113 117 (codes "Stop")) ∷ (tok Operator 117 118 (codes "(")) ∷ (tok Ident 118 119 (codes "c")) ∷ (tok Operator 119 120 (codes ")")) ∷ (tok Inserted 120 120 (codes ";")) ∷ (tok Ident 122 129 (codes "println")) ∷ (tok Operator 129 130 (codes "(")) ∷ (tok Ident 130 131 (codes "c")) ∷ (tok Operator 131 132 (codes ")")) ∷ (tok Inserted 132 132 (codes ";")) ∷ (tok Operator 133 134 (codes "}")) ∷ (tok Inserted 134 134 (codes ";")) ∷ [])) ≡ Some (block_with_return_0_f0, [])
unfolding reading
block_with_return_0_f0_read = refl

abbrev block_with_return_0 : Module
block_with_return_0 = record { packages = (pack (codes "example.com/m") (codes "main") (source (codes "main.go") block_with_return_0_f0 ∷ []) ∷ []); marks = (mark 0 0 0 0 ∷ []); texts = (((codes "main.go"), record { text = (codes "package main\n\n//go:fix inline\nfunc Stop(b bool) {\n\tif b {\n\t\treturn\n\t}\n\tprintln(\"a\")\n}\n\nfunc main() {\n\tc := true\n\tStop(c)\n\tprintln(c)\n}\n"); tokens = ((tok Keyword 0 7 (codes "package")) ∷ (tok Ident 8 12 (codes "main")) ∷ (tok Inserted 12 12 (codes ";")) ∷ (tok Keyword 30 34 (codes "func")) ∷ (tok Ident 35 39 (codes "Stop")) ∷ (tok Operator 39 40 (codes "(")) ∷ (tok Ident 40 41 (codes "b")) ∷ (tok Ident 42 46 (codes "bool")) ∷ (tok Operator 46 47 (codes ")")) ∷ (tok Operator 48 49 (codes "{")) ∷ (tok Keyword 51 53 (codes "if")) ∷ (tok Ident 54 55 (codes "b")) ∷ (tok Operator 56 57 (codes "{")) ∷ (tok Keyword 60 66 (codes "return")) ∷ (tok Inserted 66 66 (codes ";")) ∷ (tok Operator 68 69 (codes "}")) ∷ (tok Inserted 69 69 (codes ";")) ∷ (tok Ident 71 78 (codes "println")) ∷ (tok Operator 78 79 (codes "(")) ∷ (tok Str 79 82 (codes "\"a\"")) ∷ (tok Operator 82 83 (codes ")")) ∷ (tok Inserted 83 83 (codes ";")) ∷ (tok Operator 84 85 (codes "}")) ∷ (tok Inserted 85 85 (codes ";")) ∷ (tok Keyword 87 91 (codes "func")) ∷ (tok Ident 92 96 (codes "main")) ∷ (tok Operator 96 97 (codes "(")) ∷ (tok Operator 97 98 (codes ")")) ∷ (tok Operator 99 100 (codes "{")) ∷ (tok Ident 102 103 (codes "c")) ∷ (tok Operator 104 106 (codes ":=")) ∷ (tok Ident 107 111 (codes "true")) ∷ (tok Inserted 111 111 (codes ";")) ∷ (tok Ident 113 117 (codes "Stop")) ∷ (tok Operator 117 118 (codes "(")) ∷ (tok Ident 118 119 (codes "c")) ∷ (tok Operator 119 120 (codes ")")) ∷ (tok Inserted 120 120 (codes ";")) ∷ (tok Ident 122 129 (codes "println")) ∷ (tok Operator 129 130 (codes "(")) ∷ (tok Ident 130 131 (codes "c")) ∷ (tok Operator 131 132 (codes ")")) ∷ (tok Inserted 132 132 (codes ";")) ∷ (tok Operator 133 134 (codes "}")) ∷ (tok Inserted 134 134 (codes ";")) ∷ []); comments = ((note 14 29) ∷ []) }) ∷ []) }

block_with_return_0_typed : is_typed block_with_return_0 ≡ true
block_with_return_0_typed = refl

block_with_return_0_step : first_change block_with_return_0 ≡ Some ((codes "main.go"), LiteralForm, (codes "package main\n\n//go:fix inline\nfunc Stop(b bool) {\n\tif b {\n\t\treturn\n\t}\n\tprintln(\"a\")\n}\n\nfunc main() {\n\tc := true\n\tfunc() {\n\t\tif c {\n\t\t\treturn\n\t\t}\n\t\tprintln(\"a\")\n\t}()\n\tprintln(c)\n}\n"))
block_with_return_0_step = refl

abbrev block_with_return_1_f0 : File Span
block_with_return_1_f0 = record { package_name = (nm 8 12 (codes "main")); imports = []; decls = ((fn (at 30 85) None (nm 35 39 (codes "Stop")) (sig ((param (at 40 46) (Some (nm 40 41 (codes "b"))) (named (at 42 46) None (nm 42 46 (codes "bool")))) ∷ []) []) (at 48 85) (stmt_and (if_ (at 51 69) (arm (at 51 69) no_stmt (ident (at 54 55) (codes "b")) (at 56 69) (stmt_and (return_ (at 60 66) no_exprs) no_stmts) no_arms) no_block) (stmt_and (eval (at 71 83) (call (at 71 83) (ident (at 71 78) (codes "println")) (expr_and (str_lit (at 79 82) (codes "\"a\"")) no_exprs) Plain)) no_stmts))) ∷ (fn (at 87 178) None (nm 92 96 (codes "main")) (sig [] []) (at 99 178) (stmt_and (define (at 102 111) ((nm 102 103 (codes "c")) ∷ []) (expr_and (ident (at 107 111) (codes "true")) no_exprs)) (stmt_and (eval (at 113 164) (call (at 113 164) (func_lit (at 113 162) (sig [] []) (at 120 162) (stmt_and (if_ (at 124 144) (arm (at 124 144) no_stmt (ident (at 127 128) (codes "c")) (at 129 144) (stmt_and (return_ (at 134 140) no_exprs) no_stmts) no_arms) no_block) (stmt_and (eval (at 147 159) (call (at 147 159) (ident (at 147 154) (codes "println")) (expr_and (str_lit (at 155 158) (codes "\"a\"")) no_exprs) Plain)) no_stmts))) no_exprs Plain)) (stmt_and (eval (at 166 176) (call (at 166 176) (ident (at 166 173) (codes "println")) (expr_and (ident (at 174 175) (codes "c")) no_exprs) Plain)) no_stmts)))) ∷ []) }

block_with_return_1_f0_read : read_at span_to read_front (lexemes ((tok Keyword 0 7 (codes "package")) ∷ (tok Ident 8 12 (codes "main")) ∷ (tok Inserted 12 12 (codes ";")) ∷ (tok Keyword 30 34 (codes "func")) ∷ (tok Ident 35 39 (codes "Stop")) ∷ (tok Operator 39 40 (codes "(")) ∷ (tok Ident 40 41 (codes "b")) ∷ (tok Ident 42 46 (codes "bool")) ∷ (tok Operator 46 47 (codes ")")) ∷ (tok Operator 48 49 (codes "{")) ∷ (tok Keyword 51 53 (codes "if")) ∷ (tok Ident 54 55 (codes "b")) ∷ (tok Operator 56 57 (codes "{")) ∷ (tok Keyword 60 66 (codes "return")) ∷ (tok Inserted 66 66 (codes ";")) ∷ (tok Operator 68 69 (codes "}")) ∷ (tok Inserted 69 69 (codes ";")) ∷ (tok Ident 71 78 (codes "println")) ∷ (tok Operator 78 79 (codes "(")) ∷ (tok Str 79 82 (codes "\"a\"")) ∷ (tok Operator 82 83 (codes ")")) ∷ (tok Inserted 83 83 (codes ";")) ∷ (tok Operator 84 85 (codes "}")) ∷ (tok Inserted 85 85 (codes ";")) ∷ (tok Keyword 87 91 (codes "func")) ∷ (tok Ident 92 96 (codes "main")) ∷ (tok Operator 96 97 (codes "(")) ∷ (tok Operator 97 98 (codes ")")) ∷ (tok Operator 99 100 (codes "{")) ∷ (tok Ident 102 103 (codes "c")) ∷ (tok Operator 104 106 (codes ":=")) ∷ (tok Ident 107 111 (codes "true")) ∷ (tok Inserted 111 111 (codes ";")) ∷ (tok Keyword 113 117 (codes "func")) ∷ (tok Operator 117 118 (codes "(")) ∷ (tok Operator 118 119 (codes ")")) ∷ (tok Operator 120 121 (codes "{")) ∷ (tok Keyword 124 126 (codes "if")) ∷ (tok Ident 127 128 (codes "c")) ∷ (tok Operator 129 130 (codes "{")) ∷ (tok Keyword 134 140 (codes "return")) ∷ (tok Inserted 140 140 (codes ";")) ∷ (tok Operator 143 144 (codes "}")) ∷ (tok Inserted 144 144 (codes ";")) ∷ (tok Ident 147 154 (codes "println")) ∷ (tok Operator 154 155 (codes "(")) ∷ (tok Str 155 158 (codes "\"a\"")) ∷ (tok Operator 158 159 (codes ")")) ∷ (tok Inserted 159 159 (codes ";")) ∷ (tok Operator 161 162 (codes "}")) ∷ (tok Operator 162 163 (codes "(")) ∷ (tok Operator 163 164 (codes ")")) ∷ (tok Inserted 164 164 (codes ";")) ∷ (tok Ident 166 173 (codes "println")) ∷ (tok Operator 173 174 (codes "(")) ∷ (tok Ident 174 175 (codes "c")) ∷ (tok Operator 175 176 (codes ")")) ∷ (tok Inserted 176 176 (codes ";")) ∷ (tok Operator 177 178 (codes "}")) ∷ (tok Inserted 178 178 (codes ";")) ∷ [])) ≡ Some (block_with_return_1_f0, [])
unfolding reading
block_with_return_1_f0_read = refl

abbrev block_with_return_1 : Module
block_with_return_1 = record { packages = (pack (codes "example.com/m") (codes "main") (source (codes "main.go") block_with_return_1_f0 ∷ []) ∷ []); marks = (mark 0 0 0 0 ∷ []); texts = (((codes "main.go"), record { text = (codes "package main\n\n//go:fix inline\nfunc Stop(b bool) {\n\tif b {\n\t\treturn\n\t}\n\tprintln(\"a\")\n}\n\nfunc main() {\n\tc := true\n\tfunc() {\n\t\tif c {\n\t\t\treturn\n\t\t}\n\t\tprintln(\"a\")\n\t}()\n\tprintln(c)\n}\n"); tokens = ((tok Keyword 0 7 (codes "package")) ∷ (tok Ident 8 12 (codes "main")) ∷ (tok Inserted 12 12 (codes ";")) ∷ (tok Keyword 30 34 (codes "func")) ∷ (tok Ident 35 39 (codes "Stop")) ∷ (tok Operator 39 40 (codes "(")) ∷ (tok Ident 40 41 (codes "b")) ∷ (tok Ident 42 46 (codes "bool")) ∷ (tok Operator 46 47 (codes ")")) ∷ (tok Operator 48 49 (codes "{")) ∷ (tok Keyword 51 53 (codes "if")) ∷ (tok Ident 54 55 (codes "b")) ∷ (tok Operator 56 57 (codes "{")) ∷ (tok Keyword 60 66 (codes "return")) ∷ (tok Inserted 66 66 (codes ";")) ∷ (tok Operator 68 69 (codes "}")) ∷ (tok Inserted 69 69 (codes ";")) ∷ (tok Ident 71 78 (codes "println")) ∷ (tok Operator 78 79 (codes "(")) ∷ (tok Str 79 82 (codes "\"a\"")) ∷ (tok Operator 82 83 (codes ")")) ∷ (tok Inserted 83 83 (codes ";")) ∷ (tok Operator 84 85 (codes "}")) ∷ (tok Inserted 85 85 (codes ";")) ∷ (tok Keyword 87 91 (codes "func")) ∷ (tok Ident 92 96 (codes "main")) ∷ (tok Operator 96 97 (codes "(")) ∷ (tok Operator 97 98 (codes ")")) ∷ (tok Operator 99 100 (codes "{")) ∷ (tok Ident 102 103 (codes "c")) ∷ (tok Operator 104 106 (codes ":=")) ∷ (tok Ident 107 111 (codes "true")) ∷ (tok Inserted 111 111 (codes ";")) ∷ (tok Keyword 113 117 (codes "func")) ∷ (tok Operator 117 118 (codes "(")) ∷ (tok Operator 118 119 (codes ")")) ∷ (tok Operator 120 121 (codes "{")) ∷ (tok Keyword 124 126 (codes "if")) ∷ (tok Ident 127 128 (codes "c")) ∷ (tok Operator 129 130 (codes "{")) ∷ (tok Keyword 134 140 (codes "return")) ∷ (tok Inserted 140 140 (codes ";")) ∷ (tok Operator 143 144 (codes "}")) ∷ (tok Inserted 144 144 (codes ";")) ∷ (tok Ident 147 154 (codes "println")) ∷ (tok Operator 154 155 (codes "(")) ∷ (tok Str 155 158 (codes "\"a\"")) ∷ (tok Operator 158 159 (codes ")")) ∷ (tok Inserted 159 159 (codes ";")) ∷ (tok Operator 161 162 (codes "}")) ∷ (tok Operator 162 163 (codes "(")) ∷ (tok Operator 163 164 (codes ")")) ∷ (tok Inserted 164 164 (codes ";")) ∷ (tok Ident 166 173 (codes "println")) ∷ (tok Operator 173 174 (codes "(")) ∷ (tok Ident 174 175 (codes "c")) ∷ (tok Operator 175 176 (codes ")")) ∷ (tok Inserted 176 176 (codes ";")) ∷ (tok Operator 177 178 (codes "}")) ∷ (tok Inserted 178 178 (codes ";")) ∷ []); comments = ((note 14 29) ∷ []) }) ∷ []) }

block_with_return_1_typed : is_typed block_with_return_1 ≡ true
block_with_return_1_typed = refl

block_with_return_1_ends : step_of block_with_return_1 ≡ None
block_with_return_1_ends = refl

block_with_return_1_kept : kept_uses block_with_return_1 ≡ []
block_with_return_1_kept = refl

-- A statement of a header is no block.
abbrev block_in_header_0_f0 : File Span
block_in_header_0_f0 = record { package_name = (nm 8 12 (codes "main")); imports = []; decls = ((fn (at 30 72) None (nm 35 38 (codes "Two")) (sig [] []) (at 41 72) (stmt_and (eval (at 44 56) (call (at 44 56) (ident (at 44 51) (codes "println")) (expr_and (str_lit (at 52 55) (codes "\"a\"")) no_exprs) Plain)) (stmt_and (eval (at 58 70) (call (at 58 70) (ident (at 58 65) (codes "println")) (expr_and (str_lit (at 66 69) (codes "\"b\"")) no_exprs) Plain)) no_stmts))) ∷ (fn (at 74 116) None (nm 79 83 (codes "main")) (sig [] []) (at 86 116) (stmt_and (for_ (at 89 114) (some_stmt (eval (at 93 98) (call (at 93 98) (ident (at 93 96) (codes "Two")) no_exprs Plain))) no_expr no_stmt (at 102 114) (stmt_and (break_ (at 106 111) None) no_stmts)) no_stmts)) ∷ []) }

block_in_header_0_f0_read : read_at span_to read_front (lexemes ((tok Keyword 0 7 (codes "package")) ∷ (tok Ident 8 12 (codes "main")) ∷ (tok Inserted 12 12 (codes ";")) ∷ (tok Keyword 30 34 (codes "func")) ∷ (tok Ident 35 38 (codes "Two")) ∷ (tok Operator 38 39 (codes "(")) ∷ (tok Operator 39 40 (codes ")")) ∷ (tok Operator 41 42 (codes "{")) ∷ (tok Ident 44 51 (codes "println")) ∷ (tok Operator 51 52 (codes "(")) ∷ (tok Str 52 55 (codes "\"a\"")) ∷ (tok Operator 55 56 (codes ")")) ∷ (tok Inserted 56 56 (codes ";")) ∷ (tok Ident 58 65 (codes "println")) ∷ (tok Operator 65 66 (codes "(")) ∷ (tok Str 66 69 (codes "\"b\"")) ∷ (tok Operator 69 70 (codes ")")) ∷ (tok Inserted 70 70 (codes ";")) ∷ (tok Operator 71 72 (codes "}")) ∷ (tok Inserted 72 72 (codes ";")) ∷ (tok Keyword 74 78 (codes "func")) ∷ (tok Ident 79 83 (codes "main")) ∷ (tok Operator 83 84 (codes "(")) ∷ (tok Operator 84 85 (codes ")")) ∷ (tok Operator 86 87 (codes "{")) ∷ (tok Keyword 89 92 (codes "for")) ∷ (tok Ident 93 96 (codes "Two")) ∷ (tok Operator 96 97 (codes "(")) ∷ (tok Operator 97 98 (codes ")")) ∷ (tok Operator 98 99 (codes ";")) ∷ (tok Operator 100 101 (codes ";")) ∷ (tok Operator 102 103 (codes "{")) ∷ (tok Keyword 106 111 (codes "break")) ∷ (tok Inserted 111 111 (codes ";")) ∷ (tok Operator 113 114 (codes "}")) ∷ (tok Inserted 114 114 (codes ";")) ∷ (tok Operator 115 116 (codes "}")) ∷ (tok Inserted 116 116 (codes ";")) ∷ [])) ≡ Some (block_in_header_0_f0, [])
unfolding reading
block_in_header_0_f0_read = refl

abbrev block_in_header_0 : Module
block_in_header_0 = record { packages = (pack (codes "example.com/m") (codes "main") (source (codes "main.go") block_in_header_0_f0 ∷ []) ∷ []); marks = (mark 0 0 0 0 ∷ []); texts = (((codes "main.go"), record { text = (codes "package main\n\n//go:fix inline\nfunc Two() {\n\tprintln(\"a\")\n\tprintln(\"b\")\n}\n\nfunc main() {\n\tfor Two(); ; {\n\t\tbreak\n\t}\n}\n"); tokens = ((tok Keyword 0 7 (codes "package")) ∷ (tok Ident 8 12 (codes "main")) ∷ (tok Inserted 12 12 (codes ";")) ∷ (tok Keyword 30 34 (codes "func")) ∷ (tok Ident 35 38 (codes "Two")) ∷ (tok Operator 38 39 (codes "(")) ∷ (tok Operator 39 40 (codes ")")) ∷ (tok Operator 41 42 (codes "{")) ∷ (tok Ident 44 51 (codes "println")) ∷ (tok Operator 51 52 (codes "(")) ∷ (tok Str 52 55 (codes "\"a\"")) ∷ (tok Operator 55 56 (codes ")")) ∷ (tok Inserted 56 56 (codes ";")) ∷ (tok Ident 58 65 (codes "println")) ∷ (tok Operator 65 66 (codes "(")) ∷ (tok Str 66 69 (codes "\"b\"")) ∷ (tok Operator 69 70 (codes ")")) ∷ (tok Inserted 70 70 (codes ";")) ∷ (tok Operator 71 72 (codes "}")) ∷ (tok Inserted 72 72 (codes ";")) ∷ (tok Keyword 74 78 (codes "func")) ∷ (tok Ident 79 83 (codes "main")) ∷ (tok Operator 83 84 (codes "(")) ∷ (tok Operator 84 85 (codes ")")) ∷ (tok Operator 86 87 (codes "{")) ∷ (tok Keyword 89 92 (codes "for")) ∷ (tok Ident 93 96 (codes "Two")) ∷ (tok Operator 96 97 (codes "(")) ∷ (tok Operator 97 98 (codes ")")) ∷ (tok Operator 98 99 (codes ";")) ∷ (tok Operator 100 101 (codes ";")) ∷ (tok Operator 102 103 (codes "{")) ∷ (tok Keyword 106 111 (codes "break")) ∷ (tok Inserted 111 111 (codes ";")) ∷ (tok Operator 113 114 (codes "}")) ∷ (tok Inserted 114 114 (codes ";")) ∷ (tok Operator 115 116 (codes "}")) ∷ (tok Inserted 116 116 (codes ";")) ∷ []); comments = ((note 14 29) ∷ []) }) ∷ []) }

block_in_header_0_typed : is_typed block_in_header_0 ≡ true
block_in_header_0_typed = refl

block_in_header_0_step : first_change block_in_header_0 ≡ Some ((codes "main.go"), LiteralForm, (codes "package main\n\n//go:fix inline\nfunc Two() {\n\tprintln(\"a\")\n\tprintln(\"b\")\n}\n\nfunc main() {\n\tfor func() {\n\t\tprintln(\"a\")\n\t\tprintln(\"b\")\n\t}(); ; {\n\t\tbreak\n\t}\n}\n"))
block_in_header_0_step = refl

abbrev block_in_header_1_f0 : File Span
block_in_header_1_f0 = record { package_name = (nm 8 12 (codes "main")); imports = []; decls = ((fn (at 30 72) None (nm 35 38 (codes "Two")) (sig [] []) (at 41 72) (stmt_and (eval (at 44 56) (call (at 44 56) (ident (at 44 51) (codes "println")) (expr_and (str_lit (at 52 55) (codes "\"a\"")) no_exprs) Plain)) (stmt_and (eval (at 58 70) (call (at 58 70) (ident (at 58 65) (codes "println")) (expr_and (str_lit (at 66 69) (codes "\"b\"")) no_exprs) Plain)) no_stmts))) ∷ (fn (at 74 154) None (nm 79 83 (codes "main")) (sig [] []) (at 86 154) (stmt_and (for_ (at 89 152) (some_stmt (eval (at 93 136) (call (at 93 136) (func_lit (at 93 134) (sig [] []) (at 100 134) (stmt_and (eval (at 104 116) (call (at 104 116) (ident (at 104 111) (codes "println")) (expr_and (str_lit (at 112 115) (codes "\"a\"")) no_exprs) Plain)) (stmt_and (eval (at 119 131) (call (at 119 131) (ident (at 119 126) (codes "println")) (expr_and (str_lit (at 127 130) (codes "\"b\"")) no_exprs) Plain)) no_stmts))) no_exprs Plain))) no_expr no_stmt (at 140 152) (stmt_and (break_ (at 144 149) None) no_stmts)) no_stmts)) ∷ []) }

block_in_header_1_f0_read : read_at span_to read_front (lexemes ((tok Keyword 0 7 (codes "package")) ∷ (tok Ident 8 12 (codes "main")) ∷ (tok Inserted 12 12 (codes ";")) ∷ (tok Keyword 30 34 (codes "func")) ∷ (tok Ident 35 38 (codes "Two")) ∷ (tok Operator 38 39 (codes "(")) ∷ (tok Operator 39 40 (codes ")")) ∷ (tok Operator 41 42 (codes "{")) ∷ (tok Ident 44 51 (codes "println")) ∷ (tok Operator 51 52 (codes "(")) ∷ (tok Str 52 55 (codes "\"a\"")) ∷ (tok Operator 55 56 (codes ")")) ∷ (tok Inserted 56 56 (codes ";")) ∷ (tok Ident 58 65 (codes "println")) ∷ (tok Operator 65 66 (codes "(")) ∷ (tok Str 66 69 (codes "\"b\"")) ∷ (tok Operator 69 70 (codes ")")) ∷ (tok Inserted 70 70 (codes ";")) ∷ (tok Operator 71 72 (codes "}")) ∷ (tok Inserted 72 72 (codes ";")) ∷ (tok Keyword 74 78 (codes "func")) ∷ (tok Ident 79 83 (codes "main")) ∷ (tok Operator 83 84 (codes "(")) ∷ (tok Operator 84 85 (codes ")")) ∷ (tok Operator 86 87 (codes "{")) ∷ (tok Keyword 89 92 (codes "for")) ∷ (tok Keyword 93 97 (codes "func")) ∷ (tok Operator 97 98 (codes "(")) ∷ (tok Operator 98 99 (codes ")")) ∷ (tok Operator 100 101 (codes "{")) ∷ (tok Ident 104 111 (codes "println")) ∷ (tok Operator 111 112 (codes "(")) ∷ (tok Str 112 115 (codes "\"a\"")) ∷ (tok Operator 115 116 (codes ")")) ∷ (tok Inserted 116 116 (codes ";")) ∷ (tok Ident 119 126 (codes "println")) ∷ (tok Operator 126 127 (codes "(")) ∷ (tok Str 127 130 (codes "\"b\"")) ∷ (tok Operator 130 131 (codes ")")) ∷ (tok Inserted 131 131 (codes ";")) ∷ (tok Operator 133 134 (codes "}")) ∷ (tok Operator 134 135 (codes "(")) ∷ (tok Operator 135 136 (codes ")")) ∷ (tok Operator 136 137 (codes ";")) ∷ (tok Operator 138 139 (codes ";")) ∷ (tok Operator 140 141 (codes "{")) ∷ (tok Keyword 144 149 (codes "break")) ∷ (tok Inserted 149 149 (codes ";")) ∷ (tok Operator 151 152 (codes "}")) ∷ (tok Inserted 152 152 (codes ";")) ∷ (tok Operator 153 154 (codes "}")) ∷ (tok Inserted 154 154 (codes ";")) ∷ [])) ≡ Some (block_in_header_1_f0, [])
unfolding reading
block_in_header_1_f0_read = refl

abbrev block_in_header_1 : Module
block_in_header_1 = record { packages = (pack (codes "example.com/m") (codes "main") (source (codes "main.go") block_in_header_1_f0 ∷ []) ∷ []); marks = (mark 0 0 0 0 ∷ []); texts = (((codes "main.go"), record { text = (codes "package main\n\n//go:fix inline\nfunc Two() {\n\tprintln(\"a\")\n\tprintln(\"b\")\n}\n\nfunc main() {\n\tfor func() {\n\t\tprintln(\"a\")\n\t\tprintln(\"b\")\n\t}(); ; {\n\t\tbreak\n\t}\n}\n"); tokens = ((tok Keyword 0 7 (codes "package")) ∷ (tok Ident 8 12 (codes "main")) ∷ (tok Inserted 12 12 (codes ";")) ∷ (tok Keyword 30 34 (codes "func")) ∷ (tok Ident 35 38 (codes "Two")) ∷ (tok Operator 38 39 (codes "(")) ∷ (tok Operator 39 40 (codes ")")) ∷ (tok Operator 41 42 (codes "{")) ∷ (tok Ident 44 51 (codes "println")) ∷ (tok Operator 51 52 (codes "(")) ∷ (tok Str 52 55 (codes "\"a\"")) ∷ (tok Operator 55 56 (codes ")")) ∷ (tok Inserted 56 56 (codes ";")) ∷ (tok Ident 58 65 (codes "println")) ∷ (tok Operator 65 66 (codes "(")) ∷ (tok Str 66 69 (codes "\"b\"")) ∷ (tok Operator 69 70 (codes ")")) ∷ (tok Inserted 70 70 (codes ";")) ∷ (tok Operator 71 72 (codes "}")) ∷ (tok Inserted 72 72 (codes ";")) ∷ (tok Keyword 74 78 (codes "func")) ∷ (tok Ident 79 83 (codes "main")) ∷ (tok Operator 83 84 (codes "(")) ∷ (tok Operator 84 85 (codes ")")) ∷ (tok Operator 86 87 (codes "{")) ∷ (tok Keyword 89 92 (codes "for")) ∷ (tok Keyword 93 97 (codes "func")) ∷ (tok Operator 97 98 (codes "(")) ∷ (tok Operator 98 99 (codes ")")) ∷ (tok Operator 100 101 (codes "{")) ∷ (tok Ident 104 111 (codes "println")) ∷ (tok Operator 111 112 (codes "(")) ∷ (tok Str 112 115 (codes "\"a\"")) ∷ (tok Operator 115 116 (codes ")")) ∷ (tok Inserted 116 116 (codes ";")) ∷ (tok Ident 119 126 (codes "println")) ∷ (tok Operator 126 127 (codes "(")) ∷ (tok Str 127 130 (codes "\"b\"")) ∷ (tok Operator 130 131 (codes ")")) ∷ (tok Inserted 131 131 (codes ";")) ∷ (tok Operator 133 134 (codes "}")) ∷ (tok Operator 134 135 (codes "(")) ∷ (tok Operator 135 136 (codes ")")) ∷ (tok Operator 136 137 (codes ";")) ∷ (tok Operator 138 139 (codes ";")) ∷ (tok Operator 140 141 (codes "{")) ∷ (tok Keyword 144 149 (codes "break")) ∷ (tok Inserted 149 149 (codes ";")) ∷ (tok Operator 151 152 (codes "}")) ∷ (tok Inserted 152 152 (codes ";")) ∷ (tok Operator 153 154 (codes "}")) ∷ (tok Inserted 154 154 (codes ";")) ∷ []); comments = ((note 14 29) ∷ []) }) ∷ []) }

block_in_header_1_typed : is_typed block_in_header_1 ≡ true
block_in_header_1_typed = refl

block_in_header_1_ends : step_of block_in_header_1 ≡ None
block_in_header_1_ends = refl

block_in_header_1_kept : kept_uses block_in_header_1 ≡ []
block_in_header_1_kept = refl

-- Statements in braces.
abbrev block_of_two_0_f0 : File Span
block_of_two_0_f0 = record { package_name = (nm 8 12 (codes "main")); imports = []; decls = ((fn (at 30 72) None (nm 35 38 (codes "Two")) (sig [] []) (at 41 72) (stmt_and (eval (at 44 56) (call (at 44 56) (ident (at 44 51) (codes "println")) (expr_and (str_lit (at 52 55) (codes "\"a\"")) no_exprs) Plain)) (stmt_and (eval (at 58 70) (call (at 58 70) (ident (at 58 65) (codes "println")) (expr_and (str_lit (at 66 69) (codes "\"b\"")) no_exprs) Plain)) no_stmts))) ∷ (fn (at 74 96) None (nm 79 83 (codes "main")) (sig [] []) (at 86 96) (stmt_and (eval (at 89 94) (call (at 89 94) (ident (at 89 92) (codes "Two")) no_exprs Plain)) no_stmts)) ∷ []) }

block_of_two_0_f0_read : read_at span_to read_front (lexemes ((tok Keyword 0 7 (codes "package")) ∷ (tok Ident 8 12 (codes "main")) ∷ (tok Inserted 12 12 (codes ";")) ∷ (tok Keyword 30 34 (codes "func")) ∷ (tok Ident 35 38 (codes "Two")) ∷ (tok Operator 38 39 (codes "(")) ∷ (tok Operator 39 40 (codes ")")) ∷ (tok Operator 41 42 (codes "{")) ∷ (tok Ident 44 51 (codes "println")) ∷ (tok Operator 51 52 (codes "(")) ∷ (tok Str 52 55 (codes "\"a\"")) ∷ (tok Operator 55 56 (codes ")")) ∷ (tok Inserted 56 56 (codes ";")) ∷ (tok Ident 58 65 (codes "println")) ∷ (tok Operator 65 66 (codes "(")) ∷ (tok Str 66 69 (codes "\"b\"")) ∷ (tok Operator 69 70 (codes ")")) ∷ (tok Inserted 70 70 (codes ";")) ∷ (tok Operator 71 72 (codes "}")) ∷ (tok Inserted 72 72 (codes ";")) ∷ (tok Keyword 74 78 (codes "func")) ∷ (tok Ident 79 83 (codes "main")) ∷ (tok Operator 83 84 (codes "(")) ∷ (tok Operator 84 85 (codes ")")) ∷ (tok Operator 86 87 (codes "{")) ∷ (tok Ident 89 92 (codes "Two")) ∷ (tok Operator 92 93 (codes "(")) ∷ (tok Operator 93 94 (codes ")")) ∷ (tok Inserted 94 94 (codes ";")) ∷ (tok Operator 95 96 (codes "}")) ∷ (tok Inserted 96 96 (codes ";")) ∷ [])) ≡ Some (block_of_two_0_f0, [])
unfolding reading
block_of_two_0_f0_read = refl

abbrev block_of_two_0 : Module
block_of_two_0 = record { packages = (pack (codes "example.com/m") (codes "main") (source (codes "main.go") block_of_two_0_f0 ∷ []) ∷ []); marks = (mark 0 0 0 0 ∷ []); texts = (((codes "main.go"), record { text = (codes "package main\n\n//go:fix inline\nfunc Two() {\n\tprintln(\"a\")\n\tprintln(\"b\")\n}\n\nfunc main() {\n\tTwo()\n}\n"); tokens = ((tok Keyword 0 7 (codes "package")) ∷ (tok Ident 8 12 (codes "main")) ∷ (tok Inserted 12 12 (codes ";")) ∷ (tok Keyword 30 34 (codes "func")) ∷ (tok Ident 35 38 (codes "Two")) ∷ (tok Operator 38 39 (codes "(")) ∷ (tok Operator 39 40 (codes ")")) ∷ (tok Operator 41 42 (codes "{")) ∷ (tok Ident 44 51 (codes "println")) ∷ (tok Operator 51 52 (codes "(")) ∷ (tok Str 52 55 (codes "\"a\"")) ∷ (tok Operator 55 56 (codes ")")) ∷ (tok Inserted 56 56 (codes ";")) ∷ (tok Ident 58 65 (codes "println")) ∷ (tok Operator 65 66 (codes "(")) ∷ (tok Str 66 69 (codes "\"b\"")) ∷ (tok Operator 69 70 (codes ")")) ∷ (tok Inserted 70 70 (codes ";")) ∷ (tok Operator 71 72 (codes "}")) ∷ (tok Inserted 72 72 (codes ";")) ∷ (tok Keyword 74 78 (codes "func")) ∷ (tok Ident 79 83 (codes "main")) ∷ (tok Operator 83 84 (codes "(")) ∷ (tok Operator 84 85 (codes ")")) ∷ (tok Operator 86 87 (codes "{")) ∷ (tok Ident 89 92 (codes "Two")) ∷ (tok Operator 92 93 (codes "(")) ∷ (tok Operator 93 94 (codes ")")) ∷ (tok Inserted 94 94 (codes ";")) ∷ (tok Operator 95 96 (codes "}")) ∷ (tok Inserted 96 96 (codes ";")) ∷ []); comments = ((note 14 29) ∷ []) }) ∷ []) }

block_of_two_0_typed : is_typed block_of_two_0 ≡ true
block_of_two_0_typed = refl

block_of_two_0_step : first_change block_of_two_0 ≡ Some ((codes "main.go"), BlockForm, (codes "package main\n\n//go:fix inline\nfunc Two() {\n\tprintln(\"a\")\n\tprintln(\"b\")\n}\n\nfunc main() {\n\t{\n\t\tprintln(\"a\")\n\t\tprintln(\"b\")\n\t}\n}\n"))
block_of_two_0_step = refl

abbrev block_of_two_1_f0 : File Span
block_of_two_1_f0 = record { package_name = (nm 8 12 (codes "main")); imports = []; decls = ((fn (at 30 72) None (nm 35 38 (codes "Two")) (sig [] []) (at 41 72) (stmt_and (eval (at 44 56) (call (at 44 56) (ident (at 44 51) (codes "println")) (expr_and (str_lit (at 52 55) (codes "\"a\"")) no_exprs) Plain)) (stmt_and (eval (at 58 70) (call (at 58 70) (ident (at 58 65) (codes "println")) (expr_and (str_lit (at 66 69) (codes "\"b\"")) no_exprs) Plain)) no_stmts))) ∷ (fn (at 74 125) None (nm 79 83 (codes "main")) (sig [] []) (at 86 125) (stmt_and (inner (at 89 123) (stmt_and (eval (at 93 105) (call (at 93 105) (ident (at 93 100) (codes "println")) (expr_and (str_lit (at 101 104) (codes "\"a\"")) no_exprs) Plain)) (stmt_and (eval (at 108 120) (call (at 108 120) (ident (at 108 115) (codes "println")) (expr_and (str_lit (at 116 119) (codes "\"b\"")) no_exprs) Plain)) no_stmts))) no_stmts)) ∷ []) }

block_of_two_1_f0_read : read_at span_to read_front (lexemes ((tok Keyword 0 7 (codes "package")) ∷ (tok Ident 8 12 (codes "main")) ∷ (tok Inserted 12 12 (codes ";")) ∷ (tok Keyword 30 34 (codes "func")) ∷ (tok Ident 35 38 (codes "Two")) ∷ (tok Operator 38 39 (codes "(")) ∷ (tok Operator 39 40 (codes ")")) ∷ (tok Operator 41 42 (codes "{")) ∷ (tok Ident 44 51 (codes "println")) ∷ (tok Operator 51 52 (codes "(")) ∷ (tok Str 52 55 (codes "\"a\"")) ∷ (tok Operator 55 56 (codes ")")) ∷ (tok Inserted 56 56 (codes ";")) ∷ (tok Ident 58 65 (codes "println")) ∷ (tok Operator 65 66 (codes "(")) ∷ (tok Str 66 69 (codes "\"b\"")) ∷ (tok Operator 69 70 (codes ")")) ∷ (tok Inserted 70 70 (codes ";")) ∷ (tok Operator 71 72 (codes "}")) ∷ (tok Inserted 72 72 (codes ";")) ∷ (tok Keyword 74 78 (codes "func")) ∷ (tok Ident 79 83 (codes "main")) ∷ (tok Operator 83 84 (codes "(")) ∷ (tok Operator 84 85 (codes ")")) ∷ (tok Operator 86 87 (codes "{")) ∷ (tok Operator 89 90 (codes "{")) ∷ (tok Ident 93 100 (codes "println")) ∷ (tok Operator 100 101 (codes "(")) ∷ (tok Str 101 104 (codes "\"a\"")) ∷ (tok Operator 104 105 (codes ")")) ∷ (tok Inserted 105 105 (codes ";")) ∷ (tok Ident 108 115 (codes "println")) ∷ (tok Operator 115 116 (codes "(")) ∷ (tok Str 116 119 (codes "\"b\"")) ∷ (tok Operator 119 120 (codes ")")) ∷ (tok Inserted 120 120 (codes ";")) ∷ (tok Operator 122 123 (codes "}")) ∷ (tok Inserted 123 123 (codes ";")) ∷ (tok Operator 124 125 (codes "}")) ∷ (tok Inserted 125 125 (codes ";")) ∷ [])) ≡ Some (block_of_two_1_f0, [])
unfolding reading
block_of_two_1_f0_read = refl

abbrev block_of_two_1 : Module
block_of_two_1 = record { packages = (pack (codes "example.com/m") (codes "main") (source (codes "main.go") block_of_two_1_f0 ∷ []) ∷ []); marks = (mark 0 0 0 0 ∷ []); texts = (((codes "main.go"), record { text = (codes "package main\n\n//go:fix inline\nfunc Two() {\n\tprintln(\"a\")\n\tprintln(\"b\")\n}\n\nfunc main() {\n\t{\n\t\tprintln(\"a\")\n\t\tprintln(\"b\")\n\t}\n}\n"); tokens = ((tok Keyword 0 7 (codes "package")) ∷ (tok Ident 8 12 (codes "main")) ∷ (tok Inserted 12 12 (codes ";")) ∷ (tok Keyword 30 34 (codes "func")) ∷ (tok Ident 35 38 (codes "Two")) ∷ (tok Operator 38 39 (codes "(")) ∷ (tok Operator 39 40 (codes ")")) ∷ (tok Operator 41 42 (codes "{")) ∷ (tok Ident 44 51 (codes "println")) ∷ (tok Operator 51 52 (codes "(")) ∷ (tok Str 52 55 (codes "\"a\"")) ∷ (tok Operator 55 56 (codes ")")) ∷ (tok Inserted 56 56 (codes ";")) ∷ (tok Ident 58 65 (codes "println")) ∷ (tok Operator 65 66 (codes "(")) ∷ (tok Str 66 69 (codes "\"b\"")) ∷ (tok Operator 69 70 (codes ")")) ∷ (tok Inserted 70 70 (codes ";")) ∷ (tok Operator 71 72 (codes "}")) ∷ (tok Inserted 72 72 (codes ";")) ∷ (tok Keyword 74 78 (codes "func")) ∷ (tok Ident 79 83 (codes "main")) ∷ (tok Operator 83 84 (codes "(")) ∷ (tok Operator 84 85 (codes ")")) ∷ (tok Operator 86 87 (codes "{")) ∷ (tok Operator 89 90 (codes "{")) ∷ (tok Ident 93 100 (codes "println")) ∷ (tok Operator 100 101 (codes "(")) ∷ (tok Str 101 104 (codes "\"a\"")) ∷ (tok Operator 104 105 (codes ")")) ∷ (tok Inserted 105 105 (codes ";")) ∷ (tok Ident 108 115 (codes "println")) ∷ (tok Operator 115 116 (codes "(")) ∷ (tok Str 116 119 (codes "\"b\"")) ∷ (tok Operator 119 120 (codes ")")) ∷ (tok Inserted 120 120 (codes ";")) ∷ (tok Operator 122 123 (codes "}")) ∷ (tok Inserted 123 123 (codes ";")) ∷ (tok Operator 124 125 (codes "}")) ∷ (tok Inserted 125 125 (codes ";")) ∷ []); comments = ((note 14 29) ∷ []) }) ∷ []) }

block_of_two_1_typed : is_typed block_of_two_1 ≡ true
block_of_two_1_typed = refl

block_of_two_1_ends : step_of block_of_two_1 ≡ None
block_of_two_1_ends = refl

block_of_two_1_kept : kept_uses block_of_two_1 ≡ []
block_of_two_1_kept = refl

-- One call with several results.
abbrev spread_literal_0_f0 : File Span
spread_literal_0_f0 = record { package_name = (nm 8 12 (codes "main")); imports = []; decls = ((fn (at 30 69) None (nm 35 38 (codes "Add")) (sig ((param (at 39 47) (Some (nm 39 40 (codes "a"))) (named (at 44 47) None (nm 44 47 (codes "int")))) ∷ (param (at 42 47) (Some (nm 42 43 (codes "b"))) (named (at 44 47) None (nm 44 47 (codes "int")))) ∷ []) ((param (at 49 52) None (named (at 49 52) None (nm 49 52 (codes "int")))) ∷ [])) (at 53 69) (stmt_and (return_ (at 55 67) (expr_and (binary (at 62 67) Add (ident (at 62 63) (codes "a")) (ident (at 66 67) (codes "b"))) no_exprs)) no_stmts)) ∷ (fn (at 71 108) None (nm 76 79 (codes "two")) (sig [] ((param (at 83 86) None (named (at 83 86) None (nm 83 86 (codes "int")))) ∷ (param (at 88 91) None (named (at 88 91) None (nm 88 91 (codes "int")))) ∷ [])) (at 93 108) (stmt_and (return_ (at 95 106) (expr_and (int_lit (at 102 103) (codes "1")) (expr_and (int_lit (at 105 106) (codes "2")) no_exprs))) no_stmts)) ∷ (fn (at 110 146) None (nm 115 119 (codes "main")) (sig [] []) (at 122 146) (stmt_and (eval (at 125 144) (call (at 125 144) (ident (at 125 132) (codes "println")) (expr_and (call (at 133 143) (ident (at 133 136) (codes "Add")) (expr_and (call (at 137 142) (ident (at 137 140) (codes "two")) no_exprs Plain) no_exprs) Plain) no_exprs) Plain)) no_stmts)) ∷ []) }

spread_literal_0_f0_read : read_at span_to read_front (lexemes ((tok Keyword 0 7 (codes "package")) ∷ (tok Ident 8 12 (codes "main")) ∷ (tok Inserted 12 12 (codes ";")) ∷ (tok Keyword 30 34 (codes "func")) ∷ (tok Ident 35 38 (codes "Add")) ∷ (tok Operator 38 39 (codes "(")) ∷ (tok Ident 39 40 (codes "a")) ∷ (tok Operator 40 41 (codes ",")) ∷ (tok Ident 42 43 (codes "b")) ∷ (tok Ident 44 47 (codes "int")) ∷ (tok Operator 47 48 (codes ")")) ∷ (tok Ident 49 52 (codes "int")) ∷ (tok Operator 53 54 (codes "{")) ∷ (tok Keyword 55 61 (codes "return")) ∷ (tok Ident 62 63 (codes "a")) ∷ (tok Operator 64 65 (codes "+")) ∷ (tok Ident 66 67 (codes "b")) ∷ (tok Operator 68 69 (codes "}")) ∷ (tok Inserted 69 69 (codes ";")) ∷ (tok Keyword 71 75 (codes "func")) ∷ (tok Ident 76 79 (codes "two")) ∷ (tok Operator 79 80 (codes "(")) ∷ (tok Operator 80 81 (codes ")")) ∷ (tok Operator 82 83 (codes "(")) ∷ (tok Ident 83 86 (codes "int")) ∷ (tok Operator 86 87 (codes ",")) ∷ (tok Ident 88 91 (codes "int")) ∷ (tok Operator 91 92 (codes ")")) ∷ (tok Operator 93 94 (codes "{")) ∷ (tok Keyword 95 101 (codes "return")) ∷ (tok Integer 102 103 (codes "1")) ∷ (tok Operator 103 104 (codes ",")) ∷ (tok Integer 105 106 (codes "2")) ∷ (tok Operator 107 108 (codes "}")) ∷ (tok Inserted 108 108 (codes ";")) ∷ (tok Keyword 110 114 (codes "func")) ∷ (tok Ident 115 119 (codes "main")) ∷ (tok Operator 119 120 (codes "(")) ∷ (tok Operator 120 121 (codes ")")) ∷ (tok Operator 122 123 (codes "{")) ∷ (tok Ident 125 132 (codes "println")) ∷ (tok Operator 132 133 (codes "(")) ∷ (tok Ident 133 136 (codes "Add")) ∷ (tok Operator 136 137 (codes "(")) ∷ (tok Ident 137 140 (codes "two")) ∷ (tok Operator 140 141 (codes "(")) ∷ (tok Operator 141 142 (codes ")")) ∷ (tok Operator 142 143 (codes ")")) ∷ (tok Operator 143 144 (codes ")")) ∷ (tok Inserted 144 144 (codes ";")) ∷ (tok Operator 145 146 (codes "}")) ∷ (tok Inserted 146 146 (codes ";")) ∷ [])) ≡ Some (spread_literal_0_f0, [])
unfolding reading
spread_literal_0_f0_read = refl

abbrev spread_literal_0 : Module
spread_literal_0 = record { packages = (pack (codes "example.com/m") (codes "main") (source (codes "main.go") spread_literal_0_f0 ∷ []) ∷ []); marks = (mark 0 0 0 0 ∷ []); texts = (((codes "main.go"), record { text = (codes "package main\n\n//go:fix inline\nfunc Add(a, b int) int { return a + b }\n\nfunc two() (int, int) { return 1, 2 }\n\nfunc main() {\n\tprintln(Add(two()))\n}\n"); tokens = ((tok Keyword 0 7 (codes "package")) ∷ (tok Ident 8 12 (codes "main")) ∷ (tok Inserted 12 12 (codes ";")) ∷ (tok Keyword 30 34 (codes "func")) ∷ (tok Ident 35 38 (codes "Add")) ∷ (tok Operator 38 39 (codes "(")) ∷ (tok Ident 39 40 (codes "a")) ∷ (tok Operator 40 41 (codes ",")) ∷ (tok Ident 42 43 (codes "b")) ∷ (tok Ident 44 47 (codes "int")) ∷ (tok Operator 47 48 (codes ")")) ∷ (tok Ident 49 52 (codes "int")) ∷ (tok Operator 53 54 (codes "{")) ∷ (tok Keyword 55 61 (codes "return")) ∷ (tok Ident 62 63 (codes "a")) ∷ (tok Operator 64 65 (codes "+")) ∷ (tok Ident 66 67 (codes "b")) ∷ (tok Operator 68 69 (codes "}")) ∷ (tok Inserted 69 69 (codes ";")) ∷ (tok Keyword 71 75 (codes "func")) ∷ (tok Ident 76 79 (codes "two")) ∷ (tok Operator 79 80 (codes "(")) ∷ (tok Operator 80 81 (codes ")")) ∷ (tok Operator 82 83 (codes "(")) ∷ (tok Ident 83 86 (codes "int")) ∷ (tok Operator 86 87 (codes ",")) ∷ (tok Ident 88 91 (codes "int")) ∷ (tok Operator 91 92 (codes ")")) ∷ (tok Operator 93 94 (codes "{")) ∷ (tok Keyword 95 101 (codes "return")) ∷ (tok Integer 102 103 (codes "1")) ∷ (tok Operator 103 104 (codes ",")) ∷ (tok Integer 105 106 (codes "2")) ∷ (tok Operator 107 108 (codes "}")) ∷ (tok Inserted 108 108 (codes ";")) ∷ (tok Keyword 110 114 (codes "func")) ∷ (tok Ident 115 119 (codes "main")) ∷ (tok Operator 119 120 (codes "(")) ∷ (tok Operator 120 121 (codes ")")) ∷ (tok Operator 122 123 (codes "{")) ∷ (tok Ident 125 132 (codes "println")) ∷ (tok Operator 132 133 (codes "(")) ∷ (tok Ident 133 136 (codes "Add")) ∷ (tok Operator 136 137 (codes "(")) ∷ (tok Ident 137 140 (codes "two")) ∷ (tok Operator 140 141 (codes "(")) ∷ (tok Operator 141 142 (codes ")")) ∷ (tok Operator 142 143 (codes ")")) ∷ (tok Operator 143 144 (codes ")")) ∷ (tok Inserted 144 144 (codes ";")) ∷ (tok Operator 145 146 (codes "}")) ∷ (tok Inserted 146 146 (codes ";")) ∷ []); comments = ((note 14 29) ∷ []) }) ∷ []) }

spread_literal_0_typed : is_typed spread_literal_0 ≡ true
spread_literal_0_typed = refl

spread_literal_0_step : first_change spread_literal_0 ≡ Some ((codes "main.go"), LiteralForm, (codes "package main\n\n//go:fix inline\nfunc Add(a, b int) int { return a + b }\n\nfunc two() (int, int) { return 1, 2 }\n\nfunc main() {\n\tprintln(func(a int, b int) int {\n\t\treturn a + b\n\t}(two()))\n}\n"))
spread_literal_0_step = refl

abbrev spread_literal_1_f0 : File Span
spread_literal_1_f0 = record { package_name = (nm 8 12 (codes "main")); imports = []; decls = ((fn (at 30 69) None (nm 35 38 (codes "Add")) (sig ((param (at 39 47) (Some (nm 39 40 (codes "a"))) (named (at 44 47) None (nm 44 47 (codes "int")))) ∷ (param (at 42 47) (Some (nm 42 43 (codes "b"))) (named (at 44 47) None (nm 44 47 (codes "int")))) ∷ []) ((param (at 49 52) None (named (at 49 52) None (nm 49 52 (codes "int")))) ∷ [])) (at 53 69) (stmt_and (return_ (at 55 67) (expr_and (binary (at 62 67) Add (ident (at 62 63) (codes "a")) (ident (at 66 67) (codes "b"))) no_exprs)) no_stmts)) ∷ (fn (at 71 108) None (nm 76 79 (codes "two")) (sig [] ((param (at 83 86) None (named (at 83 86) None (nm 83 86 (codes "int")))) ∷ (param (at 88 91) None (named (at 88 91) None (nm 88 91 (codes "int")))) ∷ [])) (at 93 108) (stmt_and (return_ (at 95 106) (expr_and (int_lit (at 102 103) (codes "1")) (expr_and (int_lit (at 105 106) (codes "2")) no_exprs))) no_stmts)) ∷ (fn (at 110 185) None (nm 115 119 (codes "main")) (sig [] []) (at 122 185) (stmt_and (eval (at 125 183) (call (at 125 183) (ident (at 125 132) (codes "println")) (expr_and (call (at 133 182) (func_lit (at 133 175) (sig ((param (at 138 143) (Some (nm 138 139 (codes "a"))) (named (at 140 143) None (nm 140 143 (codes "int")))) ∷ (param (at 145 150) (Some (nm 145 146 (codes "b"))) (named (at 147 150) None (nm 147 150 (codes "int")))) ∷ []) ((param (at 152 155) None (named (at 152 155) None (nm 152 155 (codes "int")))) ∷ [])) (at 156 175) (stmt_and (return_ (at 160 172) (expr_and (binary (at 167 172) Add (ident (at 167 168) (codes "a")) (ident (at 171 172) (codes "b"))) no_exprs)) no_stmts)) (expr_and (call (at 176 181) (ident (at 176 179) (codes "two")) no_exprs Plain) no_exprs) Plain) no_exprs) Plain)) no_stmts)) ∷ []) }

spread_literal_1_f0_read : read_at span_to read_front (lexemes ((tok Keyword 0 7 (codes "package")) ∷ (tok Ident 8 12 (codes "main")) ∷ (tok Inserted 12 12 (codes ";")) ∷ (tok Keyword 30 34 (codes "func")) ∷ (tok Ident 35 38 (codes "Add")) ∷ (tok Operator 38 39 (codes "(")) ∷ (tok Ident 39 40 (codes "a")) ∷ (tok Operator 40 41 (codes ",")) ∷ (tok Ident 42 43 (codes "b")) ∷ (tok Ident 44 47 (codes "int")) ∷ (tok Operator 47 48 (codes ")")) ∷ (tok Ident 49 52 (codes "int")) ∷ (tok Operator 53 54 (codes "{")) ∷ (tok Keyword 55 61 (codes "return")) ∷ (tok Ident 62 63 (codes "a")) ∷ (tok Operator 64 65 (codes "+")) ∷ (tok Ident 66 67 (codes "b")) ∷ (tok Operator 68 69 (codes "}")) ∷ (tok Inserted 69 69 (codes ";")) ∷ (tok Keyword 71 75 (codes "func")) ∷ (tok Ident 76 79 (codes "two")) ∷ (tok Operator 79 80 (codes "(")) ∷ (tok Operator 80 81 (codes ")")) ∷ (tok Operator 82 83 (codes "(")) ∷ (tok Ident 83 86 (codes "int")) ∷ (tok Operator 86 87 (codes ",")) ∷ (tok Ident 88 91 (codes "int")) ∷ (tok Operator 91 92 (codes ")")) ∷ (tok Operator 93 94 (codes "{")) ∷ (tok Keyword 95 101 (codes "return")) ∷ (tok Integer 102 103 (codes "1")) ∷ (tok Operator 103 104 (codes ",")) ∷ (tok Integer 105 106 (codes "2")) ∷ (tok Operator 107 108 (codes "}")) ∷ (tok Inserted 108 108 (codes ";")) ∷ (tok Keyword 110 114 (codes "func")) ∷ (tok Ident 115 119 (codes "main")) ∷ (tok Operator 119 120 (codes "(")) ∷ (tok Operator 120 121 (codes ")")) ∷ (tok Operator 122 123 (codes "{")) ∷ (tok Ident 125 132 (codes "println")) ∷ (tok Operator 132 133 (codes "(")) ∷ (tok Keyword 133 137 (codes "func")) ∷ (tok Operator 137 138 (codes "(")) ∷ (tok Ident 138 139 (codes "a")) ∷ (tok Ident 140 143 (codes "int")) ∷ (tok Operator 143 144 (codes ",")) ∷ (tok Ident 145 146 (codes "b")) ∷ (tok Ident 147 150 (codes "int")) ∷ (tok Operator 150 151 (codes ")")) ∷ (tok Ident 152 155 (codes "int")) ∷ (tok Operator 156 157 (codes "{")) ∷ (tok Keyword 160 166 (codes "return")) ∷ (tok Ident 167 168 (codes "a")) ∷ (tok Operator 169 170 (codes "+")) ∷ (tok Ident 171 172 (codes "b")) ∷ (tok Inserted 172 172 (codes ";")) ∷ (tok Operator 174 175 (codes "}")) ∷ (tok Operator 175 176 (codes "(")) ∷ (tok Ident 176 179 (codes "two")) ∷ (tok Operator 179 180 (codes "(")) ∷ (tok Operator 180 181 (codes ")")) ∷ (tok Operator 181 182 (codes ")")) ∷ (tok Operator 182 183 (codes ")")) ∷ (tok Inserted 183 183 (codes ";")) ∷ (tok Operator 184 185 (codes "}")) ∷ (tok Inserted 185 185 (codes ";")) ∷ [])) ≡ Some (spread_literal_1_f0, [])
unfolding reading
spread_literal_1_f0_read = refl

abbrev spread_literal_1 : Module
spread_literal_1 = record { packages = (pack (codes "example.com/m") (codes "main") (source (codes "main.go") spread_literal_1_f0 ∷ []) ∷ []); marks = (mark 0 0 0 0 ∷ []); texts = (((codes "main.go"), record { text = (codes "package main\n\n//go:fix inline\nfunc Add(a, b int) int { return a + b }\n\nfunc two() (int, int) { return 1, 2 }\n\nfunc main() {\n\tprintln(func(a int, b int) int {\n\t\treturn a + b\n\t}(two()))\n}\n"); tokens = ((tok Keyword 0 7 (codes "package")) ∷ (tok Ident 8 12 (codes "main")) ∷ (tok Inserted 12 12 (codes ";")) ∷ (tok Keyword 30 34 (codes "func")) ∷ (tok Ident 35 38 (codes "Add")) ∷ (tok Operator 38 39 (codes "(")) ∷ (tok Ident 39 40 (codes "a")) ∷ (tok Operator 40 41 (codes ",")) ∷ (tok Ident 42 43 (codes "b")) ∷ (tok Ident 44 47 (codes "int")) ∷ (tok Operator 47 48 (codes ")")) ∷ (tok Ident 49 52 (codes "int")) ∷ (tok Operator 53 54 (codes "{")) ∷ (tok Keyword 55 61 (codes "return")) ∷ (tok Ident 62 63 (codes "a")) ∷ (tok Operator 64 65 (codes "+")) ∷ (tok Ident 66 67 (codes "b")) ∷ (tok Operator 68 69 (codes "}")) ∷ (tok Inserted 69 69 (codes ";")) ∷ (tok Keyword 71 75 (codes "func")) ∷ (tok Ident 76 79 (codes "two")) ∷ (tok Operator 79 80 (codes "(")) ∷ (tok Operator 80 81 (codes ")")) ∷ (tok Operator 82 83 (codes "(")) ∷ (tok Ident 83 86 (codes "int")) ∷ (tok Operator 86 87 (codes ",")) ∷ (tok Ident 88 91 (codes "int")) ∷ (tok Operator 91 92 (codes ")")) ∷ (tok Operator 93 94 (codes "{")) ∷ (tok Keyword 95 101 (codes "return")) ∷ (tok Integer 102 103 (codes "1")) ∷ (tok Operator 103 104 (codes ",")) ∷ (tok Integer 105 106 (codes "2")) ∷ (tok Operator 107 108 (codes "}")) ∷ (tok Inserted 108 108 (codes ";")) ∷ (tok Keyword 110 114 (codes "func")) ∷ (tok Ident 115 119 (codes "main")) ∷ (tok Operator 119 120 (codes "(")) ∷ (tok Operator 120 121 (codes ")")) ∷ (tok Operator 122 123 (codes "{")) ∷ (tok Ident 125 132 (codes "println")) ∷ (tok Operator 132 133 (codes "(")) ∷ (tok Keyword 133 137 (codes "func")) ∷ (tok Operator 137 138 (codes "(")) ∷ (tok Ident 138 139 (codes "a")) ∷ (tok Ident 140 143 (codes "int")) ∷ (tok Operator 143 144 (codes ",")) ∷ (tok Ident 145 146 (codes "b")) ∷ (tok Ident 147 150 (codes "int")) ∷ (tok Operator 150 151 (codes ")")) ∷ (tok Ident 152 155 (codes "int")) ∷ (tok Operator 156 157 (codes "{")) ∷ (tok Keyword 160 166 (codes "return")) ∷ (tok Ident 167 168 (codes "a")) ∷ (tok Operator 169 170 (codes "+")) ∷ (tok Ident 171 172 (codes "b")) ∷ (tok Inserted 172 172 (codes ";")) ∷ (tok Operator 174 175 (codes "}")) ∷ (tok Operator 175 176 (codes "(")) ∷ (tok Ident 176 179 (codes "two")) ∷ (tok Operator 179 180 (codes "(")) ∷ (tok Operator 180 181 (codes ")")) ∷ (tok Operator 181 182 (codes ")")) ∷ (tok Operator 182 183 (codes ")")) ∷ (tok Inserted 183 183 (codes ";")) ∷ (tok Operator 184 185 (codes "}")) ∷ (tok Inserted 185 185 (codes ";")) ∷ []); comments = ((note 14 29) ∷ []) }) ∷ []) }

spread_literal_1_typed : is_typed spread_literal_1 ≡ true
spread_literal_1_typed = refl

spread_literal_1_ends : step_of spread_literal_1 ≡ None
spread_literal_1_ends = refl

spread_literal_1_kept : kept_uses spread_literal_1 ≡ []
spread_literal_1_kept = refl

-- A call with several results.
abbrev several_returned_0_f0 : File Span
several_returned_0_f0 = record { package_name = (nm 8 12 (codes "main")); imports = []; decls = ((fn (at 14 51) None (nm 19 22 (codes "two")) (sig [] ((param (at 26 29) None (named (at 26 29) None (nm 26 29 (codes "int")))) ∷ (param (at 31 34) None (named (at 31 34) None (nm 31 34 (codes "int")))) ∷ [])) (at 36 51) (stmt_and (return_ (at 38 49) (expr_and (int_lit (at 45 46) (codes "1")) (expr_and (int_lit (at 48 49) (codes "2")) no_exprs))) no_stmts)) ∷ (fn (at 69 108) None (nm 74 78 (codes "Pair")) (sig [] ((param (at 82 85) None (named (at 82 85) None (nm 82 85 (codes "int")))) ∷ (param (at 87 90) None (named (at 87 90) None (nm 87 90 (codes "int")))) ∷ [])) (at 92 108) (stmt_and (return_ (at 94 106) (expr_and (call (at 101 106) (ident (at 101 104) (codes "two")) no_exprs Plain) no_exprs)) no_stmts)) ∷ (fn (at 110 156) None (nm 115 119 (codes "main")) (sig [] []) (at 122 156) (stmt_and (define (at 125 139) ((nm 125 126 (codes "a")) ∷ (nm 128 129 (codes "b")) ∷ []) (expr_and (call (at 133 139) (ident (at 133 137) (codes "Pair")) no_exprs Plain) no_exprs)) (stmt_and (eval (at 141 154) (call (at 141 154) (ident (at 141 148) (codes "println")) (expr_and (ident (at 149 150) (codes "a")) (expr_and (ident (at 152 153) (codes "b")) no_exprs)) Plain)) no_stmts))) ∷ []) }

several_returned_0_f0_read : read_at span_to read_front (lexemes ((tok Keyword 0 7 (codes "package")) ∷ (tok Ident 8 12 (codes "main")) ∷ (tok Inserted 12 12 (codes ";")) ∷ (tok Keyword 14 18 (codes "func")) ∷ (tok Ident 19 22 (codes "two")) ∷ (tok Operator 22 23 (codes "(")) ∷ (tok Operator 23 24 (codes ")")) ∷ (tok Operator 25 26 (codes "(")) ∷ (tok Ident 26 29 (codes "int")) ∷ (tok Operator 29 30 (codes ",")) ∷ (tok Ident 31 34 (codes "int")) ∷ (tok Operator 34 35 (codes ")")) ∷ (tok Operator 36 37 (codes "{")) ∷ (tok Keyword 38 44 (codes "return")) ∷ (tok Integer 45 46 (codes "1")) ∷ (tok Operator 46 47 (codes ",")) ∷ (tok Integer 48 49 (codes "2")) ∷ (tok Operator 50 51 (codes "}")) ∷ (tok Inserted 51 51 (codes ";")) ∷ (tok Keyword 69 73 (codes "func")) ∷ (tok Ident 74 78 (codes "Pair")) ∷ (tok Operator 78 79 (codes "(")) ∷ (tok Operator 79 80 (codes ")")) ∷ (tok Operator 81 82 (codes "(")) ∷ (tok Ident 82 85 (codes "int")) ∷ (tok Operator 85 86 (codes ",")) ∷ (tok Ident 87 90 (codes "int")) ∷ (tok Operator 90 91 (codes ")")) ∷ (tok Operator 92 93 (codes "{")) ∷ (tok Keyword 94 100 (codes "return")) ∷ (tok Ident 101 104 (codes "two")) ∷ (tok Operator 104 105 (codes "(")) ∷ (tok Operator 105 106 (codes ")")) ∷ (tok Operator 107 108 (codes "}")) ∷ (tok Inserted 108 108 (codes ";")) ∷ (tok Keyword 110 114 (codes "func")) ∷ (tok Ident 115 119 (codes "main")) ∷ (tok Operator 119 120 (codes "(")) ∷ (tok Operator 120 121 (codes ")")) ∷ (tok Operator 122 123 (codes "{")) ∷ (tok Ident 125 126 (codes "a")) ∷ (tok Operator 126 127 (codes ",")) ∷ (tok Ident 128 129 (codes "b")) ∷ (tok Operator 130 132 (codes ":=")) ∷ (tok Ident 133 137 (codes "Pair")) ∷ (tok Operator 137 138 (codes "(")) ∷ (tok Operator 138 139 (codes ")")) ∷ (tok Inserted 139 139 (codes ";")) ∷ (tok Ident 141 148 (codes "println")) ∷ (tok Operator 148 149 (codes "(")) ∷ (tok Ident 149 150 (codes "a")) ∷ (tok Operator 150 151 (codes ",")) ∷ (tok Ident 152 153 (codes "b")) ∷ (tok Operator 153 154 (codes ")")) ∷ (tok Inserted 154 154 (codes ";")) ∷ (tok Operator 155 156 (codes "}")) ∷ (tok Inserted 156 156 (codes ";")) ∷ [])) ≡ Some (several_returned_0_f0, [])
unfolding reading
several_returned_0_f0_read = refl

abbrev several_returned_0 : Module
several_returned_0 = record { packages = (pack (codes "example.com/m") (codes "main") (source (codes "main.go") several_returned_0_f0 ∷ []) ∷ []); marks = (mark 0 0 1 0 ∷ []); texts = (((codes "main.go"), record { text = (codes "package main\n\nfunc two() (int, int) { return 1, 2 }\n\n//go:fix inline\nfunc Pair() (int, int) { return two() }\n\nfunc main() {\n\ta, b := Pair()\n\tprintln(a, b)\n}\n"); tokens = ((tok Keyword 0 7 (codes "package")) ∷ (tok Ident 8 12 (codes "main")) ∷ (tok Inserted 12 12 (codes ";")) ∷ (tok Keyword 14 18 (codes "func")) ∷ (tok Ident 19 22 (codes "two")) ∷ (tok Operator 22 23 (codes "(")) ∷ (tok Operator 23 24 (codes ")")) ∷ (tok Operator 25 26 (codes "(")) ∷ (tok Ident 26 29 (codes "int")) ∷ (tok Operator 29 30 (codes ",")) ∷ (tok Ident 31 34 (codes "int")) ∷ (tok Operator 34 35 (codes ")")) ∷ (tok Operator 36 37 (codes "{")) ∷ (tok Keyword 38 44 (codes "return")) ∷ (tok Integer 45 46 (codes "1")) ∷ (tok Operator 46 47 (codes ",")) ∷ (tok Integer 48 49 (codes "2")) ∷ (tok Operator 50 51 (codes "}")) ∷ (tok Inserted 51 51 (codes ";")) ∷ (tok Keyword 69 73 (codes "func")) ∷ (tok Ident 74 78 (codes "Pair")) ∷ (tok Operator 78 79 (codes "(")) ∷ (tok Operator 79 80 (codes ")")) ∷ (tok Operator 81 82 (codes "(")) ∷ (tok Ident 82 85 (codes "int")) ∷ (tok Operator 85 86 (codes ",")) ∷ (tok Ident 87 90 (codes "int")) ∷ (tok Operator 90 91 (codes ")")) ∷ (tok Operator 92 93 (codes "{")) ∷ (tok Keyword 94 100 (codes "return")) ∷ (tok Ident 101 104 (codes "two")) ∷ (tok Operator 104 105 (codes "(")) ∷ (tok Operator 105 106 (codes ")")) ∷ (tok Operator 107 108 (codes "}")) ∷ (tok Inserted 108 108 (codes ";")) ∷ (tok Keyword 110 114 (codes "func")) ∷ (tok Ident 115 119 (codes "main")) ∷ (tok Operator 119 120 (codes "(")) ∷ (tok Operator 120 121 (codes ")")) ∷ (tok Operator 122 123 (codes "{")) ∷ (tok Ident 125 126 (codes "a")) ∷ (tok Operator 126 127 (codes ",")) ∷ (tok Ident 128 129 (codes "b")) ∷ (tok Operator 130 132 (codes ":=")) ∷ (tok Ident 133 137 (codes "Pair")) ∷ (tok Operator 137 138 (codes "(")) ∷ (tok Operator 138 139 (codes ")")) ∷ (tok Inserted 139 139 (codes ";")) ∷ (tok Ident 141 148 (codes "println")) ∷ (tok Operator 148 149 (codes "(")) ∷ (tok Ident 149 150 (codes "a")) ∷ (tok Operator 150 151 (codes ",")) ∷ (tok Ident 152 153 (codes "b")) ∷ (tok Operator 153 154 (codes ")")) ∷ (tok Inserted 154 154 (codes ";")) ∷ (tok Operator 155 156 (codes "}")) ∷ (tok Inserted 156 156 (codes ";")) ∷ []); comments = ((note 53 68) ∷ []) }) ∷ []) }

several_returned_0_typed : is_typed several_returned_0 ≡ true
several_returned_0_typed = refl

several_returned_0_step : first_change several_returned_0 ≡ Some ((codes "main.go"), ExprForm, (codes "package main\n\nfunc two() (int, int) { return 1, 2 }\n\n//go:fix inline\nfunc Pair() (int, int) { return two() }\n\nfunc main() {\n\ta, b := two()\n\tprintln(a, b)\n}\n"))
several_returned_0_step = refl

abbrev several_returned_1_f0 : File Span
several_returned_1_f0 = record { package_name = (nm 8 12 (codes "main")); imports = []; decls = ((fn (at 14 51) None (nm 19 22 (codes "two")) (sig [] ((param (at 26 29) None (named (at 26 29) None (nm 26 29 (codes "int")))) ∷ (param (at 31 34) None (named (at 31 34) None (nm 31 34 (codes "int")))) ∷ [])) (at 36 51) (stmt_and (return_ (at 38 49) (expr_and (int_lit (at 45 46) (codes "1")) (expr_and (int_lit (at 48 49) (codes "2")) no_exprs))) no_stmts)) ∷ (fn (at 69 108) None (nm 74 78 (codes "Pair")) (sig [] ((param (at 82 85) None (named (at 82 85) None (nm 82 85 (codes "int")))) ∷ (param (at 87 90) None (named (at 87 90) None (nm 87 90 (codes "int")))) ∷ [])) (at 92 108) (stmt_and (return_ (at 94 106) (expr_and (call (at 101 106) (ident (at 101 104) (codes "two")) no_exprs Plain) no_exprs)) no_stmts)) ∷ (fn (at 110 155) None (nm 115 119 (codes "main")) (sig [] []) (at 122 155) (stmt_and (define (at 125 138) ((nm 125 126 (codes "a")) ∷ (nm 128 129 (codes "b")) ∷ []) (expr_and (call (at 133 138) (ident (at 133 136) (codes "two")) no_exprs Plain) no_exprs)) (stmt_and (eval (at 140 153) (call (at 140 153) (ident (at 140 147) (codes "println")) (expr_and (ident (at 148 149) (codes "a")) (expr_and (ident (at 151 152) (codes "b")) no_exprs)) Plain)) no_stmts))) ∷ []) }

several_returned_1_f0_read : read_at span_to read_front (lexemes ((tok Keyword 0 7 (codes "package")) ∷ (tok Ident 8 12 (codes "main")) ∷ (tok Inserted 12 12 (codes ";")) ∷ (tok Keyword 14 18 (codes "func")) ∷ (tok Ident 19 22 (codes "two")) ∷ (tok Operator 22 23 (codes "(")) ∷ (tok Operator 23 24 (codes ")")) ∷ (tok Operator 25 26 (codes "(")) ∷ (tok Ident 26 29 (codes "int")) ∷ (tok Operator 29 30 (codes ",")) ∷ (tok Ident 31 34 (codes "int")) ∷ (tok Operator 34 35 (codes ")")) ∷ (tok Operator 36 37 (codes "{")) ∷ (tok Keyword 38 44 (codes "return")) ∷ (tok Integer 45 46 (codes "1")) ∷ (tok Operator 46 47 (codes ",")) ∷ (tok Integer 48 49 (codes "2")) ∷ (tok Operator 50 51 (codes "}")) ∷ (tok Inserted 51 51 (codes ";")) ∷ (tok Keyword 69 73 (codes "func")) ∷ (tok Ident 74 78 (codes "Pair")) ∷ (tok Operator 78 79 (codes "(")) ∷ (tok Operator 79 80 (codes ")")) ∷ (tok Operator 81 82 (codes "(")) ∷ (tok Ident 82 85 (codes "int")) ∷ (tok Operator 85 86 (codes ",")) ∷ (tok Ident 87 90 (codes "int")) ∷ (tok Operator 90 91 (codes ")")) ∷ (tok Operator 92 93 (codes "{")) ∷ (tok Keyword 94 100 (codes "return")) ∷ (tok Ident 101 104 (codes "two")) ∷ (tok Operator 104 105 (codes "(")) ∷ (tok Operator 105 106 (codes ")")) ∷ (tok Operator 107 108 (codes "}")) ∷ (tok Inserted 108 108 (codes ";")) ∷ (tok Keyword 110 114 (codes "func")) ∷ (tok Ident 115 119 (codes "main")) ∷ (tok Operator 119 120 (codes "(")) ∷ (tok Operator 120 121 (codes ")")) ∷ (tok Operator 122 123 (codes "{")) ∷ (tok Ident 125 126 (codes "a")) ∷ (tok Operator 126 127 (codes ",")) ∷ (tok Ident 128 129 (codes "b")) ∷ (tok Operator 130 132 (codes ":=")) ∷ (tok Ident 133 136 (codes "two")) ∷ (tok Operator 136 137 (codes "(")) ∷ (tok Operator 137 138 (codes ")")) ∷ (tok Inserted 138 138 (codes ";")) ∷ (tok Ident 140 147 (codes "println")) ∷ (tok Operator 147 148 (codes "(")) ∷ (tok Ident 148 149 (codes "a")) ∷ (tok Operator 149 150 (codes ",")) ∷ (tok Ident 151 152 (codes "b")) ∷ (tok Operator 152 153 (codes ")")) ∷ (tok Inserted 153 153 (codes ";")) ∷ (tok Operator 154 155 (codes "}")) ∷ (tok Inserted 155 155 (codes ";")) ∷ [])) ≡ Some (several_returned_1_f0, [])
unfolding reading
several_returned_1_f0_read = refl

abbrev several_returned_1 : Module
several_returned_1 = record { packages = (pack (codes "example.com/m") (codes "main") (source (codes "main.go") several_returned_1_f0 ∷ []) ∷ []); marks = (mark 0 0 1 0 ∷ []); texts = (((codes "main.go"), record { text = (codes "package main\n\nfunc two() (int, int) { return 1, 2 }\n\n//go:fix inline\nfunc Pair() (int, int) { return two() }\n\nfunc main() {\n\ta, b := two()\n\tprintln(a, b)\n}\n"); tokens = ((tok Keyword 0 7 (codes "package")) ∷ (tok Ident 8 12 (codes "main")) ∷ (tok Inserted 12 12 (codes ";")) ∷ (tok Keyword 14 18 (codes "func")) ∷ (tok Ident 19 22 (codes "two")) ∷ (tok Operator 22 23 (codes "(")) ∷ (tok Operator 23 24 (codes ")")) ∷ (tok Operator 25 26 (codes "(")) ∷ (tok Ident 26 29 (codes "int")) ∷ (tok Operator 29 30 (codes ",")) ∷ (tok Ident 31 34 (codes "int")) ∷ (tok Operator 34 35 (codes ")")) ∷ (tok Operator 36 37 (codes "{")) ∷ (tok Keyword 38 44 (codes "return")) ∷ (tok Integer 45 46 (codes "1")) ∷ (tok Operator 46 47 (codes ",")) ∷ (tok Integer 48 49 (codes "2")) ∷ (tok Operator 50 51 (codes "}")) ∷ (tok Inserted 51 51 (codes ";")) ∷ (tok Keyword 69 73 (codes "func")) ∷ (tok Ident 74 78 (codes "Pair")) ∷ (tok Operator 78 79 (codes "(")) ∷ (tok Operator 79 80 (codes ")")) ∷ (tok Operator 81 82 (codes "(")) ∷ (tok Ident 82 85 (codes "int")) ∷ (tok Operator 85 86 (codes ",")) ∷ (tok Ident 87 90 (codes "int")) ∷ (tok Operator 90 91 (codes ")")) ∷ (tok Operator 92 93 (codes "{")) ∷ (tok Keyword 94 100 (codes "return")) ∷ (tok Ident 101 104 (codes "two")) ∷ (tok Operator 104 105 (codes "(")) ∷ (tok Operator 105 106 (codes ")")) ∷ (tok Operator 107 108 (codes "}")) ∷ (tok Inserted 108 108 (codes ";")) ∷ (tok Keyword 110 114 (codes "func")) ∷ (tok Ident 115 119 (codes "main")) ∷ (tok Operator 119 120 (codes "(")) ∷ (tok Operator 120 121 (codes ")")) ∷ (tok Operator 122 123 (codes "{")) ∷ (tok Ident 125 126 (codes "a")) ∷ (tok Operator 126 127 (codes ",")) ∷ (tok Ident 128 129 (codes "b")) ∷ (tok Operator 130 132 (codes ":=")) ∷ (tok Ident 133 136 (codes "two")) ∷ (tok Operator 136 137 (codes "(")) ∷ (tok Operator 137 138 (codes ")")) ∷ (tok Inserted 138 138 (codes ";")) ∷ (tok Ident 140 147 (codes "println")) ∷ (tok Operator 147 148 (codes "(")) ∷ (tok Ident 148 149 (codes "a")) ∷ (tok Operator 149 150 (codes ",")) ∷ (tok Ident 151 152 (codes "b")) ∷ (tok Operator 152 153 (codes ")")) ∷ (tok Inserted 153 153 (codes ";")) ∷ (tok Operator 154 155 (codes "}")) ∷ (tok Inserted 155 155 (codes ";")) ∷ []); comments = ((note 53 68) ∷ []) }) ∷ []) }

several_returned_1_typed : is_typed several_returned_1 ≡ true
several_returned_1_typed = refl

several_returned_1_ends : step_of several_returned_1 ≡ None
several_returned_1_ends = refl

several_returned_1_kept : kept_uses several_returned_1 ≡ []
several_returned_1_kept = refl

-- The value has the result type.
abbrev named_type_value_0_f0 : File Span
named_type_value_0_f0 = record { package_name = (nm 8 12 (codes "main")); imports = []; decls = ((types (at 14 24) false ((tspec (at 19 24) (nm 19 20 (codes "T")) false (named (at 21 24) None (nm 21 24 (codes "int")))) ∷ [])) ∷ (fn (at 42 67) None (nm 47 50 (codes "One")) (sig [] ((param (at 53 54) None (named (at 53 54) None (nm 53 54 (codes "T")))) ∷ [])) (at 55 67) (stmt_and (return_ (at 57 65) (expr_and (int_lit (at 64 65) (codes "1")) no_exprs)) no_stmts)) ∷ (fn (at 69 105) None (nm 74 77 (codes "two")) (sig [] ((param (at 80 83) None (named (at 80 83) None (nm 80 83 (codes "int")))) ∷ [])) (at 84 105) (stmt_and (return_ (at 86 103) (expr_and (call (at 93 103) (ident (at 93 96) (codes "int")) (expr_and (call (at 97 102) (ident (at 97 100) (codes "One")) no_exprs Plain) no_exprs) Plain) no_exprs)) no_stmts)) ∷ (fn (at 107 138) None (nm 112 116 (codes "main")) (sig [] []) (at 119 138) (stmt_and (eval (at 122 136) (call (at 122 136) (ident (at 122 129) (codes "println")) (expr_and (call (at 130 135) (ident (at 130 133) (codes "two")) no_exprs Plain) no_exprs) Plain)) no_stmts)) ∷ []) }

named_type_value_0_f0_read : read_at span_to read_front (lexemes ((tok Keyword 0 7 (codes "package")) ∷ (tok Ident 8 12 (codes "main")) ∷ (tok Inserted 12 12 (codes ";")) ∷ (tok Keyword 14 18 (codes "type")) ∷ (tok Ident 19 20 (codes "T")) ∷ (tok Ident 21 24 (codes "int")) ∷ (tok Inserted 24 24 (codes ";")) ∷ (tok Keyword 42 46 (codes "func")) ∷ (tok Ident 47 50 (codes "One")) ∷ (tok Operator 50 51 (codes "(")) ∷ (tok Operator 51 52 (codes ")")) ∷ (tok Ident 53 54 (codes "T")) ∷ (tok Operator 55 56 (codes "{")) ∷ (tok Keyword 57 63 (codes "return")) ∷ (tok Integer 64 65 (codes "1")) ∷ (tok Operator 66 67 (codes "}")) ∷ (tok Inserted 67 67 (codes ";")) ∷ (tok Keyword 69 73 (codes "func")) ∷ (tok Ident 74 77 (codes "two")) ∷ (tok Operator 77 78 (codes "(")) ∷ (tok Operator 78 79 (codes ")")) ∷ (tok Ident 80 83 (codes "int")) ∷ (tok Operator 84 85 (codes "{")) ∷ (tok Keyword 86 92 (codes "return")) ∷ (tok Ident 93 96 (codes "int")) ∷ (tok Operator 96 97 (codes "(")) ∷ (tok Ident 97 100 (codes "One")) ∷ (tok Operator 100 101 (codes "(")) ∷ (tok Operator 101 102 (codes ")")) ∷ (tok Operator 102 103 (codes ")")) ∷ (tok Operator 104 105 (codes "}")) ∷ (tok Inserted 105 105 (codes ";")) ∷ (tok Keyword 107 111 (codes "func")) ∷ (tok Ident 112 116 (codes "main")) ∷ (tok Operator 116 117 (codes "(")) ∷ (tok Operator 117 118 (codes ")")) ∷ (tok Operator 119 120 (codes "{")) ∷ (tok Ident 122 129 (codes "println")) ∷ (tok Operator 129 130 (codes "(")) ∷ (tok Ident 130 133 (codes "two")) ∷ (tok Operator 133 134 (codes "(")) ∷ (tok Operator 134 135 (codes ")")) ∷ (tok Operator 135 136 (codes ")")) ∷ (tok Inserted 136 136 (codes ";")) ∷ (tok Operator 137 138 (codes "}")) ∷ (tok Inserted 138 138 (codes ";")) ∷ [])) ≡ Some (named_type_value_0_f0, [])
unfolding reading
named_type_value_0_f0_read = refl

abbrev named_type_value_0 : Module
named_type_value_0 = record { packages = (pack (codes "example.com/m") (codes "main") (source (codes "main.go") named_type_value_0_f0 ∷ []) ∷ []); marks = (mark 0 0 1 0 ∷ []); texts = (((codes "main.go"), record { text = (codes "package main\n\ntype T int\n\n//go:fix inline\nfunc One() T { return 1 }\n\nfunc two() int { return int(One()) }\n\nfunc main() {\n\tprintln(two())\n}\n"); tokens = ((tok Keyword 0 7 (codes "package")) ∷ (tok Ident 8 12 (codes "main")) ∷ (tok Inserted 12 12 (codes ";")) ∷ (tok Keyword 14 18 (codes "type")) ∷ (tok Ident 19 20 (codes "T")) ∷ (tok Ident 21 24 (codes "int")) ∷ (tok Inserted 24 24 (codes ";")) ∷ (tok Keyword 42 46 (codes "func")) ∷ (tok Ident 47 50 (codes "One")) ∷ (tok Operator 50 51 (codes "(")) ∷ (tok Operator 51 52 (codes ")")) ∷ (tok Ident 53 54 (codes "T")) ∷ (tok Operator 55 56 (codes "{")) ∷ (tok Keyword 57 63 (codes "return")) ∷ (tok Integer 64 65 (codes "1")) ∷ (tok Operator 66 67 (codes "}")) ∷ (tok Inserted 67 67 (codes ";")) ∷ (tok Keyword 69 73 (codes "func")) ∷ (tok Ident 74 77 (codes "two")) ∷ (tok Operator 77 78 (codes "(")) ∷ (tok Operator 78 79 (codes ")")) ∷ (tok Ident 80 83 (codes "int")) ∷ (tok Operator 84 85 (codes "{")) ∷ (tok Keyword 86 92 (codes "return")) ∷ (tok Ident 93 96 (codes "int")) ∷ (tok Operator 96 97 (codes "(")) ∷ (tok Ident 97 100 (codes "One")) ∷ (tok Operator 100 101 (codes "(")) ∷ (tok Operator 101 102 (codes ")")) ∷ (tok Operator 102 103 (codes ")")) ∷ (tok Operator 104 105 (codes "}")) ∷ (tok Inserted 105 105 (codes ";")) ∷ (tok Keyword 107 111 (codes "func")) ∷ (tok Ident 112 116 (codes "main")) ∷ (tok Operator 116 117 (codes "(")) ∷ (tok Operator 117 118 (codes ")")) ∷ (tok Operator 119 120 (codes "{")) ∷ (tok Ident 122 129 (codes "println")) ∷ (tok Operator 129 130 (codes "(")) ∷ (tok Ident 130 133 (codes "two")) ∷ (tok Operator 133 134 (codes "(")) ∷ (tok Operator 134 135 (codes ")")) ∷ (tok Operator 135 136 (codes ")")) ∷ (tok Inserted 136 136 (codes ";")) ∷ (tok Operator 137 138 (codes "}")) ∷ (tok Inserted 138 138 (codes ";")) ∷ []); comments = ((note 26 41) ∷ []) }) ∷ []) }

named_type_value_0_typed : is_typed named_type_value_0 ≡ true
named_type_value_0_typed = refl

named_type_value_0_step : first_change named_type_value_0 ≡ Some ((codes "main.go"), ExprForm, (codes "package main\n\ntype T int\n\n//go:fix inline\nfunc One() T { return 1 }\n\nfunc two() int { return int(T(1)) }\n\nfunc main() {\n\tprintln(two())\n}\n"))
named_type_value_0_step = refl

abbrev named_type_value_1_f0 : File Span
named_type_value_1_f0 = record { package_name = (nm 8 12 (codes "main")); imports = []; decls = ((types (at 14 24) false ((tspec (at 19 24) (nm 19 20 (codes "T")) false (named (at 21 24) None (nm 21 24 (codes "int")))) ∷ [])) ∷ (fn (at 42 67) None (nm 47 50 (codes "One")) (sig [] ((param (at 53 54) None (named (at 53 54) None (nm 53 54 (codes "T")))) ∷ [])) (at 55 67) (stmt_and (return_ (at 57 65) (expr_and (int_lit (at 64 65) (codes "1")) no_exprs)) no_stmts)) ∷ (fn (at 69 104) None (nm 74 77 (codes "two")) (sig [] ((param (at 80 83) None (named (at 80 83) None (nm 80 83 (codes "int")))) ∷ [])) (at 84 104) (stmt_and (return_ (at 86 102) (expr_and (call (at 93 102) (ident (at 93 96) (codes "int")) (expr_and (call (at 97 101) (ident (at 97 98) (codes "T")) (expr_and (int_lit (at 99 100) (codes "1")) no_exprs) Plain) no_exprs) Plain) no_exprs)) no_stmts)) ∷ (fn (at 106 137) None (nm 111 115 (codes "main")) (sig [] []) (at 118 137) (stmt_and (eval (at 121 135) (call (at 121 135) (ident (at 121 128) (codes "println")) (expr_and (call (at 129 134) (ident (at 129 132) (codes "two")) no_exprs Plain) no_exprs) Plain)) no_stmts)) ∷ []) }

named_type_value_1_f0_read : read_at span_to read_front (lexemes ((tok Keyword 0 7 (codes "package")) ∷ (tok Ident 8 12 (codes "main")) ∷ (tok Inserted 12 12 (codes ";")) ∷ (tok Keyword 14 18 (codes "type")) ∷ (tok Ident 19 20 (codes "T")) ∷ (tok Ident 21 24 (codes "int")) ∷ (tok Inserted 24 24 (codes ";")) ∷ (tok Keyword 42 46 (codes "func")) ∷ (tok Ident 47 50 (codes "One")) ∷ (tok Operator 50 51 (codes "(")) ∷ (tok Operator 51 52 (codes ")")) ∷ (tok Ident 53 54 (codes "T")) ∷ (tok Operator 55 56 (codes "{")) ∷ (tok Keyword 57 63 (codes "return")) ∷ (tok Integer 64 65 (codes "1")) ∷ (tok Operator 66 67 (codes "}")) ∷ (tok Inserted 67 67 (codes ";")) ∷ (tok Keyword 69 73 (codes "func")) ∷ (tok Ident 74 77 (codes "two")) ∷ (tok Operator 77 78 (codes "(")) ∷ (tok Operator 78 79 (codes ")")) ∷ (tok Ident 80 83 (codes "int")) ∷ (tok Operator 84 85 (codes "{")) ∷ (tok Keyword 86 92 (codes "return")) ∷ (tok Ident 93 96 (codes "int")) ∷ (tok Operator 96 97 (codes "(")) ∷ (tok Ident 97 98 (codes "T")) ∷ (tok Operator 98 99 (codes "(")) ∷ (tok Integer 99 100 (codes "1")) ∷ (tok Operator 100 101 (codes ")")) ∷ (tok Operator 101 102 (codes ")")) ∷ (tok Operator 103 104 (codes "}")) ∷ (tok Inserted 104 104 (codes ";")) ∷ (tok Keyword 106 110 (codes "func")) ∷ (tok Ident 111 115 (codes "main")) ∷ (tok Operator 115 116 (codes "(")) ∷ (tok Operator 116 117 (codes ")")) ∷ (tok Operator 118 119 (codes "{")) ∷ (tok Ident 121 128 (codes "println")) ∷ (tok Operator 128 129 (codes "(")) ∷ (tok Ident 129 132 (codes "two")) ∷ (tok Operator 132 133 (codes "(")) ∷ (tok Operator 133 134 (codes ")")) ∷ (tok Operator 134 135 (codes ")")) ∷ (tok Inserted 135 135 (codes ";")) ∷ (tok Operator 136 137 (codes "}")) ∷ (tok Inserted 137 137 (codes ";")) ∷ [])) ≡ Some (named_type_value_1_f0, [])
unfolding reading
named_type_value_1_f0_read = refl

abbrev named_type_value_1 : Module
named_type_value_1 = record { packages = (pack (codes "example.com/m") (codes "main") (source (codes "main.go") named_type_value_1_f0 ∷ []) ∷ []); marks = (mark 0 0 1 0 ∷ []); texts = (((codes "main.go"), record { text = (codes "package main\n\ntype T int\n\n//go:fix inline\nfunc One() T { return 1 }\n\nfunc two() int { return int(T(1)) }\n\nfunc main() {\n\tprintln(two())\n}\n"); tokens = ((tok Keyword 0 7 (codes "package")) ∷ (tok Ident 8 12 (codes "main")) ∷ (tok Inserted 12 12 (codes ";")) ∷ (tok Keyword 14 18 (codes "type")) ∷ (tok Ident 19 20 (codes "T")) ∷ (tok Ident 21 24 (codes "int")) ∷ (tok Inserted 24 24 (codes ";")) ∷ (tok Keyword 42 46 (codes "func")) ∷ (tok Ident 47 50 (codes "One")) ∷ (tok Operator 50 51 (codes "(")) ∷ (tok Operator 51 52 (codes ")")) ∷ (tok Ident 53 54 (codes "T")) ∷ (tok Operator 55 56 (codes "{")) ∷ (tok Keyword 57 63 (codes "return")) ∷ (tok Integer 64 65 (codes "1")) ∷ (tok Operator 66 67 (codes "}")) ∷ (tok Inserted 67 67 (codes ";")) ∷ (tok Keyword 69 73 (codes "func")) ∷ (tok Ident 74 77 (codes "two")) ∷ (tok Operator 77 78 (codes "(")) ∷ (tok Operator 78 79 (codes ")")) ∷ (tok Ident 80 83 (codes "int")) ∷ (tok Operator 84 85 (codes "{")) ∷ (tok Keyword 86 92 (codes "return")) ∷ (tok Ident 93 96 (codes "int")) ∷ (tok Operator 96 97 (codes "(")) ∷ (tok Ident 97 98 (codes "T")) ∷ (tok Operator 98 99 (codes "(")) ∷ (tok Integer 99 100 (codes "1")) ∷ (tok Operator 100 101 (codes ")")) ∷ (tok Operator 101 102 (codes ")")) ∷ (tok Operator 103 104 (codes "}")) ∷ (tok Inserted 104 104 (codes ";")) ∷ (tok Keyword 106 110 (codes "func")) ∷ (tok Ident 111 115 (codes "main")) ∷ (tok Operator 115 116 (codes "(")) ∷ (tok Operator 116 117 (codes ")")) ∷ (tok Operator 118 119 (codes "{")) ∷ (tok Ident 121 128 (codes "println")) ∷ (tok Operator 128 129 (codes "(")) ∷ (tok Ident 129 132 (codes "two")) ∷ (tok Operator 132 133 (codes "(")) ∷ (tok Operator 133 134 (codes ")")) ∷ (tok Operator 134 135 (codes ")")) ∷ (tok Inserted 135 135 (codes ";")) ∷ (tok Operator 136 137 (codes "}")) ∷ (tok Inserted 137 137 (codes ";")) ∷ []); comments = ((note 26 41) ∷ []) }) ∷ []) }

named_type_value_1_typed : is_typed named_type_value_1 ≡ true
named_type_value_1_typed = refl

named_type_value_1_ends : step_of named_type_value_1 ≡ None
named_type_value_1_ends = refl

named_type_value_1_kept : kept_uses named_type_value_1 ≡ []
named_type_value_1_kept = refl
