-- Expressions, blocks and tails.
use Rattle.std.proofs.Common.{◌≡◌, refl}
use Rattle.std.specs.Prelude.{true, false, [], ◌∷◌, Some, None, codes}
use Rattle.go_tree.specs.declared.exprs.Rest.TheVariants.{Plain}
use Rattle.go_tree.specs.declared.spans.Span.{Span}
use Rattle.go_tree.specs.declared.tokens.TokenKind.TheVariants.{Ident, Keyword, Operator, Integer, Str, Inserted}
use Rattle.go_tree.specs.declared.operators.BinOp.TheVariants.{Div, Sub, Eq, Gt}
use Rattle.go_tree.specs.declared.operators.UnOp.TheVariants.{Minus, Address}
use Rattle.go_tree.specs.Tree.{named, struct_type, no_fields, field, ident, int_lit, str_lit, composite, selector, slice, call, func_lit, unary, binary, no_exprs, expr_and, no_expr, some_expr, no_elems, elem, plain, no_value, var_decl, eval, define, return_, inner, if_, no_stmts, stmt_and, no_stmt, no_block, no_arms, arm, no_specs, spec}
use Rattle.go_tree.specs.File.{File, types}
use Rattle.run_rules.specs.FormTrees.{ExprForm, BlockForm, TailForm, LiteralForm}
use Rattle.run_rules.proofs.CaseTools.{at, nm, tok, note, param, sig, tspec, recv, fn, pack, source, mark, Module, is_typed, first_change, step_of, kept_uses}
use Rattle.go_layout.specs.SpellsSpans.{span_to}
use Rattle.go_tree.specs.GoWords.Terminals.{lexemes}
use Rattle.go_layout.specs.Goals.{read_front}
use Rattle.go_layout.proofs.Texts.{reading}
use Rattle.run_rules.proofs.CaseTools.{read_at}

-- All that a return returns.
abbrev returned_whole_0_f0 : File Span
returned_whole_0_f0 = record { package_name = (nm 8 12 (codes "main")); imports = []; decls = ((fn (at 30 127) None (nm 35 40 (codes "Split")) (sig ((param (at 41 49) (Some (nm 41 42 (codes "s"))) (named (at 43 49) None (nm 43 49 (codes "string")))) ∷ []) ((param (at 52 58) None (named (at 52 58) None (nm 52 58 (codes "string")))) ∷ (param (at 60 66) None (named (at 60 66) None (nm 60 66 (codes "string")))) ∷ [])) (at 68 127) (stmt_and (if_ (at 71 111) (arm (at 71 111) no_stmt (binary (at 74 84) Gt (call (at 74 80) (ident (at 74 77) (codes "len")) (expr_and (ident (at 78 79) (codes "s")) no_exprs) Plain) (int_lit (at 83 84) (codes "1"))) (at 85 111) (stmt_and (return_ (at 89 108) (expr_and (slice (at 96 101) (ident (at 96 97) (codes "s")) no_expr (some_expr (int_lit (at 99 100) (codes "1")))) (expr_and (slice (at 103 108) (ident (at 103 104) (codes "s")) (some_expr (int_lit (at 105 106) (codes "1"))) no_expr) no_exprs))) no_stmts) no_arms) no_block) (stmt_and (return_ (at 113 125) (expr_and (ident (at 120 121) (codes "s")) (expr_and (str_lit (at 123 125) (codes "\"\"")) no_exprs))) no_stmts))) ∷ (fn (at 129 185) None (nm 134 137 (codes "Cut")) (sig ((param (at 138 146) (Some (nm 138 139 (codes "t"))) (named (at 140 146) None (nm 140 146 (codes "string")))) ∷ []) ((param (at 149 155) None (named (at 149 155) None (nm 149 155 (codes "string")))) ∷ (param (at 157 163) None (named (at 157 163) None (nm 157 163 (codes "string")))) ∷ [])) (at 165 185) (stmt_and (return_ (at 168 183) (expr_and (call (at 175 183) (ident (at 175 180) (codes "Split")) (expr_and (ident (at 181 182) (codes "t")) no_exprs) Plain) no_exprs)) no_stmts)) ∷ (fn (at 187 222) None (nm 192 196 (codes "main")) (sig [] []) (at 199 222) (stmt_and (eval (at 202 220) (call (at 202 220) (ident (at 202 209) (codes "println")) (expr_and (call (at 210 219) (ident (at 210 213) (codes "Cut")) (expr_and (str_lit (at 214 218) (codes "\"ab\"")) no_exprs) Plain) no_exprs) Plain)) no_stmts)) ∷ []) }

returned_whole_0_f0_read : read_at span_to read_front (lexemes ((tok Keyword 0 7 (codes "package")) ∷ (tok Ident 8 12 (codes "main")) ∷ (tok Inserted 12 12 (codes ";")) ∷ (tok Keyword 30 34 (codes "func")) ∷ (tok Ident 35 40 (codes "Split")) ∷ (tok Operator 40 41 (codes "(")) ∷ (tok Ident 41 42 (codes "s")) ∷ (tok Ident 43 49 (codes "string")) ∷ (tok Operator 49 50 (codes ")")) ∷ (tok Operator 51 52 (codes "(")) ∷ (tok Ident 52 58 (codes "string")) ∷ (tok Operator 58 59 (codes ",")) ∷ (tok Ident 60 66 (codes "string")) ∷ (tok Operator 66 67 (codes ")")) ∷ (tok Operator 68 69 (codes "{")) ∷ (tok Keyword 71 73 (codes "if")) ∷ (tok Ident 74 77 (codes "len")) ∷ (tok Operator 77 78 (codes "(")) ∷ (tok Ident 78 79 (codes "s")) ∷ (tok Operator 79 80 (codes ")")) ∷ (tok Operator 81 82 (codes ">")) ∷ (tok Integer 83 84 (codes "1")) ∷ (tok Operator 85 86 (codes "{")) ∷ (tok Keyword 89 95 (codes "return")) ∷ (tok Ident 96 97 (codes "s")) ∷ (tok Operator 97 98 (codes "[")) ∷ (tok Operator 98 99 (codes ":")) ∷ (tok Integer 99 100 (codes "1")) ∷ (tok Operator 100 101 (codes "]")) ∷ (tok Operator 101 102 (codes ",")) ∷ (tok Ident 103 104 (codes "s")) ∷ (tok Operator 104 105 (codes "[")) ∷ (tok Integer 105 106 (codes "1")) ∷ (tok Operator 106 107 (codes ":")) ∷ (tok Operator 107 108 (codes "]")) ∷ (tok Inserted 108 108 (codes ";")) ∷ (tok Operator 110 111 (codes "}")) ∷ (tok Inserted 111 111 (codes ";")) ∷ (tok Keyword 113 119 (codes "return")) ∷ (tok Ident 120 121 (codes "s")) ∷ (tok Operator 121 122 (codes ",")) ∷ (tok Str 123 125 (codes "\"\"")) ∷ (tok Inserted 125 125 (codes ";")) ∷ (tok Operator 126 127 (codes "}")) ∷ (tok Inserted 127 127 (codes ";")) ∷ (tok Keyword 129 133 (codes "func")) ∷ (tok Ident 134 137 (codes "Cut")) ∷ (tok Operator 137 138 (codes "(")) ∷ (tok Ident 138 139 (codes "t")) ∷ (tok Ident 140 146 (codes "string")) ∷ (tok Operator 146 147 (codes ")")) ∷ (tok Operator 148 149 (codes "(")) ∷ (tok Ident 149 155 (codes "string")) ∷ (tok Operator 155 156 (codes ",")) ∷ (tok Ident 157 163 (codes "string")) ∷ (tok Operator 163 164 (codes ")")) ∷ (tok Operator 165 166 (codes "{")) ∷ (tok Keyword 168 174 (codes "return")) ∷ (tok Ident 175 180 (codes "Split")) ∷ (tok Operator 180 181 (codes "(")) ∷ (tok Ident 181 182 (codes "t")) ∷ (tok Operator 182 183 (codes ")")) ∷ (tok Inserted 183 183 (codes ";")) ∷ (tok Operator 184 185 (codes "}")) ∷ (tok Inserted 185 185 (codes ";")) ∷ (tok Keyword 187 191 (codes "func")) ∷ (tok Ident 192 196 (codes "main")) ∷ (tok Operator 196 197 (codes "(")) ∷ (tok Operator 197 198 (codes ")")) ∷ (tok Operator 199 200 (codes "{")) ∷ (tok Ident 202 209 (codes "println")) ∷ (tok Operator 209 210 (codes "(")) ∷ (tok Ident 210 213 (codes "Cut")) ∷ (tok Operator 213 214 (codes "(")) ∷ (tok Str 214 218 (codes "\"ab\"")) ∷ (tok Operator 218 219 (codes ")")) ∷ (tok Operator 219 220 (codes ")")) ∷ (tok Inserted 220 220 (codes ";")) ∷ (tok Operator 221 222 (codes "}")) ∷ (tok Inserted 222 222 (codes ";")) ∷ [])) ≡ Some (returned_whole_0_f0, [])
unfolding reading
returned_whole_0_f0_read = refl

abbrev returned_whole_0 : Module
returned_whole_0 = record { packages = (pack (codes "example.com/m") (codes "main") (source (codes "main.go") returned_whole_0_f0 ∷ []) ∷ []); marks = (mark 0 0 0 0 ∷ []); texts = (((codes "main.go"), record { text = (codes "package main\n\n//go:fix inline\nfunc Split(s string) (string, string) {\n\tif len(s) > 1 {\n\t\treturn s[:1], s[1:]\n\t}\n\treturn s, \"\"\n}\n\nfunc Cut(t string) (string, string) {\n\treturn Split(t)\n}\n\nfunc main() {\n\tprintln(Cut(\"ab\"))\n}\n"); tokens = ((tok Keyword 0 7 (codes "package")) ∷ (tok Ident 8 12 (codes "main")) ∷ (tok Inserted 12 12 (codes ";")) ∷ (tok Keyword 30 34 (codes "func")) ∷ (tok Ident 35 40 (codes "Split")) ∷ (tok Operator 40 41 (codes "(")) ∷ (tok Ident 41 42 (codes "s")) ∷ (tok Ident 43 49 (codes "string")) ∷ (tok Operator 49 50 (codes ")")) ∷ (tok Operator 51 52 (codes "(")) ∷ (tok Ident 52 58 (codes "string")) ∷ (tok Operator 58 59 (codes ",")) ∷ (tok Ident 60 66 (codes "string")) ∷ (tok Operator 66 67 (codes ")")) ∷ (tok Operator 68 69 (codes "{")) ∷ (tok Keyword 71 73 (codes "if")) ∷ (tok Ident 74 77 (codes "len")) ∷ (tok Operator 77 78 (codes "(")) ∷ (tok Ident 78 79 (codes "s")) ∷ (tok Operator 79 80 (codes ")")) ∷ (tok Operator 81 82 (codes ">")) ∷ (tok Integer 83 84 (codes "1")) ∷ (tok Operator 85 86 (codes "{")) ∷ (tok Keyword 89 95 (codes "return")) ∷ (tok Ident 96 97 (codes "s")) ∷ (tok Operator 97 98 (codes "[")) ∷ (tok Operator 98 99 (codes ":")) ∷ (tok Integer 99 100 (codes "1")) ∷ (tok Operator 100 101 (codes "]")) ∷ (tok Operator 101 102 (codes ",")) ∷ (tok Ident 103 104 (codes "s")) ∷ (tok Operator 104 105 (codes "[")) ∷ (tok Integer 105 106 (codes "1")) ∷ (tok Operator 106 107 (codes ":")) ∷ (tok Operator 107 108 (codes "]")) ∷ (tok Inserted 108 108 (codes ";")) ∷ (tok Operator 110 111 (codes "}")) ∷ (tok Inserted 111 111 (codes ";")) ∷ (tok Keyword 113 119 (codes "return")) ∷ (tok Ident 120 121 (codes "s")) ∷ (tok Operator 121 122 (codes ",")) ∷ (tok Str 123 125 (codes "\"\"")) ∷ (tok Inserted 125 125 (codes ";")) ∷ (tok Operator 126 127 (codes "}")) ∷ (tok Inserted 127 127 (codes ";")) ∷ (tok Keyword 129 133 (codes "func")) ∷ (tok Ident 134 137 (codes "Cut")) ∷ (tok Operator 137 138 (codes "(")) ∷ (tok Ident 138 139 (codes "t")) ∷ (tok Ident 140 146 (codes "string")) ∷ (tok Operator 146 147 (codes ")")) ∷ (tok Operator 148 149 (codes "(")) ∷ (tok Ident 149 155 (codes "string")) ∷ (tok Operator 155 156 (codes ",")) ∷ (tok Ident 157 163 (codes "string")) ∷ (tok Operator 163 164 (codes ")")) ∷ (tok Operator 165 166 (codes "{")) ∷ (tok Keyword 168 174 (codes "return")) ∷ (tok Ident 175 180 (codes "Split")) ∷ (tok Operator 180 181 (codes "(")) ∷ (tok Ident 181 182 (codes "t")) ∷ (tok Operator 182 183 (codes ")")) ∷ (tok Inserted 183 183 (codes ";")) ∷ (tok Operator 184 185 (codes "}")) ∷ (tok Inserted 185 185 (codes ";")) ∷ (tok Keyword 187 191 (codes "func")) ∷ (tok Ident 192 196 (codes "main")) ∷ (tok Operator 196 197 (codes "(")) ∷ (tok Operator 197 198 (codes ")")) ∷ (tok Operator 199 200 (codes "{")) ∷ (tok Ident 202 209 (codes "println")) ∷ (tok Operator 209 210 (codes "(")) ∷ (tok Ident 210 213 (codes "Cut")) ∷ (tok Operator 213 214 (codes "(")) ∷ (tok Str 214 218 (codes "\"ab\"")) ∷ (tok Operator 218 219 (codes ")")) ∷ (tok Operator 219 220 (codes ")")) ∷ (tok Inserted 220 220 (codes ";")) ∷ (tok Operator 221 222 (codes "}")) ∷ (tok Inserted 222 222 (codes ";")) ∷ []); comments = ((note 14 29) ∷ []) }) ∷ []) }

returned_whole_0_typed : is_typed returned_whole_0 ≡ true
returned_whole_0_typed = refl

returned_whole_0_step : first_change returned_whole_0 ≡ Some ((codes "main.go"), TailForm, (codes "package main\n\n//go:fix inline\nfunc Split(s string) (string, string) {\n\tif len(s) > 1 {\n\t\treturn s[:1], s[1:]\n\t}\n\treturn s, \"\"\n}\n\nfunc Cut(t string) (string, string) {\n\t{\n\t\tif len(t) > 1 {\n\t\t\treturn t[:1], t[1:]\n\t\t}\n\t\treturn t, \"\"\n\t}\n}\n\nfunc main() {\n\tprintln(Cut(\"ab\"))\n}\n"))
returned_whole_0_step = refl

abbrev returned_whole_1_f0 : File Span
returned_whole_1_f0 = record { package_name = (nm 8 12 (codes "main")); imports = []; decls = ((fn (at 30 127) None (nm 35 40 (codes "Split")) (sig ((param (at 41 49) (Some (nm 41 42 (codes "s"))) (named (at 43 49) None (nm 43 49 (codes "string")))) ∷ []) ((param (at 52 58) None (named (at 52 58) None (nm 52 58 (codes "string")))) ∷ (param (at 60 66) None (named (at 60 66) None (nm 60 66 (codes "string")))) ∷ [])) (at 68 127) (stmt_and (if_ (at 71 111) (arm (at 71 111) no_stmt (binary (at 74 84) Gt (call (at 74 80) (ident (at 74 77) (codes "len")) (expr_and (ident (at 78 79) (codes "s")) no_exprs) Plain) (int_lit (at 83 84) (codes "1"))) (at 85 111) (stmt_and (return_ (at 89 108) (expr_and (slice (at 96 101) (ident (at 96 97) (codes "s")) no_expr (some_expr (int_lit (at 99 100) (codes "1")))) (expr_and (slice (at 103 108) (ident (at 103 104) (codes "s")) (some_expr (int_lit (at 105 106) (codes "1"))) no_expr) no_exprs))) no_stmts) no_arms) no_block) (stmt_and (return_ (at 113 125) (expr_and (ident (at 120 121) (codes "s")) (expr_and (str_lit (at 123 125) (codes "\"\"")) no_exprs))) no_stmts))) ∷ (fn (at 129 234) None (nm 134 137 (codes "Cut")) (sig ((param (at 138 146) (Some (nm 138 139 (codes "t"))) (named (at 140 146) None (nm 140 146 (codes "string")))) ∷ []) ((param (at 149 155) None (named (at 149 155) None (nm 149 155 (codes "string")))) ∷ (param (at 157 163) None (named (at 157 163) None (nm 157 163 (codes "string")))) ∷ [])) (at 165 234) (stmt_and (inner (at 168 232) (stmt_and (if_ (at 172 214) (arm (at 172 214) no_stmt (binary (at 175 185) Gt (call (at 175 181) (ident (at 175 178) (codes "len")) (expr_and (ident (at 179 180) (codes "t")) no_exprs) Plain) (int_lit (at 184 185) (codes "1"))) (at 186 214) (stmt_and (return_ (at 191 210) (expr_and (slice (at 198 203) (ident (at 198 199) (codes "t")) no_expr (some_expr (int_lit (at 201 202) (codes "1")))) (expr_and (slice (at 205 210) (ident (at 205 206) (codes "t")) (some_expr (int_lit (at 207 208) (codes "1"))) no_expr) no_exprs))) no_stmts) no_arms) no_block) (stmt_and (return_ (at 217 229) (expr_and (ident (at 224 225) (codes "t")) (expr_and (str_lit (at 227 229) (codes "\"\"")) no_exprs))) no_stmts))) no_stmts)) ∷ (fn (at 236 271) None (nm 241 245 (codes "main")) (sig [] []) (at 248 271) (stmt_and (eval (at 251 269) (call (at 251 269) (ident (at 251 258) (codes "println")) (expr_and (call (at 259 268) (ident (at 259 262) (codes "Cut")) (expr_and (str_lit (at 263 267) (codes "\"ab\"")) no_exprs) Plain) no_exprs) Plain)) no_stmts)) ∷ []) }

returned_whole_1_f0_read : read_at span_to read_front (lexemes ((tok Keyword 0 7 (codes "package")) ∷ (tok Ident 8 12 (codes "main")) ∷ (tok Inserted 12 12 (codes ";")) ∷ (tok Keyword 30 34 (codes "func")) ∷ (tok Ident 35 40 (codes "Split")) ∷ (tok Operator 40 41 (codes "(")) ∷ (tok Ident 41 42 (codes "s")) ∷ (tok Ident 43 49 (codes "string")) ∷ (tok Operator 49 50 (codes ")")) ∷ (tok Operator 51 52 (codes "(")) ∷ (tok Ident 52 58 (codes "string")) ∷ (tok Operator 58 59 (codes ",")) ∷ (tok Ident 60 66 (codes "string")) ∷ (tok Operator 66 67 (codes ")")) ∷ (tok Operator 68 69 (codes "{")) ∷ (tok Keyword 71 73 (codes "if")) ∷ (tok Ident 74 77 (codes "len")) ∷ (tok Operator 77 78 (codes "(")) ∷ (tok Ident 78 79 (codes "s")) ∷ (tok Operator 79 80 (codes ")")) ∷ (tok Operator 81 82 (codes ">")) ∷ (tok Integer 83 84 (codes "1")) ∷ (tok Operator 85 86 (codes "{")) ∷ (tok Keyword 89 95 (codes "return")) ∷ (tok Ident 96 97 (codes "s")) ∷ (tok Operator 97 98 (codes "[")) ∷ (tok Operator 98 99 (codes ":")) ∷ (tok Integer 99 100 (codes "1")) ∷ (tok Operator 100 101 (codes "]")) ∷ (tok Operator 101 102 (codes ",")) ∷ (tok Ident 103 104 (codes "s")) ∷ (tok Operator 104 105 (codes "[")) ∷ (tok Integer 105 106 (codes "1")) ∷ (tok Operator 106 107 (codes ":")) ∷ (tok Operator 107 108 (codes "]")) ∷ (tok Inserted 108 108 (codes ";")) ∷ (tok Operator 110 111 (codes "}")) ∷ (tok Inserted 111 111 (codes ";")) ∷ (tok Keyword 113 119 (codes "return")) ∷ (tok Ident 120 121 (codes "s")) ∷ (tok Operator 121 122 (codes ",")) ∷ (tok Str 123 125 (codes "\"\"")) ∷ (tok Inserted 125 125 (codes ";")) ∷ (tok Operator 126 127 (codes "}")) ∷ (tok Inserted 127 127 (codes ";")) ∷ (tok Keyword 129 133 (codes "func")) ∷ (tok Ident 134 137 (codes "Cut")) ∷ (tok Operator 137 138 (codes "(")) ∷ (tok Ident 138 139 (codes "t")) ∷ (tok Ident 140 146 (codes "string")) ∷ (tok Operator 146 147 (codes ")")) ∷ (tok Operator 148 149 (codes "(")) ∷ (tok Ident 149 155 (codes "string")) ∷ (tok Operator 155 156 (codes ",")) ∷ (tok Ident 157 163 (codes "string")) ∷ (tok Operator 163 164 (codes ")")) ∷ (tok Operator 165 166 (codes "{")) ∷ (tok Operator 168 169 (codes "{")) ∷ (tok Keyword 172 174 (codes "if")) ∷ (tok Ident 175 178 (codes "len")) ∷ (tok Operator 178 179 (codes "(")) ∷ (tok Ident 179 180 (codes "t")) ∷ (tok Operator 180 181 (codes ")")) ∷ (tok Operator 182 183 (codes ">")) ∷ (tok Integer 184 185 (codes "1")) ∷ (tok Operator 186 187 (codes "{")) ∷ (tok Keyword 191 197 (codes "return")) ∷ (tok Ident 198 199 (codes "t")) ∷ (tok Operator 199 200 (codes "[")) ∷ (tok Operator 200 201 (codes ":")) ∷ (tok Integer 201 202 (codes "1")) ∷ (tok Operator 202 203 (codes "]")) ∷ (tok Operator 203 204 (codes ",")) ∷ (tok Ident 205 206 (codes "t")) ∷ (tok Operator 206 207 (codes "[")) ∷ (tok Integer 207 208 (codes "1")) ∷ (tok Operator 208 209 (codes ":")) ∷ (tok Operator 209 210 (codes "]")) ∷ (tok Inserted 210 210 (codes ";")) ∷ (tok Operator 213 214 (codes "}")) ∷ (tok Inserted 214 214 (codes ";")) ∷ (tok Keyword 217 223 (codes "return")) ∷ (tok Ident 224 225 (codes "t")) ∷ (tok Operator 225 226 (codes ",")) ∷ (tok Str 227 229 (codes "\"\"")) ∷ (tok Inserted 229 229 (codes ";")) ∷ (tok Operator 231 232 (codes "}")) ∷ (tok Inserted 232 232 (codes ";")) ∷ (tok Operator 233 234 (codes "}")) ∷ (tok Inserted 234 234 (codes ";")) ∷ (tok Keyword 236 240 (codes "func")) ∷ (tok Ident 241 245 (codes "main")) ∷ (tok Operator 245 246 (codes "(")) ∷ (tok Operator 246 247 (codes ")")) ∷ (tok Operator 248 249 (codes "{")) ∷ (tok Ident 251 258 (codes "println")) ∷ (tok Operator 258 259 (codes "(")) ∷ (tok Ident 259 262 (codes "Cut")) ∷ (tok Operator 262 263 (codes "(")) ∷ (tok Str 263 267 (codes "\"ab\"")) ∷ (tok Operator 267 268 (codes ")")) ∷ (tok Operator 268 269 (codes ")")) ∷ (tok Inserted 269 269 (codes ";")) ∷ (tok Operator 270 271 (codes "}")) ∷ (tok Inserted 271 271 (codes ";")) ∷ [])) ≡ Some (returned_whole_1_f0, [])
unfolding reading
returned_whole_1_f0_read = refl

abbrev returned_whole_1 : Module
returned_whole_1 = record { packages = (pack (codes "example.com/m") (codes "main") (source (codes "main.go") returned_whole_1_f0 ∷ []) ∷ []); marks = (mark 0 0 0 0 ∷ []); texts = (((codes "main.go"), record { text = (codes "package main\n\n//go:fix inline\nfunc Split(s string) (string, string) {\n\tif len(s) > 1 {\n\t\treturn s[:1], s[1:]\n\t}\n\treturn s, \"\"\n}\n\nfunc Cut(t string) (string, string) {\n\t{\n\t\tif len(t) > 1 {\n\t\t\treturn t[:1], t[1:]\n\t\t}\n\t\treturn t, \"\"\n\t}\n}\n\nfunc main() {\n\tprintln(Cut(\"ab\"))\n}\n"); tokens = ((tok Keyword 0 7 (codes "package")) ∷ (tok Ident 8 12 (codes "main")) ∷ (tok Inserted 12 12 (codes ";")) ∷ (tok Keyword 30 34 (codes "func")) ∷ (tok Ident 35 40 (codes "Split")) ∷ (tok Operator 40 41 (codes "(")) ∷ (tok Ident 41 42 (codes "s")) ∷ (tok Ident 43 49 (codes "string")) ∷ (tok Operator 49 50 (codes ")")) ∷ (tok Operator 51 52 (codes "(")) ∷ (tok Ident 52 58 (codes "string")) ∷ (tok Operator 58 59 (codes ",")) ∷ (tok Ident 60 66 (codes "string")) ∷ (tok Operator 66 67 (codes ")")) ∷ (tok Operator 68 69 (codes "{")) ∷ (tok Keyword 71 73 (codes "if")) ∷ (tok Ident 74 77 (codes "len")) ∷ (tok Operator 77 78 (codes "(")) ∷ (tok Ident 78 79 (codes "s")) ∷ (tok Operator 79 80 (codes ")")) ∷ (tok Operator 81 82 (codes ">")) ∷ (tok Integer 83 84 (codes "1")) ∷ (tok Operator 85 86 (codes "{")) ∷ (tok Keyword 89 95 (codes "return")) ∷ (tok Ident 96 97 (codes "s")) ∷ (tok Operator 97 98 (codes "[")) ∷ (tok Operator 98 99 (codes ":")) ∷ (tok Integer 99 100 (codes "1")) ∷ (tok Operator 100 101 (codes "]")) ∷ (tok Operator 101 102 (codes ",")) ∷ (tok Ident 103 104 (codes "s")) ∷ (tok Operator 104 105 (codes "[")) ∷ (tok Integer 105 106 (codes "1")) ∷ (tok Operator 106 107 (codes ":")) ∷ (tok Operator 107 108 (codes "]")) ∷ (tok Inserted 108 108 (codes ";")) ∷ (tok Operator 110 111 (codes "}")) ∷ (tok Inserted 111 111 (codes ";")) ∷ (tok Keyword 113 119 (codes "return")) ∷ (tok Ident 120 121 (codes "s")) ∷ (tok Operator 121 122 (codes ",")) ∷ (tok Str 123 125 (codes "\"\"")) ∷ (tok Inserted 125 125 (codes ";")) ∷ (tok Operator 126 127 (codes "}")) ∷ (tok Inserted 127 127 (codes ";")) ∷ (tok Keyword 129 133 (codes "func")) ∷ (tok Ident 134 137 (codes "Cut")) ∷ (tok Operator 137 138 (codes "(")) ∷ (tok Ident 138 139 (codes "t")) ∷ (tok Ident 140 146 (codes "string")) ∷ (tok Operator 146 147 (codes ")")) ∷ (tok Operator 148 149 (codes "(")) ∷ (tok Ident 149 155 (codes "string")) ∷ (tok Operator 155 156 (codes ",")) ∷ (tok Ident 157 163 (codes "string")) ∷ (tok Operator 163 164 (codes ")")) ∷ (tok Operator 165 166 (codes "{")) ∷ (tok Operator 168 169 (codes "{")) ∷ (tok Keyword 172 174 (codes "if")) ∷ (tok Ident 175 178 (codes "len")) ∷ (tok Operator 178 179 (codes "(")) ∷ (tok Ident 179 180 (codes "t")) ∷ (tok Operator 180 181 (codes ")")) ∷ (tok Operator 182 183 (codes ">")) ∷ (tok Integer 184 185 (codes "1")) ∷ (tok Operator 186 187 (codes "{")) ∷ (tok Keyword 191 197 (codes "return")) ∷ (tok Ident 198 199 (codes "t")) ∷ (tok Operator 199 200 (codes "[")) ∷ (tok Operator 200 201 (codes ":")) ∷ (tok Integer 201 202 (codes "1")) ∷ (tok Operator 202 203 (codes "]")) ∷ (tok Operator 203 204 (codes ",")) ∷ (tok Ident 205 206 (codes "t")) ∷ (tok Operator 206 207 (codes "[")) ∷ (tok Integer 207 208 (codes "1")) ∷ (tok Operator 208 209 (codes ":")) ∷ (tok Operator 209 210 (codes "]")) ∷ (tok Inserted 210 210 (codes ";")) ∷ (tok Operator 213 214 (codes "}")) ∷ (tok Inserted 214 214 (codes ";")) ∷ (tok Keyword 217 223 (codes "return")) ∷ (tok Ident 224 225 (codes "t")) ∷ (tok Operator 225 226 (codes ",")) ∷ (tok Str 227 229 (codes "\"\"")) ∷ (tok Inserted 229 229 (codes ";")) ∷ (tok Operator 231 232 (codes "}")) ∷ (tok Inserted 232 232 (codes ";")) ∷ (tok Operator 233 234 (codes "}")) ∷ (tok Inserted 234 234 (codes ";")) ∷ (tok Keyword 236 240 (codes "func")) ∷ (tok Ident 241 245 (codes "main")) ∷ (tok Operator 245 246 (codes "(")) ∷ (tok Operator 246 247 (codes ")")) ∷ (tok Operator 248 249 (codes "{")) ∷ (tok Ident 251 258 (codes "println")) ∷ (tok Operator 258 259 (codes "(")) ∷ (tok Ident 259 262 (codes "Cut")) ∷ (tok Operator 262 263 (codes "(")) ∷ (tok Str 263 267 (codes "\"ab\"")) ∷ (tok Operator 267 268 (codes ")")) ∷ (tok Operator 268 269 (codes ")")) ∷ (tok Inserted 269 269 (codes ";")) ∷ (tok Operator 270 271 (codes "}")) ∷ (tok Inserted 271 271 (codes ";")) ∷ []); comments = ((note 14 29) ∷ []) }) ∷ []) }

returned_whole_1_typed : is_typed returned_whole_1 ≡ true
returned_whole_1_typed = refl

returned_whole_1_ends : step_of returned_whole_1 ≡ None
returned_whole_1_ends = refl

returned_whole_1_kept : kept_uses returned_whole_1 ≡ []
returned_whole_1_kept = refl

-- A composite literal in a header.
abbrev literal_in_header_0_f0 : File Span
literal_in_header_0_f0 = record { package_name = (nm 8 12 (codes "main")); imports = []; decls = ((types (at 14 36) false ((tspec (at 19 36) (nm 19 20 (codes "P")) false (struct_type (at 21 36) (field (at 29 34) (nm 29 30 (codes "n")) (named (at 31 34) None (nm 31 34 (codes "int"))) no_fields))) ∷ [])) ∷ (fn (at 54 95) None (nm 59 64 (codes "IsOne")) (sig ((param (at 65 68) (Some (nm 65 66 (codes "p"))) (named (at 67 68) None (nm 67 68 (codes "P")))) ∷ []) ((param (at 70 74) None (named (at 70 74) None (nm 70 74 (codes "bool")))) ∷ [])) (at 75 95) (stmt_and (return_ (at 77 93) (expr_and (binary (at 84 93) Eq (ident (at 84 85) (codes "p")) (composite (at 89 93) (named (at 89 90) None (nm 89 90 (codes "P"))) (elem (at 91 92) no_value (plain (int_lit (at 91 92) (codes "1"))) no_elems))) no_exprs)) no_stmts)) ∷ (fn (at 97 154) None (nm 102 106 (codes "main")) (sig [] []) (at 109 154) (stmt_and (define (at 112 121) ((nm 112 113 (codes "q")) ∷ []) (expr_and (composite (at 117 121) (named (at 117 118) None (nm 117 118 (codes "P"))) (elem (at 119 120) no_value (plain (int_lit (at 119 120) (codes "1"))) no_elems)) no_exprs)) (stmt_and (if_ (at 123 152) (arm (at 123 152) no_stmt (call (at 126 134) (ident (at 126 131) (codes "IsOne")) (expr_and (ident (at 132 133) (codes "q")) no_exprs) Plain) (at 135 152) (stmt_and (eval (at 139 149) (call (at 139 149) (ident (at 139 146) (codes "println")) (expr_and (int_lit (at 147 148) (codes "1")) no_exprs) Plain)) no_stmts) no_arms) no_block) no_stmts))) ∷ []) }

literal_in_header_0_f0_read : read_at span_to read_front (lexemes ((tok Keyword 0 7 (codes "package")) ∷ (tok Ident 8 12 (codes "main")) ∷ (tok Inserted 12 12 (codes ";")) ∷ (tok Keyword 14 18 (codes "type")) ∷ (tok Ident 19 20 (codes "P")) ∷ (tok Keyword 21 27 (codes "struct")) ∷ (tok Operator 27 28 (codes "{")) ∷ (tok Ident 29 30 (codes "n")) ∷ (tok Ident 31 34 (codes "int")) ∷ (tok Operator 35 36 (codes "}")) ∷ (tok Inserted 36 36 (codes ";")) ∷ (tok Keyword 54 58 (codes "func")) ∷ (tok Ident 59 64 (codes "IsOne")) ∷ (tok Operator 64 65 (codes "(")) ∷ (tok Ident 65 66 (codes "p")) ∷ (tok Ident 67 68 (codes "P")) ∷ (tok Operator 68 69 (codes ")")) ∷ (tok Ident 70 74 (codes "bool")) ∷ (tok Operator 75 76 (codes "{")) ∷ (tok Keyword 77 83 (codes "return")) ∷ (tok Ident 84 85 (codes "p")) ∷ (tok Operator 86 88 (codes "==")) ∷ (tok Ident 89 90 (codes "P")) ∷ (tok Operator 90 91 (codes "{")) ∷ (tok Integer 91 92 (codes "1")) ∷ (tok Operator 92 93 (codes "}")) ∷ (tok Operator 94 95 (codes "}")) ∷ (tok Inserted 95 95 (codes ";")) ∷ (tok Keyword 97 101 (codes "func")) ∷ (tok Ident 102 106 (codes "main")) ∷ (tok Operator 106 107 (codes "(")) ∷ (tok Operator 107 108 (codes ")")) ∷ (tok Operator 109 110 (codes "{")) ∷ (tok Ident 112 113 (codes "q")) ∷ (tok Operator 114 116 (codes ":=")) ∷ (tok Ident 117 118 (codes "P")) ∷ (tok Operator 118 119 (codes "{")) ∷ (tok Integer 119 120 (codes "1")) ∷ (tok Operator 120 121 (codes "}")) ∷ (tok Inserted 121 121 (codes ";")) ∷ (tok Keyword 123 125 (codes "if")) ∷ (tok Ident 126 131 (codes "IsOne")) ∷ (tok Operator 131 132 (codes "(")) ∷ (tok Ident 132 133 (codes "q")) ∷ (tok Operator 133 134 (codes ")")) ∷ (tok Operator 135 136 (codes "{")) ∷ (tok Ident 139 146 (codes "println")) ∷ (tok Operator 146 147 (codes "(")) ∷ (tok Integer 147 148 (codes "1")) ∷ (tok Operator 148 149 (codes ")")) ∷ (tok Inserted 149 149 (codes ";")) ∷ (tok Operator 151 152 (codes "}")) ∷ (tok Inserted 152 152 (codes ";")) ∷ (tok Operator 153 154 (codes "}")) ∷ (tok Inserted 154 154 (codes ";")) ∷ [])) ≡ Some (literal_in_header_0_f0, [])
unfolding reading
literal_in_header_0_f0_read = refl

abbrev literal_in_header_0 : Module
literal_in_header_0 = record { packages = (pack (codes "example.com/m") (codes "main") (source (codes "main.go") literal_in_header_0_f0 ∷ []) ∷ []); marks = (mark 0 0 1 0 ∷ []); texts = (((codes "main.go"), record { text = (codes "package main\n\ntype P struct{ n int }\n\n//go:fix inline\nfunc IsOne(p P) bool { return p == P{1} }\n\nfunc main() {\n\tq := P{1}\n\tif IsOne(q) {\n\t\tprintln(1)\n\t}\n}\n"); tokens = ((tok Keyword 0 7 (codes "package")) ∷ (tok Ident 8 12 (codes "main")) ∷ (tok Inserted 12 12 (codes ";")) ∷ (tok Keyword 14 18 (codes "type")) ∷ (tok Ident 19 20 (codes "P")) ∷ (tok Keyword 21 27 (codes "struct")) ∷ (tok Operator 27 28 (codes "{")) ∷ (tok Ident 29 30 (codes "n")) ∷ (tok Ident 31 34 (codes "int")) ∷ (tok Operator 35 36 (codes "}")) ∷ (tok Inserted 36 36 (codes ";")) ∷ (tok Keyword 54 58 (codes "func")) ∷ (tok Ident 59 64 (codes "IsOne")) ∷ (tok Operator 64 65 (codes "(")) ∷ (tok Ident 65 66 (codes "p")) ∷ (tok Ident 67 68 (codes "P")) ∷ (tok Operator 68 69 (codes ")")) ∷ (tok Ident 70 74 (codes "bool")) ∷ (tok Operator 75 76 (codes "{")) ∷ (tok Keyword 77 83 (codes "return")) ∷ (tok Ident 84 85 (codes "p")) ∷ (tok Operator 86 88 (codes "==")) ∷ (tok Ident 89 90 (codes "P")) ∷ (tok Operator 90 91 (codes "{")) ∷ (tok Integer 91 92 (codes "1")) ∷ (tok Operator 92 93 (codes "}")) ∷ (tok Operator 94 95 (codes "}")) ∷ (tok Inserted 95 95 (codes ";")) ∷ (tok Keyword 97 101 (codes "func")) ∷ (tok Ident 102 106 (codes "main")) ∷ (tok Operator 106 107 (codes "(")) ∷ (tok Operator 107 108 (codes ")")) ∷ (tok Operator 109 110 (codes "{")) ∷ (tok Ident 112 113 (codes "q")) ∷ (tok Operator 114 116 (codes ":=")) ∷ (tok Ident 117 118 (codes "P")) ∷ (tok Operator 118 119 (codes "{")) ∷ (tok Integer 119 120 (codes "1")) ∷ (tok Operator 120 121 (codes "}")) ∷ (tok Inserted 121 121 (codes ";")) ∷ (tok Keyword 123 125 (codes "if")) ∷ (tok Ident 126 131 (codes "IsOne")) ∷ (tok Operator 131 132 (codes "(")) ∷ (tok Ident 132 133 (codes "q")) ∷ (tok Operator 133 134 (codes ")")) ∷ (tok Operator 135 136 (codes "{")) ∷ (tok Ident 139 146 (codes "println")) ∷ (tok Operator 146 147 (codes "(")) ∷ (tok Integer 147 148 (codes "1")) ∷ (tok Operator 148 149 (codes ")")) ∷ (tok Inserted 149 149 (codes ";")) ∷ (tok Operator 151 152 (codes "}")) ∷ (tok Inserted 152 152 (codes ";")) ∷ (tok Operator 153 154 (codes "}")) ∷ (tok Inserted 154 154 (codes ";")) ∷ []); comments = ((note 38 53) ∷ []) }) ∷ []) }

literal_in_header_0_typed : is_typed literal_in_header_0 ≡ true
literal_in_header_0_typed = refl

literal_in_header_0_step : first_change literal_in_header_0 ≡ Some ((codes "main.go"), ExprForm, (codes "package main\n\ntype P struct{ n int }\n\n//go:fix inline\nfunc IsOne(p P) bool { return p == P{1} }\n\nfunc main() {\n\tq := P{1}\n\tif q == (P{1}) {\n\t\tprintln(1)\n\t}\n}\n"))
literal_in_header_0_step = refl

abbrev literal_in_header_1_f0 : File Span
literal_in_header_1_f0 = record { package_name = (nm 8 12 (codes "main")); imports = []; decls = ((types (at 14 36) false ((tspec (at 19 36) (nm 19 20 (codes "P")) false (struct_type (at 21 36) (field (at 29 34) (nm 29 30 (codes "n")) (named (at 31 34) None (nm 31 34 (codes "int"))) no_fields))) ∷ [])) ∷ (fn (at 54 95) None (nm 59 64 (codes "IsOne")) (sig ((param (at 65 68) (Some (nm 65 66 (codes "p"))) (named (at 67 68) None (nm 67 68 (codes "P")))) ∷ []) ((param (at 70 74) None (named (at 70 74) None (nm 70 74 (codes "bool")))) ∷ [])) (at 75 95) (stmt_and (return_ (at 77 93) (expr_and (binary (at 84 93) Eq (ident (at 84 85) (codes "p")) (composite (at 89 93) (named (at 89 90) None (nm 89 90 (codes "P"))) (elem (at 91 92) no_value (plain (int_lit (at 91 92) (codes "1"))) no_elems))) no_exprs)) no_stmts)) ∷ (fn (at 97 157) None (nm 102 106 (codes "main")) (sig [] []) (at 109 157) (stmt_and (define (at 112 121) ((nm 112 113 (codes "q")) ∷ []) (expr_and (composite (at 117 121) (named (at 117 118) None (nm 117 118 (codes "P"))) (elem (at 119 120) no_value (plain (int_lit (at 119 120) (codes "1"))) no_elems)) no_exprs)) (stmt_and (if_ (at 123 155) (arm (at 123 155) no_stmt (binary (at 126 137) Eq (ident (at 126 127) (codes "q")) (composite (at 132 136) (named (at 132 133) None (nm 132 133 (codes "P"))) (elem (at 134 135) no_value (plain (int_lit (at 134 135) (codes "1"))) no_elems))) (at 138 155) (stmt_and (eval (at 142 152) (call (at 142 152) (ident (at 142 149) (codes "println")) (expr_and (int_lit (at 150 151) (codes "1")) no_exprs) Plain)) no_stmts) no_arms) no_block) no_stmts))) ∷ []) }

literal_in_header_1_f0_read : read_at span_to read_front (lexemes ((tok Keyword 0 7 (codes "package")) ∷ (tok Ident 8 12 (codes "main")) ∷ (tok Inserted 12 12 (codes ";")) ∷ (tok Keyword 14 18 (codes "type")) ∷ (tok Ident 19 20 (codes "P")) ∷ (tok Keyword 21 27 (codes "struct")) ∷ (tok Operator 27 28 (codes "{")) ∷ (tok Ident 29 30 (codes "n")) ∷ (tok Ident 31 34 (codes "int")) ∷ (tok Operator 35 36 (codes "}")) ∷ (tok Inserted 36 36 (codes ";")) ∷ (tok Keyword 54 58 (codes "func")) ∷ (tok Ident 59 64 (codes "IsOne")) ∷ (tok Operator 64 65 (codes "(")) ∷ (tok Ident 65 66 (codes "p")) ∷ (tok Ident 67 68 (codes "P")) ∷ (tok Operator 68 69 (codes ")")) ∷ (tok Ident 70 74 (codes "bool")) ∷ (tok Operator 75 76 (codes "{")) ∷ (tok Keyword 77 83 (codes "return")) ∷ (tok Ident 84 85 (codes "p")) ∷ (tok Operator 86 88 (codes "==")) ∷ (tok Ident 89 90 (codes "P")) ∷ (tok Operator 90 91 (codes "{")) ∷ (tok Integer 91 92 (codes "1")) ∷ (tok Operator 92 93 (codes "}")) ∷ (tok Operator 94 95 (codes "}")) ∷ (tok Inserted 95 95 (codes ";")) ∷ (tok Keyword 97 101 (codes "func")) ∷ (tok Ident 102 106 (codes "main")) ∷ (tok Operator 106 107 (codes "(")) ∷ (tok Operator 107 108 (codes ")")) ∷ (tok Operator 109 110 (codes "{")) ∷ (tok Ident 112 113 (codes "q")) ∷ (tok Operator 114 116 (codes ":=")) ∷ (tok Ident 117 118 (codes "P")) ∷ (tok Operator 118 119 (codes "{")) ∷ (tok Integer 119 120 (codes "1")) ∷ (tok Operator 120 121 (codes "}")) ∷ (tok Inserted 121 121 (codes ";")) ∷ (tok Keyword 123 125 (codes "if")) ∷ (tok Ident 126 127 (codes "q")) ∷ (tok Operator 128 130 (codes "==")) ∷ (tok Operator 131 132 (codes "(")) ∷ (tok Ident 132 133 (codes "P")) ∷ (tok Operator 133 134 (codes "{")) ∷ (tok Integer 134 135 (codes "1")) ∷ (tok Operator 135 136 (codes "}")) ∷ (tok Operator 136 137 (codes ")")) ∷ (tok Operator 138 139 (codes "{")) ∷ (tok Ident 142 149 (codes "println")) ∷ (tok Operator 149 150 (codes "(")) ∷ (tok Integer 150 151 (codes "1")) ∷ (tok Operator 151 152 (codes ")")) ∷ (tok Inserted 152 152 (codes ";")) ∷ (tok Operator 154 155 (codes "}")) ∷ (tok Inserted 155 155 (codes ";")) ∷ (tok Operator 156 157 (codes "}")) ∷ (tok Inserted 157 157 (codes ";")) ∷ [])) ≡ Some (literal_in_header_1_f0, [])
unfolding reading
literal_in_header_1_f0_read = refl

abbrev literal_in_header_1 : Module
literal_in_header_1 = record { packages = (pack (codes "example.com/m") (codes "main") (source (codes "main.go") literal_in_header_1_f0 ∷ []) ∷ []); marks = (mark 0 0 1 0 ∷ []); texts = (((codes "main.go"), record { text = (codes "package main\n\ntype P struct{ n int }\n\n//go:fix inline\nfunc IsOne(p P) bool { return p == P{1} }\n\nfunc main() {\n\tq := P{1}\n\tif q == (P{1}) {\n\t\tprintln(1)\n\t}\n}\n"); tokens = ((tok Keyword 0 7 (codes "package")) ∷ (tok Ident 8 12 (codes "main")) ∷ (tok Inserted 12 12 (codes ";")) ∷ (tok Keyword 14 18 (codes "type")) ∷ (tok Ident 19 20 (codes "P")) ∷ (tok Keyword 21 27 (codes "struct")) ∷ (tok Operator 27 28 (codes "{")) ∷ (tok Ident 29 30 (codes "n")) ∷ (tok Ident 31 34 (codes "int")) ∷ (tok Operator 35 36 (codes "}")) ∷ (tok Inserted 36 36 (codes ";")) ∷ (tok Keyword 54 58 (codes "func")) ∷ (tok Ident 59 64 (codes "IsOne")) ∷ (tok Operator 64 65 (codes "(")) ∷ (tok Ident 65 66 (codes "p")) ∷ (tok Ident 67 68 (codes "P")) ∷ (tok Operator 68 69 (codes ")")) ∷ (tok Ident 70 74 (codes "bool")) ∷ (tok Operator 75 76 (codes "{")) ∷ (tok Keyword 77 83 (codes "return")) ∷ (tok Ident 84 85 (codes "p")) ∷ (tok Operator 86 88 (codes "==")) ∷ (tok Ident 89 90 (codes "P")) ∷ (tok Operator 90 91 (codes "{")) ∷ (tok Integer 91 92 (codes "1")) ∷ (tok Operator 92 93 (codes "}")) ∷ (tok Operator 94 95 (codes "}")) ∷ (tok Inserted 95 95 (codes ";")) ∷ (tok Keyword 97 101 (codes "func")) ∷ (tok Ident 102 106 (codes "main")) ∷ (tok Operator 106 107 (codes "(")) ∷ (tok Operator 107 108 (codes ")")) ∷ (tok Operator 109 110 (codes "{")) ∷ (tok Ident 112 113 (codes "q")) ∷ (tok Operator 114 116 (codes ":=")) ∷ (tok Ident 117 118 (codes "P")) ∷ (tok Operator 118 119 (codes "{")) ∷ (tok Integer 119 120 (codes "1")) ∷ (tok Operator 120 121 (codes "}")) ∷ (tok Inserted 121 121 (codes ";")) ∷ (tok Keyword 123 125 (codes "if")) ∷ (tok Ident 126 127 (codes "q")) ∷ (tok Operator 128 130 (codes "==")) ∷ (tok Operator 131 132 (codes "(")) ∷ (tok Ident 132 133 (codes "P")) ∷ (tok Operator 133 134 (codes "{")) ∷ (tok Integer 134 135 (codes "1")) ∷ (tok Operator 135 136 (codes "}")) ∷ (tok Operator 136 137 (codes ")")) ∷ (tok Operator 138 139 (codes "{")) ∷ (tok Ident 142 149 (codes "println")) ∷ (tok Operator 149 150 (codes "(")) ∷ (tok Integer 150 151 (codes "1")) ∷ (tok Operator 151 152 (codes ")")) ∷ (tok Inserted 152 152 (codes ";")) ∷ (tok Operator 154 155 (codes "}")) ∷ (tok Inserted 155 155 (codes ";")) ∷ (tok Operator 156 157 (codes "}")) ∷ (tok Inserted 157 157 (codes ";")) ∷ []); comments = ((note 38 53) ∷ []) }) ∷ []) }

literal_in_header_1_typed : is_typed literal_in_header_1 ≡ true
literal_in_header_1_typed = refl

literal_in_header_1_ends : step_of literal_in_header_1 ≡ None
literal_in_header_1_ends = refl

literal_in_header_1_kept : kept_uses literal_in_header_1 ≡ []
literal_in_header_1_kept = refl

-- A method with a pointer receiver.
abbrev pointer_method_0_f0 : File Span
pointer_method_0_f0 = record { package_name = (nm 8 12 (codes "main")); imports = []; decls = ((types (at 14 36) false ((tspec (at 19 36) (nm 19 20 (codes "C")) false (struct_type (at 21 36) (field (at 29 34) (nm 29 30 (codes "n")) (named (at 31 34) None (nm 31 34 (codes "int"))) no_fields))) ∷ [])) ∷ (fn (at 54 90) (Some (recv (at 60 64) (Some (nm 60 61 (codes "c"))) true (nm 63 64 (codes "C")))) (nm 66 69 (codes "Get")) (sig [] ((param (at 72 75) None (named (at 72 75) None (nm 72 75 (codes "int")))) ∷ [])) (at 76 90) (stmt_and (return_ (at 78 88) (expr_and (selector (at 85 88) (ident (at 85 86) (codes "c")) (nm 87 88 (codes "n"))) no_exprs)) no_stmts)) ∷ (fn (at 92 134) None (nm 97 101 (codes "main")) (sig [] []) (at 104 134) (stmt_and (var_decl (at 107 114) false (spec (at 111 114) ((nm 111 112 (codes "v")) ∷ []) (Some (named (at 113 114) None (nm 113 114 (codes "C")))) no_exprs no_specs)) (stmt_and (eval (at 116 132) (call (at 116 132) (ident (at 116 123) (codes "println")) (expr_and (call (at 124 131) (selector (at 124 129) (ident (at 124 125) (codes "v")) (nm 126 129 (codes "Get"))) no_exprs Plain) no_exprs) Plain)) no_stmts))) ∷ []) }

pointer_method_0_f0_read : read_at span_to read_front (lexemes ((tok Keyword 0 7 (codes "package")) ∷ (tok Ident 8 12 (codes "main")) ∷ (tok Inserted 12 12 (codes ";")) ∷ (tok Keyword 14 18 (codes "type")) ∷ (tok Ident 19 20 (codes "C")) ∷ (tok Keyword 21 27 (codes "struct")) ∷ (tok Operator 27 28 (codes "{")) ∷ (tok Ident 29 30 (codes "n")) ∷ (tok Ident 31 34 (codes "int")) ∷ (tok Operator 35 36 (codes "}")) ∷ (tok Inserted 36 36 (codes ";")) ∷ (tok Keyword 54 58 (codes "func")) ∷ (tok Operator 59 60 (codes "(")) ∷ (tok Ident 60 61 (codes "c")) ∷ (tok Operator 62 63 (codes "*")) ∷ (tok Ident 63 64 (codes "C")) ∷ (tok Operator 64 65 (codes ")")) ∷ (tok Ident 66 69 (codes "Get")) ∷ (tok Operator 69 70 (codes "(")) ∷ (tok Operator 70 71 (codes ")")) ∷ (tok Ident 72 75 (codes "int")) ∷ (tok Operator 76 77 (codes "{")) ∷ (tok Keyword 78 84 (codes "return")) ∷ (tok Ident 85 86 (codes "c")) ∷ (tok Operator 86 87 (codes ".")) ∷ (tok Ident 87 88 (codes "n")) ∷ (tok Operator 89 90 (codes "}")) ∷ (tok Inserted 90 90 (codes ";")) ∷ (tok Keyword 92 96 (codes "func")) ∷ (tok Ident 97 101 (codes "main")) ∷ (tok Operator 101 102 (codes "(")) ∷ (tok Operator 102 103 (codes ")")) ∷ (tok Operator 104 105 (codes "{")) ∷ (tok Keyword 107 110 (codes "var")) ∷ (tok Ident 111 112 (codes "v")) ∷ (tok Ident 113 114 (codes "C")) ∷ (tok Inserted 114 114 (codes ";")) ∷ (tok Ident 116 123 (codes "println")) ∷ (tok Operator 123 124 (codes "(")) ∷ (tok Ident 124 125 (codes "v")) ∷ (tok Operator 125 126 (codes ".")) ∷ (tok Ident 126 129 (codes "Get")) ∷ (tok Operator 129 130 (codes "(")) ∷ (tok Operator 130 131 (codes ")")) ∷ (tok Operator 131 132 (codes ")")) ∷ (tok Inserted 132 132 (codes ";")) ∷ (tok Operator 133 134 (codes "}")) ∷ (tok Inserted 134 134 (codes ";")) ∷ [])) ≡ Some (pointer_method_0_f0, [])
unfolding reading
pointer_method_0_f0_read = refl

abbrev pointer_method_0 : Module
pointer_method_0 = record { packages = (pack (codes "example.com/m") (codes "main") (source (codes "main.go") pointer_method_0_f0 ∷ []) ∷ []); marks = (mark 0 0 1 0 ∷ []); texts = (((codes "main.go"), record { text = (codes "package main\n\ntype C struct{ n int }\n\n//go:fix inline\nfunc (c *C) Get() int { return c.n }\n\nfunc main() {\n\tvar v C\n\tprintln(v.Get())\n}\n"); tokens = ((tok Keyword 0 7 (codes "package")) ∷ (tok Ident 8 12 (codes "main")) ∷ (tok Inserted 12 12 (codes ";")) ∷ (tok Keyword 14 18 (codes "type")) ∷ (tok Ident 19 20 (codes "C")) ∷ (tok Keyword 21 27 (codes "struct")) ∷ (tok Operator 27 28 (codes "{")) ∷ (tok Ident 29 30 (codes "n")) ∷ (tok Ident 31 34 (codes "int")) ∷ (tok Operator 35 36 (codes "}")) ∷ (tok Inserted 36 36 (codes ";")) ∷ (tok Keyword 54 58 (codes "func")) ∷ (tok Operator 59 60 (codes "(")) ∷ (tok Ident 60 61 (codes "c")) ∷ (tok Operator 62 63 (codes "*")) ∷ (tok Ident 63 64 (codes "C")) ∷ (tok Operator 64 65 (codes ")")) ∷ (tok Ident 66 69 (codes "Get")) ∷ (tok Operator 69 70 (codes "(")) ∷ (tok Operator 70 71 (codes ")")) ∷ (tok Ident 72 75 (codes "int")) ∷ (tok Operator 76 77 (codes "{")) ∷ (tok Keyword 78 84 (codes "return")) ∷ (tok Ident 85 86 (codes "c")) ∷ (tok Operator 86 87 (codes ".")) ∷ (tok Ident 87 88 (codes "n")) ∷ (tok Operator 89 90 (codes "}")) ∷ (tok Inserted 90 90 (codes ";")) ∷ (tok Keyword 92 96 (codes "func")) ∷ (tok Ident 97 101 (codes "main")) ∷ (tok Operator 101 102 (codes "(")) ∷ (tok Operator 102 103 (codes ")")) ∷ (tok Operator 104 105 (codes "{")) ∷ (tok Keyword 107 110 (codes "var")) ∷ (tok Ident 111 112 (codes "v")) ∷ (tok Ident 113 114 (codes "C")) ∷ (tok Inserted 114 114 (codes ";")) ∷ (tok Ident 116 123 (codes "println")) ∷ (tok Operator 123 124 (codes "(")) ∷ (tok Ident 124 125 (codes "v")) ∷ (tok Operator 125 126 (codes ".")) ∷ (tok Ident 126 129 (codes "Get")) ∷ (tok Operator 129 130 (codes "(")) ∷ (tok Operator 130 131 (codes ")")) ∷ (tok Operator 131 132 (codes ")")) ∷ (tok Inserted 132 132 (codes ";")) ∷ (tok Operator 133 134 (codes "}")) ∷ (tok Inserted 134 134 (codes ";")) ∷ []); comments = ((note 38 53) ∷ []) }) ∷ []) }

pointer_method_0_typed : is_typed pointer_method_0 ≡ true
pointer_method_0_typed = refl

pointer_method_0_step : first_change pointer_method_0 ≡ Some ((codes "main.go"), ExprForm, (codes "package main\n\ntype C struct{ n int }\n\n//go:fix inline\nfunc (c *C) Get() int { return c.n }\n\nfunc main() {\n\tvar v C\n\tprintln((&v).n)\n}\n"))
pointer_method_0_step = refl

abbrev pointer_method_1_f0 : File Span
pointer_method_1_f0 = record { package_name = (nm 8 12 (codes "main")); imports = []; decls = ((types (at 14 36) false ((tspec (at 19 36) (nm 19 20 (codes "C")) false (struct_type (at 21 36) (field (at 29 34) (nm 29 30 (codes "n")) (named (at 31 34) None (nm 31 34 (codes "int"))) no_fields))) ∷ [])) ∷ (fn (at 54 90) (Some (recv (at 60 64) (Some (nm 60 61 (codes "c"))) true (nm 63 64 (codes "C")))) (nm 66 69 (codes "Get")) (sig [] ((param (at 72 75) None (named (at 72 75) None (nm 72 75 (codes "int")))) ∷ [])) (at 76 90) (stmt_and (return_ (at 78 88) (expr_and (selector (at 85 88) (ident (at 85 86) (codes "c")) (nm 87 88 (codes "n"))) no_exprs)) no_stmts)) ∷ (fn (at 92 133) None (nm 97 101 (codes "main")) (sig [] []) (at 104 133) (stmt_and (var_decl (at 107 114) false (spec (at 111 114) ((nm 111 112 (codes "v")) ∷ []) (Some (named (at 113 114) None (nm 113 114 (codes "C")))) no_exprs no_specs)) (stmt_and (eval (at 116 131) (call (at 116 131) (ident (at 116 123) (codes "println")) (expr_and (selector (at 124 130) (unary (at 125 127) Address (ident (at 126 127) (codes "v"))) (nm 129 130 (codes "n"))) no_exprs) Plain)) no_stmts))) ∷ []) }

pointer_method_1_f0_read : read_at span_to read_front (lexemes ((tok Keyword 0 7 (codes "package")) ∷ (tok Ident 8 12 (codes "main")) ∷ (tok Inserted 12 12 (codes ";")) ∷ (tok Keyword 14 18 (codes "type")) ∷ (tok Ident 19 20 (codes "C")) ∷ (tok Keyword 21 27 (codes "struct")) ∷ (tok Operator 27 28 (codes "{")) ∷ (tok Ident 29 30 (codes "n")) ∷ (tok Ident 31 34 (codes "int")) ∷ (tok Operator 35 36 (codes "}")) ∷ (tok Inserted 36 36 (codes ";")) ∷ (tok Keyword 54 58 (codes "func")) ∷ (tok Operator 59 60 (codes "(")) ∷ (tok Ident 60 61 (codes "c")) ∷ (tok Operator 62 63 (codes "*")) ∷ (tok Ident 63 64 (codes "C")) ∷ (tok Operator 64 65 (codes ")")) ∷ (tok Ident 66 69 (codes "Get")) ∷ (tok Operator 69 70 (codes "(")) ∷ (tok Operator 70 71 (codes ")")) ∷ (tok Ident 72 75 (codes "int")) ∷ (tok Operator 76 77 (codes "{")) ∷ (tok Keyword 78 84 (codes "return")) ∷ (tok Ident 85 86 (codes "c")) ∷ (tok Operator 86 87 (codes ".")) ∷ (tok Ident 87 88 (codes "n")) ∷ (tok Operator 89 90 (codes "}")) ∷ (tok Inserted 90 90 (codes ";")) ∷ (tok Keyword 92 96 (codes "func")) ∷ (tok Ident 97 101 (codes "main")) ∷ (tok Operator 101 102 (codes "(")) ∷ (tok Operator 102 103 (codes ")")) ∷ (tok Operator 104 105 (codes "{")) ∷ (tok Keyword 107 110 (codes "var")) ∷ (tok Ident 111 112 (codes "v")) ∷ (tok Ident 113 114 (codes "C")) ∷ (tok Inserted 114 114 (codes ";")) ∷ (tok Ident 116 123 (codes "println")) ∷ (tok Operator 123 124 (codes "(")) ∷ (tok Operator 124 125 (codes "(")) ∷ (tok Operator 125 126 (codes "&")) ∷ (tok Ident 126 127 (codes "v")) ∷ (tok Operator 127 128 (codes ")")) ∷ (tok Operator 128 129 (codes ".")) ∷ (tok Ident 129 130 (codes "n")) ∷ (tok Operator 130 131 (codes ")")) ∷ (tok Inserted 131 131 (codes ";")) ∷ (tok Operator 132 133 (codes "}")) ∷ (tok Inserted 133 133 (codes ";")) ∷ [])) ≡ Some (pointer_method_1_f0, [])
unfolding reading
pointer_method_1_f0_read = refl

abbrev pointer_method_1 : Module
pointer_method_1 = record { packages = (pack (codes "example.com/m") (codes "main") (source (codes "main.go") pointer_method_1_f0 ∷ []) ∷ []); marks = (mark 0 0 1 0 ∷ []); texts = (((codes "main.go"), record { text = (codes "package main\n\ntype C struct{ n int }\n\n//go:fix inline\nfunc (c *C) Get() int { return c.n }\n\nfunc main() {\n\tvar v C\n\tprintln((&v).n)\n}\n"); tokens = ((tok Keyword 0 7 (codes "package")) ∷ (tok Ident 8 12 (codes "main")) ∷ (tok Inserted 12 12 (codes ";")) ∷ (tok Keyword 14 18 (codes "type")) ∷ (tok Ident 19 20 (codes "C")) ∷ (tok Keyword 21 27 (codes "struct")) ∷ (tok Operator 27 28 (codes "{")) ∷ (tok Ident 29 30 (codes "n")) ∷ (tok Ident 31 34 (codes "int")) ∷ (tok Operator 35 36 (codes "}")) ∷ (tok Inserted 36 36 (codes ";")) ∷ (tok Keyword 54 58 (codes "func")) ∷ (tok Operator 59 60 (codes "(")) ∷ (tok Ident 60 61 (codes "c")) ∷ (tok Operator 62 63 (codes "*")) ∷ (tok Ident 63 64 (codes "C")) ∷ (tok Operator 64 65 (codes ")")) ∷ (tok Ident 66 69 (codes "Get")) ∷ (tok Operator 69 70 (codes "(")) ∷ (tok Operator 70 71 (codes ")")) ∷ (tok Ident 72 75 (codes "int")) ∷ (tok Operator 76 77 (codes "{")) ∷ (tok Keyword 78 84 (codes "return")) ∷ (tok Ident 85 86 (codes "c")) ∷ (tok Operator 86 87 (codes ".")) ∷ (tok Ident 87 88 (codes "n")) ∷ (tok Operator 89 90 (codes "}")) ∷ (tok Inserted 90 90 (codes ";")) ∷ (tok Keyword 92 96 (codes "func")) ∷ (tok Ident 97 101 (codes "main")) ∷ (tok Operator 101 102 (codes "(")) ∷ (tok Operator 102 103 (codes ")")) ∷ (tok Operator 104 105 (codes "{")) ∷ (tok Keyword 107 110 (codes "var")) ∷ (tok Ident 111 112 (codes "v")) ∷ (tok Ident 113 114 (codes "C")) ∷ (tok Inserted 114 114 (codes ";")) ∷ (tok Ident 116 123 (codes "println")) ∷ (tok Operator 123 124 (codes "(")) ∷ (tok Operator 124 125 (codes "(")) ∷ (tok Operator 125 126 (codes "&")) ∷ (tok Ident 126 127 (codes "v")) ∷ (tok Operator 127 128 (codes ")")) ∷ (tok Operator 128 129 (codes ".")) ∷ (tok Ident 129 130 (codes "n")) ∷ (tok Operator 130 131 (codes ")")) ∷ (tok Inserted 131 131 (codes ";")) ∷ (tok Operator 132 133 (codes "}")) ∷ (tok Inserted 133 133 (codes ";")) ∷ []); comments = ((note 38 53) ∷ []) }) ∷ []) }

pointer_method_1_typed : is_typed pointer_method_1 ≡ true
pointer_method_1_typed = refl

pointer_method_1_ends : step_of pointer_method_1 ≡ None
pointer_method_1_ends = refl

pointer_method_1_kept : kept_uses pointer_method_1 ≡ []
pointer_method_1_kept = refl

-- A constant that gives the statement a constant fault.
abbrev zero_divisor_0_f0 : File Span
zero_divisor_0_f0 = record { package_name = (nm 8 12 (codes "main")); imports = []; decls = ((fn (at 30 58) None (nm 35 39 (codes "Zero")) (sig [] ((param (at 42 45) None (named (at 42 45) None (nm 42 45 (codes "int")))) ∷ [])) (at 46 58) (stmt_and (return_ (at 48 56) (expr_and (int_lit (at 55 56) (codes "0")) no_exprs)) no_stmts)) ∷ (fn (at 60 104) None (nm 65 69 (codes "main")) (sig [] []) (at 72 104) (stmt_and (define (at 75 81) ((nm 75 76 (codes "x")) ∷ []) (expr_and (int_lit (at 80 81) (codes "1")) no_exprs)) (stmt_and (eval (at 83 102) (call (at 83 102) (ident (at 83 90) (codes "println")) (expr_and (binary (at 91 101) Div (ident (at 91 92) (codes "x")) (call (at 95 101) (ident (at 95 99) (codes "Zero")) no_exprs Plain)) no_exprs) Plain)) no_stmts))) ∷ []) }

zero_divisor_0_f0_read : read_at span_to read_front (lexemes ((tok Keyword 0 7 (codes "package")) ∷ (tok Ident 8 12 (codes "main")) ∷ (tok Inserted 12 12 (codes ";")) ∷ (tok Keyword 30 34 (codes "func")) ∷ (tok Ident 35 39 (codes "Zero")) ∷ (tok Operator 39 40 (codes "(")) ∷ (tok Operator 40 41 (codes ")")) ∷ (tok Ident 42 45 (codes "int")) ∷ (tok Operator 46 47 (codes "{")) ∷ (tok Keyword 48 54 (codes "return")) ∷ (tok Integer 55 56 (codes "0")) ∷ (tok Operator 57 58 (codes "}")) ∷ (tok Inserted 58 58 (codes ";")) ∷ (tok Keyword 60 64 (codes "func")) ∷ (tok Ident 65 69 (codes "main")) ∷ (tok Operator 69 70 (codes "(")) ∷ (tok Operator 70 71 (codes ")")) ∷ (tok Operator 72 73 (codes "{")) ∷ (tok Ident 75 76 (codes "x")) ∷ (tok Operator 77 79 (codes ":=")) ∷ (tok Integer 80 81 (codes "1")) ∷ (tok Inserted 81 81 (codes ";")) ∷ (tok Ident 83 90 (codes "println")) ∷ (tok Operator 90 91 (codes "(")) ∷ (tok Ident 91 92 (codes "x")) ∷ (tok Operator 93 94 (codes "/")) ∷ (tok Ident 95 99 (codes "Zero")) ∷ (tok Operator 99 100 (codes "(")) ∷ (tok Operator 100 101 (codes ")")) ∷ (tok Operator 101 102 (codes ")")) ∷ (tok Inserted 102 102 (codes ";")) ∷ (tok Operator 103 104 (codes "}")) ∷ (tok Inserted 104 104 (codes ";")) ∷ [])) ≡ Some (zero_divisor_0_f0, [])
unfolding reading
zero_divisor_0_f0_read = refl

abbrev zero_divisor_0 : Module
zero_divisor_0 = record { packages = (pack (codes "example.com/m") (codes "main") (source (codes "main.go") zero_divisor_0_f0 ∷ []) ∷ []); marks = (mark 0 0 0 0 ∷ []); texts = (((codes "main.go"), record { text = (codes "package main\n\n//go:fix inline\nfunc Zero() int { return 0 }\n\nfunc main() {\n\tx := 1\n\tprintln(x / Zero())\n}\n"); tokens = ((tok Keyword 0 7 (codes "package")) ∷ (tok Ident 8 12 (codes "main")) ∷ (tok Inserted 12 12 (codes ";")) ∷ (tok Keyword 30 34 (codes "func")) ∷ (tok Ident 35 39 (codes "Zero")) ∷ (tok Operator 39 40 (codes "(")) ∷ (tok Operator 40 41 (codes ")")) ∷ (tok Ident 42 45 (codes "int")) ∷ (tok Operator 46 47 (codes "{")) ∷ (tok Keyword 48 54 (codes "return")) ∷ (tok Integer 55 56 (codes "0")) ∷ (tok Operator 57 58 (codes "}")) ∷ (tok Inserted 58 58 (codes ";")) ∷ (tok Keyword 60 64 (codes "func")) ∷ (tok Ident 65 69 (codes "main")) ∷ (tok Operator 69 70 (codes "(")) ∷ (tok Operator 70 71 (codes ")")) ∷ (tok Operator 72 73 (codes "{")) ∷ (tok Ident 75 76 (codes "x")) ∷ (tok Operator 77 79 (codes ":=")) ∷ (tok Integer 80 81 (codes "1")) ∷ (tok Inserted 81 81 (codes ";")) ∷ (tok Ident 83 90 (codes "println")) ∷ (tok Operator 90 91 (codes "(")) ∷ (tok Ident 91 92 (codes "x")) ∷ (tok Operator 93 94 (codes "/")) ∷ (tok Ident 95 99 (codes "Zero")) ∷ (tok Operator 99 100 (codes "(")) ∷ (tok Operator 100 101 (codes ")")) ∷ (tok Operator 101 102 (codes ")")) ∷ (tok Inserted 102 102 (codes ";")) ∷ (tok Operator 103 104 (codes "}")) ∷ (tok Inserted 104 104 (codes ";")) ∷ []); comments = ((note 14 29) ∷ []) }) ∷ []) }

zero_divisor_0_typed : is_typed zero_divisor_0 ≡ true
zero_divisor_0_typed = refl

zero_divisor_0_step : first_change zero_divisor_0 ≡ Some ((codes "main.go"), LiteralForm, (codes "package main\n\n//go:fix inline\nfunc Zero() int { return 0 }\n\nfunc main() {\n\tx := 1\n\tprintln(x / func() int {\n\t\treturn 0\n\t}())\n}\n"))
zero_divisor_0_step = refl

abbrev zero_divisor_1_f0 : File Span
zero_divisor_1_f0 = record { package_name = (nm 8 12 (codes "main")); imports = []; decls = ((fn (at 30 58) None (nm 35 39 (codes "Zero")) (sig [] ((param (at 42 45) None (named (at 42 45) None (nm 42 45 (codes "int")))) ∷ [])) (at 46 58) (stmt_and (return_ (at 48 56) (expr_and (int_lit (at 55 56) (codes "0")) no_exprs)) no_stmts)) ∷ (fn (at 60 126) None (nm 65 69 (codes "main")) (sig [] []) (at 72 126) (stmt_and (define (at 75 81) ((nm 75 76 (codes "x")) ∷ []) (expr_and (int_lit (at 80 81) (codes "1")) no_exprs)) (stmt_and (eval (at 83 124) (call (at 83 124) (ident (at 83 90) (codes "println")) (expr_and (binary (at 91 123) Div (ident (at 91 92) (codes "x")) (call (at 95 123) (func_lit (at 95 121) (sig [] ((param (at 102 105) None (named (at 102 105) None (nm 102 105 (codes "int")))) ∷ [])) (at 106 121) (stmt_and (return_ (at 110 118) (expr_and (int_lit (at 117 118) (codes "0")) no_exprs)) no_stmts)) no_exprs Plain)) no_exprs) Plain)) no_stmts))) ∷ []) }

zero_divisor_1_f0_read : read_at span_to read_front (lexemes ((tok Keyword 0 7 (codes "package")) ∷ (tok Ident 8 12 (codes "main")) ∷ (tok Inserted 12 12 (codes ";")) ∷ (tok Keyword 30 34 (codes "func")) ∷ (tok Ident 35 39 (codes "Zero")) ∷ (tok Operator 39 40 (codes "(")) ∷ (tok Operator 40 41 (codes ")")) ∷ (tok Ident 42 45 (codes "int")) ∷ (tok Operator 46 47 (codes "{")) ∷ (tok Keyword 48 54 (codes "return")) ∷ (tok Integer 55 56 (codes "0")) ∷ (tok Operator 57 58 (codes "}")) ∷ (tok Inserted 58 58 (codes ";")) ∷ (tok Keyword 60 64 (codes "func")) ∷ (tok Ident 65 69 (codes "main")) ∷ (tok Operator 69 70 (codes "(")) ∷ (tok Operator 70 71 (codes ")")) ∷ (tok Operator 72 73 (codes "{")) ∷ (tok Ident 75 76 (codes "x")) ∷ (tok Operator 77 79 (codes ":=")) ∷ (tok Integer 80 81 (codes "1")) ∷ (tok Inserted 81 81 (codes ";")) ∷ (tok Ident 83 90 (codes "println")) ∷ (tok Operator 90 91 (codes "(")) ∷ (tok Ident 91 92 (codes "x")) ∷ (tok Operator 93 94 (codes "/")) ∷ (tok Keyword 95 99 (codes "func")) ∷ (tok Operator 99 100 (codes "(")) ∷ (tok Operator 100 101 (codes ")")) ∷ (tok Ident 102 105 (codes "int")) ∷ (tok Operator 106 107 (codes "{")) ∷ (tok Keyword 110 116 (codes "return")) ∷ (tok Integer 117 118 (codes "0")) ∷ (tok Inserted 118 118 (codes ";")) ∷ (tok Operator 120 121 (codes "}")) ∷ (tok Operator 121 122 (codes "(")) ∷ (tok Operator 122 123 (codes ")")) ∷ (tok Operator 123 124 (codes ")")) ∷ (tok Inserted 124 124 (codes ";")) ∷ (tok Operator 125 126 (codes "}")) ∷ (tok Inserted 126 126 (codes ";")) ∷ [])) ≡ Some (zero_divisor_1_f0, [])
unfolding reading
zero_divisor_1_f0_read = refl

abbrev zero_divisor_1 : Module
zero_divisor_1 = record { packages = (pack (codes "example.com/m") (codes "main") (source (codes "main.go") zero_divisor_1_f0 ∷ []) ∷ []); marks = (mark 0 0 0 0 ∷ []); texts = (((codes "main.go"), record { text = (codes "package main\n\n//go:fix inline\nfunc Zero() int { return 0 }\n\nfunc main() {\n\tx := 1\n\tprintln(x / func() int {\n\t\treturn 0\n\t}())\n}\n"); tokens = ((tok Keyword 0 7 (codes "package")) ∷ (tok Ident 8 12 (codes "main")) ∷ (tok Inserted 12 12 (codes ";")) ∷ (tok Keyword 30 34 (codes "func")) ∷ (tok Ident 35 39 (codes "Zero")) ∷ (tok Operator 39 40 (codes "(")) ∷ (tok Operator 40 41 (codes ")")) ∷ (tok Ident 42 45 (codes "int")) ∷ (tok Operator 46 47 (codes "{")) ∷ (tok Keyword 48 54 (codes "return")) ∷ (tok Integer 55 56 (codes "0")) ∷ (tok Operator 57 58 (codes "}")) ∷ (tok Inserted 58 58 (codes ";")) ∷ (tok Keyword 60 64 (codes "func")) ∷ (tok Ident 65 69 (codes "main")) ∷ (tok Operator 69 70 (codes "(")) ∷ (tok Operator 70 71 (codes ")")) ∷ (tok Operator 72 73 (codes "{")) ∷ (tok Ident 75 76 (codes "x")) ∷ (tok Operator 77 79 (codes ":=")) ∷ (tok Integer 80 81 (codes "1")) ∷ (tok Inserted 81 81 (codes ";")) ∷ (tok Ident 83 90 (codes "println")) ∷ (tok Operator 90 91 (codes "(")) ∷ (tok Ident 91 92 (codes "x")) ∷ (tok Operator 93 94 (codes "/")) ∷ (tok Keyword 95 99 (codes "func")) ∷ (tok Operator 99 100 (codes "(")) ∷ (tok Operator 100 101 (codes ")")) ∷ (tok Ident 102 105 (codes "int")) ∷ (tok Operator 106 107 (codes "{")) ∷ (tok Keyword 110 116 (codes "return")) ∷ (tok Integer 117 118 (codes "0")) ∷ (tok Inserted 118 118 (codes ";")) ∷ (tok Operator 120 121 (codes "}")) ∷ (tok Operator 121 122 (codes "(")) ∷ (tok Operator 122 123 (codes ")")) ∷ (tok Operator 123 124 (codes ")")) ∷ (tok Inserted 124 124 (codes ";")) ∷ (tok Operator 125 126 (codes "}")) ∷ (tok Inserted 126 126 (codes ";")) ∷ []); comments = ((note 14 29) ∷ []) }) ∷ []) }

zero_divisor_1_typed : is_typed zero_divisor_1 ≡ true
zero_divisor_1_typed = refl

zero_divisor_1_ends : step_of zero_divisor_1 ≡ None
zero_divisor_1_ends = refl

zero_divisor_1_kept : kept_uses zero_divisor_1 ≡ []
zero_divisor_1_kept = refl

-- A constant keeps its type.
abbrev type_kept_0_f0 : File Span
type_kept_0_f0 = record { package_name = (nm 8 12 (codes "main")); imports = []; decls = ((fn (at 30 66) None (nm 35 39 (codes "Stop")) (sig ((param (at 40 49) (Some (nm 40 44 (codes "code"))) (named (at 45 49) None (nm 45 49 (codes "int8")))) ∷ []) []) (at 51 66) (stmt_and (eval (at 53 64) (call (at 53 64) (ident (at 53 58) (codes "panic")) (expr_and (ident (at 59 63) (codes "code")) no_exprs) Plain)) no_stmts)) ∷ (fn (at 68 92) None (nm 73 77 (codes "main")) (sig [] []) (at 80 92) (stmt_and (eval (at 83 90) (call (at 83 90) (ident (at 83 87) (codes "Stop")) (expr_and (int_lit (at 88 89) (codes "3")) no_exprs) Plain)) no_stmts)) ∷ []) }

type_kept_0_f0_read : read_at span_to read_front (lexemes ((tok Keyword 0 7 (codes "package")) ∷ (tok Ident 8 12 (codes "main")) ∷ (tok Inserted 12 12 (codes ";")) ∷ (tok Keyword 30 34 (codes "func")) ∷ (tok Ident 35 39 (codes "Stop")) ∷ (tok Operator 39 40 (codes "(")) ∷ (tok Ident 40 44 (codes "code")) ∷ (tok Ident 45 49 (codes "int8")) ∷ (tok Operator 49 50 (codes ")")) ∷ (tok Operator 51 52 (codes "{")) ∷ (tok Ident 53 58 (codes "panic")) ∷ (tok Operator 58 59 (codes "(")) ∷ (tok Ident 59 63 (codes "code")) ∷ (tok Operator 63 64 (codes ")")) ∷ (tok Operator 65 66 (codes "}")) ∷ (tok Inserted 66 66 (codes ";")) ∷ (tok Keyword 68 72 (codes "func")) ∷ (tok Ident 73 77 (codes "main")) ∷ (tok Operator 77 78 (codes "(")) ∷ (tok Operator 78 79 (codes ")")) ∷ (tok Operator 80 81 (codes "{")) ∷ (tok Ident 83 87 (codes "Stop")) ∷ (tok Operator 87 88 (codes "(")) ∷ (tok Integer 88 89 (codes "3")) ∷ (tok Operator 89 90 (codes ")")) ∷ (tok Inserted 90 90 (codes ";")) ∷ (tok Operator 91 92 (codes "}")) ∷ (tok Inserted 92 92 (codes ";")) ∷ [])) ≡ Some (type_kept_0_f0, [])
unfolding reading
type_kept_0_f0_read = refl

abbrev type_kept_0 : Module
type_kept_0 = record { packages = (pack (codes "example.com/m") (codes "main") (source (codes "main.go") type_kept_0_f0 ∷ []) ∷ []); marks = (mark 0 0 0 0 ∷ []); texts = (((codes "main.go"), record { text = (codes "package main\n\n//go:fix inline\nfunc Stop(code int8) { panic(code) }\n\nfunc main() {\n\tStop(3)\n}\n"); tokens = ((tok Keyword 0 7 (codes "package")) ∷ (tok Ident 8 12 (codes "main")) ∷ (tok Inserted 12 12 (codes ";")) ∷ (tok Keyword 30 34 (codes "func")) ∷ (tok Ident 35 39 (codes "Stop")) ∷ (tok Operator 39 40 (codes "(")) ∷ (tok Ident 40 44 (codes "code")) ∷ (tok Ident 45 49 (codes "int8")) ∷ (tok Operator 49 50 (codes ")")) ∷ (tok Operator 51 52 (codes "{")) ∷ (tok Ident 53 58 (codes "panic")) ∷ (tok Operator 58 59 (codes "(")) ∷ (tok Ident 59 63 (codes "code")) ∷ (tok Operator 63 64 (codes ")")) ∷ (tok Operator 65 66 (codes "}")) ∷ (tok Inserted 66 66 (codes ";")) ∷ (tok Keyword 68 72 (codes "func")) ∷ (tok Ident 73 77 (codes "main")) ∷ (tok Operator 77 78 (codes "(")) ∷ (tok Operator 78 79 (codes ")")) ∷ (tok Operator 80 81 (codes "{")) ∷ (tok Ident 83 87 (codes "Stop")) ∷ (tok Operator 87 88 (codes "(")) ∷ (tok Integer 88 89 (codes "3")) ∷ (tok Operator 89 90 (codes ")")) ∷ (tok Inserted 90 90 (codes ";")) ∷ (tok Operator 91 92 (codes "}")) ∷ (tok Inserted 92 92 (codes ";")) ∷ []); comments = ((note 14 29) ∷ []) }) ∷ []) }

type_kept_0_typed : is_typed type_kept_0 ≡ true
type_kept_0_typed = refl

type_kept_0_step : first_change type_kept_0 ≡ Some ((codes "main.go"), ExprForm, (codes "package main\n\n//go:fix inline\nfunc Stop(code int8) { panic(code) }\n\nfunc main() {\n\tpanic(int8(3))\n}\n"))
type_kept_0_step = refl

abbrev type_kept_1_f0 : File Span
type_kept_1_f0 = record { package_name = (nm 8 12 (codes "main")); imports = []; decls = ((fn (at 30 66) None (nm 35 39 (codes "Stop")) (sig ((param (at 40 49) (Some (nm 40 44 (codes "code"))) (named (at 45 49) None (nm 45 49 (codes "int8")))) ∷ []) []) (at 51 66) (stmt_and (eval (at 53 64) (call (at 53 64) (ident (at 53 58) (codes "panic")) (expr_and (ident (at 59 63) (codes "code")) no_exprs) Plain)) no_stmts)) ∷ (fn (at 68 99) None (nm 73 77 (codes "main")) (sig [] []) (at 80 99) (stmt_and (eval (at 83 97) (call (at 83 97) (ident (at 83 88) (codes "panic")) (expr_and (call (at 89 96) (ident (at 89 93) (codes "int8")) (expr_and (int_lit (at 94 95) (codes "3")) no_exprs) Plain) no_exprs) Plain)) no_stmts)) ∷ []) }

type_kept_1_f0_read : read_at span_to read_front (lexemes ((tok Keyword 0 7 (codes "package")) ∷ (tok Ident 8 12 (codes "main")) ∷ (tok Inserted 12 12 (codes ";")) ∷ (tok Keyword 30 34 (codes "func")) ∷ (tok Ident 35 39 (codes "Stop")) ∷ (tok Operator 39 40 (codes "(")) ∷ (tok Ident 40 44 (codes "code")) ∷ (tok Ident 45 49 (codes "int8")) ∷ (tok Operator 49 50 (codes ")")) ∷ (tok Operator 51 52 (codes "{")) ∷ (tok Ident 53 58 (codes "panic")) ∷ (tok Operator 58 59 (codes "(")) ∷ (tok Ident 59 63 (codes "code")) ∷ (tok Operator 63 64 (codes ")")) ∷ (tok Operator 65 66 (codes "}")) ∷ (tok Inserted 66 66 (codes ";")) ∷ (tok Keyword 68 72 (codes "func")) ∷ (tok Ident 73 77 (codes "main")) ∷ (tok Operator 77 78 (codes "(")) ∷ (tok Operator 78 79 (codes ")")) ∷ (tok Operator 80 81 (codes "{")) ∷ (tok Ident 83 88 (codes "panic")) ∷ (tok Operator 88 89 (codes "(")) ∷ (tok Ident 89 93 (codes "int8")) ∷ (tok Operator 93 94 (codes "(")) ∷ (tok Integer 94 95 (codes "3")) ∷ (tok Operator 95 96 (codes ")")) ∷ (tok Operator 96 97 (codes ")")) ∷ (tok Inserted 97 97 (codes ";")) ∷ (tok Operator 98 99 (codes "}")) ∷ (tok Inserted 99 99 (codes ";")) ∷ [])) ≡ Some (type_kept_1_f0, [])
unfolding reading
type_kept_1_f0_read = refl

abbrev type_kept_1 : Module
type_kept_1 = record { packages = (pack (codes "example.com/m") (codes "main") (source (codes "main.go") type_kept_1_f0 ∷ []) ∷ []); marks = (mark 0 0 0 0 ∷ []); texts = (((codes "main.go"), record { text = (codes "package main\n\n//go:fix inline\nfunc Stop(code int8) { panic(code) }\n\nfunc main() {\n\tpanic(int8(3))\n}\n"); tokens = ((tok Keyword 0 7 (codes "package")) ∷ (tok Ident 8 12 (codes "main")) ∷ (tok Inserted 12 12 (codes ";")) ∷ (tok Keyword 30 34 (codes "func")) ∷ (tok Ident 35 39 (codes "Stop")) ∷ (tok Operator 39 40 (codes "(")) ∷ (tok Ident 40 44 (codes "code")) ∷ (tok Ident 45 49 (codes "int8")) ∷ (tok Operator 49 50 (codes ")")) ∷ (tok Operator 51 52 (codes "{")) ∷ (tok Ident 53 58 (codes "panic")) ∷ (tok Operator 58 59 (codes "(")) ∷ (tok Ident 59 63 (codes "code")) ∷ (tok Operator 63 64 (codes ")")) ∷ (tok Operator 65 66 (codes "}")) ∷ (tok Inserted 66 66 (codes ";")) ∷ (tok Keyword 68 72 (codes "func")) ∷ (tok Ident 73 77 (codes "main")) ∷ (tok Operator 77 78 (codes "(")) ∷ (tok Operator 78 79 (codes ")")) ∷ (tok Operator 80 81 (codes "{")) ∷ (tok Ident 83 88 (codes "panic")) ∷ (tok Operator 88 89 (codes "(")) ∷ (tok Ident 89 93 (codes "int8")) ∷ (tok Operator 93 94 (codes "(")) ∷ (tok Integer 94 95 (codes "3")) ∷ (tok Operator 95 96 (codes ")")) ∷ (tok Operator 96 97 (codes ")")) ∷ (tok Inserted 97 97 (codes ";")) ∷ (tok Operator 98 99 (codes "}")) ∷ (tok Inserted 99 99 (codes ";")) ∷ []); comments = ((note 14 29) ∷ []) }) ∷ []) }

type_kept_1_typed : is_typed type_kept_1 ≡ true
type_kept_1_typed = refl

type_kept_1_ends : step_of type_kept_1 ≡ None
type_kept_1_ends = refl

type_kept_1_kept : kept_uses type_kept_1 ≡ []
type_kept_1_kept = refl

-- A bound parameter of a statement.
abbrev bound_in_block_0_f0 : File Span
bound_in_block_0_f0 = record { package_name = (nm 8 12 (codes "main")); imports = []; decls = ((fn (at 30 66) None (nm 35 38 (codes "Log")) (sig ((param (at 39 47) (Some (nm 39 40 (codes "a"))) (named (at 44 47) None (nm 44 47 (codes "int")))) ∷ (param (at 42 47) (Some (nm 42 43 (codes "b"))) (named (at 44 47) None (nm 44 47 (codes "int")))) ∷ []) []) (at 49 66) (stmt_and (eval (at 51 64) (call (at 51 64) (ident (at 51 58) (codes "println")) (expr_and (ident (at 59 60) (codes "b")) (expr_and (ident (at 62 63) (codes "a")) no_exprs)) Plain)) no_stmts)) ∷ (fn (at 68 110) None (nm 73 77 (codes "next")) (sig [] ((param (at 80 83) None (named (at 80 83) None (nm 80 83 (codes "int")))) ∷ [])) (at 84 110) (stmt_and (eval (at 86 98) (call (at 86 98) (ident (at 86 93) (codes "println")) (expr_and (str_lit (at 94 97) (codes "\"n\"")) no_exprs) Plain)) (stmt_and (return_ (at 100 108) (expr_and (int_lit (at 107 108) (codes "1")) no_exprs)) no_stmts))) ∷ (fn (at 112 151) None (nm 117 118 (codes "g")) (sig [] ((param (at 121 124) None (named (at 121 124) None (nm 121 124 (codes "int")))) ∷ [])) (at 125 151) (stmt_and (eval (at 127 139) (call (at 127 139) (ident (at 127 134) (codes "println")) (expr_and (str_lit (at 135 138) (codes "\"g\"")) no_exprs) Plain)) (stmt_and (return_ (at 141 149) (expr_and (int_lit (at 148 149) (codes "1")) no_exprs)) no_stmts))) ∷ (fn (at 153 192) None (nm 158 159 (codes "h")) (sig [] ((param (at 162 165) None (named (at 162 165) None (nm 162 165 (codes "int")))) ∷ [])) (at 166 192) (stmt_and (eval (at 168 180) (call (at 168 180) (ident (at 168 175) (codes "println")) (expr_and (str_lit (at 176 179) (codes "\"h\"")) no_exprs) Plain)) (stmt_and (return_ (at 182 190) (expr_and (int_lit (at 189 190) (codes "1")) no_exprs)) no_stmts))) ∷ (fn (at 194 224) None (nm 199 203 (codes "main")) (sig [] []) (at 206 224) (stmt_and (eval (at 209 222) (call (at 209 222) (ident (at 209 212) (codes "Log")) (expr_and (call (at 213 216) (ident (at 213 214) (codes "g")) no_exprs Plain) (expr_and (call (at 218 221) (ident (at 218 219) (codes "h")) no_exprs Plain) no_exprs)) Plain)) no_stmts)) ∷ []) }

bound_in_block_0_f0_read : read_at span_to read_front (lexemes ((tok Keyword 0 7 (codes "package")) ∷ (tok Ident 8 12 (codes "main")) ∷ (tok Inserted 12 12 (codes ";")) ∷ (tok Keyword 30 34 (codes "func")) ∷ (tok Ident 35 38 (codes "Log")) ∷ (tok Operator 38 39 (codes "(")) ∷ (tok Ident 39 40 (codes "a")) ∷ (tok Operator 40 41 (codes ",")) ∷ (tok Ident 42 43 (codes "b")) ∷ (tok Ident 44 47 (codes "int")) ∷ (tok Operator 47 48 (codes ")")) ∷ (tok Operator 49 50 (codes "{")) ∷ (tok Ident 51 58 (codes "println")) ∷ (tok Operator 58 59 (codes "(")) ∷ (tok Ident 59 60 (codes "b")) ∷ (tok Operator 60 61 (codes ",")) ∷ (tok Ident 62 63 (codes "a")) ∷ (tok Operator 63 64 (codes ")")) ∷ (tok Operator 65 66 (codes "}")) ∷ (tok Inserted 66 66 (codes ";")) ∷ (tok Keyword 68 72 (codes "func")) ∷ (tok Ident 73 77 (codes "next")) ∷ (tok Operator 77 78 (codes "(")) ∷ (tok Operator 78 79 (codes ")")) ∷ (tok Ident 80 83 (codes "int")) ∷ (tok Operator 84 85 (codes "{")) ∷ (tok Ident 86 93 (codes "println")) ∷ (tok Operator 93 94 (codes "(")) ∷ (tok Str 94 97 (codes "\"n\"")) ∷ (tok Operator 97 98 (codes ")")) ∷ (tok Operator 98 99 (codes ";")) ∷ (tok Keyword 100 106 (codes "return")) ∷ (tok Integer 107 108 (codes "1")) ∷ (tok Operator 109 110 (codes "}")) ∷ (tok Inserted 110 110 (codes ";")) ∷ (tok Keyword 112 116 (codes "func")) ∷ (tok Ident 117 118 (codes "g")) ∷ (tok Operator 118 119 (codes "(")) ∷ (tok Operator 119 120 (codes ")")) ∷ (tok Ident 121 124 (codes "int")) ∷ (tok Operator 125 126 (codes "{")) ∷ (tok Ident 127 134 (codes "println")) ∷ (tok Operator 134 135 (codes "(")) ∷ (tok Str 135 138 (codes "\"g\"")) ∷ (tok Operator 138 139 (codes ")")) ∷ (tok Operator 139 140 (codes ";")) ∷ (tok Keyword 141 147 (codes "return")) ∷ (tok Integer 148 149 (codes "1")) ∷ (tok Operator 150 151 (codes "}")) ∷ (tok Inserted 151 151 (codes ";")) ∷ (tok Keyword 153 157 (codes "func")) ∷ (tok Ident 158 159 (codes "h")) ∷ (tok Operator 159 160 (codes "(")) ∷ (tok Operator 160 161 (codes ")")) ∷ (tok Ident 162 165 (codes "int")) ∷ (tok Operator 166 167 (codes "{")) ∷ (tok Ident 168 175 (codes "println")) ∷ (tok Operator 175 176 (codes "(")) ∷ (tok Str 176 179 (codes "\"h\"")) ∷ (tok Operator 179 180 (codes ")")) ∷ (tok Operator 180 181 (codes ";")) ∷ (tok Keyword 182 188 (codes "return")) ∷ (tok Integer 189 190 (codes "1")) ∷ (tok Operator 191 192 (codes "}")) ∷ (tok Inserted 192 192 (codes ";")) ∷ (tok Keyword 194 198 (codes "func")) ∷ (tok Ident 199 203 (codes "main")) ∷ (tok Operator 203 204 (codes "(")) ∷ (tok Operator 204 205 (codes ")")) ∷ (tok Operator 206 207 (codes "{")) ∷ (tok Ident 209 212 (codes "Log")) ∷ (tok Operator 212 213 (codes "(")) ∷ (tok Ident 213 214 (codes "g")) ∷ (tok Operator 214 215 (codes "(")) ∷ (tok Operator 215 216 (codes ")")) ∷ (tok Operator 216 217 (codes ",")) ∷ (tok Ident 218 219 (codes "h")) ∷ (tok Operator 219 220 (codes "(")) ∷ (tok Operator 220 221 (codes ")")) ∷ (tok Operator 221 222 (codes ")")) ∷ (tok Inserted 222 222 (codes ";")) ∷ (tok Operator 223 224 (codes "}")) ∷ (tok Inserted 224 224 (codes ";")) ∷ [])) ≡ Some (bound_in_block_0_f0, [])
unfolding reading
bound_in_block_0_f0_read = refl

abbrev bound_in_block_0 : Module
bound_in_block_0 = record { packages = (pack (codes "example.com/m") (codes "main") (source (codes "main.go") bound_in_block_0_f0 ∷ []) ∷ []); marks = (mark 0 0 0 0 ∷ []); texts = (((codes "main.go"), record { text = (codes "package main\n\n//go:fix inline\nfunc Log(a, b int) { println(b, a) }\n\nfunc next() int { println(\"n\"); return 1 }\n\nfunc g() int { println(\"g\"); return 1 }\n\nfunc h() int { println(\"h\"); return 1 }\n\nfunc main() {\n\tLog(g(), h())\n}\n"); tokens = ((tok Keyword 0 7 (codes "package")) ∷ (tok Ident 8 12 (codes "main")) ∷ (tok Inserted 12 12 (codes ";")) ∷ (tok Keyword 30 34 (codes "func")) ∷ (tok Ident 35 38 (codes "Log")) ∷ (tok Operator 38 39 (codes "(")) ∷ (tok Ident 39 40 (codes "a")) ∷ (tok Operator 40 41 (codes ",")) ∷ (tok Ident 42 43 (codes "b")) ∷ (tok Ident 44 47 (codes "int")) ∷ (tok Operator 47 48 (codes ")")) ∷ (tok Operator 49 50 (codes "{")) ∷ (tok Ident 51 58 (codes "println")) ∷ (tok Operator 58 59 (codes "(")) ∷ (tok Ident 59 60 (codes "b")) ∷ (tok Operator 60 61 (codes ",")) ∷ (tok Ident 62 63 (codes "a")) ∷ (tok Operator 63 64 (codes ")")) ∷ (tok Operator 65 66 (codes "}")) ∷ (tok Inserted 66 66 (codes ";")) ∷ (tok Keyword 68 72 (codes "func")) ∷ (tok Ident 73 77 (codes "next")) ∷ (tok Operator 77 78 (codes "(")) ∷ (tok Operator 78 79 (codes ")")) ∷ (tok Ident 80 83 (codes "int")) ∷ (tok Operator 84 85 (codes "{")) ∷ (tok Ident 86 93 (codes "println")) ∷ (tok Operator 93 94 (codes "(")) ∷ (tok Str 94 97 (codes "\"n\"")) ∷ (tok Operator 97 98 (codes ")")) ∷ (tok Operator 98 99 (codes ";")) ∷ (tok Keyword 100 106 (codes "return")) ∷ (tok Integer 107 108 (codes "1")) ∷ (tok Operator 109 110 (codes "}")) ∷ (tok Inserted 110 110 (codes ";")) ∷ (tok Keyword 112 116 (codes "func")) ∷ (tok Ident 117 118 (codes "g")) ∷ (tok Operator 118 119 (codes "(")) ∷ (tok Operator 119 120 (codes ")")) ∷ (tok Ident 121 124 (codes "int")) ∷ (tok Operator 125 126 (codes "{")) ∷ (tok Ident 127 134 (codes "println")) ∷ (tok Operator 134 135 (codes "(")) ∷ (tok Str 135 138 (codes "\"g\"")) ∷ (tok Operator 138 139 (codes ")")) ∷ (tok Operator 139 140 (codes ";")) ∷ (tok Keyword 141 147 (codes "return")) ∷ (tok Integer 148 149 (codes "1")) ∷ (tok Operator 150 151 (codes "}")) ∷ (tok Inserted 151 151 (codes ";")) ∷ (tok Keyword 153 157 (codes "func")) ∷ (tok Ident 158 159 (codes "h")) ∷ (tok Operator 159 160 (codes "(")) ∷ (tok Operator 160 161 (codes ")")) ∷ (tok Ident 162 165 (codes "int")) ∷ (tok Operator 166 167 (codes "{")) ∷ (tok Ident 168 175 (codes "println")) ∷ (tok Operator 175 176 (codes "(")) ∷ (tok Str 176 179 (codes "\"h\"")) ∷ (tok Operator 179 180 (codes ")")) ∷ (tok Operator 180 181 (codes ";")) ∷ (tok Keyword 182 188 (codes "return")) ∷ (tok Integer 189 190 (codes "1")) ∷ (tok Operator 191 192 (codes "}")) ∷ (tok Inserted 192 192 (codes ";")) ∷ (tok Keyword 194 198 (codes "func")) ∷ (tok Ident 199 203 (codes "main")) ∷ (tok Operator 203 204 (codes "(")) ∷ (tok Operator 204 205 (codes ")")) ∷ (tok Operator 206 207 (codes "{")) ∷ (tok Ident 209 212 (codes "Log")) ∷ (tok Operator 212 213 (codes "(")) ∷ (tok Ident 213 214 (codes "g")) ∷ (tok Operator 214 215 (codes "(")) ∷ (tok Operator 215 216 (codes ")")) ∷ (tok Operator 216 217 (codes ",")) ∷ (tok Ident 218 219 (codes "h")) ∷ (tok Operator 219 220 (codes "(")) ∷ (tok Operator 220 221 (codes ")")) ∷ (tok Operator 221 222 (codes ")")) ∷ (tok Inserted 222 222 (codes ";")) ∷ (tok Operator 223 224 (codes "}")) ∷ (tok Inserted 224 224 (codes ";")) ∷ []); comments = ((note 14 29) ∷ []) }) ∷ []) }

bound_in_block_0_typed : is_typed bound_in_block_0 ≡ true
bound_in_block_0_typed = refl

bound_in_block_0_step : first_change bound_in_block_0 ≡ Some ((codes "main.go"), BlockForm, (codes "package main\n\n//go:fix inline\nfunc Log(a, b int) { println(b, a) }\n\nfunc next() int { println(\"n\"); return 1 }\n\nfunc g() int { println(\"g\"); return 1 }\n\nfunc h() int { println(\"h\"); return 1 }\n\nfunc main() {\n\t{\n\t\ta := g()\n\t\tprintln(h(), a)\n\t}\n}\n"))
bound_in_block_0_step = refl

abbrev bound_in_block_1_f0 : File Span
bound_in_block_1_f0 = record { package_name = (nm 8 12 (codes "main")); imports = []; decls = ((fn (at 30 66) None (nm 35 38 (codes "Log")) (sig ((param (at 39 47) (Some (nm 39 40 (codes "a"))) (named (at 44 47) None (nm 44 47 (codes "int")))) ∷ (param (at 42 47) (Some (nm 42 43 (codes "b"))) (named (at 44 47) None (nm 44 47 (codes "int")))) ∷ []) []) (at 49 66) (stmt_and (eval (at 51 64) (call (at 51 64) (ident (at 51 58) (codes "println")) (expr_and (ident (at 59 60) (codes "b")) (expr_and (ident (at 62 63) (codes "a")) no_exprs)) Plain)) no_stmts)) ∷ (fn (at 68 110) None (nm 73 77 (codes "next")) (sig [] ((param (at 80 83) None (named (at 80 83) None (nm 80 83 (codes "int")))) ∷ [])) (at 84 110) (stmt_and (eval (at 86 98) (call (at 86 98) (ident (at 86 93) (codes "println")) (expr_and (str_lit (at 94 97) (codes "\"n\"")) no_exprs) Plain)) (stmt_and (return_ (at 100 108) (expr_and (int_lit (at 107 108) (codes "1")) no_exprs)) no_stmts))) ∷ (fn (at 112 151) None (nm 117 118 (codes "g")) (sig [] ((param (at 121 124) None (named (at 121 124) None (nm 121 124 (codes "int")))) ∷ [])) (at 125 151) (stmt_and (eval (at 127 139) (call (at 127 139) (ident (at 127 134) (codes "println")) (expr_and (str_lit (at 135 138) (codes "\"g\"")) no_exprs) Plain)) (stmt_and (return_ (at 141 149) (expr_and (int_lit (at 148 149) (codes "1")) no_exprs)) no_stmts))) ∷ (fn (at 153 192) None (nm 158 159 (codes "h")) (sig [] ((param (at 162 165) None (named (at 162 165) None (nm 162 165 (codes "int")))) ∷ [])) (at 166 192) (stmt_and (eval (at 168 180) (call (at 168 180) (ident (at 168 175) (codes "println")) (expr_and (str_lit (at 176 179) (codes "\"h\"")) no_exprs) Plain)) (stmt_and (return_ (at 182 190) (expr_and (int_lit (at 189 190) (codes "1")) no_exprs)) no_stmts))) ∷ (fn (at 194 244) None (nm 199 203 (codes "main")) (sig [] []) (at 206 244) (stmt_and (inner (at 209 242) (stmt_and (define (at 213 221) ((nm 213 214 (codes "a")) ∷ []) (expr_and (call (at 218 221) (ident (at 218 219) (codes "g")) no_exprs Plain) no_exprs)) (stmt_and (eval (at 224 239) (call (at 224 239) (ident (at 224 231) (codes "println")) (expr_and (call (at 232 235) (ident (at 232 233) (codes "h")) no_exprs Plain) (expr_and (ident (at 237 238) (codes "a")) no_exprs)) Plain)) no_stmts))) no_stmts)) ∷ []) }

bound_in_block_1_f0_read : read_at span_to read_front (lexemes ((tok Keyword 0 7 (codes "package")) ∷ (tok Ident 8 12 (codes "main")) ∷ (tok Inserted 12 12 (codes ";")) ∷ (tok Keyword 30 34 (codes "func")) ∷ (tok Ident 35 38 (codes "Log")) ∷ (tok Operator 38 39 (codes "(")) ∷ (tok Ident 39 40 (codes "a")) ∷ (tok Operator 40 41 (codes ",")) ∷ (tok Ident 42 43 (codes "b")) ∷ (tok Ident 44 47 (codes "int")) ∷ (tok Operator 47 48 (codes ")")) ∷ (tok Operator 49 50 (codes "{")) ∷ (tok Ident 51 58 (codes "println")) ∷ (tok Operator 58 59 (codes "(")) ∷ (tok Ident 59 60 (codes "b")) ∷ (tok Operator 60 61 (codes ",")) ∷ (tok Ident 62 63 (codes "a")) ∷ (tok Operator 63 64 (codes ")")) ∷ (tok Operator 65 66 (codes "}")) ∷ (tok Inserted 66 66 (codes ";")) ∷ (tok Keyword 68 72 (codes "func")) ∷ (tok Ident 73 77 (codes "next")) ∷ (tok Operator 77 78 (codes "(")) ∷ (tok Operator 78 79 (codes ")")) ∷ (tok Ident 80 83 (codes "int")) ∷ (tok Operator 84 85 (codes "{")) ∷ (tok Ident 86 93 (codes "println")) ∷ (tok Operator 93 94 (codes "(")) ∷ (tok Str 94 97 (codes "\"n\"")) ∷ (tok Operator 97 98 (codes ")")) ∷ (tok Operator 98 99 (codes ";")) ∷ (tok Keyword 100 106 (codes "return")) ∷ (tok Integer 107 108 (codes "1")) ∷ (tok Operator 109 110 (codes "}")) ∷ (tok Inserted 110 110 (codes ";")) ∷ (tok Keyword 112 116 (codes "func")) ∷ (tok Ident 117 118 (codes "g")) ∷ (tok Operator 118 119 (codes "(")) ∷ (tok Operator 119 120 (codes ")")) ∷ (tok Ident 121 124 (codes "int")) ∷ (tok Operator 125 126 (codes "{")) ∷ (tok Ident 127 134 (codes "println")) ∷ (tok Operator 134 135 (codes "(")) ∷ (tok Str 135 138 (codes "\"g\"")) ∷ (tok Operator 138 139 (codes ")")) ∷ (tok Operator 139 140 (codes ";")) ∷ (tok Keyword 141 147 (codes "return")) ∷ (tok Integer 148 149 (codes "1")) ∷ (tok Operator 150 151 (codes "}")) ∷ (tok Inserted 151 151 (codes ";")) ∷ (tok Keyword 153 157 (codes "func")) ∷ (tok Ident 158 159 (codes "h")) ∷ (tok Operator 159 160 (codes "(")) ∷ (tok Operator 160 161 (codes ")")) ∷ (tok Ident 162 165 (codes "int")) ∷ (tok Operator 166 167 (codes "{")) ∷ (tok Ident 168 175 (codes "println")) ∷ (tok Operator 175 176 (codes "(")) ∷ (tok Str 176 179 (codes "\"h\"")) ∷ (tok Operator 179 180 (codes ")")) ∷ (tok Operator 180 181 (codes ";")) ∷ (tok Keyword 182 188 (codes "return")) ∷ (tok Integer 189 190 (codes "1")) ∷ (tok Operator 191 192 (codes "}")) ∷ (tok Inserted 192 192 (codes ";")) ∷ (tok Keyword 194 198 (codes "func")) ∷ (tok Ident 199 203 (codes "main")) ∷ (tok Operator 203 204 (codes "(")) ∷ (tok Operator 204 205 (codes ")")) ∷ (tok Operator 206 207 (codes "{")) ∷ (tok Operator 209 210 (codes "{")) ∷ (tok Ident 213 214 (codes "a")) ∷ (tok Operator 215 217 (codes ":=")) ∷ (tok Ident 218 219 (codes "g")) ∷ (tok Operator 219 220 (codes "(")) ∷ (tok Operator 220 221 (codes ")")) ∷ (tok Inserted 221 221 (codes ";")) ∷ (tok Ident 224 231 (codes "println")) ∷ (tok Operator 231 232 (codes "(")) ∷ (tok Ident 232 233 (codes "h")) ∷ (tok Operator 233 234 (codes "(")) ∷ (tok Operator 234 235 (codes ")")) ∷ (tok Operator 235 236 (codes ",")) ∷ (tok Ident 237 238 (codes "a")) ∷ (tok Operator 238 239 (codes ")")) ∷ (tok Inserted 239 239 (codes ";")) ∷ (tok Operator 241 242 (codes "}")) ∷ (tok Inserted 242 242 (codes ";")) ∷ (tok Operator 243 244 (codes "}")) ∷ (tok Inserted 244 244 (codes ";")) ∷ [])) ≡ Some (bound_in_block_1_f0, [])
unfolding reading
bound_in_block_1_f0_read = refl

abbrev bound_in_block_1 : Module
bound_in_block_1 = record { packages = (pack (codes "example.com/m") (codes "main") (source (codes "main.go") bound_in_block_1_f0 ∷ []) ∷ []); marks = (mark 0 0 0 0 ∷ []); texts = (((codes "main.go"), record { text = (codes "package main\n\n//go:fix inline\nfunc Log(a, b int) { println(b, a) }\n\nfunc next() int { println(\"n\"); return 1 }\n\nfunc g() int { println(\"g\"); return 1 }\n\nfunc h() int { println(\"h\"); return 1 }\n\nfunc main() {\n\t{\n\t\ta := g()\n\t\tprintln(h(), a)\n\t}\n}\n"); tokens = ((tok Keyword 0 7 (codes "package")) ∷ (tok Ident 8 12 (codes "main")) ∷ (tok Inserted 12 12 (codes ";")) ∷ (tok Keyword 30 34 (codes "func")) ∷ (tok Ident 35 38 (codes "Log")) ∷ (tok Operator 38 39 (codes "(")) ∷ (tok Ident 39 40 (codes "a")) ∷ (tok Operator 40 41 (codes ",")) ∷ (tok Ident 42 43 (codes "b")) ∷ (tok Ident 44 47 (codes "int")) ∷ (tok Operator 47 48 (codes ")")) ∷ (tok Operator 49 50 (codes "{")) ∷ (tok Ident 51 58 (codes "println")) ∷ (tok Operator 58 59 (codes "(")) ∷ (tok Ident 59 60 (codes "b")) ∷ (tok Operator 60 61 (codes ",")) ∷ (tok Ident 62 63 (codes "a")) ∷ (tok Operator 63 64 (codes ")")) ∷ (tok Operator 65 66 (codes "}")) ∷ (tok Inserted 66 66 (codes ";")) ∷ (tok Keyword 68 72 (codes "func")) ∷ (tok Ident 73 77 (codes "next")) ∷ (tok Operator 77 78 (codes "(")) ∷ (tok Operator 78 79 (codes ")")) ∷ (tok Ident 80 83 (codes "int")) ∷ (tok Operator 84 85 (codes "{")) ∷ (tok Ident 86 93 (codes "println")) ∷ (tok Operator 93 94 (codes "(")) ∷ (tok Str 94 97 (codes "\"n\"")) ∷ (tok Operator 97 98 (codes ")")) ∷ (tok Operator 98 99 (codes ";")) ∷ (tok Keyword 100 106 (codes "return")) ∷ (tok Integer 107 108 (codes "1")) ∷ (tok Operator 109 110 (codes "}")) ∷ (tok Inserted 110 110 (codes ";")) ∷ (tok Keyword 112 116 (codes "func")) ∷ (tok Ident 117 118 (codes "g")) ∷ (tok Operator 118 119 (codes "(")) ∷ (tok Operator 119 120 (codes ")")) ∷ (tok Ident 121 124 (codes "int")) ∷ (tok Operator 125 126 (codes "{")) ∷ (tok Ident 127 134 (codes "println")) ∷ (tok Operator 134 135 (codes "(")) ∷ (tok Str 135 138 (codes "\"g\"")) ∷ (tok Operator 138 139 (codes ")")) ∷ (tok Operator 139 140 (codes ";")) ∷ (tok Keyword 141 147 (codes "return")) ∷ (tok Integer 148 149 (codes "1")) ∷ (tok Operator 150 151 (codes "}")) ∷ (tok Inserted 151 151 (codes ";")) ∷ (tok Keyword 153 157 (codes "func")) ∷ (tok Ident 158 159 (codes "h")) ∷ (tok Operator 159 160 (codes "(")) ∷ (tok Operator 160 161 (codes ")")) ∷ (tok Ident 162 165 (codes "int")) ∷ (tok Operator 166 167 (codes "{")) ∷ (tok Ident 168 175 (codes "println")) ∷ (tok Operator 175 176 (codes "(")) ∷ (tok Str 176 179 (codes "\"h\"")) ∷ (tok Operator 179 180 (codes ")")) ∷ (tok Operator 180 181 (codes ";")) ∷ (tok Keyword 182 188 (codes "return")) ∷ (tok Integer 189 190 (codes "1")) ∷ (tok Operator 191 192 (codes "}")) ∷ (tok Inserted 192 192 (codes ";")) ∷ (tok Keyword 194 198 (codes "func")) ∷ (tok Ident 199 203 (codes "main")) ∷ (tok Operator 203 204 (codes "(")) ∷ (tok Operator 204 205 (codes ")")) ∷ (tok Operator 206 207 (codes "{")) ∷ (tok Operator 209 210 (codes "{")) ∷ (tok Ident 213 214 (codes "a")) ∷ (tok Operator 215 217 (codes ":=")) ∷ (tok Ident 218 219 (codes "g")) ∷ (tok Operator 219 220 (codes "(")) ∷ (tok Operator 220 221 (codes ")")) ∷ (tok Inserted 221 221 (codes ";")) ∷ (tok Ident 224 231 (codes "println")) ∷ (tok Operator 231 232 (codes "(")) ∷ (tok Ident 232 233 (codes "h")) ∷ (tok Operator 233 234 (codes "(")) ∷ (tok Operator 234 235 (codes ")")) ∷ (tok Operator 235 236 (codes ",")) ∷ (tok Ident 237 238 (codes "a")) ∷ (tok Operator 238 239 (codes ")")) ∷ (tok Inserted 239 239 (codes ";")) ∷ (tok Operator 241 242 (codes "}")) ∷ (tok Inserted 242 242 (codes ";")) ∷ (tok Operator 243 244 (codes "}")) ∷ (tok Inserted 244 244 (codes ";")) ∷ []); comments = ((note 14 29) ∷ []) }) ∷ []) }

bound_in_block_1_typed : is_typed bound_in_block_1 ≡ true
bound_in_block_1_typed = refl

bound_in_block_1_ends : step_of bound_in_block_1 ≡ None
bound_in_block_1_ends = refl

bound_in_block_1_kept : kept_uses bound_in_block_1 ≡ []
bound_in_block_1_kept = refl

-- Both are bound at once.
abbrev bound_at_once_0_f0 : File Span
bound_at_once_0_f0 = record { package_name = (nm 8 12 (codes "main")); imports = []; decls = ((fn (at 30 70) None (nm 35 39 (codes "Pair")) (sig ((param (at 40 48) (Some (nm 40 41 (codes "a"))) (named (at 45 48) None (nm 45 48 (codes "int")))) ∷ (param (at 43 48) (Some (nm 43 44 (codes "b"))) (named (at 45 48) None (nm 45 48 (codes "int")))) ∷ []) []) (at 50 70) (stmt_and (eval (at 52 68) (call (at 52 68) (ident (at 52 59) (codes "println")) (expr_and (ident (at 60 61) (codes "a")) (expr_and (ident (at 63 64) (codes "a")) (expr_and (ident (at 66 67) (codes "b")) no_exprs))) Plain)) no_stmts)) ∷ (fn (at 72 114) None (nm 77 81 (codes "next")) (sig [] ((param (at 84 87) None (named (at 84 87) None (nm 84 87 (codes "int")))) ∷ [])) (at 88 114) (stmt_and (eval (at 90 102) (call (at 90 102) (ident (at 90 97) (codes "println")) (expr_and (str_lit (at 98 101) (codes "\"n\"")) no_exprs) Plain)) (stmt_and (return_ (at 104 112) (expr_and (int_lit (at 111 112) (codes "1")) no_exprs)) no_stmts))) ∷ (fn (at 116 155) None (nm 121 122 (codes "g")) (sig [] ((param (at 125 128) None (named (at 125 128) None (nm 125 128 (codes "int")))) ∷ [])) (at 129 155) (stmt_and (eval (at 131 143) (call (at 131 143) (ident (at 131 138) (codes "println")) (expr_and (str_lit (at 139 142) (codes "\"g\"")) no_exprs) Plain)) (stmt_and (return_ (at 145 153) (expr_and (int_lit (at 152 153) (codes "1")) no_exprs)) no_stmts))) ∷ (fn (at 157 196) None (nm 162 163 (codes "h")) (sig [] ((param (at 166 169) None (named (at 166 169) None (nm 166 169 (codes "int")))) ∷ [])) (at 170 196) (stmt_and (eval (at 172 184) (call (at 172 184) (ident (at 172 179) (codes "println")) (expr_and (str_lit (at 180 183) (codes "\"h\"")) no_exprs) Plain)) (stmt_and (return_ (at 186 194) (expr_and (int_lit (at 193 194) (codes "1")) no_exprs)) no_stmts))) ∷ (fn (at 198 238) None (nm 203 207 (codes "main")) (sig [] []) (at 210 238) (stmt_and (define (at 213 219) ((nm 213 214 (codes "a")) ∷ []) (expr_and (int_lit (at 218 219) (codes "5")) no_exprs)) (stmt_and (eval (at 221 236) (call (at 221 236) (ident (at 221 225) (codes "Pair")) (expr_and (call (at 226 232) (ident (at 226 230) (codes "next")) no_exprs Plain) (expr_and (ident (at 234 235) (codes "a")) no_exprs)) Plain)) no_stmts))) ∷ []) }

bound_at_once_0_f0_read : read_at span_to read_front (lexemes ((tok Keyword 0 7 (codes "package")) ∷ (tok Ident 8 12 (codes "main")) ∷ (tok Inserted 12 12 (codes ";")) ∷ (tok Keyword 30 34 (codes "func")) ∷ (tok Ident 35 39 (codes "Pair")) ∷ (tok Operator 39 40 (codes "(")) ∷ (tok Ident 40 41 (codes "a")) ∷ (tok Operator 41 42 (codes ",")) ∷ (tok Ident 43 44 (codes "b")) ∷ (tok Ident 45 48 (codes "int")) ∷ (tok Operator 48 49 (codes ")")) ∷ (tok Operator 50 51 (codes "{")) ∷ (tok Ident 52 59 (codes "println")) ∷ (tok Operator 59 60 (codes "(")) ∷ (tok Ident 60 61 (codes "a")) ∷ (tok Operator 61 62 (codes ",")) ∷ (tok Ident 63 64 (codes "a")) ∷ (tok Operator 64 65 (codes ",")) ∷ (tok Ident 66 67 (codes "b")) ∷ (tok Operator 67 68 (codes ")")) ∷ (tok Operator 69 70 (codes "}")) ∷ (tok Inserted 70 70 (codes ";")) ∷ (tok Keyword 72 76 (codes "func")) ∷ (tok Ident 77 81 (codes "next")) ∷ (tok Operator 81 82 (codes "(")) ∷ (tok Operator 82 83 (codes ")")) ∷ (tok Ident 84 87 (codes "int")) ∷ (tok Operator 88 89 (codes "{")) ∷ (tok Ident 90 97 (codes "println")) ∷ (tok Operator 97 98 (codes "(")) ∷ (tok Str 98 101 (codes "\"n\"")) ∷ (tok Operator 101 102 (codes ")")) ∷ (tok Operator 102 103 (codes ";")) ∷ (tok Keyword 104 110 (codes "return")) ∷ (tok Integer 111 112 (codes "1")) ∷ (tok Operator 113 114 (codes "}")) ∷ (tok Inserted 114 114 (codes ";")) ∷ (tok Keyword 116 120 (codes "func")) ∷ (tok Ident 121 122 (codes "g")) ∷ (tok Operator 122 123 (codes "(")) ∷ (tok Operator 123 124 (codes ")")) ∷ (tok Ident 125 128 (codes "int")) ∷ (tok Operator 129 130 (codes "{")) ∷ (tok Ident 131 138 (codes "println")) ∷ (tok Operator 138 139 (codes "(")) ∷ (tok Str 139 142 (codes "\"g\"")) ∷ (tok Operator 142 143 (codes ")")) ∷ (tok Operator 143 144 (codes ";")) ∷ (tok Keyword 145 151 (codes "return")) ∷ (tok Integer 152 153 (codes "1")) ∷ (tok Operator 154 155 (codes "}")) ∷ (tok Inserted 155 155 (codes ";")) ∷ (tok Keyword 157 161 (codes "func")) ∷ (tok Ident 162 163 (codes "h")) ∷ (tok Operator 163 164 (codes "(")) ∷ (tok Operator 164 165 (codes ")")) ∷ (tok Ident 166 169 (codes "int")) ∷ (tok Operator 170 171 (codes "{")) ∷ (tok Ident 172 179 (codes "println")) ∷ (tok Operator 179 180 (codes "(")) ∷ (tok Str 180 183 (codes "\"h\"")) ∷ (tok Operator 183 184 (codes ")")) ∷ (tok Operator 184 185 (codes ";")) ∷ (tok Keyword 186 192 (codes "return")) ∷ (tok Integer 193 194 (codes "1")) ∷ (tok Operator 195 196 (codes "}")) ∷ (tok Inserted 196 196 (codes ";")) ∷ (tok Keyword 198 202 (codes "func")) ∷ (tok Ident 203 207 (codes "main")) ∷ (tok Operator 207 208 (codes "(")) ∷ (tok Operator 208 209 (codes ")")) ∷ (tok Operator 210 211 (codes "{")) ∷ (tok Ident 213 214 (codes "a")) ∷ (tok Operator 215 217 (codes ":=")) ∷ (tok Integer 218 219 (codes "5")) ∷ (tok Inserted 219 219 (codes ";")) ∷ (tok Ident 221 225 (codes "Pair")) ∷ (tok Operator 225 226 (codes "(")) ∷ (tok Ident 226 230 (codes "next")) ∷ (tok Operator 230 231 (codes "(")) ∷ (tok Operator 231 232 (codes ")")) ∷ (tok Operator 232 233 (codes ",")) ∷ (tok Ident 234 235 (codes "a")) ∷ (tok Operator 235 236 (codes ")")) ∷ (tok Inserted 236 236 (codes ";")) ∷ (tok Operator 237 238 (codes "}")) ∷ (tok Inserted 238 238 (codes ";")) ∷ [])) ≡ Some (bound_at_once_0_f0, [])
unfolding reading
bound_at_once_0_f0_read = refl

abbrev bound_at_once_0 : Module
bound_at_once_0 = record { packages = (pack (codes "example.com/m") (codes "main") (source (codes "main.go") bound_at_once_0_f0 ∷ []) ∷ []); marks = (mark 0 0 0 0 ∷ []); texts = (((codes "main.go"), record { text = (codes "package main\n\n//go:fix inline\nfunc Pair(a, b int) { println(a, a, b) }\n\nfunc next() int { println(\"n\"); return 1 }\n\nfunc g() int { println(\"g\"); return 1 }\n\nfunc h() int { println(\"h\"); return 1 }\n\nfunc main() {\n\ta := 5\n\tPair(next(), a)\n}\n"); tokens = ((tok Keyword 0 7 (codes "package")) ∷ (tok Ident 8 12 (codes "main")) ∷ (tok Inserted 12 12 (codes ";")) ∷ (tok Keyword 30 34 (codes "func")) ∷ (tok Ident 35 39 (codes "Pair")) ∷ (tok Operator 39 40 (codes "(")) ∷ (tok Ident 40 41 (codes "a")) ∷ (tok Operator 41 42 (codes ",")) ∷ (tok Ident 43 44 (codes "b")) ∷ (tok Ident 45 48 (codes "int")) ∷ (tok Operator 48 49 (codes ")")) ∷ (tok Operator 50 51 (codes "{")) ∷ (tok Ident 52 59 (codes "println")) ∷ (tok Operator 59 60 (codes "(")) ∷ (tok Ident 60 61 (codes "a")) ∷ (tok Operator 61 62 (codes ",")) ∷ (tok Ident 63 64 (codes "a")) ∷ (tok Operator 64 65 (codes ",")) ∷ (tok Ident 66 67 (codes "b")) ∷ (tok Operator 67 68 (codes ")")) ∷ (tok Operator 69 70 (codes "}")) ∷ (tok Inserted 70 70 (codes ";")) ∷ (tok Keyword 72 76 (codes "func")) ∷ (tok Ident 77 81 (codes "next")) ∷ (tok Operator 81 82 (codes "(")) ∷ (tok Operator 82 83 (codes ")")) ∷ (tok Ident 84 87 (codes "int")) ∷ (tok Operator 88 89 (codes "{")) ∷ (tok Ident 90 97 (codes "println")) ∷ (tok Operator 97 98 (codes "(")) ∷ (tok Str 98 101 (codes "\"n\"")) ∷ (tok Operator 101 102 (codes ")")) ∷ (tok Operator 102 103 (codes ";")) ∷ (tok Keyword 104 110 (codes "return")) ∷ (tok Integer 111 112 (codes "1")) ∷ (tok Operator 113 114 (codes "}")) ∷ (tok Inserted 114 114 (codes ";")) ∷ (tok Keyword 116 120 (codes "func")) ∷ (tok Ident 121 122 (codes "g")) ∷ (tok Operator 122 123 (codes "(")) ∷ (tok Operator 123 124 (codes ")")) ∷ (tok Ident 125 128 (codes "int")) ∷ (tok Operator 129 130 (codes "{")) ∷ (tok Ident 131 138 (codes "println")) ∷ (tok Operator 138 139 (codes "(")) ∷ (tok Str 139 142 (codes "\"g\"")) ∷ (tok Operator 142 143 (codes ")")) ∷ (tok Operator 143 144 (codes ";")) ∷ (tok Keyword 145 151 (codes "return")) ∷ (tok Integer 152 153 (codes "1")) ∷ (tok Operator 154 155 (codes "}")) ∷ (tok Inserted 155 155 (codes ";")) ∷ (tok Keyword 157 161 (codes "func")) ∷ (tok Ident 162 163 (codes "h")) ∷ (tok Operator 163 164 (codes "(")) ∷ (tok Operator 164 165 (codes ")")) ∷ (tok Ident 166 169 (codes "int")) ∷ (tok Operator 170 171 (codes "{")) ∷ (tok Ident 172 179 (codes "println")) ∷ (tok Operator 179 180 (codes "(")) ∷ (tok Str 180 183 (codes "\"h\"")) ∷ (tok Operator 183 184 (codes ")")) ∷ (tok Operator 184 185 (codes ";")) ∷ (tok Keyword 186 192 (codes "return")) ∷ (tok Integer 193 194 (codes "1")) ∷ (tok Operator 195 196 (codes "}")) ∷ (tok Inserted 196 196 (codes ";")) ∷ (tok Keyword 198 202 (codes "func")) ∷ (tok Ident 203 207 (codes "main")) ∷ (tok Operator 207 208 (codes "(")) ∷ (tok Operator 208 209 (codes ")")) ∷ (tok Operator 210 211 (codes "{")) ∷ (tok Ident 213 214 (codes "a")) ∷ (tok Operator 215 217 (codes ":=")) ∷ (tok Integer 218 219 (codes "5")) ∷ (tok Inserted 219 219 (codes ";")) ∷ (tok Ident 221 225 (codes "Pair")) ∷ (tok Operator 225 226 (codes "(")) ∷ (tok Ident 226 230 (codes "next")) ∷ (tok Operator 230 231 (codes "(")) ∷ (tok Operator 231 232 (codes ")")) ∷ (tok Operator 232 233 (codes ",")) ∷ (tok Ident 234 235 (codes "a")) ∷ (tok Operator 235 236 (codes ")")) ∷ (tok Inserted 236 236 (codes ";")) ∷ (tok Operator 237 238 (codes "}")) ∷ (tok Inserted 238 238 (codes ";")) ∷ []); comments = ((note 14 29) ∷ []) }) ∷ []) }

bound_at_once_0_typed : is_typed bound_at_once_0 ≡ true
bound_at_once_0_typed = refl

bound_at_once_0_step : first_change bound_at_once_0 ≡ Some ((codes "main.go"), BlockForm, (codes "package main\n\n//go:fix inline\nfunc Pair(a, b int) { println(a, a, b) }\n\nfunc next() int { println(\"n\"); return 1 }\n\nfunc g() int { println(\"g\"); return 1 }\n\nfunc h() int { println(\"h\"); return 1 }\n\nfunc main() {\n\ta := 5\n\t{\n\t\ta, b := next(), a\n\t\tprintln(a, a, b)\n\t}\n}\n"))
bound_at_once_0_step = refl

abbrev bound_at_once_1_f0 : File Span
bound_at_once_1_f0 = record { package_name = (nm 8 12 (codes "main")); imports = []; decls = ((fn (at 30 70) None (nm 35 39 (codes "Pair")) (sig ((param (at 40 48) (Some (nm 40 41 (codes "a"))) (named (at 45 48) None (nm 45 48 (codes "int")))) ∷ (param (at 43 48) (Some (nm 43 44 (codes "b"))) (named (at 45 48) None (nm 45 48 (codes "int")))) ∷ []) []) (at 50 70) (stmt_and (eval (at 52 68) (call (at 52 68) (ident (at 52 59) (codes "println")) (expr_and (ident (at 60 61) (codes "a")) (expr_and (ident (at 63 64) (codes "a")) (expr_and (ident (at 66 67) (codes "b")) no_exprs))) Plain)) no_stmts)) ∷ (fn (at 72 114) None (nm 77 81 (codes "next")) (sig [] ((param (at 84 87) None (named (at 84 87) None (nm 84 87 (codes "int")))) ∷ [])) (at 88 114) (stmt_and (eval (at 90 102) (call (at 90 102) (ident (at 90 97) (codes "println")) (expr_and (str_lit (at 98 101) (codes "\"n\"")) no_exprs) Plain)) (stmt_and (return_ (at 104 112) (expr_and (int_lit (at 111 112) (codes "1")) no_exprs)) no_stmts))) ∷ (fn (at 116 155) None (nm 121 122 (codes "g")) (sig [] ((param (at 125 128) None (named (at 125 128) None (nm 125 128 (codes "int")))) ∷ [])) (at 129 155) (stmt_and (eval (at 131 143) (call (at 131 143) (ident (at 131 138) (codes "println")) (expr_and (str_lit (at 139 142) (codes "\"g\"")) no_exprs) Plain)) (stmt_and (return_ (at 145 153) (expr_and (int_lit (at 152 153) (codes "1")) no_exprs)) no_stmts))) ∷ (fn (at 157 196) None (nm 162 163 (codes "h")) (sig [] ((param (at 166 169) None (named (at 166 169) None (nm 166 169 (codes "int")))) ∷ [])) (at 170 196) (stmt_and (eval (at 172 184) (call (at 172 184) (ident (at 172 179) (codes "println")) (expr_and (str_lit (at 180 183) (codes "\"h\"")) no_exprs) Plain)) (stmt_and (return_ (at 186 194) (expr_and (int_lit (at 193 194) (codes "1")) no_exprs)) no_stmts))) ∷ (fn (at 198 266) None (nm 203 207 (codes "main")) (sig [] []) (at 210 266) (stmt_and (define (at 213 219) ((nm 213 214 (codes "a")) ∷ []) (expr_and (int_lit (at 218 219) (codes "5")) no_exprs)) (stmt_and (inner (at 221 264) (stmt_and (define (at 225 242) ((nm 225 226 (codes "a")) ∷ (nm 228 229 (codes "b")) ∷ []) (expr_and (call (at 233 239) (ident (at 233 237) (codes "next")) no_exprs Plain) (expr_and (ident (at 241 242) (codes "a")) no_exprs))) (stmt_and (eval (at 245 261) (call (at 245 261) (ident (at 245 252) (codes "println")) (expr_and (ident (at 253 254) (codes "a")) (expr_and (ident (at 256 257) (codes "a")) (expr_and (ident (at 259 260) (codes "b")) no_exprs))) Plain)) no_stmts))) no_stmts))) ∷ []) }

bound_at_once_1_f0_read : read_at span_to read_front (lexemes ((tok Keyword 0 7 (codes "package")) ∷ (tok Ident 8 12 (codes "main")) ∷ (tok Inserted 12 12 (codes ";")) ∷ (tok Keyword 30 34 (codes "func")) ∷ (tok Ident 35 39 (codes "Pair")) ∷ (tok Operator 39 40 (codes "(")) ∷ (tok Ident 40 41 (codes "a")) ∷ (tok Operator 41 42 (codes ",")) ∷ (tok Ident 43 44 (codes "b")) ∷ (tok Ident 45 48 (codes "int")) ∷ (tok Operator 48 49 (codes ")")) ∷ (tok Operator 50 51 (codes "{")) ∷ (tok Ident 52 59 (codes "println")) ∷ (tok Operator 59 60 (codes "(")) ∷ (tok Ident 60 61 (codes "a")) ∷ (tok Operator 61 62 (codes ",")) ∷ (tok Ident 63 64 (codes "a")) ∷ (tok Operator 64 65 (codes ",")) ∷ (tok Ident 66 67 (codes "b")) ∷ (tok Operator 67 68 (codes ")")) ∷ (tok Operator 69 70 (codes "}")) ∷ (tok Inserted 70 70 (codes ";")) ∷ (tok Keyword 72 76 (codes "func")) ∷ (tok Ident 77 81 (codes "next")) ∷ (tok Operator 81 82 (codes "(")) ∷ (tok Operator 82 83 (codes ")")) ∷ (tok Ident 84 87 (codes "int")) ∷ (tok Operator 88 89 (codes "{")) ∷ (tok Ident 90 97 (codes "println")) ∷ (tok Operator 97 98 (codes "(")) ∷ (tok Str 98 101 (codes "\"n\"")) ∷ (tok Operator 101 102 (codes ")")) ∷ (tok Operator 102 103 (codes ";")) ∷ (tok Keyword 104 110 (codes "return")) ∷ (tok Integer 111 112 (codes "1")) ∷ (tok Operator 113 114 (codes "}")) ∷ (tok Inserted 114 114 (codes ";")) ∷ (tok Keyword 116 120 (codes "func")) ∷ (tok Ident 121 122 (codes "g")) ∷ (tok Operator 122 123 (codes "(")) ∷ (tok Operator 123 124 (codes ")")) ∷ (tok Ident 125 128 (codes "int")) ∷ (tok Operator 129 130 (codes "{")) ∷ (tok Ident 131 138 (codes "println")) ∷ (tok Operator 138 139 (codes "(")) ∷ (tok Str 139 142 (codes "\"g\"")) ∷ (tok Operator 142 143 (codes ")")) ∷ (tok Operator 143 144 (codes ";")) ∷ (tok Keyword 145 151 (codes "return")) ∷ (tok Integer 152 153 (codes "1")) ∷ (tok Operator 154 155 (codes "}")) ∷ (tok Inserted 155 155 (codes ";")) ∷ (tok Keyword 157 161 (codes "func")) ∷ (tok Ident 162 163 (codes "h")) ∷ (tok Operator 163 164 (codes "(")) ∷ (tok Operator 164 165 (codes ")")) ∷ (tok Ident 166 169 (codes "int")) ∷ (tok Operator 170 171 (codes "{")) ∷ (tok Ident 172 179 (codes "println")) ∷ (tok Operator 179 180 (codes "(")) ∷ (tok Str 180 183 (codes "\"h\"")) ∷ (tok Operator 183 184 (codes ")")) ∷ (tok Operator 184 185 (codes ";")) ∷ (tok Keyword 186 192 (codes "return")) ∷ (tok Integer 193 194 (codes "1")) ∷ (tok Operator 195 196 (codes "}")) ∷ (tok Inserted 196 196 (codes ";")) ∷ (tok Keyword 198 202 (codes "func")) ∷ (tok Ident 203 207 (codes "main")) ∷ (tok Operator 207 208 (codes "(")) ∷ (tok Operator 208 209 (codes ")")) ∷ (tok Operator 210 211 (codes "{")) ∷ (tok Ident 213 214 (codes "a")) ∷ (tok Operator 215 217 (codes ":=")) ∷ (tok Integer 218 219 (codes "5")) ∷ (tok Inserted 219 219 (codes ";")) ∷ (tok Operator 221 222 (codes "{")) ∷ (tok Ident 225 226 (codes "a")) ∷ (tok Operator 226 227 (codes ",")) ∷ (tok Ident 228 229 (codes "b")) ∷ (tok Operator 230 232 (codes ":=")) ∷ (tok Ident 233 237 (codes "next")) ∷ (tok Operator 237 238 (codes "(")) ∷ (tok Operator 238 239 (codes ")")) ∷ (tok Operator 239 240 (codes ",")) ∷ (tok Ident 241 242 (codes "a")) ∷ (tok Inserted 242 242 (codes ";")) ∷ (tok Ident 245 252 (codes "println")) ∷ (tok Operator 252 253 (codes "(")) ∷ (tok Ident 253 254 (codes "a")) ∷ (tok Operator 254 255 (codes ",")) ∷ (tok Ident 256 257 (codes "a")) ∷ (tok Operator 257 258 (codes ",")) ∷ (tok Ident 259 260 (codes "b")) ∷ (tok Operator 260 261 (codes ")")) ∷ (tok Inserted 261 261 (codes ";")) ∷ (tok Operator 263 264 (codes "}")) ∷ (tok Inserted 264 264 (codes ";")) ∷ (tok Operator 265 266 (codes "}")) ∷ (tok Inserted 266 266 (codes ";")) ∷ [])) ≡ Some (bound_at_once_1_f0, [])
unfolding reading
bound_at_once_1_f0_read = refl

abbrev bound_at_once_1 : Module
bound_at_once_1 = record { packages = (pack (codes "example.com/m") (codes "main") (source (codes "main.go") bound_at_once_1_f0 ∷ []) ∷ []); marks = (mark 0 0 0 0 ∷ []); texts = (((codes "main.go"), record { text = (codes "package main\n\n//go:fix inline\nfunc Pair(a, b int) { println(a, a, b) }\n\nfunc next() int { println(\"n\"); return 1 }\n\nfunc g() int { println(\"g\"); return 1 }\n\nfunc h() int { println(\"h\"); return 1 }\n\nfunc main() {\n\ta := 5\n\t{\n\t\ta, b := next(), a\n\t\tprintln(a, a, b)\n\t}\n}\n"); tokens = ((tok Keyword 0 7 (codes "package")) ∷ (tok Ident 8 12 (codes "main")) ∷ (tok Inserted 12 12 (codes ";")) ∷ (tok Keyword 30 34 (codes "func")) ∷ (tok Ident 35 39 (codes "Pair")) ∷ (tok Operator 39 40 (codes "(")) ∷ (tok Ident 40 41 (codes "a")) ∷ (tok Operator 41 42 (codes ",")) ∷ (tok Ident 43 44 (codes "b")) ∷ (tok Ident 45 48 (codes "int")) ∷ (tok Operator 48 49 (codes ")")) ∷ (tok Operator 50 51 (codes "{")) ∷ (tok Ident 52 59 (codes "println")) ∷ (tok Operator 59 60 (codes "(")) ∷ (tok Ident 60 61 (codes "a")) ∷ (tok Operator 61 62 (codes ",")) ∷ (tok Ident 63 64 (codes "a")) ∷ (tok Operator 64 65 (codes ",")) ∷ (tok Ident 66 67 (codes "b")) ∷ (tok Operator 67 68 (codes ")")) ∷ (tok Operator 69 70 (codes "}")) ∷ (tok Inserted 70 70 (codes ";")) ∷ (tok Keyword 72 76 (codes "func")) ∷ (tok Ident 77 81 (codes "next")) ∷ (tok Operator 81 82 (codes "(")) ∷ (tok Operator 82 83 (codes ")")) ∷ (tok Ident 84 87 (codes "int")) ∷ (tok Operator 88 89 (codes "{")) ∷ (tok Ident 90 97 (codes "println")) ∷ (tok Operator 97 98 (codes "(")) ∷ (tok Str 98 101 (codes "\"n\"")) ∷ (tok Operator 101 102 (codes ")")) ∷ (tok Operator 102 103 (codes ";")) ∷ (tok Keyword 104 110 (codes "return")) ∷ (tok Integer 111 112 (codes "1")) ∷ (tok Operator 113 114 (codes "}")) ∷ (tok Inserted 114 114 (codes ";")) ∷ (tok Keyword 116 120 (codes "func")) ∷ (tok Ident 121 122 (codes "g")) ∷ (tok Operator 122 123 (codes "(")) ∷ (tok Operator 123 124 (codes ")")) ∷ (tok Ident 125 128 (codes "int")) ∷ (tok Operator 129 130 (codes "{")) ∷ (tok Ident 131 138 (codes "println")) ∷ (tok Operator 138 139 (codes "(")) ∷ (tok Str 139 142 (codes "\"g\"")) ∷ (tok Operator 142 143 (codes ")")) ∷ (tok Operator 143 144 (codes ";")) ∷ (tok Keyword 145 151 (codes "return")) ∷ (tok Integer 152 153 (codes "1")) ∷ (tok Operator 154 155 (codes "}")) ∷ (tok Inserted 155 155 (codes ";")) ∷ (tok Keyword 157 161 (codes "func")) ∷ (tok Ident 162 163 (codes "h")) ∷ (tok Operator 163 164 (codes "(")) ∷ (tok Operator 164 165 (codes ")")) ∷ (tok Ident 166 169 (codes "int")) ∷ (tok Operator 170 171 (codes "{")) ∷ (tok Ident 172 179 (codes "println")) ∷ (tok Operator 179 180 (codes "(")) ∷ (tok Str 180 183 (codes "\"h\"")) ∷ (tok Operator 183 184 (codes ")")) ∷ (tok Operator 184 185 (codes ";")) ∷ (tok Keyword 186 192 (codes "return")) ∷ (tok Integer 193 194 (codes "1")) ∷ (tok Operator 195 196 (codes "}")) ∷ (tok Inserted 196 196 (codes ";")) ∷ (tok Keyword 198 202 (codes "func")) ∷ (tok Ident 203 207 (codes "main")) ∷ (tok Operator 207 208 (codes "(")) ∷ (tok Operator 208 209 (codes ")")) ∷ (tok Operator 210 211 (codes "{")) ∷ (tok Ident 213 214 (codes "a")) ∷ (tok Operator 215 217 (codes ":=")) ∷ (tok Integer 218 219 (codes "5")) ∷ (tok Inserted 219 219 (codes ";")) ∷ (tok Operator 221 222 (codes "{")) ∷ (tok Ident 225 226 (codes "a")) ∷ (tok Operator 226 227 (codes ",")) ∷ (tok Ident 228 229 (codes "b")) ∷ (tok Operator 230 232 (codes ":=")) ∷ (tok Ident 233 237 (codes "next")) ∷ (tok Operator 237 238 (codes "(")) ∷ (tok Operator 238 239 (codes ")")) ∷ (tok Operator 239 240 (codes ",")) ∷ (tok Ident 241 242 (codes "a")) ∷ (tok Inserted 242 242 (codes ";")) ∷ (tok Ident 245 252 (codes "println")) ∷ (tok Operator 252 253 (codes "(")) ∷ (tok Ident 253 254 (codes "a")) ∷ (tok Operator 254 255 (codes ",")) ∷ (tok Ident 256 257 (codes "a")) ∷ (tok Operator 257 258 (codes ",")) ∷ (tok Ident 259 260 (codes "b")) ∷ (tok Operator 260 261 (codes ")")) ∷ (tok Inserted 261 261 (codes ";")) ∷ (tok Operator 263 264 (codes "}")) ∷ (tok Inserted 264 264 (codes ";")) ∷ (tok Operator 265 266 (codes "}")) ∷ (tok Inserted 266 266 (codes ";")) ∷ []); comments = ((note 14 29) ∷ []) }) ∷ []) }

bound_at_once_1_typed : is_typed bound_at_once_1 ≡ true
bound_at_once_1_typed = refl

bound_at_once_1_ends : step_of bound_at_once_1 ≡ None
bound_at_once_1_ends = refl

bound_at_once_1_kept : kept_uses bound_at_once_1 ≡ []
bound_at_once_1_kept = refl

-- Two signs would be one token.
abbrev two_signs_0_f0 : File Span
two_signs_0_f0 = record { package_name = (nm 8 12 (codes "main")); imports = []; decls = ((fn (at 30 63) None (nm 35 38 (codes "Neg")) (sig ((param (at 39 44) (Some (nm 39 40 (codes "x"))) (named (at 41 44) None (nm 41 44 (codes "int")))) ∷ []) ((param (at 46 49) None (named (at 46 49) None (nm 46 49 (codes "int")))) ∷ [])) (at 50 63) (stmt_and (return_ (at 52 61) (expr_and (unary (at 59 61) Minus (ident (at 60 61) (codes "x"))) no_exprs)) no_stmts)) ∷ (fn (at 65 113) None (nm 70 74 (codes "main")) (sig [] []) (at 77 113) (stmt_and (define (at 80 92) ((nm 80 81 (codes "a")) ∷ (nm 83 84 (codes "b")) ∷ []) (expr_and (int_lit (at 88 89) (codes "3")) (expr_and (int_lit (at 91 92) (codes "4")) no_exprs))) (stmt_and (eval (at 94 111) (call (at 94 111) (ident (at 94 101) (codes "println")) (expr_and (binary (at 102 110) Sub (ident (at 102 103) (codes "a")) (call (at 104 110) (ident (at 104 107) (codes "Neg")) (expr_and (ident (at 108 109) (codes "b")) no_exprs) Plain)) no_exprs) Plain)) no_stmts))) ∷ []) }

two_signs_0_f0_read : read_at span_to read_front (lexemes ((tok Keyword 0 7 (codes "package")) ∷ (tok Ident 8 12 (codes "main")) ∷ (tok Inserted 12 12 (codes ";")) ∷ (tok Keyword 30 34 (codes "func")) ∷ (tok Ident 35 38 (codes "Neg")) ∷ (tok Operator 38 39 (codes "(")) ∷ (tok Ident 39 40 (codes "x")) ∷ (tok Ident 41 44 (codes "int")) ∷ (tok Operator 44 45 (codes ")")) ∷ (tok Ident 46 49 (codes "int")) ∷ (tok Operator 50 51 (codes "{")) ∷ (tok Keyword 52 58 (codes "return")) ∷ (tok Operator 59 60 (codes "-")) ∷ (tok Ident 60 61 (codes "x")) ∷ (tok Operator 62 63 (codes "}")) ∷ (tok Inserted 63 63 (codes ";")) ∷ (tok Keyword 65 69 (codes "func")) ∷ (tok Ident 70 74 (codes "main")) ∷ (tok Operator 74 75 (codes "(")) ∷ (tok Operator 75 76 (codes ")")) ∷ (tok Operator 77 78 (codes "{")) ∷ (tok Ident 80 81 (codes "a")) ∷ (tok Operator 81 82 (codes ",")) ∷ (tok Ident 83 84 (codes "b")) ∷ (tok Operator 85 87 (codes ":=")) ∷ (tok Integer 88 89 (codes "3")) ∷ (tok Operator 89 90 (codes ",")) ∷ (tok Integer 91 92 (codes "4")) ∷ (tok Inserted 92 92 (codes ";")) ∷ (tok Ident 94 101 (codes "println")) ∷ (tok Operator 101 102 (codes "(")) ∷ (tok Ident 102 103 (codes "a")) ∷ (tok Operator 103 104 (codes "-")) ∷ (tok Ident 104 107 (codes "Neg")) ∷ (tok Operator 107 108 (codes "(")) ∷ (tok Ident 108 109 (codes "b")) ∷ (tok Operator 109 110 (codes ")")) ∷ (tok Operator 110 111 (codes ")")) ∷ (tok Inserted 111 111 (codes ";")) ∷ (tok Operator 112 113 (codes "}")) ∷ (tok Inserted 113 113 (codes ";")) ∷ [])) ≡ Some (two_signs_0_f0, [])
unfolding reading
two_signs_0_f0_read = refl

abbrev two_signs_0 : Module
two_signs_0 = record { packages = (pack (codes "example.com/m") (codes "main") (source (codes "main.go") two_signs_0_f0 ∷ []) ∷ []); marks = (mark 0 0 0 0 ∷ []); texts = (((codes "main.go"), record { text = (codes "package main\n\n//go:fix inline\nfunc Neg(x int) int { return -x }\n\nfunc main() {\n\ta, b := 3, 4\n\tprintln(a-Neg(b))\n}\n"); tokens = ((tok Keyword 0 7 (codes "package")) ∷ (tok Ident 8 12 (codes "main")) ∷ (tok Inserted 12 12 (codes ";")) ∷ (tok Keyword 30 34 (codes "func")) ∷ (tok Ident 35 38 (codes "Neg")) ∷ (tok Operator 38 39 (codes "(")) ∷ (tok Ident 39 40 (codes "x")) ∷ (tok Ident 41 44 (codes "int")) ∷ (tok Operator 44 45 (codes ")")) ∷ (tok Ident 46 49 (codes "int")) ∷ (tok Operator 50 51 (codes "{")) ∷ (tok Keyword 52 58 (codes "return")) ∷ (tok Operator 59 60 (codes "-")) ∷ (tok Ident 60 61 (codes "x")) ∷ (tok Operator 62 63 (codes "}")) ∷ (tok Inserted 63 63 (codes ";")) ∷ (tok Keyword 65 69 (codes "func")) ∷ (tok Ident 70 74 (codes "main")) ∷ (tok Operator 74 75 (codes "(")) ∷ (tok Operator 75 76 (codes ")")) ∷ (tok Operator 77 78 (codes "{")) ∷ (tok Ident 80 81 (codes "a")) ∷ (tok Operator 81 82 (codes ",")) ∷ (tok Ident 83 84 (codes "b")) ∷ (tok Operator 85 87 (codes ":=")) ∷ (tok Integer 88 89 (codes "3")) ∷ (tok Operator 89 90 (codes ",")) ∷ (tok Integer 91 92 (codes "4")) ∷ (tok Inserted 92 92 (codes ";")) ∷ (tok Ident 94 101 (codes "println")) ∷ (tok Operator 101 102 (codes "(")) ∷ (tok Ident 102 103 (codes "a")) ∷ (tok Operator 103 104 (codes "-")) ∷ (tok Ident 104 107 (codes "Neg")) ∷ (tok Operator 107 108 (codes "(")) ∷ (tok Ident 108 109 (codes "b")) ∷ (tok Operator 109 110 (codes ")")) ∷ (tok Operator 110 111 (codes ")")) ∷ (tok Inserted 111 111 (codes ";")) ∷ (tok Operator 112 113 (codes "}")) ∷ (tok Inserted 113 113 (codes ";")) ∷ []); comments = ((note 14 29) ∷ []) }) ∷ []) }

two_signs_0_typed : is_typed two_signs_0 ≡ true
two_signs_0_typed = refl

two_signs_0_step : first_change two_signs_0 ≡ Some ((codes "main.go"), ExprForm, (codes "package main\n\n//go:fix inline\nfunc Neg(x int) int { return -x }\n\nfunc main() {\n\ta, b := 3, 4\n\tprintln(a- -b)\n}\n"))
two_signs_0_step = refl

abbrev two_signs_1_f0 : File Span
two_signs_1_f0 = record { package_name = (nm 8 12 (codes "main")); imports = []; decls = ((fn (at 30 63) None (nm 35 38 (codes "Neg")) (sig ((param (at 39 44) (Some (nm 39 40 (codes "x"))) (named (at 41 44) None (nm 41 44 (codes "int")))) ∷ []) ((param (at 46 49) None (named (at 46 49) None (nm 46 49 (codes "int")))) ∷ [])) (at 50 63) (stmt_and (return_ (at 52 61) (expr_and (unary (at 59 61) Minus (ident (at 60 61) (codes "x"))) no_exprs)) no_stmts)) ∷ (fn (at 65 110) None (nm 70 74 (codes "main")) (sig [] []) (at 77 110) (stmt_and (define (at 80 92) ((nm 80 81 (codes "a")) ∷ (nm 83 84 (codes "b")) ∷ []) (expr_and (int_lit (at 88 89) (codes "3")) (expr_and (int_lit (at 91 92) (codes "4")) no_exprs))) (stmt_and (eval (at 94 108) (call (at 94 108) (ident (at 94 101) (codes "println")) (expr_and (binary (at 102 107) Sub (ident (at 102 103) (codes "a")) (unary (at 105 107) Minus (ident (at 106 107) (codes "b")))) no_exprs) Plain)) no_stmts))) ∷ []) }

two_signs_1_f0_read : read_at span_to read_front (lexemes ((tok Keyword 0 7 (codes "package")) ∷ (tok Ident 8 12 (codes "main")) ∷ (tok Inserted 12 12 (codes ";")) ∷ (tok Keyword 30 34 (codes "func")) ∷ (tok Ident 35 38 (codes "Neg")) ∷ (tok Operator 38 39 (codes "(")) ∷ (tok Ident 39 40 (codes "x")) ∷ (tok Ident 41 44 (codes "int")) ∷ (tok Operator 44 45 (codes ")")) ∷ (tok Ident 46 49 (codes "int")) ∷ (tok Operator 50 51 (codes "{")) ∷ (tok Keyword 52 58 (codes "return")) ∷ (tok Operator 59 60 (codes "-")) ∷ (tok Ident 60 61 (codes "x")) ∷ (tok Operator 62 63 (codes "}")) ∷ (tok Inserted 63 63 (codes ";")) ∷ (tok Keyword 65 69 (codes "func")) ∷ (tok Ident 70 74 (codes "main")) ∷ (tok Operator 74 75 (codes "(")) ∷ (tok Operator 75 76 (codes ")")) ∷ (tok Operator 77 78 (codes "{")) ∷ (tok Ident 80 81 (codes "a")) ∷ (tok Operator 81 82 (codes ",")) ∷ (tok Ident 83 84 (codes "b")) ∷ (tok Operator 85 87 (codes ":=")) ∷ (tok Integer 88 89 (codes "3")) ∷ (tok Operator 89 90 (codes ",")) ∷ (tok Integer 91 92 (codes "4")) ∷ (tok Inserted 92 92 (codes ";")) ∷ (tok Ident 94 101 (codes "println")) ∷ (tok Operator 101 102 (codes "(")) ∷ (tok Ident 102 103 (codes "a")) ∷ (tok Operator 103 104 (codes "-")) ∷ (tok Operator 105 106 (codes "-")) ∷ (tok Ident 106 107 (codes "b")) ∷ (tok Operator 107 108 (codes ")")) ∷ (tok Inserted 108 108 (codes ";")) ∷ (tok Operator 109 110 (codes "}")) ∷ (tok Inserted 110 110 (codes ";")) ∷ [])) ≡ Some (two_signs_1_f0, [])
unfolding reading
two_signs_1_f0_read = refl

abbrev two_signs_1 : Module
two_signs_1 = record { packages = (pack (codes "example.com/m") (codes "main") (source (codes "main.go") two_signs_1_f0 ∷ []) ∷ []); marks = (mark 0 0 0 0 ∷ []); texts = (((codes "main.go"), record { text = (codes "package main\n\n//go:fix inline\nfunc Neg(x int) int { return -x }\n\nfunc main() {\n\ta, b := 3, 4\n\tprintln(a- -b)\n}\n"); tokens = ((tok Keyword 0 7 (codes "package")) ∷ (tok Ident 8 12 (codes "main")) ∷ (tok Inserted 12 12 (codes ";")) ∷ (tok Keyword 30 34 (codes "func")) ∷ (tok Ident 35 38 (codes "Neg")) ∷ (tok Operator 38 39 (codes "(")) ∷ (tok Ident 39 40 (codes "x")) ∷ (tok Ident 41 44 (codes "int")) ∷ (tok Operator 44 45 (codes ")")) ∷ (tok Ident 46 49 (codes "int")) ∷ (tok Operator 50 51 (codes "{")) ∷ (tok Keyword 52 58 (codes "return")) ∷ (tok Operator 59 60 (codes "-")) ∷ (tok Ident 60 61 (codes "x")) ∷ (tok Operator 62 63 (codes "}")) ∷ (tok Inserted 63 63 (codes ";")) ∷ (tok Keyword 65 69 (codes "func")) ∷ (tok Ident 70 74 (codes "main")) ∷ (tok Operator 74 75 (codes "(")) ∷ (tok Operator 75 76 (codes ")")) ∷ (tok Operator 77 78 (codes "{")) ∷ (tok Ident 80 81 (codes "a")) ∷ (tok Operator 81 82 (codes ",")) ∷ (tok Ident 83 84 (codes "b")) ∷ (tok Operator 85 87 (codes ":=")) ∷ (tok Integer 88 89 (codes "3")) ∷ (tok Operator 89 90 (codes ",")) ∷ (tok Integer 91 92 (codes "4")) ∷ (tok Inserted 92 92 (codes ";")) ∷ (tok Ident 94 101 (codes "println")) ∷ (tok Operator 101 102 (codes "(")) ∷ (tok Ident 102 103 (codes "a")) ∷ (tok Operator 103 104 (codes "-")) ∷ (tok Operator 105 106 (codes "-")) ∷ (tok Ident 106 107 (codes "b")) ∷ (tok Operator 107 108 (codes ")")) ∷ (tok Inserted 108 108 (codes ";")) ∷ (tok Operator 109 110 (codes "}")) ∷ (tok Inserted 110 110 (codes ";")) ∷ []); comments = ((note 14 29) ∷ []) }) ∷ []) }

two_signs_1_typed : is_typed two_signs_1 ≡ true
two_signs_1_typed = refl

two_signs_1_ends : step_of two_signs_1 ≡ None
two_signs_1_ends = refl

two_signs_1_kept : kept_uses two_signs_1 ≡ []
two_signs_1_kept = refl
