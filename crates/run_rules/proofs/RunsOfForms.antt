-- Runs of modules whose calls become expressions, blocks and tails, whole.
use Rattle.std.proofs.Common.{◌≡◌, refl}
use Rattle.std.specs.Prelude.{true, false, [], ◌∷◌, Some, None, codes}
use Rattle.go_tree.specs.declared.spans.Span.{Span}
use Rattle.go_tree.specs.declared.exprs.Rest.TheVariants.{Plain}
use Rattle.go_tree.specs.declared.tokens.TokenKind.TheVariants.{Ident, Keyword, Operator, Integer, Str, Inserted}
use Rattle.go_tree.specs.declared.operators.BinOp.TheVariants.{Sub, Eq, Gt}
use Rattle.go_tree.specs.declared.operators.UnOp.TheVariants.{Minus}
use Rattle.go_tree.specs.Tree.{named, struct_type, no_fields, field, ident, int_lit, str_lit, composite, slice, call, unary, binary, no_exprs, expr_and, no_expr, some_expr, no_elems, elem, plain, no_value, eval, assign, define, return_, inner, if_, no_stmts, stmt_and, no_stmt, no_block, no_arms, arm}
use Rattle.go_tree.specs.File.{File, types}
use Rattle.run_rules.proofs.CaseTools.{at, nm, tok, note, param, sig, tspec, fn, pack, source, mark, Module}
use Rattle.go_layout.specs.SpellsSpans.{span_to}
use Rattle.go_tree.specs.GoWords.Terminals.{lexemes}
use Rattle.go_layout.specs.Goals.{read_front}
use Rattle.go_layout.proofs.Texts.{reading}
use Rattle.run_rules.proofs.CaseTools.{read_at}
use Rattle.go_tree.specs.GoWords.Tokens.Pieces.{keyword_spellings}
use Rattle.directive_scan.specs.Lines.{is_inline}
use Rattle.pkg_graph.specs.ModuleFiles.Internal.{passes}
use Rattle.std.specs.Prelude.{is_some}
use Rattle.run_rules.specs.Texts.{FileText}
use Rattle.run_rules.specs.Steps.{At}
use Rattle.run_rules.specs.Marks.{marks_of}
use Rattle.run_rules.specs.Run.{Standing, Next, step_in, goes_on, ends, the_limits}
use Rattle.run_rules.specs.Run as run
use Rattle.go_layout.proofs.Whole.{file_spelled}
use Rattle.std.specs.Fmt.{digits}
use Rattle.run_rules.specs.Inlining.{standing_as_read, begins, steps_on, IsInlining}
use Rattle.run_rules.proofs.CaseTools.{from, nmf}
use Rattle.go_tree.specs.GoWords.Tokens.{TokensOf}
use Rattle.run_rules.proofs.Instances.{stands_after, log_entry, next_by, kept_by, inlining_by}
use Rattle.run_rules.proofs.ModulesRead.{module_by, module_text, folder, small_module, small_module_is}
use Rattle.ucd_category.specs.GeneralCategory.{general_category}
use Rattle.ucd_category.specs.GeneralCategoryRows.{general_category_rows}
use Rattle.ucd_table.specs.Rows.{value_in}
use Rattle.go_tree.specs.GoWords.Tokens.{tokens_from, comments_from}
use Rattle.go_tree.specs.GoWords.Tokens.Characters.{is_letter, is_digit}
use Rattle.directive_scan.specs.Automaton.{next_of, longest_from}
use Rattle.directive_scan.specs.Pieces.{piece_of, lexeme_of}
use Rattle.run_rules.proofs.TokensFound.{tokens_by}

-- All that a return returns.
abbrev tail_call_f0 : File Span
tail_call_f0 = record { package_name = (nm 8 12 (codes "main")); imports = []; decls = ((fn (at 30 127) None (nm 35 40 (codes "Split")) (sig ((param (at 41 49) (Some (nm 41 42 (codes "s"))) (named (at 43 49) None (nm 43 49 (codes "string")))) ∷ []) ((param (at 52 58) None (named (at 52 58) None (nm 52 58 (codes "string")))) ∷ (param (at 60 66) None (named (at 60 66) None (nm 60 66 (codes "string")))) ∷ [])) (at 68 127) (stmt_and (if_ (at 71 111) (arm (at 71 111) no_stmt (binary (at 74 84) Gt (call (at 74 80) (ident (at 74 77) (codes "len")) (expr_and (ident (at 78 79) (codes "s")) no_exprs) Plain) (int_lit (at 83 84) (codes "1"))) (at 85 111) (stmt_and (return_ (at 89 108) (expr_and (slice (at 96 101) (ident (at 96 97) (codes "s")) no_expr (some_expr (int_lit (at 99 100) (codes "1")))) (expr_and (slice (at 103 108) (ident (at 103 104) (codes "s")) (some_expr (int_lit (at 105 106) (codes "1"))) no_expr) no_exprs))) no_stmts) no_arms) no_block) (stmt_and (return_ (at 113 125) (expr_and (ident (at 120 121) (codes "s")) (expr_and (str_lit (at 123 125) (codes "\"\"")) no_exprs))) no_stmts))) ∷ (fn (at 129 185) None (nm 134 137 (codes "Cut")) (sig ((param (at 138 146) (Some (nm 138 139 (codes "t"))) (named (at 140 146) None (nm 140 146 (codes "string")))) ∷ []) ((param (at 149 155) None (named (at 149 155) None (nm 149 155 (codes "string")))) ∷ (param (at 157 163) None (named (at 157 163) None (nm 157 163 (codes "string")))) ∷ [])) (at 165 185) (stmt_and (return_ (at 168 183) (expr_and (call (at 175 183) (ident (at 175 180) (codes "Split")) (expr_and (ident (at 181 182) (codes "t")) no_exprs) Plain) no_exprs)) no_stmts)) ∷ (fn (at 187 222) None (nm 192 196 (codes "main")) (sig [] []) (at 199 222) (stmt_and (eval (at 202 220) (call (at 202 220) (ident (at 202 209) (codes "println")) (expr_and (call (at 210 219) (ident (at 210 213) (codes "Cut")) (expr_and (str_lit (at 214 218) (codes "\"ab\"")) no_exprs) Plain) no_exprs) Plain)) no_stmts)) ∷ []) }

abbrev tail_call : Module
tail_call = record { packages = (pack (codes "example.com/m") (codes "main") (source (codes "main.go") tail_call_f0 ∷ []) ∷ []); marks = (mark 0 0 0 0 ∷ []); texts = (((codes "main.go"), record { text = (codes "package main\n\n//go:fix inline\nfunc Split(s string) (string, string) {\n\tif len(s) > 1 {\n\t\treturn s[:1], s[1:]\n\t}\n\treturn s, \"\"\n}\n\nfunc Cut(t string) (string, string) {\n\treturn Split(t)\n}\n\nfunc main() {\n\tprintln(Cut(\"ab\"))\n}\n"); tokens = ((tok Keyword 0 7 (codes "package")) ∷ (tok Ident 8 12 (codes "main")) ∷ (tok Inserted 12 12 (codes ";")) ∷ (tok Keyword 30 34 (codes "func")) ∷ (tok Ident 35 40 (codes "Split")) ∷ (tok Operator 40 41 (codes "(")) ∷ (tok Ident 41 42 (codes "s")) ∷ (tok Ident 43 49 (codes "string")) ∷ (tok Operator 49 50 (codes ")")) ∷ (tok Operator 51 52 (codes "(")) ∷ (tok Ident 52 58 (codes "string")) ∷ (tok Operator 58 59 (codes ",")) ∷ (tok Ident 60 66 (codes "string")) ∷ (tok Operator 66 67 (codes ")")) ∷ (tok Operator 68 69 (codes "{")) ∷ (tok Keyword 71 73 (codes "if")) ∷ (tok Ident 74 77 (codes "len")) ∷ (tok Operator 77 78 (codes "(")) ∷ (tok Ident 78 79 (codes "s")) ∷ (tok Operator 79 80 (codes ")")) ∷ (tok Operator 81 82 (codes ">")) ∷ (tok Integer 83 84 (codes "1")) ∷ (tok Operator 85 86 (codes "{")) ∷ (tok Keyword 89 95 (codes "return")) ∷ (tok Ident 96 97 (codes "s")) ∷ (tok Operator 97 98 (codes "[")) ∷ (tok Operator 98 99 (codes ":")) ∷ (tok Integer 99 100 (codes "1")) ∷ (tok Operator 100 101 (codes "]")) ∷ (tok Operator 101 102 (codes ",")) ∷ (tok Ident 103 104 (codes "s")) ∷ (tok Operator 104 105 (codes "[")) ∷ (tok Integer 105 106 (codes "1")) ∷ (tok Operator 106 107 (codes ":")) ∷ (tok Operator 107 108 (codes "]")) ∷ (tok Inserted 108 108 (codes ";")) ∷ (tok Operator 110 111 (codes "}")) ∷ (tok Inserted 111 111 (codes ";")) ∷ (tok Keyword 113 119 (codes "return")) ∷ (tok Ident 120 121 (codes "s")) ∷ (tok Operator 121 122 (codes ",")) ∷ (tok Str 123 125 (codes "\"\"")) ∷ (tok Inserted 125 125 (codes ";")) ∷ (tok Operator 126 127 (codes "}")) ∷ (tok Inserted 127 127 (codes ";")) ∷ (tok Keyword 129 133 (codes "func")) ∷ (tok Ident 134 137 (codes "Cut")) ∷ (tok Operator 137 138 (codes "(")) ∷ (tok Ident 138 139 (codes "t")) ∷ (tok Ident 140 146 (codes "string")) ∷ (tok Operator 146 147 (codes ")")) ∷ (tok Operator 148 149 (codes "(")) ∷ (tok Ident 149 155 (codes "string")) ∷ (tok Operator 155 156 (codes ",")) ∷ (tok Ident 157 163 (codes "string")) ∷ (tok Operator 163 164 (codes ")")) ∷ (tok Operator 165 166 (codes "{")) ∷ (tok Keyword 168 174 (codes "return")) ∷ (tok Ident 175 180 (codes "Split")) ∷ (tok Operator 180 181 (codes "(")) ∷ (tok Ident 181 182 (codes "t")) ∷ (tok Operator 182 183 (codes ")")) ∷ (tok Inserted 183 183 (codes ";")) ∷ (tok Operator 184 185 (codes "}")) ∷ (tok Inserted 185 185 (codes ";")) ∷ (tok Keyword 187 191 (codes "func")) ∷ (tok Ident 192 196 (codes "main")) ∷ (tok Operator 196 197 (codes "(")) ∷ (tok Operator 197 198 (codes ")")) ∷ (tok Operator 199 200 (codes "{")) ∷ (tok Ident 202 209 (codes "println")) ∷ (tok Operator 209 210 (codes "(")) ∷ (tok Ident 210 213 (codes "Cut")) ∷ (tok Operator 213 214 (codes "(")) ∷ (tok Str 214 218 (codes "\"ab\"")) ∷ (tok Operator 218 219 (codes ")")) ∷ (tok Operator 219 220 (codes ")")) ∷ (tok Inserted 220 220 (codes ";")) ∷ (tok Operator 221 222 (codes "}")) ∷ (tok Inserted 222 222 (codes ";")) ∷ []); comments = ((note 14 29) ∷ []) }) ∷ []) }

abbrev tail_call_t0 : FileText
tail_call_t0 = (record { text = (codes "package main\n\n//go:fix inline\nfunc Split(s string) (string, string) {\n\tif len(s) > 1 {\n\t\treturn s[:1], s[1:]\n\t}\n\treturn s, \"\"\n}\n\nfunc Cut(t string) (string, string) {\n\treturn Split(t)\n}\n\nfunc main() {\n\tprintln(Cut(\"ab\"))\n}\n"); tokens = ((tok Keyword 0 7 (codes "package")) ∷ (tok Ident 8 12 (codes "main")) ∷ (tok Inserted 12 12 (codes ";")) ∷ (tok Keyword 30 34 (codes "func")) ∷ (tok Ident 35 40 (codes "Split")) ∷ (tok Operator 40 41 (codes "(")) ∷ (tok Ident 41 42 (codes "s")) ∷ (tok Ident 43 49 (codes "string")) ∷ (tok Operator 49 50 (codes ")")) ∷ (tok Operator 51 52 (codes "(")) ∷ (tok Ident 52 58 (codes "string")) ∷ (tok Operator 58 59 (codes ",")) ∷ (tok Ident 60 66 (codes "string")) ∷ (tok Operator 66 67 (codes ")")) ∷ (tok Operator 68 69 (codes "{")) ∷ (tok Keyword 71 73 (codes "if")) ∷ (tok Ident 74 77 (codes "len")) ∷ (tok Operator 77 78 (codes "(")) ∷ (tok Ident 78 79 (codes "s")) ∷ (tok Operator 79 80 (codes ")")) ∷ (tok Operator 81 82 (codes ">")) ∷ (tok Integer 83 84 (codes "1")) ∷ (tok Operator 85 86 (codes "{")) ∷ (tok Keyword 89 95 (codes "return")) ∷ (tok Ident 96 97 (codes "s")) ∷ (tok Operator 97 98 (codes "[")) ∷ (tok Operator 98 99 (codes ":")) ∷ (tok Integer 99 100 (codes "1")) ∷ (tok Operator 100 101 (codes "]")) ∷ (tok Operator 101 102 (codes ",")) ∷ (tok Ident 103 104 (codes "s")) ∷ (tok Operator 104 105 (codes "[")) ∷ (tok Integer 105 106 (codes "1")) ∷ (tok Operator 106 107 (codes ":")) ∷ (tok Operator 107 108 (codes "]")) ∷ (tok Inserted 108 108 (codes ";")) ∷ (tok Operator 110 111 (codes "}")) ∷ (tok Inserted 111 111 (codes ";")) ∷ (tok Keyword 113 119 (codes "return")) ∷ (tok Ident 120 121 (codes "s")) ∷ (tok Operator 121 122 (codes ",")) ∷ (tok Str 123 125 (codes "\"\"")) ∷ (tok Inserted 125 125 (codes ";")) ∷ (tok Operator 126 127 (codes "}")) ∷ (tok Inserted 127 127 (codes ";")) ∷ (tok Keyword 129 133 (codes "func")) ∷ (tok Ident 134 137 (codes "Cut")) ∷ (tok Operator 137 138 (codes "(")) ∷ (tok Ident 138 139 (codes "t")) ∷ (tok Ident 140 146 (codes "string")) ∷ (tok Operator 146 147 (codes ")")) ∷ (tok Operator 148 149 (codes "(")) ∷ (tok Ident 149 155 (codes "string")) ∷ (tok Operator 155 156 (codes ",")) ∷ (tok Ident 157 163 (codes "string")) ∷ (tok Operator 163 164 (codes ")")) ∷ (tok Operator 165 166 (codes "{")) ∷ (tok Keyword 168 174 (codes "return")) ∷ (tok Ident 175 180 (codes "Split")) ∷ (tok Operator 180 181 (codes "(")) ∷ (tok Ident 181 182 (codes "t")) ∷ (tok Operator 182 183 (codes ")")) ∷ (tok Inserted 183 183 (codes ";")) ∷ (tok Operator 184 185 (codes "}")) ∷ (tok Inserted 185 185 (codes ";")) ∷ (tok Keyword 187 191 (codes "func")) ∷ (tok Ident 192 196 (codes "main")) ∷ (tok Operator 196 197 (codes "(")) ∷ (tok Operator 197 198 (codes ")")) ∷ (tok Operator 199 200 (codes "{")) ∷ (tok Ident 202 209 (codes "println")) ∷ (tok Operator 209 210 (codes "(")) ∷ (tok Ident 210 213 (codes "Cut")) ∷ (tok Operator 213 214 (codes "(")) ∷ (tok Str 214 218 (codes "\"ab\"")) ∷ (tok Operator 218 219 (codes ")")) ∷ (tok Operator 219 220 (codes ")")) ∷ (tok Inserted 220 220 (codes ";")) ∷ (tok Operator 221 222 (codes "}")) ∷ (tok Inserted 222 222 (codes ";")) ∷ []); comments = ((note 14 29) ∷ []) })

tail_call_marks : marks_of tail_call.packages tail_call.texts [] ≡ tail_call.marks
unfolding passes keyword_spellings is_inline digits
tail_call_marks = refl

tail_call_spelled0 : read_at span_to read_front (lexemes tail_call_t0.tokens) ≡ Some (tail_call_f0, [])
unfolding reading
tail_call_spelled0 = refl

abbrev tail_call_start : Standing
tail_call_start = standing_as_read tail_call.packages tail_call.texts

abbrev tail_call_new : FileText
tail_call_new = (record { text = (codes "package main\n\n//go:fix inline\nfunc Split(s string) (string, string) {\n\tif len(s) > 1 {\n\t\treturn s[:1], s[1:]\n\t}\n\treturn s, \"\"\n}\n\nfunc Cut(t string) (string, string) {\n\t{\n\t\tif len(t) > 1 {\n\t\t\treturn t[:1], t[1:]\n\t\t}\n\t\treturn t, \"\"\n\t}\n}\n\nfunc main() {\n\tprintln(Cut(\"ab\"))\n}\n"); tokens = ((tok Keyword 0 7 (codes "package")) ∷ (tok Ident 8 12 (codes "main")) ∷ (tok Inserted 12 12 (codes ";")) ∷ (tok Keyword 30 34 (codes "func")) ∷ (tok Ident 35 40 (codes "Split")) ∷ (tok Operator 40 41 (codes "(")) ∷ (tok Ident 41 42 (codes "s")) ∷ (tok Ident 43 49 (codes "string")) ∷ (tok Operator 49 50 (codes ")")) ∷ (tok Operator 51 52 (codes "(")) ∷ (tok Ident 52 58 (codes "string")) ∷ (tok Operator 58 59 (codes ",")) ∷ (tok Ident 60 66 (codes "string")) ∷ (tok Operator 66 67 (codes ")")) ∷ (tok Operator 68 69 (codes "{")) ∷ (tok Keyword 71 73 (codes "if")) ∷ (tok Ident 74 77 (codes "len")) ∷ (tok Operator 77 78 (codes "(")) ∷ (tok Ident 78 79 (codes "s")) ∷ (tok Operator 79 80 (codes ")")) ∷ (tok Operator 81 82 (codes ">")) ∷ (tok Integer 83 84 (codes "1")) ∷ (tok Operator 85 86 (codes "{")) ∷ (tok Keyword 89 95 (codes "return")) ∷ (tok Ident 96 97 (codes "s")) ∷ (tok Operator 97 98 (codes "[")) ∷ (tok Operator 98 99 (codes ":")) ∷ (tok Integer 99 100 (codes "1")) ∷ (tok Operator 100 101 (codes "]")) ∷ (tok Operator 101 102 (codes ",")) ∷ (tok Ident 103 104 (codes "s")) ∷ (tok Operator 104 105 (codes "[")) ∷ (tok Integer 105 106 (codes "1")) ∷ (tok Operator 106 107 (codes ":")) ∷ (tok Operator 107 108 (codes "]")) ∷ (tok Inserted 108 108 (codes ";")) ∷ (tok Operator 110 111 (codes "}")) ∷ (tok Inserted 111 111 (codes ";")) ∷ (tok Keyword 113 119 (codes "return")) ∷ (tok Ident 120 121 (codes "s")) ∷ (tok Operator 121 122 (codes ",")) ∷ (tok Str 123 125 (codes "\"\"")) ∷ (tok Inserted 125 125 (codes ";")) ∷ (tok Operator 126 127 (codes "}")) ∷ (tok Inserted 127 127 (codes ";")) ∷ (tok Keyword 129 133 (codes "func")) ∷ (tok Ident 134 137 (codes "Cut")) ∷ (tok Operator 137 138 (codes "(")) ∷ (tok Ident 138 139 (codes "t")) ∷ (tok Ident 140 146 (codes "string")) ∷ (tok Operator 146 147 (codes ")")) ∷ (tok Operator 148 149 (codes "(")) ∷ (tok Ident 149 155 (codes "string")) ∷ (tok Operator 155 156 (codes ",")) ∷ (tok Ident 157 163 (codes "string")) ∷ (tok Operator 163 164 (codes ")")) ∷ (tok Operator 165 166 (codes "{")) ∷ (tok Operator 168 169 (codes "{")) ∷ (tok Keyword 172 174 (codes "if")) ∷ (tok Ident 175 178 (codes "len")) ∷ (tok Operator 178 179 (codes "(")) ∷ (tok Ident 179 180 (codes "t")) ∷ (tok Operator 180 181 (codes ")")) ∷ (tok Operator 182 183 (codes ">")) ∷ (tok Integer 184 185 (codes "1")) ∷ (tok Operator 186 187 (codes "{")) ∷ (tok Keyword 191 197 (codes "return")) ∷ (tok Ident 198 199 (codes "t")) ∷ (tok Operator 199 200 (codes "[")) ∷ (tok Operator 200 201 (codes ":")) ∷ (tok Integer 201 202 (codes "1")) ∷ (tok Operator 202 203 (codes "]")) ∷ (tok Operator 203 204 (codes ",")) ∷ (tok Ident 205 206 (codes "t")) ∷ (tok Operator 206 207 (codes "[")) ∷ (tok Integer 207 208 (codes "1")) ∷ (tok Operator 208 209 (codes ":")) ∷ (tok Operator 209 210 (codes "]")) ∷ (tok Inserted 210 210 (codes ";")) ∷ (tok Operator 213 214 (codes "}")) ∷ (tok Inserted 214 214 (codes ";")) ∷ (tok Keyword 217 223 (codes "return")) ∷ (tok Ident 224 225 (codes "t")) ∷ (tok Operator 225 226 (codes ",")) ∷ (tok Str 227 229 (codes "\"\"")) ∷ (tok Inserted 229 229 (codes ";")) ∷ (tok Operator 231 232 (codes "}")) ∷ (tok Inserted 232 232 (codes ";")) ∷ (tok Operator 233 234 (codes "}")) ∷ (tok Inserted 234 234 (codes ";")) ∷ (tok Keyword 236 240 (codes "func")) ∷ (tok Ident 241 245 (codes "main")) ∷ (tok Operator 245 246 (codes "(")) ∷ (tok Operator 246 247 (codes ")")) ∷ (tok Operator 248 249 (codes "{")) ∷ (tok Ident 251 258 (codes "println")) ∷ (tok Operator 258 259 (codes "(")) ∷ (tok Ident 259 262 (codes "Cut")) ∷ (tok Operator 262 263 (codes "(")) ∷ (tok Str 263 267 (codes "\"ab\"")) ∷ (tok Operator 267 268 (codes ")")) ∷ (tok Operator 268 269 (codes ")")) ∷ (tok Inserted 269 269 (codes ";")) ∷ (tok Operator 270 271 (codes "}")) ∷ (tok Inserted 271 271 (codes ";")) ∷ []); comments = ((note 14 29) ∷ []) })

abbrev tail_call_tree : File At
tail_call_tree = record { package_name = (nmf 8 12 8 12 (codes "main")); imports = []; decls = ((fn (from 30 127 30 127) None (nmf 35 40 35 40 (codes "Split")) (sig ((param (from 41 49 41 49) (Some (nmf 41 42 41 42 (codes "s"))) (named (from 43 49 43 49) None (nmf 43 49 43 49 (codes "string")))) ∷ []) ((param (from 52 58 52 58) None (named (from 52 58 52 58) None (nmf 52 58 52 58 (codes "string")))) ∷ (param (from 60 66 60 66) None (named (from 60 66 60 66) None (nmf 60 66 60 66 (codes "string")))) ∷ [])) (from 68 127 68 127) (stmt_and (if_ (from 71 111 71 111) (arm (from 71 111 71 111) no_stmt (binary (from 74 84 74 84) Gt (call (from 74 80 74 80) (ident (from 74 77 74 77) (codes "len")) (expr_and (ident (from 78 79 78 79) (codes "s")) no_exprs) Plain) (int_lit (from 83 84 83 84) (codes "1"))) (from 85 111 85 111) (stmt_and (return_ (from 89 108 89 108) (expr_and (slice (from 96 101 96 101) (ident (from 96 97 96 97) (codes "s")) no_expr (some_expr (int_lit (from 99 100 99 100) (codes "1")))) (expr_and (slice (from 103 108 103 108) (ident (from 103 104 103 104) (codes "s")) (some_expr (int_lit (from 105 106 105 106) (codes "1"))) no_expr) no_exprs))) no_stmts) no_arms) no_block) (stmt_and (return_ (from 113 125 113 125) (expr_and (ident (from 120 121 120 121) (codes "s")) (expr_and (str_lit (from 123 125 123 125) (codes "\"\"")) no_exprs))) no_stmts))) ∷ (fn (from 129 234 129 185) None (nmf 134 137 134 137 (codes "Cut")) (sig ((param (from 138 146 138 146) (Some (nmf 138 139 138 139 (codes "t"))) (named (from 140 146 140 146) None (nmf 140 146 140 146 (codes "string")))) ∷ []) ((param (from 149 155 149 155) None (named (from 149 155 149 155) None (nmf 149 155 149 155 (codes "string")))) ∷ (param (from 157 163 157 163) None (named (from 157 163 157 163) None (nmf 157 163 157 163 (codes "string")))) ∷ [])) (from 165 234 165 185) (stmt_and (inner (from 168 232 168 183) (stmt_and (if_ (from 172 214 175 183) (arm (from 172 214 175 183) no_stmt (binary (from 175 185 175 183) Gt (call (from 175 181 175 183) (ident (from 175 178 175 183) (codes "len")) (expr_and (ident (from 179 180 181 182) (codes "t")) no_exprs) Plain) (int_lit (from 184 185 175 183) (codes "1"))) (from 186 214 175 183) (stmt_and (return_ (from 191 210 175 183) (expr_and (slice (from 198 203 175 183) (ident (from 198 199 181 182) (codes "t")) no_expr (some_expr (int_lit (from 201 202 175 183) (codes "1")))) (expr_and (slice (from 205 210 175 183) (ident (from 205 206 181 182) (codes "t")) (some_expr (int_lit (from 207 208 175 183) (codes "1"))) no_expr) no_exprs))) no_stmts) no_arms) no_block) (stmt_and (return_ (from 217 229 175 183) (expr_and (ident (from 224 225 181 182) (codes "t")) (expr_and (str_lit (from 227 229 175 183) (codes "\"\"")) no_exprs))) no_stmts))) no_stmts)) ∷ (fn (from 236 271 187 222) None (nmf 241 245 192 196 (codes "main")) (sig [] []) (from 248 271 199 222) (stmt_and (eval (from 251 269 202 220) (call (from 251 269 202 220) (ident (from 251 258 202 209) (codes "println")) (expr_and (call (from 259 268 210 219) (ident (from 259 262 210 213) (codes "Cut")) (expr_and (str_lit (from 263 267 214 218) (codes "\"ab\"")) no_exprs) Plain) no_exprs) Plain)) no_stmts)) ∷ []) }

tail_call_steps : is_some (step_in tail_call.marks tail_call_start) ≡ true
unfolding passes keyword_spellings is_inline digits
tail_call_steps = refl

abbrev tail_call_next : TokensOf tail_call_new.text tail_call_new.tokens tail_call_new.comments → Next tail_call.marks tail_call_start (log_entry tail_call.marks tail_call_start (tail_call_steps) tail_call_t0 tail_call_new tail_call_tree) (stands_after tail_call.marks tail_call_start (tail_call_steps) tail_call_t0 tail_call_new tail_call_tree)
unfolding passes keyword_spellings is_inline digits reading tail_call_steps
tail_call_next h = next_by tail_call.marks tail_call_start (tail_call_steps) tail_call_t0 tail_call_new tail_call_tree refl refl h refl refl

-- the whole run, with the tokens of the texts
tail_call_inlined : (h0 : TokensOf tail_call_t0.text tail_call_t0.tokens tail_call_t0.comments) (h : TokensOf tail_call_new.text tail_call_new.tokens tail_call_new.comments) → IsInlining the_limits (folder small_module tail_call.texts) tail_call.packages tail_call.texts [] (((codes "main.go"), tail_call_new) ∷ []) (codes "main.go:12:9: inlined example.com/m.Split as tail\n")
unfolding passes keyword_spellings is_inline digits reading tail_call_steps tail_call_next
tail_call_inlined h0 h = inlining_by the_limits (folder small_module tail_call.texts) tail_call.packages tail_call.texts [] tail_call.marks (stands_after tail_call.marks tail_call_start (tail_call_steps) tail_call_t0 tail_call_new tail_call_tree) (log_entry tail_call.marks tail_call_start (tail_call_steps) tail_call_t0 tail_call_new tail_call_tree ∷ []) (codes "main.go:12:9: inlined example.com/m.Split as tail\n") tail_call_marks (module_by (codes "example.com/m") (module_text small_module) (record { path = codes "main.go"; text = tail_call_t0; tree = tail_call_f0; reads = record { scans = h0; spells = file_spelled tail_call_t0.tokens tail_call_f0 tail_call_spelled0 } } ∷ []) (folder small_module tail_call.texts) tail_call.packages tail_call.texts small_module_is refl refl refl refl refl refl refl refl refl) (goes_on tail_call_start (stands_after tail_call.marks tail_call_start (tail_call_steps) tail_call_t0 tail_call_new tail_call_tree) (stands_after tail_call.marks tail_call_start (tail_call_steps) tail_call_t0 tail_call_new tail_call_tree) (log_entry tail_call.marks tail_call_start (tail_call_steps) tail_call_t0 tail_call_new tail_call_tree) [] (tail_call_next h) (ends (stands_after tail_call.marks tail_call_start (tail_call_steps) tail_call_t0 tail_call_new tail_call_tree) refl)) (steps_on [] [] (log_entry tail_call.marks tail_call_start (tail_call_steps) tail_call_t0 tail_call_new tail_call_tree) tail_call_start (stands_after tail_call.marks tail_call_start (tail_call_steps) tail_call_t0 tail_call_new tail_call_tree) (stands_after tail_call.marks tail_call_start (tail_call_steps) tail_call_t0 tail_call_new tail_call_tree) (tail_call_next h) refl (begins (log_entry tail_call.marks tail_call_start (tail_call_steps) tail_call_t0 tail_call_new tail_call_tree ∷ []) (stands_after tail_call.marks tail_call_start (tail_call_steps) tail_call_t0 tail_call_new tail_call_tree))) (kept_by (log_entry tail_call.marks tail_call_start (tail_call_steps) tail_call_t0 tail_call_new tail_call_tree ∷ []) (codes "main.go") tail_call_t0.text tail_call_new.text [] [] refl refl run.none) refl

tail_call_t0_found : TokensOf tail_call_t0.text tail_call_t0.tokens tail_call_t0.comments
unfolding piece_of lexeme_of longest_from next_of tokens_from comments_from keyword_spellings is_letter is_digit general_category general_category_rows value_in lib.Utf8.encode
tail_call_t0_found = tokens_by tail_call_t0.text tail_call_t0.tokens tail_call_t0.comments refl refl refl

tail_call_new_found : TokensOf tail_call_new.text tail_call_new.tokens tail_call_new.comments
unfolding piece_of lexeme_of longest_from next_of tokens_from comments_from keyword_spellings is_letter is_digit general_category general_category_rows value_in lib.Utf8.encode
tail_call_new_found = tokens_by tail_call_new.text tail_call_new.tokens tail_call_new.comments refl refl refl

tail_call_run : IsInlining the_limits (folder small_module tail_call.texts) tail_call.packages tail_call.texts [] (((codes "main.go"), tail_call_new) ∷ []) (codes "main.go:12:9: inlined example.com/m.Split as tail\n")
tail_call_run = tail_call_inlined tail_call_t0_found tail_call_new_found

-- A composite literal in a header.
abbrev header_call_f0 : File Span
header_call_f0 = record { package_name = (nm 8 12 (codes "main")); imports = []; decls = ((types (at 14 36) false ((tspec (at 19 36) (nm 19 20 (codes "P")) false (struct_type (at 21 36) (field (at 29 34) (nm 29 30 (codes "n")) (named (at 31 34) None (nm 31 34 (codes "int"))) no_fields))) ∷ [])) ∷ (fn (at 54 95) None (nm 59 64 (codes "IsOne")) (sig ((param (at 65 68) (Some (nm 65 66 (codes "p"))) (named (at 67 68) None (nm 67 68 (codes "P")))) ∷ []) ((param (at 70 74) None (named (at 70 74) None (nm 70 74 (codes "bool")))) ∷ [])) (at 75 95) (stmt_and (return_ (at 77 93) (expr_and (binary (at 84 93) Eq (ident (at 84 85) (codes "p")) (composite (at 89 93) (named (at 89 90) None (nm 89 90 (codes "P"))) (elem (at 91 92) no_value (plain (int_lit (at 91 92) (codes "1"))) no_elems))) no_exprs)) no_stmts)) ∷ (fn (at 97 154) None (nm 102 106 (codes "main")) (sig [] []) (at 109 154) (stmt_and (define (at 112 121) ((nm 112 113 (codes "q")) ∷ []) (expr_and (composite (at 117 121) (named (at 117 118) None (nm 117 118 (codes "P"))) (elem (at 119 120) no_value (plain (int_lit (at 119 120) (codes "1"))) no_elems)) no_exprs)) (stmt_and (if_ (at 123 152) (arm (at 123 152) no_stmt (call (at 126 134) (ident (at 126 131) (codes "IsOne")) (expr_and (ident (at 132 133) (codes "q")) no_exprs) Plain) (at 135 152) (stmt_and (eval (at 139 149) (call (at 139 149) (ident (at 139 146) (codes "println")) (expr_and (int_lit (at 147 148) (codes "1")) no_exprs) Plain)) no_stmts) no_arms) no_block) no_stmts))) ∷ []) }

abbrev header_call : Module
header_call = record { packages = (pack (codes "example.com/m") (codes "main") (source (codes "main.go") header_call_f0 ∷ []) ∷ []); marks = (mark 0 0 1 0 ∷ []); texts = (((codes "main.go"), record { text = (codes "package main\n\ntype P struct{ n int }\n\n//go:fix inline\nfunc IsOne(p P) bool { return p == P{1} }\n\nfunc main() {\n\tq := P{1}\n\tif IsOne(q) {\n\t\tprintln(1)\n\t}\n}\n"); tokens = ((tok Keyword 0 7 (codes "package")) ∷ (tok Ident 8 12 (codes "main")) ∷ (tok Inserted 12 12 (codes ";")) ∷ (tok Keyword 14 18 (codes "type")) ∷ (tok Ident 19 20 (codes "P")) ∷ (tok Keyword 21 27 (codes "struct")) ∷ (tok Operator 27 28 (codes "{")) ∷ (tok Ident 29 30 (codes "n")) ∷ (tok Ident 31 34 (codes "int")) ∷ (tok Operator 35 36 (codes "}")) ∷ (tok Inserted 36 36 (codes ";")) ∷ (tok Keyword 54 58 (codes "func")) ∷ (tok Ident 59 64 (codes "IsOne")) ∷ (tok Operator 64 65 (codes "(")) ∷ (tok Ident 65 66 (codes "p")) ∷ (tok Ident 67 68 (codes "P")) ∷ (tok Operator 68 69 (codes ")")) ∷ (tok Ident 70 74 (codes "bool")) ∷ (tok Operator 75 76 (codes "{")) ∷ (tok Keyword 77 83 (codes "return")) ∷ (tok Ident 84 85 (codes "p")) ∷ (tok Operator 86 88 (codes "==")) ∷ (tok Ident 89 90 (codes "P")) ∷ (tok Operator 90 91 (codes "{")) ∷ (tok Integer 91 92 (codes "1")) ∷ (tok Operator 92 93 (codes "}")) ∷ (tok Operator 94 95 (codes "}")) ∷ (tok Inserted 95 95 (codes ";")) ∷ (tok Keyword 97 101 (codes "func")) ∷ (tok Ident 102 106 (codes "main")) ∷ (tok Operator 106 107 (codes "(")) ∷ (tok Operator 107 108 (codes ")")) ∷ (tok Operator 109 110 (codes "{")) ∷ (tok Ident 112 113 (codes "q")) ∷ (tok Operator 114 116 (codes ":=")) ∷ (tok Ident 117 118 (codes "P")) ∷ (tok Operator 118 119 (codes "{")) ∷ (tok Integer 119 120 (codes "1")) ∷ (tok Operator 120 121 (codes "}")) ∷ (tok Inserted 121 121 (codes ";")) ∷ (tok Keyword 123 125 (codes "if")) ∷ (tok Ident 126 131 (codes "IsOne")) ∷ (tok Operator 131 132 (codes "(")) ∷ (tok Ident 132 133 (codes "q")) ∷ (tok Operator 133 134 (codes ")")) ∷ (tok Operator 135 136 (codes "{")) ∷ (tok Ident 139 146 (codes "println")) ∷ (tok Operator 146 147 (codes "(")) ∷ (tok Integer 147 148 (codes "1")) ∷ (tok Operator 148 149 (codes ")")) ∷ (tok Inserted 149 149 (codes ";")) ∷ (tok Operator 151 152 (codes "}")) ∷ (tok Inserted 152 152 (codes ";")) ∷ (tok Operator 153 154 (codes "}")) ∷ (tok Inserted 154 154 (codes ";")) ∷ []); comments = ((note 38 53) ∷ []) }) ∷ []) }

abbrev header_call_t0 : FileText
header_call_t0 = (record { text = (codes "package main\n\ntype P struct{ n int }\n\n//go:fix inline\nfunc IsOne(p P) bool { return p == P{1} }\n\nfunc main() {\n\tq := P{1}\n\tif IsOne(q) {\n\t\tprintln(1)\n\t}\n}\n"); tokens = ((tok Keyword 0 7 (codes "package")) ∷ (tok Ident 8 12 (codes "main")) ∷ (tok Inserted 12 12 (codes ";")) ∷ (tok Keyword 14 18 (codes "type")) ∷ (tok Ident 19 20 (codes "P")) ∷ (tok Keyword 21 27 (codes "struct")) ∷ (tok Operator 27 28 (codes "{")) ∷ (tok Ident 29 30 (codes "n")) ∷ (tok Ident 31 34 (codes "int")) ∷ (tok Operator 35 36 (codes "}")) ∷ (tok Inserted 36 36 (codes ";")) ∷ (tok Keyword 54 58 (codes "func")) ∷ (tok Ident 59 64 (codes "IsOne")) ∷ (tok Operator 64 65 (codes "(")) ∷ (tok Ident 65 66 (codes "p")) ∷ (tok Ident 67 68 (codes "P")) ∷ (tok Operator 68 69 (codes ")")) ∷ (tok Ident 70 74 (codes "bool")) ∷ (tok Operator 75 76 (codes "{")) ∷ (tok Keyword 77 83 (codes "return")) ∷ (tok Ident 84 85 (codes "p")) ∷ (tok Operator 86 88 (codes "==")) ∷ (tok Ident 89 90 (codes "P")) ∷ (tok Operator 90 91 (codes "{")) ∷ (tok Integer 91 92 (codes "1")) ∷ (tok Operator 92 93 (codes "}")) ∷ (tok Operator 94 95 (codes "}")) ∷ (tok Inserted 95 95 (codes ";")) ∷ (tok Keyword 97 101 (codes "func")) ∷ (tok Ident 102 106 (codes "main")) ∷ (tok Operator 106 107 (codes "(")) ∷ (tok Operator 107 108 (codes ")")) ∷ (tok Operator 109 110 (codes "{")) ∷ (tok Ident 112 113 (codes "q")) ∷ (tok Operator 114 116 (codes ":=")) ∷ (tok Ident 117 118 (codes "P")) ∷ (tok Operator 118 119 (codes "{")) ∷ (tok Integer 119 120 (codes "1")) ∷ (tok Operator 120 121 (codes "}")) ∷ (tok Inserted 121 121 (codes ";")) ∷ (tok Keyword 123 125 (codes "if")) ∷ (tok Ident 126 131 (codes "IsOne")) ∷ (tok Operator 131 132 (codes "(")) ∷ (tok Ident 132 133 (codes "q")) ∷ (tok Operator 133 134 (codes ")")) ∷ (tok Operator 135 136 (codes "{")) ∷ (tok Ident 139 146 (codes "println")) ∷ (tok Operator 146 147 (codes "(")) ∷ (tok Integer 147 148 (codes "1")) ∷ (tok Operator 148 149 (codes ")")) ∷ (tok Inserted 149 149 (codes ";")) ∷ (tok Operator 151 152 (codes "}")) ∷ (tok Inserted 152 152 (codes ";")) ∷ (tok Operator 153 154 (codes "}")) ∷ (tok Inserted 154 154 (codes ";")) ∷ []); comments = ((note 38 53) ∷ []) })

header_call_marks : marks_of header_call.packages header_call.texts [] ≡ header_call.marks
unfolding passes keyword_spellings is_inline digits
header_call_marks = refl

header_call_spelled0 : read_at span_to read_front (lexemes header_call_t0.tokens) ≡ Some (header_call_f0, [])
unfolding reading
header_call_spelled0 = refl

abbrev header_call_start : Standing
header_call_start = standing_as_read header_call.packages header_call.texts

abbrev header_call_new : FileText
header_call_new = (record { text = (codes "package main\n\ntype P struct{ n int }\n\n//go:fix inline\nfunc IsOne(p P) bool { return p == P{1} }\n\nfunc main() {\n\tq := P{1}\n\tif q == (P{1}) {\n\t\tprintln(1)\n\t}\n}\n"); tokens = ((tok Keyword 0 7 (codes "package")) ∷ (tok Ident 8 12 (codes "main")) ∷ (tok Inserted 12 12 (codes ";")) ∷ (tok Keyword 14 18 (codes "type")) ∷ (tok Ident 19 20 (codes "P")) ∷ (tok Keyword 21 27 (codes "struct")) ∷ (tok Operator 27 28 (codes "{")) ∷ (tok Ident 29 30 (codes "n")) ∷ (tok Ident 31 34 (codes "int")) ∷ (tok Operator 35 36 (codes "}")) ∷ (tok Inserted 36 36 (codes ";")) ∷ (tok Keyword 54 58 (codes "func")) ∷ (tok Ident 59 64 (codes "IsOne")) ∷ (tok Operator 64 65 (codes "(")) ∷ (tok Ident 65 66 (codes "p")) ∷ (tok Ident 67 68 (codes "P")) ∷ (tok Operator 68 69 (codes ")")) ∷ (tok Ident 70 74 (codes "bool")) ∷ (tok Operator 75 76 (codes "{")) ∷ (tok Keyword 77 83 (codes "return")) ∷ (tok Ident 84 85 (codes "p")) ∷ (tok Operator 86 88 (codes "==")) ∷ (tok Ident 89 90 (codes "P")) ∷ (tok Operator 90 91 (codes "{")) ∷ (tok Integer 91 92 (codes "1")) ∷ (tok Operator 92 93 (codes "}")) ∷ (tok Operator 94 95 (codes "}")) ∷ (tok Inserted 95 95 (codes ";")) ∷ (tok Keyword 97 101 (codes "func")) ∷ (tok Ident 102 106 (codes "main")) ∷ (tok Operator 106 107 (codes "(")) ∷ (tok Operator 107 108 (codes ")")) ∷ (tok Operator 109 110 (codes "{")) ∷ (tok Ident 112 113 (codes "q")) ∷ (tok Operator 114 116 (codes ":=")) ∷ (tok Ident 117 118 (codes "P")) ∷ (tok Operator 118 119 (codes "{")) ∷ (tok Integer 119 120 (codes "1")) ∷ (tok Operator 120 121 (codes "}")) ∷ (tok Inserted 121 121 (codes ";")) ∷ (tok Keyword 123 125 (codes "if")) ∷ (tok Ident 126 127 (codes "q")) ∷ (tok Operator 128 130 (codes "==")) ∷ (tok Operator 131 132 (codes "(")) ∷ (tok Ident 132 133 (codes "P")) ∷ (tok Operator 133 134 (codes "{")) ∷ (tok Integer 134 135 (codes "1")) ∷ (tok Operator 135 136 (codes "}")) ∷ (tok Operator 136 137 (codes ")")) ∷ (tok Operator 138 139 (codes "{")) ∷ (tok Ident 142 149 (codes "println")) ∷ (tok Operator 149 150 (codes "(")) ∷ (tok Integer 150 151 (codes "1")) ∷ (tok Operator 151 152 (codes ")")) ∷ (tok Inserted 152 152 (codes ";")) ∷ (tok Operator 154 155 (codes "}")) ∷ (tok Inserted 155 155 (codes ";")) ∷ (tok Operator 156 157 (codes "}")) ∷ (tok Inserted 157 157 (codes ";")) ∷ []); comments = ((note 38 53) ∷ []) })

abbrev header_call_tree : File At
header_call_tree = record { package_name = (nmf 8 12 8 12 (codes "main")); imports = []; decls = ((types (from 14 36 14 36) false ((tspec (from 19 36 19 36) (nmf 19 20 19 20 (codes "P")) false (struct_type (from 21 36 21 36) (field (from 29 34 29 34) (nmf 29 30 29 30 (codes "n")) (named (from 31 34 31 34) None (nmf 31 34 31 34 (codes "int"))) no_fields))) ∷ [])) ∷ (fn (from 54 95 54 95) None (nmf 59 64 59 64 (codes "IsOne")) (sig ((param (from 65 68 65 68) (Some (nmf 65 66 65 66 (codes "p"))) (named (from 67 68 67 68) None (nmf 67 68 67 68 (codes "P")))) ∷ []) ((param (from 70 74 70 74) None (named (from 70 74 70 74) None (nmf 70 74 70 74 (codes "bool")))) ∷ [])) (from 75 95 75 95) (stmt_and (return_ (from 77 93 77 93) (expr_and (binary (from 84 93 84 93) Eq (ident (from 84 85 84 85) (codes "p")) (composite (from 89 93 89 93) (named (from 89 90 89 90) None (nmf 89 90 89 90 (codes "P"))) (elem (from 91 92 91 92) no_value (plain (int_lit (from 91 92 91 92) (codes "1"))) no_elems))) no_exprs)) no_stmts)) ∷ (fn (from 97 157 97 154) None (nmf 102 106 102 106 (codes "main")) (sig [] []) (from 109 157 109 154) (stmt_and (define (from 112 121 112 121) ((nmf 112 113 112 113 (codes "q")) ∷ []) (expr_and (composite (from 117 121 117 121) (named (from 117 118 117 118) None (nmf 117 118 117 118 (codes "P"))) (elem (from 119 120 119 120) no_value (plain (int_lit (from 119 120 119 120) (codes "1"))) no_elems)) no_exprs)) (stmt_and (if_ (from 123 155 123 152) (arm (from 123 155 123 152) no_stmt (binary (from 126 137 126 134) Eq (ident (from 126 127 132 133) (codes "q")) (composite (from 132 136 126 134) (named (from 132 133 126 134) None (nmf 132 133 126 134 (codes "P"))) (elem (from 134 135 126 134) no_value (plain (int_lit (from 134 135 126 134) (codes "1"))) no_elems))) (from 138 155 135 152) (stmt_and (eval (from 142 152 139 149) (call (from 142 152 139 149) (ident (from 142 149 139 146) (codes "println")) (expr_and (int_lit (from 150 151 147 148) (codes "1")) no_exprs) Plain)) no_stmts) no_arms) no_block) no_stmts))) ∷ []) }

header_call_steps : is_some (step_in header_call.marks header_call_start) ≡ true
unfolding passes keyword_spellings is_inline digits
header_call_steps = refl

abbrev header_call_next : TokensOf header_call_new.text header_call_new.tokens header_call_new.comments → Next header_call.marks header_call_start (log_entry header_call.marks header_call_start (header_call_steps) header_call_t0 header_call_new header_call_tree) (stands_after header_call.marks header_call_start (header_call_steps) header_call_t0 header_call_new header_call_tree)
unfolding passes keyword_spellings is_inline digits reading header_call_steps
header_call_next h = next_by header_call.marks header_call_start (header_call_steps) header_call_t0 header_call_new header_call_tree refl refl h refl refl

-- the whole run, with the tokens of the texts
header_call_inlined : (h0 : TokensOf header_call_t0.text header_call_t0.tokens header_call_t0.comments) (h : TokensOf header_call_new.text header_call_new.tokens header_call_new.comments) → IsInlining the_limits (folder small_module header_call.texts) header_call.packages header_call.texts [] (((codes "main.go"), header_call_new) ∷ []) (codes "main.go:10:5: inlined example.com/m.IsOne as expr\n")
unfolding passes keyword_spellings is_inline digits reading header_call_steps header_call_next
header_call_inlined h0 h = inlining_by the_limits (folder small_module header_call.texts) header_call.packages header_call.texts [] header_call.marks (stands_after header_call.marks header_call_start (header_call_steps) header_call_t0 header_call_new header_call_tree) (log_entry header_call.marks header_call_start (header_call_steps) header_call_t0 header_call_new header_call_tree ∷ []) (codes "main.go:10:5: inlined example.com/m.IsOne as expr\n") header_call_marks (module_by (codes "example.com/m") (module_text small_module) (record { path = codes "main.go"; text = header_call_t0; tree = header_call_f0; reads = record { scans = h0; spells = file_spelled header_call_t0.tokens header_call_f0 header_call_spelled0 } } ∷ []) (folder small_module header_call.texts) header_call.packages header_call.texts small_module_is refl refl refl refl refl refl refl refl refl) (goes_on header_call_start (stands_after header_call.marks header_call_start (header_call_steps) header_call_t0 header_call_new header_call_tree) (stands_after header_call.marks header_call_start (header_call_steps) header_call_t0 header_call_new header_call_tree) (log_entry header_call.marks header_call_start (header_call_steps) header_call_t0 header_call_new header_call_tree) [] (header_call_next h) (ends (stands_after header_call.marks header_call_start (header_call_steps) header_call_t0 header_call_new header_call_tree) refl)) (steps_on [] [] (log_entry header_call.marks header_call_start (header_call_steps) header_call_t0 header_call_new header_call_tree) header_call_start (stands_after header_call.marks header_call_start (header_call_steps) header_call_t0 header_call_new header_call_tree) (stands_after header_call.marks header_call_start (header_call_steps) header_call_t0 header_call_new header_call_tree) (header_call_next h) refl (begins (log_entry header_call.marks header_call_start (header_call_steps) header_call_t0 header_call_new header_call_tree ∷ []) (stands_after header_call.marks header_call_start (header_call_steps) header_call_t0 header_call_new header_call_tree))) (kept_by (log_entry header_call.marks header_call_start (header_call_steps) header_call_t0 header_call_new header_call_tree ∷ []) (codes "main.go") header_call_t0.text header_call_new.text [] [] refl refl run.none) refl

header_call_t0_found : TokensOf header_call_t0.text header_call_t0.tokens header_call_t0.comments
unfolding piece_of lexeme_of longest_from next_of tokens_from comments_from keyword_spellings is_letter is_digit general_category general_category_rows value_in lib.Utf8.encode
header_call_t0_found = tokens_by header_call_t0.text header_call_t0.tokens header_call_t0.comments refl refl refl

header_call_new_found : TokensOf header_call_new.text header_call_new.tokens header_call_new.comments
unfolding piece_of lexeme_of longest_from next_of tokens_from comments_from keyword_spellings is_letter is_digit general_category general_category_rows value_in lib.Utf8.encode
header_call_new_found = tokens_by header_call_new.text header_call_new.tokens header_call_new.comments refl refl refl

header_call_run : IsInlining the_limits (folder small_module header_call.texts) header_call.packages header_call.texts [] (((codes "main.go"), header_call_new) ∷ []) (codes "main.go:10:5: inlined example.com/m.IsOne as expr\n")
header_call_run = header_call_inlined header_call_t0_found header_call_new_found

-- Both are bound at once.
abbrev pair_block_f0 : File Span
pair_block_f0 = record { package_name = (nm 8 12 (codes "main")); imports = []; decls = ((fn (at 30 70) None (nm 35 39 (codes "Pair")) (sig ((param (at 40 48) (Some (nm 40 41 (codes "a"))) (named (at 45 48) None (nm 45 48 (codes "int")))) ∷ (param (at 43 48) (Some (nm 43 44 (codes "b"))) (named (at 45 48) None (nm 45 48 (codes "int")))) ∷ []) []) (at 50 70) (stmt_and (eval (at 52 68) (call (at 52 68) (ident (at 52 59) (codes "println")) (expr_and (ident (at 60 61) (codes "a")) (expr_and (ident (at 63 64) (codes "a")) (expr_and (ident (at 66 67) (codes "b")) no_exprs))) Plain)) no_stmts)) ∷ (fn (at 72 114) None (nm 77 81 (codes "next")) (sig [] ((param (at 84 87) None (named (at 84 87) None (nm 84 87 (codes "int")))) ∷ [])) (at 88 114) (stmt_and (eval (at 90 102) (call (at 90 102) (ident (at 90 97) (codes "println")) (expr_and (str_lit (at 98 101) (codes "\"n\"")) no_exprs) Plain)) (stmt_and (return_ (at 104 112) (expr_and (int_lit (at 111 112) (codes "1")) no_exprs)) no_stmts))) ∷ (fn (at 116 155) None (nm 121 122 (codes "g")) (sig [] ((param (at 125 128) None (named (at 125 128) None (nm 125 128 (codes "int")))) ∷ [])) (at 129 155) (stmt_and (eval (at 131 143) (call (at 131 143) (ident (at 131 138) (codes "println")) (expr_and (str_lit (at 139 142) (codes "\"g\"")) no_exprs) Plain)) (stmt_and (return_ (at 145 153) (expr_and (int_lit (at 152 153) (codes "1")) no_exprs)) no_stmts))) ∷ (fn (at 157 196) None (nm 162 163 (codes "h")) (sig [] ((param (at 166 169) None (named (at 166 169) None (nm 166 169 (codes "int")))) ∷ [])) (at 170 196) (stmt_and (eval (at 172 184) (call (at 172 184) (ident (at 172 179) (codes "println")) (expr_and (str_lit (at 180 183) (codes "\"h\"")) no_exprs) Plain)) (stmt_and (return_ (at 186 194) (expr_and (int_lit (at 193 194) (codes "1")) no_exprs)) no_stmts))) ∷ (fn (at 198 238) None (nm 203 207 (codes "main")) (sig [] []) (at 210 238) (stmt_and (define (at 213 219) ((nm 213 214 (codes "a")) ∷ []) (expr_and (int_lit (at 218 219) (codes "5")) no_exprs)) (stmt_and (eval (at 221 236) (call (at 221 236) (ident (at 221 225) (codes "Pair")) (expr_and (call (at 226 232) (ident (at 226 230) (codes "next")) no_exprs Plain) (expr_and (ident (at 234 235) (codes "a")) no_exprs)) Plain)) no_stmts))) ∷ []) }

abbrev pair_block : Module
pair_block = record { packages = (pack (codes "example.com/m") (codes "main") (source (codes "main.go") pair_block_f0 ∷ []) ∷ []); marks = (mark 0 0 0 0 ∷ []); texts = (((codes "main.go"), record { text = (codes "package main\n\n//go:fix inline\nfunc Pair(a, b int) { println(a, a, b) }\n\nfunc next() int { println(\"n\"); return 1 }\n\nfunc g() int { println(\"g\"); return 1 }\n\nfunc h() int { println(\"h\"); return 1 }\n\nfunc main() {\n\ta := 5\n\tPair(next(), a)\n}\n"); tokens = ((tok Keyword 0 7 (codes "package")) ∷ (tok Ident 8 12 (codes "main")) ∷ (tok Inserted 12 12 (codes ";")) ∷ (tok Keyword 30 34 (codes "func")) ∷ (tok Ident 35 39 (codes "Pair")) ∷ (tok Operator 39 40 (codes "(")) ∷ (tok Ident 40 41 (codes "a")) ∷ (tok Operator 41 42 (codes ",")) ∷ (tok Ident 43 44 (codes "b")) ∷ (tok Ident 45 48 (codes "int")) ∷ (tok Operator 48 49 (codes ")")) ∷ (tok Operator 50 51 (codes "{")) ∷ (tok Ident 52 59 (codes "println")) ∷ (tok Operator 59 60 (codes "(")) ∷ (tok Ident 60 61 (codes "a")) ∷ (tok Operator 61 62 (codes ",")) ∷ (tok Ident 63 64 (codes "a")) ∷ (tok Operator 64 65 (codes ",")) ∷ (tok Ident 66 67 (codes "b")) ∷ (tok Operator 67 68 (codes ")")) ∷ (tok Operator 69 70 (codes "}")) ∷ (tok Inserted 70 70 (codes ";")) ∷ (tok Keyword 72 76 (codes "func")) ∷ (tok Ident 77 81 (codes "next")) ∷ (tok Operator 81 82 (codes "(")) ∷ (tok Operator 82 83 (codes ")")) ∷ (tok Ident 84 87 (codes "int")) ∷ (tok Operator 88 89 (codes "{")) ∷ (tok Ident 90 97 (codes "println")) ∷ (tok Operator 97 98 (codes "(")) ∷ (tok Str 98 101 (codes "\"n\"")) ∷ (tok Operator 101 102 (codes ")")) ∷ (tok Operator 102 103 (codes ";")) ∷ (tok Keyword 104 110 (codes "return")) ∷ (tok Integer 111 112 (codes "1")) ∷ (tok Operator 113 114 (codes "}")) ∷ (tok Inserted 114 114 (codes ";")) ∷ (tok Keyword 116 120 (codes "func")) ∷ (tok Ident 121 122 (codes "g")) ∷ (tok Operator 122 123 (codes "(")) ∷ (tok Operator 123 124 (codes ")")) ∷ (tok Ident 125 128 (codes "int")) ∷ (tok Operator 129 130 (codes "{")) ∷ (tok Ident 131 138 (codes "println")) ∷ (tok Operator 138 139 (codes "(")) ∷ (tok Str 139 142 (codes "\"g\"")) ∷ (tok Operator 142 143 (codes ")")) ∷ (tok Operator 143 144 (codes ";")) ∷ (tok Keyword 145 151 (codes "return")) ∷ (tok Integer 152 153 (codes "1")) ∷ (tok Operator 154 155 (codes "}")) ∷ (tok Inserted 155 155 (codes ";")) ∷ (tok Keyword 157 161 (codes "func")) ∷ (tok Ident 162 163 (codes "h")) ∷ (tok Operator 163 164 (codes "(")) ∷ (tok Operator 164 165 (codes ")")) ∷ (tok Ident 166 169 (codes "int")) ∷ (tok Operator 170 171 (codes "{")) ∷ (tok Ident 172 179 (codes "println")) ∷ (tok Operator 179 180 (codes "(")) ∷ (tok Str 180 183 (codes "\"h\"")) ∷ (tok Operator 183 184 (codes ")")) ∷ (tok Operator 184 185 (codes ";")) ∷ (tok Keyword 186 192 (codes "return")) ∷ (tok Integer 193 194 (codes "1")) ∷ (tok Operator 195 196 (codes "}")) ∷ (tok Inserted 196 196 (codes ";")) ∷ (tok Keyword 198 202 (codes "func")) ∷ (tok Ident 203 207 (codes "main")) ∷ (tok Operator 207 208 (codes "(")) ∷ (tok Operator 208 209 (codes ")")) ∷ (tok Operator 210 211 (codes "{")) ∷ (tok Ident 213 214 (codes "a")) ∷ (tok Operator 215 217 (codes ":=")) ∷ (tok Integer 218 219 (codes "5")) ∷ (tok Inserted 219 219 (codes ";")) ∷ (tok Ident 221 225 (codes "Pair")) ∷ (tok Operator 225 226 (codes "(")) ∷ (tok Ident 226 230 (codes "next")) ∷ (tok Operator 230 231 (codes "(")) ∷ (tok Operator 231 232 (codes ")")) ∷ (tok Operator 232 233 (codes ",")) ∷ (tok Ident 234 235 (codes "a")) ∷ (tok Operator 235 236 (codes ")")) ∷ (tok Inserted 236 236 (codes ";")) ∷ (tok Operator 237 238 (codes "}")) ∷ (tok Inserted 238 238 (codes ";")) ∷ []); comments = ((note 14 29) ∷ []) }) ∷ []) }

abbrev pair_block_t0 : FileText
pair_block_t0 = (record { text = (codes "package main\n\n//go:fix inline\nfunc Pair(a, b int) { println(a, a, b) }\n\nfunc next() int { println(\"n\"); return 1 }\n\nfunc g() int { println(\"g\"); return 1 }\n\nfunc h() int { println(\"h\"); return 1 }\n\nfunc main() {\n\ta := 5\n\tPair(next(), a)\n}\n"); tokens = ((tok Keyword 0 7 (codes "package")) ∷ (tok Ident 8 12 (codes "main")) ∷ (tok Inserted 12 12 (codes ";")) ∷ (tok Keyword 30 34 (codes "func")) ∷ (tok Ident 35 39 (codes "Pair")) ∷ (tok Operator 39 40 (codes "(")) ∷ (tok Ident 40 41 (codes "a")) ∷ (tok Operator 41 42 (codes ",")) ∷ (tok Ident 43 44 (codes "b")) ∷ (tok Ident 45 48 (codes "int")) ∷ (tok Operator 48 49 (codes ")")) ∷ (tok Operator 50 51 (codes "{")) ∷ (tok Ident 52 59 (codes "println")) ∷ (tok Operator 59 60 (codes "(")) ∷ (tok Ident 60 61 (codes "a")) ∷ (tok Operator 61 62 (codes ",")) ∷ (tok Ident 63 64 (codes "a")) ∷ (tok Operator 64 65 (codes ",")) ∷ (tok Ident 66 67 (codes "b")) ∷ (tok Operator 67 68 (codes ")")) ∷ (tok Operator 69 70 (codes "}")) ∷ (tok Inserted 70 70 (codes ";")) ∷ (tok Keyword 72 76 (codes "func")) ∷ (tok Ident 77 81 (codes "next")) ∷ (tok Operator 81 82 (codes "(")) ∷ (tok Operator 82 83 (codes ")")) ∷ (tok Ident 84 87 (codes "int")) ∷ (tok Operator 88 89 (codes "{")) ∷ (tok Ident 90 97 (codes "println")) ∷ (tok Operator 97 98 (codes "(")) ∷ (tok Str 98 101 (codes "\"n\"")) ∷ (tok Operator 101 102 (codes ")")) ∷ (tok Operator 102 103 (codes ";")) ∷ (tok Keyword 104 110 (codes "return")) ∷ (tok Integer 111 112 (codes "1")) ∷ (tok Operator 113 114 (codes "}")) ∷ (tok Inserted 114 114 (codes ";")) ∷ (tok Keyword 116 120 (codes "func")) ∷ (tok Ident 121 122 (codes "g")) ∷ (tok Operator 122 123 (codes "(")) ∷ (tok Operator 123 124 (codes ")")) ∷ (tok Ident 125 128 (codes "int")) ∷ (tok Operator 129 130 (codes "{")) ∷ (tok Ident 131 138 (codes "println")) ∷ (tok Operator 138 139 (codes "(")) ∷ (tok Str 139 142 (codes "\"g\"")) ∷ (tok Operator 142 143 (codes ")")) ∷ (tok Operator 143 144 (codes ";")) ∷ (tok Keyword 145 151 (codes "return")) ∷ (tok Integer 152 153 (codes "1")) ∷ (tok Operator 154 155 (codes "}")) ∷ (tok Inserted 155 155 (codes ";")) ∷ (tok Keyword 157 161 (codes "func")) ∷ (tok Ident 162 163 (codes "h")) ∷ (tok Operator 163 164 (codes "(")) ∷ (tok Operator 164 165 (codes ")")) ∷ (tok Ident 166 169 (codes "int")) ∷ (tok Operator 170 171 (codes "{")) ∷ (tok Ident 172 179 (codes "println")) ∷ (tok Operator 179 180 (codes "(")) ∷ (tok Str 180 183 (codes "\"h\"")) ∷ (tok Operator 183 184 (codes ")")) ∷ (tok Operator 184 185 (codes ";")) ∷ (tok Keyword 186 192 (codes "return")) ∷ (tok Integer 193 194 (codes "1")) ∷ (tok Operator 195 196 (codes "}")) ∷ (tok Inserted 196 196 (codes ";")) ∷ (tok Keyword 198 202 (codes "func")) ∷ (tok Ident 203 207 (codes "main")) ∷ (tok Operator 207 208 (codes "(")) ∷ (tok Operator 208 209 (codes ")")) ∷ (tok Operator 210 211 (codes "{")) ∷ (tok Ident 213 214 (codes "a")) ∷ (tok Operator 215 217 (codes ":=")) ∷ (tok Integer 218 219 (codes "5")) ∷ (tok Inserted 219 219 (codes ";")) ∷ (tok Ident 221 225 (codes "Pair")) ∷ (tok Operator 225 226 (codes "(")) ∷ (tok Ident 226 230 (codes "next")) ∷ (tok Operator 230 231 (codes "(")) ∷ (tok Operator 231 232 (codes ")")) ∷ (tok Operator 232 233 (codes ",")) ∷ (tok Ident 234 235 (codes "a")) ∷ (tok Operator 235 236 (codes ")")) ∷ (tok Inserted 236 236 (codes ";")) ∷ (tok Operator 237 238 (codes "}")) ∷ (tok Inserted 238 238 (codes ";")) ∷ []); comments = ((note 14 29) ∷ []) })

pair_block_marks : marks_of pair_block.packages pair_block.texts [] ≡ pair_block.marks
unfolding passes keyword_spellings is_inline digits
pair_block_marks = refl

pair_block_spelled0 : read_at span_to read_front (lexemes pair_block_t0.tokens) ≡ Some (pair_block_f0, [])
unfolding reading
pair_block_spelled0 = refl

abbrev pair_block_start : Standing
pair_block_start = standing_as_read pair_block.packages pair_block.texts

abbrev pair_block_new : FileText
pair_block_new = (record { text = (codes "package main\n\n//go:fix inline\nfunc Pair(a, b int) { println(a, a, b) }\n\nfunc next() int { println(\"n\"); return 1 }\n\nfunc g() int { println(\"g\"); return 1 }\n\nfunc h() int { println(\"h\"); return 1 }\n\nfunc main() {\n\ta := 5\n\t{\n\t\ta, b := next(), a\n\t\tprintln(a, a, b)\n\t}\n}\n"); tokens = ((tok Keyword 0 7 (codes "package")) ∷ (tok Ident 8 12 (codes "main")) ∷ (tok Inserted 12 12 (codes ";")) ∷ (tok Keyword 30 34 (codes "func")) ∷ (tok Ident 35 39 (codes "Pair")) ∷ (tok Operator 39 40 (codes "(")) ∷ (tok Ident 40 41 (codes "a")) ∷ (tok Operator 41 42 (codes ",")) ∷ (tok Ident 43 44 (codes "b")) ∷ (tok Ident 45 48 (codes "int")) ∷ (tok Operator 48 49 (codes ")")) ∷ (tok Operator 50 51 (codes "{")) ∷ (tok Ident 52 59 (codes "println")) ∷ (tok Operator 59 60 (codes "(")) ∷ (tok Ident 60 61 (codes "a")) ∷ (tok Operator 61 62 (codes ",")) ∷ (tok Ident 63 64 (codes "a")) ∷ (tok Operator 64 65 (codes ",")) ∷ (tok Ident 66 67 (codes "b")) ∷ (tok Operator 67 68 (codes ")")) ∷ (tok Operator 69 70 (codes "}")) ∷ (tok Inserted 70 70 (codes ";")) ∷ (tok Keyword 72 76 (codes "func")) ∷ (tok Ident 77 81 (codes "next")) ∷ (tok Operator 81 82 (codes "(")) ∷ (tok Operator 82 83 (codes ")")) ∷ (tok Ident 84 87 (codes "int")) ∷ (tok Operator 88 89 (codes "{")) ∷ (tok Ident 90 97 (codes "println")) ∷ (tok Operator 97 98 (codes "(")) ∷ (tok Str 98 101 (codes "\"n\"")) ∷ (tok Operator 101 102 (codes ")")) ∷ (tok Operator 102 103 (codes ";")) ∷ (tok Keyword 104 110 (codes "return")) ∷ (tok Integer 111 112 (codes "1")) ∷ (tok Operator 113 114 (codes "}")) ∷ (tok Inserted 114 114 (codes ";")) ∷ (tok Keyword 116 120 (codes "func")) ∷ (tok Ident 121 122 (codes "g")) ∷ (tok Operator 122 123 (codes "(")) ∷ (tok Operator 123 124 (codes ")")) ∷ (tok Ident 125 128 (codes "int")) ∷ (tok Operator 129 130 (codes "{")) ∷ (tok Ident 131 138 (codes "println")) ∷ (tok Operator 138 139 (codes "(")) ∷ (tok Str 139 142 (codes "\"g\"")) ∷ (tok Operator 142 143 (codes ")")) ∷ (tok Operator 143 144 (codes ";")) ∷ (tok Keyword 145 151 (codes "return")) ∷ (tok Integer 152 153 (codes "1")) ∷ (tok Operator 154 155 (codes "}")) ∷ (tok Inserted 155 155 (codes ";")) ∷ (tok Keyword 157 161 (codes "func")) ∷ (tok Ident 162 163 (codes "h")) ∷ (tok Operator 163 164 (codes "(")) ∷ (tok Operator 164 165 (codes ")")) ∷ (tok Ident 166 169 (codes "int")) ∷ (tok Operator 170 171 (codes "{")) ∷ (tok Ident 172 179 (codes "println")) ∷ (tok Operator 179 180 (codes "(")) ∷ (tok Str 180 183 (codes "\"h\"")) ∷ (tok Operator 183 184 (codes ")")) ∷ (tok Operator 184 185 (codes ";")) ∷ (tok Keyword 186 192 (codes "return")) ∷ (tok Integer 193 194 (codes "1")) ∷ (tok Operator 195 196 (codes "}")) ∷ (tok Inserted 196 196 (codes ";")) ∷ (tok Keyword 198 202 (codes "func")) ∷ (tok Ident 203 207 (codes "main")) ∷ (tok Operator 207 208 (codes "(")) ∷ (tok Operator 208 209 (codes ")")) ∷ (tok Operator 210 211 (codes "{")) ∷ (tok Ident 213 214 (codes "a")) ∷ (tok Operator 215 217 (codes ":=")) ∷ (tok Integer 218 219 (codes "5")) ∷ (tok Inserted 219 219 (codes ";")) ∷ (tok Operator 221 222 (codes "{")) ∷ (tok Ident 225 226 (codes "a")) ∷ (tok Operator 226 227 (codes ",")) ∷ (tok Ident 228 229 (codes "b")) ∷ (tok Operator 230 232 (codes ":=")) ∷ (tok Ident 233 237 (codes "next")) ∷ (tok Operator 237 238 (codes "(")) ∷ (tok Operator 238 239 (codes ")")) ∷ (tok Operator 239 240 (codes ",")) ∷ (tok Ident 241 242 (codes "a")) ∷ (tok Inserted 242 242 (codes ";")) ∷ (tok Ident 245 252 (codes "println")) ∷ (tok Operator 252 253 (codes "(")) ∷ (tok Ident 253 254 (codes "a")) ∷ (tok Operator 254 255 (codes ",")) ∷ (tok Ident 256 257 (codes "a")) ∷ (tok Operator 257 258 (codes ",")) ∷ (tok Ident 259 260 (codes "b")) ∷ (tok Operator 260 261 (codes ")")) ∷ (tok Inserted 261 261 (codes ";")) ∷ (tok Operator 263 264 (codes "}")) ∷ (tok Inserted 264 264 (codes ";")) ∷ (tok Operator 265 266 (codes "}")) ∷ (tok Inserted 266 266 (codes ";")) ∷ []); comments = ((note 14 29) ∷ []) })

abbrev pair_block_tree : File At
pair_block_tree = record { package_name = (nmf 8 12 8 12 (codes "main")); imports = []; decls = ((fn (from 30 70 30 70) None (nmf 35 39 35 39 (codes "Pair")) (sig ((param (from 40 48 40 48) (Some (nmf 40 41 40 41 (codes "a"))) (named (from 45 48 45 48) None (nmf 45 48 45 48 (codes "int")))) ∷ (param (from 43 48 43 48) (Some (nmf 43 44 43 44 (codes "b"))) (named (from 45 48 45 48) None (nmf 45 48 45 48 (codes "int")))) ∷ []) []) (from 50 70 50 70) (stmt_and (eval (from 52 68 52 68) (call (from 52 68 52 68) (ident (from 52 59 52 59) (codes "println")) (expr_and (ident (from 60 61 60 61) (codes "a")) (expr_and (ident (from 63 64 63 64) (codes "a")) (expr_and (ident (from 66 67 66 67) (codes "b")) no_exprs))) Plain)) no_stmts)) ∷ (fn (from 72 114 72 114) None (nmf 77 81 77 81 (codes "next")) (sig [] ((param (from 84 87 84 87) None (named (from 84 87 84 87) None (nmf 84 87 84 87 (codes "int")))) ∷ [])) (from 88 114 88 114) (stmt_and (eval (from 90 102 90 102) (call (from 90 102 90 102) (ident (from 90 97 90 97) (codes "println")) (expr_and (str_lit (from 98 101 98 101) (codes "\"n\"")) no_exprs) Plain)) (stmt_and (return_ (from 104 112 104 112) (expr_and (int_lit (from 111 112 111 112) (codes "1")) no_exprs)) no_stmts))) ∷ (fn (from 116 155 116 155) None (nmf 121 122 121 122 (codes "g")) (sig [] ((param (from 125 128 125 128) None (named (from 125 128 125 128) None (nmf 125 128 125 128 (codes "int")))) ∷ [])) (from 129 155 129 155) (stmt_and (eval (from 131 143 131 143) (call (from 131 143 131 143) (ident (from 131 138 131 138) (codes "println")) (expr_and (str_lit (from 139 142 139 142) (codes "\"g\"")) no_exprs) Plain)) (stmt_and (return_ (from 145 153 145 153) (expr_and (int_lit (from 152 153 152 153) (codes "1")) no_exprs)) no_stmts))) ∷ (fn (from 157 196 157 196) None (nmf 162 163 162 163 (codes "h")) (sig [] ((param (from 166 169 166 169) None (named (from 166 169 166 169) None (nmf 166 169 166 169 (codes "int")))) ∷ [])) (from 170 196 170 196) (stmt_and (eval (from 172 184 172 184) (call (from 172 184 172 184) (ident (from 172 179 172 179) (codes "println")) (expr_and (str_lit (from 180 183 180 183) (codes "\"h\"")) no_exprs) Plain)) (stmt_and (return_ (from 186 194 186 194) (expr_and (int_lit (from 193 194 193 194) (codes "1")) no_exprs)) no_stmts))) ∷ (fn (from 198 266 198 238) None (nmf 203 207 203 207 (codes "main")) (sig [] []) (from 210 266 210 238) (stmt_and (define (from 213 219 213 219) ((nmf 213 214 213 214 (codes "a")) ∷ []) (expr_and (int_lit (from 218 219 218 219) (codes "5")) no_exprs)) (stmt_and (inner (from 221 264 221 236) (stmt_and (define (from 225 242 221 236) ((nmf 225 226 221 236 (codes "a")) ∷ (nmf 228 229 221 236 (codes "b")) ∷ []) (expr_and (call (from 233 239 226 232) (ident (from 233 237 226 230) (codes "next")) no_exprs Plain) (expr_and (ident (from 241 242 234 235) (codes "a")) no_exprs))) (stmt_and (eval (from 245 261 221 236) (call (from 245 261 221 236) (ident (from 245 252 221 236) (codes "println")) (expr_and (ident (from 253 254 221 236) (codes "a")) (expr_and (ident (from 256 257 221 236) (codes "a")) (expr_and (ident (from 259 260 221 236) (codes "b")) no_exprs))) Plain)) no_stmts))) no_stmts))) ∷ []) }

pair_block_steps : is_some (step_in pair_block.marks pair_block_start) ≡ true
unfolding passes keyword_spellings is_inline digits
pair_block_steps = refl

abbrev pair_block_next : TokensOf pair_block_new.text pair_block_new.tokens pair_block_new.comments → Next pair_block.marks pair_block_start (log_entry pair_block.marks pair_block_start (pair_block_steps) pair_block_t0 pair_block_new pair_block_tree) (stands_after pair_block.marks pair_block_start (pair_block_steps) pair_block_t0 pair_block_new pair_block_tree)
unfolding passes keyword_spellings is_inline digits reading pair_block_steps
pair_block_next h = next_by pair_block.marks pair_block_start (pair_block_steps) pair_block_t0 pair_block_new pair_block_tree refl refl h refl refl

-- the whole run, with the tokens of the texts
pair_block_inlined : (h0 : TokensOf pair_block_t0.text pair_block_t0.tokens pair_block_t0.comments) (h : TokensOf pair_block_new.text pair_block_new.tokens pair_block_new.comments) → IsInlining the_limits (folder small_module pair_block.texts) pair_block.packages pair_block.texts [] (((codes "main.go"), pair_block_new) ∷ []) (codes "main.go:14:2: inlined example.com/m.Pair as block\n")
unfolding passes keyword_spellings is_inline digits reading pair_block_steps pair_block_next
pair_block_inlined h0 h = inlining_by the_limits (folder small_module pair_block.texts) pair_block.packages pair_block.texts [] pair_block.marks (stands_after pair_block.marks pair_block_start (pair_block_steps) pair_block_t0 pair_block_new pair_block_tree) (log_entry pair_block.marks pair_block_start (pair_block_steps) pair_block_t0 pair_block_new pair_block_tree ∷ []) (codes "main.go:14:2: inlined example.com/m.Pair as block\n") pair_block_marks (module_by (codes "example.com/m") (module_text small_module) (record { path = codes "main.go"; text = pair_block_t0; tree = pair_block_f0; reads = record { scans = h0; spells = file_spelled pair_block_t0.tokens pair_block_f0 pair_block_spelled0 } } ∷ []) (folder small_module pair_block.texts) pair_block.packages pair_block.texts small_module_is refl refl refl refl refl refl refl refl refl) (goes_on pair_block_start (stands_after pair_block.marks pair_block_start (pair_block_steps) pair_block_t0 pair_block_new pair_block_tree) (stands_after pair_block.marks pair_block_start (pair_block_steps) pair_block_t0 pair_block_new pair_block_tree) (log_entry pair_block.marks pair_block_start (pair_block_steps) pair_block_t0 pair_block_new pair_block_tree) [] (pair_block_next h) (ends (stands_after pair_block.marks pair_block_start (pair_block_steps) pair_block_t0 pair_block_new pair_block_tree) refl)) (steps_on [] [] (log_entry pair_block.marks pair_block_start (pair_block_steps) pair_block_t0 pair_block_new pair_block_tree) pair_block_start (stands_after pair_block.marks pair_block_start (pair_block_steps) pair_block_t0 pair_block_new pair_block_tree) (stands_after pair_block.marks pair_block_start (pair_block_steps) pair_block_t0 pair_block_new pair_block_tree) (pair_block_next h) refl (begins (log_entry pair_block.marks pair_block_start (pair_block_steps) pair_block_t0 pair_block_new pair_block_tree ∷ []) (stands_after pair_block.marks pair_block_start (pair_block_steps) pair_block_t0 pair_block_new pair_block_tree))) (kept_by (log_entry pair_block.marks pair_block_start (pair_block_steps) pair_block_t0 pair_block_new pair_block_tree ∷ []) (codes "main.go") pair_block_t0.text pair_block_new.text [] [] refl refl run.none) refl

pair_block_t0_found : TokensOf pair_block_t0.text pair_block_t0.tokens pair_block_t0.comments
unfolding piece_of lexeme_of longest_from next_of tokens_from comments_from keyword_spellings is_letter is_digit general_category general_category_rows value_in lib.Utf8.encode
pair_block_t0_found = tokens_by pair_block_t0.text pair_block_t0.tokens pair_block_t0.comments refl refl refl

pair_block_new_found : TokensOf pair_block_new.text pair_block_new.tokens pair_block_new.comments
unfolding piece_of lexeme_of longest_from next_of tokens_from comments_from keyword_spellings is_letter is_digit general_category general_category_rows value_in lib.Utf8.encode
pair_block_new_found = tokens_by pair_block_new.text pair_block_new.tokens pair_block_new.comments refl refl refl

pair_block_run : IsInlining the_limits (folder small_module pair_block.texts) pair_block.packages pair_block.texts [] (((codes "main.go"), pair_block_new) ∷ []) (codes "main.go:14:2: inlined example.com/m.Pair as block\n")
pair_block_run = pair_block_inlined pair_block_t0_found pair_block_new_found

-- Two signs would be one token.
abbrev minus_call_f0 : File Span
minus_call_f0 = record { package_name = (nm 8 12 (codes "main")); imports = []; decls = ((fn (at 30 63) None (nm 35 38 (codes "Neg")) (sig ((param (at 39 44) (Some (nm 39 40 (codes "x"))) (named (at 41 44) None (nm 41 44 (codes "int")))) ∷ []) ((param (at 46 49) None (named (at 46 49) None (nm 46 49 (codes "int")))) ∷ [])) (at 50 63) (stmt_and (return_ (at 52 61) (expr_and (unary (at 59 61) Minus (ident (at 60 61) (codes "x"))) no_exprs)) no_stmts)) ∷ (fn (at 65 113) None (nm 70 74 (codes "main")) (sig [] []) (at 77 113) (stmt_and (define (at 80 92) ((nm 80 81 (codes "a")) ∷ (nm 83 84 (codes "b")) ∷ []) (expr_and (int_lit (at 88 89) (codes "3")) (expr_and (int_lit (at 91 92) (codes "4")) no_exprs))) (stmt_and (eval (at 94 111) (call (at 94 111) (ident (at 94 101) (codes "println")) (expr_and (binary (at 102 110) Sub (ident (at 102 103) (codes "a")) (call (at 104 110) (ident (at 104 107) (codes "Neg")) (expr_and (ident (at 108 109) (codes "b")) no_exprs) Plain)) no_exprs) Plain)) no_stmts))) ∷ []) }

abbrev minus_call : Module
minus_call = record { packages = (pack (codes "example.com/m") (codes "main") (source (codes "main.go") minus_call_f0 ∷ []) ∷ []); marks = (mark 0 0 0 0 ∷ []); texts = (((codes "main.go"), record { text = (codes "package main\n\n//go:fix inline\nfunc Neg(x int) int { return -x }\n\nfunc main() {\n\ta, b := 3, 4\n\tprintln(a-Neg(b))\n}\n"); tokens = ((tok Keyword 0 7 (codes "package")) ∷ (tok Ident 8 12 (codes "main")) ∷ (tok Inserted 12 12 (codes ";")) ∷ (tok Keyword 30 34 (codes "func")) ∷ (tok Ident 35 38 (codes "Neg")) ∷ (tok Operator 38 39 (codes "(")) ∷ (tok Ident 39 40 (codes "x")) ∷ (tok Ident 41 44 (codes "int")) ∷ (tok Operator 44 45 (codes ")")) ∷ (tok Ident 46 49 (codes "int")) ∷ (tok Operator 50 51 (codes "{")) ∷ (tok Keyword 52 58 (codes "return")) ∷ (tok Operator 59 60 (codes "-")) ∷ (tok Ident 60 61 (codes "x")) ∷ (tok Operator 62 63 (codes "}")) ∷ (tok Inserted 63 63 (codes ";")) ∷ (tok Keyword 65 69 (codes "func")) ∷ (tok Ident 70 74 (codes "main")) ∷ (tok Operator 74 75 (codes "(")) ∷ (tok Operator 75 76 (codes ")")) ∷ (tok Operator 77 78 (codes "{")) ∷ (tok Ident 80 81 (codes "a")) ∷ (tok Operator 81 82 (codes ",")) ∷ (tok Ident 83 84 (codes "b")) ∷ (tok Operator 85 87 (codes ":=")) ∷ (tok Integer 88 89 (codes "3")) ∷ (tok Operator 89 90 (codes ",")) ∷ (tok Integer 91 92 (codes "4")) ∷ (tok Inserted 92 92 (codes ";")) ∷ (tok Ident 94 101 (codes "println")) ∷ (tok Operator 101 102 (codes "(")) ∷ (tok Ident 102 103 (codes "a")) ∷ (tok Operator 103 104 (codes "-")) ∷ (tok Ident 104 107 (codes "Neg")) ∷ (tok Operator 107 108 (codes "(")) ∷ (tok Ident 108 109 (codes "b")) ∷ (tok Operator 109 110 (codes ")")) ∷ (tok Operator 110 111 (codes ")")) ∷ (tok Inserted 111 111 (codes ";")) ∷ (tok Operator 112 113 (codes "}")) ∷ (tok Inserted 113 113 (codes ";")) ∷ []); comments = ((note 14 29) ∷ []) }) ∷ []) }

abbrev minus_call_t0 : FileText
minus_call_t0 = (record { text = (codes "package main\n\n//go:fix inline\nfunc Neg(x int) int { return -x }\n\nfunc main() {\n\ta, b := 3, 4\n\tprintln(a-Neg(b))\n}\n"); tokens = ((tok Keyword 0 7 (codes "package")) ∷ (tok Ident 8 12 (codes "main")) ∷ (tok Inserted 12 12 (codes ";")) ∷ (tok Keyword 30 34 (codes "func")) ∷ (tok Ident 35 38 (codes "Neg")) ∷ (tok Operator 38 39 (codes "(")) ∷ (tok Ident 39 40 (codes "x")) ∷ (tok Ident 41 44 (codes "int")) ∷ (tok Operator 44 45 (codes ")")) ∷ (tok Ident 46 49 (codes "int")) ∷ (tok Operator 50 51 (codes "{")) ∷ (tok Keyword 52 58 (codes "return")) ∷ (tok Operator 59 60 (codes "-")) ∷ (tok Ident 60 61 (codes "x")) ∷ (tok Operator 62 63 (codes "}")) ∷ (tok Inserted 63 63 (codes ";")) ∷ (tok Keyword 65 69 (codes "func")) ∷ (tok Ident 70 74 (codes "main")) ∷ (tok Operator 74 75 (codes "(")) ∷ (tok Operator 75 76 (codes ")")) ∷ (tok Operator 77 78 (codes "{")) ∷ (tok Ident 80 81 (codes "a")) ∷ (tok Operator 81 82 (codes ",")) ∷ (tok Ident 83 84 (codes "b")) ∷ (tok Operator 85 87 (codes ":=")) ∷ (tok Integer 88 89 (codes "3")) ∷ (tok Operator 89 90 (codes ",")) ∷ (tok Integer 91 92 (codes "4")) ∷ (tok Inserted 92 92 (codes ";")) ∷ (tok Ident 94 101 (codes "println")) ∷ (tok Operator 101 102 (codes "(")) ∷ (tok Ident 102 103 (codes "a")) ∷ (tok Operator 103 104 (codes "-")) ∷ (tok Ident 104 107 (codes "Neg")) ∷ (tok Operator 107 108 (codes "(")) ∷ (tok Ident 108 109 (codes "b")) ∷ (tok Operator 109 110 (codes ")")) ∷ (tok Operator 110 111 (codes ")")) ∷ (tok Inserted 111 111 (codes ";")) ∷ (tok Operator 112 113 (codes "}")) ∷ (tok Inserted 113 113 (codes ";")) ∷ []); comments = ((note 14 29) ∷ []) })

minus_call_marks : marks_of minus_call.packages minus_call.texts [] ≡ minus_call.marks
unfolding passes keyword_spellings is_inline digits
minus_call_marks = refl

minus_call_spelled0 : read_at span_to read_front (lexemes minus_call_t0.tokens) ≡ Some (minus_call_f0, [])
unfolding reading
minus_call_spelled0 = refl

abbrev minus_call_start : Standing
minus_call_start = standing_as_read minus_call.packages minus_call.texts

abbrev minus_call_new : FileText
minus_call_new = (record { text = (codes "package main\n\n//go:fix inline\nfunc Neg(x int) int { return -x }\n\nfunc main() {\n\ta, b := 3, 4\n\tprintln(a- -b)\n}\n"); tokens = ((tok Keyword 0 7 (codes "package")) ∷ (tok Ident 8 12 (codes "main")) ∷ (tok Inserted 12 12 (codes ";")) ∷ (tok Keyword 30 34 (codes "func")) ∷ (tok Ident 35 38 (codes "Neg")) ∷ (tok Operator 38 39 (codes "(")) ∷ (tok Ident 39 40 (codes "x")) ∷ (tok Ident 41 44 (codes "int")) ∷ (tok Operator 44 45 (codes ")")) ∷ (tok Ident 46 49 (codes "int")) ∷ (tok Operator 50 51 (codes "{")) ∷ (tok Keyword 52 58 (codes "return")) ∷ (tok Operator 59 60 (codes "-")) ∷ (tok Ident 60 61 (codes "x")) ∷ (tok Operator 62 63 (codes "}")) ∷ (tok Inserted 63 63 (codes ";")) ∷ (tok Keyword 65 69 (codes "func")) ∷ (tok Ident 70 74 (codes "main")) ∷ (tok Operator 74 75 (codes "(")) ∷ (tok Operator 75 76 (codes ")")) ∷ (tok Operator 77 78 (codes "{")) ∷ (tok Ident 80 81 (codes "a")) ∷ (tok Operator 81 82 (codes ",")) ∷ (tok Ident 83 84 (codes "b")) ∷ (tok Operator 85 87 (codes ":=")) ∷ (tok Integer 88 89 (codes "3")) ∷ (tok Operator 89 90 (codes ",")) ∷ (tok Integer 91 92 (codes "4")) ∷ (tok Inserted 92 92 (codes ";")) ∷ (tok Ident 94 101 (codes "println")) ∷ (tok Operator 101 102 (codes "(")) ∷ (tok Ident 102 103 (codes "a")) ∷ (tok Operator 103 104 (codes "-")) ∷ (tok Operator 105 106 (codes "-")) ∷ (tok Ident 106 107 (codes "b")) ∷ (tok Operator 107 108 (codes ")")) ∷ (tok Inserted 108 108 (codes ";")) ∷ (tok Operator 109 110 (codes "}")) ∷ (tok Inserted 110 110 (codes ";")) ∷ []); comments = ((note 14 29) ∷ []) })

abbrev minus_call_tree : File At
minus_call_tree = record { package_name = (nmf 8 12 8 12 (codes "main")); imports = []; decls = ((fn (from 30 63 30 63) None (nmf 35 38 35 38 (codes "Neg")) (sig ((param (from 39 44 39 44) (Some (nmf 39 40 39 40 (codes "x"))) (named (from 41 44 41 44) None (nmf 41 44 41 44 (codes "int")))) ∷ []) ((param (from 46 49 46 49) None (named (from 46 49 46 49) None (nmf 46 49 46 49 (codes "int")))) ∷ [])) (from 50 63 50 63) (stmt_and (return_ (from 52 61 52 61) (expr_and (unary (from 59 61 59 61) Minus (ident (from 60 61 60 61) (codes "x"))) no_exprs)) no_stmts)) ∷ (fn (from 65 110 65 113) None (nmf 70 74 70 74 (codes "main")) (sig [] []) (from 77 110 77 113) (stmt_and (define (from 80 92 80 92) ((nmf 80 81 80 81 (codes "a")) ∷ (nmf 83 84 83 84 (codes "b")) ∷ []) (expr_and (int_lit (from 88 89 88 89) (codes "3")) (expr_and (int_lit (from 91 92 91 92) (codes "4")) no_exprs))) (stmt_and (eval (from 94 108 94 111) (call (from 94 108 94 111) (ident (from 94 101 94 101) (codes "println")) (expr_and (binary (from 102 107 102 110) Sub (ident (from 102 103 102 103) (codes "a")) (unary (from 105 107 104 110) Minus (ident (from 106 107 108 109) (codes "b")))) no_exprs) Plain)) no_stmts))) ∷ []) }

minus_call_steps : is_some (step_in minus_call.marks minus_call_start) ≡ true
unfolding passes keyword_spellings is_inline digits
minus_call_steps = refl

abbrev minus_call_next : TokensOf minus_call_new.text minus_call_new.tokens minus_call_new.comments → Next minus_call.marks minus_call_start (log_entry minus_call.marks minus_call_start (minus_call_steps) minus_call_t0 minus_call_new minus_call_tree) (stands_after minus_call.marks minus_call_start (minus_call_steps) minus_call_t0 minus_call_new minus_call_tree)
unfolding passes keyword_spellings is_inline digits reading minus_call_steps
minus_call_next h = next_by minus_call.marks minus_call_start (minus_call_steps) minus_call_t0 minus_call_new minus_call_tree refl refl h refl refl

-- the whole run, with the tokens of the texts
minus_call_inlined : (h0 : TokensOf minus_call_t0.text minus_call_t0.tokens minus_call_t0.comments) (h : TokensOf minus_call_new.text minus_call_new.tokens minus_call_new.comments) → IsInlining the_limits (folder small_module minus_call.texts) minus_call.packages minus_call.texts [] (((codes "main.go"), minus_call_new) ∷ []) (codes "main.go:8:12: inlined example.com/m.Neg as expr\n")
unfolding passes keyword_spellings is_inline digits reading minus_call_steps minus_call_next
minus_call_inlined h0 h = inlining_by the_limits (folder small_module minus_call.texts) minus_call.packages minus_call.texts [] minus_call.marks (stands_after minus_call.marks minus_call_start (minus_call_steps) minus_call_t0 minus_call_new minus_call_tree) (log_entry minus_call.marks minus_call_start (minus_call_steps) minus_call_t0 minus_call_new minus_call_tree ∷ []) (codes "main.go:8:12: inlined example.com/m.Neg as expr\n") minus_call_marks (module_by (codes "example.com/m") (module_text small_module) (record { path = codes "main.go"; text = minus_call_t0; tree = minus_call_f0; reads = record { scans = h0; spells = file_spelled minus_call_t0.tokens minus_call_f0 minus_call_spelled0 } } ∷ []) (folder small_module minus_call.texts) minus_call.packages minus_call.texts small_module_is refl refl refl refl refl refl refl refl refl) (goes_on minus_call_start (stands_after minus_call.marks minus_call_start (minus_call_steps) minus_call_t0 minus_call_new minus_call_tree) (stands_after minus_call.marks minus_call_start (minus_call_steps) minus_call_t0 minus_call_new minus_call_tree) (log_entry minus_call.marks minus_call_start (minus_call_steps) minus_call_t0 minus_call_new minus_call_tree) [] (minus_call_next h) (ends (stands_after minus_call.marks minus_call_start (minus_call_steps) minus_call_t0 minus_call_new minus_call_tree) refl)) (steps_on [] [] (log_entry minus_call.marks minus_call_start (minus_call_steps) minus_call_t0 minus_call_new minus_call_tree) minus_call_start (stands_after minus_call.marks minus_call_start (minus_call_steps) minus_call_t0 minus_call_new minus_call_tree) (stands_after minus_call.marks minus_call_start (minus_call_steps) minus_call_t0 minus_call_new minus_call_tree) (minus_call_next h) refl (begins (log_entry minus_call.marks minus_call_start (minus_call_steps) minus_call_t0 minus_call_new minus_call_tree ∷ []) (stands_after minus_call.marks minus_call_start (minus_call_steps) minus_call_t0 minus_call_new minus_call_tree))) (kept_by (log_entry minus_call.marks minus_call_start (minus_call_steps) minus_call_t0 minus_call_new minus_call_tree ∷ []) (codes "main.go") minus_call_t0.text minus_call_new.text [] [] refl refl run.none) refl

minus_call_t0_found : TokensOf minus_call_t0.text minus_call_t0.tokens minus_call_t0.comments
unfolding piece_of lexeme_of longest_from next_of tokens_from comments_from keyword_spellings is_letter is_digit general_category general_category_rows value_in lib.Utf8.encode
minus_call_t0_found = tokens_by minus_call_t0.text minus_call_t0.tokens minus_call_t0.comments refl refl refl

minus_call_new_found : TokensOf minus_call_new.text minus_call_new.tokens minus_call_new.comments
unfolding piece_of lexeme_of longest_from next_of tokens_from comments_from keyword_spellings is_letter is_digit general_category general_category_rows value_in lib.Utf8.encode
minus_call_new_found = tokens_by minus_call_new.text minus_call_new.tokens minus_call_new.comments refl refl refl

minus_call_run : IsInlining the_limits (folder small_module minus_call.texts) minus_call.packages minus_call.texts [] (((codes "main.go"), minus_call_new) ∷ []) (codes "main.go:8:12: inlined example.com/m.Neg as expr\n")
minus_call_run = minus_call_inlined minus_call_t0_found minus_call_new_found

-- A bound parameter without a use.
abbrev note_block_f0 : File Span
note_block_f0 = record { package_name = (nm 8 12 (codes "main")); imports = []; decls = ((fn (at 30 69) None (nm 35 39 (codes "Note")) (sig ((param (at 40 48) (Some (nm 40 41 (codes "a"))) (named (at 45 48) None (nm 45 48 (codes "int")))) ∷ (param (at 43 48) (Some (nm 43 44 (codes "b"))) (named (at 45 48) None (nm 45 48 (codes "int")))) ∷ []) []) (at 50 69) (stmt_and (eval (at 52 67) (call (at 52 67) (ident (at 52 59) (codes "println")) (expr_and (str_lit (at 60 66) (codes "\"note\"")) no_exprs) Plain)) no_stmts)) ∷ (fn (at 71 113) None (nm 76 80 (codes "next")) (sig [] ((param (at 83 86) None (named (at 83 86) None (nm 83 86 (codes "int")))) ∷ [])) (at 87 113) (stmt_and (eval (at 89 101) (call (at 89 101) (ident (at 89 96) (codes "println")) (expr_and (str_lit (at 97 100) (codes "\"n\"")) no_exprs) Plain)) (stmt_and (return_ (at 103 111) (expr_and (int_lit (at 110 111) (codes "1")) no_exprs)) no_stmts))) ∷ (fn (at 115 154) None (nm 120 121 (codes "g")) (sig [] ((param (at 124 127) None (named (at 124 127) None (nm 124 127 (codes "int")))) ∷ [])) (at 128 154) (stmt_and (eval (at 130 142) (call (at 130 142) (ident (at 130 137) (codes "println")) (expr_and (str_lit (at 138 141) (codes "\"g\"")) no_exprs) Plain)) (stmt_and (return_ (at 144 152) (expr_and (int_lit (at 151 152) (codes "1")) no_exprs)) no_stmts))) ∷ (fn (at 156 195) None (nm 161 162 (codes "h")) (sig [] ((param (at 165 168) None (named (at 165 168) None (nm 165 168 (codes "int")))) ∷ [])) (at 169 195) (stmt_and (eval (at 171 183) (call (at 171 183) (ident (at 171 178) (codes "println")) (expr_and (str_lit (at 179 182) (codes "\"h\"")) no_exprs) Plain)) (stmt_and (return_ (at 185 193) (expr_and (int_lit (at 192 193) (codes "1")) no_exprs)) no_stmts))) ∷ (fn (at 197 229) None (nm 202 206 (codes "main")) (sig [] []) (at 209 229) (stmt_and (eval (at 212 227) (call (at 212 227) (ident (at 212 216) (codes "Note")) (expr_and (call (at 217 223) (ident (at 217 221) (codes "next")) no_exprs Plain) (expr_and (int_lit (at 225 226) (codes "2")) no_exprs)) Plain)) no_stmts)) ∷ []) }

abbrev note_block : Module
note_block = record { packages = (pack (codes "example.com/m") (codes "main") (source (codes "main.go") note_block_f0 ∷ []) ∷ []); marks = (mark 0 0 0 0 ∷ []); texts = (((codes "main.go"), record { text = (codes "package main\n\n//go:fix inline\nfunc Note(a, b int) { println(\"note\") }\n\nfunc next() int { println(\"n\"); return 1 }\n\nfunc g() int { println(\"g\"); return 1 }\n\nfunc h() int { println(\"h\"); return 1 }\n\nfunc main() {\n\tNote(next(), 2)\n}\n"); tokens = ((tok Keyword 0 7 (codes "package")) ∷ (tok Ident 8 12 (codes "main")) ∷ (tok Inserted 12 12 (codes ";")) ∷ (tok Keyword 30 34 (codes "func")) ∷ (tok Ident 35 39 (codes "Note")) ∷ (tok Operator 39 40 (codes "(")) ∷ (tok Ident 40 41 (codes "a")) ∷ (tok Operator 41 42 (codes ",")) ∷ (tok Ident 43 44 (codes "b")) ∷ (tok Ident 45 48 (codes "int")) ∷ (tok Operator 48 49 (codes ")")) ∷ (tok Operator 50 51 (codes "{")) ∷ (tok Ident 52 59 (codes "println")) ∷ (tok Operator 59 60 (codes "(")) ∷ (tok Str 60 66 (codes "\"note\"")) ∷ (tok Operator 66 67 (codes ")")) ∷ (tok Operator 68 69 (codes "}")) ∷ (tok Inserted 69 69 (codes ";")) ∷ (tok Keyword 71 75 (codes "func")) ∷ (tok Ident 76 80 (codes "next")) ∷ (tok Operator 80 81 (codes "(")) ∷ (tok Operator 81 82 (codes ")")) ∷ (tok Ident 83 86 (codes "int")) ∷ (tok Operator 87 88 (codes "{")) ∷ (tok Ident 89 96 (codes "println")) ∷ (tok Operator 96 97 (codes "(")) ∷ (tok Str 97 100 (codes "\"n\"")) ∷ (tok Operator 100 101 (codes ")")) ∷ (tok Operator 101 102 (codes ";")) ∷ (tok Keyword 103 109 (codes "return")) ∷ (tok Integer 110 111 (codes "1")) ∷ (tok Operator 112 113 (codes "}")) ∷ (tok Inserted 113 113 (codes ";")) ∷ (tok Keyword 115 119 (codes "func")) ∷ (tok Ident 120 121 (codes "g")) ∷ (tok Operator 121 122 (codes "(")) ∷ (tok Operator 122 123 (codes ")")) ∷ (tok Ident 124 127 (codes "int")) ∷ (tok Operator 128 129 (codes "{")) ∷ (tok Ident 130 137 (codes "println")) ∷ (tok Operator 137 138 (codes "(")) ∷ (tok Str 138 141 (codes "\"g\"")) ∷ (tok Operator 141 142 (codes ")")) ∷ (tok Operator 142 143 (codes ";")) ∷ (tok Keyword 144 150 (codes "return")) ∷ (tok Integer 151 152 (codes "1")) ∷ (tok Operator 153 154 (codes "}")) ∷ (tok Inserted 154 154 (codes ";")) ∷ (tok Keyword 156 160 (codes "func")) ∷ (tok Ident 161 162 (codes "h")) ∷ (tok Operator 162 163 (codes "(")) ∷ (tok Operator 163 164 (codes ")")) ∷ (tok Ident 165 168 (codes "int")) ∷ (tok Operator 169 170 (codes "{")) ∷ (tok Ident 171 178 (codes "println")) ∷ (tok Operator 178 179 (codes "(")) ∷ (tok Str 179 182 (codes "\"h\"")) ∷ (tok Operator 182 183 (codes ")")) ∷ (tok Operator 183 184 (codes ";")) ∷ (tok Keyword 185 191 (codes "return")) ∷ (tok Integer 192 193 (codes "1")) ∷ (tok Operator 194 195 (codes "}")) ∷ (tok Inserted 195 195 (codes ";")) ∷ (tok Keyword 197 201 (codes "func")) ∷ (tok Ident 202 206 (codes "main")) ∷ (tok Operator 206 207 (codes "(")) ∷ (tok Operator 207 208 (codes ")")) ∷ (tok Operator 209 210 (codes "{")) ∷ (tok Ident 212 216 (codes "Note")) ∷ (tok Operator 216 217 (codes "(")) ∷ (tok Ident 217 221 (codes "next")) ∷ (tok Operator 221 222 (codes "(")) ∷ (tok Operator 222 223 (codes ")")) ∷ (tok Operator 223 224 (codes ",")) ∷ (tok Integer 225 226 (codes "2")) ∷ (tok Operator 226 227 (codes ")")) ∷ (tok Inserted 227 227 (codes ";")) ∷ (tok Operator 228 229 (codes "}")) ∷ (tok Inserted 229 229 (codes ";")) ∷ []); comments = ((note 14 29) ∷ []) }) ∷ []) }

abbrev note_block_t0 : FileText
note_block_t0 = (record { text = (codes "package main\n\n//go:fix inline\nfunc Note(a, b int) { println(\"note\") }\n\nfunc next() int { println(\"n\"); return 1 }\n\nfunc g() int { println(\"g\"); return 1 }\n\nfunc h() int { println(\"h\"); return 1 }\n\nfunc main() {\n\tNote(next(), 2)\n}\n"); tokens = ((tok Keyword 0 7 (codes "package")) ∷ (tok Ident 8 12 (codes "main")) ∷ (tok Inserted 12 12 (codes ";")) ∷ (tok Keyword 30 34 (codes "func")) ∷ (tok Ident 35 39 (codes "Note")) ∷ (tok Operator 39 40 (codes "(")) ∷ (tok Ident 40 41 (codes "a")) ∷ (tok Operator 41 42 (codes ",")) ∷ (tok Ident 43 44 (codes "b")) ∷ (tok Ident 45 48 (codes "int")) ∷ (tok Operator 48 49 (codes ")")) ∷ (tok Operator 50 51 (codes "{")) ∷ (tok Ident 52 59 (codes "println")) ∷ (tok Operator 59 60 (codes "(")) ∷ (tok Str 60 66 (codes "\"note\"")) ∷ (tok Operator 66 67 (codes ")")) ∷ (tok Operator 68 69 (codes "}")) ∷ (tok Inserted 69 69 (codes ";")) ∷ (tok Keyword 71 75 (codes "func")) ∷ (tok Ident 76 80 (codes "next")) ∷ (tok Operator 80 81 (codes "(")) ∷ (tok Operator 81 82 (codes ")")) ∷ (tok Ident 83 86 (codes "int")) ∷ (tok Operator 87 88 (codes "{")) ∷ (tok Ident 89 96 (codes "println")) ∷ (tok Operator 96 97 (codes "(")) ∷ (tok Str 97 100 (codes "\"n\"")) ∷ (tok Operator 100 101 (codes ")")) ∷ (tok Operator 101 102 (codes ";")) ∷ (tok Keyword 103 109 (codes "return")) ∷ (tok Integer 110 111 (codes "1")) ∷ (tok Operator 112 113 (codes "}")) ∷ (tok Inserted 113 113 (codes ";")) ∷ (tok Keyword 115 119 (codes "func")) ∷ (tok Ident 120 121 (codes "g")) ∷ (tok Operator 121 122 (codes "(")) ∷ (tok Operator 122 123 (codes ")")) ∷ (tok Ident 124 127 (codes "int")) ∷ (tok Operator 128 129 (codes "{")) ∷ (tok Ident 130 137 (codes "println")) ∷ (tok Operator 137 138 (codes "(")) ∷ (tok Str 138 141 (codes "\"g\"")) ∷ (tok Operator 141 142 (codes ")")) ∷ (tok Operator 142 143 (codes ";")) ∷ (tok Keyword 144 150 (codes "return")) ∷ (tok Integer 151 152 (codes "1")) ∷ (tok Operator 153 154 (codes "}")) ∷ (tok Inserted 154 154 (codes ";")) ∷ (tok Keyword 156 160 (codes "func")) ∷ (tok Ident 161 162 (codes "h")) ∷ (tok Operator 162 163 (codes "(")) ∷ (tok Operator 163 164 (codes ")")) ∷ (tok Ident 165 168 (codes "int")) ∷ (tok Operator 169 170 (codes "{")) ∷ (tok Ident 171 178 (codes "println")) ∷ (tok Operator 178 179 (codes "(")) ∷ (tok Str 179 182 (codes "\"h\"")) ∷ (tok Operator 182 183 (codes ")")) ∷ (tok Operator 183 184 (codes ";")) ∷ (tok Keyword 185 191 (codes "return")) ∷ (tok Integer 192 193 (codes "1")) ∷ (tok Operator 194 195 (codes "}")) ∷ (tok Inserted 195 195 (codes ";")) ∷ (tok Keyword 197 201 (codes "func")) ∷ (tok Ident 202 206 (codes "main")) ∷ (tok Operator 206 207 (codes "(")) ∷ (tok Operator 207 208 (codes ")")) ∷ (tok Operator 209 210 (codes "{")) ∷ (tok Ident 212 216 (codes "Note")) ∷ (tok Operator 216 217 (codes "(")) ∷ (tok Ident 217 221 (codes "next")) ∷ (tok Operator 221 222 (codes "(")) ∷ (tok Operator 222 223 (codes ")")) ∷ (tok Operator 223 224 (codes ",")) ∷ (tok Integer 225 226 (codes "2")) ∷ (tok Operator 226 227 (codes ")")) ∷ (tok Inserted 227 227 (codes ";")) ∷ (tok Operator 228 229 (codes "}")) ∷ (tok Inserted 229 229 (codes ";")) ∷ []); comments = ((note 14 29) ∷ []) })

note_block_marks : marks_of note_block.packages note_block.texts [] ≡ note_block.marks
unfolding passes keyword_spellings is_inline digits
note_block_marks = refl

note_block_spelled0 : read_at span_to read_front (lexemes note_block_t0.tokens) ≡ Some (note_block_f0, [])
unfolding reading
note_block_spelled0 = refl

abbrev note_block_start : Standing
note_block_start = standing_as_read note_block.packages note_block.texts

abbrev note_block_new : FileText
note_block_new = (record { text = (codes "package main\n\n//go:fix inline\nfunc Note(a, b int) { println(\"note\") }\n\nfunc next() int { println(\"n\"); return 1 }\n\nfunc g() int { println(\"g\"); return 1 }\n\nfunc h() int { println(\"h\"); return 1 }\n\nfunc main() {\n\t{\n\t\t_ = next()\n\t\tprintln(\"note\")\n\t}\n}\n"); tokens = ((tok Keyword 0 7 (codes "package")) ∷ (tok Ident 8 12 (codes "main")) ∷ (tok Inserted 12 12 (codes ";")) ∷ (tok Keyword 30 34 (codes "func")) ∷ (tok Ident 35 39 (codes "Note")) ∷ (tok Operator 39 40 (codes "(")) ∷ (tok Ident 40 41 (codes "a")) ∷ (tok Operator 41 42 (codes ",")) ∷ (tok Ident 43 44 (codes "b")) ∷ (tok Ident 45 48 (codes "int")) ∷ (tok Operator 48 49 (codes ")")) ∷ (tok Operator 50 51 (codes "{")) ∷ (tok Ident 52 59 (codes "println")) ∷ (tok Operator 59 60 (codes "(")) ∷ (tok Str 60 66 (codes "\"note\"")) ∷ (tok Operator 66 67 (codes ")")) ∷ (tok Operator 68 69 (codes "}")) ∷ (tok Inserted 69 69 (codes ";")) ∷ (tok Keyword 71 75 (codes "func")) ∷ (tok Ident 76 80 (codes "next")) ∷ (tok Operator 80 81 (codes "(")) ∷ (tok Operator 81 82 (codes ")")) ∷ (tok Ident 83 86 (codes "int")) ∷ (tok Operator 87 88 (codes "{")) ∷ (tok Ident 89 96 (codes "println")) ∷ (tok Operator 96 97 (codes "(")) ∷ (tok Str 97 100 (codes "\"n\"")) ∷ (tok Operator 100 101 (codes ")")) ∷ (tok Operator 101 102 (codes ";")) ∷ (tok Keyword 103 109 (codes "return")) ∷ (tok Integer 110 111 (codes "1")) ∷ (tok Operator 112 113 (codes "}")) ∷ (tok Inserted 113 113 (codes ";")) ∷ (tok Keyword 115 119 (codes "func")) ∷ (tok Ident 120 121 (codes "g")) ∷ (tok Operator 121 122 (codes "(")) ∷ (tok Operator 122 123 (codes ")")) ∷ (tok Ident 124 127 (codes "int")) ∷ (tok Operator 128 129 (codes "{")) ∷ (tok Ident 130 137 (codes "println")) ∷ (tok Operator 137 138 (codes "(")) ∷ (tok Str 138 141 (codes "\"g\"")) ∷ (tok Operator 141 142 (codes ")")) ∷ (tok Operator 142 143 (codes ";")) ∷ (tok Keyword 144 150 (codes "return")) ∷ (tok Integer 151 152 (codes "1")) ∷ (tok Operator 153 154 (codes "}")) ∷ (tok Inserted 154 154 (codes ";")) ∷ (tok Keyword 156 160 (codes "func")) ∷ (tok Ident 161 162 (codes "h")) ∷ (tok Operator 162 163 (codes "(")) ∷ (tok Operator 163 164 (codes ")")) ∷ (tok Ident 165 168 (codes "int")) ∷ (tok Operator 169 170 (codes "{")) ∷ (tok Ident 171 178 (codes "println")) ∷ (tok Operator 178 179 (codes "(")) ∷ (tok Str 179 182 (codes "\"h\"")) ∷ (tok Operator 182 183 (codes ")")) ∷ (tok Operator 183 184 (codes ";")) ∷ (tok Keyword 185 191 (codes "return")) ∷ (tok Integer 192 193 (codes "1")) ∷ (tok Operator 194 195 (codes "}")) ∷ (tok Inserted 195 195 (codes ";")) ∷ (tok Keyword 197 201 (codes "func")) ∷ (tok Ident 202 206 (codes "main")) ∷ (tok Operator 206 207 (codes "(")) ∷ (tok Operator 207 208 (codes ")")) ∷ (tok Operator 209 210 (codes "{")) ∷ (tok Operator 212 213 (codes "{")) ∷ (tok Ident 216 217 (codes "_")) ∷ (tok Operator 218 219 (codes "=")) ∷ (tok Ident 220 224 (codes "next")) ∷ (tok Operator 224 225 (codes "(")) ∷ (tok Operator 225 226 (codes ")")) ∷ (tok Inserted 226 226 (codes ";")) ∷ (tok Ident 229 236 (codes "println")) ∷ (tok Operator 236 237 (codes "(")) ∷ (tok Str 237 243 (codes "\"note\"")) ∷ (tok Operator 243 244 (codes ")")) ∷ (tok Inserted 244 244 (codes ";")) ∷ (tok Operator 246 247 (codes "}")) ∷ (tok Inserted 247 247 (codes ";")) ∷ (tok Operator 248 249 (codes "}")) ∷ (tok Inserted 249 249 (codes ";")) ∷ []); comments = ((note 14 29) ∷ []) })

abbrev note_block_tree : File At
note_block_tree = record { package_name = (nmf 8 12 8 12 (codes "main")); imports = []; decls = ((fn (from 30 69 30 69) None (nmf 35 39 35 39 (codes "Note")) (sig ((param (from 40 48 40 48) (Some (nmf 40 41 40 41 (codes "a"))) (named (from 45 48 45 48) None (nmf 45 48 45 48 (codes "int")))) ∷ (param (from 43 48 43 48) (Some (nmf 43 44 43 44 (codes "b"))) (named (from 45 48 45 48) None (nmf 45 48 45 48 (codes "int")))) ∷ []) []) (from 50 69 50 69) (stmt_and (eval (from 52 67 52 67) (call (from 52 67 52 67) (ident (from 52 59 52 59) (codes "println")) (expr_and (str_lit (from 60 66 60 66) (codes "\"note\"")) no_exprs) Plain)) no_stmts)) ∷ (fn (from 71 113 71 113) None (nmf 76 80 76 80 (codes "next")) (sig [] ((param (from 83 86 83 86) None (named (from 83 86 83 86) None (nmf 83 86 83 86 (codes "int")))) ∷ [])) (from 87 113 87 113) (stmt_and (eval (from 89 101 89 101) (call (from 89 101 89 101) (ident (from 89 96 89 96) (codes "println")) (expr_and (str_lit (from 97 100 97 100) (codes "\"n\"")) no_exprs) Plain)) (stmt_and (return_ (from 103 111 103 111) (expr_and (int_lit (from 110 111 110 111) (codes "1")) no_exprs)) no_stmts))) ∷ (fn (from 115 154 115 154) None (nmf 120 121 120 121 (codes "g")) (sig [] ((param (from 124 127 124 127) None (named (from 124 127 124 127) None (nmf 124 127 124 127 (codes "int")))) ∷ [])) (from 128 154 128 154) (stmt_and (eval (from 130 142 130 142) (call (from 130 142 130 142) (ident (from 130 137 130 137) (codes "println")) (expr_and (str_lit (from 138 141 138 141) (codes "\"g\"")) no_exprs) Plain)) (stmt_and (return_ (from 144 152 144 152) (expr_and (int_lit (from 151 152 151 152) (codes "1")) no_exprs)) no_stmts))) ∷ (fn (from 156 195 156 195) None (nmf 161 162 161 162 (codes "h")) (sig [] ((param (from 165 168 165 168) None (named (from 165 168 165 168) None (nmf 165 168 165 168 (codes "int")))) ∷ [])) (from 169 195 169 195) (stmt_and (eval (from 171 183 171 183) (call (from 171 183 171 183) (ident (from 171 178 171 178) (codes "println")) (expr_and (str_lit (from 179 182 179 182) (codes "\"h\"")) no_exprs) Plain)) (stmt_and (return_ (from 185 193 185 193) (expr_and (int_lit (from 192 193 192 193) (codes "1")) no_exprs)) no_stmts))) ∷ (fn (from 197 249 197 229) None (nmf 202 206 202 206 (codes "main")) (sig [] []) (from 209 249 209 229) (stmt_and (inner (from 212 247 212 227) (stmt_and (assign (from 216 226 212 227) (expr_and (ident (from 216 217 212 227) (codes "_")) no_exprs) None (expr_and (call (from 220 226 217 223) (ident (from 220 224 217 221) (codes "next")) no_exprs Plain) no_exprs)) (stmt_and (eval (from 229 244 212 227) (call (from 229 244 212 227) (ident (from 229 236 212 227) (codes "println")) (expr_and (str_lit (from 237 243 212 227) (codes "\"note\"")) no_exprs) Plain)) no_stmts))) no_stmts)) ∷ []) }

note_block_steps : is_some (step_in note_block.marks note_block_start) ≡ true
unfolding passes keyword_spellings is_inline digits
note_block_steps = refl

abbrev note_block_next : TokensOf note_block_new.text note_block_new.tokens note_block_new.comments → Next note_block.marks note_block_start (log_entry note_block.marks note_block_start (note_block_steps) note_block_t0 note_block_new note_block_tree) (stands_after note_block.marks note_block_start (note_block_steps) note_block_t0 note_block_new note_block_tree)
unfolding passes keyword_spellings is_inline digits reading note_block_steps
note_block_next h = next_by note_block.marks note_block_start (note_block_steps) note_block_t0 note_block_new note_block_tree refl refl h refl refl

-- the whole run, with the tokens of the texts
note_block_inlined : (h0 : TokensOf note_block_t0.text note_block_t0.tokens note_block_t0.comments) (h : TokensOf note_block_new.text note_block_new.tokens note_block_new.comments) → IsInlining the_limits (folder small_module note_block.texts) note_block.packages note_block.texts [] (((codes "main.go"), note_block_new) ∷ []) (codes "main.go:13:2: inlined example.com/m.Note as block\n")
unfolding passes keyword_spellings is_inline digits reading note_block_steps note_block_next
note_block_inlined h0 h = inlining_by the_limits (folder small_module note_block.texts) note_block.packages note_block.texts [] note_block.marks (stands_after note_block.marks note_block_start (note_block_steps) note_block_t0 note_block_new note_block_tree) (log_entry note_block.marks note_block_start (note_block_steps) note_block_t0 note_block_new note_block_tree ∷ []) (codes "main.go:13:2: inlined example.com/m.Note as block\n") note_block_marks (module_by (codes "example.com/m") (module_text small_module) (record { path = codes "main.go"; text = note_block_t0; tree = note_block_f0; reads = record { scans = h0; spells = file_spelled note_block_t0.tokens note_block_f0 note_block_spelled0 } } ∷ []) (folder small_module note_block.texts) note_block.packages note_block.texts small_module_is refl refl refl refl refl refl refl refl refl) (goes_on note_block_start (stands_after note_block.marks note_block_start (note_block_steps) note_block_t0 note_block_new note_block_tree) (stands_after note_block.marks note_block_start (note_block_steps) note_block_t0 note_block_new note_block_tree) (log_entry note_block.marks note_block_start (note_block_steps) note_block_t0 note_block_new note_block_tree) [] (note_block_next h) (ends (stands_after note_block.marks note_block_start (note_block_steps) note_block_t0 note_block_new note_block_tree) refl)) (steps_on [] [] (log_entry note_block.marks note_block_start (note_block_steps) note_block_t0 note_block_new note_block_tree) note_block_start (stands_after note_block.marks note_block_start (note_block_steps) note_block_t0 note_block_new note_block_tree) (stands_after note_block.marks note_block_start (note_block_steps) note_block_t0 note_block_new note_block_tree) (note_block_next h) refl (begins (log_entry note_block.marks note_block_start (note_block_steps) note_block_t0 note_block_new note_block_tree ∷ []) (stands_after note_block.marks note_block_start (note_block_steps) note_block_t0 note_block_new note_block_tree))) (kept_by (log_entry note_block.marks note_block_start (note_block_steps) note_block_t0 note_block_new note_block_tree ∷ []) (codes "main.go") note_block_t0.text note_block_new.text [] [] refl refl run.none) refl

note_block_t0_found : TokensOf note_block_t0.text note_block_t0.tokens note_block_t0.comments
unfolding piece_of lexeme_of longest_from next_of tokens_from comments_from keyword_spellings is_letter is_digit general_category general_category_rows value_in lib.Utf8.encode
note_block_t0_found = tokens_by note_block_t0.text note_block_t0.tokens note_block_t0.comments refl refl refl

note_block_new_found : TokensOf note_block_new.text note_block_new.tokens note_block_new.comments
unfolding piece_of lexeme_of longest_from next_of tokens_from comments_from keyword_spellings is_letter is_digit general_category general_category_rows value_in lib.Utf8.encode
note_block_new_found = tokens_by note_block_new.text note_block_new.tokens note_block_new.comments refl refl refl

note_block_run : IsInlining the_limits (folder small_module note_block.texts) note_block.packages note_block.texts [] (((codes "main.go"), note_block_new) ∷ []) (codes "main.go:13:2: inlined example.com/m.Note as block\n")
note_block_run = note_block_inlined note_block_t0_found note_block_new_found
