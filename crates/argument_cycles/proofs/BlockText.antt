-- A step of a run over a call that becomes a block, in which an argument takes the place of its parameter and another is bound first, from the text.
--   package main
--   func Log(a, b int) { println(b, a) }   (marked)
--   func next() int { println("n"); return 1 }
--   func g() int { println("g"); return 1 }
--   func h() int { println("h"); return 1 }
--   func main() { Log(g(), h()) }
-- after the step: func main() { { a := g(); println(h(), a) } }
use Rattle.std.proofs.Common.{◌≡◌, refl}
use Rattle.std.specs.Prelude.{true, [], ◌∷◌, Some, None, codes, is_some}
use Rattle.go_tree.specs.declared.exprs.Rest.TheVariants.{Plain}
use Rattle.go_tree.specs.declared.spans.Span.{Span}
use Rattle.go_tree.specs.declared.tokens.TokenKind.TheVariants.{Ident, Keyword, Operator, Integer, Str, Inserted}
use Rattle.go_tree.specs.Tree.{named, ident, int_lit, str_lit, call, no_exprs, expr_and, eval, define, return_, inner, no_stmts, stmt_and}
use Rattle.go_tree.specs.File.{File}
use Rattle.go_tree.specs.GoWords.Tokens.{TokensOf, tokens_from, comments_from}
use Rattle.go_tree.specs.GoWords.Tokens.Characters.{is_letter, is_digit}
use Rattle.go_tree.specs.GoWords.Tokens.Pieces.{keyword_spellings}
use Rattle.go_scan.specs.Automaton.{next_of, longest_from}
use Rattle.go_scan.specs.Pieces.{piece_of, lexeme_of}
use Rattle.go_read.proofs.Texts.{reading}
use Rattle.ucd_category.specs.GeneralCategory.{general_category}
use Rattle.ucd_category.specs.GeneralCategoryRows.{general_category_rows}
use Rattle.ucd_table.specs.Rows.{value_in}
use Rattle.directive_scan.specs.Lines.{is_inline}
use Rattle.pkg_graph.specs.ModuleFiles.Internal.{passes}
use Rattle.std.specs.Fmt.{digits}
use Rattle.run_rules.specs.Texts.{FileText}
use Rattle.run_rules.specs.Steps.{At}
use Rattle.run_rules.specs.Run.{Standing, Logged, Next, step_in}
use Rattle.run_rules.specs.Inlining.{standing_as_read}
use Rattle.run_rules.proofs.CaseTools.{at, nm, tok, note, param, sig, fn, pack, source, mark, Module, from, nmf}
use Rattle.run_rules.proofs.Instances.{stands_after, log_entry, next_by}
use Rattle.run_rules.proofs.TokensFound.{tokens_by}

abbrev pub file : File Span
file = record { package_name = (nm 8 12 (codes "main")); imports = []; decls = ((fn (at 30 66) None (nm 35 38 (codes "Log")) (sig ((param (at 39 47) (Some (nm 39 40 (codes "a"))) (named (at 44 47) None (nm 44 47 (codes "int")))) ∷ (param (at 42 47) (Some (nm 42 43 (codes "b"))) (named (at 44 47) None (nm 44 47 (codes "int")))) ∷ []) []) (at 49 66) (stmt_and (eval (at 51 64) (call (at 51 64) (ident (at 51 58) (codes "println")) (expr_and (ident (at 59 60) (codes "b")) (expr_and (ident (at 62 63) (codes "a")) no_exprs)) Plain)) no_stmts)) ∷ (fn (at 68 110) None (nm 73 77 (codes "next")) (sig [] ((param (at 80 83) None (named (at 80 83) None (nm 80 83 (codes "int")))) ∷ [])) (at 84 110) (stmt_and (eval (at 86 98) (call (at 86 98) (ident (at 86 93) (codes "println")) (expr_and (str_lit (at 94 97) (codes "\"n\"")) no_exprs) Plain)) (stmt_and (return_ (at 100 108) (expr_and (int_lit (at 107 108) (codes "1")) no_exprs)) no_stmts))) ∷ (fn (at 112 151) None (nm 117 118 (codes "g")) (sig [] ((param (at 121 124) None (named (at 121 124) None (nm 121 124 (codes "int")))) ∷ [])) (at 125 151) (stmt_and (eval (at 127 139) (call (at 127 139) (ident (at 127 134) (codes "println")) (expr_and (str_lit (at 135 138) (codes "\"g\"")) no_exprs) Plain)) (stmt_and (return_ (at 141 149) (expr_and (int_lit (at 148 149) (codes "1")) no_exprs)) no_stmts))) ∷ (fn (at 153 192) None (nm 158 159 (codes "h")) (sig [] ((param (at 162 165) None (named (at 162 165) None (nm 162 165 (codes "int")))) ∷ [])) (at 166 192) (stmt_and (eval (at 168 180) (call (at 168 180) (ident (at 168 175) (codes "println")) (expr_and (str_lit (at 176 179) (codes "\"h\"")) no_exprs) Plain)) (stmt_and (return_ (at 182 190) (expr_and (int_lit (at 189 190) (codes "1")) no_exprs)) no_stmts))) ∷ (fn (at 194 224) None (nm 199 203 (codes "main")) (sig [] []) (at 206 224) (stmt_and (eval (at 209 222) (call (at 209 222) (ident (at 209 212) (codes "Log")) (expr_and (call (at 213 216) (ident (at 213 214) (codes "g")) no_exprs Plain) (expr_and (call (at 218 221) (ident (at 218 219) (codes "h")) no_exprs Plain) no_exprs)) Plain)) no_stmts)) ∷ []) }

abbrev pub old_text : FileText
old_text = record { text = (codes "package main\n\n//go:fix inline\nfunc Log(a, b int) { println(b, a) }\n\nfunc next() int { println(\"n\"); return 1 }\n\nfunc g() int { println(\"g\"); return 1 }\n\nfunc h() int { println(\"h\"); return 1 }\n\nfunc main() {\n\tLog(g(), h())\n}\n"); tokens = ((tok Keyword 0 7 (codes "package")) ∷ (tok Ident 8 12 (codes "main")) ∷ (tok Inserted 12 12 (codes ";")) ∷ (tok Keyword 30 34 (codes "func")) ∷ (tok Ident 35 38 (codes "Log")) ∷ (tok Operator 38 39 (codes "(")) ∷ (tok Ident 39 40 (codes "a")) ∷ (tok Operator 40 41 (codes ",")) ∷ (tok Ident 42 43 (codes "b")) ∷ (tok Ident 44 47 (codes "int")) ∷ (tok Operator 47 48 (codes ")")) ∷ (tok Operator 49 50 (codes "{")) ∷ (tok Ident 51 58 (codes "println")) ∷ (tok Operator 58 59 (codes "(")) ∷ (tok Ident 59 60 (codes "b")) ∷ (tok Operator 60 61 (codes ",")) ∷ (tok Ident 62 63 (codes "a")) ∷ (tok Operator 63 64 (codes ")")) ∷ (tok Operator 65 66 (codes "}")) ∷ (tok Inserted 66 66 (codes ";")) ∷ (tok Keyword 68 72 (codes "func")) ∷ (tok Ident 73 77 (codes "next")) ∷ (tok Operator 77 78 (codes "(")) ∷ (tok Operator 78 79 (codes ")")) ∷ (tok Ident 80 83 (codes "int")) ∷ (tok Operator 84 85 (codes "{")) ∷ (tok Ident 86 93 (codes "println")) ∷ (tok Operator 93 94 (codes "(")) ∷ (tok Str 94 97 (codes "\"n\"")) ∷ (tok Operator 97 98 (codes ")")) ∷ (tok Operator 98 99 (codes ";")) ∷ (tok Keyword 100 106 (codes "return")) ∷ (tok Integer 107 108 (codes "1")) ∷ (tok Operator 109 110 (codes "}")) ∷ (tok Inserted 110 110 (codes ";")) ∷ (tok Keyword 112 116 (codes "func")) ∷ (tok Ident 117 118 (codes "g")) ∷ (tok Operator 118 119 (codes "(")) ∷ (tok Operator 119 120 (codes ")")) ∷ (tok Ident 121 124 (codes "int")) ∷ (tok Operator 125 126 (codes "{")) ∷ (tok Ident 127 134 (codes "println")) ∷ (tok Operator 134 135 (codes "(")) ∷ (tok Str 135 138 (codes "\"g\"")) ∷ (tok Operator 138 139 (codes ")")) ∷ (tok Operator 139 140 (codes ";")) ∷ (tok Keyword 141 147 (codes "return")) ∷ (tok Integer 148 149 (codes "1")) ∷ (tok Operator 150 151 (codes "}")) ∷ (tok Inserted 151 151 (codes ";")) ∷ (tok Keyword 153 157 (codes "func")) ∷ (tok Ident 158 159 (codes "h")) ∷ (tok Operator 159 160 (codes "(")) ∷ (tok Operator 160 161 (codes ")")) ∷ (tok Ident 162 165 (codes "int")) ∷ (tok Operator 166 167 (codes "{")) ∷ (tok Ident 168 175 (codes "println")) ∷ (tok Operator 175 176 (codes "(")) ∷ (tok Str 176 179 (codes "\"h\"")) ∷ (tok Operator 179 180 (codes ")")) ∷ (tok Operator 180 181 (codes ";")) ∷ (tok Keyword 182 188 (codes "return")) ∷ (tok Integer 189 190 (codes "1")) ∷ (tok Operator 191 192 (codes "}")) ∷ (tok Inserted 192 192 (codes ";")) ∷ (tok Keyword 194 198 (codes "func")) ∷ (tok Ident 199 203 (codes "main")) ∷ (tok Operator 203 204 (codes "(")) ∷ (tok Operator 204 205 (codes ")")) ∷ (tok Operator 206 207 (codes "{")) ∷ (tok Ident 209 212 (codes "Log")) ∷ (tok Operator 212 213 (codes "(")) ∷ (tok Ident 213 214 (codes "g")) ∷ (tok Operator 214 215 (codes "(")) ∷ (tok Operator 215 216 (codes ")")) ∷ (tok Operator 216 217 (codes ",")) ∷ (tok Ident 218 219 (codes "h")) ∷ (tok Operator 219 220 (codes "(")) ∷ (tok Operator 220 221 (codes ")")) ∷ (tok Operator 221 222 (codes ")")) ∷ (tok Inserted 222 222 (codes ";")) ∷ (tok Operator 223 224 (codes "}")) ∷ (tok Inserted 224 224 (codes ";")) ∷ []); comments = ((note 14 29) ∷ []) }

abbrev pub module_ : Module
module_ = record { packages = pack (codes "example.com/m") (codes "main") (source (codes "main.go") file ∷ []) ∷ []; marks = mark 0 0 0 0 ∷ []; texts = ((codes "main.go"), old_text) ∷ [] }

abbrev pub new_text : FileText
new_text = record { text = (codes "package main\n\n//go:fix inline\nfunc Log(a, b int) { println(b, a) }\n\nfunc next() int { println(\"n\"); return 1 }\n\nfunc g() int { println(\"g\"); return 1 }\n\nfunc h() int { println(\"h\"); return 1 }\n\nfunc main() {\n\t{\n\t\ta := g()\n\t\tprintln(h(), a)\n\t}\n}\n"); tokens = ((tok Keyword 0 7 (codes "package")) ∷ (tok Ident 8 12 (codes "main")) ∷ (tok Inserted 12 12 (codes ";")) ∷ (tok Keyword 30 34 (codes "func")) ∷ (tok Ident 35 38 (codes "Log")) ∷ (tok Operator 38 39 (codes "(")) ∷ (tok Ident 39 40 (codes "a")) ∷ (tok Operator 40 41 (codes ",")) ∷ (tok Ident 42 43 (codes "b")) ∷ (tok Ident 44 47 (codes "int")) ∷ (tok Operator 47 48 (codes ")")) ∷ (tok Operator 49 50 (codes "{")) ∷ (tok Ident 51 58 (codes "println")) ∷ (tok Operator 58 59 (codes "(")) ∷ (tok Ident 59 60 (codes "b")) ∷ (tok Operator 60 61 (codes ",")) ∷ (tok Ident 62 63 (codes "a")) ∷ (tok Operator 63 64 (codes ")")) ∷ (tok Operator 65 66 (codes "}")) ∷ (tok Inserted 66 66 (codes ";")) ∷ (tok Keyword 68 72 (codes "func")) ∷ (tok Ident 73 77 (codes "next")) ∷ (tok Operator 77 78 (codes "(")) ∷ (tok Operator 78 79 (codes ")")) ∷ (tok Ident 80 83 (codes "int")) ∷ (tok Operator 84 85 (codes "{")) ∷ (tok Ident 86 93 (codes "println")) ∷ (tok Operator 93 94 (codes "(")) ∷ (tok Str 94 97 (codes "\"n\"")) ∷ (tok Operator 97 98 (codes ")")) ∷ (tok Operator 98 99 (codes ";")) ∷ (tok Keyword 100 106 (codes "return")) ∷ (tok Integer 107 108 (codes "1")) ∷ (tok Operator 109 110 (codes "}")) ∷ (tok Inserted 110 110 (codes ";")) ∷ (tok Keyword 112 116 (codes "func")) ∷ (tok Ident 117 118 (codes "g")) ∷ (tok Operator 118 119 (codes "(")) ∷ (tok Operator 119 120 (codes ")")) ∷ (tok Ident 121 124 (codes "int")) ∷ (tok Operator 125 126 (codes "{")) ∷ (tok Ident 127 134 (codes "println")) ∷ (tok Operator 134 135 (codes "(")) ∷ (tok Str 135 138 (codes "\"g\"")) ∷ (tok Operator 138 139 (codes ")")) ∷ (tok Operator 139 140 (codes ";")) ∷ (tok Keyword 141 147 (codes "return")) ∷ (tok Integer 148 149 (codes "1")) ∷ (tok Operator 150 151 (codes "}")) ∷ (tok Inserted 151 151 (codes ";")) ∷ (tok Keyword 153 157 (codes "func")) ∷ (tok Ident 158 159 (codes "h")) ∷ (tok Operator 159 160 (codes "(")) ∷ (tok Operator 160 161 (codes ")")) ∷ (tok Ident 162 165 (codes "int")) ∷ (tok Operator 166 167 (codes "{")) ∷ (tok Ident 168 175 (codes "println")) ∷ (tok Operator 175 176 (codes "(")) ∷ (tok Str 176 179 (codes "\"h\"")) ∷ (tok Operator 179 180 (codes ")")) ∷ (tok Operator 180 181 (codes ";")) ∷ (tok Keyword 182 188 (codes "return")) ∷ (tok Integer 189 190 (codes "1")) ∷ (tok Operator 191 192 (codes "}")) ∷ (tok Inserted 192 192 (codes ";")) ∷ (tok Keyword 194 198 (codes "func")) ∷ (tok Ident 199 203 (codes "main")) ∷ (tok Operator 203 204 (codes "(")) ∷ (tok Operator 204 205 (codes ")")) ∷ (tok Operator 206 207 (codes "{")) ∷ (tok Operator 209 210 (codes "{")) ∷ (tok Ident 213 214 (codes "a")) ∷ (tok Operator 215 217 (codes ":=")) ∷ (tok Ident 218 219 (codes "g")) ∷ (tok Operator 219 220 (codes "(")) ∷ (tok Operator 220 221 (codes ")")) ∷ (tok Inserted 221 221 (codes ";")) ∷ (tok Ident 224 231 (codes "println")) ∷ (tok Operator 231 232 (codes "(")) ∷ (tok Ident 232 233 (codes "h")) ∷ (tok Operator 233 234 (codes "(")) ∷ (tok Operator 234 235 (codes ")")) ∷ (tok Operator 235 236 (codes ",")) ∷ (tok Ident 237 238 (codes "a")) ∷ (tok Operator 238 239 (codes ")")) ∷ (tok Inserted 239 239 (codes ";")) ∷ (tok Operator 241 242 (codes "}")) ∷ (tok Inserted 242 242 (codes ";")) ∷ (tok Operator 243 244 (codes "}")) ∷ (tok Inserted 244 244 (codes ";")) ∷ []); comments = ((note 14 29) ∷ []) }

abbrev pub new_tree : File At
new_tree = record { package_name = (nmf 8 12 8 12 (codes "main")); imports = []; decls = ((fn (from 30 66 30 66) None (nmf 35 38 35 38 (codes "Log")) (sig ((param (from 39 47 39 47) (Some (nmf 39 40 39 40 (codes "a"))) (named (from 44 47 44 47) None (nmf 44 47 44 47 (codes "int")))) ∷ (param (from 42 47 42 47) (Some (nmf 42 43 42 43 (codes "b"))) (named (from 44 47 44 47) None (nmf 44 47 44 47 (codes "int")))) ∷ []) []) (from 49 66 49 66) (stmt_and (eval (from 51 64 51 64) (call (from 51 64 51 64) (ident (from 51 58 51 58) (codes "println")) (expr_and (ident (from 59 60 59 60) (codes "b")) (expr_and (ident (from 62 63 62 63) (codes "a")) no_exprs)) Plain)) no_stmts)) ∷ (fn (from 68 110 68 110) None (nmf 73 77 73 77 (codes "next")) (sig [] ((param (from 80 83 80 83) None (named (from 80 83 80 83) None (nmf 80 83 80 83 (codes "int")))) ∷ [])) (from 84 110 84 110) (stmt_and (eval (from 86 98 86 98) (call (from 86 98 86 98) (ident (from 86 93 86 93) (codes "println")) (expr_and (str_lit (from 94 97 94 97) (codes "\"n\"")) no_exprs) Plain)) (stmt_and (return_ (from 100 108 100 108) (expr_and (int_lit (from 107 108 107 108) (codes "1")) no_exprs)) no_stmts))) ∷ (fn (from 112 151 112 151) None (nmf 117 118 117 118 (codes "g")) (sig [] ((param (from 121 124 121 124) None (named (from 121 124 121 124) None (nmf 121 124 121 124 (codes "int")))) ∷ [])) (from 125 151 125 151) (stmt_and (eval (from 127 139 127 139) (call (from 127 139 127 139) (ident (from 127 134 127 134) (codes "println")) (expr_and (str_lit (from 135 138 135 138) (codes "\"g\"")) no_exprs) Plain)) (stmt_and (return_ (from 141 149 141 149) (expr_and (int_lit (from 148 149 148 149) (codes "1")) no_exprs)) no_stmts))) ∷ (fn (from 153 192 153 192) None (nmf 158 159 158 159 (codes "h")) (sig [] ((param (from 162 165 162 165) None (named (from 162 165 162 165) None (nmf 162 165 162 165 (codes "int")))) ∷ [])) (from 166 192 166 192) (stmt_and (eval (from 168 180 168 180) (call (from 168 180 168 180) (ident (from 168 175 168 175) (codes "println")) (expr_and (str_lit (from 176 179 176 179) (codes "\"h\"")) no_exprs) Plain)) (stmt_and (return_ (from 182 190 182 190) (expr_and (int_lit (from 189 190 189 190) (codes "1")) no_exprs)) no_stmts))) ∷ (fn (from 194 244 194 224) None (nmf 199 203 199 203 (codes "main")) (sig [] []) (from 206 244 206 224) (stmt_and (inner (from 209 242 209 222) (stmt_and (define (from 213 221 209 222) ((nmf 213 214 209 222 (codes "a")) ∷ []) (expr_and (call (from 218 221 213 216) (ident (from 218 219 213 214) (codes "g")) no_exprs Plain) no_exprs)) (stmt_and (eval (from 224 239 209 222) (call (from 224 239 209 222) (ident (from 224 231 209 222) (codes "println")) (expr_and (call (from 232 235 218 221) (ident (from 232 233 218 219) (codes "h")) no_exprs Plain) (expr_and (ident (from 237 238 209 222) (codes "a")) no_exprs)) Plain)) no_stmts))) no_stmts)) ∷ []) }

abbrev pub start : Standing
start = standing_as_read module_.packages module_.texts

pub steps : is_some (step_in module_.marks start) ≡ true
unfolding passes keyword_spellings is_inline digits
steps = refl

new_tokens : TokensOf new_text.text new_text.tokens new_text.comments
unfolding piece_of lexeme_of longest_from next_of tokens_from comments_from keyword_spellings is_letter is_digit general_category general_category_rows value_in lib.Utf8.encode
new_tokens = tokens_by new_text.text new_text.tokens new_text.comments refl refl refl

abbrev pub after : Standing
after = stands_after module_.marks start steps old_text new_text new_tree

abbrev pub entry : Logged
entry = log_entry module_.marks start steps old_text new_text new_tree

-- the step of the run
pub the_next : Next module_.marks start entry after
unfolding passes keyword_spellings is_inline digits reading steps
the_next = next_by module_.marks start steps old_text new_text new_tree refl refl new_tokens refl refl
