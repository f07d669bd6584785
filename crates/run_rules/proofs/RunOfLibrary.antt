-- The run over a library and its callers, whole.
use Rattle.std.proofs.Common.{◌≡◌, refl}
use Rattle.std.specs.Prelude.{true, false, [], ◌∷◌, Some, None, codes}
use Rattle.go_tree.specs.declared.exprs.Rest.TheVariants.{Plain}
use Rattle.go_tree.specs.declared.spans.Span.{Span}
use Rattle.go_tree.specs.declared.tokens.TokenKind.TheVariants.{Ident, Keyword, Operator, Integer, Str, Inserted}
use Rattle.go_tree.specs.declared.operators.BinOp.TheVariants.{Add, Lt}
use Rattle.go_tree.specs.Tree.{named, slice_type, struct_type, no_fields, field, ident, int_lit, str_lit, composite, selector, index, call, binary, no_exprs, expr_and, some_expr, no_elems, elem, plain, braced, no_value, const_decl, eval, step, assign, define, return_, inner, if_, for_, range_, no_stmts, stmt_and, no_stmt, some_stmt, some_block, defines, no_arms, arm, no_specs, spec}
use Rattle.go_tree.specs.File.{File, values, types}
use Rattle.run_rules.specs.FormTrees.{ConstForm, TypeForm, ExprForm, BlockForm}
use Rattle.run_rules.proofs.CaseTools.{at, nm, tok, note, param, sig, imp, imps, tspec, fn, pack, source, mark, Module}
use Rattle.go_layout.specs.SpellsSpans.{span_to}
use Rattle.go_tree.specs.GoWords.Terminals.{lexemes}
use Rattle.go_tree.specs.GoWords.Tokens.Pieces.{keyword_spellings}
use Rattle.go_layout.specs.Goals.{read_front}
use Rattle.go_layout.proofs.Texts.{reading}
use Rattle.run_rules.proofs.CaseTools.{read_at}
use Rattle.directive_scan.specs.Lines.{is_inline}
use Rattle.pkg_graph.specs.ModuleFiles.Internal.{passes}
use Rattle.std.specs.Prelude.{is_some}
use Rattle.run_rules.specs.Texts.{FileText}
use Rattle.run_rules.specs.Respanned.{file_with}
use Rattle.run_rules.specs.Steps.{At}
use Rattle.run_rules.specs.Marks.{marks_of}
use Rattle.run_rules.specs.Run.{Standing, Logged, as_read, Next, step_in, goes_on, ends, the_limits}
use Rattle.run_rules.specs.Run as run
use Rattle.go_layout.proofs.Whole.{file_spelled}
use Rattle.std.specs.Fmt.{digits}
use Rattle.run_rules.specs.Inlining.{standing_as_read, begins, steps_on, IsInlining}
use Rattle.run_rules.proofs.CaseTools.{from, nmf}
use Rattle.run_rules.proofs.Instances.{next_by, kept_by, inlining_by}
use Rattle.run_rules.proofs.ModulesRead.{module_by, module_text, folder, library_module, library_module_is}
use Rattle.go_tree.specs.GoWords.Tokens.{TokensOf}
use Rattle.ucd_category.specs.GeneralCategory.{general_category}
use Rattle.ucd_category.specs.GeneralCategoryRows.{general_category_rows}
use Rattle.ucd_table.specs.Rows.{value_in}
use Rattle.go_tree.specs.GoWords.Tokens.{tokens_from, comments_from}
use Rattle.go_tree.specs.GoWords.Tokens.Characters.{is_letter, is_digit}
use Rattle.directive_scan.specs.Automaton.{next_of, longest_from}
use Rattle.directive_scan.specs.Pieces.{piece_of, lexeme_of}
use Rattle.run_rules.proofs.TokensFound.{tokens_by}

-- A library of three packages and its callers: seven steps, and the report in its order.
abbrev library_f0 : File Span
library_f0 = record { package_name = (nm 8 12 (codes "main")); imports = ((imps (at 14 43) true ((imp (at 24 41) None (codes "example.com/lib")) ∷ [])) ∷ []); decls = ((fn (at 45 115) None (nm 50 54 (codes "load")) (sig [] ((param (at 57 66) None (slice_type (at 57 66) (named (at 59 66) (Some (nm 59 62 (codes "lib"))) (nm 63 66 (codes "Row"))))) ∷ [])) (at 67 115) (stmt_and (return_ (at 70 101) (expr_and (composite (at 77 101) (slice_type (at 77 86) (named (at 79 86) (Some (nm 79 82 (codes "lib"))) (nm 83 86 (codes "Row")))) (elem (at 87 92) no_value (braced (at 87 92) (elem (at 88 91) no_value (plain (str_lit (at 88 91) (codes "\"a\""))) no_elems)) (elem (at 94 100) no_value (braced (at 94 100) (elem (at 95 99) no_value (plain (str_lit (at 95 99) (codes "\"bc\""))) no_elems)) no_elems))) no_exprs)) no_stmts)) ∷ (fn (at 117 273) None (nm 122 126 (codes "main")) (sig [] []) (at 129 273) (stmt_and (define (at 132 146) ((nm 132 136 (codes "rows")) ∷ []) (expr_and (call (at 140 146) (ident (at 140 144) (codes "load")) no_exprs Plain) no_exprs)) (stmt_and (for_ (at 148 226) (some_stmt (define (at 152 158) ((nm 152 153 (codes "i")) ∷ []) (expr_and (int_lit (at 157 158) (codes "0")) no_exprs))) (some_expr (binary (at 160 165) Lt (ident (at 160 161) (codes "i")) (int_lit (at 164 165) (codes "2")))) (some_stmt (step (at 167 170) (ident (at 167 168) (codes "i")) true)) (at 171 226) (stmt_and (eval (at 175 223) (call (at 175 223) (ident (at 175 182) (codes "println")) (expr_and (call (at 183 222) (selector (at 183 194) (ident (at 183 186) (codes "lib")) (nm 187 194 (codes "PadLeft"))) (expr_and (selector (at 195 207) (index (at 195 202) (ident (at 195 199) (codes "rows")) (ident (at 200 201) (codes "i"))) (nm 203 207 (codes "Body"))) (expr_and (selector (at 209 221) (ident (at 209 212) (codes "lib")) (nm 213 221 (codes "MaxWidth"))) no_exprs)) Plain) no_exprs) Plain)) no_stmts)) (stmt_and (eval (at 228 245) (call (at 228 245) (selector (at 228 236) (ident (at 228 231) (codes "lib")) (nm 232 236 (codes "Show"))) (expr_and (ident (at 237 241) (codes "rows")) (expr_and (int_lit (at 243 244) (codes "4")) no_exprs)) Plain)) (stmt_and (eval (at 247 271) (call (at 247 271) (ident (at 247 254) (codes "println")) (expr_and (call (at 255 270) (selector (at 255 264) (ident (at 255 258) (codes "lib")) (nm 259 264 (codes "Total"))) (expr_and (ident (at 265 269) (codes "rows")) no_exprs) Plain) no_exprs) Plain)) no_stmts))))) ∷ []) }

abbrev library_f1 : File Span
library_f1 = record { package_name = (nm 44 47 (codes "lib")); imports = ((imps (at 49 78) false ((imp (at 56 78) None (codes "example.com/lib/text")) ∷ [])) ∷ []); decls = ((values (const_decl (at 80 171) true (spec (at 137 157) ((nm 137 145 (codes "MaxWidth")) ∷ []) None (expr_and (selector (at 148 157) (ident (at 148 152) (codes "text")) (nm 153 157 (codes "Wide"))) no_exprs) (spec (at 160 169) ((nm 160 165 (codes "limit")) ∷ []) None (expr_and (int_lit (at 168 169) (codes "3")) no_exprs) no_specs)))) ∷ (types (at 222 242) false ((tspec (at 227 242) (nm 227 230 (codes "Row")) true (named (at 233 242) (Some (nm 233 237 (codes "text"))) (nm 238 242 (codes "Line")))) ∷ [])) ∷ (fn (at 292 361) None (nm 297 304 (codes "PadLeft")) (sig ((param (at 305 313) (Some (nm 305 306 (codes "s"))) (named (at 307 313) None (nm 307 313 (codes "string")))) ∷ (param (at 315 320) (Some (nm 315 316 (codes "n"))) (named (at 317 320) None (nm 317 320 (codes "int")))) ∷ []) ((param (at 322 328) None (named (at 322 328) None (nm 322 328 (codes "string")))) ∷ [])) (at 329 361) (stmt_and (return_ (at 332 359) (expr_and (call (at 339 359) (selector (at 339 347) (ident (at 339 343) (codes "text")) (nm 344 347 (codes "Pad"))) (expr_and (ident (at 348 349) (codes "s")) (expr_and (ident (at 351 352) (codes "n")) (expr_and (ident (at 354 358) (codes "true")) no_exprs))) Plain) no_exprs)) no_stmts)) ∷ (fn (at 411 497) None (nm 416 420 (codes "Show")) (sig ((param (at 421 431) (Some (nm 421 425 (codes "rows"))) (slice_type (at 426 431) (named (at 428 431) None (nm 428 431 (codes "Row"))))) ∷ (param (at 433 442) (Some (nm 433 438 (codes "width"))) (named (at 439 442) None (nm 439 442 (codes "int")))) ∷ []) []) (at 444 497) (stmt_and (range_ (at 447 495) (defines ((nm 451 452 (codes "_")) ∷ (nm 454 455 (codes "r")) ∷ [])) (ident (at 465 469) (codes "rows")) (at 470 495) (stmt_and (eval (at 474 492) (call (at 474 492) (selector (at 474 482) (ident (at 474 478) (codes "text")) (nm 479 482 (codes "Put"))) (expr_and (ident (at 483 484) (codes "r")) (expr_and (ident (at 486 491) (codes "width")) no_exprs)) Plain)) no_stmts)) no_stmts)) ∷ (fn (at 517 617) None (nm 522 527 (codes "Total")) (sig ((param (at 528 538) (Some (nm 528 532 (codes "rows"))) (slice_type (at 533 538) (named (at 535 538) None (nm 535 538 (codes "Row"))))) ∷ []) ((param (at 540 543) None (named (at 540 543) None (nm 540 543 (codes "int")))) ∷ [])) (at 544 617) (stmt_and (define (at 547 557) ((nm 547 548 (codes "t")) ∷ []) (expr_and (ident (at 552 557) (codes "limit")) no_exprs)) (stmt_and (range_ (at 559 605) (defines ((nm 563 564 (codes "_")) ∷ (nm 566 567 (codes "r")) ∷ [])) (ident (at 577 581) (codes "rows")) (at 582 605) (stmt_and (assign (at 586 602) (expr_and (ident (at 586 587) (codes "t")) no_exprs) (Some Add) (expr_and (call (at 591 602) (ident (at 591 594) (codes "len")) (expr_and (selector (at 595 601) (ident (at 595 596) (codes "r")) (nm 597 601 (codes "Body"))) no_exprs) Plain) no_exprs)) no_stmts)) (stmt_and (return_ (at 607 615) (expr_and (ident (at 614 615) (codes "t")) no_exprs)) no_stmts)))) ∷ []) }

abbrev library_f2 : File Span
library_f2 = record { package_name = (nm 8 12 (codes "text")); imports = []; decls = ((values (const_decl (at 14 28) false (spec (at 20 28) ((nm 20 24 (codes "Wide")) ∷ []) None (expr_and (int_lit (at 27 28) (codes "8")) no_exprs) no_specs))) ∷ (types (at 30 63) false ((tspec (at 35 63) (nm 35 39 (codes "Line")) false (struct_type (at 40 63) (field (at 50 61) (nm 50 54 (codes "Body")) (named (at 55 61) None (nm 55 61 (codes "string"))) no_fields))) ∷ [])) ∷ (fn (at 65 197) None (nm 70 73 (codes "Pad")) (sig ((param (at 74 82) (Some (nm 74 75 (codes "s"))) (named (at 76 82) None (nm 76 82 (codes "string")))) ∷ (param (at 84 89) (Some (nm 84 85 (codes "n"))) (named (at 86 89) None (nm 86 89 (codes "int")))) ∷ (param (at 91 100) (Some (nm 91 95 (codes "left"))) (named (at 96 100) None (nm 96 100 (codes "bool")))) ∷ []) ((param (at 102 108) None (named (at 102 108) None (nm 102 108 (codes "string")))) ∷ [])) (at 109 197) (stmt_and (for_ (at 112 185) no_stmt (some_expr (binary (at 116 126) Lt (call (at 116 122) (ident (at 116 119) (codes "len")) (expr_and (ident (at 120 121) (codes "s")) no_exprs) Plain) (ident (at 125 126) (codes "n")))) no_stmt (at 127 185) (stmt_and (if_ (at 131 182) (arm (at 131 159) no_stmt (ident (at 134 138) (codes "left")) (at 139 159) (stmt_and (assign (at 144 155) (expr_and (ident (at 144 145) (codes "s")) no_exprs) None (expr_and (binary (at 148 155) Add (str_lit (at 148 151) (codes "\" \"")) (ident (at 154 155) (codes "s"))) no_exprs)) no_stmts) no_arms) (some_block (at 165 182) (stmt_and (assign (at 170 178) (expr_and (ident (at 170 171) (codes "s")) no_exprs) (Some Add) (expr_and (str_lit (at 175 178) (codes "\" \"")) no_exprs)) no_stmts))) no_stmts)) (stmt_and (return_ (at 187 195) (expr_and (ident (at 194 195) (codes "s")) no_exprs)) no_stmts))) ∷ (fn (at 199 266) None (nm 204 207 (codes "Put")) (sig ((param (at 208 214) (Some (nm 208 209 (codes "l"))) (named (at 210 214) None (nm 210 214 (codes "Line")))) ∷ (param (at 216 225) (Some (nm 216 221 (codes "width"))) (named (at 222 225) None (nm 222 225 (codes "int")))) ∷ []) []) (at 227 266) (stmt_and (eval (at 230 264) (call (at 230 264) (ident (at 230 237) (codes "println")) (expr_and (call (at 238 263) (ident (at 238 241) (codes "Pad")) (expr_and (selector (at 242 248) (ident (at 242 243) (codes "l")) (nm 244 248 (codes "Body"))) (expr_and (ident (at 250 255) (codes "width")) (expr_and (ident (at 257 262) (codes "false")) no_exprs))) Plain) no_exprs) Plain)) no_stmts)) ∷ []) }

abbrev library : Module
library = record { packages = (pack (codes "example.com/lib/cmd") (codes "main") (source (codes "cmd/main.go") library_f0 ∷ []) ∷ pack (codes "example.com/lib") (codes "lib") (source (codes "lib.go") library_f1 ∷ []) ∷ pack (codes "example.com/lib/text") (codes "text") (source (codes "text/text.go") library_f2 ∷ []) ∷ []); marks = (mark 1 0 0 0 ∷ mark 1 0 1 0 ∷ mark 1 0 2 0 ∷ mark 1 0 3 0 ∷ []); texts = (((codes "cmd/main.go"), record { text = (codes "package main\n\nimport (\n\t\"example.com/lib\"\n)\n\nfunc load() []lib.Row {\n\treturn []lib.Row{{\"a\"}, {\"bc\"}} // two rows\n}\n\nfunc main() {\n\trows := load()\n\tfor i := 0; i < 2; i++ {\n\t\tprintln(lib.PadLeft(rows[i].Body, lib.MaxWidth))\n\t}\n\tlib.Show(rows, 4)\n\tprintln(lib.Total(rows))\n}\n"); tokens = ((tok Keyword 0 7 (codes "package")) ∷ (tok Ident 8 12 (codes "main")) ∷ (tok Inserted 12 12 (codes ";")) ∷ (tok Keyword 14 20 (codes "import")) ∷ (tok Operator 21 22 (codes "(")) ∷ (tok Str 24 41 (codes "\"example.com/lib\"")) ∷ (tok Inserted 41 41 (codes ";")) ∷ (tok Operator 42 43 (codes ")")) ∷ (tok Inserted 43 43 (codes ";")) ∷ (tok Keyword 45 49 (codes "func")) ∷ (tok Ident 50 54 (codes "load")) ∷ (tok Operator 54 55 (codes "(")) ∷ (tok Operator 55 56 (codes ")")) ∷ (tok Operator 57 58 (codes "[")) ∷ (tok Operator 58 59 (codes "]")) ∷ (tok Ident 59 62 (codes "lib")) ∷ (tok Operator 62 63 (codes ".")) ∷ (tok Ident 63 66 (codes "Row")) ∷ (tok Operator 67 68 (codes "{")) ∷ (tok Keyword 70 76 (codes "return")) ∷ (tok Operator 77 78 (codes "[")) ∷ (tok Operator 78 79 (codes "]")) ∷ (tok Ident 79 82 (codes "lib")) ∷ (tok Operator 82 83 (codes ".")) ∷ (tok Ident 83 86 (codes "Row")) ∷ (tok Operator 86 87 (codes "{")) ∷ (tok Operator 87 88 (codes "{")) ∷ (tok Str 88 91 (codes "\"a\"")) ∷ (tok Operator 91 92 (codes "}")) ∷ (tok Operator 92 93 (codes ",")) ∷ (tok Operator 94 95 (codes "{")) ∷ (tok Str 95 99 (codes "\"bc\"")) ∷ (tok Operator 99 100 (codes "}")) ∷ (tok Operator 100 101 (codes "}")) ∷ (tok Inserted 101 101 (codes ";")) ∷ (tok Operator 114 115 (codes "}")) ∷ (tok Inserted 115 115 (codes ";")) ∷ (tok Keyword 117 121 (codes "func")) ∷ (tok Ident 122 126 (codes "main")) ∷ (tok Operator 126 127 (codes "(")) ∷ (tok Operator 127 128 (codes ")")) ∷ (tok Operator 129 130 (codes "{")) ∷ (tok Ident 132 136 (codes "rows")) ∷ (tok Operator 137 139 (codes ":=")) ∷ (tok Ident 140 144 (codes "load")) ∷ (tok Operator 144 145 (codes "(")) ∷ (tok Operator 145 146 (codes ")")) ∷ (tok Inserted 146 146 (codes ";")) ∷ (tok Keyword 148 151 (codes "for")) ∷ (tok Ident 152 153 (codes "i")) ∷ (tok Operator 154 156 (codes ":=")) ∷ (tok Integer 157 158 (codes "0")) ∷ (tok Operator 158 159 (codes ";")) ∷ (tok Ident 160 161 (codes "i")) ∷ (tok Operator 162 163 (codes "<")) ∷ (tok Integer 164 165 (codes "2")) ∷ (tok Operator 165 166 (codes ";")) ∷ (tok Ident 167 168 (codes "i")) ∷ (tok Operator 168 170 (codes "++")) ∷ (tok Operator 171 172 (codes "{")) ∷ (tok Ident 175 182 (codes "println")) ∷ (tok Operator 182 183 (codes "(")) ∷ (tok Ident 183 186 (codes "lib")) ∷ (tok Operator 186 187 (codes ".")) ∷ (tok Ident 187 194 (codes "PadLeft")) ∷ (tok Operator 194 195 (codes "(")) ∷ (tok Ident 195 199 (codes "rows")) ∷ (tok Operator 199 200 (codes "[")) ∷ (tok Ident 200 201 (codes "i")) ∷ (tok Operator 201 202 (codes "]")) ∷ (tok Operator 202 203 (codes ".")) ∷ (tok Ident 203 207 (codes "Body")) ∷ (tok Operator 207 208 (codes ",")) ∷ (tok Ident 209 212 (codes "lib")) ∷ (tok Operator 212 213 (codes ".")) ∷ (tok Ident 213 221 (codes "MaxWidth")) ∷ (tok Operator 221 222 (codes ")")) ∷ (tok Operator 222 223 (codes ")")) ∷ (tok Inserted 223 223 (codes ";")) ∷ (tok Operator 225 226 (codes "}")) ∷ (tok Inserted 226 226 (codes ";")) ∷ (tok Ident 228 231 (codes "lib")) ∷ (tok Operator 231 232 (codes ".")) ∷ (tok Ident 232 236 (codes "Show")) ∷ (tok Operator 236 237 (codes "(")) ∷ (tok Ident 237 241 (codes "rows")) ∷ (tok Operator 241 242 (codes ",")) ∷ (tok Integer 243 244 (codes "4")) ∷ (tok Operator 244 245 (codes ")")) ∷ (tok Inserted 245 245 (codes ";")) ∷ (tok Ident 247 254 (codes "println")) ∷ (tok Operator 254 255 (codes "(")) ∷ (tok Ident 255 258 (codes "lib")) ∷ (tok Operator 258 259 (codes ".")) ∷ (tok Ident 259 264 (codes "Total")) ∷ (tok Operator 264 265 (codes "(")) ∷ (tok Ident 265 269 (codes "rows")) ∷ (tok Operator 269 270 (codes ")")) ∷ (tok Operator 270 271 (codes ")")) ∷ (tok Inserted 271 271 (codes ";")) ∷ (tok Operator 272 273 (codes "}")) ∷ (tok Inserted 273 273 (codes ";")) ∷ []); comments = ((note 102 113) ∷ []) }) ∷ ((codes "lib.go"), record { text = (codes "// Package lib keeps the old names.\npackage lib\n\nimport \"example.com/lib/text\"\n\nconst (\n\t// Deprecated: use text.Wide.\n\t//go:fix inline\n\tMaxWidth = text.Wide\n\n\tlimit = 3\n)\n\n// Deprecated: use text.Line.\n//\n//go:fix inline\ntype Row = text.Line\n\n// Deprecated: use text.Pad.\n//\n//go:fix inline\nfunc PadLeft(s string, n int) string {\n\treturn text.Pad(s, n, true)\n}\n\n// Deprecated: use text.Put.\n//\n//go:fix inline\nfunc Show(rows []Row, width int) {\n\tfor _, r := range rows {\n\t\ttext.Put(r, width)\n\t}\n}\n\n// Total is kept.\nfunc Total(rows []Row) int {\n\tt := limit\n\tfor _, r := range rows {\n\t\tt += len(r.Body)\n\t}\n\treturn t\n}\n"); tokens = ((tok Keyword 36 43 (codes "package")) ∷ (tok Ident 44 47 (codes "lib")) ∷ (tok Inserted 47 47 (codes ";")) ∷ (tok Keyword 49 55 (codes "import")) ∷ (tok Str 56 78 (codes "\"example.com/lib/text\"")) ∷ (tok Inserted 78 78 (codes ";")) ∷ (tok Keyword 80 85 (codes "const")) ∷ (tok Operator 86 87 (codes "(")) ∷ (tok Ident 137 145 (codes "MaxWidth")) ∷ (tok Operator 146 147 (codes "=")) ∷ (tok Ident 148 152 (codes "text")) ∷ (tok Operator 152 153 (codes ".")) ∷ (tok Ident 153 157 (codes "Wide")) ∷ (tok Inserted 157 157 (codes ";")) ∷ (tok Ident 160 165 (codes "limit")) ∷ (tok Operator 166 167 (codes "=")) ∷ (tok Integer 168 169 (codes "3")) ∷ (tok Inserted 169 169 (codes ";")) ∷ (tok Operator 170 171 (codes ")")) ∷ (tok Inserted 171 171 (codes ";")) ∷ (tok Keyword 222 226 (codes "type")) ∷ (tok Ident 227 230 (codes "Row")) ∷ (tok Operator 231 232 (codes "=")) ∷ (tok Ident 233 237 (codes "text")) ∷ (tok Operator 237 238 (codes ".")) ∷ (tok Ident 238 242 (codes "Line")) ∷ (tok Inserted 242 242 (codes ";")) ∷ (tok Keyword 292 296 (codes "func")) ∷ (tok Ident 297 304 (codes "PadLeft")) ∷ (tok Operator 304 305 (codes "(")) ∷ (tok Ident 305 306 (codes "s")) ∷ (tok Ident 307 313 (codes "string")) ∷ (tok Operator 313 314 (codes ",")) ∷ (tok Ident 315 316 (codes "n")) ∷ (tok Ident 317 320 (codes "int")) ∷ (tok Operator 320 321 (codes ")")) ∷ (tok Ident 322 328 (codes "string")) ∷ (tok Operator 329 330 (codes "{")) ∷ (tok Keyword 332 338 (codes "return")) ∷ (tok Ident 339 343 (codes "text")) ∷ (tok Operator 343 344 (codes ".")) ∷ (tok Ident 344 347 (codes "Pad")) ∷ (tok Operator 347 348 (codes "(")) ∷ (tok Ident 348 349 (codes "s")) ∷ (tok Operator 349 350 (codes ",")) ∷ (tok Ident 351 352 (codes "n")) ∷ (tok Operator 352 353 (codes ",")) ∷ (tok Ident 354 358 (codes "true")) ∷ (tok Operator 358 359 (codes ")")) ∷ (tok Inserted 359 359 (codes ";")) ∷ (tok Operator 360 361 (codes "}")) ∷ (tok Inserted 361 361 (codes ";")) ∷ (tok Keyword 411 415 (codes "func")) ∷ (tok Ident 416 420 (codes "Show")) ∷ (tok Operator 420 421 (codes "(")) ∷ (tok Ident 421 425 (codes "rows")) ∷ (tok Operator 426 427 (codes "[")) ∷ (tok Operator 427 428 (codes "]")) ∷ (tok Ident 428 431 (codes "Row")) ∷ (tok Operator 431 432 (codes ",")) ∷ (tok Ident 433 438 (codes "width")) ∷ (tok Ident 439 442 (codes "int")) ∷ (tok Operator 442 443 (codes ")")) ∷ (tok Operator 444 445 (codes "{")) ∷ (tok Keyword 447 450 (codes "for")) ∷ (tok Ident 451 452 (codes "_")) ∷ (tok Operator 452 453 (codes ",")) ∷ (tok Ident 454 455 (codes "r")) ∷ (tok Operator 456 458 (codes ":=")) ∷ (tok Keyword 459 464 (codes "range")) ∷ (tok Ident 465 469 (codes "rows")) ∷ (tok Operator 470 471 (codes "{")) ∷ (tok Ident 474 478 (codes "text")) ∷ (tok Operator 478 479 (codes ".")) ∷ (tok Ident 479 482 (codes "Put")) ∷ (tok Operator 482 483 (codes "(")) ∷ (tok Ident 483 484 (codes "r")) ∷ (tok Operator 484 485 (codes ",")) ∷ (tok Ident 486 491 (codes "width")) ∷ (tok Operator 491 492 (codes ")")) ∷ (tok Inserted 492 492 (codes ";")) ∷ (tok Operator 494 495 (codes "}")) ∷ (tok Inserted 495 495 (codes ";")) ∷ (tok Operator 496 497 (codes "}")) ∷ (tok Inserted 497 497 (codes ";")) ∷ (tok Keyword 517 521 (codes "func")) ∷ (tok Ident 522 527 (codes "Total")) ∷ (tok Operator 527 528 (codes "(")) ∷ (tok Ident 528 532 (codes "rows")) ∷ (tok Operator 533 534 (codes "[")) ∷ (tok Operator 534 535 (codes "]")) ∷ (tok Ident 535 538 (codes "Row")) ∷ (tok Operator 538 539 (codes ")")) ∷ (tok Ident 540 543 (codes "int")) ∷ (tok Operator 544 545 (codes "{")) ∷ (tok Ident 547 548 (codes "t")) ∷ (tok Operator 549 551 (codes ":=")) ∷ (tok Ident 552 557 (codes "limit")) ∷ (tok Inserted 557 557 (codes ";")) ∷ (tok Keyword 559 562 (codes "for")) ∷ (tok Ident 563 564 (codes "_")) ∷ (tok Operator 564 565 (codes ",")) ∷ (tok Ident 566 567 (codes "r")) ∷ (tok Operator 568 570 (codes ":=")) ∷ (tok Keyword 571 576 (codes "range")) ∷ (tok Ident 577 581 (codes "rows")) ∷ (tok Operator 582 583 (codes "{")) ∷ (tok Ident 586 587 (codes "t")) ∷ (tok Operator 588 590 (codes "+=")) ∷ (tok Ident 591 594 (codes "len")) ∷ (tok Operator 594 595 (codes "(")) ∷ (tok Ident 595 596 (codes "r")) ∷ (tok Operator 596 597 (codes ".")) ∷ (tok Ident 597 601 (codes "Body")) ∷ (tok Operator 601 602 (codes ")")) ∷ (tok Inserted 602 602 (codes ";")) ∷ (tok Operator 604 605 (codes "}")) ∷ (tok Inserted 605 605 (codes ";")) ∷ (tok Keyword 607 613 (codes "return")) ∷ (tok Ident 614 615 (codes "t")) ∷ (tok Inserted 615 615 (codes ";")) ∷ (tok Operator 616 617 (codes "}")) ∷ (tok Inserted 617 617 (codes ";")) ∷ []); comments = ((note 0 35) ∷ (note 89 118) ∷ (note 120 135) ∷ (note 173 202) ∷ (note 203 205) ∷ (note 206 221) ∷ (note 244 272) ∷ (note 273 275) ∷ (note 276 291) ∷ (note 363 391) ∷ (note 392 394) ∷ (note 395 410) ∷ (note 499 516) ∷ []) }) ∷ ((codes "text/text.go"), record { text = (codes "package text\n\nconst Wide = 8\n\ntype Line struct {\n\tBody string\n}\n\nfunc Pad(s string, n int, left bool) string {\n\tfor len(s) < n {\n\t\tif left {\n\t\t\ts = \" \" + s\n\t\t} else {\n\t\t\ts += \" \"\n\t\t}\n\t}\n\treturn s\n}\n\nfunc Put(l Line, width int) {\n\tprintln(Pad(l.Body, width, false))\n}\n"); tokens = ((tok Keyword 0 7 (codes "package")) ∷ (tok Ident 8 12 (codes "text")) ∷ (tok Inserted 12 12 (codes ";")) ∷ (tok Keyword 14 19 (codes "const")) ∷ (tok Ident 20 24 (codes "Wide")) ∷ (tok Operator 25 26 (codes "=")) ∷ (tok Integer 27 28 (codes "8")) ∷ (tok Inserted 28 28 (codes ";")) ∷ (tok Keyword 30 34 (codes "type")) ∷ (tok Ident 35 39 (codes "Line")) ∷ (tok Keyword 40 46 (codes "struct")) ∷ (tok Operator 47 48 (codes "{")) ∷ (tok Ident 50 54 (codes "Body")) ∷ (tok Ident 55 61 (codes "string")) ∷ (tok Inserted 61 61 (codes ";")) ∷ (tok Operator 62 63 (codes "}")) ∷ (tok Inserted 63 63 (codes ";")) ∷ (tok Keyword 65 69 (codes "func")) ∷ (tok Ident 70 73 (codes "Pad")) ∷ (tok Operator 73 74 (codes "(")) ∷ (tok Ident 74 75 (codes "s")) ∷ (tok Ident 76 82 (codes "string")) ∷ (tok Operator 82 83 (codes ",")) ∷ (tok Ident 84 85 (codes "n")) ∷ (tok Ident 86 89 (codes "int")) ∷ (tok Operator 89 90 (codes ",")) ∷ (tok Ident 91 95 (codes "left")) ∷ (tok Ident 96 100 (codes "bool")) ∷ (tok Operator 100 101 (codes ")")) ∷ (tok Ident 102 108 (codes "string")) ∷ (tok Operator 109 110 (codes "{")) ∷ (tok Keyword 112 115 (codes "for")) ∷ (tok Ident 116 119 (codes "len")) ∷ (tok Operator 119 120 (codes "(")) ∷ (tok Ident 120 121 (codes "s")) ∷ (tok Operator 121 122 (codes ")")) ∷ (tok Operator 123 124 (codes "<")) ∷ (tok Ident 125 126 (codes "n")) ∷ (tok Operator 127 128 (codes "{")) ∷ (tok Keyword 131 133 (codes "if")) ∷ (tok Ident 134 138 (codes "left")) ∷ (tok Operator 139 140 (codes "{")) ∷ (tok Ident 144 145 (codes "s")) ∷ (tok Operator 146 147 (codes "=")) ∷ (tok Str 148 151 (codes "\" \"")) ∷ (tok Operator 152 153 (codes "+")) ∷ (tok Ident 154 155 (codes "s")) ∷ (tok Inserted 155 155 (codes ";")) ∷ (tok Operator 158 159 (codes "}")) ∷ (tok Keyword 160 164 (codes "else")) ∷ (tok Operator 165 166 (codes "{")) ∷ (tok Ident 170 171 (codes "s")) ∷ (tok Operator 172 174 (codes "+=")) ∷ (tok Str 175 178 (codes "\" \"")) ∷ (tok Inserted 178 178 (codes ";")) ∷ (tok Operator 181 182 (codes "}")) ∷ (tok Inserted 182 182 (codes ";")) ∷ (tok Operator 184 185 (codes "}")) ∷ (tok Inserted 185 185 (codes ";")) ∷ (tok Keyword 187 193 (codes "return")) ∷ (tok Ident 194 195 (codes "s")) ∷ (tok Inserted 195 195 (codes ";")) ∷ (tok Operator 196 197 (codes "}")) ∷ (tok Inserted 197 197 (codes ";")) ∷ (tok Keyword 199 203 (codes "func")) ∷ (tok Ident 204 207 (codes "Put")) ∷ (tok Operator 207 208 (codes "(")) ∷ (tok Ident 208 209 (codes "l")) ∷ (tok Ident 210 214 (codes "Line")) ∷ (tok Operator 214 215 (codes ",")) ∷ (tok Ident 216 221 (codes "width")) ∷ (tok Ident 222 225 (codes "int")) ∷ (tok Operator 225 226 (codes ")")) ∷ (tok Operator 227 228 (codes "{")) ∷ (tok Ident 230 237 (codes "println")) ∷ (tok Operator 237 238 (codes "(")) ∷ (tok Ident 238 241 (codes "Pad")) ∷ (tok Operator 241 242 (codes "(")) ∷ (tok Ident 242 243 (codes "l")) ∷ (tok Operator 243 244 (codes ".")) ∷ (tok Ident 244 248 (codes "Body")) ∷ (tok Operator 248 249 (codes ",")) ∷ (tok Ident 250 255 (codes "width")) ∷ (tok Operator 255 256 (codes ",")) ∷ (tok Ident 257 262 (codes "false")) ∷ (tok Operator 262 263 (codes ")")) ∷ (tok Operator 263 264 (codes ")")) ∷ (tok Inserted 264 264 (codes ";")) ∷ (tok Operator 265 266 (codes "}")) ∷ (tok Inserted 266 266 (codes ";")) ∷ []); comments = [] }) ∷ []) }

abbrev library_t0 : FileText
library_t0 = (record { text = (codes "package main\n\nimport (\n\t\"example.com/lib\"\n)\n\nfunc load() []lib.Row {\n\treturn []lib.Row{{\"a\"}, {\"bc\"}} // two rows\n}\n\nfunc main() {\n\trows := load()\n\tfor i := 0; i < 2; i++ {\n\t\tprintln(lib.PadLeft(rows[i].Body, lib.MaxWidth))\n\t}\n\tlib.Show(rows, 4)\n\tprintln(lib.Total(rows))\n}\n"); tokens = ((tok Keyword 0 7 (codes "package")) ∷ (tok Ident 8 12 (codes "main")) ∷ (tok Inserted 12 12 (codes ";")) ∷ (tok Keyword 14 20 (codes "import")) ∷ (tok Operator 21 22 (codes "(")) ∷ (tok Str 24 41 (codes "\"example.com/lib\"")) ∷ (tok Inserted 41 41 (codes ";")) ∷ (tok Operator 42 43 (codes ")")) ∷ (tok Inserted 43 43 (codes ";")) ∷ (tok Keyword 45 49 (codes "func")) ∷ (tok Ident 50 54 (codes "load")) ∷ (tok Operator 54 55 (codes "(")) ∷ (tok Operator 55 56 (codes ")")) ∷ (tok Operator 57 58 (codes "[")) ∷ (tok Operator 58 59 (codes "]")) ∷ (tok Ident 59 62 (codes "lib")) ∷ (tok Operator 62 63 (codes ".")) ∷ (tok Ident 63 66 (codes "Row")) ∷ (tok Operator 67 68 (codes "{")) ∷ (tok Keyword 70 76 (codes "return")) ∷ (tok Operator 77 78 (codes "[")) ∷ (tok Operator 78 79 (codes "]")) ∷ (tok Ident 79 82 (codes "lib")) ∷ (tok Operator 82 83 (codes ".")) ∷ (tok Ident 83 86 (codes "Row")) ∷ (tok Operator 86 87 (codes "{")) ∷ (tok Operator 87 88 (codes "{")) ∷ (tok Str 88 91 (codes "\"a\"")) ∷ (tok Operator 91 92 (codes "}")) ∷ (tok Operator 92 93 (codes ",")) ∷ (tok Operator 94 95 (codes "{")) ∷ (tok Str 95 99 (codes "\"bc\"")) ∷ (tok Operator 99 100 (codes "}")) ∷ (tok Operator 100 101 (codes "}")) ∷ (tok Inserted 101 101 (codes ";")) ∷ (tok Operator 114 115 (codes "}")) ∷ (tok Inserted 115 115 (codes ";")) ∷ (tok Keyword 117 121 (codes "func")) ∷ (tok Ident 122 126 (codes "main")) ∷ (tok Operator 126 127 (codes "(")) ∷ (tok Operator 127 128 (codes ")")) ∷ (tok Operator 129 130 (codes "{")) ∷ (tok Ident 132 136 (codes "rows")) ∷ (tok Operator 137 139 (codes ":=")) ∷ (tok Ident 140 144 (codes "load")) ∷ (tok Operator 144 145 (codes "(")) ∷ (tok Operator 145 146 (codes ")")) ∷ (tok Inserted 146 146 (codes ";")) ∷ (tok Keyword 148 151 (codes "for")) ∷ (tok Ident 152 153 (codes "i")) ∷ (tok Operator 154 156 (codes ":=")) ∷ (tok Integer 157 158 (codes "0")) ∷ (tok Operator 158 159 (codes ";")) ∷ (tok Ident 160 161 (codes "i")) ∷ (tok Operator 162 163 (codes "<")) ∷ (tok Integer 164 165 (codes "2")) ∷ (tok Operator 165 166 (codes ";")) ∷ (tok Ident 167 168 (codes "i")) ∷ (tok Operator 168 170 (codes "++")) ∷ (tok Operator 171 172 (codes "{")) ∷ (tok Ident 175 182 (codes "println")) ∷ (tok Operator 182 183 (codes "(")) ∷ (tok Ident 183 186 (codes "lib")) ∷ (tok Operator 186 187 (codes ".")) ∷ (tok Ident 187 194 (codes "PadLeft")) ∷ (tok Operator 194 195 (codes "(")) ∷ (tok Ident 195 199 (codes "rows")) ∷ (tok Operator 199 200 (codes "[")) ∷ (tok Ident 200 201 (codes "i")) ∷ (tok Operator 201 202 (codes "]")) ∷ (tok Operator 202 203 (codes ".")) ∷ (tok Ident 203 207 (codes "Body")) ∷ (tok Operator 207 208 (codes ",")) ∷ (tok Ident 209 212 (codes "lib")) ∷ (tok Operator 212 213 (codes ".")) ∷ (tok Ident 213 221 (codes "MaxWidth")) ∷ (tok Operator 221 222 (codes ")")) ∷ (tok Operator 222 223 (codes ")")) ∷ (tok Inserted 223 223 (codes ";")) ∷ (tok Operator 225 226 (codes "}")) ∷ (tok Inserted 226 226 (codes ";")) ∷ (tok Ident 228 231 (codes "lib")) ∷ (tok Operator 231 232 (codes ".")) ∷ (tok Ident 232 236 (codes "Show")) ∷ (tok Operator 236 237 (codes "(")) ∷ (tok Ident 237 241 (codes "rows")) ∷ (tok Operator 241 242 (codes ",")) ∷ (tok Integer 243 244 (codes "4")) ∷ (tok Operator 244 245 (codes ")")) ∷ (tok Inserted 245 245 (codes ";")) ∷ (tok Ident 247 254 (codes "println")) ∷ (tok Operator 254 255 (codes "(")) ∷ (tok Ident 255 258 (codes "lib")) ∷ (tok Operator 258 259 (codes ".")) ∷ (tok Ident 259 264 (codes "Total")) ∷ (tok Operator 264 265 (codes "(")) ∷ (tok Ident 265 269 (codes "rows")) ∷ (tok Operator 269 270 (codes ")")) ∷ (tok Operator 270 271 (codes ")")) ∷ (tok Inserted 271 271 (codes ";")) ∷ (tok Operator 272 273 (codes "}")) ∷ (tok Inserted 273 273 (codes ";")) ∷ []); comments = ((note 102 113) ∷ []) })

library_spelled0 : read_at span_to read_front (lexemes library_t0.tokens) ≡ Some (library_f0, [])
unfolding reading
library_spelled0 = refl

abbrev library_t1 : FileText
library_t1 = (record { text = (codes "// Package lib keeps the old names.\npackage lib\n\nimport \"example.com/lib/text\"\n\nconst (\n\t// Deprecated: use text.Wide.\n\t//go:fix inline\n\tMaxWidth = text.Wide\n\n\tlimit = 3\n)\n\n// Deprecated: use text.Line.\n//\n//go:fix inline\ntype Row = text.Line\n\n// Deprecated: use text.Pad.\n//\n//go:fix inline\nfunc PadLeft(s string, n int) string {\n\treturn text.Pad(s, n, true)\n}\n\n// Deprecated: use text.Put.\n//\n//go:fix inline\nfunc Show(rows []Row, width int) {\n\tfor _, r := range rows {\n\t\ttext.Put(r, width)\n\t}\n}\n\n// Total is kept.\nfunc Total(rows []Row) int {\n\tt := limit\n\tfor _, r := range rows {\n\t\tt += len(r.Body)\n\t}\n\treturn t\n}\n"); tokens = ((tok Keyword 36 43 (codes "package")) ∷ (tok Ident 44 47 (codes "lib")) ∷ (tok Inserted 47 47 (codes ";")) ∷ (tok Keyword 49 55 (codes "import")) ∷ (tok Str 56 78 (codes "\"example.com/lib/text\"")) ∷ (tok Inserted 78 78 (codes ";")) ∷ (tok Keyword 80 85 (codes "const")) ∷ (tok Operator 86 87 (codes "(")) ∷ (tok Ident 137 145 (codes "MaxWidth")) ∷ (tok Operator 146 147 (codes "=")) ∷ (tok Ident 148 152 (codes "text")) ∷ (tok Operator 152 153 (codes ".")) ∷ (tok Ident 153 157 (codes "Wide")) ∷ (tok Inserted 157 157 (codes ";")) ∷ (tok Ident 160 165 (codes "limit")) ∷ (tok Operator 166 167 (codes "=")) ∷ (tok Integer 168 169 (codes "3")) ∷ (tok Inserted 169 169 (codes ";")) ∷ (tok Operator 170 171 (codes ")")) ∷ (tok Inserted 171 171 (codes ";")) ∷ (tok Keyword 222 226 (codes "type")) ∷ (tok Ident 227 230 (codes "Row")) ∷ (tok Operator 231 232 (codes "=")) ∷ (tok Ident 233 237 (codes "text")) ∷ (tok Operator 237 238 (codes ".")) ∷ (tok Ident 238 242 (codes "Line")) ∷ (tok Inserted 242 242 (codes ";")) ∷ (tok Keyword 292 296 (codes "func")) ∷ (tok Ident 297 304 (codes "PadLeft")) ∷ (tok Operator 304 305 (codes "(")) ∷ (tok Ident 305 306 (codes "s")) ∷ (tok Ident 307 313 (codes "string")) ∷ (tok Operator 313 314 (codes ",")) ∷ (tok Ident 315 316 (codes "n")) ∷ (tok Ident 317 320 (codes "int")) ∷ (tok Operator 320 321 (codes ")")) ∷ (tok Ident 322 328 (codes "string")) ∷ (tok Operator 329 330 (codes "{")) ∷ (tok Keyword 332 338 (codes "return")) ∷ (tok Ident 339 343 (codes "text")) ∷ (tok Operator 343 344 (codes ".")) ∷ (tok Ident 344 347 (codes "Pad")) ∷ (tok Operator 347 348 (codes "(")) ∷ (tok Ident 348 349 (codes "s")) ∷ (tok Operator 349 350 (codes ",")) ∷ (tok Ident 351 352 (codes "n")) ∷ (tok Operator 352 353 (codes ",")) ∷ (tok Ident 354 358 (codes "true")) ∷ (tok Operator 358 359 (codes ")")) ∷ (tok Inserted 359 359 (codes ";")) ∷ (tok Operator 360 361 (codes "}")) ∷ (tok Inserted 361 361 (codes ";")) ∷ (tok Keyword 411 415 (codes "func")) ∷ (tok Ident 416 420 (codes "Show")) ∷ (tok Operator 420 421 (codes "(")) ∷ (tok Ident 421 425 (codes "rows")) ∷ (tok Operator 426 427 (codes "[")) ∷ (tok Operator 427 428 (codes "]")) ∷ (tok Ident 428 431 (codes "Row")) ∷ (tok Operator 431 432 (codes ",")) ∷ (tok Ident 433 438 (codes "width")) ∷ (tok Ident 439 442 (codes "int")) ∷ (tok Operator 442 443 (codes ")")) ∷ (tok Operator 444 445 (codes "{")) ∷ (tok Keyword 447 450 (codes "for")) ∷ (tok Ident 451 452 (codes "_")) ∷ (tok Operator 452 453 (codes ",")) ∷ (tok Ident 454 455 (codes "r")) ∷ (tok Operator 456 458 (codes ":=")) ∷ (tok Keyword 459 464 (codes "range")) ∷ (tok Ident 465 469 (codes "rows")) ∷ (tok Operator 470 471 (codes "{")) ∷ (tok Ident 474 478 (codes "text")) ∷ (tok Operator 478 479 (codes ".")) ∷ (tok Ident 479 482 (codes "Put")) ∷ (tok Operator 482 483 (codes "(")) ∷ (tok Ident 483 484 (codes "r")) ∷ (tok Operator 484 485 (codes ",")) ∷ (tok Ident 486 491 (codes "width")) ∷ (tok Operator 491 492 (codes ")")) ∷ (tok Inserted 492 492 (codes ";")) ∷ (tok Operator 494 495 (codes "}")) ∷ (tok Inserted 495 495 (codes ";")) ∷ (tok Operator 496 497 (codes "}")) ∷ (tok Inserted 497 497 (codes ";")) ∷ (tok Keyword 517 521 (codes "func")) ∷ (tok Ident 522 527 (codes "Total")) ∷ (tok Operator 527 528 (codes "(")) ∷ (tok Ident 528 532 (codes "rows")) ∷ (tok Operator 533 534 (codes "[")) ∷ (tok Operator 534 535 (codes "]")) ∷ (tok Ident 535 538 (codes "Row")) ∷ (tok Operator 538 539 (codes ")")) ∷ (tok Ident 540 543 (codes "int")) ∷ (tok Operator 544 545 (codes "{")) ∷ (tok Ident 547 548 (codes "t")) ∷ (tok Operator 549 551 (codes ":=")) ∷ (tok Ident 552 557 (codes "limit")) ∷ (tok Inserted 557 557 (codes ";")) ∷ (tok Keyword 559 562 (codes "for")) ∷ (tok Ident 563 564 (codes "_")) ∷ (tok Operator 564 565 (codes ",")) ∷ (tok Ident 566 567 (codes "r")) ∷ (tok Operator 568 570 (codes ":=")) ∷ (tok Keyword 571 576 (codes "range")) ∷ (tok Ident 577 581 (codes "rows")) ∷ (tok Operator 582 583 (codes "{")) ∷ (tok Ident 586 587 (codes "t")) ∷ (tok Operator 588 590 (codes "+=")) ∷ (tok Ident 591 594 (codes "len")) ∷ (tok Operator 594 595 (codes "(")) ∷ (tok Ident 595 596 (codes "r")) ∷ (tok Operator 596 597 (codes ".")) ∷ (tok Ident 597 601 (codes "Body")) ∷ (tok Operator 601 602 (codes ")")) ∷ (tok Inserted 602 602 (codes ";")) ∷ (tok Operator 604 605 (codes "}")) ∷ (tok Inserted 605 605 (codes ";")) ∷ (tok Keyword 607 613 (codes "return")) ∷ (tok Ident 614 615 (codes "t")) ∷ (tok Inserted 615 615 (codes ";")) ∷ (tok Operator 616 617 (codes "}")) ∷ (tok Inserted 617 617 (codes ";")) ∷ []); comments = ((note 0 35) ∷ (note 89 118) ∷ (note 120 135) ∷ (note 173 202) ∷ (note 203 205) ∷ (note 206 221) ∷ (note 244 272) ∷ (note 273 275) ∷ (note 276 291) ∷ (note 363 391) ∷ (note 392 394) ∷ (note 395 410) ∷ (note 499 516) ∷ []) })

library_spelled1 : read_at span_to read_front (lexemes library_t1.tokens) ≡ Some (library_f1, [])
unfolding reading
library_spelled1 = refl

abbrev library_t2 : FileText
library_t2 = (record { text = (codes "package text\n\nconst Wide = 8\n\ntype Line struct {\n\tBody string\n}\n\nfunc Pad(s string, n int, left bool) string {\n\tfor len(s) < n {\n\t\tif left {\n\t\t\ts = \" \" + s\n\t\t} else {\n\t\t\ts += \" \"\n\t\t}\n\t}\n\treturn s\n}\n\nfunc Put(l Line, width int) {\n\tprintln(Pad(l.Body, width, false))\n}\n"); tokens = ((tok Keyword 0 7 (codes "package")) ∷ (tok Ident 8 12 (codes "text")) ∷ (tok Inserted 12 12 (codes ";")) ∷ (tok Keyword 14 19 (codes "const")) ∷ (tok Ident 20 24 (codes "Wide")) ∷ (tok Operator 25 26 (codes "=")) ∷ (tok Integer 27 28 (codes "8")) ∷ (tok Inserted 28 28 (codes ";")) ∷ (tok Keyword 30 34 (codes "type")) ∷ (tok Ident 35 39 (codes "Line")) ∷ (tok Keyword 40 46 (codes "struct")) ∷ (tok Operator 47 48 (codes "{")) ∷ (tok Ident 50 54 (codes "Body")) ∷ (tok Ident 55 61 (codes "string")) ∷ (tok Inserted 61 61 (codes ";")) ∷ (tok Operator 62 63 (codes "}")) ∷ (tok Inserted 63 63 (codes ";")) ∷ (tok Keyword 65 69 (codes "func")) ∷ (tok Ident 70 73 (codes "Pad")) ∷ (tok Operator 73 74 (codes "(")) ∷ (tok Ident 74 75 (codes "s")) ∷ (tok Ident 76 82 (codes "string")) ∷ (tok Operator 82 83 (codes ",")) ∷ (tok Ident 84 85 (codes "n")) ∷ (tok Ident 86 89 (codes "int")) ∷ (tok Operator 89 90 (codes ",")) ∷ (tok Ident 91 95 (codes "left")) ∷ (tok Ident 96 100 (codes "bool")) ∷ (tok Operator 100 101 (codes ")")) ∷ (tok Ident 102 108 (codes "string")) ∷ (tok Operator 109 110 (codes "{")) ∷ (tok Keyword 112 115 (codes "for")) ∷ (tok Ident 116 119 (codes "len")) ∷ (tok Operator 119 120 (codes "(")) ∷ (tok Ident 120 121 (codes "s")) ∷ (tok Operator 121 122 (codes ")")) ∷ (tok Operator 123 124 (codes "<")) ∷ (tok Ident 125 126 (codes "n")) ∷ (tok Operator 127 128 (codes "{")) ∷ (tok Keyword 131 133 (codes "if")) ∷ (tok Ident 134 138 (codes "left")) ∷ (tok Operator 139 140 (codes "{")) ∷ (tok Ident 144 145 (codes "s")) ∷ (tok Operator 146 147 (codes "=")) ∷ (tok Str 148 151 (codes "\" \"")) ∷ (tok Operator 152 153 (codes "+")) ∷ (tok Ident 154 155 (codes "s")) ∷ (tok Inserted 155 155 (codes ";")) ∷ (tok Operator 158 159 (codes "}")) ∷ (tok Keyword 160 164 (codes "else")) ∷ (tok Operator 165 166 (codes "{")) ∷ (tok Ident 170 171 (codes "s")) ∷ (tok Operator 172 174 (codes "+=")) ∷ (tok Str 175 178 (codes "\" \"")) ∷ (tok Inserted 178 178 (codes ";")) ∷ (tok Operator 181 182 (codes "}")) ∷ (tok Inserted 182 182 (codes ";")) ∷ (tok Operator 184 185 (codes "}")) ∷ (tok Inserted 185 185 (codes ";")) ∷ (tok Keyword 187 193 (codes "return")) ∷ (tok Ident 194 195 (codes "s")) ∷ (tok Inserted 195 195 (codes ";")) ∷ (tok Operator 196 197 (codes "}")) ∷ (tok Inserted 197 197 (codes ";")) ∷ (tok Keyword 199 203 (codes "func")) ∷ (tok Ident 204 207 (codes "Put")) ∷ (tok Operator 207 208 (codes "(")) ∷ (tok Ident 208 209 (codes "l")) ∷ (tok Ident 210 214 (codes "Line")) ∷ (tok Operator 214 215 (codes ",")) ∷ (tok Ident 216 221 (codes "width")) ∷ (tok Ident 222 225 (codes "int")) ∷ (tok Operator 225 226 (codes ")")) ∷ (tok Operator 227 228 (codes "{")) ∷ (tok Ident 230 237 (codes "println")) ∷ (tok Operator 237 238 (codes "(")) ∷ (tok Ident 238 241 (codes "Pad")) ∷ (tok Operator 241 242 (codes "(")) ∷ (tok Ident 242 243 (codes "l")) ∷ (tok Operator 243 244 (codes ".")) ∷ (tok Ident 244 248 (codes "Body")) ∷ (tok Operator 248 249 (codes ",")) ∷ (tok Ident 250 255 (codes "width")) ∷ (tok Operator 255 256 (codes ",")) ∷ (tok Ident 257 262 (codes "false")) ∷ (tok Operator 262 263 (codes ")")) ∷ (tok Operator 263 264 (codes ")")) ∷ (tok Inserted 264 264 (codes ";")) ∷ (tok Operator 265 266 (codes "}")) ∷ (tok Inserted 266 266 (codes ";")) ∷ []); comments = [] })

library_spelled2 : read_at span_to read_front (lexemes library_t2.tokens) ≡ Some (library_f2, [])
unfolding reading
library_spelled2 = refl

library_marks : marks_of library.packages library.texts [] ≡ library.marks
unfolding passes keyword_spellings is_inline digits
library_marks = refl

abbrev library_s0 : Standing
library_s0 = standing_as_read library.packages library.texts

abbrev library_n1 : FileText
library_n1 = (record { text = (codes "// Package lib keeps the old names.\npackage lib\n\nimport \"example.com/lib/text\"\n\nconst (\n\t// Deprecated: use text.Wide.\n\t//go:fix inline\n\tMaxWidth = text.Wide\n\n\tlimit = 3\n)\n\n// Deprecated: use text.Line.\n//\n//go:fix inline\ntype Row = text.Line\n\n// Deprecated: use text.Pad.\n//\n//go:fix inline\nfunc PadLeft(s string, n int) string {\n\treturn text.Pad(s, n, true)\n}\n\n// Deprecated: use text.Put.\n//\n//go:fix inline\nfunc Show(rows []text.Line, width int) {\n\tfor _, r := range rows {\n\t\ttext.Put(r, width)\n\t}\n}\n\n// Total is kept.\nfunc Total(rows []Row) int {\n\tt := limit\n\tfor _, r := range rows {\n\t\tt += len(r.Body)\n\t}\n\treturn t\n}\n"); tokens = ((tok Keyword 36 43 (codes "package")) ∷ (tok Ident 44 47 (codes "lib")) ∷ (tok Inserted 47 47 (codes ";")) ∷ (tok Keyword 49 55 (codes "import")) ∷ (tok Str 56 78 (codes "\"example.com/lib/text\"")) ∷ (tok Inserted 78 78 (codes ";")) ∷ (tok Keyword 80 85 (codes "const")) ∷ (tok Operator 86 87 (codes "(")) ∷ (tok Ident 137 145 (codes "MaxWidth")) ∷ (tok Operator 146 147 (codes "=")) ∷ (tok Ident 148 152 (codes "text")) ∷ (tok Operator 152 153 (codes ".")) ∷ (tok Ident 153 157 (codes "Wide")) ∷ (tok Inserted 157 157 (codes ";")) ∷ (tok Ident 160 165 (codes "limit")) ∷ (tok Operator 166 167 (codes "=")) ∷ (tok Integer 168 169 (codes "3")) ∷ (tok Inserted 169 169 (codes ";")) ∷ (tok Operator 170 171 (codes ")")) ∷ (tok Inserted 171 171 (codes ";")) ∷ (tok Keyword 222 226 (codes "type")) ∷ (tok Ident 227 230 (codes "Row")) ∷ (tok Operator 231 232 (codes "=")) ∷ (tok Ident 233 237 (codes "text")) ∷ (tok Operator 237 238 (codes ".")) ∷ (tok Ident 238 242 (codes "Line")) ∷ (tok Inserted 242 242 (codes ";")) ∷ (tok Keyword 292 296 (codes "func")) ∷ (tok Ident 297 304 (codes "PadLeft")) ∷ (tok Operator 304 305 (codes "(")) ∷ (tok Ident 305 306 (codes "s")) ∷ (tok Ident 307 313 (codes "string")) ∷ (tok Operator 313 314 (codes ",")) ∷ (tok Ident 315 316 (codes "n")) ∷ (tok Ident 317 320 (codes "int")) ∷ (tok Operator 320 321 (codes ")")) ∷ (tok Ident 322 328 (codes "string")) ∷ (tok Operator 329 330 (codes "{")) ∷ (tok Keyword 332 338 (codes "return")) ∷ (tok Ident 339 343 (codes "text")) ∷ (tok Operator 343 344 (codes ".")) ∷ (tok Ident 344 347 (codes "Pad")) ∷ (tok Operator 347 348 (codes "(")) ∷ (tok Ident 348 349 (codes "s")) ∷ (tok Operator 349 350 (codes ",")) ∷ (tok Ident 351 352 (codes "n")) ∷ (tok Operator 352 353 (codes ",")) ∷ (tok Ident 354 358 (codes "true")) ∷ (tok Operator 358 359 (codes ")")) ∷ (tok Inserted 359 359 (codes ";")) ∷ (tok Operator 360 361 (codes "}")) ∷ (tok Inserted 361 361 (codes ";")) ∷ (tok Keyword 411 415 (codes "func")) ∷ (tok Ident 416 420 (codes "Show")) ∷ (tok Operator 420 421 (codes "(")) ∷ (tok Ident 421 425 (codes "rows")) ∷ (tok Operator 426 427 (codes "[")) ∷ (tok Operator 427 428 (codes "]")) ∷ (tok Ident 428 432 (codes "text")) ∷ (tok Operator 432 433 (codes ".")) ∷ (tok Ident 433 437 (codes "Line")) ∷ (tok Operator 437 438 (codes ",")) ∷ (tok Ident 439 444 (codes "width")) ∷ (tok Ident 445 448 (codes "int")) ∷ (tok Operator 448 449 (codes ")")) ∷ (tok Operator 450 451 (codes "{")) ∷ (tok Keyword 453 456 (codes "for")) ∷ (tok Ident 457 458 (codes "_")) ∷ (tok Operator 458 459 (codes ",")) ∷ (tok Ident 460 461 (codes "r")) ∷ (tok Operator 462 464 (codes ":=")) ∷ (tok Keyword 465 470 (codes "range")) ∷ (tok Ident 471 475 (codes "rows")) ∷ (tok Operator 476 477 (codes "{")) ∷ (tok Ident 480 484 (codes "text")) ∷ (tok Operator 484 485 (codes ".")) ∷ (tok Ident 485 488 (codes "Put")) ∷ (tok Operator 488 489 (codes "(")) ∷ (tok Ident 489 490 (codes "r")) ∷ (tok Operator 490 491 (codes ",")) ∷ (tok Ident 492 497 (codes "width")) ∷ (tok Operator 497 498 (codes ")")) ∷ (tok Inserted 498 498 (codes ";")) ∷ (tok Operator 500 501 (codes "}")) ∷ (tok Inserted 501 501 (codes ";")) ∷ (tok Operator 502 503 (codes "}")) ∷ (tok Inserted 503 503 (codes ";")) ∷ (tok Keyword 523 527 (codes "func")) ∷ (tok Ident 528 533 (codes "Total")) ∷ (tok Operator 533 534 (codes "(")) ∷ (tok Ident 534 538 (codes "rows")) ∷ (tok Operator 539 540 (codes "[")) ∷ (tok Operator 540 541 (codes "]")) ∷ (tok Ident 541 544 (codes "Row")) ∷ (tok Operator 544 545 (codes ")")) ∷ (tok Ident 546 549 (codes "int")) ∷ (tok Operator 550 551 (codes "{")) ∷ (tok Ident 553 554 (codes "t")) ∷ (tok Operator 555 557 (codes ":=")) ∷ (tok Ident 558 563 (codes "limit")) ∷ (tok Inserted 563 563 (codes ";")) ∷ (tok Keyword 565 568 (codes "for")) ∷ (tok Ident 569 570 (codes "_")) ∷ (tok Operator 570 571 (codes ",")) ∷ (tok Ident 572 573 (codes "r")) ∷ (tok Operator 574 576 (codes ":=")) ∷ (tok Keyword 577 582 (codes "range")) ∷ (tok Ident 583 587 (codes "rows")) ∷ (tok Operator 588 589 (codes "{")) ∷ (tok Ident 592 593 (codes "t")) ∷ (tok Operator 594 596 (codes "+=")) ∷ (tok Ident 597 600 (codes "len")) ∷ (tok Operator 600 601 (codes "(")) ∷ (tok Ident 601 602 (codes "r")) ∷ (tok Operator 602 603 (codes ".")) ∷ (tok Ident 603 607 (codes "Body")) ∷ (tok Operator 607 608 (codes ")")) ∷ (tok Inserted 608 608 (codes ";")) ∷ (tok Operator 610 611 (codes "}")) ∷ (tok Inserted 611 611 (codes ";")) ∷ (tok Keyword 613 619 (codes "return")) ∷ (tok Ident 620 621 (codes "t")) ∷ (tok Inserted 621 621 (codes ";")) ∷ (tok Operator 622 623 (codes "}")) ∷ (tok Inserted 623 623 (codes ";")) ∷ []); comments = ((note 0 35) ∷ (note 89 118) ∷ (note 120 135) ∷ (note 173 202) ∷ (note 203 205) ∷ (note 206 221) ∷ (note 244 272) ∷ (note 273 275) ∷ (note 276 291) ∷ (note 363 391) ∷ (note 392 394) ∷ (note 395 410) ∷ (note 505 522) ∷ []) })

abbrev library_tree1 : File At
library_tree1 = record { package_name = (nmf 44 47 44 47 (codes "lib")); imports = ((imps (from 49 78 49 78) false ((imp (from 56 78 56 78) None (codes "example.com/lib/text")) ∷ [])) ∷ []); decls = ((values (const_decl (from 80 171 80 171) true (spec (from 137 157 137 157) ((nmf 137 145 137 145 (codes "MaxWidth")) ∷ []) None (expr_and (selector (from 148 157 148 157) (ident (from 148 152 148 152) (codes "text")) (nmf 153 157 153 157 (codes "Wide"))) no_exprs) (spec (from 160 169 160 169) ((nmf 160 165 160 165 (codes "limit")) ∷ []) None (expr_and (int_lit (from 168 169 168 169) (codes "3")) no_exprs) no_specs)))) ∷ (types (from 222 242 222 242) false ((tspec (from 227 242 227 242) (nmf 227 230 227 230 (codes "Row")) true (named (from 233 242 233 242) (Some (nmf 233 237 233 237 (codes "text"))) (nmf 238 242 238 242 (codes "Line")))) ∷ [])) ∷ (fn (from 292 361 292 361) None (nmf 297 304 297 304 (codes "PadLeft")) (sig ((param (from 305 313 305 313) (Some (nmf 305 306 305 306 (codes "s"))) (named (from 307 313 307 313) None (nmf 307 313 307 313 (codes "string")))) ∷ (param (from 315 320 315 320) (Some (nmf 315 316 315 316 (codes "n"))) (named (from 317 320 317 320) None (nmf 317 320 317 320 (codes "int")))) ∷ []) ((param (from 322 328 322 328) None (named (from 322 328 322 328) None (nmf 322 328 322 328 (codes "string")))) ∷ [])) (from 329 361 329 361) (stmt_and (return_ (from 332 359 332 359) (expr_and (call (from 339 359 339 359) (selector (from 339 347 339 347) (ident (from 339 343 339 343) (codes "text")) (nmf 344 347 344 347 (codes "Pad"))) (expr_and (ident (from 348 349 348 349) (codes "s")) (expr_and (ident (from 351 352 351 352) (codes "n")) (expr_and (ident (from 354 358 354 358) (codes "true")) no_exprs))) Plain) no_exprs)) no_stmts)) ∷ (fn (from 411 503 411 497) None (nmf 416 420 416 420 (codes "Show")) (sig ((param (from 421 437 421 431) (Some (nmf 421 425 421 425 (codes "rows"))) (slice_type (from 426 437 426 431) (named (from 428 437 428 431) (Some (nmf 428 432 428 431 (codes "text"))) (nmf 433 437 428 431 (codes "Line"))))) ∷ (param (from 439 448 433 442) (Some (nmf 439 444 433 438 (codes "width"))) (named (from 445 448 439 442) None (nmf 445 448 439 442 (codes "int")))) ∷ []) []) (from 450 503 444 497) (stmt_and (range_ (from 453 501 447 495) (defines ((nmf 457 458 451 452 (codes "_")) ∷ (nmf 460 461 454 455 (codes "r")) ∷ [])) (ident (from 471 475 465 469) (codes "rows")) (from 476 501 470 495) (stmt_and (eval (from 480 498 474 492) (call (from 480 498 474 492) (selector (from 480 488 474 482) (ident (from 480 484 474 478) (codes "text")) (nmf 485 488 479 482 (codes "Put"))) (expr_and (ident (from 489 490 483 484) (codes "r")) (expr_and (ident (from 492 497 486 491) (codes "width")) no_exprs)) Plain)) no_stmts)) no_stmts)) ∷ (fn (from 523 623 517 617) None (nmf 528 533 522 527 (codes "Total")) (sig ((param (from 534 544 528 538) (Some (nmf 534 538 528 532 (codes "rows"))) (slice_type (from 539 544 533 538) (named (from 541 544 535 538) None (nmf 541 544 535 538 (codes "Row"))))) ∷ []) ((param (from 546 549 540 543) None (named (from 546 549 540 543) None (nmf 546 549 540 543 (codes "int")))) ∷ [])) (from 550 623 544 617) (stmt_and (define (from 553 563 547 557) ((nmf 553 554 547 548 (codes "t")) ∷ []) (expr_and (ident (from 558 563 552 557) (codes "limit")) no_exprs)) (stmt_and (range_ (from 565 611 559 605) (defines ((nmf 569 570 563 564 (codes "_")) ∷ (nmf 572 573 566 567 (codes "r")) ∷ [])) (ident (from 583 587 577 581) (codes "rows")) (from 588 611 582 605) (stmt_and (assign (from 592 608 586 602) (expr_and (ident (from 592 593 586 587) (codes "t")) no_exprs) (Some Add) (expr_and (call (from 597 608 591 602) (ident (from 597 600 591 594) (codes "len")) (expr_and (selector (from 601 607 595 601) (ident (from 601 602 595 596) (codes "r")) (nmf 603 607 597 601 (codes "Body"))) no_exprs) Plain) no_exprs)) no_stmts)) (stmt_and (return_ (from 613 621 607 615) (expr_and (ident (from 620 621 614 615) (codes "t")) no_exprs)) no_stmts)))) ∷ []) }

library_steps1 : is_some (step_in library.marks library_s0) ≡ true
unfolding passes keyword_spellings is_inline digits
library_steps1 = refl

abbrev library_s1 : Standing
library_s1 = record { packages = (record { path = (codes "example.com/lib/cmd"); name = (codes "main"); files = (record { path = (codes "cmd/main.go"); tree = (file_with as_read library_f0) } ∷ []) } ∷ record { path = (codes "example.com/lib"); name = (codes "lib"); files = (record { path = (codes "lib.go"); tree = library_tree1 } ∷ []) } ∷ record { path = (codes "example.com/lib/text"); name = (codes "text"); files = (record { path = (codes "text/text.go"); tree = (file_with as_read library_f2) } ∷ []) } ∷ []); texts = (((codes "cmd/main.go"), library_t0) ∷ ((codes "lib.go"), library_n1) ∷ ((codes "text/text.go"), library_t2) ∷ []) }

abbrev library_l1 : Logged
library_l1 = record { file = (codes "lib.go"); origin = at 428 431; home = (codes "example.com/lib"); name = (codes "Row"); form = TypeForm; edits = (record { span = at 428 431; text = (codes "text.Line") } ∷ []) }

abbrev library_next1 : TokensOf library_n1.text library_n1.tokens library_n1.comments → Next library.marks library_s0 library_l1 library_s1
unfolding passes keyword_spellings is_inline digits reading library_steps1
library_next1 h = next_by library.marks library_s0 library_steps1 library_t1 library_n1 library_tree1 refl refl h refl refl

abbrev library_n2 : FileText
library_n2 = (record { text = (codes "// Package lib keeps the old names.\npackage lib\n\nimport \"example.com/lib/text\"\n\nconst (\n\t// Deprecated: use text.Wide.\n\t//go:fix inline\n\tMaxWidth = text.Wide\n\n\tlimit = 3\n)\n\n// Deprecated: use text.Line.\n//\n//go:fix inline\ntype Row = text.Line\n\n// Deprecated: use text.Pad.\n//\n//go:fix inline\nfunc PadLeft(s string, n int) string {\n\treturn text.Pad(s, n, true)\n}\n\n// Deprecated: use text.Put.\n//\n//go:fix inline\nfunc Show(rows []text.Line, width int) {\n\tfor _, r := range rows {\n\t\ttext.Put(r, width)\n\t}\n}\n\n// Total is kept.\nfunc Total(rows []text.Line) int {\n\tt := limit\n\tfor _, r := range rows {\n\t\tt += len(r.Body)\n\t}\n\treturn t\n}\n"); tokens = ((tok Keyword 36 43 (codes "package")) ∷ (tok Ident 44 47 (codes "lib")) ∷ (tok Inserted 47 47 (codes ";")) ∷ (tok Keyword 49 55 (codes "import")) ∷ (tok Str 56 78 (codes "\"example.com/lib/text\"")) ∷ (tok Inserted 78 78 (codes ";")) ∷ (tok Keyword 80 85 (codes "const")) ∷ (tok Operator 86 87 (codes "(")) ∷ (tok Ident 137 145 (codes "MaxWidth")) ∷ (tok Operator 146 147 (codes "=")) ∷ (tok Ident 148 152 (codes "text")) ∷ (tok Operator 152 153 (codes ".")) ∷ (tok Ident 153 157 (codes "Wide")) ∷ (tok Inserted 157 157 (codes ";")) ∷ (tok Ident 160 165 (codes "limit")) ∷ (tok Operator 166 167 (codes "=")) ∷ (tok Integer 168 169 (codes "3")) ∷ (tok Inserted 169 169 (codes ";")) ∷ (tok Operator 170 171 (codes ")")) ∷ (tok Inserted 171 171 (codes ";")) ∷ (tok Keyword 222 226 (codes "type")) ∷ (tok Ident 227 230 (codes "Row")) ∷ (tok Operator 231 232 (codes "=")) ∷ (tok Ident 233 237 (codes "text")) ∷ (tok Operator 237 238 (codes ".")) ∷ (tok Ident 238 242 (codes "Line")) ∷ (tok Inserted 242 242 (codes ";")) ∷ (tok Keyword 292 296 (codes "func")) ∷ (tok Ident 297 304 (codes "PadLeft")) ∷ (tok Operator 304 305 (codes "(")) ∷ (tok Ident 305 306 (codes "s")) ∷ (tok Ident 307 313 (codes "string")) ∷ (tok Operator 313 314 (codes ",")) ∷ (tok Ident 315 316 (codes "n")) ∷ (tok Ident 317 320 (codes "int")) ∷ (tok Operator 320 321 (codes ")")) ∷ (tok Ident 322 328 (codes "string")) ∷ (tok Operator 329 330 (codes "{")) ∷ (tok Keyword 332 338 (codes "return")) ∷ (tok Ident 339 343 (codes "text")) ∷ (tok Operator 343 344 (codes ".")) ∷ (tok Ident 344 347 (codes "Pad")) ∷ (tok Operator 347 348 (codes "(")) ∷ (tok Ident 348 349 (codes "s")) ∷ (tok Operator 349 350 (codes ",")) ∷ (tok Ident 351 352 (codes "n")) ∷ (tok Operator 352 353 (codes ",")) ∷ (tok Ident 354 358 (codes "true")) ∷ (tok Operator 358 359 (codes ")")) ∷ (tok Inserted 359 359 (codes ";")) ∷ (tok Operator 360 361 (codes "}")) ∷ (tok Inserted 361 361 (codes ";")) ∷ (tok Keyword 411 415 (codes "func")) ∷ (tok Ident 416 420 (codes "Show")) ∷ (tok Operator 420 421 (codes "(")) ∷ (tok Ident 421 425 (codes "rows")) ∷ (tok Operator 426 427 (codes "[")) ∷ (tok Operator 427 428 (codes "]")) ∷ (tok Ident 428 432 (codes "text")) ∷ (tok Operator 432 433 (codes ".")) ∷ (tok Ident 433 437 (codes "Line")) ∷ (tok Operator 437 438 (codes ",")) ∷ (tok Ident 439 444 (codes "width")) ∷ (tok Ident 445 448 (codes "int")) ∷ (tok Operator 448 449 (codes ")")) ∷ (tok Operator 450 451 (codes "{")) ∷ (tok Keyword 453 456 (codes "for")) ∷ (tok Ident 457 458 (codes "_")) ∷ (tok Operator 458 459 (codes ",")) ∷ (tok Ident 460 461 (codes "r")) ∷ (tok Operator 462 464 (codes ":=")) ∷ (tok Keyword 465 470 (codes "range")) ∷ (tok Ident 471 475 (codes "rows")) ∷ (tok Operator 476 477 (codes "{")) ∷ (tok Ident 480 484 (codes "text")) ∷ (tok Operator 484 485 (codes ".")) ∷ (tok Ident 485 488 (codes "Put")) ∷ (tok Operator 488 489 (codes "(")) ∷ (tok Ident 489 490 (codes "r")) ∷ (tok Operator 490 491 (codes ",")) ∷ (tok Ident 492 497 (codes "width")) ∷ (tok Operator 497 498 (codes ")")) ∷ (tok Inserted 498 498 (codes ";")) ∷ (tok Operator 500 501 (codes "}")) ∷ (tok Inserted 501 501 (codes ";")) ∷ (tok Operator 502 503 (codes "}")) ∷ (tok Inserted 503 503 (codes ";")) ∷ (tok Keyword 523 527 (codes "func")) ∷ (tok Ident 528 533 (codes "Total")) ∷ (tok Operator 533 534 (codes "(")) ∷ (tok Ident 534 538 (codes "rows")) ∷ (tok Operator 539 540 (codes "[")) ∷ (tok Operator 540 541 (codes "]")) ∷ (tok Ident 541 545 (codes "text")) ∷ (tok Operator 545 546 (codes ".")) ∷ (tok Ident 546 550 (codes "Line")) ∷ (tok Operator 550 551 (codes ")")) ∷ (tok Ident 552 555 (codes "int")) ∷ (tok Operator 556 557 (codes "{")) ∷ (tok Ident 559 560 (codes "t")) ∷ (tok Operator 561 563 (codes ":=")) ∷ (tok Ident 564 569 (codes "limit")) ∷ (tok Inserted 569 569 (codes ";")) ∷ (tok Keyword 571 574 (codes "for")) ∷ (tok Ident 575 576 (codes "_")) ∷ (tok Operator 576 577 (codes ",")) ∷ (tok Ident 578 579 (codes "r")) ∷ (tok Operator 580 582 (codes ":=")) ∷ (tok Keyword 583 588 (codes "range")) ∷ (tok Ident 589 593 (codes "rows")) ∷ (tok Operator 594 595 (codes "{")) ∷ (tok Ident 598 599 (codes "t")) ∷ (tok Operator 600 602 (codes "+=")) ∷ (tok Ident 603 606 (codes "len")) ∷ (tok Operator 606 607 (codes "(")) ∷ (tok Ident 607 608 (codes "r")) ∷ (tok Operator 608 609 (codes ".")) ∷ (tok Ident 609 613 (codes "Body")) ∷ (tok Operator 613 614 (codes ")")) ∷ (tok Inserted 614 614 (codes ";")) ∷ (tok Operator 616 617 (codes "}")) ∷ (tok Inserted 617 617 (codes ";")) ∷ (tok Keyword 619 625 (codes "return")) ∷ (tok Ident 626 627 (codes "t")) ∷ (tok Inserted 627 627 (codes ";")) ∷ (tok Operator 628 629 (codes "}")) ∷ (tok Inserted 629 629 (codes ";")) ∷ []); comments = ((note 0 35) ∷ (note 89 118) ∷ (note 120 135) ∷ (note 173 202) ∷ (note 203 205) ∷ (note 206 221) ∷ (note 244 272) ∷ (note 273 275) ∷ (note 276 291) ∷ (note 363 391) ∷ (note 392 394) ∷ (note 395 410) ∷ (note 505 522) ∷ []) })

abbrev library_tree2 : File At
library_tree2 = record { package_name = (nmf 44 47 44 47 (codes "lib")); imports = ((imps (from 49 78 49 78) false ((imp (from 56 78 56 78) None (codes "example.com/lib/text")) ∷ [])) ∷ []); decls = ((values (const_decl (from 80 171 80 171) true (spec (from 137 157 137 157) ((nmf 137 145 137 145 (codes "MaxWidth")) ∷ []) None (expr_and (selector (from 148 157 148 157) (ident (from 148 152 148 152) (codes "text")) (nmf 153 157 153 157 (codes "Wide"))) no_exprs) (spec (from 160 169 160 169) ((nmf 160 165 160 165 (codes "limit")) ∷ []) None (expr_and (int_lit (from 168 169 168 169) (codes "3")) no_exprs) no_specs)))) ∷ (types (from 222 242 222 242) false ((tspec (from 227 242 227 242) (nmf 227 230 227 230 (codes "Row")) true (named (from 233 242 233 242) (Some (nmf 233 237 233 237 (codes "text"))) (nmf 238 242 238 242 (codes "Line")))) ∷ [])) ∷ (fn (from 292 361 292 361) None (nmf 297 304 297 304 (codes "PadLeft")) (sig ((param (from 305 313 305 313) (Some (nmf 305 306 305 306 (codes "s"))) (named (from 307 313 307 313) None (nmf 307 313 307 313 (codes "string")))) ∷ (param (from 315 320 315 320) (Some (nmf 315 316 315 316 (codes "n"))) (named (from 317 320 317 320) None (nmf 317 320 317 320 (codes "int")))) ∷ []) ((param (from 322 328 322 328) None (named (from 322 328 322 328) None (nmf 322 328 322 328 (codes "string")))) ∷ [])) (from 329 361 329 361) (stmt_and (return_ (from 332 359 332 359) (expr_and (call (from 339 359 339 359) (selector (from 339 347 339 347) (ident (from 339 343 339 343) (codes "text")) (nmf 344 347 344 347 (codes "Pad"))) (expr_and (ident (from 348 349 348 349) (codes "s")) (expr_and (ident (from 351 352 351 352) (codes "n")) (expr_and (ident (from 354 358 354 358) (codes "true")) no_exprs))) Plain) no_exprs)) no_stmts)) ∷ (fn (from 411 503 411 497) None (nmf 416 420 416 420 (codes "Show")) (sig ((param (from 421 437 421 431) (Some (nmf 421 425 421 425 (codes "rows"))) (slice_type (from 426 437 426 431) (named (from 428 437 428 431) (Some (nmf 428 432 428 431 (codes "text"))) (nmf 433 437 428 431 (codes "Line"))))) ∷ (param (from 439 448 433 442) (Some (nmf 439 444 433 438 (codes "width"))) (named (from 445 448 439 442) None (nmf 445 448 439 442 (codes "int")))) ∷ []) []) (from 450 503 444 497) (stmt_and (range_ (from 453 501 447 495) (defines ((nmf 457 458 451 452 (codes "_")) ∷ (nmf 460 461 454 455 (codes "r")) ∷ [])) (ident (from 471 475 465 469) (codes "rows")) (from 476 501 470 495) (stmt_and (eval (from 480 498 474 492) (call (from 480 498 474 492) (selector (from 480 488 474 482) (ident (from 480 484 474 478) (codes "text")) (nmf 485 488 479 482 (codes "Put"))) (expr_and (ident (from 489 490 483 484) (codes "r")) (expr_and (ident (from 492 497 486 491) (codes "width")) no_exprs)) Plain)) no_stmts)) no_stmts)) ∷ (fn (from 523 629 517 617) None (nmf 528 533 522 527 (codes "Total")) (sig ((param (from 534 550 528 538) (Some (nmf 534 538 528 532 (codes "rows"))) (slice_type (from 539 550 533 538) (named (from 541 550 535 538) (Some (nmf 541 545 535 538 (codes "text"))) (nmf 546 550 535 538 (codes "Line"))))) ∷ []) ((param (from 552 555 540 543) None (named (from 552 555 540 543) None (nmf 552 555 540 543 (codes "int")))) ∷ [])) (from 556 629 544 617) (stmt_and (define (from 559 569 547 557) ((nmf 559 560 547 548 (codes "t")) ∷ []) (expr_and (ident (from 564 569 552 557) (codes "limit")) no_exprs)) (stmt_and (range_ (from 571 617 559 605) (defines ((nmf 575 576 563 564 (codes "_")) ∷ (nmf 578 579 566 567 (codes "r")) ∷ [])) (ident (from 589 593 577 581) (codes "rows")) (from 594 617 582 605) (stmt_and (assign (from 598 614 586 602) (expr_and (ident (from 598 599 586 587) (codes "t")) no_exprs) (Some Add) (expr_and (call (from 603 614 591 602) (ident (from 603 606 591 594) (codes "len")) (expr_and (selector (from 607 613 595 601) (ident (from 607 608 595 596) (codes "r")) (nmf 609 613 597 601 (codes "Body"))) no_exprs) Plain) no_exprs)) no_stmts)) (stmt_and (return_ (from 619 627 607 615) (expr_and (ident (from 626 627 614 615) (codes "t")) no_exprs)) no_stmts)))) ∷ []) }

library_steps2 : is_some (step_in library.marks library_s1) ≡ true
unfolding passes keyword_spellings is_inline digits
library_steps2 = refl

abbrev library_s2 : Standing
library_s2 = record { packages = (record { path = (codes "example.com/lib/cmd"); name = (codes "main"); files = (record { path = (codes "cmd/main.go"); tree = (file_with as_read library_f0) } ∷ []) } ∷ record { path = (codes "example.com/lib"); name = (codes "lib"); files = (record { path = (codes "lib.go"); tree = library_tree2 } ∷ []) } ∷ record { path = (codes "example.com/lib/text"); name = (codes "text"); files = (record { path = (codes "text/text.go"); tree = (file_with as_read library_f2) } ∷ []) } ∷ []); texts = (((codes "cmd/main.go"), library_t0) ∷ ((codes "lib.go"), library_n2) ∷ ((codes "text/text.go"), library_t2) ∷ []) }

abbrev library_l2 : Logged
library_l2 = record { file = (codes "lib.go"); origin = at 535 538; home = (codes "example.com/lib"); name = (codes "Row"); form = TypeForm; edits = (record { span = at 541 544; text = (codes "text.Line") } ∷ []) }

abbrev library_next2 : TokensOf library_n2.text library_n2.tokens library_n2.comments → Next library.marks library_s1 library_l2 library_s2
unfolding passes keyword_spellings is_inline digits reading library_steps2
library_next2 h = next_by library.marks library_s1 library_steps2 library_n1 library_n2 library_tree2 refl refl h refl refl

abbrev library_n3 : FileText
library_n3 = (record { text = (codes "package main\n\nimport (\n\t\"example.com/lib\"\n\t\"example.com/lib/text\"\n)\n\nfunc load() []text.Line {\n\treturn []lib.Row{{\"a\"}, {\"bc\"}} // two rows\n}\n\nfunc main() {\n\trows := load()\n\tfor i := 0; i < 2; i++ {\n\t\tprintln(lib.PadLeft(rows[i].Body, lib.MaxWidth))\n\t}\n\tlib.Show(rows, 4)\n\tprintln(lib.Total(rows))\n}\n"); tokens = ((tok Keyword 0 7 (codes "package")) ∷ (tok Ident 8 12 (codes "main")) ∷ (tok Inserted 12 12 (codes ";")) ∷ (tok Keyword 14 20 (codes "import")) ∷ (tok Operator 21 22 (codes "(")) ∷ (tok Str 24 41 (codes "\"example.com/lib\"")) ∷ (tok Inserted 41 41 (codes ";")) ∷ (tok Str 43 65 (codes "\"example.com/lib/text\"")) ∷ (tok Inserted 65 65 (codes ";")) ∷ (tok Operator 66 67 (codes ")")) ∷ (tok Inserted 67 67 (codes ";")) ∷ (tok Keyword 69 73 (codes "func")) ∷ (tok Ident 74 78 (codes "load")) ∷ (tok Operator 78 79 (codes "(")) ∷ (tok Operator 79 80 (codes ")")) ∷ (tok Operator 81 82 (codes "[")) ∷ (tok Operator 82 83 (codes "]")) ∷ (tok Ident 83 87 (codes "text")) ∷ (tok Operator 87 88 (codes ".")) ∷ (tok Ident 88 92 (codes "Line")) ∷ (tok Operator 93 94 (codes "{")) ∷ (tok Keyword 96 102 (codes "return")) ∷ (tok Operator 103 104 (codes "[")) ∷ (tok Operator 104 105 (codes "]")) ∷ (tok Ident 105 108 (codes "lib")) ∷ (tok Operator 108 109 (codes ".")) ∷ (tok Ident 109 112 (codes "Row")) ∷ (tok Operator 112 113 (codes "{")) ∷ (tok Operator 113 114 (codes "{")) ∷ (tok Str 114 117 (codes "\"a\"")) ∷ (tok Operator 117 118 (codes "}")) ∷ (tok Operator 118 119 (codes ",")) ∷ (tok Operator 120 121 (codes "{")) ∷ (tok Str 121 125 (codes "\"bc\"")) ∷ (tok Operator 125 126 (codes "}")) ∷ (tok Operator 126 127 (codes "}")) ∷ (tok Inserted 127 127 (codes ";")) ∷ (tok Operator 140 141 (codes "}")) ∷ (tok Inserted 141 141 (codes ";")) ∷ (tok Keyword 143 147 (codes "func")) ∷ (tok Ident 148 152 (codes "main")) ∷ (tok Operator 152 153 (codes "(")) ∷ (tok Operator 153 154 (codes ")")) ∷ (tok Operator 155 156 (codes "{")) ∷ (tok Ident 158 162 (codes "rows")) ∷ (tok Operator 163 165 (codes ":=")) ∷ (tok Ident 166 170 (codes "load")) ∷ (tok Operator 170 171 (codes "(")) ∷ (tok Operator 171 172 (codes ")")) ∷ (tok Inserted 172 172 (codes ";")) ∷ (tok Keyword 174 177 (codes "for")) ∷ (tok Ident 178 179 (codes "i")) ∷ (tok Operator 180 182 (codes ":=")) ∷ (tok Integer 183 184 (codes "0")) ∷ (tok Operator 184 185 (codes ";")) ∷ (tok Ident 186 187 (codes "i")) ∷ (tok Operator 188 189 (codes "<")) ∷ (tok Integer 190 191 (codes "2")) ∷ (tok Operator 191 192 (codes ";")) ∷ (tok Ident 193 194 (codes "i")) ∷ (tok Operator 194 196 (codes "++")) ∷ (tok Operator 197 198 (codes "{")) ∷ (tok Ident 201 208 (codes "println")) ∷ (tok Operator 208 209 (codes "(")) ∷ (tok Ident 209 212 (codes "lib")) ∷ (tok Operator 212 213 (codes ".")) ∷ (tok Ident 213 220 (codes "PadLeft")) ∷ (tok Operator 220 221 (codes "(")) ∷ (tok Ident 221 225 (codes "rows")) ∷ (tok Operator 225 226 (codes "[")) ∷ (tok Ident 226 227 (codes "i")) ∷ (tok Operator 227 228 (codes "]")) ∷ (tok Operator 228 229 (codes ".")) ∷ (tok Ident 229 233 (codes "Body")) ∷ (tok Operator 233 234 (codes ",")) ∷ (tok Ident 235 238 (codes "lib")) ∷ (tok Operator 238 239 (codes ".")) ∷ (tok Ident 239 247 (codes "MaxWidth")) ∷ (tok Operator 247 248 (codes ")")) ∷ (tok Operator 248 249 (codes ")")) ∷ (tok Inserted 249 249 (codes ";")) ∷ (tok Operator 251 252 (codes "}")) ∷ (tok Inserted 252 252 (codes ";")) ∷ (tok Ident 254 257 (codes "lib")) ∷ (tok Operator 257 258 (codes ".")) ∷ (tok Ident 258 262 (codes "Show")) ∷ (tok Operator 262 263 (codes "(")) ∷ (tok Ident 263 267 (codes "rows")) ∷ (tok Operator 267 268 (codes ",")) ∷ (tok Integer 269 270 (codes "4")) ∷ (tok Operator 270 271 (codes ")")) ∷ (tok Inserted 271 271 (codes ";")) ∷ (tok Ident 273 280 (codes "println")) ∷ (tok Operator 280 281 (codes "(")) ∷ (tok Ident 281 284 (codes "lib")) ∷ (tok Operator 284 285 (codes ".")) ∷ (tok Ident 285 290 (codes "Total")) ∷ (tok Operator 290 291 (codes "(")) ∷ (tok Ident 291 295 (codes "rows")) ∷ (tok Operator 295 296 (codes ")")) ∷ (tok Operator 296 297 (codes ")")) ∷ (tok Inserted 297 297 (codes ";")) ∷ (tok Operator 298 299 (codes "}")) ∷ (tok Inserted 299 299 (codes ";")) ∷ []); comments = ((note 128 139) ∷ []) })

abbrev library_tree3 : File At
library_tree3 = record { package_name = (nmf 8 12 8 12 (codes "main")); imports = ((imps (from 14 67 14 67) true ((imp (from 24 41 24 41) None (codes "example.com/lib")) ∷ (imp (from 43 65 43 65) None (codes "example.com/lib/text")) ∷ [])) ∷ []); decls = ((fn (from 69 141 45 115) None (nmf 74 78 50 54 (codes "load")) (sig [] ((param (from 81 92 57 66) None (slice_type (from 81 92 57 66) (named (from 83 92 59 66) (Some (nmf 83 87 59 66 (codes "text"))) (nmf 88 92 59 66 (codes "Line"))))) ∷ [])) (from 93 141 67 115) (stmt_and (return_ (from 96 127 70 101) (expr_and (composite (from 103 127 77 101) (slice_type (from 103 112 77 86) (named (from 105 112 79 86) (Some (nmf 105 108 79 82 (codes "lib"))) (nmf 109 112 83 86 (codes "Row")))) (elem (from 113 118 87 92) no_value (braced (from 113 118 87 92) (elem (from 114 117 88 91) no_value (plain (str_lit (from 114 117 88 91) (codes "\"a\""))) no_elems)) (elem (from 120 126 94 100) no_value (braced (from 120 126 94 100) (elem (from 121 125 95 99) no_value (plain (str_lit (from 121 125 95 99) (codes "\"bc\""))) no_elems)) no_elems))) no_exprs)) no_stmts)) ∷ (fn (from 143 299 117 273) None (nmf 148 152 122 126 (codes "main")) (sig [] []) (from 155 299 129 273) (stmt_and (define (from 158 172 132 146) ((nmf 158 162 132 136 (codes "rows")) ∷ []) (expr_and (call (from 166 172 140 146) (ident (from 166 170 140 144) (codes "load")) no_exprs Plain) no_exprs)) (stmt_and (for_ (from 174 252 148 226) (some_stmt (define (from 178 184 152 158) ((nmf 178 179 152 153 (codes "i")) ∷ []) (expr_and (int_lit (from 183 184 157 158) (codes "0")) no_exprs))) (some_expr (binary (from 186 191 160 165) Lt (ident (from 186 187 160 161) (codes "i")) (int_lit (from 190 191 164 165) (codes "2")))) (some_stmt (step (from 193 196 167 170) (ident (from 193 194 167 168) (codes "i")) true)) (from 197 252 171 226) (stmt_and (eval (from 201 249 175 223) (call (from 201 249 175 223) (ident (from 201 208 175 182) (codes "println")) (expr_and (call (from 209 248 183 222) (selector (from 209 220 183 194) (ident (from 209 212 183 186) (codes "lib")) (nmf 213 220 187 194 (codes "PadLeft"))) (expr_and (selector (from 221 233 195 207) (index (from 221 228 195 202) (ident (from 221 225 195 199) (codes "rows")) (ident (from 226 227 200 201) (codes "i"))) (nmf 229 233 203 207 (codes "Body"))) (expr_and (selector (from 235 247 209 221) (ident (from 235 238 209 212) (codes "lib")) (nmf 239 247 213 221 (codes "MaxWidth"))) no_exprs)) Plain) no_exprs) Plain)) no_stmts)) (stmt_and (eval (from 254 271 228 245) (call (from 254 271 228 245) (selector (from 254 262 228 236) (ident (from 254 257 228 231) (codes "lib")) (nmf 258 262 232 236 (codes "Show"))) (expr_and (ident (from 263 267 237 241) (codes "rows")) (expr_and (int_lit (from 269 270 243 244) (codes "4")) no_exprs)) Plain)) (stmt_and (eval (from 273 297 247 271) (call (from 273 297 247 271) (ident (from 273 280 247 254) (codes "println")) (expr_and (call (from 281 296 255 270) (selector (from 281 290 255 264) (ident (from 281 284 255 258) (codes "lib")) (nmf 285 290 259 264 (codes "Total"))) (expr_and (ident (from 291 295 265 269) (codes "rows")) no_exprs) Plain) no_exprs) Plain)) no_stmts))))) ∷ []) }

library_steps3 : is_some (step_in library.marks library_s2) ≡ true
unfolding passes keyword_spellings is_inline digits
library_steps3 = refl

abbrev library_s3 : Standing
library_s3 = record { packages = (record { path = (codes "example.com/lib/cmd"); name = (codes "main"); files = (record { path = (codes "cmd/main.go"); tree = library_tree3 } ∷ []) } ∷ record { path = (codes "example.com/lib"); name = (codes "lib"); files = (record { path = (codes "lib.go"); tree = library_tree2 } ∷ []) } ∷ record { path = (codes "example.com/lib/text"); name = (codes "text"); files = (record { path = (codes "text/text.go"); tree = (file_with as_read library_f2) } ∷ []) } ∷ []); texts = (((codes "cmd/main.go"), library_n3) ∷ ((codes "lib.go"), library_n2) ∷ ((codes "text/text.go"), library_t2) ∷ []) }

abbrev library_l3 : Logged
library_l3 = record { file = (codes "cmd/main.go"); origin = at 59 66; home = (codes "example.com/lib"); name = (codes "Row"); form = TypeForm; edits = (record { span = at 42 42; text = (codes "\t\"example.com/lib/text\"\n") } ∷ record { span = at 59 66; text = (codes "text.Line") } ∷ []) }

abbrev library_next3 : TokensOf library_n3.text library_n3.tokens library_n3.comments → Next library.marks library_s2 library_l3 library_s3
unfolding passes keyword_spellings is_inline digits reading library_steps3
library_next3 h = next_by library.marks library_s2 library_steps3 library_t0 library_n3 library_tree3 refl refl h refl refl

abbrev library_n4 : FileText
library_n4 = (record { text = (codes "package main\n\nimport (\n\t\"example.com/lib\"\n\t\"example.com/lib/text\"\n)\n\nfunc load() []text.Line {\n\treturn []text.Line{{\"a\"}, {\"bc\"}} // two rows\n}\n\nfunc main() {\n\trows := load()\n\tfor i := 0; i < 2; i++ {\n\t\tprintln(lib.PadLeft(rows[i].Body, lib.MaxWidth))\n\t}\n\tlib.Show(rows, 4)\n\tprintln(lib.Total(rows))\n}\n"); tokens = ((tok Keyword 0 7 (codes "package")) ∷ (tok Ident 8 12 (codes "main")) ∷ (tok Inserted 12 12 (codes ";")) ∷ (tok Keyword 14 20 (codes "import")) ∷ (tok Operator 21 22 (codes "(")) ∷ (tok Str 24 41 (codes "\"example.com/lib\"")) ∷ (tok Inserted 41 41 (codes ";")) ∷ (tok Str 43 65 (codes "\"example.com/lib/text\"")) ∷ (tok Inserted 65 65 (codes ";")) ∷ (tok Operator 66 67 (codes ")")) ∷ (tok Inserted 67 67 (codes ";")) ∷ (tok Keyword 69 73 (codes "func")) ∷ (tok Ident 74 78 (codes "load")) ∷ (tok Operator 78 79 (codes "(")) ∷ (tok Operator 79 80 (codes ")")) ∷ (tok Operator 81 82 (codes "[")) ∷ (tok Operator 82 83 (codes "]")) ∷ (tok Ident 83 87 (codes "text")) ∷ (tok Operator 87 88 (codes ".")) ∷ (tok Ident 88 92 (codes "Line")) ∷ (tok Operator 93 94 (codes "{")) ∷ (tok Keyword 96 102 (codes "return")) ∷ (tok Operator 103 104 (codes "[")) ∷ (tok Operator 104 105 (codes "]")) ∷ (tok Ident 105 109 (codes "text")) ∷ (tok Operator 109 110 (codes ".")) ∷ (tok Ident 110 114 (codes "Line")) ∷ (tok Operator 114 115 (codes "{")) ∷ (tok Operator 115 116 (codes "{")) ∷ (tok Str 116 119 (codes "\"a\"")) ∷ (tok Operator 119 120 (codes "}")) ∷ (tok Operator 120 121 (codes ",")) ∷ (tok Operator 122 123 (codes "{")) ∷ (tok Str 123 127 (codes "\"bc\"")) ∷ (tok Operator 127 128 (codes "}")) ∷ (tok Operator 128 129 (codes "}")) ∷ (tok Inserted 129 129 (codes ";")) ∷ (tok Operator 142 143 (codes "}")) ∷ (tok Inserted 143 143 (codes ";")) ∷ (tok Keyword 145 149 (codes "func")) ∷ (tok Ident 150 154 (codes "main")) ∷ (tok Operator 154 155 (codes "(")) ∷ (tok Operator 155 156 (codes ")")) ∷ (tok Operator 157 158 (codes "{")) ∷ (tok Ident 160 164 (codes "rows")) ∷ (tok Operator 165 167 (codes ":=")) ∷ (tok Ident 168 172 (codes "load")) ∷ (tok Operator 172 173 (codes "(")) ∷ (tok Operator 173 174 (codes ")")) ∷ (tok Inserted 174 174 (codes ";")) ∷ (tok Keyword 176 179 (codes "for")) ∷ (tok Ident 180 181 (codes "i")) ∷ (tok Operator 182 184 (codes ":=")) ∷ (tok Integer 185 186 (codes "0")) ∷ (tok Operator 186 187 (codes ";")) ∷ (tok Ident 188 189 (codes "i")) ∷ (tok Operator 190 191 (codes "<")) ∷ (tok Integer 192 193 (codes "2")) ∷ (tok Operator 193 194 (codes ";")) ∷ (tok Ident 195 196 (codes "i")) ∷ (tok Operator 196 198 (codes "++")) ∷ (tok Operator 199 200 (codes "{")) ∷ (tok Ident 203 210 (codes "println")) ∷ (tok Operator 210 211 (codes "(")) ∷ (tok Ident 211 214 (codes "lib")) ∷ (tok Operator 214 215 (codes ".")) ∷ (tok Ident 215 222 (codes "PadLeft")) ∷ (tok Operator 222 223 (codes "(")) ∷ (tok Ident 223 227 (codes "rows")) ∷ (tok Operator 227 228 (codes "[")) ∷ (tok Ident 228 229 (codes "i")) ∷ (tok Operator 229 230 (codes "]")) ∷ (tok Operator 230 231 (codes ".")) ∷ (tok Ident 231 235 (codes "Body")) ∷ (tok Operator 235 236 (codes ",")) ∷ (tok Ident 237 240 (codes "lib")) ∷ (tok Operator 240 241 (codes ".")) ∷ (tok Ident 241 249 (codes "MaxWidth")) ∷ (tok Operator 249 250 (codes ")")) ∷ (tok Operator 250 251 (codes ")")) ∷ (tok Inserted 251 251 (codes ";")) ∷ (tok Operator 253 254 (codes "}")) ∷ (tok Inserted 254 254 (codes ";")) ∷ (tok Ident 256 259 (codes "lib")) ∷ (tok Operator 259 260 (codes ".")) ∷ (tok Ident 260 264 (codes "Show")) ∷ (tok Operator 264 265 (codes "(")) ∷ (tok Ident 265 269 (codes "rows")) ∷ (tok Operator 269 270 (codes ",")) ∷ (tok Integer 271 272 (codes "4")) ∷ (tok Operator 272 273 (codes ")")) ∷ (tok Inserted 273 273 (codes ";")) ∷ (tok Ident 275 282 (codes "println")) ∷ (tok Operator 282 283 (codes "(")) ∷ (tok Ident 283 286 (codes "lib")) ∷ (tok Operator 286 287 (codes ".")) ∷ (tok Ident 287 292 (codes "Total")) ∷ (tok Operator 292 293 (codes "(")) ∷ (tok Ident 293 297 (codes "rows")) ∷ (tok Operator 297 298 (codes ")")) ∷ (tok Operator 298 299 (codes ")")) ∷ (tok Inserted 299 299 (codes ";")) ∷ (tok Operator 300 301 (codes "}")) ∷ (tok Inserted 301 301 (codes ";")) ∷ []); comments = ((note 130 141) ∷ []) })

abbrev library_tree4 : File At
library_tree4 = record { package_name = (nmf 8 12 8 12 (codes "main")); imports = ((imps (from 14 67 14 67) true ((imp (from 24 41 24 41) None (codes "example.com/lib")) ∷ (imp (from 43 65 43 65) None (codes "example.com/lib/text")) ∷ [])) ∷ []); decls = ((fn (from 69 143 45 115) None (nmf 74 78 50 54 (codes "load")) (sig [] ((param (from 81 92 57 66) None (slice_type (from 81 92 57 66) (named (from 83 92 59 66) (Some (nmf 83 87 59 66 (codes "text"))) (nmf 88 92 59 66 (codes "Line"))))) ∷ [])) (from 93 143 67 115) (stmt_and (return_ (from 96 129 70 101) (expr_and (composite (from 103 129 77 101) (slice_type (from 103 114 77 86) (named (from 105 114 79 86) (Some (nmf 105 109 79 86 (codes "text"))) (nmf 110 114 79 86 (codes "Line")))) (elem (from 115 120 87 92) no_value (braced (from 115 120 87 92) (elem (from 116 119 88 91) no_value (plain (str_lit (from 116 119 88 91) (codes "\"a\""))) no_elems)) (elem (from 122 128 94 100) no_value (braced (from 122 128 94 100) (elem (from 123 127 95 99) no_value (plain (str_lit (from 123 127 95 99) (codes "\"bc\""))) no_elems)) no_elems))) no_exprs)) no_stmts)) ∷ (fn (from 145 301 117 273) None (nmf 150 154 122 126 (codes "main")) (sig [] []) (from 157 301 129 273) (stmt_and (define (from 160 174 132 146) ((nmf 160 164 132 136 (codes "rows")) ∷ []) (expr_and (call (from 168 174 140 146) (ident (from 168 172 140 144) (codes "load")) no_exprs Plain) no_exprs)) (stmt_and (for_ (from 176 254 148 226) (some_stmt (define (from 180 186 152 158) ((nmf 180 181 152 153 (codes "i")) ∷ []) (expr_and (int_lit (from 185 186 157 158) (codes "0")) no_exprs))) (some_expr (binary (from 188 193 160 165) Lt (ident (from 188 189 160 161) (codes "i")) (int_lit (from 192 193 164 165) (codes "2")))) (some_stmt (step (from 195 198 167 170) (ident (from 195 196 167 168) (codes "i")) true)) (from 199 254 171 226) (stmt_and (eval (from 203 251 175 223) (call (from 203 251 175 223) (ident (from 203 210 175 182) (codes "println")) (expr_and (call (from 211 250 183 222) (selector (from 211 222 183 194) (ident (from 211 214 183 186) (codes "lib")) (nmf 215 222 187 194 (codes "PadLeft"))) (expr_and (selector (from 223 235 195 207) (index (from 223 230 195 202) (ident (from 223 227 195 199) (codes "rows")) (ident (from 228 229 200 201) (codes "i"))) (nmf 231 235 203 207 (codes "Body"))) (expr_and (selector (from 237 249 209 221) (ident (from 237 240 209 212) (codes "lib")) (nmf 241 249 213 221 (codes "MaxWidth"))) no_exprs)) Plain) no_exprs) Plain)) no_stmts)) (stmt_and (eval (from 256 273 228 245) (call (from 256 273 228 245) (selector (from 256 264 228 236) (ident (from 256 259 228 231) (codes "lib")) (nmf 260 264 232 236 (codes "Show"))) (expr_and (ident (from 265 269 237 241) (codes "rows")) (expr_and (int_lit (from 271 272 243 244) (codes "4")) no_exprs)) Plain)) (stmt_and (eval (from 275 299 247 271) (call (from 275 299 247 271) (ident (from 275 282 247 254) (codes "println")) (expr_and (call (from 283 298 255 270) (selector (from 283 292 255 264) (ident (from 283 286 255 258) (codes "lib")) (nmf 287 292 259 264 (codes "Total"))) (expr_and (ident (from 293 297 265 269) (codes "rows")) no_exprs) Plain) no_exprs) Plain)) no_stmts))))) ∷ []) }

library_steps4 : is_some (step_in library.marks library_s3) ≡ true
unfolding passes keyword_spellings is_inline digits
library_steps4 = refl

abbrev library_s4 : Standing
library_s4 = record { packages = (record { path = (codes "example.com/lib/cmd"); name = (codes "main"); files = (record { path = (codes "cmd/main.go"); tree = library_tree4 } ∷ []) } ∷ record { path = (codes "example.com/lib"); name = (codes "lib"); files = (record { path = (codes "lib.go"); tree = library_tree2 } ∷ []) } ∷ record { path = (codes "example.com/lib/text"); name = (codes "text"); files = (record { path = (codes "text/text.go"); tree = (file_with as_read library_f2) } ∷ []) } ∷ []); texts = (((codes "cmd/main.go"), library_n4) ∷ ((codes "lib.go"), library_n2) ∷ ((codes "text/text.go"), library_t2) ∷ []) }

abbrev library_l4 : Logged
library_l4 = record { file = (codes "cmd/main.go"); origin = at 79 86; home = (codes "example.com/lib"); name = (codes "Row"); form = TypeForm; edits = (record { span = at 105 112; text = (codes "text.Line") } ∷ []) }

abbrev library_next4 : TokensOf library_n4.text library_n4.tokens library_n4.comments → Next library.marks library_s3 library_l4 library_s4
unfolding passes keyword_spellings is_inline digits reading library_steps4
library_next4 h = next_by library.marks library_s3 library_steps4 library_n3 library_n4 library_tree4 refl refl h refl refl

abbrev library_n5 : FileText
library_n5 = (record { text = (codes "package main\n\nimport (\n\t\"example.com/lib\"\n\t\"example.com/lib/text\"\n)\n\nfunc load() []text.Line {\n\treturn []text.Line{{\"a\"}, {\"bc\"}} // two rows\n}\n\nfunc main() {\n\trows := load()\n\tfor i := 0; i < 2; i++ {\n\t\tprintln(lib.PadLeft(rows[i].Body, text.Wide))\n\t}\n\tlib.Show(rows, 4)\n\tprintln(lib.Total(rows))\n}\n"); tokens = ((tok Keyword 0 7 (codes "package")) ∷ (tok Ident 8 12 (codes "main")) ∷ (tok Inserted 12 12 (codes ";")) ∷ (tok Keyword 14 20 (codes "import")) ∷ (tok Operator 21 22 (codes "(")) ∷ (tok Str 24 41 (codes "\"example.com/lib\"")) ∷ (tok Inserted 41 41 (codes ";")) ∷ (tok Str 43 65 (codes "\"example.com/lib/text\"")) ∷ (tok Inserted 65 65 (codes ";")) ∷ (tok Operator 66 67 (codes ")")) ∷ (tok Inserted 67 67 (codes ";")) ∷ (tok Keyword 69 73 (codes "func")) ∷ (tok Ident 74 78 (codes "load")) ∷ (tok Operator 78 79 (codes "(")) ∷ (tok Operator 79 80 (codes ")")) ∷ (tok Operator 81 82 (codes "[")) ∷ (tok Operator 82 83 (codes "]")) ∷ (tok Ident 83 87 (codes "text")) ∷ (tok Operator 87 88 (codes ".")) ∷ (tok Ident 88 92 (codes "Line")) ∷ (tok Operator 93 94 (codes "{")) ∷ (tok Keyword 96 102 (codes "return")) ∷ (tok Operator 103 104 (codes "[")) ∷ (tok Operator 104 105 (codes "]")) ∷ (tok Ident 105 109 (codes "text")) ∷ (tok Operator 109 110 (codes ".")) ∷ (tok Ident 110 114 (codes "Line")) ∷ (tok Operator 114 115 (codes "{")) ∷ (tok Operator 115 116 (codes "{")) ∷ (tok Str 116 119 (codes "\"a\"")) ∷ (tok Operator 119 120 (codes "}")) ∷ (tok Operator 120 121 (codes ",")) ∷ (tok Operator 122 123 (codes "{")) ∷ (tok Str 123 127 (codes "\"bc\"")) ∷ (tok Operator 127 128 (codes "}")) ∷ (tok Operator 128 129 (codes "}")) ∷ (tok Inserted 129 129 (codes ";")) ∷ (tok Operator 142 143 (codes "}")) ∷ (tok Inserted 143 143 (codes ";")) ∷ (tok Keyword 145 149 (codes "func")) ∷ (tok Ident 150 154 (codes "main")) ∷ (tok Operator 154 155 (codes "(")) ∷ (tok Operator 155 156 (codes ")")) ∷ (tok Operator 157 158 (codes "{")) ∷ (tok Ident 160 164 (codes "rows")) ∷ (tok Operator 165 167 (codes ":=")) ∷ (tok Ident 168 172 (codes "load")) ∷ (tok Operator 172 173 (codes "(")) ∷ (tok Operator 173 174 (codes ")")) ∷ (tok Inserted 174 174 (codes ";")) ∷ (tok Keyword 176 179 (codes "for")) ∷ (tok Ident 180 181 (codes "i")) ∷ (tok Operator 182 184 (codes ":=")) ∷ (tok Integer 185 186 (codes "0")) ∷ (tok Operator 186 187 (codes ";")) ∷ (tok Ident 188 189 (codes "i")) ∷ (tok Operator 190 191 (codes "<")) ∷ (tok Integer 192 193 (codes "2")) ∷ (tok Operator 193 194 (codes ";")) ∷ (tok Ident 195 196 (codes "i")) ∷ (tok Operator 196 198 (codes "++")) ∷ (tok Operator 199 200 (codes "{")) ∷ (tok Ident 203 210 (codes "println")) ∷ (tok Operator 210 211 (codes "(")) ∷ (tok Ident 211 214 (codes "lib")) ∷ (tok Operator 214 215 (codes ".")) ∷ (tok Ident 215 222 (codes "PadLeft")) ∷ (tok Operator 222 223 (codes "(")) ∷ (tok Ident 223 227 (codes "rows")) ∷ (tok Operator 227 228 (codes "[")) ∷ (tok Ident 228 229 (codes "i")) ∷ (tok Operator 229 230 (codes "]")) ∷ (tok Operator 230 231 (codes ".")) ∷ (tok Ident 231 235 (codes "Body")) ∷ (tok Operator 235 236 (codes ",")) ∷ (tok Ident 237 241 (codes "text")) ∷ (tok Operator 241 242 (codes ".")) ∷ (tok Ident 242 246 (codes "Wide")) ∷ (tok Operator 246 247 (codes ")")) ∷ (tok Operator 247 248 (codes ")")) ∷ (tok Inserted 248 248 (codes ";")) ∷ (tok Operator 250 251 (codes "}")) ∷ (tok Inserted 251 251 (codes ";")) ∷ (tok Ident 253 256 (codes "lib")) ∷ (tok Operator 256 257 (codes ".")) ∷ (tok Ident 257 261 (codes "Show")) ∷ (tok Operator 261 262 (codes "(")) ∷ (tok Ident 262 266 (codes "rows")) ∷ (tok Operator 266 267 (codes ",")) ∷ (tok Integer 268 269 (codes "4")) ∷ (tok Operator 269 270 (codes ")")) ∷ (tok Inserted 270 270 (codes ";")) ∷ (tok Ident 272 279 (codes "println")) ∷ (tok Operator 279 280 (codes "(")) ∷ (tok Ident 280 283 (codes "lib")) ∷ (tok Operator 283 284 (codes ".")) ∷ (tok Ident 284 289 (codes "Total")) ∷ (tok Operator 289 290 (codes "(")) ∷ (tok Ident 290 294 (codes "rows")) ∷ (tok Operator 294 295 (codes ")")) ∷ (tok Operator 295 296 (codes ")")) ∷ (tok Inserted 296 296 (codes ";")) ∷ (tok Operator 297 298 (codes "}")) ∷ (tok Inserted 298 298 (codes ";")) ∷ []); comments = ((note 130 141) ∷ []) })

abbrev library_tree5 : File At
library_tree5 = record { package_name = (nmf 8 12 8 12 (codes "main")); imports = ((imps (from 14 67 14 67) true ((imp (from 24 41 24 41) None (codes "example.com/lib")) ∷ (imp (from 43 65 43 65) None (codes "example.com/lib/text")) ∷ [])) ∷ []); decls = ((fn (from 69 143 45 115) None (nmf 74 78 50 54 (codes "load")) (sig [] ((param (from 81 92 57 66) None (slice_type (from 81 92 57 66) (named (from 83 92 59 66) (Some (nmf 83 87 59 66 (codes "text"))) (nmf 88 92 59 66 (codes "Line"))))) ∷ [])) (from 93 143 67 115) (stmt_and (return_ (from 96 129 70 101) (expr_and (composite (from 103 129 77 101) (slice_type (from 103 114 77 86) (named (from 105 114 79 86) (Some (nmf 105 109 79 86 (codes "text"))) (nmf 110 114 79 86 (codes "Line")))) (elem (from 115 120 87 92) no_value (braced (from 115 120 87 92) (elem (from 116 119 88 91) no_value (plain (str_lit (from 116 119 88 91) (codes "\"a\""))) no_elems)) (elem (from 122 128 94 100) no_value (braced (from 122 128 94 100) (elem (from 123 127 95 99) no_value (plain (str_lit (from 123 127 95 99) (codes "\"bc\""))) no_elems)) no_elems))) no_exprs)) no_stmts)) ∷ (fn (from 145 298 117 273) None (nmf 150 154 122 126 (codes "main")) (sig [] []) (from 157 298 129 273) (stmt_and (define (from 160 174 132 146) ((nmf 160 164 132 136 (codes "rows")) ∷ []) (expr_and (call (from 168 174 140 146) (ident (from 168 172 140 144) (codes "load")) no_exprs Plain) no_exprs)) (stmt_and (for_ (from 176 251 148 226) (some_stmt (define (from 180 186 152 158) ((nmf 180 181 152 153 (codes "i")) ∷ []) (expr_and (int_lit (from 185 186 157 158) (codes "0")) no_exprs))) (some_expr (binary (from 188 193 160 165) Lt (ident (from 188 189 160 161) (codes "i")) (int_lit (from 192 193 164 165) (codes "2")))) (some_stmt (step (from 195 198 167 170) (ident (from 195 196 167 168) (codes "i")) true)) (from 199 251 171 226) (stmt_and (eval (from 203 248 175 223) (call (from 203 248 175 223) (ident (from 203 210 175 182) (codes "println")) (expr_and (call (from 211 247 183 222) (selector (from 211 222 183 194) (ident (from 211 214 183 186) (codes "lib")) (nmf 215 222 187 194 (codes "PadLeft"))) (expr_and (selector (from 223 235 195 207) (index (from 223 230 195 202) (ident (from 223 227 195 199) (codes "rows")) (ident (from 228 229 200 201) (codes "i"))) (nmf 231 235 203 207 (codes "Body"))) (expr_and (selector (from 237 246 209 221) (ident (from 237 241 209 221) (codes "text")) (nmf 242 246 209 221 (codes "Wide"))) no_exprs)) Plain) no_exprs) Plain)) no_stmts)) (stmt_and (eval (from 253 270 228 245) (call (from 253 270 228 245) (selector (from 253 261 228 236) (ident (from 253 256 228 231) (codes "lib")) (nmf 257 261 232 236 (codes "Show"))) (expr_and (ident (from 262 266 237 241) (codes "rows")) (expr_and (int_lit (from 268 269 243 244) (codes "4")) no_exprs)) Plain)) (stmt_and (eval (from 272 296 247 271) (call (from 272 296 247 271) (ident (from 272 279 247 254) (codes "println")) (expr_and (call (from 280 295 255 270) (selector (from 280 289 255 264) (ident (from 280 283 255 258) (codes "lib")) (nmf 284 289 259 264 (codes "Total"))) (expr_and (ident (from 290 294 265 269) (codes "rows")) no_exprs) Plain) no_exprs) Plain)) no_stmts))))) ∷ []) }

library_steps5 : is_some (step_in library.marks library_s4) ≡ true
unfolding passes keyword_spellings is_inline digits
library_steps5 = refl

abbrev library_s5 : Standing
library_s5 = record { packages = (record { path = (codes "example.com/lib/cmd"); name = (codes "main"); files = (record { path = (codes "cmd/main.go"); tree = library_tree5 } ∷ []) } ∷ record { path = (codes "example.com/lib"); name = (codes "lib"); files = (record { path = (codes "lib.go"); tree = library_tree2 } ∷ []) } ∷ record { path = (codes "example.com/lib/text"); name = (codes "text"); files = (record { path = (codes "text/text.go"); tree = (file_with as_read library_f2) } ∷ []) } ∷ []); texts = (((codes "cmd/main.go"), library_n5) ∷ ((codes "lib.go"), library_n2) ∷ ((codes "text/text.go"), library_t2) ∷ []) }

abbrev library_l5 : Logged
library_l5 = record { file = (codes "cmd/main.go"); origin = at 209 221; home = (codes "example.com/lib"); name = (codes "MaxWidth"); form = ConstForm; edits = (record { span = at 237 249; text = (codes "text.Wide") } ∷ []) }

abbrev library_next5 : TokensOf library_n5.text library_n5.tokens library_n5.comments → Next library.marks library_s4 library_l5 library_s5
unfolding passes keyword_spellings is_inline digits reading library_steps5
library_next5 h = next_by library.marks library_s4 library_steps5 library_n4 library_n5 library_tree5 refl refl h refl refl

abbrev library_n6 : FileText
library_n6 = (record { text = (codes "package main\n\nimport (\n\t\"example.com/lib\"\n\t\"example.com/lib/text\"\n)\n\nfunc load() []text.Line {\n\treturn []text.Line{{\"a\"}, {\"bc\"}} // two rows\n}\n\nfunc main() {\n\trows := load()\n\tfor i := 0; i < 2; i++ {\n\t\tprintln(text.Pad(rows[i].Body, text.Wide, true))\n\t}\n\tlib.Show(rows, 4)\n\tprintln(lib.Total(rows))\n}\n"); tokens = ((tok Keyword 0 7 (codes "package")) ∷ (tok Ident 8 12 (codes "main")) ∷ (tok Inserted 12 12 (codes ";")) ∷ (tok Keyword 14 20 (codes "import")) ∷ (tok Operator 21 22 (codes "(")) ∷ (tok Str 24 41 (codes "\"example.com/lib\"")) ∷ (tok Inserted 41 41 (codes ";")) ∷ (tok Str 43 65 (codes "\"example.com/lib/text\"")) ∷ (tok Inserted 65 65 (codes ";")) ∷ (tok Operator 66 67 (codes ")")) ∷ (tok Inserted 67 67 (codes ";")) ∷ (tok Keyword 69 73 (codes "func")) ∷ (tok Ident 74 78 (codes "load")) ∷ (tok Operator 78 79 (codes "(")) ∷ (tok Operator 79 80 (codes ")")) ∷ (tok Operator 81 82 (codes "[")) ∷ (tok Operator 82 83 (codes "]")) ∷ (tok Ident 83 87 (codes "text")) ∷ (tok Operator 87 88 (codes ".")) ∷ (tok Ident 88 92 (codes "Line")) ∷ (tok Operator 93 94 (codes "{")) ∷ (tok Keyword 96 102 (codes "return")) ∷ (tok Operator 103 104 (codes "[")) ∷ (tok Operator 104 105 (codes "]")) ∷ (tok Ident 105 109 (codes "text")) ∷ (tok Operator 109 110 (codes ".")) ∷ (tok Ident 110 114 (codes "Line")) ∷ (tok Operator 114 115 (codes "{")) ∷ (tok Operator 115 116 (codes "{")) ∷ (tok Str 116 119 (codes "\"a\"")) ∷ (tok Operator 119 120 (codes "}")) ∷ (tok Operator 120 121 (codes ",")) ∷ (tok Operator 122 123 (codes "{")) ∷ (tok Str 123 127 (codes "\"bc\"")) ∷ (tok Operator 127 128 (codes "}")) ∷ (tok Operator 128 129 (codes "}")) ∷ (tok Inserted 129 129 (codes ";")) ∷ (tok Operator 142 143 (codes "}")) ∷ (tok Inserted 143 143 (codes ";")) ∷ (tok Keyword 145 149 (codes "func")) ∷ (tok Ident 150 154 (codes "main")) ∷ (tok Operator 154 155 (codes "(")) ∷ (tok Operator 155 156 (codes ")")) ∷ (tok Operator 157 158 (codes "{")) ∷ (tok Ident 160 164 (codes "rows")) ∷ (tok Operator 165 167 (codes ":=")) ∷ (tok Ident 168 172 (codes "load")) ∷ (tok Operator 172 173 (codes "(")) ∷ (tok Operator 173 174 (codes ")")) ∷ (tok Inserted 174 174 (codes ";")) ∷ (tok Keyword 176 179 (codes "for")) ∷ (tok Ident 180 181 (codes "i")) ∷ (tok Operator 182 184 (codes ":=")) ∷ (tok Integer 185 186 (codes "0")) ∷ (tok Operator 186 187 (codes ";")) ∷ (tok Ident 188 189 (codes "i")) ∷ (tok Operator 190 191 (codes "<")) ∷ (tok Integer 192 193 (codes "2")) ∷ (tok Operator 193 194 (codes ";")) ∷ (tok Ident 195 196 (codes "i")) ∷ (tok Operator 196 198 (codes "++")) ∷ (tok Operator 199 200 (codes "{")) ∷ (tok Ident 203 210 (codes "println")) ∷ (tok Operator 210 211 (codes "(")) ∷ (tok Ident 211 215 (codes "text")) ∷ (tok Operator 215 216 (codes ".")) ∷ (tok Ident 216 219 (codes "Pad")) ∷ (tok Operator 219 220 (codes "(")) ∷ (tok Ident 220 224 (codes "rows")) ∷ (tok Operator 224 225 (codes "[")) ∷ (tok Ident 225 226 (codes "i")) ∷ (tok Operator 226 227 (codes "]")) ∷ (tok Operator 227 228 (codes ".")) ∷ (tok Ident 228 232 (codes "Body")) ∷ (tok Operator 232 233 (codes ",")) ∷ (tok Ident 234 238 (codes "text")) ∷ (tok Operator 238 239 (codes ".")) ∷ (tok Ident 239 243 (codes "Wide")) ∷ (tok Operator 243 244 (codes ",")) ∷ (tok Ident 245 249 (codes "true")) ∷ (tok Operator 249 250 (codes ")")) ∷ (tok Operator 250 251 (codes ")")) ∷ (tok Inserted 251 251 (codes ";")) ∷ (tok Operator 253 254 (codes "}")) ∷ (tok Inserted 254 254 (codes ";")) ∷ (tok Ident 256 259 (codes "lib")) ∷ (tok Operator 259 260 (codes ".")) ∷ (tok Ident 260 264 (codes "Show")) ∷ (tok Operator 264 265 (codes "(")) ∷ (tok Ident 265 269 (codes "rows")) ∷ (tok Operator 269 270 (codes ",")) ∷ (tok Integer 271 272 (codes "4")) ∷ (tok Operator 272 273 (codes ")")) ∷ (tok Inserted 273 273 (codes ";")) ∷ (tok Ident 275 282 (codes "println")) ∷ (tok Operator 282 283 (codes "(")) ∷ (tok Ident 283 286 (codes "lib")) ∷ (tok Operator 286 287 (codes ".")) ∷ (tok Ident 287 292 (codes "Total")) ∷ (tok Operator 292 293 (codes "(")) ∷ (tok Ident 293 297 (codes "rows")) ∷ (tok Operator 297 298 (codes ")")) ∷ (tok Operator 298 299 (codes ")")) ∷ (tok Inserted 299 299 (codes ";")) ∷ (tok Operator 300 301 (codes "}")) ∷ (tok Inserted 301 301 (codes ";")) ∷ []); comments = ((note 130 141) ∷ []) })

abbrev library_tree6 : File At
library_tree6 = record { package_name = (nmf 8 12 8 12 (codes "main")); imports = ((imps (from 14 67 14 67) true ((imp (from 24 41 24 41) None (codes "example.com/lib")) ∷ (imp (from 43 65 43 65) None (codes "example.com/lib/text")) ∷ [])) ∷ []); decls = ((fn (from 69 143 45 115) None (nmf 74 78 50 54 (codes "load")) (sig [] ((param (from 81 92 57 66) None (slice_type (from 81 92 57 66) (named (from 83 92 59 66) (Some (nmf 83 87 59 66 (codes "text"))) (nmf 88 92 59 66 (codes "Line"))))) ∷ [])) (from 93 143 67 115) (stmt_and (return_ (from 96 129 70 101) (expr_and (composite (from 103 129 77 101) (slice_type (from 103 114 77 86) (named (from 105 114 79 86) (Some (nmf 105 109 79 86 (codes "text"))) (nmf 110 114 79 86 (codes "Line")))) (elem (from 115 120 87 92) no_value (braced (from 115 120 87 92) (elem (from 116 119 88 91) no_value (plain (str_lit (from 116 119 88 91) (codes "\"a\""))) no_elems)) (elem (from 122 128 94 100) no_value (braced (from 122 128 94 100) (elem (from 123 127 95 99) no_value (plain (str_lit (from 123 127 95 99) (codes "\"bc\""))) no_elems)) no_elems))) no_exprs)) no_stmts)) ∷ (fn (from 145 301 117 273) None (nmf 150 154 122 126 (codes "main")) (sig [] []) (from 157 301 129 273) (stmt_and (define (from 160 174 132 146) ((nmf 160 164 132 136 (codes "rows")) ∷ []) (expr_and (call (from 168 174 140 146) (ident (from 168 172 140 144) (codes "load")) no_exprs Plain) no_exprs)) (stmt_and (for_ (from 176 254 148 226) (some_stmt (define (from 180 186 152 158) ((nmf 180 181 152 153 (codes "i")) ∷ []) (expr_and (int_lit (from 185 186 157 158) (codes "0")) no_exprs))) (some_expr (binary (from 188 193 160 165) Lt (ident (from 188 189 160 161) (codes "i")) (int_lit (from 192 193 164 165) (codes "2")))) (some_stmt (step (from 195 198 167 170) (ident (from 195 196 167 168) (codes "i")) true)) (from 199 254 171 226) (stmt_and (eval (from 203 251 175 223) (call (from 203 251 175 223) (ident (from 203 210 175 182) (codes "println")) (expr_and (call (from 211 250 183 222) (selector (from 211 219 183 222) (ident (from 211 215 183 222) (codes "text")) (nmf 216 219 183 222 (codes "Pad"))) (expr_and (selector (from 220 232 195 207) (index (from 220 227 195 202) (ident (from 220 224 195 199) (codes "rows")) (ident (from 225 226 200 201) (codes "i"))) (nmf 228 232 203 207 (codes "Body"))) (expr_and (selector (from 234 243 209 221) (ident (from 234 238 209 221) (codes "text")) (nmf 239 243 209 221 (codes "Wide"))) (expr_and (ident (from 245 249 183 222) (codes "true")) no_exprs))) Plain) no_exprs) Plain)) no_stmts)) (stmt_and (eval (from 256 273 228 245) (call (from 256 273 228 245) (selector (from 256 264 228 236) (ident (from 256 259 228 231) (codes "lib")) (nmf 260 264 232 236 (codes "Show"))) (expr_and (ident (from 265 269 237 241) (codes "rows")) (expr_and (int_lit (from 271 272 243 244) (codes "4")) no_exprs)) Plain)) (stmt_and (eval (from 275 299 247 271) (call (from 275 299 247 271) (ident (from 275 282 247 254) (codes "println")) (expr_and (call (from 283 298 255 270) (selector (from 283 292 255 264) (ident (from 283 286 255 258) (codes "lib")) (nmf 287 292 259 264 (codes "Total"))) (expr_and (ident (from 293 297 265 269) (codes "rows")) no_exprs) Plain) no_exprs) Plain)) no_stmts))))) ∷ []) }

library_steps6 : is_some (step_in library.marks library_s5) ≡ true
unfolding passes keyword_spellings is_inline digits
library_steps6 = refl

abbrev library_s6 : Standing
library_s6 = record { packages = (record { path = (codes "example.com/lib/cmd"); name = (codes "main"); files = (record { path = (codes "cmd/main.go"); tree = library_tree6 } ∷ []) } ∷ record { path = (codes "example.com/lib"); name = (codes "lib"); files = (record { path = (codes "lib.go"); tree = library_tree2 } ∷ []) } ∷ record { path = (codes "example.com/lib/text"); name = (codes "text"); files = (record { path = (codes "text/text.go"); tree = (file_with as_read library_f2) } ∷ []) } ∷ []); texts = (((codes "cmd/main.go"), library_n6) ∷ ((codes "lib.go"), library_n2) ∷ ((codes "text/text.go"), library_t2) ∷ []) }

abbrev library_l6 : Logged
library_l6 = record { file = (codes "cmd/main.go"); origin = at 183 222; home = (codes "example.com/lib"); name = (codes "PadLeft"); form = ExprForm; edits = (record { span = at 211 247; text = (codes "text.Pad(rows[i].Body, text.Wide, true)") } ∷ []) }

abbrev library_next6 : TokensOf library_n6.text library_n6.tokens library_n6.comments → Next library.marks library_s5 library_l6 library_s6
unfolding passes keyword_spellings is_inline digits reading library_steps6
library_next6 h = next_by library.marks library_s5 library_steps6 library_n5 library_n6 library_tree6 refl refl h refl refl

abbrev library_n7 : FileText
library_n7 = (record { text = (codes "package main\n\nimport (\n\t\"example.com/lib\"\n\t\"example.com/lib/text\"\n)\n\nfunc load() []text.Line {\n\treturn []text.Line{{\"a\"}, {\"bc\"}} // two rows\n}\n\nfunc main() {\n\trows := load()\n\tfor i := 0; i < 2; i++ {\n\t\tprintln(text.Pad(rows[i].Body, text.Wide, true))\n\t}\n\t{\n\t\tfor _, r := range rows {\n\t\t\ttext.Put(r, 4)\n\t\t}\n\t}\n\tprintln(lib.Total(rows))\n}\n"); tokens = ((tok Keyword 0 7 (codes "package")) ∷ (tok Ident 8 12 (codes "main")) ∷ (tok Inserted 12 12 (codes ";")) ∷ (tok Keyword 14 20 (codes "import")) ∷ (tok Operator 21 22 (codes "(")) ∷ (tok Str 24 41 (codes "\"example.com/lib\"")) ∷ (tok Inserted 41 41 (codes ";")) ∷ (tok Str 43 65 (codes "\"example.com/lib/text\"")) ∷ (tok Inserted 65 65 (codes ";")) ∷ (tok Operator 66 67 (codes ")")) ∷ (tok Inserted 67 67 (codes ";")) ∷ (tok Keyword 69 73 (codes "func")) ∷ (tok Ident 74 78 (codes "load")) ∷ (tok Operator 78 79 (codes "(")) ∷ (tok Operator 79 80 (codes ")")) ∷ (tok Operator 81 82 (codes "[")) ∷ (tok Operator 82 83 (codes "]")) ∷ (tok Ident 83 87 (codes "text")) ∷ (tok Operator 87 88 (codes ".")) ∷ (tok Ident 88 92 (codes "Line")) ∷ (tok Operator 93 94 (codes "{")) ∷ (tok Keyword 96 102 (codes "return")) ∷ (tok Operator 103 104 (codes "[")) ∷ (tok Operator 104 105 (codes "]")) ∷ (tok Ident 105 109 (codes "text")) ∷ (tok Operator 109 110 (codes ".")) ∷ (tok Ident 110 114 (codes "Line")) ∷ (tok Operator 114 115 (codes "{")) ∷ (tok Operator 115 116 (codes "{")) ∷ (tok Str 116 119 (codes "\"a\"")) ∷ (tok Operator 119 120 (codes "}")) ∷ (tok Operator 120 121 (codes ",")) ∷ (tok Operator 122 123 (codes "{")) ∷ (tok Str 123 127 (codes "\"bc\"")) ∷ (tok Operator 127 128 (codes "}")) ∷ (tok Operator 128 129 (codes "}")) ∷ (tok Inserted 129 129 (codes ";")) ∷ (tok Operator 142 143 (codes "}")) ∷ (tok Inserted 143 143 (codes ";")) ∷ (tok Keyword 145 149 (codes "func")) ∷ (tok Ident 150 154 (codes "main")) ∷ (tok Operator 154 155 (codes "(")) ∷ (tok Operator 155 156 (codes ")")) ∷ (tok Operator 157 158 (codes "{")) ∷ (tok Ident 160 164 (codes "rows")) ∷ (tok Operator 165 167 (codes ":=")) ∷ (tok Ident 168 172 (codes "load")) ∷ (tok Operator 172 173 (codes "(")) ∷ (tok Operator 173 174 (codes ")")) ∷ (tok Inserted 174 174 (codes ";")) ∷ (tok Keyword 176 179 (codes "for")) ∷ (tok Ident 180 181 (codes "i")) ∷ (tok Operator 182 184 (codes ":=")) ∷ (tok Integer 185 186 (codes "0")) ∷ (tok Operator 186 187 (codes ";")) ∷ (tok Ident 188 189 (codes "i")) ∷ (tok Operator 190 191 (codes "<")) ∷ (tok Integer 192 193 (codes "2")) ∷ (tok Operator 193 194 (codes ";")) ∷ (tok Ident 195 196 (codes "i")) ∷ (tok Operator 196 198 (codes "++")) ∷ (tok Operator 199 200 (codes "{")) ∷ (tok Ident 203 210 (codes "println")) ∷ (tok Operator 210 211 (codes "(")) ∷ (tok Ident 211 215 (codes "text")) ∷ (tok Operator 215 216 (codes ".")) ∷ (tok Ident 216 219 (codes "Pad")) ∷ (tok Operator 219 220 (codes "(")) ∷ (tok Ident 220 224 (codes "rows")) ∷ (tok Operator 224 225 (codes "[")) ∷ (tok Ident 225 226 (codes "i")) ∷ (tok Operator 226 227 (codes "]")) ∷ (tok Operator 227 228 (codes ".")) ∷ (tok Ident 228 232 (codes "Body")) ∷ (tok Operator 232 233 (codes ",")) ∷ (tok Ident 234 238 (codes "text")) ∷ (tok Operator 238 239 (codes ".")) ∷ (tok Ident 239 243 (codes "Wide")) ∷ (tok Operator 243 244 (codes ",")) ∷ (tok Ident 245 249 (codes "true")) ∷ (tok Operator 249 250 (codes ")")) ∷ (tok Operator 250 251 (codes ")")) ∷ (tok Inserted 251 251 (codes ";")) ∷ (tok Operator 253 254 (codes "}")) ∷ (tok Inserted 254 254 (codes ";")) ∷ (tok Operator 256 257 (codes "{")) ∷ (tok Keyword 260 263 (codes "for")) ∷ (tok Ident 264 265 (codes "_")) ∷ (tok Operator 265 266 (codes ",")) ∷ (tok Ident 267 268 (codes "r")) ∷ (tok Operator 269 271 (codes ":=")) ∷ (tok Keyword 272 277 (codes "range")) ∷ (tok Ident 278 282 (codes "rows")) ∷ (tok Operator 283 284 (codes "{")) ∷ (tok Ident 288 292 (codes "text")) ∷ (tok Operator 292 293 (codes ".")) ∷ (tok Ident 293 296 (codes "Put")) ∷ (tok Operator 296 297 (codes "(")) ∷ (tok Ident 297 298 (codes "r")) ∷ (tok Operator 298 299 (codes ",")) ∷ (tok Integer 300 301 (codes "4")) ∷ (tok Operator 301 302 (codes ")")) ∷ (tok Inserted 302 302 (codes ";")) ∷ (tok Operator 305 306 (codes "}")) ∷ (tok Inserted 306 306 (codes ";")) ∷ (tok Operator 308 309 (codes "}")) ∷ (tok Inserted 309 309 (codes ";")) ∷ (tok Ident 311 318 (codes "println")) ∷ (tok Operator 318 319 (codes "(")) ∷ (tok Ident 319 322 (codes "lib")) ∷ (tok Operator 322 323 (codes ".")) ∷ (tok Ident 323 328 (codes "Total")) ∷ (tok Operator 328 329 (codes "(")) ∷ (tok Ident 329 333 (codes "rows")) ∷ (tok Operator 333 334 (codes ")")) ∷ (tok Operator 334 335 (codes ")")) ∷ (tok Inserted 335 335 (codes ";")) ∷ (tok Operator 336 337 (codes "}")) ∷ (tok Inserted 337 337 (codes ";")) ∷ []); comments = ((note 130 141) ∷ []) })

abbrev library_tree7 : File At
library_tree7 = record { package_name = (nmf 8 12 8 12 (codes "main")); imports = ((imps (from 14 67 14 67) true ((imp (from 24 41 24 41) None (codes "example.com/lib")) ∷ (imp (from 43 65 43 65) None (codes "example.com/lib/text")) ∷ [])) ∷ []); decls = ((fn (from 69 143 45 115) None (nmf 74 78 50 54 (codes "load")) (sig [] ((param (from 81 92 57 66) None (slice_type (from 81 92 57 66) (named (from 83 92 59 66) (Some (nmf 83 87 59 66 (codes "text"))) (nmf 88 92 59 66 (codes "Line"))))) ∷ [])) (from 93 143 67 115) (stmt_and (return_ (from 96 129 70 101) (expr_and (composite (from 103 129 77 101) (slice_type (from 103 114 77 86) (named (from 105 114 79 86) (Some (nmf 105 109 79 86 (codes "text"))) (nmf 110 114 79 86 (codes "Line")))) (elem (from 115 120 87 92) no_value (braced (from 115 120 87 92) (elem (from 116 119 88 91) no_value (plain (str_lit (from 116 119 88 91) (codes "\"a\""))) no_elems)) (elem (from 122 128 94 100) no_value (braced (from 122 128 94 100) (elem (from 123 127 95 99) no_value (plain (str_lit (from 123 127 95 99) (codes "\"bc\""))) no_elems)) no_elems))) no_exprs)) no_stmts)) ∷ (fn (from 145 337 117 273) None (nmf 150 154 122 126 (codes "main")) (sig [] []) (from 157 337 129 273) (stmt_and (define (from 160 174 132 146) ((nmf 160 164 132 136 (codes "rows")) ∷ []) (expr_and (call (from 168 174 140 146) (ident (from 168 172 140 144) (codes "load")) no_exprs Plain) no_exprs)) (stmt_and (for_ (from 176 254 148 226) (some_stmt (define (from 180 186 152 158) ((nmf 180 181 152 153 (codes "i")) ∷ []) (expr_and (int_lit (from 185 186 157 158) (codes "0")) no_exprs))) (some_expr (binary (from 188 193 160 165) Lt (ident (from 188 189 160 161) (codes "i")) (int_lit (from 192 193 164 165) (codes "2")))) (some_stmt (step (from 195 198 167 170) (ident (from 195 196 167 168) (codes "i")) true)) (from 199 254 171 226) (stmt_and (eval (from 203 251 175 223) (call (from 203 251 175 223) (ident (from 203 210 175 182) (codes "println")) (expr_and (call (from 211 250 183 222) (selector (from 211 219 183 222) (ident (from 211 215 183 222) (codes "text")) (nmf 216 219 183 222 (codes "Pad"))) (expr_and (selector (from 220 232 195 207) (index (from 220 227 195 202) (ident (from 220 224 195 199) (codes "rows")) (ident (from 225 226 200 201) (codes "i"))) (nmf 228 232 203 207 (codes "Body"))) (expr_and (selector (from 234 243 209 221) (ident (from 234 238 209 221) (codes "text")) (nmf 239 243 209 221 (codes "Wide"))) (expr_and (ident (from 245 249 183 222) (codes "true")) no_exprs))) Plain) no_exprs) Plain)) no_stmts)) (stmt_and (inner (from 256 309 228 245) (stmt_and (range_ (from 260 306 228 245) (defines ((nmf 264 265 228 245 (codes "_")) ∷ (nmf 267 268 228 245 (codes "r")) ∷ [])) (ident (from 278 282 237 241) (codes "rows")) (from 283 306 228 245) (stmt_and (eval (from 288 302 228 245) (call (from 288 302 228 245) (selector (from 288 296 228 245) (ident (from 288 292 228 245) (codes "text")) (nmf 293 296 228 245 (codes "Put"))) (expr_and (ident (from 297 298 228 245) (codes "r")) (expr_and (int_lit (from 300 301 243 244) (codes "4")) no_exprs)) Plain)) no_stmts)) no_stmts)) (stmt_and (eval (from 311 335 247 271) (call (from 311 335 247 271) (ident (from 311 318 247 254) (codes "println")) (expr_and (call (from 319 334 255 270) (selector (from 319 328 255 264) (ident (from 319 322 255 258) (codes "lib")) (nmf 323 328 259 264 (codes "Total"))) (expr_and (ident (from 329 333 265 269) (codes "rows")) no_exprs) Plain) no_exprs) Plain)) no_stmts))))) ∷ []) }

library_steps7 : is_some (step_in library.marks library_s6) ≡ true
unfolding passes keyword_spellings is_inline digits
library_steps7 = refl

abbrev library_s7 : Standing
library_s7 = record { packages = (record { path = (codes "example.com/lib/cmd"); name = (codes "main"); files = (record { path = (codes "cmd/main.go"); tree = library_tree7 } ∷ []) } ∷ record { path = (codes "example.com/lib"); name = (codes "lib"); files = (record { path = (codes "lib.go"); tree = library_tree2 } ∷ []) } ∷ record { path = (codes "example.com/lib/text"); name = (codes "text"); files = (record { path = (codes "text/text.go"); tree = (file_with as_read library_f2) } ∷ []) } ∷ []); texts = (((codes "cmd/main.go"), library_n7) ∷ ((codes "lib.go"), library_n2) ∷ ((codes "text/text.go"), library_t2) ∷ []) }

abbrev library_l7 : Logged
library_l7 = record { file = (codes "cmd/main.go"); origin = at 228 245; home = (codes "example.com/lib"); name = (codes "Show"); form = BlockForm; edits = (record { span = at 256 273; text = (codes "{\n\t\tfor _, r := range rows {\n\t\t\ttext.Put(r, 4)\n\t\t}\n\t}") } ∷ []) }

abbrev library_next7 : TokensOf library_n7.text library_n7.tokens library_n7.comments → Next library.marks library_s6 library_l7 library_s7
unfolding passes keyword_spellings is_inline digits reading library_steps7
library_next7 h = next_by library.marks library_s6 library_steps7 library_n6 library_n7 library_tree7 refl refl h refl refl

-- the whole run, with the tokens of the texts
library_inlined : (h0 : TokensOf library_t0.text library_t0.tokens library_t0.comments) (h1 : TokensOf library_t1.text library_t1.tokens library_t1.comments) (h2 : TokensOf library_t2.text library_t2.tokens library_t2.comments) (g1 : TokensOf library_n1.text library_n1.tokens library_n1.comments) (g2 : TokensOf library_n2.text library_n2.tokens library_n2.comments) (g3 : TokensOf library_n3.text library_n3.tokens library_n3.comments) (g4 : TokensOf library_n4.text library_n4.tokens library_n4.comments) (g5 : TokensOf library_n5.text library_n5.tokens library_n5.comments) (g6 : TokensOf library_n6.text library_n6.tokens library_n6.comments) (g7 : TokensOf library_n7.text library_n7.tokens library_n7.comments) → IsInlining the_limits (folder library_module library.texts) library.packages library.texts [] (((codes "cmd/main.go"), library_n7) ∷ ((codes "lib.go"), library_n2) ∷ ((codes "text/text.go"), library_t2) ∷ []) (codes "cmd/main.go:7:15: inlined example.com/lib.Row as type\ncmd/main.go:8:11: inlined example.com/lib.Row as type\ncmd/main.go:14:11: inlined example.com/lib.PadLeft as expr\ncmd/main.go:14:37: inlined example.com/lib.MaxWidth as const\ncmd/main.go:16:2: inlined example.com/lib.Show as block\nlib.go:29:18: inlined example.com/lib.Row as type\nlib.go:36:19: inlined example.com/lib.Row as type\n")
unfolding passes keyword_spellings is_inline digits reading library_steps1 library_next1 library_steps2 library_next2 library_steps3 library_next3 library_steps4 library_next4 library_steps5 library_next5 library_steps6 library_next6 library_steps7 library_next7
library_inlined h0 h1 h2 g1 g2 g3 g4 g5 g6 g7 = inlining_by the_limits (folder library_module library.texts) library.packages library.texts [] library.marks library_s7 ((library_l1 ∷ library_l2 ∷ library_l3 ∷ library_l4 ∷ library_l5 ∷ library_l6 ∷ library_l7 ∷ [])) (codes "cmd/main.go:7:15: inlined example.com/lib.Row as type\ncmd/main.go:8:11: inlined example.com/lib.Row as type\ncmd/main.go:14:11: inlined example.com/lib.PadLeft as expr\ncmd/main.go:14:37: inlined example.com/lib.MaxWidth as const\ncmd/main.go:16:2: inlined example.com/lib.Show as block\nlib.go:29:18: inlined example.com/lib.Row as type\nlib.go:36:19: inlined example.com/lib.Row as type\n") library_marks (module_by (codes "example.com/lib") (module_text library_module) (record { path = codes "cmd/main.go"; text = library_t0; tree = library_f0; reads = record { scans = h0; spells = file_spelled library_t0.tokens library_f0 library_spelled0 } } ∷ record { path = codes "lib.go"; text = library_t1; tree = library_f1; reads = record { scans = h1; spells = file_spelled library_t1.tokens library_f1 library_spelled1 } } ∷ record { path = codes "text/text.go"; text = library_t2; tree = library_f2; reads = record { scans = h2; spells = file_spelled library_t2.tokens library_f2 library_spelled2 } } ∷ []) (folder library_module library.texts) library.packages library.texts library_module_is refl refl refl refl refl refl refl refl refl) (goes_on library_s0 library_s1 library_s7 library_l1 (library_l2 ∷ library_l3 ∷ library_l4 ∷ library_l5 ∷ library_l6 ∷ library_l7 ∷ []) (library_next1 g1) (goes_on library_s1 library_s2 library_s7 library_l2 (library_l3 ∷ library_l4 ∷ library_l5 ∷ library_l6 ∷ library_l7 ∷ []) (library_next2 g2) (goes_on library_s2 library_s3 library_s7 library_l3 (library_l4 ∷ library_l5 ∷ library_l6 ∷ library_l7 ∷ []) (library_next3 g3) (goes_on library_s3 library_s4 library_s7 library_l4 (library_l5 ∷ library_l6 ∷ library_l7 ∷ []) (library_next4 g4) (goes_on library_s4 library_s5 library_s7 library_l5 (library_l6 ∷ library_l7 ∷ []) (library_next5 g5) (goes_on library_s5 library_s6 library_s7 library_l6 (library_l7 ∷ []) (library_next6 g6) (goes_on library_s6 library_s7 library_s7 library_l7 [] (library_next7 g7) (ends library_s7 refl)))))))) (steps_on [] (library_l2 ∷ library_l3 ∷ library_l4 ∷ library_l5 ∷ library_l6 ∷ library_l7 ∷ []) library_l1 library_s0 library_s1 library_s7 (library_next1 g1) refl (steps_on (library_l1 ∷ []) (library_l3 ∷ library_l4 ∷ library_l5 ∷ library_l6 ∷ library_l7 ∷ []) library_l2 library_s1 library_s2 library_s7 (library_next2 g2) refl (steps_on (library_l1 ∷ library_l2 ∷ []) (library_l4 ∷ library_l5 ∷ library_l6 ∷ library_l7 ∷ []) library_l3 library_s2 library_s3 library_s7 (library_next3 g3) refl (steps_on (library_l1 ∷ library_l2 ∷ library_l3 ∷ []) (library_l5 ∷ library_l6 ∷ library_l7 ∷ []) library_l4 library_s3 library_s4 library_s7 (library_next4 g4) refl (steps_on (library_l1 ∷ library_l2 ∷ library_l3 ∷ library_l4 ∷ []) (library_l6 ∷ library_l7 ∷ []) library_l5 library_s4 library_s5 library_s7 (library_next5 g5) refl (steps_on (library_l1 ∷ library_l2 ∷ library_l3 ∷ library_l4 ∷ library_l5 ∷ []) (library_l7 ∷ []) library_l6 library_s5 library_s6 library_s7 (library_next6 g6) refl (steps_on (library_l1 ∷ library_l2 ∷ library_l3 ∷ library_l4 ∷ library_l5 ∷ library_l6 ∷ []) [] library_l7 library_s6 library_s7 library_s7 (library_next7 g7) refl (begins ((library_l1 ∷ library_l2 ∷ library_l3 ∷ library_l4 ∷ library_l5 ∷ library_l6 ∷ library_l7 ∷ [])) library_s7)))))))) (kept_by ((library_l1 ∷ library_l2 ∷ library_l3 ∷ library_l4 ∷ library_l5 ∷ library_l6 ∷ library_l7 ∷ [])) (codes "cmd/main.go") library_t0.text library_n7.text (((codes "lib.go"), library_t1.text) ∷ ((codes "text/text.go"), library_t2.text) ∷ []) (((codes "lib.go"), library_n2.text) ∷ ((codes "text/text.go"), library_t2.text) ∷ []) refl refl (kept_by ((library_l1 ∷ library_l2 ∷ library_l3 ∷ library_l4 ∷ library_l5 ∷ library_l6 ∷ library_l7 ∷ [])) (codes "lib.go") library_t1.text library_n2.text (((codes "text/text.go"), library_t2.text) ∷ []) (((codes "text/text.go"), library_t2.text) ∷ []) refl refl (kept_by ((library_l1 ∷ library_l2 ∷ library_l3 ∷ library_l4 ∷ library_l5 ∷ library_l6 ∷ library_l7 ∷ [])) (codes "text/text.go") library_t2.text library_t2.text [] [] refl refl run.none))) refl

library_t0_found : TokensOf library_t0.text library_t0.tokens library_t0.comments
unfolding piece_of lexeme_of longest_from next_of tokens_from comments_from keyword_spellings is_letter is_digit general_category general_category_rows value_in lib.Utf8.encode
library_t0_found = tokens_by library_t0.text library_t0.tokens library_t0.comments refl refl refl

library_t1_found : TokensOf library_t1.text library_t1.tokens library_t1.comments
unfolding piece_of lexeme_of longest_from next_of tokens_from comments_from keyword_spellings is_letter is_digit general_category general_category_rows value_in lib.Utf8.encode
library_t1_found = tokens_by library_t1.text library_t1.tokens library_t1.comments refl refl refl

library_t2_found : TokensOf library_t2.text library_t2.tokens library_t2.comments
unfolding piece_of lexeme_of longest_from next_of tokens_from comments_from keyword_spellings is_letter is_digit general_category general_category_rows value_in lib.Utf8.encode
library_t2_found = tokens_by library_t2.text library_t2.tokens library_t2.comments refl refl refl

library_n1_found : TokensOf library_n1.text library_n1.tokens library_n1.comments
unfolding piece_of lexeme_of longest_from next_of tokens_from comments_from keyword_spellings is_letter is_digit general_category general_category_rows value_in lib.Utf8.encode
library_n1_found = tokens_by library_n1.text library_n1.tokens library_n1.comments refl refl refl

library_n2_found : TokensOf library_n2.text library_n2.tokens library_n2.comments
unfolding piece_of lexeme_of longest_from next_of tokens_from comments_from keyword_spellings is_letter is_digit general_category general_category_rows value_in lib.Utf8.encode
library_n2_found = tokens_by library_n2.text library_n2.tokens library_n2.comments refl refl refl

library_n3_found : TokensOf library_n3.text library_n3.tokens library_n3.comments
unfolding piece_of lexeme_of longest_from next_of tokens_from comments_from keyword_spellings is_letter is_digit general_category general_category_rows value_in lib.Utf8.encode
library_n3_found = tokens_by library_n3.text library_n3.tokens library_n3.comments refl refl refl

library_n4_found : TokensOf library_n4.text library_n4.tokens library_n4.comments
unfolding piece_of lexeme_of longest_from next_of tokens_from comments_from keyword_spellings is_letter is_digit general_category general_category_rows value_in lib.Utf8.encode
library_n4_found = tokens_by library_n4.text library_n4.tokens library_n4.comments refl refl refl

library_n5_found : TokensOf library_n5.text library_n5.tokens library_n5.comments
unfolding piece_of lexeme_of longest_from next_of tokens_from comments_from keyword_spellings is_letter is_digit general_category general_category_rows value_in lib.Utf8.encode
library_n5_found = tokens_by library_n5.text library_n5.tokens library_n5.comments refl refl refl

library_n6_found : TokensOf library_n6.text library_n6.tokens library_n6.comments
unfolding piece_of lexeme_of longest_from next_of tokens_from comments_from keyword_spellings is_letter is_digit general_category general_category_rows value_in lib.Utf8.encode
library_n6_found = tokens_by library_n6.text library_n6.tokens library_n6.comments refl refl refl

library_n7_found : TokensOf library_n7.text library_n7.tokens library_n7.comments
unfolding piece_of lexeme_of longest_from next_of tokens_from comments_from keyword_spellings is_letter is_digit general_category general_category_rows value_in lib.Utf8.encode
library_n7_found = tokens_by library_n7.text library_n7.tokens library_n7.comments refl refl refl

library_run : IsInlining the_limits (folder library_module library.texts) library.packages library.texts [] (((codes "cmd/main.go"), library_n7) ∷ ((codes "lib.go"), library_n2) ∷ ((codes "text/text.go"), library_t2) ∷ []) (codes "cmd/main.go:7:15: inlined example.com/lib.Row as type\ncmd/main.go:8:11: inlined example.com/lib.Row as type\ncmd/main.go:14:11: inlined example.com/lib.PadLeft as expr\ncmd/main.go:14:37: inlined example.com/lib.MaxWidth as const\ncmd/main.go:16:2: inlined example.com/lib.Show as block\nlib.go:29:18: inlined example.com/lib.Row as type\nlib.go:36:19: inlined example.com/lib.Row as type\n")
library_run = library_inlined library_t0_found library_t1_found library_t2_found library_n1_found library_n2_found library_n3_found library_n4_found library_n5_found library_n6_found library_n7_found
