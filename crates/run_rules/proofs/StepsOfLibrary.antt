-- A library and its callers, step by step.
use Rattle.std.proofs.Common.{◌≡◌, refl}
use Rattle.std.specs.Prelude.{true, false, [], ◌∷◌, Some, None, codes}
use Rattle.go_tree.specs.declared.exprs.Rest.TheVariants.{Plain}
use Rattle.go_tree.specs.declared.spans.Span.{Span}
use Rattle.go_tree.specs.declared.tokens.TokenKind.TheVariants.{Ident, Keyword, Operator, Integer, Str, Inserted}
use Rattle.go_tree.specs.declared.operators.BinOp.TheVariants.{Add, Lt}
use Rattle.go_tree.specs.Tree.{named, slice_type, struct_type, no_fields, field, ident, int_lit, str_lit, composite, selector, index, call, binary, no_exprs, expr_and, some_expr, no_elems, elem, plain, braced, no_value, const_decl, eval, step, assign, define, return_, inner, if_, for_, range_, no_stmts, stmt_and, no_stmt, some_stmt, some_block, defines, no_arms, arm, no_specs, spec}
use Rattle.go_tree.specs.File.{File, values, types}
use Rattle.run_rules.specs.FormTrees.{ConstForm, TypeForm, ExprForm, BlockForm}
use Rattle.run_rules.proofs.CaseTools.{at, nm, tok, note, param, sig, imp, imps, tspec, fn, pack, source, mark, Module, is_typed, first_change, step_of, kept_uses}
use Rattle.go_layout.specs.SpellsSpans.{span_to}
use Rattle.go_tree.specs.GoWords.Terminals.{lexemes}
use Rattle.go_tree.specs.GoWords.Tokens.Pieces.{keyword_spellings}
use Rattle.go_layout.specs.Goals.{read_front}
use Rattle.go_layout.proofs.Texts.{reading}
use Rattle.run_rules.proofs.CaseTools.{read_at}
use Rattle.pkg_graph.specs.ModuleFiles.Internal.{passes}

-- A library of three packages: a constant in a group, an alias, wrappers, and callers in loops.
abbrev library_0_f0 : File Span
library_0_f0 = record { package_name = (nm 8 12 (codes "main")); imports = ((imps (at 14 43) true ((imp (at 24 41) None (codes "example.com/lib")) ∷ [])) ∷ []); decls = ((fn (at 45 115) None (nm 50 54 (codes "load")) (sig [] ((param (at 57 66) None (slice_type (at 57 66) (named (at 59 66) (Some (nm 59 62 (codes "lib"))) (nm 63 66 (codes "Row"))))) ∷ [])) (at 67 115) (stmt_and (return_ (at 70 101) (expr_and (composite (at 77 101) (slice_type (at 77 86) (named (at 79 86) (Some (nm 79 82 (codes "lib"))) (nm 83 86 (codes "Row")))) (elem (at 87 92) no_value (braced (at 87 92) (elem (at 88 91) no_value (plain (str_lit (at 88 91) (codes "\"a\""))) no_elems)) (elem (at 94 100) no_value (braced (at 94 100) (elem (at 95 99) no_value (plain (str_lit (at 95 99) (codes "\"bc\""))) no_elems)) no_elems))) no_exprs)) no_stmts)) ∷ (fn (at 117 273) None (nm 122 126 (codes "main")) (sig [] []) (at 129 273) (stmt_and (define (at 132 146) ((nm 132 136 (codes "rows")) ∷ []) (expr_and (call (at 140 146) (ident (at 140 144) (codes "load")) no_exprs Plain) no_exprs)) (stmt_and (for_ (at 148 226) (some_stmt (define (at 152 158) ((nm 152 153 (codes "i")) ∷ []) (expr_and (int_lit (at 157 158) (codes "0")) no_exprs))) (some_expr (binary (at 160 165) Lt (ident (at 160 161) (codes "i")) (int_lit (at 164 165) (codes "2")))) (some_stmt (step (at 167 170) (ident (at 167 168) (codes "i")) true)) (at 171 226) (stmt_and (eval (at 175 223) (call (at 175 223) (ident (at 175 182) (codes "println")) (expr_and (call (at 183 222) (selector (at 183 194) (ident (at 183 186) (codes "lib")) (nm 187 194 (codes "PadLeft"))) (expr_and (selector (at 195 207) (index (at 195 202) (ident (at 195 199) (codes "rows")) (ident (at 200 201) (codes "i"))) (nm 203 207 (codes "Body"))) (expr_and (selector (at 209 221) (ident (at 209 212) (codes "lib")) (nm 213 221 (codes "MaxWidth"))) no_exprs)) Plain) no_exprs) Plain)) no_stmts)) (stmt_and (eval (at 228 245) (call (at 228 245) (selector (at 228 236) (ident (at 228 231) (codes "lib")) (nm 232 236 (codes "Show"))) (expr_and (ident (at 237 241) (codes "rows")) (expr_and (int_lit (at 243 244) (codes "4")) no_exprs)) Plain)) (stmt_and (eval (at 247 271) (call (at 247 271) (ident (at 247 254) (codes "println")) (expr_and (call (at 255 270) (selector (at 255 264) (ident (at 255 258) (codes "lib")) (nm 259 264 (codes "Total"))) (expr_and (ident (at 265 269) (codes "rows")) no_exprs) Plain) no_exprs) Plain)) no_stmts))))) ∷ []) }

abbrev library_0_f1 : File Span
library_0_f1 = record { package_name = (nm 44 47 (codes "lib")); imports = ((imps (at 49 78) false ((imp (at 56 78) None (codes "example.com/lib/text")) ∷ [])) ∷ []); decls = ((values (const_decl (at 80 171) true (spec (at 137 157) ((nm 137 145 (codes "MaxWidth")) ∷ []) None (expr_and (selector (at 148 157) (ident (at 148 152) (codes "text")) (nm 153 157 (codes "Wide"))) no_exprs) (spec (at 160 169) ((nm 160 165 (codes "limit")) ∷ []) None (expr_and (int_lit (at 168 169) (codes "3")) no_exprs) no_specs)))) ∷ (types (at 222 242) false ((tspec (at 227 242) (nm 227 230 (codes "Row")) true (named (at 233 242) (Some (nm 233 237 (codes "text"))) (nm 238 242 (codes "Line")))) ∷ [])) ∷ (fn (at 292 361) None (nm 297 304 (codes "PadLeft")) (sig ((param (at 305 313) (Some (nm 305 306 (codes "s"))) (named (at 307 313) None (nm 307 313 (codes "string")))) ∷ (param (at 315 320) (Some (nm 315 316 (codes "n"))) (named (at 317 320) None (nm 317 320 (codes "int")))) ∷ []) ((param (at 322 328) None (named (at 322 328) None (nm 322 328 (codes "string")))) ∷ [])) (at 329 361) (stmt_and (return_ (at 332 359) (expr_and (call (at 339 359) (selector (at 339 347) (ident (at 339 343) (codes "text")) (nm 344 347 (codes "Pad"))) (expr_and (ident (at 348 349) (codes "s")) (expr_and (ident (at 351 352) (codes "n")) (expr_and (ident (at 354 358) (codes "true")) no_exprs))) Plain) no_exprs)) no_stmts)) ∷ (fn (at 411 497) None (nm 416 420 (codes "Show")) (sig ((param (at 421 431) (Some (nm 421 425 (codes "rows"))) (slice_type (at 426 431) (named (at 428 431) None (nm 428 431 (codes "Row"))))) ∷ (param (at 433 442) (Some (nm 433 438 (codes "width"))) (named (at 439 442) None (nm 439 442 (codes "int")))) ∷ []) []) (at 444 497) (stmt_and (range_ (at 447 495) (defines ((nm 451 452 (codes "_")) ∷ (nm 454 455 (codes "r")) ∷ [])) (ident (at 465 469) (codes "rows")) (at 470 495) (stmt_and (eval (at 474 492) (call (at 474 492) (selector (at 474 482) (ident (at 474 478) (codes "text")) (nm 479 482 (codes "Put"))) (expr_and (ident (at 483 484) (codes "r")) (expr_and (ident (at 486 491) (codes "width")) no_exprs)) Plain)) no_stmts)) no_stmts)) ∷ (fn (at 517 617) None (nm 522 527 (codes "Total")) (sig ((param (at 528 538) (Some (nm 528 532 (codes "rows"))) (slice_type (at 533 538) (named (at 535 538) None (nm 535 538 (codes "Row"))))) ∷ []) ((param (at 540 543) None (named (at 540 543) None (nm 540 543 (codes "int")))) ∷ [])) (at 544 617) (stmt_and (define (at 547 557) ((nm 547 548 (codes "t")) ∷ []) (expr_and (ident (at 552 557) (codes "limit")) no_exprs)) (stmt_and (range_ (at 559 605) (defines ((nm 563 564 (codes "_")) ∷ (nm 566 567 (codes "r")) ∷ [])) (ident (at 577 581) (codes "rows")) (at 582 605) (stmt_and (assign (at 586 602) (expr_and (ident (at 586 587) (codes "t")) no_exprs) (Some Add) (expr_and (call (at 591 602) (ident (at 591 594) (codes "len")) (expr_and (selector (at 595 601) (ident (at 595 596) (codes "r")) (nm 597 601 (codes "Body"))) no_exprs) Plain) no_exprs)) no_stmts)) (stmt_and (return_ (at 607 615) (expr_and (ident (at 614 615) (codes "t")) no_exprs)) no_stmts)))) ∷ []) }

abbrev library_0_f2 : File Span
library_0_f2 = record { package_name = (nm 8 12 (codes "text")); imports = []; decls = ((values (const_decl (at 14 28) false (spec (at 20 28) ((nm 20 24 (codes "Wide")) ∷ []) None (expr_and (int_lit (at 27 28) (codes "8")) no_exprs) no_specs))) ∷ (types (at 30 63) false ((tspec (at 35 63) (nm 35 39 (codes "Line")) false (struct_type (at 40 63) (field (at 50 61) (nm 50 54 (codes "Body")) (named (at 55 61) None (nm 55 61 (codes "string"))) no_fields))) ∷ [])) ∷ (fn (at 65 197) None (nm 70 73 (codes "Pad")) (sig ((param (at 74 82) (Some (nm 74 75 (codes "s"))) (named (at 76 82) None (nm 76 82 (codes "string")))) ∷ (param (at 84 89) (Some (nm 84 85 (codes "n"))) (named (at 86 89) None (nm 86 89 (codes "int")))) ∷ (param (at 91 100) (Some (nm 91 95 (codes "left"))) (named (at 96 100) None (nm 96 100 (codes "bool")))) ∷ []) ((param (at 102 108) None (named (at 102 108) None (nm 102 108 (codes "string")))) ∷ [])) (at 109 197) (stmt_and (for_ (at 112 185) no_stmt (some_expr (binary (at 116 126) Lt (call (at 116 122) (ident (at 116 119) (codes "len")) (expr_and (ident (at 120 121) (codes "s")) no_exprs) Plain) (ident (at 125 126) (codes "n")))) no_stmt (at 127 185) (stmt_and (if_ (at 131 182) (arm (at 131 159) no_stmt (ident (at 134 138) (codes "left")) (at 139 159) (stmt_and (assign (at 144 155) (expr_and (ident (at 144 145) (codes "s")) no_exprs) None (expr_and (binary (at 148 155) Add (str_lit (at 148 151) (codes "\" \"")) (ident (at 154 155) (codes "s"))) no_exprs)) no_stmts) no_arms) (some_block (at 165 182) (stmt_and (assign (at 170 178) (expr_and (ident (at 170 171) (codes "s")) no_exprs) (Some Add) (expr_and (str_lit (at 175 178) (codes "\" \"")) no_exprs)) no_stmts))) no_stmts)) (stmt_and (return_ (at 187 195) (expr_and (ident (at 194 195) (codes "s")) no_exprs)) no_stmts))) ∷ (fn (at 199 266) None (nm 204 207 (codes "Put")) (sig ((param (at 208 214) (Some (nm 208 209 (codes "l"))) (named (at 210 214) None (nm 210 214 (codes "Line")))) ∷ (param (at 216 225) (Some (nm 216 221 (codes "width"))) (named (at 222 225) None (nm 222 225 (codes "int")))) ∷ []) []) (at 227 266) (stmt_and (eval (at 230 264) (call (at 230 264) (ident (at 230 237) (codes "println")) (expr_and (call (at 238 263) (ident (at 238 241) (codes "Pad")) (expr_and (selector (at 242 248) (ident (at 242 243) (codes "l")) (nm 244 248 (codes "Body"))) (expr_and (ident (at 250 255) (codes "width")) (expr_and (ident (at 257 262) (codes "false")) no_exprs))) Plain) no_exprs) Plain)) no_stmts)) ∷ []) }

library_0_f0_read : read_at span_to read_front (lexemes ((tok Keyword 0 7 (codes "package")) ∷ (tok Ident 8 12 (codes "main")) ∷ (tok Inserted 12 12 (codes ";")) ∷ (tok Keyword 14 20 (codes "import")) ∷ (tok Operator 21 22 (codes "(")) ∷ (tok Str 24 41 (codes "\"example.com/lib\"")) ∷ (tok Inserted 41 41 (codes ";")) ∷ (tok Operator 42 43 (codes ")")) ∷ (tok Inserted 43 43 (codes ";")) ∷ (tok Keyword 45 49 (codes "func")) ∷ (tok Ident 50 54 (codes "load")) ∷ (tok Operator 54 55 (codes "(")) ∷ (tok Operator 55 56 (codes ")")) ∷ (tok Operator 57 58 (codes "[")) ∷ (tok Operator 58 59 (codes "]")) ∷ (tok Ident 59 62 (codes "lib")) ∷ (tok Operator 62 63 (codes ".")) ∷ (tok Ident 63 66 (codes "Row")) ∷ (tok Operator 67 68 (codes "{")) ∷ (tok Keyword 70 76 (codes "return")) ∷ (tok Operator 77 78 (codes "[")) ∷ (tok Operator 78 79 (codes "]")) ∷ (tok Ident 79 82 (codes "lib")) ∷ (tok Operator 82 83 (codes ".")) ∷ (tok Ident 83 86 (codes "Row")) ∷ (tok Operator 86 87 (codes "{")) ∷ (tok Operator 87 88 (codes "{")) ∷ (tok Str 88 91 (codes "\"a\"")) ∷ (tok Operator 91 92 (codes "}")) ∷ (tok Operator 92 93 (codes ",")) ∷ (tok Operator 94 95 (codes "{")) ∷ (tok Str 95 99 (codes "\"bc\"")) ∷ (tok Operator 99 100 (codes "}")) ∷ (tok Operator 100 101 (codes "}")) ∷ (tok Inserted 101 101 (codes ";")) ∷ (tok Operator 114 115 (codes "}")) ∷ (tok Inserted 115 115 (codes ";")) ∷ (tok Keyword 117 121 (codes "func")) ∷ (tok Ident 122 126 (codes "main")) ∷ (tok Operator 126 127 (codes "(")) ∷ (tok Operator 127 128 (codes ")")) ∷ (tok Operator 129 130 (codes "{")) ∷ (tok Ident 132 136 (codes "rows")) ∷ (tok Operator 137 139 (codes ":=")) ∷ (tok Ident 140 144 (codes "load")) ∷ (tok Operator 144 145 (codes "(")) ∷ (tok Operator 145 146 (codes ")")) ∷ (tok Inserted 146 146 (codes ";")) ∷ (tok Keyword 148 151 (codes "for")) ∷ (tok Ident 152 153 (codes "i")) ∷ (tok Operator 154 156 (codes ":=")) ∷ (tok Integer 157 158 (codes "0")) ∷ (tok Operator 158 159 (codes ";")) ∷ (tok Ident 160 161 (codes "i")) ∷ (tok Operator 162 163 (codes "<")) ∷ (tok Integer 164 165 (codes "2")) ∷ (tok Operator 165 166 (codes ";")) ∷ (tok Ident 167 168 (codes "i")) ∷ (tok Operator 168 170 (codes "++")) ∷ (tok Operator 171 172 (codes "{")) ∷ (tok Ident 175 182 (codes "println")) ∷ (tok Operator 182 183 (codes "(")) ∷ (tok Ident 183 186 (codes "lib")) ∷ (tok Operator 186 187 (codes ".")) ∷ (tok Ident 187 194 (codes "PadLeft")) ∷ (tok Operator 194 195 (codes "(")) ∷ (tok Ident 195 199 (codes "rows")) ∷ (tok Operator 199 200 (codes "[")) ∷ (tok Ident 200 201 (codes "i")) ∷ (tok Operator 201 202 (codes "]")) ∷ (tok Operator 202 203 (codes ".")) ∷ (tok Ident 203 207 (codes "Body")) ∷ (tok Operator 207 208 (codes ",")) ∷ (tok Ident 209 212 (codes "lib")) ∷ (tok Operator 212 213 (codes ".")) ∷ (tok Ident 213 221 (codes "MaxWidth")) ∷ (tok Operator 221 222 (codes ")")) ∷ (tok Operator 222 223 (codes ")")) ∷ (tok Inserted 223 223 (codes ";")) ∷ (tok Operator 225 226 (codes "}")) ∷ (tok Inserted 226 226 (codes ";")) ∷ (tok Ident 228 231 (codes "lib")) ∷ (tok Operator 231 232 (codes ".")) ∷ (tok Ident 232 236 (codes "Show")) ∷ (tok Operator 236 237 (codes "(")) ∷ (tok Ident 237 241 (codes "rows")) ∷ (tok Operator 241 242 (codes ",")) ∷ (tok Integer 243 244 (codes "4")) ∷ (tok Operator 244 245 (codes ")")) ∷ (tok Inserted 245 245 (codes ";")) ∷ (tok Ident 247 254 (codes "println")) ∷ (tok Operator 254 255 (codes "(")) ∷ (tok Ident 255 258 (codes "lib")) ∷ (tok Operator 258 259 (codes ".")) ∷ (tok Ident 259 264 (codes "Total")) ∷ (tok Operator 264 265 (codes "(")) ∷ (tok Ident 265 269 (codes "rows")) ∷ (tok Operator 269 270 (codes ")")) ∷ (tok Operator 270 271 (codes ")")) ∷ (tok Inserted 271 271 (codes ";")) ∷ (tok Operator 272 273 (codes "}")) ∷ (tok Inserted 273 273 (codes ";")) ∷ [])) ≡ Some (library_0_f0, [])
unfolding reading
library_0_f0_read = refl

library_0_f1_read : read_at span_to read_front (lexemes ((tok Keyword 36 43 (codes "package")) ∷ (tok Ident 44 47 (codes "lib")) ∷ (tok Inserted 47 47 (codes ";")) ∷ (tok Keyword 49 55 (codes "import")) ∷ (tok Str 56 78 (codes "\"example.com/lib/text\"")) ∷ (tok Inserted 78 78 (codes ";")) ∷ (tok Keyword 80 85 (codes "const")) ∷ (tok Operator 86 87 (codes "(")) ∷ (tok Ident 137 145 (codes "MaxWidth")) ∷ (tok Operator 146 147 (codes "=")) ∷ (tok Ident 148 152 (codes "text")) ∷ (tok Operator 152 153 (codes ".")) ∷ (tok Ident 153 157 (codes "Wide")) ∷ (tok Inserted 157 157 (codes ";")) ∷ (tok Ident 160 165 (codes "limit")) ∷ (tok Operator 166 167 (codes "=")) ∷ (tok Integer 168 169 (codes "3")) ∷ (tok Inserted 169 169 (codes ";")) ∷ (tok Operator 170 171 (codes ")")) ∷ (tok Inserted 171 171 (codes ";")) ∷ (tok Keyword 222 226 (codes "type")) ∷ (tok Ident 227 230 (codes "Row")) ∷ (tok Operator 231 232 (codes "=")) ∷ (tok Ident 233 237 (codes "text")) ∷ (tok Operator 237 238 (codes ".")) ∷ (tok Ident 238 242 (codes "Line")) ∷ (tok Inserted 242 242 (codes ";")) ∷ (tok Keyword 292 296 (codes "func")) ∷ (tok Ident 297 304 (codes "PadLeft")) ∷ (tok Operator 304 305 (codes "(")) ∷ (tok Ident 305 306 (codes "s")) ∷ (tok Ident 307 313 (codes "string")) ∷ (tok Operator 313 314 (codes ",")) ∷ (tok Ident 315 316 (codes "n")) ∷ (tok Ident 317 320 (codes "int")) ∷ (tok Operator 320 321 (codes ")")) ∷ (tok Ident 322 328 (codes "string")) ∷ (tok Operator 329 330 (codes "{")) ∷ (tok Keyword 332 338 (codes "return")) ∷ (tok Ident 339 343 (codes "text")) ∷ (tok Operator 343 344 (codes ".")) ∷ (tok Ident 344 347 (codes "Pad")) ∷ (tok Operator 347 348 (codes "(")) ∷ (tok Ident 348 349 (codes "s")) ∷ (tok Operator 349 350 (codes ",")) ∷ (tok Ident 351 352 (codes "n")) ∷ (tok Operator 352 353 (codes ",")) ∷ (tok Ident 354 358 (codes "true")) ∷ (tok Operator 358 359 (codes ")")) ∷ (tok Inserted 359 359 (codes ";")) ∷ (tok Operator 360 361 (codes "}")) ∷ (tok Inserted 361 361 (codes ";")) ∷ (tok Keyword 411 415 (codes "func")) ∷ (tok Ident 416 420 (codes "Show")) ∷ (tok Operator 420 421 (codes "(")) ∷ (tok Ident 421 425 (codes "rows")) ∷ (tok Operator 426 427 (codes "[")) ∷ (tok Operator 427 428 (codes "]")) ∷ (tok Ident 428 431 (codes "Row")) ∷ (tok Operator 431 432 (codes ",")) ∷ (tok Ident 433 438 (codes "width")) ∷ (tok Ident 439 442 (codes "int")) ∷ (tok Operator 442 443 (codes ")")) ∷ (tok Operator 444 445 (codes "{")) ∷ (tok Keyword 447 450 (codes "for")) ∷ (tok Ident 451 452 (codes "_")) ∷ (tok Operator 452 453 (codes ",")) ∷ (tok Ident 454 455 (codes "r")) ∷ (tok Operator 456 458 (codes ":=")) ∷ (tok Keyword 459 464 (codes "range")) ∷ (tok Ident 465 469 (codes "rows")) ∷ (tok Operator 470 471 (codes "{")) ∷ (tok Ident 474 478 (codes "text")) ∷ (tok Operator 478 479 (codes ".")) ∷ (tok Ident 479 482 (codes "Put")) ∷ (tok Operator 482 483 (codes "(")) ∷ (tok Ident 483 484 (codes "r")) ∷ (tok Operator 484 485 (codes ",")) ∷ (tok Ident 486 491 (codes "width")) ∷ (tok Operator 491 492 (codes ")")) ∷ (tok Inserted 492 492 (codes ";")) ∷ (tok Operator 494 495 (codes "}")) ∷ (tok Inserted 495 495 (codes ";")) ∷ (tok Operator 496 497 (codes "}")) ∷ (tok Inserted 497 497 (codes ";")) ∷ (tok Keyword 517 521 (codes "func")) ∷ (tok Ident 522 527 (codes "Total")) ∷ (tok Operator 527 528 (codes "(")) ∷ (tok Ident 528 532 (codes "rows")) ∷ (tok Operator 533 534 (codes "[")) ∷ (tok Operator 534 535 (codes "]")) ∷ (tok Ident 535 538 (codes "Row")) ∷ (tok Operator 538 539 (codes ")")) ∷ (tok Ident 540 543 (codes "int")) ∷ (tok Operator 544 545 (codes "{")) ∷ (tok Ident 547 548 (codes "t")) ∷ (tok Operator 549 551 (codes ":=")) ∷ (tok Ident 552 557 (codes "limit")) ∷ (tok Inserted 557 557 (codes ";")) ∷ (tok Keyword 559 562 (codes "for")) ∷ (tok Ident 563 564 (codes "_")) ∷ (tok Operator 564 565 (codes ",")) ∷ (tok Ident 566 567 (codes "r")) ∷ (tok Operator 568 570 (codes ":=")) ∷ (tok Keyword 571 576 (codes "range")) ∷ (tok Ident 577 581 (codes "rows")) ∷ (tok Operator 582 583 (codes "{")) ∷ (tok Ident 586 587 (codes "t")) ∷ (tok Operator 588 590 (codes "+=")) ∷ (tok Ident 591 594 (codes "len")) ∷ (tok Operator 594 595 (codes "(")) ∷ (tok Ident 595 596 (codes "r")) ∷ (tok Operator 596 597 (codes ".")) ∷ (tok Ident 597 601 (codes "Body")) ∷ (tok Operator 601 602 (codes ")")) ∷ (tok Inserted 602 602 (codes ";")) ∷ (tok Operator 604 605 (codes "}")) ∷ (tok Inserted 605 605 (codes ";")) ∷ (tok Keyword 607 613 (codes "return")) ∷ (tok Ident 614 615 (codes "t")) ∷ (tok Inserted 615 615 (codes ";")) ∷ (tok Operator 616 617 (codes "}")) ∷ (tok Inserted 617 617 (codes ";")) ∷ [])) ≡ Some (library_0_f1, [])
unfolding reading
library_0_f1_read = refl

library_0_f2_read : read_at span_to read_front (lexemes ((tok Keyword 0 7 (codes "package")) ∷ (tok Ident 8 12 (codes "text")) ∷ (tok Inserted 12 12 (codes ";")) ∷ (tok Keyword 14 19 (codes "const")) ∷ (tok Ident 20 24 (codes "Wide")) ∷ (tok Operator 25 26 (codes "=")) ∷ (tok Integer 27 28 (codes "8")) ∷ (tok Inserted 28 28 (codes ";")) ∷ (tok Keyword 30 34 (codes "type")) ∷ (tok Ident 35 39 (codes "Line")) ∷ (tok Keyword 40 46 (codes "struct")) ∷ (tok Operator 47 48 (codes "{")) ∷ (tok Ident 50 54 (codes "Body")) ∷ (tok Ident 55 61 (codes "string")) ∷ (tok Inserted 61 61 (codes ";")) ∷ (tok Operator 62 63 (codes "}")) ∷ (tok Inserted 63 63 (codes ";")) ∷ (tok Keyword 65 69 (codes "func")) ∷ (tok Ident 70 73 (codes "Pad")) ∷ (tok Operator 73 74 (codes "(")) ∷ (tok Ident 74 75 (codes "s")) ∷ (tok Ident 76 82 (codes "string")) ∷ (tok Operator 82 83 (codes ",")) ∷ (tok Ident 84 85 (codes "n")) ∷ (tok Ident 86 89 (codes "int")) ∷ (tok Operator 89 90 (codes ",")) ∷ (tok Ident 91 95 (codes "left")) ∷ (tok Ident 96 100 (codes "bool")) ∷ (tok Operator 100 101 (codes ")")) ∷ (tok Ident 102 108 (codes "string")) ∷ (tok Operator 109 110 (codes "{")) ∷ (tok Keyword 112 115 (codes "for")) ∷ (tok Ident 116 119 (codes "len")) ∷ (tok Operator 119 120 (codes "(")) ∷ (tok Ident 120 121 (codes "s")) ∷ (tok Operator 121 122 (codes ")")) ∷ (tok Operator 123 124 (codes "<")) ∷ (tok Ident 125 126 (codes "n")) ∷ (tok Operator 127 128 (codes "{")) ∷ (tok Keyword 131 133 (codes "if")) ∷ (tok Ident 134 138 (codes "left")) ∷ (tok Operator 139 140 (codes "{")) ∷ (tok Ident 144 145 (codes "s")) ∷ (tok Operator 146 147 (codes "=")) ∷ (tok Str 148 151 (codes "\" \"")) ∷ (tok Operator 152 153 (codes "+")) ∷ (tok Ident 154 155 (codes "s")) ∷ (tok Inserted 155 155 (codes ";")) ∷ (tok Operator 158 159 (codes "}")) ∷ (tok Keyword 160 164 (codes "else")) ∷ (tok Operator 165 166 (codes "{")) ∷ (tok Ident 170 171 (codes "s")) ∷ (tok Operator 172 174 (codes "+=")) ∷ (tok Str 175 178 (codes "\" \"")) ∷ (tok Inserted 178 178 (codes ";")) ∷ (tok Operator 181 182 (codes "}")) ∷ (tok Inserted 182 182 (codes ";")) ∷ (tok Operator 184 185 (codes "}")) ∷ (tok Inserted 185 185 (codes ";")) ∷ (tok Keyword 187 193 (codes "return")) ∷ (tok Ident 194 195 (codes "s")) ∷ (tok Inserted 195 195 (codes ";")) ∷ (tok Operator 196 197 (codes "}")) ∷ (tok Inserted 197 197 (codes ";")) ∷ (tok Keyword 199 203 (codes "func")) ∷ (tok Ident 204 207 (codes "Put")) ∷ (tok Operator 207 208 (codes "(")) ∷ (tok Ident 208 209 (codes "l")) ∷ (tok Ident 210 214 (codes "Line")) ∷ (tok Operator 214 215 (codes ",")) ∷ (tok Ident 216 221 (codes "width")) ∷ (tok Ident 222 225 (codes "int")) ∷ (tok Operator 225 226 (codes ")")) ∷ (tok Operator 227 228 (codes "{")) ∷ (tok Ident 230 237 (codes "println")) ∷ (tok Operator 237 238 (codes "(")) ∷ (tok Ident 238 241 (codes "Pad")) ∷ (tok Operator 241 242 (codes "(")) ∷ (tok Ident 242 243 (codes "l")) ∷ (tok Operator 243 244 (codes ".")) ∷ (tok Ident 244 248 (codes "Body")) ∷ (tok Operator 248 249 (codes ",")) ∷ (tok Ident 250 255 (codes "width")) ∷ (tok Operator 255 256 (codes ",")) ∷ (tok Ident 257 262 (codes "false")) ∷ (tok Operator 262 263 (codes ")")) ∷ (tok Operator 263 264 (codes ")")) ∷ (tok Inserted 264 264 (codes ";")) ∷ (tok Operator 265 266 (codes "}")) ∷ (tok Inserted 266 266 (codes ";")) ∷ [])) ≡ Some (library_0_f2, [])
unfolding reading
library_0_f2_read = refl

abbrev library_0 : Module
library_0 = record { packages = (pack (codes "example.com/lib/cmd") (codes "main") (source (codes "cmd/main.go") library_0_f0 ∷ []) ∷ pack (codes "example.com/lib") (codes "lib") (source (codes "lib.go") library_0_f1 ∷ []) ∷ pack (codes "example.com/lib/text") (codes "text") (source (codes "text/text.go") library_0_f2 ∷ []) ∷ []); marks = (mark 1 0 0 0 ∷ mark 1 0 1 0 ∷ mark 1 0 2 0 ∷ mark 1 0 3 0 ∷ []); texts = (((codes "cmd/main.go"), record { text = (codes "package main\n\nimport (\n\t\"example.com/lib\"\n)\n\nfunc load() []lib.Row {\n\treturn []lib.Row{{\"a\"}, {\"bc\"}} // two rows\n}\n\nfunc main() {\n\trows := load()\n\tfor i := 0; i < 2; i++ {\n\t\tprintln(lib.PadLeft(rows[i].Body, lib.MaxWidth))\n\t}\n\tlib.Show(rows, 4)\n\tprintln(lib.Total(rows))\n}\n"); tokens = ((tok Keyword 0 7 (codes "package")) ∷ (tok Ident 8 12 (codes "main")) ∷ (tok Inserted 12 12 (codes ";")) ∷ (tok Keyword 14 20 (codes "import")) ∷ (tok Operator 21 22 (codes "(")) ∷ (tok Str 24 41 (codes "\"example.com/lib\"")) ∷ (tok Inserted 41 41 (codes ";")) ∷ (tok Operator 42 43 (codes ")")) ∷ (tok Inserted 43 43 (codes ";")) ∷ (tok Keyword 45 49 (codes "func")) ∷ (tok Ident 50 54 (codes "load")) ∷ (tok Operator 54 55 (codes "(")) ∷ (tok Operator 55 56 (codes ")")) ∷ (tok Operator 57 58 (codes "[")) ∷ (tok Operator 58 59 (codes "]")) ∷ (tok Ident 59 62 (codes "lib")) ∷ (tok Operator 62 63 (codes ".")) ∷ (tok Ident 63 66 (codes "Row")) ∷ (tok Operator 67 68 (codes "{")) ∷ (tok Keyword 70 76 (codes "return")) ∷ (tok Operator 77 78 (codes "[")) ∷ (tok Operator 78 79 (codes "]")) ∷ (tok Ident 79 82 (codes "lib")) ∷ (tok Operator 82 83 (codes ".")) ∷ (tok Ident 83 86 (codes "Row")) ∷ (tok Operator 86 87 (codes "{")) ∷ (tok Operator 87 88 (codes "{")) ∷ (tok Str 88 91 (codes "\"a\"")) ∷ (tok Operator 91 92 (codes "}")) ∷ (tok Operator 92 93 (codes ",")) ∷ (tok Operator 94 95 (codes "{")) ∷ (tok Str 95 99 (codes "\"bc\"")) ∷ (tok Operator 99 100 (codes "}")) ∷ (tok Operator 100 101 (codes "}")) ∷ (tok Inserted 101 101 (codes ";")) ∷ (tok Operator 114 115 (codes "}")) ∷ (tok Inserted 115 115 (codes ";")) ∷ (tok Keyword 117 121 (codes "func")) ∷ (tok Ident 122 126 (codes "main")) ∷ (tok Operator 126 127 (codes "(")) ∷ (tok Operator 127 128 (codes ")")) ∷ (tok Operator 129 130 (codes "{")) ∷ (tok Ident 132 136 (codes "rows")) ∷ (tok Operator 137 139 (codes ":=")) ∷ (tok Ident 140 144 (codes "load")) ∷ (tok Operator 144 145 (codes "(")) ∷ (tok Operator 145 146 (codes ")")) ∷ (tok Inserted 146 146 (codes ";")) ∷ (tok Keyword 148 151 (codes "for")) ∷ (tok Ident 152 153 (codes "i")) ∷ (tok Operator 154 156 (codes ":=")) ∷ (tok Integer 157 158 (codes "0")) ∷ (tok Operator 158 159 (codes ";")) ∷ (tok Ident 160 161 (codes "i")) ∷ (tok Operator 162 163 (codes "<")) ∷ (tok Integer 164 165 (codes "2")) ∷ (tok Operator 165 166 (codes ";")) ∷ (tok Ident 167 168 (codes "i")) ∷ (tok Operator 168 170 (codes "++")) ∷ (tok Operator 171 172 (codes "{")) ∷ (tok Ident 175 182 (codes "println")) ∷ (tok Operator 182 183 (codes "(")) ∷ (tok Ident 183 186 (codes "lib")) ∷ (tok Operator 186 187 (codes ".")) ∷ (tok Ident 187 194 (codes "PadLeft")) ∷ (tok Operator 194 195 (codes "(")) ∷ (tok Ident 195 199 (codes "rows")) ∷ (tok Operator 199 200 (codes "[")) ∷ (tok Ident 200 201 (codes "i")) ∷ (tok Operator 201 202 (codes "]")) ∷ (tok Operator 202 203 (codes ".")) ∷ (tok Ident 203 207 (codes "Body")) ∷ (tok Operator 207 208 (codes ",")) ∷ (tok Ident 209 212 (codes "lib")) ∷ (tok Operator 212 213 (codes ".")) ∷ (tok Ident 213 221 (codes "MaxWidth")) ∷ (tok Operator 221 222 (codes ")")) ∷ (tok Operator 222 223 (codes ")")) ∷ (tok Inserted 223 223 (codes ";")) ∷ (tok Operator 225 226 (codes "}")) ∷ (tok Inserted 226 226 (codes ";")) ∷ (tok Ident 228 231 (codes "lib")) ∷ (tok Operator 231 232 (codes ".")) ∷ (tok Ident 232 236 (codes "Show")) ∷ (tok Operator 236 237 (codes "(")) ∷ (tok Ident 237 241 (codes "rows")) ∷ (tok Operator 241 242 (codes ",")) ∷ (tok Integer 243 244 (codes "4")) ∷ (tok Operator 244 245 (codes ")")) ∷ (tok Inserted 245 245 (codes ";")) ∷ (tok Ident 247 254 (codes "println")) ∷ (tok Operator 254 255 (codes "(")) ∷ (tok Ident 255 258 (codes "lib")) ∷ (tok Operator 258 259 (codes ".")) ∷ (tok Ident 259 264 (codes "Total")) ∷ (tok Operator 264 265 (codes "(")) ∷ (tok Ident 265 269 (codes "rows")) ∷ (tok Operator 269 270 (codes ")")) ∷ (tok Operator 270 271 (codes ")")) ∷ (tok Inserted 271 271 (codes ";")) ∷ (tok Operator 272 273 (codes "}")) ∷ (tok Inserted 273 273 (codes ";")) ∷ []); comments = ((note 102 113) ∷ []) }) ∷ ((codes "lib.go"), record { text = (codes "// Package lib keeps the old names.\npackage lib\n\nimport \"example.com/lib/text\"\n\nconst (\n\t// Deprecated: use text.Wide.\n\t//go:fix inline\n\tMaxWidth = text.Wide\n\n\tlimit = 3\n)\n\n// Deprecated: use text.Line.\n//\n//go:fix inline\ntype Row = text.Line\n\n// Deprecated: use text.Pad.\n//\n//go:fix inline\nfunc PadLeft(s string, n int) string {\n\treturn text.Pad(s, n, true)\n}\n\n// Deprecated: use text.Put.\n//\n//go:fix inline\nfunc Show(rows []Row, width int) {\n\tfor _, r := range rows {\n\t\ttext.Put(r, width)\n\t}\n}\n\n// Total is kept.\nfunc Total(rows []Row) int {\n\tt := limit\n\tfor _, r := range rows {\n\t\tt += len(r.Body)\n\t}\n\treturn t\n}\n"); tokens = ((tok Keyword 36 43 (codes "package")) ∷ (tok Ident 44 47 (codes "lib")) ∷ (tok Inserted 47 47 (codes ";")) ∷ (tok Keyword 49 55 (codes "import")) ∷ (tok Str 56 78 (codes "\"example.com/lib/text\"")) ∷ (tok Inserted 78 78 (codes ";")) ∷ (tok Keyword 80 85 (codes "const")) ∷ (tok Operator 86 87 (codes "(")) ∷ (tok Ident 137 145 (codes "MaxWidth")) ∷ (tok Operator 146 147 (codes "=")) ∷ (tok Ident 148 152 (codes "text")) ∷ (tok Operator 152 153 (codes ".")) ∷ (tok Ident 153 157 (codes "Wide")) ∷ (tok Inserted 157 157 (codes ";")) ∷ (tok Ident 160 165 (codes "limit")) ∷ (tok Operator 166 167 (codes "=")) ∷ (tok Integer 168 169 (codes "3")) ∷ (tok Inserted 169 169 (codes ";")) ∷ (tok Operator 170 171 (codes ")")) ∷ (tok Inserted 171 171 (codes ";")) ∷ (tok Keyword 222 226 (codes "type")) ∷ (tok Ident 227 230 (codes "Row")) ∷ (tok Operator 231 232 (codes "=")) ∷ (tok Ident 233 237 (codes "text")) ∷ (tok Operator 237 238 (codes ".")) ∷ (tok Ident 238 242 (codes "Line")) ∷ (tok Inserted 242 242 (codes ";")) ∷ (tok Keyword 292 296 (codes "func")) ∷ (tok Ident 297 304 (codes "PadLeft")) ∷ (tok Operator 304 305 (codes "(")) ∷ (tok Ident 305 306 (codes "s")) ∷ (tok Ident 307 313 (codes "string")) ∷ (tok Operator 313 314 (codes ",")) ∷ (tok Ident 315 316 (codes "n")) ∷ (tok Ident 317 320 (codes "int")) ∷ (tok Operator 320 321 (codes ")")) ∷ (tok Ident 322 328 (codes "string")) ∷ (tok Operator 329 330 (codes "{")) ∷ (tok Keyword 332 338 (codes "return")) ∷ (tok Ident 339 343 (codes "text")) ∷ (tok Operator 343 344 (codes ".")) ∷ (tok Ident 344 347 (codes "Pad")) ∷ (tok Operator 347 348 (codes "(")) ∷ (tok Ident 348 349 (codes "s")) ∷ (tok Operator 349 350 (codes ",")) ∷ (tok Ident 351 352 (codes "n")) ∷ (tok Operator 352 353 (codes ",")) ∷ (tok Ident 354 358 (codes "true")) ∷ (tok Operator 358 359 (codes ")")) ∷ (tok Inserted 359 359 (codes ";")) ∷ (tok Operator 360 361 (codes "}")) ∷ (tok Inserted 361 361 (codes ";")) ∷ (tok Keyword 411 415 (codes "func")) ∷ (tok Ident 416 420 (codes "Show")) ∷ (tok Operator 420 421 (codes "(")) ∷ (tok Ident 421 425 (codes "rows")) ∷ (tok Operator 426 427 (codes "[")) ∷ (tok Operator 427 428 (codes "]")) ∷ (tok Ident 428 431 (codes "Row")) ∷ (tok Operator 431 432 (codes ",")) ∷ (tok Ident 433 438 (codes "width")) ∷ (tok Ident 439 442 (codes "int")) ∷ (tok Operator 442 443 (codes ")")) ∷ (tok Operator 444 445 (codes "{")) ∷ (tok Keyword 447 450 (codes "for")) ∷ (tok Ident 451 452 (codes "_")) ∷ (tok Operator 452 453 (codes ",")) ∷ (tok Ident 454 455 (codes "r")) ∷ (tok Operator 456 458 (codes ":=")) ∷ (tok Keyword 459 464 (codes "range")) ∷ (tok Ident 465 469 (codes "rows")) ∷ (tok Operator 470 471 (codes "{")) ∷ (tok Ident 474 478 (codes "text")) ∷ (tok Operator 478 479 (codes ".")) ∷ (tok Ident 479 482 (codes "Put")) ∷ (tok Operator 482 483 (codes "(")) ∷ (tok Ident 483 484 (codes "r")) ∷ (tok Operator 484 485 (codes ",")) ∷ (tok Ident 486 491 (codes "width")) ∷ (tok Operator 491 492 (codes ")")) ∷ (tok Inserted 492 492 (codes ";")) ∷ (tok Operator 494 495 (codes "}")) ∷ (tok Inserted 495 495 (codes ";")) ∷ (tok Operator 496 497 (codes "}")) ∷ (tok Inserted 497 497 (codes ";")) ∷ (tok Keyword 517 521 (codes "func")) ∷ (tok Ident 522 527 (codes "Total")) ∷ (tok Operator 527 528 (codes "(")) ∷ (tok Ident 528 532 (codes "rows")) ∷ (tok Operator 533 534 (codes "[")) ∷ (tok Operator 534 535 (codes "]")) ∷ (tok Ident 535 538 (codes "Row")) ∷ (tok Operator 538 539 (codes ")")) ∷ (tok Ident 540 543 (codes "int")) ∷ (tok Operator 544 545 (codes "{")) ∷ (tok Ident 547 548 (codes "t")) ∷ (tok Operator 549 551 (codes ":=")) ∷ (tok Ident 552 557 (codes "limit")) ∷ (tok Inserted 557 557 (codes ";")) ∷ (tok Keyword 559 562 (codes "for")) ∷ (tok Ident 563 564 (codes "_")) ∷ (tok Operator 564 565 (codes ",")) ∷ (tok Ident 566 567 (codes "r")) ∷ (tok Operator 568 570 (codes ":=")) ∷ (tok Keyword 571 576 (codes "range")) ∷ (tok Ident 577 581 (codes "rows")) ∷ (tok Operator 582 583 (codes "{")) ∷ (tok Ident 586 587 (codes "t")) ∷ (tok Operator 588 590 (codes "+=")) ∷ (tok Ident 591 594 (codes "len")) ∷ (tok Operator 594 595 (codes "(")) ∷ (tok Ident 595 596 (codes "r")) ∷ (tok Operator 596 597 (codes ".")) ∷ (tok Ident 597 601 (codes "Body")) ∷ (tok Operator 601 602 (codes ")")) ∷ (tok Inserted 602 602 (codes ";")) ∷ (tok Operator 604 605 (codes "}")) ∷ (tok Inserted 605 605 (codes ";")) ∷ (tok Keyword 607 613 (codes "return")) ∷ (tok Ident 614 615 (codes "t")) ∷ (tok Inserted 615 615 (codes ";")) ∷ (tok Operator 616 617 (codes "}")) ∷ (tok Inserted 617 617 (codes ";")) ∷ []); comments = ((note 0 35) ∷ (note 89 118) ∷ (note 120 135) ∷ (note 173 202) ∷ (note 203 205) ∷ (note 206 221) ∷ (note 244 272) ∷ (note 273 275) ∷ (note 276 291) ∷ (note 363 391) ∷ (note 392 394) ∷ (note 395 410) ∷ (note 499 516) ∷ []) }) ∷ ((codes "text/text.go"), record { text = (codes "package text\n\nconst Wide = 8\n\ntype Line struct {\n\tBody string\n}\n\nfunc Pad(s string, n int, left bool) string {\n\tfor len(s) < n {\n\t\tif left {\n\t\t\ts = \" \" + s\n\t\t} else {\n\t\t\ts += \" \"\n\t\t}\n\t}\n\treturn s\n}\n\nfunc Put(l Line, width int) {\n\tprintln(Pad(l.Body, width, false))\n}\n"); tokens = ((tok Keyword 0 7 (codes "package")) ∷ (tok Ident 8 12 (codes "text")) ∷ (tok Inserted 12 12 (codes ";")) ∷ (tok Keyword 14 19 (codes "const")) ∷ (tok Ident 20 24 (codes "Wide")) ∷ (tok Operator 25 26 (codes "=")) ∷ (tok Integer 27 28 (codes "8")) ∷ (tok Inserted 28 28 (codes ";")) ∷ (tok Keyword 30 34 (codes "type")) ∷ (tok Ident 35 39 (codes "Line")) ∷ (tok Keyword 40 46 (codes "struct")) ∷ (tok Operator 47 48 (codes "{")) ∷ (tok Ident 50 54 (codes "Body")) ∷ (tok Ident 55 61 (codes "string")) ∷ (tok Inserted 61 61 (codes ";")) ∷ (tok Operator 62 63 (codes "}")) ∷ (tok Inserted 63 63 (codes ";")) ∷ (tok Keyword 65 69 (codes "func")) ∷ (tok Ident 70 73 (codes "Pad")) ∷ (tok Operator 73 74 (codes "(")) ∷ (tok Ident 74 75 (codes "s")) ∷ (tok Ident 76 82 (codes "string")) ∷ (tok Operator 82 83 (codes ",")) ∷ (tok Ident 84 85 (codes "n")) ∷ (tok Ident 86 89 (codes "int")) ∷ (tok Operator 89 90 (codes ",")) ∷ (tok Ident 91 95 (codes "left")) ∷ (tok Ident 96 100 (codes "bool")) ∷ (tok Operator 100 101 (codes ")")) ∷ (tok Ident 102 108 (codes "string")) ∷ (tok Operator 109 110 (codes "{")) ∷ (tok Keyword 112 115 (codes "for")) ∷ (tok Ident 116 119 (codes "len")) ∷ (tok Operator 119 120 (codes "(")) ∷ (tok Ident 120 121 (codes "s")) ∷ (tok Operator 121 122 (codes ")")) ∷ (tok Operator 123 124 (codes "<")) ∷ (tok Ident 125 126 (codes "n")) ∷ (tok Operator 127 128 (codes "{")) ∷ (tok Keyword 131 133 (codes "if")) ∷ (tok Ident 134 138 (codes "left")) ∷ (tok Operator 139 140 (codes "{")) ∷ (tok Ident 144 145 (codes "s")) ∷ (tok Operator 146 147 (codes "=")) ∷ (tok Str 148 151 (codes "\" \"")) ∷ (tok Operator 152 153 (codes "+")) ∷ (tok Ident 154 155 (codes "s")) ∷ (tok Inserted 155 155 (codes ";")) ∷ (tok Operator 158 159 (codes "}")) ∷ (tok Keyword 160 164 (codes "else")) ∷ (tok Operator 165 166 (codes "{")) ∷ (tok Ident 170 171 (codes "s")) ∷ (tok Operator 172 174 (codes "+=")) ∷ (tok Str 175 178 (codes "\" \"")) ∷ (tok Inserted 178 178 (codes ";")) ∷ (tok Operator 181 182 (codes "}")) ∷ (tok Inserted 182 182 (codes ";")) ∷ (tok Operator 184 185 (codes "}")) ∷ (tok Inserted 185 185 (codes ";")) ∷ (tok Keyword 187 193 (codes "return")) ∷ (tok Ident 194 195 (codes "s")) ∷ (tok Inserted 195 195 (codes ";")) ∷ (tok Operator 196 197 (codes "}")) ∷ (tok Inserted 197 197 (codes ";")) ∷ (tok Keyword 199 203 (codes "func")) ∷ (tok Ident 204 207 (codes "Put")) ∷ (tok Operator 207 208 (codes "(")) ∷ (tok Ident 208 209 (codes "l")) ∷ (tok Ident 210 214 (codes "Line")) ∷ (tok Operator 214 215 (codes ",")) ∷ (tok Ident 216 221 (codes "width")) ∷ (tok Ident 222 225 (codes "int")) ∷ (tok Operator 225 226 (codes ")")) ∷ (tok Operator 227 228 (codes "{")) ∷ (tok Ident 230 237 (codes "println")) ∷ (tok Operator 237 238 (codes "(")) ∷ (tok Ident 238 241 (codes "Pad")) ∷ (tok Operator 241 242 (codes "(")) ∷ (tok Ident 242 243 (codes "l")) ∷ (tok Operator 243 244 (codes ".")) ∷ (tok Ident 244 248 (codes "Body")) ∷ (tok Operator 248 249 (codes ",")) ∷ (tok Ident 250 255 (codes "width")) ∷ (tok Operator 255 256 (codes ",")) ∷ (tok Ident 257 262 (codes "false")) ∷ (tok Operator 262 263 (codes ")")) ∷ (tok Operator 263 264 (codes ")")) ∷ (tok Inserted 264 264 (codes ";")) ∷ (tok Operator 265 266 (codes "}")) ∷ (tok Inserted 266 266 (codes ";")) ∷ []); comments = [] }) ∷ []) }

library_0_typed : is_typed library_0 ≡ true
library_0_typed = refl

library_0_step : first_change library_0 ≡ Some ((codes "lib.go"), TypeForm, (codes "// Package lib keeps the old names.\npackage lib\n\nimport \"example.com/lib/text\"\n\nconst (\n\t// Deprecated: use text.Wide.\n\t//go:fix inline\n\tMaxWidth = text.Wide\n\n\tlimit = 3\n)\n\n// Deprecated: use text.Line.\n//\n//go:fix inline\ntype Row = text.Line\n\n// Deprecated: use text.Pad.\n//\n//go:fix inline\nfunc PadLeft(s string, n int) string {\n\treturn text.Pad(s, n, true)\n}\n\n// Deprecated: use text.Put.\n//\n//go:fix inline\nfunc Show(rows []text.Line, width int) {\n\tfor _, r := range rows {\n\t\ttext.Put(r, width)\n\t}\n}\n\n// Total is kept.\nfunc Total(rows []Row) int {\n\tt := limit\n\tfor _, r := range rows {\n\t\tt += len(r.Body)\n\t}\n\treturn t\n}\n"))
unfolding passes keyword_spellings
library_0_step = refl

abbrev library_1_f0 : File Span
library_1_f0 = record { package_name = (nm 8 12 (codes "main")); imports = ((imps (at 14 43) true ((imp (at 24 41) None (codes "example.com/lib")) ∷ [])) ∷ []); decls = ((fn (at 45 115) None (nm 50 54 (codes "load")) (sig [] ((param (at 57 66) None (slice_type (at 57 66) (named (at 59 66) (Some (nm 59 62 (codes "lib"))) (nm 63 66 (codes "Row"))))) ∷ [])) (at 67 115) (stmt_and (return_ (at 70 101) (expr_and (composite (at 77 101) (slice_type (at 77 86) (named (at 79 86) (Some (nm 79 82 (codes "lib"))) (nm 83 86 (codes "Row")))) (elem (at 87 92) no_value (braced (at 87 92) (elem (at 88 91) no_value (plain (str_lit (at 88 91) (codes "\"a\""))) no_elems)) (elem (at 94 100) no_value (braced (at 94 100) (elem (at 95 99) no_value (plain (str_lit (at 95 99) (codes "\"bc\""))) no_elems)) no_elems))) no_exprs)) no_stmts)) ∷ (fn (at 117 273) None (nm 122 126 (codes "main")) (sig [] []) (at 129 273) (stmt_and (define (at 132 146) ((nm 132 136 (codes "rows")) ∷ []) (expr_and (call (at 140 146) (ident (at 140 144) (codes "load")) no_exprs Plain) no_exprs)) (stmt_and (for_ (at 148 226) (some_stmt (define (at 152 158) ((nm 152 153 (codes "i")) ∷ []) (expr_and (int_lit (at 157 158) (codes "0")) no_exprs))) (some_expr (binary (at 160 165) Lt (ident (at 160 161) (codes "i")) (int_lit (at 164 165) (codes "2")))) (some_stmt (step (at 167 170) (ident (at 167 168) (codes "i")) true)) (at 171 226) (stmt_and (eval (at 175 223) (call (at 175 223) (ident (at 175 182) (codes "println")) (expr_and (call (at 183 222) (selector (at 183 194) (ident (at 183 186) (codes "lib")) (nm 187 194 (codes "PadLeft"))) (expr_and (selector (at 195 207) (index (at 195 202) (ident (at 195 199) (codes "rows")) (ident (at 200 201) (codes "i"))) (nm 203 207 (codes "Body"))) (expr_and (selector (at 209 221) (ident (at 209 212) (codes "lib")) (nm 213 221 (codes "MaxWidth"))) no_exprs)) Plain) no_exprs) Plain)) no_stmts)) (stmt_and (eval (at 228 245) (call (at 228 245) (selector (at 228 236) (ident (at 228 231) (codes "lib")) (nm 232 236 (codes "Show"))) (expr_and (ident (at 237 241) (codes "rows")) (expr_and (int_lit (at 243 244) (codes "4")) no_exprs)) Plain)) (stmt_and (eval (at 247 271) (call (at 247 271) (ident (at 247 254) (codes "println")) (expr_and (call (at 255 270) (selector (at 255 264) (ident (at 255 258) (codes "lib")) (nm 259 264 (codes "Total"))) (expr_and (ident (at 265 269) (codes "rows")) no_exprs) Plain) no_exprs) Plain)) no_stmts))))) ∷ []) }

abbrev library_1_f1 : File Span
library_1_f1 = record { package_name = (nm 44 47 (codes "lib")); imports = ((imps (at 49 78) false ((imp (at 56 78) None (codes "example.com/lib/text")) ∷ [])) ∷ []); decls = ((values (const_decl (at 80 171) true (spec (at 137 157) ((nm 137 145 (codes "MaxWidth")) ∷ []) None (expr_and (selector (at 148 157) (ident (at 148 152) (codes "text")) (nm 153 157 (codes "Wide"))) no_exprs) (spec (at 160 169) ((nm 160 165 (codes "limit")) ∷ []) None (expr_and (int_lit (at 168 169) (codes "3")) no_exprs) no_specs)))) ∷ (types (at 222 242) false ((tspec (at 227 242) (nm 227 230 (codes "Row")) true (named (at 233 242) (Some (nm 233 237 (codes "text"))) (nm 238 242 (codes "Line")))) ∷ [])) ∷ (fn (at 292 361) None (nm 297 304 (codes "PadLeft")) (sig ((param (at 305 313) (Some (nm 305 306 (codes "s"))) (named (at 307 313) None (nm 307 313 (codes "string")))) ∷ (param (at 315 320) (Some (nm 315 316 (codes "n"))) (named (at 317 320) None (nm 317 320 (codes "int")))) ∷ []) ((param (at 322 328) None (named (at 322 328) None (nm 322 328 (codes "string")))) ∷ [])) (at 329 361) (stmt_and (return_ (at 332 359) (expr_and (call (at 339 359) (selector (at 339 347) (ident (at 339 343) (codes "text")) (nm 344 347 (codes "Pad"))) (expr_and (ident (at 348 349) (codes "s")) (expr_and (ident (at 351 352) (codes "n")) (expr_and (ident (at 354 358) (codes "true")) no_exprs))) Plain) no_exprs)) no_stmts)) ∷ (fn (at 411 503) None (nm 416 420 (codes "Show")) (sig ((param (at 421 437) (Some (nm 421 425 (codes "rows"))) (slice_type (at 426 437) (named (at 428 437) (Some (nm 428 432 (codes "text"))) (nm 433 437 (codes "Line"))))) ∷ (param (at 439 448) (Some (nm 439 444 (codes "width"))) (named (at 445 448) None (nm 445 448 (codes "int")))) ∷ []) []) (at 450 503) (stmt_and (range_ (at 453 501) (defines ((nm 457 458 (codes "_")) ∷ (nm 460 461 (codes "r")) ∷ [])) (ident (at 471 475) (codes "rows")) (at 476 501) (stmt_and (eval (at 480 498) (call (at 480 498) (selector (at 480 488) (ident (at 480 484) (codes "text")) (nm 485 488 (codes "Put"))) (expr_and (ident (at 489 490) (codes "r")) (expr_and (ident (at 492 497) (codes "width")) no_exprs)) Plain)) no_stmts)) no_stmts)) ∷ (fn (at 523 623) None (nm 528 533 (codes "Total")) (sig ((param (at 534 544) (Some (nm 534 538 (codes "rows"))) (slice_type (at 539 544) (named (at 541 544) None (nm 541 544 (codes "Row"))))) ∷ []) ((param (at 546 549) None (named (at 546 549) None (nm 546 549 (codes "int")))) ∷ [])) (at 550 623) (stmt_and (define (at 553 563) ((nm 553 554 (codes "t")) ∷ []) (expr_and (ident (at 558 563) (codes "limit")) no_exprs)) (stmt_and (range_ (at 565 611) (defines ((nm 569 570 (codes "_")) ∷ (nm 572 573 (codes "r")) ∷ [])) (ident (at 583 587) (codes "rows")) (at 588 611) (stmt_and (assign (at 592 608) (expr_and (ident (at 592 593) (codes "t")) no_exprs) (Some Add) (expr_and (call (at 597 608) (ident (at 597 600) (codes "len")) (expr_and (selector (at 601 607) (ident (at 601 602) (codes "r")) (nm 603 607 (codes "Body"))) no_exprs) Plain) no_exprs)) no_stmts)) (stmt_and (return_ (at 613 621) (expr_and (ident (at 620 621) (codes "t")) no_exprs)) no_stmts)))) ∷ []) }

abbrev library_1_f2 : File Span
library_1_f2 = record { package_name = (nm 8 12 (codes "text")); imports = []; decls = ((values (const_decl (at 14 28) false (spec (at 20 28) ((nm 20 24 (codes "Wide")) ∷ []) None (expr_and (int_lit (at 27 28) (codes "8")) no_exprs) no_specs))) ∷ (types (at 30 63) false ((tspec (at 35 63) (nm 35 39 (codes "Line")) false (struct_type (at 40 63) (field (at 50 61) (nm 50 54 (codes "Body")) (named (at 55 61) None (nm 55 61 (codes "string"))) no_fields))) ∷ [])) ∷ (fn (at 65 197) None (nm 70 73 (codes "Pad")) (sig ((param (at 74 82) (Some (nm 74 75 (codes "s"))) (named (at 76 82) None (nm 76 82 (codes "string")))) ∷ (param (at 84 89) (Some (nm 84 85 (codes "n"))) (named (at 86 89) None (nm 86 89 (codes "int")))) ∷ (param (at 91 100) (Some (nm 91 95 (codes "left"))) (named (at 96 100) None (nm 96 100 (codes "bool")))) ∷ []) ((param (at 102 108) None (named (at 102 108) None (nm 102 108 (codes "string")))) ∷ [])) (at 109 197) (stmt_and (for_ (at 112 185) no_stmt (some_expr (binary (at 116 126) Lt (call (at 116 122) (ident (at 116 119) (codes "len")) (expr_and (ident (at 120 121) (codes "s")) no_exprs) Plain) (ident (at 125 126) (codes "n")))) no_stmt (at 127 185) (stmt_and (if_ (at 131 182) (arm (at 131 159) no_stmt (ident (at 134 138) (codes "left")) (at 139 159) (stmt_and (assign (at 144 155) (expr_and (ident (at 144 145) (codes "s")) no_exprs) None (expr_and (binary (at 148 155) Add (str_lit (at 148 151) (codes "\" \"")) (ident (at 154 155) (codes "s"))) no_exprs)) no_stmts) no_arms) (some_block (at 165 182) (stmt_and (assign (at 170 178) (expr_and (ident (at 170 171) (codes "s")) no_exprs) (Some Add) (expr_and (str_lit (at 175 178) (codes "\" \"")) no_exprs)) no_stmts))) no_stmts)) (stmt_and (return_ (at 187 195) (expr_and (ident (at 194 195) (codes "s")) no_exprs)) no_stmts))) ∷ (fn (at 199 266) None (nm 204 207 (codes "Put")) (sig ((param (at 208 214) (Some (nm 208 209 (codes "l"))) (named (at 210 214) None (nm 210 214 (codes "Line")))) ∷ (param (at 216 225) (Some (nm 216 221 (codes "width"))) (named (at 222 225) None (nm 222 225 (codes "int")))) ∷ []) []) (at 227 266) (stmt_and (eval (at 230 264) (call (at 230 264) (ident (at 230 237) (codes "println")) (expr_and (call (at 238 263) (ident (at 238 241) (codes "Pad")) (expr_and (selector (at 242 248) (ident (at 242 243) (codes "l")) (nm 244 248 (codes "Body"))) (expr_and (ident (at 250 255) (codes "width")) (expr_and (ident (at 257 262) (codes "false")) no_exprs))) Plain) no_exprs) Plain)) no_stmts)) ∷ []) }

library_1_f1_read : read_at span_to read_front (lexemes ((tok Keyword 36 43 (codes "package")) ∷ (tok Ident 44 47 (codes "lib")) ∷ (tok Inserted 47 47 (codes ";")) ∷ (tok Keyword 49 55 (codes "import")) ∷ (tok Str 56 78 (codes "\"example.com/lib/text\"")) ∷ (tok Inserted 78 78 (codes ";")) ∷ (tok Keyword 80 85 (codes "const")) ∷ (tok Operator 86 87 (codes "(")) ∷ (tok Ident 137 145 (codes "MaxWidth")) ∷ (tok Operator 146 147 (codes "=")) ∷ (tok Ident 148 152 (codes "text")) ∷ (tok Operator 152 153 (codes ".")) ∷ (tok Ident 153 157 (codes "Wide")) ∷ (tok Inserted 157 157 (codes ";")) ∷ (tok Ident 160 165 (codes "limit")) ∷ (tok Operator 166 167 (codes "=")) ∷ (tok Integer 168 169 (codes "3")) ∷ (tok Inserted 169 169 (codes ";")) ∷ (tok Operator 170 171 (codes ")")) ∷ (tok Inserted 171 171 (codes ";")) ∷ (tok Keyword 222 226 (codes "type")) ∷ (tok Ident 227 230 (codes "Row")) ∷ (tok Operator 231 232 (codes "=")) ∷ (tok Ident 233 237 (codes "text")) ∷ (tok Operator 237 238 (codes ".")) ∷ (tok Ident 238 242 (codes "Line")) ∷ (tok Inserted 242 242 (codes ";")) ∷ (tok Keyword 292 296 (codes "func")) ∷ (tok Ident 297 304 (codes "PadLeft")) ∷ (tok Operator 304 305 (codes "(")) ∷ (tok Ident 305 306 (codes "s")) ∷ (tok Ident 307 313 (codes "string")) ∷ (tok Operator 313 314 (codes ",")) ∷ (tok Ident 315 316 (codes "n")) ∷ (tok Ident 317 320 (codes "int")) ∷ (tok Operator 320 321 (codes ")")) ∷ (tok Ident 322 328 (codes "string")) ∷ (tok Operator 329 330 (codes "{")) ∷ (tok Keyword 332 338 (codes "return")) ∷ (tok Ident 339 343 (codes "text")) ∷ (tok Operator 343 344 (codes ".")) ∷ (tok Ident 344 347 (codes "Pad")) ∷ (tok Operator 347 348 (codes "(")) ∷ (tok Ident 348 349 (codes "s")) ∷ (tok Operator 349 350 (codes ",")) ∷ (tok Ident 351 352 (codes "n")) ∷ (tok Operator 352 353 (codes ",")) ∷ (tok Ident 354 358 (codes "true")) ∷ (tok Operator 358 359 (codes ")")) ∷ (tok Inserted 359 359 (codes ";")) ∷ (tok Operator 360 361 (codes "}")) ∷ (tok Inserted 361 361 (codes ";")) ∷ (tok Keyword 411 415 (codes "func")) ∷ (tok Ident 416 420 (codes "Show")) ∷ (tok Operator 420 421 (codes "(")) ∷ (tok Ident 421 425 (codes "rows")) ∷ (tok Operator 426 427 (codes "[")) ∷ (tok Operator 427 428 (codes "]")) ∷ (tok Ident 428 432 (codes "text")) ∷ (tok Operator 432 433 (codes ".")) ∷ (tok Ident 433 437 (codes "Line")) ∷ (tok Operator 437 438 (codes ",")) ∷ (tok Ident 439 444 (codes "width")) ∷ (tok Ident 445 448 (codes "int")) ∷ (tok Operator 448 449 (codes ")")) ∷ (tok Operator 450 451 (codes "{")) ∷ (tok Keyword 453 456 (codes "for")) ∷ (tok Ident 457 458 (codes "_")) ∷ (tok Operator 458 459 (codes ",")) ∷ (tok Ident 460 461 (codes "r")) ∷ (tok Operator 462 464 (codes ":=")) ∷ (tok Keyword 465 470 (codes "range")) ∷ (tok Ident 471 475 (codes "rows")) ∷ (tok Operator 476 477 (codes "{")) ∷ (tok Ident 480 484 (codes "text")) ∷ (tok Operator 484 485 (codes ".")) ∷ (tok Ident 485 488 (codes "Put")) ∷ (tok Operator 488 489 (codes "(")) ∷ (tok Ident 489 490 (codes "r")) ∷ (tok Operator 490 491 (codes ",")) ∷ (tok Ident 492 497 (codes "width")) ∷ (tok Operator 497 498 (codes ")")) ∷ (tok Inserted 498 498 (codes ";")) ∷ (tok Operator 500 501 (codes "}")) ∷ (tok Inserted 501 501 (codes ";")) ∷ (tok Operator 502 503 (codes "}")) ∷ (tok Inserted 503 503 (codes ";")) ∷ (tok Keyword 523 527 (codes "func")) ∷ (tok Ident 528 533 (codes "Total")) ∷ (tok Operator 533 534 (codes "(")) ∷ (tok Ident 534 538 (codes "rows")) ∷ (tok Operator 539 540 (codes "[")) ∷ (tok Operator 540 541 (codes "]")) ∷ (tok Ident 541 544 (codes "Row")) ∷ (tok Operator 544 545 (codes ")")) ∷ (tok Ident 546 549 (codes "int")) ∷ (tok Operator 550 551 (codes "{")) ∷ (tok Ident 553 554 (codes "t")) ∷ (tok Operator 555 557 (codes ":=")) ∷ (tok Ident 558 563 (codes "limit")) ∷ (tok Inserted 563 563 (codes ";")) ∷ (tok Keyword 565 568 (codes "for")) ∷ (tok Ident 569 570 (codes "_")) ∷ (tok Operator 570 571 (codes ",")) ∷ (tok Ident 572 573 (codes "r")) ∷ (tok Operator 574 576 (codes ":=")) ∷ (tok Keyword 577 582 (codes "range")) ∷ (tok Ident 583 587 (codes "rows")) ∷ (tok Operator 588 589 (codes "{")) ∷ (tok Ident 592 593 (codes "t")) ∷ (tok Operator 594 596 (codes "+=")) ∷ (tok Ident 597 600 (codes "len")) ∷ (tok Operator 600 601 (codes "(")) ∷ (tok Ident 601 602 (codes "r")) ∷ (tok Operator 602 603 (codes ".")) ∷ (tok Ident 603 607 (codes "Body")) ∷ (tok Operator 607 608 (codes ")")) ∷ (tok Inserted 608 608 (codes ";")) ∷ (tok Operator 610 611 (codes "}")) ∷ (tok Inserted 611 611 (codes ";")) ∷ (tok Keyword 613 619 (codes "return")) ∷ (tok Ident 620 621 (codes "t")) ∷ (tok Inserted 621 621 (codes ";")) ∷ (tok Operator 622 623 (codes "}")) ∷ (tok Inserted 623 623 (codes ";")) ∷ [])) ≡ Some (library_1_f1, [])
unfolding reading
library_1_f1_read = refl

abbrev library_1 : Module
library_1 = record { packages = (pack (codes "example.com/lib/cmd") (codes "main") (source (codes "cmd/main.go") library_1_f0 ∷ []) ∷ pack (codes "example.com/lib") (codes "lib") (source (codes "lib.go") library_1_f1 ∷ []) ∷ pack (codes "example.com/lib/text") (codes "text") (source (codes "text/text.go") library_1_f2 ∷ []) ∷ []); marks = (mark 1 0 0 0 ∷ mark 1 0 1 0 ∷ mark 1 0 2 0 ∷ mark 1 0 3 0 ∷ []); texts = (((codes "cmd/main.go"), record { text = (codes "package main\n\nimport (\n\t\"example.com/lib\"\n)\n\nfunc load() []lib.Row {\n\treturn []lib.Row{{\"a\"}, {\"bc\"}} // two rows\n}\n\nfunc main() {\n\trows := load()\n\tfor i := 0; i < 2; i++ {\n\t\tprintln(lib.PadLeft(rows[i].Body, lib.MaxWidth))\n\t}\n\tlib.Show(rows, 4)\n\tprintln(lib.Total(rows))\n}\n"); tokens = ((tok Keyword 0 7 (codes "package")) ∷ (tok Ident 8 12 (codes "main")) ∷ (tok Inserted 12 12 (codes ";")) ∷ (tok Keyword 14 20 (codes "import")) ∷ (tok Operator 21 22 (codes "(")) ∷ (tok Str 24 41 (codes "\"example.com/lib\"")) ∷ (tok Inserted 41 41 (codes ";")) ∷ (tok Operator 42 43 (codes ")")) ∷ (tok Inserted 43 43 (codes ";")) ∷ (tok Keyword 45 49 (codes "func")) ∷ (tok Ident 50 54 (codes "load")) ∷ (tok Operator 54 55 (codes "(")) ∷ (tok Operator 55 56 (codes ")")) ∷ (tok Operator 57 58 (codes "[")) ∷ (tok Operator 58 59 (codes "]")) ∷ (tok Ident 59 62 (codes "lib")) ∷ (tok Operator 62 63 (codes ".")) ∷ (tok Ident 63 66 (codes "Row")) ∷ (tok Operator 67 68 (codes "{")) ∷ (tok Keyword 70 76 (codes "return")) ∷ (tok Operator 77 78 (codes "[")) ∷ (tok Operator 78 79 (codes "]")) ∷ (tok Ident 79 82 (codes "lib")) ∷ (tok Operator 82 83 (codes ".")) ∷ (tok Ident 83 86 (codes "Row")) ∷ (tok Operator 86 87 (codes "{")) ∷ (tok Operator 87 88 (codes "{")) ∷ (tok Str 88 91 (codes "\"a\"")) ∷ (tok Operator 91 92 (codes "}")) ∷ (tok Operator 92 93 (codes ",")) ∷ (tok Operator 94 95 (codes "{")) ∷ (tok Str 95 99 (codes "\"bc\"")) ∷ (tok Operator 99 100 (codes "}")) ∷ (tok Operator 100 101 (codes "}")) ∷ (tok Inserted 101 101 (codes ";")) ∷ (tok Operator 114 115 (codes "}")) ∷ (tok Inserted 115 115 (codes ";")) ∷ (tok Keyword 117 121 (codes "func")) ∷ (tok Ident 122 126 (codes "main")) ∷ (tok Operator 126 127 (codes "(")) ∷ (tok Operator 127 128 (codes ")")) ∷ (tok Operator 129 130 (codes "{")) ∷ (tok Ident 132 136 (codes "rows")) ∷ (tok Operator 137 139 (codes ":=")) ∷ (tok Ident 140 144 (codes "load")) ∷ (tok Operator 144 145 (codes "(")) ∷ (tok Operator 145 146 (codes ")")) ∷ (tok Inserted 146 146 (codes ";")) ∷ (tok Keyword 148 151 (codes "for")) ∷ (tok Ident 152 153 (codes "i")) ∷ (tok Operator 154 156 (codes ":=")) ∷ (tok Integer 157 158 (codes "0")) ∷ (tok Operator 158 159 (codes ";")) ∷ (tok Ident 160 161 (codes "i")) ∷ (tok Operator 162 163 (codes "<")) ∷ (tok Integer 164 165 (codes "2")) ∷ (tok Operator 165 166 (codes ";")) ∷ (tok Ident 167 168 (codes "i")) ∷ (tok Operator 168 170 (codes "++")) ∷ (tok Operator 171 172 (codes "{")) ∷ (tok Ident 175 182 (codes "println")) ∷ (tok Operator 182 183 (codes "(")) ∷ (tok Ident 183 186 (codes "lib")) ∷ (tok Operator 186 187 (codes ".")) ∷ (tok Ident 187 194 (codes "PadLeft")) ∷ (tok Operator 194 195 (codes "(")) ∷ (tok Ident 195 199 (codes "rows")) ∷ (tok Operator 199 200 (codes "[")) ∷ (tok Ident 200 201 (codes "i")) ∷ (tok Operator 201 202 (codes "]")) ∷ (tok Operator 202 203 (codes ".")) ∷ (tok Ident 203 207 (codes "Body")) ∷ (tok Operator 207 208 (codes ",")) ∷ (tok Ident 209 212 (codes "lib")) ∷ (tok Operator 212 213 (codes ".")) ∷ (tok Ident 213 221 (codes "MaxWidth")) ∷ (tok Operator 221 222 (codes ")")) ∷ (tok Operator 222 223 (codes ")")) ∷ (tok Inserted 223 223 (codes ";")) ∷ (tok Operator 225 226 (codes "}")) ∷ (tok Inserted 226 226 (codes ";")) ∷ (tok Ident 228 231 (codes "lib")) ∷ (tok Operator 231 232 (codes ".")) ∷ (tok Ident 232 236 (codes "Show")) ∷ (tok Operator 236 237 (codes "(")) ∷ (tok Ident 237 241 (codes "rows")) ∷ (tok Operator 241 242 (codes ",")) ∷ (tok Integer 243 244 (codes "4")) ∷ (tok Operator 244 245 (codes ")")) ∷ (tok Inserted 245 245 (codes ";")) ∷ (tok Ident 247 254 (codes "println")) ∷ (tok Operator 254 255 (codes "(")) ∷ (tok Ident 255 258 (codes "lib")) ∷ (tok Operator 258 259 (codes ".")) ∷ (tok Ident 259 264 (codes "Total")) ∷ (tok Operator 264 265 (codes "(")) ∷ (tok Ident 265 269 (codes "rows")) ∷ (tok Operator 269 270 (codes ")")) ∷ (tok Operator 270 271 (codes ")")) ∷ (tok Inserted 271 271 (codes ";")) ∷ (tok Operator 272 273 (codes "}")) ∷ (tok Inserted 273 273 (codes ";")) ∷ []); comments = ((note 102 113) ∷ []) }) ∷ ((codes "lib.go"), record { text = (codes "// Package lib keeps the old names.\npackage lib\n\nimport \"example.com/lib/text\"\n\nconst (\n\t// Deprecated: use text.Wide.\n\t//go:fix inline\n\tMaxWidth = text.Wide\n\n\tlimit = 3\n)\n\n// Deprecated: use text.Line.\n//\n//go:fix inline\ntype Row = text.Line\n\n// Deprecated: use text.Pad.\n//\n//go:fix inline\nfunc PadLeft(s string, n int) string {\n\treturn text.Pad(s, n, true)\n}\n\n// Deprecated: use text.Put.\n//\n//go:fix inline\nfunc Show(rows []text.Line, width int) {\n\tfor _, r := range rows {\n\t\ttext.Put(r, width)\n\t}\n}\n\n// Total is kept.\nfunc Total(rows []Row) int {\n\tt := limit\n\tfor _, r := range rows {\n\t\tt += len(r.Body)\n\t}\n\treturn t\n}\n"); tokens = ((tok Keyword 36 43 (codes "package")) ∷ (tok Ident 44 47 (codes "lib")) ∷ (tok Inserted 47 47 (codes ";")) ∷ (tok Keyword 49 55 (codes "import")) ∷ (tok Str 56 78 (codes "\"example.com/lib/text\"")) ∷ (tok Inserted 78 78 (codes ";")) ∷ (tok Keyword 80 85 (codes "const")) ∷ (tok Operator 86 87 (codes "(")) ∷ (tok Ident 137 145 (codes "MaxWidth")) ∷ (tok Operator 146 147 (codes "=")) ∷ (tok Ident 148 152 (codes "text")) ∷ (tok Operator 152 153 (codes ".")) ∷ (tok Ident 153 157 (codes "Wide")) ∷ (tok Inserted 157 157 (codes ";")) ∷ (tok Ident 160 165 (codes "limit")) ∷ (tok Operator 166 167 (codes "=")) ∷ (tok Integer 168 169 (codes "3")) ∷ (tok Inserted 169 169 (codes ";")) ∷ (tok Operator 170 171 (codes ")")) ∷ (tok Inserted 171 171 (codes ";")) ∷ (tok Keyword 222 226 (codes "type")) ∷ (tok Ident 227 230 (codes "Row")) ∷ (tok Operator 231 232 (codes "=")) ∷ (tok Ident 233 237 (codes "text")) ∷ (tok Operator 237 238 (codes ".")) ∷ (tok Ident 238 242 (codes "Line")) ∷ (tok Inserted 242 242 (codes ";")) ∷ (tok Keyword 292 296 (codes "func")) ∷ (tok Ident 297 304 (codes "PadLeft")) ∷ (tok Operator 304 305 (codes "(")) ∷ (tok Ident 305 306 (codes "s")) ∷ (tok Ident 307 313 (codes "string")) ∷ (tok Operator 313 314 (codes ",")) ∷ (tok Ident 315 316 (codes "n")) ∷ (tok Ident 317 320 (codes "int")) ∷ (tok Operator 320 321 (codes ")")) ∷ (tok Ident 322 328 (codes "string")) ∷ (tok Operator 329 330 (codes "{")) ∷ (tok Keyword 332 338 (codes "return")) ∷ (tok Ident 339 343 (codes "text")) ∷ (tok Operator 343 344 (codes ".")) ∷ (tok Ident 344 347 (codes "Pad")) ∷ (tok Operator 347 348 (codes "(")) ∷ (tok Ident 348 349 (codes "s")) ∷ (tok Operator 349 350 (codes ",")) ∷ (tok Ident 351 352 (codes "n")) ∷ (tok Operator 352 353 (codes ",")) ∷ (tok Ident 354 358 (codes "true")) ∷ (tok Operator 358 359 (codes ")")) ∷ (tok Inserted 359 359 (codes ";")) ∷ (tok Operator 360 361 (codes "}")) ∷ (tok Inserted 361 361 (codes ";")) ∷ (tok Keyword 411 415 (codes "func")) ∷ (tok Ident 416 420 (codes "Show")) ∷ (tok Operator 420 421 (codes "(")) ∷ (tok Ident 421 425 (codes "rows")) ∷ (tok Operator 426 427 (codes "[")) ∷ (tok Operator 427 428 (codes "]")) ∷ (tok Ident 428 432 (codes "text")) ∷ (tok Operator 432 433 (codes ".")) ∷ (tok Ident 433 437 (codes "Line")) ∷ (tok Operator 437 438 (codes ",")) ∷ (tok Ident 439 444 (codes "width")) ∷ (tok Ident 445 448 (codes "int")) ∷ (tok Operator 448 449 (codes ")")) ∷ (tok Operator 450 451 (codes "{")) ∷ (tok Keyword 453 456 (codes "for")) ∷ (tok Ident 457 458 (codes "_")) ∷ (tok Operator 458 459 (codes ",")) ∷ (tok Ident 460 461 (codes "r")) ∷ (tok Operator 462 464 (codes ":=")) ∷ (tok Keyword 465 470 (codes "range")) ∷ (tok Ident 471 475 (codes "rows")) ∷ (tok Operator 476 477 (codes "{")) ∷ (tok Ident 480 484 (codes "text")) ∷ (tok Operator 484 485 (codes ".")) ∷ (tok Ident 485 488 (codes "Put")) ∷ (tok Operator 488 489 (codes "(")) ∷ (tok Ident 489 490 (codes "r")) ∷ (tok Operator 490 491 (codes ",")) ∷ (tok Ident 492 497 (codes "width")) ∷ (tok Operator 497 498 (codes ")")) ∷ (tok Inserted 498 498 (codes ";")) ∷ (tok Operator 500 501 (codes "}")) ∷ (tok Inserted 501 501 (codes ";")) ∷ (tok Operator 502 503 (codes "}")) ∷ (tok Inserted 503 503 (codes ";")) ∷ (tok Keyword 523 527 (codes "func")) ∷ (tok Ident 528 533 (codes "Total")) ∷ (tok Operator 533 534 (codes "(")) ∷ (tok Ident 534 538 (codes "rows")) ∷ (tok Operator 539 540 (codes "[")) ∷ (tok Operator 540 541 (codes "]")) ∷ (tok Ident 541 544 (codes "Row")) ∷ (tok Operator 544 545 (codes ")")) ∷ (tok Ident 546 549 (codes "int")) ∷ (tok Operator 550 551 (codes "{")) ∷ (tok Ident 553 554 (codes "t")) ∷ (tok Operator 555 557 (codes ":=")) ∷ (tok Ident 558 563 (codes "limit")) ∷ (tok Inserted 563 563 (codes ";")) ∷ (tok Keyword 565 568 (codes "for")) ∷ (tok Ident 569 570 (codes "_")) ∷ (tok Operator 570 571 (codes ",")) ∷ (tok Ident 572 573 (codes "r")) ∷ (tok Operator 574 576 (codes ":=")) ∷ (tok Keyword 577 582 (codes "range")) ∷ (tok Ident 583 587 (codes "rows")) ∷ (tok Operator 588 589 (codes "{")) ∷ (tok Ident 592 593 (codes "t")) ∷ (tok Operator 594 596 (codes "+=")) ∷ (tok Ident 597 600 (codes "len")) ∷ (tok Operator 600 601 (codes "(")) ∷ (tok Ident 601 602 (codes "r")) ∷ (tok Operator 602 603 (codes ".")) ∷ (tok Ident 603 607 (codes "Body")) ∷ (tok Operator 607 608 (codes ")")) ∷ (tok Inserted 608 608 (codes ";")) ∷ (tok Operator 610 611 (codes "}")) ∷ (tok Inserted 611 611 (codes ";")) ∷ (tok Keyword 613 619 (codes "return")) ∷ (tok Ident 620 621 (codes "t")) ∷ (tok Inserted 621 621 (codes ";")) ∷ (tok Operator 622 623 (codes "}")) ∷ (tok Inserted 623 623 (codes ";")) ∷ []); comments = ((note 0 35) ∷ (note 89 118) ∷ (note 120 135) ∷ (note 173 202) ∷ (note 203 205) ∷ (note 206 221) ∷ (note 244 272) ∷ (note 273 275) ∷ (note 276 291) ∷ (note 363 391) ∷ (note 392 394) ∷ (note 395 410) ∷ (note 505 522) ∷ []) }) ∷ ((codes "text/text.go"), record { text = (codes "package text\n\nconst Wide = 8\n\ntype Line struct {\n\tBody string\n}\n\nfunc Pad(s string, n int, left bool) string {\n\tfor len(s) < n {\n\t\tif left {\n\t\t\ts = \" \" + s\n\t\t} else {\n\t\t\ts += \" \"\n\t\t}\n\t}\n\treturn s\n}\n\nfunc Put(l Line, width int) {\n\tprintln(Pad(l.Body, width, false))\n}\n"); tokens = ((tok Keyword 0 7 (codes "package")) ∷ (tok Ident 8 12 (codes "text")) ∷ (tok Inserted 12 12 (codes ";")) ∷ (tok Keyword 14 19 (codes "const")) ∷ (tok Ident 20 24 (codes "Wide")) ∷ (tok Operator 25 26 (codes "=")) ∷ (tok Integer 27 28 (codes "8")) ∷ (tok Inserted 28 28 (codes ";")) ∷ (tok Keyword 30 34 (codes "type")) ∷ (tok Ident 35 39 (codes "Line")) ∷ (tok Keyword 40 46 (codes "struct")) ∷ (tok Operator 47 48 (codes "{")) ∷ (tok Ident 50 54 (codes "Body")) ∷ (tok Ident 55 61 (codes "string")) ∷ (tok Inserted 61 61 (codes ";")) ∷ (tok Operator 62 63 (codes "}")) ∷ (tok Inserted 63 63 (codes ";")) ∷ (tok Keyword 65 69 (codes "func")) ∷ (tok Ident 70 73 (codes "Pad")) ∷ (tok Operator 73 74 (codes "(")) ∷ (tok Ident 74 75 (codes "s")) ∷ (tok Ident 76 82 (codes "string")) ∷ (tok Operator 82 83 (codes ",")) ∷ (tok Ident 84 85 (codes "n")) ∷ (tok Ident 86 89 (codes "int")) ∷ (tok Operator 89 90 (codes ",")) ∷ (tok Ident 91 95 (codes "left")) ∷ (tok Ident 96 100 (codes "bool")) ∷ (tok Operator 100 101 (codes ")")) ∷ (tok Ident 102 108 (codes "string")) ∷ (tok Operator 109 110 (codes "{")) ∷ (tok Keyword 112 115 (codes "for")) ∷ (tok Ident 116 119 (codes "len")) ∷ (tok Operator 119 120 (codes "(")) ∷ (tok Ident 120 121 (codes "s")) ∷ (tok Operator 121 122 (codes ")")) ∷ (tok Operator 123 124 (codes "<")) ∷ (tok Ident 125 126 (codes "n")) ∷ (tok Operator 127 128 (codes "{")) ∷ (tok Keyword 131 133 (codes "if")) ∷ (tok Ident 134 138 (codes "left")) ∷ (tok Operator 139 140 (codes "{")) ∷ (tok Ident 144 145 (codes "s")) ∷ (tok Operator 146 147 (codes "=")) ∷ (tok Str 148 151 (codes "\" \"")) ∷ (tok Operator 152 153 (codes "+")) ∷ (tok Ident 154 155 (codes "s")) ∷ (tok Inserted 155 155 (codes ";")) ∷ (tok Operator 158 159 (codes "}")) ∷ (tok Keyword 160 164 (codes "else")) ∷ (tok Operator 165 166 (codes "{")) ∷ (tok Ident 170 171 (codes "s")) ∷ (tok Operator 172 174 (codes "+=")) ∷ (tok Str 175 178 (codes "\" \"")) ∷ (tok Inserted 178 178 (codes ";")) ∷ (tok Operator 181 182 (codes "}")) ∷ (tok Inserted 182 182 (codes ";")) ∷ (tok Operator 184 185 (codes "}")) ∷ (tok Inserted 185 185 (codes ";")) ∷ (tok Keyword 187 193 (codes "return")) ∷ (tok Ident 194 195 (codes "s")) ∷ (tok Inserted 195 195 (codes ";")) ∷ (tok Operator 196 197 (codes "}")) ∷ (tok Inserted 197 197 (codes ";")) ∷ (tok Keyword 199 203 (codes "func")) ∷ (tok Ident 204 207 (codes "Put")) ∷ (tok Operator 207 208 (codes "(")) ∷ (tok Ident 208 209 (codes "l")) ∷ (tok Ident 210 214 (codes "Line")) ∷ (tok Operator 214 215 (codes ",")) ∷ (tok Ident 216 221 (codes "width")) ∷ (tok Ident 222 225 (codes "int")) ∷ (tok Operator 225 226 (codes ")")) ∷ (tok Operator 227 228 (codes "{")) ∷ (tok Ident 230 237 (codes "println")) ∷ (tok Operator 237 238 (codes "(")) ∷ (tok Ident 238 241 (codes "Pad")) ∷ (tok Operator 241 242 (codes "(")) ∷ (tok Ident 242 243 (codes "l")) ∷ (tok Operator 243 244 (codes ".")) ∷ (tok Ident 244 248 (codes "Body")) ∷ (tok Operator 248 249 (codes ",")) ∷ (tok Ident 250 255 (codes "width")) ∷ (tok Operator 255 256 (codes ",")) ∷ (tok Ident 257 262 (codes "false")) ∷ (tok Operator 262 263 (codes ")")) ∷ (tok Operator 263 264 (codes ")")) ∷ (tok Inserted 264 264 (codes ";")) ∷ (tok Operator 265 266 (codes "}")) ∷ (tok Inserted 266 266 (codes ";")) ∷ []); comments = [] }) ∷ []) }

library_1_typed : is_typed library_1 ≡ true
library_1_typed = refl

library_1_step : first_change library_1 ≡ Some ((codes "lib.go"), TypeForm, (codes "// Package lib keeps the old names.\npackage lib\n\nimport \"example.com/lib/text\"\n\nconst (\n\t// Deprecated: use text.Wide.\n\t//go:fix inline\n\tMaxWidth = text.Wide\n\n\tlimit = 3\n)\n\n// Deprecated: use text.Line.\n//\n//go:fix inline\ntype Row = text.Line\n\n// Deprecated: use text.Pad.\n//\n//go:fix inline\nfunc PadLeft(s string, n int) string {\n\treturn text.Pad(s, n, true)\n}\n\n// Deprecated: use text.Put.\n//\n//go:fix inline\nfunc Show(rows []text.Line, width int) {\n\tfor _, r := range rows {\n\t\ttext.Put(r, width)\n\t}\n}\n\n// Total is kept.\nfunc Total(rows []text.Line) int {\n\tt := limit\n\tfor _, r := range rows {\n\t\tt += len(r.Body)\n\t}\n\treturn t\n}\n"))
unfolding passes keyword_spellings
library_1_step = refl

abbrev library_2_f0 : File Span
library_2_f0 = record { package_name = (nm 8 12 (codes "main")); imports = ((imps (at 14 43) true ((imp (at 24 41) None (codes "example.com/lib")) ∷ [])) ∷ []); decls = ((fn (at 45 115) None (nm 50 54 (codes "load")) (sig [] ((param (at 57 66) None (slice_type (at 57 66) (named (at 59 66) (Some (nm 59 62 (codes "lib"))) (nm 63 66 (codes "Row"))))) ∷ [])) (at 67 115) (stmt_and (return_ (at 70 101) (expr_and (composite (at 77 101) (slice_type (at 77 86) (named (at 79 86) (Some (nm 79 82 (codes "lib"))) (nm 83 86 (codes "Row")))) (elem (at 87 92) no_value (braced (at 87 92) (elem (at 88 91) no_value (plain (str_lit (at 88 91) (codes "\"a\""))) no_elems)) (elem (at 94 100) no_value (braced (at 94 100) (elem (at 95 99) no_value (plain (str_lit (at 95 99) (codes "\"bc\""))) no_elems)) no_elems))) no_exprs)) no_stmts)) ∷ (fn (at 117 273) None (nm 122 126 (codes "main")) (sig [] []) (at 129 273) (stmt_and (define (at 132 146) ((nm 132 136 (codes "rows")) ∷ []) (expr_and (call (at 140 146) (ident (at 140 144) (codes "load")) no_exprs Plain) no_exprs)) (stmt_and (for_ (at 148 226) (some_stmt (define (at 152 158) ((nm 152 153 (codes "i")) ∷ []) (expr_and (int_lit (at 157 158) (codes "0")) no_exprs))) (some_expr (binary (at 160 165) Lt (ident (at 160 161) (codes "i")) (int_lit (at 164 165) (codes "2")))) (some_stmt (step (at 167 170) (ident (at 167 168) (codes "i")) true)) (at 171 226) (stmt_and (eval (at 175 223) (call (at 175 223) (ident (at 175 182) (codes "println")) (expr_and (call (at 183 222) (selector (at 183 194) (ident (at 183 186) (codes "lib")) (nm 187 194 (codes "PadLeft"))) (expr_and (selector (at 195 207) (index (at 195 202) (ident (at 195 199) (codes "rows")) (ident (at 200 201) (codes "i"))) (nm 203 207 (codes "Body"))) (expr_and (selector (at 209 221) (ident (at 209 212) (codes "lib")) (nm 213 221 (codes "MaxWidth"))) no_exprs)) Plain) no_exprs) Plain)) no_stmts)) (stmt_and (eval (at 228 245) (call (at 228 245) (selector (at 228 236) (ident (at 228 231) (codes "lib")) (nm 232 236 (codes "Show"))) (expr_and (ident (at 237 241) (codes "rows")) (expr_and (int_lit (at 243 244) (codes "4")) no_exprs)) Plain)) (stmt_and (eval (at 247 271) (call (at 247 271) (ident (at 247 254) (codes "println")) (expr_and (call (at 255 270) (selector (at 255 264) (ident (at 255 258) (codes "lib")) (nm 259 264 (codes "Total"))) (expr_and (ident (at 265 269) (codes "rows")) no_exprs) Plain) no_exprs) Plain)) no_stmts))))) ∷ []) }

abbrev library_2_f1 : File Span
library_2_f1 = record { package_name = (nm 44 47 (codes "lib")); imports = ((imps (at 49 78) false ((imp (at 56 78) None (codes "example.com/lib/text")) ∷ [])) ∷ []); decls = ((values (const_decl (at 80 171) true (spec (at 137 157) ((nm 137 145 (codes "MaxWidth")) ∷ []) None (expr_and (selector (at 148 157) (ident (at 148 152) (codes "text")) (nm 153 157 (codes "Wide"))) no_exprs) (spec (at 160 169) ((nm 160 165 (codes "limit")) ∷ []) None (expr_and (int_lit (at 168 169) (codes "3")) no_exprs) no_specs)))) ∷ (types (at 222 242) false ((tspec (at 227 242) (nm 227 230 (codes "Row")) true (named (at 233 242) (Some (nm 233 237 (codes "text"))) (nm 238 242 (codes "Line")))) ∷ [])) ∷ (fn (at 292 361) None (nm 297 304 (codes "PadLeft")) (sig ((param (at 305 313) (Some (nm 305 306 (codes "s"))) (named (at 307 313) None (nm 307 313 (codes "string")))) ∷ (param (at 315 320) (Some (nm 315 316 (codes "n"))) (named (at 317 320) None (nm 317 320 (codes "int")))) ∷ []) ((param (at 322 328) None (named (at 322 328) None (nm 322 328 (codes "string")))) ∷ [])) (at 329 361) (stmt_and (return_ (at 332 359) (expr_and (call (at 339 359) (selector (at 339 347) (ident (at 339 343) (codes "text")) (nm 344 347 (codes "Pad"))) (expr_and (ident (at 348 349) (codes "s")) (expr_and (ident (at 351 352) (codes "n")) (expr_and (ident (at 354 358) (codes "true")) no_exprs))) Plain) no_exprs)) no_stmts)) ∷ (fn (at 411 503) None (nm 416 420 (codes "Show")) (sig ((param (at 421 437) (Some (nm 421 425 (codes "rows"))) (slice_type (at 426 437) (named (at 428 437) (Some (nm 428 432 (codes "text"))) (nm 433 437 (codes "Line"))))) ∷ (param (at 439 448) (Some (nm 439 444 (codes "width"))) (named (at 445 448) None (nm 445 448 (codes "int")))) ∷ []) []) (at 450 503) (stmt_and (range_ (at 453 501) (defines ((nm 457 458 (codes "_")) ∷ (nm 460 461 (codes "r")) ∷ [])) (ident (at 471 475) (codes "rows")) (at 476 501) (stmt_and (eval (at 480 498) (call (at 480 498) (selector (at 480 488) (ident (at 480 484) (codes "text")) (nm 485 488 (codes "Put"))) (expr_and (ident (at 489 490) (codes "r")) (expr_and (ident (at 492 497) (codes "width")) no_exprs)) Plain)) no_stmts)) no_stmts)) ∷ (fn (at 523 629) None (nm 528 533 (codes "Total")) (sig ((param (at 534 550) (Some (nm 534 538 (codes "rows"))) (slice_type (at 539 550) (named (at 541 550) (Some (nm 541 545 (codes "text"))) (nm 546 550 (codes "Line"))))) ∷ []) ((param (at 552 555) None (named (at 552 555) None (nm 552 555 (codes "int")))) ∷ [])) (at 556 629) (stmt_and (define (at 559 569) ((nm 559 560 (codes "t")) ∷ []) (expr_and (ident (at 564 569) (codes "limit")) no_exprs)) (stmt_and (range_ (at 571 617) (defines ((nm 575 576 (codes "_")) ∷ (nm 578 579 (codes "r")) ∷ [])) (ident (at 589 593) (codes "rows")) (at 594 617) (stmt_and (assign (at 598 614) (expr_and (ident (at 598 599) (codes "t")) no_exprs) (Some Add) (expr_and (call (at 603 614) (ident (at 603 606) (codes "len")) (expr_and (selector (at 607 613) (ident (at 607 608) (codes "r")) (nm 609 613 (codes "Body"))) no_exprs) Plain) no_exprs)) no_stmts)) (stmt_and (return_ (at 619 627) (expr_and (ident (at 626 627) (codes "t")) no_exprs)) no_stmts)))) ∷ []) }

abbrev library_2_f2 : File Span
library_2_f2 = record { package_name = (nm 8 12 (codes "text")); imports = []; decls = ((values (const_decl (at 14 28) false (spec (at 20 28) ((nm 20 24 (codes "Wide")) ∷ []) None (expr_and (int_lit (at 27 28) (codes "8")) no_exprs) no_specs))) ∷ (types (at 30 63) false ((tspec (at 35 63) (nm 35 39 (codes "Line")) false (struct_type (at 40 63) (field (at 50 61) (nm 50 54 (codes "Body")) (named (at 55 61) None (nm 55 61 (codes "string"))) no_fields))) ∷ [])) ∷ (fn (at 65 197) None (nm 70 73 (codes "Pad")) (sig ((param (at 74 82) (Some (nm 74 75 (codes "s"))) (named (at 76 82) None (nm 76 82 (codes "string")))) ∷ (param (at 84 89) (Some (nm 84 85 (codes "n"))) (named (at 86 89) None (nm 86 89 (codes "int")))) ∷ (param (at 91 100) (Some (nm 91 95 (codes "left"))) (named (at 96 100) None (nm 96 100 (codes "bool")))) ∷ []) ((param (at 102 108) None (named (at 102 108) None (nm 102 108 (codes "string")))) ∷ [])) (at 109 197) (stmt_and (for_ (at 112 185) no_stmt (some_expr (binary (at 116 126) Lt (call (at 116 122) (ident (at 116 119) (codes "len")) (expr_and (ident (at 120 121) (codes "s")) no_exprs) Plain) (ident (at 125 126) (codes "n")))) no_stmt (at 127 185) (stmt_and (if_ (at 131 182) (arm (at 131 159) no_stmt (ident (at 134 138) (codes "left")) (at 139 159) (stmt_and (assign (at 144 155) (expr_and (ident (at 144 145) (codes "s")) no_exprs) None (expr_and (binary (at 148 155) Add (str_lit (at 148 151) (codes "\" \"")) (ident (at 154 155) (codes "s"))) no_exprs)) no_stmts) no_arms) (some_block (at 165 182) (stmt_and (assign (at 170 178) (expr_and (ident (at 170 171) (codes "s")) no_exprs) (Some Add) (expr_and (str_lit (at 175 178) (codes "\" \"")) no_exprs)) no_stmts))) no_stmts)) (stmt_and (return_ (at 187 195) (expr_and (ident (at 194 195) (codes "s")) no_exprs)) no_stmts))) ∷ (fn (at 199 266) None (nm 204 207 (codes "Put")) (sig ((param (at 208 214) (Some (nm 208 209 (codes "l"))) (named (at 210 214) None (nm 210 214 (codes "Line")))) ∷ (param (at 216 225) (Some (nm 216 221 (codes "width"))) (named (at 222 225) None (nm 222 225 (codes "int")))) ∷ []) []) (at 227 266) (stmt_and (eval (at 230 264) (call (at 230 264) (ident (at 230 237) (codes "println")) (expr_and (call (at 238 263) (ident (at 238 241) (codes "Pad")) (expr_and (selector (at 242 248) (ident (at 242 243) (codes "l")) (nm 244 248 (codes "Body"))) (expr_and (ident (at 250 255) (codes "width")) (expr_and (ident (at 257 262) (codes "false")) no_exprs))) Plain) no_exprs) Plain)) no_stmts)) ∷ []) }

library_2_f1_read : read_at span_to read_front (lexemes ((tok Keyword 36 43 (codes "package")) ∷ (tok Ident 44 47 (codes "lib")) ∷ (tok Inserted 47 47 (codes ";")) ∷ (tok Keyword 49 55 (codes "import")) ∷ (tok Str 56 78 (codes "\"example.com/lib/text\"")) ∷ (tok Inserted 78 78 (codes ";")) ∷ (tok Keyword 80 85 (codes "const")) ∷ (tok Operator 86 87 (codes "(")) ∷ (tok Ident 137 145 (codes "MaxWidth")) ∷ (tok Operator 146 147 (codes "=")) ∷ (tok Ident 148 152 (codes "text")) ∷ (tok Operator 152 153 (codes ".")) ∷ (tok Ident 153 157 (codes "Wide")) ∷ (tok Inserted 157 157 (codes ";")) ∷ (tok Ident 160 165 (codes "limit")) ∷ (tok Operator 166 167 (codes "=")) ∷ (tok Integer 168 169 (codes "3")) ∷ (tok Inserted 169 169 (codes ";")) ∷ (tok Operator 170 171 (codes ")")) ∷ (tok Inserted 171 171 (codes ";")) ∷ (tok Keyword 222 226 (codes "type")) ∷ (tok Ident 227 230 (codes "Row")) ∷ (tok Operator 231 232 (codes "=")) ∷ (tok Ident 233 237 (codes "text")) ∷ (tok Operator 237 238 (codes ".")) ∷ (tok Ident 238 242 (codes "Line")) ∷ (tok Inserted 242 242 (codes ";")) ∷ (tok Keyword 292 296 (codes "func")) ∷ (tok Ident 297 304 (codes "PadLeft")) ∷ (tok Operator 304 305 (codes "(")) ∷ (tok Ident 305 306 (codes "s")) ∷ (tok Ident 307 313 (codes "string")) ∷ (tok Operator 313 314 (codes ",")) ∷ (tok Ident 315 316 (codes "n")) ∷ (tok Ident 317 320 (codes "int")) ∷ (tok Operator 320 321 (codes ")")) ∷ (tok Ident 322 328 (codes "string")) ∷ (tok Operator 329 330 (codes "{")) ∷ (tok Keyword 332 338 (codes "return")) ∷ (tok Ident 339 343 (codes "text")) ∷ (tok Operator 343 344 (codes ".")) ∷ (tok Ident 344 347 (codes "Pad")) ∷ (tok Operator 347 348 (codes "(")) ∷ (tok Ident 348 349 (codes "s")) ∷ (tok Operator 349 350 (codes ",")) ∷ (tok Ident 351 352 (codes "n")) ∷ (tok Operator 352 353 (codes ",")) ∷ (tok Ident 354 358 (codes "true")) ∷ (tok Operator 358 359 (codes ")")) ∷ (tok Inserted 359 359 (codes ";")) ∷ (tok Operator 360 361 (codes "}")) ∷ (tok Inserted 361 361 (codes ";")) ∷ (tok Keyword 411 415 (codes "func")) ∷ (tok Ident 416 420 (codes "Show")) ∷ (tok Operator 420 421 (codes "(")) ∷ (tok Ident 421 425 (codes "rows")) ∷ (tok Operator 426 427 (codes "[")) ∷ (tok Operator 427 428 (codes "]")) ∷ (tok Ident 428 432 (codes "text")) ∷ (tok Operator 432 433 (codes ".")) ∷ (tok Ident 433 437 (codes "Line")) ∷ (tok Operator 437 438 (codes ",")) ∷ (tok Ident 439 444 (codes "width")) ∷ (tok Ident 445 448 (codes "int")) ∷ (tok Operator 448 449 (codes ")")) ∷ (tok Operator 450 451 (codes "{")) ∷ (tok Keyword 453 456 (codes "for")) ∷ (tok Ident 457 458 (codes "_")) ∷ (tok Operator 458 459 (codes ",")) ∷ (tok Ident 460 461 (codes "r")) ∷ (tok Operator 462 464 (codes ":=")) ∷ (tok Keyword 465 470 (codes "range")) ∷ (tok Ident 471 475 (codes "rows")) ∷ (tok Operator 476 477 (codes "{")) ∷ (tok Ident 480 484 (codes "text")) ∷ (tok Operator 484 485 (codes ".")) ∷ (tok Ident 485 488 (codes "Put")) ∷ (tok Operator 488 489 (codes "(")) ∷ (tok Ident 489 490 (codes "r")) ∷ (tok Operator 490 491 (codes ",")) ∷ (tok Ident 492 497 (codes "width")) ∷ (tok Operator 497 498 (codes ")")) ∷ (tok Inserted 498 498 (codes ";")) ∷ (tok Operator 500 501 (codes "}")) ∷ (tok Inserted 501 501 (codes ";")) ∷ (tok Operator 502 503 (codes "}")) ∷ (tok Inserted 503 503 (codes ";")) ∷ (tok Keyword 523 527 (codes "func")) ∷ (tok Ident 528 533 (codes "Total")) ∷ (tok Operator 533 534 (codes "(")) ∷ (tok Ident 534 538 (codes "rows")) ∷ (tok Operator 539 540 (codes "[")) ∷ (tok Operator 540 541 (codes "]")) ∷ (tok Ident 541 545 (codes "text")) ∷ (tok Operator 545 546 (codes ".")) ∷ (tok Ident 546 550 (codes "Line")) ∷ (tok Operator 550 551 (codes ")")) ∷ (tok Ident 552 555 (codes "int")) ∷ (tok Operator 556 557 (codes "{")) ∷ (tok Ident 559 560 (codes "t")) ∷ (tok Operator 561 563 (codes ":=")) ∷ (tok Ident 564 569 (codes "limit")) ∷ (tok Inserted 569 569 (codes ";")) ∷ (tok Keyword 571 574 (codes "for")) ∷ (tok Ident 575 576 (codes "_")) ∷ (tok Operator 576 577 (codes ",")) ∷ (tok Ident 578 579 (codes "r")) ∷ (tok Operator 580 582 (codes ":=")) ∷ (tok Keyword 583 588 (codes "range")) ∷ (tok Ident 589 593 (codes "rows")) ∷ (tok Operator 594 595 (codes "{")) ∷ (tok Ident 598 599 (codes "t")) ∷ (tok Operator 600 602 (codes "+=")) ∷ (tok Ident 603 606 (codes "len")) ∷ (tok Operator 606 607 (codes "(")) ∷ (tok Ident 607 608 (codes "r")) ∷ (tok Operator 608 609 (codes ".")) ∷ (tok Ident 609 613 (codes "Body")) ∷ (tok Operator 613 614 (codes ")")) ∷ (tok Inserted 614 614 (codes ";")) ∷ (tok Operator 616 617 (codes "}")) ∷ (tok Inserted 617 617 (codes ";")) ∷ (tok Keyword 619 625 (codes "return")) ∷ (tok Ident 626 627 (codes "t")) ∷ (tok Inserted 627 627 (codes ";")) ∷ (tok Operator 628 629 (codes "}")) ∷ (tok Inserted 629 629 (codes ";")) ∷ [])) ≡ Some (library_2_f1, [])
unfolding reading
library_2_f1_read = refl

abbrev library_2 : Module
library_2 = record { packages = (pack (codes "example.com/lib/cmd") (codes "main") (source (codes "cmd/main.go") library_2_f0 ∷ []) ∷ pack (codes "example.com/lib") (codes "lib") (source (codes "lib.go") library_2_f1 ∷ []) ∷ pack (codes "example.com/lib/text") (codes "text") (source (codes "text/text.go") library_2_f2 ∷ []) ∷ []); marks = (mark 1 0 0 0 ∷ mark 1 0 1 0 ∷ mark 1 0 2 0 ∷ mark 1 0 3 0 ∷ []); texts = (((codes "cmd/main.go"), record { text = (codes "package main\n\nimport (\n\t\"example.com/lib\"\n)\n\nfunc load() []lib.Row {\n\treturn []lib.Row{{\"a\"}, {\"bc\"}} // two rows\n}\n\nfunc main() {\n\trows := load()\n\tfor i := 0; i < 2; i++ {\n\t\tprintln(lib.PadLeft(rows[i].Body, lib.MaxWidth))\n\t}\n\tlib.Show(rows, 4)\n\tprintln(lib.Total(rows))\n}\n"); tokens = ((tok Keyword 0 7 (codes "package")) ∷ (tok Ident 8 12 (codes "main")) ∷ (tok Inserted 12 12 (codes ";")) ∷ (tok Keyword 14 20 (codes "import")) ∷ (tok Operator 21 22 (codes "(")) ∷ (tok Str 24 41 (codes "\"example.com/lib\"")) ∷ (tok Inserted 41 41 (codes ";")) ∷ (tok Operator 42 43 (codes ")")) ∷ (tok Inserted 43 43 (codes ";")) ∷ (tok Keyword 45 49 (codes "func")) ∷ (tok Ident 50 54 (codes "load")) ∷ (tok Operator 54 55 (codes "(")) ∷ (tok Operator 55 56 (codes ")")) ∷ (tok Operator 57 58 (codes "[")) ∷ (tok Operator 58 59 (codes "]")) ∷ (tok Ident 59 62 (codes "lib")) ∷ (tok Operator 62 63 (codes ".")) ∷ (tok Ident 63 66 (codes "Row")) ∷ (tok Operator 67 68 (codes "{")) ∷ (tok Keyword 70 76 (codes "return")) ∷ (tok Operator 77 78 (codes "[")) ∷ (tok Operator 78 79 (codes "]")) ∷ (tok Ident 79 82 (codes "lib")) ∷ (tok Operator 82 83 (codes ".")) ∷ (tok Ident 83 86 (codes "Row")) ∷ (tok Operator 86 87 (codes "{")) ∷ (tok Operator 87 88 (codes "{")) ∷ (tok Str 88 91 (codes "\"a\"")) ∷ (tok Operator 91 92 (codes "}")) ∷ (tok Operator 92 93 (codes ",")) ∷ (tok Operator 94 95 (codes "{")) ∷ (tok Str 95 99 (codes "\"bc\"")) ∷ (tok Operator 99 100 (codes "}")) ∷ (tok Operator 100 101 (codes "}")) ∷ (tok Inserted 101 101 (codes ";")) ∷ (tok Operator 114 115 (codes "}")) ∷ (tok Inserted 115 115 (codes ";")) ∷ (tok Keyword 117 121 (codes "func")) ∷ (tok Ident 122 126 (codes "main")) ∷ (tok Operator 126 127 (codes "(")) ∷ (tok Operator 127 128 (codes ")")) ∷ (tok Operator 129 130 (codes "{")) ∷ (tok Ident 132 136 (codes "rows")) ∷ (tok Operator 137 139 (codes ":=")) ∷ (tok Ident 140 144 (codes "load")) ∷ (tok Operator 144 145 (codes "(")) ∷ (tok Operator 145 146 (codes ")")) ∷ (tok Inserted 146 146 (codes ";")) ∷ (tok Keyword 148 151 (codes "for")) ∷ (tok Ident 152 153 (codes "i")) ∷ (tok Operator 154 156 (codes ":=")) ∷ (tok Integer 157 158 (codes "0")) ∷ (tok Operator 158 159 (codes ";")) ∷ (tok Ident 160 161 (codes "i")) ∷ (tok Operator 162 163 (codes "<")) ∷ (tok Integer 164 165 (codes "2")) ∷ (tok Operator 165 166 (codes ";")) ∷ (tok Ident 167 168 (codes "i")) ∷ (tok Operator 168 170 (codes "++")) ∷ (tok Operator 171 172 (codes "{")) ∷ (tok Ident 175 182 (codes "println")) ∷ (tok Operator 182 183 (codes "(")) ∷ (tok Ident 183 186 (codes "lib")) ∷ (tok Operator 186 187 (codes ".")) ∷ (tok Ident 187 194 (codes "PadLeft")) ∷ (tok Operator 194 195 (codes "(")) ∷ (tok Ident 195 199 (codes "rows")) ∷ (tok Operator 199 200 (codes "[")) ∷ (tok Ident 200 201 (codes "i")) ∷ (tok Operator 201 202 (codes "]")) ∷ (tok Operator 202 203 (codes ".")) ∷ (tok Ident 203 207 (codes "Body")) ∷ (tok Operator 207 208 (codes ",")) ∷ (tok Ident 209 212 (codes "lib")) ∷ (tok Operator 212 213 (codes ".")) ∷ (tok Ident 213 221 (codes "MaxWidth")) ∷ (tok Operator 221 222 (codes ")")) ∷ (tok Operator 222 223 (codes ")")) ∷ (tok Inserted 223 223 (codes ";")) ∷ (tok Operator 225 226 (codes "}")) ∷ (tok Inserted 226 226 (codes ";")) ∷ (tok Ident 228 231 (codes "lib")) ∷ (tok Operator 231 232 (codes ".")) ∷ (tok Ident 232 236 (codes "Show")) ∷ (tok Operator 236 237 (codes "(")) ∷ (tok Ident 237 241 (codes "rows")) ∷ (tok Operator 241 242 (codes ",")) ∷ (tok Integer 243 244 (codes "4")) ∷ (tok Operator 244 245 (codes ")")) ∷ (tok Inserted 245 245 (codes ";")) ∷ (tok Ident 247 254 (codes "println")) ∷ (tok Operator 254 255 (codes "(")) ∷ (tok Ident 255 258 (codes "lib")) ∷ (tok Operator 258 259 (codes ".")) ∷ (tok Ident 259 264 (codes "Total")) ∷ (tok Operator 264 265 (codes "(")) ∷ (tok Ident 265 269 (codes "rows")) ∷ (tok Operator 269 270 (codes ")")) ∷ (tok Operator 270 271 (codes ")")) ∷ (tok Inserted 271 271 (codes ";")) ∷ (tok Operator 272 273 (codes "}")) ∷ (tok Inserted 273 273 (codes ";")) ∷ []); comments = ((note 102 113) ∷ []) }) ∷ ((codes "lib.go"), record { text = (codes "// Package lib keeps the old names.\npackage lib\n\nimport \"example.com/lib/text\"\n\nconst (\n\t// Deprecated: use text.Wide.\n\t//go:fix inline\n\tMaxWidth = text.Wide\n\n\tlimit = 3\n)\n\n// Deprecated: use text.Line.\n//\n//go:fix inline\ntype Row = text.Line\n\n// Deprecated: use text.Pad.\n//\n//go:fix inline\nfunc PadLeft(s string, n int) string {\n\treturn text.Pad(s, n, true)\n}\n\n// Deprecated: use text.Put.\n//\n//go:fix inline\nfunc Show(rows []text.Line, width int) {\n\tfor _, r := range rows {\n\t\ttext.Put(r, width)\n\t}\n}\n\n// Total is kept.\nfunc Total(rows []text.Line) int {\n\tt := limit\n\tfor _, r := range rows {\n\t\tt += len(r.Body)\n\t}\n\treturn t\n}\n"); tokens = ((tok Keyword 36 43 (codes "package")) ∷ (tok Ident 44 47 (codes "lib")) ∷ (tok Inserted 47 47 (codes ";")) ∷ (tok Keyword 49 55 (codes "import")) ∷ (tok Str 56 78 (codes "\"example.com/lib/text\"")) ∷ (tok Inserted 78 78 (codes ";")) ∷ (tok Keyword 80 85 (codes "const")) ∷ (tok Operator 86 87 (codes "(")) ∷ (tok Ident 137 145 (codes "MaxWidth")) ∷ (tok Operator 146 147 (codes "=")) ∷ (tok Ident 148 152 (codes "text")) ∷ (tok Operator 152 153 (codes ".")) ∷ (tok Ident 153 157 (codes "Wide")) ∷ (tok Inserted 157 157 (codes ";")) ∷ (tok Ident 160 165 (codes "limit")) ∷ (tok Operator 166 167 (codes "=")) ∷ (tok Integer 168 169 (codes "3")) ∷ (tok Inserted 169 169 (codes ";")) ∷ (tok Operator 170 171 (codes ")")) ∷ (tok Inserted 171 171 (codes ";")) ∷ (tok Keyword 222 226 (codes "type")) ∷ (tok Ident 227 230 (codes "Row")) ∷ (tok Operator 231 232 (codes "=")) ∷ (tok Ident 233 237 (codes "text")) ∷ (tok Operator 237 238 (codes ".")) ∷ (tok Ident 238 242 (codes "Line")) ∷ (tok Inserted 242 242 (codes ";")) ∷ (tok Keyword 292 296 (codes "func")) ∷ (tok Ident 297 304 (codes "PadLeft")) ∷ (tok Operator 304 305 (codes "(")) ∷ (tok Ident 305 306 (codes "s")) ∷ (tok Ident 307 313 (codes "string")) ∷ (tok Operator 313 314 (codes ",")) ∷ (tok Ident 315 316 (codes "n")) ∷ (tok Ident 317 320 (codes "int")) ∷ (tok Operator 320 321 (codes ")")) ∷ (tok Ident 322 328 (codes "string")) ∷ (tok Operator 329 330 (codes "{")) ∷ (tok Keyword 332 338 (codes "return")) ∷ (tok Ident 339 343 (codes "text")) ∷ (tok Operator 343 344 (codes ".")) ∷ (tok Ident 344 347 (codes "Pad")) ∷ (tok Operator 347 348 (codes "(")) ∷ (tok Ident 348 349 (codes "s")) ∷ (tok Operator 349 350 (codes ",")) ∷ (tok Ident 351 352 (codes "n")) ∷ (tok Operator 352 353 (codes ",")) ∷ (tok Ident 354 358 (codes "true")) ∷ (tok Operator 358 359 (codes ")")) ∷ (tok Inserted 359 359 (codes ";")) ∷ (tok Operator 360 361 (codes "}")) ∷ (tok Inserted 361 361 (codes ";")) ∷ (tok Keyword 411 415 (codes "func")) ∷ (tok Ident 416 420 (codes "Show")) ∷ (tok Operator 420 421 (codes "(")) ∷ (tok Ident 421 425 (codes "rows")) ∷ (tok Operator 426 427 (codes "[")) ∷ (tok Operator 427 428 (codes "]")) ∷ (tok Ident 428 432 (codes "text")) ∷ (tok Operator 432 433 (codes ".")) ∷ (tok Ident 433 437 (codes "Line")) ∷ (tok Operator 437 438 (codes ",")) ∷ (tok Ident 439 444 (codes "width")) ∷ (tok Ident 445 448 (codes "int")) ∷ (tok Operator 448 449 (codes ")")) ∷ (tok Operator 450 451 (codes "{")) ∷ (tok Keyword 453 456 (codes "for")) ∷ (tok Ident 457 458 (codes "_")) ∷ (tok Operator 458 459 (codes ",")) ∷ (tok Ident 460 461 (codes "r")) ∷ (tok Operator 462 464 (codes ":=")) ∷ (tok Keyword 465 470 (codes "range")) ∷ (tok Ident 471 475 (codes "rows")) ∷ (tok Operator 476 477 (codes "{")) ∷ (tok Ident 480 484 (codes "text")) ∷ (tok Operator 484 485 (codes ".")) ∷ (tok Ident 485 488 (codes "Put")) ∷ (tok Operator 488 489 (codes "(")) ∷ (tok Ident 489 490 (codes "r")) ∷ (tok Operator 490 491 (codes ",")) ∷ (tok Ident 492 497 (codes "width")) ∷ (tok Operator 497 498 (codes ")")) ∷ (tok Inserted 498 498 (codes ";")) ∷ (tok Operator 500 501 (codes "}")) ∷ (tok Inserted 501 501 (codes ";")) ∷ (tok Operator 502 503 (codes "}")) ∷ (tok Inserted 503 503 (codes ";")) ∷ (tok Keyword 523 527 (codes "func")) ∷ (tok Ident 528 533 (codes "Total")) ∷ (tok Operator 533 534 (codes "(")) ∷ (tok Ident 534 538 (codes "rows")) ∷ (tok Operator 539 540 (codes "[")) ∷ (tok Operator 540 541 (codes "]")) ∷ (tok Ident 541 545 (codes "text")) ∷ (tok Operator 545 546 (codes ".")) ∷ (tok Ident 546 550 (codes "Line")) ∷ (tok Operator 550 551 (codes ")")) ∷ (tok Ident 552 555 (codes "int")) ∷ (tok Operator 556 557 (codes "{")) ∷ (tok Ident 559 560 (codes "t")) ∷ (tok Operator 561 563 (codes ":=")) ∷ (tok Ident 564 569 (codes "limit")) ∷ (tok Inserted 569 569 (codes ";")) ∷ (tok Keyword 571 574 (codes "for")) ∷ (tok Ident 575 576 (codes "_")) ∷ (tok Operator 576 577 (codes ",")) ∷ (tok Ident 578 579 (codes "r")) ∷ (tok Operator 580 582 (codes ":=")) ∷ (tok Keyword 583 588 (codes "range")) ∷ (tok Ident 589 593 (codes "rows")) ∷ (tok Operator 594 595 (codes "{")) ∷ (tok Ident 598 599 (codes "t")) ∷ (tok Operator 600 602 (codes "+=")) ∷ (tok Ident 603 606 (codes "len")) ∷ (tok Operator 606 607 (codes "(")) ∷ (tok Ident 607 608 (codes "r")) ∷ (tok Operator 608 609 (codes ".")) ∷ (tok Ident 609 613 (codes "Body")) ∷ (tok Operator 613 614 (codes ")")) ∷ (tok Inserted 614 614 (codes ";")) ∷ (tok Operator 616 617 (codes "}")) ∷ (tok Inserted 617 617 (codes ";")) ∷ (tok Keyword 619 625 (codes "return")) ∷ (tok Ident 626 627 (codes "t")) ∷ (tok Inserted 627 627 (codes ";")) ∷ (tok Operator 628 629 (codes "}")) ∷ (tok Inserted 629 629 (codes ";")) ∷ []); comments = ((note 0 35) ∷ (note 89 118) ∷ (note 120 135) ∷ (note 173 202) ∷ (note 203 205) ∷ (note 206 221) ∷ (note 244 272) ∷ (note 273 275) ∷ (note 276 291) ∷ (note 363 391) ∷ (note 392 394) ∷ (note 395 410) ∷ (note 505 522) ∷ []) }) ∷ ((codes "text/text.go"), record { text = (codes "package text\n\nconst Wide = 8\n\ntype Line struct {\n\tBody string\n}\n\nfunc Pad(s string, n int, left bool) string {\n\tfor len(s) < n {\n\t\tif left {\n\t\t\ts = \" \" + s\n\t\t} else {\n\t\t\ts += \" \"\n\t\t}\n\t}\n\treturn s\n}\n\nfunc Put(l Line, width int) {\n\tprintln(Pad(l.Body, width, false))\n}\n"); tokens = ((tok Keyword 0 7 (codes "package")) ∷ (tok Ident 8 12 (codes "text")) ∷ (tok Inserted 12 12 (codes ";")) ∷ (tok Keyword 14 19 (codes "const")) ∷ (tok Ident 20 24 (codes "Wide")) ∷ (tok Operator 25 26 (codes "=")) ∷ (tok Integer 27 28 (codes "8")) ∷ (tok Inserted 28 28 (codes ";")) ∷ (tok Keyword 30 34 (codes "type")) ∷ (tok Ident 35 39 (codes "Line")) ∷ (tok Keyword 40 46 (codes "struct")) ∷ (tok Operator 47 48 (codes "{")) ∷ (tok Ident 50 54 (codes "Body")) ∷ (tok Ident 55 61 (codes "string")) ∷ (tok Inserted 61 61 (codes ";")) ∷ (tok Operator 62 63 (codes "}")) ∷ (tok Inserted 63 63 (codes ";")) ∷ (tok Keyword 65 69 (codes "func")) ∷ (tok Ident 70 73 (codes "Pad")) ∷ (tok Operator 73 74 (codes "(")) ∷ (tok Ident 74 75 (codes "s")) ∷ (tok Ident 76 82 (codes "string")) ∷ (tok Operator 82 83 (codes ",")) ∷ (tok Ident 84 85 (codes "n")) ∷ (tok Ident 86 89 (codes "int")) ∷ (tok Operator 89 90 (codes ",")) ∷ (tok Ident 91 95 (codes "left")) ∷ (tok Ident 96 100 (codes "bool")) ∷ (tok Operator 100 101 (codes ")")) ∷ (tok Ident 102 108 (codes "string")) ∷ (tok Operator 109 110 (codes "{")) ∷ (tok Keyword 112 115 (codes "for")) ∷ (tok Ident 116 119 (codes "len")) ∷ (tok Operator 119 120 (codes "(")) ∷ (tok Ident 120 121 (codes "s")) ∷ (tok Operator 121 122 (codes ")")) ∷ (tok Operator 123 124 (codes "<")) ∷ (tok Ident 125 126 (codes "n")) ∷ (tok Operator 127 128 (codes "{")) ∷ (tok Keyword 131 133 (codes "if")) ∷ (tok Ident 134 138 (codes "left")) ∷ (tok Operator 139 140 (codes "{")) ∷ (tok Ident 144 145 (codes "s")) ∷ (tok Operator 146 147 (codes "=")) ∷ (tok Str 148 151 (codes "\" \"")) ∷ (tok Operator 152 153 (codes "+")) ∷ (tok Ident 154 155 (codes "s")) ∷ (tok Inserted 155 155 (codes ";")) ∷ (tok Operator 158 159 (codes "}")) ∷ (tok Keyword 160 164 (codes "else")) ∷ (tok Operator 165 166 (codes "{")) ∷ (tok Ident 170 171 (codes "s")) ∷ (tok Operator 172 174 (codes "+=")) ∷ (tok Str 175 178 (codes "\" \"")) ∷ (tok Inserted 178 178 (codes ";")) ∷ (tok Operator 181 182 (codes "}")) ∷ (tok Inserted 182 182 (codes ";")) ∷ (tok Operator 184 185 (codes "}")) ∷ (tok Inserted 185 185 (codes ";")) ∷ (tok Keyword 187 193 (codes "return")) ∷ (tok Ident 194 195 (codes "s")) ∷ (tok Inserted 195 195 (codes ";")) ∷ (tok Operator 196 197 (codes "}")) ∷ (tok Inserted 197 197 (codes ";")) ∷ (tok Keyword 199 203 (codes "func")) ∷ (tok Ident 204 207 (codes "Put")) ∷ (tok Operator 207 208 (codes "(")) ∷ (tok Ident 208 209 (codes "l")) ∷ (tok Ident 210 214 (codes "Line")) ∷ (tok Operator 214 215 (codes ",")) ∷ (tok Ident 216 221 (codes "width")) ∷ (tok Ident 222 225 (codes "int")) ∷ (tok Operator 225 226 (codes ")")) ∷ (tok Operator 227 228 (codes "{")) ∷ (tok Ident 230 237 (codes "println")) ∷ (tok Operator 237 238 (codes "(")) ∷ (tok Ident 238 241 (codes "Pad")) ∷ (tok Operator 241 242 (codes "(")) ∷ (tok Ident 242 243 (codes "l")) ∷ (tok Operator 243 244 (codes ".")) ∷ (tok Ident 244 248 (codes "Body")) ∷ (tok Operator 248 249 (codes ",")) ∷ (tok Ident 250 255 (codes "width")) ∷ (tok Operator 255 256 (codes ",")) ∷ (tok Ident 257 262 (codes "false")) ∷ (tok Operator 262 263 (codes ")")) ∷ (tok Operator 263 264 (codes ")")) ∷ (tok Inserted 264 264 (codes ";")) ∷ (tok Operator 265 266 (codes "}")) ∷ (tok Inserted 266 266 (codes ";")) ∷ []); comments = [] }) ∷ []) }

library_2_typed : is_typed library_2 ≡ true
library_2_typed = refl

library_2_step : first_change library_2 ≡ Some ((codes "cmd/main.go"), TypeForm, (codes "package main\n\nimport (\n\t\"example.com/lib\"\n\t\"example.com/lib/text\"\n)\n\nfunc load() []text.Line {\n\treturn []lib.Row{{\"a\"}, {\"bc\"}} // two rows\n}\n\nfunc main() {\n\trows := load()\n\tfor i := 0; i < 2; i++ {\n\t\tprintln(lib.PadLeft(rows[i].Body, lib.MaxWidth))\n\t}\n\tlib.Show(rows, 4)\n\tprintln(lib.Total(rows))\n}\n"))
unfolding passes keyword_spellings
library_2_step = refl

abbrev library_3_f0 : File Span
library_3_f0 = record { package_name = (nm 8 12 (codes "main")); imports = ((imps (at 14 67) true ((imp (at 24 41) None (codes "example.com/lib")) ∷ (imp (at 43 65) None (codes "example.com/lib/text")) ∷ [])) ∷ []); decls = ((fn (at 69 141) None (nm 74 78 (codes "load")) (sig [] ((param (at 81 92) None (slice_type (at 81 92) (named (at 83 92) (Some (nm 83 87 (codes "text"))) (nm 88 92 (codes "Line"))))) ∷ [])) (at 93 141) (stmt_and (return_ (at 96 127) (expr_and (composite (at 103 127) (slice_type (at 103 112) (named (at 105 112) (Some (nm 105 108 (codes "lib"))) (nm 109 112 (codes "Row")))) (elem (at 113 118) no_value (braced (at 113 118) (elem (at 114 117) no_value (plain (str_lit (at 114 117) (codes "\"a\""))) no_elems)) (elem (at 120 126) no_value (braced (at 120 126) (elem (at 121 125) no_value (plain (str_lit (at 121 125) (codes "\"bc\""))) no_elems)) no_elems))) no_exprs)) no_stmts)) ∷ (fn (at 143 299) None (nm 148 152 (codes "main")) (sig [] []) (at 155 299) (stmt_and (define (at 158 172) ((nm 158 162 (codes "rows")) ∷ []) (expr_and (call (at 166 172) (ident (at 166 170) (codes "load")) no_exprs Plain) no_exprs)) (stmt_and (for_ (at 174 252) (some_stmt (define (at 178 184) ((nm 178 179 (codes "i")) ∷ []) (expr_and (int_lit (at 183 184) (codes "0")) no_exprs))) (some_expr (binary (at 186 191) Lt (ident (at 186 187) (codes "i")) (int_lit (at 190 191) (codes "2")))) (some_stmt (step (at 193 196) (ident (at 193 194) (codes "i")) true)) (at 197 252) (stmt_and (eval (at 201 249) (call (at 201 249) (ident (at 201 208) (codes "println")) (expr_and (call (at 209 248) (selector (at 209 220) (ident (at 209 212) (codes "lib")) (nm 213 220 (codes "PadLeft"))) (expr_and (selector (at 221 233) (index (at 221 228) (ident (at 221 225) (codes "rows")) (ident (at 226 227) (codes "i"))) (nm 229 233 (codes "Body"))) (expr_and (selector (at 235 247) (ident (at 235 238) (codes "lib")) (nm 239 247 (codes "MaxWidth"))) no_exprs)) Plain) no_exprs) Plain)) no_stmts)) (stmt_and (eval (at 254 271) (call (at 254 271) (selector (at 254 262) (ident (at 254 257) (codes "lib")) (nm 258 262 (codes "Show"))) (expr_and (ident (at 263 267) (codes "rows")) (expr_and (int_lit (at 269 270) (codes "4")) no_exprs)) Plain)) (stmt_and (eval (at 273 297) (call (at 273 297) (ident (at 273 280) (codes "println")) (expr_and (call (at 281 296) (selector (at 281 290) (ident (at 281 284) (codes "lib")) (nm 285 290 (codes "Total"))) (expr_and (ident (at 291 295) (codes "rows")) no_exprs) Plain) no_exprs) Plain)) no_stmts))))) ∷ []) }

abbrev library_3_f1 : File Span
library_3_f1 = record { package_name = (nm 44 47 (codes "lib")); imports = ((imps (at 49 78) false ((imp (at 56 78) None (codes "example.com/lib/text")) ∷ [])) ∷ []); decls = ((values (const_decl (at 80 171) true (spec (at 137 157) ((nm 137 145 (codes "MaxWidth")) ∷ []) None (expr_and (selector (at 148 157) (ident (at 148 152) (codes "text")) (nm 153 157 (codes "Wide"))) no_exprs) (spec (at 160 169) ((nm 160 165 (codes "limit")) ∷ []) None (expr_and (int_lit (at 168 169) (codes "3")) no_exprs) no_specs)))) ∷ (types (at 222 242) false ((tspec (at 227 242) (nm 227 230 (codes "Row")) true (named (at 233 242) (Some (nm 233 237 (codes "text"))) (nm 238 242 (codes "Line")))) ∷ [])) ∷ (fn (at 292 361) None (nm 297 304 (codes "PadLeft")) (sig ((param (at 305 313) (Some (nm 305 306 (codes "s"))) (named (at 307 313) None (nm 307 313 (codes "string")))) ∷ (param (at 315 320) (Some (nm 315 316 (codes "n"))) (named (at 317 320) None (nm 317 320 (codes "int")))) ∷ []) ((param (at 322 328) None (named (at 322 328) None (nm 322 328 (codes "string")))) ∷ [])) (at 329 361) (stmt_and (return_ (at 332 359) (expr_and (call (at 339 359) (selector (at 339 347) (ident (at 339 343) (codes "text")) (nm 344 347 (codes "Pad"))) (expr_and (ident (at 348 349) (codes "s")) (expr_and (ident (at 351 352) (codes "n")) (expr_and (ident (at 354 358) (codes "true")) no_exprs))) Plain) no_exprs)) no_stmts)) ∷ (fn (at 411 503) None (nm 416 420 (codes "Show")) (sig ((param (at 421 437) (Some (nm 421 425 (codes "rows"))) (slice_type (at 426 437) (named (at 428 437) (Some (nm 428 432 (codes "text"))) (nm 433 437 (codes "Line"))))) ∷ (param (at 439 448) (Some (nm 439 444 (codes "width"))) (named (at 445 448) None (nm 445 448 (codes "int")))) ∷ []) []) (at 450 503) (stmt_and (range_ (at 453 501) (defines ((nm 457 458 (codes "_")) ∷ (nm 460 461 (codes "r")) ∷ [])) (ident (at 471 475) (codes "rows")) (at 476 501) (stmt_and (eval (at 480 498) (call (at 480 498) (selector (at 480 488) (ident (at 480 484) (codes "text")) (nm 485 488 (codes "Put"))) (expr_and (ident (at 489 490) (codes "r")) (expr_and (ident (at 492 497) (codes "width")) no_exprs)) Plain)) no_stmts)) no_stmts)) ∷ (fn (at 523 629) None (nm 528 533 (codes "Total")) (sig ((param (at 534 550) (Some (nm 534 538 (codes "rows"))) (slice_type (at 539 550) (named (at 541 550) (Some (nm 541 545 (codes "text"))) (nm 546 550 (codes "Line"))))) ∷ []) ((param (at 552 555) None (named (at 552 555) None (nm 552 555 (codes "int")))) ∷ [])) (at 556 629) (stmt_and (define (at 559 569) ((nm 559 560 (codes "t")) ∷ []) (expr_and (ident (at 564 569) (codes "limit")) no_exprs)) (stmt_and (range_ (at 571 617) (defines ((nm 575 576 (codes "_")) ∷ (nm 578 579 (codes "r")) ∷ [])) (ident (at 589 593) (codes "rows")) (at 594 617) (stmt_and (assign (at 598 614) (expr_and (ident (at 598 599) (codes "t")) no_exprs) (Some Add) (expr_and (call (at 603 614) (ident (at 603 606) (codes "len")) (expr_and (selector (at 607 613) (ident (at 607 608) (codes "r")) (nm 609 613 (codes "Body"))) no_exprs) Plain) no_exprs)) no_stmts)) (stmt_and (return_ (at 619 627) (expr_and (ident (at 626 627) (codes "t")) no_exprs)) no_stmts)))) ∷ []) }

abbrev library_3_f2 : File Span
library_3_f2 = record { package_name = (nm 8 12 (codes "text")); imports = []; decls = ((values (const_decl (at 14 28) false (spec (at 20 28) ((nm 20 24 (codes "Wide")) ∷ []) None (expr_and (int_lit (at 27 28) (codes "8")) no_exprs) no_specs))) ∷ (types (at 30 63) false ((tspec (at 35 63) (nm 35 39 (codes "Line")) false (struct_type (at 40 63) (field (at 50 61) (nm 50 54 (codes "Body")) (named (at 55 61) None (nm 55 61 (codes "string"))) no_fields))) ∷ [])) ∷ (fn (at 65 197) None (nm 70 73 (codes "Pad")) (sig ((param (at 74 82) (Some (nm 74 75 (codes "s"))) (named (at 76 82) None (nm 76 82 (codes "string")))) ∷ (param (at 84 89) (Some (nm 84 85 (codes "n"))) (named (at 86 89) None (nm 86 89 (codes "int")))) ∷ (param (at 91 100) (Some (nm 91 95 (codes "left"))) (named (at 96 100) None (nm 96 100 (codes "bool")))) ∷ []) ((param (at 102 108) None (named (at 102 108) None (nm 102 108 (codes "string")))) ∷ [])) (at 109 197) (stmt_and (for_ (at 112 185) no_stmt (some_expr (binary (at 116 126) Lt (call (at 116 122) (ident (at 116 119) (codes "len")) (expr_and (ident (at 120 121) (codes "s")) no_exprs) Plain) (ident (at 125 126) (codes "n")))) no_stmt (at 127 185) (stmt_and (if_ (at 131 182) (arm (at 131 159) no_stmt (ident (at 134 138) (codes "left")) (at 139 159) (stmt_and (assign (at 144 155) (expr_and (ident (at 144 145) (codes "s")) no_exprs) None (expr_and (binary (at 148 155) Add (str_lit (at 148 151) (codes "\" \"")) (ident (at 154 155) (codes "s"))) no_exprs)) no_stmts) no_arms) (some_block (at 165 182) (stmt_and (assign (at 170 178) (expr_and (ident (at 170 171) (codes "s")) no_exprs) (Some Add) (expr_and (str_lit (at 175 178) (codes "\" \"")) no_exprs)) no_stmts))) no_stmts)) (stmt_and (return_ (at 187 195) (expr_and (ident (at 194 195) (codes "s")) no_exprs)) no_stmts))) ∷ (fn (at 199 266) None (nm 204 207 (codes "Put")) (sig ((param (at 208 214) (Some (nm 208 209 (codes "l"))) (named (at 210 214) None (nm 210 214 (codes "Line")))) ∷ (param (at 216 225) (Some (nm 216 221 (codes "width"))) (named (at 222 225) None (nm 222 225 (codes "int")))) ∷ []) []) (at 227 266) (stmt_and (eval (at 230 264) (call (at 230 264) (ident (at 230 237) (codes "println")) (expr_and (call (at 238 263) (ident (at 238 241) (codes "Pad")) (expr_and (selector (at 242 248) (ident (at 242 243) (codes "l")) (nm 244 248 (codes "Body"))) (expr_and (ident (at 250 255) (codes "width")) (expr_and (ident (at 257 262) (codes "false")) no_exprs))) Plain) no_exprs) Plain)) no_stmts)) ∷ []) }

library_3_f0_read : read_at span_to read_front (lexemes ((tok Keyword 0 7 (codes "package")) ∷ (tok Ident 8 12 (codes "main")) ∷ (tok Inserted 12 12 (codes ";")) ∷ (tok Keyword 14 20 (codes "import")) ∷ (tok Operator 21 22 (codes "(")) ∷ (tok Str 24 41 (codes "\"example.com/lib\"")) ∷ (tok Inserted 41 41 (codes ";")) ∷ (tok Str 43 65 (codes "\"example.com/lib/text\"")) ∷ (tok Inserted 65 65 (codes ";")) ∷ (tok Operator 66 67 (codes ")")) ∷ (tok Inserted 67 67 (codes ";")) ∷ (tok Keyword 69 73 (codes "func")) ∷ (tok Ident 74 78 (codes "load")) ∷ (tok Operator 78 79 (codes "(")) ∷ (tok Operator 79 80 (codes ")")) ∷ (tok Operator 81 82 (codes "[")) ∷ (tok Operator 82 83 (codes "]")) ∷ (tok Ident 83 87 (codes "text")) ∷ (tok Operator 87 88 (codes ".")) ∷ (tok Ident 88 92 (codes "Line")) ∷ (tok Operator 93 94 (codes "{")) ∷ (tok Keyword 96 102 (codes "return")) ∷ (tok Operator 103 104 (codes "[")) ∷ (tok Operator 104 105 (codes "]")) ∷ (tok Ident 105 108 (codes "lib")) ∷ (tok Operator 108 109 (codes ".")) ∷ (tok Ident 109 112 (codes "Row")) ∷ (tok Operator 112 113 (codes "{")) ∷ (tok Operator 113 114 (codes "{")) ∷ (tok Str 114 117 (codes "\"a\"")) ∷ (tok Operator 117 118 (codes "}")) ∷ (tok Operator 118 119 (codes ",")) ∷ (tok Operator 120 121 (codes "{")) ∷ (tok Str 121 125 (codes "\"bc\"")) ∷ (tok Operator 125 126 (codes "}")) ∷ (tok Operator 126 127 (codes "}")) ∷ (tok Inserted 127 127 (codes ";")) ∷ (tok Operator 140 141 (codes "}")) ∷ (tok Inserted 141 141 (codes ";")) ∷ (tok Keyword 143 147 (codes "func")) ∷ (tok Ident 148 152 (codes "main")) ∷ (tok Operator 152 153 (codes "(")) ∷ (tok Operator 153 154 (codes ")")) ∷ (tok Operator 155 156 (codes "{")) ∷ (tok Ident 158 162 (codes "rows")) ∷ (tok Operator 163 165 (codes ":=")) ∷ (tok Ident 166 170 (codes "load")) ∷ (tok Operator 170 171 (codes "(")) ∷ (tok Operator 171 172 (codes ")")) ∷ (tok Inserted 172 172 (codes ";")) ∷ (tok Keyword 174 177 (codes "for")) ∷ (tok Ident 178 179 (codes "i")) ∷ (tok Operator 180 182 (codes ":=")) ∷ (tok Integer 183 184 (codes "0")) ∷ (tok Operator 184 185 (codes ";")) ∷ (tok Ident 186 187 (codes "i")) ∷ (tok Operator 188 189 (codes "<")) ∷ (tok Integer 190 191 (codes "2")) ∷ (tok Operator 191 192 (codes ";")) ∷ (tok Ident 193 194 (codes "i")) ∷ (tok Operator 194 196 (codes "++")) ∷ (tok Operator 197 198 (codes "{")) ∷ (tok Ident 201 208 (codes "println")) ∷ (tok Operator 208 209 (codes "(")) ∷ (tok Ident 209 212 (codes "lib")) ∷ (tok Operator 212 213 (codes ".")) ∷ (tok Ident 213 220 (codes "PadLeft")) ∷ (tok Operator 220 221 (codes "(")) ∷ (tok Ident 221 225 (codes "rows")) ∷ (tok Operator 225 226 (codes "[")) ∷ (tok Ident 226 227 (codes "i")) ∷ (tok Operator 227 228 (codes "]")) ∷ (tok Operator 228 229 (codes ".")) ∷ (tok Ident 229 233 (codes "Body")) ∷ (tok Operator 233 234 (codes ",")) ∷ (tok Ident 235 238 (codes "lib")) ∷ (tok Operator 238 239 (codes ".")) ∷ (tok Ident 239 247 (codes "MaxWidth")) ∷ (tok Operator 247 248 (codes ")")) ∷ (tok Operator 248 249 (codes ")")) ∷ (tok Inserted 249 249 (codes ";")) ∷ (tok Operator 251 252 (codes "}")) ∷ (tok Inserted 252 252 (codes ";")) ∷ (tok Ident 254 257 (codes "lib")) ∷ (tok Operator 257 258 (codes ".")) ∷ (tok Ident 258 262 (codes "Show")) ∷ (tok Operator 262 263 (codes "(")) ∷ (tok Ident 263 267 (codes "rows")) ∷ (tok Operator 267 268 (codes ",")) ∷ (tok Integer 269 270 (codes "4")) ∷ (tok Operator 270 271 (codes ")")) ∷ (tok Inserted 271 271 (codes ";")) ∷ (tok Ident 273 280 (codes "println")) ∷ (tok Operator 280 281 (codes "(")) ∷ (tok Ident 281 284 (codes "lib")) ∷ (tok Operator 284 285 (codes ".")) ∷ (tok Ident 285 290 (codes "Total")) ∷ (tok Operator 290 291 (codes "(")) ∷ (tok Ident 291 295 (codes "rows")) ∷ (tok Operator 295 296 (codes ")")) ∷ (tok Operator 296 297 (codes ")")) ∷ (tok Inserted 297 297 (codes ";")) ∷ (tok Operator 298 299 (codes "}")) ∷ (tok Inserted 299 299 (codes ";")) ∷ [])) ≡ Some (library_3_f0, [])
unfolding reading
library_3_f0_read = refl

abbrev library_3 : Module
library_3 = record { packages = (pack (codes "example.com/lib/cmd") (codes "main") (source (codes "cmd/main.go") library_3_f0 ∷ []) ∷ pack (codes "example.com/lib") (codes "lib") (source (codes "lib.go") library_3_f1 ∷ []) ∷ pack (codes "example.com/lib/text") (codes "text") (source (codes "text/text.go") library_3_f2 ∷ []) ∷ []); marks = (mark 1 0 0 0 ∷ mark 1 0 1 0 ∷ mark 1 0 2 0 ∷ mark 1 0 3 0 ∷ []); texts = (((codes "cmd/main.go"), record { text = (codes "package main\n\nimport (\n\t\"example.com/lib\"\n\t\"example.com/lib/text\"\n)\n\nfunc load() []text.Line {\n\treturn []lib.Row{{\"a\"}, {\"bc\"}} // two rows\n}\n\nfunc main() {\n\trows := load()\n\tfor i := 0; i < 2; i++ {\n\t\tprintln(lib.PadLeft(rows[i].Body, lib.MaxWidth))\n\t}\n\tlib.Show(rows, 4)\n\tprintln(lib.Total(rows))\n}\n"); tokens = ((tok Keyword 0 7 (codes "package")) ∷ (tok Ident 8 12 (codes "main")) ∷ (tok Inserted 12 12 (codes ";")) ∷ (tok Keyword 14 20 (codes "import")) ∷ (tok Operator 21 22 (codes "(")) ∷ (tok Str 24 41 (codes "\"example.com/lib\"")) ∷ (tok Inserted 41 41 (codes ";")) ∷ (tok Str 43 65 (codes "\"example.com/lib/text\"")) ∷ (tok Inserted 65 65 (codes ";")) ∷ (tok Operator 66 67 (codes ")")) ∷ (tok Inserted 67 67 (codes ";")) ∷ (tok Keyword 69 73 (codes "func")) ∷ (tok Ident 74 78 (codes "load")) ∷ (tok Operator 78 79 (codes "(")) ∷ (tok Operator 79 80 (codes ")")) ∷ (tok Operator 81 82 (codes "[")) ∷ (tok Operator 82 83 (codes "]")) ∷ (tok Ident 83 87 (codes "text")) ∷ (tok Operator 87 88 (codes ".")) ∷ (tok Ident 88 92 (codes "Line")) ∷ (tok Operator 93 94 (codes "{")) ∷ (tok Keyword 96 102 (codes "return")) ∷ (tok Operator 103 104 (codes "[")) ∷ (tok Operator 104 105 (codes "]")) ∷ (tok Ident 105 108 (codes "lib")) ∷ (tok Operator 108 109 (codes ".")) ∷ (tok Ident 109 112 (codes "Row")) ∷ (tok Operator 112 113 (codes "{")) ∷ (tok Operator 113 114 (codes "{")) ∷ (tok Str 114 117 (codes "\"a\"")) ∷ (tok Operator 117 118 (codes "}")) ∷ (tok Operator 118 119 (codes ",")) ∷ (tok Operator 120 121 (codes "{")) ∷ (tok Str 121 125 (codes "\"bc\"")) ∷ (tok Operator 125 126 (codes "}")) ∷ (tok Operator 126 127 (codes "}")) ∷ (tok Inserted 127 127 (codes ";")) ∷ (tok Operator 140 141 (codes "}")) ∷ (tok Inserted 141 141 (codes ";")) ∷ (tok Keyword 143 147 (codes "func")) ∷ (tok Ident 148 152 (codes "main")) ∷ (tok Operator 152 153 (codes "(")) ∷ (tok Operator 153 154 (codes ")")) ∷ (tok Operator 155 156 (codes "{")) ∷ (tok Ident 158 162 (codes "rows")) ∷ (tok Operator 163 165 (codes ":=")) ∷ (tok Ident 166 170 (codes "load")) ∷ (tok Operator 170 171 (codes "(")) ∷ (tok Operator 171 172 (codes ")")) ∷ (tok Inserted 172 172 (codes ";")) ∷ (tok Keyword 174 177 (codes "for")) ∷ (tok Ident 178 179 (codes "i")) ∷ (tok Operator 180 182 (codes ":=")) ∷ (tok Integer 183 184 (codes "0")) ∷ (tok Operator 184 185 (codes ";")) ∷ (tok Ident 186 187 (codes "i")) ∷ (tok Operator 188 189 (codes "<")) ∷ (tok Integer 190 191 (codes "2")) ∷ (tok Operator 191 192 (codes ";")) ∷ (tok Ident 193 194 (codes "i")) ∷ (tok Operator 194 196 (codes "++")) ∷ (tok Operator 197 198 (codes "{")) ∷ (tok Ident 201 208 (codes "println")) ∷ (tok Operator 208 209 (codes "(")) ∷ (tok Ident 209 212 (codes "lib")) ∷ (tok Operator 212 213 (codes ".")) ∷ (tok Ident 213 220 (codes "PadLeft")) ∷ (tok Operator 220 221 (codes "(")) ∷ (tok Ident 221 225 (codes "rows")) ∷ (tok Operator 225 226 (codes "[")) ∷ (tok Ident 226 227 (codes "i")) ∷ (tok Operator 227 228 (codes "]")) ∷ (tok Operator 228 229 (codes ".")) ∷ (tok Ident 229 233 (codes "Body")) ∷ (tok Operator 233 234 (codes ",")) ∷ (tok Ident 235 238 (codes "lib")) ∷ (tok Operator 238 239 (codes ".")) ∷ (tok Ident 239 247 (codes "MaxWidth")) ∷ (tok Operator 247 248 (codes ")")) ∷ (tok Operator 248 249 (codes ")")) ∷ (tok Inserted 249 249 (codes ";")) ∷ (tok Operator 251 252 (codes "}")) ∷ (tok Inserted 252 252 (codes ";")) ∷ (tok Ident 254 257 (codes "lib")) ∷ (tok Operator 257 258 (codes ".")) ∷ (tok Ident 258 262 (codes "Show")) ∷ (tok Operator 262 263 (codes "(")) ∷ (tok Ident 263 267 (codes "rows")) ∷ (tok Operator 267 268 (codes ",")) ∷ (tok Integer 269 270 (codes "4")) ∷ (tok Operator 270 271 (codes ")")) ∷ (tok Inserted 271 271 (codes ";")) ∷ (tok Ident 273 280 (codes "println")) ∷ (tok Operator 280 281 (codes "(")) ∷ (tok Ident 281 284 (codes "lib")) ∷ (tok Operator 284 285 (codes ".")) ∷ (tok Ident 285 290 (codes "Total")) ∷ (tok Operator 290 291 (codes "(")) ∷ (tok Ident 291 295 (codes "rows")) ∷ (tok Operator 295 296 (codes ")")) ∷ (tok Operator 296 297 (codes ")")) ∷ (tok Inserted 297 297 (codes ";")) ∷ (tok Operator 298 299 (codes "}")) ∷ (tok Inserted 299 299 (codes ";")) ∷ []); comments = ((note 128 139) ∷ []) }) ∷ ((codes "lib.go"), record { text = (codes "// Package lib keeps the old names.\npackage lib\n\nimport \"example.com/lib/text\"\n\nconst (\n\t// Deprecated: use text.Wide.\n\t//go:fix inline\n\tMaxWidth = text.Wide\n\n\tlimit = 3\n)\n\n// Deprecated: use text.Line.\n//\n//go:fix inline\ntype Row = text.Line\n\n// Deprecated: use text.Pad.\n//\n//go:fix inline\nfunc PadLeft(s string, n int) string {\n\treturn text.Pad(s, n, true)\n}\n\n// Deprecated: use text.Put.\n//\n//go:fix inline\nfunc Show(rows []text.Line, width int) {\n\tfor _, r := range rows {\n\t\ttext.Put(r, width)\n\t}\n}\n\n// Total is kept.\nfunc Total(rows []text.Line) int {\n\tt := limit\n\tfor _, r := range rows {\n\t\tt += len(r.Body)\n\t}\n\treturn t\n}\n"); tokens = ((tok Keyword 36 43 (codes "package")) ∷ (tok Ident 44 47 (codes "lib")) ∷ (tok Inserted 47 47 (codes ";")) ∷ (tok Keyword 49 55 (codes "import")) ∷ (tok Str 56 78 (codes "\"example.com/lib/text\"")) ∷ (tok Inserted 78 78 (codes ";")) ∷ (tok Keyword 80 85 (codes "const")) ∷ (tok Operator 86 87 (codes "(")) ∷ (tok Ident 137 145 (codes "MaxWidth")) ∷ (tok Operator 146 147 (codes "=")) ∷ (tok Ident 148 152 (codes "text")) ∷ (tok Operator 152 153 (codes ".")) ∷ (tok Ident 153 157 (codes "Wide")) ∷ (tok Inserted 157 157 (codes ";")) ∷ (tok Ident 160 165 (codes "limit")) ∷ (tok Operator 166 167 (codes "=")) ∷ (tok Integer 168 169 (codes "3")) ∷ (tok Inserted 169 169 (codes ";")) ∷ (tok Operator 170 171 (codes ")")) ∷ (tok Inserted 171 171 (codes ";")) ∷ (tok Keyword 222 226 (codes "type")) ∷ (tok Ident 227 230 (codes "Row")) ∷ (tok Operator 231 232 (codes "=")) ∷ (tok Ident 233 237 (codes "text")) ∷ (tok Operator 237 238 (codes ".")) ∷ (tok Ident 238 242 (codes "Line")) ∷ (tok Inserted 242 242 (codes ";")) ∷ (tok Keyword 292 296 (codes "func")) ∷ (tok Ident 297 304 (codes "PadLeft")) ∷ (tok Operator 304 305 (codes "(")) ∷ (tok Ident 305 306 (codes "s")) ∷ (tok Ident 307 313 (codes "string")) ∷ (tok Operator 313 314 (codes ",")) ∷ (tok Ident 315 316 (codes "n")) ∷ (tok Ident 317 320 (codes "int")) ∷ (tok Operator 320 321 (codes ")")) ∷ (tok Ident 322 328 (codes "string")) ∷ (tok Operator 329 330 (codes "{")) ∷ (tok Keyword 332 338 (codes "return")) ∷ (tok Ident 339 343 (codes "text")) ∷ (tok Operator 343 344 (codes ".")) ∷ (tok Ident 344 347 (codes "Pad")) ∷ (tok Operator 347 348 (codes "(")) ∷ (tok Ident 348 349 (codes "s")) ∷ (tok Operator 349 350 (codes ",")) ∷ (tok Ident 351 352 (codes "n")) ∷ (tok Operator 352 353 (codes ",")) ∷ (tok Ident 354 358 (codes "true")) ∷ (tok Operator 358 359 (codes ")")) ∷ (tok Inserted 359 359 (codes ";")) ∷ (tok Operator 360 361 (codes "}")) ∷ (tok Inserted 361 361 (codes ";")) ∷ (tok Keyword 411 415 (codes "func")) ∷ (tok Ident 416 420 (codes "Show")) ∷ (tok Operator 420 421 (codes "(")) ∷ (tok Ident 421 425 (codes "rows")) ∷ (tok Operator 426 427 (codes "[")) ∷ (tok Operator 427 428 (codes "]")) ∷ (tok Ident 428 432 (codes "text")) ∷ (tok Operator 432 433 (codes ".")) ∷ (tok Ident 433 437 (codes "Line")) ∷ (tok Operator 437 438 (codes ",")) ∷ (tok Ident 439 444 (codes "width")) ∷ (tok Ident 445 448 (codes "int")) ∷ (tok Operator 448 449 (codes ")")) ∷ (tok Operator 450 451 (codes "{")) ∷ (tok Keyword 453 456 (codes "for")) ∷ (tok Ident 457 458 (codes "_")) ∷ (tok Operator 458 459 (codes ",")) ∷ (tok Ident 460 461 (codes "r")) ∷ (tok Operator 462 464 (codes ":=")) ∷ (tok Keyword 465 470 (codes "range")) ∷ (tok Ident 471 475 (codes "rows")) ∷ (tok Operator 476 477 (codes "{")) ∷ (tok Ident 480 484 (codes "text")) ∷ (tok Operator 484 485 (codes ".")) ∷ (tok Ident 485 488 (codes "Put")) ∷ (tok Operator 488 489 (codes "(")) ∷ (tok Ident 489 490 (codes "r")) ∷ (tok Operator 490 491 (codes ",")) ∷ (tok Ident 492 497 (codes "width")) ∷ (tok Operator 497 498 (codes ")")) ∷ (tok Inserted 498 498 (codes ";")) ∷ (tok Operator 500 501 (codes "}")) ∷ (tok Inserted 501 501 (codes ";")) ∷ (tok Operator 502 503 (codes "}")) ∷ (tok Inserted 503 503 (codes ";")) ∷ (tok Keyword 523 527 (codes "func")) ∷ (tok Ident 528 533 (codes "Total")) ∷ (tok Operator 533 534 (codes "(")) ∷ (tok Ident 534 538 (codes "rows")) ∷ (tok Operator 539 540 (codes "[")) ∷ (tok Operator 540 541 (codes "]")) ∷ (tok Ident 541 545 (codes "text")) ∷ (tok Operator 545 546 (codes ".")) ∷ (tok Ident 546 550 (codes "Line")) ∷ (tok Operator 550 551 (codes ")")) ∷ (tok Ident 552 555 (codes "int")) ∷ (tok Operator 556 557 (codes "{")) ∷ (tok Ident 559 560 (codes "t")) ∷ (tok Operator 561 563 (codes ":=")) ∷ (tok Ident 564 569 (codes "limit")) ∷ (tok Inserted 569 569 (codes ";")) ∷ (tok Keyword 571 574 (codes "for")) ∷ (tok Ident 575 576 (codes "_")) ∷ (tok Operator 576 577 (codes ",")) ∷ (tok Ident 578 579 (codes "r")) ∷ (tok Operator 580 582 (codes ":=")) ∷ (tok Keyword 583 588 (codes "range")) ∷ (tok Ident 589 593 (codes "rows")) ∷ (tok Operator 594 595 (codes "{")) ∷ (tok Ident 598 599 (codes "t")) ∷ (tok Operator 600 602 (codes "+=")) ∷ (tok Ident 603 606 (codes "len")) ∷ (tok Operator 606 607 (codes "(")) ∷ (tok Ident 607 608 (codes "r")) ∷ (tok Operator 608 609 (codes ".")) ∷ (tok Ident 609 613 (codes "Body")) ∷ (tok Operator 613 614 (codes ")")) ∷ (tok Inserted 614 614 (codes ";")) ∷ (tok Operator 616 617 (codes "}")) ∷ (tok Inserted 617 617 (codes ";")) ∷ (tok Keyword 619 625 (codes "return")) ∷ (tok Ident 626 627 (codes "t")) ∷ (tok Inserted 627 627 (codes ";")) ∷ (tok Operator 628 629 (codes "}")) ∷ (tok Inserted 629 629 (codes ";")) ∷ []); comments = ((note 0 35) ∷ (note 89 118) ∷ (note 120 135) ∷ (note 173 202) ∷ (note 203 205) ∷ (note 206 221) ∷ (note 244 272) ∷ (note 273 275) ∷ (note 276 291) ∷ (note 363 391) ∷ (note 392 394) ∷ (note 395 410) ∷ (note 505 522) ∷ []) }) ∷ ((codes "text/text.go"), record { text = (codes "package text\n\nconst Wide = 8\n\ntype Line struct {\n\tBody string\n}\n\nfunc Pad(s string, n int, left bool) string {\n\tfor len(s) < n {\n\t\tif left {\n\t\t\ts = \" \" + s\n\t\t} else {\n\t\t\ts += \" \"\n\t\t}\n\t}\n\treturn s\n}\n\nfunc Put(l Line, width int) {\n\tprintln(Pad(l.Body, width, false))\n}\n"); tokens = ((tok Keyword 0 7 (codes "package")) ∷ (tok Ident 8 12 (codes "text")) ∷ (tok Inserted 12 12 (codes ";")) ∷ (tok Keyword 14 19 (codes "const")) ∷ (tok Ident 20 24 (codes "Wide")) ∷ (tok Operator 25 26 (codes "=")) ∷ (tok Integer 27 28 (codes "8")) ∷ (tok Inserted 28 28 (codes ";")) ∷ (tok Keyword 30 34 (codes "type")) ∷ (tok Ident 35 39 (codes "Line")) ∷ (tok Keyword 40 46 (codes "struct")) ∷ (tok Operator 47 48 (codes "{")) ∷ (tok Ident 50 54 (codes "Body")) ∷ (tok Ident 55 61 (codes "string")) ∷ (tok Inserted 61 61 (codes ";")) ∷ (tok Operator 62 63 (codes "}")) ∷ (tok Inserted 63 63 (codes ";")) ∷ (tok Keyword 65 69 (codes "func")) ∷ (tok Ident 70 73 (codes "Pad")) ∷ (tok Operator 73 74 (codes "(")) ∷ (tok Ident 74 75 (codes "s")) ∷ (tok Ident 76 82 (codes "string")) ∷ (tok Operator 82 83 (codes ",")) ∷ (tok Ident 84 85 (codes "n")) ∷ (tok Ident 86 89 (codes "int")) ∷ (tok Operator 89 90 (codes ",")) ∷ (tok Ident 91 95 (codes "left")) ∷ (tok Ident 96 100 (codes "bool")) ∷ (tok Operator 100 101 (codes ")")) ∷ (tok Ident 102 108 (codes "string")) ∷ (tok Operator 109 110 (codes "{")) ∷ (tok Keyword 112 115 (codes "for")) ∷ (tok Ident 116 119 (codes "len")) ∷ (tok Operator 119 120 (codes "(")) ∷ (tok Ident 120 121 (codes "s")) ∷ (tok Operator 121 122 (codes ")")) ∷ (tok Operator 123 124 (codes "<")) ∷ (tok Ident 125 126 (codes "n")) ∷ (tok Operator 127 128 (codes "{")) ∷ (tok Keyword 131 133 (codes "if")) ∷ (tok Ident 134 138 (codes "left")) ∷ (tok Operator 139 140 (codes "{")) ∷ (tok Ident 144 145 (codes "s")) ∷ (tok Operator 146 147 (codes "=")) ∷ (tok Str 148 151 (codes "\" \"")) ∷ (tok Operator 152 153 (codes "+")) ∷ (tok Ident 154 155 (codes "s")) ∷ (tok Inserted 155 155 (codes ";")) ∷ (tok Operator 158 159 (codes "}")) ∷ (tok Keyword 160 164 (codes "else")) ∷ (tok Operator 165 166 (codes "{")) ∷ (tok Ident 170 171 (codes "s")) ∷ (tok Operator 172 174 (codes "+=")) ∷ (tok Str 175 178 (codes "\" \"")) ∷ (tok Inserted 178 178 (codes ";")) ∷ (tok Operator 181 182 (codes "}")) ∷ (tok Inserted 182 182 (codes ";")) ∷ (tok Operator 184 185 (codes "}")) ∷ (tok Inserted 185 185 (codes ";")) ∷ (tok Keyword 187 193 (codes "return")) ∷ (tok Ident 194 195 (codes "s")) ∷ (tok Inserted 195 195 (codes ";")) ∷ (tok Operator 196 197 (codes "}")) ∷ (tok Inserted 197 197 (codes ";")) ∷ (tok Keyword 199 203 (codes "func")) ∷ (tok Ident 204 207 (codes "Put")) ∷ (tok Operator 207 208 (codes "(")) ∷ (tok Ident 208 209 (codes "l")) ∷ (tok Ident 210 214 (codes "Line")) ∷ (tok Operator 214 215 (codes ",")) ∷ (tok Ident 216 221 (codes "width")) ∷ (tok Ident 222 225 (codes "int")) ∷ (tok Operator 225 226 (codes ")")) ∷ (tok Operator 227 228 (codes "{")) ∷ (tok Ident 230 237 (codes "println")) ∷ (tok Operator 237 238 (codes "(")) ∷ (tok Ident 238 241 (codes "Pad")) ∷ (tok Operator 241 242 (codes "(")) ∷ (tok Ident 242 243 (codes "l")) ∷ (tok Operator 243 244 (codes ".")) ∷ (tok Ident 244 248 (codes "Body")) ∷ (tok Operator 248 249 (codes ",")) ∷ (tok Ident 250 255 (codes "width")) ∷ (tok Operator 255 256 (codes ",")) ∷ (tok Ident 257 262 (codes "false")) ∷ (tok Operator 262 263 (codes ")")) ∷ (tok Operator 263 264 (codes ")")) ∷ (tok Inserted 264 264 (codes ";")) ∷ (tok Operator 265 266 (codes "}")) ∷ (tok Inserted 266 266 (codes ";")) ∷ []); comments = [] }) ∷ []) }

library_3_typed : is_typed library_3 ≡ true
library_3_typed = refl

library_3_step : first_change library_3 ≡ Some ((codes "cmd/main.go"), TypeForm, (codes "package main\n\nimport (\n\t\"example.com/lib\"\n\t\"example.com/lib/text\"\n)\n\nfunc load() []text.Line {\n\treturn []text.Line{{\"a\"}, {\"bc\"}} // two rows\n}\n\nfunc main() {\n\trows := load()\n\tfor i := 0; i < 2; i++ {\n\t\tprintln(lib.PadLeft(rows[i].Body, lib.MaxWidth))\n\t}\n\tlib.Show(rows, 4)\n\tprintln(lib.Total(rows))\n}\n"))
unfolding passes keyword_spellings
library_3_step = refl

abbrev library_4_f0 : File Span
library_4_f0 = record { package_name = (nm 8 12 (codes "main")); imports = ((imps (at 14 67) true ((imp (at 24 41) None (codes "example.com/lib")) ∷ (imp (at 43 65) None (codes "example.com/lib/text")) ∷ [])) ∷ []); decls = ((fn (at 69 143) None (nm 74 78 (codes "load")) (sig [] ((param (at 81 92) None (slice_type (at 81 92) (named (at 83 92) (Some (nm 83 87 (codes "text"))) (nm 88 92 (codes "Line"))))) ∷ [])) (at 93 143) (stmt_and (return_ (at 96 129) (expr_and (composite (at 103 129) (slice_type (at 103 114) (named (at 105 114) (Some (nm 105 109 (codes "text"))) (nm 110 114 (codes "Line")))) (elem (at 115 120) no_value (braced (at 115 120) (elem (at 116 119) no_value (plain (str_lit (at 116 119) (codes "\"a\""))) no_elems)) (elem (at 122 128) no_value (braced (at 122 128) (elem (at 123 127) no_value (plain (str_lit (at 123 127) (codes "\"bc\""))) no_elems)) no_elems))) no_exprs)) no_stmts)) ∷ (fn (at 145 301) None (nm 150 154 (codes "main")) (sig [] []) (at 157 301) (stmt_and (define (at 160 174) ((nm 160 164 (codes "rows")) ∷ []) (expr_and (call (at 168 174) (ident (at 168 172) (codes "load")) no_exprs Plain) no_exprs)) (stmt_and (for_ (at 176 254) (some_stmt (define (at 180 186) ((nm 180 181 (codes "i")) ∷ []) (expr_and (int_lit (at 185 186) (codes "0")) no_exprs))) (some_expr (binary (at 188 193) Lt (ident (at 188 189) (codes "i")) (int_lit (at 192 193) (codes "2")))) (some_stmt (step (at 195 198) (ident (at 195 196) (codes "i")) true)) (at 199 254) (stmt_and (eval (at 203 251) (call (at 203 251) (ident (at 203 210) (codes "println")) (expr_and (call (at 211 250) (selector (at 211 222) (ident (at 211 214) (codes "lib")) (nm 215 222 (codes "PadLeft"))) (expr_and (selector (at 223 235) (index (at 223 230) (ident (at 223 227) (codes "rows")) (ident (at 228 229) (codes "i"))) (nm 231 235 (codes "Body"))) (expr_and (selector (at 237 249) (ident (at 237 240) (codes "lib")) (nm 241 249 (codes "MaxWidth"))) no_exprs)) Plain) no_exprs) Plain)) no_stmts)) (stmt_and (eval (at 256 273) (call (at 256 273) (selector (at 256 264) (ident (at 256 259) (codes "lib")) (nm 260 264 (codes "Show"))) (expr_and (ident (at 265 269) (codes "rows")) (expr_and (int_lit (at 271 272) (codes "4")) no_exprs)) Plain)) (stmt_and (eval (at 275 299) (call (at 275 299) (ident (at 275 282) (codes "println")) (expr_and (call (at 283 298) (selector (at 283 292) (ident (at 283 286) (codes "lib")) (nm 287 292 (codes "Total"))) (expr_and (ident (at 293 297) (codes "rows")) no_exprs) Plain) no_exprs) Plain)) no_stmts))))) ∷ []) }

abbrev library_4_f1 : File Span
library_4_f1 = record { package_name = (nm 44 47 (codes "lib")); imports = ((imps (at 49 78) false ((imp (at 56 78) None (codes "example.com/lib/text")) ∷ [])) ∷ []); decls = ((values (const_decl (at 80 171) true (spec (at 137 157) ((nm 137 145 (codes "MaxWidth")) ∷ []) None (expr_and (selector (at 148 157) (ident (at 148 152) (codes "text")) (nm 153 157 (codes "Wide"))) no_exprs) (spec (at 160 169) ((nm 160 165 (codes "limit")) ∷ []) None (expr_and (int_lit (at 168 169) (codes "3")) no_exprs) no_specs)))) ∷ (types (at 222 242) false ((tspec (at 227 242) (nm 227 230 (codes "Row")) true (named (at 233 242) (Some (nm 233 237 (codes "text"))) (nm 238 242 (codes "Line")))) ∷ [])) ∷ (fn (at 292 361) None (nm 297 304 (codes "PadLeft")) (sig ((param (at 305 313) (Some (nm 305 306 (codes "s"))) (named (at 307 313) None (nm 307 313 (codes "string")))) ∷ (param (at 315 320) (Some (nm 315 316 (codes "n"))) (named (at 317 320) None (nm 317 320 (codes "int")))) ∷ []) ((param (at 322 328) None (named (at 322 328) None (nm 322 328 (codes "string")))) ∷ [])) (at 329 361) (stmt_and (return_ (at 332 359) (expr_and (call (at 339 359) (selector (at 339 347) (ident (at 339 343) (codes "text")) (nm 344 347 (codes "Pad"))) (expr_and (ident (at 348 349) (codes "s")) (expr_and (ident (at 351 352) (codes "n")) (expr_and (ident (at 354 358) (codes "true")) no_exprs))) Plain) no_exprs)) no_stmts)) ∷ (fn (at 411 503) None (nm 416 420 (codes "Show")) (sig ((param (at 421 437) (Some (nm 421 425 (codes "rows"))) (slice_type (at 426 437) (named (at 428 437) (Some (nm 428 432 (codes "text"))) (nm 433 437 (codes "Line"))))) ∷ (param (at 439 448) (Some (nm 439 444 (codes "width"))) (named (at 445 448) None (nm 445 448 (codes "int")))) ∷ []) []) (at 450 503) (stmt_and (range_ (at 453 501) (defines ((nm 457 458 (codes "_")) ∷ (nm 460 461 (codes "r")) ∷ [])) (ident (at 471 475) (codes "rows")) (at 476 501) (stmt_and (eval (at 480 498) (call (at 480 498) (selector (at 480 488) (ident (at 480 484) (codes "text")) (nm 485 488 (codes "Put"))) (expr_and (ident (at 489 490) (codes "r")) (expr_and (ident (at 492 497) (codes "width")) no_exprs)) Plain)) no_stmts)) no_stmts)) ∷ (fn (at 523 629) None (nm 528 533 (codes "Total")) (sig ((param (at 534 550) (Some (nm 534 538 (codes "rows"))) (slice_type (at 539 550) (named (at 541 550) (Some (nm 541 545 (codes "text"))) (nm 546 550 (codes "Line"))))) ∷ []) ((param (at 552 555) None (named (at 552 555) None (nm 552 555 (codes "int")))) ∷ [])) (at 556 629) (stmt_and (define (at 559 569) ((nm 559 560 (codes "t")) ∷ []) (expr_and (ident (at 564 569) (codes "limit")) no_exprs)) (stmt_and (range_ (at 571 617) (defines ((nm 575 576 (codes "_")) ∷ (nm 578 579 (codes "r")) ∷ [])) (ident (at 589 593) (codes "rows")) (at 594 617) (stmt_and (assign (at 598 614) (expr_and (ident (at 598 599) (codes "t")) no_exprs) (Some Add) (expr_and (call (at 603 614) (ident (at 603 606) (codes "len")) (expr_and (selector (at 607 613) (ident (at 607 608) (codes "r")) (nm 609 613 (codes "Body"))) no_exprs) Plain) no_exprs)) no_stmts)) (stmt_and (return_ (at 619 627) (expr_and (ident (at 626 627) (codes "t")) no_exprs)) no_stmts)))) ∷ []) }

abbrev library_4_f2 : File Span
library_4_f2 = record { package_name = (nm 8 12 (codes "text")); imports = []; decls = ((values (const_decl (at 14 28) false (spec (at 20 28) ((nm 20 24 (codes "Wide")) ∷ []) None (expr_and (int_lit (at 27 28) (codes "8")) no_exprs) no_specs))) ∷ (types (at 30 63) false ((tspec (at 35 63) (nm 35 39 (codes "Line")) false (struct_type (at 40 63) (field (at 50 61) (nm 50 54 (codes "Body")) (named (at 55 61) None (nm 55 61 (codes "string"))) no_fields))) ∷ [])) ∷ (fn (at 65 197) None (nm 70 73 (codes "Pad")) (sig ((param (at 74 82) (Some (nm 74 75 (codes "s"))) (named (at 76 82) None (nm 76 82 (codes "string")))) ∷ (param (at 84 89) (Some (nm 84 85 (codes "n"))) (named (at 86 89) None (nm 86 89 (codes "int")))) ∷ (param (at 91 100) (Some (nm 91 95 (codes "left"))) (named (at 96 100) None (nm 96 100 (codes "bool")))) ∷ []) ((param (at 102 108) None (named (at 102 108) None (nm 102 108 (codes "string")))) ∷ [])) (at 109 197) (stmt_and (for_ (at 112 185) no_stmt (some_expr (binary (at 116 126) Lt (call (at 116 122) (ident (at 116 119) (codes "len")) (expr_and (ident (at 120 121) (codes "s")) no_exprs) Plain) (ident (at 125 126) (codes "n")))) no_stmt (at 127 185) (stmt_and (if_ (at 131 182) (arm (at 131 159) no_stmt (ident (at 134 138) (codes "left")) (at 139 159) (stmt_and (assign (at 144 155) (expr_and (ident (at 144 145) (codes "s")) no_exprs) None (expr_and (binary (at 148 155) Add (str_lit (at 148 151) (codes "\" \"")) (ident (at 154 155) (codes "s"))) no_exprs)) no_stmts) no_arms) (some_block (at 165 182) (stmt_and (assign (at 170 178) (expr_and (ident (at 170 171) (codes "s")) no_exprs) (Some Add) (expr_and (str_lit (at 175 178) (codes "\" \"")) no_exprs)) no_stmts))) no_stmts)) (stmt_and (return_ (at 187 195) (expr_and (ident (at 194 195) (codes "s")) no_exprs)) no_stmts))) ∷ (fn (at 199 266) None (nm 204 207 (codes "Put")) (sig ((param (at 208 214) (Some (nm 208 209 (codes "l"))) (named (at 210 214) None (nm 210 214 (codes "Line")))) ∷ (param (at 216 225) (Some (nm 216 221 (codes "width"))) (named (at 222 225) None (nm 222 225 (codes "int")))) ∷ []) []) (at 227 266) (stmt_and (eval (at 230 264) (call (at 230 264) (ident (at 230 237) (codes "println")) (expr_and (call (at 238 263) (ident (at 238 241) (codes "Pad")) (expr_and (selector (at 242 248) (ident (at 242 243) (codes "l")) (nm 244 248 (codes "Body"))) (expr_and (ident (at 250 255) (codes "width")) (expr_and (ident (at 257 262) (codes "false")) no_exprs))) Plain) no_exprs) Plain)) no_stmts)) ∷ []) }

library_4_f0_read : read_at span_to read_front (lexemes ((tok Keyword 0 7 (codes "package")) ∷ (tok Ident 8 12 (codes "main")) ∷ (tok Inserted 12 12 (codes ";")) ∷ (tok Keyword 14 20 (codes "import")) ∷ (tok Operator 21 22 (codes "(")) ∷ (tok Str 24 41 (codes "\"example.com/lib\"")) ∷ (tok Inserted 41 41 (codes ";")) ∷ (tok Str 43 65 (codes "\"example.com/lib/text\"")) ∷ (tok Inserted 65 65 (codes ";")) ∷ (tok Operator 66 67 (codes ")")) ∷ (tok Inserted 67 67 (codes ";")) ∷ (tok Keyword 69 73 (codes "func")) ∷ (tok Ident 74 78 (codes "load")) ∷ (tok Operator 78 79 (codes "(")) ∷ (tok Operator 79 80 (codes ")")) ∷ (tok Operator 81 82 (codes "[")) ∷ (tok Operator 82 83 (codes "]")) ∷ (tok Ident 83 87 (codes "text")) ∷ (tok Operator 87 88 (codes ".")) ∷ (tok Ident 88 92 (codes "Line")) ∷ (tok Operator 93 94 (codes "{")) ∷ (tok Keyword 96 102 (codes "return")) ∷ (tok Operator 103 104 (codes "[")) ∷ (tok Operator 104 105 (codes "]")) ∷ (tok Ident 105 109 (codes "text")) ∷ (tok Operator 109 110 (codes ".")) ∷ (tok Ident 110 114 (codes "Line")) ∷ (tok Operator 114 115 (codes "{")) ∷ (tok Operator 115 116 (codes "{")) ∷ (tok Str 116 119 (codes "\"a\"")) ∷ (tok Operator 119 120 (codes "}")) ∷ (tok Operator 120 121 (codes ",")) ∷ (tok Operator 122 123 (codes "{")) ∷ (tok Str 123 127 (codes "\"bc\"")) ∷ (tok Operator 127 128 (codes "}")) ∷ (tok Operator 128 129 (codes "}")) ∷ (tok Inserted 129 129 (codes ";")) ∷ (tok Operator 142 143 (codes "}")) ∷ (tok Inserted 143 143 (codes ";")) ∷ (tok Keyword 145 149 (codes "func")) ∷ (tok Ident 150 154 (codes "main")) ∷ (tok Operator 154 155 (codes "(")) ∷ (tok Operator 155 156 (codes ")")) ∷ (tok Operator 157 158 (codes "{")) ∷ (tok Ident 160 164 (codes "rows")) ∷ (tok Operator 165 167 (codes ":=")) ∷ (tok Ident 168 172 (codes "load")) ∷ (tok Operator 172 173 (codes "(")) ∷ (tok Operator 173 174 (codes ")")) ∷ (tok Inserted 174 174 (codes ";")) ∷ (tok Keyword 176 179 (codes "for")) ∷ (tok Ident 180 181 (codes "i")) ∷ (tok Operator 182 184 (codes ":=")) ∷ (tok Integer 185 186 (codes "0")) ∷ (tok Operator 186 187 (codes ";")) ∷ (tok Ident 188 189 (codes "i")) ∷ (tok Operator 190 191 (codes "<")) ∷ (tok Integer 192 193 (codes "2")) ∷ (tok Operator 193 194 (codes ";")) ∷ (tok Ident 195 196 (codes "i")) ∷ (tok Operator 196 198 (codes "++")) ∷ (tok Operator 199 200 (codes "{")) ∷ (tok Ident 203 210 (codes "println")) ∷ (tok Operator 210 211 (codes "(")) ∷ (tok Ident 211 214 (codes "lib")) ∷ (tok Operator 214 215 (codes ".")) ∷ (tok Ident 215 222 (codes "PadLeft")) ∷ (tok Operator 222 223 (codes "(")) ∷ (tok Ident 223 227 (codes "rows")) ∷ (tok Operator 227 228 (codes "[")) ∷ (tok Ident 228 229 (codes "i")) ∷ (tok Operator 229 230 (codes "]")) ∷ (tok Operator 230 231 (codes ".")) ∷ (tok Ident 231 235 (codes "Body")) ∷ (tok Operator 235 236 (codes ",")) ∷ (tok Ident 237 240 (codes "lib")) ∷ (tok Operator 240 241 (codes ".")) ∷ (tok Ident 241 249 (codes "MaxWidth")) ∷ (tok Operator 249 250 (codes ")")) ∷ (tok Operator 250 251 (codes ")")) ∷ (tok Inserted 251 251 (codes ";")) ∷ (tok Operator 253 254 (codes "}")) ∷ (tok Inserted 254 254 (codes ";")) ∷ (tok Ident 256 259 (codes "lib")) ∷ (tok Operator 259 260 (codes ".")) ∷ (tok Ident 260 264 (codes "Show")) ∷ (tok Operator 264 265 (codes "(")) ∷ (tok Ident 265 269 (codes "rows")) ∷ (tok Operator 269 270 (codes ",")) ∷ (tok Integer 271 272 (codes "4")) ∷ (tok Operator 272 273 (codes ")")) ∷ (tok Inserted 273 273 (codes ";")) ∷ (tok Ident 275 282 (codes "println")) ∷ (tok Operator 282 283 (codes "(")) ∷ (tok Ident 283 286 (codes "lib")) ∷ (tok Operator 286 287 (codes ".")) ∷ (tok Ident 287 292 (codes "Total")) ∷ (tok Operator 292 293 (codes "(")) ∷ (tok Ident 293 297 (codes "rows")) ∷ (tok Operator 297 298 (codes ")")) ∷ (tok Operator 298 299 (codes ")")) ∷ (tok Inserted 299 299 (codes ";")) ∷ (tok Operator 300 301 (codes "}")) ∷ (tok Inserted 301 301 (codes ";")) ∷ [])) ≡ Some (library_4_f0, [])
unfolding reading
library_4_f0_read = refl

abbrev library_4 : Module
library_4 = record { packages = (pack (codes "example.com/lib/cmd") (codes "main") (source (codes "cmd/main.go") library_4_f0 ∷ []) ∷ pack (codes "example.com/lib") (codes "lib") (source (codes "lib.go") library_4_f1 ∷ []) ∷ pack (codes "example.com/lib/text") (codes "text") (source (codes "text/text.go") library_4_f2 ∷ []) ∷ []); marks = (mark 1 0 0 0 ∷ mark 1 0 1 0 ∷ mark 1 0 2 0 ∷ mark 1 0 3 0 ∷ []); texts = (((codes "cmd/main.go"), record { text = (codes "package main\n\nimport (\n\t\"example.com/lib\"\n\t\"example.com/lib/text\"\n)\n\nfunc load() []text.Line {\n\treturn []text.Line{{\"a\"}, {\"bc\"}} // two rows\n}\n\nfunc main() {\n\trows := load()\n\tfor i := 0; i < 2; i++ {\n\t\tprintln(lib.PadLeft(rows[i].Body, lib.MaxWidth))\n\t}\n\tlib.Show(rows, 4)\n\tprintln(lib.Total(rows))\n}\n"); tokens = ((tok Keyword 0 7 (codes "package")) ∷ (tok Ident 8 12 (codes "main")) ∷ (tok Inserted 12 12 (codes ";")) ∷ (tok Keyword 14 20 (codes "import")) ∷ (tok Operator 21 22 (codes "(")) ∷ (tok Str 24 41 (codes "\"example.com/lib\"")) ∷ (tok Inserted 41 41 (codes ";")) ∷ (tok Str 43 65 (codes "\"example.com/lib/text\"")) ∷ (tok Inserted 65 65 (codes ";")) ∷ (tok Operator 66 67 (codes ")")) ∷ (tok Inserted 67 67 (codes ";")) ∷ (tok Keyword 69 73 (codes "func")) ∷ (tok Ident 74 78 (codes "load")) ∷ (tok Operator 78 79 (codes "(")) ∷ (tok Operator 79 80 (codes ")")) ∷ (tok Operator 81 82 (codes "[")) ∷ (tok Operator 82 83 (codes "]")) ∷ (tok Ident 83 87 (codes "text")) ∷ (tok Operator 87 88 (codes ".")) ∷ (tok Ident 88 92 (codes "Line")) ∷ (tok Operator 93 94 (codes "{")) ∷ (tok Keyword 96 102 (codes "return")) ∷ (tok Operator 103 104 (codes "[")) ∷ (tok Operator 104 105 (codes "]")) ∷ (tok Ident 105 109 (codes "text")) ∷ (tok Operator 109 110 (codes ".")) ∷ (tok Ident 110 114 (codes "Line")) ∷ (tok Operator 114 115 (codes "{")) ∷ (tok Operator 115 116 (codes "{")) ∷ (tok Str 116 119 (codes "\"a\"")) ∷ (tok Operator 119 120 (codes "}")) ∷ (tok Operator 120 121 (codes ",")) ∷ (tok Operator 122 123 (codes "{")) ∷ (tok Str 123 127 (codes "\"bc\"")) ∷ (tok Operator 127 128 (codes "}")) ∷ (tok Operator 128 129 (codes "}")) ∷ (tok Inserted 129 129 (codes ";")) ∷ (tok Operator 142 143 (codes "}")) ∷ (tok Inserted 143 143 (codes ";")) ∷ (tok Keyword 145 149 (codes "func")) ∷ (tok Ident 150 154 (codes "main")) ∷ (tok Operator 154 155 (codes "(")) ∷ (tok Operator 155 156 (codes ")")) ∷ (tok Operator 157 158 (codes "{")) ∷ (tok Ident 160 164 (codes "rows")) ∷ (tok Operator 165 167 (codes ":=")) ∷ (tok Ident 168 172 (codes "load")) ∷ (tok Operator 172 173 (codes "(")) ∷ (tok Operator 173 174 (codes ")")) ∷ (tok Inserted 174 174 (codes ";")) ∷ (tok Keyword 176 179 (codes "for")) ∷ (tok Ident 180 181 (codes "i")) ∷ (tok Operator 182 184 (codes ":=")) ∷ (tok Integer 185 186 (codes "0")) ∷ (tok Operator 186 187 (codes ";")) ∷ (tok Ident 188 189 (codes "i")) ∷ (tok Operator 190 191 (codes "<")) ∷ (tok Integer 192 193 (codes "2")) ∷ (tok Operator 193 194 (codes ";")) ∷ (tok Ident 195 196 (codes "i")) ∷ (tok Operator 196 198 (codes "++")) ∷ (tok Operator 199 200 (codes "{")) ∷ (tok Ident 203 210 (codes "println")) ∷ (tok Operator 210 211 (codes "(")) ∷ (tok Ident 211 214 (codes "lib")) ∷ (tok Operator 214 215 (codes ".")) ∷ (tok Ident 215 222 (codes "PadLeft")) ∷ (tok Operator 222 223 (codes "(")) ∷ (tok Ident 223 227 (codes "rows")) ∷ (tok Operator 227 228 (codes "[")) ∷ (tok Ident 228 229 (codes "i")) ∷ (tok Operator 229 230 (codes "]")) ∷ (tok Operator 230 231 (codes ".")) ∷ (tok Ident 231 235 (codes "Body")) ∷ (tok Operator 235 236 (codes ",")) ∷ (tok Ident 237 240 (codes "lib")) ∷ (tok Operator 240 241 (codes ".")) ∷ (tok Ident 241 249 (codes "MaxWidth")) ∷ (tok Operator 249 250 (codes ")")) ∷ (tok Operator 250 251 (codes ")")) ∷ (tok Inserted 251 251 (codes ";")) ∷ (tok Operator 253 254 (codes "}")) ∷ (tok Inserted 254 254 (codes ";")) ∷ (tok Ident 256 259 (codes "lib")) ∷ (tok Operator 259 260 (codes ".")) ∷ (tok Ident 260 264 (codes "Show")) ∷ (tok Operator 264 265 (codes "(")) ∷ (tok Ident 265 269 (codes "rows")) ∷ (tok Operator 269 270 (codes ",")) ∷ (tok Integer 271 272 (codes "4")) ∷ (tok Operator 272 273 (codes ")")) ∷ (tok Inserted 273 273 (codes ";")) ∷ (tok Ident 275 282 (codes "println")) ∷ (tok Operator 282 283 (codes "(")) ∷ (tok Ident 283 286 (codes "lib")) ∷ (tok Operator 286 287 (codes ".")) ∷ (tok Ident 287 292 (codes "Total")) ∷ (tok Operator 292 293 (codes "(")) ∷ (tok Ident 293 297 (codes "rows")) ∷ (tok Operator 297 298 (codes ")")) ∷ (tok Operator 298 299 (codes ")")) ∷ (tok Inserted 299 299 (codes ";")) ∷ (tok Operator 300 301 (codes "}")) ∷ (tok Inserted 301 301 (codes ";")) ∷ []); comments = ((note 130 141) ∷ []) }) ∷ ((codes "lib.go"), record { text = (codes "// Package lib keeps the old names.\npackage lib\n\nimport \"example.com/lib/text\"\n\nconst (\n\t// Deprecated: use text.Wide.\n\t//go:fix inline\n\tMaxWidth = text.Wide\n\n\tlimit = 3\n)\n\n// Deprecated: use text.Line.\n//\n//go:fix inline\ntype Row = text.Line\n\n// Deprecated: use text.Pad.\n//\n//go:fix inline\nfunc PadLeft(s string, n int) string {\n\treturn text.Pad(s, n, true)\n}\n\n// Deprecated: use text.Put.\n//\n//go:fix inline\nfunc Show(rows []text.Line, width int) {\n\tfor _, r := range rows {\n\t\ttext.Put(r, width)\n\t}\n}\n\n// Total is kept.\nfunc Total(rows []text.Line) int {\n\tt := limit\n\tfor _, r := range rows {\n\t\tt += len(r.Body)\n\t}\n\treturn t\n}\n"); tokens = ((tok Keyword 36 43 (codes "package")) ∷ (tok Ident 44 47 (codes "lib")) ∷ (tok Inserted 47 47 (codes ";")) ∷ (tok Keyword 49 55 (codes "import")) ∷ (tok Str 56 78 (codes "\"example.com/lib/text\"")) ∷ (tok Inserted 78 78 (codes ";")) ∷ (tok Keyword 80 85 (codes "const")) ∷ (tok Operator 86 87 (codes "(")) ∷ (tok Ident 137 145 (codes "MaxWidth")) ∷ (tok Operator 146 147 (codes "=")) ∷ (tok Ident 148 152 (codes "text")) ∷ (tok Operator 152 153 (codes ".")) ∷ (tok Ident 153 157 (codes "Wide")) ∷ (tok Inserted 157 157 (codes ";")) ∷ (tok Ident 160 165 (codes "limit")) ∷ (tok Operator 166 167 (codes "=")) ∷ (tok Integer 168 169 (codes "3")) ∷ (tok Inserted 169 169 (codes ";")) ∷ (tok Operator 170 171 (codes ")")) ∷ (tok Inserted 171 171 (codes ";")) ∷ (tok Keyword 222 226 (codes "type")) ∷ (tok Ident 227 230 (codes "Row")) ∷ (tok Operator 231 232 (codes "=")) ∷ (tok Ident 233 237 (codes "text")) ∷ (tok Operator 237 238 (codes ".")) ∷ (tok Ident 238 242 (codes "Line")) ∷ (tok Inserted 242 242 (codes ";")) ∷ (tok Keyword 292 296 (codes "func")) ∷ (tok Ident 297 304 (codes "PadLeft")) ∷ (tok Operator 304 305 (codes "(")) ∷ (tok Ident 305 306 (codes "s")) ∷ (tok Ident 307 313 (codes "string")) ∷ (tok Operator 313 314 (codes ",")) ∷ (tok Ident 315 316 (codes "n")) ∷ (tok Ident 317 320 (codes "int")) ∷ (tok Operator 320 321 (codes ")")) ∷ (tok Ident 322 328 (codes "string")) ∷ (tok Operator 329 330 (codes "{")) ∷ (tok Keyword 332 338 (codes "return")) ∷ (tok Ident 339 343 (codes "text")) ∷ (tok Operator 343 344 (codes ".")) ∷ (tok Ident 344 347 (codes "Pad")) ∷ (tok Operator 347 348 (codes "(")) ∷ (tok Ident 348 349 (codes "s")) ∷ (tok Operator 349 350 (codes ",")) ∷ (tok Ident 351 352 (codes "n")) ∷ (tok Operator 352 353 (codes ",")) ∷ (tok Ident 354 358 (codes "true")) ∷ (tok Operator 358 359 (codes ")")) ∷ (tok Inserted 359 359 (codes ";")) ∷ (tok Operator 360 361 (codes "}")) ∷ (tok Inserted 361 361 (codes ";")) ∷ (tok Keyword 411 415 (codes "func")) ∷ (tok Ident 416 420 (codes "Show")) ∷ (tok Operator 420 421 (codes "(")) ∷ (tok Ident 421 425 (codes "rows")) ∷ (tok Operator 426 427 (codes "[")) ∷ (tok Operator 427 428 (codes "]")) ∷ (tok Ident 428 432 (codes "text")) ∷ (tok Operator 432 433 (codes ".")) ∷ (tok Ident 433 437 (codes "Line")) ∷ (tok Operator 437 438 (codes ",")) ∷ (tok Ident 439 444 (codes "width")) ∷ (tok Ident 445 448 (codes "int")) ∷ (tok Operator 448 449 (codes ")")) ∷ (tok Operator 450 451 (codes "{")) ∷ (tok Keyword 453 456 (codes "for")) ∷ (tok Ident 457 458 (codes "_")) ∷ (tok Operator 458 459 (codes ",")) ∷ (tok Ident 460 461 (codes "r")) ∷ (tok Operator 462 464 (codes ":=")) ∷ (tok Keyword 465 470 (codes "range")) ∷ (tok Ident 471 475 (codes "rows")) ∷ (tok Operator 476 477 (codes "{")) ∷ (tok Ident 480 484 (codes "text")) ∷ (tok Operator 484 485 (codes ".")) ∷ (tok Ident 485 488 (codes "Put")) ∷ (tok Operator 488 489 (codes "(")) ∷ (tok Ident 489 490 (codes "r")) ∷ (tok Operator 490 491 (codes ",")) ∷ (tok Ident 492 497 (codes "width")) ∷ (tok Operator 497 498 (codes ")")) ∷ (tok Inserted 498 498 (codes ";")) ∷ (tok Operator 500 501 (codes "}")) ∷ (tok Inserted 501 501 (codes ";")) ∷ (tok Operator 502 503 (codes "}")) ∷ (tok Inserted 503 503 (codes ";")) ∷ (tok Keyword 523 527 (codes "func")) ∷ (tok Ident 528 533 (codes "Total")) ∷ (tok Operator 533 534 (codes "(")) ∷ (tok Ident 534 538 (codes "rows")) ∷ (tok Operator 539 540 (codes "[")) ∷ (tok Operator 540 541 (codes "]")) ∷ (tok Ident 541 545 (codes "text")) ∷ (tok Operator 545 546 (codes ".")) ∷ (tok Ident 546 550 (codes "Line")) ∷ (tok Operator 550 551 (codes ")")) ∷ (tok Ident 552 555 (codes "int")) ∷ (tok Operator 556 557 (codes "{")) ∷ (tok Ident 559 560 (codes "t")) ∷ (tok Operator 561 563 (codes ":=")) ∷ (tok Ident 564 569 (codes "limit")) ∷ (tok Inserted 569 569 (codes ";")) ∷ (tok Keyword 571 574 (codes "for")) ∷ (tok Ident 575 576 (codes "_")) ∷ (tok Operator 576 577 (codes ",")) ∷ (tok Ident 578 579 (codes "r")) ∷ (tok Operator 580 582 (codes ":=")) ∷ (tok Keyword 583 588 (codes "range")) ∷ (tok Ident 589 593 (codes "rows")) ∷ (tok Operator 594 595 (codes "{")) ∷ (tok Ident 598 599 (codes "t")) ∷ (tok Operator 600 602 (codes "+=")) ∷ (tok Ident 603 606 (codes "len")) ∷ (tok Operator 606 607 (codes "(")) ∷ (tok Ident 607 608 (codes "r")) ∷ (tok Operator 608 609 (codes ".")) ∷ (tok Ident 609 613 (codes "Body")) ∷ (tok Operator 613 614 (codes ")")) ∷ (tok Inserted 614 614 (codes ";")) ∷ (tok Operator 616 617 (codes "}")) ∷ (tok Inserted 617 617 (codes ";")) ∷ (tok Keyword 619 625 (codes "return")) ∷ (tok Ident 626 627 (codes "t")) ∷ (tok Inserted 627 627 (codes ";")) ∷ (tok Operator 628 629 (codes "}")) ∷ (tok Inserted 629 629 (codes ";")) ∷ []); comments = ((note 0 35) ∷ (note 89 118) ∷ (note 120 135) ∷ (note 173 202) ∷ (note 203 205) ∷ (note 206 221) ∷ (note 244 272) ∷ (note 273 275) ∷ (note 276 291) ∷ (note 363 391) ∷ (note 392 394) ∷ (note 395 410) ∷ (note 505 522) ∷ []) }) ∷ ((codes "text/text.go"), record { text = (codes "package text\n\nconst Wide = 8\n\ntype Line struct {\n\tBody string\n}\n\nfunc Pad(s string, n int, left bool) string {\n\tfor len(s) < n {\n\t\tif left {\n\t\t\ts = \" \" + s\n\t\t} else {\n\t\t\ts += \" \"\n\t\t}\n\t}\n\treturn s\n}\n\nfunc Put(l Line, width int) {\n\tprintln(Pad(l.Body, width, false))\n}\n"); tokens = ((tok Keyword 0 7 (codes "package")) ∷ (tok Ident 8 12 (codes "text")) ∷ (tok Inserted 12 12 (codes ";")) ∷ (tok Keyword 14 19 (codes "const")) ∷ (tok Ident 20 24 (codes "Wide")) ∷ (tok Operator 25 26 (codes "=")) ∷ (tok Integer 27 28 (codes "8")) ∷ (tok Inserted 28 28 (codes ";")) ∷ (tok Keyword 30 34 (codes "type")) ∷ (tok Ident 35 39 (codes "Line")) ∷ (tok Keyword 40 46 (codes "struct")) ∷ (tok Operator 47 48 (codes "{")) ∷ (tok Ident 50 54 (codes "Body")) ∷ (tok Ident 55 61 (codes "string")) ∷ (tok Inserted 61 61 (codes ";")) ∷ (tok Operator 62 63 (codes "}")) ∷ (tok Inserted 63 63 (codes ";")) ∷ (tok Keyword 65 69 (codes "func")) ∷ (tok Ident 70 73 (codes "Pad")) ∷ (tok Operator 73 74 (codes "(")) ∷ (tok Ident 74 75 (codes "s")) ∷ (tok Ident 76 82 (codes "string")) ∷ (tok Operator 82 83 (codes ",")) ∷ (tok Ident 84 85 (codes "n")) ∷ (tok Ident 86 89 (codes "int")) ∷ (tok Operator 89 90 (codes ",")) ∷ (tok Ident 91 95 (codes "left")) ∷ (tok Ident 96 100 (codes "bool")) ∷ (tok Operator 100 101 (codes ")")) ∷ (tok Ident 102 108 (codes "string")) ∷ (tok Operator 109 110 (codes "{")) ∷ (tok Keyword 112 115 (codes "for")) ∷ (tok Ident 116 119 (codes "len")) ∷ (tok Operator 119 120 (codes "(")) ∷ (tok Ident 120 121 (codes "s")) ∷ (tok Operator 121 122 (codes ")")) ∷ (tok Operator 123 124 (codes "<")) ∷ (tok Ident 125 126 (codes "n")) ∷ (tok Operator 127 128 (codes "{")) ∷ (tok Keyword 131 133 (codes "if")) ∷ (tok Ident 134 138 (codes "left")) ∷ (tok Operator 139 140 (codes "{")) ∷ (tok Ident 144 145 (codes "s")) ∷ (tok Operator 146 147 (codes "=")) ∷ (tok Str 148 151 (codes "\" \"")) ∷ (tok Operator 152 153 (codes "+")) ∷ (tok Ident 154 155 (codes "s")) ∷ (tok Inserted 155 155 (codes ";")) ∷ (tok Operator 158 159 (codes "}")) ∷ (tok Keyword 160 164 (codes "else")) ∷ (tok Operator 165 166 (codes "{")) ∷ (tok Ident 170 171 (codes "s")) ∷ (tok Operator 172 174 (codes "+=")) ∷ (tok Str 175 178 (codes "\" \"")) ∷ (tok Inserted 178 178 (codes ";")) ∷ (tok Operator 181 182 (codes "}")) ∷ (tok Inserted 182 182 (codes ";")) ∷ (tok Operator 184 185 (codes "}")) ∷ (tok Inserted 185 185 (codes ";")) ∷ (tok Keyword 187 193 (codes "return")) ∷ (tok Ident 194 195 (codes "s")) ∷ (tok Inserted 195 195 (codes ";")) ∷ (tok Operator 196 197 (codes "}")) ∷ (tok Inserted 197 197 (codes ";")) ∷ (tok Keyword 199 203 (codes "func")) ∷ (tok Ident 204 207 (codes "Put")) ∷ (tok Operator 207 208 (codes "(")) ∷ (tok Ident 208 209 (codes "l")) ∷ (tok Ident 210 214 (codes "Line")) ∷ (tok Operator 214 215 (codes ",")) ∷ (tok Ident 216 221 (codes "width")) ∷ (tok Ident 222 225 (codes "int")) ∷ (tok Operator 225 226 (codes ")")) ∷ (tok Operator 227 228 (codes "{")) ∷ (tok Ident 230 237 (codes "println")) ∷ (tok Operator 237 238 (codes "(")) ∷ (tok Ident 238 241 (codes "Pad")) ∷ (tok Operator 241 242 (codes "(")) ∷ (tok Ident 242 243 (codes "l")) ∷ (tok Operator 243 244 (codes ".")) ∷ (tok Ident 244 248 (codes "Body")) ∷ (tok Operator 248 249 (codes ",")) ∷ (tok Ident 250 255 (codes "width")) ∷ (tok Operator 255 256 (codes ",")) ∷ (tok Ident 257 262 (codes "false")) ∷ (tok Operator 262 263 (codes ")")) ∷ (tok Operator 263 264 (codes ")")) ∷ (tok Inserted 264 264 (codes ";")) ∷ (tok Operator 265 266 (codes "}")) ∷ (tok Inserted 266 266 (codes ";")) ∷ []); comments = [] }) ∷ []) }

library_4_typed : is_typed library_4 ≡ true
library_4_typed = refl

library_4_step : first_change library_4 ≡ Some ((codes "cmd/main.go"), ConstForm, (codes "package main\n\nimport (\n\t\"example.com/lib\"\n\t\"example.com/lib/text\"\n)\n\nfunc load() []text.Line {\n\treturn []text.Line{{\"a\"}, {\"bc\"}} // two rows\n}\n\nfunc main() {\n\trows := load()\n\tfor i := 0; i < 2; i++ {\n\t\tprintln(lib.PadLeft(rows[i].Body, text.Wide))\n\t}\n\tlib.Show(rows, 4)\n\tprintln(lib.Total(rows))\n}\n"))
unfolding passes keyword_spellings
library_4_step = refl

abbrev library_5_f0 : File Span
library_5_f0 = record { package_name = (nm 8 12 (codes "main")); imports = ((imps (at 14 67) true ((imp (at 24 41) None (codes "example.com/lib")) ∷ (imp (at 43 65) None (codes "example.com/lib/text")) ∷ [])) ∷ []); decls = ((fn (at 69 143) None (nm 74 78 (codes "load")) (sig [] ((param (at 81 92) None (slice_type (at 81 92) (named (at 83 92) (Some (nm 83 87 (codes "text"))) (nm 88 92 (codes "Line"))))) ∷ [])) (at 93 143) (stmt_and (return_ (at 96 129) (expr_and (composite (at 103 129) (slice_type (at 103 114) (named (at 105 114) (Some (nm 105 109 (codes "text"))) (nm 110 114 (codes "Line")))) (elem (at 115 120) no_value (braced (at 115 120) (elem (at 116 119) no_value (plain (str_lit (at 116 119) (codes "\"a\""))) no_elems)) (elem (at 122 128) no_value (braced (at 122 128) (elem (at 123 127) no_value (plain (str_lit (at 123 127) (codes "\"bc\""))) no_elems)) no_elems))) no_exprs)) no_stmts)) ∷ (fn (at 145 298) None (nm 150 154 (codes "main")) (sig [] []) (at 157 298) (stmt_and (define (at 160 174) ((nm 160 164 (codes "rows")) ∷ []) (expr_and (call (at 168 174) (ident (at 168 172) (codes "load")) no_exprs Plain) no_exprs)) (stmt_and (for_ (at 176 251) (some_stmt (define (at 180 186) ((nm 180 181 (codes "i")) ∷ []) (expr_and (int_lit (at 185 186) (codes "0")) no_exprs))) (some_expr (binary (at 188 193) Lt (ident (at 188 189) (codes "i")) (int_lit (at 192 193) (codes "2")))) (some_stmt (step (at 195 198) (ident (at 195 196) (codes "i")) true)) (at 199 251) (stmt_and (eval (at 203 248) (call (at 203 248) (ident (at 203 210) (codes "println")) (expr_and (call (at 211 247) (selector (at 211 222) (ident (at 211 214) (codes "lib")) (nm 215 222 (codes "PadLeft"))) (expr_and (selector (at 223 235) (index (at 223 230) (ident (at 223 227) (codes "rows")) (ident (at 228 229) (codes "i"))) (nm 231 235 (codes "Body"))) (expr_and (selector (at 237 246) (ident (at 237 241) (codes "text")) (nm 242 246 (codes "Wide"))) no_exprs)) Plain) no_exprs) Plain)) no_stmts)) (stmt_and (eval (at 253 270) (call (at 253 270) (selector (at 253 261) (ident (at 253 256) (codes "lib")) (nm 257 261 (codes "Show"))) (expr_and (ident (at 262 266) (codes "rows")) (expr_and (int_lit (at 268 269) (codes "4")) no_exprs)) Plain)) (stmt_and (eval (at 272 296) (call (at 272 296) (ident (at 272 279) (codes "println")) (expr_and (call (at 280 295) (selector (at 280 289) (ident (at 280 283) (codes "lib")) (nm 284 289 (codes "Total"))) (expr_and (ident (at 290 294) (codes "rows")) no_exprs) Plain) no_exprs) Plain)) no_stmts))))) ∷ []) }

abbrev library_5_f1 : File Span
library_5_f1 = record { package_name = (nm 44 47 (codes "lib")); imports = ((imps (at 49 78) false ((imp (at 56 78) None (codes "example.com/lib/text")) ∷ [])) ∷ []); decls = ((values (const_decl (at 80 171) true (spec (at 137 157) ((nm 137 145 (codes "MaxWidth")) ∷ []) None (expr_and (selector (at 148 157) (ident (at 148 152) (codes "text")) (nm 153 157 (codes "Wide"))) no_exprs) (spec (at 160 169) ((nm 160 165 (codes "limit")) ∷ []) None (expr_and (int_lit (at 168 169) (codes "3")) no_exprs) no_specs)))) ∷ (types (at 222 242) false ((tspec (at 227 242) (nm 227 230 (codes "Row")) true (named (at 233 242) (Some (nm 233 237 (codes "text"))) (nm 238 242 (codes "Line")))) ∷ [])) ∷ (fn (at 292 361) None (nm 297 304 (codes "PadLeft")) (sig ((param (at 305 313) (Some (nm 305 306 (codes "s"))) (named (at 307 313) None (nm 307 313 (codes "string")))) ∷ (param (at 315 320) (Some (nm 315 316 (codes "n"))) (named (at 317 320) None (nm 317 320 (codes "int")))) ∷ []) ((param (at 322 328) None (named (at 322 328) None (nm 322 328 (codes "string")))) ∷ [])) (at 329 361) (stmt_and (return_ (at 332 359) (expr_and (call (at 339 359) (selector (at 339 347) (ident (at 339 343) (codes "text")) (nm 344 347 (codes "Pad"))) (expr_and (ident (at 348 349) (codes "s")) (expr_and (ident (at 351 352) (codes "n")) (expr_and (ident (at 354 358) (codes "true")) no_exprs))) Plain) no_exprs)) no_stmts)) ∷ (fn (at 411 503) None (nm 416 420 (codes "Show")) (sig ((param (at 421 437) (Some (nm 421 425 (codes "rows"))) (slice_type (at 426 437) (named (at 428 437) (Some (nm 428 432 (codes "text"))) (nm 433 437 (codes "Line"))))) ∷ (param (at 439 448) (Some (nm 439 444 (codes "width"))) (named (at 445 448) None (nm 445 448 (codes "int")))) ∷ []) []) (at 450 503) (stmt_and (range_ (at 453 501) (defines ((nm 457 458 (codes "_")) ∷ (nm 460 461 (codes "r")) ∷ [])) (ident (at 471 475) (codes "rows")) (at 476 501) (stmt_and (eval (at 480 498) (call (at 480 498) (selector (at 480 488) (ident (at 480 484) (codes "text")) (nm 485 488 (codes "Put"))) (expr_and (ident (at 489 490) (codes "r")) (expr_and (ident (at 492 497) (codes "width")) no_exprs)) Plain)) no_stmts)) no_stmts)) ∷ (fn (at 523 629) None (nm 528 533 (codes "Total")) (sig ((param (at 534 550) (Some (nm 534 538 (codes "rows"))) (slice_type (at 539 550) (named (at 541 550) (Some (nm 541 545 (codes "text"))) (nm 546 550 (codes "Line"))))) ∷ []) ((param (at 552 555) None (named (at 552 555) None (nm 552 555 (codes "int")))) ∷ [])) (at 556 629) (stmt_and (define (at 559 569) ((nm 559 560 (codes "t")) ∷ []) (expr_and (ident (at 564 569) (codes "limit")) no_exprs)) (stmt_and (range_ (at 571 617) (defines ((nm 575 576 (codes "_")) ∷ (nm 578 579 (codes "r")) ∷ [])) (ident (at 589 593) (codes "rows")) (at 594 617) (stmt_and (assign (at 598 614) (expr_and (ident (at 598 599) (codes "t")) no_exprs) (Some Add) (expr_and (call (at 603 614) (ident (at 603 606) (codes "len")) (expr_and (selector (at 607 613) (ident (at 607 608) (codes "r")) (nm 609 613 (codes "Body"))) no_exprs) Plain) no_exprs)) no_stmts)) (stmt_and (return_ (at 619 627) (expr_and (ident (at 626 627) (codes "t")) no_exprs)) no_stmts)))) ∷ []) }

abbrev library_5_f2 : File Span
library_5_f2 = record { package_name = (nm 8 12 (codes "text")); imports = []; decls = ((values (const_decl (at 14 28) false (spec (at 20 28) ((nm 20 24 (codes "Wide")) ∷ []) None (expr_and (int_lit (at 27 28) (codes "8")) no_exprs) no_specs))) ∷ (types (at 30 63) false ((tspec (at 35 63) (nm 35 39 (codes "Line")) false (struct_type (at 40 63) (field (at 50 61) (nm 50 54 (codes "Body")) (named (at 55 61) None (nm 55 61 (codes "string"))) no_fields))) ∷ [])) ∷ (fn (at 65 197) None (nm 70 73 (codes "Pad")) (sig ((param (at 74 82) (Some (nm 74 75 (codes "s"))) (named (at 76 82) None (nm 76 82 (codes "string")))) ∷ (param (at 84 89) (Some (nm 84 85 (codes "n"))) (named (at 86 89) None (nm 86 89 (codes "int")))) ∷ (param (at 91 100) (Some (nm 91 95 (codes "left"))) (named (at 96 100) None (nm 96 100 (codes "bool")))) ∷ []) ((param (at 102 108) None (named (at 102 108) None (nm 102 108 (codes "string")))) ∷ [])) (at 109 197) (stmt_and (for_ (at 112 185) no_stmt (some_expr (binary (at 116 126) Lt (call (at 116 122) (ident (at 116 119) (codes "len")) (expr_and (ident (at 120 121) (codes "s")) no_exprs) Plain) (ident (at 125 126) (codes "n")))) no_stmt (at 127 185) (stmt_and (if_ (at 131 182) (arm (at 131 159) no_stmt (ident (at 134 138) (codes "left")) (at 139 159) (stmt_and (assign (at 144 155) (expr_and (ident (at 144 145) (codes "s")) no_exprs) None (expr_and (binary (at 148 155) Add (str_lit (at 148 151) (codes "\" \"")) (ident (at 154 155) (codes "s"))) no_exprs)) no_stmts) no_arms) (some_block (at 165 182) (stmt_and (assign (at 170 178) (expr_and (ident (at 170 171) (codes "s")) no_exprs) (Some Add) (expr_and (str_lit (at 175 178) (codes "\" \"")) no_exprs)) no_stmts))) no_stmts)) (stmt_and (return_ (at 187 195) (expr_and (ident (at 194 195) (codes "s")) no_exprs)) no_stmts))) ∷ (fn (at 199 266) None (nm 204 207 (codes "Put")) (sig ((param (at 208 214) (Some (nm 208 209 (codes "l"))) (named (at 210 214) None (nm 210 214 (codes "Line")))) ∷ (param (at 216 225) (Some (nm 216 221 (codes "width"))) (named (at 222 225) None (nm 222 225 (codes "int")))) ∷ []) []) (at 227 266) (stmt_and (eval (at 230 264) (call (at 230 264) (ident (at 230 237) (codes "println")) (expr_and (call (at 238 263) (ident (at 238 241) (codes "Pad")) (expr_and (selector (at 242 248) (ident (at 242 243) (codes "l")) (nm 244 248 (codes "Body"))) (expr_and (ident (at 250 255) (codes "width")) (expr_and (ident (at 257 262) (codes "false")) no_exprs))) Plain) no_exprs) Plain)) no_stmts)) ∷ []) }

library_5_f0_read : read_at span_to read_front (lexemes ((tok Keyword 0 7 (codes "package")) ∷ (tok Ident 8 12 (codes "main")) ∷ (tok Inserted 12 12 (codes ";")) ∷ (tok Keyword 14 20 (codes "import")) ∷ (tok Operator 21 22 (codes "(")) ∷ (tok Str 24 41 (codes "\"example.com/lib\"")) ∷ (tok Inserted 41 41 (codes ";")) ∷ (tok Str 43 65 (codes "\"example.com/lib/text\"")) ∷ (tok Inserted 65 65 (codes ";")) ∷ (tok Operator 66 67 (codes ")")) ∷ (tok Inserted 67 67 (codes ";")) ∷ (tok Keyword 69 73 (codes "func")) ∷ (tok Ident 74 78 (codes "load")) ∷ (tok Operator 78 79 (codes "(")) ∷ (tok Operator 79 80 (codes ")")) ∷ (tok Operator 81 82 (codes "[")) ∷ (tok Operator 82 83 (codes "]")) ∷ (tok Ident 83 87 (codes "text")) ∷ (tok Operator 87 88 (codes ".")) ∷ (tok Ident 88 92 (codes "Line")) ∷ (tok Operator 93 94 (codes "{")) ∷ (tok Keyword 96 102 (codes "return")) ∷ (tok Operator 103 104 (codes "[")) ∷ (tok Operator 104 105 (codes "]")) ∷ (tok Ident 105 109 (codes "text")) ∷ (tok Operator 109 110 (codes ".")) ∷ (tok Ident 110 114 (codes "Line")) ∷ (tok Operator 114 115 (codes "{")) ∷ (tok Operator 115 116 (codes "{")) ∷ (tok Str 116 119 (codes "\"a\"")) ∷ (tok Operator 119 120 (codes "}")) ∷ (tok Operator 120 121 (codes ",")) ∷ (tok Operator 122 123 (codes "{")) ∷ (tok Str 123 127 (codes "\"bc\"")) ∷ (tok Operator 127 128 (codes "}")) ∷ (tok Operator 128 129 (codes "}")) ∷ (tok Inserted 129 129 (codes ";")) ∷ (tok Operator 142 143 (codes "}")) ∷ (tok Inserted 143 143 (codes ";")) ∷ (tok Keyword 145 149 (codes "func")) ∷ (tok Ident 150 154 (codes "main")) ∷ (tok Operator 154 155 (codes "(")) ∷ (tok Operator 155 156 (codes ")")) ∷ (tok Operator 157 158 (codes "{")) ∷ (tok Ident 160 164 (codes "rows")) ∷ (tok Operator 165 167 (codes ":=")) ∷ (tok Ident 168 172 (codes "load")) ∷ (tok Operator 172 173 (codes "(")) ∷ (tok Operator 173 174 (codes ")")) ∷ (tok Inserted 174 174 (codes ";")) ∷ (tok Keyword 176 179 (codes "for")) ∷ (tok Ident 180 181 (codes "i")) ∷ (tok Operator 182 184 (codes ":=")) ∷ (tok Integer 185 186 (codes "0")) ∷ (tok Operator 186 187 (codes ";")) ∷ (tok Ident 188 189 (codes "i")) ∷ (tok Operator 190 191 (codes "<")) ∷ (tok Integer 192 193 (codes "2")) ∷ (tok Operator 193 194 (codes ";")) ∷ (tok Ident 195 196 (codes "i")) ∷ (tok Operator 196 198 (codes "++")) ∷ (tok Operator 199 200 (codes "{")) ∷ (tok Ident 203 210 (codes "println")) ∷ (tok Operator 210 211 (codes "(")) ∷ (tok Ident 211 214 (codes "lib")) ∷ (tok Operator 214 215 (codes ".")) ∷ (tok Ident 215 222 (codes "PadLeft")) ∷ (tok Operator 222 223 (codes "(")) ∷ (tok Ident 223 227 (codes "rows")) ∷ (tok Operator 227 228 (codes "[")) ∷ (tok Ident 228 229 (codes "i")) ∷ (tok Operator 229 230 (codes "]")) ∷ (tok Operator 230 231 (codes ".")) ∷ (tok Ident 231 235 (codes "Body")) ∷ (tok Operator 235 236 (codes ",")) ∷ (tok Ident 237 241 (codes "text")) ∷ (tok Operator 241 242 (codes ".")) ∷ (tok Ident 242 246 (codes "Wide")) ∷ (tok Operator 246 247 (codes ")")) ∷ (tok Operator 247 248 (codes ")")) ∷ (tok Inserted 248 248 (codes ";")) ∷ (tok Operator 250 251 (codes "}")) ∷ (tok Inserted 251 251 (codes ";")) ∷ (tok Ident 253 256 (codes "lib")) ∷ (tok Operator 256 257 (codes ".")) ∷ (tok Ident 257 261 (codes "Show")) ∷ (tok Operator 261 262 (codes "(")) ∷ (tok Ident 262 266 (codes "rows")) ∷ (tok Operator 266 267 (codes ",")) ∷ (tok Integer 268 269 (codes "4")) ∷ (tok Operator 269 270 (codes ")")) ∷ (tok Inserted 270 270 (codes ";")) ∷ (tok Ident 272 279 (codes "println")) ∷ (tok Operator 279 280 (codes "(")) ∷ (tok Ident 280 283 (codes "lib")) ∷ (tok Operator 283 284 (codes ".")) ∷ (tok Ident 284 289 (codes "Total")) ∷ (tok Operator 289 290 (codes "(")) ∷ (tok Ident 290 294 (codes "rows")) ∷ (tok Operator 294 295 (codes ")")) ∷ (tok Operator 295 296 (codes ")")) ∷ (tok Inserted 296 296 (codes ";")) ∷ (tok Operator 297 298 (codes "}")) ∷ (tok Inserted 298 298 (codes ";")) ∷ [])) ≡ Some (library_5_f0, [])
unfolding reading
library_5_f0_read = refl

abbrev library_5 : Module
library_5 = record { packages = (pack (codes "example.com/lib/cmd") (codes "main") (source (codes "cmd/main.go") library_5_f0 ∷ []) ∷ pack (codes "example.com/lib") (codes "lib") (source (codes "lib.go") library_5_f1 ∷ []) ∷ pack (codes "example.com/lib/text") (codes "text") (source (codes "text/text.go") library_5_f2 ∷ []) ∷ []); marks = (mark 1 0 0 0 ∷ mark 1 0 1 0 ∷ mark 1 0 2 0 ∷ mark 1 0 3 0 ∷ []); texts = (((codes "cmd/main.go"), record { text = (codes "package main\n\nimport (\n\t\"example.com/lib\"\n\t\"example.com/lib/text\"\n)\n\nfunc load() []text.Line {\n\treturn []text.Line{{\"a\"}, {\"bc\"}} // two rows\n}\n\nfunc main() {\n\trows := load()\n\tfor i := 0; i < 2; i++ {\n\t\tprintln(lib.PadLeft(rows[i].Body, text.Wide))\n\t}\n\tlib.Show(rows, 4)\n\tprintln(lib.Total(rows))\n}\n"); tokens = ((tok Keyword 0 7 (codes "package")) ∷ (tok Ident 8 12 (codes "main")) ∷ (tok Inserted 12 12 (codes ";")) ∷ (tok Keyword 14 20 (codes "import")) ∷ (tok Operator 21 22 (codes "(")) ∷ (tok Str 24 41 (codes "\"example.com/lib\"")) ∷ (tok Inserted 41 41 (codes ";")) ∷ (tok Str 43 65 (codes "\"example.com/lib/text\"")) ∷ (tok Inserted 65 65 (codes ";")) ∷ (tok Operator 66 67 (codes ")")) ∷ (tok Inserted 67 67 (codes ";")) ∷ (tok Keyword 69 73 (codes "func")) ∷ (tok Ident 74 78 (codes "load")) ∷ (tok Operator 78 79 (codes "(")) ∷ (tok Operator 79 80 (codes ")")) ∷ (tok Operator 81 82 (codes "[")) ∷ (tok Operator 82 83 (codes "]")) ∷ (tok Ident 83 87 (codes "text")) ∷ (tok Operator 87 88 (codes ".")) ∷ (tok Ident 88 92 (codes "Line")) ∷ (tok Operator 93 94 (codes "{")) ∷ (tok Keyword 96 102 (codes "return")) ∷ (tok Operator 103 104 (codes "[")) ∷ (tok Operator 104 105 (codes "]")) ∷ (tok Ident 105 109 (codes "text")) ∷ (tok Operator 109 110 (codes ".")) ∷ (tok Ident 110 114 (codes "Line")) ∷ (tok Operator 114 115 (codes "{")) ∷ (tok Operator 115 116 (codes "{")) ∷ (tok Str 116 119 (codes "\"a\"")) ∷ (tok Operator 119 120 (codes "}")) ∷ (tok Operator 120 121 (codes ",")) ∷ (tok Operator 122 123 (codes "{")) ∷ (tok Str 123 127 (codes "\"bc\"")) ∷ (tok Operator 127 128 (codes "}")) ∷ (tok Operator 128 129 (codes "}")) ∷ (tok Inserted 129 129 (codes ";")) ∷ (tok Operator 142 143 (codes "}")) ∷ (tok Inserted 143 143 (codes ";")) ∷ (tok Keyword 145 149 (codes "func")) ∷ (tok Ident 150 154 (codes "main")) ∷ (tok Operator 154 155 (codes "(")) ∷ (tok Operator 155 156 (codes ")")) ∷ (tok Operator 157 158 (codes "{")) ∷ (tok Ident 160 164 (codes "rows")) ∷ (tok Operator 165 167 (codes ":=")) ∷ (tok Ident 168 172 (codes "load")) ∷ (tok Operator 172 173 (codes "(")) ∷ (tok Operator 173 174 (codes ")")) ∷ (tok Inserted 174 174 (codes ";")) ∷ (tok Keyword 176 179 (codes "for")) ∷ (tok Ident 180 181 (codes "i")) ∷ (tok Operator 182 184 (codes ":=")) ∷ (tok Integer 185 186 (codes "0")) ∷ (tok Operator 186 187 (codes ";")) ∷ (tok Ident 188 189 (codes "i")) ∷ (tok Operator 190 191 (codes "<")) ∷ (tok Integer 192 193 (codes "2")) ∷ (tok Operator 193 194 (codes ";")) ∷ (tok Ident 195 196 (codes "i")) ∷ (tok Operator 196 198 (codes "++")) ∷ (tok Operator 199 200 (codes "{")) ∷ (tok Ident 203 210 (codes "println")) ∷ (tok Operator 210 211 (codes "(")) ∷ (tok Ident 211 214 (codes "lib")) ∷ (tok Operator 214 215 (codes ".")) ∷ (tok Ident 215 222 (codes "PadLeft")) ∷ (tok Operator 222 223 (codes "(")) ∷ (tok Ident 223 227 (codes "rows")) ∷ (tok Operator 227 228 (codes "[")) ∷ (tok Ident 228 229 (codes "i")) ∷ (tok Operator 229 230 (codes "]")) ∷ (tok Operator 230 231 (codes ".")) ∷ (tok Ident 231 235 (codes "Body")) ∷ (tok Operator 235 236 (codes ",")) ∷ (tok Ident 237 241 (codes "text")) ∷ (tok Operator 241 242 (codes ".")) ∷ (tok Ident 242 246 (codes "Wide")) ∷ (tok Operator 246 247 (codes ")")) ∷ (tok Operator 247 248 (codes ")")) ∷ (tok Inserted 248 248 (codes ";")) ∷ (tok Operator 250 251 (codes "}")) ∷ (tok Inserted 251 251 (codes ";")) ∷ (tok Ident 253 256 (codes "lib")) ∷ (tok Operator 256 257 (codes ".")) ∷ (tok Ident 257 261 (codes "Show")) ∷ (tok Operator 261 262 (codes "(")) ∷ (tok Ident 262 266 (codes "rows")) ∷ (tok Operator 266 267 (codes ",")) ∷ (tok Integer 268 269 (codes "4")) ∷ (tok Operator 269 270 (codes ")")) ∷ (tok Inserted 270 270 (codes ";")) ∷ (tok Ident 272 279 (codes "println")) ∷ (tok Operator 279 280 (codes "(")) ∷ (tok Ident 280 283 (codes "lib")) ∷ (tok Operator 283 284 (codes ".")) ∷ (tok Ident 284 289 (codes "Total")) ∷ (tok Operator 289 290 (codes "(")) ∷ (tok Ident 290 294 (codes "rows")) ∷ (tok Operator 294 295 (codes ")")) ∷ (tok Operator 295 296 (codes ")")) ∷ (tok Inserted 296 296 (codes ";")) ∷ (tok Operator 297 298 (codes "}")) ∷ (tok Inserted 298 298 (codes ";")) ∷ []); comments = ((note 130 141) ∷ []) }) ∷ ((codes "lib.go"), record { text = (codes "// Package lib keeps the old names.\npackage lib\n\nimport \"example.com/lib/text\"\n\nconst (\n\t// Deprecated: use text.Wide.\n\t//go:fix inline\n\tMaxWidth = text.Wide\n\n\tlimit = 3\n)\n\n// Deprecated: use text.Line.\n//\n//go:fix inline\ntype Row = text.Line\n\n// Deprecated: use text.Pad.\n//\n//go:fix inline\nfunc PadLeft(s string, n int) string {\n\treturn text.Pad(s, n, true)\n}\n\n// Deprecated: use text.Put.\n//\n//go:fix inline\nfunc Show(rows []text.Line, width int) {\n\tfor _, r := range rows {\n\t\ttext.Put(r, width)\n\t}\n}\n\n// Total is kept.\nfunc Total(rows []text.Line) int {\n\tt := limit\n\tfor _, r := range rows {\n\t\tt += len(r.Body)\n\t}\n\treturn t\n}\n"); tokens = ((tok Keyword 36 43 (codes "package")) ∷ (tok Ident 44 47 (codes "lib")) ∷ (tok Inserted 47 47 (codes ";")) ∷ (tok Keyword 49 55 (codes "import")) ∷ (tok Str 56 78 (codes "\"example.com/lib/text\"")) ∷ (tok Inserted 78 78 (codes ";")) ∷ (tok Keyword 80 85 (codes "const")) ∷ (tok Operator 86 87 (codes "(")) ∷ (tok Ident 137 145 (codes "MaxWidth")) ∷ (tok Operator 146 147 (codes "=")) ∷ (tok Ident 148 152 (codes "text")) ∷ (tok Operator 152 153 (codes ".")) ∷ (tok Ident 153 157 (codes "Wide")) ∷ (tok Inserted 157 157 (codes ";")) ∷ (tok Ident 160 165 (codes "limit")) ∷ (tok Operator 166 167 (codes "=")) ∷ (tok Integer 168 169 (codes "3")) ∷ (tok Inserted 169 169 (codes ";")) ∷ (tok Operator 170 171 (codes ")")) ∷ (tok Inserted 171 171 (codes ";")) ∷ (tok Keyword 222 226 (codes "type")) ∷ (tok Ident 227 230 (codes "Row")) ∷ (tok Operator 231 232 (codes "=")) ∷ (tok Ident 233 237 (codes "text")) ∷ (tok Operator 237 238 (codes ".")) ∷ (tok Ident 238 242 (codes "Line")) ∷ (tok Inserted 242 242 (codes ";")) ∷ (tok Keyword 292 296 (codes "func")) ∷ (tok Ident 297 304 (codes "PadLeft")) ∷ (tok Operator 304 305 (codes "(")) ∷ (tok Ident 305 306 (codes "s")) ∷ (tok Ident 307 313 (codes "string")) ∷ (tok Operator 313 314 (codes ",")) ∷ (tok Ident 315 316 (codes "n")) ∷ (tok Ident 317 320 (codes "int")) ∷ (tok Operator 320 321 (codes ")")) ∷ (tok Ident 322 328 (codes "string")) ∷ (tok Operator 329 330 (codes "{")) ∷ (tok Keyword 332 338 (codes "return")) ∷ (tok Ident 339 343 (codes "text")) ∷ (tok Operator 343 344 (codes ".")) ∷ (tok Ident 344 347 (codes "Pad")) ∷ (tok Operator 347 348 (codes "(")) ∷ (tok Ident 348 349 (codes "s")) ∷ (tok Operator 349 350 (codes ",")) ∷ (tok Ident 351 352 (codes "n")) ∷ (tok Operator 352 353 (codes ",")) ∷ (tok Ident 354 358 (codes "true")) ∷ (tok Operator 358 359 (codes ")")) ∷ (tok Inserted 359 359 (codes ";")) ∷ (tok Operator 360 361 (codes "}")) ∷ (tok Inserted 361 361 (codes ";")) ∷ (tok Keyword 411 415 (codes "func")) ∷ (tok Ident 416 420 (codes "Show")) ∷ (tok Operator 420 421 (codes "(")) ∷ (tok Ident 421 425 (codes "rows")) ∷ (tok Operator 426 427 (codes "[")) ∷ (tok Operator 427 428 (codes "]")) ∷ (tok Ident 428 432 (codes "text")) ∷ (tok Operator 432 433 (codes ".")) ∷ (tok Ident 433 437 (codes "Line")) ∷ (tok Operator 437 438 (codes ",")) ∷ (tok Ident 439 444 (codes "width")) ∷ (tok Ident 445 448 (codes "int")) ∷ (tok Operator 448 449 (codes ")")) ∷ (tok Operator 450 451 (codes "{")) ∷ (tok Keyword 453 456 (codes "for")) ∷ (tok Ident 457 458 (codes "_")) ∷ (tok Operator 458 459 (codes ",")) ∷ (tok Ident 460 461 (codes "r")) ∷ (tok Operator 462 464 (codes ":=")) ∷ (tok Keyword 465 470 (codes "range")) ∷ (tok Ident 471 475 (codes "rows")) ∷ (tok Operator 476 477 (codes "{")) ∷ (tok Ident 480 484 (codes "text")) ∷ (tok Operator 484 485 (codes ".")) ∷ (tok Ident 485 488 (codes "Put")) ∷ (tok Operator 488 489 (codes "(")) ∷ (tok Ident 489 490 (codes "r")) ∷ (tok Operator 490 491 (codes ",")) ∷ (tok Ident 492 497 (codes "width")) ∷ (tok Operator 497 498 (codes ")")) ∷ (tok Inserted 498 498 (codes ";")) ∷ (tok Operator 500 501 (codes "}")) ∷ (tok Inserted 501 501 (codes ";")) ∷ (tok Operator 502 503 (codes "}")) ∷ (tok Inserted 503 503 (codes ";")) ∷ (tok Keyword 523 527 (codes "func")) ∷ (tok Ident 528 533 (codes "Total")) ∷ (tok Operator 533 534 (codes "(")) ∷ (tok Ident 534 538 (codes "rows")) ∷ (tok Operator 539 540 (codes "[")) ∷ (tok Operator 540 541 (codes "]")) ∷ (tok Ident 541 545 (codes "text")) ∷ (tok Operator 545 546 (codes ".")) ∷ (tok Ident 546 550 (codes "Line")) ∷ (tok Operator 550 551 (codes ")")) ∷ (tok Ident 552 555 (codes "int")) ∷ (tok Operator 556 557 (codes "{")) ∷ (tok Ident 559 560 (codes "t")) ∷ (tok Operator 561 563 (codes ":=")) ∷ (tok Ident 564 569 (codes "limit")) ∷ (tok Inserted 569 569 (codes ";")) ∷ (tok Keyword 571 574 (codes "for")) ∷ (tok Ident 575 576 (codes "_")) ∷ (tok Operator 576 577 (codes ",")) ∷ (tok Ident 578 579 (codes "r")) ∷ (tok Operator 580 582 (codes ":=")) ∷ (tok Keyword 583 588 (codes "range")) ∷ (tok Ident 589 593 (codes "rows")) ∷ (tok Operator 594 595 (codes "{")) ∷ (tok Ident 598 599 (codes "t")) ∷ (tok Operator 600 602 (codes "+=")) ∷ (tok Ident 603 606 (codes "len")) ∷ (tok Operator 606 607 (codes "(")) ∷ (tok Ident 607 608 (codes "r")) ∷ (tok Operator 608 609 (codes ".")) ∷ (tok Ident 609 613 (codes "Body")) ∷ (tok Operator 613 614 (codes ")")) ∷ (tok Inserted 614 614 (codes ";")) ∷ (tok Operator 616 617 (codes "}")) ∷ (tok Inserted 617 617 (codes ";")) ∷ (tok Keyword 619 625 (codes "return")) ∷ (tok Ident 626 627 (codes "t")) ∷ (tok Inserted 627 627 (codes ";")) ∷ (tok Operator 628 629 (codes "}")) ∷ (tok Inserted 629 629 (codes ";")) ∷ []); comments = ((note 0 35) ∷ (note 89 118) ∷ (note 120 135) ∷ (note 173 202) ∷ (note 203 205) ∷ (note 206 221) ∷ (note 244 272) ∷ (note 273 275) ∷ (note 276 291) ∷ (note 363 391) ∷ (note 392 394) ∷ (note 395 410) ∷ (note 505 522) ∷ []) }) ∷ ((codes "text/text.go"), record { text = (codes "package text\n\nconst Wide = 8\n\ntype Line struct {\n\tBody string\n}\n\nfunc Pad(s string, n int, left bool) string {\n\tfor len(s) < n {\n\t\tif left {\n\t\t\ts = \" \" + s\n\t\t} else {\n\t\t\ts += \" \"\n\t\t}\n\t}\n\treturn s\n}\n\nfunc Put(l Line, width int) {\n\tprintln(Pad(l.Body, width, false))\n}\n"); tokens = ((tok Keyword 0 7 (codes "package")) ∷ (tok Ident 8 12 (codes "text")) ∷ (tok Inserted 12 12 (codes ";")) ∷ (tok Keyword 14 19 (codes "const")) ∷ (tok Ident 20 24 (codes "Wide")) ∷ (tok Operator 25 26 (codes "=")) ∷ (tok Integer 27 28 (codes "8")) ∷ (tok Inserted 28 28 (codes ";")) ∷ (tok Keyword 30 34 (codes "type")) ∷ (tok Ident 35 39 (codes "Line")) ∷ (tok Keyword 40 46 (codes "struct")) ∷ (tok Operator 47 48 (codes "{")) ∷ (tok Ident 50 54 (codes "Body")) ∷ (tok Ident 55 61 (codes "string")) ∷ (tok Inserted 61 61 (codes ";")) ∷ (tok Operator 62 63 (codes "}")) ∷ (tok Inserted 63 63 (codes ";")) ∷ (tok Keyword 65 69 (codes "func")) ∷ (tok Ident 70 73 (codes "Pad")) ∷ (tok Operator 73 74 (codes "(")) ∷ (tok Ident 74 75 (codes "s")) ∷ (tok Ident 76 82 (codes "string")) ∷ (tok Operator 82 83 (codes ",")) ∷ (tok Ident 84 85 (codes "n")) ∷ (tok Ident 86 89 (codes "int")) ∷ (tok Operator 89 90 (codes ",")) ∷ (tok Ident 91 95 (codes "left")) ∷ (tok Ident 96 100 (codes "bool")) ∷ (tok Operator 100 101 (codes ")")) ∷ (tok Ident 102 108 (codes "string")) ∷ (tok Operator 109 110 (codes "{")) ∷ (tok Keyword 112 115 (codes "for")) ∷ (tok Ident 116 119 (codes "len")) ∷ (tok Operator 119 120 (codes "(")) ∷ (tok Ident 120 121 (codes "s")) ∷ (tok Operator 121 122 (codes ")")) ∷ (tok Operator 123 124 (codes "<")) ∷ (tok Ident 125 126 (codes "n")) ∷ (tok Operator 127 128 (codes "{")) ∷ (tok Keyword 131 133 (codes "if")) ∷ (tok Ident 134 138 (codes "left")) ∷ (tok Operator 139 140 (codes "{")) ∷ (tok Ident 144 145 (codes "s")) ∷ (tok Operator 146 147 (codes "=")) ∷ (tok Str 148 151 (codes "\" \"")) ∷ (tok Operator 152 153 (codes "+")) ∷ (tok Ident 154 155 (codes "s")) ∷ (tok Inserted 155 155 (codes ";")) ∷ (tok Operator 158 159 (codes "}")) ∷ (tok Keyword 160 164 (codes "else")) ∷ (tok Operator 165 166 (codes "{")) ∷ (tok Ident 170 171 (codes "s")) ∷ (tok Operator 172 174 (codes "+=")) ∷ (tok Str 175 178 (codes "\" \"")) ∷ (tok Inserted 178 178 (codes ";")) ∷ (tok Operator 181 182 (codes "}")) ∷ (tok Inserted 182 182 (codes ";")) ∷ (tok Operator 184 185 (codes "}")) ∷ (tok Inserted 185 185 (codes ";")) ∷ (tok Keyword 187 193 (codes "return")) ∷ (tok Ident 194 195 (codes "s")) ∷ (tok Inserted 195 195 (codes ";")) ∷ (tok Operator 196 197 (codes "}")) ∷ (tok Inserted 197 197 (codes ";")) ∷ (tok Keyword 199 203 (codes "func")) ∷ (tok Ident 204 207 (codes "Put")) ∷ (tok Operator 207 208 (codes "(")) ∷ (tok Ident 208 209 (codes "l")) ∷ (tok Ident 210 214 (codes "Line")) ∷ (tok Operator 214 215 (codes ",")) ∷ (tok Ident 216 221 (codes "width")) ∷ (tok Ident 222 225 (codes "int")) ∷ (tok Operator 225 226 (codes ")")) ∷ (tok Operator 227 228 (codes "{")) ∷ (tok Ident 230 237 (codes "println")) ∷ (tok Operator 237 238 (codes "(")) ∷ (tok Ident 238 241 (codes "Pad")) ∷ (tok Operator 241 242 (codes "(")) ∷ (tok Ident 242 243 (codes "l")) ∷ (tok Operator 243 244 (codes ".")) ∷ (tok Ident 244 248 (codes "Body")) ∷ (tok Operator 248 249 (codes ",")) ∷ (tok Ident 250 255 (codes "width")) ∷ (tok Operator 255 256 (codes ",")) ∷ (tok Ident 257 262 (codes "false")) ∷ (tok Operator 262 263 (codes ")")) ∷ (tok Operator 263 264 (codes ")")) ∷ (tok Inserted 264 264 (codes ";")) ∷ (tok Operator 265 266 (codes "}")) ∷ (tok Inserted 266 266 (codes ";")) ∷ []); comments = [] }) ∷ []) }

library_5_typed : is_typed library_5 ≡ true
library_5_typed = refl

library_5_step : first_change library_5 ≡ Some ((codes "cmd/main.go"), ExprForm, (codes "package main\n\nimport (\n\t\"example.com/lib\"\n\t\"example.com/lib/text\"\n)\n\nfunc load() []text.Line {\n\treturn []text.Line{{\"a\"}, {\"bc\"}} // two rows\n}\n\nfunc main() {\n\trows := load()\n\tfor i := 0; i < 2; i++ {\n\t\tprintln(text.Pad(rows[i].Body, text.Wide, true))\n\t}\n\tlib.Show(rows, 4)\n\tprintln(lib.Total(rows))\n}\n"))
unfolding passes keyword_spellings
library_5_step = refl

abbrev library_6_f0 : File Span
library_6_f0 = record { package_name = (nm 8 12 (codes "main")); imports = ((imps (at 14 67) true ((imp (at 24 41) None (codes "example.com/lib")) ∷ (imp (at 43 65) None (codes "example.com/lib/text")) ∷ [])) ∷ []); decls = ((fn (at 69 143) None (nm 74 78 (codes "load")) (sig [] ((param (at 81 92) None (slice_type (at 81 92) (named (at 83 92) (Some (nm 83 87 (codes "text"))) (nm 88 92 (codes "Line"))))) ∷ [])) (at 93 143) (stmt_and (return_ (at 96 129) (expr_and (composite (at 103 129) (slice_type (at 103 114) (named (at 105 114) (Some (nm 105 109 (codes "text"))) (nm 110 114 (codes "Line")))) (elem (at 115 120) no_value (braced (at 115 120) (elem (at 116 119) no_value (plain (str_lit (at 116 119) (codes "\"a\""))) no_elems)) (elem (at 122 128) no_value (braced (at 122 128) (elem (at 123 127) no_value (plain (str_lit (at 123 127) (codes "\"bc\""))) no_elems)) no_elems))) no_exprs)) no_stmts)) ∷ (fn (at 145 301) None (nm 150 154 (codes "main")) (sig [] []) (at 157 301) (stmt_and (define (at 160 174) ((nm 160 164 (codes "rows")) ∷ []) (expr_and (call (at 168 174) (ident (at 168 172) (codes "load")) no_exprs Plain) no_exprs)) (stmt_and (for_ (at 176 254) (some_stmt (define (at 180 186) ((nm 180 181 (codes "i")) ∷ []) (expr_and (int_lit (at 185 186) (codes "0")) no_exprs))) (some_expr (binary (at 188 193) Lt (ident (at 188 189) (codes "i")) (int_lit (at 192 193) (codes "2")))) (some_stmt (step (at 195 198) (ident (at 195 196) (codes "i")) true)) (at 199 254) (stmt_and (eval (at 203 251) (call (at 203 251) (ident (at 203 210) (codes "println")) (expr_and (call (at 211 250) (selector (at 211 219) (ident (at 211 215) (codes "text")) (nm 216 219 (codes "Pad"))) (expr_and (selector (at 220 232) (index (at 220 227) (ident (at 220 224) (codes "rows")) (ident (at 225 226) (codes "i"))) (nm 228 232 (codes "Body"))) (expr_and (selector (at 234 243) (ident (at 234 238) (codes "text")) (nm 239 243 (codes "Wide"))) (expr_and (ident (at 245 249) (codes "true")) no_exprs))) Plain) no_exprs) Plain)) no_stmts)) (stmt_and (eval (at 256 273) (call (at 256 273) (selector (at 256 264) (ident (at 256 259) (codes "lib")) (nm 260 264 (codes "Show"))) (expr_and (ident (at 265 269) (codes "rows")) (expr_and (int_lit (at 271 272) (codes "4")) no_exprs)) Plain)) (stmt_and (eval (at 275 299) (call (at 275 299) (ident (at 275 282) (codes "println")) (expr_and (call (at 283 298) (selector (at 283 292) (ident (at 283 286) (codes "lib")) (nm 287 292 (codes "Total"))) (expr_and (ident (at 293 297) (codes "rows")) no_exprs) Plain) no_exprs) Plain)) no_stmts))))) ∷ []) }

abbrev library_6_f1 : File Span
library_6_f1 = record { package_name = (nm 44 47 (codes "lib")); imports = ((imps (at 49 78) false ((imp (at 56 78) None (codes "example.com/lib/text")) ∷ [])) ∷ []); decls = ((values (const_decl (at 80 171) true (spec (at 137 157) ((nm 137 145 (codes "MaxWidth")) ∷ []) None (expr_and (selector (at 148 157) (ident (at 148 152) (codes "text")) (nm 153 157 (codes "Wide"))) no_exprs) (spec (at 160 169) ((nm 160 165 (codes "limit")) ∷ []) None (expr_and (int_lit (at 168 169) (codes "3")) no_exprs) no_specs)))) ∷ (types (at 222 242) false ((tspec (at 227 242) (nm 227 230 (codes "Row")) true (named (at 233 242) (Some (nm 233 237 (codes "text"))) (nm 238 242 (codes "Line")))) ∷ [])) ∷ (fn (at 292 361) None (nm 297 304 (codes "PadLeft")) (sig ((param (at 305 313) (Some (nm 305 306 (codes "s"))) (named (at 307 313) None (nm 307 313 (codes "string")))) ∷ (param (at 315 320) (Some (nm 315 316 (codes "n"))) (named (at 317 320) None (nm 317 320 (codes "int")))) ∷ []) ((param (at 322 328) None (named (at 322 328) None (nm 322 328 (codes "string")))) ∷ [])) (at 329 361) (stmt_and (return_ (at 332 359) (expr_and (call (at 339 359) (selector (at 339 347) (ident (at 339 343) (codes "text")) (nm 344 347 (codes "Pad"))) (expr_and (ident (at 348 349) (codes "s")) (expr_and (ident (at 351 352) (codes "n")) (expr_and (ident (at 354 358) (codes "true")) no_exprs))) Plain) no_exprs)) no_stmts)) ∷ (fn (at 411 503) None (nm 416 420 (codes "Show")) (sig ((param (at 421 437) (Some (nm 421 425 (codes "rows"))) (slice_type (at 426 437) (named (at 428 437) (Some (nm 428 432 (codes "text"))) (nm 433 437 (codes "Line"))))) ∷ (param (at 439 448) (Some (nm 439 444 (codes "width"))) (named (at 445 448) None (nm 445 448 (codes "int")))) ∷ []) []) (at 450 503) (stmt_and (range_ (at 453 501) (defines ((nm 457 458 (codes "_")) ∷ (nm 460 461 (codes "r")) ∷ [])) (ident (at 471 475) (codes "rows")) (at 476 501) (stmt_and (eval (at 480 498) (call (at 480 498) (selector (at 480 488) (ident (at 480 484) (codes "text")) (nm 485 488 (codes "Put"))) (expr_and (ident (at 489 490) (codes "r")) (expr_and (ident (at 492 497) (codes "width")) no_exprs)) Plain)) no_stmts)) no_stmts)) ∷ (fn (at 523 629) None (nm 528 533 (codes "Total")) (sig ((param (at 534 550) (Some (nm 534 538 (codes "rows"))) (slice_type (at 539 550) (named (at 541 550) (Some (nm 541 545 (codes "text"))) (nm 546 550 (codes "Line"))))) ∷ []) ((param (at 552 555) None (named (at 552 555) None (nm 552 555 (codes "int")))) ∷ [])) (at 556 629) (stmt_and (define (at 559 569) ((nm 559 560 (codes "t")) ∷ []) (expr_and (ident (at 564 569) (codes "limit")) no_exprs)) (stmt_and (range_ (at 571 617) (defines ((nm 575 576 (codes "_")) ∷ (nm 578 579 (codes "r")) ∷ [])) (ident (at 589 593) (codes "rows")) (at 594 617) (stmt_and (assign (at 598 614) (expr_and (ident (at 598 599) (codes "t")) no_exprs) (Some Add) (expr_and (call (at 603 614) (ident (at 603 606) (codes "len")) (expr_and (selector (at 607 613) (ident (at 607 608) (codes "r")) (nm 609 613 (codes "Body"))) no_exprs) Plain) no_exprs)) no_stmts)) (stmt_and (return_ (at 619 627) (expr_and (ident (at 626 627) (codes "t")) no_exprs)) no_stmts)))) ∷ []) }

abbrev library_6_f2 : File Span
library_6_f2 = record { package_name = (nm 8 12 (codes "text")); imports = []; decls = ((values (const_decl (at 14 28) false (spec (at 20 28) ((nm 20 24 (codes "Wide")) ∷ []) None (expr_and (int_lit (at 27 28) (codes "8")) no_exprs) no_specs))) ∷ (types (at 30 63) false ((tspec (at 35 63) (nm 35 39 (codes "Line")) false (struct_type (at 40 63) (field (at 50 61) (nm 50 54 (codes "Body")) (named (at 55 61) None (nm 55 61 (codes "string"))) no_fields))) ∷ [])) ∷ (fn (at 65 197) None (nm 70 73 (codes "Pad")) (sig ((param (at 74 82) (Some (nm 74 75 (codes "s"))) (named (at 76 82) None (nm 76 82 (codes "string")))) ∷ (param (at 84 89) (Some (nm 84 85 (codes "n"))) (named (at 86 89) None (nm 86 89 (codes "int")))) ∷ (param (at 91 100) (Some (nm 91 95 (codes "left"))) (named (at 96 100) None (nm 96 100 (codes "bool")))) ∷ []) ((param (at 102 108) None (named (at 102 108) None (nm 102 108 (codes "string")))) ∷ [])) (at 109 197) (stmt_and (for_ (at 112 185) no_stmt (some_expr (binary (at 116 126) Lt (call (at 116 122) (ident (at 116 119) (codes "len")) (expr_and (ident (at 120 121) (codes "s")) no_exprs) Plain) (ident (at 125 126) (codes "n")))) no_stmt (at 127 185) (stmt_and (if_ (at 131 182) (arm (at 131 159) no_stmt (ident (at 134 138) (codes "left")) (at 139 159) (stmt_and (assign (at 144 155) (expr_and (ident (at 144 145) (codes "s")) no_exprs) None (expr_and (binary (at 148 155) Add (str_lit (at 148 151) (codes "\" \"")) (ident (at 154 155) (codes "s"))) no_exprs)) no_stmts) no_arms) (some_block (at 165 182) (stmt_and (assign (at 170 178) (expr_and (ident (at 170 171) (codes "s")) no_exprs) (Some Add) (expr_and (str_lit (at 175 178) (codes "\" \"")) no_exprs)) no_stmts))) no_stmts)) (stmt_and (return_ (at 187 195) (expr_and (ident (at 194 195) (codes "s")) no_exprs)) no_stmts))) ∷ (fn (at 199 266) None (nm 204 207 (codes "Put")) (sig ((param (at 208 214) (Some (nm 208 209 (codes "l"))) (named (at 210 214) None (nm 210 214 (codes "Line")))) ∷ (param (at 216 225) (Some (nm 216 221 (codes "width"))) (named (at 222 225) None (nm 222 225 (codes "int")))) ∷ []) []) (at 227 266) (stmt_and (eval (at 230 264) (call (at 230 264) (ident (at 230 237) (codes "println")) (expr_and (call (at 238 263) (ident (at 238 241) (codes "Pad")) (expr_and (selector (at 242 248) (ident (at 242 243) (codes "l")) (nm 244 248 (codes "Body"))) (expr_and (ident (at 250 255) (codes "width")) (expr_and (ident (at 257 262) (codes "false")) no_exprs))) Plain) no_exprs) Plain)) no_stmts)) ∷ []) }

library_6_f0_read : read_at span_to read_front (lexemes ((tok Keyword 0 7 (codes "package")) ∷ (tok Ident 8 12 (codes "main")) ∷ (tok Inserted 12 12 (codes ";")) ∷ (tok Keyword 14 20 (codes "import")) ∷ (tok Operator 21 22 (codes "(")) ∷ (tok Str 24 41 (codes "\"example.com/lib\"")) ∷ (tok Inserted 41 41 (codes ";")) ∷ (tok Str 43 65 (codes "\"example.com/lib/text\"")) ∷ (tok Inserted 65 65 (codes ";")) ∷ (tok Operator 66 67 (codes ")")) ∷ (tok Inserted 67 67 (codes ";")) ∷ (tok Keyword 69 73 (codes "func")) ∷ (tok Ident 74 78 (codes "load")) ∷ (tok Operator 78 79 (codes "(")) ∷ (tok Operator 79 80 (codes ")")) ∷ (tok Operator 81 82 (codes "[")) ∷ (tok Operator 82 83 (codes "]")) ∷ (tok Ident 83 87 (codes "text")) ∷ (tok Operator 87 88 (codes ".")) ∷ (tok Ident 88 92 (codes "Line")) ∷ (tok Operator 93 94 (codes "{")) ∷ (tok Keyword 96 102 (codes "return")) ∷ (tok Operator 103 104 (codes "[")) ∷ (tok Operator 104 105 (codes "]")) ∷ (tok Ident 105 109 (codes "text")) ∷ (tok Operator 109 110 (codes ".")) ∷ (tok Ident 110 114 (codes "Line")) ∷ (tok Operator 114 115 (codes "{")) ∷ (tok Operator 115 116 (codes "{")) ∷ (tok Str 116 119 (codes "\"a\"")) ∷ (tok Operator 119 120 (codes "}")) ∷ (tok Operator 120 121 (codes ",")) ∷ (tok Operator 122 123 (codes "{")) ∷ (tok Str 123 127 (codes "\"bc\"")) ∷ (tok Operator 127 128 (codes "}")) ∷ (tok Operator 128 129 (codes "}")) ∷ (tok Inserted 129 129 (codes ";")) ∷ (tok Operator 142 143 (codes "}")) ∷ (tok Inserted 143 143 (codes ";")) ∷ (tok Keyword 145 149 (codes "func")) ∷ (tok Ident 150 154 (codes "main")) ∷ (tok Operator 154 155 (codes "(")) ∷ (tok Operator 155 156 (codes ")")) ∷ (tok Operator 157 158 (codes "{")) ∷ (tok Ident 160 164 (codes "rows")) ∷ (tok Operator 165 167 (codes ":=")) ∷ (tok Ident 168 172 (codes "load")) ∷ (tok Operator 172 173 (codes "(")) ∷ (tok Operator 173 174 (codes ")")) ∷ (tok Inserted 174 174 (codes ";")) ∷ (tok Keyword 176 179 (codes "for")) ∷ (tok Ident 180 181 (codes "i")) ∷ (tok Operator 182 184 (codes ":=")) ∷ (tok Integer 185 186 (codes "0")) ∷ (tok Operator 186 187 (codes ";")) ∷ (tok Ident 188 189 (codes "i")) ∷ (tok Operator 190 191 (codes "<")) ∷ (tok Integer 192 193 (codes "2")) ∷ (tok Operator 193 194 (codes ";")) ∷ (tok Ident 195 196 (codes "i")) ∷ (tok Operator 196 198 (codes "++")) ∷ (tok Operator 199 200 (codes "{")) ∷ (tok Ident 203 210 (codes "println")) ∷ (tok Operator 210 211 (codes "(")) ∷ (tok Ident 211 215 (codes "text")) ∷ (tok Operator 215 216 (codes ".")) ∷ (tok Ident 216 219 (codes "Pad")) ∷ (tok Operator 219 220 (codes "(")) ∷ (tok Ident 220 224 (codes "rows")) ∷ (tok Operator 224 225 (codes "[")) ∷ (tok Ident 225 226 (codes "i")) ∷ (tok Operator 226 227 (codes "]")) ∷ (tok Operator 227 228 (codes ".")) ∷ (tok Ident 228 232 (codes "Body")) ∷ (tok Operator 232 233 (codes ",")) ∷ (tok Ident 234 238 (codes "text")) ∷ (tok Operator 238 239 (codes ".")) ∷ (tok Ident 239 243 (codes "Wide")) ∷ (tok Operator 243 244 (codes ",")) ∷ (tok Ident 245 249 (codes "true")) ∷ (tok Operator 249 250 (codes ")")) ∷ (tok Operator 250 251 (codes ")")) ∷ (tok Inserted 251 251 (codes ";")) ∷ (tok Operator 253 254 (codes "}")) ∷ (tok Inserted 254 254 (codes ";")) ∷ (tok Ident 256 259 (codes "lib")) ∷ (tok Operator 259 260 (codes ".")) ∷ (tok Ident 260 264 (codes "Show")) ∷ (tok Operator 264 265 (codes "(")) ∷ (tok Ident 265 269 (codes "rows")) ∷ (tok Operator 269 270 (codes ",")) ∷ (tok Integer 271 272 (codes "4")) ∷ (tok Operator 272 273 (codes ")")) ∷ (tok Inserted 273 273 (codes ";")) ∷ (tok Ident 275 282 (codes "println")) ∷ (tok Operator 282 283 (codes "(")) ∷ (tok Ident 283 286 (codes "lib")) ∷ (tok Operator 286 287 (codes ".")) ∷ (tok Ident 287 292 (codes "Total")) ∷ (tok Operator 292 293 (codes "(")) ∷ (tok Ident 293 297 (codes "rows")) ∷ (tok Operator 297 298 (codes ")")) ∷ (tok Operator 298 299 (codes ")")) ∷ (tok Inserted 299 299 (codes ";")) ∷ (tok Operator 300 301 (codes "}")) ∷ (tok Inserted 301 301 (codes ";")) ∷ [])) ≡ Some (library_6_f0, [])
unfolding reading
library_6_f0_read = refl

abbrev library_6 : Module
library_6 = record { packages = (pack (codes "example.com/lib/cmd") (codes "main") (source (codes "cmd/main.go") library_6_f0 ∷ []) ∷ pack (codes "example.com/lib") (codes "lib") (source (codes "lib.go") library_6_f1 ∷ []) ∷ pack (codes "example.com/lib/text") (codes "text") (source (codes "text/text.go") library_6_f2 ∷ []) ∷ []); marks = (mark 1 0 0 0 ∷ mark 1 0 1 0 ∷ mark 1 0 2 0 ∷ mark 1 0 3 0 ∷ []); texts = (((codes "cmd/main.go"), record { text = (codes "package main\n\nimport (\n\t\"example.com/lib\"\n\t\"example.com/lib/text\"\n)\n\nfunc load() []text.Line {\n\treturn []text.Line{{\"a\"}, {\"bc\"}} // two rows\n}\n\nfunc main() {\n\trows := load()\n\tfor i := 0; i < 2; i++ {\n\t\tprintln(text.Pad(rows[i].Body, text.Wide, true))\n\t}\n\tlib.Show(rows, 4)\n\tprintln(lib.Total(rows))\n}\n"); tokens = ((tok Keyword 0 7 (codes "package")) ∷ (tok Ident 8 12 (codes "main")) ∷ (tok Inserted 12 12 (codes ";")) ∷ (tok Keyword 14 20 (codes "import")) ∷ (tok Operator 21 22 (codes "(")) ∷ (tok Str 24 41 (codes "\"example.com/lib\"")) ∷ (tok Inserted 41 41 (codes ";")) ∷ (tok Str 43 65 (codes "\"example.com/lib/text\"")) ∷ (tok Inserted 65 65 (codes ";")) ∷ (tok Operator 66 67 (codes ")")) ∷ (tok Inserted 67 67 (codes ";")) ∷ (tok Keyword 69 73 (codes "func")) ∷ (tok Ident 74 78 (codes "load")) ∷ (tok Operator 78 79 (codes "(")) ∷ (tok Operator 79 80 (codes ")")) ∷ (tok Operator 81 82 (codes "[")) ∷ (tok Operator 82 83 (codes "]")) ∷ (tok Ident 83 87 (codes "text")) ∷ (tok Operator 87 88 (codes ".")) ∷ (tok Ident 88 92 (codes "Line")) ∷ (tok Operator 93 94 (codes "{")) ∷ (tok Keyword 96 102 (codes "return")) ∷ (tok Operator 103 104 (codes "[")) ∷ (tok Operator 104 105 (codes "]")) ∷ (tok Ident 105 109 (codes "text")) ∷ (tok Operator 109 110 (codes ".")) ∷ (tok Ident 110 114 (codes "Line")) ∷ (tok Operator 114 115 (codes "{")) ∷ (tok Operator 115 116 (codes "{")) ∷ (tok Str 116 119 (codes "\"a\"")) ∷ (tok Operator 119 120 (codes "}")) ∷ (tok Operator 120 121 (codes ",")) ∷ (tok Operator 122 123 (codes "{")) ∷ (tok Str 123 127 (codes "\"bc\"")) ∷ (tok Operator 127 128 (codes "}")) ∷ (tok Operator 128 129 (codes "}")) ∷ (tok Inserted 129 129 (codes ";")) ∷ (tok Operator 142 143 (codes "}")) ∷ (tok Inserted 143 143 (codes ";")) ∷ (tok Keyword 145 149 (codes "func")) ∷ (tok Ident 150 154 (codes "main")) ∷ (tok Operator 154 155 (codes "(")) ∷ (tok Operator 155 156 (codes ")")) ∷ (tok Operator 157 158 (codes "{")) ∷ (tok Ident 160 164 (codes "rows")) ∷ (tok Operator 165 167 (codes ":=")) ∷ (tok Ident 168 172 (codes "load")) ∷ (tok Operator 172 173 (codes "(")) ∷ (tok Operator 173 174 (codes ")")) ∷ (tok Inserted 174 174 (codes ";")) ∷ (tok Keyword 176 179 (codes "for")) ∷ (tok Ident 180 181 (codes "i")) ∷ (tok Operator 182 184 (codes ":=")) ∷ (tok Integer 185 186 (codes "0")) ∷ (tok Operator 186 187 (codes ";")) ∷ (tok Ident 188 189 (codes "i")) ∷ (tok Operator 190 191 (codes "<")) ∷ (tok Integer 192 193 (codes "2")) ∷ (tok Operator 193 194 (codes ";")) ∷ (tok Ident 195 196 (codes "i")) ∷ (tok Operator 196 198 (codes "++")) ∷ (tok Operator 199 200 (codes "{")) ∷ (tok Ident 203 210 (codes "println")) ∷ (tok Operator 210 211 (codes "(")) ∷ (tok Ident 211 215 (codes "text")) ∷ (tok Operator 215 216 (codes ".")) ∷ (tok Ident 216 219 (codes "Pad")) ∷ (tok Operator 219 220 (codes "(")) ∷ (tok Ident 220 224 (codes "rows")) ∷ (tok Operator 224 225 (codes "[")) ∷ (tok Ident 225 226 (codes "i")) ∷ (tok Operator 226 227 (codes "]")) ∷ (tok Operator 227 228 (codes ".")) ∷ (tok Ident 228 232 (codes "Body")) ∷ (tok Operator 232 233 (codes ",")) ∷ (tok Ident 234 238 (codes "text")) ∷ (tok Operator 238 239 (codes ".")) ∷ (tok Ident 239 243 (codes "Wide")) ∷ (tok Operator 243 244 (codes ",")) ∷ (tok Ident 245 249 (codes "true")) ∷ (tok Operator 249 250 (codes ")")) ∷ (tok Operator 250 251 (codes ")")) ∷ (tok Inserted 251 251 (codes ";")) ∷ (tok Operator 253 254 (codes "}")) ∷ (tok Inserted 254 254 (codes ";")) ∷ (tok Ident 256 259 (codes "lib")) ∷ (tok Operator 259 260 (codes ".")) ∷ (tok Ident 260 264 (codes "Show")) ∷ (tok Operator 264 265 (codes "(")) ∷ (tok Ident 265 269 (codes "rows")) ∷ (tok Operator 269 270 (codes ",")) ∷ (tok Integer 271 272 (codes "4")) ∷ (tok Operator 272 273 (codes ")")) ∷ (tok Inserted 273 273 (codes ";")) ∷ (tok Ident 275 282 (codes "println")) ∷ (tok Operator 282 283 (codes "(")) ∷ (tok Ident 283 286 (codes "lib")) ∷ (tok Operator 286 287 (codes ".")) ∷ (tok Ident 287 292 (codes "Total")) ∷ (tok Operator 292 293 (codes "(")) ∷ (tok Ident 293 297 (codes "rows")) ∷ (tok Operator 297 298 (codes ")")) ∷ (tok Operator 298 299 (codes ")")) ∷ (tok Inserted 299 299 (codes ";")) ∷ (tok Operator 300 301 (codes "}")) ∷ (tok Inserted 301 301 (codes ";")) ∷ []); comments = ((note 130 141) ∷ []) }) ∷ ((codes "lib.go"), record { text = (codes "// Package lib keeps the old names.\npackage lib\n\nimport \"example.com/lib/text\"\n\nconst (\n\t// Deprecated: use text.Wide.\n\t//go:fix inline\n\tMaxWidth = text.Wide\n\n\tlimit = 3\n)\n\n// Deprecated: use text.Line.\n//\n//go:fix inline\ntype Row = text.Line\n\n// Deprecated: use text.Pad.\n//\n//go:fix inline\nfunc PadLeft(s string, n int) string {\n\treturn text.Pad(s, n, true)\n}\n\n// Deprecated: use text.Put.\n//\n//go:fix inline\nfunc Show(rows []text.Line, width int) {\n\tfor _, r := range rows {\n\t\ttext.Put(r, width)\n\t}\n}\n\n// Total is kept.\nfunc Total(rows []text.Line) int {\n\tt := limit\n\tfor _, r := range rows {\n\t\tt += len(r.Body)\n\t}\n\treturn t\n}\n"); tokens = ((tok Keyword 36 43 (codes "package")) ∷ (tok Ident 44 47 (codes "lib")) ∷ (tok Inserted 47 47 (codes ";")) ∷ (tok Keyword 49 55 (codes "import")) ∷ (tok Str 56 78 (codes "\"example.com/lib/text\"")) ∷ (tok Inserted 78 78 (codes ";")) ∷ (tok Keyword 80 85 (codes "const")) ∷ (tok Operator 86 87 (codes "(")) ∷ (tok Ident 137 145 (codes "MaxWidth")) ∷ (tok Operator 146 147 (codes "=")) ∷ (tok Ident 148 152 (codes "text")) ∷ (tok Operator 152 153 (codes ".")) ∷ (tok Ident 153 157 (codes "Wide")) ∷ (tok Inserted 157 157 (codes ";")) ∷ (tok Ident 160 165 (codes "limit")) ∷ (tok Operator 166 167 (codes "=")) ∷ (tok Integer 168 169 (codes "3")) ∷ (tok Inserted 169 169 (codes ";")) ∷ (tok Operator 170 171 (codes ")")) ∷ (tok Inserted 171 171 (codes ";")) ∷ (tok Keyword 222 226 (codes "type")) ∷ (tok Ident 227 230 (codes "Row")) ∷ (tok Operator 231 232 (codes "=")) ∷ (tok Ident 233 237 (codes "text")) ∷ (tok Operator 237 238 (codes ".")) ∷ (tok Ident 238 242 (codes "Line")) ∷ (tok Inserted 242 242 (codes ";")) ∷ (tok Keyword 292 296 (codes "func")) ∷ (tok Ident 297 304 (codes "PadLeft")) ∷ (tok Operator 304 305 (codes "(")) ∷ (tok Ident 305 306 (codes "s")) ∷ (tok Ident 307 313 (codes "string")) ∷ (tok Operator 313 314 (codes ",")) ∷ (tok Ident 315 316 (codes "n")) ∷ (tok Ident 317 320 (codes "int")) ∷ (tok Operator 320 321 (codes ")")) ∷ (tok Ident 322 328 (codes "string")) ∷ (tok Operator 329 330 (codes "{")) ∷ (tok Keyword 332 338 (codes "return")) ∷ (tok Ident 339 343 (codes "text")) ∷ (tok Operator 343 344 (codes ".")) ∷ (tok Ident 344 347 (codes "Pad")) ∷ (tok Operator 347 348 (codes "(")) ∷ (tok Ident 348 349 (codes "s")) ∷ (tok Operator 349 350 (codes ",")) ∷ (tok Ident 351 352 (codes "n")) ∷ (tok Operator 352 353 (codes ",")) ∷ (tok Ident 354 358 (codes "true")) ∷ (tok Operator 358 359 (codes ")")) ∷ (tok Inserted 359 359 (codes ";")) ∷ (tok Operator 360 361 (codes "}")) ∷ (tok Inserted 361 361 (codes ";")) ∷ (tok Keyword 411 415 (codes "func")) ∷ (tok Ident 416 420 (codes "Show")) ∷ (tok Operator 420 421 (codes "(")) ∷ (tok Ident 421 425 (codes "rows")) ∷ (tok Operator 426 427 (codes "[")) ∷ (tok Operator 427 428 (codes "]")) ∷ (tok Ident 428 432 (codes "text")) ∷ (tok Operator 432 433 (codes ".")) ∷ (tok Ident 433 437 (codes "Line")) ∷ (tok Operator 437 438 (codes ",")) ∷ (tok Ident 439 444 (codes "width")) ∷ (tok Ident 445 448 (codes "int")) ∷ (tok Operator 448 449 (codes ")")) ∷ (tok Operator 450 451 (codes "{")) ∷ (tok Keyword 453 456 (codes "for")) ∷ (tok Ident 457 458 (codes "_")) ∷ (tok Operator 458 459 (codes ",")) ∷ (tok Ident 460 461 (codes "r")) ∷ (tok Operator 462 464 (codes ":=")) ∷ (tok Keyword 465 470 (codes "range")) ∷ (tok Ident 471 475 (codes "rows")) ∷ (tok Operator 476 477 (codes "{")) ∷ (tok Ident 480 484 (codes "text")) ∷ (tok Operator 484 485 (codes ".")) ∷ (tok Ident 485 488 (codes "Put")) ∷ (tok Operator 488 489 (codes "(")) ∷ (tok Ident 489 490 (codes "r")) ∷ (tok Operator 490 491 (codes ",")) ∷ (tok Ident 492 497 (codes "width")) ∷ (tok Operator 497 498 (codes ")")) ∷ (tok Inserted 498 498 (codes ";")) ∷ (tok Operator 500 501 (codes "}")) ∷ (tok Inserted 501 501 (codes ";")) ∷ (tok Operator 502 503 (codes "}")) ∷ (tok Inserted 503 503 (codes ";")) ∷ (tok Keyword 523 527 (codes "func")) ∷ (tok Ident 528 533 (codes "Total")) ∷ (tok Operator 533 534 (codes "(")) ∷ (tok Ident 534 538 (codes "rows")) ∷ (tok Operator 539 540 (codes "[")) ∷ (tok Operator 540 541 (codes "]")) ∷ (tok Ident 541 545 (codes "text")) ∷ (tok Operator 545 546 (codes ".")) ∷ (tok Ident 546 550 (codes "Line")) ∷ (tok Operator 550 551 (codes ")")) ∷ (tok Ident 552 555 (codes "int")) ∷ (tok Operator 556 557 (codes "{")) ∷ (tok Ident 559 560 (codes "t")) ∷ (tok Operator 561 563 (codes ":=")) ∷ (tok Ident 564 569 (codes "limit")) ∷ (tok Inserted 569 569 (codes ";")) ∷ (tok Keyword 571 574 (codes "for")) ∷ (tok Ident 575 576 (codes "_")) ∷ (tok Operator 576 577 (codes ",")) ∷ (tok Ident 578 579 (codes "r")) ∷ (tok Operator 580 582 (codes ":=")) ∷ (tok Keyword 583 588 (codes "range")) ∷ (tok Ident 589 593 (codes "rows")) ∷ (tok Operator 594 595 (codes "{")) ∷ (tok Ident 598 599 (codes "t")) ∷ (tok Operator 600 602 (codes "+=")) ∷ (tok Ident 603 606 (codes "len")) ∷ (tok Operator 606 607 (codes "(")) ∷ (tok Ident 607 608 (codes "r")) ∷ (tok Operator 608 609 (codes ".")) ∷ (tok Ident 609 613 (codes "Body")) ∷ (tok Operator 613 614 (codes ")")) ∷ (tok Inserted 614 614 (codes ";")) ∷ (tok Operator 616 617 (codes "}")) ∷ (tok Inserted 617 617 (codes ";")) ∷ (tok Keyword 619 625 (codes "return")) ∷ (tok Ident 626 627 (codes "t")) ∷ (tok Inserted 627 627 (codes ";")) ∷ (tok Operator 628 629 (codes "}")) ∷ (tok Inserted 629 629 (codes ";")) ∷ []); comments = ((note 0 35) ∷ (note 89 118) ∷ (note 120 135) ∷ (note 173 202) ∷ (note 203 205) ∷ (note 206 221) ∷ (note 244 272) ∷ (note 273 275) ∷ (note 276 291) ∷ (note 363 391) ∷ (note 392 394) ∷ (note 395 410) ∷ (note 505 522) ∷ []) }) ∷ ((codes "text/text.go"), record { text = (codes "package text\n\nconst Wide = 8\n\ntype Line struct {\n\tBody string\n}\n\nfunc Pad(s string, n int, left bool) string {\n\tfor len(s) < n {\n\t\tif left {\n\t\t\ts = \" \" + s\n\t\t} else {\n\t\t\ts += \" \"\n\t\t}\n\t}\n\treturn s\n}\n\nfunc Put(l Line, width int) {\n\tprintln(Pad(l.Body, width, false))\n}\n"); tokens = ((tok Keyword 0 7 (codes "package")) ∷ (tok Ident 8 12 (codes "text")) ∷ (tok Inserted 12 12 (codes ";")) ∷ (tok Keyword 14 19 (codes "const")) ∷ (tok Ident 20 24 (codes "Wide")) ∷ (tok Operator 25 26 (codes "=")) ∷ (tok Integer 27 28 (codes "8")) ∷ (tok Inserted 28 28 (codes ";")) ∷ (tok Keyword 30 34 (codes "type")) ∷ (tok Ident 35 39 (codes "Line")) ∷ (tok Keyword 40 46 (codes "struct")) ∷ (tok Operator 47 48 (codes "{")) ∷ (tok Ident 50 54 (codes "Body")) ∷ (tok Ident 55 61 (codes "string")) ∷ (tok Inserted 61 61 (codes ";")) ∷ (tok Operator 62 63 (codes "}")) ∷ (tok Inserted 63 63 (codes ";")) ∷ (tok Keyword 65 69 (codes "func")) ∷ (tok Ident 70 73 (codes "Pad")) ∷ (tok Operator 73 74 (codes "(")) ∷ (tok Ident 74 75 (codes "s")) ∷ (tok Ident 76 82 (codes "string")) ∷ (tok Operator 82 83 (codes ",")) ∷ (tok Ident 84 85 (codes "n")) ∷ (tok Ident 86 89 (codes "int")) ∷ (tok Operator 89 90 (codes ",")) ∷ (tok Ident 91 95 (codes "left")) ∷ (tok Ident 96 100 (codes "bool")) ∷ (tok Operator 100 101 (codes ")")) ∷ (tok Ident 102 108 (codes "string")) ∷ (tok Operator 109 110 (codes "{")) ∷ (tok Keyword 112 115 (codes "for")) ∷ (tok Ident 116 119 (codes "len")) ∷ (tok Operator 119 120 (codes "(")) ∷ (tok Ident 120 121 (codes "s")) ∷ (tok Operator 121 122 (codes ")")) ∷ (tok Operator 123 124 (codes "<")) ∷ (tok Ident 125 126 (codes "n")) ∷ (tok Operator 127 128 (codes "{")) ∷ (tok Keyword 131 133 (codes "if")) ∷ (tok Ident 134 138 (codes "left")) ∷ (tok Operator 139 140 (codes "{")) ∷ (tok Ident 144 145 (codes "s")) ∷ (tok Operator 146 147 (codes "=")) ∷ (tok Str 148 151 (codes "\" \"")) ∷ (tok Operator 152 153 (codes "+")) ∷ (tok Ident 154 155 (codes "s")) ∷ (tok Inserted 155 155 (codes ";")) ∷ (tok Operator 158 159 (codes "}")) ∷ (tok Keyword 160 164 (codes "else")) ∷ (tok Operator 165 166 (codes "{")) ∷ (tok Ident 170 171 (codes "s")) ∷ (tok Operator 172 174 (codes "+=")) ∷ (tok Str 175 178 (codes "\" \"")) ∷ (tok Inserted 178 178 (codes ";")) ∷ (tok Operator 181 182 (codes "}")) ∷ (tok Inserted 182 182 (codes ";")) ∷ (tok Operator 184 185 (codes "}")) ∷ (tok Inserted 185 185 (codes ";")) ∷ (tok Keyword 187 193 (codes "return")) ∷ (tok Ident 194 195 (codes "s")) ∷ (tok Inserted 195 195 (codes ";")) ∷ (tok Operator 196 197 (codes "}")) ∷ (tok Inserted 197 197 (codes ";")) ∷ (tok Keyword 199 203 (codes "func")) ∷ (tok Ident 204 207 (codes "Put")) ∷ (tok Operator 207 208 (codes "(")) ∷ (tok Ident 208 209 (codes "l")) ∷ (tok Ident 210 214 (codes "Line")) ∷ (tok Operator 214 215 (codes ",")) ∷ (tok Ident 216 221 (codes "width")) ∷ (tok Ident 222 225 (codes "int")) ∷ (tok Operator 225 226 (codes ")")) ∷ (tok Operator 227 228 (codes "{")) ∷ (tok Ident 230 237 (codes "println")) ∷ (tok Operator 237 238 (codes "(")) ∷ (tok Ident 238 241 (codes "Pad")) ∷ (tok Operator 241 242 (codes "(")) ∷ (tok Ident 242 243 (codes "l")) ∷ (tok Operator 243 244 (codes ".")) ∷ (tok Ident 244 248 (codes "Body")) ∷ (tok Operator 248 249 (codes ",")) ∷ (tok Ident 250 255 (codes "width")) ∷ (tok Operator 255 256 (codes ",")) ∷ (tok Ident 257 262 (codes "false")) ∷ (tok Operator 262 263 (codes ")")) ∷ (tok Operator 263 264 (codes ")")) ∷ (tok Inserted 264 264 (codes ";")) ∷ (tok Operator 265 266 (codes "}")) ∷ (tok Inserted 266 266 (codes ";")) ∷ []); comments = [] }) ∷ []) }

library_6_typed : is_typed library_6 ≡ true
library_6_typed = refl

library_6_step : first_change library_6 ≡ Some ((codes "cmd/main.go"), BlockForm, (codes "package main\n\nimport (\n\t\"example.com/lib\"\n\t\"example.com/lib/text\"\n)\n\nfunc load() []text.Line {\n\treturn []text.Line{{\"a\"}, {\"bc\"}} // two rows\n}\n\nfunc main() {\n\trows := load()\n\tfor i := 0; i < 2; i++ {\n\t\tprintln(text.Pad(rows[i].Body, text.Wide, true))\n\t}\n\t{\n\t\tfor _, r := range rows {\n\t\t\ttext.Put(r, 4)\n\t\t}\n\t}\n\tprintln(lib.Total(rows))\n}\n"))
unfolding passes keyword_spellings
library_6_step = refl

abbrev library_7_f0 : File Span
library_7_f0 = record { package_name = (nm 8 12 (codes "main")); imports = ((imps (at 14 67) true ((imp (at 24 41) None (codes "example.com/lib")) ∷ (imp (at 43 65) None (codes "example.com/lib/text")) ∷ [])) ∷ []); decls = ((fn (at 69 143) None (nm 74 78 (codes "load")) (sig [] ((param (at 81 92) None (slice_type (at 81 92) (named (at 83 92) (Some (nm 83 87 (codes "text"))) (nm 88 92 (codes "Line"))))) ∷ [])) (at 93 143) (stmt_and (return_ (at 96 129) (expr_and (composite (at 103 129) (slice_type (at 103 114) (named (at 105 114) (Some (nm 105 109 (codes "text"))) (nm 110 114 (codes "Line")))) (elem (at 115 120) no_value (braced (at 115 120) (elem (at 116 119) no_value (plain (str_lit (at 116 119) (codes "\"a\""))) no_elems)) (elem (at 122 128) no_value (braced (at 122 128) (elem (at 123 127) no_value (plain (str_lit (at 123 127) (codes "\"bc\""))) no_elems)) no_elems))) no_exprs)) no_stmts)) ∷ (fn (at 145 337) None (nm 150 154 (codes "main")) (sig [] []) (at 157 337) (stmt_and (define (at 160 174) ((nm 160 164 (codes "rows")) ∷ []) (expr_and (call (at 168 174) (ident (at 168 172) (codes "load")) no_exprs Plain) no_exprs)) (stmt_and (for_ (at 176 254) (some_stmt (define (at 180 186) ((nm 180 181 (codes "i")) ∷ []) (expr_and (int_lit (at 185 186) (codes "0")) no_exprs))) (some_expr (binary (at 188 193) Lt (ident (at 188 189) (codes "i")) (int_lit (at 192 193) (codes "2")))) (some_stmt (step (at 195 198) (ident (at 195 196) (codes "i")) true)) (at 199 254) (stmt_and (eval (at 203 251) (call (at 203 251) (ident (at 203 210) (codes "println")) (expr_and (call (at 211 250) (selector (at 211 219) (ident (at 211 215) (codes "text")) (nm 216 219 (codes "Pad"))) (expr_and (selector (at 220 232) (index (at 220 227) (ident (at 220 224) (codes "rows")) (ident (at 225 226) (codes "i"))) (nm 228 232 (codes "Body"))) (expr_and (selector (at 234 243) (ident (at 234 238) (codes "text")) (nm 239 243 (codes "Wide"))) (expr_and (ident (at 245 249) (codes "true")) no_exprs))) Plain) no_exprs) Plain)) no_stmts)) (stmt_and (inner (at 256 309) (stmt_and (range_ (at 260 306) (defines ((nm 264 265 (codes "_")) ∷ (nm 267 268 (codes "r")) ∷ [])) (ident (at 278 282) (codes "rows")) (at 283 306) (stmt_and (eval (at 288 302) (call (at 288 302) (selector (at 288 296) (ident (at 288 292) (codes "text")) (nm 293 296 (codes "Put"))) (expr_and (ident (at 297 298) (codes "r")) (expr_and (int_lit (at 300 301) (codes "4")) no_exprs)) Plain)) no_stmts)) no_stmts)) (stmt_and (eval (at 311 335) (call (at 311 335) (ident (at 311 318) (codes "println")) (expr_and (call (at 319 334) (selector (at 319 328) (ident (at 319 322) (codes "lib")) (nm 323 328 (codes "Total"))) (expr_and (ident (at 329 333) (codes "rows")) no_exprs) Plain) no_exprs) Plain)) no_stmts))))) ∷ []) }

abbrev library_7_f1 : File Span
library_7_f1 = record { package_name = (nm 44 47 (codes "lib")); imports = ((imps (at 49 78) false ((imp (at 56 78) None (codes "example.com/lib/text")) ∷ [])) ∷ []); decls = ((values (const_decl (at 80 171) true (spec (at 137 157) ((nm 137 145 (codes "MaxWidth")) ∷ []) None (expr_and (selector (at 148 157) (ident (at 148 152) (codes "text")) (nm 153 157 (codes "Wide"))) no_exprs) (spec (at 160 169) ((nm 160 165 (codes "limit")) ∷ []) None (expr_and (int_lit (at 168 169) (codes "3")) no_exprs) no_specs)))) ∷ (types (at 222 242) false ((tspec (at 227 242) (nm 227 230 (codes "Row")) true (named (at 233 242) (Some (nm 233 237 (codes "text"))) (nm 238 242 (codes "Line")))) ∷ [])) ∷ (fn (at 292 361) None (nm 297 304 (codes "PadLeft")) (sig ((param (at 305 313) (Some (nm 305 306 (codes "s"))) (named (at 307 313) None (nm 307 313 (codes "string")))) ∷ (param (at 315 320) (Some (nm 315 316 (codes "n"))) (named (at 317 320) None (nm 317 320 (codes "int")))) ∷ []) ((param (at 322 328) None (named (at 322 328) None (nm 322 328 (codes "string")))) ∷ [])) (at 329 361) (stmt_and (return_ (at 332 359) (expr_and (call (at 339 359) (selector (at 339 347) (ident (at 339 343) (codes "text")) (nm 344 347 (codes "Pad"))) (expr_and (ident (at 348 349) (codes "s")) (expr_and (ident (at 351 352) (codes "n")) (expr_and (ident (at 354 358) (codes "true")) no_exprs))) Plain) no_exprs)) no_stmts)) ∷ (fn (at 411 503) None (nm 416 420 (codes "Show")) (sig ((param (at 421 437) (Some (nm 421 425 (codes "rows"))) (slice_type (at 426 437) (named (at 428 437) (Some (nm 428 432 (codes "text"))) (nm 433 437 (codes "Line"))))) ∷ (param (at 439 448) (Some (nm 439 444 (codes "width"))) (named (at 445 448) None (nm 445 448 (codes "int")))) ∷ []) []) (at 450 503) (stmt_and (range_ (at 453 501) (defines ((nm 457 458 (codes "_")) ∷ (nm 460 461 (codes "r")) ∷ [])) (ident (at 471 475) (codes "rows")) (at 476 501) (stmt_and (eval (at 480 498) (call (at 480 498) (selector (at 480 488) (ident (at 480 484) (codes "text")) (nm 485 488 (codes "Put"))) (expr_and (ident (at 489 490) (codes "r")) (expr_and (ident (at 492 497) (codes "width")) no_exprs)) Plain)) no_stmts)) no_stmts)) ∷ (fn (at 523 629) None (nm 528 533 (codes "Total")) (sig ((param (at 534 550) (Some (nm 534 538 (codes "rows"))) (slice_type (at 539 550) (named (at 541 550) (Some (nm 541 545 (codes "text"))) (nm 546 550 (codes "Line"))))) ∷ []) ((param (at 552 555) None (named (at 552 555) None (nm 552 555 (codes "int")))) ∷ [])) (at 556 629) (stmt_and (define (at 559 569) ((nm 559 560 (codes "t")) ∷ []) (expr_and (ident (at 564 569) (codes "limit")) no_exprs)) (stmt_and (range_ (at 571 617) (defines ((nm 575 576 (codes "_")) ∷ (nm 578 579 (codes "r")) ∷ [])) (ident (at 589 593) (codes "rows")) (at 594 617) (stmt_and (assign (at 598 614) (expr_and (ident (at 598 599) (codes "t")) no_exprs) (Some Add) (expr_and (call (at 603 614) (ident (at 603 606) (codes "len")) (expr_and (selector (at 607 613) (ident (at 607 608) (codes "r")) (nm 609 613 (codes "Body"))) no_exprs) Plain) no_exprs)) no_stmts)) (stmt_and (return_ (at 619 627) (expr_and (ident (at 626 627) (codes "t")) no_exprs)) no_stmts)))) ∷ []) }

abbrev library_7_f2 : File Span
library_7_f2 = record { package_name = (nm 8 12 (codes "text")); imports = []; decls = ((values (const_decl (at 14 28) false (spec (at 20 28) ((nm 20 24 (codes "Wide")) ∷ []) None (expr_and (int_lit (at 27 28) (codes "8")) no_exprs) no_specs))) ∷ (types (at 30 63) false ((tspec (at 35 63) (nm 35 39 (codes "Line")) false (struct_type (at 40 63) (field (at 50 61) (nm 50 54 (codes "Body")) (named (at 55 61) None (nm 55 61 (codes "string"))) no_fields))) ∷ [])) ∷ (fn (at 65 197) None (nm 70 73 (codes "Pad")) (sig ((param (at 74 82) (Some (nm 74 75 (codes "s"))) (named (at 76 82) None (nm 76 82 (codes "string")))) ∷ (param (at 84 89) (Some (nm 84 85 (codes "n"))) (named (at 86 89) None (nm 86 89 (codes "int")))) ∷ (param (at 91 100) (Some (nm 91 95 (codes "left"))) (named (at 96 100) None (nm 96 100 (codes "bool")))) ∷ []) ((param (at 102 108) None (named (at 102 108) None (nm 102 108 (codes "string")))) ∷ [])) (at 109 197) (stmt_and (for_ (at 112 185) no_stmt (some_expr (binary (at 116 126) Lt (call (at 116 122) (ident (at 116 119) (codes "len")) (expr_and (ident (at 120 121) (codes "s")) no_exprs) Plain) (ident (at 125 126) (codes "n")))) no_stmt (at 127 185) (stmt_and (if_ (at 131 182) (arm (at 131 159) no_stmt (ident (at 134 138) (codes "left")) (at 139 159) (stmt_and (assign (at 144 155) (expr_and (ident (at 144 145) (codes "s")) no_exprs) None (expr_and (binary (at 148 155) Add (str_lit (at 148 151) (codes "\" \"")) (ident (at 154 155) (codes "s"))) no_exprs)) no_stmts) no_arms) (some_block (at 165 182) (stmt_and (assign (at 170 178) (expr_and (ident (at 170 171) (codes "s")) no_exprs) (Some Add) (expr_and (str_lit (at 175 178) (codes "\" \"")) no_exprs)) no_stmts))) no_stmts)) (stmt_and (return_ (at 187 195) (expr_and (ident (at 194 195) (codes "s")) no_exprs)) no_stmts))) ∷ (fn (at 199 266) None (nm 204 207 (codes "Put")) (sig ((param (at 208 214) (Some (nm 208 209 (codes "l"))) (named (at 210 214) None (nm 210 214 (codes "Line")))) ∷ (param (at 216 225) (Some (nm 216 221 (codes "width"))) (named (at 222 225) None (nm 222 225 (codes "int")))) ∷ []) []) (at 227 266) (stmt_and (eval (at 230 264) (call (at 230 264) (ident (at 230 237) (codes "println")) (expr_and (call (at 238 263) (ident (at 238 241) (codes "Pad")) (expr_and (selector (at 242 248) (ident (at 242 243) (codes "l")) (nm 244 248 (codes "Body"))) (expr_and (ident (at 250 255) (codes "width")) (expr_and (ident (at 257 262) (codes "false")) no_exprs))) Plain) no_exprs) Plain)) no_stmts)) ∷ []) }

library_7_f0_read : read_at span_to read_front (lexemes ((tok Keyword 0 7 (codes "package")) ∷ (tok Ident 8 12 (codes "main")) ∷ (tok Inserted 12 12 (codes ";")) ∷ (tok Keyword 14 20 (codes "import")) ∷ (tok Operator 21 22 (codes "(")) ∷ (tok Str 24 41 (codes "\"example.com/lib\"")) ∷ (tok Inserted 41 41 (codes ";")) ∷ (tok Str 43 65 (codes "\"example.com/lib/text\"")) ∷ (tok Inserted 65 65 (codes ";")) ∷ (tok Operator 66 67 (codes ")")) ∷ (tok Inserted 67 67 (codes ";")) ∷ (tok Keyword 69 73 (codes "func")) ∷ (tok Ident 74 78 (codes "load")) ∷ (tok Operator 78 79 (codes "(")) ∷ (tok Operator 79 80 (codes ")")) ∷ (tok Operator 81 82 (codes "[")) ∷ (tok Operator 82 83 (codes "]")) ∷ (tok Ident 83 87 (codes "text")) ∷ (tok Operator 87 88 (codes ".")) ∷ (tok Ident 88 92 (codes "Line")) ∷ (tok Operator 93 94 (codes "{")) ∷ (tok Keyword 96 102 (codes "return")) ∷ (tok Operator 103 104 (codes "[")) ∷ (tok Operator 104 105 (codes "]")) ∷ (tok Ident 105 109 (codes "text")) ∷ (tok Operator 109 110 (codes ".")) ∷ (tok Ident 110 114 (codes "Line")) ∷ (tok Operator 114 115 (codes "{")) ∷ (tok Operator 115 116 (codes "{")) ∷ (tok Str 116 119 (codes "\"a\"")) ∷ (tok Operator 119 120 (codes "}")) ∷ (tok Operator 120 121 (codes ",")) ∷ (tok Operator 122 123 (codes "{")) ∷ (tok Str 123 127 (codes "\"bc\"")) ∷ (tok Operator 127 128 (codes "}")) ∷ (tok Operator 128 129 (codes "}")) ∷ (tok Inserted 129 129 (codes ";")) ∷ (tok Operator 142 143 (codes "}")) ∷ (tok Inserted 143 143 (codes ";")) ∷ (tok Keyword 145 149 (codes "func")) ∷ (tok Ident 150 154 (codes "main")) ∷ (tok Operator 154 155 (codes "(")) ∷ (tok Operator 155 156 (codes ")")) ∷ (tok Operator 157 158 (codes "{")) ∷ (tok Ident 160 164 (codes "rows")) ∷ (tok Operator 165 167 (codes ":=")) ∷ (tok Ident 168 172 (codes "load")) ∷ (tok Operator 172 173 (codes "(")) ∷ (tok Operator 173 174 (codes ")")) ∷ (tok Inserted 174 174 (codes ";")) ∷ (tok Keyword 176 179 (codes "for")) ∷ (tok Ident 180 181 (codes "i")) ∷ (tok Operator 182 184 (codes ":=")) ∷ (tok Integer 185 186 (codes "0")) ∷ (tok Operator 186 187 (codes ";")) ∷ (tok Ident 188 189 (codes "i")) ∷ (tok Operator 190 191 (codes "<")) ∷ (tok Integer 192 193 (codes "2")) ∷ (tok Operator 193 194 (codes ";")) ∷ (tok Ident 195 196 (codes "i")) ∷ (tok Operator 196 198 (codes "++")) ∷ (tok Operator 199 200 (codes "{")) ∷ (tok Ident 203 210 (codes "println")) ∷ (tok Operator 210 211 (codes "(")) ∷ (tok Ident 211 215 (codes "text")) ∷ (tok Operator 215 216 (codes ".")) ∷ (tok Ident 216 219 (codes "Pad")) ∷ (tok Operator 219 220 (codes "(")) ∷ (tok Ident 220 224 (codes "rows")) ∷ (tok Operator 224 225 (codes "[")) ∷ (tok Ident 225 226 (codes "i")) ∷ (tok Operator 226 227 (codes "]")) ∷ (tok Operator 227 228 (codes ".")) ∷ (tok Ident 228 232 (codes "Body")) ∷ (tok Operator 232 233 (codes ",")) ∷ (tok Ident 234 238 (codes "text")) ∷ (tok Operator 238 239 (codes ".")) ∷ (tok Ident 239 243 (codes "Wide")) ∷ (tok Operator 243 244 (codes ",")) ∷ (tok Ident 245 249 (codes "true")) ∷ (tok Operator 249 250 (codes ")")) ∷ (tok Operator 250 251 (codes ")")) ∷ (tok Inserted 251 251 (codes ";")) ∷ (tok Operator 253 254 (codes "}")) ∷ (tok Inserted 254 254 (codes ";")) ∷ (tok Operator 256 257 (codes "{")) ∷ (tok Keyword 260 263 (codes "for")) ∷ (tok Ident 264 265 (codes "_")) ∷ (tok Operator 265 266 (codes ",")) ∷ (tok Ident 267 268 (codes "r")) ∷ (tok Operator 269 271 (codes ":=")) ∷ (tok Keyword 272 277 (codes "range")) ∷ (tok Ident 278 282 (codes "rows")) ∷ (tok Operator 283 284 (codes "{")) ∷ (tok Ident 288 292 (codes "text")) ∷ (tok Operator 292 293 (codes ".")) ∷ (tok Ident 293 296 (codes "Put")) ∷ (tok Operator 296 297 (codes "(")) ∷ (tok Ident 297 298 (codes "r")) ∷ (tok Operator 298 299 (codes ",")) ∷ (tok Integer 300 301 (codes "4")) ∷ (tok Operator 301 302 (codes ")")) ∷ (tok Inserted 302 302 (codes ";")) ∷ (tok Operator 305 306 (codes "}")) ∷ (tok Inserted 306 306 (codes ";")) ∷ (tok Operator 308 309 (codes "}")) ∷ (tok Inserted 309 309 (codes ";")) ∷ (tok Ident 311 318 (codes "println")) ∷ (tok Operator 318 319 (codes "(")) ∷ (tok Ident 319 322 (codes "lib")) ∷ (tok Operator 322 323 (codes ".")) ∷ (tok Ident 323 328 (codes "Total")) ∷ (tok Operator 328 329 (codes "(")) ∷ (tok Ident 329 333 (codes "rows")) ∷ (tok Operator 333 334 (codes ")")) ∷ (tok Operator 334 335 (codes ")")) ∷ (tok Inserted 335 335 (codes ";")) ∷ (tok Operator 336 337 (codes "}")) ∷ (tok Inserted 337 337 (codes ";")) ∷ [])) ≡ Some (library_7_f0, [])
unfolding reading
library_7_f0_read = refl

abbrev library_7 : Module
library_7 = record { packages = (pack (codes "example.com/lib/cmd") (codes "main") (source (codes "cmd/main.go") library_7_f0 ∷ []) ∷ pack (codes "example.com/lib") (codes "lib") (source (codes "lib.go") library_7_f1 ∷ []) ∷ pack (codes "example.com/lib/text") (codes "text") (source (codes "text/text.go") library_7_f2 ∷ []) ∷ []); marks = (mark 1 0 0 0 ∷ mark 1 0 1 0 ∷ mark 1 0 2 0 ∷ mark 1 0 3 0 ∷ []); texts = (((codes "cmd/main.go"), record { text = (codes "package main\n\nimport (\n\t\"example.com/lib\"\n\t\"example.com/lib/text\"\n)\n\nfunc load() []text.Line {\n\treturn []text.Line{{\"a\"}, {\"bc\"}} // two rows\n}\n\nfunc main() {\n\trows := load()\n\tfor i := 0; i < 2; i++ {\n\t\tprintln(text.Pad(rows[i].Body, text.Wide, true))\n\t}\n\t{\n\t\tfor _, r := range rows {\n\t\t\ttext.Put(r, 4)\n\t\t}\n\t}\n\tprintln(lib.Total(rows))\n}\n"); tokens = ((tok Keyword 0 7 (codes "package")) ∷ (tok Ident 8 12 (codes "main")) ∷ (tok Inserted 12 12 (codes ";")) ∷ (tok Keyword 14 20 (codes "import")) ∷ (tok Operator 21 22 (codes "(")) ∷ (tok Str 24 41 (codes "\"example.com/lib\"")) ∷ (tok Inserted 41 41 (codes ";")) ∷ (tok Str 43 65 (codes "\"example.com/lib/text\"")) ∷ (tok Inserted 65 65 (codes ";")) ∷ (tok Operator 66 67 (codes ")")) ∷ (tok Inserted 67 67 (codes ";")) ∷ (tok Keyword 69 73 (codes "func")) ∷ (tok Ident 74 78 (codes "load")) ∷ (tok Operator 78 79 (codes "(")) ∷ (tok Operator 79 80 (codes ")")) ∷ (tok Operator 81 82 (codes "[")) ∷ (tok Operator 82 83 (codes "]")) ∷ (tok Ident 83 87 (codes "text")) ∷ (tok Operator 87 88 (codes ".")) ∷ (tok Ident 88 92 (codes "Line")) ∷ (tok Operator 93 94 (codes "{")) ∷ (tok Keyword 96 102 (codes "return")) ∷ (tok Operator 103 104 (codes "[")) ∷ (tok Operator 104 105 (codes "]")) ∷ (tok Ident 105 109 (codes "text")) ∷ (tok Operator 109 110 (codes ".")) ∷ (tok Ident 110 114 (codes "Line")) ∷ (tok Operator 114 115 (codes "{")) ∷ (tok Operator 115 116 (codes "{")) ∷ (tok Str 116 119 (codes "\"a\"")) ∷ (tok Operator 119 120 (codes "}")) ∷ (tok Operator 120 121 (codes ",")) ∷ (tok Operator 122 123 (codes "{")) ∷ (tok Str 123 127 (codes "\"bc\"")) ∷ (tok Operator 127 128 (codes "}")) ∷ (tok Operator 128 129 (codes "}")) ∷ (tok Inserted 129 129 (codes ";")) ∷ (tok Operator 142 143 (codes "}")) ∷ (tok Inserted 143 143 (codes ";")) ∷ (tok Keyword 145 149 (codes "func")) ∷ (tok Ident 150 154 (codes "main")) ∷ (tok Operator 154 155 (codes "(")) ∷ (tok Operator 155 156 (codes ")")) ∷ (tok Operator 157 158 (codes "{")) ∷ (tok Ident 160 164 (codes "rows")) ∷ (tok Operator 165 167 (codes ":=")) ∷ (tok Ident 168 172 (codes "load")) ∷ (tok Operator 172 173 (codes "(")) ∷ (tok Operator 173 174 (codes ")")) ∷ (tok Inserted 174 174 (codes ";")) ∷ (tok Keyword 176 179 (codes "for")) ∷ (tok Ident 180 181 (codes "i")) ∷ (tok Operator 182 184 (codes ":=")) ∷ (tok Integer 185 186 (codes "0")) ∷ (tok Operator 186 187 (codes ";")) ∷ (tok Ident 188 189 (codes "i")) ∷ (tok Operator 190 191 (codes "<")) ∷ (tok Integer 192 193 (codes "2")) ∷ (tok Operator 193 194 (codes ";")) ∷ (tok Ident 195 196 (codes "i")) ∷ (tok Operator 196 198 (codes "++")) ∷ (tok Operator 199 200 (codes "{")) ∷ (tok Ident 203 210 (codes "println")) ∷ (tok Operator 210 211 (codes "(")) ∷ (tok Ident 211 215 (codes "text")) ∷ (tok Operator 215 216 (codes ".")) ∷ (tok Ident 216 219 (codes "Pad")) ∷ (tok Operator 219 220 (codes "(")) ∷ (tok Ident 220 224 (codes "rows")) ∷ (tok Operator 224 225 (codes "[")) ∷ (tok Ident 225 226 (codes "i")) ∷ (tok Operator 226 227 (codes "]")) ∷ (tok Operator 227 228 (codes ".")) ∷ (tok Ident 228 232 (codes "Body")) ∷ (tok Operator 232 233 (codes ",")) ∷ (tok Ident 234 238 (codes "text")) ∷ (tok Operator 238 239 (codes ".")) ∷ (tok Ident 239 243 (codes "Wide")) ∷ (tok Operator 243 244 (codes ",")) ∷ (tok Ident 245 249 (codes "true")) ∷ (tok Operator 249 250 (codes ")")) ∷ (tok Operator 250 251 (codes ")")) ∷ (tok Inserted 251 251 (codes ";")) ∷ (tok Operator 253 254 (codes "}")) ∷ (tok Inserted 254 254 (codes ";")) ∷ (tok Operator 256 257 (codes "{")) ∷ (tok Keyword 260 263 (codes "for")) ∷ (tok Ident 264 265 (codes "_")) ∷ (tok Operator 265 266 (codes ",")) ∷ (tok Ident 267 268 (codes "r")) ∷ (tok Operator 269 271 (codes ":=")) ∷ (tok Keyword 272 277 (codes "range")) ∷ (tok Ident 278 282 (codes "rows")) ∷ (tok Operator 283 284 (codes "{")) ∷ (tok Ident 288 292 (codes "text")) ∷ (tok Operator 292 293 (codes ".")) ∷ (tok Ident 293 296 (codes "Put")) ∷ (tok Operator 296 297 (codes "(")) ∷ (tok Ident 297 298 (codes "r")) ∷ (tok Operator 298 299 (codes ",")) ∷ (tok Integer 300 301 (codes "4")) ∷ (tok Operator 301 302 (codes ")")) ∷ (tok Inserted 302 302 (codes ";")) ∷ (tok Operator 305 306 (codes "}")) ∷ (tok Inserted 306 306 (codes ";")) ∷ (tok Operator 308 309 (codes "}")) ∷ (tok Inserted 309 309 (codes ";")) ∷ (tok Ident 311 318 (codes "println")) ∷ (tok Operator 318 319 (codes "(")) ∷ (tok Ident 319 322 (codes "lib")) ∷ (tok Operator 322 323 (codes ".")) ∷ (tok Ident 323 328 (codes "Total")) ∷ (tok Operator 328 329 (codes "(")) ∷ (tok Ident 329 333 (codes "rows")) ∷ (tok Operator 333 334 (codes ")")) ∷ (tok Operator 334 335 (codes ")")) ∷ (tok Inserted 335 335 (codes ";")) ∷ (tok Operator 336 337 (codes "}")) ∷ (tok Inserted 337 337 (codes ";")) ∷ []); comments = ((note 130 141) ∷ []) }) ∷ ((codes "lib.go"), record { text = (codes "// Package lib keeps the old names.\npackage lib\n\nimport \"example.com/lib/text\"\n\nconst (\n\t// Deprecated: use text.Wide.\n\t//go:fix inline\n\tMaxWidth = text.Wide\n\n\tlimit = 3\n)\n\n// Deprecated: use text.Line.\n//\n//go:fix inline\ntype Row = text.Line\n\n// Deprecated: use text.Pad.\n//\n//go:fix inline\nfunc PadLeft(s string, n int) string {\n\treturn text.Pad(s, n, true)\n}\n\n// Deprecated: use text.Put.\n//\n//go:fix inline\nfunc Show(rows []text.Line, width int) {\n\tfor _, r := range rows {\n\t\ttext.Put(r, width)\n\t}\n}\n\n// Total is kept.\nfunc Total(rows []text.Line) int {\n\tt := limit\n\tfor _, r := range rows {\n\t\tt += len(r.Body)\n\t}\n\treturn t\n}\n"); tokens = ((tok Keyword 36 43 (codes "package")) ∷ (tok Ident 44 47 (codes "lib")) ∷ (tok Inserted 47 47 (codes ";")) ∷ (tok Keyword 49 55 (codes "import")) ∷ (tok Str 56 78 (codes "\"example.com/lib/text\"")) ∷ (tok Inserted 78 78 (codes ";")) ∷ (tok Keyword 80 85 (codes "const")) ∷ (tok Operator 86 87 (codes "(")) ∷ (tok Ident 137 145 (codes "MaxWidth")) ∷ (tok Operator 146 147 (codes "=")) ∷ (tok Ident 148 152 (codes "text")) ∷ (tok Operator 152 153 (codes ".")) ∷ (tok Ident 153 157 (codes "Wide")) ∷ (tok Inserted 157 157 (codes ";")) ∷ (tok Ident 160 165 (codes "limit")) ∷ (tok Operator 166 167 (codes "=")) ∷ (tok Integer 168 169 (codes "3")) ∷ (tok Inserted 169 169 (codes ";")) ∷ (tok Operator 170 171 (codes ")")) ∷ (tok Inserted 171 171 (codes ";")) ∷ (tok Keyword 222 226 (codes "type")) ∷ (tok Ident 227 230 (codes "Row")) ∷ (tok Operator 231 232 (codes "=")) ∷ (tok Ident 233 237 (codes "text")) ∷ (tok Operator 237 238 (codes ".")) ∷ (tok Ident 238 242 (codes "Line")) ∷ (tok Inserted 242 242 (codes ";")) ∷ (tok Keyword 292 296 (codes "func")) ∷ (tok Ident 297 304 (codes "PadLeft")) ∷ (tok Operator 304 305 (codes "(")) ∷ (tok Ident 305 306 (codes "s")) ∷ (tok Ident 307 313 (codes "string")) ∷ (tok Operator 313 314 (codes ",")) ∷ (tok Ident 315 316 (codes "n")) ∷ (tok Ident 317 320 (codes "int")) ∷ (tok Operator 320 321 (codes ")")) ∷ (tok Ident 322 328 (codes "string")) ∷ (tok Operator 329 330 (codes "{")) ∷ (tok Keyword 332 338 (codes "return")) ∷ (tok Ident 339 343 (codes "text")) ∷ (tok Operator 343 344 (codes ".")) ∷ (tok Ident 344 347 (codes "Pad")) ∷ (tok Operator 347 348 (codes "(")) ∷ (tok Ident 348 349 (codes "s")) ∷ (tok Operator 349 350 (codes ",")) ∷ (tok Ident 351 352 (codes "n")) ∷ (tok Operator 352 353 (codes ",")) ∷ (tok Ident 354 358 (codes "true")) ∷ (tok Operator 358 359 (codes ")")) ∷ (tok Inserted 359 359 (codes ";")) ∷ (tok Operator 360 361 (codes "}")) ∷ (tok Inserted 361 361 (codes ";")) ∷ (tok Keyword 411 415 (codes "func")) ∷ (tok Ident 416 420 (codes "Show")) ∷ (tok Operator 420 421 (codes "(")) ∷ (tok Ident 421 425 (codes "rows")) ∷ (tok Operator 426 427 (codes "[")) ∷ (tok Operator 427 428 (codes "]")) ∷ (tok Ident 428 432 (codes "text")) ∷ (tok Operator 432 433 (codes ".")) ∷ (tok Ident 433 437 (codes "Line")) ∷ (tok Operator 437 438 (codes ",")) ∷ (tok Ident 439 444 (codes "width")) ∷ (tok Ident 445 448 (codes "int")) ∷ (tok Operator 448 449 (codes ")")) ∷ (tok Operator 450 451 (codes "{")) ∷ (tok Keyword 453 456 (codes "for")) ∷ (tok Ident 457 458 (codes "_")) ∷ (tok Operator 458 459 (codes ",")) ∷ (tok Ident 460 461 (codes "r")) ∷ (tok Operator 462 464 (codes ":=")) ∷ (tok Keyword 465 470 (codes "range")) ∷ (tok Ident 471 475 (codes "rows")) ∷ (tok Operator 476 477 (codes "{")) ∷ (tok Ident 480 484 (codes "text")) ∷ (tok Operator 484 485 (codes ".")) ∷ (tok Ident 485 488 (codes "Put")) ∷ (tok Operator 488 489 (codes "(")) ∷ (tok Ident 489 490 (codes "r")) ∷ (tok Operator 490 491 (codes ",")) ∷ (tok Ident 492 497 (codes "width")) ∷ (tok Operator 497 498 (codes ")")) ∷ (tok Inserted 498 498 (codes ";")) ∷ (tok Operator 500 501 (codes "}")) ∷ (tok Inserted 501 501 (codes ";")) ∷ (tok Operator 502 503 (codes "}")) ∷ (tok Inserted 503 503 (codes ";")) ∷ (tok Keyword 523 527 (codes "func")) ∷ (tok Ident 528 533 (codes "Total")) ∷ (tok Operator 533 534 (codes "(")) ∷ (tok Ident 534 538 (codes "rows")) ∷ (tok Operator 539 540 (codes "[")) ∷ (tok Operator 540 541 (codes "]")) ∷ (tok Ident 541 545 (codes "text")) ∷ (tok Operator 545 546 (codes ".")) ∷ (tok Ident 546 550 (codes "Line")) ∷ (tok Operator 550 551 (codes ")")) ∷ (tok Ident 552 555 (codes "int")) ∷ (tok Operator 556 557 (codes "{")) ∷ (tok Ident 559 560 (codes "t")) ∷ (tok Operator 561 563 (codes ":=")) ∷ (tok Ident 564 569 (codes "limit")) ∷ (tok Inserted 569 569 (codes ";")) ∷ (tok Keyword 571 574 (codes "for")) ∷ (tok Ident 575 576 (codes "_")) ∷ (tok Operator 576 577 (codes ",")) ∷ (tok Ident 578 579 (codes "r")) ∷ (tok Operator 580 582 (codes ":=")) ∷ (tok Keyword 583 588 (codes "range")) ∷ (tok Ident 589 593 (codes "rows")) ∷ (tok Operator 594 595 (codes "{")) ∷ (tok Ident 598 599 (codes "t")) ∷ (tok Operator 600 602 (codes "+=")) ∷ (tok Ident 603 606 (codes "len")) ∷ (tok Operator 606 607 (codes "(")) ∷ (tok Ident 607 608 (codes "r")) ∷ (tok Operator 608 609 (codes ".")) ∷ (tok Ident 609 613 (codes "Body")) ∷ (tok Operator 613 614 (codes ")")) ∷ (tok Inserted 614 614 (codes ";")) ∷ (tok Operator 616 617 (codes "}")) ∷ (tok Inserted 617 617 (codes ";")) ∷ (tok Keyword 619 625 (codes "return")) ∷ (tok Ident 626 627 (codes "t")) ∷ (tok Inserted 627 627 (codes ";")) ∷ (tok Operator 628 629 (codes "}")) ∷ (tok Inserted 629 629 (codes ";")) ∷ []); comments = ((note 0 35) ∷ (note 89 118) ∷ (note 120 135) ∷ (note 173 202) ∷ (note 203 205) ∷ (note 206 221) ∷ (note 244 272) ∷ (note 273 275) ∷ (note 276 291) ∷ (note 363 391) ∷ (note 392 394) ∷ (note 395 410) ∷ (note 505 522) ∷ []) }) ∷ ((codes "text/text.go"), record { text = (codes "package text\n\nconst Wide = 8\n\ntype Line struct {\n\tBody string\n}\n\nfunc Pad(s string, n int, left bool) string {\n\tfor len(s) < n {\n\t\tif left {\n\t\t\ts = \" \" + s\n\t\t} else {\n\t\t\ts += \" \"\n\t\t}\n\t}\n\treturn s\n}\n\nfunc Put(l Line, width int) {\n\tprintln(Pad(l.Body, width, false))\n}\n"); tokens = ((tok Keyword 0 7 (codes "package")) ∷ (tok Ident 8 12 (codes "text")) ∷ (tok Inserted 12 12 (codes ";")) ∷ (tok Keyword 14 19 (codes "const")) ∷ (tok Ident 20 24 (codes "Wide")) ∷ (tok Operator 25 26 (codes "=")) ∷ (tok Integer 27 28 (codes "8")) ∷ (tok Inserted 28 28 (codes ";")) ∷ (tok Keyword 30 34 (codes "type")) ∷ (tok Ident 35 39 (codes "Line")) ∷ (tok Keyword 40 46 (codes "struct")) ∷ (tok Operator 47 48 (codes "{")) ∷ (tok Ident 50 54 (codes "Body")) ∷ (tok Ident 55 61 (codes "string")) ∷ (tok Inserted 61 61 (codes ";")) ∷ (tok Operator 62 63 (codes "}")) ∷ (tok Inserted 63 63 (codes ";")) ∷ (tok Keyword 65 69 (codes "func")) ∷ (tok Ident 70 73 (codes "Pad")) ∷ (tok Operator 73 74 (codes "(")) ∷ (tok Ident 74 75 (codes "s")) ∷ (tok Ident 76 82 (codes "string")) ∷ (tok Operator 82 83 (codes ",")) ∷ (tok Ident 84 85 (codes "n")) ∷ (tok Ident 86 89 (codes "int")) ∷ (tok Operator 89 90 (codes ",")) ∷ (tok Ident 91 95 (codes "left")) ∷ (tok Ident 96 100 (codes "bool")) ∷ (tok Operator 100 101 (codes ")")) ∷ (tok Ident 102 108 (codes "string")) ∷ (tok Operator 109 110 (codes "{")) ∷ (tok Keyword 112 115 (codes "for")) ∷ (tok Ident 116 119 (codes "len")) ∷ (tok Operator 119 120 (codes "(")) ∷ (tok Ident 120 121 (codes "s")) ∷ (tok Operator 121 122 (codes ")")) ∷ (tok Operator 123 124 (codes "<")) ∷ (tok Ident 125 126 (codes "n")) ∷ (tok Operator 127 128 (codes "{")) ∷ (tok Keyword 131 133 (codes "if")) ∷ (tok Ident 134 138 (codes "left")) ∷ (tok Operator 139 140 (codes "{")) ∷ (tok Ident 144 145 (codes "s")) ∷ (tok Operator 146 147 (codes "=")) ∷ (tok Str 148 151 (codes "\" \"")) ∷ (tok Operator 152 153 (codes "+")) ∷ (tok Ident 154 155 (codes "s")) ∷ (tok Inserted 155 155 (codes ";")) ∷ (tok Operator 158 159 (codes "}")) ∷ (tok Keyword 160 164 (codes "else")) ∷ (tok Operator 165 166 (codes "{")) ∷ (tok Ident 170 171 (codes "s")) ∷ (tok Operator 172 174 (codes "+=")) ∷ (tok Str 175 178 (codes "\" \"")) ∷ (tok Inserted 178 178 (codes ";")) ∷ (tok Operator 181 182 (codes "}")) ∷ (tok Inserted 182 182 (codes ";")) ∷ (tok Operator 184 185 (codes "}")) ∷ (tok Inserted 185 185 (codes ";")) ∷ (tok Keyword 187 193 (codes "return")) ∷ (tok Ident 194 195 (codes "s")) ∷ (tok Inserted 195 195 (codes ";")) ∷ (tok Operator 196 197 (codes "}")) ∷ (tok Inserted 197 197 (codes ";")) ∷ (tok Keyword 199 203 (codes "func")) ∷ (tok Ident 204 207 (codes "Put")) ∷ (tok Operator 207 208 (codes "(")) ∷ (tok Ident 208 209 (codes "l")) ∷ (tok Ident 210 214 (codes "Line")) ∷ (tok Operator 214 215 (codes ",")) ∷ (tok Ident 216 221 (codes "width")) ∷ (tok Ident 222 225 (codes "int")) ∷ (tok Operator 225 226 (codes ")")) ∷ (tok Operator 227 228 (codes "{")) ∷ (tok Ident 230 237 (codes "println")) ∷ (tok Operator 237 238 (codes "(")) ∷ (tok Ident 238 241 (codes "Pad")) ∷ (tok Operator 241 242 (codes "(")) ∷ (tok Ident 242 243 (codes "l")) ∷ (tok Operator 243 244 (codes ".")) ∷ (tok Ident 244 248 (codes "Body")) ∷ (tok Operator 248 249 (codes ",")) ∷ (tok Ident 250 255 (codes "width")) ∷ (tok Operator 255 256 (codes ",")) ∷ (tok Ident 257 262 (codes "false")) ∷ (tok Operator 262 263 (codes ")")) ∷ (tok Operator 263 264 (codes ")")) ∷ (tok Inserted 264 264 (codes ";")) ∷ (tok Operator 265 266 (codes "}")) ∷ (tok Inserted 266 266 (codes ";")) ∷ []); comments = [] }) ∷ []) }

library_7_typed : is_typed library_7 ≡ true
library_7_typed = refl

library_7_ends : step_of library_7 ≡ None
unfolding passes keyword_spellings
library_7_ends = refl

library_7_kept : kept_uses library_7 ≡ []
unfolding passes keyword_spellings
library_7_kept = refl
