-- Runs of modules with marked functions, whole.
use Rattle.std.proofs.Common.{◌≡◌, refl}
use Rattle.std.specs.Prelude.{true, false, [], ◌∷◌, Some, None, codes}
use Rattle.go_tree.specs.declared.exprs.Rest.TheVariants.{Plain}
use Rattle.go_tree.specs.declared.spans.Span.{Span}
use Rattle.go_tree.specs.declared.tokens.TokenKind.TheVariants.{Ident, Keyword, Operator, Integer, Str, Inserted}
use Rattle.go_tree.specs.declared.operators.BinOp.TheVariants.{Add, Sub, Eq, Ne, LogAnd, LogOr}
use Rattle.go_tree.specs.declared.operators.UnOp.TheVariants.{Address}
use Rattle.go_tree.specs.Tree.{named, struct_type, no_fields, field, ident, int_lit, str_lit, composite, selector, call, func_lit, unary, binary, no_exprs, expr_and, no_elems, elem, plain, no_value, var_decl, eval, define, return_, inner, defer, no_stmts, stmt_and, no_specs, spec}
use Rattle.go_tree.specs.File.{File, types}
use Rattle.run_rules.proofs.CaseTools.{at, nm, tok, note, param, sig, tspec, recv, fn, pack, source, mark, Module}
use Rattle.go_layout.specs.SpellsSpans.{span_to}
use Rattle.go_tree.specs.GoWords.Terminals.{lexemes}
use Rattle.go_tree.specs.GoWords.Tokens.Pieces.{keyword_spellings}
use Rattle.go_layout.specs.Goals.{read_front}
use Rattle.go_layout.proofs.Texts.{reading}
use Rattle.run_rules.proofs.CaseTools.{read_at}
use Rattle.directive_scan.specs.Lines.{is_inline}
use Rattle.pkg_graph.specs.ModuleFiles.Internal.{passes}
use Rattle.std.specs.Prelude.{is_some}
use Rattle.run_rules.specs.Texts.{FileText}
use Rattle.run_rules.specs.Steps.{At}
use Rattle.run_rules.specs.Marks.{marks_of}
use Rattle.run_rules.specs.Run.{Standing, Next, step_in, goes_on, ends, the_limits}
use Rattle.run_rules.specs.Run as run
use Rattle.go_layout.proofs.Whole.{file_spelled}
use Rattle.std.specs.Fmt.{digits}
use Rattle.run_rules.specs.Inlining.{standing_as_read, begins, steps_on, IsInlining}
use Rattle.run_rules.proofs.CaseTools.{from, nmf}
use Rattle.run_rules.proofs.Instances.{stands_after, log_entry, next_by, kept_by, inlining_by}
use Rattle.run_rules.proofs.ModulesRead.{module_by, module_text, folder, small_module, small_module_is}
use Rattle.go_tree.specs.GoWords.Tokens.{TokensOf}
use Rattle.ucd_category.specs.GeneralCategory.{general_category}
use Rattle.ucd_category.specs.GeneralCategoryRows.{general_category_rows}
use Rattle.ucd_table.specs.Rows.{value_in}
use Rattle.go_tree.specs.GoWords.Tokens.{tokens_from, comments_from}
use Rattle.go_tree.specs.GoWords.Tokens.Characters.{is_letter, is_digit}
use Rattle.directive_scan.specs.Automaton.{next_of, longest_from}
use Rattle.directive_scan.specs.Pieces.{piece_of, lexeme_of}
use Rattle.run_rules.proofs.TokensFound.{tokens_by}

-- A cycle of marked functions.
abbrev even_and_odd_f0 : File Span
even_and_odd_f0 = record { package_name = (nm 8 12 (codes "main")); imports = []; decls = ((fn (at 30 81) None (nm 35 39 (codes "Even")) (sig ((param (at 40 45) (Some (nm 40 41 (codes "n"))) (named (at 42 45) None (nm 42 45 (codes "int")))) ∷ []) ((param (at 47 51) None (named (at 47 51) None (nm 47 51 (codes "bool")))) ∷ [])) (at 52 81) (stmt_and (return_ (at 54 79) (expr_and (binary (at 61 79) LogOr (binary (at 61 67) Eq (ident (at 61 62) (codes "n")) (int_lit (at 66 67) (codes "0"))) (call (at 71 79) (ident (at 71 74) (codes "Odd")) (expr_and (binary (at 75 78) Sub (ident (at 75 76) (codes "n")) (int_lit (at 77 78) (codes "1"))) no_exprs) Plain)) no_exprs)) no_stmts)) ∷ (fn (at 99 150) None (nm 104 107 (codes "Odd")) (sig ((param (at 108 113) (Some (nm 108 109 (codes "n"))) (named (at 110 113) None (nm 110 113 (codes "int")))) ∷ []) ((param (at 115 119) None (named (at 115 119) None (nm 115 119 (codes "bool")))) ∷ [])) (at 120 150) (stmt_and (return_ (at 122 148) (expr_and (binary (at 129 148) LogAnd (binary (at 129 135) Ne (ident (at 129 130) (codes "n")) (int_lit (at 134 135) (codes "0"))) (call (at 139 148) (ident (at 139 143) (codes "Even")) (expr_and (binary (at 144 147) Sub (ident (at 144 145) (codes "n")) (int_lit (at 146 147) (codes "1"))) no_exprs) Plain)) no_exprs)) no_stmts)) ∷ (fn (at 152 185) None (nm 157 161 (codes "main")) (sig [] []) (at 164 185) (stmt_and (eval (at 167 183) (call (at 167 183) (ident (at 167 174) (codes "println")) (expr_and (call (at 175 182) (ident (at 175 179) (codes "Even")) (expr_and (int_lit (at 180 181) (codes "4")) no_exprs) Plain) no_exprs) Plain)) no_stmts)) ∷ []) }

abbrev even_and_odd : Module
even_and_odd = record { packages = (pack (codes "example.com/m") (codes "main") (source (codes "main.go") even_and_odd_f0 ∷ []) ∷ []); marks = (mark 0 0 0 0 ∷ mark 0 0 1 0 ∷ []); texts = (((codes "main.go"), record { text = (codes "package main\n\n//go:fix inline\nfunc Even(n int) bool { return n == 0 || Odd(n-1) }\n\n//go:fix inline\nfunc Odd(n int) bool { return n != 0 && Even(n-1) }\n\nfunc main() {\n\tprintln(Even(4))\n}\n"); tokens = ((tok Keyword 0 7 (codes "package")) ∷ (tok Ident 8 12 (codes "main")) ∷ (tok Inserted 12 12 (codes ";")) ∷ (tok Keyword 30 34 (codes "func")) ∷ (tok Ident 35 39 (codes "Even")) ∷ (tok Operator 39 40 (codes "(")) ∷ (tok Ident 40 41 (codes "n")) ∷ (tok Ident 42 45 (codes "int")) ∷ (tok Operator 45 46 (codes ")")) ∷ (tok Ident 47 51 (codes "bool")) ∷ (tok Operator 52 53 (codes "{")) ∷ (tok Keyword 54 60 (codes "return")) ∷ (tok Ident 61 62 (codes "n")) ∷ (tok Operator 63 65 (codes "==")) ∷ (tok Integer 66 67 (codes "0")) ∷ (tok Operator 68 70 (codes "||")) ∷ (tok Ident 71 74 (codes "Odd")) ∷ (tok Operator 74 75 (codes "(")) ∷ (tok Ident 75 76 (codes "n")) ∷ (tok Operator 76 77 (codes "-")) ∷ (tok Integer 77 78 (codes "1")) ∷ (tok Operator 78 79 (codes ")")) ∷ (tok Operator 80 81 (codes "}")) ∷ (tok Inserted 81 81 (codes ";")) ∷ (tok Keyword 99 103 (codes "func")) ∷ (tok Ident 104 107 (codes "Odd")) ∷ (tok Operator 107 108 (codes "(")) ∷ (tok Ident 108 109 (codes "n")) ∷ (tok Ident 110 113 (codes "int")) ∷ (tok Operator 113 114 (codes ")")) ∷ (tok Ident 115 119 (codes "bool")) ∷ (tok Operator 120 121 (codes "{")) ∷ (tok Keyword 122 128 (codes "return")) ∷ (tok Ident 129 130 (codes "n")) ∷ (tok Operator 131 133 (codes "!=")) ∷ (tok Integer 134 135 (codes "0")) ∷ (tok Operator 136 138 (codes "&&")) ∷ (tok Ident 139 143 (codes "Even")) ∷ (tok Operator 143 144 (codes "(")) ∷ (tok Ident 144 145 (codes "n")) ∷ (tok Operator 145 146 (codes "-")) ∷ (tok Integer 146 147 (codes "1")) ∷ (tok Operator 147 148 (codes ")")) ∷ (tok Operator 149 150 (codes "}")) ∷ (tok Inserted 150 150 (codes ";")) ∷ (tok Keyword 152 156 (codes "func")) ∷ (tok Ident 157 161 (codes "main")) ∷ (tok Operator 161 162 (codes "(")) ∷ (tok Operator 162 163 (codes ")")) ∷ (tok Operator 164 165 (codes "{")) ∷ (tok Ident 167 174 (codes "println")) ∷ (tok Operator 174 175 (codes "(")) ∷ (tok Ident 175 179 (codes "Even")) ∷ (tok Operator 179 180 (codes "(")) ∷ (tok Integer 180 181 (codes "4")) ∷ (tok Operator 181 182 (codes ")")) ∷ (tok Operator 182 183 (codes ")")) ∷ (tok Inserted 183 183 (codes ";")) ∷ (tok Operator 184 185 (codes "}")) ∷ (tok Inserted 185 185 (codes ";")) ∷ []); comments = ((note 14 29) ∷ (note 83 98) ∷ []) }) ∷ []) }

abbrev even_and_odd_t0 : FileText
even_and_odd_t0 = (record { text = (codes "package main\n\n//go:fix inline\nfunc Even(n int) bool { return n == 0 || Odd(n-1) }\n\n//go:fix inline\nfunc Odd(n int) bool { return n != 0 && Even(n-1) }\n\nfunc main() {\n\tprintln(Even(4))\n}\n"); tokens = ((tok Keyword 0 7 (codes "package")) ∷ (tok Ident 8 12 (codes "main")) ∷ (tok Inserted 12 12 (codes ";")) ∷ (tok Keyword 30 34 (codes "func")) ∷ (tok Ident 35 39 (codes "Even")) ∷ (tok Operator 39 40 (codes "(")) ∷ (tok Ident 40 41 (codes "n")) ∷ (tok Ident 42 45 (codes "int")) ∷ (tok Operator 45 46 (codes ")")) ∷ (tok Ident 47 51 (codes "bool")) ∷ (tok Operator 52 53 (codes "{")) ∷ (tok Keyword 54 60 (codes "return")) ∷ (tok Ident 61 62 (codes "n")) ∷ (tok Operator 63 65 (codes "==")) ∷ (tok Integer 66 67 (codes "0")) ∷ (tok Operator 68 70 (codes "||")) ∷ (tok Ident 71 74 (codes "Odd")) ∷ (tok Operator 74 75 (codes "(")) ∷ (tok Ident 75 76 (codes "n")) ∷ (tok Operator 76 77 (codes "-")) ∷ (tok Integer 77 78 (codes "1")) ∷ (tok Operator 78 79 (codes ")")) ∷ (tok Operator 80 81 (codes "}")) ∷ (tok Inserted 81 81 (codes ";")) ∷ (tok Keyword 99 103 (codes "func")) ∷ (tok Ident 104 107 (codes "Odd")) ∷ (tok Operator 107 108 (codes "(")) ∷ (tok Ident 108 109 (codes "n")) ∷ (tok Ident 110 113 (codes "int")) ∷ (tok Operator 113 114 (codes ")")) ∷ (tok Ident 115 119 (codes "bool")) ∷ (tok Operator 120 121 (codes "{")) ∷ (tok Keyword 122 128 (codes "return")) ∷ (tok Ident 129 130 (codes "n")) ∷ (tok Operator 131 133 (codes "!=")) ∷ (tok Integer 134 135 (codes "0")) ∷ (tok Operator 136 138 (codes "&&")) ∷ (tok Ident 139 143 (codes "Even")) ∷ (tok Operator 143 144 (codes "(")) ∷ (tok Ident 144 145 (codes "n")) ∷ (tok Operator 145 146 (codes "-")) ∷ (tok Integer 146 147 (codes "1")) ∷ (tok Operator 147 148 (codes ")")) ∷ (tok Operator 149 150 (codes "}")) ∷ (tok Inserted 150 150 (codes ";")) ∷ (tok Keyword 152 156 (codes "func")) ∷ (tok Ident 157 161 (codes "main")) ∷ (tok Operator 161 162 (codes "(")) ∷ (tok Operator 162 163 (codes ")")) ∷ (tok Operator 164 165 (codes "{")) ∷ (tok Ident 167 174 (codes "println")) ∷ (tok Operator 174 175 (codes "(")) ∷ (tok Ident 175 179 (codes "Even")) ∷ (tok Operator 179 180 (codes "(")) ∷ (tok Integer 180 181 (codes "4")) ∷ (tok Operator 181 182 (codes ")")) ∷ (tok Operator 182 183 (codes ")")) ∷ (tok Inserted 183 183 (codes ";")) ∷ (tok Operator 184 185 (codes "}")) ∷ (tok Inserted 185 185 (codes ";")) ∷ []); comments = ((note 14 29) ∷ (note 83 98) ∷ []) })

even_and_odd_marks : marks_of even_and_odd.packages even_and_odd.texts [] ≡ even_and_odd.marks
unfolding passes keyword_spellings is_inline digits
even_and_odd_marks = refl

even_and_odd_spelled0 : read_at span_to read_front (lexemes even_and_odd_t0.tokens) ≡ Some (even_and_odd_f0, [])
unfolding reading
even_and_odd_spelled0 = refl

abbrev even_and_odd_start : Standing
even_and_odd_start = standing_as_read even_and_odd.packages even_and_odd.texts

-- the whole run, with the tokens of the texts
even_and_odd_inlined : (h0 : TokensOf even_and_odd_t0.text even_and_odd_t0.tokens even_and_odd_t0.comments) → IsInlining the_limits (folder small_module even_and_odd.texts) even_and_odd.packages even_and_odd.texts [] (((codes "main.go"), even_and_odd_t0) ∷ []) (codes "main.go:4:42: kept example.com/m.Odd: recursive\nmain.go:7:41: kept example.com/m.Even: recursive\nmain.go:10:10: kept example.com/m.Even: recursive\n")
unfolding passes keyword_spellings is_inline digits reading
even_and_odd_inlined h0 = inlining_by the_limits (folder small_module even_and_odd.texts) even_and_odd.packages even_and_odd.texts [] even_and_odd.marks even_and_odd_start ([]) (codes "main.go:4:42: kept example.com/m.Odd: recursive\nmain.go:7:41: kept example.com/m.Even: recursive\nmain.go:10:10: kept example.com/m.Even: recursive\n") even_and_odd_marks (module_by (codes "example.com/m") (module_text small_module) (record { path = codes "main.go"; text = even_and_odd_t0; tree = even_and_odd_f0; reads = record { scans = h0; spells = file_spelled even_and_odd_t0.tokens even_and_odd_f0 even_and_odd_spelled0 } } ∷ []) (folder small_module even_and_odd.texts) even_and_odd.packages even_and_odd.texts small_module_is refl refl refl refl refl refl refl refl refl) (ends even_and_odd_start refl) (begins [] even_and_odd_start) (kept_by ([]) (codes "main.go") even_and_odd_t0.text even_and_odd_t0.text [] [] refl refl run.none) refl

even_and_odd_t0_found : TokensOf even_and_odd_t0.text even_and_odd_t0.tokens even_and_odd_t0.comments
unfolding piece_of lexeme_of longest_from next_of tokens_from comments_from keyword_spellings is_letter is_digit general_category general_category_rows value_in lib.Utf8.encode
even_and_odd_t0_found = tokens_by even_and_odd_t0.text even_and_odd_t0.tokens even_and_odd_t0.comments refl refl refl

even_and_odd_run : IsInlining the_limits (folder small_module even_and_odd.texts) even_and_odd.packages even_and_odd.texts [] (((codes "main.go"), even_and_odd_t0) ∷ []) (codes "main.go:4:42: kept example.com/m.Odd: recursive\nmain.go:7:41: kept example.com/m.Even: recursive\nmain.go:10:10: kept example.com/m.Even: recursive\n")
even_and_odd_run = even_and_odd_inlined even_and_odd_t0_found

-- A constant keeps its type.
abbrev stop_f0 : File Span
stop_f0 = record { package_name = (nm 8 12 (codes "main")); imports = []; decls = ((fn (at 30 66) None (nm 35 39 (codes "Stop")) (sig ((param (at 40 49) (Some (nm 40 44 (codes "code"))) (named (at 45 49) None (nm 45 49 (codes "int8")))) ∷ []) []) (at 51 66) (stmt_and (eval (at 53 64) (call (at 53 64) (ident (at 53 58) (codes "panic")) (expr_and (ident (at 59 63) (codes "code")) no_exprs) Plain)) no_stmts)) ∷ (fn (at 68 92) None (nm 73 77 (codes "main")) (sig [] []) (at 80 92) (stmt_and (eval (at 83 90) (call (at 83 90) (ident (at 83 87) (codes "Stop")) (expr_and (int_lit (at 88 89) (codes "3")) no_exprs) Plain)) no_stmts)) ∷ []) }

abbrev stop : Module
stop = record { packages = (pack (codes "example.com/m") (codes "main") (source (codes "main.go") stop_f0 ∷ []) ∷ []); marks = (mark 0 0 0 0 ∷ []); texts = (((codes "main.go"), record { text = (codes "package main\n\n//go:fix inline\nfunc Stop(code int8) { panic(code) }\n\nfunc main() {\n\tStop(3)\n}\n"); tokens = ((tok Keyword 0 7 (codes "package")) ∷ (tok Ident 8 12 (codes "main")) ∷ (tok Inserted 12 12 (codes ";")) ∷ (tok Keyword 30 34 (codes "func")) ∷ (tok Ident 35 39 (codes "Stop")) ∷ (tok Operator 39 40 (codes "(")) ∷ (tok Ident 40 44 (codes "code")) ∷ (tok Ident 45 49 (codes "int8")) ∷ (tok Operator 49 50 (codes ")")) ∷ (tok Operator 51 52 (codes "{")) ∷ (tok Ident 53 58 (codes "panic")) ∷ (tok Operator 58 59 (codes "(")) ∷ (tok Ident 59 63 (codes "code")) ∷ (tok Operator 63 64 (codes ")")) ∷ (tok Operator 65 66 (codes "}")) ∷ (tok Inserted 66 66 (codes ";")) ∷ (tok Keyword 68 72 (codes "func")) ∷ (tok Ident 73 77 (codes "main")) ∷ (tok Operator 77 78 (codes "(")) ∷ (tok Operator 78 79 (codes ")")) ∷ (tok Operator 80 81 (codes "{")) ∷ (tok Ident 83 87 (codes "Stop")) ∷ (tok Operator 87 88 (codes "(")) ∷ (tok Integer 88 89 (codes "3")) ∷ (tok Operator 89 90 (codes ")")) ∷ (tok Inserted 90 90 (codes ";")) ∷ (tok Operator 91 92 (codes "}")) ∷ (tok Inserted 92 92 (codes ";")) ∷ []); comments = ((note 14 29) ∷ []) }) ∷ []) }

abbrev stop_t0 : FileText
stop_t0 = (record { text = (codes "package main\n\n//go:fix inline\nfunc Stop(code int8) { panic(code) }\n\nfunc main() {\n\tStop(3)\n}\n"); tokens = ((tok Keyword 0 7 (codes "package")) ∷ (tok Ident 8 12 (codes "main")) ∷ (tok Inserted 12 12 (codes ";")) ∷ (tok Keyword 30 34 (codes "func")) ∷ (tok Ident 35 39 (codes "Stop")) ∷ (tok Operator 39 40 (codes "(")) ∷ (tok Ident 40 44 (codes "code")) ∷ (tok Ident 45 49 (codes "int8")) ∷ (tok Operator 49 50 (codes ")")) ∷ (tok Operator 51 52 (codes "{")) ∷ (tok Ident 53 58 (codes "panic")) ∷ (tok Operator 58 59 (codes "(")) ∷ (tok Ident 59 63 (codes "code")) ∷ (tok Operator 63 64 (codes ")")) ∷ (tok Operator 65 66 (codes "}")) ∷ (tok Inserted 66 66 (codes ";")) ∷ (tok Keyword 68 72 (codes "func")) ∷ (tok Ident 73 77 (codes "main")) ∷ (tok Operator 77 78 (codes "(")) ∷ (tok Operator 78 79 (codes ")")) ∷ (tok Operator 80 81 (codes "{")) ∷ (tok Ident 83 87 (codes "Stop")) ∷ (tok Operator 87 88 (codes "(")) ∷ (tok Integer 88 89 (codes "3")) ∷ (tok Operator 89 90 (codes ")")) ∷ (tok Inserted 90 90 (codes ";")) ∷ (tok Operator 91 92 (codes "}")) ∷ (tok Inserted 92 92 (codes ";")) ∷ []); comments = ((note 14 29) ∷ []) })

stop_marks : marks_of stop.packages stop.texts [] ≡ stop.marks
unfolding passes keyword_spellings is_inline digits
stop_marks = refl

stop_spelled0 : read_at span_to read_front (lexemes stop_t0.tokens) ≡ Some (stop_f0, [])
unfolding reading
stop_spelled0 = refl

abbrev stop_start : Standing
stop_start = standing_as_read stop.packages stop.texts

abbrev stop_new : FileText
stop_new = (record { text = (codes "package main\n\n//go:fix inline\nfunc Stop(code int8) { panic(code) }\n\nfunc main() {\n\tpanic(int8(3))\n}\n"); tokens = ((tok Keyword 0 7 (codes "package")) ∷ (tok Ident 8 12 (codes "main")) ∷ (tok Inserted 12 12 (codes ";")) ∷ (tok Keyword 30 34 (codes "func")) ∷ (tok Ident 35 39 (codes "Stop")) ∷ (tok Operator 39 40 (codes "(")) ∷ (tok Ident 40 44 (codes "code")) ∷ (tok Ident 45 49 (codes "int8")) ∷ (tok Operator 49 50 (codes ")")) ∷ (tok Operator 51 52 (codes "{")) ∷ (tok Ident 53 58 (codes "panic")) ∷ (tok Operator 58 59 (codes "(")) ∷ (tok Ident 59 63 (codes "code")) ∷ (tok Operator 63 64 (codes ")")) ∷ (tok Operator 65 66 (codes "}")) ∷ (tok Inserted 66 66 (codes ";")) ∷ (tok Keyword 68 72 (codes "func")) ∷ (tok Ident 73 77 (codes "main")) ∷ (tok Operator 77 78 (codes "(")) ∷ (tok Operator 78 79 (codes ")")) ∷ (tok Operator 80 81 (codes "{")) ∷ (tok Ident 83 88 (codes "panic")) ∷ (tok Operator 88 89 (codes "(")) ∷ (tok Ident 89 93 (codes "int8")) ∷ (tok Operator 93 94 (codes "(")) ∷ (tok Integer 94 95 (codes "3")) ∷ (tok Operator 95 96 (codes ")")) ∷ (tok Operator 96 97 (codes ")")) ∷ (tok Inserted 97 97 (codes ";")) ∷ (tok Operator 98 99 (codes "}")) ∷ (tok Inserted 99 99 (codes ";")) ∷ []); comments = ((note 14 29) ∷ []) })

abbrev stop_tree : File At
stop_tree = record { package_name = (nmf 8 12 8 12 (codes "main")); imports = []; decls = ((fn (from 30 66 30 66) None (nmf 35 39 35 39 (codes "Stop")) (sig ((param (from 40 49 40 49) (Some (nmf 40 44 40 44 (codes "code"))) (named (from 45 49 45 49) None (nmf 45 49 45 49 (codes "int8")))) ∷ []) []) (from 51 66 51 66) (stmt_and (eval (from 53 64 53 64) (call (from 53 64 53 64) (ident (from 53 58 53 58) (codes "panic")) (expr_and (ident (from 59 63 59 63) (codes "code")) no_exprs) Plain)) no_stmts)) ∷ (fn (from 68 99 68 92) None (nmf 73 77 73 77 (codes "main")) (sig [] []) (from 80 99 80 92) (stmt_and (eval (from 83 97 83 90) (call (from 83 97 83 90) (ident (from 83 88 83 90) (codes "panic")) (expr_and (call (from 89 96 83 90) (ident (from 89 93 83 90) (codes "int8")) (expr_and (int_lit (from 94 95 88 89) (codes "3")) no_exprs) Plain) no_exprs) Plain)) no_stmts)) ∷ []) }

stop_steps : is_some (step_in stop.marks stop_start) ≡ true
unfolding passes keyword_spellings is_inline digits
stop_steps = refl

abbrev stop_next : TokensOf stop_new.text stop_new.tokens stop_new.comments → Next stop.marks stop_start (log_entry stop.marks stop_start (stop_steps) stop_t0 stop_new stop_tree) (stands_after stop.marks stop_start (stop_steps) stop_t0 stop_new stop_tree)
unfolding passes keyword_spellings is_inline digits reading stop_steps
stop_next h = next_by stop.marks stop_start (stop_steps) stop_t0 stop_new stop_tree refl refl h refl refl

-- the whole run, with the tokens of the texts
stop_inlined : (h0 : TokensOf stop_t0.text stop_t0.tokens stop_t0.comments) (h : TokensOf stop_new.text stop_new.tokens stop_new.comments) → IsInlining the_limits (folder small_module stop.texts) stop.packages stop.texts [] (((codes "main.go"), stop_new) ∷ []) (codes "main.go:7:2: inlined example.com/m.Stop as expr\n")
unfolding passes keyword_spellings is_inline digits reading stop_steps stop_next
stop_inlined h0 h = inlining_by the_limits (folder small_module stop.texts) stop.packages stop.texts [] stop.marks (stands_after stop.marks stop_start (stop_steps) stop_t0 stop_new stop_tree) (log_entry stop.marks stop_start (stop_steps) stop_t0 stop_new stop_tree ∷ []) (codes "main.go:7:2: inlined example.com/m.Stop as expr\n") stop_marks (module_by (codes "example.com/m") (module_text small_module) (record { path = codes "main.go"; text = stop_t0; tree = stop_f0; reads = record { scans = h0; spells = file_spelled stop_t0.tokens stop_f0 stop_spelled0 } } ∷ []) (folder small_module stop.texts) stop.packages stop.texts small_module_is refl refl refl refl refl refl refl refl refl) (goes_on stop_start (stands_after stop.marks stop_start (stop_steps) stop_t0 stop_new stop_tree) (stands_after stop.marks stop_start (stop_steps) stop_t0 stop_new stop_tree) (log_entry stop.marks stop_start (stop_steps) stop_t0 stop_new stop_tree) [] (stop_next h) (ends (stands_after stop.marks stop_start (stop_steps) stop_t0 stop_new stop_tree) refl)) (steps_on [] [] (log_entry stop.marks stop_start (stop_steps) stop_t0 stop_new stop_tree) stop_start (stands_after stop.marks stop_start (stop_steps) stop_t0 stop_new stop_tree) (stands_after stop.marks stop_start (stop_steps) stop_t0 stop_new stop_tree) (stop_next h) refl (begins (log_entry stop.marks stop_start (stop_steps) stop_t0 stop_new stop_tree ∷ []) (stands_after stop.marks stop_start (stop_steps) stop_t0 stop_new stop_tree))) (kept_by (log_entry stop.marks stop_start (stop_steps) stop_t0 stop_new stop_tree ∷ []) (codes "main.go") stop_t0.text stop_new.text [] [] refl refl run.none) refl

stop_t0_found : TokensOf stop_t0.text stop_t0.tokens stop_t0.comments
unfolding piece_of lexeme_of longest_from next_of tokens_from comments_from keyword_spellings is_letter is_digit general_category general_category_rows value_in lib.Utf8.encode
stop_t0_found = tokens_by stop_t0.text stop_t0.tokens stop_t0.comments refl refl refl

stop_new_found : TokensOf stop_new.text stop_new.tokens stop_new.comments
unfolding piece_of lexeme_of longest_from next_of tokens_from comments_from keyword_spellings is_letter is_digit general_category general_category_rows value_in lib.Utf8.encode
stop_new_found = tokens_by stop_new.text stop_new.tokens stop_new.comments refl refl refl

stop_run : IsInlining the_limits (folder small_module stop.texts) stop.packages stop.texts [] (((codes "main.go"), stop_new) ∷ []) (codes "main.go:7:2: inlined example.com/m.Stop as expr\n")
stop_run = stop_inlined stop_t0_found stop_new_found

-- A bound parameter of a statement.
abbrev log_block_f0 : File Span
log_block_f0 = record { package_name = (nm 8 12 (codes "main")); imports = []; decls = ((fn (at 30 66) None (nm 35 38 (codes "Log")) (sig ((param (at 39 47) (Some (nm 39 40 (codes "a"))) (named (at 44 47) None (nm 44 47 (codes "int")))) ∷ (param (at 42 47) (Some (nm 42 43 (codes "b"))) (named (at 44 47) None (nm 44 47 (codes "int")))) ∷ []) []) (at 49 66) (stmt_and (eval (at 51 64) (call (at 51 64) (ident (at 51 58) (codes "println")) (expr_and (ident (at 59 60) (codes "b")) (expr_and (ident (at 62 63) (codes "a")) no_exprs)) Plain)) no_stmts)) ∷ (fn (at 68 110) None (nm 73 77 (codes "next")) (sig [] ((param (at 80 83) None (named (at 80 83) None (nm 80 83 (codes "int")))) ∷ [])) (at 84 110) (stmt_and (eval (at 86 98) (call (at 86 98) (ident (at 86 93) (codes "println")) (expr_and (str_lit (at 94 97) (codes "\"n\"")) no_exprs) Plain)) (stmt_and (return_ (at 100 108) (expr_and (int_lit (at 107 108) (codes "1")) no_exprs)) no_stmts))) ∷ (fn (at 112 151) None (nm 117 118 (codes "g")) (sig [] ((param (at 121 124) None (named (at 121 124) None (nm 121 124 (codes "int")))) ∷ [])) (at 125 151) (stmt_and (eval (at 127 139) (call (at 127 139) (ident (at 127 134) (codes "println")) (expr_and (str_lit (at 135 138) (codes "\"g\"")) no_exprs) Plain)) (stmt_and (return_ (at 141 149) (expr_and (int_lit (at 148 149) (codes "1")) no_exprs)) no_stmts))) ∷ (fn (at 153 192) None (nm 158 159 (codes "h")) (sig [] ((param (at 162 165) None (named (at 162 165) None (nm 162 165 (codes "int")))) ∷ [])) (at 166 192) (stmt_and (eval (at 168 180) (call (at 168 180) (ident (at 168 175) (codes "println")) (expr_and (str_lit (at 176 179) (codes "\"h\"")) no_exprs) Plain)) (stmt_and (return_ (at 182 190) (expr_and (int_lit (at 189 190) (codes "1")) no_exprs)) no_stmts))) ∷ (fn (at 194 224) None (nm 199 203 (codes "main")) (sig [] []) (at 206 224) (stmt_and (eval (at 209 222) (call (at 209 222) (ident (at 209 212) (codes "Log")) (expr_and (call (at 213 216) (ident (at 213 214) (codes "g")) no_exprs Plain) (expr_and (call (at 218 221) (ident (at 218 219) (codes "h")) no_exprs Plain) no_exprs)) Plain)) no_stmts)) ∷ []) }

abbrev log_block : Module
log_block = record { packages = (pack (codes "example.com/m") (codes "main") (source (codes "main.go") log_block_f0 ∷ []) ∷ []); marks = (mark 0 0 0 0 ∷ []); texts = (((codes "main.go"), record { text = (codes "package main\n\n//go:fix inline\nfunc Log(a, b int) { println(b, a) }\n\nfunc next() int { println(\"n\"); return 1 }\n\nfunc g() int { println(\"g\"); return 1 }\n\nfunc h() int { println(\"h\"); return 1 }\n\nfunc main() {\n\tLog(g(), h())\n}\n"); tokens = ((tok Keyword 0 7 (codes "package")) ∷ (tok Ident 8 12 (codes "main")) ∷ (tok Inserted 12 12 (codes ";")) ∷ (tok Keyword 30 34 (codes "func")) ∷ (tok Ident 35 38 (codes "Log")) ∷ (tok Operator 38 39 (codes "(")) ∷ (tok Ident 39 40 (codes "a")) ∷ (tok Operator 40 41 (codes ",")) ∷ (tok Ident 42 43 (codes "b")) ∷ (tok Ident 44 47 (codes "int")) ∷ (tok Operator 47 48 (codes ")")) ∷ (tok Operator 49 50 (codes "{")) ∷ (tok Ident 51 58 (codes "println")) ∷ (tok Operator 58 59 (codes "(")) ∷ (tok Ident 59 60 (codes "b")) ∷ (tok Operator 60 61 (codes ",")) ∷ (tok Ident 62 63 (codes "a")) ∷ (tok Operator 63 64 (codes ")")) ∷ (tok Operator 65 66 (codes "}")) ∷ (tok Inserted 66 66 (codes ";")) ∷ (tok Keyword 68 72 (codes "func")) ∷ (tok Ident 73 77 (codes "next")) ∷ (tok Operator 77 78 (codes "(")) ∷ (tok Operator 78 79 (codes ")")) ∷ (tok Ident 80 83 (codes "int")) ∷ (tok Operator 84 85 (codes "{")) ∷ (tok Ident 86 93 (codes "println")) ∷ (tok Operator 93 94 (codes "(")) ∷ (tok Str 94 97 (codes "\"n\"")) ∷ (tok Operator 97 98 (codes ")")) ∷ (tok Operator 98 99 (codes ";")) ∷ (tok Keyword 100 106 (codes "return")) ∷ (tok Integer 107 108 (codes "1")) ∷ (tok Operator 109 110 (codes "}")) ∷ (tok Inserted 110 110 (codes ";")) ∷ (tok Keyword 112 116 (codes "func")) ∷ (tok Ident 117 118 (codes "g")) ∷ (tok Operator 118 119 (codes "(")) ∷ (tok Operator 119 120 (codes ")")) ∷ (tok Ident 121 124 (codes "int")) ∷ (tok Operator 125 126 (codes "{")) ∷ (tok Ident 127 134 (codes "println")) ∷ (tok Operator 134 135 (codes "(")) ∷ (tok Str 135 138 (codes "\"g\"")) ∷ (tok Operator 138 139 (codes ")")) ∷ (tok Operator 139 140 (codes ";")) ∷ (tok Keyword 141 147 (codes "return")) ∷ (tok Integer 148 149 (codes "1")) ∷ (tok Operator 150 151 (codes "}")) ∷ (tok Inserted 151 151 (codes ";")) ∷ (tok Keyword 153 157 (codes "func")) ∷ (tok Ident 158 159 (codes "h")) ∷ (tok Operator 159 160 (codes "(")) ∷ (tok Operator 160 161 (codes ")")) ∷ (tok Ident 162 165 (codes "int")) ∷ (tok Operator 166 167 (codes "{")) ∷ (tok Ident 168 175 (codes "println")) ∷ (tok Operator 175 176 (codes "(")) ∷ (tok Str 176 179 (codes "\"h\"")) ∷ (tok Operator 179 180 (codes ")")) ∷ (tok Operator 180 181 (codes ";")) ∷ (tok Keyword 182 188 (codes "return")) ∷ (tok Integer 189 190 (codes "1")) ∷ (tok Operator 191 192 (codes "}")) ∷ (tok Inserted 192 192 (codes ";")) ∷ (tok Keyword 194 198 (codes "func")) ∷ (tok Ident 199 203 (codes "main")) ∷ (tok Operator 203 204 (codes "(")) ∷ (tok Operator 204 205 (codes ")")) ∷ (tok Operator 206 207 (codes "{")) ∷ (tok Ident 209 212 (codes "Log")) ∷ (tok Operator 212 213 (codes "(")) ∷ (tok Ident 213 214 (codes "g")) ∷ (tok Operator 214 215 (codes "(")) ∷ (tok Operator 215 216 (codes ")")) ∷ (tok Operator 216 217 (codes ",")) ∷ (tok Ident 218 219 (codes "h")) ∷ (tok Operator 219 220 (codes "(")) ∷ (tok Operator 220 221 (codes ")")) ∷ (tok Operator 221 222 (codes ")")) ∷ (tok Inserted 222 222 (codes ";")) ∷ (tok Operator 223 224 (codes "}")) ∷ (tok Inserted 224 224 (codes ";")) ∷ []); comments = ((note 14 29) ∷ []) }) ∷ []) }

abbrev log_block_t0 : FileText
log_block_t0 = (record { text = (codes "package main\n\n//go:fix inline\nfunc Log(a, b int) { println(b, a) }\n\nfunc next() int { println(\"n\"); return 1 }\n\nfunc g() int { println(\"g\"); return 1 }\n\nfunc h() int { println(\"h\"); return 1 }\n\nfunc main() {\n\tLog(g(), h())\n}\n"); tokens = ((tok Keyword 0 7 (codes "package")) ∷ (tok Ident 8 12 (codes "main")) ∷ (tok Inserted 12 12 (codes ";")) ∷ (tok Keyword 30 34 (codes "func")) ∷ (tok Ident 35 38 (codes "Log")) ∷ (tok Operator 38 39 (codes "(")) ∷ (tok Ident 39 40 (codes "a")) ∷ (tok Operator 40 41 (codes ",")) ∷ (tok Ident 42 43 (codes "b")) ∷ (tok Ident 44 47 (codes "int")) ∷ (tok Operator 47 48 (codes ")")) ∷ (tok Operator 49 50 (codes "{")) ∷ (tok Ident 51 58 (codes "println")) ∷ (tok Operator 58 59 (codes "(")) ∷ (tok Ident 59 60 (codes "b")) ∷ (tok Operator 60 61 (codes ",")) ∷ (tok Ident 62 63 (codes "a")) ∷ (tok Operator 63 64 (codes ")")) ∷ (tok Operator 65 66 (codes "}")) ∷ (tok Inserted 66 66 (codes ";")) ∷ (tok Keyword 68 72 (codes "func")) ∷ (tok Ident 73 77 (codes "next")) ∷ (tok Operator 77 78 (codes "(")) ∷ (tok Operator 78 79 (codes ")")) ∷ (tok Ident 80 83 (codes "int")) ∷ (tok Operator 84 85 (codes "{")) ∷ (tok Ident 86 93 (codes "println")) ∷ (tok Operator 93 94 (codes "(")) ∷ (tok Str 94 97 (codes "\"n\"")) ∷ (tok Operator 97 98 (codes ")")) ∷ (tok Operator 98 99 (codes ";")) ∷ (tok Keyword 100 106 (codes "return")) ∷ (tok Integer 107 108 (codes "1")) ∷ (tok Operator 109 110 (codes "}")) ∷ (tok Inserted 110 110 (codes ";")) ∷ (tok Keyword 112 116 (codes "func")) ∷ (tok Ident 117 118 (codes "g")) ∷ (tok Operator 118 119 (codes "(")) ∷ (tok Operator 119 120 (codes ")")) ∷ (tok Ident 121 124 (codes "int")) ∷ (tok Operator 125 126 (codes "{")) ∷ (tok Ident 127 134 (codes "println")) ∷ (tok Operator 134 135 (codes "(")) ∷ (tok Str 135 138 (codes "\"g\"")) ∷ (tok Operator 138 139 (codes ")")) ∷ (tok Operator 139 140 (codes ";")) ∷ (tok Keyword 141 147 (codes "return")) ∷ (tok Integer 148 149 (codes "1")) ∷ (tok Operator 150 151 (codes "}")) ∷ (tok Inserted 151 151 (codes ";")) ∷ (tok Keyword 153 157 (codes "func")) ∷ (tok Ident 158 159 (codes "h")) ∷ (tok Operator 159 160 (codes "(")) ∷ (tok Operator 160 161 (codes ")")) ∷ (tok Ident 162 165 (codes "int")) ∷ (tok Operator 166 167 (codes "{")) ∷ (tok Ident 168 175 (codes "println")) ∷ (tok Operator 175 176 (codes "(")) ∷ (tok Str 176 179 (codes "\"h\"")) ∷ (tok Operator 179 180 (codes ")")) ∷ (tok Operator 180 181 (codes ";")) ∷ (tok Keyword 182 188 (codes "return")) ∷ (tok Integer 189 190 (codes "1")) ∷ (tok Operator 191 192 (codes "}")) ∷ (tok Inserted 192 192 (codes ";")) ∷ (tok Keyword 194 198 (codes "func")) ∷ (tok Ident 199 203 (codes "main")) ∷ (tok Operator 203 204 (codes "(")) ∷ (tok Operator 204 205 (codes ")")) ∷ (tok Operator 206 207 (codes "{")) ∷ (tok Ident 209 212 (codes "Log")) ∷ (tok Operator 212 213 (codes "(")) ∷ (tok Ident 213 214 (codes "g")) ∷ (tok Operator 214 215 (codes "(")) ∷ (tok Operator 215 216 (codes ")")) ∷ (tok Operator 216 217 (codes ",")) ∷ (tok Ident 218 219 (codes "h")) ∷ (tok Operator 219 220 (codes "(")) ∷ (tok Operator 220 221 (codes ")")) ∷ (tok Operator 221 222 (codes ")")) ∷ (tok Inserted 222 222 (codes ";")) ∷ (tok Operator 223 224 (codes "}")) ∷ (tok Inserted 224 224 (codes ";")) ∷ []); comments = ((note 14 29) ∷ []) })

log_block_marks : marks_of log_block.packages log_block.texts [] ≡ log_block.marks
unfolding passes keyword_spellings is_inline digits
log_block_marks = refl

log_block_spelled0 : read_at span_to read_front (lexemes log_block_t0.tokens) ≡ Some (log_block_f0, [])
unfolding reading
log_block_spelled0 = refl

abbrev log_block_start : Standing
log_block_start = standing_as_read log_block.packages log_block.texts

abbrev log_block_new : FileText
log_block_new = (record { text = (codes "package main\n\n//go:fix inline\nfunc Log(a, b int) { println(b, a) }\n\nfunc next() int { println(\"n\"); return 1 }\n\nfunc g() int { println(\"g\"); return 1 }\n\nfunc h() int { println(\"h\"); return 1 }\n\nfunc main() {\n\t{\n\t\ta := g()\n\t\tprintln(h(), a)\n\t}\n}\n"); tokens = ((tok Keyword 0 7 (codes "package")) ∷ (tok Ident 8 12 (codes "main")) ∷ (tok Inserted 12 12 (codes ";")) ∷ (tok Keyword 30 34 (codes "func")) ∷ (tok Ident 35 38 (codes "Log")) ∷ (tok Operator 38 39 (codes "(")) ∷ (tok Ident 39 40 (codes "a")) ∷ (tok Operator 40 41 (codes ",")) ∷ (tok Ident 42 43 (codes "b")) ∷ (tok Ident 44 47 (codes "int")) ∷ (tok Operator 47 48 (codes ")")) ∷ (tok Operator 49 50 (codes "{")) ∷ (tok Ident 51 58 (codes "println")) ∷ (tok Operator 58 59 (codes "(")) ∷ (tok Ident 59 60 (codes "b")) ∷ (tok Operator 60 61 (codes ",")) ∷ (tok Ident 62 63 (codes "a")) ∷ (tok Operator 63 64 (codes ")")) ∷ (tok Operator 65 66 (codes "}")) ∷ (tok Inserted 66 66 (codes ";")) ∷ (tok Keyword 68 72 (codes "func")) ∷ (tok Ident 73 77 (codes "next")) ∷ (tok Operator 77 78 (codes "(")) ∷ (tok Operator 78 79 (codes ")")) ∷ (tok Ident 80 83 (codes "int")) ∷ (tok Operator 84 85 (codes "{")) ∷ (tok Ident 86 93 (codes "println")) ∷ (tok Operator 93 94 (codes "(")) ∷ (tok Str 94 97 (codes "\"n\"")) ∷ (tok Operator 97 98 (codes ")")) ∷ (tok Operator 98 99 (codes ";")) ∷ (tok Keyword 100 106 (codes "return")) ∷ (tok Integer 107 108 (codes "1")) ∷ (tok Operator 109 110 (codes "}")) ∷ (tok Inserted 110 110 (codes ";")) ∷ (tok Keyword 112 116 (codes "func")) ∷ (tok Ident 117 118 (codes "g")) ∷ (tok Operator 118 119 (codes "(")) ∷ (tok Operator 119 120 (codes ")")) ∷ (tok Ident 121 124 (codes "int")) ∷ (tok Operator 125 126 (codes "{")) ∷ (tok Ident 127 134 (codes "println")) ∷ (tok Operator 134 135 (codes "(")) ∷ (tok Str 135 138 (codes "\"g\"")) ∷ (tok Operator 138 139 (codes ")")) ∷ (tok Operator 139 140 (codes ";")) ∷ (tok Keyword 141 147 (codes "return")) ∷ (tok Integer 148 149 (codes "1")) ∷ (tok Operator 150 151 (codes "}")) ∷ (tok Inserted 151 151 (codes ";")) ∷ (tok Keyword 153 157 (codes "func")) ∷ (tok Ident 158 159 (codes "h")) ∷ (tok Operator 159 160 (codes "(")) ∷ (tok Operator 160 161 (codes ")")) ∷ (tok Ident 162 165 (codes "int")) ∷ (tok Operator 166 167 (codes "{")) ∷ (tok Ident 168 175 (codes "println")) ∷ (tok Operator 175 176 (codes "(")) ∷ (tok Str 176 179 (codes "\"h\"")) ∷ (tok Operator 179 180 (codes ")")) ∷ (tok Operator 180 181 (codes ";")) ∷ (tok Keyword 182 188 (codes "return")) ∷ (tok Integer 189 190 (codes "1")) ∷ (tok Operator 191 192 (codes "}")) ∷ (tok Inserted 192 192 (codes ";")) ∷ (tok Keyword 194 198 (codes "func")) ∷ (tok Ident 199 203 (codes "main")) ∷ (tok Operator 203 204 (codes "(")) ∷ (tok Operator 204 205 (codes ")")) ∷ (tok Operator 206 207 (codes "{")) ∷ (tok Operator 209 210 (codes "{")) ∷ (tok Ident 213 214 (codes "a")) ∷ (tok Operator 215 217 (codes ":=")) ∷ (tok Ident 218 219 (codes "g")) ∷ (tok Operator 219 220 (codes "(")) ∷ (tok Operator 220 221 (codes ")")) ∷ (tok Inserted 221 221 (codes ";")) ∷ (tok Ident 224 231 (codes "println")) ∷ (tok Operator 231 232 (codes "(")) ∷ (tok Ident 232 233 (codes "h")) ∷ (tok Operator 233 234 (codes "(")) ∷ (tok Operator 234 235 (codes ")")) ∷ (tok Operator 235 236 (codes ",")) ∷ (tok Ident 237 238 (codes "a")) ∷ (tok Operator 238 239 (codes ")")) ∷ (tok Inserted 239 239 (codes ";")) ∷ (tok Operator 241 242 (codes "}")) ∷ (tok Inserted 242 242 (codes ";")) ∷ (tok Operator 243 244 (codes "}")) ∷ (tok Inserted 244 244 (codes ";")) ∷ []); comments = ((note 14 29) ∷ []) })

abbrev log_block_tree : File At
log_block_tree = record { package_name = (nmf 8 12 8 12 (codes "main")); imports = []; decls = ((fn (from 30 66 30 66) None (nmf 35 38 35 38 (codes "Log")) (sig ((param (from 39 47 39 47) (Some (nmf 39 40 39 40 (codes "a"))) (named (from 44 47 44 47) None (nmf 44 47 44 47 (codes "int")))) ∷ (param (from 42 47 42 47) (Some (nmf 42 43 42 43 (codes "b"))) (named (from 44 47 44 47) None (nmf 44 47 44 47 (codes "int")))) ∷ []) []) (from 49 66 49 66) (stmt_and (eval (from 51 64 51 64) (call (from 51 64 51 64) (ident (from 51 58 51 58) (codes "println")) (expr_and (ident (from 59 60 59 60) (codes "b")) (expr_and (ident (from 62 63 62 63) (codes "a")) no_exprs)) Plain)) no_stmts)) ∷ (fn (from 68 110 68 110) None (nmf 73 77 73 77 (codes "next")) (sig [] ((param (from 80 83 80 83) None (named (from 80 83 80 83) None (nmf 80 83 80 83 (codes "int")))) ∷ [])) (from 84 110 84 110) (stmt_and (eval (from 86 98 86 98) (call (from 86 98 86 98) (ident (from 86 93 86 93) (codes "println")) (expr_and (str_lit (from 94 97 94 97) (codes "\"n\"")) no_exprs) Plain)) (stmt_and (return_ (from 100 108 100 108) (expr_and (int_lit (from 107 108 107 108) (codes "1")) no_exprs)) no_stmts))) ∷ (fn (from 112 151 112 151) None (nmf 117 118 117 118 (codes "g")) (sig [] ((param (from 121 124 121 124) None (named (from 121 124 121 124) None (nmf 121 124 121 124 (codes "int")))) ∷ [])) (from 125 151 125 151) (stmt_and (eval (from 127 139 127 139) (call (from 127 139 127 139) (ident (from 127 134 127 134) (codes "println")) (expr_and (str_lit (from 135 138 135 138) (codes "\"g\"")) no_exprs) Plain)) (stmt_and (return_ (from 141 149 141 149) (expr_and (int_lit (from 148 149 148 149) (codes "1")) no_exprs)) no_stmts))) ∷ (fn (from 153 192 153 192) None (nmf 158 159 158 159 (codes "h")) (sig [] ((param (from 162 165 162 165) None (named (from 162 165 162 165) None (nmf 162 165 162 165 (codes "int")))) ∷ [])) (from 166 192 166 192) (stmt_and (eval (from 168 180 168 180) (call (from 168 180 168 180) (ident (from 168 175 168 175) (codes "println")) (expr_and (str_lit (from 176 179 176 179) (codes "\"h\"")) no_exprs) Plain)) (stmt_and (return_ (from 182 190 182 190) (expr_and (int_lit (from 189 190 189 190) (codes "1")) no_exprs)) no_stmts))) ∷ (fn (from 194 244 194 224) None (nmf 199 203 199 203 (codes "main")) (sig [] []) (from 206 244 206 224) (stmt_and (inner (from 209 242 209 222) (stmt_and (define (from 213 221 209 222) ((nmf 213 214 209 222 (codes "a")) ∷ []) (expr_and (call (from 218 221 213 216) (ident (from 218 219 213 214) (codes "g")) no_exprs Plain) no_exprs)) (stmt_and (eval (from 224 239 209 222) (call (from 224 239 209 222) (ident (from 224 231 209 222) (codes "println")) (expr_and (call (from 232 235 218 221) (ident (from 232 233 218 219) (codes "h")) no_exprs Plain) (expr_and (ident (from 237 238 209 222) (codes "a")) no_exprs)) Plain)) no_stmts))) no_stmts)) ∷ []) }

log_block_steps : is_some (step_in log_block.marks log_block_start) ≡ true
unfolding passes keyword_spellings is_inline digits
log_block_steps = refl

abbrev log_block_next : TokensOf log_block_new.text log_block_new.tokens log_block_new.comments → Next log_block.marks log_block_start (log_entry log_block.marks log_block_start (log_block_steps) log_block_t0 log_block_new log_block_tree) (stands_after log_block.marks log_block_start (log_block_steps) log_block_t0 log_block_new log_block_tree)
unfolding passes keyword_spellings is_inline digits reading log_block_steps
log_block_next h = next_by log_block.marks log_block_start (log_block_steps) log_block_t0 log_block_new log_block_tree refl refl h refl refl

-- the whole run, with the tokens of the texts
log_block_inlined : (h0 : TokensOf log_block_t0.text log_block_t0.tokens log_block_t0.comments) (h : TokensOf log_block_new.text log_block_new.tokens log_block_new.comments) → IsInlining the_limits (folder small_module log_block.texts) log_block.packages log_block.texts [] (((codes "main.go"), log_block_new) ∷ []) (codes "main.go:13:2: inlined example.com/m.Log as block\n")
unfolding passes keyword_spellings is_inline digits reading log_block_steps log_block_next
log_block_inlined h0 h = inlining_by the_limits (folder small_module log_block.texts) log_block.packages log_block.texts [] log_block.marks (stands_after log_block.marks log_block_start (log_block_steps) log_block_t0 log_block_new log_block_tree) (log_entry log_block.marks log_block_start (log_block_steps) log_block_t0 log_block_new log_block_tree ∷ []) (codes "main.go:13:2: inlined example.com/m.Log as block\n") log_block_marks (module_by (codes "example.com/m") (module_text small_module) (record { path = codes "main.go"; text = log_block_t0; tree = log_block_f0; reads = record { scans = h0; spells = file_spelled log_block_t0.tokens log_block_f0 log_block_spelled0 } } ∷ []) (folder small_module log_block.texts) log_block.packages log_block.texts small_module_is refl refl refl refl refl refl refl refl refl) (goes_on log_block_start (stands_after log_block.marks log_block_start (log_block_steps) log_block_t0 log_block_new log_block_tree) (stands_after log_block.marks log_block_start (log_block_steps) log_block_t0 log_block_new log_block_tree) (log_entry log_block.marks log_block_start (log_block_steps) log_block_t0 log_block_new log_block_tree) [] (log_block_next h) (ends (stands_after log_block.marks log_block_start (log_block_steps) log_block_t0 log_block_new log_block_tree) refl)) (steps_on [] [] (log_entry log_block.marks log_block_start (log_block_steps) log_block_t0 log_block_new log_block_tree) log_block_start (stands_after log_block.marks log_block_start (log_block_steps) log_block_t0 log_block_new log_block_tree) (stands_after log_block.marks log_block_start (log_block_steps) log_block_t0 log_block_new log_block_tree) (log_block_next h) refl (begins (log_entry log_block.marks log_block_start (log_block_steps) log_block_t0 log_block_new log_block_tree ∷ []) (stands_after log_block.marks log_block_start (log_block_steps) log_block_t0 log_block_new log_block_tree))) (kept_by (log_entry log_block.marks log_block_start (log_block_steps) log_block_t0 log_block_new log_block_tree ∷ []) (codes "main.go") log_block_t0.text log_block_new.text [] [] refl refl run.none) refl

log_block_t0_found : TokensOf log_block_t0.text log_block_t0.tokens log_block_t0.comments
unfolding piece_of lexeme_of longest_from next_of tokens_from comments_from keyword_spellings is_letter is_digit general_category general_category_rows value_in lib.Utf8.encode
log_block_t0_found = tokens_by log_block_t0.text log_block_t0.tokens log_block_t0.comments refl refl refl

log_block_new_found : TokensOf log_block_new.text log_block_new.tokens log_block_new.comments
unfolding piece_of lexeme_of longest_from next_of tokens_from comments_from keyword_spellings is_letter is_digit general_category general_category_rows value_in lib.Utf8.encode
log_block_new_found = tokens_by log_block_new.text log_block_new.tokens log_block_new.comments refl refl refl

log_block_run : IsInlining the_limits (folder small_module log_block.texts) log_block.packages log_block.texts [] (((codes "main.go"), log_block_new) ∷ []) (codes "main.go:13:2: inlined example.com/m.Log as block\n")
log_block_run = log_block_inlined log_block_t0_found log_block_new_found

-- A deferred call.
abbrev deferred_close_f0 : File Span
deferred_close_f0 = record { package_name = (nm 8 12 (codes "main")); imports = []; decls = ((fn (at 30 72) None (nm 35 40 (codes "Close")) (sig ((param (at 41 46) (Some (nm 41 42 (codes "n"))) (named (at 43 46) None (nm 43 46 (codes "int")))) ∷ []) []) (at 48 72) (stmt_and (eval (at 50 70) (call (at 50 70) (ident (at 50 57) (codes "println")) (expr_and (str_lit (at 58 66) (codes "\"closed\"")) (expr_and (ident (at 68 69) (codes "n")) no_exprs)) Plain)) no_stmts)) ∷ (fn (at 74 113) None (nm 79 83 (codes "main")) (sig [] []) (at 86 113) (stmt_and (define (at 89 95) ((nm 89 90 (codes "v")) ∷ []) (expr_and (int_lit (at 94 95) (codes "1")) no_exprs)) (stmt_and (defer (at 97 111) (call (at 103 111) (ident (at 103 108) (codes "Close")) (expr_and (ident (at 109 110) (codes "v")) no_exprs) Plain)) no_stmts))) ∷ []) }

abbrev deferred_close : Module
deferred_close = record { packages = (pack (codes "example.com/m") (codes "main") (source (codes "main.go") deferred_close_f0 ∷ []) ∷ []); marks = (mark 0 0 0 0 ∷ []); texts = (((codes "main.go"), record { text = (codes "package main\n\n//go:fix inline\nfunc Close(n int) { println(\"closed\", n) }\n\nfunc main() {\n\tv := 1\n\tdefer Close(v)\n}\n"); tokens = ((tok Keyword 0 7 (codes "package")) ∷ (tok Ident 8 12 (codes "main")) ∷ (tok Inserted 12 12 (codes ";")) ∷ (tok Keyword 30 34 (codes "func")) ∷ (tok Ident 35 40 (codes "Close")) ∷ (tok Operator 40 41 (codes "(")) ∷ (tok Ident 41 42 (codes "n")) ∷ (tok Ident 43 46 (codes "int")) ∷ (tok Operator 46 47 (codes ")")) ∷ (tok Operator 48 49 (codes "{")) ∷ (tok Ident 50 57 (codes "println")) ∷ (tok Operator 57 58 (codes "(")) ∷ (tok Str 58 66 (codes "\"closed\"")) ∷ (tok Operator 66 67 (codes ",")) ∷ (tok Ident 68 69 (codes "n")) ∷ (tok Operator 69 70 (codes ")")) ∷ (tok Operator 71 72 (codes "}")) ∷ (tok Inserted 72 72 (codes ";")) ∷ (tok Keyword 74 78 (codes "func")) ∷ (tok Ident 79 83 (codes "main")) ∷ (tok Operator 83 84 (codes "(")) ∷ (tok Operator 84 85 (codes ")")) ∷ (tok Operator 86 87 (codes "{")) ∷ (tok Ident 89 90 (codes "v")) ∷ (tok Operator 91 93 (codes ":=")) ∷ (tok Integer 94 95 (codes "1")) ∷ (tok Inserted 95 95 (codes ";")) ∷ (tok Keyword 97 102 (codes "defer")) ∷ (tok Ident 103 108 (codes "Close")) ∷ (tok Operator 108 109 (codes "(")) ∷ (tok Ident 109 110 (codes "v")) ∷ (tok Operator 110 111 (codes ")")) ∷ (tok Inserted 111 111 (codes ";")) ∷ (tok Operator 112 113 (codes "}")) ∷ (tok Inserted 113 113 (codes ";")) ∷ []); comments = ((note 14 29) ∷ []) }) ∷ []) }

abbrev deferred_close_t0 : FileText
deferred_close_t0 = (record { text = (codes "package main\n\n//go:fix inline\nfunc Close(n int) { println(\"closed\", n) }\n\nfunc main() {\n\tv := 1\n\tdefer Close(v)\n}\n"); tokens = ((tok Keyword 0 7 (codes "package")) ∷ (tok Ident 8 12 (codes "main")) ∷ (tok Inserted 12 12 (codes ";")) ∷ (tok Keyword 30 34 (codes "func")) ∷ (tok Ident 35 40 (codes "Close")) ∷ (tok Operator 40 41 (codes "(")) ∷ (tok Ident 41 42 (codes "n")) ∷ (tok Ident 43 46 (codes "int")) ∷ (tok Operator 46 47 (codes ")")) ∷ (tok Operator 48 49 (codes "{")) ∷ (tok Ident 50 57 (codes "println")) ∷ (tok Operator 57 58 (codes "(")) ∷ (tok Str 58 66 (codes "\"closed\"")) ∷ (tok Operator 66 67 (codes ",")) ∷ (tok Ident 68 69 (codes "n")) ∷ (tok Operator 69 70 (codes ")")) ∷ (tok Operator 71 72 (codes "}")) ∷ (tok Inserted 72 72 (codes ";")) ∷ (tok Keyword 74 78 (codes "func")) ∷ (tok Ident 79 83 (codes "main")) ∷ (tok Operator 83 84 (codes "(")) ∷ (tok Operator 84 85 (codes ")")) ∷ (tok Operator 86 87 (codes "{")) ∷ (tok Ident 89 90 (codes "v")) ∷ (tok Operator 91 93 (codes ":=")) ∷ (tok Integer 94 95 (codes "1")) ∷ (tok Inserted 95 95 (codes ";")) ∷ (tok Keyword 97 102 (codes "defer")) ∷ (tok Ident 103 108 (codes "Close")) ∷ (tok Operator 108 109 (codes "(")) ∷ (tok Ident 109 110 (codes "v")) ∷ (tok Operator 110 111 (codes ")")) ∷ (tok Inserted 111 111 (codes ";")) ∷ (tok Operator 112 113 (codes "}")) ∷ (tok Inserted 113 113 (codes ";")) ∷ []); comments = ((note 14 29) ∷ []) })

deferred_close_marks : marks_of deferred_close.packages deferred_close.texts [] ≡ deferred_close.marks
unfolding passes keyword_spellings is_inline digits
deferred_close_marks = refl

deferred_close_spelled0 : read_at span_to read_front (lexemes deferred_close_t0.tokens) ≡ Some (deferred_close_f0, [])
unfolding reading
deferred_close_spelled0 = refl

abbrev deferred_close_start : Standing
deferred_close_start = standing_as_read deferred_close.packages deferred_close.texts

abbrev deferred_close_new : FileText
deferred_close_new = (record { text = (codes "package main\n\n//go:fix inline\nfunc Close(n int) { println(\"closed\", n) }\n\nfunc main() {\n\tv := 1\n\tdefer func(n int) {\n\t\tprintln(\"closed\", n)\n\t}(v)\n}\n"); tokens = ((tok Keyword 0 7 (codes "package")) ∷ (tok Ident 8 12 (codes "main")) ∷ (tok Inserted 12 12 (codes ";")) ∷ (tok Keyword 30 34 (codes "func")) ∷ (tok Ident 35 40 (codes "Close")) ∷ (tok Operator 40 41 (codes "(")) ∷ (tok Ident 41 42 (codes "n")) ∷ (tok Ident 43 46 (codes "int")) ∷ (tok Operator 46 47 (codes ")")) ∷ (tok Operator 48 49 (codes "{")) ∷ (tok Ident 50 57 (codes "println")) ∷ (tok Operator 57 58 (codes "(")) ∷ (tok Str 58 66 (codes "\"closed\"")) ∷ (tok Operator 66 67 (codes ",")) ∷ (tok Ident 68 69 (codes "n")) ∷ (tok Operator 69 70 (codes ")")) ∷ (tok Operator 71 72 (codes "}")) ∷ (tok Inserted 72 72 (codes ";")) ∷ (tok Keyword 74 78 (codes "func")) ∷ (tok Ident 79 83 (codes "main")) ∷ (tok Operator 83 84 (codes "(")) ∷ (tok Operator 84 85 (codes ")")) ∷ (tok Operator 86 87 (codes "{")) ∷ (tok Ident 89 90 (codes "v")) ∷ (tok Operator 91 93 (codes ":=")) ∷ (tok Integer 94 95 (codes "1")) ∷ (tok Inserted 95 95 (codes ";")) ∷ (tok Keyword 97 102 (codes "defer")) ∷ (tok Keyword 103 107 (codes "func")) ∷ (tok Operator 107 108 (codes "(")) ∷ (tok Ident 108 109 (codes "n")) ∷ (tok Ident 110 113 (codes "int")) ∷ (tok Operator 113 114 (codes ")")) ∷ (tok Operator 115 116 (codes "{")) ∷ (tok Ident 119 126 (codes "println")) ∷ (tok Operator 126 127 (codes "(")) ∷ (tok Str 127 135 (codes "\"closed\"")) ∷ (tok Operator 135 136 (codes ",")) ∷ (tok Ident 137 138 (codes "n")) ∷ (tok Operator 138 139 (codes ")")) ∷ (tok Inserted 139 139 (codes ";")) ∷ (tok Operator 141 142 (codes "}")) ∷ (tok Operator 142 143 (codes "(")) ∷ (tok Ident 143 144 (codes "v")) ∷ (tok Operator 144 145 (codes ")")) ∷ (tok Inserted 145 145 (codes ";")) ∷ (tok Operator 146 147 (codes "}")) ∷ (tok Inserted 147 147 (codes ";")) ∷ []); comments = ((note 14 29) ∷ []) })

abbrev deferred_close_tree : File At
deferred_close_tree = record { package_name = (nmf 8 12 8 12 (codes "main")); imports = []; decls = ((fn (from 30 72 30 72) None (nmf 35 40 35 40 (codes "Close")) (sig ((param (from 41 46 41 46) (Some (nmf 41 42 41 42 (codes "n"))) (named (from 43 46 43 46) None (nmf 43 46 43 46 (codes "int")))) ∷ []) []) (from 48 72 48 72) (stmt_and (eval (from 50 70 50 70) (call (from 50 70 50 70) (ident (from 50 57 50 57) (codes "println")) (expr_and (str_lit (from 58 66 58 66) (codes "\"closed\"")) (expr_and (ident (from 68 69 68 69) (codes "n")) no_exprs)) Plain)) no_stmts)) ∷ (fn (from 74 147 74 113) None (nmf 79 83 79 83 (codes "main")) (sig [] []) (from 86 147 86 113) (stmt_and (define (from 89 95 89 95) ((nmf 89 90 89 90 (codes "v")) ∷ []) (expr_and (int_lit (from 94 95 94 95) (codes "1")) no_exprs)) (stmt_and (defer (from 97 145 97 111) (call (from 103 145 103 111) (func_lit (from 103 142 103 111) (sig ((param (from 108 113 103 111) (Some (nmf 108 109 103 111 (codes "n"))) (named (from 110 113 103 111) None (nmf 110 113 103 111 (codes "int")))) ∷ []) []) (from 115 142 103 111) (stmt_and (eval (from 119 139 103 111) (call (from 119 139 103 111) (ident (from 119 126 103 111) (codes "println")) (expr_and (str_lit (from 127 135 103 111) (codes "\"closed\"")) (expr_and (ident (from 137 138 103 111) (codes "n")) no_exprs)) Plain)) no_stmts)) (expr_and (ident (from 143 144 109 110) (codes "v")) no_exprs) Plain)) no_stmts))) ∷ []) }

deferred_close_steps : is_some (step_in deferred_close.marks deferred_close_start) ≡ true
unfolding passes keyword_spellings is_inline digits
deferred_close_steps = refl

abbrev deferred_close_next : TokensOf deferred_close_new.text deferred_close_new.tokens deferred_close_new.comments → Next deferred_close.marks deferred_close_start (log_entry deferred_close.marks deferred_close_start (deferred_close_steps) deferred_close_t0 deferred_close_new deferred_close_tree) (stands_after deferred_close.marks deferred_close_start (deferred_close_steps) deferred_close_t0 deferred_close_new deferred_close_tree)
unfolding passes keyword_spellings is_inline digits reading deferred_close_steps
deferred_close_next h = next_by deferred_close.marks deferred_close_start (deferred_close_steps) deferred_close_t0 deferred_close_new deferred_close_tree refl refl h refl refl

-- the whole run, with the tokens of the texts
deferred_close_inlined : (h0 : TokensOf deferred_close_t0.text deferred_close_t0.tokens deferred_close_t0.comments) (h : TokensOf deferred_close_new.text deferred_close_new.tokens deferred_close_new.comments) → IsInlining the_limits (folder small_module deferred_close.texts) deferred_close.packages deferred_close.texts [] (((codes "main.go"), deferred_close_new) ∷ []) (codes "main.go:8:8: inlined example.com/m.Close as literal\n")
unfolding passes keyword_spellings is_inline digits reading deferred_close_steps deferred_close_next
deferred_close_inlined h0 h = inlining_by the_limits (folder small_module deferred_close.texts) deferred_close.packages deferred_close.texts [] deferred_close.marks (stands_after deferred_close.marks deferred_close_start (deferred_close_steps) deferred_close_t0 deferred_close_new deferred_close_tree) (log_entry deferred_close.marks deferred_close_start (deferred_close_steps) deferred_close_t0 deferred_close_new deferred_close_tree ∷ []) (codes "main.go:8:8: inlined example.com/m.Close as literal\n") deferred_close_marks (module_by (codes "example.com/m") (module_text small_module) (record { path = codes "main.go"; text = deferred_close_t0; tree = deferred_close_f0; reads = record { scans = h0; spells = file_spelled deferred_close_t0.tokens deferred_close_f0 deferred_close_spelled0 } } ∷ []) (folder small_module deferred_close.texts) deferred_close.packages deferred_close.texts small_module_is refl refl refl refl refl refl refl refl refl) (goes_on deferred_close_start (stands_after deferred_close.marks deferred_close_start (deferred_close_steps) deferred_close_t0 deferred_close_new deferred_close_tree) (stands_after deferred_close.marks deferred_close_start (deferred_close_steps) deferred_close_t0 deferred_close_new deferred_close_tree) (log_entry deferred_close.marks deferred_close_start (deferred_close_steps) deferred_close_t0 deferred_close_new deferred_close_tree) [] (deferred_close_next h) (ends (stands_after deferred_close.marks deferred_close_start (deferred_close_steps) deferred_close_t0 deferred_close_new deferred_close_tree) refl)) (steps_on [] [] (log_entry deferred_close.marks deferred_close_start (deferred_close_steps) deferred_close_t0 deferred_close_new deferred_close_tree) deferred_close_start (stands_after deferred_close.marks deferred_close_start (deferred_close_steps) deferred_close_t0 deferred_close_new deferred_close_tree) (stands_after deferred_close.marks deferred_close_start (deferred_close_steps) deferred_close_t0 deferred_close_new deferred_close_tree) (deferred_close_next h) refl (begins (log_entry deferred_close.marks deferred_close_start (deferred_close_steps) deferred_close_t0 deferred_close_new deferred_close_tree ∷ []) (stands_after deferred_close.marks deferred_close_start (deferred_close_steps) deferred_close_t0 deferred_close_new deferred_close_tree))) (kept_by (log_entry deferred_close.marks deferred_close_start (deferred_close_steps) deferred_close_t0 deferred_close_new deferred_close_tree ∷ []) (codes "main.go") deferred_close_t0.text deferred_close_new.text [] [] refl refl run.none) refl

deferred_close_t0_found : TokensOf deferred_close_t0.text deferred_close_t0.tokens deferred_close_t0.comments
unfolding piece_of lexeme_of longest_from next_of tokens_from comments_from keyword_spellings is_letter is_digit general_category general_category_rows value_in lib.Utf8.encode
deferred_close_t0_found = tokens_by deferred_close_t0.text deferred_close_t0.tokens deferred_close_t0.comments refl refl refl

deferred_close_new_found : TokensOf deferred_close_new.text deferred_close_new.tokens deferred_close_new.comments
unfolding piece_of lexeme_of longest_from next_of tokens_from comments_from keyword_spellings is_letter is_digit general_category general_category_rows value_in lib.Utf8.encode
deferred_close_new_found = tokens_by deferred_close_new.text deferred_close_new.tokens deferred_close_new.comments refl refl refl

deferred_close_run : IsInlining the_limits (folder small_module deferred_close.texts) deferred_close.packages deferred_close.texts [] (((codes "main.go"), deferred_close_new) ∷ []) (codes "main.go:8:8: inlined example.com/m.Close as literal\n")
deferred_close_run = deferred_close_inlined deferred_close_t0_found deferred_close_new_found

-- A method: its full name has the type.
abbrev spread_add_f0 : File Span
spread_add_f0 = record { package_name = (nm 8 12 (codes "main")); imports = []; decls = ((types (at 14 36) false ((tspec (at 19 36) (nm 19 20 (codes "C")) false (struct_type (at 21 36) (field (at 29 34) (nm 29 30 (codes "n")) (named (at 31 34) None (nm 31 34 (codes "int"))) no_fields))) ∷ [])) ∷ (fn (at 54 105) (Some (recv (at 60 63) (Some (nm 60 61 (codes "c"))) false (nm 62 63 (codes "C")))) (nm 65 68 (codes "Add")) (sig ((param (at 69 77) (Some (nm 69 70 (codes "a"))) (named (at 74 77) None (nm 74 77 (codes "int")))) ∷ (param (at 72 77) (Some (nm 72 73 (codes "b"))) (named (at 74 77) None (nm 74 77 (codes "int")))) ∷ []) ((param (at 79 82) None (named (at 79 82) None (nm 79 82 (codes "int")))) ∷ [])) (at 83 105) (stmt_and (return_ (at 85 103) (expr_and (binary (at 92 103) Add (binary (at 92 99) Add (selector (at 92 95) (ident (at 92 93) (codes "c")) (nm 94 95 (codes "n"))) (ident (at 98 99) (codes "a"))) (ident (at 102 103) (codes "b"))) no_exprs)) no_stmts)) ∷ (fn (at 107 144) None (nm 112 115 (codes "two")) (sig [] ((param (at 119 122) None (named (at 119 122) None (nm 119 122 (codes "int")))) ∷ (param (at 124 127) None (named (at 124 127) None (nm 124 127 (codes "int")))) ∷ [])) (at 129 144) (stmt_and (return_ (at 131 142) (expr_and (int_lit (at 138 139) (codes "1")) (expr_and (int_lit (at 141 142) (codes "2")) no_exprs))) no_stmts)) ∷ (fn (at 146 195) None (nm 151 155 (codes "main")) (sig [] []) (at 158 195) (stmt_and (define (at 161 170) ((nm 161 162 (codes "v")) ∷ []) (expr_and (composite (at 166 170) (named (at 166 167) None (nm 166 167 (codes "C"))) (elem (at 168 169) no_value (plain (int_lit (at 168 169) (codes "1"))) no_elems)) no_exprs)) (stmt_and (eval (at 172 193) (call (at 172 193) (ident (at 172 179) (codes "println")) (expr_and (call (at 180 192) (selector (at 180 185) (ident (at 180 181) (codes "v")) (nm 182 185 (codes "Add"))) (expr_and (call (at 186 191) (ident (at 186 189) (codes "two")) no_exprs Plain) no_exprs) Plain) no_exprs) Plain)) no_stmts))) ∷ []) }

abbrev spread_add : Module
spread_add = record { packages = (pack (codes "example.com/m") (codes "main") (source (codes "main.go") spread_add_f0 ∷ []) ∷ []); marks = (mark 0 0 1 0 ∷ []); texts = (((codes "main.go"), record { text = (codes "package main\n\ntype C struct{ n int }\n\n//go:fix inline\nfunc (c C) Add(a, b int) int { return c.n + a + b }\n\nfunc two() (int, int) { return 1, 2 }\n\nfunc main() {\n\tv := C{1}\n\tprintln(v.Add(two()))\n}\n"); tokens = ((tok Keyword 0 7 (codes "package")) ∷ (tok Ident 8 12 (codes "main")) ∷ (tok Inserted 12 12 (codes ";")) ∷ (tok Keyword 14 18 (codes "type")) ∷ (tok Ident 19 20 (codes "C")) ∷ (tok Keyword 21 27 (codes "struct")) ∷ (tok Operator 27 28 (codes "{")) ∷ (tok Ident 29 30 (codes "n")) ∷ (tok Ident 31 34 (codes "int")) ∷ (tok Operator 35 36 (codes "}")) ∷ (tok Inserted 36 36 (codes ";")) ∷ (tok Keyword 54 58 (codes "func")) ∷ (tok Operator 59 60 (codes "(")) ∷ (tok Ident 60 61 (codes "c")) ∷ (tok Ident 62 63 (codes "C")) ∷ (tok Operator 63 64 (codes ")")) ∷ (tok Ident 65 68 (codes "Add")) ∷ (tok Operator 68 69 (codes "(")) ∷ (tok Ident 69 70 (codes "a")) ∷ (tok Operator 70 71 (codes ",")) ∷ (tok Ident 72 73 (codes "b")) ∷ (tok Ident 74 77 (codes "int")) ∷ (tok Operator 77 78 (codes ")")) ∷ (tok Ident 79 82 (codes "int")) ∷ (tok Operator 83 84 (codes "{")) ∷ (tok Keyword 85 91 (codes "return")) ∷ (tok Ident 92 93 (codes "c")) ∷ (tok Operator 93 94 (codes ".")) ∷ (tok Ident 94 95 (codes "n")) ∷ (tok Operator 96 97 (codes "+")) ∷ (tok Ident 98 99 (codes "a")) ∷ (tok Operator 100 101 (codes "+")) ∷ (tok Ident 102 103 (codes "b")) ∷ (tok Operator 104 105 (codes "}")) ∷ (tok Inserted 105 105 (codes ";")) ∷ (tok Keyword 107 111 (codes "func")) ∷ (tok Ident 112 115 (codes "two")) ∷ (tok Operator 115 116 (codes "(")) ∷ (tok Operator 116 117 (codes ")")) ∷ (tok Operator 118 119 (codes "(")) ∷ (tok Ident 119 122 (codes "int")) ∷ (tok Operator 122 123 (codes ",")) ∷ (tok Ident 124 127 (codes "int")) ∷ (tok Operator 127 128 (codes ")")) ∷ (tok Operator 129 130 (codes "{")) ∷ (tok Keyword 131 137 (codes "return")) ∷ (tok Integer 138 139 (codes "1")) ∷ (tok Operator 139 140 (codes ",")) ∷ (tok Integer 141 142 (codes "2")) ∷ (tok Operator 143 144 (codes "}")) ∷ (tok Inserted 144 144 (codes ";")) ∷ (tok Keyword 146 150 (codes "func")) ∷ (tok Ident 151 155 (codes "main")) ∷ (tok Operator 155 156 (codes "(")) ∷ (tok Operator 156 157 (codes ")")) ∷ (tok Operator 158 159 (codes "{")) ∷ (tok Ident 161 162 (codes "v")) ∷ (tok Operator 163 165 (codes ":=")) ∷ (tok Ident 166 167 (codes "C")) ∷ (tok Operator 167 168 (codes "{")) ∷ (tok Integer 168 169 (codes "1")) ∷ (tok Operator 169 170 (codes "}")) ∷ (tok Inserted 170 170 (codes ";")) ∷ (tok Ident 172 179 (codes "println")) ∷ (tok Operator 179 180 (codes "(")) ∷ (tok Ident 180 181 (codes "v")) ∷ (tok Operator 181 182 (codes ".")) ∷ (tok Ident 182 185 (codes "Add")) ∷ (tok Operator 185 186 (codes "(")) ∷ (tok Ident 186 189 (codes "two")) ∷ (tok Operator 189 190 (codes "(")) ∷ (tok Operator 190 191 (codes ")")) ∷ (tok Operator 191 192 (codes ")")) ∷ (tok Operator 192 193 (codes ")")) ∷ (tok Inserted 193 193 (codes ";")) ∷ (tok Operator 194 195 (codes "}")) ∷ (tok Inserted 195 195 (codes ";")) ∷ []); comments = ((note 38 53) ∷ []) }) ∷ []) }

abbrev spread_add_t0 : FileText
spread_add_t0 = (record { text = (codes "package main\n\ntype C struct{ n int }\n\n//go:fix inline\nfunc (c C) Add(a, b int) int { return c.n + a + b }\n\nfunc two() (int, int) { return 1, 2 }\n\nfunc main() {\n\tv := C{1}\n\tprintln(v.Add(two()))\n}\n"); tokens = ((tok Keyword 0 7 (codes "package")) ∷ (tok Ident 8 12 (codes "main")) ∷ (tok Inserted 12 12 (codes ";")) ∷ (tok Keyword 14 18 (codes "type")) ∷ (tok Ident 19 20 (codes "C")) ∷ (tok Keyword 21 27 (codes "struct")) ∷ (tok Operator 27 28 (codes "{")) ∷ (tok Ident 29 30 (codes "n")) ∷ (tok Ident 31 34 (codes "int")) ∷ (tok Operator 35 36 (codes "}")) ∷ (tok Inserted 36 36 (codes ";")) ∷ (tok Keyword 54 58 (codes "func")) ∷ (tok Operator 59 60 (codes "(")) ∷ (tok Ident 60 61 (codes "c")) ∷ (tok Ident 62 63 (codes "C")) ∷ (tok Operator 63 64 (codes ")")) ∷ (tok Ident 65 68 (codes "Add")) ∷ (tok Operator 68 69 (codes "(")) ∷ (tok Ident 69 70 (codes "a")) ∷ (tok Operator 70 71 (codes ",")) ∷ (tok Ident 72 73 (codes "b")) ∷ (tok Ident 74 77 (codes "int")) ∷ (tok Operator 77 78 (codes ")")) ∷ (tok Ident 79 82 (codes "int")) ∷ (tok Operator 83 84 (codes "{")) ∷ (tok Keyword 85 91 (codes "return")) ∷ (tok Ident 92 93 (codes "c")) ∷ (tok Operator 93 94 (codes ".")) ∷ (tok Ident 94 95 (codes "n")) ∷ (tok Operator 96 97 (codes "+")) ∷ (tok Ident 98 99 (codes "a")) ∷ (tok Operator 100 101 (codes "+")) ∷ (tok Ident 102 103 (codes "b")) ∷ (tok Operator 104 105 (codes "}")) ∷ (tok Inserted 105 105 (codes ";")) ∷ (tok Keyword 107 111 (codes "func")) ∷ (tok Ident 112 115 (codes "two")) ∷ (tok Operator 115 116 (codes "(")) ∷ (tok Operator 116 117 (codes ")")) ∷ (tok Operator 118 119 (codes "(")) ∷ (tok Ident 119 122 (codes "int")) ∷ (tok Operator 122 123 (codes ",")) ∷ (tok Ident 124 127 (codes "int")) ∷ (tok Operator 127 128 (codes ")")) ∷ (tok Operator 129 130 (codes "{")) ∷ (tok Keyword 131 137 (codes "return")) ∷ (tok Integer 138 139 (codes "1")) ∷ (tok Operator 139 140 (codes ",")) ∷ (tok Integer 141 142 (codes "2")) ∷ (tok Operator 143 144 (codes "}")) ∷ (tok Inserted 144 144 (codes ";")) ∷ (tok Keyword 146 150 (codes "func")) ∷ (tok Ident 151 155 (codes "main")) ∷ (tok Operator 155 156 (codes "(")) ∷ (tok Operator 156 157 (codes ")")) ∷ (tok Operator 158 159 (codes "{")) ∷ (tok Ident 161 162 (codes "v")) ∷ (tok Operator 163 165 (codes ":=")) ∷ (tok Ident 166 167 (codes "C")) ∷ (tok Operator 167 168 (codes "{")) ∷ (tok Integer 168 169 (codes "1")) ∷ (tok Operator 169 170 (codes "}")) ∷ (tok Inserted 170 170 (codes ";")) ∷ (tok Ident 172 179 (codes "println")) ∷ (tok Operator 179 180 (codes "(")) ∷ (tok Ident 180 181 (codes "v")) ∷ (tok Operator 181 182 (codes ".")) ∷ (tok Ident 182 185 (codes "Add")) ∷ (tok Operator 185 186 (codes "(")) ∷ (tok Ident 186 189 (codes "two")) ∷ (tok Operator 189 190 (codes "(")) ∷ (tok Operator 190 191 (codes ")")) ∷ (tok Operator 191 192 (codes ")")) ∷ (tok Operator 192 193 (codes ")")) ∷ (tok Inserted 193 193 (codes ";")) ∷ (tok Operator 194 195 (codes "}")) ∷ (tok Inserted 195 195 (codes ";")) ∷ []); comments = ((note 38 53) ∷ []) })

spread_add_marks : marks_of spread_add.packages spread_add.texts [] ≡ spread_add.marks
unfolding passes keyword_spellings is_inline digits
spread_add_marks = refl

spread_add_spelled0 : read_at span_to read_front (lexemes spread_add_t0.tokens) ≡ Some (spread_add_f0, [])
unfolding reading
spread_add_spelled0 = refl

abbrev spread_add_start : Standing
spread_add_start = standing_as_read spread_add.packages spread_add.texts

-- the whole run, with the tokens of the texts
spread_add_inlined : (h0 : TokensOf spread_add_t0.text spread_add_t0.tokens spread_add_t0.comments) → IsInlining the_limits (folder small_module spread_add.texts) spread_add.packages spread_add.texts [] (((codes "main.go"), spread_add_t0) ∷ []) (codes "main.go:12:10: kept example.com/m.C.Add: spread arguments\n")
unfolding passes keyword_spellings is_inline digits reading
spread_add_inlined h0 = inlining_by the_limits (folder small_module spread_add.texts) spread_add.packages spread_add.texts [] spread_add.marks spread_add_start ([]) (codes "main.go:12:10: kept example.com/m.C.Add: spread arguments\n") spread_add_marks (module_by (codes "example.com/m") (module_text small_module) (record { path = codes "main.go"; text = spread_add_t0; tree = spread_add_f0; reads = record { scans = h0; spells = file_spelled spread_add_t0.tokens spread_add_f0 spread_add_spelled0 } } ∷ []) (folder small_module spread_add.texts) spread_add.packages spread_add.texts small_module_is refl refl refl refl refl refl refl refl refl) (ends spread_add_start refl) (begins [] spread_add_start) (kept_by ([]) (codes "main.go") spread_add_t0.text spread_add_t0.text [] [] refl refl run.none) refl

spread_add_t0_found : TokensOf spread_add_t0.text spread_add_t0.tokens spread_add_t0.comments
unfolding piece_of lexeme_of longest_from next_of tokens_from comments_from keyword_spellings is_letter is_digit general_category general_category_rows value_in lib.Utf8.encode
spread_add_t0_found = tokens_by spread_add_t0.text spread_add_t0.tokens spread_add_t0.comments refl refl refl

spread_add_run : IsInlining the_limits (folder small_module spread_add.texts) spread_add.packages spread_add.texts [] (((codes "main.go"), spread_add_t0) ∷ []) (codes "main.go:12:10: kept example.com/m.C.Add: spread arguments\n")
spread_add_run = spread_add_inlined spread_add_t0_found

-- A method with a pointer receiver.
abbrev get_method_f0 : File Span
get_method_f0 = record { package_name = (nm 8 12 (codes "main")); imports = []; decls = ((types (at 14 36) false ((tspec (at 19 36) (nm 19 20 (codes "C")) false (struct_type (at 21 36) (field (at 29 34) (nm 29 30 (codes "n")) (named (at 31 34) None (nm 31 34 (codes "int"))) no_fields))) ∷ [])) ∷ (fn (at 54 90) (Some (recv (at 60 64) (Some (nm 60 61 (codes "c"))) true (nm 63 64 (codes "C")))) (nm 66 69 (codes "Get")) (sig [] ((param (at 72 75) None (named (at 72 75) None (nm 72 75 (codes "int")))) ∷ [])) (at 76 90) (stmt_and (return_ (at 78 88) (expr_and (selector (at 85 88) (ident (at 85 86) (codes "c")) (nm 87 88 (codes "n"))) no_exprs)) no_stmts)) ∷ (fn (at 92 134) None (nm 97 101 (codes "main")) (sig [] []) (at 104 134) (stmt_and (var_decl (at 107 114) false (spec (at 111 114) ((nm 111 112 (codes "v")) ∷ []) (Some (named (at 113 114) None (nm 113 114 (codes "C")))) no_exprs no_specs)) (stmt_and (eval (at 116 132) (call (at 116 132) (ident (at 116 123) (codes "println")) (expr_and (call (at 124 131) (selector (at 124 129) (ident (at 124 125) (codes "v")) (nm 126 129 (codes "Get"))) no_exprs Plain) no_exprs) Plain)) no_stmts))) ∷ []) }

abbrev get_method : Module
get_method = record { packages = (pack (codes "example.com/m") (codes "main") (source (codes "main.go") get_method_f0 ∷ []) ∷ []); marks = (mark 0 0 1 0 ∷ []); texts = (((codes "main.go"), record { text = (codes "package main\n\ntype C struct{ n int }\n\n//go:fix inline\nfunc (c *C) Get() int { return c.n }\n\nfunc main() {\n\tvar v C\n\tprintln(v.Get())\n}\n"); tokens = ((tok Keyword 0 7 (codes "package")) ∷ (tok Ident 8 12 (codes "main")) ∷ (tok Inserted 12 12 (codes ";")) ∷ (tok Keyword 14 18 (codes "type")) ∷ (tok Ident 19 20 (codes "C")) ∷ (tok Keyword 21 27 (codes "struct")) ∷ (tok Operator 27 28 (codes "{")) ∷ (tok Ident 29 30 (codes "n")) ∷ (tok Ident 31 34 (codes "int")) ∷ (tok Operator 35 36 (codes "}")) ∷ (tok Inserted 36 36 (codes ";")) ∷ (tok Keyword 54 58 (codes "func")) ∷ (tok Operator 59 60 (codes "(")) ∷ (tok Ident 60 61 (codes "c")) ∷ (tok Operator 62 63 (codes "*")) ∷ (tok Ident 63 64 (codes "C")) ∷ (tok Operator 64 65 (codes ")")) ∷ (tok Ident 66 69 (codes "Get")) ∷ (tok Operator 69 70 (codes "(")) ∷ (tok Operator 70 71 (codes ")")) ∷ (tok Ident 72 75 (codes "int")) ∷ (tok Operator 76 77 (codes "{")) ∷ (tok Keyword 78 84 (codes "return")) ∷ (tok Ident 85 86 (codes "c")) ∷ (tok Operator 86 87 (codes ".")) ∷ (tok Ident 87 88 (codes "n")) ∷ (tok Operator 89 90 (codes "}")) ∷ (tok Inserted 90 90 (codes ";")) ∷ (tok Keyword 92 96 (codes "func")) ∷ (tok Ident 97 101 (codes "main")) ∷ (tok Operator 101 102 (codes "(")) ∷ (tok Operator 102 103 (codes ")")) ∷ (tok Operator 104 105 (codes "{")) ∷ (tok Keyword 107 110 (codes "var")) ∷ (tok Ident 111 112 (codes "v")) ∷ (tok Ident 113 114 (codes "C")) ∷ (tok Inserted 114 114 (codes ";")) ∷ (tok Ident 116 123 (codes "println")) ∷ (tok Operator 123 124 (codes "(")) ∷ (tok Ident 124 125 (codes "v")) ∷ (tok Operator 125 126 (codes ".")) ∷ (tok Ident 126 129 (codes "Get")) ∷ (tok Operator 129 130 (codes "(")) ∷ (tok Operator 130 131 (codes ")")) ∷ (tok Operator 131 132 (codes ")")) ∷ (tok Inserted 132 132 (codes ";")) ∷ (tok Operator 133 134 (codes "}")) ∷ (tok Inserted 134 134 (codes ";")) ∷ []); comments = ((note 38 53) ∷ []) }) ∷ []) }

abbrev get_method_t0 : FileText
get_method_t0 = (record { text = (codes "package main\n\ntype C struct{ n int }\n\n//go:fix inline\nfunc (c *C) Get() int { return c.n }\n\nfunc main() {\n\tvar v C\n\tprintln(v.Get())\n}\n"); tokens = ((tok Keyword 0 7 (codes "package")) ∷ (tok Ident 8 12 (codes "main")) ∷ (tok Inserted 12 12 (codes ";")) ∷ (tok Keyword 14 18 (codes "type")) ∷ (tok Ident 19 20 (codes "C")) ∷ (tok Keyword 21 27 (codes "struct")) ∷ (tok Operator 27 28 (codes "{")) ∷ (tok Ident 29 30 (codes "n")) ∷ (tok Ident 31 34 (codes "int")) ∷ (tok Operator 35 36 (codes "}")) ∷ (tok Inserted 36 36 (codes ";")) ∷ (tok Keyword 54 58 (codes "func")) ∷ (tok Operator 59 60 (codes "(")) ∷ (tok Ident 60 61 (codes "c")) ∷ (tok Operator 62 63 (codes "*")) ∷ (tok Ident 63 64 (codes "C")) ∷ (tok Operator 64 65 (codes ")")) ∷ (tok Ident 66 69 (codes "Get")) ∷ (tok Operator 69 70 (codes "(")) ∷ (tok Operator 70 71 (codes ")")) ∷ (tok Ident 72 75 (codes "int")) ∷ (tok Operator 76 77 (codes "{")) ∷ (tok Keyword 78 84 (codes "return")) ∷ (tok Ident 85 86 (codes "c")) ∷ (tok Operator 86 87 (codes ".")) ∷ (tok Ident 87 88 (codes "n")) ∷ (tok Operator 89 90 (codes "}")) ∷ (tok Inserted 90 90 (codes ";")) ∷ (tok Keyword 92 96 (codes "func")) ∷ (tok Ident 97 101 (codes "main")) ∷ (tok Operator 101 102 (codes "(")) ∷ (tok Operator 102 103 (codes ")")) ∷ (tok Operator 104 105 (codes "{")) ∷ (tok Keyword 107 110 (codes "var")) ∷ (tok Ident 111 112 (codes "v")) ∷ (tok Ident 113 114 (codes "C")) ∷ (tok Inserted 114 114 (codes ";")) ∷ (tok Ident 116 123 (codes "println")) ∷ (tok Operator 123 124 (codes "(")) ∷ (tok Ident 124 125 (codes "v")) ∷ (tok Operator 125 126 (codes ".")) ∷ (tok Ident 126 129 (codes "Get")) ∷ (tok Operator 129 130 (codes "(")) ∷ (tok Operator 130 131 (codes ")")) ∷ (tok Operator 131 132 (codes ")")) ∷ (tok Inserted 132 132 (codes ";")) ∷ (tok Operator 133 134 (codes "}")) ∷ (tok Inserted 134 134 (codes ";")) ∷ []); comments = ((note 38 53) ∷ []) })

get_method_marks : marks_of get_method.packages get_method.texts [] ≡ get_method.marks
unfolding passes keyword_spellings is_inline digits
get_method_marks = refl

get_method_spelled0 : read_at span_to read_front (lexemes get_method_t0.tokens) ≡ Some (get_method_f0, [])
unfolding reading
get_method_spelled0 = refl

abbrev get_method_start : Standing
get_method_start = standing_as_read get_method.packages get_method.texts

abbrev get_method_new : FileText
get_method_new = (record { text = (codes "package main\n\ntype C struct{ n int }\n\n//go:fix inline\nfunc (c *C) Get() int { return c.n }\n\nfunc main() {\n\tvar v C\n\tprintln((&v).n)\n}\n"); tokens = ((tok Keyword 0 7 (codes "package")) ∷ (tok Ident 8 12 (codes "main")) ∷ (tok Inserted 12 12 (codes ";")) ∷ (tok Keyword 14 18 (codes "type")) ∷ (tok Ident 19 20 (codes "C")) ∷ (tok Keyword 21 27 (codes "struct")) ∷ (tok Operator 27 28 (codes "{")) ∷ (tok Ident 29 30 (codes "n")) ∷ (tok Ident 31 34 (codes "int")) ∷ (tok Operator 35 36 (codes "}")) ∷ (tok Inserted 36 36 (codes ";")) ∷ (tok Keyword 54 58 (codes "func")) ∷ (tok Operator 59 60 (codes "(")) ∷ (tok Ident 60 61 (codes "c")) ∷ (tok Operator 62 63 (codes "*")) ∷ (tok Ident 63 64 (codes "C")) ∷ (tok Operator 64 65 (codes ")")) ∷ (tok Ident 66 69 (codes "Get")) ∷ (tok Operator 69 70 (codes "(")) ∷ (tok Operator 70 71 (codes ")")) ∷ (tok Ident 72 75 (codes "int")) ∷ (tok Operator 76 77 (codes "{")) ∷ (tok Keyword 78 84 (codes "return")) ∷ (tok Ident 85 86 (codes "c")) ∷ (tok Operator 86 87 (codes ".")) ∷ (tok Ident 87 88 (codes "n")) ∷ (tok Operator 89 90 (codes "}")) ∷ (tok Inserted 90 90 (codes ";")) ∷ (tok Keyword 92 96 (codes "func")) ∷ (tok Ident 97 101 (codes "main")) ∷ (tok Operator 101 102 (codes "(")) ∷ (tok Operator 102 103 (codes ")")) ∷ (tok Operator 104 105 (codes "{")) ∷ (tok Keyword 107 110 (codes "var")) ∷ (tok Ident 111 112 (codes "v")) ∷ (tok Ident 113 114 (codes "C")) ∷ (tok Inserted 114 114 (codes ";")) ∷ (tok Ident 116 123 (codes "println")) ∷ (tok Operator 123 124 (codes "(")) ∷ (tok Operator 124 125 (codes "(")) ∷ (tok Operator 125 126 (codes "&")) ∷ (tok Ident 126 127 (codes "v")) ∷ (tok Operator 127 128 (codes ")")) ∷ (tok Operator 128 129 (codes ".")) ∷ (tok Ident 129 130 (codes "n")) ∷ (tok Operator 130 131 (codes ")")) ∷ (tok Inserted 131 131 (codes ";")) ∷ (tok Operator 132 133 (codes "}")) ∷ (tok Inserted 133 133 (codes ";")) ∷ []); comments = ((note 38 53) ∷ []) })

abbrev get_method_tree : File At
get_method_tree = record { package_name = (nmf 8 12 8 12 (codes "main")); imports = []; decls = ((types (from 14 36 14 36) false ((tspec (from 19 36 19 36) (nmf 19 20 19 20 (codes "C")) false (struct_type (from 21 36 21 36) (field (from 29 34 29 34) (nmf 29 30 29 30 (codes "n")) (named (from 31 34 31 34) None (nmf 31 34 31 34 (codes "int"))) no_fields))) ∷ [])) ∷ (fn (from 54 90 54 90) (Some (recv (from 60 64 60 64) (Some (nmf 60 61 60 61 (codes "c"))) true (nmf 63 64 63 64 (codes "C")))) (nmf 66 69 66 69 (codes "Get")) (sig [] ((param (from 72 75 72 75) None (named (from 72 75 72 75) None (nmf 72 75 72 75 (codes "int")))) ∷ [])) (from 76 90 76 90) (stmt_and (return_ (from 78 88 78 88) (expr_and (selector (from 85 88 85 88) (ident (from 85 86 85 86) (codes "c")) (nmf 87 88 87 88 (codes "n"))) no_exprs)) no_stmts)) ∷ (fn (from 92 133 92 134) None (nmf 97 101 97 101 (codes "main")) (sig [] []) (from 104 133 104 134) (stmt_and (var_decl (from 107 114 107 114) false (spec (from 111 114 111 114) ((nmf 111 112 111 112 (codes "v")) ∷ []) (Some (named (from 113 114 113 114) None (nmf 113 114 113 114 (codes "C")))) no_exprs no_specs)) (stmt_and (eval (from 116 131 116 132) (call (from 116 131 116 132) (ident (from 116 123 116 123) (codes "println")) (expr_and (selector (from 124 130 124 131) (unary (from 125 127 124 131) Address (ident (from 126 127 124 125) (codes "v"))) (nmf 129 130 124 131 (codes "n"))) no_exprs) Plain)) no_stmts))) ∷ []) }

get_method_steps : is_some (step_in get_method.marks get_method_start) ≡ true
unfolding passes keyword_spellings is_inline digits
get_method_steps = refl

abbrev get_method_next : TokensOf get_method_new.text get_method_new.tokens get_method_new.comments → Next get_method.marks get_method_start (log_entry get_method.marks get_method_start (get_method_steps) get_method_t0 get_method_new get_method_tree) (stands_after get_method.marks get_method_start (get_method_steps) get_method_t0 get_method_new get_method_tree)
unfolding passes keyword_spellings is_inline digits reading get_method_steps
get_method_next h = next_by get_method.marks get_method_start (get_method_steps) get_method_t0 get_method_new get_method_tree refl refl h refl refl

-- the whole run, with the tokens of the texts
get_method_inlined : (h0 : TokensOf get_method_t0.text get_method_t0.tokens get_method_t0.comments) (h : TokensOf get_method_new.text get_method_new.tokens get_method_new.comments) → IsInlining the_limits (folder small_module get_method.texts) get_method.packages get_method.texts [] (((codes "main.go"), get_method_new) ∷ []) (codes "main.go:10:10: inlined example.com/m.C.Get as expr\n")
unfolding passes keyword_spellings is_inline digits reading get_method_steps get_method_next
get_method_inlined h0 h = inlining_by the_limits (folder small_module get_method.texts) get_method.packages get_method.texts [] get_method.marks (stands_after get_method.marks get_method_start (get_method_steps) get_method_t0 get_method_new get_method_tree) (log_entry get_method.marks get_method_start (get_method_steps) get_method_t0 get_method_new get_method_tree ∷ []) (codes "main.go:10:10: inlined example.com/m.C.Get as expr\n") get_method_marks (module_by (codes "example.com/m") (module_text small_module) (record { path = codes "main.go"; text = get_method_t0; tree = get_method_f0; reads = record { scans = h0; spells = file_spelled get_method_t0.tokens get_method_f0 get_method_spelled0 } } ∷ []) (folder small_module get_method.texts) get_method.packages get_method.texts small_module_is refl refl refl refl refl refl refl refl refl) (goes_on get_method_start (stands_after get_method.marks get_method_start (get_method_steps) get_method_t0 get_method_new get_method_tree) (stands_after get_method.marks get_method_start (get_method_steps) get_method_t0 get_method_new get_method_tree) (log_entry get_method.marks get_method_start (get_method_steps) get_method_t0 get_method_new get_method_tree) [] (get_method_next h) (ends (stands_after get_method.marks get_method_start (get_method_steps) get_method_t0 get_method_new get_method_tree) refl)) (steps_on [] [] (log_entry get_method.marks get_method_start (get_method_steps) get_method_t0 get_method_new get_method_tree) get_method_start (stands_after get_method.marks get_method_start (get_method_steps) get_method_t0 get_method_new get_method_tree) (stands_after get_method.marks get_method_start (get_method_steps) get_method_t0 get_method_new get_method_tree) (get_method_next h) refl (begins (log_entry get_method.marks get_method_start (get_method_steps) get_method_t0 get_method_new get_method_tree ∷ []) (stands_after get_method.marks get_method_start (get_method_steps) get_method_t0 get_method_new get_method_tree))) (kept_by (log_entry get_method.marks get_method_start (get_method_steps) get_method_t0 get_method_new get_method_tree ∷ []) (codes "main.go") get_method_t0.text get_method_new.text [] [] refl refl run.none) refl

get_method_t0_found : TokensOf get_method_t0.text get_method_t0.tokens get_method_t0.comments
unfolding piece_of lexeme_of longest_from next_of tokens_from comments_from keyword_spellings is_letter is_digit general_category general_category_rows value_in lib.Utf8.encode
get_method_t0_found = tokens_by get_method_t0.text get_method_t0.tokens get_method_t0.comments refl refl refl

get_method_new_found : TokensOf get_method_new.text get_method_new.tokens get_method_new.comments
unfolding piece_of lexeme_of longest_from next_of tokens_from comments_from keyword_spellings is_letter is_digit general_category general_category_rows value_in lib.Utf8.encode
get_method_new_found = tokens_by get_method_new.text get_method_new.tokens get_method_new.comments refl refl refl

get_method_run : IsInlining the_limits (folder small_module get_method.texts) get_method.packages get_method.texts [] (((codes "main.go"), get_method_new) ∷ []) (codes "main.go:10:10: inlined example.com/m.C.Get as expr\n")
get_method_run = get_method_inlined get_method_t0_found get_method_new_found
