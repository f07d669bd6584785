-- Runs of modules whose calls become literals, whole.
use Rattle.std.proofs.Common.{◌≡◌, refl}
use Rattle.std.specs.Prelude.{true, false, [], ◌∷◌, Some, None, codes}
use Rattle.go_tree.specs.declared.spans.Span.{Span}
use Rattle.go_tree.specs.declared.exprs.Rest.TheVariants.{Plain}
use Rattle.go_tree.specs.declared.tokens.TokenKind.TheVariants.{Ident, Keyword, Operator, Integer, Str, Inserted}
use Rattle.go_tree.specs.declared.operators.BinOp.TheVariants.{Div, Add, Sub}
use Rattle.go_tree.specs.Tree.{named, slice_type, ident, int_lit, str_lit, composite, index, call, func_lit, binary, no_exprs, expr_and, no_elems, elem, plain, no_value, var_decl, eval, define, return_, no_stmts, stmt_and, no_specs, spec}
use Rattle.go_tree.specs.File.{File, values}
use Rattle.run_rules.proofs.CaseTools.{at, nm, tok, note, param, sig, fn, pack, source, mark, Module}
use Rattle.go_layout.specs.SpellsSpans.{span_to}
use Rattle.go_tree.specs.GoWords.Terminals.{lexemes}
use Rattle.go_layout.specs.Goals.{read_front}
use Rattle.go_layout.proofs.Texts.{reading}
use Rattle.run_rules.proofs.CaseTools.{read_at}
use Rattle.go_tree.specs.GoWords.Tokens.Pieces.{keyword_spellings}
use Rattle.directive_scan.specs.Lines.{is_inline}
use Rattle.pkg_graph.specs.ModuleFiles.Internal.{passes}
use Rattle.std.specs.Prelude.{is_some}
use Rattle.run_rules.specs.Texts.{FileText}
use Rattle.run_rules.specs.Steps.{At}
use Rattle.run_rules.specs.Marks.{marks_of}
use Rattle.run_rules.specs.Run.{Standing, Next, step_in, goes_on, ends, the_limits}
use Rattle.run_rules.specs.Run as run
use Rattle.go_layout.proofs.Whole.{file_spelled}
use Rattle.std.specs.Fmt.{digits}
use Rattle.run_rules.specs.Inlining.{standing_as_read, begins, steps_on, IsInlining}
use Rattle.run_rules.proofs.CaseTools.{from, nmf}
use Rattle.go_tree.specs.GoWords.Tokens.{TokensOf}
use Rattle.run_rules.proofs.Instances.{stands_after, log_entry, next_by, kept_by, inlining_by}
use Rattle.run_rules.proofs.ModulesRead.{module_by, module_text, folder, small_module, small_module_is}
use Rattle.ucd_category.specs.GeneralCategory.{general_category}
use Rattle.ucd_category.specs.GeneralCategoryRows.{general_category_rows}
use Rattle.ucd_table.specs.Rows.{value_in}
use Rattle.go_tree.specs.GoWords.Tokens.{tokens_from, comments_from}
use Rattle.go_tree.specs.GoWords.Tokens.Characters.{is_letter, is_digit}
use Rattle.directive_scan.specs.Automaton.{next_of, longest_from}
use Rattle.directive_scan.specs.Pieces.{piece_of, lexeme_of}
use Rattle.run_rules.proofs.TokensFound.{tokens_by}

-- A constant that gives a constant fault is bound.
abbrev bound_constant_f0 : File Span
bound_constant_f0 = record { package_name = (nm 8 12 (codes "main")); imports = []; decls = ((fn (at 30 69) None (nm 35 38 (codes "Inc")) (sig ((param (at 39 45) (Some (nm 39 40 (codes "x"))) (named (at 41 45) None (nm 41 45 (codes "int8")))) ∷ []) ((param (at 47 51) None (named (at 47 51) None (nm 47 51 (codes "int8")))) ∷ [])) (at 52 69) (stmt_and (return_ (at 55 67) (expr_and (binary (at 62 67) Add (ident (at 62 63) (codes "x")) (int_lit (at 66 67) (codes "1"))) no_exprs)) no_stmts)) ∷ (fn (at 71 105) None (nm 76 80 (codes "main")) (sig [] []) (at 83 105) (stmt_and (eval (at 86 103) (call (at 86 103) (ident (at 86 93) (codes "println")) (expr_and (call (at 94 102) (ident (at 94 97) (codes "Inc")) (expr_and (int_lit (at 98 101) (codes "127")) no_exprs) Plain) no_exprs) Plain)) no_stmts)) ∷ []) }

abbrev bound_constant : Module
bound_constant = record { packages = (pack (codes "example.com/m") (codes "main") (source (codes "main.go") bound_constant_f0 ∷ []) ∷ []); marks = (mark 0 0 0 0 ∷ []); texts = (((codes "main.go"), record { text = (codes "package main\n\n//go:fix inline\nfunc Inc(x int8) int8 {\n\treturn x + 1\n}\n\nfunc main() {\n\tprintln(Inc(127))\n}\n"); tokens = ((tok Keyword 0 7 (codes "package")) ∷ (tok Ident 8 12 (codes "main")) ∷ (tok Inserted 12 12 (codes ";")) ∷ (tok Keyword 30 34 (codes "func")) ∷ (tok Ident 35 38 (codes "Inc")) ∷ (tok Operator 38 39 (codes "(")) ∷ (tok Ident 39 40 (codes "x")) ∷ (tok Ident 41 45 (codes "int8")) ∷ (tok Operator 45 46 (codes ")")) ∷ (tok Ident 47 51 (codes "int8")) ∷ (tok Operator 52 53 (codes "{")) ∷ (tok Keyword 55 61 (codes "return")) ∷ (tok Ident 62 63 (codes "x")) ∷ (tok Operator 64 65 (codes "+")) ∷ (tok Integer 66 67 (codes "1")) ∷ (tok Inserted 67 67 (codes ";")) ∷ (tok Operator 68 69 (codes "}")) ∷ (tok Inserted 69 69 (codes ";")) ∷ (tok Keyword 71 75 (codes "func")) ∷ (tok Ident 76 80 (codes "main")) ∷ (tok Operator 80 81 (codes "(")) ∷ (tok Operator 81 82 (codes ")")) ∷ (tok Operator 83 84 (codes "{")) ∷ (tok Ident 86 93 (codes "println")) ∷ (tok Operator 93 94 (codes "(")) ∷ (tok Ident 94 97 (codes "Inc")) ∷ (tok Operator 97 98 (codes "(")) ∷ (tok Integer 98 101 (codes "127")) ∷ (tok Operator 101 102 (codes ")")) ∷ (tok Operator 102 103 (codes ")")) ∷ (tok Inserted 103 103 (codes ";")) ∷ (tok Operator 104 105 (codes "}")) ∷ (tok Inserted 105 105 (codes ";")) ∷ []); comments = ((note 14 29) ∷ []) }) ∷ []) }

abbrev bound_constant_t0 : FileText
bound_constant_t0 = (record { text = (codes "package main\n\n//go:fix inline\nfunc Inc(x int8) int8 {\n\treturn x + 1\n}\n\nfunc main() {\n\tprintln(Inc(127))\n}\n"); tokens = ((tok Keyword 0 7 (codes "package")) ∷ (tok Ident 8 12 (codes "main")) ∷ (tok Inserted 12 12 (codes ";")) ∷ (tok Keyword 30 34 (codes "func")) ∷ (tok Ident 35 38 (codes "Inc")) ∷ (tok Operator 38 39 (codes "(")) ∷ (tok Ident 39 40 (codes "x")) ∷ (tok Ident 41 45 (codes "int8")) ∷ (tok Operator 45 46 (codes ")")) ∷ (tok Ident 47 51 (codes "int8")) ∷ (tok Operator 52 53 (codes "{")) ∷ (tok Keyword 55 61 (codes "return")) ∷ (tok Ident 62 63 (codes "x")) ∷ (tok Operator 64 65 (codes "+")) ∷ (tok Integer 66 67 (codes "1")) ∷ (tok Inserted 67 67 (codes ";")) ∷ (tok Operator 68 69 (codes "}")) ∷ (tok Inserted 69 69 (codes ";")) ∷ (tok Keyword 71 75 (codes "func")) ∷ (tok Ident 76 80 (codes "main")) ∷ (tok Operator 80 81 (codes "(")) ∷ (tok Operator 81 82 (codes ")")) ∷ (tok Operator 83 84 (codes "{")) ∷ (tok Ident 86 93 (codes "println")) ∷ (tok Operator 93 94 (codes "(")) ∷ (tok Ident 94 97 (codes "Inc")) ∷ (tok Operator 97 98 (codes "(")) ∷ (tok Integer 98 101 (codes "127")) ∷ (tok Operator 101 102 (codes ")")) ∷ (tok Operator 102 103 (codes ")")) ∷ (tok Inserted 103 103 (codes ";")) ∷ (tok Operator 104 105 (codes "}")) ∷ (tok Inserted 105 105 (codes ";")) ∷ []); comments = ((note 14 29) ∷ []) })

bound_constant_marks : marks_of bound_constant.packages bound_constant.texts [] ≡ bound_constant.marks
unfolding passes keyword_spellings is_inline digits
bound_constant_marks = refl

bound_constant_spelled0 : read_at span_to read_front (lexemes bound_constant_t0.tokens) ≡ Some (bound_constant_f0, [])
unfolding reading
bound_constant_spelled0 = refl

abbrev bound_constant_start : Standing
bound_constant_start = standing_as_read bound_constant.packages bound_constant.texts

abbrev bound_constant_new : FileText
bound_constant_new = (record { text = (codes "package main\n\n//go:fix inline\nfunc Inc(x int8) int8 {\n\treturn x + 1\n}\n\nfunc main() {\n\tprintln(func(x int8) int8 {\n\t\treturn x + 1\n\t}(127))\n}\n"); tokens = ((tok Keyword 0 7 (codes "package")) ∷ (tok Ident 8 12 (codes "main")) ∷ (tok Inserted 12 12 (codes ";")) ∷ (tok Keyword 30 34 (codes "func")) ∷ (tok Ident 35 38 (codes "Inc")) ∷ (tok Operator 38 39 (codes "(")) ∷ (tok Ident 39 40 (codes "x")) ∷ (tok Ident 41 45 (codes "int8")) ∷ (tok Operator 45 46 (codes ")")) ∷ (tok Ident 47 51 (codes "int8")) ∷ (tok Operator 52 53 (codes "{")) ∷ (tok Keyword 55 61 (codes "return")) ∷ (tok Ident 62 63 (codes "x")) ∷ (tok Operator 64 65 (codes "+")) ∷ (tok Integer 66 67 (codes "1")) ∷ (tok Inserted 67 67 (codes ";")) ∷ (tok Operator 68 69 (codes "}")) ∷ (tok Inserted 69 69 (codes ";")) ∷ (tok Keyword 71 75 (codes "func")) ∷ (tok Ident 76 80 (codes "main")) ∷ (tok Operator 80 81 (codes "(")) ∷ (tok Operator 81 82 (codes ")")) ∷ (tok Operator 83 84 (codes "{")) ∷ (tok Ident 86 93 (codes "println")) ∷ (tok Operator 93 94 (codes "(")) ∷ (tok Keyword 94 98 (codes "func")) ∷ (tok Operator 98 99 (codes "(")) ∷ (tok Ident 99 100 (codes "x")) ∷ (tok Ident 101 105 (codes "int8")) ∷ (tok Operator 105 106 (codes ")")) ∷ (tok Ident 107 111 (codes "int8")) ∷ (tok Operator 112 113 (codes "{")) ∷ (tok Keyword 116 122 (codes "return")) ∷ (tok Ident 123 124 (codes "x")) ∷ (tok Operator 125 126 (codes "+")) ∷ (tok Integer 127 128 (codes "1")) ∷ (tok Inserted 128 128 (codes ";")) ∷ (tok Operator 130 131 (codes "}")) ∷ (tok Operator 131 132 (codes "(")) ∷ (tok Integer 132 135 (codes "127")) ∷ (tok Operator 135 136 (codes ")")) ∷ (tok Operator 136 137 (codes ")")) ∷ (tok Inserted 137 137 (codes ";")) ∷ (tok Operator 138 139 (codes "}")) ∷ (tok Inserted 139 139 (codes ";")) ∷ []); comments = ((note 14 29) ∷ []) })

abbrev bound_constant_tree : File At
bound_constant_tree = record { package_name = (nmf 8 12 8 12 (codes "main")); imports = []; decls = ((fn (from 30 69 30 69) None (nmf 35 38 35 38 (codes "Inc")) (sig ((param (from 39 45 39 45) (Some (nmf 39 40 39 40 (codes "x"))) (named (from 41 45 41 45) None (nmf 41 45 41 45 (codes "int8")))) ∷ []) ((param (from 47 51 47 51) None (named (from 47 51 47 51) None (nmf 47 51 47 51 (codes "int8")))) ∷ [])) (from 52 69 52 69) (stmt_and (return_ (from 55 67 55 67) (expr_and (binary (from 62 67 62 67) Add (ident (from 62 63 62 63) (codes "x")) (int_lit (from 66 67 66 67) (codes "1"))) no_exprs)) no_stmts)) ∷ (fn (from 71 139 71 105) None (nmf 76 80 76 80 (codes "main")) (sig [] []) (from 83 139 83 105) (stmt_and (eval (from 86 137 86 103) (call (from 86 137 86 103) (ident (from 86 93 86 93) (codes "println")) (expr_and (call (from 94 136 94 102) (func_lit (from 94 131 94 102) (sig ((param (from 99 105 94 102) (Some (nmf 99 100 94 102 (codes "x"))) (named (from 101 105 94 102) None (nmf 101 105 94 102 (codes "int8")))) ∷ []) ((param (from 107 111 94 102) None (named (from 107 111 94 102) None (nmf 107 111 94 102 (codes "int8")))) ∷ [])) (from 112 131 94 102) (stmt_and (return_ (from 116 128 94 102) (expr_and (binary (from 123 128 94 102) Add (ident (from 123 124 94 102) (codes "x")) (int_lit (from 127 128 94 102) (codes "1"))) no_exprs)) no_stmts)) (expr_and (int_lit (from 132 135 98 101) (codes "127")) no_exprs) Plain) no_exprs) Plain)) no_stmts)) ∷ []) }

bound_constant_steps : is_some (step_in bound_constant.marks bound_constant_start) ≡ true
unfolding passes keyword_spellings is_inline digits
bound_constant_steps = refl

abbrev bound_constant_next : TokensOf bound_constant_new.text bound_constant_new.tokens bound_constant_new.comments → Next bound_constant.marks bound_constant_start (log_entry bound_constant.marks bound_constant_start (bound_constant_steps) bound_constant_t0 bound_constant_new bound_constant_tree) (stands_after bound_constant.marks bound_constant_start (bound_constant_steps) bound_constant_t0 bound_constant_new bound_constant_tree)
unfolding passes keyword_spellings is_inline digits reading bound_constant_steps
bound_constant_next h = next_by bound_constant.marks bound_constant_start (bound_constant_steps) bound_constant_t0 bound_constant_new bound_constant_tree refl refl h refl refl

-- the whole run, with the tokens of the texts
bound_constant_inlined : (h0 : TokensOf bound_constant_t0.text bound_constant_t0.tokens bound_constant_t0.comments) (h : TokensOf bound_constant_new.text bound_constant_new.tokens bound_constant_new.comments) → IsInlining the_limits (folder small_module bound_constant.texts) bound_constant.packages bound_constant.texts [] (((codes "main.go"), bound_constant_new) ∷ []) (codes "main.go:9:10: inlined example.com/m.Inc as literal\n")
unfolding passes keyword_spellings is_inline digits reading bound_constant_steps bound_constant_next
bound_constant_inlined h0 h = inlining_by the_limits (folder small_module bound_constant.texts) bound_constant.packages bound_constant.texts [] bound_constant.marks (stands_after bound_constant.marks bound_constant_start (bound_constant_steps) bound_constant_t0 bound_constant_new bound_constant_tree) (log_entry bound_constant.marks bound_constant_start (bound_constant_steps) bound_constant_t0 bound_constant_new bound_constant_tree ∷ []) (codes "main.go:9:10: inlined example.com/m.Inc as literal\n") bound_constant_marks (module_by (codes "example.com/m") (module_text small_module) (record { path = codes "main.go"; text = bound_constant_t0; tree = bound_constant_f0; reads = record { scans = h0; spells = file_spelled bound_constant_t0.tokens bound_constant_f0 bound_constant_spelled0 } } ∷ []) (folder small_module bound_constant.texts) bound_constant.packages bound_constant.texts small_module_is refl refl refl refl refl refl refl refl refl) (goes_on bound_constant_start (stands_after bound_constant.marks bound_constant_start (bound_constant_steps) bound_constant_t0 bound_constant_new bound_constant_tree) (stands_after bound_constant.marks bound_constant_start (bound_constant_steps) bound_constant_t0 bound_constant_new bound_constant_tree) (log_entry bound_constant.marks bound_constant_start (bound_constant_steps) bound_constant_t0 bound_constant_new bound_constant_tree) [] (bound_constant_next h) (ends (stands_after bound_constant.marks bound_constant_start (bound_constant_steps) bound_constant_t0 bound_constant_new bound_constant_tree) refl)) (steps_on [] [] (log_entry bound_constant.marks bound_constant_start (bound_constant_steps) bound_constant_t0 bound_constant_new bound_constant_tree) bound_constant_start (stands_after bound_constant.marks bound_constant_start (bound_constant_steps) bound_constant_t0 bound_constant_new bound_constant_tree) (stands_after bound_constant.marks bound_constant_start (bound_constant_steps) bound_constant_t0 bound_constant_new bound_constant_tree) (bound_constant_next h) refl (begins (log_entry bound_constant.marks bound_constant_start (bound_constant_steps) bound_constant_t0 bound_constant_new bound_constant_tree ∷ []) (stands_after bound_constant.marks bound_constant_start (bound_constant_steps) bound_constant_t0 bound_constant_new bound_constant_tree))) (kept_by (log_entry bound_constant.marks bound_constant_start (bound_constant_steps) bound_constant_t0 bound_constant_new bound_constant_tree ∷ []) (codes "main.go") bound_constant_t0.text bound_constant_new.text [] [] refl refl run.none) refl

bound_constant_t0_found : TokensOf bound_constant_t0.text bound_constant_t0.tokens bound_constant_t0.comments
unfolding piece_of lexeme_of longest_from next_of tokens_from comments_from keyword_spellings is_letter is_digit general_category general_category_rows value_in lib.Utf8.encode
bound_constant_t0_found = tokens_by bound_constant_t0.text bound_constant_t0.tokens bound_constant_t0.comments refl refl refl

bound_constant_new_found : TokensOf bound_constant_new.text bound_constant_new.tokens bound_constant_new.comments
unfolding piece_of lexeme_of longest_from next_of tokens_from comments_from keyword_spellings is_letter is_digit general_category general_category_rows value_in lib.Utf8.encode
bound_constant_new_found = tokens_by bound_constant_new.text bound_constant_new.tokens bound_constant_new.comments refl refl refl

bound_constant_run : IsInlining the_limits (folder small_module bound_constant.texts) bound_constant.packages bound_constant.texts [] (((codes "main.go"), bound_constant_new) ∷ []) (codes "main.go:9:10: inlined example.com/m.Inc as literal\n")
bound_constant_run = bound_constant_inlined bound_constant_t0_found bound_constant_new_found

-- What may panic and has no use is bound.
abbrev bound_index_f0 : File Span
bound_index_f0 = record { package_name = (nm 8 12 (codes "main")); imports = []; decls = ((fn (at 30 67) None (nm 35 40 (codes "First")) (sig ((param (at 41 49) (Some (nm 41 42 (codes "x"))) (named (at 46 49) None (nm 46 49 (codes "int")))) ∷ (param (at 44 49) (Some (nm 44 45 (codes "y"))) (named (at 46 49) None (nm 46 49 (codes "int")))) ∷ []) ((param (at 51 54) None (named (at 51 54) None (nm 51 54 (codes "int")))) ∷ [])) (at 55 67) (stmt_and (return_ (at 57 65) (expr_and (ident (at 64 65) (codes "y")) no_exprs)) no_stmts)) ∷ (fn (at 69 140) None (nm 74 78 (codes "main")) (sig [] []) (at 81 140) (stmt_and (define (at 84 97) ((nm 84 85 (codes "a")) ∷ []) (expr_and (composite (at 89 97) (slice_type (at 89 94) (named (at 91 94) None (nm 91 94 (codes "int")))) (elem (at 95 96) no_value (plain (int_lit (at 95 96) (codes "1"))) no_elems)) no_exprs)) (stmt_and (define (at 99 105) ((nm 99 100 (codes "i")) ∷ []) (expr_and (int_lit (at 104 105) (codes "0")) no_exprs)) (stmt_and (define (at 107 113) ((nm 107 108 (codes "b")) ∷ []) (expr_and (int_lit (at 112 113) (codes "2")) no_exprs)) (stmt_and (eval (at 115 138) (call (at 115 138) (ident (at 115 122) (codes "println")) (expr_and (call (at 123 137) (ident (at 123 128) (codes "First")) (expr_and (index (at 129 133) (ident (at 129 130) (codes "a")) (ident (at 131 132) (codes "i"))) (expr_and (ident (at 135 136) (codes "b")) no_exprs)) Plain) no_exprs) Plain)) no_stmts))))) ∷ []) }

abbrev bound_index : Module
bound_index = record { packages = (pack (codes "example.com/m") (codes "main") (source (codes "main.go") bound_index_f0 ∷ []) ∷ []); marks = (mark 0 0 0 0 ∷ []); texts = (((codes "main.go"), record { text = (codes "package main\n\n//go:fix inline\nfunc First(x, y int) int { return y }\n\nfunc main() {\n\ta := []int{1}\n\ti := 0\n\tb := 2\n\tprintln(First(a[i], b))\n}\n"); tokens = ((tok Keyword 0 7 (codes "package")) ∷ (tok Ident 8 12 (codes "main")) ∷ (tok Inserted 12 12 (codes ";")) ∷ (tok Keyword 30 34 (codes "func")) ∷ (tok Ident 35 40 (codes "First")) ∷ (tok Operator 40 41 (codes "(")) ∷ (tok Ident 41 42 (codes "x")) ∷ (tok Operator 42 43 (codes ",")) ∷ (tok Ident 44 45 (codes "y")) ∷ (tok Ident 46 49 (codes "int")) ∷ (tok Operator 49 50 (codes ")")) ∷ (tok Ident 51 54 (codes "int")) ∷ (tok Operator 55 56 (codes "{")) ∷ (tok Keyword 57 63 (codes "return")) ∷ (tok Ident 64 65 (codes "y")) ∷ (tok Operator 66 67 (codes "}")) ∷ (tok Inserted 67 67 (codes ";")) ∷ (tok Keyword 69 73 (codes "func")) ∷ (tok Ident 74 78 (codes "main")) ∷ (tok Operator 78 79 (codes "(")) ∷ (tok Operator 79 80 (codes ")")) ∷ (tok Operator 81 82 (codes "{")) ∷ (tok Ident 84 85 (codes "a")) ∷ (tok Operator 86 88 (codes ":=")) ∷ (tok Operator 89 90 (codes "[")) ∷ (tok Operator 90 91 (codes "]")) ∷ (tok Ident 91 94 (codes "int")) ∷ (tok Operator 94 95 (codes "{")) ∷ (tok Integer 95 96 (codes "1")) ∷ (tok Operator 96 97 (codes "}")) ∷ (tok Inserted 97 97 (codes ";")) ∷ (tok Ident 99 100 (codes "i")) ∷ (tok Operator 101 103 (codes ":=")) ∷ (tok Integer 104 105 (codes "0")) ∷ (tok Inserted 105 105 (codes ";")) ∷ (tok Ident 107 108 (codes "b")) ∷ (tok Operator 109 111 (codes ":=")) ∷ (tok Integer 112 113 (codes "2")) ∷ (tok Inserted 113 113 (codes ";")) ∷ (tok Ident 115 122 (codes "println")) ∷ (tok Operator 122 123 (codes "(")) ∷ (tok Ident 123 128 (codes "First")) ∷ (tok Operator 128 129 (codes "(")) ∷ (tok Ident 129 130 (codes "a")) ∷ (tok Operator 130 131 (codes "[")) ∷ (tok Ident 131 132 (codes "i")) ∷ (tok Operator 132 133 (codes "]")) ∷ (tok Operator 133 134 (codes ",")) ∷ (tok Ident 135 136 (codes "b")) ∷ (tok Operator 136 137 (codes ")")) ∷ (tok Operator 137 138 (codes ")")) ∷ (tok Inserted 138 138 (codes ";")) ∷ (tok Operator 139 140 (codes "}")) ∷ (tok Inserted 140 140 (codes ";")) ∷ []); comments = ((note 14 29) ∷ []) }) ∷ []) }

abbrev bound_index_t0 : FileText
bound_index_t0 = (record { text = (codes "package main\n\n//go:fix inline\nfunc First(x, y int) int { return y }\n\nfunc main() {\n\ta := []int{1}\n\ti := 0\n\tb := 2\n\tprintln(First(a[i], b))\n}\n"); tokens = ((tok Keyword 0 7 (codes "package")) ∷ (tok Ident 8 12 (codes "main")) ∷ (tok Inserted 12 12 (codes ";")) ∷ (tok Keyword 30 34 (codes "func")) ∷ (tok Ident 35 40 (codes "First")) ∷ (tok Operator 40 41 (codes "(")) ∷ (tok Ident 41 42 (codes "x")) ∷ (tok Operator 42 43 (codes ",")) ∷ (tok Ident 44 45 (codes "y")) ∷ (tok Ident 46 49 (codes "int")) ∷ (tok Operator 49 50 (codes ")")) ∷ (tok Ident 51 54 (codes "int")) ∷ (tok Operator 55 56 (codes "{")) ∷ (tok Keyword 57 63 (codes "return")) ∷ (tok Ident 64 65 (codes "y")) ∷ (tok Operator 66 67 (codes "}")) ∷ (tok Inserted 67 67 (codes ";")) ∷ (tok Keyword 69 73 (codes "func")) ∷ (tok Ident 74 78 (codes "main")) ∷ (tok Operator 78 79 (codes "(")) ∷ (tok Operator 79 80 (codes ")")) ∷ (tok Operator 81 82 (codes "{")) ∷ (tok Ident 84 85 (codes "a")) ∷ (tok Operator 86 88 (codes ":=")) ∷ (tok Operator 89 90 (codes "[")) ∷ (tok Operator 90 91 (codes "]")) ∷ (tok Ident 91 94 (codes "int")) ∷ (tok Operator 94 95 (codes "{")) ∷ (tok Integer 95 96 (codes "1")) ∷ (tok Operator 96 97 (codes "}")) ∷ (tok Inserted 97 97 (codes ";")) ∷ (tok Ident 99 100 (codes "i")) ∷ (tok Operator 101 103 (codes ":=")) ∷ (tok Integer 104 105 (codes "0")) ∷ (tok Inserted 105 105 (codes ";")) ∷ (tok Ident 107 108 (codes "b")) ∷ (tok Operator 109 111 (codes ":=")) ∷ (tok Integer 112 113 (codes "2")) ∷ (tok Inserted 113 113 (codes ";")) ∷ (tok Ident 115 122 (codes "println")) ∷ (tok Operator 122 123 (codes "(")) ∷ (tok Ident 123 128 (codes "First")) ∷ (tok Operator 128 129 (codes "(")) ∷ (tok Ident 129 130 (codes "a")) ∷ (tok Operator 130 131 (codes "[")) ∷ (tok Ident 131 132 (codes "i")) ∷ (tok Operator 132 133 (codes "]")) ∷ (tok Operator 133 134 (codes ",")) ∷ (tok Ident 135 136 (codes "b")) ∷ (tok Operator 136 137 (codes ")")) ∷ (tok Operator 137 138 (codes ")")) ∷ (tok Inserted 138 138 (codes ";")) ∷ (tok Operator 139 140 (codes "}")) ∷ (tok Inserted 140 140 (codes ";")) ∷ []); comments = ((note 14 29) ∷ []) })

bound_index_marks : marks_of bound_index.packages bound_index.texts [] ≡ bound_index.marks
unfolding passes keyword_spellings is_inline digits
bound_index_marks = refl

bound_index_spelled0 : read_at span_to read_front (lexemes bound_index_t0.tokens) ≡ Some (bound_index_f0, [])
unfolding reading
bound_index_spelled0 = refl

abbrev bound_index_start : Standing
bound_index_start = standing_as_read bound_index.packages bound_index.texts

abbrev bound_index_new : FileText
bound_index_new = (record { text = (codes "package main\n\n//go:fix inline\nfunc First(x, y int) int { return y }\n\nfunc main() {\n\ta := []int{1}\n\ti := 0\n\tb := 2\n\tprintln(func(x int) int {\n\t\treturn b\n\t}(a[i]))\n}\n"); tokens = ((tok Keyword 0 7 (codes "package")) ∷ (tok Ident 8 12 (codes "main")) ∷ (tok Inserted 12 12 (codes ";")) ∷ (tok Keyword 30 34 (codes "func")) ∷ (tok Ident 35 40 (codes "First")) ∷ (tok Operator 40 41 (codes "(")) ∷ (tok Ident 41 42 (codes "x")) ∷ (tok Operator 42 43 (codes ",")) ∷ (tok Ident 44 45 (codes "y")) ∷ (tok Ident 46 49 (codes "int")) ∷ (tok Operator 49 50 (codes ")")) ∷ (tok Ident 51 54 (codes "int")) ∷ (tok Operator 55 56 (codes "{")) ∷ (tok Keyword 57 63 (codes "return")) ∷ (tok Ident 64 65 (codes "y")) ∷ (tok Operator 66 67 (codes "}")) ∷ (tok Inserted 67 67 (codes ";")) ∷ (tok Keyword 69 73 (codes "func")) ∷ (tok Ident 74 78 (codes "main")) ∷ (tok Operator 78 79 (codes "(")) ∷ (tok Operator 79 80 (codes ")")) ∷ (tok Operator 81 82 (codes "{")) ∷ (tok Ident 84 85 (codes "a")) ∷ (tok Operator 86 88 (codes ":=")) ∷ (tok Operator 89 90 (codes "[")) ∷ (tok Operator 90 91 (codes "]")) ∷ (tok Ident 91 94 (codes "int")) ∷ (tok Operator 94 95 (codes "{")) ∷ (tok Integer 95 96 (codes "1")) ∷ (tok Operator 96 97 (codes "}")) ∷ (tok Inserted 97 97 (codes ";")) ∷ (tok Ident 99 100 (codes "i")) ∷ (tok Operator 101 103 (codes ":=")) ∷ (tok Integer 104 105 (codes "0")) ∷ (tok Inserted 105 105 (codes ";")) ∷ (tok Ident 107 108 (codes "b")) ∷ (tok Operator 109 111 (codes ":=")) ∷ (tok Integer 112 113 (codes "2")) ∷ (tok Inserted 113 113 (codes ";")) ∷ (tok Ident 115 122 (codes "println")) ∷ (tok Operator 122 123 (codes "(")) ∷ (tok Keyword 123 127 (codes "func")) ∷ (tok Operator 127 128 (codes "(")) ∷ (tok Ident 128 129 (codes "x")) ∷ (tok Ident 130 133 (codes "int")) ∷ (tok Operator 133 134 (codes ")")) ∷ (tok Ident 135 138 (codes "int")) ∷ (tok Operator 139 140 (codes "{")) ∷ (tok Keyword 143 149 (codes "return")) ∷ (tok Ident 150 151 (codes "b")) ∷ (tok Inserted 151 151 (codes ";")) ∷ (tok Operator 153 154 (codes "}")) ∷ (tok Operator 154 155 (codes "(")) ∷ (tok Ident 155 156 (codes "a")) ∷ (tok Operator 156 157 (codes "[")) ∷ (tok Ident 157 158 (codes "i")) ∷ (tok Operator 158 159 (codes "]")) ∷ (tok Operator 159 160 (codes ")")) ∷ (tok Operator 160 161 (codes ")")) ∷ (tok Inserted 161 161 (codes ";")) ∷ (tok Operator 162 163 (codes "}")) ∷ (tok Inserted 163 163 (codes ";")) ∷ []); comments = ((note 14 29) ∷ []) })

abbrev bound_index_tree : File At
bound_index_tree = record { package_name = (nmf 8 12 8 12 (codes "main")); imports = []; decls = ((fn (from 30 67 30 67) None (nmf 35 40 35 40 (codes "First")) (sig ((param (from 41 49 41 49) (Some (nmf 41 42 41 42 (codes "x"))) (named (from 46 49 46 49) None (nmf 46 49 46 49 (codes "int")))) ∷ (param (from 44 49 44 49) (Some (nmf 44 45 44 45 (codes "y"))) (named (from 46 49 46 49) None (nmf 46 49 46 49 (codes "int")))) ∷ []) ((param (from 51 54 51 54) None (named (from 51 54 51 54) None (nmf 51 54 51 54 (codes "int")))) ∷ [])) (from 55 67 55 67) (stmt_and (return_ (from 57 65 57 65) (expr_and (ident (from 64 65 64 65) (codes "y")) no_exprs)) no_stmts)) ∷ (fn (from 69 163 69 140) None (nmf 74 78 74 78 (codes "main")) (sig [] []) (from 81 163 81 140) (stmt_and (define (from 84 97 84 97) ((nmf 84 85 84 85 (codes "a")) ∷ []) (expr_and (composite (from 89 97 89 97) (slice_type (from 89 94 89 94) (named (from 91 94 91 94) None (nmf 91 94 91 94 (codes "int")))) (elem (from 95 96 95 96) no_value (plain (int_lit (from 95 96 95 96) (codes "1"))) no_elems)) no_exprs)) (stmt_and (define (from 99 105 99 105) ((nmf 99 100 99 100 (codes "i")) ∷ []) (expr_and (int_lit (from 104 105 104 105) (codes "0")) no_exprs)) (stmt_and (define (from 107 113 107 113) ((nmf 107 108 107 108 (codes "b")) ∷ []) (expr_and (int_lit (from 112 113 112 113) (codes "2")) no_exprs)) (stmt_and (eval (from 115 161 115 138) (call (from 115 161 115 138) (ident (from 115 122 115 122) (codes "println")) (expr_and (call (from 123 160 123 137) (func_lit (from 123 154 123 137) (sig ((param (from 128 133 123 137) (Some (nmf 128 129 123 137 (codes "x"))) (named (from 130 133 123 137) None (nmf 130 133 123 137 (codes "int")))) ∷ []) ((param (from 135 138 123 137) None (named (from 135 138 123 137) None (nmf 135 138 123 137 (codes "int")))) ∷ [])) (from 139 154 123 137) (stmt_and (return_ (from 143 151 123 137) (expr_and (ident (from 150 151 135 136) (codes "b")) no_exprs)) no_stmts)) (expr_and (index (from 155 159 129 133) (ident (from 155 156 129 130) (codes "a")) (ident (from 157 158 131 132) (codes "i"))) no_exprs) Plain) no_exprs) Plain)) no_stmts))))) ∷ []) }

bound_index_steps : is_some (step_in bound_index.marks bound_index_start) ≡ true
unfolding passes keyword_spellings is_inline digits
bound_index_steps = refl

abbrev bound_index_next : TokensOf bound_index_new.text bound_index_new.tokens bound_index_new.comments → Next bound_index.marks bound_index_start (log_entry bound_index.marks bound_index_start (bound_index_steps) bound_index_t0 bound_index_new bound_index_tree) (stands_after bound_index.marks bound_index_start (bound_index_steps) bound_index_t0 bound_index_new bound_index_tree)
unfolding passes keyword_spellings is_inline digits reading bound_index_steps
bound_index_next h = next_by bound_index.marks bound_index_start (bound_index_steps) bound_index_t0 bound_index_new bound_index_tree refl refl h refl refl

-- the whole run, with the tokens of the texts
bound_index_inlined : (h0 : TokensOf bound_index_t0.text bound_index_t0.tokens bound_index_t0.comments) (h : TokensOf bound_index_new.text bound_index_new.tokens bound_index_new.comments) → IsInlining the_limits (folder small_module bound_index.texts) bound_index.packages bound_index.texts [] (((codes "main.go"), bound_index_new) ∷ []) (codes "main.go:10:10: inlined example.com/m.First as literal\n")
unfolding passes keyword_spellings is_inline digits reading bound_index_steps bound_index_next
bound_index_inlined h0 h = inlining_by the_limits (folder small_module bound_index.texts) bound_index.packages bound_index.texts [] bound_index.marks (stands_after bound_index.marks bound_index_start (bound_index_steps) bound_index_t0 bound_index_new bound_index_tree) (log_entry bound_index.marks bound_index_start (bound_index_steps) bound_index_t0 bound_index_new bound_index_tree ∷ []) (codes "main.go:10:10: inlined example.com/m.First as literal\n") bound_index_marks (module_by (codes "example.com/m") (module_text small_module) (record { path = codes "main.go"; text = bound_index_t0; tree = bound_index_f0; reads = record { scans = h0; spells = file_spelled bound_index_t0.tokens bound_index_f0 bound_index_spelled0 } } ∷ []) (folder small_module bound_index.texts) bound_index.packages bound_index.texts small_module_is refl refl refl refl refl refl refl refl refl) (goes_on bound_index_start (stands_after bound_index.marks bound_index_start (bound_index_steps) bound_index_t0 bound_index_new bound_index_tree) (stands_after bound_index.marks bound_index_start (bound_index_steps) bound_index_t0 bound_index_new bound_index_tree) (log_entry bound_index.marks bound_index_start (bound_index_steps) bound_index_t0 bound_index_new bound_index_tree) [] (bound_index_next h) (ends (stands_after bound_index.marks bound_index_start (bound_index_steps) bound_index_t0 bound_index_new bound_index_tree) refl)) (steps_on [] [] (log_entry bound_index.marks bound_index_start (bound_index_steps) bound_index_t0 bound_index_new bound_index_tree) bound_index_start (stands_after bound_index.marks bound_index_start (bound_index_steps) bound_index_t0 bound_index_new bound_index_tree) (stands_after bound_index.marks bound_index_start (bound_index_steps) bound_index_t0 bound_index_new bound_index_tree) (bound_index_next h) refl (begins (log_entry bound_index.marks bound_index_start (bound_index_steps) bound_index_t0 bound_index_new bound_index_tree ∷ []) (stands_after bound_index.marks bound_index_start (bound_index_steps) bound_index_t0 bound_index_new bound_index_tree))) (kept_by (log_entry bound_index.marks bound_index_start (bound_index_steps) bound_index_t0 bound_index_new bound_index_tree ∷ []) (codes "main.go") bound_index_t0.text bound_index_new.text [] [] refl refl run.none) refl

bound_index_t0_found : TokensOf bound_index_t0.text bound_index_t0.tokens bound_index_t0.comments
unfolding piece_of lexeme_of longest_from next_of tokens_from comments_from keyword_spellings is_letter is_digit general_category general_category_rows value_in lib.Utf8.encode
bound_index_t0_found = tokens_by bound_index_t0.text bound_index_t0.tokens bound_index_t0.comments refl refl refl

bound_index_new_found : TokensOf bound_index_new.text bound_index_new.tokens bound_index_new.comments
unfolding piece_of lexeme_of longest_from next_of tokens_from comments_from keyword_spellings is_letter is_digit general_category general_category_rows value_in lib.Utf8.encode
bound_index_new_found = tokens_by bound_index_new.text bound_index_new.tokens bound_index_new.comments refl refl refl

bound_index_run : IsInlining the_limits (folder small_module bound_index.texts) bound_index.packages bound_index.texts [] (((codes "main.go"), bound_index_new) ∷ []) (codes "main.go:10:10: inlined example.com/m.First as literal\n")
bound_index_run = bound_index_inlined bound_index_t0_found bound_index_new_found

-- What acts and is used twice is bound.
abbrev bound_call_f0 : File Span
bound_call_f0 = record { package_name = (nm 8 12 (codes "main")); imports = []; decls = ((fn (at 30 68) None (nm 35 40 (codes "Twice")) (sig ((param (at 41 46) (Some (nm 41 42 (codes "x"))) (named (at 43 46) None (nm 43 46 (codes "int")))) ∷ []) ((param (at 48 51) None (named (at 48 51) None (nm 48 51 (codes "int")))) ∷ [])) (at 52 68) (stmt_and (return_ (at 54 66) (expr_and (binary (at 61 66) Add (ident (at 61 62) (codes "x")) (ident (at 65 66) (codes "x"))) no_exprs)) no_stmts)) ∷ (fn (at 70 112) None (nm 75 79 (codes "next")) (sig [] ((param (at 82 85) None (named (at 82 85) None (nm 82 85 (codes "int")))) ∷ [])) (at 86 112) (stmt_and (eval (at 88 100) (call (at 88 100) (ident (at 88 95) (codes "println")) (expr_and (str_lit (at 96 99) (codes "\"n\"")) no_exprs) Plain)) (stmt_and (return_ (at 102 110) (expr_and (int_lit (at 109 110) (codes "1")) no_exprs)) no_stmts))) ∷ (fn (at 114 153) None (nm 119 120 (codes "g")) (sig [] ((param (at 123 126) None (named (at 123 126) None (nm 123 126 (codes "int")))) ∷ [])) (at 127 153) (stmt_and (eval (at 129 141) (call (at 129 141) (ident (at 129 136) (codes "println")) (expr_and (str_lit (at 137 140) (codes "\"g\"")) no_exprs) Plain)) (stmt_and (return_ (at 143 151) (expr_and (int_lit (at 150 151) (codes "1")) no_exprs)) no_stmts))) ∷ (fn (at 155 194) None (nm 160 161 (codes "h")) (sig [] ((param (at 164 167) None (named (at 164 167) None (nm 164 167 (codes "int")))) ∷ [])) (at 168 194) (stmt_and (eval (at 170 182) (call (at 170 182) (ident (at 170 177) (codes "println")) (expr_and (str_lit (at 178 181) (codes "\"h\"")) no_exprs) Plain)) (stmt_and (return_ (at 184 192) (expr_and (int_lit (at 191 192) (codes "1")) no_exprs)) no_stmts))) ∷ (fn (at 196 235) None (nm 201 205 (codes "main")) (sig [] []) (at 208 235) (stmt_and (eval (at 211 233) (call (at 211 233) (ident (at 211 218) (codes "println")) (expr_and (call (at 219 232) (ident (at 219 224) (codes "Twice")) (expr_and (call (at 225 231) (ident (at 225 229) (codes "next")) no_exprs Plain) no_exprs) Plain) no_exprs) Plain)) no_stmts)) ∷ []) }

abbrev bound_call : Module
bound_call = record { packages = (pack (codes "example.com/m") (codes "main") (source (codes "main.go") bound_call_f0 ∷ []) ∷ []); marks = (mark 0 0 0 0 ∷ []); texts = (((codes "main.go"), record { text = (codes "package main\n\n//go:fix inline\nfunc Twice(x int) int { return x + x }\n\nfunc next() int { println(\"n\"); return 1 }\n\nfunc g() int { println(\"g\"); return 1 }\n\nfunc h() int { println(\"h\"); return 1 }\n\nfunc main() {\n\tprintln(Twice(next()))\n}\n"); tokens = ((tok Keyword 0 7 (codes "package")) ∷ (tok Ident 8 12 (codes "main")) ∷ (tok Inserted 12 12 (codes ";")) ∷ (tok Keyword 30 34 (codes "func")) ∷ (tok Ident 35 40 (codes "Twice")) ∷ (tok Operator 40 41 (codes "(")) ∷ (tok Ident 41 42 (codes "x")) ∷ (tok Ident 43 46 (codes "int")) ∷ (tok Operator 46 47 (codes ")")) ∷ (tok Ident 48 51 (codes "int")) ∷ (tok Operator 52 53 (codes "{")) ∷ (tok Keyword 54 60 (codes "return")) ∷ (tok Ident 61 62 (codes "x")) ∷ (tok Operator 63 64 (codes "+")) ∷ (tok Ident 65 66 (codes "x")) ∷ (tok Operator 67 68 (codes "}")) ∷ (tok Inserted 68 68 (codes ";")) ∷ (tok Keyword 70 74 (codes "func")) ∷ (tok Ident 75 79 (codes "next")) ∷ (tok Operator 79 80 (codes "(")) ∷ (tok Operator 80 81 (codes ")")) ∷ (tok Ident 82 85 (codes "int")) ∷ (tok Operator 86 87 (codes "{")) ∷ (tok Ident 88 95 (codes "println")) ∷ (tok Operator 95 96 (codes "(")) ∷ (tok Str 96 99 (codes "\"n\"")) ∷ (tok Operator 99 100 (codes ")")) ∷ (tok Operator 100 101 (codes ";")) ∷ (tok Keyword 102 108 (codes "return")) ∷ (tok Integer 109 110 (codes "1")) ∷ (tok Operator 111 112 (codes "}")) ∷ (tok Inserted 112 112 (codes ";")) ∷ (tok Keyword 114 118 (codes "func")) ∷ (tok Ident 119 120 (codes "g")) ∷ (tok Operator 120 121 (codes "(")) ∷ (tok Operator 121 122 (codes ")")) ∷ (tok Ident 123 126 (codes "int")) ∷ (tok Operator 127 128 (codes "{")) ∷ (tok Ident 129 136 (codes "println")) ∷ (tok Operator 136 137 (codes "(")) ∷ (tok Str 137 140 (codes "\"g\"")) ∷ (tok Operator 140 141 (codes ")")) ∷ (tok Operator 141 142 (codes ";")) ∷ (tok Keyword 143 149 (codes "return")) ∷ (tok Integer 150 151 (codes "1")) ∷ (tok Operator 152 153 (codes "}")) ∷ (tok Inserted 153 153 (codes ";")) ∷ (tok Keyword 155 159 (codes "func")) ∷ (tok Ident 160 161 (codes "h")) ∷ (tok Operator 161 162 (codes "(")) ∷ (tok Operator 162 163 (codes ")")) ∷ (tok Ident 164 167 (codes "int")) ∷ (tok Operator 168 169 (codes "{")) ∷ (tok Ident 170 177 (codes "println")) ∷ (tok Operator 177 178 (codes "(")) ∷ (tok Str 178 181 (codes "\"h\"")) ∷ (tok Operator 181 182 (codes ")")) ∷ (tok Operator 182 183 (codes ";")) ∷ (tok Keyword 184 190 (codes "return")) ∷ (tok Integer 191 192 (codes "1")) ∷ (tok Operator 193 194 (codes "}")) ∷ (tok Inserted 194 194 (codes ";")) ∷ (tok Keyword 196 200 (codes "func")) ∷ (tok Ident 201 205 (codes "main")) ∷ (tok Operator 205 206 (codes "(")) ∷ (tok Operator 206 207 (codes ")")) ∷ (tok Operator 208 209 (codes "{")) ∷ (tok Ident 211 218 (codes "println")) ∷ (tok Operator 218 219 (codes "(")) ∷ (tok Ident 219 224 (codes "Twice")) ∷ (tok Operator 224 225 (codes "(")) ∷ (tok Ident 225 229 (codes "next")) ∷ (tok Operator 229 230 (codes "(")) ∷ (tok Operator 230 231 (codes ")")) ∷ (tok Operator 231 232 (codes ")")) ∷ (tok Operator 232 233 (codes ")")) ∷ (tok Inserted 233 233 (codes ";")) ∷ (tok Operator 234 235 (codes "}")) ∷ (tok Inserted 235 235 (codes ";")) ∷ []); comments = ((note 14 29) ∷ []) }) ∷ []) }

abbrev bound_call_t0 : FileText
bound_call_t0 = (record { text = (codes "package main\n\n//go:fix inline\nfunc Twice(x int) int { return x + x }\n\nfunc next() int { println(\"n\"); return 1 }\n\nfunc g() int { println(\"g\"); return 1 }\n\nfunc h() int { println(\"h\"); return 1 }\n\nfunc main() {\n\tprintln(Twice(next()))\n}\n"); tokens = ((tok Keyword 0 7 (codes "package")) ∷ (tok Ident 8 12 (codes "main")) ∷ (tok Inserted 12 12 (codes ";")) ∷ (tok Keyword 30 34 (codes "func")) ∷ (tok Ident 35 40 (codes "Twice")) ∷ (tok Operator 40 41 (codes "(")) ∷ (tok Ident 41 42 (codes "x")) ∷ (tok Ident 43 46 (codes "int")) ∷ (tok Operator 46 47 (codes ")")) ∷ (tok Ident 48 51 (codes "int")) ∷ (tok Operator 52 53 (codes "{")) ∷ (tok Keyword 54 60 (codes "return")) ∷ (tok Ident 61 62 (codes "x")) ∷ (tok Operator 63 64 (codes "+")) ∷ (tok Ident 65 66 (codes "x")) ∷ (tok Operator 67 68 (codes "}")) ∷ (tok Inserted 68 68 (codes ";")) ∷ (tok Keyword 70 74 (codes "func")) ∷ (tok Ident 75 79 (codes "next")) ∷ (tok Operator 79 80 (codes "(")) ∷ (tok Operator 80 81 (codes ")")) ∷ (tok Ident 82 85 (codes "int")) ∷ (tok Operator 86 87 (codes "{")) ∷ (tok Ident 88 95 (codes "println")) ∷ (tok Operator 95 96 (codes "(")) ∷ (tok Str 96 99 (codes "\"n\"")) ∷ (tok Operator 99 100 (codes ")")) ∷ (tok Operator 100 101 (codes ";")) ∷ (tok Keyword 102 108 (codes "return")) ∷ (tok Integer 109 110 (codes "1")) ∷ (tok Operator 111 112 (codes "}")) ∷ (tok Inserted 112 112 (codes ";")) ∷ (tok Keyword 114 118 (codes "func")) ∷ (tok Ident 119 120 (codes "g")) ∷ (tok Operator 120 121 (codes "(")) ∷ (tok Operator 121 122 (codes ")")) ∷ (tok Ident 123 126 (codes "int")) ∷ (tok Operator 127 128 (codes "{")) ∷ (tok Ident 129 136 (codes "println")) ∷ (tok Operator 136 137 (codes "(")) ∷ (tok Str 137 140 (codes "\"g\"")) ∷ (tok Operator 140 141 (codes ")")) ∷ (tok Operator 141 142 (codes ";")) ∷ (tok Keyword 143 149 (codes "return")) ∷ (tok Integer 150 151 (codes "1")) ∷ (tok Operator 152 153 (codes "}")) ∷ (tok Inserted 153 153 (codes ";")) ∷ (tok Keyword 155 159 (codes "func")) ∷ (tok Ident 160 161 (codes "h")) ∷ (tok Operator 161 162 (codes "(")) ∷ (tok Operator 162 163 (codes ")")) ∷ (tok Ident 164 167 (codes "int")) ∷ (tok Operator 168 169 (codes "{")) ∷ (tok Ident 170 177 (codes "println")) ∷ (tok Operator 177 178 (codes "(")) ∷ (tok Str 178 181 (codes "\"h\"")) ∷ (tok Operator 181 182 (codes ")")) ∷ (tok Operator 182 183 (codes ";")) ∷ (tok Keyword 184 190 (codes "return")) ∷ (tok Integer 191 192 (codes "1")) ∷ (tok Operator 193 194 (codes "}")) ∷ (tok Inserted 194 194 (codes ";")) ∷ (tok Keyword 196 200 (codes "func")) ∷ (tok Ident 201 205 (codes "main")) ∷ (tok Operator 205 206 (codes "(")) ∷ (tok Operator 206 207 (codes ")")) ∷ (tok Operator 208 209 (codes "{")) ∷ (tok Ident 211 218 (codes "println")) ∷ (tok Operator 218 219 (codes "(")) ∷ (tok Ident 219 224 (codes "Twice")) ∷ (tok Operator 224 225 (codes "(")) ∷ (tok Ident 225 229 (codes "next")) ∷ (tok Operator 229 230 (codes "(")) ∷ (tok Operator 230 231 (codes ")")) ∷ (tok Operator 231 232 (codes ")")) ∷ (tok Operator 232 233 (codes ")")) ∷ (tok Inserted 233 233 (codes ";")) ∷ (tok Operator 234 235 (codes "}")) ∷ (tok Inserted 235 235 (codes ";")) ∷ []); comments = ((note 14 29) ∷ []) })

bound_call_marks : marks_of bound_call.packages bound_call.texts [] ≡ bound_call.marks
unfolding passes keyword_spellings is_inline digits
bound_call_marks = refl

bound_call_spelled0 : read_at span_to read_front (lexemes bound_call_t0.tokens) ≡ Some (bound_call_f0, [])
unfolding reading
bound_call_spelled0 = refl

abbrev bound_call_start : Standing
bound_call_start = standing_as_read bound_call.packages bound_call.texts

abbrev bound_call_new : FileText
bound_call_new = (record { text = (codes "package main\n\n//go:fix inline\nfunc Twice(x int) int { return x + x }\n\nfunc next() int { println(\"n\"); return 1 }\n\nfunc g() int { println(\"g\"); return 1 }\n\nfunc h() int { println(\"h\"); return 1 }\n\nfunc main() {\n\tprintln(func(x int) int {\n\t\treturn x + x\n\t}(next()))\n}\n"); tokens = ((tok Keyword 0 7 (codes "package")) ∷ (tok Ident 8 12 (codes "main")) ∷ (tok Inserted 12 12 (codes ";")) ∷ (tok Keyword 30 34 (codes "func")) ∷ (tok Ident 35 40 (codes "Twice")) ∷ (tok Operator 40 41 (codes "(")) ∷ (tok Ident 41 42 (codes "x")) ∷ (tok Ident 43 46 (codes "int")) ∷ (tok Operator 46 47 (codes ")")) ∷ (tok Ident 48 51 (codes "int")) ∷ (tok Operator 52 53 (codes "{")) ∷ (tok Keyword 54 60 (codes "return")) ∷ (tok Ident 61 62 (codes "x")) ∷ (tok Operator 63 64 (codes "+")) ∷ (tok Ident 65 66 (codes "x")) ∷ (tok Operator 67 68 (codes "}")) ∷ (tok Inserted 68 68 (codes ";")) ∷ (tok Keyword 70 74 (codes "func")) ∷ (tok Ident 75 79 (codes "next")) ∷ (tok Operator 79 80 (codes "(")) ∷ (tok Operator 80 81 (codes ")")) ∷ (tok Ident 82 85 (codes "int")) ∷ (tok Operator 86 87 (codes "{")) ∷ (tok Ident 88 95 (codes "println")) ∷ (tok Operator 95 96 (codes "(")) ∷ (tok Str 96 99 (codes "\"n\"")) ∷ (tok Operator 99 100 (codes ")")) ∷ (tok Operator 100 101 (codes ";")) ∷ (tok Keyword 102 108 (codes "return")) ∷ (tok Integer 109 110 (codes "1")) ∷ (tok Operator 111 112 (codes "}")) ∷ (tok Inserted 112 112 (codes ";")) ∷ (tok Keyword 114 118 (codes "func")) ∷ (tok Ident 119 120 (codes "g")) ∷ (tok Operator 120 121 (codes "(")) ∷ (tok Operator 121 122 (codes ")")) ∷ (tok Ident 123 126 (codes "int")) ∷ (tok Operator 127 128 (codes "{")) ∷ (tok Ident 129 136 (codes "println")) ∷ (tok Operator 136 137 (codes "(")) ∷ (tok Str 137 140 (codes "\"g\"")) ∷ (tok Operator 140 141 (codes ")")) ∷ (tok Operator 141 142 (codes ";")) ∷ (tok Keyword 143 149 (codes "return")) ∷ (tok Integer 150 151 (codes "1")) ∷ (tok Operator 152 153 (codes "}")) ∷ (tok Inserted 153 153 (codes ";")) ∷ (tok Keyword 155 159 (codes "func")) ∷ (tok Ident 160 161 (codes "h")) ∷ (tok Operator 161 162 (codes "(")) ∷ (tok Operator 162 163 (codes ")")) ∷ (tok Ident 164 167 (codes "int")) ∷ (tok Operator 168 169 (codes "{")) ∷ (tok Ident 170 177 (codes "println")) ∷ (tok Operator 177 178 (codes "(")) ∷ (tok Str 178 181 (codes "\"h\"")) ∷ (tok Operator 181 182 (codes ")")) ∷ (tok Operator 182 183 (codes ";")) ∷ (tok Keyword 184 190 (codes "return")) ∷ (tok Integer 191 192 (codes "1")) ∷ (tok Operator 193 194 (codes "}")) ∷ (tok Inserted 194 194 (codes ";")) ∷ (tok Keyword 196 200 (codes "func")) ∷ (tok Ident 201 205 (codes "main")) ∷ (tok Operator 205 206 (codes "(")) ∷ (tok Operator 206 207 (codes ")")) ∷ (tok Operator 208 209 (codes "{")) ∷ (tok Ident 211 218 (codes "println")) ∷ (tok Operator 218 219 (codes "(")) ∷ (tok Keyword 219 223 (codes "func")) ∷ (tok Operator 223 224 (codes "(")) ∷ (tok Ident 224 225 (codes "x")) ∷ (tok Ident 226 229 (codes "int")) ∷ (tok Operator 229 230 (codes ")")) ∷ (tok Ident 231 234 (codes "int")) ∷ (tok Operator 235 236 (codes "{")) ∷ (tok Keyword 239 245 (codes "return")) ∷ (tok Ident 246 247 (codes "x")) ∷ (tok Operator 248 249 (codes "+")) ∷ (tok Ident 250 251 (codes "x")) ∷ (tok Inserted 251 251 (codes ";")) ∷ (tok Operator 253 254 (codes "}")) ∷ (tok Operator 254 255 (codes "(")) ∷ (tok Ident 255 259 (codes "next")) ∷ (tok Operator 259 260 (codes "(")) ∷ (tok Operator 260 261 (codes ")")) ∷ (tok Operator 261 262 (codes ")")) ∷ (tok Operator 262 263 (codes ")")) ∷ (tok Inserted 263 263 (codes ";")) ∷ (tok Operator 264 265 (codes "}")) ∷ (tok Inserted 265 265 (codes ";")) ∷ []); comments = ((note 14 29) ∷ []) })

abbrev bound_call_tree : File At
bound_call_tree = record { package_name = (nmf 8 12 8 12 (codes "main")); imports = []; decls = ((fn (from 30 68 30 68) None (nmf 35 40 35 40 (codes "Twice")) (sig ((param (from 41 46 41 46) (Some (nmf 41 42 41 42 (codes "x"))) (named (from 43 46 43 46) None (nmf 43 46 43 46 (codes "int")))) ∷ []) ((param (from 48 51 48 51) None (named (from 48 51 48 51) None (nmf 48 51 48 51 (codes "int")))) ∷ [])) (from 52 68 52 68) (stmt_and (return_ (from 54 66 54 66) (expr_and (binary (from 61 66 61 66) Add (ident (from 61 62 61 62) (codes "x")) (ident (from 65 66 65 66) (codes "x"))) no_exprs)) no_stmts)) ∷ (fn (from 70 112 70 112) None (nmf 75 79 75 79 (codes "next")) (sig [] ((param (from 82 85 82 85) None (named (from 82 85 82 85) None (nmf 82 85 82 85 (codes "int")))) ∷ [])) (from 86 112 86 112) (stmt_and (eval (from 88 100 88 100) (call (from 88 100 88 100) (ident (from 88 95 88 95) (codes "println")) (expr_and (str_lit (from 96 99 96 99) (codes "\"n\"")) no_exprs) Plain)) (stmt_and (return_ (from 102 110 102 110) (expr_and (int_lit (from 109 110 109 110) (codes "1")) no_exprs)) no_stmts))) ∷ (fn (from 114 153 114 153) None (nmf 119 120 119 120 (codes "g")) (sig [] ((param (from 123 126 123 126) None (named (from 123 126 123 126) None (nmf 123 126 123 126 (codes "int")))) ∷ [])) (from 127 153 127 153) (stmt_and (eval (from 129 141 129 141) (call (from 129 141 129 141) (ident (from 129 136 129 136) (codes "println")) (expr_and (str_lit (from 137 140 137 140) (codes "\"g\"")) no_exprs) Plain)) (stmt_and (return_ (from 143 151 143 151) (expr_and (int_lit (from 150 151 150 151) (codes "1")) no_exprs)) no_stmts))) ∷ (fn (from 155 194 155 194) None (nmf 160 161 160 161 (codes "h")) (sig [] ((param (from 164 167 164 167) None (named (from 164 167 164 167) None (nmf 164 167 164 167 (codes "int")))) ∷ [])) (from 168 194 168 194) (stmt_and (eval (from 170 182 170 182) (call (from 170 182 170 182) (ident (from 170 177 170 177) (codes "println")) (expr_and (str_lit (from 178 181 178 181) (codes "\"h\"")) no_exprs) Plain)) (stmt_and (return_ (from 184 192 184 192) (expr_and (int_lit (from 191 192 191 192) (codes "1")) no_exprs)) no_stmts))) ∷ (fn (from 196 265 196 235) None (nmf 201 205 201 205 (codes "main")) (sig [] []) (from 208 265 208 235) (stmt_and (eval (from 211 263 211 233) (call (from 211 263 211 233) (ident (from 211 218 211 218) (codes "println")) (expr_and (call (from 219 262 219 232) (func_lit (from 219 254 219 232) (sig ((param (from 224 229 219 232) (Some (nmf 224 225 219 232 (codes "x"))) (named (from 226 229 219 232) None (nmf 226 229 219 232 (codes "int")))) ∷ []) ((param (from 231 234 219 232) None (named (from 231 234 219 232) None (nmf 231 234 219 232 (codes "int")))) ∷ [])) (from 235 254 219 232) (stmt_and (return_ (from 239 251 219 232) (expr_and (binary (from 246 251 219 232) Add (ident (from 246 247 219 232) (codes "x")) (ident (from 250 251 219 232) (codes "x"))) no_exprs)) no_stmts)) (expr_and (call (from 255 261 225 231) (ident (from 255 259 225 229) (codes "next")) no_exprs Plain) no_exprs) Plain) no_exprs) Plain)) no_stmts)) ∷ []) }

bound_call_steps : is_some (step_in bound_call.marks bound_call_start) ≡ true
unfolding passes keyword_spellings is_inline digits
bound_call_steps = refl

abbrev bound_call_next : TokensOf bound_call_new.text bound_call_new.tokens bound_call_new.comments → Next bound_call.marks bound_call_start (log_entry bound_call.marks bound_call_start (bound_call_steps) bound_call_t0 bound_call_new bound_call_tree) (stands_after bound_call.marks bound_call_start (bound_call_steps) bound_call_t0 bound_call_new bound_call_tree)
unfolding passes keyword_spellings is_inline digits reading bound_call_steps
bound_call_next h = next_by bound_call.marks bound_call_start (bound_call_steps) bound_call_t0 bound_call_new bound_call_tree refl refl h refl refl

-- the whole run, with the tokens of the texts
bound_call_inlined : (h0 : TokensOf bound_call_t0.text bound_call_t0.tokens bound_call_t0.comments) (h : TokensOf bound_call_new.text bound_call_new.tokens bound_call_new.comments) → IsInlining the_limits (folder small_module bound_call.texts) bound_call.packages bound_call.texts [] (((codes "main.go"), bound_call_new) ∷ []) (codes "main.go:13:10: inlined example.com/m.Twice as literal\n")
unfolding passes keyword_spellings is_inline digits reading bound_call_steps bound_call_next
bound_call_inlined h0 h = inlining_by the_limits (folder small_module bound_call.texts) bound_call.packages bound_call.texts [] bound_call.marks (stands_after bound_call.marks bound_call_start (bound_call_steps) bound_call_t0 bound_call_new bound_call_tree) (log_entry bound_call.marks bound_call_start (bound_call_steps) bound_call_t0 bound_call_new bound_call_tree ∷ []) (codes "main.go:13:10: inlined example.com/m.Twice as literal\n") bound_call_marks (module_by (codes "example.com/m") (module_text small_module) (record { path = codes "main.go"; text = bound_call_t0; tree = bound_call_f0; reads = record { scans = h0; spells = file_spelled bound_call_t0.tokens bound_call_f0 bound_call_spelled0 } } ∷ []) (folder small_module bound_call.texts) bound_call.packages bound_call.texts small_module_is refl refl refl refl refl refl refl refl refl) (goes_on bound_call_start (stands_after bound_call.marks bound_call_start (bound_call_steps) bound_call_t0 bound_call_new bound_call_tree) (stands_after bound_call.marks bound_call_start (bound_call_steps) bound_call_t0 bound_call_new bound_call_tree) (log_entry bound_call.marks bound_call_start (bound_call_steps) bound_call_t0 bound_call_new bound_call_tree) [] (bound_call_next h) (ends (stands_after bound_call.marks bound_call_start (bound_call_steps) bound_call_t0 bound_call_new bound_call_tree) refl)) (steps_on [] [] (log_entry bound_call.marks bound_call_start (bound_call_steps) bound_call_t0 bound_call_new bound_call_tree) bound_call_start (stands_after bound_call.marks bound_call_start (bound_call_steps) bound_call_t0 bound_call_new bound_call_tree) (stands_after bound_call.marks bound_call_start (bound_call_steps) bound_call_t0 bound_call_new bound_call_tree) (bound_call_next h) refl (begins (log_entry bound_call.marks bound_call_start (bound_call_steps) bound_call_t0 bound_call_new bound_call_tree ∷ []) (stands_after bound_call.marks bound_call_start (bound_call_steps) bound_call_t0 bound_call_new bound_call_tree))) (kept_by (log_entry bound_call.marks bound_call_start (bound_call_steps) bound_call_t0 bound_call_new bound_call_tree ∷ []) (codes "main.go") bound_call_t0.text bound_call_new.text [] [] refl refl run.none) refl

bound_call_t0_found : TokensOf bound_call_t0.text bound_call_t0.tokens bound_call_t0.comments
unfolding piece_of lexeme_of longest_from next_of tokens_from comments_from keyword_spellings is_letter is_digit general_category general_category_rows value_in lib.Utf8.encode
bound_call_t0_found = tokens_by bound_call_t0.text bound_call_t0.tokens bound_call_t0.comments refl refl refl

bound_call_new_found : TokensOf bound_call_new.text bound_call_new.tokens bound_call_new.comments
unfolding piece_of lexeme_of longest_from next_of tokens_from comments_from keyword_spellings is_letter is_digit general_category general_category_rows value_in lib.Utf8.encode
bound_call_new_found = tokens_by bound_call_new.text bound_call_new.tokens bound_call_new.comments refl refl refl

bound_call_run : IsInlining the_limits (folder small_module bound_call.texts) bound_call.packages bound_call.texts [] (((codes "main.go"), bound_call_new) ∷ []) (codes "main.go:13:10: inlined example.com/m.Twice as literal\n")
bound_call_run = bound_call_inlined bound_call_t0_found bound_call_new_found

-- The order of two arguments that act stays.
abbrev bound_first_f0 : File Span
bound_first_f0 = record { package_name = (nm 8 12 (codes "main")); imports = []; decls = ((fn (at 30 70) None (nm 35 39 (codes "Less")) (sig ((param (at 40 48) (Some (nm 40 41 (codes "a"))) (named (at 45 48) None (nm 45 48 (codes "int")))) ∷ (param (at 43 48) (Some (nm 43 44 (codes "b"))) (named (at 45 48) None (nm 45 48 (codes "int")))) ∷ []) ((param (at 50 53) None (named (at 50 53) None (nm 50 53 (codes "int")))) ∷ [])) (at 54 70) (stmt_and (return_ (at 56 68) (expr_and (binary (at 63 68) Sub (ident (at 63 64) (codes "b")) (ident (at 67 68) (codes "a"))) no_exprs)) no_stmts)) ∷ (fn (at 72 114) None (nm 77 81 (codes "next")) (sig [] ((param (at 84 87) None (named (at 84 87) None (nm 84 87 (codes "int")))) ∷ [])) (at 88 114) (stmt_and (eval (at 90 102) (call (at 90 102) (ident (at 90 97) (codes "println")) (expr_and (str_lit (at 98 101) (codes "\"n\"")) no_exprs) Plain)) (stmt_and (return_ (at 104 112) (expr_and (int_lit (at 111 112) (codes "1")) no_exprs)) no_stmts))) ∷ (fn (at 116 155) None (nm 121 122 (codes "g")) (sig [] ((param (at 125 128) None (named (at 125 128) None (nm 125 128 (codes "int")))) ∷ [])) (at 129 155) (stmt_and (eval (at 131 143) (call (at 131 143) (ident (at 131 138) (codes "println")) (expr_and (str_lit (at 139 142) (codes "\"g\"")) no_exprs) Plain)) (stmt_and (return_ (at 145 153) (expr_and (int_lit (at 152 153) (codes "1")) no_exprs)) no_stmts))) ∷ (fn (at 157 196) None (nm 162 163 (codes "h")) (sig [] ((param (at 166 169) None (named (at 166 169) None (nm 166 169 (codes "int")))) ∷ [])) (at 170 196) (stmt_and (eval (at 172 184) (call (at 172 184) (ident (at 172 179) (codes "println")) (expr_and (str_lit (at 180 183) (codes "\"h\"")) no_exprs) Plain)) (stmt_and (return_ (at 186 194) (expr_and (int_lit (at 193 194) (codes "1")) no_exprs)) no_stmts))) ∷ (fn (at 198 238) None (nm 203 207 (codes "main")) (sig [] []) (at 210 238) (stmt_and (eval (at 213 236) (call (at 213 236) (ident (at 213 220) (codes "println")) (expr_and (call (at 221 235) (ident (at 221 225) (codes "Less")) (expr_and (call (at 226 229) (ident (at 226 227) (codes "g")) no_exprs Plain) (expr_and (call (at 231 234) (ident (at 231 232) (codes "h")) no_exprs Plain) no_exprs)) Plain) no_exprs) Plain)) no_stmts)) ∷ []) }

abbrev bound_first : Module
bound_first = record { packages = (pack (codes "example.com/m") (codes "main") (source (codes "main.go") bound_first_f0 ∷ []) ∷ []); marks = (mark 0 0 0 0 ∷ []); texts = (((codes "main.go"), record { text = (codes "package main\n\n//go:fix inline\nfunc Less(a, b int) int { return b - a }\n\nfunc next() int { println(\"n\"); return 1 }\n\nfunc g() int { println(\"g\"); return 1 }\n\nfunc h() int { println(\"h\"); return 1 }\n\nfunc main() {\n\tprintln(Less(g(), h()))\n}\n"); tokens = ((tok Keyword 0 7 (codes "package")) ∷ (tok Ident 8 12 (codes "main")) ∷ (tok Inserted 12 12 (codes ";")) ∷ (tok Keyword 30 34 (codes "func")) ∷ (tok Ident 35 39 (codes "Less")) ∷ (tok Operator 39 40 (codes "(")) ∷ (tok Ident 40 41 (codes "a")) ∷ (tok Operator 41 42 (codes ",")) ∷ (tok Ident 43 44 (codes "b")) ∷ (tok Ident 45 48 (codes "int")) ∷ (tok Operator 48 49 (codes ")")) ∷ (tok Ident 50 53 (codes "int")) ∷ (tok Operator 54 55 (codes "{")) ∷ (tok Keyword 56 62 (codes "return")) ∷ (tok Ident 63 64 (codes "b")) ∷ (tok Operator 65 66 (codes "-")) ∷ (tok Ident 67 68 (codes "a")) ∷ (tok Operator 69 70 (codes "}")) ∷ (tok Inserted 70 70 (codes ";")) ∷ (tok Keyword 72 76 (codes "func")) ∷ (tok Ident 77 81 (codes "next")) ∷ (tok Operator 81 82 (codes "(")) ∷ (tok Operator 82 83 (codes ")")) ∷ (tok Ident 84 87 (codes "int")) ∷ (tok Operator 88 89 (codes "{")) ∷ (tok Ident 90 97 (codes "println")) ∷ (tok Operator 97 98 (codes "(")) ∷ (tok Str 98 101 (codes "\"n\"")) ∷ (tok Operator 101 102 (codes ")")) ∷ (tok Operator 102 103 (codes ";")) ∷ (tok Keyword 104 110 (codes "return")) ∷ (tok Integer 111 112 (codes "1")) ∷ (tok Operator 113 114 (codes "}")) ∷ (tok Inserted 114 114 (codes ";")) ∷ (tok Keyword 116 120 (codes "func")) ∷ (tok Ident 121 122 (codes "g")) ∷ (tok Operator 122 123 (codes "(")) ∷ (tok Operator 123 124 (codes ")")) ∷ (tok Ident 125 128 (codes "int")) ∷ (tok Operator 129 130 (codes "{")) ∷ (tok Ident 131 138 (codes "println")) ∷ (tok Operator 138 139 (codes "(")) ∷ (tok Str 139 142 (codes "\"g\"")) ∷ (tok Operator 142 143 (codes ")")) ∷ (tok Operator 143 144 (codes ";")) ∷ (tok Keyword 145 151 (codes "return")) ∷ (tok Integer 152 153 (codes "1")) ∷ (tok Operator 154 155 (codes "}")) ∷ (tok Inserted 155 155 (codes ";")) ∷ (tok Keyword 157 161 (codes "func")) ∷ (tok Ident 162 163 (codes "h")) ∷ (tok Operator 163 164 (codes "(")) ∷ (tok Operator 164 165 (codes ")")) ∷ (tok Ident 166 169 (codes "int")) ∷ (tok Operator 170 171 (codes "{")) ∷ (tok Ident 172 179 (codes "println")) ∷ (tok Operator 179 180 (codes "(")) ∷ (tok Str 180 183 (codes "\"h\"")) ∷ (tok Operator 183 184 (codes ")")) ∷ (tok Operator 184 185 (codes ";")) ∷ (tok Keyword 186 192 (codes "return")) ∷ (tok Integer 193 194 (codes "1")) ∷ (tok Operator 195 196 (codes "}")) ∷ (tok Inserted 196 196 (codes ";")) ∷ (tok Keyword 198 202 (codes "func")) ∷ (tok Ident 203 207 (codes "main")) ∷ (tok Operator 207 208 (codes "(")) ∷ (tok Operator 208 209 (codes ")")) ∷ (tok Operator 210 211 (codes "{")) ∷ (tok Ident 213 220 (codes "println")) ∷ (tok Operator 220 221 (codes "(")) ∷ (tok Ident 221 225 (codes "Less")) ∷ (tok Operator 225 226 (codes "(")) ∷ (tok Ident 226 227 (codes "g")) ∷ (tok Operator 227 228 (codes "(")) ∷ (tok Operator 228 229 (codes ")")) ∷ (tok Operator 229 230 (codes ",")) ∷ (tok Ident 231 232 (codes "h")) ∷ (tok Operator 232 233 (codes "(")) ∷ (tok Operator 233 234 (codes ")")) ∷ (tok Operator 234 235 (codes ")")) ∷ (tok Operator 235 236 (codes ")")) ∷ (tok Inserted 236 236 (codes ";")) ∷ (tok Operator 237 238 (codes "}")) ∷ (tok Inserted 238 238 (codes ";")) ∷ []); comments = ((note 14 29) ∷ []) }) ∷ []) }

abbrev bound_first_t0 : FileText
bound_first_t0 = (record { text = (codes "package main\n\n//go:fix inline\nfunc Less(a, b int) int { return b - a }\n\nfunc next() int { println(\"n\"); return 1 }\n\nfunc g() int { println(\"g\"); return 1 }\n\nfunc h() int { println(\"h\"); return 1 }\n\nfunc main() {\n\tprintln(Less(g(), h()))\n}\n"); tokens = ((tok Keyword 0 7 (codes "package")) ∷ (tok Ident 8 12 (codes "main")) ∷ (tok Inserted 12 12 (codes ";")) ∷ (tok Keyword 30 34 (codes "func")) ∷ (tok Ident 35 39 (codes "Less")) ∷ (tok Operator 39 40 (codes "(")) ∷ (tok Ident 40 41 (codes "a")) ∷ (tok Operator 41 42 (codes ",")) ∷ (tok Ident 43 44 (codes "b")) ∷ (tok Ident 45 48 (codes "int")) ∷ (tok Operator 48 49 (codes ")")) ∷ (tok Ident 50 53 (codes "int")) ∷ (tok Operator 54 55 (codes "{")) ∷ (tok Keyword 56 62 (codes "return")) ∷ (tok Ident 63 64 (codes "b")) ∷ (tok Operator 65 66 (codes "-")) ∷ (tok Ident 67 68 (codes "a")) ∷ (tok Operator 69 70 (codes "}")) ∷ (tok Inserted 70 70 (codes ";")) ∷ (tok Keyword 72 76 (codes "func")) ∷ (tok Ident 77 81 (codes "next")) ∷ (tok Operator 81 82 (codes "(")) ∷ (tok Operator 82 83 (codes ")")) ∷ (tok Ident 84 87 (codes "int")) ∷ (tok Operator 88 89 (codes "{")) ∷ (tok Ident 90 97 (codes "println")) ∷ (tok Operator 97 98 (codes "(")) ∷ (tok Str 98 101 (codes "\"n\"")) ∷ (tok Operator 101 102 (codes ")")) ∷ (tok Operator 102 103 (codes ";")) ∷ (tok Keyword 104 110 (codes "return")) ∷ (tok Integer 111 112 (codes "1")) ∷ (tok Operator 113 114 (codes "}")) ∷ (tok Inserted 114 114 (codes ";")) ∷ (tok Keyword 116 120 (codes "func")) ∷ (tok Ident 121 122 (codes "g")) ∷ (tok Operator 122 123 (codes "(")) ∷ (tok Operator 123 124 (codes ")")) ∷ (tok Ident 125 128 (codes "int")) ∷ (tok Operator 129 130 (codes "{")) ∷ (tok Ident 131 138 (codes "println")) ∷ (tok Operator 138 139 (codes "(")) ∷ (tok Str 139 142 (codes "\"g\"")) ∷ (tok Operator 142 143 (codes ")")) ∷ (tok Operator 143 144 (codes ";")) ∷ (tok Keyword 145 151 (codes "return")) ∷ (tok Integer 152 153 (codes "1")) ∷ (tok Operator 154 155 (codes "}")) ∷ (tok Inserted 155 155 (codes ";")) ∷ (tok Keyword 157 161 (codes "func")) ∷ (tok Ident 162 163 (codes "h")) ∷ (tok Operator 163 164 (codes "(")) ∷ (tok Operator 164 165 (codes ")")) ∷ (tok Ident 166 169 (codes "int")) ∷ (tok Operator 170 171 (codes "{")) ∷ (tok Ident 172 179 (codes "println")) ∷ (tok Operator 179 180 (codes "(")) ∷ (tok Str 180 183 (codes "\"h\"")) ∷ (tok Operator 183 184 (codes ")")) ∷ (tok Operator 184 185 (codes ";")) ∷ (tok Keyword 186 192 (codes "return")) ∷ (tok Integer 193 194 (codes "1")) ∷ (tok Operator 195 196 (codes "}")) ∷ (tok Inserted 196 196 (codes ";")) ∷ (tok Keyword 198 202 (codes "func")) ∷ (tok Ident 203 207 (codes "main")) ∷ (tok Operator 207 208 (codes "(")) ∷ (tok Operator 208 209 (codes ")")) ∷ (tok Operator 210 211 (codes "{")) ∷ (tok Ident 213 220 (codes "println")) ∷ (tok Operator 220 221 (codes "(")) ∷ (tok Ident 221 225 (codes "Less")) ∷ (tok Operator 225 226 (codes "(")) ∷ (tok Ident 226 227 (codes "g")) ∷ (tok Operator 227 228 (codes "(")) ∷ (tok Operator 228 229 (codes ")")) ∷ (tok Operator 229 230 (codes ",")) ∷ (tok Ident 231 232 (codes "h")) ∷ (tok Operator 232 233 (codes "(")) ∷ (tok Operator 233 234 (codes ")")) ∷ (tok Operator 234 235 (codes ")")) ∷ (tok Operator 235 236 (codes ")")) ∷ (tok Inserted 236 236 (codes ";")) ∷ (tok Operator 237 238 (codes "}")) ∷ (tok Inserted 238 238 (codes ";")) ∷ []); comments = ((note 14 29) ∷ []) })

bound_first_marks : marks_of bound_first.packages bound_first.texts [] ≡ bound_first.marks
unfolding passes keyword_spellings is_inline digits
bound_first_marks = refl

bound_first_spelled0 : read_at span_to read_front (lexemes bound_first_t0.tokens) ≡ Some (bound_first_f0, [])
unfolding reading
bound_first_spelled0 = refl

abbrev bound_first_start : Standing
bound_first_start = standing_as_read bound_first.packages bound_first.texts

abbrev bound_first_new : FileText
bound_first_new = (record { text = (codes "package main\n\n//go:fix inline\nfunc Less(a, b int) int { return b - a }\n\nfunc next() int { println(\"n\"); return 1 }\n\nfunc g() int { println(\"g\"); return 1 }\n\nfunc h() int { println(\"h\"); return 1 }\n\nfunc main() {\n\tprintln(func(a int) int {\n\t\treturn h() - a\n\t}(g()))\n}\n"); tokens = ((tok Keyword 0 7 (codes "package")) ∷ (tok Ident 8 12 (codes "main")) ∷ (tok Inserted 12 12 (codes ";")) ∷ (tok Keyword 30 34 (codes "func")) ∷ (tok Ident 35 39 (codes "Less")) ∷ (tok Operator 39 40 (codes "(")) ∷ (tok Ident 40 41 (codes "a")) ∷ (tok Operator 41 42 (codes ",")) ∷ (tok Ident 43 44 (codes "b")) ∷ (tok Ident 45 48 (codes "int")) ∷ (tok Operator 48 49 (codes ")")) ∷ (tok Ident 50 53 (codes "int")) ∷ (tok Operator 54 55 (codes "{")) ∷ (tok Keyword 56 62 (codes "return")) ∷ (tok Ident 63 64 (codes "b")) ∷ (tok Operator 65 66 (codes "-")) ∷ (tok Ident 67 68 (codes "a")) ∷ (tok Operator 69 70 (codes "}")) ∷ (tok Inserted 70 70 (codes ";")) ∷ (tok Keyword 72 76 (codes "func")) ∷ (tok Ident 77 81 (codes "next")) ∷ (tok Operator 81 82 (codes "(")) ∷ (tok Operator 82 83 (codes ")")) ∷ (tok Ident 84 87 (codes "int")) ∷ (tok Operator 88 89 (codes "{")) ∷ (tok Ident 90 97 (codes "println")) ∷ (tok Operator 97 98 (codes "(")) ∷ (tok Str 98 101 (codes "\"n\"")) ∷ (tok Operator 101 102 (codes ")")) ∷ (tok Operator 102 103 (codes ";")) ∷ (tok Keyword 104 110 (codes "return")) ∷ (tok Integer 111 112 (codes "1")) ∷ (tok Operator 113 114 (codes "}")) ∷ (tok Inserted 114 114 (codes ";")) ∷ (tok Keyword 116 120 (codes "func")) ∷ (tok Ident 121 122 (codes "g")) ∷ (tok Operator 122 123 (codes "(")) ∷ (tok Operator 123 124 (codes ")")) ∷ (tok Ident 125 128 (codes "int")) ∷ (tok Operator 129 130 (codes "{")) ∷ (tok Ident 131 138 (codes "println")) ∷ (tok Operator 138 139 (codes "(")) ∷ (tok Str 139 142 (codes "\"g\"")) ∷ (tok Operator 142 143 (codes ")")) ∷ (tok Operator 143 144 (codes ";")) ∷ (tok Keyword 145 151 (codes "return")) ∷ (tok Integer 152 153 (codes "1")) ∷ (tok Operator 154 155 (codes "}")) ∷ (tok Inserted 155 155 (codes ";")) ∷ (tok Keyword 157 161 (codes "func")) ∷ (tok Ident 162 163 (codes "h")) ∷ (tok Operator 163 164 (codes "(")) ∷ (tok Operator 164 165 (codes ")")) ∷ (tok Ident 166 169 (codes "int")) ∷ (tok Operator 170 171 (codes "{")) ∷ (tok Ident 172 179 (codes "println")) ∷ (tok Operator 179 180 (codes "(")) ∷ (tok Str 180 183 (codes "\"h\"")) ∷ (tok Operator 183 184 (codes ")")) ∷ (tok Operator 184 185 (codes ";")) ∷ (tok Keyword 186 192 (codes "return")) ∷ (tok Integer 193 194 (codes "1")) ∷ (tok Operator 195 196 (codes "}")) ∷ (tok Inserted 196 196 (codes ";")) ∷ (tok Keyword 198 202 (codes "func")) ∷ (tok Ident 203 207 (codes "main")) ∷ (tok Operator 207 208 (codes "(")) ∷ (tok Operator 208 209 (codes ")")) ∷ (tok Operator 210 211 (codes "{")) ∷ (tok Ident 213 220 (codes "println")) ∷ (tok Operator 220 221 (codes "(")) ∷ (tok Keyword 221 225 (codes "func")) ∷ (tok Operator 225 226 (codes "(")) ∷ (tok Ident 226 227 (codes "a")) ∷ (tok Ident 228 231 (codes "int")) ∷ (tok Operator 231 232 (codes ")")) ∷ (tok Ident 233 236 (codes "int")) ∷ (tok Operator 237 238 (codes "{")) ∷ (tok Keyword 241 247 (codes "return")) ∷ (tok Ident 248 249 (codes "h")) ∷ (tok Operator 249 250 (codes "(")) ∷ (tok Operator 250 251 (codes ")")) ∷ (tok Operator 252 253 (codes "-")) ∷ (tok Ident 254 255 (codes "a")) ∷ (tok Inserted 255 255 (codes ";")) ∷ (tok Operator 257 258 (codes "}")) ∷ (tok Operator 258 259 (codes "(")) ∷ (tok Ident 259 260 (codes "g")) ∷ (tok Operator 260 261 (codes "(")) ∷ (tok Operator 261 262 (codes ")")) ∷ (tok Operator 262 263 (codes ")")) ∷ (tok Operator 263 264 (codes ")")) ∷ (tok Inserted 264 264 (codes ";")) ∷ (tok Operator 265 266 (codes "}")) ∷ (tok Inserted 266 266 (codes ";")) ∷ []); comments = ((note 14 29) ∷ []) })

abbrev bound_first_tree : File At
bound_first_tree = record { package_name = (nmf 8 12 8 12 (codes "main")); imports = []; decls = ((fn (from 30 70 30 70) None (nmf 35 39 35 39 (codes "Less")) (sig ((param (from 40 48 40 48) (Some (nmf 40 41 40 41 (codes "a"))) (named (from 45 48 45 48) None (nmf 45 48 45 48 (codes "int")))) ∷ (param (from 43 48 43 48) (Some (nmf 43 44 43 44 (codes "b"))) (named (from 45 48 45 48) None (nmf 45 48 45 48 (codes "int")))) ∷ []) ((param (from 50 53 50 53) None (named (from 50 53 50 53) None (nmf 50 53 50 53 (codes "int")))) ∷ [])) (from 54 70 54 70) (stmt_and (return_ (from 56 68 56 68) (expr_and (binary (from 63 68 63 68) Sub (ident (from 63 64 63 64) (codes "b")) (ident (from 67 68 67 68) (codes "a"))) no_exprs)) no_stmts)) ∷ (fn (from 72 114 72 114) None (nmf 77 81 77 81 (codes "next")) (sig [] ((param (from 84 87 84 87) None (named (from 84 87 84 87) None (nmf 84 87 84 87 (codes "int")))) ∷ [])) (from 88 114 88 114) (stmt_and (eval (from 90 102 90 102) (call (from 90 102 90 102) (ident (from 90 97 90 97) (codes "println")) (expr_and (str_lit (from 98 101 98 101) (codes "\"n\"")) no_exprs) Plain)) (stmt_and (return_ (from 104 112 104 112) (expr_and (int_lit (from 111 112 111 112) (codes "1")) no_exprs)) no_stmts))) ∷ (fn (from 116 155 116 155) None (nmf 121 122 121 122 (codes "g")) (sig [] ((param (from 125 128 125 128) None (named (from 125 128 125 128) None (nmf 125 128 125 128 (codes "int")))) ∷ [])) (from 129 155 129 155) (stmt_and (eval (from 131 143 131 143) (call (from 131 143 131 143) (ident (from 131 138 131 138) (codes "println")) (expr_and (str_lit (from 139 142 139 142) (codes "\"g\"")) no_exprs) Plain)) (stmt_and (return_ (from 145 153 145 153) (expr_and (int_lit (from 152 153 152 153) (codes "1")) no_exprs)) no_stmts))) ∷ (fn (from 157 196 157 196) None (nmf 162 163 162 163 (codes "h")) (sig [] ((param (from 166 169 166 169) None (named (from 166 169 166 169) None (nmf 166 169 166 169 (codes "int")))) ∷ [])) (from 170 196 170 196) (stmt_and (eval (from 172 184 172 184) (call (from 172 184 172 184) (ident (from 172 179 172 179) (codes "println")) (expr_and (str_lit (from 180 183 180 183) (codes "\"h\"")) no_exprs) Plain)) (stmt_and (return_ (from 186 194 186 194) (expr_and (int_lit (from 193 194 193 194) (codes "1")) no_exprs)) no_stmts))) ∷ (fn (from 198 266 198 238) None (nmf 203 207 203 207 (codes "main")) (sig [] []) (from 210 266 210 238) (stmt_and (eval (from 213 264 213 236) (call (from 213 264 213 236) (ident (from 213 220 213 220) (codes "println")) (expr_and (call (from 221 263 221 235) (func_lit (from 221 258 221 235) (sig ((param (from 226 231 221 235) (Some (nmf 226 227 221 235 (codes "a"))) (named (from 228 231 221 235) None (nmf 228 231 221 235 (codes "int")))) ∷ []) ((param (from 233 236 221 235) None (named (from 233 236 221 235) None (nmf 233 236 221 235 (codes "int")))) ∷ [])) (from 237 258 221 235) (stmt_and (return_ (from 241 255 221 235) (expr_and (binary (from 248 255 221 235) Sub (call (from 248 251 231 234) (ident (from 248 249 231 232) (codes "h")) no_exprs Plain) (ident (from 254 255 221 235) (codes "a"))) no_exprs)) no_stmts)) (expr_and (call (from 259 262 226 229) (ident (from 259 260 226 227) (codes "g")) no_exprs Plain) no_exprs) Plain) no_exprs) Plain)) no_stmts)) ∷ []) }

bound_first_steps : is_some (step_in bound_first.marks bound_first_start) ≡ true
unfolding passes keyword_spellings is_inline digits
bound_first_steps = refl

abbrev bound_first_next : TokensOf bound_first_new.text bound_first_new.tokens bound_first_new.comments → Next bound_first.marks bound_first_start (log_entry bound_first.marks bound_first_start (bound_first_steps) bound_first_t0 bound_first_new bound_first_tree) (stands_after bound_first.marks bound_first_start (bound_first_steps) bound_first_t0 bound_first_new bound_first_tree)
unfolding passes keyword_spellings is_inline digits reading bound_first_steps
bound_first_next h = next_by bound_first.marks bound_first_start (bound_first_steps) bound_first_t0 bound_first_new bound_first_tree refl refl h refl refl

-- the whole run, with the tokens of the texts
bound_first_inlined : (h0 : TokensOf bound_first_t0.text bound_first_t0.tokens bound_first_t0.comments) (h : TokensOf bound_first_new.text bound_first_new.tokens bound_first_new.comments) → IsInlining the_limits (folder small_module bound_first.texts) bound_first.packages bound_first.texts [] (((codes "main.go"), bound_first_new) ∷ []) (codes "main.go:13:10: inlined example.com/m.Less as literal\n")
unfolding passes keyword_spellings is_inline digits reading bound_first_steps bound_first_next
bound_first_inlined h0 h = inlining_by the_limits (folder small_module bound_first.texts) bound_first.packages bound_first.texts [] bound_first.marks (stands_after bound_first.marks bound_first_start (bound_first_steps) bound_first_t0 bound_first_new bound_first_tree) (log_entry bound_first.marks bound_first_start (bound_first_steps) bound_first_t0 bound_first_new bound_first_tree ∷ []) (codes "main.go:13:10: inlined example.com/m.Less as literal\n") bound_first_marks (module_by (codes "example.com/m") (module_text small_module) (record { path = codes "main.go"; text = bound_first_t0; tree = bound_first_f0; reads = record { scans = h0; spells = file_spelled bound_first_t0.tokens bound_first_f0 bound_first_spelled0 } } ∷ []) (folder small_module bound_first.texts) bound_first.packages bound_first.texts small_module_is refl refl refl refl refl refl refl refl refl) (goes_on bound_first_start (stands_after bound_first.marks bound_first_start (bound_first_steps) bound_first_t0 bound_first_new bound_first_tree) (stands_after bound_first.marks bound_first_start (bound_first_steps) bound_first_t0 bound_first_new bound_first_tree) (log_entry bound_first.marks bound_first_start (bound_first_steps) bound_first_t0 bound_first_new bound_first_tree) [] (bound_first_next h) (ends (stands_after bound_first.marks bound_first_start (bound_first_steps) bound_first_t0 bound_first_new bound_first_tree) refl)) (steps_on [] [] (log_entry bound_first.marks bound_first_start (bound_first_steps) bound_first_t0 bound_first_new bound_first_tree) bound_first_start (stands_after bound_first.marks bound_first_start (bound_first_steps) bound_first_t0 bound_first_new bound_first_tree) (stands_after bound_first.marks bound_first_start (bound_first_steps) bound_first_t0 bound_first_new bound_first_tree) (bound_first_next h) refl (begins (log_entry bound_first.marks bound_first_start (bound_first_steps) bound_first_t0 bound_first_new bound_first_tree ∷ []) (stands_after bound_first.marks bound_first_start (bound_first_steps) bound_first_t0 bound_first_new bound_first_tree))) (kept_by (log_entry bound_first.marks bound_first_start (bound_first_steps) bound_first_t0 bound_first_new bound_first_tree ∷ []) (codes "main.go") bound_first_t0.text bound_first_new.text [] [] refl refl run.none) refl

bound_first_t0_found : TokensOf bound_first_t0.text bound_first_t0.tokens bound_first_t0.comments
unfolding piece_of lexeme_of longest_from next_of tokens_from comments_from keyword_spellings is_letter is_digit general_category general_category_rows value_in lib.Utf8.encode
bound_first_t0_found = tokens_by bound_first_t0.text bound_first_t0.tokens bound_first_t0.comments refl refl refl

bound_first_new_found : TokensOf bound_first_new.text bound_first_new.tokens bound_first_new.comments
unfolding piece_of lexeme_of longest_from next_of tokens_from comments_from keyword_spellings is_letter is_digit general_category general_category_rows value_in lib.Utf8.encode
bound_first_new_found = tokens_by bound_first_new.text bound_first_new.tokens bound_first_new.comments refl refl refl

bound_first_run : IsInlining the_limits (folder small_module bound_first.texts) bound_first.packages bound_first.texts [] (((codes "main.go"), bound_first_new) ∷ []) (codes "main.go:13:10: inlined example.com/m.Less as literal\n")
bound_first_run = bound_first_inlined bound_first_t0_found bound_first_new_found

-- A constant that gives the statement a constant fault.
abbrev faulty_operand_f0 : File Span
faulty_operand_f0 = record { package_name = (nm 8 12 (codes "main")); imports = []; decls = ((fn (at 30 58) None (nm 35 39 (codes "Zero")) (sig [] ((param (at 42 45) None (named (at 42 45) None (nm 42 45 (codes "int")))) ∷ [])) (at 46 58) (stmt_and (return_ (at 48 56) (expr_and (int_lit (at 55 56) (codes "0")) no_exprs)) no_stmts)) ∷ (fn (at 60 104) None (nm 65 69 (codes "main")) (sig [] []) (at 72 104) (stmt_and (define (at 75 81) ((nm 75 76 (codes "x")) ∷ []) (expr_and (int_lit (at 80 81) (codes "1")) no_exprs)) (stmt_and (eval (at 83 102) (call (at 83 102) (ident (at 83 90) (codes "println")) (expr_and (binary (at 91 101) Div (ident (at 91 92) (codes "x")) (call (at 95 101) (ident (at 95 99) (codes "Zero")) no_exprs Plain)) no_exprs) Plain)) no_stmts))) ∷ []) }

abbrev faulty_operand : Module
faulty_operand = record { packages = (pack (codes "example.com/m") (codes "main") (source (codes "main.go") faulty_operand_f0 ∷ []) ∷ []); marks = (mark 0 0 0 0 ∷ []); texts = (((codes "main.go"), record { text = (codes "package main\n\n//go:fix inline\nfunc Zero() int { return 0 }\n\nfunc main() {\n\tx := 1\n\tprintln(x / Zero())\n}\n"); tokens = ((tok Keyword 0 7 (codes "package")) ∷ (tok Ident 8 12 (codes "main")) ∷ (tok Inserted 12 12 (codes ";")) ∷ (tok Keyword 30 34 (codes "func")) ∷ (tok Ident 35 39 (codes "Zero")) ∷ (tok Operator 39 40 (codes "(")) ∷ (tok Operator 40 41 (codes ")")) ∷ (tok Ident 42 45 (codes "int")) ∷ (tok Operator 46 47 (codes "{")) ∷ (tok Keyword 48 54 (codes "return")) ∷ (tok Integer 55 56 (codes "0")) ∷ (tok Operator 57 58 (codes "}")) ∷ (tok Inserted 58 58 (codes ";")) ∷ (tok Keyword 60 64 (codes "func")) ∷ (tok Ident 65 69 (codes "main")) ∷ (tok Operator 69 70 (codes "(")) ∷ (tok Operator 70 71 (codes ")")) ∷ (tok Operator 72 73 (codes "{")) ∷ (tok Ident 75 76 (codes "x")) ∷ (tok Operator 77 79 (codes ":=")) ∷ (tok Integer 80 81 (codes "1")) ∷ (tok Inserted 81 81 (codes ";")) ∷ (tok Ident 83 90 (codes "println")) ∷ (tok Operator 90 91 (codes "(")) ∷ (tok Ident 91 92 (codes "x")) ∷ (tok Operator 93 94 (codes "/")) ∷ (tok Ident 95 99 (codes "Zero")) ∷ (tok Operator 99 100 (codes "(")) ∷ (tok Operator 100 101 (codes ")")) ∷ (tok Operator 101 102 (codes ")")) ∷ (tok Inserted 102 102 (codes ";")) ∷ (tok Operator 103 104 (codes "}")) ∷ (tok Inserted 104 104 (codes ";")) ∷ []); comments = ((note 14 29) ∷ []) }) ∷ []) }

abbrev faulty_operand_t0 : FileText
faulty_operand_t0 = (record { text = (codes "package main\n\n//go:fix inline\nfunc Zero() int { return 0 }\n\nfunc main() {\n\tx := 1\n\tprintln(x / Zero())\n}\n"); tokens = ((tok Keyword 0 7 (codes "package")) ∷ (tok Ident 8 12 (codes "main")) ∷ (tok Inserted 12 12 (codes ";")) ∷ (tok Keyword 30 34 (codes "func")) ∷ (tok Ident 35 39 (codes "Zero")) ∷ (tok Operator 39 40 (codes "(")) ∷ (tok Operator 40 41 (codes ")")) ∷ (tok Ident 42 45 (codes "int")) ∷ (tok Operator 46 47 (codes "{")) ∷ (tok Keyword 48 54 (codes "return")) ∷ (tok Integer 55 56 (codes "0")) ∷ (tok Operator 57 58 (codes "}")) ∷ (tok Inserted 58 58 (codes ";")) ∷ (tok Keyword 60 64 (codes "func")) ∷ (tok Ident 65 69 (codes "main")) ∷ (tok Operator 69 70 (codes "(")) ∷ (tok Operator 70 71 (codes ")")) ∷ (tok Operator 72 73 (codes "{")) ∷ (tok Ident 75 76 (codes "x")) ∷ (tok Operator 77 79 (codes ":=")) ∷ (tok Integer 80 81 (codes "1")) ∷ (tok Inserted 81 81 (codes ";")) ∷ (tok Ident 83 90 (codes "println")) ∷ (tok Operator 90 91 (codes "(")) ∷ (tok Ident 91 92 (codes "x")) ∷ (tok Operator 93 94 (codes "/")) ∷ (tok Ident 95 99 (codes "Zero")) ∷ (tok Operator 99 100 (codes "(")) ∷ (tok Operator 100 101 (codes ")")) ∷ (tok Operator 101 102 (codes ")")) ∷ (tok Inserted 102 102 (codes ";")) ∷ (tok Operator 103 104 (codes "}")) ∷ (tok Inserted 104 104 (codes ";")) ∷ []); comments = ((note 14 29) ∷ []) })

faulty_operand_marks : marks_of faulty_operand.packages faulty_operand.texts [] ≡ faulty_operand.marks
unfolding passes keyword_spellings is_inline digits
faulty_operand_marks = refl

faulty_operand_spelled0 : read_at span_to read_front (lexemes faulty_operand_t0.tokens) ≡ Some (faulty_operand_f0, [])
unfolding reading
faulty_operand_spelled0 = refl

abbrev faulty_operand_start : Standing
faulty_operand_start = standing_as_read faulty_operand.packages faulty_operand.texts

abbrev faulty_operand_new : FileText
faulty_operand_new = (record { text = (codes "package main\n\n//go:fix inline\nfunc Zero() int { return 0 }\n\nfunc main() {\n\tx := 1\n\tprintln(x / func() int {\n\t\treturn 0\n\t}())\n}\n"); tokens = ((tok Keyword 0 7 (codes "package")) ∷ (tok Ident 8 12 (codes "main")) ∷ (tok Inserted 12 12 (codes ";")) ∷ (tok Keyword 30 34 (codes "func")) ∷ (tok Ident 35 39 (codes "Zero")) ∷ (tok Operator 39 40 (codes "(")) ∷ (tok Operator 40 41 (codes ")")) ∷ (tok Ident 42 45 (codes "int")) ∷ (tok Operator 46 47 (codes "{")) ∷ (tok Keyword 48 54 (codes "return")) ∷ (tok Integer 55 56 (codes "0")) ∷ (tok Operator 57 58 (codes "}")) ∷ (tok Inserted 58 58 (codes ";")) ∷ (tok Keyword 60 64 (codes "func")) ∷ (tok Ident 65 69 (codes "main")) ∷ (tok Operator 69 70 (codes "(")) ∷ (tok Operator 70 71 (codes ")")) ∷ (tok Operator 72 73 (codes "{")) ∷ (tok Ident 75 76 (codes "x")) ∷ (tok Operator 77 79 (codes ":=")) ∷ (tok Integer 80 81 (codes "1")) ∷ (tok Inserted 81 81 (codes ";")) ∷ (tok Ident 83 90 (codes "println")) ∷ (tok Operator 90 91 (codes "(")) ∷ (tok Ident 91 92 (codes "x")) ∷ (tok Operator 93 94 (codes "/")) ∷ (tok Keyword 95 99 (codes "func")) ∷ (tok Operator 99 100 (codes "(")) ∷ (tok Operator 100 101 (codes ")")) ∷ (tok Ident 102 105 (codes "int")) ∷ (tok Operator 106 107 (codes "{")) ∷ (tok Keyword 110 116 (codes "return")) ∷ (tok Integer 117 118 (codes "0")) ∷ (tok Inserted 118 118 (codes ";")) ∷ (tok Operator 120 121 (codes "}")) ∷ (tok Operator 121 122 (codes "(")) ∷ (tok Operator 122 123 (codes ")")) ∷ (tok Operator 123 124 (codes ")")) ∷ (tok Inserted 124 124 (codes ";")) ∷ (tok Operator 125 126 (codes "}")) ∷ (tok Inserted 126 126 (codes ";")) ∷ []); comments = ((note 14 29) ∷ []) })

abbrev faulty_operand_tree : File At
faulty_operand_tree = record { package_name = (nmf 8 12 8 12 (codes "main")); imports = []; decls = ((fn (from 30 58 30 58) None (nmf 35 39 35 39 (codes "Zero")) (sig [] ((param (from 42 45 42 45) None (named (from 42 45 42 45) None (nmf 42 45 42 45 (codes "int")))) ∷ [])) (from 46 58 46 58) (stmt_and (return_ (from 48 56 48 56) (expr_and (int_lit (from 55 56 55 56) (codes "0")) no_exprs)) no_stmts)) ∷ (fn (from 60 126 60 104) None (nmf 65 69 65 69 (codes "main")) (sig [] []) (from 72 126 72 104) (stmt_and (define (from 75 81 75 81) ((nmf 75 76 75 76 (codes "x")) ∷ []) (expr_and (int_lit (from 80 81 80 81) (codes "1")) no_exprs)) (stmt_and (eval (from 83 124 83 102) (call (from 83 124 83 102) (ident (from 83 90 83 90) (codes "println")) (expr_and (binary (from 91 123 91 101) Div (ident (from 91 92 91 92) (codes "x")) (call (from 95 123 95 101) (func_lit (from 95 121 95 101) (sig [] ((param (from 102 105 95 101) None (named (from 102 105 95 101) None (nmf 102 105 95 101 (codes "int")))) ∷ [])) (from 106 121 95 101) (stmt_and (return_ (from 110 118 95 101) (expr_and (int_lit (from 117 118 95 101) (codes "0")) no_exprs)) no_stmts)) no_exprs Plain)) no_exprs) Plain)) no_stmts))) ∷ []) }

faulty_operand_steps : is_some (step_in faulty_operand.marks faulty_operand_start) ≡ true
unfolding passes keyword_spellings is_inline digits
faulty_operand_steps = refl

abbrev faulty_operand_next : TokensOf faulty_operand_new.text faulty_operand_new.tokens faulty_operand_new.comments → Next faulty_operand.marks faulty_operand_start (log_entry faulty_operand.marks faulty_operand_start (faulty_operand_steps) faulty_operand_t0 faulty_operand_new faulty_operand_tree) (stands_after faulty_operand.marks faulty_operand_start (faulty_operand_steps) faulty_operand_t0 faulty_operand_new faulty_operand_tree)
unfolding passes keyword_spellings is_inline digits reading faulty_operand_steps
faulty_operand_next h = next_by faulty_operand.marks faulty_operand_start (faulty_operand_steps) faulty_operand_t0 faulty_operand_new faulty_operand_tree refl refl h refl refl

-- the whole run, with the tokens of the texts
faulty_operand_inlined : (h0 : TokensOf faulty_operand_t0.text faulty_operand_t0.tokens faulty_operand_t0.comments) (h : TokensOf faulty_operand_new.text faulty_operand_new.tokens faulty_operand_new.comments) → IsInlining the_limits (folder small_module faulty_operand.texts) faulty_operand.packages faulty_operand.texts [] (((codes "main.go"), faulty_operand_new) ∷ []) (codes "main.go:8:14: inlined example.com/m.Zero as literal\n")
unfolding passes keyword_spellings is_inline digits reading faulty_operand_steps faulty_operand_next
faulty_operand_inlined h0 h = inlining_by the_limits (folder small_module faulty_operand.texts) faulty_operand.packages faulty_operand.texts [] faulty_operand.marks (stands_after faulty_operand.marks faulty_operand_start (faulty_operand_steps) faulty_operand_t0 faulty_operand_new faulty_operand_tree) (log_entry faulty_operand.marks faulty_operand_start (faulty_operand_steps) faulty_operand_t0 faulty_operand_new faulty_operand_tree ∷ []) (codes "main.go:8:14: inlined example.com/m.Zero as literal\n") faulty_operand_marks (module_by (codes "example.com/m") (module_text small_module) (record { path = codes "main.go"; text = faulty_operand_t0; tree = faulty_operand_f0; reads = record { scans = h0; spells = file_spelled faulty_operand_t0.tokens faulty_operand_f0 faulty_operand_spelled0 } } ∷ []) (folder small_module faulty_operand.texts) faulty_operand.packages faulty_operand.texts small_module_is refl refl refl refl refl refl refl refl refl) (goes_on faulty_operand_start (stands_after faulty_operand.marks faulty_operand_start (faulty_operand_steps) faulty_operand_t0 faulty_operand_new faulty_operand_tree) (stands_after faulty_operand.marks faulty_operand_start (faulty_operand_steps) faulty_operand_t0 faulty_operand_new faulty_operand_tree) (log_entry faulty_operand.marks faulty_operand_start (faulty_operand_steps) faulty_operand_t0 faulty_operand_new faulty_operand_tree) [] (faulty_operand_next h) (ends (stands_after faulty_operand.marks faulty_operand_start (faulty_operand_steps) faulty_operand_t0 faulty_operand_new faulty_operand_tree) refl)) (steps_on [] [] (log_entry faulty_operand.marks faulty_operand_start (faulty_operand_steps) faulty_operand_t0 faulty_operand_new faulty_operand_tree) faulty_operand_start (stands_after faulty_operand.marks faulty_operand_start (faulty_operand_steps) faulty_operand_t0 faulty_operand_new faulty_operand_tree) (stands_after faulty_operand.marks faulty_operand_start (faulty_operand_steps) faulty_operand_t0 faulty_operand_new faulty_operand_tree) (faulty_operand_next h) refl (begins (log_entry faulty_operand.marks faulty_operand_start (faulty_operand_steps) faulty_operand_t0 faulty_operand_new faulty_operand_tree ∷ []) (stands_after faulty_operand.marks faulty_operand_start (faulty_operand_steps) faulty_operand_t0 faulty_operand_new faulty_operand_tree))) (kept_by (log_entry faulty_operand.marks faulty_operand_start (faulty_operand_steps) faulty_operand_t0 faulty_operand_new faulty_operand_tree ∷ []) (codes "main.go") faulty_operand_t0.text faulty_operand_new.text [] [] refl refl run.none) refl

faulty_operand_t0_found : TokensOf faulty_operand_t0.text faulty_operand_t0.tokens faulty_operand_t0.comments
unfolding piece_of lexeme_of longest_from next_of tokens_from comments_from keyword_spellings is_letter is_digit general_category general_category_rows value_in lib.Utf8.encode
faulty_operand_t0_found = tokens_by faulty_operand_t0.text faulty_operand_t0.tokens faulty_operand_t0.comments refl refl refl

faulty_operand_new_found : TokensOf faulty_operand_new.text faulty_operand_new.tokens faulty_operand_new.comments
unfolding piece_of lexeme_of longest_from next_of tokens_from comments_from keyword_spellings is_letter is_digit general_category general_category_rows value_in lib.Utf8.encode
faulty_operand_new_found = tokens_by faulty_operand_new.text faulty_operand_new.tokens faulty_operand_new.comments refl refl refl

faulty_operand_run : IsInlining the_limits (folder small_module faulty_operand.texts) faulty_operand.packages faulty_operand.texts [] (((codes "main.go"), faulty_operand_new) ∷ []) (codes "main.go:8:14: inlined example.com/m.Zero as literal\n")
faulty_operand_run = faulty_operand_inlined faulty_operand_t0_found faulty_operand_new_found

-- A print stands before the use of a package variable.
abbrev looked_at_first_f0 : File Span
looked_at_first_f0 = record { package_name = (nm 8 12 (codes "main")); imports = []; decls = ((values (var_decl (at 14 27) false (spec (at 18 27) ((nm 18 23 (codes "count")) ∷ []) None (expr_and (int_lit (at 26 27) (codes "1")) no_exprs) no_specs))) ∷ (fn (at 45 93) None (nm 50 54 (codes "Seen")) (sig ((param (at 55 60) (Some (nm 55 56 (codes "a"))) (named (at 57 60) None (nm 57 60 (codes "int")))) ∷ []) ((param (at 62 65) None (named (at 62 65) None (nm 62 65 (codes "int")))) ∷ [])) (at 66 93) (stmt_and (eval (at 69 81) (call (at 69 81) (ident (at 69 76) (codes "println")) (expr_and (str_lit (at 77 80) (codes "\"x\"")) no_exprs) Plain)) (stmt_and (return_ (at 83 91) (expr_and (ident (at 90 91) (codes "a")) no_exprs)) no_stmts))) ∷ (fn (at 95 132) None (nm 100 104 (codes "main")) (sig [] []) (at 107 132) (stmt_and (eval (at 110 130) (call (at 110 130) (ident (at 110 117) (codes "println")) (expr_and (call (at 118 129) (ident (at 118 122) (codes "Seen")) (expr_and (ident (at 123 128) (codes "count")) no_exprs) Plain) no_exprs) Plain)) no_stmts)) ∷ []) }

abbrev looked_at_first : Module
looked_at_first = record { packages = (pack (codes "example.com/m") (codes "main") (source (codes "main.go") looked_at_first_f0 ∷ []) ∷ []); marks = (mark 0 0 1 0 ∷ []); texts = (((codes "main.go"), record { text = (codes "package main\n\nvar count = 1\n\n//go:fix inline\nfunc Seen(a int) int {\n\tprintln(\"x\")\n\treturn a\n}\n\nfunc main() {\n\tprintln(Seen(count))\n}\n"); tokens = ((tok Keyword 0 7 (codes "package")) ∷ (tok Ident 8 12 (codes "main")) ∷ (tok Inserted 12 12 (codes ";")) ∷ (tok Keyword 14 17 (codes "var")) ∷ (tok Ident 18 23 (codes "count")) ∷ (tok Operator 24 25 (codes "=")) ∷ (tok Integer 26 27 (codes "1")) ∷ (tok Inserted 27 27 (codes ";")) ∷ (tok Keyword 45 49 (codes "func")) ∷ (tok Ident 50 54 (codes "Seen")) ∷ (tok Operator 54 55 (codes "(")) ∷ (tok Ident 55 56 (codes "a")) ∷ (tok Ident 57 60 (codes "int")) ∷ (tok Operator 60 61 (codes ")")) ∷ (tok Ident 62 65 (codes "int")) ∷ (tok Operator 66 67 (codes "{")) ∷ (tok Ident 69 76 (codes "println")) ∷ (tok Operator 76 77 (codes "(")) ∷ (tok Str 77 80 (codes "\"x\"")) ∷ (tok Operator 80 81 (codes ")")) ∷ (tok Inserted 81 81 (codes ";")) ∷ (tok Keyword 83 89 (codes "return")) ∷ (tok Ident 90 91 (codes "a")) ∷ (tok Inserted 91 91 (codes ";")) ∷ (tok Operator 92 93 (codes "}")) ∷ (tok Inserted 93 93 (codes ";")) ∷ (tok Keyword 95 99 (codes "func")) ∷ (tok Ident 100 104 (codes "main")) ∷ (tok Operator 104 105 (codes "(")) ∷ (tok Operator 105 106 (codes ")")) ∷ (tok Operator 107 108 (codes "{")) ∷ (tok Ident 110 117 (codes "println")) ∷ (tok Operator 117 118 (codes "(")) ∷ (tok Ident 118 122 (codes "Seen")) ∷ (tok Operator 122 123 (codes "(")) ∷ (tok Ident 123 128 (codes "count")) ∷ (tok Operator 128 129 (codes ")")) ∷ (tok Operator 129 130 (codes ")")) ∷ (tok Inserted 130 130 (codes ";")) ∷ (tok Operator 131 132 (codes "}")) ∷ (tok Inserted 132 132 (codes ";")) ∷ []); comments = ((note 29 44) ∷ []) }) ∷ []) }

abbrev looked_at_first_t0 : FileText
looked_at_first_t0 = (record { text = (codes "package main\n\nvar count = 1\n\n//go:fix inline\nfunc Seen(a int) int {\n\tprintln(\"x\")\n\treturn a\n}\n\nfunc main() {\n\tprintln(Seen(count))\n}\n"); tokens = ((tok Keyword 0 7 (codes "package")) ∷ (tok Ident 8 12 (codes "main")) ∷ (tok Inserted 12 12 (codes ";")) ∷ (tok Keyword 14 17 (codes "var")) ∷ (tok Ident 18 23 (codes "count")) ∷ (tok Operator 24 25 (codes "=")) ∷ (tok Integer 26 27 (codes "1")) ∷ (tok Inserted 27 27 (codes ";")) ∷ (tok Keyword 45 49 (codes "func")) ∷ (tok Ident 50 54 (codes "Seen")) ∷ (tok Operator 54 55 (codes "(")) ∷ (tok Ident 55 56 (codes "a")) ∷ (tok Ident 57 60 (codes "int")) ∷ (tok Operator 60 61 (codes ")")) ∷ (tok Ident 62 65 (codes "int")) ∷ (tok Operator 66 67 (codes "{")) ∷ (tok Ident 69 76 (codes "println")) ∷ (tok Operator 76 77 (codes "(")) ∷ (tok Str 77 80 (codes "\"x\"")) ∷ (tok Operator 80 81 (codes ")")) ∷ (tok Inserted 81 81 (codes ";")) ∷ (tok Keyword 83 89 (codes "return")) ∷ (tok Ident 90 91 (codes "a")) ∷ (tok Inserted 91 91 (codes ";")) ∷ (tok Operator 92 93 (codes "}")) ∷ (tok Inserted 93 93 (codes ";")) ∷ (tok Keyword 95 99 (codes "func")) ∷ (tok Ident 100 104 (codes "main")) ∷ (tok Operator 104 105 (codes "(")) ∷ (tok Operator 105 106 (codes ")")) ∷ (tok Operator 107 108 (codes "{")) ∷ (tok Ident 110 117 (codes "println")) ∷ (tok Operator 117 118 (codes "(")) ∷ (tok Ident 118 122 (codes "Seen")) ∷ (tok Operator 122 123 (codes "(")) ∷ (tok Ident 123 128 (codes "count")) ∷ (tok Operator 128 129 (codes ")")) ∷ (tok Operator 129 130 (codes ")")) ∷ (tok Inserted 130 130 (codes ";")) ∷ (tok Operator 131 132 (codes "}")) ∷ (tok Inserted 132 132 (codes ";")) ∷ []); comments = ((note 29 44) ∷ []) })

looked_at_first_marks : marks_of looked_at_first.packages looked_at_first.texts [] ≡ looked_at_first.marks
unfolding passes keyword_spellings is_inline digits
looked_at_first_marks = refl

looked_at_first_spelled0 : read_at span_to read_front (lexemes looked_at_first_t0.tokens) ≡ Some (looked_at_first_f0, [])
unfolding reading
looked_at_first_spelled0 = refl

abbrev looked_at_first_start : Standing
looked_at_first_start = standing_as_read looked_at_first.packages looked_at_first.texts

abbrev looked_at_first_new : FileText
looked_at_first_new = (record { text = (codes "package main\n\nvar count = 1\n\n//go:fix inline\nfunc Seen(a int) int {\n\tprintln(\"x\")\n\treturn a\n}\n\nfunc main() {\n\tprintln(func(a int) int {\n\t\tprintln(\"x\")\n\t\treturn a\n\t}(count))\n}\n"); tokens = ((tok Keyword 0 7 (codes "package")) ∷ (tok Ident 8 12 (codes "main")) ∷ (tok Inserted 12 12 (codes ";")) ∷ (tok Keyword 14 17 (codes "var")) ∷ (tok Ident 18 23 (codes "count")) ∷ (tok Operator 24 25 (codes "=")) ∷ (tok Integer 26 27 (codes "1")) ∷ (tok Inserted 27 27 (codes ";")) ∷ (tok Keyword 45 49 (codes "func")) ∷ (tok Ident 50 54 (codes "Seen")) ∷ (tok Operator 54 55 (codes "(")) ∷ (tok Ident 55 56 (codes "a")) ∷ (tok Ident 57 60 (codes "int")) ∷ (tok Operator 60 61 (codes ")")) ∷ (tok Ident 62 65 (codes "int")) ∷ (tok Operator 66 67 (codes "{")) ∷ (tok Ident 69 76 (codes "println")) ∷ (tok Operator 76 77 (codes "(")) ∷ (tok Str 77 80 (codes "\"x\"")) ∷ (tok Operator 80 81 (codes ")")) ∷ (tok Inserted 81 81 (codes ";")) ∷ (tok Keyword 83 89 (codes "return")) ∷ (tok Ident 90 91 (codes "a")) ∷ (tok Inserted 91 91 (codes ";")) ∷ (tok Operator 92 93 (codes "}")) ∷ (tok Inserted 93 93 (codes ";")) ∷ (tok Keyword 95 99 (codes "func")) ∷ (tok Ident 100 104 (codes "main")) ∷ (tok Operator 104 105 (codes "(")) ∷ (tok Operator 105 106 (codes ")")) ∷ (tok Operator 107 108 (codes "{")) ∷ (tok Ident 110 117 (codes "println")) ∷ (tok Operator 117 118 (codes "(")) ∷ (tok Keyword 118 122 (codes "func")) ∷ (tok Operator 122 123 (codes "(")) ∷ (tok Ident 123 124 (codes "a")) ∷ (tok Ident 125 128 (codes "int")) ∷ (tok Operator 128 129 (codes ")")) ∷ (tok Ident 130 133 (codes "int")) ∷ (tok Operator 134 135 (codes "{")) ∷ (tok Ident 138 145 (codes "println")) ∷ (tok Operator 145 146 (codes "(")) ∷ (tok Str 146 149 (codes "\"x\"")) ∷ (tok Operator 149 150 (codes ")")) ∷ (tok Inserted 150 150 (codes ";")) ∷ (tok Keyword 153 159 (codes "return")) ∷ (tok Ident 160 161 (codes "a")) ∷ (tok Inserted 161 161 (codes ";")) ∷ (tok Operator 163 164 (codes "}")) ∷ (tok Operator 164 165 (codes "(")) ∷ (tok Ident 165 170 (codes "count")) ∷ (tok Operator 170 171 (codes ")")) ∷ (tok Operator 171 172 (codes ")")) ∷ (tok Inserted 172 172 (codes ";")) ∷ (tok Operator 173 174 (codes "}")) ∷ (tok Inserted 174 174 (codes ";")) ∷ []); comments = ((note 29 44) ∷ []) })

abbrev looked_at_first_tree : File At
looked_at_first_tree = record { package_name = (nmf 8 12 8 12 (codes "main")); imports = []; decls = ((values (var_decl (from 14 27 14 27) false (spec (from 18 27 18 27) ((nmf 18 23 18 23 (codes "count")) ∷ []) None (expr_and (int_lit (from 26 27 26 27) (codes "1")) no_exprs) no_specs))) ∷ (fn (from 45 93 45 93) None (nmf 50 54 50 54 (codes "Seen")) (sig ((param (from 55 60 55 60) (Some (nmf 55 56 55 56 (codes "a"))) (named (from 57 60 57 60) None (nmf 57 60 57 60 (codes "int")))) ∷ []) ((param (from 62 65 62 65) None (named (from 62 65 62 65) None (nmf 62 65 62 65 (codes "int")))) ∷ [])) (from 66 93 66 93) (stmt_and (eval (from 69 81 69 81) (call (from 69 81 69 81) (ident (from 69 76 69 76) (codes "println")) (expr_and (str_lit (from 77 80 77 80) (codes "\"x\"")) no_exprs) Plain)) (stmt_and (return_ (from 83 91 83 91) (expr_and (ident (from 90 91 90 91) (codes "a")) no_exprs)) no_stmts))) ∷ (fn (from 95 174 95 132) None (nmf 100 104 100 104 (codes "main")) (sig [] []) (from 107 174 107 132) (stmt_and (eval (from 110 172 110 130) (call (from 110 172 110 130) (ident (from 110 117 110 117) (codes "println")) (expr_and (call (from 118 171 118 129) (func_lit (from 118 164 118 129) (sig ((param (from 123 128 118 129) (Some (nmf 123 124 118 129 (codes "a"))) (named (from 125 128 118 129) None (nmf 125 128 118 129 (codes "int")))) ∷ []) ((param (from 130 133 118 129) None (named (from 130 133 118 129) None (nmf 130 133 118 129 (codes "int")))) ∷ [])) (from 134 164 118 129) (stmt_and (eval (from 138 150 118 129) (call (from 138 150 118 129) (ident (from 138 145 118 129) (codes "println")) (expr_and (str_lit (from 146 149 118 129) (codes "\"x\"")) no_exprs) Plain)) (stmt_and (return_ (from 153 161 118 129) (expr_and (ident (from 160 161 118 129) (codes "a")) no_exprs)) no_stmts))) (expr_and (ident (from 165 170 123 128) (codes "count")) no_exprs) Plain) no_exprs) Plain)) no_stmts)) ∷ []) }

looked_at_first_steps : is_some (step_in looked_at_first.marks looked_at_first_start) ≡ true
unfolding passes keyword_spellings is_inline digits
looked_at_first_steps = refl

abbrev looked_at_first_next : TokensOf looked_at_first_new.text looked_at_first_new.tokens looked_at_first_new.comments → Next looked_at_first.marks looked_at_first_start (log_entry looked_at_first.marks looked_at_first_start (looked_at_first_steps) looked_at_first_t0 looked_at_first_new looked_at_first_tree) (stands_after looked_at_first.marks looked_at_first_start (looked_at_first_steps) looked_at_first_t0 looked_at_first_new looked_at_first_tree)
unfolding passes keyword_spellings is_inline digits reading looked_at_first_steps
looked_at_first_next h = next_by looked_at_first.marks looked_at_first_start (looked_at_first_steps) looked_at_first_t0 looked_at_first_new looked_at_first_tree refl refl h refl refl

-- the whole run, with the tokens of the texts
looked_at_first_inlined : (h0 : TokensOf looked_at_first_t0.text looked_at_first_t0.tokens looked_at_first_t0.comments) (h : TokensOf looked_at_first_new.text looked_at_first_new.tokens looked_at_first_new.comments) → IsInlining the_limits (folder small_module looked_at_first.texts) looked_at_first.packages looked_at_first.texts [] (((codes "main.go"), looked_at_first_new) ∷ []) (codes "main.go:12:10: inlined example.com/m.Seen as literal\n")
unfolding passes keyword_spellings is_inline digits reading looked_at_first_steps looked_at_first_next
looked_at_first_inlined h0 h = inlining_by the_limits (folder small_module looked_at_first.texts) looked_at_first.packages looked_at_first.texts [] looked_at_first.marks (stands_after looked_at_first.marks looked_at_first_start (looked_at_first_steps) looked_at_first_t0 looked_at_first_new looked_at_first_tree) (log_entry looked_at_first.marks looked_at_first_start (looked_at_first_steps) looked_at_first_t0 looked_at_first_new looked_at_first_tree ∷ []) (codes "main.go:12:10: inlined example.com/m.Seen as literal\n") looked_at_first_marks (module_by (codes "example.com/m") (module_text small_module) (record { path = codes "main.go"; text = looked_at_first_t0; tree = looked_at_first_f0; reads = record { scans = h0; spells = file_spelled looked_at_first_t0.tokens looked_at_first_f0 looked_at_first_spelled0 } } ∷ []) (folder small_module looked_at_first.texts) looked_at_first.packages looked_at_first.texts small_module_is refl refl refl refl refl refl refl refl refl) (goes_on looked_at_first_start (stands_after looked_at_first.marks looked_at_first_start (looked_at_first_steps) looked_at_first_t0 looked_at_first_new looked_at_first_tree) (stands_after looked_at_first.marks looked_at_first_start (looked_at_first_steps) looked_at_first_t0 looked_at_first_new looked_at_first_tree) (log_entry looked_at_first.marks looked_at_first_start (looked_at_first_steps) looked_at_first_t0 looked_at_first_new looked_at_first_tree) [] (looked_at_first_next h) (ends (stands_after looked_at_first.marks looked_at_first_start (looked_at_first_steps) looked_at_first_t0 looked_at_first_new looked_at_first_tree) refl)) (steps_on [] [] (log_entry looked_at_first.marks looked_at_first_start (looked_at_first_steps) looked_at_first_t0 looked_at_first_new looked_at_first_tree) looked_at_first_start (stands_after looked_at_first.marks looked_at_first_start (looked_at_first_steps) looked_at_first_t0 looked_at_first_new looked_at_first_tree) (stands_after looked_at_first.marks looked_at_first_start (looked_at_first_steps) looked_at_first_t0 looked_at_first_new looked_at_first_tree) (looked_at_first_next h) refl (begins (log_entry looked_at_first.marks looked_at_first_start (looked_at_first_steps) looked_at_first_t0 looked_at_first_new looked_at_first_tree ∷ []) (stands_after looked_at_first.marks looked_at_first_start (looked_at_first_steps) looked_at_first_t0 looked_at_first_new looked_at_first_tree))) (kept_by (log_entry looked_at_first.marks looked_at_first_start (looked_at_first_steps) looked_at_first_t0 looked_at_first_new looked_at_first_tree ∷ []) (codes "main.go") looked_at_first_t0.text looked_at_first_new.text [] [] refl refl run.none) refl

looked_at_first_t0_found : TokensOf looked_at_first_t0.text looked_at_first_t0.tokens looked_at_first_t0.comments
unfolding piece_of lexeme_of longest_from next_of tokens_from comments_from keyword_spellings is_letter is_digit general_category general_category_rows value_in lib.Utf8.encode
looked_at_first_t0_found = tokens_by looked_at_first_t0.text looked_at_first_t0.tokens looked_at_first_t0.comments refl refl refl

looked_at_first_new_found : TokensOf looked_at_first_new.text looked_at_first_new.tokens looked_at_first_new.comments
unfolding piece_of lexeme_of longest_from next_of tokens_from comments_from keyword_spellings is_letter is_digit general_category general_category_rows value_in lib.Utf8.encode
looked_at_first_new_found = tokens_by looked_at_first_new.text looked_at_first_new.tokens looked_at_first_new.comments refl refl refl

looked_at_first_run : IsInlining the_limits (folder small_module looked_at_first.texts) looked_at_first.packages looked_at_first.texts [] (((codes "main.go"), looked_at_first_new) ∷ []) (codes "main.go:12:10: inlined example.com/m.Seen as literal\n")
looked_at_first_run = looked_at_first_inlined looked_at_first_t0_found looked_at_first_new_found

-- A local variable may be read later.
abbrev steady_later_f0 : File Span
steady_later_f0 = record { package_name = (nm 8 12 (codes "main")); imports = []; decls = ((values (var_decl (at 14 27) false (spec (at 18 27) ((nm 18 23 (codes "count")) ∷ []) None (expr_and (int_lit (at 26 27) (codes "1")) no_exprs) no_specs))) ∷ (fn (at 45 93) None (nm 50 54 (codes "Seen")) (sig ((param (at 55 60) (Some (nm 55 56 (codes "a"))) (named (at 57 60) None (nm 57 60 (codes "int")))) ∷ []) ((param (at 62 65) None (named (at 62 65) None (nm 62 65 (codes "int")))) ∷ [])) (at 66 93) (stmt_and (eval (at 69 81) (call (at 69 81) (ident (at 69 76) (codes "println")) (expr_and (str_lit (at 77 80) (codes "\"x\"")) no_exprs) Plain)) (stmt_and (return_ (at 83 91) (expr_and (ident (at 90 91) (codes "a")) no_exprs)) no_stmts))) ∷ (fn (at 95 136) None (nm 100 104 (codes "main")) (sig [] []) (at 107 136) (stmt_and (define (at 110 116) ((nm 110 111 (codes "c")) ∷ []) (expr_and (int_lit (at 115 116) (codes "1")) no_exprs)) (stmt_and (eval (at 118 134) (call (at 118 134) (ident (at 118 125) (codes "println")) (expr_and (call (at 126 133) (ident (at 126 130) (codes "Seen")) (expr_and (ident (at 131 132) (codes "c")) no_exprs) Plain) no_exprs) Plain)) no_stmts))) ∷ []) }

abbrev steady_later : Module
steady_later = record { packages = (pack (codes "example.com/m") (codes "main") (source (codes "main.go") steady_later_f0 ∷ []) ∷ []); marks = (mark 0 0 1 0 ∷ []); texts = (((codes "main.go"), record { text = (codes "package main\n\nvar count = 1\n\n//go:fix inline\nfunc Seen(a int) int {\n\tprintln(\"x\")\n\treturn a\n}\n\nfunc main() {\n\tc := 1\n\tprintln(Seen(c))\n}\n"); tokens = ((tok Keyword 0 7 (codes "package")) ∷ (tok Ident 8 12 (codes "main")) ∷ (tok Inserted 12 12 (codes ";")) ∷ (tok Keyword 14 17 (codes "var")) ∷ (tok Ident 18 23 (codes "count")) ∷ (tok Operator 24 25 (codes "=")) ∷ (tok Integer 26 27 (codes "1")) ∷ (tok Inserted 27 27 (codes ";")) ∷ (tok Keyword 45 49 (codes "func")) ∷ (tok Ident 50 54 (codes "Seen")) ∷ (tok Operator 54 55 (codes "(")) ∷ (tok Ident 55 56 (codes "a")) ∷ (tok Ident 57 60 (codes "int")) ∷ (tok Operator 60 61 (codes ")")) ∷ (tok Ident 62 65 (codes "int")) ∷ (tok Operator 66 67 (codes "{")) ∷ (tok Ident 69 76 (codes "println")) ∷ (tok Operator 76 77 (codes "(")) ∷ (tok Str 77 80 (codes "\"x\"")) ∷ (tok Operator 80 81 (codes ")")) ∷ (tok Inserted 81 81 (codes ";")) ∷ (tok Keyword 83 89 (codes "return")) ∷ (tok Ident 90 91 (codes "a")) ∷ (tok Inserted 91 91 (codes ";")) ∷ (tok Operator 92 93 (codes "}")) ∷ (tok Inserted 93 93 (codes ";")) ∷ (tok Keyword 95 99 (codes "func")) ∷ (tok Ident 100 104 (codes "main")) ∷ (tok Operator 104 105 (codes "(")) ∷ (tok Operator 105 106 (codes ")")) ∷ (tok Operator 107 108 (codes "{")) ∷ (tok Ident 110 111 (codes "c")) ∷ (tok Operator 112 114 (codes ":=")) ∷ (tok Integer 115 116 (codes "1")) ∷ (tok Inserted 116 116 (codes ";")) ∷ (tok Ident 118 125 (codes "println")) ∷ (tok Operator 125 126 (codes "(")) ∷ (tok Ident 126 130 (codes "Seen")) ∷ (tok Operator 130 131 (codes "(")) ∷ (tok Ident 131 132 (codes "c")) ∷ (tok Operator 132 133 (codes ")")) ∷ (tok Operator 133 134 (codes ")")) ∷ (tok Inserted 134 134 (codes ";")) ∷ (tok Operator 135 136 (codes "}")) ∷ (tok Inserted 136 136 (codes ";")) ∷ []); comments = ((note 29 44) ∷ []) }) ∷ []) }

abbrev steady_later_t0 : FileText
steady_later_t0 = (record { text = (codes "package main\n\nvar count = 1\n\n//go:fix inline\nfunc Seen(a int) int {\n\tprintln(\"x\")\n\treturn a\n}\n\nfunc main() {\n\tc := 1\n\tprintln(Seen(c))\n}\n"); tokens = ((tok Keyword 0 7 (codes "package")) ∷ (tok Ident 8 12 (codes "main")) ∷ (tok Inserted 12 12 (codes ";")) ∷ (tok Keyword 14 17 (codes "var")) ∷ (tok Ident 18 23 (codes "count")) ∷ (tok Operator 24 25 (codes "=")) ∷ (tok Integer 26 27 (codes "1")) ∷ (tok Inserted 27 27 (codes ";")) ∷ (tok Keyword 45 49 (codes "func")) ∷ (tok Ident 50 54 (codes "Seen")) ∷ (tok Operator 54 55 (codes "(")) ∷ (tok Ident 55 56 (codes "a")) ∷ (tok Ident 57 60 (codes "int")) ∷ (tok Operator 60 61 (codes ")")) ∷ (tok Ident 62 65 (codes "int")) ∷ (tok Operator 66 67 (codes "{")) ∷ (tok Ident 69 76 (codes "println")) ∷ (tok Operator 76 77 (codes "(")) ∷ (tok Str 77 80 (codes "\"x\"")) ∷ (tok Operator 80 81 (codes ")")) ∷ (tok Inserted 81 81 (codes ";")) ∷ (tok Keyword 83 89 (codes "return")) ∷ (tok Ident 90 91 (codes "a")) ∷ (tok Inserted 91 91 (codes ";")) ∷ (tok Operator 92 93 (codes "}")) ∷ (tok Inserted 93 93 (codes ";")) ∷ (tok Keyword 95 99 (codes "func")) ∷ (tok Ident 100 104 (codes "main")) ∷ (tok Operator 104 105 (codes "(")) ∷ (tok Operator 105 106 (codes ")")) ∷ (tok Operator 107 108 (codes "{")) ∷ (tok Ident 110 111 (codes "c")) ∷ (tok Operator 112 114 (codes ":=")) ∷ (tok Integer 115 116 (codes "1")) ∷ (tok Inserted 116 116 (codes ";")) ∷ (tok Ident 118 125 (codes "println")) ∷ (tok Operator 125 126 (codes "(")) ∷ (tok Ident 126 130 (codes "Seen")) ∷ (tok Operator 130 131 (codes "(")) ∷ (tok Ident 131 132 (codes "c")) ∷ (tok Operator 132 133 (codes ")")) ∷ (tok Operator 133 134 (codes ")")) ∷ (tok Inserted 134 134 (codes ";")) ∷ (tok Operator 135 136 (codes "}")) ∷ (tok Inserted 136 136 (codes ";")) ∷ []); comments = ((note 29 44) ∷ []) })

steady_later_marks : marks_of steady_later.packages steady_later.texts [] ≡ steady_later.marks
unfolding passes keyword_spellings is_inline digits
steady_later_marks = refl

steady_later_spelled0 : read_at span_to read_front (lexemes steady_later_t0.tokens) ≡ Some (steady_later_f0, [])
unfolding reading
steady_later_spelled0 = refl

abbrev steady_later_start : Standing
steady_later_start = standing_as_read steady_later.packages steady_later.texts

abbrev steady_later_new : FileText
steady_later_new = (record { text = (codes "package main\n\nvar count = 1\n\n//go:fix inline\nfunc Seen(a int) int {\n\tprintln(\"x\")\n\treturn a\n}\n\nfunc main() {\n\tc := 1\n\tprintln(func() int {\n\t\tprintln(\"x\")\n\t\treturn c\n\t}())\n}\n"); tokens = ((tok Keyword 0 7 (codes "package")) ∷ (tok Ident 8 12 (codes "main")) ∷ (tok Inserted 12 12 (codes ";")) ∷ (tok Keyword 14 17 (codes "var")) ∷ (tok Ident 18 23 (codes "count")) ∷ (tok Operator 24 25 (codes "=")) ∷ (tok Integer 26 27 (codes "1")) ∷ (tok Inserted 27 27 (codes ";")) ∷ (tok Keyword 45 49 (codes "func")) ∷ (tok Ident 50 54 (codes "Seen")) ∷ (tok Operator 54 55 (codes "(")) ∷ (tok Ident 55 56 (codes "a")) ∷ (tok Ident 57 60 (codes "int")) ∷ (tok Operator 60 61 (codes ")")) ∷ (tok Ident 62 65 (codes "int")) ∷ (tok Operator 66 67 (codes "{")) ∷ (tok Ident 69 76 (codes "println")) ∷ (tok Operator 76 77 (codes "(")) ∷ (tok Str 77 80 (codes "\"x\"")) ∷ (tok Operator 80 81 (codes ")")) ∷ (tok Inserted 81 81 (codes ";")) ∷ (tok Keyword 83 89 (codes "return")) ∷ (tok Ident 90 91 (codes "a")) ∷ (tok Inserted 91 91 (codes ";")) ∷ (tok Operator 92 93 (codes "}")) ∷ (tok Inserted 93 93 (codes ";")) ∷ (tok Keyword 95 99 (codes "func")) ∷ (tok Ident 100 104 (codes "main")) ∷ (tok Operator 104 105 (codes "(")) ∷ (tok Operator 105 106 (codes ")")) ∷ (tok Operator 107 108 (codes "{")) ∷ (tok Ident 110 111 (codes "c")) ∷ (tok Operator 112 114 (codes ":=")) ∷ (tok Integer 115 116 (codes "1")) ∷ (tok Inserted 116 116 (codes ";")) ∷ (tok Ident 118 125 (codes "println")) ∷ (tok Operator 125 126 (codes "(")) ∷ (tok Keyword 126 130 (codes "func")) ∷ (tok Operator 130 131 (codes "(")) ∷ (tok Operator 131 132 (codes ")")) ∷ (tok Ident 133 136 (codes "int")) ∷ (tok Operator 137 138 (codes "{")) ∷ (tok Ident 141 148 (codes "println")) ∷ (tok Operator 148 149 (codes "(")) ∷ (tok Str 149 152 (codes "\"x\"")) ∷ (tok Operator 152 153 (codes ")")) ∷ (tok Inserted 153 153 (codes ";")) ∷ (tok Keyword 156 162 (codes "return")) ∷ (tok Ident 163 164 (codes "c")) ∷ (tok Inserted 164 164 (codes ";")) ∷ (tok Operator 166 167 (codes "}")) ∷ (tok Operator 167 168 (codes "(")) ∷ (tok Operator 168 169 (codes ")")) ∷ (tok Operator 169 170 (codes ")")) ∷ (tok Inserted 170 170 (codes ";")) ∷ (tok Operator 171 172 (codes "}")) ∷ (tok Inserted 172 172 (codes ";")) ∷ []); comments = ((note 29 44) ∷ []) })

abbrev steady_later_tree : File At
steady_later_tree = record { package_name = (nmf 8 12 8 12 (codes "main")); imports = []; decls = ((values (var_decl (from 14 27 14 27) false (spec (from 18 27 18 27) ((nmf 18 23 18 23 (codes "count")) ∷ []) None (expr_and (int_lit (from 26 27 26 27) (codes "1")) no_exprs) no_specs))) ∷ (fn (from 45 93 45 93) None (nmf 50 54 50 54 (codes "Seen")) (sig ((param (from 55 60 55 60) (Some (nmf 55 56 55 56 (codes "a"))) (named (from 57 60 57 60) None (nmf 57 60 57 60 (codes "int")))) ∷ []) ((param (from 62 65 62 65) None (named (from 62 65 62 65) None (nmf 62 65 62 65 (codes "int")))) ∷ [])) (from 66 93 66 93) (stmt_and (eval (from 69 81 69 81) (call (from 69 81 69 81) (ident (from 69 76 69 76) (codes "println")) (expr_and (str_lit (from 77 80 77 80) (codes "\"x\"")) no_exprs) Plain)) (stmt_and (return_ (from 83 91 83 91) (expr_and (ident (from 90 91 90 91) (codes "a")) no_exprs)) no_stmts))) ∷ (fn (from 95 172 95 136) None (nmf 100 104 100 104 (codes "main")) (sig [] []) (from 107 172 107 136) (stmt_and (define (from 110 116 110 116) ((nmf 110 111 110 111 (codes "c")) ∷ []) (expr_and (int_lit (from 115 116 115 116) (codes "1")) no_exprs)) (stmt_and (eval (from 118 170 118 134) (call (from 118 170 118 134) (ident (from 118 125 118 125) (codes "println")) (expr_and (call (from 126 169 126 133) (func_lit (from 126 167 126 133) (sig [] ((param (from 133 136 126 133) None (named (from 133 136 126 133) None (nmf 133 136 126 133 (codes "int")))) ∷ [])) (from 137 167 126 133) (stmt_and (eval (from 141 153 126 133) (call (from 141 153 126 133) (ident (from 141 148 126 133) (codes "println")) (expr_and (str_lit (from 149 152 126 133) (codes "\"x\"")) no_exprs) Plain)) (stmt_and (return_ (from 156 164 126 133) (expr_and (ident (from 163 164 131 132) (codes "c")) no_exprs)) no_stmts))) no_exprs Plain) no_exprs) Plain)) no_stmts))) ∷ []) }

steady_later_steps : is_some (step_in steady_later.marks steady_later_start) ≡ true
unfolding passes keyword_spellings is_inline digits
steady_later_steps = refl

abbrev steady_later_next : TokensOf steady_later_new.text steady_later_new.tokens steady_later_new.comments → Next steady_later.marks steady_later_start (log_entry steady_later.marks steady_later_start (steady_later_steps) steady_later_t0 steady_later_new steady_later_tree) (stands_after steady_later.marks steady_later_start (steady_later_steps) steady_later_t0 steady_later_new steady_later_tree)
unfolding passes keyword_spellings is_inline digits reading steady_later_steps
steady_later_next h = next_by steady_later.marks steady_later_start (steady_later_steps) steady_later_t0 steady_later_new steady_later_tree refl refl h refl refl

-- the whole run, with the tokens of the texts
steady_later_inlined : (h0 : TokensOf steady_later_t0.text steady_later_t0.tokens steady_later_t0.comments) (h : TokensOf steady_later_new.text steady_later_new.tokens steady_later_new.comments) → IsInlining the_limits (folder small_module steady_later.texts) steady_later.packages steady_later.texts [] (((codes "main.go"), steady_later_new) ∷ []) (codes "main.go:13:10: inlined example.com/m.Seen as literal\n")
unfolding passes keyword_spellings is_inline digits reading steady_later_steps steady_later_next
steady_later_inlined h0 h = inlining_by the_limits (folder small_module steady_later.texts) steady_later.packages steady_later.texts [] steady_later.marks (stands_after steady_later.marks steady_later_start (steady_later_steps) steady_later_t0 steady_later_new steady_later_tree) (log_entry steady_later.marks steady_later_start (steady_later_steps) steady_later_t0 steady_later_new steady_later_tree ∷ []) (codes "main.go:13:10: inlined example.com/m.Seen as literal\n") steady_later_marks (module_by (codes "example.com/m") (module_text small_module) (record { path = codes "main.go"; text = steady_later_t0; tree = steady_later_f0; reads = record { scans = h0; spells = file_spelled steady_later_t0.tokens steady_later_f0 steady_later_spelled0 } } ∷ []) (folder small_module steady_later.texts) steady_later.packages steady_later.texts small_module_is refl refl refl refl refl refl refl refl refl) (goes_on steady_later_start (stands_after steady_later.marks steady_later_start (steady_later_steps) steady_later_t0 steady_later_new steady_later_tree) (stands_after steady_later.marks steady_later_start (steady_later_steps) steady_later_t0 steady_later_new steady_later_tree) (log_entry steady_later.marks steady_later_start (steady_later_steps) steady_later_t0 steady_later_new steady_later_tree) [] (steady_later_next h) (ends (stands_after steady_later.marks steady_later_start (steady_later_steps) steady_later_t0 steady_later_new steady_later_tree) refl)) (steps_on [] [] (log_entry steady_later.marks steady_later_start (steady_later_steps) steady_later_t0 steady_later_new steady_later_tree) steady_later_start (stands_after steady_later.marks steady_later_start (steady_later_steps) steady_later_t0 steady_later_new steady_later_tree) (stands_after steady_later.marks steady_later_start (steady_later_steps) steady_later_t0 steady_later_new steady_later_tree) (steady_later_next h) refl (begins (log_entry steady_later.marks steady_later_start (steady_later_steps) steady_later_t0 steady_later_new steady_later_tree ∷ []) (stands_after steady_later.marks steady_later_start (steady_later_steps) steady_later_t0 steady_later_new steady_later_tree))) (kept_by (log_entry steady_later.marks steady_later_start (steady_later_steps) steady_later_t0 steady_later_new steady_later_tree ∷ []) (codes "main.go") steady_later_t0.text steady_later_new.text [] [] refl refl run.none) refl

steady_later_t0_found : TokensOf steady_later_t0.text steady_later_t0.tokens steady_later_t0.comments
unfolding piece_of lexeme_of longest_from next_of tokens_from comments_from keyword_spellings is_letter is_digit general_category general_category_rows value_in lib.Utf8.encode
steady_later_t0_found = tokens_by steady_later_t0.text steady_later_t0.tokens steady_later_t0.comments refl refl refl

steady_later_new_found : TokensOf steady_later_new.text steady_later_new.tokens steady_later_new.comments
unfolding piece_of lexeme_of longest_from next_of tokens_from comments_from keyword_spellings is_letter is_digit general_category general_category_rows value_in lib.Utf8.encode
steady_later_new_found = tokens_by steady_later_new.text steady_later_new.tokens steady_later_new.comments refl refl refl

steady_later_run : IsInlining the_limits (folder small_module steady_later.texts) steady_later.packages steady_later.texts [] (((codes "main.go"), steady_later_new) ∷ []) (codes "main.go:13:10: inlined example.com/m.Seen as literal\n")
steady_later_run = steady_later_inlined steady_later_t0_found steady_later_new_found
