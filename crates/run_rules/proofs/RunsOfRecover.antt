-- Runs of modules with recover and a range over a map, whole.
use Rattle.std.proofs.Common.{◌≡◌, refl}
use Rattle.std.specs.Prelude.{true, [], ◌∷◌, Some, None, codes}
use Rattle.go_tree.specs.declared.spans.Span.{Span}
use Rattle.go_tree.specs.declared.exprs.Rest.TheVariants.{Plain}
use Rattle.go_tree.specs.declared.tokens.TokenKind.TheVariants.{Ident, Keyword, Operator, Integer, Str, Inserted}
use Rattle.go_tree.specs.declared.operators.BinOp.TheVariants.{Add}
use Rattle.go_tree.specs.Tree.{named, map_type, ident, int_lit, str_lit, composite, call, func_lit, no_exprs, expr_and, no_elems, elem, plain, some_value, eval, assign, define, return_, range_, defer, no_stmts, stmt_and, defines}
use Rattle.go_tree.specs.File.{File}
use Rattle.run_rules.proofs.CaseTools.{at, nm, tok, note, param, sig, fn, pack, source, mark, Module}
use Rattle.go_layout.specs.SpellsSpans.{span_to}
use Rattle.go_tree.specs.GoWords.Terminals.{lexemes}
use Rattle.go_layout.specs.Goals.{read_front}
use Rattle.go_layout.proofs.Texts.{reading}
use Rattle.run_rules.proofs.CaseTools.{read_at}
use Rattle.go_tree.specs.GoWords.Tokens.Pieces.{keyword_spellings}
use Rattle.directive_scan.specs.Lines.{is_inline}
use Rattle.pkg_graph.specs.ModuleFiles.Internal.{passes}
use Rattle.std.specs.Prelude.{is_some}
use Rattle.run_rules.specs.Texts.{FileText}
use Rattle.run_rules.specs.Steps.{At}
use Rattle.run_rules.specs.Marks.{marks_of}
use Rattle.run_rules.specs.Run.{Standing, Next, step_in, goes_on, ends, the_limits}
use Rattle.run_rules.specs.Run as run
use Rattle.go_layout.proofs.Whole.{file_spelled}
use Rattle.std.specs.Fmt.{digits}
use Rattle.run_rules.specs.Inlining.{standing_as_read, begins, steps_on, IsInlining}
use Rattle.run_rules.proofs.CaseTools.{from, nmf}
use Rattle.go_tree.specs.GoWords.Tokens.{TokensOf}
use Rattle.run_rules.proofs.Instances.{stands_after, log_entry, next_by, kept_by, inlining_by}
use Rattle.run_rules.proofs.ModulesRead.{module_by, module_text, folder, small_module, small_module_is}
use Rattle.ucd_category.specs.GeneralCategory.{general_category}
use Rattle.ucd_category.specs.GeneralCategoryRows.{general_category_rows}
use Rattle.ucd_table.specs.Rows.{value_in}
use Rattle.go_tree.specs.GoWords.Tokens.{tokens_from, comments_from}
use Rattle.go_tree.specs.GoWords.Tokens.Characters.{is_letter, is_digit}
use Rattle.directive_scan.specs.Automaton.{next_of, longest_from}
use Rattle.directive_scan.specs.Pieces.{piece_of, lexeme_of}
use Rattle.run_rules.proofs.TokensFound.{tokens_by}

-- A deferred call of a function that recovers.
abbrev deferred_guard_f0 : File Span
deferred_guard_f0 = record { package_name = (nm 8 12 (codes "main")); imports = []; decls = ((fn (at 30 56) None (nm 35 40 (codes "Guard")) (sig [] []) (at 43 56) (stmt_and (eval (at 45 54) (call (at 45 54) (ident (at 45 52) (codes "recover")) no_exprs Plain)) no_stmts)) ∷ (fn (at 58 100) None (nm 63 67 (codes "main")) (sig [] []) (at 70 100) (stmt_and (defer (at 73 86) (call (at 79 86) (ident (at 79 84) (codes "Guard")) no_exprs Plain)) (stmt_and (eval (at 88 98) (call (at 88 98) (ident (at 88 93) (codes "panic")) (expr_and (str_lit (at 94 97) (codes "\"x\"")) no_exprs) Plain)) no_stmts))) ∷ []) }

abbrev deferred_guard : Module
deferred_guard = record { packages = (pack (codes "example.com/m") (codes "main") (source (codes "main.go") deferred_guard_f0 ∷ []) ∷ []); marks = (mark 0 0 0 0 ∷ []); texts = (((codes "main.go"), record { text = (codes "package main\n\n//go:fix inline\nfunc Guard() { recover() }\n\nfunc main() {\n\tdefer Guard()\n\tpanic(\"x\")\n}\n"); tokens = ((tok Keyword 0 7 (codes "package")) ∷ (tok Ident 8 12 (codes "main")) ∷ (tok Inserted 12 12 (codes ";")) ∷ (tok Keyword 30 34 (codes "func")) ∷ (tok Ident 35 40 (codes "Guard")) ∷ (tok Operator 40 41 (codes "(")) ∷ (tok Operator 41 42 (codes ")")) ∷ (tok Operator 43 44 (codes "{")) ∷ (tok Ident 45 52 (codes "recover")) ∷ (tok Operator 52 53 (codes "(")) ∷ (tok Operator 53 54 (codes ")")) ∷ (tok Operator 55 56 (codes "}")) ∷ (tok Inserted 56 56 (codes ";")) ∷ (tok Keyword 58 62 (codes "func")) ∷ (tok Ident 63 67 (codes "main")) ∷ (tok Operator 67 68 (codes "(")) ∷ (tok Operator 68 69 (codes ")")) ∷ (tok Operator 70 71 (codes "{")) ∷ (tok Keyword 73 78 (codes "defer")) ∷ (tok Ident 79 84 (codes "Guard")) ∷ (tok Operator 84 85 (codes "(")) ∷ (tok Operator 85 86 (codes ")")) ∷ (tok Inserted 86 86 (codes ";")) ∷ (tok Ident 88 93 (codes "panic")) ∷ (tok Operator 93 94 (codes "(")) ∷ (tok Str 94 97 (codes "\"x\"")) ∷ (tok Operator 97 98 (codes ")")) ∷ (tok Inserted 98 98 (codes ";")) ∷ (tok Operator 99 100 (codes "}")) ∷ (tok Inserted 100 100 (codes ";")) ∷ []); comments = ((note 14 29) ∷ []) }) ∷ []) }

abbrev deferred_guard_t0 : FileText
deferred_guard_t0 = (record { text = (codes "package main\n\n//go:fix inline\nfunc Guard() { recover() }\n\nfunc main() {\n\tdefer Guard()\n\tpanic(\"x\")\n}\n"); tokens = ((tok Keyword 0 7 (codes "package")) ∷ (tok Ident 8 12 (codes "main")) ∷ (tok Inserted 12 12 (codes ";")) ∷ (tok Keyword 30 34 (codes "func")) ∷ (tok Ident 35 40 (codes "Guard")) ∷ (tok Operator 40 41 (codes "(")) ∷ (tok Operator 41 42 (codes ")")) ∷ (tok Operator 43 44 (codes "{")) ∷ (tok Ident 45 52 (codes "recover")) ∷ (tok Operator 52 53 (codes "(")) ∷ (tok Operator 53 54 (codes ")")) ∷ (tok Operator 55 56 (codes "}")) ∷ (tok Inserted 56 56 (codes ";")) ∷ (tok Keyword 58 62 (codes "func")) ∷ (tok Ident 63 67 (codes "main")) ∷ (tok Operator 67 68 (codes "(")) ∷ (tok Operator 68 69 (codes ")")) ∷ (tok Operator 70 71 (codes "{")) ∷ (tok Keyword 73 78 (codes "defer")) ∷ (tok Ident 79 84 (codes "Guard")) ∷ (tok Operator 84 85 (codes "(")) ∷ (tok Operator 85 86 (codes ")")) ∷ (tok Inserted 86 86 (codes ";")) ∷ (tok Ident 88 93 (codes "panic")) ∷ (tok Operator 93 94 (codes "(")) ∷ (tok Str 94 97 (codes "\"x\"")) ∷ (tok Operator 97 98 (codes ")")) ∷ (tok Inserted 98 98 (codes ";")) ∷ (tok Operator 99 100 (codes "}")) ∷ (tok Inserted 100 100 (codes ";")) ∷ []); comments = ((note 14 29) ∷ []) })

deferred_guard_marks : marks_of deferred_guard.packages deferred_guard.texts [] ≡ deferred_guard.marks
unfolding passes keyword_spellings is_inline digits
deferred_guard_marks = refl

deferred_guard_spelled0 : read_at span_to read_front (lexemes deferred_guard_t0.tokens) ≡ Some (deferred_guard_f0, [])
unfolding reading
deferred_guard_spelled0 = refl

abbrev deferred_guard_start : Standing
deferred_guard_start = standing_as_read deferred_guard.packages deferred_guard.texts

abbrev deferred_guard_new : FileText
deferred_guard_new = (record { text = (codes "package main\n\n//go:fix inline\nfunc Guard() { recover() }\n\nfunc main() {\n\tdefer func() {\n\t\trecover()\n\t}()\n\tpanic(\"x\")\n}\n"); tokens = ((tok Keyword 0 7 (codes "package")) ∷ (tok Ident 8 12 (codes "main")) ∷ (tok Inserted 12 12 (codes ";")) ∷ (tok Keyword 30 34 (codes "func")) ∷ (tok Ident 35 40 (codes "Guard")) ∷ (tok Operator 40 41 (codes "(")) ∷ (tok Operator 41 42 (codes ")")) ∷ (tok Operator 43 44 (codes "{")) ∷ (tok Ident 45 52 (codes "recover")) ∷ (tok Operator 52 53 (codes "(")) ∷ (tok Operator 53 54 (codes ")")) ∷ (tok Operator 55 56 (codes "}")) ∷ (tok Inserted 56 56 (codes ";")) ∷ (tok Keyword 58 62 (codes "func")) ∷ (tok Ident 63 67 (codes "main")) ∷ (tok Operator 67 68 (codes "(")) ∷ (tok Operator 68 69 (codes ")")) ∷ (tok Operator 70 71 (codes "{")) ∷ (tok Keyword 73 78 (codes "defer")) ∷ (tok Keyword 79 83 (codes "func")) ∷ (tok Operator 83 84 (codes "(")) ∷ (tok Operator 84 85 (codes ")")) ∷ (tok Operator 86 87 (codes "{")) ∷ (tok Ident 90 97 (codes "recover")) ∷ (tok Operator 97 98 (codes "(")) ∷ (tok Operator 98 99 (codes ")")) ∷ (tok Inserted 99 99 (codes ";")) ∷ (tok Operator 101 102 (codes "}")) ∷ (tok Operator 102 103 (codes "(")) ∷ (tok Operator 103 104 (codes ")")) ∷ (tok Inserted 104 104 (codes ";")) ∷ (tok Ident 106 111 (codes "panic")) ∷ (tok Operator 111 112 (codes "(")) ∷ (tok Str 112 115 (codes "\"x\"")) ∷ (tok Operator 115 116 (codes ")")) ∷ (tok Inserted 116 116 (codes ";")) ∷ (tok Operator 117 118 (codes "}")) ∷ (tok Inserted 118 118 (codes ";")) ∷ []); comments = ((note 14 29) ∷ []) })

abbrev deferred_guard_tree : File At
deferred_guard_tree = record { package_name = (nmf 8 12 8 12 (codes "main")); imports = []; decls = ((fn (from 30 56 30 56) None (nmf 35 40 35 40 (codes "Guard")) (sig [] []) (from 43 56 43 56) (stmt_and (eval (from 45 54 45 54) (call (from 45 54 45 54) (ident (from 45 52 45 52) (codes "recover")) no_exprs Plain)) no_stmts)) ∷ (fn (from 58 118 58 100) None (nmf 63 67 63 67 (codes "main")) (sig [] []) (from 70 118 70 100) (stmt_and (defer (from 73 104 73 86) (call (from 79 104 79 86) (func_lit (from 79 102 79 86) (sig [] []) (from 86 102 79 86) (stmt_and (eval (from 90 99 79 86) (call (from 90 99 79 86) (ident (from 90 97 79 86) (codes "recover")) no_exprs Plain)) no_stmts)) no_exprs Plain)) (stmt_and (eval (from 106 116 88 98) (call (from 106 116 88 98) (ident (from 106 111 88 93) (codes "panic")) (expr_and (str_lit (from 112 115 94 97) (codes "\"x\"")) no_exprs) Plain)) no_stmts))) ∷ []) }

deferred_guard_steps : is_some (step_in deferred_guard.marks deferred_guard_start) ≡ true
unfolding passes keyword_spellings is_inline digits
deferred_guard_steps = refl

abbrev deferred_guard_next : TokensOf deferred_guard_new.text deferred_guard_new.tokens deferred_guard_new.comments → Next deferred_guard.marks deferred_guard_start (log_entry deferred_guard.marks deferred_guard_start (deferred_guard_steps) deferred_guard_t0 deferred_guard_new deferred_guard_tree) (stands_after deferred_guard.marks deferred_guard_start (deferred_guard_steps) deferred_guard_t0 deferred_guard_new deferred_guard_tree)
unfolding passes keyword_spellings is_inline digits reading deferred_guard_steps
deferred_guard_next h = next_by deferred_guard.marks deferred_guard_start (deferred_guard_steps) deferred_guard_t0 deferred_guard_new deferred_guard_tree refl refl h refl refl

-- the whole run, with the tokens of the texts
deferred_guard_inlined : (h0 : TokensOf deferred_guard_t0.text deferred_guard_t0.tokens deferred_guard_t0.comments) (h : TokensOf deferred_guard_new.text deferred_guard_new.tokens deferred_guard_new.comments) → IsInlining the_limits (folder small_module deferred_guard.texts) deferred_guard.packages deferred_guard.texts [] (((codes "main.go"), deferred_guard_new) ∷ []) (codes "main.go:7:8: inlined example.com/m.Guard as literal\n")
unfolding passes keyword_spellings is_inline digits reading deferred_guard_steps deferred_guard_next
deferred_guard_inlined h0 h = inlining_by the_limits (folder small_module deferred_guard.texts) deferred_guard.packages deferred_guard.texts [] deferred_guard.marks (stands_after deferred_guard.marks deferred_guard_start (deferred_guard_steps) deferred_guard_t0 deferred_guard_new deferred_guard_tree) (log_entry deferred_guard.marks deferred_guard_start (deferred_guard_steps) deferred_guard_t0 deferred_guard_new deferred_guard_tree ∷ []) (codes "main.go:7:8: inlined example.com/m.Guard as literal\n") deferred_guard_marks (module_by (codes "example.com/m") (module_text small_module) (record { path = codes "main.go"; text = deferred_guard_t0; tree = deferred_guard_f0; reads = record { scans = h0; spells = file_spelled deferred_guard_t0.tokens deferred_guard_f0 deferred_guard_spelled0 } } ∷ []) (folder small_module deferred_guard.texts) deferred_guard.packages deferred_guard.texts small_module_is refl refl refl refl refl refl refl refl refl) (goes_on deferred_guard_start (stands_after deferred_guard.marks deferred_guard_start (deferred_guard_steps) deferred_guard_t0 deferred_guard_new deferred_guard_tree) (stands_after deferred_guard.marks deferred_guard_start (deferred_guard_steps) deferred_guard_t0 deferred_guard_new deferred_guard_tree) (log_entry deferred_guard.marks deferred_guard_start (deferred_guard_steps) deferred_guard_t0 deferred_guard_new deferred_guard_tree) [] (deferred_guard_next h) (ends (stands_after deferred_guard.marks deferred_guard_start (deferred_guard_steps) deferred_guard_t0 deferred_guard_new deferred_guard_tree) refl)) (steps_on [] [] (log_entry deferred_guard.marks deferred_guard_start (deferred_guard_steps) deferred_guard_t0 deferred_guard_new deferred_guard_tree) deferred_guard_start (stands_after deferred_guard.marks deferred_guard_start (deferred_guard_steps) deferred_guard_t0 deferred_guard_new deferred_guard_tree) (stands_after deferred_guard.marks deferred_guard_start (deferred_guard_steps) deferred_guard_t0 deferred_guard_new deferred_guard_tree) (deferred_guard_next h) refl (begins (log_entry deferred_guard.marks deferred_guard_start (deferred_guard_steps) deferred_guard_t0 deferred_guard_new deferred_guard_tree ∷ []) (stands_after deferred_guard.marks deferred_guard_start (deferred_guard_steps) deferred_guard_t0 deferred_guard_new deferred_guard_tree))) (kept_by (log_entry deferred_guard.marks deferred_guard_start (deferred_guard_steps) deferred_guard_t0 deferred_guard_new deferred_guard_tree ∷ []) (codes "main.go") deferred_guard_t0.text deferred_guard_new.text [] [] refl refl run.none) refl

deferred_guard_t0_found : TokensOf deferred_guard_t0.text deferred_guard_t0.tokens deferred_guard_t0.comments
unfolding piece_of lexeme_of longest_from next_of tokens_from comments_from keyword_spellings is_letter is_digit general_category general_category_rows value_in lib.Utf8.encode
deferred_guard_t0_found = tokens_by deferred_guard_t0.text deferred_guard_t0.tokens deferred_guard_t0.comments refl refl refl

deferred_guard_new_found : TokensOf deferred_guard_new.text deferred_guard_new.tokens deferred_guard_new.comments
unfolding piece_of lexeme_of longest_from next_of tokens_from comments_from keyword_spellings is_letter is_digit general_category general_category_rows value_in lib.Utf8.encode
deferred_guard_new_found = tokens_by deferred_guard_new.text deferred_guard_new.tokens deferred_guard_new.comments refl refl refl

deferred_guard_run : IsInlining the_limits (folder small_module deferred_guard.texts) deferred_guard.packages deferred_guard.texts [] (((codes "main.go"), deferred_guard_new) ∷ []) (codes "main.go:7:8: inlined example.com/m.Guard as literal\n")
deferred_guard_run = deferred_guard_inlined deferred_guard_t0_found deferred_guard_new_found

-- A call of a function that recovers stays a call.
abbrev inner_guard_f0 : File Span
inner_guard_f0 = record { package_name = (nm 8 12 (codes "main")); imports = []; decls = ((fn (at 30 56) None (nm 35 40 (codes "Guard")) (sig [] []) (at 43 56) (stmt_and (eval (at 45 54) (call (at 45 54) (ident (at 45 52) (codes "recover")) no_exprs Plain)) no_stmts)) ∷ (fn (at 58 116) None (nm 63 67 (codes "main")) (sig [] []) (at 70 116) (stmt_and (defer (at 73 102) (call (at 79 102) (func_lit (at 79 100) (sig [] []) (at 86 100) (stmt_and (eval (at 90 97) (call (at 90 97) (ident (at 90 95) (codes "Guard")) no_exprs Plain)) no_stmts)) no_exprs Plain)) (stmt_and (eval (at 104 114) (call (at 104 114) (ident (at 104 109) (codes "panic")) (expr_and (str_lit (at 110 113) (codes "\"x\"")) no_exprs) Plain)) no_stmts))) ∷ []) }

abbrev inner_guard : Module
inner_guard = record { packages = (pack (codes "example.com/m") (codes "main") (source (codes "main.go") inner_guard_f0 ∷ []) ∷ []); marks = (mark 0 0 0 0 ∷ []); texts = (((codes "main.go"), record { text = (codes "package main\n\n//go:fix inline\nfunc Guard() { recover() }\n\nfunc main() {\n\tdefer func() {\n\t\tGuard()\n\t}()\n\tpanic(\"x\")\n}\n"); tokens = ((tok Keyword 0 7 (codes "package")) ∷ (tok Ident 8 12 (codes "main")) ∷ (tok Inserted 12 12 (codes ";")) ∷ (tok Keyword 30 34 (codes "func")) ∷ (tok Ident 35 40 (codes "Guard")) ∷ (tok Operator 40 41 (codes "(")) ∷ (tok Operator 41 42 (codes ")")) ∷ (tok Operator 43 44 (codes "{")) ∷ (tok Ident 45 52 (codes "recover")) ∷ (tok Operator 52 53 (codes "(")) ∷ (tok Operator 53 54 (codes ")")) ∷ (tok Operator 55 56 (codes "}")) ∷ (tok Inserted 56 56 (codes ";")) ∷ (tok Keyword 58 62 (codes "func")) ∷ (tok Ident 63 67 (codes "main")) ∷ (tok Operator 67 68 (codes "(")) ∷ (tok Operator 68 69 (codes ")")) ∷ (tok Operator 70 71 (codes "{")) ∷ (tok Keyword 73 78 (codes "defer")) ∷ (tok Keyword 79 83 (codes "func")) ∷ (tok Operator 83 84 (codes "(")) ∷ (tok Operator 84 85 (codes ")")) ∷ (tok Operator 86 87 (codes "{")) ∷ (tok Ident 90 95 (codes "Guard")) ∷ (tok Operator 95 96 (codes "(")) ∷ (tok Operator 96 97 (codes ")")) ∷ (tok Inserted 97 97 (codes ";")) ∷ (tok Operator 99 100 (codes "}")) ∷ (tok Operator 100 101 (codes "(")) ∷ (tok Operator 101 102 (codes ")")) ∷ (tok Inserted 102 102 (codes ";")) ∷ (tok Ident 104 109 (codes "panic")) ∷ (tok Operator 109 110 (codes "(")) ∷ (tok Str 110 113 (codes "\"x\"")) ∷ (tok Operator 113 114 (codes ")")) ∷ (tok Inserted 114 114 (codes ";")) ∷ (tok Operator 115 116 (codes "}")) ∷ (tok Inserted 116 116 (codes ";")) ∷ []); comments = ((note 14 29) ∷ []) }) ∷ []) }

abbrev inner_guard_t0 : FileText
inner_guard_t0 = (record { text = (codes "package main\n\n//go:fix inline\nfunc Guard() { recover() }\n\nfunc main() {\n\tdefer func() {\n\t\tGuard()\n\t}()\n\tpanic(\"x\")\n}\n"); tokens = ((tok Keyword 0 7 (codes "package")) ∷ (tok Ident 8 12 (codes "main")) ∷ (tok Inserted 12 12 (codes ";")) ∷ (tok Keyword 30 34 (codes "func")) ∷ (tok Ident 35 40 (codes "Guard")) ∷ (tok Operator 40 41 (codes "(")) ∷ (tok Operator 41 42 (codes ")")) ∷ (tok Operator 43 44 (codes "{")) ∷ (tok Ident 45 52 (codes "recover")) ∷ (tok Operator 52 53 (codes "(")) ∷ (tok Operator 53 54 (codes ")")) ∷ (tok Operator 55 56 (codes "}")) ∷ (tok Inserted 56 56 (codes ";")) ∷ (tok Keyword 58 62 (codes "func")) ∷ (tok Ident 63 67 (codes "main")) ∷ (tok Operator 67 68 (codes "(")) ∷ (tok Operator 68 69 (codes ")")) ∷ (tok Operator 70 71 (codes "{")) ∷ (tok Keyword 73 78 (codes "defer")) ∷ (tok Keyword 79 83 (codes "func")) ∷ (tok Operator 83 84 (codes "(")) ∷ (tok Operator 84 85 (codes ")")) ∷ (tok Operator 86 87 (codes "{")) ∷ (tok Ident 90 95 (codes "Guard")) ∷ (tok Operator 95 96 (codes "(")) ∷ (tok Operator 96 97 (codes ")")) ∷ (tok Inserted 97 97 (codes ";")) ∷ (tok Operator 99 100 (codes "}")) ∷ (tok Operator 100 101 (codes "(")) ∷ (tok Operator 101 102 (codes ")")) ∷ (tok Inserted 102 102 (codes ";")) ∷ (tok Ident 104 109 (codes "panic")) ∷ (tok Operator 109 110 (codes "(")) ∷ (tok Str 110 113 (codes "\"x\"")) ∷ (tok Operator 113 114 (codes ")")) ∷ (tok Inserted 114 114 (codes ";")) ∷ (tok Operator 115 116 (codes "}")) ∷ (tok Inserted 116 116 (codes ";")) ∷ []); comments = ((note 14 29) ∷ []) })

inner_guard_marks : marks_of inner_guard.packages inner_guard.texts [] ≡ inner_guard.marks
unfolding passes keyword_spellings is_inline digits
inner_guard_marks = refl

inner_guard_spelled0 : read_at span_to read_front (lexemes inner_guard_t0.tokens) ≡ Some (inner_guard_f0, [])
unfolding reading
inner_guard_spelled0 = refl

abbrev inner_guard_start : Standing
inner_guard_start = standing_as_read inner_guard.packages inner_guard.texts

abbrev inner_guard_new : FileText
inner_guard_new = (record { text = (codes "package main\n\n//go:fix inline\nfunc Guard() { recover() }\n\nfunc main() {\n\tdefer func() {\n\t\tfunc() {\n\t\t\trecover()\n\t\t}()\n\t}()\n\tpanic(\"x\")\n}\n"); tokens = ((tok Keyword 0 7 (codes "package")) ∷ (tok Ident 8 12 (codes "main")) ∷ (tok Inserted 12 12 (codes ";")) ∷ (tok Keyword 30 34 (codes "func")) ∷ (tok Ident 35 40 (codes "Guard")) ∷ (tok Operator 40 41 (codes "(")) ∷ (tok Operator 41 42 (codes ")")) ∷ (tok Operator 43 44 (codes "{")) ∷ (tok Ident 45 52 (codes "recover")) ∷ (tok Operator 52 53 (codes "(")) ∷ (tok Operator 53 54 (codes ")")) ∷ (tok Operator 55 56 (codes "}")) ∷ (tok Inserted 56 56 (codes ";")) ∷ (tok Keyword 58 62 (codes "func")) ∷ (tok Ident 63 67 (codes "main")) ∷ (tok Operator 67 68 (codes "(")) ∷ (tok Operator 68 69 (codes ")")) ∷ (tok Operator 70 71 (codes "{")) ∷ (tok Keyword 73 78 (codes "defer")) ∷ (tok Keyword 79 83 (codes "func")) ∷ (tok Operator 83 84 (codes "(")) ∷ (tok Operator 84 85 (codes ")")) ∷ (tok Operator 86 87 (codes "{")) ∷ (tok Keyword 90 94 (codes "func")) ∷ (tok Operator 94 95 (codes "(")) ∷ (tok Operator 95 96 (codes ")")) ∷ (tok Operator 97 98 (codes "{")) ∷ (tok Ident 102 109 (codes "recover")) ∷ (tok Operator 109 110 (codes "(")) ∷ (tok Operator 110 111 (codes ")")) ∷ (tok Inserted 111 111 (codes ";")) ∷ (tok Operator 114 115 (codes "}")) ∷ (tok Operator 115 116 (codes "(")) ∷ (tok Operator 116 117 (codes ")")) ∷ (tok Inserted 117 117 (codes ";")) ∷ (tok Operator 119 120 (codes "}")) ∷ (tok Operator 120 121 (codes "(")) ∷ (tok Operator 121 122 (codes ")")) ∷ (tok Inserted 122 122 (codes ";")) ∷ (tok Ident 124 129 (codes "panic")) ∷ (tok Operator 129 130 (codes "(")) ∷ (tok Str 130 133 (codes "\"x\"")) ∷ (tok Operator 133 134 (codes ")")) ∷ (tok Inserted 134 134 (codes ";")) ∷ (tok Operator 135 136 (codes "}")) ∷ (tok Inserted 136 136 (codes ";")) ∷ []); comments = ((note 14 29) ∷ []) })

abbrev inner_guard_tree : File At
inner_guard_tree = record { package_name = (nmf 8 12 8 12 (codes "main")); imports = []; decls = ((fn (from 30 56 30 56) None (nmf 35 40 35 40 (codes "Guard")) (sig [] []) (from 43 56 43 56) (stmt_and (eval (from 45 54 45 54) (call (from 45 54 45 54) (ident (from 45 52 45 52) (codes "recover")) no_exprs Plain)) no_stmts)) ∷ (fn (from 58 136 58 116) None (nmf 63 67 63 67 (codes "main")) (sig [] []) (from 70 136 70 116) (stmt_and (defer (from 73 122 73 102) (call (from 79 122 79 102) (func_lit (from 79 120 79 100) (sig [] []) (from 86 120 86 100) (stmt_and (eval (from 90 117 90 97) (call (from 90 117 90 97) (func_lit (from 90 115 90 97) (sig [] []) (from 97 115 90 97) (stmt_and (eval (from 102 111 90 97) (call (from 102 111 90 97) (ident (from 102 109 90 97) (codes "recover")) no_exprs Plain)) no_stmts)) no_exprs Plain)) no_stmts)) no_exprs Plain)) (stmt_and (eval (from 124 134 104 114) (call (from 124 134 104 114) (ident (from 124 129 104 109) (codes "panic")) (expr_and (str_lit (from 130 133 110 113) (codes "\"x\"")) no_exprs) Plain)) no_stmts))) ∷ []) }

inner_guard_steps : is_some (step_in inner_guard.marks inner_guard_start) ≡ true
unfolding passes keyword_spellings is_inline digits
inner_guard_steps = refl

abbrev inner_guard_next : TokensOf inner_guard_new.text inner_guard_new.tokens inner_guard_new.comments → Next inner_guard.marks inner_guard_start (log_entry inner_guard.marks inner_guard_start (inner_guard_steps) inner_guard_t0 inner_guard_new inner_guard_tree) (stands_after inner_guard.marks inner_guard_start (inner_guard_steps) inner_guard_t0 inner_guard_new inner_guard_tree)
unfolding passes keyword_spellings is_inline digits reading inner_guard_steps
inner_guard_next h = next_by inner_guard.marks inner_guard_start (inner_guard_steps) inner_guard_t0 inner_guard_new inner_guard_tree refl refl h refl refl

-- the whole run, with the tokens of the texts
inner_guard_inlined : (h0 : TokensOf inner_guard_t0.text inner_guard_t0.tokens inner_guard_t0.comments) (h : TokensOf inner_guard_new.text inner_guard_new.tokens inner_guard_new.comments) → IsInlining the_limits (folder small_module inner_guard.texts) inner_guard.packages inner_guard.texts [] (((codes "main.go"), inner_guard_new) ∷ []) (codes "main.go:8:3: inlined example.com/m.Guard as literal\n")
unfolding passes keyword_spellings is_inline digits reading inner_guard_steps inner_guard_next
inner_guard_inlined h0 h = inlining_by the_limits (folder small_module inner_guard.texts) inner_guard.packages inner_guard.texts [] inner_guard.marks (stands_after inner_guard.marks inner_guard_start (inner_guard_steps) inner_guard_t0 inner_guard_new inner_guard_tree) (log_entry inner_guard.marks inner_guard_start (inner_guard_steps) inner_guard_t0 inner_guard_new inner_guard_tree ∷ []) (codes "main.go:8:3: inlined example.com/m.Guard as literal\n") inner_guard_marks (module_by (codes "example.com/m") (module_text small_module) (record { path = codes "main.go"; text = inner_guard_t0; tree = inner_guard_f0; reads = record { scans = h0; spells = file_spelled inner_guard_t0.tokens inner_guard_f0 inner_guard_spelled0 } } ∷ []) (folder small_module inner_guard.texts) inner_guard.packages inner_guard.texts small_module_is refl refl refl refl refl refl refl refl refl) (goes_on inner_guard_start (stands_after inner_guard.marks inner_guard_start (inner_guard_steps) inner_guard_t0 inner_guard_new inner_guard_tree) (stands_after inner_guard.marks inner_guard_start (inner_guard_steps) inner_guard_t0 inner_guard_new inner_guard_tree) (log_entry inner_guard.marks inner_guard_start (inner_guard_steps) inner_guard_t0 inner_guard_new inner_guard_tree) [] (inner_guard_next h) (ends (stands_after inner_guard.marks inner_guard_start (inner_guard_steps) inner_guard_t0 inner_guard_new inner_guard_tree) refl)) (steps_on [] [] (log_entry inner_guard.marks inner_guard_start (inner_guard_steps) inner_guard_t0 inner_guard_new inner_guard_tree) inner_guard_start (stands_after inner_guard.marks inner_guard_start (inner_guard_steps) inner_guard_t0 inner_guard_new inner_guard_tree) (stands_after inner_guard.marks inner_guard_start (inner_guard_steps) inner_guard_t0 inner_guard_new inner_guard_tree) (inner_guard_next h) refl (begins (log_entry inner_guard.marks inner_guard_start (inner_guard_steps) inner_guard_t0 inner_guard_new inner_guard_tree ∷ []) (stands_after inner_guard.marks inner_guard_start (inner_guard_steps) inner_guard_t0 inner_guard_new inner_guard_tree))) (kept_by (log_entry inner_guard.marks inner_guard_start (inner_guard_steps) inner_guard_t0 inner_guard_new inner_guard_tree ∷ []) (codes "main.go") inner_guard_t0.text inner_guard_new.text [] [] refl refl run.none) refl

inner_guard_t0_found : TokensOf inner_guard_t0.text inner_guard_t0.tokens inner_guard_t0.comments
unfolding piece_of lexeme_of longest_from next_of tokens_from comments_from keyword_spellings is_letter is_digit general_category general_category_rows value_in lib.Utf8.encode
inner_guard_t0_found = tokens_by inner_guard_t0.text inner_guard_t0.tokens inner_guard_t0.comments refl refl refl

inner_guard_new_found : TokensOf inner_guard_new.text inner_guard_new.tokens inner_guard_new.comments
unfolding piece_of lexeme_of longest_from next_of tokens_from comments_from keyword_spellings is_letter is_digit general_category general_category_rows value_in lib.Utf8.encode
inner_guard_new_found = tokens_by inner_guard_new.text inner_guard_new.tokens inner_guard_new.comments refl refl refl

inner_guard_run : IsInlining the_limits (folder small_module inner_guard.texts) inner_guard.packages inner_guard.texts [] (((codes "main.go"), inner_guard_new) ∷ []) (codes "main.go:8:3: inlined example.com/m.Guard as literal\n")
inner_guard_run = inner_guard_inlined inner_guard_t0_found inner_guard_new_found

-- A range over a map.
abbrev map_sum_f0 : File Span
map_sum_f0 = record { package_name = (nm 8 12 (codes "main")); imports = []; decls = ((fn (at 30 117) None (nm 35 38 (codes "Sum")) (sig ((param (at 39 55) (Some (nm 39 40 (codes "m"))) (map_type (at 41 55) (named (at 45 51) None (nm 45 51 (codes "string"))) (named (at 52 55) None (nm 52 55 (codes "int"))))) ∷ []) ((param (at 57 60) None (named (at 57 60) None (nm 57 60 (codes "int")))) ∷ [])) (at 61 117) (stmt_and (define (at 64 70) ((nm 64 65 (codes "t")) ∷ []) (expr_and (int_lit (at 69 70) (codes "0")) no_exprs)) (stmt_and (range_ (at 72 105) (defines ((nm 76 77 (codes "_")) ∷ (nm 79 80 (codes "v")) ∷ [])) (ident (at 90 91) (codes "m")) (at 92 105) (stmt_and (assign (at 96 102) (expr_and (ident (at 96 97) (codes "t")) no_exprs) (Some Add) (expr_and (ident (at 101 102) (codes "v")) no_exprs)) no_stmts)) (stmt_and (return_ (at 107 115) (expr_and (ident (at 114 115) (codes "t")) no_exprs)) no_stmts)))) ∷ (fn (at 119 180) None (nm 124 128 (codes "main")) (sig [] []) (at 131 180) (stmt_and (define (at 134 161) ((nm 134 135 (codes "m")) ∷ []) (expr_and (composite (at 139 161) (map_type (at 139 153) (named (at 143 149) None (nm 143 149 (codes "string"))) (named (at 150 153) None (nm 150 153 (codes "int")))) (elem (at 154 160) (some_value (plain (str_lit (at 154 157) (codes "\"a\"")))) (plain (int_lit (at 159 160) (codes "1"))) no_elems)) no_exprs)) (stmt_and (eval (at 163 178) (call (at 163 178) (ident (at 163 170) (codes "println")) (expr_and (call (at 171 177) (ident (at 171 174) (codes "Sum")) (expr_and (ident (at 175 176) (codes "m")) no_exprs) Plain) no_exprs) Plain)) no_stmts))) ∷ []) }

map_sum_f0_read : read_at span_to read_front (lexemes ((tok Keyword 0 7 (codes "package")) ∷ (tok Ident 8 12 (codes "main")) ∷ (tok Inserted 12 12 (codes ";")) ∷ (tok Keyword 30 34 (codes "func")) ∷ (tok Ident 35 38 (codes "Sum")) ∷ (tok Operator 38 39 (codes "(")) ∷ (tok Ident 39 40 (codes "m")) ∷ (tok Keyword 41 44 (codes "map")) ∷ (tok Operator 44 45 (codes "[")) ∷ (tok Ident 45 51 (codes "string")) ∷ (tok Operator 51 52 (codes "]")) ∷ (tok Ident 52 55 (codes "int")) ∷ (tok Operator 55 56 (codes ")")) ∷ (tok Ident 57 60 (codes "int")) ∷ (tok Operator 61 62 (codes "{")) ∷ (tok Ident 64 65 (codes "t")) ∷ (tok Operator 66 68 (codes ":=")) ∷ (tok Integer 69 70 (codes "0")) ∷ (tok Inserted 70 70 (codes ";")) ∷ (tok Keyword 72 75 (codes "for")) ∷ (tok Ident 76 77 (codes "_")) ∷ (tok Operator 77 78 (codes ",")) ∷ (tok Ident 79 80 (codes "v")) ∷ (tok Operator 81 83 (codes ":=")) ∷ (tok Keyword 84 89 (codes "range")) ∷ (tok Ident 90 91 (codes "m")) ∷ (tok Operator 92 93 (codes "{")) ∷ (tok Ident 96 97 (codes "t")) ∷ (tok Operator 98 100 (codes "+=")) ∷ (tok Ident 101 102 (codes "v")) ∷ (tok Inserted 102 102 (codes ";")) ∷ (tok Operator 104 105 (codes "}")) ∷ (tok Inserted 105 105 (codes ";")) ∷ (tok Keyword 107 113 (codes "return")) ∷ (tok Ident 114 115 (codes "t")) ∷ (tok Inserted 115 115 (codes ";")) ∷ (tok Operator 116 117 (codes "}")) ∷ (tok Inserted 117 117 (codes ";")) ∷ (tok Keyword 119 123 (codes "func")) ∷ (tok Ident 124 128 (codes "main")) ∷ (tok Operator 128 129 (codes "(")) ∷ (tok Operator 129 130 (codes ")")) ∷ (tok Operator 131 132 (codes "{")) ∷ (tok Ident 134 135 (codes "m")) ∷ (tok Operator 136 138 (codes ":=")) ∷ (tok Keyword 139 142 (codes "map")) ∷ (tok Operator 142 143 (codes "[")) ∷ (tok Ident 143 149 (codes "string")) ∷ (tok Operator 149 150 (codes "]")) ∷ (tok Ident 150 153 (codes "int")) ∷ (tok Operator 153 154 (codes "{")) ∷ (tok Str 154 157 (codes "\"a\"")) ∷ (tok Operator 157 158 (codes ":")) ∷ (tok Integer 159 160 (codes "1")) ∷ (tok Operator 160 161 (codes "}")) ∷ (tok Inserted 161 161 (codes ";")) ∷ (tok Ident 163 170 (codes "println")) ∷ (tok Operator 170 171 (codes "(")) ∷ (tok Ident 171 174 (codes "Sum")) ∷ (tok Operator 174 175 (codes "(")) ∷ (tok Ident 175 176 (codes "m")) ∷ (tok Operator 176 177 (codes ")")) ∷ (tok Operator 177 178 (codes ")")) ∷ (tok Inserted 178 178 (codes ";")) ∷ (tok Operator 179 180 (codes "}")) ∷ (tok Inserted 180 180 (codes ";")) ∷ [])) ≡ Some (map_sum_f0, [])
unfolding reading
map_sum_f0_read = refl

abbrev map_sum : Module
map_sum = record { packages = (pack (codes "example.com/m") (codes "main") (source (codes "main.go") map_sum_f0 ∷ []) ∷ []); marks = (mark 0 0 0 0 ∷ []); texts = (((codes "main.go"), record { text = (codes "package main\n\n//go:fix inline\nfunc Sum(m map[string]int) int {\n\tt := 0\n\tfor _, v := range m {\n\t\tt += v\n\t}\n\treturn t\n}\n\nfunc main() {\n\tm := map[string]int{\"a\": 1}\n\tprintln(Sum(m))\n}\n"); tokens = ((tok Keyword 0 7 (codes "package")) ∷ (tok Ident 8 12 (codes "main")) ∷ (tok Inserted 12 12 (codes ";")) ∷ (tok Keyword 30 34 (codes "func")) ∷ (tok Ident 35 38 (codes "Sum")) ∷ (tok Operator 38 39 (codes "(")) ∷ (tok Ident 39 40 (codes "m")) ∷ (tok Keyword 41 44 (codes "map")) ∷ (tok Operator 44 45 (codes "[")) ∷ (tok Ident 45 51 (codes "string")) ∷ (tok Operator 51 52 (codes "]")) ∷ (tok Ident 52 55 (codes "int")) ∷ (tok Operator 55 56 (codes ")")) ∷ (tok Ident 57 60 (codes "int")) ∷ (tok Operator 61 62 (codes "{")) ∷ (tok Ident 64 65 (codes "t")) ∷ (tok Operator 66 68 (codes ":=")) ∷ (tok Integer 69 70 (codes "0")) ∷ (tok Inserted 70 70 (codes ";")) ∷ (tok Keyword 72 75 (codes "for")) ∷ (tok Ident 76 77 (codes "_")) ∷ (tok Operator 77 78 (codes ",")) ∷ (tok Ident 79 80 (codes "v")) ∷ (tok Operator 81 83 (codes ":=")) ∷ (tok Keyword 84 89 (codes "range")) ∷ (tok Ident 90 91 (codes "m")) ∷ (tok Operator 92 93 (codes "{")) ∷ (tok Ident 96 97 (codes "t")) ∷ (tok Operator 98 100 (codes "+=")) ∷ (tok Ident 101 102 (codes "v")) ∷ (tok Inserted 102 102 (codes ";")) ∷ (tok Operator 104 105 (codes "}")) ∷ (tok Inserted 105 105 (codes ";")) ∷ (tok Keyword 107 113 (codes "return")) ∷ (tok Ident 114 115 (codes "t")) ∷ (tok Inserted 115 115 (codes ";")) ∷ (tok Operator 116 117 (codes "}")) ∷ (tok Inserted 117 117 (codes ";")) ∷ (tok Keyword 119 123 (codes "func")) ∷ (tok Ident 124 128 (codes "main")) ∷ (tok Operator 128 129 (codes "(")) ∷ (tok Operator 129 130 (codes ")")) ∷ (tok Operator 131 132 (codes "{")) ∷ (tok Ident 134 135 (codes "m")) ∷ (tok Operator 136 138 (codes ":=")) ∷ (tok Keyword 139 142 (codes "map")) ∷ (tok Operator 142 143 (codes "[")) ∷ (tok Ident 143 149 (codes "string")) ∷ (tok Operator 149 150 (codes "]")) ∷ (tok Ident 150 153 (codes "int")) ∷ (tok Operator 153 154 (codes "{")) ∷ (tok Str 154 157 (codes "\"a\"")) ∷ (tok Operator 157 158 (codes ":")) ∷ (tok Integer 159 160 (codes "1")) ∷ (tok Operator 160 161 (codes "}")) ∷ (tok Inserted 161 161 (codes ";")) ∷ (tok Ident 163 170 (codes "println")) ∷ (tok Operator 170 171 (codes "(")) ∷ (tok Ident 171 174 (codes "Sum")) ∷ (tok Operator 174 175 (codes "(")) ∷ (tok Ident 175 176 (codes "m")) ∷ (tok Operator 176 177 (codes ")")) ∷ (tok Operator 177 178 (codes ")")) ∷ (tok Inserted 178 178 (codes ";")) ∷ (tok Operator 179 180 (codes "}")) ∷ (tok Inserted 180 180 (codes ";")) ∷ []); comments = ((note 14 29) ∷ []) }) ∷ []) }

abbrev map_sum_t0 : FileText
map_sum_t0 = (record { text = (codes "package main\n\n//go:fix inline\nfunc Sum(m map[string]int) int {\n\tt := 0\n\tfor _, v := range m {\n\t\tt += v\n\t}\n\treturn t\n}\n\nfunc main() {\n\tm := map[string]int{\"a\": 1}\n\tprintln(Sum(m))\n}\n"); tokens = ((tok Keyword 0 7 (codes "package")) ∷ (tok Ident 8 12 (codes "main")) ∷ (tok Inserted 12 12 (codes ";")) ∷ (tok Keyword 30 34 (codes "func")) ∷ (tok Ident 35 38 (codes "Sum")) ∷ (tok Operator 38 39 (codes "(")) ∷ (tok Ident 39 40 (codes "m")) ∷ (tok Keyword 41 44 (codes "map")) ∷ (tok Operator 44 45 (codes "[")) ∷ (tok Ident 45 51 (codes "string")) ∷ (tok Operator 51 52 (codes "]")) ∷ (tok Ident 52 55 (codes "int")) ∷ (tok Operator 55 56 (codes ")")) ∷ (tok Ident 57 60 (codes "int")) ∷ (tok Operator 61 62 (codes "{")) ∷ (tok Ident 64 65 (codes "t")) ∷ (tok Operator 66 68 (codes ":=")) ∷ (tok Integer 69 70 (codes "0")) ∷ (tok Inserted 70 70 (codes ";")) ∷ (tok Keyword 72 75 (codes "for")) ∷ (tok Ident 76 77 (codes "_")) ∷ (tok Operator 77 78 (codes ",")) ∷ (tok Ident 79 80 (codes "v")) ∷ (tok Operator 81 83 (codes ":=")) ∷ (tok Keyword 84 89 (codes "range")) ∷ (tok Ident 90 91 (codes "m")) ∷ (tok Operator 92 93 (codes "{")) ∷ (tok Ident 96 97 (codes "t")) ∷ (tok Operator 98 100 (codes "+=")) ∷ (tok Ident 101 102 (codes "v")) ∷ (tok Inserted 102 102 (codes ";")) ∷ (tok Operator 104 105 (codes "}")) ∷ (tok Inserted 105 105 (codes ";")) ∷ (tok Keyword 107 113 (codes "return")) ∷ (tok Ident 114 115 (codes "t")) ∷ (tok Inserted 115 115 (codes ";")) ∷ (tok Operator 116 117 (codes "}")) ∷ (tok Inserted 117 117 (codes ";")) ∷ (tok Keyword 119 123 (codes "func")) ∷ (tok Ident 124 128 (codes "main")) ∷ (tok Operator 128 129 (codes "(")) ∷ (tok Operator 129 130 (codes ")")) ∷ (tok Operator 131 132 (codes "{")) ∷ (tok Ident 134 135 (codes "m")) ∷ (tok Operator 136 138 (codes ":=")) ∷ (tok Keyword 139 142 (codes "map")) ∷ (tok Operator 142 143 (codes "[")) ∷ (tok Ident 143 149 (codes "string")) ∷ (tok Operator 149 150 (codes "]")) ∷ (tok Ident 150 153 (codes "int")) ∷ (tok Operator 153 154 (codes "{")) ∷ (tok Str 154 157 (codes "\"a\"")) ∷ (tok Operator 157 158 (codes ":")) ∷ (tok Integer 159 160 (codes "1")) ∷ (tok Operator 160 161 (codes "}")) ∷ (tok Inserted 161 161 (codes ";")) ∷ (tok Ident 163 170 (codes "println")) ∷ (tok Operator 170 171 (codes "(")) ∷ (tok Ident 171 174 (codes "Sum")) ∷ (tok Operator 174 175 (codes "(")) ∷ (tok Ident 175 176 (codes "m")) ∷ (tok Operator 176 177 (codes ")")) ∷ (tok Operator 177 178 (codes ")")) ∷ (tok Inserted 178 178 (codes ";")) ∷ (tok Operator 179 180 (codes "}")) ∷ (tok Inserted 180 180 (codes ";")) ∷ []); comments = ((note 14 29) ∷ []) })

map_sum_marks : marks_of map_sum.packages map_sum.texts [] ≡ map_sum.marks
unfolding passes keyword_spellings is_inline digits
map_sum_marks = refl

map_sum_spelled0 : read_at span_to read_front (lexemes map_sum_t0.tokens) ≡ Some (map_sum_f0, [])
unfolding reading
map_sum_spelled0 = refl

abbrev map_sum_start : Standing
map_sum_start = standing_as_read map_sum.packages map_sum.texts

abbrev map_sum_new : FileText
map_sum_new = (record { text = (codes "package main\n\n//go:fix inline\nfunc Sum(m map[string]int) int {\n\tt := 0\n\tfor _, v := range m {\n\t\tt += v\n\t}\n\treturn t\n}\n\nfunc main() {\n\tm := map[string]int{\"a\": 1}\n\tprintln(func() int {\n\t\tt := 0\n\t\tfor _, v := range m {\n\t\t\tt += v\n\t\t}\n\t\treturn t\n\t}())\n}\n"); tokens = ((tok Keyword 0 7 (codes "package")) ∷ (tok Ident 8 12 (codes "main")) ∷ (tok Inserted 12 12 (codes ";")) ∷ (tok Keyword 30 34 (codes "func")) ∷ (tok Ident 35 38 (codes "Sum")) ∷ (tok Operator 38 39 (codes "(")) ∷ (tok Ident 39 40 (codes "m")) ∷ (tok Keyword 41 44 (codes "map")) ∷ (tok Operator 44 45 (codes "[")) ∷ (tok Ident 45 51 (codes "string")) ∷ (tok Operator 51 52 (codes "]")) ∷ (tok Ident 52 55 (codes "int")) ∷ (tok Operator 55 56 (codes ")")) ∷ (tok Ident 57 60 (codes "int")) ∷ (tok Operator 61 62 (codes "{")) ∷ (tok Ident 64 65 (codes "t")) ∷ (tok Operator 66 68 (codes ":=")) ∷ (tok Integer 69 70 (codes "0")) ∷ (tok Inserted 70 70 (codes ";")) ∷ (tok Keyword 72 75 (codes "for")) ∷ (tok Ident 76 77 (codes "_")) ∷ (tok Operator 77 78 (codes ",")) ∷ (tok Ident 79 80 (codes "v")) ∷ (tok Operator 81 83 (codes ":=")) ∷ (tok Keyword 84 89 (codes "range")) ∷ (tok Ident 90 91 (codes "m")) ∷ (tok Operator 92 93 (codes "{")) ∷ (tok Ident 96 97 (codes "t")) ∷ (tok Operator 98 100 (codes "+=")) ∷ (tok Ident 101 102 (codes "v")) ∷ (tok Inserted 102 102 (codes ";")) ∷ (tok Operator 104 105 (codes "}")) ∷ (tok Inserted 105 105 (codes ";")) ∷ (tok Keyword 107 113 (codes "return")) ∷ (tok Ident 114 115 (codes "t")) ∷ (tok Inserted 115 115 (codes ";")) ∷ (tok Operator 116 117 (codes "}")) ∷ (tok Inserted 117 117 (codes ";")) ∷ (tok Keyword 119 123 (codes "func")) ∷ (tok Ident 124 128 (codes "main")) ∷ (tok Operator 128 129 (codes "(")) ∷ (tok Operator 129 130 (codes ")")) ∷ (tok Operator 131 132 (codes "{")) ∷ (tok Ident 134 135 (codes "m")) ∷ (tok Operator 136 138 (codes ":=")) ∷ (tok Keyword 139 142 (codes "map")) ∷ (tok Operator 142 143 (codes "[")) ∷ (tok Ident 143 149 (codes "string")) ∷ (tok Operator 149 150 (codes "]")) ∷ (tok Ident 150 153 (codes "int")) ∷ (tok Operator 153 154 (codes "{")) ∷ (tok Str 154 157 (codes "\"a\"")) ∷ (tok Operator 157 158 (codes ":")) ∷ (tok Integer 159 160 (codes "1")) ∷ (tok Operator 160 161 (codes "}")) ∷ (tok Inserted 161 161 (codes ";")) ∷ (tok Ident 163 170 (codes "println")) ∷ (tok Operator 170 171 (codes "(")) ∷ (tok Keyword 171 175 (codes "func")) ∷ (tok Operator 175 176 (codes "(")) ∷ (tok Operator 176 177 (codes ")")) ∷ (tok Ident 178 181 (codes "int")) ∷ (tok Operator 182 183 (codes "{")) ∷ (tok Ident 186 187 (codes "t")) ∷ (tok Operator 188 190 (codes ":=")) ∷ (tok Integer 191 192 (codes "0")) ∷ (tok Inserted 192 192 (codes ";")) ∷ (tok Keyword 195 198 (codes "for")) ∷ (tok Ident 199 200 (codes "_")) ∷ (tok Operator 200 201 (codes ",")) ∷ (tok Ident 202 203 (codes "v")) ∷ (tok Operator 204 206 (codes ":=")) ∷ (tok Keyword 207 212 (codes "range")) ∷ (tok Ident 213 214 (codes "m")) ∷ (tok Operator 215 216 (codes "{")) ∷ (tok Ident 220 221 (codes "t")) ∷ (tok Operator 222 224 (codes "+=")) ∷ (tok Ident 225 226 (codes "v")) ∷ (tok Inserted 226 226 (codes ";")) ∷ (tok Operator 229 230 (codes "}")) ∷ (tok Inserted 230 230 (codes ";")) ∷ (tok Keyword 233 239 (codes "return")) ∷ (tok Ident 240 241 (codes "t")) ∷ (tok Inserted 241 241 (codes ";")) ∷ (tok Operator 243 244 (codes "}")) ∷ (tok Operator 244 245 (codes "(")) ∷ (tok Operator 245 246 (codes ")")) ∷ (tok Operator 246 247 (codes ")")) ∷ (tok Inserted 247 247 (codes ";")) ∷ (tok Operator 248 249 (codes "}")) ∷ (tok Inserted 249 249 (codes ";")) ∷ []); comments = ((note 14 29) ∷ []) })

abbrev map_sum_tree : File At
map_sum_tree = record { package_name = (nmf 8 12 8 12 (codes "main")); imports = []; decls = ((fn (from 30 117 30 117) None (nmf 35 38 35 38 (codes "Sum")) (sig ((param (from 39 55 39 55) (Some (nmf 39 40 39 40 (codes "m"))) (map_type (from 41 55 41 55) (named (from 45 51 45 51) None (nmf 45 51 45 51 (codes "string"))) (named (from 52 55 52 55) None (nmf 52 55 52 55 (codes "int"))))) ∷ []) ((param (from 57 60 57 60) None (named (from 57 60 57 60) None (nmf 57 60 57 60 (codes "int")))) ∷ [])) (from 61 117 61 117) (stmt_and (define (from 64 70 64 70) ((nmf 64 65 64 65 (codes "t")) ∷ []) (expr_and (int_lit (from 69 70 69 70) (codes "0")) no_exprs)) (stmt_and (range_ (from 72 105 72 105) (defines ((nmf 76 77 76 77 (codes "_")) ∷ (nmf 79 80 79 80 (codes "v")) ∷ [])) (ident (from 90 91 90 91) (codes "m")) (from 92 105 92 105) (stmt_and (assign (from 96 102 96 102) (expr_and (ident (from 96 97 96 97) (codes "t")) no_exprs) (Some Add) (expr_and (ident (from 101 102 101 102) (codes "v")) no_exprs)) no_stmts)) (stmt_and (return_ (from 107 115 107 115) (expr_and (ident (from 114 115 114 115) (codes "t")) no_exprs)) no_stmts)))) ∷ (fn (from 119 249 119 180) None (nmf 124 128 124 128 (codes "main")) (sig [] []) (from 131 249 131 180) (stmt_and (define (from 134 161 134 161) ((nmf 134 135 134 135 (codes "m")) ∷ []) (expr_and (composite (from 139 161 139 161) (map_type (from 139 153 139 153) (named (from 143 149 143 149) None (nmf 143 149 143 149 (codes "string"))) (named (from 150 153 150 153) None (nmf 150 153 150 153 (codes "int")))) (elem (from 154 160 154 160) (some_value (plain (str_lit (from 154 157 154 157) (codes "\"a\"")))) (plain (int_lit (from 159 160 159 160) (codes "1"))) no_elems)) no_exprs)) (stmt_and (eval (from 163 247 163 178) (call (from 163 247 163 178) (ident (from 163 170 163 170) (codes "println")) (expr_and (call (from 171 246 171 177) (func_lit (from 171 244 171 177) (sig [] ((param (from 178 181 171 177) None (named (from 178 181 171 177) None (nmf 178 181 171 177 (codes "int")))) ∷ [])) (from 182 244 171 177) (stmt_and (define (from 186 192 171 177) ((nmf 186 187 171 177 (codes "t")) ∷ []) (expr_and (int_lit (from 191 192 171 177) (codes "0")) no_exprs)) (stmt_and (range_ (from 195 230 171 177) (defines ((nmf 199 200 171 177 (codes "_")) ∷ (nmf 202 203 171 177 (codes "v")) ∷ [])) (ident (from 213 214 175 176) (codes "m")) (from 215 230 171 177) (stmt_and (assign (from 220 226 171 177) (expr_and (ident (from 220 221 171 177) (codes "t")) no_exprs) (Some Add) (expr_and (ident (from 225 226 171 177) (codes "v")) no_exprs)) no_stmts)) (stmt_and (return_ (from 233 241 171 177) (expr_and (ident (from 240 241 171 177) (codes "t")) no_exprs)) no_stmts)))) no_exprs Plain) no_exprs) Plain)) no_stmts))) ∷ []) }

map_sum_steps : is_some (step_in map_sum.marks map_sum_start) ≡ true
unfolding passes keyword_spellings is_inline digits
map_sum_steps = refl

abbrev map_sum_next : TokensOf map_sum_new.text map_sum_new.tokens map_sum_new.comments → Next map_sum.marks map_sum_start (log_entry map_sum.marks map_sum_start (map_sum_steps) map_sum_t0 map_sum_new map_sum_tree) (stands_after map_sum.marks map_sum_start (map_sum_steps) map_sum_t0 map_sum_new map_sum_tree)
unfolding passes keyword_spellings is_inline digits reading map_sum_steps
map_sum_next h = next_by map_sum.marks map_sum_start (map_sum_steps) map_sum_t0 map_sum_new map_sum_tree refl refl h refl refl

-- the whole run, with the tokens of the texts
map_sum_inlined : (h0 : TokensOf map_sum_t0.text map_sum_t0.tokens map_sum_t0.comments) (h : TokensOf map_sum_new.text map_sum_new.tokens map_sum_new.comments) → IsInlining the_limits (folder small_module map_sum.texts) map_sum.packages map_sum.texts [] (((codes "main.go"), map_sum_new) ∷ []) (codes "main.go:14:10: inlined example.com/m.Sum as literal\n")
unfolding passes keyword_spellings is_inline digits reading map_sum_steps map_sum_next
map_sum_inlined h0 h = inlining_by the_limits (folder small_module map_sum.texts) map_sum.packages map_sum.texts [] map_sum.marks (stands_after map_sum.marks map_sum_start (map_sum_steps) map_sum_t0 map_sum_new map_sum_tree) (log_entry map_sum.marks map_sum_start (map_sum_steps) map_sum_t0 map_sum_new map_sum_tree ∷ []) (codes "main.go:14:10: inlined example.com/m.Sum as literal\n") map_sum_marks (module_by (codes "example.com/m") (module_text small_module) (record { path = codes "main.go"; text = map_sum_t0; tree = map_sum_f0; reads = record { scans = h0; spells = file_spelled map_sum_t0.tokens map_sum_f0 map_sum_spelled0 } } ∷ []) (folder small_module map_sum.texts) map_sum.packages map_sum.texts small_module_is refl refl refl refl refl refl refl refl refl) (goes_on map_sum_start (stands_after map_sum.marks map_sum_start (map_sum_steps) map_sum_t0 map_sum_new map_sum_tree) (stands_after map_sum.marks map_sum_start (map_sum_steps) map_sum_t0 map_sum_new map_sum_tree) (log_entry map_sum.marks map_sum_start (map_sum_steps) map_sum_t0 map_sum_new map_sum_tree) [] (map_sum_next h) (ends (stands_after map_sum.marks map_sum_start (map_sum_steps) map_sum_t0 map_sum_new map_sum_tree) refl)) (steps_on [] [] (log_entry map_sum.marks map_sum_start (map_sum_steps) map_sum_t0 map_sum_new map_sum_tree) map_sum_start (stands_after map_sum.marks map_sum_start (map_sum_steps) map_sum_t0 map_sum_new map_sum_tree) (stands_after map_sum.marks map_sum_start (map_sum_steps) map_sum_t0 map_sum_new map_sum_tree) (map_sum_next h) refl (begins (log_entry map_sum.marks map_sum_start (map_sum_steps) map_sum_t0 map_sum_new map_sum_tree ∷ []) (stands_after map_sum.marks map_sum_start (map_sum_steps) map_sum_t0 map_sum_new map_sum_tree))) (kept_by (log_entry map_sum.marks map_sum_start (map_sum_steps) map_sum_t0 map_sum_new map_sum_tree ∷ []) (codes "main.go") map_sum_t0.text map_sum_new.text [] [] refl refl run.none) refl

map_sum_t0_found : TokensOf map_sum_t0.text map_sum_t0.tokens map_sum_t0.comments
unfolding piece_of lexeme_of longest_from next_of tokens_from comments_from keyword_spellings is_letter is_digit general_category general_category_rows value_in lib.Utf8.encode
map_sum_t0_found = tokens_by map_sum_t0.text map_sum_t0.tokens map_sum_t0.comments refl refl refl

map_sum_new_found : TokensOf map_sum_new.text map_sum_new.tokens map_sum_new.comments
unfolding piece_of lexeme_of longest_from next_of tokens_from comments_from keyword_spellings is_letter is_digit general_category general_category_rows value_in lib.Utf8.encode
map_sum_new_found = tokens_by map_sum_new.text map_sum_new.tokens map_sum_new.comments refl refl refl

map_sum_run : IsInlining the_limits (folder small_module map_sum.texts) map_sum.packages map_sum.texts [] (((codes "main.go"), map_sum_new) ∷ []) (codes "main.go:14:10: inlined example.com/m.Sum as literal\n")
map_sum_run = map_sum_inlined map_sum_t0_found map_sum_new_found
