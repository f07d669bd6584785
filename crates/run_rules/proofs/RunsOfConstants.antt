-- Runs of modules with marked constants, whole.
use Rattle.std.proofs.Common.{◌≡◌, inl, inr, length, refl}
use Rattle.run_rules.specs.ImportRules.Laid.{Laid}
use Rattle.run_rules.specs.Laws.{LiesBehindImports}
use Rattle.std.specs.Prelude.{true, false, [], ◌∷◌, Some, None, codes}
use Rattle.go_tree.specs.declared.exprs.Rest.TheVariants.{Plain}
use Rattle.go_tree.specs.declared.spans.Span.{Span}
use Rattle.go_tree.specs.declared.tokens.TokenKind.TheVariants.{Ident, Keyword, Operator, Integer, Inserted}
use Rattle.go_tree.specs.declared.operators.BinOp.TheVariants.{Add}
use Rattle.go_tree.specs.Tree.{ident, int_lit, call, binary, no_exprs, expr_and, const_decl, eval, define, no_stmts, stmt_and, no_specs, spec}
use Rattle.go_tree.specs.File.{File, values}
use Rattle.run_rules.proofs.CaseTools.{at, nm, tok, note, sig, fn, pack, source, mark, Module}
use Rattle.go_layout.specs.SpellsSpans.{span_to}
use Rattle.go_tree.specs.GoWords.Terminals.{lexemes}
use Rattle.go_tree.specs.GoWords.Tokens.Pieces.{keyword_spellings}
use Rattle.go_layout.specs.Goals.{read_front}
use Rattle.go_layout.proofs.Texts.{reading}
use Rattle.run_rules.proofs.CaseTools.{read_at}
use Rattle.directive_scan.specs.Lines.{is_inline}
use Rattle.pkg_graph.specs.ModuleFiles.Internal.{passes}
use Rattle.std.specs.Prelude.{is_some}
use Rattle.run_rules.specs.Texts.{FileText}
use Rattle.run_rules.specs.Steps.{At}
use Rattle.run_rules.specs.Marks.{marks_of}
use Rattle.run_rules.specs.Run.{Standing, Next, step_in, goes_on, ends, the_limits}
use Rattle.run_rules.specs.Run.{Steps}
use Rattle.run_rules.specs.Run as run
use Rattle.go_layout.proofs.Whole.{file_spelled}
use Rattle.std.specs.Fmt.{digits}
use Rattle.run_rules.specs.Inlining.{standing_as_read, begins, steps_on, IsInlining, IsTooLarge}
use Rattle.run_rules.proofs.CaseTools.{from, nmf}
use Rattle.run_rules.proofs.Instances.{stand_so, is_at_most, stands_after, log_entry, next_by, kept_by, inlining_by, too_large_by}
use Rattle.run_rules.proofs.ModulesRead.{module_by, module_text, folder, small_module, small_module_is}
use Rattle.go_tree.specs.GoWords.Tokens.{TokensOf}
use Rattle.ucd_category.specs.GeneralCategory.{general_category}
use Rattle.ucd_category.specs.GeneralCategoryRows.{general_category_rows}
use Rattle.ucd_table.specs.Rows.{value_in}
use Rattle.go_tree.specs.GoWords.Tokens.{tokens_from, comments_from}
use Rattle.go_tree.specs.GoWords.Tokens.Characters.{is_letter, is_digit}
use Rattle.directive_scan.specs.Automaton.{next_of, longest_from}
use Rattle.directive_scan.specs.Pieces.{piece_of, lexeme_of}
use Rattle.run_rules.proofs.TokensFound.{tokens_by}

-- A run of one step.
abbrev pub one_constant_f0 : File Span
one_constant_f0 = record { package_name = (nm 8 12 (codes "main")); imports = []; decls = ((values (const_decl (at 14 31) false (spec (at 20 31) ((nm 20 27 (codes "Pointer")) ∷ []) None (expr_and (int_lit (at 30 31) (codes "1")) no_exprs) no_specs))) ∷ (values (const_decl (at 49 68) false (spec (at 55 68) ((nm 55 58 (codes "Ptr")) ∷ []) None (expr_and (ident (at 61 68) (codes "Pointer")) no_exprs) no_specs))) ∷ (fn (at 70 99) None (nm 75 79 (codes "main")) (sig [] []) (at 82 99) (stmt_and (eval (at 85 97) (call (at 85 97) (ident (at 85 92) (codes "println")) (expr_and (ident (at 93 96) (codes "Ptr")) no_exprs) Plain)) no_stmts)) ∷ []) }

abbrev pub one_constant : Module
one_constant = record { packages = (pack (codes "example.com/m") (codes "main") (source (codes "main.go") one_constant_f0 ∷ []) ∷ []); marks = (mark 0 0 1 0 ∷ []); texts = (((codes "main.go"), record { text = (codes "package main\n\nconst Pointer = 1\n\n//go:fix inline\nconst Ptr = Pointer\n\nfunc main() {\n\tprintln(Ptr)\n}\n"); tokens = ((tok Keyword 0 7 (codes "package")) ∷ (tok Ident 8 12 (codes "main")) ∷ (tok Inserted 12 12 (codes ";")) ∷ (tok Keyword 14 19 (codes "const")) ∷ (tok Ident 20 27 (codes "Pointer")) ∷ (tok Operator 28 29 (codes "=")) ∷ (tok Integer 30 31 (codes "1")) ∷ (tok Inserted 31 31 (codes ";")) ∷ (tok Keyword 49 54 (codes "const")) ∷ (tok Ident 55 58 (codes "Ptr")) ∷ (tok Operator 59 60 (codes "=")) ∷ (tok Ident 61 68 (codes "Pointer")) ∷ (tok Inserted 68 68 (codes ";")) ∷ (tok Keyword 70 74 (codes "func")) ∷ (tok Ident 75 79 (codes "main")) ∷ (tok Operator 79 80 (codes "(")) ∷ (tok Operator 80 81 (codes ")")) ∷ (tok Operator 82 83 (codes "{")) ∷ (tok Ident 85 92 (codes "println")) ∷ (tok Operator 92 93 (codes "(")) ∷ (tok Ident 93 96 (codes "Ptr")) ∷ (tok Operator 96 97 (codes ")")) ∷ (tok Inserted 97 97 (codes ";")) ∷ (tok Operator 98 99 (codes "}")) ∷ (tok Inserted 99 99 (codes ";")) ∷ []); comments = ((note 33 48) ∷ []) }) ∷ []) }

abbrev pub one_constant_t0 : FileText
one_constant_t0 = (record { text = (codes "package main\n\nconst Pointer = 1\n\n//go:fix inline\nconst Ptr = Pointer\n\nfunc main() {\n\tprintln(Ptr)\n}\n"); tokens = ((tok Keyword 0 7 (codes "package")) ∷ (tok Ident 8 12 (codes "main")) ∷ (tok Inserted 12 12 (codes ";")) ∷ (tok Keyword 14 19 (codes "const")) ∷ (tok Ident 20 27 (codes "Pointer")) ∷ (tok Operator 28 29 (codes "=")) ∷ (tok Integer 30 31 (codes "1")) ∷ (tok Inserted 31 31 (codes ";")) ∷ (tok Keyword 49 54 (codes "const")) ∷ (tok Ident 55 58 (codes "Ptr")) ∷ (tok Operator 59 60 (codes "=")) ∷ (tok Ident 61 68 (codes "Pointer")) ∷ (tok Inserted 68 68 (codes ";")) ∷ (tok Keyword 70 74 (codes "func")) ∷ (tok Ident 75 79 (codes "main")) ∷ (tok Operator 79 80 (codes "(")) ∷ (tok Operator 80 81 (codes ")")) ∷ (tok Operator 82 83 (codes "{")) ∷ (tok Ident 85 92 (codes "println")) ∷ (tok Operator 92 93 (codes "(")) ∷ (tok Ident 93 96 (codes "Ptr")) ∷ (tok Operator 96 97 (codes ")")) ∷ (tok Inserted 97 97 (codes ";")) ∷ (tok Operator 98 99 (codes "}")) ∷ (tok Inserted 99 99 (codes ";")) ∷ []); comments = ((note 33 48) ∷ []) })

one_constant_marks : marks_of one_constant.packages one_constant.texts [] ≡ one_constant.marks
unfolding passes keyword_spellings is_inline digits
one_constant_marks = refl

one_constant_spelled0 : read_at span_to read_front (lexemes one_constant_t0.tokens) ≡ Some (one_constant_f0, [])
unfolding reading
one_constant_spelled0 = refl

abbrev one_constant_start : Standing
one_constant_start = standing_as_read one_constant.packages one_constant.texts

abbrev pub one_constant_new : FileText
one_constant_new = (record { text = (codes "package main\n\nconst Pointer = 1\n\n//go:fix inline\nconst Ptr = Pointer\n\nfunc main() {\n\tprintln(Pointer)\n}\n"); tokens = ((tok Keyword 0 7 (codes "package")) ∷ (tok Ident 8 12 (codes "main")) ∷ (tok Inserted 12 12 (codes ";")) ∷ (tok Keyword 14 19 (codes "const")) ∷ (tok Ident 20 27 (codes "Pointer")) ∷ (tok Operator 28 29 (codes "=")) ∷ (tok Integer 30 31 (codes "1")) ∷ (tok Inserted 31 31 (codes ";")) ∷ (tok Keyword 49 54 (codes "const")) ∷ (tok Ident 55 58 (codes "Ptr")) ∷ (tok Operator 59 60 (codes "=")) ∷ (tok Ident 61 68 (codes "Pointer")) ∷ (tok Inserted 68 68 (codes ";")) ∷ (tok Keyword 70 74 (codes "func")) ∷ (tok Ident 75 79 (codes "main")) ∷ (tok Operator 79 80 (codes "(")) ∷ (tok Operator 80 81 (codes ")")) ∷ (tok Operator 82 83 (codes "{")) ∷ (tok Ident 85 92 (codes "println")) ∷ (tok Operator 92 93 (codes "(")) ∷ (tok Ident 93 100 (codes "Pointer")) ∷ (tok Operator 100 101 (codes ")")) ∷ (tok Inserted 101 101 (codes ";")) ∷ (tok Operator 102 103 (codes "}")) ∷ (tok Inserted 103 103 (codes ";")) ∷ []); comments = ((note 33 48) ∷ []) })

abbrev one_constant_tree : File At
one_constant_tree = record { package_name = (nmf 8 12 8 12 (codes "main")); imports = []; decls = ((values (const_decl (from 14 31 14 31) false (spec (from 20 31 20 31) ((nmf 20 27 20 27 (codes "Pointer")) ∷ []) None (expr_and (int_lit (from 30 31 30 31) (codes "1")) no_exprs) no_specs))) ∷ (values (const_decl (from 49 68 49 68) false (spec (from 55 68 55 68) ((nmf 55 58 55 58 (codes "Ptr")) ∷ []) None (expr_and (ident (from 61 68 61 68) (codes "Pointer")) no_exprs) no_specs))) ∷ (fn (from 70 103 70 99) None (nmf 75 79 75 79 (codes "main")) (sig [] []) (from 82 103 82 99) (stmt_and (eval (from 85 101 85 97) (call (from 85 101 85 97) (ident (from 85 92 85 92) (codes "println")) (expr_and (ident (from 93 100 93 96) (codes "Pointer")) no_exprs) Plain)) no_stmts)) ∷ []) }

one_constant_steps : is_some (step_in one_constant.marks one_constant_start) ≡ true
unfolding passes keyword_spellings is_inline digits
one_constant_steps = refl

abbrev one_constant_next : TokensOf one_constant_new.text one_constant_new.tokens one_constant_new.comments → Next one_constant.marks one_constant_start (log_entry one_constant.marks one_constant_start (one_constant_steps) one_constant_t0 one_constant_new one_constant_tree) (stands_after one_constant.marks one_constant_start (one_constant_steps) one_constant_t0 one_constant_new one_constant_tree)
unfolding passes keyword_spellings is_inline digits reading one_constant_steps
one_constant_next h = next_by one_constant.marks one_constant_start (one_constant_steps) one_constant_t0 one_constant_new one_constant_tree refl refl h refl refl

-- the whole run, with the tokens of the texts
one_constant_inlined : (h0 : TokensOf one_constant_t0.text one_constant_t0.tokens one_constant_t0.comments) (h : TokensOf one_constant_new.text one_constant_new.tokens one_constant_new.comments) → IsInlining the_limits (folder small_module one_constant.texts) one_constant.packages one_constant.texts [] (((codes "main.go"), one_constant_new) ∷ []) (codes "main.go:9:10: inlined example.com/m.Ptr as const\n")
unfolding passes keyword_spellings is_inline digits reading one_constant_steps one_constant_next
one_constant_inlined h0 h = inlining_by the_limits (folder small_module one_constant.texts) one_constant.packages one_constant.texts [] one_constant.marks (stands_after one_constant.marks one_constant_start (one_constant_steps) one_constant_t0 one_constant_new one_constant_tree) (log_entry one_constant.marks one_constant_start (one_constant_steps) one_constant_t0 one_constant_new one_constant_tree ∷ []) (codes "main.go:9:10: inlined example.com/m.Ptr as const\n") one_constant_marks (module_by (codes "example.com/m") (module_text small_module) (record { path = codes "main.go"; text = one_constant_t0; tree = one_constant_f0; reads = record { scans = h0; spells = file_spelled one_constant_t0.tokens one_constant_f0 one_constant_spelled0 } } ∷ []) (folder small_module one_constant.texts) one_constant.packages one_constant.texts small_module_is refl refl refl refl refl refl refl refl refl) (goes_on one_constant_start (stands_after one_constant.marks one_constant_start (one_constant_steps) one_constant_t0 one_constant_new one_constant_tree) (stands_after one_constant.marks one_constant_start (one_constant_steps) one_constant_t0 one_constant_new one_constant_tree) (log_entry one_constant.marks one_constant_start (one_constant_steps) one_constant_t0 one_constant_new one_constant_tree) [] (one_constant_next h) (ends (stands_after one_constant.marks one_constant_start (one_constant_steps) one_constant_t0 one_constant_new one_constant_tree) refl)) (steps_on [] [] (log_entry one_constant.marks one_constant_start (one_constant_steps) one_constant_t0 one_constant_new one_constant_tree) one_constant_start (stands_after one_constant.marks one_constant_start (one_constant_steps) one_constant_t0 one_constant_new one_constant_tree) (stands_after one_constant.marks one_constant_start (one_constant_steps) one_constant_t0 one_constant_new one_constant_tree) (one_constant_next h) refl (begins (log_entry one_constant.marks one_constant_start (one_constant_steps) one_constant_t0 one_constant_new one_constant_tree ∷ []) (stands_after one_constant.marks one_constant_start (one_constant_steps) one_constant_t0 one_constant_new one_constant_tree))) (kept_by (log_entry one_constant.marks one_constant_start (one_constant_steps) one_constant_t0 one_constant_new one_constant_tree ∷ []) (codes "main.go") one_constant_t0.text one_constant_new.text [] [] refl refl run.none) refl

one_constant_t0_found : TokensOf one_constant_t0.text one_constant_t0.tokens one_constant_t0.comments
unfolding piece_of lexeme_of longest_from next_of tokens_from comments_from keyword_spellings is_letter is_digit general_category general_category_rows value_in lib.Utf8.encode
one_constant_t0_found = tokens_by one_constant_t0.text one_constant_t0.tokens one_constant_t0.comments refl refl refl

one_constant_new_found : TokensOf one_constant_new.text one_constant_new.tokens one_constant_new.comments
unfolding piece_of lexeme_of longest_from next_of tokens_from comments_from keyword_spellings is_letter is_digit general_category general_category_rows value_in lib.Utf8.encode
one_constant_new_found = tokens_by one_constant_new.text one_constant_new.tokens one_constant_new.comments refl refl refl

pub one_constant_run : IsInlining the_limits (folder small_module one_constant.texts) one_constant.packages one_constant.texts [] (((codes "main.go"), one_constant_new) ∷ []) (codes "main.go:9:10: inlined example.com/m.Ptr as const\n")
one_constant_run = one_constant_inlined one_constant_t0_found one_constant_new_found

-- Without a mark nothing is reported.
abbrev no_mark_f0 : File Span
no_mark_f0 = record { package_name = (nm 8 12 (codes "main")); imports = []; decls = ((values (const_decl (at 14 31) false (spec (at 20 31) ((nm 20 27 (codes "Pointer")) ∷ []) None (expr_and (int_lit (at 30 31) (codes "1")) no_exprs) no_specs))) ∷ (values (const_decl (at 33 52) false (spec (at 39 52) ((nm 39 42 (codes "Ptr")) ∷ []) None (expr_and (ident (at 45 52) (codes "Pointer")) no_exprs) no_specs))) ∷ (fn (at 54 83) None (nm 59 63 (codes "main")) (sig [] []) (at 66 83) (stmt_and (eval (at 69 81) (call (at 69 81) (ident (at 69 76) (codes "println")) (expr_and (ident (at 77 80) (codes "Ptr")) no_exprs) Plain)) no_stmts)) ∷ []) }

abbrev no_mark : Module
no_mark = record { packages = (pack (codes "example.com/m") (codes "main") (source (codes "main.go") no_mark_f0 ∷ []) ∷ []); marks = []; texts = (((codes "main.go"), record { text = (codes "package main\n\nconst Pointer = 1\n\nconst Ptr = Pointer\n\nfunc main() {\n\tprintln(Ptr)\n}\n"); tokens = ((tok Keyword 0 7 (codes "package")) ∷ (tok Ident 8 12 (codes "main")) ∷ (tok Inserted 12 12 (codes ";")) ∷ (tok Keyword 14 19 (codes "const")) ∷ (tok Ident 20 27 (codes "Pointer")) ∷ (tok Operator 28 29 (codes "=")) ∷ (tok Integer 30 31 (codes "1")) ∷ (tok Inserted 31 31 (codes ";")) ∷ (tok Keyword 33 38 (codes "const")) ∷ (tok Ident 39 42 (codes "Ptr")) ∷ (tok Operator 43 44 (codes "=")) ∷ (tok Ident 45 52 (codes "Pointer")) ∷ (tok Inserted 52 52 (codes ";")) ∷ (tok Keyword 54 58 (codes "func")) ∷ (tok Ident 59 63 (codes "main")) ∷ (tok Operator 63 64 (codes "(")) ∷ (tok Operator 64 65 (codes ")")) ∷ (tok Operator 66 67 (codes "{")) ∷ (tok Ident 69 76 (codes "println")) ∷ (tok Operator 76 77 (codes "(")) ∷ (tok Ident 77 80 (codes "Ptr")) ∷ (tok Operator 80 81 (codes ")")) ∷ (tok Inserted 81 81 (codes ";")) ∷ (tok Operator 82 83 (codes "}")) ∷ (tok Inserted 83 83 (codes ";")) ∷ []); comments = [] }) ∷ []) }

abbrev no_mark_t0 : FileText
no_mark_t0 = (record { text = (codes "package main\n\nconst Pointer = 1\n\nconst Ptr = Pointer\n\nfunc main() {\n\tprintln(Ptr)\n}\n"); tokens = ((tok Keyword 0 7 (codes "package")) ∷ (tok Ident 8 12 (codes "main")) ∷ (tok Inserted 12 12 (codes ";")) ∷ (tok Keyword 14 19 (codes "const")) ∷ (tok Ident 20 27 (codes "Pointer")) ∷ (tok Operator 28 29 (codes "=")) ∷ (tok Integer 30 31 (codes "1")) ∷ (tok Inserted 31 31 (codes ";")) ∷ (tok Keyword 33 38 (codes "const")) ∷ (tok Ident 39 42 (codes "Ptr")) ∷ (tok Operator 43 44 (codes "=")) ∷ (tok Ident 45 52 (codes "Pointer")) ∷ (tok Inserted 52 52 (codes ";")) ∷ (tok Keyword 54 58 (codes "func")) ∷ (tok Ident 59 63 (codes "main")) ∷ (tok Operator 63 64 (codes "(")) ∷ (tok Operator 64 65 (codes ")")) ∷ (tok Operator 66 67 (codes "{")) ∷ (tok Ident 69 76 (codes "println")) ∷ (tok Operator 76 77 (codes "(")) ∷ (tok Ident 77 80 (codes "Ptr")) ∷ (tok Operator 80 81 (codes ")")) ∷ (tok Inserted 81 81 (codes ";")) ∷ (tok Operator 82 83 (codes "}")) ∷ (tok Inserted 83 83 (codes ";")) ∷ []); comments = [] })

no_mark_marks : marks_of no_mark.packages no_mark.texts [] ≡ no_mark.marks
unfolding passes keyword_spellings is_inline digits
no_mark_marks = refl

no_mark_spelled0 : read_at span_to read_front (lexemes no_mark_t0.tokens) ≡ Some (no_mark_f0, [])
unfolding reading
no_mark_spelled0 = refl

abbrev no_mark_start : Standing
no_mark_start = standing_as_read no_mark.packages no_mark.texts

-- the whole run, with the tokens of the texts
no_mark_inlined : (h0 : TokensOf no_mark_t0.text no_mark_t0.tokens no_mark_t0.comments) → IsInlining the_limits (folder small_module no_mark.texts) no_mark.packages no_mark.texts [] (((codes "main.go"), no_mark_t0) ∷ []) (codes "")
unfolding passes keyword_spellings is_inline digits reading
no_mark_inlined h0 = inlining_by the_limits (folder small_module no_mark.texts) no_mark.packages no_mark.texts [] no_mark.marks no_mark_start ([]) (codes "") no_mark_marks (module_by (codes "example.com/m") (module_text small_module) (record { path = codes "main.go"; text = no_mark_t0; tree = no_mark_f0; reads = record { scans = h0; spells = file_spelled no_mark_t0.tokens no_mark_f0 no_mark_spelled0 } } ∷ []) (folder small_module no_mark.texts) no_mark.packages no_mark.texts small_module_is refl refl refl refl refl refl refl refl refl) (ends no_mark_start refl) (begins [] no_mark_start) (kept_by ([]) (codes "main.go") no_mark_t0.text no_mark_t0.text [] [] refl refl run.none) refl

no_mark_t0_found : TokensOf no_mark_t0.text no_mark_t0.tokens no_mark_t0.comments
unfolding piece_of lexeme_of longest_from next_of tokens_from comments_from keyword_spellings is_letter is_digit general_category general_category_rows value_in lib.Utf8.encode
no_mark_t0_found = tokens_by no_mark_t0.text no_mark_t0.tokens no_mark_t0.comments refl refl refl

no_mark_run : IsInlining the_limits (folder small_module no_mark.texts) no_mark.packages no_mark.texts [] (((codes "main.go"), no_mark_t0) ∷ []) (codes "")
no_mark_run = no_mark_inlined no_mark_t0_found

-- The name means another declaration at the use.
abbrev shadowed_f0 : File Span
shadowed_f0 = record { package_name = (nm 8 12 (codes "main")); imports = []; decls = ((values (const_decl (at 14 31) false (spec (at 20 31) ((nm 20 27 (codes "Pointer")) ∷ []) None (expr_and (int_lit (at 30 31) (codes "1")) no_exprs) no_specs))) ∷ (values (const_decl (at 49 68) false (spec (at 55 68) ((nm 55 58 (codes "Ptr")) ∷ []) None (expr_and (ident (at 61 68) (codes "Pointer")) no_exprs) no_specs))) ∷ (fn (at 70 122) None (nm 75 79 (codes "main")) (sig [] []) (at 82 122) (stmt_and (define (at 85 97) ((nm 85 92 (codes "Pointer")) ∷ []) (expr_and (int_lit (at 96 97) (codes "2")) no_exprs)) (stmt_and (eval (at 99 120) (call (at 99 120) (ident (at 99 106) (codes "println")) (expr_and (ident (at 107 110) (codes "Ptr")) (expr_and (ident (at 112 119) (codes "Pointer")) no_exprs)) Plain)) no_stmts))) ∷ []) }

abbrev shadowed : Module
shadowed = record { packages = (pack (codes "example.com/m") (codes "main") (source (codes "main.go") shadowed_f0 ∷ []) ∷ []); marks = (mark 0 0 1 0 ∷ []); texts = (((codes "main.go"), record { text = (codes "package main\n\nconst Pointer = 1\n\n//go:fix inline\nconst Ptr = Pointer\n\nfunc main() {\n\tPointer := 2\n\tprintln(Ptr, Pointer)\n}\n"); tokens = ((tok Keyword 0 7 (codes "package")) ∷ (tok Ident 8 12 (codes "main")) ∷ (tok Inserted 12 12 (codes ";")) ∷ (tok Keyword 14 19 (codes "const")) ∷ (tok Ident 20 27 (codes "Pointer")) ∷ (tok Operator 28 29 (codes "=")) ∷ (tok Integer 30 31 (codes "1")) ∷ (tok Inserted 31 31 (codes ";")) ∷ (tok Keyword 49 54 (codes "const")) ∷ (tok Ident 55 58 (codes "Ptr")) ∷ (tok Operator 59 60 (codes "=")) ∷ (tok Ident 61 68 (codes "Pointer")) ∷ (tok Inserted 68 68 (codes ";")) ∷ (tok Keyword 70 74 (codes "func")) ∷ (tok Ident 75 79 (codes "main")) ∷ (tok Operator 79 80 (codes "(")) ∷ (tok Operator 80 81 (codes ")")) ∷ (tok Operator 82 83 (codes "{")) ∷ (tok Ident 85 92 (codes "Pointer")) ∷ (tok Operator 93 95 (codes ":=")) ∷ (tok Integer 96 97 (codes "2")) ∷ (tok Inserted 97 97 (codes ";")) ∷ (tok Ident 99 106 (codes "println")) ∷ (tok Operator 106 107 (codes "(")) ∷ (tok Ident 107 110 (codes "Ptr")) ∷ (tok Operator 110 111 (codes ",")) ∷ (tok Ident 112 119 (codes "Pointer")) ∷ (tok Operator 119 120 (codes ")")) ∷ (tok Inserted 120 120 (codes ";")) ∷ (tok Operator 121 122 (codes "}")) ∷ (tok Inserted 122 122 (codes ";")) ∷ []); comments = ((note 33 48) ∷ []) }) ∷ []) }

abbrev shadowed_t0 : FileText
shadowed_t0 = (record { text = (codes "package main\n\nconst Pointer = 1\n\n//go:fix inline\nconst Ptr = Pointer\n\nfunc main() {\n\tPointer := 2\n\tprintln(Ptr, Pointer)\n}\n"); tokens = ((tok Keyword 0 7 (codes "package")) ∷ (tok Ident 8 12 (codes "main")) ∷ (tok Inserted 12 12 (codes ";")) ∷ (tok Keyword 14 19 (codes "const")) ∷ (tok Ident 20 27 (codes "Pointer")) ∷ (tok Operator 28 29 (codes "=")) ∷ (tok Integer 30 31 (codes "1")) ∷ (tok Inserted 31 31 (codes ";")) ∷ (tok Keyword 49 54 (codes "const")) ∷ (tok Ident 55 58 (codes "Ptr")) ∷ (tok Operator 59 60 (codes "=")) ∷ (tok Ident 61 68 (codes "Pointer")) ∷ (tok Inserted 68 68 (codes ";")) ∷ (tok Keyword 70 74 (codes "func")) ∷ (tok Ident 75 79 (codes "main")) ∷ (tok Operator 79 80 (codes "(")) ∷ (tok Operator 80 81 (codes ")")) ∷ (tok Operator 82 83 (codes "{")) ∷ (tok Ident 85 92 (codes "Pointer")) ∷ (tok Operator 93 95 (codes ":=")) ∷ (tok Integer 96 97 (codes "2")) ∷ (tok Inserted 97 97 (codes ";")) ∷ (tok Ident 99 106 (codes "println")) ∷ (tok Operator 106 107 (codes "(")) ∷ (tok Ident 107 110 (codes "Ptr")) ∷ (tok Operator 110 111 (codes ",")) ∷ (tok Ident 112 119 (codes "Pointer")) ∷ (tok Operator 119 120 (codes ")")) ∷ (tok Inserted 120 120 (codes ";")) ∷ (tok Operator 121 122 (codes "}")) ∷ (tok Inserted 122 122 (codes ";")) ∷ []); comments = ((note 33 48) ∷ []) })

shadowed_marks : marks_of shadowed.packages shadowed.texts [] ≡ shadowed.marks
unfolding passes keyword_spellings is_inline digits
shadowed_marks = refl

shadowed_spelled0 : read_at span_to read_front (lexemes shadowed_t0.tokens) ≡ Some (shadowed_f0, [])
unfolding reading
shadowed_spelled0 = refl

abbrev shadowed_start : Standing
shadowed_start = standing_as_read shadowed.packages shadowed.texts

-- the whole run, with the tokens of the texts
shadowed_inlined : (h0 : TokensOf shadowed_t0.text shadowed_t0.tokens shadowed_t0.comments) → IsInlining the_limits (folder small_module shadowed.texts) shadowed.packages shadowed.texts [] (((codes "main.go"), shadowed_t0) ∷ []) (codes "main.go:10:10: kept example.com/m.Ptr: shadowed: Pointer\n")
unfolding passes keyword_spellings is_inline digits reading
shadowed_inlined h0 = inlining_by the_limits (folder small_module shadowed.texts) shadowed.packages shadowed.texts [] shadowed.marks shadowed_start ([]) (codes "main.go:10:10: kept example.com/m.Ptr: shadowed: Pointer\n") shadowed_marks (module_by (codes "example.com/m") (module_text small_module) (record { path = codes "main.go"; text = shadowed_t0; tree = shadowed_f0; reads = record { scans = h0; spells = file_spelled shadowed_t0.tokens shadowed_f0 shadowed_spelled0 } } ∷ []) (folder small_module shadowed.texts) shadowed.packages shadowed.texts small_module_is refl refl refl refl refl refl refl refl refl) (ends shadowed_start refl) (begins [] shadowed_start) (kept_by ([]) (codes "main.go") shadowed_t0.text shadowed_t0.text [] [] refl refl run.none) refl

shadowed_t0_found : TokensOf shadowed_t0.text shadowed_t0.tokens shadowed_t0.comments
unfolding piece_of lexeme_of longest_from next_of tokens_from comments_from keyword_spellings is_letter is_digit general_category general_category_rows value_in lib.Utf8.encode
shadowed_t0_found = tokens_by shadowed_t0.text shadowed_t0.tokens shadowed_t0.comments refl refl refl

shadowed_run : IsInlining the_limits (folder small_module shadowed.texts) shadowed.packages shadowed.texts [] (((codes "main.go"), shadowed_t0) ∷ []) (codes "main.go:10:10: kept example.com/m.Ptr: shadowed: Pointer\n")
shadowed_run = shadowed_inlined shadowed_t0_found

-- A later member of the group repeats the expression with the use.
abbrev repeated_f0 : File Span
repeated_f0 = record { package_name = (nm 8 12 (codes "main")); imports = []; decls = ((values (const_decl (at 14 31) false (spec (at 20 31) ((nm 20 27 (codes "Pointer")) ∷ []) None (expr_and (int_lit (at 30 31) (codes "1")) no_exprs) no_specs))) ∷ (values (const_decl (at 49 68) false (spec (at 55 68) ((nm 55 58 (codes "Ptr")) ∷ []) None (expr_and (ident (at 61 68) (codes "Pointer")) no_exprs) no_specs))) ∷ (fn (at 70 142) None (nm 75 79 (codes "main")) (sig [] []) (at 82 142) (stmt_and (const_decl (at 85 119) true (spec (at 95 112) ((nm 95 102 (codes "Pointer")) ∷ []) None (expr_and (binary (at 105 112) Add (ident (at 105 108) (codes "Ptr")) (int_lit (at 111 112) (codes "1"))) no_exprs) (spec (at 115 116) ((nm 115 116 (codes "Y")) ∷ []) None no_exprs no_specs))) (stmt_and (eval (at 121 140) (call (at 121 140) (ident (at 121 128) (codes "println")) (expr_and (ident (at 129 136) (codes "Pointer")) (expr_and (ident (at 138 139) (codes "Y")) no_exprs)) Plain)) no_stmts))) ∷ []) }

abbrev repeated : Module
repeated = record { packages = (pack (codes "example.com/m") (codes "main") (source (codes "main.go") repeated_f0 ∷ []) ∷ []); marks = (mark 0 0 1 0 ∷ []); texts = (((codes "main.go"), record { text = (codes "package main\n\nconst Pointer = 1\n\n//go:fix inline\nconst Ptr = Pointer\n\nfunc main() {\n\tconst (\n\t\tPointer = Ptr + 1\n\t\tY\n\t)\n\tprintln(Pointer, Y)\n}\n"); tokens = ((tok Keyword 0 7 (codes "package")) ∷ (tok Ident 8 12 (codes "main")) ∷ (tok Inserted 12 12 (codes ";")) ∷ (tok Keyword 14 19 (codes "const")) ∷ (tok Ident 20 27 (codes "Pointer")) ∷ (tok Operator 28 29 (codes "=")) ∷ (tok Integer 30 31 (codes "1")) ∷ (tok Inserted 31 31 (codes ";")) ∷ (tok Keyword 49 54 (codes "const")) ∷ (tok Ident 55 58 (codes "Ptr")) ∷ (tok Operator 59 60 (codes "=")) ∷ (tok Ident 61 68 (codes "Pointer")) ∷ (tok Inserted 68 68 (codes ";")) ∷ (tok Keyword 70 74 (codes "func")) ∷ (tok Ident 75 79 (codes "main")) ∷ (tok Operator 79 80 (codes "(")) ∷ (tok Operator 80 81 (codes ")")) ∷ (tok Operator 82 83 (codes "{")) ∷ (tok Keyword 85 90 (codes "const")) ∷ (tok Operator 91 92 (codes "(")) ∷ (tok Ident 95 102 (codes "Pointer")) ∷ (tok Operator 103 104 (codes "=")) ∷ (tok Ident 105 108 (codes "Ptr")) ∷ (tok Operator 109 110 (codes "+")) ∷ (tok Integer 111 112 (codes "1")) ∷ (tok Inserted 112 112 (codes ";")) ∷ (tok Ident 115 116 (codes "Y")) ∷ (tok Inserted 116 116 (codes ";")) ∷ (tok Operator 118 119 (codes ")")) ∷ (tok Inserted 119 119 (codes ";")) ∷ (tok Ident 121 128 (codes "println")) ∷ (tok Operator 128 129 (codes "(")) ∷ (tok Ident 129 136 (codes "Pointer")) ∷ (tok Operator 136 137 (codes ",")) ∷ (tok Ident 138 139 (codes "Y")) ∷ (tok Operator 139 140 (codes ")")) ∷ (tok Inserted 140 140 (codes ";")) ∷ (tok Operator 141 142 (codes "}")) ∷ (tok Inserted 142 142 (codes ";")) ∷ []); comments = ((note 33 48) ∷ []) }) ∷ []) }

abbrev repeated_t0 : FileText
repeated_t0 = (record { text = (codes "package main\n\nconst Pointer = 1\n\n//go:fix inline\nconst Ptr = Pointer\n\nfunc main() {\n\tconst (\n\t\tPointer = Ptr + 1\n\t\tY\n\t)\n\tprintln(Pointer, Y)\n}\n"); tokens = ((tok Keyword 0 7 (codes "package")) ∷ (tok Ident 8 12 (codes "main")) ∷ (tok Inserted 12 12 (codes ";")) ∷ (tok Keyword 14 19 (codes "const")) ∷ (tok Ident 20 27 (codes "Pointer")) ∷ (tok Operator 28 29 (codes "=")) ∷ (tok Integer 30 31 (codes "1")) ∷ (tok Inserted 31 31 (codes ";")) ∷ (tok Keyword 49 54 (codes "const")) ∷ (tok Ident 55 58 (codes "Ptr")) ∷ (tok Operator 59 60 (codes "=")) ∷ (tok Ident 61 68 (codes "Pointer")) ∷ (tok Inserted 68 68 (codes ";")) ∷ (tok Keyword 70 74 (codes "func")) ∷ (tok Ident 75 79 (codes "main")) ∷ (tok Operator 79 80 (codes "(")) ∷ (tok Operator 80 81 (codes ")")) ∷ (tok Operator 82 83 (codes "{")) ∷ (tok Keyword 85 90 (codes "const")) ∷ (tok Operator 91 92 (codes "(")) ∷ (tok Ident 95 102 (codes "Pointer")) ∷ (tok Operator 103 104 (codes "=")) ∷ (tok Ident 105 108 (codes "Ptr")) ∷ (tok Operator 109 110 (codes "+")) ∷ (tok Integer 111 112 (codes "1")) ∷ (tok Inserted 112 112 (codes ";")) ∷ (tok Ident 115 116 (codes "Y")) ∷ (tok Inserted 116 116 (codes ";")) ∷ (tok Operator 118 119 (codes ")")) ∷ (tok Inserted 119 119 (codes ";")) ∷ (tok Ident 121 128 (codes "println")) ∷ (tok Operator 128 129 (codes "(")) ∷ (tok Ident 129 136 (codes "Pointer")) ∷ (tok Operator 136 137 (codes ",")) ∷ (tok Ident 138 139 (codes "Y")) ∷ (tok Operator 139 140 (codes ")")) ∷ (tok Inserted 140 140 (codes ";")) ∷ (tok Operator 141 142 (codes "}")) ∷ (tok Inserted 142 142 (codes ";")) ∷ []); comments = ((note 33 48) ∷ []) })

repeated_marks : marks_of repeated.packages repeated.texts [] ≡ repeated.marks
unfolding passes keyword_spellings is_inline digits
repeated_marks = refl

repeated_spelled0 : read_at span_to read_front (lexemes repeated_t0.tokens) ≡ Some (repeated_f0, [])
unfolding reading
repeated_spelled0 = refl

abbrev repeated_start : Standing
repeated_start = standing_as_read repeated.packages repeated.texts

-- the whole run, with the tokens of the texts
repeated_inlined : (h0 : TokensOf repeated_t0.text repeated_t0.tokens repeated_t0.comments) → IsInlining the_limits (folder small_module repeated.texts) repeated.packages repeated.texts [] (((codes "main.go"), repeated_t0) ∷ []) (codes "main.go:10:13: kept example.com/m.Ptr: repeated expression\n")
unfolding passes keyword_spellings is_inline digits reading
repeated_inlined h0 = inlining_by the_limits (folder small_module repeated.texts) repeated.packages repeated.texts [] repeated.marks repeated_start ([]) (codes "main.go:10:13: kept example.com/m.Ptr: repeated expression\n") repeated_marks (module_by (codes "example.com/m") (module_text small_module) (record { path = codes "main.go"; text = repeated_t0; tree = repeated_f0; reads = record { scans = h0; spells = file_spelled repeated_t0.tokens repeated_f0 repeated_spelled0 } } ∷ []) (folder small_module repeated.texts) repeated.packages repeated.texts small_module_is refl refl refl refl refl refl refl refl refl) (ends repeated_start refl) (begins [] repeated_start) (kept_by ([]) (codes "main.go") repeated_t0.text repeated_t0.text [] [] refl refl run.none) refl

repeated_t0_found : TokensOf repeated_t0.text repeated_t0.tokens repeated_t0.comments
unfolding piece_of lexeme_of longest_from next_of tokens_from comments_from keyword_spellings is_letter is_digit general_category general_category_rows value_in lib.Utf8.encode
repeated_t0_found = tokens_by repeated_t0.text repeated_t0.tokens repeated_t0.comments refl refl refl

repeated_run : IsInlining the_limits (folder small_module repeated.texts) repeated.packages repeated.texts [] (((codes "main.go"), repeated_t0) ∷ []) (codes "main.go:10:13: kept example.com/m.Ptr: repeated expression\n")
repeated_run = repeated_inlined repeated_t0_found

-- A mark that means nothing.
abbrev bad_mark_f0 : File Span
bad_mark_f0 = record { package_name = (nm 8 12 (codes "main")); imports = []; decls = ((values (const_decl (at 30 41) false (spec (at 36 41) ((nm 36 37 (codes "X")) ∷ []) None (expr_and (int_lit (at 40 41) (codes "3")) no_exprs) no_specs))) ∷ (fn (at 43 58) None (nm 48 52 (codes "main")) (sig [] []) (at 55 58) no_stmts) ∷ []) }

bad_mark_f0_read : read_at span_to read_front (lexemes ((tok Keyword 0 7 (codes "package")) ∷ (tok Ident 8 12 (codes "main")) ∷ (tok Inserted 12 12 (codes ";")) ∷ (tok Keyword 30 35 (codes "const")) ∷ (tok Ident 36 37 (codes "X")) ∷ (tok Operator 38 39 (codes "=")) ∷ (tok Integer 40 41 (codes "3")) ∷ (tok Inserted 41 41 (codes ";")) ∷ (tok Keyword 43 47 (codes "func")) ∷ (tok Ident 48 52 (codes "main")) ∷ (tok Operator 52 53 (codes "(")) ∷ (tok Operator 53 54 (codes ")")) ∷ (tok Operator 55 56 (codes "{")) ∷ (tok Operator 57 58 (codes "}")) ∷ (tok Inserted 58 58 (codes ";")) ∷ [])) ≡ Some (bad_mark_f0, [])
unfolding reading
bad_mark_f0_read = refl

abbrev bad_mark : Module
bad_mark = record { packages = (pack (codes "example.com/m") (codes "main") (source (codes "main.go") bad_mark_f0 ∷ []) ∷ []); marks = []; texts = (((codes "main.go"), record { text = (codes "package main\n\n//go:fix inline\nconst X = 3\n\nfunc main() {\n}\n"); tokens = ((tok Keyword 0 7 (codes "package")) ∷ (tok Ident 8 12 (codes "main")) ∷ (tok Inserted 12 12 (codes ";")) ∷ (tok Keyword 30 35 (codes "const")) ∷ (tok Ident 36 37 (codes "X")) ∷ (tok Operator 38 39 (codes "=")) ∷ (tok Integer 40 41 (codes "3")) ∷ (tok Inserted 41 41 (codes ";")) ∷ (tok Keyword 43 47 (codes "func")) ∷ (tok Ident 48 52 (codes "main")) ∷ (tok Operator 52 53 (codes "(")) ∷ (tok Operator 53 54 (codes ")")) ∷ (tok Operator 55 56 (codes "{")) ∷ (tok Operator 57 58 (codes "}")) ∷ (tok Inserted 58 58 (codes ";")) ∷ []); comments = ((note 14 29) ∷ []) }) ∷ []) }

abbrev bad_mark_t0 : FileText
bad_mark_t0 = (record { text = (codes "package main\n\n//go:fix inline\nconst X = 3\n\nfunc main() {\n}\n"); tokens = ((tok Keyword 0 7 (codes "package")) ∷ (tok Ident 8 12 (codes "main")) ∷ (tok Inserted 12 12 (codes ";")) ∷ (tok Keyword 30 35 (codes "const")) ∷ (tok Ident 36 37 (codes "X")) ∷ (tok Operator 38 39 (codes "=")) ∷ (tok Integer 40 41 (codes "3")) ∷ (tok Inserted 41 41 (codes ";")) ∷ (tok Keyword 43 47 (codes "func")) ∷ (tok Ident 48 52 (codes "main")) ∷ (tok Operator 52 53 (codes "(")) ∷ (tok Operator 53 54 (codes ")")) ∷ (tok Operator 55 56 (codes "{")) ∷ (tok Operator 57 58 (codes "}")) ∷ (tok Inserted 58 58 (codes ";")) ∷ []); comments = ((note 14 29) ∷ []) })

bad_mark_marks : marks_of bad_mark.packages bad_mark.texts [] ≡ bad_mark.marks
unfolding passes keyword_spellings is_inline digits
bad_mark_marks = refl

bad_mark_spelled0 : read_at span_to read_front (lexemes bad_mark_t0.tokens) ≡ Some (bad_mark_f0, [])
unfolding reading
bad_mark_spelled0 = refl

abbrev bad_mark_start : Standing
bad_mark_start = standing_as_read bad_mark.packages bad_mark.texts

-- the whole run, with the tokens of the texts
bad_mark_inlined : (h0 : TokensOf bad_mark_t0.text bad_mark_t0.tokens bad_mark_t0.comments) → IsInlining the_limits (folder small_module bad_mark.texts) bad_mark.packages bad_mark.texts [] (((codes "main.go"), bad_mark_t0) ∷ []) (codes "main.go:4:7: bad mark: constant is not another named constant\n")
unfolding passes keyword_spellings is_inline digits reading
bad_mark_inlined h0 = inlining_by the_limits (folder small_module bad_mark.texts) bad_mark.packages bad_mark.texts [] bad_mark.marks bad_mark_start ([]) (codes "main.go:4:7: bad mark: constant is not another named constant\n") bad_mark_marks (module_by (codes "example.com/m") (module_text small_module) (record { path = codes "main.go"; text = bad_mark_t0; tree = bad_mark_f0; reads = record { scans = h0; spells = file_spelled bad_mark_t0.tokens bad_mark_f0 bad_mark_spelled0 } } ∷ []) (folder small_module bad_mark.texts) bad_mark.packages bad_mark.texts small_module_is refl refl refl refl refl refl refl refl refl) (ends bad_mark_start refl) (begins [] bad_mark_start) (kept_by ([]) (codes "main.go") bad_mark_t0.text bad_mark_t0.text [] [] refl refl run.none) refl

bad_mark_t0_found : TokensOf bad_mark_t0.text bad_mark_t0.tokens bad_mark_t0.comments
unfolding piece_of lexeme_of longest_from next_of tokens_from comments_from keyword_spellings is_letter is_digit general_category general_category_rows value_in lib.Utf8.encode
bad_mark_t0_found = tokens_by bad_mark_t0.text bad_mark_t0.tokens bad_mark_t0.comments refl refl refl

bad_mark_run : IsInlining the_limits (folder small_module bad_mark.texts) bad_mark.packages bad_mark.texts [] (((codes "main.go"), bad_mark_t0) ∷ []) (codes "main.go:4:7: bad mark: constant is not another named constant\n")
bad_mark_run = bad_mark_inlined bad_mark_t0_found

one_constant_marks_back : one_constant.marks ≡ marks_of one_constant.packages one_constant.texts []
unfolding passes keyword_spellings is_inline digits
one_constant_marks_back = refl

-- where no step is allowed, the first one passes the limit
one_constant_too_large : (h : TokensOf one_constant_new.text one_constant_new.tokens one_constant_new.comments) → IsTooLarge (record the_limits { steps = 0 }) (folder small_module one_constant.texts) one_constant.packages one_constant.texts [] (record { limit = Steps; count = 1; bound = 0 })
unfolding passes keyword_spellings is_inline digits reading one_constant_steps one_constant_next
one_constant_too_large h = too_large_by (record the_limits { steps = 0 }) (folder small_module one_constant.texts) one_constant.packages one_constant.texts [] one_constant.marks (stands_after one_constant.marks one_constant_start (one_constant_steps) one_constant_t0 one_constant_new one_constant_tree) (log_entry one_constant.marks one_constant_start (one_constant_steps) one_constant_t0 one_constant_new one_constant_tree) (record { limit = Steps; count = 1; bound = 0 }) one_constant_marks_back one_constant_run.read (one_constant_next h) refl

one_constant_over : IsTooLarge (record the_limits { steps = 0 }) (folder small_module one_constant.texts) one_constant.packages one_constant.texts [] (record { limit = Steps; count = 1; bound = 0 })
one_constant_over = one_constant_too_large one_constant_new_found

-- no full name begins so
none_marked : marks_of one_constant.packages one_constant.texts (codes "example.com/m/other") ≡ []
unfolding passes keyword_spellings is_inline digits
none_marked = refl

some_marked : marks_of one_constant.packages one_constant.texts (codes "example.com/m.P") ≡ one_constant.marks
unfolding passes keyword_spellings is_inline digits
some_marked = refl

-- its tokens and its imports lie in the text, and the use behind them
one_constant_laid : Laid one_constant_t0.text one_constant_t0.tokens one_constant_f0
one_constant_laid = record { order = stand_so one_constant_t0.text 0 one_constant_t0.tokens refl; name_within = is_at_most 12 (length one_constant_t0.text) refl; name_ends = refl; imports = tt }

one_constant_lies : LiesBehindImports one_constant_t0.text one_constant_t0.tokens one_constant_f0 (at 93 96)
one_constant_lies =
    record {
      token = 14;
      starts = (refl, inr (inr (inr (inl (refl, refl)))));
      name_before = is_at_most 12 14 refl;
      imports_before = tt;
      behind = is_at_most 14 93 refl;
      is_span = is_at_most 93 96 refl;
      within = is_at_most 96 (length one_constant_t0.text) refl;
    }
