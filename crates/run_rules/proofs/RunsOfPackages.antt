-- Runs over packages, whole.
use Rattle.std.proofs.Common.{◌≡◌, refl}
use Rattle.std.specs.Prelude.{true, false, [], ◌∷◌, Some, None, codes}
use Rattle.go_tree.specs.declared.exprs.Rest.TheVariants.{Plain}
use Rattle.go_tree.specs.declared.spans.Span.{Span}
use Rattle.go_tree.specs.declared.tokens.TokenKind.TheVariants.{Ident, Keyword, Operator, Integer, Str, Inserted}
use Rattle.go_tree.specs.declared.operators.BinOp.TheVariants.{Mul}
use Rattle.go_tree.specs.Tree.{named, ident, int_lit, str_lit, selector, call, binary, no_exprs, expr_and, eval, define, return_, no_stmts, stmt_and}
use Rattle.go_tree.specs.File.{File, types}
use Rattle.run_rules.proofs.CaseTools.{at, nm, tok, note, param, sig, imp, imps, tspec, fn, pack, source, mark, Module}
use Rattle.go_layout.specs.SpellsSpans.{span_to}
use Rattle.go_tree.specs.GoWords.Terminals.{lexemes}
use Rattle.go_tree.specs.GoWords.Tokens.Pieces.{keyword_spellings}
use Rattle.go_layout.specs.Goals.{read_front}
use Rattle.go_layout.proofs.Texts.{reading}
use Rattle.run_rules.proofs.CaseTools.{read_at}
use Rattle.directive_scan.specs.Lines.{is_inline}
use Rattle.pkg_graph.specs.ModuleFiles.Internal.{passes}
use Rattle.std.specs.Prelude.{is_some}
use Rattle.run_rules.specs.Texts.{FileText}
use Rattle.run_rules.specs.Steps.{At}
use Rattle.run_rules.specs.Marks.{marks_of}
use Rattle.run_rules.specs.Run.{Standing, Next, step_in, goes_on, ends, the_limits}
use Rattle.run_rules.specs.Run as run
use Rattle.go_layout.proofs.Whole.{file_spelled}
use Rattle.std.specs.Fmt.{digits}
use Rattle.run_rules.specs.Inlining.{standing_as_read, begins, steps_on, IsInlining}
use Rattle.run_rules.proofs.CaseTools.{from, nmf}
use Rattle.run_rules.proofs.Instances.{stands_after, log_entry, next_by, kept_by, inlining_by}
use Rattle.run_rules.proofs.ModulesRead.{module_by, module_text, folder, small_module, small_module_is}
use Rattle.go_tree.specs.GoWords.Tokens.{TokensOf}
use Rattle.ucd_category.specs.GeneralCategory.{general_category}
use Rattle.ucd_category.specs.GeneralCategoryRows.{general_category_rows}
use Rattle.ucd_table.specs.Rows.{value_in}
use Rattle.go_tree.specs.GoWords.Tokens.{tokens_from, comments_from}
use Rattle.go_tree.specs.GoWords.Tokens.Characters.{is_letter, is_digit}
use Rattle.directive_scan.specs.Automaton.{next_of, longest_from}
use Rattle.directive_scan.specs.Pieces.{piece_of, lexeme_of}
use Rattle.run_rules.proofs.TokensFound.{tokens_by}

-- A wrapper of another package: the argument comes from where it stood.
abbrev wrapper_f0 : File Span
wrapper_f0 = record { package_name = (nm 8 12 (codes "main")); imports = ((imps (at 14 40) false ((imp (at 21 40) None (codes "example.com/m/old")) ∷ [])) ∷ []); decls = ((fn (at 42 89) None (nm 47 51 (codes "main")) (sig [] []) (at 54 89) (stmt_and (define (at 57 63) ((nm 57 58 (codes "x")) ∷ []) (expr_and (int_lit (at 62 63) (codes "3")) no_exprs)) (stmt_and (eval (at 65 87) (call (at 65 87) (ident (at 65 72) (codes "println")) (expr_and (call (at 73 86) (selector (at 73 83) (ident (at 73 76) (codes "old")) (nm 77 83 (codes "Square"))) (expr_and (ident (at 84 85) (codes "x")) no_exprs) Plain) no_exprs) Plain)) no_stmts))) ∷ []) }

abbrev wrapper_f1 : File Span
wrapper_f1 = record { package_name = (nm 8 11 (codes "old")); imports = ((imps (at 13 39) false ((imp (at 20 39) None (codes "example.com/m/pow")) ∷ [])) ∷ []); decls = ((fn (at 57 105) None (nm 62 68 (codes "Square")) (sig ((param (at 69 74) (Some (nm 69 70 (codes "x"))) (named (at 71 74) None (nm 71 74 (codes "int")))) ∷ []) ((param (at 76 79) None (named (at 76 79) None (nm 76 79 (codes "int")))) ∷ [])) (at 80 105) (stmt_and (return_ (at 83 103) (expr_and (call (at 90 103) (selector (at 90 97) (ident (at 90 93) (codes "pow")) (nm 94 97 (codes "Pow"))) (expr_and (ident (at 98 99) (codes "x")) (expr_and (int_lit (at 101 102) (codes "2")) no_exprs)) Plain) no_exprs)) no_stmts)) ∷ []) }

abbrev wrapper_f2 : File Span
wrapper_f2 = record { package_name = (nm 8 11 (codes "pow")); imports = []; decls = ((fn (at 13 53) None (nm 18 21 (codes "Pow")) (sig ((param (at 22 30) (Some (nm 22 23 (codes "x"))) (named (at 27 30) None (nm 27 30 (codes "int")))) ∷ (param (at 25 30) (Some (nm 25 26 (codes "n"))) (named (at 27 30) None (nm 27 30 (codes "int")))) ∷ []) ((param (at 32 35) None (named (at 32 35) None (nm 32 35 (codes "int")))) ∷ [])) (at 36 53) (stmt_and (return_ (at 39 51) (expr_and (binary (at 46 51) Mul (ident (at 46 47) (codes "x")) (ident (at 50 51) (codes "n"))) no_exprs)) no_stmts)) ∷ []) }

abbrev wrapper : Module
wrapper = record { packages = (pack (codes "example.com/m") (codes "main") (source (codes "main.go") wrapper_f0 ∷ []) ∷ pack (codes "example.com/m/old") (codes "old") (source (codes "old/old.go") wrapper_f1 ∷ []) ∷ pack (codes "example.com/m/pow") (codes "pow") (source (codes "pow/pow.go") wrapper_f2 ∷ []) ∷ []); marks = (mark 1 0 0 0 ∷ []); texts = (((codes "main.go"), record { text = (codes "package main\n\nimport \"example.com/m/old\"\n\nfunc main() {\n\tx := 3\n\tprintln(old.Square(x))\n}\n"); tokens = ((tok Keyword 0 7 (codes "package")) ∷ (tok Ident 8 12 (codes "main")) ∷ (tok Inserted 12 12 (codes ";")) ∷ (tok Keyword 14 20 (codes "import")) ∷ (tok Str 21 40 (codes "\"example.com/m/old\"")) ∷ (tok Inserted 40 40 (codes ";")) ∷ (tok Keyword 42 46 (codes "func")) ∷ (tok Ident 47 51 (codes "main")) ∷ (tok Operator 51 52 (codes "(")) ∷ (tok Operator 52 53 (codes ")")) ∷ (tok Operator 54 55 (codes "{")) ∷ (tok Ident 57 58 (codes "x")) ∷ (tok Operator 59 61 (codes ":=")) ∷ (tok Integer 62 63 (codes "3")) ∷ (tok Inserted 63 63 (codes ";")) ∷ (tok Ident 65 72 (codes "println")) ∷ (tok Operator 72 73 (codes "(")) ∷ (tok Ident 73 76 (codes "old")) ∷ (tok Operator 76 77 (codes ".")) ∷ (tok Ident 77 83 (codes "Square")) ∷ (tok Operator 83 84 (codes "(")) ∷ (tok Ident 84 85 (codes "x")) ∷ (tok Operator 85 86 (codes ")")) ∷ (tok Operator 86 87 (codes ")")) ∷ (tok Inserted 87 87 (codes ";")) ∷ (tok Operator 88 89 (codes "}")) ∷ (tok Inserted 89 89 (codes ";")) ∷ []); comments = [] }) ∷ ((codes "old/old.go"), record { text = (codes "package old\n\nimport \"example.com/m/pow\"\n\n//go:fix inline\nfunc Square(x int) int {\n\treturn pow.Pow(x, 2)\n}\n"); tokens = ((tok Keyword 0 7 (codes "package")) ∷ (tok Ident 8 11 (codes "old")) ∷ (tok Inserted 11 11 (codes ";")) ∷ (tok Keyword 13 19 (codes "import")) ∷ (tok Str 20 39 (codes "\"example.com/m/pow\"")) ∷ (tok Inserted 39 39 (codes ";")) ∷ (tok Keyword 57 61 (codes "func")) ∷ (tok Ident 62 68 (codes "Square")) ∷ (tok Operator 68 69 (codes "(")) ∷ (tok Ident 69 70 (codes "x")) ∷ (tok Ident 71 74 (codes "int")) ∷ (tok Operator 74 75 (codes ")")) ∷ (tok Ident 76 79 (codes "int")) ∷ (tok Operator 80 81 (codes "{")) ∷ (tok Keyword 83 89 (codes "return")) ∷ (tok Ident 90 93 (codes "pow")) ∷ (tok Operator 93 94 (codes ".")) ∷ (tok Ident 94 97 (codes "Pow")) ∷ (tok Operator 97 98 (codes "(")) ∷ (tok Ident 98 99 (codes "x")) ∷ (tok Operator 99 100 (codes ",")) ∷ (tok Integer 101 102 (codes "2")) ∷ (tok Operator 102 103 (codes ")")) ∷ (tok Inserted 103 103 (codes ";")) ∷ (tok Operator 104 105 (codes "}")) ∷ (tok Inserted 105 105 (codes ";")) ∷ []); comments = ((note 41 56) ∷ []) }) ∷ ((codes "pow/pow.go"), record { text = (codes "package pow\n\nfunc Pow(x, n int) int {\n\treturn x * n\n}\n"); tokens = ((tok Keyword 0 7 (codes "package")) ∷ (tok Ident 8 11 (codes "pow")) ∷ (tok Inserted 11 11 (codes ";")) ∷ (tok Keyword 13 17 (codes "func")) ∷ (tok Ident 18 21 (codes "Pow")) ∷ (tok Operator 21 22 (codes "(")) ∷ (tok Ident 22 23 (codes "x")) ∷ (tok Operator 23 24 (codes ",")) ∷ (tok Ident 25 26 (codes "n")) ∷ (tok Ident 27 30 (codes "int")) ∷ (tok Operator 30 31 (codes ")")) ∷ (tok Ident 32 35 (codes "int")) ∷ (tok Operator 36 37 (codes "{")) ∷ (tok Keyword 39 45 (codes "return")) ∷ (tok Ident 46 47 (codes "x")) ∷ (tok Operator 48 49 (codes "*")) ∷ (tok Ident 50 51 (codes "n")) ∷ (tok Inserted 51 51 (codes ";")) ∷ (tok Operator 52 53 (codes "}")) ∷ (tok Inserted 53 53 (codes ";")) ∷ []); comments = [] }) ∷ []) }

abbrev wrapper_t0 : FileText
wrapper_t0 = (record { text = (codes "package main\n\nimport \"example.com/m/old\"\n\nfunc main() {\n\tx := 3\n\tprintln(old.Square(x))\n}\n"); tokens = ((tok Keyword 0 7 (codes "package")) ∷ (tok Ident 8 12 (codes "main")) ∷ (tok Inserted 12 12 (codes ";")) ∷ (tok Keyword 14 20 (codes "import")) ∷ (tok Str 21 40 (codes "\"example.com/m/old\"")) ∷ (tok Inserted 40 40 (codes ";")) ∷ (tok Keyword 42 46 (codes "func")) ∷ (tok Ident 47 51 (codes "main")) ∷ (tok Operator 51 52 (codes "(")) ∷ (tok Operator 52 53 (codes ")")) ∷ (tok Operator 54 55 (codes "{")) ∷ (tok Ident 57 58 (codes "x")) ∷ (tok Operator 59 61 (codes ":=")) ∷ (tok Integer 62 63 (codes "3")) ∷ (tok Inserted 63 63 (codes ";")) ∷ (tok Ident 65 72 (codes "println")) ∷ (tok Operator 72 73 (codes "(")) ∷ (tok Ident 73 76 (codes "old")) ∷ (tok Operator 76 77 (codes ".")) ∷ (tok Ident 77 83 (codes "Square")) ∷ (tok Operator 83 84 (codes "(")) ∷ (tok Ident 84 85 (codes "x")) ∷ (tok Operator 85 86 (codes ")")) ∷ (tok Operator 86 87 (codes ")")) ∷ (tok Inserted 87 87 (codes ";")) ∷ (tok Operator 88 89 (codes "}")) ∷ (tok Inserted 89 89 (codes ";")) ∷ []); comments = [] })

abbrev wrapper_t1 : FileText
wrapper_t1 = (record { text = (codes "package old\n\nimport \"example.com/m/pow\"\n\n//go:fix inline\nfunc Square(x int) int {\n\treturn pow.Pow(x, 2)\n}\n"); tokens = ((tok Keyword 0 7 (codes "package")) ∷ (tok Ident 8 11 (codes "old")) ∷ (tok Inserted 11 11 (codes ";")) ∷ (tok Keyword 13 19 (codes "import")) ∷ (tok Str 20 39 (codes "\"example.com/m/pow\"")) ∷ (tok Inserted 39 39 (codes ";")) ∷ (tok Keyword 57 61 (codes "func")) ∷ (tok Ident 62 68 (codes "Square")) ∷ (tok Operator 68 69 (codes "(")) ∷ (tok Ident 69 70 (codes "x")) ∷ (tok Ident 71 74 (codes "int")) ∷ (tok Operator 74 75 (codes ")")) ∷ (tok Ident 76 79 (codes "int")) ∷ (tok Operator 80 81 (codes "{")) ∷ (tok Keyword 83 89 (codes "return")) ∷ (tok Ident 90 93 (codes "pow")) ∷ (tok Operator 93 94 (codes ".")) ∷ (tok Ident 94 97 (codes "Pow")) ∷ (tok Operator 97 98 (codes "(")) ∷ (tok Ident 98 99 (codes "x")) ∷ (tok Operator 99 100 (codes ",")) ∷ (tok Integer 101 102 (codes "2")) ∷ (tok Operator 102 103 (codes ")")) ∷ (tok Inserted 103 103 (codes ";")) ∷ (tok Operator 104 105 (codes "}")) ∷ (tok Inserted 105 105 (codes ";")) ∷ []); comments = ((note 41 56) ∷ []) })

abbrev wrapper_t2 : FileText
wrapper_t2 = (record { text = (codes "package pow\n\nfunc Pow(x, n int) int {\n\treturn x * n\n}\n"); tokens = ((tok Keyword 0 7 (codes "package")) ∷ (tok Ident 8 11 (codes "pow")) ∷ (tok Inserted 11 11 (codes ";")) ∷ (tok Keyword 13 17 (codes "func")) ∷ (tok Ident 18 21 (codes "Pow")) ∷ (tok Operator 21 22 (codes "(")) ∷ (tok Ident 22 23 (codes "x")) ∷ (tok Operator 23 24 (codes ",")) ∷ (tok Ident 25 26 (codes "n")) ∷ (tok Ident 27 30 (codes "int")) ∷ (tok Operator 30 31 (codes ")")) ∷ (tok Ident 32 35 (codes "int")) ∷ (tok Operator 36 37 (codes "{")) ∷ (tok Keyword 39 45 (codes "return")) ∷ (tok Ident 46 47 (codes "x")) ∷ (tok Operator 48 49 (codes "*")) ∷ (tok Ident 50 51 (codes "n")) ∷ (tok Inserted 51 51 (codes ";")) ∷ (tok Operator 52 53 (codes "}")) ∷ (tok Inserted 53 53 (codes ";")) ∷ []); comments = [] })

wrapper_marks : marks_of wrapper.packages wrapper.texts [] ≡ wrapper.marks
unfolding passes keyword_spellings is_inline digits
wrapper_marks = refl

wrapper_spelled0 : read_at span_to read_front (lexemes wrapper_t0.tokens) ≡ Some (wrapper_f0, [])
unfolding reading
wrapper_spelled0 = refl

wrapper_spelled1 : read_at span_to read_front (lexemes wrapper_t1.tokens) ≡ Some (wrapper_f1, [])
unfolding reading
wrapper_spelled1 = refl

wrapper_spelled2 : read_at span_to read_front (lexemes wrapper_t2.tokens) ≡ Some (wrapper_f2, [])
unfolding reading
wrapper_spelled2 = refl

abbrev wrapper_start : Standing
wrapper_start = standing_as_read wrapper.packages wrapper.texts

abbrev wrapper_new : FileText
wrapper_new = (record { text = (codes "package main\n\nimport \"example.com/m/pow\"\n\nfunc main() {\n\tx := 3\n\tprintln(pow.Pow(x, 2))\n}\n"); tokens = ((tok Keyword 0 7 (codes "package")) ∷ (tok Ident 8 12 (codes "main")) ∷ (tok Inserted 12 12 (codes ";")) ∷ (tok Keyword 14 20 (codes "import")) ∷ (tok Str 21 40 (codes "\"example.com/m/pow\"")) ∷ (tok Inserted 40 40 (codes ";")) ∷ (tok Keyword 42 46 (codes "func")) ∷ (tok Ident 47 51 (codes "main")) ∷ (tok Operator 51 52 (codes "(")) ∷ (tok Operator 52 53 (codes ")")) ∷ (tok Operator 54 55 (codes "{")) ∷ (tok Ident 57 58 (codes "x")) ∷ (tok Operator 59 61 (codes ":=")) ∷ (tok Integer 62 63 (codes "3")) ∷ (tok Inserted 63 63 (codes ";")) ∷ (tok Ident 65 72 (codes "println")) ∷ (tok Operator 72 73 (codes "(")) ∷ (tok Ident 73 76 (codes "pow")) ∷ (tok Operator 76 77 (codes ".")) ∷ (tok Ident 77 80 (codes "Pow")) ∷ (tok Operator 80 81 (codes "(")) ∷ (tok Ident 81 82 (codes "x")) ∷ (tok Operator 82 83 (codes ",")) ∷ (tok Integer 84 85 (codes "2")) ∷ (tok Operator 85 86 (codes ")")) ∷ (tok Operator 86 87 (codes ")")) ∷ (tok Inserted 87 87 (codes ";")) ∷ (tok Operator 88 89 (codes "}")) ∷ (tok Inserted 89 89 (codes ";")) ∷ []); comments = [] })

abbrev wrapper_tree : File At
wrapper_tree = record { package_name = (nmf 8 12 8 12 (codes "main")); imports = ((imps (from 14 40 14 40) false ((imp (from 21 40 21 40) None (codes "example.com/m/pow")) ∷ [])) ∷ []); decls = ((fn (from 42 89 42 89) None (nmf 47 51 47 51 (codes "main")) (sig [] []) (from 54 89 54 89) (stmt_and (define (from 57 63 57 63) ((nmf 57 58 57 58 (codes "x")) ∷ []) (expr_and (int_lit (from 62 63 62 63) (codes "3")) no_exprs)) (stmt_and (eval (from 65 87 65 87) (call (from 65 87 65 87) (ident (from 65 72 65 72) (codes "println")) (expr_and (call (from 73 86 73 86) (selector (from 73 80 73 86) (ident (from 73 76 73 86) (codes "pow")) (nmf 77 80 73 86 (codes "Pow"))) (expr_and (ident (from 81 82 84 85) (codes "x")) (expr_and (int_lit (from 84 85 73 86) (codes "2")) no_exprs)) Plain) no_exprs) Plain)) no_stmts))) ∷ []) }

wrapper_steps : is_some (step_in wrapper.marks wrapper_start) ≡ true
unfolding passes keyword_spellings is_inline digits
wrapper_steps = refl

abbrev wrapper_next : TokensOf wrapper_new.text wrapper_new.tokens wrapper_new.comments → Next wrapper.marks wrapper_start (log_entry wrapper.marks wrapper_start (wrapper_steps) wrapper_t0 wrapper_new wrapper_tree) (stands_after wrapper.marks wrapper_start (wrapper_steps) wrapper_t0 wrapper_new wrapper_tree)
unfolding passes keyword_spellings is_inline digits reading wrapper_steps
wrapper_next h = next_by wrapper.marks wrapper_start (wrapper_steps) wrapper_t0 wrapper_new wrapper_tree refl refl h refl refl

-- the whole run, with the tokens of the texts
wrapper_inlined : (h0 : TokensOf wrapper_t0.text wrapper_t0.tokens wrapper_t0.comments) (h1 : TokensOf wrapper_t1.text wrapper_t1.tokens wrapper_t1.comments) (h2 : TokensOf wrapper_t2.text wrapper_t2.tokens wrapper_t2.comments) (h : TokensOf wrapper_new.text wrapper_new.tokens wrapper_new.comments) → IsInlining the_limits (folder small_module wrapper.texts) wrapper.packages wrapper.texts [] (((codes "main.go"), wrapper_new) ∷ ((codes "old/old.go"), wrapper_t1) ∷ ((codes "pow/pow.go"), wrapper_t2) ∷ []) (codes "main.go:7:10: inlined example.com/m/old.Square as expr\n")
unfolding passes keyword_spellings is_inline digits reading wrapper_steps wrapper_next
wrapper_inlined h0 h1 h2 h = inlining_by the_limits (folder small_module wrapper.texts) wrapper.packages wrapper.texts [] wrapper.marks (stands_after wrapper.marks wrapper_start (wrapper_steps) wrapper_t0 wrapper_new wrapper_tree) (log_entry wrapper.marks wrapper_start (wrapper_steps) wrapper_t0 wrapper_new wrapper_tree ∷ []) (codes "main.go:7:10: inlined example.com/m/old.Square as expr\n") wrapper_marks (module_by (codes "example.com/m") (module_text small_module) (record { path = codes "main.go"; text = wrapper_t0; tree = wrapper_f0; reads = record { scans = h0; spells = file_spelled wrapper_t0.tokens wrapper_f0 wrapper_spelled0 } } ∷ record { path = codes "old/old.go"; text = wrapper_t1; tree = wrapper_f1; reads = record { scans = h1; spells = file_spelled wrapper_t1.tokens wrapper_f1 wrapper_spelled1 } } ∷ record { path = codes "pow/pow.go"; text = wrapper_t2; tree = wrapper_f2; reads = record { scans = h2; spells = file_spelled wrapper_t2.tokens wrapper_f2 wrapper_spelled2 } } ∷ []) (folder small_module wrapper.texts) wrapper.packages wrapper.texts small_module_is refl refl refl refl refl refl refl refl refl) (goes_on wrapper_start (stands_after wrapper.marks wrapper_start (wrapper_steps) wrapper_t0 wrapper_new wrapper_tree) (stands_after wrapper.marks wrapper_start (wrapper_steps) wrapper_t0 wrapper_new wrapper_tree) (log_entry wrapper.marks wrapper_start (wrapper_steps) wrapper_t0 wrapper_new wrapper_tree) [] (wrapper_next h) (ends (stands_after wrapper.marks wrapper_start (wrapper_steps) wrapper_t0 wrapper_new wrapper_tree) refl)) (steps_on [] [] (log_entry wrapper.marks wrapper_start (wrapper_steps) wrapper_t0 wrapper_new wrapper_tree) wrapper_start (stands_after wrapper.marks wrapper_start (wrapper_steps) wrapper_t0 wrapper_new wrapper_tree) (stands_after wrapper.marks wrapper_start (wrapper_steps) wrapper_t0 wrapper_new wrapper_tree) (wrapper_next h) refl (begins (log_entry wrapper.marks wrapper_start (wrapper_steps) wrapper_t0 wrapper_new wrapper_tree ∷ []) (stands_after wrapper.marks wrapper_start (wrapper_steps) wrapper_t0 wrapper_new wrapper_tree))) (kept_by (log_entry wrapper.marks wrapper_start (wrapper_steps) wrapper_t0 wrapper_new wrapper_tree ∷ []) (codes "main.go") wrapper_t0.text wrapper_new.text (((codes "old/old.go"), wrapper_t1.text) ∷ ((codes "pow/pow.go"), wrapper_t2.text) ∷ []) (((codes "old/old.go"), wrapper_t1.text) ∷ ((codes "pow/pow.go"), wrapper_t2.text) ∷ []) refl refl (kept_by (log_entry wrapper.marks wrapper_start (wrapper_steps) wrapper_t0 wrapper_new wrapper_tree ∷ []) (codes "old/old.go") wrapper_t1.text wrapper_t1.text (((codes "pow/pow.go"), wrapper_t2.text) ∷ []) (((codes "pow/pow.go"), wrapper_t2.text) ∷ []) refl refl (kept_by (log_entry wrapper.marks wrapper_start (wrapper_steps) wrapper_t0 wrapper_new wrapper_tree ∷ []) (codes "pow/pow.go") wrapper_t2.text wrapper_t2.text [] [] refl refl run.none))) refl

wrapper_t0_found : TokensOf wrapper_t0.text wrapper_t0.tokens wrapper_t0.comments
unfolding piece_of lexeme_of longest_from next_of tokens_from comments_from keyword_spellings is_letter is_digit general_category general_category_rows value_in lib.Utf8.encode
wrapper_t0_found = tokens_by wrapper_t0.text wrapper_t0.tokens wrapper_t0.comments refl refl refl

wrapper_t1_found : TokensOf wrapper_t1.text wrapper_t1.tokens wrapper_t1.comments
unfolding piece_of lexeme_of longest_from next_of tokens_from comments_from keyword_spellings is_letter is_digit general_category general_category_rows value_in lib.Utf8.encode
wrapper_t1_found = tokens_by wrapper_t1.text wrapper_t1.tokens wrapper_t1.comments refl refl refl

wrapper_t2_found : TokensOf wrapper_t2.text wrapper_t2.tokens wrapper_t2.comments
unfolding piece_of lexeme_of longest_from next_of tokens_from comments_from keyword_spellings is_letter is_digit general_category general_category_rows value_in lib.Utf8.encode
wrapper_t2_found = tokens_by wrapper_t2.text wrapper_t2.tokens wrapper_t2.comments refl refl refl

wrapper_new_found : TokensOf wrapper_new.text wrapper_new.tokens wrapper_new.comments
unfolding piece_of lexeme_of longest_from next_of tokens_from comments_from keyword_spellings is_letter is_digit general_category general_category_rows value_in lib.Utf8.encode
wrapper_new_found = tokens_by wrapper_new.text wrapper_new.tokens wrapper_new.comments refl refl refl

wrapper_run : IsInlining the_limits (folder small_module wrapper.texts) wrapper.packages wrapper.texts [] (((codes "main.go"), wrapper_new) ∷ ((codes "old/old.go"), wrapper_t1) ∷ ((codes "pow/pow.go"), wrapper_t2) ∷ []) (codes "main.go:7:10: inlined example.com/m/old.Square as expr\n")
wrapper_run = wrapper_inlined wrapper_t0_found wrapper_t1_found wrapper_t2_found wrapper_new_found

-- A comment inside the call.
abbrev inner_comment_f0 : File Span
inner_comment_f0 = record { package_name = (nm 8 12 (codes "main")); imports = ((imps (at 14 40) false ((imp (at 21 40) None (codes "example.com/m/old")) ∷ [])) ∷ []); decls = ((fn (at 42 99) None (nm 47 51 (codes "main")) (sig [] []) (at 54 99) (stmt_and (define (at 57 63) ((nm 57 58 (codes "x")) ∷ []) (expr_and (int_lit (at 62 63) (codes "3")) no_exprs)) (stmt_and (eval (at 65 97) (call (at 65 97) (ident (at 65 72) (codes "println")) (expr_and (call (at 73 96) (selector (at 73 83) (ident (at 73 76) (codes "old")) (nm 77 83 (codes "Square"))) (expr_and (ident (at 84 85) (codes "x")) no_exprs) Plain) no_exprs) Plain)) no_stmts))) ∷ []) }

abbrev inner_comment_f1 : File Span
inner_comment_f1 = record { package_name = (nm 8 11 (codes "old")); imports = ((imps (at 13 39) false ((imp (at 20 39) None (codes "example.com/m/pow")) ∷ [])) ∷ []); decls = ((fn (at 57 105) None (nm 62 68 (codes "Square")) (sig ((param (at 69 74) (Some (nm 69 70 (codes "x"))) (named (at 71 74) None (nm 71 74 (codes "int")))) ∷ []) ((param (at 76 79) None (named (at 76 79) None (nm 76 79 (codes "int")))) ∷ [])) (at 80 105) (stmt_and (return_ (at 83 103) (expr_and (call (at 90 103) (selector (at 90 97) (ident (at 90 93) (codes "pow")) (nm 94 97 (codes "Pow"))) (expr_and (ident (at 98 99) (codes "x")) (expr_and (int_lit (at 101 102) (codes "2")) no_exprs)) Plain) no_exprs)) no_stmts)) ∷ []) }

abbrev inner_comment_f2 : File Span
inner_comment_f2 = record { package_name = (nm 8 11 (codes "pow")); imports = []; decls = ((fn (at 13 53) None (nm 18 21 (codes "Pow")) (sig ((param (at 22 30) (Some (nm 22 23 (codes "x"))) (named (at 27 30) None (nm 27 30 (codes "int")))) ∷ (param (at 25 30) (Some (nm 25 26 (codes "n"))) (named (at 27 30) None (nm 27 30 (codes "int")))) ∷ []) ((param (at 32 35) None (named (at 32 35) None (nm 32 35 (codes "int")))) ∷ [])) (at 36 53) (stmt_and (return_ (at 39 51) (expr_and (binary (at 46 51) Mul (ident (at 46 47) (codes "x")) (ident (at 50 51) (codes "n"))) no_exprs)) no_stmts)) ∷ []) }

abbrev inner_comment : Module
inner_comment = record { packages = (pack (codes "example.com/m") (codes "main") (source (codes "main.go") inner_comment_f0 ∷ []) ∷ pack (codes "example.com/m/old") (codes "old") (source (codes "old/old.go") inner_comment_f1 ∷ []) ∷ pack (codes "example.com/m/pow") (codes "pow") (source (codes "pow/pow.go") inner_comment_f2 ∷ []) ∷ []); marks = (mark 1 0 0 0 ∷ []); texts = (((codes "main.go"), record { text = (codes "package main\n\nimport \"example.com/m/old\"\n\nfunc main() {\n\tx := 3\n\tprintln(old.Square(x /* why */))\n}\n"); tokens = ((tok Keyword 0 7 (codes "package")) ∷ (tok Ident 8 12 (codes "main")) ∷ (tok Inserted 12 12 (codes ";")) ∷ (tok Keyword 14 20 (codes "import")) ∷ (tok Str 21 40 (codes "\"example.com/m/old\"")) ∷ (tok Inserted 40 40 (codes ";")) ∷ (tok Keyword 42 46 (codes "func")) ∷ (tok Ident 47 51 (codes "main")) ∷ (tok Operator 51 52 (codes "(")) ∷ (tok Operator 52 53 (codes ")")) ∷ (tok Operator 54 55 (codes "{")) ∷ (tok Ident 57 58 (codes "x")) ∷ (tok Operator 59 61 (codes ":=")) ∷ (tok Integer 62 63 (codes "3")) ∷ (tok Inserted 63 63 (codes ";")) ∷ (tok Ident 65 72 (codes "println")) ∷ (tok Operator 72 73 (codes "(")) ∷ (tok Ident 73 76 (codes "old")) ∷ (tok Operator 76 77 (codes ".")) ∷ (tok Ident 77 83 (codes "Square")) ∷ (tok Operator 83 84 (codes "(")) ∷ (tok Ident 84 85 (codes "x")) ∷ (tok Operator 95 96 (codes ")")) ∷ (tok Operator 96 97 (codes ")")) ∷ (tok Inserted 97 97 (codes ";")) ∷ (tok Operator 98 99 (codes "}")) ∷ (tok Inserted 99 99 (codes ";")) ∷ []); comments = ((note 86 95) ∷ []) }) ∷ ((codes "old/old.go"), record { text = (codes "package old\n\nimport \"example.com/m/pow\"\n\n//go:fix inline\nfunc Square(x int) int {\n\treturn pow.Pow(x, 2)\n}\n"); tokens = ((tok Keyword 0 7 (codes "package")) ∷ (tok Ident 8 11 (codes "old")) ∷ (tok Inserted 11 11 (codes ";")) ∷ (tok Keyword 13 19 (codes "import")) ∷ (tok Str 20 39 (codes "\"example.com/m/pow\"")) ∷ (tok Inserted 39 39 (codes ";")) ∷ (tok Keyword 57 61 (codes "func")) ∷ (tok Ident 62 68 (codes "Square")) ∷ (tok Operator 68 69 (codes "(")) ∷ (tok Ident 69 70 (codes "x")) ∷ (tok Ident 71 74 (codes "int")) ∷ (tok Operator 74 75 (codes ")")) ∷ (tok Ident 76 79 (codes "int")) ∷ (tok Operator 80 81 (codes "{")) ∷ (tok Keyword 83 89 (codes "return")) ∷ (tok Ident 90 93 (codes "pow")) ∷ (tok Operator 93 94 (codes ".")) ∷ (tok Ident 94 97 (codes "Pow")) ∷ (tok Operator 97 98 (codes "(")) ∷ (tok Ident 98 99 (codes "x")) ∷ (tok Operator 99 100 (codes ",")) ∷ (tok Integer 101 102 (codes "2")) ∷ (tok Operator 102 103 (codes ")")) ∷ (tok Inserted 103 103 (codes ";")) ∷ (tok Operator 104 105 (codes "}")) ∷ (tok Inserted 105 105 (codes ";")) ∷ []); comments = ((note 41 56) ∷ []) }) ∷ ((codes "pow/pow.go"), record { text = (codes "package pow\n\nfunc Pow(x, n int) int {\n\treturn x * n\n}\n"); tokens = ((tok Keyword 0 7 (codes "package")) ∷ (tok Ident 8 11 (codes "pow")) ∷ (tok Inserted 11 11 (codes ";")) ∷ (tok Keyword 13 17 (codes "func")) ∷ (tok Ident 18 21 (codes "Pow")) ∷ (tok Operator 21 22 (codes "(")) ∷ (tok Ident 22 23 (codes "x")) ∷ (tok Operator 23 24 (codes ",")) ∷ (tok Ident 25 26 (codes "n")) ∷ (tok Ident 27 30 (codes "int")) ∷ (tok Operator 30 31 (codes ")")) ∷ (tok Ident 32 35 (codes "int")) ∷ (tok Operator 36 37 (codes "{")) ∷ (tok Keyword 39 45 (codes "return")) ∷ (tok Ident 46 47 (codes "x")) ∷ (tok Operator 48 49 (codes "*")) ∷ (tok Ident 50 51 (codes "n")) ∷ (tok Inserted 51 51 (codes ";")) ∷ (tok Operator 52 53 (codes "}")) ∷ (tok Inserted 53 53 (codes ";")) ∷ []); comments = [] }) ∷ []) }

abbrev inner_comment_t0 : FileText
inner_comment_t0 = (record { text = (codes "package main\n\nimport \"example.com/m/old\"\n\nfunc main() {\n\tx := 3\n\tprintln(old.Square(x /* why */))\n}\n"); tokens = ((tok Keyword 0 7 (codes "package")) ∷ (tok Ident 8 12 (codes "main")) ∷ (tok Inserted 12 12 (codes ";")) ∷ (tok Keyword 14 20 (codes "import")) ∷ (tok Str 21 40 (codes "\"example.com/m/old\"")) ∷ (tok Inserted 40 40 (codes ";")) ∷ (tok Keyword 42 46 (codes "func")) ∷ (tok Ident 47 51 (codes "main")) ∷ (tok Operator 51 52 (codes "(")) ∷ (tok Operator 52 53 (codes ")")) ∷ (tok Operator 54 55 (codes "{")) ∷ (tok Ident 57 58 (codes "x")) ∷ (tok Operator 59 61 (codes ":=")) ∷ (tok Integer 62 63 (codes "3")) ∷ (tok Inserted 63 63 (codes ";")) ∷ (tok Ident 65 72 (codes "println")) ∷ (tok Operator 72 73 (codes "(")) ∷ (tok Ident 73 76 (codes "old")) ∷ (tok Operator 76 77 (codes ".")) ∷ (tok Ident 77 83 (codes "Square")) ∷ (tok Operator 83 84 (codes "(")) ∷ (tok Ident 84 85 (codes "x")) ∷ (tok Operator 95 96 (codes ")")) ∷ (tok Operator 96 97 (codes ")")) ∷ (tok Inserted 97 97 (codes ";")) ∷ (tok Operator 98 99 (codes "}")) ∷ (tok Inserted 99 99 (codes ";")) ∷ []); comments = ((note 86 95) ∷ []) })

abbrev inner_comment_t1 : FileText
inner_comment_t1 = (record { text = (codes "package old\n\nimport \"example.com/m/pow\"\n\n//go:fix inline\nfunc Square(x int) int {\n\treturn pow.Pow(x, 2)\n}\n"); tokens = ((tok Keyword 0 7 (codes "package")) ∷ (tok Ident 8 11 (codes "old")) ∷ (tok Inserted 11 11 (codes ";")) ∷ (tok Keyword 13 19 (codes "import")) ∷ (tok Str 20 39 (codes "\"example.com/m/pow\"")) ∷ (tok Inserted 39 39 (codes ";")) ∷ (tok Keyword 57 61 (codes "func")) ∷ (tok Ident 62 68 (codes "Square")) ∷ (tok Operator 68 69 (codes "(")) ∷ (tok Ident 69 70 (codes "x")) ∷ (tok Ident 71 74 (codes "int")) ∷ (tok Operator 74 75 (codes ")")) ∷ (tok Ident 76 79 (codes "int")) ∷ (tok Operator 80 81 (codes "{")) ∷ (tok Keyword 83 89 (codes "return")) ∷ (tok Ident 90 93 (codes "pow")) ∷ (tok Operator 93 94 (codes ".")) ∷ (tok Ident 94 97 (codes "Pow")) ∷ (tok Operator 97 98 (codes "(")) ∷ (tok Ident 98 99 (codes "x")) ∷ (tok Operator 99 100 (codes ",")) ∷ (tok Integer 101 102 (codes "2")) ∷ (tok Operator 102 103 (codes ")")) ∷ (tok Inserted 103 103 (codes ";")) ∷ (tok Operator 104 105 (codes "}")) ∷ (tok Inserted 105 105 (codes ";")) ∷ []); comments = ((note 41 56) ∷ []) })

abbrev inner_comment_t2 : FileText
inner_comment_t2 = (record { text = (codes "package pow\n\nfunc Pow(x, n int) int {\n\treturn x * n\n}\n"); tokens = ((tok Keyword 0 7 (codes "package")) ∷ (tok Ident 8 11 (codes "pow")) ∷ (tok Inserted 11 11 (codes ";")) ∷ (tok Keyword 13 17 (codes "func")) ∷ (tok Ident 18 21 (codes "Pow")) ∷ (tok Operator 21 22 (codes "(")) ∷ (tok Ident 22 23 (codes "x")) ∷ (tok Operator 23 24 (codes ",")) ∷ (tok Ident 25 26 (codes "n")) ∷ (tok Ident 27 30 (codes "int")) ∷ (tok Operator 30 31 (codes ")")) ∷ (tok Ident 32 35 (codes "int")) ∷ (tok Operator 36 37 (codes "{")) ∷ (tok Keyword 39 45 (codes "return")) ∷ (tok Ident 46 47 (codes "x")) ∷ (tok Operator 48 49 (codes "*")) ∷ (tok Ident 50 51 (codes "n")) ∷ (tok Inserted 51 51 (codes ";")) ∷ (tok Operator 52 53 (codes "}")) ∷ (tok Inserted 53 53 (codes ";")) ∷ []); comments = [] })

inner_comment_marks : marks_of inner_comment.packages inner_comment.texts [] ≡ inner_comment.marks
unfolding passes keyword_spellings is_inline digits
inner_comment_marks = refl

inner_comment_spelled0 : read_at span_to read_front (lexemes inner_comment_t0.tokens) ≡ Some (inner_comment_f0, [])
unfolding reading
inner_comment_spelled0 = refl

inner_comment_spelled1 : read_at span_to read_front (lexemes inner_comment_t1.tokens) ≡ Some (inner_comment_f1, [])
unfolding reading
inner_comment_spelled1 = refl

inner_comment_spelled2 : read_at span_to read_front (lexemes inner_comment_t2.tokens) ≡ Some (inner_comment_f2, [])
unfolding reading
inner_comment_spelled2 = refl

abbrev inner_comment_start : Standing
inner_comment_start = standing_as_read inner_comment.packages inner_comment.texts

-- the whole run, with the tokens of the texts
inner_comment_inlined : (h0 : TokensOf inner_comment_t0.text inner_comment_t0.tokens inner_comment_t0.comments) (h1 : TokensOf inner_comment_t1.text inner_comment_t1.tokens inner_comment_t1.comments) (h2 : TokensOf inner_comment_t2.text inner_comment_t2.tokens inner_comment_t2.comments) → IsInlining the_limits (folder small_module inner_comment.texts) inner_comment.packages inner_comment.texts [] (((codes "main.go"), inner_comment_t0) ∷ ((codes "old/old.go"), inner_comment_t1) ∷ ((codes "pow/pow.go"), inner_comment_t2) ∷ []) (codes "main.go:7:10: kept example.com/m/old.Square: comment inside\n")
unfolding passes keyword_spellings is_inline digits reading
inner_comment_inlined h0 h1 h2 = inlining_by the_limits (folder small_module inner_comment.texts) inner_comment.packages inner_comment.texts [] inner_comment.marks inner_comment_start ([]) (codes "main.go:7:10: kept example.com/m/old.Square: comment inside\n") inner_comment_marks (module_by (codes "example.com/m") (module_text small_module) (record { path = codes "main.go"; text = inner_comment_t0; tree = inner_comment_f0; reads = record { scans = h0; spells = file_spelled inner_comment_t0.tokens inner_comment_f0 inner_comment_spelled0 } } ∷ record { path = codes "old/old.go"; text = inner_comment_t1; tree = inner_comment_f1; reads = record { scans = h1; spells = file_spelled inner_comment_t1.tokens inner_comment_f1 inner_comment_spelled1 } } ∷ record { path = codes "pow/pow.go"; text = inner_comment_t2; tree = inner_comment_f2; reads = record { scans = h2; spells = file_spelled inner_comment_t2.tokens inner_comment_f2 inner_comment_spelled2 } } ∷ []) (folder small_module inner_comment.texts) inner_comment.packages inner_comment.texts small_module_is refl refl refl refl refl refl refl refl refl) (ends inner_comment_start refl) (begins [] inner_comment_start) (kept_by ([]) (codes "main.go") inner_comment_t0.text inner_comment_t0.text (((codes "old/old.go"), inner_comment_t1.text) ∷ ((codes "pow/pow.go"), inner_comment_t2.text) ∷ []) (((codes "old/old.go"), inner_comment_t1.text) ∷ ((codes "pow/pow.go"), inner_comment_t2.text) ∷ []) refl refl (kept_by ([]) (codes "old/old.go") inner_comment_t1.text inner_comment_t1.text (((codes "pow/pow.go"), inner_comment_t2.text) ∷ []) (((codes "pow/pow.go"), inner_comment_t2.text) ∷ []) refl refl (kept_by ([]) (codes "pow/pow.go") inner_comment_t2.text inner_comment_t2.text [] [] refl refl run.none))) refl

inner_comment_t0_found : TokensOf inner_comment_t0.text inner_comment_t0.tokens inner_comment_t0.comments
unfolding piece_of lexeme_of longest_from next_of tokens_from comments_from keyword_spellings is_letter is_digit general_category general_category_rows value_in lib.Utf8.encode
inner_comment_t0_found = tokens_by inner_comment_t0.text inner_comment_t0.tokens inner_comment_t0.comments refl refl refl

inner_comment_t1_found : TokensOf inner_comment_t1.text inner_comment_t1.tokens inner_comment_t1.comments
unfolding piece_of lexeme_of longest_from next_of tokens_from comments_from keyword_spellings is_letter is_digit general_category general_category_rows value_in lib.Utf8.encode
inner_comment_t1_found = tokens_by inner_comment_t1.text inner_comment_t1.tokens inner_comment_t1.comments refl refl refl

inner_comment_t2_found : TokensOf inner_comment_t2.text inner_comment_t2.tokens inner_comment_t2.comments
unfolding piece_of lexeme_of longest_from next_of tokens_from comments_from keyword_spellings is_letter is_digit general_category general_category_rows value_in lib.Utf8.encode
inner_comment_t2_found = tokens_by inner_comment_t2.text inner_comment_t2.tokens inner_comment_t2.comments refl refl refl

inner_comment_run : IsInlining the_limits (folder small_module inner_comment.texts) inner_comment.packages inner_comment.texts [] (((codes "main.go"), inner_comment_t0) ∷ ((codes "old/old.go"), inner_comment_t1) ∷ ((codes "pow/pow.go"), inner_comment_t2) ∷ []) (codes "main.go:7:10: kept example.com/m/old.Square: comment inside\n")
inner_comment_run = inner_comment_inlined inner_comment_t0_found inner_comment_t1_found inner_comment_t2_found

-- A predeclared name means a variable at the use.
abbrev shadowed_word_f0 : File Span
shadowed_word_f0 = record { package_name = (nm 8 12 (codes "main")); imports = ((imps (at 14 40) false ((imp (at 21 40) None (codes "example.com/m/old")) ∷ [])) ∷ []); decls = ((fn (at 42 97) None (nm 47 51 (codes "main")) (sig [] []) (at 54 97) (stmt_and (define (at 57 65) ((nm 57 60 (codes "len")) ∷ []) (expr_and (int_lit (at 64 65) (codes "2")) no_exprs)) (stmt_and (eval (at 67 95) (call (at 67 95) (ident (at 67 74) (codes "println")) (expr_and (call (at 75 89) (selector (at 75 83) (ident (at 75 78) (codes "old")) (nm 79 83 (codes "Size"))) (expr_and (str_lit (at 84 88) (codes "\"ab\"")) no_exprs) Plain) (expr_and (ident (at 91 94) (codes "len")) no_exprs)) Plain)) no_stmts))) ∷ []) }

abbrev shadowed_word_f1 : File Span
shadowed_word_f1 = record { package_name = (nm 8 11 (codes "old")); imports = []; decls = ((fn (at 29 71) None (nm 34 38 (codes "Size")) (sig ((param (at 39 47) (Some (nm 39 40 (codes "s"))) (named (at 41 47) None (nm 41 47 (codes "string")))) ∷ []) ((param (at 49 52) None (named (at 49 52) None (nm 49 52 (codes "int")))) ∷ [])) (at 53 71) (stmt_and (return_ (at 56 69) (expr_and (call (at 63 69) (ident (at 63 66) (codes "len")) (expr_and (ident (at 67 68) (codes "s")) no_exprs) Plain) no_exprs)) no_stmts)) ∷ []) }

abbrev shadowed_word : Module
shadowed_word = record { packages = (pack (codes "example.com/m") (codes "main") (source (codes "main.go") shadowed_word_f0 ∷ []) ∷ pack (codes "example.com/m/old") (codes "old") (source (codes "old/old.go") shadowed_word_f1 ∷ []) ∷ []); marks = (mark 1 0 0 0 ∷ []); texts = (((codes "main.go"), record { text = (codes "package main\n\nimport \"example.com/m/old\"\n\nfunc main() {\n\tlen := 2\n\tprintln(old.Size(\"ab\"), len)\n}\n"); tokens = ((tok Keyword 0 7 (codes "package")) ∷ (tok Ident 8 12 (codes "main")) ∷ (tok Inserted 12 12 (codes ";")) ∷ (tok Keyword 14 20 (codes "import")) ∷ (tok Str 21 40 (codes "\"example.com/m/old\"")) ∷ (tok Inserted 40 40 (codes ";")) ∷ (tok Keyword 42 46 (codes "func")) ∷ (tok Ident 47 51 (codes "main")) ∷ (tok Operator 51 52 (codes "(")) ∷ (tok Operator 52 53 (codes ")")) ∷ (tok Operator 54 55 (codes "{")) ∷ (tok Ident 57 60 (codes "len")) ∷ (tok Operator 61 63 (codes ":=")) ∷ (tok Integer 64 65 (codes "2")) ∷ (tok Inserted 65 65 (codes ";")) ∷ (tok Ident 67 74 (codes "println")) ∷ (tok Operator 74 75 (codes "(")) ∷ (tok Ident 75 78 (codes "old")) ∷ (tok Operator 78 79 (codes ".")) ∷ (tok Ident 79 83 (codes "Size")) ∷ (tok Operator 83 84 (codes "(")) ∷ (tok Str 84 88 (codes "\"ab\"")) ∷ (tok Operator 88 89 (codes ")")) ∷ (tok Operator 89 90 (codes ",")) ∷ (tok Ident 91 94 (codes "len")) ∷ (tok Operator 94 95 (codes ")")) ∷ (tok Inserted 95 95 (codes ";")) ∷ (tok Operator 96 97 (codes "}")) ∷ (tok Inserted 97 97 (codes ";")) ∷ []); comments = [] }) ∷ ((codes "old/old.go"), record { text = (codes "package old\n\n//go:fix inline\nfunc Size(s string) int {\n\treturn len(s)\n}\n"); tokens = ((tok Keyword 0 7 (codes "package")) ∷ (tok Ident 8 11 (codes "old")) ∷ (tok Inserted 11 11 (codes ";")) ∷ (tok Keyword 29 33 (codes "func")) ∷ (tok Ident 34 38 (codes "Size")) ∷ (tok Operator 38 39 (codes "(")) ∷ (tok Ident 39 40 (codes "s")) ∷ (tok Ident 41 47 (codes "string")) ∷ (tok Operator 47 48 (codes ")")) ∷ (tok Ident 49 52 (codes "int")) ∷ (tok Operator 53 54 (codes "{")) ∷ (tok Keyword 56 62 (codes "return")) ∷ (tok Ident 63 66 (codes "len")) ∷ (tok Operator 66 67 (codes "(")) ∷ (tok Ident 67 68 (codes "s")) ∷ (tok Operator 68 69 (codes ")")) ∷ (tok Inserted 69 69 (codes ";")) ∷ (tok Operator 70 71 (codes "}")) ∷ (tok Inserted 71 71 (codes ";")) ∷ []); comments = ((note 13 28) ∷ []) }) ∷ []) }

abbrev shadowed_word_t0 : FileText
shadowed_word_t0 = (record { text = (codes "package main\n\nimport \"example.com/m/old\"\n\nfunc main() {\n\tlen := 2\n\tprintln(old.Size(\"ab\"), len)\n}\n"); tokens = ((tok Keyword 0 7 (codes "package")) ∷ (tok Ident 8 12 (codes "main")) ∷ (tok Inserted 12 12 (codes ";")) ∷ (tok Keyword 14 20 (codes "import")) ∷ (tok Str 21 40 (codes "\"example.com/m/old\"")) ∷ (tok Inserted 40 40 (codes ";")) ∷ (tok Keyword 42 46 (codes "func")) ∷ (tok Ident 47 51 (codes "main")) ∷ (tok Operator 51 52 (codes "(")) ∷ (tok Operator 52 53 (codes ")")) ∷ (tok Operator 54 55 (codes "{")) ∷ (tok Ident 57 60 (codes "len")) ∷ (tok Operator 61 63 (codes ":=")) ∷ (tok Integer 64 65 (codes "2")) ∷ (tok Inserted 65 65 (codes ";")) ∷ (tok Ident 67 74 (codes "println")) ∷ (tok Operator 74 75 (codes "(")) ∷ (tok Ident 75 78 (codes "old")) ∷ (tok Operator 78 79 (codes ".")) ∷ (tok Ident 79 83 (codes "Size")) ∷ (tok Operator 83 84 (codes "(")) ∷ (tok Str 84 88 (codes "\"ab\"")) ∷ (tok Operator 88 89 (codes ")")) ∷ (tok Operator 89 90 (codes ",")) ∷ (tok Ident 91 94 (codes "len")) ∷ (tok Operator 94 95 (codes ")")) ∷ (tok Inserted 95 95 (codes ";")) ∷ (tok Operator 96 97 (codes "}")) ∷ (tok Inserted 97 97 (codes ";")) ∷ []); comments = [] })

abbrev shadowed_word_t1 : FileText
shadowed_word_t1 = (record { text = (codes "package old\n\n//go:fix inline\nfunc Size(s string) int {\n\treturn len(s)\n}\n"); tokens = ((tok Keyword 0 7 (codes "package")) ∷ (tok Ident 8 11 (codes "old")) ∷ (tok Inserted 11 11 (codes ";")) ∷ (tok Keyword 29 33 (codes "func")) ∷ (tok Ident 34 38 (codes "Size")) ∷ (tok Operator 38 39 (codes "(")) ∷ (tok Ident 39 40 (codes "s")) ∷ (tok Ident 41 47 (codes "string")) ∷ (tok Operator 47 48 (codes ")")) ∷ (tok Ident 49 52 (codes "int")) ∷ (tok Operator 53 54 (codes "{")) ∷ (tok Keyword 56 62 (codes "return")) ∷ (tok Ident 63 66 (codes "len")) ∷ (tok Operator 66 67 (codes "(")) ∷ (tok Ident 67 68 (codes "s")) ∷ (tok Operator 68 69 (codes ")")) ∷ (tok Inserted 69 69 (codes ";")) ∷ (tok Operator 70 71 (codes "}")) ∷ (tok Inserted 71 71 (codes ";")) ∷ []); comments = ((note 13 28) ∷ []) })

shadowed_word_marks : marks_of shadowed_word.packages shadowed_word.texts [] ≡ shadowed_word.marks
unfolding passes keyword_spellings is_inline digits
shadowed_word_marks = refl

shadowed_word_spelled0 : read_at span_to read_front (lexemes shadowed_word_t0.tokens) ≡ Some (shadowed_word_f0, [])
unfolding reading
shadowed_word_spelled0 = refl

shadowed_word_spelled1 : read_at span_to read_front (lexemes shadowed_word_t1.tokens) ≡ Some (shadowed_word_f1, [])
unfolding reading
shadowed_word_spelled1 = refl

abbrev shadowed_word_start : Standing
shadowed_word_start = standing_as_read shadowed_word.packages shadowed_word.texts

-- the whole run, with the tokens of the texts
shadowed_word_inlined : (h0 : TokensOf shadowed_word_t0.text shadowed_word_t0.tokens shadowed_word_t0.comments) (h1 : TokensOf shadowed_word_t1.text shadowed_word_t1.tokens shadowed_word_t1.comments) → IsInlining the_limits (folder small_module shadowed_word.texts) shadowed_word.packages shadowed_word.texts [] (((codes "main.go"), shadowed_word_t0) ∷ ((codes "old/old.go"), shadowed_word_t1) ∷ []) (codes "main.go:7:10: kept example.com/m/old.Size: shadowed: len\n")
unfolding passes keyword_spellings is_inline digits reading
shadowed_word_inlined h0 h1 = inlining_by the_limits (folder small_module shadowed_word.texts) shadowed_word.packages shadowed_word.texts [] shadowed_word.marks shadowed_word_start ([]) (codes "main.go:7:10: kept example.com/m/old.Size: shadowed: len\n") shadowed_word_marks (module_by (codes "example.com/m") (module_text small_module) (record { path = codes "main.go"; text = shadowed_word_t0; tree = shadowed_word_f0; reads = record { scans = h0; spells = file_spelled shadowed_word_t0.tokens shadowed_word_f0 shadowed_word_spelled0 } } ∷ record { path = codes "old/old.go"; text = shadowed_word_t1; tree = shadowed_word_f1; reads = record { scans = h1; spells = file_spelled shadowed_word_t1.tokens shadowed_word_f1 shadowed_word_spelled1 } } ∷ []) (folder small_module shadowed_word.texts) shadowed_word.packages shadowed_word.texts small_module_is refl refl refl refl refl refl refl refl refl) (ends shadowed_word_start refl) (begins [] shadowed_word_start) (kept_by ([]) (codes "main.go") shadowed_word_t0.text shadowed_word_t0.text (((codes "old/old.go"), shadowed_word_t1.text) ∷ []) (((codes "old/old.go"), shadowed_word_t1.text) ∷ []) refl refl (kept_by ([]) (codes "old/old.go") shadowed_word_t1.text shadowed_word_t1.text [] [] refl refl run.none)) refl

shadowed_word_t0_found : TokensOf shadowed_word_t0.text shadowed_word_t0.tokens shadowed_word_t0.comments
unfolding piece_of lexeme_of longest_from next_of tokens_from comments_from keyword_spellings is_letter is_digit general_category general_category_rows value_in lib.Utf8.encode
shadowed_word_t0_found = tokens_by shadowed_word_t0.text shadowed_word_t0.tokens shadowed_word_t0.comments refl refl refl

shadowed_word_t1_found : TokensOf shadowed_word_t1.text shadowed_word_t1.tokens shadowed_word_t1.comments
unfolding piece_of lexeme_of longest_from next_of tokens_from comments_from keyword_spellings is_letter is_digit general_category general_category_rows value_in lib.Utf8.encode
shadowed_word_t1_found = tokens_by shadowed_word_t1.text shadowed_word_t1.tokens shadowed_word_t1.comments refl refl refl

shadowed_word_run : IsInlining the_limits (folder small_module shadowed_word.texts) shadowed_word.packages shadowed_word.texts [] (((codes "main.go"), shadowed_word_t0) ∷ ((codes "old/old.go"), shadowed_word_t1) ∷ []) (codes "main.go:7:10: kept example.com/m/old.Size: shadowed: len\n")
shadowed_word_run = shadowed_word_inlined shadowed_word_t0_found shadowed_word_t1_found

-- A name that is not exported.
abbrev hidden_helper_f0 : File Span
hidden_helper_f0 = record { package_name = (nm 8 12 (codes "main")); imports = ((imps (at 14 40) false ((imp (at 21 40) None (codes "example.com/m/old")) ∷ [])) ∷ []); decls = ((fn (at 42 77) None (nm 47 51 (codes "main")) (sig [] []) (at 54 77) (stmt_and (eval (at 57 75) (call (at 57 75) (ident (at 57 64) (codes "println")) (expr_and (call (at 65 74) (selector (at 65 71) (ident (at 65 68) (codes "old")) (nm 69 71 (codes "Do"))) (expr_and (int_lit (at 72 73) (codes "1")) no_exprs) Plain) no_exprs) Plain)) no_stmts)) ∷ []) }

abbrev hidden_helper_f1 : File Span
hidden_helper_f1 = record { package_name = (nm 8 11 (codes "old")); imports = []; decls = ((fn (at 13 49) None (nm 18 24 (codes "helper")) (sig ((param (at 25 30) (Some (nm 25 26 (codes "x"))) (named (at 27 30) None (nm 27 30 (codes "int")))) ∷ []) ((param (at 32 35) None (named (at 32 35) None (nm 32 35 (codes "int")))) ∷ [])) (at 36 49) (stmt_and (return_ (at 39 47) (expr_and (ident (at 46 47) (codes "x")) no_exprs)) no_stmts)) ∷ (fn (at 67 107) None (nm 72 74 (codes "Do")) (sig ((param (at 75 80) (Some (nm 75 76 (codes "x"))) (named (at 77 80) None (nm 77 80 (codes "int")))) ∷ []) ((param (at 82 85) None (named (at 82 85) None (nm 82 85 (codes "int")))) ∷ [])) (at 86 107) (stmt_and (return_ (at 89 105) (expr_and (call (at 96 105) (ident (at 96 102) (codes "helper")) (expr_and (ident (at 103 104) (codes "x")) no_exprs) Plain) no_exprs)) no_stmts)) ∷ []) }

abbrev hidden_helper : Module
hidden_helper = record { packages = (pack (codes "example.com/m") (codes "main") (source (codes "main.go") hidden_helper_f0 ∷ []) ∷ pack (codes "example.com/m/old") (codes "old") (source (codes "old/old.go") hidden_helper_f1 ∷ []) ∷ []); marks = (mark 1 0 1 0 ∷ []); texts = (((codes "main.go"), record { text = (codes "package main\n\nimport \"example.com/m/old\"\n\nfunc main() {\n\tprintln(old.Do(1))\n}\n"); tokens = ((tok Keyword 0 7 (codes "package")) ∷ (tok Ident 8 12 (codes "main")) ∷ (tok Inserted 12 12 (codes ";")) ∷ (tok Keyword 14 20 (codes "import")) ∷ (tok Str 21 40 (codes "\"example.com/m/old\"")) ∷ (tok Inserted 40 40 (codes ";")) ∷ (tok Keyword 42 46 (codes "func")) ∷ (tok Ident 47 51 (codes "main")) ∷ (tok Operator 51 52 (codes "(")) ∷ (tok Operator 52 53 (codes ")")) ∷ (tok Operator 54 55 (codes "{")) ∷ (tok Ident 57 64 (codes "println")) ∷ (tok Operator 64 65 (codes "(")) ∷ (tok Ident 65 68 (codes "old")) ∷ (tok Operator 68 69 (codes ".")) ∷ (tok Ident 69 71 (codes "Do")) ∷ (tok Operator 71 72 (codes "(")) ∷ (tok Integer 72 73 (codes "1")) ∷ (tok Operator 73 74 (codes ")")) ∷ (tok Operator 74 75 (codes ")")) ∷ (tok Inserted 75 75 (codes ";")) ∷ (tok Operator 76 77 (codes "}")) ∷ (tok Inserted 77 77 (codes ";")) ∷ []); comments = [] }) ∷ ((codes "old/old.go"), record { text = (codes "package old\n\nfunc helper(x int) int {\n\treturn x\n}\n\n//go:fix inline\nfunc Do(x int) int {\n\treturn helper(x)\n}\n"); tokens = ((tok Keyword 0 7 (codes "package")) ∷ (tok Ident 8 11 (codes "old")) ∷ (tok Inserted 11 11 (codes ";")) ∷ (tok Keyword 13 17 (codes "func")) ∷ (tok Ident 18 24 (codes "helper")) ∷ (tok Operator 24 25 (codes "(")) ∷ (tok Ident 25 26 (codes "x")) ∷ (tok Ident 27 30 (codes "int")) ∷ (tok Operator 30 31 (codes ")")) ∷ (tok Ident 32 35 (codes "int")) ∷ (tok Operator 36 37 (codes "{")) ∷ (tok Keyword 39 45 (codes "return")) ∷ (tok Ident 46 47 (codes "x")) ∷ (tok Inserted 47 47 (codes ";")) ∷ (tok Operator 48 49 (codes "}")) ∷ (tok Inserted 49 49 (codes ";")) ∷ (tok Keyword 67 71 (codes "func")) ∷ (tok Ident 72 74 (codes "Do")) ∷ (tok Operator 74 75 (codes "(")) ∷ (tok Ident 75 76 (codes "x")) ∷ (tok Ident 77 80 (codes "int")) ∷ (tok Operator 80 81 (codes ")")) ∷ (tok Ident 82 85 (codes "int")) ∷ (tok Operator 86 87 (codes "{")) ∷ (tok Keyword 89 95 (codes "return")) ∷ (tok Ident 96 102 (codes "helper")) ∷ (tok Operator 102 103 (codes "(")) ∷ (tok Ident 103 104 (codes "x")) ∷ (tok Operator 104 105 (codes ")")) ∷ (tok Inserted 105 105 (codes ";")) ∷ (tok Operator 106 107 (codes "}")) ∷ (tok Inserted 107 107 (codes ";")) ∷ []); comments = ((note 51 66) ∷ []) }) ∷ []) }

abbrev hidden_helper_t0 : FileText
hidden_helper_t0 = (record { text = (codes "package main\n\nimport \"example.com/m/old\"\n\nfunc main() {\n\tprintln(old.Do(1))\n}\n"); tokens = ((tok Keyword 0 7 (codes "package")) ∷ (tok Ident 8 12 (codes "main")) ∷ (tok Inserted 12 12 (codes ";")) ∷ (tok Keyword 14 20 (codes "import")) ∷ (tok Str 21 40 (codes "\"example.com/m/old\"")) ∷ (tok Inserted 40 40 (codes ";")) ∷ (tok Keyword 42 46 (codes "func")) ∷ (tok Ident 47 51 (codes "main")) ∷ (tok Operator 51 52 (codes "(")) ∷ (tok Operator 52 53 (codes ")")) ∷ (tok Operator 54 55 (codes "{")) ∷ (tok Ident 57 64 (codes "println")) ∷ (tok Operator 64 65 (codes "(")) ∷ (tok Ident 65 68 (codes "old")) ∷ (tok Operator 68 69 (codes ".")) ∷ (tok Ident 69 71 (codes "Do")) ∷ (tok Operator 71 72 (codes "(")) ∷ (tok Integer 72 73 (codes "1")) ∷ (tok Operator 73 74 (codes ")")) ∷ (tok Operator 74 75 (codes ")")) ∷ (tok Inserted 75 75 (codes ";")) ∷ (tok Operator 76 77 (codes "}")) ∷ (tok Inserted 77 77 (codes ";")) ∷ []); comments = [] })

abbrev hidden_helper_t1 : FileText
hidden_helper_t1 = (record { text = (codes "package old\n\nfunc helper(x int) int {\n\treturn x\n}\n\n//go:fix inline\nfunc Do(x int) int {\n\treturn helper(x)\n}\n"); tokens = ((tok Keyword 0 7 (codes "package")) ∷ (tok Ident 8 11 (codes "old")) ∷ (tok Inserted 11 11 (codes ";")) ∷ (tok Keyword 13 17 (codes "func")) ∷ (tok Ident 18 24 (codes "helper")) ∷ (tok Operator 24 25 (codes "(")) ∷ (tok Ident 25 26 (codes "x")) ∷ (tok Ident 27 30 (codes "int")) ∷ (tok Operator 30 31 (codes ")")) ∷ (tok Ident 32 35 (codes "int")) ∷ (tok Operator 36 37 (codes "{")) ∷ (tok Keyword 39 45 (codes "return")) ∷ (tok Ident 46 47 (codes "x")) ∷ (tok Inserted 47 47 (codes ";")) ∷ (tok Operator 48 49 (codes "}")) ∷ (tok Inserted 49 49 (codes ";")) ∷ (tok Keyword 67 71 (codes "func")) ∷ (tok Ident 72 74 (codes "Do")) ∷ (tok Operator 74 75 (codes "(")) ∷ (tok Ident 75 76 (codes "x")) ∷ (tok Ident 77 80 (codes "int")) ∷ (tok Operator 80 81 (codes ")")) ∷ (tok Ident 82 85 (codes "int")) ∷ (tok Operator 86 87 (codes "{")) ∷ (tok Keyword 89 95 (codes "return")) ∷ (tok Ident 96 102 (codes "helper")) ∷ (tok Operator 102 103 (codes "(")) ∷ (tok Ident 103 104 (codes "x")) ∷ (tok Operator 104 105 (codes ")")) ∷ (tok Inserted 105 105 (codes ";")) ∷ (tok Operator 106 107 (codes "}")) ∷ (tok Inserted 107 107 (codes ";")) ∷ []); comments = ((note 51 66) ∷ []) })

hidden_helper_marks : marks_of hidden_helper.packages hidden_helper.texts [] ≡ hidden_helper.marks
unfolding passes keyword_spellings is_inline digits
hidden_helper_marks = refl

hidden_helper_spelled0 : read_at span_to read_front (lexemes hidden_helper_t0.tokens) ≡ Some (hidden_helper_f0, [])
unfolding reading
hidden_helper_spelled0 = refl

hidden_helper_spelled1 : read_at span_to read_front (lexemes hidden_helper_t1.tokens) ≡ Some (hidden_helper_f1, [])
unfolding reading
hidden_helper_spelled1 = refl

abbrev hidden_helper_start : Standing
hidden_helper_start = standing_as_read hidden_helper.packages hidden_helper.texts

-- the whole run, with the tokens of the texts
hidden_helper_inlined : (h0 : TokensOf hidden_helper_t0.text hidden_helper_t0.tokens hidden_helper_t0.comments) (h1 : TokensOf hidden_helper_t1.text hidden_helper_t1.tokens hidden_helper_t1.comments) → IsInlining the_limits (folder small_module hidden_helper.texts) hidden_helper.packages hidden_helper.texts [] (((codes "main.go"), hidden_helper_t0) ∷ ((codes "old/old.go"), hidden_helper_t1) ∷ []) (codes "main.go:6:10: kept example.com/m/old.Do: not accessible: helper\n")
unfolding passes keyword_spellings is_inline digits reading
hidden_helper_inlined h0 h1 = inlining_by the_limits (folder small_module hidden_helper.texts) hidden_helper.packages hidden_helper.texts [] hidden_helper.marks hidden_helper_start ([]) (codes "main.go:6:10: kept example.com/m/old.Do: not accessible: helper\n") hidden_helper_marks (module_by (codes "example.com/m") (module_text small_module) (record { path = codes "main.go"; text = hidden_helper_t0; tree = hidden_helper_f0; reads = record { scans = h0; spells = file_spelled hidden_helper_t0.tokens hidden_helper_f0 hidden_helper_spelled0 } } ∷ record { path = codes "old/old.go"; text = hidden_helper_t1; tree = hidden_helper_f1; reads = record { scans = h1; spells = file_spelled hidden_helper_t1.tokens hidden_helper_f1 hidden_helper_spelled1 } } ∷ []) (folder small_module hidden_helper.texts) hidden_helper.packages hidden_helper.texts small_module_is refl refl refl refl refl refl refl refl refl) (ends hidden_helper_start refl) (begins [] hidden_helper_start) (kept_by ([]) (codes "main.go") hidden_helper_t0.text hidden_helper_t0.text (((codes "old/old.go"), hidden_helper_t1.text) ∷ []) (((codes "old/old.go"), hidden_helper_t1.text) ∷ []) refl refl (kept_by ([]) (codes "old/old.go") hidden_helper_t1.text hidden_helper_t1.text [] [] refl refl run.none)) refl

hidden_helper_t0_found : TokensOf hidden_helper_t0.text hidden_helper_t0.tokens hidden_helper_t0.comments
unfolding piece_of lexeme_of longest_from next_of tokens_from comments_from keyword_spellings is_letter is_digit general_category general_category_rows value_in lib.Utf8.encode
hidden_helper_t0_found = tokens_by hidden_helper_t0.text hidden_helper_t0.tokens hidden_helper_t0.comments refl refl refl

hidden_helper_t1_found : TokensOf hidden_helper_t1.text hidden_helper_t1.tokens hidden_helper_t1.comments
unfolding piece_of lexeme_of longest_from next_of tokens_from comments_from keyword_spellings is_letter is_digit general_category general_category_rows value_in lib.Utf8.encode
hidden_helper_t1_found = tokens_by hidden_helper_t1.text hidden_helper_t1.tokens hidden_helper_t1.comments refl refl refl

hidden_helper_run : IsInlining the_limits (folder small_module hidden_helper.texts) hidden_helper.packages hidden_helper.texts [] (((codes "main.go"), hidden_helper_t0) ∷ ((codes "old/old.go"), hidden_helper_t1) ∷ []) (codes "main.go:6:10: kept example.com/m/old.Do: not accessible: helper\n")
hidden_helper_run = hidden_helper_inlined hidden_helper_t0_found hidden_helper_t1_found

-- A type that two parameters share is one use.

abbrev shared_type_f0 : File Span
shared_type_f0 = record { package_name = (nm 8 12 (codes "main")); imports = ((imps (at 14 40) false ((imp (at 21 40) None (codes "example.com/m/old")) ∷ [])) ∷ []); decls = ((fn (at 42 92) None (nm 47 51 (codes "show")) (sig ((param (at 52 62) (Some (nm 52 53 (codes "a"))) (named (at 57 62) (Some (nm 57 60 (codes "old"))) (nm 61 62 (codes "A")))) ∷ (param (at 55 62) (Some (nm 55 56 (codes "b"))) (named (at 57 62) (Some (nm 57 60 (codes "old"))) (nm 61 62 (codes "A")))) ∷ []) []) (at 64 92) (stmt_and (eval (at 67 90) (call (at 67 90) (ident (at 67 74) (codes "println")) (expr_and (call (at 75 81) (ident (at 75 78) (codes "int")) (expr_and (ident (at 79 80) (codes "a")) no_exprs) Plain) (expr_and (call (at 83 89) (ident (at 83 86) (codes "int")) (expr_and (ident (at 87 88) (codes "b")) no_exprs) Plain) no_exprs)) Plain)) no_stmts)) ∷ (fn (at 94 121) None (nm 99 103 (codes "main")) (sig [] []) (at 106 121) (stmt_and (eval (at 109 119) (call (at 109 119) (ident (at 109 113) (codes "show")) (expr_and (int_lit (at 114 115) (codes "1")) (expr_and (int_lit (at 117 118) (codes "2")) no_exprs)) Plain)) no_stmts)) ∷ []) }

abbrev shared_type_f1 : File Span
shared_type_f1 = record { package_name = (nm 8 11 (codes "old")); imports = []; decls = ((types (at 13 28) false ((tspec (at 18 28) (nm 18 24 (codes "hidden")) false (named (at 25 28) None (nm 25 28 (codes "int")))) ∷ [])) ∷ (types (at 46 61) false ((tspec (at 51 61) (nm 51 52 (codes "A")) true (named (at 55 61) None (nm 55 61 (codes "hidden")))) ∷ [])) ∷ []) }

abbrev shared_type : Module
shared_type = record { packages = (pack (codes "example.com/m") (codes "main") (source (codes "main.go") shared_type_f0 ∷ []) ∷ pack (codes "example.com/m/old") (codes "old") (source (codes "old/old.go") shared_type_f1 ∷ []) ∷ []); marks = (mark 1 0 1 0 ∷ []); texts = (((codes "main.go"), record { text = (codes "package main\n\nimport \"example.com/m/old\"\n\nfunc show(a, b old.A) {\n\tprintln(int(a), int(b))\n}\n\nfunc main() {\n\tshow(1, 2)\n}\n"); tokens = ((tok Keyword 0 7 (codes "package")) ∷ (tok Ident 8 12 (codes "main")) ∷ (tok Inserted 12 12 (codes ";")) ∷ (tok Keyword 14 20 (codes "import")) ∷ (tok Str 21 40 (codes "\"example.com/m/old\"")) ∷ (tok Inserted 40 40 (codes ";")) ∷ (tok Keyword 42 46 (codes "func")) ∷ (tok Ident 47 51 (codes "show")) ∷ (tok Operator 51 52 (codes "(")) ∷ (tok Ident 52 53 (codes "a")) ∷ (tok Operator 53 54 (codes ",")) ∷ (tok Ident 55 56 (codes "b")) ∷ (tok Ident 57 60 (codes "old")) ∷ (tok Operator 60 61 (codes ".")) ∷ (tok Ident 61 62 (codes "A")) ∷ (tok Operator 62 63 (codes ")")) ∷ (tok Operator 64 65 (codes "{")) ∷ (tok Ident 67 74 (codes "println")) ∷ (tok Operator 74 75 (codes "(")) ∷ (tok Ident 75 78 (codes "int")) ∷ (tok Operator 78 79 (codes "(")) ∷ (tok Ident 79 80 (codes "a")) ∷ (tok Operator 80 81 (codes ")")) ∷ (tok Operator 81 82 (codes ",")) ∷ (tok Ident 83 86 (codes "int")) ∷ (tok Operator 86 87 (codes "(")) ∷ (tok Ident 87 88 (codes "b")) ∷ (tok Operator 88 89 (codes ")")) ∷ (tok Operator 89 90 (codes ")")) ∷ (tok Inserted 90 90 (codes ";")) ∷ (tok Operator 91 92 (codes "}")) ∷ (tok Inserted 92 92 (codes ";")) ∷ (tok Keyword 94 98 (codes "func")) ∷ (tok Ident 99 103 (codes "main")) ∷ (tok Operator 103 104 (codes "(")) ∷ (tok Operator 104 105 (codes ")")) ∷ (tok Operator 106 107 (codes "{")) ∷ (tok Ident 109 113 (codes "show")) ∷ (tok Operator 113 114 (codes "(")) ∷ (tok Integer 114 115 (codes "1")) ∷ (tok Operator 115 116 (codes ",")) ∷ (tok Integer 117 118 (codes "2")) ∷ (tok Operator 118 119 (codes ")")) ∷ (tok Inserted 119 119 (codes ";")) ∷ (tok Operator 120 121 (codes "}")) ∷ (tok Inserted 121 121 (codes ";")) ∷ []); comments = [] }) ∷ ((codes "old/old.go"), record { text = (codes "package old\n\ntype hidden int\n\n//go:fix inline\ntype A = hidden\n"); tokens = ((tok Keyword 0 7 (codes "package")) ∷ (tok Ident 8 11 (codes "old")) ∷ (tok Inserted 11 11 (codes ";")) ∷ (tok Keyword 13 17 (codes "type")) ∷ (tok Ident 18 24 (codes "hidden")) ∷ (tok Ident 25 28 (codes "int")) ∷ (tok Inserted 28 28 (codes ";")) ∷ (tok Keyword 46 50 (codes "type")) ∷ (tok Ident 51 52 (codes "A")) ∷ (tok Operator 53 54 (codes "=")) ∷ (tok Ident 55 61 (codes "hidden")) ∷ (tok Inserted 61 61 (codes ";")) ∷ []); comments = ((note 30 45) ∷ []) }) ∷ []) }

abbrev shared_type_t0 : FileText
shared_type_t0 = (record { text = (codes "package main\n\nimport \"example.com/m/old\"\n\nfunc show(a, b old.A) {\n\tprintln(int(a), int(b))\n}\n\nfunc main() {\n\tshow(1, 2)\n}\n"); tokens = ((tok Keyword 0 7 (codes "package")) ∷ (tok Ident 8 12 (codes "main")) ∷ (tok Inserted 12 12 (codes ";")) ∷ (tok Keyword 14 20 (codes "import")) ∷ (tok Str 21 40 (codes "\"example.com/m/old\"")) ∷ (tok Inserted 40 40 (codes ";")) ∷ (tok Keyword 42 46 (codes "func")) ∷ (tok Ident 47 51 (codes "show")) ∷ (tok Operator 51 52 (codes "(")) ∷ (tok Ident 52 53 (codes "a")) ∷ (tok Operator 53 54 (codes ",")) ∷ (tok Ident 55 56 (codes "b")) ∷ (tok Ident 57 60 (codes "old")) ∷ (tok Operator 60 61 (codes ".")) ∷ (tok Ident 61 62 (codes "A")) ∷ (tok Operator 62 63 (codes ")")) ∷ (tok Operator 64 65 (codes "{")) ∷ (tok Ident 67 74 (codes "println")) ∷ (tok Operator 74 75 (codes "(")) ∷ (tok Ident 75 78 (codes "int")) ∷ (tok Operator 78 79 (codes "(")) ∷ (tok Ident 79 80 (codes "a")) ∷ (tok Operator 80 81 (codes ")")) ∷ (tok Operator 81 82 (codes ",")) ∷ (tok Ident 83 86 (codes "int")) ∷ (tok Operator 86 87 (codes "(")) ∷ (tok Ident 87 88 (codes "b")) ∷ (tok Operator 88 89 (codes ")")) ∷ (tok Operator 89 90 (codes ")")) ∷ (tok Inserted 90 90 (codes ";")) ∷ (tok Operator 91 92 (codes "}")) ∷ (tok Inserted 92 92 (codes ";")) ∷ (tok Keyword 94 98 (codes "func")) ∷ (tok Ident 99 103 (codes "main")) ∷ (tok Operator 103 104 (codes "(")) ∷ (tok Operator 104 105 (codes ")")) ∷ (tok Operator 106 107 (codes "{")) ∷ (tok Ident 109 113 (codes "show")) ∷ (tok Operator 113 114 (codes "(")) ∷ (tok Integer 114 115 (codes "1")) ∷ (tok Operator 115 116 (codes ",")) ∷ (tok Integer 117 118 (codes "2")) ∷ (tok Operator 118 119 (codes ")")) ∷ (tok Inserted 119 119 (codes ";")) ∷ (tok Operator 120 121 (codes "}")) ∷ (tok Inserted 121 121 (codes ";")) ∷ []); comments = [] })

abbrev shared_type_t1 : FileText
shared_type_t1 = (record { text = (codes "package old\n\ntype hidden int\n\n//go:fix inline\ntype A = hidden\n"); tokens = ((tok Keyword 0 7 (codes "package")) ∷ (tok Ident 8 11 (codes "old")) ∷ (tok Inserted 11 11 (codes ";")) ∷ (tok Keyword 13 17 (codes "type")) ∷ (tok Ident 18 24 (codes "hidden")) ∷ (tok Ident 25 28 (codes "int")) ∷ (tok Inserted 28 28 (codes ";")) ∷ (tok Keyword 46 50 (codes "type")) ∷ (tok Ident 51 52 (codes "A")) ∷ (tok Operator 53 54 (codes "=")) ∷ (tok Ident 55 61 (codes "hidden")) ∷ (tok Inserted 61 61 (codes ";")) ∷ []); comments = ((note 30 45) ∷ []) })

shared_type_marks : marks_of shared_type.packages shared_type.texts [] ≡ shared_type.marks
unfolding passes keyword_spellings is_inline digits
shared_type_marks = refl

shared_type_spelled0 : read_at span_to read_front (lexemes shared_type_t0.tokens) ≡ Some (shared_type_f0, [])
unfolding reading
shared_type_spelled0 = refl

shared_type_spelled1 : read_at span_to read_front (lexemes shared_type_t1.tokens) ≡ Some (shared_type_f1, [])
unfolding reading
shared_type_spelled1 = refl

abbrev shared_type_start : Standing
shared_type_start = standing_as_read shared_type.packages shared_type.texts

-- the whole run, with the tokens of the texts
shared_type_inlined : (h0 : TokensOf shared_type_t0.text shared_type_t0.tokens shared_type_t0.comments) (h1 : TokensOf shared_type_t1.text shared_type_t1.tokens shared_type_t1.comments) → IsInlining the_limits (folder small_module shared_type.texts) shared_type.packages shared_type.texts [] (((codes "main.go"), shared_type_t0) ∷ ((codes "old/old.go"), shared_type_t1) ∷ []) (codes "main.go:5:16: kept example.com/m/old.A: not accessible: hidden\n")
unfolding passes keyword_spellings is_inline digits reading
shared_type_inlined h0 h1 = inlining_by the_limits (folder small_module shared_type.texts) shared_type.packages shared_type.texts [] shared_type.marks shared_type_start ([]) (codes "main.go:5:16: kept example.com/m/old.A: not accessible: hidden\n") shared_type_marks (module_by (codes "example.com/m") (module_text small_module) (record { path = codes "main.go"; text = shared_type_t0; tree = shared_type_f0; reads = record { scans = h0; spells = file_spelled shared_type_t0.tokens shared_type_f0 shared_type_spelled0 } } ∷ record { path = codes "old/old.go"; text = shared_type_t1; tree = shared_type_f1; reads = record { scans = h1; spells = file_spelled shared_type_t1.tokens shared_type_f1 shared_type_spelled1 } } ∷ []) (folder small_module shared_type.texts) shared_type.packages shared_type.texts small_module_is refl refl refl refl refl refl refl refl refl) (ends shared_type_start refl) (begins [] shared_type_start) (kept_by ([]) (codes "main.go") shared_type_t0.text shared_type_t0.text (((codes "old/old.go"), shared_type_t1.text) ∷ []) (((codes "old/old.go"), shared_type_t1.text) ∷ []) refl refl (kept_by ([]) (codes "old/old.go") shared_type_t1.text shared_type_t1.text [] [] refl refl run.none)) refl

shared_type_t0_found : TokensOf shared_type_t0.text shared_type_t0.tokens shared_type_t0.comments
unfolding piece_of lexeme_of longest_from next_of tokens_from comments_from keyword_spellings is_letter is_digit general_category general_category_rows value_in lib.Utf8.encode
shared_type_t0_found = tokens_by shared_type_t0.text shared_type_t0.tokens shared_type_t0.comments refl refl refl

shared_type_t1_found : TokensOf shared_type_t1.text shared_type_t1.tokens shared_type_t1.comments
unfolding piece_of lexeme_of longest_from next_of tokens_from comments_from keyword_spellings is_letter is_digit general_category general_category_rows value_in lib.Utf8.encode
shared_type_t1_found = tokens_by shared_type_t1.text shared_type_t1.tokens shared_type_t1.comments refl refl refl

shared_type_run : IsInlining the_limits (folder small_module shared_type.texts) shared_type.packages shared_type.texts [] (((codes "main.go"), shared_type_t0) ∷ ((codes "old/old.go"), shared_type_t1) ∷ []) (codes "main.go:5:16: kept example.com/m/old.A: not accessible: hidden\n")
shared_type_run = shared_type_inlined shared_type_t0_found shared_type_t1_found
