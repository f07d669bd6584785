-- Runs of modules with wrappers of another package, whole.
use Rattle.std.proofs.Common.{◌≡◌, refl}
use Rattle.std.specs.Prelude.{true, false, [], ◌∷◌, Some, None, codes}
use Rattle.go_tree.specs.declared.spans.Span.{Span}
use Rattle.go_tree.specs.declared.exprs.Rest.TheVariants.{Plain}
use Rattle.go_tree.specs.declared.tokens.TokenKind.TheVariants.{Ident, Keyword, Operator, Integer, Str, Inserted}
use Rattle.go_tree.specs.declared.operators.BinOp.TheVariants.{Mul}
use Rattle.go_tree.specs.Tree.{named, ident, int_lit, str_lit, selector, call, binary, no_exprs, expr_and, eval, define, return_, no_stmts, stmt_and}
use Rattle.go_tree.specs.File.{File}
use Rattle.run_rules.proofs.CaseTools.{at, nm, tok, note, param, sig, imp, imps, fn, pack, source, mark, Module}
use Rattle.go_layout.specs.SpellsSpans.{span_to}
use Rattle.go_tree.specs.GoWords.Terminals.{lexemes}
use Rattle.go_layout.specs.Goals.{read_front}
use Rattle.go_layout.proofs.Texts.{reading}
use Rattle.run_rules.proofs.CaseTools.{read_at}
use Rattle.go_tree.specs.GoWords.Tokens.Pieces.{keyword_spellings}
use Rattle.directive_scan.specs.Lines.{is_inline}
use Rattle.pkg_graph.specs.ModuleFiles.Internal.{passes}
use Rattle.std.specs.Prelude.{is_some}
use Rattle.run_rules.specs.Texts.{FileText}
use Rattle.run_rules.specs.Steps.{At}
use Rattle.run_rules.specs.Marks.{marks_of}
use Rattle.run_rules.specs.Run.{Standing, Next, step_in, goes_on, ends, the_limits}
use Rattle.run_rules.specs.Run as run
use Rattle.go_layout.proofs.Whole.{file_spelled}
use Rattle.std.specs.Fmt.{digits}
use Rattle.run_rules.specs.Inlining.{standing_as_read, begins, steps_on, IsInlining}
use Rattle.run_rules.proofs.CaseTools.{from, nmf}
use Rattle.go_tree.specs.GoWords.Tokens.{TokensOf}
use Rattle.run_rules.proofs.Instances.{stands_after, log_entry, next_by, kept_by, inlining_by}
use Rattle.run_rules.proofs.ModulesRead.{module_by, module_text, folder, small_module, small_module_is}
use Rattle.ucd_category.specs.GeneralCategory.{general_category}
use Rattle.ucd_category.specs.GeneralCategoryRows.{general_category_rows}
use Rattle.ucd_table.specs.Rows.{value_in}
use Rattle.go_tree.specs.GoWords.Tokens.{tokens_from, comments_from}
use Rattle.go_tree.specs.GoWords.Tokens.Characters.{is_letter, is_digit}
use Rattle.directive_scan.specs.Automaton.{next_of, longest_from}
use Rattle.directive_scan.specs.Pieces.{piece_of, lexeme_of}
use Rattle.run_rules.proofs.TokensFound.{tokens_by}

-- An argument that acts is evaluated once, and first.
abbrev acting_wrapper_f0 : File Span
acting_wrapper_f0 = record { package_name = (nm 8 12 (codes "main")); imports = ((imps (at 14 40) false ((imp (at 21 40) None (codes "example.com/m/old")) ∷ [])) ∷ []); decls = ((fn (at 42 85) None (nm 47 51 (codes "next")) (sig [] ((param (at 54 57) None (named (at 54 57) None (nm 54 57 (codes "int")))) ∷ [])) (at 58 85) (stmt_and (eval (at 61 73) (call (at 61 73) (ident (at 61 68) (codes "println")) (expr_and (str_lit (at 69 72) (codes "\"n\"")) no_exprs) Plain)) (stmt_and (return_ (at 75 83) (expr_and (int_lit (at 82 83) (codes "1")) no_exprs)) no_stmts))) ∷ (fn (at 87 131) None (nm 92 96 (codes "main")) (sig [] []) (at 99 131) (stmt_and (eval (at 102 129) (call (at 102 129) (ident (at 102 109) (codes "println")) (expr_and (call (at 110 128) (selector (at 110 120) (ident (at 110 113) (codes "old")) (nm 114 120 (codes "Square"))) (expr_and (call (at 121 127) (ident (at 121 125) (codes "next")) no_exprs Plain) no_exprs) Plain) no_exprs) Plain)) no_stmts)) ∷ []) }

abbrev acting_wrapper_f1 : File Span
acting_wrapper_f1 = record { package_name = (nm 8 11 (codes "old")); imports = ((imps (at 13 39) false ((imp (at 20 39) None (codes "example.com/m/pow")) ∷ [])) ∷ []); decls = ((fn (at 57 105) None (nm 62 68 (codes "Square")) (sig ((param (at 69 74) (Some (nm 69 70 (codes "x"))) (named (at 71 74) None (nm 71 74 (codes "int")))) ∷ []) ((param (at 76 79) None (named (at 76 79) None (nm 76 79 (codes "int")))) ∷ [])) (at 80 105) (stmt_and (return_ (at 83 103) (expr_and (call (at 90 103) (selector (at 90 97) (ident (at 90 93) (codes "pow")) (nm 94 97 (codes "Pow"))) (expr_and (ident (at 98 99) (codes "x")) (expr_and (int_lit (at 101 102) (codes "2")) no_exprs)) Plain) no_exprs)) no_stmts)) ∷ []) }

abbrev acting_wrapper_f2 : File Span
acting_wrapper_f2 = record { package_name = (nm 8 11 (codes "pow")); imports = []; decls = ((fn (at 13 53) None (nm 18 21 (codes "Pow")) (sig ((param (at 22 30) (Some (nm 22 23 (codes "x"))) (named (at 27 30) None (nm 27 30 (codes "int")))) ∷ (param (at 25 30) (Some (nm 25 26 (codes "n"))) (named (at 27 30) None (nm 27 30 (codes "int")))) ∷ []) ((param (at 32 35) None (named (at 32 35) None (nm 32 35 (codes "int")))) ∷ [])) (at 36 53) (stmt_and (return_ (at 39 51) (expr_and (binary (at 46 51) Mul (ident (at 46 47) (codes "x")) (ident (at 50 51) (codes "n"))) no_exprs)) no_stmts)) ∷ []) }

abbrev acting_wrapper : Module
acting_wrapper = record { packages = (pack (codes "example.com/m") (codes "main") (source (codes "main.go") acting_wrapper_f0 ∷ []) ∷ pack (codes "example.com/m/old") (codes "old") (source (codes "old/old.go") acting_wrapper_f1 ∷ []) ∷ pack (codes "example.com/m/pow") (codes "pow") (source (codes "pow/pow.go") acting_wrapper_f2 ∷ []) ∷ []); marks = (mark 1 0 0 0 ∷ []); texts = (((codes "main.go"), record { text = (codes "package main\n\nimport \"example.com/m/old\"\n\nfunc next() int {\n\tprintln(\"n\")\n\treturn 1\n}\n\nfunc main() {\n\tprintln(old.Square(next()))\n}\n"); tokens = ((tok Keyword 0 7 (codes "package")) ∷ (tok Ident 8 12 (codes "main")) ∷ (tok Inserted 12 12 (codes ";")) ∷ (tok Keyword 14 20 (codes "import")) ∷ (tok Str 21 40 (codes "\"example.com/m/old\"")) ∷ (tok Inserted 40 40 (codes ";")) ∷ (tok Keyword 42 46 (codes "func")) ∷ (tok Ident 47 51 (codes "next")) ∷ (tok Operator 51 52 (codes "(")) ∷ (tok Operator 52 53 (codes ")")) ∷ (tok Ident 54 57 (codes "int")) ∷ (tok Operator 58 59 (codes "{")) ∷ (tok Ident 61 68 (codes "println")) ∷ (tok Operator 68 69 (codes "(")) ∷ (tok Str 69 72 (codes "\"n\"")) ∷ (tok Operator 72 73 (codes ")")) ∷ (tok Inserted 73 73 (codes ";")) ∷ (tok Keyword 75 81 (codes "return")) ∷ (tok Integer 82 83 (codes "1")) ∷ (tok Inserted 83 83 (codes ";")) ∷ (tok Operator 84 85 (codes "}")) ∷ (tok Inserted 85 85 (codes ";")) ∷ (tok Keyword 87 91 (codes "func")) ∷ (tok Ident 92 96 (codes "main")) ∷ (tok Operator 96 97 (codes "(")) ∷ (tok Operator 97 98 (codes ")")) ∷ (tok Operator 99 100 (codes "{")) ∷ (tok Ident 102 109 (codes "println")) ∷ (tok Operator 109 110 (codes "(")) ∷ (tok Ident 110 113 (codes "old")) ∷ (tok Operator 113 114 (codes ".")) ∷ (tok Ident 114 120 (codes "Square")) ∷ (tok Operator 120 121 (codes "(")) ∷ (tok Ident 121 125 (codes "next")) ∷ (tok Operator 125 126 (codes "(")) ∷ (tok Operator 126 127 (codes ")")) ∷ (tok Operator 127 128 (codes ")")) ∷ (tok Operator 128 129 (codes ")")) ∷ (tok Inserted 129 129 (codes ";")) ∷ (tok Operator 130 131 (codes "}")) ∷ (tok Inserted 131 131 (codes ";")) ∷ []); comments = [] }) ∷ ((codes "old/old.go"), record { text = (codes "package old\n\nimport \"example.com/m/pow\"\n\n//go:fix inline\nfunc Square(x int) int {\n\treturn pow.Pow(x, 2)\n}\n"); tokens = ((tok Keyword 0 7 (codes "package")) ∷ (tok Ident 8 11 (codes "old")) ∷ (tok Inserted 11 11 (codes ";")) ∷ (tok Keyword 13 19 (codes "import")) ∷ (tok Str 20 39 (codes "\"example.com/m/pow\"")) ∷ (tok Inserted 39 39 (codes ";")) ∷ (tok Keyword 57 61 (codes "func")) ∷ (tok Ident 62 68 (codes "Square")) ∷ (tok Operator 68 69 (codes "(")) ∷ (tok Ident 69 70 (codes "x")) ∷ (tok Ident 71 74 (codes "int")) ∷ (tok Operator 74 75 (codes ")")) ∷ (tok Ident 76 79 (codes "int")) ∷ (tok Operator 80 81 (codes "{")) ∷ (tok Keyword 83 89 (codes "return")) ∷ (tok Ident 90 93 (codes "pow")) ∷ (tok Operator 93 94 (codes ".")) ∷ (tok Ident 94 97 (codes "Pow")) ∷ (tok Operator 97 98 (codes "(")) ∷ (tok Ident 98 99 (codes "x")) ∷ (tok Operator 99 100 (codes ",")) ∷ (tok Integer 101 102 (codes "2")) ∷ (tok Operator 102 103 (codes ")")) ∷ (tok Inserted 103 103 (codes ";")) ∷ (tok Operator 104 105 (codes "}")) ∷ (tok Inserted 105 105 (codes ";")) ∷ []); comments = ((note 41 56) ∷ []) }) ∷ ((codes "pow/pow.go"), record { text = (codes "package pow\n\nfunc Pow(x, n int) int {\n\treturn x * n\n}\n"); tokens = ((tok Keyword 0 7 (codes "package")) ∷ (tok Ident 8 11 (codes "pow")) ∷ (tok Inserted 11 11 (codes ";")) ∷ (tok Keyword 13 17 (codes "func")) ∷ (tok Ident 18 21 (codes "Pow")) ∷ (tok Operator 21 22 (codes "(")) ∷ (tok Ident 22 23 (codes "x")) ∷ (tok Operator 23 24 (codes ",")) ∷ (tok Ident 25 26 (codes "n")) ∷ (tok Ident 27 30 (codes "int")) ∷ (tok Operator 30 31 (codes ")")) ∷ (tok Ident 32 35 (codes "int")) ∷ (tok Operator 36 37 (codes "{")) ∷ (tok Keyword 39 45 (codes "return")) ∷ (tok Ident 46 47 (codes "x")) ∷ (tok Operator 48 49 (codes "*")) ∷ (tok Ident 50 51 (codes "n")) ∷ (tok Inserted 51 51 (codes ";")) ∷ (tok Operator 52 53 (codes "}")) ∷ (tok Inserted 53 53 (codes ";")) ∷ []); comments = [] }) ∷ []) }

abbrev acting_wrapper_t0 : FileText
acting_wrapper_t0 = (record { text = (codes "package main\n\nimport \"example.com/m/old\"\n\nfunc next() int {\n\tprintln(\"n\")\n\treturn 1\n}\n\nfunc main() {\n\tprintln(old.Square(next()))\n}\n"); tokens = ((tok Keyword 0 7 (codes "package")) ∷ (tok Ident 8 12 (codes "main")) ∷ (tok Inserted 12 12 (codes ";")) ∷ (tok Keyword 14 20 (codes "import")) ∷ (tok Str 21 40 (codes "\"example.com/m/old\"")) ∷ (tok Inserted 40 40 (codes ";")) ∷ (tok Keyword 42 46 (codes "func")) ∷ (tok Ident 47 51 (codes "next")) ∷ (tok Operator 51 52 (codes "(")) ∷ (tok Operator 52 53 (codes ")")) ∷ (tok Ident 54 57 (codes "int")) ∷ (tok Operator 58 59 (codes "{")) ∷ (tok Ident 61 68 (codes "println")) ∷ (tok Operator 68 69 (codes "(")) ∷ (tok Str 69 72 (codes "\"n\"")) ∷ (tok Operator 72 73 (codes ")")) ∷ (tok Inserted 73 73 (codes ";")) ∷ (tok Keyword 75 81 (codes "return")) ∷ (tok Integer 82 83 (codes "1")) ∷ (tok Inserted 83 83 (codes ";")) ∷ (tok Operator 84 85 (codes "}")) ∷ (tok Inserted 85 85 (codes ";")) ∷ (tok Keyword 87 91 (codes "func")) ∷ (tok Ident 92 96 (codes "main")) ∷ (tok Operator 96 97 (codes "(")) ∷ (tok Operator 97 98 (codes ")")) ∷ (tok Operator 99 100 (codes "{")) ∷ (tok Ident 102 109 (codes "println")) ∷ (tok Operator 109 110 (codes "(")) ∷ (tok Ident 110 113 (codes "old")) ∷ (tok Operator 113 114 (codes ".")) ∷ (tok Ident 114 120 (codes "Square")) ∷ (tok Operator 120 121 (codes "(")) ∷ (tok Ident 121 125 (codes "next")) ∷ (tok Operator 125 126 (codes "(")) ∷ (tok Operator 126 127 (codes ")")) ∷ (tok Operator 127 128 (codes ")")) ∷ (tok Operator 128 129 (codes ")")) ∷ (tok Inserted 129 129 (codes ";")) ∷ (tok Operator 130 131 (codes "}")) ∷ (tok Inserted 131 131 (codes ";")) ∷ []); comments = [] })

abbrev acting_wrapper_t1 : FileText
acting_wrapper_t1 = (record { text = (codes "package old\n\nimport \"example.com/m/pow\"\n\n//go:fix inline\nfunc Square(x int) int {\n\treturn pow.Pow(x, 2)\n}\n"); tokens = ((tok Keyword 0 7 (codes "package")) ∷ (tok Ident 8 11 (codes "old")) ∷ (tok Inserted 11 11 (codes ";")) ∷ (tok Keyword 13 19 (codes "import")) ∷ (tok Str 20 39 (codes "\"example.com/m/pow\"")) ∷ (tok Inserted 39 39 (codes ";")) ∷ (tok Keyword 57 61 (codes "func")) ∷ (tok Ident 62 68 (codes "Square")) ∷ (tok Operator 68 69 (codes "(")) ∷ (tok Ident 69 70 (codes "x")) ∷ (tok Ident 71 74 (codes "int")) ∷ (tok Operator 74 75 (codes ")")) ∷ (tok Ident 76 79 (codes "int")) ∷ (tok Operator 80 81 (codes "{")) ∷ (tok Keyword 83 89 (codes "return")) ∷ (tok Ident 90 93 (codes "pow")) ∷ (tok Operator 93 94 (codes ".")) ∷ (tok Ident 94 97 (codes "Pow")) ∷ (tok Operator 97 98 (codes "(")) ∷ (tok Ident 98 99 (codes "x")) ∷ (tok Operator 99 100 (codes ",")) ∷ (tok Integer 101 102 (codes "2")) ∷ (tok Operator 102 103 (codes ")")) ∷ (tok Inserted 103 103 (codes ";")) ∷ (tok Operator 104 105 (codes "}")) ∷ (tok Inserted 105 105 (codes ";")) ∷ []); comments = ((note 41 56) ∷ []) })

abbrev acting_wrapper_t2 : FileText
acting_wrapper_t2 = (record { text = (codes "package pow\n\nfunc Pow(x, n int) int {\n\treturn x * n\n}\n"); tokens = ((tok Keyword 0 7 (codes "package")) ∷ (tok Ident 8 11 (codes "pow")) ∷ (tok Inserted 11 11 (codes ";")) ∷ (tok Keyword 13 17 (codes "func")) ∷ (tok Ident 18 21 (codes "Pow")) ∷ (tok Operator 21 22 (codes "(")) ∷ (tok Ident 22 23 (codes "x")) ∷ (tok Operator 23 24 (codes ",")) ∷ (tok Ident 25 26 (codes "n")) ∷ (tok Ident 27 30 (codes "int")) ∷ (tok Operator 30 31 (codes ")")) ∷ (tok Ident 32 35 (codes "int")) ∷ (tok Operator 36 37 (codes "{")) ∷ (tok Keyword 39 45 (codes "return")) ∷ (tok Ident 46 47 (codes "x")) ∷ (tok Operator 48 49 (codes "*")) ∷ (tok Ident 50 51 (codes "n")) ∷ (tok Inserted 51 51 (codes ";")) ∷ (tok Operator 52 53 (codes "}")) ∷ (tok Inserted 53 53 (codes ";")) ∷ []); comments = [] })

acting_wrapper_marks : marks_of acting_wrapper.packages acting_wrapper.texts [] ≡ acting_wrapper.marks
unfolding passes keyword_spellings is_inline digits
acting_wrapper_marks = refl

acting_wrapper_spelled0 : read_at span_to read_front (lexemes acting_wrapper_t0.tokens) ≡ Some (acting_wrapper_f0, [])
unfolding reading
acting_wrapper_spelled0 = refl

acting_wrapper_spelled1 : read_at span_to read_front (lexemes acting_wrapper_t1.tokens) ≡ Some (acting_wrapper_f1, [])
unfolding reading
acting_wrapper_spelled1 = refl

acting_wrapper_spelled2 : read_at span_to read_front (lexemes acting_wrapper_t2.tokens) ≡ Some (acting_wrapper_f2, [])
unfolding reading
acting_wrapper_spelled2 = refl

abbrev acting_wrapper_start : Standing
acting_wrapper_start = standing_as_read acting_wrapper.packages acting_wrapper.texts

abbrev acting_wrapper_new : FileText
acting_wrapper_new = (record { text = (codes "package main\n\nimport \"example.com/m/pow\"\n\nfunc next() int {\n\tprintln(\"n\")\n\treturn 1\n}\n\nfunc main() {\n\tprintln(pow.Pow(next(), 2))\n}\n"); tokens = ((tok Keyword 0 7 (codes "package")) ∷ (tok Ident 8 12 (codes "main")) ∷ (tok Inserted 12 12 (codes ";")) ∷ (tok Keyword 14 20 (codes "import")) ∷ (tok Str 21 40 (codes "\"example.com/m/pow\"")) ∷ (tok Inserted 40 40 (codes ";")) ∷ (tok Keyword 42 46 (codes "func")) ∷ (tok Ident 47 51 (codes "next")) ∷ (tok Operator 51 52 (codes "(")) ∷ (tok Operator 52 53 (codes ")")) ∷ (tok Ident 54 57 (codes "int")) ∷ (tok Operator 58 59 (codes "{")) ∷ (tok Ident 61 68 (codes "println")) ∷ (tok Operator 68 69 (codes "(")) ∷ (tok Str 69 72 (codes "\"n\"")) ∷ (tok Operator 72 73 (codes ")")) ∷ (tok Inserted 73 73 (codes ";")) ∷ (tok Keyword 75 81 (codes "return")) ∷ (tok Integer 82 83 (codes "1")) ∷ (tok Inserted 83 83 (codes ";")) ∷ (tok Operator 84 85 (codes "}")) ∷ (tok Inserted 85 85 (codes ";")) ∷ (tok Keyword 87 91 (codes "func")) ∷ (tok Ident 92 96 (codes "main")) ∷ (tok Operator 96 97 (codes "(")) ∷ (tok Operator 97 98 (codes ")")) ∷ (tok Operator 99 100 (codes "{")) ∷ (tok Ident 102 109 (codes "println")) ∷ (tok Operator 109 110 (codes "(")) ∷ (tok Ident 110 113 (codes "pow")) ∷ (tok Operator 113 114 (codes ".")) ∷ (tok Ident 114 117 (codes "Pow")) ∷ (tok Operator 117 118 (codes "(")) ∷ (tok Ident 118 122 (codes "next")) ∷ (tok Operator 122 123 (codes "(")) ∷ (tok Operator 123 124 (codes ")")) ∷ (tok Operator 124 125 (codes ",")) ∷ (tok Integer 126 127 (codes "2")) ∷ (tok Operator 127 128 (codes ")")) ∷ (tok Operator 128 129 (codes ")")) ∷ (tok Inserted 129 129 (codes ";")) ∷ (tok Operator 130 131 (codes "}")) ∷ (tok Inserted 131 131 (codes ";")) ∷ []); comments = [] })

abbrev acting_wrapper_tree : File At
acting_wrapper_tree = record { package_name = (nmf 8 12 8 12 (codes "main")); imports = ((imps (from 14 40 14 40) false ((imp (from 21 40 21 40) None (codes "example.com/m/pow")) ∷ [])) ∷ []); decls = ((fn (from 42 85 42 85) None (nmf 47 51 47 51 (codes "next")) (sig [] ((param (from 54 57 54 57) None (named (from 54 57 54 57) None (nmf 54 57 54 57 (codes "int")))) ∷ [])) (from 58 85 58 85) (stmt_and (eval (from 61 73 61 73) (call (from 61 73 61 73) (ident (from 61 68 61 68) (codes "println")) (expr_and (str_lit (from 69 72 69 72) (codes "\"n\"")) no_exprs) Plain)) (stmt_and (return_ (from 75 83 75 83) (expr_and (int_lit (from 82 83 82 83) (codes "1")) no_exprs)) no_stmts))) ∷ (fn (from 87 131 87 131) None (nmf 92 96 92 96 (codes "main")) (sig [] []) (from 99 131 99 131) (stmt_and (eval (from 102 129 102 129) (call (from 102 129 102 129) (ident (from 102 109 102 109) (codes "println")) (expr_and (call (from 110 128 110 128) (selector (from 110 117 110 128) (ident (from 110 113 110 128) (codes "pow")) (nmf 114 117 110 128 (codes "Pow"))) (expr_and (call (from 118 124 121 127) (ident (from 118 122 121 125) (codes "next")) no_exprs Plain) (expr_and (int_lit (from 126 127 110 128) (codes "2")) no_exprs)) Plain) no_exprs) Plain)) no_stmts)) ∷ []) }

acting_wrapper_steps : is_some (step_in acting_wrapper.marks acting_wrapper_start) ≡ true
unfolding passes keyword_spellings is_inline digits
acting_wrapper_steps = refl

abbrev acting_wrapper_next : TokensOf acting_wrapper_new.text acting_wrapper_new.tokens acting_wrapper_new.comments → Next acting_wrapper.marks acting_wrapper_start (log_entry acting_wrapper.marks acting_wrapper_start (acting_wrapper_steps) acting_wrapper_t0 acting_wrapper_new acting_wrapper_tree) (stands_after acting_wrapper.marks acting_wrapper_start (acting_wrapper_steps) acting_wrapper_t0 acting_wrapper_new acting_wrapper_tree)
unfolding passes keyword_spellings is_inline digits reading acting_wrapper_steps
acting_wrapper_next h = next_by acting_wrapper.marks acting_wrapper_start (acting_wrapper_steps) acting_wrapper_t0 acting_wrapper_new acting_wrapper_tree refl refl h refl refl

-- the whole run, with the tokens of the texts
acting_wrapper_inlined : (h0 : TokensOf acting_wrapper_t0.text acting_wrapper_t0.tokens acting_wrapper_t0.comments) (h1 : TokensOf acting_wrapper_t1.text acting_wrapper_t1.tokens acting_wrapper_t1.comments) (h2 : TokensOf acting_wrapper_t2.text acting_wrapper_t2.tokens acting_wrapper_t2.comments) (h : TokensOf acting_wrapper_new.text acting_wrapper_new.tokens acting_wrapper_new.comments) → IsInlining the_limits (folder small_module acting_wrapper.texts) acting_wrapper.packages acting_wrapper.texts [] (((codes "main.go"), acting_wrapper_new) ∷ ((codes "old/old.go"), acting_wrapper_t1) ∷ ((codes "pow/pow.go"), acting_wrapper_t2) ∷ []) (codes "main.go:11:10: inlined example.com/m/old.Square as expr\n")
unfolding passes keyword_spellings is_inline digits reading acting_wrapper_steps acting_wrapper_next
acting_wrapper_inlined h0 h1 h2 h = inlining_by the_limits (folder small_module acting_wrapper.texts) acting_wrapper.packages acting_wrapper.texts [] acting_wrapper.marks (stands_after acting_wrapper.marks acting_wrapper_start (acting_wrapper_steps) acting_wrapper_t0 acting_wrapper_new acting_wrapper_tree) (log_entry acting_wrapper.marks acting_wrapper_start (acting_wrapper_steps) acting_wrapper_t0 acting_wrapper_new acting_wrapper_tree ∷ []) (codes "main.go:11:10: inlined example.com/m/old.Square as expr\n") acting_wrapper_marks (module_by (codes "example.com/m") (module_text small_module) (record { path = codes "main.go"; text = acting_wrapper_t0; tree = acting_wrapper_f0; reads = record { scans = h0; spells = file_spelled acting_wrapper_t0.tokens acting_wrapper_f0 acting_wrapper_spelled0 } } ∷ record { path = codes "old/old.go"; text = acting_wrapper_t1; tree = acting_wrapper_f1; reads = record { scans = h1; spells = file_spelled acting_wrapper_t1.tokens acting_wrapper_f1 acting_wrapper_spelled1 } } ∷ record { path = codes "pow/pow.go"; text = acting_wrapper_t2; tree = acting_wrapper_f2; reads = record { scans = h2; spells = file_spelled acting_wrapper_t2.tokens acting_wrapper_f2 acting_wrapper_spelled2 } } ∷ []) (folder small_module acting_wrapper.texts) acting_wrapper.packages acting_wrapper.texts small_module_is refl refl refl refl refl refl refl refl refl) (goes_on acting_wrapper_start (stands_after acting_wrapper.marks acting_wrapper_start (acting_wrapper_steps) acting_wrapper_t0 acting_wrapper_new acting_wrapper_tree) (stands_after acting_wrapper.marks acting_wrapper_start (acting_wrapper_steps) acting_wrapper_t0 acting_wrapper_new acting_wrapper_tree) (log_entry acting_wrapper.marks acting_wrapper_start (acting_wrapper_steps) acting_wrapper_t0 acting_wrapper_new acting_wrapper_tree) [] (acting_wrapper_next h) (ends (stands_after acting_wrapper.marks acting_wrapper_start (acting_wrapper_steps) acting_wrapper_t0 acting_wrapper_new acting_wrapper_tree) refl)) (steps_on [] [] (log_entry acting_wrapper.marks acting_wrapper_start (acting_wrapper_steps) acting_wrapper_t0 acting_wrapper_new acting_wrapper_tree) acting_wrapper_start (stands_after acting_wrapper.marks acting_wrapper_start (acting_wrapper_steps) acting_wrapper_t0 acting_wrapper_new acting_wrapper_tree) (stands_after acting_wrapper.marks acting_wrapper_start (acting_wrapper_steps) acting_wrapper_t0 acting_wrapper_new acting_wrapper_tree) (acting_wrapper_next h) refl (begins (log_entry acting_wrapper.marks acting_wrapper_start (acting_wrapper_steps) acting_wrapper_t0 acting_wrapper_new acting_wrapper_tree ∷ []) (stands_after acting_wrapper.marks acting_wrapper_start (acting_wrapper_steps) acting_wrapper_t0 acting_wrapper_new acting_wrapper_tree))) (kept_by (log_entry acting_wrapper.marks acting_wrapper_start (acting_wrapper_steps) acting_wrapper_t0 acting_wrapper_new acting_wrapper_tree ∷ []) (codes "main.go") acting_wrapper_t0.text acting_wrapper_new.text (((codes "old/old.go"), acting_wrapper_t1.text) ∷ ((codes "pow/pow.go"), acting_wrapper_t2.text) ∷ []) (((codes "old/old.go"), acting_wrapper_t1.text) ∷ ((codes "pow/pow.go"), acting_wrapper_t2.text) ∷ []) refl refl (kept_by (log_entry acting_wrapper.marks acting_wrapper_start (acting_wrapper_steps) acting_wrapper_t0 acting_wrapper_new acting_wrapper_tree ∷ []) (codes "old/old.go") acting_wrapper_t1.text acting_wrapper_t1.text (((codes "pow/pow.go"), acting_wrapper_t2.text) ∷ []) (((codes "pow/pow.go"), acting_wrapper_t2.text) ∷ []) refl refl (kept_by (log_entry acting_wrapper.marks acting_wrapper_start (acting_wrapper_steps) acting_wrapper_t0 acting_wrapper_new acting_wrapper_tree ∷ []) (codes "pow/pow.go") acting_wrapper_t2.text acting_wrapper_t2.text [] [] refl refl run.none))) refl

acting_wrapper_t0_found : TokensOf acting_wrapper_t0.text acting_wrapper_t0.tokens acting_wrapper_t0.comments
unfolding piece_of lexeme_of longest_from next_of tokens_from comments_from keyword_spellings is_letter is_digit general_category general_category_rows value_in lib.Utf8.encode
acting_wrapper_t0_found = tokens_by acting_wrapper_t0.text acting_wrapper_t0.tokens acting_wrapper_t0.comments refl refl refl

acting_wrapper_t1_found : TokensOf acting_wrapper_t1.text acting_wrapper_t1.tokens acting_wrapper_t1.comments
unfolding piece_of lexeme_of longest_from next_of tokens_from comments_from keyword_spellings is_letter is_digit general_category general_category_rows value_in lib.Utf8.encode
acting_wrapper_t1_found = tokens_by acting_wrapper_t1.text acting_wrapper_t1.tokens acting_wrapper_t1.comments refl refl refl

acting_wrapper_t2_found : TokensOf acting_wrapper_t2.text acting_wrapper_t2.tokens acting_wrapper_t2.comments
unfolding piece_of lexeme_of longest_from next_of tokens_from comments_from keyword_spellings is_letter is_digit general_category general_category_rows value_in lib.Utf8.encode
acting_wrapper_t2_found = tokens_by acting_wrapper_t2.text acting_wrapper_t2.tokens acting_wrapper_t2.comments refl refl refl

acting_wrapper_new_found : TokensOf acting_wrapper_new.text acting_wrapper_new.tokens acting_wrapper_new.comments
unfolding piece_of lexeme_of longest_from next_of tokens_from comments_from keyword_spellings is_letter is_digit general_category general_category_rows value_in lib.Utf8.encode
acting_wrapper_new_found = tokens_by acting_wrapper_new.text acting_wrapper_new.tokens acting_wrapper_new.comments refl refl refl

acting_wrapper_run : IsInlining the_limits (folder small_module acting_wrapper.texts) acting_wrapper.packages acting_wrapper.texts [] (((codes "main.go"), acting_wrapper_new) ∷ ((codes "old/old.go"), acting_wrapper_t1) ∷ ((codes "pow/pow.go"), acting_wrapper_t2) ∷ []) (codes "main.go:11:10: inlined example.com/m/old.Square as expr\n")
acting_wrapper_run = acting_wrapper_inlined acting_wrapper_t0_found acting_wrapper_t1_found acting_wrapper_t2_found acting_wrapper_new_found

-- The package gets a new name.
abbrev renamed_wrapper_f0 : File Span
renamed_wrapper_f0 = record { package_name = (nm 8 12 (codes "main")); imports = ((imps (at 14 40) false ((imp (at 21 40) None (codes "example.com/m/old")) ∷ [])) ∷ []); decls = ((fn (at 42 93) None (nm 47 51 (codes "main")) (sig [] []) (at 54 93) (stmt_and (define (at 57 65) ((nm 57 60 (codes "pow")) ∷ []) (expr_and (int_lit (at 64 65) (codes "3")) no_exprs)) (stmt_and (eval (at 67 91) (call (at 67 91) (ident (at 67 74) (codes "println")) (expr_and (call (at 75 90) (selector (at 75 85) (ident (at 75 78) (codes "old")) (nm 79 85 (codes "Square"))) (expr_and (ident (at 86 89) (codes "pow")) no_exprs) Plain) no_exprs) Plain)) no_stmts))) ∷ []) }

abbrev renamed_wrapper_f1 : File Span
renamed_wrapper_f1 = record { package_name = (nm 8 11 (codes "old")); imports = ((imps (at 13 39) false ((imp (at 20 39) None (codes "example.com/m/pow")) ∷ [])) ∷ []); decls = ((fn (at 57 105) None (nm 62 68 (codes "Square")) (sig ((param (at 69 74) (Some (nm 69 70 (codes "x"))) (named (at 71 74) None (nm 71 74 (codes "int")))) ∷ []) ((param (at 76 79) None (named (at 76 79) None (nm 76 79 (codes "int")))) ∷ [])) (at 80 105) (stmt_and (return_ (at 83 103) (expr_and (call (at 90 103) (selector (at 90 97) (ident (at 90 93) (codes "pow")) (nm 94 97 (codes "Pow"))) (expr_and (ident (at 98 99) (codes "x")) (expr_and (int_lit (at 101 102) (codes "2")) no_exprs)) Plain) no_exprs)) no_stmts)) ∷ []) }

abbrev renamed_wrapper_f2 : File Span
renamed_wrapper_f2 = record { package_name = (nm 8 11 (codes "pow")); imports = []; decls = ((fn (at 13 53) None (nm 18 21 (codes "Pow")) (sig ((param (at 22 30) (Some (nm 22 23 (codes "x"))) (named (at 27 30) None (nm 27 30 (codes "int")))) ∷ (param (at 25 30) (Some (nm 25 26 (codes "n"))) (named (at 27 30) None (nm 27 30 (codes "int")))) ∷ []) ((param (at 32 35) None (named (at 32 35) None (nm 32 35 (codes "int")))) ∷ [])) (at 36 53) (stmt_and (return_ (at 39 51) (expr_and (binary (at 46 51) Mul (ident (at 46 47) (codes "x")) (ident (at 50 51) (codes "n"))) no_exprs)) no_stmts)) ∷ []) }

abbrev renamed_wrapper : Module
renamed_wrapper = record { packages = (pack (codes "example.com/m") (codes "main") (source (codes "main.go") renamed_wrapper_f0 ∷ []) ∷ pack (codes "example.com/m/old") (codes "old") (source (codes "old/old.go") renamed_wrapper_f1 ∷ []) ∷ pack (codes "example.com/m/pow") (codes "pow") (source (codes "pow/pow.go") renamed_wrapper_f2 ∷ []) ∷ []); marks = (mark 1 0 0 0 ∷ []); texts = (((codes "main.go"), record { text = (codes "package main\n\nimport \"example.com/m/old\"\n\nfunc main() {\n\tpow := 3\n\tprintln(old.Square(pow))\n}\n"); tokens = ((tok Keyword 0 7 (codes "package")) ∷ (tok Ident 8 12 (codes "main")) ∷ (tok Inserted 12 12 (codes ";")) ∷ (tok Keyword 14 20 (codes "import")) ∷ (tok Str 21 40 (codes "\"example.com/m/old\"")) ∷ (tok Inserted 40 40 (codes ";")) ∷ (tok Keyword 42 46 (codes "func")) ∷ (tok Ident 47 51 (codes "main")) ∷ (tok Operator 51 52 (codes "(")) ∷ (tok Operator 52 53 (codes ")")) ∷ (tok Operator 54 55 (codes "{")) ∷ (tok Ident 57 60 (codes "pow")) ∷ (tok Operator 61 63 (codes ":=")) ∷ (tok Integer 64 65 (codes "3")) ∷ (tok Inserted 65 65 (codes ";")) ∷ (tok Ident 67 74 (codes "println")) ∷ (tok Operator 74 75 (codes "(")) ∷ (tok Ident 75 78 (codes "old")) ∷ (tok Operator 78 79 (codes ".")) ∷ (tok Ident 79 85 (codes "Square")) ∷ (tok Operator 85 86 (codes "(")) ∷ (tok Ident 86 89 (codes "pow")) ∷ (tok Operator 89 90 (codes ")")) ∷ (tok Operator 90 91 (codes ")")) ∷ (tok Inserted 91 91 (codes ";")) ∷ (tok Operator 92 93 (codes "}")) ∷ (tok Inserted 93 93 (codes ";")) ∷ []); comments = [] }) ∷ ((codes "old/old.go"), record { text = (codes "package old\n\nimport \"example.com/m/pow\"\n\n//go:fix inline\nfunc Square(x int) int {\n\treturn pow.Pow(x, 2)\n}\n"); tokens = ((tok Keyword 0 7 (codes "package")) ∷ (tok Ident 8 11 (codes "old")) ∷ (tok Inserted 11 11 (codes ";")) ∷ (tok Keyword 13 19 (codes "import")) ∷ (tok Str 20 39 (codes "\"example.com/m/pow\"")) ∷ (tok Inserted 39 39 (codes ";")) ∷ (tok Keyword 57 61 (codes "func")) ∷ (tok Ident 62 68 (codes "Square")) ∷ (tok Operator 68 69 (codes "(")) ∷ (tok Ident 69 70 (codes "x")) ∷ (tok Ident 71 74 (codes "int")) ∷ (tok Operator 74 75 (codes ")")) ∷ (tok Ident 76 79 (codes "int")) ∷ (tok Operator 80 81 (codes "{")) ∷ (tok Keyword 83 89 (codes "return")) ∷ (tok Ident 90 93 (codes "pow")) ∷ (tok Operator 93 94 (codes ".")) ∷ (tok Ident 94 97 (codes "Pow")) ∷ (tok Operator 97 98 (codes "(")) ∷ (tok Ident 98 99 (codes "x")) ∷ (tok Operator 99 100 (codes ",")) ∷ (tok Integer 101 102 (codes "2")) ∷ (tok Operator 102 103 (codes ")")) ∷ (tok Inserted 103 103 (codes ";")) ∷ (tok Operator 104 105 (codes "}")) ∷ (tok Inserted 105 105 (codes ";")) ∷ []); comments = ((note 41 56) ∷ []) }) ∷ ((codes "pow/pow.go"), record { text = (codes "package pow\n\nfunc Pow(x, n int) int {\n\treturn x * n\n}\n"); tokens = ((tok Keyword 0 7 (codes "package")) ∷ (tok Ident 8 11 (codes "pow")) ∷ (tok Inserted 11 11 (codes ";")) ∷ (tok Keyword 13 17 (codes "func")) ∷ (tok Ident 18 21 (codes "Pow")) ∷ (tok Operator 21 22 (codes "(")) ∷ (tok Ident 22 23 (codes "x")) ∷ (tok Operator 23 24 (codes ",")) ∷ (tok Ident 25 26 (codes "n")) ∷ (tok Ident 27 30 (codes "int")) ∷ (tok Operator 30 31 (codes ")")) ∷ (tok Ident 32 35 (codes "int")) ∷ (tok Operator 36 37 (codes "{")) ∷ (tok Keyword 39 45 (codes "return")) ∷ (tok Ident 46 47 (codes "x")) ∷ (tok Operator 48 49 (codes "*")) ∷ (tok Ident 50 51 (codes "n")) ∷ (tok Inserted 51 51 (codes ";")) ∷ (tok Operator 52 53 (codes "}")) ∷ (tok Inserted 53 53 (codes ";")) ∷ []); comments = [] }) ∷ []) }

abbrev renamed_wrapper_t0 : FileText
renamed_wrapper_t0 = (record { text = (codes "package main\n\nimport \"example.com/m/old\"\n\nfunc main() {\n\tpow := 3\n\tprintln(old.Square(pow))\n}\n"); tokens = ((tok Keyword 0 7 (codes "package")) ∷ (tok Ident 8 12 (codes "main")) ∷ (tok Inserted 12 12 (codes ";")) ∷ (tok Keyword 14 20 (codes "import")) ∷ (tok Str 21 40 (codes "\"example.com/m/old\"")) ∷ (tok Inserted 40 40 (codes ";")) ∷ (tok Keyword 42 46 (codes "func")) ∷ (tok Ident 47 51 (codes "main")) ∷ (tok Operator 51 52 (codes "(")) ∷ (tok Operator 52 53 (codes ")")) ∷ (tok Operator 54 55 (codes "{")) ∷ (tok Ident 57 60 (codes "pow")) ∷ (tok Operator 61 63 (codes ":=")) ∷ (tok Integer 64 65 (codes "3")) ∷ (tok Inserted 65 65 (codes ";")) ∷ (tok Ident 67 74 (codes "println")) ∷ (tok Operator 74 75 (codes "(")) ∷ (tok Ident 75 78 (codes "old")) ∷ (tok Operator 78 79 (codes ".")) ∷ (tok Ident 79 85 (codes "Square")) ∷ (tok Operator 85 86 (codes "(")) ∷ (tok Ident 86 89 (codes "pow")) ∷ (tok Operator 89 90 (codes ")")) ∷ (tok Operator 90 91 (codes ")")) ∷ (tok Inserted 91 91 (codes ";")) ∷ (tok Operator 92 93 (codes "}")) ∷ (tok Inserted 93 93 (codes ";")) ∷ []); comments = [] })

abbrev renamed_wrapper_t1 : FileText
renamed_wrapper_t1 = (record { text = (codes "package old\n\nimport \"example.com/m/pow\"\n\n//go:fix inline\nfunc Square(x int) int {\n\treturn pow.Pow(x, 2)\n}\n"); tokens = ((tok Keyword 0 7 (codes "package")) ∷ (tok Ident 8 11 (codes "old")) ∷ (tok Inserted 11 11 (codes ";")) ∷ (tok Keyword 13 19 (codes "import")) ∷ (tok Str 20 39 (codes "\"example.com/m/pow\"")) ∷ (tok Inserted 39 39 (codes ";")) ∷ (tok Keyword 57 61 (codes "func")) ∷ (tok Ident 62 68 (codes "Square")) ∷ (tok Operator 68 69 (codes "(")) ∷ (tok Ident 69 70 (codes "x")) ∷ (tok Ident 71 74 (codes "int")) ∷ (tok Operator 74 75 (codes ")")) ∷ (tok Ident 76 79 (codes "int")) ∷ (tok Operator 80 81 (codes "{")) ∷ (tok Keyword 83 89 (codes "return")) ∷ (tok Ident 90 93 (codes "pow")) ∷ (tok Operator 93 94 (codes ".")) ∷ (tok Ident 94 97 (codes "Pow")) ∷ (tok Operator 97 98 (codes "(")) ∷ (tok Ident 98 99 (codes "x")) ∷ (tok Operator 99 100 (codes ",")) ∷ (tok Integer 101 102 (codes "2")) ∷ (tok Operator 102 103 (codes ")")) ∷ (tok Inserted 103 103 (codes ";")) ∷ (tok Operator 104 105 (codes "}")) ∷ (tok Inserted 105 105 (codes ";")) ∷ []); comments = ((note 41 56) ∷ []) })

abbrev renamed_wrapper_t2 : FileText
renamed_wrapper_t2 = (record { text = (codes "package pow\n\nfunc Pow(x, n int) int {\n\treturn x * n\n}\n"); tokens = ((tok Keyword 0 7 (codes "package")) ∷ (tok Ident 8 11 (codes "pow")) ∷ (tok Inserted 11 11 (codes ";")) ∷ (tok Keyword 13 17 (codes "func")) ∷ (tok Ident 18 21 (codes "Pow")) ∷ (tok Operator 21 22 (codes "(")) ∷ (tok Ident 22 23 (codes "x")) ∷ (tok Operator 23 24 (codes ",")) ∷ (tok Ident 25 26 (codes "n")) ∷ (tok Ident 27 30 (codes "int")) ∷ (tok Operator 30 31 (codes ")")) ∷ (tok Ident 32 35 (codes "int")) ∷ (tok Operator 36 37 (codes "{")) ∷ (tok Keyword 39 45 (codes "return")) ∷ (tok Ident 46 47 (codes "x")) ∷ (tok Operator 48 49 (codes "*")) ∷ (tok Ident 50 51 (codes "n")) ∷ (tok Inserted 51 51 (codes ";")) ∷ (tok Operator 52 53 (codes "}")) ∷ (tok Inserted 53 53 (codes ";")) ∷ []); comments = [] })

renamed_wrapper_marks : marks_of renamed_wrapper.packages renamed_wrapper.texts [] ≡ renamed_wrapper.marks
unfolding passes keyword_spellings is_inline digits
renamed_wrapper_marks = refl

renamed_wrapper_spelled0 : read_at span_to read_front (lexemes renamed_wrapper_t0.tokens) ≡ Some (renamed_wrapper_f0, [])
unfolding reading
renamed_wrapper_spelled0 = refl

renamed_wrapper_spelled1 : read_at span_to read_front (lexemes renamed_wrapper_t1.tokens) ≡ Some (renamed_wrapper_f1, [])
unfolding reading
renamed_wrapper_spelled1 = refl

renamed_wrapper_spelled2 : read_at span_to read_front (lexemes renamed_wrapper_t2.tokens) ≡ Some (renamed_wrapper_f2, [])
unfolding reading
renamed_wrapper_spelled2 = refl

abbrev renamed_wrapper_start : Standing
renamed_wrapper_start = standing_as_read renamed_wrapper.packages renamed_wrapper.texts

abbrev renamed_wrapper_new : FileText
renamed_wrapper_new = (record { text = (codes "package main\n\nimport pow0 \"example.com/m/pow\"\n\nfunc main() {\n\tpow := 3\n\tprintln(pow0.Pow(pow, 2))\n}\n"); tokens = ((tok Keyword 0 7 (codes "package")) ∷ (tok Ident 8 12 (codes "main")) ∷ (tok Inserted 12 12 (codes ";")) ∷ (tok Keyword 14 20 (codes "import")) ∷ (tok Ident 21 25 (codes "pow0")) ∷ (tok Str 26 45 (codes "\"example.com/m/pow\"")) ∷ (tok Inserted 45 45 (codes ";")) ∷ (tok Keyword 47 51 (codes "func")) ∷ (tok Ident 52 56 (codes "main")) ∷ (tok Operator 56 57 (codes "(")) ∷ (tok Operator 57 58 (codes ")")) ∷ (tok Operator 59 60 (codes "{")) ∷ (tok Ident 62 65 (codes "pow")) ∷ (tok Operator 66 68 (codes ":=")) ∷ (tok Integer 69 70 (codes "3")) ∷ (tok Inserted 70 70 (codes ";")) ∷ (tok Ident 72 79 (codes "println")) ∷ (tok Operator 79 80 (codes "(")) ∷ (tok Ident 80 84 (codes "pow0")) ∷ (tok Operator 84 85 (codes ".")) ∷ (tok Ident 85 88 (codes "Pow")) ∷ (tok Operator 88 89 (codes "(")) ∷ (tok Ident 89 92 (codes "pow")) ∷ (tok Operator 92 93 (codes ",")) ∷ (tok Integer 94 95 (codes "2")) ∷ (tok Operator 95 96 (codes ")")) ∷ (tok Operator 96 97 (codes ")")) ∷ (tok Inserted 97 97 (codes ";")) ∷ (tok Operator 98 99 (codes "}")) ∷ (tok Inserted 99 99 (codes ";")) ∷ []); comments = [] })

abbrev renamed_wrapper_tree : File At
renamed_wrapper_tree = record { package_name = (nmf 8 12 8 12 (codes "main")); imports = ((imps (from 14 45 14 45) false ((imp (from 21 45 21 45) (Some (nmf 21 25 21 25 (codes "pow0"))) (codes "example.com/m/pow")) ∷ [])) ∷ []); decls = ((fn (from 47 99 42 93) None (nmf 52 56 47 51 (codes "main")) (sig [] []) (from 59 99 54 93) (stmt_and (define (from 62 70 57 65) ((nmf 62 65 57 60 (codes "pow")) ∷ []) (expr_and (int_lit (from 69 70 64 65) (codes "3")) no_exprs)) (stmt_and (eval (from 72 97 67 91) (call (from 72 97 67 91) (ident (from 72 79 67 74) (codes "println")) (expr_and (call (from 80 96 75 90) (selector (from 80 88 75 90) (ident (from 80 84 75 90) (codes "pow0")) (nmf 85 88 75 90 (codes "Pow"))) (expr_and (ident (from 89 92 86 89) (codes "pow")) (expr_and (int_lit (from 94 95 75 90) (codes "2")) no_exprs)) Plain) no_exprs) Plain)) no_stmts))) ∷ []) }

renamed_wrapper_steps : is_some (step_in renamed_wrapper.marks renamed_wrapper_start) ≡ true
unfolding passes keyword_spellings is_inline digits
renamed_wrapper_steps = refl

abbrev renamed_wrapper_next : TokensOf renamed_wrapper_new.text renamed_wrapper_new.tokens renamed_wrapper_new.comments → Next renamed_wrapper.marks renamed_wrapper_start (log_entry renamed_wrapper.marks renamed_wrapper_start (renamed_wrapper_steps) renamed_wrapper_t0 renamed_wrapper_new renamed_wrapper_tree) (stands_after renamed_wrapper.marks renamed_wrapper_start (renamed_wrapper_steps) renamed_wrapper_t0 renamed_wrapper_new renamed_wrapper_tree)
unfolding passes keyword_spellings is_inline digits reading renamed_wrapper_steps
renamed_wrapper_next h = next_by renamed_wrapper.marks renamed_wrapper_start (renamed_wrapper_steps) renamed_wrapper_t0 renamed_wrapper_new renamed_wrapper_tree refl refl h refl refl

-- the whole run, with the tokens of the texts
renamed_wrapper_inlined : (h0 : TokensOf renamed_wrapper_t0.text renamed_wrapper_t0.tokens renamed_wrapper_t0.comments) (h1 : TokensOf renamed_wrapper_t1.text renamed_wrapper_t1.tokens renamed_wrapper_t1.comments) (h2 : TokensOf renamed_wrapper_t2.text renamed_wrapper_t2.tokens renamed_wrapper_t2.comments) (h : TokensOf renamed_wrapper_new.text renamed_wrapper_new.tokens renamed_wrapper_new.comments) → IsInlining the_limits (folder small_module renamed_wrapper.texts) renamed_wrapper.packages renamed_wrapper.texts [] (((codes "main.go"), renamed_wrapper_new) ∷ ((codes "old/old.go"), renamed_wrapper_t1) ∷ ((codes "pow/pow.go"), renamed_wrapper_t2) ∷ []) (codes "main.go:7:10: inlined example.com/m/old.Square as expr\n")
unfolding passes keyword_spellings is_inline digits reading renamed_wrapper_steps renamed_wrapper_next
renamed_wrapper_inlined h0 h1 h2 h = inlining_by the_limits (folder small_module renamed_wrapper.texts) renamed_wrapper.packages renamed_wrapper.texts [] renamed_wrapper.marks (stands_after renamed_wrapper.marks renamed_wrapper_start (renamed_wrapper_steps) renamed_wrapper_t0 renamed_wrapper_new renamed_wrapper_tree) (log_entry renamed_wrapper.marks renamed_wrapper_start (renamed_wrapper_steps) renamed_wrapper_t0 renamed_wrapper_new renamed_wrapper_tree ∷ []) (codes "main.go:7:10: inlined example.com/m/old.Square as expr\n") renamed_wrapper_marks (module_by (codes "example.com/m") (module_text small_module) (record { path = codes "main.go"; text = renamed_wrapper_t0; tree = renamed_wrapper_f0; reads = record { scans = h0; spells = file_spelled renamed_wrapper_t0.tokens renamed_wrapper_f0 renamed_wrapper_spelled0 } } ∷ record { path = codes "old/old.go"; text = renamed_wrapper_t1; tree = renamed_wrapper_f1; reads = record { scans = h1; spells = file_spelled renamed_wrapper_t1.tokens renamed_wrapper_f1 renamed_wrapper_spelled1 } } ∷ record { path = codes "pow/pow.go"; text = renamed_wrapper_t2; tree = renamed_wrapper_f2; reads = record { scans = h2; spells = file_spelled renamed_wrapper_t2.tokens renamed_wrapper_f2 renamed_wrapper_spelled2 } } ∷ []) (folder small_module renamed_wrapper.texts) renamed_wrapper.packages renamed_wrapper.texts small_module_is refl refl refl refl refl refl refl refl refl) (goes_on renamed_wrapper_start (stands_after renamed_wrapper.marks renamed_wrapper_start (renamed_wrapper_steps) renamed_wrapper_t0 renamed_wrapper_new renamed_wrapper_tree) (stands_after renamed_wrapper.marks renamed_wrapper_start (renamed_wrapper_steps) renamed_wrapper_t0 renamed_wrapper_new renamed_wrapper_tree) (log_entry renamed_wrapper.marks renamed_wrapper_start (renamed_wrapper_steps) renamed_wrapper_t0 renamed_wrapper_new renamed_wrapper_tree) [] (renamed_wrapper_next h) (ends (stands_after renamed_wrapper.marks renamed_wrapper_start (renamed_wrapper_steps) renamed_wrapper_t0 renamed_wrapper_new renamed_wrapper_tree) refl)) (steps_on [] [] (log_entry renamed_wrapper.marks renamed_wrapper_start (renamed_wrapper_steps) renamed_wrapper_t0 renamed_wrapper_new renamed_wrapper_tree) renamed_wrapper_start (stands_after renamed_wrapper.marks renamed_wrapper_start (renamed_wrapper_steps) renamed_wrapper_t0 renamed_wrapper_new renamed_wrapper_tree) (stands_after renamed_wrapper.marks renamed_wrapper_start (renamed_wrapper_steps) renamed_wrapper_t0 renamed_wrapper_new renamed_wrapper_tree) (renamed_wrapper_next h) refl (begins (log_entry renamed_wrapper.marks renamed_wrapper_start (renamed_wrapper_steps) renamed_wrapper_t0 renamed_wrapper_new renamed_wrapper_tree ∷ []) (stands_after renamed_wrapper.marks renamed_wrapper_start (renamed_wrapper_steps) renamed_wrapper_t0 renamed_wrapper_new renamed_wrapper_tree))) (kept_by (log_entry renamed_wrapper.marks renamed_wrapper_start (renamed_wrapper_steps) renamed_wrapper_t0 renamed_wrapper_new renamed_wrapper_tree ∷ []) (codes "main.go") renamed_wrapper_t0.text renamed_wrapper_new.text (((codes "old/old.go"), renamed_wrapper_t1.text) ∷ ((codes "pow/pow.go"), renamed_wrapper_t2.text) ∷ []) (((codes "old/old.go"), renamed_wrapper_t1.text) ∷ ((codes "pow/pow.go"), renamed_wrapper_t2.text) ∷ []) refl refl (kept_by (log_entry renamed_wrapper.marks renamed_wrapper_start (renamed_wrapper_steps) renamed_wrapper_t0 renamed_wrapper_new renamed_wrapper_tree ∷ []) (codes "old/old.go") renamed_wrapper_t1.text renamed_wrapper_t1.text (((codes "pow/pow.go"), renamed_wrapper_t2.text) ∷ []) (((codes "pow/pow.go"), renamed_wrapper_t2.text) ∷ []) refl refl (kept_by (log_entry renamed_wrapper.marks renamed_wrapper_start (renamed_wrapper_steps) renamed_wrapper_t0 renamed_wrapper_new renamed_wrapper_tree ∷ []) (codes "pow/pow.go") renamed_wrapper_t2.text renamed_wrapper_t2.text [] [] refl refl run.none))) refl

renamed_wrapper_t0_found : TokensOf renamed_wrapper_t0.text renamed_wrapper_t0.tokens renamed_wrapper_t0.comments
unfolding piece_of lexeme_of longest_from next_of tokens_from comments_from keyword_spellings is_letter is_digit general_category general_category_rows value_in lib.Utf8.encode
renamed_wrapper_t0_found = tokens_by renamed_wrapper_t0.text renamed_wrapper_t0.tokens renamed_wrapper_t0.comments refl refl refl

renamed_wrapper_t1_found : TokensOf renamed_wrapper_t1.text renamed_wrapper_t1.tokens renamed_wrapper_t1.comments
unfolding piece_of lexeme_of longest_from next_of tokens_from comments_from keyword_spellings is_letter is_digit general_category general_category_rows value_in lib.Utf8.encode
renamed_wrapper_t1_found = tokens_by renamed_wrapper_t1.text renamed_wrapper_t1.tokens renamed_wrapper_t1.comments refl refl refl

renamed_wrapper_t2_found : TokensOf renamed_wrapper_t2.text renamed_wrapper_t2.tokens renamed_wrapper_t2.comments
unfolding piece_of lexeme_of longest_from next_of tokens_from comments_from keyword_spellings is_letter is_digit general_category general_category_rows value_in lib.Utf8.encode
renamed_wrapper_t2_found = tokens_by renamed_wrapper_t2.text renamed_wrapper_t2.tokens renamed_wrapper_t2.comments refl refl refl

renamed_wrapper_new_found : TokensOf renamed_wrapper_new.text renamed_wrapper_new.tokens renamed_wrapper_new.comments
unfolding piece_of lexeme_of longest_from next_of tokens_from comments_from keyword_spellings is_letter is_digit general_category general_category_rows value_in lib.Utf8.encode
renamed_wrapper_new_found = tokens_by renamed_wrapper_new.text renamed_wrapper_new.tokens renamed_wrapper_new.comments refl refl refl

renamed_wrapper_run : IsInlining the_limits (folder small_module renamed_wrapper.texts) renamed_wrapper.packages renamed_wrapper.texts [] (((codes "main.go"), renamed_wrapper_new) ∷ ((codes "old/old.go"), renamed_wrapper_t1) ∷ ((codes "pow/pow.go"), renamed_wrapper_t2) ∷ []) (codes "main.go:7:10: inlined example.com/m/old.Square as expr\n")
renamed_wrapper_run = renamed_wrapper_inlined renamed_wrapper_t0_found renamed_wrapper_t1_found renamed_wrapper_t2_found renamed_wrapper_new_found

-- A comment behind the call stays.
abbrev outer_comment_f0 : File Span
outer_comment_f0 = record { package_name = (nm 8 12 (codes "main")); imports = ((imps (at 14 40) false ((imp (at 21 40) None (codes "example.com/m/old")) ∷ [])) ∷ []); decls = ((fn (at 42 96) None (nm 47 51 (codes "main")) (sig [] []) (at 54 96) (stmt_and (define (at 57 63) ((nm 57 58 (codes "x")) ∷ []) (expr_and (int_lit (at 62 63) (codes "3")) no_exprs)) (stmt_and (eval (at 65 87) (call (at 65 87) (ident (at 65 72) (codes "println")) (expr_and (call (at 73 86) (selector (at 73 83) (ident (at 73 76) (codes "old")) (nm 77 83 (codes "Square"))) (expr_and (ident (at 84 85) (codes "x")) no_exprs) Plain) no_exprs) Plain)) no_stmts))) ∷ []) }

abbrev outer_comment_f1 : File Span
outer_comment_f1 = record { package_name = (nm 8 11 (codes "old")); imports = ((imps (at 13 39) false ((imp (at 20 39) None (codes "example.com/m/pow")) ∷ [])) ∷ []); decls = ((fn (at 57 105) None (nm 62 68 (codes "Square")) (sig ((param (at 69 74) (Some (nm 69 70 (codes "x"))) (named (at 71 74) None (nm 71 74 (codes "int")))) ∷ []) ((param (at 76 79) None (named (at 76 79) None (nm 76 79 (codes "int")))) ∷ [])) (at 80 105) (stmt_and (return_ (at 83 103) (expr_and (call (at 90 103) (selector (at 90 97) (ident (at 90 93) (codes "pow")) (nm 94 97 (codes "Pow"))) (expr_and (ident (at 98 99) (codes "x")) (expr_and (int_lit (at 101 102) (codes "2")) no_exprs)) Plain) no_exprs)) no_stmts)) ∷ []) }

abbrev outer_comment_f2 : File Span
outer_comment_f2 = record { package_name = (nm 8 11 (codes "pow")); imports = []; decls = ((fn (at 13 53) None (nm 18 21 (codes "Pow")) (sig ((param (at 22 30) (Some (nm 22 23 (codes "x"))) (named (at 27 30) None (nm 27 30 (codes "int")))) ∷ (param (at 25 30) (Some (nm 25 26 (codes "n"))) (named (at 27 30) None (nm 27 30 (codes "int")))) ∷ []) ((param (at 32 35) None (named (at 32 35) None (nm 32 35 (codes "int")))) ∷ [])) (at 36 53) (stmt_and (return_ (at 39 51) (expr_and (binary (at 46 51) Mul (ident (at 46 47) (codes "x")) (ident (at 50 51) (codes "n"))) no_exprs)) no_stmts)) ∷ []) }

abbrev outer_comment : Module
outer_comment = record { packages = (pack (codes "example.com/m") (codes "main") (source (codes "main.go") outer_comment_f0 ∷ []) ∷ pack (codes "example.com/m/old") (codes "old") (source (codes "old/old.go") outer_comment_f1 ∷ []) ∷ pack (codes "example.com/m/pow") (codes "pow") (source (codes "pow/pow.go") outer_comment_f2 ∷ []) ∷ []); marks = (mark 1 0 0 0 ∷ []); texts = (((codes "main.go"), record { text = (codes "package main\n\nimport \"example.com/m/old\"\n\nfunc main() {\n\tx := 3\n\tprintln(old.Square(x)) // why\n}\n"); tokens = ((tok Keyword 0 7 (codes "package")) ∷ (tok Ident 8 12 (codes "main")) ∷ (tok Inserted 12 12 (codes ";")) ∷ (tok Keyword 14 20 (codes "import")) ∷ (tok Str 21 40 (codes "\"example.com/m/old\"")) ∷ (tok Inserted 40 40 (codes ";")) ∷ (tok Keyword 42 46 (codes "func")) ∷ (tok Ident 47 51 (codes "main")) ∷ (tok Operator 51 52 (codes "(")) ∷ (tok Operator 52 53 (codes ")")) ∷ (tok Operator 54 55 (codes "{")) ∷ (tok Ident 57 58 (codes "x")) ∷ (tok Operator 59 61 (codes ":=")) ∷ (tok Integer 62 63 (codes "3")) ∷ (tok Inserted 63 63 (codes ";")) ∷ (tok Ident 65 72 (codes "println")) ∷ (tok Operator 72 73 (codes "(")) ∷ (tok Ident 73 76 (codes "old")) ∷ (tok Operator 76 77 (codes ".")) ∷ (tok Ident 77 83 (codes "Square")) ∷ (tok Operator 83 84 (codes "(")) ∷ (tok Ident 84 85 (codes "x")) ∷ (tok Operator 85 86 (codes ")")) ∷ (tok Operator 86 87 (codes ")")) ∷ (tok Inserted 87 87 (codes ";")) ∷ (tok Operator 95 96 (codes "}")) ∷ (tok Inserted 96 96 (codes ";")) ∷ []); comments = ((note 88 94) ∷ []) }) ∷ ((codes "old/old.go"), record { text = (codes "package old\n\nimport \"example.com/m/pow\"\n\n//go:fix inline\nfunc Square(x int) int {\n\treturn pow.Pow(x, 2)\n}\n"); tokens = ((tok Keyword 0 7 (codes "package")) ∷ (tok Ident 8 11 (codes "old")) ∷ (tok Inserted 11 11 (codes ";")) ∷ (tok Keyword 13 19 (codes "import")) ∷ (tok Str 20 39 (codes "\"example.com/m/pow\"")) ∷ (tok Inserted 39 39 (codes ";")) ∷ (tok Keyword 57 61 (codes "func")) ∷ (tok Ident 62 68 (codes "Square")) ∷ (tok Operator 68 69 (codes "(")) ∷ (tok Ident 69 70 (codes "x")) ∷ (tok Ident 71 74 (codes "int")) ∷ (tok Operator 74 75 (codes ")")) ∷ (tok Ident 76 79 (codes "int")) ∷ (tok Operator 80 81 (codes "{")) ∷ (tok Keyword 83 89 (codes "return")) ∷ (tok Ident 90 93 (codes "pow")) ∷ (tok Operator 93 94 (codes ".")) ∷ (tok Ident 94 97 (codes "Pow")) ∷ (tok Operator 97 98 (codes "(")) ∷ (tok Ident 98 99 (codes "x")) ∷ (tok Operator 99 100 (codes ",")) ∷ (tok Integer 101 102 (codes "2")) ∷ (tok Operator 102 103 (codes ")")) ∷ (tok Inserted 103 103 (codes ";")) ∷ (tok Operator 104 105 (codes "}")) ∷ (tok Inserted 105 105 (codes ";")) ∷ []); comments = ((note 41 56) ∷ []) }) ∷ ((codes "pow/pow.go"), record { text = (codes "package pow\n\nfunc Pow(x, n int) int {\n\treturn x * n\n}\n"); tokens = ((tok Keyword 0 7 (codes "package")) ∷ (tok Ident 8 11 (codes "pow")) ∷ (tok Inserted 11 11 (codes ";")) ∷ (tok Keyword 13 17 (codes "func")) ∷ (tok Ident 18 21 (codes "Pow")) ∷ (tok Operator 21 22 (codes "(")) ∷ (tok Ident 22 23 (codes "x")) ∷ (tok Operator 23 24 (codes ",")) ∷ (tok Ident 25 26 (codes "n")) ∷ (tok Ident 27 30 (codes "int")) ∷ (tok Operator 30 31 (codes ")")) ∷ (tok Ident 32 35 (codes "int")) ∷ (tok Operator 36 37 (codes "{")) ∷ (tok Keyword 39 45 (codes "return")) ∷ (tok Ident 46 47 (codes "x")) ∷ (tok Operator 48 49 (codes "*")) ∷ (tok Ident 50 51 (codes "n")) ∷ (tok Inserted 51 51 (codes ";")) ∷ (tok Operator 52 53 (codes "}")) ∷ (tok Inserted 53 53 (codes ";")) ∷ []); comments = [] }) ∷ []) }

abbrev outer_comment_t0 : FileText
outer_comment_t0 = (record { text = (codes "package main\n\nimport \"example.com/m/old\"\n\nfunc main() {\n\tx := 3\n\tprintln(old.Square(x)) // why\n}\n"); tokens = ((tok Keyword 0 7 (codes "package")) ∷ (tok Ident 8 12 (codes "main")) ∷ (tok Inserted 12 12 (codes ";")) ∷ (tok Keyword 14 20 (codes "import")) ∷ (tok Str 21 40 (codes "\"example.com/m/old\"")) ∷ (tok Inserted 40 40 (codes ";")) ∷ (tok Keyword 42 46 (codes "func")) ∷ (tok Ident 47 51 (codes "main")) ∷ (tok Operator 51 52 (codes "(")) ∷ (tok Operator 52 53 (codes ")")) ∷ (tok Operator 54 55 (codes "{")) ∷ (tok Ident 57 58 (codes "x")) ∷ (tok Operator 59 61 (codes ":=")) ∷ (tok Integer 62 63 (codes "3")) ∷ (tok Inserted 63 63 (codes ";")) ∷ (tok Ident 65 72 (codes "println")) ∷ (tok Operator 72 73 (codes "(")) ∷ (tok Ident 73 76 (codes "old")) ∷ (tok Operator 76 77 (codes ".")) ∷ (tok Ident 77 83 (codes "Square")) ∷ (tok Operator 83 84 (codes "(")) ∷ (tok Ident 84 85 (codes "x")) ∷ (tok Operator 85 86 (codes ")")) ∷ (tok Operator 86 87 (codes ")")) ∷ (tok Inserted 87 87 (codes ";")) ∷ (tok Operator 95 96 (codes "}")) ∷ (tok Inserted 96 96 (codes ";")) ∷ []); comments = ((note 88 94) ∷ []) })

abbrev outer_comment_t1 : FileText
outer_comment_t1 = (record { text = (codes "package old\n\nimport \"example.com/m/pow\"\n\n//go:fix inline\nfunc Square(x int) int {\n\treturn pow.Pow(x, 2)\n}\n"); tokens = ((tok Keyword 0 7 (codes "package")) ∷ (tok Ident 8 11 (codes "old")) ∷ (tok Inserted 11 11 (codes ";")) ∷ (tok Keyword 13 19 (codes "import")) ∷ (tok Str 20 39 (codes "\"example.com/m/pow\"")) ∷ (tok Inserted 39 39 (codes ";")) ∷ (tok Keyword 57 61 (codes "func")) ∷ (tok Ident 62 68 (codes "Square")) ∷ (tok Operator 68 69 (codes "(")) ∷ (tok Ident 69 70 (codes "x")) ∷ (tok Ident 71 74 (codes "int")) ∷ (tok Operator 74 75 (codes ")")) ∷ (tok Ident 76 79 (codes "int")) ∷ (tok Operator 80 81 (codes "{")) ∷ (tok Keyword 83 89 (codes "return")) ∷ (tok Ident 90 93 (codes "pow")) ∷ (tok Operator 93 94 (codes ".")) ∷ (tok Ident 94 97 (codes "Pow")) ∷ (tok Operator 97 98 (codes "(")) ∷ (tok Ident 98 99 (codes "x")) ∷ (tok Operator 99 100 (codes ",")) ∷ (tok Integer 101 102 (codes "2")) ∷ (tok Operator 102 103 (codes ")")) ∷ (tok Inserted 103 103 (codes ";")) ∷ (tok Operator 104 105 (codes "}")) ∷ (tok Inserted 105 105 (codes ";")) ∷ []); comments = ((note 41 56) ∷ []) })

abbrev outer_comment_t2 : FileText
outer_comment_t2 = (record { text = (codes "package pow\n\nfunc Pow(x, n int) int {\n\treturn x * n\n}\n"); tokens = ((tok Keyword 0 7 (codes "package")) ∷ (tok Ident 8 11 (codes "pow")) ∷ (tok Inserted 11 11 (codes ";")) ∷ (tok Keyword 13 17 (codes "func")) ∷ (tok Ident 18 21 (codes "Pow")) ∷ (tok Operator 21 22 (codes "(")) ∷ (tok Ident 22 23 (codes "x")) ∷ (tok Operator 23 24 (codes ",")) ∷ (tok Ident 25 26 (codes "n")) ∷ (tok Ident 27 30 (codes "int")) ∷ (tok Operator 30 31 (codes ")")) ∷ (tok Ident 32 35 (codes "int")) ∷ (tok Operator 36 37 (codes "{")) ∷ (tok Keyword 39 45 (codes "return")) ∷ (tok Ident 46 47 (codes "x")) ∷ (tok Operator 48 49 (codes "*")) ∷ (tok Ident 50 51 (codes "n")) ∷ (tok Inserted 51 51 (codes ";")) ∷ (tok Operator 52 53 (codes "}")) ∷ (tok Inserted 53 53 (codes ";")) ∷ []); comments = [] })

outer_comment_marks : marks_of outer_comment.packages outer_comment.texts [] ≡ outer_comment.marks
unfolding passes keyword_spellings is_inline digits
outer_comment_marks = refl

outer_comment_spelled0 : read_at span_to read_front (lexemes outer_comment_t0.tokens) ≡ Some (outer_comment_f0, [])
unfolding reading
outer_comment_spelled0 = refl

outer_comment_spelled1 : read_at span_to read_front (lexemes outer_comment_t1.tokens) ≡ Some (outer_comment_f1, [])
unfolding reading
outer_comment_spelled1 = refl

outer_comment_spelled2 : read_at span_to read_front (lexemes outer_comment_t2.tokens) ≡ Some (outer_comment_f2, [])
unfolding reading
outer_comment_spelled2 = refl

abbrev outer_comment_start : Standing
outer_comment_start = standing_as_read outer_comment.packages outer_comment.texts

abbrev outer_comment_new : FileText
outer_comment_new = (record { text = (codes "package main\n\nimport \"example.com/m/pow\"\n\nfunc main() {\n\tx := 3\n\tprintln(pow.Pow(x, 2)) // why\n}\n"); tokens = ((tok Keyword 0 7 (codes "package")) ∷ (tok Ident 8 12 (codes "main")) ∷ (tok Inserted 12 12 (codes ";")) ∷ (tok Keyword 14 20 (codes "import")) ∷ (tok Str 21 40 (codes "\"example.com/m/pow\"")) ∷ (tok Inserted 40 40 (codes ";")) ∷ (tok Keyword 42 46 (codes "func")) ∷ (tok Ident 47 51 (codes "main")) ∷ (tok Operator 51 52 (codes "(")) ∷ (tok Operator 52 53 (codes ")")) ∷ (tok Operator 54 55 (codes "{")) ∷ (tok Ident 57 58 (codes "x")) ∷ (tok Operator 59 61 (codes ":=")) ∷ (tok Integer 62 63 (codes "3")) ∷ (tok Inserted 63 63 (codes ";")) ∷ (tok Ident 65 72 (codes "println")) ∷ (tok Operator 72 73 (codes "(")) ∷ (tok Ident 73 76 (codes "pow")) ∷ (tok Operator 76 77 (codes ".")) ∷ (tok Ident 77 80 (codes "Pow")) ∷ (tok Operator 80 81 (codes "(")) ∷ (tok Ident 81 82 (codes "x")) ∷ (tok Operator 82 83 (codes ",")) ∷ (tok Integer 84 85 (codes "2")) ∷ (tok Operator 85 86 (codes ")")) ∷ (tok Operator 86 87 (codes ")")) ∷ (tok Inserted 87 87 (codes ";")) ∷ (tok Operator 95 96 (codes "}")) ∷ (tok Inserted 96 96 (codes ";")) ∷ []); comments = ((note 88 94) ∷ []) })

abbrev outer_comment_tree : File At
outer_comment_tree = record { package_name = (nmf 8 12 8 12 (codes "main")); imports = ((imps (from 14 40 14 40) false ((imp (from 21 40 21 40) None (codes "example.com/m/pow")) ∷ [])) ∷ []); decls = ((fn (from 42 96 42 96) None (nmf 47 51 47 51 (codes "main")) (sig [] []) (from 54 96 54 96) (stmt_and (define (from 57 63 57 63) ((nmf 57 58 57 58 (codes "x")) ∷ []) (expr_and (int_lit (from 62 63 62 63) (codes "3")) no_exprs)) (stmt_and (eval (from 65 87 65 87) (call (from 65 87 65 87) (ident (from 65 72 65 72) (codes "println")) (expr_and (call (from 73 86 73 86) (selector (from 73 80 73 86) (ident (from 73 76 73 86) (codes "pow")) (nmf 77 80 73 86 (codes "Pow"))) (expr_and (ident (from 81 82 84 85) (codes "x")) (expr_and (int_lit (from 84 85 73 86) (codes "2")) no_exprs)) Plain) no_exprs) Plain)) no_stmts))) ∷ []) }

outer_comment_steps : is_some (step_in outer_comment.marks outer_comment_start) ≡ true
unfolding passes keyword_spellings is_inline digits
outer_comment_steps = refl

abbrev outer_comment_next : TokensOf outer_comment_new.text outer_comment_new.tokens outer_comment_new.comments → Next outer_comment.marks outer_comment_start (log_entry outer_comment.marks outer_comment_start (outer_comment_steps) outer_comment_t0 outer_comment_new outer_comment_tree) (stands_after outer_comment.marks outer_comment_start (outer_comment_steps) outer_comment_t0 outer_comment_new outer_comment_tree)
unfolding passes keyword_spellings is_inline digits reading outer_comment_steps
outer_comment_next h = next_by outer_comment.marks outer_comment_start (outer_comment_steps) outer_comment_t0 outer_comment_new outer_comment_tree refl refl h refl refl

-- the whole run, with the tokens of the texts
outer_comment_inlined : (h0 : TokensOf outer_comment_t0.text outer_comment_t0.tokens outer_comment_t0.comments) (h1 : TokensOf outer_comment_t1.text outer_comment_t1.tokens outer_comment_t1.comments) (h2 : TokensOf outer_comment_t2.text outer_comment_t2.tokens outer_comment_t2.comments) (h : TokensOf outer_comment_new.text outer_comment_new.tokens outer_comment_new.comments) → IsInlining the_limits (folder small_module outer_comment.texts) outer_comment.packages outer_comment.texts [] (((codes "main.go"), outer_comment_new) ∷ ((codes "old/old.go"), outer_comment_t1) ∷ ((codes "pow/pow.go"), outer_comment_t2) ∷ []) (codes "main.go:7:10: inlined example.com/m/old.Square as expr\n")
unfolding passes keyword_spellings is_inline digits reading outer_comment_steps outer_comment_next
outer_comment_inlined h0 h1 h2 h = inlining_by the_limits (folder small_module outer_comment.texts) outer_comment.packages outer_comment.texts [] outer_comment.marks (stands_after outer_comment.marks outer_comment_start (outer_comment_steps) outer_comment_t0 outer_comment_new outer_comment_tree) (log_entry outer_comment.marks outer_comment_start (outer_comment_steps) outer_comment_t0 outer_comment_new outer_comment_tree ∷ []) (codes "main.go:7:10: inlined example.com/m/old.Square as expr\n") outer_comment_marks (module_by (codes "example.com/m") (module_text small_module) (record { path = codes "main.go"; text = outer_comment_t0; tree = outer_comment_f0; reads = record { scans = h0; spells = file_spelled outer_comment_t0.tokens outer_comment_f0 outer_comment_spelled0 } } ∷ record { path = codes "old/old.go"; text = outer_comment_t1; tree = outer_comment_f1; reads = record { scans = h1; spells = file_spelled outer_comment_t1.tokens outer_comment_f1 outer_comment_spelled1 } } ∷ record { path = codes "pow/pow.go"; text = outer_comment_t2; tree = outer_comment_f2; reads = record { scans = h2; spells = file_spelled outer_comment_t2.tokens outer_comment_f2 outer_comment_spelled2 } } ∷ []) (folder small_module outer_comment.texts) outer_comment.packages outer_comment.texts small_module_is refl refl refl refl refl refl refl refl refl) (goes_on outer_comment_start (stands_after outer_comment.marks outer_comment_start (outer_comment_steps) outer_comment_t0 outer_comment_new outer_comment_tree) (stands_after outer_comment.marks outer_comment_start (outer_comment_steps) outer_comment_t0 outer_comment_new outer_comment_tree) (log_entry outer_comment.marks outer_comment_start (outer_comment_steps) outer_comment_t0 outer_comment_new outer_comment_tree) [] (outer_comment_next h) (ends (stands_after outer_comment.marks outer_comment_start (outer_comment_steps) outer_comment_t0 outer_comment_new outer_comment_tree) refl)) (steps_on [] [] (log_entry outer_comment.marks outer_comment_start (outer_comment_steps) outer_comment_t0 outer_comment_new outer_comment_tree) outer_comment_start (stands_after outer_comment.marks outer_comment_start (outer_comment_steps) outer_comment_t0 outer_comment_new outer_comment_tree) (stands_after outer_comment.marks outer_comment_start (outer_comment_steps) outer_comment_t0 outer_comment_new outer_comment_tree) (outer_comment_next h) refl (begins (log_entry outer_comment.marks outer_comment_start (outer_comment_steps) outer_comment_t0 outer_comment_new outer_comment_tree ∷ []) (stands_after outer_comment.marks outer_comment_start (outer_comment_steps) outer_comment_t0 outer_comment_new outer_comment_tree))) (kept_by (log_entry outer_comment.marks outer_comment_start (outer_comment_steps) outer_comment_t0 outer_comment_new outer_comment_tree ∷ []) (codes "main.go") outer_comment_t0.text outer_comment_new.text (((codes "old/old.go"), outer_comment_t1.text) ∷ ((codes "pow/pow.go"), outer_comment_t2.text) ∷ []) (((codes "old/old.go"), outer_comment_t1.text) ∷ ((codes "pow/pow.go"), outer_comment_t2.text) ∷ []) refl refl (kept_by (log_entry outer_comment.marks outer_comment_start (outer_comment_steps) outer_comment_t0 outer_comment_new outer_comment_tree ∷ []) (codes "old/old.go") outer_comment_t1.text outer_comment_t1.text (((codes "pow/pow.go"), outer_comment_t2.text) ∷ []) (((codes "pow/pow.go"), outer_comment_t2.text) ∷ []) refl refl (kept_by (log_entry outer_comment.marks outer_comment_start (outer_comment_steps) outer_comment_t0 outer_comment_new outer_comment_tree ∷ []) (codes "pow/pow.go") outer_comment_t2.text outer_comment_t2.text [] [] refl refl run.none))) refl

outer_comment_t0_found : TokensOf outer_comment_t0.text outer_comment_t0.tokens outer_comment_t0.comments
unfolding piece_of lexeme_of longest_from next_of tokens_from comments_from keyword_spellings is_letter is_digit general_category general_category_rows value_in lib.Utf8.encode
outer_comment_t0_found = tokens_by outer_comment_t0.text outer_comment_t0.tokens outer_comment_t0.comments refl refl refl

outer_comment_t1_found : TokensOf outer_comment_t1.text outer_comment_t1.tokens outer_comment_t1.comments
unfolding piece_of lexeme_of longest_from next_of tokens_from comments_from keyword_spellings is_letter is_digit general_category general_category_rows value_in lib.Utf8.encode
outer_comment_t1_found = tokens_by outer_comment_t1.text outer_comment_t1.tokens outer_comment_t1.comments refl refl refl

outer_comment_t2_found : TokensOf outer_comment_t2.text outer_comment_t2.tokens outer_comment_t2.comments
unfolding piece_of lexeme_of longest_from next_of tokens_from comments_from keyword_spellings is_letter is_digit general_category general_category_rows value_in lib.Utf8.encode
outer_comment_t2_found = tokens_by outer_comment_t2.text outer_comment_t2.tokens outer_comment_t2.comments refl refl refl

outer_comment_new_found : TokensOf outer_comment_new.text outer_comment_new.tokens outer_comment_new.comments
unfolding piece_of lexeme_of longest_from next_of tokens_from comments_from keyword_spellings is_letter is_digit general_category general_category_rows value_in lib.Utf8.encode
outer_comment_new_found = tokens_by outer_comment_new.text outer_comment_new.tokens outer_comment_new.comments refl refl refl

outer_comment_run : IsInlining the_limits (folder small_module outer_comment.texts) outer_comment.packages outer_comment.texts [] (((codes "main.go"), outer_comment_new) ∷ ((codes "old/old.go"), outer_comment_t1) ∷ ((codes "pow/pow.go"), outer_comment_t2) ∷ []) (codes "main.go:7:10: inlined example.com/m/old.Square as expr\n")
outer_comment_run = outer_comment_inlined outer_comment_t0_found outer_comment_t1_found outer_comment_t2_found outer_comment_new_found
