-- Runs of several steps, whole.
use Rattle.std.proofs.Common.{◌≡◌, refl}
use Rattle.std.specs.Prelude.{true, [], ◌∷◌, Some, None, codes}
use Rattle.go_tree.specs.declared.exprs.Rest.TheVariants.{Plain}
use Rattle.go_tree.specs.declared.spans.Span.{Span}
use Rattle.go_tree.specs.declared.tokens.TokenKind.TheVariants.{Ident, Keyword, Operator, Integer, Inserted}
use Rattle.go_tree.specs.declared.operators.BinOp.TheVariants.{Mul, Add}
use Rattle.go_tree.specs.Tree.{named, ident, int_lit, call, binary, no_exprs, expr_and, eval, define, return_, no_stmts, stmt_and}
use Rattle.go_tree.specs.File.{File}
use Rattle.run_rules.specs.FormTrees.{ExprForm}
use Rattle.run_rules.proofs.CaseTools.{at, nm, tok, note, param, sig, fn, pack, source, mark, Module}
use Rattle.go_layout.specs.SpellsSpans.{span_to}
use Rattle.go_tree.specs.GoWords.Terminals.{lexemes}
use Rattle.go_tree.specs.GoWords.Tokens.Pieces.{keyword_spellings}
use Rattle.go_layout.specs.Goals.{read_front}
use Rattle.go_layout.proofs.Texts.{reading}
use Rattle.run_rules.proofs.CaseTools.{read_at}
use Rattle.directive_scan.specs.Lines.{is_inline}
use Rattle.pkg_graph.specs.ModuleFiles.Internal.{passes}
use Rattle.std.specs.Prelude.{is_some}
use Rattle.run_rules.specs.Texts.{FileText}
use Rattle.run_rules.specs.Steps.{At}
use Rattle.run_rules.specs.Marks.{marks_of}
use Rattle.run_rules.specs.Run.{Standing, Logged, Next, step_in, goes_on, ends, the_limits}
use Rattle.run_rules.specs.Run as run
use Rattle.go_layout.proofs.Whole.{file_spelled}
use Rattle.std.specs.Fmt.{digits}
use Rattle.run_rules.specs.Inlining.{standing_as_read, begins, steps_on, IsInlining}
use Rattle.run_rules.proofs.CaseTools.{from, nmf}
use Rattle.run_rules.proofs.Instances.{next_by, kept_by, inlining_by}
use Rattle.run_rules.proofs.ModulesRead.{module_by, module_text, folder, small_module, small_module_is}
use Rattle.go_tree.specs.GoWords.Tokens.{TokensOf}
use Rattle.ucd_category.specs.GeneralCategory.{general_category}
use Rattle.ucd_category.specs.GeneralCategoryRows.{general_category_rows}
use Rattle.ucd_table.specs.Rows.{value_in}
use Rattle.go_tree.specs.GoWords.Tokens.{tokens_from, comments_from}
use Rattle.go_tree.specs.GoWords.Tokens.Characters.{is_letter, is_digit}
use Rattle.directive_scan.specs.Automaton.{next_of, longest_from}
use Rattle.directive_scan.specs.Pieces.{piece_of, lexeme_of}
use Rattle.run_rules.proofs.TokensFound.{tokens_by}

-- A use that a step brings in comes from the use that was replaced; what the argument holds stays what it was.
abbrev brought_f0 : File Span
brought_f0 = record { package_name = (nm 8 12 (codes "main")); imports = []; decls = ((fn (at 14 56) None (nm 19 23 (codes "main")) (sig [] []) (at 26 56) (stmt_and (define (at 29 35) ((nm 29 30 (codes "x")) ∷ []) (expr_and (int_lit (at 34 35) (codes "1")) no_exprs)) (stmt_and (eval (at 37 54) (call (at 37 54) (ident (at 37 44) (codes "println")) (expr_and (call (at 45 53) (ident (at 45 50) (codes "Outer")) (expr_and (ident (at 51 52) (codes "x")) no_exprs) Plain) no_exprs) Plain)) no_stmts))) ∷ (fn (at 74 119) None (nm 79 84 (codes "Outer")) (sig ((param (at 85 90) (Some (nm 85 86 (codes "x"))) (named (at 87 90) None (nm 87 90 (codes "int")))) ∷ []) ((param (at 92 95) None (named (at 92 95) None (nm 92 95 (codes "int")))) ∷ [])) (at 96 119) (stmt_and (return_ (at 98 117) (expr_and (binary (at 105 117) Add (call (at 105 113) (ident (at 105 110) (codes "Inner")) (expr_and (ident (at 111 112) (codes "x")) no_exprs) Plain) (int_lit (at 116 117) (codes "1"))) no_exprs)) no_stmts)) ∷ (fn (at 137 175) None (nm 142 147 (codes "Inner")) (sig ((param (at 148 153) (Some (nm 148 149 (codes "x"))) (named (at 150 153) None (nm 150 153 (codes "int")))) ∷ []) ((param (at 155 158) None (named (at 155 158) None (nm 155 158 (codes "int")))) ∷ [])) (at 159 175) (stmt_and (return_ (at 161 173) (expr_and (binary (at 168 173) Mul (int_lit (at 168 169) (codes "2")) (ident (at 172 173) (codes "x"))) no_exprs)) no_stmts)) ∷ []) }

brought_f0_read : read_at span_to read_front (lexemes ((tok Keyword 0 7 (codes "package")) ∷ (tok Ident 8 12 (codes "main")) ∷ (tok Inserted 12 12 (codes ";")) ∷ (tok Keyword 14 18 (codes "func")) ∷ (tok Ident 19 23 (codes "main")) ∷ (tok Operator 23 24 (codes "(")) ∷ (tok Operator 24 25 (codes ")")) ∷ (tok Operator 26 27 (codes "{")) ∷ (tok Ident 29 30 (codes "x")) ∷ (tok Operator 31 33 (codes ":=")) ∷ (tok Integer 34 35 (codes "1")) ∷ (tok Inserted 35 35 (codes ";")) ∷ (tok Ident 37 44 (codes "println")) ∷ (tok Operator 44 45 (codes "(")) ∷ (tok Ident 45 50 (codes "Outer")) ∷ (tok Operator 50 51 (codes "(")) ∷ (tok Ident 51 52 (codes "x")) ∷ (tok Operator 52 53 (codes ")")) ∷ (tok Operator 53 54 (codes ")")) ∷ (tok Inserted 54 54 (codes ";")) ∷ (tok Operator 55 56 (codes "}")) ∷ (tok Inserted 56 56 (codes ";")) ∷ (tok Keyword 74 78 (codes "func")) ∷ (tok Ident 79 84 (codes "Outer")) ∷ (tok Operator 84 85 (codes "(")) ∷ (tok Ident 85 86 (codes "x")) ∷ (tok Ident 87 90 (codes "int")) ∷ (tok Operator 90 91 (codes ")")) ∷ (tok Ident 92 95 (codes "int")) ∷ (tok Operator 96 97 (codes "{")) ∷ (tok Keyword 98 104 (codes "return")) ∷ (tok Ident 105 110 (codes "Inner")) ∷ (tok Operator 110 111 (codes "(")) ∷ (tok Ident 111 112 (codes "x")) ∷ (tok Operator 112 113 (codes ")")) ∷ (tok Operator 114 115 (codes "+")) ∷ (tok Integer 116 117 (codes "1")) ∷ (tok Operator 118 119 (codes "}")) ∷ (tok Inserted 119 119 (codes ";")) ∷ (tok Keyword 137 141 (codes "func")) ∷ (tok Ident 142 147 (codes "Inner")) ∷ (tok Operator 147 148 (codes "(")) ∷ (tok Ident 148 149 (codes "x")) ∷ (tok Ident 150 153 (codes "int")) ∷ (tok Operator 153 154 (codes ")")) ∷ (tok Ident 155 158 (codes "int")) ∷ (tok Operator 159 160 (codes "{")) ∷ (tok Keyword 161 167 (codes "return")) ∷ (tok Integer 168 169 (codes "2")) ∷ (tok Operator 170 171 (codes "*")) ∷ (tok Ident 172 173 (codes "x")) ∷ (tok Operator 174 175 (codes "}")) ∷ (tok Inserted 175 175 (codes ";")) ∷ [])) ≡ Some (brought_f0, [])
unfolding reading
brought_f0_read = refl

abbrev brought : Module
brought = record { packages = (pack (codes "example.com/m") (codes "main") (source (codes "main.go") brought_f0 ∷ []) ∷ []); marks = (mark 0 0 1 0 ∷ mark 0 0 2 0 ∷ []); texts = (((codes "main.go"), record { text = (codes "package main\n\nfunc main() {\n\tx := 1\n\tprintln(Outer(x))\n}\n\n//go:fix inline\nfunc Outer(x int) int { return Inner(x) + 1 }\n\n//go:fix inline\nfunc Inner(x int) int { return 2 * x }\n"); tokens = ((tok Keyword 0 7 (codes "package")) ∷ (tok Ident 8 12 (codes "main")) ∷ (tok Inserted 12 12 (codes ";")) ∷ (tok Keyword 14 18 (codes "func")) ∷ (tok Ident 19 23 (codes "main")) ∷ (tok Operator 23 24 (codes "(")) ∷ (tok Operator 24 25 (codes ")")) ∷ (tok Operator 26 27 (codes "{")) ∷ (tok Ident 29 30 (codes "x")) ∷ (tok Operator 31 33 (codes ":=")) ∷ (tok Integer 34 35 (codes "1")) ∷ (tok Inserted 35 35 (codes ";")) ∷ (tok Ident 37 44 (codes "println")) ∷ (tok Operator 44 45 (codes "(")) ∷ (tok Ident 45 50 (codes "Outer")) ∷ (tok Operator 50 51 (codes "(")) ∷ (tok Ident 51 52 (codes "x")) ∷ (tok Operator 52 53 (codes ")")) ∷ (tok Operator 53 54 (codes ")")) ∷ (tok Inserted 54 54 (codes ";")) ∷ (tok Operator 55 56 (codes "}")) ∷ (tok Inserted 56 56 (codes ";")) ∷ (tok Keyword 74 78 (codes "func")) ∷ (tok Ident 79 84 (codes "Outer")) ∷ (tok Operator 84 85 (codes "(")) ∷ (tok Ident 85 86 (codes "x")) ∷ (tok Ident 87 90 (codes "int")) ∷ (tok Operator 90 91 (codes ")")) ∷ (tok Ident 92 95 (codes "int")) ∷ (tok Operator 96 97 (codes "{")) ∷ (tok Keyword 98 104 (codes "return")) ∷ (tok Ident 105 110 (codes "Inner")) ∷ (tok Operator 110 111 (codes "(")) ∷ (tok Ident 111 112 (codes "x")) ∷ (tok Operator 112 113 (codes ")")) ∷ (tok Operator 114 115 (codes "+")) ∷ (tok Integer 116 117 (codes "1")) ∷ (tok Operator 118 119 (codes "}")) ∷ (tok Inserted 119 119 (codes ";")) ∷ (tok Keyword 137 141 (codes "func")) ∷ (tok Ident 142 147 (codes "Inner")) ∷ (tok Operator 147 148 (codes "(")) ∷ (tok Ident 148 149 (codes "x")) ∷ (tok Ident 150 153 (codes "int")) ∷ (tok Operator 153 154 (codes ")")) ∷ (tok Ident 155 158 (codes "int")) ∷ (tok Operator 159 160 (codes "{")) ∷ (tok Keyword 161 167 (codes "return")) ∷ (tok Integer 168 169 (codes "2")) ∷ (tok Operator 170 171 (codes "*")) ∷ (tok Ident 172 173 (codes "x")) ∷ (tok Operator 174 175 (codes "}")) ∷ (tok Inserted 175 175 (codes ";")) ∷ []); comments = ((note 58 73) ∷ (note 121 136) ∷ []) }) ∷ []) }

abbrev brought_t0 : FileText
brought_t0 = (record { text = (codes "package main\n\nfunc main() {\n\tx := 1\n\tprintln(Outer(x))\n}\n\n//go:fix inline\nfunc Outer(x int) int { return Inner(x) + 1 }\n\n//go:fix inline\nfunc Inner(x int) int { return 2 * x }\n"); tokens = ((tok Keyword 0 7 (codes "package")) ∷ (tok Ident 8 12 (codes "main")) ∷ (tok Inserted 12 12 (codes ";")) ∷ (tok Keyword 14 18 (codes "func")) ∷ (tok Ident 19 23 (codes "main")) ∷ (tok Operator 23 24 (codes "(")) ∷ (tok Operator 24 25 (codes ")")) ∷ (tok Operator 26 27 (codes "{")) ∷ (tok Ident 29 30 (codes "x")) ∷ (tok Operator 31 33 (codes ":=")) ∷ (tok Integer 34 35 (codes "1")) ∷ (tok Inserted 35 35 (codes ";")) ∷ (tok Ident 37 44 (codes "println")) ∷ (tok Operator 44 45 (codes "(")) ∷ (tok Ident 45 50 (codes "Outer")) ∷ (tok Operator 50 51 (codes "(")) ∷ (tok Ident 51 52 (codes "x")) ∷ (tok Operator 52 53 (codes ")")) ∷ (tok Operator 53 54 (codes ")")) ∷ (tok Inserted 54 54 (codes ";")) ∷ (tok Operator 55 56 (codes "}")) ∷ (tok Inserted 56 56 (codes ";")) ∷ (tok Keyword 74 78 (codes "func")) ∷ (tok Ident 79 84 (codes "Outer")) ∷ (tok Operator 84 85 (codes "(")) ∷ (tok Ident 85 86 (codes "x")) ∷ (tok Ident 87 90 (codes "int")) ∷ (tok Operator 90 91 (codes ")")) ∷ (tok Ident 92 95 (codes "int")) ∷ (tok Operator 96 97 (codes "{")) ∷ (tok Keyword 98 104 (codes "return")) ∷ (tok Ident 105 110 (codes "Inner")) ∷ (tok Operator 110 111 (codes "(")) ∷ (tok Ident 111 112 (codes "x")) ∷ (tok Operator 112 113 (codes ")")) ∷ (tok Operator 114 115 (codes "+")) ∷ (tok Integer 116 117 (codes "1")) ∷ (tok Operator 118 119 (codes "}")) ∷ (tok Inserted 119 119 (codes ";")) ∷ (tok Keyword 137 141 (codes "func")) ∷ (tok Ident 142 147 (codes "Inner")) ∷ (tok Operator 147 148 (codes "(")) ∷ (tok Ident 148 149 (codes "x")) ∷ (tok Ident 150 153 (codes "int")) ∷ (tok Operator 153 154 (codes ")")) ∷ (tok Ident 155 158 (codes "int")) ∷ (tok Operator 159 160 (codes "{")) ∷ (tok Keyword 161 167 (codes "return")) ∷ (tok Integer 168 169 (codes "2")) ∷ (tok Operator 170 171 (codes "*")) ∷ (tok Ident 172 173 (codes "x")) ∷ (tok Operator 174 175 (codes "}")) ∷ (tok Inserted 175 175 (codes ";")) ∷ []); comments = ((note 58 73) ∷ (note 121 136) ∷ []) })

brought_spelled0 : read_at span_to read_front (lexemes brought_t0.tokens) ≡ Some (brought_f0, [])
unfolding reading
brought_spelled0 = refl

brought_marks : marks_of brought.packages brought.texts [] ≡ brought.marks
unfolding passes keyword_spellings is_inline digits
brought_marks = refl

abbrev brought_s0 : Standing
brought_s0 = standing_as_read brought.packages brought.texts

abbrev brought_n1 : FileText
brought_n1 = (record { text = (codes "package main\n\nfunc main() {\n\tx := 1\n\tprintln(Inner(x) + 1)\n}\n\n//go:fix inline\nfunc Outer(x int) int { return Inner(x) + 1 }\n\n//go:fix inline\nfunc Inner(x int) int { return 2 * x }\n"); tokens = ((tok Keyword 0 7 (codes "package")) ∷ (tok Ident 8 12 (codes "main")) ∷ (tok Inserted 12 12 (codes ";")) ∷ (tok Keyword 14 18 (codes "func")) ∷ (tok Ident 19 23 (codes "main")) ∷ (tok Operator 23 24 (codes "(")) ∷ (tok Operator 24 25 (codes ")")) ∷ (tok Operator 26 27 (codes "{")) ∷ (tok Ident 29 30 (codes "x")) ∷ (tok Operator 31 33 (codes ":=")) ∷ (tok Integer 34 35 (codes "1")) ∷ (tok Inserted 35 35 (codes ";")) ∷ (tok Ident 37 44 (codes "println")) ∷ (tok Operator 44 45 (codes "(")) ∷ (tok Ident 45 50 (codes "Inner")) ∷ (tok Operator 50 51 (codes "(")) ∷ (tok Ident 51 52 (codes "x")) ∷ (tok Operator 52 53 (codes ")")) ∷ (tok Operator 54 55 (codes "+")) ∷ (tok Integer 56 57 (codes "1")) ∷ (tok Operator 57 58 (codes ")")) ∷ (tok Inserted 58 58 (codes ";")) ∷ (tok Operator 59 60 (codes "}")) ∷ (tok Inserted 60 60 (codes ";")) ∷ (tok Keyword 78 82 (codes "func")) ∷ (tok Ident 83 88 (codes "Outer")) ∷ (tok Operator 88 89 (codes "(")) ∷ (tok Ident 89 90 (codes "x")) ∷ (tok Ident 91 94 (codes "int")) ∷ (tok Operator 94 95 (codes ")")) ∷ (tok Ident 96 99 (codes "int")) ∷ (tok Operator 100 101 (codes "{")) ∷ (tok Keyword 102 108 (codes "return")) ∷ (tok Ident 109 114 (codes "Inner")) ∷ (tok Operator 114 115 (codes "(")) ∷ (tok Ident 115 116 (codes "x")) ∷ (tok Operator 116 117 (codes ")")) ∷ (tok Operator 118 119 (codes "+")) ∷ (tok Integer 120 121 (codes "1")) ∷ (tok Operator 122 123 (codes "}")) ∷ (tok Inserted 123 123 (codes ";")) ∷ (tok Keyword 141 145 (codes "func")) ∷ (tok Ident 146 151 (codes "Inner")) ∷ (tok Operator 151 152 (codes "(")) ∷ (tok Ident 152 153 (codes "x")) ∷ (tok Ident 154 157 (codes "int")) ∷ (tok Operator 157 158 (codes ")")) ∷ (tok Ident 159 162 (codes "int")) ∷ (tok Operator 163 164 (codes "{")) ∷ (tok Keyword 165 171 (codes "return")) ∷ (tok Integer 172 173 (codes "2")) ∷ (tok Operator 174 175 (codes "*")) ∷ (tok Ident 176 177 (codes "x")) ∷ (tok Operator 178 179 (codes "}")) ∷ (tok Inserted 179 179 (codes ";")) ∷ []); comments = ((note 62 77) ∷ (note 125 140) ∷ []) })

abbrev brought_tree1 : File At
brought_tree1 = record { package_name = (nmf 8 12 8 12 (codes "main")); imports = []; decls = ((fn (from 14 60 14 56) None (nmf 19 23 19 23 (codes "main")) (sig [] []) (from 26 60 26 56) (stmt_and (define (from 29 35 29 35) ((nmf 29 30 29 30 (codes "x")) ∷ []) (expr_and (int_lit (from 34 35 34 35) (codes "1")) no_exprs)) (stmt_and (eval (from 37 58 37 54) (call (from 37 58 37 54) (ident (from 37 44 37 44) (codes "println")) (expr_and (binary (from 45 57 45 53) Add (call (from 45 53 45 53) (ident (from 45 50 45 53) (codes "Inner")) (expr_and (ident (from 51 52 51 52) (codes "x")) no_exprs) Plain) (int_lit (from 56 57 45 53) (codes "1"))) no_exprs) Plain)) no_stmts))) ∷ (fn (from 78 123 74 119) None (nmf 83 88 79 84 (codes "Outer")) (sig ((param (from 89 94 85 90) (Some (nmf 89 90 85 86 (codes "x"))) (named (from 91 94 87 90) None (nmf 91 94 87 90 (codes "int")))) ∷ []) ((param (from 96 99 92 95) None (named (from 96 99 92 95) None (nmf 96 99 92 95 (codes "int")))) ∷ [])) (from 100 123 96 119) (stmt_and (return_ (from 102 121 98 117) (expr_and (binary (from 109 121 105 117) Add (call (from 109 117 105 113) (ident (from 109 114 105 110) (codes "Inner")) (expr_and (ident (from 115 116 111 112) (codes "x")) no_exprs) Plain) (int_lit (from 120 121 116 117) (codes "1"))) no_exprs)) no_stmts)) ∷ (fn (from 141 179 137 175) None (nmf 146 151 142 147 (codes "Inner")) (sig ((param (from 152 157 148 153) (Some (nmf 152 153 148 149 (codes "x"))) (named (from 154 157 150 153) None (nmf 154 157 150 153 (codes "int")))) ∷ []) ((param (from 159 162 155 158) None (named (from 159 162 155 158) None (nmf 159 162 155 158 (codes "int")))) ∷ [])) (from 163 179 159 175) (stmt_and (return_ (from 165 177 161 173) (expr_and (binary (from 172 177 168 173) Mul (int_lit (from 172 173 168 169) (codes "2")) (ident (from 176 177 172 173) (codes "x"))) no_exprs)) no_stmts)) ∷ []) }

brought_steps1 : is_some (step_in brought.marks brought_s0) ≡ true
unfolding passes keyword_spellings is_inline digits
brought_steps1 = refl

abbrev brought_s1 : Standing
brought_s1 = record { packages = (record { path = (codes "example.com/m"); name = (codes "main"); files = (record { path = (codes "main.go"); tree = brought_tree1 } ∷ []) } ∷ []); texts = (((codes "main.go"), brought_n1) ∷ []) }

abbrev brought_l1 : Logged
brought_l1 = record { file = (codes "main.go"); origin = at 45 53; home = (codes "example.com/m"); name = (codes "Outer"); form = ExprForm; edits = (record { span = at 45 53; text = (codes "Inner(x) + 1") } ∷ []) }

abbrev brought_next1 : TokensOf brought_n1.text brought_n1.tokens brought_n1.comments → Next brought.marks brought_s0 brought_l1 brought_s1
unfolding passes keyword_spellings is_inline digits reading brought_steps1
brought_next1 h = next_by brought.marks brought_s0 brought_steps1 brought_t0 brought_n1 brought_tree1 refl refl h refl refl

abbrev brought_n2 : FileText
brought_n2 = (record { text = (codes "package main\n\nfunc main() {\n\tx := 1\n\tprintln(2 * x + 1)\n}\n\n//go:fix inline\nfunc Outer(x int) int { return Inner(x) + 1 }\n\n//go:fix inline\nfunc Inner(x int) int { return 2 * x }\n"); tokens = ((tok Keyword 0 7 (codes "package")) ∷ (tok Ident 8 12 (codes "main")) ∷ (tok Inserted 12 12 (codes ";")) ∷ (tok Keyword 14 18 (codes "func")) ∷ (tok Ident 19 23 (codes "main")) ∷ (tok Operator 23 24 (codes "(")) ∷ (tok Operator 24 25 (codes ")")) ∷ (tok Operator 26 27 (codes "{")) ∷ (tok Ident 29 30 (codes "x")) ∷ (tok Operator 31 33 (codes ":=")) ∷ (tok Integer 34 35 (codes "1")) ∷ (tok Inserted 35 35 (codes ";")) ∷ (tok Ident 37 44 (codes "println")) ∷ (tok Operator 44 45 (codes "(")) ∷ (tok Integer 45 46 (codes "2")) ∷ (tok Operator 47 48 (codes "*")) ∷ (tok Ident 49 50 (codes "x")) ∷ (tok Operator 51 52 (codes "+")) ∷ (tok Integer 53 54 (codes "1")) ∷ (tok Operator 54 55 (codes ")")) ∷ (tok Inserted 55 55 (codes ";")) ∷ (tok Operator 56 57 (codes "}")) ∷ (tok Inserted 57 57 (codes ";")) ∷ (tok Keyword 75 79 (codes "func")) ∷ (tok Ident 80 85 (codes "Outer")) ∷ (tok Operator 85 86 (codes "(")) ∷ (tok Ident 86 87 (codes "x")) ∷ (tok Ident 88 91 (codes "int")) ∷ (tok Operator 91 92 (codes ")")) ∷ (tok Ident 93 96 (codes "int")) ∷ (tok Operator 97 98 (codes "{")) ∷ (tok Keyword 99 105 (codes "return")) ∷ (tok Ident 106 111 (codes "Inner")) ∷ (tok Operator 111 112 (codes "(")) ∷ (tok Ident 112 113 (codes "x")) ∷ (tok Operator 113 114 (codes ")")) ∷ (tok Operator 115 116 (codes "+")) ∷ (tok Integer 117 118 (codes "1")) ∷ (tok Operator 119 120 (codes "}")) ∷ (tok Inserted 120 120 (codes ";")) ∷ (tok Keyword 138 142 (codes "func")) ∷ (tok Ident 143 148 (codes "Inner")) ∷ (tok Operator 148 149 (codes "(")) ∷ (tok Ident 149 150 (codes "x")) ∷ (tok Ident 151 154 (codes "int")) ∷ (tok Operator 154 155 (codes ")")) ∷ (tok Ident 156 159 (codes "int")) ∷ (tok Operator 160 161 (codes "{")) ∷ (tok Keyword 162 168 (codes "return")) ∷ (tok Integer 169 170 (codes "2")) ∷ (tok Operator 171 172 (codes "*")) ∷ (tok Ident 173 174 (codes "x")) ∷ (tok Operator 175 176 (codes "}")) ∷ (tok Inserted 176 176 (codes ";")) ∷ []); comments = ((note 59 74) ∷ (note 122 137) ∷ []) })

abbrev brought_tree2 : File At
brought_tree2 = record { package_name = (nmf 8 12 8 12 (codes "main")); imports = []; decls = ((fn (from 14 57 14 56) None (nmf 19 23 19 23 (codes "main")) (sig [] []) (from 26 57 26 56) (stmt_and (define (from 29 35 29 35) ((nmf 29 30 29 30 (codes "x")) ∷ []) (expr_and (int_lit (from 34 35 34 35) (codes "1")) no_exprs)) (stmt_and (eval (from 37 55 37 54) (call (from 37 55 37 54) (ident (from 37 44 37 44) (codes "println")) (expr_and (binary (from 45 54 45 53) Add (binary (from 45 50 45 53) Mul (int_lit (from 45 46 45 53) (codes "2")) (ident (from 49 50 51 52) (codes "x"))) (int_lit (from 53 54 45 53) (codes "1"))) no_exprs) Plain)) no_stmts))) ∷ (fn (from 75 120 74 119) None (nmf 80 85 79 84 (codes "Outer")) (sig ((param (from 86 91 85 90) (Some (nmf 86 87 85 86 (codes "x"))) (named (from 88 91 87 90) None (nmf 88 91 87 90 (codes "int")))) ∷ []) ((param (from 93 96 92 95) None (named (from 93 96 92 95) None (nmf 93 96 92 95 (codes "int")))) ∷ [])) (from 97 120 96 119) (stmt_and (return_ (from 99 118 98 117) (expr_and (binary (from 106 118 105 117) Add (call (from 106 114 105 113) (ident (from 106 111 105 110) (codes "Inner")) (expr_and (ident (from 112 113 111 112) (codes "x")) no_exprs) Plain) (int_lit (from 117 118 116 117) (codes "1"))) no_exprs)) no_stmts)) ∷ (fn (from 138 176 137 175) None (nmf 143 148 142 147 (codes "Inner")) (sig ((param (from 149 154 148 153) (Some (nmf 149 150 148 149 (codes "x"))) (named (from 151 154 150 153) None (nmf 151 154 150 153 (codes "int")))) ∷ []) ((param (from 156 159 155 158) None (named (from 156 159 155 158) None (nmf 156 159 155 158 (codes "int")))) ∷ [])) (from 160 176 159 175) (stmt_and (return_ (from 162 174 161 173) (expr_and (binary (from 169 174 168 173) Mul (int_lit (from 169 170 168 169) (codes "2")) (ident (from 173 174 172 173) (codes "x"))) no_exprs)) no_stmts)) ∷ []) }

brought_steps2 : is_some (step_in brought.marks brought_s1) ≡ true
unfolding passes keyword_spellings is_inline digits
brought_steps2 = refl

abbrev brought_s2 : Standing
brought_s2 = record { packages = (record { path = (codes "example.com/m"); name = (codes "main"); files = (record { path = (codes "main.go"); tree = brought_tree2 } ∷ []) } ∷ []); texts = (((codes "main.go"), brought_n2) ∷ []) }

abbrev brought_l2 : Logged
brought_l2 = record { file = (codes "main.go"); origin = at 45 53; home = (codes "example.com/m"); name = (codes "Inner"); form = ExprForm; edits = (record { span = at 45 53; text = (codes "2 * x") } ∷ []) }

abbrev brought_next2 : TokensOf brought_n2.text brought_n2.tokens brought_n2.comments → Next brought.marks brought_s1 brought_l2 brought_s2
unfolding passes keyword_spellings is_inline digits reading brought_steps2
brought_next2 h = next_by brought.marks brought_s1 brought_steps2 brought_n1 brought_n2 brought_tree2 refl refl h refl refl

abbrev brought_n3 : FileText
brought_n3 = (record { text = (codes "package main\n\nfunc main() {\n\tx := 1\n\tprintln(2 * x + 1)\n}\n\n//go:fix inline\nfunc Outer(x int) int { return 2 * x + 1 }\n\n//go:fix inline\nfunc Inner(x int) int { return 2 * x }\n"); tokens = ((tok Keyword 0 7 (codes "package")) ∷ (tok Ident 8 12 (codes "main")) ∷ (tok Inserted 12 12 (codes ";")) ∷ (tok Keyword 14 18 (codes "func")) ∷ (tok Ident 19 23 (codes "main")) ∷ (tok Operator 23 24 (codes "(")) ∷ (tok Operator 24 25 (codes ")")) ∷ (tok Operator 26 27 (codes "{")) ∷ (tok Ident 29 30 (codes "x")) ∷ (tok Operator 31 33 (codes ":=")) ∷ (tok Integer 34 35 (codes "1")) ∷ (tok Inserted 35 35 (codes ";")) ∷ (tok Ident 37 44 (codes "println")) ∷ (tok Operator 44 45 (codes "(")) ∷ (tok Integer 45 46 (codes "2")) ∷ (tok Operator 47 48 (codes "*")) ∷ (tok Ident 49 50 (codes "x")) ∷ (tok Operator 51 52 (codes "+")) ∷ (tok Integer 53 54 (codes "1")) ∷ (tok Operator 54 55 (codes ")")) ∷ (tok Inserted 55 55 (codes ";")) ∷ (tok Operator 56 57 (codes "}")) ∷ (tok Inserted 57 57 (codes ";")) ∷ (tok Keyword 75 79 (codes "func")) ∷ (tok Ident 80 85 (codes "Outer")) ∷ (tok Operator 85 86 (codes "(")) ∷ (tok Ident 86 87 (codes "x")) ∷ (tok Ident 88 91 (codes "int")) ∷ (tok Operator 91 92 (codes ")")) ∷ (tok Ident 93 96 (codes "int")) ∷ (tok Operator 97 98 (codes "{")) ∷ (tok Keyword 99 105 (codes "return")) ∷ (tok Integer 106 107 (codes "2")) ∷ (tok Operator 108 109 (codes "*")) ∷ (tok Ident 110 111 (codes "x")) ∷ (tok Operator 112 113 (codes "+")) ∷ (tok Integer 114 115 (codes "1")) ∷ (tok Operator 116 117 (codes "}")) ∷ (tok Inserted 117 117 (codes ";")) ∷ (tok Keyword 135 139 (codes "func")) ∷ (tok Ident 140 145 (codes "Inner")) ∷ (tok Operator 145 146 (codes "(")) ∷ (tok Ident 146 147 (codes "x")) ∷ (tok Ident 148 151 (codes "int")) ∷ (tok Operator 151 152 (codes ")")) ∷ (tok Ident 153 156 (codes "int")) ∷ (tok Operator 157 158 (codes "{")) ∷ (tok Keyword 159 165 (codes "return")) ∷ (tok Integer 166 167 (codes "2")) ∷ (tok Operator 168 169 (codes "*")) ∷ (tok Ident 170 171 (codes "x")) ∷ (tok Operator 172 173 (codes "}")) ∷ (tok Inserted 173 173 (codes ";")) ∷ []); comments = ((note 59 74) ∷ (note 119 134) ∷ []) })

abbrev brought_tree3 : File At
brought_tree3 = record { package_name = (nmf 8 12 8 12 (codes "main")); imports = []; decls = ((fn (from 14 57 14 56) None (nmf 19 23 19 23 (codes "main")) (sig [] []) (from 26 57 26 56) (stmt_and (define (from 29 35 29 35) ((nmf 29 30 29 30 (codes "x")) ∷ []) (expr_and (int_lit (from 34 35 34 35) (codes "1")) no_exprs)) (stmt_and (eval (from 37 55 37 54) (call (from 37 55 37 54) (ident (from 37 44 37 44) (codes "println")) (expr_and (binary (from 45 54 45 53) Add (binary (from 45 50 45 53) Mul (int_lit (from 45 46 45 53) (codes "2")) (ident (from 49 50 51 52) (codes "x"))) (int_lit (from 53 54 45 53) (codes "1"))) no_exprs) Plain)) no_stmts))) ∷ (fn (from 75 117 74 119) None (nmf 80 85 79 84 (codes "Outer")) (sig ((param (from 86 91 85 90) (Some (nmf 86 87 85 86 (codes "x"))) (named (from 88 91 87 90) None (nmf 88 91 87 90 (codes "int")))) ∷ []) ((param (from 93 96 92 95) None (named (from 93 96 92 95) None (nmf 93 96 92 95 (codes "int")))) ∷ [])) (from 97 117 96 119) (stmt_and (return_ (from 99 115 98 117) (expr_and (binary (from 106 115 105 117) Add (binary (from 106 111 105 113) Mul (int_lit (from 106 107 105 113) (codes "2")) (ident (from 110 111 111 112) (codes "x"))) (int_lit (from 114 115 116 117) (codes "1"))) no_exprs)) no_stmts)) ∷ (fn (from 135 173 137 175) None (nmf 140 145 142 147 (codes "Inner")) (sig ((param (from 146 151 148 153) (Some (nmf 146 147 148 149 (codes "x"))) (named (from 148 151 150 153) None (nmf 148 151 150 153 (codes "int")))) ∷ []) ((param (from 153 156 155 158) None (named (from 153 156 155 158) None (nmf 153 156 155 158 (codes "int")))) ∷ [])) (from 157 173 159 175) (stmt_and (return_ (from 159 171 161 173) (expr_and (binary (from 166 171 168 173) Mul (int_lit (from 166 167 168 169) (codes "2")) (ident (from 170 171 172 173) (codes "x"))) no_exprs)) no_stmts)) ∷ []) }

brought_steps3 : is_some (step_in brought.marks brought_s2) ≡ true
unfolding passes keyword_spellings is_inline digits
brought_steps3 = refl

abbrev brought_s3 : Standing
brought_s3 = record { packages = (record { path = (codes "example.com/m"); name = (codes "main"); files = (record { path = (codes "main.go"); tree = brought_tree3 } ∷ []) } ∷ []); texts = (((codes "main.go"), brought_n3) ∷ []) }

abbrev brought_l3 : Logged
brought_l3 = record { file = (codes "main.go"); origin = at 105 113; home = (codes "example.com/m"); name = (codes "Inner"); form = ExprForm; edits = (record { span = at 106 114; text = (codes "2 * x") } ∷ []) }

abbrev brought_next3 : TokensOf brought_n3.text brought_n3.tokens brought_n3.comments → Next brought.marks brought_s2 brought_l3 brought_s3
unfolding passes keyword_spellings is_inline digits reading brought_steps3
brought_next3 h = next_by brought.marks brought_s2 brought_steps3 brought_n2 brought_n3 brought_tree3 refl refl h refl refl

-- the whole run, with the tokens of the texts
brought_inlined : (h0 : TokensOf brought_t0.text brought_t0.tokens brought_t0.comments) (g1 : TokensOf brought_n1.text brought_n1.tokens brought_n1.comments) (g2 : TokensOf brought_n2.text brought_n2.tokens brought_n2.comments) (g3 : TokensOf brought_n3.text brought_n3.tokens brought_n3.comments) → IsInlining the_limits (folder small_module brought.texts) brought.packages brought.texts [] (((codes "main.go"), brought_n3) ∷ []) (codes "main.go:5:10: inlined example.com/m.Outer as expr\nmain.go:5:10: inlined example.com/m.Inner as expr\nmain.go:9:32: inlined example.com/m.Inner as expr\n")
unfolding passes keyword_spellings is_inline digits reading brought_steps1 brought_next1 brought_steps2 brought_next2 brought_steps3 brought_next3
brought_inlined h0 g1 g2 g3 = inlining_by the_limits (folder small_module brought.texts) brought.packages brought.texts [] brought.marks brought_s3 ((brought_l1 ∷ brought_l2 ∷ brought_l3 ∷ [])) (codes "main.go:5:10: inlined example.com/m.Outer as expr\nmain.go:5:10: inlined example.com/m.Inner as expr\nmain.go:9:32: inlined example.com/m.Inner as expr\n") brought_marks (module_by (codes "example.com/m") (module_text small_module) (record { path = codes "main.go"; text = brought_t0; tree = brought_f0; reads = record { scans = h0; spells = file_spelled brought_t0.tokens brought_f0 brought_spelled0 } } ∷ []) (folder small_module brought.texts) brought.packages brought.texts small_module_is refl refl refl refl refl refl refl refl refl) (goes_on brought_s0 brought_s1 brought_s3 brought_l1 (brought_l2 ∷ brought_l3 ∷ []) (brought_next1 g1) (goes_on brought_s1 brought_s2 brought_s3 brought_l2 (brought_l3 ∷ []) (brought_next2 g2) (goes_on brought_s2 brought_s3 brought_s3 brought_l3 [] (brought_next3 g3) (ends brought_s3 refl)))) (steps_on [] (brought_l2 ∷ brought_l3 ∷ []) brought_l1 brought_s0 brought_s1 brought_s3 (brought_next1 g1) refl (steps_on (brought_l1 ∷ []) (brought_l3 ∷ []) brought_l2 brought_s1 brought_s2 brought_s3 (brought_next2 g2) refl (steps_on (brought_l1 ∷ brought_l2 ∷ []) [] brought_l3 brought_s2 brought_s3 brought_s3 (brought_next3 g3) refl (begins ((brought_l1 ∷ brought_l2 ∷ brought_l3 ∷ [])) brought_s3)))) (kept_by ((brought_l1 ∷ brought_l2 ∷ brought_l3 ∷ [])) (codes "main.go") brought_t0.text brought_n3.text [] [] refl refl run.none) refl

brought_t0_found : TokensOf brought_t0.text brought_t0.tokens brought_t0.comments
unfolding piece_of lexeme_of longest_from next_of tokens_from comments_from keyword_spellings is_letter is_digit general_category general_category_rows value_in lib.Utf8.encode
brought_t0_found = tokens_by brought_t0.text brought_t0.tokens brought_t0.comments refl refl refl

brought_n1_found : TokensOf brought_n1.text brought_n1.tokens brought_n1.comments
unfolding piece_of lexeme_of longest_from next_of tokens_from comments_from keyword_spellings is_letter is_digit general_category general_category_rows value_in lib.Utf8.encode
brought_n1_found = tokens_by brought_n1.text brought_n1.tokens brought_n1.comments refl refl refl

brought_n2_found : TokensOf brought_n2.text brought_n2.tokens brought_n2.comments
unfolding piece_of lexeme_of longest_from next_of tokens_from comments_from keyword_spellings is_letter is_digit general_category general_category_rows value_in lib.Utf8.encode
brought_n2_found = tokens_by brought_n2.text brought_n2.tokens brought_n2.comments refl refl refl

brought_n3_found : TokensOf brought_n3.text brought_n3.tokens brought_n3.comments
unfolding piece_of lexeme_of longest_from next_of tokens_from comments_from keyword_spellings is_letter is_digit general_category general_category_rows value_in lib.Utf8.encode
brought_n3_found = tokens_by brought_n3.text brought_n3.tokens brought_n3.comments refl refl refl

brought_run : IsInlining the_limits (folder small_module brought.texts) brought.packages brought.texts [] (((codes "main.go"), brought_n3) ∷ []) (codes "main.go:5:10: inlined example.com/m.Outer as expr\nmain.go:5:10: inlined example.com/m.Inner as expr\nmain.go:9:32: inlined example.com/m.Inner as expr\n")
brought_run = brought_inlined brought_t0_found brought_n1_found brought_n2_found brought_n3_found
