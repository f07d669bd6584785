-- A step of a run over a call whose value a name is declared as, which becomes its literal, from the text.
--   package main
--   func Add(x int) int { x = x + 1; return x }   (marked)
--   func main() { y := Add(2); println(y) }
-- after the step: y := func(x int) int { x = x + 1; return x }(2)
use Rattle.std.proofs.Common.{◌≡◌, refl}
use Rattle.std.specs.Prelude.{true, [], ◌∷◌, Some, None, codes, is_some}
use Rattle.go_tree.specs.declared.exprs.Rest.TheVariants.{Plain}
use Rattle.go_tree.specs.declared.operators.BinOp.TheVariants.{Add}
use Rattle.go_tree.specs.declared.spans.Span.{Span}
use Rattle.go_tree.specs.declared.tokens.TokenKind.TheVariants.{Ident, Inserted, Integer, Keyword, Operator}
use Rattle.go_tree.specs.Tree.{named, ident, int_lit, call, func_lit, binary, no_exprs, expr_and, eval, assign, define, return_, no_stmts, stmt_and}
use Rattle.go_tree.specs.File.{File}
use Rattle.go_tree.specs.GoWords.Tokens.{TokensOf, tokens_from, comments_from}
use Rattle.go_tree.specs.GoWords.Tokens.Characters.{is_letter, is_digit}
use Rattle.go_tree.specs.GoWords.Tokens.Pieces.{keyword_spellings}
use Rattle.go_scan.specs.Automaton.{next_of, longest_from}
use Rattle.go_scan.specs.Pieces.{piece_of, lexeme_of}
use Rattle.go_read.proofs.Texts.{reading}
use Rattle.ucd_category.specs.GeneralCategory.{general_category}
use Rattle.ucd_category.specs.GeneralCategoryRows.{general_category_rows}
use Rattle.ucd_table.specs.Rows.{value_in}
use Rattle.directive_scan.specs.Lines.{is_inline}
use Rattle.pkg_graph.specs.ModuleFiles.Internal.{passes}
use Rattle.std.specs.Fmt.{digits}
use Rattle.run_rules.specs.Texts.{FileText}
use Rattle.run_rules.specs.Steps.{At}
use Rattle.run_rules.specs.Run.{Standing, Logged, Next, step_in}
use Rattle.run_rules.specs.Inlining.{standing_as_read}
use Rattle.run_rules.proofs.CaseTools.{at, nm, tok, note, param, sig, fn, pack, source, mark, Module, from, nmf}
use Rattle.run_rules.proofs.Instances.{stands_after, log_entry, next_by}
use Rattle.run_rules.proofs.TokensFound.{tokens_by}

abbrev pub file : File Span
file = record { package_name = (nm 8 12 (codes "main")); imports = []; decls = ((fn (at 30 74) None (nm 35 38 (codes "Add")) (sig ((param (at 39 44) (Some (nm 39 40 (codes "x"))) (named (at 41 44) None (nm 41 44 (codes "int")))) ∷ []) ((param (at 46 49) None (named (at 46 49) None (nm 46 49 (codes "int")))) ∷ [])) (at 50 74) (stmt_and (assign (at 53 62) (expr_and (ident (at 53 54) (codes "x")) no_exprs) None (expr_and (binary (at 57 62) Add (ident (at 57 58) (codes "x")) (int_lit (at 61 62) (codes "1"))) no_exprs)) (stmt_and (return_ (at 64 72) (expr_and (ident (at 71 72) (codes "x")) no_exprs)) no_stmts))) ∷ (fn (at 76 116) None (nm 81 85 (codes "main")) (sig [] []) (at 88 116) (stmt_and (define (at 91 102) ((nm 91 92 (codes "y")) ∷ []) (expr_and (call (at 96 102) (ident (at 96 99) (codes "Add")) (expr_and (int_lit (at 100 101) (codes "2")) no_exprs) Plain) no_exprs)) (stmt_and (eval (at 104 114) (call (at 104 114) (ident (at 104 111) (codes "println")) (expr_and (ident (at 112 113) (codes "y")) no_exprs) Plain)) no_stmts))) ∷ []) }

abbrev pub old_text : FileText
old_text = record { text = (codes "package main\n\n//go:fix inline\nfunc Add(x int) int {\n\tx = x + 1\n\treturn x\n}\n\nfunc main() {\n\ty := Add(2)\n\tprintln(y)\n}\n"); tokens = ((tok Keyword 0 7 (codes "package")) ∷ (tok Ident 8 12 (codes "main")) ∷ (tok Inserted 12 12 (codes ";")) ∷ (tok Keyword 30 34 (codes "func")) ∷ (tok Ident 35 38 (codes "Add")) ∷ (tok Operator 38 39 (codes "(")) ∷ (tok Ident 39 40 (codes "x")) ∷ (tok Ident 41 44 (codes "int")) ∷ (tok Operator 44 45 (codes ")")) ∷ (tok Ident 46 49 (codes "int")) ∷ (tok Operator 50 51 (codes "{")) ∷ (tok Ident 53 54 (codes "x")) ∷ (tok Operator 55 56 (codes "=")) ∷ (tok Ident 57 58 (codes "x")) ∷ (tok Operator 59 60 (codes "+")) ∷ (tok Integer 61 62 (codes "1")) ∷ (tok Inserted 62 62 (codes ";")) ∷ (tok Keyword 64 70 (codes "return")) ∷ (tok Ident 71 72 (codes "x")) ∷ (tok Inserted 72 72 (codes ";")) ∷ (tok Operator 73 74 (codes "}")) ∷ (tok Inserted 74 74 (codes ";")) ∷ (tok Keyword 76 80 (codes "func")) ∷ (tok Ident 81 85 (codes "main")) ∷ (tok Operator 85 86 (codes "(")) ∷ (tok Operator 86 87 (codes ")")) ∷ (tok Operator 88 89 (codes "{")) ∷ (tok Ident 91 92 (codes "y")) ∷ (tok Operator 93 95 (codes ":=")) ∷ (tok Ident 96 99 (codes "Add")) ∷ (tok Operator 99 100 (codes "(")) ∷ (tok Integer 100 101 (codes "2")) ∷ (tok Operator 101 102 (codes ")")) ∷ (tok Inserted 102 102 (codes ";")) ∷ (tok Ident 104 111 (codes "println")) ∷ (tok Operator 111 112 (codes "(")) ∷ (tok Ident 112 113 (codes "y")) ∷ (tok Operator 113 114 (codes ")")) ∷ (tok Inserted 114 114 (codes ";")) ∷ (tok Operator 115 116 (codes "}")) ∷ (tok Inserted 116 116 (codes ";")) ∷ []); comments = ((note 14 29) ∷ []) }

abbrev pub module_ : Module
module_ = record { packages = pack (codes "example.com/m") (codes "main") (source (codes "main.go") file ∷ []) ∷ []; marks = mark 0 0 0 0 ∷ []; texts = ((codes "main.go"), old_text) ∷ [] }

abbrev pub new_text : FileText
new_text = record { text = (codes "package main\n\n//go:fix inline\nfunc Add(x int) int {\n\tx = x + 1\n\treturn x\n}\n\nfunc main() {\n\ty := func(x int) int {\n\t\tx = x + 1\n\t\treturn x\n\t}(2)\n\tprintln(y)\n}\n"); tokens = ((tok Keyword 0 7 (codes "package")) ∷ (tok Ident 8 12 (codes "main")) ∷ (tok Inserted 12 12 (codes ";")) ∷ (tok Keyword 30 34 (codes "func")) ∷ (tok Ident 35 38 (codes "Add")) ∷ (tok Operator 38 39 (codes "(")) ∷ (tok Ident 39 40 (codes "x")) ∷ (tok Ident 41 44 (codes "int")) ∷ (tok Operator 44 45 (codes ")")) ∷ (tok Ident 46 49 (codes "int")) ∷ (tok Operator 50 51 (codes "{")) ∷ (tok Ident 53 54 (codes "x")) ∷ (tok Operator 55 56 (codes "=")) ∷ (tok Ident 57 58 (codes "x")) ∷ (tok Operator 59 60 (codes "+")) ∷ (tok Integer 61 62 (codes "1")) ∷ (tok Inserted 62 62 (codes ";")) ∷ (tok Keyword 64 70 (codes "return")) ∷ (tok Ident 71 72 (codes "x")) ∷ (tok Inserted 72 72 (codes ";")) ∷ (tok Operator 73 74 (codes "}")) ∷ (tok Inserted 74 74 (codes ";")) ∷ (tok Keyword 76 80 (codes "func")) ∷ (tok Ident 81 85 (codes "main")) ∷ (tok Operator 85 86 (codes "(")) ∷ (tok Operator 86 87 (codes ")")) ∷ (tok Operator 88 89 (codes "{")) ∷ (tok Ident 91 92 (codes "y")) ∷ (tok Operator 93 95 (codes ":=")) ∷ (tok Keyword 96 100 (codes "func")) ∷ (tok Operator 100 101 (codes "(")) ∷ (tok Ident 101 102 (codes "x")) ∷ (tok Ident 103 106 (codes "int")) ∷ (tok Operator 106 107 (codes ")")) ∷ (tok Ident 108 111 (codes "int")) ∷ (tok Operator 112 113 (codes "{")) ∷ (tok Ident 116 117 (codes "x")) ∷ (tok Operator 118 119 (codes "=")) ∷ (tok Ident 120 121 (codes "x")) ∷ (tok Operator 122 123 (codes "+")) ∷ (tok Integer 124 125 (codes "1")) ∷ (tok Inserted 125 125 (codes ";")) ∷ (tok Keyword 128 134 (codes "return")) ∷ (tok Ident 135 136 (codes "x")) ∷ (tok Inserted 136 136 (codes ";")) ∷ (tok Operator 138 139 (codes "}")) ∷ (tok Operator 139 140 (codes "(")) ∷ (tok Integer 140 141 (codes "2")) ∷ (tok Operator 141 142 (codes ")")) ∷ (tok Inserted 142 142 (codes ";")) ∷ (tok Ident 144 151 (codes "println")) ∷ (tok Operator 151 152 (codes "(")) ∷ (tok Ident 152 153 (codes "y")) ∷ (tok Operator 153 154 (codes ")")) ∷ (tok Inserted 154 154 (codes ";")) ∷ (tok Operator 155 156 (codes "}")) ∷ (tok Inserted 156 156 (codes ";")) ∷ []); comments = ((note 14 29) ∷ []) }

abbrev pub new_tree : File At
new_tree = record { package_name = (nmf 8 12 8 12 (codes "main")); imports = []; decls = ((fn (from 30 74 30 74) None (nmf 35 38 35 38 (codes "Add")) (sig ((param (from 39 44 39 44) (Some (nmf 39 40 39 40 (codes "x"))) (named (from 41 44 41 44) None (nmf 41 44 41 44 (codes "int")))) ∷ []) ((param (from 46 49 46 49) None (named (from 46 49 46 49) None (nmf 46 49 46 49 (codes "int")))) ∷ [])) (from 50 74 50 74) (stmt_and (assign (from 53 62 53 62) (expr_and (ident (from 53 54 53 54) (codes "x")) no_exprs) None (expr_and (binary (from 57 62 57 62) Add (ident (from 57 58 57 58) (codes "x")) (int_lit (from 61 62 61 62) (codes "1"))) no_exprs)) (stmt_and (return_ (from 64 72 64 72) (expr_and (ident (from 71 72 71 72) (codes "x")) no_exprs)) no_stmts))) ∷ (fn (from 76 156 76 116) None (nmf 81 85 81 85 (codes "main")) (sig [] []) (from 88 156 88 116) (stmt_and (define (from 91 142 91 102) ((nmf 91 92 91 92 (codes "y")) ∷ []) (expr_and (call (from 96 142 96 102) (func_lit (from 96 139 96 102) (sig ((param (from 101 106 96 102) (Some (nmf 101 102 96 102 (codes "x"))) (named (from 103 106 96 102) None (nmf 103 106 96 102 (codes "int")))) ∷ []) ((param (from 108 111 96 102) None (named (from 108 111 96 102) None (nmf 108 111 96 102 (codes "int")))) ∷ [])) (from 112 139 96 102) (stmt_and (assign (from 116 125 96 102) (expr_and (ident (from 116 117 96 102) (codes "x")) no_exprs) None (expr_and (binary (from 120 125 96 102) Add (ident (from 120 121 96 102) (codes "x")) (int_lit (from 124 125 96 102) (codes "1"))) no_exprs)) (stmt_and (return_ (from 128 136 96 102) (expr_and (ident (from 135 136 96 102) (codes "x")) no_exprs)) no_stmts))) (expr_and (int_lit (from 140 141 100 101) (codes "2")) no_exprs) Plain) no_exprs)) (stmt_and (eval (from 144 154 104 114) (call (from 144 154 104 114) (ident (from 144 151 104 111) (codes "println")) (expr_and (ident (from 152 153 112 113) (codes "y")) no_exprs) Plain)) no_stmts))) ∷ []) }

abbrev pub start : Standing
start = standing_as_read module_.packages module_.texts

pub steps : is_some (step_in module_.marks start) ≡ true
unfolding passes keyword_spellings is_inline digits
steps = refl

new_tokens : TokensOf new_text.text new_text.tokens new_text.comments
unfolding piece_of lexeme_of longest_from next_of tokens_from comments_from keyword_spellings is_letter is_digit general_category general_category_rows value_in lib.Utf8.encode
new_tokens = tokens_by new_text.text new_text.tokens new_text.comments refl refl refl

abbrev pub after : Standing
after = stands_after module_.marks start steps old_text new_text new_tree

abbrev pub entry : Logged
entry = log_entry module_.marks start steps old_text new_text new_tree

-- the step of the run
pub the_next : Next module_.marks start entry after
unfolding passes keyword_spellings is_inline digits reading steps
the_next = next_by module_.marks start steps old_text new_text new_tree refl refl new_tokens refl refl
