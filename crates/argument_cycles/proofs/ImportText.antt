-- A step of a run over a call that becomes the expression of another package's function, and imports a third package for it, from the text.
--   package main; import "example.com/m/old"
--   func next() int { println("n"); return 1 }
--   func main() { println(old.Square(next())) }
--   package old; import "example.com/m/pow"
--   func Square(x int) int { return pow.Pow(x, 2) }   (marked)
--   package pow
--   func Pow(x, n int) int { return x * n }
-- after the step: package main; import "example.com/m/pow"; func main() { println(pow.Pow(next(), 2)) }
use Rattle.std.proofs.Common.{◌≡◌, refl}
use Rattle.std.specs.Prelude.{true, false, [], ◌∷◌, Some, None, codes, is_some}
use Rattle.go_tree.specs.declared.exprs.Rest.TheVariants.{Plain}
use Rattle.go_tree.specs.declared.operators.BinOp.TheVariants.{Mul}
use Rattle.go_tree.specs.declared.spans.Span.{Span}
use Rattle.go_tree.specs.declared.tokens.TokenKind.TheVariants.{Ident, Keyword, Operator, Integer, Str, Inserted}
use Rattle.go_tree.specs.Tree.{named, ident, int_lit, str_lit, selector, call, binary, no_exprs, expr_and, eval, return_, no_stmts, stmt_and}
use Rattle.go_tree.specs.File.{File}
use Rattle.go_tree.specs.GoWords.Tokens.{TokensOf, tokens_from, comments_from}
use Rattle.go_tree.specs.GoWords.Tokens.Characters.{is_letter, is_digit}
use Rattle.go_tree.specs.GoWords.Tokens.Pieces.{keyword_spellings}
use Rattle.go_scan.specs.Automaton.{next_of, longest_from}
use Rattle.go_scan.specs.Pieces.{piece_of, lexeme_of}
use Rattle.go_read.proofs.Texts.{reading}
use Rattle.ucd_category.specs.GeneralCategory.{general_category}
use Rattle.ucd_category.specs.GeneralCategoryRows.{general_category_rows}
use Rattle.ucd_table.specs.Rows.{value_in}
use Rattle.directive_scan.specs.Lines.{is_inline}
use Rattle.pkg_graph.specs.ModuleFiles.Internal.{passes}
use Rattle.std.specs.Fmt.{digits}
use Rattle.run_rules.specs.Texts.{FileText}
use Rattle.run_rules.specs.Steps.{At}
use Rattle.run_rules.specs.Run.{Standing, Logged, Next, step_in}
use Rattle.run_rules.specs.Inlining.{standing_as_read}
use Rattle.run_rules.proofs.CaseTools.{at, nm, tok, note, param, sig, fn, pack, source, mark, Module, from, nmf, imp, imps}
use Rattle.run_rules.proofs.Instances.{stands_after, log_entry, next_by}
use Rattle.run_rules.proofs.TokensFound.{tokens_by}

abbrev file : File Span
file = record { package_name = (nm 8 12 (codes "main")); imports = ((imps (at 14 40) false ((imp (at 21 40) None (codes "example.com/m/old")) ∷ [])) ∷ []); decls = ((fn (at 42 85) None (nm 47 51 (codes "next")) (sig [] ((param (at 54 57) None (named (at 54 57) None (nm 54 57 (codes "int")))) ∷ [])) (at 58 85) (stmt_and (eval (at 61 73) (call (at 61 73) (ident (at 61 68) (codes "println")) (expr_and (str_lit (at 69 72) (codes "\"n\"")) no_exprs) Plain)) (stmt_and (return_ (at 75 83) (expr_and (int_lit (at 82 83) (codes "1")) no_exprs)) no_stmts))) ∷ (fn (at 87 131) None (nm 92 96 (codes "main")) (sig [] []) (at 99 131) (stmt_and (eval (at 102 129) (call (at 102 129) (ident (at 102 109) (codes "println")) (expr_and (call (at 110 128) (selector (at 110 120) (ident (at 110 113) (codes "old")) (nm 114 120 (codes "Square"))) (expr_and (call (at 121 127) (ident (at 121 125) (codes "next")) no_exprs Plain) no_exprs) Plain) no_exprs) Plain)) no_stmts)) ∷ []) }

abbrev old_file : File Span
old_file = record { package_name = (nm 8 11 (codes "old")); imports = ((imps (at 13 39) false ((imp (at 20 39) None (codes "example.com/m/pow")) ∷ [])) ∷ []); decls = ((fn (at 57 105) None (nm 62 68 (codes "Square")) (sig ((param (at 69 74) (Some (nm 69 70 (codes "x"))) (named (at 71 74) None (nm 71 74 (codes "int")))) ∷ []) ((param (at 76 79) None (named (at 76 79) None (nm 76 79 (codes "int")))) ∷ [])) (at 80 105) (stmt_and (return_ (at 83 103) (expr_and (call (at 90 103) (selector (at 90 97) (ident (at 90 93) (codes "pow")) (nm 94 97 (codes "Pow"))) (expr_and (ident (at 98 99) (codes "x")) (expr_and (int_lit (at 101 102) (codes "2")) no_exprs)) Plain) no_exprs)) no_stmts)) ∷ []) }

abbrev pow_file : File Span
pow_file = record { package_name = (nm 8 11 (codes "pow")); imports = []; decls = ((fn (at 13 53) None (nm 18 21 (codes "Pow")) (sig ((param (at 22 30) (Some (nm 22 23 (codes "x"))) (named (at 27 30) None (nm 27 30 (codes "int")))) ∷ (param (at 25 30) (Some (nm 25 26 (codes "n"))) (named (at 27 30) None (nm 27 30 (codes "int")))) ∷ []) ((param (at 32 35) None (named (at 32 35) None (nm 32 35 (codes "int")))) ∷ [])) (at 36 53) (stmt_and (return_ (at 39 51) (expr_and (binary (at 46 51) Mul (ident (at 46 47) (codes "x")) (ident (at 50 51) (codes "n"))) no_exprs)) no_stmts)) ∷ []) }

abbrev old_text : FileText
old_text = record { text = (codes "package main\n\nimport \"example.com/m/old\"\n\nfunc next() int {\n\tprintln(\"n\")\n\treturn 1\n}\n\nfunc main() {\n\tprintln(old.Square(next()))\n}\n"); tokens = ((tok Keyword 0 7 (codes "package")) ∷ (tok Ident 8 12 (codes "main")) ∷ (tok Inserted 12 12 (codes ";")) ∷ (tok Keyword 14 20 (codes "import")) ∷ (tok Str 21 40 (codes "\"example.com/m/old\"")) ∷ (tok Inserted 40 40 (codes ";")) ∷ (tok Keyword 42 46 (codes "func")) ∷ (tok Ident 47 51 (codes "next")) ∷ (tok Operator 51 52 (codes "(")) ∷ (tok Operator 52 53 (codes ")")) ∷ (tok Ident 54 57 (codes "int")) ∷ (tok Operator 58 59 (codes "{")) ∷ (tok Ident 61 68 (codes "println")) ∷ (tok Operator 68 69 (codes "(")) ∷ (tok Str 69 72 (codes "\"n\"")) ∷ (tok Operator 72 73 (codes ")")) ∷ (tok Inserted 73 73 (codes ";")) ∷ (tok Keyword 75 81 (codes "return")) ∷ (tok Integer 82 83 (codes "1")) ∷ (tok Inserted 83 83 (codes ";")) ∷ (tok Operator 84 85 (codes "}")) ∷ (tok Inserted 85 85 (codes ";")) ∷ (tok Keyword 87 91 (codes "func")) ∷ (tok Ident 92 96 (codes "main")) ∷ (tok Operator 96 97 (codes "(")) ∷ (tok Operator 97 98 (codes ")")) ∷ (tok Operator 99 100 (codes "{")) ∷ (tok Ident 102 109 (codes "println")) ∷ (tok Operator 109 110 (codes "(")) ∷ (tok Ident 110 113 (codes "old")) ∷ (tok Operator 113 114 (codes ".")) ∷ (tok Ident 114 120 (codes "Square")) ∷ (tok Operator 120 121 (codes "(")) ∷ (tok Ident 121 125 (codes "next")) ∷ (tok Operator 125 126 (codes "(")) ∷ (tok Operator 126 127 (codes ")")) ∷ (tok Operator 127 128 (codes ")")) ∷ (tok Operator 128 129 (codes ")")) ∷ (tok Inserted 129 129 (codes ";")) ∷ (tok Operator 130 131 (codes "}")) ∷ (tok Inserted 131 131 (codes ";")) ∷ []); comments = [] }

abbrev wrapper_text : FileText
wrapper_text = record { text = (codes "package old\n\nimport \"example.com/m/pow\"\n\n//go:fix inline\nfunc Square(x int) int {\n\treturn pow.Pow(x, 2)\n}\n"); tokens = ((tok Keyword 0 7 (codes "package")) ∷ (tok Ident 8 11 (codes "old")) ∷ (tok Inserted 11 11 (codes ";")) ∷ (tok Keyword 13 19 (codes "import")) ∷ (tok Str 20 39 (codes "\"example.com/m/pow\"")) ∷ (tok Inserted 39 39 (codes ";")) ∷ (tok Keyword 57 61 (codes "func")) ∷ (tok Ident 62 68 (codes "Square")) ∷ (tok Operator 68 69 (codes "(")) ∷ (tok Ident 69 70 (codes "x")) ∷ (tok Ident 71 74 (codes "int")) ∷ (tok Operator 74 75 (codes ")")) ∷ (tok Ident 76 79 (codes "int")) ∷ (tok Operator 80 81 (codes "{")) ∷ (tok Keyword 83 89 (codes "return")) ∷ (tok Ident 90 93 (codes "pow")) ∷ (tok Operator 93 94 (codes ".")) ∷ (tok Ident 94 97 (codes "Pow")) ∷ (tok Operator 97 98 (codes "(")) ∷ (tok Ident 98 99 (codes "x")) ∷ (tok Operator 99 100 (codes ",")) ∷ (tok Integer 101 102 (codes "2")) ∷ (tok Operator 102 103 (codes ")")) ∷ (tok Inserted 103 103 (codes ";")) ∷ (tok Operator 104 105 (codes "}")) ∷ (tok Inserted 105 105 (codes ";")) ∷ []); comments = ((note 41 56) ∷ []) }

abbrev pow_text : FileText
pow_text = record { text = (codes "package pow\n\nfunc Pow(x, n int) int {\n\treturn x * n\n}\n"); tokens = ((tok Keyword 0 7 (codes "package")) ∷ (tok Ident 8 11 (codes "pow")) ∷ (tok Inserted 11 11 (codes ";")) ∷ (tok Keyword 13 17 (codes "func")) ∷ (tok Ident 18 21 (codes "Pow")) ∷ (tok Operator 21 22 (codes "(")) ∷ (tok Ident 22 23 (codes "x")) ∷ (tok Operator 23 24 (codes ",")) ∷ (tok Ident 25 26 (codes "n")) ∷ (tok Ident 27 30 (codes "int")) ∷ (tok Operator 30 31 (codes ")")) ∷ (tok Ident 32 35 (codes "int")) ∷ (tok Operator 36 37 (codes "{")) ∷ (tok Keyword 39 45 (codes "return")) ∷ (tok Ident 46 47 (codes "x")) ∷ (tok Operator 48 49 (codes "*")) ∷ (tok Ident 50 51 (codes "n")) ∷ (tok Inserted 51 51 (codes ";")) ∷ (tok Operator 52 53 (codes "}")) ∷ (tok Inserted 53 53 (codes ";")) ∷ []); comments = [] }

abbrev pub module_ : Module
module_ = record {
  packages = pack (codes "example.com/m") (codes "main") (source (codes "main.go") file ∷ []) ∷ pack (codes "example.com/m/old") (codes "old") (source (codes "old/old.go") old_file ∷ []) ∷ pack (codes "example.com/m/pow") (codes "pow") (source (codes "pow/pow.go") pow_file ∷ []) ∷ [];
  marks = mark 1 0 0 0 ∷ [];
  texts = (codes "main.go", old_text) ∷ (codes "old/old.go", wrapper_text) ∷ (codes "pow/pow.go", pow_text) ∷ [];
}

abbrev new_text : FileText
new_text = record { text = (codes "package main\n\nimport \"example.com/m/pow\"\n\nfunc next() int {\n\tprintln(\"n\")\n\treturn 1\n}\n\nfunc main() {\n\tprintln(pow.Pow(next(), 2))\n}\n"); tokens = ((tok Keyword 0 7 (codes "package")) ∷ (tok Ident 8 12 (codes "main")) ∷ (tok Inserted 12 12 (codes ";")) ∷ (tok Keyword 14 20 (codes "import")) ∷ (tok Str 21 40 (codes "\"example.com/m/pow\"")) ∷ (tok Inserted 40 40 (codes ";")) ∷ (tok Keyword 42 46 (codes "func")) ∷ (tok Ident 47 51 (codes "next")) ∷ (tok Operator 51 52 (codes "(")) ∷ (tok Operator 52 53 (codes ")")) ∷ (tok Ident 54 57 (codes "int")) ∷ (tok Operator 58 59 (codes "{")) ∷ (tok Ident 61 68 (codes "println")) ∷ (tok Operator 68 69 (codes "(")) ∷ (tok Str 69 72 (codes "\"n\"")) ∷ (tok Operator 72 73 (codes ")")) ∷ (tok Inserted 73 73 (codes ";")) ∷ (tok Keyword 75 81 (codes "return")) ∷ (tok Integer 82 83 (codes "1")) ∷ (tok Inserted 83 83 (codes ";")) ∷ (tok Operator 84 85 (codes "}")) ∷ (tok Inserted 85 85 (codes ";")) ∷ (tok Keyword 87 91 (codes "func")) ∷ (tok Ident 92 96 (codes "main")) ∷ (tok Operator 96 97 (codes "(")) ∷ (tok Operator 97 98 (codes ")")) ∷ (tok Operator 99 100 (codes "{")) ∷ (tok Ident 102 109 (codes "println")) ∷ (tok Operator 109 110 (codes "(")) ∷ (tok Ident 110 113 (codes "pow")) ∷ (tok Operator 113 114 (codes ".")) ∷ (tok Ident 114 117 (codes "Pow")) ∷ (tok Operator 117 118 (codes "(")) ∷ (tok Ident 118 122 (codes "next")) ∷ (tok Operator 122 123 (codes "(")) ∷ (tok Operator 123 124 (codes ")")) ∷ (tok Operator 124 125 (codes ",")) ∷ (tok Integer 126 127 (codes "2")) ∷ (tok Operator 127 128 (codes ")")) ∷ (tok Operator 128 129 (codes ")")) ∷ (tok Inserted 129 129 (codes ";")) ∷ (tok Operator 130 131 (codes "}")) ∷ (tok Inserted 131 131 (codes ";")) ∷ []); comments = [] }

abbrev new_tree : File At
new_tree = record { package_name = (nmf 8 12 8 12 (codes "main")); imports = ((imps (from 14 40 14 40) false ((imp (from 21 40 21 40) None (codes "example.com/m/pow")) ∷ [])) ∷ []); decls = ((fn (from 42 85 42 85) None (nmf 47 51 47 51 (codes "next")) (sig [] ((param (from 54 57 54 57) None (named (from 54 57 54 57) None (nmf 54 57 54 57 (codes "int")))) ∷ [])) (from 58 85 58 85) (stmt_and (eval (from 61 73 61 73) (call (from 61 73 61 73) (ident (from 61 68 61 68) (codes "println")) (expr_and (str_lit (from 69 72 69 72) (codes "\"n\"")) no_exprs) Plain)) (stmt_and (return_ (from 75 83 75 83) (expr_and (int_lit (from 82 83 82 83) (codes "1")) no_exprs)) no_stmts))) ∷ (fn (from 87 131 87 131) None (nmf 92 96 92 96 (codes "main")) (sig [] []) (from 99 131 99 131) (stmt_and (eval (from 102 129 102 129) (call (from 102 129 102 129) (ident (from 102 109 102 109) (codes "println")) (expr_and (call (from 110 128 110 128) (selector (from 110 117 110 128) (ident (from 110 113 110 128) (codes "pow")) (nmf 114 117 110 128 (codes "Pow"))) (expr_and (call (from 118 124 121 127) (ident (from 118 122 121 125) (codes "next")) no_exprs Plain) (expr_and (int_lit (from 126 127 110 128) (codes "2")) no_exprs)) Plain) no_exprs) Plain)) no_stmts)) ∷ []) }

abbrev pub start : Standing
start = standing_as_read module_.packages module_.texts

pub steps : is_some (step_in module_.marks start) ≡ true
unfolding passes keyword_spellings is_inline digits
steps = refl

new_tokens : TokensOf new_text.text new_text.tokens new_text.comments
unfolding piece_of lexeme_of longest_from next_of tokens_from comments_from keyword_spellings is_letter is_digit general_category general_category_rows value_in lib.Utf8.encode
new_tokens = tokens_by new_text.text new_text.tokens new_text.comments refl refl refl

abbrev pub after : Standing
after = stands_after module_.marks start steps old_text new_text new_tree

abbrev pub entry : Logged
entry = log_entry module_.marks start steps old_text new_text new_tree

-- the step of the run
pub the_next : Next module_.marks start entry after
unfolding passes keyword_spellings is_inline digits reading steps
the_next = next_by module_.marks start steps old_text new_text new_tree refl refl new_tokens refl refl
