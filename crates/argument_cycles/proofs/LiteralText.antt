-- A step of a run over a call that becomes a literal, in which an argument takes the place of its parameter and another stays the literal's, from the text.
--   package main
--   func First(x, y int) int { return y }   (marked)
--   func main() { a := []int{1}; i := 0; b := 2; println(First(a[i], b)) }
-- after the step: println(func(x int) int { return b }(a[i]))
use Rattle.std.proofs.Common.{◌≡◌, refl}
use Rattle.std.specs.Prelude.{true, [], ◌∷◌, Some, None, codes, is_some}
use Rattle.go_tree.specs.declared.exprs.Rest.TheVariants.{Plain}
use Rattle.go_tree.specs.declared.spans.Span.{Span}
use Rattle.go_tree.specs.declared.tokens.TokenKind.TheVariants.{Ident, Keyword, Operator, Integer, Inserted}
use Rattle.go_tree.specs.Tree.{named, slice_type, ident, int_lit, composite, index, call, func_lit, no_exprs, expr_and, no_elems, elem, plain, no_value, eval, define, return_, no_stmts, stmt_and}
use Rattle.go_tree.specs.File.{File}
use Rattle.go_tree.specs.GoWords.Tokens.{TokensOf, tokens_from, comments_from}
use Rattle.go_tree.specs.GoWords.Tokens.Characters.{is_letter, is_digit}
use Rattle.go_tree.specs.GoWords.Tokens.Pieces.{keyword_spellings}
use Rattle.go_scan.specs.Automaton.{next_of, longest_from}
use Rattle.go_scan.specs.Pieces.{piece_of, lexeme_of}
use Rattle.go_read.proofs.Texts.{reading}
use Rattle.ucd_category.specs.GeneralCategory.{general_category}
use Rattle.ucd_category.specs.GeneralCategoryRows.{general_category_rows}
use Rattle.ucd_table.specs.Rows.{value_in}
use Rattle.directive_scan.specs.Lines.{is_inline}
use Rattle.pkg_graph.specs.ModuleFiles.Internal.{passes}
use Rattle.std.specs.Fmt.{digits}
use Rattle.run_rules.specs.Texts.{FileText}
use Rattle.run_rules.specs.Steps.{At}
use Rattle.run_rules.specs.Run.{Standing, Logged, Next, step_in}
use Rattle.run_rules.specs.Inlining.{standing_as_read}
use Rattle.run_rules.proofs.CaseTools.{at, nm, tok, note, param, sig, fn, pack, source, mark, Module, from, nmf}
use Rattle.run_rules.proofs.Instances.{stands_after, log_entry, next_by}
use Rattle.run_rules.proofs.TokensFound.{tokens_by}

abbrev pub file : File Span
file = record { package_name = (nm 8 12 (codes "main")); imports = []; decls = ((fn (at 30 67) None (nm 35 40 (codes "First")) (sig ((param (at 41 49) (Some (nm 41 42 (codes "x"))) (named (at 46 49) None (nm 46 49 (codes "int")))) ∷ (param (at 44 49) (Some (nm 44 45 (codes "y"))) (named (at 46 49) None (nm 46 49 (codes "int")))) ∷ []) ((param (at 51 54) None (named (at 51 54) None (nm 51 54 (codes "int")))) ∷ [])) (at 55 67) (stmt_and (return_ (at 57 65) (expr_and (ident (at 64 65) (codes "y")) no_exprs)) no_stmts)) ∷ (fn (at 69 140) None (nm 74 78 (codes "main")) (sig [] []) (at 81 140) (stmt_and (define (at 84 97) ((nm 84 85 (codes "a")) ∷ []) (expr_and (composite (at 89 97) (slice_type (at 89 94) (named (at 91 94) None (nm 91 94 (codes "int")))) (elem (at 95 96) no_value (plain (int_lit (at 95 96) (codes "1"))) no_elems)) no_exprs)) (stmt_and (define (at 99 105) ((nm 99 100 (codes "i")) ∷ []) (expr_and (int_lit (at 104 105) (codes "0")) no_exprs)) (stmt_and (define (at 107 113) ((nm 107 108 (codes "b")) ∷ []) (expr_and (int_lit (at 112 113) (codes "2")) no_exprs)) (stmt_and (eval (at 115 138) (call (at 115 138) (ident (at 115 122) (codes "println")) (expr_and (call (at 123 137) (ident (at 123 128) (codes "First")) (expr_and (index (at 129 133) (ident (at 129 130) (codes "a")) (ident (at 131 132) (codes "i"))) (expr_and (ident (at 135 136) (codes "b")) no_exprs)) Plain) no_exprs) Plain)) no_stmts))))) ∷ []) }

abbrev pub old_text : FileText
old_text = record { text = (codes "package main\n\n//go:fix inline\nfunc First(x, y int) int { return y }\n\nfunc main() {\n\ta := []int{1}\n\ti := 0\n\tb := 2\n\tprintln(First(a[i], b))\n}\n"); tokens = ((tok Keyword 0 7 (codes "package")) ∷ (tok Ident 8 12 (codes "main")) ∷ (tok Inserted 12 12 (codes ";")) ∷ (tok Keyword 30 34 (codes "func")) ∷ (tok Ident 35 40 (codes "First")) ∷ (tok Operator 40 41 (codes "(")) ∷ (tok Ident 41 42 (codes "x")) ∷ (tok Operator 42 43 (codes ",")) ∷ (tok Ident 44 45 (codes "y")) ∷ (tok Ident 46 49 (codes "int")) ∷ (tok Operator 49 50 (codes ")")) ∷ (tok Ident 51 54 (codes "int")) ∷ (tok Operator 55 56 (codes "{")) ∷ (tok Keyword 57 63 (codes "return")) ∷ (tok Ident 64 65 (codes "y")) ∷ (tok Operator 66 67 (codes "}")) ∷ (tok Inserted 67 67 (codes ";")) ∷ (tok Keyword 69 73 (codes "func")) ∷ (tok Ident 74 78 (codes "main")) ∷ (tok Operator 78 79 (codes "(")) ∷ (tok Operator 79 80 (codes ")")) ∷ (tok Operator 81 82 (codes "{")) ∷ (tok Ident 84 85 (codes "a")) ∷ (tok Operator 86 88 (codes ":=")) ∷ (tok Operator 89 90 (codes "[")) ∷ (tok Operator 90 91 (codes "]")) ∷ (tok Ident 91 94 (codes "int")) ∷ (tok Operator 94 95 (codes "{")) ∷ (tok Integer 95 96 (codes "1")) ∷ (tok Operator 96 97 (codes "}")) ∷ (tok Inserted 97 97 (codes ";")) ∷ (tok Ident 99 100 (codes "i")) ∷ (tok Operator 101 103 (codes ":=")) ∷ (tok Integer 104 105 (codes "0")) ∷ (tok Inserted 105 105 (codes ";")) ∷ (tok Ident 107 108 (codes "b")) ∷ (tok Operator 109 111 (codes ":=")) ∷ (tok Integer 112 113 (codes "2")) ∷ (tok Inserted 113 113 (codes ";")) ∷ (tok Ident 115 122 (codes "println")) ∷ (tok Operator 122 123 (codes "(")) ∷ (tok Ident 123 128 (codes "First")) ∷ (tok Operator 128 129 (codes "(")) ∷ (tok Ident 129 130 (codes "a")) ∷ (tok Operator 130 131 (codes "[")) ∷ (tok Ident 131 132 (codes "i")) ∷ (tok Operator 132 133 (codes "]")) ∷ (tok Operator 133 134 (codes ",")) ∷ (tok Ident 135 136 (codes "b")) ∷ (tok Operator 136 137 (codes ")")) ∷ (tok Operator 137 138 (codes ")")) ∷ (tok Inserted 138 138 (codes ";")) ∷ (tok Operator 139 140 (codes "}")) ∷ (tok Inserted 140 140 (codes ";")) ∷ []); comments = ((note 14 29) ∷ []) }

abbrev pub module_ : Module
module_ = record { packages = pack (codes "example.com/m") (codes "main") (source (codes "main.go") file ∷ []) ∷ []; marks = mark 0 0 0 0 ∷ []; texts = ((codes "main.go"), old_text) ∷ [] }

abbrev pub new_text : FileText
new_text = record { text = (codes "package main\n\n//go:fix inline\nfunc First(x, y int) int { return y }\n\nfunc main() {\n\ta := []int{1}\n\ti := 0\n\tb := 2\n\tprintln(func(x int) int {\n\t\treturn b\n\t}(a[i]))\n}\n"); tokens = ((tok Keyword 0 7 (codes "package")) ∷ (tok Ident 8 12 (codes "main")) ∷ (tok Inserted 12 12 (codes ";")) ∷ (tok Keyword 30 34 (codes "func")) ∷ (tok Ident 35 40 (codes "First")) ∷ (tok Operator 40 41 (codes "(")) ∷ (tok Ident 41 42 (codes "x")) ∷ (tok Operator 42 43 (codes ",")) ∷ (tok Ident 44 45 (codes "y")) ∷ (tok Ident 46 49 (codes "int")) ∷ (tok Operator 49 50 (codes ")")) ∷ (tok Ident 51 54 (codes "int")) ∷ (tok Operator 55 56 (codes "{")) ∷ (tok Keyword 57 63 (codes "return")) ∷ (tok Ident 64 65 (codes "y")) ∷ (tok Operator 66 67 (codes "}")) ∷ (tok Inserted 67 67 (codes ";")) ∷ (tok Keyword 69 73 (codes "func")) ∷ (tok Ident 74 78 (codes "main")) ∷ (tok Operator 78 79 (codes "(")) ∷ (tok Operator 79 80 (codes ")")) ∷ (tok Operator 81 82 (codes "{")) ∷ (tok Ident 84 85 (codes "a")) ∷ (tok Operator 86 88 (codes ":=")) ∷ (tok Operator 89 90 (codes "[")) ∷ (tok Operator 90 91 (codes "]")) ∷ (tok Ident 91 94 (codes "int")) ∷ (tok Operator 94 95 (codes "{")) ∷ (tok Integer 95 96 (codes "1")) ∷ (tok Operator 96 97 (codes "}")) ∷ (tok Inserted 97 97 (codes ";")) ∷ (tok Ident 99 100 (codes "i")) ∷ (tok Operator 101 103 (codes ":=")) ∷ (tok Integer 104 105 (codes "0")) ∷ (tok Inserted 105 105 (codes ";")) ∷ (tok Ident 107 108 (codes "b")) ∷ (tok Operator 109 111 (codes ":=")) ∷ (tok Integer 112 113 (codes "2")) ∷ (tok Inserted 113 113 (codes ";")) ∷ (tok Ident 115 122 (codes "println")) ∷ (tok Operator 122 123 (codes "(")) ∷ (tok Keyword 123 127 (codes "func")) ∷ (tok Operator 127 128 (codes "(")) ∷ (tok Ident 128 129 (codes "x")) ∷ (tok Ident 130 133 (codes "int")) ∷ (tok Operator 133 134 (codes ")")) ∷ (tok Ident 135 138 (codes "int")) ∷ (tok Operator 139 140 (codes "{")) ∷ (tok Keyword 143 149 (codes "return")) ∷ (tok Ident 150 151 (codes "b")) ∷ (tok Inserted 151 151 (codes ";")) ∷ (tok Operator 153 154 (codes "}")) ∷ (tok Operator 154 155 (codes "(")) ∷ (tok Ident 155 156 (codes "a")) ∷ (tok Operator 156 157 (codes "[")) ∷ (tok Ident 157 158 (codes "i")) ∷ (tok Operator 158 159 (codes "]")) ∷ (tok Operator 159 160 (codes ")")) ∷ (tok Operator 160 161 (codes ")")) ∷ (tok Inserted 161 161 (codes ";")) ∷ (tok Operator 162 163 (codes "}")) ∷ (tok Inserted 163 163 (codes ";")) ∷ []); comments = ((note 14 29) ∷ []) }

abbrev pub new_tree : File At
new_tree = record { package_name = (nmf 8 12 8 12 (codes "main")); imports = []; decls = ((fn (from 30 67 30 67) None (nmf 35 40 35 40 (codes "First")) (sig ((param (from 41 49 41 49) (Some (nmf 41 42 41 42 (codes "x"))) (named (from 46 49 46 49) None (nmf 46 49 46 49 (codes "int")))) ∷ (param (from 44 49 44 49) (Some (nmf 44 45 44 45 (codes "y"))) (named (from 46 49 46 49) None (nmf 46 49 46 49 (codes "int")))) ∷ []) ((param (from 51 54 51 54) None (named (from 51 54 51 54) None (nmf 51 54 51 54 (codes "int")))) ∷ [])) (from 55 67 55 67) (stmt_and (return_ (from 57 65 57 65) (expr_and (ident (from 64 65 64 65) (codes "y")) no_exprs)) no_stmts)) ∷ (fn (from 69 163 69 140) None (nmf 74 78 74 78 (codes "main")) (sig [] []) (from 81 163 81 140) (stmt_and (define (from 84 97 84 97) ((nmf 84 85 84 85 (codes "a")) ∷ []) (expr_and (composite (from 89 97 89 97) (slice_type (from 89 94 89 94) (named (from 91 94 91 94) None (nmf 91 94 91 94 (codes "int")))) (elem (from 95 96 95 96) no_value (plain (int_lit (from 95 96 95 96) (codes "1"))) no_elems)) no_exprs)) (stmt_and (define (from 99 105 99 105) ((nmf 99 100 99 100 (codes "i")) ∷ []) (expr_and (int_lit (from 104 105 104 105) (codes "0")) no_exprs)) (stmt_and (define (from 107 113 107 113) ((nmf 107 108 107 108 (codes "b")) ∷ []) (expr_and (int_lit (from 112 113 112 113) (codes "2")) no_exprs)) (stmt_and (eval (from 115 161 115 138) (call (from 115 161 115 138) (ident (from 115 122 115 122) (codes "println")) (expr_and (call (from 123 160 123 137) (func_lit (from 123 154 123 137) (sig ((param (from 128 133 123 137) (Some (nmf 128 129 123 137 (codes "x"))) (named (from 130 133 123 137) None (nmf 130 133 123 137 (codes "int")))) ∷ []) ((param (from 135 138 123 137) None (named (from 135 138 123 137) None (nmf 135 138 123 137 (codes "int")))) ∷ [])) (from 139 154 123 137) (stmt_and (return_ (from 143 151 123 137) (expr_and (ident (from 150 151 135 136) (codes "b")) no_exprs)) no_stmts)) (expr_and (index (from 155 159 129 133) (ident (from 155 156 129 130) (codes "a")) (ident (from 157 158 131 132) (codes "i"))) no_exprs) Plain) no_exprs) Plain)) no_stmts))))) ∷ []) }

abbrev pub start : Standing
start = standing_as_read module_.packages module_.texts

pub steps : is_some (step_in module_.marks start) ≡ true
unfolding passes keyword_spellings is_inline digits
steps = refl

new_tokens : TokensOf new_text.text new_text.tokens new_text.comments
unfolding piece_of lexeme_of longest_from next_of tokens_from comments_from keyword_spellings is_letter is_digit general_category general_category_rows value_in lib.Utf8.encode
new_tokens = tokens_by new_text.text new_text.tokens new_text.comments refl refl refl

abbrev pub after : Standing
after = stands_after module_.marks start steps old_text new_text new_tree

abbrev pub entry : Logged
entry = log_entry module_.marks start steps old_text new_text new_tree

-- the step of the run
pub the_next : Next module_.marks start entry after
unfolding passes keyword_spellings is_inline digits reading steps
the_next = next_by module_.marks start steps old_text new_text new_tree refl refl new_tokens refl refl
