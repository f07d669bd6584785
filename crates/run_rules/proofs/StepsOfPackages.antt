-- Marked functions of other packages: text before and after, and what is kept.
use Rattle.std.proofs.Common.{◌≡◌, refl}
use Rattle.std.specs.Prelude.{true, false, [], ◌∷◌, Some, None, codes}
use Rattle.go_tree.specs.declared.exprs.Rest.TheVariants.{Plain}
use Rattle.go_tree.specs.declared.spans.Span.{Span}
use Rattle.go_tree.specs.declared.tokens.TokenKind.TheVariants.{Ident, Keyword, Operator, Integer, Str, Inserted}
use Rattle.go_tree.specs.declared.operators.BinOp.TheVariants.{Mul}
use Rattle.go_tree.specs.Tree.{named, ident, int_lit, str_lit, selector, call, binary, no_exprs, expr_and, eval, define, return_, no_stmts, stmt_and}
use Rattle.go_tree.specs.File.{File}
use Rattle.run_rules.specs.FormTrees.{ExprForm}
use Rattle.run_rules.specs.Obstacles.{NotAccessible, Shadowed, CommentInside}
use Rattle.run_rules.proofs.CaseTools.{at, nm, tok, note, param, sig, imp, imps, fn, pack, source, mark, Module, is_typed, first_change, step_of, kept_uses}
use Rattle.go_layout.specs.SpellsSpans.{span_to}
use Rattle.go_tree.specs.GoWords.Terminals.{lexemes}
use Rattle.go_tree.specs.GoWords.Tokens.Pieces.{keyword_spellings}
use Rattle.go_layout.specs.Goals.{read_front}
use Rattle.go_layout.proofs.Texts.{reading}
use Rattle.run_rules.proofs.CaseTools.{read_at}
use Rattle.pkg_graph.specs.ModuleFiles.Internal.{passes}
use Rattle.std.specs.Fmt.{digits}

-- A wrapper of another package.
abbrev wrapper_call_0_f0 : File Span
wrapper_call_0_f0 = record { package_name = (nm 8 12 (codes "main")); imports = ((imps (at 14 40) false ((imp (at 21 40) None (codes "example.com/m/old")) ∷ [])) ∷ []); decls = ((fn (at 42 89) None (nm 47 51 (codes "main")) (sig [] []) (at 54 89) (stmt_and (define (at 57 63) ((nm 57 58 (codes "x")) ∷ []) (expr_and (int_lit (at 62 63) (codes "3")) no_exprs)) (stmt_and (eval (at 65 87) (call (at 65 87) (ident (at 65 72) (codes "println")) (expr_and (call (at 73 86) (selector (at 73 83) (ident (at 73 76) (codes "old")) (nm 77 83 (codes "Square"))) (expr_and (ident (at 84 85) (codes "x")) no_exprs) Plain) no_exprs) Plain)) no_stmts))) ∷ []) }

abbrev wrapper_call_0_f1 : File Span
wrapper_call_0_f1 = record { package_name = (nm 8 11 (codes "old")); imports = ((imps (at 13 39) false ((imp (at 20 39) None (codes "example.com/m/pow")) ∷ [])) ∷ []); decls = ((fn (at 57 105) None (nm 62 68 (codes "Square")) (sig ((param (at 69 74) (Some (nm 69 70 (codes "x"))) (named (at 71 74) None (nm 71 74 (codes "int")))) ∷ []) ((param (at 76 79) None (named (at 76 79) None (nm 76 79 (codes "int")))) ∷ [])) (at 80 105) (stmt_and (return_ (at 83 103) (expr_and (call (at 90 103) (selector (at 90 97) (ident (at 90 93) (codes "pow")) (nm 94 97 (codes "Pow"))) (expr_and (ident (at 98 99) (codes "x")) (expr_and (int_lit (at 101 102) (codes "2")) no_exprs)) Plain) no_exprs)) no_stmts)) ∷ []) }

abbrev wrapper_call_0_f2 : File Span
wrapper_call_0_f2 = record { package_name = (nm 8 11 (codes "pow")); imports = []; decls = ((fn (at 13 53) None (nm 18 21 (codes "Pow")) (sig ((param (at 22 30) (Some (nm 22 23 (codes "x"))) (named (at 27 30) None (nm 27 30 (codes "int")))) ∷ (param (at 25 30) (Some (nm 25 26 (codes "n"))) (named (at 27 30) None (nm 27 30 (codes "int")))) ∷ []) ((param (at 32 35) None (named (at 32 35) None (nm 32 35 (codes "int")))) ∷ [])) (at 36 53) (stmt_and (return_ (at 39 51) (expr_and (binary (at 46 51) Mul (ident (at 46 47) (codes "x")) (ident (at 50 51) (codes "n"))) no_exprs)) no_stmts)) ∷ []) }

wrapper_call_0_f0_read : read_at span_to read_front (lexemes ((tok Keyword 0 7 (codes "package")) ∷ (tok Ident 8 12 (codes "main")) ∷ (tok Inserted 12 12 (codes ";")) ∷ (tok Keyword 14 20 (codes "import")) ∷ (tok Str 21 40 (codes "\"example.com/m/old\"")) ∷ (tok Inserted 40 40 (codes ";")) ∷ (tok Keyword 42 46 (codes "func")) ∷ (tok Ident 47 51 (codes "main")) ∷ (tok Operator 51 52 (codes "(")) ∷ (tok Operator 52 53 (codes ")")) ∷ (tok Operator 54 55 (codes "{")) ∷ (tok Ident 57 58 (codes "x")) ∷ (tok Operator 59 61 (codes ":=")) ∷ (tok Integer 62 63 (codes "3")) ∷ (tok Inserted 63 63 (codes ";")) ∷ (tok Ident 65 72 (codes "println")) ∷ (tok Operator 72 73 (codes "(")) ∷ (tok Ident 73 76 (codes "old")) ∷ (tok Operator 76 77 (codes ".")) ∷ (tok Ident 77 83 (codes "Square")) ∷ (tok Operator 83 84 (codes "(")) ∷ (tok Ident 84 85 (codes "x")) ∷ (tok Operator 85 86 (codes ")")) ∷ (tok Operator 86 87 (codes ")")) ∷ (tok Inserted 87 87 (codes ";")) ∷ (tok Operator 88 89 (codes "}")) ∷ (tok Inserted 89 89 (codes ";")) ∷ [])) ≡ Some (wrapper_call_0_f0, [])
unfolding reading
wrapper_call_0_f0_read = refl

wrapper_call_0_f1_read : read_at span_to read_front (lexemes ((tok Keyword 0 7 (codes "package")) ∷ (tok Ident 8 11 (codes "old")) ∷ (tok Inserted 11 11 (codes ";")) ∷ (tok Keyword 13 19 (codes "import")) ∷ (tok Str 20 39 (codes "\"example.com/m/pow\"")) ∷ (tok Inserted 39 39 (codes ";")) ∷ (tok Keyword 57 61 (codes "func")) ∷ (tok Ident 62 68 (codes "Square")) ∷ (tok Operator 68 69 (codes "(")) ∷ (tok Ident 69 70 (codes "x")) ∷ (tok Ident 71 74 (codes "int")) ∷ (tok Operator 74 75 (codes ")")) ∷ (tok Ident 76 79 (codes "int")) ∷ (tok Operator 80 81 (codes "{")) ∷ (tok Keyword 83 89 (codes "return")) ∷ (tok Ident 90 93 (codes "pow")) ∷ (tok Operator 93 94 (codes ".")) ∷ (tok Ident 94 97 (codes "Pow")) ∷ (tok Operator 97 98 (codes "(")) ∷ (tok Ident 98 99 (codes "x")) ∷ (tok Operator 99 100 (codes ",")) ∷ (tok Integer 101 102 (codes "2")) ∷ (tok Operator 102 103 (codes ")")) ∷ (tok Inserted 103 103 (codes ";")) ∷ (tok Operator 104 105 (codes "}")) ∷ (tok Inserted 105 105 (codes ";")) ∷ [])) ≡ Some (wrapper_call_0_f1, [])
unfolding reading
wrapper_call_0_f1_read = refl

wrapper_call_0_f2_read : read_at span_to read_front (lexemes ((tok Keyword 0 7 (codes "package")) ∷ (tok Ident 8 11 (codes "pow")) ∷ (tok Inserted 11 11 (codes ";")) ∷ (tok Keyword 13 17 (codes "func")) ∷ (tok Ident 18 21 (codes "Pow")) ∷ (tok Operator 21 22 (codes "(")) ∷ (tok Ident 22 23 (codes "x")) ∷ (tok Operator 23 24 (codes ",")) ∷ (tok Ident 25 26 (codes "n")) ∷ (tok Ident 27 30 (codes "int")) ∷ (tok Operator 30 31 (codes ")")) ∷ (tok Ident 32 35 (codes "int")) ∷ (tok Operator 36 37 (codes "{")) ∷ (tok Keyword 39 45 (codes "return")) ∷ (tok Ident 46 47 (codes "x")) ∷ (tok Operator 48 49 (codes "*")) ∷ (tok Ident 50 51 (codes "n")) ∷ (tok Inserted 51 51 (codes ";")) ∷ (tok Operator 52 53 (codes "}")) ∷ (tok Inserted 53 53 (codes ";")) ∷ [])) ≡ Some (wrapper_call_0_f2, [])
unfolding reading
wrapper_call_0_f2_read = refl

abbrev wrapper_call_0 : Module
wrapper_call_0 = record { packages = (pack (codes "example.com/m") (codes "main") (source (codes "main.go") wrapper_call_0_f0 ∷ []) ∷ pack (codes "example.com/m/old") (codes "old") (source (codes "old/old.go") wrapper_call_0_f1 ∷ []) ∷ pack (codes "example.com/m/pow") (codes "pow") (source (codes "pow/pow.go") wrapper_call_0_f2 ∷ []) ∷ []); marks = (mark 1 0 0 0 ∷ []); texts = (((codes "main.go"), record { text = (codes "package main\n\nimport \"example.com/m/old\"\n\nfunc main() {\n\tx := 3\n\tprintln(old.Square(x))\n}\n"); tokens = ((tok Keyword 0 7 (codes "package")) ∷ (tok Ident 8 12 (codes "main")) ∷ (tok Inserted 12 12 (codes ";")) ∷ (tok Keyword 14 20 (codes "import")) ∷ (tok Str 21 40 (codes "\"example.com/m/old\"")) ∷ (tok Inserted 40 40 (codes ";")) ∷ (tok Keyword 42 46 (codes "func")) ∷ (tok Ident 47 51 (codes "main")) ∷ (tok Operator 51 52 (codes "(")) ∷ (tok Operator 52 53 (codes ")")) ∷ (tok Operator 54 55 (codes "{")) ∷ (tok Ident 57 58 (codes "x")) ∷ (tok Operator 59 61 (codes ":=")) ∷ (tok Integer 62 63 (codes "3")) ∷ (tok Inserted 63 63 (codes ";")) ∷ (tok Ident 65 72 (codes "println")) ∷ (tok Operator 72 73 (codes "(")) ∷ (tok Ident 73 76 (codes "old")) ∷ (tok Operator 76 77 (codes ".")) ∷ (tok Ident 77 83 (codes "Square")) ∷ (tok Operator 83 84 (codes "(")) ∷ (tok Ident 84 85 (codes "x")) ∷ (tok Operator 85 86 (codes ")")) ∷ (tok Operator 86 87 (codes ")")) ∷ (tok Inserted 87 87 (codes ";")) ∷ (tok Operator 88 89 (codes "}")) ∷ (tok Inserted 89 89 (codes ";")) ∷ []); comments = [] }) ∷ ((codes "old/old.go"), record { text = (codes "package old\n\nimport \"example.com/m/pow\"\n\n//go:fix inline\nfunc Square(x int) int {\n\treturn pow.Pow(x, 2)\n}\n"); tokens = ((tok Keyword 0 7 (codes "package")) ∷ (tok Ident 8 11 (codes "old")) ∷ (tok Inserted 11 11 (codes ";")) ∷ (tok Keyword 13 19 (codes "import")) ∷ (tok Str 20 39 (codes "\"example.com/m/pow\"")) ∷ (tok Inserted 39 39 (codes ";")) ∷ (tok Keyword 57 61 (codes "func")) ∷ (tok Ident 62 68 (codes "Square")) ∷ (tok Operator 68 69 (codes "(")) ∷ (tok Ident 69 70 (codes "x")) ∷ (tok Ident 71 74 (codes "int")) ∷ (tok Operator 74 75 (codes ")")) ∷ (tok Ident 76 79 (codes "int")) ∷ (tok Operator 80 81 (codes "{")) ∷ (tok Keyword 83 89 (codes "return")) ∷ (tok Ident 90 93 (codes "pow")) ∷ (tok Operator 93 94 (codes ".")) ∷ (tok Ident 94 97 (codes "Pow")) ∷ (tok Operator 97 98 (codes "(")) ∷ (tok Ident 98 99 (codes "x")) ∷ (tok Operator 99 100 (codes ",")) ∷ (tok Integer 101 102 (codes "2")) ∷ (tok Operator 102 103 (codes ")")) ∷ (tok Inserted 103 103 (codes ";")) ∷ (tok Operator 104 105 (codes "}")) ∷ (tok Inserted 105 105 (codes ";")) ∷ []); comments = ((note 41 56) ∷ []) }) ∷ ((codes "pow/pow.go"), record { text = (codes "package pow\n\nfunc Pow(x, n int) int {\n\treturn x * n\n}\n"); tokens = ((tok Keyword 0 7 (codes "package")) ∷ (tok Ident 8 11 (codes "pow")) ∷ (tok Inserted 11 11 (codes ";")) ∷ (tok Keyword 13 17 (codes "func")) ∷ (tok Ident 18 21 (codes "Pow")) ∷ (tok Operator 21 22 (codes "(")) ∷ (tok Ident 22 23 (codes "x")) ∷ (tok Operator 23 24 (codes ",")) ∷ (tok Ident 25 26 (codes "n")) ∷ (tok Ident 27 30 (codes "int")) ∷ (tok Operator 30 31 (codes ")")) ∷ (tok Ident 32 35 (codes "int")) ∷ (tok Operator 36 37 (codes "{")) ∷ (tok Keyword 39 45 (codes "return")) ∷ (tok Ident 46 47 (codes "x")) ∷ (tok Operator 48 49 (codes "*")) ∷ (tok Ident 50 51 (codes "n")) ∷ (tok Inserted 51 51 (codes ";")) ∷ (tok Operator 52 53 (codes "}")) ∷ (tok Inserted 53 53 (codes ";")) ∷ []); comments = [] }) ∷ []) }

wrapper_call_0_typed : is_typed wrapper_call_0 ≡ true
wrapper_call_0_typed = refl

wrapper_call_0_step : first_change wrapper_call_0 ≡ Some ((codes "main.go"), ExprForm, (codes "package main\n\nimport \"example.com/m/pow\"\n\nfunc main() {\n\tx := 3\n\tprintln(pow.Pow(x, 2))\n}\n"))
unfolding passes keyword_spellings digits
wrapper_call_0_step = refl

abbrev wrapper_call_1_f0 : File Span
wrapper_call_1_f0 = record { package_name = (nm 8 12 (codes "main")); imports = ((imps (at 14 40) false ((imp (at 21 40) None (codes "example.com/m/pow")) ∷ [])) ∷ []); decls = ((fn (at 42 89) None (nm 47 51 (codes "main")) (sig [] []) (at 54 89) (stmt_and (define (at 57 63) ((nm 57 58 (codes "x")) ∷ []) (expr_and (int_lit (at 62 63) (codes "3")) no_exprs)) (stmt_and (eval (at 65 87) (call (at 65 87) (ident (at 65 72) (codes "println")) (expr_and (call (at 73 86) (selector (at 73 80) (ident (at 73 76) (codes "pow")) (nm 77 80 (codes "Pow"))) (expr_and (ident (at 81 82) (codes "x")) (expr_and (int_lit (at 84 85) (codes "2")) no_exprs)) Plain) no_exprs) Plain)) no_stmts))) ∷ []) }

abbrev wrapper_call_1_f1 : File Span
wrapper_call_1_f1 = record { package_name = (nm 8 11 (codes "old")); imports = ((imps (at 13 39) false ((imp (at 20 39) None (codes "example.com/m/pow")) ∷ [])) ∷ []); decls = ((fn (at 57 105) None (nm 62 68 (codes "Square")) (sig ((param (at 69 74) (Some (nm 69 70 (codes "x"))) (named (at 71 74) None (nm 71 74 (codes "int")))) ∷ []) ((param (at 76 79) None (named (at 76 79) None (nm 76 79 (codes "int")))) ∷ [])) (at 80 105) (stmt_and (return_ (at 83 103) (expr_and (call (at 90 103) (selector (at 90 97) (ident (at 90 93) (codes "pow")) (nm 94 97 (codes "Pow"))) (expr_and (ident (at 98 99) (codes "x")) (expr_and (int_lit (at 101 102) (codes "2")) no_exprs)) Plain) no_exprs)) no_stmts)) ∷ []) }

abbrev wrapper_call_1_f2 : File Span
wrapper_call_1_f2 = record { package_name = (nm 8 11 (codes "pow")); imports = []; decls = ((fn (at 13 53) None (nm 18 21 (codes "Pow")) (sig ((param (at 22 30) (Some (nm 22 23 (codes "x"))) (named (at 27 30) None (nm 27 30 (codes "int")))) ∷ (param (at 25 30) (Some (nm 25 26 (codes "n"))) (named (at 27 30) None (nm 27 30 (codes "int")))) ∷ []) ((param (at 32 35) None (named (at 32 35) None (nm 32 35 (codes "int")))) ∷ [])) (at 36 53) (stmt_and (return_ (at 39 51) (expr_and (binary (at 46 51) Mul (ident (at 46 47) (codes "x")) (ident (at 50 51) (codes "n"))) no_exprs)) no_stmts)) ∷ []) }

wrapper_call_1_f0_read : read_at span_to read_front (lexemes ((tok Keyword 0 7 (codes "package")) ∷ (tok Ident 8 12 (codes "main")) ∷ (tok Inserted 12 12 (codes ";")) ∷ (tok Keyword 14 20 (codes "import")) ∷ (tok Str 21 40 (codes "\"example.com/m/pow\"")) ∷ (tok Inserted 40 40 (codes ";")) ∷ (tok Keyword 42 46 (codes "func")) ∷ (tok Ident 47 51 (codes "main")) ∷ (tok Operator 51 52 (codes "(")) ∷ (tok Operator 52 53 (codes ")")) ∷ (tok Operator 54 55 (codes "{")) ∷ (tok Ident 57 58 (codes "x")) ∷ (tok Operator 59 61 (codes ":=")) ∷ (tok Integer 62 63 (codes "3")) ∷ (tok Inserted 63 63 (codes ";")) ∷ (tok Ident 65 72 (codes "println")) ∷ (tok Operator 72 73 (codes "(")) ∷ (tok Ident 73 76 (codes "pow")) ∷ (tok Operator 76 77 (codes ".")) ∷ (tok Ident 77 80 (codes "Pow")) ∷ (tok Operator 80 81 (codes "(")) ∷ (tok Ident 81 82 (codes "x")) ∷ (tok Operator 82 83 (codes ",")) ∷ (tok Integer 84 85 (codes "2")) ∷ (tok Operator 85 86 (codes ")")) ∷ (tok Operator 86 87 (codes ")")) ∷ (tok Inserted 87 87 (codes ";")) ∷ (tok Operator 88 89 (codes "}")) ∷ (tok Inserted 89 89 (codes ";")) ∷ [])) ≡ Some (wrapper_call_1_f0, [])
unfolding reading
wrapper_call_1_f0_read = refl

abbrev wrapper_call_1 : Module
wrapper_call_1 = record { packages = (pack (codes "example.com/m") (codes "main") (source (codes "main.go") wrapper_call_1_f0 ∷ []) ∷ pack (codes "example.com/m/old") (codes "old") (source (codes "old/old.go") wrapper_call_1_f1 ∷ []) ∷ pack (codes "example.com/m/pow") (codes "pow") (source (codes "pow/pow.go") wrapper_call_1_f2 ∷ []) ∷ []); marks = (mark 1 0 0 0 ∷ []); texts = (((codes "main.go"), record { text = (codes "package main\n\nimport \"example.com/m/pow\"\n\nfunc main() {\n\tx := 3\n\tprintln(pow.Pow(x, 2))\n}\n"); tokens = ((tok Keyword 0 7 (codes "package")) ∷ (tok Ident 8 12 (codes "main")) ∷ (tok Inserted 12 12 (codes ";")) ∷ (tok Keyword 14 20 (codes "import")) ∷ (tok Str 21 40 (codes "\"example.com/m/pow\"")) ∷ (tok Inserted 40 40 (codes ";")) ∷ (tok Keyword 42 46 (codes "func")) ∷ (tok Ident 47 51 (codes "main")) ∷ (tok Operator 51 52 (codes "(")) ∷ (tok Operator 52 53 (codes ")")) ∷ (tok Operator 54 55 (codes "{")) ∷ (tok Ident 57 58 (codes "x")) ∷ (tok Operator 59 61 (codes ":=")) ∷ (tok Integer 62 63 (codes "3")) ∷ (tok Inserted 63 63 (codes ";")) ∷ (tok Ident 65 72 (codes "println")) ∷ (tok Operator 72 73 (codes "(")) ∷ (tok Ident 73 76 (codes "pow")) ∷ (tok Operator 76 77 (codes ".")) ∷ (tok Ident 77 80 (codes "Pow")) ∷ (tok Operator 80 81 (codes "(")) ∷ (tok Ident 81 82 (codes "x")) ∷ (tok Operator 82 83 (codes ",")) ∷ (tok Integer 84 85 (codes "2")) ∷ (tok Operator 85 86 (codes ")")) ∷ (tok Operator 86 87 (codes ")")) ∷ (tok Inserted 87 87 (codes ";")) ∷ (tok Operator 88 89 (codes "}")) ∷ (tok Inserted 89 89 (codes ";")) ∷ []); comments = [] }) ∷ ((codes "old/old.go"), record { text = (codes "package old\n\nimport \"example.com/m/pow\"\n\n//go:fix inline\nfunc Square(x int) int {\n\treturn pow.Pow(x, 2)\n}\n"); tokens = ((tok Keyword 0 7 (codes "package")) ∷ (tok Ident 8 11 (codes "old")) ∷ (tok Inserted 11 11 (codes ";")) ∷ (tok Keyword 13 19 (codes "import")) ∷ (tok Str 20 39 (codes "\"example.com/m/pow\"")) ∷ (tok Inserted 39 39 (codes ";")) ∷ (tok Keyword 57 61 (codes "func")) ∷ (tok Ident 62 68 (codes "Square")) ∷ (tok Operator 68 69 (codes "(")) ∷ (tok Ident 69 70 (codes "x")) ∷ (tok Ident 71 74 (codes "int")) ∷ (tok Operator 74 75 (codes ")")) ∷ (tok Ident 76 79 (codes "int")) ∷ (tok Operator 80 81 (codes "{")) ∷ (tok Keyword 83 89 (codes "return")) ∷ (tok Ident 90 93 (codes "pow")) ∷ (tok Operator 93 94 (codes ".")) ∷ (tok Ident 94 97 (codes "Pow")) ∷ (tok Operator 97 98 (codes "(")) ∷ (tok Ident 98 99 (codes "x")) ∷ (tok Operator 99 100 (codes ",")) ∷ (tok Integer 101 102 (codes "2")) ∷ (tok Operator 102 103 (codes ")")) ∷ (tok Inserted 103 103 (codes ";")) ∷ (tok Operator 104 105 (codes "}")) ∷ (tok Inserted 105 105 (codes ";")) ∷ []); comments = ((note 41 56) ∷ []) }) ∷ ((codes "pow/pow.go"), record { text = (codes "package pow\n\nfunc Pow(x, n int) int {\n\treturn x * n\n}\n"); tokens = ((tok Keyword 0 7 (codes "package")) ∷ (tok Ident 8 11 (codes "pow")) ∷ (tok Inserted 11 11 (codes ";")) ∷ (tok Keyword 13 17 (codes "func")) ∷ (tok Ident 18 21 (codes "Pow")) ∷ (tok Operator 21 22 (codes "(")) ∷ (tok Ident 22 23 (codes "x")) ∷ (tok Operator 23 24 (codes ",")) ∷ (tok Ident 25 26 (codes "n")) ∷ (tok Ident 27 30 (codes "int")) ∷ (tok Operator 30 31 (codes ")")) ∷ (tok Ident 32 35 (codes "int")) ∷ (tok Operator 36 37 (codes "{")) ∷ (tok Keyword 39 45 (codes "return")) ∷ (tok Ident 46 47 (codes "x")) ∷ (tok Operator 48 49 (codes "*")) ∷ (tok Ident 50 51 (codes "n")) ∷ (tok Inserted 51 51 (codes ";")) ∷ (tok Operator 52 53 (codes "}")) ∷ (tok Inserted 53 53 (codes ";")) ∷ []); comments = [] }) ∷ []) }

wrapper_call_1_typed : is_typed wrapper_call_1 ≡ true
wrapper_call_1_typed = refl

wrapper_call_1_ends : step_of wrapper_call_1 ≡ None
unfolding passes keyword_spellings digits
wrapper_call_1_ends = refl

wrapper_call_1_kept : kept_uses wrapper_call_1 ≡ []
unfolding passes keyword_spellings digits
wrapper_call_1_kept = refl

-- An argument that acts is evaluated once, and first.
abbrev acting_argument_0_f0 : File Span
acting_argument_0_f0 = record { package_name = (nm 8 12 (codes "main")); imports = ((imps (at 14 40) false ((imp (at 21 40) None (codes "example.com/m/old")) ∷ [])) ∷ []); decls = ((fn (at 42 85) None (nm 47 51 (codes "next")) (sig [] ((param (at 54 57) None (named (at 54 57) None (nm 54 57 (codes "int")))) ∷ [])) (at 58 85) (stmt_and (eval (at 61 73) (call (at 61 73) (ident (at 61 68) (codes "println")) (expr_and (str_lit (at 69 72) (codes "\"n\"")) no_exprs) Plain)) (stmt_and (return_ (at 75 83) (expr_and (int_lit (at 82 83) (codes "1")) no_exprs)) no_stmts))) ∷ (fn (at 87 131) None (nm 92 96 (codes "main")) (sig [] []) (at 99 131) (stmt_and (eval (at 102 129) (call (at 102 129) (ident (at 102 109) (codes "println")) (expr_and (call (at 110 128) (selector (at 110 120) (ident (at 110 113) (codes "old")) (nm 114 120 (codes "Square"))) (expr_and (call (at 121 127) (ident (at 121 125) (codes "next")) no_exprs Plain) no_exprs) Plain) no_exprs) Plain)) no_stmts)) ∷ []) }

abbrev acting_argument_0_f1 : File Span
acting_argument_0_f1 = record { package_name = (nm 8 11 (codes "old")); imports = ((imps (at 13 39) false ((imp (at 20 39) None (codes "example.com/m/pow")) ∷ [])) ∷ []); decls = ((fn (at 57 105) None (nm 62 68 (codes "Square")) (sig ((param (at 69 74) (Some (nm 69 70 (codes "x"))) (named (at 71 74) None (nm 71 74 (codes "int")))) ∷ []) ((param (at 76 79) None (named (at 76 79) None (nm 76 79 (codes "int")))) ∷ [])) (at 80 105) (stmt_and (return_ (at 83 103) (expr_and (call (at 90 103) (selector (at 90 97) (ident (at 90 93) (codes "pow")) (nm 94 97 (codes "Pow"))) (expr_and (ident (at 98 99) (codes "x")) (expr_and (int_lit (at 101 102) (codes "2")) no_exprs)) Plain) no_exprs)) no_stmts)) ∷ []) }

abbrev acting_argument_0_f2 : File Span
acting_argument_0_f2 = record { package_name = (nm 8 11 (codes "pow")); imports = []; decls = ((fn (at 13 53) None (nm 18 21 (codes "Pow")) (sig ((param (at 22 30) (Some (nm 22 23 (codes "x"))) (named (at 27 30) None (nm 27 30 (codes "int")))) ∷ (param (at 25 30) (Some (nm 25 26 (codes "n"))) (named (at 27 30) None (nm 27 30 (codes "int")))) ∷ []) ((param (at 32 35) None (named (at 32 35) None (nm 32 35 (codes "int")))) ∷ [])) (at 36 53) (stmt_and (return_ (at 39 51) (expr_and (binary (at 46 51) Mul (ident (at 46 47) (codes "x")) (ident (at 50 51) (codes "n"))) no_exprs)) no_stmts)) ∷ []) }

acting_argument_0_f0_read : read_at span_to read_front (lexemes ((tok Keyword 0 7 (codes "package")) ∷ (tok Ident 8 12 (codes "main")) ∷ (tok Inserted 12 12 (codes ";")) ∷ (tok Keyword 14 20 (codes "import")) ∷ (tok Str 21 40 (codes "\"example.com/m/old\"")) ∷ (tok Inserted 40 40 (codes ";")) ∷ (tok Keyword 42 46 (codes "func")) ∷ (tok Ident 47 51 (codes "next")) ∷ (tok Operator 51 52 (codes "(")) ∷ (tok Operator 52 53 (codes ")")) ∷ (tok Ident 54 57 (codes "int")) ∷ (tok Operator 58 59 (codes "{")) ∷ (tok Ident 61 68 (codes "println")) ∷ (tok Operator 68 69 (codes "(")) ∷ (tok Str 69 72 (codes "\"n\"")) ∷ (tok Operator 72 73 (codes ")")) ∷ (tok Inserted 73 73 (codes ";")) ∷ (tok Keyword 75 81 (codes "return")) ∷ (tok Integer 82 83 (codes "1")) ∷ (tok Inserted 83 83 (codes ";")) ∷ (tok Operator 84 85 (codes "}")) ∷ (tok Inserted 85 85 (codes ";")) ∷ (tok Keyword 87 91 (codes "func")) ∷ (tok Ident 92 96 (codes "main")) ∷ (tok Operator 96 97 (codes "(")) ∷ (tok Operator 97 98 (codes ")")) ∷ (tok Operator 99 100 (codes "{")) ∷ (tok Ident 102 109 (codes "println")) ∷ (tok Operator 109 110 (codes "(")) ∷ (tok Ident 110 113 (codes "old")) ∷ (tok Operator 113 114 (codes ".")) ∷ (tok Ident 114 120 (codes "Square")) ∷ (tok Operator 120 121 (codes "(")) ∷ (tok Ident 121 125 (codes "next")) ∷ (tok Operator 125 126 (codes "(")) ∷ (tok Operator 126 127 (codes ")")) ∷ (tok Operator 127 128 (codes ")")) ∷ (tok Operator 128 129 (codes ")")) ∷ (tok Inserted 129 129 (codes ";")) ∷ (tok Operator 130 131 (codes "}")) ∷ (tok Inserted 131 131 (codes ";")) ∷ [])) ≡ Some (acting_argument_0_f0, [])
unfolding reading
acting_argument_0_f0_read = refl

abbrev acting_argument_0 : Module
acting_argument_0 = record { packages = (pack (codes "example.com/m") (codes "main") (source (codes "main.go") acting_argument_0_f0 ∷ []) ∷ pack (codes "example.com/m/old") (codes "old") (source (codes "old/old.go") acting_argument_0_f1 ∷ []) ∷ pack (codes "example.com/m/pow") (codes "pow") (source (codes "pow/pow.go") acting_argument_0_f2 ∷ []) ∷ []); marks = (mark 1 0 0 0 ∷ []); texts = (((codes "main.go"), record { text = (codes "package main\n\nimport \"example.com/m/old\"\n\nfunc next() int {\n\tprintln(\"n\")\n\treturn 1\n}\n\nfunc main() {\n\tprintln(old.Square(next()))\n}\n"); tokens = ((tok Keyword 0 7 (codes "package")) ∷ (tok Ident 8 12 (codes "main")) ∷ (tok Inserted 12 12 (codes ";")) ∷ (tok Keyword 14 20 (codes "import")) ∷ (tok Str 21 40 (codes "\"example.com/m/old\"")) ∷ (tok Inserted 40 40 (codes ";")) ∷ (tok Keyword 42 46 (codes "func")) ∷ (tok Ident 47 51 (codes "next")) ∷ (tok Operator 51 52 (codes "(")) ∷ (tok Operator 52 53 (codes ")")) ∷ (tok Ident 54 57 (codes "int")) ∷ (tok Operator 58 59 (codes "{")) ∷ (tok Ident 61 68 (codes "println")) ∷ (tok Operator 68 69 (codes "(")) ∷ (tok Str 69 72 (codes "\"n\"")) ∷ (tok Operator 72 73 (codes ")")) ∷ (tok Inserted 73 73 (codes ";")) ∷ (tok Keyword 75 81 (codes "return")) ∷ (tok Integer 82 83 (codes "1")) ∷ (tok Inserted 83 83 (codes ";")) ∷ (tok Operator 84 85 (codes "}")) ∷ (tok Inserted 85 85 (codes ";")) ∷ (tok Keyword 87 91 (codes "func")) ∷ (tok Ident 92 96 (codes "main")) ∷ (tok Operator 96 97 (codes "(")) ∷ (tok Operator 97 98 (codes ")")) ∷ (tok Operator 99 100 (codes "{")) ∷ (tok Ident 102 109 (codes "println")) ∷ (tok Operator 109 110 (codes "(")) ∷ (tok Ident 110 113 (codes "old")) ∷ (tok Operator 113 114 (codes ".")) ∷ (tok Ident 114 120 (codes "Square")) ∷ (tok Operator 120 121 (codes "(")) ∷ (tok Ident 121 125 (codes "next")) ∷ (tok Operator 125 126 (codes "(")) ∷ (tok Operator 126 127 (codes ")")) ∷ (tok Operator 127 128 (codes ")")) ∷ (tok Operator 128 129 (codes ")")) ∷ (tok Inserted 129 129 (codes ";")) ∷ (tok Operator 130 131 (codes "}")) ∷ (tok Inserted 131 131 (codes ";")) ∷ []); comments = [] }) ∷ ((codes "old/old.go"), record { text = (codes "package old\n\nimport \"example.com/m/pow\"\n\n//go:fix inline\nfunc Square(x int) int {\n\treturn pow.Pow(x, 2)\n}\n"); tokens = ((tok Keyword 0 7 (codes "package")) ∷ (tok Ident 8 11 (codes "old")) ∷ (tok Inserted 11 11 (codes ";")) ∷ (tok Keyword 13 19 (codes "import")) ∷ (tok Str 20 39 (codes "\"example.com/m/pow\"")) ∷ (tok Inserted 39 39 (codes ";")) ∷ (tok Keyword 57 61 (codes "func")) ∷ (tok Ident 62 68 (codes "Square")) ∷ (tok Operator 68 69 (codes "(")) ∷ (tok Ident 69 70 (codes "x")) ∷ (tok Ident 71 74 (codes "int")) ∷ (tok Operator 74 75 (codes ")")) ∷ (tok Ident 76 79 (codes "int")) ∷ (tok Operator 80 81 (codes "{")) ∷ (tok Keyword 83 89 (codes "return")) ∷ (tok Ident 90 93 (codes "pow")) ∷ (tok Operator 93 94 (codes ".")) ∷ (tok Ident 94 97 (codes "Pow")) ∷ (tok Operator 97 98 (codes "(")) ∷ (tok Ident 98 99 (codes "x")) ∷ (tok Operator 99 100 (codes ",")) ∷ (tok Integer 101 102 (codes "2")) ∷ (tok Operator 102 103 (codes ")")) ∷ (tok Inserted 103 103 (codes ";")) ∷ (tok Operator 104 105 (codes "}")) ∷ (tok Inserted 105 105 (codes ";")) ∷ []); comments = ((note 41 56) ∷ []) }) ∷ ((codes "pow/pow.go"), record { text = (codes "package pow\n\nfunc Pow(x, n int) int {\n\treturn x * n\n}\n"); tokens = ((tok Keyword 0 7 (codes "package")) ∷ (tok Ident 8 11 (codes "pow")) ∷ (tok Inserted 11 11 (codes ";")) ∷ (tok Keyword 13 17 (codes "func")) ∷ (tok Ident 18 21 (codes "Pow")) ∷ (tok Operator 21 22 (codes "(")) ∷ (tok Ident 22 23 (codes "x")) ∷ (tok Operator 23 24 (codes ",")) ∷ (tok Ident 25 26 (codes "n")) ∷ (tok Ident 27 30 (codes "int")) ∷ (tok Operator 30 31 (codes ")")) ∷ (tok Ident 32 35 (codes "int")) ∷ (tok Operator 36 37 (codes "{")) ∷ (tok Keyword 39 45 (codes "return")) ∷ (tok Ident 46 47 (codes "x")) ∷ (tok Operator 48 49 (codes "*")) ∷ (tok Ident 50 51 (codes "n")) ∷ (tok Inserted 51 51 (codes ";")) ∷ (tok Operator 52 53 (codes "}")) ∷ (tok Inserted 53 53 (codes ";")) ∷ []); comments = [] }) ∷ []) }

acting_argument_0_typed : is_typed acting_argument_0 ≡ true
acting_argument_0_typed = refl

acting_argument_0_step : first_change acting_argument_0 ≡ Some ((codes "main.go"), ExprForm, (codes "package main\n\nimport \"example.com/m/pow\"\n\nfunc next() int {\n\tprintln(\"n\")\n\treturn 1\n}\n\nfunc main() {\n\tprintln(pow.Pow(next(), 2))\n}\n"))
unfolding passes keyword_spellings digits
acting_argument_0_step = refl

abbrev acting_argument_1_f0 : File Span
acting_argument_1_f0 = record { package_name = (nm 8 12 (codes "main")); imports = ((imps (at 14 40) false ((imp (at 21 40) None (codes "example.com/m/pow")) ∷ [])) ∷ []); decls = ((fn (at 42 85) None (nm 47 51 (codes "next")) (sig [] ((param (at 54 57) None (named (at 54 57) None (nm 54 57 (codes "int")))) ∷ [])) (at 58 85) (stmt_and (eval (at 61 73) (call (at 61 73) (ident (at 61 68) (codes "println")) (expr_and (str_lit (at 69 72) (codes "\"n\"")) no_exprs) Plain)) (stmt_and (return_ (at 75 83) (expr_and (int_lit (at 82 83) (codes "1")) no_exprs)) no_stmts))) ∷ (fn (at 87 131) None (nm 92 96 (codes "main")) (sig [] []) (at 99 131) (stmt_and (eval (at 102 129) (call (at 102 129) (ident (at 102 109) (codes "println")) (expr_and (call (at 110 128) (selector (at 110 117) (ident (at 110 113) (codes "pow")) (nm 114 117 (codes "Pow"))) (expr_and (call (at 118 124) (ident (at 118 122) (codes "next")) no_exprs Plain) (expr_and (int_lit (at 126 127) (codes "2")) no_exprs)) Plain) no_exprs) Plain)) no_stmts)) ∷ []) }

abbrev acting_argument_1_f1 : File Span
acting_argument_1_f1 = record { package_name = (nm 8 11 (codes "old")); imports = ((imps (at 13 39) false ((imp (at 20 39) None (codes "example.com/m/pow")) ∷ [])) ∷ []); decls = ((fn (at 57 105) None (nm 62 68 (codes "Square")) (sig ((param (at 69 74) (Some (nm 69 70 (codes "x"))) (named (at 71 74) None (nm 71 74 (codes "int")))) ∷ []) ((param (at 76 79) None (named (at 76 79) None (nm 76 79 (codes "int")))) ∷ [])) (at 80 105) (stmt_and (return_ (at 83 103) (expr_and (call (at 90 103) (selector (at 90 97) (ident (at 90 93) (codes "pow")) (nm 94 97 (codes "Pow"))) (expr_and (ident (at 98 99) (codes "x")) (expr_and (int_lit (at 101 102) (codes "2")) no_exprs)) Plain) no_exprs)) no_stmts)) ∷ []) }

abbrev acting_argument_1_f2 : File Span
acting_argument_1_f2 = record { package_name = (nm 8 11 (codes "pow")); imports = []; decls = ((fn (at 13 53) None (nm 18 21 (codes "Pow")) (sig ((param (at 22 30) (Some (nm 22 23 (codes "x"))) (named (at 27 30) None (nm 27 30 (codes "int")))) ∷ (param (at 25 30) (Some (nm 25 26 (codes "n"))) (named (at 27 30) None (nm 27 30 (codes "int")))) ∷ []) ((param (at 32 35) None (named (at 32 35) None (nm 32 35 (codes "int")))) ∷ [])) (at 36 53) (stmt_and (return_ (at 39 51) (expr_and (binary (at 46 51) Mul (ident (at 46 47) (codes "x")) (ident (at 50 51) (codes "n"))) no_exprs)) no_stmts)) ∷ []) }

acting_argument_1_f0_read : read_at span_to read_front (lexemes ((tok Keyword 0 7 (codes "package")) ∷ (tok Ident 8 12 (codes "main")) ∷ (tok Inserted 12 12 (codes ";")) ∷ (tok Keyword 14 20 (codes "import")) ∷ (tok Str 21 40 (codes "\"example.com/m/pow\"")) ∷ (tok Inserted 40 40 (codes ";")) ∷ (tok Keyword 42 46 (codes "func")) ∷ (tok Ident 47 51 (codes "next")) ∷ (tok Operator 51 52 (codes "(")) ∷ (tok Operator 52 53 (codes ")")) ∷ (tok Ident 54 57 (codes "int")) ∷ (tok Operator 58 59 (codes "{")) ∷ (tok Ident 61 68 (codes "println")) ∷ (tok Operator 68 69 (codes "(")) ∷ (tok Str 69 72 (codes "\"n\"")) ∷ (tok Operator 72 73 (codes ")")) ∷ (tok Inserted 73 73 (codes ";")) ∷ (tok Keyword 75 81 (codes "return")) ∷ (tok Integer 82 83 (codes "1")) ∷ (tok Inserted 83 83 (codes ";")) ∷ (tok Operator 84 85 (codes "}")) ∷ (tok Inserted 85 85 (codes ";")) ∷ (tok Keyword 87 91 (codes "func")) ∷ (tok Ident 92 96 (codes "main")) ∷ (tok Operator 96 97 (codes "(")) ∷ (tok Operator 97 98 (codes ")")) ∷ (tok Operator 99 100 (codes "{")) ∷ (tok Ident 102 109 (codes "println")) ∷ (tok Operator 109 110 (codes "(")) ∷ (tok Ident 110 113 (codes "pow")) ∷ (tok Operator 113 114 (codes ".")) ∷ (tok Ident 114 117 (codes "Pow")) ∷ (tok Operator 117 118 (codes "(")) ∷ (tok Ident 118 122 (codes "next")) ∷ (tok Operator 122 123 (codes "(")) ∷ (tok Operator 123 124 (codes ")")) ∷ (tok Operator 124 125 (codes ",")) ∷ (tok Integer 126 127 (codes "2")) ∷ (tok Operator 127 128 (codes ")")) ∷ (tok Operator 128 129 (codes ")")) ∷ (tok Inserted 129 129 (codes ";")) ∷ (tok Operator 130 131 (codes "}")) ∷ (tok Inserted 131 131 (codes ";")) ∷ [])) ≡ Some (acting_argument_1_f0, [])
unfolding reading
acting_argument_1_f0_read = refl

abbrev acting_argument_1 : Module
acting_argument_1 = record { packages = (pack (codes "example.com/m") (codes "main") (source (codes "main.go") acting_argument_1_f0 ∷ []) ∷ pack (codes "example.com/m/old") (codes "old") (source (codes "old/old.go") acting_argument_1_f1 ∷ []) ∷ pack (codes "example.com/m/pow") (codes "pow") (source (codes "pow/pow.go") acting_argument_1_f2 ∷ []) ∷ []); marks = (mark 1 0 0 0 ∷ []); texts = (((codes "main.go"), record { text = (codes "package main\n\nimport \"example.com/m/pow\"\n\nfunc next() int {\n\tprintln(\"n\")\n\treturn 1\n}\n\nfunc main() {\n\tprintln(pow.Pow(next(), 2))\n}\n"); tokens = ((tok Keyword 0 7 (codes "package")) ∷ (tok Ident 8 12 (codes "main")) ∷ (tok Inserted 12 12 (codes ";")) ∷ (tok Keyword 14 20 (codes "import")) ∷ (tok Str 21 40 (codes "\"example.com/m/pow\"")) ∷ (tok Inserted 40 40 (codes ";")) ∷ (tok Keyword 42 46 (codes "func")) ∷ (tok Ident 47 51 (codes "next")) ∷ (tok Operator 51 52 (codes "(")) ∷ (tok Operator 52 53 (codes ")")) ∷ (tok Ident 54 57 (codes "int")) ∷ (tok Operator 58 59 (codes "{")) ∷ (tok Ident 61 68 (codes "println")) ∷ (tok Operator 68 69 (codes "(")) ∷ (tok Str 69 72 (codes "\"n\"")) ∷ (tok Operator 72 73 (codes ")")) ∷ (tok Inserted 73 73 (codes ";")) ∷ (tok Keyword 75 81 (codes "return")) ∷ (tok Integer 82 83 (codes "1")) ∷ (tok Inserted 83 83 (codes ";")) ∷ (tok Operator 84 85 (codes "}")) ∷ (tok Inserted 85 85 (codes ";")) ∷ (tok Keyword 87 91 (codes "func")) ∷ (tok Ident 92 96 (codes "main")) ∷ (tok Operator 96 97 (codes "(")) ∷ (tok Operator 97 98 (codes ")")) ∷ (tok Operator 99 100 (codes "{")) ∷ (tok Ident 102 109 (codes "println")) ∷ (tok Operator 109 110 (codes "(")) ∷ (tok Ident 110 113 (codes "pow")) ∷ (tok Operator 113 114 (codes ".")) ∷ (tok Ident 114 117 (codes "Pow")) ∷ (tok Operator 117 118 (codes "(")) ∷ (tok Ident 118 122 (codes "next")) ∷ (tok Operator 122 123 (codes "(")) ∷ (tok Operator 123 124 (codes ")")) ∷ (tok Operator 124 125 (codes ",")) ∷ (tok Integer 126 127 (codes "2")) ∷ (tok Operator 127 128 (codes ")")) ∷ (tok Operator 128 129 (codes ")")) ∷ (tok Inserted 129 129 (codes ";")) ∷ (tok Operator 130 131 (codes "}")) ∷ (tok Inserted 131 131 (codes ";")) ∷ []); comments = [] }) ∷ ((codes "old/old.go"), record { text = (codes "package old\n\nimport \"example.com/m/pow\"\n\n//go:fix inline\nfunc Square(x int) int {\n\treturn pow.Pow(x, 2)\n}\n"); tokens = ((tok Keyword 0 7 (codes "package")) ∷ (tok Ident 8 11 (codes "old")) ∷ (tok Inserted 11 11 (codes ";")) ∷ (tok Keyword 13 19 (codes "import")) ∷ (tok Str 20 39 (codes "\"example.com/m/pow\"")) ∷ (tok Inserted 39 39 (codes ";")) ∷ (tok Keyword 57 61 (codes "func")) ∷ (tok Ident 62 68 (codes "Square")) ∷ (tok Operator 68 69 (codes "(")) ∷ (tok Ident 69 70 (codes "x")) ∷ (tok Ident 71 74 (codes "int")) ∷ (tok Operator 74 75 (codes ")")) ∷ (tok Ident 76 79 (codes "int")) ∷ (tok Operator 80 81 (codes "{")) ∷ (tok Keyword 83 89 (codes "return")) ∷ (tok Ident 90 93 (codes "pow")) ∷ (tok Operator 93 94 (codes ".")) ∷ (tok Ident 94 97 (codes "Pow")) ∷ (tok Operator 97 98 (codes "(")) ∷ (tok Ident 98 99 (codes "x")) ∷ (tok Operator 99 100 (codes ",")) ∷ (tok Integer 101 102 (codes "2")) ∷ (tok Operator 102 103 (codes ")")) ∷ (tok Inserted 103 103 (codes ";")) ∷ (tok Operator 104 105 (codes "}")) ∷ (tok Inserted 105 105 (codes ";")) ∷ []); comments = ((note 41 56) ∷ []) }) ∷ ((codes "pow/pow.go"), record { text = (codes "package pow\n\nfunc Pow(x, n int) int {\n\treturn x * n\n}\n"); tokens = ((tok Keyword 0 7 (codes "package")) ∷ (tok Ident 8 11 (codes "pow")) ∷ (tok Inserted 11 11 (codes ";")) ∷ (tok Keyword 13 17 (codes "func")) ∷ (tok Ident 18 21 (codes "Pow")) ∷ (tok Operator 21 22 (codes "(")) ∷ (tok Ident 22 23 (codes "x")) ∷ (tok Operator 23 24 (codes ",")) ∷ (tok Ident 25 26 (codes "n")) ∷ (tok Ident 27 30 (codes "int")) ∷ (tok Operator 30 31 (codes ")")) ∷ (tok Ident 32 35 (codes "int")) ∷ (tok Operator 36 37 (codes "{")) ∷ (tok Keyword 39 45 (codes "return")) ∷ (tok Ident 46 47 (codes "x")) ∷ (tok Operator 48 49 (codes "*")) ∷ (tok Ident 50 51 (codes "n")) ∷ (tok Inserted 51 51 (codes ";")) ∷ (tok Operator 52 53 (codes "}")) ∷ (tok Inserted 53 53 (codes ";")) ∷ []); comments = [] }) ∷ []) }

acting_argument_1_typed : is_typed acting_argument_1 ≡ true
acting_argument_1_typed = refl

acting_argument_1_ends : step_of acting_argument_1 ≡ None
unfolding passes keyword_spellings digits
acting_argument_1_ends = refl

acting_argument_1_kept : kept_uses acting_argument_1 ≡ []
unfolding passes keyword_spellings digits
acting_argument_1_kept = refl

-- The package gets a new name.
abbrev new_package_name_0_f0 : File Span
new_package_name_0_f0 = record { package_name = (nm 8 12 (codes "main")); imports = ((imps (at 14 40) false ((imp (at 21 40) None (codes "example.com/m/old")) ∷ [])) ∷ []); decls = ((fn (at 42 93) None (nm 47 51 (codes "main")) (sig [] []) (at 54 93) (stmt_and (define (at 57 65) ((nm 57 60 (codes "pow")) ∷ []) (expr_and (int_lit (at 64 65) (codes "3")) no_exprs)) (stmt_and (eval (at 67 91) (call (at 67 91) (ident (at 67 74) (codes "println")) (expr_and (call (at 75 90) (selector (at 75 85) (ident (at 75 78) (codes "old")) (nm 79 85 (codes "Square"))) (expr_and (ident (at 86 89) (codes "pow")) no_exprs) Plain) no_exprs) Plain)) no_stmts))) ∷ []) }

abbrev new_package_name_0_f1 : File Span
new_package_name_0_f1 = record { package_name = (nm 8 11 (codes "old")); imports = ((imps (at 13 39) false ((imp (at 20 39) None (codes "example.com/m/pow")) ∷ [])) ∷ []); decls = ((fn (at 57 105) None (nm 62 68 (codes "Square")) (sig ((param (at 69 74) (Some (nm 69 70 (codes "x"))) (named (at 71 74) None (nm 71 74 (codes "int")))) ∷ []) ((param (at 76 79) None (named (at 76 79) None (nm 76 79 (codes "int")))) ∷ [])) (at 80 105) (stmt_and (return_ (at 83 103) (expr_and (call (at 90 103) (selector (at 90 97) (ident (at 90 93) (codes "pow")) (nm 94 97 (codes "Pow"))) (expr_and (ident (at 98 99) (codes "x")) (expr_and (int_lit (at 101 102) (codes "2")) no_exprs)) Plain) no_exprs)) no_stmts)) ∷ []) }

abbrev new_package_name_0_f2 : File Span
new_package_name_0_f2 = record { package_name = (nm 8 11 (codes "pow")); imports = []; decls = ((fn (at 13 53) None (nm 18 21 (codes "Pow")) (sig ((param (at 22 30) (Some (nm 22 23 (codes "x"))) (named (at 27 30) None (nm 27 30 (codes "int")))) ∷ (param (at 25 30) (Some (nm 25 26 (codes "n"))) (named (at 27 30) None (nm 27 30 (codes "int")))) ∷ []) ((param (at 32 35) None (named (at 32 35) None (nm 32 35 (codes "int")))) ∷ [])) (at 36 53) (stmt_and (return_ (at 39 51) (expr_and (binary (at 46 51) Mul (ident (at 46 47) (codes "x")) (ident (at 50 51) (codes "n"))) no_exprs)) no_stmts)) ∷ []) }

new_package_name_0_f0_read : read_at span_to read_front (lexemes ((tok Keyword 0 7 (codes "package")) ∷ (tok Ident 8 12 (codes "main")) ∷ (tok Inserted 12 12 (codes ";")) ∷ (tok Keyword 14 20 (codes "import")) ∷ (tok Str 21 40 (codes "\"example.com/m/old\"")) ∷ (tok Inserted 40 40 (codes ";")) ∷ (tok Keyword 42 46 (codes "func")) ∷ (tok Ident 47 51 (codes "main")) ∷ (tok Operator 51 52 (codes "(")) ∷ (tok Operator 52 53 (codes ")")) ∷ (tok Operator 54 55 (codes "{")) ∷ (tok Ident 57 60 (codes "pow")) ∷ (tok Operator 61 63 (codes ":=")) ∷ (tok Integer 64 65 (codes "3")) ∷ (tok Inserted 65 65 (codes ";")) ∷ (tok Ident 67 74 (codes "println")) ∷ (tok Operator 74 75 (codes "(")) ∷ (tok Ident 75 78 (codes "old")) ∷ (tok Operator 78 79 (codes ".")) ∷ (tok Ident 79 85 (codes "Square")) ∷ (tok Operator 85 86 (codes "(")) ∷ (tok Ident 86 89 (codes "pow")) ∷ (tok Operator 89 90 (codes ")")) ∷ (tok Operator 90 91 (codes ")")) ∷ (tok Inserted 91 91 (codes ";")) ∷ (tok Operator 92 93 (codes "}")) ∷ (tok Inserted 93 93 (codes ";")) ∷ [])) ≡ Some (new_package_name_0_f0, [])
unfolding reading
new_package_name_0_f0_read = refl

abbrev new_package_name_0 : Module
new_package_name_0 = record { packages = (pack (codes "example.com/m") (codes "main") (source (codes "main.go") new_package_name_0_f0 ∷ []) ∷ pack (codes "example.com/m/old") (codes "old") (source (codes "old/old.go") new_package_name_0_f1 ∷ []) ∷ pack (codes "example.com/m/pow") (codes "pow") (source (codes "pow/pow.go") new_package_name_0_f2 ∷ []) ∷ []); marks = (mark 1 0 0 0 ∷ []); texts = (((codes "main.go"), record { text = (codes "package main\n\nimport \"example.com/m/old\"\n\nfunc main() {\n\tpow := 3\n\tprintln(old.Square(pow))\n}\n"); tokens = ((tok Keyword 0 7 (codes "package")) ∷ (tok Ident 8 12 (codes "main")) ∷ (tok Inserted 12 12 (codes ";")) ∷ (tok Keyword 14 20 (codes "import")) ∷ (tok Str 21 40 (codes "\"example.com/m/old\"")) ∷ (tok Inserted 40 40 (codes ";")) ∷ (tok Keyword 42 46 (codes "func")) ∷ (tok Ident 47 51 (codes "main")) ∷ (tok Operator 51 52 (codes "(")) ∷ (tok Operator 52 53 (codes ")")) ∷ (tok Operator 54 55 (codes "{")) ∷ (tok Ident 57 60 (codes "pow")) ∷ (tok Operator 61 63 (codes ":=")) ∷ (tok Integer 64 65 (codes "3")) ∷ (tok Inserted 65 65 (codes ";")) ∷ (tok Ident 67 74 (codes "println")) ∷ (tok Operator 74 75 (codes "(")) ∷ (tok Ident 75 78 (codes "old")) ∷ (tok Operator 78 79 (codes ".")) ∷ (tok Ident 79 85 (codes "Square")) ∷ (tok Operator 85 86 (codes "(")) ∷ (tok Ident 86 89 (codes "pow")) ∷ (tok Operator 89 90 (codes ")")) ∷ (tok Operator 90 91 (codes ")")) ∷ (tok Inserted 91 91 (codes ";")) ∷ (tok Operator 92 93 (codes "}")) ∷ (tok Inserted 93 93 (codes ";")) ∷ []); comments = [] }) ∷ ((codes "old/old.go"), record { text = (codes "package old\n\nimport \"example.com/m/pow\"\n\n//go:fix inline\nfunc Square(x int) int {\n\treturn pow.Pow(x, 2)\n}\n"); tokens = ((tok Keyword 0 7 (codes "package")) ∷ (tok Ident 8 11 (codes "old")) ∷ (tok Inserted 11 11 (codes ";")) ∷ (tok Keyword 13 19 (codes "import")) ∷ (tok Str 20 39 (codes "\"example.com/m/pow\"")) ∷ (tok Inserted 39 39 (codes ";")) ∷ (tok Keyword 57 61 (codes "func")) ∷ (tok Ident 62 68 (codes "Square")) ∷ (tok Operator 68 69 (codes "(")) ∷ (tok Ident 69 70 (codes "x")) ∷ (tok Ident 71 74 (codes "int")) ∷ (tok Operator 74 75 (codes ")")) ∷ (tok Ident 76 79 (codes "int")) ∷ (tok Operator 80 81 (codes "{")) ∷ (tok Keyword 83 89 (codes "return")) ∷ (tok Ident 90 93 (codes "pow")) ∷ (tok Operator 93 94 (codes ".")) ∷ (tok Ident 94 97 (codes "Pow")) ∷ (tok Operator 97 98 (codes "(")) ∷ (tok Ident 98 99 (codes "x")) ∷ (tok Operator 99 100 (codes ",")) ∷ (tok Integer 101 102 (codes "2")) ∷ (tok Operator 102 103 (codes ")")) ∷ (tok Inserted 103 103 (codes ";")) ∷ (tok Operator 104 105 (codes "}")) ∷ (tok Inserted 105 105 (codes ";")) ∷ []); comments = ((note 41 56) ∷ []) }) ∷ ((codes "pow/pow.go"), record { text = (codes "package pow\n\nfunc Pow(x, n int) int {\n\treturn x * n\n}\n"); tokens = ((tok Keyword 0 7 (codes "package")) ∷ (tok Ident 8 11 (codes "pow")) ∷ (tok Inserted 11 11 (codes ";")) ∷ (tok Keyword 13 17 (codes "func")) ∷ (tok Ident 18 21 (codes "Pow")) ∷ (tok Operator 21 22 (codes "(")) ∷ (tok Ident 22 23 (codes "x")) ∷ (tok Operator 23 24 (codes ",")) ∷ (tok Ident 25 26 (codes "n")) ∷ (tok Ident 27 30 (codes "int")) ∷ (tok Operator 30 31 (codes ")")) ∷ (tok Ident 32 35 (codes "int")) ∷ (tok Operator 36 37 (codes "{")) ∷ (tok Keyword 39 45 (codes "return")) ∷ (tok Ident 46 47 (codes "x")) ∷ (tok Operator 48 49 (codes "*")) ∷ (tok Ident 50 51 (codes "n")) ∷ (tok Inserted 51 51 (codes ";")) ∷ (tok Operator 52 53 (codes "}")) ∷ (tok Inserted 53 53 (codes ";")) ∷ []); comments = [] }) ∷ []) }

new_package_name_0_typed : is_typed new_package_name_0 ≡ true
new_package_name_0_typed = refl

new_package_name_0_step : first_change new_package_name_0 ≡ Some ((codes "main.go"), ExprForm, (codes "package main\n\nimport pow0 \"example.com/m/pow\"\n\nfunc main() {\n\tpow := 3\n\tprintln(pow0.Pow(pow, 2))\n}\n"))
unfolding passes keyword_spellings digits
new_package_name_0_step = refl

abbrev new_package_name_1_f0 : File Span
new_package_name_1_f0 = record { package_name = (nm 8 12 (codes "main")); imports = ((imps (at 14 45) false ((imp (at 21 45) (Some (nm 21 25 (codes "pow0"))) (codes "example.com/m/pow")) ∷ [])) ∷ []); decls = ((fn (at 47 99) None (nm 52 56 (codes "main")) (sig [] []) (at 59 99) (stmt_and (define (at 62 70) ((nm 62 65 (codes "pow")) ∷ []) (expr_and (int_lit (at 69 70) (codes "3")) no_exprs)) (stmt_and (eval (at 72 97) (call (at 72 97) (ident (at 72 79) (codes "println")) (expr_and (call (at 80 96) (selector (at 80 88) (ident (at 80 84) (codes "pow0")) (nm 85 88 (codes "Pow"))) (expr_and (ident (at 89 92) (codes "pow")) (expr_and (int_lit (at 94 95) (codes "2")) no_exprs)) Plain) no_exprs) Plain)) no_stmts))) ∷ []) }

abbrev new_package_name_1_f1 : File Span
new_package_name_1_f1 = record { package_name = (nm 8 11 (codes "old")); imports = ((imps (at 13 39) false ((imp (at 20 39) None (codes "example.com/m/pow")) ∷ [])) ∷ []); decls = ((fn (at 57 105) None (nm 62 68 (codes "Square")) (sig ((param (at 69 74) (Some (nm 69 70 (codes "x"))) (named (at 71 74) None (nm 71 74 (codes "int")))) ∷ []) ((param (at 76 79) None (named (at 76 79) None (nm 76 79 (codes "int")))) ∷ [])) (at 80 105) (stmt_and (return_ (at 83 103) (expr_and (call (at 90 103) (selector (at 90 97) (ident (at 90 93) (codes "pow")) (nm 94 97 (codes "Pow"))) (expr_and (ident (at 98 99) (codes "x")) (expr_and (int_lit (at 101 102) (codes "2")) no_exprs)) Plain) no_exprs)) no_stmts)) ∷ []) }

abbrev new_package_name_1_f2 : File Span
new_package_name_1_f2 = record { package_name = (nm 8 11 (codes "pow")); imports = []; decls = ((fn (at 13 53) None (nm 18 21 (codes "Pow")) (sig ((param (at 22 30) (Some (nm 22 23 (codes "x"))) (named (at 27 30) None (nm 27 30 (codes "int")))) ∷ (param (at 25 30) (Some (nm 25 26 (codes "n"))) (named (at 27 30) None (nm 27 30 (codes "int")))) ∷ []) ((param (at 32 35) None (named (at 32 35) None (nm 32 35 (codes "int")))) ∷ [])) (at 36 53) (stmt_and (return_ (at 39 51) (expr_and (binary (at 46 51) Mul (ident (at 46 47) (codes "x")) (ident (at 50 51) (codes "n"))) no_exprs)) no_stmts)) ∷ []) }

new_package_name_1_f0_read : read_at span_to read_front (lexemes ((tok Keyword 0 7 (codes "package")) ∷ (tok Ident 8 12 (codes "main")) ∷ (tok Inserted 12 12 (codes ";")) ∷ (tok Keyword 14 20 (codes "import")) ∷ (tok Ident 21 25 (codes "pow0")) ∷ (tok Str 26 45 (codes "\"example.com/m/pow\"")) ∷ (tok Inserted 45 45 (codes ";")) ∷ (tok Keyword 47 51 (codes "func")) ∷ (tok Ident 52 56 (codes "main")) ∷ (tok Operator 56 57 (codes "(")) ∷ (tok Operator 57 58 (codes ")")) ∷ (tok Operator 59 60 (codes "{")) ∷ (tok Ident 62 65 (codes "pow")) ∷ (tok Operator 66 68 (codes ":=")) ∷ (tok Integer 69 70 (codes "3")) ∷ (tok Inserted 70 70 (codes ";")) ∷ (tok Ident 72 79 (codes "println")) ∷ (tok Operator 79 80 (codes "(")) ∷ (tok Ident 80 84 (codes "pow0")) ∷ (tok Operator 84 85 (codes ".")) ∷ (tok Ident 85 88 (codes "Pow")) ∷ (tok Operator 88 89 (codes "(")) ∷ (tok Ident 89 92 (codes "pow")) ∷ (tok Operator 92 93 (codes ",")) ∷ (tok Integer 94 95 (codes "2")) ∷ (tok Operator 95 96 (codes ")")) ∷ (tok Operator 96 97 (codes ")")) ∷ (tok Inserted 97 97 (codes ";")) ∷ (tok Operator 98 99 (codes "}")) ∷ (tok Inserted 99 99 (codes ";")) ∷ [])) ≡ Some (new_package_name_1_f0, [])
unfolding reading
new_package_name_1_f0_read = refl

abbrev new_package_name_1 : Module
new_package_name_1 = record { packages = (pack (codes "example.com/m") (codes "main") (source (codes "main.go") new_package_name_1_f0 ∷ []) ∷ pack (codes "example.com/m/old") (codes "old") (source (codes "old/old.go") new_package_name_1_f1 ∷ []) ∷ pack (codes "example.com/m/pow") (codes "pow") (source (codes "pow/pow.go") new_package_name_1_f2 ∷ []) ∷ []); marks = (mark 1 0 0 0 ∷ []); texts = (((codes "main.go"), record { text = (codes "package main\n\nimport pow0 \"example.com/m/pow\"\n\nfunc main() {\n\tpow := 3\n\tprintln(pow0.Pow(pow, 2))\n}\n"); tokens = ((tok Keyword 0 7 (codes "package")) ∷ (tok Ident 8 12 (codes "main")) ∷ (tok Inserted 12 12 (codes ";")) ∷ (tok Keyword 14 20 (codes "import")) ∷ (tok Ident 21 25 (codes "pow0")) ∷ (tok Str 26 45 (codes "\"example.com/m/pow\"")) ∷ (tok Inserted 45 45 (codes ";")) ∷ (tok Keyword 47 51 (codes "func")) ∷ (tok Ident 52 56 (codes "main")) ∷ (tok Operator 56 57 (codes "(")) ∷ (tok Operator 57 58 (codes ")")) ∷ (tok Operator 59 60 (codes "{")) ∷ (tok Ident 62 65 (codes "pow")) ∷ (tok Operator 66 68 (codes ":=")) ∷ (tok Integer 69 70 (codes "3")) ∷ (tok Inserted 70 70 (codes ";")) ∷ (tok Ident 72 79 (codes "println")) ∷ (tok Operator 79 80 (codes "(")) ∷ (tok Ident 80 84 (codes "pow0")) ∷ (tok Operator 84 85 (codes ".")) ∷ (tok Ident 85 88 (codes "Pow")) ∷ (tok Operator 88 89 (codes "(")) ∷ (tok Ident 89 92 (codes "pow")) ∷ (tok Operator 92 93 (codes ",")) ∷ (tok Integer 94 95 (codes "2")) ∷ (tok Operator 95 96 (codes ")")) ∷ (tok Operator 96 97 (codes ")")) ∷ (tok Inserted 97 97 (codes ";")) ∷ (tok Operator 98 99 (codes "}")) ∷ (tok Inserted 99 99 (codes ";")) ∷ []); comments = [] }) ∷ ((codes "old/old.go"), record { text = (codes "package old\n\nimport \"example.com/m/pow\"\n\n//go:fix inline\nfunc Square(x int) int {\n\treturn pow.Pow(x, 2)\n}\n"); tokens = ((tok Keyword 0 7 (codes "package")) ∷ (tok Ident 8 11 (codes "old")) ∷ (tok Inserted 11 11 (codes ";")) ∷ (tok Keyword 13 19 (codes "import")) ∷ (tok Str 20 39 (codes "\"example.com/m/pow\"")) ∷ (tok Inserted 39 39 (codes ";")) ∷ (tok Keyword 57 61 (codes "func")) ∷ (tok Ident 62 68 (codes "Square")) ∷ (tok Operator 68 69 (codes "(")) ∷ (tok Ident 69 70 (codes "x")) ∷ (tok Ident 71 74 (codes "int")) ∷ (tok Operator 74 75 (codes ")")) ∷ (tok Ident 76 79 (codes "int")) ∷ (tok Operator 80 81 (codes "{")) ∷ (tok Keyword 83 89 (codes "return")) ∷ (tok Ident 90 93 (codes "pow")) ∷ (tok Operator 93 94 (codes ".")) ∷ (tok Ident 94 97 (codes "Pow")) ∷ (tok Operator 97 98 (codes "(")) ∷ (tok Ident 98 99 (codes "x")) ∷ (tok Operator 99 100 (codes ",")) ∷ (tok Integer 101 102 (codes "2")) ∷ (tok Operator 102 103 (codes ")")) ∷ (tok Inserted 103 103 (codes ";")) ∷ (tok Operator 104 105 (codes "}")) ∷ (tok Inserted 105 105 (codes ";")) ∷ []); comments = ((note 41 56) ∷ []) }) ∷ ((codes "pow/pow.go"), record { text = (codes "package pow\n\nfunc Pow(x, n int) int {\n\treturn x * n\n}\n"); tokens = ((tok Keyword 0 7 (codes "package")) ∷ (tok Ident 8 11 (codes "pow")) ∷ (tok Inserted 11 11 (codes ";")) ∷ (tok Keyword 13 17 (codes "func")) ∷ (tok Ident 18 21 (codes "Pow")) ∷ (tok Operator 21 22 (codes "(")) ∷ (tok Ident 22 23 (codes "x")) ∷ (tok Operator 23 24 (codes ",")) ∷ (tok Ident 25 26 (codes "n")) ∷ (tok Ident 27 30 (codes "int")) ∷ (tok Operator 30 31 (codes ")")) ∷ (tok Ident 32 35 (codes "int")) ∷ (tok Operator 36 37 (codes "{")) ∷ (tok Keyword 39 45 (codes "return")) ∷ (tok Ident 46 47 (codes "x")) ∷ (tok Operator 48 49 (codes "*")) ∷ (tok Ident 50 51 (codes "n")) ∷ (tok Inserted 51 51 (codes ";")) ∷ (tok Operator 52 53 (codes "}")) ∷ (tok Inserted 53 53 (codes ";")) ∷ []); comments = [] }) ∷ []) }

new_package_name_1_typed : is_typed new_package_name_1 ≡ true
new_package_name_1_typed = refl

new_package_name_1_ends : step_of new_package_name_1 ≡ None
unfolding passes keyword_spellings digits
new_package_name_1_ends = refl

new_package_name_1_kept : kept_uses new_package_name_1 ≡ []
unfolding passes keyword_spellings digits
new_package_name_1_kept = refl

-- A comment inside the call.
abbrev comment_inside_f0 : File Span
comment_inside_f0 = record { package_name = (nm 8 12 (codes "main")); imports = ((imps (at 14 40) false ((imp (at 21 40) None (codes "example.com/m/old")) ∷ [])) ∷ []); decls = ((fn (at 42 99) None (nm 47 51 (codes "main")) (sig [] []) (at 54 99) (stmt_and (define (at 57 63) ((nm 57 58 (codes "x")) ∷ []) (expr_and (int_lit (at 62 63) (codes "3")) no_exprs)) (stmt_and (eval (at 65 97) (call (at 65 97) (ident (at 65 72) (codes "println")) (expr_and (call (at 73 96) (selector (at 73 83) (ident (at 73 76) (codes "old")) (nm 77 83 (codes "Square"))) (expr_and (ident (at 84 85) (codes "x")) no_exprs) Plain) no_exprs) Plain)) no_stmts))) ∷ []) }

abbrev comment_inside_f1 : File Span
comment_inside_f1 = record { package_name = (nm 8 11 (codes "old")); imports = ((imps (at 13 39) false ((imp (at 20 39) None (codes "example.com/m/pow")) ∷ [])) ∷ []); decls = ((fn (at 57 105) None (nm 62 68 (codes "Square")) (sig ((param (at 69 74) (Some (nm 69 70 (codes "x"))) (named (at 71 74) None (nm 71 74 (codes "int")))) ∷ []) ((param (at 76 79) None (named (at 76 79) None (nm 76 79 (codes "int")))) ∷ [])) (at 80 105) (stmt_and (return_ (at 83 103) (expr_and (call (at 90 103) (selector (at 90 97) (ident (at 90 93) (codes "pow")) (nm 94 97 (codes "Pow"))) (expr_and (ident (at 98 99) (codes "x")) (expr_and (int_lit (at 101 102) (codes "2")) no_exprs)) Plain) no_exprs)) no_stmts)) ∷ []) }

abbrev comment_inside_f2 : File Span
comment_inside_f2 = record { package_name = (nm 8 11 (codes "pow")); imports = []; decls = ((fn (at 13 53) None (nm 18 21 (codes "Pow")) (sig ((param (at 22 30) (Some (nm 22 23 (codes "x"))) (named (at 27 30) None (nm 27 30 (codes "int")))) ∷ (param (at 25 30) (Some (nm 25 26 (codes "n"))) (named (at 27 30) None (nm 27 30 (codes "int")))) ∷ []) ((param (at 32 35) None (named (at 32 35) None (nm 32 35 (codes "int")))) ∷ [])) (at 36 53) (stmt_and (return_ (at 39 51) (expr_and (binary (at 46 51) Mul (ident (at 46 47) (codes "x")) (ident (at 50 51) (codes "n"))) no_exprs)) no_stmts)) ∷ []) }

comment_inside_f0_read : read_at span_to read_front (lexemes ((tok Keyword 0 7 (codes "package")) ∷ (tok Ident 8 12 (codes "main")) ∷ (tok Inserted 12 12 (codes ";")) ∷ (tok Keyword 14 20 (codes "import")) ∷ (tok Str 21 40 (codes "\"example.com/m/old\"")) ∷ (tok Inserted 40 40 (codes ";")) ∷ (tok Keyword 42 46 (codes "func")) ∷ (tok Ident 47 51 (codes "main")) ∷ (tok Operator 51 52 (codes "(")) ∷ (tok Operator 52 53 (codes ")")) ∷ (tok Operator 54 55 (codes "{")) ∷ (tok Ident 57 58 (codes "x")) ∷ (tok Operator 59 61 (codes ":=")) ∷ (tok Integer 62 63 (codes "3")) ∷ (tok Inserted 63 63 (codes ";")) ∷ (tok Ident 65 72 (codes "println")) ∷ (tok Operator 72 73 (codes "(")) ∷ (tok Ident 73 76 (codes "old")) ∷ (tok Operator 76 77 (codes ".")) ∷ (tok Ident 77 83 (codes "Square")) ∷ (tok Operator 83 84 (codes "(")) ∷ (tok Ident 84 85 (codes "x")) ∷ (tok Operator 95 96 (codes ")")) ∷ (tok Operator 96 97 (codes ")")) ∷ (tok Inserted 97 97 (codes ";")) ∷ (tok Operator 98 99 (codes "}")) ∷ (tok Inserted 99 99 (codes ";")) ∷ [])) ≡ Some (comment_inside_f0, [])
unfolding reading
comment_inside_f0_read = refl

abbrev comment_inside : Module
comment_inside = record { packages = (pack (codes "example.com/m") (codes "main") (source (codes "main.go") comment_inside_f0 ∷ []) ∷ pack (codes "example.com/m/old") (codes "old") (source (codes "old/old.go") comment_inside_f1 ∷ []) ∷ pack (codes "example.com/m/pow") (codes "pow") (source (codes "pow/pow.go") comment_inside_f2 ∷ []) ∷ []); marks = (mark 1 0 0 0 ∷ []); texts = (((codes "main.go"), record { text = (codes "package main\n\nimport \"example.com/m/old\"\n\nfunc main() {\n\tx := 3\n\tprintln(old.Square(x /* why */))\n}\n"); tokens = ((tok Keyword 0 7 (codes "package")) ∷ (tok Ident 8 12 (codes "main")) ∷ (tok Inserted 12 12 (codes ";")) ∷ (tok Keyword 14 20 (codes "import")) ∷ (tok Str 21 40 (codes "\"example.com/m/old\"")) ∷ (tok Inserted 40 40 (codes ";")) ∷ (tok Keyword 42 46 (codes "func")) ∷ (tok Ident 47 51 (codes "main")) ∷ (tok Operator 51 52 (codes "(")) ∷ (tok Operator 52 53 (codes ")")) ∷ (tok Operator 54 55 (codes "{")) ∷ (tok Ident 57 58 (codes "x")) ∷ (tok Operator 59 61 (codes ":=")) ∷ (tok Integer 62 63 (codes "3")) ∷ (tok Inserted 63 63 (codes ";")) ∷ (tok Ident 65 72 (codes "println")) ∷ (tok Operator 72 73 (codes "(")) ∷ (tok Ident 73 76 (codes "old")) ∷ (tok Operator 76 77 (codes ".")) ∷ (tok Ident 77 83 (codes "Square")) ∷ (tok Operator 83 84 (codes "(")) ∷ (tok Ident 84 85 (codes "x")) ∷ (tok Operator 95 96 (codes ")")) ∷ (tok Operator 96 97 (codes ")")) ∷ (tok Inserted 97 97 (codes ";")) ∷ (tok Operator 98 99 (codes "}")) ∷ (tok Inserted 99 99 (codes ";")) ∷ []); comments = ((note 86 95) ∷ []) }) ∷ ((codes "old/old.go"), record { text = (codes "package old\n\nimport \"example.com/m/pow\"\n\n//go:fix inline\nfunc Square(x int) int {\n\treturn pow.Pow(x, 2)\n}\n"); tokens = ((tok Keyword 0 7 (codes "package")) ∷ (tok Ident 8 11 (codes "old")) ∷ (tok Inserted 11 11 (codes ";")) ∷ (tok Keyword 13 19 (codes "import")) ∷ (tok Str 20 39 (codes "\"example.com/m/pow\"")) ∷ (tok Inserted 39 39 (codes ";")) ∷ (tok Keyword 57 61 (codes "func")) ∷ (tok Ident 62 68 (codes "Square")) ∷ (tok Operator 68 69 (codes "(")) ∷ (tok Ident 69 70 (codes "x")) ∷ (tok Ident 71 74 (codes "int")) ∷ (tok Operator 74 75 (codes ")")) ∷ (tok Ident 76 79 (codes "int")) ∷ (tok Operator 80 81 (codes "{")) ∷ (tok Keyword 83 89 (codes "return")) ∷ (tok Ident 90 93 (codes "pow")) ∷ (tok Operator 93 94 (codes ".")) ∷ (tok Ident 94 97 (codes "Pow")) ∷ (tok Operator 97 98 (codes "(")) ∷ (tok Ident 98 99 (codes "x")) ∷ (tok Operator 99 100 (codes ",")) ∷ (tok Integer 101 102 (codes "2")) ∷ (tok Operator 102 103 (codes ")")) ∷ (tok Inserted 103 103 (codes ";")) ∷ (tok Operator 104 105 (codes "}")) ∷ (tok Inserted 105 105 (codes ";")) ∷ []); comments = ((note 41 56) ∷ []) }) ∷ ((codes "pow/pow.go"), record { text = (codes "package pow\n\nfunc Pow(x, n int) int {\n\treturn x * n\n}\n"); tokens = ((tok Keyword 0 7 (codes "package")) ∷ (tok Ident 8 11 (codes "pow")) ∷ (tok Inserted 11 11 (codes ";")) ∷ (tok Keyword 13 17 (codes "func")) ∷ (tok Ident 18 21 (codes "Pow")) ∷ (tok Operator 21 22 (codes "(")) ∷ (tok Ident 22 23 (codes "x")) ∷ (tok Operator 23 24 (codes ",")) ∷ (tok Ident 25 26 (codes "n")) ∷ (tok Ident 27 30 (codes "int")) ∷ (tok Operator 30 31 (codes ")")) ∷ (tok Ident 32 35 (codes "int")) ∷ (tok Operator 36 37 (codes "{")) ∷ (tok Keyword 39 45 (codes "return")) ∷ (tok Ident 46 47 (codes "x")) ∷ (tok Operator 48 49 (codes "*")) ∷ (tok Ident 50 51 (codes "n")) ∷ (tok Inserted 51 51 (codes ";")) ∷ (tok Operator 52 53 (codes "}")) ∷ (tok Inserted 53 53 (codes ";")) ∷ []); comments = [] }) ∷ []) }

comment_inside_typed : is_typed comment_inside ≡ true
comment_inside_typed = refl

comment_inside_ends : step_of comment_inside ≡ None
unfolding passes keyword_spellings digits
comment_inside_ends = refl

comment_inside_kept : kept_uses comment_inside ≡ (((codes "main.go"), 73, Some CommentInside) ∷ [])
unfolding passes keyword_spellings digits
comment_inside_kept = refl

-- A comment behind the call stays.
abbrev comment_behind_0_f0 : File Span
comment_behind_0_f0 = record { package_name = (nm 8 12 (codes "main")); imports = ((imps (at 14 40) false ((imp (at 21 40) None (codes "example.com/m/old")) ∷ [])) ∷ []); decls = ((fn (at 42 96) None (nm 47 51 (codes "main")) (sig [] []) (at 54 96) (stmt_and (define (at 57 63) ((nm 57 58 (codes "x")) ∷ []) (expr_and (int_lit (at 62 63) (codes "3")) no_exprs)) (stmt_and (eval (at 65 87) (call (at 65 87) (ident (at 65 72) (codes "println")) (expr_and (call (at 73 86) (selector (at 73 83) (ident (at 73 76) (codes "old")) (nm 77 83 (codes "Square"))) (expr_and (ident (at 84 85) (codes "x")) no_exprs) Plain) no_exprs) Plain)) no_stmts))) ∷ []) }

abbrev comment_behind_0_f1 : File Span
comment_behind_0_f1 = record { package_name = (nm 8 11 (codes "old")); imports = ((imps (at 13 39) false ((imp (at 20 39) None (codes "example.com/m/pow")) ∷ [])) ∷ []); decls = ((fn (at 57 105) None (nm 62 68 (codes "Square")) (sig ((param (at 69 74) (Some (nm 69 70 (codes "x"))) (named (at 71 74) None (nm 71 74 (codes "int")))) ∷ []) ((param (at 76 79) None (named (at 76 79) None (nm 76 79 (codes "int")))) ∷ [])) (at 80 105) (stmt_and (return_ (at 83 103) (expr_and (call (at 90 103) (selector (at 90 97) (ident (at 90 93) (codes "pow")) (nm 94 97 (codes "Pow"))) (expr_and (ident (at 98 99) (codes "x")) (expr_and (int_lit (at 101 102) (codes "2")) no_exprs)) Plain) no_exprs)) no_stmts)) ∷ []) }

abbrev comment_behind_0_f2 : File Span
comment_behind_0_f2 = record { package_name = (nm 8 11 (codes "pow")); imports = []; decls = ((fn (at 13 53) None (nm 18 21 (codes "Pow")) (sig ((param (at 22 30) (Some (nm 22 23 (codes "x"))) (named (at 27 30) None (nm 27 30 (codes "int")))) ∷ (param (at 25 30) (Some (nm 25 26 (codes "n"))) (named (at 27 30) None (nm 27 30 (codes "int")))) ∷ []) ((param (at 32 35) None (named (at 32 35) None (nm 32 35 (codes "int")))) ∷ [])) (at 36 53) (stmt_and (return_ (at 39 51) (expr_and (binary (at 46 51) Mul (ident (at 46 47) (codes "x")) (ident (at 50 51) (codes "n"))) no_exprs)) no_stmts)) ∷ []) }

comment_behind_0_f0_read : read_at span_to read_front (lexemes ((tok Keyword 0 7 (codes "package")) ∷ (tok Ident 8 12 (codes "main")) ∷ (tok Inserted 12 12 (codes ";")) ∷ (tok Keyword 14 20 (codes "import")) ∷ (tok Str 21 40 (codes "\"example.com/m/old\"")) ∷ (tok Inserted 40 40 (codes ";")) ∷ (tok Keyword 42 46 (codes "func")) ∷ (tok Ident 47 51 (codes "main")) ∷ (tok Operator 51 52 (codes "(")) ∷ (tok Operator 52 53 (codes ")")) ∷ (tok Operator 54 55 (codes "{")) ∷ (tok Ident 57 58 (codes "x")) ∷ (tok Operator 59 61 (codes ":=")) ∷ (tok Integer 62 63 (codes "3")) ∷ (tok Inserted 63 63 (codes ";")) ∷ (tok Ident 65 72 (codes "println")) ∷ (tok Operator 72 73 (codes "(")) ∷ (tok Ident 73 76 (codes "old")) ∷ (tok Operator 76 77 (codes ".")) ∷ (tok Ident 77 83 (codes "Square")) ∷ (tok Operator 83 84 (codes "(")) ∷ (tok Ident 84 85 (codes "x")) ∷ (tok Operator 85 86 (codes ")")) ∷ (tok Operator 86 87 (codes ")")) ∷ (tok Inserted 87 87 (codes ";")) ∷ (tok Operator 95 96 (codes "}")) ∷ (tok Inserted 96 96 (codes ";")) ∷ [])) ≡ Some (comment_behind_0_f0, [])
unfolding reading
comment_behind_0_f0_read = refl

abbrev comment_behind_0 : Module
comment_behind_0 = record { packages = (pack (codes "example.com/m") (codes "main") (source (codes "main.go") comment_behind_0_f0 ∷ []) ∷ pack (codes "example.com/m/old") (codes "old") (source (codes "old/old.go") comment_behind_0_f1 ∷ []) ∷ pack (codes "example.com/m/pow") (codes "pow") (source (codes "pow/pow.go") comment_behind_0_f2 ∷ []) ∷ []); marks = (mark 1 0 0 0 ∷ []); texts = (((codes "main.go"), record { text = (codes "package main\n\nimport \"example.com/m/old\"\n\nfunc main() {\n\tx := 3\n\tprintln(old.Square(x)) // why\n}\n"); tokens = ((tok Keyword 0 7 (codes "package")) ∷ (tok Ident 8 12 (codes "main")) ∷ (tok Inserted 12 12 (codes ";")) ∷ (tok Keyword 14 20 (codes "import")) ∷ (tok Str 21 40 (codes "\"example.com/m/old\"")) ∷ (tok Inserted 40 40 (codes ";")) ∷ (tok Keyword 42 46 (codes "func")) ∷ (tok Ident 47 51 (codes "main")) ∷ (tok Operator 51 52 (codes "(")) ∷ (tok Operator 52 53 (codes ")")) ∷ (tok Operator 54 55 (codes "{")) ∷ (tok Ident 57 58 (codes "x")) ∷ (tok Operator 59 61 (codes ":=")) ∷ (tok Integer 62 63 (codes "3")) ∷ (tok Inserted 63 63 (codes ";")) ∷ (tok Ident 65 72 (codes "println")) ∷ (tok Operator 72 73 (codes "(")) ∷ (tok Ident 73 76 (codes "old")) ∷ (tok Operator 76 77 (codes ".")) ∷ (tok Ident 77 83 (codes "Square")) ∷ (tok Operator 83 84 (codes "(")) ∷ (tok Ident 84 85 (codes "x")) ∷ (tok Operator 85 86 (codes ")")) ∷ (tok Operator 86 87 (codes ")")) ∷ (tok Inserted 87 87 (codes ";")) ∷ (tok Operator 95 96 (codes "}")) ∷ (tok Inserted 96 96 (codes ";")) ∷ []); comments = ((note 88 94) ∷ []) }) ∷ ((codes "old/old.go"), record { text = (codes "package old\n\nimport \"example.com/m/pow\"\n\n//go:fix inline\nfunc Square(x int) int {\n\treturn pow.Pow(x, 2)\n}\n"); tokens = ((tok Keyword 0 7 (codes "package")) ∷ (tok Ident 8 11 (codes "old")) ∷ (tok Inserted 11 11 (codes ";")) ∷ (tok Keyword 13 19 (codes "import")) ∷ (tok Str 20 39 (codes "\"example.com/m/pow\"")) ∷ (tok Inserted 39 39 (codes ";")) ∷ (tok Keyword 57 61 (codes "func")) ∷ (tok Ident 62 68 (codes "Square")) ∷ (tok Operator 68 69 (codes "(")) ∷ (tok Ident 69 70 (codes "x")) ∷ (tok Ident 71 74 (codes "int")) ∷ (tok Operator 74 75 (codes ")")) ∷ (tok Ident 76 79 (codes "int")) ∷ (tok Operator 80 81 (codes "{")) ∷ (tok Keyword 83 89 (codes "return")) ∷ (tok Ident 90 93 (codes "pow")) ∷ (tok Operator 93 94 (codes ".")) ∷ (tok Ident 94 97 (codes "Pow")) ∷ (tok Operator 97 98 (codes "(")) ∷ (tok Ident 98 99 (codes "x")) ∷ (tok Operator 99 100 (codes ",")) ∷ (tok Integer 101 102 (codes "2")) ∷ (tok Operator 102 103 (codes ")")) ∷ (tok Inserted 103 103 (codes ";")) ∷ (tok Operator 104 105 (codes "}")) ∷ (tok Inserted 105 105 (codes ";")) ∷ []); comments = ((note 41 56) ∷ []) }) ∷ ((codes "pow/pow.go"), record { text = (codes "package pow\n\nfunc Pow(x, n int) int {\n\treturn x * n\n}\n"); tokens = ((tok Keyword 0 7 (codes "package")) ∷ (tok Ident 8 11 (codes "pow")) ∷ (tok Inserted 11 11 (codes ";")) ∷ (tok Keyword 13 17 (codes "func")) ∷ (tok Ident 18 21 (codes "Pow")) ∷ (tok Operator 21 22 (codes "(")) ∷ (tok Ident 22 23 (codes "x")) ∷ (tok Operator 23 24 (codes ",")) ∷ (tok Ident 25 26 (codes "n")) ∷ (tok Ident 27 30 (codes "int")) ∷ (tok Operator 30 31 (codes ")")) ∷ (tok Ident 32 35 (codes "int")) ∷ (tok Operator 36 37 (codes "{")) ∷ (tok Keyword 39 45 (codes "return")) ∷ (tok Ident 46 47 (codes "x")) ∷ (tok Operator 48 49 (codes "*")) ∷ (tok Ident 50 51 (codes "n")) ∷ (tok Inserted 51 51 (codes ";")) ∷ (tok Operator 52 53 (codes "}")) ∷ (tok Inserted 53 53 (codes ";")) ∷ []); comments = [] }) ∷ []) }

comment_behind_0_typed : is_typed comment_behind_0 ≡ true
comment_behind_0_typed = refl

comment_behind_0_step : first_change comment_behind_0 ≡ Some ((codes "main.go"), ExprForm, (codes "package main\n\nimport \"example.com/m/pow\"\n\nfunc main() {\n\tx := 3\n\tprintln(pow.Pow(x, 2)) // why\n}\n"))
unfolding passes keyword_spellings digits
comment_behind_0_step = refl

abbrev comment_behind_1_f0 : File Span
comment_behind_1_f0 = record { package_name = (nm 8 12 (codes "main")); imports = ((imps (at 14 40) false ((imp (at 21 40) None (codes "example.com/m/pow")) ∷ [])) ∷ []); decls = ((fn (at 42 96) None (nm 47 51 (codes "main")) (sig [] []) (at 54 96) (stmt_and (define (at 57 63) ((nm 57 58 (codes "x")) ∷ []) (expr_and (int_lit (at 62 63) (codes "3")) no_exprs)) (stmt_and (eval (at 65 87) (call (at 65 87) (ident (at 65 72) (codes "println")) (expr_and (call (at 73 86) (selector (at 73 80) (ident (at 73 76) (codes "pow")) (nm 77 80 (codes "Pow"))) (expr_and (ident (at 81 82) (codes "x")) (expr_and (int_lit (at 84 85) (codes "2")) no_exprs)) Plain) no_exprs) Plain)) no_stmts))) ∷ []) }

abbrev comment_behind_1_f1 : File Span
comment_behind_1_f1 = record { package_name = (nm 8 11 (codes "old")); imports = ((imps (at 13 39) false ((imp (at 20 39) None (codes "example.com/m/pow")) ∷ [])) ∷ []); decls = ((fn (at 57 105) None (nm 62 68 (codes "Square")) (sig ((param (at 69 74) (Some (nm 69 70 (codes "x"))) (named (at 71 74) None (nm 71 74 (codes "int")))) ∷ []) ((param (at 76 79) None (named (at 76 79) None (nm 76 79 (codes "int")))) ∷ [])) (at 80 105) (stmt_and (return_ (at 83 103) (expr_and (call (at 90 103) (selector (at 90 97) (ident (at 90 93) (codes "pow")) (nm 94 97 (codes "Pow"))) (expr_and (ident (at 98 99) (codes "x")) (expr_and (int_lit (at 101 102) (codes "2")) no_exprs)) Plain) no_exprs)) no_stmts)) ∷ []) }

abbrev comment_behind_1_f2 : File Span
comment_behind_1_f2 = record { package_name = (nm 8 11 (codes "pow")); imports = []; decls = ((fn (at 13 53) None (nm 18 21 (codes "Pow")) (sig ((param (at 22 30) (Some (nm 22 23 (codes "x"))) (named (at 27 30) None (nm 27 30 (codes "int")))) ∷ (param (at 25 30) (Some (nm 25 26 (codes "n"))) (named (at 27 30) None (nm 27 30 (codes "int")))) ∷ []) ((param (at 32 35) None (named (at 32 35) None (nm 32 35 (codes "int")))) ∷ [])) (at 36 53) (stmt_and (return_ (at 39 51) (expr_and (binary (at 46 51) Mul (ident (at 46 47) (codes "x")) (ident (at 50 51) (codes "n"))) no_exprs)) no_stmts)) ∷ []) }

comment_behind_1_f0_read : read_at span_to read_front (lexemes ((tok Keyword 0 7 (codes "package")) ∷ (tok Ident 8 12 (codes "main")) ∷ (tok Inserted 12 12 (codes ";")) ∷ (tok Keyword 14 20 (codes "import")) ∷ (tok Str 21 40 (codes "\"example.com/m/pow\"")) ∷ (tok Inserted 40 40 (codes ";")) ∷ (tok Keyword 42 46 (codes "func")) ∷ (tok Ident 47 51 (codes "main")) ∷ (tok Operator 51 52 (codes "(")) ∷ (tok Operator 52 53 (codes ")")) ∷ (tok Operator 54 55 (codes "{")) ∷ (tok Ident 57 58 (codes "x")) ∷ (tok Operator 59 61 (codes ":=")) ∷ (tok Integer 62 63 (codes "3")) ∷ (tok Inserted 63 63 (codes ";")) ∷ (tok Ident 65 72 (codes "println")) ∷ (tok Operator 72 73 (codes "(")) ∷ (tok Ident 73 76 (codes "pow")) ∷ (tok Operator 76 77 (codes ".")) ∷ (tok Ident 77 80 (codes "Pow")) ∷ (tok Operator 80 81 (codes "(")) ∷ (tok Ident 81 82 (codes "x")) ∷ (tok Operator 82 83 (codes ",")) ∷ (tok Integer 84 85 (codes "2")) ∷ (tok Operator 85 86 (codes ")")) ∷ (tok Operator 86 87 (codes ")")) ∷ (tok Inserted 87 87 (codes ";")) ∷ (tok Operator 95 96 (codes "}")) ∷ (tok Inserted 96 96 (codes ";")) ∷ [])) ≡ Some (comment_behind_1_f0, [])
unfolding reading
comment_behind_1_f0_read = refl

abbrev comment_behind_1 : Module
comment_behind_1 = record { packages = (pack (codes "example.com/m") (codes "main") (source (codes "main.go") comment_behind_1_f0 ∷ []) ∷ pack (codes "example.com/m/old") (codes "old") (source (codes "old/old.go") comment_behind_1_f1 ∷ []) ∷ pack (codes "example.com/m/pow") (codes "pow") (source (codes "pow/pow.go") comment_behind_1_f2 ∷ []) ∷ []); marks = (mark 1 0 0 0 ∷ []); texts = (((codes "main.go"), record { text = (codes "package main\n\nimport \"example.com/m/pow\"\n\nfunc main() {\n\tx := 3\n\tprintln(pow.Pow(x, 2)) // why\n}\n"); tokens = ((tok Keyword 0 7 (codes "package")) ∷ (tok Ident 8 12 (codes "main")) ∷ (tok Inserted 12 12 (codes ";")) ∷ (tok Keyword 14 20 (codes "import")) ∷ (tok Str 21 40 (codes "\"example.com/m/pow\"")) ∷ (tok Inserted 40 40 (codes ";")) ∷ (tok Keyword 42 46 (codes "func")) ∷ (tok Ident 47 51 (codes "main")) ∷ (tok Operator 51 52 (codes "(")) ∷ (tok Operator 52 53 (codes ")")) ∷ (tok Operator 54 55 (codes "{")) ∷ (tok Ident 57 58 (codes "x")) ∷ (tok Operator 59 61 (codes ":=")) ∷ (tok Integer 62 63 (codes "3")) ∷ (tok Inserted 63 63 (codes ";")) ∷ (tok Ident 65 72 (codes "println")) ∷ (tok Operator 72 73 (codes "(")) ∷ (tok Ident 73 76 (codes "pow")) ∷ (tok Operator 76 77 (codes ".")) ∷ (tok Ident 77 80 (codes "Pow")) ∷ (tok Operator 80 81 (codes "(")) ∷ (tok Ident 81 82 (codes "x")) ∷ (tok Operator 82 83 (codes ",")) ∷ (tok Integer 84 85 (codes "2")) ∷ (tok Operator 85 86 (codes ")")) ∷ (tok Operator 86 87 (codes ")")) ∷ (tok Inserted 87 87 (codes ";")) ∷ (tok Operator 95 96 (codes "}")) ∷ (tok Inserted 96 96 (codes ";")) ∷ []); comments = ((note 88 94) ∷ []) }) ∷ ((codes "old/old.go"), record { text = (codes "package old\n\nimport \"example.com/m/pow\"\n\n//go:fix inline\nfunc Square(x int) int {\n\treturn pow.Pow(x, 2)\n}\n"); tokens = ((tok Keyword 0 7 (codes "package")) ∷ (tok Ident 8 11 (codes "old")) ∷ (tok Inserted 11 11 (codes ";")) ∷ (tok Keyword 13 19 (codes "import")) ∷ (tok Str 20 39 (codes "\"example.com/m/pow\"")) ∷ (tok Inserted 39 39 (codes ";")) ∷ (tok Keyword 57 61 (codes "func")) ∷ (tok Ident 62 68 (codes "Square")) ∷ (tok Operator 68 69 (codes "(")) ∷ (tok Ident 69 70 (codes "x")) ∷ (tok Ident 71 74 (codes "int")) ∷ (tok Operator 74 75 (codes ")")) ∷ (tok Ident 76 79 (codes "int")) ∷ (tok Operator 80 81 (codes "{")) ∷ (tok Keyword 83 89 (codes "return")) ∷ (tok Ident 90 93 (codes "pow")) ∷ (tok Operator 93 94 (codes ".")) ∷ (tok Ident 94 97 (codes "Pow")) ∷ (tok Operator 97 98 (codes "(")) ∷ (tok Ident 98 99 (codes "x")) ∷ (tok Operator 99 100 (codes ",")) ∷ (tok Integer 101 102 (codes "2")) ∷ (tok Operator 102 103 (codes ")")) ∷ (tok Inserted 103 103 (codes ";")) ∷ (tok Operator 104 105 (codes "}")) ∷ (tok Inserted 105 105 (codes ";")) ∷ []); comments = ((note 41 56) ∷ []) }) ∷ ((codes "pow/pow.go"), record { text = (codes "package pow\n\nfunc Pow(x, n int) int {\n\treturn x * n\n}\n"); tokens = ((tok Keyword 0 7 (codes "package")) ∷ (tok Ident 8 11 (codes "pow")) ∷ (tok Inserted 11 11 (codes ";")) ∷ (tok Keyword 13 17 (codes "func")) ∷ (tok Ident 18 21 (codes "Pow")) ∷ (tok Operator 21 22 (codes "(")) ∷ (tok Ident 22 23 (codes "x")) ∷ (tok Operator 23 24 (codes ",")) ∷ (tok Ident 25 26 (codes "n")) ∷ (tok Ident 27 30 (codes "int")) ∷ (tok Operator 30 31 (codes ")")) ∷ (tok Ident 32 35 (codes "int")) ∷ (tok Operator 36 37 (codes "{")) ∷ (tok Keyword 39 45 (codes "return")) ∷ (tok Ident 46 47 (codes "x")) ∷ (tok Operator 48 49 (codes "*")) ∷ (tok Ident 50 51 (codes "n")) ∷ (tok Inserted 51 51 (codes ";")) ∷ (tok Operator 52 53 (codes "}")) ∷ (tok Inserted 53 53 (codes ";")) ∷ []); comments = [] }) ∷ []) }

comment_behind_1_typed : is_typed comment_behind_1 ≡ true
comment_behind_1_typed = refl

comment_behind_1_ends : step_of comment_behind_1 ≡ None
unfolding passes keyword_spellings digits
comment_behind_1_ends = refl

comment_behind_1_kept : kept_uses comment_behind_1 ≡ []
unfolding passes keyword_spellings digits
comment_behind_1_kept = refl

-- A predeclared name means a variable at the use.
abbrev shadowed_len_f0 : File Span
shadowed_len_f0 = record { package_name = (nm 8 12 (codes "main")); imports = ((imps (at 14 40) false ((imp (at 21 40) None (codes "example.com/m/old")) ∷ [])) ∷ []); decls = ((fn (at 42 97) None (nm 47 51 (codes "main")) (sig [] []) (at 54 97) (stmt_and (define (at 57 65) ((nm 57 60 (codes "len")) ∷ []) (expr_and (int_lit (at 64 65) (codes "2")) no_exprs)) (stmt_and (eval (at 67 95) (call (at 67 95) (ident (at 67 74) (codes "println")) (expr_and (call (at 75 89) (selector (at 75 83) (ident (at 75 78) (codes "old")) (nm 79 83 (codes "Size"))) (expr_and (str_lit (at 84 88) (codes "\"ab\"")) no_exprs) Plain) (expr_and (ident (at 91 94) (codes "len")) no_exprs)) Plain)) no_stmts))) ∷ []) }

abbrev shadowed_len_f1 : File Span
shadowed_len_f1 = record { package_name = (nm 8 11 (codes "old")); imports = []; decls = ((fn (at 29 71) None (nm 34 38 (codes "Size")) (sig ((param (at 39 47) (Some (nm 39 40 (codes "s"))) (named (at 41 47) None (nm 41 47 (codes "string")))) ∷ []) ((param (at 49 52) None (named (at 49 52) None (nm 49 52 (codes "int")))) ∷ [])) (at 53 71) (stmt_and (return_ (at 56 69) (expr_and (call (at 63 69) (ident (at 63 66) (codes "len")) (expr_and (ident (at 67 68) (codes "s")) no_exprs) Plain) no_exprs)) no_stmts)) ∷ []) }

shadowed_len_f0_read : read_at span_to read_front (lexemes ((tok Keyword 0 7 (codes "package")) ∷ (tok Ident 8 12 (codes "main")) ∷ (tok Inserted 12 12 (codes ";")) ∷ (tok Keyword 14 20 (codes "import")) ∷ (tok Str 21 40 (codes "\"example.com/m/old\"")) ∷ (tok Inserted 40 40 (codes ";")) ∷ (tok Keyword 42 46 (codes "func")) ∷ (tok Ident 47 51 (codes "main")) ∷ (tok Operator 51 52 (codes "(")) ∷ (tok Operator 52 53 (codes ")")) ∷ (tok Operator 54 55 (codes "{")) ∷ (tok Ident 57 60 (codes "len")) ∷ (tok Operator 61 63 (codes ":=")) ∷ (tok Integer 64 65 (codes "2")) ∷ (tok Inserted 65 65 (codes ";")) ∷ (tok Ident 67 74 (codes "println")) ∷ (tok Operator 74 75 (codes "(")) ∷ (tok Ident 75 78 (codes "old")) ∷ (tok Operator 78 79 (codes ".")) ∷ (tok Ident 79 83 (codes "Size")) ∷ (tok Operator 83 84 (codes "(")) ∷ (tok Str 84 88 (codes "\"ab\"")) ∷ (tok Operator 88 89 (codes ")")) ∷ (tok Operator 89 90 (codes ",")) ∷ (tok Ident 91 94 (codes "len")) ∷ (tok Operator 94 95 (codes ")")) ∷ (tok Inserted 95 95 (codes ";")) ∷ (tok Operator 96 97 (codes "}")) ∷ (tok Inserted 97 97 (codes ";")) ∷ [])) ≡ Some (shadowed_len_f0, [])
unfolding reading
shadowed_len_f0_read = refl

shadowed_len_f1_read : read_at span_to read_front (lexemes ((tok Keyword 0 7 (codes "package")) ∷ (tok Ident 8 11 (codes "old")) ∷ (tok Inserted 11 11 (codes ";")) ∷ (tok Keyword 29 33 (codes "func")) ∷ (tok Ident 34 38 (codes "Size")) ∷ (tok Operator 38 39 (codes "(")) ∷ (tok Ident 39 40 (codes "s")) ∷ (tok Ident 41 47 (codes "string")) ∷ (tok Operator 47 48 (codes ")")) ∷ (tok Ident 49 52 (codes "int")) ∷ (tok Operator 53 54 (codes "{")) ∷ (tok Keyword 56 62 (codes "return")) ∷ (tok Ident 63 66 (codes "len")) ∷ (tok Operator 66 67 (codes "(")) ∷ (tok Ident 67 68 (codes "s")) ∷ (tok Operator 68 69 (codes ")")) ∷ (tok Inserted 69 69 (codes ";")) ∷ (tok Operator 70 71 (codes "}")) ∷ (tok Inserted 71 71 (codes ";")) ∷ [])) ≡ Some (shadowed_len_f1, [])
unfolding reading
shadowed_len_f1_read = refl

abbrev shadowed_len : Module
shadowed_len = record { packages = (pack (codes "example.com/m") (codes "main") (source (codes "main.go") shadowed_len_f0 ∷ []) ∷ pack (codes "example.com/m/old") (codes "old") (source (codes "old/old.go") shadowed_len_f1 ∷ []) ∷ []); marks = (mark 1 0 0 0 ∷ []); texts = (((codes "main.go"), record { text = (codes "package main\n\nimport \"example.com/m/old\"\n\nfunc main() {\n\tlen := 2\n\tprintln(old.Size(\"ab\"), len)\n}\n"); tokens = ((tok Keyword 0 7 (codes "package")) ∷ (tok Ident 8 12 (codes "main")) ∷ (tok Inserted 12 12 (codes ";")) ∷ (tok Keyword 14 20 (codes "import")) ∷ (tok Str 21 40 (codes "\"example.com/m/old\"")) ∷ (tok Inserted 40 40 (codes ";")) ∷ (tok Keyword 42 46 (codes "func")) ∷ (tok Ident 47 51 (codes "main")) ∷ (tok Operator 51 52 (codes "(")) ∷ (tok Operator 52 53 (codes ")")) ∷ (tok Operator 54 55 (codes "{")) ∷ (tok Ident 57 60 (codes "len")) ∷ (tok Operator 61 63 (codes ":=")) ∷ (tok Integer 64 65 (codes "2")) ∷ (tok Inserted 65 65 (codes ";")) ∷ (tok Ident 67 74 (codes "println")) ∷ (tok Operator 74 75 (codes "(")) ∷ (tok Ident 75 78 (codes "old")) ∷ (tok Operator 78 79 (codes ".")) ∷ (tok Ident 79 83 (codes "Size")) ∷ (tok Operator 83 84 (codes "(")) ∷ (tok Str 84 88 (codes "\"ab\"")) ∷ (tok Operator 88 89 (codes ")")) ∷ (tok Operator 89 90 (codes ",")) ∷ (tok Ident 91 94 (codes "len")) ∷ (tok Operator 94 95 (codes ")")) ∷ (tok Inserted 95 95 (codes ";")) ∷ (tok Operator 96 97 (codes "}")) ∷ (tok Inserted 97 97 (codes ";")) ∷ []); comments = [] }) ∷ ((codes "old/old.go"), record { text = (codes "package old\n\n//go:fix inline\nfunc Size(s string) int {\n\treturn len(s)\n}\n"); tokens = ((tok Keyword 0 7 (codes "package")) ∷ (tok Ident 8 11 (codes "old")) ∷ (tok Inserted 11 11 (codes ";")) ∷ (tok Keyword 29 33 (codes "func")) ∷ (tok Ident 34 38 (codes "Size")) ∷ (tok Operator 38 39 (codes "(")) ∷ (tok Ident 39 40 (codes "s")) ∷ (tok Ident 41 47 (codes "string")) ∷ (tok Operator 47 48 (codes ")")) ∷ (tok Ident 49 52 (codes "int")) ∷ (tok Operator 53 54 (codes "{")) ∷ (tok Keyword 56 62 (codes "return")) ∷ (tok Ident 63 66 (codes "len")) ∷ (tok Operator 66 67 (codes "(")) ∷ (tok Ident 67 68 (codes "s")) ∷ (tok Operator 68 69 (codes ")")) ∷ (tok Inserted 69 69 (codes ";")) ∷ (tok Operator 70 71 (codes "}")) ∷ (tok Inserted 71 71 (codes ";")) ∷ []); comments = ((note 13 28) ∷ []) }) ∷ []) }

shadowed_len_typed : is_typed shadowed_len ≡ true
shadowed_len_typed = refl

shadowed_len_ends : step_of shadowed_len ≡ None
unfolding passes keyword_spellings digits
shadowed_len_ends = refl

shadowed_len_kept : kept_uses shadowed_len ≡ (((codes "main.go"), 75, Some (Shadowed (codes "len"))) ∷ [])
unfolding passes keyword_spellings digits
shadowed_len_kept = refl

-- A name that is not exported.
abbrev helper_hidden_f0 : File Span
helper_hidden_f0 = record { package_name = (nm 8 12 (codes "main")); imports = ((imps (at 14 40) false ((imp (at 21 40) None (codes "example.com/m/old")) ∷ [])) ∷ []); decls = ((fn (at 42 77) None (nm 47 51 (codes "main")) (sig [] []) (at 54 77) (stmt_and (eval (at 57 75) (call (at 57 75) (ident (at 57 64) (codes "println")) (expr_and (call (at 65 74) (selector (at 65 71) (ident (at 65 68) (codes "old")) (nm 69 71 (codes "Do"))) (expr_and (int_lit (at 72 73) (codes "1")) no_exprs) Plain) no_exprs) Plain)) no_stmts)) ∷ []) }

abbrev helper_hidden_f1 : File Span
helper_hidden_f1 = record { package_name = (nm 8 11 (codes "old")); imports = []; decls = ((fn (at 13 49) None (nm 18 24 (codes "helper")) (sig ((param (at 25 30) (Some (nm 25 26 (codes "x"))) (named (at 27 30) None (nm 27 30 (codes "int")))) ∷ []) ((param (at 32 35) None (named (at 32 35) None (nm 32 35 (codes "int")))) ∷ [])) (at 36 49) (stmt_and (return_ (at 39 47) (expr_and (ident (at 46 47) (codes "x")) no_exprs)) no_stmts)) ∷ (fn (at 67 107) None (nm 72 74 (codes "Do")) (sig ((param (at 75 80) (Some (nm 75 76 (codes "x"))) (named (at 77 80) None (nm 77 80 (codes "int")))) ∷ []) ((param (at 82 85) None (named (at 82 85) None (nm 82 85 (codes "int")))) ∷ [])) (at 86 107) (stmt_and (return_ (at 89 105) (expr_and (call (at 96 105) (ident (at 96 102) (codes "helper")) (expr_and (ident (at 103 104) (codes "x")) no_exprs) Plain) no_exprs)) no_stmts)) ∷ []) }

helper_hidden_f0_read : read_at span_to read_front (lexemes ((tok Keyword 0 7 (codes "package")) ∷ (tok Ident 8 12 (codes "main")) ∷ (tok Inserted 12 12 (codes ";")) ∷ (tok Keyword 14 20 (codes "import")) ∷ (tok Str 21 40 (codes "\"example.com/m/old\"")) ∷ (tok Inserted 40 40 (codes ";")) ∷ (tok Keyword 42 46 (codes "func")) ∷ (tok Ident 47 51 (codes "main")) ∷ (tok Operator 51 52 (codes "(")) ∷ (tok Operator 52 53 (codes ")")) ∷ (tok Operator 54 55 (codes "{")) ∷ (tok Ident 57 64 (codes "println")) ∷ (tok Operator 64 65 (codes "(")) ∷ (tok Ident 65 68 (codes "old")) ∷ (tok Operator 68 69 (codes ".")) ∷ (tok Ident 69 71 (codes "Do")) ∷ (tok Operator 71 72 (codes "(")) ∷ (tok Integer 72 73 (codes "1")) ∷ (tok Operator 73 74 (codes ")")) ∷ (tok Operator 74 75 (codes ")")) ∷ (tok Inserted 75 75 (codes ";")) ∷ (tok Operator 76 77 (codes "}")) ∷ (tok Inserted 77 77 (codes ";")) ∷ [])) ≡ Some (helper_hidden_f0, [])
unfolding reading
helper_hidden_f0_read = refl

helper_hidden_f1_read : read_at span_to read_front (lexemes ((tok Keyword 0 7 (codes "package")) ∷ (tok Ident 8 11 (codes "old")) ∷ (tok Inserted 11 11 (codes ";")) ∷ (tok Keyword 13 17 (codes "func")) ∷ (tok Ident 18 24 (codes "helper")) ∷ (tok Operator 24 25 (codes "(")) ∷ (tok Ident 25 26 (codes "x")) ∷ (tok Ident 27 30 (codes "int")) ∷ (tok Operator 30 31 (codes ")")) ∷ (tok Ident 32 35 (codes "int")) ∷ (tok Operator 36 37 (codes "{")) ∷ (tok Keyword 39 45 (codes "return")) ∷ (tok Ident 46 47 (codes "x")) ∷ (tok Inserted 47 47 (codes ";")) ∷ (tok Operator 48 49 (codes "}")) ∷ (tok Inserted 49 49 (codes ";")) ∷ (tok Keyword 67 71 (codes "func")) ∷ (tok Ident 72 74 (codes "Do")) ∷ (tok Operator 74 75 (codes "(")) ∷ (tok Ident 75 76 (codes "x")) ∷ (tok Ident 77 80 (codes "int")) ∷ (tok Operator 80 81 (codes ")")) ∷ (tok Ident 82 85 (codes "int")) ∷ (tok Operator 86 87 (codes "{")) ∷ (tok Keyword 89 95 (codes "return")) ∷ (tok Ident 96 102 (codes "helper")) ∷ (tok Operator 102 103 (codes "(")) ∷ (tok Ident 103 104 (codes "x")) ∷ (tok Operator 104 105 (codes ")")) ∷ (tok Inserted 105 105 (codes ";")) ∷ (tok Operator 106 107 (codes "}")) ∷ (tok Inserted 107 107 (codes ";")) ∷ [])) ≡ Some (helper_hidden_f1, [])
unfolding reading
helper_hidden_f1_read = refl

abbrev helper_hidden : Module
helper_hidden = record { packages = (pack (codes "example.com/m") (codes "main") (source (codes "main.go") helper_hidden_f0 ∷ []) ∷ pack (codes "example.com/m/old") (codes "old") (source (codes "old/old.go") helper_hidden_f1 ∷ []) ∷ []); marks = (mark 1 0 1 0 ∷ []); texts = (((codes "main.go"), record { text = (codes "package main\n\nimport \"example.com/m/old\"\n\nfunc main() {\n\tprintln(old.Do(1))\n}\n"); tokens = ((tok Keyword 0 7 (codes "package")) ∷ (tok Ident 8 12 (codes "main")) ∷ (tok Inserted 12 12 (codes ";")) ∷ (tok Keyword 14 20 (codes "import")) ∷ (tok Str 21 40 (codes "\"example.com/m/old\"")) ∷ (tok Inserted 40 40 (codes ";")) ∷ (tok Keyword 42 46 (codes "func")) ∷ (tok Ident 47 51 (codes "main")) ∷ (tok Operator 51 52 (codes "(")) ∷ (tok Operator 52 53 (codes ")")) ∷ (tok Operator 54 55 (codes "{")) ∷ (tok Ident 57 64 (codes "println")) ∷ (tok Operator 64 65 (codes "(")) ∷ (tok Ident 65 68 (codes "old")) ∷ (tok Operator 68 69 (codes ".")) ∷ (tok Ident 69 71 (codes "Do")) ∷ (tok Operator 71 72 (codes "(")) ∷ (tok Integer 72 73 (codes "1")) ∷ (tok Operator 73 74 (codes ")")) ∷ (tok Operator 74 75 (codes ")")) ∷ (tok Inserted 75 75 (codes ";")) ∷ (tok Operator 76 77 (codes "}")) ∷ (tok Inserted 77 77 (codes ";")) ∷ []); comments = [] }) ∷ ((codes "old/old.go"), record { text = (codes "package old\n\nfunc helper(x int) int {\n\treturn x\n}\n\n//go:fix inline\nfunc Do(x int) int {\n\treturn helper(x)\n}\n"); tokens = ((tok Keyword 0 7 (codes "package")) ∷ (tok Ident 8 11 (codes "old")) ∷ (tok Inserted 11 11 (codes ";")) ∷ (tok Keyword 13 17 (codes "func")) ∷ (tok Ident 18 24 (codes "helper")) ∷ (tok Operator 24 25 (codes "(")) ∷ (tok Ident 25 26 (codes "x")) ∷ (tok Ident 27 30 (codes "int")) ∷ (tok Operator 30 31 (codes ")")) ∷ (tok Ident 32 35 (codes "int")) ∷ (tok Operator 36 37 (codes "{")) ∷ (tok Keyword 39 45 (codes "return")) ∷ (tok Ident 46 47 (codes "x")) ∷ (tok Inserted 47 47 (codes ";")) ∷ (tok Operator 48 49 (codes "}")) ∷ (tok Inserted 49 49 (codes ";")) ∷ (tok Keyword 67 71 (codes "func")) ∷ (tok Ident 72 74 (codes "Do")) ∷ (tok Operator 74 75 (codes "(")) ∷ (tok Ident 75 76 (codes "x")) ∷ (tok Ident 77 80 (codes "int")) ∷ (tok Operator 80 81 (codes ")")) ∷ (tok Ident 82 85 (codes "int")) ∷ (tok Operator 86 87 (codes "{")) ∷ (tok Keyword 89 95 (codes "return")) ∷ (tok Ident 96 102 (codes "helper")) ∷ (tok Operator 102 103 (codes "(")) ∷ (tok Ident 103 104 (codes "x")) ∷ (tok Operator 104 105 (codes ")")) ∷ (tok Inserted 105 105 (codes ";")) ∷ (tok Operator 106 107 (codes "}")) ∷ (tok Inserted 107 107 (codes ";")) ∷ []); comments = ((note 51 66) ∷ []) }) ∷ []) }

helper_hidden_typed : is_typed helper_hidden ≡ true
helper_hidden_typed = refl

helper_hidden_ends : step_of helper_hidden ≡ None
unfolding passes keyword_spellings digits
helper_hidden_ends = refl

helper_hidden_kept : kept_uses helper_hidden ≡ (((codes "main.go"), 65, Some (NotAccessible (codes "helper"))) ∷ [])
unfolding passes keyword_spellings digits
helper_hidden_kept = refl
