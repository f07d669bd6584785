-- Calls that become literals, and cycles.
use Rattle.std.proofs.Common.{◌≡◌, refl}
use Rattle.std.specs.Prelude.{true, false, [], ◌∷◌, map, Some, None, codes}
use Rattle.go_tree.specs.declared.exprs.Rest.TheVariants.{Plain}
use Rattle.go_tree.specs.declared.spans.Span.{Span}
use Rattle.go_tree.specs.declared.tokens.TokenKind.TheVariants.{Ident, Keyword, Operator, Integer, Str, Inserted}
use Rattle.go_tree.specs.declared.operators.BinOp.TheVariants.{Add, Sub, Eq, Ne, LogAnd, LogOr}
use Rattle.go_tree.specs.Tree.{named, slice_type, ident, int_lit, str_lit, composite, index, call, func_lit, binary, no_exprs, expr_and, no_elems, elem, plain, no_value, eval, define, return_, defer, no_stmts, stmt_and}
use Rattle.go_tree.specs.File.{File}
use Rattle.run_rules.specs.FormTrees.{ExprForm, LiteralForm}
use Rattle.run_rules.specs.Obstacles.{Recursive}
use Rattle.run_rules.specs.Cycles.{is_recursive}
use Rattle.run_rules.proofs.CaseTools.{at, nm, tok, note, param, sig, fn, pack, source, mark, Module, is_typed, first_change, step_of, kept_uses}
use Rattle.go_layout.specs.SpellsSpans.{span_to}
use Rattle.go_tree.specs.GoWords.Terminals.{lexemes}
use Rattle.go_layout.specs.Goals.{read_front}
use Rattle.go_layout.proofs.Texts.{reading}
use Rattle.run_rules.proofs.CaseTools.{read_at}

-- A constant that gives a constant fault is bound.
abbrev overflow_0_f0 : File Span
overflow_0_f0 = record { package_name = (nm 8 12 (codes "main")); imports = []; decls = ((fn (at 30 69) None (nm 35 38 (codes "Inc")) (sig ((param (at 39 45) (Some (nm 39 40 (codes "x"))) (named (at 41 45) None (nm 41 45 (codes "int8")))) ∷ []) ((param (at 47 51) None (named (at 47 51) None (nm 47 51 (codes "int8")))) ∷ [])) (at 52 69) (stmt_and (return_ (at 55 67) (expr_and (binary (at 62 67) Add (ident (at 62 63) (codes "x")) (int_lit (at 66 67) (codes "1"))) no_exprs)) no_stmts)) ∷ (fn (at 71 105) None (nm 76 80 (codes "main")) (sig [] []) (at 83 105) (stmt_and (eval (at 86 103) (call (at 86 103) (ident (at 86 93) (codes "println")) (expr_and (call (at 94 102) (ident (at 94 97) (codes "Inc")) (expr_and (int_lit (at 98 101) (codes "127")) no_exprs) Plain) no_exprs) Plain)) no_stmts)) ∷ []) }

overflow_0_f0_read : read_at span_to read_front (lexemes ((tok Keyword 0 7 (codes "package")) ∷ (tok Ident 8 12 (codes "main")) ∷ (tok Inserted 12 12 (codes ";")) ∷ (tok Keyword 30 34 (codes "func")) ∷ (tok Ident 35 38 (codes "Inc")) ∷ (tok Operator 38 39 (codes "(")) ∷ (tok Ident 39 40 (codes "x")) ∷ (tok Ident 41 45 (codes "int8")) ∷ (tok Operator 45 46 (codes ")")) ∷ (tok Ident 47 51 (codes "int8")) ∷ (tok Operator 52 53 (codes "{")) ∷ (tok Keyword 55 61 (codes "return")) ∷ (tok Ident 62 63 (codes "x")) ∷ (tok Operator 64 65 (codes "+")) ∷ (tok Integer 66 67 (codes "1")) ∷ (tok Inserted 67 67 (codes ";")) ∷ (tok Operator 68 69 (codes "}")) ∷ (tok Inserted 69 69 (codes ";")) ∷ (tok Keyword 71 75 (codes "func")) ∷ (tok Ident 76 80 (codes "main")) ∷ (tok Operator 80 81 (codes "(")) ∷ (tok Operator 81 82 (codes ")")) ∷ (tok Operator 83 84 (codes "{")) ∷ (tok Ident 86 93 (codes "println")) ∷ (tok Operator 93 94 (codes "(")) ∷ (tok Ident 94 97 (codes "Inc")) ∷ (tok Operator 97 98 (codes "(")) ∷ (tok Integer 98 101 (codes "127")) ∷ (tok Operator 101 102 (codes ")")) ∷ (tok Operator 102 103 (codes ")")) ∷ (tok Inserted 103 103 (codes ";")) ∷ (tok Operator 104 105 (codes "}")) ∷ (tok Inserted 105 105 (codes ";")) ∷ [])) ≡ Some (overflow_0_f0, [])
unfolding reading
overflow_0_f0_read = refl

abbrev overflow_0 : Module
overflow_0 = record { packages = (pack (codes "example.com/m") (codes "main") (source (codes "main.go") overflow_0_f0 ∷ []) ∷ []); marks = (mark 0 0 0 0 ∷ []); texts = (((codes "main.go"), record { text = (codes "package main\n\n//go:fix inline\nfunc Inc(x int8) int8 {\n\treturn x + 1\n}\n\nfunc main() {\n\tprintln(Inc(127))\n}\n"); tokens = ((tok Keyword 0 7 (codes "package")) ∷ (tok Ident 8 12 (codes "main")) ∷ (tok Inserted 12 12 (codes ";")) ∷ (tok Keyword 30 34 (codes "func")) ∷ (tok Ident 35 38 (codes "Inc")) ∷ (tok Operator 38 39 (codes "(")) ∷ (tok Ident 39 40 (codes "x")) ∷ (tok Ident 41 45 (codes "int8")) ∷ (tok Operator 45 46 (codes ")")) ∷ (tok Ident 47 51 (codes "int8")) ∷ (tok Operator 52 53 (codes "{")) ∷ (tok Keyword 55 61 (codes "return")) ∷ (tok Ident 62 63 (codes "x")) ∷ (tok Operator 64 65 (codes "+")) ∷ (tok Integer 66 67 (codes "1")) ∷ (tok Inserted 67 67 (codes ";")) ∷ (tok Operator 68 69 (codes "}")) ∷ (tok Inserted 69 69 (codes ";")) ∷ (tok Keyword 71 75 (codes "func")) ∷ (tok Ident 76 80 (codes "main")) ∷ (tok Operator 80 81 (codes "(")) ∷ (tok Operator 81 82 (codes ")")) ∷ (tok Operator 83 84 (codes "{")) ∷ (tok Ident 86 93 (codes "println")) ∷ (tok Operator 93 94 (codes "(")) ∷ (tok Ident 94 97 (codes "Inc")) ∷ (tok Operator 97 98 (codes "(")) ∷ (tok Integer 98 101 (codes "127")) ∷ (tok Operator 101 102 (codes ")")) ∷ (tok Operator 102 103 (codes ")")) ∷ (tok Inserted 103 103 (codes ";")) ∷ (tok Operator 104 105 (codes "}")) ∷ (tok Inserted 105 105 (codes ";")) ∷ []); comments = ((note 14 29) ∷ []) }) ∷ []) }

overflow_0_typed : is_typed overflow_0 ≡ true
overflow_0_typed = refl

overflow_0_step : first_change overflow_0 ≡ Some ((codes "main.go"), LiteralForm, (codes "package main\n\n//go:fix inline\nfunc Inc(x int8) int8 {\n\treturn x + 1\n}\n\nfunc main() {\n\tprintln(func(x int8) int8 {\n\t\treturn x + 1\n\t}(127))\n}\n"))
overflow_0_step = refl

abbrev overflow_1_f0 : File Span
overflow_1_f0 = record { package_name = (nm 8 12 (codes "main")); imports = []; decls = ((fn (at 30 69) None (nm 35 38 (codes "Inc")) (sig ((param (at 39 45) (Some (nm 39 40 (codes "x"))) (named (at 41 45) None (nm 41 45 (codes "int8")))) ∷ []) ((param (at 47 51) None (named (at 47 51) None (nm 47 51 (codes "int8")))) ∷ [])) (at 52 69) (stmt_and (return_ (at 55 67) (expr_and (binary (at 62 67) Add (ident (at 62 63) (codes "x")) (int_lit (at 66 67) (codes "1"))) no_exprs)) no_stmts)) ∷ (fn (at 71 139) None (nm 76 80 (codes "main")) (sig [] []) (at 83 139) (stmt_and (eval (at 86 137) (call (at 86 137) (ident (at 86 93) (codes "println")) (expr_and (call (at 94 136) (func_lit (at 94 131) (sig ((param (at 99 105) (Some (nm 99 100 (codes "x"))) (named (at 101 105) None (nm 101 105 (codes "int8")))) ∷ []) ((param (at 107 111) None (named (at 107 111) None (nm 107 111 (codes "int8")))) ∷ [])) (at 112 131) (stmt_and (return_ (at 116 128) (expr_and (binary (at 123 128) Add (ident (at 123 124) (codes "x")) (int_lit (at 127 128) (codes "1"))) no_exprs)) no_stmts)) (expr_and (int_lit (at 132 135) (codes "127")) no_exprs) Plain) no_exprs) Plain)) no_stmts)) ∷ []) }

overflow_1_f0_read : read_at span_to read_front (lexemes ((tok Keyword 0 7 (codes "package")) ∷ (tok Ident 8 12 (codes "main")) ∷ (tok Inserted 12 12 (codes ";")) ∷ (tok Keyword 30 34 (codes "func")) ∷ (tok Ident 35 38 (codes "Inc")) ∷ (tok Operator 38 39 (codes "(")) ∷ (tok Ident 39 40 (codes "x")) ∷ (tok Ident 41 45 (codes "int8")) ∷ (tok Operator 45 46 (codes ")")) ∷ (tok Ident 47 51 (codes "int8")) ∷ (tok Operator 52 53 (codes "{")) ∷ (tok Keyword 55 61 (codes "return")) ∷ (tok Ident 62 63 (codes "x")) ∷ (tok Operator 64 65 (codes "+")) ∷ (tok Integer 66 67 (codes "1")) ∷ (tok Inserted 67 67 (codes ";")) ∷ (tok Operator 68 69 (codes "}")) ∷ (tok Inserted 69 69 (codes ";")) ∷ (tok Keyword 71 75 (codes "func")) ∷ (tok Ident 76 80 (codes "main")) ∷ (tok Operator 80 81 (codes "(")) ∷ (tok Operator 81 82 (codes ")")) ∷ (tok Operator 83 84 (codes "{")) ∷ (tok Ident 86 93 (codes "println")) ∷ (tok Operator 93 94 (codes "(")) ∷ (tok Keyword 94 98 (codes "func")) ∷ (tok Operator 98 99 (codes "(")) ∷ (tok Ident 99 100 (codes "x")) ∷ (tok Ident 101 105 (codes "int8")) ∷ (tok Operator 105 106 (codes ")")) ∷ (tok Ident 107 111 (codes "int8")) ∷ (tok Operator 112 113 (codes "{")) ∷ (tok Keyword 116 122 (codes "return")) ∷ (tok Ident 123 124 (codes "x")) ∷ (tok Operator 125 126 (codes "+")) ∷ (tok Integer 127 128 (codes "1")) ∷ (tok Inserted 128 128 (codes ";")) ∷ (tok Operator 130 131 (codes "}")) ∷ (tok Operator 131 132 (codes "(")) ∷ (tok Integer 132 135 (codes "127")) ∷ (tok Operator 135 136 (codes ")")) ∷ (tok Operator 136 137 (codes ")")) ∷ (tok Inserted 137 137 (codes ";")) ∷ (tok Operator 138 139 (codes "}")) ∷ (tok Inserted 139 139 (codes ";")) ∷ [])) ≡ Some (overflow_1_f0, [])
unfolding reading
overflow_1_f0_read = refl

abbrev overflow_1 : Module
overflow_1 = record { packages = (pack (codes "example.com/m") (codes "main") (source (codes "main.go") overflow_1_f0 ∷ []) ∷ []); marks = (mark 0 0 0 0 ∷ []); texts = (((codes "main.go"), record { text = (codes "package main\n\n//go:fix inline\nfunc Inc(x int8) int8 {\n\treturn x + 1\n}\n\nfunc main() {\n\tprintln(func(x int8) int8 {\n\t\treturn x + 1\n\t}(127))\n}\n"); tokens = ((tok Keyword 0 7 (codes "package")) ∷ (tok Ident 8 12 (codes "main")) ∷ (tok Inserted 12 12 (codes ";")) ∷ (tok Keyword 30 34 (codes "func")) ∷ (tok Ident 35 38 (codes "Inc")) ∷ (tok Operator 38 39 (codes "(")) ∷ (tok Ident 39 40 (codes "x")) ∷ (tok Ident 41 45 (codes "int8")) ∷ (tok Operator 45 46 (codes ")")) ∷ (tok Ident 47 51 (codes "int8")) ∷ (tok Operator 52 53 (codes "{")) ∷ (tok Keyword 55 61 (codes "return")) ∷ (tok Ident 62 63 (codes "x")) ∷ (tok Operator 64 65 (codes "+")) ∷ (tok Integer 66 67 (codes "1")) ∷ (tok Inserted 67 67 (codes ";")) ∷ (tok Operator 68 69 (codes "}")) ∷ (tok Inserted 69 69 (codes ";")) ∷ (tok Keyword 71 75 (codes "func")) ∷ (tok Ident 76 80 (codes "main")) ∷ (tok Operator 80 81 (codes "(")) ∷ (tok Operator 81 82 (codes ")")) ∷ (tok Operator 83 84 (codes "{")) ∷ (tok Ident 86 93 (codes "println")) ∷ (tok Operator 93 94 (codes "(")) ∷ (tok Keyword 94 98 (codes "func")) ∷ (tok Operator 98 99 (codes "(")) ∷ (tok Ident 99 100 (codes "x")) ∷ (tok Ident 101 105 (codes "int8")) ∷ (tok Operator 105 106 (codes ")")) ∷ (tok Ident 107 111 (codes "int8")) ∷ (tok Operator 112 113 (codes "{")) ∷ (tok Keyword 116 122 (codes "return")) ∷ (tok Ident 123 124 (codes "x")) ∷ (tok Operator 125 126 (codes "+")) ∷ (tok Integer 127 128 (codes "1")) ∷ (tok Inserted 128 128 (codes ";")) ∷ (tok Operator 130 131 (codes "}")) ∷ (tok Operator 131 132 (codes "(")) ∷ (tok Integer 132 135 (codes "127")) ∷ (tok Operator 135 136 (codes ")")) ∷ (tok Operator 136 137 (codes ")")) ∷ (tok Inserted 137 137 (codes ";")) ∷ (tok Operator 138 139 (codes "}")) ∷ (tok Inserted 139 139 (codes ";")) ∷ []); comments = ((note 14 29) ∷ []) }) ∷ []) }

overflow_1_typed : is_typed overflow_1 ≡ true
overflow_1_typed = refl

overflow_1_ends : step_of overflow_1 ≡ None
overflow_1_ends = refl

overflow_1_kept : kept_uses overflow_1 ≡ []
overflow_1_kept = refl

-- What may panic and has no use is bound.
abbrev failing_argument_0_f0 : File Span
failing_argument_0_f0 = record { package_name = (nm 8 12 (codes "main")); imports = []; decls = ((fn (at 30 67) None (nm 35 40 (codes "First")) (sig ((param (at 41 49) (Some (nm 41 42 (codes "x"))) (named (at 46 49) None (nm 46 49 (codes "int")))) ∷ (param (at 44 49) (Some (nm 44 45 (codes "y"))) (named (at 46 49) None (nm 46 49 (codes "int")))) ∷ []) ((param (at 51 54) None (named (at 51 54) None (nm 51 54 (codes "int")))) ∷ [])) (at 55 67) (stmt_and (return_ (at 57 65) (expr_and (ident (at 64 65) (codes "y")) no_exprs)) no_stmts)) ∷ (fn (at 69 140) None (nm 74 78 (codes "main")) (sig [] []) (at 81 140) (stmt_and (define (at 84 97) ((nm 84 85 (codes "a")) ∷ []) (expr_and (composite (at 89 97) (slice_type (at 89 94) (named (at 91 94) None (nm 91 94 (codes "int")))) (elem (at 95 96) no_value (plain (int_lit (at 95 96) (codes "1"))) no_elems)) no_exprs)) (stmt_and (define (at 99 105) ((nm 99 100 (codes "i")) ∷ []) (expr_and (int_lit (at 104 105) (codes "0")) no_exprs)) (stmt_and (define (at 107 113) ((nm 107 108 (codes "b")) ∷ []) (expr_and (int_lit (at 112 113) (codes "2")) no_exprs)) (stmt_and (eval (at 115 138) (call (at 115 138) (ident (at 115 122) (codes "println")) (expr_and (call (at 123 137) (ident (at 123 128) (codes "First")) (expr_and (index (at 129 133) (ident (at 129 130) (codes "a")) (ident (at 131 132) (codes "i"))) (expr_and (ident (at 135 136) (codes "b")) no_exprs)) Plain) no_exprs) Plain)) no_stmts))))) ∷ []) }

failing_argument_0_f0_read : read_at span_to read_front (lexemes ((tok Keyword 0 7 (codes "package")) ∷ (tok Ident 8 12 (codes "main")) ∷ (tok Inserted 12 12 (codes ";")) ∷ (tok Keyword 30 34 (codes "func")) ∷ (tok Ident 35 40 (codes "First")) ∷ (tok Operator 40 41 (codes "(")) ∷ (tok Ident 41 42 (codes "x")) ∷ (tok Operator 42 43 (codes ",")) ∷ (tok Ident 44 45 (codes "y")) ∷ (tok Ident 46 49 (codes "int")) ∷ (tok Operator 49 50 (codes ")")) ∷ (tok Ident 51 54 (codes "int")) ∷ (tok Operator 55 56 (codes "{")) ∷ (tok Keyword 57 63 (codes "return")) ∷ (tok Ident 64 65 (codes "y")) ∷ (tok Operator 66 67 (codes "}")) ∷ (tok Inserted 67 67 (codes ";")) ∷ (tok Keyword 69 73 (codes "func")) ∷ (tok Ident 74 78 (codes "main")) ∷ (tok Operator 78 79 (codes "(")) ∷ (tok Operator 79 80 (codes ")")) ∷ (tok Operator 81 82 (codes "{")) ∷ (tok Ident 84 85 (codes "a")) ∷ (tok Operator 86 88 (codes ":=")) ∷ (tok Operator 89 90 (codes "[")) ∷ (tok Operator 90 91 (codes "]")) ∷ (tok Ident 91 94 (codes "int")) ∷ (tok Operator 94 95 (codes "{")) ∷ (tok Integer 95 96 (codes "1")) ∷ (tok Operator 96 97 (codes "}")) ∷ (tok Inserted 97 97 (codes ";")) ∷ (tok Ident 99 100 (codes "i")) ∷ (tok Operator 101 103 (codes ":=")) ∷ (tok Integer 104 105 (codes "0")) ∷ (tok Inserted 105 105 (codes ";")) ∷ (tok Ident 107 108 (codes "b")) ∷ (tok Operator 109 111 (codes ":=")) ∷ (tok Integer 112 113 (codes "2")) ∷ (tok Inserted 113 113 (codes ";")) ∷ (tok Ident 115 122 (codes "println")) ∷ (tok Operator 122 123 (codes "(")) ∷ (tok Ident 123 128 (codes "First")) ∷ (tok Operator 128 129 (codes "(")) ∷ (tok Ident 129 130 (codes "a")) ∷ (tok Operator 130 131 (codes "[")) ∷ (tok Ident 131 132 (codes "i")) ∷ (tok Operator 132 133 (codes "]")) ∷ (tok Operator 133 134 (codes ",")) ∷ (tok Ident 135 136 (codes "b")) ∷ (tok Operator 136 137 (codes ")")) ∷ (tok Operator 137 138 (codes ")")) ∷ (tok Inserted 138 138 (codes ";")) ∷ (tok Operator 139 140 (codes "}")) ∷ (tok Inserted 140 140 (codes ";")) ∷ [])) ≡ Some (failing_argument_0_f0, [])
unfolding reading
failing_argument_0_f0_read = refl

abbrev failing_argument_0 : Module
failing_argument_0 = record { packages = (pack (codes "example.com/m") (codes "main") (source (codes "main.go") failing_argument_0_f0 ∷ []) ∷ []); marks = (mark 0 0 0 0 ∷ []); texts = (((codes "main.go"), record { text = (codes "package main\n\n//go:fix inline\nfunc First(x, y int) int { return y }\n\nfunc main() {\n\ta := []int{1}\n\ti := 0\n\tb := 2\n\tprintln(First(a[i], b))\n}\n"); tokens = ((tok Keyword 0 7 (codes "package")) ∷ (tok Ident 8 12 (codes "main")) ∷ (tok Inserted 12 12 (codes ";")) ∷ (tok Keyword 30 34 (codes "func")) ∷ (tok Ident 35 40 (codes "First")) ∷ (tok Operator 40 41 (codes "(")) ∷ (tok Ident 41 42 (codes "x")) ∷ (tok Operator 42 43 (codes ",")) ∷ (tok Ident 44 45 (codes "y")) ∷ (tok Ident 46 49 (codes "int")) ∷ (tok Operator 49 50 (codes ")")) ∷ (tok Ident 51 54 (codes "int")) ∷ (tok Operator 55 56 (codes "{")) ∷ (tok Keyword 57 63 (codes "return")) ∷ (tok Ident 64 65 (codes "y")) ∷ (tok Operator 66 67 (codes "}")) ∷ (tok Inserted 67 67 (codes ";")) ∷ (tok Keyword 69 73 (codes "func")) ∷ (tok Ident 74 78 (codes "main")) ∷ (tok Operator 78 79 (codes "(")) ∷ (tok Operator 79 80 (codes ")")) ∷ (tok Operator 81 82 (codes "{")) ∷ (tok Ident 84 85 (codes "a")) ∷ (tok Operator 86 88 (codes ":=")) ∷ (tok Operator 89 90 (codes "[")) ∷ (tok Operator 90 91 (codes "]")) ∷ (tok Ident 91 94 (codes "int")) ∷ (tok Operator 94 95 (codes "{")) ∷ (tok Integer 95 96 (codes "1")) ∷ (tok Operator 96 97 (codes "}")) ∷ (tok Inserted 97 97 (codes ";")) ∷ (tok Ident 99 100 (codes "i")) ∷ (tok Operator 101 103 (codes ":=")) ∷ (tok Integer 104 105 (codes "0")) ∷ (tok Inserted 105 105 (codes ";")) ∷ (tok Ident 107 108 (codes "b")) ∷ (tok Operator 109 111 (codes ":=")) ∷ (tok Integer 112 113 (codes "2")) ∷ (tok Inserted 113 113 (codes ";")) ∷ (tok Ident 115 122 (codes "println")) ∷ (tok Operator 122 123 (codes "(")) ∷ (tok Ident 123 128 (codes "First")) ∷ (tok Operator 128 129 (codes "(")) ∷ (tok Ident 129 130 (codes "a")) ∷ (tok Operator 130 131 (codes "[")) ∷ (tok Ident 131 132 (codes "i")) ∷ (tok Operator 132 133 (codes "]")) ∷ (tok Operator 133 134 (codes ",")) ∷ (tok Ident 135 136 (codes "b")) ∷ (tok Operator 136 137 (codes ")")) ∷ (tok Operator 137 138 (codes ")")) ∷ (tok Inserted 138 138 (codes ";")) ∷ (tok Operator 139 140 (codes "}")) ∷ (tok Inserted 140 140 (codes ";")) ∷ []); comments = ((note 14 29) ∷ []) }) ∷ []) }

failing_argument_0_typed : is_typed failing_argument_0 ≡ true
failing_argument_0_typed = refl

failing_argument_0_step : first_change failing_argument_0 ≡ Some ((codes "main.go"), LiteralForm, (codes "package main\n\n//go:fix inline\nfunc First(x, y int) int { return y }\n\nfunc main() {\n\ta := []int{1}\n\ti := 0\n\tb := 2\n\tprintln(func(x int) int {\n\t\treturn b\n\t}(a[i]))\n}\n"))
failing_argument_0_step = refl

abbrev failing_argument_1_f0 : File Span
failing_argument_1_f0 = record { package_name = (nm 8 12 (codes "main")); imports = []; decls = ((fn (at 30 67) None (nm 35 40 (codes "First")) (sig ((param (at 41 49) (Some (nm 41 42 (codes "x"))) (named (at 46 49) None (nm 46 49 (codes "int")))) ∷ (param (at 44 49) (Some (nm 44 45 (codes "y"))) (named (at 46 49) None (nm 46 49 (codes "int")))) ∷ []) ((param (at 51 54) None (named (at 51 54) None (nm 51 54 (codes "int")))) ∷ [])) (at 55 67) (stmt_and (return_ (at 57 65) (expr_and (ident (at 64 65) (codes "y")) no_exprs)) no_stmts)) ∷ (fn (at 69 163) None (nm 74 78 (codes "main")) (sig [] []) (at 81 163) (stmt_and (define (at 84 97) ((nm 84 85 (codes "a")) ∷ []) (expr_and (composite (at 89 97) (slice_type (at 89 94) (named (at 91 94) None (nm 91 94 (codes "int")))) (elem (at 95 96) no_value (plain (int_lit (at 95 96) (codes "1"))) no_elems)) no_exprs)) (stmt_and (define (at 99 105) ((nm 99 100 (codes "i")) ∷ []) (expr_and (int_lit (at 104 105) (codes "0")) no_exprs)) (stmt_and (define (at 107 113) ((nm 107 108 (codes "b")) ∷ []) (expr_and (int_lit (at 112 113) (codes "2")) no_exprs)) (stmt_and (eval (at 115 161) (call (at 115 161) (ident (at 115 122) (codes "println")) (expr_and (call (at 123 160) (func_lit (at 123 154) (sig ((param (at 128 133) (Some (nm 128 129 (codes "x"))) (named (at 130 133) None (nm 130 133 (codes "int")))) ∷ []) ((param (at 135 138) None (named (at 135 138) None (nm 135 138 (codes "int")))) ∷ [])) (at 139 154) (stmt_and (return_ (at 143 151) (expr_and (ident (at 150 151) (codes "b")) no_exprs)) no_stmts)) (expr_and (index (at 155 159) (ident (at 155 156) (codes "a")) (ident (at 157 158) (codes "i"))) no_exprs) Plain) no_exprs) Plain)) no_stmts))))) ∷ []) }

failing_argument_1_f0_read : read_at span_to read_front (lexemes ((tok Keyword 0 7 (codes "package")) ∷ (tok Ident 8 12 (codes "main")) ∷ (tok Inserted 12 12 (codes ";")) ∷ (tok Keyword 30 34 (codes "func")) ∷ (tok Ident 35 40 (codes "First")) ∷ (tok Operator 40 41 (codes "(")) ∷ (tok Ident 41 42 (codes "x")) ∷ (tok Operator 42 43 (codes ",")) ∷ (tok Ident 44 45 (codes "y")) ∷ (tok Ident 46 49 (codes "int")) ∷ (tok Operator 49 50 (codes ")")) ∷ (tok Ident 51 54 (codes "int")) ∷ (tok Operator 55 56 (codes "{")) ∷ (tok Keyword 57 63 (codes "return")) ∷ (tok Ident 64 65 (codes "y")) ∷ (tok Operator 66 67 (codes "}")) ∷ (tok Inserted 67 67 (codes ";")) ∷ (tok Keyword 69 73 (codes "func")) ∷ (tok Ident 74 78 (codes "main")) ∷ (tok Operator 78 79 (codes "(")) ∷ (tok Operator 79 80 (codes ")")) ∷ (tok Operator 81 82 (codes "{")) ∷ (tok Ident 84 85 (codes "a")) ∷ (tok Operator 86 88 (codes ":=")) ∷ (tok Operator 89 90 (codes "[")) ∷ (tok Operator 90 91 (codes "]")) ∷ (tok Ident 91 94 (codes "int")) ∷ (tok Operator 94 95 (codes "{")) ∷ (tok Integer 95 96 (codes "1")) ∷ (tok Operator 96 97 (codes "}")) ∷ (tok Inserted 97 97 (codes ";")) ∷ (tok Ident 99 100 (codes "i")) ∷ (tok Operator 101 103 (codes ":=")) ∷ (tok Integer 104 105 (codes "0")) ∷ (tok Inserted 105 105 (codes ";")) ∷ (tok Ident 107 108 (codes "b")) ∷ (tok Operator 109 111 (codes ":=")) ∷ (tok Integer 112 113 (codes "2")) ∷ (tok Inserted 113 113 (codes ";")) ∷ (tok Ident 115 122 (codes "println")) ∷ (tok Operator 122 123 (codes "(")) ∷ (tok Keyword 123 127 (codes "func")) ∷ (tok Operator 127 128 (codes "(")) ∷ (tok Ident 128 129 (codes "x")) ∷ (tok Ident 130 133 (codes "int")) ∷ (tok Operator 133 134 (codes ")")) ∷ (tok Ident 135 138 (codes "int")) ∷ (tok Operator 139 140 (codes "{")) ∷ (tok Keyword 143 149 (codes "return")) ∷ (tok Ident 150 151 (codes "b")) ∷ (tok Inserted 151 151 (codes ";")) ∷ (tok Operator 153 154 (codes "}")) ∷ (tok Operator 154 155 (codes "(")) ∷ (tok Ident 155 156 (codes "a")) ∷ (tok Operator 156 157 (codes "[")) ∷ (tok Ident 157 158 (codes "i")) ∷ (tok Operator 158 159 (codes "]")) ∷ (tok Operator 159 160 (codes ")")) ∷ (tok Operator 160 161 (codes ")")) ∷ (tok Inserted 161 161 (codes ";")) ∷ (tok Operator 162 163 (codes "}")) ∷ (tok Inserted 163 163 (codes ";")) ∷ [])) ≡ Some (failing_argument_1_f0, [])
unfolding reading
failing_argument_1_f0_read = refl

abbrev failing_argument_1 : Module
failing_argument_1 = record { packages = (pack (codes "example.com/m") (codes "main") (source (codes "main.go") failing_argument_1_f0 ∷ []) ∷ []); marks = (mark 0 0 0 0 ∷ []); texts = (((codes "main.go"), record { text = (codes "package main\n\n//go:fix inline\nfunc First(x, y int) int { return y }\n\nfunc main() {\n\ta := []int{1}\n\ti := 0\n\tb := 2\n\tprintln(func(x int) int {\n\t\treturn b\n\t}(a[i]))\n}\n"); tokens = ((tok Keyword 0 7 (codes "package")) ∷ (tok Ident 8 12 (codes "main")) ∷ (tok Inserted 12 12 (codes ";")) ∷ (tok Keyword 30 34 (codes "func")) ∷ (tok Ident 35 40 (codes "First")) ∷ (tok Operator 40 41 (codes "(")) ∷ (tok Ident 41 42 (codes "x")) ∷ (tok Operator 42 43 (codes ",")) ∷ (tok Ident 44 45 (codes "y")) ∷ (tok Ident 46 49 (codes "int")) ∷ (tok Operator 49 50 (codes ")")) ∷ (tok Ident 51 54 (codes "int")) ∷ (tok Operator 55 56 (codes "{")) ∷ (tok Keyword 57 63 (codes "return")) ∷ (tok Ident 64 65 (codes "y")) ∷ (tok Operator 66 67 (codes "}")) ∷ (tok Inserted 67 67 (codes ";")) ∷ (tok Keyword 69 73 (codes "func")) ∷ (tok Ident 74 78 (codes "main")) ∷ (tok Operator 78 79 (codes "(")) ∷ (tok Operator 79 80 (codes ")")) ∷ (tok Operator 81 82 (codes "{")) ∷ (tok Ident 84 85 (codes "a")) ∷ (tok Operator 86 88 (codes ":=")) ∷ (tok Operator 89 90 (codes "[")) ∷ (tok Operator 90 91 (codes "]")) ∷ (tok Ident 91 94 (codes "int")) ∷ (tok Operator 94 95 (codes "{")) ∷ (tok Integer 95 96 (codes "1")) ∷ (tok Operator 96 97 (codes "}")) ∷ (tok Inserted 97 97 (codes ";")) ∷ (tok Ident 99 100 (codes "i")) ∷ (tok Operator 101 103 (codes ":=")) ∷ (tok Integer 104 105 (codes "0")) ∷ (tok Inserted 105 105 (codes ";")) ∷ (tok Ident 107 108 (codes "b")) ∷ (tok Operator 109 111 (codes ":=")) ∷ (tok Integer 112 113 (codes "2")) ∷ (tok Inserted 113 113 (codes ";")) ∷ (tok Ident 115 122 (codes "println")) ∷ (tok Operator 122 123 (codes "(")) ∷ (tok Keyword 123 127 (codes "func")) ∷ (tok Operator 127 128 (codes "(")) ∷ (tok Ident 128 129 (codes "x")) ∷ (tok Ident 130 133 (codes "int")) ∷ (tok Operator 133 134 (codes ")")) ∷ (tok Ident 135 138 (codes "int")) ∷ (tok Operator 139 140 (codes "{")) ∷ (tok Keyword 143 149 (codes "return")) ∷ (tok Ident 150 151 (codes "b")) ∷ (tok Inserted 151 151 (codes ";")) ∷ (tok Operator 153 154 (codes "}")) ∷ (tok Operator 154 155 (codes "(")) ∷ (tok Ident 155 156 (codes "a")) ∷ (tok Operator 156 157 (codes "[")) ∷ (tok Ident 157 158 (codes "i")) ∷ (tok Operator 158 159 (codes "]")) ∷ (tok Operator 159 160 (codes ")")) ∷ (tok Operator 160 161 (codes ")")) ∷ (tok Inserted 161 161 (codes ";")) ∷ (tok Operator 162 163 (codes "}")) ∷ (tok Inserted 163 163 (codes ";")) ∷ []); comments = ((note 14 29) ∷ []) }) ∷ []) }

failing_argument_1_typed : is_typed failing_argument_1 ≡ true
failing_argument_1_typed = refl

failing_argument_1_ends : step_of failing_argument_1 ≡ None
failing_argument_1_ends = refl

failing_argument_1_kept : kept_uses failing_argument_1 ≡ []
failing_argument_1_kept = refl

-- What acts and is used twice is bound.
abbrev used_twice_0_f0 : File Span
used_twice_0_f0 = record { package_name = (nm 8 12 (codes "main")); imports = []; decls = ((fn (at 30 68) None (nm 35 40 (codes "Twice")) (sig ((param (at 41 46) (Some (nm 41 42 (codes "x"))) (named (at 43 46) None (nm 43 46 (codes "int")))) ∷ []) ((param (at 48 51) None (named (at 48 51) None (nm 48 51 (codes "int")))) ∷ [])) (at 52 68) (stmt_and (return_ (at 54 66) (expr_and (binary (at 61 66) Add (ident (at 61 62) (codes "x")) (ident (at 65 66) (codes "x"))) no_exprs)) no_stmts)) ∷ (fn (at 70 112) None (nm 75 79 (codes "next")) (sig [] ((param (at 82 85) None (named (at 82 85) None (nm 82 85 (codes "int")))) ∷ [])) (at 86 112) (stmt_and (eval (at 88 100) (call (at 88 100) (ident (at 88 95) (codes "println")) (expr_and (str_lit (at 96 99) (codes "\"n\"")) no_exprs) Plain)) (stmt_and (return_ (at 102 110) (expr_and (int_lit (at 109 110) (codes "1")) no_exprs)) no_stmts))) ∷ (fn (at 114 153) None (nm 119 120 (codes "g")) (sig [] ((param (at 123 126) None (named (at 123 126) None (nm 123 126 (codes "int")))) ∷ [])) (at 127 153) (stmt_and (eval (at 129 141) (call (at 129 141) (ident (at 129 136) (codes "println")) (expr_and (str_lit (at 137 140) (codes "\"g\"")) no_exprs) Plain)) (stmt_and (return_ (at 143 151) (expr_and (int_lit (at 150 151) (codes "1")) no_exprs)) no_stmts))) ∷ (fn (at 155 194) None (nm 160 161 (codes "h")) (sig [] ((param (at 164 167) None (named (at 164 167) None (nm 164 167 (codes "int")))) ∷ [])) (at 168 194) (stmt_and (eval (at 170 182) (call (at 170 182) (ident (at 170 177) (codes "println")) (expr_and (str_lit (at 178 181) (codes "\"h\"")) no_exprs) Plain)) (stmt_and (return_ (at 184 192) (expr_and (int_lit (at 191 192) (codes "1")) no_exprs)) no_stmts))) ∷ (fn (at 196 235) None (nm 201 205 (codes "main")) (sig [] []) (at 208 235) (stmt_and (eval (at 211 233) (call (at 211 233) (ident (at 211 218) (codes "println")) (expr_and (call (at 219 232) (ident (at 219 224) (codes "Twice")) (expr_and (call (at 225 231) (ident (at 225 229) (codes "next")) no_exprs Plain) no_exprs) Plain) no_exprs) Plain)) no_stmts)) ∷ []) }

used_twice_0_f0_read : read_at span_to read_front (lexemes ((tok Keyword 0 7 (codes "package")) ∷ (tok Ident 8 12 (codes "main")) ∷ (tok Inserted 12 12 (codes ";")) ∷ (tok Keyword 30 34 (codes "func")) ∷ (tok Ident 35 40 (codes "Twice")) ∷ (tok Operator 40 41 (codes "(")) ∷ (tok Ident 41 42 (codes "x")) ∷ (tok Ident 43 46 (codes "int")) ∷ (tok Operator 46 47 (codes ")")) ∷ (tok Ident 48 51 (codes "int")) ∷ (tok Operator 52 53 (codes "{")) ∷ (tok Keyword 54 60 (codes "return")) ∷ (tok Ident 61 62 (codes "x")) ∷ (tok Operator 63 64 (codes "+")) ∷ (tok Ident 65 66 (codes "x")) ∷ (tok Operator 67 68 (codes "}")) ∷ (tok Inserted 68 68 (codes ";")) ∷ (tok Keyword 70 74 (codes "func")) ∷ (tok Ident 75 79 (codes "next")) ∷ (tok Operator 79 80 (codes "(")) ∷ (tok Operator 80 81 (codes ")")) ∷ (tok Ident 82 85 (codes "int")) ∷ (tok Operator 86 87 (codes "{")) ∷ (tok Ident 88 95 (codes "println")) ∷ (tok Operator 95 96 (codes "(")) ∷ (tok Str 96 99 (codes "\"n\"")) ∷ (tok Operator 99 100 (codes ")")) ∷ (tok Operator 100 101 (codes ";")) ∷ (tok Keyword 102 108 (codes "return")) ∷ (tok Integer 109 110 (codes "1")) ∷ (tok Operator 111 112 (codes "}")) ∷ (tok Inserted 112 112 (codes ";")) ∷ (tok Keyword 114 118 (codes "func")) ∷ (tok Ident 119 120 (codes "g")) ∷ (tok Operator 120 121 (codes "(")) ∷ (tok Operator 121 122 (codes ")")) ∷ (tok Ident 123 126 (codes "int")) ∷ (tok Operator 127 128 (codes "{")) ∷ (tok Ident 129 136 (codes "println")) ∷ (tok Operator 136 137 (codes "(")) ∷ (tok Str 137 140 (codes "\"g\"")) ∷ (tok Operator 140 141 (codes ")")) ∷ (tok Operator 141 142 (codes ";")) ∷ (tok Keyword 143 149 (codes "return")) ∷ (tok Integer 150 151 (codes "1")) ∷ (tok Operator 152 153 (codes "}")) ∷ (tok Inserted 153 153 (codes ";")) ∷ (tok Keyword 155 159 (codes "func")) ∷ (tok Ident 160 161 (codes "h")) ∷ (tok Operator 161 162 (codes "(")) ∷ (tok Operator 162 163 (codes ")")) ∷ (tok Ident 164 167 (codes "int")) ∷ (tok Operator 168 169 (codes "{")) ∷ (tok Ident 170 177 (codes "println")) ∷ (tok Operator 177 178 (codes "(")) ∷ (tok Str 178 181 (codes "\"h\"")) ∷ (tok Operator 181 182 (codes ")")) ∷ (tok Operator 182 183 (codes ";")) ∷ (tok Keyword 184 190 (codes "return")) ∷ (tok Integer 191 192 (codes "1")) ∷ (tok Operator 193 194 (codes "}")) ∷ (tok Inserted 194 194 (codes ";")) ∷ (tok Keyword 196 200 (codes "func")) ∷ (tok Ident 201 205 (codes "main")) ∷ (tok Operator 205 206 (codes "(")) ∷ (tok Operator 206 207 (codes ")")) ∷ (tok Operator 208 209 (codes "{")) ∷ (tok Ident 211 218 (codes "println")) ∷ (tok Operator 218 219 (codes "(")) ∷ (tok Ident 219 224 (codes "Twice")) ∷ (tok Operator 224 225 (codes "(")) ∷ (tok Ident 225 229 (codes "next")) ∷ (tok Operator 229 230 (codes "(")) ∷ (tok Operator 230 231 (codes ")")) ∷ (tok Operator 231 232 (codes ")")) ∷ (tok Operator 232 233 (codes ")")) ∷ (tok Inserted 233 233 (codes ";")) ∷ (tok Operator 234 235 (codes "}")) ∷ (tok Inserted 235 235 (codes ";")) ∷ [])) ≡ Some (used_twice_0_f0, [])
unfolding reading
used_twice_0_f0_read = refl

abbrev used_twice_0 : Module
used_twice_0 = record { packages = (pack (codes "example.com/m") (codes "main") (source (codes "main.go") used_twice_0_f0 ∷ []) ∷ []); marks = (mark 0 0 0 0 ∷ []); texts = (((codes "main.go"), record { text = (codes "package main\n\n//go:fix inline\nfunc Twice(x int) int { return x + x }\n\nfunc next() int { println(\"n\"); return 1 }\n\nfunc g() int { println(\"g\"); return 1 }\n\nfunc h() int { println(\"h\"); return 1 }\n\nfunc main() {\n\tprintln(Twice(next()))\n}\n"); tokens = ((tok Keyword 0 7 (codes "package")) ∷ (tok Ident 8 12 (codes "main")) ∷ (tok Inserted 12 12 (codes ";")) ∷ (tok Keyword 30 34 (codes "func")) ∷ (tok Ident 35 40 (codes "Twice")) ∷ (tok Operator 40 41 (codes "(")) ∷ (tok Ident 41 42 (codes "x")) ∷ (tok Ident 43 46 (codes "int")) ∷ (tok Operator 46 47 (codes ")")) ∷ (tok Ident 48 51 (codes "int")) ∷ (tok Operator 52 53 (codes "{")) ∷ (tok Keyword 54 60 (codes "return")) ∷ (tok Ident 61 62 (codes "x")) ∷ (tok Operator 63 64 (codes "+")) ∷ (tok Ident 65 66 (codes "x")) ∷ (tok Operator 67 68 (codes "}")) ∷ (tok Inserted 68 68 (codes ";")) ∷ (tok Keyword 70 74 (codes "func")) ∷ (tok Ident 75 79 (codes "next")) ∷ (tok Operator 79 80 (codes "(")) ∷ (tok Operator 80 81 (codes ")")) ∷ (tok Ident 82 85 (codes "int")) ∷ (tok Operator 86 87 (codes "{")) ∷ (tok Ident 88 95 (codes "println")) ∷ (tok Operator 95 96 (codes "(")) ∷ (tok Str 96 99 (codes "\"n\"")) ∷ (tok Operator 99 100 (codes ")")) ∷ (tok Operator 100 101 (codes ";")) ∷ (tok Keyword 102 108 (codes "return")) ∷ (tok Integer 109 110 (codes "1")) ∷ (tok Operator 111 112 (codes "}")) ∷ (tok Inserted 112 112 (codes ";")) ∷ (tok Keyword 114 118 (codes "func")) ∷ (tok Ident 119 120 (codes "g")) ∷ (tok Operator 120 121 (codes "(")) ∷ (tok Operator 121 122 (codes ")")) ∷ (tok Ident 123 126 (codes "int")) ∷ (tok Operator 127 128 (codes "{")) ∷ (tok Ident 129 136 (codes "println")) ∷ (tok Operator 136 137 (codes "(")) ∷ (tok Str 137 140 (codes "\"g\"")) ∷ (tok Operator 140 141 (codes ")")) ∷ (tok Operator 141 142 (codes ";")) ∷ (tok Keyword 143 149 (codes "return")) ∷ (tok Integer 150 151 (codes "1")) ∷ (tok Operator 152 153 (codes "}")) ∷ (tok Inserted 153 153 (codes ";")) ∷ (tok Keyword 155 159 (codes "func")) ∷ (tok Ident 160 161 (codes "h")) ∷ (tok Operator 161 162 (codes "(")) ∷ (tok Operator 162 163 (codes ")")) ∷ (tok Ident 164 167 (codes "int")) ∷ (tok Operator 168 169 (codes "{")) ∷ (tok Ident 170 177 (codes "println")) ∷ (tok Operator 177 178 (codes "(")) ∷ (tok Str 178 181 (codes "\"h\"")) ∷ (tok Operator 181 182 (codes ")")) ∷ (tok Operator 182 183 (codes ";")) ∷ (tok Keyword 184 190 (codes "return")) ∷ (tok Integer 191 192 (codes "1")) ∷ (tok Operator 193 194 (codes "}")) ∷ (tok Inserted 194 194 (codes ";")) ∷ (tok Keyword 196 200 (codes "func")) ∷ (tok Ident 201 205 (codes "main")) ∷ (tok Operator 205 206 (codes "(")) ∷ (tok Operator 206 207 (codes ")")) ∷ (tok Operator 208 209 (codes "{")) ∷ (tok Ident 211 218 (codes "println")) ∷ (tok Operator 218 219 (codes "(")) ∷ (tok Ident 219 224 (codes "Twice")) ∷ (tok Operator 224 225 (codes "(")) ∷ (tok Ident 225 229 (codes "next")) ∷ (tok Operator 229 230 (codes "(")) ∷ (tok Operator 230 231 (codes ")")) ∷ (tok Operator 231 232 (codes ")")) ∷ (tok Operator 232 233 (codes ")")) ∷ (tok Inserted 233 233 (codes ";")) ∷ (tok Operator 234 235 (codes "}")) ∷ (tok Inserted 235 235 (codes ";")) ∷ []); comments = ((note 14 29) ∷ []) }) ∷ []) }

used_twice_0_typed : is_typed used_twice_0 ≡ true
used_twice_0_typed = refl

used_twice_0_step : first_change used_twice_0 ≡ Some ((codes "main.go"), LiteralForm, (codes "package main\n\n//go:fix inline\nfunc Twice(x int) int { return x + x }\n\nfunc next() int { println(\"n\"); return 1 }\n\nfunc g() int { println(\"g\"); return 1 }\n\nfunc h() int { println(\"h\"); return 1 }\n\nfunc main() {\n\tprintln(func(x int) int {\n\t\treturn x + x\n\t}(next()))\n}\n"))
used_twice_0_step = refl

abbrev used_twice_1_f0 : File Span
used_twice_1_f0 = record { package_name = (nm 8 12 (codes "main")); imports = []; decls = ((fn (at 30 68) None (nm 35 40 (codes "Twice")) (sig ((param (at 41 46) (Some (nm 41 42 (codes "x"))) (named (at 43 46) None (nm 43 46 (codes "int")))) ∷ []) ((param (at 48 51) None (named (at 48 51) None (nm 48 51 (codes "int")))) ∷ [])) (at 52 68) (stmt_and (return_ (at 54 66) (expr_and (binary (at 61 66) Add (ident (at 61 62) (codes "x")) (ident (at 65 66) (codes "x"))) no_exprs)) no_stmts)) ∷ (fn (at 70 112) None (nm 75 79 (codes "next")) (sig [] ((param (at 82 85) None (named (at 82 85) None (nm 82 85 (codes "int")))) ∷ [])) (at 86 112) (stmt_and (eval (at 88 100) (call (at 88 100) (ident (at 88 95) (codes "println")) (expr_and (str_lit (at 96 99) (codes "\"n\"")) no_exprs) Plain)) (stmt_and (return_ (at 102 110) (expr_and (int_lit (at 109 110) (codes "1")) no_exprs)) no_stmts))) ∷ (fn (at 114 153) None (nm 119 120 (codes "g")) (sig [] ((param (at 123 126) None (named (at 123 126) None (nm 123 126 (codes "int")))) ∷ [])) (at 127 153) (stmt_and (eval (at 129 141) (call (at 129 141) (ident (at 129 136) (codes "println")) (expr_and (str_lit (at 137 140) (codes "\"g\"")) no_exprs) Plain)) (stmt_and (return_ (at 143 151) (expr_and (int_lit (at 150 151) (codes "1")) no_exprs)) no_stmts))) ∷ (fn (at 155 194) None (nm 160 161 (codes "h")) (sig [] ((param (at 164 167) None (named (at 164 167) None (nm 164 167 (codes "int")))) ∷ [])) (at 168 194) (stmt_and (eval (at 170 182) (call (at 170 182) (ident (at 170 177) (codes "println")) (expr_and (str_lit (at 178 181) (codes "\"h\"")) no_exprs) Plain)) (stmt_and (return_ (at 184 192) (expr_and (int_lit (at 191 192) (codes "1")) no_exprs)) no_stmts))) ∷ (fn (at 196 265) None (nm 201 205 (codes "main")) (sig [] []) (at 208 265) (stmt_and (eval (at 211 263) (call (at 211 263) (ident (at 211 218) (codes "println")) (expr_and (call (at 219 262) (func_lit (at 219 254) (sig ((param (at 224 229) (Some (nm 224 225 (codes "x"))) (named (at 226 229) None (nm 226 229 (codes "int")))) ∷ []) ((param (at 231 234) None (named (at 231 234) None (nm 231 234 (codes "int")))) ∷ [])) (at 235 254) (stmt_and (return_ (at 239 251) (expr_and (binary (at 246 251) Add (ident (at 246 247) (codes "x")) (ident (at 250 251) (codes "x"))) no_exprs)) no_stmts)) (expr_and (call (at 255 261) (ident (at 255 259) (codes "next")) no_exprs Plain) no_exprs) Plain) no_exprs) Plain)) no_stmts)) ∷ []) }

used_twice_1_f0_read : read_at span_to read_front (lexemes ((tok Keyword 0 7 (codes "package")) ∷ (tok Ident 8 12 (codes "main")) ∷ (tok Inserted 12 12 (codes ";")) ∷ (tok Keyword 30 34 (codes "func")) ∷ (tok Ident 35 40 (codes "Twice")) ∷ (tok Operator 40 41 (codes "(")) ∷ (tok Ident 41 42 (codes "x")) ∷ (tok Ident 43 46 (codes "int")) ∷ (tok Operator 46 47 (codes ")")) ∷ (tok Ident 48 51 (codes "int")) ∷ (tok Operator 52 53 (codes "{")) ∷ (tok Keyword 54 60 (codes "return")) ∷ (tok Ident 61 62 (codes "x")) ∷ (tok Operator 63 64 (codes "+")) ∷ (tok Ident 65 66 (codes "x")) ∷ (tok Operator 67 68 (codes "}")) ∷ (tok Inserted 68 68 (codes ";")) ∷ (tok Keyword 70 74 (codes "func")) ∷ (tok Ident 75 79 (codes "next")) ∷ (tok Operator 79 80 (codes "(")) ∷ (tok Operator 80 81 (codes ")")) ∷ (tok Ident 82 85 (codes "int")) ∷ (tok Operator 86 87 (codes "{")) ∷ (tok Ident 88 95 (codes "println")) ∷ (tok Operator 95 96 (codes "(")) ∷ (tok Str 96 99 (codes "\"n\"")) ∷ (tok Operator 99 100 (codes ")")) ∷ (tok Operator 100 101 (codes ";")) ∷ (tok Keyword 102 108 (codes "return")) ∷ (tok Integer 109 110 (codes "1")) ∷ (tok Operator 111 112 (codes "}")) ∷ (tok Inserted 112 112 (codes ";")) ∷ (tok Keyword 114 118 (codes "func")) ∷ (tok Ident 119 120 (codes "g")) ∷ (tok Operator 120 121 (codes "(")) ∷ (tok Operator 121 122 (codes ")")) ∷ (tok Ident 123 126 (codes "int")) ∷ (tok Operator 127 128 (codes "{")) ∷ (tok Ident 129 136 (codes "println")) ∷ (tok Operator 136 137 (codes "(")) ∷ (tok Str 137 140 (codes "\"g\"")) ∷ (tok Operator 140 141 (codes ")")) ∷ (tok Operator 141 142 (codes ";")) ∷ (tok Keyword 143 149 (codes "return")) ∷ (tok Integer 150 151 (codes "1")) ∷ (tok Operator 152 153 (codes "}")) ∷ (tok Inserted 153 153 (codes ";")) ∷ (tok Keyword 155 159 (codes "func")) ∷ (tok Ident 160 161 (codes "h")) ∷ (tok Operator 161 162 (codes "(")) ∷ (tok Operator 162 163 (codes ")")) ∷ (tok Ident 164 167 (codes "int")) ∷ (tok Operator 168 169 (codes "{")) ∷ (tok Ident 170 177 (codes "println")) ∷ (tok Operator 177 178 (codes "(")) ∷ (tok Str 178 181 (codes "\"h\"")) ∷ (tok Operator 181 182 (codes ")")) ∷ (tok Operator 182 183 (codes ";")) ∷ (tok Keyword 184 190 (codes "return")) ∷ (tok Integer 191 192 (codes "1")) ∷ (tok Operator 193 194 (codes "}")) ∷ (tok Inserted 194 194 (codes ";")) ∷ (tok Keyword 196 200 (codes "func")) ∷ (tok Ident 201 205 (codes "main")) ∷ (tok Operator 205 206 (codes "(")) ∷ (tok Operator 206 207 (codes ")")) ∷ (tok Operator 208 209 (codes "{")) ∷ (tok Ident 211 218 (codes "println")) ∷ (tok Operator 218 219 (codes "(")) ∷ (tok Keyword 219 223 (codes "func")) ∷ (tok Operator 223 224 (codes "(")) ∷ (tok Ident 224 225 (codes "x")) ∷ (tok Ident 226 229 (codes "int")) ∷ (tok Operator 229 230 (codes ")")) ∷ (tok Ident 231 234 (codes "int")) ∷ (tok Operator 235 236 (codes "{")) ∷ (tok Keyword 239 245 (codes "return")) ∷ (tok Ident 246 247 (codes "x")) ∷ (tok Operator 248 249 (codes "+")) ∷ (tok Ident 250 251 (codes "x")) ∷ (tok Inserted 251 251 (codes ";")) ∷ (tok Operator 253 254 (codes "}")) ∷ (tok Operator 254 255 (codes "(")) ∷ (tok Ident 255 259 (codes "next")) ∷ (tok Operator 259 260 (codes "(")) ∷ (tok Operator 260 261 (codes ")")) ∷ (tok Operator 261 262 (codes ")")) ∷ (tok Operator 262 263 (codes ")")) ∷ (tok Inserted 263 263 (codes ";")) ∷ (tok Operator 264 265 (codes "}")) ∷ (tok Inserted 265 265 (codes ";")) ∷ [])) ≡ Some (used_twice_1_f0, [])
unfolding reading
used_twice_1_f0_read = refl

abbrev used_twice_1 : Module
used_twice_1 = record { packages = (pack (codes "example.com/m") (codes "main") (source (codes "main.go") used_twice_1_f0 ∷ []) ∷ []); marks = (mark 0 0 0 0 ∷ []); texts = (((codes "main.go"), record { text = (codes "package main\n\n//go:fix inline\nfunc Twice(x int) int { return x + x }\n\nfunc next() int { println(\"n\"); return 1 }\n\nfunc g() int { println(\"g\"); return 1 }\n\nfunc h() int { println(\"h\"); return 1 }\n\nfunc main() {\n\tprintln(func(x int) int {\n\t\treturn x + x\n\t}(next()))\n}\n"); tokens = ((tok Keyword 0 7 (codes "package")) ∷ (tok Ident 8 12 (codes "main")) ∷ (tok Inserted 12 12 (codes ";")) ∷ (tok Keyword 30 34 (codes "func")) ∷ (tok Ident 35 40 (codes "Twice")) ∷ (tok Operator 40 41 (codes "(")) ∷ (tok Ident 41 42 (codes "x")) ∷ (tok Ident 43 46 (codes "int")) ∷ (tok Operator 46 47 (codes ")")) ∷ (tok Ident 48 51 (codes "int")) ∷ (tok Operator 52 53 (codes "{")) ∷ (tok Keyword 54 60 (codes "return")) ∷ (tok Ident 61 62 (codes "x")) ∷ (tok Operator 63 64 (codes "+")) ∷ (tok Ident 65 66 (codes "x")) ∷ (tok Operator 67 68 (codes "}")) ∷ (tok Inserted 68 68 (codes ";")) ∷ (tok Keyword 70 74 (codes "func")) ∷ (tok Ident 75 79 (codes "next")) ∷ (tok Operator 79 80 (codes "(")) ∷ (tok Operator 80 81 (codes ")")) ∷ (tok Ident 82 85 (codes "int")) ∷ (tok Operator 86 87 (codes "{")) ∷ (tok Ident 88 95 (codes "println")) ∷ (tok Operator 95 96 (codes "(")) ∷ (tok Str 96 99 (codes "\"n\"")) ∷ (tok Operator 99 100 (codes ")")) ∷ (tok Operator 100 101 (codes ";")) ∷ (tok Keyword 102 108 (codes "return")) ∷ (tok Integer 109 110 (codes "1")) ∷ (tok Operator 111 112 (codes "}")) ∷ (tok Inserted 112 112 (codes ";")) ∷ (tok Keyword 114 118 (codes "func")) ∷ (tok Ident 119 120 (codes "g")) ∷ (tok Operator 120 121 (codes "(")) ∷ (tok Operator 121 122 (codes ")")) ∷ (tok Ident 123 126 (codes "int")) ∷ (tok Operator 127 128 (codes "{")) ∷ (tok Ident 129 136 (codes "println")) ∷ (tok Operator 136 137 (codes "(")) ∷ (tok Str 137 140 (codes "\"g\"")) ∷ (tok Operator 140 141 (codes ")")) ∷ (tok Operator 141 142 (codes ";")) ∷ (tok Keyword 143 149 (codes "return")) ∷ (tok Integer 150 151 (codes "1")) ∷ (tok Operator 152 153 (codes "}")) ∷ (tok Inserted 153 153 (codes ";")) ∷ (tok Keyword 155 159 (codes "func")) ∷ (tok Ident 160 161 (codes "h")) ∷ (tok Operator 161 162 (codes "(")) ∷ (tok Operator 162 163 (codes ")")) ∷ (tok Ident 164 167 (codes "int")) ∷ (tok Operator 168 169 (codes "{")) ∷ (tok Ident 170 177 (codes "println")) ∷ (tok Operator 177 178 (codes "(")) ∷ (tok Str 178 181 (codes "\"h\"")) ∷ (tok Operator 181 182 (codes ")")) ∷ (tok Operator 182 183 (codes ";")) ∷ (tok Keyword 184 190 (codes "return")) ∷ (tok Integer 191 192 (codes "1")) ∷ (tok Operator 193 194 (codes "}")) ∷ (tok Inserted 194 194 (codes ";")) ∷ (tok Keyword 196 200 (codes "func")) ∷ (tok Ident 201 205 (codes "main")) ∷ (tok Operator 205 206 (codes "(")) ∷ (tok Operator 206 207 (codes ")")) ∷ (tok Operator 208 209 (codes "{")) ∷ (tok Ident 211 218 (codes "println")) ∷ (tok Operator 218 219 (codes "(")) ∷ (tok Keyword 219 223 (codes "func")) ∷ (tok Operator 223 224 (codes "(")) ∷ (tok Ident 224 225 (codes "x")) ∷ (tok Ident 226 229 (codes "int")) ∷ (tok Operator 229 230 (codes ")")) ∷ (tok Ident 231 234 (codes "int")) ∷ (tok Operator 235 236 (codes "{")) ∷ (tok Keyword 239 245 (codes "return")) ∷ (tok Ident 246 247 (codes "x")) ∷ (tok Operator 248 249 (codes "+")) ∷ (tok Ident 250 251 (codes "x")) ∷ (tok Inserted 251 251 (codes ";")) ∷ (tok Operator 253 254 (codes "}")) ∷ (tok Operator 254 255 (codes "(")) ∷ (tok Ident 255 259 (codes "next")) ∷ (tok Operator 259 260 (codes "(")) ∷ (tok Operator 260 261 (codes ")")) ∷ (tok Operator 261 262 (codes ")")) ∷ (tok Operator 262 263 (codes ")")) ∷ (tok Inserted 263 263 (codes ";")) ∷ (tok Operator 264 265 (codes "}")) ∷ (tok Inserted 265 265 (codes ";")) ∷ []); comments = ((note 14 29) ∷ []) }) ∷ []) }

used_twice_1_typed : is_typed used_twice_1 ≡ true
used_twice_1_typed = refl

used_twice_1_ends : step_of used_twice_1 ≡ None
used_twice_1_ends = refl

used_twice_1_kept : kept_uses used_twice_1 ≡ []
used_twice_1_kept = refl

-- The order of two arguments that act stays.
abbrev one_before_another_0_f0 : File Span
one_before_another_0_f0 = record { package_name = (nm 8 12 (codes "main")); imports = []; decls = ((fn (at 30 70) None (nm 35 39 (codes "Less")) (sig ((param (at 40 48) (Some (nm 40 41 (codes "a"))) (named (at 45 48) None (nm 45 48 (codes "int")))) ∷ (param (at 43 48) (Some (nm 43 44 (codes "b"))) (named (at 45 48) None (nm 45 48 (codes "int")))) ∷ []) ((param (at 50 53) None (named (at 50 53) None (nm 50 53 (codes "int")))) ∷ [])) (at 54 70) (stmt_and (return_ (at 56 68) (expr_and (binary (at 63 68) Sub (ident (at 63 64) (codes "b")) (ident (at 67 68) (codes "a"))) no_exprs)) no_stmts)) ∷ (fn (at 72 114) None (nm 77 81 (codes "next")) (sig [] ((param (at 84 87) None (named (at 84 87) None (nm 84 87 (codes "int")))) ∷ [])) (at 88 114) (stmt_and (eval (at 90 102) (call (at 90 102) (ident (at 90 97) (codes "println")) (expr_and (str_lit (at 98 101) (codes "\"n\"")) no_exprs) Plain)) (stmt_and (return_ (at 104 112) (expr_and (int_lit (at 111 112) (codes "1")) no_exprs)) no_stmts))) ∷ (fn (at 116 155) None (nm 121 122 (codes "g")) (sig [] ((param (at 125 128) None (named (at 125 128) None (nm 125 128 (codes "int")))) ∷ [])) (at 129 155) (stmt_and (eval (at 131 143) (call (at 131 143) (ident (at 131 138) (codes "println")) (expr_and (str_lit (at 139 142) (codes "\"g\"")) no_exprs) Plain)) (stmt_and (return_ (at 145 153) (expr_and (int_lit (at 152 153) (codes "1")) no_exprs)) no_stmts))) ∷ (fn (at 157 196) None (nm 162 163 (codes "h")) (sig [] ((param (at 166 169) None (named (at 166 169) None (nm 166 169 (codes "int")))) ∷ [])) (at 170 196) (stmt_and (eval (at 172 184) (call (at 172 184) (ident (at 172 179) (codes "println")) (expr_and (str_lit (at 180 183) (codes "\"h\"")) no_exprs) Plain)) (stmt_and (return_ (at 186 194) (expr_and (int_lit (at 193 194) (codes "1")) no_exprs)) no_stmts))) ∷ (fn (at 198 238) None (nm 203 207 (codes "main")) (sig [] []) (at 210 238) (stmt_and (eval (at 213 236) (call (at 213 236) (ident (at 213 220) (codes "println")) (expr_and (call (at 221 235) (ident (at 221 225) (codes "Less")) (expr_and (call (at 226 229) (ident (at 226 227) (codes "g")) no_exprs Plain) (expr_and (call (at 231 234) (ident (at 231 232) (codes "h")) no_exprs Plain) no_exprs)) Plain) no_exprs) Plain)) no_stmts)) ∷ []) }

one_before_another_0_f0_read : read_at span_to read_front (lexemes ((tok Keyword 0 7 (codes "package")) ∷ (tok Ident 8 12 (codes "main")) ∷ (tok Inserted 12 12 (codes ";")) ∷ (tok Keyword 30 34 (codes "func")) ∷ (tok Ident 35 39 (codes "Less")) ∷ (tok Operator 39 40 (codes "(")) ∷ (tok Ident 40 41 (codes "a")) ∷ (tok Operator 41 42 (codes ",")) ∷ (tok Ident 43 44 (codes "b")) ∷ (tok Ident 45 48 (codes "int")) ∷ (tok Operator 48 49 (codes ")")) ∷ (tok Ident 50 53 (codes "int")) ∷ (tok Operator 54 55 (codes "{")) ∷ (tok Keyword 56 62 (codes "return")) ∷ (tok Ident 63 64 (codes "b")) ∷ (tok Operator 65 66 (codes "-")) ∷ (tok Ident 67 68 (codes "a")) ∷ (tok Operator 69 70 (codes "}")) ∷ (tok Inserted 70 70 (codes ";")) ∷ (tok Keyword 72 76 (codes "func")) ∷ (tok Ident 77 81 (codes "next")) ∷ (tok Operator 81 82 (codes "(")) ∷ (tok Operator 82 83 (codes ")")) ∷ (tok Ident 84 87 (codes "int")) ∷ (tok Operator 88 89 (codes "{")) ∷ (tok Ident 90 97 (codes "println")) ∷ (tok Operator 97 98 (codes "(")) ∷ (tok Str 98 101 (codes "\"n\"")) ∷ (tok Operator 101 102 (codes ")")) ∷ (tok Operator 102 103 (codes ";")) ∷ (tok Keyword 104 110 (codes "return")) ∷ (tok Integer 111 112 (codes "1")) ∷ (tok Operator 113 114 (codes "}")) ∷ (tok Inserted 114 114 (codes ";")) ∷ (tok Keyword 116 120 (codes "func")) ∷ (tok Ident 121 122 (codes "g")) ∷ (tok Operator 122 123 (codes "(")) ∷ (tok Operator 123 124 (codes ")")) ∷ (tok Ident 125 128 (codes "int")) ∷ (tok Operator 129 130 (codes "{")) ∷ (tok Ident 131 138 (codes "println")) ∷ (tok Operator 138 139 (codes "(")) ∷ (tok Str 139 142 (codes "\"g\"")) ∷ (tok Operator 142 143 (codes ")")) ∷ (tok Operator 143 144 (codes ";")) ∷ (tok Keyword 145 151 (codes "return")) ∷ (tok Integer 152 153 (codes "1")) ∷ (tok Operator 154 155 (codes "}")) ∷ (tok Inserted 155 155 (codes ";")) ∷ (tok Keyword 157 161 (codes "func")) ∷ (tok Ident 162 163 (codes "h")) ∷ (tok Operator 163 164 (codes "(")) ∷ (tok Operator 164 165 (codes ")")) ∷ (tok Ident 166 169 (codes "int")) ∷ (tok Operator 170 171 (codes "{")) ∷ (tok Ident 172 179 (codes "println")) ∷ (tok Operator 179 180 (codes "(")) ∷ (tok Str 180 183 (codes "\"h\"")) ∷ (tok Operator 183 184 (codes ")")) ∷ (tok Operator 184 185 (codes ";")) ∷ (tok Keyword 186 192 (codes "return")) ∷ (tok Integer 193 194 (codes "1")) ∷ (tok Operator 195 196 (codes "}")) ∷ (tok Inserted 196 196 (codes ";")) ∷ (tok Keyword 198 202 (codes "func")) ∷ (tok Ident 203 207 (codes "main")) ∷ (tok Operator 207 208 (codes "(")) ∷ (tok Operator 208 209 (codes ")")) ∷ (tok Operator 210 211 (codes "{")) ∷ (tok Ident 213 220 (codes "println")) ∷ (tok Operator 220 221 (codes "(")) ∷ (tok Ident 221 225 (codes "Less")) ∷ (tok Operator 225 226 (codes "(")) ∷ (tok Ident 226 227 (codes "g")) ∷ (tok Operator 227 228 (codes "(")) ∷ (tok Operator 228 229 (codes ")")) ∷ (tok Operator 229 230 (codes ",")) ∷ (tok Ident 231 232 (codes "h")) ∷ (tok Operator 232 233 (codes "(")) ∷ (tok Operator 233 234 (codes ")")) ∷ (tok Operator 234 235 (codes ")")) ∷ (tok Operator 235 236 (codes ")")) ∷ (tok Inserted 236 236 (codes ";")) ∷ (tok Operator 237 238 (codes "}")) ∷ (tok Inserted 238 238 (codes ";")) ∷ [])) ≡ Some (one_before_another_0_f0, [])
unfolding reading
one_before_another_0_f0_read = refl

abbrev one_before_another_0 : Module
one_before_another_0 = record { packages = (pack (codes "example.com/m") (codes "main") (source (codes "main.go") one_before_another_0_f0 ∷ []) ∷ []); marks = (mark 0 0 0 0 ∷ []); texts = (((codes "main.go"), record { text = (codes "package main\n\n//go:fix inline\nfunc Less(a, b int) int { return b - a }\n\nfunc next() int { println(\"n\"); return 1 }\n\nfunc g() int { println(\"g\"); return 1 }\n\nfunc h() int { println(\"h\"); return 1 }\n\nfunc main() {\n\tprintln(Less(g(), h()))\n}\n"); tokens = ((tok Keyword 0 7 (codes "package")) ∷ (tok Ident 8 12 (codes "main")) ∷ (tok Inserted 12 12 (codes ";")) ∷ (tok Keyword 30 34 (codes "func")) ∷ (tok Ident 35 39 (codes "Less")) ∷ (tok Operator 39 40 (codes "(")) ∷ (tok Ident 40 41 (codes "a")) ∷ (tok Operator 41 42 (codes ",")) ∷ (tok Ident 43 44 (codes "b")) ∷ (tok Ident 45 48 (codes "int")) ∷ (tok Operator 48 49 (codes ")")) ∷ (tok Ident 50 53 (codes "int")) ∷ (tok Operator 54 55 (codes "{")) ∷ (tok Keyword 56 62 (codes "return")) ∷ (tok Ident 63 64 (codes "b")) ∷ (tok Operator 65 66 (codes "-")) ∷ (tok Ident 67 68 (codes "a")) ∷ (tok Operator 69 70 (codes "}")) ∷ (tok Inserted 70 70 (codes ";")) ∷ (tok Keyword 72 76 (codes "func")) ∷ (tok Ident 77 81 (codes "next")) ∷ (tok Operator 81 82 (codes "(")) ∷ (tok Operator 82 83 (codes ")")) ∷ (tok Ident 84 87 (codes "int")) ∷ (tok Operator 88 89 (codes "{")) ∷ (tok Ident 90 97 (codes "println")) ∷ (tok Operator 97 98 (codes "(")) ∷ (tok Str 98 101 (codes "\"n\"")) ∷ (tok Operator 101 102 (codes ")")) ∷ (tok Operator 102 103 (codes ";")) ∷ (tok Keyword 104 110 (codes "return")) ∷ (tok Integer 111 112 (codes "1")) ∷ (tok Operator 113 114 (codes "}")) ∷ (tok Inserted 114 114 (codes ";")) ∷ (tok Keyword 116 120 (codes "func")) ∷ (tok Ident 121 122 (codes "g")) ∷ (tok Operator 122 123 (codes "(")) ∷ (tok Operator 123 124 (codes ")")) ∷ (tok Ident 125 128 (codes "int")) ∷ (tok Operator 129 130 (codes "{")) ∷ (tok Ident 131 138 (codes "println")) ∷ (tok Operator 138 139 (codes "(")) ∷ (tok Str 139 142 (codes "\"g\"")) ∷ (tok Operator 142 143 (codes ")")) ∷ (tok Operator 143 144 (codes ";")) ∷ (tok Keyword 145 151 (codes "return")) ∷ (tok Integer 152 153 (codes "1")) ∷ (tok Operator 154 155 (codes "}")) ∷ (tok Inserted 155 155 (codes ";")) ∷ (tok Keyword 157 161 (codes "func")) ∷ (tok Ident 162 163 (codes "h")) ∷ (tok Operator 163 164 (codes "(")) ∷ (tok Operator 164 165 (codes ")")) ∷ (tok Ident 166 169 (codes "int")) ∷ (tok Operator 170 171 (codes "{")) ∷ (tok Ident 172 179 (codes "println")) ∷ (tok Operator 179 180 (codes "(")) ∷ (tok Str 180 183 (codes "\"h\"")) ∷ (tok Operator 183 184 (codes ")")) ∷ (tok Operator 184 185 (codes ";")) ∷ (tok Keyword 186 192 (codes "return")) ∷ (tok Integer 193 194 (codes "1")) ∷ (tok Operator 195 196 (codes "}")) ∷ (tok Inserted 196 196 (codes ";")) ∷ (tok Keyword 198 202 (codes "func")) ∷ (tok Ident 203 207 (codes "main")) ∷ (tok Operator 207 208 (codes "(")) ∷ (tok Operator 208 209 (codes ")")) ∷ (tok Operator 210 211 (codes "{")) ∷ (tok Ident 213 220 (codes "println")) ∷ (tok Operator 220 221 (codes "(")) ∷ (tok Ident 221 225 (codes "Less")) ∷ (tok Operator 225 226 (codes "(")) ∷ (tok Ident 226 227 (codes "g")) ∷ (tok Operator 227 228 (codes "(")) ∷ (tok Operator 228 229 (codes ")")) ∷ (tok Operator 229 230 (codes ",")) ∷ (tok Ident 231 232 (codes "h")) ∷ (tok Operator 232 233 (codes "(")) ∷ (tok Operator 233 234 (codes ")")) ∷ (tok Operator 234 235 (codes ")")) ∷ (tok Operator 235 236 (codes ")")) ∷ (tok Inserted 236 236 (codes ";")) ∷ (tok Operator 237 238 (codes "}")) ∷ (tok Inserted 238 238 (codes ";")) ∷ []); comments = ((note 14 29) ∷ []) }) ∷ []) }

one_before_another_0_typed : is_typed one_before_another_0 ≡ true
one_before_another_0_typed = refl

one_before_another_0_step : first_change one_before_another_0 ≡ Some ((codes "main.go"), LiteralForm, (codes "package main\n\n//go:fix inline\nfunc Less(a, b int) int { return b - a }\n\nfunc next() int { println(\"n\"); return 1 }\n\nfunc g() int { println(\"g\"); return 1 }\n\nfunc h() int { println(\"h\"); return 1 }\n\nfunc main() {\n\tprintln(func(a int) int {\n\t\treturn h() - a\n\t}(g()))\n}\n"))
one_before_another_0_step = refl

abbrev one_before_another_1_f0 : File Span
one_before_another_1_f0 = record { package_name = (nm 8 12 (codes "main")); imports = []; decls = ((fn (at 30 70) None (nm 35 39 (codes "Less")) (sig ((param (at 40 48) (Some (nm 40 41 (codes "a"))) (named (at 45 48) None (nm 45 48 (codes "int")))) ∷ (param (at 43 48) (Some (nm 43 44 (codes "b"))) (named (at 45 48) None (nm 45 48 (codes "int")))) ∷ []) ((param (at 50 53) None (named (at 50 53) None (nm 50 53 (codes "int")))) ∷ [])) (at 54 70) (stmt_and (return_ (at 56 68) (expr_and (binary (at 63 68) Sub (ident (at 63 64) (codes "b")) (ident (at 67 68) (codes "a"))) no_exprs)) no_stmts)) ∷ (fn (at 72 114) None (nm 77 81 (codes "next")) (sig [] ((param (at 84 87) None (named (at 84 87) None (nm 84 87 (codes "int")))) ∷ [])) (at 88 114) (stmt_and (eval (at 90 102) (call (at 90 102) (ident (at 90 97) (codes "println")) (expr_and (str_lit (at 98 101) (codes "\"n\"")) no_exprs) Plain)) (stmt_and (return_ (at 104 112) (expr_and (int_lit (at 111 112) (codes "1")) no_exprs)) no_stmts))) ∷ (fn (at 116 155) None (nm 121 122 (codes "g")) (sig [] ((param (at 125 128) None (named (at 125 128) None (nm 125 128 (codes "int")))) ∷ [])) (at 129 155) (stmt_and (eval (at 131 143) (call (at 131 143) (ident (at 131 138) (codes "println")) (expr_and (str_lit (at 139 142) (codes "\"g\"")) no_exprs) Plain)) (stmt_and (return_ (at 145 153) (expr_and (int_lit (at 152 153) (codes "1")) no_exprs)) no_stmts))) ∷ (fn (at 157 196) None (nm 162 163 (codes "h")) (sig [] ((param (at 166 169) None (named (at 166 169) None (nm 166 169 (codes "int")))) ∷ [])) (at 170 196) (stmt_and (eval (at 172 184) (call (at 172 184) (ident (at 172 179) (codes "println")) (expr_and (str_lit (at 180 183) (codes "\"h\"")) no_exprs) Plain)) (stmt_and (return_ (at 186 194) (expr_and (int_lit (at 193 194) (codes "1")) no_exprs)) no_stmts))) ∷ (fn (at 198 266) None (nm 203 207 (codes "main")) (sig [] []) (at 210 266) (stmt_and (eval (at 213 264) (call (at 213 264) (ident (at 213 220) (codes "println")) (expr_and (call (at 221 263) (func_lit (at 221 258) (sig ((param (at 226 231) (Some (nm 226 227 (codes "a"))) (named (at 228 231) None (nm 228 231 (codes "int")))) ∷ []) ((param (at 233 236) None (named (at 233 236) None (nm 233 236 (codes "int")))) ∷ [])) (at 237 258) (stmt_and (return_ (at 241 255) (expr_and (binary (at 248 255) Sub (call (at 248 251) (ident (at 248 249) (codes "h")) no_exprs Plain) (ident (at 254 255) (codes "a"))) no_exprs)) no_stmts)) (expr_and (call (at 259 262) (ident (at 259 260) (codes "g")) no_exprs Plain) no_exprs) Plain) no_exprs) Plain)) no_stmts)) ∷ []) }

one_before_another_1_f0_read : read_at span_to read_front (lexemes ((tok Keyword 0 7 (codes "package")) ∷ (tok Ident 8 12 (codes "main")) ∷ (tok Inserted 12 12 (codes ";")) ∷ (tok Keyword 30 34 (codes "func")) ∷ (tok Ident 35 39 (codes "Less")) ∷ (tok Operator 39 40 (codes "(")) ∷ (tok Ident 40 41 (codes "a")) ∷ (tok Operator 41 42 (codes ",")) ∷ (tok Ident 43 44 (codes "b")) ∷ (tok Ident 45 48 (codes "int")) ∷ (tok Operator 48 49 (codes ")")) ∷ (tok Ident 50 53 (codes "int")) ∷ (tok Operator 54 55 (codes "{")) ∷ (tok Keyword 56 62 (codes "return")) ∷ (tok Ident 63 64 (codes "b")) ∷ (tok Operator 65 66 (codes "-")) ∷ (tok Ident 67 68 (codes "a")) ∷ (tok Operator 69 70 (codes "}")) ∷ (tok Inserted 70 70 (codes ";")) ∷ (tok Keyword 72 76 (codes "func")) ∷ (tok Ident 77 81 (codes "next")) ∷ (tok Operator 81 82 (codes "(")) ∷ (tok Operator 82 83 (codes ")")) ∷ (tok Ident 84 87 (codes "int")) ∷ (tok Operator 88 89 (codes "{")) ∷ (tok Ident 90 97 (codes "println")) ∷ (tok Operator 97 98 (codes "(")) ∷ (tok Str 98 101 (codes "\"n\"")) ∷ (tok Operator 101 102 (codes ")")) ∷ (tok Operator 102 103 (codes ";")) ∷ (tok Keyword 104 110 (codes "return")) ∷ (tok Integer 111 112 (codes "1")) ∷ (tok Operator 113 114 (codes "}")) ∷ (tok Inserted 114 114 (codes ";")) ∷ (tok Keyword 116 120 (codes "func")) ∷ (tok Ident 121 122 (codes "g")) ∷ (tok Operator 122 123 (codes "(")) ∷ (tok Operator 123 124 (codes ")")) ∷ (tok Ident 125 128 (codes "int")) ∷ (tok Operator 129 130 (codes "{")) ∷ (tok Ident 131 138 (codes "println")) ∷ (tok Operator 138 139 (codes "(")) ∷ (tok Str 139 142 (codes "\"g\"")) ∷ (tok Operator 142 143 (codes ")")) ∷ (tok Operator 143 144 (codes ";")) ∷ (tok Keyword 145 151 (codes "return")) ∷ (tok Integer 152 153 (codes "1")) ∷ (tok Operator 154 155 (codes "}")) ∷ (tok Inserted 155 155 (codes ";")) ∷ (tok Keyword 157 161 (codes "func")) ∷ (tok Ident 162 163 (codes "h")) ∷ (tok Operator 163 164 (codes "(")) ∷ (tok Operator 164 165 (codes ")")) ∷ (tok Ident 166 169 (codes "int")) ∷ (tok Operator 170 171 (codes "{")) ∷ (tok Ident 172 179 (codes "println")) ∷ (tok Operator 179 180 (codes "(")) ∷ (tok Str 180 183 (codes "\"h\"")) ∷ (tok Operator 183 184 (codes ")")) ∷ (tok Operator 184 185 (codes ";")) ∷ (tok Keyword 186 192 (codes "return")) ∷ (tok Integer 193 194 (codes "1")) ∷ (tok Operator 195 196 (codes "}")) ∷ (tok Inserted 196 196 (codes ";")) ∷ (tok Keyword 198 202 (codes "func")) ∷ (tok Ident 203 207 (codes "main")) ∷ (tok Operator 207 208 (codes "(")) ∷ (tok Operator 208 209 (codes ")")) ∷ (tok Operator 210 211 (codes "{")) ∷ (tok Ident 213 220 (codes "println")) ∷ (tok Operator 220 221 (codes "(")) ∷ (tok Keyword 221 225 (codes "func")) ∷ (tok Operator 225 226 (codes "(")) ∷ (tok Ident 226 227 (codes "a")) ∷ (tok Ident 228 231 (codes "int")) ∷ (tok Operator 231 232 (codes ")")) ∷ (tok Ident 233 236 (codes "int")) ∷ (tok Operator 237 238 (codes "{")) ∷ (tok Keyword 241 247 (codes "return")) ∷ (tok Ident 248 249 (codes "h")) ∷ (tok Operator 249 250 (codes "(")) ∷ (tok Operator 250 251 (codes ")")) ∷ (tok Operator 252 253 (codes "-")) ∷ (tok Ident 254 255 (codes "a")) ∷ (tok Inserted 255 255 (codes ";")) ∷ (tok Operator 257 258 (codes "}")) ∷ (tok Operator 258 259 (codes "(")) ∷ (tok Ident 259 260 (codes "g")) ∷ (tok Operator 260 261 (codes "(")) ∷ (tok Operator 261 262 (codes ")")) ∷ (tok Operator 262 263 (codes ")")) ∷ (tok Operator 263 264 (codes ")")) ∷ (tok Inserted 264 264 (codes ";")) ∷ (tok Operator 265 266 (codes "}")) ∷ (tok Inserted 266 266 (codes ";")) ∷ [])) ≡ Some (one_before_another_1_f0, [])
unfolding reading
one_before_another_1_f0_read = refl

abbrev one_before_another_1 : Module
one_before_another_1 = record { packages = (pack (codes "example.com/m") (codes "main") (source (codes "main.go") one_before_another_1_f0 ∷ []) ∷ []); marks = (mark 0 0 0 0 ∷ []); texts = (((codes "main.go"), record { text = (codes "package main\n\n//go:fix inline\nfunc Less(a, b int) int { return b - a }\n\nfunc next() int { println(\"n\"); return 1 }\n\nfunc g() int { println(\"g\"); return 1 }\n\nfunc h() int { println(\"h\"); return 1 }\n\nfunc main() {\n\tprintln(func(a int) int {\n\t\treturn h() - a\n\t}(g()))\n}\n"); tokens = ((tok Keyword 0 7 (codes "package")) ∷ (tok Ident 8 12 (codes "main")) ∷ (tok Inserted 12 12 (codes ";")) ∷ (tok Keyword 30 34 (codes "func")) ∷ (tok Ident 35 39 (codes "Less")) ∷ (tok Operator 39 40 (codes "(")) ∷ (tok Ident 40 41 (codes "a")) ∷ (tok Operator 41 42 (codes ",")) ∷ (tok Ident 43 44 (codes "b")) ∷ (tok Ident 45 48 (codes "int")) ∷ (tok Operator 48 49 (codes ")")) ∷ (tok Ident 50 53 (codes "int")) ∷ (tok Operator 54 55 (codes "{")) ∷ (tok Keyword 56 62 (codes "return")) ∷ (tok Ident 63 64 (codes "b")) ∷ (tok Operator 65 66 (codes "-")) ∷ (tok Ident 67 68 (codes "a")) ∷ (tok Operator 69 70 (codes "}")) ∷ (tok Inserted 70 70 (codes ";")) ∷ (tok Keyword 72 76 (codes "func")) ∷ (tok Ident 77 81 (codes "next")) ∷ (tok Operator 81 82 (codes "(")) ∷ (tok Operator 82 83 (codes ")")) ∷ (tok Ident 84 87 (codes "int")) ∷ (tok Operator 88 89 (codes "{")) ∷ (tok Ident 90 97 (codes "println")) ∷ (tok Operator 97 98 (codes "(")) ∷ (tok Str 98 101 (codes "\"n\"")) ∷ (tok Operator 101 102 (codes ")")) ∷ (tok Operator 102 103 (codes ";")) ∷ (tok Keyword 104 110 (codes "return")) ∷ (tok Integer 111 112 (codes "1")) ∷ (tok Operator 113 114 (codes "}")) ∷ (tok Inserted 114 114 (codes ";")) ∷ (tok Keyword 116 120 (codes "func")) ∷ (tok Ident 121 122 (codes "g")) ∷ (tok Operator 122 123 (codes "(")) ∷ (tok Operator 123 124 (codes ")")) ∷ (tok Ident 125 128 (codes "int")) ∷ (tok Operator 129 130 (codes "{")) ∷ (tok Ident 131 138 (codes "println")) ∷ (tok Operator 138 139 (codes "(")) ∷ (tok Str 139 142 (codes "\"g\"")) ∷ (tok Operator 142 143 (codes ")")) ∷ (tok Operator 143 144 (codes ";")) ∷ (tok Keyword 145 151 (codes "return")) ∷ (tok Integer 152 153 (codes "1")) ∷ (tok Operator 154 155 (codes "}")) ∷ (tok Inserted 155 155 (codes ";")) ∷ (tok Keyword 157 161 (codes "func")) ∷ (tok Ident 162 163 (codes "h")) ∷ (tok Operator 163 164 (codes "(")) ∷ (tok Operator 164 165 (codes ")")) ∷ (tok Ident 166 169 (codes "int")) ∷ (tok Operator 170 171 (codes "{")) ∷ (tok Ident 172 179 (codes "println")) ∷ (tok Operator 179 180 (codes "(")) ∷ (tok Str 180 183 (codes "\"h\"")) ∷ (tok Operator 183 184 (codes ")")) ∷ (tok Operator 184 185 (codes ";")) ∷ (tok Keyword 186 192 (codes "return")) ∷ (tok Integer 193 194 (codes "1")) ∷ (tok Operator 195 196 (codes "}")) ∷ (tok Inserted 196 196 (codes ";")) ∷ (tok Keyword 198 202 (codes "func")) ∷ (tok Ident 203 207 (codes "main")) ∷ (tok Operator 207 208 (codes "(")) ∷ (tok Operator 208 209 (codes ")")) ∷ (tok Operator 210 211 (codes "{")) ∷ (tok Ident 213 220 (codes "println")) ∷ (tok Operator 220 221 (codes "(")) ∷ (tok Keyword 221 225 (codes "func")) ∷ (tok Operator 225 226 (codes "(")) ∷ (tok Ident 226 227 (codes "a")) ∷ (tok Ident 228 231 (codes "int")) ∷ (tok Operator 231 232 (codes ")")) ∷ (tok Ident 233 236 (codes "int")) ∷ (tok Operator 237 238 (codes "{")) ∷ (tok Keyword 241 247 (codes "return")) ∷ (tok Ident 248 249 (codes "h")) ∷ (tok Operator 249 250 (codes "(")) ∷ (tok Operator 250 251 (codes ")")) ∷ (tok Operator 252 253 (codes "-")) ∷ (tok Ident 254 255 (codes "a")) ∷ (tok Inserted 255 255 (codes ";")) ∷ (tok Operator 257 258 (codes "}")) ∷ (tok Operator 258 259 (codes "(")) ∷ (tok Ident 259 260 (codes "g")) ∷ (tok Operator 260 261 (codes "(")) ∷ (tok Operator 261 262 (codes ")")) ∷ (tok Operator 262 263 (codes ")")) ∷ (tok Operator 263 264 (codes ")")) ∷ (tok Inserted 264 264 (codes ";")) ∷ (tok Operator 265 266 (codes "}")) ∷ (tok Inserted 266 266 (codes ";")) ∷ []); comments = ((note 14 29) ∷ []) }) ∷ []) }

one_before_another_1_typed : is_typed one_before_another_1 ≡ true
one_before_another_1_typed = refl

one_before_another_1_ends : step_of one_before_another_1 ≡ None
one_before_another_1_ends = refl

one_before_another_1_kept : kept_uses one_before_another_1 ≡ []
one_before_another_1_kept = refl

-- A cycle of marked functions.
abbrev cycle_f0 : File Span
cycle_f0 = record { package_name = (nm 8 12 (codes "main")); imports = []; decls = ((fn (at 30 81) None (nm 35 39 (codes "Even")) (sig ((param (at 40 45) (Some (nm 40 41 (codes "n"))) (named (at 42 45) None (nm 42 45 (codes "int")))) ∷ []) ((param (at 47 51) None (named (at 47 51) None (nm 47 51 (codes "bool")))) ∷ [])) (at 52 81) (stmt_and (return_ (at 54 79) (expr_and (binary (at 61 79) LogOr (binary (at 61 67) Eq (ident (at 61 62) (codes "n")) (int_lit (at 66 67) (codes "0"))) (call (at 71 79) (ident (at 71 74) (codes "Odd")) (expr_and (binary (at 75 78) Sub (ident (at 75 76) (codes "n")) (int_lit (at 77 78) (codes "1"))) no_exprs) Plain)) no_exprs)) no_stmts)) ∷ (fn (at 99 150) None (nm 104 107 (codes "Odd")) (sig ((param (at 108 113) (Some (nm 108 109 (codes "n"))) (named (at 110 113) None (nm 110 113 (codes "int")))) ∷ []) ((param (at 115 119) None (named (at 115 119) None (nm 115 119 (codes "bool")))) ∷ [])) (at 120 150) (stmt_and (return_ (at 122 148) (expr_and (binary (at 129 148) LogAnd (binary (at 129 135) Ne (ident (at 129 130) (codes "n")) (int_lit (at 134 135) (codes "0"))) (call (at 139 148) (ident (at 139 143) (codes "Even")) (expr_and (binary (at 144 147) Sub (ident (at 144 145) (codes "n")) (int_lit (at 146 147) (codes "1"))) no_exprs) Plain)) no_exprs)) no_stmts)) ∷ (fn (at 152 185) None (nm 157 161 (codes "main")) (sig [] []) (at 164 185) (stmt_and (eval (at 167 183) (call (at 167 183) (ident (at 167 174) (codes "println")) (expr_and (call (at 175 182) (ident (at 175 179) (codes "Even")) (expr_and (int_lit (at 180 181) (codes "4")) no_exprs) Plain) no_exprs) Plain)) no_stmts)) ∷ []) }

cycle_f0_read : read_at span_to read_front (lexemes ((tok Keyword 0 7 (codes "package")) ∷ (tok Ident 8 12 (codes "main")) ∷ (tok Inserted 12 12 (codes ";")) ∷ (tok Keyword 30 34 (codes "func")) ∷ (tok Ident 35 39 (codes "Even")) ∷ (tok Operator 39 40 (codes "(")) ∷ (tok Ident 40 41 (codes "n")) ∷ (tok Ident 42 45 (codes "int")) ∷ (tok Operator 45 46 (codes ")")) ∷ (tok Ident 47 51 (codes "bool")) ∷ (tok Operator 52 53 (codes "{")) ∷ (tok Keyword 54 60 (codes "return")) ∷ (tok Ident 61 62 (codes "n")) ∷ (tok Operator 63 65 (codes "==")) ∷ (tok Integer 66 67 (codes "0")) ∷ (tok Operator 68 70 (codes "||")) ∷ (tok Ident 71 74 (codes "Odd")) ∷ (tok Operator 74 75 (codes "(")) ∷ (tok Ident 75 76 (codes "n")) ∷ (tok Operator 76 77 (codes "-")) ∷ (tok Integer 77 78 (codes "1")) ∷ (tok Operator 78 79 (codes ")")) ∷ (tok Operator 80 81 (codes "}")) ∷ (tok Inserted 81 81 (codes ";")) ∷ (tok Keyword 99 103 (codes "func")) ∷ (tok Ident 104 107 (codes "Odd")) ∷ (tok Operator 107 108 (codes "(")) ∷ (tok Ident 108 109 (codes "n")) ∷ (tok Ident 110 113 (codes "int")) ∷ (tok Operator 113 114 (codes ")")) ∷ (tok Ident 115 119 (codes "bool")) ∷ (tok Operator 120 121 (codes "{")) ∷ (tok Keyword 122 128 (codes "return")) ∷ (tok Ident 129 130 (codes "n")) ∷ (tok Operator 131 133 (codes "!=")) ∷ (tok Integer 134 135 (codes "0")) ∷ (tok Operator 136 138 (codes "&&")) ∷ (tok Ident 139 143 (codes "Even")) ∷ (tok Operator 143 144 (codes "(")) ∷ (tok Ident 144 145 (codes "n")) ∷ (tok Operator 145 146 (codes "-")) ∷ (tok Integer 146 147 (codes "1")) ∷ (tok Operator 147 148 (codes ")")) ∷ (tok Operator 149 150 (codes "}")) ∷ (tok Inserted 150 150 (codes ";")) ∷ (tok Keyword 152 156 (codes "func")) ∷ (tok Ident 157 161 (codes "main")) ∷ (tok Operator 161 162 (codes "(")) ∷ (tok Operator 162 163 (codes ")")) ∷ (tok Operator 164 165 (codes "{")) ∷ (tok Ident 167 174 (codes "println")) ∷ (tok Operator 174 175 (codes "(")) ∷ (tok Ident 175 179 (codes "Even")) ∷ (tok Operator 179 180 (codes "(")) ∷ (tok Integer 180 181 (codes "4")) ∷ (tok Operator 181 182 (codes ")")) ∷ (tok Operator 182 183 (codes ")")) ∷ (tok Inserted 183 183 (codes ";")) ∷ (tok Operator 184 185 (codes "}")) ∷ (tok Inserted 185 185 (codes ";")) ∷ [])) ≡ Some (cycle_f0, [])
unfolding reading
cycle_f0_read = refl

abbrev cycle : Module
cycle = record { packages = (pack (codes "example.com/m") (codes "main") (source (codes "main.go") cycle_f0 ∷ []) ∷ []); marks = (mark 0 0 0 0 ∷ mark 0 0 1 0 ∷ []); texts = (((codes "main.go"), record { text = (codes "package main\n\n//go:fix inline\nfunc Even(n int) bool { return n == 0 || Odd(n-1) }\n\n//go:fix inline\nfunc Odd(n int) bool { return n != 0 && Even(n-1) }\n\nfunc main() {\n\tprintln(Even(4))\n}\n"); tokens = ((tok Keyword 0 7 (codes "package")) ∷ (tok Ident 8 12 (codes "main")) ∷ (tok Inserted 12 12 (codes ";")) ∷ (tok Keyword 30 34 (codes "func")) ∷ (tok Ident 35 39 (codes "Even")) ∷ (tok Operator 39 40 (codes "(")) ∷ (tok Ident 40 41 (codes "n")) ∷ (tok Ident 42 45 (codes "int")) ∷ (tok Operator 45 46 (codes ")")) ∷ (tok Ident 47 51 (codes "bool")) ∷ (tok Operator 52 53 (codes "{")) ∷ (tok Keyword 54 60 (codes "return")) ∷ (tok Ident 61 62 (codes "n")) ∷ (tok Operator 63 65 (codes "==")) ∷ (tok Integer 66 67 (codes "0")) ∷ (tok Operator 68 70 (codes "||")) ∷ (tok Ident 71 74 (codes "Odd")) ∷ (tok Operator 74 75 (codes "(")) ∷ (tok Ident 75 76 (codes "n")) ∷ (tok Operator 76 77 (codes "-")) ∷ (tok Integer 77 78 (codes "1")) ∷ (tok Operator 78 79 (codes ")")) ∷ (tok Operator 80 81 (codes "}")) ∷ (tok Inserted 81 81 (codes ";")) ∷ (tok Keyword 99 103 (codes "func")) ∷ (tok Ident 104 107 (codes "Odd")) ∷ (tok Operator 107 108 (codes "(")) ∷ (tok Ident 108 109 (codes "n")) ∷ (tok Ident 110 113 (codes "int")) ∷ (tok Operator 113 114 (codes ")")) ∷ (tok Ident 115 119 (codes "bool")) ∷ (tok Operator 120 121 (codes "{")) ∷ (tok Keyword 122 128 (codes "return")) ∷ (tok Ident 129 130 (codes "n")) ∷ (tok Operator 131 133 (codes "!=")) ∷ (tok Integer 134 135 (codes "0")) ∷ (tok Operator 136 138 (codes "&&")) ∷ (tok Ident 139 143 (codes "Even")) ∷ (tok Operator 143 144 (codes "(")) ∷ (tok Ident 144 145 (codes "n")) ∷ (tok Operator 145 146 (codes "-")) ∷ (tok Integer 146 147 (codes "1")) ∷ (tok Operator 147 148 (codes ")")) ∷ (tok Operator 149 150 (codes "}")) ∷ (tok Inserted 150 150 (codes ";")) ∷ (tok Keyword 152 156 (codes "func")) ∷ (tok Ident 157 161 (codes "main")) ∷ (tok Operator 161 162 (codes "(")) ∷ (tok Operator 162 163 (codes ")")) ∷ (tok Operator 164 165 (codes "{")) ∷ (tok Ident 167 174 (codes "println")) ∷ (tok Operator 174 175 (codes "(")) ∷ (tok Ident 175 179 (codes "Even")) ∷ (tok Operator 179 180 (codes "(")) ∷ (tok Integer 180 181 (codes "4")) ∷ (tok Operator 181 182 (codes ")")) ∷ (tok Operator 182 183 (codes ")")) ∷ (tok Inserted 183 183 (codes ";")) ∷ (tok Operator 184 185 (codes "}")) ∷ (tok Inserted 185 185 (codes ";")) ∷ []); comments = ((note 14 29) ∷ (note 83 98) ∷ []) }) ∷ []) }

cycle_typed : is_typed cycle ≡ true
cycle_typed = refl

cycle_ends : step_of cycle ≡ None
cycle_ends = refl

cycle_kept : kept_uses cycle ≡ (((codes "main.go"), 71, Some Recursive) ∷ ((codes "main.go"), 139, Some Recursive) ∷ ((codes "main.go"), 175, Some Recursive) ∷ [])
cycle_kept = refl

-- A deferred call.
abbrev deferred_call_0_f0 : File Span
deferred_call_0_f0 = record { package_name = (nm 8 12 (codes "main")); imports = []; decls = ((fn (at 30 72) None (nm 35 40 (codes "Close")) (sig ((param (at 41 46) (Some (nm 41 42 (codes "n"))) (named (at 43 46) None (nm 43 46 (codes "int")))) ∷ []) []) (at 48 72) (stmt_and (eval (at 50 70) (call (at 50 70) (ident (at 50 57) (codes "println")) (expr_and (str_lit (at 58 66) (codes "\"closed\"")) (expr_and (ident (at 68 69) (codes "n")) no_exprs)) Plain)) no_stmts)) ∷ (fn (at 74 113) None (nm 79 83 (codes "main")) (sig [] []) (at 86 113) (stmt_and (define (at 89 95) ((nm 89 90 (codes "v")) ∷ []) (expr_and (int_lit (at 94 95) (codes "1")) no_exprs)) (stmt_and (defer (at 97 111) (call (at 103 111) (ident (at 103 108) (codes "Close")) (expr_and (ident (at 109 110) (codes "v")) no_exprs) Plain)) no_stmts))) ∷ []) }

deferred_call_0_f0_read : read_at span_to read_front (lexemes ((tok Keyword 0 7 (codes "package")) ∷ (tok Ident 8 12 (codes "main")) ∷ (tok Inserted 12 12 (codes ";")) ∷ (tok Keyword 30 34 (codes "func")) ∷ (tok Ident 35 40 (codes "Close")) ∷ (tok Operator 40 41 (codes "(")) ∷ (tok Ident 41 42 (codes "n")) ∷ (tok Ident 43 46 (codes "int")) ∷ (tok Operator 46 47 (codes ")")) ∷ (tok Operator 48 49 (codes "{")) ∷ (tok Ident 50 57 (codes "println")) ∷ (tok Operator 57 58 (codes "(")) ∷ (tok Str 58 66 (codes "\"closed\"")) ∷ (tok Operator 66 67 (codes ",")) ∷ (tok Ident 68 69 (codes "n")) ∷ (tok Operator 69 70 (codes ")")) ∷ (tok Operator 71 72 (codes "}")) ∷ (tok Inserted 72 72 (codes ";")) ∷ (tok Keyword 74 78 (codes "func")) ∷ (tok Ident 79 83 (codes "main")) ∷ (tok Operator 83 84 (codes "(")) ∷ (tok Operator 84 85 (codes ")")) ∷ (tok Operator 86 87 (codes "{")) ∷ (tok Ident 89 90 (codes "v")) ∷ (tok Operator 91 93 (codes ":=")) ∷ (tok Integer 94 95 (codes "1")) ∷ (tok Inserted 95 95 (codes ";")) ∷ (tok Keyword 97 102 (codes "defer")) ∷ (tok Ident 103 108 (codes "Close")) ∷ (tok Operator 108 109 (codes "(")) ∷ (tok Ident 109 110 (codes "v")) ∷ (tok Operator 110 111 (codes ")")) ∷ (tok Inserted 111 111 (codes ";")) ∷ (tok Operator 112 113 (codes "}")) ∷ (tok Inserted 113 113 (codes ";")) ∷ [])) ≡ Some (deferred_call_0_f0, [])
unfolding reading
deferred_call_0_f0_read = refl

abbrev deferred_call_0 : Module
deferred_call_0 = record { packages = (pack (codes "example.com/m") (codes "main") (source (codes "main.go") deferred_call_0_f0 ∷ []) ∷ []); marks = (mark 0 0 0 0 ∷ []); texts = (((codes "main.go"), record { text = (codes "package main\n\n//go:fix inline\nfunc Close(n int) { println(\"closed\", n) }\n\nfunc main() {\n\tv := 1\n\tdefer Close(v)\n}\n"); tokens = ((tok Keyword 0 7 (codes "package")) ∷ (tok Ident 8 12 (codes "main")) ∷ (tok Inserted 12 12 (codes ";")) ∷ (tok Keyword 30 34 (codes "func")) ∷ (tok Ident 35 40 (codes "Close")) ∷ (tok Operator 40 41 (codes "(")) ∷ (tok Ident 41 42 (codes "n")) ∷ (tok Ident 43 46 (codes "int")) ∷ (tok Operator 46 47 (codes ")")) ∷ (tok Operator 48 49 (codes "{")) ∷ (tok Ident 50 57 (codes "println")) ∷ (tok Operator 57 58 (codes "(")) ∷ (tok Str 58 66 (codes "\"closed\"")) ∷ (tok Operator 66 67 (codes ",")) ∷ (tok Ident 68 69 (codes "n")) ∷ (tok Operator 69 70 (codes ")")) ∷ (tok Operator 71 72 (codes "}")) ∷ (tok Inserted 72 72 (codes ";")) ∷ (tok Keyword 74 78 (codes "func")) ∷ (tok Ident 79 83 (codes "main")) ∷ (tok Operator 83 84 (codes "(")) ∷ (tok Operator 84 85 (codes ")")) ∷ (tok Operator 86 87 (codes "{")) ∷ (tok Ident 89 90 (codes "v")) ∷ (tok Operator 91 93 (codes ":=")) ∷ (tok Integer 94 95 (codes "1")) ∷ (tok Inserted 95 95 (codes ";")) ∷ (tok Keyword 97 102 (codes "defer")) ∷ (tok Ident 103 108 (codes "Close")) ∷ (tok Operator 108 109 (codes "(")) ∷ (tok Ident 109 110 (codes "v")) ∷ (tok Operator 110 111 (codes ")")) ∷ (tok Inserted 111 111 (codes ";")) ∷ (tok Operator 112 113 (codes "}")) ∷ (tok Inserted 113 113 (codes ";")) ∷ []); comments = ((note 14 29) ∷ []) }) ∷ []) }

deferred_call_0_typed : is_typed deferred_call_0 ≡ true
deferred_call_0_typed = refl

deferred_call_0_step : first_change deferred_call_0 ≡ Some ((codes "main.go"), LiteralForm, (codes "package main\n\n//go:fix inline\nfunc Close(n int) { println(\"closed\", n) }\n\nfunc main() {\n\tv := 1\n\tdefer func(n int) {\n\t\tprintln(\"closed\", n)\n\t}(v)\n}\n"))
deferred_call_0_step = refl

abbrev deferred_call_1_f0 : File Span
deferred_call_1_f0 = record { package_name = (nm 8 12 (codes "main")); imports = []; decls = ((fn (at 30 72) None (nm 35 40 (codes "Close")) (sig ((param (at 41 46) (Some (nm 41 42 (codes "n"))) (named (at 43 46) None (nm 43 46 (codes "int")))) ∷ []) []) (at 48 72) (stmt_and (eval (at 50 70) (call (at 50 70) (ident (at 50 57) (codes "println")) (expr_and (str_lit (at 58 66) (codes "\"closed\"")) (expr_and (ident (at 68 69) (codes "n")) no_exprs)) Plain)) no_stmts)) ∷ (fn (at 74 147) None (nm 79 83 (codes "main")) (sig [] []) (at 86 147) (stmt_and (define (at 89 95) ((nm 89 90 (codes "v")) ∷ []) (expr_and (int_lit (at 94 95) (codes "1")) no_exprs)) (stmt_and (defer (at 97 145) (call (at 103 145) (func_lit (at 103 142) (sig ((param (at 108 113) (Some (nm 108 109 (codes "n"))) (named (at 110 113) None (nm 110 113 (codes "int")))) ∷ []) []) (at 115 142) (stmt_and (eval (at 119 139) (call (at 119 139) (ident (at 119 126) (codes "println")) (expr_and (str_lit (at 127 135) (codes "\"closed\"")) (expr_and (ident (at 137 138) (codes "n")) no_exprs)) Plain)) no_stmts)) (expr_and (ident (at 143 144) (codes "v")) no_exprs) Plain)) no_stmts))) ∷ []) }

deferred_call_1_f0_read : read_at span_to read_front (lexemes ((tok Keyword 0 7 (codes "package")) ∷ (tok Ident 8 12 (codes "main")) ∷ (tok Inserted 12 12 (codes ";")) ∷ (tok Keyword 30 34 (codes "func")) ∷ (tok Ident 35 40 (codes "Close")) ∷ (tok Operator 40 41 (codes "(")) ∷ (tok Ident 41 42 (codes "n")) ∷ (tok Ident 43 46 (codes "int")) ∷ (tok Operator 46 47 (codes ")")) ∷ (tok Operator 48 49 (codes "{")) ∷ (tok Ident 50 57 (codes "println")) ∷ (tok Operator 57 58 (codes "(")) ∷ (tok Str 58 66 (codes "\"closed\"")) ∷ (tok Operator 66 67 (codes ",")) ∷ (tok Ident 68 69 (codes "n")) ∷ (tok Operator 69 70 (codes ")")) ∷ (tok Operator 71 72 (codes "}")) ∷ (tok Inserted 72 72 (codes ";")) ∷ (tok Keyword 74 78 (codes "func")) ∷ (tok Ident 79 83 (codes "main")) ∷ (tok Operator 83 84 (codes "(")) ∷ (tok Operator 84 85 (codes ")")) ∷ (tok Operator 86 87 (codes "{")) ∷ (tok Ident 89 90 (codes "v")) ∷ (tok Operator 91 93 (codes ":=")) ∷ (tok Integer 94 95 (codes "1")) ∷ (tok Inserted 95 95 (codes ";")) ∷ (tok Keyword 97 102 (codes "defer")) ∷ (tok Keyword 103 107 (codes "func")) ∷ (tok Operator 107 108 (codes "(")) ∷ (tok Ident 108 109 (codes "n")) ∷ (tok Ident 110 113 (codes "int")) ∷ (tok Operator 113 114 (codes ")")) ∷ (tok Operator 115 116 (codes "{")) ∷ (tok Ident 119 126 (codes "println")) ∷ (tok Operator 126 127 (codes "(")) ∷ (tok Str 127 135 (codes "\"closed\"")) ∷ (tok Operator 135 136 (codes ",")) ∷ (tok Ident 137 138 (codes "n")) ∷ (tok Operator 138 139 (codes ")")) ∷ (tok Inserted 139 139 (codes ";")) ∷ (tok Operator 141 142 (codes "}")) ∷ (tok Operator 142 143 (codes "(")) ∷ (tok Ident 143 144 (codes "v")) ∷ (tok Operator 144 145 (codes ")")) ∷ (tok Inserted 145 145 (codes ";")) ∷ (tok Operator 146 147 (codes "}")) ∷ (tok Inserted 147 147 (codes ";")) ∷ [])) ≡ Some (deferred_call_1_f0, [])
unfolding reading
deferred_call_1_f0_read = refl

abbrev deferred_call_1 : Module
deferred_call_1 = record { packages = (pack (codes "example.com/m") (codes "main") (source (codes "main.go") deferred_call_1_f0 ∷ []) ∷ []); marks = (mark 0 0 0 0 ∷ []); texts = (((codes "main.go"), record { text = (codes "package main\n\n//go:fix inline\nfunc Close(n int) { println(\"closed\", n) }\n\nfunc main() {\n\tv := 1\n\tdefer func(n int) {\n\t\tprintln(\"closed\", n)\n\t}(v)\n}\n"); tokens = ((tok Keyword 0 7 (codes "package")) ∷ (tok Ident 8 12 (codes "main")) ∷ (tok Inserted 12 12 (codes ";")) ∷ (tok Keyword 30 34 (codes "func")) ∷ (tok Ident 35 40 (codes "Close")) ∷ (tok Operator 40 41 (codes "(")) ∷ (tok Ident 41 42 (codes "n")) ∷ (tok Ident 43 46 (codes "int")) ∷ (tok Operator 46 47 (codes ")")) ∷ (tok Operator 48 49 (codes "{")) ∷ (tok Ident 50 57 (codes "println")) ∷ (tok Operator 57 58 (codes "(")) ∷ (tok Str 58 66 (codes "\"closed\"")) ∷ (tok Operator 66 67 (codes ",")) ∷ (tok Ident 68 69 (codes "n")) ∷ (tok Operator 69 70 (codes ")")) ∷ (tok Operator 71 72 (codes "}")) ∷ (tok Inserted 72 72 (codes ";")) ∷ (tok Keyword 74 78 (codes "func")) ∷ (tok Ident 79 83 (codes "main")) ∷ (tok Operator 83 84 (codes "(")) ∷ (tok Operator 84 85 (codes ")")) ∷ (tok Operator 86 87 (codes "{")) ∷ (tok Ident 89 90 (codes "v")) ∷ (tok Operator 91 93 (codes ":=")) ∷ (tok Integer 94 95 (codes "1")) ∷ (tok Inserted 95 95 (codes ";")) ∷ (tok Keyword 97 102 (codes "defer")) ∷ (tok Keyword 103 107 (codes "func")) ∷ (tok Operator 107 108 (codes "(")) ∷ (tok Ident 108 109 (codes "n")) ∷ (tok Ident 110 113 (codes "int")) ∷ (tok Operator 113 114 (codes ")")) ∷ (tok Operator 115 116 (codes "{")) ∷ (tok Ident 119 126 (codes "println")) ∷ (tok Operator 126 127 (codes "(")) ∷ (tok Str 127 135 (codes "\"closed\"")) ∷ (tok Operator 135 136 (codes ",")) ∷ (tok Ident 137 138 (codes "n")) ∷ (tok Operator 138 139 (codes ")")) ∷ (tok Inserted 139 139 (codes ";")) ∷ (tok Operator 141 142 (codes "}")) ∷ (tok Operator 142 143 (codes "(")) ∷ (tok Ident 143 144 (codes "v")) ∷ (tok Operator 144 145 (codes ")")) ∷ (tok Inserted 145 145 (codes ";")) ∷ (tok Operator 146 147 (codes "}")) ∷ (tok Inserted 147 147 (codes ";")) ∷ []); comments = ((note 14 29) ∷ []) }) ∷ []) }

deferred_call_1_typed : is_typed deferred_call_1 ≡ true
deferred_call_1_typed = refl

deferred_call_1_ends : step_of deferred_call_1 ≡ None
deferred_call_1_ends = refl

deferred_call_1_kept : kept_uses deferred_call_1 ≡ []
deferred_call_1_kept = refl

-- A call that leads into a cycle is replaced, and the same functions lie on one.
abbrev cycle_reached_0_f0 : File Span
cycle_reached_0_f0 = record { package_name = (nm 8 12 (codes "main")); imports = []; decls = ((fn (at 30 81) None (nm 35 39 (codes "Even")) (sig ((param (at 40 45) (Some (nm 40 41 (codes "n"))) (named (at 42 45) None (nm 42 45 (codes "int")))) ∷ []) ((param (at 47 51) None (named (at 47 51) None (nm 47 51 (codes "bool")))) ∷ [])) (at 52 81) (stmt_and (return_ (at 54 79) (expr_and (binary (at 61 79) LogOr (binary (at 61 67) Eq (ident (at 61 62) (codes "n")) (int_lit (at 66 67) (codes "0"))) (call (at 71 79) (ident (at 71 74) (codes "Odd")) (expr_and (binary (at 75 78) Sub (ident (at 75 76) (codes "n")) (int_lit (at 77 78) (codes "1"))) no_exprs) Plain)) no_exprs)) no_stmts)) ∷ (fn (at 99 150) None (nm 104 107 (codes "Odd")) (sig ((param (at 108 113) (Some (nm 108 109 (codes "n"))) (named (at 110 113) None (nm 110 113 (codes "int")))) ∷ []) ((param (at 115 119) None (named (at 115 119) None (nm 115 119 (codes "bool")))) ∷ [])) (at 120 150) (stmt_and (return_ (at 122 148) (expr_and (binary (at 129 148) LogAnd (binary (at 129 135) Ne (ident (at 129 130) (codes "n")) (int_lit (at 134 135) (codes "0"))) (call (at 139 148) (ident (at 139 143) (codes "Even")) (expr_and (binary (at 144 147) Sub (ident (at 144 145) (codes "n")) (int_lit (at 146 147) (codes "1"))) no_exprs) Plain)) no_exprs)) no_stmts)) ∷ (fn (at 168 208) None (nm 173 177 (codes "Zero")) (sig ((param (at 178 183) (Some (nm 178 179 (codes "n"))) (named (at 180 183) None (nm 180 183 (codes "int")))) ∷ []) ((param (at 185 189) None (named (at 185 189) None (nm 185 189 (codes "bool")))) ∷ [])) (at 190 208) (stmt_and (return_ (at 192 206) (expr_and (call (at 199 206) (ident (at 199 203) (codes "Even")) (expr_and (ident (at 204 205) (codes "n")) no_exprs) Plain) no_exprs)) no_stmts)) ∷ (fn (at 210 243) None (nm 215 219 (codes "main")) (sig [] []) (at 222 243) (stmt_and (eval (at 225 241) (call (at 225 241) (ident (at 225 232) (codes "println")) (expr_and (call (at 233 240) (ident (at 233 237) (codes "Zero")) (expr_and (int_lit (at 238 239) (codes "4")) no_exprs) Plain) no_exprs) Plain)) no_stmts)) ∷ []) }

cycle_reached_0_f0_read : read_at span_to read_front (lexemes ((tok Keyword 0 7 (codes "package")) ∷ (tok Ident 8 12 (codes "main")) ∷ (tok Inserted 12 12 (codes ";")) ∷ (tok Keyword 30 34 (codes "func")) ∷ (tok Ident 35 39 (codes "Even")) ∷ (tok Operator 39 40 (codes "(")) ∷ (tok Ident 40 41 (codes "n")) ∷ (tok Ident 42 45 (codes "int")) ∷ (tok Operator 45 46 (codes ")")) ∷ (tok Ident 47 51 (codes "bool")) ∷ (tok Operator 52 53 (codes "{")) ∷ (tok Keyword 54 60 (codes "return")) ∷ (tok Ident 61 62 (codes "n")) ∷ (tok Operator 63 65 (codes "==")) ∷ (tok Integer 66 67 (codes "0")) ∷ (tok Operator 68 70 (codes "||")) ∷ (tok Ident 71 74 (codes "Odd")) ∷ (tok Operator 74 75 (codes "(")) ∷ (tok Ident 75 76 (codes "n")) ∷ (tok Operator 76 77 (codes "-")) ∷ (tok Integer 77 78 (codes "1")) ∷ (tok Operator 78 79 (codes ")")) ∷ (tok Operator 80 81 (codes "}")) ∷ (tok Inserted 81 81 (codes ";")) ∷ (tok Keyword 99 103 (codes "func")) ∷ (tok Ident 104 107 (codes "Odd")) ∷ (tok Operator 107 108 (codes "(")) ∷ (tok Ident 108 109 (codes "n")) ∷ (tok Ident 110 113 (codes "int")) ∷ (tok Operator 113 114 (codes ")")) ∷ (tok Ident 115 119 (codes "bool")) ∷ (tok Operator 120 121 (codes "{")) ∷ (tok Keyword 122 128 (codes "return")) ∷ (tok Ident 129 130 (codes "n")) ∷ (tok Operator 131 133 (codes "!=")) ∷ (tok Integer 134 135 (codes "0")) ∷ (tok Operator 136 138 (codes "&&")) ∷ (tok Ident 139 143 (codes "Even")) ∷ (tok Operator 143 144 (codes "(")) ∷ (tok Ident 144 145 (codes "n")) ∷ (tok Operator 145 146 (codes "-")) ∷ (tok Integer 146 147 (codes "1")) ∷ (tok Operator 147 148 (codes ")")) ∷ (tok Operator 149 150 (codes "}")) ∷ (tok Inserted 150 150 (codes ";")) ∷ (tok Keyword 168 172 (codes "func")) ∷ (tok Ident 173 177 (codes "Zero")) ∷ (tok Operator 177 178 (codes "(")) ∷ (tok Ident 178 179 (codes "n")) ∷ (tok Ident 180 183 (codes "int")) ∷ (tok Operator 183 184 (codes ")")) ∷ (tok Ident 185 189 (codes "bool")) ∷ (tok Operator 190 191 (codes "{")) ∷ (tok Keyword 192 198 (codes "return")) ∷ (tok Ident 199 203 (codes "Even")) ∷ (tok Operator 203 204 (codes "(")) ∷ (tok Ident 204 205 (codes "n")) ∷ (tok Operator 205 206 (codes ")")) ∷ (tok Operator 207 208 (codes "}")) ∷ (tok Inserted 208 208 (codes ";")) ∷ (tok Keyword 210 214 (codes "func")) ∷ (tok Ident 215 219 (codes "main")) ∷ (tok Operator 219 220 (codes "(")) ∷ (tok Operator 220 221 (codes ")")) ∷ (tok Operator 222 223 (codes "{")) ∷ (tok Ident 225 232 (codes "println")) ∷ (tok Operator 232 233 (codes "(")) ∷ (tok Ident 233 237 (codes "Zero")) ∷ (tok Operator 237 238 (codes "(")) ∷ (tok Integer 238 239 (codes "4")) ∷ (tok Operator 239 240 (codes ")")) ∷ (tok Operator 240 241 (codes ")")) ∷ (tok Inserted 241 241 (codes ";")) ∷ (tok Operator 242 243 (codes "}")) ∷ (tok Inserted 243 243 (codes ";")) ∷ [])) ≡ Some (cycle_reached_0_f0, [])
unfolding reading
cycle_reached_0_f0_read = refl

abbrev cycle_reached_0 : Module
cycle_reached_0 = record { packages = (pack (codes "example.com/m") (codes "main") (source (codes "main.go") cycle_reached_0_f0 ∷ []) ∷ []); marks = (mark 0 0 0 0 ∷ mark 0 0 1 0 ∷ mark 0 0 2 0 ∷ []); texts = (((codes "main.go"), record { text = (codes "package main\n\n//go:fix inline\nfunc Even(n int) bool { return n == 0 || Odd(n-1) }\n\n//go:fix inline\nfunc Odd(n int) bool { return n != 0 && Even(n-1) }\n\n//go:fix inline\nfunc Zero(n int) bool { return Even(n) }\n\nfunc main() {\n\tprintln(Zero(4))\n}\n"); tokens = ((tok Keyword 0 7 (codes "package")) ∷ (tok Ident 8 12 (codes "main")) ∷ (tok Inserted 12 12 (codes ";")) ∷ (tok Keyword 30 34 (codes "func")) ∷ (tok Ident 35 39 (codes "Even")) ∷ (tok Operator 39 40 (codes "(")) ∷ (tok Ident 40 41 (codes "n")) ∷ (tok Ident 42 45 (codes "int")) ∷ (tok Operator 45 46 (codes ")")) ∷ (tok Ident 47 51 (codes "bool")) ∷ (tok Operator 52 53 (codes "{")) ∷ (tok Keyword 54 60 (codes "return")) ∷ (tok Ident 61 62 (codes "n")) ∷ (tok Operator 63 65 (codes "==")) ∷ (tok Integer 66 67 (codes "0")) ∷ (tok Operator 68 70 (codes "||")) ∷ (tok Ident 71 74 (codes "Odd")) ∷ (tok Operator 74 75 (codes "(")) ∷ (tok Ident 75 76 (codes "n")) ∷ (tok Operator 76 77 (codes "-")) ∷ (tok Integer 77 78 (codes "1")) ∷ (tok Operator 78 79 (codes ")")) ∷ (tok Operator 80 81 (codes "}")) ∷ (tok Inserted 81 81 (codes ";")) ∷ (tok Keyword 99 103 (codes "func")) ∷ (tok Ident 104 107 (codes "Odd")) ∷ (tok Operator 107 108 (codes "(")) ∷ (tok Ident 108 109 (codes "n")) ∷ (tok Ident 110 113 (codes "int")) ∷ (tok Operator 113 114 (codes ")")) ∷ (tok Ident 115 119 (codes "bool")) ∷ (tok Operator 120 121 (codes "{")) ∷ (tok Keyword 122 128 (codes "return")) ∷ (tok Ident 129 130 (codes "n")) ∷ (tok Operator 131 133 (codes "!=")) ∷ (tok Integer 134 135 (codes "0")) ∷ (tok Operator 136 138 (codes "&&")) ∷ (tok Ident 139 143 (codes "Even")) ∷ (tok Operator 143 144 (codes "(")) ∷ (tok Ident 144 145 (codes "n")) ∷ (tok Operator 145 146 (codes "-")) ∷ (tok Integer 146 147 (codes "1")) ∷ (tok Operator 147 148 (codes ")")) ∷ (tok Operator 149 150 (codes "}")) ∷ (tok Inserted 150 150 (codes ";")) ∷ (tok Keyword 168 172 (codes "func")) ∷ (tok Ident 173 177 (codes "Zero")) ∷ (tok Operator 177 178 (codes "(")) ∷ (tok Ident 178 179 (codes "n")) ∷ (tok Ident 180 183 (codes "int")) ∷ (tok Operator 183 184 (codes ")")) ∷ (tok Ident 185 189 (codes "bool")) ∷ (tok Operator 190 191 (codes "{")) ∷ (tok Keyword 192 198 (codes "return")) ∷ (tok Ident 199 203 (codes "Even")) ∷ (tok Operator 203 204 (codes "(")) ∷ (tok Ident 204 205 (codes "n")) ∷ (tok Operator 205 206 (codes ")")) ∷ (tok Operator 207 208 (codes "}")) ∷ (tok Inserted 208 208 (codes ";")) ∷ (tok Keyword 210 214 (codes "func")) ∷ (tok Ident 215 219 (codes "main")) ∷ (tok Operator 219 220 (codes "(")) ∷ (tok Operator 220 221 (codes ")")) ∷ (tok Operator 222 223 (codes "{")) ∷ (tok Ident 225 232 (codes "println")) ∷ (tok Operator 232 233 (codes "(")) ∷ (tok Ident 233 237 (codes "Zero")) ∷ (tok Operator 237 238 (codes "(")) ∷ (tok Integer 238 239 (codes "4")) ∷ (tok Operator 239 240 (codes ")")) ∷ (tok Operator 240 241 (codes ")")) ∷ (tok Inserted 241 241 (codes ";")) ∷ (tok Operator 242 243 (codes "}")) ∷ (tok Inserted 243 243 (codes ";")) ∷ []); comments = ((note 14 29) ∷ (note 83 98) ∷ (note 152 167) ∷ []) }) ∷ []) }

cycle_reached_0_typed : is_typed cycle_reached_0 ≡ true
cycle_reached_0_typed = refl

cycle_reached_0_step : first_change cycle_reached_0 ≡ Some ((codes "main.go"), ExprForm, (codes "package main\n\n//go:fix inline\nfunc Even(n int) bool { return n == 0 || Odd(n-1) }\n\n//go:fix inline\nfunc Odd(n int) bool { return n != 0 && Even(n-1) }\n\n//go:fix inline\nfunc Zero(n int) bool { return Even(n) }\n\nfunc main() {\n\tprintln(Even(4))\n}\n"))
cycle_reached_0_step = refl

abbrev cycle_reached_1_f0 : File Span
cycle_reached_1_f0 = record { package_name = (nm 8 12 (codes "main")); imports = []; decls = ((fn (at 30 81) None (nm 35 39 (codes "Even")) (sig ((param (at 40 45) (Some (nm 40 41 (codes "n"))) (named (at 42 45) None (nm 42 45 (codes "int")))) ∷ []) ((param (at 47 51) None (named (at 47 51) None (nm 47 51 (codes "bool")))) ∷ [])) (at 52 81) (stmt_and (return_ (at 54 79) (expr_and (binary (at 61 79) LogOr (binary (at 61 67) Eq (ident (at 61 62) (codes "n")) (int_lit (at 66 67) (codes "0"))) (call (at 71 79) (ident (at 71 74) (codes "Odd")) (expr_and (binary (at 75 78) Sub (ident (at 75 76) (codes "n")) (int_lit (at 77 78) (codes "1"))) no_exprs) Plain)) no_exprs)) no_stmts)) ∷ (fn (at 99 150) None (nm 104 107 (codes "Odd")) (sig ((param (at 108 113) (Some (nm 108 109 (codes "n"))) (named (at 110 113) None (nm 110 113 (codes "int")))) ∷ []) ((param (at 115 119) None (named (at 115 119) None (nm 115 119 (codes "bool")))) ∷ [])) (at 120 150) (stmt_and (return_ (at 122 148) (expr_and (binary (at 129 148) LogAnd (binary (at 129 135) Ne (ident (at 129 130) (codes "n")) (int_lit (at 134 135) (codes "0"))) (call (at 139 148) (ident (at 139 143) (codes "Even")) (expr_and (binary (at 144 147) Sub (ident (at 144 145) (codes "n")) (int_lit (at 146 147) (codes "1"))) no_exprs) Plain)) no_exprs)) no_stmts)) ∷ (fn (at 168 208) None (nm 173 177 (codes "Zero")) (sig ((param (at 178 183) (Some (nm 178 179 (codes "n"))) (named (at 180 183) None (nm 180 183 (codes "int")))) ∷ []) ((param (at 185 189) None (named (at 185 189) None (nm 185 189 (codes "bool")))) ∷ [])) (at 190 208) (stmt_and (return_ (at 192 206) (expr_and (call (at 199 206) (ident (at 199 203) (codes "Even")) (expr_and (ident (at 204 205) (codes "n")) no_exprs) Plain) no_exprs)) no_stmts)) ∷ (fn (at 210 243) None (nm 215 219 (codes "main")) (sig [] []) (at 222 243) (stmt_and (eval (at 225 241) (call (at 225 241) (ident (at 225 232) (codes "println")) (expr_and (call (at 233 240) (ident (at 233 237) (codes "Even")) (expr_and (int_lit (at 238 239) (codes "4")) no_exprs) Plain) no_exprs) Plain)) no_stmts)) ∷ []) }

cycle_reached_1_f0_read : read_at span_to read_front (lexemes ((tok Keyword 0 7 (codes "package")) ∷ (tok Ident 8 12 (codes "main")) ∷ (tok Inserted 12 12 (codes ";")) ∷ (tok Keyword 30 34 (codes "func")) ∷ (tok Ident 35 39 (codes "Even")) ∷ (tok Operator 39 40 (codes "(")) ∷ (tok Ident 40 41 (codes "n")) ∷ (tok Ident 42 45 (codes "int")) ∷ (tok Operator 45 46 (codes ")")) ∷ (tok Ident 47 51 (codes "bool")) ∷ (tok Operator 52 53 (codes "{")) ∷ (tok Keyword 54 60 (codes "return")) ∷ (tok Ident 61 62 (codes "n")) ∷ (tok Operator 63 65 (codes "==")) ∷ (tok Integer 66 67 (codes "0")) ∷ (tok Operator 68 70 (codes "||")) ∷ (tok Ident 71 74 (codes "Odd")) ∷ (tok Operator 74 75 (codes "(")) ∷ (tok Ident 75 76 (codes "n")) ∷ (tok Operator 76 77 (codes "-")) ∷ (tok Integer 77 78 (codes "1")) ∷ (tok Operator 78 79 (codes ")")) ∷ (tok Operator 80 81 (codes "}")) ∷ (tok Inserted 81 81 (codes ";")) ∷ (tok Keyword 99 103 (codes "func")) ∷ (tok Ident 104 107 (codes "Odd")) ∷ (tok Operator 107 108 (codes "(")) ∷ (tok Ident 108 109 (codes "n")) ∷ (tok Ident 110 113 (codes "int")) ∷ (tok Operator 113 114 (codes ")")) ∷ (tok Ident 115 119 (codes "bool")) ∷ (tok Operator 120 121 (codes "{")) ∷ (tok Keyword 122 128 (codes "return")) ∷ (tok Ident 129 130 (codes "n")) ∷ (tok Operator 131 133 (codes "!=")) ∷ (tok Integer 134 135 (codes "0")) ∷ (tok Operator 136 138 (codes "&&")) ∷ (tok Ident 139 143 (codes "Even")) ∷ (tok Operator 143 144 (codes "(")) ∷ (tok Ident 144 145 (codes "n")) ∷ (tok Operator 145 146 (codes "-")) ∷ (tok Integer 146 147 (codes "1")) ∷ (tok Operator 147 148 (codes ")")) ∷ (tok Operator 149 150 (codes "}")) ∷ (tok Inserted 150 150 (codes ";")) ∷ (tok Keyword 168 172 (codes "func")) ∷ (tok Ident 173 177 (codes "Zero")) ∷ (tok Operator 177 178 (codes "(")) ∷ (tok Ident 178 179 (codes "n")) ∷ (tok Ident 180 183 (codes "int")) ∷ (tok Operator 183 184 (codes ")")) ∷ (tok Ident 185 189 (codes "bool")) ∷ (tok Operator 190 191 (codes "{")) ∷ (tok Keyword 192 198 (codes "return")) ∷ (tok Ident 199 203 (codes "Even")) ∷ (tok Operator 203 204 (codes "(")) ∷ (tok Ident 204 205 (codes "n")) ∷ (tok Operator 205 206 (codes ")")) ∷ (tok Operator 207 208 (codes "}")) ∷ (tok Inserted 208 208 (codes ";")) ∷ (tok Keyword 210 214 (codes "func")) ∷ (tok Ident 215 219 (codes "main")) ∷ (tok Operator 219 220 (codes "(")) ∷ (tok Operator 220 221 (codes ")")) ∷ (tok Operator 222 223 (codes "{")) ∷ (tok Ident 225 232 (codes "println")) ∷ (tok Operator 232 233 (codes "(")) ∷ (tok Ident 233 237 (codes "Even")) ∷ (tok Operator 237 238 (codes "(")) ∷ (tok Integer 238 239 (codes "4")) ∷ (tok Operator 239 240 (codes ")")) ∷ (tok Operator 240 241 (codes ")")) ∷ (tok Inserted 241 241 (codes ";")) ∷ (tok Operator 242 243 (codes "}")) ∷ (tok Inserted 243 243 (codes ";")) ∷ [])) ≡ Some (cycle_reached_1_f0, [])
unfolding reading
cycle_reached_1_f0_read = refl

abbrev cycle_reached_1 : Module
cycle_reached_1 = record { packages = (pack (codes "example.com/m") (codes "main") (source (codes "main.go") cycle_reached_1_f0 ∷ []) ∷ []); marks = (mark 0 0 0 0 ∷ mark 0 0 1 0 ∷ mark 0 0 2 0 ∷ []); texts = (((codes "main.go"), record { text = (codes "package main\n\n//go:fix inline\nfunc Even(n int) bool { return n == 0 || Odd(n-1) }\n\n//go:fix inline\nfunc Odd(n int) bool { return n != 0 && Even(n-1) }\n\n//go:fix inline\nfunc Zero(n int) bool { return Even(n) }\n\nfunc main() {\n\tprintln(Even(4))\n}\n"); tokens = ((tok Keyword 0 7 (codes "package")) ∷ (tok Ident 8 12 (codes "main")) ∷ (tok Inserted 12 12 (codes ";")) ∷ (tok Keyword 30 34 (codes "func")) ∷ (tok Ident 35 39 (codes "Even")) ∷ (tok Operator 39 40 (codes "(")) ∷ (tok Ident 40 41 (codes "n")) ∷ (tok Ident 42 45 (codes "int")) ∷ (tok Operator 45 46 (codes ")")) ∷ (tok Ident 47 51 (codes "bool")) ∷ (tok Operator 52 53 (codes "{")) ∷ (tok Keyword 54 60 (codes "return")) ∷ (tok Ident 61 62 (codes "n")) ∷ (tok Operator 63 65 (codes "==")) ∷ (tok Integer 66 67 (codes "0")) ∷ (tok Operator 68 70 (codes "||")) ∷ (tok Ident 71 74 (codes "Odd")) ∷ (tok Operator 74 75 (codes "(")) ∷ (tok Ident 75 76 (codes "n")) ∷ (tok Operator 76 77 (codes "-")) ∷ (tok Integer 77 78 (codes "1")) ∷ (tok Operator 78 79 (codes ")")) ∷ (tok Operator 80 81 (codes "}")) ∷ (tok Inserted 81 81 (codes ";")) ∷ (tok Keyword 99 103 (codes "func")) ∷ (tok Ident 104 107 (codes "Odd")) ∷ (tok Operator 107 108 (codes "(")) ∷ (tok Ident 108 109 (codes "n")) ∷ (tok Ident 110 113 (codes "int")) ∷ (tok Operator 113 114 (codes ")")) ∷ (tok Ident 115 119 (codes "bool")) ∷ (tok Operator 120 121 (codes "{")) ∷ (tok Keyword 122 128 (codes "return")) ∷ (tok Ident 129 130 (codes "n")) ∷ (tok Operator 131 133 (codes "!=")) ∷ (tok Integer 134 135 (codes "0")) ∷ (tok Operator 136 138 (codes "&&")) ∷ (tok Ident 139 143 (codes "Even")) ∷ (tok Operator 143 144 (codes "(")) ∷ (tok Ident 144 145 (codes "n")) ∷ (tok Operator 145 146 (codes "-")) ∷ (tok Integer 146 147 (codes "1")) ∷ (tok Operator 147 148 (codes ")")) ∷ (tok Operator 149 150 (codes "}")) ∷ (tok Inserted 150 150 (codes ";")) ∷ (tok Keyword 168 172 (codes "func")) ∷ (tok Ident 173 177 (codes "Zero")) ∷ (tok Operator 177 178 (codes "(")) ∷ (tok Ident 178 179 (codes "n")) ∷ (tok Ident 180 183 (codes "int")) ∷ (tok Operator 183 184 (codes ")")) ∷ (tok Ident 185 189 (codes "bool")) ∷ (tok Operator 190 191 (codes "{")) ∷ (tok Keyword 192 198 (codes "return")) ∷ (tok Ident 199 203 (codes "Even")) ∷ (tok Operator 203 204 (codes "(")) ∷ (tok Ident 204 205 (codes "n")) ∷ (tok Operator 205 206 (codes ")")) ∷ (tok Operator 207 208 (codes "}")) ∷ (tok Inserted 208 208 (codes ";")) ∷ (tok Keyword 210 214 (codes "func")) ∷ (tok Ident 215 219 (codes "main")) ∷ (tok Operator 219 220 (codes "(")) ∷ (tok Operator 220 221 (codes ")")) ∷ (tok Operator 222 223 (codes "{")) ∷ (tok Ident 225 232 (codes "println")) ∷ (tok Operator 232 233 (codes "(")) ∷ (tok Ident 233 237 (codes "Even")) ∷ (tok Operator 237 238 (codes "(")) ∷ (tok Integer 238 239 (codes "4")) ∷ (tok Operator 239 240 (codes ")")) ∷ (tok Operator 240 241 (codes ")")) ∷ (tok Inserted 241 241 (codes ";")) ∷ (tok Operator 242 243 (codes "}")) ∷ (tok Inserted 243 243 (codes ";")) ∷ []); comments = ((note 14 29) ∷ (note 83 98) ∷ (note 152 167) ∷ []) }) ∷ []) }

cycle_reached_1_typed : is_typed cycle_reached_1 ≡ true
cycle_reached_1_typed = refl

cycle_reached_1_ends : step_of cycle_reached_1 ≡ None
cycle_reached_1_ends = refl

cycle_reached_1_kept : kept_uses cycle_reached_1 ≡ (((codes "main.go"), 71, Some Recursive) ∷ ((codes "main.go"), 139, Some Recursive) ∷ ((codes "main.go"), 199, Some Recursive) ∷ ((codes "main.go"), 233, Some Recursive) ∷ [])
cycle_reached_1_kept = refl

cycle_reached_0_cycles : map (is_recursive cycle_reached_0.packages cycle_reached_0.marks) cycle_reached_0.marks ≡ true ∷ true ∷ false ∷ []
cycle_reached_0_cycles = refl

cycle_reached_1_cycles : map (is_recursive cycle_reached_1.packages cycle_reached_1.marks) cycle_reached_1.marks ≡ true ∷ true ∷ false ∷ []
cycle_reached_1_cycles = refl
