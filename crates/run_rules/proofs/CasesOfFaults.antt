-- Faults and shifts: text before and after.
use Rattle.std.proofs.Common.{◌≡◌, refl}
use Rattle.std.specs.Prelude.{true, false, [], ◌∷◌, Some, None, codes}
use Rattle.go_tree.specs.declared.exprs.Rest.TheVariants.{Plain}
use Rattle.go_tree.specs.declared.spans.Span.{Span}
use Rattle.go_tree.specs.declared.tokens.TokenKind.TheVariants.{Ident, Keyword, Operator, Integer, Str, Inserted}
use Rattle.go_tree.specs.declared.operators.BinOp.TheVariants.{Mul, Shl, Shr, Add, Eq}
use Rattle.go_tree.specs.declared.operators.UnOp.TheVariants.{Minus, Not}
use Rattle.go_tree.specs.Tree.{named, pointer, slice_type, ident, int_lit, str_lit, composite, index, call, func_lit, unary, binary, star, no_exprs, expr_and, no_elems, elem, plain, no_value, var_decl, eval, assign, define, return_, inner, defer, no_stmts, stmt_and, no_specs, spec}
use Rattle.go_tree.specs.File.{File}
use Rattle.run_rules.specs.FormTrees.{ExprForm, BlockForm, LiteralForm}
use Rattle.run_rules.proofs.CaseTools.{at, nm, tok, note, param, sig, fn, pack, source, mark, Module, is_typed, first_change, step_of, kept_uses}
use Rattle.go_layout.specs.SpellsSpans.{span_to}
use Rattle.go_tree.specs.GoWords.Terminals.{lexemes}
use Rattle.go_layout.specs.Goals.{read_front}
use Rattle.go_layout.proofs.Texts.{reading}
use Rattle.run_rules.proofs.CaseTools.{read_at}

-- A constant that goes into its own type stays bare.
abbrev converted_constant_0_f0 : File Span
converted_constant_0_f0 = record { package_name = (nm 8 12 (codes "main")); imports = []; decls = ((fn (at 30 65) None (nm 35 39 (codes "Half")) (sig ((param (at 40 46) (Some (nm 40 41 (codes "x"))) (named (at 42 46) None (nm 42 46 (codes "int8")))) ∷ []) ((param (at 48 52) None (named (at 48 52) None (nm 48 52 (codes "int8")))) ∷ [])) (at 53 65) (stmt_and (return_ (at 55 63) (expr_and (ident (at 62 63) (codes "x")) no_exprs)) no_stmts)) ∷ (fn (at 67 116) None (nm 72 76 (codes "main")) (sig [] []) (at 79 116) (stmt_and (var_decl (at 82 102) false (spec (at 86 102) ((nm 86 87 (codes "b")) ∷ []) (Some (named (at 88 92) None (nm 88 92 (codes "int8")))) (expr_and (call (at 95 102) (ident (at 95 99) (codes "Half")) (expr_and (int_lit (at 100 101) (codes "3")) no_exprs) Plain) no_exprs) no_specs)) (stmt_and (eval (at 104 114) (call (at 104 114) (ident (at 104 111) (codes "println")) (expr_and (ident (at 112 113) (codes "b")) no_exprs) Plain)) no_stmts))) ∷ []) }

converted_constant_0_f0_read : read_at span_to read_front (lexemes ((tok Keyword 0 7 (codes "package")) ∷ (tok Ident 8 12 (codes "main")) ∷ (tok Inserted 12 12 (codes ";")) ∷ (tok Keyword 30 34 (codes "func")) ∷ (tok Ident 35 39 (codes "Half")) ∷ (tok Operator 39 40 (codes "(")) ∷ (tok Ident 40 41 (codes "x")) ∷ (tok Ident 42 46 (codes "int8")) ∷ (tok Operator 46 47 (codes ")")) ∷ (tok Ident 48 52 (codes "int8")) ∷ (tok Operator 53 54 (codes "{")) ∷ (tok Keyword 55 61 (codes "return")) ∷ (tok Ident 62 63 (codes "x")) ∷ (tok Operator 64 65 (codes "}")) ∷ (tok Inserted 65 65 (codes ";")) ∷ (tok Keyword 67 71 (codes "func")) ∷ (tok Ident 72 76 (codes "main")) ∷ (tok Operator 76 77 (codes "(")) ∷ (tok Operator 77 78 (codes ")")) ∷ (tok Operator 79 80 (codes "{")) ∷ (tok Keyword 82 85 (codes "var")) ∷ (tok Ident 86 87 (codes "b")) ∷ (tok Ident 88 92 (codes "int8")) ∷ (tok Operator 93 94 (codes "=")) ∷ (tok Ident 95 99 (codes "Half")) ∷ (tok Operator 99 100 (codes "(")) ∷ (tok Integer 100 101 (codes "3")) ∷ (tok Operator 101 102 (codes ")")) ∷ (tok Inserted 102 102 (codes ";")) ∷ (tok Ident 104 111 (codes "println")) ∷ (tok Operator 111 112 (codes "(")) ∷ (tok Ident 112 113 (codes "b")) ∷ (tok Operator 113 114 (codes ")")) ∷ (tok Inserted 114 114 (codes ";")) ∷ (tok Operator 115 116 (codes "}")) ∷ (tok Inserted 116 116 (codes ";")) ∷ [])) ≡ Some (converted_constant_0_f0, [])
unfolding reading
converted_constant_0_f0_read = refl

abbrev converted_constant_0 : Module
converted_constant_0 = record { packages = (pack (codes "example.com/m") (codes "main") (source (codes "main.go") converted_constant_0_f0 ∷ []) ∷ []); marks = (mark 0 0 0 0 ∷ []); texts = (((codes "main.go"), record { text = (codes "package main\n\n//go:fix inline\nfunc Half(x int8) int8 { return x }\n\nfunc main() {\n\tvar b int8 = Half(3)\n\tprintln(b)\n}\n"); tokens = ((tok Keyword 0 7 (codes "package")) ∷ (tok Ident 8 12 (codes "main")) ∷ (tok Inserted 12 12 (codes ";")) ∷ (tok Keyword 30 34 (codes "func")) ∷ (tok Ident 35 39 (codes "Half")) ∷ (tok Operator 39 40 (codes "(")) ∷ (tok Ident 40 41 (codes "x")) ∷ (tok Ident 42 46 (codes "int8")) ∷ (tok Operator 46 47 (codes ")")) ∷ (tok Ident 48 52 (codes "int8")) ∷ (tok Operator 53 54 (codes "{")) ∷ (tok Keyword 55 61 (codes "return")) ∷ (tok Ident 62 63 (codes "x")) ∷ (tok Operator 64 65 (codes "}")) ∷ (tok Inserted 65 65 (codes ";")) ∷ (tok Keyword 67 71 (codes "func")) ∷ (tok Ident 72 76 (codes "main")) ∷ (tok Operator 76 77 (codes "(")) ∷ (tok Operator 77 78 (codes ")")) ∷ (tok Operator 79 80 (codes "{")) ∷ (tok Keyword 82 85 (codes "var")) ∷ (tok Ident 86 87 (codes "b")) ∷ (tok Ident 88 92 (codes "int8")) ∷ (tok Operator 93 94 (codes "=")) ∷ (tok Ident 95 99 (codes "Half")) ∷ (tok Operator 99 100 (codes "(")) ∷ (tok Integer 100 101 (codes "3")) ∷ (tok Operator 101 102 (codes ")")) ∷ (tok Inserted 102 102 (codes ";")) ∷ (tok Ident 104 111 (codes "println")) ∷ (tok Operator 111 112 (codes "(")) ∷ (tok Ident 112 113 (codes "b")) ∷ (tok Operator 113 114 (codes ")")) ∷ (tok Inserted 114 114 (codes ";")) ∷ (tok Operator 115 116 (codes "}")) ∷ (tok Inserted 116 116 (codes ";")) ∷ []); comments = ((note 14 29) ∷ []) }) ∷ []) }

converted_constant_0_typed : is_typed converted_constant_0 ≡ true
converted_constant_0_typed = refl

converted_constant_0_step : first_change converted_constant_0 ≡ Some ((codes "main.go"), ExprForm, (codes "package main\n\n//go:fix inline\nfunc Half(x int8) int8 { return x }\n\nfunc main() {\n\tvar b int8 = 3\n\tprintln(b)\n}\n"))
converted_constant_0_step = refl

abbrev converted_constant_1_f0 : File Span
converted_constant_1_f0 = record { package_name = (nm 8 12 (codes "main")); imports = []; decls = ((fn (at 30 65) None (nm 35 39 (codes "Half")) (sig ((param (at 40 46) (Some (nm 40 41 (codes "x"))) (named (at 42 46) None (nm 42 46 (codes "int8")))) ∷ []) ((param (at 48 52) None (named (at 48 52) None (nm 48 52 (codes "int8")))) ∷ [])) (at 53 65) (stmt_and (return_ (at 55 63) (expr_and (ident (at 62 63) (codes "x")) no_exprs)) no_stmts)) ∷ (fn (at 67 110) None (nm 72 76 (codes "main")) (sig [] []) (at 79 110) (stmt_and (var_decl (at 82 96) false (spec (at 86 96) ((nm 86 87 (codes "b")) ∷ []) (Some (named (at 88 92) None (nm 88 92 (codes "int8")))) (expr_and (int_lit (at 95 96) (codes "3")) no_exprs) no_specs)) (stmt_and (eval (at 98 108) (call (at 98 108) (ident (at 98 105) (codes "println")) (expr_and (ident (at 106 107) (codes "b")) no_exprs) Plain)) no_stmts))) ∷ []) }

converted_constant_1_f0_read : read_at span_to read_front (lexemes ((tok Keyword 0 7 (codes "package")) ∷ (tok Ident 8 12 (codes "main")) ∷ (tok Inserted 12 12 (codes ";")) ∷ (tok Keyword 30 34 (codes "func")) ∷ (tok Ident 35 39 (codes "Half")) ∷ (tok Operator 39 40 (codes "(")) ∷ (tok Ident 40 41 (codes "x")) ∷ (tok Ident 42 46 (codes "int8")) ∷ (tok Operator 46 47 (codes ")")) ∷ (tok Ident 48 52 (codes "int8")) ∷ (tok Operator 53 54 (codes "{")) ∷ (tok Keyword 55 61 (codes "return")) ∷ (tok Ident 62 63 (codes "x")) ∷ (tok Operator 64 65 (codes "}")) ∷ (tok Inserted 65 65 (codes ";")) ∷ (tok Keyword 67 71 (codes "func")) ∷ (tok Ident 72 76 (codes "main")) ∷ (tok Operator 76 77 (codes "(")) ∷ (tok Operator 77 78 (codes ")")) ∷ (tok Operator 79 80 (codes "{")) ∷ (tok Keyword 82 85 (codes "var")) ∷ (tok Ident 86 87 (codes "b")) ∷ (tok Ident 88 92 (codes "int8")) ∷ (tok Operator 93 94 (codes "=")) ∷ (tok Integer 95 96 (codes "3")) ∷ (tok Inserted 96 96 (codes ";")) ∷ (tok Ident 98 105 (codes "println")) ∷ (tok Operator 105 106 (codes "(")) ∷ (tok Ident 106 107 (codes "b")) ∷ (tok Operator 107 108 (codes ")")) ∷ (tok Inserted 108 108 (codes ";")) ∷ (tok Operator 109 110 (codes "}")) ∷ (tok Inserted 110 110 (codes ";")) ∷ [])) ≡ Some (converted_constant_1_f0, [])
unfolding reading
converted_constant_1_f0_read = refl

abbrev converted_constant_1 : Module
converted_constant_1 = record { packages = (pack (codes "example.com/m") (codes "main") (source (codes "main.go") converted_constant_1_f0 ∷ []) ∷ []); marks = (mark 0 0 0 0 ∷ []); texts = (((codes "main.go"), record { text = (codes "package main\n\n//go:fix inline\nfunc Half(x int8) int8 { return x }\n\nfunc main() {\n\tvar b int8 = 3\n\tprintln(b)\n}\n"); tokens = ((tok Keyword 0 7 (codes "package")) ∷ (tok Ident 8 12 (codes "main")) ∷ (tok Inserted 12 12 (codes ";")) ∷ (tok Keyword 30 34 (codes "func")) ∷ (tok Ident 35 39 (codes "Half")) ∷ (tok Operator 39 40 (codes "(")) ∷ (tok Ident 40 41 (codes "x")) ∷ (tok Ident 42 46 (codes "int8")) ∷ (tok Operator 46 47 (codes ")")) ∷ (tok Ident 48 52 (codes "int8")) ∷ (tok Operator 53 54 (codes "{")) ∷ (tok Keyword 55 61 (codes "return")) ∷ (tok Ident 62 63 (codes "x")) ∷ (tok Operator 64 65 (codes "}")) ∷ (tok Inserted 65 65 (codes ";")) ∷ (tok Keyword 67 71 (codes "func")) ∷ (tok Ident 72 76 (codes "main")) ∷ (tok Operator 76 77 (codes "(")) ∷ (tok Operator 77 78 (codes ")")) ∷ (tok Operator 79 80 (codes "{")) ∷ (tok Keyword 82 85 (codes "var")) ∷ (tok Ident 86 87 (codes "b")) ∷ (tok Ident 88 92 (codes "int8")) ∷ (tok Operator 93 94 (codes "=")) ∷ (tok Integer 95 96 (codes "3")) ∷ (tok Inserted 96 96 (codes ";")) ∷ (tok Ident 98 105 (codes "println")) ∷ (tok Operator 105 106 (codes "(")) ∷ (tok Ident 106 107 (codes "b")) ∷ (tok Operator 107 108 (codes ")")) ∷ (tok Inserted 108 108 (codes ";")) ∷ (tok Operator 109 110 (codes "}")) ∷ (tok Inserted 110 110 (codes ";")) ∷ []); comments = ((note 14 29) ∷ []) }) ∷ []) }

converted_constant_1_typed : is_typed converted_constant_1 ≡ true
converted_constant_1_typed = refl

converted_constant_1_ends : step_of converted_constant_1 ≡ None
converted_constant_1_ends = refl

converted_constant_1_kept : kept_uses converted_constant_1 ≡ []
converted_constant_1_kept = refl

-- A constant whose default type is another one is converted.
abbrev constant_in_define_0_f0 : File Span
constant_in_define_0_f0 = record { package_name = (nm 8 12 (codes "main")); imports = []; decls = ((fn (at 30 65) None (nm 35 39 (codes "Half")) (sig ((param (at 40 46) (Some (nm 40 41 (codes "x"))) (named (at 42 46) None (nm 42 46 (codes "int8")))) ∷ []) ((param (at 48 52) None (named (at 48 52) None (nm 48 52 (codes "int8")))) ∷ [])) (at 53 65) (stmt_and (return_ (at 55 63) (expr_and (ident (at 62 63) (codes "x")) no_exprs)) no_stmts)) ∷ (fn (at 67 108) None (nm 72 76 (codes "main")) (sig [] []) (at 79 108) (stmt_and (define (at 82 94) ((nm 82 83 (codes "b")) ∷ []) (expr_and (call (at 87 94) (ident (at 87 91) (codes "Half")) (expr_and (int_lit (at 92 93) (codes "3")) no_exprs) Plain) no_exprs)) (stmt_and (eval (at 96 106) (call (at 96 106) (ident (at 96 103) (codes "println")) (expr_and (ident (at 104 105) (codes "b")) no_exprs) Plain)) no_stmts))) ∷ []) }

constant_in_define_0_f0_read : read_at span_to read_front (lexemes ((tok Keyword 0 7 (codes "package")) ∷ (tok Ident 8 12 (codes "main")) ∷ (tok Inserted 12 12 (codes ";")) ∷ (tok Keyword 30 34 (codes "func")) ∷ (tok Ident 35 39 (codes "Half")) ∷ (tok Operator 39 40 (codes "(")) ∷ (tok Ident 40 41 (codes "x")) ∷ (tok Ident 42 46 (codes "int8")) ∷ (tok Operator 46 47 (codes ")")) ∷ (tok Ident 48 52 (codes "int8")) ∷ (tok Operator 53 54 (codes "{")) ∷ (tok Keyword 55 61 (codes "return")) ∷ (tok Ident 62 63 (codes "x")) ∷ (tok Operator 64 65 (codes "}")) ∷ (tok Inserted 65 65 (codes ";")) ∷ (tok Keyword 67 71 (codes "func")) ∷ (tok Ident 72 76 (codes "main")) ∷ (tok Operator 76 77 (codes "(")) ∷ (tok Operator 77 78 (codes ")")) ∷ (tok Operator 79 80 (codes "{")) ∷ (tok Ident 82 83 (codes "b")) ∷ (tok Operator 84 86 (codes ":=")) ∷ (tok Ident 87 91 (codes "Half")) ∷ (tok Operator 91 92 (codes "(")) ∷ (tok Integer 92 93 (codes "3")) ∷ (tok Operator 93 94 (codes ")")) ∷ (tok Inserted 94 94 (codes ";")) ∷ (tok Ident 96 103 (codes "println")) ∷ (tok Operator 103 104 (codes "(")) ∷ (tok Ident 104 105 (codes "b")) ∷ (tok Operator 105 106 (codes ")")) ∷ (tok Inserted 106 106 (codes ";")) ∷ (tok Operator 107 108 (codes "}")) ∷ (tok Inserted 108 108 (codes ";")) ∷ [])) ≡ Some (constant_in_define_0_f0, [])
unfolding reading
constant_in_define_0_f0_read = refl

abbrev constant_in_define_0 : Module
constant_in_define_0 = record { packages = (pack (codes "example.com/m") (codes "main") (source (codes "main.go") constant_in_define_0_f0 ∷ []) ∷ []); marks = (mark 0 0 0 0 ∷ []); texts = (((codes "main.go"), record { text = (codes "package main\n\n//go:fix inline\nfunc Half(x int8) int8 { return x }\n\nfunc main() {\n\tb := Half(3)\n\tprintln(b)\n}\n"); tokens = ((tok Keyword 0 7 (codes "package")) ∷ (tok Ident 8 12 (codes "main")) ∷ (tok Inserted 12 12 (codes ";")) ∷ (tok Keyword 30 34 (codes "func")) ∷ (tok Ident 35 39 (codes "Half")) ∷ (tok Operator 39 40 (codes "(")) ∷ (tok Ident 40 41 (codes "x")) ∷ (tok Ident 42 46 (codes "int8")) ∷ (tok Operator 46 47 (codes ")")) ∷ (tok Ident 48 52 (codes "int8")) ∷ (tok Operator 53 54 (codes "{")) ∷ (tok Keyword 55 61 (codes "return")) ∷ (tok Ident 62 63 (codes "x")) ∷ (tok Operator 64 65 (codes "}")) ∷ (tok Inserted 65 65 (codes ";")) ∷ (tok Keyword 67 71 (codes "func")) ∷ (tok Ident 72 76 (codes "main")) ∷ (tok Operator 76 77 (codes "(")) ∷ (tok Operator 77 78 (codes ")")) ∷ (tok Operator 79 80 (codes "{")) ∷ (tok Ident 82 83 (codes "b")) ∷ (tok Operator 84 86 (codes ":=")) ∷ (tok Ident 87 91 (codes "Half")) ∷ (tok Operator 91 92 (codes "(")) ∷ (tok Integer 92 93 (codes "3")) ∷ (tok Operator 93 94 (codes ")")) ∷ (tok Inserted 94 94 (codes ";")) ∷ (tok Ident 96 103 (codes "println")) ∷ (tok Operator 103 104 (codes "(")) ∷ (tok Ident 104 105 (codes "b")) ∷ (tok Operator 105 106 (codes ")")) ∷ (tok Inserted 106 106 (codes ";")) ∷ (tok Operator 107 108 (codes "}")) ∷ (tok Inserted 108 108 (codes ";")) ∷ []); comments = ((note 14 29) ∷ []) }) ∷ []) }

constant_in_define_0_typed : is_typed constant_in_define_0 ≡ true
constant_in_define_0_typed = refl

constant_in_define_0_step : first_change constant_in_define_0 ≡ Some ((codes "main.go"), ExprForm, (codes "package main\n\n//go:fix inline\nfunc Half(x int8) int8 { return x }\n\nfunc main() {\n\tb := int8(3)\n\tprintln(b)\n}\n"))
constant_in_define_0_step = refl

abbrev constant_in_define_1_f0 : File Span
constant_in_define_1_f0 = record { package_name = (nm 8 12 (codes "main")); imports = []; decls = ((fn (at 30 65) None (nm 35 39 (codes "Half")) (sig ((param (at 40 46) (Some (nm 40 41 (codes "x"))) (named (at 42 46) None (nm 42 46 (codes "int8")))) ∷ []) ((param (at 48 52) None (named (at 48 52) None (nm 48 52 (codes "int8")))) ∷ [])) (at 53 65) (stmt_and (return_ (at 55 63) (expr_and (ident (at 62 63) (codes "x")) no_exprs)) no_stmts)) ∷ (fn (at 67 108) None (nm 72 76 (codes "main")) (sig [] []) (at 79 108) (stmt_and (define (at 82 94) ((nm 82 83 (codes "b")) ∷ []) (expr_and (call (at 87 94) (ident (at 87 91) (codes "int8")) (expr_and (int_lit (at 92 93) (codes "3")) no_exprs) Plain) no_exprs)) (stmt_and (eval (at 96 106) (call (at 96 106) (ident (at 96 103) (codes "println")) (expr_and (ident (at 104 105) (codes "b")) no_exprs) Plain)) no_stmts))) ∷ []) }

constant_in_define_1_f0_read : read_at span_to read_front (lexemes ((tok Keyword 0 7 (codes "package")) ∷ (tok Ident 8 12 (codes "main")) ∷ (tok Inserted 12 12 (codes ";")) ∷ (tok Keyword 30 34 (codes "func")) ∷ (tok Ident 35 39 (codes "Half")) ∷ (tok Operator 39 40 (codes "(")) ∷ (tok Ident 40 41 (codes "x")) ∷ (tok Ident 42 46 (codes "int8")) ∷ (tok Operator 46 47 (codes ")")) ∷ (tok Ident 48 52 (codes "int8")) ∷ (tok Operator 53 54 (codes "{")) ∷ (tok Keyword 55 61 (codes "return")) ∷ (tok Ident 62 63 (codes "x")) ∷ (tok Operator 64 65 (codes "}")) ∷ (tok Inserted 65 65 (codes ";")) ∷ (tok Keyword 67 71 (codes "func")) ∷ (tok Ident 72 76 (codes "main")) ∷ (tok Operator 76 77 (codes "(")) ∷ (tok Operator 77 78 (codes ")")) ∷ (tok Operator 79 80 (codes "{")) ∷ (tok Ident 82 83 (codes "b")) ∷ (tok Operator 84 86 (codes ":=")) ∷ (tok Ident 87 91 (codes "int8")) ∷ (tok Operator 91 92 (codes "(")) ∷ (tok Integer 92 93 (codes "3")) ∷ (tok Operator 93 94 (codes ")")) ∷ (tok Inserted 94 94 (codes ";")) ∷ (tok Ident 96 103 (codes "println")) ∷ (tok Operator 103 104 (codes "(")) ∷ (tok Ident 104 105 (codes "b")) ∷ (tok Operator 105 106 (codes ")")) ∷ (tok Inserted 106 106 (codes ";")) ∷ (tok Operator 107 108 (codes "}")) ∷ (tok Inserted 108 108 (codes ";")) ∷ [])) ≡ Some (constant_in_define_1_f0, [])
unfolding reading
constant_in_define_1_f0_read = refl

abbrev constant_in_define_1 : Module
constant_in_define_1 = record { packages = (pack (codes "example.com/m") (codes "main") (source (codes "main.go") constant_in_define_1_f0 ∷ []) ∷ []); marks = (mark 0 0 0 0 ∷ []); texts = (((codes "main.go"), record { text = (codes "package main\n\n//go:fix inline\nfunc Half(x int8) int8 { return x }\n\nfunc main() {\n\tb := int8(3)\n\tprintln(b)\n}\n"); tokens = ((tok Keyword 0 7 (codes "package")) ∷ (tok Ident 8 12 (codes "main")) ∷ (tok Inserted 12 12 (codes ";")) ∷ (tok Keyword 30 34 (codes "func")) ∷ (tok Ident 35 39 (codes "Half")) ∷ (tok Operator 39 40 (codes "(")) ∷ (tok Ident 40 41 (codes "x")) ∷ (tok Ident 42 46 (codes "int8")) ∷ (tok Operator 46 47 (codes ")")) ∷ (tok Ident 48 52 (codes "int8")) ∷ (tok Operator 53 54 (codes "{")) ∷ (tok Keyword 55 61 (codes "return")) ∷ (tok Ident 62 63 (codes "x")) ∷ (tok Operator 64 65 (codes "}")) ∷ (tok Inserted 65 65 (codes ";")) ∷ (tok Keyword 67 71 (codes "func")) ∷ (tok Ident 72 76 (codes "main")) ∷ (tok Operator 76 77 (codes "(")) ∷ (tok Operator 77 78 (codes ")")) ∷ (tok Operator 79 80 (codes "{")) ∷ (tok Ident 82 83 (codes "b")) ∷ (tok Operator 84 86 (codes ":=")) ∷ (tok Ident 87 91 (codes "int8")) ∷ (tok Operator 91 92 (codes "(")) ∷ (tok Integer 92 93 (codes "3")) ∷ (tok Operator 93 94 (codes ")")) ∷ (tok Inserted 94 94 (codes ";")) ∷ (tok Ident 96 103 (codes "println")) ∷ (tok Operator 103 104 (codes "(")) ∷ (tok Ident 104 105 (codes "b")) ∷ (tok Operator 105 106 (codes ")")) ∷ (tok Inserted 106 106 (codes ";")) ∷ (tok Operator 107 108 (codes "}")) ∷ (tok Inserted 108 108 (codes ";")) ∷ []); comments = ((note 14 29) ∷ []) }) ∷ []) }

constant_in_define_1_typed : is_typed constant_in_define_1 ≡ true
constant_in_define_1_typed = refl

constant_in_define_1_ends : step_of constant_in_define_1 ≡ None
constant_in_define_1_ends = refl

constant_in_define_1_kept : kept_uses constant_in_define_1 ≡ []
constant_in_define_1_kept = refl

-- Beside a constant a constant is converted.
abbrev both_constant_0_f0 : File Span
both_constant_0_f0 = record { package_name = (nm 8 12 (codes "main")); imports = []; decls = ((fn (at 30 69) None (nm 35 38 (codes "Sum")) (sig ((param (at 39 47) (Some (nm 39 40 (codes "a"))) (named (at 44 47) None (nm 44 47 (codes "int")))) ∷ (param (at 42 47) (Some (nm 42 43 (codes "b"))) (named (at 44 47) None (nm 44 47 (codes "int")))) ∷ []) ((param (at 49 52) None (named (at 49 52) None (nm 49 52 (codes "int")))) ∷ [])) (at 53 69) (stmt_and (return_ (at 55 67) (expr_and (binary (at 62 67) Add (ident (at 62 63) (codes "a")) (ident (at 66 67) (codes "b"))) no_exprs)) no_stmts)) ∷ (fn (at 71 106) None (nm 76 80 (codes "main")) (sig [] []) (at 83 106) (stmt_and (eval (at 86 104) (call (at 86 104) (ident (at 86 93) (codes "println")) (expr_and (call (at 94 103) (ident (at 94 97) (codes "Sum")) (expr_and (int_lit (at 98 99) (codes "3")) (expr_and (int_lit (at 101 102) (codes "2")) no_exprs)) Plain) no_exprs) Plain)) no_stmts)) ∷ []) }

both_constant_0_f0_read : read_at span_to read_front (lexemes ((tok Keyword 0 7 (codes "package")) ∷ (tok Ident 8 12 (codes "main")) ∷ (tok Inserted 12 12 (codes ";")) ∷ (tok Keyword 30 34 (codes "func")) ∷ (tok Ident 35 38 (codes "Sum")) ∷ (tok Operator 38 39 (codes "(")) ∷ (tok Ident 39 40 (codes "a")) ∷ (tok Operator 40 41 (codes ",")) ∷ (tok Ident 42 43 (codes "b")) ∷ (tok Ident 44 47 (codes "int")) ∷ (tok Operator 47 48 (codes ")")) ∷ (tok Ident 49 52 (codes "int")) ∷ (tok Operator 53 54 (codes "{")) ∷ (tok Keyword 55 61 (codes "return")) ∷ (tok Ident 62 63 (codes "a")) ∷ (tok Operator 64 65 (codes "+")) ∷ (tok Ident 66 67 (codes "b")) ∷ (tok Operator 68 69 (codes "}")) ∷ (tok Inserted 69 69 (codes ";")) ∷ (tok Keyword 71 75 (codes "func")) ∷ (tok Ident 76 80 (codes "main")) ∷ (tok Operator 80 81 (codes "(")) ∷ (tok Operator 81 82 (codes ")")) ∷ (tok Operator 83 84 (codes "{")) ∷ (tok Ident 86 93 (codes "println")) ∷ (tok Operator 93 94 (codes "(")) ∷ (tok Ident 94 97 (codes "Sum")) ∷ (tok Operator 97 98 (codes "(")) ∷ (tok Integer 98 99 (codes "3")) ∷ (tok Operator 99 100 (codes ",")) ∷ (tok Integer 101 102 (codes "2")) ∷ (tok Operator 102 103 (codes ")")) ∷ (tok Operator 103 104 (codes ")")) ∷ (tok Inserted 104 104 (codes ";")) ∷ (tok Operator 105 106 (codes "}")) ∷ (tok Inserted 106 106 (codes ";")) ∷ [])) ≡ Some (both_constant_0_f0, [])
unfolding reading
both_constant_0_f0_read = refl

abbrev both_constant_0 : Module
both_constant_0 = record { packages = (pack (codes "example.com/m") (codes "main") (source (codes "main.go") both_constant_0_f0 ∷ []) ∷ []); marks = (mark 0 0 0 0 ∷ []); texts = (((codes "main.go"), record { text = (codes "package main\n\n//go:fix inline\nfunc Sum(a, b int) int { return a + b }\n\nfunc main() {\n\tprintln(Sum(3, 2))\n}\n"); tokens = ((tok Keyword 0 7 (codes "package")) ∷ (tok Ident 8 12 (codes "main")) ∷ (tok Inserted 12 12 (codes ";")) ∷ (tok Keyword 30 34 (codes "func")) ∷ (tok Ident 35 38 (codes "Sum")) ∷ (tok Operator 38 39 (codes "(")) ∷ (tok Ident 39 40 (codes "a")) ∷ (tok Operator 40 41 (codes ",")) ∷ (tok Ident 42 43 (codes "b")) ∷ (tok Ident 44 47 (codes "int")) ∷ (tok Operator 47 48 (codes ")")) ∷ (tok Ident 49 52 (codes "int")) ∷ (tok Operator 53 54 (codes "{")) ∷ (tok Keyword 55 61 (codes "return")) ∷ (tok Ident 62 63 (codes "a")) ∷ (tok Operator 64 65 (codes "+")) ∷ (tok Ident 66 67 (codes "b")) ∷ (tok Operator 68 69 (codes "}")) ∷ (tok Inserted 69 69 (codes ";")) ∷ (tok Keyword 71 75 (codes "func")) ∷ (tok Ident 76 80 (codes "main")) ∷ (tok Operator 80 81 (codes "(")) ∷ (tok Operator 81 82 (codes ")")) ∷ (tok Operator 83 84 (codes "{")) ∷ (tok Ident 86 93 (codes "println")) ∷ (tok Operator 93 94 (codes "(")) ∷ (tok Ident 94 97 (codes "Sum")) ∷ (tok Operator 97 98 (codes "(")) ∷ (tok Integer 98 99 (codes "3")) ∷ (tok Operator 99 100 (codes ",")) ∷ (tok Integer 101 102 (codes "2")) ∷ (tok Operator 102 103 (codes ")")) ∷ (tok Operator 103 104 (codes ")")) ∷ (tok Inserted 104 104 (codes ";")) ∷ (tok Operator 105 106 (codes "}")) ∷ (tok Inserted 106 106 (codes ";")) ∷ []); comments = ((note 14 29) ∷ []) }) ∷ []) }

both_constant_0_typed : is_typed both_constant_0 ≡ true
both_constant_0_typed = refl

both_constant_0_step : first_change both_constant_0 ≡ Some ((codes "main.go"), ExprForm, (codes "package main\n\n//go:fix inline\nfunc Sum(a, b int) int { return a + b }\n\nfunc main() {\n\tprintln(int(3) + int(2))\n}\n"))
both_constant_0_step = refl

abbrev both_constant_1_f0 : File Span
both_constant_1_f0 = record { package_name = (nm 8 12 (codes "main")); imports = []; decls = ((fn (at 30 69) None (nm 35 38 (codes "Sum")) (sig ((param (at 39 47) (Some (nm 39 40 (codes "a"))) (named (at 44 47) None (nm 44 47 (codes "int")))) ∷ (param (at 42 47) (Some (nm 42 43 (codes "b"))) (named (at 44 47) None (nm 44 47 (codes "int")))) ∷ []) ((param (at 49 52) None (named (at 49 52) None (nm 49 52 (codes "int")))) ∷ [])) (at 53 69) (stmt_and (return_ (at 55 67) (expr_and (binary (at 62 67) Add (ident (at 62 63) (codes "a")) (ident (at 66 67) (codes "b"))) no_exprs)) no_stmts)) ∷ (fn (at 71 112) None (nm 76 80 (codes "main")) (sig [] []) (at 83 112) (stmt_and (eval (at 86 110) (call (at 86 110) (ident (at 86 93) (codes "println")) (expr_and (binary (at 94 109) Add (call (at 94 100) (ident (at 94 97) (codes "int")) (expr_and (int_lit (at 98 99) (codes "3")) no_exprs) Plain) (call (at 103 109) (ident (at 103 106) (codes "int")) (expr_and (int_lit (at 107 108) (codes "2")) no_exprs) Plain)) no_exprs) Plain)) no_stmts)) ∷ []) }

both_constant_1_f0_read : read_at span_to read_front (lexemes ((tok Keyword 0 7 (codes "package")) ∷ (tok Ident 8 12 (codes "main")) ∷ (tok Inserted 12 12 (codes ";")) ∷ (tok Keyword 30 34 (codes "func")) ∷ (tok Ident 35 38 (codes "Sum")) ∷ (tok Operator 38 39 (codes "(")) ∷ (tok Ident 39 40 (codes "a")) ∷ (tok Operator 40 41 (codes ",")) ∷ (tok Ident 42 43 (codes "b")) ∷ (tok Ident 44 47 (codes "int")) ∷ (tok Operator 47 48 (codes ")")) ∷ (tok Ident 49 52 (codes "int")) ∷ (tok Operator 53 54 (codes "{")) ∷ (tok Keyword 55 61 (codes "return")) ∷ (tok Ident 62 63 (codes "a")) ∷ (tok Operator 64 65 (codes "+")) ∷ (tok Ident 66 67 (codes "b")) ∷ (tok Operator 68 69 (codes "}")) ∷ (tok Inserted 69 69 (codes ";")) ∷ (tok Keyword 71 75 (codes "func")) ∷ (tok Ident 76 80 (codes "main")) ∷ (tok Operator 80 81 (codes "(")) ∷ (tok Operator 81 82 (codes ")")) ∷ (tok Operator 83 84 (codes "{")) ∷ (tok Ident 86 93 (codes "println")) ∷ (tok Operator 93 94 (codes "(")) ∷ (tok Ident 94 97 (codes "int")) ∷ (tok Operator 97 98 (codes "(")) ∷ (tok Integer 98 99 (codes "3")) ∷ (tok Operator 99 100 (codes ")")) ∷ (tok Operator 101 102 (codes "+")) ∷ (tok Ident 103 106 (codes "int")) ∷ (tok Operator 106 107 (codes "(")) ∷ (tok Integer 107 108 (codes "2")) ∷ (tok Operator 108 109 (codes ")")) ∷ (tok Operator 109 110 (codes ")")) ∷ (tok Inserted 110 110 (codes ";")) ∷ (tok Operator 111 112 (codes "}")) ∷ (tok Inserted 112 112 (codes ";")) ∷ [])) ≡ Some (both_constant_1_f0, [])
unfolding reading
both_constant_1_f0_read = refl

abbrev both_constant_1 : Module
both_constant_1 = record { packages = (pack (codes "example.com/m") (codes "main") (source (codes "main.go") both_constant_1_f0 ∷ []) ∷ []); marks = (mark 0 0 0 0 ∷ []); texts = (((codes "main.go"), record { text = (codes "package main\n\n//go:fix inline\nfunc Sum(a, b int) int { return a + b }\n\nfunc main() {\n\tprintln(int(3) + int(2))\n}\n"); tokens = ((tok Keyword 0 7 (codes "package")) ∷ (tok Ident 8 12 (codes "main")) ∷ (tok Inserted 12 12 (codes ";")) ∷ (tok Keyword 30 34 (codes "func")) ∷ (tok Ident 35 38 (codes "Sum")) ∷ (tok Operator 38 39 (codes "(")) ∷ (tok Ident 39 40 (codes "a")) ∷ (tok Operator 40 41 (codes ",")) ∷ (tok Ident 42 43 (codes "b")) ∷ (tok Ident 44 47 (codes "int")) ∷ (tok Operator 47 48 (codes ")")) ∷ (tok Ident 49 52 (codes "int")) ∷ (tok Operator 53 54 (codes "{")) ∷ (tok Keyword 55 61 (codes "return")) ∷ (tok Ident 62 63 (codes "a")) ∷ (tok Operator 64 65 (codes "+")) ∷ (tok Ident 66 67 (codes "b")) ∷ (tok Operator 68 69 (codes "}")) ∷ (tok Inserted 69 69 (codes ";")) ∷ (tok Keyword 71 75 (codes "func")) ∷ (tok Ident 76 80 (codes "main")) ∷ (tok Operator 80 81 (codes "(")) ∷ (tok Operator 81 82 (codes ")")) ∷ (tok Operator 83 84 (codes "{")) ∷ (tok Ident 86 93 (codes "println")) ∷ (tok Operator 93 94 (codes "(")) ∷ (tok Ident 94 97 (codes "int")) ∷ (tok Operator 97 98 (codes "(")) ∷ (tok Integer 98 99 (codes "3")) ∷ (tok Operator 99 100 (codes ")")) ∷ (tok Operator 101 102 (codes "+")) ∷ (tok Ident 103 106 (codes "int")) ∷ (tok Operator 106 107 (codes "(")) ∷ (tok Integer 107 108 (codes "2")) ∷ (tok Operator 108 109 (codes ")")) ∷ (tok Operator 109 110 (codes ")")) ∷ (tok Inserted 110 110 (codes ";")) ∷ (tok Operator 111 112 (codes "}")) ∷ (tok Inserted 112 112 (codes ";")) ∷ []); comments = ((note 14 29) ∷ []) }) ∷ []) }

both_constant_1_typed : is_typed both_constant_1 ≡ true
both_constant_1_typed = refl

both_constant_1_ends : step_of both_constant_1 ≡ None
both_constant_1_ends = refl

both_constant_1_kept : kept_uses both_constant_1 ≡ []
both_constant_1_kept = refl

-- What is assigned to `_` goes into no type.
abbrev nil_to_blank_0_f0 : File Span
nil_to_blank_0_f0 = record { package_name = (nm 8 12 (codes "main")); imports = []; decls = ((fn (at 30 57) None (nm 35 39 (codes "Drop")) (sig ((param (at 40 46) (Some (nm 40 41 (codes "p"))) (pointer (at 42 46) (named (at 43 46) None (nm 43 46 (codes "int"))))) ∷ []) []) (at 48 57) (stmt_and (assign (at 50 55) (expr_and (ident (at 50 51) (codes "_")) no_exprs) None (expr_and (ident (at 54 55) (codes "p")) no_exprs)) no_stmts)) ∷ (fn (at 59 85) None (nm 64 68 (codes "main")) (sig [] []) (at 71 85) (stmt_and (eval (at 74 83) (call (at 74 83) (ident (at 74 78) (codes "Drop")) (expr_and (ident (at 79 82) (codes "nil")) no_exprs) Plain)) no_stmts)) ∷ []) }

nil_to_blank_0_f0_read : read_at span_to read_front (lexemes ((tok Keyword 0 7 (codes "package")) ∷ (tok Ident 8 12 (codes "main")) ∷ (tok Inserted 12 12 (codes ";")) ∷ (tok Keyword 30 34 (codes "func")) ∷ (tok Ident 35 39 (codes "Drop")) ∷ (tok Operator 39 40 (codes "(")) ∷ (tok Ident 40 41 (codes "p")) ∷ (tok Operator 42 43 (codes "*")) ∷ (tok Ident 43 46 (codes "int")) ∷ (tok Operator 46 47 (codes ")")) ∷ (tok Operator 48 49 (codes "{")) ∷ (tok Ident 50 51 (codes "_")) ∷ (tok Operator 52 53 (codes "=")) ∷ (tok Ident 54 55 (codes "p")) ∷ (tok Operator 56 57 (codes "}")) ∷ (tok Inserted 57 57 (codes ";")) ∷ (tok Keyword 59 63 (codes "func")) ∷ (tok Ident 64 68 (codes "main")) ∷ (tok Operator 68 69 (codes "(")) ∷ (tok Operator 69 70 (codes ")")) ∷ (tok Operator 71 72 (codes "{")) ∷ (tok Ident 74 78 (codes "Drop")) ∷ (tok Operator 78 79 (codes "(")) ∷ (tok Ident 79 82 (codes "nil")) ∷ (tok Operator 82 83 (codes ")")) ∷ (tok Inserted 83 83 (codes ";")) ∷ (tok Operator 84 85 (codes "}")) ∷ (tok Inserted 85 85 (codes ";")) ∷ [])) ≡ Some (nil_to_blank_0_f0, [])
unfolding reading
nil_to_blank_0_f0_read = refl

abbrev nil_to_blank_0 : Module
nil_to_blank_0 = record { packages = (pack (codes "example.com/m") (codes "main") (source (codes "main.go") nil_to_blank_0_f0 ∷ []) ∷ []); marks = (mark 0 0 0 0 ∷ []); texts = (((codes "main.go"), record { text = (codes "package main\n\n//go:fix inline\nfunc Drop(p *int) { _ = p }\n\nfunc main() {\n\tDrop(nil)\n}\n"); tokens = ((tok Keyword 0 7 (codes "package")) ∷ (tok Ident 8 12 (codes "main")) ∷ (tok Inserted 12 12 (codes ";")) ∷ (tok Keyword 30 34 (codes "func")) ∷ (tok Ident 35 39 (codes "Drop")) ∷ (tok Operator 39 40 (codes "(")) ∷ (tok Ident 40 41 (codes "p")) ∷ (tok Operator 42 43 (codes "*")) ∷ (tok Ident 43 46 (codes "int")) ∷ (tok Operator 46 47 (codes ")")) ∷ (tok Operator 48 49 (codes "{")) ∷ (tok Ident 50 51 (codes "_")) ∷ (tok Operator 52 53 (codes "=")) ∷ (tok Ident 54 55 (codes "p")) ∷ (tok Operator 56 57 (codes "}")) ∷ (tok Inserted 57 57 (codes ";")) ∷ (tok Keyword 59 63 (codes "func")) ∷ (tok Ident 64 68 (codes "main")) ∷ (tok Operator 68 69 (codes "(")) ∷ (tok Operator 69 70 (codes ")")) ∷ (tok Operator 71 72 (codes "{")) ∷ (tok Ident 74 78 (codes "Drop")) ∷ (tok Operator 78 79 (codes "(")) ∷ (tok Ident 79 82 (codes "nil")) ∷ (tok Operator 82 83 (codes ")")) ∷ (tok Inserted 83 83 (codes ";")) ∷ (tok Operator 84 85 (codes "}")) ∷ (tok Inserted 85 85 (codes ";")) ∷ []); comments = ((note 14 29) ∷ []) }) ∷ []) }

nil_to_blank_0_typed : is_typed nil_to_blank_0 ≡ true
nil_to_blank_0_typed = refl

nil_to_blank_0_step : first_change nil_to_blank_0 ≡ Some ((codes "main.go"), BlockForm, (codes "package main\n\n//go:fix inline\nfunc Drop(p *int) { _ = p }\n\nfunc main() {\n\t{\n\t\t_ = (*int)(nil)\n\t}\n}\n"))
nil_to_blank_0_step = refl

abbrev nil_to_blank_1_f0 : File Span
nil_to_blank_1_f0 = record { package_name = (nm 8 12 (codes "main")); imports = []; decls = ((fn (at 30 57) None (nm 35 39 (codes "Drop")) (sig ((param (at 40 46) (Some (nm 40 41 (codes "p"))) (pointer (at 42 46) (named (at 43 46) None (nm 43 46 (codes "int"))))) ∷ []) []) (at 48 57) (stmt_and (assign (at 50 55) (expr_and (ident (at 50 51) (codes "_")) no_exprs) None (expr_and (ident (at 54 55) (codes "p")) no_exprs)) no_stmts)) ∷ (fn (at 59 98) None (nm 64 68 (codes "main")) (sig [] []) (at 71 98) (stmt_and (inner (at 74 96) (stmt_and (assign (at 78 93) (expr_and (ident (at 78 79) (codes "_")) no_exprs) None (expr_and (call (at 82 93) (star (at 83 87) (ident (at 84 87) (codes "int"))) (expr_and (ident (at 89 92) (codes "nil")) no_exprs) Plain) no_exprs)) no_stmts)) no_stmts)) ∷ []) }

nil_to_blank_1_f0_read : read_at span_to read_front (lexemes ((tok Keyword 0 7 (codes "package")) ∷ (tok Ident 8 12 (codes "main")) ∷ (tok Inserted 12 12 (codes ";")) ∷ (tok Keyword 30 34 (codes "func")) ∷ (tok Ident 35 39 (codes "Drop")) ∷ (tok Operator 39 40 (codes "(")) ∷ (tok Ident 40 41 (codes "p")) ∷ (tok Operator 42 43 (codes "*")) ∷ (tok Ident 43 46 (codes "int")) ∷ (tok Operator 46 47 (codes ")")) ∷ (tok Operator 48 49 (codes "{")) ∷ (tok Ident 50 51 (codes "_")) ∷ (tok Operator 52 53 (codes "=")) ∷ (tok Ident 54 55 (codes "p")) ∷ (tok Operator 56 57 (codes "}")) ∷ (tok Inserted 57 57 (codes ";")) ∷ (tok Keyword 59 63 (codes "func")) ∷ (tok Ident 64 68 (codes "main")) ∷ (tok Operator 68 69 (codes "(")) ∷ (tok Operator 69 70 (codes ")")) ∷ (tok Operator 71 72 (codes "{")) ∷ (tok Operator 74 75 (codes "{")) ∷ (tok Ident 78 79 (codes "_")) ∷ (tok Operator 80 81 (codes "=")) ∷ (tok Operator 82 83 (codes "(")) ∷ (tok Operator 83 84 (codes "*")) ∷ (tok Ident 84 87 (codes "int")) ∷ (tok Operator 87 88 (codes ")")) ∷ (tok Operator 88 89 (codes "(")) ∷ (tok Ident 89 92 (codes "nil")) ∷ (tok Operator 92 93 (codes ")")) ∷ (tok Inserted 93 93 (codes ";")) ∷ (tok Operator 95 96 (codes "}")) ∷ (tok Inserted 96 96 (codes ";")) ∷ (tok Operator 97 98 (codes "}")) ∷ (tok Inserted 98 98 (codes ";")) ∷ [])) ≡ Some (nil_to_blank_1_f0, [])
unfolding reading
nil_to_blank_1_f0_read = refl

abbrev nil_to_blank_1 : Module
nil_to_blank_1 = record { packages = (pack (codes "example.com/m") (codes "main") (source (codes "main.go") nil_to_blank_1_f0 ∷ []) ∷ []); marks = (mark 0 0 0 0 ∷ []); texts = (((codes "main.go"), record { text = (codes "package main\n\n//go:fix inline\nfunc Drop(p *int) { _ = p }\n\nfunc main() {\n\t{\n\t\t_ = (*int)(nil)\n\t}\n}\n"); tokens = ((tok Keyword 0 7 (codes "package")) ∷ (tok Ident 8 12 (codes "main")) ∷ (tok Inserted 12 12 (codes ";")) ∷ (tok Keyword 30 34 (codes "func")) ∷ (tok Ident 35 39 (codes "Drop")) ∷ (tok Operator 39 40 (codes "(")) ∷ (tok Ident 40 41 (codes "p")) ∷ (tok Operator 42 43 (codes "*")) ∷ (tok Ident 43 46 (codes "int")) ∷ (tok Operator 46 47 (codes ")")) ∷ (tok Operator 48 49 (codes "{")) ∷ (tok Ident 50 51 (codes "_")) ∷ (tok Operator 52 53 (codes "=")) ∷ (tok Ident 54 55 (codes "p")) ∷ (tok Operator 56 57 (codes "}")) ∷ (tok Inserted 57 57 (codes ";")) ∷ (tok Keyword 59 63 (codes "func")) ∷ (tok Ident 64 68 (codes "main")) ∷ (tok Operator 68 69 (codes "(")) ∷ (tok Operator 69 70 (codes ")")) ∷ (tok Operator 71 72 (codes "{")) ∷ (tok Operator 74 75 (codes "{")) ∷ (tok Ident 78 79 (codes "_")) ∷ (tok Operator 80 81 (codes "=")) ∷ (tok Operator 82 83 (codes "(")) ∷ (tok Operator 83 84 (codes "*")) ∷ (tok Ident 84 87 (codes "int")) ∷ (tok Operator 87 88 (codes ")")) ∷ (tok Operator 88 89 (codes "(")) ∷ (tok Ident 89 92 (codes "nil")) ∷ (tok Operator 92 93 (codes ")")) ∷ (tok Inserted 93 93 (codes ";")) ∷ (tok Operator 95 96 (codes "}")) ∷ (tok Inserted 96 96 (codes ";")) ∷ (tok Operator 97 98 (codes "}")) ∷ (tok Inserted 98 98 (codes ";")) ∷ []); comments = ((note 14 29) ∷ []) }) ∷ []) }

nil_to_blank_1_typed : is_typed nil_to_blank_1 ≡ true
nil_to_blank_1_typed = refl

nil_to_blank_1_ends : step_of nil_to_blank_1 ≡ None
nil_to_blank_1_ends = refl

nil_to_blank_1_kept : kept_uses nil_to_blank_1 ≡ []
nil_to_blank_1_kept = refl

-- An untyped truth value stays as it is.
abbrev truth_0_f0 : File Span
truth_0_f0 = record { package_name = (nm 8 12 (codes "main")); imports = []; decls = ((fn (at 30 65) None (nm 35 38 (codes "Not")) (sig ((param (at 39 45) (Some (nm 39 40 (codes "b"))) (named (at 41 45) None (nm 41 45 (codes "bool")))) ∷ []) ((param (at 47 51) None (named (at 47 51) None (nm 47 51 (codes "bool")))) ∷ [])) (at 52 65) (stmt_and (return_ (at 54 63) (expr_and (unary (at 61 63) Not (ident (at 62 63) (codes "b"))) no_exprs)) no_stmts)) ∷ (fn (at 67 112) None (nm 72 76 (codes "main")) (sig [] []) (at 79 112) (stmt_and (define (at 82 88) ((nm 82 83 (codes "x")) ∷ []) (expr_and (int_lit (at 87 88) (codes "1")) no_exprs)) (stmt_and (eval (at 90 110) (call (at 90 110) (ident (at 90 97) (codes "println")) (expr_and (call (at 98 109) (ident (at 98 101) (codes "Not")) (expr_and (binary (at 102 108) Eq (ident (at 102 103) (codes "x")) (int_lit (at 107 108) (codes "1"))) no_exprs) Plain) no_exprs) Plain)) no_stmts))) ∷ []) }

truth_0_f0_read : read_at span_to read_front (lexemes ((tok Keyword 0 7 (codes "package")) ∷ (tok Ident 8 12 (codes "main")) ∷ (tok Inserted 12 12 (codes ";")) ∷ (tok Keyword 30 34 (codes "func")) ∷ (tok Ident 35 38 (codes "Not")) ∷ (tok Operator 38 39 (codes "(")) ∷ (tok Ident 39 40 (codes "b")) ∷ (tok Ident 41 45 (codes "bool")) ∷ (tok Operator 45 46 (codes ")")) ∷ (tok Ident 47 51 (codes "bool")) ∷ (tok Operator 52 53 (codes "{")) ∷ (tok Keyword 54 60 (codes "return")) ∷ (tok Operator 61 62 (codes "!")) ∷ (tok Ident 62 63 (codes "b")) ∷ (tok Operator 64 65 (codes "}")) ∷ (tok Inserted 65 65 (codes ";")) ∷ (tok Keyword 67 71 (codes "func")) ∷ (tok Ident 72 76 (codes "main")) ∷ (tok Operator 76 77 (codes "(")) ∷ (tok Operator 77 78 (codes ")")) ∷ (tok Operator 79 80 (codes "{")) ∷ (tok Ident 82 83 (codes "x")) ∷ (tok Operator 84 86 (codes ":=")) ∷ (tok Integer 87 88 (codes "1")) ∷ (tok Inserted 88 88 (codes ";")) ∷ (tok Ident 90 97 (codes "println")) ∷ (tok Operator 97 98 (codes "(")) ∷ (tok Ident 98 101 (codes "Not")) ∷ (tok Operator 101 102 (codes "(")) ∷ (tok Ident 102 103 (codes "x")) ∷ (tok Operator 104 106 (codes "==")) ∷ (tok Integer 107 108 (codes "1")) ∷ (tok Operator 108 109 (codes ")")) ∷ (tok Operator 109 110 (codes ")")) ∷ (tok Inserted 110 110 (codes ";")) ∷ (tok Operator 111 112 (codes "}")) ∷ (tok Inserted 112 112 (codes ";")) ∷ [])) ≡ Some (truth_0_f0, [])
unfolding reading
truth_0_f0_read = refl

abbrev truth_0 : Module
truth_0 = record { packages = (pack (codes "example.com/m") (codes "main") (source (codes "main.go") truth_0_f0 ∷ []) ∷ []); marks = (mark 0 0 0 0 ∷ []); texts = (((codes "main.go"), record { text = (codes "package main\n\n//go:fix inline\nfunc Not(b bool) bool { return !b }\n\nfunc main() {\n\tx := 1\n\tprintln(Not(x == 1))\n}\n"); tokens = ((tok Keyword 0 7 (codes "package")) ∷ (tok Ident 8 12 (codes "main")) ∷ (tok Inserted 12 12 (codes ";")) ∷ (tok Keyword 30 34 (codes "func")) ∷ (tok Ident 35 38 (codes "Not")) ∷ (tok Operator 38 39 (codes "(")) ∷ (tok Ident 39 40 (codes "b")) ∷ (tok Ident 41 45 (codes "bool")) ∷ (tok Operator 45 46 (codes ")")) ∷ (tok Ident 47 51 (codes "bool")) ∷ (tok Operator 52 53 (codes "{")) ∷ (tok Keyword 54 60 (codes "return")) ∷ (tok Operator 61 62 (codes "!")) ∷ (tok Ident 62 63 (codes "b")) ∷ (tok Operator 64 65 (codes "}")) ∷ (tok Inserted 65 65 (codes ";")) ∷ (tok Keyword 67 71 (codes "func")) ∷ (tok Ident 72 76 (codes "main")) ∷ (tok Operator 76 77 (codes "(")) ∷ (tok Operator 77 78 (codes ")")) ∷ (tok Operator 79 80 (codes "{")) ∷ (tok Ident 82 83 (codes "x")) ∷ (tok Operator 84 86 (codes ":=")) ∷ (tok Integer 87 88 (codes "1")) ∷ (tok Inserted 88 88 (codes ";")) ∷ (tok Ident 90 97 (codes "println")) ∷ (tok Operator 97 98 (codes "(")) ∷ (tok Ident 98 101 (codes "Not")) ∷ (tok Operator 101 102 (codes "(")) ∷ (tok Ident 102 103 (codes "x")) ∷ (tok Operator 104 106 (codes "==")) ∷ (tok Integer 107 108 (codes "1")) ∷ (tok Operator 108 109 (codes ")")) ∷ (tok Operator 109 110 (codes ")")) ∷ (tok Inserted 110 110 (codes ";")) ∷ (tok Operator 111 112 (codes "}")) ∷ (tok Inserted 112 112 (codes ";")) ∷ []); comments = ((note 14 29) ∷ []) }) ∷ []) }

truth_0_typed : is_typed truth_0 ≡ true
truth_0_typed = refl

truth_0_step : first_change truth_0 ≡ Some ((codes "main.go"), ExprForm, (codes "package main\n\n//go:fix inline\nfunc Not(b bool) bool { return !b }\n\nfunc main() {\n\tx := 1\n\tprintln(!(x == 1))\n}\n"))
truth_0_step = refl

abbrev truth_1_f0 : File Span
truth_1_f0 = record { package_name = (nm 8 12 (codes "main")); imports = []; decls = ((fn (at 30 65) None (nm 35 38 (codes "Not")) (sig ((param (at 39 45) (Some (nm 39 40 (codes "b"))) (named (at 41 45) None (nm 41 45 (codes "bool")))) ∷ []) ((param (at 47 51) None (named (at 47 51) None (nm 47 51 (codes "bool")))) ∷ [])) (at 52 65) (stmt_and (return_ (at 54 63) (expr_and (unary (at 61 63) Not (ident (at 62 63) (codes "b"))) no_exprs)) no_stmts)) ∷ (fn (at 67 110) None (nm 72 76 (codes "main")) (sig [] []) (at 79 110) (stmt_and (define (at 82 88) ((nm 82 83 (codes "x")) ∷ []) (expr_and (int_lit (at 87 88) (codes "1")) no_exprs)) (stmt_and (eval (at 90 108) (call (at 90 108) (ident (at 90 97) (codes "println")) (expr_and (unary (at 98 107) Not (binary (at 100 106) Eq (ident (at 100 101) (codes "x")) (int_lit (at 105 106) (codes "1")))) no_exprs) Plain)) no_stmts))) ∷ []) }

truth_1_f0_read : read_at span_to read_front (lexemes ((tok Keyword 0 7 (codes "package")) ∷ (tok Ident 8 12 (codes "main")) ∷ (tok Inserted 12 12 (codes ";")) ∷ (tok Keyword 30 34 (codes "func")) ∷ (tok Ident 35 38 (codes "Not")) ∷ (tok Operator 38 39 (codes "(")) ∷ (tok Ident 39 40 (codes "b")) ∷ (tok Ident 41 45 (codes "bool")) ∷ (tok Operator 45 46 (codes ")")) ∷ (tok Ident 47 51 (codes "bool")) ∷ (tok Operator 52 53 (codes "{")) ∷ (tok Keyword 54 60 (codes "return")) ∷ (tok Operator 61 62 (codes "!")) ∷ (tok Ident 62 63 (codes "b")) ∷ (tok Operator 64 65 (codes "}")) ∷ (tok Inserted 65 65 (codes ";")) ∷ (tok Keyword 67 71 (codes "func")) ∷ (tok Ident 72 76 (codes "main")) ∷ (tok Operator 76 77 (codes "(")) ∷ (tok Operator 77 78 (codes ")")) ∷ (tok Operator 79 80 (codes "{")) ∷ (tok Ident 82 83 (codes "x")) ∷ (tok Operator 84 86 (codes ":=")) ∷ (tok Integer 87 88 (codes "1")) ∷ (tok Inserted 88 88 (codes ";")) ∷ (tok Ident 90 97 (codes "println")) ∷ (tok Operator 97 98 (codes "(")) ∷ (tok Operator 98 99 (codes "!")) ∷ (tok Operator 99 100 (codes "(")) ∷ (tok Ident 100 101 (codes "x")) ∷ (tok Operator 102 104 (codes "==")) ∷ (tok Integer 105 106 (codes "1")) ∷ (tok Operator 106 107 (codes ")")) ∷ (tok Operator 107 108 (codes ")")) ∷ (tok Inserted 108 108 (codes ";")) ∷ (tok Operator 109 110 (codes "}")) ∷ (tok Inserted 110 110 (codes ";")) ∷ [])) ≡ Some (truth_1_f0, [])
unfolding reading
truth_1_f0_read = refl

abbrev truth_1 : Module
truth_1 = record { packages = (pack (codes "example.com/m") (codes "main") (source (codes "main.go") truth_1_f0 ∷ []) ∷ []); marks = (mark 0 0 0 0 ∷ []); texts = (((codes "main.go"), record { text = (codes "package main\n\n//go:fix inline\nfunc Not(b bool) bool { return !b }\n\nfunc main() {\n\tx := 1\n\tprintln(!(x == 1))\n}\n"); tokens = ((tok Keyword 0 7 (codes "package")) ∷ (tok Ident 8 12 (codes "main")) ∷ (tok Inserted 12 12 (codes ";")) ∷ (tok Keyword 30 34 (codes "func")) ∷ (tok Ident 35 38 (codes "Not")) ∷ (tok Operator 38 39 (codes "(")) ∷ (tok Ident 39 40 (codes "b")) ∷ (tok Ident 41 45 (codes "bool")) ∷ (tok Operator 45 46 (codes ")")) ∷ (tok Ident 47 51 (codes "bool")) ∷ (tok Operator 52 53 (codes "{")) ∷ (tok Keyword 54 60 (codes "return")) ∷ (tok Operator 61 62 (codes "!")) ∷ (tok Ident 62 63 (codes "b")) ∷ (tok Operator 64 65 (codes "}")) ∷ (tok Inserted 65 65 (codes ";")) ∷ (tok Keyword 67 71 (codes "func")) ∷ (tok Ident 72 76 (codes "main")) ∷ (tok Operator 76 77 (codes "(")) ∷ (tok Operator 77 78 (codes ")")) ∷ (tok Operator 79 80 (codes "{")) ∷ (tok Ident 82 83 (codes "x")) ∷ (tok Operator 84 86 (codes ":=")) ∷ (tok Integer 87 88 (codes "1")) ∷ (tok Inserted 88 88 (codes ";")) ∷ (tok Ident 90 97 (codes "println")) ∷ (tok Operator 97 98 (codes "(")) ∷ (tok Operator 98 99 (codes "!")) ∷ (tok Operator 99 100 (codes "(")) ∷ (tok Ident 100 101 (codes "x")) ∷ (tok Operator 102 104 (codes "==")) ∷ (tok Integer 105 106 (codes "1")) ∷ (tok Operator 106 107 (codes ")")) ∷ (tok Operator 107 108 (codes ")")) ∷ (tok Inserted 108 108 (codes ";")) ∷ (tok Operator 109 110 (codes "}")) ∷ (tok Inserted 110 110 (codes ";")) ∷ []); comments = ((note 14 29) ∷ []) }) ∷ []) }

truth_1_typed : is_typed truth_1 ≡ true
truth_1_typed = refl

truth_1_ends : step_of truth_1 ≡ None
truth_1_ends = refl

truth_1_kept : kept_uses truth_1 ≡ []
truth_1_kept = refl

-- Parentheses stand where the tree needs them.
abbrev precedence_0_f0 : File Span
precedence_0_f0 = record { package_name = (nm 8 12 (codes "main")); imports = []; decls = ((fn (at 30 69) None (nm 35 38 (codes "Sum")) (sig ((param (at 39 47) (Some (nm 39 40 (codes "a"))) (named (at 44 47) None (nm 44 47 (codes "int")))) ∷ (param (at 42 47) (Some (nm 42 43 (codes "b"))) (named (at 44 47) None (nm 44 47 (codes "int")))) ∷ []) ((param (at 49 52) None (named (at 49 52) None (nm 49 52 (codes "int")))) ∷ [])) (at 53 69) (stmt_and (return_ (at 55 67) (expr_and (binary (at 62 67) Add (ident (at 62 63) (codes "a")) (ident (at 66 67) (codes "b"))) no_exprs)) no_stmts)) ∷ (fn (at 71 124) None (nm 76 80 (codes "main")) (sig [] []) (at 83 124) (stmt_and (define (at 86 98) ((nm 86 87 (codes "x")) ∷ (nm 89 90 (codes "y")) ∷ []) (expr_and (int_lit (at 94 95) (codes "1")) (expr_and (int_lit (at 97 98) (codes "2")) no_exprs))) (stmt_and (eval (at 100 122) (call (at 100 122) (ident (at 100 107) (codes "println")) (expr_and (binary (at 108 121) Mul (int_lit (at 108 109) (codes "2")) (call (at 112 121) (ident (at 112 115) (codes "Sum")) (expr_and (ident (at 116 117) (codes "x")) (expr_and (ident (at 119 120) (codes "y")) no_exprs)) Plain)) no_exprs) Plain)) no_stmts))) ∷ []) }

precedence_0_f0_read : read_at span_to read_front (lexemes ((tok Keyword 0 7 (codes "package")) ∷ (tok Ident 8 12 (codes "main")) ∷ (tok Inserted 12 12 (codes ";")) ∷ (tok Keyword 30 34 (codes "func")) ∷ (tok Ident 35 38 (codes "Sum")) ∷ (tok Operator 38 39 (codes "(")) ∷ (tok Ident 39 40 (codes "a")) ∷ (tok Operator 40 41 (codes ",")) ∷ (tok Ident 42 43 (codes "b")) ∷ (tok Ident 44 47 (codes "int")) ∷ (tok Operator 47 48 (codes ")")) ∷ (tok Ident 49 52 (codes "int")) ∷ (tok Operator 53 54 (codes "{")) ∷ (tok Keyword 55 61 (codes "return")) ∷ (tok Ident 62 63 (codes "a")) ∷ (tok Operator 64 65 (codes "+")) ∷ (tok Ident 66 67 (codes "b")) ∷ (tok Operator 68 69 (codes "}")) ∷ (tok Inserted 69 69 (codes ";")) ∷ (tok Keyword 71 75 (codes "func")) ∷ (tok Ident 76 80 (codes "main")) ∷ (tok Operator 80 81 (codes "(")) ∷ (tok Operator 81 82 (codes ")")) ∷ (tok Operator 83 84 (codes "{")) ∷ (tok Ident 86 87 (codes "x")) ∷ (tok Operator 87 88 (codes ",")) ∷ (tok Ident 89 90 (codes "y")) ∷ (tok Operator 91 93 (codes ":=")) ∷ (tok Integer 94 95 (codes "1")) ∷ (tok Operator 95 96 (codes ",")) ∷ (tok Integer 97 98 (codes "2")) ∷ (tok Inserted 98 98 (codes ";")) ∷ (tok Ident 100 107 (codes "println")) ∷ (tok Operator 107 108 (codes "(")) ∷ (tok Integer 108 109 (codes "2")) ∷ (tok Operator 110 111 (codes "*")) ∷ (tok Ident 112 115 (codes "Sum")) ∷ (tok Operator 115 116 (codes "(")) ∷ (tok Ident 116 117 (codes "x")) ∷ (tok Operator 117 118 (codes ",")) ∷ (tok Ident 119 120 (codes "y")) ∷ (tok Operator 120 121 (codes ")")) ∷ (tok Operator 121 122 (codes ")")) ∷ (tok Inserted 122 122 (codes ";")) ∷ (tok Operator 123 124 (codes "}")) ∷ (tok Inserted 124 124 (codes ";")) ∷ [])) ≡ Some (precedence_0_f0, [])
unfolding reading
precedence_0_f0_read = refl

abbrev precedence_0 : Module
precedence_0 = record { packages = (pack (codes "example.com/m") (codes "main") (source (codes "main.go") precedence_0_f0 ∷ []) ∷ []); marks = (mark 0 0 0 0 ∷ []); texts = (((codes "main.go"), record { text = (codes "package main\n\n//go:fix inline\nfunc Sum(a, b int) int { return a + b }\n\nfunc main() {\n\tx, y := 1, 2\n\tprintln(2 * Sum(x, y))\n}\n"); tokens = ((tok Keyword 0 7 (codes "package")) ∷ (tok Ident 8 12 (codes "main")) ∷ (tok Inserted 12 12 (codes ";")) ∷ (tok Keyword 30 34 (codes "func")) ∷ (tok Ident 35 38 (codes "Sum")) ∷ (tok Operator 38 39 (codes "(")) ∷ (tok Ident 39 40 (codes "a")) ∷ (tok Operator 40 41 (codes ",")) ∷ (tok Ident 42 43 (codes "b")) ∷ (tok Ident 44 47 (codes "int")) ∷ (tok Operator 47 48 (codes ")")) ∷ (tok Ident 49 52 (codes "int")) ∷ (tok Operator 53 54 (codes "{")) ∷ (tok Keyword 55 61 (codes "return")) ∷ (tok Ident 62 63 (codes "a")) ∷ (tok Operator 64 65 (codes "+")) ∷ (tok Ident 66 67 (codes "b")) ∷ (tok Operator 68 69 (codes "}")) ∷ (tok Inserted 69 69 (codes ";")) ∷ (tok Keyword 71 75 (codes "func")) ∷ (tok Ident 76 80 (codes "main")) ∷ (tok Operator 80 81 (codes "(")) ∷ (tok Operator 81 82 (codes ")")) ∷ (tok Operator 83 84 (codes "{")) ∷ (tok Ident 86 87 (codes "x")) ∷ (tok Operator 87 88 (codes ",")) ∷ (tok Ident 89 90 (codes "y")) ∷ (tok Operator 91 93 (codes ":=")) ∷ (tok Integer 94 95 (codes "1")) ∷ (tok Operator 95 96 (codes ",")) ∷ (tok Integer 97 98 (codes "2")) ∷ (tok Inserted 98 98 (codes ";")) ∷ (tok Ident 100 107 (codes "println")) ∷ (tok Operator 107 108 (codes "(")) ∷ (tok Integer 108 109 (codes "2")) ∷ (tok Operator 110 111 (codes "*")) ∷ (tok Ident 112 115 (codes "Sum")) ∷ (tok Operator 115 116 (codes "(")) ∷ (tok Ident 116 117 (codes "x")) ∷ (tok Operator 117 118 (codes ",")) ∷ (tok Ident 119 120 (codes "y")) ∷ (tok Operator 120 121 (codes ")")) ∷ (tok Operator 121 122 (codes ")")) ∷ (tok Inserted 122 122 (codes ";")) ∷ (tok Operator 123 124 (codes "}")) ∷ (tok Inserted 124 124 (codes ";")) ∷ []); comments = ((note 14 29) ∷ []) }) ∷ []) }

precedence_0_typed : is_typed precedence_0 ≡ true
precedence_0_typed = refl

precedence_0_step : first_change precedence_0 ≡ Some ((codes "main.go"), ExprForm, (codes "package main\n\n//go:fix inline\nfunc Sum(a, b int) int { return a + b }\n\nfunc main() {\n\tx, y := 1, 2\n\tprintln(2 * (x + y))\n}\n"))
precedence_0_step = refl

abbrev precedence_1_f0 : File Span
precedence_1_f0 = record { package_name = (nm 8 12 (codes "main")); imports = []; decls = ((fn (at 30 69) None (nm 35 38 (codes "Sum")) (sig ((param (at 39 47) (Some (nm 39 40 (codes "a"))) (named (at 44 47) None (nm 44 47 (codes "int")))) ∷ (param (at 42 47) (Some (nm 42 43 (codes "b"))) (named (at 44 47) None (nm 44 47 (codes "int")))) ∷ []) ((param (at 49 52) None (named (at 49 52) None (nm 49 52 (codes "int")))) ∷ [])) (at 53 69) (stmt_and (return_ (at 55 67) (expr_and (binary (at 62 67) Add (ident (at 62 63) (codes "a")) (ident (at 66 67) (codes "b"))) no_exprs)) no_stmts)) ∷ (fn (at 71 122) None (nm 76 80 (codes "main")) (sig [] []) (at 83 122) (stmt_and (define (at 86 98) ((nm 86 87 (codes "x")) ∷ (nm 89 90 (codes "y")) ∷ []) (expr_and (int_lit (at 94 95) (codes "1")) (expr_and (int_lit (at 97 98) (codes "2")) no_exprs))) (stmt_and (eval (at 100 120) (call (at 100 120) (ident (at 100 107) (codes "println")) (expr_and (binary (at 108 119) Mul (int_lit (at 108 109) (codes "2")) (binary (at 113 118) Add (ident (at 113 114) (codes "x")) (ident (at 117 118) (codes "y")))) no_exprs) Plain)) no_stmts))) ∷ []) }

precedence_1_f0_read : read_at span_to read_front (lexemes ((tok Keyword 0 7 (codes "package")) ∷ (tok Ident 8 12 (codes "main")) ∷ (tok Inserted 12 12 (codes ";")) ∷ (tok Keyword 30 34 (codes "func")) ∷ (tok Ident 35 38 (codes "Sum")) ∷ (tok Operator 38 39 (codes "(")) ∷ (tok Ident 39 40 (codes "a")) ∷ (tok Operator 40 41 (codes ",")) ∷ (tok Ident 42 43 (codes "b")) ∷ (tok Ident 44 47 (codes "int")) ∷ (tok Operator 47 48 (codes ")")) ∷ (tok Ident 49 52 (codes "int")) ∷ (tok Operator 53 54 (codes "{")) ∷ (tok Keyword 55 61 (codes "return")) ∷ (tok Ident 62 63 (codes "a")) ∷ (tok Operator 64 65 (codes "+")) ∷ (tok Ident 66 67 (codes "b")) ∷ (tok Operator 68 69 (codes "}")) ∷ (tok Inserted 69 69 (codes ";")) ∷ (tok Keyword 71 75 (codes "func")) ∷ (tok Ident 76 80 (codes "main")) ∷ (tok Operator 80 81 (codes "(")) ∷ (tok Operator 81 82 (codes ")")) ∷ (tok Operator 83 84 (codes "{")) ∷ (tok Ident 86 87 (codes "x")) ∷ (tok Operator 87 88 (codes ",")) ∷ (tok Ident 89 90 (codes "y")) ∷ (tok Operator 91 93 (codes ":=")) ∷ (tok Integer 94 95 (codes "1")) ∷ (tok Operator 95 96 (codes ",")) ∷ (tok Integer 97 98 (codes "2")) ∷ (tok Inserted 98 98 (codes ";")) ∷ (tok Ident 100 107 (codes "println")) ∷ (tok Operator 107 108 (codes "(")) ∷ (tok Integer 108 109 (codes "2")) ∷ (tok Operator 110 111 (codes "*")) ∷ (tok Operator 112 113 (codes "(")) ∷ (tok Ident 113 114 (codes "x")) ∷ (tok Operator 115 116 (codes "+")) ∷ (tok Ident 117 118 (codes "y")) ∷ (tok Operator 118 119 (codes ")")) ∷ (tok Operator 119 120 (codes ")")) ∷ (tok Inserted 120 120 (codes ";")) ∷ (tok Operator 121 122 (codes "}")) ∷ (tok Inserted 122 122 (codes ";")) ∷ [])) ≡ Some (precedence_1_f0, [])
unfolding reading
precedence_1_f0_read = refl

abbrev precedence_1 : Module
precedence_1 = record { packages = (pack (codes "example.com/m") (codes "main") (source (codes "main.go") precedence_1_f0 ∷ []) ∷ []); marks = (mark 0 0 0 0 ∷ []); texts = (((codes "main.go"), record { text = (codes "package main\n\n//go:fix inline\nfunc Sum(a, b int) int { return a + b }\n\nfunc main() {\n\tx, y := 1, 2\n\tprintln(2 * (x + y))\n}\n"); tokens = ((tok Keyword 0 7 (codes "package")) ∷ (tok Ident 8 12 (codes "main")) ∷ (tok Inserted 12 12 (codes ";")) ∷ (tok Keyword 30 34 (codes "func")) ∷ (tok Ident 35 38 (codes "Sum")) ∷ (tok Operator 38 39 (codes "(")) ∷ (tok Ident 39 40 (codes "a")) ∷ (tok Operator 40 41 (codes ",")) ∷ (tok Ident 42 43 (codes "b")) ∷ (tok Ident 44 47 (codes "int")) ∷ (tok Operator 47 48 (codes ")")) ∷ (tok Ident 49 52 (codes "int")) ∷ (tok Operator 53 54 (codes "{")) ∷ (tok Keyword 55 61 (codes "return")) ∷ (tok Ident 62 63 (codes "a")) ∷ (tok Operator 64 65 (codes "+")) ∷ (tok Ident 66 67 (codes "b")) ∷ (tok Operator 68 69 (codes "}")) ∷ (tok Inserted 69 69 (codes ";")) ∷ (tok Keyword 71 75 (codes "func")) ∷ (tok Ident 76 80 (codes "main")) ∷ (tok Operator 80 81 (codes "(")) ∷ (tok Operator 81 82 (codes ")")) ∷ (tok Operator 83 84 (codes "{")) ∷ (tok Ident 86 87 (codes "x")) ∷ (tok Operator 87 88 (codes ",")) ∷ (tok Ident 89 90 (codes "y")) ∷ (tok Operator 91 93 (codes ":=")) ∷ (tok Integer 94 95 (codes "1")) ∷ (tok Operator 95 96 (codes ",")) ∷ (tok Integer 97 98 (codes "2")) ∷ (tok Inserted 98 98 (codes ";")) ∷ (tok Ident 100 107 (codes "println")) ∷ (tok Operator 107 108 (codes "(")) ∷ (tok Integer 108 109 (codes "2")) ∷ (tok Operator 110 111 (codes "*")) ∷ (tok Operator 112 113 (codes "(")) ∷ (tok Ident 113 114 (codes "x")) ∷ (tok Operator 115 116 (codes "+")) ∷ (tok Ident 117 118 (codes "y")) ∷ (tok Operator 118 119 (codes ")")) ∷ (tok Operator 119 120 (codes ")")) ∷ (tok Inserted 120 120 (codes ";")) ∷ (tok Operator 121 122 (codes "}")) ∷ (tok Inserted 122 122 (codes ";")) ∷ []); comments = ((note 14 29) ∷ []) }) ∷ []) }

precedence_1_typed : is_typed precedence_1 ≡ true
precedence_1_typed = refl

precedence_1_ends : step_of precedence_1 ≡ None
precedence_1_ends = refl

precedence_1_kept : kept_uses precedence_1 ≡ []
precedence_1_kept = refl

-- A negative constant index is a fault.
abbrev index_fault_0_f0 : File Span
index_fault_0_f0 = record { package_name = (nm 8 12 (codes "main")); imports = []; decls = ((fn (at 30 57) None (nm 35 37 (codes "At")) (sig [] ((param (at 40 43) None (named (at 40 43) None (nm 40 43 (codes "int")))) ∷ [])) (at 44 57) (stmt_and (return_ (at 46 55) (expr_and (unary (at 53 55) Minus (int_lit (at 54 55) (codes "1"))) no_exprs)) no_stmts)) ∷ (fn (at 59 107) None (nm 64 68 (codes "main")) (sig [] []) (at 71 107) (stmt_and (define (at 74 87) ((nm 74 75 (codes "a")) ∷ []) (expr_and (composite (at 79 87) (slice_type (at 79 84) (named (at 81 84) None (nm 81 84 (codes "int")))) (elem (at 85 86) no_value (plain (int_lit (at 85 86) (codes "1"))) no_elems)) no_exprs)) (stmt_and (eval (at 89 105) (call (at 89 105) (ident (at 89 96) (codes "println")) (expr_and (index (at 97 104) (ident (at 97 98) (codes "a")) (call (at 99 103) (ident (at 99 101) (codes "At")) no_exprs Plain)) no_exprs) Plain)) no_stmts))) ∷ []) }

index_fault_0_f0_read : read_at span_to read_front (lexemes ((tok Keyword 0 7 (codes "package")) ∷ (tok Ident 8 12 (codes "main")) ∷ (tok Inserted 12 12 (codes ";")) ∷ (tok Keyword 30 34 (codes "func")) ∷ (tok Ident 35 37 (codes "At")) ∷ (tok Operator 37 38 (codes "(")) ∷ (tok Operator 38 39 (codes ")")) ∷ (tok Ident 40 43 (codes "int")) ∷ (tok Operator 44 45 (codes "{")) ∷ (tok Keyword 46 52 (codes "return")) ∷ (tok Operator 53 54 (codes "-")) ∷ (tok Integer 54 55 (codes "1")) ∷ (tok Operator 56 57 (codes "}")) ∷ (tok Inserted 57 57 (codes ";")) ∷ (tok Keyword 59 63 (codes "func")) ∷ (tok Ident 64 68 (codes "main")) ∷ (tok Operator 68 69 (codes "(")) ∷ (tok Operator 69 70 (codes ")")) ∷ (tok Operator 71 72 (codes "{")) ∷ (tok Ident 74 75 (codes "a")) ∷ (tok Operator 76 78 (codes ":=")) ∷ (tok Operator 79 80 (codes "[")) ∷ (tok Operator 80 81 (codes "]")) ∷ (tok Ident 81 84 (codes "int")) ∷ (tok Operator 84 85 (codes "{")) ∷ (tok Integer 85 86 (codes "1")) ∷ (tok Operator 86 87 (codes "}")) ∷ (tok Inserted 87 87 (codes ";")) ∷ (tok Ident 89 96 (codes "println")) ∷ (tok Operator 96 97 (codes "(")) ∷ (tok Ident 97 98 (codes "a")) ∷ (tok Operator 98 99 (codes "[")) ∷ (tok Ident 99 101 (codes "At")) ∷ (tok Operator 101 102 (codes "(")) ∷ (tok Operator 102 103 (codes ")")) ∷ (tok Operator 103 104 (codes "]")) ∷ (tok Operator 104 105 (codes ")")) ∷ (tok Inserted 105 105 (codes ";")) ∷ (tok Operator 106 107 (codes "}")) ∷ (tok Inserted 107 107 (codes ";")) ∷ [])) ≡ Some (index_fault_0_f0, [])
unfolding reading
index_fault_0_f0_read = refl

abbrev index_fault_0 : Module
index_fault_0 = record { packages = (pack (codes "example.com/m") (codes "main") (source (codes "main.go") index_fault_0_f0 ∷ []) ∷ []); marks = (mark 0 0 0 0 ∷ []); texts = (((codes "main.go"), record { text = (codes "package main\n\n//go:fix inline\nfunc At() int { return -1 }\n\nfunc main() {\n\ta := []int{1}\n\tprintln(a[At()])\n}\n"); tokens = ((tok Keyword 0 7 (codes "package")) ∷ (tok Ident 8 12 (codes "main")) ∷ (tok Inserted 12 12 (codes ";")) ∷ (tok Keyword 30 34 (codes "func")) ∷ (tok Ident 35 37 (codes "At")) ∷ (tok Operator 37 38 (codes "(")) ∷ (tok Operator 38 39 (codes ")")) ∷ (tok Ident 40 43 (codes "int")) ∷ (tok Operator 44 45 (codes "{")) ∷ (tok Keyword 46 52 (codes "return")) ∷ (tok Operator 53 54 (codes "-")) ∷ (tok Integer 54 55 (codes "1")) ∷ (tok Operator 56 57 (codes "}")) ∷ (tok Inserted 57 57 (codes ";")) ∷ (tok Keyword 59 63 (codes "func")) ∷ (tok Ident 64 68 (codes "main")) ∷ (tok Operator 68 69 (codes "(")) ∷ (tok Operator 69 70 (codes ")")) ∷ (tok Operator 71 72 (codes "{")) ∷ (tok Ident 74 75 (codes "a")) ∷ (tok Operator 76 78 (codes ":=")) ∷ (tok Operator 79 80 (codes "[")) ∷ (tok Operator 80 81 (codes "]")) ∷ (tok Ident 81 84 (codes "int")) ∷ (tok Operator 84 85 (codes "{")) ∷ (tok Integer 85 86 (codes "1")) ∷ (tok Operator 86 87 (codes "}")) ∷ (tok Inserted 87 87 (codes ";")) ∷ (tok Ident 89 96 (codes "println")) ∷ (tok Operator 96 97 (codes "(")) ∷ (tok Ident 97 98 (codes "a")) ∷ (tok Operator 98 99 (codes "[")) ∷ (tok Ident 99 101 (codes "At")) ∷ (tok Operator 101 102 (codes "(")) ∷ (tok Operator 102 103 (codes ")")) ∷ (tok Operator 103 104 (codes "]")) ∷ (tok Operator 104 105 (codes ")")) ∷ (tok Inserted 105 105 (codes ";")) ∷ (tok Operator 106 107 (codes "}")) ∷ (tok Inserted 107 107 (codes ";")) ∷ []); comments = ((note 14 29) ∷ []) }) ∷ []) }

index_fault_0_typed : is_typed index_fault_0 ≡ true
index_fault_0_typed = refl

index_fault_0_step : first_change index_fault_0 ≡ Some ((codes "main.go"), LiteralForm, (codes "package main\n\n//go:fix inline\nfunc At() int { return -1 }\n\nfunc main() {\n\ta := []int{1}\n\tprintln(a[func() int {\n\t\treturn -1\n\t}()])\n}\n"))
index_fault_0_step = refl

abbrev index_fault_1_f0 : File Span
index_fault_1_f0 = record { package_name = (nm 8 12 (codes "main")); imports = []; decls = ((fn (at 30 57) None (nm 35 37 (codes "At")) (sig [] ((param (at 40 43) None (named (at 40 43) None (nm 40 43 (codes "int")))) ∷ [])) (at 44 57) (stmt_and (return_ (at 46 55) (expr_and (unary (at 53 55) Minus (int_lit (at 54 55) (codes "1"))) no_exprs)) no_stmts)) ∷ (fn (at 59 132) None (nm 64 68 (codes "main")) (sig [] []) (at 71 132) (stmt_and (define (at 74 87) ((nm 74 75 (codes "a")) ∷ []) (expr_and (composite (at 79 87) (slice_type (at 79 84) (named (at 81 84) None (nm 81 84 (codes "int")))) (elem (at 85 86) no_value (plain (int_lit (at 85 86) (codes "1"))) no_elems)) no_exprs)) (stmt_and (eval (at 89 130) (call (at 89 130) (ident (at 89 96) (codes "println")) (expr_and (index (at 97 129) (ident (at 97 98) (codes "a")) (call (at 99 128) (func_lit (at 99 126) (sig [] ((param (at 106 109) None (named (at 106 109) None (nm 106 109 (codes "int")))) ∷ [])) (at 110 126) (stmt_and (return_ (at 114 123) (expr_and (unary (at 121 123) Minus (int_lit (at 122 123) (codes "1"))) no_exprs)) no_stmts)) no_exprs Plain)) no_exprs) Plain)) no_stmts))) ∷ []) }

index_fault_1_f0_read : read_at span_to read_front (lexemes ((tok Keyword 0 7 (codes "package")) ∷ (tok Ident 8 12 (codes "main")) ∷ (tok Inserted 12 12 (codes ";")) ∷ (tok Keyword 30 34 (codes "func")) ∷ (tok Ident 35 37 (codes "At")) ∷ (tok Operator 37 38 (codes "(")) ∷ (tok Operator 38 39 (codes ")")) ∷ (tok Ident 40 43 (codes "int")) ∷ (tok Operator 44 45 (codes "{")) ∷ (tok Keyword 46 52 (codes "return")) ∷ (tok Operator 53 54 (codes "-")) ∷ (tok Integer 54 55 (codes "1")) ∷ (tok Operator 56 57 (codes "}")) ∷ (tok Inserted 57 57 (codes ";")) ∷ (tok Keyword 59 63 (codes "func")) ∷ (tok Ident 64 68 (codes "main")) ∷ (tok Operator 68 69 (codes "(")) ∷ (tok Operator 69 70 (codes ")")) ∷ (tok Operator 71 72 (codes "{")) ∷ (tok Ident 74 75 (codes "a")) ∷ (tok Operator 76 78 (codes ":=")) ∷ (tok Operator 79 80 (codes "[")) ∷ (tok Operator 80 81 (codes "]")) ∷ (tok Ident 81 84 (codes "int")) ∷ (tok Operator 84 85 (codes "{")) ∷ (tok Integer 85 86 (codes "1")) ∷ (tok Operator 86 87 (codes "}")) ∷ (tok Inserted 87 87 (codes ";")) ∷ (tok Ident 89 96 (codes "println")) ∷ (tok Operator 96 97 (codes "(")) ∷ (tok Ident 97 98 (codes "a")) ∷ (tok Operator 98 99 (codes "[")) ∷ (tok Keyword 99 103 (codes "func")) ∷ (tok Operator 103 104 (codes "(")) ∷ (tok Operator 104 105 (codes ")")) ∷ (tok Ident 106 109 (codes "int")) ∷ (tok Operator 110 111 (codes "{")) ∷ (tok Keyword 114 120 (codes "return")) ∷ (tok Operator 121 122 (codes "-")) ∷ (tok Integer 122 123 (codes "1")) ∷ (tok Inserted 123 123 (codes ";")) ∷ (tok Operator 125 126 (codes "}")) ∷ (tok Operator 126 127 (codes "(")) ∷ (tok Operator 127 128 (codes ")")) ∷ (tok Operator 128 129 (codes "]")) ∷ (tok Operator 129 130 (codes ")")) ∷ (tok Inserted 130 130 (codes ";")) ∷ (tok Operator 131 132 (codes "}")) ∷ (tok Inserted 132 132 (codes ";")) ∷ [])) ≡ Some (index_fault_1_f0, [])
unfolding reading
index_fault_1_f0_read = refl

abbrev index_fault_1 : Module
index_fault_1 = record { packages = (pack (codes "example.com/m") (codes "main") (source (codes "main.go") index_fault_1_f0 ∷ []) ∷ []); marks = (mark 0 0 0 0 ∷ []); texts = (((codes "main.go"), record { text = (codes "package main\n\n//go:fix inline\nfunc At() int { return -1 }\n\nfunc main() {\n\ta := []int{1}\n\tprintln(a[func() int {\n\t\treturn -1\n\t}()])\n}\n"); tokens = ((tok Keyword 0 7 (codes "package")) ∷ (tok Ident 8 12 (codes "main")) ∷ (tok Inserted 12 12 (codes ";")) ∷ (tok Keyword 30 34 (codes "func")) ∷ (tok Ident 35 37 (codes "At")) ∷ (tok Operator 37 38 (codes "(")) ∷ (tok Operator 38 39 (codes ")")) ∷ (tok Ident 40 43 (codes "int")) ∷ (tok Operator 44 45 (codes "{")) ∷ (tok Keyword 46 52 (codes "return")) ∷ (tok Operator 53 54 (codes "-")) ∷ (tok Integer 54 55 (codes "1")) ∷ (tok Operator 56 57 (codes "}")) ∷ (tok Inserted 57 57 (codes ";")) ∷ (tok Keyword 59 63 (codes "func")) ∷ (tok Ident 64 68 (codes "main")) ∷ (tok Operator 68 69 (codes "(")) ∷ (tok Operator 69 70 (codes ")")) ∷ (tok Operator 71 72 (codes "{")) ∷ (tok Ident 74 75 (codes "a")) ∷ (tok Operator 76 78 (codes ":=")) ∷ (tok Operator 79 80 (codes "[")) ∷ (tok Operator 80 81 (codes "]")) ∷ (tok Ident 81 84 (codes "int")) ∷ (tok Operator 84 85 (codes "{")) ∷ (tok Integer 85 86 (codes "1")) ∷ (tok Operator 86 87 (codes "}")) ∷ (tok Inserted 87 87 (codes ";")) ∷ (tok Ident 89 96 (codes "println")) ∷ (tok Operator 96 97 (codes "(")) ∷ (tok Ident 97 98 (codes "a")) ∷ (tok Operator 98 99 (codes "[")) ∷ (tok Keyword 99 103 (codes "func")) ∷ (tok Operator 103 104 (codes "(")) ∷ (tok Operator 104 105 (codes ")")) ∷ (tok Ident 106 109 (codes "int")) ∷ (tok Operator 110 111 (codes "{")) ∷ (tok Keyword 114 120 (codes "return")) ∷ (tok Operator 121 122 (codes "-")) ∷ (tok Integer 122 123 (codes "1")) ∷ (tok Inserted 123 123 (codes ";")) ∷ (tok Operator 125 126 (codes "}")) ∷ (tok Operator 126 127 (codes "(")) ∷ (tok Operator 127 128 (codes ")")) ∷ (tok Operator 128 129 (codes "]")) ∷ (tok Operator 129 130 (codes ")")) ∷ (tok Inserted 130 130 (codes ";")) ∷ (tok Operator 131 132 (codes "}")) ∷ (tok Inserted 132 132 (codes ";")) ∷ []); comments = ((note 14 29) ∷ []) }) ∷ []) }

index_fault_1_typed : is_typed index_fault_1 ≡ true
index_fault_1_typed = refl

index_fault_1_ends : step_of index_fault_1 ≡ None
index_fault_1_ends = refl

index_fault_1_kept : kept_uses index_fault_1 ≡ []
index_fault_1_kept = refl

-- An untyped shift would become constant.
abbrev shift_fault_0_f0 : File Span
shift_fault_0_f0 = record { package_name = (nm 8 12 (codes "main")); imports = []; decls = ((fn (at 30 62) None (nm 35 42 (codes "Seventy")) (sig [] ((param (at 45 48) None (named (at 45 48) None (nm 45 48 (codes "int")))) ∷ [])) (at 49 62) (stmt_and (return_ (at 51 60) (expr_and (int_lit (at 58 60) (codes "70")) no_exprs)) no_stmts)) ∷ (fn (at 64 112) None (nm 69 73 (codes "main")) (sig [] []) (at 76 112) (stmt_and (eval (at 79 110) (call (at 79 110) (ident (at 79 86) (codes "println")) (expr_and (binary (at 87 109) Shr (binary (at 88 102) Shl (int_lit (at 88 89) (codes "1")) (call (at 93 102) (ident (at 93 100) (codes "Seventy")) no_exprs Plain)) (int_lit (at 107 109) (codes "60"))) no_exprs) Plain)) no_stmts)) ∷ []) }

shift_fault_0_f0_read : read_at span_to read_front (lexemes ((tok Keyword 0 7 (codes "package")) ∷ (tok Ident 8 12 (codes "main")) ∷ (tok Inserted 12 12 (codes ";")) ∷ (tok Keyword 30 34 (codes "func")) ∷ (tok Ident 35 42 (codes "Seventy")) ∷ (tok Operator 42 43 (codes "(")) ∷ (tok Operator 43 44 (codes ")")) ∷ (tok Ident 45 48 (codes "int")) ∷ (tok Operator 49 50 (codes "{")) ∷ (tok Keyword 51 57 (codes "return")) ∷ (tok Integer 58 60 (codes "70")) ∷ (tok Operator 61 62 (codes "}")) ∷ (tok Inserted 62 62 (codes ";")) ∷ (tok Keyword 64 68 (codes "func")) ∷ (tok Ident 69 73 (codes "main")) ∷ (tok Operator 73 74 (codes "(")) ∷ (tok Operator 74 75 (codes ")")) ∷ (tok Operator 76 77 (codes "{")) ∷ (tok Ident 79 86 (codes "println")) ∷ (tok Operator 86 87 (codes "(")) ∷ (tok Operator 87 88 (codes "(")) ∷ (tok Integer 88 89 (codes "1")) ∷ (tok Operator 90 92 (codes "<<")) ∷ (tok Ident 93 100 (codes "Seventy")) ∷ (tok Operator 100 101 (codes "(")) ∷ (tok Operator 101 102 (codes ")")) ∷ (tok Operator 102 103 (codes ")")) ∷ (tok Operator 104 106 (codes ">>")) ∷ (tok Integer 107 109 (codes "60")) ∷ (tok Operator 109 110 (codes ")")) ∷ (tok Inserted 110 110 (codes ";")) ∷ (tok Operator 111 112 (codes "}")) ∷ (tok Inserted 112 112 (codes ";")) ∷ [])) ≡ Some (shift_fault_0_f0, [])
unfolding reading
shift_fault_0_f0_read = refl

abbrev shift_fault_0 : Module
shift_fault_0 = record { packages = (pack (codes "example.com/m") (codes "main") (source (codes "main.go") shift_fault_0_f0 ∷ []) ∷ []); marks = (mark 0 0 0 0 ∷ []); texts = (((codes "main.go"), record { text = (codes "package main\n\n//go:fix inline\nfunc Seventy() int { return 70 }\n\nfunc main() {\n\tprintln((1 << Seventy()) >> 60)\n}\n"); tokens = ((tok Keyword 0 7 (codes "package")) ∷ (tok Ident 8 12 (codes "main")) ∷ (tok Inserted 12 12 (codes ";")) ∷ (tok Keyword 30 34 (codes "func")) ∷ (tok Ident 35 42 (codes "Seventy")) ∷ (tok Operator 42 43 (codes "(")) ∷ (tok Operator 43 44 (codes ")")) ∷ (tok Ident 45 48 (codes "int")) ∷ (tok Operator 49 50 (codes "{")) ∷ (tok Keyword 51 57 (codes "return")) ∷ (tok Integer 58 60 (codes "70")) ∷ (tok Operator 61 62 (codes "}")) ∷ (tok Inserted 62 62 (codes ";")) ∷ (tok Keyword 64 68 (codes "func")) ∷ (tok Ident 69 73 (codes "main")) ∷ (tok Operator 73 74 (codes "(")) ∷ (tok Operator 74 75 (codes ")")) ∷ (tok Operator 76 77 (codes "{")) ∷ (tok Ident 79 86 (codes "println")) ∷ (tok Operator 86 87 (codes "(")) ∷ (tok Operator 87 88 (codes "(")) ∷ (tok Integer 88 89 (codes "1")) ∷ (tok Operator 90 92 (codes "<<")) ∷ (tok Ident 93 100 (codes "Seventy")) ∷ (tok Operator 100 101 (codes "(")) ∷ (tok Operator 101 102 (codes ")")) ∷ (tok Operator 102 103 (codes ")")) ∷ (tok Operator 104 106 (codes ">>")) ∷ (tok Integer 107 109 (codes "60")) ∷ (tok Operator 109 110 (codes ")")) ∷ (tok Inserted 110 110 (codes ";")) ∷ (tok Operator 111 112 (codes "}")) ∷ (tok Inserted 112 112 (codes ";")) ∷ []); comments = ((note 14 29) ∷ []) }) ∷ []) }

shift_fault_0_typed : is_typed shift_fault_0 ≡ true
shift_fault_0_typed = refl

shift_fault_0_step : first_change shift_fault_0 ≡ Some ((codes "main.go"), LiteralForm, (codes "package main\n\n//go:fix inline\nfunc Seventy() int { return 70 }\n\nfunc main() {\n\tprintln((1 << func() int {\n\t\treturn 70\n\t}()) >> 60)\n}\n"))
shift_fault_0_step = refl

abbrev shift_fault_1_f0 : File Span
shift_fault_1_f0 = record { package_name = (nm 8 12 (codes "main")); imports = []; decls = ((fn (at 30 62) None (nm 35 42 (codes "Seventy")) (sig [] ((param (at 45 48) None (named (at 45 48) None (nm 45 48 (codes "int")))) ∷ [])) (at 49 62) (stmt_and (return_ (at 51 60) (expr_and (int_lit (at 58 60) (codes "70")) no_exprs)) no_stmts)) ∷ (fn (at 64 132) None (nm 69 73 (codes "main")) (sig [] []) (at 76 132) (stmt_and (eval (at 79 130) (call (at 79 130) (ident (at 79 86) (codes "println")) (expr_and (binary (at 87 129) Shr (binary (at 88 122) Shl (int_lit (at 88 89) (codes "1")) (call (at 93 122) (func_lit (at 93 120) (sig [] ((param (at 100 103) None (named (at 100 103) None (nm 100 103 (codes "int")))) ∷ [])) (at 104 120) (stmt_and (return_ (at 108 117) (expr_and (int_lit (at 115 117) (codes "70")) no_exprs)) no_stmts)) no_exprs Plain)) (int_lit (at 127 129) (codes "60"))) no_exprs) Plain)) no_stmts)) ∷ []) }

shift_fault_1_f0_read : read_at span_to read_front (lexemes ((tok Keyword 0 7 (codes "package")) ∷ (tok Ident 8 12 (codes "main")) ∷ (tok Inserted 12 12 (codes ";")) ∷ (tok Keyword 30 34 (codes "func")) ∷ (tok Ident 35 42 (codes "Seventy")) ∷ (tok Operator 42 43 (codes "(")) ∷ (tok Operator 43 44 (codes ")")) ∷ (tok Ident 45 48 (codes "int")) ∷ (tok Operator 49 50 (codes "{")) ∷ (tok Keyword 51 57 (codes "return")) ∷ (tok Integer 58 60 (codes "70")) ∷ (tok Operator 61 62 (codes "}")) ∷ (tok Inserted 62 62 (codes ";")) ∷ (tok Keyword 64 68 (codes "func")) ∷ (tok Ident 69 73 (codes "main")) ∷ (tok Operator 73 74 (codes "(")) ∷ (tok Operator 74 75 (codes ")")) ∷ (tok Operator 76 77 (codes "{")) ∷ (tok Ident 79 86 (codes "println")) ∷ (tok Operator 86 87 (codes "(")) ∷ (tok Operator 87 88 (codes "(")) ∷ (tok Integer 88 89 (codes "1")) ∷ (tok Operator 90 92 (codes "<<")) ∷ (tok Keyword 93 97 (codes "func")) ∷ (tok Operator 97 98 (codes "(")) ∷ (tok Operator 98 99 (codes ")")) ∷ (tok Ident 100 103 (codes "int")) ∷ (tok Operator 104 105 (codes "{")) ∷ (tok Keyword 108 114 (codes "return")) ∷ (tok Integer 115 117 (codes "70")) ∷ (tok Inserted 117 117 (codes ";")) ∷ (tok Operator 119 120 (codes "}")) ∷ (tok Operator 120 121 (codes "(")) ∷ (tok Operator 121 122 (codes ")")) ∷ (tok Operator 122 123 (codes ")")) ∷ (tok Operator 124 126 (codes ">>")) ∷ (tok Integer 127 129 (codes "60")) ∷ (tok Operator 129 130 (codes ")")) ∷ (tok Inserted 130 130 (codes ";")) ∷ (tok Operator 131 132 (codes "}")) ∷ (tok Inserted 132 132 (codes ";")) ∷ [])) ≡ Some (shift_fault_1_f0, [])
unfolding reading
shift_fault_1_f0_read = refl

abbrev shift_fault_1 : Module
shift_fault_1 = record { packages = (pack (codes "example.com/m") (codes "main") (source (codes "main.go") shift_fault_1_f0 ∷ []) ∷ []); marks = (mark 0 0 0 0 ∷ []); texts = (((codes "main.go"), record { text = (codes "package main\n\n//go:fix inline\nfunc Seventy() int { return 70 }\n\nfunc main() {\n\tprintln((1 << func() int {\n\t\treturn 70\n\t}()) >> 60)\n}\n"); tokens = ((tok Keyword 0 7 (codes "package")) ∷ (tok Ident 8 12 (codes "main")) ∷ (tok Inserted 12 12 (codes ";")) ∷ (tok Keyword 30 34 (codes "func")) ∷ (tok Ident 35 42 (codes "Seventy")) ∷ (tok Operator 42 43 (codes "(")) ∷ (tok Operator 43 44 (codes ")")) ∷ (tok Ident 45 48 (codes "int")) ∷ (tok Operator 49 50 (codes "{")) ∷ (tok Keyword 51 57 (codes "return")) ∷ (tok Integer 58 60 (codes "70")) ∷ (tok Operator 61 62 (codes "}")) ∷ (tok Inserted 62 62 (codes ";")) ∷ (tok Keyword 64 68 (codes "func")) ∷ (tok Ident 69 73 (codes "main")) ∷ (tok Operator 73 74 (codes "(")) ∷ (tok Operator 74 75 (codes ")")) ∷ (tok Operator 76 77 (codes "{")) ∷ (tok Ident 79 86 (codes "println")) ∷ (tok Operator 86 87 (codes "(")) ∷ (tok Operator 87 88 (codes "(")) ∷ (tok Integer 88 89 (codes "1")) ∷ (tok Operator 90 92 (codes "<<")) ∷ (tok Keyword 93 97 (codes "func")) ∷ (tok Operator 97 98 (codes "(")) ∷ (tok Operator 98 99 (codes ")")) ∷ (tok Ident 100 103 (codes "int")) ∷ (tok Operator 104 105 (codes "{")) ∷ (tok Keyword 108 114 (codes "return")) ∷ (tok Integer 115 117 (codes "70")) ∷ (tok Inserted 117 117 (codes ";")) ∷ (tok Operator 119 120 (codes "}")) ∷ (tok Operator 120 121 (codes "(")) ∷ (tok Operator 121 122 (codes ")")) ∷ (tok Operator 122 123 (codes ")")) ∷ (tok Operator 124 126 (codes ">>")) ∷ (tok Integer 127 129 (codes "60")) ∷ (tok Operator 129 130 (codes ")")) ∷ (tok Inserted 130 130 (codes ";")) ∷ (tok Operator 131 132 (codes "}")) ∷ (tok Inserted 132 132 (codes ";")) ∷ []); comments = ((note 14 29) ∷ []) }) ∷ []) }

shift_fault_1_typed : is_typed shift_fault_1 ≡ true
shift_fault_1_typed = refl

shift_fault_1_ends : step_of shift_fault_1 ≡ None
shift_fault_1_ends = refl

shift_fault_1_kept : kept_uses shift_fault_1 ≡ []
shift_fault_1_kept = refl

-- A use in a deferred literal keeps a variable bound, and `defer` keeps the literal.
abbrev deferred_variable_0_f0 : File Span
deferred_variable_0_f0 = record { package_name = (nm 8 12 (codes "main")); imports = []; decls = ((fn (at 30 98) None (nm 35 39 (codes "Show")) (sig ((param (at 40 45) (Some (nm 40 41 (codes "x"))) (named (at 42 45) None (nm 42 45 (codes "int")))) ∷ []) []) (at 47 98) (stmt_and (defer (at 50 82) (call (at 56 82) (func_lit (at 56 80) (sig [] []) (at 63 80) (stmt_and (eval (at 67 77) (call (at 67 77) (ident (at 67 74) (codes "println")) (expr_and (ident (at 75 76) (codes "x")) no_exprs) Plain)) no_stmts)) no_exprs Plain)) (stmt_and (eval (at 84 96) (call (at 84 96) (ident (at 84 91) (codes "println")) (expr_and (str_lit (at 92 95) (codes "\"a\"")) no_exprs) Plain)) no_stmts))) ∷ (fn (at 100 144) None (nm 105 109 (codes "main")) (sig [] []) (at 112 144) (stmt_and (define (at 115 121) ((nm 115 116 (codes "a")) ∷ []) (expr_and (int_lit (at 120 121) (codes "1")) no_exprs)) (stmt_and (eval (at 123 130) (call (at 123 130) (ident (at 123 127) (codes "Show")) (expr_and (ident (at 128 129) (codes "a")) no_exprs) Plain)) (stmt_and (eval (at 132 142) (call (at 132 142) (ident (at 132 139) (codes "println")) (expr_and (ident (at 140 141) (codes "a")) no_exprs) Plain)) no_stmts)))) ∷ []) }

deferred_variable_0_f0_read : read_at span_to read_front (lexemes ((tok Keyword 0 7 (codes "package")) ∷ (tok Ident 8 12 (codes "main")) ∷ (tok Inserted 12 12 (codes ";")) ∷ (tok Keyword 30 34 (codes "func")) ∷ (tok Ident 35 39 (codes "Show")) ∷ (tok Operator 39 40 (codes "(")) ∷ (tok Ident 40 41 (codes "x")) ∷ (tok Ident 42 45 (codes "int")) ∷ (tok Operator 45 46 (codes ")")) ∷ (tok Operator 47 48 (codes "{")) ∷ (tok Keyword 50 55 (codes "defer")) ∷ (tok Keyword 56 60 (codes "func")) ∷ (tok Operator 60 61 (codes "(")) ∷ (tok Operator 61 62 (codes ")")) ∷ (tok Operator 63 64 (codes "{")) ∷ (tok Ident 67 74 (codes "println")) ∷ (tok Operator 74 75 (codes "(")) ∷ (tok Ident 75 76 (codes "x")) ∷ (tok Operator 76 77 (codes ")")) ∷ (tok Inserted 77 77 (codes ";")) ∷ (tok Operator 79 80 (codes "}")) ∷ (tok Operator 80 81 (codes "(")) ∷ (tok Operator 81 82 (codes ")")) ∷ (tok Inserted 82 82 (codes ";")) ∷ (tok Ident 84 91 (codes "println")) ∷ (tok Operator 91 92 (codes "(")) ∷ (tok Str 92 95 (codes "\"a\"")) ∷ (tok Operator 95 96 (codes ")")) ∷ (tok Inserted 96 96 (codes ";")) ∷ (tok Operator 97 98 (codes "}")) ∷ (tok Inserted 98 98 (codes ";")) ∷ (tok Keyword 100 104 (codes "func")) ∷ (tok Ident 105 109 (codes "main")) ∷ (tok Operator 109 110 (codes "(")) ∷ (tok Operator 110 111 (codes ")")) ∷ (tok Operator 112 113 (codes "{")) ∷ (tok Ident 115 116 (codes "a")) ∷ (tok Operator 117 119 (codes ":=")) ∷ (tok Integer 120 121 (codes "1")) ∷ (tok Inserted 121 121 (codes ";")) ∷ (tok Ident 123 127 (codes "Show")) ∷ (tok Operator 127 128 (codes "(")) ∷ (tok Ident 128 129 (codes "a")) ∷ (tok Operator 129 130 (codes ")")) ∷ (tok Inserted 130 130 (codes ";")) ∷ (tok Ident 132 139 (codes "println")) ∷ (tok Operator 139 140 (codes "(")) ∷ (tok Ident 140 141 (codes "a")) ∷ (tok Operator 141 142 (codes ")")) ∷ (tok Inserted 142 142 (codes ";")) ∷ (tok Operator 143 144 (codes "}")) ∷ (tok Inserted 144 144 (codes ";")) ∷ [])) ≡ Some (deferred_variable_0_f0, [])
unfolding reading
deferred_variable_0_f0_read = refl

abbrev deferred_variable_0 : Module
deferred_variable_0 = record { packages = (pack (codes "example.com/m") (codes "main") (source (codes "main.go") deferred_variable_0_f0 ∷ []) ∷ []); marks = (mark 0 0 0 0 ∷ []); texts = (((codes "main.go"), record { text = (codes "package main\n\n//go:fix inline\nfunc Show(x int) {\n\tdefer func() {\n\t\tprintln(x)\n\t}()\n\tprintln(\"a\")\n}\n\nfunc main() {\n\ta := 1\n\tShow(a)\n\tprintln(a)\n}\n"); tokens = ((tok Keyword 0 7 (codes "package")) ∷ (tok Ident 8 12 (codes "main")) ∷ (tok Inserted 12 12 (codes ";")) ∷ (tok Keyword 30 34 (codes "func")) ∷ (tok Ident 35 39 (codes "Show")) ∷ (tok Operator 39 40 (codes "(")) ∷ (tok Ident 40 41 (codes "x")) ∷ (tok Ident 42 45 (codes "int")) ∷ (tok Operator 45 46 (codes ")")) ∷ (tok Operator 47 48 (codes "{")) ∷ (tok Keyword 50 55 (codes "defer")) ∷ (tok Keyword 56 60 (codes "func")) ∷ (tok Operator 60 61 (codes "(")) ∷ (tok Operator 61 62 (codes ")")) ∷ (tok Operator 63 64 (codes "{")) ∷ (tok Ident 67 74 (codes "println")) ∷ (tok Operator 74 75 (codes "(")) ∷ (tok Ident 75 76 (codes "x")) ∷ (tok Operator 76 77 (codes ")")) ∷ (tok Inserted 77 77 (codes ";")) ∷ (tok Operator 79 80 (codes "}")) ∷ (tok Operator 80 81 (codes "(")) ∷ (tok Operator 81 82 (codes ")")) ∷ (tok Inserted 82 82 (codes ";")) ∷ (tok Ident 84 91 (codes "println")) ∷ (tok Operator 91 92 (codes "(")) ∷ (tok Str 92 95 (codes "\"a\"")) ∷ (tok Operator 95 96 (codes ")")) ∷ (tok Inserted 96 96 (codes ";")) ∷ (tok Operator 97 98 (codes "}")) ∷ (tok Inserted 98 98 (codes ";")) ∷ (tok Keyword 100 104 (codes "func")) ∷ (tok Ident 105 109 (codes "main")) ∷ (tok Operator 109 110 (codes "(")) ∷ (tok Operator 110 111 (codes ")")) ∷ (tok Operator 112 113 (codes "{")) ∷ (tok Ident 115 116 (codes "a")) ∷ (tok Operator 117 119 (codes ":=")) ∷ (tok Integer 120 121 (codes "1")) ∷ (tok Inserted 121 121 (codes ";")) ∷ (tok Ident 123 127 (codes "Show")) ∷ (tok Operator 127 128 (codes "(")) ∷ (tok Ident 128 129 (codes "a")) ∷ (tok Operator 129 130 (codes ")")) ∷ (tok Inserted 130 130 (codes ";")) ∷ (tok Ident 132 139 (codes "println")) ∷ (tok Operator 139 140 (codes "(")) ∷ (tok Ident 140 141 (codes "a")) ∷ (tok Operator 141 142 (codes ")")) ∷ (tok Inserted 142 142 (codes ";")) ∷ (tok Operator 143 144 (codes "}")) ∷ (tok Inserted 144 144 (codes ";")) ∷ []); comments = ((note 14 29) ∷ []) }) ∷ []) }

deferred_variable_0_typed : is_typed deferred_variable_0 ≡ true
deferred_variable_0_typed = refl

deferred_variable_0_step : first_change deferred_variable_0 ≡ Some ((codes "main.go"), LiteralForm, (codes "package main\n\n//go:fix inline\nfunc Show(x int) {\n\tdefer func() {\n\t\tprintln(x)\n\t}()\n\tprintln(\"a\")\n}\n\nfunc main() {\n\ta := 1\n\tfunc(x int) {\n\t\tdefer func() {\n\t\t\tprintln(x)\n\t\t}()\n\t\tprintln(\"a\")\n\t}(a)\n\tprintln(a)\n}\n"))
deferred_variable_0_step = refl

abbrev deferred_variable_1_f0 : File Span
deferred_variable_1_f0 = record { package_name = (nm 8 12 (codes "main")); imports = []; decls = ((fn (at 30 98) None (nm 35 39 (codes "Show")) (sig ((param (at 40 45) (Some (nm 40 41 (codes "x"))) (named (at 42 45) None (nm 42 45 (codes "int")))) ∷ []) []) (at 47 98) (stmt_and (defer (at 50 82) (call (at 56 82) (func_lit (at 56 80) (sig [] []) (at 63 80) (stmt_and (eval (at 67 77) (call (at 67 77) (ident (at 67 74) (codes "println")) (expr_and (ident (at 75 76) (codes "x")) no_exprs) Plain)) no_stmts)) no_exprs Plain)) (stmt_and (eval (at 84 96) (call (at 84 96) (ident (at 84 91) (codes "println")) (expr_and (str_lit (at 92 95) (codes "\"a\"")) no_exprs) Plain)) no_stmts))) ∷ (fn (at 100 208) None (nm 105 109 (codes "main")) (sig [] []) (at 112 208) (stmt_and (define (at 115 121) ((nm 115 116 (codes "a")) ∷ []) (expr_and (int_lit (at 120 121) (codes "1")) no_exprs)) (stmt_and (eval (at 123 194) (call (at 123 194) (func_lit (at 123 191) (sig ((param (at 128 133) (Some (nm 128 129 (codes "x"))) (named (at 130 133) None (nm 130 133 (codes "int")))) ∷ []) []) (at 135 191) (stmt_and (defer (at 139 173) (call (at 145 173) (func_lit (at 145 171) (sig [] []) (at 152 171) (stmt_and (eval (at 157 167) (call (at 157 167) (ident (at 157 164) (codes "println")) (expr_and (ident (at 165 166) (codes "x")) no_exprs) Plain)) no_stmts)) no_exprs Plain)) (stmt_and (eval (at 176 188) (call (at 176 188) (ident (at 176 183) (codes "println")) (expr_and (str_lit (at 184 187) (codes "\"a\"")) no_exprs) Plain)) no_stmts))) (expr_and (ident (at 192 193) (codes "a")) no_exprs) Plain)) (stmt_and (eval (at 196 206) (call (at 196 206) (ident (at 196 203) (codes "println")) (expr_and (ident (at 204 205) (codes "a")) no_exprs) Plain)) no_stmts)))) ∷ []) }

deferred_variable_1_f0_read : read_at span_to read_front (lexemes ((tok Keyword 0 7 (codes "package")) ∷ (tok Ident 8 12 (codes "main")) ∷ (tok Inserted 12 12 (codes ";")) ∷ (tok Keyword 30 34 (codes "func")) ∷ (tok Ident 35 39 (codes "Show")) ∷ (tok Operator 39 40 (codes "(")) ∷ (tok Ident 40 41 (codes "x")) ∷ (tok Ident 42 45 (codes "int")) ∷ (tok Operator 45 46 (codes ")")) ∷ (tok Operator 47 48 (codes "{")) ∷ (tok Keyword 50 55 (codes "defer")) ∷ (tok Keyword 56 60 (codes "func")) ∷ (tok Operator 60 61 (codes "(")) ∷ (tok Operator 61 62 (codes ")")) ∷ (tok Operator 63 64 (codes "{")) ∷ (tok Ident 67 74 (codes "println")) ∷ (tok Operator 74 75 (codes "(")) ∷ (tok Ident 75 76 (codes "x")) ∷ (tok Operator 76 77 (codes ")")) ∷ (tok Inserted 77 77 (codes ";")) ∷ (tok Operator 79 80 (codes "}")) ∷ (tok Operator 80 81 (codes "(")) ∷ (tok Operator 81 82 (codes ")")) ∷ (tok Inserted 82 82 (codes ";")) ∷ (tok Ident 84 91 (codes "println")) ∷ (tok Operator 91 92 (codes "(")) ∷ (tok Str 92 95 (codes "\"a\"")) ∷ (tok Operator 95 96 (codes ")")) ∷ (tok Inserted 96 96 (codes ";")) ∷ (tok Operator 97 98 (codes "}")) ∷ (tok Inserted 98 98 (codes ";")) ∷ (tok Keyword 100 104 (codes "func")) ∷ (tok Ident 105 109 (codes "main")) ∷ (tok Operator 109 110 (codes "(")) ∷ (tok Operator 110 111 (codes ")")) ∷ (tok Operator 112 113 (codes "{")) ∷ (tok Ident 115 116 (codes "a")) ∷ (tok Operator 117 119 (codes ":=")) ∷ (tok Integer 120 121 (codes "1")) ∷ (tok Inserted 121 121 (codes ";")) ∷ (tok Keyword 123 127 (codes "func")) ∷ (tok Operator 127 128 (codes "(")) ∷ (tok Ident 128 129 (codes "x")) ∷ (tok Ident 130 133 (codes "int")) ∷ (tok Operator 133 134 (codes ")")) ∷ (tok Operator 135 136 (codes "{")) ∷ (tok Keyword 139 144 (codes "defer")) ∷ (tok Keyword 145 149 (codes "func")) ∷ (tok Operator 149 150 (codes "(")) ∷ (tok Operator 150 151 (codes ")")) ∷ (tok Operator 152 153 (codes "{")) ∷ (tok Ident 157 164 (codes "println")) ∷ (tok Operator 164 165 (codes "(")) ∷ (tok Ident 165 166 (codes "x")) ∷ (tok Operator 166 167 (codes ")")) ∷ (tok Inserted 167 167 (codes ";")) ∷ (tok Operator 170 171 (codes "}")) ∷ (tok Operator 171 172 (codes "(")) ∷ (tok Operator 172 173 (codes ")")) ∷ (tok Inserted 173 173 (codes ";")) ∷ (tok Ident 176 183 (codes "println")) ∷ (tok Operator 183 184 (codes "(")) ∷ (tok Str 184 187 (codes "\"a\"")) ∷ (tok Operator 187 188 (codes ")")) ∷ (tok Inserted 188 188 (codes ";")) ∷ (tok Operator 190 191 (codes "}")) ∷ (tok Operator 191 192 (codes "(")) ∷ (tok Ident 192 193 (codes "a")) ∷ (tok Operator 193 194 (codes ")")) ∷ (tok Inserted 194 194 (codes ";")) ∷ (tok Ident 196 203 (codes "println")) ∷ (tok Operator 203 204 (codes "(")) ∷ (tok Ident 204 205 (codes "a")) ∷ (tok Operator 205 206 (codes ")")) ∷ (tok Inserted 206 206 (codes ";")) ∷ (tok Operator 207 208 (codes "}")) ∷ (tok Inserted 208 208 (codes ";")) ∷ [])) ≡ Some (deferred_variable_1_f0, [])
unfolding reading
deferred_variable_1_f0_read = refl

abbrev deferred_variable_1 : Module
deferred_variable_1 = record { packages = (pack (codes "example.com/m") (codes "main") (source (codes "main.go") deferred_variable_1_f0 ∷ []) ∷ []); marks = (mark 0 0 0 0 ∷ []); texts = (((codes "main.go"), record { text = (codes "package main\n\n//go:fix inline\nfunc Show(x int) {\n\tdefer func() {\n\t\tprintln(x)\n\t}()\n\tprintln(\"a\")\n}\n\nfunc main() {\n\ta := 1\n\tfunc(x int) {\n\t\tdefer func() {\n\t\t\tprintln(x)\n\t\t}()\n\t\tprintln(\"a\")\n\t}(a)\n\tprintln(a)\n}\n"); tokens = ((tok Keyword 0 7 (codes "package")) ∷ (tok Ident 8 12 (codes "main")) ∷ (tok Inserted 12 12 (codes ";")) ∷ (tok Keyword 30 34 (codes "func")) ∷ (tok Ident 35 39 (codes "Show")) ∷ (tok Operator 39 40 (codes "(")) ∷ (tok Ident 40 41 (codes "x")) ∷ (tok Ident 42 45 (codes "int")) ∷ (tok Operator 45 46 (codes ")")) ∷ (tok Operator 47 48 (codes "{")) ∷ (tok Keyword 50 55 (codes "defer")) ∷ (tok Keyword 56 60 (codes "func")) ∷ (tok Operator 60 61 (codes "(")) ∷ (tok Operator 61 62 (codes ")")) ∷ (tok Operator 63 64 (codes "{")) ∷ (tok Ident 67 74 (codes "println")) ∷ (tok Operator 74 75 (codes "(")) ∷ (tok Ident 75 76 (codes "x")) ∷ (tok Operator 76 77 (codes ")")) ∷ (tok Inserted 77 77 (codes ";")) ∷ (tok Operator 79 80 (codes "}")) ∷ (tok Operator 80 81 (codes "(")) ∷ (tok Operator 81 82 (codes ")")) ∷ (tok Inserted 82 82 (codes ";")) ∷ (tok Ident 84 91 (codes "println")) ∷ (tok Operator 91 92 (codes "(")) ∷ (tok Str 92 95 (codes "\"a\"")) ∷ (tok Operator 95 96 (codes ")")) ∷ (tok Inserted 96 96 (codes ";")) ∷ (tok Operator 97 98 (codes "}")) ∷ (tok Inserted 98 98 (codes ";")) ∷ (tok Keyword 100 104 (codes "func")) ∷ (tok Ident 105 109 (codes "main")) ∷ (tok Operator 109 110 (codes "(")) ∷ (tok Operator 110 111 (codes ")")) ∷ (tok Operator 112 113 (codes "{")) ∷ (tok Ident 115 116 (codes "a")) ∷ (tok Operator 117 119 (codes ":=")) ∷ (tok Integer 120 121 (codes "1")) ∷ (tok Inserted 121 121 (codes ";")) ∷ (tok Keyword 123 127 (codes "func")) ∷ (tok Operator 127 128 (codes "(")) ∷ (tok Ident 128 129 (codes "x")) ∷ (tok Ident 130 133 (codes "int")) ∷ (tok Operator 133 134 (codes ")")) ∷ (tok Operator 135 136 (codes "{")) ∷ (tok Keyword 139 144 (codes "defer")) ∷ (tok Keyword 145 149 (codes "func")) ∷ (tok Operator 149 150 (codes "(")) ∷ (tok Operator 150 151 (codes ")")) ∷ (tok Operator 152 153 (codes "{")) ∷ (tok Ident 157 164 (codes "println")) ∷ (tok Operator 164 165 (codes "(")) ∷ (tok Ident 165 166 (codes "x")) ∷ (tok Operator 166 167 (codes ")")) ∷ (tok Inserted 167 167 (codes ";")) ∷ (tok Operator 170 171 (codes "}")) ∷ (tok Operator 171 172 (codes "(")) ∷ (tok Operator 172 173 (codes ")")) ∷ (tok Inserted 173 173 (codes ";")) ∷ (tok Ident 176 183 (codes "println")) ∷ (tok Operator 183 184 (codes "(")) ∷ (tok Str 184 187 (codes "\"a\"")) ∷ (tok Operator 187 188 (codes ")")) ∷ (tok Inserted 188 188 (codes ";")) ∷ (tok Operator 190 191 (codes "}")) ∷ (tok Operator 191 192 (codes "(")) ∷ (tok Ident 192 193 (codes "a")) ∷ (tok Operator 193 194 (codes ")")) ∷ (tok Inserted 194 194 (codes ";")) ∷ (tok Ident 196 203 (codes "println")) ∷ (tok Operator 203 204 (codes "(")) ∷ (tok Ident 204 205 (codes "a")) ∷ (tok Operator 205 206 (codes ")")) ∷ (tok Inserted 206 206 (codes ";")) ∷ (tok Operator 207 208 (codes "}")) ∷ (tok Inserted 208 208 (codes ";")) ∷ []); comments = ((note 14 29) ∷ []) }) ∷ []) }

deferred_variable_1_typed : is_typed deferred_variable_1 ≡ true
deferred_variable_1_typed = refl

deferred_variable_1_ends : step_of deferred_variable_1 ≡ None
deferred_variable_1_ends = refl

deferred_variable_1_kept : kept_uses deferred_variable_1 ≡ []
deferred_variable_1_kept = refl

-- A constant may be used in a deferred literal.
abbrev deferred_constant_0_f0 : File Span
deferred_constant_0_f0 = record { package_name = (nm 8 12 (codes "main")); imports = []; decls = ((fn (at 30 98) None (nm 35 39 (codes "Show")) (sig ((param (at 40 45) (Some (nm 40 41 (codes "x"))) (named (at 42 45) None (nm 42 45 (codes "int")))) ∷ []) []) (at 47 98) (stmt_and (defer (at 50 82) (call (at 56 82) (func_lit (at 56 80) (sig [] []) (at 63 80) (stmt_and (eval (at 67 77) (call (at 67 77) (ident (at 67 74) (codes "println")) (expr_and (ident (at 75 76) (codes "x")) no_exprs) Plain)) no_stmts)) no_exprs Plain)) (stmt_and (eval (at 84 96) (call (at 84 96) (ident (at 84 91) (codes "println")) (expr_and (str_lit (at 92 95) (codes "\"a\"")) no_exprs) Plain)) no_stmts))) ∷ (fn (at 100 124) None (nm 105 109 (codes "main")) (sig [] []) (at 112 124) (stmt_and (eval (at 115 122) (call (at 115 122) (ident (at 115 119) (codes "Show")) (expr_and (int_lit (at 120 121) (codes "2")) no_exprs) Plain)) no_stmts)) ∷ []) }

deferred_constant_0_f0_read : read_at span_to read_front (lexemes ((tok Keyword 0 7 (codes "package")) ∷ (tok Ident 8 12 (codes "main")) ∷ (tok Inserted 12 12 (codes ";")) ∷ (tok Keyword 30 34 (codes "func")) ∷ (tok Ident 35 39 (codes "Show")) ∷ (tok Operator 39 40 (codes "(")) ∷ (tok Ident 40 41 (codes "x")) ∷ (tok Ident 42 45 (codes "int")) ∷ (tok Operator 45 46 (codes ")")) ∷ (tok Operator 47 48 (codes "{")) ∷ (tok Keyword 50 55 (codes "defer")) ∷ (tok Keyword 56 60 (codes "func")) ∷ (tok Operator 60 61 (codes "(")) ∷ (tok Operator 61 62 (codes ")")) ∷ (tok Operator 63 64 (codes "{")) ∷ (tok Ident 67 74 (codes "println")) ∷ (tok Operator 74 75 (codes "(")) ∷ (tok Ident 75 76 (codes "x")) ∷ (tok Operator 76 77 (codes ")")) ∷ (tok Inserted 77 77 (codes ";")) ∷ (tok Operator 79 80 (codes "}")) ∷ (tok Operator 80 81 (codes "(")) ∷ (tok Operator 81 82 (codes ")")) ∷ (tok Inserted 82 82 (codes ";")) ∷ (tok Ident 84 91 (codes "println")) ∷ (tok Operator 91 92 (codes "(")) ∷ (tok Str 92 95 (codes "\"a\"")) ∷ (tok Operator 95 96 (codes ")")) ∷ (tok Inserted 96 96 (codes ";")) ∷ (tok Operator 97 98 (codes "}")) ∷ (tok Inserted 98 98 (codes ";")) ∷ (tok Keyword 100 104 (codes "func")) ∷ (tok Ident 105 109 (codes "main")) ∷ (tok Operator 109 110 (codes "(")) ∷ (tok Operator 110 111 (codes ")")) ∷ (tok Operator 112 113 (codes "{")) ∷ (tok Ident 115 119 (codes "Show")) ∷ (tok Operator 119 120 (codes "(")) ∷ (tok Integer 120 121 (codes "2")) ∷ (tok Operator 121 122 (codes ")")) ∷ (tok Inserted 122 122 (codes ";")) ∷ (tok Operator 123 124 (codes "}")) ∷ (tok Inserted 124 124 (codes ";")) ∷ [])) ≡ Some (deferred_constant_0_f0, [])
unfolding reading
deferred_constant_0_f0_read = refl

abbrev deferred_constant_0 : Module
deferred_constant_0 = record { packages = (pack (codes "example.com/m") (codes "main") (source (codes "main.go") deferred_constant_0_f0 ∷ []) ∷ []); marks = (mark 0 0 0 0 ∷ []); texts = (((codes "main.go"), record { text = (codes "package main\n\n//go:fix inline\nfunc Show(x int) {\n\tdefer func() {\n\t\tprintln(x)\n\t}()\n\tprintln(\"a\")\n}\n\nfunc main() {\n\tShow(2)\n}\n"); tokens = ((tok Keyword 0 7 (codes "package")) ∷ (tok Ident 8 12 (codes "main")) ∷ (tok Inserted 12 12 (codes ";")) ∷ (tok Keyword 30 34 (codes "func")) ∷ (tok Ident 35 39 (codes "Show")) ∷ (tok Operator 39 40 (codes "(")) ∷ (tok Ident 40 41 (codes "x")) ∷ (tok Ident 42 45 (codes "int")) ∷ (tok Operator 45 46 (codes ")")) ∷ (tok Operator 47 48 (codes "{")) ∷ (tok Keyword 50 55 (codes "defer")) ∷ (tok Keyword 56 60 (codes "func")) ∷ (tok Operator 60 61 (codes "(")) ∷ (tok Operator 61 62 (codes ")")) ∷ (tok Operator 63 64 (codes "{")) ∷ (tok Ident 67 74 (codes "println")) ∷ (tok Operator 74 75 (codes "(")) ∷ (tok Ident 75 76 (codes "x")) ∷ (tok Operator 76 77 (codes ")")) ∷ (tok Inserted 77 77 (codes ";")) ∷ (tok Operator 79 80 (codes "}")) ∷ (tok Operator 80 81 (codes "(")) ∷ (tok Operator 81 82 (codes ")")) ∷ (tok Inserted 82 82 (codes ";")) ∷ (tok Ident 84 91 (codes "println")) ∷ (tok Operator 91 92 (codes "(")) ∷ (tok Str 92 95 (codes "\"a\"")) ∷ (tok Operator 95 96 (codes ")")) ∷ (tok Inserted 96 96 (codes ";")) ∷ (tok Operator 97 98 (codes "}")) ∷ (tok Inserted 98 98 (codes ";")) ∷ (tok Keyword 100 104 (codes "func")) ∷ (tok Ident 105 109 (codes "main")) ∷ (tok Operator 109 110 (codes "(")) ∷ (tok Operator 110 111 (codes ")")) ∷ (tok Operator 112 113 (codes "{")) ∷ (tok Ident 115 119 (codes "Show")) ∷ (tok Operator 119 120 (codes "(")) ∷ (tok Integer 120 121 (codes "2")) ∷ (tok Operator 121 122 (codes ")")) ∷ (tok Inserted 122 122 (codes ";")) ∷ (tok Operator 123 124 (codes "}")) ∷ (tok Inserted 124 124 (codes ";")) ∷ []); comments = ((note 14 29) ∷ []) }) ∷ []) }

deferred_constant_0_typed : is_typed deferred_constant_0 ≡ true
deferred_constant_0_typed = refl

deferred_constant_0_step : first_change deferred_constant_0 ≡ Some ((codes "main.go"), LiteralForm, (codes "package main\n\n//go:fix inline\nfunc Show(x int) {\n\tdefer func() {\n\t\tprintln(x)\n\t}()\n\tprintln(\"a\")\n}\n\nfunc main() {\n\tfunc() {\n\t\tdefer func() {\n\t\t\tprintln(2)\n\t\t}()\n\t\tprintln(\"a\")\n\t}()\n}\n"))
deferred_constant_0_step = refl

abbrev deferred_constant_1_f0 : File Span
deferred_constant_1_f0 = record { package_name = (nm 8 12 (codes "main")); imports = []; decls = ((fn (at 30 98) None (nm 35 39 (codes "Show")) (sig ((param (at 40 45) (Some (nm 40 41 (codes "x"))) (named (at 42 45) None (nm 42 45 (codes "int")))) ∷ []) []) (at 47 98) (stmt_and (defer (at 50 82) (call (at 56 82) (func_lit (at 56 80) (sig [] []) (at 63 80) (stmt_and (eval (at 67 77) (call (at 67 77) (ident (at 67 74) (codes "println")) (expr_and (ident (at 75 76) (codes "x")) no_exprs) Plain)) no_stmts)) no_exprs Plain)) (stmt_and (eval (at 84 96) (call (at 84 96) (ident (at 84 91) (codes "println")) (expr_and (str_lit (at 92 95) (codes "\"a\"")) no_exprs) Plain)) no_stmts))) ∷ (fn (at 100 182) None (nm 105 109 (codes "main")) (sig [] []) (at 112 182) (stmt_and (eval (at 115 180) (call (at 115 180) (func_lit (at 115 178) (sig [] []) (at 122 178) (stmt_and (defer (at 126 160) (call (at 132 160) (func_lit (at 132 158) (sig [] []) (at 139 158) (stmt_and (eval (at 144 154) (call (at 144 154) (ident (at 144 151) (codes "println")) (expr_and (int_lit (at 152 153) (codes "2")) no_exprs) Plain)) no_stmts)) no_exprs Plain)) (stmt_and (eval (at 163 175) (call (at 163 175) (ident (at 163 170) (codes "println")) (expr_and (str_lit (at 171 174) (codes "\"a\"")) no_exprs) Plain)) no_stmts))) no_exprs Plain)) no_stmts)) ∷ []) }

deferred_constant_1_f0_read : read_at span_to read_front (lexemes ((tok Keyword 0 7 (codes "package")) ∷ (tok Ident 8 12 (codes "main")) ∷ (tok Inserted 12 12 (codes ";")) ∷ (tok Keyword 30 34 (codes "func")) ∷ (tok Ident 35 39 (codes "Show")) ∷ (tok Operator 39 40 (codes "(")) ∷ (tok Ident 40 41 (codes "x")) ∷ (tok Ident 42 45 (codes "int")) ∷ (tok Operator 45 46 (codes ")")) ∷ (tok Operator 47 48 (codes "{")) ∷ (tok Keyword 50 55 (codes "defer")) ∷ (tok Keyword 56 60 (codes "func")) ∷ (tok Operator 60 61 (codes "(")) ∷ (tok Operator 61 62 (codes ")")) ∷ (tok Operator 63 64 (codes "{")) ∷ (tok Ident 67 74 (codes "println")) ∷ (tok Operator 74 75 (codes "(")) ∷ (tok Ident 75 76 (codes "x")) ∷ (tok Operator 76 77 (codes ")")) ∷ (tok Inserted 77 77 (codes ";")) ∷ (tok Operator 79 80 (codes "}")) ∷ (tok Operator 80 81 (codes "(")) ∷ (tok Operator 81 82 (codes ")")) ∷ (tok Inserted 82 82 (codes ";")) ∷ (tok Ident 84 91 (codes "println")) ∷ (tok Operator 91 92 (codes "(")) ∷ (tok Str 92 95 (codes "\"a\"")) ∷ (tok Operator 95 96 (codes ")")) ∷ (tok Inserted 96 96 (codes ";")) ∷ (tok Operator 97 98 (codes "}")) ∷ (tok Inserted 98 98 (codes ";")) ∷ (tok Keyword 100 104 (codes "func")) ∷ (tok Ident 105 109 (codes "main")) ∷ (tok Operator 109 110 (codes "(")) ∷ (tok Operator 110 111 (codes ")")) ∷ (tok Operator 112 113 (codes "{")) ∷ (tok Keyword 115 119 (codes "func")) ∷ (tok Operator 119 120 (codes "(")) ∷ (tok Operator 120 121 (codes ")")) ∷ (tok Operator 122 123 (codes "{")) ∷ (tok Keyword 126 131 (codes "defer")) ∷ (tok Keyword 132 136 (codes "func")) ∷ (tok Operator 136 137 (codes "(")) ∷ (tok Operator 137 138 (codes ")")) ∷ (tok Operator 139 140 (codes "{")) ∷ (tok Ident 144 151 (codes "println")) ∷ (tok Operator 151 152 (codes "(")) ∷ (tok Integer 152 153 (codes "2")) ∷ (tok Operator 153 154 (codes ")")) ∷ (tok Inserted 154 154 (codes ";")) ∷ (tok Operator 157 158 (codes "}")) ∷ (tok Operator 158 159 (codes "(")) ∷ (tok Operator 159 160 (codes ")")) ∷ (tok Inserted 160 160 (codes ";")) ∷ (tok Ident 163 170 (codes "println")) ∷ (tok Operator 170 171 (codes "(")) ∷ (tok Str 171 174 (codes "\"a\"")) ∷ (tok Operator 174 175 (codes ")")) ∷ (tok Inserted 175 175 (codes ";")) ∷ (tok Operator 177 178 (codes "}")) ∷ (tok Operator 178 179 (codes "(")) ∷ (tok Operator 179 180 (codes ")")) ∷ (tok Inserted 180 180 (codes ";")) ∷ (tok Operator 181 182 (codes "}")) ∷ (tok Inserted 182 182 (codes ";")) ∷ [])) ≡ Some (deferred_constant_1_f0, [])
unfolding reading
deferred_constant_1_f0_read = refl

abbrev deferred_constant_1 : Module
deferred_constant_1 = record { packages = (pack (codes "example.com/m") (codes "main") (source (codes "main.go") deferred_constant_1_f0 ∷ []) ∷ []); marks = (mark 0 0 0 0 ∷ []); texts = (((codes "main.go"), record { text = (codes "package main\n\n//go:fix inline\nfunc Show(x int) {\n\tdefer func() {\n\t\tprintln(x)\n\t}()\n\tprintln(\"a\")\n}\n\nfunc main() {\n\tfunc() {\n\t\tdefer func() {\n\t\t\tprintln(2)\n\t\t}()\n\t\tprintln(\"a\")\n\t}()\n}\n"); tokens = ((tok Keyword 0 7 (codes "package")) ∷ (tok Ident 8 12 (codes "main")) ∷ (tok Inserted 12 12 (codes ";")) ∷ (tok Keyword 30 34 (codes "func")) ∷ (tok Ident 35 39 (codes "Show")) ∷ (tok Operator 39 40 (codes "(")) ∷ (tok Ident 40 41 (codes "x")) ∷ (tok Ident 42 45 (codes "int")) ∷ (tok Operator 45 46 (codes ")")) ∷ (tok Operator 47 48 (codes "{")) ∷ (tok Keyword 50 55 (codes "defer")) ∷ (tok Keyword 56 60 (codes "func")) ∷ (tok Operator 60 61 (codes "(")) ∷ (tok Operator 61 62 (codes ")")) ∷ (tok Operator 63 64 (codes "{")) ∷ (tok Ident 67 74 (codes "println")) ∷ (tok Operator 74 75 (codes "(")) ∷ (tok Ident 75 76 (codes "x")) ∷ (tok Operator 76 77 (codes ")")) ∷ (tok Inserted 77 77 (codes ";")) ∷ (tok Operator 79 80 (codes "}")) ∷ (tok Operator 80 81 (codes "(")) ∷ (tok Operator 81 82 (codes ")")) ∷ (tok Inserted 82 82 (codes ";")) ∷ (tok Ident 84 91 (codes "println")) ∷ (tok Operator 91 92 (codes "(")) ∷ (tok Str 92 95 (codes "\"a\"")) ∷ (tok Operator 95 96 (codes ")")) ∷ (tok Inserted 96 96 (codes ";")) ∷ (tok Operator 97 98 (codes "}")) ∷ (tok Inserted 98 98 (codes ";")) ∷ (tok Keyword 100 104 (codes "func")) ∷ (tok Ident 105 109 (codes "main")) ∷ (tok Operator 109 110 (codes "(")) ∷ (tok Operator 110 111 (codes ")")) ∷ (tok Operator 112 113 (codes "{")) ∷ (tok Keyword 115 119 (codes "func")) ∷ (tok Operator 119 120 (codes "(")) ∷ (tok Operator 120 121 (codes ")")) ∷ (tok Operator 122 123 (codes "{")) ∷ (tok Keyword 126 131 (codes "defer")) ∷ (tok Keyword 132 136 (codes "func")) ∷ (tok Operator 136 137 (codes "(")) ∷ (tok Operator 137 138 (codes ")")) ∷ (tok Operator 139 140 (codes "{")) ∷ (tok Ident 144 151 (codes "println")) ∷ (tok Operator 151 152 (codes "(")) ∷ (tok Integer 152 153 (codes "2")) ∷ (tok Operator 153 154 (codes ")")) ∷ (tok Inserted 154 154 (codes ";")) ∷ (tok Operator 157 158 (codes "}")) ∷ (tok Operator 158 159 (codes "(")) ∷ (tok Operator 159 160 (codes ")")) ∷ (tok Inserted 160 160 (codes ";")) ∷ (tok Ident 163 170 (codes "println")) ∷ (tok Operator 170 171 (codes "(")) ∷ (tok Str 171 174 (codes "\"a\"")) ∷ (tok Operator 174 175 (codes ")")) ∷ (tok Inserted 175 175 (codes ";")) ∷ (tok Operator 177 178 (codes "}")) ∷ (tok Operator 178 179 (codes "(")) ∷ (tok Operator 179 180 (codes ")")) ∷ (tok Inserted 180 180 (codes ";")) ∷ (tok Operator 181 182 (codes "}")) ∷ (tok Inserted 182 182 (codes ";")) ∷ []); comments = ((note 14 29) ∷ []) }) ∷ []) }

deferred_constant_1_typed : is_typed deferred_constant_1 ≡ true
deferred_constant_1_typed = refl

deferred_constant_1_ends : step_of deferred_constant_1 ≡ None
deferred_constant_1_ends = refl

deferred_constant_1_kept : kept_uses deferred_constant_1 ≡ []
deferred_constant_1_kept = refl
