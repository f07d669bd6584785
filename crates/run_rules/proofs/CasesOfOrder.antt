-- Variables and order: text before and after.
use Rattle.std.proofs.Common.{◌≡◌, refl}
use Rattle.std.specs.Prelude.{true, false, [], ◌∷◌, Some, None, codes}
use Rattle.go_tree.specs.declared.exprs.Rest.TheVariants.{Plain}
use Rattle.go_tree.specs.declared.spans.Span.{Span}
use Rattle.go_tree.specs.declared.tokens.TokenKind.TheVariants.{Ident, Keyword, Operator, Integer, Str, Inserted}
use Rattle.go_tree.specs.declared.operators.BinOp.TheVariants.{Add, Eq, Gt}
use Rattle.go_tree.specs.declared.operators.UnOp.TheVariants.{Address}
use Rattle.go_tree.specs.Tree.{named, struct_type, no_fields, field, ident, int_lit, str_lit, composite, selector, call, func_lit, unary, binary, star, no_exprs, expr_and, some_expr, no_elems, elem, plain, some_value, eval, assign, define, return_, inner, if_, switch, defer, no_stmts, stmt_and, no_stmt, no_block, no_arms, arm, no_cases, case}
use Rattle.go_tree.specs.File.{File, types}
use Rattle.run_rules.specs.FormTrees.{ExprForm, BlockForm, TailForm, LiteralForm}
use Rattle.run_rules.proofs.CaseTools.{at, nm, tok, note, param, sig, tspec, fn, pack, source, mark, Module, is_typed, first_change, step_of, kept_uses}
use Rattle.go_layout.specs.SpellsSpans.{span_to}
use Rattle.go_tree.specs.GoWords.Terminals.{lexemes}
use Rattle.go_layout.specs.Goals.{read_front}
use Rattle.go_layout.proofs.Texts.{reading}
use Rattle.run_rules.proofs.CaseTools.{read_at}

-- The types of parameters are those outside the function.
abbrev parameter_named_as_type_0_f0 : File Span
parameter_named_as_type_0_f0 = record { package_name = (nm 8 12 (codes "main")); imports = []; decls = ((types (at 14 24) false ((tspec (at 19 24) (nm 19 20 (codes "T")) false (named (at 21 24) None (nm 21 24 (codes "int")))) ∷ [])) ∷ (fn (at 42 71) None (nm 47 51 (codes "Same")) (sig ((param (at 52 55) (Some (nm 52 53 (codes "T"))) (named (at 54 55) None (nm 54 55 (codes "T")))) ∷ []) ((param (at 57 58) None (named (at 57 58) None (nm 57 58 (codes "T")))) ∷ [])) (at 59 71) (stmt_and (return_ (at 61 69) (expr_and (ident (at 68 69) (codes "T")) no_exprs)) no_stmts)) ∷ (fn (at 73 111) None (nm 78 82 (codes "main")) (sig [] []) (at 85 111) (stmt_and (eval (at 88 109) (call (at 88 109) (ident (at 88 95) (codes "println")) (expr_and (call (at 96 108) (ident (at 96 99) (codes "int")) (expr_and (call (at 100 107) (ident (at 100 104) (codes "Same")) (expr_and (int_lit (at 105 106) (codes "3")) no_exprs) Plain) no_exprs) Plain) no_exprs) Plain)) no_stmts)) ∷ []) }

parameter_named_as_type_0_f0_read : read_at span_to read_front (lexemes ((tok Keyword 0 7 (codes "package")) ∷ (tok Ident 8 12 (codes "main")) ∷ (tok Inserted 12 12 (codes ";")) ∷ (tok Keyword 14 18 (codes "type")) ∷ (tok Ident 19 20 (codes "T")) ∷ (tok Ident 21 24 (codes "int")) ∷ (tok Inserted 24 24 (codes ";")) ∷ (tok Keyword 42 46 (codes "func")) ∷ (tok Ident 47 51 (codes "Same")) ∷ (tok Operator 51 52 (codes "(")) ∷ (tok Ident 52 53 (codes "T")) ∷ (tok Ident 54 55 (codes "T")) ∷ (tok Operator 55 56 (codes ")")) ∷ (tok Ident 57 58 (codes "T")) ∷ (tok Operator 59 60 (codes "{")) ∷ (tok Keyword 61 67 (codes "return")) ∷ (tok Ident 68 69 (codes "T")) ∷ (tok Operator 70 71 (codes "}")) ∷ (tok Inserted 71 71 (codes ";")) ∷ (tok Keyword 73 77 (codes "func")) ∷ (tok Ident 78 82 (codes "main")) ∷ (tok Operator 82 83 (codes "(")) ∷ (tok Operator 83 84 (codes ")")) ∷ (tok Operator 85 86 (codes "{")) ∷ (tok Ident 88 95 (codes "println")) ∷ (tok Operator 95 96 (codes "(")) ∷ (tok Ident 96 99 (codes "int")) ∷ (tok Operator 99 100 (codes "(")) ∷ (tok Ident 100 104 (codes "Same")) ∷ (tok Operator 104 105 (codes "(")) ∷ (tok Integer 105 106 (codes "3")) ∷ (tok Operator 106 107 (codes ")")) ∷ (tok Operator 107 108 (codes ")")) ∷ (tok Operator 108 109 (codes ")")) ∷ (tok Inserted 109 109 (codes ";")) ∷ (tok Operator 110 111 (codes "}")) ∷ (tok Inserted 111 111 (codes ";")) ∷ [])) ≡ Some (parameter_named_as_type_0_f0, [])
unfolding reading
parameter_named_as_type_0_f0_read = refl

abbrev parameter_named_as_type_0 : Module
parameter_named_as_type_0 = record { packages = (pack (codes "example.com/m") (codes "main") (source (codes "main.go") parameter_named_as_type_0_f0 ∷ []) ∷ []); marks = (mark 0 0 1 0 ∷ []); texts = (((codes "main.go"), record { text = (codes "package main\n\ntype T int\n\n//go:fix inline\nfunc Same(T T) T { return T }\n\nfunc main() {\n\tprintln(int(Same(3)))\n}\n"); tokens = ((tok Keyword 0 7 (codes "package")) ∷ (tok Ident 8 12 (codes "main")) ∷ (tok Inserted 12 12 (codes ";")) ∷ (tok Keyword 14 18 (codes "type")) ∷ (tok Ident 19 20 (codes "T")) ∷ (tok Ident 21 24 (codes "int")) ∷ (tok Inserted 24 24 (codes ";")) ∷ (tok Keyword 42 46 (codes "func")) ∷ (tok Ident 47 51 (codes "Same")) ∷ (tok Operator 51 52 (codes "(")) ∷ (tok Ident 52 53 (codes "T")) ∷ (tok Ident 54 55 (codes "T")) ∷ (tok Operator 55 56 (codes ")")) ∷ (tok Ident 57 58 (codes "T")) ∷ (tok Operator 59 60 (codes "{")) ∷ (tok Keyword 61 67 (codes "return")) ∷ (tok Ident 68 69 (codes "T")) ∷ (tok Operator 70 71 (codes "}")) ∷ (tok Inserted 71 71 (codes ";")) ∷ (tok Keyword 73 77 (codes "func")) ∷ (tok Ident 78 82 (codes "main")) ∷ (tok Operator 82 83 (codes "(")) ∷ (tok Operator 83 84 (codes ")")) ∷ (tok Operator 85 86 (codes "{")) ∷ (tok Ident 88 95 (codes "println")) ∷ (tok Operator 95 96 (codes "(")) ∷ (tok Ident 96 99 (codes "int")) ∷ (tok Operator 99 100 (codes "(")) ∷ (tok Ident 100 104 (codes "Same")) ∷ (tok Operator 104 105 (codes "(")) ∷ (tok Integer 105 106 (codes "3")) ∷ (tok Operator 106 107 (codes ")")) ∷ (tok Operator 107 108 (codes ")")) ∷ (tok Operator 108 109 (codes ")")) ∷ (tok Inserted 109 109 (codes ";")) ∷ (tok Operator 110 111 (codes "}")) ∷ (tok Inserted 111 111 (codes ";")) ∷ []); comments = ((note 26 41) ∷ []) }) ∷ []) }

parameter_named_as_type_0_typed : is_typed parameter_named_as_type_0 ≡ true
parameter_named_as_type_0_typed = refl

parameter_named_as_type_0_step : first_change parameter_named_as_type_0 ≡ Some ((codes "main.go"), ExprForm, (codes "package main\n\ntype T int\n\n//go:fix inline\nfunc Same(T T) T { return T }\n\nfunc main() {\n\tprintln(int(T(3)))\n}\n"))
parameter_named_as_type_0_step = refl

abbrev parameter_named_as_type_1_f0 : File Span
parameter_named_as_type_1_f0 = record { package_name = (nm 8 12 (codes "main")); imports = []; decls = ((types (at 14 24) false ((tspec (at 19 24) (nm 19 20 (codes "T")) false (named (at 21 24) None (nm 21 24 (codes "int")))) ∷ [])) ∷ (fn (at 42 71) None (nm 47 51 (codes "Same")) (sig ((param (at 52 55) (Some (nm 52 53 (codes "T"))) (named (at 54 55) None (nm 54 55 (codes "T")))) ∷ []) ((param (at 57 58) None (named (at 57 58) None (nm 57 58 (codes "T")))) ∷ [])) (at 59 71) (stmt_and (return_ (at 61 69) (expr_and (ident (at 68 69) (codes "T")) no_exprs)) no_stmts)) ∷ (fn (at 73 108) None (nm 78 82 (codes "main")) (sig [] []) (at 85 108) (stmt_and (eval (at 88 106) (call (at 88 106) (ident (at 88 95) (codes "println")) (expr_and (call (at 96 105) (ident (at 96 99) (codes "int")) (expr_and (call (at 100 104) (ident (at 100 101) (codes "T")) (expr_and (int_lit (at 102 103) (codes "3")) no_exprs) Plain) no_exprs) Plain) no_exprs) Plain)) no_stmts)) ∷ []) }

parameter_named_as_type_1_f0_read : read_at span_to read_front (lexemes ((tok Keyword 0 7 (codes "package")) ∷ (tok Ident 8 12 (codes "main")) ∷ (tok Inserted 12 12 (codes ";")) ∷ (tok Keyword 14 18 (codes "type")) ∷ (tok Ident 19 20 (codes "T")) ∷ (tok Ident 21 24 (codes "int")) ∷ (tok Inserted 24 24 (codes ";")) ∷ (tok Keyword 42 46 (codes "func")) ∷ (tok Ident 47 51 (codes "Same")) ∷ (tok Operator 51 52 (codes "(")) ∷ (tok Ident 52 53 (codes "T")) ∷ (tok Ident 54 55 (codes "T")) ∷ (tok Operator 55 56 (codes ")")) ∷ (tok Ident 57 58 (codes "T")) ∷ (tok Operator 59 60 (codes "{")) ∷ (tok Keyword 61 67 (codes "return")) ∷ (tok Ident 68 69 (codes "T")) ∷ (tok Operator 70 71 (codes "}")) ∷ (tok Inserted 71 71 (codes ";")) ∷ (tok Keyword 73 77 (codes "func")) ∷ (tok Ident 78 82 (codes "main")) ∷ (tok Operator 82 83 (codes "(")) ∷ (tok Operator 83 84 (codes ")")) ∷ (tok Operator 85 86 (codes "{")) ∷ (tok Ident 88 95 (codes "println")) ∷ (tok Operator 95 96 (codes "(")) ∷ (tok Ident 96 99 (codes "int")) ∷ (tok Operator 99 100 (codes "(")) ∷ (tok Ident 100 101 (codes "T")) ∷ (tok Operator 101 102 (codes "(")) ∷ (tok Integer 102 103 (codes "3")) ∷ (tok Operator 103 104 (codes ")")) ∷ (tok Operator 104 105 (codes ")")) ∷ (tok Operator 105 106 (codes ")")) ∷ (tok Inserted 106 106 (codes ";")) ∷ (tok Operator 107 108 (codes "}")) ∷ (tok Inserted 108 108 (codes ";")) ∷ [])) ≡ Some (parameter_named_as_type_1_f0, [])
unfolding reading
parameter_named_as_type_1_f0_read = refl

abbrev parameter_named_as_type_1 : Module
parameter_named_as_type_1 = record { packages = (pack (codes "example.com/m") (codes "main") (source (codes "main.go") parameter_named_as_type_1_f0 ∷ []) ∷ []); marks = (mark 0 0 1 0 ∷ []); texts = (((codes "main.go"), record { text = (codes "package main\n\ntype T int\n\n//go:fix inline\nfunc Same(T T) T { return T }\n\nfunc main() {\n\tprintln(int(T(3)))\n}\n"); tokens = ((tok Keyword 0 7 (codes "package")) ∷ (tok Ident 8 12 (codes "main")) ∷ (tok Inserted 12 12 (codes ";")) ∷ (tok Keyword 14 18 (codes "type")) ∷ (tok Ident 19 20 (codes "T")) ∷ (tok Ident 21 24 (codes "int")) ∷ (tok Inserted 24 24 (codes ";")) ∷ (tok Keyword 42 46 (codes "func")) ∷ (tok Ident 47 51 (codes "Same")) ∷ (tok Operator 51 52 (codes "(")) ∷ (tok Ident 52 53 (codes "T")) ∷ (tok Ident 54 55 (codes "T")) ∷ (tok Operator 55 56 (codes ")")) ∷ (tok Ident 57 58 (codes "T")) ∷ (tok Operator 59 60 (codes "{")) ∷ (tok Keyword 61 67 (codes "return")) ∷ (tok Ident 68 69 (codes "T")) ∷ (tok Operator 70 71 (codes "}")) ∷ (tok Inserted 71 71 (codes ";")) ∷ (tok Keyword 73 77 (codes "func")) ∷ (tok Ident 78 82 (codes "main")) ∷ (tok Operator 82 83 (codes "(")) ∷ (tok Operator 83 84 (codes ")")) ∷ (tok Operator 85 86 (codes "{")) ∷ (tok Ident 88 95 (codes "println")) ∷ (tok Operator 95 96 (codes "(")) ∷ (tok Ident 96 99 (codes "int")) ∷ (tok Operator 99 100 (codes "(")) ∷ (tok Ident 100 101 (codes "T")) ∷ (tok Operator 101 102 (codes "(")) ∷ (tok Integer 102 103 (codes "3")) ∷ (tok Operator 103 104 (codes ")")) ∷ (tok Operator 104 105 (codes ")")) ∷ (tok Operator 105 106 (codes ")")) ∷ (tok Inserted 106 106 (codes ";")) ∷ (tok Operator 107 108 (codes "}")) ∷ (tok Inserted 108 108 (codes ";")) ∷ []); comments = ((note 26 41) ∷ []) }) ∷ []) }

parameter_named_as_type_1_typed : is_typed parameter_named_as_type_1 ≡ true
parameter_named_as_type_1_typed = refl

parameter_named_as_type_1_ends : step_of parameter_named_as_type_1 ≡ None
parameter_named_as_type_1_ends = refl

parameter_named_as_type_1_kept : kept_uses parameter_named_as_type_1 ≡ []
parameter_named_as_type_1_kept = refl

-- A key that names a field is no use of a parameter.
abbrev field_key_0_f0 : File Span
field_key_0_f0 = record { package_name = (nm 8 12 (codes "main")); imports = []; decls = ((types (at 14 39) false ((tspec (at 19 39) (nm 19 20 (codes "P")) false (struct_type (at 21 39) (field (at 29 37) (nm 29 30 (codes "x")) (named (at 34 37) None (nm 34 37 (codes "int"))) (field (at 32 37) (nm 32 33 (codes "y")) (named (at 34 37) None (nm 34 37 (codes "int"))) no_fields)))) ∷ [])) ∷ (fn (at 57 103) None (nm 62 66 (codes "Make")) (sig ((param (at 67 75) (Some (nm 67 68 (codes "x"))) (named (at 72 75) None (nm 72 75 (codes "int")))) ∷ (param (at 70 75) (Some (nm 70 71 (codes "y"))) (named (at 72 75) None (nm 72 75 (codes "int")))) ∷ []) ((param (at 77 78) None (named (at 77 78) None (nm 77 78 (codes "P")))) ∷ [])) (at 79 103) (stmt_and (return_ (at 81 101) (expr_and (composite (at 88 101) (named (at 88 89) None (nm 88 89 (codes "P"))) (elem (at 90 94) (some_value (plain (ident (at 90 91) (codes "x")))) (plain (ident (at 93 94) (codes "x"))) (elem (at 96 100) (some_value (plain (ident (at 96 97) (codes "y")))) (plain (ident (at 99 100) (codes "y"))) no_elems))) no_exprs)) no_stmts)) ∷ (fn (at 105 162) None (nm 110 114 (codes "main")) (sig [] []) (at 117 162) (stmt_and (define (at 120 126) ((nm 120 121 (codes "a")) ∷ []) (expr_and (int_lit (at 125 126) (codes "1")) no_exprs)) (stmt_and (define (at 128 143) ((nm 128 129 (codes "p")) ∷ []) (expr_and (call (at 133 143) (ident (at 133 137) (codes "Make")) (expr_and (ident (at 138 139) (codes "a")) (expr_and (int_lit (at 141 142) (codes "2")) no_exprs)) Plain) no_exprs)) (stmt_and (eval (at 145 160) (call (at 145 160) (ident (at 145 152) (codes "println")) (expr_and (selector (at 153 156) (ident (at 153 154) (codes "p")) (nm 155 156 (codes "x"))) (expr_and (ident (at 158 159) (codes "a")) no_exprs)) Plain)) no_stmts)))) ∷ []) }

field_key_0_f0_read : read_at span_to read_front (lexemes ((tok Keyword 0 7 (codes "package")) ∷ (tok Ident 8 12 (codes "main")) ∷ (tok Inserted 12 12 (codes ";")) ∷ (tok Keyword 14 18 (codes "type")) ∷ (tok Ident 19 20 (codes "P")) ∷ (tok Keyword 21 27 (codes "struct")) ∷ (tok Operator 27 28 (codes "{")) ∷ (tok Ident 29 30 (codes "x")) ∷ (tok Operator 30 31 (codes ",")) ∷ (tok Ident 32 33 (codes "y")) ∷ (tok Ident 34 37 (codes "int")) ∷ (tok Operator 38 39 (codes "}")) ∷ (tok Inserted 39 39 (codes ";")) ∷ (tok Keyword 57 61 (codes "func")) ∷ (tok Ident 62 66 (codes "Make")) ∷ (tok Operator 66 67 (codes "(")) ∷ (tok Ident 67 68 (codes "x")) ∷ (tok Operator 68 69 (codes ",")) ∷ (tok Ident 70 71 (codes "y")) ∷ (tok Ident 72 75 (codes "int")) ∷ (tok Operator 75 76 (codes ")")) ∷ (tok Ident 77 78 (codes "P")) ∷ (tok Operator 79 80 (codes "{")) ∷ (tok Keyword 81 87 (codes "return")) ∷ (tok Ident 88 89 (codes "P")) ∷ (tok Operator 89 90 (codes "{")) ∷ (tok Ident 90 91 (codes "x")) ∷ (tok Operator 91 92 (codes ":")) ∷ (tok Ident 93 94 (codes "x")) ∷ (tok Operator 94 95 (codes ",")) ∷ (tok Ident 96 97 (codes "y")) ∷ (tok Operator 97 98 (codes ":")) ∷ (tok Ident 99 100 (codes "y")) ∷ (tok Operator 100 101 (codes "}")) ∷ (tok Operator 102 103 (codes "}")) ∷ (tok Inserted 103 103 (codes ";")) ∷ (tok Keyword 105 109 (codes "func")) ∷ (tok Ident 110 114 (codes "main")) ∷ (tok Operator 114 115 (codes "(")) ∷ (tok Operator 115 116 (codes ")")) ∷ (tok Operator 117 118 (codes "{")) ∷ (tok Ident 120 121 (codes "a")) ∷ (tok Operator 122 124 (codes ":=")) ∷ (tok Integer 125 126 (codes "1")) ∷ (tok Inserted 126 126 (codes ";")) ∷ (tok Ident 128 129 (codes "p")) ∷ (tok Operator 130 132 (codes ":=")) ∷ (tok Ident 133 137 (codes "Make")) ∷ (tok Operator 137 138 (codes "(")) ∷ (tok Ident 138 139 (codes "a")) ∷ (tok Operator 139 140 (codes ",")) ∷ (tok Integer 141 142 (codes "2")) ∷ (tok Operator 142 143 (codes ")")) ∷ (tok Inserted 143 143 (codes ";")) ∷ (tok Ident 145 152 (codes "println")) ∷ (tok Operator 152 153 (codes "(")) ∷ (tok Ident 153 154 (codes "p")) ∷ (tok Operator 154 155 (codes ".")) ∷ (tok Ident 155 156 (codes "x")) ∷ (tok Operator 156 157 (codes ",")) ∷ (tok Ident 158 159 (codes "a")) ∷ (tok Operator 159 160 (codes ")")) ∷ (tok Inserted 160 160 (codes ";")) ∷ (tok Operator 161 162 (codes "}")) ∷ (tok Inserted 162 162 (codes ";")) ∷ [])) ≡ Some (field_key_0_f0, [])
unfolding reading
field_key_0_f0_read = refl

abbrev field_key_0 : Module
field_key_0 = record { packages = (pack (codes "example.com/m") (codes "main") (source (codes "main.go") field_key_0_f0 ∷ []) ∷ []); marks = (mark 0 0 1 0 ∷ []); texts = (((codes "main.go"), record { text = (codes "package main\n\ntype P struct{ x, y int }\n\n//go:fix inline\nfunc Make(x, y int) P { return P{x: x, y: y} }\n\nfunc main() {\n\ta := 1\n\tp := Make(a, 2)\n\tprintln(p.x, a)\n}\n"); tokens = ((tok Keyword 0 7 (codes "package")) ∷ (tok Ident 8 12 (codes "main")) ∷ (tok Inserted 12 12 (codes ";")) ∷ (tok Keyword 14 18 (codes "type")) ∷ (tok Ident 19 20 (codes "P")) ∷ (tok Keyword 21 27 (codes "struct")) ∷ (tok Operator 27 28 (codes "{")) ∷ (tok Ident 29 30 (codes "x")) ∷ (tok Operator 30 31 (codes ",")) ∷ (tok Ident 32 33 (codes "y")) ∷ (tok Ident 34 37 (codes "int")) ∷ (tok Operator 38 39 (codes "}")) ∷ (tok Inserted 39 39 (codes ";")) ∷ (tok Keyword 57 61 (codes "func")) ∷ (tok Ident 62 66 (codes "Make")) ∷ (tok Operator 66 67 (codes "(")) ∷ (tok Ident 67 68 (codes "x")) ∷ (tok Operator 68 69 (codes ",")) ∷ (tok Ident 70 71 (codes "y")) ∷ (tok Ident 72 75 (codes "int")) ∷ (tok Operator 75 76 (codes ")")) ∷ (tok Ident 77 78 (codes "P")) ∷ (tok Operator 79 80 (codes "{")) ∷ (tok Keyword 81 87 (codes "return")) ∷ (tok Ident 88 89 (codes "P")) ∷ (tok Operator 89 90 (codes "{")) ∷ (tok Ident 90 91 (codes "x")) ∷ (tok Operator 91 92 (codes ":")) ∷ (tok Ident 93 94 (codes "x")) ∷ (tok Operator 94 95 (codes ",")) ∷ (tok Ident 96 97 (codes "y")) ∷ (tok Operator 97 98 (codes ":")) ∷ (tok Ident 99 100 (codes "y")) ∷ (tok Operator 100 101 (codes "}")) ∷ (tok Operator 102 103 (codes "}")) ∷ (tok Inserted 103 103 (codes ";")) ∷ (tok Keyword 105 109 (codes "func")) ∷ (tok Ident 110 114 (codes "main")) ∷ (tok Operator 114 115 (codes "(")) ∷ (tok Operator 115 116 (codes ")")) ∷ (tok Operator 117 118 (codes "{")) ∷ (tok Ident 120 121 (codes "a")) ∷ (tok Operator 122 124 (codes ":=")) ∷ (tok Integer 125 126 (codes "1")) ∷ (tok Inserted 126 126 (codes ";")) ∷ (tok Ident 128 129 (codes "p")) ∷ (tok Operator 130 132 (codes ":=")) ∷ (tok Ident 133 137 (codes "Make")) ∷ (tok Operator 137 138 (codes "(")) ∷ (tok Ident 138 139 (codes "a")) ∷ (tok Operator 139 140 (codes ",")) ∷ (tok Integer 141 142 (codes "2")) ∷ (tok Operator 142 143 (codes ")")) ∷ (tok Inserted 143 143 (codes ";")) ∷ (tok Ident 145 152 (codes "println")) ∷ (tok Operator 152 153 (codes "(")) ∷ (tok Ident 153 154 (codes "p")) ∷ (tok Operator 154 155 (codes ".")) ∷ (tok Ident 155 156 (codes "x")) ∷ (tok Operator 156 157 (codes ",")) ∷ (tok Ident 158 159 (codes "a")) ∷ (tok Operator 159 160 (codes ")")) ∷ (tok Inserted 160 160 (codes ";")) ∷ (tok Operator 161 162 (codes "}")) ∷ (tok Inserted 162 162 (codes ";")) ∷ []); comments = ((note 41 56) ∷ []) }) ∷ []) }

field_key_0_typed : is_typed field_key_0 ≡ true
field_key_0_typed = refl

field_key_0_step : first_change field_key_0 ≡ Some ((codes "main.go"), ExprForm, (codes "package main\n\ntype P struct{ x, y int }\n\n//go:fix inline\nfunc Make(x, y int) P { return P{x: x, y: y} }\n\nfunc main() {\n\ta := 1\n\tp := P{x: a, y: 2}\n\tprintln(p.x, a)\n}\n"))
field_key_0_step = refl

abbrev field_key_1_f0 : File Span
field_key_1_f0 = record { package_name = (nm 8 12 (codes "main")); imports = []; decls = ((types (at 14 39) false ((tspec (at 19 39) (nm 19 20 (codes "P")) false (struct_type (at 21 39) (field (at 29 37) (nm 29 30 (codes "x")) (named (at 34 37) None (nm 34 37 (codes "int"))) (field (at 32 37) (nm 32 33 (codes "y")) (named (at 34 37) None (nm 34 37 (codes "int"))) no_fields)))) ∷ [])) ∷ (fn (at 57 103) None (nm 62 66 (codes "Make")) (sig ((param (at 67 75) (Some (nm 67 68 (codes "x"))) (named (at 72 75) None (nm 72 75 (codes "int")))) ∷ (param (at 70 75) (Some (nm 70 71 (codes "y"))) (named (at 72 75) None (nm 72 75 (codes "int")))) ∷ []) ((param (at 77 78) None (named (at 77 78) None (nm 77 78 (codes "P")))) ∷ [])) (at 79 103) (stmt_and (return_ (at 81 101) (expr_and (composite (at 88 101) (named (at 88 89) None (nm 88 89 (codes "P"))) (elem (at 90 94) (some_value (plain (ident (at 90 91) (codes "x")))) (plain (ident (at 93 94) (codes "x"))) (elem (at 96 100) (some_value (plain (ident (at 96 97) (codes "y")))) (plain (ident (at 99 100) (codes "y"))) no_elems))) no_exprs)) no_stmts)) ∷ (fn (at 105 165) None (nm 110 114 (codes "main")) (sig [] []) (at 117 165) (stmt_and (define (at 120 126) ((nm 120 121 (codes "a")) ∷ []) (expr_and (int_lit (at 125 126) (codes "1")) no_exprs)) (stmt_and (define (at 128 146) ((nm 128 129 (codes "p")) ∷ []) (expr_and (composite (at 133 146) (named (at 133 134) None (nm 133 134 (codes "P"))) (elem (at 135 139) (some_value (plain (ident (at 135 136) (codes "x")))) (plain (ident (at 138 139) (codes "a"))) (elem (at 141 145) (some_value (plain (ident (at 141 142) (codes "y")))) (plain (int_lit (at 144 145) (codes "2"))) no_elems))) no_exprs)) (stmt_and (eval (at 148 163) (call (at 148 163) (ident (at 148 155) (codes "println")) (expr_and (selector (at 156 159) (ident (at 156 157) (codes "p")) (nm 158 159 (codes "x"))) (expr_and (ident (at 161 162) (codes "a")) no_exprs)) Plain)) no_stmts)))) ∷ []) }

field_key_1_f0_read : read_at span_to read_front (lexemes ((tok Keyword 0 7 (codes "package")) ∷ (tok Ident 8 12 (codes "main")) ∷ (tok Inserted 12 12 (codes ";")) ∷ (tok Keyword 14 18 (codes "type")) ∷ (tok Ident 19 20 (codes "P")) ∷ (tok Keyword 21 27 (codes "struct")) ∷ (tok Operator 27 28 (codes "{")) ∷ (tok Ident 29 30 (codes "x")) ∷ (tok Operator 30 31 (codes ",")) ∷ (tok Ident 32 33 (codes "y")) ∷ (tok Ident 34 37 (codes "int")) ∷ (tok Operator 38 39 (codes "}")) ∷ (tok Inserted 39 39 (codes ";")) ∷ (tok Keyword 57 61 (codes "func")) ∷ (tok Ident 62 66 (codes "Make")) ∷ (tok Operator 66 67 (codes "(")) ∷ (tok Ident 67 68 (codes "x")) ∷ (tok Operator 68 69 (codes ",")) ∷ (tok Ident 70 71 (codes "y")) ∷ (tok Ident 72 75 (codes "int")) ∷ (tok Operator 75 76 (codes ")")) ∷ (tok Ident 77 78 (codes "P")) ∷ (tok Operator 79 80 (codes "{")) ∷ (tok Keyword 81 87 (codes "return")) ∷ (tok Ident 88 89 (codes "P")) ∷ (tok Operator 89 90 (codes "{")) ∷ (tok Ident 90 91 (codes "x")) ∷ (tok Operator 91 92 (codes ":")) ∷ (tok Ident 93 94 (codes "x")) ∷ (tok Operator 94 95 (codes ",")) ∷ (tok Ident 96 97 (codes "y")) ∷ (tok Operator 97 98 (codes ":")) ∷ (tok Ident 99 100 (codes "y")) ∷ (tok Operator 100 101 (codes "}")) ∷ (tok Operator 102 103 (codes "}")) ∷ (tok Inserted 103 103 (codes ";")) ∷ (tok Keyword 105 109 (codes "func")) ∷ (tok Ident 110 114 (codes "main")) ∷ (tok Operator 114 115 (codes "(")) ∷ (tok Operator 115 116 (codes ")")) ∷ (tok Operator 117 118 (codes "{")) ∷ (tok Ident 120 121 (codes "a")) ∷ (tok Operator 122 124 (codes ":=")) ∷ (tok Integer 125 126 (codes "1")) ∷ (tok Inserted 126 126 (codes ";")) ∷ (tok Ident 128 129 (codes "p")) ∷ (tok Operator 130 132 (codes ":=")) ∷ (tok Ident 133 134 (codes "P")) ∷ (tok Operator 134 135 (codes "{")) ∷ (tok Ident 135 136 (codes "x")) ∷ (tok Operator 136 137 (codes ":")) ∷ (tok Ident 138 139 (codes "a")) ∷ (tok Operator 139 140 (codes ",")) ∷ (tok Ident 141 142 (codes "y")) ∷ (tok Operator 142 143 (codes ":")) ∷ (tok Integer 144 145 (codes "2")) ∷ (tok Operator 145 146 (codes "}")) ∷ (tok Inserted 146 146 (codes ";")) ∷ (tok Ident 148 155 (codes "println")) ∷ (tok Operator 155 156 (codes "(")) ∷ (tok Ident 156 157 (codes "p")) ∷ (tok Operator 157 158 (codes ".")) ∷ (tok Ident 158 159 (codes "x")) ∷ (tok Operator 159 160 (codes ",")) ∷ (tok Ident 161 162 (codes "a")) ∷ (tok Operator 162 163 (codes ")")) ∷ (tok Inserted 163 163 (codes ";")) ∷ (tok Operator 164 165 (codes "}")) ∷ (tok Inserted 165 165 (codes ";")) ∷ [])) ≡ Some (field_key_1_f0, [])
unfolding reading
field_key_1_f0_read = refl

abbrev field_key_1 : Module
field_key_1 = record { packages = (pack (codes "example.com/m") (codes "main") (source (codes "main.go") field_key_1_f0 ∷ []) ∷ []); marks = (mark 0 0 1 0 ∷ []); texts = (((codes "main.go"), record { text = (codes "package main\n\ntype P struct{ x, y int }\n\n//go:fix inline\nfunc Make(x, y int) P { return P{x: x, y: y} }\n\nfunc main() {\n\ta := 1\n\tp := P{x: a, y: 2}\n\tprintln(p.x, a)\n}\n"); tokens = ((tok Keyword 0 7 (codes "package")) ∷ (tok Ident 8 12 (codes "main")) ∷ (tok Inserted 12 12 (codes ";")) ∷ (tok Keyword 14 18 (codes "type")) ∷ (tok Ident 19 20 (codes "P")) ∷ (tok Keyword 21 27 (codes "struct")) ∷ (tok Operator 27 28 (codes "{")) ∷ (tok Ident 29 30 (codes "x")) ∷ (tok Operator 30 31 (codes ",")) ∷ (tok Ident 32 33 (codes "y")) ∷ (tok Ident 34 37 (codes "int")) ∷ (tok Operator 38 39 (codes "}")) ∷ (tok Inserted 39 39 (codes ";")) ∷ (tok Keyword 57 61 (codes "func")) ∷ (tok Ident 62 66 (codes "Make")) ∷ (tok Operator 66 67 (codes "(")) ∷ (tok Ident 67 68 (codes "x")) ∷ (tok Operator 68 69 (codes ",")) ∷ (tok Ident 70 71 (codes "y")) ∷ (tok Ident 72 75 (codes "int")) ∷ (tok Operator 75 76 (codes ")")) ∷ (tok Ident 77 78 (codes "P")) ∷ (tok Operator 79 80 (codes "{")) ∷ (tok Keyword 81 87 (codes "return")) ∷ (tok Ident 88 89 (codes "P")) ∷ (tok Operator 89 90 (codes "{")) ∷ (tok Ident 90 91 (codes "x")) ∷ (tok Operator 91 92 (codes ":")) ∷ (tok Ident 93 94 (codes "x")) ∷ (tok Operator 94 95 (codes ",")) ∷ (tok Ident 96 97 (codes "y")) ∷ (tok Operator 97 98 (codes ":")) ∷ (tok Ident 99 100 (codes "y")) ∷ (tok Operator 100 101 (codes "}")) ∷ (tok Operator 102 103 (codes "}")) ∷ (tok Inserted 103 103 (codes ";")) ∷ (tok Keyword 105 109 (codes "func")) ∷ (tok Ident 110 114 (codes "main")) ∷ (tok Operator 114 115 (codes "(")) ∷ (tok Operator 115 116 (codes ")")) ∷ (tok Operator 117 118 (codes "{")) ∷ (tok Ident 120 121 (codes "a")) ∷ (tok Operator 122 124 (codes ":=")) ∷ (tok Integer 125 126 (codes "1")) ∷ (tok Inserted 126 126 (codes ";")) ∷ (tok Ident 128 129 (codes "p")) ∷ (tok Operator 130 132 (codes ":=")) ∷ (tok Ident 133 134 (codes "P")) ∷ (tok Operator 134 135 (codes "{")) ∷ (tok Ident 135 136 (codes "x")) ∷ (tok Operator 136 137 (codes ":")) ∷ (tok Ident 138 139 (codes "a")) ∷ (tok Operator 139 140 (codes ",")) ∷ (tok Ident 141 142 (codes "y")) ∷ (tok Operator 142 143 (codes ":")) ∷ (tok Integer 144 145 (codes "2")) ∷ (tok Operator 145 146 (codes "}")) ∷ (tok Inserted 146 146 (codes ";")) ∷ (tok Ident 148 155 (codes "println")) ∷ (tok Operator 155 156 (codes "(")) ∷ (tok Ident 156 157 (codes "p")) ∷ (tok Operator 157 158 (codes ".")) ∷ (tok Ident 158 159 (codes "x")) ∷ (tok Operator 159 160 (codes ",")) ∷ (tok Ident 161 162 (codes "a")) ∷ (tok Operator 162 163 (codes ")")) ∷ (tok Inserted 163 163 (codes ";")) ∷ (tok Operator 164 165 (codes "}")) ∷ (tok Inserted 165 165 (codes ";")) ∷ []); comments = ((note 41 56) ∷ []) }) ∷ []) }

field_key_1_typed : is_typed field_key_1 ≡ true
field_key_1_typed = refl

field_key_1_ends : step_of field_key_1 ≡ None
field_key_1_ends = refl

field_key_1_kept : kept_uses field_key_1 ≡ []
field_key_1_kept = refl

-- Of two variables of one name one is held: the other may be read later.
abbrev two_of_one_name_0_f0 : File Span
two_of_one_name_0_f0 = record { package_name = (nm 8 12 (codes "main")); imports = []; decls = ((fn (at 30 77) None (nm 35 38 (codes "Get")) (sig ((param (at 39 44) (Some (nm 39 40 (codes "x"))) (named (at 41 44) None (nm 41 44 (codes "int")))) ∷ []) ((param (at 46 49) None (named (at 46 49) None (nm 46 49 (codes "int")))) ∷ [])) (at 50 77) (stmt_and (eval (at 53 65) (call (at 53 65) (ident (at 53 60) (codes "println")) (expr_and (str_lit (at 61 64) (codes "\"x\"")) no_exprs) Plain)) (stmt_and (return_ (at 67 75) (expr_and (ident (at 74 75) (codes "x")) no_exprs)) no_stmts))) ∷ (fn (at 79 158) None (nm 84 88 (codes "main")) (sig [] []) (at 91 158) (stmt_and (inner (at 94 131) (stmt_and (define (at 98 104) ((nm 98 99 (codes "x")) ∷ []) (expr_and (int_lit (at 103 104) (codes "1")) no_exprs)) (stmt_and (define (at 107 114) ((nm 107 108 (codes "p")) ∷ []) (expr_and (unary (at 112 114) Address (ident (at 113 114) (codes "x"))) no_exprs)) (stmt_and (eval (at 117 128) (call (at 117 128) (ident (at 117 124) (codes "println")) (expr_and (star (at 125 127) (ident (at 126 127) (codes "p"))) no_exprs) Plain)) no_stmts)))) (stmt_and (define (at 133 139) ((nm 133 134 (codes "x")) ∷ []) (expr_and (int_lit (at 138 139) (codes "2")) no_exprs)) (stmt_and (eval (at 141 156) (call (at 141 156) (ident (at 141 148) (codes "println")) (expr_and (call (at 149 155) (ident (at 149 152) (codes "Get")) (expr_and (ident (at 153 154) (codes "x")) no_exprs) Plain) no_exprs) Plain)) no_stmts)))) ∷ []) }

two_of_one_name_0_f0_read : read_at span_to read_front (lexemes ((tok Keyword 0 7 (codes "package")) ∷ (tok Ident 8 12 (codes "main")) ∷ (tok Inserted 12 12 (codes ";")) ∷ (tok Keyword 30 34 (codes "func")) ∷ (tok Ident 35 38 (codes "Get")) ∷ (tok Operator 38 39 (codes "(")) ∷ (tok Ident 39 40 (codes "x")) ∷ (tok Ident 41 44 (codes "int")) ∷ (tok Operator 44 45 (codes ")")) ∷ (tok Ident 46 49 (codes "int")) ∷ (tok Operator 50 51 (codes "{")) ∷ (tok Ident 53 60 (codes "println")) ∷ (tok Operator 60 61 (codes "(")) ∷ (tok Str 61 64 (codes "\"x\"")) ∷ (tok Operator 64 65 (codes ")")) ∷ (tok Inserted 65 65 (codes ";")) ∷ (tok Keyword 67 73 (codes "return")) ∷ (tok Ident 74 75 (codes "x")) ∷ (tok Inserted 75 75 (codes ";")) ∷ (tok Operator 76 77 (codes "}")) ∷ (tok Inserted 77 77 (codes ";")) ∷ (tok Keyword 79 83 (codes "func")) ∷ (tok Ident 84 88 (codes "main")) ∷ (tok Operator 88 89 (codes "(")) ∷ (tok Operator 89 90 (codes ")")) ∷ (tok Operator 91 92 (codes "{")) ∷ (tok Operator 94 95 (codes "{")) ∷ (tok Ident 98 99 (codes "x")) ∷ (tok Operator 100 102 (codes ":=")) ∷ (tok Integer 103 104 (codes "1")) ∷ (tok Inserted 104 104 (codes ";")) ∷ (tok Ident 107 108 (codes "p")) ∷ (tok Operator 109 111 (codes ":=")) ∷ (tok Operator 112 113 (codes "&")) ∷ (tok Ident 113 114 (codes "x")) ∷ (tok Inserted 114 114 (codes ";")) ∷ (tok Ident 117 124 (codes "println")) ∷ (tok Operator 124 125 (codes "(")) ∷ (tok Operator 125 126 (codes "*")) ∷ (tok Ident 126 127 (codes "p")) ∷ (tok Operator 127 128 (codes ")")) ∷ (tok Inserted 128 128 (codes ";")) ∷ (tok Operator 130 131 (codes "}")) ∷ (tok Inserted 131 131 (codes ";")) ∷ (tok Ident 133 134 (codes "x")) ∷ (tok Operator 135 137 (codes ":=")) ∷ (tok Integer 138 139 (codes "2")) ∷ (tok Inserted 139 139 (codes ";")) ∷ (tok Ident 141 148 (codes "println")) ∷ (tok Operator 148 149 (codes "(")) ∷ (tok Ident 149 152 (codes "Get")) ∷ (tok Operator 152 153 (codes "(")) ∷ (tok Ident 153 154 (codes "x")) ∷ (tok Operator 154 155 (codes ")")) ∷ (tok Operator 155 156 (codes ")")) ∷ (tok Inserted 156 156 (codes ";")) ∷ (tok Operator 157 158 (codes "}")) ∷ (tok Inserted 158 158 (codes ";")) ∷ [])) ≡ Some (two_of_one_name_0_f0, [])
unfolding reading
two_of_one_name_0_f0_read = refl

abbrev two_of_one_name_0 : Module
two_of_one_name_0 = record { packages = (pack (codes "example.com/m") (codes "main") (source (codes "main.go") two_of_one_name_0_f0 ∷ []) ∷ []); marks = (mark 0 0 0 0 ∷ []); texts = (((codes "main.go"), record { text = (codes "package main\n\n//go:fix inline\nfunc Get(x int) int {\n\tprintln(\"x\")\n\treturn x\n}\n\nfunc main() {\n\t{\n\t\tx := 1\n\t\tp := &x\n\t\tprintln(*p)\n\t}\n\tx := 2\n\tprintln(Get(x))\n}\n"); tokens = ((tok Keyword 0 7 (codes "package")) ∷ (tok Ident 8 12 (codes "main")) ∷ (tok Inserted 12 12 (codes ";")) ∷ (tok Keyword 30 34 (codes "func")) ∷ (tok Ident 35 38 (codes "Get")) ∷ (tok Operator 38 39 (codes "(")) ∷ (tok Ident 39 40 (codes "x")) ∷ (tok Ident 41 44 (codes "int")) ∷ (tok Operator 44 45 (codes ")")) ∷ (tok Ident 46 49 (codes "int")) ∷ (tok Operator 50 51 (codes "{")) ∷ (tok Ident 53 60 (codes "println")) ∷ (tok Operator 60 61 (codes "(")) ∷ (tok Str 61 64 (codes "\"x\"")) ∷ (tok Operator 64 65 (codes ")")) ∷ (tok Inserted 65 65 (codes ";")) ∷ (tok Keyword 67 73 (codes "return")) ∷ (tok Ident 74 75 (codes "x")) ∷ (tok Inserted 75 75 (codes ";")) ∷ (tok Operator 76 77 (codes "}")) ∷ (tok Inserted 77 77 (codes ";")) ∷ (tok Keyword 79 83 (codes "func")) ∷ (tok Ident 84 88 (codes "main")) ∷ (tok Operator 88 89 (codes "(")) ∷ (tok Operator 89 90 (codes ")")) ∷ (tok Operator 91 92 (codes "{")) ∷ (tok Operator 94 95 (codes "{")) ∷ (tok Ident 98 99 (codes "x")) ∷ (tok Operator 100 102 (codes ":=")) ∷ (tok Integer 103 104 (codes "1")) ∷ (tok Inserted 104 104 (codes ";")) ∷ (tok Ident 107 108 (codes "p")) ∷ (tok Operator 109 111 (codes ":=")) ∷ (tok Operator 112 113 (codes "&")) ∷ (tok Ident 113 114 (codes "x")) ∷ (tok Inserted 114 114 (codes ";")) ∷ (tok Ident 117 124 (codes "println")) ∷ (tok Operator 124 125 (codes "(")) ∷ (tok Operator 125 126 (codes "*")) ∷ (tok Ident 126 127 (codes "p")) ∷ (tok Operator 127 128 (codes ")")) ∷ (tok Inserted 128 128 (codes ";")) ∷ (tok Operator 130 131 (codes "}")) ∷ (tok Inserted 131 131 (codes ";")) ∷ (tok Ident 133 134 (codes "x")) ∷ (tok Operator 135 137 (codes ":=")) ∷ (tok Integer 138 139 (codes "2")) ∷ (tok Inserted 139 139 (codes ";")) ∷ (tok Ident 141 148 (codes "println")) ∷ (tok Operator 148 149 (codes "(")) ∷ (tok Ident 149 152 (codes "Get")) ∷ (tok Operator 152 153 (codes "(")) ∷ (tok Ident 153 154 (codes "x")) ∷ (tok Operator 154 155 (codes ")")) ∷ (tok Operator 155 156 (codes ")")) ∷ (tok Inserted 156 156 (codes ";")) ∷ (tok Operator 157 158 (codes "}")) ∷ (tok Inserted 158 158 (codes ";")) ∷ []); comments = ((note 14 29) ∷ []) }) ∷ []) }

two_of_one_name_0_typed : is_typed two_of_one_name_0 ≡ true
two_of_one_name_0_typed = refl

two_of_one_name_0_step : first_change two_of_one_name_0 ≡ Some ((codes "main.go"), LiteralForm, (codes "package main\n\n//go:fix inline\nfunc Get(x int) int {\n\tprintln(\"x\")\n\treturn x\n}\n\nfunc main() {\n\t{\n\t\tx := 1\n\t\tp := &x\n\t\tprintln(*p)\n\t}\n\tx := 2\n\tprintln(func() int {\n\t\tprintln(\"x\")\n\t\treturn x\n\t}())\n}\n"))
two_of_one_name_0_step = refl

abbrev two_of_one_name_1_f0 : File Span
two_of_one_name_1_f0 = record { package_name = (nm 8 12 (codes "main")); imports = []; decls = ((fn (at 30 77) None (nm 35 38 (codes "Get")) (sig ((param (at 39 44) (Some (nm 39 40 (codes "x"))) (named (at 41 44) None (nm 41 44 (codes "int")))) ∷ []) ((param (at 46 49) None (named (at 46 49) None (nm 46 49 (codes "int")))) ∷ [])) (at 50 77) (stmt_and (eval (at 53 65) (call (at 53 65) (ident (at 53 60) (codes "println")) (expr_and (str_lit (at 61 64) (codes "\"x\"")) no_exprs) Plain)) (stmt_and (return_ (at 67 75) (expr_and (ident (at 74 75) (codes "x")) no_exprs)) no_stmts))) ∷ (fn (at 79 195) None (nm 84 88 (codes "main")) (sig [] []) (at 91 195) (stmt_and (inner (at 94 131) (stmt_and (define (at 98 104) ((nm 98 99 (codes "x")) ∷ []) (expr_and (int_lit (at 103 104) (codes "1")) no_exprs)) (stmt_and (define (at 107 114) ((nm 107 108 (codes "p")) ∷ []) (expr_and (unary (at 112 114) Address (ident (at 113 114) (codes "x"))) no_exprs)) (stmt_and (eval (at 117 128) (call (at 117 128) (ident (at 117 124) (codes "println")) (expr_and (star (at 125 127) (ident (at 126 127) (codes "p"))) no_exprs) Plain)) no_stmts)))) (stmt_and (define (at 133 139) ((nm 133 134 (codes "x")) ∷ []) (expr_and (int_lit (at 138 139) (codes "2")) no_exprs)) (stmt_and (eval (at 141 193) (call (at 141 193) (ident (at 141 148) (codes "println")) (expr_and (call (at 149 192) (func_lit (at 149 190) (sig [] ((param (at 156 159) None (named (at 156 159) None (nm 156 159 (codes "int")))) ∷ [])) (at 160 190) (stmt_and (eval (at 164 176) (call (at 164 176) (ident (at 164 171) (codes "println")) (expr_and (str_lit (at 172 175) (codes "\"x\"")) no_exprs) Plain)) (stmt_and (return_ (at 179 187) (expr_and (ident (at 186 187) (codes "x")) no_exprs)) no_stmts))) no_exprs Plain) no_exprs) Plain)) no_stmts)))) ∷ []) }

two_of_one_name_1_f0_read : read_at span_to read_front (lexemes ((tok Keyword 0 7 (codes "package")) ∷ (tok Ident 8 12 (codes "main")) ∷ (tok Inserted 12 12 (codes ";")) ∷ (tok Keyword 30 34 (codes "func")) ∷ (tok Ident 35 38 (codes "Get")) ∷ (tok Operator 38 39 (codes "(")) ∷ (tok Ident 39 40 (codes "x")) ∷ (tok Ident 41 44 (codes "int")) ∷ (tok Operator 44 45 (codes ")")) ∷ (tok Ident 46 49 (codes "int")) ∷ (tok Operator 50 51 (codes "{")) ∷ (tok Ident 53 60 (codes "println")) ∷ (tok Operator 60 61 (codes "(")) ∷ (tok Str 61 64 (codes "\"x\"")) ∷ (tok Operator 64 65 (codes ")")) ∷ (tok Inserted 65 65 (codes ";")) ∷ (tok Keyword 67 73 (codes "return")) ∷ (tok Ident 74 75 (codes "x")) ∷ (tok Inserted 75 75 (codes ";")) ∷ (tok Operator 76 77 (codes "}")) ∷ (tok Inserted 77 77 (codes ";")) ∷ (tok Keyword 79 83 (codes "func")) ∷ (tok Ident 84 88 (codes "main")) ∷ (tok Operator 88 89 (codes "(")) ∷ (tok Operator 89 90 (codes ")")) ∷ (tok Operator 91 92 (codes "{")) ∷ (tok Operator 94 95 (codes "{")) ∷ (tok Ident 98 99 (codes "x")) ∷ (tok Operator 100 102 (codes ":=")) ∷ (tok Integer 103 104 (codes "1")) ∷ (tok Inserted 104 104 (codes ";")) ∷ (tok Ident 107 108 (codes "p")) ∷ (tok Operator 109 111 (codes ":=")) ∷ (tok Operator 112 113 (codes "&")) ∷ (tok Ident 113 114 (codes "x")) ∷ (tok Inserted 114 114 (codes ";")) ∷ (tok Ident 117 124 (codes "println")) ∷ (tok Operator 124 125 (codes "(")) ∷ (tok Operator 125 126 (codes "*")) ∷ (tok Ident 126 127 (codes "p")) ∷ (tok Operator 127 128 (codes ")")) ∷ (tok Inserted 128 128 (codes ";")) ∷ (tok Operator 130 131 (codes "}")) ∷ (tok Inserted 131 131 (codes ";")) ∷ (tok Ident 133 134 (codes "x")) ∷ (tok Operator 135 137 (codes ":=")) ∷ (tok Integer 138 139 (codes "2")) ∷ (tok Inserted 139 139 (codes ";")) ∷ (tok Ident 141 148 (codes "println")) ∷ (tok Operator 148 149 (codes "(")) ∷ (tok Keyword 149 153 (codes "func")) ∷ (tok Operator 153 154 (codes "(")) ∷ (tok Operator 154 155 (codes ")")) ∷ (tok Ident 156 159 (codes "int")) ∷ (tok Operator 160 161 (codes "{")) ∷ (tok Ident 164 171 (codes "println")) ∷ (tok Operator 171 172 (codes "(")) ∷ (tok Str 172 175 (codes "\"x\"")) ∷ (tok Operator 175 176 (codes ")")) ∷ (tok Inserted 176 176 (codes ";")) ∷ (tok Keyword 179 185 (codes "return")) ∷ (tok Ident 186 187 (codes "x")) ∷ (tok Inserted 187 187 (codes ";")) ∷ (tok Operator 189 190 (codes "}")) ∷ (tok Operator 190 191 (codes "(")) ∷ (tok Operator 191 192 (codes ")")) ∷ (tok Operator 192 193 (codes ")")) ∷ (tok Inserted 193 193 (codes ";")) ∷ (tok Operator 194 195 (codes "}")) ∷ (tok Inserted 195 195 (codes ";")) ∷ [])) ≡ Some (two_of_one_name_1_f0, [])
unfolding reading
two_of_one_name_1_f0_read = refl

abbrev two_of_one_name_1 : Module
two_of_one_name_1 = record { packages = (pack (codes "example.com/m") (codes "main") (source (codes "main.go") two_of_one_name_1_f0 ∷ []) ∷ []); marks = (mark 0 0 0 0 ∷ []); texts = (((codes "main.go"), record { text = (codes "package main\n\n//go:fix inline\nfunc Get(x int) int {\n\tprintln(\"x\")\n\treturn x\n}\n\nfunc main() {\n\t{\n\t\tx := 1\n\t\tp := &x\n\t\tprintln(*p)\n\t}\n\tx := 2\n\tprintln(func() int {\n\t\tprintln(\"x\")\n\t\treturn x\n\t}())\n}\n"); tokens = ((tok Keyword 0 7 (codes "package")) ∷ (tok Ident 8 12 (codes "main")) ∷ (tok Inserted 12 12 (codes ";")) ∷ (tok Keyword 30 34 (codes "func")) ∷ (tok Ident 35 38 (codes "Get")) ∷ (tok Operator 38 39 (codes "(")) ∷ (tok Ident 39 40 (codes "x")) ∷ (tok Ident 41 44 (codes "int")) ∷ (tok Operator 44 45 (codes ")")) ∷ (tok Ident 46 49 (codes "int")) ∷ (tok Operator 50 51 (codes "{")) ∷ (tok Ident 53 60 (codes "println")) ∷ (tok Operator 60 61 (codes "(")) ∷ (tok Str 61 64 (codes "\"x\"")) ∷ (tok Operator 64 65 (codes ")")) ∷ (tok Inserted 65 65 (codes ";")) ∷ (tok Keyword 67 73 (codes "return")) ∷ (tok Ident 74 75 (codes "x")) ∷ (tok Inserted 75 75 (codes ";")) ∷ (tok Operator 76 77 (codes "}")) ∷ (tok Inserted 77 77 (codes ";")) ∷ (tok Keyword 79 83 (codes "func")) ∷ (tok Ident 84 88 (codes "main")) ∷ (tok Operator 88 89 (codes "(")) ∷ (tok Operator 89 90 (codes ")")) ∷ (tok Operator 91 92 (codes "{")) ∷ (tok Operator 94 95 (codes "{")) ∷ (tok Ident 98 99 (codes "x")) ∷ (tok Operator 100 102 (codes ":=")) ∷ (tok Integer 103 104 (codes "1")) ∷ (tok Inserted 104 104 (codes ";")) ∷ (tok Ident 107 108 (codes "p")) ∷ (tok Operator 109 111 (codes ":=")) ∷ (tok Operator 112 113 (codes "&")) ∷ (tok Ident 113 114 (codes "x")) ∷ (tok Inserted 114 114 (codes ";")) ∷ (tok Ident 117 124 (codes "println")) ∷ (tok Operator 124 125 (codes "(")) ∷ (tok Operator 125 126 (codes "*")) ∷ (tok Ident 126 127 (codes "p")) ∷ (tok Operator 127 128 (codes ")")) ∷ (tok Inserted 128 128 (codes ";")) ∷ (tok Operator 130 131 (codes "}")) ∷ (tok Inserted 131 131 (codes ";")) ∷ (tok Ident 133 134 (codes "x")) ∷ (tok Operator 135 137 (codes ":=")) ∷ (tok Integer 138 139 (codes "2")) ∷ (tok Inserted 139 139 (codes ";")) ∷ (tok Ident 141 148 (codes "println")) ∷ (tok Operator 148 149 (codes "(")) ∷ (tok Keyword 149 153 (codes "func")) ∷ (tok Operator 153 154 (codes "(")) ∷ (tok Operator 154 155 (codes ")")) ∷ (tok Ident 156 159 (codes "int")) ∷ (tok Operator 160 161 (codes "{")) ∷ (tok Ident 164 171 (codes "println")) ∷ (tok Operator 171 172 (codes "(")) ∷ (tok Str 172 175 (codes "\"x\"")) ∷ (tok Operator 175 176 (codes ")")) ∷ (tok Inserted 176 176 (codes ";")) ∷ (tok Keyword 179 185 (codes "return")) ∷ (tok Ident 186 187 (codes "x")) ∷ (tok Inserted 187 187 (codes ";")) ∷ (tok Operator 189 190 (codes "}")) ∷ (tok Operator 190 191 (codes "(")) ∷ (tok Operator 191 192 (codes ")")) ∷ (tok Operator 192 193 (codes ")")) ∷ (tok Inserted 193 193 (codes ";")) ∷ (tok Operator 194 195 (codes "}")) ∷ (tok Inserted 195 195 (codes ";")) ∷ []); comments = ((note 14 29) ∷ []) }) ∷ []) }

two_of_one_name_1_typed : is_typed two_of_one_name_1 ≡ true
two_of_one_name_1_typed = refl

two_of_one_name_1_ends : step_of two_of_one_name_1 ≡ None
two_of_one_name_1_ends = refl

two_of_one_name_1_kept : kept_uses two_of_one_name_1 ≡ []
two_of_one_name_1_kept = refl

-- A held variable is read before the print.
abbrev held_variable_0_f0 : File Span
held_variable_0_f0 = record { package_name = (nm 8 12 (codes "main")); imports = []; decls = ((fn (at 30 77) None (nm 35 38 (codes "Get")) (sig ((param (at 39 44) (Some (nm 39 40 (codes "x"))) (named (at 41 44) None (nm 41 44 (codes "int")))) ∷ []) ((param (at 46 49) None (named (at 46 49) None (nm 46 49 (codes "int")))) ∷ [])) (at 50 77) (stmt_and (eval (at 53 65) (call (at 53 65) (ident (at 53 60) (codes "println")) (expr_and (str_lit (at 61 64) (codes "\"x\"")) no_exprs) Plain)) (stmt_and (return_ (at 67 75) (expr_and (ident (at 74 75) (codes "x")) no_exprs)) no_stmts))) ∷ (fn (at 79 132) None (nm 84 88 (codes "main")) (sig [] []) (at 91 132) (stmt_and (define (at 94 100) ((nm 94 95 (codes "x")) ∷ []) (expr_and (int_lit (at 99 100) (codes "2")) no_exprs)) (stmt_and (define (at 102 109) ((nm 102 103 (codes "p")) ∷ []) (expr_and (unary (at 107 109) Address (ident (at 108 109) (codes "x"))) no_exprs)) (stmt_and (eval (at 111 130) (call (at 111 130) (ident (at 111 118) (codes "println")) (expr_and (call (at 119 125) (ident (at 119 122) (codes "Get")) (expr_and (ident (at 123 124) (codes "x")) no_exprs) Plain) (expr_and (star (at 127 129) (ident (at 128 129) (codes "p"))) no_exprs)) Plain)) no_stmts)))) ∷ []) }

held_variable_0_f0_read : read_at span_to read_front (lexemes ((tok Keyword 0 7 (codes "package")) ∷ (tok Ident 8 12 (codes "main")) ∷ (tok Inserted 12 12 (codes ";")) ∷ (tok Keyword 30 34 (codes "func")) ∷ (tok Ident 35 38 (codes "Get")) ∷ (tok Operator 38 39 (codes "(")) ∷ (tok Ident 39 40 (codes "x")) ∷ (tok Ident 41 44 (codes "int")) ∷ (tok Operator 44 45 (codes ")")) ∷ (tok Ident 46 49 (codes "int")) ∷ (tok Operator 50 51 (codes "{")) ∷ (tok Ident 53 60 (codes "println")) ∷ (tok Operator 60 61 (codes "(")) ∷ (tok Str 61 64 (codes "\"x\"")) ∷ (tok Operator 64 65 (codes ")")) ∷ (tok Inserted 65 65 (codes ";")) ∷ (tok Keyword 67 73 (codes "return")) ∷ (tok Ident 74 75 (codes "x")) ∷ (tok Inserted 75 75 (codes ";")) ∷ (tok Operator 76 77 (codes "}")) ∷ (tok Inserted 77 77 (codes ";")) ∷ (tok Keyword 79 83 (codes "func")) ∷ (tok Ident 84 88 (codes "main")) ∷ (tok Operator 88 89 (codes "(")) ∷ (tok Operator 89 90 (codes ")")) ∷ (tok Operator 91 92 (codes "{")) ∷ (tok Ident 94 95 (codes "x")) ∷ (tok Operator 96 98 (codes ":=")) ∷ (tok Integer 99 100 (codes "2")) ∷ (tok Inserted 100 100 (codes ";")) ∷ (tok Ident 102 103 (codes "p")) ∷ (tok Operator 104 106 (codes ":=")) ∷ (tok Operator 107 108 (codes "&")) ∷ (tok Ident 108 109 (codes "x")) ∷ (tok Inserted 109 109 (codes ";")) ∷ (tok Ident 111 118 (codes "println")) ∷ (tok Operator 118 119 (codes "(")) ∷ (tok Ident 119 122 (codes "Get")) ∷ (tok Operator 122 123 (codes "(")) ∷ (tok Ident 123 124 (codes "x")) ∷ (tok Operator 124 125 (codes ")")) ∷ (tok Operator 125 126 (codes ",")) ∷ (tok Operator 127 128 (codes "*")) ∷ (tok Ident 128 129 (codes "p")) ∷ (tok Operator 129 130 (codes ")")) ∷ (tok Inserted 130 130 (codes ";")) ∷ (tok Operator 131 132 (codes "}")) ∷ (tok Inserted 132 132 (codes ";")) ∷ [])) ≡ Some (held_variable_0_f0, [])
unfolding reading
held_variable_0_f0_read = refl

abbrev held_variable_0 : Module
held_variable_0 = record { packages = (pack (codes "example.com/m") (codes "main") (source (codes "main.go") held_variable_0_f0 ∷ []) ∷ []); marks = (mark 0 0 0 0 ∷ []); texts = (((codes "main.go"), record { text = (codes "package main\n\n//go:fix inline\nfunc Get(x int) int {\n\tprintln(\"x\")\n\treturn x\n}\n\nfunc main() {\n\tx := 2\n\tp := &x\n\tprintln(Get(x), *p)\n}\n"); tokens = ((tok Keyword 0 7 (codes "package")) ∷ (tok Ident 8 12 (codes "main")) ∷ (tok Inserted 12 12 (codes ";")) ∷ (tok Keyword 30 34 (codes "func")) ∷ (tok Ident 35 38 (codes "Get")) ∷ (tok Operator 38 39 (codes "(")) ∷ (tok Ident 39 40 (codes "x")) ∷ (tok Ident 41 44 (codes "int")) ∷ (tok Operator 44 45 (codes ")")) ∷ (tok Ident 46 49 (codes "int")) ∷ (tok Operator 50 51 (codes "{")) ∷ (tok Ident 53 60 (codes "println")) ∷ (tok Operator 60 61 (codes "(")) ∷ (tok Str 61 64 (codes "\"x\"")) ∷ (tok Operator 64 65 (codes ")")) ∷ (tok Inserted 65 65 (codes ";")) ∷ (tok Keyword 67 73 (codes "return")) ∷ (tok Ident 74 75 (codes "x")) ∷ (tok Inserted 75 75 (codes ";")) ∷ (tok Operator 76 77 (codes "}")) ∷ (tok Inserted 77 77 (codes ";")) ∷ (tok Keyword 79 83 (codes "func")) ∷ (tok Ident 84 88 (codes "main")) ∷ (tok Operator 88 89 (codes "(")) ∷ (tok Operator 89 90 (codes ")")) ∷ (tok Operator 91 92 (codes "{")) ∷ (tok Ident 94 95 (codes "x")) ∷ (tok Operator 96 98 (codes ":=")) ∷ (tok Integer 99 100 (codes "2")) ∷ (tok Inserted 100 100 (codes ";")) ∷ (tok Ident 102 103 (codes "p")) ∷ (tok Operator 104 106 (codes ":=")) ∷ (tok Operator 107 108 (codes "&")) ∷ (tok Ident 108 109 (codes "x")) ∷ (tok Inserted 109 109 (codes ";")) ∷ (tok Ident 111 118 (codes "println")) ∷ (tok Operator 118 119 (codes "(")) ∷ (tok Ident 119 122 (codes "Get")) ∷ (tok Operator 122 123 (codes "(")) ∷ (tok Ident 123 124 (codes "x")) ∷ (tok Operator 124 125 (codes ")")) ∷ (tok Operator 125 126 (codes ",")) ∷ (tok Operator 127 128 (codes "*")) ∷ (tok Ident 128 129 (codes "p")) ∷ (tok Operator 129 130 (codes ")")) ∷ (tok Inserted 130 130 (codes ";")) ∷ (tok Operator 131 132 (codes "}")) ∷ (tok Inserted 132 132 (codes ";")) ∷ []); comments = ((note 14 29) ∷ []) }) ∷ []) }

held_variable_0_typed : is_typed held_variable_0 ≡ true
held_variable_0_typed = refl

held_variable_0_step : first_change held_variable_0 ≡ Some ((codes "main.go"), LiteralForm, (codes "package main\n\n//go:fix inline\nfunc Get(x int) int {\n\tprintln(\"x\")\n\treturn x\n}\n\nfunc main() {\n\tx := 2\n\tp := &x\n\tprintln(func(x int) int {\n\t\tprintln(\"x\")\n\t\treturn x\n\t}(x), *p)\n}\n"))
held_variable_0_step = refl

abbrev held_variable_1_f0 : File Span
held_variable_1_f0 = record { package_name = (nm 8 12 (codes "main")); imports = []; decls = ((fn (at 30 77) None (nm 35 38 (codes "Get")) (sig ((param (at 39 44) (Some (nm 39 40 (codes "x"))) (named (at 41 44) None (nm 41 44 (codes "int")))) ∷ []) ((param (at 46 49) None (named (at 46 49) None (nm 46 49 (codes "int")))) ∷ [])) (at 50 77) (stmt_and (eval (at 53 65) (call (at 53 65) (ident (at 53 60) (codes "println")) (expr_and (str_lit (at 61 64) (codes "\"x\"")) no_exprs) Plain)) (stmt_and (return_ (at 67 75) (expr_and (ident (at 74 75) (codes "x")) no_exprs)) no_stmts))) ∷ (fn (at 79 175) None (nm 84 88 (codes "main")) (sig [] []) (at 91 175) (stmt_and (define (at 94 100) ((nm 94 95 (codes "x")) ∷ []) (expr_and (int_lit (at 99 100) (codes "2")) no_exprs)) (stmt_and (define (at 102 109) ((nm 102 103 (codes "p")) ∷ []) (expr_and (unary (at 107 109) Address (ident (at 108 109) (codes "x"))) no_exprs)) (stmt_and (eval (at 111 173) (call (at 111 173) (ident (at 111 118) (codes "println")) (expr_and (call (at 119 168) (func_lit (at 119 165) (sig ((param (at 124 129) (Some (nm 124 125 (codes "x"))) (named (at 126 129) None (nm 126 129 (codes "int")))) ∷ []) ((param (at 131 134) None (named (at 131 134) None (nm 131 134 (codes "int")))) ∷ [])) (at 135 165) (stmt_and (eval (at 139 151) (call (at 139 151) (ident (at 139 146) (codes "println")) (expr_and (str_lit (at 147 150) (codes "\"x\"")) no_exprs) Plain)) (stmt_and (return_ (at 154 162) (expr_and (ident (at 161 162) (codes "x")) no_exprs)) no_stmts))) (expr_and (ident (at 166 167) (codes "x")) no_exprs) Plain) (expr_and (star (at 170 172) (ident (at 171 172) (codes "p"))) no_exprs)) Plain)) no_stmts)))) ∷ []) }

held_variable_1_f0_read : read_at span_to read_front (lexemes ((tok Keyword 0 7 (codes "package")) ∷ (tok Ident 8 12 (codes "main")) ∷ (tok Inserted 12 12 (codes ";")) ∷ (tok Keyword 30 34 (codes "func")) ∷ (tok Ident 35 38 (codes "Get")) ∷ (tok Operator 38 39 (codes "(")) ∷ (tok Ident 39 40 (codes "x")) ∷ (tok Ident 41 44 (codes "int")) ∷ (tok Operator 44 45 (codes ")")) ∷ (tok Ident 46 49 (codes "int")) ∷ (tok Operator 50 51 (codes "{")) ∷ (tok Ident 53 60 (codes "println")) ∷ (tok Operator 60 61 (codes "(")) ∷ (tok Str 61 64 (codes "\"x\"")) ∷ (tok Operator 64 65 (codes ")")) ∷ (tok Inserted 65 65 (codes ";")) ∷ (tok Keyword 67 73 (codes "return")) ∷ (tok Ident 74 75 (codes "x")) ∷ (tok Inserted 75 75 (codes ";")) ∷ (tok Operator 76 77 (codes "}")) ∷ (tok Inserted 77 77 (codes ";")) ∷ (tok Keyword 79 83 (codes "func")) ∷ (tok Ident 84 88 (codes "main")) ∷ (tok Operator 88 89 (codes "(")) ∷ (tok Operator 89 90 (codes ")")) ∷ (tok Operator 91 92 (codes "{")) ∷ (tok Ident 94 95 (codes "x")) ∷ (tok Operator 96 98 (codes ":=")) ∷ (tok Integer 99 100 (codes "2")) ∷ (tok Inserted 100 100 (codes ";")) ∷ (tok Ident 102 103 (codes "p")) ∷ (tok Operator 104 106 (codes ":=")) ∷ (tok Operator 107 108 (codes "&")) ∷ (tok Ident 108 109 (codes "x")) ∷ (tok Inserted 109 109 (codes ";")) ∷ (tok Ident 111 118 (codes "println")) ∷ (tok Operator 118 119 (codes "(")) ∷ (tok Keyword 119 123 (codes "func")) ∷ (tok Operator 123 124 (codes "(")) ∷ (tok Ident 124 125 (codes "x")) ∷ (tok Ident 126 129 (codes "int")) ∷ (tok Operator 129 130 (codes ")")) ∷ (tok Ident 131 134 (codes "int")) ∷ (tok Operator 135 136 (codes "{")) ∷ (tok Ident 139 146 (codes "println")) ∷ (tok Operator 146 147 (codes "(")) ∷ (tok Str 147 150 (codes "\"x\"")) ∷ (tok Operator 150 151 (codes ")")) ∷ (tok Inserted 151 151 (codes ";")) ∷ (tok Keyword 154 160 (codes "return")) ∷ (tok Ident 161 162 (codes "x")) ∷ (tok Inserted 162 162 (codes ";")) ∷ (tok Operator 164 165 (codes "}")) ∷ (tok Operator 165 166 (codes "(")) ∷ (tok Ident 166 167 (codes "x")) ∷ (tok Operator 167 168 (codes ")")) ∷ (tok Operator 168 169 (codes ",")) ∷ (tok Operator 170 171 (codes "*")) ∷ (tok Ident 171 172 (codes "p")) ∷ (tok Operator 172 173 (codes ")")) ∷ (tok Inserted 173 173 (codes ";")) ∷ (tok Operator 174 175 (codes "}")) ∷ (tok Inserted 175 175 (codes ";")) ∷ [])) ≡ Some (held_variable_1_f0, [])
unfolding reading
held_variable_1_f0_read = refl

abbrev held_variable_1 : Module
held_variable_1 = record { packages = (pack (codes "example.com/m") (codes "main") (source (codes "main.go") held_variable_1_f0 ∷ []) ∷ []); marks = (mark 0 0 0 0 ∷ []); texts = (((codes "main.go"), record { text = (codes "package main\n\n//go:fix inline\nfunc Get(x int) int {\n\tprintln(\"x\")\n\treturn x\n}\n\nfunc main() {\n\tx := 2\n\tp := &x\n\tprintln(func(x int) int {\n\t\tprintln(\"x\")\n\t\treturn x\n\t}(x), *p)\n}\n"); tokens = ((tok Keyword 0 7 (codes "package")) ∷ (tok Ident 8 12 (codes "main")) ∷ (tok Inserted 12 12 (codes ";")) ∷ (tok Keyword 30 34 (codes "func")) ∷ (tok Ident 35 38 (codes "Get")) ∷ (tok Operator 38 39 (codes "(")) ∷ (tok Ident 39 40 (codes "x")) ∷ (tok Ident 41 44 (codes "int")) ∷ (tok Operator 44 45 (codes ")")) ∷ (tok Ident 46 49 (codes "int")) ∷ (tok Operator 50 51 (codes "{")) ∷ (tok Ident 53 60 (codes "println")) ∷ (tok Operator 60 61 (codes "(")) ∷ (tok Str 61 64 (codes "\"x\"")) ∷ (tok Operator 64 65 (codes ")")) ∷ (tok Inserted 65 65 (codes ";")) ∷ (tok Keyword 67 73 (codes "return")) ∷ (tok Ident 74 75 (codes "x")) ∷ (tok Inserted 75 75 (codes ";")) ∷ (tok Operator 76 77 (codes "}")) ∷ (tok Inserted 77 77 (codes ";")) ∷ (tok Keyword 79 83 (codes "func")) ∷ (tok Ident 84 88 (codes "main")) ∷ (tok Operator 88 89 (codes "(")) ∷ (tok Operator 89 90 (codes ")")) ∷ (tok Operator 91 92 (codes "{")) ∷ (tok Ident 94 95 (codes "x")) ∷ (tok Operator 96 98 (codes ":=")) ∷ (tok Integer 99 100 (codes "2")) ∷ (tok Inserted 100 100 (codes ";")) ∷ (tok Ident 102 103 (codes "p")) ∷ (tok Operator 104 106 (codes ":=")) ∷ (tok Operator 107 108 (codes "&")) ∷ (tok Ident 108 109 (codes "x")) ∷ (tok Inserted 109 109 (codes ";")) ∷ (tok Ident 111 118 (codes "println")) ∷ (tok Operator 118 119 (codes "(")) ∷ (tok Keyword 119 123 (codes "func")) ∷ (tok Operator 123 124 (codes "(")) ∷ (tok Ident 124 125 (codes "x")) ∷ (tok Ident 126 129 (codes "int")) ∷ (tok Operator 129 130 (codes ")")) ∷ (tok Ident 131 134 (codes "int")) ∷ (tok Operator 135 136 (codes "{")) ∷ (tok Ident 139 146 (codes "println")) ∷ (tok Operator 146 147 (codes "(")) ∷ (tok Str 147 150 (codes "\"x\"")) ∷ (tok Operator 150 151 (codes ")")) ∷ (tok Inserted 151 151 (codes ";")) ∷ (tok Keyword 154 160 (codes "return")) ∷ (tok Ident 161 162 (codes "x")) ∷ (tok Inserted 162 162 (codes ";")) ∷ (tok Operator 164 165 (codes "}")) ∷ (tok Operator 165 166 (codes "(")) ∷ (tok Ident 166 167 (codes "x")) ∷ (tok Operator 167 168 (codes ")")) ∷ (tok Operator 168 169 (codes ",")) ∷ (tok Operator 170 171 (codes "*")) ∷ (tok Ident 171 172 (codes "p")) ∷ (tok Operator 172 173 (codes ")")) ∷ (tok Inserted 173 173 (codes ";")) ∷ (tok Operator 174 175 (codes "}")) ∷ (tok Inserted 175 175 (codes ";")) ∷ []); comments = ((note 14 29) ∷ []) }) ∷ []) }

held_variable_1_typed : is_typed held_variable_1 ≡ true
held_variable_1_typed = refl

held_variable_1_ends : step_of held_variable_1 ≡ None
held_variable_1_ends = refl

held_variable_1_kept : kept_uses held_variable_1 ≡ []
held_variable_1_kept = refl

-- An argument that assigns a variable bars all.
abbrev literal_that_assigns_0_f0 : File Span
literal_that_assigns_0_f0 = record { package_name = (nm 8 12 (codes "main")); imports = []; decls = ((fn (at 30 69) None (nm 35 38 (codes "Sum")) (sig ((param (at 39 47) (Some (nm 39 40 (codes "a"))) (named (at 44 47) None (nm 44 47 (codes "int")))) ∷ (param (at 42 47) (Some (nm 42 43 (codes "b"))) (named (at 44 47) None (nm 44 47 (codes "int")))) ∷ []) ((param (at 49 52) None (named (at 49 52) None (nm 49 52 (codes "int")))) ∷ [])) (at 53 69) (stmt_and (return_ (at 55 67) (expr_and (binary (at 62 67) Add (ident (at 62 63) (codes "a")) (ident (at 66 67) (codes "b"))) no_exprs)) no_stmts)) ∷ (fn (at 71 149) None (nm 76 80 (codes "main")) (sig [] []) (at 83 149) (stmt_and (define (at 86 92) ((nm 86 87 (codes "x")) ∷ []) (expr_and (int_lit (at 91 92) (codes "1")) no_exprs)) (stmt_and (eval (at 94 147) (call (at 94 147) (ident (at 94 101) (codes "println")) (expr_and (call (at 102 146) (ident (at 102 105) (codes "Sum")) (expr_and (ident (at 106 107) (codes "x")) (expr_and (call (at 109 145) (func_lit (at 109 143) (sig [] ((param (at 116 119) None (named (at 116 119) None (nm 116 119 (codes "int")))) ∷ [])) (at 120 143) (stmt_and (assign (at 124 129) (expr_and (ident (at 124 125) (codes "x")) no_exprs) None (expr_and (int_lit (at 128 129) (codes "2")) no_exprs)) (stmt_and (return_ (at 132 140) (expr_and (int_lit (at 139 140) (codes "3")) no_exprs)) no_stmts))) no_exprs Plain) no_exprs)) Plain) no_exprs) Plain)) no_stmts))) ∷ []) }

literal_that_assigns_0_f0_read : read_at span_to read_front (lexemes ((tok Keyword 0 7 (codes "package")) ∷ (tok Ident 8 12 (codes "main")) ∷ (tok Inserted 12 12 (codes ";")) ∷ (tok Keyword 30 34 (codes "func")) ∷ (tok Ident 35 38 (codes "Sum")) ∷ (tok Operator 38 39 (codes "(")) ∷ (tok Ident 39 40 (codes "a")) ∷ (tok Operator 40 41 (codes ",")) ∷ (tok Ident 42 43 (codes "b")) ∷ (tok Ident 44 47 (codes "int")) ∷ (tok Operator 47 48 (codes ")")) ∷ (tok Ident 49 52 (codes "int")) ∷ (tok Operator 53 54 (codes "{")) ∷ (tok Keyword 55 61 (codes "return")) ∷ (tok Ident 62 63 (codes "a")) ∷ (tok Operator 64 65 (codes "+")) ∷ (tok Ident 66 67 (codes "b")) ∷ (tok Operator 68 69 (codes "}")) ∷ (tok Inserted 69 69 (codes ";")) ∷ (tok Keyword 71 75 (codes "func")) ∷ (tok Ident 76 80 (codes "main")) ∷ (tok Operator 80 81 (codes "(")) ∷ (tok Operator 81 82 (codes ")")) ∷ (tok Operator 83 84 (codes "{")) ∷ (tok Ident 86 87 (codes "x")) ∷ (tok Operator 88 90 (codes ":=")) ∷ (tok Integer 91 92 (codes "1")) ∷ (tok Inserted 92 92 (codes ";")) ∷ (tok Ident 94 101 (codes "println")) ∷ (tok Operator 101 102 (codes "(")) ∷ (tok Ident 102 105 (codes "Sum")) ∷ (tok Operator 105 106 (codes "(")) ∷ (tok Ident 106 107 (codes "x")) ∷ (tok Operator 107 108 (codes ",")) ∷ (tok Keyword 109 113 (codes "func")) ∷ (tok Operator 113 114 (codes "(")) ∷ (tok Operator 114 115 (codes ")")) ∷ (tok Ident 116 119 (codes "int")) ∷ (tok Operator 120 121 (codes "{")) ∷ (tok Ident 124 125 (codes "x")) ∷ (tok Operator 126 127 (codes "=")) ∷ (tok Integer 128 129 (codes "2")) ∷ (tok Inserted 129 129 (codes ";")) ∷ (tok Keyword 132 138 (codes "return")) ∷ (tok Integer 139 140 (codes "3")) ∷ (tok Inserted 140 140 (codes ";")) ∷ (tok Operator 142 143 (codes "}")) ∷ (tok Operator 143 144 (codes "(")) ∷ (tok Operator 144 145 (codes ")")) ∷ (tok Operator 145 146 (codes ")")) ∷ (tok Operator 146 147 (codes ")")) ∷ (tok Inserted 147 147 (codes ";")) ∷ (tok Operator 148 149 (codes "}")) ∷ (tok Inserted 149 149 (codes ";")) ∷ [])) ≡ Some (literal_that_assigns_0_f0, [])
unfolding reading
literal_that_assigns_0_f0_read = refl

abbrev literal_that_assigns_0 : Module
literal_that_assigns_0 = record { packages = (pack (codes "example.com/m") (codes "main") (source (codes "main.go") literal_that_assigns_0_f0 ∷ []) ∷ []); marks = (mark 0 0 0 0 ∷ []); texts = (((codes "main.go"), record { text = (codes "package main\n\n//go:fix inline\nfunc Sum(a, b int) int { return a + b }\n\nfunc main() {\n\tx := 1\n\tprintln(Sum(x, func() int {\n\t\tx = 2\n\t\treturn 3\n\t}()))\n}\n"); tokens = ((tok Keyword 0 7 (codes "package")) ∷ (tok Ident 8 12 (codes "main")) ∷ (tok Inserted 12 12 (codes ";")) ∷ (tok Keyword 30 34 (codes "func")) ∷ (tok Ident 35 38 (codes "Sum")) ∷ (tok Operator 38 39 (codes "(")) ∷ (tok Ident 39 40 (codes "a")) ∷ (tok Operator 40 41 (codes ",")) ∷ (tok Ident 42 43 (codes "b")) ∷ (tok Ident 44 47 (codes "int")) ∷ (tok Operator 47 48 (codes ")")) ∷ (tok Ident 49 52 (codes "int")) ∷ (tok Operator 53 54 (codes "{")) ∷ (tok Keyword 55 61 (codes "return")) ∷ (tok Ident 62 63 (codes "a")) ∷ (tok Operator 64 65 (codes "+")) ∷ (tok Ident 66 67 (codes "b")) ∷ (tok Operator 68 69 (codes "}")) ∷ (tok Inserted 69 69 (codes ";")) ∷ (tok Keyword 71 75 (codes "func")) ∷ (tok Ident 76 80 (codes "main")) ∷ (tok Operator 80 81 (codes "(")) ∷ (tok Operator 81 82 (codes ")")) ∷ (tok Operator 83 84 (codes "{")) ∷ (tok Ident 86 87 (codes "x")) ∷ (tok Operator 88 90 (codes ":=")) ∷ (tok Integer 91 92 (codes "1")) ∷ (tok Inserted 92 92 (codes ";")) ∷ (tok Ident 94 101 (codes "println")) ∷ (tok Operator 101 102 (codes "(")) ∷ (tok Ident 102 105 (codes "Sum")) ∷ (tok Operator 105 106 (codes "(")) ∷ (tok Ident 106 107 (codes "x")) ∷ (tok Operator 107 108 (codes ",")) ∷ (tok Keyword 109 113 (codes "func")) ∷ (tok Operator 113 114 (codes "(")) ∷ (tok Operator 114 115 (codes ")")) ∷ (tok Ident 116 119 (codes "int")) ∷ (tok Operator 120 121 (codes "{")) ∷ (tok Ident 124 125 (codes "x")) ∷ (tok Operator 126 127 (codes "=")) ∷ (tok Integer 128 129 (codes "2")) ∷ (tok Inserted 129 129 (codes ";")) ∷ (tok Keyword 132 138 (codes "return")) ∷ (tok Integer 139 140 (codes "3")) ∷ (tok Inserted 140 140 (codes ";")) ∷ (tok Operator 142 143 (codes "}")) ∷ (tok Operator 143 144 (codes "(")) ∷ (tok Operator 144 145 (codes ")")) ∷ (tok Operator 145 146 (codes ")")) ∷ (tok Operator 146 147 (codes ")")) ∷ (tok Inserted 147 147 (codes ";")) ∷ (tok Operator 148 149 (codes "}")) ∷ (tok Inserted 149 149 (codes ";")) ∷ []); comments = ((note 14 29) ∷ []) }) ∷ []) }

literal_that_assigns_0_typed : is_typed literal_that_assigns_0 ≡ true
literal_that_assigns_0_typed = refl

literal_that_assigns_0_step : first_change literal_that_assigns_0 ≡ Some ((codes "main.go"), LiteralForm, (codes "package main\n\n//go:fix inline\nfunc Sum(a, b int) int { return a + b }\n\nfunc main() {\n\tx := 1\n\tprintln(func(a int, b int) int {\n\t\treturn a + b\n\t}(x, func() int {\n\t\tx = 2\n\t\treturn 3\n\t}()))\n}\n"))
literal_that_assigns_0_step = refl

abbrev literal_that_assigns_1_f0 : File Span
literal_that_assigns_1_f0 = record { package_name = (nm 8 12 (codes "main")); imports = []; decls = ((fn (at 30 69) None (nm 35 38 (codes "Sum")) (sig ((param (at 39 47) (Some (nm 39 40 (codes "a"))) (named (at 44 47) None (nm 44 47 (codes "int")))) ∷ (param (at 42 47) (Some (nm 42 43 (codes "b"))) (named (at 44 47) None (nm 44 47 (codes "int")))) ∷ []) ((param (at 49 52) None (named (at 49 52) None (nm 49 52 (codes "int")))) ∷ [])) (at 53 69) (stmt_and (return_ (at 55 67) (expr_and (binary (at 62 67) Add (ident (at 62 63) (codes "a")) (ident (at 66 67) (codes "b"))) no_exprs)) no_stmts)) ∷ (fn (at 71 188) None (nm 76 80 (codes "main")) (sig [] []) (at 83 188) (stmt_and (define (at 86 92) ((nm 86 87 (codes "x")) ∷ []) (expr_and (int_lit (at 91 92) (codes "1")) no_exprs)) (stmt_and (eval (at 94 186) (call (at 94 186) (ident (at 94 101) (codes "println")) (expr_and (call (at 102 185) (func_lit (at 102 144) (sig ((param (at 107 112) (Some (nm 107 108 (codes "a"))) (named (at 109 112) None (nm 109 112 (codes "int")))) ∷ (param (at 114 119) (Some (nm 114 115 (codes "b"))) (named (at 116 119) None (nm 116 119 (codes "int")))) ∷ []) ((param (at 121 124) None (named (at 121 124) None (nm 121 124 (codes "int")))) ∷ [])) (at 125 144) (stmt_and (return_ (at 129 141) (expr_and (binary (at 136 141) Add (ident (at 136 137) (codes "a")) (ident (at 140 141) (codes "b"))) no_exprs)) no_stmts)) (expr_and (ident (at 145 146) (codes "x")) (expr_and (call (at 148 184) (func_lit (at 148 182) (sig [] ((param (at 155 158) None (named (at 155 158) None (nm 155 158 (codes "int")))) ∷ [])) (at 159 182) (stmt_and (assign (at 163 168) (expr_and (ident (at 163 164) (codes "x")) no_exprs) None (expr_and (int_lit (at 167 168) (codes "2")) no_exprs)) (stmt_and (return_ (at 171 179) (expr_and (int_lit (at 178 179) (codes "3")) no_exprs)) no_stmts))) no_exprs Plain) no_exprs)) Plain) no_exprs) Plain)) no_stmts))) ∷ []) }

literal_that_assigns_1_f0_read : read_at span_to read_front (lexemes ((tok Keyword 0 7 (codes "package")) ∷ (tok Ident 8 12 (codes "main")) ∷ (tok Inserted 12 12 (codes ";")) ∷ (tok Keyword 30 34 (codes "func")) ∷ (tok Ident 35 38 (codes "Sum")) ∷ (tok Operator 38 39 (codes "(")) ∷ (tok Ident 39 40 (codes "a")) ∷ (tok Operator 40 41 (codes ",")) ∷ (tok Ident 42 43 (codes "b")) ∷ (tok Ident 44 47 (codes "int")) ∷ (tok Operator 47 48 (codes ")")) ∷ (tok Ident 49 52 (codes "int")) ∷ (tok Operator 53 54 (codes "{")) ∷ (tok Keyword 55 61 (codes "return")) ∷ (tok Ident 62 63 (codes "a")) ∷ (tok Operator 64 65 (codes "+")) ∷ (tok Ident 66 67 (codes "b")) ∷ (tok Operator 68 69 (codes "}")) ∷ (tok Inserted 69 69 (codes ";")) ∷ (tok Keyword 71 75 (codes "func")) ∷ (tok Ident 76 80 (codes "main")) ∷ (tok Operator 80 81 (codes "(")) ∷ (tok Operator 81 82 (codes ")")) ∷ (tok Operator 83 84 (codes "{")) ∷ (tok Ident 86 87 (codes "x")) ∷ (tok Operator 88 90 (codes ":=")) ∷ (tok Integer 91 92 (codes "1")) ∷ (tok Inserted 92 92 (codes ";")) ∷ (tok Ident 94 101 (codes "println")) ∷ (tok Operator 101 102 (codes "(")) ∷ (tok Keyword 102 106 (codes "func")) ∷ (tok Operator 106 107 (codes "(")) ∷ (tok Ident 107 108 (codes "a")) ∷ (tok Ident 109 112 (codes "int")) ∷ (tok Operator 112 113 (codes ",")) ∷ (tok Ident 114 115 (codes "b")) ∷ (tok Ident 116 119 (codes "int")) ∷ (tok Operator 119 120 (codes ")")) ∷ (tok Ident 121 124 (codes "int")) ∷ (tok Operator 125 126 (codes "{")) ∷ (tok Keyword 129 135 (codes "return")) ∷ (tok Ident 136 137 (codes "a")) ∷ (tok Operator 138 139 (codes "+")) ∷ (tok Ident 140 141 (codes "b")) ∷ (tok Inserted 141 141 (codes ";")) ∷ (tok Operator 143 144 (codes "}")) ∷ (tok Operator 144 145 (codes "(")) ∷ (tok Ident 145 146 (codes "x")) ∷ (tok Operator 146 147 (codes ",")) ∷ (tok Keyword 148 152 (codes "func")) ∷ (tok Operator 152 153 (codes "(")) ∷ (tok Operator 153 154 (codes ")")) ∷ (tok Ident 155 158 (codes "int")) ∷ (tok Operator 159 160 (codes "{")) ∷ (tok Ident 163 164 (codes "x")) ∷ (tok Operator 165 166 (codes "=")) ∷ (tok Integer 167 168 (codes "2")) ∷ (tok Inserted 168 168 (codes ";")) ∷ (tok Keyword 171 177 (codes "return")) ∷ (tok Integer 178 179 (codes "3")) ∷ (tok Inserted 179 179 (codes ";")) ∷ (tok Operator 181 182 (codes "}")) ∷ (tok Operator 182 183 (codes "(")) ∷ (tok Operator 183 184 (codes ")")) ∷ (tok Operator 184 185 (codes ")")) ∷ (tok Operator 185 186 (codes ")")) ∷ (tok Inserted 186 186 (codes ";")) ∷ (tok Operator 187 188 (codes "}")) ∷ (tok Inserted 188 188 (codes ";")) ∷ [])) ≡ Some (literal_that_assigns_1_f0, [])
unfolding reading
literal_that_assigns_1_f0_read = refl

abbrev literal_that_assigns_1 : Module
literal_that_assigns_1 = record { packages = (pack (codes "example.com/m") (codes "main") (source (codes "main.go") literal_that_assigns_1_f0 ∷ []) ∷ []); marks = (mark 0 0 0 0 ∷ []); texts = (((codes "main.go"), record { text = (codes "package main\n\n//go:fix inline\nfunc Sum(a, b int) int { return a + b }\n\nfunc main() {\n\tx := 1\n\tprintln(func(a int, b int) int {\n\t\treturn a + b\n\t}(x, func() int {\n\t\tx = 2\n\t\treturn 3\n\t}()))\n}\n"); tokens = ((tok Keyword 0 7 (codes "package")) ∷ (tok Ident 8 12 (codes "main")) ∷ (tok Inserted 12 12 (codes ";")) ∷ (tok Keyword 30 34 (codes "func")) ∷ (tok Ident 35 38 (codes "Sum")) ∷ (tok Operator 38 39 (codes "(")) ∷ (tok Ident 39 40 (codes "a")) ∷ (tok Operator 40 41 (codes ",")) ∷ (tok Ident 42 43 (codes "b")) ∷ (tok Ident 44 47 (codes "int")) ∷ (tok Operator 47 48 (codes ")")) ∷ (tok Ident 49 52 (codes "int")) ∷ (tok Operator 53 54 (codes "{")) ∷ (tok Keyword 55 61 (codes "return")) ∷ (tok Ident 62 63 (codes "a")) ∷ (tok Operator 64 65 (codes "+")) ∷ (tok Ident 66 67 (codes "b")) ∷ (tok Operator 68 69 (codes "}")) ∷ (tok Inserted 69 69 (codes ";")) ∷ (tok Keyword 71 75 (codes "func")) ∷ (tok Ident 76 80 (codes "main")) ∷ (tok Operator 80 81 (codes "(")) ∷ (tok Operator 81 82 (codes ")")) ∷ (tok Operator 83 84 (codes "{")) ∷ (tok Ident 86 87 (codes "x")) ∷ (tok Operator 88 90 (codes ":=")) ∷ (tok Integer 91 92 (codes "1")) ∷ (tok Inserted 92 92 (codes ";")) ∷ (tok Ident 94 101 (codes "println")) ∷ (tok Operator 101 102 (codes "(")) ∷ (tok Keyword 102 106 (codes "func")) ∷ (tok Operator 106 107 (codes "(")) ∷ (tok Ident 107 108 (codes "a")) ∷ (tok Ident 109 112 (codes "int")) ∷ (tok Operator 112 113 (codes ",")) ∷ (tok Ident 114 115 (codes "b")) ∷ (tok Ident 116 119 (codes "int")) ∷ (tok Operator 119 120 (codes ")")) ∷ (tok Ident 121 124 (codes "int")) ∷ (tok Operator 125 126 (codes "{")) ∷ (tok Keyword 129 135 (codes "return")) ∷ (tok Ident 136 137 (codes "a")) ∷ (tok Operator 138 139 (codes "+")) ∷ (tok Ident 140 141 (codes "b")) ∷ (tok Inserted 141 141 (codes ";")) ∷ (tok Operator 143 144 (codes "}")) ∷ (tok Operator 144 145 (codes "(")) ∷ (tok Ident 145 146 (codes "x")) ∷ (tok Operator 146 147 (codes ",")) ∷ (tok Keyword 148 152 (codes "func")) ∷ (tok Operator 152 153 (codes "(")) ∷ (tok Operator 153 154 (codes ")")) ∷ (tok Ident 155 158 (codes "int")) ∷ (tok Operator 159 160 (codes "{")) ∷ (tok Ident 163 164 (codes "x")) ∷ (tok Operator 165 166 (codes "=")) ∷ (tok Integer 167 168 (codes "2")) ∷ (tok Inserted 168 168 (codes ";")) ∷ (tok Keyword 171 177 (codes "return")) ∷ (tok Integer 178 179 (codes "3")) ∷ (tok Inserted 179 179 (codes ";")) ∷ (tok Operator 181 182 (codes "}")) ∷ (tok Operator 182 183 (codes "(")) ∷ (tok Operator 183 184 (codes ")")) ∷ (tok Operator 184 185 (codes ")")) ∷ (tok Operator 185 186 (codes ")")) ∷ (tok Inserted 186 186 (codes ";")) ∷ (tok Operator 187 188 (codes "}")) ∷ (tok Inserted 188 188 (codes ";")) ∷ []); comments = ((note 14 29) ∷ []) }) ∷ []) }

literal_that_assigns_1_typed : is_typed literal_that_assigns_1 ≡ true
literal_that_assigns_1_typed = refl

literal_that_assigns_1_ends : step_of literal_that_assigns_1 ≡ None
literal_that_assigns_1_ends = refl

literal_that_assigns_1_kept : kept_uses literal_that_assigns_1 ≡ []
literal_that_assigns_1_kept = refl

-- An argument that recovers is bound.
abbrev recover_in_argument_0_f0 : File Span
recover_in_argument_0_f0 = record { package_name = (nm 8 12 (codes "main")); imports = []; decls = ((fn (at 30 61) None (nm 35 38 (codes "Say")) (sig ((param (at 39 45) (Some (nm 39 40 (codes "b"))) (named (at 41 45) None (nm 41 45 (codes "bool")))) ∷ []) []) (at 47 61) (stmt_and (eval (at 49 59) (call (at 49 59) (ident (at 49 56) (codes "println")) (expr_and (ident (at 57 58) (codes "b")) no_exprs) Plain)) no_stmts)) ∷ (fn (at 63 123) None (nm 68 72 (codes "main")) (sig [] []) (at 75 123) (stmt_and (defer (at 78 121) (call (at 84 121) (func_lit (at 84 119) (sig [] []) (at 91 119) (stmt_and (eval (at 95 116) (call (at 95 116) (ident (at 95 98) (codes "Say")) (expr_and (binary (at 99 115) Eq (call (at 99 108) (ident (at 99 106) (codes "recover")) no_exprs Plain) (ident (at 112 115) (codes "nil"))) no_exprs) Plain)) no_stmts)) no_exprs Plain)) no_stmts)) ∷ []) }

recover_in_argument_0_f0_read : read_at span_to read_front (lexemes ((tok Keyword 0 7 (codes "package")) ∷ (tok Ident 8 12 (codes "main")) ∷ (tok Inserted 12 12 (codes ";")) ∷ (tok Keyword 30 34 (codes "func")) ∷ (tok Ident 35 38 (codes "Say")) ∷ (tok Operator 38 39 (codes "(")) ∷ (tok Ident 39 40 (codes "b")) ∷ (tok Ident 41 45 (codes "bool")) ∷ (tok Operator 45 46 (codes ")")) ∷ (tok Operator 47 48 (codes "{")) ∷ (tok Ident 49 56 (codes "println")) ∷ (tok Operator 56 57 (codes "(")) ∷ (tok Ident 57 58 (codes "b")) ∷ (tok Operator 58 59 (codes ")")) ∷ (tok Operator 60 61 (codes "}")) ∷ (tok Inserted 61 61 (codes ";")) ∷ (tok Keyword 63 67 (codes "func")) ∷ (tok Ident 68 72 (codes "main")) ∷ (tok Operator 72 73 (codes "(")) ∷ (tok Operator 73 74 (codes ")")) ∷ (tok Operator 75 76 (codes "{")) ∷ (tok Keyword 78 83 (codes "defer")) ∷ (tok Keyword 84 88 (codes "func")) ∷ (tok Operator 88 89 (codes "(")) ∷ (tok Operator 89 90 (codes ")")) ∷ (tok Operator 91 92 (codes "{")) ∷ (tok Ident 95 98 (codes "Say")) ∷ (tok Operator 98 99 (codes "(")) ∷ (tok Ident 99 106 (codes "recover")) ∷ (tok Operator 106 107 (codes "(")) ∷ (tok Operator 107 108 (codes ")")) ∷ (tok Operator 109 111 (codes "==")) ∷ (tok Ident 112 115 (codes "nil")) ∷ (tok Operator 115 116 (codes ")")) ∷ (tok Inserted 116 116 (codes ";")) ∷ (tok Operator 118 119 (codes "}")) ∷ (tok Operator 119 120 (codes "(")) ∷ (tok Operator 120 121 (codes ")")) ∷ (tok Inserted 121 121 (codes ";")) ∷ (tok Operator 122 123 (codes "}")) ∷ (tok Inserted 123 123 (codes ";")) ∷ [])) ≡ Some (recover_in_argument_0_f0, [])
unfolding reading
recover_in_argument_0_f0_read = refl

abbrev recover_in_argument_0 : Module
recover_in_argument_0 = record { packages = (pack (codes "example.com/m") (codes "main") (source (codes "main.go") recover_in_argument_0_f0 ∷ []) ∷ []); marks = (mark 0 0 0 0 ∷ []); texts = (((codes "main.go"), record { text = (codes "package main\n\n//go:fix inline\nfunc Say(b bool) { println(b) }\n\nfunc main() {\n\tdefer func() {\n\t\tSay(recover() == nil)\n\t}()\n}\n"); tokens = ((tok Keyword 0 7 (codes "package")) ∷ (tok Ident 8 12 (codes "main")) ∷ (tok Inserted 12 12 (codes ";")) ∷ (tok Keyword 30 34 (codes "func")) ∷ (tok Ident 35 38 (codes "Say")) ∷ (tok Operator 38 39 (codes "(")) ∷ (tok Ident 39 40 (codes "b")) ∷ (tok Ident 41 45 (codes "bool")) ∷ (tok Operator 45 46 (codes ")")) ∷ (tok Operator 47 48 (codes "{")) ∷ (tok Ident 49 56 (codes "println")) ∷ (tok Operator 56 57 (codes "(")) ∷ (tok Ident 57 58 (codes "b")) ∷ (tok Operator 58 59 (codes ")")) ∷ (tok Operator 60 61 (codes "}")) ∷ (tok Inserted 61 61 (codes ";")) ∷ (tok Keyword 63 67 (codes "func")) ∷ (tok Ident 68 72 (codes "main")) ∷ (tok Operator 72 73 (codes "(")) ∷ (tok Operator 73 74 (codes ")")) ∷ (tok Operator 75 76 (codes "{")) ∷ (tok Keyword 78 83 (codes "defer")) ∷ (tok Keyword 84 88 (codes "func")) ∷ (tok Operator 88 89 (codes "(")) ∷ (tok Operator 89 90 (codes ")")) ∷ (tok Operator 91 92 (codes "{")) ∷ (tok Ident 95 98 (codes "Say")) ∷ (tok Operator 98 99 (codes "(")) ∷ (tok Ident 99 106 (codes "recover")) ∷ (tok Operator 106 107 (codes "(")) ∷ (tok Operator 107 108 (codes ")")) ∷ (tok Operator 109 111 (codes "==")) ∷ (tok Ident 112 115 (codes "nil")) ∷ (tok Operator 115 116 (codes ")")) ∷ (tok Inserted 116 116 (codes ";")) ∷ (tok Operator 118 119 (codes "}")) ∷ (tok Operator 119 120 (codes "(")) ∷ (tok Operator 120 121 (codes ")")) ∷ (tok Inserted 121 121 (codes ";")) ∷ (tok Operator 122 123 (codes "}")) ∷ (tok Inserted 123 123 (codes ";")) ∷ []); comments = ((note 14 29) ∷ []) }) ∷ []) }

recover_in_argument_0_typed : is_typed recover_in_argument_0 ≡ true
recover_in_argument_0_typed = refl

recover_in_argument_0_step : first_change recover_in_argument_0 ≡ Some ((codes "main.go"), BlockForm, (codes "package main\n\n//go:fix inline\nfunc Say(b bool) { println(b) }\n\nfunc main() {\n\tdefer func() {\n\t\t{\n\t\t\tb := recover() == nil\n\t\t\tprintln(b)\n\t\t}\n\t}()\n}\n"))
recover_in_argument_0_step = refl

abbrev recover_in_argument_1_f0 : File Span
recover_in_argument_1_f0 = record { package_name = (nm 8 12 (codes "main")); imports = []; decls = ((fn (at 30 61) None (nm 35 38 (codes "Say")) (sig ((param (at 39 45) (Some (nm 39 40 (codes "b"))) (named (at 41 45) None (nm 41 45 (codes "bool")))) ∷ []) []) (at 47 61) (stmt_and (eval (at 49 59) (call (at 49 59) (ident (at 49 56) (codes "println")) (expr_and (ident (at 57 58) (codes "b")) no_exprs) Plain)) no_stmts)) ∷ (fn (at 63 146) None (nm 68 72 (codes "main")) (sig [] []) (at 75 146) (stmt_and (defer (at 78 144) (call (at 84 144) (func_lit (at 84 142) (sig [] []) (at 91 142) (stmt_and (inner (at 95 139) (stmt_and (define (at 100 121) ((nm 100 101 (codes "b")) ∷ []) (expr_and (binary (at 105 121) Eq (call (at 105 114) (ident (at 105 112) (codes "recover")) no_exprs Plain) (ident (at 118 121) (codes "nil"))) no_exprs)) (stmt_and (eval (at 125 135) (call (at 125 135) (ident (at 125 132) (codes "println")) (expr_and (ident (at 133 134) (codes "b")) no_exprs) Plain)) no_stmts))) no_stmts)) no_exprs Plain)) no_stmts)) ∷ []) }

recover_in_argument_1_f0_read : read_at span_to read_front (lexemes ((tok Keyword 0 7 (codes "package")) ∷ (tok Ident 8 12 (codes "main")) ∷ (tok Inserted 12 12 (codes ";")) ∷ (tok Keyword 30 34 (codes "func")) ∷ (tok Ident 35 38 (codes "Say")) ∷ (tok Operator 38 39 (codes "(")) ∷ (tok Ident 39 40 (codes "b")) ∷ (tok Ident 41 45 (codes "bool")) ∷ (tok Operator 45 46 (codes ")")) ∷ (tok Operator 47 48 (codes "{")) ∷ (tok Ident 49 56 (codes "println")) ∷ (tok Operator 56 57 (codes "(")) ∷ (tok Ident 57 58 (codes "b")) ∷ (tok Operator 58 59 (codes ")")) ∷ (tok Operator 60 61 (codes "}")) ∷ (tok Inserted 61 61 (codes ";")) ∷ (tok Keyword 63 67 (codes "func")) ∷ (tok Ident 68 72 (codes "main")) ∷ (tok Operator 72 73 (codes "(")) ∷ (tok Operator 73 74 (codes ")")) ∷ (tok Operator 75 76 (codes "{")) ∷ (tok Keyword 78 83 (codes "defer")) ∷ (tok Keyword 84 88 (codes "func")) ∷ (tok Operator 88 89 (codes "(")) ∷ (tok Operator 89 90 (codes ")")) ∷ (tok Operator 91 92 (codes "{")) ∷ (tok Operator 95 96 (codes "{")) ∷ (tok Ident 100 101 (codes "b")) ∷ (tok Operator 102 104 (codes ":=")) ∷ (tok Ident 105 112 (codes "recover")) ∷ (tok Operator 112 113 (codes "(")) ∷ (tok Operator 113 114 (codes ")")) ∷ (tok Operator 115 117 (codes "==")) ∷ (tok Ident 118 121 (codes "nil")) ∷ (tok Inserted 121 121 (codes ";")) ∷ (tok Ident 125 132 (codes "println")) ∷ (tok Operator 132 133 (codes "(")) ∷ (tok Ident 133 134 (codes "b")) ∷ (tok Operator 134 135 (codes ")")) ∷ (tok Inserted 135 135 (codes ";")) ∷ (tok Operator 138 139 (codes "}")) ∷ (tok Inserted 139 139 (codes ";")) ∷ (tok Operator 141 142 (codes "}")) ∷ (tok Operator 142 143 (codes "(")) ∷ (tok Operator 143 144 (codes ")")) ∷ (tok Inserted 144 144 (codes ";")) ∷ (tok Operator 145 146 (codes "}")) ∷ (tok Inserted 146 146 (codes ";")) ∷ [])) ≡ Some (recover_in_argument_1_f0, [])
unfolding reading
recover_in_argument_1_f0_read = refl

abbrev recover_in_argument_1 : Module
recover_in_argument_1 = record { packages = (pack (codes "example.com/m") (codes "main") (source (codes "main.go") recover_in_argument_1_f0 ∷ []) ∷ []); marks = (mark 0 0 0 0 ∷ []); texts = (((codes "main.go"), record { text = (codes "package main\n\n//go:fix inline\nfunc Say(b bool) { println(b) }\n\nfunc main() {\n\tdefer func() {\n\t\t{\n\t\t\tb := recover() == nil\n\t\t\tprintln(b)\n\t\t}\n\t}()\n}\n"); tokens = ((tok Keyword 0 7 (codes "package")) ∷ (tok Ident 8 12 (codes "main")) ∷ (tok Inserted 12 12 (codes ";")) ∷ (tok Keyword 30 34 (codes "func")) ∷ (tok Ident 35 38 (codes "Say")) ∷ (tok Operator 38 39 (codes "(")) ∷ (tok Ident 39 40 (codes "b")) ∷ (tok Ident 41 45 (codes "bool")) ∷ (tok Operator 45 46 (codes ")")) ∷ (tok Operator 47 48 (codes "{")) ∷ (tok Ident 49 56 (codes "println")) ∷ (tok Operator 56 57 (codes "(")) ∷ (tok Ident 57 58 (codes "b")) ∷ (tok Operator 58 59 (codes ")")) ∷ (tok Operator 60 61 (codes "}")) ∷ (tok Inserted 61 61 (codes ";")) ∷ (tok Keyword 63 67 (codes "func")) ∷ (tok Ident 68 72 (codes "main")) ∷ (tok Operator 72 73 (codes "(")) ∷ (tok Operator 73 74 (codes ")")) ∷ (tok Operator 75 76 (codes "{")) ∷ (tok Keyword 78 83 (codes "defer")) ∷ (tok Keyword 84 88 (codes "func")) ∷ (tok Operator 88 89 (codes "(")) ∷ (tok Operator 89 90 (codes ")")) ∷ (tok Operator 91 92 (codes "{")) ∷ (tok Operator 95 96 (codes "{")) ∷ (tok Ident 100 101 (codes "b")) ∷ (tok Operator 102 104 (codes ":=")) ∷ (tok Ident 105 112 (codes "recover")) ∷ (tok Operator 112 113 (codes "(")) ∷ (tok Operator 113 114 (codes ")")) ∷ (tok Operator 115 117 (codes "==")) ∷ (tok Ident 118 121 (codes "nil")) ∷ (tok Inserted 121 121 (codes ";")) ∷ (tok Ident 125 132 (codes "println")) ∷ (tok Operator 132 133 (codes "(")) ∷ (tok Ident 133 134 (codes "b")) ∷ (tok Operator 134 135 (codes ")")) ∷ (tok Inserted 135 135 (codes ";")) ∷ (tok Operator 138 139 (codes "}")) ∷ (tok Inserted 139 139 (codes ";")) ∷ (tok Operator 141 142 (codes "}")) ∷ (tok Operator 142 143 (codes "(")) ∷ (tok Operator 143 144 (codes ")")) ∷ (tok Inserted 144 144 (codes ";")) ∷ (tok Operator 145 146 (codes "}")) ∷ (tok Inserted 146 146 (codes ";")) ∷ []); comments = ((note 14 29) ∷ []) }) ∷ []) }

recover_in_argument_1_typed : is_typed recover_in_argument_1 ≡ true
recover_in_argument_1_typed = refl

recover_in_argument_1_ends : step_of recover_in_argument_1 ≡ None
recover_in_argument_1_ends = refl

recover_in_argument_1_kept : kept_uses recover_in_argument_1 ≡ []
recover_in_argument_1_kept = refl

-- The inner use comes first.
abbrev inner_before_outer_0_f0 : File Span
inner_before_outer_0_f0 = record { package_name = (nm 8 12 (codes "main")); imports = []; decls = ((fn (at 30 66) None (nm 35 38 (codes "Inc")) (sig ((param (at 39 44) (Some (nm 39 40 (codes "x"))) (named (at 41 44) None (nm 41 44 (codes "int")))) ∷ []) ((param (at 46 49) None (named (at 46 49) None (nm 46 49 (codes "int")))) ∷ [])) (at 50 66) (stmt_and (return_ (at 52 64) (expr_and (binary (at 59 64) Add (ident (at 59 60) (codes "x")) (int_lit (at 63 64) (codes "1"))) no_exprs)) no_stmts)) ∷ (fn (at 68 113) None (nm 73 77 (codes "main")) (sig [] []) (at 80 113) (stmt_and (define (at 83 89) ((nm 83 84 (codes "a")) ∷ []) (expr_and (int_lit (at 88 89) (codes "1")) no_exprs)) (stmt_and (eval (at 91 111) (call (at 91 111) (ident (at 91 98) (codes "println")) (expr_and (call (at 99 110) (ident (at 99 102) (codes "Inc")) (expr_and (call (at 103 109) (ident (at 103 106) (codes "Inc")) (expr_and (ident (at 107 108) (codes "a")) no_exprs) Plain) no_exprs) Plain) no_exprs) Plain)) no_stmts))) ∷ []) }

inner_before_outer_0_f0_read : read_at span_to read_front (lexemes ((tok Keyword 0 7 (codes "package")) ∷ (tok Ident 8 12 (codes "main")) ∷ (tok Inserted 12 12 (codes ";")) ∷ (tok Keyword 30 34 (codes "func")) ∷ (tok Ident 35 38 (codes "Inc")) ∷ (tok Operator 38 39 (codes "(")) ∷ (tok Ident 39 40 (codes "x")) ∷ (tok Ident 41 44 (codes "int")) ∷ (tok Operator 44 45 (codes ")")) ∷ (tok Ident 46 49 (codes "int")) ∷ (tok Operator 50 51 (codes "{")) ∷ (tok Keyword 52 58 (codes "return")) ∷ (tok Ident 59 60 (codes "x")) ∷ (tok Operator 61 62 (codes "+")) ∷ (tok Integer 63 64 (codes "1")) ∷ (tok Operator 65 66 (codes "}")) ∷ (tok Inserted 66 66 (codes ";")) ∷ (tok Keyword 68 72 (codes "func")) ∷ (tok Ident 73 77 (codes "main")) ∷ (tok Operator 77 78 (codes "(")) ∷ (tok Operator 78 79 (codes ")")) ∷ (tok Operator 80 81 (codes "{")) ∷ (tok Ident 83 84 (codes "a")) ∷ (tok Operator 85 87 (codes ":=")) ∷ (tok Integer 88 89 (codes "1")) ∷ (tok Inserted 89 89 (codes ";")) ∷ (tok Ident 91 98 (codes "println")) ∷ (tok Operator 98 99 (codes "(")) ∷ (tok Ident 99 102 (codes "Inc")) ∷ (tok Operator 102 103 (codes "(")) ∷ (tok Ident 103 106 (codes "Inc")) ∷ (tok Operator 106 107 (codes "(")) ∷ (tok Ident 107 108 (codes "a")) ∷ (tok Operator 108 109 (codes ")")) ∷ (tok Operator 109 110 (codes ")")) ∷ (tok Operator 110 111 (codes ")")) ∷ (tok Inserted 111 111 (codes ";")) ∷ (tok Operator 112 113 (codes "}")) ∷ (tok Inserted 113 113 (codes ";")) ∷ [])) ≡ Some (inner_before_outer_0_f0, [])
unfolding reading
inner_before_outer_0_f0_read = refl

abbrev inner_before_outer_0 : Module
inner_before_outer_0 = record { packages = (pack (codes "example.com/m") (codes "main") (source (codes "main.go") inner_before_outer_0_f0 ∷ []) ∷ []); marks = (mark 0 0 0 0 ∷ []); texts = (((codes "main.go"), record { text = (codes "package main\n\n//go:fix inline\nfunc Inc(x int) int { return x + 1 }\n\nfunc main() {\n\ta := 1\n\tprintln(Inc(Inc(a)))\n}\n"); tokens = ((tok Keyword 0 7 (codes "package")) ∷ (tok Ident 8 12 (codes "main")) ∷ (tok Inserted 12 12 (codes ";")) ∷ (tok Keyword 30 34 (codes "func")) ∷ (tok Ident 35 38 (codes "Inc")) ∷ (tok Operator 38 39 (codes "(")) ∷ (tok Ident 39 40 (codes "x")) ∷ (tok Ident 41 44 (codes "int")) ∷ (tok Operator 44 45 (codes ")")) ∷ (tok Ident 46 49 (codes "int")) ∷ (tok Operator 50 51 (codes "{")) ∷ (tok Keyword 52 58 (codes "return")) ∷ (tok Ident 59 60 (codes "x")) ∷ (tok Operator 61 62 (codes "+")) ∷ (tok Integer 63 64 (codes "1")) ∷ (tok Operator 65 66 (codes "}")) ∷ (tok Inserted 66 66 (codes ";")) ∷ (tok Keyword 68 72 (codes "func")) ∷ (tok Ident 73 77 (codes "main")) ∷ (tok Operator 77 78 (codes "(")) ∷ (tok Operator 78 79 (codes ")")) ∷ (tok Operator 80 81 (codes "{")) ∷ (tok Ident 83 84 (codes "a")) ∷ (tok Operator 85 87 (codes ":=")) ∷ (tok Integer 88 89 (codes "1")) ∷ (tok Inserted 89 89 (codes ";")) ∷ (tok Ident 91 98 (codes "println")) ∷ (tok Operator 98 99 (codes "(")) ∷ (tok Ident 99 102 (codes "Inc")) ∷ (tok Operator 102 103 (codes "(")) ∷ (tok Ident 103 106 (codes "Inc")) ∷ (tok Operator 106 107 (codes "(")) ∷ (tok Ident 107 108 (codes "a")) ∷ (tok Operator 108 109 (codes ")")) ∷ (tok Operator 109 110 (codes ")")) ∷ (tok Operator 110 111 (codes ")")) ∷ (tok Inserted 111 111 (codes ";")) ∷ (tok Operator 112 113 (codes "}")) ∷ (tok Inserted 113 113 (codes ";")) ∷ []); comments = ((note 14 29) ∷ []) }) ∷ []) }

inner_before_outer_0_typed : is_typed inner_before_outer_0 ≡ true
inner_before_outer_0_typed = refl

inner_before_outer_0_step : first_change inner_before_outer_0 ≡ Some ((codes "main.go"), ExprForm, (codes "package main\n\n//go:fix inline\nfunc Inc(x int) int { return x + 1 }\n\nfunc main() {\n\ta := 1\n\tprintln(Inc(a + 1))\n}\n"))
inner_before_outer_0_step = refl

abbrev inner_before_outer_1_f0 : File Span
inner_before_outer_1_f0 = record { package_name = (nm 8 12 (codes "main")); imports = []; decls = ((fn (at 30 66) None (nm 35 38 (codes "Inc")) (sig ((param (at 39 44) (Some (nm 39 40 (codes "x"))) (named (at 41 44) None (nm 41 44 (codes "int")))) ∷ []) ((param (at 46 49) None (named (at 46 49) None (nm 46 49 (codes "int")))) ∷ [])) (at 50 66) (stmt_and (return_ (at 52 64) (expr_and (binary (at 59 64) Add (ident (at 59 60) (codes "x")) (int_lit (at 63 64) (codes "1"))) no_exprs)) no_stmts)) ∷ (fn (at 68 112) None (nm 73 77 (codes "main")) (sig [] []) (at 80 112) (stmt_and (define (at 83 89) ((nm 83 84 (codes "a")) ∷ []) (expr_and (int_lit (at 88 89) (codes "1")) no_exprs)) (stmt_and (eval (at 91 110) (call (at 91 110) (ident (at 91 98) (codes "println")) (expr_and (call (at 99 109) (ident (at 99 102) (codes "Inc")) (expr_and (binary (at 103 108) Add (ident (at 103 104) (codes "a")) (int_lit (at 107 108) (codes "1"))) no_exprs) Plain) no_exprs) Plain)) no_stmts))) ∷ []) }

inner_before_outer_1_f0_read : read_at span_to read_front (lexemes ((tok Keyword 0 7 (codes "package")) ∷ (tok Ident 8 12 (codes "main")) ∷ (tok Inserted 12 12 (codes ";")) ∷ (tok Keyword 30 34 (codes "func")) ∷ (tok Ident 35 38 (codes "Inc")) ∷ (tok Operator 38 39 (codes "(")) ∷ (tok Ident 39 40 (codes "x")) ∷ (tok Ident 41 44 (codes "int")) ∷ (tok Operator 44 45 (codes ")")) ∷ (tok Ident 46 49 (codes "int")) ∷ (tok Operator 50 51 (codes "{")) ∷ (tok Keyword 52 58 (codes "return")) ∷ (tok Ident 59 60 (codes "x")) ∷ (tok Operator 61 62 (codes "+")) ∷ (tok Integer 63 64 (codes "1")) ∷ (tok Operator 65 66 (codes "}")) ∷ (tok Inserted 66 66 (codes ";")) ∷ (tok Keyword 68 72 (codes "func")) ∷ (tok Ident 73 77 (codes "main")) ∷ (tok Operator 77 78 (codes "(")) ∷ (tok Operator 78 79 (codes ")")) ∷ (tok Operator 80 81 (codes "{")) ∷ (tok Ident 83 84 (codes "a")) ∷ (tok Operator 85 87 (codes ":=")) ∷ (tok Integer 88 89 (codes "1")) ∷ (tok Inserted 89 89 (codes ";")) ∷ (tok Ident 91 98 (codes "println")) ∷ (tok Operator 98 99 (codes "(")) ∷ (tok Ident 99 102 (codes "Inc")) ∷ (tok Operator 102 103 (codes "(")) ∷ (tok Ident 103 104 (codes "a")) ∷ (tok Operator 105 106 (codes "+")) ∷ (tok Integer 107 108 (codes "1")) ∷ (tok Operator 108 109 (codes ")")) ∷ (tok Operator 109 110 (codes ")")) ∷ (tok Inserted 110 110 (codes ";")) ∷ (tok Operator 111 112 (codes "}")) ∷ (tok Inserted 112 112 (codes ";")) ∷ [])) ≡ Some (inner_before_outer_1_f0, [])
unfolding reading
inner_before_outer_1_f0_read = refl

abbrev inner_before_outer_1 : Module
inner_before_outer_1 = record { packages = (pack (codes "example.com/m") (codes "main") (source (codes "main.go") inner_before_outer_1_f0 ∷ []) ∷ []); marks = (mark 0 0 0 0 ∷ []); texts = (((codes "main.go"), record { text = (codes "package main\n\n//go:fix inline\nfunc Inc(x int) int { return x + 1 }\n\nfunc main() {\n\ta := 1\n\tprintln(Inc(a + 1))\n}\n"); tokens = ((tok Keyword 0 7 (codes "package")) ∷ (tok Ident 8 12 (codes "main")) ∷ (tok Inserted 12 12 (codes ";")) ∷ (tok Keyword 30 34 (codes "func")) ∷ (tok Ident 35 38 (codes "Inc")) ∷ (tok Operator 38 39 (codes "(")) ∷ (tok Ident 39 40 (codes "x")) ∷ (tok Ident 41 44 (codes "int")) ∷ (tok Operator 44 45 (codes ")")) ∷ (tok Ident 46 49 (codes "int")) ∷ (tok Operator 50 51 (codes "{")) ∷ (tok Keyword 52 58 (codes "return")) ∷ (tok Ident 59 60 (codes "x")) ∷ (tok Operator 61 62 (codes "+")) ∷ (tok Integer 63 64 (codes "1")) ∷ (tok Operator 65 66 (codes "}")) ∷ (tok Inserted 66 66 (codes ";")) ∷ (tok Keyword 68 72 (codes "func")) ∷ (tok Ident 73 77 (codes "main")) ∷ (tok Operator 77 78 (codes "(")) ∷ (tok Operator 78 79 (codes ")")) ∷ (tok Operator 80 81 (codes "{")) ∷ (tok Ident 83 84 (codes "a")) ∷ (tok Operator 85 87 (codes ":=")) ∷ (tok Integer 88 89 (codes "1")) ∷ (tok Inserted 89 89 (codes ";")) ∷ (tok Ident 91 98 (codes "println")) ∷ (tok Operator 98 99 (codes "(")) ∷ (tok Ident 99 102 (codes "Inc")) ∷ (tok Operator 102 103 (codes "(")) ∷ (tok Ident 103 104 (codes "a")) ∷ (tok Operator 105 106 (codes "+")) ∷ (tok Integer 107 108 (codes "1")) ∷ (tok Operator 108 109 (codes ")")) ∷ (tok Operator 109 110 (codes ")")) ∷ (tok Inserted 110 110 (codes ";")) ∷ (tok Operator 111 112 (codes "}")) ∷ (tok Inserted 112 112 (codes ";")) ∷ []); comments = ((note 14 29) ∷ []) }) ∷ []) }

inner_before_outer_1_typed : is_typed inner_before_outer_1 ≡ true
inner_before_outer_1_typed = refl

inner_before_outer_1_step : first_change inner_before_outer_1 ≡ Some ((codes "main.go"), ExprForm, (codes "package main\n\n//go:fix inline\nfunc Inc(x int) int { return x + 1 }\n\nfunc main() {\n\ta := 1\n\tprintln(a + 1 + 1)\n}\n"))
inner_before_outer_1_step = refl

abbrev inner_before_outer_2_f0 : File Span
inner_before_outer_2_f0 = record { package_name = (nm 8 12 (codes "main")); imports = []; decls = ((fn (at 30 66) None (nm 35 38 (codes "Inc")) (sig ((param (at 39 44) (Some (nm 39 40 (codes "x"))) (named (at 41 44) None (nm 41 44 (codes "int")))) ∷ []) ((param (at 46 49) None (named (at 46 49) None (nm 46 49 (codes "int")))) ∷ [])) (at 50 66) (stmt_and (return_ (at 52 64) (expr_and (binary (at 59 64) Add (ident (at 59 60) (codes "x")) (int_lit (at 63 64) (codes "1"))) no_exprs)) no_stmts)) ∷ (fn (at 68 111) None (nm 73 77 (codes "main")) (sig [] []) (at 80 111) (stmt_and (define (at 83 89) ((nm 83 84 (codes "a")) ∷ []) (expr_and (int_lit (at 88 89) (codes "1")) no_exprs)) (stmt_and (eval (at 91 109) (call (at 91 109) (ident (at 91 98) (codes "println")) (expr_and (binary (at 99 108) Add (binary (at 99 104) Add (ident (at 99 100) (codes "a")) (int_lit (at 103 104) (codes "1"))) (int_lit (at 107 108) (codes "1"))) no_exprs) Plain)) no_stmts))) ∷ []) }

inner_before_outer_2_f0_read : read_at span_to read_front (lexemes ((tok Keyword 0 7 (codes "package")) ∷ (tok Ident 8 12 (codes "main")) ∷ (tok Inserted 12 12 (codes ";")) ∷ (tok Keyword 30 34 (codes "func")) ∷ (tok Ident 35 38 (codes "Inc")) ∷ (tok Operator 38 39 (codes "(")) ∷ (tok Ident 39 40 (codes "x")) ∷ (tok Ident 41 44 (codes "int")) ∷ (tok Operator 44 45 (codes ")")) ∷ (tok Ident 46 49 (codes "int")) ∷ (tok Operator 50 51 (codes "{")) ∷ (tok Keyword 52 58 (codes "return")) ∷ (tok Ident 59 60 (codes "x")) ∷ (tok Operator 61 62 (codes "+")) ∷ (tok Integer 63 64 (codes "1")) ∷ (tok Operator 65 66 (codes "}")) ∷ (tok Inserted 66 66 (codes ";")) ∷ (tok Keyword 68 72 (codes "func")) ∷ (tok Ident 73 77 (codes "main")) ∷ (tok Operator 77 78 (codes "(")) ∷ (tok Operator 78 79 (codes ")")) ∷ (tok Operator 80 81 (codes "{")) ∷ (tok Ident 83 84 (codes "a")) ∷ (tok Operator 85 87 (codes ":=")) ∷ (tok Integer 88 89 (codes "1")) ∷ (tok Inserted 89 89 (codes ";")) ∷ (tok Ident 91 98 (codes "println")) ∷ (tok Operator 98 99 (codes "(")) ∷ (tok Ident 99 100 (codes "a")) ∷ (tok Operator 101 102 (codes "+")) ∷ (tok Integer 103 104 (codes "1")) ∷ (tok Operator 105 106 (codes "+")) ∷ (tok Integer 107 108 (codes "1")) ∷ (tok Operator 108 109 (codes ")")) ∷ (tok Inserted 109 109 (codes ";")) ∷ (tok Operator 110 111 (codes "}")) ∷ (tok Inserted 111 111 (codes ";")) ∷ [])) ≡ Some (inner_before_outer_2_f0, [])
unfolding reading
inner_before_outer_2_f0_read = refl

abbrev inner_before_outer_2 : Module
inner_before_outer_2 = record { packages = (pack (codes "example.com/m") (codes "main") (source (codes "main.go") inner_before_outer_2_f0 ∷ []) ∷ []); marks = (mark 0 0 0 0 ∷ []); texts = (((codes "main.go"), record { text = (codes "package main\n\n//go:fix inline\nfunc Inc(x int) int { return x + 1 }\n\nfunc main() {\n\ta := 1\n\tprintln(a + 1 + 1)\n}\n"); tokens = ((tok Keyword 0 7 (codes "package")) ∷ (tok Ident 8 12 (codes "main")) ∷ (tok Inserted 12 12 (codes ";")) ∷ (tok Keyword 30 34 (codes "func")) ∷ (tok Ident 35 38 (codes "Inc")) ∷ (tok Operator 38 39 (codes "(")) ∷ (tok Ident 39 40 (codes "x")) ∷ (tok Ident 41 44 (codes "int")) ∷ (tok Operator 44 45 (codes ")")) ∷ (tok Ident 46 49 (codes "int")) ∷ (tok Operator 50 51 (codes "{")) ∷ (tok Keyword 52 58 (codes "return")) ∷ (tok Ident 59 60 (codes "x")) ∷ (tok Operator 61 62 (codes "+")) ∷ (tok Integer 63 64 (codes "1")) ∷ (tok Operator 65 66 (codes "}")) ∷ (tok Inserted 66 66 (codes ";")) ∷ (tok Keyword 68 72 (codes "func")) ∷ (tok Ident 73 77 (codes "main")) ∷ (tok Operator 77 78 (codes "(")) ∷ (tok Operator 78 79 (codes ")")) ∷ (tok Operator 80 81 (codes "{")) ∷ (tok Ident 83 84 (codes "a")) ∷ (tok Operator 85 87 (codes ":=")) ∷ (tok Integer 88 89 (codes "1")) ∷ (tok Inserted 89 89 (codes ";")) ∷ (tok Ident 91 98 (codes "println")) ∷ (tok Operator 98 99 (codes "(")) ∷ (tok Ident 99 100 (codes "a")) ∷ (tok Operator 101 102 (codes "+")) ∷ (tok Integer 103 104 (codes "1")) ∷ (tok Operator 105 106 (codes "+")) ∷ (tok Integer 107 108 (codes "1")) ∷ (tok Operator 108 109 (codes ")")) ∷ (tok Inserted 109 109 (codes ";")) ∷ (tok Operator 110 111 (codes "}")) ∷ (tok Inserted 111 111 (codes ";")) ∷ []); comments = ((note 14 29) ∷ []) }) ∷ []) }

inner_before_outer_2_typed : is_typed inner_before_outer_2 ≡ true
inner_before_outer_2_typed = refl

inner_before_outer_2_ends : step_of inner_before_outer_2 ≡ None
inner_before_outer_2_ends = refl

inner_before_outer_2_kept : kept_uses inner_before_outer_2 ≡ []
inner_before_outer_2_kept = refl

-- A statement of a clause.
abbrev block_in_case_0_f0 : File Span
block_in_case_0_f0 = record { package_name = (nm 8 12 (codes "main")); imports = []; decls = ((fn (at 30 73) None (nm 35 38 (codes "Two")) (sig ((param (at 39 44) (Some (nm 39 40 (codes "x"))) (named (at 41 44) None (nm 41 44 (codes "int")))) ∷ []) []) (at 46 73) (stmt_and (eval (at 49 59) (call (at 49 59) (ident (at 49 56) (codes "println")) (expr_and (ident (at 57 58) (codes "x")) no_exprs) Plain)) (stmt_and (eval (at 61 71) (call (at 61 71) (ident (at 61 68) (codes "println")) (expr_and (ident (at 69 70) (codes "x")) no_exprs) Plain)) no_stmts))) ∷ (fn (at 75 131) None (nm 80 84 (codes "main")) (sig [] []) (at 87 131) (stmt_and (define (at 90 96) ((nm 90 91 (codes "a")) ∷ []) (expr_and (int_lit (at 95 96) (codes "1")) no_exprs)) (stmt_and (switch (at 98 129) no_stmt (some_expr (ident (at 105 106) (codes "a"))) (case (at 110 126) (expr_and (int_lit (at 115 116) (codes "1")) no_exprs) (stmt_and (eval (at 120 126) (call (at 120 126) (ident (at 120 123) (codes "Two")) (expr_and (ident (at 124 125) (codes "a")) no_exprs) Plain)) no_stmts) no_cases)) no_stmts))) ∷ []) }

block_in_case_0_f0_read : read_at span_to read_front (lexemes ((tok Keyword 0 7 (codes "package")) ∷ (tok Ident 8 12 (codes "main")) ∷ (tok Inserted 12 12 (codes ";")) ∷ (tok Keyword 30 34 (codes "func")) ∷ (tok Ident 35 38 (codes "Two")) ∷ (tok Operator 38 39 (codes "(")) ∷ (tok Ident 39 40 (codes "x")) ∷ (tok Ident 41 44 (codes "int")) ∷ (tok Operator 44 45 (codes ")")) ∷ (tok Operator 46 47 (codes "{")) ∷ (tok Ident 49 56 (codes "println")) ∷ (tok Operator 56 57 (codes "(")) ∷ (tok Ident 57 58 (codes "x")) ∷ (tok Operator 58 59 (codes ")")) ∷ (tok Inserted 59 59 (codes ";")) ∷ (tok Ident 61 68 (codes "println")) ∷ (tok Operator 68 69 (codes "(")) ∷ (tok Ident 69 70 (codes "x")) ∷ (tok Operator 70 71 (codes ")")) ∷ (tok Inserted 71 71 (codes ";")) ∷ (tok Operator 72 73 (codes "}")) ∷ (tok Inserted 73 73 (codes ";")) ∷ (tok Keyword 75 79 (codes "func")) ∷ (tok Ident 80 84 (codes "main")) ∷ (tok Operator 84 85 (codes "(")) ∷ (tok Operator 85 86 (codes ")")) ∷ (tok Operator 87 88 (codes "{")) ∷ (tok Ident 90 91 (codes "a")) ∷ (tok Operator 92 94 (codes ":=")) ∷ (tok Integer 95 96 (codes "1")) ∷ (tok Inserted 96 96 (codes ";")) ∷ (tok Keyword 98 104 (codes "switch")) ∷ (tok Ident 105 106 (codes "a")) ∷ (tok Operator 107 108 (codes "{")) ∷ (tok Keyword 110 114 (codes "case")) ∷ (tok Integer 115 116 (codes "1")) ∷ (tok Operator 116 117 (codes ":")) ∷ (tok Ident 120 123 (codes "Two")) ∷ (tok Operator 123 124 (codes "(")) ∷ (tok Ident 124 125 (codes "a")) ∷ (tok Operator 125 126 (codes ")")) ∷ (tok Inserted 126 126 (codes ";")) ∷ (tok Operator 128 129 (codes "}")) ∷ (tok Inserted 129 129 (codes ";")) ∷ (tok Operator 130 131 (codes "}")) ∷ (tok Inserted 131 131 (codes ";")) ∷ [])) ≡ Some (block_in_case_0_f0, [])
unfolding reading
block_in_case_0_f0_read = refl

abbrev block_in_case_0 : Module
block_in_case_0 = record { packages = (pack (codes "example.com/m") (codes "main") (source (codes "main.go") block_in_case_0_f0 ∷ []) ∷ []); marks = (mark 0 0 0 0 ∷ []); texts = (((codes "main.go"), record { text = (codes "package main\n\n//go:fix inline\nfunc Two(x int) {\n\tprintln(x)\n\tprintln(x)\n}\n\nfunc main() {\n\ta := 1\n\tswitch a {\n\tcase 1:\n\t\tTwo(a)\n\t}\n}\n"); tokens = ((tok Keyword 0 7 (codes "package")) ∷ (tok Ident 8 12 (codes "main")) ∷ (tok Inserted 12 12 (codes ";")) ∷ (tok Keyword 30 34 (codes "func")) ∷ (tok Ident 35 38 (codes "Two")) ∷ (tok Operator 38 39 (codes "(")) ∷ (tok Ident 39 40 (codes "x")) ∷ (tok Ident 41 44 (codes "int")) ∷ (tok Operator 44 45 (codes ")")) ∷ (tok Operator 46 47 (codes "{")) ∷ (tok Ident 49 56 (codes "println")) ∷ (tok Operator 56 57 (codes "(")) ∷ (tok Ident 57 58 (codes "x")) ∷ (tok Operator 58 59 (codes ")")) ∷ (tok Inserted 59 59 (codes ";")) ∷ (tok Ident 61 68 (codes "println")) ∷ (tok Operator 68 69 (codes "(")) ∷ (tok Ident 69 70 (codes "x")) ∷ (tok Operator 70 71 (codes ")")) ∷ (tok Inserted 71 71 (codes ";")) ∷ (tok Operator 72 73 (codes "}")) ∷ (tok Inserted 73 73 (codes ";")) ∷ (tok Keyword 75 79 (codes "func")) ∷ (tok Ident 80 84 (codes "main")) ∷ (tok Operator 84 85 (codes "(")) ∷ (tok Operator 85 86 (codes ")")) ∷ (tok Operator 87 88 (codes "{")) ∷ (tok Ident 90 91 (codes "a")) ∷ (tok Operator 92 94 (codes ":=")) ∷ (tok Integer 95 96 (codes "1")) ∷ (tok Inserted 96 96 (codes ";")) ∷ (tok Keyword 98 104 (codes "switch")) ∷ (tok Ident 105 106 (codes "a")) ∷ (tok Operator 107 108 (codes "{")) ∷ (tok Keyword 110 114 (codes "case")) ∷ (tok Integer 115 116 (codes "1")) ∷ (tok Operator 116 117 (codes ":")) ∷ (tok Ident 120 123 (codes "Two")) ∷ (tok Operator 123 124 (codes "(")) ∷ (tok Ident 124 125 (codes "a")) ∷ (tok Operator 125 126 (codes ")")) ∷ (tok Inserted 126 126 (codes ";")) ∷ (tok Operator 128 129 (codes "}")) ∷ (tok Inserted 129 129 (codes ";")) ∷ (tok Operator 130 131 (codes "}")) ∷ (tok Inserted 131 131 (codes ";")) ∷ []); comments = ((note 14 29) ∷ []) }) ∷ []) }

block_in_case_0_typed : is_typed block_in_case_0 ≡ true
block_in_case_0_typed = refl

block_in_case_0_step : first_change block_in_case_0 ≡ Some ((codes "main.go"), BlockForm, (codes "package main\n\n//go:fix inline\nfunc Two(x int) {\n\tprintln(x)\n\tprintln(x)\n}\n\nfunc main() {\n\ta := 1\n\tswitch a {\n\tcase 1:\n\t\t{\n\t\t\tprintln(a)\n\t\t\tprintln(a)\n\t\t}\n\t}\n}\n"))
block_in_case_0_step = refl

abbrev block_in_case_1_f0 : File Span
block_in_case_1_f0 = record { package_name = (nm 8 12 (codes "main")); imports = []; decls = ((fn (at 30 73) None (nm 35 38 (codes "Two")) (sig ((param (at 39 44) (Some (nm 39 40 (codes "x"))) (named (at 41 44) None (nm 41 44 (codes "int")))) ∷ []) []) (at 46 73) (stmt_and (eval (at 49 59) (call (at 49 59) (ident (at 49 56) (codes "println")) (expr_and (ident (at 57 58) (codes "x")) no_exprs) Plain)) (stmt_and (eval (at 61 71) (call (at 61 71) (ident (at 61 68) (codes "println")) (expr_and (ident (at 69 70) (codes "x")) no_exprs) Plain)) no_stmts))) ∷ (fn (at 75 158) None (nm 80 84 (codes "main")) (sig [] []) (at 87 158) (stmt_and (define (at 90 96) ((nm 90 91 (codes "a")) ∷ []) (expr_and (int_lit (at 95 96) (codes "1")) no_exprs)) (stmt_and (switch (at 98 156) no_stmt (some_expr (ident (at 105 106) (codes "a"))) (case (at 110 153) (expr_and (int_lit (at 115 116) (codes "1")) no_exprs) (stmt_and (inner (at 120 153) (stmt_and (eval (at 125 135) (call (at 125 135) (ident (at 125 132) (codes "println")) (expr_and (ident (at 133 134) (codes "a")) no_exprs) Plain)) (stmt_and (eval (at 139 149) (call (at 139 149) (ident (at 139 146) (codes "println")) (expr_and (ident (at 147 148) (codes "a")) no_exprs) Plain)) no_stmts))) no_stmts) no_cases)) no_stmts))) ∷ []) }

block_in_case_1_f0_read : read_at span_to read_front (lexemes ((tok Keyword 0 7 (codes "package")) ∷ (tok Ident 8 12 (codes "main")) ∷ (tok Inserted 12 12 (codes ";")) ∷ (tok Keyword 30 34 (codes "func")) ∷ (tok Ident 35 38 (codes "Two")) ∷ (tok Operator 38 39 (codes "(")) ∷ (tok Ident 39 40 (codes "x")) ∷ (tok Ident 41 44 (codes "int")) ∷ (tok Operator 44 45 (codes ")")) ∷ (tok Operator 46 47 (codes "{")) ∷ (tok Ident 49 56 (codes "println")) ∷ (tok Operator 56 57 (codes "(")) ∷ (tok Ident 57 58 (codes "x")) ∷ (tok Operator 58 59 (codes ")")) ∷ (tok Inserted 59 59 (codes ";")) ∷ (tok Ident 61 68 (codes "println")) ∷ (tok Operator 68 69 (codes "(")) ∷ (tok Ident 69 70 (codes "x")) ∷ (tok Operator 70 71 (codes ")")) ∷ (tok Inserted 71 71 (codes ";")) ∷ (tok Operator 72 73 (codes "}")) ∷ (tok Inserted 73 73 (codes ";")) ∷ (tok Keyword 75 79 (codes "func")) ∷ (tok Ident 80 84 (codes "main")) ∷ (tok Operator 84 85 (codes "(")) ∷ (tok Operator 85 86 (codes ")")) ∷ (tok Operator 87 88 (codes "{")) ∷ (tok Ident 90 91 (codes "a")) ∷ (tok Operator 92 94 (codes ":=")) ∷ (tok Integer 95 96 (codes "1")) ∷ (tok Inserted 96 96 (codes ";")) ∷ (tok Keyword 98 104 (codes "switch")) ∷ (tok Ident 105 106 (codes "a")) ∷ (tok Operator 107 108 (codes "{")) ∷ (tok Keyword 110 114 (codes "case")) ∷ (tok Integer 115 116 (codes "1")) ∷ (tok Operator 116 117 (codes ":")) ∷ (tok Operator 120 121 (codes "{")) ∷ (tok Ident 125 132 (codes "println")) ∷ (tok Operator 132 133 (codes "(")) ∷ (tok Ident 133 134 (codes "a")) ∷ (tok Operator 134 135 (codes ")")) ∷ (tok Inserted 135 135 (codes ";")) ∷ (tok Ident 139 146 (codes "println")) ∷ (tok Operator 146 147 (codes "(")) ∷ (tok Ident 147 148 (codes "a")) ∷ (tok Operator 148 149 (codes ")")) ∷ (tok Inserted 149 149 (codes ";")) ∷ (tok Operator 152 153 (codes "}")) ∷ (tok Inserted 153 153 (codes ";")) ∷ (tok Operator 155 156 (codes "}")) ∷ (tok Inserted 156 156 (codes ";")) ∷ (tok Operator 157 158 (codes "}")) ∷ (tok Inserted 158 158 (codes ";")) ∷ [])) ≡ Some (block_in_case_1_f0, [])
unfolding reading
block_in_case_1_f0_read = refl

abbrev block_in_case_1 : Module
block_in_case_1 = record { packages = (pack (codes "example.com/m") (codes "main") (source (codes "main.go") block_in_case_1_f0 ∷ []) ∷ []); marks = (mark 0 0 0 0 ∷ []); texts = (((codes "main.go"), record { text = (codes "package main\n\n//go:fix inline\nfunc Two(x int) {\n\tprintln(x)\n\tprintln(x)\n}\n\nfunc main() {\n\ta := 1\n\tswitch a {\n\tcase 1:\n\t\t{\n\t\t\tprintln(a)\n\t\t\tprintln(a)\n\t\t}\n\t}\n}\n"); tokens = ((tok Keyword 0 7 (codes "package")) ∷ (tok Ident 8 12 (codes "main")) ∷ (tok Inserted 12 12 (codes ";")) ∷ (tok Keyword 30 34 (codes "func")) ∷ (tok Ident 35 38 (codes "Two")) ∷ (tok Operator 38 39 (codes "(")) ∷ (tok Ident 39 40 (codes "x")) ∷ (tok Ident 41 44 (codes "int")) ∷ (tok Operator 44 45 (codes ")")) ∷ (tok Operator 46 47 (codes "{")) ∷ (tok Ident 49 56 (codes "println")) ∷ (tok Operator 56 57 (codes "(")) ∷ (tok Ident 57 58 (codes "x")) ∷ (tok Operator 58 59 (codes ")")) ∷ (tok Inserted 59 59 (codes ";")) ∷ (tok Ident 61 68 (codes "println")) ∷ (tok Operator 68 69 (codes "(")) ∷ (tok Ident 69 70 (codes "x")) ∷ (tok Operator 70 71 (codes ")")) ∷ (tok Inserted 71 71 (codes ";")) ∷ (tok Operator 72 73 (codes "}")) ∷ (tok Inserted 73 73 (codes ";")) ∷ (tok Keyword 75 79 (codes "func")) ∷ (tok Ident 80 84 (codes "main")) ∷ (tok Operator 84 85 (codes "(")) ∷ (tok Operator 85 86 (codes ")")) ∷ (tok Operator 87 88 (codes "{")) ∷ (tok Ident 90 91 (codes "a")) ∷ (tok Operator 92 94 (codes ":=")) ∷ (tok Integer 95 96 (codes "1")) ∷ (tok Inserted 96 96 (codes ";")) ∷ (tok Keyword 98 104 (codes "switch")) ∷ (tok Ident 105 106 (codes "a")) ∷ (tok Operator 107 108 (codes "{")) ∷ (tok Keyword 110 114 (codes "case")) ∷ (tok Integer 115 116 (codes "1")) ∷ (tok Operator 116 117 (codes ":")) ∷ (tok Operator 120 121 (codes "{")) ∷ (tok Ident 125 132 (codes "println")) ∷ (tok Operator 132 133 (codes "(")) ∷ (tok Ident 133 134 (codes "a")) ∷ (tok Operator 134 135 (codes ")")) ∷ (tok Inserted 135 135 (codes ";")) ∷ (tok Ident 139 146 (codes "println")) ∷ (tok Operator 146 147 (codes "(")) ∷ (tok Ident 147 148 (codes "a")) ∷ (tok Operator 148 149 (codes ")")) ∷ (tok Inserted 149 149 (codes ";")) ∷ (tok Operator 152 153 (codes "}")) ∷ (tok Inserted 153 153 (codes ";")) ∷ (tok Operator 155 156 (codes "}")) ∷ (tok Inserted 156 156 (codes ";")) ∷ (tok Operator 157 158 (codes "}")) ∷ (tok Inserted 158 158 (codes ";")) ∷ []); comments = ((note 14 29) ∷ []) }) ∷ []) }

block_in_case_1_typed : is_typed block_in_case_1 ≡ true
block_in_case_1_typed = refl

block_in_case_1_ends : step_of block_in_case_1 ≡ None
block_in_case_1_ends = refl

block_in_case_1_kept : kept_uses block_in_case_1 ≡ []
block_in_case_1_kept = refl

-- A `return` of a literal.
abbrev tail_of_literal_0_f0 : File Span
tail_of_literal_0_f0 = record { package_name = (nm 8 12 (codes "main")); imports = []; decls = ((fn (at 30 103) None (nm 35 39 (codes "Pair")) (sig ((param (at 40 45) (Some (nm 40 41 (codes "x"))) (named (at 42 45) None (nm 42 45 (codes "int")))) ∷ []) ((param (at 48 51) None (named (at 48 51) None (nm 48 51 (codes "int")))) ∷ (param (at 53 56) None (named (at 53 56) None (nm 53 56 (codes "int")))) ∷ [])) (at 58 103) (stmt_and (if_ (at 61 88) (arm (at 61 88) no_stmt (binary (at 64 69) Gt (ident (at 64 65) (codes "x")) (int_lit (at 68 69) (codes "0"))) (at 70 88) (stmt_and (return_ (at 74 85) (expr_and (ident (at 81 82) (codes "x")) (expr_and (int_lit (at 84 85) (codes "1")) no_exprs))) no_stmts) no_arms) no_block) (stmt_and (return_ (at 90 101) (expr_and (int_lit (at 97 98) (codes "0")) (expr_and (ident (at 100 101) (codes "x")) no_exprs))) no_stmts))) ∷ (fn (at 105 192) None (nm 110 114 (codes "main")) (sig [] []) (at 117 192) (stmt_and (define (at 120 175) ((nm 120 121 (codes "a")) ∷ (nm 123 124 (codes "b")) ∷ []) (expr_and (call (at 128 175) (func_lit (at 128 172) (sig ((param (at 133 138) (Some (nm 133 134 (codes "y"))) (named (at 135 138) None (nm 135 138 (codes "int")))) ∷ []) ((param (at 141 144) None (named (at 141 144) None (nm 141 144 (codes "int")))) ∷ (param (at 146 149) None (named (at 146 149) None (nm 146 149 (codes "int")))) ∷ [])) (at 151 172) (stmt_and (return_ (at 155 169) (expr_and (call (at 162 169) (ident (at 162 166) (codes "Pair")) (expr_and (ident (at 167 168) (codes "y")) no_exprs) Plain) no_exprs)) no_stmts)) (expr_and (int_lit (at 173 174) (codes "2")) no_exprs) Plain) no_exprs)) (stmt_and (eval (at 177 190) (call (at 177 190) (ident (at 177 184) (codes "println")) (expr_and (ident (at 185 186) (codes "a")) (expr_and (ident (at 188 189) (codes "b")) no_exprs)) Plain)) no_stmts))) ∷ []) }

tail_of_literal_0_f0_read : read_at span_to read_front (lexemes ((tok Keyword 0 7 (codes "package")) ∷ (tok Ident 8 12 (codes "main")) ∷ (tok Inserted 12 12 (codes ";")) ∷ (tok Keyword 30 34 (codes "func")) ∷ (tok Ident 35 39 (codes "Pair")) ∷ (tok Operator 39 40 (codes "(")) ∷ (tok Ident 40 41 (codes "x")) ∷ (tok Ident 42 45 (codes "int")) ∷ (tok Operator 45 46 (codes ")")) ∷ (tok Operator 47 48 (codes "(")) ∷ (tok Ident 48 51 (codes "int")) ∷ (tok Operator 51 52 (codes ",")) ∷ (tok Ident 53 56 (codes "int")) ∷ (tok Operator 56 57 (codes ")")) ∷ (tok Operator 58 59 (codes "{")) ∷ (tok Keyword 61 63 (codes "if")) ∷ (tok Ident 64 65 (codes "x")) ∷ (tok Operator 66 67 (codes ">")) ∷ (tok Integer 68 69 (codes "0")) ∷ (tok Operator 70 71 (codes "{")) ∷ (tok Keyword 74 80 (codes "return")) ∷ (tok Ident 81 82 (codes "x")) ∷ (tok Operator 82 83 (codes ",")) ∷ (tok Integer 84 85 (codes "1")) ∷ (tok Inserted 85 85 (codes ";")) ∷ (tok Operator 87 88 (codes "}")) ∷ (tok Inserted 88 88 (codes ";")) ∷ (tok Keyword 90 96 (codes "return")) ∷ (tok Integer 97 98 (codes "0")) ∷ (tok Operator 98 99 (codes ",")) ∷ (tok Ident 100 101 (codes "x")) ∷ (tok Inserted 101 101 (codes ";")) ∷ (tok Operator 102 103 (codes "}")) ∷ (tok Inserted 103 103 (codes ";")) ∷ (tok Keyword 105 109 (codes "func")) ∷ (tok Ident 110 114 (codes "main")) ∷ (tok Operator 114 115 (codes "(")) ∷ (tok Operator 115 116 (codes ")")) ∷ (tok Operator 117 118 (codes "{")) ∷ (tok Ident 120 121 (codes "a")) ∷ (tok Operator 121 122 (codes ",")) ∷ (tok Ident 123 124 (codes "b")) ∷ (tok Operator 125 127 (codes ":=")) ∷ (tok Keyword 128 132 (codes "func")) ∷ (tok Operator 132 133 (codes "(")) ∷ (tok Ident 133 134 (codes "y")) ∷ (tok Ident 135 138 (codes "int")) ∷ (tok Operator 138 139 (codes ")")) ∷ (tok Operator 140 141 (codes "(")) ∷ (tok Ident 141 144 (codes "int")) ∷ (tok Operator 144 145 (codes ",")) ∷ (tok Ident 146 149 (codes "int")) ∷ (tok Operator 149 150 (codes ")")) ∷ (tok Operator 151 152 (codes "{")) ∷ (tok Keyword 155 161 (codes "return")) ∷ (tok Ident 162 166 (codes "Pair")) ∷ (tok Operator 166 167 (codes "(")) ∷ (tok Ident 167 168 (codes "y")) ∷ (tok Operator 168 169 (codes ")")) ∷ (tok Inserted 169 169 (codes ";")) ∷ (tok Operator 171 172 (codes "}")) ∷ (tok Operator 172 173 (codes "(")) ∷ (tok Integer 173 174 (codes "2")) ∷ (tok Operator 174 175 (codes ")")) ∷ (tok Inserted 175 175 (codes ";")) ∷ (tok Ident 177 184 (codes "println")) ∷ (tok Operator 184 185 (codes "(")) ∷ (tok Ident 185 186 (codes "a")) ∷ (tok Operator 186 187 (codes ",")) ∷ (tok Ident 188 189 (codes "b")) ∷ (tok Operator 189 190 (codes ")")) ∷ (tok Inserted 190 190 (codes ";")) ∷ (tok Operator 191 192 (codes "}")) ∷ (tok Inserted 192 192 (codes ";")) ∷ [])) ≡ Some (tail_of_literal_0_f0, [])
unfolding reading
tail_of_literal_0_f0_read = refl

abbrev tail_of_literal_0 : Module
tail_of_literal_0 = record { packages = (pack (codes "example.com/m") (codes "main") (source (codes "main.go") tail_of_literal_0_f0 ∷ []) ∷ []); marks = (mark 0 0 0 0 ∷ []); texts = (((codes "main.go"), record { text = (codes "package main\n\n//go:fix inline\nfunc Pair(x int) (int, int) {\n\tif x > 0 {\n\t\treturn x, 1\n\t}\n\treturn 0, x\n}\n\nfunc main() {\n\ta, b := func(y int) (int, int) {\n\t\treturn Pair(y)\n\t}(2)\n\tprintln(a, b)\n}\n"); tokens = ((tok Keyword 0 7 (codes "package")) ∷ (tok Ident 8 12 (codes "main")) ∷ (tok Inserted 12 12 (codes ";")) ∷ (tok Keyword 30 34 (codes "func")) ∷ (tok Ident 35 39 (codes "Pair")) ∷ (tok Operator 39 40 (codes "(")) ∷ (tok Ident 40 41 (codes "x")) ∷ (tok Ident 42 45 (codes "int")) ∷ (tok Operator 45 46 (codes ")")) ∷ (tok Operator 47 48 (codes "(")) ∷ (tok Ident 48 51 (codes "int")) ∷ (tok Operator 51 52 (codes ",")) ∷ (tok Ident 53 56 (codes "int")) ∷ (tok Operator 56 57 (codes ")")) ∷ (tok Operator 58 59 (codes "{")) ∷ (tok Keyword 61 63 (codes "if")) ∷ (tok Ident 64 65 (codes "x")) ∷ (tok Operator 66 67 (codes ">")) ∷ (tok Integer 68 69 (codes "0")) ∷ (tok Operator 70 71 (codes "{")) ∷ (tok Keyword 74 80 (codes "return")) ∷ (tok Ident 81 82 (codes "x")) ∷ (tok Operator 82 83 (codes ",")) ∷ (tok Integer 84 85 (codes "1")) ∷ (tok Inserted 85 85 (codes ";")) ∷ (tok Operator 87 88 (codes "}")) ∷ (tok Inserted 88 88 (codes ";")) ∷ (tok Keyword 90 96 (codes "return")) ∷ (tok Integer 97 98 (codes "0")) ∷ (tok Operator 98 99 (codes ",")) ∷ (tok Ident 100 101 (codes "x")) ∷ (tok Inserted 101 101 (codes ";")) ∷ (tok Operator 102 103 (codes "}")) ∷ (tok Inserted 103 103 (codes ";")) ∷ (tok Keyword 105 109 (codes "func")) ∷ (tok Ident 110 114 (codes "main")) ∷ (tok Operator 114 115 (codes "(")) ∷ (tok Operator 115 116 (codes ")")) ∷ (tok Operator 117 118 (codes "{")) ∷ (tok Ident 120 121 (codes "a")) ∷ (tok Operator 121 122 (codes ",")) ∷ (tok Ident 123 124 (codes "b")) ∷ (tok Operator 125 127 (codes ":=")) ∷ (tok Keyword 128 132 (codes "func")) ∷ (tok Operator 132 133 (codes "(")) ∷ (tok Ident 133 134 (codes "y")) ∷ (tok Ident 135 138 (codes "int")) ∷ (tok Operator 138 139 (codes ")")) ∷ (tok Operator 140 141 (codes "(")) ∷ (tok Ident 141 144 (codes "int")) ∷ (tok Operator 144 145 (codes ",")) ∷ (tok Ident 146 149 (codes "int")) ∷ (tok Operator 149 150 (codes ")")) ∷ (tok Operator 151 152 (codes "{")) ∷ (tok Keyword 155 161 (codes "return")) ∷ (tok Ident 162 166 (codes "Pair")) ∷ (tok Operator 166 167 (codes "(")) ∷ (tok Ident 167 168 (codes "y")) ∷ (tok Operator 168 169 (codes ")")) ∷ (tok Inserted 169 169 (codes ";")) ∷ (tok Operator 171 172 (codes "}")) ∷ (tok Operator 172 173 (codes "(")) ∷ (tok Integer 173 174 (codes "2")) ∷ (tok Operator 174 175 (codes ")")) ∷ (tok Inserted 175 175 (codes ";")) ∷ (tok Ident 177 184 (codes "println")) ∷ (tok Operator 184 185 (codes "(")) ∷ (tok Ident 185 186 (codes "a")) ∷ (tok Operator 186 187 (codes ",")) ∷ (tok Ident 188 189 (codes "b")) ∷ (tok Operator 189 190 (codes ")")) ∷ (tok Inserted 190 190 (codes ";")) ∷ (tok Operator 191 192 (codes "}")) ∷ (tok Inserted 192 192 (codes ";")) ∷ []); comments = ((note 14 29) ∷ []) }) ∷ []) }

tail_of_literal_0_typed : is_typed tail_of_literal_0 ≡ true
tail_of_literal_0_typed = refl

tail_of_literal_0_step : first_change tail_of_literal_0 ≡ Some ((codes "main.go"), TailForm, (codes "package main\n\n//go:fix inline\nfunc Pair(x int) (int, int) {\n\tif x > 0 {\n\t\treturn x, 1\n\t}\n\treturn 0, x\n}\n\nfunc main() {\n\ta, b := func(y int) (int, int) {\n\t\t{\n\t\t\tif y > 0 {\n\t\t\t\treturn y, 1\n\t\t\t}\n\t\t\treturn 0, y\n\t\t}\n\t}(2)\n\tprintln(a, b)\n}\n"))
tail_of_literal_0_step = refl

abbrev tail_of_literal_1_f0 : File Span
tail_of_literal_1_f0 = record { package_name = (nm 8 12 (codes "main")); imports = []; decls = ((fn (at 30 103) None (nm 35 39 (codes "Pair")) (sig ((param (at 40 45) (Some (nm 40 41 (codes "x"))) (named (at 42 45) None (nm 42 45 (codes "int")))) ∷ []) ((param (at 48 51) None (named (at 48 51) None (nm 48 51 (codes "int")))) ∷ (param (at 53 56) None (named (at 53 56) None (nm 53 56 (codes "int")))) ∷ [])) (at 58 103) (stmt_and (if_ (at 61 88) (arm (at 61 88) no_stmt (binary (at 64 69) Gt (ident (at 64 65) (codes "x")) (int_lit (at 68 69) (codes "0"))) (at 70 88) (stmt_and (return_ (at 74 85) (expr_and (ident (at 81 82) (codes "x")) (expr_and (int_lit (at 84 85) (codes "1")) no_exprs))) no_stmts) no_arms) no_block) (stmt_and (return_ (at 90 101) (expr_and (int_lit (at 97 98) (codes "0")) (expr_and (ident (at 100 101) (codes "x")) no_exprs))) no_stmts))) ∷ (fn (at 105 233) None (nm 110 114 (codes "main")) (sig [] []) (at 117 233) (stmt_and (define (at 120 216) ((nm 120 121 (codes "a")) ∷ (nm 123 124 (codes "b")) ∷ []) (expr_and (call (at 128 216) (func_lit (at 128 213) (sig ((param (at 133 138) (Some (nm 133 134 (codes "y"))) (named (at 135 138) None (nm 135 138 (codes "int")))) ∷ []) ((param (at 141 144) None (named (at 141 144) None (nm 141 144 (codes "int")))) ∷ (param (at 146 149) None (named (at 146 149) None (nm 146 149 (codes "int")))) ∷ [])) (at 151 213) (stmt_and (inner (at 155 210) (stmt_and (if_ (at 160 191) (arm (at 160 191) no_stmt (binary (at 163 168) Gt (ident (at 163 164) (codes "y")) (int_lit (at 167 168) (codes "0"))) (at 169 191) (stmt_and (return_ (at 175 186) (expr_and (ident (at 182 183) (codes "y")) (expr_and (int_lit (at 185 186) (codes "1")) no_exprs))) no_stmts) no_arms) no_block) (stmt_and (return_ (at 195 206) (expr_and (int_lit (at 202 203) (codes "0")) (expr_and (ident (at 205 206) (codes "y")) no_exprs))) no_stmts))) no_stmts)) (expr_and (int_lit (at 214 215) (codes "2")) no_exprs) Plain) no_exprs)) (stmt_and (eval (at 218 231) (call (at 218 231) (ident (at 218 225) (codes "println")) (expr_and (ident (at 226 227) (codes "a")) (expr_and (ident (at 229 230) (codes "b")) no_exprs)) Plain)) no_stmts))) ∷ []) }

tail_of_literal_1_f0_read : read_at span_to read_front (lexemes ((tok Keyword 0 7 (codes "package")) ∷ (tok Ident 8 12 (codes "main")) ∷ (tok Inserted 12 12 (codes ";")) ∷ (tok Keyword 30 34 (codes "func")) ∷ (tok Ident 35 39 (codes "Pair")) ∷ (tok Operator 39 40 (codes "(")) ∷ (tok Ident 40 41 (codes "x")) ∷ (tok Ident 42 45 (codes "int")) ∷ (tok Operator 45 46 (codes ")")) ∷ (tok Operator 47 48 (codes "(")) ∷ (tok Ident 48 51 (codes "int")) ∷ (tok Operator 51 52 (codes ",")) ∷ (tok Ident 53 56 (codes "int")) ∷ (tok Operator 56 57 (codes ")")) ∷ (tok Operator 58 59 (codes "{")) ∷ (tok Keyword 61 63 (codes "if")) ∷ (tok Ident 64 65 (codes "x")) ∷ (tok Operator 66 67 (codes ">")) ∷ (tok Integer 68 69 (codes "0")) ∷ (tok Operator 70 71 (codes "{")) ∷ (tok Keyword 74 80 (codes "return")) ∷ (tok Ident 81 82 (codes "x")) ∷ (tok Operator 82 83 (codes ",")) ∷ (tok Integer 84 85 (codes "1")) ∷ (tok Inserted 85 85 (codes ";")) ∷ (tok Operator 87 88 (codes "}")) ∷ (tok Inserted 88 88 (codes ";")) ∷ (tok Keyword 90 96 (codes "return")) ∷ (tok Integer 97 98 (codes "0")) ∷ (tok Operator 98 99 (codes ",")) ∷ (tok Ident 100 101 (codes "x")) ∷ (tok Inserted 101 101 (codes ";")) ∷ (tok Operator 102 103 (codes "}")) ∷ (tok Inserted 103 103 (codes ";")) ∷ (tok Keyword 105 109 (codes "func")) ∷ (tok Ident 110 114 (codes "main")) ∷ (tok Operator 114 115 (codes "(")) ∷ (tok Operator 115 116 (codes ")")) ∷ (tok Operator 117 118 (codes "{")) ∷ (tok Ident 120 121 (codes "a")) ∷ (tok Operator 121 122 (codes ",")) ∷ (tok Ident 123 124 (codes "b")) ∷ (tok Operator 125 127 (codes ":=")) ∷ (tok Keyword 128 132 (codes "func")) ∷ (tok Operator 132 133 (codes "(")) ∷ (tok Ident 133 134 (codes "y")) ∷ (tok Ident 135 138 (codes "int")) ∷ (tok Operator 138 139 (codes ")")) ∷ (tok Operator 140 141 (codes "(")) ∷ (tok Ident 141 144 (codes "int")) ∷ (tok Operator 144 145 (codes ",")) ∷ (tok Ident 146 149 (codes "int")) ∷ (tok Operator 149 150 (codes ")")) ∷ (tok Operator 151 152 (codes "{")) ∷ (tok Operator 155 156 (codes "{")) ∷ (tok Keyword 160 162 (codes "if")) ∷ (tok Ident 163 164 (codes "y")) ∷ (tok Operator 165 166 (codes ">")) ∷ (tok Integer 167 168 (codes "0")) ∷ (tok Operator 169 170 (codes "{")) ∷ (tok Keyword 175 181 (codes "return")) ∷ (tok Ident 182 183 (codes "y")) ∷ (tok Operator 183 184 (codes ",")) ∷ (tok Integer 185 186 (codes "1")) ∷ (tok Inserted 186 186 (codes ";")) ∷ (tok Operator 190 191 (codes "}")) ∷ (tok Inserted 191 191 (codes ";")) ∷ (tok Keyword 195 201 (codes "return")) ∷ (tok Integer 202 203 (codes "0")) ∷ (tok Operator 203 204 (codes ",")) ∷ (tok Ident 205 206 (codes "y")) ∷ (tok Inserted 206 206 (codes ";")) ∷ (tok Operator 209 210 (codes "}")) ∷ (tok Inserted 210 210 (codes ";")) ∷ (tok Operator 212 213 (codes "}")) ∷ (tok Operator 213 214 (codes "(")) ∷ (tok Integer 214 215 (codes "2")) ∷ (tok Operator 215 216 (codes ")")) ∷ (tok Inserted 216 216 (codes ";")) ∷ (tok Ident 218 225 (codes "println")) ∷ (tok Operator 225 226 (codes "(")) ∷ (tok Ident 226 227 (codes "a")) ∷ (tok Operator 227 228 (codes ",")) ∷ (tok Ident 229 230 (codes "b")) ∷ (tok Operator 230 231 (codes ")")) ∷ (tok Inserted 231 231 (codes ";")) ∷ (tok Operator 232 233 (codes "}")) ∷ (tok Inserted 233 233 (codes ";")) ∷ [])) ≡ Some (tail_of_literal_1_f0, [])
unfolding reading
tail_of_literal_1_f0_read = refl

abbrev tail_of_literal_1 : Module
tail_of_literal_1 = record { packages = (pack (codes "example.com/m") (codes "main") (source (codes "main.go") tail_of_literal_1_f0 ∷ []) ∷ []); marks = (mark 0 0 0 0 ∷ []); texts = (((codes "main.go"), record { text = (codes "package main\n\n//go:fix inline\nfunc Pair(x int) (int, int) {\n\tif x > 0 {\n\t\treturn x, 1\n\t}\n\treturn 0, x\n}\n\nfunc main() {\n\ta, b := func(y int) (int, int) {\n\t\t{\n\t\t\tif y > 0 {\n\t\t\t\treturn y, 1\n\t\t\t}\n\t\t\treturn 0, y\n\t\t}\n\t}(2)\n\tprintln(a, b)\n}\n"); tokens = ((tok Keyword 0 7 (codes "package")) ∷ (tok Ident 8 12 (codes "main")) ∷ (tok Inserted 12 12 (codes ";")) ∷ (tok Keyword 30 34 (codes "func")) ∷ (tok Ident 35 39 (codes "Pair")) ∷ (tok Operator 39 40 (codes "(")) ∷ (tok Ident 40 41 (codes "x")) ∷ (tok Ident 42 45 (codes "int")) ∷ (tok Operator 45 46 (codes ")")) ∷ (tok Operator 47 48 (codes "(")) ∷ (tok Ident 48 51 (codes "int")) ∷ (tok Operator 51 52 (codes ",")) ∷ (tok Ident 53 56 (codes "int")) ∷ (tok Operator 56 57 (codes ")")) ∷ (tok Operator 58 59 (codes "{")) ∷ (tok Keyword 61 63 (codes "if")) ∷ (tok Ident 64 65 (codes "x")) ∷ (tok Operator 66 67 (codes ">")) ∷ (tok Integer 68 69 (codes "0")) ∷ (tok Operator 70 71 (codes "{")) ∷ (tok Keyword 74 80 (codes "return")) ∷ (tok Ident 81 82 (codes "x")) ∷ (tok Operator 82 83 (codes ",")) ∷ (tok Integer 84 85 (codes "1")) ∷ (tok Inserted 85 85 (codes ";")) ∷ (tok Operator 87 88 (codes "}")) ∷ (tok Inserted 88 88 (codes ";")) ∷ (tok Keyword 90 96 (codes "return")) ∷ (tok Integer 97 98 (codes "0")) ∷ (tok Operator 98 99 (codes ",")) ∷ (tok Ident 100 101 (codes "x")) ∷ (tok Inserted 101 101 (codes ";")) ∷ (tok Operator 102 103 (codes "}")) ∷ (tok Inserted 103 103 (codes ";")) ∷ (tok Keyword 105 109 (codes "func")) ∷ (tok Ident 110 114 (codes "main")) ∷ (tok Operator 114 115 (codes "(")) ∷ (tok Operator 115 116 (codes ")")) ∷ (tok Operator 117 118 (codes "{")) ∷ (tok Ident 120 121 (codes "a")) ∷ (tok Operator 121 122 (codes ",")) ∷ (tok Ident 123 124 (codes "b")) ∷ (tok Operator 125 127 (codes ":=")) ∷ (tok Keyword 128 132 (codes "func")) ∷ (tok Operator 132 133 (codes "(")) ∷ (tok Ident 133 134 (codes "y")) ∷ (tok Ident 135 138 (codes "int")) ∷ (tok Operator 138 139 (codes ")")) ∷ (tok Operator 140 141 (codes "(")) ∷ (tok Ident 141 144 (codes "int")) ∷ (tok Operator 144 145 (codes ",")) ∷ (tok Ident 146 149 (codes "int")) ∷ (tok Operator 149 150 (codes ")")) ∷ (tok Operator 151 152 (codes "{")) ∷ (tok Operator 155 156 (codes "{")) ∷ (tok Keyword 160 162 (codes "if")) ∷ (tok Ident 163 164 (codes "y")) ∷ (tok Operator 165 166 (codes ">")) ∷ (tok Integer 167 168 (codes "0")) ∷ (tok Operator 169 170 (codes "{")) ∷ (tok Keyword 175 181 (codes "return")) ∷ (tok Ident 182 183 (codes "y")) ∷ (tok Operator 183 184 (codes ",")) ∷ (tok Integer 185 186 (codes "1")) ∷ (tok Inserted 186 186 (codes ";")) ∷ (tok Operator 190 191 (codes "}")) ∷ (tok Inserted 191 191 (codes ";")) ∷ (tok Keyword 195 201 (codes "return")) ∷ (tok Integer 202 203 (codes "0")) ∷ (tok Operator 203 204 (codes ",")) ∷ (tok Ident 205 206 (codes "y")) ∷ (tok Inserted 206 206 (codes ";")) ∷ (tok Operator 209 210 (codes "}")) ∷ (tok Inserted 210 210 (codes ";")) ∷ (tok Operator 212 213 (codes "}")) ∷ (tok Operator 213 214 (codes "(")) ∷ (tok Integer 214 215 (codes "2")) ∷ (tok Operator 215 216 (codes ")")) ∷ (tok Inserted 216 216 (codes ";")) ∷ (tok Ident 218 225 (codes "println")) ∷ (tok Operator 225 226 (codes "(")) ∷ (tok Ident 226 227 (codes "a")) ∷ (tok Operator 227 228 (codes ",")) ∷ (tok Ident 229 230 (codes "b")) ∷ (tok Operator 230 231 (codes ")")) ∷ (tok Inserted 231 231 (codes ";")) ∷ (tok Operator 232 233 (codes "}")) ∷ (tok Inserted 233 233 (codes ";")) ∷ []); comments = ((note 14 29) ∷ []) }) ∷ []) }

tail_of_literal_1_typed : is_typed tail_of_literal_1 ≡ true
tail_of_literal_1_typed = refl

tail_of_literal_1_ends : step_of tail_of_literal_1 ≡ None
tail_of_literal_1_ends = refl

tail_of_literal_1_kept : kept_uses tail_of_literal_1 ≡ []
tail_of_literal_1_kept = refl
