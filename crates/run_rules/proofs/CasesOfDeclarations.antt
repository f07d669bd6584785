-- Methods, aliases, constants and what cannot be had at the use.
use Rattle.std.proofs.Common.{◌≡◌, refl}
use Rattle.std.specs.Prelude.{true, false, [], ◌∷◌, Some, None, codes}
use Rattle.go_tree.specs.declared.exprs.Rest.TheVariants.{Plain}
use Rattle.go_tree.specs.declared.spans.Span.{Span}
use Rattle.go_tree.specs.declared.tokens.TokenKind.TheVariants.{Ident, Keyword, Operator, Integer, Str, Inserted}
use Rattle.go_tree.specs.declared.operators.BinOp.TheVariants.{Mul, Add}
use Rattle.go_tree.specs.declared.operators.UnOp.TheVariants.{Address}
use Rattle.go_tree.specs.Tree.{named, pointer, slice_type, struct_type, no_fields, field, ident, int_lit, composite, selector, call, unary, binary, star, no_exprs, expr_and, no_elems, elem, plain, no_value, const_decl, var_decl, eval, assign, define, return_, no_stmts, stmt_and, no_specs, spec}
use Rattle.go_tree.specs.File.{File, values, types}
use Rattle.run_rules.specs.FormTrees.{ConstForm, TypeForm, ExprForm}
use Rattle.run_rules.specs.Obstacles.{NotAccessible, Internal, Repeated}
use Rattle.run_rules.proofs.CaseTools.{at, nm, tok, note, param, sig, imp, imps, tspec, recv, fn, pack, source, mark, Module, is_typed, first_change, step_of, kept_uses}
use Rattle.go_layout.specs.SpellsSpans.{span_to}
use Rattle.go_tree.specs.GoWords.Terminals.{lexemes}
use Rattle.go_tree.specs.GoWords.Tokens.Pieces.{keyword_spellings}
use Rattle.go_layout.specs.Goals.{read_front}
use Rattle.go_layout.proofs.Texts.{reading}
use Rattle.run_rules.proofs.CaseTools.{read_at}
use Rattle.pkg_graph.specs.ModuleFiles.Internal.{passes}

-- A method of a value.
abbrev value_of_value_0_f0 : File Span
value_of_value_0_f0 = record { package_name = (nm 8 12 (codes "main")); imports = []; decls = ((types (at 14 36) false ((tspec (at 19 36) (nm 19 20 (codes "C")) false (struct_type (at 21 36) (field (at 29 34) (nm 29 30 (codes "n")) (named (at 31 34) None (nm 31 34 (codes "int"))) no_fields))) ∷ [])) ∷ (fn (at 54 89) (Some (recv (at 60 63) (Some (nm 60 61 (codes "c"))) false (nm 62 63 (codes "C")))) (nm 65 68 (codes "Get")) (sig [] ((param (at 71 74) None (named (at 71 74) None (nm 71 74 (codes "int")))) ∷ [])) (at 75 89) (stmt_and (return_ (at 77 87) (expr_and (selector (at 84 87) (ident (at 84 85) (codes "c")) (nm 86 87 (codes "n"))) no_exprs)) no_stmts)) ∷ (fn (at 91 135) None (nm 96 100 (codes "main")) (sig [] []) (at 103 135) (stmt_and (define (at 106 115) ((nm 106 107 (codes "v")) ∷ []) (expr_and (composite (at 111 115) (named (at 111 112) None (nm 111 112 (codes "C"))) (elem (at 113 114) no_value (plain (int_lit (at 113 114) (codes "1"))) no_elems)) no_exprs)) (stmt_and (eval (at 117 133) (call (at 117 133) (ident (at 117 124) (codes "println")) (expr_and (call (at 125 132) (selector (at 125 130) (ident (at 125 126) (codes "v")) (nm 127 130 (codes "Get"))) no_exprs Plain) no_exprs) Plain)) no_stmts))) ∷ []) }

value_of_value_0_f0_read : read_at span_to read_front (lexemes ((tok Keyword 0 7 (codes "package")) ∷ (tok Ident 8 12 (codes "main")) ∷ (tok Inserted 12 12 (codes ";")) ∷ (tok Keyword 14 18 (codes "type")) ∷ (tok Ident 19 20 (codes "C")) ∷ (tok Keyword 21 27 (codes "struct")) ∷ (tok Operator 27 28 (codes "{")) ∷ (tok Ident 29 30 (codes "n")) ∷ (tok Ident 31 34 (codes "int")) ∷ (tok Operator 35 36 (codes "}")) ∷ (tok Inserted 36 36 (codes ";")) ∷ (tok Keyword 54 58 (codes "func")) ∷ (tok Operator 59 60 (codes "(")) ∷ (tok Ident 60 61 (codes "c")) ∷ (tok Ident 62 63 (codes "C")) ∷ (tok Operator 63 64 (codes ")")) ∷ (tok Ident 65 68 (codes "Get")) ∷ (tok Operator 68 69 (codes "(")) ∷ (tok Operator 69 70 (codes ")")) ∷ (tok Ident 71 74 (codes "int")) ∷ (tok Operator 75 76 (codes "{")) ∷ (tok Keyword 77 83 (codes "return")) ∷ (tok Ident 84 85 (codes "c")) ∷ (tok Operator 85 86 (codes ".")) ∷ (tok Ident 86 87 (codes "n")) ∷ (tok Operator 88 89 (codes "}")) ∷ (tok Inserted 89 89 (codes ";")) ∷ (tok Keyword 91 95 (codes "func")) ∷ (tok Ident 96 100 (codes "main")) ∷ (tok Operator 100 101 (codes "(")) ∷ (tok Operator 101 102 (codes ")")) ∷ (tok Operator 103 104 (codes "{")) ∷ (tok Ident 106 107 (codes "v")) ∷ (tok Operator 108 110 (codes ":=")) ∷ (tok Ident 111 112 (codes "C")) ∷ (tok Operator 112 113 (codes "{")) ∷ (tok Integer 113 114 (codes "1")) ∷ (tok Operator 114 115 (codes "}")) ∷ (tok Inserted 115 115 (codes ";")) ∷ (tok Ident 117 124 (codes "println")) ∷ (tok Operator 124 125 (codes "(")) ∷ (tok Ident 125 126 (codes "v")) ∷ (tok Operator 126 127 (codes ".")) ∷ (tok Ident 127 130 (codes "Get")) ∷ (tok Operator 130 131 (codes "(")) ∷ (tok Operator 131 132 (codes ")")) ∷ (tok Operator 132 133 (codes ")")) ∷ (tok Inserted 133 133 (codes ";")) ∷ (tok Operator 134 135 (codes "}")) ∷ (tok Inserted 135 135 (codes ";")) ∷ [])) ≡ Some (value_of_value_0_f0, [])
unfolding reading
value_of_value_0_f0_read = refl

abbrev value_of_value_0 : Module
value_of_value_0 = record { packages = (pack (codes "example.com/m") (codes "main") (source (codes "main.go") value_of_value_0_f0 ∷ []) ∷ []); marks = (mark 0 0 1 0 ∷ []); texts = (((codes "main.go"), record { text = (codes "package main\n\ntype C struct{ n int }\n\n//go:fix inline\nfunc (c C) Get() int { return c.n }\n\nfunc main() {\n\tv := C{1}\n\tprintln(v.Get())\n}\n"); tokens = ((tok Keyword 0 7 (codes "package")) ∷ (tok Ident 8 12 (codes "main")) ∷ (tok Inserted 12 12 (codes ";")) ∷ (tok Keyword 14 18 (codes "type")) ∷ (tok Ident 19 20 (codes "C")) ∷ (tok Keyword 21 27 (codes "struct")) ∷ (tok Operator 27 28 (codes "{")) ∷ (tok Ident 29 30 (codes "n")) ∷ (tok Ident 31 34 (codes "int")) ∷ (tok Operator 35 36 (codes "}")) ∷ (tok Inserted 36 36 (codes ";")) ∷ (tok Keyword 54 58 (codes "func")) ∷ (tok Operator 59 60 (codes "(")) ∷ (tok Ident 60 61 (codes "c")) ∷ (tok Ident 62 63 (codes "C")) ∷ (tok Operator 63 64 (codes ")")) ∷ (tok Ident 65 68 (codes "Get")) ∷ (tok Operator 68 69 (codes "(")) ∷ (tok Operator 69 70 (codes ")")) ∷ (tok Ident 71 74 (codes "int")) ∷ (tok Operator 75 76 (codes "{")) ∷ (tok Keyword 77 83 (codes "return")) ∷ (tok Ident 84 85 (codes "c")) ∷ (tok Operator 85 86 (codes ".")) ∷ (tok Ident 86 87 (codes "n")) ∷ (tok Operator 88 89 (codes "}")) ∷ (tok Inserted 89 89 (codes ";")) ∷ (tok Keyword 91 95 (codes "func")) ∷ (tok Ident 96 100 (codes "main")) ∷ (tok Operator 100 101 (codes "(")) ∷ (tok Operator 101 102 (codes ")")) ∷ (tok Operator 103 104 (codes "{")) ∷ (tok Ident 106 107 (codes "v")) ∷ (tok Operator 108 110 (codes ":=")) ∷ (tok Ident 111 112 (codes "C")) ∷ (tok Operator 112 113 (codes "{")) ∷ (tok Integer 113 114 (codes "1")) ∷ (tok Operator 114 115 (codes "}")) ∷ (tok Inserted 115 115 (codes ";")) ∷ (tok Ident 117 124 (codes "println")) ∷ (tok Operator 124 125 (codes "(")) ∷ (tok Ident 125 126 (codes "v")) ∷ (tok Operator 126 127 (codes ".")) ∷ (tok Ident 127 130 (codes "Get")) ∷ (tok Operator 130 131 (codes "(")) ∷ (tok Operator 131 132 (codes ")")) ∷ (tok Operator 132 133 (codes ")")) ∷ (tok Inserted 133 133 (codes ";")) ∷ (tok Operator 134 135 (codes "}")) ∷ (tok Inserted 135 135 (codes ";")) ∷ []); comments = ((note 38 53) ∷ []) }) ∷ []) }

value_of_value_0_typed : is_typed value_of_value_0 ≡ true
value_of_value_0_typed = refl

value_of_value_0_step : first_change value_of_value_0 ≡ Some ((codes "main.go"), ExprForm, (codes "package main\n\ntype C struct{ n int }\n\n//go:fix inline\nfunc (c C) Get() int { return c.n }\n\nfunc main() {\n\tv := C{1}\n\tprintln(v.n)\n}\n"))
unfolding passes keyword_spellings
value_of_value_0_step = refl

abbrev value_of_value_1_f0 : File Span
value_of_value_1_f0 = record { package_name = (nm 8 12 (codes "main")); imports = []; decls = ((types (at 14 36) false ((tspec (at 19 36) (nm 19 20 (codes "C")) false (struct_type (at 21 36) (field (at 29 34) (nm 29 30 (codes "n")) (named (at 31 34) None (nm 31 34 (codes "int"))) no_fields))) ∷ [])) ∷ (fn (at 54 89) (Some (recv (at 60 63) (Some (nm 60 61 (codes "c"))) false (nm 62 63 (codes "C")))) (nm 65 68 (codes "Get")) (sig [] ((param (at 71 74) None (named (at 71 74) None (nm 71 74 (codes "int")))) ∷ [])) (at 75 89) (stmt_and (return_ (at 77 87) (expr_and (selector (at 84 87) (ident (at 84 85) (codes "c")) (nm 86 87 (codes "n"))) no_exprs)) no_stmts)) ∷ (fn (at 91 131) None (nm 96 100 (codes "main")) (sig [] []) (at 103 131) (stmt_and (define (at 106 115) ((nm 106 107 (codes "v")) ∷ []) (expr_and (composite (at 111 115) (named (at 111 112) None (nm 111 112 (codes "C"))) (elem (at 113 114) no_value (plain (int_lit (at 113 114) (codes "1"))) no_elems)) no_exprs)) (stmt_and (eval (at 117 129) (call (at 117 129) (ident (at 117 124) (codes "println")) (expr_and (selector (at 125 128) (ident (at 125 126) (codes "v")) (nm 127 128 (codes "n"))) no_exprs) Plain)) no_stmts))) ∷ []) }

value_of_value_1_f0_read : read_at span_to read_front (lexemes ((tok Keyword 0 7 (codes "package")) ∷ (tok Ident 8 12 (codes "main")) ∷ (tok Inserted 12 12 (codes ";")) ∷ (tok Keyword 14 18 (codes "type")) ∷ (tok Ident 19 20 (codes "C")) ∷ (tok Keyword 21 27 (codes "struct")) ∷ (tok Operator 27 28 (codes "{")) ∷ (tok Ident 29 30 (codes "n")) ∷ (tok Ident 31 34 (codes "int")) ∷ (tok Operator 35 36 (codes "}")) ∷ (tok Inserted 36 36 (codes ";")) ∷ (tok Keyword 54 58 (codes "func")) ∷ (tok Operator 59 60 (codes "(")) ∷ (tok Ident 60 61 (codes "c")) ∷ (tok Ident 62 63 (codes "C")) ∷ (tok Operator 63 64 (codes ")")) ∷ (tok Ident 65 68 (codes "Get")) ∷ (tok Operator 68 69 (codes "(")) ∷ (tok Operator 69 70 (codes ")")) ∷ (tok Ident 71 74 (codes "int")) ∷ (tok Operator 75 76 (codes "{")) ∷ (tok Keyword 77 83 (codes "return")) ∷ (tok Ident 84 85 (codes "c")) ∷ (tok Operator 85 86 (codes ".")) ∷ (tok Ident 86 87 (codes "n")) ∷ (tok Operator 88 89 (codes "}")) ∷ (tok Inserted 89 89 (codes ";")) ∷ (tok Keyword 91 95 (codes "func")) ∷ (tok Ident 96 100 (codes "main")) ∷ (tok Operator 100 101 (codes "(")) ∷ (tok Operator 101 102 (codes ")")) ∷ (tok Operator 103 104 (codes "{")) ∷ (tok Ident 106 107 (codes "v")) ∷ (tok Operator 108 110 (codes ":=")) ∷ (tok Ident 111 112 (codes "C")) ∷ (tok Operator 112 113 (codes "{")) ∷ (tok Integer 113 114 (codes "1")) ∷ (tok Operator 114 115 (codes "}")) ∷ (tok Inserted 115 115 (codes ";")) ∷ (tok Ident 117 124 (codes "println")) ∷ (tok Operator 124 125 (codes "(")) ∷ (tok Ident 125 126 (codes "v")) ∷ (tok Operator 126 127 (codes ".")) ∷ (tok Ident 127 128 (codes "n")) ∷ (tok Operator 128 129 (codes ")")) ∷ (tok Inserted 129 129 (codes ";")) ∷ (tok Operator 130 131 (codes "}")) ∷ (tok Inserted 131 131 (codes ";")) ∷ [])) ≡ Some (value_of_value_1_f0, [])
unfolding reading
value_of_value_1_f0_read = refl

abbrev value_of_value_1 : Module
value_of_value_1 = record { packages = (pack (codes "example.com/m") (codes "main") (source (codes "main.go") value_of_value_1_f0 ∷ []) ∷ []); marks = (mark 0 0 1 0 ∷ []); texts = (((codes "main.go"), record { text = (codes "package main\n\ntype C struct{ n int }\n\n//go:fix inline\nfunc (c C) Get() int { return c.n }\n\nfunc main() {\n\tv := C{1}\n\tprintln(v.n)\n}\n"); tokens = ((tok Keyword 0 7 (codes "package")) ∷ (tok Ident 8 12 (codes "main")) ∷ (tok Inserted 12 12 (codes ";")) ∷ (tok Keyword 14 18 (codes "type")) ∷ (tok Ident 19 20 (codes "C")) ∷ (tok Keyword 21 27 (codes "struct")) ∷ (tok Operator 27 28 (codes "{")) ∷ (tok Ident 29 30 (codes "n")) ∷ (tok Ident 31 34 (codes "int")) ∷ (tok Operator 35 36 (codes "}")) ∷ (tok Inserted 36 36 (codes ";")) ∷ (tok Keyword 54 58 (codes "func")) ∷ (tok Operator 59 60 (codes "(")) ∷ (tok Ident 60 61 (codes "c")) ∷ (tok Ident 62 63 (codes "C")) ∷ (tok Operator 63 64 (codes ")")) ∷ (tok Ident 65 68 (codes "Get")) ∷ (tok Operator 68 69 (codes "(")) ∷ (tok Operator 69 70 (codes ")")) ∷ (tok Ident 71 74 (codes "int")) ∷ (tok Operator 75 76 (codes "{")) ∷ (tok Keyword 77 83 (codes "return")) ∷ (tok Ident 84 85 (codes "c")) ∷ (tok Operator 85 86 (codes ".")) ∷ (tok Ident 86 87 (codes "n")) ∷ (tok Operator 88 89 (codes "}")) ∷ (tok Inserted 89 89 (codes ";")) ∷ (tok Keyword 91 95 (codes "func")) ∷ (tok Ident 96 100 (codes "main")) ∷ (tok Operator 100 101 (codes "(")) ∷ (tok Operator 101 102 (codes ")")) ∷ (tok Operator 103 104 (codes "{")) ∷ (tok Ident 106 107 (codes "v")) ∷ (tok Operator 108 110 (codes ":=")) ∷ (tok Ident 111 112 (codes "C")) ∷ (tok Operator 112 113 (codes "{")) ∷ (tok Integer 113 114 (codes "1")) ∷ (tok Operator 114 115 (codes "}")) ∷ (tok Inserted 115 115 (codes ";")) ∷ (tok Ident 117 124 (codes "println")) ∷ (tok Operator 124 125 (codes "(")) ∷ (tok Ident 125 126 (codes "v")) ∷ (tok Operator 126 127 (codes ".")) ∷ (tok Ident 127 128 (codes "n")) ∷ (tok Operator 128 129 (codes ")")) ∷ (tok Inserted 129 129 (codes ";")) ∷ (tok Operator 130 131 (codes "}")) ∷ (tok Inserted 131 131 (codes ";")) ∷ []); comments = ((note 38 53) ∷ []) }) ∷ []) }

value_of_value_1_typed : is_typed value_of_value_1 ≡ true
value_of_value_1_typed = refl

value_of_value_1_ends : step_of value_of_value_1 ≡ None
unfolding passes keyword_spellings
value_of_value_1_ends = refl

value_of_value_1_kept : kept_uses value_of_value_1 ≡ []
unfolding passes keyword_spellings
value_of_value_1_kept = refl

-- A pointer is the receiver itself.
abbrev pointer_method_of_pointer_0_f0 : File Span
pointer_method_of_pointer_0_f0 = record { package_name = (nm 8 12 (codes "main")); imports = []; decls = ((types (at 14 36) false ((tspec (at 19 36) (nm 19 20 (codes "C")) false (struct_type (at 21 36) (field (at 29 34) (nm 29 30 (codes "n")) (named (at 31 34) None (nm 31 34 (codes "int"))) no_fields))) ∷ [])) ∷ (fn (at 54 90) (Some (recv (at 60 64) (Some (nm 60 61 (codes "c"))) true (nm 63 64 (codes "C")))) (nm 66 69 (codes "Get")) (sig [] ((param (at 72 75) None (named (at 72 75) None (nm 72 75 (codes "int")))) ∷ [])) (at 76 90) (stmt_and (return_ (at 78 88) (expr_and (selector (at 85 88) (ident (at 85 86) (codes "c")) (nm 87 88 (codes "n"))) no_exprs)) no_stmts)) ∷ (fn (at 92 137) None (nm 97 101 (codes "main")) (sig [] []) (at 104 137) (stmt_and (define (at 107 117) ((nm 107 108 (codes "v")) ∷ []) (expr_and (unary (at 112 117) Address (composite (at 113 117) (named (at 113 114) None (nm 113 114 (codes "C"))) (elem (at 115 116) no_value (plain (int_lit (at 115 116) (codes "1"))) no_elems))) no_exprs)) (stmt_and (eval (at 119 135) (call (at 119 135) (ident (at 119 126) (codes "println")) (expr_and (call (at 127 134) (selector (at 127 132) (ident (at 127 128) (codes "v")) (nm 129 132 (codes "Get"))) no_exprs Plain) no_exprs) Plain)) no_stmts))) ∷ []) }

pointer_method_of_pointer_0_f0_read : read_at span_to read_front (lexemes ((tok Keyword 0 7 (codes "package")) ∷ (tok Ident 8 12 (codes "main")) ∷ (tok Inserted 12 12 (codes ";")) ∷ (tok Keyword 14 18 (codes "type")) ∷ (tok Ident 19 20 (codes "C")) ∷ (tok Keyword 21 27 (codes "struct")) ∷ (tok Operator 27 28 (codes "{")) ∷ (tok Ident 29 30 (codes "n")) ∷ (tok Ident 31 34 (codes "int")) ∷ (tok Operator 35 36 (codes "}")) ∷ (tok Inserted 36 36 (codes ";")) ∷ (tok Keyword 54 58 (codes "func")) ∷ (tok Operator 59 60 (codes "(")) ∷ (tok Ident 60 61 (codes "c")) ∷ (tok Operator 62 63 (codes "*")) ∷ (tok Ident 63 64 (codes "C")) ∷ (tok Operator 64 65 (codes ")")) ∷ (tok Ident 66 69 (codes "Get")) ∷ (tok Operator 69 70 (codes "(")) ∷ (tok Operator 70 71 (codes ")")) ∷ (tok Ident 72 75 (codes "int")) ∷ (tok Operator 76 77 (codes "{")) ∷ (tok Keyword 78 84 (codes "return")) ∷ (tok Ident 85 86 (codes "c")) ∷ (tok Operator 86 87 (codes ".")) ∷ (tok Ident 87 88 (codes "n")) ∷ (tok Operator 89 90 (codes "}")) ∷ (tok Inserted 90 90 (codes ";")) ∷ (tok Keyword 92 96 (codes "func")) ∷ (tok Ident 97 101 (codes "main")) ∷ (tok Operator 101 102 (codes "(")) ∷ (tok Operator 102 103 (codes ")")) ∷ (tok Operator 104 105 (codes "{")) ∷ (tok Ident 107 108 (codes "v")) ∷ (tok Operator 109 111 (codes ":=")) ∷ (tok Operator 112 113 (codes "&")) ∷ (tok Ident 113 114 (codes "C")) ∷ (tok Operator 114 115 (codes "{")) ∷ (tok Integer 115 116 (codes "1")) ∷ (tok Operator 116 117 (codes "}")) ∷ (tok Inserted 117 117 (codes ";")) ∷ (tok Ident 119 126 (codes "println")) ∷ (tok Operator 126 127 (codes "(")) ∷ (tok Ident 127 128 (codes "v")) ∷ (tok Operator 128 129 (codes ".")) ∷ (tok Ident 129 132 (codes "Get")) ∷ (tok Operator 132 133 (codes "(")) ∷ (tok Operator 133 134 (codes ")")) ∷ (tok Operator 134 135 (codes ")")) ∷ (tok Inserted 135 135 (codes ";")) ∷ (tok Operator 136 137 (codes "}")) ∷ (tok Inserted 137 137 (codes ";")) ∷ [])) ≡ Some (pointer_method_of_pointer_0_f0, [])
unfolding reading
pointer_method_of_pointer_0_f0_read = refl

abbrev pointer_method_of_pointer_0 : Module
pointer_method_of_pointer_0 = record { packages = (pack (codes "example.com/m") (codes "main") (source (codes "main.go") pointer_method_of_pointer_0_f0 ∷ []) ∷ []); marks = (mark 0 0 1 0 ∷ []); texts = (((codes "main.go"), record { text = (codes "package main\n\ntype C struct{ n int }\n\n//go:fix inline\nfunc (c *C) Get() int { return c.n }\n\nfunc main() {\n\tv := &C{1}\n\tprintln(v.Get())\n}\n"); tokens = ((tok Keyword 0 7 (codes "package")) ∷ (tok Ident 8 12 (codes "main")) ∷ (tok Inserted 12 12 (codes ";")) ∷ (tok Keyword 14 18 (codes "type")) ∷ (tok Ident 19 20 (codes "C")) ∷ (tok Keyword 21 27 (codes "struct")) ∷ (tok Operator 27 28 (codes "{")) ∷ (tok Ident 29 30 (codes "n")) ∷ (tok Ident 31 34 (codes "int")) ∷ (tok Operator 35 36 (codes "}")) ∷ (tok Inserted 36 36 (codes ";")) ∷ (tok Keyword 54 58 (codes "func")) ∷ (tok Operator 59 60 (codes "(")) ∷ (tok Ident 60 61 (codes "c")) ∷ (tok Operator 62 63 (codes "*")) ∷ (tok Ident 63 64 (codes "C")) ∷ (tok Operator 64 65 (codes ")")) ∷ (tok Ident 66 69 (codes "Get")) ∷ (tok Operator 69 70 (codes "(")) ∷ (tok Operator 70 71 (codes ")")) ∷ (tok Ident 72 75 (codes "int")) ∷ (tok Operator 76 77 (codes "{")) ∷ (tok Keyword 78 84 (codes "return")) ∷ (tok Ident 85 86 (codes "c")) ∷ (tok Operator 86 87 (codes ".")) ∷ (tok Ident 87 88 (codes "n")) ∷ (tok Operator 89 90 (codes "}")) ∷ (tok Inserted 90 90 (codes ";")) ∷ (tok Keyword 92 96 (codes "func")) ∷ (tok Ident 97 101 (codes "main")) ∷ (tok Operator 101 102 (codes "(")) ∷ (tok Operator 102 103 (codes ")")) ∷ (tok Operator 104 105 (codes "{")) ∷ (tok Ident 107 108 (codes "v")) ∷ (tok Operator 109 111 (codes ":=")) ∷ (tok Operator 112 113 (codes "&")) ∷ (tok Ident 113 114 (codes "C")) ∷ (tok Operator 114 115 (codes "{")) ∷ (tok Integer 115 116 (codes "1")) ∷ (tok Operator 116 117 (codes "}")) ∷ (tok Inserted 117 117 (codes ";")) ∷ (tok Ident 119 126 (codes "println")) ∷ (tok Operator 126 127 (codes "(")) ∷ (tok Ident 127 128 (codes "v")) ∷ (tok Operator 128 129 (codes ".")) ∷ (tok Ident 129 132 (codes "Get")) ∷ (tok Operator 132 133 (codes "(")) ∷ (tok Operator 133 134 (codes ")")) ∷ (tok Operator 134 135 (codes ")")) ∷ (tok Inserted 135 135 (codes ";")) ∷ (tok Operator 136 137 (codes "}")) ∷ (tok Inserted 137 137 (codes ";")) ∷ []); comments = ((note 38 53) ∷ []) }) ∷ []) }

pointer_method_of_pointer_0_typed : is_typed pointer_method_of_pointer_0 ≡ true
pointer_method_of_pointer_0_typed = refl

pointer_method_of_pointer_0_step : first_change pointer_method_of_pointer_0 ≡ Some ((codes "main.go"), ExprForm, (codes "package main\n\ntype C struct{ n int }\n\n//go:fix inline\nfunc (c *C) Get() int { return c.n }\n\nfunc main() {\n\tv := &C{1}\n\tprintln(v.n)\n}\n"))
unfolding passes keyword_spellings
pointer_method_of_pointer_0_step = refl

abbrev pointer_method_of_pointer_1_f0 : File Span
pointer_method_of_pointer_1_f0 = record { package_name = (nm 8 12 (codes "main")); imports = []; decls = ((types (at 14 36) false ((tspec (at 19 36) (nm 19 20 (codes "C")) false (struct_type (at 21 36) (field (at 29 34) (nm 29 30 (codes "n")) (named (at 31 34) None (nm 31 34 (codes "int"))) no_fields))) ∷ [])) ∷ (fn (at 54 90) (Some (recv (at 60 64) (Some (nm 60 61 (codes "c"))) true (nm 63 64 (codes "C")))) (nm 66 69 (codes "Get")) (sig [] ((param (at 72 75) None (named (at 72 75) None (nm 72 75 (codes "int")))) ∷ [])) (at 76 90) (stmt_and (return_ (at 78 88) (expr_and (selector (at 85 88) (ident (at 85 86) (codes "c")) (nm 87 88 (codes "n"))) no_exprs)) no_stmts)) ∷ (fn (at 92 133) None (nm 97 101 (codes "main")) (sig [] []) (at 104 133) (stmt_and (define (at 107 117) ((nm 107 108 (codes "v")) ∷ []) (expr_and (unary (at 112 117) Address (composite (at 113 117) (named (at 113 114) None (nm 113 114 (codes "C"))) (elem (at 115 116) no_value (plain (int_lit (at 115 116) (codes "1"))) no_elems))) no_exprs)) (stmt_and (eval (at 119 131) (call (at 119 131) (ident (at 119 126) (codes "println")) (expr_and (selector (at 127 130) (ident (at 127 128) (codes "v")) (nm 129 130 (codes "n"))) no_exprs) Plain)) no_stmts))) ∷ []) }

pointer_method_of_pointer_1_f0_read : read_at span_to read_front (lexemes ((tok Keyword 0 7 (codes "package")) ∷ (tok Ident 8 12 (codes "main")) ∷ (tok Inserted 12 12 (codes ";")) ∷ (tok Keyword 14 18 (codes "type")) ∷ (tok Ident 19 20 (codes "C")) ∷ (tok Keyword 21 27 (codes "struct")) ∷ (tok Operator 27 28 (codes "{")) ∷ (tok Ident 29 30 (codes "n")) ∷ (tok Ident 31 34 (codes "int")) ∷ (tok Operator 35 36 (codes "}")) ∷ (tok Inserted 36 36 (codes ";")) ∷ (tok Keyword 54 58 (codes "func")) ∷ (tok Operator 59 60 (codes "(")) ∷ (tok Ident 60 61 (codes "c")) ∷ (tok Operator 62 63 (codes "*")) ∷ (tok Ident 63 64 (codes "C")) ∷ (tok Operator 64 65 (codes ")")) ∷ (tok Ident 66 69 (codes "Get")) ∷ (tok Operator 69 70 (codes "(")) ∷ (tok Operator 70 71 (codes ")")) ∷ (tok Ident 72 75 (codes "int")) ∷ (tok Operator 76 77 (codes "{")) ∷ (tok Keyword 78 84 (codes "return")) ∷ (tok Ident 85 86 (codes "c")) ∷ (tok Operator 86 87 (codes ".")) ∷ (tok Ident 87 88 (codes "n")) ∷ (tok Operator 89 90 (codes "}")) ∷ (tok Inserted 90 90 (codes ";")) ∷ (tok Keyword 92 96 (codes "func")) ∷ (tok Ident 97 101 (codes "main")) ∷ (tok Operator 101 102 (codes "(")) ∷ (tok Operator 102 103 (codes ")")) ∷ (tok Operator 104 105 (codes "{")) ∷ (tok Ident 107 108 (codes "v")) ∷ (tok Operator 109 111 (codes ":=")) ∷ (tok Operator 112 113 (codes "&")) ∷ (tok Ident 113 114 (codes "C")) ∷ (tok Operator 114 115 (codes "{")) ∷ (tok Integer 115 116 (codes "1")) ∷ (tok Operator 116 117 (codes "}")) ∷ (tok Inserted 117 117 (codes ";")) ∷ (tok Ident 119 126 (codes "println")) ∷ (tok Operator 126 127 (codes "(")) ∷ (tok Ident 127 128 (codes "v")) ∷ (tok Operator 128 129 (codes ".")) ∷ (tok Ident 129 130 (codes "n")) ∷ (tok Operator 130 131 (codes ")")) ∷ (tok Inserted 131 131 (codes ";")) ∷ (tok Operator 132 133 (codes "}")) ∷ (tok Inserted 133 133 (codes ";")) ∷ [])) ≡ Some (pointer_method_of_pointer_1_f0, [])
unfolding reading
pointer_method_of_pointer_1_f0_read = refl

abbrev pointer_method_of_pointer_1 : Module
pointer_method_of_pointer_1 = record { packages = (pack (codes "example.com/m") (codes "main") (source (codes "main.go") pointer_method_of_pointer_1_f0 ∷ []) ∷ []); marks = (mark 0 0 1 0 ∷ []); texts = (((codes "main.go"), record { text = (codes "package main\n\ntype C struct{ n int }\n\n//go:fix inline\nfunc (c *C) Get() int { return c.n }\n\nfunc main() {\n\tv := &C{1}\n\tprintln(v.n)\n}\n"); tokens = ((tok Keyword 0 7 (codes "package")) ∷ (tok Ident 8 12 (codes "main")) ∷ (tok Inserted 12 12 (codes ";")) ∷ (tok Keyword 14 18 (codes "type")) ∷ (tok Ident 19 20 (codes "C")) ∷ (tok Keyword 21 27 (codes "struct")) ∷ (tok Operator 27 28 (codes "{")) ∷ (tok Ident 29 30 (codes "n")) ∷ (tok Ident 31 34 (codes "int")) ∷ (tok Operator 35 36 (codes "}")) ∷ (tok Inserted 36 36 (codes ";")) ∷ (tok Keyword 54 58 (codes "func")) ∷ (tok Operator 59 60 (codes "(")) ∷ (tok Ident 60 61 (codes "c")) ∷ (tok Operator 62 63 (codes "*")) ∷ (tok Ident 63 64 (codes "C")) ∷ (tok Operator 64 65 (codes ")")) ∷ (tok Ident 66 69 (codes "Get")) ∷ (tok Operator 69 70 (codes "(")) ∷ (tok Operator 70 71 (codes ")")) ∷ (tok Ident 72 75 (codes "int")) ∷ (tok Operator 76 77 (codes "{")) ∷ (tok Keyword 78 84 (codes "return")) ∷ (tok Ident 85 86 (codes "c")) ∷ (tok Operator 86 87 (codes ".")) ∷ (tok Ident 87 88 (codes "n")) ∷ (tok Operator 89 90 (codes "}")) ∷ (tok Inserted 90 90 (codes ";")) ∷ (tok Keyword 92 96 (codes "func")) ∷ (tok Ident 97 101 (codes "main")) ∷ (tok Operator 101 102 (codes "(")) ∷ (tok Operator 102 103 (codes ")")) ∷ (tok Operator 104 105 (codes "{")) ∷ (tok Ident 107 108 (codes "v")) ∷ (tok Operator 109 111 (codes ":=")) ∷ (tok Operator 112 113 (codes "&")) ∷ (tok Ident 113 114 (codes "C")) ∷ (tok Operator 114 115 (codes "{")) ∷ (tok Integer 115 116 (codes "1")) ∷ (tok Operator 116 117 (codes "}")) ∷ (tok Inserted 117 117 (codes ";")) ∷ (tok Ident 119 126 (codes "println")) ∷ (tok Operator 126 127 (codes "(")) ∷ (tok Ident 127 128 (codes "v")) ∷ (tok Operator 128 129 (codes ".")) ∷ (tok Ident 129 130 (codes "n")) ∷ (tok Operator 130 131 (codes ")")) ∷ (tok Inserted 131 131 (codes ";")) ∷ (tok Operator 132 133 (codes "}")) ∷ (tok Inserted 133 133 (codes ";")) ∷ []); comments = ((note 38 53) ∷ []) }) ∷ []) }

pointer_method_of_pointer_1_typed : is_typed pointer_method_of_pointer_1 ≡ true
pointer_method_of_pointer_1_typed = refl

pointer_method_of_pointer_1_ends : step_of pointer_method_of_pointer_1 ≡ None
unfolding passes keyword_spellings
pointer_method_of_pointer_1_ends = refl

pointer_method_of_pointer_1_kept : kept_uses pointer_method_of_pointer_1 ≡ []
unfolding passes keyword_spellings
pointer_method_of_pointer_1_kept = refl

-- An alias in a declaration and in a literal.
abbrev alias_of_slice_0_f0 : File Span
alias_of_slice_0_f0 = record { package_name = (nm 8 12 (codes "main")); imports = []; decls = ((types (at 30 44) false ((tspec (at 35 44) (nm 35 36 (codes "A")) true (slice_type (at 39 44) (named (at 41 44) None (nm 41 44 (codes "int"))))) ∷ [])) ∷ (fn (at 46 94) None (nm 51 55 (codes "main")) (sig [] []) (at 58 94) (stmt_and (var_decl (at 61 75) false (spec (at 65 75) ((nm 65 66 (codes "a")) ∷ []) (Some (named (at 67 68) None (nm 67 68 (codes "A")))) (expr_and (composite (at 71 75) (named (at 71 72) None (nm 71 72 (codes "A"))) (elem (at 73 74) no_value (plain (int_lit (at 73 74) (codes "1"))) no_elems)) no_exprs) no_specs)) (stmt_and (eval (at 77 92) (call (at 77 92) (ident (at 77 84) (codes "println")) (expr_and (call (at 85 91) (ident (at 85 88) (codes "len")) (expr_and (ident (at 89 90) (codes "a")) no_exprs) Plain) no_exprs) Plain)) no_stmts))) ∷ []) }

alias_of_slice_0_f0_read : read_at span_to read_front (lexemes ((tok Keyword 0 7 (codes "package")) ∷ (tok Ident 8 12 (codes "main")) ∷ (tok Inserted 12 12 (codes ";")) ∷ (tok Keyword 30 34 (codes "type")) ∷ (tok Ident 35 36 (codes "A")) ∷ (tok Operator 37 38 (codes "=")) ∷ (tok Operator 39 40 (codes "[")) ∷ (tok Operator 40 41 (codes "]")) ∷ (tok Ident 41 44 (codes "int")) ∷ (tok Inserted 44 44 (codes ";")) ∷ (tok Keyword 46 50 (codes "func")) ∷ (tok Ident 51 55 (codes "main")) ∷ (tok Operator 55 56 (codes "(")) ∷ (tok Operator 56 57 (codes ")")) ∷ (tok Operator 58 59 (codes "{")) ∷ (tok Keyword 61 64 (codes "var")) ∷ (tok Ident 65 66 (codes "a")) ∷ (tok Ident 67 68 (codes "A")) ∷ (tok Operator 69 70 (codes "=")) ∷ (tok Ident 71 72 (codes "A")) ∷ (tok Operator 72 73 (codes "{")) ∷ (tok Integer 73 74 (codes "1")) ∷ (tok Operator 74 75 (codes "}")) ∷ (tok Inserted 75 75 (codes ";")) ∷ (tok Ident 77 84 (codes "println")) ∷ (tok Operator 84 85 (codes "(")) ∷ (tok Ident 85 88 (codes "len")) ∷ (tok Operator 88 89 (codes "(")) ∷ (tok Ident 89 90 (codes "a")) ∷ (tok Operator 90 91 (codes ")")) ∷ (tok Operator 91 92 (codes ")")) ∷ (tok Inserted 92 92 (codes ";")) ∷ (tok Operator 93 94 (codes "}")) ∷ (tok Inserted 94 94 (codes ";")) ∷ [])) ≡ Some (alias_of_slice_0_f0, [])
unfolding reading
alias_of_slice_0_f0_read = refl

abbrev alias_of_slice_0 : Module
alias_of_slice_0 = record { packages = (pack (codes "example.com/m") (codes "main") (source (codes "main.go") alias_of_slice_0_f0 ∷ []) ∷ []); marks = (mark 0 0 0 0 ∷ []); texts = (((codes "main.go"), record { text = (codes "package main\n\n//go:fix inline\ntype A = []int\n\nfunc main() {\n\tvar a A = A{1}\n\tprintln(len(a))\n}\n"); tokens = ((tok Keyword 0 7 (codes "package")) ∷ (tok Ident 8 12 (codes "main")) ∷ (tok Inserted 12 12 (codes ";")) ∷ (tok Keyword 30 34 (codes "type")) ∷ (tok Ident 35 36 (codes "A")) ∷ (tok Operator 37 38 (codes "=")) ∷ (tok Operator 39 40 (codes "[")) ∷ (tok Operator 40 41 (codes "]")) ∷ (tok Ident 41 44 (codes "int")) ∷ (tok Inserted 44 44 (codes ";")) ∷ (tok Keyword 46 50 (codes "func")) ∷ (tok Ident 51 55 (codes "main")) ∷ (tok Operator 55 56 (codes "(")) ∷ (tok Operator 56 57 (codes ")")) ∷ (tok Operator 58 59 (codes "{")) ∷ (tok Keyword 61 64 (codes "var")) ∷ (tok Ident 65 66 (codes "a")) ∷ (tok Ident 67 68 (codes "A")) ∷ (tok Operator 69 70 (codes "=")) ∷ (tok Ident 71 72 (codes "A")) ∷ (tok Operator 72 73 (codes "{")) ∷ (tok Integer 73 74 (codes "1")) ∷ (tok Operator 74 75 (codes "}")) ∷ (tok Inserted 75 75 (codes ";")) ∷ (tok Ident 77 84 (codes "println")) ∷ (tok Operator 84 85 (codes "(")) ∷ (tok Ident 85 88 (codes "len")) ∷ (tok Operator 88 89 (codes "(")) ∷ (tok Ident 89 90 (codes "a")) ∷ (tok Operator 90 91 (codes ")")) ∷ (tok Operator 91 92 (codes ")")) ∷ (tok Inserted 92 92 (codes ";")) ∷ (tok Operator 93 94 (codes "}")) ∷ (tok Inserted 94 94 (codes ";")) ∷ []); comments = ((note 14 29) ∷ []) }) ∷ []) }

alias_of_slice_0_typed : is_typed alias_of_slice_0 ≡ true
alias_of_slice_0_typed = refl

alias_of_slice_0_step : first_change alias_of_slice_0 ≡ Some ((codes "main.go"), TypeForm, (codes "package main\n\n//go:fix inline\ntype A = []int\n\nfunc main() {\n\tvar a []int = A{1}\n\tprintln(len(a))\n}\n"))
unfolding passes keyword_spellings
alias_of_slice_0_step = refl

abbrev alias_of_slice_1_f0 : File Span
alias_of_slice_1_f0 = record { package_name = (nm 8 12 (codes "main")); imports = []; decls = ((types (at 30 44) false ((tspec (at 35 44) (nm 35 36 (codes "A")) true (slice_type (at 39 44) (named (at 41 44) None (nm 41 44 (codes "int"))))) ∷ [])) ∷ (fn (at 46 98) None (nm 51 55 (codes "main")) (sig [] []) (at 58 98) (stmt_and (var_decl (at 61 79) false (spec (at 65 79) ((nm 65 66 (codes "a")) ∷ []) (Some (slice_type (at 67 72) (named (at 69 72) None (nm 69 72 (codes "int"))))) (expr_and (composite (at 75 79) (named (at 75 76) None (nm 75 76 (codes "A"))) (elem (at 77 78) no_value (plain (int_lit (at 77 78) (codes "1"))) no_elems)) no_exprs) no_specs)) (stmt_and (eval (at 81 96) (call (at 81 96) (ident (at 81 88) (codes "println")) (expr_and (call (at 89 95) (ident (at 89 92) (codes "len")) (expr_and (ident (at 93 94) (codes "a")) no_exprs) Plain) no_exprs) Plain)) no_stmts))) ∷ []) }

alias_of_slice_1_f0_read : read_at span_to read_front (lexemes ((tok Keyword 0 7 (codes "package")) ∷ (tok Ident 8 12 (codes "main")) ∷ (tok Inserted 12 12 (codes ";")) ∷ (tok Keyword 30 34 (codes "type")) ∷ (tok Ident 35 36 (codes "A")) ∷ (tok Operator 37 38 (codes "=")) ∷ (tok Operator 39 40 (codes "[")) ∷ (tok Operator 40 41 (codes "]")) ∷ (tok Ident 41 44 (codes "int")) ∷ (tok Inserted 44 44 (codes ";")) ∷ (tok Keyword 46 50 (codes "func")) ∷ (tok Ident 51 55 (codes "main")) ∷ (tok Operator 55 56 (codes "(")) ∷ (tok Operator 56 57 (codes ")")) ∷ (tok Operator 58 59 (codes "{")) ∷ (tok Keyword 61 64 (codes "var")) ∷ (tok Ident 65 66 (codes "a")) ∷ (tok Operator 67 68 (codes "[")) ∷ (tok Operator 68 69 (codes "]")) ∷ (tok Ident 69 72 (codes "int")) ∷ (tok Operator 73 74 (codes "=")) ∷ (tok Ident 75 76 (codes "A")) ∷ (tok Operator 76 77 (codes "{")) ∷ (tok Integer 77 78 (codes "1")) ∷ (tok Operator 78 79 (codes "}")) ∷ (tok Inserted 79 79 (codes ";")) ∷ (tok Ident 81 88 (codes "println")) ∷ (tok Operator 88 89 (codes "(")) ∷ (tok Ident 89 92 (codes "len")) ∷ (tok Operator 92 93 (codes "(")) ∷ (tok Ident 93 94 (codes "a")) ∷ (tok Operator 94 95 (codes ")")) ∷ (tok Operator 95 96 (codes ")")) ∷ (tok Inserted 96 96 (codes ";")) ∷ (tok Operator 97 98 (codes "}")) ∷ (tok Inserted 98 98 (codes ";")) ∷ [])) ≡ Some (alias_of_slice_1_f0, [])
unfolding reading
alias_of_slice_1_f0_read = refl

abbrev alias_of_slice_1 : Module
alias_of_slice_1 = record { packages = (pack (codes "example.com/m") (codes "main") (source (codes "main.go") alias_of_slice_1_f0 ∷ []) ∷ []); marks = (mark 0 0 0 0 ∷ []); texts = (((codes "main.go"), record { text = (codes "package main\n\n//go:fix inline\ntype A = []int\n\nfunc main() {\n\tvar a []int = A{1}\n\tprintln(len(a))\n}\n"); tokens = ((tok Keyword 0 7 (codes "package")) ∷ (tok Ident 8 12 (codes "main")) ∷ (tok Inserted 12 12 (codes ";")) ∷ (tok Keyword 30 34 (codes "type")) ∷ (tok Ident 35 36 (codes "A")) ∷ (tok Operator 37 38 (codes "=")) ∷ (tok Operator 39 40 (codes "[")) ∷ (tok Operator 40 41 (codes "]")) ∷ (tok Ident 41 44 (codes "int")) ∷ (tok Inserted 44 44 (codes ";")) ∷ (tok Keyword 46 50 (codes "func")) ∷ (tok Ident 51 55 (codes "main")) ∷ (tok Operator 55 56 (codes "(")) ∷ (tok Operator 56 57 (codes ")")) ∷ (tok Operator 58 59 (codes "{")) ∷ (tok Keyword 61 64 (codes "var")) ∷ (tok Ident 65 66 (codes "a")) ∷ (tok Operator 67 68 (codes "[")) ∷ (tok Operator 68 69 (codes "]")) ∷ (tok Ident 69 72 (codes "int")) ∷ (tok Operator 73 74 (codes "=")) ∷ (tok Ident 75 76 (codes "A")) ∷ (tok Operator 76 77 (codes "{")) ∷ (tok Integer 77 78 (codes "1")) ∷ (tok Operator 78 79 (codes "}")) ∷ (tok Inserted 79 79 (codes ";")) ∷ (tok Ident 81 88 (codes "println")) ∷ (tok Operator 88 89 (codes "(")) ∷ (tok Ident 89 92 (codes "len")) ∷ (tok Operator 92 93 (codes "(")) ∷ (tok Ident 93 94 (codes "a")) ∷ (tok Operator 94 95 (codes ")")) ∷ (tok Operator 95 96 (codes ")")) ∷ (tok Inserted 96 96 (codes ";")) ∷ (tok Operator 97 98 (codes "}")) ∷ (tok Inserted 98 98 (codes ";")) ∷ []); comments = ((note 14 29) ∷ []) }) ∷ []) }

alias_of_slice_1_typed : is_typed alias_of_slice_1 ≡ true
alias_of_slice_1_typed = refl

alias_of_slice_1_step : first_change alias_of_slice_1 ≡ Some ((codes "main.go"), TypeForm, (codes "package main\n\n//go:fix inline\ntype A = []int\n\nfunc main() {\n\tvar a []int = []int{1}\n\tprintln(len(a))\n}\n"))
unfolding passes keyword_spellings
alias_of_slice_1_step = refl

abbrev alias_of_slice_2_f0 : File Span
alias_of_slice_2_f0 = record { package_name = (nm 8 12 (codes "main")); imports = []; decls = ((types (at 30 44) false ((tspec (at 35 44) (nm 35 36 (codes "A")) true (slice_type (at 39 44) (named (at 41 44) None (nm 41 44 (codes "int"))))) ∷ [])) ∷ (fn (at 46 102) None (nm 51 55 (codes "main")) (sig [] []) (at 58 102) (stmt_and (var_decl (at 61 83) false (spec (at 65 83) ((nm 65 66 (codes "a")) ∷ []) (Some (slice_type (at 67 72) (named (at 69 72) None (nm 69 72 (codes "int"))))) (expr_and (composite (at 75 83) (slice_type (at 75 80) (named (at 77 80) None (nm 77 80 (codes "int")))) (elem (at 81 82) no_value (plain (int_lit (at 81 82) (codes "1"))) no_elems)) no_exprs) no_specs)) (stmt_and (eval (at 85 100) (call (at 85 100) (ident (at 85 92) (codes "println")) (expr_and (call (at 93 99) (ident (at 93 96) (codes "len")) (expr_and (ident (at 97 98) (codes "a")) no_exprs) Plain) no_exprs) Plain)) no_stmts))) ∷ []) }

alias_of_slice_2_f0_read : read_at span_to read_front (lexemes ((tok Keyword 0 7 (codes "package")) ∷ (tok Ident 8 12 (codes "main")) ∷ (tok Inserted 12 12 (codes ";")) ∷ (tok Keyword 30 34 (codes "type")) ∷ (tok Ident 35 36 (codes "A")) ∷ (tok Operator 37 38 (codes "=")) ∷ (tok Operator 39 40 (codes "[")) ∷ (tok Operator 40 41 (codes "]")) ∷ (tok Ident 41 44 (codes "int")) ∷ (tok Inserted 44 44 (codes ";")) ∷ (tok Keyword 46 50 (codes "func")) ∷ (tok Ident 51 55 (codes "main")) ∷ (tok Operator 55 56 (codes "(")) ∷ (tok Operator 56 57 (codes ")")) ∷ (tok Operator 58 59 (codes "{")) ∷ (tok Keyword 61 64 (codes "var")) ∷ (tok Ident 65 66 (codes "a")) ∷ (tok Operator 67 68 (codes "[")) ∷ (tok Operator 68 69 (codes "]")) ∷ (tok Ident 69 72 (codes "int")) ∷ (tok Operator 73 74 (codes "=")) ∷ (tok Operator 75 76 (codes "[")) ∷ (tok Operator 76 77 (codes "]")) ∷ (tok Ident 77 80 (codes "int")) ∷ (tok Operator 80 81 (codes "{")) ∷ (tok Integer 81 82 (codes "1")) ∷ (tok Operator 82 83 (codes "}")) ∷ (tok Inserted 83 83 (codes ";")) ∷ (tok Ident 85 92 (codes "println")) ∷ (tok Operator 92 93 (codes "(")) ∷ (tok Ident 93 96 (codes "len")) ∷ (tok Operator 96 97 (codes "(")) ∷ (tok Ident 97 98 (codes "a")) ∷ (tok Operator 98 99 (codes ")")) ∷ (tok Operator 99 100 (codes ")")) ∷ (tok Inserted 100 100 (codes ";")) ∷ (tok Operator 101 102 (codes "}")) ∷ (tok Inserted 102 102 (codes ";")) ∷ [])) ≡ Some (alias_of_slice_2_f0, [])
unfolding reading
alias_of_slice_2_f0_read = refl

abbrev alias_of_slice_2 : Module
alias_of_slice_2 = record { packages = (pack (codes "example.com/m") (codes "main") (source (codes "main.go") alias_of_slice_2_f0 ∷ []) ∷ []); marks = (mark 0 0 0 0 ∷ []); texts = (((codes "main.go"), record { text = (codes "package main\n\n//go:fix inline\ntype A = []int\n\nfunc main() {\n\tvar a []int = []int{1}\n\tprintln(len(a))\n}\n"); tokens = ((tok Keyword 0 7 (codes "package")) ∷ (tok Ident 8 12 (codes "main")) ∷ (tok Inserted 12 12 (codes ";")) ∷ (tok Keyword 30 34 (codes "type")) ∷ (tok Ident 35 36 (codes "A")) ∷ (tok Operator 37 38 (codes "=")) ∷ (tok Operator 39 40 (codes "[")) ∷ (tok Operator 40 41 (codes "]")) ∷ (tok Ident 41 44 (codes "int")) ∷ (tok Inserted 44 44 (codes ";")) ∷ (tok Keyword 46 50 (codes "func")) ∷ (tok Ident 51 55 (codes "main")) ∷ (tok Operator 55 56 (codes "(")) ∷ (tok Operator 56 57 (codes ")")) ∷ (tok Operator 58 59 (codes "{")) ∷ (tok Keyword 61 64 (codes "var")) ∷ (tok Ident 65 66 (codes "a")) ∷ (tok Operator 67 68 (codes "[")) ∷ (tok Operator 68 69 (codes "]")) ∷ (tok Ident 69 72 (codes "int")) ∷ (tok Operator 73 74 (codes "=")) ∷ (tok Operator 75 76 (codes "[")) ∷ (tok Operator 76 77 (codes "]")) ∷ (tok Ident 77 80 (codes "int")) ∷ (tok Operator 80 81 (codes "{")) ∷ (tok Integer 81 82 (codes "1")) ∷ (tok Operator 82 83 (codes "}")) ∷ (tok Inserted 83 83 (codes ";")) ∷ (tok Ident 85 92 (codes "println")) ∷ (tok Operator 92 93 (codes "(")) ∷ (tok Ident 93 96 (codes "len")) ∷ (tok Operator 96 97 (codes "(")) ∷ (tok Ident 97 98 (codes "a")) ∷ (tok Operator 98 99 (codes ")")) ∷ (tok Operator 99 100 (codes ")")) ∷ (tok Inserted 100 100 (codes ";")) ∷ (tok Operator 101 102 (codes "}")) ∷ (tok Inserted 102 102 (codes ";")) ∷ []); comments = ((note 14 29) ∷ []) }) ∷ []) }

alias_of_slice_2_typed : is_typed alias_of_slice_2 ≡ true
alias_of_slice_2_typed = refl

alias_of_slice_2_ends : step_of alias_of_slice_2 ≡ None
unfolding passes keyword_spellings
alias_of_slice_2_ends = refl

alias_of_slice_2_kept : kept_uses alias_of_slice_2 ≡ []
unfolding passes keyword_spellings
alias_of_slice_2_kept = refl

-- An alias that begins with a star is the callee of a conversion.
abbrev alias_of_pointer_0_f0 : File Span
alias_of_pointer_0_f0 = record { package_name = (nm 8 12 (codes "main")); imports = []; decls = ((types (at 14 36) false ((tspec (at 19 36) (nm 19 20 (codes "C")) false (struct_type (at 21 36) (field (at 29 34) (nm 29 30 (codes "n")) (named (at 31 34) None (nm 31 34 (codes "int"))) no_fields))) ∷ [])) ∷ (types (at 54 65) false ((tspec (at 59 65) (nm 59 60 (codes "P")) true (pointer (at 63 65) (named (at 64 65) None (nm 64 65 (codes "C"))))) ∷ [])) ∷ (fn (at 67 119) None (nm 72 76 (codes "main")) (sig [] []) (at 79 119) (stmt_and (define (at 82 91) ((nm 82 83 (codes "c")) ∷ []) (expr_and (composite (at 87 91) (named (at 87 88) None (nm 87 88 (codes "C"))) (elem (at 89 90) no_value (plain (int_lit (at 89 90) (codes "1"))) no_elems)) no_exprs)) (stmt_and (define (at 93 103) ((nm 93 94 (codes "p")) ∷ []) (expr_and (call (at 98 103) (ident (at 98 99) (codes "P")) (expr_and (unary (at 100 102) Address (ident (at 101 102) (codes "c"))) no_exprs) Plain) no_exprs)) (stmt_and (eval (at 105 117) (call (at 105 117) (ident (at 105 112) (codes "println")) (expr_and (selector (at 113 116) (ident (at 113 114) (codes "p")) (nm 115 116 (codes "n"))) no_exprs) Plain)) no_stmts)))) ∷ []) }

alias_of_pointer_0_f0_read : read_at span_to read_front (lexemes ((tok Keyword 0 7 (codes "package")) ∷ (tok Ident 8 12 (codes "main")) ∷ (tok Inserted 12 12 (codes ";")) ∷ (tok Keyword 14 18 (codes "type")) ∷ (tok Ident 19 20 (codes "C")) ∷ (tok Keyword 21 27 (codes "struct")) ∷ (tok Operator 27 28 (codes "{")) ∷ (tok Ident 29 30 (codes "n")) ∷ (tok Ident 31 34 (codes "int")) ∷ (tok Operator 35 36 (codes "}")) ∷ (tok Inserted 36 36 (codes ";")) ∷ (tok Keyword 54 58 (codes "type")) ∷ (tok Ident 59 60 (codes "P")) ∷ (tok Operator 61 62 (codes "=")) ∷ (tok Operator 63 64 (codes "*")) ∷ (tok Ident 64 65 (codes "C")) ∷ (tok Inserted 65 65 (codes ";")) ∷ (tok Keyword 67 71 (codes "func")) ∷ (tok Ident 72 76 (codes "main")) ∷ (tok Operator 76 77 (codes "(")) ∷ (tok Operator 77 78 (codes ")")) ∷ (tok Operator 79 80 (codes "{")) ∷ (tok Ident 82 83 (codes "c")) ∷ (tok Operator 84 86 (codes ":=")) ∷ (tok Ident 87 88 (codes "C")) ∷ (tok Operator 88 89 (codes "{")) ∷ (tok Integer 89 90 (codes "1")) ∷ (tok Operator 90 91 (codes "}")) ∷ (tok Inserted 91 91 (codes ";")) ∷ (tok Ident 93 94 (codes "p")) ∷ (tok Operator 95 97 (codes ":=")) ∷ (tok Ident 98 99 (codes "P")) ∷ (tok Operator 99 100 (codes "(")) ∷ (tok Operator 100 101 (codes "&")) ∷ (tok Ident 101 102 (codes "c")) ∷ (tok Operator 102 103 (codes ")")) ∷ (tok Inserted 103 103 (codes ";")) ∷ (tok Ident 105 112 (codes "println")) ∷ (tok Operator 112 113 (codes "(")) ∷ (tok Ident 113 114 (codes "p")) ∷ (tok Operator 114 115 (codes ".")) ∷ (tok Ident 115 116 (codes "n")) ∷ (tok Operator 116 117 (codes ")")) ∷ (tok Inserted 117 117 (codes ";")) ∷ (tok Operator 118 119 (codes "}")) ∷ (tok Inserted 119 119 (codes ";")) ∷ [])) ≡ Some (alias_of_pointer_0_f0, [])
unfolding reading
alias_of_pointer_0_f0_read = refl

abbrev alias_of_pointer_0 : Module
alias_of_pointer_0 = record { packages = (pack (codes "example.com/m") (codes "main") (source (codes "main.go") alias_of_pointer_0_f0 ∷ []) ∷ []); marks = (mark 0 0 1 0 ∷ []); texts = (((codes "main.go"), record { text = (codes "package main\n\ntype C struct{ n int }\n\n//go:fix inline\ntype P = *C\n\nfunc main() {\n\tc := C{1}\n\tp := P(&c)\n\tprintln(p.n)\n}\n"); tokens = ((tok Keyword 0 7 (codes "package")) ∷ (tok Ident 8 12 (codes "main")) ∷ (tok Inserted 12 12 (codes ";")) ∷ (tok Keyword 14 18 (codes "type")) ∷ (tok Ident 19 20 (codes "C")) ∷ (tok Keyword 21 27 (codes "struct")) ∷ (tok Operator 27 28 (codes "{")) ∷ (tok Ident 29 30 (codes "n")) ∷ (tok Ident 31 34 (codes "int")) ∷ (tok Operator 35 36 (codes "}")) ∷ (tok Inserted 36 36 (codes ";")) ∷ (tok Keyword 54 58 (codes "type")) ∷ (tok Ident 59 60 (codes "P")) ∷ (tok Operator 61 62 (codes "=")) ∷ (tok Operator 63 64 (codes "*")) ∷ (tok Ident 64 65 (codes "C")) ∷ (tok Inserted 65 65 (codes ";")) ∷ (tok Keyword 67 71 (codes "func")) ∷ (tok Ident 72 76 (codes "main")) ∷ (tok Operator 76 77 (codes "(")) ∷ (tok Operator 77 78 (codes ")")) ∷ (tok Operator 79 80 (codes "{")) ∷ (tok Ident 82 83 (codes "c")) ∷ (tok Operator 84 86 (codes ":=")) ∷ (tok Ident 87 88 (codes "C")) ∷ (tok Operator 88 89 (codes "{")) ∷ (tok Integer 89 90 (codes "1")) ∷ (tok Operator 90 91 (codes "}")) ∷ (tok Inserted 91 91 (codes ";")) ∷ (tok Ident 93 94 (codes "p")) ∷ (tok Operator 95 97 (codes ":=")) ∷ (tok Ident 98 99 (codes "P")) ∷ (tok Operator 99 100 (codes "(")) ∷ (tok Operator 100 101 (codes "&")) ∷ (tok Ident 101 102 (codes "c")) ∷ (tok Operator 102 103 (codes ")")) ∷ (tok Inserted 103 103 (codes ";")) ∷ (tok Ident 105 112 (codes "println")) ∷ (tok Operator 112 113 (codes "(")) ∷ (tok Ident 113 114 (codes "p")) ∷ (tok Operator 114 115 (codes ".")) ∷ (tok Ident 115 116 (codes "n")) ∷ (tok Operator 116 117 (codes ")")) ∷ (tok Inserted 117 117 (codes ";")) ∷ (tok Operator 118 119 (codes "}")) ∷ (tok Inserted 119 119 (codes ";")) ∷ []); comments = ((note 38 53) ∷ []) }) ∷ []) }

alias_of_pointer_0_typed : is_typed alias_of_pointer_0 ≡ true
alias_of_pointer_0_typed = refl

alias_of_pointer_0_step : first_change alias_of_pointer_0 ≡ Some ((codes "main.go"), TypeForm, (codes "package main\n\ntype C struct{ n int }\n\n//go:fix inline\ntype P = *C\n\nfunc main() {\n\tc := C{1}\n\tp := (*C)(&c)\n\tprintln(p.n)\n}\n"))
unfolding passes keyword_spellings
alias_of_pointer_0_step = refl

abbrev alias_of_pointer_1_f0 : File Span
alias_of_pointer_1_f0 = record { package_name = (nm 8 12 (codes "main")); imports = []; decls = ((types (at 14 36) false ((tspec (at 19 36) (nm 19 20 (codes "C")) false (struct_type (at 21 36) (field (at 29 34) (nm 29 30 (codes "n")) (named (at 31 34) None (nm 31 34 (codes "int"))) no_fields))) ∷ [])) ∷ (types (at 54 65) false ((tspec (at 59 65) (nm 59 60 (codes "P")) true (pointer (at 63 65) (named (at 64 65) None (nm 64 65 (codes "C"))))) ∷ [])) ∷ (fn (at 67 122) None (nm 72 76 (codes "main")) (sig [] []) (at 79 122) (stmt_and (define (at 82 91) ((nm 82 83 (codes "c")) ∷ []) (expr_and (composite (at 87 91) (named (at 87 88) None (nm 87 88 (codes "C"))) (elem (at 89 90) no_value (plain (int_lit (at 89 90) (codes "1"))) no_elems)) no_exprs)) (stmt_and (define (at 93 106) ((nm 93 94 (codes "p")) ∷ []) (expr_and (call (at 98 106) (star (at 99 101) (ident (at 100 101) (codes "C"))) (expr_and (unary (at 103 105) Address (ident (at 104 105) (codes "c"))) no_exprs) Plain) no_exprs)) (stmt_and (eval (at 108 120) (call (at 108 120) (ident (at 108 115) (codes "println")) (expr_and (selector (at 116 119) (ident (at 116 117) (codes "p")) (nm 118 119 (codes "n"))) no_exprs) Plain)) no_stmts)))) ∷ []) }

alias_of_pointer_1_f0_read : read_at span_to read_front (lexemes ((tok Keyword 0 7 (codes "package")) ∷ (tok Ident 8 12 (codes "main")) ∷ (tok Inserted 12 12 (codes ";")) ∷ (tok Keyword 14 18 (codes "type")) ∷ (tok Ident 19 20 (codes "C")) ∷ (tok Keyword 21 27 (codes "struct")) ∷ (tok Operator 27 28 (codes "{")) ∷ (tok Ident 29 30 (codes "n")) ∷ (tok Ident 31 34 (codes "int")) ∷ (tok Operator 35 36 (codes "}")) ∷ (tok Inserted 36 36 (codes ";")) ∷ (tok Keyword 54 58 (codes "type")) ∷ (tok Ident 59 60 (codes "P")) ∷ (tok Operator 61 62 (codes "=")) ∷ (tok Operator 63 64 (codes "*")) ∷ (tok Ident 64 65 (codes "C")) ∷ (tok Inserted 65 65 (codes ";")) ∷ (tok Keyword 67 71 (codes "func")) ∷ (tok Ident 72 76 (codes "main")) ∷ (tok Operator 76 77 (codes "(")) ∷ (tok Operator 77 78 (codes ")")) ∷ (tok Operator 79 80 (codes "{")) ∷ (tok Ident 82 83 (codes "c")) ∷ (tok Operator 84 86 (codes ":=")) ∷ (tok Ident 87 88 (codes "C")) ∷ (tok Operator 88 89 (codes "{")) ∷ (tok Integer 89 90 (codes "1")) ∷ (tok Operator 90 91 (codes "}")) ∷ (tok Inserted 91 91 (codes ";")) ∷ (tok Ident 93 94 (codes "p")) ∷ (tok Operator 95 97 (codes ":=")) ∷ (tok Operator 98 99 (codes "(")) ∷ (tok Operator 99 100 (codes "*")) ∷ (tok Ident 100 101 (codes "C")) ∷ (tok Operator 101 102 (codes ")")) ∷ (tok Operator 102 103 (codes "(")) ∷ (tok Operator 103 104 (codes "&")) ∷ (tok Ident 104 105 (codes "c")) ∷ (tok Operator 105 106 (codes ")")) ∷ (tok Inserted 106 106 (codes ";")) ∷ (tok Ident 108 115 (codes "println")) ∷ (tok Operator 115 116 (codes "(")) ∷ (tok Ident 116 117 (codes "p")) ∷ (tok Operator 117 118 (codes ".")) ∷ (tok Ident 118 119 (codes "n")) ∷ (tok Operator 119 120 (codes ")")) ∷ (tok Inserted 120 120 (codes ";")) ∷ (tok Operator 121 122 (codes "}")) ∷ (tok Inserted 122 122 (codes ";")) ∷ [])) ≡ Some (alias_of_pointer_1_f0, [])
unfolding reading
alias_of_pointer_1_f0_read = refl

abbrev alias_of_pointer_1 : Module
alias_of_pointer_1 = record { packages = (pack (codes "example.com/m") (codes "main") (source (codes "main.go") alias_of_pointer_1_f0 ∷ []) ∷ []); marks = (mark 0 0 1 0 ∷ []); texts = (((codes "main.go"), record { text = (codes "package main\n\ntype C struct{ n int }\n\n//go:fix inline\ntype P = *C\n\nfunc main() {\n\tc := C{1}\n\tp := (*C)(&c)\n\tprintln(p.n)\n}\n"); tokens = ((tok Keyword 0 7 (codes "package")) ∷ (tok Ident 8 12 (codes "main")) ∷ (tok Inserted 12 12 (codes ";")) ∷ (tok Keyword 14 18 (codes "type")) ∷ (tok Ident 19 20 (codes "C")) ∷ (tok Keyword 21 27 (codes "struct")) ∷ (tok Operator 27 28 (codes "{")) ∷ (tok Ident 29 30 (codes "n")) ∷ (tok Ident 31 34 (codes "int")) ∷ (tok Operator 35 36 (codes "}")) ∷ (tok Inserted 36 36 (codes ";")) ∷ (tok Keyword 54 58 (codes "type")) ∷ (tok Ident 59 60 (codes "P")) ∷ (tok Operator 61 62 (codes "=")) ∷ (tok Operator 63 64 (codes "*")) ∷ (tok Ident 64 65 (codes "C")) ∷ (tok Inserted 65 65 (codes ";")) ∷ (tok Keyword 67 71 (codes "func")) ∷ (tok Ident 72 76 (codes "main")) ∷ (tok Operator 76 77 (codes "(")) ∷ (tok Operator 77 78 (codes ")")) ∷ (tok Operator 79 80 (codes "{")) ∷ (tok Ident 82 83 (codes "c")) ∷ (tok Operator 84 86 (codes ":=")) ∷ (tok Ident 87 88 (codes "C")) ∷ (tok Operator 88 89 (codes "{")) ∷ (tok Integer 89 90 (codes "1")) ∷ (tok Operator 90 91 (codes "}")) ∷ (tok Inserted 91 91 (codes ";")) ∷ (tok Ident 93 94 (codes "p")) ∷ (tok Operator 95 97 (codes ":=")) ∷ (tok Operator 98 99 (codes "(")) ∷ (tok Operator 99 100 (codes "*")) ∷ (tok Ident 100 101 (codes "C")) ∷ (tok Operator 101 102 (codes ")")) ∷ (tok Operator 102 103 (codes "(")) ∷ (tok Operator 103 104 (codes "&")) ∷ (tok Ident 104 105 (codes "c")) ∷ (tok Operator 105 106 (codes ")")) ∷ (tok Inserted 106 106 (codes ";")) ∷ (tok Ident 108 115 (codes "println")) ∷ (tok Operator 115 116 (codes "(")) ∷ (tok Ident 116 117 (codes "p")) ∷ (tok Operator 117 118 (codes ".")) ∷ (tok Ident 118 119 (codes "n")) ∷ (tok Operator 119 120 (codes ")")) ∷ (tok Inserted 120 120 (codes ";")) ∷ (tok Operator 121 122 (codes "}")) ∷ (tok Inserted 122 122 (codes ";")) ∷ []); comments = ((note 38 53) ∷ []) }) ∷ []) }

alias_of_pointer_1_typed : is_typed alias_of_pointer_1 ≡ true
alias_of_pointer_1_typed = refl

alias_of_pointer_1_ends : step_of alias_of_pointer_1 ≡ None
unfolding passes keyword_spellings
alias_of_pointer_1_ends = refl

alias_of_pointer_1_kept : kept_uses alias_of_pointer_1 ≡ []
unfolding passes keyword_spellings
alias_of_pointer_1_kept = refl

-- A receiver is written by an alias.
abbrev alias_of_receiver_0_f0 : File Span
alias_of_receiver_0_f0 = record { package_name = (nm 8 12 (codes "main")); imports = []; decls = ((types (at 14 36) false ((tspec (at 19 36) (nm 19 20 (codes "C")) false (struct_type (at 21 36) (field (at 29 34) (nm 29 30 (codes "n")) (named (at 31 34) None (nm 31 34 (codes "int"))) no_fields))) ∷ [])) ∷ (types (at 54 64) false ((tspec (at 59 64) (nm 59 60 (codes "D")) true (named (at 63 64) None (nm 63 64 (codes "C")))) ∷ [])) ∷ (fn (at 66 101) (Some (recv (at 72 75) (Some (nm 72 73 (codes "d"))) false (nm 74 75 (codes "D")))) (nm 77 80 (codes "Get")) (sig [] ((param (at 83 86) None (named (at 83 86) None (nm 83 86 (codes "int")))) ∷ [])) (at 87 101) (stmt_and (return_ (at 89 99) (expr_and (selector (at 96 99) (ident (at 96 97) (codes "d")) (nm 98 99 (codes "n"))) no_exprs)) no_stmts)) ∷ (fn (at 103 147) None (nm 108 112 (codes "main")) (sig [] []) (at 115 147) (stmt_and (define (at 118 127) ((nm 118 119 (codes "d")) ∷ []) (expr_and (composite (at 123 127) (named (at 123 124) None (nm 123 124 (codes "D"))) (elem (at 125 126) no_value (plain (int_lit (at 125 126) (codes "1"))) no_elems)) no_exprs)) (stmt_and (eval (at 129 145) (call (at 129 145) (ident (at 129 136) (codes "println")) (expr_and (call (at 137 144) (selector (at 137 142) (ident (at 137 138) (codes "d")) (nm 139 142 (codes "Get"))) no_exprs Plain) no_exprs) Plain)) no_stmts))) ∷ []) }

alias_of_receiver_0_f0_read : read_at span_to read_front (lexemes ((tok Keyword 0 7 (codes "package")) ∷ (tok Ident 8 12 (codes "main")) ∷ (tok Inserted 12 12 (codes ";")) ∷ (tok Keyword 14 18 (codes "type")) ∷ (tok Ident 19 20 (codes "C")) ∷ (tok Keyword 21 27 (codes "struct")) ∷ (tok Operator 27 28 (codes "{")) ∷ (tok Ident 29 30 (codes "n")) ∷ (tok Ident 31 34 (codes "int")) ∷ (tok Operator 35 36 (codes "}")) ∷ (tok Inserted 36 36 (codes ";")) ∷ (tok Keyword 54 58 (codes "type")) ∷ (tok Ident 59 60 (codes "D")) ∷ (tok Operator 61 62 (codes "=")) ∷ (tok Ident 63 64 (codes "C")) ∷ (tok Inserted 64 64 (codes ";")) ∷ (tok Keyword 66 70 (codes "func")) ∷ (tok Operator 71 72 (codes "(")) ∷ (tok Ident 72 73 (codes "d")) ∷ (tok Ident 74 75 (codes "D")) ∷ (tok Operator 75 76 (codes ")")) ∷ (tok Ident 77 80 (codes "Get")) ∷ (tok Operator 80 81 (codes "(")) ∷ (tok Operator 81 82 (codes ")")) ∷ (tok Ident 83 86 (codes "int")) ∷ (tok Operator 87 88 (codes "{")) ∷ (tok Keyword 89 95 (codes "return")) ∷ (tok Ident 96 97 (codes "d")) ∷ (tok Operator 97 98 (codes ".")) ∷ (tok Ident 98 99 (codes "n")) ∷ (tok Operator 100 101 (codes "}")) ∷ (tok Inserted 101 101 (codes ";")) ∷ (tok Keyword 103 107 (codes "func")) ∷ (tok Ident 108 112 (codes "main")) ∷ (tok Operator 112 113 (codes "(")) ∷ (tok Operator 113 114 (codes ")")) ∷ (tok Operator 115 116 (codes "{")) ∷ (tok Ident 118 119 (codes "d")) ∷ (tok Operator 120 122 (codes ":=")) ∷ (tok Ident 123 124 (codes "D")) ∷ (tok Operator 124 125 (codes "{")) ∷ (tok Integer 125 126 (codes "1")) ∷ (tok Operator 126 127 (codes "}")) ∷ (tok Inserted 127 127 (codes ";")) ∷ (tok Ident 129 136 (codes "println")) ∷ (tok Operator 136 137 (codes "(")) ∷ (tok Ident 137 138 (codes "d")) ∷ (tok Operator 138 139 (codes ".")) ∷ (tok Ident 139 142 (codes "Get")) ∷ (tok Operator 142 143 (codes "(")) ∷ (tok Operator 143 144 (codes ")")) ∷ (tok Operator 144 145 (codes ")")) ∷ (tok Inserted 145 145 (codes ";")) ∷ (tok Operator 146 147 (codes "}")) ∷ (tok Inserted 147 147 (codes ";")) ∷ [])) ≡ Some (alias_of_receiver_0_f0, [])
unfolding reading
alias_of_receiver_0_f0_read = refl

abbrev alias_of_receiver_0 : Module
alias_of_receiver_0 = record { packages = (pack (codes "example.com/m") (codes "main") (source (codes "main.go") alias_of_receiver_0_f0 ∷ []) ∷ []); marks = (mark 0 0 1 0 ∷ []); texts = (((codes "main.go"), record { text = (codes "package main\n\ntype C struct{ n int }\n\n//go:fix inline\ntype D = C\n\nfunc (d D) Get() int { return d.n }\n\nfunc main() {\n\td := D{1}\n\tprintln(d.Get())\n}\n"); tokens = ((tok Keyword 0 7 (codes "package")) ∷ (tok Ident 8 12 (codes "main")) ∷ (tok Inserted 12 12 (codes ";")) ∷ (tok Keyword 14 18 (codes "type")) ∷ (tok Ident 19 20 (codes "C")) ∷ (tok Keyword 21 27 (codes "struct")) ∷ (tok Operator 27 28 (codes "{")) ∷ (tok Ident 29 30 (codes "n")) ∷ (tok Ident 31 34 (codes "int")) ∷ (tok Operator 35 36 (codes "}")) ∷ (tok Inserted 36 36 (codes ";")) ∷ (tok Keyword 54 58 (codes "type")) ∷ (tok Ident 59 60 (codes "D")) ∷ (tok Operator 61 62 (codes "=")) ∷ (tok Ident 63 64 (codes "C")) ∷ (tok Inserted 64 64 (codes ";")) ∷ (tok Keyword 66 70 (codes "func")) ∷ (tok Operator 71 72 (codes "(")) ∷ (tok Ident 72 73 (codes "d")) ∷ (tok Ident 74 75 (codes "D")) ∷ (tok Operator 75 76 (codes ")")) ∷ (tok Ident 77 80 (codes "Get")) ∷ (tok Operator 80 81 (codes "(")) ∷ (tok Operator 81 82 (codes ")")) ∷ (tok Ident 83 86 (codes "int")) ∷ (tok Operator 87 88 (codes "{")) ∷ (tok Keyword 89 95 (codes "return")) ∷ (tok Ident 96 97 (codes "d")) ∷ (tok Operator 97 98 (codes ".")) ∷ (tok Ident 98 99 (codes "n")) ∷ (tok Operator 100 101 (codes "}")) ∷ (tok Inserted 101 101 (codes ";")) ∷ (tok Keyword 103 107 (codes "func")) ∷ (tok Ident 108 112 (codes "main")) ∷ (tok Operator 112 113 (codes "(")) ∷ (tok Operator 113 114 (codes ")")) ∷ (tok Operator 115 116 (codes "{")) ∷ (tok Ident 118 119 (codes "d")) ∷ (tok Operator 120 122 (codes ":=")) ∷ (tok Ident 123 124 (codes "D")) ∷ (tok Operator 124 125 (codes "{")) ∷ (tok Integer 125 126 (codes "1")) ∷ (tok Operator 126 127 (codes "}")) ∷ (tok Inserted 127 127 (codes ";")) ∷ (tok Ident 129 136 (codes "println")) ∷ (tok Operator 136 137 (codes "(")) ∷ (tok Ident 137 138 (codes "d")) ∷ (tok Operator 138 139 (codes ".")) ∷ (tok Ident 139 142 (codes "Get")) ∷ (tok Operator 142 143 (codes "(")) ∷ (tok Operator 143 144 (codes ")")) ∷ (tok Operator 144 145 (codes ")")) ∷ (tok Inserted 145 145 (codes ";")) ∷ (tok Operator 146 147 (codes "}")) ∷ (tok Inserted 147 147 (codes ";")) ∷ []); comments = ((note 38 53) ∷ []) }) ∷ []) }

alias_of_receiver_0_typed : is_typed alias_of_receiver_0 ≡ true
alias_of_receiver_0_typed = refl

alias_of_receiver_0_step : first_change alias_of_receiver_0 ≡ Some ((codes "main.go"), TypeForm, (codes "package main\n\ntype C struct{ n int }\n\n//go:fix inline\ntype D = C\n\nfunc (d C) Get() int { return d.n }\n\nfunc main() {\n\td := D{1}\n\tprintln(d.Get())\n}\n"))
unfolding passes keyword_spellings
alias_of_receiver_0_step = refl

abbrev alias_of_receiver_1_f0 : File Span
alias_of_receiver_1_f0 = record { package_name = (nm 8 12 (codes "main")); imports = []; decls = ((types (at 14 36) false ((tspec (at 19 36) (nm 19 20 (codes "C")) false (struct_type (at 21 36) (field (at 29 34) (nm 29 30 (codes "n")) (named (at 31 34) None (nm 31 34 (codes "int"))) no_fields))) ∷ [])) ∷ (types (at 54 64) false ((tspec (at 59 64) (nm 59 60 (codes "D")) true (named (at 63 64) None (nm 63 64 (codes "C")))) ∷ [])) ∷ (fn (at 66 101) (Some (recv (at 72 75) (Some (nm 72 73 (codes "d"))) false (nm 74 75 (codes "C")))) (nm 77 80 (codes "Get")) (sig [] ((param (at 83 86) None (named (at 83 86) None (nm 83 86 (codes "int")))) ∷ [])) (at 87 101) (stmt_and (return_ (at 89 99) (expr_and (selector (at 96 99) (ident (at 96 97) (codes "d")) (nm 98 99 (codes "n"))) no_exprs)) no_stmts)) ∷ (fn (at 103 147) None (nm 108 112 (codes "main")) (sig [] []) (at 115 147) (stmt_and (define (at 118 127) ((nm 118 119 (codes "d")) ∷ []) (expr_and (composite (at 123 127) (named (at 123 124) None (nm 123 124 (codes "D"))) (elem (at 125 126) no_value (plain (int_lit (at 125 126) (codes "1"))) no_elems)) no_exprs)) (stmt_and (eval (at 129 145) (call (at 129 145) (ident (at 129 136) (codes "println")) (expr_and (call (at 137 144) (selector (at 137 142) (ident (at 137 138) (codes "d")) (nm 139 142 (codes "Get"))) no_exprs Plain) no_exprs) Plain)) no_stmts))) ∷ []) }

alias_of_receiver_1_f0_read : read_at span_to read_front (lexemes ((tok Keyword 0 7 (codes "package")) ∷ (tok Ident 8 12 (codes "main")) ∷ (tok Inserted 12 12 (codes ";")) ∷ (tok Keyword 14 18 (codes "type")) ∷ (tok Ident 19 20 (codes "C")) ∷ (tok Keyword 21 27 (codes "struct")) ∷ (tok Operator 27 28 (codes "{")) ∷ (tok Ident 29 30 (codes "n")) ∷ (tok Ident 31 34 (codes "int")) ∷ (tok Operator 35 36 (codes "}")) ∷ (tok Inserted 36 36 (codes ";")) ∷ (tok Keyword 54 58 (codes "type")) ∷ (tok Ident 59 60 (codes "D")) ∷ (tok Operator 61 62 (codes "=")) ∷ (tok Ident 63 64 (codes "C")) ∷ (tok Inserted 64 64 (codes ";")) ∷ (tok Keyword 66 70 (codes "func")) ∷ (tok Operator 71 72 (codes "(")) ∷ (tok Ident 72 73 (codes "d")) ∷ (tok Ident 74 75 (codes "C")) ∷ (tok Operator 75 76 (codes ")")) ∷ (tok Ident 77 80 (codes "Get")) ∷ (tok Operator 80 81 (codes "(")) ∷ (tok Operator 81 82 (codes ")")) ∷ (tok Ident 83 86 (codes "int")) ∷ (tok Operator 87 88 (codes "{")) ∷ (tok Keyword 89 95 (codes "return")) ∷ (tok Ident 96 97 (codes "d")) ∷ (tok Operator 97 98 (codes ".")) ∷ (tok Ident 98 99 (codes "n")) ∷ (tok Operator 100 101 (codes "}")) ∷ (tok Inserted 101 101 (codes ";")) ∷ (tok Keyword 103 107 (codes "func")) ∷ (tok Ident 108 112 (codes "main")) ∷ (tok Operator 112 113 (codes "(")) ∷ (tok Operator 113 114 (codes ")")) ∷ (tok Operator 115 116 (codes "{")) ∷ (tok Ident 118 119 (codes "d")) ∷ (tok Operator 120 122 (codes ":=")) ∷ (tok Ident 123 124 (codes "D")) ∷ (tok Operator 124 125 (codes "{")) ∷ (tok Integer 125 126 (codes "1")) ∷ (tok Operator 126 127 (codes "}")) ∷ (tok Inserted 127 127 (codes ";")) ∷ (tok Ident 129 136 (codes "println")) ∷ (tok Operator 136 137 (codes "(")) ∷ (tok Ident 137 138 (codes "d")) ∷ (tok Operator 138 139 (codes ".")) ∷ (tok Ident 139 142 (codes "Get")) ∷ (tok Operator 142 143 (codes "(")) ∷ (tok Operator 143 144 (codes ")")) ∷ (tok Operator 144 145 (codes ")")) ∷ (tok Inserted 145 145 (codes ";")) ∷ (tok Operator 146 147 (codes "}")) ∷ (tok Inserted 147 147 (codes ";")) ∷ [])) ≡ Some (alias_of_receiver_1_f0, [])
unfolding reading
alias_of_receiver_1_f0_read = refl

abbrev alias_of_receiver_1 : Module
alias_of_receiver_1 = record { packages = (pack (codes "example.com/m") (codes "main") (source (codes "main.go") alias_of_receiver_1_f0 ∷ []) ∷ []); marks = (mark 0 0 1 0 ∷ []); texts = (((codes "main.go"), record { text = (codes "package main\n\ntype C struct{ n int }\n\n//go:fix inline\ntype D = C\n\nfunc (d C) Get() int { return d.n }\n\nfunc main() {\n\td := D{1}\n\tprintln(d.Get())\n}\n"); tokens = ((tok Keyword 0 7 (codes "package")) ∷ (tok Ident 8 12 (codes "main")) ∷ (tok Inserted 12 12 (codes ";")) ∷ (tok Keyword 14 18 (codes "type")) ∷ (tok Ident 19 20 (codes "C")) ∷ (tok Keyword 21 27 (codes "struct")) ∷ (tok Operator 27 28 (codes "{")) ∷ (tok Ident 29 30 (codes "n")) ∷ (tok Ident 31 34 (codes "int")) ∷ (tok Operator 35 36 (codes "}")) ∷ (tok Inserted 36 36 (codes ";")) ∷ (tok Keyword 54 58 (codes "type")) ∷ (tok Ident 59 60 (codes "D")) ∷ (tok Operator 61 62 (codes "=")) ∷ (tok Ident 63 64 (codes "C")) ∷ (tok Inserted 64 64 (codes ";")) ∷ (tok Keyword 66 70 (codes "func")) ∷ (tok Operator 71 72 (codes "(")) ∷ (tok Ident 72 73 (codes "d")) ∷ (tok Ident 74 75 (codes "C")) ∷ (tok Operator 75 76 (codes ")")) ∷ (tok Ident 77 80 (codes "Get")) ∷ (tok Operator 80 81 (codes "(")) ∷ (tok Operator 81 82 (codes ")")) ∷ (tok Ident 83 86 (codes "int")) ∷ (tok Operator 87 88 (codes "{")) ∷ (tok Keyword 89 95 (codes "return")) ∷ (tok Ident 96 97 (codes "d")) ∷ (tok Operator 97 98 (codes ".")) ∷ (tok Ident 98 99 (codes "n")) ∷ (tok Operator 100 101 (codes "}")) ∷ (tok Inserted 101 101 (codes ";")) ∷ (tok Keyword 103 107 (codes "func")) ∷ (tok Ident 108 112 (codes "main")) ∷ (tok Operator 112 113 (codes "(")) ∷ (tok Operator 113 114 (codes ")")) ∷ (tok Operator 115 116 (codes "{")) ∷ (tok Ident 118 119 (codes "d")) ∷ (tok Operator 120 122 (codes ":=")) ∷ (tok Ident 123 124 (codes "D")) ∷ (tok Operator 124 125 (codes "{")) ∷ (tok Integer 125 126 (codes "1")) ∷ (tok Operator 126 127 (codes "}")) ∷ (tok Inserted 127 127 (codes ";")) ∷ (tok Ident 129 136 (codes "println")) ∷ (tok Operator 136 137 (codes "(")) ∷ (tok Ident 137 138 (codes "d")) ∷ (tok Operator 138 139 (codes ".")) ∷ (tok Ident 139 142 (codes "Get")) ∷ (tok Operator 142 143 (codes "(")) ∷ (tok Operator 143 144 (codes ")")) ∷ (tok Operator 144 145 (codes ")")) ∷ (tok Inserted 145 145 (codes ";")) ∷ (tok Operator 146 147 (codes "}")) ∷ (tok Inserted 147 147 (codes ";")) ∷ []); comments = ((note 38 53) ∷ []) }) ∷ []) }

alias_of_receiver_1_typed : is_typed alias_of_receiver_1 ≡ true
alias_of_receiver_1_typed = refl

alias_of_receiver_1_step : first_change alias_of_receiver_1 ≡ Some ((codes "main.go"), TypeForm, (codes "package main\n\ntype C struct{ n int }\n\n//go:fix inline\ntype D = C\n\nfunc (d C) Get() int { return d.n }\n\nfunc main() {\n\td := C{1}\n\tprintln(d.Get())\n}\n"))
unfolding passes keyword_spellings
alias_of_receiver_1_step = refl

abbrev alias_of_receiver_2_f0 : File Span
alias_of_receiver_2_f0 = record { package_name = (nm 8 12 (codes "main")); imports = []; decls = ((types (at 14 36) false ((tspec (at 19 36) (nm 19 20 (codes "C")) false (struct_type (at 21 36) (field (at 29 34) (nm 29 30 (codes "n")) (named (at 31 34) None (nm 31 34 (codes "int"))) no_fields))) ∷ [])) ∷ (types (at 54 64) false ((tspec (at 59 64) (nm 59 60 (codes "D")) true (named (at 63 64) None (nm 63 64 (codes "C")))) ∷ [])) ∷ (fn (at 66 101) (Some (recv (at 72 75) (Some (nm 72 73 (codes "d"))) false (nm 74 75 (codes "C")))) (nm 77 80 (codes "Get")) (sig [] ((param (at 83 86) None (named (at 83 86) None (nm 83 86 (codes "int")))) ∷ [])) (at 87 101) (stmt_and (return_ (at 89 99) (expr_and (selector (at 96 99) (ident (at 96 97) (codes "d")) (nm 98 99 (codes "n"))) no_exprs)) no_stmts)) ∷ (fn (at 103 147) None (nm 108 112 (codes "main")) (sig [] []) (at 115 147) (stmt_and (define (at 118 127) ((nm 118 119 (codes "d")) ∷ []) (expr_and (composite (at 123 127) (named (at 123 124) None (nm 123 124 (codes "C"))) (elem (at 125 126) no_value (plain (int_lit (at 125 126) (codes "1"))) no_elems)) no_exprs)) (stmt_and (eval (at 129 145) (call (at 129 145) (ident (at 129 136) (codes "println")) (expr_and (call (at 137 144) (selector (at 137 142) (ident (at 137 138) (codes "d")) (nm 139 142 (codes "Get"))) no_exprs Plain) no_exprs) Plain)) no_stmts))) ∷ []) }

alias_of_receiver_2_f0_read : read_at span_to read_front (lexemes ((tok Keyword 0 7 (codes "package")) ∷ (tok Ident 8 12 (codes "main")) ∷ (tok Inserted 12 12 (codes ";")) ∷ (tok Keyword 14 18 (codes "type")) ∷ (tok Ident 19 20 (codes "C")) ∷ (tok Keyword 21 27 (codes "struct")) ∷ (tok Operator 27 28 (codes "{")) ∷ (tok Ident 29 30 (codes "n")) ∷ (tok Ident 31 34 (codes "int")) ∷ (tok Operator 35 36 (codes "}")) ∷ (tok Inserted 36 36 (codes ";")) ∷ (tok Keyword 54 58 (codes "type")) ∷ (tok Ident 59 60 (codes "D")) ∷ (tok Operator 61 62 (codes "=")) ∷ (tok Ident 63 64 (codes "C")) ∷ (tok Inserted 64 64 (codes ";")) ∷ (tok Keyword 66 70 (codes "func")) ∷ (tok Operator 71 72 (codes "(")) ∷ (tok Ident 72 73 (codes "d")) ∷ (tok Ident 74 75 (codes "C")) ∷ (tok Operator 75 76 (codes ")")) ∷ (tok Ident 77 80 (codes "Get")) ∷ (tok Operator 80 81 (codes "(")) ∷ (tok Operator 81 82 (codes ")")) ∷ (tok Ident 83 86 (codes "int")) ∷ (tok Operator 87 88 (codes "{")) ∷ (tok Keyword 89 95 (codes "return")) ∷ (tok Ident 96 97 (codes "d")) ∷ (tok Operator 97 98 (codes ".")) ∷ (tok Ident 98 99 (codes "n")) ∷ (tok Operator 100 101 (codes "}")) ∷ (tok Inserted 101 101 (codes ";")) ∷ (tok Keyword 103 107 (codes "func")) ∷ (tok Ident 108 112 (codes "main")) ∷ (tok Operator 112 113 (codes "(")) ∷ (tok Operator 113 114 (codes ")")) ∷ (tok Operator 115 116 (codes "{")) ∷ (tok Ident 118 119 (codes "d")) ∷ (tok Operator 120 122 (codes ":=")) ∷ (tok Ident 123 124 (codes "C")) ∷ (tok Operator 124 125 (codes "{")) ∷ (tok Integer 125 126 (codes "1")) ∷ (tok Operator 126 127 (codes "}")) ∷ (tok Inserted 127 127 (codes ";")) ∷ (tok Ident 129 136 (codes "println")) ∷ (tok Operator 136 137 (codes "(")) ∷ (tok Ident 137 138 (codes "d")) ∷ (tok Operator 138 139 (codes ".")) ∷ (tok Ident 139 142 (codes "Get")) ∷ (tok Operator 142 143 (codes "(")) ∷ (tok Operator 143 144 (codes ")")) ∷ (tok Operator 144 145 (codes ")")) ∷ (tok Inserted 145 145 (codes ";")) ∷ (tok Operator 146 147 (codes "}")) ∷ (tok Inserted 147 147 (codes ";")) ∷ [])) ≡ Some (alias_of_receiver_2_f0, [])
unfolding reading
alias_of_receiver_2_f0_read = refl

abbrev alias_of_receiver_2 : Module
alias_of_receiver_2 = record { packages = (pack (codes "example.com/m") (codes "main") (source (codes "main.go") alias_of_receiver_2_f0 ∷ []) ∷ []); marks = (mark 0 0 1 0 ∷ []); texts = (((codes "main.go"), record { text = (codes "package main\n\ntype C struct{ n int }\n\n//go:fix inline\ntype D = C\n\nfunc (d C) Get() int { return d.n }\n\nfunc main() {\n\td := C{1}\n\tprintln(d.Get())\n}\n"); tokens = ((tok Keyword 0 7 (codes "package")) ∷ (tok Ident 8 12 (codes "main")) ∷ (tok Inserted 12 12 (codes ";")) ∷ (tok Keyword 14 18 (codes "type")) ∷ (tok Ident 19 20 (codes "C")) ∷ (tok Keyword 21 27 (codes "struct")) ∷ (tok Operator 27 28 (codes "{")) ∷ (tok Ident 29 30 (codes "n")) ∷ (tok Ident 31 34 (codes "int")) ∷ (tok Operator 35 36 (codes "}")) ∷ (tok Inserted 36 36 (codes ";")) ∷ (tok Keyword 54 58 (codes "type")) ∷ (tok Ident 59 60 (codes "D")) ∷ (tok Operator 61 62 (codes "=")) ∷ (tok Ident 63 64 (codes "C")) ∷ (tok Inserted 64 64 (codes ";")) ∷ (tok Keyword 66 70 (codes "func")) ∷ (tok Operator 71 72 (codes "(")) ∷ (tok Ident 72 73 (codes "d")) ∷ (tok Ident 74 75 (codes "C")) ∷ (tok Operator 75 76 (codes ")")) ∷ (tok Ident 77 80 (codes "Get")) ∷ (tok Operator 80 81 (codes "(")) ∷ (tok Operator 81 82 (codes ")")) ∷ (tok Ident 83 86 (codes "int")) ∷ (tok Operator 87 88 (codes "{")) ∷ (tok Keyword 89 95 (codes "return")) ∷ (tok Ident 96 97 (codes "d")) ∷ (tok Operator 97 98 (codes ".")) ∷ (tok Ident 98 99 (codes "n")) ∷ (tok Operator 100 101 (codes "}")) ∷ (tok Inserted 101 101 (codes ";")) ∷ (tok Keyword 103 107 (codes "func")) ∷ (tok Ident 108 112 (codes "main")) ∷ (tok Operator 112 113 (codes "(")) ∷ (tok Operator 113 114 (codes ")")) ∷ (tok Operator 115 116 (codes "{")) ∷ (tok Ident 118 119 (codes "d")) ∷ (tok Operator 120 122 (codes ":=")) ∷ (tok Ident 123 124 (codes "C")) ∷ (tok Operator 124 125 (codes "{")) ∷ (tok Integer 125 126 (codes "1")) ∷ (tok Operator 126 127 (codes "}")) ∷ (tok Inserted 127 127 (codes ";")) ∷ (tok Ident 129 136 (codes "println")) ∷ (tok Operator 136 137 (codes "(")) ∷ (tok Ident 137 138 (codes "d")) ∷ (tok Operator 138 139 (codes ".")) ∷ (tok Ident 139 142 (codes "Get")) ∷ (tok Operator 142 143 (codes "(")) ∷ (tok Operator 143 144 (codes ")")) ∷ (tok Operator 144 145 (codes ")")) ∷ (tok Inserted 145 145 (codes ";")) ∷ (tok Operator 146 147 (codes "}")) ∷ (tok Inserted 147 147 (codes ";")) ∷ []); comments = ((note 38 53) ∷ []) }) ∷ []) }

alias_of_receiver_2_typed : is_typed alias_of_receiver_2 ≡ true
alias_of_receiver_2_typed = refl

alias_of_receiver_2_ends : step_of alias_of_receiver_2 ≡ None
unfolding passes keyword_spellings
alias_of_receiver_2_ends = refl

alias_of_receiver_2_kept : kept_uses alias_of_receiver_2 ≡ []
unfolding passes keyword_spellings
alias_of_receiver_2_kept = refl

-- A marked constant names another one: the first use is within its declaration.
abbrev chain_of_constants_0_f0 : File Span
chain_of_constants_0_f0 = record { package_name = (nm 8 12 (codes "main")); imports = []; decls = ((values (const_decl (at 14 28) false (spec (at 20 28) ((nm 20 24 (codes "Base")) ∷ []) None (expr_and (int_lit (at 27 28) (codes "2")) no_exprs) no_specs))) ∷ (values (const_decl (at 46 64) false (spec (at 52 64) ((nm 52 57 (codes "First")) ∷ []) None (expr_and (ident (at 60 64) (codes "Base")) no_exprs) no_specs))) ∷ (values (const_decl (at 82 102) false (spec (at 88 102) ((nm 88 94 (codes "Second")) ∷ []) None (expr_and (ident (at 97 102) (codes "First")) no_exprs) no_specs))) ∷ (fn (at 104 136) None (nm 109 113 (codes "main")) (sig [] []) (at 116 136) (stmt_and (eval (at 119 134) (call (at 119 134) (ident (at 119 126) (codes "println")) (expr_and (ident (at 127 133) (codes "Second")) no_exprs) Plain)) no_stmts)) ∷ []) }

chain_of_constants_0_f0_read : read_at span_to read_front (lexemes ((tok Keyword 0 7 (codes "package")) ∷ (tok Ident 8 12 (codes "main")) ∷ (tok Inserted 12 12 (codes ";")) ∷ (tok Keyword 14 19 (codes "const")) ∷ (tok Ident 20 24 (codes "Base")) ∷ (tok Operator 25 26 (codes "=")) ∷ (tok Integer 27 28 (codes "2")) ∷ (tok Inserted 28 28 (codes ";")) ∷ (tok Keyword 46 51 (codes "const")) ∷ (tok Ident 52 57 (codes "First")) ∷ (tok Operator 58 59 (codes "=")) ∷ (tok Ident 60 64 (codes "Base")) ∷ (tok Inserted 64 64 (codes ";")) ∷ (tok Keyword 82 87 (codes "const")) ∷ (tok Ident 88 94 (codes "Second")) ∷ (tok Operator 95 96 (codes "=")) ∷ (tok Ident 97 102 (codes "First")) ∷ (tok Inserted 102 102 (codes ";")) ∷ (tok Keyword 104 108 (codes "func")) ∷ (tok Ident 109 113 (codes "main")) ∷ (tok Operator 113 114 (codes "(")) ∷ (tok Operator 114 115 (codes ")")) ∷ (tok Operator 116 117 (codes "{")) ∷ (tok Ident 119 126 (codes "println")) ∷ (tok Operator 126 127 (codes "(")) ∷ (tok Ident 127 133 (codes "Second")) ∷ (tok Operator 133 134 (codes ")")) ∷ (tok Inserted 134 134 (codes ";")) ∷ (tok Operator 135 136 (codes "}")) ∷ (tok Inserted 136 136 (codes ";")) ∷ [])) ≡ Some (chain_of_constants_0_f0, [])
unfolding reading
chain_of_constants_0_f0_read = refl

abbrev chain_of_constants_0 : Module
chain_of_constants_0 = record { packages = (pack (codes "example.com/m") (codes "main") (source (codes "main.go") chain_of_constants_0_f0 ∷ []) ∷ []); marks = (mark 0 0 1 0 ∷ mark 0 0 2 0 ∷ []); texts = (((codes "main.go"), record { text = (codes "package main\n\nconst Base = 2\n\n//go:fix inline\nconst First = Base\n\n//go:fix inline\nconst Second = First\n\nfunc main() {\n\tprintln(Second)\n}\n"); tokens = ((tok Keyword 0 7 (codes "package")) ∷ (tok Ident 8 12 (codes "main")) ∷ (tok Inserted 12 12 (codes ";")) ∷ (tok Keyword 14 19 (codes "const")) ∷ (tok Ident 20 24 (codes "Base")) ∷ (tok Operator 25 26 (codes "=")) ∷ (tok Integer 27 28 (codes "2")) ∷ (tok Inserted 28 28 (codes ";")) ∷ (tok Keyword 46 51 (codes "const")) ∷ (tok Ident 52 57 (codes "First")) ∷ (tok Operator 58 59 (codes "=")) ∷ (tok Ident 60 64 (codes "Base")) ∷ (tok Inserted 64 64 (codes ";")) ∷ (tok Keyword 82 87 (codes "const")) ∷ (tok Ident 88 94 (codes "Second")) ∷ (tok Operator 95 96 (codes "=")) ∷ (tok Ident 97 102 (codes "First")) ∷ (tok Inserted 102 102 (codes ";")) ∷ (tok Keyword 104 108 (codes "func")) ∷ (tok Ident 109 113 (codes "main")) ∷ (tok Operator 113 114 (codes "(")) ∷ (tok Operator 114 115 (codes ")")) ∷ (tok Operator 116 117 (codes "{")) ∷ (tok Ident 119 126 (codes "println")) ∷ (tok Operator 126 127 (codes "(")) ∷ (tok Ident 127 133 (codes "Second")) ∷ (tok Operator 133 134 (codes ")")) ∷ (tok Inserted 134 134 (codes ";")) ∷ (tok Operator 135 136 (codes "}")) ∷ (tok Inserted 136 136 (codes ";")) ∷ []); comments = ((note 30 45) ∷ (note 66 81) ∷ []) }) ∷ []) }

chain_of_constants_0_typed : is_typed chain_of_constants_0 ≡ true
chain_of_constants_0_typed = refl

chain_of_constants_0_step : first_change chain_of_constants_0 ≡ Some ((codes "main.go"), ConstForm, (codes "package main\n\nconst Base = 2\n\n//go:fix inline\nconst First = Base\n\n//go:fix inline\nconst Second = Base\n\nfunc main() {\n\tprintln(Second)\n}\n"))
unfolding passes keyword_spellings
chain_of_constants_0_step = refl

abbrev chain_of_constants_1_f0 : File Span
chain_of_constants_1_f0 = record { package_name = (nm 8 12 (codes "main")); imports = []; decls = ((values (const_decl (at 14 28) false (spec (at 20 28) ((nm 20 24 (codes "Base")) ∷ []) None (expr_and (int_lit (at 27 28) (codes "2")) no_exprs) no_specs))) ∷ (values (const_decl (at 46 64) false (spec (at 52 64) ((nm 52 57 (codes "First")) ∷ []) None (expr_and (ident (at 60 64) (codes "Base")) no_exprs) no_specs))) ∷ (values (const_decl (at 82 101) false (spec (at 88 101) ((nm 88 94 (codes "Second")) ∷ []) None (expr_and (ident (at 97 101) (codes "Base")) no_exprs) no_specs))) ∷ (fn (at 103 135) None (nm 108 112 (codes "main")) (sig [] []) (at 115 135) (stmt_and (eval (at 118 133) (call (at 118 133) (ident (at 118 125) (codes "println")) (expr_and (ident (at 126 132) (codes "Second")) no_exprs) Plain)) no_stmts)) ∷ []) }

chain_of_constants_1_f0_read : read_at span_to read_front (lexemes ((tok Keyword 0 7 (codes "package")) ∷ (tok Ident 8 12 (codes "main")) ∷ (tok Inserted 12 12 (codes ";")) ∷ (tok Keyword 14 19 (codes "const")) ∷ (tok Ident 20 24 (codes "Base")) ∷ (tok Operator 25 26 (codes "=")) ∷ (tok Integer 27 28 (codes "2")) ∷ (tok Inserted 28 28 (codes ";")) ∷ (tok Keyword 46 51 (codes "const")) ∷ (tok Ident 52 57 (codes "First")) ∷ (tok Operator 58 59 (codes "=")) ∷ (tok Ident 60 64 (codes "Base")) ∷ (tok Inserted 64 64 (codes ";")) ∷ (tok Keyword 82 87 (codes "const")) ∷ (tok Ident 88 94 (codes "Second")) ∷ (tok Operator 95 96 (codes "=")) ∷ (tok Ident 97 101 (codes "Base")) ∷ (tok Inserted 101 101 (codes ";")) ∷ (tok Keyword 103 107 (codes "func")) ∷ (tok Ident 108 112 (codes "main")) ∷ (tok Operator 112 113 (codes "(")) ∷ (tok Operator 113 114 (codes ")")) ∷ (tok Operator 115 116 (codes "{")) ∷ (tok Ident 118 125 (codes "println")) ∷ (tok Operator 125 126 (codes "(")) ∷ (tok Ident 126 132 (codes "Second")) ∷ (tok Operator 132 133 (codes ")")) ∷ (tok Inserted 133 133 (codes ";")) ∷ (tok Operator 134 135 (codes "}")) ∷ (tok Inserted 135 135 (codes ";")) ∷ [])) ≡ Some (chain_of_constants_1_f0, [])
unfolding reading
chain_of_constants_1_f0_read = refl

abbrev chain_of_constants_1 : Module
chain_of_constants_1 = record { packages = (pack (codes "example.com/m") (codes "main") (source (codes "main.go") chain_of_constants_1_f0 ∷ []) ∷ []); marks = (mark 0 0 1 0 ∷ mark 0 0 2 0 ∷ []); texts = (((codes "main.go"), record { text = (codes "package main\n\nconst Base = 2\n\n//go:fix inline\nconst First = Base\n\n//go:fix inline\nconst Second = Base\n\nfunc main() {\n\tprintln(Second)\n}\n"); tokens = ((tok Keyword 0 7 (codes "package")) ∷ (tok Ident 8 12 (codes "main")) ∷ (tok Inserted 12 12 (codes ";")) ∷ (tok Keyword 14 19 (codes "const")) ∷ (tok Ident 20 24 (codes "Base")) ∷ (tok Operator 25 26 (codes "=")) ∷ (tok Integer 27 28 (codes "2")) ∷ (tok Inserted 28 28 (codes ";")) ∷ (tok Keyword 46 51 (codes "const")) ∷ (tok Ident 52 57 (codes "First")) ∷ (tok Operator 58 59 (codes "=")) ∷ (tok Ident 60 64 (codes "Base")) ∷ (tok Inserted 64 64 (codes ";")) ∷ (tok Keyword 82 87 (codes "const")) ∷ (tok Ident 88 94 (codes "Second")) ∷ (tok Operator 95 96 (codes "=")) ∷ (tok Ident 97 101 (codes "Base")) ∷ (tok Inserted 101 101 (codes ";")) ∷ (tok Keyword 103 107 (codes "func")) ∷ (tok Ident 108 112 (codes "main")) ∷ (tok Operator 112 113 (codes "(")) ∷ (tok Operator 113 114 (codes ")")) ∷ (tok Operator 115 116 (codes "{")) ∷ (tok Ident 118 125 (codes "println")) ∷ (tok Operator 125 126 (codes "(")) ∷ (tok Ident 126 132 (codes "Second")) ∷ (tok Operator 132 133 (codes ")")) ∷ (tok Inserted 133 133 (codes ";")) ∷ (tok Operator 134 135 (codes "}")) ∷ (tok Inserted 135 135 (codes ";")) ∷ []); comments = ((note 30 45) ∷ (note 66 81) ∷ []) }) ∷ []) }

chain_of_constants_1_typed : is_typed chain_of_constants_1 ≡ true
chain_of_constants_1_typed = refl

chain_of_constants_1_step : first_change chain_of_constants_1 ≡ Some ((codes "main.go"), ConstForm, (codes "package main\n\nconst Base = 2\n\n//go:fix inline\nconst First = Base\n\n//go:fix inline\nconst Second = Base\n\nfunc main() {\n\tprintln(Base)\n}\n"))
unfolding passes keyword_spellings
chain_of_constants_1_step = refl

abbrev chain_of_constants_2_f0 : File Span
chain_of_constants_2_f0 = record { package_name = (nm 8 12 (codes "main")); imports = []; decls = ((values (const_decl (at 14 28) false (spec (at 20 28) ((nm 20 24 (codes "Base")) ∷ []) None (expr_and (int_lit (at 27 28) (codes "2")) no_exprs) no_specs))) ∷ (values (const_decl (at 46 64) false (spec (at 52 64) ((nm 52 57 (codes "First")) ∷ []) None (expr_and (ident (at 60 64) (codes "Base")) no_exprs) no_specs))) ∷ (values (const_decl (at 82 101) false (spec (at 88 101) ((nm 88 94 (codes "Second")) ∷ []) None (expr_and (ident (at 97 101) (codes "Base")) no_exprs) no_specs))) ∷ (fn (at 103 133) None (nm 108 112 (codes "main")) (sig [] []) (at 115 133) (stmt_and (eval (at 118 131) (call (at 118 131) (ident (at 118 125) (codes "println")) (expr_and (ident (at 126 130) (codes "Base")) no_exprs) Plain)) no_stmts)) ∷ []) }

chain_of_constants_2_f0_read : read_at span_to read_front (lexemes ((tok Keyword 0 7 (codes "package")) ∷ (tok Ident 8 12 (codes "main")) ∷ (tok Inserted 12 12 (codes ";")) ∷ (tok Keyword 14 19 (codes "const")) ∷ (tok Ident 20 24 (codes "Base")) ∷ (tok Operator 25 26 (codes "=")) ∷ (tok Integer 27 28 (codes "2")) ∷ (tok Inserted 28 28 (codes ";")) ∷ (tok Keyword 46 51 (codes "const")) ∷ (tok Ident 52 57 (codes "First")) ∷ (tok Operator 58 59 (codes "=")) ∷ (tok Ident 60 64 (codes "Base")) ∷ (tok Inserted 64 64 (codes ";")) ∷ (tok Keyword 82 87 (codes "const")) ∷ (tok Ident 88 94 (codes "Second")) ∷ (tok Operator 95 96 (codes "=")) ∷ (tok Ident 97 101 (codes "Base")) ∷ (tok Inserted 101 101 (codes ";")) ∷ (tok Keyword 103 107 (codes "func")) ∷ (tok Ident 108 112 (codes "main")) ∷ (tok Operator 112 113 (codes "(")) ∷ (tok Operator 113 114 (codes ")")) ∷ (tok Operator 115 116 (codes "{")) ∷ (tok Ident 118 125 (codes "println")) ∷ (tok Operator 125 126 (codes "(")) ∷ (tok Ident 126 130 (codes "Base")) ∷ (tok Operator 130 131 (codes ")")) ∷ (tok Inserted 131 131 (codes ";")) ∷ (tok Operator 132 133 (codes "}")) ∷ (tok Inserted 133 133 (codes ";")) ∷ [])) ≡ Some (chain_of_constants_2_f0, [])
unfolding reading
chain_of_constants_2_f0_read = refl

abbrev chain_of_constants_2 : Module
chain_of_constants_2 = record { packages = (pack (codes "example.com/m") (codes "main") (source (codes "main.go") chain_of_constants_2_f0 ∷ []) ∷ []); marks = (mark 0 0 1 0 ∷ mark 0 0 2 0 ∷ []); texts = (((codes "main.go"), record { text = (codes "package main\n\nconst Base = 2\n\n//go:fix inline\nconst First = Base\n\n//go:fix inline\nconst Second = Base\n\nfunc main() {\n\tprintln(Base)\n}\n"); tokens = ((tok Keyword 0 7 (codes "package")) ∷ (tok Ident 8 12 (codes "main")) ∷ (tok Inserted 12 12 (codes ";")) ∷ (tok Keyword 14 19 (codes "const")) ∷ (tok Ident 20 24 (codes "Base")) ∷ (tok Operator 25 26 (codes "=")) ∷ (tok Integer 27 28 (codes "2")) ∷ (tok Inserted 28 28 (codes ";")) ∷ (tok Keyword 46 51 (codes "const")) ∷ (tok Ident 52 57 (codes "First")) ∷ (tok Operator 58 59 (codes "=")) ∷ (tok Ident 60 64 (codes "Base")) ∷ (tok Inserted 64 64 (codes ";")) ∷ (tok Keyword 82 87 (codes "const")) ∷ (tok Ident 88 94 (codes "Second")) ∷ (tok Operator 95 96 (codes "=")) ∷ (tok Ident 97 101 (codes "Base")) ∷ (tok Inserted 101 101 (codes ";")) ∷ (tok Keyword 103 107 (codes "func")) ∷ (tok Ident 108 112 (codes "main")) ∷ (tok Operator 112 113 (codes "(")) ∷ (tok Operator 113 114 (codes ")")) ∷ (tok Operator 115 116 (codes "{")) ∷ (tok Ident 118 125 (codes "println")) ∷ (tok Operator 125 126 (codes "(")) ∷ (tok Ident 126 130 (codes "Base")) ∷ (tok Operator 130 131 (codes ")")) ∷ (tok Inserted 131 131 (codes ";")) ∷ (tok Operator 132 133 (codes "}")) ∷ (tok Inserted 133 133 (codes ";")) ∷ []); comments = ((note 30 45) ∷ (note 66 81) ∷ []) }) ∷ []) }

chain_of_constants_2_typed : is_typed chain_of_constants_2 ≡ true
chain_of_constants_2_typed = refl

chain_of_constants_2_ends : step_of chain_of_constants_2 ≡ None
unfolding passes keyword_spellings
chain_of_constants_2_ends = refl

chain_of_constants_2_kept : kept_uses chain_of_constants_2 ≡ []
unfolding passes keyword_spellings
chain_of_constants_2_kept = refl

-- An internal package of another one.
abbrev internal_f0 : File Span
internal_f0 = record { package_name = (nm 8 9 (codes "a")); imports = ((imps (at 11 46) false ((imp (at 18 46) None (codes "example.com/m/a/internal/b")) ∷ [])) ∷ []); decls = ((fn (at 64 105) None (nm 69 71 (codes "Do")) (sig ((param (at 72 77) (Some (nm 72 73 (codes "x"))) (named (at 74 77) None (nm 74 77 (codes "int")))) ∷ []) ((param (at 79 82) None (named (at 79 82) None (nm 79 82 (codes "int")))) ∷ [])) (at 83 105) (stmt_and (return_ (at 86 103) (expr_and (call (at 93 103) (selector (at 93 100) (ident (at 93 94) (codes "b")) (nm 95 100 (codes "Twice"))) (expr_and (ident (at 101 102) (codes "x")) no_exprs) Plain) no_exprs)) no_stmts)) ∷ []) }

abbrev internal_f1 : File Span
internal_f1 = record { package_name = (nm 8 9 (codes "b")); imports = []; decls = ((fn (at 11 49) None (nm 16 21 (codes "Twice")) (sig ((param (at 22 27) (Some (nm 22 23 (codes "x"))) (named (at 24 27) None (nm 24 27 (codes "int")))) ∷ []) ((param (at 29 32) None (named (at 29 32) None (nm 29 32 (codes "int")))) ∷ [])) (at 33 49) (stmt_and (return_ (at 35 47) (expr_and (binary (at 42 47) Mul (int_lit (at 42 43) (codes "2")) (ident (at 46 47) (codes "x"))) no_exprs)) no_stmts)) ∷ []) }

abbrev internal_f2 : File Span
internal_f2 = record { package_name = (nm 8 12 (codes "main")); imports = ((imps (at 14 38) false ((imp (at 21 38) None (codes "example.com/m/a")) ∷ [])) ∷ []); decls = ((fn (at 40 73) None (nm 45 49 (codes "main")) (sig [] []) (at 52 73) (stmt_and (eval (at 55 71) (call (at 55 71) (ident (at 55 62) (codes "println")) (expr_and (call (at 63 70) (selector (at 63 67) (ident (at 63 64) (codes "a")) (nm 65 67 (codes "Do"))) (expr_and (int_lit (at 68 69) (codes "1")) no_exprs) Plain) no_exprs) Plain)) no_stmts)) ∷ []) }

internal_f0_read : read_at span_to read_front (lexemes ((tok Keyword 0 7 (codes "package")) ∷ (tok Ident 8 9 (codes "a")) ∷ (tok Inserted 9 9 (codes ";")) ∷ (tok Keyword 11 17 (codes "import")) ∷ (tok Str 18 46 (codes "\"example.com/m/a/internal/b\"")) ∷ (tok Inserted 46 46 (codes ";")) ∷ (tok Keyword 64 68 (codes "func")) ∷ (tok Ident 69 71 (codes "Do")) ∷ (tok Operator 71 72 (codes "(")) ∷ (tok Ident 72 73 (codes "x")) ∷ (tok Ident 74 77 (codes "int")) ∷ (tok Operator 77 78 (codes ")")) ∷ (tok Ident 79 82 (codes "int")) ∷ (tok Operator 83 84 (codes "{")) ∷ (tok Keyword 86 92 (codes "return")) ∷ (tok Ident 93 94 (codes "b")) ∷ (tok Operator 94 95 (codes ".")) ∷ (tok Ident 95 100 (codes "Twice")) ∷ (tok Operator 100 101 (codes "(")) ∷ (tok Ident 101 102 (codes "x")) ∷ (tok Operator 102 103 (codes ")")) ∷ (tok Inserted 103 103 (codes ";")) ∷ (tok Operator 104 105 (codes "}")) ∷ (tok Inserted 105 105 (codes ";")) ∷ [])) ≡ Some (internal_f0, [])
unfolding reading
internal_f0_read = refl

internal_f1_read : read_at span_to read_front (lexemes ((tok Keyword 0 7 (codes "package")) ∷ (tok Ident 8 9 (codes "b")) ∷ (tok Inserted 9 9 (codes ";")) ∷ (tok Keyword 11 15 (codes "func")) ∷ (tok Ident 16 21 (codes "Twice")) ∷ (tok Operator 21 22 (codes "(")) ∷ (tok Ident 22 23 (codes "x")) ∷ (tok Ident 24 27 (codes "int")) ∷ (tok Operator 27 28 (codes ")")) ∷ (tok Ident 29 32 (codes "int")) ∷ (tok Operator 33 34 (codes "{")) ∷ (tok Keyword 35 41 (codes "return")) ∷ (tok Integer 42 43 (codes "2")) ∷ (tok Operator 44 45 (codes "*")) ∷ (tok Ident 46 47 (codes "x")) ∷ (tok Operator 48 49 (codes "}")) ∷ (tok Inserted 49 49 (codes ";")) ∷ [])) ≡ Some (internal_f1, [])
unfolding reading
internal_f1_read = refl

internal_f2_read : read_at span_to read_front (lexemes ((tok Keyword 0 7 (codes "package")) ∷ (tok Ident 8 12 (codes "main")) ∷ (tok Inserted 12 12 (codes ";")) ∷ (tok Keyword 14 20 (codes "import")) ∷ (tok Str 21 38 (codes "\"example.com/m/a\"")) ∷ (tok Inserted 38 38 (codes ";")) ∷ (tok Keyword 40 44 (codes "func")) ∷ (tok Ident 45 49 (codes "main")) ∷ (tok Operator 49 50 (codes "(")) ∷ (tok Operator 50 51 (codes ")")) ∷ (tok Operator 52 53 (codes "{")) ∷ (tok Ident 55 62 (codes "println")) ∷ (tok Operator 62 63 (codes "(")) ∷ (tok Ident 63 64 (codes "a")) ∷ (tok Operator 64 65 (codes ".")) ∷ (tok Ident 65 67 (codes "Do")) ∷ (tok Operator 67 68 (codes "(")) ∷ (tok Integer 68 69 (codes "1")) ∷ (tok Operator 69 70 (codes ")")) ∷ (tok Operator 70 71 (codes ")")) ∷ (tok Inserted 71 71 (codes ";")) ∷ (tok Operator 72 73 (codes "}")) ∷ (tok Inserted 73 73 (codes ";")) ∷ [])) ≡ Some (internal_f2, [])
unfolding reading
internal_f2_read = refl

abbrev internal : Module
internal = record { packages = (pack (codes "example.com/m/a") (codes "a") (source (codes "a/a.go") internal_f0 ∷ []) ∷ pack (codes "example.com/m/a/internal/b") (codes "b") (source (codes "a/internal/b/b.go") internal_f1 ∷ []) ∷ pack (codes "example.com/m") (codes "main") (source (codes "main.go") internal_f2 ∷ []) ∷ []); marks = (mark 0 0 0 0 ∷ []); texts = (((codes "a/a.go"), record { text = (codes "package a\n\nimport \"example.com/m/a/internal/b\"\n\n//go:fix inline\nfunc Do(x int) int {\n\treturn b.Twice(x)\n}\n"); tokens = ((tok Keyword 0 7 (codes "package")) ∷ (tok Ident 8 9 (codes "a")) ∷ (tok Inserted 9 9 (codes ";")) ∷ (tok Keyword 11 17 (codes "import")) ∷ (tok Str 18 46 (codes "\"example.com/m/a/internal/b\"")) ∷ (tok Inserted 46 46 (codes ";")) ∷ (tok Keyword 64 68 (codes "func")) ∷ (tok Ident 69 71 (codes "Do")) ∷ (tok Operator 71 72 (codes "(")) ∷ (tok Ident 72 73 (codes "x")) ∷ (tok Ident 74 77 (codes "int")) ∷ (tok Operator 77 78 (codes ")")) ∷ (tok Ident 79 82 (codes "int")) ∷ (tok Operator 83 84 (codes "{")) ∷ (tok Keyword 86 92 (codes "return")) ∷ (tok Ident 93 94 (codes "b")) ∷ (tok Operator 94 95 (codes ".")) ∷ (tok Ident 95 100 (codes "Twice")) ∷ (tok Operator 100 101 (codes "(")) ∷ (tok Ident 101 102 (codes "x")) ∷ (tok Operator 102 103 (codes ")")) ∷ (tok Inserted 103 103 (codes ";")) ∷ (tok Operator 104 105 (codes "}")) ∷ (tok Inserted 105 105 (codes ";")) ∷ []); comments = ((note 48 63) ∷ []) }) ∷ ((codes "a/internal/b/b.go"), record { text = (codes "package b\n\nfunc Twice(x int) int { return 2 * x }\n"); tokens = ((tok Keyword 0 7 (codes "package")) ∷ (tok Ident 8 9 (codes "b")) ∷ (tok Inserted 9 9 (codes ";")) ∷ (tok Keyword 11 15 (codes "func")) ∷ (tok Ident 16 21 (codes "Twice")) ∷ (tok Operator 21 22 (codes "(")) ∷ (tok Ident 22 23 (codes "x")) ∷ (tok Ident 24 27 (codes "int")) ∷ (tok Operator 27 28 (codes ")")) ∷ (tok Ident 29 32 (codes "int")) ∷ (tok Operator 33 34 (codes "{")) ∷ (tok Keyword 35 41 (codes "return")) ∷ (tok Integer 42 43 (codes "2")) ∷ (tok Operator 44 45 (codes "*")) ∷ (tok Ident 46 47 (codes "x")) ∷ (tok Operator 48 49 (codes "}")) ∷ (tok Inserted 49 49 (codes ";")) ∷ []); comments = [] }) ∷ ((codes "main.go"), record { text = (codes "package main\n\nimport \"example.com/m/a\"\n\nfunc main() {\n\tprintln(a.Do(1))\n}\n"); tokens = ((tok Keyword 0 7 (codes "package")) ∷ (tok Ident 8 12 (codes "main")) ∷ (tok Inserted 12 12 (codes ";")) ∷ (tok Keyword 14 20 (codes "import")) ∷ (tok Str 21 38 (codes "\"example.com/m/a\"")) ∷ (tok Inserted 38 38 (codes ";")) ∷ (tok Keyword 40 44 (codes "func")) ∷ (tok Ident 45 49 (codes "main")) ∷ (tok Operator 49 50 (codes "(")) ∷ (tok Operator 50 51 (codes ")")) ∷ (tok Operator 52 53 (codes "{")) ∷ (tok Ident 55 62 (codes "println")) ∷ (tok Operator 62 63 (codes "(")) ∷ (tok Ident 63 64 (codes "a")) ∷ (tok Operator 64 65 (codes ".")) ∷ (tok Ident 65 67 (codes "Do")) ∷ (tok Operator 67 68 (codes "(")) ∷ (tok Integer 68 69 (codes "1")) ∷ (tok Operator 69 70 (codes ")")) ∷ (tok Operator 70 71 (codes ")")) ∷ (tok Inserted 71 71 (codes ";")) ∷ (tok Operator 72 73 (codes "}")) ∷ (tok Inserted 73 73 (codes ";")) ∷ []); comments = [] }) ∷ []) }

internal_typed : is_typed internal ≡ true
internal_typed = refl

internal_ends : step_of internal ≡ None
unfolding passes keyword_spellings
internal_ends = refl

internal_kept : kept_uses internal ≡ (((codes "main.go"), 63, Some (Internal (codes "example.com/m/a/internal/b"))) ∷ [])
unfolding passes keyword_spellings
internal_kept = refl

-- A field that is set by place.
abbrev hidden_field_f0 : File Span
hidden_field_f0 = record { package_name = (nm 8 9 (codes "a")); imports = []; decls = ((types (at 11 33) false ((tspec (at 16 33) (nm 16 17 (codes "T")) false (struct_type (at 18 33) (field (at 26 31) (nm 26 27 (codes "n")) (named (at 28 31) None (nm 28 31 (codes "int"))) no_fields))) ∷ [])) ∷ (fn (at 51 86) None (nm 56 60 (codes "Make")) (sig ((param (at 61 66) (Some (nm 61 62 (codes "x"))) (named (at 63 66) None (nm 63 66 (codes "int")))) ∷ []) ((param (at 68 69) None (named (at 68 69) None (nm 68 69 (codes "T")))) ∷ [])) (at 70 86) (stmt_and (return_ (at 73 84) (expr_and (composite (at 80 84) (named (at 80 81) None (nm 80 81 (codes "T"))) (elem (at 82 83) no_value (plain (ident (at 82 83) (codes "x"))) no_elems)) no_exprs)) no_stmts)) ∷ []) }

abbrev hidden_field_f1 : File Span
hidden_field_f1 = record { package_name = (nm 8 12 (codes "main")); imports = ((imps (at 14 38) false ((imp (at 21 38) None (codes "example.com/m/a")) ∷ [])) ∷ []); decls = ((fn (at 40 78) None (nm 45 49 (codes "main")) (sig [] []) (at 52 78) (stmt_and (define (at 55 69) ((nm 55 56 (codes "t")) ∷ []) (expr_and (call (at 60 69) (selector (at 60 66) (ident (at 60 61) (codes "a")) (nm 62 66 (codes "Make"))) (expr_and (int_lit (at 67 68) (codes "1")) no_exprs) Plain) no_exprs)) (stmt_and (assign (at 71 76) (expr_and (ident (at 71 72) (codes "_")) no_exprs) None (expr_and (ident (at 75 76) (codes "t")) no_exprs)) no_stmts))) ∷ []) }

hidden_field_f0_read : read_at span_to read_front (lexemes ((tok Keyword 0 7 (codes "package")) ∷ (tok Ident 8 9 (codes "a")) ∷ (tok Inserted 9 9 (codes ";")) ∷ (tok Keyword 11 15 (codes "type")) ∷ (tok Ident 16 17 (codes "T")) ∷ (tok Keyword 18 24 (codes "struct")) ∷ (tok Operator 24 25 (codes "{")) ∷ (tok Ident 26 27 (codes "n")) ∷ (tok Ident 28 31 (codes "int")) ∷ (tok Operator 32 33 (codes "}")) ∷ (tok Inserted 33 33 (codes ";")) ∷ (tok Keyword 51 55 (codes "func")) ∷ (tok Ident 56 60 (codes "Make")) ∷ (tok Operator 60 61 (codes "(")) ∷ (tok Ident 61 62 (codes "x")) ∷ (tok Ident 63 66 (codes "int")) ∷ (tok Operator 66 67 (codes ")")) ∷ (tok Ident 68 69 (codes "T")) ∷ (tok Operator 70 71 (codes "{")) ∷ (tok Keyword 73 79 (codes "return")) ∷ (tok Ident 80 81 (codes "T")) ∷ (tok Operator 81 82 (codes "{")) ∷ (tok Ident 82 83 (codes "x")) ∷ (tok Operator 83 84 (codes "}")) ∷ (tok Inserted 84 84 (codes ";")) ∷ (tok Operator 85 86 (codes "}")) ∷ (tok Inserted 86 86 (codes ";")) ∷ [])) ≡ Some (hidden_field_f0, [])
unfolding reading
hidden_field_f0_read = refl

hidden_field_f1_read : read_at span_to read_front (lexemes ((tok Keyword 0 7 (codes "package")) ∷ (tok Ident 8 12 (codes "main")) ∷ (tok Inserted 12 12 (codes ";")) ∷ (tok Keyword 14 20 (codes "import")) ∷ (tok Str 21 38 (codes "\"example.com/m/a\"")) ∷ (tok Inserted 38 38 (codes ";")) ∷ (tok Keyword 40 44 (codes "func")) ∷ (tok Ident 45 49 (codes "main")) ∷ (tok Operator 49 50 (codes "(")) ∷ (tok Operator 50 51 (codes ")")) ∷ (tok Operator 52 53 (codes "{")) ∷ (tok Ident 55 56 (codes "t")) ∷ (tok Operator 57 59 (codes ":=")) ∷ (tok Ident 60 61 (codes "a")) ∷ (tok Operator 61 62 (codes ".")) ∷ (tok Ident 62 66 (codes "Make")) ∷ (tok Operator 66 67 (codes "(")) ∷ (tok Integer 67 68 (codes "1")) ∷ (tok Operator 68 69 (codes ")")) ∷ (tok Inserted 69 69 (codes ";")) ∷ (tok Ident 71 72 (codes "_")) ∷ (tok Operator 73 74 (codes "=")) ∷ (tok Ident 75 76 (codes "t")) ∷ (tok Inserted 76 76 (codes ";")) ∷ (tok Operator 77 78 (codes "}")) ∷ (tok Inserted 78 78 (codes ";")) ∷ [])) ≡ Some (hidden_field_f1, [])
unfolding reading
hidden_field_f1_read = refl

abbrev hidden_field : Module
hidden_field = record { packages = (pack (codes "example.com/m/a") (codes "a") (source (codes "a/a.go") hidden_field_f0 ∷ []) ∷ pack (codes "example.com/m") (codes "main") (source (codes "main.go") hidden_field_f1 ∷ []) ∷ []); marks = (mark 0 0 1 0 ∷ []); texts = (((codes "a/a.go"), record { text = (codes "package a\n\ntype T struct{ n int }\n\n//go:fix inline\nfunc Make(x int) T {\n\treturn T{x}\n}\n"); tokens = ((tok Keyword 0 7 (codes "package")) ∷ (tok Ident 8 9 (codes "a")) ∷ (tok Inserted 9 9 (codes ";")) ∷ (tok Keyword 11 15 (codes "type")) ∷ (tok Ident 16 17 (codes "T")) ∷ (tok Keyword 18 24 (codes "struct")) ∷ (tok Operator 24 25 (codes "{")) ∷ (tok Ident 26 27 (codes "n")) ∷ (tok Ident 28 31 (codes "int")) ∷ (tok Operator 32 33 (codes "}")) ∷ (tok Inserted 33 33 (codes ";")) ∷ (tok Keyword 51 55 (codes "func")) ∷ (tok Ident 56 60 (codes "Make")) ∷ (tok Operator 60 61 (codes "(")) ∷ (tok Ident 61 62 (codes "x")) ∷ (tok Ident 63 66 (codes "int")) ∷ (tok Operator 66 67 (codes ")")) ∷ (tok Ident 68 69 (codes "T")) ∷ (tok Operator 70 71 (codes "{")) ∷ (tok Keyword 73 79 (codes "return")) ∷ (tok Ident 80 81 (codes "T")) ∷ (tok Operator 81 82 (codes "{")) ∷ (tok Ident 82 83 (codes "x")) ∷ (tok Operator 83 84 (codes "}")) ∷ (tok Inserted 84 84 (codes ";")) ∷ (tok Operator 85 86 (codes "}")) ∷ (tok Inserted 86 86 (codes ";")) ∷ []); comments = ((note 35 50) ∷ []) }) ∷ ((codes "main.go"), record { text = (codes "package main\n\nimport \"example.com/m/a\"\n\nfunc main() {\n\tt := a.Make(1)\n\t_ = t\n}\n"); tokens = ((tok Keyword 0 7 (codes "package")) ∷ (tok Ident 8 12 (codes "main")) ∷ (tok Inserted 12 12 (codes ";")) ∷ (tok Keyword 14 20 (codes "import")) ∷ (tok Str 21 38 (codes "\"example.com/m/a\"")) ∷ (tok Inserted 38 38 (codes ";")) ∷ (tok Keyword 40 44 (codes "func")) ∷ (tok Ident 45 49 (codes "main")) ∷ (tok Operator 49 50 (codes "(")) ∷ (tok Operator 50 51 (codes ")")) ∷ (tok Operator 52 53 (codes "{")) ∷ (tok Ident 55 56 (codes "t")) ∷ (tok Operator 57 59 (codes ":=")) ∷ (tok Ident 60 61 (codes "a")) ∷ (tok Operator 61 62 (codes ".")) ∷ (tok Ident 62 66 (codes "Make")) ∷ (tok Operator 66 67 (codes "(")) ∷ (tok Integer 67 68 (codes "1")) ∷ (tok Operator 68 69 (codes ")")) ∷ (tok Inserted 69 69 (codes ";")) ∷ (tok Ident 71 72 (codes "_")) ∷ (tok Operator 73 74 (codes "=")) ∷ (tok Ident 75 76 (codes "t")) ∷ (tok Inserted 76 76 (codes ";")) ∷ (tok Operator 77 78 (codes "}")) ∷ (tok Inserted 78 78 (codes ";")) ∷ []); comments = [] }) ∷ []) }

hidden_field_typed : is_typed hidden_field ≡ true
hidden_field_typed = refl

hidden_field_ends : step_of hidden_field ≡ None
unfolding passes keyword_spellings
hidden_field_ends = refl

hidden_field_kept : kept_uses hidden_field ≡ (((codes "main.go"), 60, Some (NotAccessible (codes "n"))) ∷ [])
unfolding passes keyword_spellings
hidden_field_kept = refl

-- A later member means another declaration by the name.
abbrev repeated_in_body_f0 : File Span
repeated_in_body_f0 = record { package_name = (nm 8 9 (codes "a")); imports = []; decls = ((values (const_decl (at 11 22) false (spec (at 17 22) ((nm 17 18 (codes "X")) ∷ []) None (expr_and (int_lit (at 21 22) (codes "5")) no_exprs) no_specs))) ∷ (fn (at 40 105) None (nm 45 49 (codes "Show")) (sig [] []) (at 52 105) (stmt_and (const_decl (at 55 85) true (spec (at 65 74) ((nm 65 66 (codes "A")) ∷ []) None (expr_and (binary (at 69 74) Add (ident (at 69 70) (codes "X")) (int_lit (at 73 74) (codes "1"))) no_exprs) (spec (at 77 78) ((nm 77 78 (codes "X")) ∷ []) None no_exprs (spec (at 81 82) ((nm 81 82 (codes "B")) ∷ []) None no_exprs no_specs)))) (stmt_and (eval (at 87 103) (call (at 87 103) (ident (at 87 94) (codes "println")) (expr_and (ident (at 95 96) (codes "A")) (expr_and (ident (at 98 99) (codes "X")) (expr_and (ident (at 101 102) (codes "B")) no_exprs))) Plain)) no_stmts))) ∷ []) }

abbrev repeated_in_body_f1 : File Span
repeated_in_body_f1 = record { package_name = (nm 8 12 (codes "main")); imports = ((imps (at 14 38) false ((imp (at 21 38) None (codes "example.com/m/a")) ∷ [])) ∷ []); decls = ((fn (at 40 65) None (nm 45 49 (codes "main")) (sig [] []) (at 52 65) (stmt_and (eval (at 55 63) (call (at 55 63) (selector (at 55 61) (ident (at 55 56) (codes "a")) (nm 57 61 (codes "Show"))) no_exprs Plain)) no_stmts)) ∷ []) }

repeated_in_body_f0_read : read_at span_to read_front (lexemes ((tok Keyword 0 7 (codes "package")) ∷ (tok Ident 8 9 (codes "a")) ∷ (tok Inserted 9 9 (codes ";")) ∷ (tok Keyword 11 16 (codes "const")) ∷ (tok Ident 17 18 (codes "X")) ∷ (tok Operator 19 20 (codes "=")) ∷ (tok Integer 21 22 (codes "5")) ∷ (tok Inserted 22 22 (codes ";")) ∷ (tok Keyword 40 44 (codes "func")) ∷ (tok Ident 45 49 (codes "Show")) ∷ (tok Operator 49 50 (codes "(")) ∷ (tok Operator 50 51 (codes ")")) ∷ (tok Operator 52 53 (codes "{")) ∷ (tok Keyword 55 60 (codes "const")) ∷ (tok Operator 61 62 (codes "(")) ∷ (tok Ident 65 66 (codes "A")) ∷ (tok Operator 67 68 (codes "=")) ∷ (tok Ident 69 70 (codes "X")) ∷ (tok Operator 71 72 (codes "+")) ∷ (tok Integer 73 74 (codes "1")) ∷ (tok Inserted 74 74 (codes ";")) ∷ (tok Ident 77 78 (codes "X")) ∷ (tok Inserted 78 78 (codes ";")) ∷ (tok Ident 81 82 (codes "B")) ∷ (tok Inserted 82 82 (codes ";")) ∷ (tok Operator 84 85 (codes ")")) ∷ (tok Inserted 85 85 (codes ";")) ∷ (tok Ident 87 94 (codes "println")) ∷ (tok Operator 94 95 (codes "(")) ∷ (tok Ident 95 96 (codes "A")) ∷ (tok Operator 96 97 (codes ",")) ∷ (tok Ident 98 99 (codes "X")) ∷ (tok Operator 99 100 (codes ",")) ∷ (tok Ident 101 102 (codes "B")) ∷ (tok Operator 102 103 (codes ")")) ∷ (tok Inserted 103 103 (codes ";")) ∷ (tok Operator 104 105 (codes "}")) ∷ (tok Inserted 105 105 (codes ";")) ∷ [])) ≡ Some (repeated_in_body_f0, [])
unfolding reading
repeated_in_body_f0_read = refl

repeated_in_body_f1_read : read_at span_to read_front (lexemes ((tok Keyword 0 7 (codes "package")) ∷ (tok Ident 8 12 (codes "main")) ∷ (tok Inserted 12 12 (codes ";")) ∷ (tok Keyword 14 20 (codes "import")) ∷ (tok Str 21 38 (codes "\"example.com/m/a\"")) ∷ (tok Inserted 38 38 (codes ";")) ∷ (tok Keyword 40 44 (codes "func")) ∷ (tok Ident 45 49 (codes "main")) ∷ (tok Operator 49 50 (codes "(")) ∷ (tok Operator 50 51 (codes ")")) ∷ (tok Operator 52 53 (codes "{")) ∷ (tok Ident 55 56 (codes "a")) ∷ (tok Operator 56 57 (codes ".")) ∷ (tok Ident 57 61 (codes "Show")) ∷ (tok Operator 61 62 (codes "(")) ∷ (tok Operator 62 63 (codes ")")) ∷ (tok Inserted 63 63 (codes ";")) ∷ (tok Operator 64 65 (codes "}")) ∷ (tok Inserted 65 65 (codes ";")) ∷ [])) ≡ Some (repeated_in_body_f1, [])
unfolding reading
repeated_in_body_f1_read = refl

abbrev repeated_in_body : Module
repeated_in_body = record { packages = (pack (codes "example.com/m/a") (codes "a") (source (codes "a/a.go") repeated_in_body_f0 ∷ []) ∷ pack (codes "example.com/m") (codes "main") (source (codes "main.go") repeated_in_body_f1 ∷ []) ∷ []); marks = (mark 0 0 1 0 ∷ []); texts = (((codes "a/a.go"), record { text = (codes "package a\n\nconst X = 5\n\n//go:fix inline\nfunc Show() {\n\tconst (\n\t\tA = X + 1\n\t\tX\n\t\tB\n\t)\n\tprintln(A, X, B)\n}\n"); tokens = ((tok Keyword 0 7 (codes "package")) ∷ (tok Ident 8 9 (codes "a")) ∷ (tok Inserted 9 9 (codes ";")) ∷ (tok Keyword 11 16 (codes "const")) ∷ (tok Ident 17 18 (codes "X")) ∷ (tok Operator 19 20 (codes "=")) ∷ (tok Integer 21 22 (codes "5")) ∷ (tok Inserted 22 22 (codes ";")) ∷ (tok Keyword 40 44 (codes "func")) ∷ (tok Ident 45 49 (codes "Show")) ∷ (tok Operator 49 50 (codes "(")) ∷ (tok Operator 50 51 (codes ")")) ∷ (tok Operator 52 53 (codes "{")) ∷ (tok Keyword 55 60 (codes "const")) ∷ (tok Operator 61 62 (codes "(")) ∷ (tok Ident 65 66 (codes "A")) ∷ (tok Operator 67 68 (codes "=")) ∷ (tok Ident 69 70 (codes "X")) ∷ (tok Operator 71 72 (codes "+")) ∷ (tok Integer 73 74 (codes "1")) ∷ (tok Inserted 74 74 (codes ";")) ∷ (tok Ident 77 78 (codes "X")) ∷ (tok Inserted 78 78 (codes ";")) ∷ (tok Ident 81 82 (codes "B")) ∷ (tok Inserted 82 82 (codes ";")) ∷ (tok Operator 84 85 (codes ")")) ∷ (tok Inserted 85 85 (codes ";")) ∷ (tok Ident 87 94 (codes "println")) ∷ (tok Operator 94 95 (codes "(")) ∷ (tok Ident 95 96 (codes "A")) ∷ (tok Operator 96 97 (codes ",")) ∷ (tok Ident 98 99 (codes "X")) ∷ (tok Operator 99 100 (codes ",")) ∷ (tok Ident 101 102 (codes "B")) ∷ (tok Operator 102 103 (codes ")")) ∷ (tok Inserted 103 103 (codes ";")) ∷ (tok Operator 104 105 (codes "}")) ∷ (tok Inserted 105 105 (codes ";")) ∷ []); comments = ((note 24 39) ∷ []) }) ∷ ((codes "main.go"), record { text = (codes "package main\n\nimport \"example.com/m/a\"\n\nfunc main() {\n\ta.Show()\n}\n"); tokens = ((tok Keyword 0 7 (codes "package")) ∷ (tok Ident 8 12 (codes "main")) ∷ (tok Inserted 12 12 (codes ";")) ∷ (tok Keyword 14 20 (codes "import")) ∷ (tok Str 21 38 (codes "\"example.com/m/a\"")) ∷ (tok Inserted 38 38 (codes ";")) ∷ (tok Keyword 40 44 (codes "func")) ∷ (tok Ident 45 49 (codes "main")) ∷ (tok Operator 49 50 (codes "(")) ∷ (tok Operator 50 51 (codes ")")) ∷ (tok Operator 52 53 (codes "{")) ∷ (tok Ident 55 56 (codes "a")) ∷ (tok Operator 56 57 (codes ".")) ∷ (tok Ident 57 61 (codes "Show")) ∷ (tok Operator 61 62 (codes "(")) ∷ (tok Operator 62 63 (codes ")")) ∷ (tok Inserted 63 63 (codes ";")) ∷ (tok Operator 64 65 (codes "}")) ∷ (tok Inserted 65 65 (codes ";")) ∷ []); comments = [] }) ∷ []) }

repeated_in_body_typed : is_typed repeated_in_body ≡ true
repeated_in_body_typed = refl

repeated_in_body_ends : step_of repeated_in_body ≡ None
unfolding passes keyword_spellings
repeated_in_body_ends = refl

repeated_in_body_kept : kept_uses repeated_in_body ≡ (((codes "main.go"), 55, Some Repeated) ∷ [])
unfolding passes keyword_spellings
repeated_in_body_kept = refl
