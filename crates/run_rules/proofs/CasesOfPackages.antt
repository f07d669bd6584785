-- Names over packages: text before and after.
use Rattle.std.proofs.Common.{◌≡◌, refl}
use Rattle.std.specs.Prelude.{true, false, [], ◌∷◌, Some, None, codes}
use Rattle.go_tree.specs.declared.exprs.Rest.TheVariants.{Plain}
use Rattle.go_tree.specs.declared.spans.Span.{Span}
use Rattle.go_tree.specs.declared.tokens.TokenKind.TheVariants.{Ident, Keyword, Operator, Integer, Str, Inserted}
use Rattle.go_tree.specs.declared.operators.BinOp.TheVariants.{Mul, Add, Gt}
use Rattle.go_tree.specs.Tree.{named, struct_type, no_fields, field, ident, int_lit, composite, selector, call, func_lit, binary, no_exprs, expr_and, no_elems, elem, plain, some_value, const_decl, eval, assign, define, return_, if_, no_stmts, stmt_and, no_stmt, no_block, no_arms, arm, no_specs, spec}
use Rattle.go_tree.specs.File.{File, values, types}
use Rattle.run_rules.specs.FormTrees.{ExprForm, LiteralForm}
use Rattle.run_rules.proofs.CaseTools.{at, nm, tok, note, param, sig, imp, imps, tspec, fn, pack, source, mark, Module, is_typed, first_change, step_of, kept_uses}
use Rattle.go_layout.specs.SpellsSpans.{span_to}
use Rattle.go_tree.specs.GoWords.Terminals.{lexemes}
use Rattle.go_tree.specs.GoWords.Tokens.Pieces.{keyword_spellings}
use Rattle.go_layout.specs.Goals.{read_front}
use Rattle.go_layout.proofs.Texts.{reading}
use Rattle.run_rules.proofs.CaseTools.{read_at}
use Rattle.pkg_graph.specs.ModuleFiles.Internal.{passes}
use Rattle.std.specs.Fmt.{digits}

-- Two packages of one name.
abbrev two_new_imports_0_f0 : File Span
two_new_imports_0_f0 = record { package_name = (nm 8 9 (codes "x")); imports = []; decls = ((fn (at 11 37) None (nm 16 17 (codes "F")) (sig [] ((param (at 20 23) None (named (at 20 23) None (nm 20 23 (codes "int")))) ∷ [])) (at 24 37) (stmt_and (return_ (at 27 35) (expr_and (int_lit (at 34 35) (codes "1")) no_exprs)) no_stmts)) ∷ []) }

abbrev two_new_imports_0_f1 : File Span
two_new_imports_0_f1 = record { package_name = (nm 8 9 (codes "x")); imports = []; decls = ((fn (at 11 37) None (nm 16 17 (codes "G")) (sig [] ((param (at 20 23) None (named (at 20 23) None (nm 20 23 (codes "int")))) ∷ [])) (at 24 37) (stmt_and (return_ (at 27 35) (expr_and (int_lit (at 34 35) (codes "2")) no_exprs)) no_stmts)) ∷ []) }

abbrev two_new_imports_0_f2 : File Span
two_new_imports_0_f2 = record { package_name = (nm 8 12 (codes "main")); imports = ((imps (at 14 40) false ((imp (at 21 40) None (codes "example.com/m/old")) ∷ [])) ∷ []); decls = ((fn (at 42 78) None (nm 47 51 (codes "main")) (sig [] []) (at 54 78) (stmt_and (eval (at 57 76) (call (at 57 76) (ident (at 57 64) (codes "println")) (expr_and (call (at 65 75) (selector (at 65 73) (ident (at 65 68) (codes "old")) (nm 69 73 (codes "Both"))) no_exprs Plain) no_exprs) Plain)) no_stmts)) ∷ []) }

abbrev two_new_imports_0_f3 : File Span
two_new_imports_0_f3 = record { package_name = (nm 8 11 (codes "old")); imports = ((imps (at 13 71) true ((imp (at 23 45) (Some (nm 23 25 (codes "ax"))) (codes "example.com/m/a/x")) ∷ (imp (at 47 69) (Some (nm 47 49 (codes "bx"))) (codes "example.com/m/b/x")) ∷ [])) ∷ []); decls = ((fn (at 89 132) None (nm 94 98 (codes "Both")) (sig [] ((param (at 101 104) None (named (at 101 104) None (nm 101 104 (codes "int")))) ∷ [])) (at 105 132) (stmt_and (return_ (at 108 130) (expr_and (binary (at 115 130) Add (call (at 115 121) (selector (at 115 119) (ident (at 115 117) (codes "ax")) (nm 118 119 (codes "F"))) no_exprs Plain) (call (at 124 130) (selector (at 124 128) (ident (at 124 126) (codes "bx")) (nm 127 128 (codes "G"))) no_exprs Plain)) no_exprs)) no_stmts)) ∷ []) }

two_new_imports_0_f0_read : read_at span_to read_front (lexemes ((tok Keyword 0 7 (codes "package")) ∷ (tok Ident 8 9 (codes "x")) ∷ (tok Inserted 9 9 (codes ";")) ∷ (tok Keyword 11 15 (codes "func")) ∷ (tok Ident 16 17 (codes "F")) ∷ (tok Operator 17 18 (codes "(")) ∷ (tok Operator 18 19 (codes ")")) ∷ (tok Ident 20 23 (codes "int")) ∷ (tok Operator 24 25 (codes "{")) ∷ (tok Keyword 27 33 (codes "return")) ∷ (tok Integer 34 35 (codes "1")) ∷ (tok Inserted 35 35 (codes ";")) ∷ (tok Operator 36 37 (codes "}")) ∷ (tok Inserted 37 37 (codes ";")) ∷ [])) ≡ Some (two_new_imports_0_f0, [])
unfolding reading
two_new_imports_0_f0_read = refl

two_new_imports_0_f1_read : read_at span_to read_front (lexemes ((tok Keyword 0 7 (codes "package")) ∷ (tok Ident 8 9 (codes "x")) ∷ (tok Inserted 9 9 (codes ";")) ∷ (tok Keyword 11 15 (codes "func")) ∷ (tok Ident 16 17 (codes "G")) ∷ (tok Operator 17 18 (codes "(")) ∷ (tok Operator 18 19 (codes ")")) ∷ (tok Ident 20 23 (codes "int")) ∷ (tok Operator 24 25 (codes "{")) ∷ (tok Keyword 27 33 (codes "return")) ∷ (tok Integer 34 35 (codes "2")) ∷ (tok Inserted 35 35 (codes ";")) ∷ (tok Operator 36 37 (codes "}")) ∷ (tok Inserted 37 37 (codes ";")) ∷ [])) ≡ Some (two_new_imports_0_f1, [])
unfolding reading
two_new_imports_0_f1_read = refl

two_new_imports_0_f2_read : read_at span_to read_front (lexemes ((tok Keyword 0 7 (codes "package")) ∷ (tok Ident 8 12 (codes "main")) ∷ (tok Inserted 12 12 (codes ";")) ∷ (tok Keyword 14 20 (codes "import")) ∷ (tok Str 21 40 (codes "\"example.com/m/old\"")) ∷ (tok Inserted 40 40 (codes ";")) ∷ (tok Keyword 42 46 (codes "func")) ∷ (tok Ident 47 51 (codes "main")) ∷ (tok Operator 51 52 (codes "(")) ∷ (tok Operator 52 53 (codes ")")) ∷ (tok Operator 54 55 (codes "{")) ∷ (tok Ident 57 64 (codes "println")) ∷ (tok Operator 64 65 (codes "(")) ∷ (tok Ident 65 68 (codes "old")) ∷ (tok Operator 68 69 (codes ".")) ∷ (tok Ident 69 73 (codes "Both")) ∷ (tok Operator 73 74 (codes "(")) ∷ (tok Operator 74 75 (codes ")")) ∷ (tok Operator 75 76 (codes ")")) ∷ (tok Inserted 76 76 (codes ";")) ∷ (tok Operator 77 78 (codes "}")) ∷ (tok Inserted 78 78 (codes ";")) ∷ [])) ≡ Some (two_new_imports_0_f2, [])
unfolding reading
two_new_imports_0_f2_read = refl

two_new_imports_0_f3_read : read_at span_to read_front (lexemes ((tok Keyword 0 7 (codes "package")) ∷ (tok Ident 8 11 (codes "old")) ∷ (tok Inserted 11 11 (codes ";")) ∷ (tok Keyword 13 19 (codes "import")) ∷ (tok Operator 20 21 (codes "(")) ∷ (tok Ident 23 25 (codes "ax")) ∷ (tok Str 26 45 (codes "\"example.com/m/a/x\"")) ∷ (tok Inserted 45 45 (codes ";")) ∷ (tok Ident 47 49 (codes "bx")) ∷ (tok Str 50 69 (codes "\"example.com/m/b/x\"")) ∷ (tok Inserted 69 69 (codes ";")) ∷ (tok Operator 70 71 (codes ")")) ∷ (tok Inserted 71 71 (codes ";")) ∷ (tok Keyword 89 93 (codes "func")) ∷ (tok Ident 94 98 (codes "Both")) ∷ (tok Operator 98 99 (codes "(")) ∷ (tok Operator 99 100 (codes ")")) ∷ (tok Ident 101 104 (codes "int")) ∷ (tok Operator 105 106 (codes "{")) ∷ (tok Keyword 108 114 (codes "return")) ∷ (tok Ident 115 117 (codes "ax")) ∷ (tok Operator 117 118 (codes ".")) ∷ (tok Ident 118 119 (codes "F")) ∷ (tok Operator 119 120 (codes "(")) ∷ (tok Operator 120 121 (codes ")")) ∷ (tok Operator 122 123 (codes "+")) ∷ (tok Ident 124 126 (codes "bx")) ∷ (tok Operator 126 127 (codes ".")) ∷ (tok Ident 127 128 (codes "G")) ∷ (tok Operator 128 129 (codes "(")) ∷ (tok Operator 129 130 (codes ")")) ∷ (tok Inserted 130 130 (codes ";")) ∷ (tok Operator 131 132 (codes "}")) ∷ (tok Inserted 132 132 (codes ";")) ∷ [])) ≡ Some (two_new_imports_0_f3, [])
unfolding reading
two_new_imports_0_f3_read = refl

abbrev two_new_imports_0 : Module
two_new_imports_0 = record { packages = (pack (codes "example.com/m/a/x") (codes "x") (source (codes "a/x/x.go") two_new_imports_0_f0 ∷ []) ∷ pack (codes "example.com/m/b/x") (codes "x") (source (codes "b/x/x.go") two_new_imports_0_f1 ∷ []) ∷ pack (codes "example.com/m") (codes "main") (source (codes "main.go") two_new_imports_0_f2 ∷ []) ∷ pack (codes "example.com/m/old") (codes "old") (source (codes "old/old.go") two_new_imports_0_f3 ∷ []) ∷ []); marks = (mark 3 0 0 0 ∷ []); texts = (((codes "a/x/x.go"), record { text = (codes "package x\n\nfunc F() int {\n\treturn 1\n}\n"); tokens = ((tok Keyword 0 7 (codes "package")) ∷ (tok Ident 8 9 (codes "x")) ∷ (tok Inserted 9 9 (codes ";")) ∷ (tok Keyword 11 15 (codes "func")) ∷ (tok Ident 16 17 (codes "F")) ∷ (tok Operator 17 18 (codes "(")) ∷ (tok Operator 18 19 (codes ")")) ∷ (tok Ident 20 23 (codes "int")) ∷ (tok Operator 24 25 (codes "{")) ∷ (tok Keyword 27 33 (codes "return")) ∷ (tok Integer 34 35 (codes "1")) ∷ (tok Inserted 35 35 (codes ";")) ∷ (tok Operator 36 37 (codes "}")) ∷ (tok Inserted 37 37 (codes ";")) ∷ []); comments = [] }) ∷ ((codes "b/x/x.go"), record { text = (codes "package x\n\nfunc G() int {\n\treturn 2\n}\n"); tokens = ((tok Keyword 0 7 (codes "package")) ∷ (tok Ident 8 9 (codes "x")) ∷ (tok Inserted 9 9 (codes ";")) ∷ (tok Keyword 11 15 (codes "func")) ∷ (tok Ident 16 17 (codes "G")) ∷ (tok Operator 17 18 (codes "(")) ∷ (tok Operator 18 19 (codes ")")) ∷ (tok Ident 20 23 (codes "int")) ∷ (tok Operator 24 25 (codes "{")) ∷ (tok Keyword 27 33 (codes "return")) ∷ (tok Integer 34 35 (codes "2")) ∷ (tok Inserted 35 35 (codes ";")) ∷ (tok Operator 36 37 (codes "}")) ∷ (tok Inserted 37 37 (codes ";")) ∷ []); comments = [] }) ∷ ((codes "main.go"), record { text = (codes "package main\n\nimport \"example.com/m/old\"\n\nfunc main() {\n\tprintln(old.Both())\n}\n"); tokens = ((tok Keyword 0 7 (codes "package")) ∷ (tok Ident 8 12 (codes "main")) ∷ (tok Inserted 12 12 (codes ";")) ∷ (tok Keyword 14 20 (codes "import")) ∷ (tok Str 21 40 (codes "\"example.com/m/old\"")) ∷ (tok Inserted 40 40 (codes ";")) ∷ (tok Keyword 42 46 (codes "func")) ∷ (tok Ident 47 51 (codes "main")) ∷ (tok Operator 51 52 (codes "(")) ∷ (tok Operator 52 53 (codes ")")) ∷ (tok Operator 54 55 (codes "{")) ∷ (tok Ident 57 64 (codes "println")) ∷ (tok Operator 64 65 (codes "(")) ∷ (tok Ident 65 68 (codes "old")) ∷ (tok Operator 68 69 (codes ".")) ∷ (tok Ident 69 73 (codes "Both")) ∷ (tok Operator 73 74 (codes "(")) ∷ (tok Operator 74 75 (codes ")")) ∷ (tok Operator 75 76 (codes ")")) ∷ (tok Inserted 76 76 (codes ";")) ∷ (tok Operator 77 78 (codes "}")) ∷ (tok Inserted 78 78 (codes ";")) ∷ []); comments = [] }) ∷ ((codes "old/old.go"), record { text = (codes "package old\n\nimport (\n\tax \"example.com/m/a/x\"\n\tbx \"example.com/m/b/x\"\n)\n\n//go:fix inline\nfunc Both() int {\n\treturn ax.F() + bx.G()\n}\n"); tokens = ((tok Keyword 0 7 (codes "package")) ∷ (tok Ident 8 11 (codes "old")) ∷ (tok Inserted 11 11 (codes ";")) ∷ (tok Keyword 13 19 (codes "import")) ∷ (tok Operator 20 21 (codes "(")) ∷ (tok Ident 23 25 (codes "ax")) ∷ (tok Str 26 45 (codes "\"example.com/m/a/x\"")) ∷ (tok Inserted 45 45 (codes ";")) ∷ (tok Ident 47 49 (codes "bx")) ∷ (tok Str 50 69 (codes "\"example.com/m/b/x\"")) ∷ (tok Inserted 69 69 (codes ";")) ∷ (tok Operator 70 71 (codes ")")) ∷ (tok Inserted 71 71 (codes ";")) ∷ (tok Keyword 89 93 (codes "func")) ∷ (tok Ident 94 98 (codes "Both")) ∷ (tok Operator 98 99 (codes "(")) ∷ (tok Operator 99 100 (codes ")")) ∷ (tok Ident 101 104 (codes "int")) ∷ (tok Operator 105 106 (codes "{")) ∷ (tok Keyword 108 114 (codes "return")) ∷ (tok Ident 115 117 (codes "ax")) ∷ (tok Operator 117 118 (codes ".")) ∷ (tok Ident 118 119 (codes "F")) ∷ (tok Operator 119 120 (codes "(")) ∷ (tok Operator 120 121 (codes ")")) ∷ (tok Operator 122 123 (codes "+")) ∷ (tok Ident 124 126 (codes "bx")) ∷ (tok Operator 126 127 (codes ".")) ∷ (tok Ident 127 128 (codes "G")) ∷ (tok Operator 128 129 (codes "(")) ∷ (tok Operator 129 130 (codes ")")) ∷ (tok Inserted 130 130 (codes ";")) ∷ (tok Operator 131 132 (codes "}")) ∷ (tok Inserted 132 132 (codes ";")) ∷ []); comments = ((note 73 88) ∷ []) }) ∷ []) }

two_new_imports_0_typed : is_typed two_new_imports_0 ≡ true
two_new_imports_0_typed = refl

two_new_imports_0_step : first_change two_new_imports_0 ≡ Some ((codes "main.go"), ExprForm, (codes "package main\n\nimport \"example.com/m/a/x\"\nimport x0 \"example.com/m/b/x\"\n\nfunc main() {\n\tprintln(x.F() + x0.G())\n}\n"))
unfolding passes keyword_spellings digits
two_new_imports_0_step = refl

abbrev two_new_imports_1_f0 : File Span
two_new_imports_1_f0 = record { package_name = (nm 8 9 (codes "x")); imports = []; decls = ((fn (at 11 37) None (nm 16 17 (codes "F")) (sig [] ((param (at 20 23) None (named (at 20 23) None (nm 20 23 (codes "int")))) ∷ [])) (at 24 37) (stmt_and (return_ (at 27 35) (expr_and (int_lit (at 34 35) (codes "1")) no_exprs)) no_stmts)) ∷ []) }

abbrev two_new_imports_1_f1 : File Span
two_new_imports_1_f1 = record { package_name = (nm 8 9 (codes "x")); imports = []; decls = ((fn (at 11 37) None (nm 16 17 (codes "G")) (sig [] ((param (at 20 23) None (named (at 20 23) None (nm 20 23 (codes "int")))) ∷ [])) (at 24 37) (stmt_and (return_ (at 27 35) (expr_and (int_lit (at 34 35) (codes "2")) no_exprs)) no_stmts)) ∷ []) }

abbrev two_new_imports_1_f2 : File Span
two_new_imports_1_f2 = record { package_name = (nm 8 12 (codes "main")); imports = ((imps (at 14 40) false ((imp (at 21 40) None (codes "example.com/m/a/x")) ∷ [])) ∷ (imps (at 41 70) false ((imp (at 48 70) (Some (nm 48 50 (codes "x0"))) (codes "example.com/m/b/x")) ∷ [])) ∷ []); decls = ((fn (at 72 112) None (nm 77 81 (codes "main")) (sig [] []) (at 84 112) (stmt_and (eval (at 87 110) (call (at 87 110) (ident (at 87 94) (codes "println")) (expr_and (binary (at 95 109) Add (call (at 95 100) (selector (at 95 98) (ident (at 95 96) (codes "x")) (nm 97 98 (codes "F"))) no_exprs Plain) (call (at 103 109) (selector (at 103 107) (ident (at 103 105) (codes "x0")) (nm 106 107 (codes "G"))) no_exprs Plain)) no_exprs) Plain)) no_stmts)) ∷ []) }

abbrev two_new_imports_1_f3 : File Span
two_new_imports_1_f3 = record { package_name = (nm 8 11 (codes "old")); imports = ((imps (at 13 71) true ((imp (at 23 45) (Some (nm 23 25 (codes "ax"))) (codes "example.com/m/a/x")) ∷ (imp (at 47 69) (Some (nm 47 49 (codes "bx"))) (codes "example.com/m/b/x")) ∷ [])) ∷ []); decls = ((fn (at 89 132) None (nm 94 98 (codes "Both")) (sig [] ((param (at 101 104) None (named (at 101 104) None (nm 101 104 (codes "int")))) ∷ [])) (at 105 132) (stmt_and (return_ (at 108 130) (expr_and (binary (at 115 130) Add (call (at 115 121) (selector (at 115 119) (ident (at 115 117) (codes "ax")) (nm 118 119 (codes "F"))) no_exprs Plain) (call (at 124 130) (selector (at 124 128) (ident (at 124 126) (codes "bx")) (nm 127 128 (codes "G"))) no_exprs Plain)) no_exprs)) no_stmts)) ∷ []) }

two_new_imports_1_f2_read : read_at span_to read_front (lexemes ((tok Keyword 0 7 (codes "package")) ∷ (tok Ident 8 12 (codes "main")) ∷ (tok Inserted 12 12 (codes ";")) ∷ (tok Keyword 14 20 (codes "import")) ∷ (tok Str 21 40 (codes "\"example.com/m/a/x\"")) ∷ (tok Inserted 40 40 (codes ";")) ∷ (tok Keyword 41 47 (codes "import")) ∷ (tok Ident 48 50 (codes "x0")) ∷ (tok Str 51 70 (codes "\"example.com/m/b/x\"")) ∷ (tok Inserted 70 70 (codes ";")) ∷ (tok Keyword 72 76 (codes "func")) ∷ (tok Ident 77 81 (codes "main")) ∷ (tok Operator 81 82 (codes "(")) ∷ (tok Operator 82 83 (codes ")")) ∷ (tok Operator 84 85 (codes "{")) ∷ (tok Ident 87 94 (codes "println")) ∷ (tok Operator 94 95 (codes "(")) ∷ (tok Ident 95 96 (codes "x")) ∷ (tok Operator 96 97 (codes ".")) ∷ (tok Ident 97 98 (codes "F")) ∷ (tok Operator 98 99 (codes "(")) ∷ (tok Operator 99 100 (codes ")")) ∷ (tok Operator 101 102 (codes "+")) ∷ (tok Ident 103 105 (codes "x0")) ∷ (tok Operator 105 106 (codes ".")) ∷ (tok Ident 106 107 (codes "G")) ∷ (tok Operator 107 108 (codes "(")) ∷ (tok Operator 108 109 (codes ")")) ∷ (tok Operator 109 110 (codes ")")) ∷ (tok Inserted 110 110 (codes ";")) ∷ (tok Operator 111 112 (codes "}")) ∷ (tok Inserted 112 112 (codes ";")) ∷ [])) ≡ Some (two_new_imports_1_f2, [])
unfolding reading
two_new_imports_1_f2_read = refl

abbrev two_new_imports_1 : Module
two_new_imports_1 = record { packages = (pack (codes "example.com/m/a/x") (codes "x") (source (codes "a/x/x.go") two_new_imports_1_f0 ∷ []) ∷ pack (codes "example.com/m/b/x") (codes "x") (source (codes "b/x/x.go") two_new_imports_1_f1 ∷ []) ∷ pack (codes "example.com/m") (codes "main") (source (codes "main.go") two_new_imports_1_f2 ∷ []) ∷ pack (codes "example.com/m/old") (codes "old") (source (codes "old/old.go") two_new_imports_1_f3 ∷ []) ∷ []); marks = (mark 3 0 0 0 ∷ []); texts = (((codes "a/x/x.go"), record { text = (codes "package x\n\nfunc F() int {\n\treturn 1\n}\n"); tokens = ((tok Keyword 0 7 (codes "package")) ∷ (tok Ident 8 9 (codes "x")) ∷ (tok Inserted 9 9 (codes ";")) ∷ (tok Keyword 11 15 (codes "func")) ∷ (tok Ident 16 17 (codes "F")) ∷ (tok Operator 17 18 (codes "(")) ∷ (tok Operator 18 19 (codes ")")) ∷ (tok Ident 20 23 (codes "int")) ∷ (tok Operator 24 25 (codes "{")) ∷ (tok Keyword 27 33 (codes "return")) ∷ (tok Integer 34 35 (codes "1")) ∷ (tok Inserted 35 35 (codes ";")) ∷ (tok Operator 36 37 (codes "}")) ∷ (tok Inserted 37 37 (codes ";")) ∷ []); comments = [] }) ∷ ((codes "b/x/x.go"), record { text = (codes "package x\n\nfunc G() int {\n\treturn 2\n}\n"); tokens = ((tok Keyword 0 7 (codes "package")) ∷ (tok Ident 8 9 (codes "x")) ∷ (tok Inserted 9 9 (codes ";")) ∷ (tok Keyword 11 15 (codes "func")) ∷ (tok Ident 16 17 (codes "G")) ∷ (tok Operator 17 18 (codes "(")) ∷ (tok Operator 18 19 (codes ")")) ∷ (tok Ident 20 23 (codes "int")) ∷ (tok Operator 24 25 (codes "{")) ∷ (tok Keyword 27 33 (codes "return")) ∷ (tok Integer 34 35 (codes "2")) ∷ (tok Inserted 35 35 (codes ";")) ∷ (tok Operator 36 37 (codes "}")) ∷ (tok Inserted 37 37 (codes ";")) ∷ []); comments = [] }) ∷ ((codes "main.go"), record { text = (codes "package main\n\nimport \"example.com/m/a/x\"\nimport x0 \"example.com/m/b/x\"\n\nfunc main() {\n\tprintln(x.F() + x0.G())\n}\n"); tokens = ((tok Keyword 0 7 (codes "package")) ∷ (tok Ident 8 12 (codes "main")) ∷ (tok Inserted 12 12 (codes ";")) ∷ (tok Keyword 14 20 (codes "import")) ∷ (tok Str 21 40 (codes "\"example.com/m/a/x\"")) ∷ (tok Inserted 40 40 (codes ";")) ∷ (tok Keyword 41 47 (codes "import")) ∷ (tok Ident 48 50 (codes "x0")) ∷ (tok Str 51 70 (codes "\"example.com/m/b/x\"")) ∷ (tok Inserted 70 70 (codes ";")) ∷ (tok Keyword 72 76 (codes "func")) ∷ (tok Ident 77 81 (codes "main")) ∷ (tok Operator 81 82 (codes "(")) ∷ (tok Operator 82 83 (codes ")")) ∷ (tok Operator 84 85 (codes "{")) ∷ (tok Ident 87 94 (codes "println")) ∷ (tok Operator 94 95 (codes "(")) ∷ (tok Ident 95 96 (codes "x")) ∷ (tok Operator 96 97 (codes ".")) ∷ (tok Ident 97 98 (codes "F")) ∷ (tok Operator 98 99 (codes "(")) ∷ (tok Operator 99 100 (codes ")")) ∷ (tok Operator 101 102 (codes "+")) ∷ (tok Ident 103 105 (codes "x0")) ∷ (tok Operator 105 106 (codes ".")) ∷ (tok Ident 106 107 (codes "G")) ∷ (tok Operator 107 108 (codes "(")) ∷ (tok Operator 108 109 (codes ")")) ∷ (tok Operator 109 110 (codes ")")) ∷ (tok Inserted 110 110 (codes ";")) ∷ (tok Operator 111 112 (codes "}")) ∷ (tok Inserted 112 112 (codes ";")) ∷ []); comments = [] }) ∷ ((codes "old/old.go"), record { text = (codes "package old\n\nimport (\n\tax \"example.com/m/a/x\"\n\tbx \"example.com/m/b/x\"\n)\n\n//go:fix inline\nfunc Both() int {\n\treturn ax.F() + bx.G()\n}\n"); tokens = ((tok Keyword 0 7 (codes "package")) ∷ (tok Ident 8 11 (codes "old")) ∷ (tok Inserted 11 11 (codes ";")) ∷ (tok Keyword 13 19 (codes "import")) ∷ (tok Operator 20 21 (codes "(")) ∷ (tok Ident 23 25 (codes "ax")) ∷ (tok Str 26 45 (codes "\"example.com/m/a/x\"")) ∷ (tok Inserted 45 45 (codes ";")) ∷ (tok Ident 47 49 (codes "bx")) ∷ (tok Str 50 69 (codes "\"example.com/m/b/x\"")) ∷ (tok Inserted 69 69 (codes ";")) ∷ (tok Operator 70 71 (codes ")")) ∷ (tok Inserted 71 71 (codes ";")) ∷ (tok Keyword 89 93 (codes "func")) ∷ (tok Ident 94 98 (codes "Both")) ∷ (tok Operator 98 99 (codes "(")) ∷ (tok Operator 99 100 (codes ")")) ∷ (tok Ident 101 104 (codes "int")) ∷ (tok Operator 105 106 (codes "{")) ∷ (tok Keyword 108 114 (codes "return")) ∷ (tok Ident 115 117 (codes "ax")) ∷ (tok Operator 117 118 (codes ".")) ∷ (tok Ident 118 119 (codes "F")) ∷ (tok Operator 119 120 (codes "(")) ∷ (tok Operator 120 121 (codes ")")) ∷ (tok Operator 122 123 (codes "+")) ∷ (tok Ident 124 126 (codes "bx")) ∷ (tok Operator 126 127 (codes ".")) ∷ (tok Ident 127 128 (codes "G")) ∷ (tok Operator 128 129 (codes "(")) ∷ (tok Operator 129 130 (codes ")")) ∷ (tok Inserted 130 130 (codes ";")) ∷ (tok Operator 131 132 (codes "}")) ∷ (tok Inserted 132 132 (codes ";")) ∷ []); comments = ((note 73 88) ∷ []) }) ∷ []) }

two_new_imports_1_typed : is_typed two_new_imports_1 ≡ true
two_new_imports_1_typed = refl

two_new_imports_1_ends : step_of two_new_imports_1 ≡ None
unfolding passes keyword_spellings digits
two_new_imports_1_ends = refl

two_new_imports_1_kept : kept_uses two_new_imports_1 ≡ []
unfolding passes keyword_spellings digits
two_new_imports_1_kept = refl

-- An import that is there serves.
abbrev import_that_serves_0_f0 : File Span
import_that_serves_0_f0 = record { package_name = (nm 8 12 (codes "main")); imports = ((imps (at 14 72) true ((imp (at 24 49) (Some (nm 24 29 (codes "power"))) (codes "example.com/m/pow")) ∷ (imp (at 51 70) None (codes "example.com/m/old")) ∷ [])) ∷ []); decls = ((fn (at 74 130) None (nm 79 83 (codes "main")) (sig [] []) (at 86 130) (stmt_and (eval (at 89 128) (call (at 89 128) (ident (at 89 96) (codes "println")) (expr_and (call (at 97 110) (selector (at 97 107) (ident (at 97 100) (codes "old")) (nm 101 107 (codes "Square"))) (expr_and (int_lit (at 108 109) (codes "3")) no_exprs) Plain) (expr_and (call (at 112 127) (selector (at 112 121) (ident (at 112 117) (codes "power")) (nm 118 121 (codes "Pow"))) (expr_and (int_lit (at 122 123) (codes "1")) (expr_and (int_lit (at 125 126) (codes "2")) no_exprs)) Plain) no_exprs)) Plain)) no_stmts)) ∷ []) }

abbrev import_that_serves_0_f1 : File Span
import_that_serves_0_f1 = record { package_name = (nm 8 11 (codes "old")); imports = ((imps (at 13 39) false ((imp (at 20 39) None (codes "example.com/m/pow")) ∷ [])) ∷ []); decls = ((fn (at 57 105) None (nm 62 68 (codes "Square")) (sig ((param (at 69 74) (Some (nm 69 70 (codes "x"))) (named (at 71 74) None (nm 71 74 (codes "int")))) ∷ []) ((param (at 76 79) None (named (at 76 79) None (nm 76 79 (codes "int")))) ∷ [])) (at 80 105) (stmt_and (return_ (at 83 103) (expr_and (call (at 90 103) (selector (at 90 97) (ident (at 90 93) (codes "pow")) (nm 94 97 (codes "Pow"))) (expr_and (ident (at 98 99) (codes "x")) (expr_and (int_lit (at 101 102) (codes "2")) no_exprs)) Plain) no_exprs)) no_stmts)) ∷ []) }

abbrev import_that_serves_0_f2 : File Span
import_that_serves_0_f2 = record { package_name = (nm 8 11 (codes "pow")); imports = []; decls = ((fn (at 13 53) None (nm 18 21 (codes "Pow")) (sig ((param (at 22 30) (Some (nm 22 23 (codes "x"))) (named (at 27 30) None (nm 27 30 (codes "int")))) ∷ (param (at 25 30) (Some (nm 25 26 (codes "n"))) (named (at 27 30) None (nm 27 30 (codes "int")))) ∷ []) ((param (at 32 35) None (named (at 32 35) None (nm 32 35 (codes "int")))) ∷ [])) (at 36 53) (stmt_and (return_ (at 39 51) (expr_and (binary (at 46 51) Mul (ident (at 46 47) (codes "x")) (ident (at 50 51) (codes "n"))) no_exprs)) no_stmts)) ∷ []) }

import_that_serves_0_f0_read : read_at span_to read_front (lexemes ((tok Keyword 0 7 (codes "package")) ∷ (tok Ident 8 12 (codes "main")) ∷ (tok Inserted 12 12 (codes ";")) ∷ (tok Keyword 14 20 (codes "import")) ∷ (tok Operator 21 22 (codes "(")) ∷ (tok Ident 24 29 (codes "power")) ∷ (tok Str 30 49 (codes "\"example.com/m/pow\"")) ∷ (tok Inserted 49 49 (codes ";")) ∷ (tok Str 51 70 (codes "\"example.com/m/old\"")) ∷ (tok Inserted 70 70 (codes ";")) ∷ (tok Operator 71 72 (codes ")")) ∷ (tok Inserted 72 72 (codes ";")) ∷ (tok Keyword 74 78 (codes "func")) ∷ (tok Ident 79 83 (codes "main")) ∷ (tok Operator 83 84 (codes "(")) ∷ (tok Operator 84 85 (codes ")")) ∷ (tok Operator 86 87 (codes "{")) ∷ (tok Ident 89 96 (codes "println")) ∷ (tok Operator 96 97 (codes "(")) ∷ (tok Ident 97 100 (codes "old")) ∷ (tok Operator 100 101 (codes ".")) ∷ (tok Ident 101 107 (codes "Square")) ∷ (tok Operator 107 108 (codes "(")) ∷ (tok Integer 108 109 (codes "3")) ∷ (tok Operator 109 110 (codes ")")) ∷ (tok Operator 110 111 (codes ",")) ∷ (tok Ident 112 117 (codes "power")) ∷ (tok Operator 117 118 (codes ".")) ∷ (tok Ident 118 121 (codes "Pow")) ∷ (tok Operator 121 122 (codes "(")) ∷ (tok Integer 122 123 (codes "1")) ∷ (tok Operator 123 124 (codes ",")) ∷ (tok Integer 125 126 (codes "2")) ∷ (tok Operator 126 127 (codes ")")) ∷ (tok Operator 127 128 (codes ")")) ∷ (tok Inserted 128 128 (codes ";")) ∷ (tok Operator 129 130 (codes "}")) ∷ (tok Inserted 130 130 (codes ";")) ∷ [])) ≡ Some (import_that_serves_0_f0, [])
unfolding reading
import_that_serves_0_f0_read = refl

abbrev import_that_serves_0 : Module
import_that_serves_0 = record { packages = (pack (codes "example.com/m") (codes "main") (source (codes "main.go") import_that_serves_0_f0 ∷ []) ∷ pack (codes "example.com/m/old") (codes "old") (source (codes "old/old.go") import_that_serves_0_f1 ∷ []) ∷ pack (codes "example.com/m/pow") (codes "pow") (source (codes "pow/pow.go") import_that_serves_0_f2 ∷ []) ∷ []); marks = (mark 1 0 0 0 ∷ []); texts = (((codes "main.go"), record { text = (codes "package main\n\nimport (\n\tpower \"example.com/m/pow\"\n\t\"example.com/m/old\"\n)\n\nfunc main() {\n\tprintln(old.Square(3), power.Pow(1, 2))\n}\n"); tokens = ((tok Keyword 0 7 (codes "package")) ∷ (tok Ident 8 12 (codes "main")) ∷ (tok Inserted 12 12 (codes ";")) ∷ (tok Keyword 14 20 (codes "import")) ∷ (tok Operator 21 22 (codes "(")) ∷ (tok Ident 24 29 (codes "power")) ∷ (tok Str 30 49 (codes "\"example.com/m/pow\"")) ∷ (tok Inserted 49 49 (codes ";")) ∷ (tok Str 51 70 (codes "\"example.com/m/old\"")) ∷ (tok Inserted 70 70 (codes ";")) ∷ (tok Operator 71 72 (codes ")")) ∷ (tok Inserted 72 72 (codes ";")) ∷ (tok Keyword 74 78 (codes "func")) ∷ (tok Ident 79 83 (codes "main")) ∷ (tok Operator 83 84 (codes "(")) ∷ (tok Operator 84 85 (codes ")")) ∷ (tok Operator 86 87 (codes "{")) ∷ (tok Ident 89 96 (codes "println")) ∷ (tok Operator 96 97 (codes "(")) ∷ (tok Ident 97 100 (codes "old")) ∷ (tok Operator 100 101 (codes ".")) ∷ (tok Ident 101 107 (codes "Square")) ∷ (tok Operator 107 108 (codes "(")) ∷ (tok Integer 108 109 (codes "3")) ∷ (tok Operator 109 110 (codes ")")) ∷ (tok Operator 110 111 (codes ",")) ∷ (tok Ident 112 117 (codes "power")) ∷ (tok Operator 117 118 (codes ".")) ∷ (tok Ident 118 121 (codes "Pow")) ∷ (tok Operator 121 122 (codes "(")) ∷ (tok Integer 122 123 (codes "1")) ∷ (tok Operator 123 124 (codes ",")) ∷ (tok Integer 125 126 (codes "2")) ∷ (tok Operator 126 127 (codes ")")) ∷ (tok Operator 127 128 (codes ")")) ∷ (tok Inserted 128 128 (codes ";")) ∷ (tok Operator 129 130 (codes "}")) ∷ (tok Inserted 130 130 (codes ";")) ∷ []); comments = [] }) ∷ ((codes "old/old.go"), record { text = (codes "package old\n\nimport \"example.com/m/pow\"\n\n//go:fix inline\nfunc Square(x int) int {\n\treturn pow.Pow(x, 2)\n}\n"); tokens = ((tok Keyword 0 7 (codes "package")) ∷ (tok Ident 8 11 (codes "old")) ∷ (tok Inserted 11 11 (codes ";")) ∷ (tok Keyword 13 19 (codes "import")) ∷ (tok Str 20 39 (codes "\"example.com/m/pow\"")) ∷ (tok Inserted 39 39 (codes ";")) ∷ (tok Keyword 57 61 (codes "func")) ∷ (tok Ident 62 68 (codes "Square")) ∷ (tok Operator 68 69 (codes "(")) ∷ (tok Ident 69 70 (codes "x")) ∷ (tok Ident 71 74 (codes "int")) ∷ (tok Operator 74 75 (codes ")")) ∷ (tok Ident 76 79 (codes "int")) ∷ (tok Operator 80 81 (codes "{")) ∷ (tok Keyword 83 89 (codes "return")) ∷ (tok Ident 90 93 (codes "pow")) ∷ (tok Operator 93 94 (codes ".")) ∷ (tok Ident 94 97 (codes "Pow")) ∷ (tok Operator 97 98 (codes "(")) ∷ (tok Ident 98 99 (codes "x")) ∷ (tok Operator 99 100 (codes ",")) ∷ (tok Integer 101 102 (codes "2")) ∷ (tok Operator 102 103 (codes ")")) ∷ (tok Inserted 103 103 (codes ";")) ∷ (tok Operator 104 105 (codes "}")) ∷ (tok Inserted 105 105 (codes ";")) ∷ []); comments = ((note 41 56) ∷ []) }) ∷ ((codes "pow/pow.go"), record { text = (codes "package pow\n\nfunc Pow(x, n int) int {\n\treturn x * n\n}\n"); tokens = ((tok Keyword 0 7 (codes "package")) ∷ (tok Ident 8 11 (codes "pow")) ∷ (tok Inserted 11 11 (codes ";")) ∷ (tok Keyword 13 17 (codes "func")) ∷ (tok Ident 18 21 (codes "Pow")) ∷ (tok Operator 21 22 (codes "(")) ∷ (tok Ident 22 23 (codes "x")) ∷ (tok Operator 23 24 (codes ",")) ∷ (tok Ident 25 26 (codes "n")) ∷ (tok Ident 27 30 (codes "int")) ∷ (tok Operator 30 31 (codes ")")) ∷ (tok Ident 32 35 (codes "int")) ∷ (tok Operator 36 37 (codes "{")) ∷ (tok Keyword 39 45 (codes "return")) ∷ (tok Ident 46 47 (codes "x")) ∷ (tok Operator 48 49 (codes "*")) ∷ (tok Ident 50 51 (codes "n")) ∷ (tok Inserted 51 51 (codes ";")) ∷ (tok Operator 52 53 (codes "}")) ∷ (tok Inserted 53 53 (codes ";")) ∷ []); comments = [] }) ∷ []) }

import_that_serves_0_typed : is_typed import_that_serves_0 ≡ true
import_that_serves_0_typed = refl

import_that_serves_0_step : first_change import_that_serves_0 ≡ Some ((codes "main.go"), ExprForm, (codes "package main\n\nimport (\n\tpower \"example.com/m/pow\"\n)\n\nfunc main() {\n\tprintln(power.Pow(3, 2), power.Pow(1, 2))\n}\n"))
unfolding passes keyword_spellings digits
import_that_serves_0_step = refl

abbrev import_that_serves_1_f0 : File Span
import_that_serves_1_f0 = record { package_name = (nm 8 12 (codes "main")); imports = ((imps (at 14 51) true ((imp (at 24 49) (Some (nm 24 29 (codes "power"))) (codes "example.com/m/pow")) ∷ [])) ∷ []); decls = ((fn (at 53 111) None (nm 58 62 (codes "main")) (sig [] []) (at 65 111) (stmt_and (eval (at 68 109) (call (at 68 109) (ident (at 68 75) (codes "println")) (expr_and (call (at 76 91) (selector (at 76 85) (ident (at 76 81) (codes "power")) (nm 82 85 (codes "Pow"))) (expr_and (int_lit (at 86 87) (codes "3")) (expr_and (int_lit (at 89 90) (codes "2")) no_exprs)) Plain) (expr_and (call (at 93 108) (selector (at 93 102) (ident (at 93 98) (codes "power")) (nm 99 102 (codes "Pow"))) (expr_and (int_lit (at 103 104) (codes "1")) (expr_and (int_lit (at 106 107) (codes "2")) no_exprs)) Plain) no_exprs)) Plain)) no_stmts)) ∷ []) }

abbrev import_that_serves_1_f1 : File Span
import_that_serves_1_f1 = record { package_name = (nm 8 11 (codes "old")); imports = ((imps (at 13 39) false ((imp (at 20 39) None (codes "example.com/m/pow")) ∷ [])) ∷ []); decls = ((fn (at 57 105) None (nm 62 68 (codes "Square")) (sig ((param (at 69 74) (Some (nm 69 70 (codes "x"))) (named (at 71 74) None (nm 71 74 (codes "int")))) ∷ []) ((param (at 76 79) None (named (at 76 79) None (nm 76 79 (codes "int")))) ∷ [])) (at 80 105) (stmt_and (return_ (at 83 103) (expr_and (call (at 90 103) (selector (at 90 97) (ident (at 90 93) (codes "pow")) (nm 94 97 (codes "Pow"))) (expr_and (ident (at 98 99) (codes "x")) (expr_and (int_lit (at 101 102) (codes "2")) no_exprs)) Plain) no_exprs)) no_stmts)) ∷ []) }

abbrev import_that_serves_1_f2 : File Span
import_that_serves_1_f2 = record { package_name = (nm 8 11 (codes "pow")); imports = []; decls = ((fn (at 13 53) None (nm 18 21 (codes "Pow")) (sig ((param (at 22 30) (Some (nm 22 23 (codes "x"))) (named (at 27 30) None (nm 27 30 (codes "int")))) ∷ (param (at 25 30) (Some (nm 25 26 (codes "n"))) (named (at 27 30) None (nm 27 30 (codes "int")))) ∷ []) ((param (at 32 35) None (named (at 32 35) None (nm 32 35 (codes "int")))) ∷ [])) (at 36 53) (stmt_and (return_ (at 39 51) (expr_and (binary (at 46 51) Mul (ident (at 46 47) (codes "x")) (ident (at 50 51) (codes "n"))) no_exprs)) no_stmts)) ∷ []) }

import_that_serves_1_f0_read : read_at span_to read_front (lexemes ((tok Keyword 0 7 (codes "package")) ∷ (tok Ident 8 12 (codes "main")) ∷ (tok Inserted 12 12 (codes ";")) ∷ (tok Keyword 14 20 (codes "import")) ∷ (tok Operator 21 22 (codes "(")) ∷ (tok Ident 24 29 (codes "power")) ∷ (tok Str 30 49 (codes "\"example.com/m/pow\"")) ∷ (tok Inserted 49 49 (codes ";")) ∷ (tok Operator 50 51 (codes ")")) ∷ (tok Inserted 51 51 (codes ";")) ∷ (tok Keyword 53 57 (codes "func")) ∷ (tok Ident 58 62 (codes "main")) ∷ (tok Operator 62 63 (codes "(")) ∷ (tok Operator 63 64 (codes ")")) ∷ (tok Operator 65 66 (codes "{")) ∷ (tok Ident 68 75 (codes "println")) ∷ (tok Operator 75 76 (codes "(")) ∷ (tok Ident 76 81 (codes "power")) ∷ (tok Operator 81 82 (codes ".")) ∷ (tok Ident 82 85 (codes "Pow")) ∷ (tok Operator 85 86 (codes "(")) ∷ (tok Integer 86 87 (codes "3")) ∷ (tok Operator 87 88 (codes ",")) ∷ (tok Integer 89 90 (codes "2")) ∷ (tok Operator 90 91 (codes ")")) ∷ (tok Operator 91 92 (codes ",")) ∷ (tok Ident 93 98 (codes "power")) ∷ (tok Operator 98 99 (codes ".")) ∷ (tok Ident 99 102 (codes "Pow")) ∷ (tok Operator 102 103 (codes "(")) ∷ (tok Integer 103 104 (codes "1")) ∷ (tok Operator 104 105 (codes ",")) ∷ (tok Integer 106 107 (codes "2")) ∷ (tok Operator 107 108 (codes ")")) ∷ (tok Operator 108 109 (codes ")")) ∷ (tok Inserted 109 109 (codes ";")) ∷ (tok Operator 110 111 (codes "}")) ∷ (tok Inserted 111 111 (codes ";")) ∷ [])) ≡ Some (import_that_serves_1_f0, [])
unfolding reading
import_that_serves_1_f0_read = refl

abbrev import_that_serves_1 : Module
import_that_serves_1 = record { packages = (pack (codes "example.com/m") (codes "main") (source (codes "main.go") import_that_serves_1_f0 ∷ []) ∷ pack (codes "example.com/m/old") (codes "old") (source (codes "old/old.go") import_that_serves_1_f1 ∷ []) ∷ pack (codes "example.com/m/pow") (codes "pow") (source (codes "pow/pow.go") import_that_serves_1_f2 ∷ []) ∷ []); marks = (mark 1 0 0 0 ∷ []); texts = (((codes "main.go"), record { text = (codes "package main\n\nimport (\n\tpower \"example.com/m/pow\"\n)\n\nfunc main() {\n\tprintln(power.Pow(3, 2), power.Pow(1, 2))\n}\n"); tokens = ((tok Keyword 0 7 (codes "package")) ∷ (tok Ident 8 12 (codes "main")) ∷ (tok Inserted 12 12 (codes ";")) ∷ (tok Keyword 14 20 (codes "import")) ∷ (tok Operator 21 22 (codes "(")) ∷ (tok Ident 24 29 (codes "power")) ∷ (tok Str 30 49 (codes "\"example.com/m/pow\"")) ∷ (tok Inserted 49 49 (codes ";")) ∷ (tok Operator 50 51 (codes ")")) ∷ (tok Inserted 51 51 (codes ";")) ∷ (tok Keyword 53 57 (codes "func")) ∷ (tok Ident 58 62 (codes "main")) ∷ (tok Operator 62 63 (codes "(")) ∷ (tok Operator 63 64 (codes ")")) ∷ (tok Operator 65 66 (codes "{")) ∷ (tok Ident 68 75 (codes "println")) ∷ (tok Operator 75 76 (codes "(")) ∷ (tok Ident 76 81 (codes "power")) ∷ (tok Operator 81 82 (codes ".")) ∷ (tok Ident 82 85 (codes "Pow")) ∷ (tok Operator 85 86 (codes "(")) ∷ (tok Integer 86 87 (codes "3")) ∷ (tok Operator 87 88 (codes ",")) ∷ (tok Integer 89 90 (codes "2")) ∷ (tok Operator 90 91 (codes ")")) ∷ (tok Operator 91 92 (codes ",")) ∷ (tok Ident 93 98 (codes "power")) ∷ (tok Operator 98 99 (codes ".")) ∷ (tok Ident 99 102 (codes "Pow")) ∷ (tok Operator 102 103 (codes "(")) ∷ (tok Integer 103 104 (codes "1")) ∷ (tok Operator 104 105 (codes ",")) ∷ (tok Integer 106 107 (codes "2")) ∷ (tok Operator 107 108 (codes ")")) ∷ (tok Operator 108 109 (codes ")")) ∷ (tok Inserted 109 109 (codes ";")) ∷ (tok Operator 110 111 (codes "}")) ∷ (tok Inserted 111 111 (codes ";")) ∷ []); comments = [] }) ∷ ((codes "old/old.go"), record { text = (codes "package old\n\nimport \"example.com/m/pow\"\n\n//go:fix inline\nfunc Square(x int) int {\n\treturn pow.Pow(x, 2)\n}\n"); tokens = ((tok Keyword 0 7 (codes "package")) ∷ (tok Ident 8 11 (codes "old")) ∷ (tok Inserted 11 11 (codes ";")) ∷ (tok Keyword 13 19 (codes "import")) ∷ (tok Str 20 39 (codes "\"example.com/m/pow\"")) ∷ (tok Inserted 39 39 (codes ";")) ∷ (tok Keyword 57 61 (codes "func")) ∷ (tok Ident 62 68 (codes "Square")) ∷ (tok Operator 68 69 (codes "(")) ∷ (tok Ident 69 70 (codes "x")) ∷ (tok Ident 71 74 (codes "int")) ∷ (tok Operator 74 75 (codes ")")) ∷ (tok Ident 76 79 (codes "int")) ∷ (tok Operator 80 81 (codes "{")) ∷ (tok Keyword 83 89 (codes "return")) ∷ (tok Ident 90 93 (codes "pow")) ∷ (tok Operator 93 94 (codes ".")) ∷ (tok Ident 94 97 (codes "Pow")) ∷ (tok Operator 97 98 (codes "(")) ∷ (tok Ident 98 99 (codes "x")) ∷ (tok Operator 99 100 (codes ",")) ∷ (tok Integer 101 102 (codes "2")) ∷ (tok Operator 102 103 (codes ")")) ∷ (tok Inserted 103 103 (codes ";")) ∷ (tok Operator 104 105 (codes "}")) ∷ (tok Inserted 105 105 (codes ";")) ∷ []); comments = ((note 41 56) ∷ []) }) ∷ ((codes "pow/pow.go"), record { text = (codes "package pow\n\nfunc Pow(x, n int) int {\n\treturn x * n\n}\n"); tokens = ((tok Keyword 0 7 (codes "package")) ∷ (tok Ident 8 11 (codes "pow")) ∷ (tok Inserted 11 11 (codes ";")) ∷ (tok Keyword 13 17 (codes "func")) ∷ (tok Ident 18 21 (codes "Pow")) ∷ (tok Operator 21 22 (codes "(")) ∷ (tok Ident 22 23 (codes "x")) ∷ (tok Operator 23 24 (codes ",")) ∷ (tok Ident 25 26 (codes "n")) ∷ (tok Ident 27 30 (codes "int")) ∷ (tok Operator 30 31 (codes ")")) ∷ (tok Ident 32 35 (codes "int")) ∷ (tok Operator 36 37 (codes "{")) ∷ (tok Keyword 39 45 (codes "return")) ∷ (tok Ident 46 47 (codes "x")) ∷ (tok Operator 48 49 (codes "*")) ∷ (tok Ident 50 51 (codes "n")) ∷ (tok Inserted 51 51 (codes ";")) ∷ (tok Operator 52 53 (codes "}")) ∷ (tok Inserted 53 53 (codes ";")) ∷ []); comments = [] }) ∷ []) }

import_that_serves_1_typed : is_typed import_that_serves_1 ≡ true
import_that_serves_1_typed = refl

import_that_serves_1_ends : step_of import_that_serves_1 ≡ None
unfolding passes keyword_spellings digits
import_that_serves_1_ends = refl

import_that_serves_1_kept : kept_uses import_that_serves_1 ≡ []
unfolding passes keyword_spellings digits
import_that_serves_1_kept = refl

-- Another file of the package has no such import.
abbrev other_file_0_f0 : File Span
other_file_0_f0 = record { package_name = (nm 8 12 (codes "main")); imports = ((imps (at 14 40) false ((imp (at 21 40) None (codes "example.com/m/pow")) ∷ [])) ∷ []); decls = ((fn (at 58 106) None (nm 63 69 (codes "Square")) (sig ((param (at 70 75) (Some (nm 70 71 (codes "x"))) (named (at 72 75) None (nm 72 75 (codes "int")))) ∷ []) ((param (at 77 80) None (named (at 77 80) None (nm 77 80 (codes "int")))) ∷ [])) (at 81 106) (stmt_and (return_ (at 84 104) (expr_and (call (at 91 104) (selector (at 91 98) (ident (at 91 94) (codes "pow")) (nm 95 98 (codes "Pow"))) (expr_and (ident (at 99 100) (codes "x")) (expr_and (int_lit (at 102 103) (codes "2")) no_exprs)) Plain) no_exprs)) no_stmts)) ∷ []) }

abbrev other_file_0_f1 : File Span
other_file_0_f1 = record { package_name = (nm 8 12 (codes "main")); imports = []; decls = ((fn (at 14 49) None (nm 19 23 (codes "main")) (sig [] []) (at 26 49) (stmt_and (eval (at 29 47) (call (at 29 47) (ident (at 29 36) (codes "println")) (expr_and (call (at 37 46) (ident (at 37 43) (codes "Square")) (expr_and (int_lit (at 44 45) (codes "3")) no_exprs) Plain) no_exprs) Plain)) no_stmts)) ∷ []) }

abbrev other_file_0_f2 : File Span
other_file_0_f2 = record { package_name = (nm 8 11 (codes "pow")); imports = []; decls = ((fn (at 13 53) None (nm 18 21 (codes "Pow")) (sig ((param (at 22 30) (Some (nm 22 23 (codes "x"))) (named (at 27 30) None (nm 27 30 (codes "int")))) ∷ (param (at 25 30) (Some (nm 25 26 (codes "n"))) (named (at 27 30) None (nm 27 30 (codes "int")))) ∷ []) ((param (at 32 35) None (named (at 32 35) None (nm 32 35 (codes "int")))) ∷ [])) (at 36 53) (stmt_and (return_ (at 39 51) (expr_and (binary (at 46 51) Mul (ident (at 46 47) (codes "x")) (ident (at 50 51) (codes "n"))) no_exprs)) no_stmts)) ∷ []) }

other_file_0_f0_read : read_at span_to read_front (lexemes ((tok Keyword 0 7 (codes "package")) ∷ (tok Ident 8 12 (codes "main")) ∷ (tok Inserted 12 12 (codes ";")) ∷ (tok Keyword 14 20 (codes "import")) ∷ (tok Str 21 40 (codes "\"example.com/m/pow\"")) ∷ (tok Inserted 40 40 (codes ";")) ∷ (tok Keyword 58 62 (codes "func")) ∷ (tok Ident 63 69 (codes "Square")) ∷ (tok Operator 69 70 (codes "(")) ∷ (tok Ident 70 71 (codes "x")) ∷ (tok Ident 72 75 (codes "int")) ∷ (tok Operator 75 76 (codes ")")) ∷ (tok Ident 77 80 (codes "int")) ∷ (tok Operator 81 82 (codes "{")) ∷ (tok Keyword 84 90 (codes "return")) ∷ (tok Ident 91 94 (codes "pow")) ∷ (tok Operator 94 95 (codes ".")) ∷ (tok Ident 95 98 (codes "Pow")) ∷ (tok Operator 98 99 (codes "(")) ∷ (tok Ident 99 100 (codes "x")) ∷ (tok Operator 100 101 (codes ",")) ∷ (tok Integer 102 103 (codes "2")) ∷ (tok Operator 103 104 (codes ")")) ∷ (tok Inserted 104 104 (codes ";")) ∷ (tok Operator 105 106 (codes "}")) ∷ (tok Inserted 106 106 (codes ";")) ∷ [])) ≡ Some (other_file_0_f0, [])
unfolding reading
other_file_0_f0_read = refl

other_file_0_f1_read : read_at span_to read_front (lexemes ((tok Keyword 0 7 (codes "package")) ∷ (tok Ident 8 12 (codes "main")) ∷ (tok Inserted 12 12 (codes ";")) ∷ (tok Keyword 14 18 (codes "func")) ∷ (tok Ident 19 23 (codes "main")) ∷ (tok Operator 23 24 (codes "(")) ∷ (tok Operator 24 25 (codes ")")) ∷ (tok Operator 26 27 (codes "{")) ∷ (tok Ident 29 36 (codes "println")) ∷ (tok Operator 36 37 (codes "(")) ∷ (tok Ident 37 43 (codes "Square")) ∷ (tok Operator 43 44 (codes "(")) ∷ (tok Integer 44 45 (codes "3")) ∷ (tok Operator 45 46 (codes ")")) ∷ (tok Operator 46 47 (codes ")")) ∷ (tok Inserted 47 47 (codes ";")) ∷ (tok Operator 48 49 (codes "}")) ∷ (tok Inserted 49 49 (codes ";")) ∷ [])) ≡ Some (other_file_0_f1, [])
unfolding reading
other_file_0_f1_read = refl

abbrev other_file_0 : Module
other_file_0 = record { packages = (pack (codes "example.com/m") (codes "main") (source (codes "a.go") other_file_0_f0 ∷ source (codes "b.go") other_file_0_f1 ∷ []) ∷ pack (codes "example.com/m/pow") (codes "pow") (source (codes "pow/pow.go") other_file_0_f2 ∷ []) ∷ []); marks = (mark 0 0 0 0 ∷ []); texts = (((codes "a.go"), record { text = (codes "package main\n\nimport \"example.com/m/pow\"\n\n//go:fix inline\nfunc Square(x int) int {\n\treturn pow.Pow(x, 2)\n}\n"); tokens = ((tok Keyword 0 7 (codes "package")) ∷ (tok Ident 8 12 (codes "main")) ∷ (tok Inserted 12 12 (codes ";")) ∷ (tok Keyword 14 20 (codes "import")) ∷ (tok Str 21 40 (codes "\"example.com/m/pow\"")) ∷ (tok Inserted 40 40 (codes ";")) ∷ (tok Keyword 58 62 (codes "func")) ∷ (tok Ident 63 69 (codes "Square")) ∷ (tok Operator 69 70 (codes "(")) ∷ (tok Ident 70 71 (codes "x")) ∷ (tok Ident 72 75 (codes "int")) ∷ (tok Operator 75 76 (codes ")")) ∷ (tok Ident 77 80 (codes "int")) ∷ (tok Operator 81 82 (codes "{")) ∷ (tok Keyword 84 90 (codes "return")) ∷ (tok Ident 91 94 (codes "pow")) ∷ (tok Operator 94 95 (codes ".")) ∷ (tok Ident 95 98 (codes "Pow")) ∷ (tok Operator 98 99 (codes "(")) ∷ (tok Ident 99 100 (codes "x")) ∷ (tok Operator 100 101 (codes ",")) ∷ (tok Integer 102 103 (codes "2")) ∷ (tok Operator 103 104 (codes ")")) ∷ (tok Inserted 104 104 (codes ";")) ∷ (tok Operator 105 106 (codes "}")) ∷ (tok Inserted 106 106 (codes ";")) ∷ []); comments = ((note 42 57) ∷ []) }) ∷ ((codes "b.go"), record { text = (codes "package main\n\nfunc main() {\n\tprintln(Square(3))\n}\n"); tokens = ((tok Keyword 0 7 (codes "package")) ∷ (tok Ident 8 12 (codes "main")) ∷ (tok Inserted 12 12 (codes ";")) ∷ (tok Keyword 14 18 (codes "func")) ∷ (tok Ident 19 23 (codes "main")) ∷ (tok Operator 23 24 (codes "(")) ∷ (tok Operator 24 25 (codes ")")) ∷ (tok Operator 26 27 (codes "{")) ∷ (tok Ident 29 36 (codes "println")) ∷ (tok Operator 36 37 (codes "(")) ∷ (tok Ident 37 43 (codes "Square")) ∷ (tok Operator 43 44 (codes "(")) ∷ (tok Integer 44 45 (codes "3")) ∷ (tok Operator 45 46 (codes ")")) ∷ (tok Operator 46 47 (codes ")")) ∷ (tok Inserted 47 47 (codes ";")) ∷ (tok Operator 48 49 (codes "}")) ∷ (tok Inserted 49 49 (codes ";")) ∷ []); comments = [] }) ∷ ((codes "pow/pow.go"), record { text = (codes "package pow\n\nfunc Pow(x, n int) int {\n\treturn x * n\n}\n"); tokens = ((tok Keyword 0 7 (codes "package")) ∷ (tok Ident 8 11 (codes "pow")) ∷ (tok Inserted 11 11 (codes ";")) ∷ (tok Keyword 13 17 (codes "func")) ∷ (tok Ident 18 21 (codes "Pow")) ∷ (tok Operator 21 22 (codes "(")) ∷ (tok Ident 22 23 (codes "x")) ∷ (tok Operator 23 24 (codes ",")) ∷ (tok Ident 25 26 (codes "n")) ∷ (tok Ident 27 30 (codes "int")) ∷ (tok Operator 30 31 (codes ")")) ∷ (tok Ident 32 35 (codes "int")) ∷ (tok Operator 36 37 (codes "{")) ∷ (tok Keyword 39 45 (codes "return")) ∷ (tok Ident 46 47 (codes "x")) ∷ (tok Operator 48 49 (codes "*")) ∷ (tok Ident 50 51 (codes "n")) ∷ (tok Inserted 51 51 (codes ";")) ∷ (tok Operator 52 53 (codes "}")) ∷ (tok Inserted 53 53 (codes ";")) ∷ []); comments = [] }) ∷ []) }

other_file_0_typed : is_typed other_file_0 ≡ true
other_file_0_typed = refl

other_file_0_step : first_change other_file_0 ≡ Some ((codes "b.go"), ExprForm, (codes "package main\n\nimport \"example.com/m/pow\"\n\nfunc main() {\n\tprintln(pow.Pow(3, 2))\n}\n"))
unfolding passes keyword_spellings digits
other_file_0_step = refl

abbrev other_file_1_f0 : File Span
other_file_1_f0 = record { package_name = (nm 8 12 (codes "main")); imports = ((imps (at 14 40) false ((imp (at 21 40) None (codes "example.com/m/pow")) ∷ [])) ∷ []); decls = ((fn (at 58 106) None (nm 63 69 (codes "Square")) (sig ((param (at 70 75) (Some (nm 70 71 (codes "x"))) (named (at 72 75) None (nm 72 75 (codes "int")))) ∷ []) ((param (at 77 80) None (named (at 77 80) None (nm 77 80 (codes "int")))) ∷ [])) (at 81 106) (stmt_and (return_ (at 84 104) (expr_and (call (at 91 104) (selector (at 91 98) (ident (at 91 94) (codes "pow")) (nm 95 98 (codes "Pow"))) (expr_and (ident (at 99 100) (codes "x")) (expr_and (int_lit (at 102 103) (codes "2")) no_exprs)) Plain) no_exprs)) no_stmts)) ∷ []) }

abbrev other_file_1_f1 : File Span
other_file_1_f1 = record { package_name = (nm 8 12 (codes "main")); imports = ((imps (at 14 40) false ((imp (at 21 40) None (codes "example.com/m/pow")) ∷ [])) ∷ []); decls = ((fn (at 42 81) None (nm 47 51 (codes "main")) (sig [] []) (at 54 81) (stmt_and (eval (at 57 79) (call (at 57 79) (ident (at 57 64) (codes "println")) (expr_and (call (at 65 78) (selector (at 65 72) (ident (at 65 68) (codes "pow")) (nm 69 72 (codes "Pow"))) (expr_and (int_lit (at 73 74) (codes "3")) (expr_and (int_lit (at 76 77) (codes "2")) no_exprs)) Plain) no_exprs) Plain)) no_stmts)) ∷ []) }

abbrev other_file_1_f2 : File Span
other_file_1_f2 = record { package_name = (nm 8 11 (codes "pow")); imports = []; decls = ((fn (at 13 53) None (nm 18 21 (codes "Pow")) (sig ((param (at 22 30) (Some (nm 22 23 (codes "x"))) (named (at 27 30) None (nm 27 30 (codes "int")))) ∷ (param (at 25 30) (Some (nm 25 26 (codes "n"))) (named (at 27 30) None (nm 27 30 (codes "int")))) ∷ []) ((param (at 32 35) None (named (at 32 35) None (nm 32 35 (codes "int")))) ∷ [])) (at 36 53) (stmt_and (return_ (at 39 51) (expr_and (binary (at 46 51) Mul (ident (at 46 47) (codes "x")) (ident (at 50 51) (codes "n"))) no_exprs)) no_stmts)) ∷ []) }

other_file_1_f1_read : read_at span_to read_front (lexemes ((tok Keyword 0 7 (codes "package")) ∷ (tok Ident 8 12 (codes "main")) ∷ (tok Inserted 12 12 (codes ";")) ∷ (tok Keyword 14 20 (codes "import")) ∷ (tok Str 21 40 (codes "\"example.com/m/pow\"")) ∷ (tok Inserted 40 40 (codes ";")) ∷ (tok Keyword 42 46 (codes "func")) ∷ (tok Ident 47 51 (codes "main")) ∷ (tok Operator 51 52 (codes "(")) ∷ (tok Operator 52 53 (codes ")")) ∷ (tok Operator 54 55 (codes "{")) ∷ (tok Ident 57 64 (codes "println")) ∷ (tok Operator 64 65 (codes "(")) ∷ (tok Ident 65 68 (codes "pow")) ∷ (tok Operator 68 69 (codes ".")) ∷ (tok Ident 69 72 (codes "Pow")) ∷ (tok Operator 72 73 (codes "(")) ∷ (tok Integer 73 74 (codes "3")) ∷ (tok Operator 74 75 (codes ",")) ∷ (tok Integer 76 77 (codes "2")) ∷ (tok Operator 77 78 (codes ")")) ∷ (tok Operator 78 79 (codes ")")) ∷ (tok Inserted 79 79 (codes ";")) ∷ (tok Operator 80 81 (codes "}")) ∷ (tok Inserted 81 81 (codes ";")) ∷ [])) ≡ Some (other_file_1_f1, [])
unfolding reading
other_file_1_f1_read = refl

abbrev other_file_1 : Module
other_file_1 = record { packages = (pack (codes "example.com/m") (codes "main") (source (codes "a.go") other_file_1_f0 ∷ source (codes "b.go") other_file_1_f1 ∷ []) ∷ pack (codes "example.com/m/pow") (codes "pow") (source (codes "pow/pow.go") other_file_1_f2 ∷ []) ∷ []); marks = (mark 0 0 0 0 ∷ []); texts = (((codes "a.go"), record { text = (codes "package main\n\nimport \"example.com/m/pow\"\n\n//go:fix inline\nfunc Square(x int) int {\n\treturn pow.Pow(x, 2)\n}\n"); tokens = ((tok Keyword 0 7 (codes "package")) ∷ (tok Ident 8 12 (codes "main")) ∷ (tok Inserted 12 12 (codes ";")) ∷ (tok Keyword 14 20 (codes "import")) ∷ (tok Str 21 40 (codes "\"example.com/m/pow\"")) ∷ (tok Inserted 40 40 (codes ";")) ∷ (tok Keyword 58 62 (codes "func")) ∷ (tok Ident 63 69 (codes "Square")) ∷ (tok Operator 69 70 (codes "(")) ∷ (tok Ident 70 71 (codes "x")) ∷ (tok Ident 72 75 (codes "int")) ∷ (tok Operator 75 76 (codes ")")) ∷ (tok Ident 77 80 (codes "int")) ∷ (tok Operator 81 82 (codes "{")) ∷ (tok Keyword 84 90 (codes "return")) ∷ (tok Ident 91 94 (codes "pow")) ∷ (tok Operator 94 95 (codes ".")) ∷ (tok Ident 95 98 (codes "Pow")) ∷ (tok Operator 98 99 (codes "(")) ∷ (tok Ident 99 100 (codes "x")) ∷ (tok Operator 100 101 (codes ",")) ∷ (tok Integer 102 103 (codes "2")) ∷ (tok Operator 103 104 (codes ")")) ∷ (tok Inserted 104 104 (codes ";")) ∷ (tok Operator 105 106 (codes "}")) ∷ (tok Inserted 106 106 (codes ";")) ∷ []); comments = ((note 42 57) ∷ []) }) ∷ ((codes "b.go"), record { text = (codes "package main\n\nimport \"example.com/m/pow\"\n\nfunc main() {\n\tprintln(pow.Pow(3, 2))\n}\n"); tokens = ((tok Keyword 0 7 (codes "package")) ∷ (tok Ident 8 12 (codes "main")) ∷ (tok Inserted 12 12 (codes ";")) ∷ (tok Keyword 14 20 (codes "import")) ∷ (tok Str 21 40 (codes "\"example.com/m/pow\"")) ∷ (tok Inserted 40 40 (codes ";")) ∷ (tok Keyword 42 46 (codes "func")) ∷ (tok Ident 47 51 (codes "main")) ∷ (tok Operator 51 52 (codes "(")) ∷ (tok Operator 52 53 (codes ")")) ∷ (tok Operator 54 55 (codes "{")) ∷ (tok Ident 57 64 (codes "println")) ∷ (tok Operator 64 65 (codes "(")) ∷ (tok Ident 65 68 (codes "pow")) ∷ (tok Operator 68 69 (codes ".")) ∷ (tok Ident 69 72 (codes "Pow")) ∷ (tok Operator 72 73 (codes "(")) ∷ (tok Integer 73 74 (codes "3")) ∷ (tok Operator 74 75 (codes ",")) ∷ (tok Integer 76 77 (codes "2")) ∷ (tok Operator 77 78 (codes ")")) ∷ (tok Operator 78 79 (codes ")")) ∷ (tok Inserted 79 79 (codes ";")) ∷ (tok Operator 80 81 (codes "}")) ∷ (tok Inserted 81 81 (codes ";")) ∷ []); comments = [] }) ∷ ((codes "pow/pow.go"), record { text = (codes "package pow\n\nfunc Pow(x, n int) int {\n\treturn x * n\n}\n"); tokens = ((tok Keyword 0 7 (codes "package")) ∷ (tok Ident 8 11 (codes "pow")) ∷ (tok Inserted 11 11 (codes ";")) ∷ (tok Keyword 13 17 (codes "func")) ∷ (tok Ident 18 21 (codes "Pow")) ∷ (tok Operator 21 22 (codes "(")) ∷ (tok Ident 22 23 (codes "x")) ∷ (tok Operator 23 24 (codes ",")) ∷ (tok Ident 25 26 (codes "n")) ∷ (tok Ident 27 30 (codes "int")) ∷ (tok Operator 30 31 (codes ")")) ∷ (tok Ident 32 35 (codes "int")) ∷ (tok Operator 36 37 (codes "{")) ∷ (tok Keyword 39 45 (codes "return")) ∷ (tok Ident 46 47 (codes "x")) ∷ (tok Operator 48 49 (codes "*")) ∷ (tok Ident 50 51 (codes "n")) ∷ (tok Inserted 51 51 (codes ";")) ∷ (tok Operator 52 53 (codes "}")) ∷ (tok Inserted 53 53 (codes ";")) ∷ []); comments = [] }) ∷ []) }

other_file_1_typed : is_typed other_file_1 ≡ true
other_file_1_typed = refl

other_file_1_ends : step_of other_file_1 ≡ None
unfolding passes keyword_spellings digits
other_file_1_ends = refl

other_file_1_kept : kept_uses other_file_1 ≡ []
unfolding passes keyword_spellings digits
other_file_1_kept = refl

-- Names of the marked declaration's package are written with its import.
abbrev qualified_names_0_f0 : File Span
qualified_names_0_f0 = record { package_name = (nm 8 12 (codes "main")); imports = ((imps (at 14 40) false ((imp (at 21 40) None (codes "example.com/m/old")) ∷ [])) ∷ []); decls = ((fn (at 42 89) None (nm 47 51 (codes "main")) (sig [] []) (at 54 89) (stmt_and (define (at 57 73) ((nm 57 58 (codes "t")) ∷ []) (expr_and (call (at 62 73) (selector (at 62 70) (ident (at 62 65) (codes "old")) (nm 66 70 (codes "Make"))) (expr_and (int_lit (at 71 72) (codes "5")) no_exprs) Plain) no_exprs)) (stmt_and (eval (at 75 87) (call (at 75 87) (ident (at 75 82) (codes "println")) (expr_and (selector (at 83 86) (ident (at 83 84) (codes "t")) (nm 85 86 (codes "N"))) no_exprs) Plain)) no_stmts))) ∷ []) }

abbrev qualified_names_0_f1 : File Span
qualified_names_0_f1 = record { package_name = (nm 8 11 (codes "old")); imports = []; decls = ((types (at 13 35) false ((tspec (at 18 35) (nm 18 19 (codes "T")) false (struct_type (at 20 35) (field (at 28 33) (nm 28 29 (codes "N")) (named (at 30 33) None (nm 30 33 (codes "int"))) no_fields))) ∷ [])) ∷ (values (const_decl (at 37 52) false (spec (at 43 52) ((nm 43 48 (codes "Limit")) ∷ []) None (expr_and (int_lit (at 51 52) (codes "3")) no_exprs) no_specs))) ∷ (fn (at 70 139) None (nm 75 79 (codes "Make")) (sig ((param (at 80 85) (Some (nm 80 81 (codes "n"))) (named (at 82 85) None (nm 82 85 (codes "int")))) ∷ []) ((param (at 87 88) None (named (at 87 88) None (nm 87 88 (codes "T")))) ∷ [])) (at 89 139) (stmt_and (if_ (at 92 121) (arm (at 92 121) no_stmt (binary (at 95 104) Gt (ident (at 95 96) (codes "n")) (ident (at 99 104) (codes "Limit"))) (at 105 121) (stmt_and (assign (at 109 118) (expr_and (ident (at 109 110) (codes "n")) no_exprs) None (expr_and (ident (at 113 118) (codes "Limit")) no_exprs)) no_stmts) no_arms) no_block) (stmt_and (return_ (at 123 137) (expr_and (composite (at 130 137) (named (at 130 131) None (nm 130 131 (codes "T"))) (elem (at 132 136) (some_value (plain (ident (at 132 133) (codes "N")))) (plain (ident (at 135 136) (codes "n"))) no_elems)) no_exprs)) no_stmts))) ∷ []) }

qualified_names_0_f0_read : read_at span_to read_front (lexemes ((tok Keyword 0 7 (codes "package")) ∷ (tok Ident 8 12 (codes "main")) ∷ (tok Inserted 12 12 (codes ";")) ∷ (tok Keyword 14 20 (codes "import")) ∷ (tok Str 21 40 (codes "\"example.com/m/old\"")) ∷ (tok Inserted 40 40 (codes ";")) ∷ (tok Keyword 42 46 (codes "func")) ∷ (tok Ident 47 51 (codes "main")) ∷ (tok Operator 51 52 (codes "(")) ∷ (tok Operator 52 53 (codes ")")) ∷ (tok Operator 54 55 (codes "{")) ∷ (tok Ident 57 58 (codes "t")) ∷ (tok Operator 59 61 (codes ":=")) ∷ (tok Ident 62 65 (codes "old")) ∷ (tok Operator 65 66 (codes ".")) ∷ (tok Ident 66 70 (codes "Make")) ∷ (tok Operator 70 71 (codes "(")) ∷ (tok Integer 71 72 (codes "5")) ∷ (tok Operator 72 73 (codes ")")) ∷ (tok Inserted 73 73 (codes ";")) ∷ (tok Ident 75 82 (codes "println")) ∷ (tok Operator 82 83 (codes "(")) ∷ (tok Ident 83 84 (codes "t")) ∷ (tok Operator 84 85 (codes ".")) ∷ (tok Ident 85 86 (codes "N")) ∷ (tok Operator 86 87 (codes ")")) ∷ (tok Inserted 87 87 (codes ";")) ∷ (tok Operator 88 89 (codes "}")) ∷ (tok Inserted 89 89 (codes ";")) ∷ [])) ≡ Some (qualified_names_0_f0, [])
unfolding reading
qualified_names_0_f0_read = refl

qualified_names_0_f1_read : read_at span_to read_front (lexemes ((tok Keyword 0 7 (codes "package")) ∷ (tok Ident 8 11 (codes "old")) ∷ (tok Inserted 11 11 (codes ";")) ∷ (tok Keyword 13 17 (codes "type")) ∷ (tok Ident 18 19 (codes "T")) ∷ (tok Keyword 20 26 (codes "struct")) ∷ (tok Operator 26 27 (codes "{")) ∷ (tok Ident 28 29 (codes "N")) ∷ (tok Ident 30 33 (codes "int")) ∷ (tok Operator 34 35 (codes "}")) ∷ (tok Inserted 35 35 (codes ";")) ∷ (tok Keyword 37 42 (codes "const")) ∷ (tok Ident 43 48 (codes "Limit")) ∷ (tok Operator 49 50 (codes "=")) ∷ (tok Integer 51 52 (codes "3")) ∷ (tok Inserted 52 52 (codes ";")) ∷ (tok Keyword 70 74 (codes "func")) ∷ (tok Ident 75 79 (codes "Make")) ∷ (tok Operator 79 80 (codes "(")) ∷ (tok Ident 80 81 (codes "n")) ∷ (tok Ident 82 85 (codes "int")) ∷ (tok Operator 85 86 (codes ")")) ∷ (tok Ident 87 88 (codes "T")) ∷ (tok Operator 89 90 (codes "{")) ∷ (tok Keyword 92 94 (codes "if")) ∷ (tok Ident 95 96 (codes "n")) ∷ (tok Operator 97 98 (codes ">")) ∷ (tok Ident 99 104 (codes "Limit")) ∷ (tok Operator 105 106 (codes "{")) ∷ (tok Ident 109 110 (codes "n")) ∷ (tok Operator 111 112 (codes "=")) ∷ (tok Ident 113 118 (codes "Limit")) ∷ (tok Inserted 118 118 (codes ";")) ∷ (tok Operator 120 121 (codes "}")) ∷ (tok Inserted 121 121 (codes ";")) ∷ (tok Keyword 123 129 (codes "return")) ∷ (tok Ident 130 131 (codes "T")) ∷ (tok Operator 131 132 (codes "{")) ∷ (tok Ident 132 133 (codes "N")) ∷ (tok Operator 133 134 (codes ":")) ∷ (tok Ident 135 136 (codes "n")) ∷ (tok Operator 136 137 (codes "}")) ∷ (tok Inserted 137 137 (codes ";")) ∷ (tok Operator 138 139 (codes "}")) ∷ (tok Inserted 139 139 (codes ";")) ∷ [])) ≡ Some (qualified_names_0_f1, [])
unfolding reading
qualified_names_0_f1_read = refl

abbrev qualified_names_0 : Module
qualified_names_0 = record { packages = (pack (codes "example.com/m") (codes "main") (source (codes "main.go") qualified_names_0_f0 ∷ []) ∷ pack (codes "example.com/m/old") (codes "old") (source (codes "old/old.go") qualified_names_0_f1 ∷ []) ∷ []); marks = (mark 1 0 2 0 ∷ []); texts = (((codes "main.go"), record { text = (codes "package main\n\nimport \"example.com/m/old\"\n\nfunc main() {\n\tt := old.Make(5)\n\tprintln(t.N)\n}\n"); tokens = ((tok Keyword 0 7 (codes "package")) ∷ (tok Ident 8 12 (codes "main")) ∷ (tok Inserted 12 12 (codes ";")) ∷ (tok Keyword 14 20 (codes "import")) ∷ (tok Str 21 40 (codes "\"example.com/m/old\"")) ∷ (tok Inserted 40 40 (codes ";")) ∷ (tok Keyword 42 46 (codes "func")) ∷ (tok Ident 47 51 (codes "main")) ∷ (tok Operator 51 52 (codes "(")) ∷ (tok Operator 52 53 (codes ")")) ∷ (tok Operator 54 55 (codes "{")) ∷ (tok Ident 57 58 (codes "t")) ∷ (tok Operator 59 61 (codes ":=")) ∷ (tok Ident 62 65 (codes "old")) ∷ (tok Operator 65 66 (codes ".")) ∷ (tok Ident 66 70 (codes "Make")) ∷ (tok Operator 70 71 (codes "(")) ∷ (tok Integer 71 72 (codes "5")) ∷ (tok Operator 72 73 (codes ")")) ∷ (tok Inserted 73 73 (codes ";")) ∷ (tok Ident 75 82 (codes "println")) ∷ (tok Operator 82 83 (codes "(")) ∷ (tok Ident 83 84 (codes "t")) ∷ (tok Operator 84 85 (codes ".")) ∷ (tok Ident 85 86 (codes "N")) ∷ (tok Operator 86 87 (codes ")")) ∷ (tok Inserted 87 87 (codes ";")) ∷ (tok Operator 88 89 (codes "}")) ∷ (tok Inserted 89 89 (codes ";")) ∷ []); comments = [] }) ∷ ((codes "old/old.go"), record { text = (codes "package old\n\ntype T struct{ N int }\n\nconst Limit = 3\n\n//go:fix inline\nfunc Make(n int) T {\n\tif n > Limit {\n\t\tn = Limit\n\t}\n\treturn T{N: n}\n}\n"); tokens = ((tok Keyword 0 7 (codes "package")) ∷ (tok Ident 8 11 (codes "old")) ∷ (tok Inserted 11 11 (codes ";")) ∷ (tok Keyword 13 17 (codes "type")) ∷ (tok Ident 18 19 (codes "T")) ∷ (tok Keyword 20 26 (codes "struct")) ∷ (tok Operator 26 27 (codes "{")) ∷ (tok Ident 28 29 (codes "N")) ∷ (tok Ident 30 33 (codes "int")) ∷ (tok Operator 34 35 (codes "}")) ∷ (tok Inserted 35 35 (codes ";")) ∷ (tok Keyword 37 42 (codes "const")) ∷ (tok Ident 43 48 (codes "Limit")) ∷ (tok Operator 49 50 (codes "=")) ∷ (tok Integer 51 52 (codes "3")) ∷ (tok Inserted 52 52 (codes ";")) ∷ (tok Keyword 70 74 (codes "func")) ∷ (tok Ident 75 79 (codes "Make")) ∷ (tok Operator 79 80 (codes "(")) ∷ (tok Ident 80 81 (codes "n")) ∷ (tok Ident 82 85 (codes "int")) ∷ (tok Operator 85 86 (codes ")")) ∷ (tok Ident 87 88 (codes "T")) ∷ (tok Operator 89 90 (codes "{")) ∷ (tok Keyword 92 94 (codes "if")) ∷ (tok Ident 95 96 (codes "n")) ∷ (tok Operator 97 98 (codes ">")) ∷ (tok Ident 99 104 (codes "Limit")) ∷ (tok Operator 105 106 (codes "{")) ∷ (tok Ident 109 110 (codes "n")) ∷ (tok Operator 111 112 (codes "=")) ∷ (tok Ident 113 118 (codes "Limit")) ∷ (tok Inserted 118 118 (codes ";")) ∷ (tok Operator 120 121 (codes "}")) ∷ (tok Inserted 121 121 (codes ";")) ∷ (tok Keyword 123 129 (codes "return")) ∷ (tok Ident 130 131 (codes "T")) ∷ (tok Operator 131 132 (codes "{")) ∷ (tok Ident 132 133 (codes "N")) ∷ (tok Operator 133 134 (codes ":")) ∷ (tok Ident 135 136 (codes "n")) ∷ (tok Operator 136 137 (codes "}")) ∷ (tok Inserted 137 137 (codes ";")) ∷ (tok Operator 138 139 (codes "}")) ∷ (tok Inserted 139 139 (codes ";")) ∷ []); comments = ((note 54 69) ∷ []) }) ∷ []) }

qualified_names_0_typed : is_typed qualified_names_0 ≡ true
qualified_names_0_typed = refl

qualified_names_0_step : first_change qualified_names_0 ≡ Some ((codes "main.go"), LiteralForm, (codes "package main\n\nimport \"example.com/m/old\"\n\nfunc main() {\n\tt := func(n int) old.T {\n\t\tif n > old.Limit {\n\t\t\tn = old.Limit\n\t\t}\n\t\treturn old.T{N: n}\n\t}(5)\n\tprintln(t.N)\n}\n"))
unfolding passes keyword_spellings digits
qualified_names_0_step = refl

abbrev qualified_names_1_f0 : File Span
qualified_names_1_f0 = record { package_name = (nm 8 12 (codes "main")); imports = ((imps (at 14 40) false ((imp (at 21 40) None (codes "example.com/m/old")) ∷ [])) ∷ []); decls = ((fn (at 42 166) None (nm 47 51 (codes "main")) (sig [] []) (at 54 166) (stmt_and (define (at 57 150) ((nm 57 58 (codes "t")) ∷ []) (expr_and (call (at 62 150) (func_lit (at 62 147) (sig ((param (at 67 72) (Some (nm 67 68 (codes "n"))) (named (at 69 72) None (nm 69 72 (codes "int")))) ∷ []) ((param (at 74 79) None (named (at 74 79) (Some (nm 74 77 (codes "old"))) (nm 78 79 (codes "T")))) ∷ [])) (at 80 147) (stmt_and (if_ (at 84 123) (arm (at 84 123) no_stmt (binary (at 87 100) Gt (ident (at 87 88) (codes "n")) (selector (at 91 100) (ident (at 91 94) (codes "old")) (nm 95 100 (codes "Limit")))) (at 101 123) (stmt_and (assign (at 106 119) (expr_and (ident (at 106 107) (codes "n")) no_exprs) None (expr_and (selector (at 110 119) (ident (at 110 113) (codes "old")) (nm 114 119 (codes "Limit"))) no_exprs)) no_stmts) no_arms) no_block) (stmt_and (return_ (at 126 144) (expr_and (composite (at 133 144) (named (at 133 138) (Some (nm 133 136 (codes "old"))) (nm 137 138 (codes "T"))) (elem (at 139 143) (some_value (plain (ident (at 139 140) (codes "N")))) (plain (ident (at 142 143) (codes "n"))) no_elems)) no_exprs)) no_stmts))) (expr_and (int_lit (at 148 149) (codes "5")) no_exprs) Plain) no_exprs)) (stmt_and (eval (at 152 164) (call (at 152 164) (ident (at 152 159) (codes "println")) (expr_and (selector (at 160 163) (ident (at 160 161) (codes "t")) (nm 162 163 (codes "N"))) no_exprs) Plain)) no_stmts))) ∷ []) }

abbrev qualified_names_1_f1 : File Span
qualified_names_1_f1 = record { package_name = (nm 8 11 (codes "old")); imports = []; decls = ((types (at 13 35) false ((tspec (at 18 35) (nm 18 19 (codes "T")) false (struct_type (at 20 35) (field (at 28 33) (nm 28 29 (codes "N")) (named (at 30 33) None (nm 30 33 (codes "int"))) no_fields))) ∷ [])) ∷ (values (const_decl (at 37 52) false (spec (at 43 52) ((nm 43 48 (codes "Limit")) ∷ []) None (expr_and (int_lit (at 51 52) (codes "3")) no_exprs) no_specs))) ∷ (fn (at 70 139) None (nm 75 79 (codes "Make")) (sig ((param (at 80 85) (Some (nm 80 81 (codes "n"))) (named (at 82 85) None (nm 82 85 (codes "int")))) ∷ []) ((param (at 87 88) None (named (at 87 88) None (nm 87 88 (codes "T")))) ∷ [])) (at 89 139) (stmt_and (if_ (at 92 121) (arm (at 92 121) no_stmt (binary (at 95 104) Gt (ident (at 95 96) (codes "n")) (ident (at 99 104) (codes "Limit"))) (at 105 121) (stmt_and (assign (at 109 118) (expr_and (ident (at 109 110) (codes "n")) no_exprs) None (expr_and (ident (at 113 118) (codes "Limit")) no_exprs)) no_stmts) no_arms) no_block) (stmt_and (return_ (at 123 137) (expr_and (composite (at 130 137) (named (at 130 131) None (nm 130 131 (codes "T"))) (elem (at 132 136) (some_value (plain (ident (at 132 133) (codes "N")))) (plain (ident (at 135 136) (codes "n"))) no_elems)) no_exprs)) no_stmts))) ∷ []) }

qualified_names_1_f0_read : read_at span_to read_front (lexemes ((tok Keyword 0 7 (codes "package")) ∷ (tok Ident 8 12 (codes "main")) ∷ (tok Inserted 12 12 (codes ";")) ∷ (tok Keyword 14 20 (codes "import")) ∷ (tok Str 21 40 (codes "\"example.com/m/old\"")) ∷ (tok Inserted 40 40 (codes ";")) ∷ (tok Keyword 42 46 (codes "func")) ∷ (tok Ident 47 51 (codes "main")) ∷ (tok Operator 51 52 (codes "(")) ∷ (tok Operator 52 53 (codes ")")) ∷ (tok Operator 54 55 (codes "{")) ∷ (tok Ident 57 58 (codes "t")) ∷ (tok Operator 59 61 (codes ":=")) ∷ (tok Keyword 62 66 (codes "func")) ∷ (tok Operator 66 67 (codes "(")) ∷ (tok Ident 67 68 (codes "n")) ∷ (tok Ident 69 72 (codes "int")) ∷ (tok Operator 72 73 (codes ")")) ∷ (tok Ident 74 77 (codes "old")) ∷ (tok Operator 77 78 (codes ".")) ∷ (tok Ident 78 79 (codes "T")) ∷ (tok Operator 80 81 (codes "{")) ∷ (tok Keyword 84 86 (codes "if")) ∷ (tok Ident 87 88 (codes "n")) ∷ (tok Operator 89 90 (codes ">")) ∷ (tok Ident 91 94 (codes "old")) ∷ (tok Operator 94 95 (codes ".")) ∷ (tok Ident 95 100 (codes "Limit")) ∷ (tok Operator 101 102 (codes "{")) ∷ (tok Ident 106 107 (codes "n")) ∷ (tok Operator 108 109 (codes "=")) ∷ (tok Ident 110 113 (codes "old")) ∷ (tok Operator 113 114 (codes ".")) ∷ (tok Ident 114 119 (codes "Limit")) ∷ (tok Inserted 119 119 (codes ";")) ∷ (tok Operator 122 123 (codes "}")) ∷ (tok Inserted 123 123 (codes ";")) ∷ (tok Keyword 126 132 (codes "return")) ∷ (tok Ident 133 136 (codes "old")) ∷ (tok Operator 136 137 (codes ".")) ∷ (tok Ident 137 138 (codes "T")) ∷ (tok Operator 138 139 (codes "{")) ∷ (tok Ident 139 140 (codes "N")) ∷ (tok Operator 140 141 (codes ":")) ∷ (tok Ident 142 143 (codes "n")) ∷ (tok Operator 143 144 (codes "}")) ∷ (tok Inserted 144 144 (codes ";")) ∷ (tok Operator 146 147 (codes "}")) ∷ (tok Operator 147 148 (codes "(")) ∷ (tok Integer 148 149 (codes "5")) ∷ (tok Operator 149 150 (codes ")")) ∷ (tok Inserted 150 150 (codes ";")) ∷ (tok Ident 152 159 (codes "println")) ∷ (tok Operator 159 160 (codes "(")) ∷ (tok Ident 160 161 (codes "t")) ∷ (tok Operator 161 162 (codes ".")) ∷ (tok Ident 162 163 (codes "N")) ∷ (tok Operator 163 164 (codes ")")) ∷ (tok Inserted 164 164 (codes ";")) ∷ (tok Operator 165 166 (codes "}")) ∷ (tok Inserted 166 166 (codes ";")) ∷ [])) ≡ Some (qualified_names_1_f0, [])
unfolding reading
qualified_names_1_f0_read = refl

abbrev qualified_names_1 : Module
qualified_names_1 = record { packages = (pack (codes "example.com/m") (codes "main") (source (codes "main.go") qualified_names_1_f0 ∷ []) ∷ pack (codes "example.com/m/old") (codes "old") (source (codes "old/old.go") qualified_names_1_f1 ∷ []) ∷ []); marks = (mark 1 0 2 0 ∷ []); texts = (((codes "main.go"), record { text = (codes "package main\n\nimport \"example.com/m/old\"\n\nfunc main() {\n\tt := func(n int) old.T {\n\t\tif n > old.Limit {\n\t\t\tn = old.Limit\n\t\t}\n\t\treturn old.T{N: n}\n\t}(5)\n\tprintln(t.N)\n}\n"); tokens = ((tok Keyword 0 7 (codes "package")) ∷ (tok Ident 8 12 (codes "main")) ∷ (tok Inserted 12 12 (codes ";")) ∷ (tok Keyword 14 20 (codes "import")) ∷ (tok Str 21 40 (codes "\"example.com/m/old\"")) ∷ (tok Inserted 40 40 (codes ";")) ∷ (tok Keyword 42 46 (codes "func")) ∷ (tok Ident 47 51 (codes "main")) ∷ (tok Operator 51 52 (codes "(")) ∷ (tok Operator 52 53 (codes ")")) ∷ (tok Operator 54 55 (codes "{")) ∷ (tok Ident 57 58 (codes "t")) ∷ (tok Operator 59 61 (codes ":=")) ∷ (tok Keyword 62 66 (codes "func")) ∷ (tok Operator 66 67 (codes "(")) ∷ (tok Ident 67 68 (codes "n")) ∷ (tok Ident 69 72 (codes "int")) ∷ (tok Operator 72 73 (codes ")")) ∷ (tok Ident 74 77 (codes "old")) ∷ (tok Operator 77 78 (codes ".")) ∷ (tok Ident 78 79 (codes "T")) ∷ (tok Operator 80 81 (codes "{")) ∷ (tok Keyword 84 86 (codes "if")) ∷ (tok Ident 87 88 (codes "n")) ∷ (tok Operator 89 90 (codes ">")) ∷ (tok Ident 91 94 (codes "old")) ∷ (tok Operator 94 95 (codes ".")) ∷ (tok Ident 95 100 (codes "Limit")) ∷ (tok Operator 101 102 (codes "{")) ∷ (tok Ident 106 107 (codes "n")) ∷ (tok Operator 108 109 (codes "=")) ∷ (tok Ident 110 113 (codes "old")) ∷ (tok Operator 113 114 (codes ".")) ∷ (tok Ident 114 119 (codes "Limit")) ∷ (tok Inserted 119 119 (codes ";")) ∷ (tok Operator 122 123 (codes "}")) ∷ (tok Inserted 123 123 (codes ";")) ∷ (tok Keyword 126 132 (codes "return")) ∷ (tok Ident 133 136 (codes "old")) ∷ (tok Operator 136 137 (codes ".")) ∷ (tok Ident 137 138 (codes "T")) ∷ (tok Operator 138 139 (codes "{")) ∷ (tok Ident 139 140 (codes "N")) ∷ (tok Operator 140 141 (codes ":")) ∷ (tok Ident 142 143 (codes "n")) ∷ (tok Operator 143 144 (codes "}")) ∷ (tok Inserted 144 144 (codes ";")) ∷ (tok Operator 146 147 (codes "}")) ∷ (tok Operator 147 148 (codes "(")) ∷ (tok Integer 148 149 (codes "5")) ∷ (tok Operator 149 150 (codes ")")) ∷ (tok Inserted 150 150 (codes ";")) ∷ (tok Ident 152 159 (codes "println")) ∷ (tok Operator 159 160 (codes "(")) ∷ (tok Ident 160 161 (codes "t")) ∷ (tok Operator 161 162 (codes ".")) ∷ (tok Ident 162 163 (codes "N")) ∷ (tok Operator 163 164 (codes ")")) ∷ (tok Inserted 164 164 (codes ";")) ∷ (tok Operator 165 166 (codes "}")) ∷ (tok Inserted 166 166 (codes ";")) ∷ []); comments = [] }) ∷ ((codes "old/old.go"), record { text = (codes "package old\n\ntype T struct{ N int }\n\nconst Limit = 3\n\n//go:fix inline\nfunc Make(n int) T {\n\tif n > Limit {\n\t\tn = Limit\n\t}\n\treturn T{N: n}\n}\n"); tokens = ((tok Keyword 0 7 (codes "package")) ∷ (tok Ident 8 11 (codes "old")) ∷ (tok Inserted 11 11 (codes ";")) ∷ (tok Keyword 13 17 (codes "type")) ∷ (tok Ident 18 19 (codes "T")) ∷ (tok Keyword 20 26 (codes "struct")) ∷ (tok Operator 26 27 (codes "{")) ∷ (tok Ident 28 29 (codes "N")) ∷ (tok Ident 30 33 (codes "int")) ∷ (tok Operator 34 35 (codes "}")) ∷ (tok Inserted 35 35 (codes ";")) ∷ (tok Keyword 37 42 (codes "const")) ∷ (tok Ident 43 48 (codes "Limit")) ∷ (tok Operator 49 50 (codes "=")) ∷ (tok Integer 51 52 (codes "3")) ∷ (tok Inserted 52 52 (codes ";")) ∷ (tok Keyword 70 74 (codes "func")) ∷ (tok Ident 75 79 (codes "Make")) ∷ (tok Operator 79 80 (codes "(")) ∷ (tok Ident 80 81 (codes "n")) ∷ (tok Ident 82 85 (codes "int")) ∷ (tok Operator 85 86 (codes ")")) ∷ (tok Ident 87 88 (codes "T")) ∷ (tok Operator 89 90 (codes "{")) ∷ (tok Keyword 92 94 (codes "if")) ∷ (tok Ident 95 96 (codes "n")) ∷ (tok Operator 97 98 (codes ">")) ∷ (tok Ident 99 104 (codes "Limit")) ∷ (tok Operator 105 106 (codes "{")) ∷ (tok Ident 109 110 (codes "n")) ∷ (tok Operator 111 112 (codes "=")) ∷ (tok Ident 113 118 (codes "Limit")) ∷ (tok Inserted 118 118 (codes ";")) ∷ (tok Operator 120 121 (codes "}")) ∷ (tok Inserted 121 121 (codes ";")) ∷ (tok Keyword 123 129 (codes "return")) ∷ (tok Ident 130 131 (codes "T")) ∷ (tok Operator 131 132 (codes "{")) ∷ (tok Ident 132 133 (codes "N")) ∷ (tok Operator 133 134 (codes ":")) ∷ (tok Ident 135 136 (codes "n")) ∷ (tok Operator 136 137 (codes "}")) ∷ (tok Inserted 137 137 (codes ";")) ∷ (tok Operator 138 139 (codes "}")) ∷ (tok Inserted 139 139 (codes ";")) ∷ []); comments = ((note 54 69) ∷ []) }) ∷ []) }

qualified_names_1_typed : is_typed qualified_names_1 ≡ true
qualified_names_1_typed = refl

qualified_names_1_ends : step_of qualified_names_1 ≡ None
unfolding passes keyword_spellings digits
qualified_names_1_ends = refl

qualified_names_1_kept : kept_uses qualified_names_1 ≡ []
unfolding passes keyword_spellings digits
qualified_names_1_kept = refl
