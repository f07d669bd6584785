-- Marked constants: text before and after, and what is kept.
use Rattle.std.proofs.Common.{◌≡◌, refl}
use Rattle.std.specs.Prelude.{true, false, [], ◌∷◌, Some, None, codes}
use Rattle.go_tree.specs.declared.exprs.Rest.TheVariants.{Plain}
use Rattle.go_tree.specs.declared.spans.Span.{Span}
use Rattle.go_tree.specs.declared.tokens.TokenKind.TheVariants.{Ident, Keyword, Operator, Integer, Inserted}
use Rattle.go_tree.specs.declared.operators.BinOp.TheVariants.{Add}
use Rattle.go_tree.specs.Tree.{ident, int_lit, call, binary, no_exprs, expr_and, const_decl, eval, define, no_stmts, stmt_and, no_specs, spec}
use Rattle.go_tree.specs.File.{File, values}
use Rattle.run_rules.specs.FormTrees.{ConstForm}
use Rattle.run_rules.specs.Obstacles.{Shadowed, Repeated}
use Rattle.run_rules.proofs.CaseTools.{at, nm, tok, note, sig, fn, pack, source, mark, Module, is_typed, first_change, step_of, kept_uses}
use Rattle.go_layout.specs.SpellsSpans.{span_to}
use Rattle.go_tree.specs.GoWords.Terminals.{lexemes}
use Rattle.go_layout.specs.Goals.{read_front}
use Rattle.go_layout.proofs.Texts.{reading}
use Rattle.run_rules.proofs.CaseTools.{read_at}

-- A marked constant becomes the constant that it names.
abbrev constant_0_f0 : File Span
constant_0_f0 = record { package_name = (nm 8 12 (codes "main")); imports = []; decls = ((values (const_decl (at 14 31) false (spec (at 20 31) ((nm 20 27 (codes "Pointer")) ∷ []) None (expr_and (int_lit (at 30 31) (codes "1")) no_exprs) no_specs))) ∷ (values (const_decl (at 49 68) false (spec (at 55 68) ((nm 55 58 (codes "Ptr")) ∷ []) None (expr_and (ident (at 61 68) (codes "Pointer")) no_exprs) no_specs))) ∷ (fn (at 70 99) None (nm 75 79 (codes "main")) (sig [] []) (at 82 99) (stmt_and (eval (at 85 97) (call (at 85 97) (ident (at 85 92) (codes "println")) (expr_and (ident (at 93 96) (codes "Ptr")) no_exprs) Plain)) no_stmts)) ∷ []) }

constant_0_f0_read : read_at span_to read_front (lexemes ((tok Keyword 0 7 (codes "package")) ∷ (tok Ident 8 12 (codes "main")) ∷ (tok Inserted 12 12 (codes ";")) ∷ (tok Keyword 14 19 (codes "const")) ∷ (tok Ident 20 27 (codes "Pointer")) ∷ (tok Operator 28 29 (codes "=")) ∷ (tok Integer 30 31 (codes "1")) ∷ (tok Inserted 31 31 (codes ";")) ∷ (tok Keyword 49 54 (codes "const")) ∷ (tok Ident 55 58 (codes "Ptr")) ∷ (tok Operator 59 60 (codes "=")) ∷ (tok Ident 61 68 (codes "Pointer")) ∷ (tok Inserted 68 68 (codes ";")) ∷ (tok Keyword 70 74 (codes "func")) ∷ (tok Ident 75 79 (codes "main")) ∷ (tok Operator 79 80 (codes "(")) ∷ (tok Operator 80 81 (codes ")")) ∷ (tok Operator 82 83 (codes "{")) ∷ (tok Ident 85 92 (codes "println")) ∷ (tok Operator 92 93 (codes "(")) ∷ (tok Ident 93 96 (codes "Ptr")) ∷ (tok Operator 96 97 (codes ")")) ∷ (tok Inserted 97 97 (codes ";")) ∷ (tok Operator 98 99 (codes "}")) ∷ (tok Inserted 99 99 (codes ";")) ∷ [])) ≡ Some (constant_0_f0, [])
unfolding reading
constant_0_f0_read = refl

abbrev constant_0 : Module
constant_0 = record { packages = (pack (codes "example.com/m") (codes "main") (source (codes "main.go") constant_0_f0 ∷ []) ∷ []); marks = (mark 0 0 1 0 ∷ []); texts = (((codes "main.go"), record { text = (codes "package main\n\nconst Pointer = 1\n\n//go:fix inline\nconst Ptr = Pointer\n\nfunc main() {\n\tprintln(Ptr)\n}\n"); tokens = ((tok Keyword 0 7 (codes "package")) ∷ (tok Ident 8 12 (codes "main")) ∷ (tok Inserted 12 12 (codes ";")) ∷ (tok Keyword 14 19 (codes "const")) ∷ (tok Ident 20 27 (codes "Pointer")) ∷ (tok Operator 28 29 (codes "=")) ∷ (tok Integer 30 31 (codes "1")) ∷ (tok Inserted 31 31 (codes ";")) ∷ (tok Keyword 49 54 (codes "const")) ∷ (tok Ident 55 58 (codes "Ptr")) ∷ (tok Operator 59 60 (codes "=")) ∷ (tok Ident 61 68 (codes "Pointer")) ∷ (tok Inserted 68 68 (codes ";")) ∷ (tok Keyword 70 74 (codes "func")) ∷ (tok Ident 75 79 (codes "main")) ∷ (tok Operator 79 80 (codes "(")) ∷ (tok Operator 80 81 (codes ")")) ∷ (tok Operator 82 83 (codes "{")) ∷ (tok Ident 85 92 (codes "println")) ∷ (tok Operator 92 93 (codes "(")) ∷ (tok Ident 93 96 (codes "Ptr")) ∷ (tok Operator 96 97 (codes ")")) ∷ (tok Inserted 97 97 (codes ";")) ∷ (tok Operator 98 99 (codes "}")) ∷ (tok Inserted 99 99 (codes ";")) ∷ []); comments = ((note 33 48) ∷ []) }) ∷ []) }

constant_0_typed : is_typed constant_0 ≡ true
constant_0_typed = refl

constant_0_step : first_change constant_0 ≡ Some ((codes "main.go"), ConstForm, (codes "package main\n\nconst Pointer = 1\n\n//go:fix inline\nconst Ptr = Pointer\n\nfunc main() {\n\tprintln(Pointer)\n}\n"))
constant_0_step = refl

abbrev constant_1_f0 : File Span
constant_1_f0 = record { package_name = (nm 8 12 (codes "main")); imports = []; decls = ((values (const_decl (at 14 31) false (spec (at 20 31) ((nm 20 27 (codes "Pointer")) ∷ []) None (expr_and (int_lit (at 30 31) (codes "1")) no_exprs) no_specs))) ∷ (values (const_decl (at 49 68) false (spec (at 55 68) ((nm 55 58 (codes "Ptr")) ∷ []) None (expr_and (ident (at 61 68) (codes "Pointer")) no_exprs) no_specs))) ∷ (fn (at 70 103) None (nm 75 79 (codes "main")) (sig [] []) (at 82 103) (stmt_and (eval (at 85 101) (call (at 85 101) (ident (at 85 92) (codes "println")) (expr_and (ident (at 93 100) (codes "Pointer")) no_exprs) Plain)) no_stmts)) ∷ []) }

constant_1_f0_read : read_at span_to read_front (lexemes ((tok Keyword 0 7 (codes "package")) ∷ (tok Ident 8 12 (codes "main")) ∷ (tok Inserted 12 12 (codes ";")) ∷ (tok Keyword 14 19 (codes "const")) ∷ (tok Ident 20 27 (codes "Pointer")) ∷ (tok Operator 28 29 (codes "=")) ∷ (tok Integer 30 31 (codes "1")) ∷ (tok Inserted 31 31 (codes ";")) ∷ (tok Keyword 49 54 (codes "const")) ∷ (tok Ident 55 58 (codes "Ptr")) ∷ (tok Operator 59 60 (codes "=")) ∷ (tok Ident 61 68 (codes "Pointer")) ∷ (tok Inserted 68 68 (codes ";")) ∷ (tok Keyword 70 74 (codes "func")) ∷ (tok Ident 75 79 (codes "main")) ∷ (tok Operator 79 80 (codes "(")) ∷ (tok Operator 80 81 (codes ")")) ∷ (tok Operator 82 83 (codes "{")) ∷ (tok Ident 85 92 (codes "println")) ∷ (tok Operator 92 93 (codes "(")) ∷ (tok Ident 93 100 (codes "Pointer")) ∷ (tok Operator 100 101 (codes ")")) ∷ (tok Inserted 101 101 (codes ";")) ∷ (tok Operator 102 103 (codes "}")) ∷ (tok Inserted 103 103 (codes ";")) ∷ [])) ≡ Some (constant_1_f0, [])
unfolding reading
constant_1_f0_read = refl

abbrev constant_1 : Module
constant_1 = record { packages = (pack (codes "example.com/m") (codes "main") (source (codes "main.go") constant_1_f0 ∷ []) ∷ []); marks = (mark 0 0 1 0 ∷ []); texts = (((codes "main.go"), record { text = (codes "package main\n\nconst Pointer = 1\n\n//go:fix inline\nconst Ptr = Pointer\n\nfunc main() {\n\tprintln(Pointer)\n}\n"); tokens = ((tok Keyword 0 7 (codes "package")) ∷ (tok Ident 8 12 (codes "main")) ∷ (tok Inserted 12 12 (codes ";")) ∷ (tok Keyword 14 19 (codes "const")) ∷ (tok Ident 20 27 (codes "Pointer")) ∷ (tok Operator 28 29 (codes "=")) ∷ (tok Integer 30 31 (codes "1")) ∷ (tok Inserted 31 31 (codes ";")) ∷ (tok Keyword 49 54 (codes "const")) ∷ (tok Ident 55 58 (codes "Ptr")) ∷ (tok Operator 59 60 (codes "=")) ∷ (tok Ident 61 68 (codes "Pointer")) ∷ (tok Inserted 68 68 (codes ";")) ∷ (tok Keyword 70 74 (codes "func")) ∷ (tok Ident 75 79 (codes "main")) ∷ (tok Operator 79 80 (codes "(")) ∷ (tok Operator 80 81 (codes ")")) ∷ (tok Operator 82 83 (codes "{")) ∷ (tok Ident 85 92 (codes "println")) ∷ (tok Operator 92 93 (codes "(")) ∷ (tok Ident 93 100 (codes "Pointer")) ∷ (tok Operator 100 101 (codes ")")) ∷ (tok Inserted 101 101 (codes ";")) ∷ (tok Operator 102 103 (codes "}")) ∷ (tok Inserted 103 103 (codes ";")) ∷ []); comments = ((note 33 48) ∷ []) }) ∷ []) }

constant_1_typed : is_typed constant_1 ≡ true
constant_1_typed = refl

constant_1_ends : step_of constant_1 ≡ None
constant_1_ends = refl

constant_1_kept : kept_uses constant_1 ≡ []
constant_1_kept = refl

-- Without a mark nothing changes.
abbrev unmarked_f0 : File Span
unmarked_f0 = record { package_name = (nm 8 12 (codes "main")); imports = []; decls = ((values (const_decl (at 14 31) false (spec (at 20 31) ((nm 20 27 (codes "Pointer")) ∷ []) None (expr_and (int_lit (at 30 31) (codes "1")) no_exprs) no_specs))) ∷ (values (const_decl (at 33 52) false (spec (at 39 52) ((nm 39 42 (codes "Ptr")) ∷ []) None (expr_and (ident (at 45 52) (codes "Pointer")) no_exprs) no_specs))) ∷ (fn (at 54 83) None (nm 59 63 (codes "main")) (sig [] []) (at 66 83) (stmt_and (eval (at 69 81) (call (at 69 81) (ident (at 69 76) (codes "println")) (expr_and (ident (at 77 80) (codes "Ptr")) no_exprs) Plain)) no_stmts)) ∷ []) }

unmarked_f0_read : read_at span_to read_front (lexemes ((tok Keyword 0 7 (codes "package")) ∷ (tok Ident 8 12 (codes "main")) ∷ (tok Inserted 12 12 (codes ";")) ∷ (tok Keyword 14 19 (codes "const")) ∷ (tok Ident 20 27 (codes "Pointer")) ∷ (tok Operator 28 29 (codes "=")) ∷ (tok Integer 30 31 (codes "1")) ∷ (tok Inserted 31 31 (codes ";")) ∷ (tok Keyword 33 38 (codes "const")) ∷ (tok Ident 39 42 (codes "Ptr")) ∷ (tok Operator 43 44 (codes "=")) ∷ (tok Ident 45 52 (codes "Pointer")) ∷ (tok Inserted 52 52 (codes ";")) ∷ (tok Keyword 54 58 (codes "func")) ∷ (tok Ident 59 63 (codes "main")) ∷ (tok Operator 63 64 (codes "(")) ∷ (tok Operator 64 65 (codes ")")) ∷ (tok Operator 66 67 (codes "{")) ∷ (tok Ident 69 76 (codes "println")) ∷ (tok Operator 76 77 (codes "(")) ∷ (tok Ident 77 80 (codes "Ptr")) ∷ (tok Operator 80 81 (codes ")")) ∷ (tok Inserted 81 81 (codes ";")) ∷ (tok Operator 82 83 (codes "}")) ∷ (tok Inserted 83 83 (codes ";")) ∷ [])) ≡ Some (unmarked_f0, [])
unfolding reading
unmarked_f0_read = refl

abbrev unmarked : Module
unmarked = record { packages = (pack (codes "example.com/m") (codes "main") (source (codes "main.go") unmarked_f0 ∷ []) ∷ []); marks = []; texts = (((codes "main.go"), record { text = (codes "package main\n\nconst Pointer = 1\n\nconst Ptr = Pointer\n\nfunc main() {\n\tprintln(Ptr)\n}\n"); tokens = ((tok Keyword 0 7 (codes "package")) ∷ (tok Ident 8 12 (codes "main")) ∷ (tok Inserted 12 12 (codes ";")) ∷ (tok Keyword 14 19 (codes "const")) ∷ (tok Ident 20 27 (codes "Pointer")) ∷ (tok Operator 28 29 (codes "=")) ∷ (tok Integer 30 31 (codes "1")) ∷ (tok Inserted 31 31 (codes ";")) ∷ (tok Keyword 33 38 (codes "const")) ∷ (tok Ident 39 42 (codes "Ptr")) ∷ (tok Operator 43 44 (codes "=")) ∷ (tok Ident 45 52 (codes "Pointer")) ∷ (tok Inserted 52 52 (codes ";")) ∷ (tok Keyword 54 58 (codes "func")) ∷ (tok Ident 59 63 (codes "main")) ∷ (tok Operator 63 64 (codes "(")) ∷ (tok Operator 64 65 (codes ")")) ∷ (tok Operator 66 67 (codes "{")) ∷ (tok Ident 69 76 (codes "println")) ∷ (tok Operator 76 77 (codes "(")) ∷ (tok Ident 77 80 (codes "Ptr")) ∷ (tok Operator 80 81 (codes ")")) ∷ (tok Inserted 81 81 (codes ";")) ∷ (tok Operator 82 83 (codes "}")) ∷ (tok Inserted 83 83 (codes ";")) ∷ []); comments = [] }) ∷ []) }

unmarked_typed : is_typed unmarked ≡ true
unmarked_typed = refl

unmarked_ends : step_of unmarked ≡ None
unmarked_ends = refl

unmarked_kept : kept_uses unmarked ≡ []
unmarked_kept = refl

-- The name means another declaration at the use.
abbrev shadowed_constant_f0 : File Span
shadowed_constant_f0 = record { package_name = (nm 8 12 (codes "main")); imports = []; decls = ((values (const_decl (at 14 31) false (spec (at 20 31) ((nm 20 27 (codes "Pointer")) ∷ []) None (expr_and (int_lit (at 30 31) (codes "1")) no_exprs) no_specs))) ∷ (values (const_decl (at 49 68) false (spec (at 55 68) ((nm 55 58 (codes "Ptr")) ∷ []) None (expr_and (ident (at 61 68) (codes "Pointer")) no_exprs) no_specs))) ∷ (fn (at 70 122) None (nm 75 79 (codes "main")) (sig [] []) (at 82 122) (stmt_and (define (at 85 97) ((nm 85 92 (codes "Pointer")) ∷ []) (expr_and (int_lit (at 96 97) (codes "2")) no_exprs)) (stmt_and (eval (at 99 120) (call (at 99 120) (ident (at 99 106) (codes "println")) (expr_and (ident (at 107 110) (codes "Ptr")) (expr_and (ident (at 112 119) (codes "Pointer")) no_exprs)) Plain)) no_stmts))) ∷ []) }

shadowed_constant_f0_read : read_at span_to read_front (lexemes ((tok Keyword 0 7 (codes "package")) ∷ (tok Ident 8 12 (codes "main")) ∷ (tok Inserted 12 12 (codes ";")) ∷ (tok Keyword 14 19 (codes "const")) ∷ (tok Ident 20 27 (codes "Pointer")) ∷ (tok Operator 28 29 (codes "=")) ∷ (tok Integer 30 31 (codes "1")) ∷ (tok Inserted 31 31 (codes ";")) ∷ (tok Keyword 49 54 (codes "const")) ∷ (tok Ident 55 58 (codes "Ptr")) ∷ (tok Operator 59 60 (codes "=")) ∷ (tok Ident 61 68 (codes "Pointer")) ∷ (tok Inserted 68 68 (codes ";")) ∷ (tok Keyword 70 74 (codes "func")) ∷ (tok Ident 75 79 (codes "main")) ∷ (tok Operator 79 80 (codes "(")) ∷ (tok Operator 80 81 (codes ")")) ∷ (tok Operator 82 83 (codes "{")) ∷ (tok Ident 85 92 (codes "Pointer")) ∷ (tok Operator 93 95 (codes ":=")) ∷ (tok Integer 96 97 (codes "2")) ∷ (tok Inserted 97 97 (codes ";")) ∷ (tok Ident 99 106 (codes "println")) ∷ (tok Operator 106 107 (codes "(")) ∷ (tok Ident 107 110 (codes "Ptr")) ∷ (tok Operator 110 111 (codes ",")) ∷ (tok Ident 112 119 (codes "Pointer")) ∷ (tok Operator 119 120 (codes ")")) ∷ (tok Inserted 120 120 (codes ";")) ∷ (tok Operator 121 122 (codes "}")) ∷ (tok Inserted 122 122 (codes ";")) ∷ [])) ≡ Some (shadowed_constant_f0, [])
unfolding reading
shadowed_constant_f0_read = refl

abbrev shadowed_constant : Module
shadowed_constant = record { packages = (pack (codes "example.com/m") (codes "main") (source (codes "main.go") shadowed_constant_f0 ∷ []) ∷ []); marks = (mark 0 0 1 0 ∷ []); texts = (((codes "main.go"), record { text = (codes "package main\n\nconst Pointer = 1\n\n//go:fix inline\nconst Ptr = Pointer\n\nfunc main() {\n\tPointer := 2\n\tprintln(Ptr, Pointer)\n}\n"); tokens = ((tok Keyword 0 7 (codes "package")) ∷ (tok Ident 8 12 (codes "main")) ∷ (tok Inserted 12 12 (codes ";")) ∷ (tok Keyword 14 19 (codes "const")) ∷ (tok Ident 20 27 (codes "Pointer")) ∷ (tok Operator 28 29 (codes "=")) ∷ (tok Integer 30 31 (codes "1")) ∷ (tok Inserted 31 31 (codes ";")) ∷ (tok Keyword 49 54 (codes "const")) ∷ (tok Ident 55 58 (codes "Ptr")) ∷ (tok Operator 59 60 (codes "=")) ∷ (tok Ident 61 68 (codes "Pointer")) ∷ (tok Inserted 68 68 (codes ";")) ∷ (tok Keyword 70 74 (codes "func")) ∷ (tok Ident 75 79 (codes "main")) ∷ (tok Operator 79 80 (codes "(")) ∷ (tok Operator 80 81 (codes ")")) ∷ (tok Operator 82 83 (codes "{")) ∷ (tok Ident 85 92 (codes "Pointer")) ∷ (tok Operator 93 95 (codes ":=")) ∷ (tok Integer 96 97 (codes "2")) ∷ (tok Inserted 97 97 (codes ";")) ∷ (tok Ident 99 106 (codes "println")) ∷ (tok Operator 106 107 (codes "(")) ∷ (tok Ident 107 110 (codes "Ptr")) ∷ (tok Operator 110 111 (codes ",")) ∷ (tok Ident 112 119 (codes "Pointer")) ∷ (tok Operator 119 120 (codes ")")) ∷ (tok Inserted 120 120 (codes ";")) ∷ (tok Operator 121 122 (codes "}")) ∷ (tok Inserted 122 122 (codes ";")) ∷ []); comments = ((note 33 48) ∷ []) }) ∷ []) }

shadowed_constant_typed : is_typed shadowed_constant ≡ true
shadowed_constant_typed = refl

shadowed_constant_ends : step_of shadowed_constant ≡ None
shadowed_constant_ends = refl

shadowed_constant_kept : kept_uses shadowed_constant ≡ (((codes "main.go"), 107, Some (Shadowed (codes "Pointer"))) ∷ [])
shadowed_constant_kept = refl

-- A later member of the group repeats the expression with the use.
abbrev repeated_constant_f0 : File Span
repeated_constant_f0 = record { package_name = (nm 8 12 (codes "main")); imports = []; decls = ((values (const_decl (at 14 31) false (spec (at 20 31) ((nm 20 27 (codes "Pointer")) ∷ []) None (expr_and (int_lit (at 30 31) (codes "1")) no_exprs) no_specs))) ∷ (values (const_decl (at 49 68) false (spec (at 55 68) ((nm 55 58 (codes "Ptr")) ∷ []) None (expr_and (ident (at 61 68) (codes "Pointer")) no_exprs) no_specs))) ∷ (fn (at 70 142) None (nm 75 79 (codes "main")) (sig [] []) (at 82 142) (stmt_and (const_decl (at 85 119) true (spec (at 95 112) ((nm 95 102 (codes "Pointer")) ∷ []) None (expr_and (binary (at 105 112) Add (ident (at 105 108) (codes "Ptr")) (int_lit (at 111 112) (codes "1"))) no_exprs) (spec (at 115 116) ((nm 115 116 (codes "Y")) ∷ []) None no_exprs no_specs))) (stmt_and (eval (at 121 140) (call (at 121 140) (ident (at 121 128) (codes "println")) (expr_and (ident (at 129 136) (codes "Pointer")) (expr_and (ident (at 138 139) (codes "Y")) no_exprs)) Plain)) no_stmts))) ∷ []) }

repeated_constant_f0_read : read_at span_to read_front (lexemes ((tok Keyword 0 7 (codes "package")) ∷ (tok Ident 8 12 (codes "main")) ∷ (tok Inserted 12 12 (codes ";")) ∷ (tok Keyword 14 19 (codes "const")) ∷ (tok Ident 20 27 (codes "Pointer")) ∷ (tok Operator 28 29 (codes "=")) ∷ (tok Integer 30 31 (codes "1")) ∷ (tok Inserted 31 31 (codes ";")) ∷ (tok Keyword 49 54 (codes "const")) ∷ (tok Ident 55 58 (codes "Ptr")) ∷ (tok Operator 59 60 (codes "=")) ∷ (tok Ident 61 68 (codes "Pointer")) ∷ (tok Inserted 68 68 (codes ";")) ∷ (tok Keyword 70 74 (codes "func")) ∷ (tok Ident 75 79 (codes "main")) ∷ (tok Operator 79 80 (codes "(")) ∷ (tok Operator 80 81 (codes ")")) ∷ (tok Operator 82 83 (codes "{")) ∷ (tok Keyword 85 90 (codes "const")) ∷ (tok Operator 91 92 (codes "(")) ∷ (tok Ident 95 102 (codes "Pointer")) ∷ (tok Operator 103 104 (codes "=")) ∷ (tok Ident 105 108 (codes "Ptr")) ∷ (tok Operator 109 110 (codes "+")) ∷ (tok Integer 111 112 (codes "1")) ∷ (tok Inserted 112 112 (codes ";")) ∷ (tok Ident 115 116 (codes "Y")) ∷ (tok Inserted 116 116 (codes ";")) ∷ (tok Operator 118 119 (codes ")")) ∷ (tok Inserted 119 119 (codes ";")) ∷ (tok Ident 121 128 (codes "println")) ∷ (tok Operator 128 129 (codes "(")) ∷ (tok Ident 129 136 (codes "Pointer")) ∷ (tok Operator 136 137 (codes ",")) ∷ (tok Ident 138 139 (codes "Y")) ∷ (tok Operator 139 140 (codes ")")) ∷ (tok Inserted 140 140 (codes ";")) ∷ (tok Operator 141 142 (codes "}")) ∷ (tok Inserted 142 142 (codes ";")) ∷ [])) ≡ Some (repeated_constant_f0, [])
unfolding reading
repeated_constant_f0_read = refl

abbrev repeated_constant : Module
repeated_constant = record { packages = (pack (codes "example.com/m") (codes "main") (source (codes "main.go") repeated_constant_f0 ∷ []) ∷ []); marks = (mark 0 0 1 0 ∷ []); texts = (((codes "main.go"), record { text = (codes "package main\n\nconst Pointer = 1\n\n//go:fix inline\nconst Ptr = Pointer\n\nfunc main() {\n\tconst (\n\t\tPointer = Ptr + 1\n\t\tY\n\t)\n\tprintln(Pointer, Y)\n}\n"); tokens = ((tok Keyword 0 7 (codes "package")) ∷ (tok Ident 8 12 (codes "main")) ∷ (tok Inserted 12 12 (codes ";")) ∷ (tok Keyword 14 19 (codes "const")) ∷ (tok Ident 20 27 (codes "Pointer")) ∷ (tok Operator 28 29 (codes "=")) ∷ (tok Integer 30 31 (codes "1")) ∷ (tok Inserted 31 31 (codes ";")) ∷ (tok Keyword 49 54 (codes "const")) ∷ (tok Ident 55 58 (codes "Ptr")) ∷ (tok Operator 59 60 (codes "=")) ∷ (tok Ident 61 68 (codes "Pointer")) ∷ (tok Inserted 68 68 (codes ";")) ∷ (tok Keyword 70 74 (codes "func")) ∷ (tok Ident 75 79 (codes "main")) ∷ (tok Operator 79 80 (codes "(")) ∷ (tok Operator 80 81 (codes ")")) ∷ (tok Operator 82 83 (codes "{")) ∷ (tok Keyword 85 90 (codes "const")) ∷ (tok Operator 91 92 (codes "(")) ∷ (tok Ident 95 102 (codes "Pointer")) ∷ (tok Operator 103 104 (codes "=")) ∷ (tok Ident 105 108 (codes "Ptr")) ∷ (tok Operator 109 110 (codes "+")) ∷ (tok Integer 111 112 (codes "1")) ∷ (tok Inserted 112 112 (codes ";")) ∷ (tok Ident 115 116 (codes "Y")) ∷ (tok Inserted 116 116 (codes ";")) ∷ (tok Operator 118 119 (codes ")")) ∷ (tok Inserted 119 119 (codes ";")) ∷ (tok Ident 121 128 (codes "println")) ∷ (tok Operator 128 129 (codes "(")) ∷ (tok Ident 129 136 (codes "Pointer")) ∷ (tok Operator 136 137 (codes ",")) ∷ (tok Ident 138 139 (codes "Y")) ∷ (tok Operator 139 140 (codes ")")) ∷ (tok Inserted 140 140 (codes ";")) ∷ (tok Operator 141 142 (codes "}")) ∷ (tok Inserted 142 142 (codes ";")) ∷ []); comments = ((note 33 48) ∷ []) }) ∷ []) }

repeated_constant_typed : is_typed repeated_constant ≡ true
repeated_constant_typed = refl

repeated_constant_ends : step_of repeated_constant ≡ None
repeated_constant_ends = refl

repeated_constant_kept : kept_uses repeated_constant ≡ (((codes "main.go"), 105, Some Repeated) ∷ [])
repeated_constant_kept = refl
