-- Imports: text before and after.
use Rattle.std.proofs.Common.{◌≡◌, refl}
use Rattle.std.specs.Prelude.{true, false, [], ◌∷◌, Some, None, codes}
use Rattle.go_tree.specs.declared.exprs.Rest.TheVariants.{Plain}
use Rattle.go_tree.specs.declared.spans.Span.{Span}
use Rattle.go_tree.specs.declared.tokens.TokenKind.TheVariants.{Ident, Keyword, Operator, Integer, Str, Inserted}
use Rattle.go_tree.specs.declared.operators.BinOp.TheVariants.{Div, Add}
use Rattle.go_tree.specs.Tree.{named, map_type, struct_type, no_fields, field, ident, int_lit, composite, selector, call, binary, no_exprs, expr_and, no_elems, elem, plain, braced, no_value, some_value, const_decl, var_decl, eval, define, return_, no_stmts, stmt_and, no_specs, spec}
use Rattle.go_tree.specs.File.{File, values, types}
use Rattle.run_rules.specs.FormTrees.{ConstForm, TypeForm, ExprForm}
use Rattle.run_rules.specs.Obstacles.{NotAccessible}
use Rattle.run_rules.proofs.CaseTools.{at, nm, tok, note, param, sig, imp, imps, tspec, recv, fn, pack, source, mark, Module, is_typed, first_change, step_of, kept_uses}
use Rattle.go_layout.specs.SpellsSpans.{span_to}
use Rattle.go_tree.specs.GoWords.Terminals.{lexemes}
use Rattle.go_tree.specs.GoWords.Tokens.Pieces.{keyword_spellings}
use Rattle.go_layout.specs.Goals.{read_front}
use Rattle.go_layout.proofs.Texts.{reading}
use Rattle.run_rules.proofs.CaseTools.{read_at}
use Rattle.pkg_graph.specs.ModuleFiles.Internal.{passes}
use Rattle.std.specs.Fmt.{digits}

-- A method of another package.
abbrev method_elsewhere_0_f0 : File Span
method_elsewhere_0_f0 = record { package_name = (nm 8 12 (codes "main")); imports = ((imps (at 14 40) false ((imp (at 21 40) None (codes "example.com/m/old")) ∷ [])) ∷ []); decls = ((fn (at 42 95) None (nm 47 51 (codes "main")) (sig [] []) (at 54 95) (stmt_and (define (at 57 73) ((nm 57 58 (codes "t")) ∷ []) (expr_and (composite (at 62 73) (named (at 62 67) (Some (nm 62 65 (codes "old"))) (nm 66 67 (codes "T"))) (elem (at 68 72) (some_value (plain (ident (at 68 69) (codes "N")))) (plain (int_lit (at 71 72) (codes "2"))) no_elems)) no_exprs)) (stmt_and (eval (at 75 93) (call (at 75 93) (ident (at 75 82) (codes "println")) (expr_and (call (at 83 92) (selector (at 83 90) (ident (at 83 84) (codes "t")) (nm 85 90 (codes "Twice"))) no_exprs Plain) no_exprs) Plain)) no_stmts))) ∷ []) }

abbrev method_elsewhere_0_f1 : File Span
method_elsewhere_0_f1 = record { package_name = (nm 8 11 (codes "old")); imports = []; decls = ((types (at 13 35) false ((tspec (at 18 35) (nm 18 19 (codes "T")) false (struct_type (at 20 35) (field (at 28 33) (nm 28 29 (codes "N")) (named (at 30 33) None (nm 30 33 (codes "int"))) no_fields))) ∷ [])) ∷ (fn (at 53 96) (Some (recv (at 59 62) (Some (nm 59 60 (codes "t"))) false (nm 61 62 (codes "T")))) (nm 64 69 (codes "Twice")) (sig [] ((param (at 72 75) None (named (at 72 75) None (nm 72 75 (codes "int")))) ∷ [])) (at 76 96) (stmt_and (return_ (at 78 94) (expr_and (binary (at 85 94) Add (selector (at 85 88) (ident (at 85 86) (codes "t")) (nm 87 88 (codes "N"))) (selector (at 91 94) (ident (at 91 92) (codes "t")) (nm 93 94 (codes "N")))) no_exprs)) no_stmts)) ∷ []) }

method_elsewhere_0_f0_read : read_at span_to read_front (lexemes ((tok Keyword 0 7 (codes "package")) ∷ (tok Ident 8 12 (codes "main")) ∷ (tok Inserted 12 12 (codes ";")) ∷ (tok Keyword 14 20 (codes "import")) ∷ (tok Str 21 40 (codes "\"example.com/m/old\"")) ∷ (tok Inserted 40 40 (codes ";")) ∷ (tok Keyword 42 46 (codes "func")) ∷ (tok Ident 47 51 (codes "main")) ∷ (tok Operator 51 52 (codes "(")) ∷ (tok Operator 52 53 (codes ")")) ∷ (tok Operator 54 55 (codes "{")) ∷ (tok Ident 57 58 (codes "t")) ∷ (tok Operator 59 61 (codes ":=")) ∷ (tok Ident 62 65 (codes "old")) ∷ (tok Operator 65 66 (codes ".")) ∷ (tok Ident 66 67 (codes "T")) ∷ (tok Operator 67 68 (codes "{")) ∷ (tok Ident 68 69 (codes "N")) ∷ (tok Operator 69 70 (codes ":")) ∷ (tok Integer 71 72 (codes "2")) ∷ (tok Operator 72 73 (codes "}")) ∷ (tok Inserted 73 73 (codes ";")) ∷ (tok Ident 75 82 (codes "println")) ∷ (tok Operator 82 83 (codes "(")) ∷ (tok Ident 83 84 (codes "t")) ∷ (tok Operator 84 85 (codes ".")) ∷ (tok Ident 85 90 (codes "Twice")) ∷ (tok Operator 90 91 (codes "(")) ∷ (tok Operator 91 92 (codes ")")) ∷ (tok Operator 92 93 (codes ")")) ∷ (tok Inserted 93 93 (codes ";")) ∷ (tok Operator 94 95 (codes "}")) ∷ (tok Inserted 95 95 (codes ";")) ∷ [])) ≡ Some (method_elsewhere_0_f0, [])
unfolding reading
method_elsewhere_0_f0_read = refl

method_elsewhere_0_f1_read : read_at span_to read_front (lexemes ((tok Keyword 0 7 (codes "package")) ∷ (tok Ident 8 11 (codes "old")) ∷ (tok Inserted 11 11 (codes ";")) ∷ (tok Keyword 13 17 (codes "type")) ∷ (tok Ident 18 19 (codes "T")) ∷ (tok Keyword 20 26 (codes "struct")) ∷ (tok Operator 26 27 (codes "{")) ∷ (tok Ident 28 29 (codes "N")) ∷ (tok Ident 30 33 (codes "int")) ∷ (tok Operator 34 35 (codes "}")) ∷ (tok Inserted 35 35 (codes ";")) ∷ (tok Keyword 53 57 (codes "func")) ∷ (tok Operator 58 59 (codes "(")) ∷ (tok Ident 59 60 (codes "t")) ∷ (tok Ident 61 62 (codes "T")) ∷ (tok Operator 62 63 (codes ")")) ∷ (tok Ident 64 69 (codes "Twice")) ∷ (tok Operator 69 70 (codes "(")) ∷ (tok Operator 70 71 (codes ")")) ∷ (tok Ident 72 75 (codes "int")) ∷ (tok Operator 76 77 (codes "{")) ∷ (tok Keyword 78 84 (codes "return")) ∷ (tok Ident 85 86 (codes "t")) ∷ (tok Operator 86 87 (codes ".")) ∷ (tok Ident 87 88 (codes "N")) ∷ (tok Operator 89 90 (codes "+")) ∷ (tok Ident 91 92 (codes "t")) ∷ (tok Operator 92 93 (codes ".")) ∷ (tok Ident 93 94 (codes "N")) ∷ (tok Operator 95 96 (codes "}")) ∷ (tok Inserted 96 96 (codes ";")) ∷ [])) ≡ Some (method_elsewhere_0_f1, [])
unfolding reading
method_elsewhere_0_f1_read = refl

abbrev method_elsewhere_0 : Module
method_elsewhere_0 = record { packages = (pack (codes "example.com/m") (codes "main") (source (codes "main.go") method_elsewhere_0_f0 ∷ []) ∷ pack (codes "example.com/m/old") (codes "old") (source (codes "old/old.go") method_elsewhere_0_f1 ∷ []) ∷ []); marks = (mark 1 0 1 0 ∷ []); texts = (((codes "main.go"), record { text = (codes "package main\n\nimport \"example.com/m/old\"\n\nfunc main() {\n\tt := old.T{N: 2}\n\tprintln(t.Twice())\n}\n"); tokens = ((tok Keyword 0 7 (codes "package")) ∷ (tok Ident 8 12 (codes "main")) ∷ (tok Inserted 12 12 (codes ";")) ∷ (tok Keyword 14 20 (codes "import")) ∷ (tok Str 21 40 (codes "\"example.com/m/old\"")) ∷ (tok Inserted 40 40 (codes ";")) ∷ (tok Keyword 42 46 (codes "func")) ∷ (tok Ident 47 51 (codes "main")) ∷ (tok Operator 51 52 (codes "(")) ∷ (tok Operator 52 53 (codes ")")) ∷ (tok Operator 54 55 (codes "{")) ∷ (tok Ident 57 58 (codes "t")) ∷ (tok Operator 59 61 (codes ":=")) ∷ (tok Ident 62 65 (codes "old")) ∷ (tok Operator 65 66 (codes ".")) ∷ (tok Ident 66 67 (codes "T")) ∷ (tok Operator 67 68 (codes "{")) ∷ (tok Ident 68 69 (codes "N")) ∷ (tok Operator 69 70 (codes ":")) ∷ (tok Integer 71 72 (codes "2")) ∷ (tok Operator 72 73 (codes "}")) ∷ (tok Inserted 73 73 (codes ";")) ∷ (tok Ident 75 82 (codes "println")) ∷ (tok Operator 82 83 (codes "(")) ∷ (tok Ident 83 84 (codes "t")) ∷ (tok Operator 84 85 (codes ".")) ∷ (tok Ident 85 90 (codes "Twice")) ∷ (tok Operator 90 91 (codes "(")) ∷ (tok Operator 91 92 (codes ")")) ∷ (tok Operator 92 93 (codes ")")) ∷ (tok Inserted 93 93 (codes ";")) ∷ (tok Operator 94 95 (codes "}")) ∷ (tok Inserted 95 95 (codes ";")) ∷ []); comments = [] }) ∷ ((codes "old/old.go"), record { text = (codes "package old\n\ntype T struct{ N int }\n\n//go:fix inline\nfunc (t T) Twice() int { return t.N + t.N }\n"); tokens = ((tok Keyword 0 7 (codes "package")) ∷ (tok Ident 8 11 (codes "old")) ∷ (tok Inserted 11 11 (codes ";")) ∷ (tok Keyword 13 17 (codes "type")) ∷ (tok Ident 18 19 (codes "T")) ∷ (tok Keyword 20 26 (codes "struct")) ∷ (tok Operator 26 27 (codes "{")) ∷ (tok Ident 28 29 (codes "N")) ∷ (tok Ident 30 33 (codes "int")) ∷ (tok Operator 34 35 (codes "}")) ∷ (tok Inserted 35 35 (codes ";")) ∷ (tok Keyword 53 57 (codes "func")) ∷ (tok Operator 58 59 (codes "(")) ∷ (tok Ident 59 60 (codes "t")) ∷ (tok Ident 61 62 (codes "T")) ∷ (tok Operator 62 63 (codes ")")) ∷ (tok Ident 64 69 (codes "Twice")) ∷ (tok Operator 69 70 (codes "(")) ∷ (tok Operator 70 71 (codes ")")) ∷ (tok Ident 72 75 (codes "int")) ∷ (tok Operator 76 77 (codes "{")) ∷ (tok Keyword 78 84 (codes "return")) ∷ (tok Ident 85 86 (codes "t")) ∷ (tok Operator 86 87 (codes ".")) ∷ (tok Ident 87 88 (codes "N")) ∷ (tok Operator 89 90 (codes "+")) ∷ (tok Ident 91 92 (codes "t")) ∷ (tok Operator 92 93 (codes ".")) ∷ (tok Ident 93 94 (codes "N")) ∷ (tok Operator 95 96 (codes "}")) ∷ (tok Inserted 96 96 (codes ";")) ∷ []); comments = ((note 37 52) ∷ []) }) ∷ []) }

method_elsewhere_0_typed : is_typed method_elsewhere_0 ≡ true
method_elsewhere_0_typed = refl

method_elsewhere_0_step : first_change method_elsewhere_0 ≡ Some ((codes "main.go"), ExprForm, (codes "package main\n\nimport \"example.com/m/old\"\n\nfunc main() {\n\tt := old.T{N: 2}\n\tprintln(t.N + t.N)\n}\n"))
unfolding passes keyword_spellings digits
method_elsewhere_0_step = refl

abbrev method_elsewhere_1_f0 : File Span
method_elsewhere_1_f0 = record { package_name = (nm 8 12 (codes "main")); imports = ((imps (at 14 40) false ((imp (at 21 40) None (codes "example.com/m/old")) ∷ [])) ∷ []); decls = ((fn (at 42 95) None (nm 47 51 (codes "main")) (sig [] []) (at 54 95) (stmt_and (define (at 57 73) ((nm 57 58 (codes "t")) ∷ []) (expr_and (composite (at 62 73) (named (at 62 67) (Some (nm 62 65 (codes "old"))) (nm 66 67 (codes "T"))) (elem (at 68 72) (some_value (plain (ident (at 68 69) (codes "N")))) (plain (int_lit (at 71 72) (codes "2"))) no_elems)) no_exprs)) (stmt_and (eval (at 75 93) (call (at 75 93) (ident (at 75 82) (codes "println")) (expr_and (binary (at 83 92) Add (selector (at 83 86) (ident (at 83 84) (codes "t")) (nm 85 86 (codes "N"))) (selector (at 89 92) (ident (at 89 90) (codes "t")) (nm 91 92 (codes "N")))) no_exprs) Plain)) no_stmts))) ∷ []) }

abbrev method_elsewhere_1_f1 : File Span
method_elsewhere_1_f1 = record { package_name = (nm 8 11 (codes "old")); imports = []; decls = ((types (at 13 35) false ((tspec (at 18 35) (nm 18 19 (codes "T")) false (struct_type (at 20 35) (field (at 28 33) (nm 28 29 (codes "N")) (named (at 30 33) None (nm 30 33 (codes "int"))) no_fields))) ∷ [])) ∷ (fn (at 53 96) (Some (recv (at 59 62) (Some (nm 59 60 (codes "t"))) false (nm 61 62 (codes "T")))) (nm 64 69 (codes "Twice")) (sig [] ((param (at 72 75) None (named (at 72 75) None (nm 72 75 (codes "int")))) ∷ [])) (at 76 96) (stmt_and (return_ (at 78 94) (expr_and (binary (at 85 94) Add (selector (at 85 88) (ident (at 85 86) (codes "t")) (nm 87 88 (codes "N"))) (selector (at 91 94) (ident (at 91 92) (codes "t")) (nm 93 94 (codes "N")))) no_exprs)) no_stmts)) ∷ []) }

method_elsewhere_1_f0_read : read_at span_to read_front (lexemes ((tok Keyword 0 7 (codes "package")) ∷ (tok Ident 8 12 (codes "main")) ∷ (tok Inserted 12 12 (codes ";")) ∷ (tok Keyword 14 20 (codes "import")) ∷ (tok Str 21 40 (codes "\"example.com/m/old\"")) ∷ (tok Inserted 40 40 (codes ";")) ∷ (tok Keyword 42 46 (codes "func")) ∷ (tok Ident 47 51 (codes "main")) ∷ (tok Operator 51 52 (codes "(")) ∷ (tok Operator 52 53 (codes ")")) ∷ (tok Operator 54 55 (codes "{")) ∷ (tok Ident 57 58 (codes "t")) ∷ (tok Operator 59 61 (codes ":=")) ∷ (tok Ident 62 65 (codes "old")) ∷ (tok Operator 65 66 (codes ".")) ∷ (tok Ident 66 67 (codes "T")) ∷ (tok Operator 67 68 (codes "{")) ∷ (tok Ident 68 69 (codes "N")) ∷ (tok Operator 69 70 (codes ":")) ∷ (tok Integer 71 72 (codes "2")) ∷ (tok Operator 72 73 (codes "}")) ∷ (tok Inserted 73 73 (codes ";")) ∷ (tok Ident 75 82 (codes "println")) ∷ (tok Operator 82 83 (codes "(")) ∷ (tok Ident 83 84 (codes "t")) ∷ (tok Operator 84 85 (codes ".")) ∷ (tok Ident 85 86 (codes "N")) ∷ (tok Operator 87 88 (codes "+")) ∷ (tok Ident 89 90 (codes "t")) ∷ (tok Operator 90 91 (codes ".")) ∷ (tok Ident 91 92 (codes "N")) ∷ (tok Operator 92 93 (codes ")")) ∷ (tok Inserted 93 93 (codes ";")) ∷ (tok Operator 94 95 (codes "}")) ∷ (tok Inserted 95 95 (codes ";")) ∷ [])) ≡ Some (method_elsewhere_1_f0, [])
unfolding reading
method_elsewhere_1_f0_read = refl

abbrev method_elsewhere_1 : Module
method_elsewhere_1 = record { packages = (pack (codes "example.com/m") (codes "main") (source (codes "main.go") method_elsewhere_1_f0 ∷ []) ∷ pack (codes "example.com/m/old") (codes "old") (source (codes "old/old.go") method_elsewhere_1_f1 ∷ []) ∷ []); marks = (mark 1 0 1 0 ∷ []); texts = (((codes "main.go"), record { text = (codes "package main\n\nimport \"example.com/m/old\"\n\nfunc main() {\n\tt := old.T{N: 2}\n\tprintln(t.N + t.N)\n}\n"); tokens = ((tok Keyword 0 7 (codes "package")) ∷ (tok Ident 8 12 (codes "main")) ∷ (tok Inserted 12 12 (codes ";")) ∷ (tok Keyword 14 20 (codes "import")) ∷ (tok Str 21 40 (codes "\"example.com/m/old\"")) ∷ (tok Inserted 40 40 (codes ";")) ∷ (tok Keyword 42 46 (codes "func")) ∷ (tok Ident 47 51 (codes "main")) ∷ (tok Operator 51 52 (codes "(")) ∷ (tok Operator 52 53 (codes ")")) ∷ (tok Operator 54 55 (codes "{")) ∷ (tok Ident 57 58 (codes "t")) ∷ (tok Operator 59 61 (codes ":=")) ∷ (tok Ident 62 65 (codes "old")) ∷ (tok Operator 65 66 (codes ".")) ∷ (tok Ident 66 67 (codes "T")) ∷ (tok Operator 67 68 (codes "{")) ∷ (tok Ident 68 69 (codes "N")) ∷ (tok Operator 69 70 (codes ":")) ∷ (tok Integer 71 72 (codes "2")) ∷ (tok Operator 72 73 (codes "}")) ∷ (tok Inserted 73 73 (codes ";")) ∷ (tok Ident 75 82 (codes "println")) ∷ (tok Operator 82 83 (codes "(")) ∷ (tok Ident 83 84 (codes "t")) ∷ (tok Operator 84 85 (codes ".")) ∷ (tok Ident 85 86 (codes "N")) ∷ (tok Operator 87 88 (codes "+")) ∷ (tok Ident 89 90 (codes "t")) ∷ (tok Operator 90 91 (codes ".")) ∷ (tok Ident 91 92 (codes "N")) ∷ (tok Operator 92 93 (codes ")")) ∷ (tok Inserted 93 93 (codes ";")) ∷ (tok Operator 94 95 (codes "}")) ∷ (tok Inserted 95 95 (codes ";")) ∷ []); comments = [] }) ∷ ((codes "old/old.go"), record { text = (codes "package old\n\ntype T struct{ N int }\n\n//go:fix inline\nfunc (t T) Twice() int { return t.N + t.N }\n"); tokens = ((tok Keyword 0 7 (codes "package")) ∷ (tok Ident 8 11 (codes "old")) ∷ (tok Inserted 11 11 (codes ";")) ∷ (tok Keyword 13 17 (codes "type")) ∷ (tok Ident 18 19 (codes "T")) ∷ (tok Keyword 20 26 (codes "struct")) ∷ (tok Operator 26 27 (codes "{")) ∷ (tok Ident 28 29 (codes "N")) ∷ (tok Ident 30 33 (codes "int")) ∷ (tok Operator 34 35 (codes "}")) ∷ (tok Inserted 35 35 (codes ";")) ∷ (tok Keyword 53 57 (codes "func")) ∷ (tok Operator 58 59 (codes "(")) ∷ (tok Ident 59 60 (codes "t")) ∷ (tok Ident 61 62 (codes "T")) ∷ (tok Operator 62 63 (codes ")")) ∷ (tok Ident 64 69 (codes "Twice")) ∷ (tok Operator 69 70 (codes "(")) ∷ (tok Operator 70 71 (codes ")")) ∷ (tok Ident 72 75 (codes "int")) ∷ (tok Operator 76 77 (codes "{")) ∷ (tok Keyword 78 84 (codes "return")) ∷ (tok Ident 85 86 (codes "t")) ∷ (tok Operator 86 87 (codes ".")) ∷ (tok Ident 87 88 (codes "N")) ∷ (tok Operator 89 90 (codes "+")) ∷ (tok Ident 91 92 (codes "t")) ∷ (tok Operator 92 93 (codes ".")) ∷ (tok Ident 93 94 (codes "N")) ∷ (tok Operator 95 96 (codes "}")) ∷ (tok Inserted 96 96 (codes ";")) ∷ []); comments = ((note 37 52) ∷ []) }) ∷ []) }

method_elsewhere_1_typed : is_typed method_elsewhere_1 ≡ true
method_elsewhere_1_typed = refl

method_elsewhere_1_ends : step_of method_elsewhere_1 ≡ None
unfolding passes keyword_spellings digits
method_elsewhere_1_ends = refl

method_elsewhere_1_kept : kept_uses method_elsewhere_1 ≡ []
unfolding passes keyword_spellings digits
method_elsewhere_1_kept = refl

-- A method that is not exported.
abbrev hidden_method_f0 : File Span
hidden_method_f0 = record { package_name = (nm 8 12 (codes "main")); imports = ((imps (at 14 40) false ((imp (at 21 40) None (codes "example.com/m/old")) ∷ [])) ∷ []); decls = ((fn (at 42 94) None (nm 47 51 (codes "main")) (sig [] []) (at 54 94) (stmt_and (define (at 57 73) ((nm 57 58 (codes "t")) ∷ []) (expr_and (composite (at 62 73) (named (at 62 67) (Some (nm 62 65 (codes "old"))) (nm 66 67 (codes "T"))) (elem (at 68 72) (some_value (plain (ident (at 68 69) (codes "N")))) (plain (int_lit (at 71 72) (codes "2"))) no_elems)) no_exprs)) (stmt_and (eval (at 75 92) (call (at 75 92) (ident (at 75 82) (codes "println")) (expr_and (call (at 83 91) (selector (at 83 89) (ident (at 83 84) (codes "t")) (nm 85 89 (codes "Half"))) no_exprs Plain) no_exprs) Plain)) no_stmts))) ∷ []) }

abbrev hidden_method_f1 : File Span
hidden_method_f1 = record { package_name = (nm 8 11 (codes "old")); imports = []; decls = ((types (at 13 35) false ((tspec (at 18 35) (nm 18 19 (codes "T")) false (struct_type (at 20 35) (field (at 28 33) (nm 28 29 (codes "N")) (named (at 30 33) None (nm 30 33 (codes "int"))) no_fields))) ∷ [])) ∷ (fn (at 37 77) (Some (recv (at 43 46) (Some (nm 43 44 (codes "t"))) false (nm 45 46 (codes "T")))) (nm 48 52 (codes "half")) (sig [] ((param (at 55 58) None (named (at 55 58) None (nm 55 58 (codes "int")))) ∷ [])) (at 59 77) (stmt_and (return_ (at 61 75) (expr_and (binary (at 68 75) Div (selector (at 68 71) (ident (at 68 69) (codes "t")) (nm 70 71 (codes "N"))) (int_lit (at 74 75) (codes "2"))) no_exprs)) no_stmts)) ∷ (fn (at 95 136) (Some (recv (at 101 104) (Some (nm 101 102 (codes "t"))) false (nm 103 104 (codes "T")))) (nm 106 110 (codes "Half")) (sig [] ((param (at 113 116) None (named (at 113 116) None (nm 113 116 (codes "int")))) ∷ [])) (at 117 136) (stmt_and (return_ (at 119 134) (expr_and (call (at 126 134) (selector (at 126 132) (ident (at 126 127) (codes "t")) (nm 128 132 (codes "half"))) no_exprs Plain) no_exprs)) no_stmts)) ∷ []) }

hidden_method_f0_read : read_at span_to read_front (lexemes ((tok Keyword 0 7 (codes "package")) ∷ (tok Ident 8 12 (codes "main")) ∷ (tok Inserted 12 12 (codes ";")) ∷ (tok Keyword 14 20 (codes "import")) ∷ (tok Str 21 40 (codes "\"example.com/m/old\"")) ∷ (tok Inserted 40 40 (codes ";")) ∷ (tok Keyword 42 46 (codes "func")) ∷ (tok Ident 47 51 (codes "main")) ∷ (tok Operator 51 52 (codes "(")) ∷ (tok Operator 52 53 (codes ")")) ∷ (tok Operator 54 55 (codes "{")) ∷ (tok Ident 57 58 (codes "t")) ∷ (tok Operator 59 61 (codes ":=")) ∷ (tok Ident 62 65 (codes "old")) ∷ (tok Operator 65 66 (codes ".")) ∷ (tok Ident 66 67 (codes "T")) ∷ (tok Operator 67 68 (codes "{")) ∷ (tok Ident 68 69 (codes "N")) ∷ (tok Operator 69 70 (codes ":")) ∷ (tok Integer 71 72 (codes "2")) ∷ (tok Operator 72 73 (codes "}")) ∷ (tok Inserted 73 73 (codes ";")) ∷ (tok Ident 75 82 (codes "println")) ∷ (tok Operator 82 83 (codes "(")) ∷ (tok Ident 83 84 (codes "t")) ∷ (tok Operator 84 85 (codes ".")) ∷ (tok Ident 85 89 (codes "Half")) ∷ (tok Operator 89 90 (codes "(")) ∷ (tok Operator 90 91 (codes ")")) ∷ (tok Operator 91 92 (codes ")")) ∷ (tok Inserted 92 92 (codes ";")) ∷ (tok Operator 93 94 (codes "}")) ∷ (tok Inserted 94 94 (codes ";")) ∷ [])) ≡ Some (hidden_method_f0, [])
unfolding reading
hidden_method_f0_read = refl

hidden_method_f1_read : read_at span_to read_front (lexemes ((tok Keyword 0 7 (codes "package")) ∷ (tok Ident 8 11 (codes "old")) ∷ (tok Inserted 11 11 (codes ";")) ∷ (tok Keyword 13 17 (codes "type")) ∷ (tok Ident 18 19 (codes "T")) ∷ (tok Keyword 20 26 (codes "struct")) ∷ (tok Operator 26 27 (codes "{")) ∷ (tok Ident 28 29 (codes "N")) ∷ (tok Ident 30 33 (codes "int")) ∷ (tok Operator 34 35 (codes "}")) ∷ (tok Inserted 35 35 (codes ";")) ∷ (tok Keyword 37 41 (codes "func")) ∷ (tok Operator 42 43 (codes "(")) ∷ (tok Ident 43 44 (codes "t")) ∷ (tok Ident 45 46 (codes "T")) ∷ (tok Operator 46 47 (codes ")")) ∷ (tok Ident 48 52 (codes "half")) ∷ (tok Operator 52 53 (codes "(")) ∷ (tok Operator 53 54 (codes ")")) ∷ (tok Ident 55 58 (codes "int")) ∷ (tok Operator 59 60 (codes "{")) ∷ (tok Keyword 61 67 (codes "return")) ∷ (tok Ident 68 69 (codes "t")) ∷ (tok Operator 69 70 (codes ".")) ∷ (tok Ident 70 71 (codes "N")) ∷ (tok Operator 72 73 (codes "/")) ∷ (tok Integer 74 75 (codes "2")) ∷ (tok Operator 76 77 (codes "}")) ∷ (tok Inserted 77 77 (codes ";")) ∷ (tok Keyword 95 99 (codes "func")) ∷ (tok Operator 100 101 (codes "(")) ∷ (tok Ident 101 102 (codes "t")) ∷ (tok Ident 103 104 (codes "T")) ∷ (tok Operator 104 105 (codes ")")) ∷ (tok Ident 106 110 (codes "Half")) ∷ (tok Operator 110 111 (codes "(")) ∷ (tok Operator 111 112 (codes ")")) ∷ (tok Ident 113 116 (codes "int")) ∷ (tok Operator 117 118 (codes "{")) ∷ (tok Keyword 119 125 (codes "return")) ∷ (tok Ident 126 127 (codes "t")) ∷ (tok Operator 127 128 (codes ".")) ∷ (tok Ident 128 132 (codes "half")) ∷ (tok Operator 132 133 (codes "(")) ∷ (tok Operator 133 134 (codes ")")) ∷ (tok Operator 135 136 (codes "}")) ∷ (tok Inserted 136 136 (codes ";")) ∷ [])) ≡ Some (hidden_method_f1, [])
unfolding reading
hidden_method_f1_read = refl

abbrev hidden_method : Module
hidden_method = record { packages = (pack (codes "example.com/m") (codes "main") (source (codes "main.go") hidden_method_f0 ∷ []) ∷ pack (codes "example.com/m/old") (codes "old") (source (codes "old/old.go") hidden_method_f1 ∷ []) ∷ []); marks = (mark 1 0 2 0 ∷ []); texts = (((codes "main.go"), record { text = (codes "package main\n\nimport \"example.com/m/old\"\n\nfunc main() {\n\tt := old.T{N: 2}\n\tprintln(t.Half())\n}\n"); tokens = ((tok Keyword 0 7 (codes "package")) ∷ (tok Ident 8 12 (codes "main")) ∷ (tok Inserted 12 12 (codes ";")) ∷ (tok Keyword 14 20 (codes "import")) ∷ (tok Str 21 40 (codes "\"example.com/m/old\"")) ∷ (tok Inserted 40 40 (codes ";")) ∷ (tok Keyword 42 46 (codes "func")) ∷ (tok Ident 47 51 (codes "main")) ∷ (tok Operator 51 52 (codes "(")) ∷ (tok Operator 52 53 (codes ")")) ∷ (tok Operator 54 55 (codes "{")) ∷ (tok Ident 57 58 (codes "t")) ∷ (tok Operator 59 61 (codes ":=")) ∷ (tok Ident 62 65 (codes "old")) ∷ (tok Operator 65 66 (codes ".")) ∷ (tok Ident 66 67 (codes "T")) ∷ (tok Operator 67 68 (codes "{")) ∷ (tok Ident 68 69 (codes "N")) ∷ (tok Operator 69 70 (codes ":")) ∷ (tok Integer 71 72 (codes "2")) ∷ (tok Operator 72 73 (codes "}")) ∷ (tok Inserted 73 73 (codes ";")) ∷ (tok Ident 75 82 (codes "println")) ∷ (tok Operator 82 83 (codes "(")) ∷ (tok Ident 83 84 (codes "t")) ∷ (tok Operator 84 85 (codes ".")) ∷ (tok Ident 85 89 (codes "Half")) ∷ (tok Operator 89 90 (codes "(")) ∷ (tok Operator 90 91 (codes ")")) ∷ (tok Operator 91 92 (codes ")")) ∷ (tok Inserted 92 92 (codes ";")) ∷ (tok Operator 93 94 (codes "}")) ∷ (tok Inserted 94 94 (codes ";")) ∷ []); comments = [] }) ∷ ((codes "old/old.go"), record { text = (codes "package old\n\ntype T struct{ N int }\n\nfunc (t T) half() int { return t.N / 2 }\n\n//go:fix inline\nfunc (t T) Half() int { return t.half() }\n"); tokens = ((tok Keyword 0 7 (codes "package")) ∷ (tok Ident 8 11 (codes "old")) ∷ (tok Inserted 11 11 (codes ";")) ∷ (tok Keyword 13 17 (codes "type")) ∷ (tok Ident 18 19 (codes "T")) ∷ (tok Keyword 20 26 (codes "struct")) ∷ (tok Operator 26 27 (codes "{")) ∷ (tok Ident 28 29 (codes "N")) ∷ (tok Ident 30 33 (codes "int")) ∷ (tok Operator 34 35 (codes "}")) ∷ (tok Inserted 35 35 (codes ";")) ∷ (tok Keyword 37 41 (codes "func")) ∷ (tok Operator 42 43 (codes "(")) ∷ (tok Ident 43 44 (codes "t")) ∷ (tok Ident 45 46 (codes "T")) ∷ (tok Operator 46 47 (codes ")")) ∷ (tok Ident 48 52 (codes "half")) ∷ (tok Operator 52 53 (codes "(")) ∷ (tok Operator 53 54 (codes ")")) ∷ (tok Ident 55 58 (codes "int")) ∷ (tok Operator 59 60 (codes "{")) ∷ (tok Keyword 61 67 (codes "return")) ∷ (tok Ident 68 69 (codes "t")) ∷ (tok Operator 69 70 (codes ".")) ∷ (tok Ident 70 71 (codes "N")) ∷ (tok Operator 72 73 (codes "/")) ∷ (tok Integer 74 75 (codes "2")) ∷ (tok Operator 76 77 (codes "}")) ∷ (tok Inserted 77 77 (codes ";")) ∷ (tok Keyword 95 99 (codes "func")) ∷ (tok Operator 100 101 (codes "(")) ∷ (tok Ident 101 102 (codes "t")) ∷ (tok Ident 103 104 (codes "T")) ∷ (tok Operator 104 105 (codes ")")) ∷ (tok Ident 106 110 (codes "Half")) ∷ (tok Operator 110 111 (codes "(")) ∷ (tok Operator 111 112 (codes ")")) ∷ (tok Ident 113 116 (codes "int")) ∷ (tok Operator 117 118 (codes "{")) ∷ (tok Keyword 119 125 (codes "return")) ∷ (tok Ident 126 127 (codes "t")) ∷ (tok Operator 127 128 (codes ".")) ∷ (tok Ident 128 132 (codes "half")) ∷ (tok Operator 132 133 (codes "(")) ∷ (tok Operator 133 134 (codes ")")) ∷ (tok Operator 135 136 (codes "}")) ∷ (tok Inserted 136 136 (codes ";")) ∷ []); comments = ((note 79 94) ∷ []) }) ∷ []) }

hidden_method_typed : is_typed hidden_method ≡ true
hidden_method_typed = refl

hidden_method_ends : step_of hidden_method ≡ None
unfolding passes keyword_spellings digits
hidden_method_ends = refl

hidden_method_kept : kept_uses hidden_method ≡ (((codes "main.go"), 83, Some (NotAccessible (codes "half"))) ∷ [])
unfolding passes keyword_spellings digits
hidden_method_kept = refl

-- A struct type with a field that is not exported.
abbrev hidden_in_struct_type_f0 : File Span
hidden_in_struct_type_f0 = record { package_name = (nm 8 12 (codes "main")); imports = ((imps (at 14 40) false ((imp (at 21 40) None (codes "example.com/m/old")) ∷ [])) ∷ []); decls = ((fn (at 42 69) None (nm 47 51 (codes "main")) (sig [] []) (at 54 69) (stmt_and (eval (at 57 67) (call (at 57 67) (selector (at 57 65) (ident (at 57 60) (codes "old")) (nm 61 65 (codes "Make"))) no_exprs Plain)) no_stmts)) ∷ []) }

abbrev hidden_in_struct_type_f1 : File Span
hidden_in_struct_type_f1 = record { package_name = (nm 8 11 (codes "old")); imports = []; decls = ((fn (at 29 93) None (nm 34 38 (codes "Make")) (sig [] ((param (at 41 56) None (struct_type (at 41 56) (field (at 49 54) (nm 49 50 (codes "n")) (named (at 51 54) None (nm 51 54 (codes "int"))) no_fields))) ∷ [])) (at 57 93) (stmt_and (var_decl (at 60 81) false (spec (at 64 81) ((nm 64 65 (codes "v")) ∷ []) (Some (struct_type (at 66 81) (field (at 74 79) (nm 74 75 (codes "n")) (named (at 76 79) None (nm 76 79 (codes "int"))) no_fields))) no_exprs no_specs)) (stmt_and (return_ (at 83 91) (expr_and (ident (at 90 91) (codes "v")) no_exprs)) no_stmts))) ∷ []) }

hidden_in_struct_type_f0_read : read_at span_to read_front (lexemes ((tok Keyword 0 7 (codes "package")) ∷ (tok Ident 8 12 (codes "main")) ∷ (tok Inserted 12 12 (codes ";")) ∷ (tok Keyword 14 20 (codes "import")) ∷ (tok Str 21 40 (codes "\"example.com/m/old\"")) ∷ (tok Inserted 40 40 (codes ";")) ∷ (tok Keyword 42 46 (codes "func")) ∷ (tok Ident 47 51 (codes "main")) ∷ (tok Operator 51 52 (codes "(")) ∷ (tok Operator 52 53 (codes ")")) ∷ (tok Operator 54 55 (codes "{")) ∷ (tok Ident 57 60 (codes "old")) ∷ (tok Operator 60 61 (codes ".")) ∷ (tok Ident 61 65 (codes "Make")) ∷ (tok Operator 65 66 (codes "(")) ∷ (tok Operator 66 67 (codes ")")) ∷ (tok Inserted 67 67 (codes ";")) ∷ (tok Operator 68 69 (codes "}")) ∷ (tok Inserted 69 69 (codes ";")) ∷ [])) ≡ Some (hidden_in_struct_type_f0, [])
unfolding reading
hidden_in_struct_type_f0_read = refl

hidden_in_struct_type_f1_read : read_at span_to read_front (lexemes ((tok Keyword 0 7 (codes "package")) ∷ (tok Ident 8 11 (codes "old")) ∷ (tok Inserted 11 11 (codes ";")) ∷ (tok Keyword 29 33 (codes "func")) ∷ (tok Ident 34 38 (codes "Make")) ∷ (tok Operator 38 39 (codes "(")) ∷ (tok Operator 39 40 (codes ")")) ∷ (tok Keyword 41 47 (codes "struct")) ∷ (tok Operator 47 48 (codes "{")) ∷ (tok Ident 49 50 (codes "n")) ∷ (tok Ident 51 54 (codes "int")) ∷ (tok Operator 55 56 (codes "}")) ∷ (tok Operator 57 58 (codes "{")) ∷ (tok Keyword 60 63 (codes "var")) ∷ (tok Ident 64 65 (codes "v")) ∷ (tok Keyword 66 72 (codes "struct")) ∷ (tok Operator 72 73 (codes "{")) ∷ (tok Ident 74 75 (codes "n")) ∷ (tok Ident 76 79 (codes "int")) ∷ (tok Operator 80 81 (codes "}")) ∷ (tok Inserted 81 81 (codes ";")) ∷ (tok Keyword 83 89 (codes "return")) ∷ (tok Ident 90 91 (codes "v")) ∷ (tok Inserted 91 91 (codes ";")) ∷ (tok Operator 92 93 (codes "}")) ∷ (tok Inserted 93 93 (codes ";")) ∷ [])) ≡ Some (hidden_in_struct_type_f1, [])
unfolding reading
hidden_in_struct_type_f1_read = refl

abbrev hidden_in_struct_type : Module
hidden_in_struct_type = record { packages = (pack (codes "example.com/m") (codes "main") (source (codes "main.go") hidden_in_struct_type_f0 ∷ []) ∷ pack (codes "example.com/m/old") (codes "old") (source (codes "old/old.go") hidden_in_struct_type_f1 ∷ []) ∷ []); marks = (mark 1 0 0 0 ∷ []); texts = (((codes "main.go"), record { text = (codes "package main\n\nimport \"example.com/m/old\"\n\nfunc main() {\n\told.Make()\n}\n"); tokens = ((tok Keyword 0 7 (codes "package")) ∷ (tok Ident 8 12 (codes "main")) ∷ (tok Inserted 12 12 (codes ";")) ∷ (tok Keyword 14 20 (codes "import")) ∷ (tok Str 21 40 (codes "\"example.com/m/old\"")) ∷ (tok Inserted 40 40 (codes ";")) ∷ (tok Keyword 42 46 (codes "func")) ∷ (tok Ident 47 51 (codes "main")) ∷ (tok Operator 51 52 (codes "(")) ∷ (tok Operator 52 53 (codes ")")) ∷ (tok Operator 54 55 (codes "{")) ∷ (tok Ident 57 60 (codes "old")) ∷ (tok Operator 60 61 (codes ".")) ∷ (tok Ident 61 65 (codes "Make")) ∷ (tok Operator 65 66 (codes "(")) ∷ (tok Operator 66 67 (codes ")")) ∷ (tok Inserted 67 67 (codes ";")) ∷ (tok Operator 68 69 (codes "}")) ∷ (tok Inserted 69 69 (codes ";")) ∷ []); comments = [] }) ∷ ((codes "old/old.go"), record { text = (codes "package old\n\n//go:fix inline\nfunc Make() struct{ n int } {\n\tvar v struct{ n int }\n\treturn v\n}\n"); tokens = ((tok Keyword 0 7 (codes "package")) ∷ (tok Ident 8 11 (codes "old")) ∷ (tok Inserted 11 11 (codes ";")) ∷ (tok Keyword 29 33 (codes "func")) ∷ (tok Ident 34 38 (codes "Make")) ∷ (tok Operator 38 39 (codes "(")) ∷ (tok Operator 39 40 (codes ")")) ∷ (tok Keyword 41 47 (codes "struct")) ∷ (tok Operator 47 48 (codes "{")) ∷ (tok Ident 49 50 (codes "n")) ∷ (tok Ident 51 54 (codes "int")) ∷ (tok Operator 55 56 (codes "}")) ∷ (tok Operator 57 58 (codes "{")) ∷ (tok Keyword 60 63 (codes "var")) ∷ (tok Ident 64 65 (codes "v")) ∷ (tok Keyword 66 72 (codes "struct")) ∷ (tok Operator 72 73 (codes "{")) ∷ (tok Ident 74 75 (codes "n")) ∷ (tok Ident 76 79 (codes "int")) ∷ (tok Operator 80 81 (codes "}")) ∷ (tok Inserted 81 81 (codes ";")) ∷ (tok Keyword 83 89 (codes "return")) ∷ (tok Ident 90 91 (codes "v")) ∷ (tok Inserted 91 91 (codes ";")) ∷ (tok Operator 92 93 (codes "}")) ∷ (tok Inserted 93 93 (codes ";")) ∷ []); comments = ((note 13 28) ∷ []) }) ∷ []) }

hidden_in_struct_type_typed : is_typed hidden_in_struct_type ≡ true
hidden_in_struct_type_typed = refl

hidden_in_struct_type_ends : step_of hidden_in_struct_type ≡ None
unfolding passes keyword_spellings digits
hidden_in_struct_type_ends = refl

hidden_in_struct_type_kept : kept_uses hidden_in_struct_type ≡ (((codes "main.go"), 57, Some (NotAccessible (codes "n"))) ∷ [])
unfolding passes keyword_spellings digits
hidden_in_struct_type_kept = refl

-- Uses outside functions, and a conversion.
abbrev top_level_uses_0_f0 : File Span
top_level_uses_0_f0 = record { package_name = (nm 8 12 (codes "main")); imports = ((imps (at 14 40) false ((imp (at 21 40) None (codes "example.com/m/old")) ∷ [])) ∷ []); decls = ((values (var_decl (at 42 63) false (spec (at 46 63) ((nm 46 47 (codes "v")) ∷ []) (Some (named (at 48 53) (Some (nm 48 51 (codes "old"))) (nm 52 53 (codes "N")))) (expr_and (selector (at 56 63) (ident (at 56 59) (codes "old")) (nm 60 63 (codes "Two"))) no_exprs) no_specs))) ∷ (fn (at 65 112) None (nm 70 74 (codes "main")) (sig [] []) (at 77 112) (stmt_and (eval (at 80 110) (call (at 80 110) (ident (at 80 87) (codes "println")) (expr_and (call (at 88 94) (ident (at 88 91) (codes "int")) (expr_and (ident (at 92 93) (codes "v")) no_exprs) Plain) (expr_and (call (at 96 109) (ident (at 96 99) (codes "int")) (expr_and (call (at 100 108) (selector (at 100 105) (ident (at 100 103) (codes "old")) (nm 104 105 (codes "N"))) (expr_and (int_lit (at 106 107) (codes "3")) no_exprs) Plain) no_exprs) Plain) no_exprs)) Plain)) no_stmts)) ∷ []) }

abbrev top_level_uses_0_f1 : File Span
top_level_uses_0_f1 = record { package_name = (nm 8 11 (codes "old")); imports = ((imps (at 13 39) false ((imp (at 20 39) None (codes "example.com/m/pow")) ∷ [])) ∷ []); decls = ((values (const_decl (at 57 76) false (spec (at 63 76) ((nm 63 66 (codes "Two")) ∷ []) None (expr_and (selector (at 69 76) (ident (at 69 72) (codes "pow")) (nm 73 76 (codes "Two"))) no_exprs) no_specs))) ∷ (types (at 94 108) false ((tspec (at 99 108) (nm 99 100 (codes "N")) true (named (at 103 108) (Some (nm 103 106 (codes "pow"))) (nm 107 108 (codes "N")))) ∷ [])) ∷ []) }

abbrev top_level_uses_0_f2 : File Span
top_level_uses_0_f2 = record { package_name = (nm 8 11 (codes "pow")); imports = []; decls = ((values (const_decl (at 13 26) false (spec (at 19 26) ((nm 19 22 (codes "Two")) ∷ []) None (expr_and (int_lit (at 25 26) (codes "2")) no_exprs) no_specs))) ∷ (types (at 28 38) false ((tspec (at 33 38) (nm 33 34 (codes "N")) false (named (at 35 38) None (nm 35 38 (codes "int")))) ∷ [])) ∷ []) }

top_level_uses_0_f0_read : read_at span_to read_front (lexemes ((tok Keyword 0 7 (codes "package")) ∷ (tok Ident 8 12 (codes "main")) ∷ (tok Inserted 12 12 (codes ";")) ∷ (tok Keyword 14 20 (codes "import")) ∷ (tok Str 21 40 (codes "\"example.com/m/old\"")) ∷ (tok Inserted 40 40 (codes ";")) ∷ (tok Keyword 42 45 (codes "var")) ∷ (tok Ident 46 47 (codes "v")) ∷ (tok Ident 48 51 (codes "old")) ∷ (tok Operator 51 52 (codes ".")) ∷ (tok Ident 52 53 (codes "N")) ∷ (tok Operator 54 55 (codes "=")) ∷ (tok Ident 56 59 (codes "old")) ∷ (tok Operator 59 60 (codes ".")) ∷ (tok Ident 60 63 (codes "Two")) ∷ (tok Inserted 63 63 (codes ";")) ∷ (tok Keyword 65 69 (codes "func")) ∷ (tok Ident 70 74 (codes "main")) ∷ (tok Operator 74 75 (codes "(")) ∷ (tok Operator 75 76 (codes ")")) ∷ (tok Operator 77 78 (codes "{")) ∷ (tok Ident 80 87 (codes "println")) ∷ (tok Operator 87 88 (codes "(")) ∷ (tok Ident 88 91 (codes "int")) ∷ (tok Operator 91 92 (codes "(")) ∷ (tok Ident 92 93 (codes "v")) ∷ (tok Operator 93 94 (codes ")")) ∷ (tok Operator 94 95 (codes ",")) ∷ (tok Ident 96 99 (codes "int")) ∷ (tok Operator 99 100 (codes "(")) ∷ (tok Ident 100 103 (codes "old")) ∷ (tok Operator 103 104 (codes ".")) ∷ (tok Ident 104 105 (codes "N")) ∷ (tok Operator 105 106 (codes "(")) ∷ (tok Integer 106 107 (codes "3")) ∷ (tok Operator 107 108 (codes ")")) ∷ (tok Operator 108 109 (codes ")")) ∷ (tok Operator 109 110 (codes ")")) ∷ (tok Inserted 110 110 (codes ";")) ∷ (tok Operator 111 112 (codes "}")) ∷ (tok Inserted 112 112 (codes ";")) ∷ [])) ≡ Some (top_level_uses_0_f0, [])
unfolding reading
top_level_uses_0_f0_read = refl

top_level_uses_0_f1_read : read_at span_to read_front (lexemes ((tok Keyword 0 7 (codes "package")) ∷ (tok Ident 8 11 (codes "old")) ∷ (tok Inserted 11 11 (codes ";")) ∷ (tok Keyword 13 19 (codes "import")) ∷ (tok Str 20 39 (codes "\"example.com/m/pow\"")) ∷ (tok Inserted 39 39 (codes ";")) ∷ (tok Keyword 57 62 (codes "const")) ∷ (tok Ident 63 66 (codes "Two")) ∷ (tok Operator 67 68 (codes "=")) ∷ (tok Ident 69 72 (codes "pow")) ∷ (tok Operator 72 73 (codes ".")) ∷ (tok Ident 73 76 (codes "Two")) ∷ (tok Inserted 76 76 (codes ";")) ∷ (tok Keyword 94 98 (codes "type")) ∷ (tok Ident 99 100 (codes "N")) ∷ (tok Operator 101 102 (codes "=")) ∷ (tok Ident 103 106 (codes "pow")) ∷ (tok Operator 106 107 (codes ".")) ∷ (tok Ident 107 108 (codes "N")) ∷ (tok Inserted 108 108 (codes ";")) ∷ [])) ≡ Some (top_level_uses_0_f1, [])
unfolding reading
top_level_uses_0_f1_read = refl

top_level_uses_0_f2_read : read_at span_to read_front (lexemes ((tok Keyword 0 7 (codes "package")) ∷ (tok Ident 8 11 (codes "pow")) ∷ (tok Inserted 11 11 (codes ";")) ∷ (tok Keyword 13 18 (codes "const")) ∷ (tok Ident 19 22 (codes "Two")) ∷ (tok Operator 23 24 (codes "=")) ∷ (tok Integer 25 26 (codes "2")) ∷ (tok Inserted 26 26 (codes ";")) ∷ (tok Keyword 28 32 (codes "type")) ∷ (tok Ident 33 34 (codes "N")) ∷ (tok Ident 35 38 (codes "int")) ∷ (tok Inserted 38 38 (codes ";")) ∷ [])) ≡ Some (top_level_uses_0_f2, [])
unfolding reading
top_level_uses_0_f2_read = refl

abbrev top_level_uses_0 : Module
top_level_uses_0 = record { packages = (pack (codes "example.com/m") (codes "main") (source (codes "main.go") top_level_uses_0_f0 ∷ []) ∷ pack (codes "example.com/m/old") (codes "old") (source (codes "old/old.go") top_level_uses_0_f1 ∷ []) ∷ pack (codes "example.com/m/pow") (codes "pow") (source (codes "pow/pow.go") top_level_uses_0_f2 ∷ []) ∷ []); marks = (mark 1 0 0 0 ∷ mark 1 0 1 0 ∷ []); texts = (((codes "main.go"), record { text = (codes "package main\n\nimport \"example.com/m/old\"\n\nvar v old.N = old.Two\n\nfunc main() {\n\tprintln(int(v), int(old.N(3)))\n}\n"); tokens = ((tok Keyword 0 7 (codes "package")) ∷ (tok Ident 8 12 (codes "main")) ∷ (tok Inserted 12 12 (codes ";")) ∷ (tok Keyword 14 20 (codes "import")) ∷ (tok Str 21 40 (codes "\"example.com/m/old\"")) ∷ (tok Inserted 40 40 (codes ";")) ∷ (tok Keyword 42 45 (codes "var")) ∷ (tok Ident 46 47 (codes "v")) ∷ (tok Ident 48 51 (codes "old")) ∷ (tok Operator 51 52 (codes ".")) ∷ (tok Ident 52 53 (codes "N")) ∷ (tok Operator 54 55 (codes "=")) ∷ (tok Ident 56 59 (codes "old")) ∷ (tok Operator 59 60 (codes ".")) ∷ (tok Ident 60 63 (codes "Two")) ∷ (tok Inserted 63 63 (codes ";")) ∷ (tok Keyword 65 69 (codes "func")) ∷ (tok Ident 70 74 (codes "main")) ∷ (tok Operator 74 75 (codes "(")) ∷ (tok Operator 75 76 (codes ")")) ∷ (tok Operator 77 78 (codes "{")) ∷ (tok Ident 80 87 (codes "println")) ∷ (tok Operator 87 88 (codes "(")) ∷ (tok Ident 88 91 (codes "int")) ∷ (tok Operator 91 92 (codes "(")) ∷ (tok Ident 92 93 (codes "v")) ∷ (tok Operator 93 94 (codes ")")) ∷ (tok Operator 94 95 (codes ",")) ∷ (tok Ident 96 99 (codes "int")) ∷ (tok Operator 99 100 (codes "(")) ∷ (tok Ident 100 103 (codes "old")) ∷ (tok Operator 103 104 (codes ".")) ∷ (tok Ident 104 105 (codes "N")) ∷ (tok Operator 105 106 (codes "(")) ∷ (tok Integer 106 107 (codes "3")) ∷ (tok Operator 107 108 (codes ")")) ∷ (tok Operator 108 109 (codes ")")) ∷ (tok Operator 109 110 (codes ")")) ∷ (tok Inserted 110 110 (codes ";")) ∷ (tok Operator 111 112 (codes "}")) ∷ (tok Inserted 112 112 (codes ";")) ∷ []); comments = [] }) ∷ ((codes "old/old.go"), record { text = (codes "package old\n\nimport \"example.com/m/pow\"\n\n//go:fix inline\nconst Two = pow.Two\n\n//go:fix inline\ntype N = pow.N\n"); tokens = ((tok Keyword 0 7 (codes "package")) ∷ (tok Ident 8 11 (codes "old")) ∷ (tok Inserted 11 11 (codes ";")) ∷ (tok Keyword 13 19 (codes "import")) ∷ (tok Str 20 39 (codes "\"example.com/m/pow\"")) ∷ (tok Inserted 39 39 (codes ";")) ∷ (tok Keyword 57 62 (codes "const")) ∷ (tok Ident 63 66 (codes "Two")) ∷ (tok Operator 67 68 (codes "=")) ∷ (tok Ident 69 72 (codes "pow")) ∷ (tok Operator 72 73 (codes ".")) ∷ (tok Ident 73 76 (codes "Two")) ∷ (tok Inserted 76 76 (codes ";")) ∷ (tok Keyword 94 98 (codes "type")) ∷ (tok Ident 99 100 (codes "N")) ∷ (tok Operator 101 102 (codes "=")) ∷ (tok Ident 103 106 (codes "pow")) ∷ (tok Operator 106 107 (codes ".")) ∷ (tok Ident 107 108 (codes "N")) ∷ (tok Inserted 108 108 (codes ";")) ∷ []); comments = ((note 41 56) ∷ (note 78 93) ∷ []) }) ∷ ((codes "pow/pow.go"), record { text = (codes "package pow\n\nconst Two = 2\n\ntype N int\n"); tokens = ((tok Keyword 0 7 (codes "package")) ∷ (tok Ident 8 11 (codes "pow")) ∷ (tok Inserted 11 11 (codes ";")) ∷ (tok Keyword 13 18 (codes "const")) ∷ (tok Ident 19 22 (codes "Two")) ∷ (tok Operator 23 24 (codes "=")) ∷ (tok Integer 25 26 (codes "2")) ∷ (tok Inserted 26 26 (codes ";")) ∷ (tok Keyword 28 32 (codes "type")) ∷ (tok Ident 33 34 (codes "N")) ∷ (tok Ident 35 38 (codes "int")) ∷ (tok Inserted 38 38 (codes ";")) ∷ []); comments = [] }) ∷ []) }

top_level_uses_0_typed : is_typed top_level_uses_0 ≡ true
top_level_uses_0_typed = refl

top_level_uses_0_step : first_change top_level_uses_0 ≡ Some ((codes "main.go"), TypeForm, (codes "package main\n\nimport \"example.com/m/pow\"\nimport \"example.com/m/old\"\n\nvar v pow.N = old.Two\n\nfunc main() {\n\tprintln(int(v), int(old.N(3)))\n}\n"))
unfolding passes keyword_spellings digits
top_level_uses_0_step = refl

abbrev top_level_uses_1_f0 : File Span
top_level_uses_1_f0 = record { package_name = (nm 8 12 (codes "main")); imports = ((imps (at 14 40) false ((imp (at 21 40) None (codes "example.com/m/pow")) ∷ [])) ∷ (imps (at 41 67) false ((imp (at 48 67) None (codes "example.com/m/old")) ∷ [])) ∷ []); decls = ((values (var_decl (at 69 90) false (spec (at 73 90) ((nm 73 74 (codes "v")) ∷ []) (Some (named (at 75 80) (Some (nm 75 78 (codes "pow"))) (nm 79 80 (codes "N")))) (expr_and (selector (at 83 90) (ident (at 83 86) (codes "old")) (nm 87 90 (codes "Two"))) no_exprs) no_specs))) ∷ (fn (at 92 139) None (nm 97 101 (codes "main")) (sig [] []) (at 104 139) (stmt_and (eval (at 107 137) (call (at 107 137) (ident (at 107 114) (codes "println")) (expr_and (call (at 115 121) (ident (at 115 118) (codes "int")) (expr_and (ident (at 119 120) (codes "v")) no_exprs) Plain) (expr_and (call (at 123 136) (ident (at 123 126) (codes "int")) (expr_and (call (at 127 135) (selector (at 127 132) (ident (at 127 130) (codes "old")) (nm 131 132 (codes "N"))) (expr_and (int_lit (at 133 134) (codes "3")) no_exprs) Plain) no_exprs) Plain) no_exprs)) Plain)) no_stmts)) ∷ []) }

abbrev top_level_uses_1_f1 : File Span
top_level_uses_1_f1 = record { package_name = (nm 8 11 (codes "old")); imports = ((imps (at 13 39) false ((imp (at 20 39) None (codes "example.com/m/pow")) ∷ [])) ∷ []); decls = ((values (const_decl (at 57 76) false (spec (at 63 76) ((nm 63 66 (codes "Two")) ∷ []) None (expr_and (selector (at 69 76) (ident (at 69 72) (codes "pow")) (nm 73 76 (codes "Two"))) no_exprs) no_specs))) ∷ (types (at 94 108) false ((tspec (at 99 108) (nm 99 100 (codes "N")) true (named (at 103 108) (Some (nm 103 106 (codes "pow"))) (nm 107 108 (codes "N")))) ∷ [])) ∷ []) }

abbrev top_level_uses_1_f2 : File Span
top_level_uses_1_f2 = record { package_name = (nm 8 11 (codes "pow")); imports = []; decls = ((values (const_decl (at 13 26) false (spec (at 19 26) ((nm 19 22 (codes "Two")) ∷ []) None (expr_and (int_lit (at 25 26) (codes "2")) no_exprs) no_specs))) ∷ (types (at 28 38) false ((tspec (at 33 38) (nm 33 34 (codes "N")) false (named (at 35 38) None (nm 35 38 (codes "int")))) ∷ [])) ∷ []) }

top_level_uses_1_f0_read : read_at span_to read_front (lexemes ((tok Keyword 0 7 (codes "package")) ∷ (tok Ident 8 12 (codes "main")) ∷ (tok Inserted 12 12 (codes ";")) ∷ (tok Keyword 14 20 (codes "import")) ∷ (tok Str 21 40 (codes "\"example.com/m/pow\"")) ∷ (tok Inserted 40 40 (codes ";")) ∷ (tok Keyword 41 47 (codes "import")) ∷ (tok Str 48 67 (codes "\"example.com/m/old\"")) ∷ (tok Inserted 67 67 (codes ";")) ∷ (tok Keyword 69 72 (codes "var")) ∷ (tok Ident 73 74 (codes "v")) ∷ (tok Ident 75 78 (codes "pow")) ∷ (tok Operator 78 79 (codes ".")) ∷ (tok Ident 79 80 (codes "N")) ∷ (tok Operator 81 82 (codes "=")) ∷ (tok Ident 83 86 (codes "old")) ∷ (tok Operator 86 87 (codes ".")) ∷ (tok Ident 87 90 (codes "Two")) ∷ (tok Inserted 90 90 (codes ";")) ∷ (tok Keyword 92 96 (codes "func")) ∷ (tok Ident 97 101 (codes "main")) ∷ (tok Operator 101 102 (codes "(")) ∷ (tok Operator 102 103 (codes ")")) ∷ (tok Operator 104 105 (codes "{")) ∷ (tok Ident 107 114 (codes "println")) ∷ (tok Operator 114 115 (codes "(")) ∷ (tok Ident 115 118 (codes "int")) ∷ (tok Operator 118 119 (codes "(")) ∷ (tok Ident 119 120 (codes "v")) ∷ (tok Operator 120 121 (codes ")")) ∷ (tok Operator 121 122 (codes ",")) ∷ (tok Ident 123 126 (codes "int")) ∷ (tok Operator 126 127 (codes "(")) ∷ (tok Ident 127 130 (codes "old")) ∷ (tok Operator 130 131 (codes ".")) ∷ (tok Ident 131 132 (codes "N")) ∷ (tok Operator 132 133 (codes "(")) ∷ (tok Integer 133 134 (codes "3")) ∷ (tok Operator 134 135 (codes ")")) ∷ (tok Operator 135 136 (codes ")")) ∷ (tok Operator 136 137 (codes ")")) ∷ (tok Inserted 137 137 (codes ";")) ∷ (tok Operator 138 139 (codes "}")) ∷ (tok Inserted 139 139 (codes ";")) ∷ [])) ≡ Some (top_level_uses_1_f0, [])
unfolding reading
top_level_uses_1_f0_read = refl

abbrev top_level_uses_1 : Module
top_level_uses_1 = record { packages = (pack (codes "example.com/m") (codes "main") (source (codes "main.go") top_level_uses_1_f0 ∷ []) ∷ pack (codes "example.com/m/old") (codes "old") (source (codes "old/old.go") top_level_uses_1_f1 ∷ []) ∷ pack (codes "example.com/m/pow") (codes "pow") (source (codes "pow/pow.go") top_level_uses_1_f2 ∷ []) ∷ []); marks = (mark 1 0 0 0 ∷ mark 1 0 1 0 ∷ []); texts = (((codes "main.go"), record { text = (codes "package main\n\nimport \"example.com/m/pow\"\nimport \"example.com/m/old\"\n\nvar v pow.N = old.Two\n\nfunc main() {\n\tprintln(int(v), int(old.N(3)))\n}\n"); tokens = ((tok Keyword 0 7 (codes "package")) ∷ (tok Ident 8 12 (codes "main")) ∷ (tok Inserted 12 12 (codes ";")) ∷ (tok Keyword 14 20 (codes "import")) ∷ (tok Str 21 40 (codes "\"example.com/m/pow\"")) ∷ (tok Inserted 40 40 (codes ";")) ∷ (tok Keyword 41 47 (codes "import")) ∷ (tok Str 48 67 (codes "\"example.com/m/old\"")) ∷ (tok Inserted 67 67 (codes ";")) ∷ (tok Keyword 69 72 (codes "var")) ∷ (tok Ident 73 74 (codes "v")) ∷ (tok Ident 75 78 (codes "pow")) ∷ (tok Operator 78 79 (codes ".")) ∷ (tok Ident 79 80 (codes "N")) ∷ (tok Operator 81 82 (codes "=")) ∷ (tok Ident 83 86 (codes "old")) ∷ (tok Operator 86 87 (codes ".")) ∷ (tok Ident 87 90 (codes "Two")) ∷ (tok Inserted 90 90 (codes ";")) ∷ (tok Keyword 92 96 (codes "func")) ∷ (tok Ident 97 101 (codes "main")) ∷ (tok Operator 101 102 (codes "(")) ∷ (tok Operator 102 103 (codes ")")) ∷ (tok Operator 104 105 (codes "{")) ∷ (tok Ident 107 114 (codes "println")) ∷ (tok Operator 114 115 (codes "(")) ∷ (tok Ident 115 118 (codes "int")) ∷ (tok Operator 118 119 (codes "(")) ∷ (tok Ident 119 120 (codes "v")) ∷ (tok Operator 120 121 (codes ")")) ∷ (tok Operator 121 122 (codes ",")) ∷ (tok Ident 123 126 (codes "int")) ∷ (tok Operator 126 127 (codes "(")) ∷ (tok Ident 127 130 (codes "old")) ∷ (tok Operator 130 131 (codes ".")) ∷ (tok Ident 131 132 (codes "N")) ∷ (tok Operator 132 133 (codes "(")) ∷ (tok Integer 133 134 (codes "3")) ∷ (tok Operator 134 135 (codes ")")) ∷ (tok Operator 135 136 (codes ")")) ∷ (tok Operator 136 137 (codes ")")) ∷ (tok Inserted 137 137 (codes ";")) ∷ (tok Operator 138 139 (codes "}")) ∷ (tok Inserted 139 139 (codes ";")) ∷ []); comments = [] }) ∷ ((codes "old/old.go"), record { text = (codes "package old\n\nimport \"example.com/m/pow\"\n\n//go:fix inline\nconst Two = pow.Two\n\n//go:fix inline\ntype N = pow.N\n"); tokens = ((tok Keyword 0 7 (codes "package")) ∷ (tok Ident 8 11 (codes "old")) ∷ (tok Inserted 11 11 (codes ";")) ∷ (tok Keyword 13 19 (codes "import")) ∷ (tok Str 20 39 (codes "\"example.com/m/pow\"")) ∷ (tok Inserted 39 39 (codes ";")) ∷ (tok Keyword 57 62 (codes "const")) ∷ (tok Ident 63 66 (codes "Two")) ∷ (tok Operator 67 68 (codes "=")) ∷ (tok Ident 69 72 (codes "pow")) ∷ (tok Operator 72 73 (codes ".")) ∷ (tok Ident 73 76 (codes "Two")) ∷ (tok Inserted 76 76 (codes ";")) ∷ (tok Keyword 94 98 (codes "type")) ∷ (tok Ident 99 100 (codes "N")) ∷ (tok Operator 101 102 (codes "=")) ∷ (tok Ident 103 106 (codes "pow")) ∷ (tok Operator 106 107 (codes ".")) ∷ (tok Ident 107 108 (codes "N")) ∷ (tok Inserted 108 108 (codes ";")) ∷ []); comments = ((note 41 56) ∷ (note 78 93) ∷ []) }) ∷ ((codes "pow/pow.go"), record { text = (codes "package pow\n\nconst Two = 2\n\ntype N int\n"); tokens = ((tok Keyword 0 7 (codes "package")) ∷ (tok Ident 8 11 (codes "pow")) ∷ (tok Inserted 11 11 (codes ";")) ∷ (tok Keyword 13 18 (codes "const")) ∷ (tok Ident 19 22 (codes "Two")) ∷ (tok Operator 23 24 (codes "=")) ∷ (tok Integer 25 26 (codes "2")) ∷ (tok Inserted 26 26 (codes ";")) ∷ (tok Keyword 28 32 (codes "type")) ∷ (tok Ident 33 34 (codes "N")) ∷ (tok Ident 35 38 (codes "int")) ∷ (tok Inserted 38 38 (codes ";")) ∷ []); comments = [] }) ∷ []) }

top_level_uses_1_typed : is_typed top_level_uses_1 ≡ true
top_level_uses_1_typed = refl

top_level_uses_1_step : first_change top_level_uses_1 ≡ Some ((codes "main.go"), ConstForm, (codes "package main\n\nimport \"example.com/m/pow\"\nimport \"example.com/m/old\"\n\nvar v pow.N = pow.Two\n\nfunc main() {\n\tprintln(int(v), int(old.N(3)))\n}\n"))
unfolding passes keyword_spellings digits
top_level_uses_1_step = refl

abbrev top_level_uses_2_f0 : File Span
top_level_uses_2_f0 = record { package_name = (nm 8 12 (codes "main")); imports = ((imps (at 14 40) false ((imp (at 21 40) None (codes "example.com/m/pow")) ∷ [])) ∷ (imps (at 41 67) false ((imp (at 48 67) None (codes "example.com/m/old")) ∷ [])) ∷ []); decls = ((values (var_decl (at 69 90) false (spec (at 73 90) ((nm 73 74 (codes "v")) ∷ []) (Some (named (at 75 80) (Some (nm 75 78 (codes "pow"))) (nm 79 80 (codes "N")))) (expr_and (selector (at 83 90) (ident (at 83 86) (codes "pow")) (nm 87 90 (codes "Two"))) no_exprs) no_specs))) ∷ (fn (at 92 139) None (nm 97 101 (codes "main")) (sig [] []) (at 104 139) (stmt_and (eval (at 107 137) (call (at 107 137) (ident (at 107 114) (codes "println")) (expr_and (call (at 115 121) (ident (at 115 118) (codes "int")) (expr_and (ident (at 119 120) (codes "v")) no_exprs) Plain) (expr_and (call (at 123 136) (ident (at 123 126) (codes "int")) (expr_and (call (at 127 135) (selector (at 127 132) (ident (at 127 130) (codes "old")) (nm 131 132 (codes "N"))) (expr_and (int_lit (at 133 134) (codes "3")) no_exprs) Plain) no_exprs) Plain) no_exprs)) Plain)) no_stmts)) ∷ []) }

abbrev top_level_uses_2_f1 : File Span
top_level_uses_2_f1 = record { package_name = (nm 8 11 (codes "old")); imports = ((imps (at 13 39) false ((imp (at 20 39) None (codes "example.com/m/pow")) ∷ [])) ∷ []); decls = ((values (const_decl (at 57 76) false (spec (at 63 76) ((nm 63 66 (codes "Two")) ∷ []) None (expr_and (selector (at 69 76) (ident (at 69 72) (codes "pow")) (nm 73 76 (codes "Two"))) no_exprs) no_specs))) ∷ (types (at 94 108) false ((tspec (at 99 108) (nm 99 100 (codes "N")) true (named (at 103 108) (Some (nm 103 106 (codes "pow"))) (nm 107 108 (codes "N")))) ∷ [])) ∷ []) }

abbrev top_level_uses_2_f2 : File Span
top_level_uses_2_f2 = record { package_name = (nm 8 11 (codes "pow")); imports = []; decls = ((values (const_decl (at 13 26) false (spec (at 19 26) ((nm 19 22 (codes "Two")) ∷ []) None (expr_and (int_lit (at 25 26) (codes "2")) no_exprs) no_specs))) ∷ (types (at 28 38) false ((tspec (at 33 38) (nm 33 34 (codes "N")) false (named (at 35 38) None (nm 35 38 (codes "int")))) ∷ [])) ∷ []) }

top_level_uses_2_f0_read : read_at span_to read_front (lexemes ((tok Keyword 0 7 (codes "package")) ∷ (tok Ident 8 12 (codes "main")) ∷ (tok Inserted 12 12 (codes ";")) ∷ (tok Keyword 14 20 (codes "import")) ∷ (tok Str 21 40 (codes "\"example.com/m/pow\"")) ∷ (tok Inserted 40 40 (codes ";")) ∷ (tok Keyword 41 47 (codes "import")) ∷ (tok Str 48 67 (codes "\"example.com/m/old\"")) ∷ (tok Inserted 67 67 (codes ";")) ∷ (tok Keyword 69 72 (codes "var")) ∷ (tok Ident 73 74 (codes "v")) ∷ (tok Ident 75 78 (codes "pow")) ∷ (tok Operator 78 79 (codes ".")) ∷ (tok Ident 79 80 (codes "N")) ∷ (tok Operator 81 82 (codes "=")) ∷ (tok Ident 83 86 (codes "pow")) ∷ (tok Operator 86 87 (codes ".")) ∷ (tok Ident 87 90 (codes "Two")) ∷ (tok Inserted 90 90 (codes ";")) ∷ (tok Keyword 92 96 (codes "func")) ∷ (tok Ident 97 101 (codes "main")) ∷ (tok Operator 101 102 (codes "(")) ∷ (tok Operator 102 103 (codes ")")) ∷ (tok Operator 104 105 (codes "{")) ∷ (tok Ident 107 114 (codes "println")) ∷ (tok Operator 114 115 (codes "(")) ∷ (tok Ident 115 118 (codes "int")) ∷ (tok Operator 118 119 (codes "(")) ∷ (tok Ident 119 120 (codes "v")) ∷ (tok Operator 120 121 (codes ")")) ∷ (tok Operator 121 122 (codes ",")) ∷ (tok Ident 123 126 (codes "int")) ∷ (tok Operator 126 127 (codes "(")) ∷ (tok Ident 127 130 (codes "old")) ∷ (tok Operator 130 131 (codes ".")) ∷ (tok Ident 131 132 (codes "N")) ∷ (tok Operator 132 133 (codes "(")) ∷ (tok Integer 133 134 (codes "3")) ∷ (tok Operator 134 135 (codes ")")) ∷ (tok Operator 135 136 (codes ")")) ∷ (tok Operator 136 137 (codes ")")) ∷ (tok Inserted 137 137 (codes ";")) ∷ (tok Operator 138 139 (codes "}")) ∷ (tok Inserted 139 139 (codes ";")) ∷ [])) ≡ Some (top_level_uses_2_f0, [])
unfolding reading
top_level_uses_2_f0_read = refl

abbrev top_level_uses_2 : Module
top_level_uses_2 = record { packages = (pack (codes "example.com/m") (codes "main") (source (codes "main.go") top_level_uses_2_f0 ∷ []) ∷ pack (codes "example.com/m/old") (codes "old") (source (codes "old/old.go") top_level_uses_2_f1 ∷ []) ∷ pack (codes "example.com/m/pow") (codes "pow") (source (codes "pow/pow.go") top_level_uses_2_f2 ∷ []) ∷ []); marks = (mark 1 0 0 0 ∷ mark 1 0 1 0 ∷ []); texts = (((codes "main.go"), record { text = (codes "package main\n\nimport \"example.com/m/pow\"\nimport \"example.com/m/old\"\n\nvar v pow.N = pow.Two\n\nfunc main() {\n\tprintln(int(v), int(old.N(3)))\n}\n"); tokens = ((tok Keyword 0 7 (codes "package")) ∷ (tok Ident 8 12 (codes "main")) ∷ (tok Inserted 12 12 (codes ";")) ∷ (tok Keyword 14 20 (codes "import")) ∷ (tok Str 21 40 (codes "\"example.com/m/pow\"")) ∷ (tok Inserted 40 40 (codes ";")) ∷ (tok Keyword 41 47 (codes "import")) ∷ (tok Str 48 67 (codes "\"example.com/m/old\"")) ∷ (tok Inserted 67 67 (codes ";")) ∷ (tok Keyword 69 72 (codes "var")) ∷ (tok Ident 73 74 (codes "v")) ∷ (tok Ident 75 78 (codes "pow")) ∷ (tok Operator 78 79 (codes ".")) ∷ (tok Ident 79 80 (codes "N")) ∷ (tok Operator 81 82 (codes "=")) ∷ (tok Ident 83 86 (codes "pow")) ∷ (tok Operator 86 87 (codes ".")) ∷ (tok Ident 87 90 (codes "Two")) ∷ (tok Inserted 90 90 (codes ";")) ∷ (tok Keyword 92 96 (codes "func")) ∷ (tok Ident 97 101 (codes "main")) ∷ (tok Operator 101 102 (codes "(")) ∷ (tok Operator 102 103 (codes ")")) ∷ (tok Operator 104 105 (codes "{")) ∷ (tok Ident 107 114 (codes "println")) ∷ (tok Operator 114 115 (codes "(")) ∷ (tok Ident 115 118 (codes "int")) ∷ (tok Operator 118 119 (codes "(")) ∷ (tok Ident 119 120 (codes "v")) ∷ (tok Operator 120 121 (codes ")")) ∷ (tok Operator 121 122 (codes ",")) ∷ (tok Ident 123 126 (codes "int")) ∷ (tok Operator 126 127 (codes "(")) ∷ (tok Ident 127 130 (codes "old")) ∷ (tok Operator 130 131 (codes ".")) ∷ (tok Ident 131 132 (codes "N")) ∷ (tok Operator 132 133 (codes "(")) ∷ (tok Integer 133 134 (codes "3")) ∷ (tok Operator 134 135 (codes ")")) ∷ (tok Operator 135 136 (codes ")")) ∷ (tok Operator 136 137 (codes ")")) ∷ (tok Inserted 137 137 (codes ";")) ∷ (tok Operator 138 139 (codes "}")) ∷ (tok Inserted 139 139 (codes ";")) ∷ []); comments = [] }) ∷ ((codes "old/old.go"), record { text = (codes "package old\n\nimport \"example.com/m/pow\"\n\n//go:fix inline\nconst Two = pow.Two\n\n//go:fix inline\ntype N = pow.N\n"); tokens = ((tok Keyword 0 7 (codes "package")) ∷ (tok Ident 8 11 (codes "old")) ∷ (tok Inserted 11 11 (codes ";")) ∷ (tok Keyword 13 19 (codes "import")) ∷ (tok Str 20 39 (codes "\"example.com/m/pow\"")) ∷ (tok Inserted 39 39 (codes ";")) ∷ (tok Keyword 57 62 (codes "const")) ∷ (tok Ident 63 66 (codes "Two")) ∷ (tok Operator 67 68 (codes "=")) ∷ (tok Ident 69 72 (codes "pow")) ∷ (tok Operator 72 73 (codes ".")) ∷ (tok Ident 73 76 (codes "Two")) ∷ (tok Inserted 76 76 (codes ";")) ∷ (tok Keyword 94 98 (codes "type")) ∷ (tok Ident 99 100 (codes "N")) ∷ (tok Operator 101 102 (codes "=")) ∷ (tok Ident 103 106 (codes "pow")) ∷ (tok Operator 106 107 (codes ".")) ∷ (tok Ident 107 108 (codes "N")) ∷ (tok Inserted 108 108 (codes ";")) ∷ []); comments = ((note 41 56) ∷ (note 78 93) ∷ []) }) ∷ ((codes "pow/pow.go"), record { text = (codes "package pow\n\nconst Two = 2\n\ntype N int\n"); tokens = ((tok Keyword 0 7 (codes "package")) ∷ (tok Ident 8 11 (codes "pow")) ∷ (tok Inserted 11 11 (codes ";")) ∷ (tok Keyword 13 18 (codes "const")) ∷ (tok Ident 19 22 (codes "Two")) ∷ (tok Operator 23 24 (codes "=")) ∷ (tok Integer 25 26 (codes "2")) ∷ (tok Inserted 26 26 (codes ";")) ∷ (tok Keyword 28 32 (codes "type")) ∷ (tok Ident 33 34 (codes "N")) ∷ (tok Ident 35 38 (codes "int")) ∷ (tok Inserted 38 38 (codes ";")) ∷ []); comments = [] }) ∷ []) }

top_level_uses_2_typed : is_typed top_level_uses_2 ≡ true
top_level_uses_2_typed = refl

top_level_uses_2_step : first_change top_level_uses_2 ≡ Some ((codes "main.go"), TypeForm, (codes "package main\n\nimport \"example.com/m/pow\"\n\nvar v pow.N = pow.Two\n\nfunc main() {\n\tprintln(int(v), int(pow.N(3)))\n}\n"))
unfolding passes keyword_spellings digits
top_level_uses_2_step = refl

abbrev top_level_uses_3_f0 : File Span
top_level_uses_3_f0 = record { package_name = (nm 8 12 (codes "main")); imports = ((imps (at 14 40) false ((imp (at 21 40) None (codes "example.com/m/pow")) ∷ [])) ∷ []); decls = ((values (var_decl (at 42 63) false (spec (at 46 63) ((nm 46 47 (codes "v")) ∷ []) (Some (named (at 48 53) (Some (nm 48 51 (codes "pow"))) (nm 52 53 (codes "N")))) (expr_and (selector (at 56 63) (ident (at 56 59) (codes "pow")) (nm 60 63 (codes "Two"))) no_exprs) no_specs))) ∷ (fn (at 65 112) None (nm 70 74 (codes "main")) (sig [] []) (at 77 112) (stmt_and (eval (at 80 110) (call (at 80 110) (ident (at 80 87) (codes "println")) (expr_and (call (at 88 94) (ident (at 88 91) (codes "int")) (expr_and (ident (at 92 93) (codes "v")) no_exprs) Plain) (expr_and (call (at 96 109) (ident (at 96 99) (codes "int")) (expr_and (call (at 100 108) (selector (at 100 105) (ident (at 100 103) (codes "pow")) (nm 104 105 (codes "N"))) (expr_and (int_lit (at 106 107) (codes "3")) no_exprs) Plain) no_exprs) Plain) no_exprs)) Plain)) no_stmts)) ∷ []) }

abbrev top_level_uses_3_f1 : File Span
top_level_uses_3_f1 = record { package_name = (nm 8 11 (codes "old")); imports = ((imps (at 13 39) false ((imp (at 20 39) None (codes "example.com/m/pow")) ∷ [])) ∷ []); decls = ((values (const_decl (at 57 76) false (spec (at 63 76) ((nm 63 66 (codes "Two")) ∷ []) None (expr_and (selector (at 69 76) (ident (at 69 72) (codes "pow")) (nm 73 76 (codes "Two"))) no_exprs) no_specs))) ∷ (types (at 94 108) false ((tspec (at 99 108) (nm 99 100 (codes "N")) true (named (at 103 108) (Some (nm 103 106 (codes "pow"))) (nm 107 108 (codes "N")))) ∷ [])) ∷ []) }

abbrev top_level_uses_3_f2 : File Span
top_level_uses_3_f2 = record { package_name = (nm 8 11 (codes "pow")); imports = []; decls = ((values (const_decl (at 13 26) false (spec (at 19 26) ((nm 19 22 (codes "Two")) ∷ []) None (expr_and (int_lit (at 25 26) (codes "2")) no_exprs) no_specs))) ∷ (types (at 28 38) false ((tspec (at 33 38) (nm 33 34 (codes "N")) false (named (at 35 38) None (nm 35 38 (codes "int")))) ∷ [])) ∷ []) }

top_level_uses_3_f0_read : read_at span_to read_front (lexemes ((tok Keyword 0 7 (codes "package")) ∷ (tok Ident 8 12 (codes "main")) ∷ (tok Inserted 12 12 (codes ";")) ∷ (tok Keyword 14 20 (codes "import")) ∷ (tok Str 21 40 (codes "\"example.com/m/pow\"")) ∷ (tok Inserted 40 40 (codes ";")) ∷ (tok Keyword 42 45 (codes "var")) ∷ (tok Ident 46 47 (codes "v")) ∷ (tok Ident 48 51 (codes "pow")) ∷ (tok Operator 51 52 (codes ".")) ∷ (tok Ident 52 53 (codes "N")) ∷ (tok Operator 54 55 (codes "=")) ∷ (tok Ident 56 59 (codes "pow")) ∷ (tok Operator 59 60 (codes ".")) ∷ (tok Ident 60 63 (codes "Two")) ∷ (tok Inserted 63 63 (codes ";")) ∷ (tok Keyword 65 69 (codes "func")) ∷ (tok Ident 70 74 (codes "main")) ∷ (tok Operator 74 75 (codes "(")) ∷ (tok Operator 75 76 (codes ")")) ∷ (tok Operator 77 78 (codes "{")) ∷ (tok Ident 80 87 (codes "println")) ∷ (tok Operator 87 88 (codes "(")) ∷ (tok Ident 88 91 (codes "int")) ∷ (tok Operator 91 92 (codes "(")) ∷ (tok Ident 92 93 (codes "v")) ∷ (tok Operator 93 94 (codes ")")) ∷ (tok Operator 94 95 (codes ",")) ∷ (tok Ident 96 99 (codes "int")) ∷ (tok Operator 99 100 (codes "(")) ∷ (tok Ident 100 103 (codes "pow")) ∷ (tok Operator 103 104 (codes ".")) ∷ (tok Ident 104 105 (codes "N")) ∷ (tok Operator 105 106 (codes "(")) ∷ (tok Integer 106 107 (codes "3")) ∷ (tok Operator 107 108 (codes ")")) ∷ (tok Operator 108 109 (codes ")")) ∷ (tok Operator 109 110 (codes ")")) ∷ (tok Inserted 110 110 (codes ";")) ∷ (tok Operator 111 112 (codes "}")) ∷ (tok Inserted 112 112 (codes ";")) ∷ [])) ≡ Some (top_level_uses_3_f0, [])
unfolding reading
top_level_uses_3_f0_read = refl

abbrev top_level_uses_3 : Module
top_level_uses_3 = record { packages = (pack (codes "example.com/m") (codes "main") (source (codes "main.go") top_level_uses_3_f0 ∷ []) ∷ pack (codes "example.com/m/old") (codes "old") (source (codes "old/old.go") top_level_uses_3_f1 ∷ []) ∷ pack (codes "example.com/m/pow") (codes "pow") (source (codes "pow/pow.go") top_level_uses_3_f2 ∷ []) ∷ []); marks = (mark 1 0 0 0 ∷ mark 1 0 1 0 ∷ []); texts = (((codes "main.go"), record { text = (codes "package main\n\nimport \"example.com/m/pow\"\n\nvar v pow.N = pow.Two\n\nfunc main() {\n\tprintln(int(v), int(pow.N(3)))\n}\n"); tokens = ((tok Keyword 0 7 (codes "package")) ∷ (tok Ident 8 12 (codes "main")) ∷ (tok Inserted 12 12 (codes ";")) ∷ (tok Keyword 14 20 (codes "import")) ∷ (tok Str 21 40 (codes "\"example.com/m/pow\"")) ∷ (tok Inserted 40 40 (codes ";")) ∷ (tok Keyword 42 45 (codes "var")) ∷ (tok Ident 46 47 (codes "v")) ∷ (tok Ident 48 51 (codes "pow")) ∷ (tok Operator 51 52 (codes ".")) ∷ (tok Ident 52 53 (codes "N")) ∷ (tok Operator 54 55 (codes "=")) ∷ (tok Ident 56 59 (codes "pow")) ∷ (tok Operator 59 60 (codes ".")) ∷ (tok Ident 60 63 (codes "Two")) ∷ (tok Inserted 63 63 (codes ";")) ∷ (tok Keyword 65 69 (codes "func")) ∷ (tok Ident 70 74 (codes "main")) ∷ (tok Operator 74 75 (codes "(")) ∷ (tok Operator 75 76 (codes ")")) ∷ (tok Operator 77 78 (codes "{")) ∷ (tok Ident 80 87 (codes "println")) ∷ (tok Operator 87 88 (codes "(")) ∷ (tok Ident 88 91 (codes "int")) ∷ (tok Operator 91 92 (codes "(")) ∷ (tok Ident 92 93 (codes "v")) ∷ (tok Operator 93 94 (codes ")")) ∷ (tok Operator 94 95 (codes ",")) ∷ (tok Ident 96 99 (codes "int")) ∷ (tok Operator 99 100 (codes "(")) ∷ (tok Ident 100 103 (codes "pow")) ∷ (tok Operator 103 104 (codes ".")) ∷ (tok Ident 104 105 (codes "N")) ∷ (tok Operator 105 106 (codes "(")) ∷ (tok Integer 106 107 (codes "3")) ∷ (tok Operator 107 108 (codes ")")) ∷ (tok Operator 108 109 (codes ")")) ∷ (tok Operator 109 110 (codes ")")) ∷ (tok Inserted 110 110 (codes ";")) ∷ (tok Operator 111 112 (codes "}")) ∷ (tok Inserted 112 112 (codes ";")) ∷ []); comments = [] }) ∷ ((codes "old/old.go"), record { text = (codes "package old\n\nimport \"example.com/m/pow\"\n\n//go:fix inline\nconst Two = pow.Two\n\n//go:fix inline\ntype N = pow.N\n"); tokens = ((tok Keyword 0 7 (codes "package")) ∷ (tok Ident 8 11 (codes "old")) ∷ (tok Inserted 11 11 (codes ";")) ∷ (tok Keyword 13 19 (codes "import")) ∷ (tok Str 20 39 (codes "\"example.com/m/pow\"")) ∷ (tok Inserted 39 39 (codes ";")) ∷ (tok Keyword 57 62 (codes "const")) ∷ (tok Ident 63 66 (codes "Two")) ∷ (tok Operator 67 68 (codes "=")) ∷ (tok Ident 69 72 (codes "pow")) ∷ (tok Operator 72 73 (codes ".")) ∷ (tok Ident 73 76 (codes "Two")) ∷ (tok Inserted 76 76 (codes ";")) ∷ (tok Keyword 94 98 (codes "type")) ∷ (tok Ident 99 100 (codes "N")) ∷ (tok Operator 101 102 (codes "=")) ∷ (tok Ident 103 106 (codes "pow")) ∷ (tok Operator 106 107 (codes ".")) ∷ (tok Ident 107 108 (codes "N")) ∷ (tok Inserted 108 108 (codes ";")) ∷ []); comments = ((note 41 56) ∷ (note 78 93) ∷ []) }) ∷ ((codes "pow/pow.go"), record { text = (codes "package pow\n\nconst Two = 2\n\ntype N int\n"); tokens = ((tok Keyword 0 7 (codes "package")) ∷ (tok Ident 8 11 (codes "pow")) ∷ (tok Inserted 11 11 (codes ";")) ∷ (tok Keyword 13 18 (codes "const")) ∷ (tok Ident 19 22 (codes "Two")) ∷ (tok Operator 23 24 (codes "=")) ∷ (tok Integer 25 26 (codes "2")) ∷ (tok Inserted 26 26 (codes ";")) ∷ (tok Keyword 28 32 (codes "type")) ∷ (tok Ident 33 34 (codes "N")) ∷ (tok Ident 35 38 (codes "int")) ∷ (tok Inserted 38 38 (codes ";")) ∷ []); comments = [] }) ∷ []) }

top_level_uses_3_typed : is_typed top_level_uses_3 ≡ true
top_level_uses_3_typed = refl

top_level_uses_3_ends : step_of top_level_uses_3 ≡ None
unfolding passes keyword_spellings digits
top_level_uses_3_ends = refl

top_level_uses_3_kept : kept_uses top_level_uses_3 ≡ []
unfolding passes keyword_spellings digits
top_level_uses_3_kept = refl

-- A map key in braces sets a field that is not exported.
abbrev hidden_in_key_f0 : File Span
hidden_in_key_f0 = record { package_name = (nm 8 12 (codes "main")); imports = ((imps (at 14 40) false ((imp (at 21 40) None (codes "example.com/m/old")) ∷ [])) ∷ []); decls = ((fn (at 42 83) None (nm 47 51 (codes "main")) (sig [] []) (at 54 83) (stmt_and (eval (at 57 81) (call (at 57 81) (ident (at 57 64) (codes "println")) (expr_and (call (at 65 80) (ident (at 65 68) (codes "len")) (expr_and (call (at 69 79) (selector (at 69 77) (ident (at 69 72) (codes "old")) (nm 73 77 (codes "Made"))) no_exprs Plain) no_exprs) Plain) no_exprs) Plain)) no_stmts)) ∷ []) }

abbrev hidden_in_key_f1 : File Span
hidden_in_key_f1 = record { package_name = (nm 8 11 (codes "old")); imports = []; decls = ((types (at 13 35) false ((tspec (at 18 35) (nm 18 19 (codes "K")) false (struct_type (at 20 35) (field (at 28 33) (nm 28 29 (codes "n")) (named (at 30 33) None (nm 30 33 (codes "int"))) no_fields))) ∷ [])) ∷ (fn (at 53 103) None (nm 58 62 (codes "Made")) (sig [] ((param (at 65 74) None (map_type (at 65 74) (named (at 69 70) None (nm 69 70 (codes "K"))) (named (at 71 74) None (nm 71 74 (codes "int"))))) ∷ [])) (at 75 103) (stmt_and (return_ (at 77 101) (expr_and (composite (at 84 101) (map_type (at 84 93) (named (at 88 89) None (nm 88 89 (codes "K"))) (named (at 90 93) None (nm 90 93 (codes "int")))) (elem (at 94 100) (some_value (braced (at 94 97) (elem (at 95 96) no_value (plain (int_lit (at 95 96) (codes "1"))) no_elems))) (plain (int_lit (at 99 100) (codes "2"))) no_elems)) no_exprs)) no_stmts)) ∷ []) }

hidden_in_key_f0_read : read_at span_to read_front (lexemes ((tok Keyword 0 7 (codes "package")) ∷ (tok Ident 8 12 (codes "main")) ∷ (tok Inserted 12 12 (codes ";")) ∷ (tok Keyword 14 20 (codes "import")) ∷ (tok Str 21 40 (codes "\"example.com/m/old\"")) ∷ (tok Inserted 40 40 (codes ";")) ∷ (tok Keyword 42 46 (codes "func")) ∷ (tok Ident 47 51 (codes "main")) ∷ (tok Operator 51 52 (codes "(")) ∷ (tok Operator 52 53 (codes ")")) ∷ (tok Operator 54 55 (codes "{")) ∷ (tok Ident 57 64 (codes "println")) ∷ (tok Operator 64 65 (codes "(")) ∷ (tok Ident 65 68 (codes "len")) ∷ (tok Operator 68 69 (codes "(")) ∷ (tok Ident 69 72 (codes "old")) ∷ (tok Operator 72 73 (codes ".")) ∷ (tok Ident 73 77 (codes "Made")) ∷ (tok Operator 77 78 (codes "(")) ∷ (tok Operator 78 79 (codes ")")) ∷ (tok Operator 79 80 (codes ")")) ∷ (tok Operator 80 81 (codes ")")) ∷ (tok Inserted 81 81 (codes ";")) ∷ (tok Operator 82 83 (codes "}")) ∷ (tok Inserted 83 83 (codes ";")) ∷ [])) ≡ Some (hidden_in_key_f0, [])
unfolding reading
hidden_in_key_f0_read = refl

hidden_in_key_f1_read : read_at span_to read_front (lexemes ((tok Keyword 0 7 (codes "package")) ∷ (tok Ident 8 11 (codes "old")) ∷ (tok Inserted 11 11 (codes ";")) ∷ (tok Keyword 13 17 (codes "type")) ∷ (tok Ident 18 19 (codes "K")) ∷ (tok Keyword 20 26 (codes "struct")) ∷ (tok Operator 26 27 (codes "{")) ∷ (tok Ident 28 29 (codes "n")) ∷ (tok Ident 30 33 (codes "int")) ∷ (tok Operator 34 35 (codes "}")) ∷ (tok Inserted 35 35 (codes ";")) ∷ (tok Keyword 53 57 (codes "func")) ∷ (tok Ident 58 62 (codes "Made")) ∷ (tok Operator 62 63 (codes "(")) ∷ (tok Operator 63 64 (codes ")")) ∷ (tok Keyword 65 68 (codes "map")) ∷ (tok Operator 68 69 (codes "[")) ∷ (tok Ident 69 70 (codes "K")) ∷ (tok Operator 70 71 (codes "]")) ∷ (tok Ident 71 74 (codes "int")) ∷ (tok Operator 75 76 (codes "{")) ∷ (tok Keyword 77 83 (codes "return")) ∷ (tok Keyword 84 87 (codes "map")) ∷ (tok Operator 87 88 (codes "[")) ∷ (tok Ident 88 89 (codes "K")) ∷ (tok Operator 89 90 (codes "]")) ∷ (tok Ident 90 93 (codes "int")) ∷ (tok Operator 93 94 (codes "{")) ∷ (tok Operator 94 95 (codes "{")) ∷ (tok Integer 95 96 (codes "1")) ∷ (tok Operator 96 97 (codes "}")) ∷ (tok Operator 97 98 (codes ":")) ∷ (tok Integer 99 100 (codes "2")) ∷ (tok Operator 100 101 (codes "}")) ∷ (tok Operator 102 103 (codes "}")) ∷ (tok Inserted 103 103 (codes ";")) ∷ [])) ≡ Some (hidden_in_key_f1, [])
unfolding reading
hidden_in_key_f1_read = refl

abbrev hidden_in_key : Module
hidden_in_key = record { packages = (pack (codes "example.com/m") (codes "main") (source (codes "main.go") hidden_in_key_f0 ∷ []) ∷ pack (codes "example.com/m/old") (codes "old") (source (codes "old/old.go") hidden_in_key_f1 ∷ []) ∷ []); marks = (mark 1 0 1 0 ∷ []); texts = (((codes "main.go"), record { text = (codes "package main\n\nimport \"example.com/m/old\"\n\nfunc main() {\n\tprintln(len(old.Made()))\n}\n"); tokens = ((tok Keyword 0 7 (codes "package")) ∷ (tok Ident 8 12 (codes "main")) ∷ (tok Inserted 12 12 (codes ";")) ∷ (tok Keyword 14 20 (codes "import")) ∷ (tok Str 21 40 (codes "\"example.com/m/old\"")) ∷ (tok Inserted 40 40 (codes ";")) ∷ (tok Keyword 42 46 (codes "func")) ∷ (tok Ident 47 51 (codes "main")) ∷ (tok Operator 51 52 (codes "(")) ∷ (tok Operator 52 53 (codes ")")) ∷ (tok Operator 54 55 (codes "{")) ∷ (tok Ident 57 64 (codes "println")) ∷ (tok Operator 64 65 (codes "(")) ∷ (tok Ident 65 68 (codes "len")) ∷ (tok Operator 68 69 (codes "(")) ∷ (tok Ident 69 72 (codes "old")) ∷ (tok Operator 72 73 (codes ".")) ∷ (tok Ident 73 77 (codes "Made")) ∷ (tok Operator 77 78 (codes "(")) ∷ (tok Operator 78 79 (codes ")")) ∷ (tok Operator 79 80 (codes ")")) ∷ (tok Operator 80 81 (codes ")")) ∷ (tok Inserted 81 81 (codes ";")) ∷ (tok Operator 82 83 (codes "}")) ∷ (tok Inserted 83 83 (codes ";")) ∷ []); comments = [] }) ∷ ((codes "old/old.go"), record { text = (codes "package old\n\ntype K struct{ n int }\n\n//go:fix inline\nfunc Made() map[K]int { return map[K]int{{1}: 2} }\n"); tokens = ((tok Keyword 0 7 (codes "package")) ∷ (tok Ident 8 11 (codes "old")) ∷ (tok Inserted 11 11 (codes ";")) ∷ (tok Keyword 13 17 (codes "type")) ∷ (tok Ident 18 19 (codes "K")) ∷ (tok Keyword 20 26 (codes "struct")) ∷ (tok Operator 26 27 (codes "{")) ∷ (tok Ident 28 29 (codes "n")) ∷ (tok Ident 30 33 (codes "int")) ∷ (tok Operator 34 35 (codes "}")) ∷ (tok Inserted 35 35 (codes ";")) ∷ (tok Keyword 53 57 (codes "func")) ∷ (tok Ident 58 62 (codes "Made")) ∷ (tok Operator 62 63 (codes "(")) ∷ (tok Operator 63 64 (codes ")")) ∷ (tok Keyword 65 68 (codes "map")) ∷ (tok Operator 68 69 (codes "[")) ∷ (tok Ident 69 70 (codes "K")) ∷ (tok Operator 70 71 (codes "]")) ∷ (tok Ident 71 74 (codes "int")) ∷ (tok Operator 75 76 (codes "{")) ∷ (tok Keyword 77 83 (codes "return")) ∷ (tok Keyword 84 87 (codes "map")) ∷ (tok Operator 87 88 (codes "[")) ∷ (tok Ident 88 89 (codes "K")) ∷ (tok Operator 89 90 (codes "]")) ∷ (tok Ident 90 93 (codes "int")) ∷ (tok Operator 93 94 (codes "{")) ∷ (tok Operator 94 95 (codes "{")) ∷ (tok Integer 95 96 (codes "1")) ∷ (tok Operator 96 97 (codes "}")) ∷ (tok Operator 97 98 (codes ":")) ∷ (tok Integer 99 100 (codes "2")) ∷ (tok Operator 100 101 (codes "}")) ∷ (tok Operator 102 103 (codes "}")) ∷ (tok Inserted 103 103 (codes ";")) ∷ []); comments = ((note 37 52) ∷ []) }) ∷ []) }

hidden_in_key_typed : is_typed hidden_in_key ≡ true
hidden_in_key_typed = refl

hidden_in_key_ends : step_of hidden_in_key ≡ None
unfolding passes keyword_spellings
hidden_in_key_ends = refl

hidden_in_key_kept : kept_uses hidden_in_key ≡ (((codes "main.go"), 69, Some (NotAccessible (codes "n"))) ∷ [])
unfolding passes keyword_spellings
hidden_in_key_kept = refl
