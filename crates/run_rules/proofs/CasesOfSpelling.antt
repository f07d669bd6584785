-- Parentheses around what is written.
use Rattle.std.proofs.Common.{◌≡◌, refl}
use Rattle.std.specs.Prelude.{true, false, [], ◌∷◌, Some, None, codes}
use Rattle.go_tree.specs.declared.exprs.Rest.TheVariants.{Plain}
use Rattle.go_tree.specs.declared.spans.Span.{Span}
use Rattle.go_tree.specs.declared.tokens.TokenKind.TheVariants.{Ident, Keyword, Operator, Integer, Inserted}
use Rattle.go_tree.specs.declared.operators.UnOp.TheVariants.{Minus, Address}
use Rattle.go_tree.specs.Tree.{named, pointer, slice_type, struct_type, no_fields, field, ident, int_lit, composite, selector, call, type_operand, unary, star, no_exprs, expr_and, no_elems, elem, plain, no_value, eval, define, return_, inner, no_stmts, stmt_and}
use Rattle.go_tree.specs.File.{File, types}
use Rattle.run_rules.specs.FormTrees.{TypeForm, ExprForm, BlockForm}
use Rattle.run_rules.proofs.CaseTools.{at, nm, tok, note, param, sig, tspec, fn, pack, source, mark, Module, is_typed, first_change, step_of, kept_uses}
use Rattle.go_layout.specs.SpellsSpans.{span_to}
use Rattle.go_tree.specs.GoWords.Terminals.{lexemes}
use Rattle.go_layout.specs.Goals.{read_front}
use Rattle.go_layout.proofs.Texts.{reading}
use Rattle.run_rules.proofs.CaseTools.{read_at}

-- A sign under a sign stands in parentheses.
abbrev minus_under_minus_0_f0 : File Span
minus_under_minus_0_f0 = record { package_name = (nm 8 12 (codes "main")); imports = []; decls = ((fn (at 30 63) None (nm 35 38 (codes "Neg")) (sig ((param (at 39 44) (Some (nm 39 40 (codes "x"))) (named (at 41 44) None (nm 41 44 (codes "int")))) ∷ []) ((param (at 46 49) None (named (at 46 49) None (nm 46 49 (codes "int")))) ∷ [])) (at 50 63) (stmt_and (return_ (at 52 61) (expr_and (unary (at 59 61) Minus (ident (at 60 61) (codes "x"))) no_exprs)) no_stmts)) ∷ (fn (at 65 106) None (nm 70 74 (codes "main")) (sig [] []) (at 77 106) (stmt_and (define (at 80 86) ((nm 80 81 (codes "b")) ∷ []) (expr_and (int_lit (at 85 86) (codes "4")) no_exprs)) (stmt_and (eval (at 88 104) (call (at 88 104) (ident (at 88 95) (codes "println")) (expr_and (unary (at 96 103) Minus (call (at 97 103) (ident (at 97 100) (codes "Neg")) (expr_and (ident (at 101 102) (codes "b")) no_exprs) Plain)) no_exprs) Plain)) no_stmts))) ∷ []) }

minus_under_minus_0_f0_read : read_at span_to read_front (lexemes ((tok Keyword 0 7 (codes "package")) ∷ (tok Ident 8 12 (codes "main")) ∷ (tok Inserted 12 12 (codes ";")) ∷ (tok Keyword 30 34 (codes "func")) ∷ (tok Ident 35 38 (codes "Neg")) ∷ (tok Operator 38 39 (codes "(")) ∷ (tok Ident 39 40 (codes "x")) ∷ (tok Ident 41 44 (codes "int")) ∷ (tok Operator 44 45 (codes ")")) ∷ (tok Ident 46 49 (codes "int")) ∷ (tok Operator 50 51 (codes "{")) ∷ (tok Keyword 52 58 (codes "return")) ∷ (tok Operator 59 60 (codes "-")) ∷ (tok Ident 60 61 (codes "x")) ∷ (tok Operator 62 63 (codes "}")) ∷ (tok Inserted 63 63 (codes ";")) ∷ (tok Keyword 65 69 (codes "func")) ∷ (tok Ident 70 74 (codes "main")) ∷ (tok Operator 74 75 (codes "(")) ∷ (tok Operator 75 76 (codes ")")) ∷ (tok Operator 77 78 (codes "{")) ∷ (tok Ident 80 81 (codes "b")) ∷ (tok Operator 82 84 (codes ":=")) ∷ (tok Integer 85 86 (codes "4")) ∷ (tok Inserted 86 86 (codes ";")) ∷ (tok Ident 88 95 (codes "println")) ∷ (tok Operator 95 96 (codes "(")) ∷ (tok Operator 96 97 (codes "-")) ∷ (tok Ident 97 100 (codes "Neg")) ∷ (tok Operator 100 101 (codes "(")) ∷ (tok Ident 101 102 (codes "b")) ∷ (tok Operator 102 103 (codes ")")) ∷ (tok Operator 103 104 (codes ")")) ∷ (tok Inserted 104 104 (codes ";")) ∷ (tok Operator 105 106 (codes "}")) ∷ (tok Inserted 106 106 (codes ";")) ∷ [])) ≡ Some (minus_under_minus_0_f0, [])
unfolding reading
minus_under_minus_0_f0_read = refl

abbrev minus_under_minus_0 : Module
minus_under_minus_0 = record { packages = (pack (codes "example.com/m") (codes "main") (source (codes "main.go") minus_under_minus_0_f0 ∷ []) ∷ []); marks = (mark 0 0 0 0 ∷ []); texts = (((codes "main.go"), record { text = (codes "package main\n\n//go:fix inline\nfunc Neg(x int) int { return -x }\n\nfunc main() {\n\tb := 4\n\tprintln(-Neg(b))\n}\n"); tokens = ((tok Keyword 0 7 (codes "package")) ∷ (tok Ident 8 12 (codes "main")) ∷ (tok Inserted 12 12 (codes ";")) ∷ (tok Keyword 30 34 (codes "func")) ∷ (tok Ident 35 38 (codes "Neg")) ∷ (tok Operator 38 39 (codes "(")) ∷ (tok Ident 39 40 (codes "x")) ∷ (tok Ident 41 44 (codes "int")) ∷ (tok Operator 44 45 (codes ")")) ∷ (tok Ident 46 49 (codes "int")) ∷ (tok Operator 50 51 (codes "{")) ∷ (tok Keyword 52 58 (codes "return")) ∷ (tok Operator 59 60 (codes "-")) ∷ (tok Ident 60 61 (codes "x")) ∷ (tok Operator 62 63 (codes "}")) ∷ (tok Inserted 63 63 (codes ";")) ∷ (tok Keyword 65 69 (codes "func")) ∷ (tok Ident 70 74 (codes "main")) ∷ (tok Operator 74 75 (codes "(")) ∷ (tok Operator 75 76 (codes ")")) ∷ (tok Operator 77 78 (codes "{")) ∷ (tok Ident 80 81 (codes "b")) ∷ (tok Operator 82 84 (codes ":=")) ∷ (tok Integer 85 86 (codes "4")) ∷ (tok Inserted 86 86 (codes ";")) ∷ (tok Ident 88 95 (codes "println")) ∷ (tok Operator 95 96 (codes "(")) ∷ (tok Operator 96 97 (codes "-")) ∷ (tok Ident 97 100 (codes "Neg")) ∷ (tok Operator 100 101 (codes "(")) ∷ (tok Ident 101 102 (codes "b")) ∷ (tok Operator 102 103 (codes ")")) ∷ (tok Operator 103 104 (codes ")")) ∷ (tok Inserted 104 104 (codes ";")) ∷ (tok Operator 105 106 (codes "}")) ∷ (tok Inserted 106 106 (codes ";")) ∷ []); comments = ((note 14 29) ∷ []) }) ∷ []) }

minus_under_minus_0_typed : is_typed minus_under_minus_0 ≡ true
minus_under_minus_0_typed = refl

minus_under_minus_0_step : first_change minus_under_minus_0 ≡ Some ((codes "main.go"), ExprForm, (codes "package main\n\n//go:fix inline\nfunc Neg(x int) int { return -x }\n\nfunc main() {\n\tb := 4\n\tprintln(-(-b))\n}\n"))
minus_under_minus_0_step = refl

abbrev minus_under_minus_1_f0 : File Span
minus_under_minus_1_f0 = record { package_name = (nm 8 12 (codes "main")); imports = []; decls = ((fn (at 30 63) None (nm 35 38 (codes "Neg")) (sig ((param (at 39 44) (Some (nm 39 40 (codes "x"))) (named (at 41 44) None (nm 41 44 (codes "int")))) ∷ []) ((param (at 46 49) None (named (at 46 49) None (nm 46 49 (codes "int")))) ∷ [])) (at 50 63) (stmt_and (return_ (at 52 61) (expr_and (unary (at 59 61) Minus (ident (at 60 61) (codes "x"))) no_exprs)) no_stmts)) ∷ (fn (at 65 104) None (nm 70 74 (codes "main")) (sig [] []) (at 77 104) (stmt_and (define (at 80 86) ((nm 80 81 (codes "b")) ∷ []) (expr_and (int_lit (at 85 86) (codes "4")) no_exprs)) (stmt_and (eval (at 88 102) (call (at 88 102) (ident (at 88 95) (codes "println")) (expr_and (unary (at 96 101) Minus (unary (at 98 100) Minus (ident (at 99 100) (codes "b")))) no_exprs) Plain)) no_stmts))) ∷ []) }

minus_under_minus_1_f0_read : read_at span_to read_front (lexemes ((tok Keyword 0 7 (codes "package")) ∷ (tok Ident 8 12 (codes "main")) ∷ (tok Inserted 12 12 (codes ";")) ∷ (tok Keyword 30 34 (codes "func")) ∷ (tok Ident 35 38 (codes "Neg")) ∷ (tok Operator 38 39 (codes "(")) ∷ (tok Ident 39 40 (codes "x")) ∷ (tok Ident 41 44 (codes "int")) ∷ (tok Operator 44 45 (codes ")")) ∷ (tok Ident 46 49 (codes "int")) ∷ (tok Operator 50 51 (codes "{")) ∷ (tok Keyword 52 58 (codes "return")) ∷ (tok Operator 59 60 (codes "-")) ∷ (tok Ident 60 61 (codes "x")) ∷ (tok Operator 62 63 (codes "}")) ∷ (tok Inserted 63 63 (codes ";")) ∷ (tok Keyword 65 69 (codes "func")) ∷ (tok Ident 70 74 (codes "main")) ∷ (tok Operator 74 75 (codes "(")) ∷ (tok Operator 75 76 (codes ")")) ∷ (tok Operator 77 78 (codes "{")) ∷ (tok Ident 80 81 (codes "b")) ∷ (tok Operator 82 84 (codes ":=")) ∷ (tok Integer 85 86 (codes "4")) ∷ (tok Inserted 86 86 (codes ";")) ∷ (tok Ident 88 95 (codes "println")) ∷ (tok Operator 95 96 (codes "(")) ∷ (tok Operator 96 97 (codes "-")) ∷ (tok Operator 97 98 (codes "(")) ∷ (tok Operator 98 99 (codes "-")) ∷ (tok Ident 99 100 (codes "b")) ∷ (tok Operator 100 101 (codes ")")) ∷ (tok Operator 101 102 (codes ")")) ∷ (tok Inserted 102 102 (codes ";")) ∷ (tok Operator 103 104 (codes "}")) ∷ (tok Inserted 104 104 (codes ";")) ∷ [])) ≡ Some (minus_under_minus_1_f0, [])
unfolding reading
minus_under_minus_1_f0_read = refl

abbrev minus_under_minus_1 : Module
minus_under_minus_1 = record { packages = (pack (codes "example.com/m") (codes "main") (source (codes "main.go") minus_under_minus_1_f0 ∷ []) ∷ []); marks = (mark 0 0 0 0 ∷ []); texts = (((codes "main.go"), record { text = (codes "package main\n\n//go:fix inline\nfunc Neg(x int) int { return -x }\n\nfunc main() {\n\tb := 4\n\tprintln(-(-b))\n}\n"); tokens = ((tok Keyword 0 7 (codes "package")) ∷ (tok Ident 8 12 (codes "main")) ∷ (tok Inserted 12 12 (codes ";")) ∷ (tok Keyword 30 34 (codes "func")) ∷ (tok Ident 35 38 (codes "Neg")) ∷ (tok Operator 38 39 (codes "(")) ∷ (tok Ident 39 40 (codes "x")) ∷ (tok Ident 41 44 (codes "int")) ∷ (tok Operator 44 45 (codes ")")) ∷ (tok Ident 46 49 (codes "int")) ∷ (tok Operator 50 51 (codes "{")) ∷ (tok Keyword 52 58 (codes "return")) ∷ (tok Operator 59 60 (codes "-")) ∷ (tok Ident 60 61 (codes "x")) ∷ (tok Operator 62 63 (codes "}")) ∷ (tok Inserted 63 63 (codes ";")) ∷ (tok Keyword 65 69 (codes "func")) ∷ (tok Ident 70 74 (codes "main")) ∷ (tok Operator 74 75 (codes "(")) ∷ (tok Operator 75 76 (codes ")")) ∷ (tok Operator 77 78 (codes "{")) ∷ (tok Ident 80 81 (codes "b")) ∷ (tok Operator 82 84 (codes ":=")) ∷ (tok Integer 85 86 (codes "4")) ∷ (tok Inserted 86 86 (codes ";")) ∷ (tok Ident 88 95 (codes "println")) ∷ (tok Operator 95 96 (codes "(")) ∷ (tok Operator 96 97 (codes "-")) ∷ (tok Operator 97 98 (codes "(")) ∷ (tok Operator 98 99 (codes "-")) ∷ (tok Ident 99 100 (codes "b")) ∷ (tok Operator 100 101 (codes ")")) ∷ (tok Operator 101 102 (codes ")")) ∷ (tok Inserted 102 102 (codes ";")) ∷ (tok Operator 103 104 (codes "}")) ∷ (tok Inserted 104 104 (codes ";")) ∷ []); comments = ((note 14 29) ∷ []) }) ∷ []) }

minus_under_minus_1_typed : is_typed minus_under_minus_1 ≡ true
minus_under_minus_1_typed = refl

minus_under_minus_1_ends : step_of minus_under_minus_1 ≡ None
minus_under_minus_1_ends = refl

minus_under_minus_1_kept : kept_uses minus_under_minus_1 ≡ []
minus_under_minus_1_kept = refl

-- An alias as an operand and as what is called.
abbrev alias_as_operand_0_f0 : File Span
alias_as_operand_0_f0 = record { package_name = (nm 8 12 (codes "main")); imports = []; decls = ((types (at 30 44) false ((tspec (at 35 44) (nm 35 36 (codes "A")) true (slice_type (at 39 44) (named (at 41 44) None (nm 41 44 (codes "int"))))) ∷ [])) ∷ (fn (at 46 108) None (nm 51 55 (codes "main")) (sig [] []) (at 58 108) (stmt_and (define (at 61 76) ((nm 61 62 (codes "a")) ∷ []) (expr_and (call (at 66 76) (ident (at 66 70) (codes "make")) (expr_and (ident (at 71 72) (codes "A")) (expr_and (int_lit (at 74 75) (codes "3")) no_exprs)) Plain) no_exprs)) (stmt_and (eval (at 78 106) (call (at 78 106) (ident (at 78 85) (codes "println")) (expr_and (call (at 86 92) (ident (at 86 89) (codes "len")) (expr_and (ident (at 90 91) (codes "a")) no_exprs) Plain) (expr_and (call (at 94 105) (ident (at 94 97) (codes "len")) (expr_and (call (at 98 104) (ident (at 98 99) (codes "A")) (expr_and (ident (at 100 103) (codes "nil")) no_exprs) Plain) no_exprs) Plain) no_exprs)) Plain)) no_stmts))) ∷ []) }

alias_as_operand_0_f0_read : read_at span_to read_front (lexemes ((tok Keyword 0 7 (codes "package")) ∷ (tok Ident 8 12 (codes "main")) ∷ (tok Inserted 12 12 (codes ";")) ∷ (tok Keyword 30 34 (codes "type")) ∷ (tok Ident 35 36 (codes "A")) ∷ (tok Operator 37 38 (codes "=")) ∷ (tok Operator 39 40 (codes "[")) ∷ (tok Operator 40 41 (codes "]")) ∷ (tok Ident 41 44 (codes "int")) ∷ (tok Inserted 44 44 (codes ";")) ∷ (tok Keyword 46 50 (codes "func")) ∷ (tok Ident 51 55 (codes "main")) ∷ (tok Operator 55 56 (codes "(")) ∷ (tok Operator 56 57 (codes ")")) ∷ (tok Operator 58 59 (codes "{")) ∷ (tok Ident 61 62 (codes "a")) ∷ (tok Operator 63 65 (codes ":=")) ∷ (tok Ident 66 70 (codes "make")) ∷ (tok Operator 70 71 (codes "(")) ∷ (tok Ident 71 72 (codes "A")) ∷ (tok Operator 72 73 (codes ",")) ∷ (tok Integer 74 75 (codes "3")) ∷ (tok Operator 75 76 (codes ")")) ∷ (tok Inserted 76 76 (codes ";")) ∷ (tok Ident 78 85 (codes "println")) ∷ (tok Operator 85 86 (codes "(")) ∷ (tok Ident 86 89 (codes "len")) ∷ (tok Operator 89 90 (codes "(")) ∷ (tok Ident 90 91 (codes "a")) ∷ (tok Operator 91 92 (codes ")")) ∷ (tok Operator 92 93 (codes ",")) ∷ (tok Ident 94 97 (codes "len")) ∷ (tok Operator 97 98 (codes "(")) ∷ (tok Ident 98 99 (codes "A")) ∷ (tok Operator 99 100 (codes "(")) ∷ (tok Ident 100 103 (codes "nil")) ∷ (tok Operator 103 104 (codes ")")) ∷ (tok Operator 104 105 (codes ")")) ∷ (tok Operator 105 106 (codes ")")) ∷ (tok Inserted 106 106 (codes ";")) ∷ (tok Operator 107 108 (codes "}")) ∷ (tok Inserted 108 108 (codes ";")) ∷ [])) ≡ Some (alias_as_operand_0_f0, [])
unfolding reading
alias_as_operand_0_f0_read = refl

abbrev alias_as_operand_0 : Module
alias_as_operand_0 = record { packages = (pack (codes "example.com/m") (codes "main") (source (codes "main.go") alias_as_operand_0_f0 ∷ []) ∷ []); marks = (mark 0 0 0 0 ∷ []); texts = (((codes "main.go"), record { text = (codes "package main\n\n//go:fix inline\ntype A = []int\n\nfunc main() {\n\ta := make(A, 3)\n\tprintln(len(a), len(A(nil)))\n}\n"); tokens = ((tok Keyword 0 7 (codes "package")) ∷ (tok Ident 8 12 (codes "main")) ∷ (tok Inserted 12 12 (codes ";")) ∷ (tok Keyword 30 34 (codes "type")) ∷ (tok Ident 35 36 (codes "A")) ∷ (tok Operator 37 38 (codes "=")) ∷ (tok Operator 39 40 (codes "[")) ∷ (tok Operator 40 41 (codes "]")) ∷ (tok Ident 41 44 (codes "int")) ∷ (tok Inserted 44 44 (codes ";")) ∷ (tok Keyword 46 50 (codes "func")) ∷ (tok Ident 51 55 (codes "main")) ∷ (tok Operator 55 56 (codes "(")) ∷ (tok Operator 56 57 (codes ")")) ∷ (tok Operator 58 59 (codes "{")) ∷ (tok Ident 61 62 (codes "a")) ∷ (tok Operator 63 65 (codes ":=")) ∷ (tok Ident 66 70 (codes "make")) ∷ (tok Operator 70 71 (codes "(")) ∷ (tok Ident 71 72 (codes "A")) ∷ (tok Operator 72 73 (codes ",")) ∷ (tok Integer 74 75 (codes "3")) ∷ (tok Operator 75 76 (codes ")")) ∷ (tok Inserted 76 76 (codes ";")) ∷ (tok Ident 78 85 (codes "println")) ∷ (tok Operator 85 86 (codes "(")) ∷ (tok Ident 86 89 (codes "len")) ∷ (tok Operator 89 90 (codes "(")) ∷ (tok Ident 90 91 (codes "a")) ∷ (tok Operator 91 92 (codes ")")) ∷ (tok Operator 92 93 (codes ",")) ∷ (tok Ident 94 97 (codes "len")) ∷ (tok Operator 97 98 (codes "(")) ∷ (tok Ident 98 99 (codes "A")) ∷ (tok Operator 99 100 (codes "(")) ∷ (tok Ident 100 103 (codes "nil")) ∷ (tok Operator 103 104 (codes ")")) ∷ (tok Operator 104 105 (codes ")")) ∷ (tok Operator 105 106 (codes ")")) ∷ (tok Inserted 106 106 (codes ";")) ∷ (tok Operator 107 108 (codes "}")) ∷ (tok Inserted 108 108 (codes ";")) ∷ []); comments = ((note 14 29) ∷ []) }) ∷ []) }

alias_as_operand_0_typed : is_typed alias_as_operand_0 ≡ true
alias_as_operand_0_typed = refl

alias_as_operand_0_step : first_change alias_as_operand_0 ≡ Some ((codes "main.go"), TypeForm, (codes "package main\n\n//go:fix inline\ntype A = []int\n\nfunc main() {\n\ta := make([]int, 3)\n\tprintln(len(a), len(A(nil)))\n}\n"))
alias_as_operand_0_step = refl

abbrev alias_as_operand_1_f0 : File Span
alias_as_operand_1_f0 = record { package_name = (nm 8 12 (codes "main")); imports = []; decls = ((types (at 30 44) false ((tspec (at 35 44) (nm 35 36 (codes "A")) true (slice_type (at 39 44) (named (at 41 44) None (nm 41 44 (codes "int"))))) ∷ [])) ∷ (fn (at 46 112) None (nm 51 55 (codes "main")) (sig [] []) (at 58 112) (stmt_and (define (at 61 80) ((nm 61 62 (codes "a")) ∷ []) (expr_and (call (at 66 80) (ident (at 66 70) (codes "make")) (expr_and (type_operand (at 71 76) (slice_type (at 71 76) (named (at 73 76) None (nm 73 76 (codes "int"))))) (expr_and (int_lit (at 78 79) (codes "3")) no_exprs)) Plain) no_exprs)) (stmt_and (eval (at 82 110) (call (at 82 110) (ident (at 82 89) (codes "println")) (expr_and (call (at 90 96) (ident (at 90 93) (codes "len")) (expr_and (ident (at 94 95) (codes "a")) no_exprs) Plain) (expr_and (call (at 98 109) (ident (at 98 101) (codes "len")) (expr_and (call (at 102 108) (ident (at 102 103) (codes "A")) (expr_and (ident (at 104 107) (codes "nil")) no_exprs) Plain) no_exprs) Plain) no_exprs)) Plain)) no_stmts))) ∷ []) }

alias_as_operand_1_f0_read : read_at span_to read_front (lexemes ((tok Keyword 0 7 (codes "package")) ∷ (tok Ident 8 12 (codes "main")) ∷ (tok Inserted 12 12 (codes ";")) ∷ (tok Keyword 30 34 (codes "type")) ∷ (tok Ident 35 36 (codes "A")) ∷ (tok Operator 37 38 (codes "=")) ∷ (tok Operator 39 40 (codes "[")) ∷ (tok Operator 40 41 (codes "]")) ∷ (tok Ident 41 44 (codes "int")) ∷ (tok Inserted 44 44 (codes ";")) ∷ (tok Keyword 46 50 (codes "func")) ∷ (tok Ident 51 55 (codes "main")) ∷ (tok Operator 55 56 (codes "(")) ∷ (tok Operator 56 57 (codes ")")) ∷ (tok Operator 58 59 (codes "{")) ∷ (tok Ident 61 62 (codes "a")) ∷ (tok Operator 63 65 (codes ":=")) ∷ (tok Ident 66 70 (codes "make")) ∷ (tok Operator 70 71 (codes "(")) ∷ (tok Operator 71 72 (codes "[")) ∷ (tok Operator 72 73 (codes "]")) ∷ (tok Ident 73 76 (codes "int")) ∷ (tok Operator 76 77 (codes ",")) ∷ (tok Integer 78 79 (codes "3")) ∷ (tok Operator 79 80 (codes ")")) ∷ (tok Inserted 80 80 (codes ";")) ∷ (tok Ident 82 89 (codes "println")) ∷ (tok Operator 89 90 (codes "(")) ∷ (tok Ident 90 93 (codes "len")) ∷ (tok Operator 93 94 (codes "(")) ∷ (tok Ident 94 95 (codes "a")) ∷ (tok Operator 95 96 (codes ")")) ∷ (tok Operator 96 97 (codes ",")) ∷ (tok Ident 98 101 (codes "len")) ∷ (tok Operator 101 102 (codes "(")) ∷ (tok Ident 102 103 (codes "A")) ∷ (tok Operator 103 104 (codes "(")) ∷ (tok Ident 104 107 (codes "nil")) ∷ (tok Operator 107 108 (codes ")")) ∷ (tok Operator 108 109 (codes ")")) ∷ (tok Operator 109 110 (codes ")")) ∷ (tok Inserted 110 110 (codes ";")) ∷ (tok Operator 111 112 (codes "}")) ∷ (tok Inserted 112 112 (codes ";")) ∷ [])) ≡ Some (alias_as_operand_1_f0, [])
unfolding reading
alias_as_operand_1_f0_read = refl

abbrev alias_as_operand_1 : Module
alias_as_operand_1 = record { packages = (pack (codes "example.com/m") (codes "main") (source (codes "main.go") alias_as_operand_1_f0 ∷ []) ∷ []); marks = (mark 0 0 0 0 ∷ []); texts = (((codes "main.go"), record { text = (codes "package main\n\n//go:fix inline\ntype A = []int\n\nfunc main() {\n\ta := make([]int, 3)\n\tprintln(len(a), len(A(nil)))\n}\n"); tokens = ((tok Keyword 0 7 (codes "package")) ∷ (tok Ident 8 12 (codes "main")) ∷ (tok Inserted 12 12 (codes ";")) ∷ (tok Keyword 30 34 (codes "type")) ∷ (tok Ident 35 36 (codes "A")) ∷ (tok Operator 37 38 (codes "=")) ∷ (tok Operator 39 40 (codes "[")) ∷ (tok Operator 40 41 (codes "]")) ∷ (tok Ident 41 44 (codes "int")) ∷ (tok Inserted 44 44 (codes ";")) ∷ (tok Keyword 46 50 (codes "func")) ∷ (tok Ident 51 55 (codes "main")) ∷ (tok Operator 55 56 (codes "(")) ∷ (tok Operator 56 57 (codes ")")) ∷ (tok Operator 58 59 (codes "{")) ∷ (tok Ident 61 62 (codes "a")) ∷ (tok Operator 63 65 (codes ":=")) ∷ (tok Ident 66 70 (codes "make")) ∷ (tok Operator 70 71 (codes "(")) ∷ (tok Operator 71 72 (codes "[")) ∷ (tok Operator 72 73 (codes "]")) ∷ (tok Ident 73 76 (codes "int")) ∷ (tok Operator 76 77 (codes ",")) ∷ (tok Integer 78 79 (codes "3")) ∷ (tok Operator 79 80 (codes ")")) ∷ (tok Inserted 80 80 (codes ";")) ∷ (tok Ident 82 89 (codes "println")) ∷ (tok Operator 89 90 (codes "(")) ∷ (tok Ident 90 93 (codes "len")) ∷ (tok Operator 93 94 (codes "(")) ∷ (tok Ident 94 95 (codes "a")) ∷ (tok Operator 95 96 (codes ")")) ∷ (tok Operator 96 97 (codes ",")) ∷ (tok Ident 98 101 (codes "len")) ∷ (tok Operator 101 102 (codes "(")) ∷ (tok Ident 102 103 (codes "A")) ∷ (tok Operator 103 104 (codes "(")) ∷ (tok Ident 104 107 (codes "nil")) ∷ (tok Operator 107 108 (codes ")")) ∷ (tok Operator 108 109 (codes ")")) ∷ (tok Operator 109 110 (codes ")")) ∷ (tok Inserted 110 110 (codes ";")) ∷ (tok Operator 111 112 (codes "}")) ∷ (tok Inserted 112 112 (codes ";")) ∷ []); comments = ((note 14 29) ∷ []) }) ∷ []) }

alias_as_operand_1_typed : is_typed alias_as_operand_1 ≡ true
alias_as_operand_1_typed = refl

alias_as_operand_1_step : first_change alias_as_operand_1 ≡ Some ((codes "main.go"), TypeForm, (codes "package main\n\n//go:fix inline\ntype A = []int\n\nfunc main() {\n\ta := make([]int, 3)\n\tprintln(len(a), len([]int(nil)))\n}\n"))
alias_as_operand_1_step = refl

abbrev alias_as_operand_2_f0 : File Span
alias_as_operand_2_f0 = record { package_name = (nm 8 12 (codes "main")); imports = []; decls = ((types (at 30 44) false ((tspec (at 35 44) (nm 35 36 (codes "A")) true (slice_type (at 39 44) (named (at 41 44) None (nm 41 44 (codes "int"))))) ∷ [])) ∷ (fn (at 46 116) None (nm 51 55 (codes "main")) (sig [] []) (at 58 116) (stmt_and (define (at 61 80) ((nm 61 62 (codes "a")) ∷ []) (expr_and (call (at 66 80) (ident (at 66 70) (codes "make")) (expr_and (type_operand (at 71 76) (slice_type (at 71 76) (named (at 73 76) None (nm 73 76 (codes "int"))))) (expr_and (int_lit (at 78 79) (codes "3")) no_exprs)) Plain) no_exprs)) (stmt_and (eval (at 82 114) (call (at 82 114) (ident (at 82 89) (codes "println")) (expr_and (call (at 90 96) (ident (at 90 93) (codes "len")) (expr_and (ident (at 94 95) (codes "a")) no_exprs) Plain) (expr_and (call (at 98 113) (ident (at 98 101) (codes "len")) (expr_and (call (at 102 112) (type_operand (at 102 107) (slice_type (at 102 107) (named (at 104 107) None (nm 104 107 (codes "int"))))) (expr_and (ident (at 108 111) (codes "nil")) no_exprs) Plain) no_exprs) Plain) no_exprs)) Plain)) no_stmts))) ∷ []) }

alias_as_operand_2_f0_read : read_at span_to read_front (lexemes ((tok Keyword 0 7 (codes "package")) ∷ (tok Ident 8 12 (codes "main")) ∷ (tok Inserted 12 12 (codes ";")) ∷ (tok Keyword 30 34 (codes "type")) ∷ (tok Ident 35 36 (codes "A")) ∷ (tok Operator 37 38 (codes "=")) ∷ (tok Operator 39 40 (codes "[")) ∷ (tok Operator 40 41 (codes "]")) ∷ (tok Ident 41 44 (codes "int")) ∷ (tok Inserted 44 44 (codes ";")) ∷ (tok Keyword 46 50 (codes "func")) ∷ (tok Ident 51 55 (codes "main")) ∷ (tok Operator 55 56 (codes "(")) ∷ (tok Operator 56 57 (codes ")")) ∷ (tok Operator 58 59 (codes "{")) ∷ (tok Ident 61 62 (codes "a")) ∷ (tok Operator 63 65 (codes ":=")) ∷ (tok Ident 66 70 (codes "make")) ∷ (tok Operator 70 71 (codes "(")) ∷ (tok Operator 71 72 (codes "[")) ∷ (tok Operator 72 73 (codes "]")) ∷ (tok Ident 73 76 (codes "int")) ∷ (tok Operator 76 77 (codes ",")) ∷ (tok Integer 78 79 (codes "3")) ∷ (tok Operator 79 80 (codes ")")) ∷ (tok Inserted 80 80 (codes ";")) ∷ (tok Ident 82 89 (codes "println")) ∷ (tok Operator 89 90 (codes "(")) ∷ (tok Ident 90 93 (codes "len")) ∷ (tok Operator 93 94 (codes "(")) ∷ (tok Ident 94 95 (codes "a")) ∷ (tok Operator 95 96 (codes ")")) ∷ (tok Operator 96 97 (codes ",")) ∷ (tok Ident 98 101 (codes "len")) ∷ (tok Operator 101 102 (codes "(")) ∷ (tok Operator 102 103 (codes "[")) ∷ (tok Operator 103 104 (codes "]")) ∷ (tok Ident 104 107 (codes "int")) ∷ (tok Operator 107 108 (codes "(")) ∷ (tok Ident 108 111 (codes "nil")) ∷ (tok Operator 111 112 (codes ")")) ∷ (tok Operator 112 113 (codes ")")) ∷ (tok Operator 113 114 (codes ")")) ∷ (tok Inserted 114 114 (codes ";")) ∷ (tok Operator 115 116 (codes "}")) ∷ (tok Inserted 116 116 (codes ";")) ∷ [])) ≡ Some (alias_as_operand_2_f0, [])
unfolding reading
alias_as_operand_2_f0_read = refl

abbrev alias_as_operand_2 : Module
alias_as_operand_2 = record { packages = (pack (codes "example.com/m") (codes "main") (source (codes "main.go") alias_as_operand_2_f0 ∷ []) ∷ []); marks = (mark 0 0 0 0 ∷ []); texts = (((codes "main.go"), record { text = (codes "package main\n\n//go:fix inline\ntype A = []int\n\nfunc main() {\n\ta := make([]int, 3)\n\tprintln(len(a), len([]int(nil)))\n}\n"); tokens = ((tok Keyword 0 7 (codes "package")) ∷ (tok Ident 8 12 (codes "main")) ∷ (tok Inserted 12 12 (codes ";")) ∷ (tok Keyword 30 34 (codes "type")) ∷ (tok Ident 35 36 (codes "A")) ∷ (tok Operator 37 38 (codes "=")) ∷ (tok Operator 39 40 (codes "[")) ∷ (tok Operator 40 41 (codes "]")) ∷ (tok Ident 41 44 (codes "int")) ∷ (tok Inserted 44 44 (codes ";")) ∷ (tok Keyword 46 50 (codes "func")) ∷ (tok Ident 51 55 (codes "main")) ∷ (tok Operator 55 56 (codes "(")) ∷ (tok Operator 56 57 (codes ")")) ∷ (tok Operator 58 59 (codes "{")) ∷ (tok Ident 61 62 (codes "a")) ∷ (tok Operator 63 65 (codes ":=")) ∷ (tok Ident 66 70 (codes "make")) ∷ (tok Operator 70 71 (codes "(")) ∷ (tok Operator 71 72 (codes "[")) ∷ (tok Operator 72 73 (codes "]")) ∷ (tok Ident 73 76 (codes "int")) ∷ (tok Operator 76 77 (codes ",")) ∷ (tok Integer 78 79 (codes "3")) ∷ (tok Operator 79 80 (codes ")")) ∷ (tok Inserted 80 80 (codes ";")) ∷ (tok Ident 82 89 (codes "println")) ∷ (tok Operator 89 90 (codes "(")) ∷ (tok Ident 90 93 (codes "len")) ∷ (tok Operator 93 94 (codes "(")) ∷ (tok Ident 94 95 (codes "a")) ∷ (tok Operator 95 96 (codes ")")) ∷ (tok Operator 96 97 (codes ",")) ∷ (tok Ident 98 101 (codes "len")) ∷ (tok Operator 101 102 (codes "(")) ∷ (tok Operator 102 103 (codes "[")) ∷ (tok Operator 103 104 (codes "]")) ∷ (tok Ident 104 107 (codes "int")) ∷ (tok Operator 107 108 (codes "(")) ∷ (tok Ident 108 111 (codes "nil")) ∷ (tok Operator 111 112 (codes ")")) ∷ (tok Operator 112 113 (codes ")")) ∷ (tok Operator 113 114 (codes ")")) ∷ (tok Inserted 114 114 (codes ";")) ∷ (tok Operator 115 116 (codes "}")) ∷ (tok Inserted 116 116 (codes ";")) ∷ []); comments = ((note 14 29) ∷ []) }) ∷ []) }

alias_as_operand_2_typed : is_typed alias_as_operand_2 ≡ true
alias_as_operand_2_typed = refl

alias_as_operand_2_ends : step_of alias_as_operand_2 ≡ None
alias_as_operand_2_ends = refl

alias_as_operand_2_kept : kept_uses alias_as_operand_2 ≡ []
alias_as_operand_2_kept = refl

-- What is selected from stands in parentheses.
abbrev selected_sum_0_f0 : File Span
selected_sum_0_f0 = record { package_name = (nm 8 12 (codes "main")); imports = []; decls = ((types (at 14 36) false ((tspec (at 19 36) (nm 19 20 (codes "P")) false (struct_type (at 21 36) (field (at 29 34) (nm 29 30 (codes "n")) (named (at 31 34) None (nm 31 34 (codes "int"))) no_fields))) ∷ [])) ∷ (fn (at 54 83) None (nm 59 61 (codes "Of")) (sig ((param (at 62 66) (Some (nm 62 63 (codes "p"))) (pointer (at 64 66) (named (at 65 66) None (nm 65 66 (codes "P"))))) ∷ []) ((param (at 68 69) None (named (at 68 69) None (nm 68 69 (codes "P")))) ∷ [])) (at 70 83) (stmt_and (return_ (at 72 81) (expr_and (star (at 79 81) (ident (at 80 81) (codes "p"))) no_exprs)) no_stmts)) ∷ (fn (at 85 130) None (nm 90 94 (codes "main")) (sig [] []) (at 97 130) (stmt_and (define (at 100 110) ((nm 100 101 (codes "p")) ∷ []) (expr_and (unary (at 105 110) Address (composite (at 106 110) (named (at 106 107) None (nm 106 107 (codes "P"))) (elem (at 108 109) no_value (plain (int_lit (at 108 109) (codes "1"))) no_elems))) no_exprs)) (stmt_and (eval (at 112 128) (call (at 112 128) (ident (at 112 119) (codes "println")) (expr_and (selector (at 120 127) (call (at 120 125) (ident (at 120 122) (codes "Of")) (expr_and (ident (at 123 124) (codes "p")) no_exprs) Plain) (nm 126 127 (codes "n"))) no_exprs) Plain)) no_stmts))) ∷ []) }

selected_sum_0_f0_read : read_at span_to read_front (lexemes ((tok Keyword 0 7 (codes "package")) ∷ (tok Ident 8 12 (codes "main")) ∷ (tok Inserted 12 12 (codes ";")) ∷ (tok Keyword 14 18 (codes "type")) ∷ (tok Ident 19 20 (codes "P")) ∷ (tok Keyword 21 27 (codes "struct")) ∷ (tok Operator 27 28 (codes "{")) ∷ (tok Ident 29 30 (codes "n")) ∷ (tok Ident 31 34 (codes "int")) ∷ (tok Operator 35 36 (codes "}")) ∷ (tok Inserted 36 36 (codes ";")) ∷ (tok Keyword 54 58 (codes "func")) ∷ (tok Ident 59 61 (codes "Of")) ∷ (tok Operator 61 62 (codes "(")) ∷ (tok Ident 62 63 (codes "p")) ∷ (tok Operator 64 65 (codes "*")) ∷ (tok Ident 65 66 (codes "P")) ∷ (tok Operator 66 67 (codes ")")) ∷ (tok Ident 68 69 (codes "P")) ∷ (tok Operator 70 71 (codes "{")) ∷ (tok Keyword 72 78 (codes "return")) ∷ (tok Operator 79 80 (codes "*")) ∷ (tok Ident 80 81 (codes "p")) ∷ (tok Operator 82 83 (codes "}")) ∷ (tok Inserted 83 83 (codes ";")) ∷ (tok Keyword 85 89 (codes "func")) ∷ (tok Ident 90 94 (codes "main")) ∷ (tok Operator 94 95 (codes "(")) ∷ (tok Operator 95 96 (codes ")")) ∷ (tok Operator 97 98 (codes "{")) ∷ (tok Ident 100 101 (codes "p")) ∷ (tok Operator 102 104 (codes ":=")) ∷ (tok Operator 105 106 (codes "&")) ∷ (tok Ident 106 107 (codes "P")) ∷ (tok Operator 107 108 (codes "{")) ∷ (tok Integer 108 109 (codes "1")) ∷ (tok Operator 109 110 (codes "}")) ∷ (tok Inserted 110 110 (codes ";")) ∷ (tok Ident 112 119 (codes "println")) ∷ (tok Operator 119 120 (codes "(")) ∷ (tok Ident 120 122 (codes "Of")) ∷ (tok Operator 122 123 (codes "(")) ∷ (tok Ident 123 124 (codes "p")) ∷ (tok Operator 124 125 (codes ")")) ∷ (tok Operator 125 126 (codes ".")) ∷ (tok Ident 126 127 (codes "n")) ∷ (tok Operator 127 128 (codes ")")) ∷ (tok Inserted 128 128 (codes ";")) ∷ (tok Operator 129 130 (codes "}")) ∷ (tok Inserted 130 130 (codes ";")) ∷ [])) ≡ Some (selected_sum_0_f0, [])
unfolding reading
selected_sum_0_f0_read = refl

abbrev selected_sum_0 : Module
selected_sum_0 = record { packages = (pack (codes "example.com/m") (codes "main") (source (codes "main.go") selected_sum_0_f0 ∷ []) ∷ []); marks = (mark 0 0 1 0 ∷ []); texts = (((codes "main.go"), record { text = (codes "package main\n\ntype P struct{ n int }\n\n//go:fix inline\nfunc Of(p *P) P { return *p }\n\nfunc main() {\n\tp := &P{1}\n\tprintln(Of(p).n)\n}\n"); tokens = ((tok Keyword 0 7 (codes "package")) ∷ (tok Ident 8 12 (codes "main")) ∷ (tok Inserted 12 12 (codes ";")) ∷ (tok Keyword 14 18 (codes "type")) ∷ (tok Ident 19 20 (codes "P")) ∷ (tok Keyword 21 27 (codes "struct")) ∷ (tok Operator 27 28 (codes "{")) ∷ (tok Ident 29 30 (codes "n")) ∷ (tok Ident 31 34 (codes "int")) ∷ (tok Operator 35 36 (codes "}")) ∷ (tok Inserted 36 36 (codes ";")) ∷ (tok Keyword 54 58 (codes "func")) ∷ (tok Ident 59 61 (codes "Of")) ∷ (tok Operator 61 62 (codes "(")) ∷ (tok Ident 62 63 (codes "p")) ∷ (tok Operator 64 65 (codes "*")) ∷ (tok Ident 65 66 (codes "P")) ∷ (tok Operator 66 67 (codes ")")) ∷ (tok Ident 68 69 (codes "P")) ∷ (tok Operator 70 71 (codes "{")) ∷ (tok Keyword 72 78 (codes "return")) ∷ (tok Operator 79 80 (codes "*")) ∷ (tok Ident 80 81 (codes "p")) ∷ (tok Operator 82 83 (codes "}")) ∷ (tok Inserted 83 83 (codes ";")) ∷ (tok Keyword 85 89 (codes "func")) ∷ (tok Ident 90 94 (codes "main")) ∷ (tok Operator 94 95 (codes "(")) ∷ (tok Operator 95 96 (codes ")")) ∷ (tok Operator 97 98 (codes "{")) ∷ (tok Ident 100 101 (codes "p")) ∷ (tok Operator 102 104 (codes ":=")) ∷ (tok Operator 105 106 (codes "&")) ∷ (tok Ident 106 107 (codes "P")) ∷ (tok Operator 107 108 (codes "{")) ∷ (tok Integer 108 109 (codes "1")) ∷ (tok Operator 109 110 (codes "}")) ∷ (tok Inserted 110 110 (codes ";")) ∷ (tok Ident 112 119 (codes "println")) ∷ (tok Operator 119 120 (codes "(")) ∷ (tok Ident 120 122 (codes "Of")) ∷ (tok Operator 122 123 (codes "(")) ∷ (tok Ident 123 124 (codes "p")) ∷ (tok Operator 124 125 (codes ")")) ∷ (tok Operator 125 126 (codes ".")) ∷ (tok Ident 126 127 (codes "n")) ∷ (tok Operator 127 128 (codes ")")) ∷ (tok Inserted 128 128 (codes ";")) ∷ (tok Operator 129 130 (codes "}")) ∷ (tok Inserted 130 130 (codes ";")) ∷ []); comments = ((note 38 53) ∷ []) }) ∷ []) }

selected_sum_0_typed : is_typed selected_sum_0 ≡ true
selected_sum_0_typed = refl

selected_sum_0_step : first_change selected_sum_0 ≡ Some ((codes "main.go"), ExprForm, (codes "package main\n\ntype P struct{ n int }\n\n//go:fix inline\nfunc Of(p *P) P { return *p }\n\nfunc main() {\n\tp := &P{1}\n\tprintln((*p).n)\n}\n"))
selected_sum_0_step = refl

abbrev selected_sum_1_f0 : File Span
selected_sum_1_f0 = record { package_name = (nm 8 12 (codes "main")); imports = []; decls = ((types (at 14 36) false ((tspec (at 19 36) (nm 19 20 (codes "P")) false (struct_type (at 21 36) (field (at 29 34) (nm 29 30 (codes "n")) (named (at 31 34) None (nm 31 34 (codes "int"))) no_fields))) ∷ [])) ∷ (fn (at 54 83) None (nm 59 61 (codes "Of")) (sig ((param (at 62 66) (Some (nm 62 63 (codes "p"))) (pointer (at 64 66) (named (at 65 66) None (nm 65 66 (codes "P"))))) ∷ []) ((param (at 68 69) None (named (at 68 69) None (nm 68 69 (codes "P")))) ∷ [])) (at 70 83) (stmt_and (return_ (at 72 81) (expr_and (star (at 79 81) (ident (at 80 81) (codes "p"))) no_exprs)) no_stmts)) ∷ (fn (at 85 129) None (nm 90 94 (codes "main")) (sig [] []) (at 97 129) (stmt_and (define (at 100 110) ((nm 100 101 (codes "p")) ∷ []) (expr_and (unary (at 105 110) Address (composite (at 106 110) (named (at 106 107) None (nm 106 107 (codes "P"))) (elem (at 108 109) no_value (plain (int_lit (at 108 109) (codes "1"))) no_elems))) no_exprs)) (stmt_and (eval (at 112 127) (call (at 112 127) (ident (at 112 119) (codes "println")) (expr_and (selector (at 120 126) (star (at 121 123) (ident (at 122 123) (codes "p"))) (nm 125 126 (codes "n"))) no_exprs) Plain)) no_stmts))) ∷ []) }

selected_sum_1_f0_read : read_at span_to read_front (lexemes ((tok Keyword 0 7 (codes "package")) ∷ (tok Ident 8 12 (codes "main")) ∷ (tok Inserted 12 12 (codes ";")) ∷ (tok Keyword 14 18 (codes "type")) ∷ (tok Ident 19 20 (codes "P")) ∷ (tok Keyword 21 27 (codes "struct")) ∷ (tok Operator 27 28 (codes "{")) ∷ (tok Ident 29 30 (codes "n")) ∷ (tok Ident 31 34 (codes "int")) ∷ (tok Operator 35 36 (codes "}")) ∷ (tok Inserted 36 36 (codes ";")) ∷ (tok Keyword 54 58 (codes "func")) ∷ (tok Ident 59 61 (codes "Of")) ∷ (tok Operator 61 62 (codes "(")) ∷ (tok Ident 62 63 (codes "p")) ∷ (tok Operator 64 65 (codes "*")) ∷ (tok Ident 65 66 (codes "P")) ∷ (tok Operator 66 67 (codes ")")) ∷ (tok Ident 68 69 (codes "P")) ∷ (tok Operator 70 71 (codes "{")) ∷ (tok Keyword 72 78 (codes "return")) ∷ (tok Operator 79 80 (codes "*")) ∷ (tok Ident 80 81 (codes "p")) ∷ (tok Operator 82 83 (codes "}")) ∷ (tok Inserted 83 83 (codes ";")) ∷ (tok Keyword 85 89 (codes "func")) ∷ (tok Ident 90 94 (codes "main")) ∷ (tok Operator 94 95 (codes "(")) ∷ (tok Operator 95 96 (codes ")")) ∷ (tok Operator 97 98 (codes "{")) ∷ (tok Ident 100 101 (codes "p")) ∷ (tok Operator 102 104 (codes ":=")) ∷ (tok Operator 105 106 (codes "&")) ∷ (tok Ident 106 107 (codes "P")) ∷ (tok Operator 107 108 (codes "{")) ∷ (tok Integer 108 109 (codes "1")) ∷ (tok Operator 109 110 (codes "}")) ∷ (tok Inserted 110 110 (codes ";")) ∷ (tok Ident 112 119 (codes "println")) ∷ (tok Operator 119 120 (codes "(")) ∷ (tok Operator 120 121 (codes "(")) ∷ (tok Operator 121 122 (codes "*")) ∷ (tok Ident 122 123 (codes "p")) ∷ (tok Operator 123 124 (codes ")")) ∷ (tok Operator 124 125 (codes ".")) ∷ (tok Ident 125 126 (codes "n")) ∷ (tok Operator 126 127 (codes ")")) ∷ (tok Inserted 127 127 (codes ";")) ∷ (tok Operator 128 129 (codes "}")) ∷ (tok Inserted 129 129 (codes ";")) ∷ [])) ≡ Some (selected_sum_1_f0, [])
unfolding reading
selected_sum_1_f0_read = refl

abbrev selected_sum_1 : Module
selected_sum_1 = record { packages = (pack (codes "example.com/m") (codes "main") (source (codes "main.go") selected_sum_1_f0 ∷ []) ∷ []); marks = (mark 0 0 1 0 ∷ []); texts = (((codes "main.go"), record { text = (codes "package main\n\ntype P struct{ n int }\n\n//go:fix inline\nfunc Of(p *P) P { return *p }\n\nfunc main() {\n\tp := &P{1}\n\tprintln((*p).n)\n}\n"); tokens = ((tok Keyword 0 7 (codes "package")) ∷ (tok Ident 8 12 (codes "main")) ∷ (tok Inserted 12 12 (codes ";")) ∷ (tok Keyword 14 18 (codes "type")) ∷ (tok Ident 19 20 (codes "P")) ∷ (tok Keyword 21 27 (codes "struct")) ∷ (tok Operator 27 28 (codes "{")) ∷ (tok Ident 29 30 (codes "n")) ∷ (tok Ident 31 34 (codes "int")) ∷ (tok Operator 35 36 (codes "}")) ∷ (tok Inserted 36 36 (codes ";")) ∷ (tok Keyword 54 58 (codes "func")) ∷ (tok Ident 59 61 (codes "Of")) ∷ (tok Operator 61 62 (codes "(")) ∷ (tok Ident 62 63 (codes "p")) ∷ (tok Operator 64 65 (codes "*")) ∷ (tok Ident 65 66 (codes "P")) ∷ (tok Operator 66 67 (codes ")")) ∷ (tok Ident 68 69 (codes "P")) ∷ (tok Operator 70 71 (codes "{")) ∷ (tok Keyword 72 78 (codes "return")) ∷ (tok Operator 79 80 (codes "*")) ∷ (tok Ident 80 81 (codes "p")) ∷ (tok Operator 82 83 (codes "}")) ∷ (tok Inserted 83 83 (codes ";")) ∷ (tok Keyword 85 89 (codes "func")) ∷ (tok Ident 90 94 (codes "main")) ∷ (tok Operator 94 95 (codes "(")) ∷ (tok Operator 95 96 (codes ")")) ∷ (tok Operator 97 98 (codes "{")) ∷ (tok Ident 100 101 (codes "p")) ∷ (tok Operator 102 104 (codes ":=")) ∷ (tok Operator 105 106 (codes "&")) ∷ (tok Ident 106 107 (codes "P")) ∷ (tok Operator 107 108 (codes "{")) ∷ (tok Integer 108 109 (codes "1")) ∷ (tok Operator 109 110 (codes "}")) ∷ (tok Inserted 110 110 (codes ";")) ∷ (tok Ident 112 119 (codes "println")) ∷ (tok Operator 119 120 (codes "(")) ∷ (tok Operator 120 121 (codes "(")) ∷ (tok Operator 121 122 (codes "*")) ∷ (tok Ident 122 123 (codes "p")) ∷ (tok Operator 123 124 (codes ")")) ∷ (tok Operator 124 125 (codes ".")) ∷ (tok Ident 125 126 (codes "n")) ∷ (tok Operator 126 127 (codes ")")) ∷ (tok Inserted 127 127 (codes ";")) ∷ (tok Operator 128 129 (codes "}")) ∷ (tok Inserted 129 129 (codes ";")) ∷ []); comments = ((note 38 53) ∷ []) }) ∷ []) }

selected_sum_1_typed : is_typed selected_sum_1 ≡ true
selected_sum_1_typed = refl

selected_sum_1_ends : step_of selected_sum_1 ≡ None
selected_sum_1_ends = refl

selected_sum_1_kept : kept_uses selected_sum_1 ≡ []
selected_sum_1_kept = refl

-- The range of a call that is a statement has the parentheses around it.
abbrev statement_in_parentheses_0_f0 : File Span
statement_in_parentheses_0_f0 = record { package_name = (nm 8 12 (codes "main")); imports = []; decls = ((fn (at 30 73) None (nm 35 38 (codes "Two")) (sig ((param (at 39 44) (Some (nm 39 40 (codes "x"))) (named (at 41 44) None (nm 41 44 (codes "int")))) ∷ []) []) (at 46 73) (stmt_and (eval (at 49 59) (call (at 49 59) (ident (at 49 56) (codes "println")) (expr_and (ident (at 57 58) (codes "x")) no_exprs) Plain)) (stmt_and (eval (at 61 71) (call (at 61 71) (ident (at 61 68) (codes "println")) (expr_and (ident (at 69 70) (codes "x")) no_exprs) Plain)) no_stmts))) ∷ (fn (at 75 108) None (nm 80 84 (codes "main")) (sig [] []) (at 87 108) (stmt_and (define (at 90 96) ((nm 90 91 (codes "a")) ∷ []) (expr_and (int_lit (at 95 96) (codes "1")) no_exprs)) (stmt_and (eval (at 98 106) (call (at 99 105) (ident (at 99 102) (codes "Two")) (expr_and (ident (at 103 104) (codes "a")) no_exprs) Plain)) no_stmts))) ∷ []) }

statement_in_parentheses_0_f0_read : read_at span_to read_front (lexemes ((tok Keyword 0 7 (codes "package")) ∷ (tok Ident 8 12 (codes "main")) ∷ (tok Inserted 12 12 (codes ";")) ∷ (tok Keyword 30 34 (codes "func")) ∷ (tok Ident 35 38 (codes "Two")) ∷ (tok Operator 38 39 (codes "(")) ∷ (tok Ident 39 40 (codes "x")) ∷ (tok Ident 41 44 (codes "int")) ∷ (tok Operator 44 45 (codes ")")) ∷ (tok Operator 46 47 (codes "{")) ∷ (tok Ident 49 56 (codes "println")) ∷ (tok Operator 56 57 (codes "(")) ∷ (tok Ident 57 58 (codes "x")) ∷ (tok Operator 58 59 (codes ")")) ∷ (tok Inserted 59 59 (codes ";")) ∷ (tok Ident 61 68 (codes "println")) ∷ (tok Operator 68 69 (codes "(")) ∷ (tok Ident 69 70 (codes "x")) ∷ (tok Operator 70 71 (codes ")")) ∷ (tok Inserted 71 71 (codes ";")) ∷ (tok Operator 72 73 (codes "}")) ∷ (tok Inserted 73 73 (codes ";")) ∷ (tok Keyword 75 79 (codes "func")) ∷ (tok Ident 80 84 (codes "main")) ∷ (tok Operator 84 85 (codes "(")) ∷ (tok Operator 85 86 (codes ")")) ∷ (tok Operator 87 88 (codes "{")) ∷ (tok Ident 90 91 (codes "a")) ∷ (tok Operator 92 94 (codes ":=")) ∷ (tok Integer 95 96 (codes "1")) ∷ (tok Inserted 96 96 (codes ";")) ∷ (tok Operator 98 99 (codes "(")) ∷ (tok Ident 99 102 (codes "Two")) ∷ (tok Operator 102 103 (codes "(")) ∷ (tok Ident 103 104 (codes "a")) ∷ (tok Operator 104 105 (codes ")")) ∷ (tok Operator 105 106 (codes ")")) ∷ (tok Inserted 106 106 (codes ";")) ∷ (tok Operator 107 108 (codes "}")) ∷ (tok Inserted 108 108 (codes ";")) ∷ [])) ≡ Some (statement_in_parentheses_0_f0, [])
unfolding reading
statement_in_parentheses_0_f0_read = refl

abbrev statement_in_parentheses_0 : Module
statement_in_parentheses_0 = record { packages = (pack (codes "example.com/m") (codes "main") (source (codes "main.go") statement_in_parentheses_0_f0 ∷ []) ∷ []); marks = (mark 0 0 0 0 ∷ []); texts = (((codes "main.go"), record { text = (codes "package main\n\n//go:fix inline\nfunc Two(x int) {\n\tprintln(x)\n\tprintln(x)\n}\n\nfunc main() {\n\ta := 1\n\t(Two(a))\n}\n"); tokens = ((tok Keyword 0 7 (codes "package")) ∷ (tok Ident 8 12 (codes "main")) ∷ (tok Inserted 12 12 (codes ";")) ∷ (tok Keyword 30 34 (codes "func")) ∷ (tok Ident 35 38 (codes "Two")) ∷ (tok Operator 38 39 (codes "(")) ∷ (tok Ident 39 40 (codes "x")) ∷ (tok Ident 41 44 (codes "int")) ∷ (tok Operator 44 45 (codes ")")) ∷ (tok Operator 46 47 (codes "{")) ∷ (tok Ident 49 56 (codes "println")) ∷ (tok Operator 56 57 (codes "(")) ∷ (tok Ident 57 58 (codes "x")) ∷ (tok Operator 58 59 (codes ")")) ∷ (tok Inserted 59 59 (codes ";")) ∷ (tok Ident 61 68 (codes "println")) ∷ (tok Operator 68 69 (codes "(")) ∷ (tok Ident 69 70 (codes "x")) ∷ (tok Operator 70 71 (codes ")")) ∷ (tok Inserted 71 71 (codes ";")) ∷ (tok Operator 72 73 (codes "}")) ∷ (tok Inserted 73 73 (codes ";")) ∷ (tok Keyword 75 79 (codes "func")) ∷ (tok Ident 80 84 (codes "main")) ∷ (tok Operator 84 85 (codes "(")) ∷ (tok Operator 85 86 (codes ")")) ∷ (tok Operator 87 88 (codes "{")) ∷ (tok Ident 90 91 (codes "a")) ∷ (tok Operator 92 94 (codes ":=")) ∷ (tok Integer 95 96 (codes "1")) ∷ (tok Inserted 96 96 (codes ";")) ∷ (tok Operator 98 99 (codes "(")) ∷ (tok Ident 99 102 (codes "Two")) ∷ (tok Operator 102 103 (codes "(")) ∷ (tok Ident 103 104 (codes "a")) ∷ (tok Operator 104 105 (codes ")")) ∷ (tok Operator 105 106 (codes ")")) ∷ (tok Inserted 106 106 (codes ";")) ∷ (tok Operator 107 108 (codes "}")) ∷ (tok Inserted 108 108 (codes ";")) ∷ []); comments = ((note 14 29) ∷ []) }) ∷ []) }

statement_in_parentheses_0_typed : is_typed statement_in_parentheses_0 ≡ true
statement_in_parentheses_0_typed = refl

statement_in_parentheses_0_step : first_change statement_in_parentheses_0 ≡ Some ((codes "main.go"), BlockForm, (codes "package main\n\n//go:fix inline\nfunc Two(x int) {\n\tprintln(x)\n\tprintln(x)\n}\n\nfunc main() {\n\ta := 1\n\t{\n\t\tprintln(a)\n\t\tprintln(a)\n\t}\n}\n"))
statement_in_parentheses_0_step = refl

abbrev statement_in_parentheses_1_f0 : File Span
statement_in_parentheses_1_f0 = record { package_name = (nm 8 12 (codes "main")); imports = []; decls = ((fn (at 30 73) None (nm 35 38 (codes "Two")) (sig ((param (at 39 44) (Some (nm 39 40 (codes "x"))) (named (at 41 44) None (nm 41 44 (codes "int")))) ∷ []) []) (at 46 73) (stmt_and (eval (at 49 59) (call (at 49 59) (ident (at 49 56) (codes "println")) (expr_and (ident (at 57 58) (codes "x")) no_exprs) Plain)) (stmt_and (eval (at 61 71) (call (at 61 71) (ident (at 61 68) (codes "println")) (expr_and (ident (at 69 70) (codes "x")) no_exprs) Plain)) no_stmts))) ∷ (fn (at 75 130) None (nm 80 84 (codes "main")) (sig [] []) (at 87 130) (stmt_and (define (at 90 96) ((nm 90 91 (codes "a")) ∷ []) (expr_and (int_lit (at 95 96) (codes "1")) no_exprs)) (stmt_and (inner (at 98 128) (stmt_and (eval (at 102 112) (call (at 102 112) (ident (at 102 109) (codes "println")) (expr_and (ident (at 110 111) (codes "a")) no_exprs) Plain)) (stmt_and (eval (at 115 125) (call (at 115 125) (ident (at 115 122) (codes "println")) (expr_and (ident (at 123 124) (codes "a")) no_exprs) Plain)) no_stmts))) no_stmts))) ∷ []) }

statement_in_parentheses_1_f0_read : read_at span_to read_front (lexemes ((tok Keyword 0 7 (codes "package")) ∷ (tok Ident 8 12 (codes "main")) ∷ (tok Inserted 12 12 (codes ";")) ∷ (tok Keyword 30 34 (codes "func")) ∷ (tok Ident 35 38 (codes "Two")) ∷ (tok Operator 38 39 (codes "(")) ∷ (tok Ident 39 40 (codes "x")) ∷ (tok Ident 41 44 (codes "int")) ∷ (tok Operator 44 45 (codes ")")) ∷ (tok Operator 46 47 (codes "{")) ∷ (tok Ident 49 56 (codes "println")) ∷ (tok Operator 56 57 (codes "(")) ∷ (tok Ident 57 58 (codes "x")) ∷ (tok Operator 58 59 (codes ")")) ∷ (tok Inserted 59 59 (codes ";")) ∷ (tok Ident 61 68 (codes "println")) ∷ (tok Operator 68 69 (codes "(")) ∷ (tok Ident 69 70 (codes "x")) ∷ (tok Operator 70 71 (codes ")")) ∷ (tok Inserted 71 71 (codes ";")) ∷ (tok Operator 72 73 (codes "}")) ∷ (tok Inserted 73 73 (codes ";")) ∷ (tok Keyword 75 79 (codes "func")) ∷ (tok Ident 80 84 (codes "main")) ∷ (tok Operator 84 85 (codes "(")) ∷ (tok Operator 85 86 (codes ")")) ∷ (tok Operator 87 88 (codes "{")) ∷ (tok Ident 90 91 (codes "a")) ∷ (tok Operator 92 94 (codes ":=")) ∷ (tok Integer 95 96 (codes "1")) ∷ (tok Inserted 96 96 (codes ";")) ∷ (tok Operator 98 99 (codes "{")) ∷ (tok Ident 102 109 (codes "println")) ∷ (tok Operator 109 110 (codes "(")) ∷ (tok Ident 110 111 (codes "a")) ∷ (tok Operator 111 112 (codes ")")) ∷ (tok Inserted 112 112 (codes ";")) ∷ (tok Ident 115 122 (codes "println")) ∷ (tok Operator 122 123 (codes "(")) ∷ (tok Ident 123 124 (codes "a")) ∷ (tok Operator 124 125 (codes ")")) ∷ (tok Inserted 125 125 (codes ";")) ∷ (tok Operator 127 128 (codes "}")) ∷ (tok Inserted 128 128 (codes ";")) ∷ (tok Operator 129 130 (codes "}")) ∷ (tok Inserted 130 130 (codes ";")) ∷ [])) ≡ Some (statement_in_parentheses_1_f0, [])
unfolding reading
statement_in_parentheses_1_f0_read = refl

abbrev statement_in_parentheses_1 : Module
statement_in_parentheses_1 = record { packages = (pack (codes "example.com/m") (codes "main") (source (codes "main.go") statement_in_parentheses_1_f0 ∷ []) ∷ []); marks = (mark 0 0 0 0 ∷ []); texts = (((codes "main.go"), record { text = (codes "package main\n\n//go:fix inline\nfunc Two(x int) {\n\tprintln(x)\n\tprintln(x)\n}\n\nfunc main() {\n\ta := 1\n\t{\n\t\tprintln(a)\n\t\tprintln(a)\n\t}\n}\n"); tokens = ((tok Keyword 0 7 (codes "package")) ∷ (tok Ident 8 12 (codes "main")) ∷ (tok Inserted 12 12 (codes ";")) ∷ (tok Keyword 30 34 (codes "func")) ∷ (tok Ident 35 38 (codes "Two")) ∷ (tok Operator 38 39 (codes "(")) ∷ (tok Ident 39 40 (codes "x")) ∷ (tok Ident 41 44 (codes "int")) ∷ (tok Operator 44 45 (codes ")")) ∷ (tok Operator 46 47 (codes "{")) ∷ (tok Ident 49 56 (codes "println")) ∷ (tok Operator 56 57 (codes "(")) ∷ (tok Ident 57 58 (codes "x")) ∷ (tok Operator 58 59 (codes ")")) ∷ (tok Inserted 59 59 (codes ";")) ∷ (tok Ident 61 68 (codes "println")) ∷ (tok Operator 68 69 (codes "(")) ∷ (tok Ident 69 70 (codes "x")) ∷ (tok Operator 70 71 (codes ")")) ∷ (tok Inserted 71 71 (codes ";")) ∷ (tok Operator 72 73 (codes "}")) ∷ (tok Inserted 73 73 (codes ";")) ∷ (tok Keyword 75 79 (codes "func")) ∷ (tok Ident 80 84 (codes "main")) ∷ (tok Operator 84 85 (codes "(")) ∷ (tok Operator 85 86 (codes ")")) ∷ (tok Operator 87 88 (codes "{")) ∷ (tok Ident 90 91 (codes "a")) ∷ (tok Operator 92 94 (codes ":=")) ∷ (tok Integer 95 96 (codes "1")) ∷ (tok Inserted 96 96 (codes ";")) ∷ (tok Operator 98 99 (codes "{")) ∷ (tok Ident 102 109 (codes "println")) ∷ (tok Operator 109 110 (codes "(")) ∷ (tok Ident 110 111 (codes "a")) ∷ (tok Operator 111 112 (codes ")")) ∷ (tok Inserted 112 112 (codes ";")) ∷ (tok Ident 115 122 (codes "println")) ∷ (tok Operator 122 123 (codes "(")) ∷ (tok Ident 123 124 (codes "a")) ∷ (tok Operator 124 125 (codes ")")) ∷ (tok Inserted 125 125 (codes ";")) ∷ (tok Operator 127 128 (codes "}")) ∷ (tok Inserted 128 128 (codes ";")) ∷ (tok Operator 129 130 (codes "}")) ∷ (tok Inserted 130 130 (codes ";")) ∷ []); comments = ((note 14 29) ∷ []) }) ∷ []) }

statement_in_parentheses_1_typed : is_typed statement_in_parentheses_1 ≡ true
statement_in_parentheses_1_typed = refl

statement_in_parentheses_1_ends : step_of statement_in_parentheses_1 ≡ None
statement_in_parentheses_1_ends = refl

statement_in_parentheses_1_kept : kept_uses statement_in_parentheses_1 ≡ []
statement_in_parentheses_1_kept = refl
