-- Texts of statements, by computation.
use Rattle.std.proofs.Common.{◌≡◌, ℕ, true, false, List, [], ◌∷◌, Some, None, refl}
use Rattle.std.specs.Prelude.{codes}
use Rattle.go_tree.specs.declared.exprs.Rest.TheVariants.{Plain}
use Rattle.go_tree.specs.declared.operators.BinOp.TheVariants.{Add, Shl}
use Rattle.go_tree.specs.Tree.{Expr, Stmt, Stmts, const_decl, var_decl, empty, eval, step, assign, define, return_, break_, continue_, inner, if_, for_, range_, switch, defer, label, no_stmts, stmt_and, no_stmt, some_stmt, some_block, nothing, assigns, defines, no_arms, arm, no_cases, case, no_specs, spec, no_exprs, no_expr, some_expr, call, binary, composite, no_elems}
use Rattle.go_read.proofs.Texts.{var, num, name, type, list}
use Rattle.go_layout.specs.Layouts.{text_of}
use Rattle.go_layout.specs.TreeLayout.{stmts_layout}

abbrev written : List ℕ → Stmts (Unit {0}) → List ℕ
written indent xs = text_of (stmts_layout indent None xs)

abbrev a : Expr (Unit {0})
a = var (codes "a")

abbrev b : Expr (Unit {0})
b = var (codes "b")

abbrev do_f : Stmt (Unit {0})
do_f = eval tt (call tt (var (codes "f")) no_exprs Plain)

abbrev body : Stmts (Unit {0})
body = stmt_and do_f no_stmts

nested : written (codes "\t") (stmt_and (inner tt (stmt_and (inner tt body) (stmt_and (inner tt no_stmts) no_stmts))) (stmt_and do_f no_stmts)) ≡ codes "{\n\t\t{\n\t\t\tf()\n\t\t}\n\t\t{}\n\t}\n\tf()"
nested = refl

arms : written [] (stmt_and (if_ tt (arm tt no_stmt a tt body (arm tt (some_stmt (define tt (name (codes "x") ∷ name (codes "y") ∷ []) (list (b ∷ [])))) b tt body no_arms)) (some_block tt body)) no_stmts) ≡ codes "if a {\n\tf()\n} else if x, y := b; b {\n\tf()\n} else {\n\tf()\n}"
arms = refl

loops : written [] (stmt_and (for_ tt no_stmt no_expr no_stmt tt no_stmts) (stmt_and (for_ tt no_stmt (some_expr a) no_stmt tt no_stmts) (stmt_and (for_ tt (some_stmt (define tt (name (codes "i") ∷ []) (list (num (codes "0") ∷ [])))) no_expr (some_stmt (step tt (var (codes "i")) true)) tt no_stmts) (stmt_and (for_ tt (some_stmt do_f) (some_expr a) no_stmt tt no_stmts) no_stmts)))) ≡ codes "for {}\nfor a {}\nfor i := 0; ; i++ {}\nfor f(); a; {}"
loops = refl

ranges : written [] (stmt_and (range_ tt (defines (name (codes "k") ∷ name (codes "v") ∷ [])) a tt body) (stmt_and (range_ tt nothing a tt no_stmts) (stmt_and (range_ tt (assigns (list (a ∷ []))) (composite tt (type (codes "P")) no_elems) tt no_stmts) no_stmts))) ≡ codes "for k, v := range a {\n\tf()\n}\nfor range a {}\nfor a = range (P{}) {}"
ranges = refl

switches : written (codes "\t") (stmt_and (switch tt (some_stmt do_f) (some_expr a) (case tt (list (a ∷ b ∷ [])) (stmt_and do_f body) (case tt (list (b ∷ [])) no_stmts (case tt no_exprs (stmt_and (break_ tt None) no_stmts) no_cases)))) (stmt_and (switch tt no_stmt no_expr no_cases) no_stmts)) ≡ codes "switch f(); a {\n\tcase a, b:\n\t\tf()\n\t\tf()\n\tcase b:\n\tdefault:\n\t\tbreak\n\t}\n\tswitch {}"
switches = refl

labels : written (codes "\t") (stmt_and (label tt (name (codes "L")) (for_ tt no_stmt no_expr no_stmt tt (stmt_and (continue_ tt (Some (name (codes "L")))) no_stmts))) (stmt_and (label tt (name (codes "M")) (empty tt)) (stmt_and (empty tt) (stmt_and (return_ tt no_exprs) no_stmts)))) ≡ codes "L:\n\tfor {\n\t\tcontinue L\n\t}\n\tM:\n\t;\n\t;\n\treturn"
labels = refl

groups : written [] (stmt_and (var_decl tt true (spec tt (name (codes "x") ∷ name (codes "y") ∷ []) (Some (type (codes "int"))) no_exprs (spec tt (name (codes "z") ∷ []) None (list (a ∷ b ∷ [])) no_specs))) (stmt_and (const_decl tt false (spec tt (name (codes "c") ∷ []) (Some (type (codes "int"))) (list (a ∷ [])) no_specs)) (stmt_and (const_decl tt true no_specs) no_stmts))) ≡ codes "var (\n\tx, y int\n\tz = a, b\n)\nconst c int = a\nconst ()"
groups = refl

assignments : written [] (stmt_and (assign tt (list (a ∷ b ∷ [])) None (list (b ∷ a ∷ []))) (stmt_and (assign tt (list (a ∷ [])) (Some Shl) (list (binary tt Add b a ∷ []))) (stmt_and (step tt a false) (stmt_and (defer tt (call tt a (list (b ∷ [])) Plain)) no_stmts)))) ≡ codes "a, b = b, a\na <<= b + a\na--\ndefer a(b)"
assignments = refl
