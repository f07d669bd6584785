-- Parts of the examples: constants that are declared alone, and an import.
use Rattle.std.specs.Prelude.{ℕ, Bool, false, List, [], ◌∷◌, None, codes}
use Rattle.go_tree.specs.Tree.{NameAt, Expr, no_exprs, expr_and, const_decl, no_specs, spec}
use Rattle.go_tree.specs.File.{Decl, values, ImportDecl}

abbrev pub named : ℕ → List ℕ → NameAt ℕ
named s n = record { span = s; name = n }

abbrev pub declares : ℕ → List ℕ → Expr ℕ → Decl ℕ
declares s n e = values (const_decl s false (spec s (named s n ∷ []) None (expr_and e no_exprs) no_specs))

-- `import "m/p"`
abbrev pub of_p : ImportDecl ℕ
of_p = record { span = 2; grouped = false; specs = record { span = 3; name = None; path = codes "m/p" } ∷ [] }

abbrev pub no_comments : ℕ → ℕ → ℕ → Bool
no_comments k f s = false
