-- Texts of files, by computation.
use Rattle.std.proofs.Common.{◌≡◌, ℕ, true, false, List, [], ◌∷◌, Some, None, refl}
use Rattle.std.specs.Prelude.{codes}
use Rattle.go_tree.specs.File.{ImportSpec, TypeSpec, Decl, types, func}
use Rattle.go_tree.specs.Tree.{no_stmts}
use Rattle.go_read.proofs.Texts.{name, type}
use Rattle.go_layout.specs.Layouts.{text_of}
use Rattle.go_layout.specs.FileLayout.{file_layout}

abbrev spec : List ℕ → ImportSpec (Unit {0})
spec path = record { span = tt; name = None; path = path }

abbrev named : List ℕ → List ℕ → ImportSpec (Unit {0})
named n path = record { span = tt; name = Some (name n); path = path }

abbrev defined : List ℕ → TypeSpec (Unit {0})
defined n = record { span = tt; name = name n; alias = false; of = type (codes "int") }

abbrev alias_of : List ℕ → TypeSpec (Unit {0})
alias_of n = record { span = tt; name = name n; alias = true; of = type (codes "int") }

abbrev reset : Decl (Unit {0})
reset = func (record {
  span = tt;
  receiver = Some (record { span = tt; name = Some (name (codes "t")); pointer = true; of = name (codes "T") });
  name = name (codes "reset");
  sig = record { params = []; results = [] };
  body_span = tt;
  body = no_stmts;
})

alone : text_of (file_layout (record { package_name = name (codes "p"); imports = []; decls = [] })) ≡ codes "package p\n"
alone = refl

imports : text_of (file_layout (record {
  package_name = name (codes "p");
  imports = record { span = tt; grouped = false; specs = spec (codes "a/b") ∷ [] } ∷ record { span = tt; grouped = true; specs = spec (34 ∷ 92 ∷ 126 ∷ 127 ∷ 233 ∷ []) ∷ named (codes "c") (codes "d") ∷ [] } ∷ record { span = tt; grouped = true; specs = [] } ∷ [];
  decls = [];
}))
    ≡ codes "package p\n\nimport \"a/b\"\n\nimport (\n\t\"\\x22\\x5c~\\x7f\\xe9\"\n\tc \"d\"\n)\n\nimport ()\n"
imports = refl

declarations : text_of (file_layout (record {
  package_name = name (codes "p");
  imports = [];
  decls = types tt false (defined (codes "T") ∷ []) ∷ types tt true (defined (codes "T") ∷ alias_of (codes "U") ∷ []) ∷ reset ∷ [];
}))
    ≡ codes "package p\n\ntype T int\n\ntype (\n\tT int\n\tU = int\n)\n\nfunc (t *T) reset() {}\n"
declarations = refl
