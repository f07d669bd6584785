-- What the examples share: a program of two constants and a function that uses one, its mark, and no comments.
--   package main: const D = 7; const C = D; ...; func main() { ... C ... }
use Rattle.std.specs.Prelude.{ℕ, suc, Bool, false, List, [], ◌∷◌, ◌++◌, length, None, if◌then◌else◌, codes, nat_eq}
use Rattle.go_tree.specs.Tree.{NameAt, Expr, ident, int_lit, no_exprs, expr_and, const_decl, no_specs, spec, Stmts}
use Rattle.go_tree.specs.File.{Decl, Func, values, func, File}
use Rattle.pkg_graph.specs.Package.{SourceTree, Package}
use Rattle.go_translation.specs.SameMeaning.{Packages}
use Rattle.run_rules.specs.Surroundings.{whole, Place, Seen, seen}
use Rattle.run_rules.specs.Programs.{top_place, decl_seen}
use Rattle.run_rules.specs.Sites.{MarkRef, Where, Site, an_expr}
use Rattle.constant_steps.specs.PlainUse.{linked_at}

abbrev pub named : ℕ → List ℕ → NameAt ℕ
named s n = record { span = s; name = n }

abbrev pub declares : ℕ → List ℕ → Expr ℕ → Decl ℕ
declares s n e = values (const_decl s false (spec s (named s n ∷ []) None (expr_and e no_exprs) no_specs))

abbrev pub mark_of_c : MarkRef
mark_of_c = record { «package» = 0; file = 0; decl = 1; item = 0 }

abbrev pub mark_of_d : MarkRef
mark_of_d = record { «package» = 0; file = 0; decl = 0; item = 0 }

abbrev pub marks : List MarkRef
marks = mark_of_c ∷ []

abbrev pub no_comments : ℕ → ℕ → ℕ → Bool
no_comments k f s = false

-- the place of the name at the span 31
abbrev place_of_use : Place ℕ → List (Seen ℕ) → Place ℕ
place_of_use q [] = q
place_of_use q (seen p u (ident s n) ∷ xs) = if nat_eq s 31 then p else place_of_use q xs
place_of_use q (x ∷ xs) = place_of_use q xs

-- `main` has the body with the use in it, and these declarations stand before it
module _ (body_with : Expr ℕ → Stmts ℕ) (others : List (Decl ℕ)) where
  abbrev pub main_with : Expr ℕ → Func ℕ
  main_with e = record { span = 30; receiver = None; name = named 32 (codes "main"); sig = record { params = []; results = [] }; body_span = 33; body = body_with e }

  abbrev pub file_with : Expr ℕ → File ℕ
  file_with e = record { package_name = named 1 (codes "main"); imports = []; decls = declares 10 (codes "D") (int_lit 11 (codes "7")) ∷ declares 20 (codes "C") (ident 21 (codes "D")) ∷ (others ++ func (main_with e) ∷ []) }

  abbrev pub home : Where ℕ
  home =
      let source : SourceTree ℕ = record { path = codes "main.go"; tree = file_with (ident 31 (codes "C")) } in
      record { number = 0; of = record { path = codes "m"; name = codes "main"; files = source ∷ [] }; file_number = 0; source = source }

  abbrev pub program : List (Package ℕ)
  program = home.of ∷ []

  abbrev pub use_of_c : Site ℕ
  use_of_c =
      record {
        at = home;
        decl = suc (suc (length others));
        place = place_of_use (top_place program 0 home.of home.source.tree) (decl_seen program 0 home.of home.source.tree (func (main_with (ident 31 (codes "C")))));
        use_ = whole;
        part = an_expr (ident 31 (codes "C"));
        mark = mark_of_c;
      }

  abbrev pub packages_with : Expr ℕ → Packages ℕ
  packages_with e = record { members = record { path = codes "m"; source = record (linked_at program home 1) { files = record { imports = []; decls = (file_with e).decls } ∷ [] } } ∷ []; marked = [] }
