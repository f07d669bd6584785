-- Each constant stands alone in its spec, and no call hands on a slice.
use Rattle.std.proofs.Common.{◌≡◌, refl, ℕ, zero, suc, List, [], ◌∷◌, map, Some}
use Rattle.std.specs.Prelude.{slice_get}
use Rattle.go_tree.specs.Tree.{Expr, Exprs, Stmts, ValueSpecs}
use Rattle.go_tree.specs.File.{Decl}
use Rattle.pkg_graph.specs.Package.{SourceTree, Package}
use Rattle.splice_laws.specs.Dots.{ExprDots, ExprsDots, StmtsDots, SpecsDots, DeclDots, DeclsDots}
use Rattle.splice_laws.specs.ImportSplices.TypedDots.TypedDots.{AnyExpr}
use Rattle.splice_laws.specs.ImportSplices.TypedDots.Unspread.{UnspreadRest}
use Rattle.constant_steps.specs.Alone.{SingleSpecs, PlainDecl, PlainDecls, PlainFiles, constants_alone, no_decls, and_decl, no_files, and_file}
use Rattle.constant_steps.specs.Alone as alone
use Rattle.run_rules.specs.Programs.{linked_file}
use Rattle.run_rules.specs.Sites.{Where}
use Rattle.constant_steps.specs.WrittenLiteral.UnspreadForms.UnspreadForms.{UnspreadFiles, UnspreadPackages}
use Rattle.run_rules.specs.Printed.{IsFlat, a_name, a_number, a_selection, AllFlat, no_operands, and_operand, IsPrint, an_operand, a_call, PrintStmts, no_prints, and_print, FlatConstants, no_constants, and_constant, IsPrinted, some_constants, a_function, ArePrinted}

module _ {S : Type 0} where
  -- ---- specs

  single : {ss : ValueSpecs S} → FlatConstants ss → SingleSpecs ss
  single no_constants = alone.no_constants
  single (and_constant h hs) = alone.and_constant (single hs)

  plain_decl : {d : Decl S} → IsPrinted d → PlainDecl d
  plain_decl (some_constants h) = constants_alone (single h)
  plain_decl (a_function r xs ys h) = alone.a_function

  plain_decls : (ds : List (Decl S)) → ((i : ℕ) (d : Decl S) → slice_get ds i ≡ Some d → IsPrinted d) → PlainDecls ds
  plain_decls [] h = no_decls
  plain_decls (d ∷ ds) h = and_decl (plain_decl (h zero d refl)) (plain_decls ds (λ i c e. h (suc i) c e))

  plain_files : (rs : List (Package S)) (fs : List (SourceTree S)) → ((m : ℕ) (f : SourceTree S) → slice_get fs m ≡ Some f → (i : ℕ) (d : Decl S) → slice_get f.tree.decls i ≡ Some d → IsPrinted d)
      → PlainFiles (map (linked_file rs) fs)
  plain_files rs [] h = no_files
  plain_files rs (f ∷ fs) h = and_file (plain_decls f.tree.decls (h zero f refl)) (plain_files rs fs (λ m g e. h (suc m) g e))

  pub packages_plain : (rs ps : List (Package S)) → ArePrinted ps → (w : Where S) → slice_get ps w.number ≡ Some w.of → PlainFiles (map (linked_file rs) w.of.files)
  packages_plain rs ps h w e = plain_files rs w.of.files (λ m f g i d j. h (record { number = w.number; of = w.of; file_number = m; source = f }) e g i d j)

  -- ---- calls

  expr_unspread : {e : Expr S} → IsFlat e → ExprDots AnyExpr UnspreadRest e
  expr_unspread a_name = tt
  expr_unspread a_number = tt
  expr_unspread (a_selection h) = (tt, expr_unspread h)

  exprs_unspread : {es : Exprs S} → AllFlat es → ExprsDots AnyExpr UnspreadRest es
  exprs_unspread no_operands = tt
  exprs_unspread (and_operand h hs) = (expr_unspread h, exprs_unspread hs)

  print_unspread : {e : Expr S} → IsPrint e → ExprDots AnyExpr UnspreadRest e
  print_unspread (an_operand h) = expr_unspread h
  print_unspread (a_call h hs) = (expr_unspread h, exprs_unspread hs, tt)

  stmts_unspread : {ss : Stmts S} → PrintStmts ss → StmtsDots AnyExpr UnspreadRest ss
  stmts_unspread no_prints = tt
  stmts_unspread (and_print h hs) = (print_unspread h, stmts_unspread hs)

  specs_unspread : {ss : ValueSpecs S} → FlatConstants ss → SpecsDots AnyExpr UnspreadRest ss
  specs_unspread no_constants = tt
  specs_unspread (and_constant h hs) = ((expr_unspread h, tt), specs_unspread hs)

  decl_unspread : {d : Decl S} → IsPrinted d → DeclDots AnyExpr UnspreadRest d
  decl_unspread (some_constants h) = specs_unspread h
  decl_unspread (a_function r xs ys h) = stmts_unspread h

  decls_unspread : (ds : List (Decl S)) → ((i : ℕ) (d : Decl S) → slice_get ds i ≡ Some d → IsPrinted d) → DeclsDots AnyExpr UnspreadRest ds
  decls_unspread [] h = tt
  decls_unspread (d ∷ ds) h = (decl_unspread (h zero d refl), decls_unspread ds (λ i c e. h (suc i) c e))

  files_unspread : (fs : List (SourceTree S)) → ((m : ℕ) (f : SourceTree S) → slice_get fs m ≡ Some f → (i : ℕ) (d : Decl S) → slice_get f.tree.decls i ≡ Some d → IsPrinted d) → UnspreadFiles fs
  files_unspread [] h = tt
  files_unspread (f ∷ fs) h = (decls_unspread f.tree.decls (h zero f refl), files_unspread fs (λ m g e. h (suc m) g e))

  packages_unspread : (ps : List (Package S)) → ((k : ℕ) (p : Package S) → slice_get ps k ≡ Some p → (m : ℕ) (f : SourceTree S) → slice_get p.files m ≡ Some f → (i : ℕ) (d : Decl S) → slice_get f.tree.decls i ≡ Some d → IsPrinted d)
      → UnspreadPackages ps
  packages_unspread [] h = tt
  packages_unspread (p ∷ ps) h = (files_unspread p.files (h zero p refl), packages_unspread ps (λ k q e. h (suc k) q e))

  pub all_unspread : (ps : List (Package S)) → ArePrinted ps → UnspreadPackages ps
  all_unspread ps h = packages_unspread ps (λ k p e m f g i d j. h (record { number = k; of = p; file_number = m; source = f }) e g i d j)
