-- Declarations of constants and variables, by their parts.
use Rattle.std.proofs.Common.{◌≡◌, ◌++◌, ℕ, Bool, List, codes, refl, sym, ap, ◌∙◌}
use denote.Hole.Carrier
use Rattle.go_tree.specs.declared.stmts.ConstDecl as cd
use Rattle.go_tree.specs.declared.stmts.ConstSpecList as csl
use Rattle.go_tree.specs.declared.stmts.VarDecl as vd
use Rattle.go_tree.specs.declared.stmts.VarSpecList as vsl
use Rattle.go_tree.specs.Tree as pure
use Rattle.go_tree.specs.View.{const_decl_of, const_specs_of, var_decl_of, var_specs_of}
use Rattle.go_layout.specs.Layouts.{text_of}
use Rattle.go_layout.specs.TreeLayout.{decl_layout, stmt_layout}

const_is : (d : cd.ConstDecl) → const_decl_of d ≡ pure.const_decl (cd.out-ConstDecl d).span (cd.out-ConstDecl d).grouped (const_specs_of (cd.out-ConstDecl d).specs)
unfolding cd.out-ConstDecl Carrier.out
const_is (cd.ConstDecl' s g (csl.ConstSpecList' shape ss)) = refl

var_is : (d : vd.VarDecl) → var_decl_of d ≡ pure.var_decl (vd.out-VarDecl d).span (vd.out-VarDecl d).grouped (var_specs_of (vd.out-VarDecl d).specs)
unfolding vd.out-VarDecl Carrier.out
var_is (vd.VarDecl' s g (vsl.VarSpecList' shape ss)) = refl

pub const_text : (i : List ℕ) (h g : Bool) (d : cd.ConstDecl) → (cd.out-ConstDecl d).grouped ≡ g → codes "const " ++ text_of (decl_layout i g (const_specs_of (cd.out-ConstDecl d).specs)) ≡ text_of (stmt_layout i h (const_decl_of d))
const_text i h g d e =
    ap (λ m. codes "const " ++ text_of (decl_layout i m (const_specs_of (cd.out-ConstDecl d).specs))) (sym e) ∙ sym (ap (λ s. text_of (stmt_layout i h s)) (const_is d))

pub var_text : (i : List ℕ) (h g : Bool) (d : vd.VarDecl) → (vd.out-VarDecl d).grouped ≡ g → codes "var " ++ text_of (decl_layout i g (var_specs_of (vd.out-VarDecl d).specs)) ≡ text_of (stmt_layout i h (var_decl_of d))
var_text i h g d e =
    ap (λ m. codes "var " ++ text_of (decl_layout i m (var_specs_of (vd.out-VarDecl d).specs))) (sym e) ∙ sym (ap (λ s. text_of (stmt_layout i h s)) (var_is d))
