-- A step of a run over a call whose value a name is declared as: what is around the call stays by the law alone, and which marked functions lie on a cycle.
--   package main
--   func Add(x int) int { x = x + 1; return x }   (marked)
--   func main() { y := Add(2); println(y) }
-- after the step: y := func(x int) int { x = x + 1; return x }(2)
use Rattle.std.proofs.Common.{◌≡◌, refl, sym, ap, ◌∙◌, subst, inl, inr, ℕ, zero, suc, Bool, false, List, [], ◌∷◌, Some, None, codes}
use Rattle.go_tree.specs.declared.exprs.Rest.TheVariants.{Plain}
use Rattle.go_tree.specs.declared.operators.BinOp.TheVariants.{Add}
use Rattle.go_tree.specs.Tree.{NameAt, TypeExpr, named, Expr, ident, int_lit, call, func_lit, binary, no_exprs, expr_and, Stmt, eval, assign, define, return_, Stmts, no_stmts, stmt_and}
use Rattle.go_tree.specs.File.{Func, func, File}
use Rattle.go_tree.specs.GoWords.Tokens.Pieces.{keyword_spellings}
use Rattle.go_tree.proofs.GoTypes.Agreeing.{some_same}
use Rattle.go_translation.specs.Packages as translated
use Rattle.param_choice.specs.Chosen.{has}
use Rattle.directive_scan.specs.Lines.{is_inline}
use Rattle.pkg_graph.specs.ModuleFiles.Internal.{passes}
use Rattle.pkg_graph.specs.Package.{SourceTree, Package}
use Rattle.std.specs.Fmt.{digits}
use Rattle.run_rules.specs.FormTrees.{LiteralForm, as_expr}
use Rattle.run_rules.specs.Programs.{body_place}
use Rattle.run_rules.specs.Run.{is_commented, step_in}
use Rattle.run_rules.specs.Sites.{MarkRef, Where, Site, an_expr}
use Rattle.run_rules.specs.Steps.{At, same_here, Found}
use Rattle.run_rules.specs.Surroundings.{whole, Place, at_stmt}
use Rattle.run_rules.proofs.CaseTools.{mark, param, sig, from, nmf}
use Rattle.constant_steps.specs.Alone.{this_package}
use Rattle.constant_steps.specs.PlainUse.{linked_at}
use Rattle.constant_steps.specs.WrittenLiteral.LinkedNames.{Standing}
use Rattle.literal_steps.specs.CalledAt.{Linked}
use Rattle.literal_steps.specs.LiteralUse.{LiteralUse, plainly, PlainCall}
use Rattle.literal_steps.specs.ServedPackages.ServedFunctions.{NeedsNoImport}
use Rattle.literal_cycles.specs.Uses.{PutsLiteral}
use Rattle.argument_cycles.specs.FreeSteps.{StaysAround}
use Rattle.literals_in_place.specs.TypedSteps.Uses.{StandsInBody}
use Rattle.literal_surroundings.specs.Steps.{PutsLiteralInBody}
use Rattle.literal_surroundings.proofs.CallText.{module_, start, after, entry, the_next}
use Rattle.literal_surroundings.proofs.LiteralSteps.{stays, puts_literal}

abbrev sp : ℕ → ℕ → At
sp a b = from a b a b

abbrev nt : ℕ → ℕ → List ℕ → NameAt At
nt a b n = nmf a b a b n

-- ---- the module, as a run has it

abbrev an_int : At → NameAt At → TypeExpr At
an_int s n = named s None n

-- x = x + 1; return x, with places from where the body stands
abbrev counting : At → At → At → At → At → At → At → Stmts At
counting s l b m i r v =
    stmt_and (assign s (expr_and (ident l (codes "x")) no_exprs) None (expr_and (binary b Add (ident m (codes "x")) (int_lit i (codes "1"))) no_exprs))
    (stmt_and (return_ r (expr_and (ident v (codes "x")) no_exprs)) no_stmts)

abbrev add : Func At
add = record {
  span = sp 30 74;
  receiver = None;
  name = nt 35 38 (codes "Add");
  sig = sig (param (sp 39 44) (Some (nt 39 40 (codes "x"))) (an_int (sp 41 44) (nt 41 44 (codes "int"))) ∷ []) (param (sp 46 49) None (an_int (sp 46 49) (nt 46 49 (codes "int"))) ∷ []);
  body_span = sp 50 74;
  body = counting (sp 53 62) (sp 53 54) (sp 57 62) (sp 57 58) (sp 61 62) (sp 64 72) (sp 71 72);
}

-- Add(2)
abbrev two : Expr At
two = int_lit (sp 100 101) (codes "2")

abbrev the_call : Expr At
the_call = call (sp 96 102) (ident (sp 96 99) (codes "Add")) (expr_and two no_exprs) Plain

-- y := Add(2)
abbrev defining : Stmt At
defining = define (sp 91 102) (nt 91 92 (codes "y") ∷ []) (expr_and the_call no_exprs)

-- println(y)
abbrev printing : Stmt At
printing = eval (sp 104 114) (call (sp 104 114) (ident (sp 104 111) (codes "println")) (expr_and (ident (sp 112 113) (codes "y")) no_exprs) Plain)

abbrev main : Func At
main = record { span = sp 76 116; receiver = None; name = nt 81 85 (codes "main"); sig = sig [] []; body_span = sp 88 116; body = stmt_and defining (stmt_and printing no_stmts) }

abbrev tree : File At
tree = record { package_name = nt 8 12 (codes "main"); imports = []; decls = func add ∷ func main ∷ [] }

abbrev source_file : SourceTree At
source_file = record { path = codes "main.go"; tree = tree }

abbrev pk : Package At
pk = record { path = codes "example.com/m"; name = codes "main"; files = source_file ∷ [] }

abbrev rs : List (Package At)
rs = pk ∷ []

abbrev here : Where At
here = record { number = 0; of = pk; file_number = 0; source = source_file }

abbrev marks : List MarkRef
marks = mark 0 0 0 0 ∷ []

abbrev in_comments : ℕ → ℕ → At → Bool
in_comments = is_commented start

abbrev there : Place At
there = at_stmt (body_place rs 0 pk tree main) defining

abbrev use_of_add : Site At
use_of_add = record { at = here; decl = 1; place = there; use_ = whole; part = an_expr the_call; mark = mark 0 0 0 0 }

-- all but the argument stands where the call stood
abbrev u : At
u = sp 96 102

abbrev literal : Expr At
literal =
    call u (func_lit u (sig (param u (Some (nt 96 102 (codes "x"))) (an_int u (nt 96 102 (codes "int"))) ∷ []) (param u None (an_int u (nt 96 102 (codes "int"))) ∷ [])) u (counting u u u u u u u))
    (expr_and two no_exprs) Plain

abbrev found : Found At
found = record { site = use_of_add; kind = LiteralForm; form = as_expr literal; range = u; named = [] }

-- ---- the use

add_becomes : LiteralUse same_here in_comments rs marks use_of_add
add_becomes = record { tree = the_call; part = refl; home = here; stands = refl; callee = add; declared = refl; form = as_expr literal; range = u; packages = []; reduces = refl }

none_chosen : (i : ℕ) → has (false ∷ []) i ≡ false
none_chosen zero = refl
none_chosen (suc i) = refl

add_is_plain : PlainCall same_here in_comments rs marks use_of_add add_becomes
unfolding add_becomes
add_is_plain = record {
  span = u;
  called = ident (sp 96 99) (codes "Add");
  name = codes "Add";
  args = expr_and two no_exprs;
  tree_is = refl;
  named = plainly refl;
  use_ = refl;
  free = refl;
  nothing_chosen = none_chosen;
  counted = λ e. refl;
}

abbrev packages : List (translated.Package At)
packages = record { path = codes "example.com/m"; source = linked_at rs here (sp 8 12) } ∷ []

file_stands : Standing rs here
file_stands = record { source = linked_at rs here (sp 8 12); before = []; after = []; number = refl; files = refl; stands = refl; none_before = tt; none_after = tt; declared = (refl, (refl, tt)); sound = refl }

add_is_linked : Linked rs packages use_of_add same_here in_comments marks add_becomes
unfolding add_becomes
add_is_linked = record { sources_are = refl; distinct = refl; typed = refl; package_there = refl; named_at = sp 8 12; nth = 0; stands = this_package; home_stands = file_stands; there_stands = file_stands }

no_import : NeedsNoImport same_here in_comments rs marks use_of_add add_becomes
unfolding add_becomes
no_import = record { none_added = refl; imports_there = refl; no_constants = (tt, (tt, (tt, (tt, (tt, (tt, (tt, tt))))))) }

in_body : StandsInBody same_here use_of_add rs the_call packages
in_body = record {
  nth = 0;
  of = record { path = codes "example.com/m"; source = linked_at rs here (sp 8 12) };
  is_nth = refl;
  named_at = sp 8 12;
  source_is = refl;
  file_there = refl;
  function = main;
  decl_there = refl;
  once = inr (refl, inr (refl, inl ((refl, refl), (tt, (refl, (refl, (refl, (tt, tt))))))));
  outside = (tt, (tt, (tt, (tt, (tt, (tt, (tt, (tt, tt))))))));
}

-- ---- the step

finds : step_in module_.marks start ≡ Some found
unfolding passes keyword_spellings is_inline digits
finds = refl

found_is : the_next.found ≡ found
found_is = some_same the_next.found found (sym the_next.is_first ∙ finds)

-- what is known of a use that is found
record Facts (f : Found At) : Type 0 where
  becomes : LiteralUse same_here in_comments start.packages module_.marks f.site
  plain : PlainCall same_here in_comments start.packages module_.marks f.site becomes
  packages_are : List (translated.Package At)
  linked : Linked start.packages packages_are f.site same_here in_comments module_.marks becomes
  needs_none : NeedsNoImport same_here in_comments start.packages module_.marks f.site becomes
  stands : StandsInBody same_here f.site start.packages becomes.tree packages_are

facts : Facts found
unfolding add_becomes
facts = record { becomes = add_becomes; plain = add_is_plain; packages_are = packages; linked = add_is_linked; needs_none = no_import; stands = in_body }

known : Facts the_next.found
known = subst Facts (sym found_is) facts

in_main : PutsLiteralInBody the_next
in_main = record { becomes = known.becomes; plain = known.plain; packages = known.packages_are; linked = known.linked; no_import = known.needs_none; stands = known.stands }

-- so what is around the call stays
stays_around : StaysAround the_next
stays_around = stays module_.marks start entry after the_next in_main

-- and it is a step as literal_cycles asks for
literal_put : PutsLiteral the_next
literal_put = puts_literal module_.marks start entry after the_next in_main
