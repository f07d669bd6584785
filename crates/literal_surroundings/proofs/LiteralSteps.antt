-- A step that puts a literal in the place of its call, in the body of a function of well-typed packages, leaves what is around the call, and keeps which marked functions lie on a cycle.
use Rattle.std.proofs.Common.{◌≡◌, refl, sym, ap, ◌∙◌, subst, inr, ℕ, Bool, true, List, [], ◌∷◌, Some, arith}
use Rattle.std.specs.Prelude.{slice_get}
use Rattle.std.proofs.lemmas.Bool.Decides.{nat_tests}
use Rattle.std.proofs.lemmas.Option.{same_Some}
use Rattle.go_tree.specs.declared.exprs.Rest.TheVariants.{Plain}
use Rattle.go_tree.specs.File.{Func, Decl, func}
use Rattle.go_tree.specs.ScopeNames.FreeNames.{names_of}
use Rattle.go_tree.specs.ScopeNames.Scopes.{expr_span}
use Rattle.go_tree.specs.Tree.{Expr, call, Stmts}
use Rattle.go_tree.proofs.GoTypes.Agreeing.{some_same}
use Rattle.pkg_graph.specs.Package.{Package}
use Rattle.typed_in_place.specs.SameFacts.{SameOperand}
use Rattle.run_rules.specs.Cycles.{is_recursive}
use Rattle.run_rules.specs.FormTrees.{Form, LiteralForm, as_expr}
use Rattle.run_rules.specs.Forms.{is_at}
use Rattle.run_rules.specs.Naming.{Named, imports_added}
use Rattle.run_rules.specs.Places.{stmts_seen}
use Rattle.run_rules.specs.Programs.{world, headed_func, body_place}
use Rattle.run_rules.specs.Reduced.{Reduced, becomes, kept}
use Rattle.run_rules.specs.Run.{Standing, Logged, Next, is_commented}
use Rattle.run_rules.specs.Sites.{MarkRef, Where, Part, Site, part_span}
use Rattle.run_rules.specs.Steps.{At, same_here, changes_for}
use Rattle.run_rules.specs.Surroundings.{Place, Seen, seen, seen_type, seen_stmt}
use Rattle.splice_laws.specs.RunLaws.Reading.{ProgramReads}
use Rattle.constant_steps.proofs.StepLaws.DeclUses.{body-begins}
use Rattle.constant_steps.specs.WrittenLiteral.Fine.{is_call}
use Rattle.order_runs.proofs.CycleRuns.FoundUses.NoRecursive.{step-form}
use Rattle.order_runs.specs.CycleRuns.Linked.{Linked, SettlesFile}
use Rattle.literal_steps.proofs.AddedImports.FilesBeside.{called_beside}
use Rattle.literal_steps.proofs.NoObstacle.{clear}
use Rattle.literal_steps.specs.CalledAt.{CalledAt, PackagesServe}
use Rattle.literal_steps.specs.LiteralUse.{LiteralUse, PlainCall}
use Rattle.literal_cycles.proofs.CalleesStay.{callees_stay}
use Rattle.literal_cycles.proofs.ThroughLiterals.{literal_step}
use Rattle.literal_cycles.specs.Around.{AllStayAround}
use Rattle.literal_cycles.specs.BodyForms.Steps.{AllStayThere}
use Rattle.literal_cycles.specs.FormCycles.Bodies.{changes_of}
use Rattle.literal_cycles.specs.Uses.{PutsLiteral}
use Rattle.argument_cycles.specs.FreeSteps.{StaysAround}
use Rattle.literals_in_place.specs.StepsInBodies.Functions.{use_here, BlankAlike}
use Rattle.literals_in_place.specs.StepsInBodies.Once.{StandsOnce, AllClear}
use Rattle.literals_in_place.proofs.Facts.{same_facts}
use Rattle.literals_in_place.proofs.StepsInBodies.BlankUses.{blank_alike}
use Rattle.literals_in_place.proofs.TypedSteps.Uses.{called_there, serve_there, clear_there}
use Rattle.literal_surroundings.specs.Steps.{PutsLiteralInBody}
use Rattle.literal_surroundings.proofs.Kept.{ListedIn}
use Rattle.literal_surroundings.proofs.Walk.{stmts_stay}

-- ---- any body

-- where a call is put, what is called around it names what it named
module _ (ps : List (Package At)) (marks : List MarkRef) (v : Where At) (at : ℕ) (m : MarkRef) (z : At) (tree e : Expr At) (calls : is_call tree ≡ true) (form : is_call e ≡ true) where
  pub all_there : (xs : List (Seen At)) → AllStayAround (changes_for same_here z (as_expr e)) z tree ps marks v at m xs → AllStayThere (changes_for same_here z (as_expr e)) ps marks v at m xs
  all_there [] a = tt
  all_there (seen p u y ∷ xs) a = (callees_stay ps marks v at m z tree e calls form p y a.0, all_there xs a.1)
  all_there (seen_type p t ∷ xs) a = (tt, all_there xs a.1)
  all_there (seen_stmt p s ∷ xs) a = (a.0, all_there xs a.1)

module _ (x : Site At) (tree e : Expr At) (here : is_at same_here (part_span x.part) tree ≡ true) (calls : is_call tree ≡ true) (form : is_call e ≡ true) (facts : SameOperand (names_of x.place.bound) x.place.env tree e) (blank : BlankAlike x.place.env tree e) (p : Place At) (b : Stmts At) (listed : ListedIn p.env.here p.bound) (once : StandsOnce same_here x tree (stmts_seen p b)) (fine : AllClear same_here x (Unit {0}) (stmts_seen p b)) (ps : List (Package At)) (marks : List MarkRef) (v : Where At) (at : ℕ) (m : MarkRef) where
  pub around_stays : AllStayAround (changes_for same_here (part_span x.part) (as_expr e)) (part_span x.part) tree ps marks v at m (stmts_seen p b)
  around_stays = stmts_stay x tree e here calls form facts blank ps marks v at m p b (record { stands = inr (listed, once); clear = fine })

  pub there_stays : AllStayThere (changes_for same_here (part_span x.part) (as_expr e)) ps marks v at m (stmts_seen p b)
  there_stays = all_there ps marks v at m (part_span x.part) tree e calls form (stmts_seen p b) around_stays

-- ---- a step

-- a place is the same as itself
itself : (s : At) → same_here s s ≡ true
itself s = grind (arith, nat_tests)

abbrev form_in : Form At → Reduced At → Form At
form_in d (becomes k f z ns) = f
form_in d (kept o) = d

abbrev names_in : List Named → Reduced At → List Named
names_in d (becomes k f z ns) = ns
names_in d (kept o) = d

abbrev expr_in : Expr At → Form At → Expr At
expr_in d (as_expr e) = e
expr_in d f = d

abbrev func_in : Func At → Decl At → Func At
func_in d (func g) = g
func_in d c = d

module _ (marks : List MarkRef) (st : Standing) (l : Logged) (after : Standing) (n : Next marks st l after) (k : PutsLiteralInBody n) where
  abbrev x : Site At
  x = n.found.site

  abbrev u : LiteralUse same_here (is_commented st) st.packages marks x
  u = k.becomes

  abbrev v : PlainCall same_here (is_commented st) st.packages marks x u
  v = k.plain

  abbrev start : Func At → Place At
  start g = body_place st.packages x.at.number x.at.of x.at.source.tree g

  -- ---- the form

  same_reduced : becomes LiteralForm u.form u.range u.packages ≡ becomes n.found.kind n.found.form n.found.range n.found.named
  same_reduced = some_same (becomes LiteralForm u.form u.range u.packages) (becomes n.found.kind n.found.form n.found.range n.found.named) (sym u.reduces ∙ step-form marks st l after n)

  record IsLiteral : Type 0 where
    tree : Expr At
    form_is : u.form ≡ as_expr tree

  literal : IsLiteral
  literal = record { tree = _; form_is = (clear same_here (is_commented st) st.packages marks x u).form_is }

  -- it is a call
  literal_calls : is_call literal.tree ≡ true
  literal_calls = ap (λ (f : Form At). is_call (expr_in literal.tree f)) (sym literal.form_is ∙ (clear same_here (is_commented st) st.packages marks x u).form_is)

  put_is : as_expr literal.tree ≡ n.found.form
  put_is = sym literal.form_is ∙ ap (form_in u.form) same_reduced

  -- ---- what typing gives

  called_so : CalledAt st.packages k.packages x (use_here k.packages x)
  called_so = called_there same_here itself (is_commented st) st.packages marks x u v k.packages k.linked k.no_import k.stands

  served_so : PackagesServe st.packages k.packages x same_here (is_commented st) marks u (use_here k.packages x)
  served_so = serve_there same_here itself (is_commented st) st.packages marks x u v k.packages k.linked k.no_import k.stands

  clear_so : AllClear same_here x (Unit {0}) (stmts_seen (start k.stands.function) k.stands.function.body)
  clear_so = clear_there same_here itself (is_commented st) st.packages marks x u v k.packages k.linked k.no_import k.stands (Unit {0}) tt

  facts_so : SameOperand (names_of x.place.bound) x.place.env u.tree literal.tree
  facts_so = same_facts same_here (is_commented st) st.packages marks x u v k.packages k.linked [] (use_here k.packages x) (called_beside called_so) served_so (names_of x.place.bound) (λ m i. i) literal.tree literal.form_is

  blank_so : BlankAlike x.place.env u.tree literal.tree
  blank_so = blank_alike same_here (is_commented st) st.packages marks x u v k.packages k.linked [] (use_here k.packages x) (called_beside called_so) served_so literal.tree literal.form_is

  -- ---- the use

  calls_so : is_call u.tree ≡ true
  calls_so = ap is_call v.tree_is

  here_so : is_at same_here (part_span x.part) u.tree ≡ true
  here_so =
      ap (λ (w : Part At). is_at same_here (part_span w) u.tree) u.part
      ∙ ap (λ (w : Expr At). is_at same_here (expr_span w) w) v.tree_is ∙ itself v.span

  listed_so : (g : Func At) → ListedIn (start g).env.here (start g).bound
  listed_so g = (body-begins st.packages (world st.packages) (world st.packages) (headed_func st.packages x.at.number x.at.of x.at.source.tree g) (headed_func st.packages x.at.number x.at.of x.at.source.tree g) g).walked_block

  -- ---- what is around it

  -- the function around is the one in which the use stands
  function_is : (g : Func At) → slice_get x.at.source.tree.decls x.decl ≡ Some (func g) → k.stands.function ≡ g
  function_is g h = ap (func_in g) (same_Some (func k.stands.function) (func g) (sym k.stands.decl_there ∙ h))

  around_function : AllStayAround (changes_for same_here (part_span x.part) (as_expr literal.tree)) (part_span x.part) u.tree st.packages marks x.at x.decl x.mark (stmts_seen (start k.stands.function) k.stands.function.body)
  around_function =
      around_stays x u.tree literal.tree here_so calls_so literal_calls facts_so blank_so (start k.stands.function) k.stands.function.body (listed_so k.stands.function) k.stands.once clear_so st.packages marks x.at x.decl x.mark

  around_here : (g : Func At) → slice_get x.at.source.tree.decls x.decl ≡ Some (func g) → AllStayAround (changes_of n.found) (part_span x.part) u.tree st.packages marks x.at x.decl x.mark (stmts_seen (start g) g.body)
  around_here g h =
      subst (λ (f : Form At). AllStayAround (changes_for same_here (part_span x.part) f) (part_span x.part) u.tree st.packages marks x.at x.decl x.mark (stmts_seen (start g) g.body)) put_is
      (subst (λ (f : Func At). AllStayAround (changes_for same_here (part_span x.part) (as_expr literal.tree)) (part_span x.part) u.tree st.packages marks x.at x.decl x.mark (stmts_seen (start f) f.body)) (function_is g h) around_function)

  pub stays : StaysAround n
  stays g h =
      subst (λ (f : Form At). AllStayThere (changes_for same_here (part_span x.part) f) st.packages marks x.at x.decl x.mark (stmts_seen (start g) g.body)) put_is
      (all_there st.packages marks x.at x.decl x.mark (part_span x.part) u.tree literal.tree calls_so literal_calls (stmts_seen (start g) g.body)
      (subst (λ (f : Func At). AllStayAround (changes_for same_here (part_span x.part) (as_expr literal.tree)) (part_span x.part) u.tree st.packages marks x.at x.decl x.mark (stmts_seen (start f) f.body)) (function_is g h) around_function))

  pub puts_literal : PutsLiteral n
  puts_literal =
      record {
        becomes = u;
        plain = v;
        packages = k.packages;
        linked = k.linked;
        served = served_so;
        no_constant = called_so.no_constant;
        adds_nothing = ap (λ (ns : List Named). imports_added ns) (sym (ap (names_in u.packages) same_reduced)) ∙ k.no_import.none_added;
        around = around_here;
      }

  pub keeps_cycles : Linked st.packages → ProgramReads st → SettlesFile n → (m : MarkRef) → is_recursive st.packages marks m ≡ is_recursive after.packages marks m
  keeps_cycles h reads s m = literal_step marks st l after n puts_literal h reads s (record { around = k.stands.function; is_around = k.stands.decl_there }) m
