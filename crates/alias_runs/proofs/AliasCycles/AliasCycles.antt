-- A step over an alias keeps which marked functions lie on a cycle: a type calls nothing.
use Rattle.std.proofs.Common.{◌≡◌, refl, sym, ◌∙◌, subst, ℕ, Bool, true, false, List, [], ◌∷◌, Some, None}
use Rattle.std.specs.Prelude.{if◌then◌else◌}
use Rattle.std.proofs.lemmas.Option.{same_Some}
use Rattle.go_tree.specs.Tree.{Expr, composite, func_lit}
use Rattle.go_tree.specs.File.{Decl}
use Rattle.pkg_graph.specs.Package as run
use Rattle.pkg_graph.specs.Package.{Package}
use Rattle.go_translation.specs.Packages.{are_well_typed}
use Rattle.typed_in_place.specs.ProgramReplaced.{at_last}
use Rattle.run_rules.specs.Cycles.{is_recursive}
use Rattle.run_rules.specs.Forms.{is_at}
use Rattle.run_rules.specs.FormTrees.{Form, as_expr, as_type}
use Rattle.run_rules.specs.Programs.{world, decl_seen}
use Rattle.run_rules.specs.Run.{Standing, Logged, Next, Run, ends, goes_on, is_commented}
use Rattle.run_rules.specs.Sites.{MarkRef, Where, Site, part_span}
use Rattle.run_rules.specs.Steps.{At, same_here, changes_for}
use Rattle.run_rules.specs.Surroundings.{Place, Use, Seen, seen, seen_type, seen_stmt}
use Rattle.order_runs.specs.CycleLaws.PutCalls.{CallsAlike, LiteralTyped, AllPutCallAlike}
use Rattle.order_runs.specs.CycleLaws.PutSteps.{PutsAlike}
use Rattle.order_runs.proofs.CycleLaws.NoCallees.{names-alike}
use Rattle.order_runs.specs.CycleLaws.ConstantCycles.NamesPut.{NameForName, AllNamesPut}
use Rattle.order_runs.proofs.CycleLaws.ConstantCycles.UsesPut.{type-puts-alike}
use Rattle.constant_steps.specs.PlainUse.{IsSimple, AllSimple}
use Rattle.order_runs.proofs.CycleRuns.FoundUses.NoRecursive.{step-off}
use Rattle.order_runs.specs.CycleRuns.ImportCycles.ImportSteps.{packages_added}
use Rattle.order_runs.specs.CycleRuns.OrderCycles.Steps.{site_added, GivesWayAdded}
use Rattle.order_runs.proofs.CycleRuns.OrderCycles.StepSettled.{step-keeps}
use Rattle.order_runs.specs.RunSteps.RunPackages.{members_of}
use Rattle.order_runs.specs.CycleRuns.StepCycles.Steps.{StandsAtEnds}
use Rattle.alias_runs.proofs.QualifiedAliases.FormThere.{type-form, expr-form}
use Rattle.alias_runs.specs.CalledAliases.CalledUse.{IsPlaced, as_written, as_called}
use Rattle.alias_runs.specs.AliasNext.{IsImportingAlias}
use Rattle.alias_runs.specs.AliasCycles.Steps.{alias_text, alias_expr, CallsNothingBy, AliasCallsNothing, KeepsCycles, over_an_alias, gives_way, EachKeepsCycles}
use Rattle.alias_runs.proofs.AliasCycles.FormsStand.{forms-stand}

-- ---- an expression in the place of another, neither of which names a function

module _ {S : Type 0} (same : S → S → Bool) (z : S) (e : Expr S) (ps : List (Package S)) (marks : List MarkRef) (w : Where S) (at : ℕ) (m : MarkRef) where
  simple-typed : (p : Place S) (u : Use) (x : Expr S) → IsSimple (seen p u x) → LiteralTyped ps marks w at m (changes_for same z (as_expr e)) p x
  simple-typed p u (composite s t es) k = absurd k
  simple-typed p u (func_lit s g b xs) k = absurd k
  simple-typed p u x k = tt

  put-alike : (p : Place S) (x y : Expr S) → (is_at same z x ≡ true → NameForName same z e ps marks w at m p x) → (b : Bool) → is_at same z x ≡ b → (if b then Some e else None) ≡ Some y → CallsAlike ps marks w at m p y x
  put-alike p x y n true h k =
      let q : NameForName same z e ps marks w at m p x = n h in
      subst (λ (v : Expr S). CallsAlike ps marks w at m p v x) (same_Some e y k) (names-alike ps marks w at p e x q.new q.old m)
  put-alike p x y n false h k = absurd cc

  calls-alike : (xs : List (Seen S)) → AllSimple xs → AllNamesPut same z e ps marks w at m xs → AllPutCallAlike ps marks w at m (changes_for same z (as_expr e)) xs
  calls-alike [] s n = tt
  calls-alike (seen p u x ∷ xs) s n = ((simple-typed p u x s.0, λ y k. put-alike p x y n.0 (is_at same z x) refl k), calls-alike xs s.1 n.1)
  calls-alike (seen_type p t ∷ xs) s n = (tt, calls-alike xs s.1 n.1)
  calls-alike (seen_stmt p r ∷ xs) s n = (n.0, calls-alike xs s.1 n.1)

-- ---- the step

module _ (marks : List MarkRef) (st : Standing) (l : Logged) (after : Standing) (n : Next marks st l after) (h : IsImportingAlias n) (typed : are_well_typed (members_of st.packages) ≡ true) where
  abbrev mid : List (run.Package At)
  mid = packages_added st.packages n.found

  abbrev there : Site At
  there = site_added n.found

  stands : StandsAtEnds mid there n.found.form
  stands = forms-stand marks st l after n h typed

  puts-by : (t : IsPlaced same_here (is_commented st) mid marks there h.use_ h.stands) → CallsNothingBy n h t → PutsAlike marks mid there n.found.form
  puts-by (as_written t) quiet =
      let form-so : n.found.form ≡ as_type (alias_text n h) = h.form ∙ type-form same_here (is_commented st) mid marks there h.use_ t.use_ t.part in
      let there_stands : StandsAtEnds mid there (as_type (alias_text n h)) = subst (λ (g : Form At). StandsAtEnds mid there g) form-so stands in
      subst (λ (g : Form At). PutsAlike marks mid there g) (sym form-so)
      (type-puts-alike marks mid there (alias_text n h) (λ d e. there_stands.before.values (world mid) at_last false 0 d e) quiet)
  puts-by (as_called t) quiet =
      let form-so : n.found.form ≡ as_expr (alias_expr n h) = h.form ∙ expr-form same_here (is_commented st) mid marks there h.use_ t.use_ t.part in
      let there_stands : StandsAtEnds mid there (as_expr (alias_expr n h)) = subst (λ (g : Form At). StandsAtEnds mid there g) form-so stands in
      subst (λ (g : Form At). PutsAlike marks mid there g) (sym form-so)
      (record {
        statements = λ p s. refl;
        stands = λ d e. there_stands.before.values (world mid) at_last false 0 d e;
        calls = λ d e.
            calls-alike same_here (part_span there.part) (alias_expr n h) mid marks there.at there.decl there.mark (decl_seen mid there.at.number there.at.of there.at.source.tree d)
            (subst (λ (d : Decl At). AllSimple (decl_seen mid there.at.number there.at.of there.at.source.tree d)) (same_Some h.stands.decl d (sym h.stands.decl_there ∙ e)) h.stands.simple) (quiet d e);
      })

  module _ (quiet : AliasCallsNothing n h) where
    puts : PutsAlike marks mid there n.found.form
    puts = puts-by h.placed quiet

    pub alias-gives-way : GivesWayAdded n
    alias-gives-way = record { imports = h.names; stands = stands; statements = puts.statements; calls = puts.calls; off = step-off marks st l after n }

    pub alias-keeps : (m : MarkRef) → is_recursive st.packages marks m ≡ is_recursive after.packages marks m
    alias-keeps m = step-keeps marks st l after n alias-gives-way m

one-keeps : (marks : List MarkRef) (st : Standing) (l : Logged) (after : Standing) (n : Next marks st l after) → KeepsCycles n → (m : MarkRef) → is_recursive st.packages marks m ≡ is_recursive after.packages marks m
one-keeps marks st l after n (over_an_alias h typed quiet) m = alias-keeps marks st l after n h typed quiet m
one-keeps marks st l after n (gives_way g) m = step-keeps marks st l after n g m

pub run-keeps : (marks : List MarkRef) (st last : Standing) (log : List Logged) (run : Run marks st log last) → EachKeepsCycles run → (m : MarkRef) → is_recursive st.packages marks m ≡ is_recursive last.packages marks m
run-keeps marks _ _ _ (ends st over) h m = refl
run-keeps marks _ _ _ (goes_on st next last l log n run) h m = one-keeps marks st l next n h.0 m ∙ run-keeps marks next last log run h.1 m
