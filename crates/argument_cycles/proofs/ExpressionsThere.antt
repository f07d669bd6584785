-- An expression with arguments in the places of parameters, or its assignment to `_`, put for a use that nothing else in a body has the span of, calls through, in any program in which the use becomes it.
use Rattle.std.proofs.Common.{◌≡◌, refl, sym, ap, ◌∙◌, subst, ℕ, Bool, true, false, List, [], ◌∷◌, Some, None, if◌then◌else◌, arith}
use Rattle.std.specs.Prelude.{is_some}
use Rattle.std.proofs.lemmas.Option.{same_Some}
use Rattle.go_tree.specs.Tree.{Expr, Stmt, ident, no_exprs, expr_and, eval, assign, Stmts}
use Rattle.pkg_graph.specs.Package.{Package}
use Rattle.run_rules.specs.Calls.{blank}
use Rattle.run_rules.specs.FormTrees.{Form, as_block, as_expr, as_dropped, as_type}
use Rattle.run_rules.specs.Forms.{is_at}
use Rattle.run_rules.specs.Places.{expr_seen, stmt_seen, stmts_seen}
use Rattle.run_rules.specs.Sites.{MarkRef, Site, part_span}
use Rattle.run_rules.specs.Steps.{At, same_here, changes_for}
use Rattle.run_rules.specs.Surroundings.{Use, other, Place, Seen, seen, seen_type, seen_stmt}
use Rattle.order_runs.specs.CycleLaws.PutCalls.{called_among}
use Rattle.constant_steps.specs.PlainUse.{AllTheUse}
use Rattle.literal_cycles.specs.FormCycles.Puts.{CalledThrough, ExprCallsThrough, StatementCallsThrough, AllPutThrough}
use Rattle.literal_cycles.specs.BodyForms.Steps.{AllStayThere}
use Rattle.literal_cycles.specs.BodyForms.Uses.{CalledUse, IsExpression, alone, dropped}
use Rattle.literal_cycles.proofs.BodyForms.ArgumentsPut.{is_no_block}
use Rattle.literal_cycles.proofs.BodyForms.FormsWritten.{apart, is_block}
use Rattle.literal_cycles.proofs.BodyForms.StatementsHeld.{Held, all_of, stmts_held}
use Rattle.literal_cycles.proofs.BodyForms.StepsPut.{alone_calls, dropped_calls}
use Rattle.argument_cycles.specs.Uses.{PlacedArguments}
use Rattle.argument_cycles.proofs.PlacedCalls.{puts, placed_through}

module _ (commented : ℕ → ℕ → At → Bool) (ps : List (Package At)) (marks : List MarkRef) (x : Site At) (u : CalledUse same_here commented ps marks x) (k : PlacedArguments commented ps marks x u) where
  abbrev span : At
  span = part_span x.part

  abbrev tree : Expr At
  tree = u.tree

  through_at : (p : Place At) (y e : Expr At) → IsExpression e k.becomes.form → (p ≡ x.place) × (y ≡ tree) → ExprCallsThrough ps marks x.at x.decl x.mark p e y
  through_at p y e f r =
      subst (λ v. ExprCallsThrough ps marks x.at x.decl x.mark v e y) (sym r.0) (subst (λ v. ExprCallsThrough ps marks x.at x.decl x.mark x.place e v) (sym r.1) (placed_through commented ps marks x u k e f x.decl))

  put_if : {A : Type 0} (P : A → Type 0) (b : Bool) (y new : A) → (b ≡ true → P new) → (if b then Some new else None) ≡ Some y → P y
  put_if P true y new f h = subst P (same_Some new y h) (f refl)
  put_if P false y new f h = absurd (grind (arith, ap is_some h))

  expr_put : (f : Form At) → k.becomes.form ≡ f → (p : Place At) (w : Use) (y : Expr At) → (is_at same_here span y ≡ true → (p ≡ x.place) × (y ≡ tree)) → (z : Expr At) → (changes_for same_here span f).expr p w y ≡ Some z → ExprCallsThrough ps marks x.at x.decl x.mark p z y
  expr_put (as_expr e) q p w y a z h = put_if (λ v. ExprCallsThrough ps marks x.at x.decl x.mark p v y) (is_at same_here span y) z e (λ i. through_at p y e (subst (IsExpression e) (sym q) alone) (a i)) h
  expr_put (as_dropped e) q p w y a z h = absurd (grind (arith, ap is_some h))
  expr_put (as_block b) q p w y a z h = absurd (grind (arith, ap is_some h))
  expr_put (as_type t) q p w y a z h = absurd (grind (arith, ap is_some h))

  dropped_through : (p : Place At) (z : At) (d e : Expr At) → IsExpression e k.becomes.form → (p ≡ x.place) × (d ≡ tree) → StatementCallsThrough ps marks x.at x.decl x.mark p (assign z (expr_and (ident z blank) no_exprs) None (expr_and e no_exprs)) (eval z d)
  dropped_through p z d e f r =
      subst (λ ns. CalledThrough ps marks x.mark ns (called_among ps marks x.at x.decl (stmt_seen p true (eval z d)))) (sym (dropped_calls ps marks x.at x.decl x.mark p z blank e))
      (subst (λ ns. CalledThrough ps marks x.mark (called_among ps marks x.at x.decl (expr_seen p other e)) ns) (sym (alone_calls ps marks x.at x.decl x.mark p z d)) (through_at p d e f r))

  stmt_put : (f : Form At) → k.becomes.form ≡ f → is_block f ≡ false → (p : Place At) (s : Stmt At) → Held same_here x tree (seen_stmt p s) → (y : Stmt At) → (changes_for same_here span f).stmt p s ≡ Some y → StatementCallsThrough ps marks x.at x.decl x.mark p y s
  stmt_put (as_dropped e) q j p (eval z d) a y h =
      put_if (λ v. StatementCallsThrough ps marks x.at x.decl x.mark p v (eval z d)) (is_at same_here span d) y (assign z (expr_and (ident z blank) no_exprs) None (expr_and e no_exprs)) (λ i. dropped_through p z d e (subst (IsExpression e) (sym q) dropped) (a i)) h
  stmt_put (as_block b) q j p s a y h = apart (sym j)
  stmt_put f q j p s a y h = absurd (grind (arith, ap is_some h))

  puts_found : (f : Form At) → k.becomes.form ≡ f → (xs : List (Seen At)) → AllTheUse same_here x tree xs → all_of same_here x tree xs → AllStayThere (changes_for same_here span f) ps marks x.at x.decl x.mark xs → AllPutThrough ps marks x.at x.decl x.mark (changes_for same_here span f) xs
  puts_found f q [] a b s = tt
  puts_found f q (seen p w y ∷ xs) a b s = ((s.0, expr_put f q p w y a.0), puts_found f q xs a.1 b.1 s.1)
  puts_found f q (seen_type p t ∷ xs) a b s = (tt, puts_found f q xs a.1 b.1 s.1)
  puts_found f q (seen_stmt p y ∷ xs) a b s = ((s.0, stmt_put f q (ap is_block (sym q) ∙ is_no_block commented ps marks x u (puts commented ps marks x u k) 0) p y b.0), puts_found f q xs a.1 b.1 s.1)

  -- in a body in which nothing else has the use's span
  pub expression_through : (f : Form At) → k.becomes.form ≡ f → (p : Place At) (b : Stmts At) → AllTheUse same_here x tree (stmts_seen p b) → AllStayThere (changes_for same_here span f) ps marks x.at x.decl x.mark (stmts_seen p b) → AllPutThrough ps marks x.at x.decl x.mark (changes_for same_here span f) (stmts_seen p b)
  expression_through f q p b a s = puts_found f q (stmts_seen p b) a (stmts_held same_here x tree p b (record { each = a })).each s
