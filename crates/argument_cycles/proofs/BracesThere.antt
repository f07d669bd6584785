-- Statements in braces, put for a use that nothing else in a body has the span of, call through, in any program in which the use becomes them.
use Rattle.std.proofs.Common.{◌≡◌, refl, sym, ap, subst, Bool, true, false, List, [], ◌∷◌, Some, None, if◌then◌else◌, arith, ◌⊎◌, ℕ}
use Rattle.std.specs.Prelude.{is_some}
use Rattle.std.proofs.lemmas.Option.{same_Some}
use Rattle.go_tree.specs.Tree.{Expr, Stmt, no_exprs, expr_and, eval, inner, return_, Stmts}
use Rattle.pkg_graph.specs.Package.{Package}
use Rattle.run_rules.specs.Surroundings.{Place, Seen, seen, seen_type, seen_stmt}
use Rattle.run_rules.specs.Places.{stmts_seen, stmt_seen}
use Rattle.run_rules.specs.Sites.{MarkRef, Site, part_span, is_among_marks}
use Rattle.run_rules.specs.Cycles.{LeadsTo}
use Rattle.run_rules.specs.FormTrees.{Form, as_block}
use Rattle.run_rules.specs.Forms.{is_at}
use Rattle.run_rules.specs.Steps.{At, same_here, changes_for}
use Rattle.constant_steps.specs.PlainUse.{AllTheUse}
use Rattle.literal_cycles.specs.FormCycles.Puts.{StatementCallsThrough, AllPutThrough}
use Rattle.literal_cycles.specs.BodyForms.Steps.{AllStayThere}
use Rattle.literal_cycles.specs.FormCycles.Blocks.{Holds, is_it, returns_it}
use Rattle.literal_cycles.proofs.BodyForms.StatementsHeld.{Held, all_of, stmts_held}
use Rattle.order_runs.specs.CycleLaws.PutCalls.{called_among}
use Rattle.literal_cycles.specs.BodyForms.Uses.{CalledUse}

module _ (commented : ℕ → ℕ → At → Bool) (ps : List (Package At)) (marks : List MarkRef) (x : Site At) (u : CalledUse same_here commented ps marks x) (statements : Stmts At)
    (comes : (z : At) (s : Stmt At) → Holds u.tree s → (b : MarkRef) → is_among_marks (called_among ps marks x.at x.decl (stmt_seen x.place true (inner z statements))) b ≡ true → (is_among_marks (called_among ps marks x.at x.decl (stmt_seen x.place true s)) b ≡ true) ⊎ LeadsTo ps marks x.mark b)
    (stays : (z : At) (s : Stmt At) → Holds u.tree s → (b : MarkRef) → is_among_marks (called_among ps marks x.at x.decl (stmt_seen x.place true s)) b ≡ true → (is_among_marks (called_among ps marks x.at x.decl (stmt_seen x.place true (inner z statements))) b ≡ true) ⊎ (b ≡ x.mark)) where
  abbrev span : At
  span = part_span x.part

  abbrev tree : Expr At
  tree = u.tree

  abbrev Through : Place At → Stmt At → Stmt At → Type 0
  Through p y s = StatementCallsThrough ps marks x.at x.decl x.mark p y s

  put_if : (b : Bool) (p : Place At) (y new s : Stmt At) → (b ≡ true → Through p new s) → (if b then Some new else None) ≡ Some y → Through p y s
  put_if true p y new s f h = subst (λ v. Through p v s) (same_Some new y h) (f refl)
  put_if false p y new s f h = absurd (grind (arith, ap is_some h))

  there : (p : Place At) (d : Expr At) (z : At) (s : Expr At → Stmt At) → ((e : Expr At) → Holds e (s e)) → (p ≡ x.place) × (d ≡ tree) → Through p (inner z statements) (s d)
  there p d z s h r =
      subst (λ v. Through v (inner z statements) (s d)) (sym r.0) (subst (λ e. Through x.place (inner z statements) (s e)) (sym r.1)
      (record { comes = λ b e. comes z (s tree) (h tree) b e; stays = λ b e. stays z (s tree) (h tree) b e }))

  stmt_put : (p : Place At) (s : Stmt At) → Held same_here x tree (seen_stmt p s) → (y : Stmt At) → (changes_for same_here span (as_block statements)).stmt p s ≡ Some y → Through p y s
  stmt_put p (eval z d) a y h = put_if (is_at same_here span d) p y (inner z statements) (eval z d) (λ i. there p d z (λ e. eval z e) (λ e. is_it z) (a i)) h
  stmt_put p (return_ z (expr_and d no_exprs)) a y h =
      put_if (is_at same_here span d) p y (inner z statements) (return_ z (expr_and d no_exprs)) (λ i. there p d z (λ e. return_ z (expr_and e no_exprs)) (λ e. returns_it z) (a i)) h
  stmt_put p s a y h = absurd (grind (arith, ap is_some h))

  puts_at : (xs : List (Seen At)) → all_of same_here x tree xs → AllStayThere (changes_for same_here span (as_block statements)) ps marks x.at x.decl x.mark xs → AllPutThrough ps marks x.at x.decl x.mark (changes_for same_here span (as_block statements)) xs
  puts_at [] b s = tt
  puts_at (seen p w y ∷ xs) b s = ((s.0, λ z h. absurd (grind (arith, ap is_some h))), puts_at xs b.1 s.1)
  puts_at (seen_type p t ∷ xs) b s = (tt, puts_at xs b.1 s.1)
  puts_at (seen_stmt p y ∷ xs) b s = ((s.0, stmt_put p y b.0), puts_at xs b.1 s.1)

  -- in a body in which nothing else has the use's span
  pub braces_through : (f : Form At) → as_block statements ≡ f → (p : Place At) (b : Stmts At) → AllTheUse same_here x tree (stmts_seen p b) → AllStayThere (changes_for same_here span f) ps marks x.at x.decl x.mark (stmts_seen p b) → AllPutThrough ps marks x.at x.decl x.mark (changes_for same_here span f) (stmts_seen p b)
  braces_through f q p b a s =
      subst (λ f. AllPutThrough ps marks x.at x.decl x.mark (changes_for same_here span f) (stmts_seen p b)) q
      (puts_at (stmts_seen p b) (stmts_held same_here x tree p b (record { each = a })).each (subst (λ f. AllStayThere (changes_for same_here span f) ps marks x.at x.decl x.mark (stmts_seen p b)) (sym q) s))
