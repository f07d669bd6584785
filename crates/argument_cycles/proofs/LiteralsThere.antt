-- A literal, put for a use that nothing else has the span of, calls through, in any program in which the use becomes it.
use Rattle.std.proofs.Common.{◌≡◌, refl, sym, ap, subst, Bool, true, false, List, [], ◌∷◌, Some, None, if◌then◌else◌, arith, ◌⊎◌, ℕ}
use Rattle.std.specs.Prelude.{is_some}
use Rattle.std.proofs.lemmas.Option.{same_Some}
use Rattle.go_tree.specs.Tree.{Expr}
use Rattle.pkg_graph.specs.Package.{Package}
use Rattle.run_rules.specs.Surroundings.{Use, Place, Seen, seen, seen_type, seen_stmt, other}
use Rattle.run_rules.specs.Places.{expr_seen}
use Rattle.run_rules.specs.Sites.{MarkRef, Site, part_span, is_among_marks}
use Rattle.run_rules.specs.Cycles.{LeadsTo}
use Rattle.run_rules.specs.FormTrees.{Form, as_expr}
use Rattle.run_rules.specs.Forms.{is_at}
use Rattle.run_rules.specs.Steps.{At, same_here, changes_for}
use Rattle.constant_steps.specs.PlainUse.{AllTheUse}
use Rattle.literal_cycles.specs.FormCycles.Puts.{ExprCallsThrough, AllPutThrough}
use Rattle.literal_cycles.specs.BodyForms.Steps.{AllStayThere}
use Rattle.order_runs.specs.CycleLaws.PutCalls.{called_among}
use Rattle.literal_cycles.specs.BodyForms.Uses.{CalledUse}

module _ (commented : ℕ → ℕ → At → Bool) (ps : List (Package At)) (marks : List MarkRef) (x : Site At) (u : CalledUse same_here commented ps marks x) (literal : Expr At)
    (comes : (b : MarkRef) → is_among_marks (called_among ps marks x.at x.decl (expr_seen x.place other literal)) b ≡ true → (is_among_marks (called_among ps marks x.at x.decl (expr_seen x.place other u.tree)) b ≡ true) ⊎ LeadsTo ps marks x.mark b)
    (stays : (b : MarkRef) → is_among_marks (called_among ps marks x.at x.decl (expr_seen x.place other u.tree)) b ≡ true → (is_among_marks (called_among ps marks x.at x.decl (expr_seen x.place other literal)) b ≡ true) ⊎ (b ≡ x.mark)) where
  abbrev span : At
  span = part_span x.part

  abbrev tree : Expr At
  tree = u.tree

  abbrev Through : Place At → Expr At → Expr At → Type 0
  Through p y s = ExprCallsThrough ps marks x.at x.decl x.mark p y s

  put_if : (b : Bool) (p : Place At) (y new s : Expr At) → (b ≡ true → Through p new s) → (if b then Some new else None) ≡ Some y → Through p y s
  put_if true p y new s f h = subst (λ v. Through p v s) (same_Some new y h) (f refl)
  put_if false p y new s f h = absurd (grind (arith, ap is_some h))

  there : (p : Place At) (d : Expr At) → (p ≡ x.place) × (d ≡ tree) → Through p literal d
  there p d r =
      subst (λ v. Through v literal d) (sym r.0) (subst (λ e. Through x.place literal e) (sym r.1)
      (record { comes = λ b e. comes b e; stays = λ b e. stays b e }))

  expr_put : (p : Place At) (w : Use) (d : Expr At) → (is_at same_here span d ≡ true → (p ≡ x.place) × (d ≡ tree)) → (y : Expr At) → (changes_for same_here span (as_expr literal)).expr p w d ≡ Some y → Through p y d
  expr_put p w d a y h = put_if (is_at same_here span d) p y literal d (λ i. there p d (a i)) h

  puts_at : (xs : List (Seen At)) → AllTheUse same_here x tree xs → AllStayThere (changes_for same_here span (as_expr literal)) ps marks x.at x.decl x.mark xs → AllPutThrough ps marks x.at x.decl x.mark (changes_for same_here span (as_expr literal)) xs
  puts_at [] a s = tt
  puts_at (seen p w y ∷ xs) a s = ((s.0, expr_put p w y a.0), puts_at xs a.1 s.1)
  puts_at (seen_type p t ∷ xs) a s = (tt, puts_at xs a.1 s.1)
  puts_at (seen_stmt p y ∷ xs) a s = ((s.0, λ z h. absurd (grind (arith, ap is_some h))), puts_at xs a.1 s.1)

  -- among parts of which nothing else has the use's span
  pub literal_through : (f : Form At) → as_expr literal ≡ f → (xs : List (Seen At)) → AllTheUse same_here x tree xs → AllStayThere (changes_for same_here span f) ps marks x.at x.decl x.mark xs → AllPutThrough ps marks x.at x.decl x.mark (changes_for same_here span f) xs
  literal_through f q xs a s =
      subst (λ f. AllPutThrough ps marks x.at x.decl x.mark (changes_for same_here span f) xs) q (puts_at xs a (subst (λ f. AllStayThere (changes_for same_here span f) ps marks x.at x.decl x.mark xs) (sym q) s))
