-- A deferred literal may bind its arguments in front, and so lose the chosen ones as a called literal does.
use Rattle.std.proofs.Common.{◌≡◌, ℕ, zero, List, [], ◌∷◌, Bool, true, None, refl, sym, ap, ◌∙◌, subst}
use Rattle.std.proofs.lemmas.List.{append-nil}
use Rattle.go_kernel.specs.Kernel.{Name, FuncName, Value, Term, Local, Let, DeferLit, Frame, Deferred, State, Result, Gives, Leaves, Cuts, after, push, popped, Program, Ext}
use Rattle.go_kernel.proofs.AcrossPrograms as Laws
use Rattle.go_kernel.specs.Alike.{out_of, more, near, gives, cuts}
use Rattle.go_kernel.proofs.AcrossPrograms.{each_refl}
use Rattle.go_kernel.specs.Alike.{RunAlike}
use Rattle.go_kernel.proofs.WithinProgram as Sim
use Rattle.go_kernel.proofs.WithinProgram.{Moves}
use Rattle.go_kernel.proofs.Means
use Rattle.go_kernel.proofs.Means.{Mean, Lev, Cover, cov_self, mean_sym, mean_trans, pair_runs}
use Rattle.go_kernel.proofs.BindAgain.{rebound, locals_of, locals_run, no_base, start_rel, locals_in}
use Rattle.go_kernel.proofs.ChosenLaw.{chosen_law, rest_in, rest_self, locals_self, first_again, last_again}
use Rattle.go_kernel.specs.Substitution.{sub}
use Rattle.go_kernel.proofs.FrameFacts.{pop_push}
use Rattle.go_kernel.specs.Scope.{has}
use Rattle.go_kernel.proofs.Movability.{Choice}
use Rattle.go_kernel.proofs.Parameters.{Body, Distinct, Every, Own}
use Rattle.go_kernel.specs.Arguments.{Arg, args_of, choose, names_of, rest}
use Rattle.go_kernel.proofs.TermConditions.{sub_under}

module _ (all xr : List Name) (within : (z : Name) → has z xr ≡ true → has z all ≡ true) (P : Program) (free : FuncName → Bool) (A : ℕ) where
  pub defers_bound : (a b : Term) → Moves (rebound all xr within) None None true [] b b → Mean P free A zero (DeferLit all a b) (Let all a (DeferLit xr (locals_of xr) b))
  defers_bound a b m n j h s = go (Lev P free A n j a s) (Means.grows P free A n j a s)
    where
      pair : (v : List Value) (F : Frame) → RunAlike P free A (record { frame = push all v F; body = b }) (record { frame = push xr (locals_in xr (push all v F)) (push all v F); body = b })
      pair v F = pair_runs P free A (rebound all xr within) (no_base all xr within P free A) _ _ (Sim.inner tt (λ c. start_rel all xr within P free A v F) m)

      one : (v : List Value) (s1 : State) → Cover P free A s1.out (Gives [] (record s1 { defers = (record { frame = push all v s1.frame; body = b }) ∷ s1.defers }))
          (popped all (Lev P free A n j (DeferLit xr (locals_of xr) b) (record s1 { frame = push all v s1.frame })))
      one v s1 =
          let F = s1.frame in
          let d : Deferred = record { frame = push xr (locals_in xr (push all v F)) (push all v F); body = b } in
          let right : popped all (Lev P free A n j (DeferLit xr (locals_of xr) b) (record s1 { frame = push all v F })) ≡ Gives [] (record s1 { defers = d ∷ s1.defers }) =
          ap (λ r. popped all (after r (λ v s. Gives [] (record s { defers = (record { frame = push xr v s.frame; body = b }) ∷ s.defers })) Leaves)) (locals_run all xr within P free A n j xr (record s1 { frame = push all v F }))
          ∙ ap (λ f. Gives [] (record s1 { frame = f; defers = d ∷ s1.defers })) (pop_push all v F) in
          subst (λ r. Cover P free A s1.out (Gives [] (record s1 { defers = (record { frame = push all v F; body = b }) ∷ s1.defers })) r) (sym right)
          (gives (near (more (pair v F) (each_refl ((Means.runs_refl P free A)) s1.defers))) ([], refl))

      widen : (v : List Value) (s1 : State) → Ext s.out s1.out → Cover P free A s.out (Gives [] (record s1 { defers = (record { frame = push all v s1.frame; body = b }) ∷ s1.defers })) (popped all (Lev P free A n j (DeferLit xr (locals_of xr) b) (record s1 { frame = push all v s1.frame })))
      widen v s1 e = Laws.weaken ⊥ (RunAlike P free A) e (one v s1)

      go : (r : Result) → Ext s.out (out_of r) → Cover P free A s.out (after r (λ v s. Gives [] (record s { defers = (record { frame = push all v s.frame; body = b }) ∷ s.defers })) Leaves) (after r (λ v s. popped all (Lev P free A n j (DeferLit xr (locals_of xr) b) (record s { frame = push all v s.frame }))) Leaves)
      go (Gives v s1) e = widen v s1 e
      go (Leaves x s1) e = cov_self P free A (Leaves x s1) e
      go (Cuts o) e = cuts e

module _ (P : Program) (N : ℕ) (free : FuncName → Bool) (A : ℕ) (b : Term) (os : List Arg) where
  -- the body of the let: the literal, deferred with the parameters that stay bound
  abbrev pub inner : Term
  inner = DeferLit (names_of (rest os)) (locals_of (names_of (rest os))) b

  pub deferred_chosen : Every (Own P N) os → Distinct os → Choice inner os → Body P N (names_of os) os inner → Body P N (names_of os) os b
      → Mean P free A zero (DeferLit (names_of os) (args_of os) b) (DeferLit (names_of (rest os)) (args_of (rest os)) (sub (choose os (λ z. Local z)) [] b))
  deferred_chosen own d c f f' =
      let xs = names_of (rest os) in
      let τ = choose os (λ z. Local z) in
      let one = defers_bound (names_of os) xs (rest_in P N os) P free A (args_of os) b (first_again P N free A b os f') in
      let two = chosen_law P N free A inner os own d c f in
      let three = defers_bound xs xs (λ z h. h) P free A (args_of (rest os)) (sub τ [] b) (last_again P N free A b os own f') in
      let same : sub τ [] inner ≡ DeferLit xs (locals_of xs) (sub τ [] b) = cc (locals_self P N os xs d (λ z h. h), ap (λ g. sub τ g b) (append-nil xs) ∙ sub_under xs τ (λ z h. rest_self P N os z (λ z. Local z) d h) b []) in
      let two' = subst (λ t. Mean P free A zero (Let (names_of os) (args_of os) inner) (Let xs (args_of (rest os)) t)) same two in
      mean_trans P free A zero (DeferLit (names_of os) (args_of os) b) (Let xs (args_of (rest os)) (DeferLit xs (locals_of xs) (sub τ [] b))) (DeferLit xs (args_of (rest os)) (sub τ [] b))
      (mean_trans P free A zero (DeferLit (names_of os) (args_of os) b) (Let (names_of os) (args_of os) inner) (Let xs (args_of (rest os)) (DeferLit xs (locals_of xs) (sub τ [] b))) one two')
      (mean_sym P free A zero (DeferLit xs (args_of (rest os)) (sub τ [] b)) (Let xs (args_of (rest os)) (DeferLit xs (locals_of xs) (sub τ [] b))) three)
