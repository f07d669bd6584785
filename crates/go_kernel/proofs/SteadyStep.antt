-- The step of a steady argument: it may stand wherever its parameter is used.
use Rattle.std.proofs.Common.{◌≡◌, ℕ, zero, ◌≤◌, ◌<◌, List, [], ◌∷◌, ◌++◌, Bool, true, false, true≢false, None, refl, sym, arith, inr}
use Rattle.std.specs.Prelude.{bytes_eq}
use Rattle.go_kernel.specs.Kernel.{Name, FuncName, Term, Local, Let, Program}
use Rattle.go_kernel.specs.Scope.{has}
use Rattle.go_kernel.specs.Substitution.{sub}
use Rattle.go_kernel.specs.Arguments.{Arg, arg, names_of, args_of, rest, choose}
use Rattle.go_kernel.proofs.FreshNames.{height}
use Rattle.go_kernel.proofs.FrameFacts.{has_one}
use Rattle.go_kernel.proofs.TermConditions.{Fit, fit_map}
use Rattle.go_kernel.proofs.Inserted
use Rattle.go_kernel.proofs.Inserted.{way}
use Rattle.go_kernel.proofs.WithinProgram as Sim
use Rattle.go_kernel.proofs.WithinProgram.{Way, Moves}
use Rattle.go_kernel.proofs.Means.{Mean}
use Rattle.go_kernel.proofs.Parameters.{Every, Unbound, NotChosen, below_neq, every_rest, every_map, Own, put_in, arg_keeps, args_keep, names_low, low_goods, BodyUse, BodySet, Body, looks_free, not_has}
use Rattle.go_kernel.proofs.PlacingStep.{OnUse, MayUse, MaySet, part_moves}
use Rattle.go_kernel.proofs.Movability.{looks_single}
use Rattle.go_kernel.proofs.Looks
use Rattle.go_kernel.proofs.Looks.{looking, looks_moves}

-- the step: parameter x, renamed to y, has the chosen argument a, and the later arguments os; σ says what stands for the other names
module _ (P : Program) (N0 : ℕ) (free : FuncName → Bool) (A : ℕ) (all : List Name) (b : Term) (y : Name) (y_high : N0 ≤ height y) (σ : Name → Term) (x : Name) (a : Term) (fr : List Name) (os : List Arg) (own_x : Own P N0 (arg x a fr true)) (own : Every (Own P N0) os)
    (x_other : has x (names_of os) ≡ false) (unbound : Every (Unbound fr) os) (at_y : σ x ≡ Local y)
    (stands : (z : Name) → has z all ≡ true → bytes_eq z x ≡ false → (w : Name) × (σ z ≡ Local w) × (bytes_eq w y ≡ false) × (bytes_eq y w ≡ false) × (Every (NotChosen z) os → has w fr ≡ false)) (body : Body P N0 all (arg x a fr true ∷ os) b) where
  y_rest : has y (names_of (rest os)) ≡ false
  y_rest = names_low P N0 (rest os) y (every_rest (Own P N0) os own) y_high

  abbrev Fits' : List Name → Term → Type 0
  Fits' g t = Fit (BodyUse P N0 all (arg x a fr true ∷ os)) (BodySet P N0 all (arg x a fr true ∷ os)) (λ o. Unit {0}) (Unit {0}) true g t

  set_of' : (g : List Name) (z : Name) → BodySet P N0 all (arg x a fr true ∷ os) g z → MaySet P N0 all x y a fr y_high σ os x_other unbound y_rest at_y stands g z
  set_of' g z u = (u.0, u.1.0 refl, u.1.1)

  owned' : (z : Name) (o : Arg) → Own P N0 o → OnUse P N0 all x y a fr y_high σ os x_other unbound y_rest at_y stands (Own P N0) z o
  owned' z (arg z' c f d) q = λ i e. q

  apart : (w : Name) → height w < N0 → bytes_eq w y ≡ false
  apart w l = below_neq w y (omega arith)

  -- a steady argument
  module _ (l : Looks.Looks a) (q : Looks.Steady a) where
    abbrev W : Way
    W = way (looking y a l)

    use_of : (g : List Name) (z : Name) → BodyUse P N0 all (arg x a fr true ∷ os) g z → MayUse P N0 all x y a fr y_high σ os x_other unbound y_rest at_y stands (Own P N0) (Unit {0}) g z
    use_of g z u = (u.0, λ e. (tt, λ w m. u.1.0 refl e w m), every_map os (owned' z) own)

    moves : Moves W None None true (names_of (rest os) ++ []) (sub (choose os σ) [] b) (sub (put_in P N0 x a (choose os σ)) [] b)
    moves =
        part_moves P N0 all x y a fr y_high σ os x_other unbound y_rest at_y stands W (λ g w h. Inserted.bound h) (λ g w h. Inserted.bound h) (λ g w h n. Inserted.other h (has_one w y n))
        (λ g w h n m k. Inserted.other h (has_one w y n) (not_has P N0 fr (Looks.locals a) (looks_free P N0 a fr l own_x.1) w k)) (λ o. Unit {0}) (Unit {0}) (λ o u. inr q) (λ u. q) (Unit {0})
        (λ v r g h k. Sim.base (Looks.use_x h (λ w m. k w (looks_free P N0 a fr l own_x.1 w m)))) (Own P N0)
        (λ z c f o r g. arg_keeps P N0 W (λ g w h. Inserted.bound h) (λ g w h. Inserted.bound h) (λ o. inr q) q (λ w. bytes_eq w y ≡ false) (λ g w h n. Inserted.other h (has_one w y n)) false r (λ e. absurd (true≢false (sym e))) g c f o.1 (λ w m. apart w (o.2 w m)))
        b true [] (fit_map use_of set_of' (λ o u. u) (λ u. u) b true [] body)

    pub steady_step : Mean P free A zero (Let (y ∷ []) a (Let (names_of (rest os)) (args_of (rest os)) (sub (choose os σ) [] b))) (Let (names_of (rest os)) (args_of (rest os)) (sub (put_in P N0 x a (choose os σ)) [] b))
    steady_step =
        looks_moves y a l P free A _ _ (Sim.let' (args_keep P N0 W (λ g w h. Inserted.bound h) (λ g w h. Inserted.bound h) (λ o. inr q) q (λ w. bytes_eq w y ≡ false) (λ g w h n. Inserted.other h (has_one w y n)) [] (rest os) (every_rest (Own P N0) os own) (low_goods P N0 (rest os) y (every_rest (Own P N0) os own) y_high)) moves) (looks_single P N0 free A a own_x.0 l)
