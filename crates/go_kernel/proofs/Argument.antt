-- One argument, and a call with a safe set.
use Rattle.std.proofs.Common.{◌⊎◌, inr, ◌≡◌, ℕ, zero, suc, List, [], ◌∷◌, ◌++◌, Bool, true, false, true≢false, if◌then◌else◌, refl, sym, ap, ◌∙◌, subst, arith}
use Rattle.std.proofs.lemmas.List.{append-nil}
use Rattle.go_kernel.specs.Kernel.{Name, FuncName, Result, Gives, Leaves, Cuts, after, push, popped, Term, Vals, Both, Let, Alone, Call, code, Program}
use Rattle.go_kernel.specs.Substitution.{sub}
use Rattle.go_kernel.specs.Classes.{Class, Steady, Looks, Acts, steady, looks, class_of, allows}
use Rattle.go_kernel.specs.Items.{items, uses, writes}
use Rattle.go_kernel.specs.Arguments.{Arg, arg, names_of, args_of, rest, chosen}
use Rattle.go_kernel.specs.Choosing.{Row, is_write, is_effect, uses_before, Solo, Safe, all_name_only, AreRows}
use Rattle.go_kernel.specs.Laws.{Ranked, AllScoped}
use Rattle.go_kernel.specs.ChosenLaws.{Replaceable, placed, Receives}
use Rattle.go_kernel.proofs.Means.{Mean, Lev, mean_trans, mean_no_let, mean_equal}
use Rattle.go_kernel.proofs.Literal.{call_is_literal}
use Rattle.go_kernel.proofs.SafeSet.{safe_set}
use Rattle.go_kernel.proofs.Shapes.{plain, called}
use Rattle.go_kernel.proofs.ComputedConditions.{loosened}
use Rattle.go_kernel.proofs.UsesBefore.{before_fewer, before_total, total_le, write_is_effect}
use Rattle.go_kernel.specs.Scope.{has}

allows_self : (c : Class) → allows c c ≡ true
allows_self Steady = refl
allows_self Looks = refl
allows_self Acts = refl

module _ (P : Program) (free : FuncName → Bool) (A : ℕ) where
  -- one argument as a list of arguments
  single : (xs : List Name) (a b : Term) → Mean P free A zero (Let xs a b) (Let xs (Both a (Vals [])) b)
  single xs a b = mean_equal P free A zero (Let xs a b) (Let xs (Both a (Vals [])) b) (λ n j h s. go n j (Lev P free A n j a s))
    where
      go : (n j : ℕ) (r : Result) → after r (λ v s. popped xs (Lev P free A n j b (record s { frame = push xs v s.frame }))) Leaves ≡ after (after r (λ v s. Gives (v ++ []) s) Leaves) (λ v s. popped xs (Lev P free A n j b (record s { frame = push xs v s.frame }))) Leaves
      go n j (Gives v s) = ap (λ w. popped xs (Lev P free A n j b (record s { frame = push xs w s.frame }))) (sym (append-nil v))
      go n j (Leaves x s) = refl
      go n j (Cuts o) = refl

  module _ (x : Name) (a : Term) (fr : List Name) (b : Term) (q : Replaceable P x a fr b) where
    abbrev row : Row
    row = record { class = class_of a; constant = true; duplicable = true; uses = uses x [] b; barred = false; deferred_use = false; last_use = false; names_held = false; address = false }

    abbrev os : List Arg
    os = arg x a fr true ∷ []

    named_all : all_name_only (arg x a fr true ∷ []) ≡ true
    named_all = ap (λ c. if c then true else false) (loosened (λ h w. has w fr) (λ h w. false) a [] q.own)

    pub moves : ((class_of a ≡ Looks) → (writes b ≡ false) ⊎ (uses_before is_write x (items [] b) ≡ uses x [] b)) → ((class_of a ≡ Acts) → (uses x [] b ≡ 1) × (uses_before is_effect x (items [] b) ≡ 1)) → (uses x [] b ≡ 0 → class_of a ≡ Acts → ⊥)
        → Mean P free A zero (Let (x ∷ []) a b) (placed x a b)
    moves l c n =
        let solo : Solo (row) x (items [] b) (writes b) = record { free = refl; deferred = λ e. refl; repeated = λ e. refl; unused = λ e. record { acts_not = λ k. n e k; address_not = refl; held_not = refl; last_not = refl }; looking = l; acting = c } in
        let one = single (x ∷ []) a b in
        let two = safe_set P (arg x a fr true ∷ []) [] b b (plain b) free A (row ∷ []) q.named refl q.alone ((allows_self (class_of a), refl, λ e. (q.kept, q.apart, q.own, named_all)), tt) ((λ e. (solo, tt)), tt, tt) in
        let three = mean_no_let P free A 0 (placed x a b) in
        mean_trans P free A zero (Let (x ∷ []) a b) (Let [] (Vals []) (placed x a b)) (placed x a b) (mean_trans P free A zero (Let (x ∷ []) a b) (Let (x ∷ []) (Both a (Vals [])) b) (Let [] (Vals []) (placed x a b)) one two) three

    steady_class : steady a ≡ true → class_of a ≡ Steady
    steady_class h = ap (λ c. if c then Steady else if looks a then Looks else Acts) h

    -- classes are apart
    is_steady : Class → Bool
    is_steady Steady = true
    is_steady _ = false

    is_acts' : Class → Bool
    is_acts' Acts = true
    is_acts' _ = false

    pub steady_moves : steady a ≡ true → Mean P free A zero (Let (x ∷ []) a b) (placed x a b)
    unfolding is_steady
    steady_moves h =
        moves (λ e. absurd (true≢false (sym (ap is_steady (sym e ∙ steady_class h))))) (λ e. absurd (true≢false (sym (ap is_steady (sym e ∙ steady_class h))))) (λ z e. absurd (true≢false (sym (ap is_steady (sym e ∙ steady_class h)))))

    not_acts : looks a ≡ true → is_acts' (class_of a) ≡ false
    unfolding is_acts'
    not_acts l = go (steady a)
      where
        go : (c : Bool) → is_acts' (if c then Steady else if looks a then Looks else Acts) ≡ false
        go true = refl
        go false = ap (λ c. is_acts' (if c then Looks else Acts)) l

    pub looks_moves : looks a ≡ true → (writes b ≡ false) ⊎ (uses_before is_write x (items [] b) ≡ uses x [] b) → Mean P free A zero (Let (x ∷ []) a b) (placed x a b)
    unfolding is_acts'
    looks_moves l w = moves (λ e. w) (λ e. absurd (true≢false (sym (ap is_acts' e) ∙ not_acts l))) (λ z e. absurd (true≢false (sym (ap is_acts' e) ∙ not_acts l)))

    pub acts_moves : uses x [] b ≡ 1 → uses_before is_effect x (items [] b) ≡ 1 → Mean P free A zero (Let (x ∷ []) a b) (placed x a b)
    acts_moves u w = moves (λ e. inr written) (λ e. (u, w)) (λ z e. let no : ⊥ = omega (arith, z, u) in no)
      where
        written : uses_before is_write x (items [] b) ≡ uses x [] b
        written =
            let f = before_fewer x is_effect is_write write_is_effect (items [] b) in
            let t = before_total x is_write (items [] b) in
            let m = total_le x b [] in
            omega (arith, f, t, m, u, w)

  -- a call with a safe set
  module _ (rank : FuncName → ℕ) (ranked : Ranked P free rank) (scoped : AllScoped P) (f : FuncName) (is_free : free f ≡ true) (os : List Arg) (rows : List Row) (receives : Receives P f os) where
    pub call_moves : AreRows os (P f).slots (P f).body os rows → Safe (items (P f).slots (P f).body) (writes (P f).body) rows os
        → Mean P free A (suc (rank f)) (Call f (args_of os)) (Let (names_of (rest os)) (args_of (rest os)) (sub (chosen os) [] (Alone (code (P f)))))
    call_moves q s =
        let one : Mean P free A (suc (rank f)) (Call f (args_of os)) (Let (names_of os) (args_of os) (Alone (code (P f)))) =
        subst (λ xs. Mean P free A (suc (rank f)) (Call f (args_of os)) (Let xs (args_of os) (Alone (code (P f))))) receives.params (call_is_literal P free A rank ranked scoped f is_free (args_of os)) in
        let two = safe_set P os (P f).slots (P f).body (Alone (code (P f))) (called (P f) receives.slots) free A rows receives.named receives.distinct' receives.closed' q s in
        mean_trans P free A (suc (rank f)) (Call f (args_of os)) (Let (names_of os) (args_of os) (Alone (code (P f)))) (Let (names_of (rest os)) (args_of (rest os)) (sub (chosen os) [] (Alone (code (P f))))) one (λ n j h s. two n j (omega arith) s)
