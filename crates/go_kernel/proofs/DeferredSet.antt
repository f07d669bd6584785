-- A deferred literal with steady arguments of a safe set in their parameters' places.
use Rattle.std.proofs.Common.{◌≡◌, ℕ, zero, List, [], ◌∷◌, Bool, true, false, refl, sym, ap, ◌∙◌, subst}
use Rattle.go_kernel.specs.Kernel.{Name, FuncName, Term, DeferLit, Program}
use Rattle.go_kernel.specs.Substitution.{sub}
use Rattle.go_kernel.specs.Items.{items, writes}
use Rattle.go_kernel.specs.Arguments.{Arg, arg, names_of, args_of, rest, chosen}
use Rattle.go_kernel.specs.Choosing.{Row, Safe, AreRows, distinct, well_named, closed}
use Rattle.go_kernel.specs.FormLaws.{AllSteady}
use Rattle.go_kernel.proofs.FrameFacts.{by_has}
use Rattle.go_kernel.proofs.TermConditions.{sub_self}
use Rattle.go_kernel.proofs.BindAgain.{locals_of}
use Rattle.go_kernel.proofs.Means.{Mean, mean_refl}
use Rattle.go_kernel.proofs.Parameters.{BodyUse, BodySet}
use Rattle.go_kernel.proofs.Movability.{Choice, steady_one}
use Rattle.go_kernel.proofs.Shapes.{Shape}
use Rattle.go_kernel.proofs.SafeSet.{any, none_rest, none_chosen, distinct_is, Pairs, pairs_of, firsts, seconds, unbound_is, unread_is, own_of, names_of_any, body_of, body_again}
use Rattle.go_kernel.proofs.DeferredChosen.{deferred_chosen}

steady_choice : (b : Term) (os : List Arg) → Pairs os → AllSteady os → Choice b os
steady_choice b [] p s = tt
steady_choice b (arg x a fr true ∷ os) p s = (unbound_is fr x a os (firsts (arg x a fr true) os p.0), steady_one (s.0 refl), steady_choice b os p.1 s.1)
steady_choice b (arg x a fr false ∷ os) p s = (unread_is x a fr os (seconds (arg x a fr false) os p.0), steady_choice b os p.1 s.1)

module _ (P : Program) (free : FuncName → Bool) (A : ℕ) (all : List Arg) (g : List Name) (t b : Term) (shape : Shape g t b) where
  pub deferred_set : (rows : List Row) → well_named P all ≡ true → distinct all ≡ true → closed (names_of all) g t ≡ true → AreRows all g t all rows → Safe (items g t) (writes t) rows all → AllSteady all
      → Mean P free A zero (DeferLit (names_of all) (args_of all) b) (DeferLit (names_of (rest all)) (args_of (rest all)) (sub (chosen all) [] b))
  deferred_set rows n d c q s h = by_has (any all) some nothing_chosen
    where
      nothing_chosen : any all ≡ false → Mean P free A zero (DeferLit (names_of all) (args_of all) b) (DeferLit (names_of (rest all)) (args_of (rest all)) (sub (chosen all) [] b))
      nothing_chosen e =
          subst (λ os. Mean P free A zero (DeferLit (names_of all) (args_of all) b) (DeferLit (names_of os) (args_of os) (sub (chosen all) [] b))) (sym (none_rest all e))
          (subst (λ u. Mean P free A zero (DeferLit (names_of all) (args_of all) b) (DeferLit (names_of all) (args_of all) u)) (sym (ap (λ τ. sub τ [] b) (λ i z. none_chosen all e z i) ∙ sub_self b [])) (mean_refl P free A zero (DeferLit (names_of all) (args_of all) b)))

      some : any all ≡ true → Mean P free A zero (DeferLit (names_of all) (args_of all) b) (DeferLit (names_of (rest all)) (args_of (rest all)) (sub (chosen all) [] b))
      some e =
          let m = names_of_any P all g t b shape all e (writes t) rows q s in
          let own = own_of P all g t b shape n all n m (writes t) rows q s in
          let dd = distinct_is all d in
          let pairs = pairs_of (items g t) (writes t) rows all all g t q s in
          let fits = body_of P all g t b shape c (writes t) all rows q s in
          let inner = DeferLit (names_of (rest all)) (locals_of (names_of (rest all))) b in
          let again = body_again P all g t b shape dd own pairs fits in
          deferred_chosen P 1 free A b all own dd (steady_choice inner all pairs h) (tt, again.0, again.1) (shape.fits (BodyUse P 1 (names_of all) all) (BodySet P 1 (names_of all) all) (λ o. Unit {0}) (Unit {0}) fits)
