-- The laws of forms, from computed tests.
use Rattle.std.proofs.Common.{◌≡◌, ℕ, zero, List, [], ◌∷◌, length, Bool, true, false, if◌then◌else◌, Some, subst}
use Rattle.go_kernel.specs.Kernel.{Name, FuncName, Value, Slot, Term, Vals, Set, Let, Within, Alone, Defer, DeferLit, code, Program}
use Rattle.go_kernel.specs.Scope.{has, Scoped}
use Rattle.go_kernel.specs.Substitution.{sub}
use Rattle.go_kernel.specs.Items.{items, writes}
use Rattle.go_kernel.specs.Arguments.{Arg, names_of, args_of, rest, chosen}
use Rattle.go_kernel.specs.Conditions.{width, none_in}
use Rattle.go_kernel.specs.Choosing.{Row, Safe, AreRows}
use Rattle.go_kernel.specs.ChosenLaws.{Receives}
use Rattle.go_kernel.specs.Forms.{in_frames, give_slots, return_to, return_to_slots, slot_names, distinct_names, tidy, never, retarget, turns}
use Rattle.go_kernel.specs.FormLaws.{names_none, called_with, AllSteady}
use Rattle.go_kernel.proofs.DeepItems.{not_true}
use Rattle.go_kernel.proofs.ComputedConditions.{test_fit}
use Rattle.go_kernel.proofs.Means.{Mean, mean_trans}
use Rattle.go_kernel.proofs.Block.{body_is_block}
use Rattle.go_kernel.proofs.Never.{tidy_is}
use Rattle.go_kernel.proofs.Returns.{returns_is_expression}
use Rattle.go_kernel.proofs.Sinks.{frame_sink, slot_sink, ApartSlots}
use Rattle.go_kernel.proofs.Retarget.{tail_is_block, distinct_is, apart_is}
use Rattle.go_kernel.proofs.Shapes.{coded}
use Rattle.go_kernel.proofs.DeferredCall.{deferred_is_literal}
use Rattle.go_kernel.proofs.DeferredSet.{deferred_set}

module _ (P : Program) (free : FuncName → Bool) (A : ℕ) where
  pub expression : (ss : List Name) (zeros : List Value) (e : Term) → distinct_names ss ≡ true → width P e ≡ Some (length ss) → names_none ss e ≡ true → Mean P free A zero (Alone (Let ss (Vals zeros) (Within (return_to ss e) (in_frames ss)))) e
  expression ss zeros e d w n = returns_is_expression P free A ss (distinct_is ss d) zeros e w n

  pub block : (t : Term) → tidy [] t ≡ true → names_none [] t ≡ true → Mean P free A zero (Alone (Let [] (Vals []) (Within t []))) (Let [] t (Vals []))
  block t q n =
      body_is_block P free A t (tidy_is t [] q) (test_fit (λ h z. if has z [] then false else true) (λ h z. if has z [] then false else true) (λ h w. Unit {0}) (λ h w. Unit {0}) (λ h z e. tt) (λ h z e. tt) t false [] n)

  pub tail : (ps ss rs : List Name) (zeros : List Value) (a body : Term) (k : ℕ) → width P a ≡ Some k → distinct_names ss ≡ true → length zeros ≡ length ss → none_in rs ps ≡ true
      → turns P ps ss (none_in rs) [] [] body ≡ true → never (retarget ss (Set rs) body) ≡ true → Mean P free A zero (return_to rs (called_with ps ss zeros a body)) (Let ps a (retarget ss (Set rs) body))
  tail ps ss rs zeros a body k w d l n t v = tail_is_block P free A ps ss (frame_sink P free A ps (length ss) rs (apart_is rs ps n)) (none_in rs) (λ g h. apart_is rs g h) zeros body a k w d l t v

  slots_apart : (rs : List Slot) (g : List Name) → none_in (slot_names rs) g ≡ true → ApartSlots P free A [] rs g
  slots_apart [] g h = tt
  slots_apart (r ∷ rs) g h = let q = not_true _ _ h in (q.0, slots_apart rs g q.1)

  pub tail_into_slots : (ps ss : List Name) (rs : List Slot) (ts : List Name) (zeros : List Value) (a body : Term) (k : ℕ) → width P a ≡ Some k → distinct_names ss ≡ true → length zeros ≡ length ss
      → length rs ≡ length ss → length ts ≡ length ss → distinct_names ts ≡ true → none_in (slot_names rs) ts ≡ true → none_in (slot_names rs) ps ≡ true
      → turns P ps ss (none_in (slot_names rs)) [] [] body ≡ true → never (retarget ss (λ e. Let ts e (give_slots rs ts)) body) ≡ true
      → Mean P free A zero (return_to_slots rs ts (called_with ps ss zeros a body)) (Let ps a (retarget ss (λ e. Let ts e (give_slots rs ts)) body))
  tail_into_slots ps ss rs ts zeros a body k w d l lr lt dt nt np t v =
      tail_is_block P free A ps ss (slot_sink P free A ps (length ss) rs ts lr lt (distinct_is ts dt) (slots_apart rs ts nt) (slots_apart rs ps np)) (none_in (slot_names rs)) (λ g h. slots_apart rs g h) zeros body a k w d l t v

  pub deferred_call : (f : FuncName) → Scoped (P f).params (code (P f)) → (os : List Arg) (rows : List Row) → Receives P f os → AreRows os (P f).slots (P f).body os rows → Safe (items (P f).slots (P f).body) (writes (P f).body) rows os → AllSteady os
      → Mean P free A zero (Defer f (args_of os)) (DeferLit (names_of (rest os)) (args_of (rest os)) (sub (chosen os) [] (code (P f))))
  deferred_call f scoped os rows receives q s h =
      let one : Mean P free A zero (Defer f (args_of os)) (DeferLit (names_of os) (args_of os) (code (P f))) =
      subst (λ xs. Mean P free A zero (Defer f (args_of os)) (DeferLit xs (args_of os) (code (P f)))) receives.params (deferred_is_literal P free A f scoped (args_of os)) in
      mean_trans P free A zero (Defer f (args_of os)) (DeferLit (names_of os) (args_of os) (code (P f))) (DeferLit (names_of (rest os)) (args_of (rest os)) (sub (chosen os) [] (code (P f)))) one
      (deferred_set P free A os (P f).slots (P f).body (code (P f)) (coded (P f) receives.slots) rows receives.named receives.distinct' receives.closed' q s h)
