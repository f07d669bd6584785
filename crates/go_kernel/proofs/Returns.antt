-- A body that returns one expression of any number of values is that expression.
use Rattle.std.proofs.Common.{◌≡◌, ℕ, zero, List, [], ◌++◌, length, Bool, true, false, if◌then◌else◌, Option, Some, None, refl, sym, ap, ◌∙◌, subst}
use Rattle.std.proofs.lemmas.List.{append-nil}
use Rattle.go_kernel.specs.Kernel.{return_label, Name, FuncName, Value, Reason, Term, Vals, Let, Within, Alone, Frame, Deferred, State, Gone, Panic, Result, Gives, Leaves, Level, after, put_all, push, pop, popped, unwind, unwound, resumed, with_slots, with_pending, read_slots, Program, free_level}
use Rattle.go_kernel.specs.Scope.{has, has_all, names}
use Rattle.go_kernel.specs.Forms.{in_frames, return_to}
use Rattle.go_kernel.specs.Conditions.{width, each_free}
use Rattle.go_kernel.proofs.FrameFacts.{by_has, empty_names, names_push, names_put_all, pop_all, push_front, put_all_front}
use Rattle.go_kernel.proofs.TermConditions.{keep}
use Rattle.go_kernel.proofs.ComputedConditions.{test_fit, width_is}
use Rattle.go_kernel.proofs.DeepItems.{not_true}
use Rattle.go_kernel.proofs.Inserted
use Rattle.go_kernel.proofs.Inserted.{inserted, way, in_front}
use Rattle.go_kernel.proofs.PlacedAlike as Place
use Rattle.go_kernel.proofs.PlacedAlike.{Good, expr_at}
use Rattle.go_kernel.proofs.WithinProgram as Sim
use Rattle.go_kernel.proofs.WithinProgram.{Moves, Upon, fits, Acts, apart, chain_follows}
use Rattle.go_kernel.proofs.Means.{Mean, mean_equal, Lev}
use Rattle.go_kernel.proofs.Tail.{DistinctNames, all_self, read_all}

module _ (P : Program) (free : FuncName → Bool) (A : ℕ) (ss : List Name) (distinct : DistinctNames ss) (zs : List Value) (e : Term) (expr : width P e ≡ Some (length ss)) (apart_from : each_free (λ h z. if has z ss then false else true) (λ h z. if has z ss then false else true) false [] e ≡ true) where
  not_in : (z : Name) → (if has z ss then false else true) ≡ true → has z ss ≡ false
  not_in z h = (not_true (has z ss) true h).0

  stays : (ys : Frame) (q p : Option Reason) → names ys ≡ ss → Moves (way (in_front ys)) q p false [] e e
  stays ys q p n =
      keep (way (in_front ys)) q p (λ g x h. Inserted.bound h) (λ g x h. Inserted.bound h) (λ g x. has x ss ≡ false) (λ g x. has x ss ≡ false) (λ o. Unit {0}) (Unit {0}) (λ o u. tt) (λ u. tt) []
      (λ k x m u. by_has (has x (k ++ [])) (λ h. Inserted.bound h) (λ h. Inserted.other h (subst (λ g. has x g ≡ false) (sym n) u)))
      (λ k x m u. by_has (has x (k ++ [])) (λ h. Inserted.bound h) (λ h. Inserted.other h (subst (λ g. has x g ≡ false) (sym n) u) tt)) e false false (λ z. z) []
      (test_fit (λ h z. if has z ss then false else true) (λ h z. if has z ss then false else true) (λ g x. has x ss ≡ false) (λ g x. has x ss ≡ false) (λ g x h. not_in x h) (λ g x h. not_in x h) e false [] apart_from)

  shell : Level → Option Reason → List Deferred → Result → Result
  shell b p ds x = with_pending p (popped ss (with_slots (in_frames ss) (resumed ds (unwound b (after (after x (λ v s. Gives [] (record s { frame = put_all ss v s.frame })) Leaves) (λ v s. popped [] (Leaves (Gone return_label) (record s { frame = push [] v s.frame }))) Leaves)))))

  same : (b : Level) (ys : Frame) (p : Option Reason) (ds : List Deferred) (r' r : Result) → names ys ≡ ss → Acts (way (in_front ys)) None p [] ds false [] r' r → Good P (length ss) ds r → Good P (length ss) [] r' → shell b p ds r' ≡ r
  unfolding shell
  same b ys p ds _ _ n (Sim.gives {v = v} (fits {c = c} {o = o} {ds = x'} {ds' = x} (inserted ws ys' G m i h) apart u)) (Place.gives l d) (Place.gives l' d') =
      let none = empty_names ws m in
      let in_ys = subst (has_all ss) (sym n) (all_self ss) in
      let whole : ws ++ (ys' ++ G) ≡ ys ++ G = ap (λ z. z ++ (ys' ++ G)) none ∙ ap (λ y. y ++ G) h.0 in
      let put : put_all ss v (ws ++ (ys' ++ G)) ≡ put_all ss v ys ++ G = ap (put_all ss v) whole ∙ put_all_front ss v ys G in_ys in
      let reads : read_slots (in_frames ss) (put_all ss v (ws ++ (ys' ++ G))) c ≡ v = ap (λ z. read_slots (in_frames ss) z c) put ∙ read_all ss v ys G c distinct in_ys l in
      let frames : pop ss (put_all ss v (ws ++ (ys' ++ G))) ≡ ws ++ G = ap (pop ss) put ∙ pop_all ss (put_all ss v ys) G (names_put_all ss v ys ∙ n) ∙ sym (ap (λ z. z ++ G) none) in
      ap (λ z. with_pending p (popped ss (with_slots (in_frames ss) (resumed ds (unwind b z None (record { frame = put_all ss v (ws ++ (ys' ++ G)); store = c; pending = None; defers = z; out = o })))))) d'
      ∙ (λ i. Gives (reads i) (record { frame = frames i; store = c; pending = p; defers = (sym d) i; out = o }))
  same b ys p ds _ _ n (Sim.leaves (fits {c = c} {o = o} {ds = x'} {ds' = x} (inserted ws ys' G m i h) apart u)) (Place.panics {e = q} d) (Place.panics d') =
      let none = empty_names ws m in
      let whole : ws ++ (ys' ++ G) ≡ ys ++ G = ap (λ z. z ++ (ys' ++ G)) none ∙ ap (λ y. y ++ G) h.0 in
      let frames : pop ss (ws ++ (ys' ++ G)) ≡ ws ++ G = ap (pop ss) whole ∙ pop_all ss ys G n ∙ sym (ap (λ z. z ++ G) none) in
      ap (λ z. with_pending p (popped ss (with_slots (in_frames ss) (resumed ds (unwind b z (Some q) (record { frame = ws ++ (ys' ++ G); store = c; pending = None; defers = z; out = o })))))) d'
      ∙ (λ i. Leaves (Panic q) (record { frame = frames i; store = c; pending = p; defers = (sym d) i; out = o }))
  same b ys p ds _ _ n Sim.cuts g g' = refl

  returned : (n j : ℕ) (s : State) → Lev P free A n j (Alone (Let ss (Vals zs) (Within (return_to ss e) (in_frames ss)))) s ≡ Lev P free A n j e s
  unfolding shell
  returned n j s =
      let F = s.frame in
      let ys = push ss zs [] in
      let named : names ys ≡ ss = names_push ss zs [] ∙ append-nil ss in
      let inner : State = record { frame = ys ++ F; store = s.store; pending = None; defers = []; out = s.out } in
      let acts = chain_follows (way (in_front ys)) None s.pending P free A (λ below pick B B' r g t t' e. absurd e) n j [] s.defers false [] e e (stays ys None s.pending named) inner s (fits (inserted [] ys F refl refl (refl, tt)) apart Upon.base) in
      let exp = width_is P (length ss) e expr in
      ap (λ f. shell (free_level P free A n) s.pending s.defers (Lev P free A n j e (record { frame = f; store = s.store; pending = None; defers = []; out = s.out }))) (push_front ss zs [] F)
      ∙ same (free_level P free A n) ys s.pending s.defers (Lev P free A n j e inner) (Lev P free A n j e s) named acts (expr_at P free A (length ss) n j e exp s) (expr_at P free A (length ss) n j e exp inner)

  pub returns_is_expression : Mean P free A zero (Alone (Let ss (Vals zs) (Within (return_to ss e) (in_frames ss)))) e
  returns_is_expression = mean_equal P free A zero (Alone (Let ss (Vals zs) (Within (return_to ss e) (in_frames ss)))) e (λ n j h s. returned n j s)
