-- The law of an argument that acts, where its end depends on the place's frame, store and events alone.
use Rattle.std.proofs.Common.{◌≡◌, ℕ, zero, List, [], ◌∷◌, ◌++◌, Bool, Option, refl, sym, ap, ◌∙◌, subst}
use Rattle.go_kernel.specs.Kernel.{Name, FuncName, Term, Let, Frame, Deferred, Store, State, Panic, Result, Leaves, after, push, pop, popped, Program, chain, free_level, Ext, Event, Reason}
use Rattle.go_kernel.specs.Scope.{names}
use Rattle.go_kernel.specs.Alike.{out_of}
use Rattle.go_kernel.specs.Alike.{MeanSame}
use Rattle.go_kernel.proofs.FrameFacts.{empty_names}
use Rattle.go_kernel.proofs.Inserted.{way, anything, unbound}
use Rattle.go_kernel.proofs.Means
use Rattle.go_kernel.proofs.Means.{Lev, Cover, ends_alike, reframed_self, cov_same}
use Rattle.go_kernel.proofs.Acts.{Out, Value', Panics, Stops, of_out, Early, through, hits}

module _ (P : Program) (free : FuncName → Bool) (A : ℕ) where
  -- an argument whose end depends on the frame behind, the store and the events alone
  abbrev pub Places : (List Name → Type 0) → ℕ → ℕ → Term → Frame → Store → List Event → Out → Type 0
  Places Clear n j a F c o z = (ys : Frame) → Clear (names ys) → (p : Option Reason) (ds : List Deferred)
      → let s : State = record { frame = ys ++ F; store = c; pending = p; defers = ds; out = o } in chain P free (free_level P free A n) j a s ≡ of_out z s

  module _ (x : Name) (a t t' : Term) (Clear : List Name → Type 0) (clear : Clear []) (early : Early x a Clear [] t t') where
    panics_out : {F : Frame} {e : Reason} {c : Store} {p : Option Reason} {ds : List Deferred} {o : List Event} {r : Result}
        → (zs : Frame) × (names zs ≡ []) × (r ≡ Leaves (Panic e) (record { frame = zs ++ F; store = c; pending = p; defers = ds; out = o })) → r ≡ Leaves (Panic e) (record { frame = F; store = c; pending = p; defers = ds; out = o })
    panics_out {F} {e} {c} {p} {ds} {o} h = h.2 ∙ ap (λ z. Leaves (Panic e) (record { frame = z ++ F; store = c; pending = p; defers = ds; out = o })) (empty_names h.0 h.1)

    bound : ℕ → ℕ → Result → Result
    bound n j r = after r (λ v s. popped (x ∷ []) (Lev P free A n j t (record s { frame = push (x ∷ []) v s.frame }))) Leaves

    moved : (n j : ℕ) (F : Frame) (c : Store) (p : Option Reason) (ds : List Deferred) (o : List Event) (z : Out) → Places Clear n j a F c o z
        → let s : State = record { frame = F; store = c; pending = p; defers = ds; out = o } in Cover P free A o (Lev P free A n j (Let (x ∷ []) a t) s) (Lev P free A n j t' s)
    unfolding bound
    moved n j F c p ds o (Value' v c1 o1) h =
        let L = Lev P free A n j in
        let s : State = record { frame = F; store = c; pending = p; defers = ds; out = o } in
        let left : State = record { frame = (x, v) ∷ F; store = c1; pending = p; defers = ds; out = o1 } in
        let one : L (Let (x ∷ []) a t) s ≡ popped (x ∷ []) (L t left) = ap (bound n j) (h [] clear p ds) in
        let acts = hits x a Clear P free A n j F c o (Value' v c1 o1) h v c1 o1 refl early [] refl p ds in
        let grown : Ext o (out_of (L t left)) = subst (λ w. Ext o w) (ap out_of one ∙ Means.reframed_out (pop (x ∷ [])) (L t left)) (Means.grows P free A n j (Let (x ∷ []) a t) s) in
        let ends = ends_alike P free A (way (anything (x ∷ []))) (λ below pick B B' r g t t' e. absurd e) [] (pop (x ∷ [])) (λ f. f) (unbound (x ∷ [])) acts grown in
        subst (λ r. Cover P free A o r (L t' s)) (sym one) (subst (λ r. Cover P free A o (popped (x ∷ []) (L t left)) r) (reframed_self (L t' s)) ends)
    moved n j F c p ds o (Panics e c1 o1) h =
        let s : State = record { frame = F; store = c; pending = p; defers = ds; out = o } in
        cov_same P free A _ _ (ap (bound n j) (h [] clear p ds) ∙ sym (panics_out (through x a Clear P free A n j F c o (Panics e c1 o1) h early [] refl p ds))) (Means.grows P free A n j (Let (x ∷ []) a t) s)
    moved n j F c p ds o (Stops o1) h =
        let s : State = record { frame = F; store = c; pending = p; defers = ds; out = o } in
        cov_same P free A _ _ (ap (bound n j) (h [] clear p ds) ∙ sym (through x a Clear P free A n j F c o (Stops o1) h early [] refl p ds)) (Means.grows P free A n j (Let (x ∷ []) a t) s)

    -- the law of an argument that acts
    pub acts_moves : ((n j : ℕ) (F : Frame) (c : Store) (o : List Event) → (z : Out) × Places Clear n j a F c o z) → MeanSame P free A zero (Let (x ∷ []) a t) t'
    acts_moves h n j k s = let z = h n j s.frame s.store s.out in moved n j s.frame s.store s.pending s.defers s.out z.0 z.1
