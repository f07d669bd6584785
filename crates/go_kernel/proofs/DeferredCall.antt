-- A deferred call is the deferred literal with the same operands.
use Rattle.std.proofs.lemmas.List.{append-nil}
use Rattle.std.proofs.Common.{ℕ, zero, List, [], ◌∷◌, ◌++◌, Bool, true, None, refl, sym, ap, ◌∙◌}
use Rattle.go_kernel.specs.Kernel.{FuncName, Value, Term, Defer, DeferLit, Frame, Result, Gives, Leaves, Cuts, after, push, entered, code, Program, Ext}
use Rattle.go_kernel.specs.Alike.{out_of, more, near, gives, cuts, RunAlike}
use Rattle.go_kernel.proofs.AcrossPrograms.{each_refl}
use Rattle.go_kernel.specs.Alike.{RunAlike}
use Rattle.go_kernel.proofs.WithinProgram.{fits, equal, Upon, level_follows}
use Rattle.go_kernel.proofs.Means
use Rattle.go_kernel.proofs.Means.{Mean, cov_self, Lev, Cover, left_same}
use Rattle.go_kernel.proofs.FrameFacts.{names_push, push_front}
use Rattle.go_kernel.specs.Scope.{Scoped}
use Rattle.go_kernel.proofs.Inserted.{Longer, inserted, renamed, way, fixed}
use Rattle.go_kernel.proofs.FrameLaw.{scoped_moves}

module _ (P : Program) (free : FuncName → Bool) (A : ℕ) where
  -- a deferred call and the deferred literal with the same operands
  module _ (f : FuncName) (scoped : Scoped (P f).params (code (P f))) where
    runs_alike : (v : List Value) (F : Frame) → RunAlike P free A (record { frame = push (P f).params v []; body = code (P f) }) (record { frame = push (P f).params v F; body = code (P f) })
    runs_alike v F n e s =
        let ps = (P f).params in
        let W = way (fixed F []) in
        let rel0 : Longer (fixed F []) ps s.store (push ps v [] ++ (F ++ [])) (push ps v [] ++ []) = inserted (push ps v []) F [] (names_push ps v [] ∙ append-nil ps) refl (refl, refl) in
        let rel : Longer (fixed F []) ps s.store (push ps v F) (push ps v []) = renamed (fixed F []) (push_front ps v [] F ∙ ap (λ z. push ps v [] ++ z) (sym (append-nil F))) (sym (append-nil (push ps v []))) rel0 in
        let acts = level_follows W None None P free A (λ below pick B B' r g t t' e. absurd e) n [] [] true ps (code (P f)) (code (P f)) (scoped_moves F (code (P f)) ps scoped) (entered (push ps v F) e s) (entered (push ps v []) e s) (fits rel equal Upon.base) in
        sym (left_same P free A W (λ below pick B B' r g t t' e. absurd e) s acts)

    pub deferred_is_literal : (a : Term) → Mean P free A zero (Defer f a) (DeferLit (P f).params a (code (P f)))
    deferred_is_literal a n j h s = go (Lev P free A n j a s) (Means.grows P free A n j a s)
      where
        go : (r : Result) → Ext s.out (out_of r)
            → Cover P free A s.out (after r (λ v s. Gives [] (record s { defers = (record { frame = push (P f).params v []; body = code (P f) }) ∷ s.defers })) Leaves) (after r (λ v s. Gives [] (record s { defers = (record { frame = push (P f).params v s.frame; body = code (P f) }) ∷ s.defers })) Leaves)
        go (Gives v s1) e = gives (near (more (runs_alike v s1.frame) (each_refl ((Means.runs_refl P free A)) s1.defers))) e
        go (Leaves x s1) e = cov_self P free A (Leaves x s1) e
        go (Cuts o) e = cuts e
