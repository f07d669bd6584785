-- The law of frames: a term acts as in the front of the frame that holds its names, and as behind names that it doesn't use.
use Rattle.std.proofs.Common.{◌≡◌, ℕ, List, [], ◌++◌, Bool, true, false, None, refl, sym, ap, ◌∙◌, subst}
use Rattle.std.proofs.lemmas.List.{append-nil}
use Rattle.go_kernel.specs.Kernel.{Name, FuncName, Term, Frame, Store, State, Program}
use Rattle.go_kernel.specs.Scope.{names, has, Free, Scoped}
use Rattle.go_kernel.specs.Alike.{Alike, reframed}
use Rattle.go_kernel.proofs.FrameFacts.{empty_names}
use Rattle.go_kernel.proofs.FreeNames.{free_moves}
use Rattle.go_kernel.proofs.Inserted
use Rattle.go_kernel.proofs.Inserted.{Longer, inserted, way, fixed, in_front}
use Rattle.go_kernel.proofs.Means.{Lev, ends_alike, grows, reframed_self}
use Rattle.go_kernel.proofs.WithinProgram.{Moves, Upon, fits, equal, chain_follows}

pub scoped_moves : (F : Frame) (t : Term) (g : List Name) → Scoped g t → Moves (way (fixed F [])) None None true g t t
scoped_moves F t g q = free_moves (way (fixed F [])) None None (λ o. tt) tt (λ x. ⊥) (λ g x h. Inserted.bound h) (λ g x h. Inserted.bound h) (λ g x h e. absurd e) (λ g x h e. absurd e) t g q

apart_moves : (ys : Frame) (t : Term) → Free (λ x. has x (names ys) ≡ false) [] t → Moves (way (in_front ys)) None None true [] t t
apart_moves ys t q = free_moves (way (in_front ys)) None None (λ o. tt) tt (λ x. has x (names ys) ≡ false) (λ g x h. Inserted.bound h) (λ g x h. Inserted.bound h) (λ g x h e. Inserted.other h e) (λ g x h e. Inserted.other h e tt) t [] q

module _ (P : Program) (free : FuncName → Bool) (A n j : ℕ) (t : Term) (s : State) where
  pub acts_in_front : (F : Frame) → Scoped (names s.frame) t → Alike P free A s.out (Lev P free A n j t (record s { frame = s.frame ++ F })) (reframed (λ f. f ++ F) (Lev P free A n j t s))
  acts_in_front F q =
      let W = way (fixed F []) in
      let long : State = record s { frame = s.frame ++ F } in
      let rel0 : Longer (fixed F []) (names s.frame) s.store (s.frame ++ (F ++ [])) (s.frame ++ []) = inserted s.frame F [] refl refl (refl, refl) in
      let rel : Longer (fixed F []) (names s.frame) s.store (s.frame ++ F) s.frame = Inserted.renamed (fixed F []) (ap (λ z. s.frame ++ z) (sym (append-nil F))) (sym (append-nil s.frame)) rel0 in
      let acts = chain_follows W None None P free A (λ below pick B B' r g t t' e. absurd e) n j s.defers s.defers true (names s.frame) t t (scoped_moves F t (names s.frame) q) long s (fits rel equal Upon.base) in
      let ends = ends_alike P free A W (λ below pick B B' r g t t' e. absurd e) (names s.frame) (λ f. f) (λ f. f ++ F) joins acts (grows P free A n j t long) in
      subst (λ r. Alike P free A s.out r (reframed (λ f. f ++ F) (Lev P free A n j t s))) (reframed_self (Lev P free A n j t long)) ends
    where
      joins : (f f' : Frame) (c : Store) → Longer (fixed F []) (names s.frame) c f f' → f ≡ f' ++ F
      joins _ _ c (inserted zs ys G e i q) = ap (λ y. zs ++ (y ++ G)) q.0 ∙ ap (λ y. zs ++ (F ++ y)) q.1 ∙ ap (λ y. zs ++ y) (append-nil F) ∙ sym (ap (λ y. (zs ++ y) ++ F) q.1 ∙ ap (λ y. y ++ F) (append-nil zs))

  pub acts_behind : (ys : Frame) → Free (λ x. has x (names ys) ≡ false) [] t → Alike P free A s.out (Lev P free A n j t (record s { frame = ys ++ s.frame })) (reframed (λ f. ys ++ f) (Lev P free A n j t s))
  acts_behind ys q =
      let W = way (in_front ys) in
      let long : State = record s { frame = ys ++ s.frame } in
      let acts = chain_follows W None None P free A (λ below pick B B' r g t t' e. absurd e) n j s.defers s.defers true [] t t (apart_moves ys t q) long s (fits (inserted [] ys s.frame refl refl (refl, tt)) equal Upon.base) in
      let ends = ends_alike P free A W (λ below pick B B' r g t t' e. absurd e) [] (λ f. f) (λ f. ys ++ f) joins acts (grows P free A n j t long) in
      subst (λ r. Alike P free A s.out r (reframed (λ f. ys ++ f) (Lev P free A n j t s))) (reframed_self (Lev P free A n j t long)) ends
    where
      joins : (f f' : Frame) (c : Store) → Longer (in_front ys) [] c f f' → f ≡ ys ++ f'
      joins _ _ c (inserted zs ys' G e i q) = let none = empty_names zs e in ap (λ z. z ++ (ys' ++ G)) none ∙ ap (λ y. y ++ G) q.0 ∙ sym (ap (λ z. ys ++ (z ++ G)) none)
