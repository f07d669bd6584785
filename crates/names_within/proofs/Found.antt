-- What a part of a walk adds to the names found, where all identifiers or all binders are wanted.
use Rattle.std.proofs.Common.{◌≡◌, ℕ, List, [], ◌∷◌, ◌++◌, sym, ap, ◌∙◌, subst, append_assoc, append-nil}
use Rattle.name_walks.specs.declared.walk.Wanted.{Wanted}
use Rattle.name_walks.specs.declared.walk.Wanted.TheVariants.{Identifiers, Binders}
use Rattle.name_walks.specs.declared.walk.Nesting.{Nesting}
use Rattle.name_walks.specs.Walk.{Walk, finding, mention_in, use_in, bind_in, mention, used, bind, leave}
use Rattle.names_within.proofs.Kept.{Kept}

pub record Found (w : Wanted) (s s' : Walk) (names : List (List ℕ)) : Type 0 where
  pub wanted : s'.wanted ≡ w
  pub found : s'.found ≡ s.found ++ names

pub none : {w : Wanted} (s : Walk) → s.wanted ≡ w → Found w s s []
none s e = record { wanted = e; found = sym (append-nil s.found) }

pub joined : {w : Wanted} {s s1 s2 : Walk} {n m : List (List ℕ)} → Found w s s1 n → Found w s1 s2 m → Found w s s2 (n ++ m)
joined {s = s} {n = n} {m = m} p q = record { wanted = q.wanted; found = q.found ∙ ap (λ xs. xs ++ m) p.found ∙ append_assoc s.found n m }

-- a part that adds nothing
pub quiet : {w : Wanted} {s s1 s2 : Walk} {n : List (List ℕ)} → s2 ≡ s1 → Found w s s1 n → Found w s s2 n
quiet {w = w} {s = s} {n = n} e p = subst (λ t. Found w s t n) (sym e) p

pub further : {w : Wanted} {s s1 s2 : Walk} {n : List (List ℕ)} → Found w s s1 n → Kept s1 s2 → Found w s s2 n
further p q = record { wanted = q.wanted ∙ p.wanted; found = q.found ∙ p.found }

pub left_at : {w : Wanted} {s s' : Walk} {n : List (List ℕ)} (mark : Nesting) → Found w s s' n → Found w s (leave mark s') n
unfolding leave
left_at mark p = record { wanted = p.wanted; found = p.found }

pub found_by : (w : Wanted) (n : List ℕ) (s t : Walk) → s.wanted ≡ w → t ≡ finding n s → Found w s t (n ∷ [])
found_by w n s t e eq = record { wanted = ap (λ r. r.wanted) eq ∙ e; found = ap (λ r. r.found) eq }

-- ---- where all identifiers are wanted

pub mention-ids : (n : List ℕ) (s : Walk) → s.wanted ≡ Identifiers → Found Identifiers s (mention n s) (n ∷ [])
unfolding mention
mention-ids n s e = found_by Identifiers n s (mention_in s.wanted n s) e (ap (λ w. mention_in w n s) e)

pub used-ids : (n : List ℕ) (s : Walk) → s.wanted ≡ Identifiers → Found Identifiers s (used n s) (n ∷ [])
unfolding used
used-ids n s e = found_by Identifiers n s (use_in s.wanted n s) e (ap (λ w. use_in w n s) e)

pub bind-ids : (n : List ℕ) (s : Walk) → s.wanted ≡ Identifiers → Found Identifiers s (bind n s) (n ∷ [])
unfolding bind
bind-ids n s e = found_by Identifiers n s (bind_in s.wanted n s) e (ap (λ w. bind_in w n s) e)

-- ---- where all binders are wanted

pub mention-bin : (n : List ℕ) (s : Walk) → s.wanted ≡ Binders → mention n s ≡ s
unfolding mention
mention-bin n s e = ap (λ w. mention_in w n s) e

pub used-bin : (n : List ℕ) (s : Walk) → s.wanted ≡ Binders → used n s ≡ s
unfolding used
used-bin n s e = ap (λ w. use_in w n s) e

pub bind-bin : (n : List ℕ) (s : Walk) → s.wanted ≡ Binders → Found Binders s (bind n s) (n ∷ [])
unfolding bind
bind-bin n s e = found_by Binders n s (bind_in s.wanted n s) e (ap (λ w. bind_in w n s) e)
