-- Lists of marks that give way to one another, part by part.
use Rattle.std.proofs.Common.{◌≡◌, ◌⊎◌, inl, inr, refl, sym, ◌∙◌, subst, Bool, true, false, ◌||◌, List, [], ◌∷◌, ◌++◌}
use Rattle.std.proofs.lemmas.Bool.{or_left, or_right}
use Rattle.pkg_graph.specs.Package.{Package}
use Rattle.run_rules.specs.Sites.{MarkRef, same_mark, is_among_marks}
use Rattle.run_rules.specs.Cycles.{LeadsTo}
use Rattle.order_runs.specs.CycleLaws.PutCalls.{GivesWayAmong}

or_true : (a b : Bool) → (a || b) ≡ true → (a ≡ true) ⊎ (b ≡ true)
or_true true b h = inl refl
or_true false b h = inr h

or_assoc : (a b c : Bool) → (a || (b || c)) ≡ ((a || b) || c)
or_assoc true b c = refl
or_assoc false b c = refl

among_both : (x : MarkRef) (xs ys : List MarkRef) → is_among_marks (xs ++ ys) x ≡ (is_among_marks xs x || is_among_marks ys x)
among_both x [] ys = refl
among_both x (y ∷ xs) ys = (λ w. same_mark x y || among_both x xs ys w) ∙ or_assoc (same_mark x y) (is_among_marks xs x) (is_among_marks ys x)

in_either : (x : MarkRef) (xs ys : List MarkRef) → is_among_marks (xs ++ ys) x ≡ true → (is_among_marks xs x ≡ true) ⊎ (is_among_marks ys x ≡ true)
in_either x xs ys h = or_true (is_among_marks xs x) (is_among_marks ys x) (sym (among_both x xs ys) ∙ h)

in_first : (x : MarkRef) (xs ys : List MarkRef) → is_among_marks xs x ≡ true → is_among_marks (xs ++ ys) x ≡ true
in_first x xs ys h = among_both x xs ys ∙ or_left (is_among_marks xs x) (is_among_marks ys x) h

in_last : (x : MarkRef) (xs ys : List MarkRef) → is_among_marks ys x ≡ true → is_among_marks (xs ++ ys) x ≡ true
in_last x xs ys h = among_both x xs ys ∙ or_right (is_among_marks xs x) (is_among_marks ys x) h

module _ {S : Type 0} {ps : List (Package S)} {marks : List MarkRef} {a m : MarkRef} where
  pub gives-same : (xs : List MarkRef) → GivesWayAmong ps marks a m xs xs
  gives-same xs = record { stays = λ b h. inl h; comes = λ b h. inl h }

  pub gives-by : {xs ys : List MarkRef} → xs ≡ ys → GivesWayAmong ps marks a m xs ys
  gives-by {xs = xs} e = subst (λ (z : List MarkRef). GivesWayAmong ps marks a m xs z) e (gives-same xs)

  pub gives-eq : {xs ys zs : List MarkRef} → xs ≡ ys → GivesWayAmong ps marks a m ys zs → GivesWayAmong ps marks a m xs zs
  gives-eq {zs = zs} e h = subst (λ (z : List MarkRef). GivesWayAmong ps marks a m z zs) (sym e) h

  pub gives-then : {xs ys zs : List MarkRef} → GivesWayAmong ps marks a m xs ys → ys ≡ zs → GivesWayAmong ps marks a m xs zs
  gives-then {xs = xs} h e = subst (λ (z : List MarkRef). GivesWayAmong ps marks a m xs z) e h

  pub gives-app : {xs ys us vs : List MarkRef} → GivesWayAmong ps marks a m xs ys → GivesWayAmong ps marks a m us vs → GivesWayAmong ps marks a m (xs ++ us) (ys ++ vs)
  gives-app {xs = xs} {ys = ys} {us = us} {vs = vs} h k = record {
    stays = λ b e. still b (in_either b ys vs e);
    comes = λ b e. came b (in_either b xs us e);
  }
    where
      first_so : (b : MarkRef) → (is_among_marks xs b ≡ true) ⊎ (b ≡ m) → (is_among_marks (xs ++ us) b ≡ true) ⊎ (b ≡ m)
      first_so b (inl e) = inl (in_first b xs us e)
      first_so b (inr e) = inr e

      last_so : (b : MarkRef) → (is_among_marks us b ≡ true) ⊎ (b ≡ m) → (is_among_marks (xs ++ us) b ≡ true) ⊎ (b ≡ m)
      last_so b (inl e) = inl (in_last b xs us e)
      last_so b (inr e) = inr e

      still : (b : MarkRef) → (is_among_marks ys b ≡ true) ⊎ (is_among_marks vs b ≡ true) → (is_among_marks (xs ++ us) b ≡ true) ⊎ (b ≡ m)
      still b (inl e) = first_so b (h.stays b e)
      still b (inr e) = last_so b (k.stays b e)

      first_was : (b : MarkRef) → (is_among_marks ys b ≡ true) ⊎ (LeadsTo ps marks a m × LeadsTo ps marks m b) → (is_among_marks (ys ++ vs) b ≡ true) ⊎ (LeadsTo ps marks a m × LeadsTo ps marks m b)
      first_was b (inl e) = inl (in_first b ys vs e)
      first_was b (inr e) = inr e

      last_was : (b : MarkRef) → (is_among_marks vs b ≡ true) ⊎ (LeadsTo ps marks a m × LeadsTo ps marks m b) → (is_among_marks (ys ++ vs) b ≡ true) ⊎ (LeadsTo ps marks a m × LeadsTo ps marks m b)
      last_was b (inl e) = inl (in_last b ys vs e)
      last_was b (inr e) = inr e

      came : (b : MarkRef) → (is_among_marks xs b ≡ true) ⊎ (is_among_marks us b ≡ true) → (is_among_marks (ys ++ vs) b ≡ true) ⊎ (LeadsTo ps marks a m × LeadsTo ps marks m b)
      came b (inl e) = first_was b (h.comes b e)
      came b (inr e) = last_was b (k.comes b e)
