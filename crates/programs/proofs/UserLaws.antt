-- Files that come to those that use the constants of a declaration.
use Rattle.std.proofs.Common.{◌≡◌, ◌∙◌, refl, ap, Bool, true, false, ◌&&◌, ◌||◌, cond, nat_eq, [], ◌∷◌, ◌++◌}
use Rattle.std.proofs.lemmas.Bool.{eqb-true}
use Rattle.std.proofs.lemmas.List.Folds.{list_any-append}
use Rattle.repeated_parts.specs.UseSearch.MarkValues.Tables.{DeclKey, same_key}
use Rattle.programs.specs.Users.{Known, FileKey, same_file, is_user}

both : (a b : Bool) → (a && b) ≡ true → (a ≡ true) × (b ≡ true)
both true b h = (refl, h)
both false b h = absurd cc

pub same_decl : (a b : DeclKey) → same_key a b ≡ true → a ≡ b
same_decl a b e =
    let p = both (nat_eq a.0 b.0) (nat_eq a.1.0 b.1.0 && nat_eq a.1.1 b.1.1) e in
    let q = both (nat_eq a.1.0 b.1.0) (nat_eq a.1.1 b.1.1) p.1 in
    let k : a.0 ≡ b.0 = eqb-true a.0 b.0 p.0 in
    let f : a.1.0 ≡ b.1.0 = eqb-true a.1.0 b.1.0 q.0 in
    let d : a.1.1 ≡ b.1.1 = eqb-true a.1.1 b.1.1 q.1 in
    λ w. (k w, (f w, d w))

pub same_source : (a b : FileKey) → same_file a b ≡ true → a ≡ b
same_source a b e =
    let p = both (nat_eq a.0 b.0) (nat_eq a.1 b.1) e in
    let k : a.0 ≡ b.0 = eqb-true a.0 b.0 p.0 in
    let f : a.1 ≡ b.1 = eqb-true a.1 b.1 p.1 in
    λ w. (k w, f w)

module _ (k : DeclKey) (f : FileKey) (d : DeclKey) (g : FileKey) (t : Known) where
  abbrev is_it : Bool
  is_it = same_key k d && same_file f g

  or_turned : (a b : Bool) → (a || (b || false)) ≡ (b || a)
  or_turned true true = refl
  or_turned true false = refl
  or_turned false true = refl
  or_turned false false = refl

  there : (b : Bool) → is_it ≡ b → is_user t d g ≡ true → is_user t k f ≡ (b || is_user t k f)
  there true e h =
      let p = both (same_key k d) (same_file f g) e in
      ap (λ (x : DeclKey). is_user t x f) (same_decl k d p.0) ∙ ap (is_user t d) (same_source f g p.1) ∙ h
  there false e h = refl

  -- one more
  pub user_added : (b : Bool) → is_user t d g ≡ b → is_user (cond b t (t ++ (d, g) ∷ [])) k f ≡ (is_it || is_user t k f)
  user_added true h = there is_it refl h
  user_added false h = list_any-append (λ e. same_key k e.0 && same_file f e.1) t ((d, g) ∷ []) ∙ or_turned (is_user t k f) is_it
