-- Places below the top of a file, what new names do to that, and the types of composite literals there.
use Rattle.std.specs.Prelude.{◌≡◌, refl, ℕ, Bool, true, false, ◌||◌, List, [], ◌∷◌, ◌++◌, Option, Some, None, if◌then◌else◌}
use Rattle.std.specs.List.{list_any}
use mathlib.Core.Path.{ap, ◌∙◌, subst}
use Rattle.std.proofs.Common.{arith}
use Rattle.go_tree.specs.Tree.{Sig, TypeExpr, named, pointer, slice_type, map_type, struct_type, Fields, no_fields, field}
use Rattle.go_tree.specs.ScopeNames.Means.{Environment, means}
use Rattle.go_tree.specs.ScopeNames.FreeNames.{unless_declared, free_type, free_fields, free_type_option, free_params}
use Rattle.go_tree.specs.GoTypes.Answers.{given, both, only_if, is_among}
use Rattle.go_tree.specs.GoTypes.Types.{GoType, pointer_to, slice_of, map_of, struct_of}
use Rattle.go_tree.specs.GoTypes.Defined.{under, has_keys}
use Rattle.go_tree.specs.GoTypes.Entities.{Entity, World, Env, meaning, exported, package_of, type_of_name, Binds, extend, in_block, defined_in}
use Rattle.go_tree.specs.GoTypes.TypeNames.{resolved, resolved_fields, field_before, type_meant, func_type, written_type}
use Rattle.go_tree.specs.GoTypes.Literals.{key_type, inner_type, literal_type}
use Rattle.go_tree.specs.GoTypes.Agreement.{In, head, tail, with_names, Same, On}
use Rattle.go_tree.proofs.GoTypes.Agreeing.{on_first, on_second, name_alike, agrees_in_block, agrees_after, Covers}
use Rattle.go_translation.proofs.SmallAlike as free
use Rattle.field_keys.specs.Below.{AgreesBelow}
use Rattle.field_keys.specs.Looked.{type_above, under_above, under_inner}
use Rattle.field_keys.proofs.Only.{Only, only_means}

-- ---- places

pub below_in_block : {top : Env} {around : List (List ℕ)} {a : Env} {m : Environment Entity} → AgreesBelow top around a m → AgreesBelow top around (in_block a) m
below_in_block g = record { agrees = agrees_in_block g.agrees; outside = g.outside; home = g.home; world = g.world }

-- a name that isn't among those of two lists is among neither
neither : (n : List ℕ) (xs ys : List (List ℕ)) → is_among n (xs ++ ys) ≡ false → (is_among n xs ≡ false) × (is_among n ys ≡ false)
neither n [] ys e = (refl, e)
neither n (x ∷ xs) ys e = go (Rattle.std.specs.Prelude.bytes_eq n x) e (neither n xs ys)
  where
    go : (b : Bool) → (b || is_among n (xs ++ ys)) ≡ false → (is_among n (xs ++ ys) ≡ false → (is_among n xs ≡ false) × (is_among n ys ≡ false)) → ((b || is_among n xs) ≡ false) × (is_among n ys ≡ false)
    go true q f = absurd (grind (arith, q))
    go false q f = f q

pub below_after : {top : Env} (names around : List (List ℕ)) (bs : Binds) (a : Env) (m : Environment Entity) → Covers names bs a → Only names bs → AgreesBelow top around a m → AgreesBelow top (names ++ around) (extend bs a) (bs ++ m)
below_after {top = top} names around bs a m c o g = record { agrees = agrees_after names around bs a m c g.agrees; outside = outside; home = g.home; world = g.world }
  where
    outside : (n : List ℕ) → is_among n (names ++ around) ≡ false → means (bs ++ a.names) n ≡ meaning top n
    outside n e = let q = neither n names around e in only_means names bs a.names n o q.0 ∙ g.outside n q.1

-- ---- names and types

module _ {top : Env} where
  pub name_below : (n : List ℕ) (around : List (List ℕ)) (a : Env) (m : Environment Entity) → AgreesBelow top around a m → On (unless_declared around n) a m → Same a m n
  name_below n around a m g h = name_alike n around a m g.agrees h

  module _ {S : Type 0} where
    pub type_meant-below : (a : Env) (t : TypeExpr S) (m : Environment Entity) (around : List (List ℕ)) → AgreesBelow top around a m → On (free_type around t) a m → type_meant a t ≡ type_meant (with_names a m) t
    type_meant-below a t m around g h = free.type_meant-alike a t m around g.agrees h

    pub written_type-below : (a : Env) (t : Option (TypeExpr S)) (m : Environment Entity) (around : List (List ℕ)) → AgreesBelow top around a m → On (free_type_option around t) a m → written_type a t ≡ written_type (with_names a m) t
    written_type-below a t m around g h = free.written_type-alike a t m around g.agrees h

    pub func_type-below : (a : Env) (s : Sig S) (m : Environment Entity) (around : List (List ℕ)) → AgreesBelow top around a m → On (free_params around s.params) a m → On (free_params around s.results) a m → func_type a s ≡ func_type (with_names a m) s
    func_type-below a s m around g h k = free.func_type-alike a s m around g.agrees h k

-- ---- types of literals

-- what is known of a type at the top of the file is nothing, or what it is
pub data Fits : Option GoType → Option GoType → Type 0 where
  unknown : {u : Option GoType} → Fits None u
  known : {u : Option GoType} → Fits u u

-- no item has the property
any_false : (f : List ℕ → Bool) (xs : List (List ℕ)) → list_any f xs ≡ false → (n : List ℕ) → In n xs → f n ≡ false
any_false f (x ∷ xs) e _ head = by (f x) e
  where
    by : (b : Bool) → (b || list_any f xs) ≡ false → b ≡ false
    by true q = absurd (grind (arith, q))
    by false q = refl
any_false f (x ∷ xs) e n (tail i) = any_false f xs (by (f x) e) n i
  where
    by : (b : Bool) → (b || list_any f xs) ≡ false → list_any f xs ≡ false
    by true q = absurd (grind (arith, q))
    by false q = q
any_false f [] e n i = elim i [ ]

module _ {S : Type 0} (top a : Env) (home : a.home ≡ top.home) (world : a.world ≡ top.world) where
  mutual
    resolved-above : (t : TypeExpr S) → On (free_type [] t) a top.names → resolved a t ≡ resolved top t
    resolved-above (named _ None n) h = ap type_of_name (h n.name head)
    resolved-above (named _ (Some p) n) h = λ w. given (package_of (h p.name head w)) (λ q. type_of_name (exported (world w) q n.name))
    resolved-above (pointer _ t) h = λ w. given (resolved-above t h w) (λ u. Some (pointer_to u))
    resolved-above (slice_type _ t) h = λ w. given (resolved-above t h w) (λ u. Some (slice_of u))
    resolved-above (map_type _ k t) h = λ w. both (resolved-above k (on_first (free_type [] k) (free_type [] t) a top.names h) w) (resolved-above t (on_second (free_type [] k) (free_type [] t) a top.names h) w) (λ a b. Some (map_of a b))
    resolved-above (struct_type _ fs) h = λ w. given (fields-above fs h w) (λ gs. Some (struct_of gs))

    fields-above : (fs : Fields S) → On (free_fields [] fs) a top.names → resolved_fields a fs ≡ resolved_fields top fs
    fields-above no_fields h = refl
    fields-above (field _ n t fs) h = λ w. both (resolved-above t (on_first (free_type [] t) (free_fields [] fs) a top.names h) w) (fields-above fs (on_second (free_type [] t) (free_fields [] fs) a top.names h) w) (field_before n.name (home w))

  type-above : (t : TypeExpr S) → On (free_type [] t) a top.names → type_meant a t ≡ type_meant top t
  type-above t h = λ w. given (resolved-above t h w) (λ u. only_if (has_keys (world w).defined u) (Some u))

module _ {top : Env} {around : List (List ℕ)} {a : Env} {m : Environment Entity} (g : AgreesBelow top around a m) where
  pub fits_under : {t u : Option GoType} → Fits t u → Fits (under_above top t) (given u (λ u. Some (under (defined_in a) u)))
  fits_under unknown = unknown
  fits_under (known {u = u}) = subst (λ (w : World). Fits (given u (λ t. Some (under w.defined t))) (given u (λ t. Some (under (defined_in a) t)))) g.world known

  pub fits_inside : {t u : Option GoType} → Fits t u → Fits (under_inner top t) (given u (λ u. Some (under (defined_in a) (literal_type (defined_in a) u))))
  fits_inside unknown = unknown
  fits_inside (known {u = u}) =
      subst (λ (w : World). Fits (given u (λ t. Some (under w.defined (literal_type w.defined t)))) (given u (λ t. Some (under (defined_in a) (literal_type (defined_in a) t))))) g.world known

  pub fits_values : {t u : Option GoType} → Fits t u → Fits (given t (inner_type (defined_in top))) (given u (inner_type (defined_in a)))
  fits_values unknown = unknown
  fits_values (known {u = u}) = subst (λ (w : World). Fits (given u (inner_type w.defined)) (given u (inner_type (defined_in a)))) g.world known

  pub fits_keys : {t u : Option GoType} → Fits t u → Fits (given t (key_type (defined_in top))) (given u (key_type (defined_in a)))
  fits_keys unknown = unknown
  fits_keys (known {u = u}) = subst (λ (w : World). Fits (given u (key_type w.defined)) (given u (key_type (defined_in a)))) g.world known

module _ {S : Type 0} {top : Env} {around : List (List ℕ)} {a : Env} {m : Environment Entity} (g : AgreesBelow top around a m) where
  pub fits_type : (t : TypeExpr S) → Fits (type_above top around t) (type_meant a t)
  fits_type t = by (list_any (λ n. is_among n around) (free_type [] t)) refl
    where
      by : (b : Bool) → list_any (λ n. is_among n around) (free_type [] t) ≡ b → Fits (if b then None else type_meant top t) (type_meant a t)
      by true e = unknown
      by false e = subst (λ r. Fits r (type_meant a t)) (type-above top a g.home g.world t (λ n i. g.outside n (any_false (λ n. is_among n around) (free_type [] t) e n i))) known

  pub fits_literal : (t : TypeExpr S) → Fits (under_above top (type_above top around t)) (given (type_meant a t) (λ u. Some (under (defined_in a) u)))
  fits_literal t = fits_under g (fits_type t)
