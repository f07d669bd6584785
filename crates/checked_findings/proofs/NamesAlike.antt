-- What types, declared names and the left sides of statements are in two environments in which the free names mean the
-- same.
use Rattle.std.specs.Prelude.{◌≡◌, refl, ℕ, Bool, true, false, List, [], ◌∷◌, ◌++◌, map, Option, Some, None}
use Rattle.std.specs.Prelude.{if◌then◌else◌}
use mathlib.Core.Path.{ap}
use Rattle.std.proofs.Common.{arith}
use Rattle.go_tree.specs.Tree.{NameAt, Param, Sig, TypeExpr, Exprs, RangeLeft, nothing, assigns, defines, ValueSpecs}
use Rattle.go_tree.specs.Tree.{spec}
use Rattle.go_tree.specs.ScopeNames.Means.{Environment, means}
use Rattle.go_tree.specs.ScopeNames.FreeNames.{names_of, free_type, free_type_option, free_params, free_exprs}
use Rattle.go_tree.specs.ScopeNames.FreeNames.{free_left, free_specs}
use Rattle.go_tree.specs.GoTypes.Answers.{given, both, only_if, is_among}
use Rattle.go_tree.specs.GoTypes.Types.{GoType}
use Rattle.go_tree.specs.GoTypes.Defined.{has_keys}
use Rattle.go_tree.specs.GoTypes.Entities.{Entity, Env, Binds, defined_in, extend, meaning, is_declared_here}
use Rattle.go_tree.specs.GoTypes.TypeNames.{type_meant, params_meant, func_type, written_type}
use Rattle.go_tree.specs.GoTypes.Operands.{Operand}
use Rattle.go_tree.specs.GoTypes.Declarations.{binds_or, Repeated, nothing_to_repeat}
use Rattle.go_tree.specs.GoTypes.Bodies.{no_values}
use Rattle.go_tree.specs.GoTypes.Typing.{all_parts, own_or_repeated}
use Rattle.go_tree.specs.GoTypes.Agreement.{In, head, tail, with_names, On, Agrees}
use Rattle.go_tree.proofs.GoTypes.Agreeing.{among_right, on_first, on_second, under_same, Covers, of_covers}
use Rattle.go_tree.proofs.GoTypes.TypingAlike.{Again, Repeats, resolved-alike, all_parts-alike, targets-alike}
use Rattle.checked_findings.specs.Asking.{stored_asks, only_target, variable_type, defined_types, over_asks}

impossible : {A B : Type 0} {x : B} → None ≡ Some x → A
impossible e = grind arith

-- names that are bound, or refused
pub or_covers : (names : List (List ℕ)) (r : Option Binds) (k : Env) → ((bs : Binds) → r ≡ Some bs → Covers names bs k)
    →
    Covers names (binds_or names r) k
or_covers names None k f = of_covers names None k (λ d e. impossible e)
or_covers names (Some bs) k f = f bs refl

-- names mean the same behind new ones
pub kept : (ns : List (List ℕ)) (bs : Binds) (a : Env) (m : Environment Entity) → On ns a m → On ns (extend bs a) (bs ++
    m)
kept ns bs a m h n i = under_same n bs a.names m (h n i)

pub append_in_turn : (xs ys zs : List (List ℕ)) → (xs ++ ys) ++ zs ≡ xs ++ (ys ++ zs)
append_in_turn [] ys zs = refl
append_in_turn (x ∷ xs) ys zs = ap (λ l. x ∷ l) (append_in_turn xs ys zs)

pub with_iota : (base : List (List ℕ)) (a : Env) (m : Environment Entity) (i : ℕ) → Agrees base a m →
    Agrees base (record a { iota = Some i }) m
with_iota base a m i g = record { bound = g.bound; here = g.here; blank = g.blank }

pub weaker : (names base : List (List ℕ)) (a : Env) (m : Environment Entity) → Agrees (names ++ base) a m → Agrees base
    a m
weaker names base a m g =
    record { bound = λ n e. g.bound n (among_right n names base e); here = g.here; blank = g.blank }

on_both : (ns ms : List (List ℕ)) (a : Env) (m : Environment Entity) → On ns a m → On ms a m → On (ns ++ ms) a m
on_both [] ms a m f h n i = h n i
on_both (x ∷ ns) ms a m f h n head = f n head
on_both (x ∷ ns) ms a m f h n (tail i) = on_both ns ms a m (λ n j. f n (tail j)) h n i

-- ---- what a spec of constants repeats

pub nothing_repeats : (a : Env) (m : Environment Entity) (around : List (List ℕ)) → Agrees around a m →
    Repeats a m nothing_to_repeat
nothing_repeats a m around g =
    record { base = around; free = []; agrees = g; on = λ n i. elim i [ ]; again = λ k l q o. (refl, refl) }

either_repeats : (b : Bool) (a : Env) (m : Environment Entity) (r own : Repeated) → Repeats a m r → Repeats a m own →
    Repeats a m (if b then r else own)
either_repeats true a m r own z y = z
either_repeats false a m r own z y = y

module _ {S : Type 0} where
  -- ---- types

  pub type_meant-alike : (a : Env) (t : TypeExpr S) (m : Environment Entity) (around : List (List ℕ)) → Agrees around a
      m →
      On (free_type around t) a m → type_meant a t ≡ type_meant (with_names a m) t
  type_meant-alike a t m around g h =
      λ w. given (resolved-alike t a m around g h w) (λ u. only_if (has_keys (defined_in a) u) (Some u))

  pub written_type-alike : (a : Env) (t : Option (TypeExpr S)) (m : Environment Entity) (around : List (List ℕ)) →
      Agrees around a m → On (free_type_option around t) a m → written_type a t ≡ written_type (with_names a m) t
  written_type-alike a None m around g h = refl
  written_type-alike a (Some t) m around g h = λ w. given (type_meant-alike a t m around g h w) (λ u. Some (Some u))

  params_meant-alike : (ps : List (Param S)) (a : Env) (m : Environment Entity) (around : List (List ℕ)) → Agrees around
      a m →
      On (free_params around ps) a m → params_meant a ps ≡ params_meant (with_names a m) ps
  params_meant-alike [] a m around g h = refl
  params_meant-alike (p ∷ ps) a m around g h =
      λ w. both (type_meant-alike a p.of m around g (on_first (free_type around p.of) (free_params around ps) a m h) w)
      (params_meant-alike ps a m around g (on_second (free_type around p.of) (free_params around ps) a m h) w)
      (λ y ys. Some (y ∷ ys))

  pub func_type-alike : (a : Env) (s : Sig S) (m : Environment Entity) (around : List (List ℕ)) → Agrees around a m →
      On (free_params around s.params) a m → On (free_params around s.results) a m →
      func_type a s ≡ func_type (with_names a m) s
  func_type-alike a s m around g h k =
      λ w. both (params_meant-alike s.params a m around g h w) (params_meant-alike s.results a m around g k w)
      (λ ts us. Some (record { params = ts; results = us }))

  -- ---- what a spec writes, or repeats

  pub spec_repeats : (a : Env) (m : Environment Entity) (around : List (List ℕ)) (r : Repeated) (t : Option (TypeExpr
      S))
      (es : Exprs S) (ns : List (NameAt S)) (ss : ValueSpecs S) → Agrees around a m → Repeats a m r →
      On (free_type_option around t ++ free_exprs around es ++ free_specs (names_of ns ++ around) ss) a m →
      Repeats a m (own_or_repeated r t es)
  spec_repeats a m around r t es ns ss g z h =
      let first : On (free_type_option around t ++ free_exprs around es) a m =
      on_first (free_type_option around t ++ free_exprs around es) (free_specs (names_of ns ++ around) ss) a m h in
      let own : Repeated = (λ k. written_type k t, λ k. all_parts k es) in
      let mine : Again around (free_type_option around t ++ free_exprs around es) own =
      (λ k l q o. (
        written_type-alike k t l around q (on_first (free_type_option around t) (free_exprs around es) k l o),
        all_parts-alike k es l around q (on_second (free_type_option around t) (free_exprs around es) k l o),
      )) in
      either_repeats (no_values es) a m r own z
      (record {
        base = around;
        free = free_type_option around t ++ free_exprs around es;
        agrees = g;
        on = first;
        again = mine;
      })

  -- ---- what is ranged over

  pub over_asks-alike : (a : Env) (o : Operand) (l : RangeLeft S) (m : Environment Entity) (around : List (List ℕ)) →
      Agrees around a m → On (free_left around l) a m → over_asks a o l ≡ over_asks (with_names a m) o l
  over_asks-alike a o nothing m around g h = refl
  over_asks-alike a o (assigns es) m around g h =
      λ w. stored_asks (defined_in a) (only_target (targets-alike a es m around g h w)) o
  over_asks-alike a o (defines ns) m around g h = refl

-- ---- the names of a short declaration are looked up in the innermost block alone

pub defined_types-alike : (a : Env) (ns : List (List ℕ)) (m : Environment Entity) (around : List (List ℕ)) →
    Agrees around a m → defined_types a ns ≡ defined_types (with_names a m) ns
defined_types-alike a [] m around g = refl
defined_types-alike a (n ∷ ns) m around g = λ w. go (is_declared_here a n) refl w ∷ defined_types-alike a ns m around g
    w
  where
    go : (d : Bool) → is_declared_here a n ≡ d → ◌≡◌ {A = Option GoType}
        (if d then variable_type (meaning a n) else None) (if d then variable_type (means m n) else None)
    go true d = λ w. variable_type (g.here n d w)
    go false d = refl
