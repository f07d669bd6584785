-- Tables and rules tell alike of each part of a declaration whether a name in it means something else at a use.
use Rattle.std.proofs.Common.{◌≡◌, ◌∙◌, ℕ, Bool, true, false, ◌&&◌, not, List, [], ◌∷◌, ◌++◌, Option, Some, None, refl, sym, ap}
use Rattle.std.specs.Prelude.{if◌then◌else◌}
use Rattle.go_tree.specs.Tree.{NameAt, TypeExpr, named, pointer, slice_type, map_type, struct_type, Fields, no_fields, field, Expr, ident, int_lit, rune_lit, str_lit, composite, selector, index, slice, call, func_lit, type_operand, unary, binary, star}
use Rattle.go_tree.specs.ScopeNames.Means.{means, is_blank}
use Rattle.go_tree.specs.GoTypes.Answers.{given, one_of}
use Rattle.go_tree.specs.GoTypes.Entities.{is_declared_here}
use Rattle.pkg_graph.specs.Package as packages
use Rattle.run_rules.specs.Obstacles.{first_answer, shadowed_meaning, shadowed_name, shadowed_in_type, shadowed_in_fields, shadowed_here}
use Rattle.run_rules.specs.Respanned.{file_with}
use Rattle.run_rules.specs.Run.{here_of}
use Rattle.run_rules.specs.Steps.{At}
use Rattle.run_rules.specs.Surroundings.{Use, Place, Seen, seen, seen_type, seen_stmt, is_local}
use Rattle.run_rules.specs.Sites.{Where, Part, an_expr, a_type_part, named_in, named_in_fields, type_span, outer}
use Rattle.constant_steps.specs.FormImports.ImportLaws.Steps.{names_standing}
use Rattle.member_uses.specs.Agreement.{BlockIsLocal, AgreesAt}
use Rattle.member_uses.specs.Laws.{Knows}
use Rattle.member_uses.specs.Parts.{AtTypes, AtPart, AtParts}
use Rattle.member_uses.specs.Uses.{Names}
use Rattle.shadowed_names.specs.Told.{shadowed_part}
use Rattle.shadowed_names.proofs.Firsts.{one_of_none, first_append, ExprAlike, OldAlike, PartAlike, AllAlike}
use Rattle.shadowed_names.proofs.Meant.{name_is}

split : (x y : Bool) → (x && not y) ≡ true → (x ≡ true) × (y ≡ false)
split true false e = (refl, refl)
split true true e = absurd cc
split false y e = absurd cc

module _ (ps : List (packages.Package At)) (w use_ : Where At) (f g : Names)
    (k : Knows here_of (file_with here_of) ps w f) (named_home : k.names ≡ names_standing ps w)
    (l : Knows here_of (file_with here_of) ps use_ g) (named_there : l.names ≡ names_standing ps use_)
    (q : Place At) (at : ℕ) (b : AgreesAt ps use_ g.table q at) where
  abbrev told : Part At → Option (List ℕ)
  told x = shadowed_part here_of f g at x

  abbrev rule : Seen At → Option (List ℕ)
  rule x = shadowed_here ps w use_ q x

  abbrev at_home : Place At → ℕ → Type 0
  at_home p s = AgreesAt ps w f.table p s

  -- ---- types

  -- the name of a type
  abbrev name_rule : Place At → TypeExpr At → Option (List ℕ)
  name_rule p (named s None n) = shadowed_name ps w use_ q p n.name
  name_rule p t = None

  -- the first in a type is the first among the names in it
  mutual
    in_type : (p : Place At) (t : TypeExpr At) → first_answer (name_rule p) (named_in t) ≡ shadowed_in_type ps w use_ q p t
    in_type p (named s None n) = one_of_none (shadowed_name ps w use_ q p n.name)
    in_type p (named s (Some x) n) = refl
    in_type p (pointer s t) = in_type p t
    in_type p (slice_type s t) = in_type p t
    in_type p (map_type s x t) = first_append (name_rule p) (named_in x) (named_in t) ∙ (λ v. one_of (in_type p x v) (in_type p t v))
    in_type p (struct_type s fs) = in_fields p fs

    in_fields : (p : Place At) (fs : Fields At) → first_answer (name_rule p) (named_in_fields fs) ≡ shadowed_in_fields ps w use_ q p fs
    in_fields p no_fields = refl
    in_fields p (field s n t fs) = first_append (name_rule p) (named_in t) (named_in_fields fs) ∙ (λ v. one_of (in_type p t v) (in_fields p fs v))

  type_is : (p : Place At) (t : TypeExpr At) → at_home p (here_of (type_span t)).start → told (a_type_part t) ≡ name_rule p t
  type_is p (named s None n) a = name_is ps w use_ f g k named_home l named_there q at b n.name p (here_of s).start a
  type_is p (named s (Some x) n) a = refl
  type_is p (pointer s t) a = refl
  type_is p (slice_type s t) a = refl
  type_is p (map_type s x t) a = refl
  type_is p (struct_type s fs) a = refl

  types_are : (p : Place At) (ts : List (TypeExpr At)) → AtTypes here_of at_home p ts → first_answer (λ x. told (a_type_part x)) ts ≡ first_answer (name_rule p) ts
  types_are p [] a = refl
  types_are p (t ∷ ts) a = λ v. one_of (type_is p t a.0 v) (types_are p ts a.1 v)

  -- ---- expressions

  no_name : (p : Place At) (u : Use) (e : Expr At) → told (an_expr e) ≡ None → rule (seen p u e) ≡ None → ExprAlike told rule p u e
  no_name p u e h r = record { a_use = λ m. h ∙ sym r; no_use = λ m. r }

  expr_is : (p : Place At) (u : Use) (e : Expr At) → AtPart here_of at_home (seen p u e) → ExprAlike told rule p u e
  expr_is p u (ident s n) a =
      record {
        a_use = λ m. name_is ps w use_ f g k named_home l named_there q at b n p (here_of s).start a;
        no_use = λ m. absurd cc;
      }
  expr_is p u (int_lit s n) a = no_name p u (int_lit s n) refl refl
  expr_is p u (rune_lit s n) a = no_name p u (rune_lit s n) refl refl
  expr_is p u (str_lit s n) a = no_name p u (str_lit s n) refl refl
  expr_is p u (composite s t es) a = no_name p u (composite s t es) refl refl
  expr_is p u (selector s e n) a = no_name p u (selector s e n) refl refl
  expr_is p u (index s e i) a = no_name p u (index s e i) refl refl
  expr_is p u (slice s e i j) a = no_name p u (slice s e i j) refl refl
  expr_is p u (call s e xs r) a = no_name p u (call s e xs r) refl refl
  expr_is p u (func_lit s x z y) a = no_name p u (func_lit s x z y) refl refl
  expr_is p u (type_operand s t) a = no_name p u (type_operand s t) refl refl
  expr_is p u (unary s o e) a = no_name p u (unary s o e) refl refl
  expr_is p u (binary s o e c) a = no_name p u (binary s o e c) refl refl
  expr_is p u (star s e) a = no_name p u (star s e) refl refl

  -- what is local means nothing outside
  local_none : (p : Place At) (n : List ℕ) (t : Bool) → t ≡ true → given (if t then None else means (outer ps w) n) (shadowed_meaning ps w use_ q n) ≡ None
  local_none p n true e = refl
  local_none p n false e = absurd cc

  old_is : (p : Place At) (e : Expr At) → BlockIsLocal p → OldAlike told rule p e
  old_is p (ident s n) h =
      λ o. let x = split (is_declared_here p.env n) (is_blank n) o in local_none p n (is_local p n) (h n x.0 x.1)
  old_is p (int_lit s n) h = tt
  old_is p (rune_lit s n) h = tt
  old_is p (str_lit s n) h = tt
  old_is p (composite s t es) h = tt
  old_is p (selector s e n) h = tt
  old_is p (index s e i) h = tt
  old_is p (slice s e i j) h = tt
  old_is p (call s e xs r) h = tt
  old_is p (func_lit s x z y) h = tt
  old_is p (type_operand s t) h = tt
  old_is p (unary s o e) h = tt
  old_is p (binary s o e c) h = tt
  old_is p (star s e) h = tt

  part_is : (x : Seen At) → AtPart here_of at_home x → AtPart here_of (λ p s. BlockIsLocal p) x → PartAlike told rule x
  part_is (seen p u e) a h = (expr_is p u e a, old_is p e h)
  part_is (seen_type p t) a h = types_are p (named_in t) a ∙ in_type p t
  part_is (seen_stmt p s) a h = refl

  pub all_are : (xs : List (Seen At)) → AtParts here_of at_home xs → AtParts here_of (λ p s. BlockIsLocal p) xs → AllAlike told rule xs
  all_are [] a h = tt
  all_are (x ∷ xs) a h = (part_is x a.0 h.0, all_are xs a.1 h.1)
