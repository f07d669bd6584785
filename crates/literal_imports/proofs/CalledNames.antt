-- Before a call whose function is named behind the name of a package, a walk lists that name, with the same names declared around it: one line a clause of the walk.
use Rattle.std.proofs.Common.{◌≡◌, refl, sym, ap, ◌∙◌, subst, ◌⊎◌, inl, inr, ℕ, suc, Bool, true, false, List, [], ◌∷◌, ◌++◌, Option, Some, None, if◌then◌else◌}
use Rattle.go_tree.specs.declared.exprs.Rest.{Rest}
use Rattle.go_tree.specs.Tree.{NameAt, Param, Sig, TypeExpr, Expr, ident, int_lit, rune_lit, str_lit, composite, selector, index, slice, call, func_lit, type_operand, unary, binary, star, Exprs, no_exprs, expr_and, ExprOption, no_expr, some_expr, Elems, no_elems, elem, Value, plain, braced, ValueOption, no_value, some_value, Stmt, const_decl, var_decl, empty, eval, step, assign, define, return_, break_, continue_, inner, if_, for_, range_, switch, defer, label, Stmts, no_stmts, stmt_and, StmtOption, no_stmt, some_stmt, BlockOption, no_block, some_block, RangeLeft, nothing, assigns, defines, Arms, no_arms, arm, Cases, no_cases, case, ValueSpecs, no_specs, spec}
use Rattle.go_tree.specs.GoTypes.Answers.{given, meets}
use Rattle.go_tree.specs.GoTypes.Types.{GoType}
use Rattle.go_tree.specs.GoTypes.Defined.{under}
use Rattle.go_tree.specs.GoTypes.Entities.{defined_in}
use Rattle.go_tree.specs.GoTypes.TypeNames.{type_meant}
use Rattle.go_tree.specs.GoTypes.Literals.{is_struct}
use Rattle.go_tree.specs.GoTypes.Typing.{parts, all_parts}
use Rattle.go_tree.specs.GoTypes.Declarations.{Repeated, nothing_to_repeat}
use Rattle.run_rules.specs.Surroundings.{Use, stored, called, other, a_slot, Place, Seen, seen, seen_type, seen_stmt, inner_slot, in_slot, callee_place, arg_uses, after_stmt, after_first, block, plain_slot, in_literal, repeated_by, after_constants, after_variables, is_old}
use Rattle.run_rules.specs.Places.{type_seen, written_seen, params_seen, sig_seen, old_seen, after_arms, expr_seen, all_seen, option_seen, elems_seen, key_seen, value_seen, stmt_seen, stmts_seen, first_seen, block_seen, left_seen, arms_seen, cases_seen, constants_seen, variables_seen}
use Rattle.constant_steps.specs.WrittenLiteral.Fine.{is_call}
use Rattle.order_runs.proofs.RunSteps.SeatedUses.{Among, first}
use Rattle.constant_modules.proofs.CountedUses.Lists.{one-or, among-either}
use Rattle.constant_modules.proofs.LookUps.Walk.{among-front, among-back}

module _ {S : Type 0} where
  -- a name stands among these parts, with the names of a place declared around it
  pub record NamedThere (p : Place S) (q : List ℕ) (xs : List (Seen S)) : Type 0 where
    pub place : Place S
    pub use_ : Use
    pub span : S
    pub same_bound : place.bound ≡ p.bound
    pub listed : Among (seen place use_ (ident span q)) xs

  front : {p : Place S} {q : List ℕ} {xs : List (Seen S)} (ys : List (Seen S)) → NamedThere p q xs → NamedThere p q (xs ++ ys)
  front ys n = record { place = n.place; use_ = n.use_; span = n.span; same_bound = n.same_bound; listed = among-front ys n.listed }

  back : {p : Place S} {q : List ℕ} (xs : List (Seen S)) {ys : List (Seen S)} → NamedThere p q ys → NamedThere p q (xs ++ ys)
  back xs n = record { place = n.place; use_ = n.use_; span = n.span; same_bound = n.same_bound; listed = among-back xs n.listed }

  -- where a call names its function behind the name of a package, that name stands there
  pub record AllNamed (xs : List (Seen S)) : Type 0 where
    pub each :
        (p : Place S) (u : Use) (s t z : S) (q : List ℕ) (n : NameAt S) (es : Exprs S) (r : Rest) →
        Among (seen p u (call s (selector t (ident z q) n) es r)) xs → NamedThere p q xs

  nothing_there : AllNamed []
  nothing_there = record { each = λ p u s t z q n es r i. elim i [ ] }

  join : (xs ys : List (Seen S)) → AllNamed xs → AllNamed ys → AllNamed (xs ++ ys)
  join xs ys a b = record { each = λ p u s t z q n es r i. by p u s t z q n es r (among-either (seen p u (call s (selector t (ident z q) n) es r)) xs ys i) }
    where
      by : (p : Place S) (u : Use) (s t z : S) (q : List ℕ) (n : NameAt S) (es : Exprs S) (r : Rest) → Among (seen p u (call s (selector t (ident z q) n) es r)) xs ⊎ Among (seen p u (call s (selector t (ident z q) n) es r)) ys → NamedThere p q (xs ++ ys)
      by p u s t z q n es r (inl i) = front ys (a.each p u s t z q n es r i)
      by p u s t z q n es r (inr i) = back xs (b.each p u s t z q n es r i)

  -- ---- parts that are no calls

  abbrev is_called : Seen S → Bool
  is_called (seen p u y) = is_call y
  is_called y = false

  no_call : (x : Seen S) → is_called x ≡ false → AllNamed (x ∷ [])
  no_call x e = record { each = λ p u s t z q n es r i. one-or i (λ f. let no : true ≡ false = ap is_called f ∙ e in absurd cc) (λ j. elim j [ ]) }

  one : (p : Place S) (u : Use) (y : Expr S) → is_call y ≡ false → AllNamed (seen p u y ∷ [])
  one p u y e = no_call (seen p u y) e

  a_type : (p : Place S) (t : TypeExpr S) → AllNamed (seen_type p t ∷ [])
  a_type p t = no_call (seen_type p t) refl

  a_stmt : (p : Place S) (s : Stmt S) → AllNamed (seen_stmt p s ∷ [])
  a_stmt p s = no_call (seen_stmt p s) refl

  -- ---- a call, behind what it calls and its arguments

  abbrev place_in : Place S → Seen S → Place S
  place_in d (seen p u y) = p
  place_in d y = d

  abbrev called_in : Expr S → Seen S → Expr S
  called_in d (seen p u (call s f es r)) = f
  called_in d y = d

  -- the name stands in what is called
  in_called : (p : Place S) (s : S) (f : Expr S) (es : Exprs S) (r : Rest) (t z : S) (q : List ℕ) (n : NameAt S) → selector t (ident z q) n ≡ f → NamedThere p q (expr_seen (callee_place (inner_slot p.slot (call s f es r) 7 true false) f p) called f)
  in_called p s f es r t z q n e =
      subst (λ (f : Expr S). NamedThere p q (expr_seen (callee_place (inner_slot p.slot (call s f es r) 7 true false) f p) called f)) e
      (record { place = _; use_ = other; span = z; same_bound = refl; listed = first })

  before_call : (p : Place S) (u : Use) (s : S) (f : Expr S) (es : Exprs S) (r : Rest) (ys : List (Seen S)) → AllNamed (expr_seen (callee_place (inner_slot p.slot (call s f es r) 7 true false) f p) called f ++ ys)
      → AllNamed ((expr_seen (callee_place (inner_slot p.slot (call s f es r) 7 true false) f p) called f ++ ys) ++ seen p u (call s f es r) ∷ [])
  before_call p u s f es r ys a = record { each = λ p' u' s' t z q n es' r' i. by p' u' s' t z q n es' r' (among-either (seen p' u' (call s' (selector t (ident z q) n) es' r')) (its ++ ys) (itself ∷ []) i) }
    where
      its : List (Seen S)
      its = expr_seen (callee_place (inner_slot p.slot (call s f es r) 7 true false) f p) called f

      itself : Seen S
      itself = seen p u (call s f es r)

      own : (p' : Place S) (u' : Use) (s' t z : S) (q : List ℕ) (n : NameAt S) (es' : Exprs S) (r' : Rest) → seen p' u' (call s' (selector t (ident z q) n) es' r') ≡ itself → NamedThere p' q ((its ++ ys) ++ itself ∷ [])
      own p' u' s' t z q n es' r' e =
          subst (λ (v : Place S). NamedThere v q ((its ++ ys) ++ itself ∷ [])) (sym (ap (place_in p) e))
          (front (itself ∷ []) (front ys (in_called p s f es r t z q n (ap (called_in f) e))))

      by : (p' : Place S) (u' : Use) (s' t z : S) (q : List ℕ) (n : NameAt S) (es' : Exprs S) (r' : Rest) → Among (seen p' u' (call s' (selector t (ident z q) n) es' r')) (its ++ ys) ⊎ Among (seen p' u' (call s' (selector t (ident z q) n) es' r')) (itself ∷ []) → NamedThere p' q ((its ++ ys) ++ itself ∷ [])
      by p' u' s' t z q n es' r' (inl i) = front (itself ∷ []) (a.each p' u' s' t z q n es' r' i)
      by p' u' s' t z q n es' r' (inr i) = one-or i (own p' u' s' t z q n es' r') (λ j. elim j [ ])

  -- ---- types and names

  params_named : (p : Place S) (xs : List (Param S)) → AllNamed (params_seen p xs)
  params_named p [] = nothing_there
  params_named p (x ∷ xs) = join (seen_type p x.of ∷ []) (params_seen p xs) (a_type p x.of) (params_named p xs)

  sig_named : (p : Place S) (g : Sig S) → AllNamed (sig_seen p g)
  sig_named p g = join (params_seen p g.params) (params_seen p g.results) (params_named p g.params) (params_named p g.results)

  written_named : (p : Place S) (t : Option (TypeExpr S)) → AllNamed (written_seen p t)
  written_named p None = nothing_there
  written_named p (Some t) = a_type p t

  old_named : (p : Place S) (ns : List (NameAt S)) → AllNamed (old_seen p ns)
  old_named p [] = nothing_there
  old_named p (n ∷ ns) = go (is_old p n) (old_named p ns)
    where
      go : (b : Bool) → AllNamed (old_seen p ns) → AllNamed (if b then seen p stored (ident n.span n.name) ∷ old_seen p ns else old_seen p ns)
      go true h = join (seen p stored (ident n.span n.name) ∷ []) (old_seen p ns) (one p stored (ident n.span n.name) refl) h
      go false h = h

  unless_named : (b : Bool) (xs : List (Seen S)) → AllNamed xs → AllNamed (if b then [] else xs)
  unless_named true xs h = nothing_there
  unless_named false xs h = h

  mutual
    expr_named : (x : Expr S) (p : Place S) (u : Use) → AllNamed (expr_seen p u x)
    expr_named (ident s n) p u = one p u (ident s n) refl
    expr_named (int_lit s n) p u = one p u (int_lit s n) refl
    expr_named (rune_lit s n) p u = one p u (rune_lit s n) refl
    expr_named (str_lit s n) p u = one p u (str_lit s n) refl
    expr_named (composite s t es) p u =
        join (type_seen p t ++ elems_seen (in_slot (a_slot 1 false false) p) (given (type_meant p.env t) (λ u. Some (under (defined_in p.env) u))) 0 es) (seen p u (composite s t es) ∷ [])
        (join (type_seen p t) (elems_seen (in_slot (a_slot 1 false false) p) (given (type_meant p.env t) (λ u. Some (under (defined_in p.env) u))) 0 es) (a_type p t)
        (elems_named es (in_slot (a_slot 1 false false) p) (given (type_meant p.env t) (λ u. Some (under (defined_in p.env) u))) 0))
        (one p u (composite s t es) refl)
    expr_named (selector s b n) p u = join _ _ (expr_named b _ _) (one p u (selector s b n) refl)
    expr_named (index s b i) p u = join _ _ (join _ _ (expr_named b _ _) (expr_named i _ _)) (one p u (index s b i) refl)
    expr_named (slice s b i j) p u = join _ _ (join _ _ (join _ _ (expr_named b _ _) (option_named i _)) (option_named j _)) (one p u (slice s b i j) refl)
    expr_named (call s f xs r) p u =
        before_call p u s f xs r (all_seen (in_slot (a_slot 1 false true) p) (arg_uses p.env (parts p.env f) (all_parts p.env xs)) xs)
        (join _ _ (expr_named f (callee_place (inner_slot p.slot (call s f xs r) 7 true false) f p) called)
        (all_exprs_named xs (in_slot (a_slot 1 false true) p) (arg_uses p.env (parts p.env f) (all_parts p.env xs))))
    expr_named (func_lit s g z b) p u = join _ _ (join _ _ (sig_named p g) (stmts_named b (in_literal p g))) (one p u (func_lit s g z b) refl)
    expr_named (type_operand s t) p u = join (type_seen p t) (seen p u (type_operand s t) ∷ []) (a_type p t) (one p u (type_operand s t) refl)
    expr_named (unary s o e) p u = join _ _ (expr_named e _ _) (one p u (unary s o e) refl)
    expr_named (binary s o a b) p u = join _ _ (join _ _ (expr_named a _ _) (expr_named b _ _)) (one p u (binary s o a b) refl)
    expr_named (star s e) p u = join _ _ (expr_named e _ _) (one p u (star s e) refl)

    all_exprs_named : (x : Exprs S) (p : Place S) (us : List Use) → AllNamed (all_seen p us x)
    all_exprs_named no_exprs p us = nothing_there
    all_exprs_named (expr_and e es) p us = join _ _ (expr_named e _ _) (all_exprs_named es p _)

    option_named : (x : ExprOption S) (p : Place S) → AllNamed (option_seen p x)
    option_named no_expr p = nothing_there
    option_named (some_expr e) p = expr_named e p _

    elems_named : (x : Elems S) (p : Place S) (u : Option GoType) (i : ℕ) → AllNamed (elems_seen p u i x)
    elems_named no_elems p u i = nothing_there
    elems_named (elem s k v es) p u i = join _ _ (join _ _ (key_named k p u) (value_named v _ _)) (elems_named es p u (suc i))

    key_named : (x : ValueOption S) (p : Place S) (u : Option GoType) → AllNamed (key_seen p u x)
    key_named no_value p u = nothing_there
    key_named (some_value v) p u = unless_named (meets u is_struct) _ (value_named v p _)

    value_named : (x : Value S) (p : Place S) (u : Use) → AllNamed (value_seen p u x)
    value_named (plain e) p u = expr_named e p u
    value_named (braced s es) p u = elems_named es p _ 0

    stmt_named : (x : Stmt S) (p : Place S) (l : Bool) → AllNamed (stmt_seen p l x)
    stmt_named (const_decl s g ss) p l = join _ _ (constants_named ss (plain_slot p) nothing_to_repeat 0) (a_stmt p (const_decl s g ss))
    stmt_named (var_decl s g ss) p l = join _ _ (variables_named ss (plain_slot p)) (a_stmt p (var_decl s g ss))
    stmt_named (empty s) p l = a_stmt p (empty s)
    stmt_named (eval s e) p l = join _ _ (expr_named e _ _) (a_stmt p (eval s e))
    stmt_named (step s e b) p l = join _ _ (expr_named e _ _) (a_stmt p (step s e b))
    stmt_named (assign s xs None ys) p l = join _ _ (join _ _ (all_exprs_named xs _ _) (all_exprs_named ys _ _)) (a_stmt p (assign s xs None ys))
    stmt_named (assign s xs (Some o) ys) p l = join _ _ (join _ _ (all_exprs_named xs _ _) (all_exprs_named ys _ _)) (a_stmt p (assign s xs (Some o) ys))
    stmt_named (define s ns ys) p l = join _ _ (join _ _ (old_named p ns) (all_exprs_named ys _ _)) (a_stmt p (define s ns ys))
    stmt_named (return_ s xs) p l = join _ _ (all_exprs_named xs _ _) (a_stmt p (return_ s xs))
    stmt_named (break_ s n) p l = a_stmt p (break_ s n)
    stmt_named (continue_ s n) p l = a_stmt p (continue_ s n)
    stmt_named (inner s b) p l = join _ _ (stmts_named b (block p)) (a_stmt p (inner s b))
    stmt_named (if_ s bs z) p l = join _ _ (join _ _ (arms_named bs (block p)) (block_named z (after_arms (block p) bs))) (a_stmt p (if_ s bs z))
    stmt_named (for_ s i t q z b) p l =
        join _ _ (join _ _ (join _ _ (join _ _ (first_named i _) (option_named t _)) (first_named q _)) (stmts_named b _)) (a_stmt p (for_ s i t q z b))
    stmt_named (range_ s x e z b) p l = join _ _ (join _ _ (join _ _ (left_named x _) (expr_named e _ _)) (stmts_named b _)) (a_stmt p (range_ s x e z b))
    stmt_named (switch s i t cs) p l =
        join _ _ (join _ _ (join _ _ (first_named i _) (option_named t _)) (cases_named cs _)) (a_stmt p (switch s i t cs))
    stmt_named (defer s e) p l = join _ _ (expr_named e _ _) (a_stmt p (defer s e))
    stmt_named (label s n x) p l = join _ _ (stmt_named x _ _) (a_stmt p (label s n x))

    pub stmts_named : (x : Stmts S) (p : Place S) → AllNamed (stmts_seen p x)
    stmts_named no_stmts p = nothing_there
    stmts_named (stmt_and s ss) p = join _ _ (stmt_named s _ _) (stmts_named ss (after_stmt p s))

    first_named : (x : StmtOption S) (p : Place S) → AllNamed (first_seen p x)
    first_named no_stmt p = nothing_there
    first_named (some_stmt s) p = stmt_named s p _

    block_named : (x : BlockOption S) (p : Place S) → AllNamed (block_seen p x)
    block_named no_block p = nothing_there
    block_named (some_block s b) p = stmts_named b (block p)

    left_named : (x : RangeLeft S) (p : Place S) → AllNamed (left_seen p x)
    left_named nothing p = nothing_there
    left_named (assigns es) p = all_exprs_named es p _
    left_named (defines ns) p = nothing_there

    arms_named : (x : Arms S) (p : Place S) → AllNamed (arms_seen p x)
    arms_named no_arms p = nothing_there
    arms_named (arm s i t z b r) p =
        join _ _ (join _ _ (join _ _ (first_named i _) (expr_named t _ _)) (stmts_named b _)) (arms_named r (block (after_first p i)))

    cases_named : (x : Cases S) (p : Place S) → AllNamed (cases_seen p x)
    cases_named no_cases p = nothing_there
    cases_named (case s es b cs) p = join _ _ (join _ _ (all_exprs_named es _ _) (stmts_named b _)) (cases_named cs p)

    constants_named : (x : ValueSpecs S) (p : Place S) (r : Repeated) (i : ℕ) → AllNamed (constants_seen p r i x)
    constants_named no_specs p r i = nothing_there
    constants_named (spec s ns t es ss) p r i =
        join _ _ (join _ _ (written_named _ t) (all_exprs_named es _ _)) (constants_named ss (after_constants p (repeated_by r t es) i ns) (repeated_by r t es) (suc i))

    variables_named : (x : ValueSpecs S) (p : Place S) → AllNamed (variables_seen p x)
    variables_named no_specs p = nothing_there
    variables_named (spec s ns t es ss) p = join _ _ (join _ _ (written_named p t) (all_exprs_named es _ _)) (variables_named ss (after_variables p ns t es))
