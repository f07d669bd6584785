-- Where a call with the same facts is put in the place of a call that stands once in a body, what is around it stays: one clause a construct.
use Rattle.std.proofs.Common.{◌≡◌, refl, ◌⊎◌, inl, inr, ℕ, suc, ◌+◌, Bool, true, false, List, [], ◌∷◌, ◌++◌, Option, Some, None, if◌then◌else◌}
use Rattle.go_tree.specs.Tree.{NameAt, Param, Sig, TypeExpr, Expr, ident, int_lit, rune_lit, str_lit, composite, selector, index, slice, call, func_lit, type_operand, unary, binary, star, Exprs, no_exprs, expr_and, ExprOption, no_expr, some_expr, Elems, no_elems, elem, Value, plain, braced, ValueOption, no_value, some_value, Stmt, const_decl, var_decl, empty, eval, step, assign, define, return_, break_, continue_, inner, if_, for_, range_, switch, defer, label, Stmts, no_stmts, stmt_and, StmtOption, no_stmt, some_stmt, BlockOption, no_block, some_block, RangeLeft, nothing, assigns, defines, Arms, no_arms, arm, Cases, no_cases, case, ValueSpecs, no_specs, spec}
use Rattle.go_tree.specs.GoWords.Terminals.{level_of}
use Rattle.go_tree.specs.ScopeNames.FreeNames.{names_of}
use Rattle.go_tree.specs.GoTypes.Answers.{given, meets}
use Rattle.go_tree.specs.GoTypes.Bodies.{labelled}
use Rattle.go_tree.specs.GoTypes.Declarations.{Repeated, nothing_to_repeat}
use Rattle.go_tree.specs.GoTypes.Defined.{under}
use Rattle.go_tree.specs.GoTypes.Entities.{defined_in}
use Rattle.go_tree.specs.GoTypes.Literals.{is_struct, literal_type}
use Rattle.go_tree.specs.GoTypes.TypeNames.{type_meant}
use Rattle.go_tree.specs.GoTypes.Types.{GoType}
use Rattle.go_tree.specs.GoTypes.Typing.{parts, all_parts}
use Rattle.pkg_graph.specs.Package.{Package}
use Rattle.typed_in_place.specs.SameFacts.{SameOperand}
use Rattle.run_rules.specs.Forms.{is_at}
use Rattle.run_rules.specs.Places.{type_seen, written_seen, params_seen, sig_seen, old_seen, after_arms, expr_seen, all_seen, option_seen, elems_seen, key_seen, value_seen, stmt_seen, stmts_seen, first_seen, block_seen, left_seen, arms_seen, cases_seen, constants_seen, variables_seen}
use Rattle.run_rules.specs.Sites.{MarkRef, Where, Site, part_span}
use Rattle.run_rules.specs.Steps.{At, same_here}
use Rattle.run_rules.specs.Surroundings.{Use, whole, stored, updated, called, deferred_call, alone, other, a_slot, Place, Seen, seen, seen_type, seen_stmt, alike, into_type, head_use, later_uses, arg_uses, unary_use, operand_use, first_operand_use, right_uses, every_use, value_use, return_uses, elem_use, key_use, inner_slot, last_slot, in_slot, callee_place, comma_slot, elem_closed, after_stmt, after_first, block, looping, switching, in_heading, at_stmt, plain_slot, ranged, in_literal, after_variables, in_constant, before_repeats, after_constants, repeated_by, is_old}
use Rattle.constant_steps.specs.StepLaws.Kept.{NoneAt}
use Rattle.constant_steps.specs.WrittenLiteral.Fine.{is_call}
use Rattle.literal_cycles.specs.Around.{AllStayAround}
use Rattle.literals_in_place.specs.StepsInBodies.Functions.{BlankAlike}
use Rattle.literals_in_place.specs.StepsInBodies.Once.{is_group, AllClear}
use Rattle.literals_in_place.proofs.StepsInBodies.Parted.{without_front, without_back, clear_front, clear_back}
use Rattle.literal_surroundings.proofs.Kept.{Listed, listed_block, listed_after, listed_first, listed_range, listed_arms, listed_literal, listed_callee, c, Known, front, behind, moved, called_stays, statement_stays}

module _ (x : Site At) (tree e : Expr At) (here : is_at same_here (part_span x.part) tree ≡ true) (calls : is_call tree ≡ true) (form : is_call e ≡ true) (facts : SameOperand (names_of x.place.bound) x.place.env tree e) (blank : BlankAlike x.place.env tree e) (ps : List (Package At)) (marks : List MarkRef) (v : Where At) (at : ℕ) (m : MarkRef) where
  abbrev z : At
  z = part_span x.part

  -- ---- lists

  abbrev Stay : List (Seen At) → Type 0
  Stay xs = AllStayAround (c x tree e here calls form facts blank) z tree ps marks v at m xs

  abbrev K : Place At → List (Seen At) → Type 0
  K p xs = Known x tree e here calls form facts blank p xs

  join : (xs ys : List (Seen At)) → Stay xs → Stay ys → Stay (xs ++ ys)
  join [] ys a b = b
  join (y ∷ xs) ys a b = (a.0, join xs ys a.1 b)

  left : (p : Place At) (xs ys : List (Seen At)) → K p (xs ++ ys) → K p xs
  left p xs ys w = front x tree e here calls form facts blank xs ys w

  right : (p : Place At) (xs ys : List (Seen At)) → K p (xs ++ ys) → K p ys
  right p xs ys w = behind x tree e here calls form facts blank xs ys w

  on : (p q : Place At) (xs : List (Seen At)) → (Listed p → Listed q) → K p xs → K q xs
  on p q xs f w = moved x tree e here calls form facts blank p q xs f w

  -- both of two lists
  two : (p : Place At) (xs ys : List (Seen At)) → (K p xs → Stay xs) → (K p ys → Stay ys) → K p (xs ++ ys) → Stay (xs ++ ys)
  two p xs ys f g w = join xs ys (f (left p xs ys w)) (g (right p xs ys w))

  -- where nothing is put
  quiet : (p : Place At) (xs : List (Seen At)) → NoneAt same_here z xs → AllClear same_here x (Unit {0}) xs → K p xs
  quiet p xs n a = record { stands = inl n; clear = a }

  types_stay : (p : Place At) (ts : List (Param At)) → Stay (params_seen p ts)
  types_stay p [] = tt
  types_stay p (t ∷ ts) = (tt, types_stay p ts)

  sig_stays : (p : Place At) (g : Sig At) → Stay (sig_seen p g)
  sig_stays p g = join (params_seen p g.params) (params_seen p g.results) (types_stay p g.params) (types_stay p g.results)

  written_stays : (p : Place At) (t : Option (TypeExpr At)) → Stay (written_seen p t)
  written_stays p None = tt
  written_stays p (Some t) = (tt, tt)

  old_stay : (p : Place At) (ns : List (NameAt At)) → Stay (old_seen p ns)
  old_stay p [] = tt
  old_stay p (n ∷ ns) = go (is_old p n) (old_stay p ns)
    where
      go : (b : Bool) → Stay (old_seen p ns) → Stay (if b then seen p stored (ident n.span n.name) ∷ old_seen p ns else old_seen p ns)
      go true r = (tt, r)
      go false r = r

  key_stays : (p : Place At) (b : Bool) (xs : List (Seen At)) → (K p xs → Stay xs) → K p (if b then [] else xs) → Stay (if b then [] else xs)
  key_stays p true xs f w = tt
  key_stays p false xs f w = f w

  -- an expression behind its parts
  itself : (p : Place At) (u : Use) (y : Expr At) → K p (expr_seen p u y) → Stay (seen p u y ∷ [])
  itself p u y w = (called_stays x tree e here calls form facts blank p u y w, tt)

  -- a statement behind its parts
  done : (p : Place At) (l : Bool) (s : Stmt At) → K p (stmt_seen p l s) → Stay (seen_stmt p s ∷ [])
  done p l s w = (statement_stays x tree e here calls form facts blank ps marks v at m p l s w, tt)

  mutual
    expr_stays : (p : Place At) (u : Use) (y : Expr At) → K p (expr_seen p u y) → Stay (expr_seen p u y)
    expr_stays p u (ident s n) w = (tt, tt)
    expr_stays p u (int_lit s n) w = (tt, tt)
    expr_stays p u (rune_lit s n) w = (tt, tt)
    expr_stays p u (str_lit s n) w = (tt, tt)
    expr_stays p u (composite s t es) w = two p (type_seen p t ++ elems_seen (in_slot (a_slot 1 false false) p) (given (type_meant p.env t) (λ r. Some (under (defined_in p.env) r))) 0 es) (seen p u (composite s t es) ∷ []) (λ k. two p (type_seen p t) (elems_seen (in_slot (a_slot 1 false false) p) (given (type_meant p.env t) (λ r. Some (under (defined_in p.env) r))) 0 es) (λ k. (tt, tt)) (λ k. elems_stay (in_slot (a_slot 1 false false) p) (given (type_meant p.env t) (λ r. Some (under (defined_in p.env) r))) 0 es k) k) (λ k. itself p u (composite s t es) w) w
    expr_stays p u (selector s b n) w = two p (expr_seen (in_slot (inner_slot p.slot (selector s b n) 7 false true) p) other b) (seen p u (selector s b n) ∷ []) (λ k. expr_stays (in_slot (inner_slot p.slot (selector s b n) 7 false true) p) other b k) (λ k. itself p u (selector s b n) w) w
    expr_stays p u (index s b i) w = two p (expr_seen (in_slot (inner_slot p.slot (index s b i) 7 false false) p) other b ++ expr_seen (in_slot (a_slot 1 false false) p) other i) (seen p u (index s b i) ∷ []) (λ k. two p (expr_seen (in_slot (inner_slot p.slot (index s b i) 7 false false) p) other b) (expr_seen (in_slot (a_slot 1 false false) p) other i) (λ k. expr_stays (in_slot (inner_slot p.slot (index s b i) 7 false false) p) other b k) (λ k. expr_stays (in_slot (a_slot 1 false false) p) other i k) k) (λ k. itself p u (index s b i) w) w
    expr_stays p u (slice s b i j) w = two p (expr_seen (in_slot (inner_slot p.slot (slice s b i j) 7 false false) p) other b ++ option_seen (in_slot (a_slot 1 false false) p) i ++ option_seen (in_slot (a_slot 1 false false) p) j) (seen p u (slice s b i j) ∷ []) (λ k. two p (expr_seen (in_slot (inner_slot p.slot (slice s b i j) 7 false false) p) other b ++ option_seen (in_slot (a_slot 1 false false) p) i) (option_seen (in_slot (a_slot 1 false false) p) j) (λ k. two p (expr_seen (in_slot (inner_slot p.slot (slice s b i j) 7 false false) p) other b) (option_seen (in_slot (a_slot 1 false false) p) i) (λ k. expr_stays (in_slot (inner_slot p.slot (slice s b i j) 7 false false) p) other b k) (λ k. option_stays (in_slot (a_slot 1 false false) p) i k) k) (λ k. option_stays (in_slot (a_slot 1 false false) p) j k) k) (λ k. itself p u (slice s b i j) w) w
    expr_stays p u (call s f xs r) w = two p (expr_seen (callee_place (inner_slot p.slot (call s f xs r) 7 true false) f p) called f ++ all_seen (in_slot (a_slot 1 false true) p) (arg_uses p.env (parts p.env f) (all_parts p.env xs)) xs) (seen p u (call s f xs r) ∷ []) (λ k. two p (expr_seen (callee_place (inner_slot p.slot (call s f xs r) 7 true false) f p) called f) (all_seen (in_slot (a_slot 1 false true) p) (arg_uses p.env (parts p.env f) (all_parts p.env xs)) xs) (λ k. expr_stays (callee_place (inner_slot p.slot (call s f xs r) 7 true false) f p) called f (on p (callee_place (inner_slot p.slot (call s f xs r) 7 true false) f p) (expr_seen (callee_place (inner_slot p.slot (call s f xs r) 7 true false) f p) called f) (listed_callee (inner_slot p.slot (call s f xs r) 7 true false) f p) k)) (λ k. all_stay (in_slot (a_slot 1 false true) p) (arg_uses p.env (parts p.env f) (all_parts p.env xs)) xs k) k) (λ k. itself p u (call s f xs r) w) w
    expr_stays p u (func_lit s g r b) w = two p (sig_seen p g ++ stmts_seen (in_literal p g) b) (seen p u (func_lit s g r b) ∷ []) (λ k. two p (sig_seen p g) (stmts_seen (in_literal p g) b) (λ k. sig_stays p g) (λ k. stmts_stay (in_literal p g) b (on p (in_literal p g) (stmts_seen (in_literal p g) b) (listed_literal p g (right p (sig_seen p g ++ stmts_seen (in_literal p g) b) (seen p u (func_lit s g r b) ∷ []) w).clear.0.0) k)) k) (λ k. itself p u (func_lit s g r b) w) w
    expr_stays p u (type_operand s t) w = two p (type_seen p t) (seen p u (type_operand s t) ∷ []) (λ k. (tt, tt)) (λ k. itself p u (type_operand s t) w) w
    expr_stays p u (unary s o d) w = two p (expr_seen (in_slot (last_slot p.slot (unary s o d) 6 (Some o)) p) (unary_use o) d) (seen p u (unary s o d) ∷ []) (λ k. expr_stays (in_slot (last_slot p.slot (unary s o d) 6 (Some o)) p) (unary_use o) d k) (λ k. itself p u (unary s o d) w) w
    expr_stays p u (binary s o a b) w = two p (expr_seen (in_slot (inner_slot p.slot (binary s o a b) (level_of o) false false) p) (operand_use p.env o b) a ++ expr_seen (in_slot (last_slot p.slot (binary s o a b) (level_of o + 1) None) p) (operand_use p.env o a) b) (seen p u (binary s o a b) ∷ []) (λ k. two p (expr_seen (in_slot (inner_slot p.slot (binary s o a b) (level_of o) false false) p) (operand_use p.env o b) a) (expr_seen (in_slot (last_slot p.slot (binary s o a b) (level_of o + 1) None) p) (operand_use p.env o a) b) (λ k. expr_stays (in_slot (inner_slot p.slot (binary s o a b) (level_of o) false false) p) (operand_use p.env o b) a k) (λ k. expr_stays (in_slot (last_slot p.slot (binary s o a b) (level_of o + 1) None) p) (operand_use p.env o a) b k) k) (λ k. itself p u (binary s o a b) w) w
    expr_stays p u (star s d) w = two p (expr_seen (in_slot (last_slot p.slot (star s d) 6 None) p) other d) (seen p u (star s d) ∷ []) (λ k. expr_stays (in_slot (last_slot p.slot (star s d) 6 None) p) other d k) (λ k. itself p u (star s d) w) w

    all_stay : (p : Place At) (us : List Use) (ys : Exprs At) → K p (all_seen p us ys) → Stay (all_seen p us ys)
    all_stay p us no_exprs w = tt
    all_stay p us (expr_and y ys) w = two p (expr_seen (record p { slot = comma_slot p.slot ys }) (head_use us) y) (all_seen p (later_uses us) ys) (λ k. expr_stays (record p { slot = comma_slot p.slot ys }) (head_use us) y k) (λ k. all_stay p (later_uses us) ys k) w

    option_stays : (p : Place At) (y : ExprOption At) → K p (option_seen p y) → Stay (option_seen p y)
    option_stays p no_expr w = tt
    option_stays p (some_expr y) w = expr_stays p other y w

    elems_stay : (p : Place At) (u : Option GoType) (i : ℕ) (es : Elems At) → K p (elems_seen p u i es) → Stay (elems_seen p u i es)
    elems_stay p u i no_elems w = tt
    elems_stay p u i (elem s a d es) w = two p (key_seen p u a ++ value_seen (record p { slot = a_slot 1 false (elem_closed es) }) (elem_use p.env u i a) d) (elems_seen p u (suc i) es) (λ k. two p (key_seen p u a) (value_seen (record p { slot = a_slot 1 false (elem_closed es) }) (elem_use p.env u i a) d) (λ k. keyed_stay p u a k) (λ k. value_stays (record p { slot = a_slot 1 false (elem_closed es) }) (elem_use p.env u i a) d k) k) (λ k. elems_stay p u (suc i) es k) w

    keyed_stay : (p : Place At) (u : Option GoType) (a : ValueOption At) → K p (key_seen p u a) → Stay (key_seen p u a)
    keyed_stay p u no_value w = tt
    keyed_stay p u (some_value d) w = key_stays p (meets u is_struct) (value_seen p (key_use p.env u) d) (λ k. value_stays p (key_use p.env u) d k) w

    value_stays : (p : Place At) (u : Use) (d : Value At) → K p (value_seen p u d) → Stay (value_seen p u d)
    value_stays p u (plain y) w = expr_stays p u y w
    value_stays p u (braced s es) w = elems_stay p (given (into_type u) (λ t. Some (under (defined_in p.env) (literal_type (defined_in p.env) t)))) 0 es w

    stmt_stays : (p : Place At) (l : Bool) (s : Stmt At) → K p (stmt_seen p l s) → Stay (stmt_seen p l s)
    stmt_stays p l (const_decl s g ss) w = two p (constants_seen (plain_slot p) nothing_to_repeat 0 ss) (seen_stmt p (const_decl s g ss) ∷ []) (λ k. constants_stay (plain_slot p) nothing_to_repeat 0 ss (right p (constants_seen (plain_slot p) nothing_to_repeat 0 ss) (seen_stmt p (const_decl s g ss) ∷ []) w).clear.0.0 k.clear) (λ k. done p l (const_decl s g ss) w) w
    stmt_stays p l (var_decl s g ss) w = two p (variables_seen (plain_slot p) ss) (seen_stmt p (var_decl s g ss) ∷ []) (λ k. variables_stay (plain_slot p) ss (right p (variables_seen (plain_slot p) ss) (seen_stmt p (var_decl s g ss) ∷ []) w).clear.0.0 k) (λ k. done p l (var_decl s g ss) w) w
    stmt_stays p l (empty s) w = (tt, tt)
    stmt_stays p l (eval s d) w = two p (expr_seen p (alone l) d) (seen_stmt p (eval s d) ∷ []) (λ k. expr_stays p (alone l) d k) (λ k. done p l (eval s d) w) w
    stmt_stays p l (step s d b) w = two p (expr_seen p updated d) (seen_stmt p (step s d b) ∷ []) (λ k. expr_stays p updated d k) (λ k. done p l (step s d b) w) w
    stmt_stays p l (assign s xs None ys) w = two p (all_seen p (every_use stored xs) xs ++ all_seen p (right_uses p.env xs) ys) (seen_stmt p (assign s xs None ys) ∷ []) (λ k. two p (all_seen p (every_use stored xs) xs) (all_seen p (right_uses p.env xs) ys) (λ k. all_stay p (every_use stored xs) xs k) (λ k. all_stay p (right_uses p.env xs) ys k) k) (λ k. done p l (assign s xs None ys) w) w
    stmt_stays p l (assign s xs (Some o) ys) w = two p (all_seen p (every_use updated xs) xs ++ all_seen p (first_operand_use p.env o xs ∷ []) ys) (seen_stmt p (assign s xs (Some o) ys) ∷ []) (λ k. two p (all_seen p (every_use updated xs) xs) (all_seen p (first_operand_use p.env o xs ∷ []) ys) (λ k. all_stay p (every_use updated xs) xs k) (λ k. all_stay p (first_operand_use p.env o xs ∷ []) ys k) k) (λ k. done p l (assign s xs (Some o) ys) w) w
    stmt_stays p l (define s ns ys) w = two p (old_seen p ns ++ all_seen p (alike whole ns) ys) (seen_stmt p (define s ns ys) ∷ []) (λ k. two p (old_seen p ns) (all_seen p (alike whole ns) ys) (λ k. old_stay p ns) (λ k. all_stay p (alike whole ns) ys k) k) (λ k. done p l (define s ns ys) w) w
    stmt_stays p l (return_ s xs) w = two p (all_seen p (return_uses p.ctx.results xs) xs) (seen_stmt p (return_ s xs) ∷ []) (λ k. all_stay p (return_uses p.ctx.results xs) xs k) (λ k. done p l (return_ s xs) w) w
    stmt_stays p l (break_ s n) w = (tt, tt)
    stmt_stays p l (continue_ s n) w = (tt, tt)
    stmt_stays p l (inner s b) w = two p (stmts_seen (block p) b) (seen_stmt p (inner s b) ∷ []) (λ k. stmts_stay (block p) b (on p (block p) (stmts_seen (block p) b) (listed_block p) k)) (λ k. done p l (inner s b) w) w
    stmt_stays p l (if_ s bs d) w = two p (arms_seen (block p) bs ++ block_seen (after_arms (block p) bs) d) (seen_stmt p (if_ s bs d) ∷ []) (λ k. two p (arms_seen (block p) bs) (block_seen (after_arms (block p) bs) d) (λ k. arms_stay (block p) bs (on p (block p) (arms_seen (block p) bs) (listed_block p) k)) (λ k. block_stays (after_arms (block p) bs) d (on p (after_arms (block p) bs) (block_seen (after_arms (block p) bs) d) (λ o. listed_arms (block p) bs (listed_block p o)) k)) k) (λ k. done p l (if_ s bs d) w) w
    stmt_stays p l (for_ s i t q r b) w = two p (first_seen (in_heading true (block p)) i ++ option_seen (in_heading true (after_first (block p) i)) t ++ first_seen (in_heading true (after_first (block p) i)) q ++ stmts_seen (looping (block (after_first (block p) i))) b) (seen_stmt p (for_ s i t q r b) ∷ []) (λ k. two p (first_seen (in_heading true (block p)) i ++ option_seen (in_heading true (after_first (block p) i)) t ++ first_seen (in_heading true (after_first (block p) i)) q) (stmts_seen (looping (block (after_first (block p) i))) b) (λ k. two p (first_seen (in_heading true (block p)) i ++ option_seen (in_heading true (after_first (block p) i)) t) (first_seen (in_heading true (after_first (block p) i)) q) (λ k. two p (first_seen (in_heading true (block p)) i) (option_seen (in_heading true (after_first (block p) i)) t) (λ k. first_stays (in_heading true (block p)) i (on p (in_heading true (block p)) (first_seen (in_heading true (block p)) i) (listed_block p) k)) (λ k. option_stays (in_heading true (after_first (block p) i)) t (on p (in_heading true (after_first (block p) i)) (option_seen (in_heading true (after_first (block p) i)) t) (λ b. listed_first (block p) i (listed_block p b)) k)) k) (λ k. first_stays (in_heading true (after_first (block p) i)) q (on p (in_heading true (after_first (block p) i)) (first_seen (in_heading true (after_first (block p) i)) q) (λ b. listed_first (block p) i (listed_block p b)) k)) k) (λ k. stmts_stay (looping (block (after_first (block p) i))) b (on p (looping (block (after_first (block p) i))) (stmts_seen (looping (block (after_first (block p) i))) b) (λ o. listed_block (after_first (block p) i) (listed_first (block p) i (listed_block p o))) k)) k) (λ k. done p l (for_ s i t q r b) w) w
    stmt_stays p l (range_ s d a r b) w = two p (left_seen (in_heading true p) d ++ expr_seen (in_heading true p) other a ++ stmts_seen (looping (block (ranged p d a))) b) (seen_stmt p (range_ s d a r b) ∷ []) (λ k. two p (left_seen (in_heading true p) d ++ expr_seen (in_heading true p) other a) (stmts_seen (looping (block (ranged p d a))) b) (λ k. two p (left_seen (in_heading true p) d) (expr_seen (in_heading true p) other a) (λ k. left_stays (in_heading true p) d k) (λ k. expr_stays (in_heading true p) other a k) k) (λ k. stmts_stay (looping (block (ranged p d a))) b (on p (looping (block (ranged p d a))) (stmts_seen (looping (block (ranged p d a))) b) (λ o. listed_block (ranged p d a) (listed_range p d a o)) k)) k) (λ k. done p l (range_ s d a r b) w) w
    stmt_stays p l (switch s i t cs) w = two p (first_seen (in_heading true (block p)) i ++ option_seen (in_heading true (after_first (block p) i)) t ++ cases_seen (switching (after_first (block p) i)) cs) (seen_stmt p (switch s i t cs) ∷ []) (λ k. two p (first_seen (in_heading true (block p)) i ++ option_seen (in_heading true (after_first (block p) i)) t) (cases_seen (switching (after_first (block p) i)) cs) (λ k. two p (first_seen (in_heading true (block p)) i) (option_seen (in_heading true (after_first (block p) i)) t) (λ k. first_stays (in_heading true (block p)) i (on p (in_heading true (block p)) (first_seen (in_heading true (block p)) i) (listed_block p) k)) (λ k. option_stays (in_heading true (after_first (block p) i)) t (on p (in_heading true (after_first (block p) i)) (option_seen (in_heading true (after_first (block p) i)) t) (λ b. listed_first (block p) i (listed_block p b)) k)) k) (λ k. cases_stay (switching (after_first (block p) i)) cs (on p (switching (after_first (block p) i)) (cases_seen (switching (after_first (block p) i)) cs) (λ b. listed_first (block p) i (listed_block p b)) k)) k) (λ k. done p l (switch s i t cs) w) w
    stmt_stays p l (defer s d) w = two p (expr_seen (record p { deferring = true; slot = a_slot 0 false false }) deferred_call d) (seen_stmt p (defer s d) ∷ []) (λ k. expr_stays (record p { deferring = true; slot = a_slot 0 false false }) deferred_call d k) (λ k. done p l (defer s d) w) w
    stmt_stays p l (label s n d) w = two p (stmt_seen (record p { ctx = labelled p.ctx n d }) false d) (seen_stmt p (label s n d) ∷ []) (λ k. stmt_stays (record p { ctx = labelled p.ctx n d }) false d k) (λ k. done p l (label s n d) w) w

    pub stmts_stay : (p : Place At) (b : Stmts At) → K p (stmts_seen p b) → Stay (stmts_seen p b)
    stmts_stay p no_stmts w = tt
    stmts_stay p (stmt_and s ss) w = two p (stmt_seen (at_stmt p s) true s) (stmts_seen (after_stmt p s) ss) (λ k. stmt_stays (at_stmt p s) true s k) (λ k. stmts_stay (after_stmt p s) ss (on p (after_stmt p s) (stmts_seen (after_stmt p s) ss) (listed_after p s) k)) w

    first_stays : (p : Place At) (i : StmtOption At) → K p (first_seen p i) → Stay (first_seen p i)
    first_stays p no_stmt w = tt
    first_stays p (some_stmt s) w = stmt_stays p false s w

    block_stays : (p : Place At) (d : BlockOption At) → K p (block_seen p d) → Stay (block_seen p d)
    block_stays p no_block w = tt
    block_stays p (some_block s b) w = stmts_stay (block p) b (on p (block p) (stmts_seen (block p) b) (listed_block p) w)

    left_stays : (p : Place At) (d : RangeLeft At) → K p (left_seen p d) → Stay (left_seen p d)
    left_stays p nothing w = tt
    left_stays p (assigns xs) w = all_stay p (every_use stored xs) xs w
    left_stays p (defines ns) w = tt

    arms_stay : (p : Place At) (bs : Arms At) → K p (arms_seen p bs) → Stay (arms_seen p bs)
    arms_stay p no_arms w = tt
    arms_stay p (arm s i t r b bs) w = two p (first_seen (in_heading true p) i ++ expr_seen (in_heading true (after_first p i)) other t ++ stmts_seen (block (after_first p i)) b) (arms_seen (block (after_first p i)) bs) (λ k. two p (first_seen (in_heading true p) i ++ expr_seen (in_heading true (after_first p i)) other t) (stmts_seen (block (after_first p i)) b) (λ k. two p (first_seen (in_heading true p) i) (expr_seen (in_heading true (after_first p i)) other t) (λ k. first_stays (in_heading true p) i k) (λ k. expr_stays (in_heading true (after_first p i)) other t (on p (in_heading true (after_first p i)) (expr_seen (in_heading true (after_first p i)) other t) (listed_first p i) k)) k) (λ k. stmts_stay (block (after_first p i)) b (on p (block (after_first p i)) (stmts_seen (block (after_first p i)) b) (λ o. listed_block (after_first p i) (listed_first p i o)) k)) k) (λ k. arms_stay (block (after_first p i)) bs (on p (block (after_first p i)) (arms_seen (block (after_first p i)) bs) (λ o. listed_block (after_first p i) (listed_first p i o)) k)) w

    cases_stay : (p : Place At) (cs : Cases At) → K p (cases_seen p cs) → Stay (cases_seen p cs)
    cases_stay p no_cases w = tt
    cases_stay p (case s es b cs) w = two p (all_seen (in_heading false p) [] es ++ stmts_seen (block p) b) (cases_seen p cs) (λ k. two p (all_seen (in_heading false p) [] es) (stmts_seen (block p) b) (λ k. all_stay (in_heading false p) [] es k) (λ k. stmts_stay (block p) b (on p (block p) (stmts_seen (block p) b) (listed_block p) k)) k) (λ k. cases_stay p cs k) w

    constants_stay : (p : Place At) (r : Repeated) (i : ℕ) (ss : ValueSpecs At) → NoneAt same_here z (constants_seen p r i ss) → AllClear same_here x (Unit {0}) (constants_seen p r i ss) → Stay (constants_seen p r i ss)
    constants_stay p r i no_specs n a = tt
    constants_stay p r i (spec s ns t es ss) n a = join (written_seen (before_repeats (in_constant i p) ns ss) t ++ all_seen (before_repeats (in_constant i p) ns ss) (alike (value_use p.env t) ns) es) (constants_seen (after_constants p (repeated_by r t es) i ns) (repeated_by r t es) (suc i) ss) (join (written_seen (before_repeats (in_constant i p) ns ss) t) (all_seen (before_repeats (in_constant i p) ns ss) (alike (value_use p.env t) ns) es) (written_stays (before_repeats (in_constant i p) ns ss) t) (all_stay (before_repeats (in_constant i p) ns ss) (alike (value_use p.env t) ns) es (quiet (before_repeats (in_constant i p) ns ss) (all_seen (before_repeats (in_constant i p) ns ss) (alike (value_use p.env t) ns) es) (without_back same_here z (written_seen (before_repeats (in_constant i p) ns ss) t) (all_seen (before_repeats (in_constant i p) ns ss) (alike (value_use p.env t) ns) es) (without_front same_here z (written_seen (before_repeats (in_constant i p) ns ss) t ++ all_seen (before_repeats (in_constant i p) ns ss) (alike (value_use p.env t) ns) es) (constants_seen (after_constants p (repeated_by r t es) i ns) (repeated_by r t es) (suc i) ss) n)) (clear_back same_here x (Unit {0}) (written_seen (before_repeats (in_constant i p) ns ss) t) (all_seen (before_repeats (in_constant i p) ns ss) (alike (value_use p.env t) ns) es) (clear_front same_here x (Unit {0}) (written_seen (before_repeats (in_constant i p) ns ss) t ++ all_seen (before_repeats (in_constant i p) ns ss) (alike (value_use p.env t) ns) es) (constants_seen (after_constants p (repeated_by r t es) i ns) (repeated_by r t es) (suc i) ss) a))))) (constants_stay (after_constants p (repeated_by r t es) i ns) (repeated_by r t es) (suc i) ss (without_back same_here z (written_seen (before_repeats (in_constant i p) ns ss) t ++ all_seen (before_repeats (in_constant i p) ns ss) (alike (value_use p.env t) ns) es) (constants_seen (after_constants p (repeated_by r t es) i ns) (repeated_by r t es) (suc i) ss) n) (clear_back same_here x (Unit {0}) (written_seen (before_repeats (in_constant i p) ns ss) t ++ all_seen (before_repeats (in_constant i p) ns ss) (alike (value_use p.env t) ns) es) (constants_seen (after_constants p (repeated_by r t es) i ns) (repeated_by r t es) (suc i) ss) a))

    group_stays : (p : Place At) (ss : ValueSpecs At) → NoneAt same_here z (variables_seen p ss) → AllClear same_here x (Unit {0}) (variables_seen p ss) → Stay (variables_seen p ss)
    group_stays p no_specs n a = tt
    group_stays p (spec s ns t es ss) n a = join (written_seen p t ++ all_seen p (alike (value_use p.env t) ns) es) (variables_seen (after_variables p ns t es) ss) (join (written_seen p t) (all_seen p (alike (value_use p.env t) ns) es) (written_stays p t) (all_stay p (alike (value_use p.env t) ns) es (quiet p (all_seen p (alike (value_use p.env t) ns) es) (without_back same_here z (written_seen p t) (all_seen p (alike (value_use p.env t) ns) es) (without_front same_here z (written_seen p t ++ all_seen p (alike (value_use p.env t) ns) es) (variables_seen (after_variables p ns t es) ss) n)) (clear_back same_here x (Unit {0}) (written_seen p t) (all_seen p (alike (value_use p.env t) ns) es) (clear_front same_here x (Unit {0}) (written_seen p t ++ all_seen p (alike (value_use p.env t) ns) es) (variables_seen (after_variables p ns t es) ss) a))))) (group_stays (after_variables p ns t es) ss (without_back same_here z (written_seen p t ++ all_seen p (alike (value_use p.env t) ns) es) (variables_seen (after_variables p ns t es) ss) n) (clear_back same_here x (Unit {0}) (written_seen p t ++ all_seen p (alike (value_use p.env t) ns) es) (variables_seen (after_variables p ns t es) ss) a))

    variables_stay : (p : Place At) (ss : ValueSpecs At) → (is_group ss ≡ true → NoneAt same_here z (variables_seen p ss)) → K p (variables_seen p ss) → Stay (variables_seen p ss)
    variables_stay p no_specs f w = tt
    variables_stay p (spec s ns t es no_specs) f w = two p (written_seen p t ++ all_seen p (alike (value_use p.env t) ns) es) ([]) (λ k. two p (written_seen p t) (all_seen p (alike (value_use p.env t) ns) es) (λ k. written_stays p t) (λ k. all_stay p (alike (value_use p.env t) ns) es k) k) (λ k. tt) w
    variables_stay p (spec s ns t es (spec s1 ns1 t1 es1 ss)) f w = join (written_seen p t ++ all_seen p (alike (value_use p.env t) ns) es) (variables_seen (after_variables p ns t es) (spec s1 ns1 t1 es1 ss)) (join (written_seen p t) (all_seen p (alike (value_use p.env t) ns) es) (written_stays p t) (all_stay p (alike (value_use p.env t) ns) es (quiet p (all_seen p (alike (value_use p.env t) ns) es) (without_back same_here z (written_seen p t) (all_seen p (alike (value_use p.env t) ns) es) (without_front same_here z (written_seen p t ++ all_seen p (alike (value_use p.env t) ns) es) (variables_seen (after_variables p ns t es) (spec s1 ns1 t1 es1 ss)) (f refl))) (clear_back same_here x (Unit {0}) (written_seen p t) (all_seen p (alike (value_use p.env t) ns) es) (clear_front same_here x (Unit {0}) (written_seen p t ++ all_seen p (alike (value_use p.env t) ns) es) (variables_seen (after_variables p ns t es) (spec s1 ns1 t1 es1 ss)) w.clear))))) (group_stays (after_variables p ns t es) (spec s1 ns1 t1 es1 ss) (without_back same_here z (written_seen p t ++ all_seen p (alike (value_use p.env t) ns) es) (variables_seen (after_variables p ns t es) (spec s1 ns1 t1 es1 ss)) (f refl)) (clear_back same_here x (Unit {0}) (written_seen p t ++ all_seen p (alike (value_use p.env t) ns) es) (variables_seen (after_variables p ns t es) (spec s1 ns1 t1 es1 ss)) w.clear))
