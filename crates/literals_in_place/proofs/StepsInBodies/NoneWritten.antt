-- What is written at a use for a body that declares no constants declares none: one line a kind of part.
use Rattle.std.proofs.Common.{◌≡◌, sym, ap, ◌∙◌, subst, ℕ, suc, ◌+◌, Bool, true, false, List, [], ◌∷◌, ◌++◌, Option, Some, None, if◌then◌else◌, arith}
use Rattle.std.specs.Prelude.{is_some}
use Rattle.go_tree.specs.Tree.{NameAt, TypeExpr, Expr, ident, int_lit, rune_lit, str_lit, composite, selector, index, slice, call, func_lit, type_operand, unary, binary, star, Exprs, no_exprs, expr_and, ExprOption, no_expr, some_expr, Elems, no_elems, elem, Value, plain, braced, ValueOption, no_value, some_value, Stmt, const_decl, var_decl, empty, eval, step, assign, define, return_, break_, continue_, inner, if_, for_, range_, switch, defer, label, Stmts, no_stmts, stmt_and, StmtOption, no_stmt, some_stmt, BlockOption, no_block, some_block, RangeLeft, nothing, assigns, defines, Arms, no_arms, arm, Cases, no_cases, case, ValueSpecs, no_specs, spec}
use Rattle.go_tree.specs.GoWords.Terminals.{level_of}
use Rattle.go_tree.specs.ScopeNames.Means.{Environment}
use Rattle.go_tree.specs.GoTypes.Answers.{given, otherwise}
use Rattle.go_tree.specs.GoTypes.Types.{GoType}
use Rattle.go_tree.specs.GoTypes.Defined.{under}
use Rattle.go_tree.specs.GoTypes.Entities.{Entity, World, defined_in}
use Rattle.go_tree.specs.GoTypes.TypeNames.{type_meant}
use Rattle.go_tree.specs.GoTypes.Operands.{Operand}
use Rattle.go_tree.specs.GoTypes.Literals.{Element, is_struct, field_key, built_inside, key_type, inner_type, literal_type, of_field, keyed}
use Rattle.go_tree.specs.GoTypes.Bodies.{labelled}
use Rattle.go_tree.specs.GoTypes.Declarations.{nothing_to_repeat}
use Rattle.go_tree.specs.GoTypes.Typing.{parts, all_parts, elements, element, with_key}
use Rattle.go_tree.proofs.GoTypes.Agreeing.{from_given, from_both}
use Rattle.pkg_graph.specs.Package.{Package}
use Rattle.run_rules.specs.FormTrees.{a_name}
use Rattle.run_rules.specs.Naming.{Names, member_qualifier}
use Rattle.run_rules.specs.Places.{type_seen, written_seen, sig_seen, constants_seen, old_seen, after_arms, expr_seen, all_seen, option_seen, elems_seen, key_seen, value_seen, stmt_seen, stmts_seen, first_seen, block_seen, left_seen, arms_seen, cases_seen, variables_seen}
use Rattle.run_rules.specs.Respanned.{value_with}
use Rattle.run_rules.specs.Rewriting.{Changes, new_expr, new_all, new_option, new_elems, new_key, new_value, new_stmt, new_stmts, new_first, new_block, new_left, new_arms, new_cases, new_variables}
use Rattle.run_rules.specs.Sites.{Where, qualifier}
use Rattle.run_rules.specs.Surroundings.{Use, whole, stored, updated, called, deferred_call, alone, other, a_slot, Place, Seen, seen, seen_type, seen_stmt, alike, into_type, head_use, later_uses, arg_uses, unary_use, operand_use, first_operand_use, right_uses, every_use, value_use, return_uses, elem_use, key_use, inner_slot, last_slot, in_slot, callee_place, comma_slot, elem_closed, after_stmt, after_first, looping, switching, in_heading, at_stmt, plain_slot, ranged, in_literal, after_variables}
use Rattle.run_rules.specs.Surroundings as around
use Rattle.constant_steps.specs.WrittenLiteral.Fine.{keeping, same_span}
use Rattle.constant_steps.specs.WrittenLiteral.PartsTyped.{changes_there}
use Rattle.constants_anywhere.proofs.TypedWalk.{into_back, elem_into}
use Rattle.literal_steps.specs.TypedParts.{AllStand, AllWithoutConstants}
use Rattle.literals_in_place.specs.StepsInBodies.NoConstants.{NoneInExpr, NoneInAll, NoneInOption, NoneInElems, NoneInKey, NoneInValue, NoneInStmt, NoneInStmts, NoneInFirst, NoneInBlock, NoneInLeft, NoneInArms, NoneInCases, NoneInSpecs}

module _ {S : Type 0} (ps : List (Package S)) (home there : Where S) (at : Place S) (names : Names) (new : S) (all : World) (outside beyond : Environment Entity) (number : ℕ) where
  -- the changes of names at the use
  abbrev c : Changes S
  c = keeping (changes_there ps home there at names new all outside beyond)

  -- so it is where these parts stand and declare no constants
  pub record Goes (xs : List (Seen S)) (X : Type 0) : Type 0 where
    pub run : AllWithoutConstants xs → AllStand number xs → X

  apart : (xs ys : List (Seen S)) → AllWithoutConstants (xs ++ ys) → AllWithoutConstants xs × AllWithoutConstants ys
  apart [] ys a = (tt, a)
  apart (x ∷ xs) ys a = let r = apart xs ys a.1 in ((a.0, r.0), r.1)

  stand_apart : (xs ys : List (Seen S)) → AllStand number (xs ++ ys) → AllStand number xs × AllStand number ys
  stand_apart [] ys a = (tt, a)
  stand_apart (x ∷ xs) ys a = let r = stand_apart xs ys a.1 in ((a.0, r.0), r.1)

  join : {xs ys : List (Seen S)} {X Y : Type 0} → Goes xs X → Goes ys Y → Goes (xs ++ ys) (X × Y)
  join {xs = xs} {ys = ys} f g = record { run = λ a s. (f.run (apart xs ys a).0 (stand_apart xs ys s).0, g.run (apart xs ys a).1 (stand_apart xs ys s).1) }

  -- parts that are no matter, behind others or before them
  fore : {xs : List (Seen S)} {X : Type 0} (ys : List (Seen S)) → Goes xs X → Goes (xs ++ ys) X
  fore {xs = xs} ys f = record { run = λ a s. f.run (apart xs ys a).0 (stand_apart xs ys s).0 }

  rear : {ys : List (Seen S)} {Y : Type 0} (xs : List (Seen S)) → Goes ys Y → Goes (xs ++ ys) Y
  rear {ys = ys} xs f = record { run = λ a s. f.run (apart xs ys a).1 (stand_apart xs ys s).1 }

  plainly : {xs : List (Seen S)} {X : Type 0} → X → Goes xs X
  plainly x = record { run = λ a s. x }

  -- ---- names

  name_none : (o : Option (List ℕ)) (x : List ℕ) (e : Expr S) → NoneInExpr e → NoneInExpr (otherwise (given o (λ q. Some (selector new (ident new q) (a_name new x)))) e)
  name_none None x e f = f
  name_none (Some q) x e f = tt

  selected_none : (z : Option ℕ) (x : NameAt S) (e : Expr S) → NoneInExpr e → NoneInExpr (otherwise (given (given z (λ k. Some (names k))) (λ q. Some (selector new (ident new q) x))) e)
  selected_none None x e f = f
  selected_none (Some k) x e f = tt

  -- the base of a selection
  selector_none : (p : Place S) (u : Use) (s : S) (b : Expr S) (x : NameAt S) {xs : List (Seen S)} → Goes xs (NoneInExpr (new_expr c (in_slot (inner_slot p.slot (selector s b x) 7 false true) p) other b)) → Goes xs (NoneInExpr (new_expr c p u (selector s b x)))
  selector_none p u s (ident z q) x f =
      record { run = λ a k. selected_none (qualifier ps home p q) x (selector s (new_expr c (in_slot (inner_slot p.slot (selector s (ident z q) x) 7 false true) p) other (ident z q)) (record { span = x.span; name = x.name })) (f.run a k) }
  selector_none p u s b x f = f

  -- a key that names a field is a name
  field_none : (v : Value S) (m : List ℕ) → field_key v ≡ Some m → NoneInValue (value_with same_span v)
  field_none (plain (ident s n)) m e = tt
  field_none v m e = absurd (grind (arith, ap is_some e))

  key_none : (p : Place S) (u : GoType) (v : Value S) (o : Operand) (y : Element) → with_key p.env u (some_value v) o ≡ Some y
      → ((q : Operand) → element p.env (key_type (defined_in p.env) u) v ≡ Some q → Goes (value_seen p (key_use p.env (Some u)) v) (NoneInValue (new_value c p (key_use p.env (Some u)) v)))
      → Goes (key_seen p (Some u) (some_value v)) (NoneInKey (new_key c p (Some u) (some_value v)))
  key_none p u v o y e f = go (is_struct u) e
    where
      go : (b : Bool) → (if b then given (field_key v) (λ n. Some (of_field n o)) else given (element p.env (key_type (defined_in p.env) u) v) (λ q. Some (keyed q o))) ≡ Some y
          → Goes (if b then [] else value_seen p (key_use p.env (Some u)) v) (NoneInValue (if b then value_with same_span v else new_value c p (key_use p.env (Some u)) v))
      go true e = let r = from_given (field_key v) (λ n. Some (of_field n o)) y e in plainly (field_none v r.0 r.1)
      go false e = let r = from_given (element p.env (key_type (defined_in p.env) u) v) (λ q. Some (keyed q o)) y e in f r.0 r.1

  -- a composite literal, by what is known of it where it stands
  composite_none : (p : Place S) (u : Use) (s : S) (t : TypeExpr S) (es : Elems S)
      → ((w : GoType) (vs : List Element) → elements p.env w es ≡ Some vs → Goes (elems_seen (in_slot (a_slot 1 false false) p) (Some w) 0 es) (NoneInElems (new_elems c (in_slot (a_slot 1 false false) p) (Some w) 0 es)))
      → Goes (expr_seen p u (composite s t es)) (NoneInExpr (new_expr c p u (composite s t es)))
  composite_none p u s t es f =
      let P : Place S = in_slot (a_slot 1 false false) p in
      let seen_of : (Option GoType → List (Seen S)) = (λ w. elems_seen P (given w (λ u. Some (under (defined_in p.env) u))) 0 es) in
      record {
        run = λ a k. (let y = (stand_apart (type_seen p t ++ seen_of (type_meant p.env t)) (seen p u (composite s t es) ∷ []) k).1.0 in
            let g = f (under (defined_in p.env) y.type) y.each y.typed in
            let at_type : Goes (seen_of (type_meant p.env t)) (NoneInElems (new_elems c P (given (type_meant p.env t) (λ u. Some (under (defined_in p.env) u))) 0 es)) =
            subst (λ (w : Option GoType). Goes (seen_of w) (NoneInElems (new_elems c P (given w (λ u. Some (under (defined_in p.env) u))) 0 es))) (sym y.meant) g in
            (fore (seen p u (composite s t es) ∷ []) (rear (type_seen p t) at_type)).run a k);
      }

  mutual
    expr_none : (p : Place S) (u : Use) (e : Expr S) → Goes (expr_seen p u e) (NoneInExpr (new_expr c p u e))
    expr_none p u (ident s n) = plainly (name_none (member_qualifier ps home there.number names p n) n (ident s n) tt)
    expr_none p u (int_lit s n) = plainly tt
    expr_none p u (rune_lit s n) = plainly tt
    expr_none p u (str_lit s n) = plainly tt
    expr_none p u (composite s t es) = composite_none p u s t es (λ w vs h. elems_none (in_slot (a_slot 1 false false) p) w 0 es vs h)
    expr_none p u (selector s b n) = selector_none p u s b n (fore (seen p u (selector s b n) ∷ []) (expr_none (in_slot (inner_slot p.slot (selector s b n) 7 false true) p) other b))
    expr_none p u (index s b i) =
        fore (seen p u (index s b i) ∷ []) (join (expr_none (in_slot (inner_slot p.slot (index s b i) 7 false false) p) other b) (expr_none (in_slot (a_slot 1 false false) p) other i))
    expr_none p u (slice s b i j) =
        let Q : Place S = in_slot (a_slot 1 false false) p in
        fore (seen p u (slice s b i j) ∷ []) (join (join (expr_none (in_slot (inner_slot p.slot (slice s b i j) 7 false false) p) other b) (option_none Q i)) (option_none Q j))
    expr_none p u (call s f xs r) =
        fore (seen p u (call s f xs r) ∷ []) (join (expr_none (callee_place (inner_slot p.slot (call s f xs r) 7 true false) f p) called f) (all_none (in_slot (a_slot 1 false true) p) (arg_uses p.env (parts p.env f) (all_parts p.env xs)) xs))
    expr_none p u (func_lit s g z b) = fore (seen p u (func_lit s g z b) ∷ []) (rear (sig_seen p g) (stmts_none (in_literal p g) b))
    expr_none p u (type_operand s t) = plainly tt
    expr_none p u (unary s o e) = fore (seen p u (unary s o e) ∷ []) (expr_none (in_slot (last_slot p.slot (unary s o e) 6 (Some o)) p) (unary_use o) e)
    expr_none p u (binary s o x y) =
        fore (seen p u (binary s o x y) ∷ [])
        (join (expr_none (in_slot (inner_slot p.slot (binary s o x y) (level_of o) false false) p) (operand_use p.env o y) x) (expr_none (in_slot (last_slot p.slot (binary s o x y) (level_of o + 1) None) p) (operand_use p.env o x) y))
    expr_none p u (star s e) = fore (seen p u (star s e) ∷ []) (expr_none (in_slot (last_slot p.slot (star s e) 6 None) p) other e)

    all_none : (p : Place S) (us : List Use) (es : Exprs S) → Goes (all_seen p us es) (NoneInAll (new_all c p us es))
    all_none p us no_exprs = plainly tt
    all_none p us (expr_and e es) = join (expr_none (record p { slot = comma_slot p.slot es }) (head_use us) e) (all_none p (later_uses us) es)

    option_none : (p : Place S) (e : ExprOption S) → Goes (option_seen p e) (NoneInOption (new_option c p e))
    option_none p no_expr = plainly tt
    option_none p (some_expr e) = expr_none p other e

    elems_none : (p : Place S) (u : GoType) (j : ℕ) (es : Elems S) (vs : List Element) → elements p.env u es ≡ Some vs → Goes (elems_seen p (Some u) j es) (NoneInElems (new_elems c p (Some u) j es))
    elems_none p u j no_elems vs h = plainly tt
    elems_none p u j (elem s k v es) vs h =
        let r = from_both (given (element p.env (inner_type (defined_in p.env) u) v) (λ o. with_key p.env u k o)) (elements p.env u es) (λ x xs. Some (x ∷ xs)) vs h in
        let y = from_given (element p.env (inner_type (defined_in p.env) u) v) (λ o. with_key p.env u k o) r.0 r.2 in
        join
        (join (keys_none p u k y.0 r.0 y.2) (value_none (record p { slot = a_slot 1 false (elem_closed es) }) (elem_use p.env (Some u) j k) (inner_type (defined_in p.env) u) v y.0 (elem_into p.env u j k) y.1))
        (elems_none p u (suc j) es r.1 r.3)

    keys_none : (p : Place S) (u : GoType) (k : ValueOption S) (o : Operand) (y : Element) → with_key p.env u k o ≡ Some y → Goes (key_seen p (Some u) k) (NoneInKey (new_key c p (Some u) k))
    keys_none p u no_value o y h = plainly tt
    keys_none p u (some_value v) o y h = key_none p u v o y h (λ q g. value_none p (key_use p.env (Some u)) (key_type (defined_in p.env) u) v q (λ t. into_back (key_type (defined_in p.env) u)) g)

    value_none : (p : Place S) (w : Use) (t : Option GoType) (v : Value S) (o : Operand) → (is_some t ≡ true → into_type w ≡ t) → element p.env t v ≡ Some o → Goes (value_seen p w v) (NoneInValue (new_value c p w v))
    value_none p w t (plain e) o g h = expr_none p w e
    value_none p w t (braced s es) o g h =
        let r = from_given t (λ t. given (elements p.env (under (defined_in p.env) (literal_type (defined_in p.env) t)) es) (built_inside (defined_in p.env) p.env.home t)) o h in
        let ty : GoType = under (defined_in p.env) (literal_type (defined_in p.env) r.0) in
        let y = from_given (elements p.env ty es) (built_inside (defined_in p.env) p.env.home r.0) o r.2 in
        subst (λ (z : Option GoType). Goes (elems_seen p (given z (λ t. Some (under (defined_in p.env) (literal_type (defined_in p.env) t)))) 0 es) (NoneInElems (new_elems c p (given z (λ t. Some (under (defined_in p.env) (literal_type (defined_in p.env) t)))) 0 es))) (sym (g (ap is_some r.1) ∙ r.1))
        (elems_none p ty 0 es y.0 y.1)

    stmt_none : (p : Place S) (l : Bool) (s : Stmt S) → Goes (stmt_seen p l s) (NoneInStmt (new_stmt c p l s))
    stmt_none p l (const_decl s g ss) =
        let xs : List (Seen S) = constants_seen (plain_slot p) nothing_to_repeat 0 ss in
        record { run = λ a k. absurd (apart xs (seen_stmt p (const_decl s g ss) ∷ []) a).1.0 }
    stmt_none p l (var_decl s g ss) = fore (seen_stmt p (var_decl s g ss) ∷ []) (specs_none (plain_slot p) ss)
    stmt_none p l (empty s) = plainly tt
    stmt_none p l (eval s e) = fore (seen_stmt p (eval s e) ∷ []) (expr_none p (alone l) e)
    stmt_none p l (step s e b) = fore (seen_stmt p (step s e b) ∷ []) (expr_none p updated e)
    stmt_none p l (assign s xs None ys) = fore (seen_stmt p (assign s xs None ys) ∷ []) (join (all_none p (every_use stored xs) xs) (all_none p (right_uses p.env xs) ys))
    stmt_none p l (assign s xs (Some o) ys) = fore (seen_stmt p (assign s xs (Some o) ys) ∷ []) (join (all_none p (every_use updated xs) xs) (all_none p (first_operand_use p.env o xs ∷ []) ys))
    stmt_none p l (define s ns ys) = fore (seen_stmt p (define s ns ys) ∷ []) (rear (old_seen p ns) (all_none p (alike whole ns) ys))
    stmt_none p l (return_ s xs) = fore (seen_stmt p (return_ s xs) ∷ []) (all_none p (return_uses p.ctx.results xs) xs)
    stmt_none p l (break_ s n) = plainly tt
    stmt_none p l (continue_ s n) = plainly tt
    stmt_none p l (inner s b) = fore (seen_stmt p (inner s b) ∷ []) (stmts_none (around.block p) b)
    stmt_none p l (if_ s bs z) = fore (seen_stmt p (if_ s bs z) ∷ []) (join (arms_none (around.block p) bs) (block_none (after_arms (around.block p) bs) z))
    stmt_none p l (for_ s i t q z b) =
        let P : Place S = after_first (around.block p) i in
        fore (seen_stmt p (for_ s i t q z b) ∷ []) (join (join (join (first_none (in_heading true (around.block p)) i) (option_none (in_heading true P) t)) (first_none (in_heading true P) q)) (stmts_none (looping (around.block P)) b))
    stmt_none p l (range_ s x e z b) = fore (seen_stmt p (range_ s x e z b) ∷ []) (join (join (left_none (in_heading true p) x) (expr_none (in_heading true p) other e)) (stmts_none (looping (around.block (ranged p x e))) b))
    stmt_none p l (switch s i t cs) =
        let P : Place S = after_first (around.block p) i in
        fore (seen_stmt p (switch s i t cs) ∷ []) (join (join (first_none (in_heading true (around.block p)) i) (option_none (in_heading true P) t)) (cases_none (switching P) cs))
    stmt_none p l (defer s e) = fore (seen_stmt p (defer s e) ∷ []) (expr_none (record p { deferring = true; slot = a_slot 0 false false }) deferred_call e)
    stmt_none p l (label s n x) = fore (seen_stmt p (label s n x) ∷ []) (stmt_none (record p { ctx = labelled p.ctx n x }) false x)

    pub stmts_none : (p : Place S) (b : Stmts S) → Goes (stmts_seen p b) (NoneInStmts (new_stmts c p b))
    stmts_none p no_stmts = plainly tt
    stmts_none p (stmt_and s ss) = join (stmt_none (at_stmt p s) true s) (stmts_none (after_stmt p s) ss)

    first_none : (p : Place S) (i : StmtOption S) → Goes (first_seen p i) (NoneInFirst (new_first c p i))
    first_none p no_stmt = plainly tt
    first_none p (some_stmt s) = stmt_none p false s

    block_none : (p : Place S) (b : BlockOption S) → Goes (block_seen p b) (NoneInBlock (new_block c p b))
    block_none p no_block = plainly tt
    block_none p (some_block s b) = stmts_none (around.block p) b

    left_none : (p : Place S) (x : RangeLeft S) → Goes (left_seen p x) (NoneInLeft (new_left c p x))
    left_none p nothing = plainly tt
    left_none p (assigns es) = all_none p (every_use stored es) es
    left_none p (defines ns) = plainly tt

    arms_none : (p : Place S) (bs : Arms S) → Goes (arms_seen p bs) (NoneInArms (new_arms c p bs))
    arms_none p no_arms = plainly tt
    arms_none p (arm s i t z b r) =
        let P : Place S = after_first p i in
        join (join (join (first_none (in_heading true p) i) (expr_none (in_heading true P) other t)) (stmts_none (around.block P) b)) (arms_none (around.block P) r)

    cases_none : (p : Place S) (cs : Cases S) → Goes (cases_seen p cs) (NoneInCases (new_cases c p cs))
    cases_none p no_cases = plainly tt
    cases_none p (case s es b cs) = join (join (all_none (in_heading false p) [] es) (stmts_none (around.block p) b)) (cases_none p cs)

    specs_none : (p : Place S) (ss : ValueSpecs S) → Goes (variables_seen p ss) (NoneInSpecs (new_variables c p ss))
    specs_none p no_specs = plainly tt
    specs_none p (spec s ns t es ss) = join (rear (written_seen p t) (all_none p (alike (value_use p.env t) ns) es)) (specs_none (after_variables p ns t es) ss)
