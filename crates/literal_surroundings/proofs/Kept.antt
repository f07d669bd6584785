-- Parts of a body in which a call stands once, or doesn't: with a call of the same facts in its place they have the facts that they had.
use Rattle.std.proofs.Common.{◌≡◌, refl, sym, ap, ◌∙◌, subst, ◌⊎◌, inl, inr, ℕ, suc, Bool, true, false, ◌||◌, List, [], ◌∷◌, ◌++◌, length, Option, Some, None, if◌then◌else◌, arith}
use Rattle.go_tree.specs.Tree.{NameAt, Sig, TypeExpr, Expr, ident, selector, call, func_lit, Exprs, no_exprs, expr_and, Stmt, const_decl, var_decl, define, range_, no_stmts, RangeLeft, nothing, assigns, defines, Arms, no_arms, arm, StmtOption, ValueSpecs, no_specs, spec}
use Rattle.go_tree.specs.ScopeNames.FreeNames.{names_of, declared, defined}
use Rattle.go_tree.specs.ScopeNames.Scopes.{sig_declares}
use Rattle.go_tree.specs.GoTypes.Answers.{given, is_among}
use Rattle.go_tree.specs.GoTypes.Bodies.{body_ctx}
use Rattle.go_tree.specs.GoTypes.Declarations.{nothing_to_repeat, binds_of, new_variables}
use Rattle.go_tree.specs.GoTypes.Entities.{Env, extend, in_block}
use Rattle.go_tree.specs.GoTypes.Operands.{Operand, typed}
use Rattle.go_tree.specs.GoTypes.Statements.{no_values, right_values}
use Rattle.go_tree.specs.GoTypes.TypeNames.{func_type, written_type}
use Rattle.go_tree.specs.GoTypes.Types.{FuncType}
use Rattle.go_tree.specs.GoTypes.Typing.{parts, all_parts, places, declares, range_declares, literal_env}
use Rattle.pkg_graph.specs.Package.{Package}
use Rattle.go_kernel.specs.Kernel.{ImportPath}
use Rattle.go_translation.specs.Here.{Here}
use Rattle.typed_in_place.specs.Replaced.{TypeOptionReplaced, ExprReplaced, same_operand, ExprsReplaced, no_more_exprs, in_exprs, StmtReplaced, in_var, in_define, no_more_variables, in_variables}
use Rattle.typed_in_place.specs.SameFacts.{SameOperand}
use Rattle.typed_in_place.proofs.Leaves.{operand_itself}
use Rattle.typed_in_place.proofs.TypingReplaced.{no_values-in, declared-in, parts-in, all_parts-in, places-in, declares-in}
use Rattle.run_rules.specs.Classes.{type_at}
use Rattle.run_rules.specs.FormTrees.{as_expr}
use Rattle.run_rules.specs.Forms.{is_at}
use Rattle.run_rules.specs.Places.{written_seen, old_seen, expr_seen, all_seen, stmt_seen, left_seen, stmts_seen, constants_seen, variables_seen, after_arms}
use Rattle.run_rules.specs.Rewriting.{Changes, new_names, new_written, new_expr, new_all, new_stmt}
use Rattle.run_rules.specs.Sites.{MarkRef, Where, Site, part_span}
use Rattle.run_rules.specs.Steps.{At, same_here, changes_for}
use Rattle.run_rules.specs.Surroundings.{Use, whole, called, other, Slot, a_slot, Place, Seen, seen, seen_stmt, alike, head_use, later_uses, arg_uses, value_use, inner_slot, in_slot, callee_place, comma_slot, after_stmt, after_first, block, looping, in_heading, plain_slot, ranged, in_literal, after_variables}
use Rattle.constant_steps.proofs.StepLaws.NothingPut.{expr-free, all-free}
use Rattle.constant_steps.proofs.StepLaws.Swapping.{names-same, written-same}
use Rattle.constant_steps.specs.StepLaws.Kept.{NoneAt}
use Rattle.constant_steps.specs.WrittenLiteral.Fine.{is_call}
use Rattle.literal_cycles.specs.Around.{before_dot, CalledStays}
use Rattle.literal_cycles.specs.FormCycles.Puts.{VariablesStay, StatementStays}
use Rattle.literals_in_place.specs.StepsInBodies.Functions.{BlankAlike}
use Rattle.literals_in_place.specs.StepsInBodies.Once.{SamePlace, is_group, StandsOnce, LiteralStays, AllClear}
use Rattle.literals_in_place.proofs.StepsInBodies.Parted.{without_front, without_back, clear_front, clear_back, Parted, in_front, in_back, parted}
use Rattle.literals_in_place.proofs.StepsInBodies.Places.{block_same, after_same, first_same, range_same, literal_same}
use Rattle.literals_in_place.proofs.StepsInBodies.Staying.{no_such, type_option}
use Rattle.literals_in_place.proofs.StepsInBodies.Typed.{put_typed}
use Rattle.literals_in_place.proofs.StepsInBodies.Unchanged.{stmt_free}
use Rattle.literals_in_place.proofs.StepsInBodies.Walk.{facts_at, expr_put}

-- ---- places

-- what a block has declared is listed among the names around
abbrev pub ListedIn : List (List ℕ) → List (NameAt At) → Type 0
ListedIn hs bs = (n : List ℕ) → is_among n hs ≡ true → is_among n (names_of bs) ≡ true

-- so at this place
abbrev pub Listed : Place At → Type 0
Listed p = ListedIn p.env.here p.bound

-- a place of the translation there
abbrev at_place : Place At → Here
at_place p = record { env = p.env; paths = []; locals = []; results = []; types = [] }

same_place : (p : Place At) → Listed p → SamePlace [] (at_place p) p.env p.bound
same_place p k = record { names = refl; imports = refl; block = k; locals = λ n i. refl }

pub listed_block : (p : Place At) → Listed p → Listed (block p)
listed_block p k = (block_same (same_place p k)).block

pub listed_after : (p : Place At) (s : Stmt At) → Listed p → Listed (after_stmt p s)
listed_after p s k = (after_same (at_place p) p s no_stmts (same_place p k)).block

pub listed_first : (p : Place At) (i : StmtOption At) → Listed p → Listed (after_first p i)
listed_first p i k = (first_same (at_place p) p i [] (same_place p k)).block

pub listed_range : (p : Place At) (l : RangeLeft At) (y : Expr At) → Listed p → Listed (ranged p l y)
listed_range p l y k = (range_same (at_place p) p l y [] (same_place p k)).block

pub listed_arms : (p : Place At) (bs : Arms At) → Listed p → Listed (after_arms p bs)
listed_arms p no_arms k = k
listed_arms p (arm s i t z b bs) k = listed_arms (block (after_first p i)) bs (listed_block (after_first p i) (listed_first p i k))

abbrev literal_place : Place At → Sig At → Option FuncType → Place At
literal_place p g o =
    elim o [
      | None ↦ p
      | Some f ↦ record p {
        env = literal_env p.env g;
        bound = sig_declares g ++ p.bound;
        ctx = body_ctx g f;
        deferred = p.deferred || p.deferring;
        deferring = false;
        since = sig_declares g ++ (if p.deferring then [] else p.since);
        literals = suc p.literals;
      }
    ]

pub listed_literal : (p : Place At) (g : Sig At) → LiteralStays p g → Listed p → Listed (in_literal p g)
listed_literal p g l k =
    subst (λ (o : Option FuncType). Listed (literal_place p g o)) (sym l.typed) (literal_same (at_place p) p (same_place p k) g l.of l.binds l.typed l.bound []).block

pub listed_callee : (s : Slot) (f : Expr At) (p : Place At) → Listed p → Listed (callee_place s f p)
listed_callee s (func_lit _ _ _ _) p k = k
listed_callee s f p k = k

-- ---- lists

pub join_none : (z : At) (xs ys : List (Seen At)) → NoneAt same_here z xs → NoneAt same_here z ys → NoneAt same_here z (xs ++ ys)
join_none z [] ys a b = b
join_none z (x ∷ xs) ys a b = (a.0, join_none z xs ys a.1 b)

module _ (x : Site At) (tree e : Expr At) (here : is_at same_here (part_span x.part) tree ≡ true) (calls : is_call tree ≡ true) (form : is_call e ≡ true) (facts : SameOperand (names_of x.place.bound) x.place.env tree e) (blank : BlankAlike x.place.env tree e) where
  abbrev z : At
  z = part_span x.part

  abbrev pub c : Changes At
  c = changes_for same_here z (as_expr e)

  abbrev around : List (List ℕ)
  around = names_of x.place.bound

  -- Parts where a block has declared these names, and those are listed: the call isn't among them, or stands there once, and the first are listed.
  pub record KnownIn (hs : List (List ℕ)) (bs : List (NameAt At)) (xs : List (Seen At)) : Type 0 where
    pub stands : NoneAt same_here z xs ⊎ (ListedIn hs bs × StandsOnce same_here x tree xs)
    pub clear : AllClear same_here x (Unit {0}) xs

  -- so at this place
  abbrev pub Known : Place At → List (Seen At) → Type 0
  Known p xs = KnownIn p.env.here p.bound xs

  pub front : {hs : List (List ℕ)} {bs : List (NameAt At)} (xs ys : List (Seen At)) → KnownIn hs bs (xs ++ ys) → KnownIn hs bs xs
  front {hs = hs} {bs = bs} xs ys k = record { stands = go k.stands; clear = clear_front same_here x (Unit {0}) xs ys k.clear }
    where
      split : ListedIn hs bs → Parted same_here x tree xs ys → NoneAt same_here z xs ⊎ (ListedIn hs bs × StandsOnce same_here x tree xs)
      split l (in_front o n) = inr (l, o)
      split l (in_back n o) = inl n

      go : NoneAt same_here z (xs ++ ys) ⊎ (ListedIn hs bs × StandsOnce same_here x tree (xs ++ ys)) → NoneAt same_here z xs ⊎ (ListedIn hs bs × StandsOnce same_here x tree xs)
      go (inl n) = inl (without_front same_here z xs ys n)
      go (inr o) = split o.0 (parted same_here x tree xs ys o.1)

  pub behind : {hs : List (List ℕ)} {bs : List (NameAt At)} (xs ys : List (Seen At)) → KnownIn hs bs (xs ++ ys) → KnownIn hs bs ys
  behind {hs = hs} {bs = bs} xs ys k = record { stands = go k.stands; clear = clear_back same_here x (Unit {0}) xs ys k.clear }
    where
      split : ListedIn hs bs → Parted same_here x tree xs ys → NoneAt same_here z ys ⊎ (ListedIn hs bs × StandsOnce same_here x tree ys)
      split l (in_front o n) = inl n
      split l (in_back n o) = inr (l, o)

      go : NoneAt same_here z (xs ++ ys) ⊎ (ListedIn hs bs × StandsOnce same_here x tree (xs ++ ys)) → NoneAt same_here z ys ⊎ (ListedIn hs bs × StandsOnce same_here x tree ys)
      go (inl n) = inl (without_back same_here z xs ys n)
      go (inr o) = split o.0 (parted same_here x tree xs ys o.1)

  -- the same parts at a place further on
  pub moved : (p q : Place At) (xs : List (Seen At)) → (Listed p → Listed q) → Known p xs → Known q xs
  moved p q xs f k = record { stands = go k.stands; clear = k.clear }
    where
      go : NoneAt same_here z xs ⊎ (Listed p × StandsOnce same_here x tree xs) → NoneAt same_here z xs ⊎ (Listed q × StandsOnce same_here x tree xs)
      go (inl n) = inl n
      go (inr o) = inr (f o.0, o.1)

  -- ---- expressions

  -- what is made of an expression has its facts
  pub replaced : (p : Place At) (u : Use) (y : Expr At) → Known p (expr_seen p u y) → ExprReplaced [] p.env y (new_expr c p u y)
  replaced p u y w = go w.stands
    where
      go : NoneAt same_here z (expr_seen p u y) ⊎ (Listed p × StandsOnce same_here x tree (expr_seen p u y)) → ExprReplaced [] p.env y (new_expr c p u y)
      go (inl n) = subst (λ (v : Expr At). ExprReplaced [] p.env y v) (sym (expr-free same_here z e p u y n)) (same_operand (operand_itself [] p.env y))
      go (inr o) =
          let r = (expr_put same_here x tree e (Unit {0}) [] here calls form facts blank (at_place p) p u y (same_place p o.0)).on (record { it = o.1 }) (record { it = w.clear }) in
          put_typed z r.place tree e (Unit {0}) around (facts_at same_here x tree e (Unit {0}) [] here calls form facts blank r.place r.there) r.operands (at_place p) []
          (record { listed = λ n b i. no_such n i; block = λ n i. r.around n (o.0 n i) }) y (new_expr c p u y) r.it

  pub all_replaced : (p : Place At) (us : List Use) (ys : Exprs At) → Known p (all_seen p us ys) → ExprsReplaced [] p.env ys (new_all c p us ys)
  all_replaced p us no_exprs w = no_more_exprs
  all_replaced p us (expr_and y ys) w =
      in_exprs
      (replaced (record p { slot = comma_slot p.slot ys }) (head_use us) y (front (expr_seen (record p { slot = comma_slot p.slot ys }) (head_use us) y) (all_seen p (later_uses us) ys) w))
      (all_replaced p (later_uses us) ys (behind (expr_seen (record p { slot = comma_slot p.slot ys }) (head_use us) y) (all_seen p (later_uses us) ys) w))

  -- what stands at the span is the call
  alone_there : (p : Place At) (u : Use) (y : Expr At) → StandsOnce same_here x tree (seen p u y ∷ []) → y ≡ tree
  alone_there p u y (inl k) = k.0.1
  alone_there p u y (inr k) = absurd k.1

  last_one : {hs : List (List ℕ)} {bs : List (NameAt At)} (p : Place At) (xs : List (Seen At)) (u : Use) (y : Expr At) → KnownIn hs bs (xs ++ seen p u y ∷ []) → is_at same_here z y ≡ true → y ≡ tree
  last_one {hs = hs} {bs = bs} p xs u y w i = go (behind xs (seen p u y ∷ []) w).stands
    where
      go : NoneAt same_here z (seen p u y ∷ []) ⊎ (ListedIn hs bs × StandsOnce same_here x tree (seen p u y ∷ [])) → y ≡ tree
      go (inl n) = absurd (grind (arith, sym i ∙ n.0))
      go (inr o) = alone_there p u y o.1

  the_call : {hs : List (List ℕ)} {bs : List (NameAt At)} (p : Place At) (u : Use) (y : Expr At) → KnownIn hs bs (expr_seen p u y) → is_at same_here z y ≡ true → y ≡ tree
  the_call p u (ident s n) w i = last_one p [] u (ident s n) w i
  the_call p u (selector s b n) w i = last_one p (expr_seen (in_slot (inner_slot p.slot (selector s b n) 7 false true) p) other b) u (selector s b n) w i
  the_call p u (call s f xs r) w i =
      last_one p (expr_seen (callee_place (inner_slot p.slot (call s f xs r) 7 true false) f p) called f ++ all_seen (in_slot (a_slot 1 false true) p) (arg_uses p.env (parts p.env f) (all_parts p.env xs)) xs) u (call s f xs r) w i
  the_call p u y w i = cc

  -- a selector is no call
  no_selector : (s : At) (b : Expr At) (n : NameAt At) → (is_at same_here z (selector s b n) ≡ true → selector s b n ≡ tree) → is_at same_here z (selector s b n) ≡ false
  no_selector s b n f = go (is_at same_here z (selector s b n)) refl
    where
      go : (t : Bool) → is_at same_here z (selector s b n) ≡ t → t ≡ false
      go true i = absurd (grind (arith, ap is_call (f i) ∙ calls))
      go false i = refl

  -- what stands before a dot keeps its type
  type_kept : (p q : Place At) (b : Expr At) → q.env ≡ p.env → ExprReplaced [] q.env b (new_expr c q other b) → type_at p.env (new_expr c q other b) ≡ type_at p.env b
  type_kept p q b same r = ap (λ (o : Option Operand). given (given o typed) (λ v. Some v.0)) (subst (λ (a : Env). parts a (new_expr c q other b) ≡ parts a b) same (sym (parts-in r)))

  -- what is called stays
  pub called_stays : (p : Place At) (u : Use) (y : Expr At) → Known p (expr_seen p u y) → CalledStays c z tree p y
  called_stays p u (call s (selector t b n) xs r) w =
      let s1 : Slot = inner_slot p.slot (call s (selector t b n) xs r) 7 true false in
      let q : Place At = in_slot s1 p in
      let d : Place At = before_dot c z tree s1 p (selector t b n) in
      let args : List (Seen At) = all_seen (in_slot (a_slot 1 false true) p) (arg_uses p.env (parts p.env (selector t b n)) (all_parts p.env xs)) xs in
      let f : Known p (expr_seen q called (selector t b n)) = front (expr_seen q called (selector t b n)) args (front (expr_seen q called (selector t b n) ++ args) (seen p u (call s (selector t b n) xs r) ∷ []) w) in
      let g : Known p (expr_seen d other b) = front (expr_seen d other b) (seen q called (selector t b n) ∷ []) f in (
        no_selector t b n (the_call q called (selector t b n) f),
        (the_call d other b g, type_kept p d b refl (replaced d other b g)),
      )
  called_stays p u (call s f xs r) w =
      the_call (callee_place (inner_slot p.slot (call s f xs r) 7 true false) f p) called f
      (front (expr_seen (callee_place (inner_slot p.slot (call s f xs r) 7 true false) f p) called f) (all_seen (in_slot (a_slot 1 false true) p) (arg_uses p.env (parts p.env f) (all_parts p.env xs)) xs)
      (front (expr_seen (callee_place (inner_slot p.slot (call s f xs r) 7 true false) f p) called f ++ all_seen (in_slot (a_slot 1 false true) p) (arg_uses p.env (parts p.env f) (all_parts p.env xs)) xs) (seen p u (call s f xs r) ∷ []) w))
  called_stays p u y w = tt

  -- ---- statements

  -- a statement with the same facts declares what it declared
  declares_kept : (p : Place At) (s r : Stmt At) → StmtReplaced [] p.env s r → (after_stmt p r).env ≡ (after_stmt p s).env
  declares_kept p s r k = λ i. extend (binds_of (sym (declared-in k) i) (sym (declares-in k) i)) p.env

  names_kept : (ns : List (NameAt At)) → new_names c ns ≡ ns
  names_kept ns = names-same same_here z e ns

  type_written : (p : Place At) (t : Option (TypeExpr At)) → TypeOptionReplaced [] p.env t (new_written c p t)
  type_written p t = subst (λ (v : Option (TypeExpr At)). TypeOptionReplaced [] p.env t v) (sym (written-same same_here z e p t)) (type_option [] p.env t)

  abbrev specs_in : ValueSpecs At → Stmt At → ValueSpecs At
  specs_in d (const_decl s g ss) = ss
  specs_in d s = d

  module _ (ps : List (Package At)) (marks : List MarkRef) (v : Where At) (at : ℕ) (m : MarkRef) where
    -- where nothing is put
    variables_still : (p : Place At) (ss : ValueSpecs At) → NoneAt same_here z (variables_seen p ss) → VariablesStay ps marks v at m c p ss
    variables_still p no_specs n = tt
    variables_still p (spec s ns t es ss) n =
        let w : NoneAt same_here z (written_seen p t ++ all_seen p (alike (value_use p.env t) ns) es) = without_front same_here z (written_seen p t ++ all_seen p (alike (value_use p.env t) ns) es) (variables_seen (after_variables p ns t es) ss) n in
        let a : NoneAt same_here z (all_seen p (alike (value_use p.env t) ns) es) = without_back same_here z (written_seen p t) (all_seen p (alike (value_use p.env t) ns) es) w in (
          (λ i. (after_variables p (names_kept ns i) (written-same same_here z e p t i) (all-free same_here z e p (alike (value_use p.env t) ns) es a i)).env),
          variables_still (after_variables p ns t es) ss (without_back same_here z (written_seen p t ++ all_seen p (alike (value_use p.env t) ns) es) (variables_seen (after_variables p ns t es) ss) n),
        )

    -- one spec
    spec_kept : (p : Place At) (ns : List (NameAt At)) (t : Option (TypeExpr At)) (es : Exprs At) → ExprsReplaced [] p.env es (new_all c p (alike (value_use p.env t) ns) es)
        → (after_variables p (new_names c ns) (new_written c p t) (new_all c p (alike (value_use p.env t) ns) es)).env ≡ (after_variables p ns t es).env
    spec_kept p ns t es r =
        λ i. extend
        (binds_of (names_of (names_kept ns i))
        (new_variables p.env (names_of (names_kept ns i)) (written_type p.env (written-same same_here z e p t i)) (sym (no_values-in r) i) (right_values p.env (length (names_kept ns i)) (sym (places-in r) i) (sym (all_parts-in r) i)))) p.env

    pub statement_stays : (p : Place At) (l : Bool) (s : Stmt At) → Known p (stmt_seen p l s) → StatementStays ps marks v at m c p s
    statement_stays p l (const_decl s g ss) w =
        let n : NoneAt same_here z (constants_seen (plain_slot p) nothing_to_repeat 0 ss) = (behind (constants_seen (plain_slot p) nothing_to_repeat 0 ss) (seen_stmt p (const_decl s g ss) ∷ []) w).clear.0.0 in
        ap (specs_in ss) (stmt_free same_here z e p l (const_decl s g ss) (join_none z (constants_seen (plain_slot p) nothing_to_repeat 0 ss) (seen_stmt p (const_decl s g ss) ∷ []) n (tt, tt)))
    statement_stays p l (var_decl s g no_specs) w = (refl, tt)
    statement_stays p l (var_decl s g (spec y ns t es no_specs)) w =
        let q : Place At = plain_slot p in
        let us : List Use = alike (value_use p.env t) ns in
        let a : Known p (written_seen q t ++ all_seen q us es) = front (written_seen q t ++ all_seen q us es) [] (front (written_seen q t ++ all_seen q us es ++ []) (seen_stmt p (var_decl s g (spec y ns t es no_specs)) ∷ []) w) in
        let r : ExprsReplaced [] p.env es (new_all c q us es) = all_replaced q us es (behind (written_seen q t) (all_seen q us es) a) in (
          declares_kept p (var_decl s g (spec y ns t es no_specs)) (var_decl s g (spec y (new_names c ns) (new_written c q t) (new_all c q us es) no_specs)) (in_var (in_variables (ap names_of (sym (names_kept ns))) (type_written q t) r no_more_variables)),
          (spec_kept q ns t es r, tt),
        )
    statement_stays p l (var_decl s g (spec y ns t es (spec y1 ns1 t1 es1 ss))) w =
        let all : ValueSpecs At = spec y ns t es (spec y1 ns1 t1 es1 ss) in
        let n : NoneAt same_here z (variables_seen (plain_slot p) all) = (behind (variables_seen (plain_slot p) all) (seen_stmt p (var_decl s g all) ∷ []) w).clear.0.0 refl in (
          ap (λ (k : Stmt At). (after_stmt p k).env) (stmt_free same_here z e p l (var_decl s g all) (join_none z (variables_seen (plain_slot p) all) (seen_stmt p (var_decl s g all) ∷ []) n (tt, tt))),
          variables_still (plain_slot p) all n,
        )
    statement_stays p l (define s ns ys) w =
        let a : Known p (all_seen p (alike whole ns) ys) = behind (old_seen p ns) (all_seen p (alike whole ns) ys) (front (old_seen p ns ++ all_seen p (alike whole ns) ys) (seen_stmt p (define s ns ys) ∷ []) w) in
        declares_kept p (define s ns ys) (define s (new_names c ns) (new_all c p (alike whole ns) ys)) (in_define (ap names_of (sym (names_kept ns))) (all_replaced p (alike whole ns) ys a))
    statement_stays p l (range_ s nothing y r b) w = refl
    statement_stays p l (range_ s (assigns xs) y r b) w = refl
    statement_stays p l (range_ s (defines ns) y r b) w =
        let q : Place At = in_heading true p in
        let inside : List (Seen At) = stmts_seen (looping (block (ranged p (defines ns) y))) b in
        let a : Known p (expr_seen q other y) = front (expr_seen q other y) inside (front (expr_seen q other y ++ inside) (seen_stmt p (range_ s (defines ns) y r b) ∷ []) w) in
        let k : ExprReplaced [] p.env y (new_expr c q other y) = replaced q other y a in
        (λ i. extend (binds_of (defined (defines (names_kept ns i))) (range_declares p.env (sym (parts-in k) i) (defines (names_kept ns i)))) (in_block p.env))
    statement_stays p l s w = tt
