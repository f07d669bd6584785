-- A body with a form in the place of a use, as a run puts it, is one in which the form stands in the use's place: one clause a construct.
use Rattle.std.proofs.Common.{◌≡◌, refl, sym, ap, ◌∙◌, subst, inl, inr, ℕ, zero, suc, ◌+◌, Bool, true, false, ◌||◌, List, [], ◌∷◌, ◌++◌, Option, Some, None, if◌then◌else◌, arith}
use Rattle.go_tree.specs.declared.exprs.Rest.{Rest}
use Rattle.go_tree.specs.Tree.{NameAt, Param, Sig, TypeExpr, Expr, ident, int_lit, rune_lit, str_lit, composite, selector, index, slice, call, func_lit, type_operand, unary, binary, star, Exprs, no_exprs, expr_and, ExprOption, no_expr, some_expr, Elems, no_elems, elem, Value, plain, braced, ValueOption, no_value, some_value, Stmt, const_decl, var_decl, empty, eval, step, assign, define, return_, break_, continue_, inner, if_, for_, range_, switch, defer, label, Stmts, no_stmts, stmt_and, StmtOption, no_stmt, some_stmt, BlockOption, no_block, some_block, RangeLeft, nothing, assigns, defines, Arms, no_arms, arm, Cases, no_cases, case, no_specs, spec}
use Rattle.go_tree.specs.GoWords.Terminals.{level_of}
use Rattle.go_tree.specs.ScopeNames.FreeNames.{names_of}
use Rattle.go_tree.specs.ScopeNames.Means.{is_blank}
use Rattle.go_tree.specs.ScopeNames.Scopes as scopes
use Rattle.go_tree.specs.ScopeNames.Scopes.{sig_declares}
use Rattle.go_tree.specs.GoTypes.Answers.{given, meets, otherwise, is_among}
use Rattle.go_tree.specs.GoTypes.Bodies.{literal_env, body_ctx, labelled}
use Rattle.go_tree.specs.GoTypes.Declarations.{nothing_to_repeat}
use Rattle.go_tree.specs.GoTypes.Defined.{under}
use Rattle.go_tree.specs.GoTypes.Entities.{Env, Binds, defined_in, extend, in_block}
use Rattle.go_tree.specs.GoTypes.TypeNames.{type_meant, func_type}
use Rattle.go_tree.specs.GoTypes.Types.{GoType, FuncType}
use Rattle.go_tree.specs.GoTypes.Literals.{is_struct, field_key, literal_type}
use Rattle.go_tree.specs.GoTypes.Typing.{parts, all_parts}
use Rattle.go_kernel.specs.Kernel.{ImportPath}
use Rattle.go_translation.specs.Facts.{literal_names, following, after}
use Rattle.go_translation.specs.Here.{Here, in_inner, at_body}
use Rattle.go_translation.specs.Mentions.{Mention, mentions_stmts}
use Rattle.go_translation.specs.Swapped.{loop_uses, loop_here, range_uses, range_here, switch_uses, switch_here, arm_uses, arm_here}
use Rattle.typed_in_place.specs.SameFacts.{SameOperand}
use Rattle.run_rules.specs.Forms.{is_at}
use Rattle.run_rules.specs.Places.{type_seen, written_seen, params_seen, sig_seen, old_seen, after_arms, expr_seen, all_seen, option_seen, elems_seen, key_seen, value_seen, stmt_seen, stmts_seen, first_seen, block_seen, left_seen, arms_seen, cases_seen, constants_seen, variables_seen}
use Rattle.run_rules.specs.Rewriting.{Changes, new_expr, new_all, new_option, new_elems, new_key, new_value, new_stmt, new_stmts, new_first, new_block, new_left, new_arms, new_cases}
use Rattle.run_rules.specs.FormTrees.{keep_span}
use Rattle.run_rules.specs.Respanned.{value_with}
use Rattle.run_rules.specs.Sites.{Site, part_span}
use Rattle.run_rules.specs.Surroundings.{Use, whole, stored, updated, called, deferred_call, alone, other, a_slot, Place, Seen, seen, seen_type, seen_stmt, alike, head_use, later_uses, arg_uses, unary_use, operand_use, first_operand_use, right_uses, every_use, value_use, return_uses, elem_use, key_use, elem_closed, into_type, inner_slot, last_slot, in_slot, callee_place, comma_slot, after_stmt, after_first, first_declares, left_declares, block, looping, switching, in_heading, at_stmt, plain_slot, ranged, in_literal, is_old, is_local}
use Rattle.constant_steps.proofs.StepLaws.NothingPut.{expr-free, all-free}
use Rattle.constant_steps.proofs.StepLaws.Swapping.{names-same, written-same, sig-same}
use Rattle.constant_steps.specs.StepLaws.Swaps.{put}
use Rattle.constant_steps.specs.WrittenLiteral.Fine.{is_call}
use Rattle.meaning_in_place.specs.InOperands.{in_left, in_right, in_unary, in_star, in_selected, in_indexed, in_index, in_sliced, in_low, in_high, in_argument, in_called_literal}
use Rattle.meaning_in_place.specs.InPackages.{NamesAround}
use Rattle.meaning_in_place.specs.Standing.{FirstAround}
use Rattle.meaning_in_place.specs.InStatements.{WithinExprs, this_expr, later_expr, WithinStmt, in_var, in_eval, in_step, in_left_side, in_updated, in_assign, in_update, in_define, in_return, in_braces, in_if, in_for_first, in_for_test, in_for_post, in_for_block, in_range, in_range_left, in_range_block, in_switch_first, in_switch_tag, in_switch_cases, in_defer, in_label, WithinFirst, in_first, WithinStmts, this_stmt, later_stmt, WithinArms, last_block, arm_first, arm_test, arm_block, later_arm, WithinCases, case_exprs, case_block, later_case}
use Rattle.literals_in_place.specs.Parts.{WithinElems, this_elem, this_key, later_elem, WithinValue, a_plain, in_inner_braces, in_operand, in_function, in_element, in_receiver}
use Rattle.literals_in_place.specs.Steps.{PutWithin, DeferredWithin}
use Rattle.literals_in_place.specs.StepsInBodies.Functions.{BlankAlike}
use Rattle.literals_in_place.specs.StepsInBodies.Once.{SamePlace, LiteralStays, StandsOnce, StandsClear}
use Rattle.literals_in_place.proofs.StepsInBodies.Parted.{Put, Ok, first_of, second_of, both, regrouped, mapped, deeper, scoped, scoped_deeper, nowhere, no_statement, no_type, never}
use Rattle.literals_in_place.proofs.StepsInBodies.Places.{block_same, wider, after_same, first_same, range_same, range_around, stmt_around, first_around, literal_same, literal_around}
use Rattle.literals_in_place.proofs.StepsInBodies.Staying.{spread}
use Rattle.literals_in_place.proofs.StepsInBodies.Typed.{function_typed}
use Rattle.literals_in_place.proofs.StepsInBodies.Unchanged.{elems_free, key_free, value_free, option_free, stmts_free, first_free, block_free, left_free, arms_free, cases_free, stmt_free}

back : {A : Type 0} (P : A → Type 0) {a b : A} → a ≡ b → P b → P a
back P q r = subst P (sym q) r

-- a bound or a condition that is there
data InOption {S : Type 0} (R : Expr S → Expr S → Type 0) : ExprOption S → ExprOption S → Type 0 where
  in_some : {y f : Expr S} → R y f → InOption R (some_expr y) (some_expr f)

-- a key that is there
data InKey {S : Type 0} (R : Value S → Value S → Type 0) : ValueOption S → ValueOption S → Type 0 where
  in_some_key : {v w : Value S} → R v w → InKey R (some_value v) (some_value w)

-- a call is no name
no_name_called : {S : Type 0} (y : Expr S) → is_call y ≡ true → field_key (plain y) ≡ None
no_name_called (call s f xs r) q = refl
no_name_called y q = cc

-- the left sides of a range
data InLeft {S : Type 0} (R : Exprs S → Exprs S → Type 0) : RangeLeft S → RangeLeft S → Type 0 where
  in_assigns : {ys fs : Exprs S} → R ys fs → InLeft R (assigns ys) (assigns fs)

module _ {S : Type 0} (same : S → S → Bool) (x : Site S) (tree e : Expr S) (lower : Type 0) (paths : List (ℕ × ImportPath)) (here : is_at same (part_span x.part) tree ≡ true) (calls : is_call tree ≡ true) (form : is_call e ≡ true) (facts : SameOperand (names_of x.place.bound) x.place.env tree e) (blank : BlankAlike x.place.env tree e) where
  abbrev z : S
  z = part_span x.part

  abbrev C : Changes S
  C = put same z e

  abbrev around : List (List ℕ)
  around = names_of x.place.bound

  abbrev Are : List (Seen S) → List (NameAt S) → (ℕ → Here → Type 0) → Type 0
  Are xs bound R = Ok same x tree e lower paths xs bound R

  abbrev Same : Here → Place S → Type 0
  Same h p = SamePlace paths h p.env p.bound

  -- ---- what is put

  abbrev St : ℕ → Here → Here → Expr S → Expr S → Type 0
  St k d = PutWithin d tree e lower around k

  abbrev De : ℕ → Here → Here → Expr S → Expr S → Type 0
  De k d = DeferredWithin d tree e lower around k

  abbrev Es : ℕ → Here → Here → Exprs S → Exprs S → Type 0
  Es k d h = WithinExprs (St k d) (De k d) around h

  abbrev El : ℕ → Here → Here → Elems S → Elems S → Type 0
  El k d h = WithinElems (St k d) h

  abbrev Va : ℕ → Here → Here → Value S → Value S → Type 0
  Va k d h = WithinValue (St k d) h

  abbrev Sm : ℕ → Here → Here → List Mention → Stmt S → Stmt S → Type 0
  Sm k d h = WithinStmt (St k d) (De k d) around h

  abbrev Fi : ℕ → Here → Here → List Mention → StmtOption S → StmtOption S → Type 0
  Fi k d h = WithinFirst (St k d) (De k d) around h

  abbrev Ss : ℕ → Here → Here → Stmts S → Stmts S → Type 0
  Ss k d h = WithinStmts (St k d) (De k d) around h

  abbrev Ar : ℕ → Here → Here → BlockOption S → BlockOption S → Arms S → Arms S → Type 0
  Ar k d h = WithinArms (St k d) (De k d) around h

  abbrev Ca : ℕ → Here → Here → Cases S → Cases S → Type 0
  Ca k d h = WithinCases (St k d) (De k d) around h

  -- ---- the facts at the place of the use

  pub facts_at : (d : Here) → SamePlace paths d x.place.env x.place.bound → (ar : List (List ℕ)) → ((n : List ℕ) → is_blank n ≡ false → is_among n ar ≡ true → is_among n around ≡ true) → SameOperand ar d.env tree e
  facts_at d m ar k =
      spread around d.env tree e calls form (subst (λ (v : Env). SameOperand around v tree e) (sym m.names) facts) (subst (λ (v : Env). BlankAlike v tree e) (sym m.names) blank) ar k

  -- ---- the use itself

  at_use : (y : Expr S) (b : Bool) → b ≡ true → otherwise (if b then Some e else None) y ≡ e
  at_use y true q = refl
  at_use y false q = cc

  no_use : {y f : Expr S} (b : Bool) → b ≡ false → y ≡ f → otherwise (if b then Some e else None) y ≡ f
  no_use true q r = cc
  no_use false q r = r

  put_here : (p : Place S) (u : Use) (y : Expr S) → is_at same z y ≡ true → new_expr C p u y ≡ e
  put_here p u (call s f xs r) q = at_use _ (same z s) q
  put_here p u (ident s n) q = at_use _ (same z s) q
  put_here p u (selector s b n) q = at_use _ (same z s) q
  put_here p u (int_lit _ _) q = cc
  put_here p u (rune_lit _ _) q = cc
  put_here p u (str_lit _ _) q = cc
  put_here p u (composite _ _ _) q = cc
  put_here p u (index _ _ _) q = cc
  put_here p u (slice _ _ _ _) q = cc
  put_here p u (func_lit _ _ _ _) q = cc
  put_here p u (type_operand _ _) q = cc
  put_here p u (unary _ _ _) q = cc
  put_here p u (binary _ _ _ _) q = cc
  put_here p u (star _ _) q = cc

  use_put : (h : Here) (p : Place S) (u : Use) (y : Expr S) → Same h p → Are (seen p u y ∷ []) p.bound (λ k d. St k d h y (new_expr C p u y))
  use_put h p u y al = record { on = λ o c. go o.it }
    where
      go : StandsOnce same x tree (seen p u y ∷ []) → Put same x tree e lower paths p.bound (λ k d. St k d h y (new_expr C p u y))
      go (inl q) =
          record {
            operands = zero;
            place = h;
            it = record { place = refl; before = q.0.1; after = put_here p u y (ap (is_at same z) q.0.1 ∙ here) };
            there = subst (λ (v : Place S). SamePlace paths h v.env v.bound) q.0.0 al;
            around = λ n i. subst (λ (v : Place S). is_local v n ≡ true) q.0.0 i;
          }
      go (inr q) = absurd q.1

  -- what isn't called is no use
  is_none : {bound : List (NameAt S)} {R : ℕ → Here → Type 0} (p : Place S) (u : Use) (y : Expr S) → is_call y ≡ false → Are (seen p u y ∷ []) bound R
  is_none {bound = bound} {R = R} p u y f = record { on = λ o c. go o.it }
    where
      go : StandsOnce same x tree (seen p u y ∷ []) → Put same x tree e lower paths bound R
      go (inl q) = absurd (grind (arith, sym calls ∙ ap is_call (sym q.0.1) ∙ f))
      go (inr q) = absurd q.1

  -- ---- types and names

  params_none : {bound : List (NameAt S)} {R : ℕ → Here → Type 0} (p : Place S) (ps : List (Param S)) → Are (params_seen p ps) bound R
  params_none p [] = nowhere
  params_none p (y ∷ ps) = both (seen_type p y.of ∷ []) (params_seen p ps) (λ n c. no_type p y.of) (λ n c. params_none p ps)

  sig_none : {bound : List (NameAt S)} {R : ℕ → Here → Type 0} (p : Place S) (g : Sig S) → Are (sig_seen p g) bound R
  sig_none p g = both (params_seen p g.params) (params_seen p g.results) (λ n c. params_none p g.params) (λ n c. params_none p g.results)

  written_none : {bound : List (NameAt S)} {R : ℕ → Here → Type 0} (p : Place S) (t : Option (TypeExpr S)) → Are (written_seen p t) bound R
  written_none p None = nowhere
  written_none p (Some t) = no_type p t

  old_none : {bound : List (NameAt S)} {R : ℕ → Here → Type 0} (p : Place S) (ns : List (NameAt S)) → Are (old_seen p ns) bound R
  old_none p [] = nowhere
  old_none {bound = bound} {R = R} p (n ∷ ns) = go (is_old p n) (old_none p ns)
    where
      go : (b : Bool) → Are (old_seen p ns) bound R → Are (if b then seen p stored (ident n.span n.name) ∷ old_seen p ns else old_seen p ns) bound R
      go true r = both (seen p stored (ident n.span n.name) ∷ []) (old_seen p ns) (λ m c. is_none p stored (ident n.span n.name) refl) (λ m c. r)
      go false r = r

  -- ---- places in literals

  abbrev literal_place : Place S → Sig S → Option FuncType → Place S
  literal_place p g o =
      elim o [
        | None ↦ p
        | Some f ↦ record p {
          env = literal_env p.env g;
          bound = sig_declares g ++ p.bound;
          ctx = body_ctx g f;
          deferred = p.deferred || p.deferring;
          deferring = false;
          since = sig_declares g ++ (if p.deferring then [] else p.since);
          literals = suc p.literals;
        }
      ]

  abbrev literal_start : Here → Sig S → Stmts S → FuncType → Binds → Here
  literal_start h g b f bs = at_body h bs (literal_names g f) (mentions_stmts (extend bs (in_block h.env)) b)

  module _ (h : Here) (p : Place S) (al : Same h p) (s t : S) (g : Sig S) (b : Stmts S) (l : LiteralStays p g) where
    abbrev start : Here
    start = literal_start h g b l.of l.binds

    starts_same : Same start (in_literal p g)
    starts_same = subst (λ (o : Option FuncType). SamePlace paths start (literal_place p g o).env (literal_place p g o).bound) (sym l.typed) (literal_same h p al g l.of l.binds l.typed l.bound (mentions_stmts (extend l.binds (in_block h.env)) b))

    bound_is : (in_literal p g).bound ≡ sig_declares g ++ p.bound
    bound_is = ap (λ (o : Option FuncType). (literal_place p g o).bound) l.typed

    start_wider : (n : List ℕ) → is_among n (names_of p.bound) ≡ true → is_among n (names_of (in_literal p g).bound) ≡ true
    start_wider n i = ap (λ (v : List (NameAt S)). is_among n (names_of v)) bound_is ∙ wider (sig_declares g) p.bound n i

    typed_here : func_type h.env g ≡ Some l.of
    typed_here = ap (λ (v : Env). func_type v g) al.names ∙ l.typed

    names_around : ((n : List ℕ) → is_among n (names_of (in_literal p g).bound) ≡ true → is_local x.place n ≡ true) → NamesAround around (literal_names g l.of)
    names_around f = literal_around h p al g l.of l.binds l.typed l.bound around (λ n i. f n (ap (λ (v : List (NameAt S)). is_among n (names_of v)) bound_is ∙ i))

    -- it is typed as before
    alike_here : (k : ℕ) (d : Here) → SamePlace paths d x.place.env x.place.bound → ((n : List ℕ) → is_among n (names_of (in_literal p g).bound) ≡ true → is_local x.place n ≡ true) → Ss k d start b (new_stmts C (in_literal p g) b) → parts h.env (func_lit s g t b) ≡ parts h.env (func_lit s g t (new_stmts C (in_literal p g) b))
    alike_here k d m f q = function_typed z d tree e lower around (facts_at d m) k h s t g l.of l.binds b (new_stmts C (in_literal p g) b) typed_here l.bound (names_around f) q

    -- the value of the literal
    value_put : (u : Use) → Are (stmts_seen (in_literal p g) b) (in_literal p g).bound (λ k d. Ss k d start b (new_stmts C (in_literal p g) b)) → Are (stmts_seen (in_literal p g) b) p.bound (λ k d. St k d h (func_lit s g t b) (new_expr C p u (func_lit s g t b)))
    value_put u r =
        scoped_deeper r start_wider
        (λ k d m f q. back (λ v. St (suc k) d h (func_lit s g t b) (func_lit s v t (new_stmts C (in_literal p g) b))) (sig-same same z e p g)
        (in_function s t g l.of l.binds typed_here l.bound (alike_here k d m f q) (names_around f) q))

    -- the literal is called
    called_put : (v : S) (u : Use) (xs : Exprs S) (r : Rest) → Are (stmts_seen (in_literal p g) b) (in_literal p g).bound (λ k d. Ss k d start b (new_stmts C (in_literal p g) b))
        → Are (stmts_seen (in_literal p g) b) p.bound (λ k d. St k d h (call v (func_lit s g t b) xs r) (call v (new_expr C p u (func_lit s g t b)) xs r))
    called_put v u xs r q =
        scoped_deeper q start_wider
        (λ k d m f q. back (λ w. St (suc k) d h (call v (func_lit s g t b) xs r) (call v (func_lit s w t (new_stmts C (in_literal p g) b)) xs r)) (sig-same same z e p g)
        (in_operand (in_called_literal v s t g l.of l.binds xs r typed_here l.bound (alike_here k d m f q) (names_around f) q)))

  -- ---- bounds and conditions

  slice_low : (k : ℕ) (d h : Here) (s : S) (b : Expr S) (i l j : ExprOption S) → InOption (St k d h) i l → St (suc k) d h (slice s b i j) (slice s b l j)
  slice_low k d h s b _ _ j (in_some r) = in_operand (in_low s b j r)

  slice_high : (k : ℕ) (d h : Here) (s : S) (b : Expr S) (i j l : ExprOption S) → InOption (St k d h) j l → St (suc k) d h (slice s b i j) (slice s b i l)
  slice_high k d h s b i _ _ (in_some r) = in_operand (in_high s b i r)

  for_tested : (k : ℕ) (d h : Here) (ms : List Mention) (s y : S) (i : StmtOption S) (t l : ExprOption S) (q : StmtOption S) (b : Stmts S) → FirstAround around (in_block h.env) i → InOption (St k d (loop_here h i t q b)) t l → Sm k d h ms (for_ s i t q y b) (for_ s i l q y b)
  for_tested k d h ms s y i _ _ q b a (in_some r) = in_for_test s y i q b a r

  switch_tagged : (k : ℕ) (d h : Here) (ms : List Mention) (s : S) (i : StmtOption S) (t l : ExprOption S) (cs : Cases S) → FirstAround around (in_block h.env) i → InOption (St k d (switch_here h i t cs)) t l → Sm k d h ms (switch s i t cs) (switch s i l cs)
  switch_tagged k d h ms s i _ _ cs a (in_some r) = in_switch_tag s i cs a r

  -- neither a call nor what holds one is a name
  no_name : (k : ℕ) (d h : Here) (y f : Expr S) → St k d h y f → field_key (plain y) ≡ field_key (plain f)
  no_name zero d h y f r = no_name_called y (ap is_call r.before ∙ calls) ∙ sym (no_name_called f (ap is_call r.after ∙ form))
  no_name (suc k) d h _ _ (in_function s t g f bs a b q n w) = refl
  no_name (suc k) d h _ _ (in_element s t q) = refl
  no_name (suc k) d h _ _ (in_receiver s t n xs r q) = refl
  no_name (suc k) d h _ _ (in_operand (in_left s o y q)) = refl
  no_name (suc k) d h _ _ (in_operand (in_right s o y q)) = refl
  no_name (suc k) d h _ _ (in_operand (in_unary s o q)) = refl
  no_name (suc k) d h _ _ (in_operand (in_star s q)) = refl
  no_name (suc k) d h _ _ (in_operand (in_selected s n q)) = refl
  no_name (suc k) d h _ _ (in_operand (in_indexed s i q)) = refl
  no_name (suc k) d h _ _ (in_operand (in_index s b q)) = refl
  no_name (suc k) d h _ _ (in_operand (in_sliced s i j q)) = refl
  no_name (suc k) d h _ _ (in_operand (in_low s b j q)) = refl
  no_name (suc k) d h _ _ (in_operand (in_high s b i q)) = refl
  no_name (suc k) d h _ _ (in_operand (in_argument s y r q)) = refl
  no_name (suc k) d h _ _ (in_operand (in_called_literal s t1 t2 g f bs xs r a b q n w)) = refl

  names_alike : (k : ℕ) (d h : Here) {v w : Value S} → Va k d h v w → field_key v ≡ field_key w
  names_alike k d h (a_plain {e = y} {f = f} r) = no_name k d h y f r
  names_alike k d h (in_inner_braces s q) = refl

  keyed : (j : ℕ) (d h : Here) (s : S) (k l : ValueOption S) (v : Value S) (es : Elems S) → InKey (Va j d h) k l → El j d h (elem s k v es) (elem s l v es)
  keyed j d h s _ _ v es (in_some_key q) = this_key s v es (names_alike j d h q) q

  range_lefted : (k : ℕ) (d h : Here) (ms : List Mention) (s r : S) (v l : RangeLeft S) (y : Expr S) (b : Stmts S) → InLeft (Es k d h) v l → Sm k d h ms (range_ s v y r b) (range_ s l y r b)
  range_lefted k d h ms s r _ _ y b (in_assigns q) = in_range_left s r y b q

  as_deferred : (k : ℕ) (d h : Here) (y f : Expr S) → (is_at same z y ≡ true → lower) → St k d h y f → De k d h y f
  as_deferred zero d h y f l r = (r, l (ap (is_at same z) r.before ∙ here))
  as_deferred (suc k) d h y f l r = r

  -- ---- the walk

  mutual
    pub expr_put : (h : Here) (p : Place S) (u : Use) (y : Expr S) → Same h p → Are (expr_seen p u y) p.bound (λ k d. St k d h y (new_expr C p u y))
    expr_put h p u (ident s n) al = use_put h p u (ident s n) al
    expr_put h p u (int_lit s n) al = use_put h p u (int_lit s n) al
    expr_put h p u (rune_lit s n) al = use_put h p u (rune_lit s n) al
    expr_put h p u (str_lit s n) al = use_put h p u (str_lit s n) al
    expr_put h p u (composite s t es) al =
        both (type_seen p t ++ elems_seen (in_slot (a_slot 1 false false) p) (given (type_meant p.env t) (λ u. Some (under (defined_in p.env) u))) 0 es) (seen p u (composite s t es) ∷ []) (λ n c. both (type_seen p t) (elems_seen (in_slot (a_slot 1 false false) p) (given (type_meant p.env t) (λ u. Some (under (defined_in p.env) u))) 0 es) (λ m a. no_type p t) (λ m a. deeper (elems_put h (in_slot (a_slot 1 false false) p) (given (type_meant p.env t) (λ u. Some (under (defined_in p.env) u))) 0 es al) (λ k d q. in_element s t q))) (λ n c. is_none p u (composite s t es) refl)
    expr_put h p u (selector s b n) al =
        both (expr_seen (in_slot (inner_slot p.slot (selector s b n) 7 false true) p) other b) (seen p u (selector s b n) ∷ [])
        (λ m c. deeper (expr_put h (in_slot (inner_slot p.slot (selector s b n) 7 false true) p) other b al) (λ k d r. back (λ v. St (suc k) d h (selector s b n) v) (no_use (same z s) m.it.0 refl) (in_operand (in_selected s n r))))
        (λ m c. use_put h p u (selector s b n) al)
    expr_put h p u (index s b i) al =
        both ((expr_seen (in_slot (inner_slot p.slot (index s b i) 7 false false) p) other b) ++ (expr_seen (in_slot (a_slot 1 false false) p) other i)) (seen p u (index s b i) ∷ [])
        (λ m c. both (expr_seen (in_slot (inner_slot p.slot (index s b i) 7 false false) p) other b) (expr_seen (in_slot (a_slot 1 false false) p) other i)
        (λ n a. deeper (expr_put h (in_slot (inner_slot p.slot (index s b i) 7 false false) p) other b al) (λ k d r. back (λ v. St (suc k) d h (index s b i) (index s (new_expr C (in_slot (inner_slot p.slot (index s b i) 7 false false) p) other b) v)) (expr-free same z e (in_slot (a_slot 1 false false) p) other i n.it) (in_operand (in_indexed s i r))))
        (λ n a. deeper (expr_put h (in_slot (a_slot 1 false false) p) other i al) (λ k d r. back (λ v. St (suc k) d h (index s b i) (index s v (new_expr C (in_slot (a_slot 1 false false) p) other i))) (expr-free same z e (in_slot (inner_slot p.slot (index s b i) 7 false false) p) other b n.it) (in_operand (in_index s b r)))))
        (λ m c. is_none p u (index s b i) refl)
    expr_put h p u (slice s b i j) al =
        both ((expr_seen (in_slot (inner_slot p.slot (slice s b i j) 7 false false) p) other b) ++ (option_seen (in_slot (a_slot 1 false false) p) i) ++ (option_seen (in_slot (a_slot 1 false false) p) j)) (seen p u (slice s b i j) ∷ [])
        (λ m c. both ((expr_seen (in_slot (inner_slot p.slot (slice s b i j) 7 false false) p) other b) ++ (option_seen (in_slot (a_slot 1 false false) p) i)) (option_seen (in_slot (a_slot 1 false false) p) j)
        (λ n a. both (expr_seen (in_slot (inner_slot p.slot (slice s b i j) 7 false false) p) other b) (option_seen (in_slot (a_slot 1 false false) p) i)
        (λ o a. deeper (expr_put h (in_slot (inner_slot p.slot (slice s b i j) 7 false false) p) other b al) (λ k d r. back (λ v. St (suc k) d h (slice s b i j) v) (λ w. slice s (new_expr C (in_slot (inner_slot p.slot (slice s b i j) 7 false false) p) other b) (option_free same z e (in_slot (a_slot 1 false false) p) i o.it w) (option_free same z e (in_slot (a_slot 1 false false) p) j n.it w)) (in_operand (in_sliced s i j r))))
        (λ o a. deeper (option_put h (in_slot (a_slot 1 false false) p) i al) (λ k d r. back (λ v. St (suc k) d h (slice s b i j) v) (λ w. slice s (expr-free same z e (in_slot (inner_slot p.slot (slice s b i j) 7 false false) p) other b o.it w) (new_option C (in_slot (a_slot 1 false false) p) i) (option_free same z e (in_slot (a_slot 1 false false) p) j n.it w)) (slice_low k d h s b i (new_option C (in_slot (a_slot 1 false false) p) i) j r))))
        (λ n a. deeper (option_put h (in_slot (a_slot 1 false false) p) j al) (λ k d r. back (λ v. St (suc k) d h (slice s b i j) v) (λ w. slice s (expr-free same z e (in_slot (inner_slot p.slot (slice s b i j) 7 false false) p) other b (first_of _ _ n).it w) (option_free same z e (in_slot (a_slot 1 false false) p) i (second_of _ _ n).it w) (new_option C (in_slot (a_slot 1 false false) p) j)) (slice_high k d h s b i j (new_option C (in_slot (a_slot 1 false false) p) j) r))))
        (λ m c. is_none p u (slice s b i j) refl)
    expr_put h p u (call s f xs r) al =
        both ((expr_seen (callee_place (inner_slot p.slot (call s f xs r) 7 true false) f p) called f) ++ (all_seen (in_slot (a_slot 1 false true) p) (arg_uses p.env (parts p.env f) (all_parts p.env xs)) xs)) (seen p u (call s f xs r) ∷ [])
        (λ m c. both (expr_seen (callee_place (inner_slot p.slot (call s f xs r) 7 true false) f p) called f) (all_seen (in_slot (a_slot 1 false true) p) (arg_uses p.env (parts p.env f) (all_parts p.env xs)) xs)
        (λ n a. mapped (callee_put h p u s f xs r al c.it.0.0) (λ k d q. back (λ v. St k d h (call s f xs r) v) (no_use (same z s) m.it.0 (λ w. call s (new_expr C (callee_place (inner_slot p.slot (call s f xs r) 7 true false) f p) called f) (all-free same z e (in_slot (a_slot 1 false true) p) (arg_uses p.env (parts p.env f) (all_parts p.env xs)) xs n.it w) r)) q))
        (λ n a. deeper (exprs_put h (in_slot (a_slot 1 false true) p) (arg_uses p.env (parts p.env f) (all_parts p.env xs)) xs al) (λ k d q. back (λ v. St (suc k) d h (call s f xs r) v) (no_use (same z s) m.it.0 (λ w. call s (expr-free same z e (callee_place (inner_slot p.slot (call s f xs r) 7 true false) f p) called f n.it w) (new_all C (in_slot (a_slot 1 false true) p) (arg_uses p.env (parts p.env f) (all_parts p.env xs)) xs) r)) (in_operand (in_argument s f r q)))))
        (λ m c. use_put h p u (call s f xs r) al)
    expr_put h p u (func_lit s g t b) al =
        both ((sig_seen p g) ++ (stmts_seen (in_literal p g) b)) (seen p u (func_lit s g t b) ∷ [])
        (λ m c. both (sig_seen p g) (stmts_seen (in_literal p g) b) (λ n a. sig_none p g) (λ n a. value_put h p al s t g b c.it.0.0 u (stmts_put (literal_start h g b c.it.0.0.of c.it.0.0.binds) (in_literal p g) b (starts_same h p al s t g b c.it.0.0))))
        (λ m c. is_none p u (func_lit s g t b) refl)
    expr_put h p u (type_operand s t) al = both (type_seen p t) (seen p u (type_operand s t) ∷ []) (λ m c. no_type p t) (λ m c. is_none p u (type_operand s t) refl)
    expr_put h p u (unary s o y) al =
        both (expr_seen (in_slot (last_slot p.slot (unary s o y) 6 (Some o)) p) (unary_use o) y) (seen p u (unary s o y) ∷ [])
        (λ m c. deeper (expr_put h (in_slot (last_slot p.slot (unary s o y) 6 (Some o)) p) (unary_use o) y al) (λ k d r. in_operand (in_unary s o r)))
        (λ m c. is_none p u (unary s o y) refl)
    expr_put h p u (binary s o a b) al =
        both ((expr_seen (in_slot (inner_slot p.slot (binary s o a b) (level_of o) false false) p) (operand_use p.env o b) a) ++ (expr_seen (in_slot (last_slot p.slot (binary s o a b) (level_of o + 1) None) p) (operand_use p.env o a) b)) (seen p u (binary s o a b) ∷ [])
        (λ m c. both (expr_seen (in_slot (inner_slot p.slot (binary s o a b) (level_of o) false false) p) (operand_use p.env o b) a) (expr_seen (in_slot (last_slot p.slot (binary s o a b) (level_of o + 1) None) p) (operand_use p.env o a) b)
        (λ n f. deeper (expr_put h (in_slot (inner_slot p.slot (binary s o a b) (level_of o) false false) p) (operand_use p.env o b) a al) (λ k d r. back (λ v. St (suc k) d h (binary s o a b) (binary s o (new_expr C (in_slot (inner_slot p.slot (binary s o a b) (level_of o) false false) p) (operand_use p.env o b) a) v)) (expr-free same z e (in_slot (last_slot p.slot (binary s o a b) (level_of o + 1) None) p) (operand_use p.env o a) b n.it) (in_operand (in_left s o b r))))
        (λ n f. deeper (expr_put h (in_slot (last_slot p.slot (binary s o a b) (level_of o + 1) None) p) (operand_use p.env o a) b al) (λ k d r. back (λ v. St (suc k) d h (binary s o a b) (binary s o v (new_expr C (in_slot (last_slot p.slot (binary s o a b) (level_of o + 1) None) p) (operand_use p.env o a) b))) (expr-free same z e (in_slot (inner_slot p.slot (binary s o a b) (level_of o) false false) p) (operand_use p.env o b) a n.it) (in_operand (in_right s o a r)))))
        (λ m c. is_none p u (binary s o a b) refl)
    expr_put h p u (star s y) al =
        both (expr_seen (in_slot (last_slot p.slot (star s y) 6 None) p) other y) (seen p u (star s y) ∷ []) (λ m c. deeper (expr_put h (in_slot (last_slot p.slot (star s y) 6 None) p) other y al) (λ k d r. in_operand (in_star s r))) (λ m c. is_none p u (star s y) refl)

    callee_put : (h : Here) (p : Place S) (u : Use) (s : S) (f : Expr S) (xs : Exprs S) (r : Rest) → Same h p → StandsClear same x (seen p u (call s f xs r)) → Are (expr_seen (callee_place (inner_slot p.slot (call s f xs r) 7 true false) f p) called f) p.bound (λ k d. St k d h (call s f xs r) (call s (new_expr C (callee_place (inner_slot p.slot (call s f xs r) 7 true false) f p) called f) xs r))
    callee_put h p u s (func_lit s1 g s2 b) xs r al c =
        both ((sig_seen (record p { slot = inner_slot p.slot (call s (func_lit s1 g s2 b) xs r) 7 true false }) g) ++ (stmts_seen (in_literal (record p { slot = inner_slot p.slot (call s (func_lit s1 g s2 b) xs r) 7 true false }) g) b)) (seen (record p { slot = inner_slot p.slot (call s (func_lit s1 g s2 b) xs r) 7 true false }) called (func_lit s1 g s2 b) ∷ [])
        (λ m a. both (sig_seen (record p { slot = inner_slot p.slot (call s (func_lit s1 g s2 b) xs r) 7 true false }) g) (stmts_seen (in_literal (record p { slot = inner_slot p.slot (call s (func_lit s1 g s2 b) xs r) 7 true false }) g) b) (λ n f. sig_none (record p { slot = inner_slot p.slot (call s (func_lit s1 g s2 b) xs r) 7 true false }) g) (λ n f. called_put h (record p { slot = inner_slot p.slot (call s (func_lit s1 g s2 b) xs r) 7 true false }) al s1 s2 g b a.it.0.0 s called xs r (stmts_put (literal_start h g b a.it.0.0.of a.it.0.0.binds) (in_literal (record p { slot = inner_slot p.slot (call s (func_lit s1 g s2 b) xs r) 7 true false }) g) b (starts_same h (record p { slot = inner_slot p.slot (call s (func_lit s1 g s2 b) xs r) 7 true false }) al s1 s2 g b a.it.0.0))))
        (λ m a. is_none (record p { slot = inner_slot p.slot (call s (func_lit s1 g s2 b) xs r) 7 true false }) called (func_lit s1 g s2 b) refl)
    callee_put h p u s (selector t b n) xs r al c =
        both (expr_seen (in_slot (inner_slot (inner_slot p.slot (call s (selector t b n) xs r) 7 true false) (selector t b n) 7 false true) (in_slot (inner_slot p.slot (call s (selector t b n) xs r) 7 true false) p)) other b) (seen (in_slot (inner_slot p.slot (call s (selector t b n) xs r) 7 true false) p) called (selector t b n) ∷ [])
        (λ m a. deeper (expr_put h (in_slot (inner_slot (inner_slot p.slot (call s (selector t b n) xs r) 7 true false) (selector t b n) 7 false true) (in_slot (inner_slot p.slot (call s (selector t b n) xs r) 7 true false) p)) other b al) (λ k d q. back (λ v. St (suc k) d h (call s (selector t b n) xs r) (call s v xs r)) (no_use (same z t) m.it.0 refl) (in_receiver s t n xs r q)))
        (λ m a. is_none (in_slot (inner_slot p.slot (call s (selector t b n) xs r) 7 true false) p) called (selector t b n) refl)
    callee_put h p u s f xs r al c = never here _ c

    exprs_put : (h : Here) (p : Place S) (us : List Use) (ys : Exprs S) → Same h p → Are (all_seen p us ys) p.bound (λ k d. Es k d h ys (new_all C p us ys))
    exprs_put h p us no_exprs al = nowhere
    exprs_put h p us (expr_and y ys) al =
        both (expr_seen (record p { slot = comma_slot p.slot ys }) (head_use us) y) (all_seen p (later_uses us) ys)
        (λ n c. mapped (expr_put h (record p { slot = comma_slot p.slot ys }) (head_use us) y al) (λ k d r. back (λ v. Es k d h (expr_and y ys) (expr_and (new_expr C (record p { slot = comma_slot p.slot ys }) (head_use us) y) v)) (all-free same z e p (later_uses us) ys n.it) (this_expr r)))
        (λ n c. mapped (exprs_put h p (later_uses us) ys al) (λ k d r. back (λ v. Es k d h (expr_and y ys) (expr_and v (new_all C p (later_uses us) ys))) (expr-free same z e (record p { slot = comma_slot p.slot ys }) (head_use us) y n.it) (later_expr r)))

    left_put : (h : Here) (p : Place S) (l : RangeLeft S) → Same h p → Are (left_seen p l) p.bound (λ k d. InLeft (Es k d h) l (new_left C p l))
    left_put h p nothing al = nowhere
    left_put h p (assigns xs) al = mapped (exprs_put h p (every_use stored xs) xs al) (λ k d r. in_assigns r)
    left_put h p (defines ns) al = nowhere

    option_put : (h : Here) (p : Place S) (i : ExprOption S) → Same h p → Are (option_seen p i) p.bound (λ k d. InOption (St k d h) i (new_option C p i))
    option_put h p no_expr al = nowhere
    option_put h p (some_expr y) al = mapped (expr_put h p other y al) (λ k d r. in_some r)

    elems_put : (h : Here) (p : Place S) (u : Option GoType) (i : ℕ) (es : Elems S) → Same h p → Are (elems_seen p u i es) p.bound (λ k d. El k d h es (new_elems C p u i es))
    elems_put h p u i no_elems al = nowhere
    elems_put h p u i (elem s k v es) al =
        both ((key_seen p u k) ++ (value_seen (record p { slot = a_slot 1 false (elem_closed es) }) (elem_use p.env u i k) v)) (elems_seen p u (suc i) es)
        (λ n c. both (key_seen p u k) (value_seen (record p { slot = a_slot 1 false (elem_closed es) }) (elem_use p.env u i k) v) (λ m a. mapped (key_put h p u k al) (λ j d q. back (λ t. El j d h (elem s k v es) t) (λ r. elem s (new_key C p u k) (value_free same z e (record p { slot = a_slot 1 false (elem_closed es) }) (elem_use p.env u i k) v m.it r) (elems_free same z e p u (suc i) es n.it r)) (keyed j d h s k (new_key C p u k) v es q)))
        (λ m a. mapped (value_put_in h (record p { slot = a_slot 1 false (elem_closed es) }) (elem_use p.env u i k) v al) (λ j d q. back (λ t. El j d h (elem s k v es) t) (λ r. elem s (key_free same z e p u k m.it r) (new_value C (record p { slot = a_slot 1 false (elem_closed es) }) (elem_use p.env u i k) v) (elems_free same z e p u (suc i) es n.it r)) (this_elem s k es q))))
        (λ n c. mapped (elems_put h p u (suc i) es al) (λ j d q. back (λ t. El j d h (elem s k v es) t) (λ r. elem s (key_free same z e p u k (first_of _ _ n).it r) (value_free same z e (record p { slot = a_slot 1 false (elem_closed es) }) (elem_use p.env u i k) v (second_of _ _ n).it r) (new_elems C p u (suc i) es)) (later_elem s k v q)))

    key_put : (h : Here) (p : Place S) (u : Option GoType) (k : ValueOption S) → Same h p → Are (key_seen p u k) p.bound (λ j d. InKey (Va j d h) k (new_key C p u k))
    key_put h p u no_value al = nowhere
    key_put h p u (some_value v) al = go (meets u is_struct) (mapped (value_put_in h p (key_use p.env u) v al) (λ j d r. in_some_key r))
      where
        go : (b : Bool) → Are (value_seen p (key_use p.env u) v) p.bound (λ j d. InKey (Va j d h) (some_value v) (some_value (new_value C p (key_use p.env u) v)))
            → Are (if b then [] else value_seen p (key_use p.env u) v) p.bound (λ j d. InKey (Va j d h) (some_value v) (some_value (if b then value_with keep_span v else new_value C p (key_use p.env u) v)))
        go true r = nowhere
        go false r = r

    value_put_in : (h : Here) (p : Place S) (u : Use) (v : Value S) → Same h p → Are (value_seen p u v) p.bound (λ k d. Va k d h v (new_value C p u v))
    value_put_in h p u (plain y) al = mapped (expr_put h p u y al) (λ k d r. a_plain r)
    value_put_in h p u (braced s es) al = mapped (elems_put h p (given (into_type u) (λ t. Some (under (defined_in p.env) (literal_type (defined_in p.env) t)))) 0 es al) (λ k d r. in_inner_braces s r)

    stmt_put : (h : Here) (ms : List Mention) (p : Place S) (l : Bool) (y : Stmt S) → Same h p → Are (stmt_seen p l y) p.bound (λ k d. Sm k d h ms y (new_stmt C p l y))
    stmt_put h ms p l (const_decl s g ss) al = both (constants_seen (plain_slot p) nothing_to_repeat 0 ss) (seen_stmt p (const_decl s g ss) ∷ []) (λ n c. never here (constants_seen (plain_slot p) nothing_to_repeat 0 ss) c.it.0.0) (λ n c. no_statement p (const_decl s g ss))
    stmt_put h ms p l (var_decl s g no_specs) al = no_statement p (var_decl s g no_specs)
    stmt_put h ms p l (var_decl s g (spec y ns t es no_specs)) al =
        both ((written_seen (plain_slot p) t) ++ (all_seen (plain_slot p) (alike (value_use p.env t) ns) es) ++ []) (seen_stmt p (var_decl s g (spec y ns t es no_specs)) ∷ [])
        (λ n c. both ((written_seen (plain_slot p) t) ++ (all_seen (plain_slot p) (alike (value_use p.env t) ns) es)) [] (λ m a. both (written_seen (plain_slot p) t) (all_seen (plain_slot p) (alike (value_use p.env t) ns) es) (λ o f. written_none (plain_slot p) t)
        (λ o f. mapped (exprs_put h (plain_slot p) (alike (value_use p.env t) ns) es al) (λ k d r. back (λ v. Sm k d h ms (var_decl s g (spec y ns t es no_specs)) v) (λ w. var_decl s g (spec y (names-same same z e ns w) (written-same same z e (plain_slot p) t w) (new_all C (plain_slot p) (alike (value_use p.env t) ns) es) no_specs)) (in_var s y g ns t r))))
        (λ m a. nowhere)) (λ n c. no_statement p (var_decl s g (spec y ns t es no_specs)))
    stmt_put h ms p l (var_decl s g (spec y ns t es (spec y1 ns1 t1 es1 ss))) al = both (variables_seen (plain_slot p) (spec y ns t es (spec y1 ns1 t1 es1 ss))) (seen_stmt p (var_decl s g (spec y ns t es (spec y1 ns1 t1 es1 ss))) ∷ []) (λ n c. never here (variables_seen (plain_slot p) (spec y ns t es (spec y1 ns1 t1 es1 ss))) (c.it.0.0 refl)) (λ n c. no_statement p (var_decl s g (spec y ns t es (spec y1 ns1 t1 es1 ss))))
    stmt_put h ms p l (empty s) al = no_statement p (empty s)
    stmt_put h ms p l (eval s y) al = both (expr_seen p (alone l) y) (seen_stmt p (eval s y) ∷ []) (λ n c. mapped (expr_put h p (alone l) y al) (λ k d r. in_eval s r)) (λ n c. no_statement p (eval s y))
    stmt_put h ms p l (step s y b) al = both (expr_seen p updated y) (seen_stmt p (step s y b) ∷ []) (λ n c. mapped (expr_put h p updated y al) (λ k d r. in_step s b r)) (λ n c. no_statement p (step s y b))
    stmt_put h ms p l (assign s xs None ys) al =
        both ((all_seen p (every_use stored xs) xs) ++ (all_seen p (right_uses p.env xs) ys)) (seen_stmt p (assign s xs None ys) ∷ [])
        (λ n c. both (all_seen p (every_use stored xs) xs) (all_seen p (right_uses p.env xs) ys) (λ m a. mapped (exprs_put h p (every_use stored xs) xs al) (λ k d r. back (λ v. Sm k d h ms (assign s xs None ys) (assign s (new_all C p (every_use stored xs) xs) None v)) (all-free same z e p (right_uses p.env xs) ys m.it) (in_left_side s ys r)))
        (λ m a. mapped (exprs_put h p (right_uses p.env xs) ys al) (λ k d r. back (λ v. Sm k d h ms (assign s xs None ys) (assign s v None (new_all C p (right_uses p.env xs) ys))) (all-free same z e p (every_use stored xs) xs m.it) (in_assign s xs r))))
        (λ n c. no_statement p (assign s xs None ys))
    stmt_put h ms p l (assign s xs (Some o) ys) al =
        both ((all_seen p (every_use updated xs) xs) ++ (all_seen p (first_operand_use p.env o xs ∷ []) ys)) (seen_stmt p (assign s xs (Some o) ys) ∷ [])
        (λ n c. both (all_seen p (every_use updated xs) xs) (all_seen p (first_operand_use p.env o xs ∷ []) ys) (λ m a. mapped (exprs_put h p (every_use updated xs) xs al) (λ k d r. back (λ v. Sm k d h ms (assign s xs (Some o) ys) (assign s (new_all C p (every_use updated xs) xs) (Some o) v)) (all-free same z e p (first_operand_use p.env o xs ∷ []) ys m.it) (in_updated s o ys r)))
        (λ m a. mapped (exprs_put h p (first_operand_use p.env o xs ∷ []) ys al) (λ k d r. back (λ v. Sm k d h ms (assign s xs (Some o) ys) (assign s v (Some o) (new_all C p (first_operand_use p.env o xs ∷ []) ys))) (all-free same z e p (every_use updated xs) xs m.it) (in_update s xs o r))))
        (λ n c. no_statement p (assign s xs (Some o) ys))
    stmt_put h ms p l (define s ns ys) al =
        both (old_seen p ns ++ (all_seen p (alike whole ns) ys)) (seen_stmt p (define s ns ys) ∷ [])
        (λ n c. both (old_seen p ns) (all_seen p (alike whole ns) ys) (λ m a. old_none p ns)
        (λ m a. mapped (exprs_put h p (alike whole ns) ys al) (λ k d r. back (λ v. Sm k d h ms (define s ns ys) (define s v (new_all C p (alike whole ns) ys))) (names-same same z e ns) (in_define s ns r))))
        (λ n c. no_statement p (define s ns ys))
    stmt_put h ms p l (return_ s xs) al = both (all_seen p (return_uses p.ctx.results xs) xs) (seen_stmt p (return_ s xs) ∷ []) (λ n c. mapped (exprs_put h p (return_uses p.ctx.results xs) xs al) (λ k d r. in_return s r)) (λ n c. no_statement p (return_ s xs))
    stmt_put h ms p l (break_ s n) al = no_statement p (break_ s n)
    stmt_put h ms p l (continue_ s n) al = no_statement p (continue_ s n)
    stmt_put h ms p l (inner s b) al = both (stmts_seen (block p) b) (seen_stmt p (inner s b) ∷ []) (λ n c. mapped (stmts_put (in_inner h) (block p) b (block_same al)) (λ k d r. in_braces s r)) (λ n c. no_statement p (inner s b))
    stmt_put h ms p l (if_ s bs y) al = both (arms_seen (block p) bs ++ block_seen (after_arms (block p) bs) y) (seen_stmt p (if_ s bs y) ∷ []) (λ n c. mapped (arms_put (in_inner h) (block p) y bs (block_same al) (λ d q m. block_put d q y m)) (λ k d r. in_if s r)) (λ n c. no_statement p (if_ s bs y))
    stmt_put h ms p l (for_ s i t q y b) al =
        both ((first_seen (in_heading true (block p)) i) ++ (option_seen (in_heading true (after_first (block p) i)) t) ++ (first_seen (in_heading true (after_first (block p) i)) q) ++ (stmts_seen (looping (block (after_first (block p) i))) b)) (seen_stmt p (for_ s i t q y b) ∷ [])
        (λ n c. both ((first_seen (in_heading true (block p)) i) ++ (option_seen (in_heading true (after_first (block p) i)) t) ++ (first_seen (in_heading true (after_first (block p) i)) q)) (stmts_seen (looping (block (after_first (block p) i))) b)
        (λ m a. both ((first_seen (in_heading true (block p)) i) ++ (option_seen (in_heading true (after_first (block p) i)) t)) (first_seen (in_heading true (after_first (block p) i)) q)
        (λ o a. both (first_seen (in_heading true (block p)) i) (option_seen (in_heading true (after_first (block p) i)) t)
        (λ j a. mapped (first_put (in_inner h) (loop_uses h i t q b) (in_heading true (block p)) i (block_same al)) (λ k d r. back (λ v. Sm k d h ms (for_ s i t q y b) v) (λ w. for_ s (new_first C (in_heading true (block p)) i) (option_free same z e (in_heading true (after_first (block p) i)) t j.it w) (first_free same z e (in_heading true (after_first (block p) i)) q o.it w) y (stmts_free same z e (looping (block (after_first (block p) i))) b m.it w)) (in_for_first s y t q b r)))
        (λ j a. scoped (option_put (loop_here h i t q b) (in_heading true (after_first (block p) i)) t (first_same (in_inner h) (block p) i (loop_uses h i t q b) (block_same al))) (wider (first_declares i) p.bound) (λ k d f r. back (λ v. Sm k d h ms (for_ s i t q y b) v) (λ w. for_ s (first_free same z e (in_heading true (block p)) i j.it w) (new_option C (in_heading true (after_first (block p) i)) t) (first_free same z e (in_heading true (after_first (block p) i)) q o.it w) y (stmts_free same z e (looping (block (after_first (block p) i))) b m.it w)) (for_tested k d h ms s y i t (new_option C (in_heading true (after_first (block p) i)) t) q b (first_around around z (in_inner h) (block p) (block_same al) i f) r))))
        (λ o a. scoped (first_put (loop_here h i t q b) [] (in_heading true (after_first (block p) i)) q (first_same (in_inner h) (block p) i (loop_uses h i t q b) (block_same al))) (wider (first_declares i) p.bound) (λ k d f r. back (λ v. Sm k d h ms (for_ s i t q y b) v) (λ w. for_ s (first_free same z e (in_heading true (block p)) i (first_of _ _ o).it w) (option_free same z e (in_heading true (after_first (block p) i)) t (second_of _ _ o).it w) (new_first C (in_heading true (after_first (block p) i)) q) y (stmts_free same z e (looping (block (after_first (block p) i))) b m.it w)) (in_for_post s y i t b (first_around around z (in_inner h) (block p) (block_same al) i f) r))))
        (λ m a. scoped (stmts_put (in_inner (loop_here h i t q b)) (looping (block (after_first (block p) i))) b (block_same (first_same (in_inner h) (block p) i (loop_uses h i t q b) (block_same al)))) (wider (first_declares i) p.bound) (λ k d f r. back (λ v. Sm k d h ms (for_ s i t q y b) v) (λ w. for_ s (first_free same z e (in_heading true (block p)) i (first_of _ _ (first_of _ _ m)).it w) (option_free same z e (in_heading true (after_first (block p) i)) t (second_of _ _ (first_of _ _ m)).it w) (first_free same z e (in_heading true (after_first (block p) i)) q (second_of _ _ m).it w) y (new_stmts C (looping (block (after_first (block p) i))) b)) (in_for_block s y i t q (first_around around z (in_inner h) (block p) (block_same al) i f) r))))
        (λ n c. no_statement p (for_ s i t q y b))
    stmt_put h ms p l (range_ s v y r b) al =
        both ((left_seen (in_heading true p) v) ++ (expr_seen (in_heading true p) other y) ++ (stmts_seen (looping (block (ranged p v y))) b)) (seen_stmt p (range_ s v y r b) ∷ [])
        (λ n c. both ((left_seen (in_heading true p) v) ++ (expr_seen (in_heading true p) other y)) (stmts_seen (looping (block (ranged p v y))) b)
        (λ m a. both (left_seen (in_heading true p) v) (expr_seen (in_heading true p) other y) (λ o f. mapped (left_put h (in_heading true p) v al) (λ k d q. back (λ i. Sm k d h ms (range_ s v y r b) i) (λ w. range_ s (new_left C (in_heading true p) v) (expr-free same z e (in_heading true p) other y o.it w) r (stmts_free same z e (looping (block (ranged p v y))) b m.it w)) (range_lefted k d h ms s r v (new_left C (in_heading true p) v) y b q)))
        (λ o f. mapped (expr_put h (in_heading true p) other y al) (λ k d q. back (λ i. Sm k d h ms (range_ s v y r b) i) (λ w. range_ s (left_free same z e (in_heading true p) v o.it w) (new_expr C (in_heading true p) other y) r (stmts_free same z e (looping (block (ranged p v y))) b m.it w)) (in_range s r v b q))))
        (λ m a. scoped (stmts_put (in_inner (range_here h v y b)) (looping (block (ranged p v y))) b (block_same (range_same h p v y (range_uses h v y b) al))) (wider (left_declares v) p.bound) (λ k d f q. back (λ i. Sm k d h ms (range_ s v y r b) i) (λ w. range_ s (left_free same z e (in_heading true p) v (first_of _ _ m).it w) (expr-free same z e (in_heading true p) other y (second_of _ _ m).it w) r (new_stmts C (looping (block (ranged p v y))) b)) (in_range_block s r v y (range_around around h p v y al f) q))))
        (λ n c. no_statement p (range_ s v y r b))
    stmt_put h ms p l (switch s i t cs) al =
        both ((first_seen (in_heading true (block p)) i) ++ (option_seen (in_heading true (after_first (block p) i)) t) ++ (cases_seen (switching (after_first (block p) i)) cs)) (seen_stmt p (switch s i t cs) ∷ [])
        (λ n c. both ((first_seen (in_heading true (block p)) i) ++ (option_seen (in_heading true (after_first (block p) i)) t)) (cases_seen (switching (after_first (block p) i)) cs)
        (λ m a. both (first_seen (in_heading true (block p)) i) (option_seen (in_heading true (after_first (block p) i)) t)
        (λ o a. mapped (first_put (in_inner h) (switch_uses h i t cs) (in_heading true (block p)) i (block_same al)) (λ k d r. back (λ v. Sm k d h ms (switch s i t cs) v) (λ w. switch s (new_first C (in_heading true (block p)) i) (option_free same z e (in_heading true (after_first (block p) i)) t o.it w) (cases_free same z e (switching (after_first (block p) i)) cs m.it w)) (in_switch_first s t cs r)))
        (λ o a. scoped (option_put (switch_here h i t cs) (in_heading true (after_first (block p) i)) t (first_same (in_inner h) (block p) i (switch_uses h i t cs) (block_same al))) (wider (first_declares i) p.bound) (λ k d f r. back (λ v. Sm k d h ms (switch s i t cs) v) (λ w. switch s (first_free same z e (in_heading true (block p)) i o.it w) (new_option C (in_heading true (after_first (block p) i)) t) (cases_free same z e (switching (after_first (block p) i)) cs m.it w)) (switch_tagged k d h ms s i t (new_option C (in_heading true (after_first (block p) i)) t) cs (first_around around z (in_inner h) (block p) (block_same al) i f) r))))
        (λ m a. scoped (cases_put (switch_here h i t cs) (switching (after_first (block p) i)) cs (first_same (in_inner h) (block p) i (switch_uses h i t cs) (block_same al))) (wider (first_declares i) p.bound) (λ k d f r. back (λ v. Sm k d h ms (switch s i t cs) v) (λ w. switch s (first_free same z e (in_heading true (block p)) i (first_of _ _ m).it w) (option_free same z e (in_heading true (after_first (block p) i)) t (second_of _ _ m).it w) (new_cases C (switching (after_first (block p) i)) cs)) (in_switch_cases s i t (first_around around z (in_inner h) (block p) (block_same al) i f) r))))
        (λ n c. no_statement p (switch s i t cs))
    stmt_put h ms p l (defer s y) al = both (expr_seen (record p { deferring = true; slot = a_slot 0 false false }) deferred_call y) (seen_stmt p (defer s y) ∷ []) (λ n c. mapped (expr_put h (record p { deferring = true; slot = a_slot 0 false false }) deferred_call y al) (λ k d r. in_defer s (as_deferred k d h y (new_expr C (record p { deferring = true; slot = a_slot 0 false false }) deferred_call y) c.it.0.1 r))) (λ n c. no_statement p (defer s y))
    stmt_put h ms p l (label s n y) al = both (stmt_seen (record p { ctx = labelled p.ctx n y }) false y) (seen_stmt p (label s n y) ∷ []) (λ m c. mapped (stmt_put h ms (record p { ctx = labelled p.ctx n y }) false y al) (λ k d r. in_label s n r)) (λ m c. no_statement p (label s n y))

    pub stmts_put : (h : Here) (p : Place S) (b : Stmts S) → Same h p → Are (stmts_seen p b) p.bound (λ k d. Ss k d h b (new_stmts C p b))
    stmts_put h p no_stmts al = nowhere
    stmts_put h p (stmt_and s ss) al =
        both (stmt_seen (at_stmt p s) true s) (stmts_seen (after_stmt p s) ss)
        (λ n c. mapped (stmt_put h (following h s ss) (at_stmt p s) true s al) (λ k d r. back (λ v. Ss k d h (stmt_and s ss) (stmt_and (new_stmt C (at_stmt p s) true s) v)) (stmts_free same z e (after_stmt p s) ss n.it) (this_stmt ss r)))
        (λ n c. scoped (stmts_put (after h s ss) (after_stmt p s) ss (after_same h p s ss al)) (wider (scopes.declares p.env.here s) p.bound) (λ k d f r. back (λ v. Ss k d h (stmt_and s ss) (stmt_and v (new_stmts C (after_stmt p s) ss))) (stmt_free same z e (at_stmt p s) true s n.it) (later_stmt s (stmt_around around z h p al s f) r)))

    first_put : (h : Here) (ms : List Mention) (p : Place S) (i : StmtOption S) → Same h p → Are (first_seen p i) p.bound (λ k d. Fi k d h ms i (new_first C p i))
    first_put h ms p no_stmt al = nowhere
    first_put h ms p (some_stmt s) al = mapped (stmt_put h ms p false s al) (λ k d r. in_first r)

    block_put : (h : Here) (p : Place S) (y : BlockOption S) → Same h p → Are (block_seen p y) p.bound (λ k d. Ar k d h y (new_block C p y) no_arms no_arms)
    block_put h p no_block al = nowhere
    block_put h p (some_block s b) al = mapped (stmts_put (in_inner h) (block p) b (block_same al)) (λ k d r. last_block s r)

    arms_put : (h : Here) (p : Place S) (y : BlockOption S) (bs : Arms S) → Same h p → ((d : Here) (q : Place S) → Same d q → Are (block_seen q y) q.bound (λ k c. Ar k c d y (new_block C q y) no_arms no_arms)) → Are (arms_seen p bs ++ block_seen (after_arms p bs) y) p.bound (λ k d. Ar k d h y (new_block C (after_arms p bs) y) bs (new_arms C p bs))
    arms_put h p y no_arms al last = last h p al
    arms_put h p y (arm s i t r b more) al last =
        regrouped ((first_seen (in_heading true p) i) ++ (expr_seen (in_heading true (after_first p i)) other t) ++ (stmts_seen (block (after_first p i)) b)) (arms_seen (block (after_first p i)) more) (block_seen (after_arms (block (after_first p i)) more) y) (both ((first_seen (in_heading true p) i) ++ (expr_seen (in_heading true (after_first p i)) other t) ++ (stmts_seen (block (after_first p i)) b)) ((arms_seen (block (after_first p i)) more) ++ (block_seen (after_arms (block (after_first p i)) more) y))
        (λ n c. both ((first_seen (in_heading true p) i) ++ (expr_seen (in_heading true (after_first p i)) other t)) (stmts_seen (block (after_first p i)) b)
        (λ m a. both (first_seen (in_heading true p) i) (expr_seen (in_heading true (after_first p i)) other t)
        (λ o a. mapped (first_put h (arm_uses h i t b y more) (in_heading true p) i al) (λ k d q. back (λ (v : BlockOption S × Arms S). Ar k d h y v.0 (arm s i t r b more) v.1) (λ w. ((block_free same z e (after_arms (block (after_first p i)) more) y (second_of _ _ n).it w), arm s (new_first C (in_heading true p) i) (expr-free same z e (in_heading true (after_first p i)) other t o.it w) r (stmts_free same z e (block (after_first p i)) b m.it w) (arms_free same z e (block (after_first p i)) more (first_of _ _ n).it w))) (arm_first s r t b more q)))
        (λ o a. scoped (expr_put (arm_here h i t b y more) (in_heading true (after_first p i)) other t (first_same h p i (arm_uses h i t b y more) al)) (wider (first_declares i) p.bound) (λ k d f q. back (λ (v : BlockOption S × Arms S). Ar k d h y v.0 (arm s i t r b more) v.1) (λ w. ((block_free same z e (after_arms (block (after_first p i)) more) y (second_of _ _ n).it w), arm s (first_free same z e (in_heading true p) i o.it w) (new_expr C (in_heading true (after_first p i)) other t) r (stmts_free same z e (block (after_first p i)) b m.it w) (arms_free same z e (block (after_first p i)) more (first_of _ _ n).it w))) (arm_test s r i b more (first_around around z h p al i f) q))))
        (λ m a. scoped (stmts_put (in_inner (arm_here h i t b y more)) (block (after_first p i)) b (block_same (first_same h p i (arm_uses h i t b y more) al))) (wider (first_declares i) p.bound) (λ k d f q. back (λ (v : BlockOption S × Arms S). Ar k d h y v.0 (arm s i t r b more) v.1) (λ w. ((block_free same z e (after_arms (block (after_first p i)) more) y (second_of _ _ n).it w), arm s (first_free same z e (in_heading true p) i (first_of _ _ m).it w) (expr-free same z e (in_heading true (after_first p i)) other t (second_of _ _ m).it w) r (new_stmts C (block (after_first p i)) b) (arms_free same z e (block (after_first p i)) more (first_of _ _ n).it w))) (arm_block s r i t more (first_around around z h p al i f) q))))
        (λ n c. scoped (arms_put (in_inner (arm_here h i t b y more)) (block (after_first p i)) y more (block_same (first_same h p i (arm_uses h i t b y more) al)) last) (wider (first_declares i) p.bound) (λ k d f q. back (λ (v : BlockOption S × Arms S). Ar k d h y v.0 (arm s i t r b more) v.1) (λ w. ((new_block C (after_arms (block (after_first p i)) more) y), arm s (first_free same z e (in_heading true p) i (first_of _ _ (first_of _ _ n)).it w) (expr-free same z e (in_heading true (after_first p i)) other t (second_of _ _ (first_of _ _ n)).it w) r (stmts_free same z e (block (after_first p i)) b (second_of _ _ n).it w) (new_arms C (block (after_first p i)) more))) (later_arm s r i t b (first_around around z h p al i f) q))))

    cases_put : (h : Here) (p : Place S) (cs : Cases S) → Same h p → Are (cases_seen p cs) p.bound (λ k d. Ca k d h cs (new_cases C p cs))
    cases_put h p no_cases al = nowhere
    cases_put h p (case s es b cs) al =
        both ((all_seen (in_heading false p) [] es) ++ (stmts_seen (block p) b)) (cases_seen p cs)
        (λ n c. both (all_seen (in_heading false p) [] es) (stmts_seen (block p) b)
        (λ m a. mapped (exprs_put h (in_heading false p) [] es al) (λ k d r. back (λ v. Ca k d h (case s es b cs) v) (λ w. case s (new_all C (in_heading false p) [] es) (stmts_free same z e (block p) b m.it w) (cases_free same z e p cs n.it w)) (case_exprs s b cs r)))
        (λ m a. mapped (stmts_put (in_inner h) (block p) b (block_same al)) (λ k d r. back (λ v. Ca k d h (case s es b cs) v) (λ w. case s (all-free same z e (in_heading false p) [] es m.it w) (new_stmts C (block p) b) (cases_free same z e p cs n.it w)) (case_block s es cs r))))
        (λ n c. mapped (cases_put h p cs al) (λ k d r. back (λ v. Ca k d h (case s es b cs) v) (λ w. case s (all-free same z e (in_heading false p) [] es (first_of _ _ n).it w) (stmts_free same z e (block p) b (second_of _ _ n).it w) (new_cases C p cs)) (later_case s es b r)))
