-- The names among the parts of a declaration stand apart, where they stand in their order.
use Rattle.std.proofs.Common.{◌≡◌, ◌∙◌, ◌≤◌, ◌+◌, ◌⊎◌, inl, inr, ℕ, zero, suc, Bool, true, false, List, [], ◌∷◌, ◌++◌, map, Option, Some, None, refl, sym, ap, subst, arith}
use Rattle.std.specs.Prelude.{if◌then◌else◌, slice_get}
use Rattle.std.proofs.lemmas.List.{append_assoc, append-nil}
use Rattle.std.proofs.lemmas.Option.{same_Some}
use Rattle.std.specs.Option.{option_map}
use Rattle.go_tree.specs.declared.spans.Span.{Span}
use Rattle.go_tree.specs.Tree.{NameAt, TypeExpr, named, pointer, slice_type, map_type, struct_type, Fields, no_fields, field, Param, Sig, Expr, Exprs, ExprOption, Elems, Value, ValueOption, Stmt, Stmts, StmtOption, BlockOption, RangeLeft, Arms, Cases, ValueSpecs, ident, int_lit, rune_lit, str_lit, composite, selector, index, slice, call, func_lit, type_operand, unary, binary, star, no_exprs, expr_and, no_expr, some_expr, no_elems, elem, plain, braced, no_value, some_value, const_decl, var_decl, empty, eval, step, assign, define, return_, break_, continue_, inner, if_, for_, range_, switch, defer, label, no_stmts, stmt_and, no_stmt, some_stmt, no_block, some_block, nothing, assigns, defines, no_arms, arm, no_cases, case, no_specs, spec}
use Rattle.go_tree.specs.File.{TypeSpec, Receiver, Decl, values, types, func, File}
use Rattle.go_tree.specs.GoWords.Terminals.{level_of}
use Rattle.go_tree.specs.GoTypes.Answers.{given, meets}
use Rattle.go_tree.specs.GoTypes.Types.{GoType}
use Rattle.go_tree.specs.GoTypes.Defined.{under}
use Rattle.go_tree.specs.GoTypes.Entities.{defined_in}
use Rattle.go_tree.specs.GoTypes.TypeNames.{type_meant}
use Rattle.go_tree.specs.GoTypes.Literals.{is_struct, literal_type}
use Rattle.go_tree.specs.GoTypes.Typing.{parts, all_parts}
use Rattle.go_tree.specs.GoTypes.Bodies.{labelled}
use Rattle.go_tree.specs.GoTypes.Declarations.{Repeated, nothing_to_repeat}
use Rattle.pkg_graph.specs.Package.{Package}
use Rattle.run_rules.specs.Surroundings.{Use, whole, stored, updated, called, deferred_call, alone, other, a_slot, Place, Seen, seen, seen_type, seen_stmt, alike, into_type, head_use, later_uses, arg_uses, unary_use, operand_use, first_operand_use, right_uses, every_use, value_use, return_uses, elem_use, key_use, inner_slot, last_slot, in_slot, callee_place, comma_slot, elem_closed, after_stmt, after_first, block, looping, switching, in_heading, at_stmt, plain_slot, ranged, in_literal, repeated_by, in_constant, after_constants, before_repeats, after_variables, is_old}
use Rattle.run_rules.specs.Places.{type_seen, written_seen, params_seen, sig_seen, old_seen, after_arms, expr_seen, all_seen, option_seen, elems_seen, key_seen, value_seen, stmt_seen, stmts_seen, first_seen, block_seen, left_seen, arms_seen, cases_seen, constants_seen, variables_seen}
use Rattle.run_rules.specs.Programs.{top_place, body_place, decl_seen, receiver_seen, constants_at_top, variables_at_top, types_at_top}
use Rattle.run_rules.specs.Respanned.{name_with, type_with, fields_with, type_option_with, param_with, sig_with, expr_with, exprs_with, expr_option_with, elems_with, value_option_with, value_with, stmt_with, stmts_with, stmt_option_with, block_option_with, left_with, arms_with, cases_with, specs_with, type_spec_with, receiver_with, decl_with, decls_with, file_with}
use Rattle.run_rules.specs.Sites.{Where, named_in, named_in_fields}
use Rattle.run_rules.specs.Texts.{FileText}
use Rattle.run_rules.specs.Inlining.{ReadsAs}
use Rattle.name_places.specs.NamesThere.{by_itself, NameThere, Among, type_spelling, type_there, types_there, field_place, names_in, fields_in, fields_in_elems, fields_in_key, fields_in_value, names_among, fields_among, StandApart}
use Rattle.name_places.proofs.Lists.{among_front, among_either}
use Rattle.name_places.proofs.Ordered.{Shares, SharesNext, TypeIn, FieldsIn, TypeOptionIn, ParamsIn, SigIn, NamesIn, ExprIn, ExprsIn, ExprOptionIn, ElemsIn, ValueIn, ValueOptionIn, StmtIn, StmtsIn, StmtOptionIn, BlockOptionIn, LeftIn, ArmsIn, CasesIn, SpecsIn, TypeSpecsIn, ReceiverIn, DeclIn, DeclsIn}
use Rattle.name_places.proofs.Far.{Apart, name, key, fewer, wider, both, Far, far_both, far_close, far_selector, stands_apart}
use Rattle.name_places.proofs.Far as far
use Rattle.name_places.proofs.Spelled.{decls_in}

-- ---- names of types, with the spans of their text

abbrev type_names : TypeExpr Span → List NameThere
type_names t = types_there (λ s. s) (named_in t)

abbrev fields_names : Fields Span → List NameThere
fields_names fs = types_there (λ s. s) (named_in_fields fs)

abbrev params_names : List (Param Span) → List NameThere
params_names [] = []
params_names (p ∷ ps) = type_names p.of ++ params_names ps

there_both : {S : Type 0} (to : S → Span) (xs ys : List (TypeExpr S)) → types_there to (xs ++ ys) ≡ types_there to xs ++ types_there to ys
there_both to [] ys = refl
there_both to (x ∷ xs) ys = ap (λ (ns : List NameThere). type_there to x ++ ns) (there_both to xs ys) ∙ sym (append_assoc (type_there to x) (types_there to xs) (types_there to ys))

module _ {S : Type 0} (to : S → Span) where
  abbrev A : ℕ → ℕ → List NameThere → Type 0
  A lo hi ns = Apart to lo hi ns []

  two : (lo m hi : ℕ) (ns ms : List NameThere) → lo ≤ m → m ≤ hi → A lo m ns → A m hi ms → A lo hi (ns ++ ms)
  two lo m hi ns ms a b h k = both to lo m hi ns ms [] [] a b h k

  -- names that others have too
  again : (lo hi : ℕ) (ns ms : List NameThere) → ((x : NameThere) → Among x ns → Among x ms) → A lo hi ms → A lo hi (ns ++ ms)
  again lo hi ns ms f h = fewer to lo hi ms (ns ++ ms) [] [] (λ x m. on x (among_either x ns ms m)) (λ s m. m) h
    where
      on : (x : NameThere) → Among x ns ⊎ Among x ms → Among x ms
      on x (inl m) = f x m
      on x (inr m) = m

  shared_field : (t : TypeExpr Span) (fs : Fields Span) → Shares t fs → (x : NameThere) → Among x (type_names t) → Among x (fields_names fs)
  shared_field t no_fields e x m = absurd e
  shared_field t (field s n u fs) e x m =
      subst (λ (ns : List NameThere). Among x ns) (sym (there_both (λ s. s) (named_in u) (named_in_fields fs)))
      (among_front x (type_names u) (fields_names fs) (subst (λ (v : TypeExpr Span). Among x (type_names v)) e m))

  shared_param : (t : TypeExpr Span) (ps : List (Param Span)) → SharesNext t ps → (x : NameThere) → Among x (type_names t) → Among x (params_names ps)
  shared_param t [] e x m = absurd e
  shared_param t (p ∷ ps) e x m = among_front x (type_names p.of) (params_names ps) (subst (λ (v : TypeExpr Span). Among x (type_names v)) e m)

  mutual
    type_apart : (t : TypeExpr Span) (lo hi : ℕ) → TypeIn t lo hi → A lo hi (type_names t)
    type_apart (named s q n) lo hi h = name to lo hi s (type_spelling q n.name) h
    type_apart (pointer s t) lo hi h = type_apart t lo hi h
    type_apart (slice_type s t) lo hi h = type_apart t lo hi h
    type_apart (map_type s k t) lo hi h =
        subst (A lo hi) (sym (there_both (λ s. s) (named_in k) (named_in t))) (two lo h.mid hi (type_names k) (type_names t) h.from h.to (type_apart k lo h.mid h.first) (type_apart t h.mid hi h.second))
    type_apart (struct_type s fs) lo hi h = fields_apart fs lo hi h

    fields_apart : (fs : Fields Span) (lo hi : ℕ) → FieldsIn fs lo hi → A lo hi (fields_names fs)
    fields_apart no_fields lo hi h = far.nothing to lo hi
    fields_apart (field s n t fs) lo hi (inl h) =
        subst (A lo hi) (sym (there_both (λ s. s) (named_in t) (named_in_fields fs))) (two lo h.mid hi (type_names t) (fields_names fs) h.from h.to (type_apart t lo h.mid h.first) (fields_apart fs h.mid hi h.second))
    fields_apart (field s n t fs) lo hi (inr h) =
        subst (A lo hi) (sym (there_both (λ s. s) (named_in t) (named_in_fields fs))) (again lo hi (type_names t) (fields_names fs) (shared_field t fs h.0) (fields_apart fs lo hi h.1))

  params_apart : (ps : List (Param Span)) (lo hi : ℕ) → ParamsIn ps lo hi → A lo hi (params_names ps)
  params_apart [] lo hi h = far.nothing to lo hi
  params_apart (p ∷ ps) lo hi (inl h) = two lo h.mid hi (type_names p.of) (params_names ps) h.from h.to (type_apart p.of lo h.mid h.first) (params_apart ps h.mid hi h.second)
  params_apart (p ∷ ps) lo hi (inr h) = again lo hi (type_names p.of) (params_names ps) (shared_param p.of ps h.0) (params_apart ps lo hi h.1)

  -- ---- the same of nodes

  mutual
    type_same : (t : TypeExpr S) → types_there to (named_in t) ≡ type_names (type_with to t)
    type_same (named s None n) = refl
    type_same (named s (Some q) n) = refl
    type_same (pointer s t) = type_same t
    type_same (slice_type s t) = type_same t
    type_same (map_type s k t) =
        there_both to (named_in k) (named_in t) ∙ (λ v. type_same k v ++ type_same t v)
        ∙ sym (there_both (λ s. s) (named_in (type_with to k)) (named_in (type_with to t)))
    type_same (struct_type s fs) = fields_same fs

    fields_same : (fs : Fields S) → types_there to (named_in_fields fs) ≡ fields_names (fields_with to fs)
    fields_same no_fields = refl
    fields_same (field s n t fs) =
        there_both to (named_in t) (named_in_fields fs) ∙ (λ v. type_same t v ++ fields_same fs v)
        ∙ sym (there_both (λ s. s) (named_in (type_with to t)) (named_in_fields (fields_with to fs)))

  params_same : (p : Place S) (xs : List (Param S)) → names_among to (params_seen p xs) ≡ params_names (map (param_with to) xs)
  params_same p [] = refl
  params_same p (x ∷ xs) = λ v. type_same x.of v ++ params_same p xs v

  no_fields_there : (p : Place S) (xs : List (Param S)) → fields_among (params_seen p xs) ≡ []
  no_fields_there p [] = refl
  no_fields_there p (x ∷ xs) = no_fields_there p xs

  abbrev F : ℕ → ℕ → List (Seen S) → Type 0
  F lo hi xs = Far to lo hi xs []

  type_far : (p : Place S) (t : TypeExpr S) (lo hi : ℕ) → TypeIn (type_with to t) lo hi → F lo hi (seen_type p t ∷ [])
  type_far p t lo hi h = subst (A lo hi) (sym (append-nil (types_there to (named_in t)) ∙ type_same t)) (type_apart (type_with to t) lo hi h)

  written_far : (p : Place S) (t : Option (TypeExpr S)) (lo hi : ℕ) → TypeOptionIn (type_option_with to t) lo hi → F lo hi (written_seen p t)
  written_far p None lo hi h = far.nothing to lo hi
  written_far p (Some t) lo hi h = type_far p t lo hi h

  params_far : (p : Place S) (xs : List (Param S)) (lo hi : ℕ) → ParamsIn (map (param_with to) xs) lo hi → F lo hi (params_seen p xs)
  params_far p xs lo hi h =
      subst (λ (ns : List NameThere). Apart to lo hi ns (fields_among (params_seen p xs))) (sym (params_same p xs))
      (subst (λ (ks : List S). Apart to lo hi (params_names (map (param_with to) xs)) ks) (sym (no_fields_there p xs)) (params_apart (map (param_with to) xs) lo hi h))

  f2 : (lo m hi : ℕ) (xs ys : List (Seen S)) → lo ≤ m → m ≤ hi → F lo m xs → F m hi ys → F lo hi (xs ++ ys)
  f2 lo m hi xs ys a b h k = far_both to lo m hi xs ys [] [] a b h k

  sig_far : (p : Place S) (g : Sig S) (lo hi : ℕ) → SigIn (sig_with to g) lo hi → F lo hi (sig_seen p g)
  sig_far p g lo hi h = f2 lo h.mid hi (params_seen p g.params) (params_seen p g.results) h.from h.to (params_far p g.params lo h.mid h.first) (params_far p g.results h.mid hi h.second)

  old_far : (p : Place S) (ns : List (NameAt S)) (lo hi : ℕ) → NamesIn (map (name_with to) ns) lo hi → F lo hi (old_seen p ns)
  old_far p [] lo hi h = far.nothing to lo hi
  old_far p (n ∷ ns) lo hi h = by (is_old p n) (old_far p ns h.mid hi h.second)
    where
      by : (b : Bool) → F h.mid hi (old_seen p ns) → F lo hi (if b then seen p stored (ident n.span n.name) ∷ old_seen p ns else old_seen p ns)
      by true k = f2 lo h.mid hi (seen p stored (ident n.span n.name) ∷ []) (old_seen p ns) h.from h.to (name to lo h.mid (to n.span) (by_itself n.name) h.first) k
      by false k = wider to lo h.mid hi hi (names_among to (old_seen p ns)) (fields_among (old_seen p ns)) h.from (omega arith) k

  -- a part that names nothing, behind others
  plain_close : (lo hi : ℕ) (xs : List (Seen S)) (x : Seen S) → names_in to x ≡ [] → fields_in x ≡ [] → F lo hi xs → F lo hi (xs ++ x ∷ [])
  plain_close lo hi xs x e f h = far_close to lo hi xs [] x e f h

  -- ---- keys and elements

  field_far : (v : Value S) (lo hi : ℕ) → ValueIn (value_with to v) lo hi → Far to lo hi [] (field_place v)
  field_far (plain (ident s n)) lo hi h = key to lo hi s h
  field_far (plain (int_lit s n)) lo hi h = far.nothing to lo hi
  field_far (plain (rune_lit s n)) lo hi h = far.nothing to lo hi
  field_far (plain (str_lit s n)) lo hi h = far.nothing to lo hi
  field_far (plain (composite s t es)) lo hi h = far.nothing to lo hi
  field_far (plain (selector s b n)) lo hi h = far.nothing to lo hi
  field_far (plain (index s b j)) lo hi h = far.nothing to lo hi
  field_far (plain (slice s b i j)) lo hi h = far.nothing to lo hi
  field_far (plain (call s g xs r)) lo hi h = far.nothing to lo hi
  field_far (plain (func_lit s g z b)) lo hi h = far.nothing to lo hi
  field_far (plain (type_operand s t)) lo hi h = far.nothing to lo hi
  field_far (plain (unary s o e)) lo hi h = far.nothing to lo hi
  field_far (plain (binary s o a b)) lo hi h = far.nothing to lo hi
  field_far (plain (star s e)) lo hi h = far.nothing to lo hi
  field_far (braced s es) lo hi h = far.nothing to lo hi

  -- a key that names a field, or one that doesn't
  either_far : (b : Bool) (xs : List (Seen S)) (ks js : List S) (lo hi : ℕ) → Far to lo hi [] ks → Far to lo hi xs js → Far to lo hi (if b then [] else xs) (if b then ks else js)
  either_far true xs ks js lo hi h k = h
  either_far false xs ks js lo hi h k = k

  -- ---- expressions and statements

  mutual
    expr_far : (p : Place S) (u : Use) (e : Expr S) (lo hi : ℕ) → ExprIn (expr_with to e) lo hi → F lo hi (expr_seen p u e)
    expr_far p u (ident s n) lo hi h = name to lo hi (to s) (by_itself n) h
    expr_far p u (int_lit s n) lo hi h = far.nothing to lo hi
    expr_far p u (rune_lit s n) lo hi h = far.nothing to lo hi
    expr_far p u (str_lit s n) lo hi h = far.nothing to lo hi
    expr_far p u (composite s t es) lo hi h =
        far_close to lo hi (type_seen p t ++ elems_seen (in_slot (a_slot 1 false false) p) (given (type_meant p.env t) (λ u. Some (under (defined_in p.env) u))) 0 es) (fields_in_elems (in_slot (a_slot 1 false false) p) (given (type_meant p.env t) (λ u. Some (under (defined_in p.env) u))) 0 es) (seen p u (composite s t es)) refl refl
        (far_both to lo h.mid hi (type_seen p t) (elems_seen (in_slot (a_slot 1 false false) p) (given (type_meant p.env t) (λ u. Some (under (defined_in p.env) u))) 0 es) [] (fields_in_elems (in_slot (a_slot 1 false false) p) (given (type_meant p.env t) (λ u. Some (under (defined_in p.env) u))) 0 es) h.from h.to (type_far p t lo h.mid h.first) (elems_far (in_slot (a_slot 1 false false) p) (given (type_meant p.env t) (λ u. Some (under (defined_in p.env) u))) 0 es h.mid hi h.second))
    expr_far p u (selector s b n) lo hi h = far_selector to lo h.upto hi (expr_seen (in_slot (inner_slot p.slot (selector s b n) 7 false true) p) other b) p u s b n h.before h.lies (expr_far (in_slot (inner_slot p.slot (selector s b n) 7 false true) p) other b lo h.upto h.part)
    expr_far p u (index s b i) lo hi h =
        plain_close lo hi (expr_seen (in_slot (inner_slot p.slot (index s b i) 7 false false) p) other b ++ expr_seen (in_slot (a_slot 1 false false) p) other i) (seen p u (index s b i)) refl refl (f2 lo h.mid hi (expr_seen (in_slot (inner_slot p.slot (index s b i) 7 false false) p) other b) (expr_seen (in_slot (a_slot 1 false false) p) other i) h.from h.to (expr_far (in_slot (inner_slot p.slot (index s b i) 7 false false) p) other b lo h.mid h.first) (expr_far (in_slot (a_slot 1 false false) p) other i h.mid hi h.second))
    expr_far p u (slice s b i j) lo hi h =
        plain_close lo hi (expr_seen (in_slot (inner_slot p.slot (slice s b i j) 7 false false) p) other b ++ option_seen (in_slot (a_slot 1 false false) p) i ++ option_seen (in_slot (a_slot 1 false false) p) j) (seen p u (slice s b i j)) refl refl (f2 lo h.mid hi (expr_seen (in_slot (inner_slot p.slot (slice s b i j) 7 false false) p) other b ++ option_seen (in_slot (a_slot 1 false false) p) i) (option_seen (in_slot (a_slot 1 false false) p) j) h.from h.to (f2 lo h.first.mid h.mid (expr_seen (in_slot (inner_slot p.slot (slice s b i j) 7 false false) p) other b) (option_seen (in_slot (a_slot 1 false false) p) i) h.first.from h.first.to (expr_far (in_slot (inner_slot p.slot (slice s b i j) 7 false false) p) other b lo h.first.mid h.first.first) (option_far (in_slot (a_slot 1 false false) p) i h.first.mid h.mid h.first.second)) (option_far (in_slot (a_slot 1 false false) p) j h.mid hi h.second))
    expr_far p u (call s f xs r) lo hi h =
        plain_close lo hi (expr_seen (callee_place (inner_slot p.slot (call s f xs r) 7 true false) f p) called f ++ all_seen (in_slot (a_slot 1 false true) p) (arg_uses p.env (parts p.env f) (all_parts p.env xs)) xs) (seen p u (call s f xs r)) refl refl (f2 lo h.mid hi (expr_seen (callee_place (inner_slot p.slot (call s f xs r) 7 true false) f p) called f) (all_seen (in_slot (a_slot 1 false true) p) (arg_uses p.env (parts p.env f) (all_parts p.env xs)) xs) h.from h.to (expr_far (callee_place (inner_slot p.slot (call s f xs r) 7 true false) f p) called f lo h.mid h.first) (all_far (in_slot (a_slot 1 false true) p) (arg_uses p.env (parts p.env f) (all_parts p.env xs)) xs h.mid hi h.second))
    expr_far p u (func_lit s g z b) lo hi h =
        plain_close lo hi (sig_seen p g ++ stmts_seen (in_literal p g) b) (seen p u (func_lit s g z b)) refl refl (f2 lo h.mid hi (sig_seen p g) (stmts_seen (in_literal p g) b) h.from h.to (sig_far p g lo h.mid h.first) (stmts_far (in_literal p g) b h.mid hi h.second))
    expr_far p u (type_operand s t) lo hi h = plain_close lo hi (type_seen p t) (seen p u (type_operand s t)) refl refl (type_far p t lo hi h)
    expr_far p u (unary s o e) lo hi h = plain_close lo hi (expr_seen (in_slot (last_slot p.slot (unary s o e) 6 (Some o)) p) (unary_use o) e) (seen p u (unary s o e)) refl refl (expr_far (in_slot (last_slot p.slot (unary s o e) 6 (Some o)) p) (unary_use o) e lo hi h)
    expr_far p u (binary s o a b) lo hi h =
        plain_close lo hi (expr_seen (in_slot (inner_slot p.slot (binary s o a b) (level_of o) false false) p) (operand_use p.env o b) a ++ expr_seen (in_slot (last_slot p.slot (binary s o a b) (level_of o + 1) None) p) (operand_use p.env o a) b) (seen p u (binary s o a b)) refl refl (f2 lo h.mid hi (expr_seen (in_slot (inner_slot p.slot (binary s o a b) (level_of o) false false) p) (operand_use p.env o b) a) (expr_seen (in_slot (last_slot p.slot (binary s o a b) (level_of o + 1) None) p) (operand_use p.env o a) b) h.from h.to (expr_far (in_slot (inner_slot p.slot (binary s o a b) (level_of o) false false) p) (operand_use p.env o b) a lo h.mid h.first) (expr_far (in_slot (last_slot p.slot (binary s o a b) (level_of o + 1) None) p) (operand_use p.env o a) b h.mid hi h.second))
    expr_far p u (star s e) lo hi h = plain_close lo hi (expr_seen (in_slot (last_slot p.slot (star s e) 6 None) p) other e) (seen p u (star s e)) refl refl (expr_far (in_slot (last_slot p.slot (star s e) 6 None) p) other e lo hi h)

    all_far : (p : Place S) (us : List Use) (es : Exprs S) (lo hi : ℕ) → ExprsIn (exprs_with to es) lo hi → F lo hi (all_seen p us es)
    all_far p us no_exprs lo hi h = far.nothing to lo hi
    all_far p us (expr_and e es) lo hi h = f2 lo h.mid hi (expr_seen (record p { slot = comma_slot p.slot es }) (head_use us) e) (all_seen p (later_uses us) es) h.from h.to (expr_far (record p { slot = comma_slot p.slot es }) (head_use us) e lo h.mid h.first) (all_far p (later_uses us) es h.mid hi h.second)

    option_far : (p : Place S) (e : ExprOption S) (lo hi : ℕ) → ExprOptionIn (expr_option_with to e) lo hi → F lo hi (option_seen p e)
    option_far p no_expr lo hi h = far.nothing to lo hi
    option_far p (some_expr e) lo hi h = expr_far p other e lo hi h

    elems_far : (p : Place S) (u : Option GoType) (i : ℕ) (es : Elems S) (lo hi : ℕ) → ElemsIn (elems_with to es) lo hi → Far to lo hi (elems_seen p u i es) (fields_in_elems p u i es)
    elems_far p u i no_elems lo hi h = far.nothing to lo hi
    elems_far p u i (elem s k v es) lo hi h =
        let ks : List (Seen S) = key_seen p u k in
        let vs : List (Seen S) = value_seen (record p { slot = a_slot 1 false (elem_closed es) }) (elem_use p.env u i k) v in
        let rest : List (Seen S) = elems_seen p u (suc i) es in
        let kf : List S = fields_in_key p u k in
        let vf : List S = fields_in_value (record p { slot = a_slot 1 false (elem_closed es) }) (elem_use p.env u i k) v in
        let rf : List S = fields_in_elems p u (suc i) es in
        subst (λ (fs : List S). Far to lo hi (ks ++ vs ++ rest) fs) (append_assoc kf vf rf)
        (far_both to lo h.second.mid hi (ks ++ vs) rest (kf ++ vf) rf (omega (arith, h.from, h.second.from)) h.second.to
        (far_both to lo h.mid h.second.mid ks vs kf vf h.from h.second.from (key_far p u k lo h.mid h.first) (value_far (record p { slot = a_slot 1 false (elem_closed es) }) (elem_use p.env u i k) v h.mid h.second.mid h.second.first))
        (elems_far p u (suc i) es h.second.mid hi h.second.second))

    key_far : (p : Place S) (u : Option GoType) (k : ValueOption S) (lo hi : ℕ) → ValueOptionIn (value_option_with to k) lo hi → Far to lo hi (key_seen p u k) (fields_in_key p u k)
    key_far p u no_value lo hi h = far.nothing to lo hi
    key_far p u (some_value v) lo hi h = either_far (meets u is_struct) (value_seen p (key_use p.env u) v) (field_place v) (fields_in_value p (key_use p.env u) v) lo hi (field_far v lo hi h) (value_far p (key_use p.env u) v lo hi h)

    value_far : (p : Place S) (u : Use) (v : Value S) (lo hi : ℕ) → ValueIn (value_with to v) lo hi → Far to lo hi (value_seen p u v) (fields_in_value p u v)
    value_far p u (plain e) lo hi h = expr_far p u e lo hi h
    value_far p u (braced s es) lo hi h = elems_far p (given (into_type u) (λ t. Some (under (defined_in p.env) (literal_type (defined_in p.env) t)))) 0 es lo hi h

    stmt_far : (p : Place S) (l : Bool) (s : Stmt S) (lo hi : ℕ) → StmtIn (stmt_with to s) lo hi → F lo hi (stmt_seen p l s)
    stmt_far p l (const_decl s g ss) lo hi h = plain_close lo hi (constants_seen (plain_slot p) nothing_to_repeat 0 ss) (seen_stmt p (const_decl s g ss)) refl refl (constants_far (plain_slot p) nothing_to_repeat 0 ss lo hi h)
    stmt_far p l (var_decl s g ss) lo hi h = plain_close lo hi (variables_seen (plain_slot p) ss) (seen_stmt p (var_decl s g ss)) refl refl (variables_far (plain_slot p) ss lo hi h)
    stmt_far p l (empty s) lo hi h = far.nothing to lo hi
    stmt_far p l (eval s e) lo hi h = plain_close lo hi (expr_seen p (alone l) e) (seen_stmt p (eval s e)) refl refl (expr_far p (alone l) e lo hi h)
    stmt_far p l (step s e b) lo hi h = plain_close lo hi (expr_seen p updated e) (seen_stmt p (step s e b)) refl refl (expr_far p updated e lo hi h)
    stmt_far p l (assign s xs None ys) lo hi h = plain_close lo hi (all_seen p (every_use stored xs) xs ++ all_seen p (right_uses p.env xs) ys) (seen_stmt p (assign s xs None ys)) refl refl (f2 lo h.mid hi (all_seen p (every_use stored xs) xs) (all_seen p (right_uses p.env xs) ys) h.from h.to (all_far p (every_use stored xs) xs lo h.mid h.first) (all_far p (right_uses p.env xs) ys h.mid hi h.second))
    stmt_far p l (assign s xs (Some o) ys) lo hi h = plain_close lo hi (all_seen p (every_use updated xs) xs ++ all_seen p (first_operand_use p.env o xs ∷ []) ys) (seen_stmt p (assign s xs (Some o) ys)) refl refl (f2 lo h.mid hi (all_seen p (every_use updated xs) xs) (all_seen p (first_operand_use p.env o xs ∷ []) ys) h.from h.to (all_far p (every_use updated xs) xs lo h.mid h.first) (all_far p (first_operand_use p.env o xs ∷ []) ys h.mid hi h.second))
    stmt_far p l (define s ns ys) lo hi h = plain_close lo hi (old_seen p ns ++ all_seen p (alike whole ns) ys) (seen_stmt p (define s ns ys)) refl refl (f2 lo h.mid hi (old_seen p ns) (all_seen p (alike whole ns) ys) h.from h.to (old_far p ns lo h.mid h.first) (all_far p (alike whole ns) ys h.mid hi h.second))
    stmt_far p l (return_ s xs) lo hi h = plain_close lo hi (all_seen p (return_uses p.ctx.results xs) xs) (seen_stmt p (return_ s xs)) refl refl (all_far p (return_uses p.ctx.results xs) xs lo hi h)
    stmt_far p l (break_ s n) lo hi h = far.nothing to lo hi
    stmt_far p l (continue_ s n) lo hi h = far.nothing to lo hi
    stmt_far p l (inner s b) lo hi h = plain_close lo hi (stmts_seen (block p) b) (seen_stmt p (inner s b)) refl refl (stmts_far (block p) b lo hi h)
    stmt_far p l (if_ s bs z) lo hi h = plain_close lo hi (arms_seen (block p) bs ++ block_seen (after_arms (block p) bs) z) (seen_stmt p (if_ s bs z)) refl refl (f2 lo h.mid hi (arms_seen (block p) bs) (block_seen (after_arms (block p) bs) z) h.from h.to (arms_far (block p) bs lo h.mid h.first) (block_far (after_arms (block p) bs) z h.mid hi h.second))
    stmt_far p l (for_ s i t q z b) lo hi h = plain_close lo hi (first_seen (in_heading true (block p)) i ++ option_seen (in_heading true (after_first (block p) i)) t ++ first_seen (in_heading true (after_first (block p) i)) q ++ stmts_seen (looping (block (after_first (block p) i))) b) (seen_stmt p (for_ s i t q z b)) refl refl (f2 lo h.mid hi (first_seen (in_heading true (block p)) i ++ option_seen (in_heading true (after_first (block p) i)) t ++ first_seen (in_heading true (after_first (block p) i)) q) (stmts_seen (looping (block (after_first (block p) i))) b) h.from h.to (f2 lo h.first.mid h.mid (first_seen (in_heading true (block p)) i ++ option_seen (in_heading true (after_first (block p) i)) t) (first_seen (in_heading true (after_first (block p) i)) q) h.first.from h.first.to (f2 lo h.first.first.mid h.first.mid (first_seen (in_heading true (block p)) i) (option_seen (in_heading true (after_first (block p) i)) t) h.first.first.from h.first.first.to (first_far (in_heading true (block p)) i lo h.first.first.mid h.first.first.first) (option_far (in_heading true (after_first (block p) i)) t h.first.first.mid h.first.mid h.first.first.second)) (first_far (in_heading true (after_first (block p) i)) q h.first.mid h.mid h.first.second)) (stmts_far (looping (block (after_first (block p) i))) b h.mid hi h.second))
    stmt_far p l (range_ s x e z b) lo hi h = plain_close lo hi (left_seen (in_heading true p) x ++ expr_seen (in_heading true p) other e ++ stmts_seen (looping (block (ranged p x e))) b) (seen_stmt p (range_ s x e z b)) refl refl (f2 lo h.mid hi (left_seen (in_heading true p) x ++ expr_seen (in_heading true p) other e) (stmts_seen (looping (block (ranged p x e))) b) h.from h.to (f2 lo h.first.mid h.mid (left_seen (in_heading true p) x) (expr_seen (in_heading true p) other e) h.first.from h.first.to (left_far (in_heading true p) x lo h.first.mid h.first.first) (expr_far (in_heading true p) other e h.first.mid h.mid h.first.second)) (stmts_far (looping (block (ranged p x e))) b h.mid hi h.second))
    stmt_far p l (switch s i t cs) lo hi h = plain_close lo hi (first_seen (in_heading true (block p)) i ++ option_seen (in_heading true (after_first (block p) i)) t ++ cases_seen (switching (after_first (block p) i)) cs) (seen_stmt p (switch s i t cs)) refl refl (f2 lo h.mid hi (first_seen (in_heading true (block p)) i ++ option_seen (in_heading true (after_first (block p) i)) t) (cases_seen (switching (after_first (block p) i)) cs) h.from h.to (f2 lo h.first.mid h.mid (first_seen (in_heading true (block p)) i) (option_seen (in_heading true (after_first (block p) i)) t) h.first.from h.first.to (first_far (in_heading true (block p)) i lo h.first.mid h.first.first) (option_far (in_heading true (after_first (block p) i)) t h.first.mid h.mid h.first.second)) (cases_far (switching (after_first (block p) i)) cs h.mid hi h.second))
    stmt_far p l (defer s e) lo hi h = plain_close lo hi (expr_seen (record p { deferring = true; slot = a_slot 0 false false }) deferred_call e) (seen_stmt p (defer s e)) refl refl (expr_far (record p { deferring = true; slot = a_slot 0 false false }) deferred_call e lo hi h)
    stmt_far p l (label s n x) lo hi h = plain_close lo hi (stmt_seen (record p { ctx = labelled p.ctx n x }) false x) (seen_stmt p (label s n x)) refl refl (stmt_far (record p { ctx = labelled p.ctx n x }) false x lo hi h)

    stmts_far : (p : Place S) (b : Stmts S) (lo hi : ℕ) → StmtsIn (stmts_with to b) lo hi → F lo hi (stmts_seen p b)
    stmts_far p no_stmts lo hi h = far.nothing to lo hi
    stmts_far p (stmt_and s ss) lo hi h = f2 lo h.mid hi (stmt_seen (at_stmt p s) true s) (stmts_seen (after_stmt p s) ss) h.from h.to (stmt_far (at_stmt p s) true s lo h.mid h.first) (stmts_far (after_stmt p s) ss h.mid hi h.second)

    first_far : (p : Place S) (s : StmtOption S) (lo hi : ℕ) → StmtOptionIn (stmt_option_with to s) lo hi → F lo hi (first_seen p s)
    first_far p no_stmt lo hi h = far.nothing to lo hi
    first_far p (some_stmt s) lo hi h = stmt_far p false s lo hi h

    block_far : (p : Place S) (z : BlockOption S) (lo hi : ℕ) → BlockOptionIn (block_option_with to z) lo hi → F lo hi (block_seen p z)
    block_far p no_block lo hi h = far.nothing to lo hi
    block_far p (some_block s b) lo hi h = stmts_far (block p) b lo hi h

    left_far : (p : Place S) (x : RangeLeft S) (lo hi : ℕ) → LeftIn (left_with to x) lo hi → F lo hi (left_seen p x)
    left_far p nothing lo hi h = far.nothing to lo hi
    left_far p (assigns es) lo hi h = all_far p (every_use stored es) es lo hi h
    left_far p (defines ns) lo hi h = far.nothing to lo hi

    arms_far : (p : Place S) (bs : Arms S) (lo hi : ℕ) → ArmsIn (arms_with to bs) lo hi → F lo hi (arms_seen p bs)
    arms_far p no_arms lo hi h = far.nothing to lo hi
    arms_far p (arm s i t z b r) lo hi h = f2 lo h.mid hi (first_seen (in_heading true p) i ++ expr_seen (in_heading true (after_first p i)) other t ++ stmts_seen (block (after_first p i)) b) (arms_seen (block (after_first p i)) r) h.from h.to (f2 lo h.first.mid h.mid (first_seen (in_heading true p) i ++ expr_seen (in_heading true (after_first p i)) other t) (stmts_seen (block (after_first p i)) b) h.first.from h.first.to (f2 lo h.first.first.mid h.first.mid (first_seen (in_heading true p) i) (expr_seen (in_heading true (after_first p i)) other t) h.first.first.from h.first.first.to (first_far (in_heading true p) i lo h.first.first.mid h.first.first.first) (expr_far (in_heading true (after_first p i)) other t h.first.first.mid h.first.mid h.first.first.second)) (stmts_far (block (after_first p i)) b h.first.mid h.mid h.first.second)) (arms_far (block (after_first p i)) r h.mid hi h.second)

    cases_far : (p : Place S) (cs : Cases S) (lo hi : ℕ) → CasesIn (cases_with to cs) lo hi → F lo hi (cases_seen p cs)
    cases_far p no_cases lo hi h = far.nothing to lo hi
    cases_far p (case s es b cs) lo hi h = f2 lo h.mid hi (all_seen (in_heading false p) [] es ++ stmts_seen (block p) b) (cases_seen p cs) h.from h.to (f2 lo h.first.mid h.mid (all_seen (in_heading false p) [] es) (stmts_seen (block p) b) h.first.from h.first.to (all_far (in_heading false p) [] es lo h.first.mid h.first.first) (stmts_far (block p) b h.first.mid h.mid h.first.second)) (cases_far p cs h.mid hi h.second)

    constants_far : (p : Place S) (r : Repeated) (i : ℕ) (ss : ValueSpecs S) (lo hi : ℕ) → SpecsIn (specs_with to ss) lo hi → F lo hi (constants_seen p r i ss)
    constants_far p r i no_specs lo hi h = far.nothing to lo hi
    constants_far p r i (spec s ns t es ss) lo hi h = f2 lo h.mid hi (written_seen (before_repeats (in_constant i p) ns ss) t ++ all_seen (before_repeats (in_constant i p) ns ss) (alike (value_use p.env t) ns) es) (constants_seen (after_constants p (repeated_by r t es) i ns) (repeated_by r t es) (suc i) ss) h.from h.to (f2 lo h.first.mid h.mid (written_seen (before_repeats (in_constant i p) ns ss) t) (all_seen (before_repeats (in_constant i p) ns ss) (alike (value_use p.env t) ns) es) h.first.from h.first.to (written_far (before_repeats (in_constant i p) ns ss) t lo h.first.mid h.first.first) (all_far (before_repeats (in_constant i p) ns ss) (alike (value_use p.env t) ns) es h.first.mid h.mid h.first.second)) (constants_far (after_constants p (repeated_by r t es) i ns) (repeated_by r t es) (suc i) ss h.mid hi h.second)

    variables_far : (p : Place S) (ss : ValueSpecs S) (lo hi : ℕ) → SpecsIn (specs_with to ss) lo hi → F lo hi (variables_seen p ss)
    variables_far p no_specs lo hi h = far.nothing to lo hi
    variables_far p (spec s ns t es ss) lo hi h = f2 lo h.mid hi (written_seen p t ++ all_seen p (alike (value_use p.env t) ns) es) (variables_seen (after_variables p ns t es) ss) h.from h.to (f2 lo h.first.mid h.mid (written_seen p t) (all_seen p (alike (value_use p.env t) ns) es) h.first.from h.first.to (written_far p t lo h.first.mid h.first.first) (all_far p (alike (value_use p.env t) ns) es h.first.mid h.mid h.first.second)) (variables_far (after_variables p ns t es) ss h.mid hi h.second)

  -- ---- declarations

  constants_top : (ps : List (Package S)) (q : Place S) (i : ℕ) (ss : ValueSpecs S) (lo hi : ℕ) → SpecsIn (specs_with to ss) lo hi → F lo hi (constants_at_top ps q i ss)
  constants_top ps q i no_specs lo hi h = far.nothing to lo hi
  constants_top ps q i (spec s ns t es ss) lo hi h = f2 lo h.mid hi (written_seen (in_constant i q) t ++ all_seen (in_constant i q) (alike (value_use q.env t) ns) es) (constants_at_top ps q (suc i) ss) h.from h.to (f2 lo h.first.mid h.mid (written_seen (in_constant i q) t) (all_seen (in_constant i q) (alike (value_use q.env t) ns) es) h.first.from h.first.to (written_far (in_constant i q) t lo h.first.mid h.first.first) (all_far (in_constant i q) (alike (value_use q.env t) ns) es h.first.mid h.mid h.first.second)) (constants_top ps q (suc i) ss h.mid hi h.second)

  variables_top : (ps : List (Package S)) (q : Place S) (ss : ValueSpecs S) (lo hi : ℕ) → SpecsIn (specs_with to ss) lo hi → F lo hi (variables_at_top ps q ss)
  variables_top ps q no_specs lo hi h = far.nothing to lo hi
  variables_top ps q (spec s ns t es ss) lo hi h = f2 lo h.mid hi (written_seen q t ++ all_seen q (alike (value_use q.env t) ns) es) (variables_at_top ps q ss) h.from h.to (f2 lo h.first.mid h.mid (written_seen q t) (all_seen q (alike (value_use q.env t) ns) es) h.first.from h.first.to (written_far q t lo h.first.mid h.first.first) (all_far q (alike (value_use q.env t) ns) es h.first.mid h.mid h.first.second)) (variables_top ps q ss h.mid hi h.second)

  types_top : (ps : List (Package S)) (q : Place S) (ts : List (TypeSpec S)) (lo hi : ℕ) → TypeSpecsIn (map (type_spec_with to) ts) lo hi → F lo hi (types_at_top ps q ts)
  types_top ps q [] lo hi h = far.nothing to lo hi
  types_top ps q (t ∷ ts) lo hi h = f2 lo h.mid hi (seen_type q t.of ∷ []) (types_at_top ps q ts) h.from h.to (type_far q t.of lo h.mid h.first) (types_top ps q ts h.mid hi h.second)

  receiver_far : (ps : List (Package S)) (q : Place S) (r : Option (Receiver S)) (lo hi : ℕ) → ReceiverIn (option_map (receiver_with to) r) lo hi → F lo hi (receiver_seen ps q r)
  receiver_far ps q None lo hi h = far.nothing to lo hi
  receiver_far ps q (Some r) lo hi h = name to lo hi (to r.of.span) (by_itself r.of.name) h

  decl_far : (ps : List (Package S)) (k : ℕ) (p : Package S) (file : File S) (d : Decl S) (lo hi : ℕ) → DeclIn (decl_with to d) lo hi → F lo hi (decl_seen ps k p file d)
  decl_far ps k p file (values (const_decl s g ss)) lo hi h = constants_top ps (top_place ps k p file) 0 ss lo hi h
  decl_far ps k p file (values (var_decl s g ss)) lo hi h = variables_top ps (top_place ps k p file) ss lo hi h
  decl_far ps k p file (values (empty s)) lo hi h = far.nothing to lo hi
  decl_far ps k p file (values (eval s e)) lo hi h = far.nothing to lo hi
  decl_far ps k p file (values (step s e b)) lo hi h = far.nothing to lo hi
  decl_far ps k p file (values (assign s xs o ys)) lo hi h = far.nothing to lo hi
  decl_far ps k p file (values (define s ns ys)) lo hi h = far.nothing to lo hi
  decl_far ps k p file (values (return_ s xs)) lo hi h = far.nothing to lo hi
  decl_far ps k p file (values (break_ s n)) lo hi h = far.nothing to lo hi
  decl_far ps k p file (values (continue_ s n)) lo hi h = far.nothing to lo hi
  decl_far ps k p file (values (inner s b)) lo hi h = far.nothing to lo hi
  decl_far ps k p file (values (if_ s bs z)) lo hi h = far.nothing to lo hi
  decl_far ps k p file (values (for_ s i t q z b)) lo hi h = far.nothing to lo hi
  decl_far ps k p file (values (range_ s x e z b)) lo hi h = far.nothing to lo hi
  decl_far ps k p file (values (switch s i t cs)) lo hi h = far.nothing to lo hi
  decl_far ps k p file (values (defer s e)) lo hi h = far.nothing to lo hi
  decl_far ps k p file (values (label s n x)) lo hi h = far.nothing to lo hi
  decl_far ps k p file (types s g ts) lo hi h = types_top ps (top_place ps k p file) ts lo hi h
  decl_far ps k p file (func f) lo hi h = f2 lo h.mid hi (receiver_seen ps (top_place ps k p file) f.receiver ++ sig_seen (top_place ps k p file) f.sig) (stmts_seen (body_place ps k p file f) f.body) h.from h.to (f2 lo h.first.mid h.mid (receiver_seen ps (top_place ps k p file) f.receiver) (sig_seen (top_place ps k p file) f.sig) h.first.from h.first.to (receiver_far ps (top_place ps k p file) f.receiver lo h.first.mid h.first.first) (sig_far (top_place ps k p file) f.sig h.first.mid h.mid h.first.second)) (stmts_far (body_place ps k p file f) f.body h.mid hi h.second)

  nth_far : (ps : List (Package S)) (k : ℕ) (p : Package S) (file : File S) (ds : List (Decl S)) (i : ℕ) (d : Decl S) → DeclsIn (decls_with to ds) → slice_get ds i ≡ Some d → StandApart to (decl_seen ps k p file d)
  nth_far ps k p file [] i d h e = absurd cc
  nth_far ps k p file (x ∷ ds) zero d h e =
      subst (λ (y : Decl S). StandApart to (decl_seen ps k p file y)) (same_Some x d e) (stands_apart to h.0.0 h.0.1 (decl_seen ps k p file x) (decl_far ps k p file x h.0.0 h.0.1 h.0.2))
  nth_far ps k p file (x ∷ ds) (suc i) d h e = nth_far ps k p file ds i d h.1 e

  -- The names of each declaration of a file that reads from its text stand apart.
  pub names_apart : (ps : List (Package S)) (w : Where S) (text : FileText) (i : ℕ) (d : Decl S) → ReadsAs text (file_with to w.source.tree) → slice_get w.source.tree.decls i ≡ Some d → StandApart to (decl_seen ps w.number w.of w.source.tree d)
  names_apart ps w text i d reads there = nth_far ps w.number w.of w.source.tree w.source.tree.decls i d (decls_in text (file_with to w.source.tree) reads) there
