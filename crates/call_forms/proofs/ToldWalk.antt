-- What run_rules' walk makes of a part of a declaration is, where it stands in the text, the part as it is written
-- there, where names are told right.
use Rattle.std.specs.Prelude.{ℕ, suc, ◌+◌, Bool, true, false, List, [], ◌∷◌, ◌++◌, map, Option, Some, None}
use Rattle.std.specs.Prelude.{if◌then◌else◌}
use Rattle.std.specs.Option.{option_map}
use Rattle.std.proofs.Common.{◌≡◌, refl, sym, ap, ◌∙◌}
use Rattle.go_tree.specs.declared.spans.Span.{Span}
use Rattle.go_tree.specs.Tree.{NameAt, Param, Sig, TypeExpr, named, pointer, slice_type, map_type, struct_type, Fields}
use Rattle.go_tree.specs.Tree.{no_fields, field, Expr, ident, int_lit, rune_lit, str_lit, composite, selector, index}
use Rattle.go_tree.specs.Tree.{slice, call, func_lit, type_operand, unary, binary, star, Exprs, no_exprs, expr_and}
use Rattle.go_tree.specs.Tree.{ExprOption, no_expr, some_expr, Elems, no_elems, elem, Value, plain, braced, ValueOption}
use Rattle.go_tree.specs.Tree.{no_value, some_value, Stmt, const_decl, var_decl, empty, eval, step, assign, define}
use Rattle.go_tree.specs.Tree.{return_, break_, continue_, inner, if_, for_, range_, switch, defer, label, Stmts}
use Rattle.go_tree.specs.Tree.{no_stmts, stmt_and, StmtOption, no_stmt, some_stmt, BlockOption, no_block, some_block}
use Rattle.go_tree.specs.Tree.{RangeLeft, nothing, assigns, defines, Arms, no_arms, arm, Cases, no_cases, case}
use Rattle.go_tree.specs.Tree.{ValueSpecs, no_specs, spec}
use Rattle.go_tree.specs.GoWords.Terminals.{level_of}
use Rattle.go_tree.specs.GoTypes.Answers.{given, meets, otherwise}
use Rattle.go_tree.specs.GoTypes.Types.{GoType}
use Rattle.go_tree.specs.GoTypes.Defined.{under}
use Rattle.go_tree.specs.GoTypes.Entities.{defined_in}
use Rattle.go_tree.specs.GoTypes.TypeNames.{type_meant}
use Rattle.go_tree.specs.GoTypes.Literals.{is_struct, literal_type}
use Rattle.go_tree.specs.GoTypes.Typing.{parts, all_parts}
use Rattle.go_tree.specs.GoTypes.Bodies.{labelled}
use Rattle.go_tree.specs.GoTypes.Declarations.{Repeated, nothing_to_repeat}
use Rattle.pkg_graph.specs.Package.{Package}
use Rattle.run_rules.specs.Surroundings.{Use, whole, stored, updated, called, deferred_call, alone, other, a_slot}
use Rattle.run_rules.specs.Surroundings.{Place, Seen, seen, seen_stmt, alike, into_type, head_use, later_uses, arg_uses}
use Rattle.run_rules.specs.Surroundings.{unary_use, operand_use, first_operand_use, right_uses, every_use, value_use}
use Rattle.run_rules.specs.Surroundings.{return_uses, elem_use, key_use, inner_slot, last_slot, in_slot, callee_place}
use Rattle.run_rules.specs.Surroundings.{comma_slot, elem_closed, after_stmt, after_first, block, looping, switching}
use Rattle.run_rules.specs.Surroundings.{in_heading, at_stmt, plain_slot, ranged, in_literal, repeated_by, in_constant}
use Rattle.run_rules.specs.Surroundings.{after_constants, before_repeats, after_variables}
use Rattle.run_rules.specs.Places.{type_seen, written_seen, params_seen, sig_seen, old_seen, after_arms, expr_seen}
use Rattle.run_rules.specs.Places.{all_seen, option_seen, elems_seen, key_seen, value_seen, stmt_seen, stmts_seen}
use Rattle.run_rules.specs.Places.{first_seen, block_seen, left_seen, arms_seen, cases_seen, constants_seen}
use Rattle.run_rules.specs.Places.{variables_seen}
use Rattle.run_rules.specs.Rewriting.{Changes, new_name, new_names, new_label, new_written, new_params, new_sig}
use Rattle.run_rules.specs.Rewriting.{new_expr, new_all, new_option, new_elems, new_key, new_value, new_stmt, new_stmts}
use Rattle.run_rules.specs.Rewriting.{new_first, new_block, new_left, new_arms, new_cases, new_constants, new_variables}
use Rattle.run_rules.specs.Respanned.{name_with, type_with, fields_with, param_with, sig_with, expr_with, exprs_with}
use Rattle.run_rules.specs.Respanned.{expr_option_with, elems_with, value_option_with, value_with, stmt_with}
use Rattle.run_rules.specs.Respanned.{stmts_with, stmt_option_with, block_option_with, left_with, arms_with, cases_with}
use Rattle.run_rules.specs.Respanned.{specs_with}
use Rattle.run_rules.specs.Sites.{Where, named_in}
use Rattle.run_rules.specs.Naming.{Names, member_qualifier, import_qualifier, moved, qualified, qualified_or}
use Rattle.run_rules.specs.Naming.{type_there, fields_there}
use Rattle.run_rules.specs.FormTrees.{a_name, outside_changes}
use Rattle.call_forms.specs.declared.qualifiers.There.{There}
use Rattle.call_forms.specs.Written.{told, written_name, written_names, written_label, written_package, written_ident}
use Rattle.call_forms.specs.Written.{written_selector, written_type, written_fields, written_type_option, written_param}
use Rattle.call_forms.specs.Written.{written_sig, written_expr, written_exprs, written_expr_option, written_elems}
use Rattle.call_forms.specs.Written.{written_value_option, written_value, written_stmt, written_stmts}
use Rattle.call_forms.specs.Written.{written_stmt_option, written_block_option, written_left, written_arms}
use Rattle.call_forms.specs.Written.{written_cases, written_specs}
use Rattle.call_forms.specs.ToldNames.{TypesTold, FieldTold, ElemsTold, KeyTold, ValueTold, AllTold}

module _ {S : Type 0} (to : S → Span) (ps : List (Package S)) (home : Where S) (at : ℕ) (names : Names) (new : S) (t :
    There) (e : to new ≡ t.span) where
  abbrev c : Changes S
  c = outside_changes ps home at names new

  -- all parts of a list are told right
  abbrev Told : List (Seen S) → Type 0
  Told xs = AllTold to (told t) ps home at names xs

  -- ---- parts of lists

  pub front : (xs ys : List (Seen S)) → Told (xs ++ ys) → Told xs
  front [] ys h = tt
  front (x ∷ xs) ys h = (h.0, front xs ys h.1)

  pub back : (xs ys : List (Seen S)) → Told (xs ++ ys) → Told ys
  back [] ys h = h
  back (x ∷ xs) ys h = back xs ys h.1

  in2 : (xs ys : List (Seen S)) → Told (xs ++ ys) → Told xs × Told ys
  in2 xs ys h = (front xs ys h, back xs ys h)

  in3 : (xs ys zs : List (Seen S)) → Told (xs ++ ys ++ zs) → Told xs × (Told ys × Told zs)
  in3 xs ys zs h = let q = in2 xs ys (front (xs ++ ys) zs h) in (q.0, (q.1, back (xs ++ ys) zs h))

  in4 : (xs ys zs us : List (Seen S)) → Told (xs ++ ys ++ zs ++ us) → Told xs × (Told ys × (Told zs × Told us))
  in4 xs ys zs us h =
      let q = in3 xs ys zs (front (xs ++ ys ++ zs) us h) in (q.0, (q.1.0, (q.1.1, back (xs ++ ys ++ zs) us h)))

  in5 : (xs ys zs us vs : List (Seen S)) → Told (xs ++ ys ++ zs ++ us ++ vs) → Told xs × (Told ys × (Told zs × (Told us
      × Told vs)))
  in5 xs ys zs us vs h =
      let q = in4 xs ys zs us (front (xs ++ ys ++ zs ++ us) vs h) in
      (q.0, (q.1.0, (q.1.1.0, (q.1.1.1, back (xs ++ ys ++ zs ++ us) vs h))))

  unless : (b : Bool) (xs : List (Seen S)) → b ≡ false → Told (if b then [] else xs) → Told xs
  unless true xs q h = cc
  unless false xs q h = h

  types-front : (p : Place S) (xs ys : List (TypeExpr S)) → TypesTold to (told t) ps home at names p (xs ++ ys) →
      TypesTold to (told t) ps home at names p xs
  types-front p [] ys h = tt
  types-front p (x ∷ xs) ys h = (h.0, types-front p xs ys h.1)

  types-back : (p : Place S) (xs ys : List (TypeExpr S)) → TypesTold to (told t) ps home at names p (xs ++ ys) →
      TypesTold to (told t) ps home at names p ys
  types-back p [] ys h = h
  types-back p (x ∷ xs) ys h = types-back p xs ys h.1

  -- ---- names

  name-told : (n : NameAt S) → name_with to (new_name c n) ≡ written_name t (name_with to n)
  name-told n = λ w. record { span = e w; name = n.name }

  names-told : (ns : List (NameAt S)) → map (name_with to) (new_names c ns) ≡ written_names t (map (name_with to) ns)
  names-told [] = refl
  names-told (n ∷ ns) = λ w. name-told n w ∷ names-told ns w

  label-told : (n : Option (NameAt S)) → option_map (name_with to) (new_label c n) ≡ written_label t (option_map
      (name_with to) n)
  label-told None = refl
  label-told (Some n) = λ w. Some (name-told n w)

  -- a name behind that of a package
  abbrev behind : List ℕ → List ℕ → Expr S
  behind q n = selector new (ident new q) (a_name new n)

  behind-is : (q n : List ℕ) → expr_with to (behind q n) ≡ Rattle.call_forms.specs.Written.qualified t q n
  behind-is q n = λ w. selector (e w) (ident (e w) q) (record { span = e w; name = n })

  ident-is : (s : S) (n : List ℕ) (o : Option (List ℕ)) → told t (to s) ≡ o → expr_with to (otherwise (given o (λ q.
      Some (behind q n))) (ident new n)) ≡ written_ident t (told t (to s)) n
  ident-is s n None h = (λ w. ident (e w) n) ∙ sym (ap (λ o. written_ident t o n) h)
  ident-is s n (Some q) h = behind-is q n ∙ sym (ap (λ o. written_ident t o n) h)

  selector-is : (s : S) (n : NameAt S) (o : Option (List ℕ)) (x : Expr S) (y : Expr Span) → told t (to s) ≡ o →
      expr_with to x ≡ y → expr_with to (otherwise (given o (λ q. Some (behind q n.name))) (selector new x (new_name c
      n))) ≡ written_selector t (told t (to s)) y (name_with to n)
  selector-is s n None x y h k = (λ w. selector (e w) (k w) (name-told n w)) ∙ sym (ap (λ o. written_selector t o y
      (name_with to n)) h)
  selector-is s n (Some q) x y h k = behind-is q n.name ∙ sym (ap (λ o. written_selector t o y (name_with to n)) h)

  -- ---- types

  plain-is : (s : S) (n : NameAt S) (o : Option (List ℕ)) → told t (to s) ≡ o → type_with to (named new (qualified ps
      home at names new o) (moved ps home at names new n)) ≡ named t.span (written_package t (told t (to s)) None)
      (written_name t (name_with to n))
  plain-is s n None h = (λ w. named (e w) None (record { span = e w; name = n.name })) ∙ sym (ap (λ o. named t.span
      (written_package t o None) (written_name t (name_with to n))) h)
  plain-is s n (Some q) h = (λ w. named (e w) (Some (record { span = e w; name = q })) (record {
    span = e w;
    name =
        n.name;
  })) ∙ sym (ap (λ o. named t.span (written_package t o None) (written_name t (name_with to n))) h)

  qualified-is : (s : S) (q n : NameAt S) (o : Option (List ℕ)) → told t (to s) ≡ o → type_with to (named new
      (qualified_or ps home at names new q o) (moved ps home at names new n)) ≡ named t.span (written_package t (told t
      (to s)) (Some (name_with to q))) (written_name t (name_with to n))
  qualified-is s q n None h = (λ w. named (e w) (Some (record { span = e w; name = q.name })) (record {
    span = e w;
    name
        = n.name;
  })) ∙ sym (ap (λ o. named t.span (written_package t o (Some (name_with to q))) (written_name t (name_with
      to n))) h)
  qualified-is s q n (Some x) h = (λ w. named (e w) (Some (record { span = e w; name = x })) (record {
    span = e w;
    name
        = n.name;
  })) ∙ sym (ap (λ o. named t.span (written_package t o (Some (name_with to q))) (written_name t (name_with
      to n))) h)

  mutual
    pub types-told : (p : Place S) (x : TypeExpr S) → TypesTold to (told t) ps home at names p (named_in x) → type_with
        to (type_there ps home at names new p x) ≡ written_type t (type_with to x)
    types-told p (named s None n) h = plain-is s n (member_qualifier ps home at names p n.name) h.0
    types-told p (named s (Some q) n) h = qualified-is s q n (import_qualifier ps home at names p q.name) h.0
    types-told p (pointer s x) h = λ w. pointer (e w) (types-told p x h w)
    types-told p (slice_type s x) h = λ w. slice_type (e w) (types-told p x h w)
    types-told p (map_type s k x) h = λ w. map_type (e w) (types-told p k (types-front p (named_in k) (named_in x) h) w)
        (types-told p x (types-back p (named_in k) (named_in x) h) w)
    types-told p (struct_type s fs) h = λ w. struct_type (e w) (fields-told p fs h w)

    pub fields-told : (p : Place S) (x : Fields S) → TypesTold to (told t) ps home at names p
        (Rattle.run_rules.specs.Sites.named_in_fields x) → fields_with to (fields_there ps home at names new p x) ≡
        written_fields t (fields_with to x)
    fields-told p no_fields h = refl
    fields-told p (field s n x fs) h = λ w. field (e w) (record { span = e w; name = n.name }) (types-told p x
        (types-front p (named_in x) (Rattle.run_rules.specs.Sites.named_in_fields fs) h) w) (fields-told p fs
        (types-back p (named_in x) (Rattle.run_rules.specs.Sites.named_in_fields fs) h) w)

  type-told : (p : Place S) (x : TypeExpr S) → Told (type_seen p x) → type_with to (type_there ps home at names new p x)
      ≡ written_type t (type_with to x)
  type-told p x h = types-told p x h.0

  written-told : (p : Place S) (x : Option (TypeExpr S)) → Told (written_seen p x) → option_map (type_with to)
      (new_written c p x) ≡ written_type_option t (option_map (type_with to) x)
  written-told p None h = refl
  written-told p (Some x) h = λ w. Some (type-told p x h w)

  pub params-told : (p : Place S) (xs : List (Param S)) → Told (params_seen p xs) → map (param_with to) (new_params c p
      xs) ≡ map (written_param t) (map (param_with to) xs)
  params-told p [] h = refl
  params-told p (x ∷ xs) h = λ w. record {
    span = e w;
    name = label-told x.name w;
    rest = x.rest;
    of = types-told p x.of
        h.0 w;
  } ∷ params-told p xs h.1 w

  sig-told : (p : Place S) (g : Sig S) → Told (sig_seen p g) → sig_with to (new_sig c p g) ≡ written_sig t (sig_with to
      g)
  sig-told p g h = λ w. record {
    params = params-told p g.params (front (params_seen p g.params) (params_seen p
        g.results) h) w;
    results = params-told p g.results (back (params_seen p g.params) (params_seen p g.results) h) w;
  }

  -- ---- keys

  chosen-is : (b : Bool) (x y : Value S) (z : Value Span) → (b ≡ true → value_with to x ≡ z) → (b ≡ false → value_with
      to y ≡ z) → value_with to (if b then x else y) ≡ z
  chosen-is true x y z h k = h refl
  chosen-is false x y z h k = k refl

  field-told : (v : Value S) → FieldTold to (told t) ps home at names v → value_with to (value_with c.span v) ≡
      written_value t (value_with to v)
  field-told (plain (ident s n)) h = (λ w. plain (ident (e w) n)) ∙ sym (ap (λ o. plain (written_ident t o n)) h)
  field-told (plain (int_lit z a1)) h = absurd h
  field-told (plain (rune_lit z a1)) h = absurd h
  field-told (plain (str_lit z a1)) h = absurd h
  field-told (plain (composite z a1 a2)) h = absurd h
  field-told (plain (selector z a1 a2)) h = absurd h
  field-told (plain (index z a1 a2)) h = absurd h
  field-told (plain (slice z a1 a2 a3)) h = absurd h
  field-told (plain (call z a1 a2 a3)) h = absurd h
  field-told (plain (func_lit z a1 a2 a3)) h = absurd h
  field-told (plain (type_operand z a1)) h = absurd h
  field-told (plain (unary z a1 a2)) h = absurd h
  field-told (plain (binary z a1 a2 a3)) h = absurd h
  field-told (plain (star z a1)) h = absurd h
  field-told (braced s es) h = absurd h

  -- ---- expressions and statements

  mutual
    pub expr-told : (p : Place S) (u : Use) (x : Expr S) → Told (expr_seen p u x) → expr_with to (new_expr c p u x) ≡
        written_expr t (expr_with to x)
    expr-told p u (ident s n) h = ident-is s n (member_qualifier ps home at names p n) h.0
    expr-told p u (int_lit s n) h = λ w. int_lit (e w) n
    expr-told p u (rune_lit s n) h = λ w. rune_lit (e w) n
    expr-told p u (str_lit s n) h = λ w. str_lit (e w) n
    expr-told p u (composite s y es) h = let hs = in3 (type_seen p y) (elems_seen (in_slot (a_slot 1 false false) p)
        (given (type_meant p.env y) (λ u. Some (under (defined_in p.env) u))) 0 es) (seen p u (composite s y es) ∷ []) h
        in λ w. composite (e w) (type-told p y hs.0 w) (elems-told (in_slot (a_slot 1 false false) p) (given (type_meant
        p.env y) (λ u. Some (under (defined_in p.env) u))) 0 es hs.1.0 hs.1.1.0 w)
    expr-told p u (selector s (ident z q) n) h = let hs = in2 (expr_seen (in_slot (inner_slot p.slot (selector s (ident
        z q) n) 7 false true) p) other (ident z q)) (seen p u (selector s (ident z q) n) ∷ []) h in selector-is s n
        (import_qualifier ps home at names p q) (new_expr c (in_slot (inner_slot p.slot (selector s (ident z q) n) 7
        false true) p) other (ident z q)) (written_expr t (expr_with to (ident z q))) hs.1.0 (expr-told (in_slot
        (inner_slot p.slot (selector s (ident z q) n) 7 false true) p) other (ident z q) hs.0)
    expr-told p u (selector s (int_lit z a1) n) h = let hs = in2 (expr_seen (in_slot (inner_slot p.slot (selector s
        (int_lit z a1) n) 7 false true) p) other (int_lit z a1)) (seen p u (selector s (int_lit z a1) n) ∷ []) h in
        selector-is s n None (new_expr c (in_slot (inner_slot p.slot (selector s (int_lit z a1) n) 7 false true) p)
        other (int_lit z a1)) (written_expr t (expr_with to (int_lit z a1))) hs.1.0 (expr-told (in_slot (inner_slot
        p.slot (selector s (int_lit z a1) n) 7 false true) p) other (int_lit z a1) hs.0)
    expr-told p u (selector s (rune_lit z a1) n) h = let hs = in2 (expr_seen (in_slot (inner_slot p.slot (selector s
        (rune_lit z a1) n) 7 false true) p) other (rune_lit z a1)) (seen p u (selector s (rune_lit z a1) n) ∷ []) h in
        selector-is s n None (new_expr c (in_slot (inner_slot p.slot (selector s (rune_lit z a1) n) 7 false true) p)
        other (rune_lit z a1)) (written_expr t (expr_with to (rune_lit z a1))) hs.1.0 (expr-told (in_slot (inner_slot
        p.slot (selector s (rune_lit z a1) n) 7 false true) p) other (rune_lit z a1) hs.0)
    expr-told p u (selector s (str_lit z a1) n) h = let hs = in2 (expr_seen (in_slot (inner_slot p.slot (selector s
        (str_lit z a1) n) 7 false true) p) other (str_lit z a1)) (seen p u (selector s (str_lit z a1) n) ∷ []) h in
        selector-is s n None (new_expr c (in_slot (inner_slot p.slot (selector s (str_lit z a1) n) 7 false true) p)
        other (str_lit z a1)) (written_expr t (expr_with to (str_lit z a1))) hs.1.0 (expr-told (in_slot (inner_slot
        p.slot (selector s (str_lit z a1) n) 7 false true) p) other (str_lit z a1) hs.0)
    expr-told p u (selector s (composite z a1 a2) n) h = let hs = in2 (expr_seen (in_slot (inner_slot p.slot (selector s
        (composite z a1 a2) n) 7 false true) p) other (composite z a1 a2)) (seen p u (selector s (composite z a1 a2) n)
        ∷ []) h in selector-is s n None (new_expr c (in_slot (inner_slot p.slot (selector s (composite z a1 a2) n) 7
        false true) p) other (composite z a1 a2)) (written_expr t (expr_with to (composite z a1 a2))) hs.1.0 (expr-told
        (in_slot (inner_slot p.slot (selector s (composite z a1 a2) n) 7 false true) p) other (composite z a1 a2) hs.0)
    expr-told p u (selector s (selector z a1 a2) n) h = let hs = in2 (expr_seen (in_slot (inner_slot p.slot (selector s
        (selector z a1 a2) n) 7 false true) p) other (selector z a1 a2)) (seen p u (selector s (selector z a1 a2) n) ∷
        []) h in selector-is s n None (new_expr c (in_slot (inner_slot p.slot (selector s (selector z a1 a2) n) 7 false
        true) p) other (selector z a1 a2)) (written_expr t (expr_with to (selector z a1 a2))) hs.1.0 (expr-told (in_slot
        (inner_slot p.slot (selector s (selector z a1 a2) n) 7 false true) p) other (selector z a1 a2) hs.0)
    expr-told p u (selector s (index z a1 a2) n) h = let hs = in2 (expr_seen (in_slot (inner_slot p.slot (selector s
        (index z a1 a2) n) 7 false true) p) other (index z a1 a2)) (seen p u (selector s (index z a1 a2) n) ∷ []) h in
        selector-is s n None (new_expr c (in_slot (inner_slot p.slot (selector s (index z a1 a2) n) 7 false true) p)
        other (index z a1 a2)) (written_expr t (expr_with to (index z a1 a2))) hs.1.0 (expr-told (in_slot (inner_slot
        p.slot (selector s (index z a1 a2) n) 7 false true) p) other (index z a1 a2) hs.0)
    expr-told p u (selector s (slice z a1 a2 a3) n) h = let hs = in2 (expr_seen (in_slot (inner_slot p.slot (selector s
        (slice z a1 a2 a3) n) 7 false true) p) other (slice z a1 a2 a3)) (seen p u (selector s (slice z a1 a2 a3) n) ∷
        []) h in selector-is s n None (new_expr c (in_slot (inner_slot p.slot (selector s (slice z a1 a2 a3) n) 7 false
        true) p) other (slice z a1 a2 a3)) (written_expr t (expr_with to (slice z a1 a2 a3))) hs.1.0 (expr-told (in_slot
        (inner_slot p.slot (selector s (slice z a1 a2 a3) n) 7 false true) p) other (slice z a1 a2 a3) hs.0)
    expr-told p u (selector s (call z a1 a2 a3) n) h = let hs = in2 (expr_seen (in_slot (inner_slot p.slot (selector s
        (call z a1 a2 a3) n) 7 false true) p) other (call z a1 a2 a3)) (seen p u (selector s (call z a1 a2 a3) n) ∷ [])
        h in selector-is s n None (new_expr c (in_slot (inner_slot p.slot (selector s (call z a1 a2 a3) n) 7 false true)
        p) other (call z a1 a2 a3)) (written_expr t (expr_with to (call z a1 a2 a3))) hs.1.0 (expr-told (in_slot
        (inner_slot p.slot (selector s (call z a1 a2 a3) n) 7 false true) p) other (call z a1 a2 a3) hs.0)
    expr-told p u (selector s (func_lit z a1 a2 a3) n) h = let hs = in2 (expr_seen (in_slot (inner_slot p.slot (selector
        s (func_lit z a1 a2 a3) n) 7 false true) p) other (func_lit z a1 a2 a3)) (seen p u (selector s (func_lit z a1 a2
        a3) n) ∷ []) h in selector-is s n None (new_expr c (in_slot (inner_slot p.slot (selector s (func_lit z a1 a2 a3)
        n) 7 false true) p) other (func_lit z a1 a2 a3)) (written_expr t (expr_with to (func_lit z a1 a2 a3))) hs.1.0
        (expr-told (in_slot (inner_slot p.slot (selector s (func_lit z a1 a2 a3) n) 7 false true) p) other (func_lit z
        a1 a2 a3) hs.0)
    expr-told p u (selector s (type_operand z a1) n) h = let hs = in2 (expr_seen (in_slot (inner_slot p.slot (selector s
        (type_operand z a1) n) 7 false true) p) other (type_operand z a1)) (seen p u (selector s (type_operand z a1) n)
        ∷ []) h in selector-is s n None (new_expr c (in_slot (inner_slot p.slot (selector s (type_operand z a1) n) 7
        false true) p) other (type_operand z a1)) (written_expr t (expr_with to (type_operand z a1))) hs.1.0 (expr-told
        (in_slot (inner_slot p.slot (selector s (type_operand z a1) n) 7 false true) p) other (type_operand z a1) hs.0)
    expr-told p u (selector s (unary z a1 a2) n) h = let hs = in2 (expr_seen (in_slot (inner_slot p.slot (selector s
        (unary z a1 a2) n) 7 false true) p) other (unary z a1 a2)) (seen p u (selector s (unary z a1 a2) n) ∷ []) h in
        selector-is s n None (new_expr c (in_slot (inner_slot p.slot (selector s (unary z a1 a2) n) 7 false true) p)
        other (unary z a1 a2)) (written_expr t (expr_with to (unary z a1 a2))) hs.1.0 (expr-told (in_slot (inner_slot
        p.slot (selector s (unary z a1 a2) n) 7 false true) p) other (unary z a1 a2) hs.0)
    expr-told p u (selector s (binary z a1 a2 a3) n) h = let hs = in2 (expr_seen (in_slot (inner_slot p.slot (selector s
        (binary z a1 a2 a3) n) 7 false true) p) other (binary z a1 a2 a3)) (seen p u (selector s (binary z a1 a2 a3) n)
        ∷ []) h in selector-is s n None (new_expr c (in_slot (inner_slot p.slot (selector s (binary z a1 a2 a3) n) 7
        false true) p) other (binary z a1 a2 a3)) (written_expr t (expr_with to (binary z a1 a2 a3))) hs.1.0 (expr-told
        (in_slot (inner_slot p.slot (selector s (binary z a1 a2 a3) n) 7 false true) p) other (binary z a1 a2 a3) hs.0)
    expr-told p u (selector s (star z a1) n) h = let hs = in2 (expr_seen (in_slot (inner_slot p.slot (selector s (star z
        a1) n) 7 false true) p) other (star z a1)) (seen p u (selector s (star z a1) n) ∷ []) h in selector-is s n None
        (new_expr c (in_slot (inner_slot p.slot (selector s (star z a1) n) 7 false true) p) other (star z a1))
        (written_expr t (expr_with to (star z a1))) hs.1.0 (expr-told (in_slot (inner_slot p.slot (selector s (star z
        a1) n) 7 false true) p) other (star z a1) hs.0)
    expr-told p u (index s b i) h = let hs = in3 (expr_seen (in_slot (inner_slot p.slot (index s b i) 7 false false) p)
        other b) (expr_seen (in_slot (a_slot 1 false false) p) other i) (seen p u (index s b i) ∷ []) h in λ w. index (e
        w) (expr-told (in_slot (inner_slot p.slot (index s b i) 7 false false) p) other b hs.0 w) (expr-told (in_slot
        (a_slot 1 false false) p) other i hs.1.0 w)
    expr-told p u (slice s b i j) h = let hs = in4 (expr_seen (in_slot (inner_slot p.slot (slice s b i j) 7 false false)
        p) other b) (option_seen (in_slot (a_slot 1 false false) p) i) (option_seen (in_slot (a_slot 1 false false) p)
        j) (seen p u (slice s b i j) ∷ []) h in λ w. slice (e w) (expr-told (in_slot (inner_slot p.slot (slice s b i j)
        7 false false) p) other b hs.0 w) (option-told (in_slot (a_slot 1 false false) p) i hs.1.0 w) (option-told
        (in_slot (a_slot 1 false false) p) j hs.1.1.0 w)
    expr-told p u (call s f xs r) h = let hs = in3 (expr_seen (callee_place (inner_slot p.slot (call s f xs r) 7 true
        false) f p) called f) (all_seen (in_slot (a_slot 1 false true) p) (arg_uses p.env (parts p.env f) (all_parts
        p.env xs)) xs) (seen p u (call s f xs r) ∷ []) h in λ w. call (e w) (expr-told (callee_place (inner_slot p.slot
        (call s f xs r) 7 true false) f p) called f hs.0 w) (all-told (in_slot (a_slot 1 false true) p) (arg_uses p.env
        (parts p.env f) (all_parts p.env xs)) xs hs.1.0 w) r
    expr-told p u (func_lit s g z b) h = let hs = in3 (sig_seen p g) (stmts_seen (in_literal p g) b) (seen p u (func_lit
        s g z b) ∷ []) h in λ w. func_lit (e w) (sig-told p g hs.0 w) (e w) (stmts-told (in_literal p g) b hs.1.0 w)
    expr-told p u (type_operand s y) h = let hs = in2 (type_seen p y) (seen p u (type_operand s y) ∷ []) h in λ w.
        type_operand (e w) (type-told p y hs.0 w)
    expr-told p u (unary s o x) h = let hs = in2 (expr_seen (in_slot (last_slot p.slot (unary s o x) 6 (Some o)) p)
        (unary_use o) x) (seen p u (unary s o x) ∷ []) h in λ w. unary (e w) o (expr-told (in_slot (last_slot p.slot
        (unary s o x) 6 (Some o)) p) (unary_use o) x hs.0 w)
    expr-told p u (binary s o a b) h = let hs = in3 (expr_seen (in_slot (inner_slot p.slot (binary s o a b) (level_of o)
        false false) p) (operand_use p.env o b) a) (expr_seen (in_slot (last_slot p.slot (binary s o a b) (level_of o +
        1) None) p) (operand_use p.env o a) b) (seen p u (binary s o a b) ∷ []) h in λ w. binary (e w) o (expr-told
        (in_slot (inner_slot p.slot (binary s o a b) (level_of o) false false) p) (operand_use p.env o b) a hs.0 w)
        (expr-told (in_slot (last_slot p.slot (binary s o a b) (level_of o + 1) None) p) (operand_use p.env o a) b
        hs.1.0 w)
    expr-told p u (star s x) h = let hs = in2 (expr_seen (in_slot (last_slot p.slot (star s x) 6 None) p) other x) (seen
        p u (star s x) ∷ []) h in λ w. star (e w) (expr-told (in_slot (last_slot p.slot (star s x) 6 None) p) other x
        hs.0 w)

    pub all-told : (p : Place S) (us : List Use) (x : Exprs S) → Told (all_seen p us x) → exprs_with to (new_all c p us
        x) ≡ written_exprs t (exprs_with to x)
    all-told p us no_exprs h = refl
    all-told p us (expr_and x es) h = let hs = in2 (expr_seen (record p { slot = comma_slot p.slot es }) (head_use us)
        x) (all_seen p (later_uses us) es) h in λ w. expr_and (expr-told (record p { slot = comma_slot p.slot es })
        (head_use us) x hs.0 w) (all-told p (later_uses us) es hs.1 w)

    pub option-told : (p : Place S) (x : ExprOption S) → Told (option_seen p x) → expr_option_with to (new_option c p x)
        ≡ written_expr_option t (expr_option_with to x)
    option-told p no_expr h = refl
    option-told p (some_expr x) h = λ w. some_expr (expr-told p other x h w)

    pub elems-told : (p : Place S) (u : Option GoType) (i : ℕ) (x : Elems S) → Told (elems_seen p u i x) → ElemsTold to
        (told t) ps home at names p u i x → elems_with to (new_elems c p u i x) ≡ written_elems t (elems_with to x)
    elems-told p u i no_elems h k = refl
    elems-told p u i (elem s k v es) h f = let hs = in3 (key_seen p u k) (value_seen (record p {
      slot = a_slot 1 false
          (elem_closed es);
    }) (elem_use p.env u i k) v) (elems_seen p u (suc i) es) h in λ w. elem (e w) (key-told p u k
        hs.0 f.0 w) (value-told (record p { slot = a_slot 1 false (elem_closed es) }) (elem_use p.env u i k) v hs.1.0
        f.1.0 w) (elems-told p u (suc i) es hs.1.1 f.1.1 w)

    pub key-told : (p : Place S) (u : Option GoType) (x : ValueOption S) → Told (key_seen p u x) → KeyTold to (told t)
        ps home at names p u x → value_option_with to (new_key c p u x) ≡ written_value_option t (value_option_with to
        x)
    key-told p u no_value h f = refl
    key-told p u (some_value v) h f = λ w. some_value (chosen-is (meets u is_struct) (value_with c.span v) (new_value c
        p (key_use p.env u) v) (written_value t (value_with to v)) (λ b. field-told v (f.0 b)) (λ b. value-told p
        (key_use p.env u) v (unless (meets u is_struct) (value_seen p (key_use p.env u) v) b h) (f.1 b)) w)

    pub value-told : (p : Place S) (u : Use) (x : Value S) → Told (value_seen p u x) → ValueTold to (told t) ps home at
        names p u x → value_with to (new_value c p u x) ≡ written_value t (value_with to x)
    value-told p u (plain x) h f = λ w. plain (expr-told p u x h w)
    value-told p u (braced s es) h f = λ w. braced (e w) (elems-told p (given (into_type u) (λ t. Some (under
        (defined_in p.env) (literal_type (defined_in p.env) t)))) 0 es h f w)

    pub stmt-told : (p : Place S) (l : Bool) (x : Stmt S) → Told (stmt_seen p l x) → stmt_with to (new_stmt c p l x) ≡
        written_stmt t (stmt_with to x)
    stmt-told p l (const_decl s g ss) h = let hs = in2 (constants_seen (plain_slot p) nothing_to_repeat 0 ss) (seen_stmt
        p (const_decl s g ss) ∷ []) h in λ w. const_decl (e w) g (constants-told (plain_slot p) nothing_to_repeat 0 ss
        hs.0 w)
    stmt-told p l (var_decl s g ss) h = let hs = in2 (variables_seen (plain_slot p) ss) (seen_stmt p (var_decl s g ss) ∷
        []) h in λ w. var_decl (e w) g (variables-told (plain_slot p) ss hs.0 w)
    stmt-told p l (empty s) h = λ w. empty (e w)
    stmt-told p l (eval s x) h = let hs = in2 (expr_seen p (alone l) x) (seen_stmt p (eval s x) ∷ []) h in λ w. eval (e
        w) (expr-told p (alone l) x hs.0 w)
    stmt-told p l (step s x b) h = let hs = in2 (expr_seen p updated x) (seen_stmt p (step s x b) ∷ []) h in λ w. step
        (e w) (expr-told p updated x hs.0 w) b
    stmt-told p l (assign s xs None ys) h = let hs = in3 (all_seen p (every_use stored xs) xs) (all_seen p (right_uses
        p.env xs) ys) (seen_stmt p (assign s xs None ys) ∷ []) h in λ w. assign (e w) (all-told p (every_use stored xs)
        xs hs.0 w) None (all-told p (right_uses p.env xs) ys hs.1.0 w)
    stmt-told p l (assign s xs (Some o) ys) h = let hs = in3 (all_seen p (every_use updated xs) xs) (all_seen p
        (first_operand_use p.env o xs ∷ []) ys) (seen_stmt p (assign s xs (Some o) ys) ∷ []) h in λ w. assign (e w)
        (all-told p (every_use updated xs) xs hs.0 w) (Some o) (all-told p (first_operand_use p.env o xs ∷ []) ys hs.1.0
        w)
    stmt-told p l (define s ns ys) h = let hs = in3 (old_seen p ns) (all_seen p (alike whole ns) ys) (seen_stmt p
        (define s ns ys) ∷ []) h in λ w. define (e w) (names-told ns w) (all-told p (alike whole ns) ys hs.1.0 w)
    stmt-told p l (return_ s xs) h = let hs = in2 (all_seen p (return_uses p.ctx.results xs) xs) (seen_stmt p (return_ s
        xs) ∷ []) h in λ w. return_ (e w) (all-told p (return_uses p.ctx.results xs) xs hs.0 w)
    stmt-told p l (break_ s n) h = λ w. break_ (e w) (label-told n w)
    stmt-told p l (continue_ s n) h = λ w. continue_ (e w) (label-told n w)
    stmt-told p l (inner s b) h = let hs = in2 (stmts_seen (block p) b) (seen_stmt p (inner s b) ∷ []) h in λ w. inner
        (e w) (stmts-told (block p) b hs.0 w)
    stmt-told p l (if_ s bs z) h = let hs = in3 (arms_seen (block p) bs) (block_seen (after_arms (block p) bs) z)
        (seen_stmt p (if_ s bs z) ∷ []) h in λ w. if_ (e w) (arms-told (block p) bs hs.0 w) (block-told (after_arms
        (block p) bs) z hs.1.0 w)
    stmt-told p l (for_ s i x q z b) h = let hs = in5 (first_seen (in_heading true (block p)) i) (option_seen
        (in_heading true (after_first (block p) i)) x) (first_seen (in_heading true (after_first (block p) i)) q)
        (stmts_seen (looping (block (after_first (block p) i))) b) (seen_stmt p (for_ s i x q z b) ∷ []) h in λ w. for_
        (e w) (first-told (in_heading true (block p)) i hs.0 w) (option-told (in_heading true (after_first (block p) i))
        x hs.1.0 w) (first-told (in_heading true (after_first (block p) i)) q hs.1.1.0 w) (e w) (stmts-told (looping
        (block (after_first (block p) i))) b hs.1.1.1.0 w)
    stmt-told p l (range_ s x y z b) h = let hs = in4 (left_seen (in_heading true p) x) (expr_seen (in_heading true p)
        other y) (stmts_seen (looping (block (ranged p x y))) b) (seen_stmt p (range_ s x y z b) ∷ []) h in λ w. range_
        (e w) (left-told (in_heading true p) x hs.0 w) (expr-told (in_heading true p) other y hs.1.0 w) (e w)
        (stmts-told (looping (block (ranged p x y))) b hs.1.1.0 w)
    stmt-told p l (switch s i x cs) h = let hs = in4 (first_seen (in_heading true (block p)) i) (option_seen (in_heading
        true (after_first (block p) i)) x) (cases_seen (switching (after_first (block p) i)) cs) (seen_stmt p (switch s
        i x cs) ∷ []) h in λ w. switch (e w) (first-told (in_heading true (block p)) i hs.0 w) (option-told (in_heading
        true (after_first (block p) i)) x hs.1.0 w) (cases-told (switching (after_first (block p) i)) cs hs.1.1.0 w)
    stmt-told p l (defer s x) h = let hs = in2 (expr_seen (record p { deferring = true; slot = a_slot 0 false false })
        deferred_call x) (seen_stmt p (defer s x) ∷ []) h in λ w. defer (e w) (expr-told (record p {
          deferring = true;
          slot = a_slot 0 false false;
        }) deferred_call x hs.0 w)
    stmt-told p l (label s n x) h = let hs = in2 (stmt_seen (record p { ctx = labelled p.ctx n x }) false x) (seen_stmt
        p (label s n x) ∷ []) h in λ w. label (e w) (name-told n w) (stmt-told (record p { ctx = labelled p.ctx n x })
        false x hs.0 w)

    pub stmts-told : (p : Place S) (x : Stmts S) → Told (stmts_seen p x) → stmts_with to (new_stmts c p x) ≡
        written_stmts t (stmts_with to x)
    stmts-told p no_stmts h = refl
    stmts-told p (stmt_and s ss) h = let hs = in2 (stmt_seen (at_stmt p s) true s) (stmts_seen (after_stmt p s) ss) h in
        λ w. stmt_and (stmt-told (at_stmt p s) true s hs.0 w) (stmts-told (after_stmt p s) ss hs.1 w)

    pub first-told : (p : Place S) (x : StmtOption S) → Told (first_seen p x) → stmt_option_with to (new_first c p x) ≡
        written_stmt_option t (stmt_option_with to x)
    first-told p no_stmt h = refl
    first-told p (some_stmt s) h = λ w. some_stmt (stmt-told p false s h w)

    pub block-told : (p : Place S) (x : BlockOption S) → Told (block_seen p x) → block_option_with to (new_block c p x)
        ≡ written_block_option t (block_option_with to x)
    block-told p no_block h = refl
    block-told p (some_block s b) h = λ w. some_block (e w) (stmts-told (block p) b h w)

    pub left-told : (p : Place S) (x : RangeLeft S) → Told (left_seen p x) → left_with to (new_left c p x) ≡
        written_left t (left_with to x)
    left-told p nothing h = refl
    left-told p (assigns es) h = λ w. assigns (all-told p (every_use stored es) es h w)
    left-told p (defines ns) h = λ w. defines (names-told ns w)

    pub arms-told : (p : Place S) (x : Arms S) → Told (arms_seen p x) → arms_with to (new_arms c p x) ≡ written_arms t
        (arms_with to x)
    arms-told p no_arms h = refl
    arms-told p (arm s i x z b r) h = let hs = in4 (first_seen (in_heading true p) i) (expr_seen (in_heading true
        (after_first p i)) other x) (stmts_seen (block (after_first p i)) b) (arms_seen (block (after_first p i)) r) h
        in λ w. arm (e w) (first-told (in_heading true p) i hs.0 w) (expr-told (in_heading true (after_first p i)) other
        x hs.1.0 w) (e w) (stmts-told (block (after_first p i)) b hs.1.1.0 w) (arms-told (block (after_first p i)) r
        hs.1.1.1 w)

    pub cases-told : (p : Place S) (x : Cases S) → Told (cases_seen p x) → cases_with to (new_cases c p x) ≡
        written_cases t (cases_with to x)
    cases-told p no_cases h = refl
    cases-told p (case s es b cs) h = let hs = in3 (all_seen (in_heading false p) [] es) (stmts_seen (block p) b)
        (cases_seen p cs) h in λ w. case (e w) (all-told (in_heading false p) [] es hs.0 w) (stmts-told (block p) b
        hs.1.0 w) (cases-told p cs hs.1.1 w)

    pub constants-told : (p : Place S) (r : Repeated) (i : ℕ) (x : ValueSpecs S) → Told (constants_seen p r i x) →
        specs_with to (new_constants c p r i x) ≡ written_specs t (specs_with to x)
    constants-told p r i no_specs h = refl
    constants-told p r i (spec s ns y es ss) h = let hs = in3 (written_seen (before_repeats (in_constant i p) ns ss) y)
        (all_seen (before_repeats (in_constant i p) ns ss) (alike (value_use p.env y) ns) es) (constants_seen
        (after_constants p (repeated_by r y es) i ns) (repeated_by r y es) (suc i) ss) h in λ w. spec (e w) (names-told
        ns w) (written-told (before_repeats (in_constant i p) ns ss) y hs.0 w) (all-told (before_repeats (in_constant i
        p) ns ss) (alike (value_use p.env y) ns) es hs.1.0 w) (constants-told (after_constants p (repeated_by r y es) i
        ns) (repeated_by r y es) (suc i) ss hs.1.1 w)

    pub variables-told : (p : Place S) (x : ValueSpecs S) → Told (variables_seen p x) → specs_with to (new_variables c p
        x) ≡ written_specs t (specs_with to x)
    variables-told p no_specs h = refl
    variables-told p (spec s ns y es ss) h = let hs = in3 (written_seen p y) (all_seen p (alike (value_use p.env y) ns)
        es) (variables_seen (after_variables p ns y es) ss) h in λ w. spec (e w) (names-told ns w) (written-told p y
        hs.0 w) (all-told p (alike (value_use p.env y) ns) es hs.1.0 w) (variables-told (after_variables p ns y es) ss
        hs.1.1 w)
