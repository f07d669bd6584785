-- The parts of a declaration with other spans, and the members that they name.
use Rattle.std.proofs.Common.{◌≡◌, ◌∙◌, Bool, not, List, [], ◌∷◌, ◌++◌, map, Option, Some, None, refl, sym, ap}
use Rattle.std.specs.Option.{option_map}
use Rattle.std.proofs.lemmas.List.{map-append}
use Rattle.go_tree.specs.declared.spans.Span.{Span}
use Rattle.go_tree.specs.Tree.{TypeExpr, named, pointer, slice_type, map_type, struct_type, Fields, no_fields, field, Param, Sig, Expr, ident, int_lit, rune_lit, str_lit, composite, selector, index, slice, call, func_lit, type_operand, unary, binary, star, Exprs, no_exprs, expr_and, ExprOption, no_expr, some_expr, Elems, no_elems, elem, Value, plain, braced, ValueOption, no_value, some_value, Stmt, const_decl, var_decl, empty, eval, step, assign, define, return_, break_, continue_, inner, if_, for_, range_, switch, defer, label, Stmts, no_stmts, stmt_and, StmtOption, no_stmt, some_stmt, BlockOption, no_block, some_block, RangeLeft, nothing, assigns, defines, Arms, no_arms, arm, Cases, no_cases, case, ValueSpecs, no_specs, spec}
use Rattle.go_tree.specs.File.{TypeSpec, Receiver, Func, Decl, values, types, func}
use Rattle.run_rules.specs.Respanned.{type_with, fields_with, param_with, sig_with, expr_with, exprs_with, expr_option_with, elems_with, value_option_with, value_with, stmt_with, stmts_with, stmt_option_with, block_option_with, left_with, arms_with, cases_with, specs_with, type_spec_with, receiver_with, func_with, decl_with}
use Rattle.run_rules.specs.Sites.{Part, an_expr, a_type_part}
use Rattle.member_uses.specs.PossibleUses.Candidates.{Candidate, plain_part, key_of, receiver_part}
use Rattle.member_uses.specs.PossibleUses.Parts.{put, parts_of, after_arms, after_block_option, after_cases, after_decl, after_elems, after_expr, after_expr_option, after_exprs, after_fields, after_func, after_key, after_left, after_params, after_receiver, after_sig, after_specs, after_stmt, after_stmt_option, after_stmts, after_type, after_type_option, after_types, after_value}
use Rattle.member_uses.specs.PossibleUses.Written.{has_no_fields, literal_written, inner_written, keys_written}
use Rattle.member_uses.specs.Uses.{Used, Names, part_uses, member_uses}

module _ {S T : Type 0} (to : S → T) where
  -- a part with other spans
  abbrev part_with : Part S → Part T
  part_with (an_expr e) = an_expr (expr_with to e)
  part_with (a_type_part t) = a_type_part (type_with to t)

  abbrev pub candidate_with : Candidate S → Candidate T
  candidate_with c = record { part = part_with c.part; key = c.key }

  put_stays : (c : Candidate S) (xs : List (Candidate S)) → put (candidate_with c) (map (candidate_with) xs) ≡ map (candidate_with) (put c xs)
  put_stays c xs = sym (map-append (candidate_with) xs (c ∷ []))

  -- ---- what is written of the types of literals

  abbrev written_with : Option (TypeExpr S) → Option (TypeExpr T)
  written_with h = option_map (type_with to) h

  fields-stay : (h : Option (TypeExpr S)) → has_no_fields (written_with h) ≡ has_no_fields h
  fields-stay None = refl
  fields-stay (Some (named s p n)) = refl
  fields-stay (Some (pointer s t)) = refl
  fields-stay (Some (slice_type s t)) = refl
  fields-stay (Some (map_type s k t)) = refl
  fields-stay (Some (struct_type s fs)) = refl

  literal-stays : (t : TypeExpr S) → literal_written (type_with to t) ≡ written_with (literal_written t)
  literal-stays (named s p n) = refl
  literal-stays (pointer s t) = refl
  literal-stays (slice_type s t) = refl
  literal-stays (map_type s k t) = refl
  literal-stays (struct_type s fs) = refl

  inner-stays : (h : Option (TypeExpr S)) → inner_written (written_with h) ≡ written_with (inner_written h)
  inner-stays None = refl
  inner-stays (Some (named s p n)) = refl
  inner-stays (Some (pointer s t)) = refl
  inner-stays (Some (slice_type s t)) = literal-stays t
  inner-stays (Some (map_type s k t)) = literal-stays t
  inner-stays (Some (struct_type s fs)) = refl

  keys-stay : (h : Option (TypeExpr S)) → keys_written (written_with h) ≡ written_with (keys_written h)
  keys-stay None = refl
  keys-stay (Some (named s p n)) = refl
  keys-stay (Some (pointer s t)) = refl
  keys-stay (Some (slice_type s t)) = refl
  keys-stay (Some (map_type s k t)) = literal-stays k
  keys-stay (Some (struct_type s fs)) = refl

  mutual
    after_type-stays : (x : TypeExpr S) (xs : List (Candidate S)) → after_type (type_with to x) (map (candidate_with) xs) ≡ map (candidate_with) (after_type x xs)
    after_type-stays (named s p n) xs = put_stays (plain_part (a_type_part (named s p n))) (xs)
    after_type-stays (pointer k t) xs = after_type-stays t (xs)
    after_type-stays (slice_type k t) xs = after_type-stays t (xs)
    after_type-stays (map_type l k t) xs = ap (λ (ys : List (Candidate T)). after_type (type_with to t) (ys)) (after_type-stays k (xs)) ∙ after_type-stays t (after_type k (xs))
    after_type-stays (struct_type k fs) xs = after_fields-stays fs (xs)

    after_fields-stays : (x : Fields S) (xs : List (Candidate S)) → after_fields (fields_with to x) (map (candidate_with) xs) ≡ map (candidate_with) (after_fields x xs)
    after_fields-stays no_fields xs = refl
    after_fields-stays (field k l t fs) xs = ap (λ (ys : List (Candidate T)). after_fields (fields_with to fs) (ys)) (after_type-stays t (xs)) ∙ after_fields-stays fs (after_type t (xs))

  after_type_option-stays : (x : Option (TypeExpr S)) (xs : List (Candidate S)) → after_type_option (option_map (type_with to) x) (map (candidate_with) xs) ≡ map (candidate_with) (after_type_option x xs)
  after_type_option-stays None xs = refl
  after_type_option-stays (Some t) xs = after_type-stays t (xs)

  after_params-stays : (x : List (Param S)) (xs : List (Candidate S)) → after_params (map (param_with to) x) (map (candidate_with) xs) ≡ map (candidate_with) (after_params x xs)
  after_params-stays [] xs = refl
  after_params-stays (p ∷ ps) xs = ap (λ (ys : List (Candidate T)). after_params (map (param_with to) ps) ys) (after_type-stays p.of xs) ∙ after_params-stays ps (after_type p.of xs)

  after_sig-stays : (x : Sig S) (xs : List (Candidate S)) → after_sig (sig_with to x) (map (candidate_with) xs) ≡ map (candidate_with) (after_sig x xs)
  after_sig-stays g xs = ap (λ (ys : List (Candidate T)). after_params (map (param_with to) g.results) ys) (after_params-stays g.params xs) ∙ after_params-stays g.results (after_params g.params xs)

  mutual
    after_expr-stays : (x : Expr S) (xs : List (Candidate S)) → after_expr (expr_with to x) (map (candidate_with) xs) ≡ map (candidate_with) (after_expr x xs)
    after_expr-stays (ident s n) xs = put_stays (plain_part (an_expr (ident s n))) (xs)
    after_expr-stays (int_lit k l) xs = refl
    after_expr-stays (rune_lit k l) xs = refl
    after_expr-stays (str_lit k l) xs = refl
    after_expr-stays (composite k t es) xs = ap (λ (ys : List (Candidate T)). after_elems (Some (type_with to t)) (elems_with to es) (ys)) (after_type-stays t (xs)) ∙ after_elems-stays (Some t) es (after_type t (xs))
    after_expr-stays (selector s b n) xs = ap (λ (ys : List (Candidate T)). put (candidate_with (plain_part (an_expr (selector s b n)))) (ys)) (after_expr-stays b (xs)) ∙ put_stays (plain_part (an_expr (selector s b n))) (after_expr b (xs))
    after_expr-stays (index k b i) xs = ap (λ (ys : List (Candidate T)). after_expr (expr_with to i) (ys)) (after_expr-stays b (xs)) ∙ after_expr-stays i (after_expr b (xs))
    after_expr-stays (slice k b i j) xs = ap (λ (ys : List (Candidate T)). after_expr_option (expr_option_with to j) (after_expr_option (expr_option_with to i) (ys))) (after_expr-stays b (xs)) ∙ ap (λ (ys : List (Candidate T)). after_expr_option (expr_option_with to j) (ys)) (after_expr_option-stays i (after_expr b (xs))) ∙ after_expr_option-stays j (after_expr_option i (after_expr b (xs)))
    after_expr-stays (call s f es r) xs = ap (λ (ys : List (Candidate T)). put (candidate_with (plain_part (an_expr (call s f es r)))) (after_exprs (exprs_with to es) (ys))) (after_expr-stays f (xs)) ∙ ap (λ (ys : List (Candidate T)). put (candidate_with (plain_part (an_expr (call s f es r)))) (ys)) (after_exprs-stays es (after_expr f (xs))) ∙ put_stays (plain_part (an_expr (call s f es r))) (after_exprs es (after_expr f (xs)))
    after_expr-stays (func_lit k g l b) xs = ap (λ (ys : List (Candidate T)). after_stmts (stmts_with to b) (ys)) (after_sig-stays g (xs)) ∙ after_stmts-stays b (after_sig g (xs))
    after_expr-stays (type_operand k t) xs = after_type-stays t (xs)
    after_expr-stays (unary k l e) xs = after_expr-stays e (xs)
    after_expr-stays (binary k l a b) xs = ap (λ (ys : List (Candidate T)). after_expr (expr_with to b) (ys)) (after_expr-stays a (xs)) ∙ after_expr-stays b (after_expr a (xs))
    after_expr-stays (star k e) xs = after_expr-stays e (xs)

    after_exprs-stays : (x : Exprs S) (xs : List (Candidate S)) → after_exprs (exprs_with to x) (map (candidate_with) xs) ≡ map (candidate_with) (after_exprs x xs)
    after_exprs-stays no_exprs xs = refl
    after_exprs-stays (expr_and e es) xs = ap (λ (ys : List (Candidate T)). after_exprs (exprs_with to es) (ys)) (after_expr-stays e (xs)) ∙ after_exprs-stays es (after_expr e (xs))

    after_expr_option-stays : (x : ExprOption S) (xs : List (Candidate S)) → after_expr_option (expr_option_with to x) (map (candidate_with) xs) ≡ map (candidate_with) (after_expr_option x xs)
    after_expr_option-stays no_expr xs = refl
    after_expr_option-stays (some_expr e) xs = after_expr-stays e (xs)

    after_elems-stays : (h : Option (TypeExpr S)) (x : Elems S) (xs : List (Candidate S)) → after_elems (written_with h) (elems_with to x) (map (candidate_with) xs) ≡ map (candidate_with) (after_elems h x xs)
    after_elems-stays h no_elems xs = refl
    after_elems-stays h (elem l k v es) xs =
        ap (λ (ys : List (Candidate T)). after_elems (written_with h) (elems_with to es) (after_value (inner_written (written_with h)) (value_with to v) ys)) (after_key-stays h k xs)
        ∙ ap (λ (w : Option (TypeExpr T)). after_elems (written_with h) (elems_with to es) (after_value w (value_with to v) (map (candidate_with) (after_key h k xs)))) (inner-stays h)
        ∙ ap (λ (ys : List (Candidate T)). after_elems (written_with h) (elems_with to es) ys) (after_value-stays (inner_written h) v (after_key h k xs))
        ∙ after_elems-stays h es (after_value (inner_written h) v (after_key h k xs))

    after_key-stays : (h : Option (TypeExpr S)) (x : ValueOption S) (xs : List (Candidate S)) → after_key (written_with h) (value_option_with to x) (map (candidate_with) xs) ≡ map (candidate_with) (after_key h x xs)
    after_key-stays h no_value xs = refl
    after_key-stays h (some_value (plain (ident s n))) xs =
        ap (λ (b : Bool). put (record { part = an_expr (ident (to s) n); key = not b }) (map (candidate_with) xs)) (fields-stay h) ∙ put_stays (key_of h (ident s n)) xs
    after_key-stays h (some_value (plain (int_lit s n))) xs = refl
    after_key-stays h (some_value (plain (rune_lit s n))) xs = refl
    after_key-stays h (some_value (plain (str_lit s n))) xs = refl
    after_key-stays h (some_value (plain (composite s t es))) xs = after_expr-stays (composite s t es) xs
    after_key-stays h (some_value (plain (selector s b n))) xs = after_expr-stays (selector s b n) xs
    after_key-stays h (some_value (plain (index s b i))) xs = after_expr-stays (index s b i) xs
    after_key-stays h (some_value (plain (slice s b i j))) xs = after_expr-stays (slice s b i j) xs
    after_key-stays h (some_value (plain (call s f es r))) xs = after_expr-stays (call s f es r) xs
    after_key-stays h (some_value (plain (func_lit s g z b))) xs = after_expr-stays (func_lit s g z b) xs
    after_key-stays h (some_value (plain (type_operand s t))) xs = after_expr-stays (type_operand s t) xs
    after_key-stays h (some_value (plain (unary s o e))) xs = after_expr-stays (unary s o e) xs
    after_key-stays h (some_value (plain (binary s o a b))) xs = after_expr-stays (binary s o a b) xs
    after_key-stays h (some_value (plain (star s e))) xs = after_expr-stays (star s e) xs
    after_key-stays h (some_value (braced s es)) xs =
        ap (λ (w : Option (TypeExpr T)). after_elems w (elems_with to es) (map (candidate_with) xs)) (keys-stay h) ∙ after_elems-stays (keys_written h) es xs

    after_value-stays : (h : Option (TypeExpr S)) (x : Value S) (xs : List (Candidate S)) → after_value (written_with h) (value_with to x) (map (candidate_with) xs) ≡ map (candidate_with) (after_value h x xs)
    after_value-stays h (plain e) xs = after_expr-stays e xs
    after_value-stays h (braced k es) xs = after_elems-stays h es xs

    after_stmt-stays : (x : Stmt S) (xs : List (Candidate S)) → after_stmt (stmt_with to x) (map (candidate_with) xs) ≡ map (candidate_with) (after_stmt x xs)
    after_stmt-stays (const_decl k l ss) xs = after_specs-stays ss (xs)
    after_stmt-stays (var_decl k l ss) xs = after_specs-stays ss (xs)
    after_stmt-stays (empty k) xs = refl
    after_stmt-stays (eval k e) xs = after_expr-stays e (xs)
    after_stmt-stays (step k e l) xs = after_expr-stays e (xs)
    after_stmt-stays (assign k ls l bs) xs = ap (λ (ys : List (Candidate T)). after_exprs (exprs_with to bs) (ys)) (after_exprs-stays ls (xs)) ∙ after_exprs-stays bs (after_exprs ls (xs))
    after_stmt-stays (define k l es) xs = after_exprs-stays es (xs)
    after_stmt-stays (return_ k es) xs = after_exprs-stays es (xs)
    after_stmt-stays (break_ k l) xs = refl
    after_stmt-stays (continue_ k l) xs = refl
    after_stmt-stays (inner k b) xs = after_stmts-stays b (xs)
    after_stmt-stays (if_ k bs z) xs = ap (λ (ys : List (Candidate T)). after_block_option (block_option_with to z) (ys)) (after_arms-stays bs (xs)) ∙ after_block_option-stays z (after_arms bs (xs))
    after_stmt-stays (for_ k i t q l b) xs = ap (λ (ys : List (Candidate T)). after_stmts (stmts_with to b) (after_stmt_option (stmt_option_with to q) (after_expr_option (expr_option_with to t) (ys)))) (after_stmt_option-stays i (xs)) ∙ ap (λ (ys : List (Candidate T)). after_stmts (stmts_with to b) (after_stmt_option (stmt_option_with to q) (ys))) (after_expr_option-stays t (after_stmt_option i (xs))) ∙ ap (λ (ys : List (Candidate T)). after_stmts (stmts_with to b) (ys)) (after_stmt_option-stays q (after_expr_option t (after_stmt_option i (xs)))) ∙ after_stmts-stays b (after_stmt_option q (after_expr_option t (after_stmt_option i (xs))))
    after_stmt-stays (range_ k x e l b) xs = ap (λ (ys : List (Candidate T)). after_stmts (stmts_with to b) (after_expr (expr_with to e) (ys))) (after_left-stays x (xs)) ∙ ap (λ (ys : List (Candidate T)). after_stmts (stmts_with to b) (ys)) (after_expr-stays e (after_left x (xs))) ∙ after_stmts-stays b (after_expr e (after_left x (xs)))
    after_stmt-stays (switch k i t cs) xs = ap (λ (ys : List (Candidate T)). after_cases (cases_with to cs) (after_expr_option (expr_option_with to t) (ys))) (after_stmt_option-stays i (xs)) ∙ ap (λ (ys : List (Candidate T)). after_cases (cases_with to cs) (ys)) (after_expr_option-stays t (after_stmt_option i (xs))) ∙ after_cases-stays cs (after_expr_option t (after_stmt_option i (xs)))
    after_stmt-stays (defer k e) xs = after_expr-stays e (xs)
    after_stmt-stays (label k l x) xs = after_stmt-stays x (xs)

    after_stmts-stays : (x : Stmts S) (xs : List (Candidate S)) → after_stmts (stmts_with to x) (map (candidate_with) xs) ≡ map (candidate_with) (after_stmts x xs)
    after_stmts-stays no_stmts xs = refl
    after_stmts-stays (stmt_and s ss) xs = ap (λ (ys : List (Candidate T)). after_stmts (stmts_with to ss) (ys)) (after_stmt-stays s (xs)) ∙ after_stmts-stays ss (after_stmt s (xs))

    after_stmt_option-stays : (x : StmtOption S) (xs : List (Candidate S)) → after_stmt_option (stmt_option_with to x) (map (candidate_with) xs) ≡ map (candidate_with) (after_stmt_option x xs)
    after_stmt_option-stays no_stmt xs = refl
    after_stmt_option-stays (some_stmt s) xs = after_stmt-stays s (xs)

    after_block_option-stays : (x : BlockOption S) (xs : List (Candidate S)) → after_block_option (block_option_with to x) (map (candidate_with) xs) ≡ map (candidate_with) (after_block_option x xs)
    after_block_option-stays no_block xs = refl
    after_block_option-stays (some_block k b) xs = after_stmts-stays b (xs)

    after_left-stays : (x : RangeLeft S) (xs : List (Candidate S)) → after_left (left_with to x) (map (candidate_with) xs) ≡ map (candidate_with) (after_left x xs)
    after_left-stays nothing xs = refl
    after_left-stays (assigns es) xs = after_exprs-stays es (xs)
    after_left-stays (defines k) xs = refl

    after_arms-stays : (x : Arms S) (xs : List (Candidate S)) → after_arms (arms_with to x) (map (candidate_with) xs) ≡ map (candidate_with) (after_arms x xs)
    after_arms-stays no_arms xs = refl
    after_arms-stays (arm k i t l b r) xs = ap (λ (ys : List (Candidate T)). after_arms (arms_with to r) (after_stmts (stmts_with to b) (after_expr (expr_with to t) (ys)))) (after_stmt_option-stays i (xs)) ∙ ap (λ (ys : List (Candidate T)). after_arms (arms_with to r) (after_stmts (stmts_with to b) (ys))) (after_expr-stays t (after_stmt_option i (xs))) ∙ ap (λ (ys : List (Candidate T)). after_arms (arms_with to r) (ys)) (after_stmts-stays b (after_expr t (after_stmt_option i (xs)))) ∙ after_arms-stays r (after_stmts b (after_expr t (after_stmt_option i (xs))))

    after_cases-stays : (x : Cases S) (xs : List (Candidate S)) → after_cases (cases_with to x) (map (candidate_with) xs) ≡ map (candidate_with) (after_cases x xs)
    after_cases-stays no_cases xs = refl
    after_cases-stays (case k es b cs) xs = ap (λ (ys : List (Candidate T)). after_cases (cases_with to cs) (after_stmts (stmts_with to b) (ys))) (after_exprs-stays es (xs)) ∙ ap (λ (ys : List (Candidate T)). after_cases (cases_with to cs) (ys)) (after_stmts-stays b (after_exprs es (xs))) ∙ after_cases-stays cs (after_stmts b (after_exprs es (xs)))

    after_specs-stays : (x : ValueSpecs S) (xs : List (Candidate S)) → after_specs (specs_with to x) (map (candidate_with) xs) ≡ map (candidate_with) (after_specs x xs)
    after_specs-stays no_specs xs = refl
    after_specs-stays (spec k l t es ss) xs = ap (λ (ys : List (Candidate T)). after_specs (specs_with to ss) (after_exprs (exprs_with to es) (ys))) (after_type_option-stays t (xs)) ∙ ap (λ (ys : List (Candidate T)). after_specs (specs_with to ss) (ys)) (after_exprs-stays es (after_type_option t (xs))) ∙ after_specs-stays ss (after_exprs es (after_type_option t (xs)))

  after_types-stays : (x : List (TypeSpec S)) (xs : List (Candidate S)) → after_types (map (type_spec_with to) x) (map (candidate_with) xs) ≡ map (candidate_with) (after_types x xs)
  after_types-stays [] xs = refl
  after_types-stays (t ∷ ts) xs = ap (λ (ys : List (Candidate T)). after_types (map (type_spec_with to) ts) ys) (after_type-stays t.of xs) ∙ after_types-stays ts (after_type t.of xs)

  after_receiver-stays : (x : Option (Receiver S)) (xs : List (Candidate S)) → after_receiver (option_map (receiver_with to) x) (map (candidate_with) xs) ≡ map (candidate_with) (after_receiver x xs)
  after_receiver-stays None xs = refl
  after_receiver-stays (Some r) xs = put_stays (plain_part (receiver_part r.of)) (xs)

  after_func-stays : (x : Func S) (xs : List (Candidate S)) → after_func (func_with to x) (map (candidate_with) xs) ≡ map (candidate_with) (after_func x xs)
  after_func-stays f xs = ap (λ (ys : List (Candidate T)). after_stmts (stmts_with to f.body) (after_sig (sig_with to f.sig) ys)) (after_receiver-stays f.receiver xs) ∙ ap (λ (ys : List (Candidate T)). after_stmts (stmts_with to f.body) ys) (after_sig-stays f.sig (after_receiver f.receiver xs)) ∙ after_stmts-stays f.body (after_sig f.sig (after_receiver f.receiver xs))

  pub after_decl-stays : (x : Decl S) (xs : List (Candidate S)) → after_decl (decl_with to x) (map (candidate_with) xs) ≡ map (candidate_with) (after_decl x xs)
  after_decl-stays (values (const_decl k l ss)) xs = after_specs-stays ss (xs)
  after_decl-stays (values (var_decl k l ss)) xs = after_specs-stays ss (xs)
  after_decl-stays (values (empty s)) xs = refl
  after_decl-stays (values (eval s e)) xs = refl
  after_decl-stays (values (step s e b)) xs = refl
  after_decl-stays (values (assign s ls o bs)) xs = refl
  after_decl-stays (values (define s ns es)) xs = refl
  after_decl-stays (values (return_ s es)) xs = refl
  after_decl-stays (values (break_ s n)) xs = refl
  after_decl-stays (values (continue_ s n)) xs = refl
  after_decl-stays (values (inner s b)) xs = refl
  after_decl-stays (values (if_ s bs z)) xs = refl
  after_decl-stays (values (for_ s i t q z b)) xs = refl
  after_decl-stays (values (range_ s l e z b)) xs = refl
  after_decl-stays (values (switch s i t cs)) xs = refl
  after_decl-stays (values (defer s e)) xs = refl
  after_decl-stays (values (label s n y)) xs = refl
  after_decl-stays (types k l ts) xs = after_types-stays ts (xs)
  after_decl-stays (func f) xs = after_func-stays f (xs)

-- ---- the members that they name

module _ {S : Type 0} (to : S → Span) (f : Names) where
  part_stays : (key : Bool) (x : Part S) → part_uses (λ s. s) f key (part_with to x) ≡ part_uses to f key x
  part_stays key (an_expr (ident s n)) = refl
  part_stays key (an_expr (selector s (ident y m) n)) = refl
  part_stays key (an_expr (selector s (int_lit y m) n)) = refl
  part_stays key (an_expr (selector s (rune_lit y m) n)) = refl
  part_stays key (an_expr (selector s (str_lit y m) n)) = refl
  part_stays key (an_expr (selector s (composite y t es) n)) = refl
  part_stays key (an_expr (selector s (selector y b m) n)) = refl
  part_stays key (an_expr (selector s (index y b i) n)) = refl
  part_stays key (an_expr (selector s (slice y b i j) n)) = refl
  part_stays key (an_expr (selector s (call y g es r) n)) = refl
  part_stays key (an_expr (selector s (func_lit y g z b) n)) = refl
  part_stays key (an_expr (selector s (type_operand y t) n)) = refl
  part_stays key (an_expr (selector s (unary y o e) n)) = refl
  part_stays key (an_expr (selector s (binary y o a b) n)) = refl
  part_stays key (an_expr (selector s (star y e) n)) = refl
  part_stays key (an_expr (int_lit s n)) = refl
  part_stays key (an_expr (rune_lit s n)) = refl
  part_stays key (an_expr (str_lit s n)) = refl
  part_stays key (an_expr (composite s t es)) = refl
  part_stays key (an_expr (index s b i)) = refl
  part_stays key (an_expr (slice s b i j)) = refl
  part_stays key (an_expr (call s g es r)) = refl
  part_stays key (an_expr (func_lit s g z b)) = refl
  part_stays key (an_expr (type_operand s t)) = refl
  part_stays key (an_expr (unary s o e)) = refl
  part_stays key (an_expr (binary s o a b)) = refl
  part_stays key (an_expr (star s e)) = refl
  part_stays key (a_type_part (named s None n)) = refl
  part_stays key (a_type_part (named s (Some q) n)) = refl
  part_stays key (a_type_part (pointer s t)) = refl
  part_stays key (a_type_part (slice_type s t)) = refl
  part_stays key (a_type_part (map_type s k t)) = refl
  part_stays key (a_type_part (struct_type s fs)) = refl

  uses_stay : (cs : List (Candidate S)) → member_uses (λ s. s) f (map (candidate_with to) cs) ≡ member_uses to f cs
  uses_stay [] = refl
  uses_stay (c ∷ cs) =
      ap (λ (us : List Used). us ++ member_uses (λ s. s) f (map (candidate_with to) cs)) (part_stays c.key c.part)
      ∙ ap (λ (us : List Used). part_uses to f c.key c.part ++ us) (uses_stay cs)

  -- a tree whose nodes stand where another has them names the same members
  pub members_stay : (d : Decl S) → member_uses (λ s. s) f (parts_of (decl_with to d)) ≡ member_uses to f (parts_of d)
  members_stay d = ap (member_uses (λ s. s) f) (after_decl-stays to d []) ∙ uses_stay (parts_of d)
