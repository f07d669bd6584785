-- What is found is alike in two environments in which the free names mean the same.
use Rattle.std.specs.Prelude.{◌≡◌, refl, ℕ, ◌+◌, Bool, true, false, List, [], ◌∷◌, ◌++◌, map, length, Option, Some}
use Rattle.std.specs.Prelude.{None, if◌then◌else◌}
use mathlib.Core.Path.{ap, sym, ◌∙◌, subst}
use Rattle.std.proofs.Common.{arith}
use Rattle.go_tree.specs.Tree.{NameAt, Param, Sig, TypeExpr, Expr, ident, int_lit, rune_lit, str_lit, composite}
use Rattle.go_tree.specs.Tree.{selector, index, slice, call, func_lit, type_operand, unary, binary, star, Exprs}
use Rattle.go_tree.specs.Tree.{no_exprs, expr_and, ExprOption, no_expr, some_expr, Elems, no_elems, elem, Value, plain}
use Rattle.go_tree.specs.Tree.{braced, ValueOption, no_value, some_value, Stmt, const_decl, var_decl, empty, eval, step}
use Rattle.go_tree.specs.Tree.{assign, define, return_, break_, continue_, inner, if_, for_, range_, switch, defer}
use Rattle.go_tree.specs.Tree.{label, Stmts, no_stmts, stmt_and, StmtOption, no_stmt, some_stmt, BlockOption, no_block}
use Rattle.go_tree.specs.Tree.{some_block, RangeLeft, nothing, assigns, defines, Arms, no_arms, arm, Cases, no_cases}
use Rattle.go_tree.specs.Tree.{case, ValueSpecs, no_specs, spec}
use Rattle.go_tree.specs.ScopeNames.Means.{Environment}
use Rattle.go_tree.specs.ScopeNames.FreeNames.{names_of, declared, declared_option, arms_declared, defined, sig_names}
use Rattle.go_tree.specs.ScopeNames.FreeNames.{free_type, free_type_option, free_params, free_expr, free_exprs}
use Rattle.go_tree.specs.ScopeNames.FreeNames.{free_expr_option, free_elems, free_value, free_value_option, free_stmt}
use Rattle.go_tree.specs.ScopeNames.FreeNames.{free_stmts, free_stmt_option, free_block_option, free_left, free_arms}
use Rattle.go_tree.specs.ScopeNames.FreeNames.{free_cases, free_specs}
use Rattle.go_tree.specs.GoTypes.Answers.{given, meets, otherwise}
use Rattle.go_tree.specs.GoTypes.Types.{GoType}
use Rattle.go_tree.specs.GoTypes.Defined.{under}
use Rattle.go_tree.specs.GoTypes.Entities.{Entity, Env, Binds, defined_in, extend, in_block}
use Rattle.go_tree.specs.GoTypes.TypeNames.{func_type, written_type}
use Rattle.go_tree.specs.GoTypes.Operands.{Operand}
use Rattle.go_tree.specs.GoTypes.Literals.{is_struct, literal_type}
use Rattle.go_tree.specs.GoTypes.Declarations.{Declared, binds_or, binds_of, new_constants, new_variables, Repeated}
use Rattle.go_tree.specs.GoTypes.Declarations.{nothing_to_repeat}
use Rattle.go_tree.specs.GoTypes.Bodies.{body_binds, no_values}
use Rattle.go_tree.specs.GoTypes.Statements.{right_values, tag_of}
use Rattle.go_tree.specs.GoTypes.Typing.{parts, all_parts, bound, places, declares, declares_first, range_declares}
use Rattle.go_tree.specs.GoTypes.Typing.{own_or_repeated}
use Rattle.go_tree.specs.GoTypes.Agreement.{with_names, On, Agrees}
use Rattle.go_tree.proofs.GoTypes.Agreeing.{new_constants_cover, new_variables_cover, on_first, on_second}
use Rattle.go_tree.proofs.GoTypes.Agreeing.{agrees_in_block, agrees_after, Covers, declares_cover, first_cover}
use Rattle.go_tree.proofs.GoTypes.Agreeing.{range_cover, of_covers, literal_cover}
use Rattle.go_tree.proofs.GoTypes.TypingAlike.{Repeats, parts-alike, all_parts-alike, bound-alike, element-alike}
use Rattle.go_tree.proofs.GoTypes.TypingAlike.{places-alike, targets-alike, declares-alike, declares_first-alike}
use Rattle.go_tree.proofs.GoTypes.TypingAlike.{range_declares-alike}
use Rattle.checked_findings.specs.Facts.{Asked, as_it_is, at_type, asked, Facts, finding}
use Rattle.checked_findings.specs.Asking.{unary_asks, option_by_default, left_asks, right_asks, of_values, index_asks}
use Rattle.checked_findings.specs.Asking.{call_asks, values_ask, update_asks, case_asks, target_types, each_of}
use Rattle.checked_findings.specs.Asking.{behind_field, value_asked, key_asked}
use Rattle.checked_findings.specs.Found.{first_asked, rest_asked, bound_asks, results_in, literal_results}
use Rattle.checked_findings.specs.Found.{constants_ask, variables_ask, ranged_asks, found, found_all, found_option}
use Rattle.checked_findings.specs.Found.{found_elems, found_key, found_value, found_stmt, found_stmts, found_first}
use Rattle.checked_findings.specs.Found.{found_block, found_range, found_arms, found_cases, found_constants}
use Rattle.checked_findings.specs.Found.{found_variables}
use Rattle.checked_findings.proofs.NamesAlike.{kept, or_covers, append_in_turn, with_iota, weaker, nothing_repeats}
use Rattle.checked_findings.proofs.NamesAlike.{spec_repeats, type_meant-alike, written_type-alike, func_type-alike}
use Rattle.checked_findings.proofs.NamesAlike.{defined_types-alike, over_asks-alike}

module _ {S P : Type 0} (at : S → P) where
  mutual
    pub found-alike : (a : Env) (x : Asked) (u : Expr S) (m : Environment Entity) (around : List (List ℕ)) →
        Agrees around a m → On (free_expr around u) a m → found at a x u ≡ found at (with_names a m) x u
    found-alike a x (ident s n) m around g h =
        λ w. finding (at s) x (parts-alike a (ident s n) m around g h w)
    found-alike a x (int_lit s n) m around g h =
        λ w. finding (at s) x (parts-alike a (int_lit s n) m around g h w)
    found-alike a x (rune_lit s n) m around g h =
        λ w. finding (at s) x (parts-alike a (rune_lit s n) m around g h w)
    found-alike a x (str_lit s n) m around g h =
        λ w. finding (at s) x (parts-alike a (str_lit s n) m around g h w)
    found-alike a x (type_operand s t) m around g h =
        λ w. finding (at s) x (parts-alike a (type_operand s t) m around g h w)
    found-alike a x (composite s t es) m around g h =
        λ w. (found_elems-alike a (given (type_meant-alike a t m around g (on_first (free_type around t) (free_elems
        around es) a m h) w) (λ u. Some (under (defined_in a) u))) es m around g (on_second (free_type around t)
        (free_elems around es) a m h) w) ++ finding (at s) x (parts-alike a (composite s t es) m around g h w)
    found-alike a x (selector s b n) m around g h =
        λ w. (found-alike a as_it_is b m around g h w) ++ finding (at s) x (parts-alike a (selector s b n) m around g h
        w)
    found-alike a x (index s b i) m around g h =
        λ w. (found-alike a as_it_is b m around g (on_first (free_expr around b) (free_expr around i) a m h) w) ++
        (found-alike a (index_asks (defined_in a) (parts-alike a b m around g (on_first (free_expr around b)
        (free_expr around i) a m h) w)) i m around g (on_second (free_expr around b) (free_expr around i) a m h) w)
        ++ finding (at s) x (parts-alike a (index s b i) m around g h w)
    found-alike a x (slice s b i j) m around g h =
        λ w. (found-alike a as_it_is b m around g (on_first (free_expr around b) (free_expr_option around i) a m
        (on_first (free_expr around b ++ free_expr_option around i) (free_expr_option around j) a m h)) w) ++
        (found_option-alike a bound_asks i m around g (on_second (free_expr around b) (free_expr_option around i) a
        m (on_first (free_expr around b ++ free_expr_option around i) (free_expr_option around j) a m h)) w) ++
        (found_option-alike a bound_asks j m around g (on_second (free_expr around b ++ free_expr_option around i)
        (free_expr_option around j) a m h) w) ++ finding (at s) x (parts-alike a (slice s b i j) m around g h w)
    found-alike a x (call s f xs r) m around g h =
        λ w. (found-alike a as_it_is f m around g (on_first (free_expr around f) (free_exprs around xs) a m h) w) ++
        (found_all-alike a (call_asks (defined_in a) (parts-alike a f m around g (on_first (free_expr around f)
        (free_exprs around xs) a m h) w) (all_parts-alike a xs m around g (on_second (free_expr around f)
        (free_exprs around xs) a m h) w)) xs m around g (on_second (free_expr around f) (free_exprs around xs) a m
        h) w) ++ finding (at s) x (parts-alike a (call s f xs r) m around g h w)
    found-alike a x (func_lit s y z b) m around g h =
        let r : Option Binds = given (func_type a y) (body_binds [] y) in let bs : Binds = binds_or (sig_names y) r in
        (λ w. (found_stmts-alike (literal_results a y) (extend bs (in_block a)) b (bs ++ m) (sig_names y ++ around)
        (agrees_after (sig_names y) around bs (in_block a) m (or_covers (sig_names y) r (in_block a) (literal_cover
        a (in_block a) y)) (agrees_in_block g)) (kept (free_stmts (sig_names y ++ around) b) bs a m (on_second
        (free_params around y.params ++ free_params around y.results) (free_stmts (sig_names y ++ around) b) a m h))
        w) ++ finding (at s) x (parts-alike a (func_lit s y z b) m around g h w))
        ∙ ap (λ r. found_stmts at (results_in r) (extend (binds_or (sig_names y) (given r (body_binds [] y))) (in_block
        (with_names a m))) b ++ finding (at s) x (parts (with_names a m) (func_lit s y z b))) (func_type-alike a y m
        around g (on_first (free_params around y.params) (free_params around y.results) a m (on_first (free_params
        around y.params ++ free_params around y.results) (free_stmts (sig_names y ++ around) b) a m h)) (on_second
        (free_params around y.params) (free_params around y.results) a m (on_first (free_params around y.params ++
        free_params around y.results) (free_stmts (sig_names y ++ around) b) a m h)))
    found-alike a x (unary s op e) m around g h =
        λ w. (found-alike a (unary_asks x (parts-alike a e m around g h w)) e m around g h w) ++ finding (at s) x
        (parts-alike a (unary s op e) m around g h w)
    found-alike a x (binary s op p q) m around g h =
        λ w. (found-alike a (of_values (left_asks (defined_in a) op x) (parts-alike a p m around g (on_first (free_expr
        around p) (free_expr around q) a m h) w) (parts-alike a q m around g (on_second (free_expr around p)
        (free_expr around q) a m h) w)) p m around g (on_first (free_expr around p) (free_expr around q) a m h) w)
        ++ (found-alike a (of_values (right_asks (defined_in a) op x) (parts-alike a p m around g (on_first
        (free_expr around p) (free_expr around q) a m h) w) (parts-alike a q m around g (on_second (free_expr around
        p) (free_expr around q) a m h) w)) q m around g (on_second (free_expr around p) (free_expr around q) a m h)
        w) ++ finding (at s) x (parts-alike a (binary s op p q) m around g h w)
    found-alike a x (star s e) m around g h =
        λ w. (found-alike a as_it_is e m around g h w) ++ finding (at s) x (parts-alike a (star s e) m around g h w)

    pub found_all-alike : (a : Env) (x : List Asked) (u : Exprs S) (m : Environment Entity) (around : List (List ℕ)) →
        Agrees around a m → On (free_exprs around u) a m → found_all at a x u ≡ found_all at (with_names a m) x u
    found_all-alike a x no_exprs m around g h =
        λ w. []
    found_all-alike a x (expr_and e es) m around g h =
        λ w. (found-alike a (first_asked x) e m around g (on_first (free_expr around e) (free_exprs around es) a m h) w)
        ++ (found_all-alike a (rest_asked x) es m around g (on_second (free_expr around e) (free_exprs around es) a
        m h) w)

    pub found_option-alike : (a : Env) (x : Asked) (u : ExprOption S) (m : Environment Entity) (around : List (List ℕ))
        →
        Agrees around a m → On (free_expr_option around u) a m → found_option at a x u ≡ found_option at (with_names a
        m) x u
    found_option-alike a x no_expr m around g h =
        λ w. []
    found_option-alike a x (some_expr e) m around g h =
        λ w. (found-alike a x e m around g h w)

    pub found_elems-alike : (a : Env) (t : Option GoType) (u : Elems S) (m : Environment Entity) (around : List (List
        ℕ)) →
        Agrees around a m → On (free_elems around u) a m → found_elems at a t u ≡ found_elems at (with_names a m) t u
    found_elems-alike a t no_elems m around g h =
        λ w. []
    found_elems-alike a t (elem _ k v es) m around g h =
        λ w. (found_key-alike a t k m around g (on_first (free_value_option around k) (free_value around v) a m
        (on_first (free_value_option around k ++ free_value around v) (free_elems around es) a m h)) w) ++
        (found_value-alike a (given t (value_asked (defined_in a) a.home k)) v m around g (on_second
        (free_value_option around k) (free_value around v) a m (on_first (free_value_option around k ++ free_value
        around v) (free_elems around es) a m h)) w) ++ (found_elems-alike a (given t (λ u. Some (behind_field k u)))
        es m around g (on_second (free_value_option around k ++ free_value around v) (free_elems around es) a m h)
        w)

    pub found_key-alike : (a : Env) (t : Option GoType) (u : ValueOption S) (m : Environment Entity) (around : List
        (List ℕ)) →
        Agrees around a m → On (free_value_option around u) a m → found_key at a t u ≡ found_key at (with_names a m) t u
    found_key-alike a t no_value m around g h =
        λ w. []
    found_key-alike a t (some_value k) m around g h =
        λ w. if meets t is_struct then [] else (found_value-alike a (given t (key_asked (defined_in a))) k m around g h
        w)

    pub found_value-alike : (a : Env) (t : Option GoType) (u : Value S) (m : Environment Entity) (around : List (List
        ℕ)) →
        Agrees around a m → On (free_value around u) a m → found_value at a t u ≡ found_value at (with_names a m) t u
    found_value-alike a t (plain e) m around g h =
        λ w. (found-alike a (asked t) e m around g h w)
    found_value-alike a t (braced s es) m around g h =
        λ w. (found_elems-alike a (given t (λ t. Some (under (defined_in a) (literal_type (defined_in a) t)))) es m
        around g h w) ++ finding (at s) as_it_is (element-alike a t (braced s es) m around g h w)

    pub found_stmt-alike : (rs : List GoType) (a : Env) (u : Stmt S) (m : Environment Entity) (around : List (List ℕ)) →
        Agrees around a m → On (free_stmt around u) a m → found_stmt at rs a u ≡ found_stmt at rs (with_names a m) u
    found_stmt-alike rs a (const_decl _ _ ss) m around g h =
        found_constants-alike a nothing_to_repeat 0 ss m around g (nothing_repeats a m around g) h
    found_stmt-alike rs a (var_decl _ _ ss) m around g h =
        found_variables-alike a ss m around g h
    found_stmt-alike rs a (empty _) m around g h =
        λ w. []
    found_stmt-alike rs a (eval _ e) m around g h =
        λ w. (found-alike a as_it_is e m around g h w)
    found_stmt-alike rs a (step _ e up) m around g h =
        λ w. (found-alike a as_it_is e m around g h w)
    found_stmt-alike rs a (defer _ e) m around g h =
        λ w. (found-alike a as_it_is e m around g h w)
    found_stmt-alike rs a (assign _ ls None vs) m around g h =
        λ w. (found_all-alike a [] ls m around g (on_first (free_exprs around ls) (free_exprs around vs) a m h) w) ++
        (found_all-alike a (values_ask (defined_in a) (places-alike a vs m around g (on_second (free_exprs around
        ls) (free_exprs around vs) a m h) w) (target_types (targets-alike a ls m around g (on_first (free_exprs
        around ls) (free_exprs around vs) a m h) w)) (otherwise (all_parts-alike a vs m around g (on_second
        (free_exprs around ls) (free_exprs around vs) a m h) w) [])) vs m around g (on_second (free_exprs around ls)
        (free_exprs around vs) a m h) w)
    found_stmt-alike rs a (assign _ ls (Some op) vs) m around g h =
        λ w. (found_all-alike a [] ls m around g (on_first (free_exprs around ls) (free_exprs around vs) a m h) w) ++
        (found_all-alike a (update_asks (defined_in a) op (all_parts-alike a ls m around g (on_first (free_exprs
        around ls) (free_exprs around vs) a m h) w) (all_parts-alike a vs m around g (on_second (free_exprs around
        ls) (free_exprs around vs) a m h) w)) vs m around g (on_second (free_exprs around ls) (free_exprs around vs)
        a m h) w)
    found_stmt-alike rs a (define _ ns vs) m around g h =
        λ w. (found_all-alike a (values_ask (defined_in a) (places-alike a vs m around g h w) (defined_types-alike a
        (names_of ns) m around g w) (otherwise (all_parts-alike a vs m around g h w) [])) vs m around g h w)
    found_stmt-alike rs a (return_ _ es) m around g h =
        λ w. (found_all-alike a (map at_type rs) es m around g h w)
    found_stmt-alike rs a (break_ _ n) m around g h =
        λ w. []
    found_stmt-alike rs a (continue_ _ n) m around g h =
        λ w. []
    found_stmt-alike rs a (inner _ b) m around g h =
        λ w. (found_stmts-alike rs (in_block a) b m around (agrees_in_block g) h w)
    found_stmt-alike rs a (if_ _ bs last) m around g h =
        found_arms-alike rs (in_block a) (λ k. found_block at rs k last) bs m around (free_block_option (arms_declared
        bs ++ around) last) (agrees_in_block g) (on_first (free_arms around bs) (free_block_option (arms_declared bs
        ++ around) last) a m h) (on_second (free_arms around bs) (free_block_option (arms_declared bs ++ around)
        last) a m h) (λ k l q r. found_block-alike rs k last l (arms_declared bs ++ around) q r)
    found_stmt-alike rs a (for_ _ i t p _ b) m around g h =
        let bs : Binds = binds_of (declared_option i) (declares_first (in_block a) i) in let k : Env = extend bs
        (in_block a) in let l : Environment Entity = bs ++ m in
        let q : Agrees (declared_option i ++ around) k l = agrees_after (declared_option i) around bs (in_block a) m
        (of_covers (declared_option i) (declares_first (in_block a) i) (in_block a) (first_cover i (in_block a)))
        (agrees_in_block g) in
        (λ w. (found_first-alike rs (in_block a) i m around (agrees_in_block g) (on_first (free_stmt_option around i)
        (free_expr_option (declared_option i ++ around) t) a m (on_first (free_stmt_option around i ++
        free_expr_option (declared_option i ++ around) t) (free_stmt_option (declared_option i ++ around) p) a m
        (on_first (free_stmt_option around i ++ free_expr_option (declared_option i ++ around) t ++ free_stmt_option
        (declared_option i ++ around) p) (free_stmts (declared_option i ++ around) b) a m h))) w) ++
        (found_option-alike k as_it_is t l (declared_option i ++ around) q (kept (free_expr_option (declared_option
        i ++ around) t) bs a m (on_second (free_stmt_option around i) (free_expr_option (declared_option i ++
        around) t) a m (on_first (free_stmt_option around i ++ free_expr_option (declared_option i ++ around) t)
        (free_stmt_option (declared_option i ++ around) p) a m (on_first (free_stmt_option around i ++
        free_expr_option (declared_option i ++ around) t ++ free_stmt_option (declared_option i ++ around) p)
        (free_stmts (declared_option i ++ around) b) a m h)))) w) ++ (found_first-alike rs k p l (declared_option i
        ++ around) q (kept (free_stmt_option (declared_option i ++ around) p) bs a m (on_second (free_stmt_option
        around i ++ free_expr_option (declared_option i ++ around) t) (free_stmt_option (declared_option i ++
        around) p) a m (on_first (free_stmt_option around i ++ free_expr_option (declared_option i ++ around) t ++
        free_stmt_option (declared_option i ++ around) p) (free_stmts (declared_option i ++ around) b) a m h))) w)
        ++ (found_stmts-alike rs (in_block k) b l (declared_option i ++ around) (agrees_in_block q) (kept
        (free_stmts (declared_option i ++ around) b) bs a m (on_second (free_stmt_option around i ++
        free_expr_option (declared_option i ++ around) t ++ free_stmt_option (declared_option i ++ around) p)
        (free_stmts (declared_option i ++ around) b) a m h)) w))
        ∙ ap (λ d. let k : Env = extend (binds_of (declared_option i) d) (in_block (with_names a m)) in found_first at
        rs (in_block (with_names a m)) i ++ found_option at k as_it_is t ++ found_first at rs k p ++ found_stmts at
        rs (in_block k) b) (declares_first-alike (in_block a) i m around (agrees_in_block g) (on_first
        (free_stmt_option around i) (free_expr_option (declared_option i ++ around) t) a m (on_first
        (free_stmt_option around i ++ free_expr_option (declared_option i ++ around) t) (free_stmt_option
        (declared_option i ++ around) p) a m (on_first (free_stmt_option around i ++ free_expr_option
        (declared_option i ++ around) t ++ free_stmt_option (declared_option i ++ around) p) (free_stmts
        (declared_option i ++ around) b) a m h))))
    found_stmt-alike rs a (range_ _ y e _ b) m around g h =
        let o : Option Operand = parts a e in let bs : Binds = binds_of (defined y) (range_declares a o y) in let k :
        Env = extend bs (in_block a) in let l : Environment Entity = bs ++ m in
        let q : Agrees (defined y ++ around) k l = agrees_after (defined y) around bs (in_block a) m (of_covers (defined
        y) (range_declares a o y) (in_block a) (range_cover y a (in_block a) o)) (agrees_in_block g) in
        (λ w. (found_range-alike a y m around g (on_first (free_left around y) (free_expr around e) a m (on_first
        (free_left around y ++ free_expr around e) (free_stmts (defined y ++ around) b) a m h)) w) ++ (found-alike a
        (otherwise (given (parts-alike a e m around g (on_second (free_left around y) (free_expr around e) a m
        (on_first (free_left around y ++ free_expr around e) (free_stmts (defined y ++ around) b) a m h)) w) (λ o.
        Some (over_asks-alike a o y m around g (on_first (free_left around y) (free_expr around e) a m (on_first
        (free_left around y ++ free_expr around e) (free_stmts (defined y ++ around) b) a m h)) w))) as_it_is) e m
        around g (on_second (free_left around y) (free_expr around e) a m (on_first (free_left around y ++ free_expr
        around e) (free_stmts (defined y ++ around) b) a m h)) w) ++ (found_stmts-alike rs (in_block k) b l (defined
        y ++ around) (agrees_in_block q) (kept (free_stmts (defined y ++ around) b) bs a m (on_second (free_left
        around y ++ free_expr around e) (free_stmts (defined y ++ around) b) a m h)) w))
        ∙ ap (λ d. found_range at (with_names a m) y ++ found at (with_names a m) (ranged_asks (with_names a m) e y) e
        ++ found_stmts at rs (in_block (extend (binds_of (defined y) d) (in_block (with_names a m)))) b) (λ w.
        range_declares-alike a (parts-alike a e m around g (on_second (free_left around y) (free_expr around e) a m
        (on_first (free_left around y ++ free_expr around e) (free_stmts (defined y ++ around) b) a m h)) w) y m
        around g (on_first (free_left around y) (free_expr around e) a m (on_first (free_left around y ++ free_expr
        around e) (free_stmts (defined y ++ around) b) a m h)) w)
    found_stmt-alike rs a (switch _ i t cs) m around g h =
        let bs : Binds = binds_of (declared_option i) (declares_first (in_block a) i) in let k : Env = extend bs
        (in_block a) in let l : Environment Entity = bs ++ m in
        let q : Agrees (declared_option i ++ around) k l = agrees_after (declared_option i) around bs (in_block a) m
        (of_covers (declared_option i) (declares_first (in_block a) i) (in_block a) (first_cover i (in_block a)))
        (agrees_in_block g) in
        (λ w. (found_first-alike rs (in_block a) i m around (agrees_in_block g) (on_first (free_stmt_option around i)
        (free_expr_option (declared_option i ++ around) t) a m (on_first (free_stmt_option around i ++
        free_expr_option (declared_option i ++ around) t) (free_cases (declared_option i ++ around) cs) a m h)) w)
        ++ (found_option-alike k (option_by_default (defined_in k) (bound-alike k t l (declared_option i ++ around)
        q (kept (free_expr_option (declared_option i ++ around) t) bs a m (on_second (free_stmt_option around i)
        (free_expr_option (declared_option i ++ around) t) a m (on_first (free_stmt_option around i ++
        free_expr_option (declared_option i ++ around) t) (free_cases (declared_option i ++ around) cs) a m h))) w))
        t l (declared_option i ++ around) q (kept (free_expr_option (declared_option i ++ around) t) bs a m
        (on_second (free_stmt_option around i) (free_expr_option (declared_option i ++ around) t) a m (on_first
        (free_stmt_option around i ++ free_expr_option (declared_option i ++ around) t) (free_cases (declared_option
        i ++ around) cs) a m h))) w) ++ (found_cases-alike rs k (case_asks (defined_in k) (tag_of k (bound-alike k t
        l (declared_option i ++ around) q (kept (free_expr_option (declared_option i ++ around) t) bs a m (on_second
        (free_stmt_option around i) (free_expr_option (declared_option i ++ around) t) a m (on_first
        (free_stmt_option around i ++ free_expr_option (declared_option i ++ around) t) (free_cases (declared_option
        i ++ around) cs) a m h))) w))) cs l (declared_option i ++ around) q (kept (free_cases (declared_option i ++
        around) cs) bs a m (on_second (free_stmt_option around i ++ free_expr_option (declared_option i ++ around)
        t) (free_cases (declared_option i ++ around) cs) a m h)) w))
        ∙ ap (λ d. let k : Env = extend (binds_of (declared_option i) d) (in_block (with_names a m)) in found_first at
        rs (in_block (with_names a m)) i ++ found_option at k (option_by_default (defined_in k) (bound k t)) t ++
        found_cases at rs k (case_asks (defined_in k) (tag_of k (bound k t))) cs) (declares_first-alike (in_block a)
        i m around (agrees_in_block g) (on_first (free_stmt_option around i) (free_expr_option (declared_option i ++
        around) t) a m (on_first (free_stmt_option around i ++ free_expr_option (declared_option i ++ around) t)
        (free_cases (declared_option i ++ around) cs) a m h)))
    found_stmt-alike rs a (label _ n s) m around g h =
        λ w. (found_stmt-alike rs a s m around g h w)

    pub found_stmts-alike : (rs : List GoType) (a : Env) (u : Stmts S) (m : Environment Entity) (around : List (List ℕ))
        →
        Agrees around a m → On (free_stmts around u) a m → found_stmts at rs a u ≡ found_stmts at rs (with_names a m) u
    found_stmts-alike rs a no_stmts m around g h =
        λ w. []
    found_stmts-alike rs a (stmt_and s ss) m around g h =
        let bs : Binds = binds_of (declared s) (declares a s) in let k : Env = extend bs a in let l : Environment Entity
        = bs ++ m in
        let q : Agrees (declared s ++ around) k l = agrees_after (declared s) around bs a m (of_covers (declared s)
        (declares a s) a (declares_cover s a)) g in
        (λ w. (found_stmt-alike rs a s m around g (on_first (free_stmt around s) (free_stmts (declared s ++ around) ss)
        a m h) w) ++ (found_stmts-alike rs k ss l (declared s ++ around) q (kept (free_stmts (declared s ++ around)
        ss) bs a m (on_second (free_stmt around s) (free_stmts (declared s ++ around) ss) a m h)) w))
        ∙ ap (λ d. found_stmt at rs (with_names a m) s ++ found_stmts at rs (extend (binds_of (declared s) d)
        (with_names a m)) ss) (declares-alike a s m around g (on_first (free_stmt around s) (free_stmts (declared s
        ++ around) ss) a m h))

    pub found_first-alike : (rs : List GoType) (a : Env) (u : StmtOption S) (m : Environment Entity) (around : List
        (List ℕ)) →
        Agrees around a m → On (free_stmt_option around u) a m → found_first at rs a u ≡ found_first at rs (with_names a
        m) u
    found_first-alike rs a no_stmt m around g h =
        λ w. []
    found_first-alike rs a (some_stmt s) m around g h =
        λ w. (found_stmt-alike rs a s m around g h w)

    pub found_block-alike : (rs : List GoType) (a : Env) (u : BlockOption S) (m : Environment Entity) (around : List
        (List ℕ)) →
        Agrees around a m → On (free_block_option around u) a m → found_block at rs a u ≡ found_block at rs (with_names
        a m) u
    found_block-alike rs a no_block m around g h =
        λ w. []
    found_block-alike rs a (some_block _ b) m around g h =
        λ w. (found_stmts-alike rs (in_block a) b m around (agrees_in_block g) h w)

    pub found_range-alike : (a : Env) (u : RangeLeft S) (m : Environment Entity) (around : List (List ℕ)) →
        Agrees around a m → On (free_left around u) a m → found_range at a u ≡ found_range at (with_names a m) u
    found_range-alike a nothing m around g h =
        λ w. []
    found_range-alike a (assigns es) m around g h =
        λ w. (found_all-alike a [] es m around g h w)
    found_range-alike a (defines ns) m around g h =
        λ w. []

    pub found_arms-alike : (rs : List GoType) (a : Env) (u : Env → Facts P) (x : Arms S) (m : Environment Entity)
        (around free : List (List ℕ)) →
        Agrees around a m → On (free_arms around x) a m → On free a m →
        ((k : Env) (l : Environment Entity) → Agrees (arms_declared x ++ around) k l → On free k l → u k ≡ u (with_names
        k l)) →
        found_arms at rs a u x ≡ found_arms at rs (with_names a m) u x
    found_arms-alike rs a u no_arms m around free g h r f =
        f a m g r
    found_arms-alike rs a u (arm _ i e _ b rest) m around free g h r f =
        let bs : Binds = binds_of (declared_option i) (declares_first a i) in let k : Env = extend bs a in let l :
        Environment Entity = bs ++ m in
        let q : Agrees (declared_option i ++ around) k l = agrees_after (declared_option i) around bs a m (of_covers
        (declared_option i) (declares_first a i) a (first_cover i a)) g in
        (λ w. (found_first-alike rs a i m around g (on_first (free_stmt_option around i) (free_expr (declared_option i
        ++ around) e) a m (on_first (free_stmt_option around i ++ free_expr (declared_option i ++ around) e)
        (free_stmts (declared_option i ++ around) b) a m (on_first (free_stmt_option around i ++ free_expr
        (declared_option i ++ around) e ++ free_stmts (declared_option i ++ around) b) (free_arms (declared_option i
        ++ around) rest) a m h))) w) ++ (found-alike k as_it_is e l (declared_option i ++ around) q (kept (free_expr
        (declared_option i ++ around) e) bs a m (on_second (free_stmt_option around i) (free_expr (declared_option i
        ++ around) e) a m (on_first (free_stmt_option around i ++ free_expr (declared_option i ++ around) e)
        (free_stmts (declared_option i ++ around) b) a m (on_first (free_stmt_option around i ++ free_expr
        (declared_option i ++ around) e ++ free_stmts (declared_option i ++ around) b) (free_arms (declared_option i
        ++ around) rest) a m h)))) w) ++ (found_stmts-alike rs (in_block k) b l (declared_option i ++ around)
        (agrees_in_block q) (kept (free_stmts (declared_option i ++ around) b) bs a m (on_second (free_stmt_option
        around i ++ free_expr (declared_option i ++ around) e) (free_stmts (declared_option i ++ around) b) a m
        (on_first (free_stmt_option around i ++ free_expr (declared_option i ++ around) e ++ free_stmts
        (declared_option i ++ around) b) (free_arms (declared_option i ++ around) rest) a m h))) w) ++
        (found_arms-alike rs (in_block k) u rest l (declared_option i ++ around) free (agrees_in_block q) (kept
        (free_arms (declared_option i ++ around) rest) bs a m (on_second (free_stmt_option around i ++ free_expr
        (declared_option i ++ around) e ++ free_stmts (declared_option i ++ around) b) (free_arms (declared_option i
        ++ around) rest) a m h)) (kept free bs a m r) (λ k l q r. f k l (subst (λ z. Agrees z k l) (sym
        (append_in_turn (arms_declared rest) (declared_option i) around)) q) r) w))
        ∙ ap (λ d. let k : Env = extend (binds_of (declared_option i) d) (with_names a m) in found_first at rs
        (with_names a m) i ++ found at k as_it_is e ++ found_stmts at rs (in_block k) b ++ found_arms at rs
        (in_block k) u rest) (declares_first-alike a i m around g (on_first (free_stmt_option around i) (free_expr
        (declared_option i ++ around) e) a m (on_first (free_stmt_option around i ++ free_expr (declared_option i ++
        around) e) (free_stmts (declared_option i ++ around) b) a m (on_first (free_stmt_option around i ++
        free_expr (declared_option i ++ around) e ++ free_stmts (declared_option i ++ around) b) (free_arms
        (declared_option i ++ around) rest) a m h))))

    pub found_cases-alike : (rs : List GoType) (a : Env) (x : Asked) (u : Cases S) (m : Environment Entity) (around :
        List (List ℕ)) →
        Agrees around a m → On (free_cases around u) a m → found_cases at rs a x u ≡ found_cases at rs (with_names a m)
        x u
    found_cases-alike rs a x no_cases m around g h =
        λ w. []
    found_cases-alike rs a x (case _ es b cs) m around g h =
        λ w. (found_all-alike a (each_of x es) es m around g (on_first (free_exprs around es) (free_stmts around b) a m
        (on_first (free_exprs around es ++ free_stmts around b) (free_cases around cs) a m h)) w) ++
        (found_stmts-alike rs (in_block a) b m around (agrees_in_block g) (on_second (free_exprs around es)
        (free_stmts around b) a m (on_first (free_exprs around es ++ free_stmts around b) (free_cases around cs) a m
        h)) w) ++ (found_cases-alike rs a x cs m around g (on_second (free_exprs around es ++ free_stmts around b)
        (free_cases around cs) a m h) w)

    pub found_constants-alike : (a : Env) (r : Repeated) (i : ℕ) (x : ValueSpecs S) (m : Environment Entity) (around :
        List (List ℕ)) →
        Agrees around a m → Repeats a m r → On (free_specs around x) a m →
        found_constants at a r i x ≡ found_constants at (with_names a m) r i x
    found_constants-alike a r i no_specs m around g z h =
        λ w. []
    found_constants-alike a r i (spec _ ns t es ss) m around g z h =
        let again : Repeated = own_or_repeated r t es in let here : Env = record a { iota = Some i } in
        let y : Repeats a m again = spec_repeats a m around r t es ns ss g z h in
        let d : Option Declared = new_constants here (names_of ns) (again.0 a) (again.1 here) in
        let bs : Binds = binds_of (names_of ns) d in let k : Env = extend bs a in let l : Environment Entity = bs ++ m
        in
        let c : Covers (names_of ns) bs a = of_covers (names_of ns) d a (new_constants_cover here (names_of ns) (again.0
        a) (again.1 here)) in
        let q : Agrees (names_of ns ++ around) k l = agrees_after (names_of ns) around bs a m c g in
        let v : Repeats k l again = record {
          base = y.base;
          free = y.free;
          agrees = weaker (names_of ns) y.base k l
              (agrees_after (names_of ns) y.base bs a m c y.agrees);
          on = kept y.free bs a m y.on;
          again = y.again;
        } in
        (λ w. (found_all-alike here (each_of (asked (given (written_type-alike a t m around g (on_first
        (free_type_option around t) (free_exprs around es) a m (on_first (free_type_option around t ++ free_exprs
        around es) (free_specs (names_of ns ++ around) ss) a m h)) w) (λ t. t))) es) es m around (with_iota around a
        m i g) (on_second (free_type_option around t) (free_exprs around es) a m (on_first (free_type_option around
        t ++ free_exprs around es) (free_specs (names_of ns ++ around) ss) a m h)) w) ++ (found_constants-alike k
        again (i + 1) ss l (names_of ns ++ around) q v (kept (free_specs (names_of ns ++ around) ss) bs a m
        (on_second (free_type_option around t ++ free_exprs around es) (free_specs (names_of ns ++ around) ss) a m
        h)) w))
        ∙ ap (λ d. found_all at (record here { names = m }) (constants_ask (with_names a m) t es) es ++ found_constants
        at (extend (binds_of (names_of ns) d) (with_names a m)) again (i + 1) ss) (λ w. new_constants here (names_of
        ns) ((y.again a m y.agrees y.on).0 w) ((y.again here m (with_iota y.base a m i y.agrees) y.on).1 w))

    pub found_variables-alike : (a : Env) (u : ValueSpecs S) (m : Environment Entity) (around : List (List ℕ)) →
        Agrees around a m → On (free_specs around u) a m → found_variables at a u ≡ found_variables at (with_names a m)
        u
    found_variables-alike a no_specs m around g h =
        λ w. []
    found_variables-alike a (spec _ ns t es ss) m around g h =
        let d : Option Declared = new_variables a (names_of ns) (written_type a t) (no_values es) (right_values a
        (length ns) (places a es) (all_parts a es)) in
        let bs : Binds = binds_of (names_of ns) d in let k : Env = extend bs a in let l : Environment Entity = bs ++ m
        in
        let q : Agrees (names_of ns ++ around) k l = agrees_after (names_of ns) around bs a m (of_covers (names_of ns) d
        a (new_variables_cover a (names_of ns) (written_type a t) (no_values es) (right_values a (length ns) (places
        a es) (all_parts a es)))) g in
        (λ w. (found_all-alike a (values_ask (defined_in a) (places-alike a es m around g (on_second (free_type_option
        around t) (free_exprs around es) a m (on_first (free_type_option around t ++ free_exprs around es)
        (free_specs (names_of ns ++ around) ss) a m h)) w) (map (λ n. given (written_type-alike a t m around g
        (on_first (free_type_option around t) (free_exprs around es) a m (on_first (free_type_option around t ++
        free_exprs around es) (free_specs (names_of ns ++ around) ss) a m h)) w) (λ t. t)) (names_of ns)) (otherwise
        (all_parts-alike a es m around g (on_second (free_type_option around t) (free_exprs around es) a m (on_first
        (free_type_option around t ++ free_exprs around es) (free_specs (names_of ns ++ around) ss) a m h)) w) []))
        es m around g (on_second (free_type_option around t) (free_exprs around es) a m (on_first (free_type_option
        around t ++ free_exprs around es) (free_specs (names_of ns ++ around) ss) a m h)) w) ++
        (found_variables-alike k ss l (names_of ns ++ around) q (kept (free_specs (names_of ns ++ around) ss) bs a m
        (on_second (free_type_option around t ++ free_exprs around es) (free_specs (names_of ns ++ around) ss) a m
        h)) w))
        ∙ ap (λ d. found_all at (with_names a m) (variables_ask (with_names a m) ns t es) es ++ found_variables at
        (extend (binds_of (names_of ns) d) (with_names a m)) ss) (λ w. new_variables a (names_of ns)
        (written_type-alike a t m around g (on_first (free_type_option around t) (free_exprs around es) a m
        (on_first (free_type_option around t ++ free_exprs around es) (free_specs (names_of ns ++ around) ss) a m
        h)) w) (no_values es) (right_values a (length ns) (places-alike a es m around g (on_second (free_type_option
        around t) (free_exprs around es) a m (on_first (free_type_option around t ++ free_exprs around es)
        (free_specs (names_of ns ++ around) ss) a m h)) w) (all_parts-alike a es m around g (on_second
        (free_type_option around t) (free_exprs around es) a m (on_first (free_type_option around t ++ free_exprs
        around es) (free_specs (names_of ns ++ around) ss) a m h)) w)))
