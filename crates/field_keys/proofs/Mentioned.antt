-- What is mentioned is alike where the names that a part looks up mean the same.
use Rattle.std.specs.Prelude.{◌≡◌, refl, ℕ, List, [], ◌++◌, length, Option, Some}
use Rattle.go_tree.specs.Tree.{Expr, ident, int_lit, rune_lit, str_lit, composite, selector, index, slice, call, func_lit, type_operand, unary, binary, star, Exprs, no_exprs, expr_and, ExprOption, no_expr, some_expr, Elems, no_elems, elem, Value, plain, braced, ValueOption, no_value, some_value, Stmt, const_decl, var_decl, empty, eval, step, assign, define, return_, break_, continue_, inner, if_, for_, range_, switch, defer, label, Stmts, no_stmts, stmt_and, StmtOption, no_stmt, some_stmt, BlockOption, no_block, some_block, RangeLeft, nothing, assigns, defines, Arms, no_arms, arm, Cases, no_cases, case, ValueSpecs, no_specs, spec}
use Rattle.go_tree.specs.ScopeNames.FreeNames.{names_of, sig_names, declared, declared_option, defined}
use Rattle.go_tree.specs.GoTypes.Answers.{given, meets}
use Rattle.go_tree.specs.GoTypes.Types.{GoType}
use Rattle.go_tree.specs.GoTypes.Defined.{under}
use Rattle.go_tree.specs.GoTypes.Entities.{Entity, Env, defined_in, Binds, extend, in_block}
use Rattle.go_tree.specs.GoTypes.TypeNames.{type_meant, written_type, func_type}
use Rattle.go_tree.specs.GoTypes.Operands.{Operand, Typed}
use Rattle.go_tree.specs.GoTypes.Literals.{is_struct, key_type, inner_type, literal_type}
use Rattle.go_tree.specs.GoTypes.Statements.{bound_names, no_values, body_binds}
use Rattle.go_tree.specs.GoTypes.Typing.{binds_or, parts, all_parts, places, declares, declares_first, range_declares, binds_of, new_variables, right_values}
use Rattle.go_translation.specs.Values.{typed_of}
use mathlib.Core.Path.{ap, sym, ◌∙◌, subst}
use Rattle.go_tree.specs.ScopeNames.Means.{Environment}
use Rattle.go_tree.specs.ScopeNames.FreeNames.{free_type, free_type_option, free_params, arms_declared}
use Rattle.go_tree.specs.GoTypes.Agreement.{with_names, On}
use Rattle.go_tree.proofs.GoTypes.Agreeing.{on_first, on_second, declares_cover, first_cover, range_cover, of_covers, literal_cover, new_variables_cover}
use Rattle.field_keys.proofs.Typing.{none_or, key_on, parts-alike, all_parts-alike, places-alike, declares-alike, declares_first-alike, range_declares-alike}
use Rattle.go_translation.proofs.SmallAlike.{or_covers, kept, append_in_turn}
use Rattle.go_translation.specs.Mentions.{Way, Read, Stored, Deferred, Mention, variable_mention, callee_way, literal_mentions, operand_way, unary_way, beyond_names, beyond, within_names, group_mentions, own_mentions, stored_again, mentions, mentions_all, mentions_option, mentions_left, mentions_elems, mentions_key, mentions_value, mentions_stmt, mentions_stmts, mentions_first, mentions_block, mentions_range, mentions_arms, mentions_cases, mentions_specs}
use Rattle.field_keys.specs.Below.{AgreesBelow}
use Rattle.field_keys.specs.Looked.{type_above, under_above, under_inner, looked_expr, looked_exprs, looked_expr_option, looked_elems, looked_key, looked_value, looked_stmt, looked_stmts, looked_stmt_option, looked_block_option, looked_left, looked_arms, looked_cases, looked_specs}
use Rattle.field_keys.proofs.Below.{below_in_block, below_after, name_below, written_type-below, type_meant-below, func_type-below, Fits, fits_literal, fits_inside, fits_values, fits_keys}
use Rattle.field_keys.proofs.Only.{of_only, or_only, new_variables_only, declares_only, first_only, range_only, literal_only}

module _ {S : Type 0} {top : Env} where
  mutual
    pub mentions-alike : (t : Way) (a : Env) (v : Expr S) (m : Environment Entity) (around : List (List ℕ)) → AgreesBelow top around a m → On (looked_expr top around v) a m → mentions t a v ≡ mentions t (with_names a m) v
    mentions-alike v a (ident _ n) m around g h = λ ww. variable_mention v n (name_below n around a m g h ww)
    mentions-alike w a (int_lit _ s) m around g h = λ ww. []
    mentions-alike w a (rune_lit _ s) m around g h = λ ww. []
    mentions-alike w a (str_lit _ s) m around g h = λ ww. []
    mentions-alike w a (composite _ t es) m around g h =
        let us : List (List ℕ) = looked_elems top around (under_above top (type_above top around t)) es in
        mentions_elems-alike a (given (type_meant a t) (λ u. Some (under (defined_in a) u))) (under_above top (type_above top around t)) (fits_literal g t) es m around g (on_second (free_type around t) us a m h)
        ∙ ap (λ o. mentions_elems (with_names a m) (given o (λ u. Some (under (defined_in a) u))) es) (type_meant-below a t m around g (on_first (free_type around t) us a m h))
    mentions-alike w a (selector _ b n) m around g h = λ ww. (mentions-alike (operand_way (defined_in a) a.home n.name w (typed_of ((parts-alike a b m around g h ww)))) a b m around g h ww)
    mentions-alike w a (index _ b i) m around g h = λ ww. (mentions-alike Read a b m around g (on_first (looked_expr top around b) (looked_expr top around i) a m h) ww) ++ (mentions-alike Read a i m around g (on_second (looked_expr top around b) (looked_expr top around i) a m h) ww)
    mentions-alike w a (slice _ b i j) m around g h = λ ww. (mentions-alike Read a b m around g (on_first (looked_expr top around b) (looked_expr_option top around i) a m (on_first (looked_expr top around b ++ looked_expr_option top around i) (looked_expr_option top around j) a m h)) ww) ++ (mentions_option-alike a i m around g (on_second (looked_expr top around b) (looked_expr_option top around i) a m (on_first (looked_expr top around b ++ looked_expr_option top around i) (looked_expr_option top around j) a m h)) ww) ++ (mentions_option-alike a j m around g (on_second (looked_expr top around b ++ looked_expr_option top around i) (looked_expr_option top around j) a m h) ww)
    mentions-alike w a (call _ f xs _) m around g h = λ ww. (mentions-alike (callee_way w) a f m around g (on_first (looked_expr top around f) (looked_exprs top around xs) a m h) ww) ++ (mentions_all-alike a xs m around g (on_second (looked_expr top around f) (looked_exprs top around xs) a m h) ww)
    mentions-alike v a (func_lit _ s _ b) m around g h =
        let r : Option Binds = given (func_type a s) (body_binds [] s) in let bs : Binds = binds_or (sig_names s) r in
        (λ ww. literal_mentions v (beyond_names (sig_names s) (mentions_stmts-alike (extend bs (in_block a)) b (bs ++ m) (sig_names s ++ around) (below_after (sig_names s) around bs (in_block a) m (or_covers (sig_names s) r (in_block a) (literal_cover a (in_block a) s)) (or_only (sig_names s) r (in_block a) (literal_only a (in_block a) s)) (below_in_block g)) (kept (looked_stmts top (sig_names s ++ around) b) bs a m (on_second (free_params around s.params ++ free_params around s.results) (looked_stmts top (sig_names s ++ around) b) a m h)) ww)))
        ∙ ap (λ r. literal_mentions v (beyond_names (sig_names s) (mentions_stmts (extend (binds_or (sig_names s) (given r (body_binds [] s))) (in_block (with_names a m))) b))) (func_type-below a s m around g (on_first (free_params around s.params) (free_params around s.results) a m (on_first (free_params around s.params ++ free_params around s.results) (looked_stmts top (sig_names s ++ around) b) a m h)) (on_second (free_params around s.params) (free_params around s.results) a m (on_first (free_params around s.params ++ free_params around s.results) (looked_stmts top (sig_names s ++ around) b) a m h)))
    mentions-alike w a (type_operand _ t) m around g h = λ ww. []
    mentions-alike w a (unary _ op e) m around g h = λ ww. (mentions-alike (unary_way op) a e m around g h ww)
    mentions-alike w a (binary _ op x y) m around g h = λ ww. (mentions-alike Read a x m around g (on_first (looked_expr top around x) (looked_expr top around y) a m h) ww) ++ (mentions-alike Read a y m around g (on_second (looked_expr top around x) (looked_expr top around y) a m h) ww)
    mentions-alike w a (star _ e) m around g h = λ ww. (mentions-alike Read a e m around g h ww)

    pub mentions_all-alike : (a : Env) (u : Exprs S) (m : Environment Entity) (around : List (List ℕ)) → AgreesBelow top around a m → On (looked_exprs top around u) a m → mentions_all a u ≡ mentions_all (with_names a m) u
    mentions_all-alike a no_exprs m around g h = λ ww. []
    mentions_all-alike a (expr_and e es) m around g h = λ ww. (mentions-alike Read a e m around g (on_first (looked_expr top around e) (looked_exprs top around es) a m h) ww) ++ (mentions_all-alike a es m around g (on_second (looked_expr top around e) (looked_exprs top around es) a m h) ww)

    pub mentions_option-alike : (a : Env) (u : ExprOption S) (m : Environment Entity) (around : List (List ℕ)) → AgreesBelow top around a m → On (looked_expr_option top around u) a m → mentions_option a u ≡ mentions_option (with_names a m) u
    mentions_option-alike a no_expr m around g h = λ ww. []
    mentions_option-alike a (some_expr e) m around g h = λ ww. (mentions-alike Read a e m around g h ww)

    pub mentions_left-alike : (a : Env) (u : Exprs S) (m : Environment Entity) (around : List (List ℕ)) → AgreesBelow top around a m → On (looked_exprs top around u) a m → mentions_left a u ≡ mentions_left (with_names a m) u
    mentions_left-alike a no_exprs m around g h = λ ww. []
    mentions_left-alike a (expr_and e es) m around g h = λ ww. (mentions-alike Stored a e m around g (on_first (looked_expr top around e) (looked_exprs top around es) a m h) ww) ++ (mentions_left-alike a es m around g (on_second (looked_expr top around e) (looked_exprs top around es) a m h) ww)

    pub mentions_elems-alike : (a : Env) (u t : Option GoType) → Fits t u → (v : Elems S) (m : Environment Entity) (around : List (List ℕ)) → AgreesBelow top around a m → On (looked_elems top around t v) a m → mentions_elems a u v ≡ mentions_elems (with_names a m) u v
    mentions_elems-alike a u t f no_elems m around g h = λ ww. []
    mentions_elems-alike a u t f (elem _ k v es) m around g h =
        let ks : List (List ℕ) = looked_key top around t k in let vs : List (List ℕ) = looked_value top around (given t (inner_type (defined_in top))) v in let rest : List (List ℕ) = looked_elems top around t es in
        let j : On (ks ++ vs) a m = on_first (ks ++ vs) rest a m h in
        λ w. mentions_key-alike a u t f k m around g (on_first ks vs a m j) w ++ mentions_value-alike a (given u (inner_type (defined_in a))) (given t (inner_type (defined_in top))) (fits_values g f) v m around g (on_second ks vs a m j) w ++ mentions_elems-alike a u t f es m around g (on_second (ks ++ vs) rest a m h) w

    pub mentions_key-alike : (a : Env) (u t : Option GoType) → Fits t u → (v : ValueOption S) (m : Environment Entity) (around : List (List ℕ)) → AgreesBelow top around a m → On (looked_key top around t v) a m → mentions_key a u v ≡ mentions_key (with_names a m) u v
    mentions_key-alike a u t f no_value m around g h = λ ww. []
    mentions_key-alike a u t f (some_value k) m around g h =
        none_or (meets u is_struct) (λ e. mentions_value-alike a (given u (key_type (defined_in a))) (given t (key_type (defined_in top))) (fits_keys g f) k m around g (key_on top a m (given t (key_type (defined_in top))) k around f e h))

    pub mentions_value-alike : (a : Env) (u t : Option GoType) → Fits t u → (v : Value S) (m : Environment Entity) (around : List (List ℕ)) → AgreesBelow top around a m → On (looked_value top around t v) a m → mentions_value a u v ≡ mentions_value (with_names a m) u v
    mentions_value-alike a u t f (plain e) m around g h = mentions-alike Read a e m around g h
    mentions_value-alike a u t f (braced _ es) m around g h = mentions_elems-alike a (given u (λ y. Some (under (defined_in a) (literal_type (defined_in a) y)))) (under_inner top t) (fits_inside g f) es m around g h

    pub mentions_stmt-alike : (a : Env) (u : Stmt S) (m : Environment Entity) (around : List (List ℕ)) → AgreesBelow top around a m → On (looked_stmt top around u) a m → mentions_stmt a u ≡ mentions_stmt (with_names a m) u
    mentions_stmt-alike a (const_decl _ _ ss) m around g h = refl
    mentions_stmt-alike a (var_decl _ _ ss) m around g h = λ ww. (mentions_specs-alike a ss m around g h ww)
    mentions_stmt-alike a (empty _) m around g h = λ ww. []
    mentions_stmt-alike a (eval _ e) m around g h = λ ww. (mentions-alike Read a e m around g h ww)
    mentions_stmt-alike a (step _ e up) m around g h = λ ww. (mentions-alike Stored a e m around g h ww)
    mentions_stmt-alike a (assign _ ls op rs) m around g h = λ ww. (mentions_left-alike a ls m around g (on_first (looked_exprs top around ls) (looked_exprs top around rs) a m h) ww) ++ (mentions_all-alike a rs m around g (on_second (looked_exprs top around ls) (looked_exprs top around rs) a m h) ww)
    mentions_stmt-alike a (define _ ns rs) m around g h = λ ww. stored_again a (names_of ns) ++ (mentions_all-alike a rs m around g h ww)
    mentions_stmt-alike a (return_ _ es) m around g h = λ ww. (mentions_all-alike a es m around g h ww)
    mentions_stmt-alike a (break_ _ n) m around g h = λ ww. []
    mentions_stmt-alike a (continue_ _ n) m around g h = λ ww. []
    mentions_stmt-alike a (inner _ b) m around g h = λ ww. (mentions_stmts-alike (in_block a) b m around (below_in_block g) h ww)
    mentions_stmt-alike a (if_ _ bs last) m around g h = mentions_arms-alike (in_block a) (λ k. mentions_block k last) bs m around (looked_block_option top (arms_declared bs ++ around) last) (below_in_block g) (on_first (looked_arms top around bs) (looked_block_option top (arms_declared bs ++ around) last) a m h) (on_second (looked_arms top around bs) (looked_block_option top (arms_declared bs ++ around) last) a m h) (λ k l q r. mentions_block-alike k last l (arms_declared bs ++ around) q r)
    mentions_stmt-alike a (for_ _ i t p _ b) m around g h =
        let bs : Binds = binds_of (declared_option i) (declares_first (in_block a) i) in let k : Env = extend bs (in_block a) in let l : Environment Entity = bs ++ m in
        let q : AgreesBelow top (declared_option i ++ around) k l = below_after (declared_option i) around bs (in_block a) m (of_covers (declared_option i) (declares_first (in_block a) i) (in_block a) (first_cover i (in_block a))) (of_only (declared_option i) (declares_first (in_block a) i) (in_block a) (first_only i (in_block a))) (below_in_block g) in
        (λ ww. mentions_first-alike (in_block a) i m around (below_in_block g) (on_first (looked_stmt_option top around i) (looked_expr_option top (declared_option i ++ around) t) a m (on_first (looked_stmt_option top around i ++ looked_expr_option top (declared_option i ++ around) t) (looked_stmt_option top (declared_option i ++ around) p) a m (on_first (looked_stmt_option top around i ++ looked_expr_option top (declared_option i ++ around) t ++ looked_stmt_option top (declared_option i ++ around) p) (looked_stmts top (declared_option i ++ around) b) a m h))) ww ++ beyond bs (mentions_option-alike k t l (declared_option i ++ around) q (kept (looked_expr_option top (declared_option i ++ around) t) bs a m (on_second (looked_stmt_option top around i) (looked_expr_option top (declared_option i ++ around) t) a m (on_first (looked_stmt_option top around i ++ looked_expr_option top (declared_option i ++ around) t) (looked_stmt_option top (declared_option i ++ around) p) a m (on_first (looked_stmt_option top around i ++ looked_expr_option top (declared_option i ++ around) t ++ looked_stmt_option top (declared_option i ++ around) p) (looked_stmts top (declared_option i ++ around) b) a m h)))) ww ++ mentions_first-alike k p l (declared_option i ++ around) q (kept (looked_stmt_option top (declared_option i ++ around) p) bs a m (on_second (looked_stmt_option top around i ++ looked_expr_option top (declared_option i ++ around) t) (looked_stmt_option top (declared_option i ++ around) p) a m (on_first (looked_stmt_option top around i ++ looked_expr_option top (declared_option i ++ around) t ++ looked_stmt_option top (declared_option i ++ around) p) (looked_stmts top (declared_option i ++ around) b) a m h))) ww ++ mentions_stmts-alike (in_block k) b l (declared_option i ++ around) (below_in_block q) (kept (looked_stmts top (declared_option i ++ around) b) bs a m (on_second (looked_stmt_option top around i ++ looked_expr_option top (declared_option i ++ around) t ++ looked_stmt_option top (declared_option i ++ around) p) (looked_stmts top (declared_option i ++ around) b) a m h)) ww))
        ∙ ap (λ d. let bs : Binds = binds_of (declared_option i) d in let k : Env = extend bs (in_block (with_names a m)) in mentions_first (in_block (with_names a m)) i ++ beyond bs (mentions_option k t ++ mentions_first k p ++ mentions_stmts (in_block k) b)) (declares_first-alike (in_block a) i m around (below_in_block g) (on_first (looked_stmt_option top around i) (looked_expr_option top (declared_option i ++ around) t) a m (on_first (looked_stmt_option top around i ++ looked_expr_option top (declared_option i ++ around) t) (looked_stmt_option top (declared_option i ++ around) p) a m (on_first (looked_stmt_option top around i ++ looked_expr_option top (declared_option i ++ around) t ++ looked_stmt_option top (declared_option i ++ around) p) (looked_stmts top (declared_option i ++ around) b) a m h))))
    mentions_stmt-alike a (range_ _ x e _ b) m around g h =
        let o : Option Operand = parts a e in let bs : Binds = binds_of (defined x) (range_declares a o x) in let k : Env = extend bs (in_block a) in let l : Environment Entity = bs ++ m in
        let q : AgreesBelow top (defined x ++ around) k l = below_after (defined x) around bs (in_block a) m (of_covers (defined x) (range_declares a o x) (in_block a) (range_cover x a (in_block a) o)) (of_only (defined x) (range_declares a o x) (in_block a) (range_only x a (in_block a) o)) (below_in_block g) in
        (λ ww. mentions_range-alike a x m around g (on_first (looked_left top around x) (looked_expr top around e) a m (on_first (looked_left top around x ++ looked_expr top around e) (looked_stmts top (defined x ++ around) b) a m h)) ww ++ mentions-alike Read a e m around g (on_second (looked_left top around x) (looked_expr top around e) a m (on_first (looked_left top around x ++ looked_expr top around e) (looked_stmts top (defined x ++ around) b) a m h)) ww ++ beyond bs (mentions_stmts-alike (in_block k) b l (defined x ++ around) (below_in_block q) (kept (looked_stmts top (defined x ++ around) b) bs a m (on_second (looked_left top around x ++ looked_expr top around e) (looked_stmts top (defined x ++ around) b) a m h)) ww))
        ∙ ap (λ d. let bs : Binds = binds_of (defined x) d in mentions_range (with_names a m) x ++ mentions Read (with_names a m) e ++ beyond bs (mentions_stmts (in_block (extend bs (in_block (with_names a m)))) b)) (λ ww. range_declares-alike a (parts-alike a e m around g (on_second (looked_left top around x) (looked_expr top around e) a m (on_first (looked_left top around x ++ looked_expr top around e) (looked_stmts top (defined x ++ around) b) a m h)) ww) x m around g (on_first (looked_left top around x) (looked_expr top around e) a m (on_first (looked_left top around x ++ looked_expr top around e) (looked_stmts top (defined x ++ around) b) a m h)) ww)
    mentions_stmt-alike a (switch _ i t cs) m around g h =
        let bs : Binds = binds_of (declared_option i) (declares_first (in_block a) i) in let k : Env = extend bs (in_block a) in let l : Environment Entity = bs ++ m in
        let q : AgreesBelow top (declared_option i ++ around) k l = below_after (declared_option i) around bs (in_block a) m (of_covers (declared_option i) (declares_first (in_block a) i) (in_block a) (first_cover i (in_block a))) (of_only (declared_option i) (declares_first (in_block a) i) (in_block a) (first_only i (in_block a))) (below_in_block g) in
        (λ ww. mentions_first-alike (in_block a) i m around (below_in_block g) (on_first (looked_stmt_option top around i) (looked_expr_option top (declared_option i ++ around) t) a m (on_first (looked_stmt_option top around i ++ looked_expr_option top (declared_option i ++ around) t) (looked_cases top (declared_option i ++ around) cs) a m h)) ww ++ beyond bs (mentions_option-alike k t l (declared_option i ++ around) q (kept (looked_expr_option top (declared_option i ++ around) t) bs a m (on_second (looked_stmt_option top around i) (looked_expr_option top (declared_option i ++ around) t) a m (on_first (looked_stmt_option top around i ++ looked_expr_option top (declared_option i ++ around) t) (looked_cases top (declared_option i ++ around) cs) a m h))) ww ++ mentions_cases-alike k cs l (declared_option i ++ around) q (kept (looked_cases top (declared_option i ++ around) cs) bs a m (on_second (looked_stmt_option top around i ++ looked_expr_option top (declared_option i ++ around) t) (looked_cases top (declared_option i ++ around) cs) a m h)) ww))
        ∙ ap (λ d. let bs : Binds = binds_of (declared_option i) d in let k : Env = extend bs (in_block (with_names a m)) in mentions_first (in_block (with_names a m)) i ++ beyond bs (mentions_option k t ++ mentions_cases k cs)) (declares_first-alike (in_block a) i m around (below_in_block g) (on_first (looked_stmt_option top around i) (looked_expr_option top (declared_option i ++ around) t) a m (on_first (looked_stmt_option top around i ++ looked_expr_option top (declared_option i ++ around) t) (looked_cases top (declared_option i ++ around) cs) a m h)))
    mentions_stmt-alike a (defer _ e) m around g h = λ ww. (mentions-alike Deferred a e m around g h ww)
    mentions_stmt-alike a (label _ n s) m around g h = λ ww. (mentions_stmt-alike a s m around g h ww)

    pub mentions_stmts-alike : (a : Env) (u : Stmts S) (m : Environment Entity) (around : List (List ℕ)) → AgreesBelow top around a m → On (looked_stmts top around u) a m → mentions_stmts a u ≡ mentions_stmts (with_names a m) u
    mentions_stmts-alike a no_stmts m around g h = λ ww. []
    mentions_stmts-alike a (stmt_and s ss) m around g h =
        let bs : Binds = binds_of (declared s) (declares a s) in let k : Env = extend bs a in let l : Environment Entity = bs ++ m in
        let q : AgreesBelow top (declared s ++ around) k l = below_after (declared s) around bs a m (of_covers (declared s) (declares a s) a (declares_cover s a)) (of_only (declared s) (declares a s) a (declares_only s a)) g in
        (λ ww. mentions_stmt-alike a s m around g (on_first (looked_stmt top around s) (looked_stmts top (declared s ++ around) ss) a m h) ww ++ beyond bs (mentions_stmts-alike k ss l (declared s ++ around) q (kept (looked_stmts top (declared s ++ around) ss) bs a m (on_second (looked_stmt top around s) (looked_stmts top (declared s ++ around) ss) a m h)) ww))
        ∙ ap (λ d. let bs : Binds = binds_of (declared s) d in mentions_stmt (with_names a m) s ++ beyond bs (mentions_stmts (extend bs (with_names a m)) ss)) (declares-alike a s m around g (on_first (looked_stmt top around s) (looked_stmts top (declared s ++ around) ss) a m h))

    pub mentions_first-alike : (a : Env) (u : StmtOption S) (m : Environment Entity) (around : List (List ℕ)) → AgreesBelow top around a m → On (looked_stmt_option top around u) a m → mentions_first a u ≡ mentions_first (with_names a m) u
    mentions_first-alike a no_stmt m around g h = λ ww. []
    mentions_first-alike a (some_stmt s) m around g h = λ ww. (mentions_stmt-alike a s m around g h ww)

    pub mentions_block-alike : (a : Env) (u : BlockOption S) (m : Environment Entity) (around : List (List ℕ)) → AgreesBelow top around a m → On (looked_block_option top around u) a m → mentions_block a u ≡ mentions_block (with_names a m) u
    mentions_block-alike a no_block m around g h = λ ww. []
    mentions_block-alike a (some_block _ b) m around g h = λ ww. (mentions_stmts-alike (in_block a) b m around (below_in_block g) h ww)

    pub mentions_range-alike : (a : Env) (u : RangeLeft S) (m : Environment Entity) (around : List (List ℕ)) → AgreesBelow top around a m → On (looked_left top around u) a m → mentions_range a u ≡ mentions_range (with_names a m) u
    mentions_range-alike a nothing m around g h = λ ww. []
    mentions_range-alike a (assigns es) m around g h = λ ww. (mentions_left-alike a es m around g h ww)
    mentions_range-alike a (defines ns) m around g h = λ ww. []

    pub mentions_arms-alike : (a : Env) (u : Env → List Mention) (x : Arms S) (m : Environment Entity) (around free : List (List ℕ)) → AgreesBelow top around a m → On (looked_arms top around x) a m → On free a m
        → ((k : Env) (l : Environment Entity) → AgreesBelow top (arms_declared x ++ around) k l → On free k l → u k ≡ u (with_names k l)) → mentions_arms a u x ≡ mentions_arms (with_names a m) u x
    mentions_arms-alike a u no_arms m around free g h r f = f a m g r
    mentions_arms-alike a u (arm _ i e _ b rest) m around free g h r f =
        let bs : Binds = binds_of (declared_option i) (declares_first a i) in let k : Env = extend bs a in let l : Environment Entity = bs ++ m in
        let q : AgreesBelow top (declared_option i ++ around) k l = below_after (declared_option i) around bs a m (of_covers (declared_option i) (declares_first a i) a (first_cover i a)) (of_only (declared_option i) (declares_first a i) a (first_only i a)) g in
        (λ ww. mentions_first-alike a i m around g (on_first (looked_stmt_option top around i) (looked_expr top (declared_option i ++ around) e) a m (on_first (looked_stmt_option top around i ++ looked_expr top (declared_option i ++ around) e) (looked_stmts top (declared_option i ++ around) b) a m (on_first (looked_stmt_option top around i ++ looked_expr top (declared_option i ++ around) e ++ looked_stmts top (declared_option i ++ around) b) (looked_arms top (declared_option i ++ around) rest) a m h))) ww ++ beyond bs (mentions-alike Read k e l (declared_option i ++ around) q (kept (looked_expr top (declared_option i ++ around) e) bs a m (on_second (looked_stmt_option top around i) (looked_expr top (declared_option i ++ around) e) a m (on_first (looked_stmt_option top around i ++ looked_expr top (declared_option i ++ around) e) (looked_stmts top (declared_option i ++ around) b) a m (on_first (looked_stmt_option top around i ++ looked_expr top (declared_option i ++ around) e ++ looked_stmts top (declared_option i ++ around) b) (looked_arms top (declared_option i ++ around) rest) a m h)))) ww ++ mentions_stmts-alike (in_block k) b l (declared_option i ++ around) (below_in_block q) (kept (looked_stmts top (declared_option i ++ around) b) bs a m (on_second (looked_stmt_option top around i ++ looked_expr top (declared_option i ++ around) e) (looked_stmts top (declared_option i ++ around) b) a m (on_first (looked_stmt_option top around i ++ looked_expr top (declared_option i ++ around) e ++ looked_stmts top (declared_option i ++ around) b) (looked_arms top (declared_option i ++ around) rest) a m h))) ww
        ++ mentions_arms-alike (in_block k) u rest l (declared_option i ++ around) free (below_in_block q) (kept (looked_arms top (declared_option i ++ around) rest) bs a m (on_second (looked_stmt_option top around i ++ looked_expr top (declared_option i ++ around) e ++ looked_stmts top (declared_option i ++ around) b) (looked_arms top (declared_option i ++ around) rest) a m h)) (kept free bs a m r) (λ k l q r. f k l (subst (λ z. AgreesBelow top z k l) (sym (append_in_turn (arms_declared rest) (declared_option i) around)) q) r) ww))
        ∙ ap (λ d. let bs : Binds = binds_of (declared_option i) d in let k : Env = extend bs (with_names a m) in mentions_first (with_names a m) i ++ beyond bs (mentions Read k e ++ mentions_stmts (in_block k) b ++ mentions_arms (in_block k) u rest)) (declares_first-alike a i m around g (on_first (looked_stmt_option top around i) (looked_expr top (declared_option i ++ around) e) a m (on_first (looked_stmt_option top around i ++ looked_expr top (declared_option i ++ around) e) (looked_stmts top (declared_option i ++ around) b) a m (on_first (looked_stmt_option top around i ++ looked_expr top (declared_option i ++ around) e ++ looked_stmts top (declared_option i ++ around) b) (looked_arms top (declared_option i ++ around) rest) a m h))))

    pub mentions_cases-alike : (a : Env) (u : Cases S) (m : Environment Entity) (around : List (List ℕ)) → AgreesBelow top around a m → On (looked_cases top around u) a m → mentions_cases a u ≡ mentions_cases (with_names a m) u
    mentions_cases-alike a no_cases m around g h = λ ww. []
    mentions_cases-alike a (case _ es b cs) m around g h = λ ww. (mentions_all-alike a es m around g (on_first (looked_exprs top around es) (looked_stmts top around b) a m (on_first (looked_exprs top around es ++ looked_stmts top around b) (looked_cases top around cs) a m h)) ww) ++ (mentions_stmts-alike (in_block a) b m around (below_in_block g) (on_second (looked_exprs top around es) (looked_stmts top around b) a m (on_first (looked_exprs top around es ++ looked_stmts top around b) (looked_cases top around cs) a m h)) ww) ++ (mentions_cases-alike a cs m around g (on_second (looked_exprs top around es ++ looked_stmts top around b) (looked_cases top around cs) a m h) ww)

    pub mentions_specs-alike : (a : Env) (u : ValueSpecs S) (m : Environment Entity) (around : List (List ℕ)) → AgreesBelow top around a m → On (looked_specs top around u) a m → mentions_specs a u ≡ mentions_specs (with_names a m) u
    mentions_specs-alike a no_specs m around g h = λ ww. []
    mentions_specs-alike a (spec _ ns t es ss) m around g h =
        let vs : Option (List Typed) = right_values a (length ns) (places a es) (all_parts a es) in
        let bs : Binds = binds_of (names_of ns) (new_variables a (names_of ns) (written_type a t) (no_values es) vs) in let k : Env = extend bs a in let l : Environment Entity = bs ++ m in
        let q : AgreesBelow top (names_of ns ++ around) k l = below_after (names_of ns) around bs a m (of_covers (names_of ns) (new_variables a (names_of ns) (written_type a t) (no_values es) vs) a (new_variables_cover a (names_of ns) (written_type a t) (no_values es) vs)) (of_only (names_of ns) (new_variables a (names_of ns) (written_type a t) (no_values es) vs) a (new_variables_only a (names_of ns) (written_type a t) (no_values es) vs)) g in
        (λ ww. mentions_all-alike a es m around g (on_second (free_type_option around t) (looked_exprs top around es) a m (on_first (free_type_option around t ++ looked_exprs top around es) (looked_specs top (names_of ns ++ around) ss) a m h)) ww ++ beyond bs (mentions_specs-alike k ss l (names_of ns ++ around) q (kept (looked_specs top (names_of ns ++ around) ss) bs a m (on_second (free_type_option around t ++ looked_exprs top around es) (looked_specs top (names_of ns ++ around) ss) a m h)) ww))
        ∙ ap (λ d. let bs : Binds = binds_of (names_of ns) d in mentions_all (with_names a m) es ++ beyond bs (mentions_specs (extend bs (with_names a m)) ss)) (λ ww. new_variables a (names_of ns) (written_type-below a t m around g (on_first (free_type_option around t) (looked_exprs top around es) a m (on_first (free_type_option around t ++ looked_exprs top around es) (looked_specs top (names_of ns ++ around) ss) a m h)) ww) (no_values es) (right_values a (length ns) (places-alike a es m around g (on_second (free_type_option around t) (looked_exprs top around es) a m (on_first (free_type_option around t ++ looked_exprs top around es) (looked_specs top (names_of ns ++ around) ss) a m h)) ww) (all_parts-alike a es m around g (on_second (free_type_option around t) (looked_exprs top around es) a m (on_first (free_type_option around t ++ looked_exprs top around es) (looked_specs top (names_of ns ++ around) ss) a m h)) ww)))

  group_mentions-alike : (a : Env) (u : ValueSpecs S) (m : Environment Entity) (around : List (List ℕ)) → AgreesBelow top around a m → On (looked_specs top around u) a m → group_mentions a u ≡ group_mentions (with_names a m) u
  group_mentions-alike a no_specs m around g h = λ ww. []
  group_mentions-alike a (spec _ ns t es ss) m around g h =
      let vs : Option (List Typed) = right_values a (length ns) (places a es) (all_parts a es) in
      let bs : Binds = binds_of (names_of ns) (new_variables a (names_of ns) (written_type a t) (no_values es) vs) in let k : Env = extend bs a in let l : Environment Entity = bs ++ m in
      let q : AgreesBelow top (names_of ns ++ around) k l = below_after (names_of ns) around bs a m (of_covers (names_of ns) (new_variables a (names_of ns) (written_type a t) (no_values es) vs) a (new_variables_cover a (names_of ns) (written_type a t) (no_values es) vs)) (of_only (names_of ns) (new_variables a (names_of ns) (written_type a t) (no_values es) vs) a (new_variables_only a (names_of ns) (written_type a t) (no_values es) vs)) g in
      (λ ww. within_names (bound_names bs) (mentions_specs-alike k ss l (names_of ns ++ around) q (kept (looked_specs top (names_of ns ++ around) ss) bs a m (on_second (free_type_option around t ++ looked_exprs top around es) (looked_specs top (names_of ns ++ around) ss) a m h)) ww) ++ group_mentions-alike k ss l (names_of ns ++ around) q (kept (looked_specs top (names_of ns ++ around) ss) bs a m (on_second (free_type_option around t ++ looked_exprs top around es) (looked_specs top (names_of ns ++ around) ss) a m h)) ww)
      ∙ ap (λ d. let bs : Binds = binds_of (names_of ns) d in within_names (bound_names bs) (mentions_specs (extend bs (with_names a m)) ss) ++ group_mentions (extend bs (with_names a m)) ss) (λ ww. new_variables a (names_of ns) (written_type-below a t m around g (on_first (free_type_option around t) (looked_exprs top around es) a m (on_first (free_type_option around t ++ looked_exprs top around es) (looked_specs top (names_of ns ++ around) ss) a m h)) ww) (no_values es) (right_values a (length ns) (places-alike a es m around g (on_second (free_type_option around t) (looked_exprs top around es) a m (on_first (free_type_option around t ++ looked_exprs top around es) (looked_specs top (names_of ns ++ around) ss) a m h)) ww) (all_parts-alike a es m around g (on_second (free_type_option around t) (looked_exprs top around es) a m (on_first (free_type_option around t ++ looked_exprs top around es) (looked_specs top (names_of ns ++ around) ss) a m h)) ww)))

  pub own_mentions-alike : (a : Env) (u : Stmt S) (m : Environment Entity) (around : List (List ℕ)) → AgreesBelow top around a m → On (looked_stmt top around u) a m → own_mentions a u ≡ own_mentions (with_names a m) u
  own_mentions-alike a (var_decl _ _ ss) m around g h = group_mentions-alike a ss m around g h
  own_mentions-alike a (label _ n s) m around g h = own_mentions-alike a s m around g h
  own_mentions-alike a s m around g h = λ ww. []
