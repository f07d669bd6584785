-- What is mentioned is alike where free names mean the same, and keys the same or no value.
use Rattle.std.specs.Prelude.{◌≡◌, refl, ℕ, List, [], ◌++◌, length, Option, Some, if◌then◌else◌}
use Rattle.go_tree.specs.Tree.{Expr, ident, int_lit, rune_lit, str_lit, composite, selector, index, slice, call, func_lit, type_operand, unary, binary, star, Exprs, no_exprs, expr_and, ExprOption, no_expr, some_expr, Elems, no_elems, elem, Value, plain, braced, ValueOption, no_value, some_value, Stmt, const_decl, var_decl, empty, eval, step, assign, define, return_, break_, continue_, inner, if_, for_, range_, switch, defer, label, Stmts, no_stmts, stmt_and, StmtOption, no_stmt, some_stmt, BlockOption, no_block, some_block, RangeLeft, nothing, assigns, defines, Arms, no_arms, arm, Cases, no_cases, case, ValueSpecs, no_specs, spec}
use Rattle.go_tree.specs.ScopeNames.FreeNames.{names_of, sig_names, declared, declared_option, defined}
use Rattle.go_tree.specs.GoTypes.Answers.{given, meets}
use Rattle.go_tree.specs.GoTypes.Types.{GoType}
use Rattle.go_tree.specs.GoTypes.Defined.{under}
use Rattle.go_tree.specs.GoTypes.Entities.{Entity, Env, defined_in, Binds, extend, in_block}
use Rattle.go_tree.specs.GoTypes.TypeNames.{written_type, func_type}
use Rattle.go_tree.specs.GoTypes.Operands.{Operand, Typed}
use Rattle.go_tree.specs.GoTypes.Literals.{is_struct, key_type, inner_type, literal_type}
use Rattle.go_tree.specs.GoTypes.Statements.{bound_names, no_values, body_binds}
use Rattle.go_tree.specs.GoTypes.Typing.{binds_or, parts, all_parts, places, declares, declares_first, range_declares, binds_of, new_variables, right_values}
use Rattle.go_translation.specs.Values.{typed_of}
use mathlib.Core.Path.{ap, sym, ◌∙◌, subst}
use Rattle.go_tree.specs.ScopeNames.Means.{Environment}
use Rattle.go_tree.specs.ScopeNames.FreeNames.{arms_declared}
use Rattle.go_tree.specs.GoTypes.Agreement.{with_names, Agrees}
use Rattle.go_tree.proofs.GoTypes.Agreeing.{agrees_in_block, agrees_after, declares_cover, first_cover, range_cover, of_covers, literal_cover, new_variables_cover}
use Rattle.constant_modules.proofs.NamesAndKeys.TypingMarked.{parts-alike, all_parts-alike, places-alike, declares-alike, declares_first-alike, range_declares-alike}
use Rattle.constant_modules.proofs.NamesAndKeys.SmallMarked.{or_covers, append_in_turn, type_meant-alike, written_type-alike, func_type-alike}
use Rattle.go_translation.specs.Mentions.{Way, Read, Stored, Deferred, Mention, variable_mention, callee_way, literal_mentions, operand_way, unary_way, beyond_names, beyond, within_names, group_mentions, own_mentions, stored_again, mentions, mentions_all, mentions_option, mentions_left, mentions_elems, mentions_key, mentions_value, mentions_stmt, mentions_stmts, mentions_first, mentions_block, mentions_range, mentions_arms, mentions_cases, mentions_specs}
use Rattle.constant_modules.specs.NamesAndKeys.Marked.{Marked, key_name, unless_key, NoValue, no_meaning, of_package, of_type, of_builtin, of_refused, SameOrNone, at_head, OnMarked, marked_type, marked_type_option, marked_params, marked_expr, marked_exprs, marked_expr_option, marked_elems, marked_value, marked_value_option, marked_key, marked_stmt, marked_stmts, marked_stmt_option, marked_block_option, marked_left, marked_arms, marked_cases, marked_specs}
use Rattle.constant_modules.proofs.NamesAndKeys.TypingMarked.{first_of, second_of, marked_alike}
use Rattle.constant_modules.proofs.NamesAndKeys.TypingMarked.{kept}
use Rattle.std.specs.Prelude.{Bool, true, false, ◌∷◌}
use Rattle.std.proofs.Common.{inl, inr}
use Rattle.go_tree.specs.ScopeNames.Means.{means}
use Rattle.go_tree.specs.GoTypes.Answers.{is_among}

-- what a key mentions
mention-key : (a : Env) (m : Environment Entity) (around : List (List ℕ)) (n : List ℕ) → Agrees around a m → OnMarked (unless_key around n) a m → variable_mention Read n (means a.names n) ≡ variable_mention Read n (means m n)
mention-key a m around n g h = by (is_among n around) refl h
  where
    none : {x : Option Entity} → NoValue x → variable_mention Read n x ≡ []
    none no_meaning = refl
    none of_package = refl
    none of_type = refl
    none of_builtin = refl
    none of_refused = refl

    alike : SameOrNone (means a.names n) (means m n) → variable_mention Read n (means a.names n) ≡ variable_mention Read n (means m n)
    alike (inl e) = ap (variable_mention Read n) e
    alike (inr q) = none q.0 ∙ sym (none q.1)

    by : (b : Bool) → is_among n around ≡ b → OnMarked (if b then [] else key_name n ∷ []) a m → variable_mention Read n (means a.names n) ≡ variable_mention Read n (means m n)
    by true e f = ap (variable_mention Read n) (g.bound n e)
    by false e f = alike (f (key_name n) at_head)

mention-by : {S : Type 0} (a : Env) (t : Option GoType) (k : Value S) (m : Environment Entity) (around : List (List ℕ)) → Agrees around a m → OnMarked (marked_key around k) a m → (OnMarked (marked_value around k) a m → mentions_value a t k ≡ mentions_value (with_names a m) t k) → mentions_value a t k ≡ mentions_value (with_names a m) t k
mention-by a t (plain (ident _ n)) m around g h f = mention-key a m around n g h
mention-by a t (plain (int_lit _ _)) m around g h f = f h
mention-by a t (plain (rune_lit _ _)) m around g h f = f h
mention-by a t (plain (str_lit _ _)) m around g h f = f h
mention-by a t (plain (composite _ _ _)) m around g h f = f h
mention-by a t (plain (selector _ _ _)) m around g h f = f h
mention-by a t (plain (index _ _ _)) m around g h f = f h
mention-by a t (plain (slice _ _ _ _)) m around g h f = f h
mention-by a t (plain (call _ _ _ _)) m around g h f = f h
mention-by a t (plain (func_lit _ _ _ _)) m around g h f = f h
mention-by a t (plain (type_operand _ _)) m around g h f = f h
mention-by a t (plain (unary _ _ _)) m around g h f = f h
mention-by a t (plain (binary _ _ _ _)) m around g h f = f h
mention-by a t (plain (star _ _)) m around g h f = f h
mention-by a t (braced _ _) m around g h f = f h

module _ {S : Type 0} where
  mutual
    pub mentions-alike : (t : Way) (a : Env) (v : Expr S) (m : Environment Entity) (around : List (List ℕ)) → Agrees around a m → OnMarked (marked_expr around v) a m → mentions t a v ≡ mentions t (with_names a m) v
    mentions-alike v a (ident _ n) m around g h = λ ww. variable_mention v n (marked_alike n around a m g h ww)
    mentions-alike w a (int_lit _ s) m around g h = λ ww. []
    mentions-alike w a (rune_lit _ s) m around g h = λ ww. []
    mentions-alike w a (str_lit _ s) m around g h = λ ww. []
    mentions-alike w a (composite _ t es) m around g h = λ ww. (mentions_elems-alike a (given ((type_meant-alike a t m around g (first_of (marked_type around t) (marked_elems around es) a m h) ww)) (λ u. Some (under (defined_in a) u))) es m around g (second_of (marked_type around t) (marked_elems around es) a m h) ww)
    mentions-alike w a (selector _ b n) m around g h = λ ww. (mentions-alike (operand_way (defined_in a) a.home n.name w (typed_of ((parts-alike a b m around g h ww)))) a b m around g h ww)
    mentions-alike w a (index _ b i) m around g h = λ ww. (mentions-alike Read a b m around g (first_of (marked_expr around b) (marked_expr around i) a m h) ww) ++ (mentions-alike Read a i m around g (second_of (marked_expr around b) (marked_expr around i) a m h) ww)
    mentions-alike w a (slice _ b i j) m around g h = λ ww. (mentions-alike Read a b m around g (first_of (marked_expr around b) (marked_expr_option around i) a m (first_of (marked_expr around b ++ marked_expr_option around i) (marked_expr_option around j) a m h)) ww) ++ (mentions_option-alike a i m around g (second_of (marked_expr around b) (marked_expr_option around i) a m (first_of (marked_expr around b ++ marked_expr_option around i) (marked_expr_option around j) a m h)) ww) ++ (mentions_option-alike a j m around g (second_of (marked_expr around b ++ marked_expr_option around i) (marked_expr_option around j) a m h) ww)
    mentions-alike w a (call _ f xs _) m around g h = λ ww. (mentions-alike (callee_way w) a f m around g (first_of (marked_expr around f) (marked_exprs around xs) a m h) ww) ++ (mentions_all-alike a xs m around g (second_of (marked_expr around f) (marked_exprs around xs) a m h) ww)
    mentions-alike v a (func_lit _ s _ b) m around g h =
        let r : Option Binds = given (func_type a s) (body_binds [] s) in let bs : Binds = binds_or (sig_names s) r in
        (λ ww. literal_mentions v (beyond_names (sig_names s) (mentions_stmts-alike (extend bs (in_block a)) b (bs ++ m) (sig_names s ++ around) (agrees_after (sig_names s) around bs (in_block a) m (or_covers (sig_names s) r (in_block a) (literal_cover a (in_block a) s)) (agrees_in_block g)) (kept (marked_stmts (sig_names s ++ around) b) bs a m (second_of (marked_params around s.params ++ marked_params around s.results) (marked_stmts (sig_names s ++ around) b) a m h)) ww)))
        ∙ ap (λ r. literal_mentions v (beyond_names (sig_names s) (mentions_stmts (extend (binds_or (sig_names s) (given r (body_binds [] s))) (in_block (with_names a m))) b))) (func_type-alike a s m around g (first_of (marked_params around s.params) (marked_params around s.results) a m (first_of (marked_params around s.params ++ marked_params around s.results) (marked_stmts (sig_names s ++ around) b) a m h)) (second_of (marked_params around s.params) (marked_params around s.results) a m (first_of (marked_params around s.params ++ marked_params around s.results) (marked_stmts (sig_names s ++ around) b) a m h)))
    mentions-alike w a (type_operand _ t) m around g h = λ ww. []
    mentions-alike w a (unary _ op e) m around g h = λ ww. (mentions-alike (unary_way op) a e m around g h ww)
    mentions-alike w a (binary _ op x y) m around g h = λ ww. (mentions-alike Read a x m around g (first_of (marked_expr around x) (marked_expr around y) a m h) ww) ++ (mentions-alike Read a y m around g (second_of (marked_expr around x) (marked_expr around y) a m h) ww)
    mentions-alike w a (star _ e) m around g h = λ ww. (mentions-alike Read a e m around g h ww)

    pub mentions_all-alike : (a : Env) (u : Exprs S) (m : Environment Entity) (around : List (List ℕ)) → Agrees around a m → OnMarked (marked_exprs around u) a m → mentions_all a u ≡ mentions_all (with_names a m) u
    mentions_all-alike a no_exprs m around g h = λ ww. []
    mentions_all-alike a (expr_and e es) m around g h = λ ww. (mentions-alike Read a e m around g (first_of (marked_expr around e) (marked_exprs around es) a m h) ww) ++ (mentions_all-alike a es m around g (second_of (marked_expr around e) (marked_exprs around es) a m h) ww)

    pub mentions_option-alike : (a : Env) (u : ExprOption S) (m : Environment Entity) (around : List (List ℕ)) → Agrees around a m → OnMarked (marked_expr_option around u) a m → mentions_option a u ≡ mentions_option (with_names a m) u
    mentions_option-alike a no_expr m around g h = λ ww. []
    mentions_option-alike a (some_expr e) m around g h = λ ww. (mentions-alike Read a e m around g h ww)

    pub mentions_left-alike : (a : Env) (u : Exprs S) (m : Environment Entity) (around : List (List ℕ)) → Agrees around a m → OnMarked (marked_exprs around u) a m → mentions_left a u ≡ mentions_left (with_names a m) u
    mentions_left-alike a no_exprs m around g h = λ ww. []
    mentions_left-alike a (expr_and e es) m around g h = λ ww. (mentions-alike Stored a e m around g (first_of (marked_expr around e) (marked_exprs around es) a m h) ww) ++ (mentions_left-alike a es m around g (second_of (marked_expr around e) (marked_exprs around es) a m h) ww)

    pub mentions_elems-alike : (a : Env) (u : Option GoType) (v : Elems S) (m : Environment Entity) (around : List (List ℕ)) → Agrees around a m → OnMarked (marked_elems around v) a m → mentions_elems a u v ≡ mentions_elems (with_names a m) u v
    mentions_elems-alike a u no_elems m around g h = λ ww. []
    mentions_elems-alike a u (elem _ k v es) m around g h = λ ww. (mentions_key-alike a u k m around g (first_of (marked_value_option around k) (marked_value around v) a m (first_of (marked_value_option around k ++ marked_value around v) (marked_elems around es) a m h)) ww) ++ (mentions_value-alike a (given u (inner_type (defined_in a))) v m around g (second_of (marked_value_option around k) (marked_value around v) a m (first_of (marked_value_option around k ++ marked_value around v) (marked_elems around es) a m h)) ww) ++ (mentions_elems-alike a u es m around g (second_of (marked_value_option around k ++ marked_value around v) (marked_elems around es) a m h) ww)

    pub mentions_key-alike : (a : Env) (u : Option GoType) (v : ValueOption S) (m : Environment Entity) (around : List (List ℕ)) → Agrees around a m → OnMarked (marked_value_option around v) a m → mentions_key a u v ≡ mentions_key (with_names a m) u v
    mentions_key-alike a u no_value m around g h = λ ww. []
    mentions_key-alike a u (some_value k) m around g h = λ ww. if meets u is_struct then [] else (mention-by a (given u (key_type (defined_in a))) k m around g h (λ j. mentions_value-alike a (given u (key_type (defined_in a))) k m around g j) ww)

    pub mentions_value-alike : (a : Env) (u : Option GoType) (v : Value S) (m : Environment Entity) (around : List (List ℕ)) → Agrees around a m → OnMarked (marked_value around v) a m → mentions_value a u v ≡ mentions_value (with_names a m) u v
    mentions_value-alike a t (plain e) m around g h = λ ww. (mentions-alike Read a e m around g h ww)
    mentions_value-alike a t (braced _ es) m around g h = λ ww. (mentions_elems-alike a (given t (λ t. Some (under (defined_in a) (literal_type (defined_in a) t)))) es m around g h ww)

    pub mentions_stmt-alike : (a : Env) (u : Stmt S) (m : Environment Entity) (around : List (List ℕ)) → Agrees around a m → OnMarked (marked_stmt around u) a m → mentions_stmt a u ≡ mentions_stmt (with_names a m) u
    mentions_stmt-alike a (const_decl _ _ ss) m around g h = refl
    mentions_stmt-alike a (var_decl _ _ ss) m around g h = λ ww. (mentions_specs-alike a ss m around g h ww)
    mentions_stmt-alike a (empty _) m around g h = λ ww. []
    mentions_stmt-alike a (eval _ e) m around g h = λ ww. (mentions-alike Read a e m around g h ww)
    mentions_stmt-alike a (step _ e up) m around g h = λ ww. (mentions-alike Stored a e m around g h ww)
    mentions_stmt-alike a (assign _ ls op rs) m around g h = λ ww. (mentions_left-alike a ls m around g (first_of (marked_exprs around ls) (marked_exprs around rs) a m h) ww) ++ (mentions_all-alike a rs m around g (second_of (marked_exprs around ls) (marked_exprs around rs) a m h) ww)
    mentions_stmt-alike a (define _ ns rs) m around g h = λ ww. stored_again a (names_of ns) ++ (mentions_all-alike a rs m around g h ww)
    mentions_stmt-alike a (return_ _ es) m around g h = λ ww. (mentions_all-alike a es m around g h ww)
    mentions_stmt-alike a (break_ _ n) m around g h = λ ww. []
    mentions_stmt-alike a (continue_ _ n) m around g h = λ ww. []
    mentions_stmt-alike a (inner _ b) m around g h = λ ww. (mentions_stmts-alike (in_block a) b m around (agrees_in_block g) h ww)
    mentions_stmt-alike a (if_ _ bs last) m around g h = mentions_arms-alike (in_block a) (λ k. mentions_block k last) bs m around (marked_block_option (arms_declared bs ++ around) last) (agrees_in_block g) (first_of (marked_arms around bs) (marked_block_option (arms_declared bs ++ around) last) a m h) (second_of (marked_arms around bs) (marked_block_option (arms_declared bs ++ around) last) a m h) (λ k l q r. mentions_block-alike k last l (arms_declared bs ++ around) q r)
    mentions_stmt-alike a (for_ _ i t p _ b) m around g h =
        let bs : Binds = binds_of (declared_option i) (declares_first (in_block a) i) in let k : Env = extend bs (in_block a) in let l : Environment Entity = bs ++ m in
        let q : Agrees (declared_option i ++ around) k l = agrees_after (declared_option i) around bs (in_block a) m (of_covers (declared_option i) (declares_first (in_block a) i) (in_block a) (first_cover i (in_block a))) (agrees_in_block g) in
        (λ ww. mentions_first-alike (in_block a) i m around (agrees_in_block g) (first_of (marked_stmt_option around i) (marked_expr_option (declared_option i ++ around) t) a m (first_of (marked_stmt_option around i ++ marked_expr_option (declared_option i ++ around) t) (marked_stmt_option (declared_option i ++ around) p) a m (first_of (marked_stmt_option around i ++ marked_expr_option (declared_option i ++ around) t ++ marked_stmt_option (declared_option i ++ around) p) (marked_stmts (declared_option i ++ around) b) a m h))) ww ++ beyond bs (mentions_option-alike k t l (declared_option i ++ around) q (kept (marked_expr_option (declared_option i ++ around) t) bs a m (second_of (marked_stmt_option around i) (marked_expr_option (declared_option i ++ around) t) a m (first_of (marked_stmt_option around i ++ marked_expr_option (declared_option i ++ around) t) (marked_stmt_option (declared_option i ++ around) p) a m (first_of (marked_stmt_option around i ++ marked_expr_option (declared_option i ++ around) t ++ marked_stmt_option (declared_option i ++ around) p) (marked_stmts (declared_option i ++ around) b) a m h)))) ww ++ mentions_first-alike k p l (declared_option i ++ around) q (kept (marked_stmt_option (declared_option i ++ around) p) bs a m (second_of (marked_stmt_option around i ++ marked_expr_option (declared_option i ++ around) t) (marked_stmt_option (declared_option i ++ around) p) a m (first_of (marked_stmt_option around i ++ marked_expr_option (declared_option i ++ around) t ++ marked_stmt_option (declared_option i ++ around) p) (marked_stmts (declared_option i ++ around) b) a m h))) ww ++ mentions_stmts-alike (in_block k) b l (declared_option i ++ around) (agrees_in_block q) (kept (marked_stmts (declared_option i ++ around) b) bs a m (second_of (marked_stmt_option around i ++ marked_expr_option (declared_option i ++ around) t ++ marked_stmt_option (declared_option i ++ around) p) (marked_stmts (declared_option i ++ around) b) a m h)) ww))
        ∙ ap (λ d. let bs : Binds = binds_of (declared_option i) d in let k : Env = extend bs (in_block (with_names a m)) in mentions_first (in_block (with_names a m)) i ++ beyond bs (mentions_option k t ++ mentions_first k p ++ mentions_stmts (in_block k) b)) (declares_first-alike (in_block a) i m around (agrees_in_block g) (first_of (marked_stmt_option around i) (marked_expr_option (declared_option i ++ around) t) a m (first_of (marked_stmt_option around i ++ marked_expr_option (declared_option i ++ around) t) (marked_stmt_option (declared_option i ++ around) p) a m (first_of (marked_stmt_option around i ++ marked_expr_option (declared_option i ++ around) t ++ marked_stmt_option (declared_option i ++ around) p) (marked_stmts (declared_option i ++ around) b) a m h))))
    mentions_stmt-alike a (range_ _ x e _ b) m around g h =
        let o : Option Operand = parts a e in let bs : Binds = binds_of (defined x) (range_declares a o x) in let k : Env = extend bs (in_block a) in let l : Environment Entity = bs ++ m in
        let q : Agrees (defined x ++ around) k l = agrees_after (defined x) around bs (in_block a) m (of_covers (defined x) (range_declares a o x) (in_block a) (range_cover x a (in_block a) o)) (agrees_in_block g) in
        (λ ww. mentions_range-alike a x m around g (first_of (marked_left around x) (marked_expr around e) a m (first_of (marked_left around x ++ marked_expr around e) (marked_stmts (defined x ++ around) b) a m h)) ww ++ mentions-alike Read a e m around g (second_of (marked_left around x) (marked_expr around e) a m (first_of (marked_left around x ++ marked_expr around e) (marked_stmts (defined x ++ around) b) a m h)) ww ++ beyond bs (mentions_stmts-alike (in_block k) b l (defined x ++ around) (agrees_in_block q) (kept (marked_stmts (defined x ++ around) b) bs a m (second_of (marked_left around x ++ marked_expr around e) (marked_stmts (defined x ++ around) b) a m h)) ww))
        ∙ ap (λ d. let bs : Binds = binds_of (defined x) d in mentions_range (with_names a m) x ++ mentions Read (with_names a m) e ++ beyond bs (mentions_stmts (in_block (extend bs (in_block (with_names a m)))) b)) (λ ww. range_declares-alike a (parts-alike a e m around g (second_of (marked_left around x) (marked_expr around e) a m (first_of (marked_left around x ++ marked_expr around e) (marked_stmts (defined x ++ around) b) a m h)) ww) x m around g (first_of (marked_left around x) (marked_expr around e) a m (first_of (marked_left around x ++ marked_expr around e) (marked_stmts (defined x ++ around) b) a m h)) ww)
    mentions_stmt-alike a (switch _ i t cs) m around g h =
        let bs : Binds = binds_of (declared_option i) (declares_first (in_block a) i) in let k : Env = extend bs (in_block a) in let l : Environment Entity = bs ++ m in
        let q : Agrees (declared_option i ++ around) k l = agrees_after (declared_option i) around bs (in_block a) m (of_covers (declared_option i) (declares_first (in_block a) i) (in_block a) (first_cover i (in_block a))) (agrees_in_block g) in
        (λ ww. mentions_first-alike (in_block a) i m around (agrees_in_block g) (first_of (marked_stmt_option around i) (marked_expr_option (declared_option i ++ around) t) a m (first_of (marked_stmt_option around i ++ marked_expr_option (declared_option i ++ around) t) (marked_cases (declared_option i ++ around) cs) a m h)) ww ++ beyond bs (mentions_option-alike k t l (declared_option i ++ around) q (kept (marked_expr_option (declared_option i ++ around) t) bs a m (second_of (marked_stmt_option around i) (marked_expr_option (declared_option i ++ around) t) a m (first_of (marked_stmt_option around i ++ marked_expr_option (declared_option i ++ around) t) (marked_cases (declared_option i ++ around) cs) a m h))) ww ++ mentions_cases-alike k cs l (declared_option i ++ around) q (kept (marked_cases (declared_option i ++ around) cs) bs a m (second_of (marked_stmt_option around i ++ marked_expr_option (declared_option i ++ around) t) (marked_cases (declared_option i ++ around) cs) a m h)) ww))
        ∙ ap (λ d. let bs : Binds = binds_of (declared_option i) d in let k : Env = extend bs (in_block (with_names a m)) in mentions_first (in_block (with_names a m)) i ++ beyond bs (mentions_option k t ++ mentions_cases k cs)) (declares_first-alike (in_block a) i m around (agrees_in_block g) (first_of (marked_stmt_option around i) (marked_expr_option (declared_option i ++ around) t) a m (first_of (marked_stmt_option around i ++ marked_expr_option (declared_option i ++ around) t) (marked_cases (declared_option i ++ around) cs) a m h)))
    mentions_stmt-alike a (defer _ e) m around g h = λ ww. (mentions-alike Deferred a e m around g h ww)
    mentions_stmt-alike a (label _ n s) m around g h = λ ww. (mentions_stmt-alike a s m around g h ww)

    pub mentions_stmts-alike : (a : Env) (u : Stmts S) (m : Environment Entity) (around : List (List ℕ)) → Agrees around a m → OnMarked (marked_stmts around u) a m → mentions_stmts a u ≡ mentions_stmts (with_names a m) u
    mentions_stmts-alike a no_stmts m around g h = λ ww. []
    mentions_stmts-alike a (stmt_and s ss) m around g h =
        let bs : Binds = binds_of (declared s) (declares a s) in let k : Env = extend bs a in let l : Environment Entity = bs ++ m in
        let q : Agrees (declared s ++ around) k l = agrees_after (declared s) around bs a m (of_covers (declared s) (declares a s) a (declares_cover s a)) g in
        (λ ww. mentions_stmt-alike a s m around g (first_of (marked_stmt around s) (marked_stmts (declared s ++ around) ss) a m h) ww ++ beyond bs (mentions_stmts-alike k ss l (declared s ++ around) q (kept (marked_stmts (declared s ++ around) ss) bs a m (second_of (marked_stmt around s) (marked_stmts (declared s ++ around) ss) a m h)) ww))
        ∙ ap (λ d. let bs : Binds = binds_of (declared s) d in mentions_stmt (with_names a m) s ++ beyond bs (mentions_stmts (extend bs (with_names a m)) ss)) (declares-alike a s m around g (first_of (marked_stmt around s) (marked_stmts (declared s ++ around) ss) a m h))

    pub mentions_first-alike : (a : Env) (u : StmtOption S) (m : Environment Entity) (around : List (List ℕ)) → Agrees around a m → OnMarked (marked_stmt_option around u) a m → mentions_first a u ≡ mentions_first (with_names a m) u
    mentions_first-alike a no_stmt m around g h = λ ww. []
    mentions_first-alike a (some_stmt s) m around g h = λ ww. (mentions_stmt-alike a s m around g h ww)

    pub mentions_block-alike : (a : Env) (u : BlockOption S) (m : Environment Entity) (around : List (List ℕ)) → Agrees around a m → OnMarked (marked_block_option around u) a m → mentions_block a u ≡ mentions_block (with_names a m) u
    mentions_block-alike a no_block m around g h = λ ww. []
    mentions_block-alike a (some_block _ b) m around g h = λ ww. (mentions_stmts-alike (in_block a) b m around (agrees_in_block g) h ww)

    pub mentions_range-alike : (a : Env) (u : RangeLeft S) (m : Environment Entity) (around : List (List ℕ)) → Agrees around a m → OnMarked (marked_left around u) a m → mentions_range a u ≡ mentions_range (with_names a m) u
    mentions_range-alike a nothing m around g h = λ ww. []
    mentions_range-alike a (assigns es) m around g h = λ ww. (mentions_left-alike a es m around g h ww)
    mentions_range-alike a (defines ns) m around g h = λ ww. []

    pub mentions_arms-alike : (a : Env) (u : Env → List Mention) (x : Arms S) (m : Environment Entity) (around : List (List ℕ)) (free : List Marked) → Agrees around a m → OnMarked (marked_arms around x) a m → OnMarked free a m
        → ((k : Env) (l : Environment Entity) → Agrees (arms_declared x ++ around) k l → OnMarked free k l → u k ≡ u (with_names k l)) → mentions_arms a u x ≡ mentions_arms (with_names a m) u x
    mentions_arms-alike a u no_arms m around free g h r f = f a m g r
    mentions_arms-alike a u (arm _ i e _ b rest) m around free g h r f =
        let bs : Binds = binds_of (declared_option i) (declares_first a i) in let k : Env = extend bs a in let l : Environment Entity = bs ++ m in
        let q : Agrees (declared_option i ++ around) k l = agrees_after (declared_option i) around bs a m (of_covers (declared_option i) (declares_first a i) a (first_cover i a)) g in
        (λ ww. mentions_first-alike a i m around g (first_of (marked_stmt_option around i) (marked_expr (declared_option i ++ around) e) a m (first_of (marked_stmt_option around i ++ marked_expr (declared_option i ++ around) e) (marked_stmts (declared_option i ++ around) b) a m (first_of (marked_stmt_option around i ++ marked_expr (declared_option i ++ around) e ++ marked_stmts (declared_option i ++ around) b) (marked_arms (declared_option i ++ around) rest) a m h))) ww ++ beyond bs (mentions-alike Read k e l (declared_option i ++ around) q (kept (marked_expr (declared_option i ++ around) e) bs a m (second_of (marked_stmt_option around i) (marked_expr (declared_option i ++ around) e) a m (first_of (marked_stmt_option around i ++ marked_expr (declared_option i ++ around) e) (marked_stmts (declared_option i ++ around) b) a m (first_of (marked_stmt_option around i ++ marked_expr (declared_option i ++ around) e ++ marked_stmts (declared_option i ++ around) b) (marked_arms (declared_option i ++ around) rest) a m h)))) ww ++ mentions_stmts-alike (in_block k) b l (declared_option i ++ around) (agrees_in_block q) (kept (marked_stmts (declared_option i ++ around) b) bs a m (second_of (marked_stmt_option around i ++ marked_expr (declared_option i ++ around) e) (marked_stmts (declared_option i ++ around) b) a m (first_of (marked_stmt_option around i ++ marked_expr (declared_option i ++ around) e ++ marked_stmts (declared_option i ++ around) b) (marked_arms (declared_option i ++ around) rest) a m h))) ww
        ++ mentions_arms-alike (in_block k) u rest l (declared_option i ++ around) free (agrees_in_block q) (kept (marked_arms (declared_option i ++ around) rest) bs a m (second_of (marked_stmt_option around i ++ marked_expr (declared_option i ++ around) e ++ marked_stmts (declared_option i ++ around) b) (marked_arms (declared_option i ++ around) rest) a m h)) (kept free bs a m r) (λ k l q r. f k l (subst (λ z. Agrees z k l) (sym (append_in_turn (arms_declared rest) (declared_option i) around)) q) r) ww))
        ∙ ap (λ d. let bs : Binds = binds_of (declared_option i) d in let k : Env = extend bs (with_names a m) in mentions_first (with_names a m) i ++ beyond bs (mentions Read k e ++ mentions_stmts (in_block k) b ++ mentions_arms (in_block k) u rest)) (declares_first-alike a i m around g (first_of (marked_stmt_option around i) (marked_expr (declared_option i ++ around) e) a m (first_of (marked_stmt_option around i ++ marked_expr (declared_option i ++ around) e) (marked_stmts (declared_option i ++ around) b) a m (first_of (marked_stmt_option around i ++ marked_expr (declared_option i ++ around) e ++ marked_stmts (declared_option i ++ around) b) (marked_arms (declared_option i ++ around) rest) a m h))))

    pub mentions_cases-alike : (a : Env) (u : Cases S) (m : Environment Entity) (around : List (List ℕ)) → Agrees around a m → OnMarked (marked_cases around u) a m → mentions_cases a u ≡ mentions_cases (with_names a m) u
    mentions_cases-alike a no_cases m around g h = λ ww. []
    mentions_cases-alike a (case _ es b cs) m around g h = λ ww. (mentions_all-alike a es m around g (first_of (marked_exprs around es) (marked_stmts around b) a m (first_of (marked_exprs around es ++ marked_stmts around b) (marked_cases around cs) a m h)) ww) ++ (mentions_stmts-alike (in_block a) b m around (agrees_in_block g) (second_of (marked_exprs around es) (marked_stmts around b) a m (first_of (marked_exprs around es ++ marked_stmts around b) (marked_cases around cs) a m h)) ww) ++ (mentions_cases-alike a cs m around g (second_of (marked_exprs around es ++ marked_stmts around b) (marked_cases around cs) a m h) ww)

    pub mentions_specs-alike : (a : Env) (u : ValueSpecs S) (m : Environment Entity) (around : List (List ℕ)) → Agrees around a m → OnMarked (marked_specs around u) a m → mentions_specs a u ≡ mentions_specs (with_names a m) u
    mentions_specs-alike a no_specs m around g h = λ ww. []
    mentions_specs-alike a (spec _ ns t es ss) m around g h =
        let vs : Option (List Typed) = right_values a (length ns) (places a es) (all_parts a es) in
        let bs : Binds = binds_of (names_of ns) (new_variables a (names_of ns) (written_type a t) (no_values es) vs) in let k : Env = extend bs a in let l : Environment Entity = bs ++ m in
        let q : Agrees (names_of ns ++ around) k l = agrees_after (names_of ns) around bs a m (of_covers (names_of ns) (new_variables a (names_of ns) (written_type a t) (no_values es) vs) a (new_variables_cover a (names_of ns) (written_type a t) (no_values es) vs)) g in
        (λ ww. mentions_all-alike a es m around g (second_of (marked_type_option around t) (marked_exprs around es) a m (first_of (marked_type_option around t ++ marked_exprs around es) (marked_specs (names_of ns ++ around) ss) a m h)) ww ++ beyond bs (mentions_specs-alike k ss l (names_of ns ++ around) q (kept (marked_specs (names_of ns ++ around) ss) bs a m (second_of (marked_type_option around t ++ marked_exprs around es) (marked_specs (names_of ns ++ around) ss) a m h)) ww))
        ∙ ap (λ d. let bs : Binds = binds_of (names_of ns) d in mentions_all (with_names a m) es ++ beyond bs (mentions_specs (extend bs (with_names a m)) ss)) (λ ww. new_variables a (names_of ns) (written_type-alike a t m around g (first_of (marked_type_option around t) (marked_exprs around es) a m (first_of (marked_type_option around t ++ marked_exprs around es) (marked_specs (names_of ns ++ around) ss) a m h)) ww) (no_values es) (right_values a (length ns) (places-alike a es m around g (second_of (marked_type_option around t) (marked_exprs around es) a m (first_of (marked_type_option around t ++ marked_exprs around es) (marked_specs (names_of ns ++ around) ss) a m h)) ww) (all_parts-alike a es m around g (second_of (marked_type_option around t) (marked_exprs around es) a m (first_of (marked_type_option around t ++ marked_exprs around es) (marked_specs (names_of ns ++ around) ss) a m h)) ww)))

  group_mentions-alike : (a : Env) (u : ValueSpecs S) (m : Environment Entity) (around : List (List ℕ)) → Agrees around a m → OnMarked (marked_specs around u) a m → group_mentions a u ≡ group_mentions (with_names a m) u
  group_mentions-alike a no_specs m around g h = λ ww. []
  group_mentions-alike a (spec _ ns t es ss) m around g h =
      let vs : Option (List Typed) = right_values a (length ns) (places a es) (all_parts a es) in
      let bs : Binds = binds_of (names_of ns) (new_variables a (names_of ns) (written_type a t) (no_values es) vs) in let k : Env = extend bs a in let l : Environment Entity = bs ++ m in
      let q : Agrees (names_of ns ++ around) k l = agrees_after (names_of ns) around bs a m (of_covers (names_of ns) (new_variables a (names_of ns) (written_type a t) (no_values es) vs) a (new_variables_cover a (names_of ns) (written_type a t) (no_values es) vs)) g in
      (λ ww. within_names (bound_names bs) (mentions_specs-alike k ss l (names_of ns ++ around) q (kept (marked_specs (names_of ns ++ around) ss) bs a m (second_of (marked_type_option around t ++ marked_exprs around es) (marked_specs (names_of ns ++ around) ss) a m h)) ww) ++ group_mentions-alike k ss l (names_of ns ++ around) q (kept (marked_specs (names_of ns ++ around) ss) bs a m (second_of (marked_type_option around t ++ marked_exprs around es) (marked_specs (names_of ns ++ around) ss) a m h)) ww)
      ∙ ap (λ d. let bs : Binds = binds_of (names_of ns) d in within_names (bound_names bs) (mentions_specs (extend bs (with_names a m)) ss) ++ group_mentions (extend bs (with_names a m)) ss) (λ ww. new_variables a (names_of ns) (written_type-alike a t m around g (first_of (marked_type_option around t) (marked_exprs around es) a m (first_of (marked_type_option around t ++ marked_exprs around es) (marked_specs (names_of ns ++ around) ss) a m h)) ww) (no_values es) (right_values a (length ns) (places-alike a es m around g (second_of (marked_type_option around t) (marked_exprs around es) a m (first_of (marked_type_option around t ++ marked_exprs around es) (marked_specs (names_of ns ++ around) ss) a m h)) ww) (all_parts-alike a es m around g (second_of (marked_type_option around t) (marked_exprs around es) a m (first_of (marked_type_option around t ++ marked_exprs around es) (marked_specs (names_of ns ++ around) ss) a m h)) ww)))

  pub own_mentions-alike : (a : Env) (u : Stmt S) (m : Environment Entity) (around : List (List ℕ)) → Agrees around a m → OnMarked (marked_stmt around u) a m → own_mentions a u ≡ own_mentions (with_names a m) u
  own_mentions-alike a (var_decl _ _ ss) m around g h = group_mentions-alike a ss m around g h
  own_mentions-alike a (label _ n s) m around g h = own_mentions-alike a s m around g h
  own_mentions-alike a s m around g h = λ ww. []
