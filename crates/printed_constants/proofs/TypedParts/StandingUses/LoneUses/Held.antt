-- What holds of the spans of a declaration holds of the names among its parts.
use Rattle.std.proofs.Common.{List, [], ◌∷◌, Option, Some, sym, subst}
use Rattle.go_tree.specs.declared.spans.Span.{Span}
use Rattle.go_tree.specs.Tree.{TypeExpr, Expr, ident, int_lit, rune_lit, str_lit, composite, selector, index, slice, call, func_lit, type_operand, unary, binary, star, Exprs, no_exprs, expr_and, ExprOption, no_expr, some_expr, Elems, no_elems, elem, Value, plain, braced, ValueOption, no_value, some_value, Stmt, const_decl, var_decl, empty, eval, step, assign, define, return_, break_, continue_, inner, if_, for_, range_, switch, defer, label, Stmts, no_stmts, stmt_and, StmtOption, no_stmt, some_stmt, BlockOption, no_block, some_block, RangeLeft, nothing, assigns, defines, Arms, no_arms, arm, Cases, no_cases, case, ValueSpecs, no_specs, spec}
use Rattle.go_tree.specs.File.{Decl, values, types, func}
use Rattle.run_rules.specs.Sites.{an_expr}
use Rattle.member_uses.specs.PossibleUses.Candidates.{plain_part, key_of}
use Rattle.member_uses.specs.PossibleUses.Written.{inner_written, keys_written}
use Rattle.member_uses.specs.PossibleUses.Parts.{put, after_arms, after_block_option, after_cases, after_decl, after_elems, after_expr, after_expr_option, after_exprs, after_key, after_left, after_receiver, after_sig, after_specs, after_stmt, after_stmt_option, after_stmts, after_type, after_type_option, after_value}
use Rattle.splice_laws.proofs.RunLaws.NodeSpans.{AllExpr, AllExprs, AllExprOption, AllElems, AllValue, AllValueOption, AllStmt, AllStmts, AllStmtOption, AllBlockOption, AllLeft, AllArms, AllCases, AllSpecs, AllDecl}
use Rattle.printed_constants.proofs.TypedParts.StandingUses.LoneUses.Grown.{C, All, Free, all_both, none_all, free_both}
use Rattle.printed_constants.proofs.TypedParts.StandingUses.LoneUses.Walk.{type_free, type_option_free, sig_free, types_free, receiver_free}

module _ (P : Span → Type 0) where
  one_more : (c : C) (xs : List C) → All P (c ∷ []) → All P xs → All P (put c xs)
  one_more c xs h k = all_both P xs (c ∷ []) k h

  past : {xs ys : List C} → Free xs ys → All P xs → All P ys
  past {xs = xs} f h = subst (All P) (sym f.is) (all_both P xs f.more h (none_all P f.more f.none))

  mutual
    expr : (e : Expr Span) (xs : List C) → AllExpr P e → All P xs → All P (after_expr e xs)
    expr (ident s n) xs h k = one_more (plain_part (an_expr (ident s n))) xs (h, tt) k
    expr (int_lit s n) xs h k = k
    expr (rune_lit s n) xs h k = k
    expr (str_lit s n) xs h k = k
    expr (composite s t es) xs h k = elems (Some t) es (after_type t xs) h.2 (past (type_free t xs) k)
    expr (selector s b n) xs h k = one_more (plain_part (an_expr (selector s b n))) (after_expr b xs) (h.0, tt) (expr b xs h.1 k)
    expr (index s b i) xs h k = expr i (after_expr b xs) h.2 (expr b xs h.1 k)
    expr (slice s b i j) xs h k = option j (after_expr_option i (after_expr b xs)) h.3 (option i (after_expr b xs) h.2 (expr b xs h.1 k))
    expr (call s f es r) xs h k = one_more (plain_part (an_expr (call s f es r))) (after_exprs es (after_expr f xs)) (tt, tt) (exprs es (after_expr f xs) h.2 (expr f xs h.1 k))
    expr (func_lit s g z b) xs h k = stmts b (after_sig g xs) h.2 (past (sig_free g xs) k)
    expr (type_operand s t) xs h k = past (type_free t xs) k
    expr (unary s o e) xs h k = expr e xs h.1 k
    expr (binary s o a b) xs h k = expr b (after_expr a xs) h.2 (expr a xs h.1 k)
    expr (star s e) xs h k = expr e xs h.1 k

    exprs : (es : Exprs Span) (xs : List C) → AllExprs P es → All P xs → All P (after_exprs es xs)
    exprs no_exprs xs h k = k
    exprs (expr_and e es) xs h k = exprs es (after_expr e xs) h.1 (expr e xs h.0 k)

    option : (e : ExprOption Span) (xs : List C) → AllExprOption P e → All P xs → All P (after_expr_option e xs)
    option no_expr xs h k = k
    option (some_expr e) xs h k = expr e xs h k

    elems : (w : Option (TypeExpr Span)) (es : Elems Span) (xs : List C) → AllElems P es → All P xs → All P (after_elems w es xs)
    elems w no_elems xs h k = k
    elems w (elem s q v es) xs h k =
        elems w es (after_value (inner_written w) v (after_key w q xs)) h.2 (value (inner_written w) v (after_key w q xs) h.1 (key w q xs h.0 k))

    key : (w : Option (TypeExpr Span)) (q : ValueOption Span) (xs : List C) → AllValueOption P q → All P xs → All P (after_key w q xs)
    key w no_value xs h k = k
    key w (some_value (plain (ident s n))) xs h k = one_more (key_of w (ident s n)) xs (h, tt) k
    key w (some_value (plain e)) xs h k = value (keys_written w) (plain e) xs h k
    key w (some_value (braced s es)) xs h k = value (keys_written w) (braced s es) xs h k

    value : (w : Option (TypeExpr Span)) (v : Value Span) (xs : List C) → AllValue P v → All P xs → All P (after_value w v xs)
    value w (plain e) xs h k = expr e xs h k
    value w (braced s es) xs h k = elems w es xs h k

    stmt : (s : Stmt Span) (xs : List C) → AllStmt P s → All P xs → All P (after_stmt s xs)
    stmt (const_decl s g ss) xs h k = specs ss xs h k
    stmt (var_decl s g ss) xs h k = specs ss xs h k
    stmt (empty s) xs h k = k
    stmt (eval s e) xs h k = expr e xs h.1 k
    stmt (step s e b) xs h k = expr e xs h k
    stmt (assign s ls o bs) xs h k = exprs bs (after_exprs ls xs) h.1 (exprs ls xs h.0 k)
    stmt (define s ns es) xs h k = exprs es xs h.1 k
    stmt (return_ s es) xs h k = exprs es xs h.1 k
    stmt (break_ s n) xs h k = k
    stmt (continue_ s n) xs h k = k
    stmt (inner s b) xs h k = stmts b xs h k
    stmt (if_ s bs z) xs h k = block z (after_arms bs xs) h.1 (arms bs xs h.0 k)
    stmt (for_ s i t q z b) xs h k =
        stmts b (after_stmt_option q (after_expr_option t (after_stmt_option i xs))) h.3 (first q (after_expr_option t (after_stmt_option i xs)) h.2 (option t (after_stmt_option i xs) h.1 (first i xs h.0 k)))
    stmt (range_ s x e z b) xs h k = stmts b (after_expr e (after_left x xs)) h.2 (expr e (after_left x xs) h.1 (left x xs h.0 k))
    stmt (switch s i t cs) xs h k = cases cs (after_expr_option t (after_stmt_option i xs)) h.2 (option t (after_stmt_option i xs) h.1 (first i xs h.0 k))
    stmt (defer s e) xs h k = expr e xs h k
    stmt (label s n x) xs h k = stmt x xs h k

    stmts : (ss : Stmts Span) (xs : List C) → AllStmts P ss → All P xs → All P (after_stmts ss xs)
    stmts no_stmts xs h k = k
    stmts (stmt_and s ss) xs h k = stmts ss (after_stmt s xs) h.1 (stmt s xs h.0 k)

    first : (s : StmtOption Span) (xs : List C) → AllStmtOption P s → All P xs → All P (after_stmt_option s xs)
    first no_stmt xs h k = k
    first (some_stmt s) xs h k = stmt s xs h k

    block : (z : BlockOption Span) (xs : List C) → AllBlockOption P z → All P xs → All P (after_block_option z xs)
    block no_block xs h k = k
    block (some_block s b) xs h k = stmts b xs h k

    left : (x : RangeLeft Span) (xs : List C) → AllLeft P x → All P xs → All P (after_left x xs)
    left nothing xs h k = k
    left (assigns es) xs h k = exprs es xs h k
    left (defines ns) xs h k = k

    arms : (bs : Arms Span) (xs : List C) → AllArms P bs → All P xs → All P (after_arms bs xs)
    arms no_arms xs h k = k
    arms (arm s i t z b r) xs h k = arms r (after_stmts b (after_expr t (after_stmt_option i xs))) h.1 (stmts b (after_expr t (after_stmt_option i xs)) h.0.2 (expr t (after_stmt_option i xs) h.0.1 (first i xs h.0.0 k)))

    cases : (cs : Cases Span) (xs : List C) → AllCases P cs → All P xs → All P (after_cases cs xs)
    cases no_cases xs h k = k
    cases (case s es b cs) xs h k = cases cs (after_stmts b (after_exprs es xs)) h.2 (stmts b (after_exprs es xs) h.1 (exprs es xs h.0 k))

    specs : (ss : ValueSpecs Span) (xs : List C) → AllSpecs P ss → All P xs → All P (after_specs ss xs)
    specs no_specs xs h k = k
    specs (spec s ns t es ss) xs h k = specs ss (after_exprs es (after_type_option t xs)) h.2 (exprs es (after_type_option t xs) h.1 (past (type_option_free t xs) k))

  pub decl_held : (d : Decl Span) (xs : List C) → AllDecl P d → All P xs → All P (after_decl d xs)
  decl_held (values (const_decl s g ss)) xs h k = specs ss xs h k
  decl_held (values (var_decl s g ss)) xs h k = specs ss xs h k
  decl_held (values s) xs h k = k
  decl_held (types s g ts) xs h k = past (types_free ts xs) k
  decl_held (func f) xs h k = stmts f.body (after_sig f.sig (after_receiver f.receiver xs)) h.2 (past (free_both (receiver_free f.receiver xs) (sig_free f.sig (after_receiver f.receiver xs))) k)
