-- The text of an expression and of a statement is cut into the pieces of its layout.
use Rattle.std.proofs.Common.{◌≡◌, ℕ, ◌+◌, Bool, true, false, ◌||◌, List, [], ◌∷◌, ◌++◌, Some, None, refl, sym}
use Rattle.std.specs.Prelude.{codes}
use Rattle.std.specs.Str.{chars}
use Rattle.go_tree.specs.Tree.{Expr, Exprs, ExprOption, Elems, Value, Stmt, Stmts, StmtOption, BlockOption, RangeLeft, Arms, Cases, ValueSpecs, ident, int_lit, rune_lit, str_lit, composite, selector, index, slice, call, func_lit, type_operand, unary, binary, star, no_exprs, expr_and, no_expr, some_expr, no_elems, elem, plain, braced, no_value, some_value, const_decl, var_decl, empty, eval, step, assign, define, return_, break_, continue_, inner, if_, for_, range_, switch, defer, label, no_stmts, stmt_and, no_stmt, some_stmt, no_block, some_block, nothing, assigns, defines, no_arms, arm, no_cases, case, no_specs, spec}
use Rattle.go_tree.specs.GoWords.Terminals.{level_of}
use Rattle.go_layout.specs.Layouts.{gap, op, key, deeper, ◌⊕◌}
use Rattle.go_tree.specs.GoWords.Operators.{binary_spelling, unary_spelling, assign_spelling}
use Rattle.go_layout.specs.TypeLayout.{names_layout, sig_layout}
use Rattle.go_layout.specs.Parens.{needs_parens, is_integer, runs_into, ends_in_integer, last_ends_in_integer}
use Rattle.go_layout.specs.TreeLayout.{closes, rest_layout, spaced, clause_indent, spec_type_layout, equals_before, spec_end, in_group, expr_layout, exprs_layout, option_layout, test_layout, elems_layout, value_layout, stmt_layout, stmts_layout, part_layout, post_layout, first_layout, arms_layout, last_layout, left_layout, cases_layout, specs_layout}
use Rattle.go_layout.specs.LayoutLaws.Formed.{FormedGroup, FormedExpr, FormedOption, FormedExprs, FormedElems, FormedValue, FormedStmt, FormedStmts, FormedPart, FormedArms, FormedBlock, FormedLeft, FormedCases, FormedSpecs}
use Rattle.go_layout.specs.LayoutLaws.LayoutPieces.{letters_of, due_of}
use Rattle.go_layout.specs.LayoutLaws.Laid.{is_indent, Laid}
use Rattle.go_layout.proofs.LayoutLaws.SpelledTypes.{U}
use Rattle.go_layout.proofs.LayoutLaws.NextTokens.{no_blank_first}
use Rattle.go_layout.proofs.LayoutLaws.LaidTokens.{name_laid, integer_laid, rune_laid, string_laid, keyword_laid, gap_laid, line_laid, paren_laid, bracket_laid, end_bracket_laid, brace_laid, end_brace_laid, comma_laid, semicolon_laid, increment_laid, decrement_laid, colon_laid, dot_laid, star_laid}
use Rattle.go_layout.proofs.LayoutLaws.Opens.{opens_no_blank, opens_no_equals, is_led, literal_type, operand_type, name_opens, name_after_dot, expr_opens}
use Rattle.go_layout.proofs.LayoutLaws.TreeOpens.{placed_opens, value_opens, elems_open}
use Rattle.go_layout.proofs.LayoutLaws.Due.{stmt_due, spec_due}
use Rattle.go_layout.proofs.LayoutLaws.LaidTypes.{ends_ok, ends_with, ends_with_dot, word_stop, ends_word, ends_no_dot, type_laid, sig_laid, names_laid, binary_spaced, assign_spaced, define_spaced}
use Rattle.go_layout.proofs.LayoutLaws.LaidPlaces.{here, block, ends_apart, bare_ends, args_laid, placed_laid, here_laid, undotted, sign_laid, stmts_start, block_laid, never}
use Rattle.go_layout.proofs.LayoutLaws.LaidParts.{clause_laid, key_func, key_const, key_var, key_return, key_break, key_continue, key_for, key_range, key_switch, key_defer, key_if, key_else, key_case, key_default, operand_starts, exprs_start, stmt_starts, option_starts, bound_no_equals, test_starts, post_starts, first_starts, left_starts, cases_start, spec_starts, spec_type_laid, equals_laid, before_values, before_type, group_laid, one_spec_starts}

mutual
  pub expr_laid : (e : Expr U) → FormedExpr e → (i : List ℕ) → is_indent i ≡ true → (h c d dotted : Bool) (more : List ℕ) → (dotted ≡ true → ends_in_integer h c e ≡ false) → ends_ok dotted more ≡ true → Laid (expr_layout i h c e) d more
  expr_laid (ident s n) f i sp h c d dotted more sel off = name_laid n more f (ends_word dotted more off)
  expr_laid (int_lit s n) f i sp h c d dotted more sel off = integer_laid n more f (ends_word dotted more off) (ends_no_dot more (undotted dotted more sel off))
  expr_laid (rune_lit s n) f i sp h c d dotted more sel off = rune_laid n more f
  expr_laid (str_lit s n) f i sp h c d dotted more sel off = string_laid n more f
  expr_laid (composite s t es) f i sp h c d dotted more sel off =
      let inside = letters_of (elems_layout i es) (125 ∷ more) in
      (type_laid t (123 ∷ inside) d (literal_type t f.0) (word_stop 123 inside refl), (brace_laid inside, (elems_laid es f.1 i sp false (125 ∷ more) (ends_with false 125 more refl), end_brace_laid more)))
  expr_laid (selector s e n) f i sp h c d dotted more sel off =
      let rest = chars n.name ++ more in (
        placed_laid e (needs_parens 7 h false e || is_integer e) i h false d true (46 ∷ rest) sp (expr_laid e f.1) (λ x y. ends_apart e h x) (ends_with_dot rest),
        (dot_laid rest (name_after_dot n.name more f.2), name_laid n.name more f.2 (ends_word dotted more off)),
      )
  expr_laid (index s e at) f i sp h c d dotted more sel off =
      let inside = letters_of (here i 1 false false at) (93 ∷ more) in (
        here_laid e (needs_parens 7 h false e) i h false d (91 ∷ inside) sp (expr_laid e f.1) (ends_with false 91 inside refl),
        (bracket_laid inside, (here_laid at (needs_parens 1 false false at) i false false false (93 ∷ more) sp (expr_laid at f.3) (ends_with false 93 more refl), end_bracket_laid more)),
      )
  expr_laid (slice s e from to) f i sp h c d dotted more sel off =
      let second = letters_of (option_layout i false to) (93 ∷ more) in
      let first = letters_of (option_layout i false from) (58 ∷ second) in (
        here_laid e (needs_parens 7 h false e) i h false d (91 ∷ first) sp (expr_laid e f.1) (ends_with false 91 first refl),
        (
          bracket_laid first,
          (
            option_laid from f.2 i sp false false (58 ∷ second) (ends_with false 58 second refl),
            (colon_laid second (bound_no_equals to i (93 ∷ more) f.3 refl), (option_laid to f.3 i sp false false (93 ∷ more) (ends_with false 93 more refl), end_bracket_laid more)),
          ),
        ),
      )
  expr_laid (call s e xs rest) f i sp h c d dotted more sel off =
      let inside = letters_of (exprs_layout i false (closes rest) xs ⊕ rest_layout rest xs) (41 ∷ more) in (
        here_laid e (needs_parens 7 h true e) i h true d (40 ∷ inside) sp (expr_laid e f.0) (ends_with false 40 inside refl),
        (paren_laid inside, args_laid rest xs i false more f.2 (exprs_laid xs f.1 i sp false (closes rest) false)),
      )
  expr_laid (func_lit s g sb body) f i sp h c d dotted more sel off =
      let rest = letters_of (block i body) more in
      (keyword_laid (codes "func") (letters_of (sig_layout g) (32 ∷ rest)) key_func (word_stop 40 [] refl), (sig_laid false g (32 ∷ rest) false f.0 (word_stop 32 rest refl), (gap_laid rest refl, block_laid i body more (due_of (sig_layout g) false) sp f.1 (stmts_laid body f.1))))
  expr_laid (type_operand s t) f i sp h c d dotted more sel off = type_laid t more d (operand_type t f) (ends_word dotted more off)
  expr_laid (unary s o e) f i sp h c d dotted more sel off =
      (sign_laid o e i h c more f.1, placed_laid e (needs_parens 6 h c e || runs_into o e) i h c (due_of (op (unary_spelling o)) d) dotted more sp (expr_laid e f.1) (λ x y. bare_ends (needs_parens 6 h c e || runs_into o e) (ends_in_integer h c e) x (sel y)) off)
  expr_laid (binary s o a b) f i sp h c d dotted more sel off =
      let rest = letters_of (here i (level_of o + 1) h c b) more in (
        here_laid a (needs_parens (level_of o) h false a) i h false d (32 ∷ letters_of (op (binary_spelling o) ⊕ gap) rest) sp (expr_laid a f.1) (ends_with false 32 [] refl),
        (
          binary_spaced o rest (due_of (here i (level_of o) h false a) d) (operand_starts b (needs_parens (level_of o + 1) h c b) i h c more f.3),
          placed_laid b (needs_parens (level_of o + 1) h c b) i h c (due_of (spaced (binary_spelling o)) (due_of (here i (level_of o) h false a) d)) dotted more sp (expr_laid b f.3) (λ x y. bare_ends (needs_parens (level_of o + 1) h c b) (ends_in_integer h c b) x (sel y)) off,
        ),
      )
  expr_laid (star s e) f i sp h c d dotted more sel off =
      let rest = letters_of (here i 6 h c e) more in
      (star_laid rest (opens_no_equals false rest (placed_opens e (needs_parens 6 h c e) i h c more f.1)), placed_laid e (needs_parens 6 h c e) i h c false dotted more sp (expr_laid e f.1) (λ x y. bare_ends (needs_parens 6 h c e) (ends_in_integer h c e) x (sel y)) off)

  exprs_laid : (xs : Exprs U) → FormedExprs xs → (i : List ℕ) → is_indent i ≡ true → (h c d dotted : Bool) (more : List ℕ) → (dotted ≡ true → last_ends_in_integer h c xs ≡ false) → ends_ok dotted more ≡ true → Laid (exprs_layout i h c xs) d more
  exprs_laid no_exprs f i sp h c d dotted more sel off = tt
  exprs_laid (expr_and e no_exprs) f i sp h c d dotted more sel off =
      (placed_laid e (needs_parens 1 h c e) i h c d dotted more sp (expr_laid e f.1) (λ x y. bare_ends (needs_parens 1 h c e) (ends_in_integer h c e) x (sel y)) off, (tt, tt))
  exprs_laid (expr_and e (expr_and e2 es)) f i sp h c d dotted more sel off =
      let rest = letters_of (exprs_layout i h c (expr_and e2 es)) more in (
        here_laid e (needs_parens 1 h true e) i h true d (44 ∷ 32 ∷ rest) sp (expr_laid e f.1) (ends_with false 44 rest refl),
        ((comma_laid (32 ∷ rest), gap_laid rest (exprs_start (expr_and e2 es) i h c more f.2 tt)), exprs_laid (expr_and e2 es) f.2 i sp h c false dotted more sel off),
      )

  option_laid : (o : ExprOption U) → FormedOption o → (i : List ℕ) → is_indent i ≡ true → (h d : Bool) (more : List ℕ) → ends_ok false more ≡ true → Laid (option_layout i h o) d more
  option_laid no_expr f i sp h d more off = tt
  option_laid (some_expr e) f i sp h d more off = here_laid e (needs_parens 1 h false e) i h false d more sp (expr_laid e f.1) off

  test_laid : (o : ExprOption U) → FormedOption o → (i : List ℕ) → is_indent i ≡ true → (d : Bool) (more : List ℕ) → no_blank_first more ≡ true → Laid (test_layout i o) d more
  test_laid no_expr f i sp d more off = tt
  test_laid (some_expr e) f i sp d more off = (here_laid e (needs_parens 1 true false e) i true false d (32 ∷ more) sp (expr_laid e f.1) (ends_with false 32 more refl), gap_laid more off)

  elems_laid : (es : Elems U) → FormedElems es → (i : List ℕ) → is_indent i ≡ true → (d : Bool) (more : List ℕ) → ends_ok false more ≡ true → Laid (elems_layout i es) d more
  elems_laid no_elems f i sp d more off = tt
  elems_laid (elem s no_value v no_elems) f i sp d more off = (tt, (value_laid v f.1 i sp false d more off, (tt, tt)))
  elems_laid (elem s no_value v (elem s2 k2 v2 es)) f i sp d more off =
      let rest = letters_of (elems_layout i (elem s2 k2 v2 es)) more in
      (tt, (value_laid v f.1 i sp true d (44 ∷ 32 ∷ rest) (ends_with false 44 rest refl), ((comma_laid (32 ∷ rest), gap_laid rest (opens_no_blank false rest (elems_open s2 k2 v2 es i more f.2))), elems_laid (elem s2 k2 v2 es) f.2 i sp false more off)))
  elems_laid (elem s (some_value k) v no_elems) f i sp d more off =
      let rest = letters_of (value_layout i false v) more in (
        (value_laid k f.0 i sp false d (58 ∷ 32 ∷ rest) (ends_with false 58 rest refl), (colon_laid (32 ∷ rest) refl, gap_laid rest (opens_no_blank false rest (value_opens v i false more f.1)))),
        (value_laid v f.1 i sp false false more off, (tt, tt)),
      )
  elems_laid (elem s (some_value k) v (elem s2 k2 v2 es)) f i sp d more off =
      let others = letters_of (elems_layout i (elem s2 k2 v2 es)) more in
      let rest = letters_of (value_layout i true v) (44 ∷ 32 ∷ others) in (
        (value_laid k f.0 i sp false d (58 ∷ 32 ∷ rest) (ends_with false 58 rest refl), (colon_laid (32 ∷ rest) refl, gap_laid rest (opens_no_blank false rest (value_opens v i true (44 ∷ 32 ∷ others) f.1)))),
        (value_laid v f.1 i sp true false (44 ∷ 32 ∷ others) (ends_with false 44 others refl), ((comma_laid (32 ∷ others), gap_laid others (opens_no_blank false others (elems_open s2 k2 v2 es i more f.2))), elems_laid (elem s2 k2 v2 es) f.2 i sp false more off)),
      )

  value_laid : (v : Value U) → FormedValue v → (i : List ℕ) → is_indent i ≡ true → (c d : Bool) (more : List ℕ) → ends_ok false more ≡ true → Laid (value_layout i c v) d more
  value_laid (plain e) f i sp c d more off = here_laid e (needs_parens 1 false c e) i false c d more sp (expr_laid e f.1) off
  value_laid (braced s es) f i sp c d more off =
      let inside = letters_of (elems_layout i es) (125 ∷ more) in (brace_laid inside, (elems_laid es f i sp false (125 ∷ more) (ends_with false 125 more refl), end_brace_laid more))

  pub stmt_laid : (x : Stmt U) → FormedStmt x → (i : List ℕ) → is_indent i ≡ true → (h d : Bool) (more : List ℕ) → ends_ok false more ≡ true → Laid (stmt_layout i h x) d more
  stmt_laid (const_decl s false ss) f i sp h d more off =
      let rest = letters_of (specs_layout i None ss) more in
      (keyword_laid (codes "const") (32 ∷ rest) key_const (word_stop 32 rest refl), (gap_laid rest (one_spec_starts ss true i more f.0 f.1), one_spec_laid ss true f.1 f.0 i sp false more off))
  stmt_laid (const_decl s true ss) f i sp h d more off =
      let rest = letters_of (in_group i true ss (specs_layout (deeper i) (Some i) ss)) more in
      (keyword_laid (codes "const") (32 ∷ rest) key_const (word_stop 32 rest refl), (gap_laid rest refl, group_laid i true ss more false sp f.1 (specs_laid ss true f.1)))
  stmt_laid (var_decl s false ss) f i sp h d more off =
      let rest = letters_of (specs_layout i None ss) more in
      (keyword_laid (codes "var") (32 ∷ rest) key_var (word_stop 32 rest refl), (gap_laid rest (one_spec_starts ss false i more f.0 f.1), one_spec_laid ss false f.1 f.0 i sp false more off))
  stmt_laid (var_decl s true ss) f i sp h d more off =
      let rest = letters_of (in_group i true ss (specs_layout (deeper i) (Some i) ss)) more in
      (keyword_laid (codes "var") (32 ∷ rest) key_var (word_stop 32 rest refl), (gap_laid rest refl, group_laid i false ss more false sp f.1 (specs_laid ss false f.1)))
  stmt_laid (empty s) f i sp h d more off = semicolon_laid more
  stmt_laid (eval s e) f i sp h d more off = here_laid e (needs_parens 1 h false e) i h false d more sp (expr_laid e f.1) off
  stmt_laid (step s e true) f i sp h d more off = (here_laid e (needs_parens 1 h false e) i h false d (43 ∷ 43 ∷ more) sp (expr_laid e f.1) (ends_with false 43 [] refl), increment_laid more)
  stmt_laid (step s e false) f i sp h d more off = (here_laid e (needs_parens 1 h false e) i h false d (45 ∷ 45 ∷ more) sp (expr_laid e f.1) (ends_with false 45 [] refl), decrement_laid more)
  stmt_laid (assign s xs o ys) f i sp h d more off =
      let rest = letters_of (exprs_layout i h false ys) more in (
        exprs_laid xs f.1 i sp h false d false (letters_of (spaced (assign_spelling o)) rest) (λ q. never q) (ends_with false 32 [] refl),
        (assign_spaced o rest (due_of (exprs_layout i h false xs) d) f.2 (exprs_start ys i h false more f.4 f.3), exprs_laid ys f.4 i sp h false (due_of (spaced (assign_spelling o)) (due_of (exprs_layout i h false xs) d)) false more (λ q. never q) off),
      )
  stmt_laid (define s ns ys) f i sp h d more off =
      let rest = letters_of (exprs_layout i h false ys) more in
      (names_laid ns (letters_of (spaced (codes ":=")) rest) d f.1 (word_stop 32 [] refl), (define_spaced rest (due_of (names_layout ns) d) (exprs_start ys i h false more f.3 f.2), exprs_laid ys f.3 i sp h false false false more (λ q. never q) off))
  stmt_laid (return_ s no_exprs) f i sp h d more off = (keyword_laid (codes "return") more key_return (ends_word false more off), (tt, tt))
  stmt_laid (return_ s (expr_and e es)) f i sp h d more off =
      let rest = letters_of (exprs_layout i false false (expr_and e es)) more in
      (keyword_laid (codes "return") (32 ∷ rest) key_return (word_stop 32 rest refl), (gap_laid rest (exprs_start (expr_and e es) i false false more f tt), exprs_laid (expr_and e es) f i sp false false true false more (λ q. never q) off))
  stmt_laid (break_ s None) f i sp h d more off = (keyword_laid (codes "break") more key_break (ends_word false more off), tt)
  stmt_laid (break_ s (Some n)) f i sp h d more off =
      let rest = chars n.name ++ more in (keyword_laid (codes "break") (32 ∷ rest) key_break (word_stop 32 rest refl), (gap_laid rest (opens_no_blank true rest (name_opens n.name more f)), name_laid n.name more f (ends_word false more off)))
  stmt_laid (continue_ s None) f i sp h d more off = (keyword_laid (codes "continue") more key_continue (ends_word false more off), tt)
  stmt_laid (continue_ s (Some n)) f i sp h d more off =
      let rest = chars n.name ++ more in (keyword_laid (codes "continue") (32 ∷ rest) key_continue (word_stop 32 rest refl), (gap_laid rest (opens_no_blank true rest (name_opens n.name more f)), name_laid n.name more f (ends_word false more off)))
  stmt_laid (inner s body) f i sp h d more off = block_laid i body more d sp f (stmts_laid body f)
  stmt_laid (if_ s arms last) f i sp h d more off = (arms_laid arms f.1 i sp d (letters_of (last_layout i last) more), last_laid last f.2 i sp (due_of (arms_layout i arms) d) more)
  stmt_laid (for_ s no_stmt t no_stmt sb body) f i sp h d more off =
      let braces = letters_of (block i body) more in let rest = letters_of (test_layout i t) braces in
      (keyword_laid (codes "for") (32 ∷ rest) key_for (word_stop 32 rest refl), (gap_laid rest (test_starts t i braces f.1 refl), (test_laid t f.1 i sp false braces refl, block_laid i body more (due_of (test_layout i t) false) sp f.3 (stmts_laid body f.3))))
  stmt_laid (for_ s (some_stmt x) t p sb body) f i sp h d more off =
      let braces = letters_of (block i body) more in let third = letters_of (post_layout i p) braces in let second = letters_of (option_layout i true t) (59 ∷ 32 ∷ third) in let first = letters_of (stmt_layout i true x) (59 ∷ 32 ∷ second) in (
        keyword_laid (codes "for") (32 ∷ first) key_for (word_stop 32 first refl),
        (
          gap_laid first (stmt_starts x i true (59 ∷ 32 ∷ second) f.0.1),
          (
            part_laid (some_stmt x) f.0 i sp false (59 ∷ 32 ∷ second) (ends_with false 59 [] refl),
            (
              semicolon_laid (32 ∷ second),
              (
                gap_laid second (option_starts t i true (59 ∷ 32 ∷ third) f.1 refl),
                (
                  option_laid t f.1 i sp true false (59 ∷ 32 ∷ third) (ends_with false 59 [] refl),
                  (
                    semicolon_laid (32 ∷ third),
                    (
                      gap_laid third (post_starts p i braces f.2 refl),
                      (post_laid p f.2 i sp false braces refl, block_laid i body more (due_of (post_layout i p) false) sp f.3 (stmts_laid body f.3)),
                    ),
                  ),
                ),
              ),
            ),
          ),
        ),
      )
  stmt_laid (for_ s no_stmt t (some_stmt p) sb body) f i sp h d more off =
      let braces = letters_of (block i body) more in let third = letters_of (post_layout i (some_stmt p)) braces in let second = letters_of (option_layout i true t) (59 ∷ 32 ∷ third) in (
        keyword_laid (codes "for") (32 ∷ 59 ∷ 32 ∷ second) key_for (word_stop 32 [] refl),
        (
          gap_laid (59 ∷ 32 ∷ second) refl,
          (
            tt,
            (
              semicolon_laid (32 ∷ second),
              (
                gap_laid second (option_starts t i true (59 ∷ 32 ∷ third) f.1 refl),
                (
                  option_laid t f.1 i sp true false (59 ∷ 32 ∷ third) (ends_with false 59 [] refl),
                  (
                    semicolon_laid (32 ∷ third),
                    (
                      gap_laid third (post_starts (some_stmt p) i braces f.2 refl),
                      (post_laid (some_stmt p) f.2 i sp false braces refl, block_laid i body more (due_of (post_layout i (some_stmt p)) false) sp f.3 (stmts_laid body f.3)),
                    ),
                  ),
                ),
              ),
            ),
          ),
        ),
      )
  stmt_laid (range_ s left e sb body) f i sp h d more off =
      let braces = letters_of (block i body) more in let over = letters_of (here i 1 true false e) (32 ∷ braces) in let ranged = letters_of (key (codes "range")) (32 ∷ over) in let rest = letters_of (left_layout i left) ranged in (
        keyword_laid (codes "for") (32 ∷ rest) key_for (word_stop 32 rest refl),
        (
          gap_laid rest (left_starts left i ranged f.0 refl),
          (
            left_laid left f.0 i sp false ranged refl,
            (
              keyword_laid (codes "range") (32 ∷ over) key_range (word_stop 32 over refl),
              (
                gap_laid over (operand_starts e (needs_parens 1 true false e) i true false (32 ∷ braces) f.2),
                (here_laid e (needs_parens 1 true false e) i true false false (32 ∷ braces) sp (expr_laid e f.2) (ends_with false 32 [] refl), (gap_laid braces refl, block_laid i body more (due_of (here i 1 true false e) false) sp f.3 (stmts_laid body f.3))),
              ),
            ),
          ),
        ),
      )
  stmt_laid (switch s first t no_cases) f i sp h d more off =
      let braces = 123 ∷ 125 ∷ more in let tag = letters_of (test_layout i t) braces in let rest = letters_of (first_layout i first) tag in (
        keyword_laid (codes "switch") (32 ∷ rest) key_switch (word_stop 32 rest refl),
        (
          gap_laid rest (first_starts first i tag f.0 (test_starts t i braces f.1 refl)),
          (first_laid first f.0 i sp false tag (test_starts t i braces f.1 refl), (test_laid t f.1 i sp (due_of (first_layout i first) false) braces refl, (brace_laid (125 ∷ more), (tt, (tt, end_brace_laid more))))),
        ),
      )
  stmt_laid (switch s first t (case s2 xs body cs)) f i sp h d more off =
      let inside = letters_of (cases_layout i (case s2 xs body cs)) (125 ∷ more) in let braces = 123 ∷ 10 ∷ (i ++ inside) in let tag = letters_of (test_layout i t) braces in let rest = letters_of (first_layout i first) tag in (
        keyword_laid (codes "switch") (32 ∷ rest) key_switch (word_stop 32 rest refl),
        (
          gap_laid rest (first_starts first i tag f.0 (test_starts t i braces f.1 refl)),
          (
            first_laid first f.0 i sp false tag (test_starts t i braces f.1 refl),
            (
              test_laid t f.1 i sp (due_of (first_layout i first) false) braces refl,
              (
                brace_laid (10 ∷ (i ++ inside)),
                ((refl, line_laid i inside sp (cases_start (case s2 xs body cs) i (125 ∷ more) refl)), (cases_laid (case s2 xs body cs) f.2 i sp false (125 ∷ more) refl, end_brace_laid more)),
              ),
            ),
          ),
        ),
      )
  stmt_laid (defer s e) f i sp h d more off =
      let rest = letters_of (expr_layout i false false e) more in
      (keyword_laid (codes "defer") (32 ∷ rest) key_defer (word_stop 32 rest refl), (gap_laid rest (opens_no_blank (is_led e) rest (expr_opens e f.1 i false false more)), expr_laid e f.1 i sp false false false false more (λ q. never q) off))
  stmt_laid (label s n x) f i sp h d more off =
      let rest = letters_of (stmt_layout i false x) more in
      (name_laid n.name (58 ∷ 10 ∷ (i ++ rest)) f.0 (word_stop 58 [] refl), (colon_laid (10 ∷ (i ++ rest)) refl, ((refl, line_laid i rest sp (stmt_starts x i false more f.1)), stmt_laid x f.1 i sp false false more off)))

  pub stmts_laid : (xs : Stmts U) → FormedStmts xs → (i o : List ℕ) (d : Bool) (more : List ℕ) → is_indent i ≡ true → is_indent o ≡ true → no_blank_first more ≡ true → Laid (stmts_layout i (Some o) xs) d more
  stmts_laid no_stmts f i o d more sp so off = tt
  stmts_laid (stmt_and x no_stmts) f i o d more sp so off =
      (stmt_laid x f.0 i sp false d (10 ∷ (o ++ more)) (ends_with false 10 [] refl), ((sym (stmt_due x f.0 i false d), line_laid o more so off), tt))
  stmts_laid (stmt_and x (stmt_and y xs)) f i o d more sp so off =
      let rest = letters_of (stmts_layout i (Some o) (stmt_and y xs)) more in
      (stmt_laid x f.0 i sp false d (10 ∷ (i ++ rest)) (ends_with false 10 [] refl), ((sym (stmt_due x f.0 i false d), line_laid i rest sp (stmts_start y xs i (Some o) more f.1)), stmts_laid (stmt_and y xs) f.1 i o false more sp so off))

  part_laid : (o : StmtOption U) → FormedPart o → (i : List ℕ) → is_indent i ≡ true → (d : Bool) (more : List ℕ) → ends_ok false more ≡ true → Laid (part_layout i o) d more
  part_laid no_stmt f i sp d more off = tt
  part_laid (some_stmt x) f i sp d more off = stmt_laid x f.1 i sp true d more off

  post_laid : (o : StmtOption U) → FormedPart o → (i : List ℕ) → is_indent i ≡ true → (d : Bool) (more : List ℕ) → no_blank_first more ≡ true → Laid (post_layout i o) d more
  post_laid no_stmt f i sp d more off = tt
  post_laid (some_stmt x) f i sp d more off = (stmt_laid x f.1 i sp true d (32 ∷ more) (ends_with false 32 more refl), gap_laid more off)

  first_laid : (o : StmtOption U) → FormedPart o → (i : List ℕ) → is_indent i ≡ true → (d : Bool) (more : List ℕ) → no_blank_first more ≡ true → Laid (first_layout i o) d more
  first_laid no_stmt f i sp d more off = tt
  first_laid (some_stmt x) f i sp d more off = (stmt_laid x f.1 i sp true d (59 ∷ 32 ∷ more) (ends_with false 59 [] refl), (semicolon_laid (32 ∷ more), gap_laid more off))

  last_laid : (o : BlockOption U) → FormedBlock o → (i : List ℕ) → is_indent i ≡ true → (d : Bool) (more : List ℕ) → Laid (last_layout i o) d more
  last_laid no_block f i sp d more = tt
  last_laid (some_block sb body) f i sp d more =
      let braces = letters_of (block i body) more in
      (gap_laid (letters_of (key (codes "else")) (32 ∷ braces)) refl, (keyword_laid (codes "else") (32 ∷ braces) key_else (word_stop 32 braces refl), (gap_laid braces refl, block_laid i body more false sp f (stmts_laid body f))))

  arms_laid : (arms : Arms U) → FormedArms arms → (i : List ℕ) → is_indent i ≡ true → (d : Bool) (more : List ℕ) → Laid (arms_layout i arms) d more
  arms_laid no_arms f i sp d more = tt
  arms_laid (arm s first t sb body no_arms) f i sp d more =
      let braces = letters_of (block i body) more in let test = letters_of (here i 1 true false t) (32 ∷ braces) in let rest = letters_of (first_layout i first) test in
      let starts = operand_starts t (needs_parens 1 true false t) i true false (32 ∷ braces) f.2 in (
        keyword_laid (codes "if") (32 ∷ rest) key_if (word_stop 32 rest refl),
        (
          gap_laid rest (first_starts first i test f.0 starts),
          (
            first_laid first f.0 i sp false test starts,
            (
              here_laid t (needs_parens 1 true false t) i true false (due_of (first_layout i first) false) (32 ∷ braces) sp (expr_laid t f.2) (ends_with false 32 [] refl),
              (
                gap_laid braces refl,
                (block_laid i body more (due_of (here i 1 true false t) (due_of (first_layout i first) false)) sp f.3 (stmts_laid body f.3), (tt, tt)),
              ),
            ),
          ),
        ),
      )
  arms_laid (arm s first t sb body (arm s2 first2 t2 sb2 body2 arms)) f i sp d more =
      let others = letters_of (arms_layout i (arm s2 first2 t2 sb2 body2 arms)) more in let between = 32 ∷ letters_of (key (codes "else")) (32 ∷ others) in
      let braces = letters_of (block i body) between in let test = letters_of (here i 1 true false t) (32 ∷ braces) in let rest = letters_of (first_layout i first) test in
      let starts = operand_starts t (needs_parens 1 true false t) i true false (32 ∷ braces) f.2 in (
        keyword_laid (codes "if") (32 ∷ rest) key_if (word_stop 32 rest refl),
        (
          gap_laid rest (first_starts first i test f.0 starts),
          (
            first_laid first f.0 i sp false test starts,
            (
              here_laid t (needs_parens 1 true false t) i true false (due_of (first_layout i first) false) (32 ∷ braces) sp (expr_laid t f.2) (ends_with false 32 [] refl),
              (
                gap_laid braces refl,
                (
                  block_laid i body between (due_of (here i 1 true false t) (due_of (first_layout i first) false)) sp f.3 (stmts_laid body f.3),
                  (
                    (gap_laid (letters_of (key (codes "else")) (32 ∷ others)) refl, (keyword_laid (codes "else") (32 ∷ others) key_else (word_stop 32 others refl), gap_laid others refl)),
                    arms_laid (arm s2 first2 t2 sb2 body2 arms) f.4 i sp false more,
                  ),
                ),
              ),
            ),
          ),
        ),
      )

  left_laid : (left : RangeLeft U) → FormedLeft left → (i : List ℕ) → is_indent i ≡ true → (d : Bool) (more : List ℕ) → no_blank_first more ≡ true → Laid (left_layout i left) d more
  left_laid nothing f i sp d more off = tt
  left_laid (assigns xs) f i sp d more off = (exprs_laid xs f.1 i sp true false d false (letters_of (spaced (codes "=")) more) (λ q. never q) (ends_with false 32 [] refl), assign_spaced None more (due_of (exprs_layout i true false xs) d) refl off)
  left_laid (defines ns) f i sp d more off = (names_laid ns (letters_of (spaced (codes ":=")) more) d f.1 (word_stop 32 [] refl), define_spaced more (due_of (names_layout ns) d) off)

  cases_laid : (cs : Cases U) → FormedCases cs → (i : List ℕ) → is_indent i ≡ true → (d : Bool) (more : List ℕ) → no_blank_first more ≡ true → Laid (cases_layout i cs) d more
  cases_laid no_cases f i sp d more off = tt
  cases_laid (case s no_exprs body cs) f i sp d more off =
      let inside = letters_of (stmts_layout (deeper i) (Some i) body ⊕ cases_layout i cs) more in (
        keyword_laid (codes "default") (58 ∷ 10 ∷ (clause_indent i body ++ inside)) key_default (word_stop 58 [] refl),
        (tt, clause_laid i body cs false more sp f.1 off (stmts_laid body f.1) (λ d2. cases_laid cs f.2 i sp d2 more off)),
      )
  cases_laid (case s (expr_and e es) body cs) f i sp d more off =
      let inside = letters_of (stmts_layout (deeper i) (Some i) body ⊕ cases_layout i cs) more in
      let values = letters_of (exprs_layout i false false (expr_and e es)) (58 ∷ 10 ∷ (clause_indent i body ++ inside)) in (
        (keyword_laid (codes "case") (32 ∷ values) key_case (word_stop 32 values refl), gap_laid values (exprs_start (expr_and e es) i false false (58 ∷ 10 ∷ (clause_indent i body ++ inside)) f.0 tt)),
        (
          exprs_laid (expr_and e es) f.0 i sp false false false false (58 ∷ 10 ∷ (clause_indent i body ++ inside)) (λ q. never q) (ends_with false 58 [] refl),
          clause_laid i body cs false more sp f.1 off (stmts_laid body f.1) (λ d2. cases_laid cs f.2 i sp d2 more off),
        ),
      )

  one_spec_laid : (ss : ValueSpecs U) (constant : Bool) → FormedSpecs constant ss → FormedGroup false ss → (i : List ℕ) → is_indent i ≡ true → (d : Bool) (more : List ℕ) → ends_ok false more ≡ true → Laid (specs_layout i None ss) d more
  one_spec_laid no_specs constant f one i sp d more off = absurd one
  one_spec_laid (spec s ns t xs (spec _ _ _ _ _)) constant f one i sp d more off = absurd one
  one_spec_laid (spec s ns t xs no_specs) constant f one i sp d more off =
      let values = letters_of (equals_before xs) (letters_of (exprs_layout i false false xs) more) in let stops = before_values xs i more (ends_word false more off) in let d1 = due_of (names_layout ns) d in let d2 = due_of (spec_type_layout t) d1 in (
        names_laid ns (letters_of (spec_type_layout t) values) d f.1 (before_type t values stops),
        (
          spec_type_laid t values d1 f.2 stops,
          (equals_laid xs i more d2 f.3, (exprs_laid xs f.3 i sp false false (due_of (equals_before xs) d2) false more (λ q. never q) off, (tt, tt))),
        ),
      )

  pub specs_laid : (ss : ValueSpecs U) (constant : Bool) → FormedSpecs constant ss → (i o : List ℕ) (d : Bool) (more : List ℕ) → is_indent i ≡ true → is_indent o ≡ true → no_blank_first more ≡ true → Laid (specs_layout i (Some o) ss) d more
  specs_laid no_specs constant f i o d more sp so off = tt
  specs_laid (spec s ns t xs no_specs) constant f i o d more sp so off =
      let rest = 10 ∷ (o ++ more) in
      let values = letters_of (equals_before xs) (letters_of (exprs_layout i false false xs) rest) in let stops = before_values xs i rest (word_stop 10 [] refl) in let d1 = due_of (names_layout ns) d in let d2 = due_of (spec_type_layout t) d1 in (
        names_laid ns (letters_of (spec_type_layout t) values) d f.1 (before_type t values stops),
        (
          spec_type_laid t values d1 f.2 stops,
          (equals_laid xs i rest d2 f.3, (exprs_laid xs f.3 i sp false false (due_of (equals_before xs) d2) false rest (λ q. never q) (ends_with false 10 [] refl), ((sym (spec_due constant ns t xs i d f.0 f.4), line_laid o more so off), tt))),
        ),
      )
  specs_laid (spec s ns t xs (spec s2 ns2 t2 xs2 ss)) constant f i o d more sp so off =
      let others = letters_of (specs_layout i (Some o) (spec s2 ns2 t2 xs2 ss)) more in let rest = 10 ∷ (i ++ others) in
      let after = letters_of (spec_type_layout t2 ⊕ equals_before xs2 ⊕ exprs_layout i false false xs2 ⊕ spec_end i (Some o) ss ⊕ specs_layout i (Some o) ss) more in
      let values = letters_of (equals_before xs) (letters_of (exprs_layout i false false xs) rest) in let stops = before_values xs i rest (word_stop 10 [] refl) in let d1 = due_of (names_layout ns) d in let d2 = due_of (spec_type_layout t) d1 in (
        names_laid ns (letters_of (spec_type_layout t) values) d f.1 (before_type t values stops),
        (
          spec_type_laid t values d1 f.2 stops,
          (
            equals_laid xs i rest d2 f.3,
            (
              exprs_laid xs f.3 i sp false false (due_of (equals_before xs) d2) false rest (λ q. never q) (ends_with false 10 [] refl),
              (
                (sym (spec_due constant ns t xs i d f.0 f.4), line_laid i others sp (spec_starts ns2 after f.5.0 f.5.1)),
                specs_laid (spec s2 ns2 t2 xs2 ss) constant f.5 i o false more sp so off,
              ),
            ),
          ),
        ),
      )
