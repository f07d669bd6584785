-- Keywords of statements, and how the parts of statements begin.
use Rattle.std.proofs.Common.{◌≡◌, ℕ, Bool, true, false, List, [], ◌∷◌, ◌++◌, Option, Some, None, refl}
use Rattle.std.specs.Prelude.{codes}
use Rattle.go_tree.specs.Tree.{NameAt, TypeExpr, Expr, Exprs, ExprOption, Stmt, Stmts, StmtOption, RangeLeft, Cases, ValueSpecs, no_exprs, expr_and, no_expr, some_expr, no_stmts, stmt_and, no_stmt, some_stmt, nothing, assigns, defines, no_cases, case, no_specs, spec}
use Rattle.go_tree.specs.GoWords.Tokens.Pieces.{no_word_first}
use Rattle.go_layout.specs.Layouts.{line, op, within, deeper, ◌⊕◌}
use Rattle.go_layout.specs.TypeLayout.{names_layout, type_layout}
use Rattle.go_layout.specs.Parens.{needs_parens, header_within, closed_within}
use Rattle.go_layout.specs.TreeLayout.{spaced, in_group, clause_indent, expr_layout, exprs_layout, option_layout, test_layout, stmt_layout, stmts_layout, part_layout, post_layout, first_layout, left_layout, cases_layout, specs_layout, spec_type_layout, equals_before, spec_end}
use Rattle.go_layout.specs.LayoutLaws.Formed.{HasNames, HasExprs, FormedGroup, FormedNames, FormedTypeOption, FormedExpr, FormedExprs, FormedOption, FormedStmt, FormedStmts, FormedPart, FormedLeft, FormedSpecs}
use Rattle.go_layout.specs.LayoutLaws.LayoutPieces.{letters_of, due_of}
use Rattle.go_layout.specs.LayoutLaws.Laid.{is_indent, Laid}
use Rattle.go_layout.proofs.LayoutLaws.SpelledTypes.{U}
use Rattle.go_layout.proofs.LayoutLaws.NextTokens.{no_blank_first}
use Rattle.go_layout.proofs.LayoutLaws.LaidTokens.{avoids, good_keyword, gap_laid, colon_laid, paren_laid, end_paren_laid, line_laid}
use Rattle.go_layout.proofs.LayoutLaws.Opens.{opens_no_blank, opens_no_equals, names_open, type_opens}
use Rattle.go_layout.proofs.LayoutLaws.TreeOpens.{placed_opens, exprs_open, stmt_opens}
use Rattle.go_layout.proofs.LayoutLaws.LaidTypes.{word_stop, type_laid, assign_spaced}
use Rattle.go_layout.proofs.LayoutLaws.LaidPlaces.{deeper_spaces, stmts_start}

pub key_func : good_keyword (codes "func") ≡ true
unfolding good_keyword
key_func = refl

pub key_const : good_keyword (codes "const") ≡ true
unfolding good_keyword
key_const = refl

pub key_var : good_keyword (codes "var") ≡ true
unfolding good_keyword
key_var = refl

pub key_return : good_keyword (codes "return") ≡ true
unfolding good_keyword
key_return = refl

pub key_break : good_keyword (codes "break") ≡ true
unfolding good_keyword
key_break = refl

pub key_continue : good_keyword (codes "continue") ≡ true
unfolding good_keyword
key_continue = refl

pub key_for : good_keyword (codes "for") ≡ true
unfolding good_keyword
key_for = refl

pub key_range : good_keyword (codes "range") ≡ true
unfolding good_keyword
key_range = refl

pub key_switch : good_keyword (codes "switch") ≡ true
unfolding good_keyword
key_switch = refl

pub key_defer : good_keyword (codes "defer") ≡ true
unfolding good_keyword
key_defer = refl

pub key_if : good_keyword (codes "if") ≡ true
unfolding good_keyword
key_if = refl

pub key_else : good_keyword (codes "else") ≡ true
unfolding good_keyword
key_else = refl

pub key_case : good_keyword (codes "case") ≡ true
unfolding good_keyword
key_case = refl

pub key_default : good_keyword (codes "default") ≡ true
unfolding good_keyword
key_default = refl

-- ---- what doesn't begin with a blank

pub operand_starts : (e : Expr U) (p : Bool) (i : List ℕ) (h c : Bool) (more : List ℕ) → FormedExpr e → no_blank_first (letters_of (within p (expr_layout i (header_within p h) (closed_within p c) e)) more) ≡ true
operand_starts e p i h c more f = opens_no_blank false (letters_of (within p (expr_layout i (header_within p h) (closed_within p c) e)) more) (placed_opens e p i h c more f)

pub exprs_start : (xs : Exprs U) (i : List ℕ) (h c : Bool) (more : List ℕ) → FormedExprs xs → HasExprs xs → no_blank_first (letters_of (exprs_layout i h c xs) more) ≡ true
exprs_start xs i h c more f some = opens_no_blank false (letters_of (exprs_layout i h c xs) more) (exprs_open xs i h c more f some)

pub stmt_starts : (x : Stmt U) (i : List ℕ) (h : Bool) (more : List ℕ) → FormedStmt x → no_blank_first (letters_of (stmt_layout i h x) more) ≡ true
stmt_starts x i h more f = opens_no_blank false (letters_of (stmt_layout i h x) more) (stmt_opens x i h more f)

pub option_starts : (o : ExprOption U) (i : List ℕ) (h : Bool) (more : List ℕ) → FormedOption o → no_blank_first more ≡ true → no_blank_first (letters_of (option_layout i h o) more) ≡ true
option_starts no_expr i h more f off = off
option_starts (some_expr e) i h more f off = operand_starts e (needs_parens 1 h false e) i h false more f.1

pub bound_no_equals : (o : ExprOption U) (i : List ℕ) (more : List ℕ) → FormedOption o → avoids (codes "=") more ≡ true → avoids (codes "=") (letters_of (option_layout i false o) more) ≡ true
bound_no_equals no_expr i more f off = off
bound_no_equals (some_expr e) i more f off =
    let p = needs_parens 1 false false e in
    opens_no_equals false (letters_of (within p (expr_layout i (header_within p false) (closed_within p false) e)) more) (placed_opens e p i false false more f.1)

pub test_starts : (o : ExprOption U) (i : List ℕ) (more : List ℕ) → FormedOption o → no_blank_first more ≡ true → no_blank_first (letters_of (test_layout i o) more) ≡ true
test_starts no_expr i more f off = off
test_starts (some_expr e) i more f off = operand_starts e (needs_parens 1 true false e) i true false (32 ∷ more) f.1

pub part_starts : (o : StmtOption U) (i : List ℕ) (more : List ℕ) → FormedPart o → no_blank_first more ≡ true → no_blank_first (letters_of (part_layout i o) more) ≡ true
part_starts no_stmt i more f off = off
part_starts (some_stmt x) i more f off = stmt_starts x i true more f.1

pub post_starts : (o : StmtOption U) (i : List ℕ) (more : List ℕ) → FormedPart o → no_blank_first more ≡ true → no_blank_first (letters_of (post_layout i o) more) ≡ true
post_starts no_stmt i more f off = off
post_starts (some_stmt x) i more f off = stmt_starts x i true (32 ∷ more) f.1

pub first_starts : (o : StmtOption U) (i : List ℕ) (more : List ℕ) → FormedPart o → no_blank_first more ≡ true → no_blank_first (letters_of (first_layout i o) more) ≡ true
first_starts no_stmt i more f off = off
first_starts (some_stmt x) i more f off = stmt_starts x i true (59 ∷ 32 ∷ more) f.1

pub left_starts : (left : RangeLeft U) (i : List ℕ) (more : List ℕ) → FormedLeft left → no_blank_first more ≡ true → no_blank_first (letters_of (left_layout i left) more) ≡ true
left_starts nothing i more f off = off
left_starts (assigns xs) i more f off = exprs_start xs i true false (letters_of (spaced (codes "=")) more) f.1 f.0
left_starts (defines ns) i more f off =
    let rest = letters_of (spaced (codes ":=")) more in opens_no_blank true (letters_of (names_layout ns) rest) (names_open ns rest f.0 f.1)

pub cases_start : (cs : Cases U) (i : List ℕ) (more : List ℕ) → no_blank_first more ≡ true → no_blank_first (letters_of (cases_layout i cs) more) ≡ true
cases_start no_cases i more off = off
cases_start (case _ no_exprs _ _) i more off = refl
cases_start (case _ (expr_and _ _) _ _) i more off = refl

pub body_start : (xs : Stmts U) (i : List ℕ) (end : Option (List ℕ)) (more : List ℕ) → FormedStmts xs → no_blank_first more ≡ true → no_blank_first (letters_of (stmts_layout i end xs) more) ≡ true
body_start no_stmts i end more f off = off
body_start (stmt_and x xs) i end more f off = stmts_start x xs i end more f

pub clause_spaces : (i : List ℕ) (body : Stmts U) → is_indent i ≡ true → is_indent (clause_indent i body) ≡ true
clause_spaces i no_stmts sp = sp
clause_spaces i (stmt_and _ _) sp = deeper_spaces i sp

pub spec_starts : (ns : List (NameAt U)) (more : List ℕ) → HasNames ns → FormedNames ns → no_blank_first (letters_of (names_layout ns) more) ≡ true
spec_starts ns more some f = opens_no_blank true (letters_of (names_layout ns) more) (names_open ns more some f)

-- ---- the parts of a spec

pub spec_type_laid : (t : Option (TypeExpr U)) (more : List ℕ) (d : Bool) → FormedTypeOption t → no_word_first more ≡ true → Laid (spec_type_layout t) d more
spec_type_laid None more d f off = tt
spec_type_laid (Some t) more d f off = (gap_laid (letters_of (type_layout t) more) (opens_no_blank true (letters_of (type_layout t) more) (type_opens t more f)), type_laid t more d f off)

pub equals_laid : (xs : Exprs U) (i : List ℕ) (more : List ℕ) (d : Bool) → FormedExprs xs → Laid (equals_before xs) d (letters_of (exprs_layout i false false xs) more)
equals_laid no_exprs i more d f = tt
equals_laid (expr_and e es) i more d f =
    let rest = letters_of (exprs_layout i false false (expr_and e es)) more in assign_spaced None rest d refl (exprs_start (expr_and e es) i false false more f tt)

pub before_values : (xs : Exprs U) (i : List ℕ) (more : List ℕ) → no_word_first more ≡ true → no_word_first (letters_of (equals_before xs) (letters_of (exprs_layout i false false xs) more)) ≡ true
before_values no_exprs i more off = off
before_values (expr_and e es) i more off = word_stop 32 [] refl

pub before_type : (t : Option (TypeExpr U)) (more : List ℕ) → no_word_first more ≡ true → no_word_first (letters_of (spec_type_layout t) more) ≡ true
before_type None more off = off
before_type (Some t) more off = word_stop 32 [] refl

pub group_laid : (i : List ℕ) (constant : Bool) (ss : ValueSpecs U) (more : List ℕ) (d : Bool) → is_indent i ≡ true → FormedSpecs constant ss
    → ((i2 o : List ℕ) (d2 : Bool) (more2 : List ℕ) → is_indent i2 ≡ true → is_indent o ≡ true → no_blank_first more2 ≡ true → Laid (specs_layout i2 (Some o) ss) d2 more2)
    → Laid (in_group i true ss (specs_layout (deeper i) (Some i) ss)) d more
group_laid i constant no_specs more d sp f ih = (paren_laid (41 ∷ more), (tt, (tt, end_paren_laid more)))
group_laid i constant (spec s ns t xs ss) more d sp f ih =
    let inside = letters_of (specs_layout (deeper i) (Some i) (spec s ns t xs ss)) (41 ∷ more) in
    let rest = letters_of (spec_type_layout t ⊕ equals_before xs ⊕ exprs_layout (deeper i) false false xs ⊕ spec_end (deeper i) (Some i) ss ⊕ specs_layout (deeper i) (Some i) ss) (41 ∷ more) in
    (paren_laid (10 ∷ (deeper i ++ inside)), ((refl, line_laid (deeper i) inside (deeper_spaces i sp) (spec_starts ns rest f.0 f.1)), (ih (deeper i) i false (41 ∷ more) (deeper_spaces i sp) sp refl, end_paren_laid more)))

pub one_spec_starts : (ss : ValueSpecs U) (constant : Bool) (i : List ℕ) (more : List ℕ) → FormedGroup false ss → FormedSpecs constant ss → no_blank_first (letters_of (specs_layout i None ss) more) ≡ true
one_spec_starts no_specs constant i more one f = absurd one
one_spec_starts (spec s ns t xs (spec _ _ _ _ _)) constant i more one f = absurd one
one_spec_starts (spec s ns t xs no_specs) constant i more one f = spec_starts ns (letters_of (spec_type_layout t ⊕ equals_before xs ⊕ exprs_layout i false false xs) more) f.0 f.1

-- ---- the clauses of a `switch`

-- the statements of a clause and the clauses after it, from the colon on
pub clause_laid : (i : List ℕ) (body : Stmts U) (cs : Cases U) (d : Bool) (more : List ℕ) → is_indent i ≡ true → FormedStmts body → no_blank_first more ≡ true
    → ((i2 o : List ℕ) (d2 : Bool) (more2 : List ℕ) → is_indent i2 ≡ true → is_indent o ≡ true → no_blank_first more2 ≡ true → Laid (stmts_layout i2 (Some o) body) d2 more2)
    → ((d2 : Bool) → Laid (cases_layout i cs) d2 more)
    → Laid (op (codes ":") ⊕ line false (clause_indent i body) ⊕ stmts_layout (deeper i) (Some i) body ⊕ cases_layout i cs) d more
clause_laid i body cs d more sp f off ih others =
    let rest = letters_of (cases_layout i cs) more in let inside = letters_of (stmts_layout (deeper i) (Some i) body) rest in let starts = cases_start cs i more off in (
      colon_laid (10 ∷ (clause_indent i body ++ inside)) refl,
      (
        (refl, line_laid (clause_indent i body) inside (clause_spaces i body sp) (body_start body (deeper i) (Some i) rest f starts)),
        (ih (deeper i) i false rest (deeper_spaces i sp) sp starts, others (due_of (stmts_layout (deeper i) (Some i) body) false)),
      ),
    )
