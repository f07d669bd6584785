-- What each answer of a reading means: the tokens that it takes spell it.
use Rattle.std.proofs.Common.{◌≡◌, ℕ, ◌+◌, ◌<◌, ◌≤◌, Bool, true, false, ◌∷◌, refl, arith}
use Rattle.std.specs.Prelude.{if◌then◌else◌}
use Rattle.go_tree.specs.declared.spans.Span.{Span}
use Rattle.go_tree.specs.Tree.{Expr}
use Rattle.go_tree.specs.GoWords.Terminals.{lex, binary_op, semicolon, colon, brace, end_brace, end_bracket, end_paren, key_range, level_of}
use Rattle.go_read.specs.SpellsTypes.{Lexemes, SpellsType, SpellsFields, SpellsEntries, SpellsNamed, SpellsUnnamed, SpellsParams, SpellsSig, SpellsNames}
use Rattle.go_read.specs.Spells.{SpellsBare, SpellsExpr, SpellsOperand, SpellsExprs, SpellsArgs, SpellsElems, SpellsElem, SpellsValue, SpellsSimple, SpellsStmt, SpellsStmts, SpellsBlock, SpellsIf, SpellsArm, SpellsLeft, SpellsCases, SpellsDecl, SpellsSpecs, SpellsSpec, ident_rule, int_rule, rune_rule, text_rule, composite_rule, func_rule, type_rule, selector_rule, index_rule, slice_rule, call_rule, unary_rule, star_rule, binary_rule, bare_rule, parens_rule}
use Rattle.go_read.specs.SpellsFiles.{SpellsImportSpec, SpellsImportSpecs, SpellsImport, SpellsTypeSpec, SpellsTypeSpecs, SpellsReceiver, SpellsTop, SpellsImports, SpellsTops, SpellsFront}
use Rattle.go_read.specs.Goals.{Goal, Answer, weight, Clause, plain_clause, range_clause, read_type, read_fields, read_entries, read_named, read_unnamed, read_params, read_sig, read_names, read_expr, read_more, read_unary, read_postfix, read_operand, read_exprs, read_args, read_elems, read_elem, read_value, read_simple, read_simple_after, read_clause, read_stmt, read_stmts, read_block, read_arm, read_if, read_cases, read_decl, read_specs, read_spec, read_import_spec, read_import_specs, read_import, read_type_spec, read_type_specs, read_receiver, read_top, read_imports, read_tops, read_front}
use Rattle.go_read.specs.Programs.{Program, unless, after_semicolon, after_colon, after_brace, after_end_brace, after_end_bracket, after_end_paren}
use Rattle.go_read.proofs.Runs as runs

-- an operator that follows binds less than this, and at most so
abbrev pub Stops : ℕ → Lexemes → Type 0
Stops level (lex _ (binary_op op) ∷ _) = level_of op < level
Stops level _ = Unit {0}

abbrev pub Low : ℕ → Lexemes → Type 0
Low level (lex _ (binary_op op) ∷ _) = level_of op ≤ level
Low level _ = Unit {0}

pub low_of_stops : (n : ℕ) (ts : Lexemes) → Stops (n + 1) ts → Low n ts
low_of_stops n (lex _ (binary_op op) ∷ _) h = omega (arith, h)
low_of_stops n _ h = tt

module _ {S : Type 0} (mark : Lexemes → Lexemes → S) where
  -- an expression with or without parentheses around it
  abbrev pub Held : Bool → ℕ → Bool → Expr S → Lexemes → Lexemes → Type 0
  Held true l h e ts r = SpellsBare mark l h e ts r
  Held false l h e ts r = SpellsExpr mark l h e ts r

  pub held_expr : (b : Bool) (l : ℕ) (h : Bool) (e : Expr S) (ts r : Lexemes) → Held b l h e ts r → SpellsExpr mark l h e ts r
  held_expr true l h e ts r d = bare_rule d
  held_expr false l h e ts r d = d

  -- what stands at a level stands at each lower one
  pub weaken_bare : {l : ℕ} {h : Bool} {e : Expr S} {ts r : Lexemes} (m : ℕ) → m ≤ l → SpellsBare mark l h e ts r → SpellsBare mark m h e ts r
  weaken_bare m le ident_rule = ident_rule
  weaken_bare m le int_rule = int_rule
  weaken_bare m le rune_rule = rune_rule
  weaken_bare m le text_rule = text_rule
  weaken_bare m le (composite_rule d e) = composite_rule d e
  weaken_bare m le (func_rule d e) = func_rule d e
  weaken_bare m le (type_rule p d q) = type_rule p d q
  weaken_bare m le (selector_rule d) = selector_rule d
  weaken_bare m le (index_rule d e) = index_rule d e
  weaken_bare m le (slice_rule d i j) = slice_rule d i j
  weaken_bare m le (call_rule d e) = call_rule d e
  weaken_bare m le (unary_rule p d) = unary_rule (omega (arith, le, p)) d
  weaken_bare m le (star_rule p d) = star_rule (omega (arith, le, p)) d
  weaken_bare m le (binary_rule p d e) = binary_rule (omega (arith, le, p)) d e

  pub weaken_expr : {l : ℕ} {h : Bool} {e : Expr S} {ts r : Lexemes} (m : ℕ) → m ≤ l → SpellsExpr mark l h e ts r → SpellsExpr mark m h e ts r
  weaken_expr m le (bare_rule d) = bare_rule (weaken_bare m le d)
  weaken_expr m le (parens_rule d) = parens_rule d

  pub weaken : (b : Bool) (l m : ℕ) (h : Bool) (e : Expr S) (ts r : Lexemes) → m ≤ l → Held b l h e ts r → Held b m h e ts r
  weaken true l m h e ts r le d = weaken_bare m le d
  weaken false l m h e ts r le d = weaken_expr m le d

  abbrev pub MeansClause : Clause S → Lexemes → Lexemes → Type 0
  MeansClause (plain_clause x) ts r = SpellsSimple mark true x ts r
  MeansClause (range_clause left) ts r = (s : Span) × SpellsLeft mark left ts (lex s key_range ∷ r)

  abbrev pub Means : (g : Goal S) → Lexemes → Answer g → Lexemes → Type 0
  Means read_type ts x r = SpellsType mark x ts r
  Means read_fields ts x r = SpellsFields mark x ts r
  Means read_entries ts x r = SpellsEntries mark x.0 x.1 ts r
  Means (read_named v) ts x r = SpellsNamed mark v x ts r
  Means (read_unnamed v) ts x r = SpellsUnnamed mark v x ts r
  Means (read_params v) ts x r = SpellsParams mark v x ts r
  Means (read_sig v) ts x r = SpellsSig mark v x ts r
  Means read_names ts x r = SpellsNames mark x ts r
  Means (read_expr l h) ts x r = l ≤ 6 → Held x.1 l h x.0 ts r × Stops l r
  Means (read_more l h whole left bare) ts x r = (q : ℕ) → l ≤ 6 → l ≤ q → Held bare q h left whole ts → Low q ts → Held x.1 l h x.0 whole r × Stops l r
  Means (read_unary h) ts x r = Held x.1 6 h x.0 ts r
  Means (read_postfix h whole base bare) ts x r = Held bare 7 h base whole ts → Held x.1 7 h x.0 whole r
  Means (read_operand h) ts x r = SpellsOperand mark 1 h x ts r
  Means (read_exprs h) ts x r = SpellsExprs mark h x ts r
  Means read_args ts x r = SpellsArgs mark x.0 x.1 ts r
  Means read_elems ts x r = SpellsElems mark x ts r
  Means read_elem ts x r = SpellsElem mark x.0 x.1 ts r
  Means read_value ts x r = SpellsValue mark x ts r
  Means (read_simple h) ts x r = SpellsSimple mark h x ts r
  Means (read_simple_after h whole xs) ts x r = SpellsExprs mark h xs whole ts → SpellsSimple mark h x whole r
  Means read_clause ts x r = MeansClause x ts r
  Means read_stmt ts x r = SpellsStmt mark x ts r
  Means read_stmts ts x r = SpellsStmts mark x ts r
  Means read_block ts x r = SpellsBlock mark x.0 x.1 ts r
  Means read_arm ts x r = SpellsArm mark x.0 x.1 x.2 x.3 ts r
  Means read_if ts x r = SpellsIf mark x.0 x.1 ts r
  Means read_cases ts x r = SpellsCases mark x ts r
  Means (read_decl c) ts x r = SpellsDecl mark c x.0 x.1 ts r
  Means (read_specs c) ts x r = SpellsSpecs mark c x ts r
  Means (read_spec c) ts x r = SpellsSpec mark c x.0 x.1 x.2 ts r
  Means read_import_spec ts x r = SpellsImportSpec mark x ts r
  Means read_import_specs ts x r = SpellsImportSpecs mark x ts r
  Means read_import ts x r = SpellsImport mark x ts r
  Means read_type_spec ts x r = SpellsTypeSpec mark x ts r
  Means read_type_specs ts x r = SpellsTypeSpecs mark x ts r
  Means read_receiver ts x r = SpellsReceiver mark x ts r
  Means read_top ts x r = SpellsTop mark x ts r
  Means read_imports ts x r = SpellsImports mark x ts r
  Means read_tops ts x r = SpellsTops mark x ts r
  Means read_front ts x r = SpellsFront mark x ts r

  abbrev pub Good : (g : Goal S) → Lexemes → Answer g → Lexemes → Type 0
  Good g ts x r = runs.Good Means g ts x r

  abbrev pub Fine : {X : Type 0} → ℕ → (X → Lexemes → Type 0) → Program S X → Type 0
  Fine m P p = runs.Fine Means m P p

  -- a step for this goal
  abbrev pub Step : (g : Goal S) → Lexemes → Program S (Answer g) → Type 0
  Step g ts p = Fine (weight g ts) (Good g ts) p

  pub fine_if : {X : Type 0} (m : ℕ) (P : X → Lexemes → Type 0) (b : Bool) (p q : Program S X) → (b ≡ true → Fine m P p) → (b ≡ false → Fine m P q) → Fine m P (if b then p else q)
  fine_if m P true p q h k = h refl
  fine_if m P false p q h k = k refl

  pub fine_unless : {X : Type 0} (m : ℕ) (P : X → Lexemes → Type 0) (b : Bool) (p : Program S X) → (b ≡ false → Fine m P p) → Fine m P (unless b p)
  fine_unless m P true p h = tt
  fine_unless m P false p h = h refl

  -- after a token of a kind, with what is known of the tokens before it
  module _ {X : Type 0} (m : ℕ) (P : X → Lexemes → Type 0) (D : Lexemes → Type 0) where
    pub fine_semicolon : (ts : Lexemes) (k : Lexemes → Program S X) → D ts → ((s : Span) (r : Lexemes) → D (lex s semicolon ∷ r) → Fine m P (k r)) → Fine m P (after_semicolon ts k)
    fine_semicolon (lex s semicolon ∷ r) k d h = h s r d
    fine_semicolon _ k d h = tt

    pub fine_colon : (ts : Lexemes) (k : Lexemes → Program S X) → D ts → ((s : Span) (r : Lexemes) → D (lex s colon ∷ r) → Fine m P (k r)) → Fine m P (after_colon ts k)
    fine_colon (lex s colon ∷ r) k d h = h s r d
    fine_colon _ k d h = tt

    pub fine_brace : (ts : Lexemes) (k : Lexemes → Program S X) → D ts → ((s : Span) (r : Lexemes) → D (lex s brace ∷ r) → Fine m P (k r)) → Fine m P (after_brace ts k)
    fine_brace (lex s brace ∷ r) k d h = h s r d
    fine_brace _ k d h = tt

    pub fine_end_brace : (ts : Lexemes) (k : Lexemes → Program S X) → D ts → ((s : Span) (r : Lexemes) → D (lex s end_brace ∷ r) → Fine m P (k r)) → Fine m P (after_end_brace ts k)
    fine_end_brace (lex s end_brace ∷ r) k d h = h s r d
    fine_end_brace _ k d h = tt

    pub fine_end_bracket : (ts : Lexemes) (k : Lexemes → Program S X) → D ts → ((s : Span) (r : Lexemes) → D (lex s end_bracket ∷ r) → Fine m P (k r)) → Fine m P (after_end_bracket ts k)
    fine_end_bracket (lex s end_bracket ∷ r) k d h = h s r d
    fine_end_bracket _ k d h = tt

    pub fine_end_paren : (ts : Lexemes) (k : Lexemes → Program S X) → D ts → ((s : Span) (r : Lexemes) → D (lex s end_paren ∷ r) → Fine m P (k r)) → Fine m P (after_end_paren ts k)
    fine_end_paren (lex s end_paren ∷ r) k d h = h s r d
    fine_end_paren _ k d h = tt
