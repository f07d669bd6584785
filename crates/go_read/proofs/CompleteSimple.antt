-- What spells a simple statement or the header of a loop is read as it, from what is known of its expressions.
use Rattle.std.proofs.Common.{◌≡◌, ℕ, Bool, true, false, List, ◌∷◌, Option, Some, None, refl, ap, subst}
use Rattle.go_tree.specs.declared.spans.Span.{Span}
use Rattle.go_tree.specs.declared.operators.BinOp.{BinOp}
use Rattle.go_tree.specs.Tree.{NameAt, Expr, Exprs, Stmt, ident, no_exprs, expr_and, eval, step, assign, define, nothing, assigns, defines}
use Rattle.go_tree.specs.GoWords.Terminals as terminal
use Rattle.go_tree.specs.GoWords.Terminals.{lex, increment, decrement, comma, semicolon, colon, brace, end_brace, key_range}
use Rattle.go_read.specs.SpellsTypes.{Lexemes, SpellsNames, last_name_rule, more_names_rule}
use Rattle.go_read.specs.Goals.{Clause, plain_clause, range_clause, read_names, read_exprs, read_simple, read_simple_after, read_clause}
use Rattle.go_read.specs.Programs.{give, ask, look}
use Rattle.go_read.specs.ReadStmts.{simple_after_step, simple_names, simple_step, clause_after, clause_names, clause_step}
use Rattle.go_read.specs.Reading.{at}
use Rattle.go_read.proofs.Sound.{at_sound}
use Rattle.go_read.specs.Follows.{Plain}
use Rattle.go_read.proofs.Finds.{Runs, gives, asks, looks, finish, is_short, ends_exprs, ends_stmt, starts_word, begins_expr}
use Rattle.go_read.proofs.CompleteTypes.{names_reads}
use Rattle.go_read.proofs.CompleteExprs.{plain_any, Operand, ident_full, List_of, last_list, more_list}

pub stmt_exprs : (r : Lexemes) → ends_stmt r ≡ true → ends_exprs r ≡ true
stmt_exprs (lex _ semicolon ∷ _) e = refl
stmt_exprs (lex _ end_brace ∷ _) e = refl
stmt_exprs (lex _ brace ∷ _) e = refl
stmt_exprs _ e = absurd cc

stmt_long : (r : Lexemes) → ends_stmt r ≡ true → is_short r ≡ false
stmt_long (lex _ semicolon ∷ _) e = refl
stmt_long (lex _ end_brace ∷ _) e = refl
stmt_long (lex _ brace ∷ _) e = refl
stmt_long _ e = absurd cc

-- `=` and then `range`
abbrev pub is_ranged : Lexemes → Bool
is_ranged (lex _ (terminal.assign None) ∷ lex _ key_range ∷ _) = true
is_ranged _ = false

stmt_unranged : (r : Lexemes) → ends_stmt r ≡ true → is_ranged r ≡ false
stmt_unranged (lex _ semicolon ∷ _) e = refl
stmt_unranged (lex _ end_brace ∷ _) e = refl
stmt_unranged (lex _ brace ∷ _) e = refl
stmt_unranged _ e = absurd cc

expr_unranged : (s : Span) (op : Option BinOp) (ts : Lexemes) → begins_expr ts ≡ true → is_ranged (lex s (terminal.assign op) ∷ ts) ≡ false
expr_unranged s None (lex _ key_range ∷ ts) b = absurd cc
expr_unranged s None _ b = refl
expr_unranged s (Some op) _ b = refl

word_expr : (ts : Lexemes) → starts_word ts ≡ true → begins_expr ts ≡ true
word_expr (lex _ (terminal.ident _) ∷ _) e = refl
word_expr _ e = absurd cc

module _ {S : Type 0} (mark : Lexemes → Lexemes → S) where
  names_begin : {ns : List (NameAt S)} {ts r : Lexemes} → SpellsNames mark ns ts r → starts_word ts ≡ true
  names_begin last_name_rule = refl
  names_begin (more_names_rule d) = refl

  pub names_begin_expr : {ns : List (NameAt S)} {ts r : Lexemes} → SpellsNames mark ns ts r → begins_expr ts ≡ true
  names_begin_expr {ns} {ts} d = word_expr ts (names_begin d)

  -- names are expressions
  names_exprs : (h : Bool) {ns : List (NameAt S)} {ts r : Lexemes} → SpellsNames mark ns ts r → (xs : Exprs S) × List_of mark h xs ts r
  names_exprs h (last_name_rule {s = s} {n = n} {r = r}) = (
    expr_and (ident (mark (lex s (terminal.ident n) ∷ r) r) n) no_exprs,
    last_list mark h (ident (mark (lex s (terminal.ident n) ∷ r) r) n) (lex s (terminal.ident n) ∷ r) r (record { bare = true; full = ident_full mark 1 h s n r; free = refl }),
  )
  names_exprs h (more_names_rule {s = s} {c = c} {n = n} {ts = ts} {r = r} d) =
      let k = names_exprs h d in (
        expr_and (ident (mark (lex s (terminal.ident n) ∷ lex c comma ∷ ts) (lex c comma ∷ ts)) n) k.0,
        more_list mark h c (ident (mark (lex s (terminal.ident n) ∷ lex c comma ∷ ts) (lex c comma ∷ ts)) n) k.0 (lex s (terminal.ident n) ∷ lex c comma ∷ ts) ts r
            (record { bare = true; full = ident_full mark 1 h s n (lex c comma ∷ ts); free = refl }) k.1,
      )

  -- expressions that another token than `:=` follows are no names before `:=`
  apart_names : (h : Bool) (ns : List (NameAt S)) (xs : Exprs S) (ts mid a : Lexemes) (s : Span) → at mark (read_exprs h) ts ≡ Some (xs, mid) → is_short mid ≡ false → at mark read_names ts ≡ Some (ns, lex s terminal.define ∷ a) → ⊥
  apart_names h ns xs ts mid a s e long q =
      let d = names_exprs h (at_sound mark read_names ts (ns, lex s terminal.define ∷ a) q).1 in
      let both : ◌≡◌ {A = Exprs S × Lexemes} (xs, mid) (d.0, lex s terminal.define ∷ a) = same (xs, mid) (d.0, lex s terminal.define ∷ a) (at mark (read_exprs h) ts) e (d.1.reads (plain_any h (lex s terminal.define ∷ a) refl) refl) in
      let last : mid ≡ lex s terminal.define ∷ a = ap (λ (x : Exprs S × Lexemes). x.1) both in
      clash (subst (λ m. is_short m ≡ false) last long)
    where
      same : (x y : Exprs S × Lexemes) (o : Option (Exprs S × Lexemes)) → o ≡ Some x → o ≡ Some y → x ≡ y
      same x y o p q = cc

      clash : true ≡ false → ⊥
      clash p = cc

  -- a statement that begins with expressions
  record Via (h : Bool) (xs : Exprs S) (ts mid : Lexemes) (x : Stmt S) (r : Lexemes) : Type 0 where
    exprs : at mark (read_exprs h) ts ≡ Some (xs, mid)
    long : is_short mid ≡ false
    unranged : is_ranged mid ≡ false
    after : at mark (read_simple_after h ts xs) mid ≡ Some (x, r)

  simple_names_go : (h : Bool) (xs : Exprs S) (ts mid : Lexemes) (x : Stmt S) (r : Lexemes) → Via h xs ts mid x r → (o : Option (List (NameAt S) × Lexemes)) → at mark read_names ts ≡ o → Runs mark (simple_names mark h ts o) (Some (x, r))
  simple_names_go h xs ts mid x r v (Some (ns, lex s terminal.define ∷ a)) q = absurd (apart_names h ns xs ts mid a s v.exprs v.long q)
  simple_names_go h xs ts mid x r v _ q = asks mark v.exprs (asks mark v.after (gives mark))

  simple_via : (h : Bool) (xs : Exprs S) (ts mid : Lexemes) (x : Stmt S) (r : Lexemes) → Via h xs ts mid x r → at mark (read_simple h) ts ≡ Some (x, r)
  unfolding simple_step
  simple_via h xs ts mid x r v = finish mark (read_simple h) ts (looks mark refl (simple_names_go h xs ts mid x r v (at mark read_names ts) refl))

  clause_go : {o : Option (Clause S × Lexemes)} (ts : Lexemes) → begins_expr ts ≡ true → Runs mark (look read_names ts (λ o. clause_names mark ts o)) o → Runs mark (clause_step mark ts) o
  unfolding clause_step
  clause_go (lex s key_range ∷ ts) b k = absurd cc
  clause_go _ b k = k

  clause_after_go : {o : Option (Clause S × Lexemes)} (ts : Lexemes) (xs : Exprs S) (mid : Lexemes) → is_ranged mid ≡ false → Runs mark (ask (read_simple_after true ts xs) mid (λ x r. give (plain_clause x) r)) o → Runs mark (clause_after mark ts xs mid) o
  clause_after_go ts xs (lex _ (terminal.assign None) ∷ lex _ key_range ∷ mid) q k = absurd cc
  clause_after_go ts xs _ q k = k

  clause_names_go : (xs : Exprs S) (ts mid : Lexemes) (x : Stmt S) (r : Lexemes) → Via true xs ts mid x r → (o : Option (List (NameAt S) × Lexemes)) → at mark read_names ts ≡ o → Runs mark (clause_names mark ts o) (Some (plain_clause x, r))
  clause_names_go xs ts mid x r v (Some (ns, lex s terminal.define ∷ a)) q = absurd (apart_names true ns xs ts mid a s v.exprs v.long q)
  clause_names_go xs ts mid x r v _ q = asks mark v.exprs (clause_after_go ts xs mid v.unranged (asks mark v.after (gives mark)))

  clause_via : (xs : Exprs S) (ts mid : Lexemes) (x : Stmt S) (r : Lexemes) → begins_expr ts ≡ true → Via true xs ts mid x r → at mark read_clause ts ≡ Some (plain_clause x, r)
  clause_via xs ts mid x r b v = finish mark read_clause ts (clause_go ts b (looks mark refl (clause_names_go xs ts mid x r v (at mark read_names ts) refl)))

  -- what is known of a simple statement; in a header it is a clause too
  abbrev pub InClause : Bool → Stmt S → Lexemes → Lexemes → Type 0
  InClause false x ts r = Unit {0}
  InClause true x ts r = ends_stmt r ≡ true → at mark read_clause ts ≡ Some (plain_clause x, r)

  pub record Simple (h : Bool) (x : Stmt S) (ts r : Lexemes) : Type 0 where
    pub begins : begins_expr ts ≡ true
    pub reads : Plain h r → ends_stmt r ≡ true → at mark (read_simple h) ts ≡ Some (x, r)
    pub clause : InClause h x ts r

  in_clause : (h : Bool) (xs : Exprs S) (ts mid : Lexemes) (x : Stmt S) (r : Lexemes) → begins_expr ts ≡ true → (Plain h r → ends_stmt r ≡ true → Via h xs ts mid x r) → InClause h x ts r
  in_clause false xs ts mid x r b v = tt
  in_clause true xs ts mid x r b v = λ q. clause_via xs ts mid x r b (v tt q)

  simple_by : (h : Bool) (xs : Exprs S) (ts mid : Lexemes) (x : Stmt S) (r : Lexemes) → begins_expr ts ≡ true → (Plain h r → ends_stmt r ≡ true → Via h xs ts mid x r) → Simple h x ts r
  simple_by h xs ts mid x r b v = record { begins = b; reads = λ p q. simple_via h xs ts mid x r (v p q); clause = in_clause h xs ts mid x r b v }

  after_eval : (h : Bool) (whole : Lexemes) (e : Expr S) (r : Lexemes) → ends_stmt r ≡ true → Runs mark (simple_after_step mark h whole (expr_and e no_exprs) r) (Some (eval (mark whole r) e, r))
  unfolding simple_after_step
  after_eval h whole e (lex _ semicolon ∷ r) q = gives mark
  after_eval h whole e (lex _ end_brace ∷ r) q = gives mark
  after_eval h whole e (lex _ brace ∷ r) q = gives mark
  after_eval h whole e _ q = absurd cc

  pub eval_simple : (h : Bool) (e : Expr S) (ts r : Lexemes) → Operand mark 1 h e ts r → Simple h (eval (mark ts r) e) ts r
  eval_simple h e ts r f =
      let l = last_list mark h e ts r f in
      simple_by h (expr_and e no_exprs) ts r (eval (mark ts r) e) r l.begins
      (λ p q. record { exprs = l.reads p (stmt_exprs r q); long = stmt_long r q; unranged = stmt_unranged r q; after = finish mark (read_simple_after h ts (expr_and e no_exprs)) r (after_eval h ts e r q) })

  pub increment_simple : (h : Bool) (s : Span) (e : Expr S) (ts r : Lexemes) → Operand mark 1 h e ts (lex s increment ∷ r) → Simple h (step (mark ts r) e true) ts r
  unfolding simple_after_step
  increment_simple h s e ts r f =
      let l = last_list mark h e ts (lex s increment ∷ r) f in
      simple_by h (expr_and e no_exprs) ts (lex s increment ∷ r) (step (mark ts r) e true) r l.begins
      (λ p q. record { exprs = l.reads (plain_any h (lex s increment ∷ r) refl) refl; long = refl; unranged = refl; after = finish mark (read_simple_after h ts (expr_and e no_exprs)) (lex s increment ∷ r) (gives mark) })

  pub decrement_simple : (h : Bool) (s : Span) (e : Expr S) (ts r : Lexemes) → Operand mark 1 h e ts (lex s decrement ∷ r) → Simple h (step (mark ts r) e false) ts r
  unfolding simple_after_step
  decrement_simple h s e ts r f =
      let l = last_list mark h e ts (lex s decrement ∷ r) f in
      simple_by h (expr_and e no_exprs) ts (lex s decrement ∷ r) (step (mark ts r) e false) r l.begins
      (λ p q. record { exprs = l.reads (plain_any h (lex s decrement ∷ r) refl) refl; long = refl; unranged = refl; after = finish mark (read_simple_after h ts (expr_and e no_exprs)) (lex s decrement ∷ r) (gives mark) })

  pub assign_simple : (h : Bool) (s : Span) (op : Option BinOp) (xs ys : Exprs S) (ts mid r : Lexemes) → List_of mark h xs ts (lex s (terminal.assign op) ∷ mid) → List_of mark h ys mid r → Simple h (assign (mark ts r) xs op ys) ts r
  unfolding simple_after_step
  assign_simple h s op xs ys ts mid r l k =
      simple_by h xs ts (lex s (terminal.assign op) ∷ mid) (assign (mark ts r) xs op ys) r l.begins
      (λ p q. record {
        exprs = l.reads (plain_any h (lex s (terminal.assign op) ∷ mid) refl) refl;
        long = refl;
        unranged = expr_unranged s op mid k.begins;
        after = finish mark (read_simple_after h ts xs) (lex s (terminal.assign op) ∷ mid) (asks mark (k.reads p (stmt_exprs r q)) (gives mark));
      })

  define_go : {o : Option (Clause S × Lexemes)} (whole : Lexemes) (ns : List (NameAt S)) (s : Span) (ts : Lexemes) → begins_expr ts ≡ true
      → Runs mark (ask (read_exprs true) ts (λ ys r. give (plain_clause (define (mark whole r) ns ys)) r)) o → Runs mark (clause_names mark whole (Some (ns, lex s terminal.define ∷ ts))) o
  define_go whole ns s (lex _ key_range ∷ ts) b k = absurd cc
  define_go whole ns s _ b k = k

  define_clause : (h : Bool) (s : Span) (ns : List (NameAt S)) (ys : Exprs S) (ts mid r : Lexemes) → SpellsNames mark ns ts (lex s terminal.define ∷ mid) → List_of mark h ys mid r → InClause h (define (mark ts r) ns ys) ts r
  define_clause false s ns ys ts mid r d k = tt
  define_clause true s ns ys ts mid r d k = λ q.
      finish mark read_clause ts (clause_go ts (names_begin_expr d) (looks mark (names_reads mark d refl) (define_go ts ns s mid k.begins (asks mark (k.reads tt (stmt_exprs r q)) (gives mark)))))

  pub define_simple : (h : Bool) (s : Span) (ns : List (NameAt S)) (ys : Exprs S) (ts mid r : Lexemes) → SpellsNames mark ns ts (lex s terminal.define ∷ mid) → List_of mark h ys mid r → Simple h (define (mark ts r) ns ys) ts r
  unfolding simple_step
  define_simple h s ns ys ts mid r d k = record {
    begins = names_begin_expr d;
    reads = λ p q. finish mark (read_simple h) ts (looks mark (names_reads mark d refl) (asks mark (k.reads p (stmt_exprs r q)) (gives mark)));
    clause = define_clause h s ns ys ts mid r d k;
  }

  -- a label and its colon are read as an expression statement that a colon follows
  pub label_apart : (s c : Span) (n : List ℕ) (ts : Lexemes) (x : Stmt S) (r : Lexemes) → at mark (read_simple false) (lex s (terminal.ident n) ∷ lex c colon ∷ ts) ≡ Some (x, r) → r ≡ lex c colon ∷ ts
  unfolding simple_after_step
  label_apart s c n ts x r e =
      let whole : Lexemes = lex s (terminal.ident n) ∷ lex c colon ∷ ts in
      let rest : Lexemes = lex c colon ∷ ts in
      let i : Expr S = ident (mark whole rest) n in
      let l = last_list mark false i whole rest (record { bare = true; full = ident_full mark 1 false s n rest; free = refl }) in
      let q = simple_via false (expr_and i no_exprs) whole rest (eval (mark whole rest) i) rest
      (record { exprs = l.reads refl refl; long = refl; unranged = refl; after = finish mark (read_simple_after false whole (expr_and i no_exprs)) rest (gives mark) }) in
      ap (λ (y : Stmt S × Lexemes). y.1) (same (x, r) (eval (mark whole rest) i, rest) (at mark (read_simple false) whole) e q)
    where
      same : (x y : Stmt S × Lexemes) (o : Option (Stmt S × Lexemes)) → o ≡ Some x → o ≡ Some y → x ≡ y
      same x y o p q = cc

  -- ---- clauses through `range`

  pub no_left_clause : (c : Span) (ts : Lexemes) → at mark read_clause (lex c key_range ∷ ts) ≡ Some (range_clause nothing, ts)
  unfolding clause_step
  no_left_clause c ts = finish mark read_clause (lex c key_range ∷ ts) (gives mark)

  assigns_names_go : (xs : Exprs S) (s c : Span) (ts r : Lexemes) → at mark (read_exprs true) ts ≡ Some (xs, lex s (terminal.assign None) ∷ lex c key_range ∷ r) → (o : Option (List (NameAt S) × Lexemes)) → at mark read_names ts ≡ o
      → Runs mark (clause_names mark ts o) (Some (range_clause (assigns xs), r))
  assigns_names_go xs s c ts r e (Some (ns, lex d terminal.define ∷ a)) q = absurd (apart_names true ns xs ts (lex s (terminal.assign None) ∷ lex c key_range ∷ r) a d e refl q)
  assigns_names_go xs s c ts r e _ q = asks mark e (gives mark)

  pub assigns_clause : (xs : Exprs S) (s c : Span) (ts r : Lexemes) → List_of mark true xs ts (lex s (terminal.assign None) ∷ lex c key_range ∷ r) → at mark read_clause ts ≡ Some (range_clause (assigns xs), r)
  assigns_clause xs s c ts r l = finish mark read_clause ts (clause_go ts l.begins (looks mark refl (assigns_names_go xs s c ts r (l.reads tt refl) (at mark read_names ts) refl)))

  pub defines_clause : (ns : List (NameAt S)) (s c : Span) (ts r : Lexemes) → SpellsNames mark ns ts (lex s terminal.define ∷ lex c key_range ∷ r) → at mark read_clause ts ≡ Some (range_clause (defines ns), r)
  defines_clause ns s c ts r d = finish mark read_clause ts (clause_go ts (names_begin_expr d) (looks mark (names_reads mark d refl) (gives mark)))
