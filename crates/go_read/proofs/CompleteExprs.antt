-- What spells an expression is read as it, from what is known of its parts.
use Rattle.std.proofs.Common.{◌≡◌, ℕ, ◌+◌, ◌<◌, ◌≤◌, Bool, true, false, nat_le, List, [], ◌∷◌, Option, Some, refl, ◌∙◌, arith}
use Rattle.std.specs.Prelude.{if◌then◌else◌}
use Rattle.std.proofs.lemmas.Bool.Decides.{nat_tests}
use Rattle.go_tree.specs.declared.spans.Span.{Span}
use Rattle.go_tree.specs.declared.operators.BinOp.{BinOp}
use Rattle.go_tree.specs.declared.operators.BinOp.TheVariants.{Mul}
use Rattle.go_tree.specs.declared.operators.UnOp.{UnOp}
use Rattle.go_tree.specs.declared.operators.UnOp.TheVariants.{Plus, Minus, Not, Flip, Address}
use Rattle.go_tree.specs.declared.exprs.Rest.{Rest}
use Rattle.go_tree.specs.declared.exprs.Rest.TheVariants as handed
use Rattle.go_tree.specs.Tree.{TypeExpr, Sig, Expr, Exprs, ExprOption, Elems, Stmts, ident, int_lit, rune_lit, str_lit, composite, selector, index, slice, call, func_lit, type_operand, unary, binary, star, no_exprs, expr_and, no_expr, some_expr}
use Rattle.go_tree.specs.GoWords.Terminals as terminal
use Rattle.go_tree.specs.GoWords.Terminals.{lex, binary_op, comma, colon, dot, ellipsis, paren, end_paren, bracket, end_bracket, brace, end_brace, key_func, key_map, key_struct, level_of, unary_sign}
use Rattle.go_read.specs.SpellsTypes.{Lexemes, name_here, SpellsType, SpellsSig}
use Rattle.go_read.specs.Spells.{is_func_lit, starts_type, follows_type, SpellsLiteralType, named_literal_rule, qualified_literal_rule, type_literal_rule}
use Rattle.go_read.specs.Goals.{read_expr, read_more, read_unary, read_postfix, read_operand, read_exprs, read_args, read_elems, read_block}
use Rattle.go_read.specs.Programs.{Program, ask}
use Rattle.go_read.specs.ReadExprs.{expr_step, more_step, word_step, type_after, type_first, prefix_step, unary_step, bracket_high, bracket_after, bracket_step, postfix_step, operand_step, exprs_after, exprs_step, args_after, args_step}
use Rattle.go_read.specs.Reading.{at}
use Rattle.go_read.proofs.Means.{Stops, Low}
use Rattle.go_read.proofs.SoundExprs.{level_most}
use Rattle.go_read.specs.Follows.{Plain, ends_expr, is_dotted, literal_follows}
use Rattle.go_read.proofs.Finds.{Runs, gives, asks, tails_postfix, tails_more, passes, finish, is_still, ends_exprs, begins_expr}
use Rattle.go_read.proofs.CompleteTypes.{type_reads, sig_reads}

-- ---- tokens that follow

pub plain_any : (h : Bool) (r : Lexemes) → literal_follows r ≡ false → Plain h r
plain_any true r e = tt
plain_any false r e = e

plain_dot : (h : Bool) (d s : Span) (n : List ℕ) (r : Lexemes) → Plain h r → Plain h (lex d dot ∷ lex s (terminal.ident n) ∷ r)
plain_dot true d s n r e = tt
plain_dot false d s n (lex b brace ∷ r) e = absurd cc
plain_dot false d s n _ e = refl

pub still_ends : (r : Lexemes) → ends_expr r ≡ true → is_still r ≡ true
still_ends (lex _ paren ∷ r) e = absurd cc
still_ends (lex _ dot ∷ r) e = absurd cc
still_ends (lex _ bracket ∷ r) e = absurd cc
still_ends _ e = refl

pub stops_ends : (l : ℕ) (r : Lexemes) → ends_expr r ≡ true → Stops l r
stops_ends l (lex _ (binary_op op) ∷ r) e = absurd cc
stops_ends l _ e = tt

pub ends_list : (r : Lexemes) → ends_exprs r ≡ true → ends_expr r ≡ true
ends_list (lex _ paren ∷ r) e = absurd cc
ends_list (lex _ dot ∷ r) e = absurd cc
ends_list (lex _ bracket ∷ r) e = absurd cc
ends_list (lex _ (binary_op _) ∷ r) e = absurd cc
ends_list _ e = refl

low_stops : (l : ℕ) (r : Lexemes) → Stops l r → Low l r
low_stops l (lex _ (binary_op op) ∷ r) e = omega (arith, e)
low_stops l _ e = tt

stops_low : (l m : ℕ) (r : Lexemes) → Low l r → l < m → Stops m r
stops_low l m (lex _ (binary_op op) ∷ r) e lt = omega (arith, e, lt)
stops_low l m _ e lt = tt

le_test : (a b : ℕ) → a ≤ b → nat_le a b ≡ true
le_test a b e = grind (arith, nat_tests, e)

gt_test : (a b : ℕ) → b < a → nat_le a b ≡ false
gt_test a b e = grind (arith, nat_tests, e)

type_begins_expr : (ts : Lexemes) → starts_type ts ≡ true → begins_expr ts ≡ true
type_begins_expr (lex s bracket ∷ ts) e = refl
type_begins_expr (lex s key_map ∷ ts) e = refl
type_begins_expr (lex s key_struct ∷ ts) e = refl
type_begins_expr _ e = absurd cc

follows_undotted : (r : Lexemes) → follows_type r ≡ true → is_dotted r ≡ false
follows_undotted (lex s paren ∷ r) e = refl
follows_undotted (lex s comma ∷ r) e = refl
follows_undotted (lex s end_paren ∷ r) e = refl
follows_undotted _ e = absurd cc

module _ {S : Type 0} (mark : Lexemes → Lexemes → S) where
  -- what is known of reading an expression of a level; `bare` says that no parentheses stand around it
  pub record Full (l : ℕ) (h : Bool) (e : Expr S) (bare : Bool) (ts r : Lexemes) : Type 0 where
    pub begins : begins_expr ts ≡ true
    pub primary : 7 ≤ l → Plain h r → at mark (read_unary h) ts ≡ at mark (read_postfix h ts e bare) r
    pub unary : 6 ≤ l → Plain h r → is_still r ≡ true → at mark (read_unary h) ts ≡ Some ((e, bare), r)
    pub any : Plain h r → is_still r ≡ true → Low l r → (m : ℕ) → m ≤ l → at mark (read_expr m h) ts ≡ at mark (read_more m h ts e bare) r

  -- the same, in parentheses or not; and of an operand
  pub record Held (l : ℕ) (h : Bool) (e : Expr S) (ts r : Lexemes) : Type 0 where
    pub bare : Bool
    pub full : Full l h e bare ts r

  pub record Operand (l : ℕ) (h : Bool) (e : Expr S) (ts r : Lexemes) : Type 0 where
    pub bare : Bool
    pub full : Full l h e bare ts r
    pub free : is_func_lit e ≡ false

  pub data Maybe (h : Bool) : ExprOption S → Lexemes → Lexemes → Type 0 where
    absent : {r : Lexemes} → Maybe h no_expr r r
    present : {e : Expr S} {ts r : Lexemes} → Operand 1 h e ts r → Maybe h (some_expr e) ts r

  -- ---- levels

  postfix_done : (h : Bool) (whole : Lexemes) (e : Expr S) (b : Bool) (r : Lexemes) → is_still r ≡ true → Runs mark (postfix_step mark h whole e b r) (Some ((e, b), r))
  unfolding postfix_step
  postfix_done h whole e b (lex _ paren ∷ r) s = absurd cc
  postfix_done h whole e b (lex _ dot ∷ r) s = absurd cc
  postfix_done h whole e b (lex _ bracket ∷ r) s = absurd cc
  postfix_done h whole e b _ s = gives mark

  if_false : {X : Type 0} (b : Bool) (p q : Program S X) {o : Option (X × Lexemes)} → b ≡ false → Runs mark q o → Runs mark (if b then p else q) o
  if_false false p q e h = h
  if_false true p q e h = absurd cc

  if_true : {X : Type 0} (b : Bool) (p q : Program S X) {o : Option (X × Lexemes)} → b ≡ true → Runs mark p o → Runs mark (if b then p else q) o
  if_true true p q e h = h
  if_true false p q e h = absurd cc

  more_off : (l : ℕ) (h : Bool) (whole : Lexemes) (left : Expr S) (b : Bool) (r : Lexemes) → Stops l r → Runs mark (more_step mark l h whole left b r) (Some ((left, b), r))
  unfolding more_step
  more_off l h whole left b (lex s (binary_op op) ∷ r) stops = if_false (nat_le l (level_of op)) _ _ (gt_test l (level_of op) stops) (gives mark)
  more_off l h whole left b [] stops = gives mark
  more_off l h whole left b (lex s t ∷ r) stops = gives mark

  more_on : (l : ℕ) (h : Bool) (whole : Lexemes) (left : Expr S) (b : Bool) (s : Span) (op : BinOp) (mid : Lexemes) (right : Expr S) (c : Bool) (r : Lexemes) → l ≤ level_of op → is_func_lit left ≡ false
      → at mark (read_expr (level_of op + 1) h) mid ≡ Some ((right, c), r) → is_func_lit right ≡ false
      → Runs mark (more_step mark l h whole left b (lex s (binary_op op) ∷ mid)) (at mark (read_more l h whole (binary (mark whole r) op left right) true) r)
  unfolding more_step
  more_on l h whole left b s op mid right c r le free_left e free_right =
      if_true (nat_le l (level_of op)) _ _ (le_test l (level_of op) le) (passes mark free_left (asks mark e (passes mark free_right (tails_more mark))))

  any_of : (l : ℕ) (h : Bool) (e : Expr S) (b : Bool) (ts r : Lexemes) → at mark (read_unary h) ts ≡ Some ((e, b), r) → at mark (read_expr l h) ts ≡ at mark (read_more l h ts e b) r
  unfolding expr_step
  any_of l h e b ts r q = finish mark (read_expr l h) ts (asks mark q (tails_more mark))

  from_primary : (l : ℕ) (h : Bool) (e : Expr S) (b : Bool) (ts r : Lexemes) → begins_expr ts ≡ true → (Plain h r → at mark (read_unary h) ts ≡ at mark (read_postfix h ts e b) r) → Full l h e b ts r
  from_primary l h e b ts r begins q =
      let one : Plain h r → is_still r ≡ true → at mark (read_unary h) ts ≡ Some ((e, b), r) = λ p s. q p ∙ finish mark (read_postfix h ts e b) r (postfix_done h ts e b r s) in
      record { begins = begins; primary = λ le. q; unary = λ le. one; any = λ p s low m le. any_of m h e b ts r (one p s) }

  from_unary : (l : ℕ) (h : Bool) (e : Expr S) (b : Bool) (ts r : Lexemes) → l ≤ 6 → begins_expr ts ≡ true → (Plain h r → is_still r ≡ true → at mark (read_unary h) ts ≡ Some ((e, b), r)) → Full l h e b ts r
  from_unary l h e b ts r le6 begins one =
      record { begins = begins; primary = λ le. absurd (omega (arith, le, le6)); unary = λ le. one; any = λ p s low m le. any_of m h e b ts r (one p s) }

  -- all of an expression of a level
  pub whole_expr : (l : ℕ) (h : Bool) (e : Expr S) (b : Bool) (ts r : Lexemes) → Full l h e b ts r → Plain h r → ends_expr r ≡ true → at mark (read_expr l h) ts ≡ Some ((e, b), r)
  whole_expr l h e b ts r f p s =
      f.any p (still_ends r s) (low_stops l r (stops_ends l r s)) l (omega arith) ∙ finish mark (read_more l h ts e b) r (more_off l h ts e b r (stops_ends l r s))

  pub operand_reads : (h : Bool) (e : Expr S) (ts r : Lexemes) → Operand 1 h e ts r → Plain h r → ends_expr r ≡ true → at mark (read_operand h) ts ≡ Some (e, r)
  unfolding operand_step
  operand_reads h e ts r f p s = finish mark (read_operand h) ts (asks mark (whole_expr 1 h e f.bare ts r f.full p s) (passes mark f.free (gives mark)))

  -- ---- operands

  word_go : (h : Bool) (s : Span) (n : List ℕ) (r : Lexemes) → Plain h r → Runs mark (word_step mark h s n r) (at mark (read_postfix h (lex s (terminal.ident n) ∷ r) (ident (mark (lex s (terminal.ident n) ∷ r) r) n) true) r)
  word_go true s n r p = tails_postfix mark
  word_go false s n (lex b brace ∷ r) p = absurd cc
  word_go false s n (lex d dot ∷ lex c (terminal.ident m) ∷ lex b brace ∷ r) p = absurd cc
  word_go false s n _ p = tails_postfix mark

  pub ident_full : (l : ℕ) (h : Bool) (s : Span) (n : List ℕ) (r : Lexemes) → Full l h (ident (mark (lex s (terminal.ident n) ∷ r) r) n) true (lex s (terminal.ident n) ∷ r) r
  unfolding unary_step
  ident_full l h s n r = from_primary l h (ident (mark (lex s (terminal.ident n) ∷ r) r) n) true (lex s (terminal.ident n) ∷ r) r refl (λ p. finish mark (read_unary h) (lex s (terminal.ident n) ∷ r) (word_go h s n r p))

  pub int_full : (l : ℕ) (h : Bool) (s : Span) (n : List ℕ) (r : Lexemes) → Full l h (int_lit (mark (lex s (terminal.int_lit n) ∷ r) r) n) true (lex s (terminal.int_lit n) ∷ r) r
  unfolding unary_step
  int_full l h s n r = from_primary l h (int_lit (mark (lex s (terminal.int_lit n) ∷ r) r) n) true (lex s (terminal.int_lit n) ∷ r) r refl (λ p. finish mark (read_unary h) (lex s (terminal.int_lit n) ∷ r) (tails_postfix mark))

  pub rune_full : (l : ℕ) (h : Bool) (s : Span) (n : List ℕ) (r : Lexemes) → Full l h (rune_lit (mark (lex s (terminal.rune_lit n) ∷ r) r) n) true (lex s (terminal.rune_lit n) ∷ r) r
  unfolding unary_step
  rune_full l h s n r = from_primary l h (rune_lit (mark (lex s (terminal.rune_lit n) ∷ r) r) n) true (lex s (terminal.rune_lit n) ∷ r) r refl (λ p. finish mark (read_unary h) (lex s (terminal.rune_lit n) ∷ r) (tails_postfix mark))

  pub text_full : (l : ℕ) (h : Bool) (s : Span) (n : List ℕ) (r : Lexemes) → Full l h (str_lit (mark (lex s (terminal.str_lit n) ∷ r) r) n) true (lex s (terminal.str_lit n) ∷ r) r
  unfolding unary_step
  text_full l h s n r = from_primary l h (str_lit (mark (lex s (terminal.str_lit n) ∷ r) r) n) true (lex s (terminal.str_lit n) ∷ r) r refl (λ p. finish mark (read_unary h) (lex s (terminal.str_lit n) ∷ r) (tails_postfix mark))

  pub parens_full : (l : ℕ) (h : Bool) (s c : Span) (e : Expr S) (ts r : Lexemes) → Held 1 false e ts (lex c end_paren ∷ r) → Full l h e false (lex s paren ∷ ts) r
  unfolding unary_step
  parens_full l h s c e ts r f =
      from_primary l h e false (lex s paren ∷ ts) r refl (λ p. finish mark (read_unary h) (lex s paren ∷ ts)
      (asks mark (whole_expr 1 false e f.bare ts (lex c end_paren ∷ r) f.full refl refl) (tails_postfix mark)))

  pub func_full : (l : ℕ) (h : Bool) (s b : Span) (g : Sig S) (sb : S) (body : Stmts S) (ts mid r : Lexemes) → SpellsSig mark false g ts (lex b brace ∷ mid) → at mark read_block (lex b brace ∷ mid) ≡ Some ((sb, body), r)
      → Full l h (func_lit (mark (lex s key_func ∷ ts) r) g sb body) true (lex s key_func ∷ ts) r
  unfolding unary_step
  func_full l h s b g sb body ts mid r d e =
      from_primary l h (func_lit (mark (lex s key_func ∷ ts) r) g sb body) true (lex s key_func ∷ ts) r refl (λ p. finish mark (read_unary h) (lex s key_func ∷ ts)
      (asks mark (sig_reads mark d refl) (asks mark e (tails_postfix mark))))

  -- ---- types as operands and before composite literals

  type_go : {o : Option ((Expr S × Bool) × Lexemes)} (h : Bool) (ts : Lexemes) → starts_type ts ≡ true → Runs mark (type_first mark h ts) o → Runs mark (unary_step mark h ts) o
  unfolding unary_step
  type_go h (lex s bracket ∷ ts) e k = k
  type_go h (lex s key_map ∷ ts) e k = k
  type_go h (lex s key_struct ∷ ts) e k = k
  type_go h _ e k = absurd cc

  type_after_go : (h : Bool) (whole : Lexemes) (t : TypeExpr S) (r : Lexemes) → follows_type r ≡ true → Runs mark (type_after mark h whole t r) (at mark (read_postfix h whole (type_operand (mark whole r) t) true) r)
  type_after_go h whole t (lex s paren ∷ r) e = tails_postfix mark
  type_after_go h whole t (lex s comma ∷ r) e = tails_postfix mark
  type_after_go h whole t (lex s end_paren ∷ r) e = tails_postfix mark
  type_after_go h whole t _ e = absurd cc

  pub type_full : (l : ℕ) (h : Bool) (t : TypeExpr S) (ts r : Lexemes) → starts_type ts ≡ true → SpellsType mark t ts r → follows_type r ≡ true → Full l h (type_operand (mark ts r) t) true ts r
  type_full l h t ts r starts d follows =
      from_primary l h (type_operand (mark ts r) t) true ts r (type_begins_expr ts starts) (λ p. finish mark (read_unary h) ts
      (type_go h ts starts (asks mark (type_reads mark d (follows_undotted r follows)) (type_after_go h ts t r follows))))

  literal_begins : {h : Bool} {t : TypeExpr S} {ts r : Lexemes} → SpellsLiteralType mark h t ts r → begins_expr ts ≡ true
  literal_begins named_literal_rule = refl
  literal_begins qualified_literal_rule = refl
  literal_begins (type_literal_rule {ts = ts} starts d) = type_begins_expr ts starts

  literal_go : {h : Bool} {t : TypeExpr S} {ts r : Lexemes} {es : Elems S} {b e : Span} {mid : Lexemes} → SpellsLiteralType mark h t ts (lex b brace ∷ mid) → at mark read_elems mid ≡ Some (es, lex e end_brace ∷ r)
      → Runs mark (unary_step mark h ts) (at mark (read_postfix h ts (composite (mark ts r) t es) true) r)
  unfolding unary_step
  literal_go named_literal_rule q = asks mark q (tails_postfix mark)
  literal_go qualified_literal_rule q = asks mark q (tails_postfix mark)
  literal_go {h} (type_literal_rule {ts = ts} starts d) q = type_go h ts starts (asks mark (type_reads mark d refl) (asks mark q (tails_postfix mark)))

  pub composite_full : (l : ℕ) (h : Bool) (t : TypeExpr S) (es : Elems S) (b e : Span) (ts mid r : Lexemes) → SpellsLiteralType mark h t ts (lex b brace ∷ mid) → at mark read_elems mid ≡ Some (es, lex e end_brace ∷ r)
      → Full l h (composite (mark ts r) t es) true ts r
  composite_full l h t es b e ts mid r d q = from_primary l h (composite (mark ts r) t es) true ts r (literal_begins d) (λ p. finish mark (read_unary h) ts (literal_go d q))

  -- ---- what follows an operand

  pub selector_full : (l : ℕ) (h : Bool) (d s : Span) (n : List ℕ) (e : Expr S) (ts r : Lexemes) → Operand 7 h e ts (lex d dot ∷ lex s (terminal.ident n) ∷ r) → Full l h (selector (mark ts r) e (name_here mark s n r)) true ts r
  unfolding postfix_step
  selector_full l h d s n e ts r f =
      from_primary l h (selector (mark ts r) e (name_here mark s n r)) true ts r f.full.begins (λ p.
      f.full.primary (omega arith) (plain_dot h d s n r p) ∙ finish mark (read_postfix h ts e f.bare) (lex d dot ∷ lex s (terminal.ident n) ∷ r) (passes mark f.free (tails_postfix mark)))

  pub call_full : (l : ℕ) (h : Bool) (b : Span) (e : Expr S) (xs : Exprs S) (rest : Rest) (ts mid r : Lexemes) → Held 7 h e ts (lex b paren ∷ mid) → at mark read_args mid ≡ Some ((xs, rest), r) → Full l h (call (mark ts r) e xs rest) true ts r
  unfolding postfix_step
  call_full l h b e xs rest ts mid r f q =
      from_primary l h (call (mark ts r) e xs rest) true ts r f.full.begins (λ p.
      f.full.primary (omega arith) (plain_any h (lex b paren ∷ mid) refl) ∙ finish mark (read_postfix h ts e f.bare) (lex b paren ∷ mid) (asks mark q (tails_postfix mark)))

  bracket_go : {o : Option ((Expr S × Bool) × Lexemes)} (h : Bool) (whole : Lexemes) (base : Expr S) (ts : Lexemes) → begins_expr ts ≡ true → Runs mark (ask (read_operand false) ts (λ x r. bracket_after mark h whole base x r)) o → Runs mark (bracket_step mark h whole base ts) o
  bracket_go h whole base (lex c colon ∷ ts) e k = absurd cc
  bracket_go h whole base _ e k = k

  high_go : (h : Bool) (whole : Lexemes) (base : Expr S) (low : ExprOption S) (e : Expr S) (c : Span) (ts r : Lexemes) → begins_expr ts ≡ true → at mark (read_operand false) ts ≡ Some (e, lex c end_bracket ∷ r)
      → Runs mark (bracket_high mark h whole base low ts) (at mark (read_postfix h whole (slice (mark whole r) base low (some_expr e)) true) r)
  high_go h whole base low e c (lex d end_bracket ∷ ts) r b q = absurd cc
  high_go h whole base low e c _ r b q = asks mark q (tails_postfix mark)

  pub index_full : (l : ℕ) (h : Bool) (b c : Span) (e i : Expr S) (ts mid r : Lexemes) → Operand 7 h e ts (lex b bracket ∷ mid) → Operand 1 false i mid (lex c end_bracket ∷ r) → Full l h (index (mark ts r) e i) true ts r
  unfolding postfix_step
  index_full l h b c e i ts mid r f k =
      from_primary l h (index (mark ts r) e i) true ts r f.full.begins (λ p.
      f.full.primary (omega arith) (plain_any h (lex b bracket ∷ mid) refl)
      ∙ finish mark (read_postfix h ts e f.bare) (lex b bracket ∷ mid) (passes mark f.free (bracket_go h ts e mid k.full.begins (asks mark (operand_reads false i mid (lex c end_bracket ∷ r) k refl refl) (tails_postfix mark)))))

  low_go : {o : Option ((Expr S × Bool) × Lexemes)} (h : Bool) (whole : Lexemes) (base : Expr S) {low : ExprOption S} {ts : Lexemes} {c : Span} {mid : Lexemes} → Maybe false low ts (lex c colon ∷ mid) → Runs mark (bracket_high mark h whole base low mid) o
      → Runs mark (bracket_step mark h whole base ts) o
  low_go h whole base absent k = k
  low_go h whole base {c = c} {mid = mid} (present {e = e} {ts = ts} f) k = bracket_go h whole base ts f.full.begins (asks mark (operand_reads false e ts (lex c colon ∷ mid) f refl refl) k)

  top_go : (h : Bool) (whole : Lexemes) (base : Expr S) (low : ExprOption S) {high : ExprOption S} {ts : Lexemes} {c : Span} {r : Lexemes} → Maybe false high ts (lex c end_bracket ∷ r)
      → Runs mark (bracket_high mark h whole base low ts) (at mark (read_postfix h whole (slice (mark whole r) base low high) true) r)
  top_go h whole base low absent = tails_postfix mark
  top_go h whole base low {c = c} {r = r} (present {e = e} {ts = ts} f) = high_go h whole base low e c ts r f.full.begins (operand_reads false e ts (lex c end_bracket ∷ r) f refl refl)

  pub slice_full : (l : ℕ) (h : Bool) (b c d : Span) (e : Expr S) (i j : ExprOption S) (ts a mid r : Lexemes) → Operand 7 h e ts (lex b bracket ∷ a) → Maybe false i a (lex c colon ∷ mid) → Maybe false j mid (lex d end_bracket ∷ r)
      → Full l h (slice (mark ts r) e i j) true ts r
  unfolding postfix_step
  slice_full l h b c d e i j ts a mid r f low high =
      from_primary l h (slice (mark ts r) e i j) true ts r f.full.begins (λ p.
      f.full.primary (omega arith) (plain_any h (lex b bracket ∷ a) refl)
      ∙ finish mark (read_postfix h ts e f.bare) (lex b bracket ∷ a) (passes mark f.free (low_go h ts e low (top_go h ts e i high))))

  -- ---- operators

  unary_go : {o : Option ((Expr S × Bool) × Lexemes)} (h : Bool) (s : Span) (op : UnOp) (ts : Lexemes) → Runs mark (prefix_step mark h (lex s (unary_sign op) ∷ ts) op ts) o → Runs mark (unary_step mark h (lex s (unary_sign op) ∷ ts)) o
  unfolding unary_step
  unary_go h s Plus ts k = k
  unary_go h s Minus ts k = k
  unary_go h s Not ts k = k
  unary_go h s Flip ts k = k
  unary_go h s Address ts k = k

  unary_begins : (s : Span) (op : UnOp) (ts : Lexemes) → begins_expr (lex s (unary_sign op) ∷ ts) ≡ true
  unary_begins s Plus ts = refl
  unary_begins s Minus ts = refl
  unary_begins s Not ts = refl
  unary_begins s Flip ts = refl
  unary_begins s Address ts = refl

  pub unary_full : (l : ℕ) (h : Bool) (s : Span) (op : UnOp) (e : Expr S) (ts r : Lexemes) → l ≤ 6 → Operand 6 h e ts r → Full l h (unary (mark (lex s (unary_sign op) ∷ ts) r) op e) true (lex s (unary_sign op) ∷ ts) r
  unary_full l h s op e ts r le f =
      from_unary l h (unary (mark (lex s (unary_sign op) ∷ ts) r) op e) true (lex s (unary_sign op) ∷ ts) r le (unary_begins s op ts) (λ p q. finish mark (read_unary h) (lex s (unary_sign op) ∷ ts)
      (unary_go h s op ts (asks mark (f.full.unary (omega arith) p q) (passes mark f.free (gives mark)))))

  pub star_full : (l : ℕ) (h : Bool) (s : Span) (e : Expr S) (ts r : Lexemes) → l ≤ 6 → Operand 6 h e ts r → Full l h (star (mark (lex s (binary_op Mul) ∷ ts) r) e) true (lex s (binary_op Mul) ∷ ts) r
  unfolding unary_step
  star_full l h s e ts r le f =
      from_unary l h (star (mark (lex s (binary_op Mul) ∷ ts) r) e) true (lex s (binary_op Mul) ∷ ts) r le refl (λ p q. finish mark (read_unary h) (lex s (binary_op Mul) ∷ ts)
      (asks mark (f.full.unary (omega arith) p q) (passes mark f.free (gives mark))))

  right_reads : (l n : ℕ) (h : Bool) (e : Expr S) (ts r : Lexemes) → l < n → Operand n h e ts r → Plain h r → is_still r ≡ true → Low l r → (b : Bool) × (at mark (read_expr n h) ts ≡ Some ((e, b), r))
  right_reads l n h e ts r lt f p q low =
      let stops = stops_low l n r low lt in
      (f.bare, f.full.any p q (low_stops n r stops) n (omega arith) ∙ finish mark (read_more n h ts e f.bare) r (more_off n h ts e f.bare r stops))

  pub binary_full : (l : ℕ) (h : Bool) (s : Span) (op : BinOp) (a b : Expr S) (ts mid r : Lexemes) → l ≤ level_of op → Operand (level_of op) h a ts (lex s (binary_op op) ∷ mid) → Operand (level_of op + 1) h b mid r
      → Full l h (binary (mark ts r) op a b) true ts r
  binary_full l h s op a b ts mid r le f k =
      record {
        begins = f.full.begins;
        primary = λ q. absurd (omega (arith, q, le, level_most op));
        unary = λ q. absurd (omega (arith, q, le, level_most op));
        any = λ p q low m lm.
            let right = right_reads l (level_of op + 1) h b mid r (omega (arith, le)) k p q low in
            f.full.any (plain_any h (lex s (binary_op op) ∷ mid) refl) refl (omega arith) m (omega (arith, lm, le))
            ∙ finish mark (read_more m h ts a f.bare) (lex s (binary_op op) ∷ mid) (more_on m h ts a f.bare s op mid b right.0 r (omega (arith, lm, le)) f.free right.1 k.free);
      }

  -- ---- lists of expressions

  -- what closes a list of arguments
  pub data Closes : Rest → Lexemes → Lexemes → Type 0 where
    closed : {c : Span} {r : Lexemes} → Closes handed.Plain (lex c end_paren ∷ r) r
    closed_after_comma : {d c : Span} {r : Lexemes} → Closes handed.Plain (lex d comma ∷ lex c end_paren ∷ r) r
    closed_rest : {a c : Span} {r : Lexemes} → Closes handed.Whole (lex a ellipsis ∷ lex c end_paren ∷ r) r
    closed_rest_after_comma : {a d c : Span} {r : Lexemes} → Closes handed.Whole (lex a ellipsis ∷ lex d comma ∷ lex c end_paren ∷ r) r

  abbrev pub Args : Bool → Exprs S → Lexemes → Lexemes → Type 0
  Args true xs ts r = Unit {0}
  Args false xs ts r = (rest : Rest) (r2 : Lexemes) → Closes rest r r2 → at mark read_args ts ≡ Some ((xs, rest), r2)

  pub record List_of (h : Bool) (xs : Exprs S) (ts r : Lexemes) : Type 0 where
    pub begins : begins_expr ts ≡ true
    pub reads : Plain h r → ends_exprs r ≡ true → at mark (read_exprs h) ts ≡ Some (xs, r)
    pub args : Args h xs ts r

  exprs_done : (h : Bool) (e : Expr S) (r : Lexemes) → ends_exprs r ≡ true → Runs mark (exprs_after mark h e r) (Some (expr_and e no_exprs, r))
  exprs_done h e (lex c comma ∷ r) q = absurd cc
  exprs_done h e _ q = gives mark

  args_go : {o : Option ((Exprs S × Rest) × Lexemes)} (ts : Lexemes) → begins_expr ts ≡ true → Runs mark (ask (read_operand false) ts (λ e r. args_after mark e r)) o → Runs mark (args_step mark ts) o
  unfolding args_step
  args_go (lex c end_paren ∷ ts) b k = absurd cc
  args_go _ b k = k

  pub no_args_reads : (c : Span) (r : Lexemes) → at mark read_args (lex c end_paren ∷ r) ≡ Some ((no_exprs, handed.Plain), r)
  unfolding args_step
  no_args_reads c r = finish mark read_args (lex c end_paren ∷ r) (gives mark)

  last_args : (e : Expr S) (ts : Lexemes) {rest : Rest} {r r2 : Lexemes} → Operand 1 false e ts r → Closes rest r r2 → at mark read_args ts ≡ Some ((expr_and e no_exprs, rest), r2)
  last_args e ts f (closed {c = c} {r = r}) = finish mark read_args ts (args_go ts f.full.begins (asks mark (operand_reads false e ts (lex c end_paren ∷ r) f refl refl) (gives mark)))
  last_args e ts f (closed_after_comma {d = d} {c = c} {r = r}) =
      finish mark read_args ts (args_go ts f.full.begins (asks mark (operand_reads false e ts (lex d comma ∷ lex c end_paren ∷ r) f refl refl) (asks mark (no_args_reads c r) (gives mark))))
  last_args e ts f (closed_rest {a = a} {c = c} {r = r}) =
      finish mark read_args ts (args_go ts f.full.begins (asks mark (operand_reads false e ts (lex a ellipsis ∷ lex c end_paren ∷ r) f refl refl) (gives mark)))
  last_args e ts f (closed_rest_after_comma {a = a} {d = d} {c = c} {r = r}) =
      finish mark read_args ts (args_go ts f.full.begins (asks mark (operand_reads false e ts (lex a ellipsis ∷ lex d comma ∷ lex c end_paren ∷ r) f refl refl) (gives mark)))

  last_args_of : (h : Bool) (e : Expr S) (ts r : Lexemes) → Operand 1 h e ts r → Args h (expr_and e no_exprs) ts r
  last_args_of true e ts r f = tt
  last_args_of false e ts r f = λ rest r2 c. last_args e ts f c

  pub last_list : (h : Bool) (e : Expr S) (ts r : Lexemes) → Operand 1 h e ts r → List_of h (expr_and e no_exprs) ts r
  unfolding exprs_step
  last_list h e ts r f = record {
    begins = f.full.begins;
    reads = λ p q. finish mark (read_exprs h) ts (asks mark (operand_reads h e ts r f p (ends_list r q)) (exprs_done h e r q));
    args = last_args_of h e ts r f;
  }

  more_args_of : (h : Bool) (c : Span) (e : Expr S) (es : Exprs S) (ts mid r : Lexemes) → Operand 1 h e ts (lex c comma ∷ mid) → Args h es mid r → Args h (expr_and e es) ts r
  more_args_of true c e es ts mid r f k = tt
  more_args_of false c e es ts mid r f k = λ rest r2 d. finish mark read_args ts (args_go ts f.full.begins (asks mark (operand_reads false e ts (lex c comma ∷ mid) f refl refl) (asks mark (k rest r2 d) (gives mark))))

  pub more_list : (h : Bool) (c : Span) (e : Expr S) (es : Exprs S) (ts mid r : Lexemes) → Operand 1 h e ts (lex c comma ∷ mid) → List_of h es mid r → List_of h (expr_and e es) ts r
  unfolding exprs_step
  more_list h c e es ts mid r f k = record {
    begins = f.full.begins;
    reads = λ p q. finish mark (read_exprs h) ts (asks mark (operand_reads h e ts (lex c comma ∷ mid) f (plain_any h (lex c comma ∷ mid) refl) refl) (asks mark (k.reads p q) (gives mark)));
    args = more_args_of h c e es ts mid r f k.args;
  }
