-- What spells the elements of a composite literal is read as them, from what is known of their parts.
use Rattle.std.proofs.Common.{◌≡◌, Bool, true, false, ◌∷◌, Option, Some, refl}
use Rattle.go_tree.specs.declared.spans.Span.{Span}
use Rattle.go_tree.specs.Tree.{Expr, Elems, Value, ValueOption, no_elems, elem, plain, braced, no_value, some_value}
use Rattle.go_tree.specs.GoWords.Terminals.{lex, comma, colon, brace, end_brace}
use Rattle.go_read.specs.SpellsTypes.{Lexemes}
use Rattle.go_read.specs.Goals.{read_operand, read_elems, read_elem, read_value}
use Rattle.go_read.specs.Programs.{give, ask}
use Rattle.go_read.specs.ReadExprs.{elems_after, elems_step, elem_after, elem_step, value_step}
use Rattle.go_read.specs.Reading.{at}
use Rattle.go_read.specs.Follows.{ends_expr, literal_follows}
use Rattle.go_read.proofs.Finds.{Runs, gives, asks, finish, is_end_brace, begins_expr}
use Rattle.go_read.proofs.CompleteExprs.{Operand, operand_reads}

-- what may follow a value, and an element
abbrev pub ends_value : Lexemes → Bool
ends_value (lex _ comma ∷ _) = true
ends_value (lex _ end_brace ∷ _) = true
ends_value (lex _ colon ∷ _) = true
ends_value _ = false

abbrev pub ends_elem : Lexemes → Bool
ends_elem (lex _ comma ∷ _) = true
ends_elem (lex _ end_brace ∷ _) = true
ends_elem _ = false

elem_value : (r : Lexemes) → ends_elem r ≡ true → ends_value r ≡ true
elem_value (lex _ comma ∷ _) e = refl
elem_value (lex _ end_brace ∷ _) e = refl
elem_value _ e = absurd cc

value_expr : (r : Lexemes) → ends_value r ≡ true → ends_expr r ≡ true
value_expr (lex _ comma ∷ _) e = refl
value_expr (lex _ end_brace ∷ _) e = refl
value_expr (lex _ colon ∷ _) e = refl
value_expr _ e = absurd cc

value_plain : (r : Lexemes) → ends_value r ≡ true → literal_follows r ≡ false
value_plain (lex _ comma ∷ _) e = refl
value_plain (lex _ end_brace ∷ _) e = refl
value_plain (lex _ colon ∷ _) e = refl
value_plain _ e = absurd cc

expr_open : (ts : Lexemes) → begins_expr ts ≡ true → is_end_brace ts ≡ false
expr_open (lex _ end_brace ∷ _) e = absurd cc
expr_open _ e = refl

module _ {S : Type 0} (mark : Lexemes → Lexemes → S) where
  pub record Val (v : Value S) (ts r : Lexemes) : Type 0 where
    pub inside : is_end_brace ts ≡ false
    pub reads : ends_value r ≡ true → at mark read_value ts ≡ Some (v, r)

  pub record Element (k : ValueOption S) (v : Value S) (ts r : Lexemes) : Type 0 where
    pub inside : is_end_brace ts ≡ false
    pub reads : ends_elem r ≡ true → at mark read_elem ts ≡ Some ((k, v), r)

  abbrev pub Elements : Elems S → Lexemes → Lexemes → Type 0
  Elements es ts r = is_end_brace r ≡ true → at mark read_elems ts ≡ Some (es, r)

  value_go : {o : Option (Value S × Lexemes)} (ts : Lexemes) → begins_expr ts ≡ true → Runs mark (ask (read_operand false) ts (λ e r. give (plain e) r)) o → Runs mark (value_step mark ts) o
  unfolding value_step
  value_go (lex s brace ∷ ts) b k = absurd cc
  value_go _ b k = k

  pub plain_value : (e : Expr S) (ts r : Lexemes) → Operand mark 1 false e ts r → Val (plain e) ts r
  plain_value e ts r f = record {
    inside = expr_open ts f.full.begins;
    reads = λ q. finish mark read_value ts (value_go ts f.full.begins (asks mark (operand_reads mark false e ts r f (value_plain r q) (value_expr r q)) (gives mark)));
  }

  pub braced_value : (s c : Span) (es : Elems S) (ts r : Lexemes) → Elements es ts (lex c end_brace ∷ r) → Val (braced (mark (lex s brace ∷ ts) r) es) (lex s brace ∷ ts) r
  unfolding value_step
  braced_value s c es ts r k = record { inside = refl; reads = λ q. finish mark read_value (lex s brace ∷ ts) (asks mark (k refl) (gives mark)) }

  elem_done : (v : Value S) (r : Lexemes) → ends_elem r ≡ true → Runs mark (elem_after mark v r) (Some ((no_value, v), r))
  elem_done v (lex c colon ∷ r) q = absurd cc
  elem_done v _ q = gives mark

  pub value_elem : (v : Value S) (ts r : Lexemes) → Val v ts r → Element no_value v ts r
  unfolding elem_step
  value_elem v ts r f = record { inside = f.inside; reads = λ q. finish mark read_elem ts (asks mark (f.reads (elem_value r q)) (elem_done v r q)) }

  pub keyed_elem : (c : Span) (k v : Value S) (ts mid r : Lexemes) → Val k ts (lex c colon ∷ mid) → Val v mid r → Element (some_value k) v ts r
  unfolding elem_step
  keyed_elem c k v ts mid r f g = record { inside = f.inside; reads = λ q. finish mark read_elem ts (asks mark (f.reads refl) (asks mark (g.reads (elem_value r q)) (gives mark))) }

  elems_none : (r : Lexemes) → is_end_brace r ≡ true → Runs mark (elems_step mark r) (Some (no_elems, r))
  unfolding elems_step
  elems_none (lex c end_brace ∷ r) q = gives mark
  elems_none _ q = absurd cc

  elems_go : {o : Option (Elems S × Lexemes)} (ts : Lexemes) → is_end_brace ts ≡ false → Runs mark (ask read_elem ts (λ x r. elems_after mark ts x r)) o → Runs mark (elems_step mark ts) o
  unfolding elems_step
  elems_go (lex c end_brace ∷ ts) q k = absurd cc
  elems_go _ q k = k

  elems_done : (whole : Lexemes) (x : ValueOption S × Value S) (r : Lexemes) → is_end_brace r ≡ true → Runs mark (elems_after mark whole x r) (Some (elem (mark whole r) x.0 x.1 no_elems, r))
  elems_done whole x (lex c end_brace ∷ r) q = gives mark
  elems_done whole x _ q = absurd cc

  brace_ends : (r : Lexemes) → is_end_brace r ≡ true → ends_elem r ≡ true
  brace_ends (lex c end_brace ∷ r) q = refl
  brace_ends _ q = absurd cc

  pub no_elements : (r : Lexemes) → Elements no_elems r r
  no_elements r q = finish mark read_elems r (elems_none r q)

  pub last_element : (k : ValueOption S) (v : Value S) (ts r : Lexemes) → Element k v ts r → Elements (elem (mark ts r) k v no_elems) ts r
  last_element k v ts r f q = finish mark read_elems ts (elems_go ts f.inside (asks mark (f.reads (brace_ends r q)) (elems_done ts (k, v) r q)))

  pub more_elements : (c : Span) (k : ValueOption S) (v : Value S) (es : Elems S) (ts mid r : Lexemes) → Element k v ts (lex c comma ∷ mid) → Elements es mid r → Elements (elem (mark ts (lex c comma ∷ mid)) k v es) ts r
  more_elements c k v es ts mid r f g q = finish mark read_elems ts (elems_go ts f.inside (asks mark (f.reads refl) (asks mark (g q) (gives mark))))
