-- One tree: what tokens spell is what is read of them.
use Rattle.std.proofs.Common.{◌≡◌, ◌≢◌, ℕ, ◌+◌, ◌≤◌, Bool, true, false, List, [], ◌∷◌, length, Option, Some, None, refl, sym, ap, subst, ◌∙◌, arith, inl, inr}
use Rattle.go_tree.specs.declared.spans.Span.{Span}
use Rattle.go_tree.specs.declared.tokens.Token.{Token}
use Rattle.go_tree.specs.Tree.{TypeExpr, Expr, Stmt}
use Rattle.go_tree.specs.File.{File}
use Rattle.go_tree.specs.GoWords.Terminals.{lexemes}
use Rattle.go_read.specs.SpellsSpans.{span_to, start_of}
use Rattle.go_read.specs.SpellsTypes.{Lexemes, SpellsType}
use Rattle.go_read.specs.Spells.{SpellsOperand, SpellsStmt}
use Rattle.go_read.specs.SpellsFiles.{SpellsFront, SpellsFile}
use Rattle.go_read.specs.Goals.{Goal, Answer, least, read_type, read_operand, read_stmt, read_front}
use Rattle.go_read.specs.Follows.{is_dotted, ends_expr, Plain, closes_stmt}
use Rattle.go_read.specs.Fronts.{IsLongestFront, HasNoFront, first_or_end, IsRefusedAt}
use Rattle.go_read.specs.Reading.{at}
use Rattle.go_read.proofs.Sound.{at_sound}
use Rattle.go_read.proofs.CompleteTypes.{type_reads}
use Rattle.go_read.proofs.CompleteExprs.{operand_reads}
use Rattle.go_read.proofs.Complete.{operand, stmt}
use Rattle.go_read.proofs.CompleteFiles.{Ahead, ahead_length, front_longest, file_reads}

same_answer : {A : Type 0} (o : Option A) (x y : A) → o ≡ Some x → o ≡ Some y → x ≡ y
same_answer o x y p q = cc

none_not_some : {A : Type 0} (o : Option A) (x : A) → o ≡ None → o ≡ Some x → ⊥
none_not_some o x p q = cc

module _ {S : Type 0} (mark : Lexemes → Lexemes → S) where
  pub type_read : (t : TypeExpr S) (ts r : Lexemes) → SpellsType mark t ts r → is_dotted r ≡ false → at mark read_type ts ≡ Some (t, r)
  type_read t ts r d q = type_reads mark d q

  pub operand_read : (h : Bool) (e : Expr S) (ts r : Lexemes) → SpellsOperand mark 1 h e ts r → Plain h r → ends_expr r ≡ true → at mark (read_operand h) ts ≡ Some (e, r)
  operand_read h e ts r d p q = operand_reads mark h e ts r (operand mark d) p q

  pub stmt_read : (x : Stmt S) (ts r : Lexemes) → SpellsStmt mark x ts r → closes_stmt r ≡ true → at mark read_stmt ts ≡ Some (x, r)
  stmt_read x ts r d q = (stmt mark d).reads q

  pub front_read : (f : File S) (ts : Lexemes) → SpellsFront mark f ts [] → at mark read_front ts ≡ Some (f, [])
  front_read f ts d = file_reads mark d

  pub type_one : (t u : TypeExpr S) (ts r : Lexemes) → is_dotted r ≡ false → SpellsType mark t ts r → SpellsType mark u ts r → t ≡ u
  type_one t u ts r q d k = ap (λ (x : TypeExpr S × Lexemes). x.0) (same_answer (at mark read_type ts) (t, r) (u, r) (type_read t ts r d q) (type_read u ts r k q))

  pub operand_one : (h : Bool) (e i : Expr S) (ts r : Lexemes) → Plain h r → ends_expr r ≡ true → SpellsOperand mark 1 h e ts r → SpellsOperand mark 1 h i ts r → e ≡ i
  operand_one h e i ts r p q d k = ap (λ (x : Expr S × Lexemes). x.0) (same_answer (at mark (read_operand h) ts) (e, r) (i, r) (operand_read h e ts r d p q) (operand_read h i ts r k p q))

  pub stmt_one : (x y : Stmt S) (ts r : Lexemes) → closes_stmt r ≡ true → SpellsStmt mark x ts r → SpellsStmt mark y ts r → x ≡ y
  stmt_one x y ts r q d k = ap (λ (x : Stmt S × Lexemes). x.0) (same_answer (at mark read_stmt ts) (x, r) (y, r) (stmt_read x ts r d q) (stmt_read y ts r k q))

  pub front_one : (f g : File S) (ts : Lexemes) → SpellsFront mark f ts [] → SpellsFront mark g ts [] → f ≡ g
  front_one f g ts d k = ap (λ (x : File S × Lexemes). x.0) (same_answer (at mark read_front ts) (f, []) (g, []) (front_read f ts d) (front_read g ts k))

  pub type_spelled : (t : TypeExpr S) (ts r : Lexemes) → at mark read_type ts ≡ Some (t, r) → SpellsType mark t ts r
  type_spelled t ts r e = (at_sound mark read_type ts (t, r) e).1

  pub operand_spelled : (h : Bool) (i : Expr S) (ts r : Lexemes) → at mark (read_operand h) ts ≡ Some (i, r) → SpellsOperand mark 1 h i ts r
  operand_spelled h i ts r e = (at_sound mark (read_operand h) ts (i, r) e).1

  pub stmt_spelled : (x : Stmt S) (ts r : Lexemes) → at mark read_stmt ts ≡ Some (x, r) → SpellsStmt mark x ts r
  stmt_spelled x ts r e = (at_sound mark read_stmt ts (x, r) e).1

  pub front_spelled : (f : File S) (ts r : Lexemes) → at mark read_front ts ≡ Some (f, r) → SpellsFront mark f ts r
  front_spelled f ts r e = (at_sound mark read_front ts (f, r) e).1

  pub taken : (g : Goal S) (ts : Lexemes) (x : Answer g) (r : Lexemes) → at mark g ts ≡ Some (x, r) → length r + least g ≤ length ts
  taken g ts x r e = (at_sound mark g ts (x, r) e).0

-- ---- files

pub file_one : (tokens : List Token) (f g : File Span) → SpellsFile tokens f → SpellsFile tokens g → f ≡ g
file_one tokens f g d k = front_one span_to f g (lexemes tokens) d k

pub file_read : (tokens : List Token) (f : File Span) → SpellsFile tokens f → at span_to read_front (lexemes tokens) ≡ Some (f, [])
file_read tokens f d = front_read span_to f (lexemes tokens) d

pub file_spelled : (tokens : List Token) (f : File Span) → at span_to read_front (lexemes tokens) ≡ Some (f, []) → SpellsFile tokens f
file_spelled tokens f e = front_spelled span_to f (lexemes tokens) [] e

pub front_is_longest : (f : File Span) (ts r : Lexemes) → at span_to read_front ts ≡ Some (f, r) → IsLongestFront ts r
front_is_longest f ts r e = (
  (f, front_spelled span_to f ts r e),
  λ g other d.
      let m = front_longest span_to d in
      let same : r ≡ m.1 = ap (λ (x : File Span × Lexemes). x.1) (same_answer (at span_to read_front ts) (f, r) (m.0, m.1) e m.2) in
      omega (arith, ap length same, ahead_length m.3),
)

pub no_front : (ts : Lexemes) → at span_to read_front ts ≡ None → HasNoFront ts
no_front ts e f r d = let m = front_longest span_to d in none_not_some (at span_to read_front ts) (m.0, m.1) e m.2

-- the longest front is read
pub longest_is_read : (ts r : Lexemes) → IsLongestFront ts r → (f : File Span) × (at span_to read_front ts ≡ Some (f, r))
longest_is_read ts r h =
    let m = front_longest span_to h.0.1 in
    (m.0, m.2 ∙ ap (λ (s : Lexemes). Some (m.0, s)) (whole m.1 m.3 (h.1 m.0 m.1 (front_spelled span_to m.0 ts m.1 m.2))))
  where
    whole : (s : Lexemes) → Ahead s r → length r ≤ length s → s ≡ r
    whole s (inl e) le = e
    whole s (inr lt) le = absurd (omega (arith, lt, le))

pub one_longest : (ts r s : Lexemes) → IsLongestFront ts r → IsLongestFront ts s → r ≡ s
one_longest ts r s h k =
    let a = longest_is_read ts r h in
    let b = longest_is_read ts s k in
    ap (λ (x : File Span × Lexemes). x.1) (same_answer (at span_to read_front ts) (a.0, r) (b.0, s) a.1 b.1)

-- a refusal has one place, and comes exactly where no file is spelled
pub refused_once : (size : ℕ) (ts : Lexemes) (p q : ℕ) → IsRefusedAt size ts p → IsRefusedAt size ts q → p ≡ q
refused_once size ts p q (inl a) (inl b) = a.3 ∙ ap start_of (one_longest ts a.0 b.0 a.1 b.1) ∙ sym b.3
refused_once size ts p q (inl a) (inr b) = absurd (b.0 a.1.0.0 a.0 a.1.0.1)
refused_once size ts p q (inr a) (inl b) = absurd (a.0 b.1.0.0 b.0 b.1.0.1)
refused_once size ts p q (inr a) (inr b) = a.1 ∙ sym b.1

pub refused_spells_none : (size : ℕ) (ts : Lexemes) (p : ℕ) → IsRefusedAt size ts p → (f : File Span) → SpellsFront span_to f ts [] → ⊥
refused_spells_none size ts p (inl a) f d = a.2 (empty a.0 (a.1.1 f [] d))
  where
    empty : (r : Lexemes) → length r ≤ 0 → r ≡ []
    empty [] le = refl
    empty (x ∷ r) le = absurd (omega (arith, le))
refused_spells_none size ts p (inr a) f d = a.0 f [] d

pub refused_somewhere : (size : ℕ) (ts : Lexemes) → ((f : File Span) → SpellsFront span_to f ts [] → ⊥) → (p : ℕ) × IsRefusedAt size ts p
refused_somewhere size ts none = go (at span_to read_front ts) refl
  where
    kept : (f : File Span) (r : Lexemes) → at span_to read_front ts ≡ Some (f, r) → r ≢ []
    kept f r e z = none f (subst (λ s. SpellsFront span_to f ts s) z (front_spelled span_to f ts r e))

    go : (o : Option (File Span × Lexemes)) → at span_to read_front ts ≡ o → (p : ℕ) × IsRefusedAt size ts p
    go (Some y) e = (start_of y.1, inl (y.1, front_is_longest y.0 ts y.1 e, kept y.0 y.1 e, refl))
    go None e = (first_or_end size ts, inr (no_front ts e, refl))
