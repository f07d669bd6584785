-- Several writes in a row give the layout of a block, of a clause, of a group and of a loop.
use Rattle.std.proofs.Common.{◌≡◌, ◌++◌, ℕ, Bool, true, false, List, ◌∷◌, Some, None, codes, refl, sym, ap, ◌∙◌, append_assoc, append-nil}
use Rattle.std.proofs.lemmas.Bool.{true≢false, false≢true}
use Rattle.go_tree.specs.Tree.{Expr, Exprs, ExprOption, Stmts, StmtOption, RangeLeft, Cases, ValueSpecs, no_stmts, stmt_and, no_stmt, some_stmt, no_specs, spec, for_, range_, switch}
use Rattle.go_layout.specs.Layouts.{text_of, deeper}
use Rattle.go_layout.specs.TreeLayout.{block_layout, block_start, clause_indent, in_group, group_start, stmts_layout, specs_layout, stmt_layout, operand_layout, test_layout, first_layout, part_layout, option_layout, post_layout, left_layout, clauses_start, cases_layout, case_word, exprs_layout}
use Rattle.go_print.specs.Parts.{text_if, has_stmts, has_specs, has_clause, clause_layout}
use Rattle.go_print.proofs.Ends.{stmts_ended, specs_ended}

-- two writes, and so any number
pub both : (o p q a b : List ℕ) → p ≡ o ++ a → q ≡ p ++ b → q ≡ o ++ (a ++ b)
both o p q a b e f = f ∙ ap (λ ys. ys ++ b) e ∙ append_assoc o a b

pub three : (o p q r a b c : List ℕ) → p ≡ o ++ a → q ≡ p ++ b → r ≡ q ++ c → r ≡ o ++ (a ++ (b ++ c))
three o p q r a b c e f g = both o p r a (b ++ c) e (both p q r b c f g)

pub four : (o p q r s a b c d : List ℕ) → p ≡ o ++ a → q ≡ p ++ b → r ≡ q ++ c → s ≡ r ++ d → s ≡ o ++ (a ++ (b ++ (c ++ d)))
four o p q r s a b c d e f g h = both o p s a (b ++ (c ++ d)) e (three p q r s b c d f g h)

pub five : (o p q r s t a b c d x : List ℕ) → p ≡ o ++ a → q ≡ p ++ b → r ≡ q ++ c → s ≡ r ++ d → t ≡ s ++ x → t ≡ o ++ (a ++ (b ++ (c ++ (d ++ x))))
five o p q r s t a b c d x e f g h k = both o p t a (b ++ (c ++ (d ++ x))) e (four p q r s t b c d x f g h k)

pub six : (o p q r s t u a b c d x y : List ℕ) → p ≡ o ++ a → q ≡ p ++ b → r ≡ q ++ c → s ≡ r ++ d → t ≡ s ++ x → u ≡ t ++ y → u ≡ o ++ (a ++ (b ++ (c ++ (d ++ (x ++ y)))))
six o p q r s t u a b c d x y e f g h k l = both o p u a (b ++ (c ++ (d ++ (x ++ y)))) e (five p q r s t u b c d x y f g h k l)

pub seven : (o p q r s t u v a b c d x y z : List ℕ) → p ≡ o ++ a → q ≡ p ++ b → r ≡ q ++ c → s ≡ r ++ d → t ≡ s ++ x → u ≡ t ++ y → v ≡ u ++ z → v ≡ o ++ (a ++ (b ++ (c ++ (d ++ (x ++ (y ++ z))))))
seven o p q r s t u v a b c d x y z e f g h k l m = both o p v a (b ++ (c ++ (d ++ (x ++ (y ++ z))))) e (six p q r s t u v b c d x y z f g h k l m)

lines_between : (begin s ends close : List ℕ) → begin ++ (s ++ (ends ++ close)) ≡ begin ++ ((s ++ ends) ++ close)
lines_between begin s ends close = ap (λ ys. begin ++ ys) (sym (append_assoc s ends close))

module _ {S : Type 0} where
  starts_block : (i : List ℕ) (l : Stmts S) → text_if (has_stmts l) (10 ∷ deeper i) ≡ text_of (block_start i l)
  starts_block i no_stmts = refl
  starts_block i (stmt_and x xs) = refl

  starts_group : (i : List ℕ) (l : ValueSpecs S) → text_if (has_specs l) (10 ∷ deeper i) ≡ text_of (group_start i l)
  starts_group i no_specs = refl
  starts_group i (spec s ns t xs ss) = refl

  block_parts : (i : List ℕ) (l : Stmts S) → codes "{" ++ (text_if (has_stmts l) (10 ∷ deeper i) ++ (text_of (stmts_layout (deeper i) None l) ++ (text_if (has_stmts l) (10 ∷ i) ++ codes "}"))) ≡ text_of (block_layout i l)
  block_parts i l =
      ap (λ ys. codes "{" ++ ys)
      (lines_between (text_if (has_stmts l) (10 ∷ deeper i)) (text_of (stmts_layout (deeper i) None l)) (text_if (has_stmts l) (10 ∷ i)) (codes "}")
      ∙ ap (λ ys. text_if (has_stmts l) (10 ∷ deeper i) ++ (ys ++ codes "}")) (sym (stmts_ended (deeper i) i l))
      ∙ ap (λ ys. ys ++ (text_of (stmts_layout (deeper i) (Some i) l) ++ codes "}")) (starts_block i l))

  pub block_written : (i inner : List ℕ) (b : Bool) (l : Stmts S) (o p q r s t : List ℕ) → inner ≡ deeper i → b ≡ has_stmts l → p ≡ o ++ codes "{" → q ≡ p ++ text_if b (10 ∷ inner) → r ≡ q ++ text_of (stmts_layout inner None l) → s ≡ r ++ text_if b (10 ∷ i) → t ≡ s ++ codes "}" → t ≡ o ++ text_of (block_layout i l)
  block_written i inner b l o p q r s t ei eb e f g h k =
      five o p q r s t (codes "{") (text_if b (10 ∷ inner)) (text_of (stmts_layout inner None l)) (text_if b (10 ∷ i)) (codes "}") e f g h k
      ∙ ap (λ ys. o ++ (codes "{" ++ (text_if b (10 ∷ ys) ++ (text_of (stmts_layout ys None l) ++ (text_if b (10 ∷ i) ++ codes "}"))))) ei
      ∙ ap (λ m. o ++ (codes "{" ++ (text_if m (10 ∷ deeper i) ++ (text_of (stmts_layout (deeper i) None l) ++ (text_if m (10 ∷ i) ++ codes "}"))))) eb
      ∙ ap (λ ys. o ++ ys) (block_parts i l)

  group_parts : (i : List ℕ) (l : ValueSpecs S) → codes "(" ++ (text_if (has_specs l) (10 ∷ deeper i) ++ (text_of (specs_layout (deeper i) None l) ++ (text_if (has_specs l) (10 ∷ i) ++ codes ")"))) ≡ text_of (in_group i true l (specs_layout (deeper i) (Some i) l))
  group_parts i l =
      ap (λ ys. codes "(" ++ ys)
      (lines_between (text_if (has_specs l) (10 ∷ deeper i)) (text_of (specs_layout (deeper i) None l)) (text_if (has_specs l) (10 ∷ i)) (codes ")")
      ∙ ap (λ ys. text_if (has_specs l) (10 ∷ deeper i) ++ (ys ++ codes ")")) (sym (specs_ended (deeper i) i l))
      ∙ ap (λ ys. ys ++ (text_of (specs_layout (deeper i) (Some i) l) ++ codes ")")) (starts_group i l))

  pub group_written : (i inner word : List ℕ) (b : Bool) (l : ValueSpecs S) (o n p q r s t : List ℕ) → inner ≡ deeper i → b ≡ has_specs l → n ≡ o ++ word → p ≡ n ++ codes "(" → q ≡ p ++ text_if b (10 ∷ inner) → r ≡ q ++ text_of (specs_layout inner None l) → s ≡ r ++ text_if b (10 ∷ i) → t ≡ s ++ codes ")" → t ≡ o ++ (word ++ text_of (in_group i true l (specs_layout (deeper i) (Some i) l)))
  group_written i inner word b l o n p q r s t ei eb d e f g h k =
      six o n p q r s t word (codes "(") (text_if b (10 ∷ inner)) (text_of (specs_layout inner None l)) (text_if b (10 ∷ i)) (codes ")") d e f g h k
      ∙ ap (λ ys. o ++ (word ++ (codes "(" ++ (text_if b (10 ∷ ys) ++ (text_of (specs_layout ys None l) ++ (text_if b (10 ∷ i) ++ codes ")")))))) ei
      ∙ ap (λ m. o ++ (word ++ (codes "(" ++ (text_if m (10 ∷ deeper i) ++ (text_of (specs_layout (deeper i) None l) ++ (text_if m (10 ∷ i) ++ codes ")")))))) eb
      ∙ ap (λ ys. o ++ (word ++ ys)) (group_parts i l)

  clause_end : (i : List ℕ) (l : Stmts S) → text_if (has_stmts l) (10 ∷ deeper i) ++ (text_of (stmts_layout (deeper i) None l) ++ (10 ∷ i)) ≡ (10 ∷ clause_indent i l) ++ text_of (stmts_layout (deeper i) (Some i) l)
  clause_end i no_stmts = sym (append-nil (10 ∷ i))
  clause_end i (stmt_and x xs) = ap (λ ys. (10 ∷ deeper i) ++ ys) (sym (stmts_ended (deeper i) i (stmt_and x xs)))

  pub clause_written : (i inner : List ℕ) (b : Bool) (x : S × Exprs S × Stmts S) (o p q r s t u : List ℕ) → inner ≡ deeper i → b ≡ has_stmts x.2 → p ≡ o ++ text_of (case_word x.1) → q ≡ p ++ text_of (exprs_layout i false false x.1) → r ≡ q ++ codes ":" → s ≡ r ++ text_if b (10 ∷ inner) → t ≡ s ++ text_of (stmts_layout inner None x.2) → u ≡ t ++ (10 ∷ i) → u ≡ o ++ text_of (clause_layout i x)
  clause_written i inner b x o p q r s t u ei eb e f g h k l =
      six o p q r s t u (text_of (case_word x.1)) (text_of (exprs_layout i false false x.1)) (codes ":") (text_if b (10 ∷ inner)) (text_of (stmts_layout inner None x.2)) (10 ∷ i) e f g h k l
      ∙ ap (λ ys. o ++ (text_of (case_word x.1) ++ (text_of (exprs_layout i false false x.1) ++ (codes ":" ++ (text_if b (10 ∷ ys) ++ (text_of (stmts_layout ys None x.2) ++ (10 ∷ i))))))) ei
      ∙ ap (λ m. o ++ (text_of (case_word x.1) ++ (text_of (exprs_layout i false false x.1) ++ (codes ":" ++ (text_if m (10 ∷ deeper i) ++ (text_of (stmts_layout (deeper i) None x.2) ++ (10 ∷ i))))))) eb
      ∙ ap (λ ys. o ++ (text_of (case_word x.1) ++ (text_of (exprs_layout i false false x.1) ++ (codes ":" ++ ys)))) (clause_end i x.2)

  plain_for : (i : List ℕ) (h : Bool) (a : S) (first post : StmtOption S) (t : ExprOption S) (b : S) (l : Stmts S) → has_clause first post ≡ false → codes "for " ++ (text_of (test_layout i t) ++ text_of (block_layout i l)) ≡ text_of (stmt_layout i h (for_ a first t post b l))
  plain_for i h a no_stmt no_stmt t b l e = refl
  plain_for i h a no_stmt (some_stmt x) t b l e = absurd (true≢false e)
  plain_for i h a (some_stmt x) post t b l e = absurd (true≢false e)

  clause_for : (i : List ℕ) (h : Bool) (a : S) (first post : StmtOption S) (t : ExprOption S) (b : S) (l : Stmts S) → has_clause first post ≡ true → codes "for " ++ (text_of (part_layout i first) ++ (codes "; " ++ (text_of (option_layout i true t) ++ (codes "; " ++ (text_of (post_layout i post) ++ text_of (block_layout i l)))))) ≡ text_of (stmt_layout i h (for_ a first t post b l))
  clause_for i h a no_stmt no_stmt t b l e = absurd (false≢true e)
  clause_for i h a no_stmt (some_stmt x) t b l e = refl
  clause_for i h a (some_stmt x) no_stmt t b l e = refl
  clause_for i h a (some_stmt x) (some_stmt y) t b l e = refl

  pub plain_for_written : (i : List ℕ) (h : Bool) (a : S) (first post : StmtOption S) (t : ExprOption S) (b : S) (l : Stmts S) (m : Bool) (o p q r : List ℕ) → m ≡ has_clause first post → m ≡ false → p ≡ o ++ codes "for " → q ≡ p ++ text_of (test_layout i t) → r ≡ q ++ text_of (block_layout i l) → r ≡ o ++ text_of (stmt_layout i h (for_ a first t post b l))
  plain_for_written i h a first post t b l m o p q r em isnt e f g =
      three o p q r (codes "for ") (text_of (test_layout i t)) (text_of (block_layout i l)) e f g ∙ ap (λ ys. o ++ ys) (plain_for i h a first post t b l (sym em ∙ isnt))

  pub clause_for_written : (i : List ℕ) (h : Bool) (a : S) (first post : StmtOption S) (t : ExprOption S) (b : S) (l : Stmts S) (m : Bool) (o p q r s u v w : List ℕ) → m ≡ has_clause first post → m ≡ true → p ≡ o ++ codes "for " → q ≡ p ++ text_of (part_layout i first) → r ≡ q ++ codes "; " → s ≡ r ++ text_of (option_layout i true t) → u ≡ s ++ codes "; " → v ≡ u ++ text_of (post_layout i post) → w ≡ v ++ text_of (block_layout i l) → w ≡ o ++ text_of (stmt_layout i h (for_ a first t post b l))
  clause_for_written i h a first post t b l m o p q r s u v w em is e f g j k n y =
      seven o p q r s u v w (codes "for ") (text_of (part_layout i first)) (codes "; ") (text_of (option_layout i true t)) (codes "; ") (text_of (post_layout i post)) (text_of (block_layout i l)) e f g j k n y
      ∙ ap (λ ys. o ++ ys) (clause_for i h a first post t b l (sym em ∙ is))

  pub range_written : (i : List ℕ) (h : Bool) (a : S) (left : RangeLeft S) (x : Expr S) (b : S) (l : Stmts S) (o p q r s u v : List ℕ) → p ≡ o ++ codes "for " → q ≡ p ++ text_of (left_layout i left) → r ≡ q ++ codes "range " → s ≡ r ++ text_of (operand_layout i 1 true false x) → u ≡ s ++ codes " " → v ≡ u ++ text_of (block_layout i l) → v ≡ o ++ text_of (stmt_layout i h (range_ a left x b l))
  range_written i h a left x b l o p q r s u v e f g j k n =
      six o p q r s u v (codes "for ") (text_of (left_layout i left)) (codes "range ") (text_of (operand_layout i 1 true false x)) (codes " ") (text_of (block_layout i l)) e f g j k n

  pub switch_written : (i : List ℕ) (h : Bool) (a : S) (first : StmtOption S) (t : ExprOption S) (cs : Cases S) (o p q r s u v w : List ℕ) → p ≡ o ++ codes "switch " → q ≡ p ++ text_of (first_layout i first) → r ≡ q ++ text_of (test_layout i t) → s ≡ r ++ codes "{" → u ≡ s ++ text_of (clauses_start i cs) → v ≡ u ++ text_of (cases_layout i cs) → w ≡ v ++ codes "}" → w ≡ o ++ text_of (stmt_layout i h (switch a first t cs))
  switch_written i h a first t cs o p q r s u v w e f g j k n y =
      seven o p q r s u v w (codes "switch ") (text_of (first_layout i first)) (text_of (test_layout i t)) (codes "{") (text_of (clauses_start i cs)) (text_of (cases_layout i cs)) (codes "}") e f g j k n y
