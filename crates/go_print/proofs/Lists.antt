-- The layout of a list is that of its entries.
use Rattle.std.proofs.Common.{◌≡◌, ◌++◌, ◌||◌, ℕ, Bool, true, false, List, [], ◌∷◌, Option, None, codes, refl, ap, ◌∙◌, append_assoc}
use Rattle.go_tree.specs.declared.spans.Span.{Span}
use Rattle.go_tree.specs.Tree as pure
use Rattle.go_tree.specs.Lists.{fields_from, exprs_from, stmts_from, elems_from, arms_from, cases_from, specs_from}
use Rattle.go_layout.specs.Layouts.{text_of, name_layout}
use Rattle.go_layout.specs.TypeLayout.{comma_before, field_end, fields_layout, names_layout, param_layout, param_list_layout, type_layout}
use Rattle.go_layout.specs.TreeLayout.{exprs_layout, elems_layout, stmts_layout, arms_layout, cases_layout, specs_layout, operand_layout, stmt_layout, clause_indent, spec_type_layout, equals_before}
use Rattle.go_print.specs.Parts.{text_if, field_layout, elem_layout, arm_layout, clause_layout, spec_layout}
use Rattle.go_print.proofs.Steps.{all, has_more}

-- an entry of one, two or three parts, what stands after it, and the rest
pub entry : (a q q' r r' : List ℕ) → q ≡ q' → r ≡ r' → (a ++ q) ++ r ≡ a ++ (q' ++ r')
entry a q q' r r' e f = append_assoc a q r ∙ ap (λ ys. a ++ (ys ++ r)) e ∙ ap (λ ys. a ++ (q' ++ ys)) f

pub entry2 : (a b q q' r r' : List ℕ) → q ≡ q' → r ≡ r' → ((a ++ b) ++ q) ++ r ≡ a ++ (b ++ (q' ++ r'))
entry2 a b q q' r r' e f = entry (a ++ b) q q' r r' e f ∙ append_assoc a b (q' ++ r')

pub entry3 : (a b c q q' r r' : List ℕ) → q ≡ q' → r ≡ r' → ((a ++ (b ++ c)) ++ q) ++ r ≡ a ++ (b ++ (c ++ (q' ++ r')))
entry3 a b c q q' r r' e f = entry2 a (b ++ c) q q' r r' e f ∙ ap (λ ys. a ++ ys) (append_assoc b c (q' ++ r'))

pub entry4 : (a b c d q q' r r' : List ℕ) → q ≡ q' → r ≡ r' → ((a ++ (b ++ (c ++ d))) ++ q) ++ r ≡ a ++ (b ++ (c ++ (d ++ (q' ++ r'))))
entry4 a b c d q q' r r' e f = entry2 a (b ++ (c ++ d)) q q' r r' e f ∙ ap (λ ys. a ++ ys) (append_assoc b (c ++ d) (q' ++ r') ∙ ap (λ ys. b ++ ys) (append_assoc c d (q' ++ r')))

pub entry5 : (a b c d f q q' r r' : List ℕ) → q ≡ q' → r ≡ r' → ((a ++ (b ++ (c ++ (d ++ f)))) ++ q) ++ r ≡ a ++ (b ++ (c ++ (d ++ (f ++ (q' ++ r')))))
entry5 a b c d f q q' r r' e g = entry2 a (b ++ (c ++ (d ++ f))) q q' r r' e g ∙ ap (λ ys. a ++ ys) (append_assoc b (c ++ (d ++ f)) (q' ++ r') ∙ ap (λ ys. b ++ ys) (append_assoc c (d ++ f) (q' ++ r') ∙ ap (λ ys. c ++ ys) (append_assoc d f (q' ++ r'))))

comma : {A : Type 0} (ys : List A) → text_if (has_more ys) (codes ", ") ≡ text_of (comma_before ys)
comma [] = refl
comma (y ∷ ys) = refl

abbrev pub name_part : Bool → pure.NameAt Span → List ℕ
name_part more n = text_of (name_layout n) ++ text_if more (codes ", ")

pub names_all : (ns : List (pure.NameAt Span)) → all name_part ns ≡ text_of (names_layout ns)
names_all [] = refl
names_all (n ∷ ns) = entry n.name _ _ _ _ (comma ns) (names_all ns)

abbrev pub field_part : Bool → Span × pure.NameAt Span × pure.TypeExpr Span → List ℕ
field_part more x = text_of (field_layout x) ++ text_if more (codes "; ")

field_comma : (ys : List (Span × pure.NameAt Span × pure.TypeExpr Span)) → text_if (has_more ys) (codes "; ") ≡ text_of (field_end (fields_from ys))
field_comma [] = refl
field_comma (y ∷ ys) = refl

pub fields_all : (ys : List (Span × pure.NameAt Span × pure.TypeExpr Span)) → all field_part ys ≡ text_of (fields_layout (fields_from ys))
fields_all [] = refl
fields_all (y ∷ ys) = entry3 y.1.name (codes " ") (text_of (type_layout y.2)) _ _ _ _ (field_comma ys) (fields_all ys)

abbrev pub param_part : Bool → pure.Param Span → List ℕ
param_part more p = text_of (param_layout p) ++ text_if more (codes ", ")

pub params_all : (ps : List (pure.Param Span)) → all param_part ps ≡ text_of (param_list_layout ps)
params_all [] = refl
params_all (p ∷ ps) = entry (text_of (param_layout p)) _ _ _ _ (comma ps) (params_all ps)

abbrev pub expr_part : List ℕ → Bool → Bool → Bool → pure.Expr Span → List ℕ
expr_part i h c more e = text_of (operand_layout i 1 h (more || c) e) ++ text_if more (codes ", ")

pub exprs_all : (i : List ℕ) (h c : Bool) (ys : List (pure.Expr Span)) → all (expr_part i h c) ys ≡ text_of (exprs_layout i h c (exprs_from ys))
exprs_all i h c [] = refl
exprs_all i h c (y ∷ []) = entry (text_of (operand_layout i 1 h c y)) [] [] [] [] refl refl
exprs_all i h c (y ∷ z ∷ zs) = entry (text_of (operand_layout i 1 h true y)) (codes ", ") (codes ", ") _ _ refl (exprs_all i h c (z ∷ zs))

abbrev pub elem_part : List ℕ → Bool → Span × pure.ValueOption Span × pure.Value Span → List ℕ
elem_part i more x = text_of (elem_layout i more x) ++ text_if more (codes ", ")

pub elems_all : (i : List ℕ) (ys : List (Span × pure.ValueOption Span × pure.Value Span)) → all (elem_part i) ys ≡ text_of (elems_layout i (elems_from ys))
elems_all i [] = refl
elems_all i (y ∷ []) = entry2 _ _ [] [] [] [] refl refl
elems_all i (y ∷ z ∷ zs) = entry2 _ _ (codes ", ") (codes ", ") _ _ refl (elems_all i (z ∷ zs))

abbrev pub stmt_part : List ℕ → Bool → pure.Stmt Span → List ℕ
stmt_part i more s = text_of (stmt_layout i false s) ++ text_if more (10 ∷ i)

pub stmts_all : (i : List ℕ) (ys : List (pure.Stmt Span)) → all (stmt_part i) ys ≡ text_of (stmts_layout i None (stmts_from ys))
stmts_all i [] = refl
stmts_all i (y ∷ []) = entry _ [] [] [] [] refl refl
stmts_all i (y ∷ z ∷ zs) = entry _ (10 ∷ i) (10 ∷ i) _ _ refl (stmts_all i (z ∷ zs))

abbrev pub arm_part : List ℕ → Bool → Span × pure.StmtOption Span × pure.Expr Span × (Span × pure.Stmts Span) → List ℕ
arm_part i more x = text_of (arm_layout i x) ++ text_if more (codes " else ")

pub arms_all : (i : List ℕ) (ys : List (Span × pure.StmtOption Span × pure.Expr Span × (Span × pure.Stmts Span))) → all (arm_part i) ys ≡ text_of (arms_layout i (arms_from ys))
arms_all i [] = refl
arms_all i (y ∷ []) = entry5 (codes "if ") _ _ (codes " ") _ [] [] [] [] refl refl
arms_all i (y ∷ z ∷ zs) = entry5 (codes "if ") _ _ (codes " ") _ (codes " else ") (codes " else ") _ _ refl (arms_all i (z ∷ zs))

abbrev pub clause_part : List ℕ → Bool → Span × pure.Exprs Span × pure.Stmts Span → List ℕ
clause_part i more x = text_of (clause_layout i x)

clause_and : (a b c d f r r' : List ℕ) → r ≡ r' → (a ++ (b ++ (c ++ (d ++ f)))) ++ r ≡ a ++ (b ++ (c ++ (d ++ (f ++ r'))))
clause_and a b c d f r r' e = append_assoc a (b ++ (c ++ (d ++ f))) r ∙ ap (λ ys. a ++ ys) (append_assoc b (c ++ (d ++ f)) r ∙ ap (λ ys. b ++ ys) (append_assoc c (d ++ f) r ∙ ap (λ ys. c ++ ys) (append_assoc d f r ∙ ap (λ ys. d ++ (f ++ ys)) e)))

pub cases_all : (i : List ℕ) (ys : List (Span × pure.Exprs Span × pure.Stmts Span)) → all (clause_part i) ys ≡ text_of (cases_layout i (cases_from ys))
cases_all i [] = refl
cases_all i (y ∷ ys) = clause_and _ _ (codes ":") (10 ∷ clause_indent i y.2) _ _ _ (cases_all i ys)

abbrev pub spec_part : List ℕ → Bool → Span × List (pure.NameAt Span) × Option (pure.TypeExpr Span) × pure.Exprs Span → List ℕ
spec_part i more x = text_of (spec_layout i x) ++ text_if more (10 ∷ i)

pub specs_all : (i : List ℕ) (ys : List (Span × List (pure.NameAt Span) × Option (pure.TypeExpr Span) × pure.Exprs Span)) → all (spec_part i) ys ≡ text_of (specs_layout i None (specs_from ys))
specs_all i [] = refl
specs_all i (y ∷ []) = entry4 (text_of (names_layout y.1)) (text_of (spec_type_layout y.2)) (text_of (equals_before y.3)) (text_of (exprs_layout i false false y.3)) [] [] [] [] refl refl
specs_all i (y ∷ z ∷ zs) =
    entry4 (text_of (names_layout y.1)) (text_of (spec_type_layout y.2)) (text_of (equals_before y.3)) (text_of (exprs_layout i false false y.3)) (10 ∷ i) (10 ∷ i) _ _ refl (specs_all i (z ∷ zs))
