-- The layout of a new node spells it, stands before what may follow it, and asks for a semicolon.
use Rattle.std.proofs.Common.{◌≡◌, ◌⊎◌, inl, inr, ℕ, Bool, true, false, ◌&&◌, ◌||◌, List, refl, subst, ◌∙◌}
use Rattle.go_tree.specs.Tree.{TypeExpr, named, pointer, slice_type, map_type, struct_type, Expr, Stmt, composite, call, empty, no_elems}
use Rattle.go_tree.specs.Bare.{bare_type, bare_expr, bare_stmt}
use Rattle.go_read.specs.SpellsTypes.{Lexemes}
use Rattle.go_read.specs.Spells.{is_empty, follows_type, SpellsStmt, operand_rule, simple_rule}
use Rattle.go_read.specs.Bareness.{nowhere}
use Rattle.go_layout.specs.Parens.{needs_parens, is_integer, ends_in_integer}
use Rattle.go_layout.specs.TreeLayout.{gives_semicolon}
use Rattle.go_layout.specs.LayoutLaws.Formed.{is_call, is_simple, FormedType, FormedLiteralType}
use Rattle.go_layout.specs.LayoutLaws.LayoutTokens.{HasTokens}
use Rattle.go_layout.specs.LayoutLaws.LayoutPieces.{due_of}
use Rattle.go_layout.specs.LayoutLaws.Laid.{is_indent, Laid}
use Rattle.go_layout.proofs.LayoutLaws.SpelledTypes.{U, type_spelled}
use Rattle.go_layout.proofs.LayoutLaws.Places.{or_false, placed}
use Rattle.go_layout.proofs.LayoutLaws.SpelledParts.{Says, literal_type_spelled}
use Rattle.go_layout.proofs.LayoutLaws.SpelledTrees.{expr_spelled, stmt_spelled}
use Rattle.go_layout.proofs.LayoutLaws.Due.{type_due, expr_due, placed_due, stmt_due}
use Rattle.go_layout.proofs.LayoutLaws.LaidTypes.{type_laid, ends_ok, ends_word}
use Rattle.go_layout.proofs.LayoutLaws.LaidPlaces.{placed_laid, ends_apart, never}
use Rattle.go_layout.proofs.LayoutLaws.LaidTrees.{expr_laid, stmt_laid}
use Rattle.go_layout.proofs.LayoutLaws.Weaken.{expr_weak, operand_weak}
use Rattle.splice_laws.specs.Swaps.{Swap, an_operand, a_callee, a_type, a_literal_type, a_stmt, a_deferred}
use Rattle.splice_laws.specs.Fits.{SpellsNew}
use Rattle.splice_laws.specs.Forms.{is_named_type, takes_parens, new_layout, FormedNew}

-- what the rest begins with, behind a callee
abbrev pub RestOf : {S : Type 0} → Swap S → Lexemes → Type 0
RestOf (a_callee h e f) r = follows_type r ≡ true
RestOf _ r = Unit {0}

-- what may stand behind the text
abbrev pub may_stand : Bool → List ℕ → Bool
may_stand dotted more = ends_ok dotted more

formed_literal : (t : TypeExpr U) → FormedLiteralType t → FormedType t
formed_literal (named s p n) f = f
formed_literal (pointer s t) f = absurd f
formed_literal (slice_type s t) f = f
formed_literal (map_type s k t) f = f
formed_literal (struct_type s fs) f = f

bracketed_outside : (t : TypeExpr U) (j h : Bool) → (j ≡ true → h ≡ true) → (h ≡ true → is_named_type t ≡ false) → j && is_named_type t ≡ false
bracketed_outside t false h q n = refl
bracketed_outside t true h q n = n (q refl)

literal_none : (t : TypeExpr U) (j : Bool) → FormedLiteralType t → j && is_named_type t ≡ false → needs_parens 1 j false (composite tt t no_elems) ≡ false
literal_none (named s p n) true f q = q
literal_none (named s p n) false f q = refl
literal_none (pointer s t) j f q = absurd f
literal_none (slice_type s t) true f q = refl
literal_none (slice_type s t) false f q = refl
literal_none (map_type s k t) true f q = refl
literal_none (map_type s k t) false f q = refl
literal_none (struct_type s fs) true f q = refl
literal_none (struct_type s fs) false f q = refl

stmt_says : (x : Stmt U) (simple gives : Bool) (ts r : Lexemes) → gives ≡ true → Says simple gives false x ts r → SpellsStmt nowhere x ts r
stmt_says x true true ts r q d = simple_rule d
stmt_says x false true ts r q d = d
stmt_says x true false ts r q d = absurd cc
stmt_says x false false ts r q d = absurd cc

first_two : (a b c : Bool) → a || (b || c) ≡ false → a || b ≡ false
first_two true b c e = absurd cc
first_two false true c e = absurd cc
first_two false false c e = refl

empty_gives : (y : Stmt U) → is_empty y ≡ true → gives_semicolon y ≡ true → ⊥
empty_gives (empty s) e g = cc
empty_gives _ e g = cc

gives_full : (x : Stmt U) → gives_semicolon x ≡ true → is_empty x ≡ false
gives_full x q = by_empty (is_empty x) refl
  where
    by_empty : (b : Bool) → is_empty x ≡ b → is_empty x ≡ false
    by_empty true e = absurd (empty_gives x e q)
    by_empty false e = e

call_bare : (e : Expr U) → is_call e ≡ true → needs_parens 1 false false e ≡ false
call_bare (call _ _ _ _) q = refl
call_bare _ q = absurd (never q)

module _ {S : Type 0} where
  pub new_reads : (w : Swap S) (i : List ℕ) (dotted wrapped : Bool) → FormedNew dotted w → (ts r : Lexemes) → RestOf w r → HasTokens (new_layout i dotted wrapped w) ts r → SpellsNew w ts r
  new_reads (an_operand l h e f) i dotted wrapped form ts r rest has = λ m j le q.
      let b = bare_expr f in
      operand_weak nowhere l m h j b ts r le q (operand_rule form.0.0 (placed b (takes_parens l h dotted wrapped b) i l h false ts r (expr_spelled b form.0.1) (λ x. (or_false (needs_parens l h false b) ((dotted && is_integer b) || wrapped) x).0) has tt))
  new_reads (a_callee h e f) i dotted wrapped form ts r rest has = λ m j le q.
      let b = bare_expr f in
      expr_weak nowhere 7 m h j b ts r le q (placed b (needs_parens 7 h true b) i 7 h true ts r (expr_spelled b form.0) (λ x. x) has rest)
  new_reads (a_type t u) i dotted wrapped form ts r rest has = type_spelled (bare_type u) ts r has
  new_reads (a_literal_type h t u) i dotted wrapped form ts r rest has = λ j q.
      literal_type_spelled (bare_type u) 1 j false ts r no_elems form.0 (literal_none (bare_type u) j form.0 (bracketed_outside (bare_type u) j h q form.1)) has
  new_reads (a_deferred e f) i dotted wrapped form ts r rest has = (form.0, expr_spelled (bare_expr f) form.1 i 1 false false ts r (call_bare (bare_expr f) form.0) has tt)
  new_reads (a_stmt x y) i dotted wrapped form ts r rest has =
      (gives_full (bare_stmt y) form.1, stmt_says (bare_stmt y) (is_simple (bare_stmt y)) (gives_semicolon (bare_stmt y)) ts r form.1 (stmt_spelled (bare_stmt y) form.0 i false ts r has))

  pub new_laid : (w : Swap S) (i : List ℕ) (dotted wrapped : Bool) → FormedNew dotted w → is_indent i ≡ true → (d : Bool) (more : List ℕ) → ends_ok dotted more ≡ true → Laid (new_layout i dotted wrapped w) d more
  new_laid (an_operand l h e f) i dotted wrapped form sp d more ok =
      let b = bare_expr f in
      placed_laid b (takes_parens l h dotted wrapped b) i h false d dotted more sp (expr_laid b form.0.1) (λ x y. selected b l h dotted wrapped x y (form.1 y)) ok
    where
      selected : (b : Expr U) (l : ℕ) (h dotted wrapped : Bool) → takes_parens l h dotted wrapped b ≡ false → dotted ≡ true → (l ≡ 7) ⊎ (ends_in_integer h false b ≡ false) → ends_in_integer h false b ≡ false
      selected b l h true wrapped x y (inl e) = ends_apart b h (subst (λ (n : ℕ). needs_parens n h false b || is_integer b ≡ false) e (first_two (needs_parens l h false b) (is_integer b) wrapped x))
      selected b l h true wrapped x y (inr e) = e
      selected b l h false wrapped x y e = never y
  new_laid (a_callee h e f) i dotted wrapped form sp d more ok =
      let b = bare_expr f in
      placed_laid b (needs_parens 7 h true b) i h true d false more sp (expr_laid b form.0) (λ x y. never y) (subst (λ (q : Bool). ends_ok q more ≡ true) form.1 ok)
  new_laid (a_type t u) i dotted wrapped form sp d more ok = type_laid (bare_type u) more d form (ends_word dotted more ok)
  new_laid (a_literal_type h t u) i dotted wrapped form sp d more ok = type_laid (bare_type u) more d (formed_literal (bare_type u) form.0) (ends_word dotted more ok)
  new_laid (a_deferred e f) i dotted wrapped form sp d more ok = expr_laid (bare_expr f) form.1 i sp false false d false more (λ q. never q) (subst (λ (q : Bool). ends_ok q more ≡ true) form.2 ok)
  new_laid (a_stmt x y) i dotted wrapped form sp d more ok = stmt_laid (bare_stmt y) form.0 i sp false d more (subst (λ (q : Bool). ends_ok q more ≡ true) form.2 ok)

  pub new_ends : (w : Swap S) (i : List ℕ) (dotted wrapped : Bool) → FormedNew dotted w → (d : Bool) → due_of (new_layout i dotted wrapped w) d ≡ true
  new_ends (an_operand l h e f) i dotted wrapped form d = placed_due (bare_expr f) (takes_parens l h dotted wrapped (bare_expr f)) i h false d
  new_ends (a_callee h e f) i dotted wrapped form d = placed_due (bare_expr f) (needs_parens 7 h true (bare_expr f)) i h true d
  new_ends (a_type t u) i dotted wrapped form d = type_due (bare_type u) d
  new_ends (a_literal_type h t u) i dotted wrapped form d = type_due (bare_type u) d
  new_ends (a_deferred e f) i dotted wrapped form d = expr_due (bare_expr f) i false false d
  new_ends (a_stmt x y) i dotted wrapped form d = stmt_due (bare_stmt y) form.0 i false d ∙ form.1
