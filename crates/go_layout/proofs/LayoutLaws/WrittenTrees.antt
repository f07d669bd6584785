-- What is written for a tree spells the tree.
use Rattle.std.specs.Prelude.{is_some}
use Rattle.std.proofs.Common.{◌≡◌, ℕ, ◌+◌, Bool, true, false, List, [], ◌∷◌, ◌++◌, Option, Some, None, refl, sym, ap, subst, ◌∙◌}
use Rattle.std.proofs.lemmas.List.{append_assoc, append-nil}
use Rattle.go_tree.specs.declared.spans.Span.{Span}
use Rattle.go_tree.specs.declared.tokens.Token.{Token}
use Rattle.go_tree.specs.Tree.{TypeExpr, Sig, Expr, Stmts}
use Rattle.go_tree.specs.Bare.{bare_type, bare_sig, bare_expr, bare_stmts}
use Rattle.go_tree.specs.GoWords.Tokens.{TokensOf, tokens_from, pieces_size}
use Rattle.go_tree.specs.GoWords.Tokens.Pieces.{Piece, CutsTo}
use Rattle.go_tree.specs.GoWords.Terminals.{lexemes}
use Rattle.go_read.specs.SpellsTypes.{Lexemes, SpellsType, SpellsSig}
use Rattle.go_read.specs.Spells.{SpellsStmts, operand_rule}
use Rattle.go_read.specs.SpellsSpans.{span_to}
use Rattle.go_read.specs.Bareness.{nowhere}
use Rattle.go_read.proofs.SpansAside as aside
use Rattle.go_layout.specs.Layouts.{Layout, no_text, a_token, gap, line, ◌⊕◌, text_of}
use Rattle.go_layout.specs.Parens.{needs_parens}
use Rattle.go_layout.specs.TypeLayout.{type_layout, sig_layout}
use Rattle.go_layout.specs.TreeLayout.{operand_layout, stmts_layout}
use Rattle.go_layout.specs.LayoutLaws.Formed.{FormedType, FormedSig, FormedOperand, FormedStmts}
use Rattle.go_layout.specs.LayoutLaws.Real.{AreReal}
use Rattle.go_layout.specs.LayoutLaws.LayoutTokens.{HasTokens}
use Rattle.go_layout.specs.LayoutLaws.LayoutPieces.{word_of, letters_of, pieces_of, due_of, due_behind}
use Rattle.go_layout.specs.LayoutLaws.Laid.{is_indent, Laid}
use Rattle.go_layout.specs.LayoutLaws.Laws.{TokensFrom, IsSpelledType, IsSpelledSig, SigIsWritten, IsSpelledExpr, IsSpelledStmts, may_follow, Stands, StandsAlone, SpellsWithin, TypeIsWritten, ExprIsWritten, last_gives, SpellsList, StmtsAreWritten}
use Rattle.go_layout.proofs.LayoutLaws.SpelledTypes.{U, type_spelled, sig_spelled}
use Rattle.go_layout.proofs.LayoutLaws.Places.{placed}
use Rattle.go_layout.proofs.LayoutLaws.SpelledTrees.{expr_spelled}
use Rattle.go_layout.proofs.LayoutLaws.FormedTypes.{type_formed, sig_formed}
use Rattle.go_layout.proofs.LayoutLaws.FormedTrees.{operand_formed, stmts_formed}
use Rattle.go_layout.proofs.LayoutLaws.Due.{type_due, sig_due, placed_due}
use Rattle.go_layout.proofs.LayoutLaws.LaidTypes.{type_laid, sig_laid, ends_word}
use Rattle.go_layout.proofs.LayoutLaws.LaidPlaces.{here_laid}
use Rattle.go_layout.proofs.LayoutLaws.LaidTrees.{expr_laid}
use Rattle.go_layout.proofs.LayoutLaws.LaidCuts.{cuts_to, bytes_of, scalars_of, is_due, after, tokens_alone}
use Rattle.go_layout.proofs.LayoutLaws.RealTokens.{tokens_real, rest_real}
use Rattle.go_layout.proofs.LayoutLaws.Weaken.{operand_weak}
use Rattle.go_layout.proofs.LayoutLaws.OpenStmts.{list_spelled, open_laid, open_due}
use Rattle.go_layout.proofs.LayoutLaws.BareLayouts as bare

-- ---- characters and pieces, and then more of them

letters_on : (a : Layout) (more : List ℕ) → letters_of a more ≡ letters_of a [] ++ more
letters_on no_text more = refl
letters_on (a_token k w) more = ap (λ (x : List ℕ). x ++ more) (sym (append-nil (word_of k w)))
letters_on gap more = refl
letters_on (line ends i) more = ap (λ (x : List ℕ). 10 ∷ (x ++ more)) (sym (append-nil i))
letters_on (a ⊕ b) more =
    letters_on a (letters_of b more) ∙ ap (λ (x : List ℕ). letters_of a [] ++ x) (letters_on b more) ∙ sym (append_assoc (letters_of a []) (letters_of b []) more)
    ∙ ap (λ (x : List ℕ). x ++ more) (sym (letters_on a (letters_of b [])))

pieces_on : (a : Layout) (more : List Piece) → pieces_of a more ≡ pieces_of a [] ++ more
pieces_on no_text more = refl
pieces_on (a_token k w) more = refl
pieces_on gap more = refl
pieces_on (line ends i) more = refl
pieces_on (a ⊕ b) more =
    pieces_on a (pieces_of b more) ∙ ap (λ (x : List Piece). pieces_of a [] ++ x) (pieces_on b more) ∙ sym (append_assoc (pieces_of a []) (pieces_of b []) more)
    ∙ ap (λ (x : List Piece). x ++ more) (sym (pieces_on a (pieces_of b [])))

-- ---- a layout whose pieces are laid

stands : (a : Layout) (are : Lexemes → Lexemes → Type 0) → ((d : Bool) (more : List ℕ) → may_follow more ≡ true → Laid a d more) → ((ts r : Lexemes) → HasTokens a ts r → are ts r) → Stands a are
stands a are laid so = record {
  characters = letters_of a [];
  pieces = pieces_of a [];
  scalars = scalars_of a false [] (laid false [] refl) refl;
  encoded = bytes_of a false [] (laid false [] refl) ∙ append-nil (text_of a);
  cut = λ more others rest off cut. subst (λ (t : List ℕ). CutsTo t (pieces_of a [] ++ others) rest) (letters_on a more)
      (subst (λ (ps : List Piece). CutsTo (letters_of a more) ps rest) (pieces_on a others) (cuts_to a false more others rest (laid false more off) cut));
  tokens = λ at due others. tokens_so at due others;
  semicolon_due = λ at due. due_so at due;
}
  where
    due_same : (o : Option ℕ) → is_some o ≡ is_due o
    due_same None = refl
    due_same (Some at) = refl

    due_so : (at : ℕ) (due : Option ℕ) → is_some (due_behind at due (pieces_of a [])) ≡ due_of a (is_some due)
    due_so at due =
        let x = after a (is_due due) [] (laid (is_due due) [] refl) at due refl [] in
        ap is_some (sym x.then_is) ∙ due_same x.then_due ∙ x.due_is ∙ ap (λ (d : Bool). due_of a d) (sym (due_same due))

    tokens_so : (at : ℕ) (due : Option ℕ) (others : List Piece) → are (lexemes (tokens_from at due (pieces_of a [] ++ others))) (lexemes (tokens_from (at + pieces_size (pieces_of a [])) (due_behind at due (pieces_of a [])) others))
    tokens_so at due others =
        let x = after a (is_due due) [] (laid (is_due due) [] refl) at due refl others in
        subst (λ (n : ℕ). are (lexemes (tokens_from at due (pieces_of a [] ++ others))) (lexemes (tokens_from n (due_behind at due (pieces_of a [])) others))) x.place_is
        (subst (λ (o : Option ℕ). are (lexemes (tokens_from at due (pieces_of a [] ++ others))) (lexemes (tokens_from x.place o others))) x.then_is
        (subst (λ (ps : List Piece). are (lexemes (tokens_from at due ps)) (lexemes (tokens_from x.place x.then_due others))) (pieces_on a others) (so (lexemes (tokens_from at due (pieces_of a others))) (lexemes (tokens_from x.place x.then_due others)) x.has)))

stands_alone : (a : Layout) (are : Lexemes → Lexemes → Type 0) → Laid a false [] → due_of a false ≡ true → ((ts r : Lexemes) → HasTokens a ts r → are ts r) → StandsAlone a are
unfolding tokens_from
stands_alone a are laid ends so = let x = after a false [] laid 0 None refl [] in at_end x.place x.then_due (x.due_is ∙ ends) x.has
  where
    at_end : (place : ℕ) (due : Option ℕ) → is_due due ≡ true → HasTokens a (lexemes (tokens_from 0 None (pieces_of a []))) (lexemes (tokens_from place due [])) → StandsAlone a are
    at_end place None q has = absurd cc
    at_end place (Some at) q has = record { tokens = tokens_from 0 None (pieces_of a []); of_text = tokens_alone a laid; semicolon_at = record { start = at; end = at }; are_so = so (lexemes (tokens_from 0 None (pieces_of a []))) _ has }

-- ---- types

pub type_written : (t : TypeExpr Span) → FormedType (bare_type t) → TypeIsWritten t
type_written t f =
    let a = type_layout (bare_type t) in
    let laid : (d : Bool) (more : List ℕ) → may_follow more ≡ true → Laid a d more = λ d more off. type_laid (bare_type t) more d f (ends_word false more off) in
    let so : (ts r : Lexemes) → HasTokens a ts r → SpellsType nowhere (bare_type t) ts r = λ ts r w. type_spelled (bare_type t) ts r w in
    record {
      alone = subst (λ (x : Layout). StandsAlone x (SpellsType nowhere (bare_type t))) (bare.type_bare t) (stands_alone a (SpellsType nowhere (bare_type t)) (laid false [] refl) (type_due (bare_type t) false) so);
      stands = subst (λ (x : Layout). Stands x (SpellsType nowhere (bare_type t))) (bare.type_bare t) (stands a (SpellsType nowhere (bare_type t)) laid so);
      asks = λ d. ap (λ (x : Layout). due_of x d) (sym (bare.type_bare t)) ∙ type_due (bare_type t) d;
    }

-- ---- signatures

pub sig_written : (v : Bool) (g : Sig Span) → FormedSig v (bare_sig g) → SigIsWritten v g
sig_written v g f =
    let a = sig_layout (bare_sig g) in
    let laid : (d : Bool) (more : List ℕ) → may_follow more ≡ true → Laid a d more = λ d more off. sig_laid v (bare_sig g) more d f (ends_word false more off) in
    let so : (ts r : Lexemes) → HasTokens a ts r → SpellsSig nowhere v (bare_sig g) ts r = λ ts r w. sig_spelled v (bare_sig g) ts r f w in
    record {
      alone = subst (λ (x : Layout). StandsAlone x (SpellsSig nowhere v (bare_sig g))) (bare.sig_bare g) (stands_alone a (SpellsSig nowhere v (bare_sig g)) (laid false [] refl) (sig_due (bare_sig g) false) so);
      stands = subst (λ (x : Layout). Stands x (SpellsSig nowhere v (bare_sig g))) (bare.sig_bare g) (stands a (SpellsSig nowhere v (bare_sig g)) laid so);
      asks = λ d. ap (λ (x : Layout). due_of x d) (sym (bare.sig_bare g)) ∙ sig_due (bare_sig g) d;
    }

-- ---- expressions

pub within_spelled : (e : Expr U) (i : List ℕ) (level : ℕ) (header : Bool) → FormedOperand e → (ts r : Lexemes) → HasTokens (operand_layout i level header false e) ts r → SpellsWithin level header e ts r
within_spelled e i level header f ts r w l h le q =
    operand_weak nowhere level l header h e ts r le q (operand_rule f.0 (placed e (needs_parens level header false e) i level header false ts r (expr_spelled e f.1) (λ x. x) w tt))

pub expr_written : (e : Expr Span) (i : List ℕ) (level : ℕ) (header : Bool) → FormedOperand (bare_expr e) → is_indent i ≡ true → ExprIsWritten e i level header
expr_written e i level header f sp =
    let b = bare_expr e in
    let a = operand_layout i level header false b in
    let are = SpellsWithin level header b in
    let laid : (d : Bool) (more : List ℕ) → may_follow more ≡ true → Laid a d more = λ d more off. here_laid b (needs_parens level header false b) i header false d more sp (expr_laid b f.1) off in
    let so : (ts r : Lexemes) → HasTokens a ts r → are ts r = within_spelled b i level header f in
    let same = bare.here e i level header false (bare.expr_bare e) in
    record {
      alone = subst (λ (x : Layout). StandsAlone x are) same (stands_alone a are (laid false [] refl) (placed_due b (needs_parens level header false b) i header false false) so);
      stands = subst (λ (x : Layout). Stands x are) same (stands a are laid so);
      asks = λ d. ap (λ (x : Layout). due_of x d) (sym same) ∙ placed_due b (needs_parens level header false b) i header false d;
    }

-- ---- statements

alone_list : (xs : Stmts U) (ts : Lexemes) (place : ℕ) (due : Option ℕ) → is_due due ≡ last_gives xs → SpellsList xs ts (lexemes (tokens_from place due [])) → SpellsStmts nowhere xs ts []
unfolding tokens_from
alone_list xs ts place None q list = list.closed (sym q)
alone_list xs ts place (Some at) q list = list.before_semicolon (record { start = at; end = at }) [] (sym q) refl

record StmtsAlone (a : Layout) (xs : Stmts U) : Type 0 where
  tokens : List Token
  of_text : TokensOf (text_of a) tokens []
  spelled : SpellsStmts nowhere xs (lexemes tokens) []

pub stmts_written : (xs : Stmts Span) (i : List ℕ) → FormedStmts (bare_stmts xs) → is_indent i ≡ true → StmtsAreWritten xs i
stmts_written xs i f sp =
    let b = bare_stmts xs in
    let a = stmts_layout i None b in
    let laid : (d : Bool) (more : List ℕ) → may_follow more ≡ true → Laid a d more = λ d more off. open_laid b f i sp d more off in
    let so : (ts r : Lexemes) → HasTokens a ts r → SpellsList b ts r = list_spelled b f i in
    let same = bare.stmts_bare xs i None in
    let x = after a false [] (laid false [] refl) 0 None refl [] in
    let here : StmtsAlone a b = record {
      tokens = tokens_from 0 None (pieces_of a []);
      of_text = tokens_alone a (laid false [] refl);
      spelled = alone_list b (lexemes (tokens_from 0 None (pieces_of a []))) x.place x.then_due (x.due_is ∙ open_due b f i) (so (lexemes (tokens_from 0 None (pieces_of a []))) (lexemes (tokens_from x.place x.then_due [])) x.has);
    } in
    let there = subst (λ (y : Layout). StmtsAlone y b) same here in
    record {
      tokens = there.tokens;
      of_text = there.of_text;
      alone = there.spelled;
      stands = subst (λ (y : Layout). Stands y (SpellsList b)) same (stands a (SpellsList b) laid so);
      asks = ap (λ (y : Layout). due_of y false) (sym same) ∙ open_due b f i;
    }

-- ---- trees that some tokens spell are well formed

are_real : (ts : Lexemes) → TokensFrom ts → AreReal ts
are_real ts from = rest_real from.front ts (subst (λ (xs : Lexemes). AreReal xs) from.from_there (tokens_real from.text from.tokens from.comments from.of_text))

pub spelled_sig : (v : Bool) (g : Sig Span) → IsSpelledSig v g → FormedSig v (bare_sig g)
spelled_sig v g s = (sig_formed nowhere (aside.sig_bare span_to s.spelled) (are_real s.tokens s.of_text)).0

pub sigs_written : (v : Bool) (g : Sig Span) → IsSpelledSig v g → SigIsWritten v g
sigs_written v g s = sig_written v g (spelled_sig v g s)

pub sig_unseen : (g : Sig Span) → sig_layout (bare_sig g) ≡ sig_layout g
sig_unseen g = bare.sig_bare g

pub spelled_type : (t : TypeExpr Span) → IsSpelledType t → FormedType (bare_type t)
spelled_type t s = (type_formed nowhere (aside.type_bare span_to s.spelled) (are_real s.tokens s.of_text)).0

pub spelled_expr : (e : Expr Span) → IsSpelledExpr e → FormedOperand (bare_expr e)
spelled_expr e s = (operand_formed nowhere (aside.operand_bare span_to s.spelled) (are_real s.tokens s.of_text)).0

pub spelled_stmts : (xs : Stmts Span) → IsSpelledStmts xs → FormedStmts (bare_stmts xs)
spelled_stmts xs s = (stmts_formed nowhere (aside.stmts_bare span_to s.spelled) (are_real s.tokens s.of_text)).0

-- ---- the laws

pub types_written : (t : TypeExpr Span) → IsSpelledType t → TypeIsWritten t
types_written t s = type_written t (spelled_type t s)

pub exprs_written : (e : Expr Span) → IsSpelledExpr e → (i : List ℕ) (level : ℕ) (header : Bool) → is_indent i ≡ true → ExprIsWritten e i level header
exprs_written e s i level header sp = expr_written e i level header (spelled_expr e s) sp

pub lists_written : (xs : Stmts Span) → IsSpelledStmts xs → (i : List ℕ) → is_indent i ≡ true → StmtsAreWritten xs i
lists_written xs s i sp = stmts_written xs i (spelled_stmts xs s) sp

-- ---- spans

pub type_unseen : (t : TypeExpr Span) → type_layout (bare_type t) ≡ type_layout t
type_unseen t = bare.type_bare t

pub operand_unseen : (e : Expr Span) (i : List ℕ) (level : ℕ) (header closed : Bool) → operand_layout i level header closed (bare_expr e) ≡ operand_layout i level header closed e
operand_unseen e i level header closed = bare.here e i level header closed (bare.expr_bare e)

pub stmts_unseen : (xs : Stmts Span) (i : List ℕ) (end : Option (List ℕ)) → stmts_layout i end (bare_stmts xs) ≡ stmts_layout i end xs
stmts_unseen xs i end = bare.stmts_bare xs i end
