-- What a program gives under the reader, step by step; and what tokens may begin and follow each part.
use Rattle.std.proofs.Common.{◌≡◌, ℕ, Bool, true, false, ◌∷◌, Option, Some, None, refl, ap, ◌∙◌}
use Rattle.std.specs.Prelude.{option_and_then}
use Rattle.go_tree.specs.declared.operators.BinOp.TheVariants.{Mul, Add, Sub, Xor, And}
use Rattle.go_tree.specs.GoWords.Terminals.{lex, ident, int_lit, rune_lit, str_lit, binary_op, not_, define, comma, semicolon, dot, paren, end_paren, bracket, brace, end_brace, key_case, key_default, key_func, key_map, key_struct}
use Rattle.go_read.specs.SpellsTypes.{Lexemes}
use Rattle.go_tree.specs.Tree.{Expr}
use Rattle.go_read.specs.Goals.{Goal, Answer, read_more, read_postfix}
use Rattle.go_read.specs.Programs.{Program, give, ask, look, run, unless}
use Rattle.go_read.specs.Reading.{step, at}
use Rattle.go_read.proofs.Sound.{at_is}

module _ {S : Type 0} (mark : Lexemes → Lexemes → S) where
  pub record Runs {X : Type 0} (p : Program S X) (o : Option (X × Lexemes)) : Type 0 where
    pub is : run (at mark) p ≡ o

  pub gives : {X : Type 0} {x : X} {r : Lexemes} → Runs (give x r) (Some (x, r))
  gives = record { is = refl }

  pub asks : {X : Type 0} {g : Goal S} {ts : Lexemes} {k : Answer g → Lexemes → Program S X} {y : Answer g} {r : Lexemes} {o : Option (X × Lexemes)} → at mark g ts ≡ Some (y, r) → Runs (k y r) o → Runs (ask g ts k) o
  asks {k = k} e h = record { is = ap (option_and_then (λ x. run (at mark) (k x.0 x.1))) e ∙ h.is }

  pub looks : {X : Type 0} {g : Goal S} {ts : Lexemes} {k : Option (Answer g × Lexemes) → Program S X} {a : Option (Answer g × Lexemes)} {o : Option (X × Lexemes)} → at mark g ts ≡ a → Runs (k a) o → Runs (look g ts k) o
  looks {k = k} e h = record { is = ap (λ a. run (at mark) (k a)) e ∙ h.is }

  -- a goal whose answer is the whole answer
  same_answer : {X : Type 0} (o : Option (X × Lexemes)) → option_and_then (λ x. Some (x.0, x.1)) o ≡ o
  same_answer (Some x) = refl
  same_answer None = refl

  pub tails_postfix : {h : Bool} {whole : Lexemes} {e : Expr S} {b : Bool} {ts : Lexemes} → Runs {X = Expr S × Bool} (ask (read_postfix h whole e b) ts (λ x r. give x r)) (at mark (read_postfix h whole e b) ts)
  tails_postfix {h} {whole} {e} {b} {ts} = record { is = same_answer (at mark (read_postfix h whole e b) ts) }

  pub tails_more : {l : ℕ} {h : Bool} {whole : Lexemes} {e : Expr S} {b : Bool} {ts : Lexemes} → Runs {X = Expr S × Bool} (ask (read_more l h whole e b) ts (λ x r. give x r)) (at mark (read_more l h whole e b) ts)
  tails_more {l} {h} {whole} {e} {b} {ts} = record { is = same_answer (at mark (read_more l h whole e b) ts) }

  pub passes : {X : Type 0} {b : Bool} {p : Program S X} {o : Option (X × Lexemes)} → b ≡ false → Runs p o → Runs (unless b p) o
  passes {p = p} e h = record { is = ap (λ b. run (at mark) (unless b p)) e ∙ h.is }

  pub finish : (g : Goal S) (ts : Lexemes) {o : Option (Answer g × Lexemes)} → Runs (step mark g ts) o → at mark g ts ≡ o
  finish g ts h = at_is mark g ts ∙ h.is

-- ---- tokens that follow

abbrev pub is_brace : Lexemes → Bool
is_brace (lex _ brace ∷ _) = true
is_brace _ = false

abbrev pub is_end_brace : Lexemes → Bool
is_end_brace (lex _ end_brace ∷ _) = true
is_end_brace _ = false

abbrev pub is_end_paren : Lexemes → Bool
is_end_paren (lex _ end_paren ∷ _) = true
is_end_paren _ = false

abbrev pub is_comma : Lexemes → Bool
is_comma (lex _ comma ∷ _) = true
is_comma _ = false

abbrev pub is_short : Lexemes → Bool
is_short (lex _ define ∷ _) = true
is_short _ = false

-- nothing that goes on with an operand, and nothing that goes on with an expression
abbrev pub is_still : Lexemes → Bool
is_still (lex _ paren ∷ _) = false
is_still (lex _ dot ∷ _) = false
is_still (lex _ bracket ∷ _) = false
is_still _ = true

-- nor with a list of expressions
abbrev pub ends_exprs : Lexemes → Bool
ends_exprs (lex _ paren ∷ _) = false
ends_exprs (lex _ dot ∷ _) = false
ends_exprs (lex _ bracket ∷ _) = false
ends_exprs (lex _ (binary_op _) ∷ _) = false
ends_exprs (lex _ comma ∷ _) = false
ends_exprs _ = true

-- what follows a statement
abbrev pub ends_stmt : Lexemes → Bool
ends_stmt (lex _ semicolon ∷ _) = true
ends_stmt (lex _ end_brace ∷ _) = true
ends_stmt (lex _ brace ∷ _) = true
ends_stmt _ = false

-- what follows a spec
abbrev pub ends_spec : Lexemes → Bool
ends_spec (lex _ semicolon ∷ _) = true
ends_spec (lex _ end_brace ∷ _) = true
ends_spec (lex _ end_paren ∷ _) = true
ends_spec _ = false

-- what follows statements
abbrev pub ends_block : Lexemes → Bool
ends_block (lex _ end_brace ∷ _) = true
ends_block (lex _ key_case ∷ _) = true
ends_block (lex _ key_default ∷ _) = true
ends_block _ = false

-- ---- tokens that begin a part

abbrev pub starts_word : Lexemes → Bool
starts_word (lex _ (ident _) ∷ _) = true
starts_word _ = false

abbrev pub begins_type : Lexemes → Bool
begins_type (lex _ (ident _) ∷ _) = true
begins_type (lex _ (binary_op Mul) ∷ _) = true
begins_type (lex _ bracket ∷ _) = true
begins_type (lex _ key_map ∷ _) = true
begins_type (lex _ key_struct ∷ _) = true
begins_type (lex _ paren ∷ _) = true
begins_type _ = false

abbrev pub begins_expr : Lexemes → Bool
begins_expr (lex _ (ident _) ∷ _) = true
begins_expr (lex _ (int_lit _) ∷ _) = true
begins_expr (lex _ (rune_lit _) ∷ _) = true
begins_expr (lex _ (str_lit _) ∷ _) = true
begins_expr (lex _ paren ∷ _) = true
begins_expr (lex _ bracket ∷ _) = true
begins_expr (lex _ key_map ∷ _) = true
begins_expr (lex _ key_struct ∷ _) = true
begins_expr (lex _ key_func ∷ _) = true
begins_expr (lex _ (binary_op Mul) ∷ _) = true
begins_expr (lex _ (binary_op Add) ∷ _) = true
begins_expr (lex _ (binary_op Sub) ∷ _) = true
begins_expr (lex _ (binary_op Xor) ∷ _) = true
begins_expr (lex _ (binary_op And) ∷ _) = true
begins_expr (lex _ not_ ∷ _) = true
begins_expr _ = false
