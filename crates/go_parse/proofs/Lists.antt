-- Lists that are read until something else stands there.
use Rattle.std.proofs.Common.{◌≡◌, ◌≢◌, List, [], ◌∷◌, ◌++◌, Option, Some, None, refl, sym, ap, ◌∙◌, append_assoc, append-nil}
use Rattle.std.specs.Prelude.{option_and_then}
use Rattle.go_tree.specs.declared.spans.Span.{Span}
use Rattle.go_tree.specs.GoWords.Terminals.{lex, semicolon, end_paren}
use Rattle.go_read.specs.SpellsSpans.{span_to}
use Rattle.go_read.specs.SpellsTypes.{Lexemes}
use Rattle.go_read.specs.Programs.{Program, run, after_end_paren}
use Rattle.go_read.specs.Reading.{at}
use Rattle.go_tree.specs.declared.go_words.terminals.Terminal.{Terminal}
use Rattle.go_tree.specs.declared.go_words.terminals.Terminal.TheVariants as code
use Rattle.go_productions.specs.Terminals.{first_of, rest_of}
use Rattle.go_parse.specs.Parts.{closed, ended, spec_end, and_before, with_front}
use Rattle.go_parse.proofs.Firsts.{by_first, apart}

-- what is read up to a closing parenthesis, and what is read then
pub closes : {A X : Type 0} (next : A → Lexemes → Program Span X) (o : Option (A × Lexemes)) → option_and_then (λ x. run (at span_to) (after_end_paren x.1 (λ r. next x.0 r))) o ≡ option_and_then (λ x. run (at span_to) (next x.0 x.1)) (closed o)
closes next None = refl
closes next (Some (x, [])) = refl
closes next (Some (x, lex c end_paren ∷ r)) = refl
closes next (Some (x, lex c _ ∷ r)) = refl

pub closed_some : {A : Type 0} (x : A) (r : Lexemes) → first_of r ≡ code.EndParen → closed (Some (x, r)) ≡ Some (x, rest_of r)
closed_some x r e = by_first (λ r. closed (Some (x, r)) ≡ Some (x, rest_of r)) code.EndParen r e refl (λ s w r. refl)

pub closed_none : {A : Type 0} (x : A) (r : Lexemes) → first_of r ≢ code.EndParen → closed (Some (x, r)) ≡ None
closed_none x [] off = refl
closed_none x (lex c end_paren ∷ r) off = absurd (off refl)
closed_none x (lex c _ ∷ r) off = refl

pub ended_some : {A : Type 0} (x : A) (r : Lexemes) → first_of r ≡ code.Semicolon → ended (Some (x, r)) ≡ Some (x, rest_of r)
ended_some x r e = by_first (λ r. ended (Some (x, r)) ≡ Some (x, rest_of r)) code.Semicolon r e refl (λ s w r. refl)

pub ended_none : {A : Type 0} (x : A) (r : Lexemes) → first_of r ≢ code.Semicolon → ended (Some (x, r)) ≡ None
ended_none x [] off = refl
ended_none x (lex c semicolon ∷ r) off = absurd (off refl)
ended_none x (lex c _ ∷ r) off = refl

-- ---- one after another

front_before : {X : Type 0} (xs : List X) (x : X) (o : Option (List X × Lexemes)) → with_front xs (and_before x o) ≡ with_front (xs ++ x ∷ []) o
front_before xs x (Some y) = ap (λ (zs : List _). Some (zs, y.1)) (sym (append_assoc xs (x ∷ []) y.0))
front_before xs x None = refl

-- a group: what one spec and what all of them are
pub record IsGroup {X : Type 0} (one : Lexemes → Option (X × Lexemes)) (all : Lexemes → Option (List X × Lexemes)) : Type 0 where
  pub ends : (ts : Lexemes) → first_of ts ≡ code.EndParen → all ts ≡ Some ([], ts)
  pub goes : (ts : Lexemes) → first_of ts ≢ code.EndParen → all ts ≡ option_and_then (λ x. option_and_then (λ us. and_before x.0 (all us)) (spec_end x.1)) (one ts)

module _ {X : Type 0} {one : Lexemes → Option (X × Lexemes)} {all : Lexemes → Option (List X × Lexemes)} (is : IsGroup one all) where
  pub group_ends : (xs : List X) (ts : Lexemes) (whole : Option (List X × Lexemes)) (ys : List X) (us : Lexemes) → with_front xs (all ts) ≡ whole → first_of ts ≡ code.EndParen → ys ≡ xs → us ≡ rest_of ts → closed whole ≡ Some (ys, us)
  group_ends xs ts whole ys us e f same next =
      ap closed (sym e ∙ ap (with_front xs) (is.ends ts f)) ∙ closed_some (xs ++ []) ts f ∙ ap (λ (ys : List X). Some (ys, rest_of ts)) (append-nil xs ∙ sym same) ∙ ap (λ (us : Lexemes). Some (ys, us)) (sym next)

  pub group_fails : (xs : List X) (ts : Lexemes) (whole : Option (List X × Lexemes)) → with_front xs (all ts) ≡ whole → first_of ts ≢ code.EndParen → one ts ≡ None → closed whole ≡ None
  group_fails xs ts whole e f none =
      ap closed (sym e ∙ ap (with_front xs) (is.goes ts f ∙ ap (λ (o : Option (X × Lexemes)). option_and_then (λ x. option_and_then (λ us. and_before x.0 (all us)) (spec_end x.1)) o) none))

  pub group_stops : (xs : List X) (ts : Lexemes) (whole : Option (List X × Lexemes)) (x : X) (r : Lexemes) → with_front xs (all ts) ≡ whole → first_of ts ≢ code.EndParen → one ts ≡ Some (x, r) → spec_end r ≡ None → closed whole ≡ None
  group_stops xs ts whole x r e f some none =
      ap closed (sym e ∙ ap (with_front xs) (is.goes ts f ∙ ap (λ (o : Option (X × Lexemes)). option_and_then (λ x. option_and_then (λ us. and_before x.0 (all us)) (spec_end x.1)) o) some
      ∙ ap (λ (o : Option Lexemes). option_and_then (λ us. and_before x (all us)) o) none))

  pub group_goes : (xs : List X) (ts : Lexemes) (whole : Option (List X × Lexemes)) (x : X) (r us : Lexemes) → with_front xs (all ts) ≡ whole → first_of ts ≢ code.EndParen → one ts ≡ Some (x, r) → spec_end r ≡ Some us
      → with_front (xs ++ x ∷ []) (all us) ≡ whole
  group_goes xs ts whole x r us e f some next =
      sym (front_before xs x (all us))
      ∙ ap (with_front xs) (sym (is.goes ts f ∙ ap (λ (o : Option (X × Lexemes)). option_and_then (λ x. option_and_then (λ us. and_before x.0 (all us)) (spec_end x.1)) o) some
      ∙ ap (λ (o : Option Lexemes). option_and_then (λ us. and_before x (all us)) o) next)) ∙ e

-- a row of declarations, each with its semicolon
pub record IsRow {X : Type 0} (one : Lexemes → Option (X × Lexemes)) (all : Lexemes → Option (List X × Lexemes)) : Type 0 where
  pub ends : (ts : Lexemes) → ended (one ts) ≡ None → all ts ≡ Some ([], ts)
  pub goes : (ts : Lexemes) (x : X) (r : Lexemes) → ended (one ts) ≡ Some (x, r) → all ts ≡ and_before x (all r)

module _ {X : Type 0} {one : Lexemes → Option (X × Lexemes)} {all : Lexemes → Option (List X × Lexemes)} (is : IsRow one all) where
  pub row_ends : (xs : List X) (ts : Lexemes) (whole : Option (List X × Lexemes)) (ys : List X) → with_front xs (all ts) ≡ whole → ended (one ts) ≡ None → ys ≡ xs → whole ≡ Some (ys, ts)
  row_ends xs ts whole ys e none same = sym e ∙ ap (with_front xs) (is.ends ts none) ∙ ap (λ (ys : List X). Some (ys, ts)) (append-nil xs ∙ sym same)

  pub row_goes : (xs : List X) (ts : Lexemes) (whole : Option (List X × Lexemes)) (x : X) (r : Lexemes) → with_front xs (all ts) ≡ whole → ended (one ts) ≡ Some (x, r) → with_front (xs ++ x ∷ []) (all r) ≡ whole
  row_goes xs ts whole x r e some = sym (front_before xs x (all r)) ∙ ap (with_front xs) (sym (is.goes ts x r some)) ∙ e

-- ---- a declaration with its semicolon

pub ended_is : {A : Type 0} (o : Option (A × Lexemes)) (x : A) (r us : Lexemes) → o ≡ Some (x, r) → first_of r ≡ code.Semicolon → us ≡ rest_of r → ended o ≡ Some (x, us)
ended_is o x r us e f next = ap ended e ∙ ended_some x r f ∙ ap (λ (us : Lexemes). Some (x, us)) (sym next)

pub ended_off : {A : Type 0} (o : Option (A × Lexemes)) (x : A) (r : Lexemes) (k : Terminal) → o ≡ Some (x, r) → first_of r ≡ k → (k ≡ code.Semicolon → ⊥) → ended o ≡ None
ended_off o x r k e f g = ap ended e ∙ ended_none x r (apart r k code.Semicolon f g)

pub ended_fails : {A : Type 0} (o : Option (A × Lexemes)) → o ≡ None → ended o ≡ None
ended_fails o e = ap ended e
