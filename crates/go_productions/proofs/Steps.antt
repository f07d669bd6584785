-- What a program of the reader gives where a part is not there.
use Rattle.std.proofs.Common.{◌≡◌, ◌≢◌, Bool, true, false, [], ◌∷◌, Option, Some, None, refl, sym, ap, ◌∙◌}
use Rattle.std.specs.Prelude.{option_and_then, if◌then◌else◌}
use Rattle.go_tree.specs.declared.spans.Span.{Span}
use Rattle.go_tree.specs.GoWords.Terminals as pure
use Rattle.go_tree.specs.GoWords.Terminals.{lex}
use Rattle.go_read.specs.SpellsSpans.{span_to}
use Rattle.go_read.specs.SpellsTypes.{Lexemes}
use Rattle.go_read.specs.Goals.{Goal, Answer}
use Rattle.go_read.specs.Programs.{Program, give, fail, ask, run, unless, after_semicolon, after_colon, after_brace, after_end_brace, after_end_bracket, after_end_paren}
use Rattle.go_read.specs.Reading.{at}
use Rattle.go_read.proofs.Finds.{Runs}
use Rattle.go_tree.specs.declared.go_words.terminals.Terminal.{Terminal}
use Rattle.go_tree.specs.declared.go_words.terminals.Terminal.TheVariants as code
use Rattle.go_productions.specs.Terminals.{first_of, rest_of}
use Rattle.go_productions.specs.Parts.{in_front}

pub fails : {X : Type 0} → Runs span_to {X = X} fail None
fails = record { is = refl }

-- a part that is asked for and is not there
pub lacks : {X : Type 0} {g : Goal Span} {ts : Lexemes} {k : Answer g → Lexemes → Program Span X} → at span_to g ts ≡ None → Runs span_to (ask g ts k) None
lacks {k = k} e = record { is = ap (option_and_then (λ x. run (at span_to) (k x.0 x.1))) e }

-- a test that refuses
pub refuses : {X : Type 0} {b : Bool} (p : Program Span X) → b ≡ true → Runs span_to (unless b p) None
refuses p e = record { is = ap (λ b. run (at span_to) (unless b p)) e }

-- an entry, and the others after it
going : {A L : Type 0} (cons : A → L → L) (x : A) (o : Option (L × Lexemes)) → option_and_then (λ y. Some (cons x y.0, y.1)) o ≡ in_front cons (x ∷ []) o
going cons x None = refl
going cons x (Some y) = refl

pub goes_on : {A : Type 0} {g : Goal Span} {ts : Lexemes} (cons : A → Answer g → Answer g) (x : A) → Runs span_to (ask g ts (λ l r. give (cons x l) r)) (in_front cons (x ∷ []) (at span_to g ts))
goes_on {g = g} {ts = ts} cons x = record { is = going cons x (at span_to g ts) }

pub no_semicolon : {X : Type 0} (ts : Lexemes) (t : Terminal) (k : Lexemes → Program Span X) → first_of ts ≡ t → t ≢ code.Semicolon → Runs span_to (after_semicolon ts k) None
no_semicolon (lex s pure.semicolon ∷ ts) t k h n = absurd (n (sym h))
no_semicolon ts t k h n = record { is = refl }

pub on_semicolon : {X : Type 0} (ts us : Lexemes) (k : Lexemes → Program Span X) {o : Option (X × Lexemes)} → first_of ts ≡ code.Semicolon → us ≡ rest_of ts → Runs span_to (k us) o → Runs span_to (after_semicolon ts k) o
on_semicolon (lex s pure.semicolon ∷ ts) us k h u x = record { is = ap (λ (vs : Lexemes). run (at span_to) (k vs)) (sym u) ∙ x.is }
on_semicolon _ us k h u x = absurd cc

pub no_colon : {X : Type 0} (ts : Lexemes) (t : Terminal) (k : Lexemes → Program Span X) → first_of ts ≡ t → t ≢ code.Colon → Runs span_to (after_colon ts k) None
no_colon (lex s pure.colon ∷ ts) t k h n = absurd (n (sym h))
no_colon ts t k h n = record { is = refl }

pub on_colon : {X : Type 0} (ts us : Lexemes) (k : Lexemes → Program Span X) {o : Option (X × Lexemes)} → first_of ts ≡ code.Colon → us ≡ rest_of ts → Runs span_to (k us) o → Runs span_to (after_colon ts k) o
on_colon (lex s pure.colon ∷ ts) us k h u x = record { is = ap (λ (vs : Lexemes). run (at span_to) (k vs)) (sym u) ∙ x.is }
on_colon _ us k h u x = absurd cc

pub no_brace : {X : Type 0} (ts : Lexemes) (t : Terminal) (k : Lexemes → Program Span X) → first_of ts ≡ t → t ≢ code.Brace → Runs span_to (after_brace ts k) None
no_brace (lex s pure.brace ∷ ts) t k h n = absurd (n (sym h))
no_brace ts t k h n = record { is = refl }

pub on_brace : {X : Type 0} (ts us : Lexemes) (k : Lexemes → Program Span X) {o : Option (X × Lexemes)} → first_of ts ≡ code.Brace → us ≡ rest_of ts → Runs span_to (k us) o → Runs span_to (after_brace ts k) o
on_brace (lex s pure.brace ∷ ts) us k h u x = record { is = ap (λ (vs : Lexemes). run (at span_to) (k vs)) (sym u) ∙ x.is }
on_brace _ us k h u x = absurd cc

pub no_end_brace : {X : Type 0} (ts : Lexemes) (t : Terminal) (k : Lexemes → Program Span X) → first_of ts ≡ t → t ≢ code.EndBrace → Runs span_to (after_end_brace ts k) None
no_end_brace (lex s pure.end_brace ∷ ts) t k h n = absurd (n (sym h))
no_end_brace ts t k h n = record { is = refl }

pub on_end_brace : {X : Type 0} (ts us : Lexemes) (k : Lexemes → Program Span X) {o : Option (X × Lexemes)} → first_of ts ≡ code.EndBrace → us ≡ rest_of ts → Runs span_to (k us) o → Runs span_to (after_end_brace ts k) o
on_end_brace (lex s pure.end_brace ∷ ts) us k h u x = record { is = ap (λ (vs : Lexemes). run (at span_to) (k vs)) (sym u) ∙ x.is }
on_end_brace _ us k h u x = absurd cc

pub no_end_bracket : {X : Type 0} (ts : Lexemes) (t : Terminal) (k : Lexemes → Program Span X) → first_of ts ≡ t → t ≢ code.EndBracket → Runs span_to (after_end_bracket ts k) None
no_end_bracket (lex s pure.end_bracket ∷ ts) t k h n = absurd (n (sym h))
no_end_bracket ts t k h n = record { is = refl }

pub on_end_bracket : {X : Type 0} (ts us : Lexemes) (k : Lexemes → Program Span X) {o : Option (X × Lexemes)} → first_of ts ≡ code.EndBracket → us ≡ rest_of ts → Runs span_to (k us) o → Runs span_to (after_end_bracket ts k) o
on_end_bracket (lex s pure.end_bracket ∷ ts) us k h u x = record { is = ap (λ (vs : Lexemes). run (at span_to) (k vs)) (sym u) ∙ x.is }
on_end_bracket _ us k h u x = absurd cc

pub no_end_paren : {X : Type 0} (ts : Lexemes) (t : Terminal) (k : Lexemes → Program Span X) → first_of ts ≡ t → t ≢ code.EndParen → Runs span_to (after_end_paren ts k) None
no_end_paren (lex s pure.end_paren ∷ ts) t k h n = absurd (n (sym h))
no_end_paren ts t k h n = record { is = refl }

pub on_end_paren : {X : Type 0} (ts us : Lexemes) (k : Lexemes → Program Span X) {o : Option (X × Lexemes)} → first_of ts ≡ code.EndParen → us ≡ rest_of ts → Runs span_to (k us) o → Runs span_to (after_end_paren ts k) o
on_end_paren (lex s pure.end_paren ∷ ts) us k h u x = record { is = ap (λ (vs : Lexemes). run (at span_to) (k vs)) (sym u) ∙ x.is }
on_end_paren _ us k h u x = absurd cc

-- a test that chooses
pub on_true : {X : Type 0} (b : Bool) (p q : Program Span X) {o : Option (X × Lexemes)} → b ≡ true → Runs span_to p o → Runs span_to (if b then p else q) o
on_true b p q e h = record { is = ap (λ b. run (at span_to) (if b then p else q)) e ∙ h.is }

pub on_false : {X : Type 0} (b : Bool) (p q : Program Span X) {o : Option (X × Lexemes)} → b ≡ false → Runs span_to q o → Runs span_to (if b then p else q) o
on_false b p q e h = record { is = ap (λ b. run (at span_to) (if b then p else q)) e ∙ h.is }
