-- What reading an import gives, by the tokens that stand first.
use Rattle.std.proofs.Common.{◌≡◌, ◌≢◌, List, [], ◌∷◌, Option, Some, None, refl, sym, ap, ◌∙◌}
use Rattle.std.specs.Prelude.{ℕ, true, false, option_and_then}
use Rattle.go_tree.specs.declared.spans.Span.{Span}
use Rattle.go_tree.specs.Tree.{NameAt}
use Rattle.go_tree.specs.File.{ImportSpec}
use Rattle.go_tree.specs.GoWords.Terminals.{lex, ident, str_lit, semicolon, paren, end_paren, key_import}
use Rattle.go_read.specs.SpellsSpans.{span_to}
use Rattle.go_tree.specs.GoWords.Texts.{text_value}
use Rattle.go_read.specs.SpellsTypes.{Lexemes}
use Rattle.go_read.specs.Goals.{read_import_spec, read_import_specs, read_import}
use Rattle.go_read.specs.ReadFiles.{import_spec_step, import_specs_after, import_specs_step, import_step}
use Rattle.go_read.specs.Programs.{give, run}
use Rattle.go_read.specs.Reading.{at}
use Rattle.go_read.proofs.Sound.{at_is}
use Rattle.go_tree.specs.declared.go_words.terminals.Terminal.{Terminal}
use Rattle.go_tree.specs.declared.go_words.terminals.Terminal.TheVariants as code
use Rattle.go_productions.specs.Terminals.{first_of, rest_of, spelling_of, name_of}
use Rattle.go_parse.specs.Parts.{closed, spec_end, and_before, path_at, grouped_import_at, single_import_at}
use Rattle.go_parse.proofs.Firsts.{by_first, apart}
use Rattle.go_parse.proofs.Lists.{closes, IsGroup}

pub path_some : (whole : Lexemes) (n : Option (NameAt Span)) (ts : Lexemes) → first_of ts ≡ code.StrLit
    → path_at whole n ts ≡ Some (record { span = span_to whole (rest_of ts); name = n; path = text_value (spelling_of ts) }, rest_of ts)
unfolding path_at
path_some whole n ts e =
    by_first (λ ts. path_at whole n ts ≡ Some (record { span = span_to whole (rest_of ts); name = n; path = text_value (spelling_of ts) }, rest_of ts)) code.StrLit ts e refl (λ s w r. refl)

pub path_is : (whole : Lexemes) (n : Option (NameAt Span)) (ts : Lexemes) (s : Span) (p : List ℕ) (r : Lexemes) → first_of ts ≡ code.StrLit → r ≡ rest_of ts → s ≡ span_to whole r → p ≡ text_value (spelling_of ts)
    → path_at whole n ts ≡ Some (record { span = s; name = n; path = p }, r)
path_is whole n ts s p r e er es ep =
    path_some whole n ts e
    ∙ ap (λ (r : Lexemes). Some (record { span = span_to whole r; name = n; path = text_value (spelling_of ts) }, r)) (sym er)
    ∙ ap (λ (s : Span). Some (record { span = s; name = n; path = text_value (spelling_of ts) }, r)) (sym es)
    ∙ ap (λ (p : List ℕ). Some (record { span = s; name = n; path = p }, r)) (sym ep)

path_off : (whole : Lexemes) (n : Option (NameAt Span)) (ts : Lexemes) → first_of ts ≢ code.StrLit → path_at whole n ts ≡ None
unfolding path_at
path_off whole n [] off = refl
path_off whole n (lex s (str_lit p) ∷ r) off = absurd (off refl)
path_off whole n (lex s _ ∷ r) off = refl

pub path_none : (whole : Lexemes) (n : Option (NameAt Span)) (ts : Lexemes) (k : Terminal) → first_of ts ≡ k → (k ≡ code.StrLit → ⊥) → path_at whole n ts ≡ None
path_none whole n ts k e f = path_off whole n ts (apart ts k code.StrLit e f)

named_on : (ts : Lexemes) → first_of ts ≡ code.Ident → at span_to read_import_spec ts ≡ path_at ts (Some (name_of ts)) (rest_of ts)
unfolding path_at import_spec_step
named_on ts e = by_first (λ ts. at span_to read_import_spec ts ≡ path_at ts (Some (name_of ts)) (rest_of ts)) code.Ident ts e refl go
  where
    go : (s : Span) (w : List ℕ) (r : Lexemes) → at span_to read_import_spec (lex s (ident w) ∷ r) ≡ path_at (lex s (ident w) ∷ r) (Some (name_of (lex s (ident w) ∷ r))) r
    go s w [] = at_is span_to read_import_spec (lex s (ident w) ∷ [])
    go s w (lex c (str_lit p) ∷ r) = at_is span_to read_import_spec (lex s (ident w) ∷ lex c (str_lit p) ∷ r)
    go s w (lex c t ∷ r) = at_is span_to read_import_spec (lex s (ident w) ∷ lex c t ∷ r)

plain_on : (ts : Lexemes) → first_of ts ≢ code.Ident → at span_to read_import_spec ts ≡ path_at ts None ts
unfolding path_at import_spec_step
plain_on [] off = at_is span_to read_import_spec []
plain_on (lex s (str_lit p) ∷ r) off = at_is span_to read_import_spec (lex s (str_lit p) ∷ r)
plain_on (lex s (ident n) ∷ r) off = absurd (off refl)
plain_on (lex s t ∷ r) off = at_is span_to read_import_spec (lex s t ∷ r)

pub spec_named : (ts : Lexemes) (n : NameAt Span) (r : Lexemes) → first_of ts ≡ code.Ident → n ≡ name_of ts → r ≡ rest_of ts → at span_to read_import_spec ts ≡ path_at ts (Some n) r
spec_named ts n r e en er =
    named_on ts e ∙ ap (λ (n : NameAt Span). path_at ts (Some n) (rest_of ts)) (sym en) ∙ ap (λ (r : Lexemes). path_at ts (Some n) r) (sym er)

pub spec_plain : (ts : Lexemes) (k : Terminal) → first_of ts ≡ k → (k ≡ code.Ident → ⊥) → at span_to read_import_spec ts ≡ path_at ts None ts
spec_plain ts k e f = plain_on ts (apart ts k code.Ident e f)

-- ---- groups

specs_end : (ts : Lexemes) → first_of ts ≡ code.EndParen → at span_to read_import_specs ts ≡ Some ([], ts)
unfolding import_specs_step
specs_end ts e = by_first (λ ts. at span_to read_import_specs ts ≡ Some ([], ts)) code.EndParen ts e refl (λ s w r. at_is span_to read_import_specs (lex s end_paren ∷ r))

specs_step : (ts : Lexemes) → first_of ts ≢ code.EndParen → at span_to read_import_specs ts
    ≡ option_and_then (λ x. option_and_then (λ us. and_before x.0 (at span_to read_import_specs us)) (spec_end x.1)) (at span_to read_import_spec ts)
unfolding import_specs_step
specs_step ts off = starts ts off ∙ each (at span_to read_import_spec ts)
  where
    starts : (ts : Lexemes) → first_of ts ≢ code.EndParen → at span_to read_import_specs ts ≡ option_and_then (λ x. run (at span_to) (import_specs_after span_to x.0 x.1)) (at span_to read_import_spec ts)
    starts [] off = at_is span_to read_import_specs []
    starts (lex c end_paren ∷ r) off = absurd (off refl)
    starts (lex c t ∷ r) off = at_is span_to read_import_specs (lex c t ∷ r)

    each : (o : Option (ImportSpec Span × Lexemes)) → option_and_then (λ x. run (at span_to) (import_specs_after span_to x.0 x.1)) o
        ≡ option_and_then (λ x. option_and_then (λ us. and_before x.0 (at span_to read_import_specs us)) (spec_end x.1)) o
    each None = refl
    each (Some (x, [])) = refl
    each (Some (x, lex c semicolon ∷ r)) = refl
    each (Some (x, lex c end_paren ∷ r)) = sym (ap (and_before x) (specs_end (lex c end_paren ∷ r) refl))
    each (Some (x, lex c _ ∷ r)) = refl

pub imports_group : IsGroup (at span_to read_import_spec) (at span_to read_import_specs)
imports_group = record { ends = specs_end; goes = specs_step }

-- ---- declarations

grouped_on : (ts : Lexemes) → first_of ts ≡ code.Import → first_of (rest_of ts) ≡ code.Paren → at span_to read_import ts ≡ grouped_import_at ts (rest_of (rest_of ts))
unfolding import_step grouped_import_at
grouped_on ts e f = by_first (λ ts. first_of (rest_of ts) ≡ code.Paren → at span_to read_import ts ≡ grouped_import_at ts (rest_of (rest_of ts))) code.Import ts e refl (λ s w r g. go s r g) f
  where
    go : (s : Span) (r : Lexemes) → first_of r ≡ code.Paren → at span_to read_import (lex s key_import ∷ r) ≡ grouped_import_at (lex s key_import ∷ r) (rest_of r)
    go s r g = by_first (λ r. at span_to read_import (lex s key_import ∷ r) ≡ grouped_import_at (lex s key_import ∷ r) (rest_of r)) code.Paren r g refl
        (λ b w us. at_is span_to read_import (lex s key_import ∷ lex b paren ∷ us)
        ∙ closes (λ xs r. give (record { span = span_to (lex s key_import ∷ lex b paren ∷ us) r; grouped = true; specs = xs }) r) (at span_to read_import_specs us))

single_on : (ts : Lexemes) → first_of ts ≡ code.Import → first_of (rest_of ts) ≢ code.Paren → at span_to read_import ts ≡ single_import_at ts (rest_of ts)
unfolding import_step single_import_at
single_on ts e f = by_first (λ ts. first_of (rest_of ts) ≢ code.Paren → at span_to read_import ts ≡ single_import_at ts (rest_of ts)) code.Import ts e refl (λ s w r g. go s r g) f
  where
    go : (s : Span) (r : Lexemes) → first_of r ≢ code.Paren → at span_to read_import (lex s key_import ∷ r) ≡ single_import_at (lex s key_import ∷ r) r
    go s [] g = at_is span_to read_import (lex s key_import ∷ [])
    go s (lex b paren ∷ r) g = absurd (g refl)
    go s (lex b t ∷ r) g = at_is span_to read_import (lex s key_import ∷ lex b t ∷ r)

import_off : (ts : Lexemes) → first_of ts ≢ code.Import → at span_to read_import ts ≡ None
unfolding import_step
import_off [] off = at_is span_to read_import []
import_off (lex s key_import ∷ r) off = absurd (off refl)
import_off (lex s t ∷ r) off = at_is span_to read_import (lex s t ∷ r)

pub import_grouped : (ts r us : Lexemes) → first_of ts ≡ code.Import → r ≡ rest_of ts → first_of r ≡ code.Paren → us ≡ rest_of r → at span_to read_import ts ≡ grouped_import_at ts us
import_grouped ts r us e er f eu =
    grouped_on ts e (ap first_of (sym er) ∙ f) ∙ ap (λ (r : Lexemes). grouped_import_at ts (rest_of r)) (sym er) ∙ ap (λ (us : Lexemes). grouped_import_at ts us) (sym eu)

pub import_single : (ts r : Lexemes) (k : Terminal) → first_of ts ≡ code.Import → r ≡ rest_of ts → first_of r ≡ k → (k ≡ code.Paren → ⊥) → at span_to read_import ts ≡ single_import_at ts r
import_single ts r k e er f g =
    single_on ts e (λ h. apart r k code.Paren f g (ap first_of er ∙ h)) ∙ ap (λ (r : Lexemes). single_import_at ts r) (sym er)

pub import_none : (ts : Lexemes) (k : Terminal) → first_of ts ≡ k → (k ≡ code.Import → ⊥) → at span_to read_import ts ≡ None
import_none ts k e f = import_off ts (apart ts k code.Import e f)

pub grouped_some : (whole ts : Lexemes) (xs : List (ImportSpec Span)) (r : Lexemes) (s : Span) → closed (at span_to read_import_specs ts) ≡ Some (xs, r) → s ≡ span_to whole r
    → grouped_import_at whole ts ≡ Some (record { span = s; grouped = true; specs = xs }, r)
unfolding grouped_import_at
grouped_some whole ts xs r s e i =
    ap (λ (o : Option (List (ImportSpec Span) × Lexemes)). option_and_then (λ x. Some (record { span = span_to whole x.1; grouped = true; specs = x.0 }, x.1)) o) e
    ∙ ap (λ (s : Span). Some (record { span = s; grouped = true; specs = xs }, r)) (sym i)

pub grouped_none : (whole ts : Lexemes) → closed (at span_to read_import_specs ts) ≡ None → grouped_import_at whole ts ≡ None
unfolding grouped_import_at
grouped_none whole ts e = ap (λ (o : Option (List (ImportSpec Span) × Lexemes)). option_and_then (λ x. Some (record { span = span_to whole x.1; grouped = true; specs = x.0 }, x.1)) o) e

pub single_some : (whole ts : Lexemes) (x : ImportSpec Span) (xs : List (ImportSpec Span)) (r : Lexemes) (s : Span) → at span_to read_import_spec ts ≡ Some (x, r) → s ≡ span_to whole r → xs ≡ x ∷ []
    → single_import_at whole ts ≡ Some (record { span = s; grouped = false; specs = xs }, r)
unfolding single_import_at
single_some whole ts x xs r s e i one =
    ap (λ (o : Option (ImportSpec Span × Lexemes)). option_and_then (λ x. Some (record { span = span_to whole x.1; grouped = false; specs = x.0 ∷ [] }, x.1)) o) e
    ∙ ap (λ (s : Span). Some (record { span = s; grouped = false; specs = x ∷ [] }, r)) (sym i)
    ∙ ap (λ (xs : List (ImportSpec Span)). Some (record { span = s; grouped = false; specs = xs }, r)) (sym one)

pub single_none : (whole ts : Lexemes) → at span_to read_import_spec ts ≡ None → single_import_at whole ts ≡ None
unfolding single_import_at
single_none whole ts e = ap (λ (o : Option (ImportSpec Span × Lexemes)). option_and_then (λ x. Some (record { span = span_to whole x.1; grouped = false; specs = x.0 ∷ [] }, x.1)) o) e
