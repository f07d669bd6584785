-- What reading a type declaration gives, by the tokens that stand first.
use Rattle.std.proofs.Common.{◌≡◌, ◌≢◌, ℕ, Bool, true, false, List, [], ◌∷◌, Option, Some, None, refl, sym, ap, ◌∙◌}
use Rattle.std.specs.Prelude.{option_and_then}
use Rattle.go_tree.specs.declared.spans.Span.{Span}
use Rattle.go_tree.specs.Tree.{NameAt, TypeExpr}
use Rattle.go_tree.specs.File.{TypeSpec, types}
use Rattle.go_tree.specs.GoWords.Terminals.{lex, ident, assign, semicolon, paren, end_paren}
use Rattle.go_read.specs.SpellsSpans.{span_to}
use Rattle.go_read.specs.SpellsTypes.{Lexemes}
use Rattle.go_read.specs.Goals.{read_type, read_type_spec, read_type_specs}
use Rattle.go_read.specs.ReadFiles.{type_spec_step, type_specs_after, type_specs_step}
use Rattle.go_read.specs.Programs.{run}
use Rattle.go_read.specs.Reading.{at}
use Rattle.go_read.proofs.Sound.{at_is}
use Rattle.go_tree.specs.declared.go_words.terminals.Terminal.{Terminal}
use Rattle.go_tree.specs.declared.go_words.terminals.Terminal.TheVariants as code
use Rattle.go_productions.specs.Terminals.{first_of, rest_of, name_of}
use Rattle.go_parse.specs.Parts.{closed, spec_end, and_before, type_after_at, grouped_types_at, single_type_at, type_decl_at}
use Rattle.go_parse.proofs.Firsts.{by_first, apart}
use Rattle.go_parse.proofs.Lists.{IsGroup}

pub after_some : (whole : Lexemes) (n : NameAt Span) (alias : Bool) (ts : Lexemes) (t : TypeExpr Span) (r : Lexemes) (s : Span) → at span_to read_type ts ≡ Some (t, r) → s ≡ span_to whole r
    → type_after_at whole n alias ts ≡ Some (record { span = s; name = n; alias = alias; of = t }, r)
unfolding type_after_at
after_some whole n alias ts t r s e i =
    ap (λ (o : Option (TypeExpr Span × Lexemes)). option_and_then (λ x. Some (record { span = span_to whole x.1; name = n; alias = alias; of = x.0 }, x.1)) o) e
    ∙ ap (λ (s : Span). Some (record { span = s; name = n; alias = alias; of = t }, r)) (sym i)

pub after_none : (whole : Lexemes) (n : NameAt Span) (alias : Bool) (ts : Lexemes) → at span_to read_type ts ≡ None → type_after_at whole n alias ts ≡ None
unfolding type_after_at
after_none whole n alias ts e = ap (λ (o : Option (TypeExpr Span × Lexemes)). option_and_then (λ x. Some (record { span = span_to whole x.1; name = n; alias = alias; of = x.0 }, x.1)) o) e

alias_on : (ts : Lexemes) → first_of ts ≡ code.Ident → first_of (rest_of ts) ≡ code.Assign None → at span_to read_type_spec ts ≡ type_after_at ts (name_of ts) true (rest_of (rest_of ts))
unfolding type_spec_step type_after_at
alias_on ts e f = by_first (λ ts. first_of (rest_of ts) ≡ code.Assign None → at span_to read_type_spec ts ≡ type_after_at ts (name_of ts) true (rest_of (rest_of ts))) code.Ident ts e refl go f
  where
    go : (s : Span) (w : List ℕ) (r : Lexemes) → first_of r ≡ code.Assign None → at span_to read_type_spec (lex s (ident w) ∷ r) ≡ type_after_at (lex s (ident w) ∷ r) (name_of (lex s (ident w) ∷ r)) true (rest_of r)
    go s w r g = by_first (λ r. at span_to read_type_spec (lex s (ident w) ∷ r) ≡ type_after_at (lex s (ident w) ∷ r) (name_of (lex s (ident w) ∷ r)) true (rest_of r)) (code.Assign None) r g refl
        (λ c v us. at_is span_to read_type_spec (lex s (ident w) ∷ lex c (assign None) ∷ us))

defined_on : (ts : Lexemes) → first_of ts ≡ code.Ident → first_of (rest_of ts) ≢ code.Assign None → at span_to read_type_spec ts ≡ type_after_at ts (name_of ts) false (rest_of ts)
unfolding type_spec_step type_after_at
defined_on ts e f = by_first (λ ts. first_of (rest_of ts) ≢ code.Assign None → at span_to read_type_spec ts ≡ type_after_at ts (name_of ts) false (rest_of ts)) code.Ident ts e refl go f
  where
    go : (s : Span) (w : List ℕ) (r : Lexemes) → first_of r ≢ code.Assign None → at span_to read_type_spec (lex s (ident w) ∷ r) ≡ type_after_at (lex s (ident w) ∷ r) (name_of (lex s (ident w) ∷ r)) false r
    go s w [] g = at_is span_to read_type_spec (lex s (ident w) ∷ [])
    go s w (lex c (assign None) ∷ r) g = absurd (g refl)
    go s w (lex c (assign (Some op)) ∷ r) g = at_is span_to read_type_spec (lex s (ident w) ∷ lex c (assign (Some op)) ∷ r)
    go s w (lex c t ∷ r) g = at_is span_to read_type_spec (lex s (ident w) ∷ lex c t ∷ r)

spec_off : (ts : Lexemes) → first_of ts ≢ code.Ident → at span_to read_type_spec ts ≡ None
unfolding type_spec_step
spec_off [] off = at_is span_to read_type_spec []
spec_off (lex s (ident w) ∷ r) off = absurd (off refl)
spec_off (lex s t ∷ r) off = at_is span_to read_type_spec (lex s t ∷ r)

pub spec_alias : (ts : Lexemes) (n : NameAt Span) (r us : Lexemes) → first_of ts ≡ code.Ident → n ≡ name_of ts → r ≡ rest_of ts → first_of r ≡ code.Assign None → us ≡ rest_of r
    → at span_to read_type_spec ts ≡ type_after_at ts n true us
spec_alias ts n r us e en er f eu =
    alias_on ts e (ap first_of (sym er) ∙ f) ∙ ap (λ (n : NameAt Span). type_after_at ts n true (rest_of (rest_of ts))) (sym en)
    ∙ ap (λ (us : Lexemes). type_after_at ts n true us) (sym (eu ∙ ap rest_of er))

pub spec_defined : (ts : Lexemes) (n : NameAt Span) (r : Lexemes) (k : Terminal) → first_of ts ≡ code.Ident → n ≡ name_of ts → r ≡ rest_of ts → first_of r ≡ k → (k ≡ code.Assign None → ⊥)
    → at span_to read_type_spec ts ≡ type_after_at ts n false r
spec_defined ts n r k e en er f g =
    defined_on ts e (λ h. apart r k (code.Assign None) f g (ap first_of er ∙ h)) ∙ ap (λ (n : NameAt Span). type_after_at ts n false (rest_of ts)) (sym en)
    ∙ ap (λ (us : Lexemes). type_after_at ts n false us) (sym er)

pub spec_none : (ts : Lexemes) (k : Terminal) → first_of ts ≡ k → (k ≡ code.Ident → ⊥) → at span_to read_type_spec ts ≡ None
spec_none ts k e f = spec_off ts (apart ts k code.Ident e f)

-- ---- groups

specs_end : (ts : Lexemes) → first_of ts ≡ code.EndParen → at span_to read_type_specs ts ≡ Some ([], ts)
unfolding type_specs_step
specs_end ts e = by_first (λ ts. at span_to read_type_specs ts ≡ Some ([], ts)) code.EndParen ts e refl (λ s w r. at_is span_to read_type_specs (lex s end_paren ∷ r))

specs_step : (ts : Lexemes) → first_of ts ≢ code.EndParen → at span_to read_type_specs ts
    ≡ option_and_then (λ x. option_and_then (λ us. and_before x.0 (at span_to read_type_specs us)) (spec_end x.1)) (at span_to read_type_spec ts)
unfolding type_specs_step
specs_step ts off = starts ts off ∙ each (at span_to read_type_spec ts)
  where
    starts : (ts : Lexemes) → first_of ts ≢ code.EndParen → at span_to read_type_specs ts ≡ option_and_then (λ x. run (at span_to) (type_specs_after span_to x.0 x.1)) (at span_to read_type_spec ts)
    starts [] off = at_is span_to read_type_specs []
    starts (lex c end_paren ∷ r) off = absurd (off refl)
    starts (lex c t ∷ r) off = at_is span_to read_type_specs (lex c t ∷ r)

    each : (o : Option (TypeSpec Span × Lexemes)) → option_and_then (λ x. run (at span_to) (type_specs_after span_to x.0 x.1)) o
        ≡ option_and_then (λ x. option_and_then (λ us. and_before x.0 (at span_to read_type_specs us)) (spec_end x.1)) o
    each None = refl
    each (Some (x, [])) = refl
    each (Some (x, lex c semicolon ∷ r)) = refl
    each (Some (x, lex c end_paren ∷ r)) = sym (ap (and_before x) (specs_end (lex c end_paren ∷ r) refl))
    each (Some (x, lex c _ ∷ r)) = refl

pub types_group : IsGroup (at span_to read_type_spec) (at span_to read_type_specs)
types_group = record { ends = specs_end; goes = specs_step }

pub grouped_some : (whole ts : Lexemes) (xs : List (TypeSpec Span)) (r : Lexemes) (s : Span) → closed (at span_to read_type_specs ts) ≡ Some (xs, r) → s ≡ span_to whole r
    → grouped_types_at whole ts ≡ Some (types s true xs, r)
unfolding grouped_types_at
grouped_some whole ts xs r s e i =
    ap (λ (o : Option (List (TypeSpec Span) × Lexemes)). option_and_then (λ x. Some (types (span_to whole x.1) true x.0, x.1)) o) e ∙ ap (λ (s : Span). Some (types s true xs, r)) (sym i)

pub grouped_none : (whole ts : Lexemes) → closed (at span_to read_type_specs ts) ≡ None → grouped_types_at whole ts ≡ None
unfolding grouped_types_at
grouped_none whole ts e = ap (λ (o : Option (List (TypeSpec Span) × Lexemes)). option_and_then (λ x. Some (types (span_to whole x.1) true x.0, x.1)) o) e

pub single_some : (whole ts : Lexemes) (x : TypeSpec Span) (xs : List (TypeSpec Span)) (r : Lexemes) (s : Span) → at span_to read_type_spec ts ≡ Some (x, r) → s ≡ span_to whole r → xs ≡ x ∷ []
    → single_type_at whole ts ≡ Some (types s false xs, r)
unfolding single_type_at
single_some whole ts x xs r s e i one =
    ap (λ (o : Option (TypeSpec Span × Lexemes)). option_and_then (λ x. Some (types (span_to whole x.1) false (x.0 ∷ []), x.1)) o) e
    ∙ ap (λ (s : Span). Some (types s false (x ∷ []), r)) (sym i) ∙ ap (λ (xs : List (TypeSpec Span)). Some (types s false xs, r)) (sym one)

pub single_none : (whole ts : Lexemes) → at span_to read_type_spec ts ≡ None → single_type_at whole ts ≡ None
unfolding single_type_at
single_none whole ts e = ap (λ (o : Option (TypeSpec Span × Lexemes)). option_and_then (λ x. Some (types (span_to whole x.1) false (x.0 ∷ []), x.1)) o) e

grouped_on : (ts : Lexemes) → first_of (rest_of ts) ≡ code.Paren → type_decl_at ts ≡ grouped_types_at ts (rest_of (rest_of ts))
unfolding type_decl_at
grouped_on [] f = absurd (cc)
grouped_on (x ∷ r) f = by_first (λ r. type_decl_at (x ∷ r) ≡ grouped_types_at (x ∷ r) (rest_of r)) code.Paren r f refl (λ b w us. refl)

single_on : (ts : Lexemes) → first_of (rest_of ts) ≢ code.Paren → type_decl_at ts ≡ single_type_at ts (rest_of ts)
unfolding type_decl_at
single_on [] f = refl
single_on (x ∷ []) f = refl
single_on (x ∷ lex b paren ∷ us) f = absurd (f refl)
single_on (x ∷ lex b _ ∷ us) f = refl

pub decl_grouped : (ts r us : Lexemes) → r ≡ rest_of ts → first_of r ≡ code.Paren → us ≡ rest_of r → type_decl_at ts ≡ grouped_types_at ts us
decl_grouped ts r us er f eu = grouped_on ts (ap first_of (sym er) ∙ f) ∙ ap (λ (us : Lexemes). grouped_types_at ts us) (sym (eu ∙ ap rest_of er))

pub decl_single : (ts r : Lexemes) (k : Terminal) → r ≡ rest_of ts → first_of r ≡ k → (k ≡ code.Paren → ⊥) → type_decl_at ts ≡ single_type_at ts r
decl_single ts r k er f g = single_on ts (λ h. apart r k code.Paren f g (ap first_of er ∙ h)) ∙ ap (λ (r : Lexemes). single_type_at ts r) (sym er)
