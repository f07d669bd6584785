-- The string literals among the tokens that are left.
use Rattle.std.proofs.Common.{◌≡◌, [], ◌∷◌, Option, Some, None, refl, sym, ap, subst}
use Rattle.go_tree.specs.declared.spans.Span.{Span}
use Rattle.go_tree.specs.GoLiterals.Strings.{IsString}
use Rattle.go_tree.specs.File.{ImportSpec, ImportDecl}
use Rattle.go_tree.specs.GoWords.Terminals.{Terminal, lex, str_lit, semicolon, end_paren}
use Rattle.go_read.specs.SpellsSpans.{span_to}
use Rattle.go_read.specs.SpellsTypes.{Lexemes}
use Rattle.go_read.specs.Goals.{read_import_spec, read_import}
use Rattle.go_read.specs.Reading.{at}
use Rattle.go_read.proofs.Sound.{at_sound}
use Rattle.go_read.proofs.Suffixes.{Suffix, whole, after, import_spec_suffix, import_suffix}
use Rattle.go_tree.specs.declared.go_words.terminals.Terminal.TheVariants as code
use Rattle.go_tree.specs.GoWords.Codes.{code_of}
use Rattle.go_productions.specs.Terminals.{first_of, rest_of, letters_of, spelling_of}
use Rattle.go_parse.specs.Parts.{ended, spec_end}
use Rattle.go_parse.specs.Texts.{IsSound, HasTexts}

texts_of_suffix : {r ts : Lexemes} → Suffix r ts → HasTexts ts → HasTexts r
unfolding HasTexts
texts_of_suffix whole h = h
texts_of_suffix (after {x = lex s t} k) h = texts_of_suffix k h.1

pub texts_of_rest : (ts : Lexemes) → HasTexts ts → HasTexts (rest_of ts)
unfolding HasTexts
texts_of_rest [] h = h
texts_of_rest (lex s t ∷ r) h = h.1

pub texts_from : (ts us : Lexemes) → us ≡ rest_of ts → HasTexts ts → HasTexts us
texts_from ts us e h = subst HasTexts (sym e) (texts_of_rest ts h)

pub texts_after_spec : (ts : Lexemes) (x : ImportSpec Span) (r us : Lexemes) → at span_to read_import_spec ts ≡ Some (x, r) → Some us ≡ spec_end r → HasTexts ts → HasTexts us
unfolding HasTexts
texts_after_spec ts x r us e next h = go r next (texts_of_suffix (import_spec_suffix span_to (at_sound span_to read_import_spec ts (x, r) e).1) h)
  where
    go : (r : Lexemes) → Some us ≡ spec_end r → HasTexts r → HasTexts us
    go [] e h = absurd (cc)
    go (lex c semicolon ∷ r) e h = let same : us ≡ r = cc in subst HasTexts (sym same) h.1
    go (lex c end_paren ∷ r) e h = let same : us ≡ lex c end_paren ∷ r = cc in subst HasTexts (sym same) h
    go (lex c _ ∷ r) e h = absurd (cc)

pair_rest : (p q : ImportDecl Span × Lexemes) → Some p ≡ Some q → p.1 ≡ q.1
pair_rest p q e = let same : p ≡ q = cc in ap (λ (z : ImportDecl Span × Lexemes). z.1) same

pub texts_after_import : (ts : Lexemes) (x : ImportDecl Span) (us : Lexemes) → ended (at span_to read_import ts) ≡ Some (x, us) → HasTexts ts → HasTexts us
unfolding HasTexts
texts_after_import ts x us e h = go (at span_to read_import ts) refl e
  where
    go : (o : Option (ImportDecl Span × Lexemes)) → at span_to read_import ts ≡ o → ended o ≡ Some (x, us) → HasTexts us
    go None i e = absurd (cc)
    go (Some (y, [])) i e = absurd (cc)
    go (Some (y, lex c semicolon ∷ r)) i e =
        let same : r ≡ us = pair_rest (y, r) (x, us) e in
        subst HasTexts same (texts_of_suffix (import_suffix span_to (at_sound span_to read_import ts (y, lex c semicolon ∷ r) i).1) h).1
    go (Some (y, lex c _ ∷ r)) i e = absurd (cc)

-- ---- the literal that stands first

literal_sound : (u : Terminal) → code_of u ≡ code.StrLit → IsSound u → IsString (letters_of u)
literal_sound (str_lit p) e h = h
literal_sound _ e h = absurd (cc)

pub text_stands : (ts : Lexemes) → HasTexts ts → first_of ts ≡ code.StrLit → IsString (spelling_of ts)
unfolding HasTexts
text_stands [] h f = absurd (cc)
text_stands (lex s u ∷ r) h f = literal_sound u f h.0
