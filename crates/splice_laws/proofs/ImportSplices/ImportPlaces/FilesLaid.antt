-- In a text whose tokens spell a file, its package name and its imports lie as their spans say.
use Rattle.std.proofs.Common.{◌≡◌, ◌≤◌, ◌-◌, ℕ, List, ◌∷◌, length, sym, subst, arith}
use Rattle.go_tree.specs.declared.spans.Span.{Span}
use Rattle.go_tree.specs.declared.tokens.Token.{Token}
use Rattle.go_tree.specs.Tree.{NameAt}
use Rattle.go_tree.specs.File.{ImportDecl, File}
use Rattle.go_tree.specs.GoWords.Terminals.{lex, ident, semicolon}
use Rattle.go_read.specs.SpellsTypes.{Lexemes}
use Rattle.go_read.specs.SpellsSpans.{span_to}
use Rattle.go_read.specs.SpellsFiles.{SpellsFront, front_rule}
use Rattle.splice_laws.proofs.Grafts.{Within, here, later}
use Rattle.run_rules.specs.ImportRules.Laid.{IsInk, DeclsLie}
use Rattle.splice_laws.specs.ImportSplices.ImportPlaces.ReadFiles.{TokensOfTextsStand, ImportsOfReadFilesLie}
use Rattle.splice_laws.proofs.ImportSplices.ImportPlaces.TokensStand.{tokens_stand}
use Rattle.splice_laws.proofs.ImportSplices.ImportPlaces.ImportsStand.{IsWord, Lie, ImportsLie, all_lie, in_order, end_is, lie_lower, imports_lie}

-- the package name and the imports lie in the text
record FrontLies (text : List ℕ) (all : List Token) (name : NameAt Span) (imports : List (ImportDecl Span)) : Type 0 where
  name_within : name.span.end ≤ length text
  name_ends : IsInk text (name.span.end - 1)
  lie : DeclsLie text all name.span.end imports

front_lies : (text : List ℕ) (all : List Token) {f : File Span} {ts r : Lexemes} (from : ℕ) → SpellsFront span_to f ts r → Lie text all from ts → FrontLies text all f.package_name f.imports
front_lies text all from (front_rule {s = s} {c = c} {d = d} {n = n} {is = is} {ts = ts} {mid = mid} d1 d2 d3) h =
    let k : IsWord text all c (ident n) = h.4.3 (λ e. cc) in
    let one : Within (lex d semicolon ∷ ts) (lex c (ident n) ∷ lex d semicolon ∷ ts) = later here in
    let e : (span_to (lex c (ident n) ∷ lex d semicolon ∷ ts) (lex d semicolon ∷ ts)).end ≡ c.end = end_is c.start one in
    let own : Lie text all c.end ts = lie_lower text all c.end d.end ts (omega (arith, h.4.4.0, h.4.4.1)) h.4.4.4 in
    let i : ImportsLie text all c.end is mid = imports_lie text all c.end d2 own in
    record {
      name_within = subst (λ (m : ℕ). m ≤ length text) (sym e) h.4.2;
      name_ends = subst (λ (m : ℕ). IsInk text (m - 1)) (sym e) k.inked.2;
      lie = subst (λ (m : ℕ). DeclsLie text all m is) (sym e) i.lie;
    }

pub tokens_in_order : TokensOfTextsStand
tokens_in_order text tokens comments t = in_order text 0 tokens (tokens_stand text tokens comments t)

pub imports_laid : ImportsOfReadFilesLie
imports_laid text tokens comments file t s =
    let whole : FrontLies text tokens s.whole.package_name s.whole.imports = front_lies text tokens 0 s.spelled (all_lie text tokens (tokens_stand text tokens comments t)) in
    let named : FrontLies text tokens file.package_name s.whole.imports = subst (λ (n : NameAt Span). FrontLies text tokens n s.whole.imports) s.name_is whole in
    let f : FrontLies text tokens file.package_name file.imports = subst (λ (is : List (ImportDecl Span)). FrontLies text tokens file.package_name is) s.imports_are named in
    record { order = tokens_in_order text tokens comments t; name_within = f.name_within; name_ends = f.name_ends; imports = f.lie }
