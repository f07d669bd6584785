-- The name of the package is the second token of a source file.
use Rattle.std.proofs.Common.{◌≡◌, ◌∙◌, ◌<◌, ℕ, Bool, true, false, if◌then◌else◌, not, ◌&&◌, List, [], ◌∷◌, length, refl, sym, ap, subst, arith, slice_index_or, bytes_eq}
use Rattle.std.specs.List.{list_all}
use Rattle.go_tree.specs.declared.spans.Span.{Span}
use Rattle.go_tree.specs.declared.tokens.Token.{Token}
use Rattle.go_tree.specs.declared.tokens.TokenKind.{TokenKind}
use Rattle.go_tree.specs.declared.tokens.TokenKind.TheVariants.{Ident, Keyword, Operator, Integer, Float, Imaginary, Rune, Str, Inserted}
use Rattle.go_tree.specs.File.{File}
use Rattle.go_tree.specs.GoWords.Terminals.{Terminal, Lexeme, lex, ident, semicolon, keywords, operators, found_in, terminal_of, lexemes}
use Rattle.go_tree.specs.declared.tokens.Comment.{Comment}
use Rattle.go_tree.specs.GoWords.Tokens.{TokensOf}
use Rattle.go_scan.proofs.Cuts.{tokens_once}
use Rattle.run_rules.specs.Inlining.{IsSourceFile}
use Rattle.module_refusals.specs.Told.{NamesPackage}
use Rattle.go_read.specs.SpellsSpans.{span_to}
use Rattle.go_read.specs.SpellsFiles.{SpellsFile, SpellsFront, front_rule}

abbrev is_ident : Terminal → Bool
is_ident (ident n) = true
is_ident _ = false

abbrev name_in : Terminal → List ℕ
name_in (ident n) = n
name_in _ = []

abbrev no_ident : List ℕ × Terminal → Bool
no_ident row = not (is_ident row.1)

both : (a b : Bool) → (a && b) ≡ true → (a ≡ true) × (b ≡ true)
both true b h = (refl, h)
both false b h = absurd cc

-- no word of a table is an identifier
none_in : (rows : List (List ℕ × Terminal)) (s : List ℕ) → list_all no_ident rows ≡ true → is_ident (found_in rows s) ≡ true → ⊥
none_in [] s all e = absurd cc
none_in (row ∷ rows) s all e = by (bytes_eq row.0 s) (both (no_ident row) (list_all no_ident rows) all).0 (none_in rows s (both (no_ident row) (list_all no_ident rows) all).1) e
  where
    not_both : (b : Bool) → not b ≡ true → b ≡ true → ⊥
    not_both true n e = absurd cc
    not_both false n e = absurd cc

    by : (b : Bool) → no_ident row ≡ true → (is_ident (found_in rows s) ≡ true → ⊥) → is_ident (if b then row.1 else found_in rows s) ≡ true → ⊥
    by true n ih e = not_both (is_ident row.1) n e
    by false n ih e = ih e

-- an identifier is its own spelling
ident_spelled : (k : TokenKind) (s n : List ℕ) → terminal_of k s ≡ ident n → n ≡ s
ident_spelled Ident s n e = sym (ap name_in e)
ident_spelled Keyword s n e = absurd (none_in keywords s refl (ap is_ident e))
ident_spelled Operator s n e = absurd (none_in operators s refl (ap is_ident e))
ident_spelled Integer s n e = absurd (let clash = ap is_ident e in cc)
ident_spelled Float s n e = absurd (let clash = ap is_ident e in cc)
ident_spelled Imaginary s n e = absurd (let clash = ap is_ident e in cc)
ident_spelled Rune s n e = absurd (let clash = ap is_ident e in cc)
ident_spelled Str s n e = absurd (let clash = ap is_ident e in cc)
ident_spelled Inserted s n e = absurd (let clash = ap is_ident e in cc)

-- the terminal of the second token
abbrev second_terminal : List Lexeme → Terminal
second_terminal (l ∷ lex s t ∷ ls) = t
second_terminal _ = semicolon

-- the second token is there, and spells this name
pub record IsSecond (tokens : List Token) (name : List ℕ) : Type 0 where
  pub within : 1 < length tokens
  pub is : (d : Token) → (slice_index_or tokens 1 d).spelling ≡ name

spelled_second : (tokens : List Token) (f : File Span) (ls rest : List Lexeme) → SpellsFront span_to f ls rest → ls ≡ lexemes tokens → IsSecond tokens f.package_name.name
spelled_second [] _ _ _ (front_rule b i d) e = absurd (let n = ap length e in omega (arith, n))
spelled_second (t ∷ []) _ _ _ (front_rule b i d) e = absurd (let n = ap length e in omega (arith, n))
spelled_second (t ∷ u ∷ ts) _ _ _ (front_rule b i d) e = record { within = omega arith; is = λ d. sym (ident_spelled u.kind u.spelling _ (sym (ap second_terminal e))) }

pub name_second : (tokens : List Token) (f : File Span) → SpellsFile tokens f → IsSecond tokens f.package_name.name
name_second tokens f h = spelled_second tokens f (lexemes tokens) [] h refl

-- so it is in the tokens that are found
pub scanned_second : (text : List ℕ) (tree : File Span) (tokens : List Token) (comments : List Comment) → IsSourceFile text tree → TokensOf text tokens comments → IsSecond tokens tree.package_name.name
scanned_second text tree tokens comments s h =
    let same = tokens_once text s.tokens tokens s.comments comments s.reads.scans h in
    subst (λ ts. IsSecond ts tree.package_name.name) (sym same.0) (name_second s.tokens tree s.reads.spells)

no_token : Token
no_token = record { span = record { start = 0; end = 0 }; kind = Inserted; spelling = [] }

pub named_by_second : (text : List ℕ) (tree : File Span) (tokens : List Token) (comments : List Comment) (name : List ℕ) → IsSourceFile text tree → TokensOf text tokens comments
    → ((d : Token) → (slice_index_or tokens 1 d).spelling ≡ name) → NamesPackage text name
named_by_second text tree tokens comments name s h e = (tree, s, sym ((scanned_second text tree tokens comments s h).is no_token) ∙ e no_token)
