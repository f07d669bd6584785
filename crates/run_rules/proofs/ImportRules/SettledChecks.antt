-- Imports settled in small files (Go specification, Import declarations).
use Rattle.std.proofs.Common.{◌≡◌, ℕ, ◌+◌, Bool, true, false, List, [], ◌∷◌, Option, Some, None, refl, codes}
use Rattle.go_tree.specs.declared.spans.Span.{Span}
use Rattle.go_tree.specs.declared.tokens.Token.{Token}
use Rattle.go_tree.specs.declared.tokens.Comment.{Comment}
use Rattle.go_tree.specs.declared.tokens.TokenKind.TheVariants.{Ident, Operator}
use Rattle.go_tree.specs.Tree.{NameAt}
use Rattle.go_tree.specs.File.{ImportSpec, ImportDecl, File}
use Rattle.text_edits.specs.Applied.{applied}
use Rattle.run_rules.specs.declared.import_rules.new_import.NewImport.{NewImport}
use Rattle.run_rules.specs.ImportRules.SpecText.{quoted}
use Rattle.run_rules.specs.ImportRules.Settled.{settled}

abbrev at : ℕ → ℕ → Span
at a b = record { start = a; end = b }

abbrev word : ℕ → ℕ → Token
word a b = record { span = at a b; kind = Ident; spelling = [] }

abbrev semi : ℕ → Token
semi a = record { span = at a (a + 1); kind = Operator; spelling = codes ";" }

abbrev remark : ℕ → ℕ → Comment
remark a b = record { span = at a b }

abbrev name_at : ℕ → ℕ → List ℕ → NameAt Span
name_at a b n = record { span = at a b; name = n }

abbrev spec_at : ℕ → ℕ → Option (NameAt Span) → List ℕ → ImportSpec Span
spec_at a b n p = record { span = at a b; name = n; path = p }

abbrev decl_at : ℕ → ℕ → Bool → List (ImportSpec Span) → ImportDecl Span
decl_at a b g ss = record { span = at a b; grouped = g; specs = ss }

abbrev file : List (ImportDecl Span) → File Span
file ds = record { package_name = name_at 8 12 (codes "main"); imports = ds; decls = [] }

abbrev import_of : List ℕ → List ℕ → Bool → NewImport
import_of n p s = record { name = n; path = p; spelled = s }

-- bytes that don't stand for themselves
escaped : quoted (34 ∷ 92 ∷ 97 ∷ 9 ∷ 200 ∷ []) ≡ codes "\"\\x22\\x5ca\\x09\\xc8\""
escaped = refl

-- the one import goes, and another comes
abbrev replaced_text : List ℕ
replaced_text = codes "package main\n\nimport \"example.com/m/old\"\n\nfunc main() {\n\tx := 3\n\tprintln(old.Square(x))\n}\n"

replaced : applied replaced_text (settled replaced_text (word 0 7 ∷ word 8 12 ∷ word 12 12 ∷ word 14 20 ∷ word 21 40 ∷ word 40 40 ∷ word 42 46 ∷ word 47 51 ∷ word 51 52 ∷ word 52 53 ∷ word 54 55 ∷ word 57 58 ∷ word 59 60 ∷ word 60 61 ∷ word 62 63 ∷ word 63 63 ∷ word 65 72 ∷ word 72 73 ∷ word 73 76 ∷ word 76 77 ∷ word 77 83 ∷ word 83 84 ∷ word 84 85 ∷ word 85 86 ∷ word 86 87 ∷ word 87 87 ∷ word 88 89 ∷ word 89 89 ∷ []) ([]) (file (decl_at 14 40 false (spec_at 21 40 None (codes "example.com/m/old") ∷ []) ∷ [])) (import_of (codes "pow") (codes "example.com/m/pow") false ∷ []) (at 21 40 ∷ [])) ≡ codes "package main\n\nimport \"example.com/m/pow\"\n\nfunc main() {\n\tx := 3\n\tprintln(old.Square(x))\n}\n"
replaced = refl

-- one with another name, since the function has the first one
abbrev renamed_text : List ℕ
renamed_text = codes "package main\n\nimport \"example.com/m/old\"\n\nfunc main() {\n\tpow := 3\n\tprintln(old.Square(pow))\n}\n"

renamed : applied renamed_text (settled renamed_text (word 0 7 ∷ word 8 12 ∷ word 12 12 ∷ word 14 20 ∷ word 21 40 ∷ word 40 40 ∷ word 42 46 ∷ word 47 51 ∷ word 51 52 ∷ word 52 53 ∷ word 54 55 ∷ word 57 60 ∷ word 61 62 ∷ word 62 63 ∷ word 64 65 ∷ word 65 65 ∷ word 67 74 ∷ word 74 75 ∷ word 75 78 ∷ word 78 79 ∷ word 79 85 ∷ word 85 86 ∷ word 86 89 ∷ word 89 90 ∷ word 90 91 ∷ word 91 91 ∷ word 92 93 ∷ word 93 93 ∷ []) ([]) (file (decl_at 14 40 false (spec_at 21 40 None (codes "example.com/m/old") ∷ []) ∷ [])) (import_of (codes "pow0") (codes "example.com/m/pow") true ∷ []) (at 21 40 ∷ [])) ≡ codes "package main\n\nimport pow0 \"example.com/m/pow\"\n\nfunc main() {\n\tpow := 3\n\tprintln(old.Square(pow))\n}\n"
renamed = refl

-- added to a group, by path
abbrev grown_text : List ℕ
grown_text = codes "package main\n\nimport (\n\t\"m/lib\"\n)\n\nfunc f\n"

grown : applied grown_text (settled grown_text (word 0 7 ∷ word 8 12 ∷ word 12 12 ∷ word 14 20 ∷ word 21 22 ∷ word 24 31 ∷ word 31 31 ∷ word 32 33 ∷ word 33 33 ∷ word 35 39 ∷ word 40 41 ∷ word 41 41 ∷ []) ([]) (file (decl_at 14 33 true (spec_at 24 31 None (codes "m/lib") ∷ []) ∷ [])) (import_of (codes "z") (codes "m/z") false ∷ import_of (codes "a") (codes "m/a") false ∷ []) ([])) ≡ codes "package main\n\nimport (\n\t\"m/lib\"\n\t\"m/a\"\n\t\"m/z\"\n)\n\nfunc f\n"
grown = refl

-- a group without specs goes
abbrev emptied_text : List ℕ
emptied_text = codes "package main\n\nimport (\n\t\"m/lib\"\n)\n\nfunc f\n"

emptied : applied emptied_text (settled emptied_text (word 0 7 ∷ word 8 12 ∷ word 12 12 ∷ word 14 20 ∷ word 21 22 ∷ word 24 31 ∷ word 31 31 ∷ word 32 33 ∷ word 33 33 ∷ word 35 39 ∷ word 40 41 ∷ word 41 41 ∷ []) ([]) (file (decl_at 14 33 true (spec_at 24 31 None (codes "m/lib") ∷ []) ∷ [])) ([]) (at 24 31 ∷ [])) ≡ codes "package main\n\n\nfunc f\n"
emptied = refl

-- unless one is added
abbrev refilled_text : List ℕ
refilled_text = codes "package main\n\nimport (\n\t\"m/lib\"\n)\n\nfunc f\n"

refilled : applied refilled_text (settled refilled_text (word 0 7 ∷ word 8 12 ∷ word 12 12 ∷ word 14 20 ∷ word 21 22 ∷ word 24 31 ∷ word 31 31 ∷ word 32 33 ∷ word 33 33 ∷ word 35 39 ∷ word 40 41 ∷ word 41 41 ∷ []) ([]) (file (decl_at 14 33 true (spec_at 24 31 None (codes "m/lib") ∷ []) ∷ [])) (import_of (codes "z") (codes "m/z") false ∷ []) (at 24 31 ∷ [])) ≡ codes "package main\n\nimport (\n\t\"m/z\"\n)\n\nfunc f\n"
refilled = refl

-- comments stay, and the group with them
abbrev commented_text : List ℕ
commented_text = codes "package main\n\nimport (\n\t// old\n\t\"m/lib\" // why\n)\n"

commented : applied commented_text (settled commented_text (word 0 7 ∷ word 8 12 ∷ word 12 12 ∷ word 14 20 ∷ word 21 22 ∷ word 32 39 ∷ word 39 39 ∷ word 47 48 ∷ word 48 48 ∷ []) (remark 24 30 ∷ remark 40 46 ∷ []) (file (decl_at 14 48 true (spec_at 32 39 None (codes "m/lib") ∷ []) ∷ [])) ([]) (at 32 39 ∷ [])) ≡ codes "package main\n\nimport (\n\t// old\n\t // why\n)\n"
commented = refl

-- on one line, with a semicolon that is written
abbrev in_one_line_text : List ℕ
in_one_line_text = codes "package main; import \"m/a\"; import b \"m/b\"\n"

in_one_line : applied in_one_line_text (settled in_one_line_text (word 0 7 ∷ word 8 12 ∷ semi 12 ∷ word 14 20 ∷ word 21 26 ∷ semi 26 ∷ word 28 34 ∷ word 35 36 ∷ word 37 42 ∷ word 42 42 ∷ []) ([]) (file (decl_at 14 26 false (spec_at 21 26 None (codes "m/a") ∷ []) ∷ decl_at 28 42 false (spec_at 35 42 (Some (name_at 35 36 (codes "b"))) (codes "m/b") ∷ []) ∷ [])) ([]) (at 21 26 ∷ [])) ≡ codes "package main;  import b \"m/b\"\n"
in_one_line = refl

-- the first import of a file
abbrev first_text : List ℕ
first_text = codes "package main // p\n\nfunc f\n"

first : applied first_text (settled first_text (word 0 7 ∷ word 8 12 ∷ word 12 12 ∷ word 19 23 ∷ word 24 25 ∷ word 25 25 ∷ []) (remark 13 17 ∷ []) (file ([])) (import_of (codes "y") (codes "m/y") true ∷ import_of (codes "x") (codes "m/x") false ∷ []) ([])) ≡ codes "package main\n\nimport \"m/x\"\nimport y \"m/y\" // p\n\nfunc f\n"
first = refl

-- added before imports that are no group, by path and then name
abbrev before_singles_text : List ℕ
before_singles_text = codes "package main\n\nimport \"m/lib\"\n\nfunc f\n"

before_singles : applied before_singles_text (settled before_singles_text (word 0 7 ∷ word 8 12 ∷ word 12 12 ∷ word 14 20 ∷ word 21 28 ∷ word 28 28 ∷ word 30 34 ∷ word 35 36 ∷ word 36 36 ∷ []) ([]) (file (decl_at 14 28 false (spec_at 21 28 None (codes "m/lib") ∷ []) ∷ [])) (import_of (codes "z") (codes "m/z") false ∷ import_of (codes "y") (codes "m/a") true ∷ import_of (codes "x") (codes "m/a") true ∷ []) ([])) ≡ codes "package main\n\nimport x \"m/a\"\nimport y \"m/a\"\nimport \"m/z\"\nimport \"m/lib\"\n\nfunc f\n"
before_singles = refl

-- added before a group that ends on the line of its last spec
abbrev before_group_text : List ℕ
before_group_text = codes "package main\n\nimport (\"m/lib\")\n\nfunc f\n"

before_group : applied before_group_text (settled before_group_text (word 0 7 ∷ word 8 12 ∷ word 12 12 ∷ word 14 20 ∷ word 21 22 ∷ word 22 29 ∷ word 29 30 ∷ word 30 30 ∷ word 32 36 ∷ word 37 38 ∷ word 38 38 ∷ []) ([]) (file (decl_at 14 30 true (spec_at 22 29 None (codes "m/lib") ∷ []) ∷ [])) (import_of (codes "z") (codes "m/z") false ∷ []) ([])) ≡ codes "package main\n\nimport \"m/z\"\nimport (\"m/lib\")\n\nfunc f\n"
before_group = refl

-- a comment behind an import stays on its line
abbrev remarked_text : List ℕ
remarked_text = codes "package main\n\nimport \"m/lib\" // why\n\nfunc f\n"

remarked : applied remarked_text (settled remarked_text (word 0 7 ∷ word 8 12 ∷ word 12 12 ∷ word 14 20 ∷ word 21 28 ∷ word 28 28 ∷ word 37 41 ∷ word 42 43 ∷ word 43 43 ∷ []) (remark 29 35 ∷ []) (file (decl_at 14 28 false (spec_at 21 28 None (codes "m/lib") ∷ []) ∷ [])) ([]) (at 21 28 ∷ [])) ≡ codes "package main\n\n // why\n\nfunc f\n"
remarked = refl

-- a line goes with the carriage return before its end
abbrev returned_text : List ℕ
returned_text = codes "package main\r\n\r\nimport \"m/a\"\r\nimport \"m/b\"\r\n\r\nfunc f\r\n"

returned : applied returned_text (settled returned_text (word 0 7 ∷ word 8 12 ∷ word 12 12 ∷ word 16 22 ∷ word 23 28 ∷ word 28 28 ∷ word 30 36 ∷ word 37 42 ∷ word 42 42 ∷ word 46 50 ∷ word 51 52 ∷ word 52 52 ∷ []) ([]) (file (decl_at 16 28 false (spec_at 23 28 None (codes "m/a") ∷ []) ∷ decl_at 30 42 false (spec_at 37 42 None (codes "m/b") ∷ []) ∷ [])) ([]) (at 23 28 ∷ [])) ≡ codes "package main\r\n\r\nimport \"m/b\"\r\n\r\nfunc f\r\n"
returned = refl

-- an import for its effects stays, and its group with it
abbrev effects_stay_text : List ℕ
effects_stay_text = codes "package main\n\nimport (\n\t_ \"m/a\"\n\t\"m/b\"\n)\n\nfunc f\n"

effects_stay : applied effects_stay_text (settled effects_stay_text (word 0 7 ∷ word 8 12 ∷ word 12 12 ∷ word 14 20 ∷ word 21 22 ∷ word 24 25 ∷ word 26 31 ∷ word 31 31 ∷ word 33 38 ∷ word 38 38 ∷ word 39 40 ∷ word 40 40 ∷ word 42 46 ∷ word 47 48 ∷ word 48 48 ∷ []) ([]) (file (decl_at 14 40 true (spec_at 24 31 (Some (name_at 24 25 (codes "_"))) (codes "m/a") ∷ spec_at 33 38 None (codes "m/b") ∷ []) ∷ [])) ([]) (at 33 38 ∷ [])) ≡ codes "package main\n\nimport (\n\t_ \"m/a\"\n)\n\nfunc f\n"
effects_stay = refl
