-- Imports that are left and added, in examples (Go specification, Import declarations).
use Rattle.std.proofs.Common.{◌≡◌, ℕ, true, false, List, [], ◌∷◌, ◌++◌, Some, None, codes, refl}
use Rattle.go_tree.specs.declared.spans.Span.{Span}
use Rattle.go_tree.specs.File.{ImportSpec, ImportDecl, File}
use Rattle.go_tree.specs.declared.exprs.Rest.TheVariants.{Plain}
use Rattle.go_tree.specs.Tree.{selector, call}
use Rattle.go_read.proofs.Texts.{var, num, name, list}
use Rattle.text_edits.specs.Applied.{applied}
use Rattle.run_rules.specs.declared.import_rules.new_import.NewImport.{NewImport}
use Rattle.run_rules.specs.ImportRules.SpecText.{in_order}
use Rattle.run_rules.specs.ImportRules.Removed.{span_at}
use Rattle.run_rules.specs.ImportRules.Settled.{settled}
use Rattle.splice_laws.specs.Forms.{new_layout}
use Rattle.splice_laws.specs.Splice.{splice}
use Rattle.splice_laws.specs.Swaps.{Swap, an_operand}
use Rattle.splice_laws.specs.ImportSplices.AddedFile.{AreWritable, added_decls}
use Rattle.splice_laws.specs.ImportSplices.SettledFile.{left_decls, settled_decls}

abbrev spec_at : {S : Type 0} → S → List ℕ → ImportSpec S
spec_at s path = record { span = s; name = None; path = path }

abbrev one : Span
one = span_at 24 27

abbrev two : Span
two = span_at 29 32

-- `import "x"` and `import ("a"; "b")`
abbrev decls : List (ImportDecl Span)
decls = record { span = span_at 10 20; grouped = false; specs = spec_at (span_at 17 20) (codes "x") ∷ [] }
    ∷ record { span = span_at 21 34; grouped = true; specs = spec_at one (codes "a") ∷ spec_at two (codes "b") ∷ [] } ∷ []

abbrev single_left : ImportDecl (Unit {0})
single_left = record { span = tt; grouped = false; specs = spec_at tt (codes "x") ∷ [] }

-- a spec of the group goes
one_goes : left_decls [] [] [] (two ∷ []) decls ≡ single_left ∷ record { span = tt; grouped = true; specs = spec_at tt (codes "a") ∷ [] } ∷ []
one_goes = refl

-- the single import goes, and the group as a whole
all_go : left_decls [] [] [] (two ∷ one ∷ span_at 17 20 ∷ []) decls ≡ []
all_go = refl

-- a comment in the group keeps it
comment_stays : left_decls [] [] (record { span = span_at 27 28 } ∷ []) (two ∷ one ∷ []) decls ≡ single_left ∷ record { span = tt; grouped = true; specs = [] } ∷ []
comment_stays = refl

-- spans of no spec remove nothing
none_go : left_decls [] [] [] (span_at 10 20 ∷ []) decls ≡ single_left ∷ record { span = tt; grouped = true; specs = spec_at tt (codes "a") ∷ spec_at tt (codes "b") ∷ [] } ∷ []
none_go = refl

-- ---- added imports

unfoldable new_one : NewImport
new_one = record { name = codes "strings"; path = codes "strings"; spelled = false }

unfoldable new_two : NewImport
new_two = record { name = codes "r"; path = codes "math/rand"; spelled = true }

-- by path, each in a declaration of its own; the name stands where it isn't the package's own
first_two : added_decls (in_order (new_one ∷ new_two ∷ [])) ≡ record {
  span = tt;
  grouped = false;
  specs = record { span = tt; name = Some (record { span = tt; name = codes "r" }); path = codes "math/rand" } ∷ [];
} ∷ record { span = tt; grouped = false; specs = spec_at tt (codes "strings") ∷ [] } ∷ []
unfolding new_one new_two
first_two = refl

-- a path of octets alone is asked of an import without a name
writable : AreWritable (new_one ∷ [])
unfolding new_one
writable = ((λ h. absurd (nope h)), refl, tt)
  where
    nope : false ≡ true → ⊥
    nope e = cc

unfoldable bare_text : List ℕ
bare_text = codes "package p\n"

unfoldable bare_go : File Span
bare_go = record { package_name = record { span = span_at 8 9; name = codes "p" }; imports = []; decls = [] }

-- behind the package name
behind_name : applied bare_text (settled bare_text [] [] bare_go (new_one ∷ new_two ∷ []) []) ≡ codes "package p\n\nimport r \"math/rand\"\nimport \"strings\"\n"
unfolding new_one new_two bare_text bare_go
behind_name = refl

unfoldable one_text : List ℕ
one_text = codes "package p\n\nimport \"x\"\n"

unfoldable one_go : File Span
one_go = record {
  package_name = record { span = span_at 8 9; name = codes "p" };
  imports = record { span = span_at 11 21; grouped = false; specs = spec_at (span_at 18 21) (codes "x") ∷ [] } ∷ [];
  decls = [];
}

-- before the first declaration, which goes or stays
before_gone : applied one_text (settled one_text [] [] one_go (new_one ∷ []) (span_at 18 21 ∷ [])) ≡ codes "package p\n\nimport \"strings\"\n"
unfolding new_one one_text one_go
before_gone = refl

before_left : applied one_text (settled one_text [] [] one_go (new_one ∷ []) []) ≡ codes "package p\n\nimport \"strings\"\nimport \"x\"\n"
unfolding new_one one_text one_go
before_left = refl

-- the tree says the same
tree_gone : settled_decls one_text [] [] (span_at 18 21 ∷ []) (new_one ∷ []) one_go.imports ≡ added_decls (new_one ∷ [])
unfolding new_one one_go
tree_gone = refl

unfoldable group_text : List ℕ
group_text = codes "package p\n\nimport (\n\t\"a\"\n\t\"b\"\n)\n"

unfoldable group_go : File Span
group_go = record {
  package_name = record { span = span_at 8 9; name = codes "p" };
  imports = record { span = span_at 11 31; grouped = true; specs = spec_at (span_at 21 24) (codes "a") ∷ spec_at (span_at 26 29) (codes "b") ∷ [] } ∷ [];
  decls = [];
}

-- in a group, also where its other specs go
in_group : applied group_text (settled group_text [] [] group_go (new_one ∷ new_two ∷ []) (span_at 26 29 ∷ [])) ≡ codes "package p\n\nimport (\n\t\"a\"\n\tr \"math/rand\"\n\t\"strings\"\n)\n"
unfolding new_one new_two group_text group_go
in_group = refl

-- the tree says the same
tree_group : settled_decls group_text [] [] (span_at 26 29 ∷ []) (new_one ∷ new_two ∷ []) group_go.imports ≡ record {
  span = tt;
  grouped = true;
  specs = spec_at tt (codes "a") ∷ record { span = tt; name = Some (record { span = tt; name = codes "r" }); path = codes "math/rand" } ∷ spec_at tt (codes "strings") ∷ [];
} ∷ []
unfolding new_one new_two group_text group_go
tree_group = refl

unfoldable line_text : List ℕ
line_text = codes "package p\n\nimport (\"a\")\n"

unfoldable line_go : File Span
line_go = record {
  package_name = record { span = span_at 8 9; name = codes "p" };
  imports = record { span = span_at 11 23; grouped = true; specs = spec_at (span_at 19 22) (codes "a") ∷ [] } ∷ [];
  decls = [];
}

-- a group with a spec on the line of its `)` takes none
before_group : applied line_text (settled line_text [] [] line_go (new_one ∷ []) []) ≡ codes "package p\n\nimport \"strings\"\nimport (\"a\")\n"
unfolding new_one line_text line_go
before_group = refl

-- ---- a form and the imports at once

unfoldable step_text : List ℕ
step_text = codes "package main\n\nimport \"example.com/m/old\"\n\nfunc main() {\n\tx := 3\n\tprintln(old.Square(x))\n}\n"

unfoldable step_go : File Span
step_go = record {
  package_name = record { span = span_at 8 12; name = codes "main" };
  imports = record { span = span_at 14 40; grouped = false; specs = spec_at (span_at 21 40) (codes "example.com/m/old") ∷ [] } ∷ [];
  decls = [];
}

unfoldable pow_one : NewImport
pow_one = record { name = codes "pow"; path = codes "example.com/m/pow"; spelled = false }

unfoldable square : Swap (Unit {0})
square = an_operand 1 false (call tt (selector tt (var (codes "old")) (name (codes "Square"))) (list (var (codes "x") ∷ [])) Plain) (call tt (selector tt (var (codes "pow")) (name (codes "Pow"))) (list (var (codes "x") ∷ num (codes "2") ∷ [])) Plain)

-- a call for a call, in another package
step_row : applied step_text (settled step_text [] [] step_go (pow_one ∷ []) (span_at 21 40 ∷ []) ++ splice (span_at 73 86) false (new_layout (codes "\t") false false square) ∷ [])
    ≡ codes "package main\n\nimport \"example.com/m/pow\"\n\nfunc main() {\n\tx := 3\n\tprintln(pow.Pow(x, 2))\n}\n"
unfolding step_text step_go pow_one square
step_row = refl
