-- The names that a file that reads gives to imports are identifiers.
use Rattle.std.proofs.Common.{List, [], ◌∷◌, ◌++◌, map, Option, Some, None}
use Rattle.std.specs.Option.{option_map}
use Rattle.go_tree.specs.declared.spans.Span.{Span}
use Rattle.go_tree.specs.Tree.{NameAt}
use Rattle.go_tree.specs.File.{ImportSpec, ImportDecl, File}
use Rattle.go_tree.specs.GoWords.Terminals.{lex}
use Rattle.go_read.specs.SpellsTypes.{Lexemes}
use Rattle.go_read.specs.SpellsSpans.{span_to}
use Rattle.go_read.specs.SpellsFiles.{SpellsImportSpec, SpellsImportSpecs, SpellsImport, SpellsImports, SpellsFront, path_rule, named_path_rule, no_import_specs_rule, last_import_spec_rule, more_import_specs_rule, import_rule, import_group_rule, no_imports_rule, more_imports_rule, front_rule}
use Rattle.go_layout.specs.LayoutLaws.Formed.{FormedName}
use Rattle.go_layout.specs.LayoutLaws.Real.{AreReal}
use Rattle.go_layout.proofs.LayoutLaws.RealTokens.{tokens_real}
use Rattle.splice_laws.proofs.Grafts.{Within, here, later, drop}
use Rattle.splice_laws.proofs.Pasts.{import_past}
use Rattle.pkg_graph.specs.Package.{specs_in, import_specs}
use Rattle.run_rules.specs.Inlining.{ReadsAs}
use Rattle.run_rules.specs.Respanned.{name_with, import_spec_with, import_decl_with, file_with}
use Rattle.run_rules.specs.Texts.{FileText}

within_real : {us ts : Lexemes} → Within us ts → AreReal ts → AreReal us
within_real here g = g
within_real (later {t = lex s x} w) g = within_real w g.1

module _ {S : Type 0} where
  abbrev pub SpecsNamed : List (ImportSpec S) → Type 0
  SpecsNamed [] = Unit {0}
  SpecsNamed (s ∷ ss) = FormedName s.name × SpecsNamed ss

  abbrev pub DeclsNamed : List (ImportDecl S) → Type 0
  DeclsNamed [] = Unit {0}
  DeclsNamed (d ∷ ds) = SpecsNamed d.specs × DeclsNamed ds

module _ {S : Type 0} (mark : Lexemes → Lexemes → S) where
  spec_named : {x : ImportSpec S} {ts r : Lexemes} → SpellsImportSpec mark x ts r → AreReal ts → FormedName x.name × AreReal r
  spec_named path_rule g = (tt, g.1)
  spec_named named_path_rule g = (g.0, g.1.1)

  specs_named : {xs : List (ImportSpec S)} {ts r : Lexemes} → SpellsImportSpecs mark xs ts r → AreReal ts → SpecsNamed xs
  specs_named no_import_specs_rule g = tt
  specs_named (last_import_spec_rule d1) g = ((spec_named d1 g).0, tt)
  specs_named (more_import_specs_rule d1 d2) g = let x = spec_named d1 g in (x.0, specs_named d2 x.1.1)

  import_named : {d : ImportDecl S} {ts r : Lexemes} → SpellsImport mark d ts r → AreReal ts → SpecsNamed d.specs
  import_named (import_rule d1) g = ((spec_named d1 g.1).0, tt)
  import_named (import_group_rule d1) g = specs_named d1 g.1.1

  imports_named : {ds : List (ImportDecl S)} {ts r : Lexemes} → SpellsImports mark ds ts r → AreReal ts → DeclsNamed ds
  imports_named no_imports_rule g = tt
  imports_named (more_imports_rule {ts = ts} d1 d2) g = (import_named d1 g, imports_named d2 (within_real (drop (import_past mark ts d1 here)) g))

  front_named : {f : File S} {ts r : Lexemes} → SpellsFront mark f ts r → AreReal ts → DeclsNamed f.imports
  front_named (front_rule d1 d2 d3) g = imports_named d2 g.1.1.1

-- ---- as the file stands

module _ {A B : Type 0} (to : A → B) where
  both_named : (xs ys : List (ImportSpec A)) → SpecsNamed xs → SpecsNamed ys → SpecsNamed (xs ++ ys)
  both_named [] ys h k = k
  both_named (x ∷ xs) ys h k = (h.0, both_named xs ys h.1 k)

  same_name : (o : Option (NameAt A)) → FormedName (option_map (name_with to) o) → FormedName o
  same_name None h = tt
  same_name (Some n) h = h

  specs_of : (ss : List (ImportSpec A)) → SpecsNamed (map (import_spec_with to) ss) → SpecsNamed ss
  specs_of [] h = tt
  specs_of (s ∷ ss) h = (same_name s.name h.0, specs_of ss h.1)

  decls_of : (ds : List (ImportDecl A)) → DeclsNamed (map (import_decl_with to) ds) → SpecsNamed (specs_in ds)
  decls_of [] h = tt
  decls_of (d ∷ ds) h = both_named d.specs (specs_in ds) (specs_of d.specs h.0) (decls_of ds h.1)

pub names_of_imports : {A : Type 0} (to : A → Span) (t : FileText) (tree : File A) → ReadsAs t (file_with to tree) → SpecsNamed (import_specs tree)
names_of_imports to t tree reads = decls_of to tree.imports (front_named span_to reads.spells (tokens_real t.text t.tokens t.comments reads.scans))
