-- A file has no more import specs than tokens, and with other spans as many.
use Rattle.std.proofs.Common.{◌≡◌, refl, ℕ, ◌+◌, ◌≤◌, List, [], ◌∷◌, map, length, arith, length-append}
use Rattle.std.proofs.lemmas.List.{length-map}
use Rattle.go_tree.specs.declared.spans.Span.{Span}
use Rattle.go_tree.specs.declared.tokens.Token.{Token}
use Rattle.go_tree.specs.File.{ImportSpec, ImportDecl, File}
use Rattle.go_read.specs.SpellsFiles.{SpellsImportSpec, SpellsImportSpecs, SpellsImport, SpellsImports, SpellsFront, SpellsFile, path_rule, named_path_rule, no_import_specs_rule, last_import_spec_rule, more_import_specs_rule, import_rule, import_group_rule, no_imports_rule, more_imports_rule, front_rule}
use Rattle.go_read.specs.SpellsSpans.{span_to}
use Rattle.go_read.specs.SpellsTypes.{Lexemes}
use Rattle.pkg_graph.specs.Package.{specs_in, import_specs}
use Rattle.run_rules.specs.Respanned.{import_spec_with, import_decl_with, file_with}
use Rattle.printed_constants.proofs.CountedNames.Counted.{lexemes_length}

-- so many stand at tokens in front of the rest
abbrev Count : ℕ → Lexemes → Lexemes → Type 0
Count n r ts = n + length r ≤ length ts

module _ {S : Type 0} (mark : Lexemes → Lexemes → S) where
  spec_counted : {x : ImportSpec S} {ts r : Lexemes} → SpellsImportSpec mark x ts r → Count 1 r ts
  spec_counted path_rule = omega arith
  spec_counted named_path_rule = omega arith

  specs_counted : {xs : List (ImportSpec S)} {ts r : Lexemes} → SpellsImportSpecs mark xs ts r → Count (length xs) r ts
  specs_counted no_import_specs_rule = omega arith
  specs_counted (last_import_spec_rule d) = let k = spec_counted d in omega (arith, k)
  specs_counted (more_import_specs_rule d ds) = let k = spec_counted d in let j = specs_counted ds in omega (arith, k, j)

  import_counted : {d : ImportDecl S} {ts r : Lexemes} → SpellsImport mark d ts r → Count (length d.specs) r ts
  import_counted (import_rule d) = let k = spec_counted d in omega (arith, k)
  import_counted (import_group_rule d) = let k = specs_counted d in omega (arith, k)

  imports_counted : {ds : List (ImportDecl S)} {ts r : Lexemes} → SpellsImports mark ds ts r → Count (length (specs_in ds)) r ts
  imports_counted no_imports_rule = omega arith
  imports_counted (more_imports_rule {d = d} {ds = ds} x xs) =
      let k = import_counted x in let j = imports_counted xs in let a = length-append d.specs (specs_in ds) in omega (arith, a, k, j)

  front_counted : {f : File S} {ts r : Lexemes} → SpellsFront mark f ts r → length (import_specs f) ≤ length ts
  front_counted (front_rule b x y) = let k = imports_counted x in omega (arith, k)

pub specs_few : (tokens : List Token) (f : File Span) → SpellsFile tokens f → length (import_specs f) ≤ length tokens
specs_few tokens f d = let k = front_counted span_to d in let e = lexemes_length tokens in omega (arith, e, k)

-- ---- other spans

module _ {S T : Type 0} (to : S → T) where
  specs_with : (ds : List (ImportDecl S)) → length (specs_in (map (import_decl_with to) ds)) ≡ length (specs_in ds)
  specs_with [] = refl
  specs_with (d ∷ ds) =
      let a = length-append (map (import_spec_with to) d.specs) (specs_in (map (import_decl_with to) ds)) in
      let b = length-append d.specs (specs_in ds) in
      let c = length-map d.specs (import_spec_with to) in
      let e = specs_with ds in omega (arith, a, b, c, e)

  pub as_many_specs : (f : File S) → length (import_specs (file_with to f)) ≡ length (import_specs f)
  as_many_specs f = specs_with f.imports
