-- The literals of the values that a file declares are well spelled where tokens of a text spell the file.
use Rattle.std.proofs.Common.{Bool, true, false, List}
use Rattle.go_tree.specs.declared.spans.Span.{Span}
use Rattle.go_tree.specs.Tree.{ValueSpecs, no_specs, spec, Stmts}
use Rattle.go_tree.specs.File.{ImportSpec, ImportDecl, TypeSpec, Receiver, Decl, File}
use Rattle.go_read.specs.SpellsSpans.{span_to}
use Rattle.go_read.specs.SpellsTypes.{Lexemes}
use Rattle.go_read.specs.Spells.{SpellsBlock, block_rule, const_rule, var_rule}
use Rattle.go_read.specs.SpellsFiles.{SpellsImportSpec, SpellsImportSpecs, SpellsTypeSpec, SpellsTypeSpecs, SpellsReceiver, SpellsImports, SpellsTops, SpellsFront, path_rule, named_path_rule, no_import_specs_rule, last_import_spec_rule, more_import_specs_rule, import_rule, import_group_rule, type_spec_rule, alias_spec_rule, no_type_specs_rule, last_type_spec_rule, more_type_specs_rule, receiver_rule, pointer_receiver_rule, named_receiver_rule, named_pointer_receiver_rule, top_const_rule, top_var_rule, top_type_rule, top_type_group_rule, top_func_rule, top_method_rule, no_imports_rule, more_imports_rule, no_tops_rule, more_tops_rule, front_rule}
use Rattle.go_layout.specs.LayoutLaws.Formed.{FormedSpecs}
use Rattle.go_layout.specs.LayoutLaws.Real.{AreReal}
use Rattle.go_layout.proofs.LayoutLaws.FormedTypes.{sig_formed, type_formed}
use Rattle.go_layout.proofs.LayoutLaws.FormedTrees.{stmt_formed}
use Rattle.go_layout.proofs.LayoutLaws.RealTokens.{tokens_real}
use Rattle.collected.specs.ValueHeaders.SpelledDecls.{DeclsAreSpelled, ReadValuesAreSpelled, SpecsAreSpelled}
use Rattle.collected.proofs.ValueHeaders.SpelledExprs.{all_spelled}

specs_spelled : (constant : Bool) (ss : ValueSpecs Span) → FormedSpecs constant ss → SpecsAreSpelled ss
specs_spelled constant no_specs f = tt
specs_spelled constant (spec s ns t es ss) f = (all_spelled es f.3, specs_spelled constant ss f.5)

module _ (mark : Lexemes → Lexemes → Span) where
  -- ---- the tokens behind a part are real

  import_spec_real : {x : ImportSpec Span} {ts r : Lexemes} → SpellsImportSpec mark x ts r → AreReal ts → AreReal r
  import_spec_real path_rule a = a.1
  import_spec_real named_path_rule a = a.1.1

  import_specs_real : {xs : List (ImportSpec Span)} {ts r : Lexemes} → SpellsImportSpecs mark xs ts r → AreReal ts → AreReal r
  import_specs_real no_import_specs_rule a = a
  import_specs_real (last_import_spec_rule d) a = import_spec_real d a
  import_specs_real (more_import_specs_rule d ds) a = import_specs_real ds (import_spec_real d a).1

  pub imports_real : {ds : List (ImportDecl Span)} {ts r : Lexemes} → SpellsImports mark ds ts r → AreReal ts → AreReal r
  imports_real no_imports_rule a = a
  imports_real (more_imports_rule (import_rule d) ds) a = imports_real ds (import_spec_real d a.1).1
  imports_real (more_imports_rule (import_group_rule d) ds) a = imports_real ds (import_specs_real d a.1.1).1.1

  pub type_spec_real : {x : TypeSpec Span} {ts r : Lexemes} → SpellsTypeSpec mark x ts r → AreReal ts → AreReal r
  type_spec_real (type_spec_rule d) a = (type_formed mark d a.1).1
  type_spec_real (alias_spec_rule d) a = (type_formed mark d a.1.1).1

  pub type_specs_real : {xs : List (TypeSpec Span)} {ts r : Lexemes} → SpellsTypeSpecs mark xs ts r → AreReal ts → AreReal r
  type_specs_real no_type_specs_rule a = a
  type_specs_real (last_type_spec_rule d) a = type_spec_real d a
  type_specs_real (more_type_specs_rule d ds) a = type_specs_real ds (type_spec_real d a).1

  pub receiver_real : {x : Receiver Span} {ts r : Lexemes} → SpellsReceiver mark x ts r → AreReal ts → AreReal r
  receiver_real receiver_rule a = a.1
  receiver_real pointer_receiver_rule a = a.1.1
  receiver_real named_receiver_rule a = a.1.1
  receiver_real named_pointer_receiver_rule a = a.1.1.1

  block_real : {s : Span} {body : Stmts Span} {ts r : Lexemes} → SpellsBlock mark s body ts r → AreReal ts → AreReal r
  block_real d a = (stmt_formed mark (block_rule d) a).1

  -- ---- declarations

  tops_spelled : {ds : List (Decl Span)} {ts r : Lexemes} → SpellsTops mark ds ts r → AreReal ts → DeclsAreSpelled ds
  tops_spelled no_tops_rule a = tt
  tops_spelled (more_tops_rule (top_const_rule {s = s} {ss = ss} d) ds) a =
      let f = stmt_formed mark (const_rule {s = s} d) a in
      (specs_spelled true ss f.0.1, tops_spelled ds f.1.1)
  tops_spelled (more_tops_rule (top_var_rule {s = s} {ss = ss} d) ds) a =
      let f = stmt_formed mark (var_rule {s = s} d) a in
      (specs_spelled false ss f.0.1, tops_spelled ds f.1.1)
  tops_spelled (more_tops_rule (top_type_rule d) ds) a = tops_spelled ds (type_spec_real d a.1).1
  tops_spelled (more_tops_rule (top_type_group_rule d) ds) a = tops_spelled ds (type_specs_real d a.1.1).1.1
  tops_spelled (more_tops_rule (top_func_rule d b) ds) a =
      tops_spelled ds (block_real b (sig_formed mark d a.1.1).1).1
  tops_spelled (more_tops_rule (top_method_rule v d b) ds) a =
      tops_spelled ds (block_real b (sig_formed mark d (receiver_real v a.1.1).1.1).1).1

  pub front_spelled : {f : File Span} {ts r : Lexemes} → SpellsFront mark f ts r → AreReal ts → DeclsAreSpelled f.decls
  front_spelled (front_rule b is ds) a = tops_spelled ds (imports_real is a.1.1.1)

pub read_values_are_spelled : ReadValuesAreSpelled
read_values_are_spelled t tree r = front_spelled span_to r.spells (tokens_real t.text t.tokens t.comments r.scans)
