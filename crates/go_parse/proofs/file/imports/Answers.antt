use Rattle.std.proofs.Common.{◌≡◌, ◌++◌, [], ◌∷◌, List, map, ap, ◌∙◌, arith}
use Rattle.std.proofs.lemmas.List.{map_push}
use Rattle.go_tree.specs.declared.spans.Span.{Span}
use Rattle.go_tree.specs.File.{ImportDecl}
use Rattle.go_tree.specs.FileView.{import_decl_of}
use Rattle.go_productions.specs.Cursors.{ahead}
use Rattle.go_read.specs.SpellsSpans.{span_to}
use Rattle.go_read.specs.Goals.{read_imports}
use Rattle.go_read.specs.Reading.{at}
use Rattle.go_parse.specs.Parts.{with_front}
use Rattle.go_parse.proofs.Lists.{row_ends, row_goes}
use Rattle.go_parse.proofs.TextSteps.{texts_after_import}
use Rattle.go_parse.proofs.FileSteps.{imports_row}
use Rattle.go_parse.proofs.file.imports.Goals as goal

pub returns-in_default-clause-gives : goal.returns-in_default-clause-gives
returns-in_default-clause-gives c =
    row_ends imports_row (map import_decl_of c.decls.list.items) (ahead c.decls.left) _ _ c.decls.invariant.read (rw c.in_default.is at c.in_ok-decl.ensures.gives) (ap (map import_decl_of) c.of.ensures)

pub decls-preserved : goal.decls-preserved
decls-preserved c =
    let gives = rw c.in-Some.is at c.in_ok-decl.ensures.gives in
    let shorter = rw c.in-Some.is at c.in_ok-decl.ensures.shorter in
    let pushed : map import_decl_of c.push.new.self.items ≡ map import_decl_of c.decls.list.items ++ import_decl_of c.in-Some.decl ∷ [] =
    ap (map import_decl_of) c.in_ok-push.ensures.items ∙ map_push import_decl_of c.decls.list.items c.in-Some.decl in
    record {
      read = ap (λ (xs : List (ImportDecl Span)). with_front xs (at span_to read_imports (ahead c.in-Some.next))) pushed
          ∙ row_goes imports_row (map import_decl_of c.decls.list.items) (ahead c.decls.left) _ _ (ahead c.in-Some.next) c.decls.invariant.read gives;
      within = omega (arith, shorter, c.decls.invariant.within);
      texts = texts_after_import _ _ _ gives c.decls.invariant.texts;
    }
