use Rattle.std.proofs.Common.{◌≡◌, ◌++◌, [], ◌∷◌, List, map, ap, sym, ◌∙◌, arith}
use Rattle.std.proofs.lemmas.List.{map_push}
use Rattle.go_tree.specs.declared.spans.Span.{Span}
use Rattle.go_tree.specs.File.{ImportSpec}
use Rattle.go_tree.specs.FileView.{import_spec_of}
use Rattle.go_productions.specs.Cursors.{ahead}
use Rattle.go_read.specs.SpellsSpans.{span_to}
use Rattle.go_read.specs.Goals.{read_import_specs}
use Rattle.go_read.specs.Reading.{at}
use Rattle.go_tree.specs.declared.go_words.terminals.Terminal.TheVariants as code
use Rattle.go_parse.specs.Parts.{with_front}
use Rattle.go_parse.proofs.Firsts.{apart}
use Rattle.go_parse.proofs.Lists.{group_ends, group_fails, group_stops, group_goes}
use Rattle.go_parse.proofs.TextSteps.{texts_after_spec}
use Rattle.go_parse.proofs.ImportSteps.{imports_group}
use Rattle.go_parse.proofs.imports.import_group.Goals as goal

pub returns-in-EndParen-clause-gives : goal.returns-in-EndParen-clause-gives
returns-in-EndParen-clause-gives c =
    group_ends imports_group (map import_spec_of c.specs.specs.items) (ahead c.specs.left) _ _ _ c.specs.invariant.read c.in-EndParen.ensures.is (ap (map import_spec_of) c.of.ensures) c.rest.ensures.is

pub returns-in_default-2 : goal.returns-in_default-2
returns-in_default-2 c = record {
  gives = group_fails imports_group (map import_spec_of c.specs.specs.items) (ahead c.specs.left) _ c.specs.invariant.read (apart (ahead c.specs.left) _ code.EndParen c.first.ensures.is c.in_default.not-EndParen)
      (rw c.in_default-2.is at c.in_ok-spec.ensures.gives);
  shorter = tt;
}

pub returns-in_default-after_spec : goal.returns-in_default-after_spec
returns-in_default-after_spec c = record {
  gives = group_stops imports_group (map import_spec_of c.specs.specs.items) (ahead c.specs.left) _ _ (ahead c.in-Some.after) c.specs.invariant.read (apart (ahead c.specs.left) _ code.EndParen c.first.ensures.is c.in_default.not-EndParen)
      (rw c.in-Some.is at c.in_ok-spec.ensures.gives) (sym c.in_default-after_spec.ensures.is);
  shorter = tt;
}

pub specs-preserved : goal.specs-preserved
specs-preserved c =
    let gives = rw c.in-Some.is at c.in_ok-spec.ensures.gives in
    let shorter = rw c.in-Some.is at c.in_ok-spec.ensures.shorter in
    let pushed : map import_spec_of c.push.new.self.items ≡ map import_spec_of c.specs.specs.items ++ import_spec_of c.in-Some.spec ∷ [] =
    ap (map import_spec_of) c.in_ok-push.ensures.items ∙ map_push import_spec_of c.specs.specs.items c.in-Some.spec in
    record {
      read = ap (λ (xs : List (ImportSpec Span)). with_front xs (at span_to read_import_specs (ahead c.in-Some-after_spec.next))) pushed
          ∙ group_goes imports_group (map import_spec_of c.specs.specs.items) (ahead c.specs.left) _ _ (ahead c.in-Some.after) _ c.specs.invariant.read
          (apart (ahead c.specs.left) _ code.EndParen c.first.ensures.is c.in_default.not-EndParen) gives (sym c.in-Some-after_spec.ensures.is);
      within = omega (arith, shorter, c.in-Some-after_spec.ensures.within, c.specs.invariant.within);
      texts = texts_after_spec _ _ _ _ gives c.in-Some-after_spec.ensures.is c.specs.invariant.texts;
    }
