use Rattle.std.proofs.Common.{◌≡◌, ◌++◌, [], ◌∷◌, List, map, ap, sym, ◌∙◌, arith}
use Rattle.std.proofs.lemmas.List.{map_push}
use Rattle.go_tree.specs.declared.spans.Span.{Span}
use Rattle.go_tree.specs.File.{TypeSpec}
use Rattle.go_tree.specs.FileView.{type_spec_of}
use Rattle.go_productions.specs.Cursors.{ahead}
use Rattle.go_read.specs.SpellsSpans.{span_to}
use Rattle.go_read.specs.Goals.{read_type_specs}
use Rattle.go_read.specs.Reading.{at}
use Rattle.go_tree.specs.declared.go_words.terminals.Terminal.TheVariants as code
use Rattle.go_parse.specs.Parts.{with_front}
use Rattle.go_parse.proofs.Firsts.{apart}
use Rattle.go_parse.proofs.Lists.{group_ends, group_fails, group_stops, group_goes}
use Rattle.go_parse.proofs.TypeSteps.{types_group}
use Rattle.go_parse.proofs.types.type_group.Goals as goal

pub returns-in-EndParen-clause-gives : goal.returns-in-EndParen-clause-gives
returns-in-EndParen-clause-gives c =
    group_ends types_group (map type_spec_of c.specs.specs.items) (ahead c.specs.left) _ _ _ c.specs.invariant.read c.in-EndParen.ensures.is (ap (map type_spec_of) c.of.ensures) c.rest.ensures.is

pub returns-in_default-2 : goal.returns-in_default-2
returns-in_default-2 c = record {
  gives = group_fails types_group (map type_spec_of c.specs.specs.items) (ahead c.specs.left) _ c.specs.invariant.read (apart (ahead c.specs.left) _ code.EndParen c.first.ensures.is c.in_default.not-EndParen)
      (rw c.in_default-2.is at c.in_ok-spec.ensures.gives);
  shorter = tt;
}

pub returns-in_default-after_spec : goal.returns-in_default-after_spec
returns-in_default-after_spec c = record {
  gives = group_stops types_group (map type_spec_of c.specs.specs.items) (ahead c.specs.left) _ _ (ahead c.in-Some.after) c.specs.invariant.read (apart (ahead c.specs.left) _ code.EndParen c.first.ensures.is c.in_default.not-EndParen)
      (rw c.in-Some.is at c.in_ok-spec.ensures.gives) (sym c.in_default-after_spec.ensures.is);
  shorter = tt;
}

pub specs-preserved : goal.specs-preserved
specs-preserved c =
    let gives = rw c.in-Some.is at c.in_ok-spec.ensures.gives in
    let shorter = rw c.in-Some.is at c.in_ok-spec.ensures.shorter in
    let pushed : map type_spec_of c.push.new.self.items ≡ map type_spec_of c.specs.specs.items ++ type_spec_of c.in-Some.spec ∷ [] =
    ap (map type_spec_of) c.in_ok-push.ensures.items ∙ map_push type_spec_of c.specs.specs.items c.in-Some.spec in
    record {
      read = ap (λ (xs : List (TypeSpec Span)). with_front xs (at span_to read_type_specs (ahead c.in-Some-after_spec.next))) pushed
          ∙ group_goes types_group (map type_spec_of c.specs.specs.items) (ahead c.specs.left) _ _ (ahead c.in-Some.after) _ c.specs.invariant.read
          (apart (ahead c.specs.left) _ code.EndParen c.first.ensures.is c.in_default.not-EndParen) gives (sym c.in-Some-after_spec.ensures.is);
      within = omega (arith, shorter, c.in-Some-after_spec.ensures.within, c.specs.invariant.within);
    }
