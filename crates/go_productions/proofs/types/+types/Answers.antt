use Rattle.std.proofs.Common.{◌≡◌, List, Some, map, refl, sym, ap, ◌∙◌, rules}
use Rattle.go_tree.specs.declared.spans.Span.{Span}
use Rattle.go_tree.specs.Tree.{NameAt, TypeExpr}
use Rattle.go_tree.specs.View.{field_of, type_of}
use Rattle.go_productions.specs.Cursors.{ahead}
use Rattle.go_read.specs.SpellsSpans.{span_to}
use Rattle.go_read.specs.Goals.{read_fields, read_type}
use Rattle.go_read.specs.Reading.{at}
use Rattle.go_productions.specs.Terminals.{name_of}
use Rattle.go_productions.specs.Parts.{shared_onto}
use Rattle.go_productions.proofs.TypeArms.{parens_some}
use Rattle.go_productions.proofs.FieldArms.{fields_stop, shared_last, shared_more, field_pushed}
use Rattle.go_productions.proofs.types.+types.Goals as goal

pub field_list-returns-in_default-first : goal.field_list-returns-in_default-first
field_list-returns-in_default-first t c = record {
  gives =
      let next : shared_onto (map field_of c.loop-fields.fields.items) (ahead c.loop-fields.left) ≡ Some (map field_of c.in-Some.more.items, ahead c.in-Some.after) = search rules in
      fields_stop (map field_of c.loop-fields.fields.items) (map field_of c.in-Some.more.items) (ahead c.loop-fields.left) (ahead c.in-Some.after) c.first.result c.first-in-loop-fields.result (at span_to read_fields (ahead c.args.tokens)) c.loop-fields.invariant.0
      c.first.ensures.is c.in_default.not-EndBrace next c.first-in-loop-fields.ensures.is c.in_default-first.not-Semicolon c.in_default-first.not-EndBrace;
  within = tt;
}

pub shared_fields-returns-in_default-first : goal.shared_fields-returns-in_default-first
shared_fields-returns-in_default-first t c = record {
  gives =
      let ts = ahead c.loop-fields.at in
      let r = ahead c.in-Some-2.left in
      let read : at span_to read_type (ahead c.in-Some.of_all) ≡ Some (type_of c.in-Some-2.of, r) = search rules in
      let items = field_pushed c.loop-fields.fields.items c.push.new.self.items (record { span = c.span_to-span.result; name = c.in_ok-name.name; of = c.in-Some-2.of }) (span_to ts r) (name_of ts) (type_of c.in-Some-2.of) c.in_ok-push.ensures.items c.span_to-span.ensures c.in_ok-name.ensures refl in
      sym c.loop-fields.invariant.0
      ∙ shared_last (map field_of c.loop-fields.fields.items) ts (ahead c.in-Some.of_all) r (ahead c.rest-at.result) (type_of c.in-Some-2.of) c.first.result c.loop-fields.invariant.1 read c.rest-at.ensures.is c.first.ensures.is c.in_default-first.not-Comma
      ∙ ap (λ (fs : List (Span × NameAt Span × TypeExpr Span)). Some (fs, r)) (sym items);
  shorter = search rules;
}

pub shared_fields-loop-fields-preserved : goal.shared_fields-loop-fields-preserved
shared_fields-loop-fields-preserved t c =
    let ts = ahead c.loop-fields.at in
    let r = ahead c.in-Some-2.left in
    let ws = ahead c.rest-at-in-loop-fields.result in
    let read : at span_to read_type (ahead c.in-Some.of_all) ≡ Some (type_of c.in-Some-2.of, r) = search rules in
    let items = field_pushed c.loop-fields.fields.items c.push.new.self.items (record { span = c.span_to-span.result; name = c.in_ok-name.name; of = c.in-Some-2.of }) (span_to ts r) (name_of ts) (type_of c.in-Some-2.of) c.in_ok-push.ensures.items c.span_to-span.ensures c.in_ok-name.ensures refl in
    let more = shared_more (map field_of c.loop-fields.fields.items) ts (ahead c.in-Some.of_all) r (ahead c.rest-at.result) ws (type_of c.in-Some-2.of) c.loop-fields.invariant.1 read c.rest-at.ensures.is c.in-Comma.ensures.is c.rest-at-in-loop-fields.ensures.is in
    (ap (λ (fs : List (Span × NameAt Span × TypeExpr Span)). shared_onto fs ws) items ∙ more.0 ∙ c.loop-fields.invariant.0, more.1, c.loop-fields.invariant.2)

pub type_in_parens-returns-clause-gives : goal.type_in_parens-returns-clause-gives
type_in_parens-returns-clause-gives t c =
    let read : at span_to read_type (ahead c.rest.result) ≡ Some (type_of c.in-Some.of, ahead c.in-Some.left) = search rules in
    parens_some (ahead c.args.tokens) (ahead c.rest.result) (ahead c.in-Some.left) (ahead c.rest-2.result) (type_of c.in-Some.of) c.requires c.rest.ensures.is read c.in-EndParen.ensures.is c.rest-2.ensures.is
