use Rattle.std.proofs.Common.{◌≡◌, ◌∙◌, ◌<◌, ◌+◌, ◌∷◌, ◌++◌, List, length, drop, map, sym, ap, subst, arith}
use Rattle.std.proofs.lemmas.List.{drop_more}
use Rattle.go_tree.specs.declared.files.ImportSpec.{ImportSpec}
use Rattle.go_tree.specs.FileView.{import_decl_of, import_spec_of}
use Rattle.run_rules.specs.ImportRules.Removed.{specs_ranges}
use Rattle.import_edit.specs.Walks.{SpecsLeft}
use Rattle.import_edit.proofs.WalkLaws.{spec_serves, specs_next, spec_added}
use Rattle.import_edit.proofs.removed.add_specs_ranges.Goals as goal

pub add_spec_range-requires-clause-serve : goal.add_spec_range-requires-clause-serve
add_spec_range-requires-clause-serve c =
    let items = c.items-spec-items.result.now in
    let i = c.loop-spec.spec-index in
    let s = c.spec-item.result in
    let d = c.args.decl.now in
    let lt : i < length items = omega arith in
    let split : drop i items ≡ s ∷ drop (i + 1) items = drop_more items i s lt ∙ ap (λ x. x ∷ drop (i + 1) items) (sym c.spec-item.is) in
    spec_serves c.args.source.now c.loop-spec.cursor d.span.start d.span.end (import_spec_of s) (map import_spec_of (drop (i + 1) items))
    (subst (λ (r : List ImportSpec). SpecsLeft c.args.source.now c.loop-spec.cursor d.span.start d.span.end (map import_spec_of r)) split c.loop-spec.invariant.left)

pub loop-spec-preserved : goal.loop-spec-preserved
loop-spec-preserved c =
    let source = c.args.source.now in
    let items = c.items-spec-items.result.now in
    let i = c.loop-spec.spec-index in
    let s = c.spec-item.result in
    let d = c.args.decl.now in
    let view = import_decl_of d in
    let rest = map import_spec_of (drop (i + 1) items) in
    let lt : i < length items = omega arith in
    let split : drop i items ≡ s ∷ drop (i + 1) items = drop_more items i s lt ∙ ap (λ x. x ∷ drop (i + 1) items) (sym c.spec-item.is) in
    record {
      left =
          specs_next source c.loop-spec.cursor c.add_spec_range.new.cursor d.span.start d.span.end (import_spec_of s) rest
          (subst (λ (r : List ImportSpec). SpecsLeft source c.loop-spec.cursor d.span.start d.span.end (map import_spec_of r)) split c.loop-spec.invariant.left)
          c.in_ok-add_spec_range.ensures.serve;
      ranges =
          ap (λ rs. rs ++ specs_ranges source.text.now source.tokens.now source.comments.now source.unused.now view rest) c.in_ok-add_spec_range.ensures.ranges
          ∙ spec_added source c.loop-spec.ranges.items view (import_spec_of s) rest
          ∙ ap (λ r. c.loop-spec.ranges.items ++ specs_ranges source.text.now source.tokens.now source.comments.now source.unused.now view (map import_spec_of r)) (sym split)
          ∙ c.loop-spec.invariant.ranges;
      same = c.in_ok-add_spec_range.ensures.same ∙ c.loop-spec.invariant.same;
    }
