use Rattle.std.proofs.Common.{◌≡◌, ℕ, List, Some, chars, slice_get, sym, ap, ◌∙◌, arith}
use Rattle.std.proofs.lemmas.Bool.Decides.{nat_tests}
use Rattle.go_tree.specs.GoWords.Tokens.Characters.{byte_order_mark}
use Rattle.go_scan.proofs.SizedPieces.{mark_boundary, mark_rest}
use Rattle.go_scan.proofs.scanner.after_mark.Goals as goal

pub range_from-requires : goal.range_from-requires
range_from-requires c =
    let is : c.in-Some-eq65279.field-0 ≡ byte_order_mark = grind (arith, nat_tests, c.in-Some-eq65279.field-0-test) in
    let marked : Some byte_order_mark ≡ slice_get (chars c.args.source.now) 0 = ap (λ (n : ℕ). Some n) (sym is) ∙ sym c.in-Some-eq65279.is ∙ c.next.ensures.steps.2 ∙ ap (λ (bs : List ℕ). slice_get (chars bs) 0) c.chars.ensures.rest in
    λ _. mark_boundary c.args.source.now c.utf8.source c.len_utf8.result marked c.len_utf8.ensures.value

pub returns-in-Some-eq65279-clause-value : goal.returns-in-Some-eq65279-clause-value
returns-in-Some-eq65279-clause-value c =
    let is : c.in-Some-eq65279.field-0 ≡ byte_order_mark = grind (arith, nat_tests, c.in-Some-eq65279.field-0-test) in
    let marked : Some byte_order_mark ≡ slice_get (chars c.args.source.now) 0 = ap (λ (n : ℕ). Some n) (sym is) ∙ sym c.in-Some-eq65279.is ∙ c.next.ensures.steps.2 ∙ ap (λ (bs : List ℕ). slice_get (chars bs) 0) c.chars.ensures.rest in
    mark_rest c.args.source.now c.utf8.source c.len_utf8.result marked c.len_utf8.ensures.value c.range_from.result.now c.range_from.ensures.value
