use Rattle.std.proofs.Common.{◌≡◌, ◌∙◌, ◌||◌, Bool, false, nat_eq, codes, sym, ap, rules}
use Rattle.std.specs.List.{starts_with}
use Rattle.directive_scan.specs.Lines.{is_nothing}
use Rattle.directive_scan.proofs.directive.is_remark.Goals as goal

pub returns-else-is_empty : goal.returns-else-is_empty
returns-else-is_empty c =
    let left : is_nothing c.args.rest.now ≡ false = search rules in
    c.starts_with.ensures.value ∙ sym (ap (λ (a : Bool). a || starts_with nat_eq c.args.rest.now (codes "//")) left)
