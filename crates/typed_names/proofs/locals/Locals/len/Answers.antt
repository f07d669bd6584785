use Rattle.std.proofs.Common.{◌≡◌, ◌∙◌, [], length, arith, rules}
use Rattle.std.specs.Vec.{vec_len}
use Rattle.typed_names.specs.Locals.{innermost}
use Rattle.typed_names.proofs.LocalLaws.{innermost_count}
use Rattle.typed_names.proofs.locals.Locals.len.Goals as goal

pub returns : goal.returns
returns c =
    let bs = c.self.inside.bindings.items in
    let sized : vec_len c.self.inside.bindings ≡ length bs = search rules in
    let r = innermost_count [] bs in
    let counted : length bs ≡ length (innermost [] bs) = omega (arith, r) in
    rw (← c.self.view_is) (c.len.ensures ∙ sized ∙ counted)
