use Rattle.std.proofs.Common.{rules, ◌≡◌, true}
use Rattle.go_productions.specs.Cursors.{ahead}
use Rattle.go_productions.specs.Parts.{is_qualified}
use Rattle.go_expressions.proofs.OperandArms.{qualified_plain}
use Rattle.go_expressions.proofs.operands.literal_begins.Goals as goal

pub returns-in_default-first-2 : goal.returns-in_default-first-2
returns-in_default-first-2 g c =
    let q : is_qualified (ahead c.args.place.at) ≡ true = search rules in
    qualified_plain c.args.place.header (ahead c.args.place.at) (ahead c.rest-after.result) (ahead c.rest.result) (ahead c.rest-2.result) c.first-3.result q
    c.rest-after.ensures.is c.rest.ensures.is c.rest-2.ensures.is c.first-3.ensures.is c.in_default-first-2.not-Brace
