use Rattle.std.proofs.Common.{◌≡◌, Some, map, rules}
use Rattle.go_tree.specs.Lists.{specs_from}
use Rattle.go_tree.specs.View.{var_spec_of}
use Rattle.go_productions.specs.Cursors.{ahead}
use Rattle.go_read.specs.SpellsSpans.{span_to}
use Rattle.go_read.specs.Goals.{read_specs}
use Rattle.go_read.specs.Reading.{at}
use Rattle.go_statements.proofs.DeclArms.{group_some}
use Rattle.go_statements.proofs.decls.decl.Goals as goal

pub returns-clause-gives : goal.returns-clause-gives
returns-clause-gives g c =
    let us = ahead c.rest.result in
    let r = ahead c.in-Some-2.left in
    let listed : at span_to (read_specs c.args.constant) us ≡ Some (specs_from (map var_spec_of c.in-Some-2.specs.items), r) = search rules in
    group_some c.args.constant (ahead c.args.place.at) us r (ahead c.rest-2.result) (specs_from (map var_spec_of c.in-Some-2.specs.items))
    c.in-Paren.ensures.is c.rest.ensures.is listed c.in-EndParen.ensures.is c.rest-2.ensures.is
