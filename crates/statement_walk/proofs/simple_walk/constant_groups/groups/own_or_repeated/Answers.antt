use Rattle.std.proofs.Common.{◌∙◌, sym}
use Rattle.go_tree.specs.View.{const_spec_of}
use Rattle.statement_walk.specs.SimpleWalk.ConstantGroups.Groups.{repeated_from}
use Rattle.statement_walk.proofs.SimpleWalk.ConstantGroups.GroupLemmas.{own_values, repeated_values}
use Rattle.statement_walk.proofs.simple_walk.constant_groups.groups.own_or_repeated.Goals as goal

pub returns-then-has_none-clause-is : goal.returns-then-has_none-clause-is
returns-then-has_none-clause-is c =
    repeated_values (const_spec_of c.args.spec.now) (repeated_from c.args.before) (sym c.if-has_none.true ∙ c.has_none.ensures)

pub returns-else-has_none-clause-is : goal.returns-else-has_none-clause-is
returns-else-has_none-clause-is c =
    own_values (const_spec_of c.args.spec.now) (repeated_from c.args.before) (sym c.if-has_none.false ∙ c.has_none.ensures)
