use Rattle.std.proofs.Common.{[]}
use Rattle.go_tree.specs.FileView.{type_spec_of}
use Rattle.typed_names.specs.Scopes.{env_at}
use Rattle.defined_types.proofs.TypeSteps.{refused_declared}
use Rattle.defined_types.proofs.declared.declared_type.Goals as goal

pub with_name-requires : goal.with_name-requires
with_name-requires c = (c.in-Ok.ensures.gives []).0

pub returns-in-Err-clause-gives : goal.returns-in-Err-clause-gives
returns-in-Err-clause-gives c =
    λ cs.
    refused_declared c.resolved.new.types (env_at c.args.types.now cs c.args.blocks.now c.args.scope.now)
    (type_spec_of c.args.spec.now) c.in-Err.refusal (c.in-Err.ensures.gives cs)
