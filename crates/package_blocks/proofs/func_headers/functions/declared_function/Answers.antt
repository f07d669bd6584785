use Rattle.std.proofs.Common.{◌∙◌, sym}
use Rattle.go_tree.specs.FileView.{func_of}
use Rattle.typed_names.specs.Scopes.{env_at}
use Rattle.package_blocks.proofs.FuncHeaders.Signatures.{given_allowed, refused_by_text}
use Rattle.package_blocks.proofs.func_headers.functions.declared_function.Goals as goal

pub returns-in-Ok-true-clause-gives : goal.returns-in-Ok-true-clause-gives
returns-in-Ok-true-clause-gives c =
    λ cs.
    given_allowed (env_at c.args.types.now cs c.args.blocks.now c.args.scope.now) c.args.in_main (func_of c.args.function.now)
    c.func_type.new.types c.func_type.result (sym c.in-Ok-true.field-0-test ∙ c.in-Ok-true.ensures)
    (c.func_type.ensures.gives cs)

pub returns-in-Ok-false-clause-gives : goal.returns-in-Ok-false-clause-gives
returns-in-Ok-false-clause-gives c =
    λ cs.
    refused_by_text (env_at c.args.types.now cs c.args.blocks.now c.args.scope.now) c.args.in_main (func_of c.args.function.now)
    c.args.types.now (sym c.in-Ok-false.field-0-test ∙ c.in-Ok-false.ensures)
