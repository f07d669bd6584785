use Rattle.std.proofs.Common.{[], Err, refl, subst}
use Rattle.go_tree.specs.FileView as tree
use Rattle.typed_names.specs.Scopes.{env_at}
use Rattle.func_types.specs.Answers.{GivesFunc}
use Rattle.method_headers.specs.Methods.{method_type_at}
use Rattle.method_types.proofs.headers.typed_method.Goals as goal

pub returns-in-Ok-clause-typed : goal.returns-in-Ok-clause-typed
returns-in-Ok-clause-typed c = (c.in-Ok.ensures.gives []).0

pub returns-in-Ok-clause-gives : goal.returns-in-Ok-clause-gives
returns-in-Ok-clause-gives c =
    λ cs.
    record {
      params = ((c.in-Ok.ensures.gives cs).0).0;
      results = ((c.in-Ok.ensures.gives cs).0).1;
      is = (c.in-Ok.ensures.gives cs).1;
      pointer_is = refl;
    }

pub returns-in-Err-NotTyped-clause-gives : goal.returns-in-Err-NotTyped-clause-gives
returns-in-Err-NotTyped-clause-gives c =
    λ cs.
    subst
    (λ x. GivesFunc c.method_type.new.types (method_type_at (env_at c.args.types.now cs c.args.blocks.now c.args.scope.now) (tree.receiver_of c.args.method.receiver.now) (tree.func_of c.args.method.function.now)) (Err x))
    c.in-Err-NotTyped.field-0-is (c.in-Err-NotTyped.ensures.gives cs)
