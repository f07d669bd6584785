use Rattle.std.proofs.Common.{[], Err, subst, sym}
use Rattle.go_tree.specs.FileView as tree
use Rattle.typed_names.specs.Known.{KnowsTypes}
use Rattle.typed_names.specs.Scopes.{env_at}
use Rattle.typed_names.proofs.TypeExprs.GrownLaws.{grown_on, known_on}
use Rattle.func_types.specs.Answers.{GivesFunc, func_of}
use Rattle.package_blocks.specs.FuncHeaders.Functions.{function_at}
use Rattle.package_blocks.proofs.FuncHeaders.HeaderSteps.{function_set, refused_set}
use Rattle.package_blocks.proofs.func_headers.headers.declare_function.Goals as goal

pub function_entity-requires-clause-params : goal.function_entity-requires-clause-params
function_entity-requires-clause-params c = ((c.in-Ok.ensures.gives []).0).0

pub function_entity-requires-clause-results : goal.function_entity-requires-clause-results
function_entity-requires-clause-results c = ((c.in-Ok.ensures.gives []).0).1

pub returns-in_err-entity-in-Ok-clause-known : goal.returns-in_err-entity-in-Ok-clause-known
returns-in_err-entity-in-Ok-clause-known c =
    known_on c.declared_function.new.types c.function_entity.new.types c.function_entity.ensures.grown c.args.blocks.now
    c.args.scope.now c.declared_function.ensures.known

pub returns-in_err-set_name-in-Ok-clause-known : goal.returns-in_err-set_name-in-Ok-clause-known
returns-in_err-set_name-in-Ok-clause-known c =
    subst (λ bs. KnowsTypes c.function_entity.new.types bs c.args.scope.now) (sym c.in_err-set_name-in-Ok.ensures.same)
    (known_on c.declared_function.new.types c.function_entity.new.types c.function_entity.ensures.grown c.args.blocks.now
    c.args.scope.now c.declared_function.ensures.known)

pub returns-in_ok-set_name-in-Ok-clause-known : goal.returns-in_ok-set_name-in-Ok-clause-known
returns-in_ok-set_name-in-Ok-clause-known c =
    let k = known_on c.declared_function.new.types c.function_entity.new.types c.function_entity.ensures.grown
    c.args.blocks.now c.args.scope.now c.declared_function.ensures.known in
    record {
      locals = k.locals;
      imports = k.imports;
      members = c.in_ok-set_name-in-Ok.ensures.typed c.function_entity.new.types c.in_ok-entity-in-Ok.ensures.typed k.members;
    }

pub returns-in_ok-set_name-in-Ok-clause-set : goal.returns-in_ok-set_name-in-Ok-clause-set
returns-in_ok-set_name-in-Ok-clause-set c =
    let e = c.args.types.now in
    let mid = c.declared_function.new.types in
    let f = c.function_entity.new.types in
    function_set e f c.args.blocks.now c.args.scope.now c.args.in_main c.args.function.now c.requires.known.members
    (grown_on e mid f c.declared_function.ensures.grown c.function_entity.ensures.grown) (λ cs. func_of mid c.in-Ok.of)
    c.set_name.new.blocks c.in_ok-entity-in-Ok.entity (λ cs. (c.in-Ok.ensures.gives cs).1)
    (λ cs. c.in_ok-entity-in-Ok.ensures.is cs) c.in_ok-set_name-in-Ok.ensures.set

pub returns-in-Err-NotTyped-clause-set : goal.returns-in-Err-NotTyped-clause-set
returns-in-Err-NotTyped-clause-set c =
    let e = c.args.types.now in
    let f = c.declared_function.new.types in
    refused_set e f c.args.blocks.now c.args.scope.now c.args.in_main c.args.function.now c.requires.known.members
    c.declared_function.ensures.grown
    (λ cs.
    subst
    (λ x. GivesFunc f (function_at (env_at e cs c.args.blocks.now c.args.scope.now) c.args.in_main (tree.func_of c.args.function.now)) (Err x))
    c.in-Err-NotTyped.field-0-is (c.in-Err-NotTyped.ensures.gives cs))
