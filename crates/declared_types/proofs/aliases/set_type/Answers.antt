use Rattle.std.proofs.Common.{[], Err, subst, sym}
use Rattle.go_tree.specs.FileView.{type_spec_of}
use Rattle.typed_names.specs.Known.{KnowsTypes}
use Rattle.typed_names.specs.Scopes.{env_at}
use Rattle.typed_names.specs.TypeExprs.Answers.{GivesType}
use Rattle.typed_names.proofs.TypeExprs.GrownLaws.{known_on}
use Rattle.declared_types.specs.Headers.{type_of_spec}
use Rattle.declared_types.proofs.aliases.set_type.Goals as goal

pub returns-in_err-to_vec-in-Ok-clause-known : goal.returns-in_err-to_vec-in-Ok-clause-known
returns-in_err-to_vec-in-Ok-clause-known c =
    known_on c.args.types.now c.spec_type.new.types c.spec_type.ensures.grown c.args.blocks.now c.args.scope.now
    c.requires.known

pub returns-in_err-set-in-Ok-clause-known : goal.returns-in_err-set-in-Ok-clause-known
returns-in_err-set-in-Ok-clause-known c =
    subst (λ bs. KnowsTypes c.spec_type.new.types bs c.args.scope.now) (sym c.in_err-set-in-Ok.ensures.same)
    (known_on c.args.types.now c.spec_type.new.types c.spec_type.ensures.grown c.args.blocks.now c.args.scope.now
    c.requires.known)

pub returns-in_ok-set-in-Ok-clause-known : goal.returns-in_ok-set-in-Ok-clause-known
returns-in_ok-set-in-Ok-clause-known c =
    let k = known_on c.args.types.now c.spec_type.new.types c.spec_type.ensures.grown c.args.blocks.now c.args.scope.now
    c.requires.known in
    record {
      locals = k.locals;
      imports = k.imports;
      members = c.in_ok-set-in-Ok.ensures.typed c.spec_type.new.types (c.in-Ok.ensures.gives []).0 k.members;
    }

pub returns-in-Err-NotTyped-clause-known : goal.returns-in-Err-NotTyped-clause-known
returns-in-Err-NotTyped-clause-known c =
    known_on c.args.types.now c.spec_type.new.types c.spec_type.ensures.grown c.args.blocks.now c.args.scope.now
    c.requires.known

pub returns-in-Err-NotTyped-clause-closed : goal.returns-in-Err-NotTyped-clause-closed
returns-in-Err-NotTyped-clause-closed c =
    λ q cs was.
    let a = env_at c.args.types.now cs c.args.blocks.now c.args.scope.now in
    subst (λ x. GivesType c.spec_type.new.types (type_of_spec a (type_spec_of c.args.spec.now)) (Err x))
    c.in-Err-NotTyped.field-0-is (c.in-Err-NotTyped.ensures.gives cs)

pub returns-in-Err-NoMemory-clause-known : goal.returns-in-Err-NoMemory-clause-known
returns-in-Err-NoMemory-clause-known c =
    known_on c.args.types.now c.spec_type.new.types c.spec_type.ensures.grown c.args.blocks.now c.args.scope.now
    c.requires.known
