use Rattle.std.proofs.Common.{subst, sym}
use Rattle.typed_names.specs.Known.{KnowsTypes}
use Rattle.typed_names.proofs.TypeExprs.GrownLaws.{known_on}
use Rattle.finite_types.proofs.refused_types.refuse.refuse_type.Goals as goal

pub returns-in_err-is_good_type-clause-known : goal.returns-in_err-is_good_type-clause-known
returns-in_err-is_good_type-clause-known c =
    known_on c.args.types.now c.is_good_type.new.types c.is_good_type.ensures.grown c.args.blocks.now c.args.scope.now
    c.requires.known

pub returns-then-branch-clause-known : goal.returns-then-branch-clause-known
returns-then-branch-clause-known c =
    known_on c.args.types.now c.is_good_type.new.types c.is_good_type.ensures.grown c.args.blocks.now c.args.scope.now
    c.requires.known

pub returns-in_err-to_vec-clause-known : goal.returns-in_err-to_vec-clause-known
returns-in_err-to_vec-clause-known c =
    known_on c.args.types.now c.is_good_type.new.types c.is_good_type.ensures.grown c.args.blocks.now c.args.scope.now
    c.requires.known

pub returns-in_err-set-clause-known : goal.returns-in_err-set-clause-known
returns-in_err-set-clause-known c =
    subst (λ bs. KnowsTypes c.is_good_type.new.types bs c.args.scope.now) (sym c.in_err-set.ensures.same)
    (known_on c.args.types.now c.is_good_type.new.types c.is_good_type.ensures.grown c.args.blocks.now c.args.scope.now
    c.requires.known)

pub returns-clause-known : goal.returns-clause-known
returns-clause-known c =
    let k = known_on c.args.types.now c.is_good_type.new.types c.is_good_type.ensures.grown c.args.blocks.now
    c.args.scope.now c.requires.known in
    record {
      locals = k.locals;
      imports = k.imports;
      members = c.in_ok-set.ensures.typed c.is_good_type.new.types tt k.members;
    }
