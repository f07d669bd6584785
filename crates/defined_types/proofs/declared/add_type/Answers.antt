use Rattle.std.proofs.Common.{[], Err, ap, map, subst, sym, ◌∙◌}
use Rattle.go_tree.specs.FileView.{type_spec_of}
use Rattle.typed_names.specs.Scopes.{env_at}
use Rattle.typed_names.proofs.TypeExprs.GrownLaws.{grown_self}
use Rattle.declared_types.proofs.Passed.{file_gone, file_there}
use Rattle.defined_types.specs.DeclaredTypes.{AreDeclared, GivesDeclared, declared_by_spec, declared_of}
use Rattle.defined_types.proofs.TypeSteps.{added_none, added_nowhere, added_one, are_on, are_one}
use Rattle.defined_types.proofs.declared.add_type.Goals as goal

pub returns-in_err-push-in-Ok-clause-are : goal.returns-in_err-push-in-Ok-clause-are
returns-in_err-push-in-Ok-clause-are c =
    subst (AreDeclared c.declared_type.new.types) (sym c.in_err-push-in-Ok.ensures.items)
    (are_on c.args.types.now c.declared_type.new.types c.declared_type.ensures.grown c.args.declared.now.items
    c.requires.are)

pub returns-in-Err-NoMemory-clause-are : goal.returns-in-Err-NoMemory-clause-are
returns-in-Err-NoMemory-clause-are c =
    are_on c.args.types.now c.declared_type.new.types c.declared_type.ensures.grown c.args.declared.now.items
    c.requires.are

pub returns-in_ok-push-in-Ok-clause-are : goal.returns-in_ok-push-in-Ok-clause-are
returns-in_ok-push-in-Ok-clause-are c =
    subst (AreDeclared c.declared_type.new.types) (sym c.in_ok-push-in-Ok.ensures.items)
    (are_one c.declared_type.new.types c.args.declared.now.items c.in-Ok.found
    (are_on c.args.types.now c.declared_type.new.types c.declared_type.ensures.grown c.args.declared.now.items
    c.requires.are)
    (c.in-Ok.ensures.gives []).0)

pub returns-in_ok-push-in-Ok-clause-added : goal.returns-in_ok-push-in-Ok-clause-added
returns-in_ok-push-in-Ok-clause-added c =
    λ cs.
    let there = file_there c.args.files.now c.args.header.now.file c.in-Some.file.now c.in-Some.ensures.lookup.0
    c.in-Some.ensures.lookup.1 in
    ap (map (declared_of c.declared_type.new.types)) c.in_ok-push-in-Ok.ensures.items
    ∙ added_one c.args.types.now c.args.blocks.now c.args.files.now c.args.header.now c.declared_type.new.types
    c.declared_type.ensures.grown c.args.declared.now.items c.requires.are cs c.in-Some.file.now there c.in-Ok.found
    (c.in-Ok.ensures.gives cs)

pub returns-in-Err-NotTyped-clause-are : goal.returns-in-Err-NotTyped-clause-are
returns-in-Err-NotTyped-clause-are c =
    are_on c.args.types.now c.declared_type.new.types c.declared_type.ensures.grown c.args.declared.now.items
    c.requires.are

pub returns-in-Err-NotTyped-clause-added : goal.returns-in-Err-NotTyped-clause-added
returns-in-Err-NotTyped-clause-added c =
    λ cs.
    let there = file_there c.args.files.now c.args.header.now.file c.in-Some.file.now c.in-Some.ensures.lookup.0
    c.in-Some.ensures.lookup.1 in
    let a = env_at c.args.types.now cs c.args.blocks.now c.in-Some.file.now in
    added_none c.args.types.now c.args.blocks.now c.args.files.now c.args.header.now c.declared_type.new.types
    c.declared_type.ensures.grown c.args.declared.now.items c.requires.are cs c.in-Some.file.now there
    (subst
    (λ x. GivesDeclared c.declared_type.new.types (declared_by_spec a (type_spec_of c.args.header.now.spec.now)) (Err x))
    c.in-Err-NotTyped.field-0-is (c.in-Err-NotTyped.ensures.gives cs))

pub returns-in-None-clause-added : goal.returns-in-None-clause-added
returns-in-None-clause-added c =
    λ cs.
    added_nowhere c.args.types.now c.args.blocks.now c.args.files.now c.args.header.now c.args.types.now
    (grown_self c.args.types.now) c.args.declared.now.items c.requires.are cs
    (file_gone c.args.files.now c.args.header.now.file c.in-None.ensures.lookup.0)
