use Rattle.std.proofs.Common.{[]}
use Rattle.go_tree.specs.FileView.{receiver_of}
use Rattle.typed_names.specs.Scopes.{env_at}
use Rattle.declared_types.proofs.Passed.{file_gone, file_there}
use Rattle.method_headers.specs.Methods.{receiver_at}
use Rattle.method_types.proofs.MethodNames.AttachLemmas.{receiver_nowhere, receiver_there, receiver_within}
use Rattle.method_types.proofs.method_names.headers.receiver_in.Goals as goal

pub returns-in-Some-clause-gives : goal.returns-in-Some-clause-gives
returns-in-Some-clause-gives c =
    receiver_there c.args.types.now c.args.blocks.now c.args.files.now c.args.file c.in-Some.scope.now
    (receiver_of c.args.receiver.now) c.receiver_type.result
    (file_there c.args.files.now c.args.file c.in-Some.scope.now c.in-Some.ensures.lookup.0 c.in-Some.ensures.lookup.1)
    c.receiver_type.ensures

pub returns-in-Some-clause-within : goal.returns-in-Some-clause-within
returns-in-Some-clause-within c =
    receiver_within c.args.types.now c.in-Some.scope.now.home
    (receiver_at (env_at c.args.types.now [] c.args.blocks.now c.in-Some.scope.now) (receiver_of c.args.receiver.now))
    c.receiver_type.result (c.receiver_type.ensures [])

pub returns-in-None-clause-gives : goal.returns-in-None-clause-gives
returns-in-None-clause-gives c =
    receiver_nowhere c.args.types.now c.args.blocks.now c.args.files.now c.args.file (receiver_of c.args.receiver.now)
    (file_gone c.args.files.now c.args.file c.in-None.ensures.lookup.0)
