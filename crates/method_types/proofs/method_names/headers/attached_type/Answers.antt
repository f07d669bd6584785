use Rattle.method_types.proofs.MethodNames.AttachLemmas.{count_answered, no_receiver, type_answered}
use Rattle.method_types.proofs.method_names.headers.attached_type.Goals as goal

pub returns-in-Some-receiver_in-clause-count : goal.returns-in-Some-receiver_in-clause-count
returns-in-Some-receiver_in-clause-count c =
    count_answered c.args.types.now c.args.names.now.fields.items c.args.names.now.methods.items
    c.attach.new.self.methods.items c.in-Some-receiver_in.t c.in-Some.method.function.now.name.name c.attach.result
    c.attach.ensures.attached

pub returns-in-Some-receiver_in-clause-attached : goal.returns-in-Some-receiver_in-clause-attached
returns-in-Some-receiver_in-clause-attached c =
    type_answered c.args.types.now c.args.blocks.now c.args.files.now c.args.header.now c.args.names.now.fields.items
    c.args.names.now.methods.items c.in-Some.method c.in-Some.ensures c.in-Some-receiver_in.t
    c.in-Some-receiver_in.ensures.gives c.len-types.ensures.good c.attach.new.self.methods.items c.attach.result
    c.attach.ensures.attached

pub returns-in-None-receiver_in-clause-attached : goal.returns-in-None-receiver_in-clause-attached
returns-in-None-receiver_in-clause-attached c =
    no_receiver c.args.types.now c.args.blocks.now c.args.files.now c.args.header.now c.args.names.now.fields.items
    c.args.names.now.methods.items c.in-Some.method c.in-Some.ensures c.in-None-receiver_in.ensures.gives
