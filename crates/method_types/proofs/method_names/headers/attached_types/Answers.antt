use Rattle.std.proofs.Common.{◌+◌, ◌∙◌, drop, subst, sym}
use Rattle.typed_names.proofs.TypeExprs.NewNames.{drop_all, drop_item}
use Rattle.method_types.specs.MethodNames.Known.{AreFields, HeadersAttached}
use Rattle.method_types.proofs.MethodNames.AttachLemmas.{attached_all, attached_more}
use Rattle.method_types.proofs.method_names.headers.attached_types.Goals as goal

pub loop-header-preserved : goal.loop-header-preserved
loop-header-preserved c =
    let e = c.args.types.now in
    let bs = c.args.blocks.now in
    let files = c.args.files.now in
    let headers = c.args.headers.now in
    let i = c.loop-header.header-index in
    let item = c.header-item.result in
    let new = c.attached_type.new.names.methods.items in
    record {
      fields_are = subst (AreFields e) (sym c.attached_type.ensures.fields) c.loop-header.invariant.fields_are;
      count = c.in_ok-t.ensures.count ∙ c.loop-header.invariant.count;
      attached = subst (HeadersAttached e bs files headers (i + 1) new) (sym c.in_ok-push.ensures.items)
          (attached_more e bs files headers i c.loop-header.names.fields.items c.loop-header.names.methods.items new
          c.loop-header.attached.items c.loop-header.invariant.attached c.loop-header.invariant.fields_are item
          (drop (i + 1) headers) (drop_item headers i item c.loop-header-test.true c.header-item.is) c.in_ok-t.t
          c.in_ok-t.ensures.attached);
    }

pub returns : goal.returns
returns c =
    attached_all c.args.types.now c.args.blocks.now c.args.files.now c.args.headers.now c.loop-header.header-index
    c.loop-header.names.methods.items c.loop-header.attached.items c.loop-header.invariant.attached
    (drop_all c.args.headers.now c.loop-header.header-index c.loop-header-test.false)
