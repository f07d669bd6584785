use Rattle.std.proofs.Common.{◌+◌, ◌++◌, ap, drop, map}
use Rattle.typed_names.proofs.TypeExprs.NewNames.{drop_all, drop_item}
use Rattle.package_blocks.specs.Headers.{listed_of}
use Rattle.collected.specs.SingleHeaders.Singles.{listed_by_names, listed_single}
use Rattle.collected.proofs.SingleHeaders.Added.{header_added, headers_added}
use Rattle.collected.proofs.single_headers.single_headers.Goals as goal

pub loop-index-init : goal.loop-index-init
loop-index-init c =
    ap (λ xs. map listed_single xs ++ listed_by_names (map listed_of c.args.headers.now)) c.new-singles.ensures.items

pub loop-index-preserved : goal.loop-index-preserved
loop-index-preserved c =
    let headers = c.args.headers.now in
    let i = c.loop-index.index in
    let item = c.index-headers-index.result in
    header_added c.loop-index.singles.items c.add_header.new.singles.items (listed_by_names (map listed_of headers))
    item (drop i headers) (drop (i + 1) headers)
    (drop_item headers i item c.loop-index-test.true c.index-headers-index.is) c.in_ok-add_header.ensures
    c.loop-index.invariant

pub returns : goal.returns
returns c =
    let headers = c.args.headers.now in
    let i = c.loop-index.index in
    headers_added c.loop-index.singles.items (listed_by_names (map listed_of headers)) (drop i headers)
    (drop_all headers i c.loop-index-test.false) c.loop-index.invariant
