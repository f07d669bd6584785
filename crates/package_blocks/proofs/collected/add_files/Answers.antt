use Rattle.std.proofs.Common.{◌≡◌, ◌+◌, suc, ap, arith, drop, map, subst}
use Rattle.go_tree.specs.FileView.{decl_of}
use Rattle.typed_names.proofs.TypeExprs.NewNames.{drop_all, drop_item}
use Rattle.package_blocks.specs.Headers.{FilesAdded}
use Rattle.package_blocks.specs.Collected.{decls_in}
use Rattle.package_blocks.proofs.HeaderLemmas.{files_all, files_none, files_one}
use Rattle.package_blocks.proofs.collected.add_files.Goals as goal

pub loop-i-init : goal.loop-i-init
loop-i-init c =
    let z : c.args.first + 0 ≡ c.args.first = omega arith in
    files_none c.args.home c.args.first (decls_in c.args.files.now) c.args.blocks.now c.args.headers.now.items
    (c.args.first + 0) z

pub loop-i-preserved : goal.loop-i-preserved
loop-i-preserved c =
    let files = c.args.files.now in
    let i = c.loop-i.i in
    let item = c.index-files-i.result in
    let z : suc (c.args.first + i) ≡ c.args.first + (i + 1) = omega arith in
    subst
    (λ n. FilesAdded c.args.home c.args.first n (decls_in files) (decls_in (drop (i + 1) files)) c.args.blocks.now
    c.add_decls.new.blocks c.args.headers.now.items c.add_decls.new.headers.items)
    z
    (files_one c.args.home c.args.first (decls_in files) c.args.blocks.now c.args.headers.now.items
    (map decl_of item.tree.decls) (decls_in (drop (i + 1) files)) (decls_in (drop i files)) (c.args.first + i)
    c.loop-i.blocks c.add_decls.new.blocks c.loop-i.headers.items c.add_decls.new.headers.items
    (ap decls_in (drop_item files i item c.loop-i-test.true c.index-files-i.is)) c.loop-i.invariant c.in_ok-add_decls.ensures)

pub returns : goal.returns
returns c =
    let files = c.args.files.now in
    let i = c.loop-i.i in
    files_all c.args.home c.args.first (decls_in files) c.args.blocks.now c.args.headers.now.items (decls_in (drop i files))
    (c.args.first + i) c.loop-i.blocks c.loop-i.headers.items (ap decls_in (drop_all files i c.loop-i-test.false))
    c.loop-i.invariant
