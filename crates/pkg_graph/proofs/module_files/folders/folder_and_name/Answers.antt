use Rattle.pkg_graph.proofs.ModuleFiles.PieceLaws.{split_at_slash, split_at_other}
use Rattle.pkg_graph.proofs.module_files.folders.folder_and_name.Goals.{then-byte-eq47, else-byte-eq47}
use Rattle.pkg_graph.proofs.module_files.folders.folder_and_name.Goals as goal

pub loop-i-preserved : goal.loop-i-preserved
loop-i-preserved c =
    let path = c.args.path.now in
    let i = c.loop-i.i in
    elim c.if-byte-eq47.branch [
      | then-byte-eq47 w ↦ rw (w.end-is, w.start-is) (split_at_slash path i c.loop-i-test.true w.if-byte-eq47.true)
      | else-byte-eq47 w ↦ rw (w.end-is, w.start-is) (split_at_other path i c.loop-i.end c.loop-i.start c.loop-i-test.true w.if-byte-eq47.false c.loop-i.invariant)
    ]
