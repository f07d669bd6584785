use Rattle.std.proofs.Common.{◌-◌, sym, take, drop}
use Rattle.pkg_graph.proofs.ModuleFiles.SelectionLaws.{between, front_slash, front_out, front_other}
use Rattle.pkg_graph.proofs.module_files.selection.are_folders_read.Goals.{then-byte-eq47+else-not-is_read_folder, else-byte-eq47}
use Rattle.pkg_graph.proofs.module_files.selection.are_folders_read.Goals as goal

pub returns-then-not-is_read_folder : goal.returns-then-not-is_read_folder
returns-then-not-is_read_folder c = front_out c.args.modules.now c.args.path.now c.loop-i.i c.loop-i.start c.loop-i-test.true (take (c.loop-i.i - c.loop-i.start) (drop c.loop-i.start c.args.path.now)) c.if-byte-eq47.true c.loop-i.invariant (between c.args.path.now c.loop-i.i c.loop-i.start c.loop-i.invariant.start_in) (sym c.if-not-is_read_folder.ensures)

pub loop-i-preserved : goal.loop-i-preserved
loop-i-preserved c =
    let modules = c.args.modules.now in
    let path = c.args.path.now in
    let i = c.loop-i.i in
    elim c.if-byte-eq47.branch [
      | then-byte-eq47+else-not-is_read_folder w ↦ rw (w.start-is) (front_slash modules path i c.loop-i.start c.loop-i-test.true (take (i - c.loop-i.start) (drop c.loop-i.start path)) w.if-byte-eq47.true c.loop-i.invariant (between path i c.loop-i.start c.loop-i.invariant.start_in) (sym w.if-not-is_read_folder.ensures))
      | else-byte-eq47 w ↦ rw (w.start-is) (front_other modules path i c.loop-i.start c.loop-i-test.true w.if-byte-eq47.false c.loop-i.invariant)
    ]
