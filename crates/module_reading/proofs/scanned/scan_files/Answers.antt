use Rattle.std.proofs.Common.{◌≡◌, ◌∙◌, arith, sym, subst, ◌+◌, length, take}
use Rattle.module_texts.specs.Files.{AreScanned, go_files}
use Rattle.module_reading.proofs.ScanningLemmas.{all_scanned, before_count, scan_refused, scanned_more}
use Rattle.module_reading.proofs.scanned.scan_files.Goals as goal

pub overflow_cast-number : goal.overflow_cast-number
overflow_cast-number c =
    let within = before_count c.args.files.now c.loop-file.file-index c.loop-file.list.items c.loop-file-test.true c.loop-file.invariant in
    let size = c.len-number.ensures in
    let count = c.requires.count in
    let inside = c.loop-file-test.true in
    omega (arith, within, size, count, inside)

pub returns-in-Err-clause-refused : goal.returns-in-Err-clause-refused
returns-in-Err-clause-refused c =
    let size = c.len-number.ensures in
    let count : c.len-number.result ≡ length c.loop-file.list.items = omega (arith, size) in
    scan_refused c.args.files.now c.loop-file.file-index c.file-item.result c.loop-file.list.items c.len-number.result c.in-Err.fault
    c.loop-file-test.true c.file-item.is (sym c.is_go_file.ensures ∙ c.if-not-is_go_file.false) c.loop-file.invariant count c.in-Err.ensures.refused

pub loop-file-preserved : goal.loop-file-preserved
loop-file-preserved c =
    subst (AreScanned (go_files (take (c.loop-file.file-index + 1) c.args.files.now))) (sym c.in_ok-push.ensures.items)
    (scanned_more c.args.files.now c.loop-file.file-index c.file-item.result c.loop-file.list.items c.in-Ok.scanned c.loop-file-test.true c.file-item.is (sym c.is_go_file.ensures ∙ c.if-not-is_go_file.false) c.in-Ok.ensures.same c.in-Ok.ensures.scanned c.loop-file.invariant)

pub returns-clause-scanned : goal.returns-clause-scanned
returns-clause-scanned c = all_scanned c.args.files.now c.loop-file.file-index c.loop-file.list.items c.loop-file-test.false c.loop-file.invariant
