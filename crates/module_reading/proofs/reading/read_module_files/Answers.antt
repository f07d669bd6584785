use Rattle.std.proofs.Common.{ap, arith, length, subst}
use Rattle.pkg_graph.specs.Reads.{AreTrees}
use Rattle.pkg_graph.specs.Views.{sources_of}
use Rattle.run_rules.specs.Inlining.{IsSourceFile}
use Rattle.module_texts.specs.Files as files
use Rattle.module_texts.proofs.RefusedLemmas.{packages_refuse, scan_refuses, shallow_are, texts_alike, trees_refuse, words_are, words_refuse}
use Rattle.module_reading.proofs.ScanningLemmas.{scanned_count}
use Rattle.module_reading.proofs.TreeLemmas.{trees_length, trees_of}
use Rattle.module_reading.proofs.reading.read_module_files.Goals as goal

pub returns-in-Err-scan_files-clause-refused : goal.returns-in-Err-scan_files-clause-refused
returns-in-Err-scan_files-clause-refused c =
    scan_refuses c.args.files.now c.in-Ok.home.path c.in-Ok.ensures.found c.in-Err-scan_files.fault c.in-Err-scan_files.ensures.refused

pub check_tokens-requires-clause-count : goal.check_tokens-requires-clause-count
check_tokens-requires-clause-count c =
    let within = scanned_count c.args.files.now c.in-Ok-scan_files.files.items c.in-Ok-scan_files.ensures.scanned in
    let same = ap length c.deref.ensures.value in
    let count = c.requires.count in
    omega (arith, within, same, count)

pub returns-in-Err-check_tokens-clause-refused : goal.returns-in-Err-check_tokens-clause-refused
returns-in-Err-check_tokens-clause-refused c =
    words_refuse c.args.files.now c.in-Ok.home.path c.in-Ok.ensures.found c.in-Ok-scan_files.files.items c.in-Ok-scan_files.ensures.scanned
    c.in-Err-check_tokens.fault (rw c.deref.ensures.value at c.in-Err-check_tokens.ensures.refused)

pub parse_files-requires-clause-count : goal.parse_files-requires-clause-count
parse_files-requires-clause-count c =
    let within = scanned_count c.args.files.now c.in-Ok-scan_files.files.items c.in-Ok-scan_files.ensures.scanned in
    let same = ap length c.deref-2.ensures.value in
    let count = c.requires.count in
    omega (arith, within, same, count)

pub returns-in-Err-parse_files-clause-refused : goal.returns-in-Err-parse_files-clause-refused
returns-in-Err-parse_files-clause-refused c =
    trees_refuse c.args.files.now c.in-Ok.home.path c.in-Ok.ensures.found c.in-Ok-scan_files.files.items c.in-Ok-scan_files.ensures.scanned
    c.in-Err-parse_files.fault (rw c.deref.ensures.value at c.in_default.ensures.words) (rw c.deref.ensures.value at c.in_default.ensures.shallow) (rw c.deref-2.ensures.value at c.in-Err-parse_files.ensures.refused)

pub build-requires : goal.build-requires
build-requires c =
    let within = scanned_count c.args.files.now c.in-Ok-scan_files.files.items c.in-Ok-scan_files.ensures.scanned in
    let same = trees_length c.in-Ok-scan_files.files.items c.in-Ok-parse_files.trees.items (rw c.deref-2.ensures.value at c.in-Ok-parse_files.ensures.read) in
    let count = c.requires.count in
    omega (arith, within, same, count)

pub returns-in-Ok-build-clause-read : goal.returns-in-Ok-build-clause-read
returns-in-Ok-build-clause-read c =
    let list = c.in-Ok-scan_files.files.items in
    let trees = c.in-Ok-parse_files.trees.items in
    let scanned = c.in-Ok-scan_files.ensures.scanned in
    record {
      path_is = c.in-Ok.ensures.found;
      scanned = scanned;
      words = rw c.deref.ensures.value at c.in_default.ensures.words;
      shallow = rw c.deref.ensures.value at c.in_default.ensures.shallow;
      trees = sources_of trees;
      trees_are = subst (λ fs. AreTrees IsSourceFile fs (sources_of trees)) (texts_alike c.args.files.now list scanned)
          (trees_of list trees (rw c.deref-2.ensures.value at c.in-Ok-parse_files.ensures.read) scanned.scans);
      packages_are = c.in-Ok-build.ensures.packages;
      order_is = c.in-Ok-build.ensures.order;
      links = c.in-Ok-build.ensures.links;
    }

pub returns-clause-refused : goal.returns-clause-refused
returns-clause-refused c =
    let found = c.in-Ok.ensures.found in
    let list = c.in-Ok-scan_files.files.items in
    let trees = c.in-Ok-parse_files.trees.items in
    let scanned = c.in-Ok-scan_files.ensures.scanned in
    packages_refuse (files.sources_of c.args.files.now) c.in-Ok.home.path (sources_of trees) found
    (subst (λ fs. AreTrees IsSourceFile fs (sources_of trees)) (texts_alike c.args.files.now list scanned)
    (trees_of list trees (rw c.deref-2.ensures.value at c.in-Ok-parse_files.ensures.read) scanned.scans))
    (words_are c.args.files.now c.in-Ok.home.path found list scanned (rw c.deref.ensures.value at c.in_default.ensures.words))
    (shallow_are c.args.files.now c.in-Ok.home.path found list scanned (rw c.deref.ensures.value at c.in_default.ensures.shallow))
    c.in-Err-build.error c.in-Err-build.ensures.cause
