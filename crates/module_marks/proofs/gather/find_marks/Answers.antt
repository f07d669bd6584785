use Rattle.std.proofs.Common.{◌∙◌, ◌++◌, ap, map, refl}
use Rattle.pkg_graph.specs.Views.{package_view}
use Rattle.run_rules.specs.Programs.{numbered, numbered_from}
use Rattle.run_rules.specs.Marks.{files_marks, packages_marks, files_bad, bad_of}
use Rattle.file_names.proofs.Walks.{one_listed, all_listed}
use Rattle.module_marks.specs.Views.{mark_ref_of, bad_at_of, texts_of}
use Rattle.module_marks.proofs.FileLaws.{same_marks, same_bad}
use Rattle.module_marks.proofs.gather.find_marks.Goals as goal

pub loop-number-preserved : goal.loop-number-preserved
loop-number-preserved c =
    let ps = map package_view c.args.packages.now in
    let texts = texts_of c.args.files.now in
    record {
      good =
          one_listed (λ i xs. packages_marks ps texts (numbered_from i (map package_view xs)))
          (λ i x. files_marks ps texts i (package_view x) (numbered (package_view x).files)) (λ i x xs. refl)
          c.args.packages.now c.loop-number.number c.index-packages-number.result (map mark_ref_of c.loop-number.list.good.items)
          (map mark_ref_of c.add_package.new.list.good.items) _ c.loop-number-test.true c.index-packages-number.is
          (c.in_ok-add_package.ensures.good
          ∙ ap (λ r. map mark_ref_of c.loop-number.list.good.items ++ r)
          (same_marks (map package_view c.in_ok-sources.sources.packages.now) ps (texts_of c.in_ok-sources.sources.files.now) texts
          (ap (map package_view) c.in_ok-sources.ensures.packages) (ap texts_of c.in_ok-sources.ensures.files)
          (package_view c.index-packages-number.result) c.loop-number.number
          (numbered (package_view c.index-packages-number.result).files)))
          c.loop-number.invariant.good;
      bad =
          one_listed (λ i xs. bad_of ps texts (map package_view xs))
          (λ i x. files_bad ps texts (package_view x) (package_view x).files) (λ i x xs. refl)
          c.args.packages.now c.loop-number.number c.index-packages-number.result (map bad_at_of c.loop-number.list.bad.items)
          (map bad_at_of c.add_package.new.list.bad.items) _ c.loop-number-test.true c.index-packages-number.is
          (c.in_ok-add_package.ensures.bad
          ∙ ap (λ r. map bad_at_of c.loop-number.list.bad.items ++ r)
          (same_bad (map package_view c.in_ok-sources.sources.packages.now) ps (texts_of c.in_ok-sources.sources.files.now) texts
          (ap (map package_view) c.in_ok-sources.ensures.packages) (ap texts_of c.in_ok-sources.ensures.files)
          (package_view c.index-packages-number.result) (package_view c.index-packages-number.result).files))
          c.loop-number.invariant.bad;
    }

pub returns-clause-good : goal.returns-clause-good
returns-clause-good c =
    let ps = map package_view c.args.packages.now in
    let texts = texts_of c.args.files.now in
    all_listed (λ i xs. packages_marks ps texts (numbered_from i (map package_view xs))) (λ i. refl) c.args.packages.now
    c.loop-number.number (map mark_ref_of c.loop-number.list.good.items) _ c.loop-number-test.false c.loop-number.invariant.good

pub returns-clause-bad : goal.returns-clause-bad
returns-clause-bad c =
    let ps = map package_view c.args.packages.now in
    let texts = texts_of c.args.files.now in
    all_listed (λ i xs. bad_of ps texts (map package_view xs)) (λ i. refl) c.args.packages.now
    c.loop-number.number (map bad_at_of c.loop-number.list.bad.items) _ c.loop-number-test.false c.loop-number.invariant.bad
