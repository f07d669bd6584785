use Rattle.std.proofs.Common.{◌∙◌, ◌++◌, ap, map, refl}
use Rattle.pkg_graph.specs.Views.{package_view, source_of}
use Rattle.run_rules.specs.Programs.{numbered_from}
use Rattle.run_rules.specs.Marks.{file_marks, files_marks, file_bad, files_bad}
use Rattle.file_names.specs.declared.members.Member.{Member}
use Rattle.file_names.proofs.MemberLaws.{block_named}
use Rattle.file_names.proofs.Walks.{one_listed}
use Rattle.module_marks.specs.Views.{mark_ref_of, bad_at_of, texts_of}
use Rattle.module_marks.proofs.gather.add_package.Goals as goal

pub loop-file-init : goal.loop-file-init
loop-file-init c =
    let ps = map package_view c.args.sources.now.packages.now in
    let texts = texts_of c.args.sources.now.files.now in
    let home = package_view c.args.home.now in
    record {
      block =
          c.in_ok-block.ensures ∙ ap (map (λ (m : Member). m.name)) c.deref.ensures.value
          ∙ block_named c.args.number home c.in_ok-members.members.items c.in_ok-members.ensures;
      good =
          ap (λ fs. map mark_ref_of c.args.list.now.good.items ++ files_marks ps texts c.args.number home (numbered_from 0 (map source_of fs)))
          c.items-source-items.ensures;
      bad =
          ap (λ fs. map bad_at_of c.args.list.now.bad.items ++ files_bad ps texts home (map source_of fs))
          c.items-source-items.ensures;
    }

pub loop-file-preserved : goal.loop-file-preserved
loop-file-preserved c =
    let ps = map package_view c.args.sources.now.packages.now in
    let texts = texts_of c.args.sources.now.files.now in
    let home = package_view c.args.home.now in
    record {
      block = c.in_ok-block-2.ensures.block ∙ c.loop-file.invariant.block;
      good =
          one_listed (λ i xs. files_marks ps texts c.args.number home (numbered_from i (map source_of xs)))
          (λ i x. file_marks ps texts c.args.number home (i, source_of x)) (λ i x xs. refl)
          c.items-source-items.result.now c.loop-file.file c.source-item.result (map mark_ref_of c.loop-file.list.good.items)
          (map mark_ref_of c.add_file.new.list.good.items) _ c.loop-file-test.true c.source-item.is
          (c.in_ok-block-2.ensures.good home c.loop-file.invariant.block) c.loop-file.invariant.good;
      bad =
          one_listed (λ i xs. files_bad ps texts home (map source_of xs))
          (λ i x. file_bad ps texts home (source_of x)) (λ i x xs. refl)
          c.items-source-items.result.now c.loop-file.file c.source-item.result (map bad_at_of c.loop-file.list.bad.items)
          (map bad_at_of c.add_file.new.list.bad.items) _ c.loop-file-test.true c.source-item.is
          (c.in_ok-block-2.ensures.bad home c.loop-file.invariant.block) c.loop-file.invariant.bad;
    }
