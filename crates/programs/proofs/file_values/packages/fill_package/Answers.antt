use Rattle.std.proofs.Common.{◌≡◌, ◌∙◌, ap, sym, refl, subst, map, Some, arith, List, length}
use Rattle.std.proofs.lemmas.Option.{slice_get_within}
use Rattle.std.specs.Prelude.{slice_get}
use Rattle.pkg_graph.specs.Views.{package_view}
use Rattle.pkg_graph.specs.declared.packages.SourceTree.{SourceTree}
use Rattle.file_names.specs.declared.members.Member.{Member}
use Rattle.file_names.proofs.MemberLaws.{block_named}
use Rattle.file_tables.specs.Blocks.{HasOwnTable}
use Rattle.file_tables.specs.declared.blocks.Block.{Block}
use Rattle.programs.proofs.FileValues.Filled.{got, one_file, others_on}
use Rattle.programs.proofs.file_values.packages.fill_package.Goals as goal

pub loop-file-init : goal.loop-file-init
loop-file-init c =
    record {
      block =
          c.in_ok-block.ensures.names ∙ c.in_ok-member_names.ensures ∙ ap (map (λ (m : Member). m.name)) c.deref.ensures.value
          ∙ block_named c.args.number (package_view c.args.home.now) c.in_ok-members.members.items c.in_ok-members.ensures;
      table = c.in_ok-block.ensures.table;
      here = λ i s l e. absurd (omega (arith, l));
      others = λ q e. refl;
    }

pub loop-file-preserved : goal.loop-file-preserved
loop-file-preserved c =
    let n = c.loop-file.file in
    let there : slice_get c.args.home.now.files n ≡ Some c.source-item.result =
    sym (ap (λ (fs : List SourceTree). slice_get fs n) c.items-source-items.ensures)
    ∙ got c.items-source-items.result.now n c.source-item.result c.loop-file-test.true c.source-item.is in
    record {
      block = ap (λ (b : Block). b.names) c.in_ok-block-2.ensures.block ∙ c.loop-file.invariant.block;
      table = subst HasOwnTable (sym c.in_ok-block-2.ensures.block) c.loop-file.invariant.table;
      here =
          one_file c.args.packages.now c.args.number c.args.home.now n c.source-item.result c.loop-file.values c.fill_source.new.values there
          (c.in_ok-block-2.ensures.here c.args.home.now c.loop-file.invariant.block) c.in_ok-block-2.ensures.others c.loop-file.invariant.here;
      others =
          others_on c.args.packages.now c.args.number c.args.home.now n c.args.values.now c.loop-file.values c.fill_source.new.values
          c.in_ok-block-2.ensures.others c.loop-file.invariant.others;
    }

pub returns-clause-here : goal.returns-clause-here
returns-clause-here c = λ i source e.
    c.loop-file.invariant.here i source
    (let h = slice_get_within c.args.home.now.files i source e in omega (arith, h, c.loop-file-test.false, ap length c.items-source-items.ensures)) e

pub returns-clause-others : goal.returns-clause-others
returns-clause-others c = c.loop-file.invariant.others
