use Rattle.std.proofs.Common.{◌∙◌, List, ℕ, refl, sym, ap, subst, option_copied, arith}
use Rattle.pkg_graph.specs.declared.packages.SourceTree.{SourceTree}
use Rattle.file_tables.specs.Blocks.{HasOwnTable}
use Rattle.file_tables.specs.declared.blocks.Block.{Block}
use Rattle.run_rules.specs.Programs.{numbered}
use Rattle.stepped_programs.specs.RunReports.Kept.{IsFileTold}
use Rattle.stepped_programs.specs.RunReports.Rows.{InTurn}
use Rattle.stepped_programs.proofs.RunReports.Made.{source_there}
use Rattle.stepped_programs.proofs.RunReports.Turns.{turns_begin, number_more, number_all}
use Rattle.stepped_programs.proofs.run_reports.program_uses.add_package.Goals as goal

pub loop-file-init : goal.loop-file-init
loop-file-init c =
    record {
      same = refl;
      table = c.in_ok-block.ensures.table;
      rows = turns_begin (IsFileTold c.args.program.now c.args.files.now c.args.number c.in_ok-block.block.names) (numbered c.items-source-items.result.now) c.args.rows.now.items;
    }

pub add_file-requires-clause-there : goal.add_file-requires-clause-there
add_file-requires-clause-there c =
    source_there c.args.program.now c.args.number c.loop-file.file c.in-Some.home.now c.items-source-items.result.now c.source-item.result
    (sym c.package_at.ensures ∙ ap option_copied c.in-Some.is) c.items-source-items.ensures c.loop-file-test.true c.source-item.is

pub loop-file-preserved : goal.loop-file-preserved
loop-file-preserved c =
    record {
      same = ap (λ (b : Block). b.names) c.in_ok-block-2.ensures.block ∙ c.loop-file.invariant.same;
      table = subst HasOwnTable (sym c.in_ok-block-2.ensures.block) c.loop-file.invariant.table;
      rows =
          number_more (IsFileTold c.args.program.now c.args.files.now c.args.number c.in_ok-block.block.names) c.items-source-items.result.now c.loop-file.file c.source-item.result
          c.args.rows.now.items c.loop-file.rows.items c.add_file.new.rows.items c.loop-file-test.true c.source-item.is c.loop-file.invariant.rows
          (subst (λ (names : List (List ℕ)). IsFileTold c.args.program.now c.args.files.now c.args.number names (c.loop-file.file, c.source-item.result) c.loop-file.rows.items c.add_file.new.rows.items)
          c.loop-file.invariant.same c.in_ok-block-2.ensures.rows);
    }

pub returns : goal.returns
returns c =
    record {
      home = c.in-Some.home.now;
      home_is = sym c.package_at.ensures ∙ ap option_copied c.in-Some.is;
      block = c.in_ok-block.block.names;
      block_is = c.in_ok-block.ensures.names;
      files =
          subst (λ (fs : List SourceTree). InTurn (IsFileTold c.args.program.now c.args.files.now c.args.number c.in_ok-block.block.names) (numbered fs) c.args.rows.now.items c.loop-file.rows.items)
          c.items-source-items.ensures
          (number_all (IsFileTold c.args.program.now c.args.files.now c.args.number c.in_ok-block.block.names) c.items-source-items.result.now c.loop-file.file c.args.rows.now.items
          c.loop-file.rows.items (omega (arith, c.loop-file-test.false)) c.loop-file.invariant.rows);
    }
