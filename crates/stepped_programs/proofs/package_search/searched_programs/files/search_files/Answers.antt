use Rattle.std.proofs.Common.{◌∙◌, ◌<◌, sym, ap, refl, length, slice_set, subst, true, arith, List}
use Rattle.file_tables.specs.Blocks.{HasOwnTable}
use Rattle.file_tables.specs.declared.blocks.Block.{Block}
use Rattle.stepped_programs.specs.PackageSearch.Search.{LookAt}
use Rattle.stepped_programs.proofs.PackageSearch.Settled.{more_before, look_there}
use Rattle.programs.specs.Users.{AreItsUses}
use Rattle.repeated_parts.specs.declared.use_search.search.FoundObstacle.{FoundObstacle}
use Rattle.stepped_programs.proofs.PackageSearch.SearchedPrograms.Users.{keeps_self, keeps_on}
use Rattle.stepped_programs.proofs.PackageSearch.SearchedPrograms.Settling.{same_settled, one_settled}
use Rattle.stepped_programs.proofs.package_search.searched_programs.files.search_files.Goals as goal

pub loop-file-init : goal.loop-file-init
loop-file-init c =
    record {
      block = c.in_ok-block.ensures.block.names;
      table = c.in_ok-block.ensures.block.table;
      settled = same_settled c.args.program.now c.args.number c.args.home.now c.args.tokens.now c.args.users.now c.args.settled.now;
      keeps = keeps_self c.args.users.now;
      before = λ i l. absurd (omega (arith, l));
    }

pub returns-in-Some-clause-search : goal.returns-in-Some-clause-search
returns-in-Some-clause-search c =
    record {
      settled = c.loop-file.invariant.settled;
      first =
          record {
            seen = c.in_ok-look.look;
            look =
                look_there c.args.program.now c.args.number c.args.home.now c.args.tokens.now c.items-source-items.result.now c.loop-file.file c.source-item.result
                c.index-tokens-file.result c.loop-file.block.names c.in_ok-look.look c.items-source-items.ensures c.loop-file-test.true c.source-item.is c.requires.tokens
                c.index-tokens-file.is c.loop-file.invariant.block c.in_ok-look.ensures.look;
            is_free = c.in-Some.is;
            tables_are = refl;
            before = c.loop-file.invariant.before;
          };
    }

pub loop-file-preserved : goal.loop-file-preserved
loop-file-preserved c =
    let h : c.loop-file.file < length c.loop-file.settled =
    omega (arith, c.loop-file-test.true, c.loop-file.invariant.settled.size, c.requires.settled, ap length c.items-source-items.ensures) in
    let look : LookAt c.args.program.now c.args.number c.args.home.now c.args.tokens.now c.loop-file.file c.in_ok-look.look =
    look_there c.args.program.now c.args.number c.args.home.now c.args.tokens.now c.items-source-items.result.now c.loop-file.file c.source-item.result
    c.index-tokens-file.result c.loop-file.block.names c.in_ok-look.look c.items-source-items.ensures c.loop-file-test.true c.source-item.is c.requires.tokens
    c.index-tokens-file.is c.loop-file.invariant.block c.in_ok-look.ensures.look in
    let used : AreItsUses c.add_users.new.users (c.args.number, c.loop-file.file) c.in_ok-look.look.kept.items =
    subst (λ (ks : List FoundObstacle). AreItsUses c.add_users.new.users (c.args.number, c.loop-file.file) ks) c.deref.ensures.value c.in_ok-add_users.ensures.used in
    record {
      block = ap (λ (b : Block). b.names) (c.in_tables-block.ensures ∙ c.in_ok-look.ensures.block) ∙ c.loop-file.invariant.block;
      table = subst HasOwnTable (sym (c.in_tables-block.ensures ∙ c.in_ok-look.ensures.block)) c.loop-file.invariant.table;
      settled =
          one_settled c.args.program.now c.args.number c.args.home.now c.args.tokens.now c.loop-file.users c.add_users.new.users c.args.settled.now c.loop-file.settled
          (slice_set c.loop-file.settled c.loop-file.file true) c.loop-file.file h refl c.in_ok-add_users.ensures.keeps
          (record { seen = c.in_ok-look.look; look = look; none_free = c.in_default.is; used = used }) c.loop-file.invariant.settled;
      keeps = keeps_on c.args.users.now c.loop-file.users c.add_users.new.users c.loop-file.invariant.keeps c.in_ok-add_users.ensures.keeps;
      before =
          more_before c.loop-file.settled (slice_set c.loop-file.settled c.loop-file.file true) c.loop-file.file h refl c.loop-file.invariant.before;
    }
