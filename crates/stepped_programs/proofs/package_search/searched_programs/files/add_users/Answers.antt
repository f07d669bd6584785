use Rattle.std.proofs.Common.{arith}
use Rattle.stepped_programs.proofs.PackageSearch.SearchedPrograms.Users.{added_keeps, keeps_self, keeps_on, one_taken, all_taken}
use Rattle.stepped_programs.proofs.package_search.searched_programs.files.add_users.Goals as goal

pub loop-found-init : goal.loop-found-init
loop-found-init c = record { used = tt; keeps = keeps_self c.args.users.now }

pub loop-found-preserved : goal.loop-found-preserved
loop-found-preserved c =
    record {
      used =
          one_taken c.loop-found.users c.add.new.self c.args.file c.args.kept.now c.loop-found.found-index c.found-item.result c.loop-found-test.true
          c.found-item.is c.in_ok-add.ensures
          c.loop-found.invariant.used;
      keeps =
          keeps_on c.args.users.now c.loop-found.users c.add.new.self c.loop-found.invariant.keeps
          (added_keeps c.loop-found.users c.add.new.self _ c.args.file c.in_ok-add.ensures);
    }

pub returns-clause-used : goal.returns-clause-used
returns-clause-used c =
    all_taken c.loop-found.users c.args.file c.args.kept.now c.loop-found.found-index (omega (arith, c.loop-found-test.false)) c.loop-found.invariant.used
