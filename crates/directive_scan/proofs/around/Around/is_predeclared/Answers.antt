use Rattle.directive_scan.proofs.AroundLaws.{predeclared_is}
use Rattle.directive_scan.proofs.around.Around.is_predeclared.Goals as goal

pub returns : goal.returns
returns c =
    let imported = c.requires.imports_are c.args.name.now in
    let declared = c.requires.members_are c.args.name.now in
    let meant = predeclared_is c.args.self.now.names.now c.args.name.now in
    cc
