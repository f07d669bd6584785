use Rattle.std.proofs.Common.{◌∙◌, sym}
use Rattle.directive_scan.proofs.AroundLaws.{import_is}
use Rattle.directive_scan.proofs.around.Around.is_import.Goals as goal

pub returns : goal.returns
returns c = c.has.ensures ∙ c.requires.imports_are c.args.name.now ∙ sym (import_is c.args.self.now.names.now c.args.name.now)
