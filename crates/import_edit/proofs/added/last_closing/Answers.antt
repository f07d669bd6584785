use Rattle.std.proofs.Common.{◌<◌, length, arith}
use Rattle.std.proofs.lemmas.Bool.Decides.{nat_tests}
use Rattle.import_edit.proofs.SettleLaws.{last_closes, last_fits}
use Rattle.import_edit.proofs.added.last_closing.Goals as goal

pub overflow_sub-result-else-is_empty : goal.overflow_sub-result-else-is_empty
overflow_sub-result-else-is_empty c =
    let ds = c.args.decls.now in
    let lt : 0 < length ds = grind (arith, nat_tests, c.is_empty.ensures, c.if-is_empty.false) in
    (last_fits (length c.args.text.now) ds c.index-decls-decls.result lt c.requires).0

pub returns-else-is_empty : goal.returns-else-is_empty
returns-else-is_empty c =
    let ds = c.args.decls.now in
    let lt : 0 < length ds = grind (arith, nat_tests, c.is_empty.ensures, c.if-is_empty.false) in
    last_closes ds c.index-decls-decls.result lt
