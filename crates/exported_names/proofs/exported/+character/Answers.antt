use Rattle.std.proofs.Common.{◌<◌, length, arith, rules, ◌∙◌}
use Rattle.std.proofs.lemmas.Bool.Decides.{nat_tests}
use Rattle.exported_names.proofs.UpperLaws.{character_more}
use Rattle.exported_names.proofs.exported.+character.Goals as goal

pub returns : goal.returns
returns t c =
    let l : 0 < length c.args.bytes.now = grind (arith, nat_tests, c.if-is_empty.ensures) in
    c.character.ensures
    ∙ character_more c.args.count c.args.bits c.from-more.result c.args.bytes.now (omega arith) l (search rules)
