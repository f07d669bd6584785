use Rattle.std.proofs.Common.{length, arith}
use Rattle.type_table.proofs.InternLaws.{more_parts}
use Rattle.type_table.proofs.type_relations.env.Env.node.Goals as goal

pub returns-clause-parts : goal.returns-clause-parts
returns-clause-parts c =
    more_parts c.args.t.0 (length c.args.self.now.rows) (omega (arith, c.requires)) c.node.result.now c.node.ensures.parts
