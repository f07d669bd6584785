use Rattle.type_table.proofs.InternLaws.{row_answer}
use Rattle.type_table.proofs.same.TypeNodePartialEq.eq.Goals as goal

pub returns : goal.returns
returns c = row_answer c.args.self.now c.args.other.now c.same_node.result c.same_node.ensures
