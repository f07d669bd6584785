use Rattle.repeated_parts.proofs.UseSearch.Answered.{answered}
use Rattle.repeated_parts.proofs.use_search.answers.answer.Goals as goal

pub returns : goal.returns
returns c = answered c.args.program.now c.args.file.now c.args.use_.now c.in-Some.told c.in_ok-r.r c.in-Some.ensures c.in_ok-r.ensures
