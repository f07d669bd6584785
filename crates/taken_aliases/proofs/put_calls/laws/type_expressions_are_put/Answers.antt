use Rattle.run_rules.specs.Run.{here_of}
use Rattle.run_rules.specs.Programs.{decl_seen}
use Rattle.run_rules.specs.Surroundings.{seen}
use Rattle.taken_aliases.proofs.PutCalls.ExprsPut.{among-of, expr-put}
use Rattle.taken_aliases.proofs.put_calls.laws.type_expressions_are_put.Goals as goal

pub returns : goal.returns
returns c = λ text tree reads undotted ps k of file i d there p u old is_seen none name z y new formed laid.
    expr-put here_of text tree reads undotted ps k of file i d there p u old (among-of (decl_seen ps k of file d) (seen p u old) is_seen) none name z y new formed laid
