use Rattle.std.proofs.Common.{◌∙◌, ap, sym}
use Rattle.operator_rules.specs.AccessRules.Functions.{types_at}
use Rattle.statement_walk.proofs.FunctionLiterals.LiteralLemmas.{results_at}
use Rattle.statement_walk.proofs.function_literals.signatures.literal_body.Goals as goal

pub returns-clause-is : goal.returns-clause-is
returns-clause-is c =
    λ e.
    record {
      results = results_at e c.args.of.now.results ∙ ap (types_at e) (sym c.in_ok-results.ensures);
      named = sym c.has_names-named.ensures;
    }
