use Rattle.std.proofs.Common.{◌∙◌, ◌++◌, ap, map, Bool, List}
use Rattle.member_uses.specs.PossibleUses.Views.{part_of}
use Rattle.member_uses.specs.Uses.{Used}
use Rattle.member_uses.specs.Views.{names_in}
use Rattle.repeated_parts.specs.UsesRepeated.Uses.{flagged_uses}
use Rattle.repeated_parts.specs.UsesRepeated.Views.{flagged_of}
use Rattle.repeated_parts.specs.UseSearch.UsesOfMarks.Uses.{placed_in}
use Rattle.repeated_parts.specs.UseSearch.UsesOfMarks.Views.{placed_of}
use Rattle.repeated_parts.proofs.use_search.uses_of_marks.uses.add_decl.Goals as goal

pub returns : goal.returns
returns c = λ ps marks h.
    let f = names_in c.args.scopes.now.file in
    c.in_ok-add_uses.ensures ps marks h
    ∙ ap (λ (us : List (Used × Bool)). map placed_of c.args.uses.now.items ++ placed_in ps marks c.args.number us)
    (ap (map flagged_of) c.deref-3.ensures.value ∙ c.in_ok-found.ensures
    ∙ (λ v. flagged_uses (λ s. s) f ((ap (map part_of) c.deref.ensures.value ∙ c.in_ok-parts.ensures) v) ((c.deref-2.ensures.value ∙ c.in_ok-flags.ensures) v)))
