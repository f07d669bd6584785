use Rattle.std.proofs.Common.{◌≡◌, ◌∙◌, ap, subst, List, Some}
use Rattle.std.specs.Prelude.{slice_get}
use Rattle.std.proofs.lemmas.Option.{get_or_from_slice_get}
use Rattle.pkg_graph.specs.declared.packages.Package.{Package}
use Rattle.pkg_graph.specs.declared.packages.SourceTree.{SourceTree}
use Rattle.programs.specs.FileValues.Filled.{HasFileValues}
use Rattle.stepped_programs.proofs.steps.put_values.Goals as goal

pub returns-clause-here : goal.returns-clause-here
returns-clause-here c = λ home source h s b.
    let ps = c.args.packages.now in
    let k = c.args.at.home in
    let i = c.args.at.file in
    let own : c.index-packages-at.result ≡ home = c.index-packages-at.is ∙ get_or_from_slice_get ps k home c.index-packages-at.result h in
    let there : slice_get c.items.result.now i ≡ Some source = ap (λ (fs : List SourceTree). slice_get fs i) (c.items.ensures ∙ ap (λ (p : Package). p.files) own) ∙ s in
    subst (λ (x : SourceTree). HasFileValues ps k home i x c.fill_source.new.values) (c.index-items-at.is ∙ get_or_from_slice_get c.items.result.now i source c.index-items-at.result there)
    (c.in_ok-block.ensures.here home b)
