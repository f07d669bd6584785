use Rattle.std.proofs.Common.{◌∙◌, ap}
use Rattle.go_tree.specs.FileView.{func_of}
use Rattle.names_within.specs.FileWalk.{after_func}
use Rattle.names_within.proofs.FilesFound.{binders_found}
use Rattle.names_within.proofs.calls.binders.Goals as goal

pub returns : goal.returns
returns c =
    let f = func_of c.args.f.now in
    c.of.ensures ∙ c.found.ensures ∙ ap (λ w. w.found) (c.in_ok-func_names.ensures ∙ ap (after_func f) c.new-names.ensures) ∙ binders_found f
