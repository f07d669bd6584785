use Rattle.std.proofs.Common.{map, ◌∙◌}
use Rattle.std.proofs.lemmas.Option.{none-some}
use Rattle.go_tree.specs.View.{expr_of}
use Rattle.member_uses.specs.PossibleUses.Views.{part_of}
use Rattle.stepped_programs.proofs.PackageSearch.FileSteps.Told.{unused_told}
use Rattle.stepped_programs.proofs.package_search.file_steps.step.left_unused.Goals as goal

pub returns-in_default : goal.returns-in_default
returns-in_default c = λ marks st f e h t. absurd (none-some e (c.in_default.ensures ∙ h))

pub returns : goal.returns
returns c =
    unused_told c.args.file.now (map part_of c.args.parts.now) c.args.form.now c.in_ok-specs.specs.items (expr_of c.in-Some.use_.now) c.in-Some.ensures
    c.in_ok-specs.ensures
