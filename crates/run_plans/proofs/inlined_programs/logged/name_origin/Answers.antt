use Rattle.std.proofs.Common.{◌∙◌, map, sym}
use Rattle.go_tree.specs.FileView.{decl_of}
use Rattle.programs.specs.OriginsOfUses.Origins.{decls_origin}
use Rattle.run_plans.proofs.inlined_programs.logged.name_origin.Goals as goal

pub returns-in-Some : goal.returns-in-Some
returns-in-Some c =
    sym (c.in_ok-table.ensures c.args.name ∙ (λ v. decls_origin c.args.name (map decl_of (c.items.ensures v)) (map (λ o. o.items) (c.deref.ensures.value v)))) ∙ sym c.find.ensures
    ∙ c.in-Some.is
