use Rattle.std.proofs.Common.{◌∙◌, map, option_copied, sym, ap}
use Rattle.go_tree.specs.FileView.{decl_of}
use Rattle.programs.specs.OriginsOfUses.Origins.{decls_origin}
use Rattle.stepped_programs.proofs.run_reports.program_uses.file_origins.Goals as goal

pub returns : goal.returns
returns c =
    record {
      origins = c.in-Some.origins.now;
      there = sym c.origins_at.ensures ∙ ap option_copied c.in-Some.is;
      told = λ q.
          c.in_ok-table.ensures q ∙ (λ v. decls_origin q (map decl_of (c.items.ensures v)) (map (λ o. o.items) (c.deref.ensures.value v)));
    }
