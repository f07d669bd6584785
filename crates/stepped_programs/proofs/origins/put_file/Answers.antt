use Rattle.std.proofs.Common.{◌∙◌, refl, sym, ap, Some}
use Rattle.programs.specs.declared.part_origins.origins.Origins.{Origins}
use Rattle.stepped_programs.proofs.SearchedSites.KeptPrograms.Kept.{got}
use Rattle.stepped_programs.proofs.origins.put_file.Goals as goal

pub returns : goal.returns
returns c =
    record {
      was = c.index_mut.result.now;
      was_is = got c.args.home.now.files.items c.args.file c.index_mut.result.now c.requires.there ∙ ap (λ (o : Origins). Some o) (sym c.index_mut.ensures.value);
      now = c.put_decl.new.own;
      put = refl;
      decl = c.put_decl.ensures;
    }
