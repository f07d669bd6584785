use Rattle.std.proofs.Common.{refl, get_or}
use Rattle.std.proofs.lemmas.Option.{slice_get_within}
use Rattle.stepped_programs.proofs.SearchedSites.KeptPrograms.Kept.{got}
use Rattle.stepped_programs.proofs.texts.put_text.Goals as goal

pub returns : goal.returns
returns c =
    let fs = c.args.files.now in
    let k = c.args.home in
    record {
      was = get_or fs k c.index-files-home.result;
      was_is = got fs k c.index-files-home.result (slice_get_within fs k c.requires.kept c.requires.kept_is);
      now = c.put_kept.new.kept;
      put = refl;
      file = c.put_kept.ensures;
    }
